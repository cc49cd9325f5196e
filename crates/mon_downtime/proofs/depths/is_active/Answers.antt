use Rattle.std.proofs.Common.{sym}
use Rattle.mon_downtime.proofs.FateLemmas.{not_active}
use Rattle.mon_downtime.proofs.depths.is_active.Goals as goal

pub returns-in_default : goal.returns-in_default
returns-in_default c = sym (not_active c.args.fate c.in_default.not-Active)
