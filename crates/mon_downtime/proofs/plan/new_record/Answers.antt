use Rattle.std.proofs.Common.{refl}
use Rattle.mon_downtime.proofs.plan.new_record.Goals as goal

pub returns : goal.returns
returns c = refl
