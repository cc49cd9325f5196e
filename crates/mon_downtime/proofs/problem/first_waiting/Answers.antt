use Rattle.std.proofs.Common.{◌∙◌}
use Rattle.mon_downtime.proofs.RecordLemmas.{numbered}
use Rattle.mon_downtime.proofs.WalkLemmas.{first_open_waits}
use Rattle.mon_downtime.proofs.problem.first_waiting.Goals as goal

pub returns : goal.returns
returns c = c.find_record.ensures ∙ first_open_waits c.args.records.now c.args.object c.args.clock c.first_open.result (numbered 0 _ c.requires.records) c.first_open.ensures
