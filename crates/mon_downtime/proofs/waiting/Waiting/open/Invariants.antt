use Rattle.std.proofs.Common.{drop}
use Rattle.mon_downtime.specs.Queue.{retired}
use Rattle.mon_downtime.specs.Rings.{is_in, next_of}
use Rattle.mon_downtime.specs.Waiting.{is_yet}
use Rattle.mon_downtime.proofs.WaitLemmas.{IsTurned}
use Rattle.mon_downtime.proofs.waiting.Waiting.open.Given as goal

abbrev pub invariant-loop-before : goal.invariant-loop-before
invariant-loop-before l = IsTurned (is_in l.records (is_yet l.records l.self.openings (drop l.i (retired l.count l.self.openings))) l.d.object) (next_of l.self.rings l.d.object) l.before l.id

abbrev pub decreases-loop-before : goal.decreases-loop-before
decreases-loop-before l = l.before
