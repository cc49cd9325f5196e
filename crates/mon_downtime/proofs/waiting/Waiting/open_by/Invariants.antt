use Rattle.std.proofs.Common.{◌≡◌, drop}
use Rattle.mon_downtime.specs.Queue.{retired}
use Rattle.mon_downtime.specs.Waiting.{AreOpening}
use Rattle.mon_downtime.proofs.waiting.Waiting.open_by.Given as goal

abbrev pub invariant-loop-i : goal.invariant-loop-i
invariant-loop-i l = record {
  waiting : AreOpening l.records (drop l.i (retired l.count l.self.openings)) l.self;
  openings : l.self.openings ≡ l.initial.self.openings;
}
