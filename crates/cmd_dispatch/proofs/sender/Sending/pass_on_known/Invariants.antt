use Rattle.std.proofs.Common.{◌≡◌, List, ℕ, length}
use Rattle.cmd_lines.specs.declared.item.Item.{Item}
use Rattle.cmd_lines.specs.Reader.{Stands}
use Rattle.cmd_dispatch.specs.Sends.{HasPassedOn, IsGiving, IsCovered, IsWithin, HasRoom, ahead}
use Rattle.cmd_dispatch.proofs.sender.Sending.pass_on_known.Given as goal

abbrev pub invariant-items : goal.invariant-items
invariant-items g l = record {
  giving : (f : List ℕ) (given : List Item) → Stands l.fn.self.lines f given → HasPassedOn given (ahead l.fn.self) (g.P.Reporter.has_taken l.fn.self.report)
      → IsGiving f l.self.lines (ahead l.self) (g.P.Reporter.has_taken l.self.report);
  covered : IsCovered l.self.lines (ahead l.self);
  within : IsWithin l.self;
  room : HasRoom l.self;
  phase : l.self.lines.phase ≡ l.fn.self.lines.phase;
  fed : l.self.lines.fed ≡ l.fn.self.lines.fed;
  queue : (ahead l.self).queue ≡ (ahead l.fn.self).queue;
  sender : (ahead l.self).sender ≡ (ahead l.fn.self).sender;
}

abbrev pub decreases-items : goal.decreases-items
decreases-items g l = length l.self.lines.pending
