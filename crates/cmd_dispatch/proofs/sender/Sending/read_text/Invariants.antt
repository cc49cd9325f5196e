use Rattle.std.proofs.Common.{◌≡◌, ◌≤◌, ◌*◌, true, false, length}
use Rattle.cmd_lines.specs.declared.phase.Phase.TheVariants.{Open}
use Rattle.cmd_options.specs.declared.options.TheConstants.{MOST_PIECE}
use Rattle.cmd_dispatch.specs.Sends.{IsFeeding, IsCovered, IsWithin, ahead}
use Rattle.cmd_dispatch.proofs.sender.Sending.read_text.Given as goal

abbrev pub invariant-reads : goal.invariant-reads
invariant-reads g l = record {
  feeding : IsFeeding (g.F.Feed.remaining l.fn.feed) (g.F.Feed.remaining l.feed) (g.F.Feed.fills l.fn.feed) l.fn.reading.piece l.counter l.self.lines (ahead l.self) (g.P.Reporter.has_taken l.self.report);
  steady : g.F.Feed.fails l.fn.feed ≡ false → g.F.Feed.fails l.feed ≡ false;
  filling : g.F.Feed.fills l.fn.feed ≡ true → g.F.Feed.fills l.feed ≡ true;
  opened : l.self.lines.phase ≡ Open;
  covered : IsCovered l.self.lines (ahead l.self);
  within : IsWithin l.self;
  few : l.self.lines.fed ≤ l.counter * MOST_PIECE;
  buffer : length l.buffer.items ≡ l.fn.reading.piece;
  end : l.end ≡ l.fn.reading.reads;
  queue : (ahead l.self).queue ≡ (ahead l.fn.self).queue;
  sender : (ahead l.self).sender ≡ (ahead l.fn.self).sender;
}
