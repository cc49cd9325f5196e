use Rattle.std.proofs.Common.{◌≡◌, ◌≤◌, ◌*◌, length}
use Rattle.std.specs.Io.KnownBytes.{Consumes}
use Rattle.cmd_answer.specs.declared.reading.TheConstants.{PIECE}
use Rattle.cmd_answer.proofs.reading.read_all.Given as goal

abbrev pub invariant-reads : goal.invariant-reads
invariant-reads g l = record {
  consumed : Consumes (g.R.Read.remaining l.fn.input) (g.R.Read.remaining l.input) l.bytes.items;
  bound : length l.bytes.items ≤ l.counter * PIECE;
  end : l.reads ≡ l.fn.reads;
}
