-- What stays true in the loop of `read_some`.
use Rattle.std.specs.Io.KnownBytes.{Keeps}
use Rattle.cmd_live.proofs.live.stream.read_some.Given as goal

abbrev pub invariant-reads : goal.invariant-reads
invariant-reads g l = Keeps (g.I.Read.remaining l.fn.stream) (g.I.Read.remaining l.stream)
