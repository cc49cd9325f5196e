use Rattle.std.proofs.Common.{map, take}
use Rattle.std.specs.Io.KnownBytes.{Appends}
use Rattle.cmd_answer.specs.Written.{joined}
use Rattle.cmd_answer.proofs.writing.write_pieces.Given as goal

abbrev pub invariant-loop-piece : goal.invariant-loop-piece
invariant-loop-piece g l = Appends (g.O.Write.contents l.fn.out) (g.O.Write.contents l.out) (joined (map (λ p. p.now) (take l.piece-index l.pieces)))
