use Rattle.std.proofs.Common.{◌≡◌, ◌++◌, drop}
use Rattle.std.specs.List.{flat_map}
use Rattle.cmd_explain.specs.Meanings.{shown}
use Rattle.cmd_explain.proofs.pieces.put_pieces.Given as goal

abbrev pub invariant-loop-piece : goal.invariant-loop-piece
invariant-loop-piece l = l.out.items ++ flat_map shown (drop l.piece-index l.pieces) ≡ l.fn.out.items ++ flat_map shown l.pieces
