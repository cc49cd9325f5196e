use Rattle.std.proofs.Common.{Bor, List, ℕ, sym, subst, [], arith}
use Rattle.std.specs.Io.KnownBytes.{Appends}
use Rattle.std.proofs.KnownBytes.{Appends-trans}
use Rattle.cmd_answer.proofs.WrittenLemmas.{joined_more, joined_part, part_on_err}
use Rattle.cmd_answer.proofs.writing.write_pieces.Goals as goal

pub returns-in_err-write_text-clause-part : goal.returns-in_err-write_text-clause-part
returns-in_err-write_text-clause-part g c =
    part_on_err c.from_residual.result (joined_part (λ (p : Bor (List ℕ)). p.now) c.args.pieces.now c.loop-piece.piece-index (record { ref_ptr = (0, 0); now = [] }) (omega (arith, c.loop-piece-test.true)) (g.O.Write.contents c.args.out.now) (g.O.Write.contents c.loop-piece.out) (g.O.Write.contents c.write_text.new.out) c.loop-piece.invariant c.in_err-write_text.ensures.part)

pub loop-piece-preserved : goal.loop-piece-preserved
loop-piece-preserved g c =
    subst (Appends (g.O.Write.contents c.args.out.now) (g.O.Write.contents c.write_text.new.out)) (sym (joined_more (λ (p : Bor (List ℕ)). p.now) c.args.pieces.now c.loop-piece.piece-index (record { ref_ptr = (0, 0); now = [] }) (omega (arith, c.loop-piece-test.true))))
    (Appends-trans (g.O.Write.contents c.args.out.now) (g.O.Write.contents c.loop-piece.out) (g.O.Write.contents c.write_text.new.out) _ _ c.loop-piece.invariant c.in_ok-write_text.ensures.whole)
