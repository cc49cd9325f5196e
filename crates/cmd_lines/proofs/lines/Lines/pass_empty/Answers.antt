-- Why `Lines::pass_empty` keeps its contract.
use Rattle.std.proofs.Common.{List, ℕ, [], subst}
use Rattle.cmd_lines.specs.Reader.{Stands}
use Rattle.cmd_lines.specs.Steps.{Passes}
use Rattle.cmd_lines.specs.Unfinished.{in_place, Keeping, pending_of}
use Rattle.cmd_lines.proofs.KeptLaws.{left_keeping}
use Rattle.cmd_lines.proofs.StandLaws.{waiting, stands_passed}
use Rattle.cmd_lines.proofs.lines.Lines.pass_empty.Goals as goal

pub returns-clause-stands : goal.returns-clause-stands
returns-clause-stands c = λ f g s.
    let x = c.self.inside in
    let rest = c.past_empty-number.result.0.now in
    let number = c.past_empty-number.result.1 in
    let p = subst (λ (b : List ℕ). Passes x.number b [] number rest) c.bytes.ensures.value c.past_empty-number.ensures in
    subst (λ (k : Keeping). Stands (waiting (pending_of k) k.held number x.fed x.phase) f g) (left_keeping x.kept c.mark_read.new.self x.number number [] rest p c.mark_read.ensures)
    (stands_passed c.args.self.now x.kept.bytes (in_place x.kept.lost) x.kept.held x.number x.fed x.phase number rest c.self.view_is p f g s)
