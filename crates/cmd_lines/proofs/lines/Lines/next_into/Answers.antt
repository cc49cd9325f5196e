-- Why `Lines::next_into` keeps its contract.
use Rattle.std.proofs.Common.{List, ℕ, ◌+◌, ◌∷◌, [], ◌++◌, refl, ap, sym, subst}
use Rattle.std.proofs.lemmas.Result.{err_from_is_err_and}
use Rattle.cmd_lines.specs.declared.item.Item.TheVariants as item
use Rattle.cmd_lines.specs.Items.{item_of}
use Rattle.cmd_lines.specs.Reader.{Waiting, Stands}
use Rattle.cmd_lines.specs.Steps.{Passes}
use Rattle.cmd_lines.specs.Unfinished.{in_place, Keeping, pending_of}
use Rattle.cmd_lines.proofs.KeptLaws.{left_keeping}
use Rattle.cmd_lines.proofs.StandLaws.{waiting, stands_line, next_command}
use Rattle.cmd_lines.proofs.lines.Lines.next_into.Goals as goal

pub returns-in_ok-put-in-Line-clause-some : goal.returns-in_ok-put-in-Line-clause-some
returns-in_ok-put-in-Line-clause-some c =
    let x = c.self.inside in
    let number = c.in-Line.number in
    let rest = c.in-Line.rest.now in
    let i = item_of number c.in-Line.line.now in
    let p = subst (λ (b : List ℕ). Passes x.number b (i ∷ []) (number + 1) rest) c.bytes.ensures.value c.in-Line.ensures.1 in (
      i,
      c.in_ok-put-in-Line.ensures.put,
      c.in_ok-put-in-Line.ensures.of_text,
      λ f g s.
          subst (λ (k : Keeping). Stands (waiting (pending_of k) k.held (number + 1) x.fed x.phase) f (g ++ i ∷ [])) (left_keeping x.kept c.mark_read.new.self x.number (number + 1) (i ∷ []) rest p c.mark_read.ensures)
          (stands_line c.args.self.now x.kept.bytes (in_place x.kept.lost) x.kept.held x.number x.fed x.phase (number + 1) rest i i c.self.view_is p refl f g s),
    )

pub returns-in_err-put-in-Line-clause-memory : goal.returns-in_err-put-in-Line-clause-memory
returns-in_err-put-in-Line-clause-memory c =
    let x = c.self.inside in
    let number = c.in-Line.number in
    let rest = c.in-Line.rest.now in
    let found = c.in_err-put-in-Line.ensures.memory in
    let is = item.Command found.0 in
    let p = subst (λ (b : List ℕ). Passes x.number b (item_of number c.in-Line.line.now ∷ []) (number + 1) rest) c.bytes.ensures.value c.in-Line.ensures.1 in
    rw (err_from_is_err_and c.from_residual.result c.from_residual.ensures.1).1 (λ f g s.
    next_command (waiting (rest ++ in_place x.kept.lost) x.kept.held (number + 1) x.fed x.phase) c.args.self.now f g found.0 (ap (λ (w : Waiting). w.phase) c.self.view_is)
    (stands_line c.args.self.now x.kept.bytes (in_place x.kept.lost) x.kept.held x.number x.fed x.phase (number + 1) rest is (item_of number c.in-Line.line.now) c.self.view_is p (sym found.1) f g s))
