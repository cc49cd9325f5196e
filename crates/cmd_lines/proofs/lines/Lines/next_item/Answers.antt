-- Why `Lines::next_item` keeps its contract.
use Rattle.std.proofs.Common.{◌≡◌, ◌<◌, List, ℕ, ◌+◌, ◌∷◌, [], ◌++◌, length, ap, sym, subst, ◌∙◌, arith, length-append}
use Rattle.std.specs.Option.{option_to_list}
use Rattle.std.proofs.lemmas.Result.{err_from_is_err_and}
use Rattle.cmd_lines.specs.declared.item.Item.TheVariants as item
use Rattle.cmd_lines.specs.Items.{item_of, last_items}
use Rattle.cmd_lines.specs.Reader.{Waiting, Stands}
use Rattle.cmd_lines.specs.Steps.{Passes}
use Rattle.cmd_lines.specs.Unfinished.{in_place, Keeping, pending_of}
use Rattle.cmd_lines.proofs.KeptLaws.{left_keeping, left_length, left_line, left_long}
use Rattle.cmd_lines.proofs.UnfinishedLaws.{left_lacks}
use Rattle.cmd_lines.proofs.StandLaws.{waiting, stands_line, stands_rest, stands_none, next_command}
use Rattle.cmd_lines.proofs.lines.Lines.next_item.Goals as goal

pub rest_item-requires-clause-long : goal.rest_item-requires-clause-long
rest_item-requires-clause-long c =
    let x = c.self.inside in
    let p = subst (λ (b : List ℕ). Passes x.number b [] c.in-Rest.number c.in-Rest.rest.now) c.bytes.ensures.value c.in-Rest.ensures.1 in
    λ lost. left_long c.definitions_agree.ensures x.kept x.number c.in-Rest.number c.in-Rest.rest.now c.bytes.ensures.kept c.in-Rest.ensures.0 p (sym c.lost.ensures ∙ lost)

pub returns-in_ok-item-in-Line-clause-some : goal.returns-in_ok-item-in-Line-clause-some
returns-in_ok-item-in-Line-clause-some c = λ f g s.
    let x = c.self.inside in
    let number = c.in-Line.number in
    let rest = c.in-Line.rest.now in
    let gs = item_of number c.in-Line.line.now ∷ [] in
    let p = subst (λ (b : List ℕ). Passes x.number b gs (number + 1) rest) c.bytes.ensures.value c.in-Line.ensures.1 in
    subst (λ (k : Keeping). Stands (waiting (pending_of k) k.held (number + 1) x.fed x.phase) f (g ++ c.in_ok-item-in-Line.item ∷ [])) (left_keeping x.kept c.mark_read.new.self x.number (number + 1) gs rest p c.mark_read.ensures)
    (stands_line c.args.self.now x.kept.bytes (in_place x.kept.lost) x.kept.held x.number x.fed x.phase (number + 1) rest c.in_ok-item-in-Line.item (item_of number c.in-Line.line.now) c.self.view_is p c.in_ok-item-in-Line.ensures.value f g s)

pub returns-in-Some-clause-some : goal.returns-in-Some-clause-some
returns-in-Some-clause-some c = λ f g s.
    let x = c.self.inside in
    let number = c.in-Rest.number in
    let rest = c.in-Rest.rest.now in
    let p = subst (λ (b : List ℕ). Passes x.number b [] number rest) c.bytes.ensures.value c.in-Rest.ensures.1 in
    let last : last_items x.phase number (rest ++ in_place x.kept.lost) ≡ c.in-Some.item ∷ [] = rw (← c.lost.ensures) (c.in_ok-item-in-Rest.ensures.value ∙ ap option_to_list c.in-Some.is) in
    subst (λ (k : Keeping). Stands (waiting (pending_of k) k.held (number + 1) x.fed x.phase) f (g ++ c.in-Some.item ∷ [])) (sym c.clear.ensures)
    (stands_rest c.definitions_agree.ensures c.args.self.now x.kept.bytes (in_place x.kept.lost) x.kept.held [] x.number x.fed x.phase number (number + 1) rest c.in-Some.item c.self.view_is (left_lacks c.definitions_agree.ensures rest x.kept.lost c.in-Rest.ensures.0) p last f g s)

pub returns-in-None-clause-none : goal.returns-in-None-clause-none
returns-in-None-clause-none c = λ f g s.
    let x = c.self.inside in
    let number = c.in-Rest.number in
    let rest = c.in-Rest.rest.now in
    let p = subst (λ (b : List ℕ). Passes x.number b [] number rest) c.bytes.ensures.value c.in-Rest.ensures.1 in
    stands_none c.definitions_agree.ensures c.args.self.now x.kept.bytes (in_place x.kept.lost) x.kept.held x.number x.fed x.phase number rest c.self.view_is (left_lacks c.definitions_agree.ensures rest x.kept.lost c.in-Rest.ensures.0) p (rw (← c.lost.ensures) (c.in_ok-item-in-Rest.ensures.value ∙ ap option_to_list c.in-None.is)) f g s

pub returns-in_err-item-in-Line-clause-memory : goal.returns-in_err-item-in-Line-clause-memory
returns-in_err-item-in-Line-clause-memory c =
    let x = c.self.inside in
    let number = c.in-Line.number in
    let rest = c.in-Line.rest.now in
    let found = c.in_err-item-in-Line.ensures.memory in
    let is = item.Command found.0 in
    let p = subst (λ (b : List ℕ). Passes x.number b (item_of number c.in-Line.line.now ∷ []) (number + 1) rest) c.bytes.ensures.value c.in-Line.ensures.1 in
    rw (err_from_is_err_and c.from_residual.result c.from_residual.ensures.1).1 (λ f g s.
    next_command (waiting (rest ++ in_place x.kept.lost) x.kept.held (number + 1) x.fed x.phase) c.args.self.now f g found.0 (ap (λ (w : Waiting). w.phase) c.self.view_is)
    (stands_line c.args.self.now x.kept.bytes (in_place x.kept.lost) x.kept.held x.number x.fed x.phase (number + 1) rest is (item_of number c.in-Line.line.now) c.self.view_is p (sym found.1) f g s))

pub returns-in_err-item-in-Rest-clause-memory : goal.returns-in_err-item-in-Rest-clause-memory
returns-in_err-item-in-Rest-clause-memory c =
    let x = c.self.inside in
    let number = c.in-Rest.number in
    let rest = c.in-Rest.rest.now in
    let found = c.in_err-item-in-Rest.ensures.memory in
    let p = subst (λ (b : List ℕ). Passes x.number b [] number rest) c.bytes.ensures.value c.in-Rest.ensures.1 in
    let last : last_items x.phase number (rest ++ in_place x.kept.lost) ≡ item.Command found.0 ∷ [] = rw (← c.lost.ensures) found.1 in
    rw (err_from_is_err_and c.from_residual-in_err-item-in-Rest.result c.from_residual-in_err-item-in-Rest.ensures.1).1 (λ f g s.
    next_command (waiting [] [] (number + 1) x.fed x.phase) c.args.self.now f g found.0 (ap (λ (w : Waiting). w.phase) c.self.view_is)
    (stands_rest c.definitions_agree.ensures c.args.self.now x.kept.bytes (in_place x.kept.lost) x.kept.held [] x.number x.fed x.phase number (number + 1) rest (item.Command found.0) c.self.view_is (left_lacks c.definitions_agree.ensures rest x.kept.lost c.in-Rest.ensures.0) p last f g s))

-- ---- how many lines and bytes there are

pub mark_read-requires-clause-lines : goal.mark_read-requires-clause-lines
mark_read-requires-clause-lines c =
    let x = c.self.inside in
    let number = c.in-Line.number in
    let gs = item_of number c.in-Line.line.now ∷ [] in
    left_line x.kept.bytes x.number (number + 1) gs c.in-Line.rest.now (subst (λ (b : List ℕ). Passes x.number b gs (number + 1) c.in-Line.rest.now) c.bytes.ensures.value c.in-Line.ensures.1)

pub returns-in_ok-item-in-Line-clause-falls : goal.returns-in_ok-item-in-Line-clause-falls
returns-in_ok-item-in-Line-clause-falls c =
    let x = c.self.inside in
    let number = c.in-Line.number in
    let rest = c.in-Line.rest.now in
    let gs = item_of number c.in-Line.line.now ∷ [] in
    let p = subst (λ (b : List ℕ). Passes x.number b gs (number + 1) rest) c.bytes.ensures.value c.in-Line.ensures.1 in
    let left = left_length x.kept c.mark_read.new.self x.number (number + 1) gs rest p c.mark_read.ensures in
    omega (arith, left, p.counted, c.in-Line.ensures.2, ap (λ (w : Waiting). length w.pending) c.self.view_is, length-append x.kept.bytes (in_place x.kept.lost))

pub overflow_add-self-in-Some : goal.overflow_add-self-in-Some
overflow_add-self-in-Some c =
    let x = c.self.inside in
    let p = subst (λ (b : List ℕ). Passes x.number b [] c.in-Rest.number c.in-Rest.rest.now) c.bytes.ensures.value c.in-Rest.ensures.1 in
    omega (arith, p.counted, c.self.invariant.0, c.self.invariant.1, length-append x.kept.bytes (in_place x.kept.lost))

pub invariant_of-self-in-Some : goal.invariant_of-self-in-Some
invariant_of-self-in-Some c =
    let x = c.self.inside in
    let rest = c.in-Rest.rest.now in
    let p = subst (λ (b : List ℕ). Passes x.number b [] c.in-Rest.number rest) c.bytes.ensures.value c.in-Rest.ensures.1 in
    let some : 0 < length (rest ++ in_place x.kept.lost) = rw (← c.lost.ensures) (rw c.in-Some.is at c.in_ok-item-in-Rest.ensures.some) in
    let none = ap (λ (k : Keeping). length (pending_of k)) c.clear.ensures in
    (omega (arith, none, some, p.counted, c.self.invariant.0, length-append x.kept.bytes (in_place x.kept.lost), length-append rest (in_place x.kept.lost)), c.self.invariant.1)

pub returns-in-Some-clause-falls : goal.returns-in-Some-clause-falls
returns-in-Some-clause-falls c =
    let x = c.self.inside in
    let rest = c.in-Rest.rest.now in
    let p = subst (λ (b : List ℕ). Passes x.number b [] c.in-Rest.number rest) c.bytes.ensures.value c.in-Rest.ensures.1 in
    let some : 0 < length (rest ++ in_place x.kept.lost) = rw (← c.lost.ensures) (rw c.in-Some.is at c.in_ok-item-in-Rest.ensures.some) in
    let none = ap (λ (k : Keeping). length (pending_of k)) c.clear.ensures in
    omega (arith, none, some, p.counted, p.onward, ap (λ (w : Waiting). length w.pending) c.self.view_is, length-append x.kept.bytes (in_place x.kept.lost), length-append rest (in_place x.kept.lost))
