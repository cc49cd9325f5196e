-- The commands of a text that broke off are a prefix of the commands of the text.
use Rattle.std.proofs.Common.{◌≡◌, ◌≤◌, ◌⊎◌, inl, inr, ℕ, ◌+◌, List, [], ◌∷◌, ◌++◌, length, take, refl, sym, ap, ◌∙◌, subst, arith, append_assoc, append-nil, length-append, Bool, Option}
use Rattle.std.proofs.lemmas.List.{take_at}
use Rattle.cmd_types.specs.Spelling.{Timed}
use Rattle.cmd_lines.specs.declared.fault.LineFault.{LineFault}
use Rattle.cmd_lines.specs.declared.item.Item.{Item}
use Rattle.cmd_lines.specs.declared.item.Item.TheVariants as item
use Rattle.cmd_lines.specs.declared.phase.Phase.TheVariants.{Open, Finished, CutOff}
use Rattle.cmd_lines.specs.Items.{commands, refusals, items, items_so_far, items_cut, all_items, if_some, line_items, torn_items}
use Rattle.cmd_types.specs.TextLines.{split_lines}
use Rattle.cmd_dispatch.proofs.Grown.{commands-append, refusals-append}
use Rattle.cmd_types.specs.Bytes.{without_returns}
use Rattle.cmd_run.specs.declared.ending.Ending.{Ending}
use Rattle.cmd_run.specs.declared.ending.Ending.TheVariants as ending
use Rattle.cmd_dispatch.specs.Delivered.{BeginsWith, MayBreakOff, IsAll, AreFirst}
use Rattle.cmd_dispatch.specs.Sends.{AreGiven}
use Rattle.cmd_dispatch.proofs.ToldLemmas.{so_far_first}

no_commands : (line : List ℕ) (n : ℕ) (f : LineFault) → commands (if_some line (item.Refused n f)) ≡ []
no_commands [] n f = refl
no_commands (x ∷ xs) n f = refl

torn_commands : (n : ℕ) (line : List ℕ) → commands (torn_items n line) ≡ []
torn_commands n line = no_commands (without_returns line) n _

cut_at : (n : ℕ) (lines : List (List ℕ)) → BeginsWith (commands (all_items Finished n lines)) (commands (all_items CutOff n lines))
unfolding all_items
cut_at n [] = ([], refl)
cut_at n (line ∷ []) = (commands (line_items n line), ap (λ (l : List Timed). l ++ commands (line_items n line)) (sym (torn_commands n line)))
cut_at n (line ∷ (next ∷ others)) =
    let rest = cut_at (n + 1) (next ∷ others) in
    let first = commands (line_items n line) in (
      rest.0,
      commands-append (line_items n line) (all_items Finished (n + 1) (next ∷ others)) ∙ ap (λ (l : List Timed). first ++ l) rest.1 ∙ sym (append_assoc first (commands (all_items CutOff (n + 1) (next ∷ others))) rest.0)
          ∙ ap (λ (l : List Timed). l ++ rest.0) (sym (commands-append (line_items n line) (all_items CutOff (n + 1) (next ∷ others)))),
    )

-- a torn line is no command
so_far_at : (n : ℕ) (lines : List (List ℕ)) → commands (all_items CutOff n lines) ≡ commands (all_items Open n lines)
unfolding all_items
so_far_at n [] = refl
so_far_at n (line ∷ []) = torn_commands n line
so_far_at n (line ∷ (next ∷ others)) =
    commands-append (line_items n line) (all_items CutOff (n + 1) (next ∷ others)) ∙ ap (λ (l : List Timed). commands (line_items n line) ++ l) (so_far_at (n + 1) (next ∷ others))
    ∙ sym (commands-append (line_items n line) (all_items Open (n + 1) (next ∷ others)))

pub cut_so_far : (text : List ℕ) → commands (items_cut text) ≡ commands (items_so_far text)
cut_so_far text = so_far_at 1 (split_lines text)

pub cut_begins : (text : List ℕ) → BeginsWith (commands (items text)) (commands (items_cut text))
cut_begins text = cut_at 1 (split_lines text)

begins_commands : (xs given : List Item) → BeginsWith xs given → BeginsWith (commands xs) (commands given)
begins_commands xs given b = (commands b.0, ap commands b.1 ∙ commands-append given b.0)

begins_refusals : (xs given : List Item) → BeginsWith xs given → BeginsWith (refusals xs) (refusals given)
begins_refusals xs given b = (refusals b.0, ap refusals b.1 ∙ refusals-append given b.0)

-- a prefix of a prefix is a prefix of the whole
pub begins_twice : {A : Type 0} (xs ys zs : List A) → BeginsWith xs ys → BeginsWith ys zs → BeginsWith xs zs
begins_twice xs ys zs a b = (b.0 ++ a.0, a.1 ∙ ap (λ l. l ++ a.0) b.1 ∙ append_assoc zs b.0 a.0)

-- the items that were taken of a text are a prefix of its items
given_first : (remaining : Option (List ℕ)) (fails fills : Bool) (piece reads : ℕ) (text : List ℕ) (how : Ending) (given : List Item) → AreGiven remaining fails fills piece reads text how given → AreFirst remaining fails reads text given
given_first remaining fails fills piece reads text ending.Whole given are = inr (inl (are.1, ([], sym are.0 ∙ sym (append-nil given))))
given_first remaining fails fills piece reads text ending.ReadFailed given are = inr (inr (inl are.1, ([], sym are.0 ∙ sym (append-nil given))))
given_first remaining fails fills piece reads text ending.TooManyReads given are = inr (inr (inr are.1.0, ([], sym are.0 ∙ sym (append-nil given))))
given_first remaining fails fills piece reads text ending.Memory given are = are
given_first remaining fails fills piece reads text ending.QueueRefused given are = are

-- the commands that were passed on are a prefix of those of the text
pub first_commands : (remaining : Option (List ℕ)) (fails fills : Bool) (piece reads : ℕ) (text : List ℕ) (how : Ending) (given : List Item) → AreGiven remaining fails fills piece reads text how given → BeginsWith (commands (items text)) (commands given)
first_commands remaining fails fills piece reads text how given are =
    elim (given_first remaining fails fills piece reads text how given are) [
      | inl b ↦ begins_commands (items text) given (begins_twice (items text) (items_so_far text) given (so_far_first text) b)
      | inr (inl b) ↦ begins_commands (items text) given b.1
      | inr (inr b) ↦ begins_twice (commands (items text)) (commands (items_cut text)) (commands given) (cut_begins text) (begins_commands (items_cut text) given b.1)
    ]

-- the command of an unfinished last line was passed on only where all bytes were delivered
pub unfinished_last : (remaining : Option (List ℕ)) (fails fills : Bool) (piece reads : ℕ) (text : List ℕ) (how : Ending) (given : List Item) → AreGiven remaining fails fills piece reads text how given → IsAll remaining text ⊎ BeginsWith (commands (items_so_far text)) (commands given)
unfinished_last remaining fails fills piece reads text how given are =
    elim (given_first remaining fails fills piece reads text how given are) [
      | inl b ↦ inr (begins_commands (items_so_far text) given b)
      | inr (inl b) ↦ inl b.0
      | inr (inr b) ↦ inr (subst (λ (cs : List Timed). BeginsWith cs (commands given)) (cut_so_far text) (begins_commands (items_cut text) given b.1))
    ]

-- the refused lines that were passed on are a prefix of those of the text
pub first_refusals : (remaining : Option (List ℕ)) (fails fills : Bool) (piece reads : ℕ) (text : List ℕ) (how : Ending) (given : List Item) → AreGiven remaining fails fills piece reads text how given → BeginsWith (refusals (items text)) (refusals given) ⊎ (MayBreakOff fails reads text × BeginsWith (refusals (items_cut text)) (refusals given))
first_refusals remaining fails fills piece reads text how given are = elim (given_first remaining fails fills piece reads text how given are) [
  | inl b ↦ inl (begins_refusals (items text) given (begins_twice (items text) (items_so_far text) given (so_far_first text) b))
  | inr (inl b) ↦ inl (begins_refusals (items text) given b.1)
  | inr (inr b) ↦ inr (b.0, begins_refusals (items_cut text) given b.1)
]

-- a prefix is the first elements, as many as it has
pub take_begins : {A : Type 0} (xs ys : List A) (n : ℕ) → BeginsWith xs ys → n ≡ length ys → (n ≤ length xs) × (take n xs ≡ ys)
take_begins xs ys n b is = (omega (arith, ap length b.1, length-append ys b.0), ap (take n) b.1 ∙ take_at ys b.0 n (sym is))
