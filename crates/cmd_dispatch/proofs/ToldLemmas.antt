-- The items that a reader of lines has returned are a prefix of the items of the text.
use Rattle.std.proofs.Common.{◌≡◌, ◌≤◌, inl, inr, ℕ, ◌+◌, ◌*◌, length, Bool, List, [], ◌∷◌, ◌++◌, sym, ap, ◌∙◌, append-nil, append_assoc, Option, Some, None, Result, Ok, Err, refl}
use Rattle.std.specs.Prelude.{IfSome, OnOk, OnErr}
use Rattle.std.specs.Io.KnownBytes.{Consumes, IsAtEnd}
use Rattle.cmd_lines.specs.declared.item.Item.{Item}
use Rattle.cmd_lines.specs.declared.phase.Phase.{Phase}
use Rattle.cmd_lines.specs.declared.phase.Phase.TheVariants.{Open, Finished, CutOff}
use Rattle.cmd_lines.specs.Items.{known, items, items_so_far, items_from, all_items, line_items}
use Rattle.cmd_types.specs.TextLines.{split_lines}
use Rattle.cmd_lines.specs.Reader.{Waiting, Continues, Stands}
use Rattle.cmd_run.specs.declared.ending.Ending.{Ending}
use Rattle.cmd_run.specs.declared.ending.Ending.TheVariants as ending
use Rattle.cmd_dispatch.specs.Delivered.{items_by, BeginsWith, AreFirst, IsDelivered, IsEnded}

pub begins_all : {A : Type 0} (xs : List A) → BeginsWith xs xs
begins_all xs = ([], sym (append-nil xs))

first_at : (p : Phase) (n : ℕ) (pending f : List ℕ) (g : List Item) → Continues p n pending f g → BeginsWith (known p f) g
first_at Open n pending f g c = (items_from Open n (pending ++ []), ap (known Open) (sym (append-nil f)) ∙ c Open [])
first_at Finished n pending f g c = (items_from Finished n pending, c)
first_at CutOff n pending f g c = (items_from CutOff n pending, c)

-- the items that a reader of lines returned are a prefix of those that the text determines so far
pub first_given : (w : Waiting) (f : List ℕ) (g : List Item) → Stands w f g → BeginsWith (known w.phase f) g
first_given w f g s = first_at w.phase w.number w.pending f g s.1

first_more_at : (p : Phase) (n : ℕ) (pending f piece : List ℕ) (g : List Item) → p ≡ Open → Continues p n pending f g → BeginsWith (items_so_far (f ++ piece)) g
first_more_at Open n pending f piece g is c = (items_from Open n (pending ++ piece), c Open piece)
first_more_at Finished n pending f piece g is c = cc
first_more_at CutOff n pending f piece g is c = cc

-- the same where the text continues
pub first_more : (w : Waiting) (f piece : List ℕ) (g : List Item) → w.phase ≡ Open → Stands w f g → BeginsWith (items_so_far (f ++ piece)) g
first_more w f piece g is s = first_more_at w.phase w.number w.pending f piece g is s.1

so_far_at : (n : ℕ) (lines : List (List ℕ)) → BeginsWith (all_items Finished n lines) (all_items Open n lines)
unfolding all_items
so_far_at n [] = ([], refl)
so_far_at n (line ∷ []) = (line_items n line, refl)
so_far_at n (line ∷ (next ∷ others)) =
    let rest = so_far_at (n + 1) (next ∷ others) in
    (rest.0, ap (λ (l : List Item). line_items n line ++ l) rest.1 ∙ sym (append_assoc (line_items n line) (all_items Open (n + 1) (next ∷ others)) rest.0))

-- the items of the lines up to the last line feed are a prefix of those of the whole text
pub so_far_first : (text : List ℕ) → BeginsWith (items text) (items_so_far text)
so_far_first text = so_far_at 1 (split_lines text)

-- the first items of a text that ended so come first
pub first_begun : (remaining : Option (List ℕ)) (fails fills : Bool) (piece reads : ℕ) (how : Ending) (text : List ℕ) (given : List Item) → IsEnded remaining fails fills piece reads text how → BeginsWith (items_by how text) given → AreFirst remaining fails reads text given
first_begun remaining fails fills piece reads ending.Whole text given is begins = inr (inl (is, begins))
first_begun remaining fails fills piece reads ending.ReadFailed text given is begins = inr (inr (inl is, begins))
first_begun remaining fails fills piece reads ending.TooManyReads text given is begins = inr (inr (inr is.0, begins))
first_begun remaining fails fills piece reads ending.Memory text given is begins = absurd is
first_begun remaining fails fills piece reads ending.QueueRefused text given is begins = absurd is

-- and so do all of them
pub first_told : (remaining : Option (List ℕ)) (fails fills : Bool) (piece reads : ℕ) (how : Ending) (text : List ℕ) → IsEnded remaining fails fills piece reads text how → AreFirst remaining fails reads text (items_by how text)
first_told remaining fails fills piece reads how text is = first_begun remaining fails fills piece reads how text (items_by how text) is (begins_all (items_by how text))

-- ---- properties of a result

pub on_ok : {A E : Type 0} {P Q : Type 0} (r : Result A E) → (P → Q) → OnOk r P → OnOk r Q
on_ok (Ok x) f h = f h
on_ok (Err e) f h = tt

pub always_on_err : {A E : Type 0} {P : Type 0} (r : Result A E) → P → OnErr r P
always_on_err (Ok x) h = tt
always_on_err (Err e) h = h

-- ---- the delivered bytes

pub delivered : (before after : Option (List ℕ)) (piece reads : ℕ) (text : List ℕ) → Consumes before after text → length text ≤ reads * piece → IsDelivered before piece reads text
delivered before after piece reads text c bound = (bound, front before after text c)
  where
    front : (before after : Option (List ℕ)) (text : List ℕ) → Consumes before after text → IfSome before (λ bytes. BeginsWith bytes text)
    front None after text c = tt
    front (Some xs) None text c = absurd c
    front (Some xs) (Some ys) text c = (ys, c)

-- at the end of a reader all its bytes were delivered
pub all_delivered : (before after : Option (List ℕ)) (text : List ℕ) → Consumes before after text → IsAtEnd after → IfSome before (λ bytes. text ≡ bytes)
all_delivered None after text c end = tt
all_delivered (Some xs) None text c end = absurd c
all_delivered (Some xs) (Some ys) text c end = sym (c ∙ ap (λ (l : List ℕ). text ++ l) end ∙ append-nil text)
