-- Lines that name a file: by which words they are known, and that the lines on a feed by its number are not among them.
use Rattle.std.proofs.Common.{◌≡◌, ℕ, ◌+◌, ◌-◌, ◌≤◌, ◌&&◌, Bool, true, false, not, nat_le, List, ◌++◌, length, drop, take, None, nat_eq, refl, sym, ap, ◌∙◌, arith, length-append, codes}
use Rattle.std.specs.List.{ends_with}
use Rattle.std.specs.Str.{bytes_eq}
use Rattle.std.proofs.Math.Seq.{drop-append-add}
use Rattle.std.proofs.lemmas.Bool.{leb-true, and_parts}
use Rattle.std.proofs.lemmas.Bool.Decides.{Decides-eqb}
use Rattle.std.proofs.lemmas.Slice.Eq.{ends_is, bytes_eq-Decides}
use Rattle.cmd_explain.specs.Explained.{line_by_path}

-- ---- the end of a text

-- the last three bytes
abbrev last_three : List ℕ → List ℕ
last_three xs = drop (length xs - 3) xs

last_three_behind : (front rest : List ℕ) → 3 ≤ length rest → last_three (front ++ rest) ≡ last_three rest
last_three_behind front rest h =
    let place : length (front ++ rest) - 3 ≡ length front + (length rest - 3) = omega (arith, length-append front rest) in
    ap (λ (n : ℕ). drop n (front ++ rest)) place ∙ drop-append-add front rest (length rest - 3)

-- a text with these words at its end
pub ends : (front last : List ℕ) → ends_with nat_eq (front ++ last) last ≡ true
ends front last = (ends_is Decides-eqb (front ++ last) last _ refl).1 front refl

-- a text that ends otherwise, since its last three bytes are others
pub ends_not : (front rest last : List ℕ) → 3 ≤ length rest → 3 ≤ length last → bytes_eq (last_three rest) (last_three last) ≡ false → ends_with nat_eq (front ++ rest) last ≡ false
ends_not front rest last some enough differ = by (ends_with nat_eq (front ++ rest) last) refl
  where
    same : ends_with nat_eq (front ++ rest) last ≡ true → last_three rest ≡ last_three last
    same e =
        sym (last_three_behind front rest some)
        ∙ ap last_three ((ends_is Decides-eqb (front ++ rest) last _ refl).0 e)
        ∙ last_three_behind (take (length (front ++ rest) - length last) (front ++ rest)) last enough

    by : (b : Bool) → ends_with nat_eq (front ++ rest) last ≡ b → ends_with nat_eq (front ++ rest) last ≡ false
    by false e = e
    by true e = let equal = (bytes_eq-Decides (last_three rest) (last_three last)).1 (same e) in absurd cc

-- ---- a line on a feed

not_false : (b : Bool) → not b ≡ true → b ≡ false
not_false true h = absurd cc
not_false false h = refl

-- the last three bytes of a text are those of no line that names the file of a feed
abbrev pub is_other : List ℕ → Bool
is_other rest = nat_le 3 (length rest) && (not (bytes_eq (last_three rest) (codes "ere")) && not (bytes_eq (last_three rest) (codes "ned")))

-- a line on a feed that ends so names no file
pub names_none : (front rest : List ℕ) → is_other rest ≡ true → line_by_path (codes "gateway: feed " ++ (front ++ rest)) ≡ None
names_none front rest other =
    let parts = and_parts (nat_le 3 (length rest)) _ other in
    let ends_are = and_parts (not (bytes_eq (last_three rest) (codes "ere"))) _ parts.1 in
    let some = leb-true 3 (length rest) parts.0 in
    let begins = codes "gateway: feed " ++ front in
    rw (ends_not begins rest (codes ": not there") some (omega arith) (not_false _ ends_are.0), ends_not begins rest (codes ": not opened") some (omega arith) (not_false _ ends_are.1)) refl
