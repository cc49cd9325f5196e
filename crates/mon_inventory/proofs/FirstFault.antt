-- The first line with a fault stands behind lines without one; and a line in hand that has none.
use Rattle.std.proofs.Common.{◌≡◌, ℕ, ◌+◌, ◌<◌, ◌≤◌, Option, Some, None, Ok, Err, List, [], ◌∷◌, ◌++◌, length, take, drop, refl, sym, ap, ◌∙◌, arith}
use Rattle.std.specs.List.{fold}
use Rattle.std.proofs.lemmas.List.{take-append-drop, length-take-le, length-drop}
use Rattle.std.proofs.lemmas.Option.{same_Some}
use Rattle.cmd_types.specs.Bytes.{without_returns}
use Rattle.cmd_types.specs.TextLines.{split_lines}
use Rattle.mon_inventory.specs.declared.fault.Cause.{Cause}
use Rattle.mon_inventory.specs.Configuration.{Configuration, nothing, cause_of, with_line, or_later, first_fault, unless_fault, inventory_of, inventory}
use Rattle.mon_inventory.specs.Read.{HasNoFault, IsFirstFault}

-- the same, where k stands before the lines and the first of them is of number n
record IsFirst (n : ℕ) (k : Configuration) (lines : List (List ℕ)) (number : ℕ) (cause : Cause) : Type 0 where
  earlier : List (List ℕ)
  line : List ℕ
  later : List (List ℕ)
  parts : lines ≡ earlier ++ line ∷ later
  place : number ≡ n + length earlier
  fine : first_fault n k earlier ≡ None
  fails : cause_of (fold with_line k earlier) line ≡ Some cause

first : (n : ℕ) (k : Configuration) (lines : List (List ℕ)) (number : ℕ) (cause : Cause) → first_fault n k lines ≡ Some (number, cause) → IsFirst n k lines number cause
first n k [] number cause e = absurd (cc)
first n k (line ∷ lines) number cause e = by (cause_of k line) refl (first (n + 1) (with_line k line) lines number cause) e
  where
    by : (c : Option Cause) → cause_of k line ≡ c → (first_fault (n + 1) (with_line k line) lines ≡ Some (number, cause) → IsFirst (n + 1) (with_line k line) lines number cause)
        → or_later n c (first_fault (n + 1) (with_line k line) lines) ≡ Some (number, cause) → IsFirst n k (line ∷ lines) number cause
    by None is h e =
        let f = h e in
        let place = f.place in
        record {
          earlier = line ∷ f.earlier;
          line = f.line;
          later = f.later;
          parts = ap (λ t. line ∷ t) f.parts;
          place = omega arith;
          fine = rw is f.fine;
          fails = f.fails;
        }
    by (Some c) is h e =
        let same = same_Some (n, c) (number, cause) e in
        let here = ap (λ (p : ℕ × Cause). p.0) same in
        record { earlier = []; line = line; later = lines; parts = refl; place = omega arith; fine = refl; fails = is ∙ ap (λ (p : ℕ × Cause). Some p.1) same }

of_fault : (f : Option (ℕ × Cause)) (k : Configuration) (number : ℕ) (cause : Cause) → unless_fault f k ≡ Err (number, cause) → f ≡ Some (number, cause)
of_fault None k number cause e = absurd (cc)
of_fault (Some f) k number cause e = cc

pub fault_is_first : (lines : List (List ℕ)) (number : ℕ) (cause : Cause) → inventory_of lines ≡ Err (number, cause) → IsFirstFault lines number cause
unfolding inventory_of
fault_is_first lines number cause e =
    let f = first 1 nothing lines number cause (of_fault _ _ number cause e) in
    let place = f.place in
    record {
      line = f.line;
      so_far = fold with_line nothing f.earlier;
      reached = record { earlier = f.earlier; later = f.later; parts = f.parts; place = omega arith; fine = ap (λ t. unless_fault t (fold with_line nothing f.earlier)) f.fine };
      fails = f.fails;
    }

pub fault_first : (text : List ℕ) (number : ℕ) (cause : Cause) → inventory text ≡ Err (number, cause) → IsFirstFault (split_lines text) number cause
unfolding inventory
fault_first text number cause e = fault_is_first (split_lines text) number cause e

-- ---- and no other line is the first with a fault

none_later : (n : ℕ) (c : Option Cause) (later : Option (ℕ × Cause)) → or_later n c later ≡ None → (c ≡ None) × (later ≡ None)
none_later n None later e = (refl, e)
none_later n (Some c) later e = absurd (cc)

behind : (n : ℕ) (k : Configuration) (earlier : List (List ℕ)) (line : List ℕ) (later : List (List ℕ)) (cause : Cause) → first_fault n k earlier ≡ None
    → cause_of (fold with_line k earlier) line ≡ Some cause → first_fault n k (earlier ++ line ∷ later) ≡ Some (n + length earlier, cause)
behind n k [] line later cause fine fails = rw fails (ap (λ (m : ℕ). Some (m, cause)) same)
  where
    same : n ≡ n + 0
    same = omega arith
behind n k (x ∷ xs) line later cause fine fails =
    let both = none_later n (cause_of k x) (first_fault (n + 1) (with_line k x) xs) fine in
    rw both.0 (behind (n + 1) (with_line k x) xs line later cause both.1 fails ∙ ap (λ (m : ℕ). Some (m, cause)) same)
  where
    same : n + 1 + length xs ≡ n + length (x ∷ xs)
    same = omega arith

of_none : (f : Option (ℕ × Cause)) (k j : Configuration) → unless_fault f k ≡ Ok j → (f ≡ None) × (k ≡ j)
of_none None k j e = (refl, cc)
of_none (Some f) k j e = absurd (cc)

pub first_is_told : (lines : List (List ℕ)) (number : ℕ) (cause : Cause) → IsFirstFault lines number cause → inventory_of lines ≡ Err (number, cause)
unfolding inventory_of
first_is_told lines number cause h =
    let r = h.reached in
    let so_far = of_none (first_fault 1 nothing r.earlier) (fold with_line nothing r.earlier) h.so_far r.fine in
    let fails : cause_of (fold with_line nothing r.earlier) h.line ≡ Some cause = ap (λ k. cause_of k h.line) so_far.1 ∙ h.fails in
    let place = r.place in
    let here : 1 + length r.earlier ≡ number = omega arith in
    rw (r.parts, behind 1 nothing r.earlier h.line r.later cause so_far.0 fails) (ap (λ (m : ℕ). Err (m, cause)) here)

-- ---- the line in hand, where neither it nor a line before it has a fault

pub without_fault : (lines : List (List ℕ)) (count : ℕ) (line : List ℕ) (later : List (List ℕ)) (k : Configuration) → line ∷ later ≡ drop count lines → inventory_of (take count lines) ≡ Ok k
    → 0 < length (without_returns line) → cause_of k line ≡ None → HasNoFault lines (count + 1)
without_fault lines count line later k here fine some none =
    let few : count ≤ length lines = omega (arith, ap length here, length-drop count lines) in
    let parts = sym (take-append-drop count lines) ∙ ap (λ t. take count lines ++ t) (sym here) in
    let place = ap (λ m. m + 1) (sym (length-take-le count lines few)) in
    record { line = line; so_far = k; reached = record { earlier = take count lines; later = later; parts = parts; place = place; fine = fine }; some = some; none = none }
