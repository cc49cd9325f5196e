-- The lines of a text, one by one.
use Rattle.std.proofs.Common.{◌≡◌, ℕ, zero, suc, ◌+◌, Option, Some, None, List, [], ◌∷◌, take, drop, Result, Ok, Err, refl, add-one, ◌⊎◌, inl, inr, Bool, true, false, if◌then◌else◌, ◌∙◌}
use Rattle.std.specs.List.{fold, find}
use Rattle.std.proofs.lemmas.Bool.{eqb-true}
use Rattle.std.proofs.lemmas.List.{nil_from_length}
use Rattle.cmd_types.specs.Bytes.{without_returns}
use Rattle.mon_inventory.specs.declared.fault.Cause.{Cause}
use Rattle.mon_inventory.specs.Line.{NoForm, form, is_empty}
use Rattle.mon_inventory.specs.Configuration.{Configuration, has, causes, cause_of, with_line, or_later, first_fault, unless_fault}
use Rattle.mon_inventory.specs.Seen.{IsFine}
use Rattle.mon_inventory.proofs.Fine.{no_cause}

-- what lines make or their first fault, where the first of them is line n and k stands before it
abbrev pub read_from : ℕ → Configuration → List (List ℕ) → Result Configuration (ℕ × Cause)
read_from n k lines = unless_fault (first_fault n k lines) (fold with_line k lines)

pub read_fine : (n : ℕ) (k : Configuration) (line : List ℕ) (lines : List (List ℕ)) → cause_of k line ≡ None → read_from n k (line ∷ lines) ≡ read_from (n + 1) (with_line k line) lines
read_fine n k line lines e = rw e refl

pub read_fault : (n : ℕ) (k : Configuration) (line : List ℕ) (lines : List (List ℕ)) (cause : Cause) → cause_of k line ≡ Some cause → read_from n k (line ∷ lines) ≡ Err (n, cause)
read_fault n k line lines cause e = rw e refl

-- lines that make something begin with one that has no fault
pub first_fine : (n : ℕ) (k : Configuration) (line : List ℕ) (lines : List (List ℕ)) (j : Configuration) → read_from n k (line ∷ lines) ≡ Ok j → (cause_of k line ≡ None) × (read_from (n + 1) (with_line k line) lines ≡ Ok j)
first_fine n k line lines j e = by (cause_of k line) refl e
  where
    by : (c : Option Cause) → cause_of k line ≡ c → unless_fault (or_later n c (first_fault (n + 1) (with_line k line) lines)) (fold with_line (with_line k line) lines) ≡ Ok j
        → (cause_of k line ≡ None) × (read_from (n + 1) (with_line k line) lines ≡ Ok j)
    by None is e = (is, e)
    by (Some cause) is e = absurd (cc)

-- what each line keeps, all of them keep
pub lines_keep : (P : Configuration → Type 0) → ((k : Configuration) (line : List ℕ) → cause_of k line ≡ None → P k → P (with_line k line))
    → (n : ℕ) (k : Configuration) (lines : List (List ℕ)) (j : Configuration) → read_from n k lines ≡ Ok j → P k → P j
lines_keep P step n k [] j e h = let same : k ≡ j = cc in rw (← same) h
lines_keep P step n k (line ∷ lines) j e h = let f = first_fine n k line lines j e in lines_keep P step (n + 1) (with_line k line) lines j f.1 (step k line f.0 h)

-- a line without a fault is empty, or its form has none
pub fine_line : (k : Configuration) (line : List ℕ) → cause_of k line ≡ None → (form line ≡ NoForm) ⊎ IsFine k (form line)
fine_line k line e = by (is_empty (without_returns line)) refl e
  where
    by : (t : Bool) → is_empty (without_returns line) ≡ t → (if t then None else find (has k (form line)) causes) ≡ None → (form line ≡ NoForm) ⊎ IsFine k (form line)
    by true none e = let bare = nil_from_length (without_returns line) (eqb-true _ _ none) in inl (rw bare refl)
    by false some e = inr (no_cause k (form line) e)

-- ---- one line more

pub one_less : (line : List ℕ) (rest all : List (List ℕ)) (n : ℕ) → line ∷ rest ≡ drop n all → rest ≡ drop (n + 1) all
one_less line rest all n e = rw add-one (dropped line rest all n e)
  where
    dropped : (line : List ℕ) (rest all : List (List ℕ)) (n : ℕ) → line ∷ rest ≡ drop n all → rest ≡ drop (suc n) all
    dropped line rest [] zero e = absurd (cc)
    dropped line rest [] (suc n) e = absurd (cc)
    dropped line rest (x ∷ all) zero e = cc
    dropped line rest (x ∷ all) (suc n) e = dropped line rest all n e

pub one_more : (i : ℕ) (line : List ℕ) (rest all : List (List ℕ)) (j : Configuration) (n : ℕ) (m : Configuration) → read_from i m (take n all) ≡ Ok j → line ∷ rest ≡ drop n all
    → cause_of j line ≡ None → read_from i m (take (n + 1) all) ≡ Ok (with_line j line)
one_more i line rest all j n m fine e none = rw add-one (more i line rest all j n m fine e none)
  where
    more : (i : ℕ) (line : List ℕ) (rest all : List (List ℕ)) (j : Configuration) (n : ℕ) (m : Configuration) → read_from i m (take n all) ≡ Ok j → line ∷ rest ≡ drop n all
        → cause_of j line ≡ None → read_from i m (take (suc n) all) ≡ Ok (with_line j line)
    more i line rest [] j zero m fine e none = absurd (cc)
    more i line rest [] j (suc n) m fine e none = absurd (cc)
    more i line rest (x ∷ all) j zero m fine e none =
        let same : line ≡ x = cc in let start : m ≡ j = cc in
        rw (start, ← same, none) refl
    more i line rest (x ∷ all) j (suc n) m fine e none =
        let f = first_fine i m x (take n all) j fine in
        read_fine i m x (take (suc n) all) f.0 ∙ more (i + 1) line rest all j n (with_line m x) f.1 e none
