-- One more entry, element or index at the end of a list.
use Rattle.std.proofs.Common.{◌≡◌, ◌≢◌, ℕ, zero, suc, ◌+◌, ◌<◌, Bool, true, false, cond, Option, Some, None, List, [], ◌∷◌, ◌++◌, length, map, get_or, eqb, if◌then◌else◌, refl, ap, ◌∙◌, sym, arith, inl, inr}
use Rattle.std.proofs.lemmas.List.{append-nil}
use Rattle.std.proofs.Math.ListN.{set}
use Rattle.std.proofs.lemmas.Bool.Decides.{eqb_tells}
use Rattle.std.specs.Map.{lookup}
use Rattle.std.specs.List.{position_from}
use Rattle.std.specs.Str.{bytes_eq}
use Rattle.mon_inventory.specs.Names.{named}
use Rattle.mon_inventory.specs.Lists.{indices_from}

-- a look-up by what a key holds
pub lookup_keys : {K J X : Type 0} (f : K → J) (test : J → Bool) (es : List (K × X)) → lookup (λ k. test (f k)) es ≡ lookup test (map (λ e. (f e.0, e.1)) es)
lookup_keys f test [] = refl
lookup_keys f test (e ∷ es) = ap (cond (test (f e.0)) (Some e.1)) (lookup_keys f test es)

abbrev pub by_name : {K X : Type 0} → (K → List ℕ) → K × X → List ℕ × X
by_name f e = (f e.0, e.1)

pushed : {K X : Type 0} (f : K → List ℕ) (es : List (K × X)) (k : K) (n : X) → map (by_name f) (es ++ (k, n) ∷ []) ≡ map (by_name f) es ++ (f k, n) ∷ []
pushed f [] k n = refl
pushed f (x ∷ es) k n = ap (λ t. by_name f x ∷ t) (pushed f es k n)

pub mapped_push : {K X : Type 0} (f : K → List ℕ) (es : List (K × X)) (k : K) (n : X) (base : List (List ℕ × X)) (name : List ℕ)
    → map (by_name f) es ≡ base → f k ≡ name → map (by_name f) (es ++ (k, n) ∷ []) ≡ base ++ (name, n) ∷ []
mapped_push {K} {X} f es k n base name e g =
    pushed f es k n ∙ ap (λ (b : List (List ℕ × X)). b ++ (f k, n) ∷ []) e ∙ ap (λ (m : List ℕ). let p : List ℕ × X = (m, n) in base ++ p ∷ []) g

abbrev pub or_else : Option ℕ → Option ℕ → Option ℕ
or_else None o = o
or_else (Some n) o = Some n

pub or_none : (o : Option ℕ) → or_else o None ≡ o
or_none None = refl
or_none (Some n) = refl

first_or : (n : ℕ) (a b d : Option ℕ) (t : Bool) → a ≡ or_else b d → cond t (Some n) a ≡ or_else (cond t (Some n) b) d
first_or n a b d true h = refl
first_or n a b d false h = h

pub named_push : (es : List (List ℕ × ℕ)) (k : List ℕ) (n : ℕ) (name : List ℕ) → named (es ++ (k, n) ∷ []) name ≡ or_else (named es name) (cond (bytes_eq name k) (Some n) None)
named_push [] k n name = refl
named_push (e ∷ es) k n name = first_or e.1 _ _ _ (bytes_eq name e.0) (named_push es k n name)

pub number_push : {X : Type 0} (test : X → Bool) (i : ℕ) (xs : List X) (x : X) → position_from test i (xs ++ x ∷ []) ≡ or_else (position_from test i xs) (cond (test x) (Some (i + length xs)) None)
number_push test i [] x = ap (λ n. cond (test x) (Some n) None) (let e : i ≡ i + 0 = omega arith in e)
number_push test i (y ∷ xs) x =
    let more : (i + 1) + length xs ≡ i + suc (length xs) = omega arith in
    first_or i _ _ _ (test y) (number_push test (i + 1) xs x ∙ ap (λ n. or_else (position_from test (i + 1) xs) (cond (test x) (Some n) None)) more)

pub indices_push : {X : Type 0} (test : X → Bool) (n : ℕ) (xs : List X) (x : X) → indices_from test n (xs ++ x ∷ []) ≡ indices_from test n xs ++ (if test x then (n + length xs) ∷ [] else [])
indices_push test n [] x = ap (λ k. if test x then k ∷ [] else []) (let e : n ≡ n + 0 = omega arith in e)
indices_push test n (y ∷ xs) x =
    let more : (n + 1) + length xs ≡ n + suc (length xs) = omega arith in
    let rest = indices_push test (n + 1) xs x ∙ ap (λ k. indices_from test (n + 1) xs ++ (if test x then k ∷ [] else [])) more in
    either n (test y) _ _ _ rest
  where
    either : (n : ℕ) (b : Bool) (us vs ws : List ℕ) → us ≡ vs ++ ws → (if b then n ∷ us else us) ≡ (if b then n ∷ vs else vs) ++ ws
    either n true us vs ws e = ap (λ (t : List ℕ). n ∷ t) e
    either n false us vs ws e = e

-- ---- lists by index, empty past their end

pub get_or_pad : {X : Type 0} (d : X) (xs : List X) (i : ℕ) → get_or (xs ++ d ∷ []) i d ≡ get_or xs i d
get_or_pad d [] zero = refl
get_or_pad d [] (suc i) = refl
get_or_pad d (x ∷ xs) zero = refl
get_or_pad d (x ∷ xs) (suc i) = get_or_pad d xs i

get_or_same : {X : Type 0} (d : X) (xs : List X) (i : ℕ) (x : X) → i < length xs → get_or (set xs i x) i d ≡ x
get_or_same d [] i x lt = absurd (omega arith)
get_or_same d (y ∷ xs) zero x lt = refl
get_or_same d (y ∷ xs) (suc i) x lt = get_or_same d xs i x (omega arith)

get_or_other : {X : Type 0} (d : X) (xs : List X) (i h : ℕ) (x : X) → i ≢ h → get_or (set xs i x) h d ≡ get_or xs h d
get_or_other d [] i h x ne = refl
get_or_other d (y ∷ xs) zero zero x ne = absurd (ne refl)
get_or_other d (y ∷ xs) zero (suc h) x ne = refl
get_or_other d (y ∷ xs) (suc i) zero x ne = refl
get_or_other d (y ∷ xs) (suc i) (suc h) x ne = get_or_other d xs i h x (λ e. ne (ap suc e))

pub get_or_set : {X : Type 0} (d : X) (xs : List X) (i h : ℕ) (x : X) → i < length xs → get_or (set xs i x) h d ≡ cond (eqb i h) x (get_or xs h d)
get_or_set d xs i h x lt =
    elim (eqb_tells i h) [
      | inl t ↦ rw (t.0, ← t.1) (get_or_same d xs i x lt)
      | inr t ↦ rw t.0 (get_or_other d xs i h x t.1)
    ]

-- ---- the indices of those that belong to each object

abbrev pub ToldBy : {X : Type 0} → (ℕ → X → Bool) → List X → List (List ℕ) → Type 0
ToldBy belongs xs lists = (h : ℕ) → get_or lists h [] ≡ indices_from (belongs h) 0 xs

module _ {X : Type 0} (belongs : ℕ → X → Bool) (xs : List X) (x : X) (lists : List (List ℕ)) (told : ToldBy belongs xs lists) where
  -- one that belongs to none
  pub told_kept : ((h : ℕ) → belongs h x ≡ false) → ToldBy belongs (xs ++ x ∷ []) lists
  told_kept none h =
      told h ∙ sym (indices_push (belongs h) 0 xs x ∙ ap (λ b. indices_from (belongs h) 0 xs ++ (if b then (0 + length xs) ∷ [] else [])) (none h) ∙ append-nil _)

  -- one that belongs to i
  pub told_more : (i n : ℕ) → ((h : ℕ) → belongs h x ≡ eqb i h) → i < length lists → n ≡ length xs → ToldBy belongs (xs ++ x ∷ []) (set lists i (get_or lists i [] ++ n ∷ []))
  told_more i n of lt count h =
      get_or_set [] lists i h _ lt
      ∙ by h
      ∙ sym (indices_push (belongs h) 0 xs x
      ∙ ap (λ b. indices_from (belongs h) 0 xs ++ (if b then (0 + length xs) ∷ [] else [])) (of h)
      ∙ ap (λ j. indices_from (belongs h) 0 xs ++ (if eqb i h then j ∷ [] else [])) (let z : 0 + length xs ≡ n = omega arith in z))
    where
      by : (h : ℕ) → cond (eqb i h) (get_or lists i [] ++ n ∷ []) (get_or lists h []) ≡ indices_from (belongs h) 0 xs ++ (if eqb i h then n ∷ [] else [])
      by h =
          elim (eqb_tells i h) [
            | inl t ↦ rw (t.0, ← t.1) (ap (λ (b : List ℕ). b ++ n ∷ []) (told i))
            | inr t ↦ rw t.0 (told h ∙ sym (append-nil _))
          ]

pub told_pad : {X : Type 0} (belongs : ℕ → X → Bool) (xs : List X) (lists : List (List ℕ)) → ToldBy belongs xs lists → ToldBy belongs xs (lists ++ [] ∷ [])
told_pad belongs xs lists told h = get_or_pad [] lists h ∙ told h
