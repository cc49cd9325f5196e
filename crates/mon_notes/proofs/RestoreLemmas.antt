-- Comments that were there before: their ids are looked at one after another, and each is listed behind those before it.
use Rattle.std.proofs.Common.{◌≡◌, inl, inr, ℕ, ◌+◌, ◌<◌, ◌≤◌, true, List, [], ◌∷◌, ◌++◌, length, take, drop, get_or, Option, ap, sym, ◌∙◌, subst, arith, zero, suc}
use Rattle.std.proofs.Math.Seq.{take-suc}
use Rattle.std.proofs.lemmas.Bool.{cases_lt}
use Rattle.std.proofs.lemmas.Option.{slice_get-get_or, slice_get_past}
use Rattle.std.specs.Prelude.{IfSome}
use Rattle.std.specs.Option.{option_map, unwrap_or}
use Rattle.std.specs.List.{AllByRecursion}
use Rattle.mon_notes.specs.declared.comment.Comment.{Comment}
use Rattle.mon_notes.specs.Comments.{AreAscending, AreWithin, id_before, ComesAfter}
use Rattle.mon_notes.specs.declared.comment.Group.{Group}
use Rattle.mon_notes.specs.Listed.{Listing, goes, has, ids_of, AreListed}
use Rattle.mon_notes.proofs.ListedLemmas.{listed_push}

-- ---- in order

pub list_within : (most low : ℕ) (cs : List Comment) → AreAscending low cs → AllByRecursion (λ (c : Comment). c.id ≤ most) cs → AreWithin low most cs
list_within most low [] a g = tt
list_within most low (c ∷ cs) a g = (a.0, g.0, list_within most c.id cs a.1 g.1)

pub within_ascending : (most low : ℕ) (cs : List Comment) → AreWithin low most cs → AreAscending low cs
within_ascending most low [] w = tt
within_ascending most low (c ∷ cs) w = (w.0, within_ascending most c.id cs w.2)

pub within_given : (most low : ℕ) (cs : List Comment) → AreWithin low most cs → AllByRecursion (λ (c : Comment). c.id ≤ most) cs
within_given most low [] w = tt
within_given most low (c ∷ cs) w = (w.1, within_given most c.id cs w.2)

pub take_ascending : (low n : ℕ) (cs : List Comment) → AreAscending low cs → AreAscending low (take n cs)
take_ascending low zero cs a = tt
take_ascending low (suc n) [] a = tt
take_ascending low (suc n) (c ∷ cs) a = (a.0, take_ascending c.id n cs a.1)

-- the next one is above the bound, and not above the greatest
pub within_at : (most low i : ℕ) (cs : List Comment) (d : Comment) → i < length cs → AreWithin low most (drop i cs) → (low < (get_or cs i d).id) × ((get_or cs i d).id ≤ most)
within_at most low i [] d h w = absurd (omega arith)
within_at most low zero (c ∷ cs) d h w = (w.0, w.1)
within_at most low (suc i) (c ∷ cs) d h w = within_at most low i cs d (omega arith) w

pub within_end : (most low n : ℕ) (cs : List Comment) → length cs ≤ n → AreWithin low most (drop n cs)
within_end most low zero [] h = tt
within_end most low (suc n) [] h = tt
within_end most low zero (c ∷ cs) h = absurd (omega arith)
within_end most low (suc n) (c ∷ cs) h = within_end most low n cs (omega arith)

-- ---- each after the one before it

pub each_more : (P : ℕ → Type 0) (i : ℕ) → P i → ((k : ℕ) → k < i → P k) → (k : ℕ) → k < i + 1 → P k
each_more P i here all k l = elim (cases_lt k i) [
  | inl low ↦ all k low
  | inr high ↦ subst P (let same : i ≡ k = omega (arith, high, l) in same) here
]

-- what is said of a comment that is read
abbrev IsAfter : (most : ℕ) → List Comment → ℕ → Option Comment → Type 0
IsAfter most cs i o = IfSome o (λ c. (id_before cs i < c.id) × (c.id ≤ most))

pub after_there : (most : ℕ) (cs : List Comment) (i : ℕ) (d : Comment) → i < length cs → ComesAfter most cs i → (id_before cs i < (get_or cs i d).id) × ((get_or cs i d).id ≤ most)
after_there most cs i d h w = subst (IsAfter most cs i) (slice_get-get_or cs i d h) w

pub there_after : (most : ℕ) (cs : List Comment) (i : ℕ) (d : Comment) → i < length cs → (id_before cs i < (get_or cs i d).id) × ((get_or cs i d).id ≤ most) → ComesAfter most cs i
there_after most cs i d h w = subst (IsAfter most cs i) (sym (slice_get-get_or cs i d h)) w

-- its id is the one before the next
pub id_there : (cs : List Comment) (i : ℕ) (d : Comment) → i < length cs → (get_or cs i d).id ≡ id_before cs (i + 1)
id_there cs i d h =
    let next : suc i ≡ i + 1 = omega arith in
    sym (ap (λ (o : Option Comment). unwrap_or (option_map (λ x. x.id) o) 0) (slice_get-get_or cs i d h)) ∙ ap (id_before cs) next

pub all_after : (most : ℕ) (cs : List Comment) (n : ℕ) → length cs ≤ n → ((k : ℕ) → k < n → ComesAfter most cs k) → (k : ℕ) → ComesAfter most cs k
all_after most cs n h all k = elim (cases_lt k n) [
  | inl low ↦ all k low
  | inr high ↦ subst (IsAfter most cs k) (sym (slice_get_past cs k (omega (arith, h, high)))) tt
]

-- ---- listed

-- one comment more of those that are listed
pub next_listed : (l : Listing) (cs : List Comment) (i : ℕ) (c d : Comment) → i < length cs → c ≡ get_or cs i d → AreListed l (take i cs) → ((g : Group) → goes g c ≡ true → has (ids_of l g) c.id ≡ true) → AreListed l (take (i + 1) cs)
next_listed l cs i c d h is w there =
    let next : suc i ≡ i + 1 = omega arith in
    let more : take (i + 1) cs ≡ take i cs ++ c ∷ [] = ap (λ n. take n cs) (sym next) ∙ take-suc cs i d h ∙ ap (λ (x : Comment). take i cs ++ x ∷ []) (sym is) in
    rw more (listed_push l (take i cs) c w there)
