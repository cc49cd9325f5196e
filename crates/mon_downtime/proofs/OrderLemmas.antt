-- Events in order: what stands where, and what a removal leaves.
use Rattle.std.proofs.Common.{◌≡◌, ℕ, ◌+◌, ◌<◌, ◌≤◌, Bool, true, false, not, ◌&&◌, ◌||◌, List, [], ◌∷◌, ◌++◌, length, get_or, take, drop, refl, ◌∙◌, arith, nat_le, zero, suc}
use Rattle.std.proofs.Common.{sym, ap}
use Rattle.std.proofs.Math.Bool.{and-true}
use Rattle.std.specs.List.{AllByRecursion, remove}
use Rattle.std.specs.List.Sorted.{IsPartitionedBy, IsPartitionPoint}
use Rattle.std.proofs.lemmas.Bool.Decides.{nat_tests}
use Rattle.mon_downtime.specs.declared.event.Event.{Event}
use Rattle.mon_downtime.specs.Events.{before}
use Rattle.mon_downtime.specs.Order.{same, has, Ascending}
use Rattle.mon_downtime.specs.Queue.{ArePartedBy, IsPlaceOf, IsFoundAt}
use Rattle.mon_downtime.proofs.EventLemmas.{before_trans}

After : Event → List Event → Type 0
After e es = AllByRecursion (λ y. before e y ≡ true) es

-- ---- two events

pub same_after : (a b : Event) → before a b ≡ true → same a b ≡ false
same_after a b h = grind (arith, nat_tests)

same_before : (a b : Event) → before a b ≡ true → same b a ≡ false
same_before a b h = grind (arith, nat_tests)

before_same : (a b c : Event) → before a b ≡ true → same b c ≡ true → same a c ≡ false
before_same a b c h k = grind (arith, nat_tests)

-- ---- events after one

after_less : (a b : Event) (es : List Event) → before a b ≡ true → AllByRecursion (λ y. before b y ≡ true) es → AllByRecursion (λ y. before a y ≡ true) es
after_less a b [] h w = tt
after_less a b (x ∷ es) h w = (before_trans a b x h w.0, after_less a b es h w.1)

-- what comes after an event is not that event
pub not_after : (a e : Event) (es : List Event) → AllByRecursion (λ y. before a y ≡ true) es → same a e ≡ true → has es e ≡ false
unfolding has
not_after a e [] w h = refl
not_after a e (x ∷ es) w h =
    let not_it : same x e ≡ false = other a e x w.0 h in
    let rest = not_after a e es w.1 h in
    rw (not_it, rest) refl
  where
    other : (a e x : Event) → before a x ≡ true → same a e ≡ true → same x e ≡ false
    other a e x h k = grind (arith, nat_tests)

pub all_after_taken : (P : Event → Type 0) (n : ℕ) (es : List Event) → AllByRecursion P es → AllByRecursion P (take n es)
all_after_taken P zero es w = tt
all_after_taken P (suc n) [] w = tt
all_after_taken P (suc n) (x ∷ es) w = (w.0, all_after_taken P n es w.1)

pub all_dropped : (P : Event → Type 0) (n : ℕ) (es : List Event) → AllByRecursion P es → AllByRecursion P (drop n es)
all_dropped P zero es w = w
all_dropped P (suc n) [] w = tt
all_dropped P (suc n) (x ∷ es) w = all_dropped P n es w.1

pub all_joined : (P : Event → Type 0) (xs ys : List Event) → AllByRecursion P xs → AllByRecursion P ys → AllByRecursion P (xs ++ ys)
all_joined P [] ys v w = w
all_joined P (x ∷ xs) ys v w = (v.0, all_joined P xs ys v.1 w)

-- ---- where an event stands

at_after : (e : Event) (es : List Event) (j : ℕ) (d : Event) → AllByRecursion (λ y. before e y ≡ true) es → j < length es → before e (get_or es j d) ≡ true
at_after e [] j d w h = absurd (omega arith)
at_after e (x ∷ es) zero d w h = w.0
at_after e (x ∷ es) (suc j) d w h = at_after e es j d w.1 (omega arith)

-- where a test holds of each event before one of which it holds, it holds of the first of these
pub parted_by : (p : Event → Bool) (es : List Event) → ((x y : Event) → before x y ≡ true → p y ≡ true → p x ≡ true) → Ascending es → IsPartitionedBy p es
parted_by p [] down w = λ i j d h k b. absurd (omega arith)
parted_by p (x ∷ es) down w = λ i j d h k b. by_place (parted_by p es down w.1) i j d h k b
  where
    by_place : IsPartitionedBy p es → (i j : ℕ) (d : Event) → i ≤ j → j < length (x ∷ es) → p (get_or (x ∷ es) j d) ≡ true → p (get_or (x ∷ es) i d) ≡ true
    by_place rest zero zero d h k b = b
    by_place rest zero (suc j) d h k b = down x (get_or es j d) (at_after x es j d w.0 (omega arith)) b
    by_place rest (suc i) zero d h k b = absurd (omega arith)
    by_place rest (suc i) (suc j) d h k b = rest i j d (omega arith) (omega arith) b

pub parted : (e : Event) (es : List Event) → Ascending es → IsPartitionedBy (λ x. before x e) es
parted e es w = parted_by (λ x. before x e) es (λ x y h k. before_trans x y e h k) w

pub parted_moments : (t : ℕ) (es : List Event) → Ascending es → IsPartitionedBy (λ x. nat_le x.moment t) es
parted_moments t es w = parted_by (λ x. nat_le x.moment t) es (λ x y h k. sooner x y h k) w
  where
    sooner : (x y : Event) → before x y ≡ true → nat_le y.moment t ≡ true → nat_le x.moment t ≡ true
    sooner x y h k = grind (arith, nat_tests)

all_below : (P : Event → Type 0) (n : ℕ) (es : List Event) → ((k : ℕ) (d : Event) → k < n → P (get_or es k d)) → n ≤ length es → AllByRecursion P (take n es)
all_below P zero es h l = tt
all_below P (suc n) [] h l = absurd (omega arith)
all_below P (suc n) (x ∷ es) h l = (h 0 x (omega arith), all_below P n es (λ k d i. h (suc k) d (omega arith)) (omega arith))

all_above : (P : Event → Type 0) (n : ℕ) (es : List Event) → ((k : ℕ) (d : Event) → n ≤ k → k < length es → P (get_or es k d)) → AllByRecursion P (drop n es)
all_above P zero [] h = tt
all_above P zero (x ∷ es) h = (h 0 x (omega arith) (omega arith), all_above P zero es (λ k d i j. h (suc k) d (omega arith) (omega arith)))
all_above P (suc n) [] h = tt
all_above P (suc n) (x ∷ es) h = all_above P n es (λ k d i j. h (suc k) d (omega arith) (omega arith))

pub place_is : (e : Event) (es : List Event) (n : ℕ) → n ≤ length es → IsPartitionPoint (λ x. before x e ≡ true) (λ x. before x e ≡ false) es n → IsPlaceOf es e n
place_is e es n l p = record {
  within = l;
  below = all_below (λ x. before x e ≡ true) n es (λ k d h. p.0 k d (omega arith) h) l;
  above = all_above (λ x. before x e ≡ false) n es (λ k d h i. p.1 k d h i);
}

pub moments_are : (t : ℕ) (es : List Event) (n : ℕ) → n ≤ length es → IsPartitionPoint (λ x. nat_le x.moment t ≡ true) (λ x. nat_le x.moment t ≡ false) es n → ArePartedBy es t n
moments_are t es n l p = record {
  within = l;
  below = all_below (λ x. nat_le x.moment t ≡ true) n es (λ k d h. p.0 k d (omega arith) h) l;
  above = all_above (λ x. nat_le x.moment t ≡ false) n es (λ k d h i. p.1 k d h i);
}

-- ---- a removal

pub ascending_removed : (n : ℕ) (es : List Event) → Ascending es → Ascending (remove es n)
ascending_removed zero [] w = tt
ascending_removed zero (x ∷ es) w = w.1
ascending_removed (suc n) [] w = tt
ascending_removed (suc n) (x ∷ es) w = (all_joined (λ y. before x y ≡ true) (take n es) (drop (suc n) es) (all_after_taken (λ y. before x y ≡ true) n es w.0) (all_dropped (λ y. before x y ≡ true) (suc n) es w.0), ascending_removed n es w.1)

pub has-removed : (n : ℕ) (es : List Event) (e f d : Event) → Ascending es → n < length es → same (get_or es n d) e ≡ true → has (remove es n) f ≡ (has es f && not (same e f))
unfolding has
has-removed n [] e f d w l h = absurd (omega arith)
has-removed zero (x ∷ es) e f d w l h = by_test (same e f) refl
  where
    alike : (x e f : Event) → same x e ≡ true → same x f ≡ same e f
    alike x e f h = grind (arith, nat_tests)

    by_test : (b : Bool) → same e f ≡ b → has es f ≡ ((same x f || has es f) && not b)
    by_test true k =
        let is : same x f ≡ true = alike x e f h ∙ k in
        let none = not_after x f es w.0 is in
        rw (none, is) refl
    by_test false k =
        let is : same x f ≡ false = alike x e f h ∙ k in
        rw is (sym (and-true (has es f)))
has-removed (suc n) (x ∷ es) e f d w l h =
    let rest = has-removed n es e f d w.1 (omega arith) h in
    let first : same x e ≡ false = before_same x (get_or es n d) e (at_after x es n d w.0 (omega arith)) h in
    by_test (same x f) refl rest first
  where
    alike : (x e f : Event) → same x f ≡ true → same x e ≡ false → same e f ≡ false
    alike x e f h k = grind (arith, nat_tests)

    by_test : (b : Bool) → same x f ≡ b → has (remove es n) f ≡ (has es f && not (same e f)) → same x e ≡ false → (b || has (remove es n) f) ≡ ((b || has es f) && not (same e f))
    by_test true k r first = let no = alike x e f k first in rw no refl
    by_test false k r first = r

-- an event that does not stand at its place is not there
pub absent : (n : ℕ) (es : List Event) (e : Event) → Ascending es → IsPlaceOf es e n → ((d : Event) → n < length es → same (get_or es n d) e ≡ false) → has es e ≡ false
unfolding has
absent n [] e w p h = refl
absent zero (x ∷ es) e w p h =
    let first : same x e ≡ false = h x (omega arith) in
    let next : before e x ≡ true = after x e p.above.0 first in
    let none = not_later e es (after_less e x es next w.0) in
    rw (first, none) refl
  where
    after : (x e : Event) → before x e ≡ false → same x e ≡ false → before e x ≡ true
    after x e h k = grind (arith, nat_tests)

    not_later : (e : Event) (es : List Event) → AllByRecursion (λ y. before e y ≡ true) es → has es e ≡ false
    not_later e [] w = refl
    not_later e (y ∷ es) w = let a = same_before e y w.0 in let b = not_later e es w.1 in rw (a, b) refl
absent (suc n) (x ∷ es) e w p h =
    let first : same x e ≡ false = same_after x e p.below.0 in
    let rest = absent n es e w.1 (record { within = (let l = p.within in omega arith); below = p.below.1; above = p.above }) (λ d l. h d (omega arith)) in
    rw (first, rest) refl

-- events that are the same are both there or not
pub same_has : (es : List Event) (e f : Event) → same e f ≡ true → has es f ≡ has es e
unfolding has
same_has [] e f k = refl
same_has (y ∷ es) e f k = let a = one y e f k in let b = same_has es e f k in rw (a, b) refl
  where
    one : (x e f : Event) → same e f ≡ true → same x f ≡ same x e
    one x e f k = grind (arith, nat_tests)

pub has-absent : (es : List Event) (e f : Event) → has es e ≡ false → has es f ≡ (has es f && not (same e f))
unfolding has
has-absent [] e f h = refl
has-absent (x ∷ es) e f h = by_test (same e f) refl
  where
    by_test : (b : Bool) → same e f ≡ b → has (x ∷ es) f ≡ (has (x ∷ es) f && not b)
    by_test true k = let no : has (x ∷ es) f ≡ false = same_has (x ∷ es) e f k ∙ h in rw no refl
    by_test false k = sym (and-true (has (x ∷ es) f))

-- an event that is found is there
pub found_there : (es : List Event) (e : Event) (n : ℕ) → IsFoundAt es e n → has es e ≡ true
unfolding has
found_there [] e n f = absurd (let l = f.within in omega arith)
found_there (x ∷ es) e zero f = let is = f.there x in rw is refl
found_there (x ∷ es) e (suc n) f = let rest = found_there es e n (record { within = (let l = f.within in omega arith); there = f.there }) in ap (λ b. same x e || b) rest ∙ or-true (same x e)
  where
    or-true : (b : Bool) → (b || true) ≡ true
    or-true true = refl
    or-true false = refl

-- ---- the events behind a start

pub remove_behind : (s n : ℕ) (xs : List Event) → s ≤ length xs → drop s (remove xs (s + n)) ≡ remove (drop s xs) n
remove_behind zero n xs h = let k : 0 + n ≡ n = omega arith in rw k refl
remove_behind (suc s) n [] h = absurd (omega arith)
remove_behind (suc s) n (x ∷ xs) h = let k : suc s + n ≡ suc (s + n) = omega arith in rw k (remove_behind s n xs (omega arith))
