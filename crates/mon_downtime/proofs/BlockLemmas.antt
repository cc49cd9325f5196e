-- A block of events: which it has, and what stands where it is put among others.
use Rattle.std.proofs.Common.{◌≡◌, ℕ, ◌+◌, ◌-◌, ◌<◌, ◌≤◌, Bool, true, false, ◌||◌, List, [], ◌∷◌, ◌++◌, length, take, drop, refl, ap, sym, ◌∙◌, arith, add-one, zero, suc}
use Rattle.std.specs.List.{AllByRecursion}
use Rattle.std.proofs.lemmas.Bool.Decides.{nat_tests}
use Rattle.std.proofs.lemmas.List.{length-append, length-take-le, length-drop, take-append-le, drop-append-le, drop-take, drop-drop, take_rest, take_at, drop_at, drop_all, append-nil}
use borrow.Rule.Slice.PartMut.{put_mid}
use Rattle.mon_downtime.specs.declared.event.Event.{Event}
use Rattle.mon_downtime.specs.Events.{before}
use Rattle.mon_downtime.specs.Order.{same, has, Ascending}
use Rattle.mon_downtime.specs.Queue.{IsPlaceOf, in_block, block}
use Rattle.mon_downtime.proofs.OrderLemmas.{all_after_taken, all_dropped, all_joined}
use Rattle.mon_downtime.proofs.ListedLemmas.{has-append, event_itself}

pub has-block : (first : Event) (n : ℕ) (e : Event) → has (block first n) e ≡ in_block first n e
unfolding has block
has-block first zero e = none first e
  where
    none : (f e : Event) → false ≡ in_block f 0 e
    none f e = grind (arith, nat_tests)
has-block first (suc n) e = has-append (block first n) (record first { id = first.id + n } ∷ []) e ∙ ap (λ b. b || (same (record first { id = first.id + n }) e || false)) (has-block first n e) ∙ more first n e
  where
    more : (f : Event) (n : ℕ) (e : Event) → (in_block f n e || (same (record f { id = f.id + n }) e || false)) ≡ in_block f (suc n) e
    more f n e = grind (arith, nat_tests)

pub block-more : (first : Event) (n : ℕ) → block first (n + 1) ≡ block first n ++ record first { id = first.id + n } ∷ []
unfolding block
block-more first n = rw (add-one n) refl

pub length-block : (first : Event) (n : ℕ) → length (block first n) ≡ n
unfolding block
length-block first zero = refl
length-block first (suc n) =
    let rest = length-block first n in
    let all = length-append (block first n) (record first { id = first.id + n } ∷ []) in
    omega arith

-- a block of one
pub block-one : (first : Event) → block first 1 ≡ first ∷ []
unfolding block
block-one first = let same : first.id + 0 ≡ first.id = omega arith in rw same refl

-- ---- in order

-- all of these come before all of those
abbrev AllBefore : List Event → List Event → Type 0
AllBefore xs ys = AllByRecursion (λ x. AllByRecursion (λ y. before x y ≡ true) ys) xs

ascending_joined : (xs ys : List Event) → Ascending xs → Ascending ys → AllBefore xs ys → Ascending (xs ++ ys)
ascending_joined [] ys v w a = w
ascending_joined (x ∷ xs) ys v w a = (all_joined (λ y. before x y ≡ true) xs ys v.0 a.0, ascending_joined xs ys v.1 w a.1)

-- what comes before the first comes before all
before_block : (x first : Event) (n : ℕ) → before x first ≡ true → AllByRecursion (λ y. before x y ≡ true) (block first n)
unfolding block
before_block x first zero h = tt
before_block x first (suc n) h = all_joined (λ y. before x y ≡ true) (block first n) (record first { id = first.id + n } ∷ []) (before_block x first n h) (later x first n h, tt)
  where
    later : (x f : Event) (n : ℕ) → before x f ≡ true → before x (record f { id = f.id + n }) ≡ true
    later x f n h = grind (arith, nat_tests)

all_before_block : (first : Event) (n : ℕ) (xs : List Event) → AllByRecursion (λ x. before x first ≡ true) xs → AllBefore xs (block first n)
all_before_block first n [] w = tt
all_before_block first n (x ∷ xs) w = (before_block x first n w.0, all_before_block first n xs w.1)

block_below : (first : Event) (n k : ℕ) → n ≤ k → AllBefore (block first n) (record first { id = first.id + k } ∷ [])
unfolding block
block_below first zero k l = tt
block_below first (suc n) k l = all_joined (λ x. AllByRecursion (λ y. before x y ≡ true) (record first { id = first.id + k } ∷ [])) (block first n) (record first { id = first.id + n } ∷ []) (block_below first n k (omega arith)) ((next first n k (omega arith), tt), tt)
  where
    next : (f : Event) (n k : ℕ) → n < k → before (record f { id = f.id + n }) (record f { id = f.id + k }) ≡ true
    next f n k l = grind (arith, nat_tests)

pub ascending_block : (first : Event) (n : ℕ) → Ascending (block first n)
unfolding block
ascending_block first zero = tt
ascending_block first (suc n) = ascending_joined (block first n) (record first { id = first.id + n } ∷ []) (ascending_block first n) (tt, tt) (block_below first n n (omega arith))

-- ---- what comes after a block

-- none of these is one of the block
none_in : (first : Event) (n : ℕ) (es : List Event) → ((e : Event) → in_block first n e ≡ true → has es e ≡ false) → AllByRecursion (λ x. in_block first n x ≡ false) es
unfolding has
none_in first n [] new = tt
none_in first n (x ∷ es) new = (by_test (in_block first n x) refl, none_in first n es (λ e h. rest (same x e) (has es e) (new e h)))
  where
    by_test : (b : Bool) → in_block first n x ≡ b → in_block first n x ≡ false
    by_test true k = absurd (let no = new x k in let yes_it_is = event_itself x es in cc)
    by_test false k = k

    rest : (a b : Bool) → (a || b) ≡ false → b ≡ false
    rest true b h = absurd (cc)
    rest false b h = h

one_after : (first : Event) (n k : ℕ) (es : List Event) → k < n → AllByRecursion (λ x. before x first ≡ false) es → AllByRecursion (λ x. in_block first n x ≡ false) es → AllByRecursion (λ y. before (record first { id = first.id + k }) y ≡ true) es
one_after first n k [] l w v = tt
one_after first n k (y ∷ es) l w v = (after first n k y l w.0 v.0, one_after first n k es l w.1 v.1)
  where
    after : (f : Event) (n k : ℕ) (y : Event) → k < n → before y f ≡ false → in_block f n y ≡ false → before (record f { id = f.id + k }) y ≡ true
    after f n k y l h v = grind (arith, nat_tests)

after_block : (first : Event) (n m : ℕ) (es : List Event) → m ≤ n → AllByRecursion (λ x. before x first ≡ false) es → AllByRecursion (λ x. in_block first n x ≡ false) es → AllBefore (block first m) es
unfolding block
after_block first n zero es l w v = tt
after_block first n (suc m) es l w v = all_joined (λ x. AllByRecursion (λ y. before x y ≡ true) es) (block first m) (record first { id = first.id + m } ∷ []) (after_block first n m es (omega arith) w v) (one_after first n m es (omega arith) w v, tt)

-- ---- a block among others

not_dropped : (p : ℕ) (es : List Event) (e : Event) → has es e ≡ false → has (drop p es) e ≡ false
unfolding has
not_dropped zero es e h = h
not_dropped (suc p) [] e h = refl
not_dropped (suc p) (x ∷ es) e h = not_dropped p es e (rest (same x e) (has es e) h)
  where
    rest : (a b : Bool) → (a || b) ≡ false → b ≡ false
    rest true b h = absurd (cc)
    rest false b h = h

between : (p : ℕ) (es bs : List Event) → Ascending es → Ascending bs → AllBefore (take p es) bs → AllBefore bs (drop p es) → Ascending (take p es ++ (bs ++ drop p es))
between zero es bs w b below above = ascending_joined bs es b w above
between (suc p) [] bs w b below above = ascending_joined bs [] b tt above
between (suc p) (x ∷ es) bs w b below above =
    (all_joined (λ y. before x y ≡ true) (take p es) (bs ++ drop p es) (all_after_taken (λ y. before x y ≡ true) p es w.0) (all_joined (λ y. before x y ≡ true) bs (drop p es) below.0 (all_dropped (λ y. before x y ≡ true) p es w.0)), between p es bs w.1 b below.1 above)

pub ascending_put : (p : ℕ) (es : List Event) (first : Event) (n : ℕ) → Ascending es → IsPlaceOf es first p → ((e : Event) → in_block first n e ≡ true → has es e ≡ false) → Ascending (take p es ++ (block first n ++ drop p es))
ascending_put p es first n w place new =
    between p es (block first n) w (ascending_block first n) (all_before_block first n (take p es) place.below)
    (after_block first n n (drop p es) (omega arith) place.above (none_in first n (drop p es) (λ e h. not_dropped p es e (new e h))))

has-between : (p : ℕ) (es bs : List Event) (e : Event) → has (take p es ++ (bs ++ drop p es)) e ≡ (has bs e || has es e)
unfolding has
has-between zero es bs e = has-append bs es e
has-between (suc p) [] bs e = has-append bs [] e
has-between (suc p) (x ∷ es) bs e = ap (λ b. same x e || b) (has-between p es bs e) ∙ turned (same x e) (has bs e) (has es e)
  where
    turned : (a b c : Bool) → (a || (b || c)) ≡ (b || (a || c))
    turned true true c = refl
    turned true false c = refl
    turned false b c = refl

pub has-put : (p : ℕ) (es : List Event) (first : Event) (n : ℕ) (e : Event) → has (take p es ++ (block first n ++ drop p es)) e ≡ (in_block first n e || has es e)
has-put p es first n e = has-between p es (block first n) e ∙ ap (λ b. b || has es e) (has-block first n e)

-- ---- a list whose first `start` are left out

-- behind the start, others stand between what stood before a place and the rest
pub record IsPut (xs ys bs : List Event) (start p : ℕ) : Type 0 where
  pub within : start ≤ length ys
  pub behind : drop start ys ≡ take p (drop start xs) ++ (bs ++ drop p (drop start xs))

pub put_by : (start p : ℕ) (xs ys bs : List Event) → start ≤ length xs → p ≤ length (drop start xs) → ys ≡ take (start + p) xs ++ (bs ++ drop (start + p) xs) → IsPut xs ys bs start p
put_by start p xs ys bs s l is =
    let within : start + p ≤ length xs = omega (arith, length-drop start xs, l) in
    let front = length-take-le (start + p) xs within in
    let long = length-append (take (start + p) xs) (bs ++ drop (start + p) xs) in
    record {
      within = rw is (omega arith);
      behind = rw is (drop-append-le start (take (start + p) xs) (bs ++ drop (start + p) xs) (omega arith)
          ∙ ap (λ (zs : List Event). zs ++ (bs ++ drop (start + p) xs)) (drop-take start p xs)
          ∙ ap (λ (zs : List Event). take p (drop start xs) ++ (bs ++ zs)) (sym (drop-drop p start xs)));
    }

-- ---- the end of a list, turned to the right by the length of what was put behind it

pub end_turned : (at n : ℕ) (xs bs ws new : List Event) → ws ≡ xs ++ bs → at ≤ length xs → n ≡ length bs → new ≡ drop (length (take (length ws - at) (drop at ws)) - n) (take (length ws - at) (drop at ws)) ++ take (length (take (length ws - at) (drop at ws)) - n) (take (length ws - at) (drop at ws)) → put_mid at (length ws - at) ws new ≡ take at xs ++ (bs ++ drop at xs)
end_turned at n xs bs ws new w l m h =
    let mid : take (length ws - at) (drop at ws) ≡ drop at xs ++ bs = take_rest ws at ∙ ap (λ (zs : List Event). drop at zs) w ∙ drop-append-le at xs bs l in
    let long = length-append (drop at xs) bs in
    let place : length (drop at xs ++ bs) - n ≡ length (drop at xs) = omega (arith, long, m) in
    let none : drop (length ws - at) (drop at ws) ≡ [] = drop_all (length ws - at) (drop at ws) (omega (arith, length-drop at ws)) in
    let is : new ≡ bs ++ drop at xs = h ∙ (rw (mid, place, drop_at (drop at xs) bs (length (drop at xs)) refl, take_at (drop at xs) bs (length (drop at xs)) refl) refl) in
    let front : take at ws ≡ take at xs = ap (λ (zs : List Event). take at zs) w ∙ take-append-le at xs bs l in
    ap (λ (zs : List Event). take at ws ++ (new ++ zs)) none ∙ ap (λ (zs : List Event). take at ws ++ zs) (append-nil new ∙ is) ∙ ap (λ (zs : List Event). zs ++ (bs ++ drop at xs)) front
