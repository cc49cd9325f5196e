-- Distinct events of the records are no more than twice their number.
use Rattle.std.proofs.Common.{◌≡◌, ℕ, ◌+◌, ◌*◌, ◌≤◌, Bool, true, false, ◌||◌, List, [], ◌∷◌, length, Option, Some, None, refl, sym, ◌∙◌, arith}
use Rattle.std.proofs.lemmas.Bool.{or_right}
use Rattle.std.specs.Prelude.{vec_capacity, IfSome}
use Rattle.std.specs.List.{flat_map}
use Rattle.std.proofs.lemmas.List.{length-append}
use Rattle.std.proofs.lemmas.Bool.Decides.{nat_tests}
use Rattle.mon_downtime.specs.declared.downtime.Downtime.{Downtime}
use Rattle.mon_downtime.specs.declared.downtime.Fate.{Fate}
use Rattle.mon_downtime.specs.declared.downtime.Fate.TheVariants.{Pending, Active, Over}
use Rattle.mon_downtime.specs.declared.event.Event.{Event}
use Rattle.mon_downtime.specs.declared.queue.Queue.{Queue}
use Rattle.mon_downtime.specs.Records.{AreNumbered}
use Rattle.mon_downtime.specs.Events.{start_of, starts, events_of, events_at, events}
use Rattle.mon_downtime.specs.Order.{same, has, Ascending}
use Rattle.mon_downtime.specs.Queue.{queued, in_block_of, block}
use Rattle.mon_downtime.specs.Listed.{is_event, IsPartOf}
use Rattle.mon_downtime.proofs.OrderLemmas.{not_after}
use Rattle.mon_downtime.proofs.ListedLemmas.{event_itself, events_by_id, same_itself}
use Rattle.mon_downtime.proofs.BlockLemmas.{has-block, length-block, ascending_block}

-- a list without the first of its events that is x
without_by : Event → Event → List Event → List Event → Bool → List Event
without_by x y ys rest true = ys
without_by x y ys rest false = y ∷ rest

without : Event → List Event → List Event
without x [] = []
without x (y ∷ ys) = without_by x y ys (without x ys) (same y x)

one_less : (x : Event) (ys : List Event) → has ys x ≡ true → length (without x ys) + 1 ≡ length ys
unfolding has without without_by
one_less x [] h = absurd (cc)
one_less x (y ∷ ys) h = by_test (same y x) (λ k. one_less x ys k) h
  where
    by_test : (b : Bool) → (has ys x ≡ true → length (without x ys) + 1 ≡ length ys) → (b || has ys x) ≡ true → length (without_by x y ys (without x ys) b) + 1 ≡ length (y ∷ ys)
    by_test true again k = omega arith
    by_test false again k = let r = again k in omega arith

still_has : (x e : Event) (ys : List Event) → has ys e ≡ true → same x e ≡ false → has (without x ys) e ≡ true
unfolding has without without_by
still_has x e [] h n = absurd (cc)
still_has x e (y ∷ ys) h n = by_test (same y x) refl (λ k. still_has x e ys k n) h
  where
    not_it : (y x e : Event) → same y x ≡ true → same x e ≡ false → same y e ≡ false
    not_it y x e h k = grind (arith, nat_tests)

    by_rest : (a : Bool) → (has ys e ≡ true → has (without x ys) e ≡ true) → (a || has ys e) ≡ true → (a || has (without x ys) e) ≡ true
    by_rest true again k = refl
    by_rest false again k = again k

    by_test : (b : Bool) → same y x ≡ b → (has ys e ≡ true → has (without x ys) e ≡ true) → (same y e || has ys e) ≡ true → has (without_by x y ys (without x ys) b) e ≡ true
    by_test true i again k = let no = not_it y x e i n in rw no at k
    by_test false i again k = by_rest (same y e) again k

same_has : (x e : Event) (ys : List Event) → same x e ≡ true → has ys e ≡ has ys x
unfolding has
same_has x e [] h = refl
same_has x e (y ∷ ys) h = let a = one y x e h in let b = same_has x e ys h in rw (a, b) refl
  where
    one : (y x e : Event) → same x e ≡ true → same y e ≡ same y x
    one y x e h = grind (arith, nat_tests)

-- an event of a list that does not have x is not x
not_same : (x e : Event) (xs : List Event) → has xs x ≡ false → has xs e ≡ true → same x e ≡ false
not_same x e xs n h = by_test (same x e) refl
  where
    by_test : (b : Bool) → same x e ≡ b → same x e ≡ false
    by_test true k = absurd (let it = same_has x e xs k in cc)
    by_test false k = k

has_later : (x e : Event) (xs : List Event) → has xs e ≡ true → has (x ∷ xs) e ≡ true
unfolding has
has_later x e xs h = or_right (same x e) (has xs e) h

-- distinct events that all stand in a list are no more than it has
no_more : (xs ys : List Event) → Ascending xs → ((e : Event) → has xs e ≡ true → has ys e ≡ true) → length xs ≤ length ys
no_more [] ys w sub = omega arith
no_more (x ∷ xs) ys w sub =
    let less = one_less x ys (sub x (event_itself x xs)) in
    let rest = no_more xs (without x ys) w.1 (λ e h. still_has x e ys (sub e (has_later x e xs h)) (not_same x e xs (not_after x x xs w.0 (same_itself x)) h)) in
    omega arith

-- nor are those of two lists that share none
no_more_of_two : (bs xs ys : List Event) → Ascending bs → Ascending xs → ((e : Event) → has bs e ≡ true → has ys e ≡ true) → ((e : Event) → has xs e ≡ true → has ys e ≡ true) → ((e : Event) → has bs e ≡ true → has xs e ≡ false) → length xs + length bs ≤ length ys
no_more_of_two [] xs ys b w sub_b sub_x apart = let n = no_more xs ys w sub_x in omega arith
no_more_of_two (x ∷ bs) xs ys b w sub_b sub_x apart =
    let less = one_less x ys (sub_b x (event_itself x bs)) in
    let rest = no_more_of_two bs xs (without x ys) b.1 w
    (λ e h. still_has x e ys (sub_b e (has_later x e bs h)) (not_same x e bs (not_after x x bs b.0 (same_itself x)) h))
    (λ e h. still_has x e ys (sub_x e h) (not_same x e xs (apart x (event_itself x bs)) h))
    (λ e h. apart e (has_later x e bs h)) in
    omega arith

two_each : (ds xs : List Downtime) → length (flat_map (events_of ds) xs) ≤ 2 * length xs
unfolding events_of
two_each ds [] = omega arith
two_each ds (x ∷ xs) =
    let rest = two_each ds xs in
    let one = by_fate x.fate in
    omega (arith, length-append (events_at ds x x.fate) (flat_map (events_of ds) xs))
  where
    by_start : (id : ℕ) (o : Option ℕ) → length (starts id o) ≤ 1
    by_start id None = omega arith
    by_start id (Some m) = omega arith

    by_fate : (f : Fate) → length (events_at ds x f) ≤ 2
    by_fate Pending = let s = by_start x.id (start_of ds x) in omega arith
    by_fate (Active since until) = omega arith
    by_fate Over = omega arith

-- there is room for a block of these events that are not in yet
pub fits_in : (ys : List Event) (q : Queue) (o : Option Event) (n : ℕ) → Ascending (queued q) → length ys ≤ vec_capacity q.list → ((e : Event) → in_block_of o n e ≡ true → has ys e ≡ true) → ((e : Event) → has (queued q) e ≡ true → has ys e ≡ true) → ((e : Event) → in_block_of o n e ≡ true → has (queued q) e ≡ false) → IfSome o (λ _. length (queued q) + n ≤ vec_capacity q.list)
fits_in ys q None n w room all some new = tt
fits_in ys q (Some x) n w room all some new =
    let less = no_more_of_two (block x n) (queued q) ys (ascending_block x n) w (λ e h. all e (sym (has-block x n e) ∙ h)) some (λ e h. new e (sym (has-block x n e) ∙ h)) in
    let long = length-block x n in
    omega arith

-- there is room for a block of events of the records that are not in yet
pub fits : (ds : List Downtime) (q : Queue) (o : Option Event) (n : ℕ) → AreNumbered 0 ds → IsPartOf ds q → ((e : Event) → in_block_of o n e ≡ true → is_event ds e ≡ true) → ((e : Event) → in_block_of o n e ≡ true → has (queued q) e ≡ false) → IfSome o (λ _. length (queued q) + n ≤ vec_capacity q.list)
unfolding events
fits ds q o n w p all new =
    let most = two_each ds ds in
    let room = p.room in
    fits_in (events ds) q o n p.queue.ascending (omega arith) (λ e h. events_by_id ds e w ∙ all e h) (λ e h. events_by_id ds e w ∙ p.some e h) new
