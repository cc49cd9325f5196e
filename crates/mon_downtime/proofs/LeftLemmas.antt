-- Each event leaves less to happen, whatever the list: each id counts once, with the most steps that one of its records has left.
use Rattle.std.proofs.Common.{◌≡◌, ℕ, ◌+◌, ◌-◌, ◌<◌, ◌≤◌, Bool, true, false, eqb, cond, max, List, [], ◌∷◌, Option, Some, None, refl, ap, ◌∙◌, arith}
use Rattle.std.specs.List.{AllByRecursion}
use Rattle.std.proofs.lemmas.Bool.{eqb-true, eq-eqb}
use Rattle.std.proofs.lemmas.Bool.Decides.{nat_tests}
use Rattle.mon_downtime.specs.declared.downtime.Downtime.{Downtime}
use Rattle.mon_downtime.specs.declared.downtime.Fate.{Fate}
use Rattle.mon_downtime.specs.declared.downtime.Fate.TheVariants.{Pending, Active, Over}
use Rattle.mon_downtime.specs.declared.event.Event.{Event}
use Rattle.mon_downtime.specs.declared.event.EventKind.{EventKind}
use Rattle.mon_downtime.specs.declared.event.EventKind.TheVariants.{Ends, Expires, Starts}
use Rattle.mon_downtime.specs.Records.{with_fate}
use Rattle.mon_downtime.specs.Events.{events_of, events_at, events, start_of, starts, steps_left, fate_by, work, due, after_event}
use Rattle.mon_downtime.proofs.WorkLemmas.{all_flat, least_one, due_is_least}

-- the most steps that a record with this id has left
abbrev pub most : ℕ → List Downtime → ℕ
most id [] = 0
most id (d ∷ ds) = cond (eqb d.id id) (max (steps_left d.fate) (most id ds)) (most id ds)

-- of each id that most, once
abbrev pub left : List Downtime → ℕ
left [] = 0
left (d ∷ ds) = (steps_left d.fate - most d.id ds) + left ds

pub left_within : (ds : List Downtime) → left ds ≤ work ds
unfolding work
left_within [] = omega arith
left_within (d ∷ ds) = let rest = left_within ds in omega arith

-- ---- another fate for one id

most_other : (x y : ℕ) (f : Downtime → Fate) (ds : List Downtime) → eqb x y ≡ false → most y (with_fate ds x f) ≡ most y ds
most_other x y f [] n = refl
most_other x y f (d ∷ ds) n = by_test (eqb d.id x) refl (most_other x y f ds n)
  where
    by_test : (b : Bool) → eqb d.id x ≡ b → most y (with_fate ds x f) ≡ most y ds → most y (cond b (record d { fate = f d }) d ∷ with_fate ds x f) ≡ most y (d ∷ ds)
    by_test true e rest = let other : eqb d.id y ≡ false = ap (λ (k : ℕ). eqb k y) (eqb-true d.id x e) ∙ n in rw other rest
    by_test false e rest = ap (λ (m : ℕ). cond (eqb d.id y) (max (steps_left d.fate) m) m) rest

-- what the id has left more or less, all have left more or less
balance : (x : ℕ) (f : Downtime → Fate) (ds : List Downtime) → left (with_fate ds x f) + most x ds ≡ left ds + most x (with_fate ds x f)
balance x f [] = refl
balance x f (d ∷ ds) = by_test (eqb d.id x) refl (balance x f ds)
  where
    by_test : (b : Bool) → eqb d.id x ≡ b → left (with_fate ds x f) + most x ds ≡ left ds + most x (with_fate ds x f)
        → left (cond b (record d { fate = f d }) d ∷ with_fate ds x f) + cond (eqb d.id x) (max (steps_left d.fate) (most x ds)) (most x ds)
        ≡ ((steps_left d.fate - most d.id ds) + left ds) + most x (cond b (record d { fate = f d }) d ∷ with_fate ds x f)
    by_test true e rest =
        let is = eqb-true d.id x e in
        let before : most d.id ds ≡ most x ds = ap (λ (k : ℕ). most k ds) is in
        let after : most d.id (with_fate ds x f) ≡ most x (with_fate ds x f) = ap (λ (k : ℕ). most k (with_fate ds x f)) is in
        rw e (omega (arith, before, after, rest))
    by_test false e rest =
        let other : eqb x d.id ≡ false = grind (arith, nat_tests) in
        let same : most d.id (with_fate ds x f) ≡ most d.id ds = most_other x d.id f ds other in
        rw e (omega (arith, same, rest))

most_after : (x v : ℕ) (f : Downtime → Fate) → ((d : Downtime) → steps_left (f d) ≤ v) → (ds : List Downtime) → most x (with_fate ds x f) ≤ v
most_after x v f h [] = omega arith
most_after x v f h (d ∷ ds) = by_test (eqb d.id x) refl (most_after x v f h ds)
  where
    by_test : (b : Bool) → eqb d.id x ≡ b → most x (with_fate ds x f) ≤ v → most x (cond b (record d { fate = f d }) d ∷ with_fate ds x f) ≤ v
    by_test true e rest = let here = h d in rw e (omega (arith, here, rest))
    by_test false e rest = rw e rest

left_falls : (x v : ℕ) (f : Downtime → Fate) (ds : List Downtime) → ((d : Downtime) → steps_left (f d) ≤ v) → v < most x ds → left (with_fate ds x f) < left ds
left_falls x v f ds h more = let all = balance x f ds in let few = most_after x v f h ds in omega arith

-- ---- events

-- the most steps that a record has left after such an event
abbrev steps_after : EventKind → ℕ
steps_after Ends = 0
steps_after Expires = 0
steps_after Starts = 1

few_after : (moment : ℕ) (kind : EventKind) (d : Downtime) → steps_left (fate_by moment kind d) ≤ steps_after kind
few_after moment Ends d = omega arith
few_after moment Expires d = omega arith
few_after moment Starts d = omega arith

-- the event leaves its id less than one of its records has
abbrev IsSpent : List Downtime → Event → Type 0
IsSpent ds e = steps_after e.kind < most e.id ds

each_most : (ds : List Downtime) (limit : ℕ → ℕ) → ((y : ℕ) → most y ds ≤ limit y) → AllByRecursion (λ (d : Downtime). steps_left d.fate ≤ limit d.id) ds
each_most [] limit h = tt
each_most (d ∷ ds) limit h = (here, each_most ds limit rest)
  where
    here : steps_left d.fate ≤ limit d.id
    here = let top = h d.id in let at : most d.id (d ∷ ds) ≡ max (steps_left d.fate) (most d.id ds) = rw (eq-eqb d.id d.id refl) refl in omega arith

    rest : (y : ℕ) → most y ds ≤ limit y
    rest y = by_test (eqb d.id y) (h y)
      where
        by_test : (b : Bool) → cond b (max (steps_left d.fate) (most y ds)) (most y ds) ≤ limit y → most y ds ≤ limit y
        by_test true k = omega arith
        by_test false k = k

start_spent : (ds : List Downtime) (id : ℕ) → 2 ≤ most id ds → (o : Option ℕ) → AllByRecursion (IsSpent ds) (starts id o)
start_spent ds id h None = tt
start_spent ds id h (Some m) = (omega arith, tt)

record_spent : (ds : List Downtime) (d : Downtime) → steps_left d.fate ≤ most d.id ds → AllByRecursion (IsSpent ds) (events_of ds d)
unfolding events_of
record_spent ds d h = by_fate d.fate h
  where
    by_fate : (fate : Fate) → steps_left fate ≤ most d.id ds → AllByRecursion (IsSpent ds) (events_at ds d fate)
    by_fate Pending h = (omega arith, start_spent ds d.id h (start_of ds d))
    by_fate (Active since until) h = (omega arith, tt)
    by_fate Over h = tt

all_spent : (ds : List Downtime) → AllByRecursion (IsSpent ds) (events ds)
unfolding events
all_spent ds = all_flat (IsSpent ds) (events_of ds) ds (each ds (each_most ds (λ y. most y ds) (λ y. omega arith)))
  where
    each : (xs : List Downtime) → AllByRecursion (λ (d : Downtime). steps_left d.fate ≤ most d.id ds) xs → AllByRecursion (λ d. AllByRecursion (IsSpent ds) (events_of ds d)) xs
    each [] a = tt
    each (x ∷ xs) a = (record_spent ds x a.0, each xs a.1)

-- what is due leaves less
pub due_falls : (ds : List Downtime) (t : ℕ) (e : Event) → due ds t ≡ Some e → left (after_event ds e) < left ds
unfolding after_event
due_falls ds t e h = left_falls e.id (steps_after e.kind) (fate_by e.moment e.kind) ds (few_after e.moment e.kind) (least_one (IsSpent ds) (events ds) e (all_spent ds) (due_is_least ds t e h).0)
