-- A downtime starts in its time, and what is not due is to come.
use Rattle.std.proofs.Common.{◌≡◌, ◌≢◌, ℕ, ◌<◌, ◌≤◌, Bool, true, false, eqb, ltb, cond, ◌&&◌, max, List, [], ◌∷◌, ◌++◌, All, Option, Some, None, if◌then◌else◌, refl, sym, ◌∙◌, subst, arith}
use Rattle.std.specs.List.{AllByRecursion, flat_map}
use Rattle.std.proofs.lemmas.Bool.{eqb-true, eqb-false, or_parts}
use Rattle.std.proofs.lemmas.Bool.Decides.{nat_tests}
use Rattle.std.proofs.lemmas.List.Elements.{All-contains, All-from_recursion, recursion_from_All}
use Rattle.mon_downtime.specs.declared.downtime.Downtime.{Downtime}
use Rattle.mon_downtime.specs.declared.downtime.Fate.{Fate}
use Rattle.mon_downtime.specs.declared.downtime.Fate.TheVariants.{Pending, Active, Over}
use Rattle.mon_downtime.specs.declared.event.Event.{Event}
use Rattle.mon_downtime.specs.declared.event.EventKind.{EventKind}
use Rattle.mon_downtime.specs.declared.event.EventKind.TheVariants.{Ends, Expires, Starts}
use Rattle.mon_downtime.specs.Records.{record_of, is_active}
use Rattle.mon_downtime.specs.Events.{before, events_of, events_at, events, own_time, start_of, starts, from_entry, active_since, since_of}
use Rattle.mon_downtime.specs.Due.{IsDue}
use Rattle.mon_downtime.specs.Times.{StartedWith, StartedBy, StartedInTime, is_active_in, StartsAreInTime, IsAfter, WhatIsNotDueIsToCome}
use Rattle.mon_downtime.proofs.DueLemmas.{due_is_first}
use Rattle.mon_downtime.proofs.WorkLemmas.{all_flat}

-- ---- what is due

-- a start is that of its record, which is pending
abbrev IsRightStart : List Downtime → Downtime → (moment : ℕ) → EventKind → Type 0
IsRightStart ds r m Starts = (r.fate ≡ Pending) × (start_of ds r ≡ Some m)
IsRightStart ds r m Ends = Unit {0}
IsRightStart ds r m Expires = Unit {0}

abbrev IsRight : List Downtime → Event → Type 0
IsRight ds e = (r : Downtime) × (record_of ds e.id ≡ Some r) × IsRightStart ds r e.moment e.kind

starts_right : (ds : List Downtime) (d : Downtime) → record_of ds d.id ≡ Some d → d.fate ≡ Pending → (o : Option ℕ) → start_of ds d ≡ o → AllByRecursion (IsRight ds) (starts d.id o)
starts_right ds d h p None is = tt
starts_right ds d h p (Some m) is = ((d, h, (p, is)), tt)

record_right : (ds : List Downtime) (d : Downtime) → record_of ds d.id ≡ Some d → AllByRecursion (IsRight ds) (events_of ds d)
unfolding events_of
record_right ds d h = by_fate d.fate refl
  where
    by_fate : (f : Fate) → d.fate ≡ f → AllByRecursion (IsRight ds) (events_at ds d f)
    by_fate Pending p = ((d, h, tt), starts_right ds d h p (start_of ds d) refl)
    by_fate (Active since until) p = ((d, h, tt), tt)
    by_fate Over p = tt

all_right : (ds : List Downtime) → All (λ (x : Downtime). record_of ds x.id ≡ Some x) ds → All (IsRight ds) (events ds)
unfolding events
all_right ds found = All-from_recursion (IsRight ds) (events ds) (all_flat (IsRight ds) (events_of ds) ds (each ds (recursion_from_All (λ (x : Downtime). record_of ds x.id ≡ Some x) ds found)))
  where
    each : (xs : List Downtime) → AllByRecursion (λ (x : Downtime). record_of ds x.id ≡ Some x) xs → AllByRecursion (λ x. AllByRecursion (IsRight ds) (events_of ds x)) xs
    each [] a = tt
    each (x ∷ xs) a = (record_right ds x a.0, each xs a.1)

parts : {X : Type 0} (P : X → Type 0) (xs ys : List X) → AllByRecursion P (xs ++ ys) → AllByRecursion P xs × AllByRecursion P ys
parts P [] ys a = (tt, a)
parts P (x ∷ xs) ys a = (let r = parts P xs ys a.1 in ((a.0, r.0), r.1))

-- what holds of all events holds of those of a record
of_record : (P : Event → Type 0) (ds xs : List Downtime) (id : ℕ) (r : Downtime) → record_of xs id ≡ Some r → AllByRecursion P (flat_map (events_of ds) xs) → AllByRecursion P (events_of ds r)
of_record P ds [] id r h a = absurd (cc)
of_record P ds (x ∷ xs) id r h a = by_test (λ k. of_record P ds xs id r k (parts P (events_of ds x) (flat_map (events_of ds) xs) a).1) (eqb x.id id) h
  where
    by_test : (record_of xs id ≡ Some r → AllByRecursion P (events_of ds r)) → (b : Bool) → cond b (Some x) (record_of xs id) ≡ Some r → AllByRecursion P (events_of ds r)
    by_test again true k = let same : x ≡ r = cc in subst (λ (y : Downtime). AllByRecursion P (events_of ds y)) same (parts P (events_of ds x) (flat_map (events_of ds) xs) a).0
    by_test again false k = again k

of_events : (P : Event → Type 0) (ds : List Downtime) (id : ℕ) (r : Downtime) → record_of ds id ≡ Some r → AllByRecursion P (events ds) → AllByRecursion P (events_at ds r r.fate)
unfolding events events_of
of_events P ds id r h a = of_record P ds ds id r h a

-- a start that no expiry comes before is before the end
not_expired : (end m i j : ℕ) (kind : EventKind) → kind ≡ Starts → before (record { moment = end; kind = Expires; id = i }) (record { moment = m; kind = kind; id = j }) ≡ false → m < end
not_expired end m i j Ends e h = absurd (cc)
not_expired end m i j Expires e h = absurd (cc)
not_expired end m i j Starts e h =
    let both = or_parts (ltb end m) (eqb end m && true) h in
    let late : m ≤ end = (let not_less = both.0 in grind (arith, nat_tests)) in
    let other = eqb-false end m (sym (and_true (eqb end m)) ∙ both.1) in
    omega arith
  where
    and_true : (b : Bool) → (b && true) ≡ b
    and_true true = refl
    and_true false = refl

-- a start by an event is in time
event_start : (ds : List Downtime) (d : Downtime) (m : ℕ) → start_of ds d ≡ Some m → m < d.plan.times.end_time → StartedInTime ds d m
event_start ds d m h late = by_trigger (eqb d.plan.times.trigger_id 0) refl h
  where
    alone : d.plan.times.trigger_id ≡ 0 → max (own_time d) d.entered ≡ m → StartedInTime ds d m
    alone none e = record {
      entered = omega arith;
      before_end = late;
      trigger = λ some. absurd (some none);
      window = λ t. omega arith;
      at_window = λ t fixed. sym e;
    }

    by_fixed : (b : Bool) → d.plan.times.trigger_id ≡ 0 → (if b then from_entry (Some (own_time d)) d.entered else None) ≡ Some m → StartedInTime ds d m
    by_fixed true none k = alone none (let same : max (own_time d) d.entered ≡ m = cc in same)
    by_fixed false none k = absurd (cc)

    with_trigger : (d.plan.times.trigger_id ≡ 0 → ⊥) → d.entered ≤ m → StartedBy d m (record_of ds d.plan.times.trigger_id) → StartedInTime ds d m
    with_trigger some entered began = record {
      entered = entered;
      before_end = late;
      trigger = λ t. began;
      window = λ none. absurd (some none);
      at_window = λ none. absurd (some none);
    }

    by_fate : (t : Downtime) (f : Fate) → t.fate ≡ f → (d.plan.times.trigger_id ≡ 0 → ⊥) → record_of ds d.plan.times.trigger_id ≡ Some t → from_entry (active_since f) d.entered ≡ Some m → StartedInTime ds d m
    by_fate t Pending e some there k = absurd (cc)
    by_fate t (Active since until) e some there k =
        let same : max since d.entered ≡ m = cc in
        with_trigger some (omega arith) (subst (StartedBy d m) (sym there) (subst (StartedWith d m) (sym e) (sym same)))
    by_fate t Over e some there k = absurd (cc)

    by_record : (o : Option Downtime) → record_of ds d.plan.times.trigger_id ≡ o → (d.plan.times.trigger_id ≡ 0 → ⊥) → from_entry (since_of o) d.entered ≡ Some m → StartedInTime ds d m
    by_record None there some k = absurd (cc)
    by_record (Some t) there some k = by_fate t t.fate refl some there k

    by_trigger : (b : Bool) → eqb d.plan.times.trigger_id 0 ≡ b → (if b then (if d.plan.times.fixed then from_entry (Some (own_time d)) d.entered else None) else from_entry (since_of (record_of ds d.plan.times.trigger_id)) d.entered) ≡ Some m → StartedInTime ds d m
    by_trigger true e k = by_fixed d.plan.times.fixed (eqb-true d.plan.times.trigger_id 0 e) k
    by_trigger false e k = by_record (record_of ds d.plan.times.trigger_id) refl (eqb-false d.plan.times.trigger_id 0 e) k

-- with its trigger, which is active
event_trigger : (ds : List Downtime) (d : Downtime) (m : ℕ) → start_of ds d ≡ Some m → d.plan.times.trigger_id ≢ 0 → is_active_in (record_of ds d.plan.times.trigger_id) ≡ true
event_trigger ds d m h some = by_trigger (eqb d.plan.times.trigger_id 0) refl h
  where
    by_fate : (f : Fate) → from_entry (active_since f) d.entered ≡ Some m → is_active f ≡ true
    by_fate Pending k = absurd (cc)
    by_fate (Active since until) k = refl
    by_fate Over k = absurd (cc)

    by_record : (o : Option Downtime) → from_entry (since_of o) d.entered ≡ Some m → is_active_in o ≡ true
    by_record None k = absurd (cc)
    by_record (Some t) k = by_fate t.fate k

    by_trigger : (b : Bool) → eqb d.plan.times.trigger_id 0 ≡ b → (if b then (if d.plan.times.fixed then from_entry (Some (own_time d)) d.entered else None) else from_entry (since_of (record_of ds d.plan.times.trigger_id)) d.entered) ≡ Some m → is_active_in (record_of ds d.plan.times.trigger_id) ≡ true
    by_trigger true e k = absurd (some (eqb-true d.plan.times.trigger_id 0 e))
    by_trigger false e k = by_record (record_of ds d.plan.times.trigger_id) k

-- ---- the laws

pub starts_are_in_time : StartsAreInTime
starts_are_in_time ds t e d found h is_start there =
    let is : IsDue (events ds) t (Some e) = subst (IsDue (events ds) t) h (due_is_first ds t) in
    let right = All-contains (IsRight ds) (events ds) e (all_right ds found) is.0.one in
    let one : right.0 ≡ d = (let it = right.1 in cc) in
    let starts_it : IsRightStart ds d e.moment Starts = subst (λ (kind : EventKind). IsRightStart ds d e.moment kind) is_start (subst (λ (y : Downtime). IsRightStart ds y e.moment e.kind) one right.2) in
    let late = expiry (subst (λ (f : Fate). AllByRecursion (λ y. before y e ≡ false) (events_at ds d f)) starts_it.0 (of_events (λ y. before y e ≡ false) ds e.id d there is.0.none_before)) in
    (starts_it.0, is.1, event_start ds d e.moment starts_it.1 late, event_trigger ds d e.moment starts_it.1)
  where
    expiry : AllByRecursion (λ y. before y e ≡ false) (events_at ds d Pending) → e.moment < d.plan.times.end_time
    expiry a = not_expired d.plan.times.end_time e.moment d.id e.id e.kind is_start a.0

pub what_is_not_due_is_to_come : WhatIsNotDueIsToCome
what_is_not_due_is_to_come ds t d h there = by_fate d.fate (of_events (λ f. t < f.moment) ds d.id d there (subst (IsDue (events ds) t) h (due_is_first ds t)))
  where
    later : (o : Option ℕ) (m : ℕ) → o ≡ Some m → AllByRecursion (λ (f : Event). t < f.moment) (starts d.id o) → t < m
    later None m e a = absurd (cc)
    later (Some k) m e a = let same : k ≡ m = cc in subst (λ (n : ℕ). t < n) same a.0

    by_fate : (f : Fate) → AllByRecursion (λ (f : Event). t < f.moment) (events_at ds d f) → IsAfter ds d t f
    by_fate Pending a = (a.0, λ m k. later (start_of ds d) m k a.1)
    by_fate (Active since until) a = a.0
    by_fate Over a = tt
