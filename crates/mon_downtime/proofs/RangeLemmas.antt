-- Moments that stay in range where the numbers of commands are.
use Rattle.std.proofs.Common.{◌≡◌, ℕ, ◌+◌, ◌≤◌, Bool, true, false, eqb, cond, List, [], ◌∷◌, length, Option, Some, None, refl, sym, subst, arith, max}
use Rattle.std.specs.List.{AllByRecursion}
use Rattle.cmd_types.specs.declared.limits.TheConstants.{GREATEST_NUMBER}
use Rattle.mon_downtime.specs.declared.downtime.Downtime.{Downtime}
use Rattle.mon_downtime.specs.declared.event.Event.{Event}
use Rattle.mon_downtime.specs.declared.downtime.Fate.{Fate}
use Rattle.mon_downtime.specs.declared.downtime.Fate.TheVariants.{Pending, Active, Over}
use Rattle.mon_downtime.specs.declared.event.EventKind.{EventKind}
use Rattle.mon_downtime.specs.declared.event.EventKind.TheVariants.{Ends, Expires, Starts}
use Rattle.mon_downtime.specs.Records.{record_of, IsRecord, AreRecords, IsSmallFate}
use Rattle.mon_downtime.specs.Events.{events_of, events_at, events, own_time, start_of, starts, since_of, active_since, from_entry, IsSmallEvent, fate_by, due, after_event}
use Rattle.mon_downtime.proofs.RecordLemmas.{numbered, record_found, AreRecords-with_fate, place_found}
use Rattle.mon_downtime.proofs.WorkLemmas.{all_flat, least_one, due_is_least, due_is_event, with_fate_of}

since_small : (ds : List Downtime) (d : Downtime) (id m : ℕ) → AreRecords 0 ds → (o : Option Downtime) → record_of ds id ≡ o → since_of o ≡ Some m → m ≤ GREATEST_NUMBER
since_small ds d id m w None e h = absurd (cc)
since_small ds d id m w (Some t) e h = by_fate t.fate (record_found 0 ds id t w e).1.fate_small h
  where
    by_fate : (f : Fate) → IsSmallFate f → active_since f ≡ Some m → m ≤ GREATEST_NUMBER
    by_fate Pending s h = absurd (cc)
    by_fate (Active since until) s h = subst (λ n. n ≤ GREATEST_NUMBER) (let same : since ≡ m = cc in same) s.0
    by_fate Over s h = absurd (cc)

from_entry_small : (o : Option ℕ) (entered m : ℕ) → entered ≤ GREATEST_NUMBER → ((n : ℕ) → o ≡ Some n → n ≤ GREATEST_NUMBER) → from_entry o entered ≡ Some m → m ≤ GREATEST_NUMBER
from_entry_small None entered m s k h = absurd (cc)
from_entry_small (Some n) entered m s k h =
    let same : max n entered ≡ m = cc in
    let small = k n refl in
    omega arith

pub start_small : (ds : List Downtime) (d : Downtime) (n m : ℕ) → AreRecords 0 ds → IsRecord n d → start_of ds d ≡ Some m → m ≤ GREATEST_NUMBER
start_small ds d n m w r h = by_trigger (eqb d.plan.times.trigger_id 0) h
  where
    by_fixed : (b : Bool) → cond b (from_entry (Some (own_time d)) d.entered) None ≡ Some m → m ≤ GREATEST_NUMBER
    by_fixed true h = from_entry_small (Some (own_time d)) d.entered m r.entered_small (λ k e. subst (λ x. x ≤ GREATEST_NUMBER) (let same : own_time d ≡ k = cc in same) (let own : own_time d ≤ GREATEST_NUMBER = (let small = r.start_small in omega arith) in own)) h
    by_fixed false h = absurd (cc)

    by_trigger : (b : Bool) → cond b (cond d.plan.times.fixed (from_entry (Some (own_time d)) d.entered) None) (from_entry (since_of (record_of ds d.plan.times.trigger_id)) d.entered) ≡ Some m → m ≤ GREATEST_NUMBER
    by_trigger true h = by_fixed d.plan.times.fixed h
    by_trigger false h = from_entry_small (since_of (record_of ds d.plan.times.trigger_id)) d.entered m r.entered_small (λ k e. since_small ds d d.plan.times.trigger_id k w (record_of ds d.plan.times.trigger_id) refl e) h

until_small : (b : Bool) (e m n : ℕ) → e ≤ GREATEST_NUMBER → m ≤ GREATEST_NUMBER → n ≤ GREATEST_NUMBER → cond b e (m + n) ≤ GREATEST_NUMBER + GREATEST_NUMBER
until_small true e m n h k l = omega arith
until_small false e m n h k l = omega arith

-- a start is at a moment in range
StartIsSmall : EventKind → ℕ → Type 0
StartIsSmall Ends m = Unit {0}
StartIsSmall Expires m = Unit {0}
StartIsSmall Starts m = m ≤ GREATEST_NUMBER

starts_small : (id : ℕ) (o : Option ℕ) → ((m : ℕ) → o ≡ Some m → m ≤ GREATEST_NUMBER) → AllByRecursion (λ (e : Event). StartIsSmall e.kind e.moment) (starts id o)
unfolding StartIsSmall
starts_small id None s = tt
starts_small id (Some m) s = (s m refl, tt)

events_small : (ds : List Downtime) (d : Downtime) (n : ℕ) → AreRecords 0 ds → IsRecord n d → AllByRecursion (λ (e : Event). StartIsSmall e.kind e.moment) (events_of ds d)
unfolding events_of StartIsSmall
events_small ds d n w r = by_fate d.fate
  where
    by_fate : (f : Fate) → AllByRecursion (λ (e : Event). StartIsSmall e.kind e.moment) (events_at ds d f)
    by_fate Pending = (tt, starts_small d.id (start_of ds d) (λ m k. start_small ds d n m w r k))
    by_fate (Active since until) = (tt, tt)
    by_fate Over = tt

all_events_small : (ds : List Downtime) → AreRecords 0 ds → AllByRecursion (λ (e : Event). StartIsSmall e.kind e.moment) (events ds)
unfolding events
all_events_small ds w = all_flat (λ (e : Event). StartIsSmall e.kind e.moment) (events_of ds) ds (each 0 ds w)
  where
    each : (n : ℕ) (xs : List Downtime) → AreRecords n xs → AllByRecursion (λ d. AllByRecursion (λ (e : Event). StartIsSmall e.kind e.moment) (events_of ds d)) xs
    each n [] a = tt
    each n (x ∷ xs) a = (events_small ds x n w a.0, each (n + 1) xs a.1)

fate_small : (n m : ℕ) (k : EventKind) (d : Downtime) → IsRecord n d → StartIsSmall k m → IsSmallFate (fate_by m k d)
unfolding StartIsSmall
fate_small n m Ends d r s = tt
fate_small n m Expires d r s = tt
fate_small n m Starts d r s = (s, until_small d.plan.times.fixed d.plan.times.end_time m d.plan.times.duration r.end_small s r.duration_small)

pub due_is_small : (ds : List Downtime) (t : ℕ) (e : Event) → AreRecords 0 ds → due ds t ≡ Some e → IsSmallEvent ds e
due_is_small ds t e w h =
    let event = due_is_event ds t e (numbered 0 ds w) h in
    let r = record_found 0 ds e.id event.of w event.found in
    let start = least_one (λ (e : Event). StartIsSmall e.kind e.moment) (events ds) e (all_events_small ds w) (due_is_least ds t e h).0 in
    record { event = event; small = fate_small r.0 e.moment e.kind event.of r.1 start }

-- the records are records after an event
pub AreRecords-after_event : (ds : List Downtime) (e : Event) → AreRecords 0 ds → IsSmallEvent ds e → AreRecords 0 (after_event ds e)
unfolding after_event
AreRecords-after_event ds e w h = subst (AreRecords 0) (sym (with_fate_of ds e.id (fate_by e.moment e.kind) h.event.of (numbered 0 ds w) h.event.found)) (AreRecords-with_fate 0 ds e.id (fate_by e.moment e.kind h.event.of) w h.small)

-- what `take_event` has to know of the event that is due
pub record IsTaken (ds : List Downtime) (e : Event) : Type 0 where
  pub event : IsSmallEvent ds e
  pub there : (1 ≤ e.id) × (e.id ≤ length ds)

pub due_is_taken : (ds : List Downtime) (t : ℕ) (e : Event) → AreRecords 0 ds → due ds t ≡ Some e → IsTaken ds e
due_is_taken ds t e w h =
    let is = due_is_small ds t e w h in
    let p = place_found ds e.id is.event.of (numbered 0 ds w) is.event.found in
    record { event = is; there = (p.first, p.last) }
