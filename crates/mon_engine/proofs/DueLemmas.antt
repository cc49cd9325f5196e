-- What falls due is an event of the downtime with its id.
use Rattle.std.proofs.Common.{◌≡◌, ◌≢◌, ℕ, ◌≤◌, ◌<◌, Bool, true, false, eqb, max, List, [], All, Option, Some, None, if◌then◌else◌, refl, sym, subst, arith}
use Rattle.std.proofs.lemmas.Bool.{eqb-false}
use Rattle.std.proofs.lemmas.List.Elements.{All-nil, All-cons, All-weaker, All-contains}
use Rattle.mon_downtime.specs.declared.downtime.Downtime.{Downtime}
use Rattle.mon_downtime.specs.declared.downtime.Fate.{Fate}
use Rattle.mon_downtime.specs.declared.downtime.Fate.TheVariants.{Pending, Active, Over}
use Rattle.mon_downtime.specs.declared.event.Event.{Event}
use Rattle.mon_downtime.specs.declared.event.EventKind.{EventKind}
use Rattle.mon_downtime.specs.declared.event.EventKind.TheVariants.{Ends, Expires, Starts}
use Rattle.mon_downtime.specs.Records.{record_of}
use Rattle.mon_downtime.specs.Events.{events_of, events_at, events, start_of, starts, from_entry, since_of, due}
use Rattle.mon_downtime.specs.Due.{IsDue, DueIsFirst}
use Rattle.mon_engine.proofs.IdLemmas.{AreIds, each_found}
use Rattle.mon_engine.proofs.ListLemmas.{All-flat_map}

-- a start is not before the entry; a flexible downtime has one by its trigger alone
abbrev pub IsStart : Downtime → (moment : ℕ) → Type 0
IsStart r moment = (r.entered ≤ moment) × (r.plan.times.fixed ≡ false → r.plan.times.trigger_id ≢ 0)

-- an event of a record of this fate
abbrev pub IsOf : Downtime → (kind : EventKind) → (moment : ℕ) → Fate → Type 0
IsOf r Ends moment Pending = ⊥
IsOf r Expires moment Pending = moment ≡ r.plan.times.end_time
IsOf r Starts moment Pending = IsStart r moment
IsOf r Ends moment (Active since until) = moment ≡ until
IsOf r Expires moment (Active since until) = ⊥
IsOf r Starts moment (Active since until) = ⊥
IsOf r kind moment Over = ⊥

-- the event is of the record with its id
abbrev pub IsKnown : List Downtime → Event → Type 0
IsKnown ds e = (r : Downtime) × (record_of ds e.id ≡ Some r) × IsOf r e.kind e.moment r.fate

from_entry_late : (o : Option ℕ) (entered m : ℕ) → from_entry o entered ≡ Some m → entered ≤ m
from_entry_late None entered m h = absurd (cc)
from_entry_late (Some k) entered m h = let same : max k entered ≡ m = cc in omega arith

start_is : (ds : List Downtime) (d : Downtime) (m : ℕ) → start_of ds d ≡ Some m → IsStart d m
start_is ds d m h = by_trigger (eqb d.plan.times.trigger_id 0) refl h
  where
    by_fixed : (b : Bool) → d.plan.times.fixed ≡ b → (if b then from_entry (Some d.plan.times.start_time) d.entered else None) ≡ Some m → IsStart d m
    by_fixed true fixed h = (from_entry_late (Some d.plan.times.start_time) d.entered m h, λ flexible. absurd (cc))
    by_fixed false flexible h = absurd (cc)

    by_trigger : (b : Bool) → eqb d.plan.times.trigger_id 0 ≡ b → (if b then (if d.plan.times.fixed then from_entry (Some d.plan.times.start_time) d.entered else None) else from_entry (since_of (record_of ds d.plan.times.trigger_id)) d.entered) ≡ Some m → IsStart d m
    by_trigger true none h = by_fixed d.plan.times.fixed refl h
    by_trigger false some h = (from_entry_late (since_of (record_of ds d.plan.times.trigger_id)) d.entered m h, λ flexible. eqb-false d.plan.times.trigger_id 0 some)

starts_known : (ds : List Downtime) (d : Downtime) → record_of ds d.id ≡ Some d → d.fate ≡ Pending → (o : Option ℕ) → ((m : ℕ) → o ≡ Some m → IsStart d m) → All (IsKnown ds) (starts d.id o)
starts_known ds d h p None is = All-nil (IsKnown ds)
starts_known ds d h p (Some m) is = All-cons (IsKnown ds) (record { moment = m; kind = Starts; id = d.id }) [] (d, h, subst (IsOf d Starts m) (sym p) (is m refl)) (All-nil (IsKnown ds))

record_known : (ds : List Downtime) (d : Downtime) → record_of ds d.id ≡ Some d → All (IsKnown ds) (events_of ds d)
unfolding events_of
record_known ds d h = by_fate d.fate refl
  where
    by_fate : (f : Fate) → d.fate ≡ f → All (IsKnown ds) (events_at ds d f)
    by_fate Pending e = All-cons (IsKnown ds) (record { moment = d.plan.times.end_time; kind = Expires; id = d.id }) (starts d.id (start_of ds d)) (d, h, subst (IsOf d Expires d.plan.times.end_time) (sym e) refl) (starts_known ds d h e (start_of ds d) (λ m k. start_is ds d m k))
    by_fate (Active since until) e = All-cons (IsKnown ds) (record { moment = until; kind = Ends; id = d.id }) [] (d, h, subst (IsOf d Ends until) (sym e) refl) (All-nil (IsKnown ds))
    by_fate Over e = All-nil (IsKnown ds)

all_known : (ds : List Downtime) → AreIds 0 ds → All (IsKnown ds) (events ds)
unfolding events
all_known ds ids = All-flat_map (IsKnown ds) (events_of ds) ds
    (All-weaker (λ (r : Downtime). (0 < r.id) × (record_of ds r.id ≡ Some r)) (λ (r : Downtime). All (IsKnown ds) (events_of ds r)) (λ r k. record_known ds r k.1) ds (each_found 0 ds ids))

pub due_known : DueIsFirst → (ds : List Downtime) (t : ℕ) (e : Event) → AreIds 0 ds → due ds t ≡ Some e → IsKnown ds e × (e.moment ≤ t)
due_known first ds t e ids h =
    let is : IsDue (events ds) t (Some e) = subst (IsDue (events ds) t) h (first ds t) in
    (All-contains (IsKnown ds) (events ds) e (all_known ds ids) is.0.one, is.1)
