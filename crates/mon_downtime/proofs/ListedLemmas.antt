-- The events of the records one by one, and how a change of fate changes them.
use Rattle.std.proofs.Common.{◌≡◌, ℕ, ◌+◌, Bool, true, false, eqb, cond, not, ◌&&◌, ◌||◌, List, [], ◌∷◌, ◌++◌, Option, Some, None, refl, ap, sym, ◌∙◌, append_assoc, subst, arith}
use Rattle.std.proofs.Math.Bool.{and-false, or-false}
use Rattle.std.specs.List.{flat_map}
use Rattle.std.specs.Prelude.{vec_capacity, IfSome}
use Rattle.std.specs.Option.{option_map, option_to_list}
use Rattle.std.proofs.lemmas.Bool.{eqb-true, or_right, or_left, and_parts}
use Rattle.std.proofs.lemmas.Bool.Decides.{nat_tests}
use Rattle.mon_downtime.specs.declared.downtime.Downtime.{Downtime}
use Rattle.mon_downtime.specs.declared.downtime.Fate.{Fate}
use Rattle.mon_downtime.specs.declared.downtime.Fate.TheVariants.{Pending, Active, Over}
use Rattle.mon_downtime.specs.declared.event.Event.{Event}
use Rattle.mon_downtime.specs.declared.event.EventKind.{EventKind}
use Rattle.mon_downtime.specs.declared.event.EventKind.TheVariants.{Ends, Expires, Starts}
use Rattle.mon_downtime.specs.Records.{record_of, with_fate, changed, AreNumbered}
use Rattle.mon_downtime.specs.Events.{own_time, start_of, starts, since_of, from_entry, events_of, events_at, events}
use Rattle.mon_downtime.specs.Order.{same, has}
use Rattle.mon_downtime.specs.Cancel.{trigger_of, trigger_in}
use Rattle.mon_downtime.specs.declared.queue.Queue.{Queue}
use Rattle.mon_downtime.specs.Queue.{IsQueue, queued}
use Rattle.mon_downtime.specs.Listed.{IsPartOf, starts_of, starts_at, lasts_of, lasts_at, events_in, has_event, is_event, starts_in, lasts_in, is_start, is_last, hangs_on}
use Rattle.mon_downtime.proofs.RecordLemmas.{record_of_earlier, id_found}

-- ---- tests

or_assoc : (a b c : Bool) → (a || (b || c)) ≡ ((a || b) || c)
or_assoc true b c = refl
or_assoc false b c = refl

pub has-append : (xs ys : List Event) (e : Event) → has (xs ++ ys) e ≡ (has xs e || has ys e)
unfolding has
has-append [] ys e = refl
has-append (x ∷ xs) ys e = ap (λ b. same x e || b) (has-append xs ys e) ∙ or_assoc (same x e) (has xs e) (has ys e)

-- ---- the events of one record

other_id : (m : ℕ) (k : EventKind) (id : ℕ) (e : Event) → eqb id e.id ≡ false → same (record { moment = m; kind = k; id = id }) e ≡ false
other_id m k id e h = grind (arith, nat_tests)

starts_other : (id : ℕ) (o : Option ℕ) (e : Event) → eqb id e.id ≡ false → has (starts id o) e ≡ false
unfolding has
starts_other id None e h = refl
starts_other id (Some m) e h = let k = other_id m Starts id e h in rw k refl

pub starts_of_other : (ds : List Downtime) (d : Downtime) (e : Event) → eqb d.id e.id ≡ false → has (starts_of ds d) e ≡ false
unfolding has starts_of
starts_of_other ds d e h = by_fate d.fate
  where
    by_fate : (f : Fate) → has (starts_at ds d f) e ≡ false
    by_fate Pending = starts_other d.id (start_of ds d) e h
    by_fate (Active since until) = refl
    by_fate Over = refl

pub lasts_of_other : (d : Downtime) (e : Event) → eqb d.id e.id ≡ false → has (lasts_of d) e ≡ false
unfolding has lasts_of
lasts_of_other d e h = by_fate d.fate
  where
    by_fate : (f : Fate) → has (lasts_at d f) e ≡ false
    by_fate Pending = let k = other_id d.plan.times.end_time Expires d.id e h in rw k refl
    by_fate (Active since until) = let k = other_id until Ends d.id e h in rw k refl
    by_fate Over = refl

-- a record's events are what lasts, and its start
pub events_split : (ds : List Downtime) (d : Downtime) (e : Event) → has (events_of ds d) e ≡ (has (lasts_of d) e || has (starts_of ds d) e)
unfolding has events_of lasts_of starts_of
events_split ds d e = by_fate d.fate
  where
    by_fate : (f : Fate) → has (events_at ds d f) e ≡ (has (lasts_at d f) e || has (starts_at ds d f) e)
    by_fate Pending = ap (λ b. b || has (starts d.id (start_of ds d)) e) (sym (or-false (same (record { moment = d.plan.times.end_time; kind = Expires; id = d.id }) e)))
    by_fate (Active since until) = sym (or-false (same (record { moment = until; kind = Ends; id = d.id }) e || false))
    by_fate Over = refl

-- the events of a record that is there are what lasts, and then its start
pub events_appended : (ds : List Downtime) (o : Option Downtime) (es : List Event) → (es ++ lasts_in o) ++ starts_in ds o ≡ es ++ events_in ds o
unfolding events_of lasts_of starts_of
events_appended ds o es = append_assoc es (lasts_in o) (starts_in ds o) ∙ ap (λ (xs : List Event). es ++ xs) (parts o)
  where
    by_fate : (d : Downtime) (f : Fate) → lasts_at d f ++ starts_at ds d f ≡ events_at ds d f
    by_fate d Pending = refl
    by_fate d (Active since until) = refl
    by_fate d Over = refl

    parts : (o : Option Downtime) → lasts_in o ++ starts_in ds o ≡ events_in ds o
    parts None = refl
    parts (Some d) = by_fate d d.fate

-- an expiry is no start
pub no_expiry_starts : (m n id : ℕ) (e : Event) → (same (record { moment = m; kind = Expires; id = id }) e && same (record { moment = n; kind = Starts; id = id }) e) ≡ false
no_expiry_starts m n id e = grind (arith, nat_tests)

-- what lasts is no start
lasts_no_start : (ds : List Downtime) (d : Downtime) (e : Event) → (has (lasts_of d) e && has (starts_of ds d) e) ≡ false
unfolding has lasts_of starts_of
lasts_no_start ds d e = by_fate d.fate
  where
    by_start : (o : Option ℕ) → ((same (record { moment = d.plan.times.end_time; kind = Expires; id = d.id }) e || false) && has (starts d.id o) e) ≡ false
    by_start None = and-false (same (record { moment = d.plan.times.end_time; kind = Expires; id = d.id }) e || false)
    by_start (Some m) =
        ap (λ b. b && (same (record { moment = m; kind = Starts; id = d.id }) e || false)) (or-false (same (record { moment = d.plan.times.end_time; kind = Expires; id = d.id }) e))
        ∙ ap (λ b. same (record { moment = d.plan.times.end_time; kind = Expires; id = d.id }) e && b) (or-false (same (record { moment = m; kind = Starts; id = d.id }) e))
        ∙ no_expiry_starts d.plan.times.end_time m d.id e

    by_fate : (f : Fate) → (has (lasts_at d f) e && has (starts_at ds d f) e) ≡ false
    by_fate Pending = by_start (start_of ds d)
    by_fate (Active since until) = and-false (same (record { moment = until; kind = Ends; id = d.id }) e || false)
    by_fate Over = refl

pub events_of_other : (ds : List Downtime) (d : Downtime) (e : Event) → eqb d.id e.id ≡ false → has (events_of ds d) e ≡ false
events_of_other ds d e h = let a = lasts_of_other d e h in let b = starts_of_other ds d e h in events_split ds d e ∙ (rw (a, b) refl)

-- ---- all events

-- events that each record has with its id: one is among all where it is among those of the record with its id
pub flat_has : (n : ℕ) (own : Option Downtime → List Event) (xs : List Downtime) (e : Event) → own None ≡ [] → ((d : Downtime) → eqb d.id e.id ≡ false → has (own (Some d)) e ≡ false) → AreNumbered n xs → has (flat_map (λ d. own (Some d)) xs) e ≡ has (own (record_of xs e.id)) e
unfolding has
flat_has n own [] e none other w = sym (ap (λ (es : List Event). has es e) none)
flat_has n own (x ∷ xs) e none other w = has-append (own (Some x)) (flat_map (λ d. own (Some d)) xs) e ∙ ap (λ b. has (own (Some x)) e || b) (flat_has (n + 1) own xs e none other w.1) ∙ by_test (eqb x.id e.id) refl
  where
    by_test : (b : Bool) → eqb x.id e.id ≡ b → (has (own (Some x)) e || has (own (record_of xs e.id)) e) ≡ has (own (cond b (Some x) (record_of xs e.id))) e
    by_test true h =
        let next = w.0.id_next in
        let is = eqb-true x.id e.id h in
        ap (λ (o : Option Downtime). has (own (Some x)) e || has (own o) e) (record_of_earlier (n + 1) xs e.id w.1 (omega arith)) ∙ ap (λ (es : List Event). has (own (Some x)) e || has es e) none ∙ or-false (has (own (Some x)) e)
    by_test false h = ap (λ b. b || has (own (record_of xs e.id)) e) (other x h)

-- an event is one of all where it is one of the record with its id
pub events_by_id : (ds : List Downtime) (e : Event) → AreNumbered 0 ds → has (events ds) e ≡ is_event ds e
unfolding events is_event has
events_by_id ds e w = flat_has 0 (events_in ds) ds e refl (λ d. events_of_other ds d e) w ∙ by_record (record_of ds e.id)
  where
    by_record : (o : Option Downtime) → has (events_in ds o) e ≡ has_event ds o e
    by_record None = refl
    by_record (Some d) = refl

-- ---- a change of fate

pub record_changed : (ds : List Downtime) (id x : ℕ) (g : Downtime → Fate) → record_of (with_fate ds id g) x ≡ option_map (changed id g) (record_of ds x)
record_changed [] id x g = refl
record_changed (d ∷ ds) id x g = by_change (eqb d.id id) (record_changed ds id x g)
  where
    by_test : (b : Bool) (y : Downtime) → record_of (with_fate ds id g) x ≡ option_map (changed id g) (record_of ds x) → changed id g d ≡ y → cond b (Some y) (record_of (with_fate ds id g) x) ≡ option_map (changed id g) (cond b (Some d) (record_of ds x))
    by_test true y again k = ap (λ v. Some v) (sym k)
    by_test false y again k = again

    by_change : (b : Bool) → record_of (with_fate ds id g) x ≡ option_map (changed id g) (record_of ds x) → record_of (changed id g d ∷ with_fate ds id g) x ≡ option_map (changed id g) (record_of (d ∷ ds) x)
    by_change b again = same_id ∙ by_test (eqb d.id x) (changed id g d) again refl
      where
        keeps : (c : Bool) → eqb (cond c (record d { fate = g d }) d).id x ≡ eqb d.id x
        keeps true = refl
        keeps false = refl

        same_id : record_of (changed id g d ∷ with_fate ds id g) x ≡ cond (eqb d.id x) (Some (changed id g d)) (record_of (with_fate ds id g) x)
        same_id = ap (λ b. cond b (Some (changed id g d)) (record_of (with_fate ds id g) x)) (keeps (eqb d.id id))

trigger_kept : (id : ℕ) (g : Downtime → Fate) (o : Option Downtime) → trigger_in (option_map (changed id g) o) ≡ trigger_in o
trigger_kept id g None = refl
trigger_kept id g (Some d) = by_test (eqb d.id id)
  where
    by_test : (b : Bool) → (cond b (record d { fate = g d }) d).plan.times.trigger_id ≡ d.plan.times.trigger_id
    by_test true = refl
    by_test false = refl

pub trigger_of_changed : (ds : List Downtime) (id x : ℕ) (g : Downtime → Fate) → trigger_of (with_fate ds id g) x ≡ trigger_of ds x
trigger_of_changed ds id x g = ap trigger_in (record_changed ds id x g) ∙ trigger_kept id g (record_of ds x)

-- the other records stay as they are
pub record_other : (ds : List Downtime) (id x : ℕ) (g : Downtime → Fate) → eqb x id ≡ false → record_of (with_fate ds id g) x ≡ record_of ds x
record_other ds id x g h = record_changed ds id x g ∙ by_record (record_of ds x) refl
  where
    by_record : (o : Option Downtime) → record_of ds x ≡ o → option_map (changed id g) o ≡ o
    by_record None e = refl
    by_record (Some d) e =
        let is = id_found ds x d e in
        let no : eqb d.id id ≡ false = ap (λ y. eqb y id) is ∙ h in
        rw no refl

start_other : (ds : List Downtime) (id : ℕ) (g : Downtime → Fate) (d : Downtime) → eqb d.plan.times.trigger_id id ≡ false → start_of (with_fate ds id g) d ≡ start_of ds d
start_other ds id g d h = ap (λ (o : Option Downtime). cond (eqb d.plan.times.trigger_id 0) (cond d.plan.times.fixed (from_entry (Some (own_time d)) d.entered) None) (from_entry (since_of o) d.entered)) (record_other ds id d.plan.times.trigger_id g h)

starts_of_kept : (ds : List Downtime) (id : ℕ) (g : Downtime → Fate) (d : Downtime) → eqb d.plan.times.trigger_id id ≡ false → starts_of (with_fate ds id g) d ≡ starts_of ds d
unfolding starts_of
starts_of_kept ds id g d h = by_fate d.fate
  where
    by_fate : (f : Fate) → starts_at (with_fate ds id g) d f ≡ starts_at ds d f
    by_fate Pending = ap (starts d.id) (start_other ds id g d h)
    by_fate (Active since until) = refl
    by_fate Over = refl

-- the events of the others, but for the starts that hang on it, stay as they were
pub others_stay : (ds : List Downtime) (id : ℕ) (g : Downtime → Fate) (e : Event) → eqb e.id id ≡ false → (is_event (with_fate ds id g) e && not (hangs_on (with_fate ds id g) id e)) ≡ (is_event ds e && not (hangs_on ds id e))
unfolding is_event hangs_on is_start has
others_stay ds id g e h =
    ap (λ (o : Option Downtime). has_event (with_fate ds id g) o e && not (eqb (trigger_in o) id && has (starts_in (with_fate ds id g) o) e)) (record_other ds id e.id g h)
    ∙ by_record (record_of ds e.id)
  where
    no_start : (l s : Bool) → (l && s) ≡ false → ((l || s) && not s) ≡ l
    no_start true true k = absurd (cc)
    no_start true false k = refl
    no_start false true k = refl
    no_start false false k = refl

    by_trigger : (d : Downtime) (b : Bool) → eqb d.plan.times.trigger_id id ≡ b → (has (events_of (with_fate ds id g) d) e && not (b && has (starts_of (with_fate ds id g) d) e)) ≡ (has (events_of ds d) e && not (b && has (starts_of ds d) e))
    by_trigger d true k =
        ap (λ b. b && not (has (starts_of (with_fate ds id g) d) e)) (events_split (with_fate ds id g) d e)
        ∙ no_start (has (lasts_of d) e) (has (starts_of (with_fate ds id g) d) e) (lasts_no_start (with_fate ds id g) d e)
        ∙ sym (no_start (has (lasts_of d) e) (has (starts_of ds d) e) (lasts_no_start ds d e))
        ∙ sym (ap (λ b. b && not (has (starts_of ds d) e)) (events_split ds d e))
    by_trigger d false k =
        ap (λ b. b && true) (events_split (with_fate ds id g) d e ∙ ap (λ (xs : List Event). has (lasts_of d) e || has xs e) (starts_of_kept ds id g d k) ∙ sym (events_split ds d e))

    by_record : (o : Option Downtime) → (has_event (with_fate ds id g) o e && not (eqb (trigger_in o) id && has (starts_in (with_fate ds id g) o) e)) ≡ (has_event ds o e && not (eqb (trigger_in o) id && has (starts_in ds o) e))
    by_record None = ap (λ b. false && not b) (no_none (eqb 0 id) ∙ sym (no_none (eqb 0 id)))
      where
        no_none : (b : Bool) → (b && has [] e) ≡ false
        no_none true = refl
        no_none false = refl
    by_record (Some d) = by_trigger d (eqb d.plan.times.trigger_id id) refl

-- ---- the events of the record with an id

pub start_other_id : (ds : List Downtime) (id : ℕ) (e : Event) → eqb id e.id ≡ false → is_start ds id e ≡ false
unfolding is_start has
start_other_id ds id e h = by_record (record_of ds id) refl
  where
    by_record : (o : Option Downtime) → record_of ds id ≡ o → has (starts_in ds o) e ≡ false
    by_record None k = refl
    by_record (Some d) k = starts_of_other ds d e (ap (λ x. eqb x e.id) (id_found ds id d k) ∙ h)

pub last_other_id : (ds : List Downtime) (id : ℕ) (e : Event) → eqb id e.id ≡ false → is_last ds id e ≡ false
unfolding is_last has
last_other_id ds id e h = by_record (record_of ds id) refl
  where
    by_record : (o : Option Downtime) → record_of ds id ≡ o → has (lasts_in o) e ≡ false
    by_record None k = refl
    by_record (Some d) k = lasts_of_other d e (ap (λ x. eqb x e.id) (id_found ds id d k) ∙ h)

-- an event is the expiry or the end, or the start, of the record with its id
pub event_is : (ds : List Downtime) (e : Event) → is_event ds e ≡ (is_last ds e.id e || is_start ds e.id e)
unfolding is_event is_last is_start has
event_is ds e = by_record (record_of ds e.id)
  where
    by_record : (o : Option Downtime) → has_event ds o e ≡ (has (lasts_in o) e || has (starts_in ds o) e)
    by_record None = refl
    by_record (Some d) = events_split ds d e

pub start_is_event : (ds : List Downtime) (id : ℕ) (e : Event) → is_start ds id e ≡ true → is_event ds e ≡ true
start_is_event ds id e h = by_test (eqb id e.id) refl
  where
    by_test : (b : Bool) → eqb id e.id ≡ b → is_event ds e ≡ true
    by_test true k = event_is ds e ∙ or_right (is_last ds e.id e) (is_start ds e.id e) (subst (λ x. is_start ds x e ≡ true) (eqb-true id e.id k) h)
    by_test false k = absurd (let no = start_other_id ds id e k in cc)

pub last_is_event : (ds : List Downtime) (id : ℕ) (e : Event) → is_last ds id e ≡ true → is_event ds e ≡ true
last_is_event ds id e h = by_test (eqb id e.id) refl
  where
    by_test : (b : Bool) → eqb id e.id ≡ b → is_event ds e ≡ true
    by_test true k = event_is ds e ∙ or_left (is_last ds e.id e) (is_start ds e.id e) (subst (λ x. is_last ds x e ≡ true) (eqb-true id e.id k) h)
    by_test false k = absurd (let no = last_other_id ds id e k in cc)

-- a start that hangs on a trigger is an event
pub hung_is_event : (ds : List Downtime) (id : ℕ) (e : Event) → hangs_on ds id e ≡ true → is_event ds e ≡ true
unfolding hangs_on
hung_is_event ds id e h = start_is_event ds e.id e (and_parts (eqb (trigger_of ds e.id) id) (is_start ds e.id e) h).1

-- ---- what is put in

pub none_has : (o : Option Event) (es : List Event) (e : Event) → option_to_list o ≡ es → has es e ≡ has (option_to_list o) e
none_has o es e h = ap (λ xs. has xs e) (sym h)

pub same_itself : (e : Event) → same e e ≡ true
same_itself e = grind (arith, nat_tests)

pub event_itself : (x : Event) (xs : List Event) → has (x ∷ xs) x ≡ true
unfolding has
event_itself x xs = let s = same_itself x in rw s refl

-- an event that is put in for these is one of these
pub one_of : (o : Option Event) (es : List Event) (P : Event → Type 0) → option_to_list o ≡ es → ((e : Event) → has es e ≡ true → P e) → IfSome o P
one_of None es P h all = tt
one_of (Some x) es P h all = all x (ap (λ xs. has xs x) (sym h) ∙ event_itself x [])

-- a part of the events, and more of them
pub part_more : (ds : List Downtime) (q p : Queue) (new : Event → Bool) → IsPartOf ds q → IsQueue p → vec_capacity p.list ≡ vec_capacity q.list → ((e : Event) → has (queued p) e ≡ (new e || has (queued q) e)) → ((e : Event) → new e ≡ true → is_event ds e ≡ true) → IsPartOf ds p
part_more ds q p new part queue room has_new all = record {
  queue = queue;
  some = λ e h. by_test e (new e) refl (sym (has_new e) ∙ h);
  room = rw room part.room;
}
  where
    by_test : (e : Event) (b : Bool) → new e ≡ b → (new e || has (queued q) e) ≡ true → is_event ds e ≡ true
    by_test e true k h = all e k
    by_test e false k h = part.some e (let s = rw k at h in s)

-- an expiry or an end is no start
pub not_both : (ds : List Downtime) (id : ℕ) (e : Event) → is_last ds id e ≡ true → is_start ds id e ≡ false
unfolding is_start is_last has
not_both ds id e h = by_record (record_of ds id) h
  where
    apart : (l s : Bool) → (l && s) ≡ false → l ≡ true → s ≡ false
    apart true true k h = absurd (cc)
    apart true false k h = refl
    apart false s k h = absurd (cc)

    by_record : (o : Option Downtime) → has (lasts_in o) e ≡ true → has (starts_in ds o) e ≡ false
    by_record None k = absurd (cc)
    by_record (Some d) k = apart (has (lasts_of d) e) (has (starts_of ds d) e) (lasts_no_start ds d e) k
