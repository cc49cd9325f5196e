-- New records of one plan behind others: they are alike, and the events of the others stay.
use Rattle.std.proofs.Common.{◌≡◌, ℕ, ◌+◌, ◌<◌, ◌≤◌, Bool, true, false, eqb, nat_lt, cond, ◌&&◌, List, [], ◌∷◌, ◌++◌, length, Option, Some, None, refl, ap, sym, ◌∙◌, subst, arith}
use Rattle.std.proofs.Math.Bool.{and-false, and-true}
use Rattle.std.proofs.lemmas.Bool.Decides.{nat_tests}
use Rattle.mon_downtime.specs.declared.downtime.Downtime.{Downtime}
use Rattle.mon_downtime.specs.declared.downtime.Fate.{Fate}
use Rattle.mon_downtime.specs.declared.downtime.Fate.TheVariants.{Pending, Active, Over}
use Rattle.mon_downtime.specs.declared.event.Event.{Event}
use Rattle.mon_downtime.specs.declared.event.EventKind.TheVariants.{Expires}
use Rattle.mon_downtime.specs.declared.plan.Plan.{Plan}
use Rattle.mon_downtime.specs.declared.queue.Queue.{Queue}
use Rattle.mon_downtime.specs.Records.{record_of, AreNumbered}
use Rattle.mon_downtime.specs.Events.{own_time, start_of, starts, since_of, from_entry, events_of, events_at}
use Rattle.mon_downtime.specs.Order.{has}
use Rattle.mon_downtime.specs.Queue.{queued}
use Rattle.mon_downtime.specs.Schedule.{new_record, new_records}
use Rattle.mon_downtime.specs.Cancel.{trigger_of, trigger_in}
use Rattle.mon_downtime.specs.Listed.{has_event, is_event, IsListed, AreAlike}
use Rattle.mon_downtime.proofs.RecordLemmas.{record_of_earlier, record_of_past}
use Rattle.mon_downtime.proofs.CancelLemmas.{trigger_falls}

-- ---- records behind others

numbered_parts : (k : ℕ) (ds es : List Downtime) → AreNumbered k (ds ++ es) → AreNumbered k ds × AreNumbered (k + length ds) es
numbered_parts k [] es w = (tt, (let e : k + 0 ≡ k = omega arith in rw e w))
numbered_parts k (d ∷ ds) es w =
    let rest = numbered_parts (k + 1) ds es w.1 in
    let e : k + length (d ∷ ds) ≡ (k + 1) + length ds = omega arith in
    ((w.0, rest.0), rw e rest.1)

record_front : (ds es : List Downtime) (n id : ℕ) → AreNumbered n es → id ≤ n → record_of (ds ++ es) id ≡ record_of ds id
record_front [] es n id w l = record_of_earlier n es id w l
record_front (d ∷ ds) es n id w l = ap (λ (o : Option Downtime). cond (eqb d.id id) (Some d) o) (record_front ds es n id w l)

record_behind : (k : ℕ) (ds es : List Downtime) (id : ℕ) → AreNumbered k ds → k + length ds < id → record_of (ds ++ es) id ≡ record_of es id
record_behind k [] es id w l = refl
record_behind k (d ∷ ds) es id w l =
    let next = w.0.id_next in
    let rest = record_behind (k + 1) ds es id w.1 (omega arith) in
    let other : eqb d.id id ≡ false = grind (arith, nat_tests) in
    rw other rest

-- the records of before are found among all
pub front_records : (ds es all : List Downtime) → AreNumbered 0 all → all ≡ ds ++ es → (x : ℕ) → x ≤ length ds → record_of all x ≡ record_of ds x
front_records ds es all w added x l = rw added (record_front ds es (length ds) x (rw (let same : 0 + length ds ≡ length ds = omega arith in same) at (numbered_parts 0 ds es (rw added at w)).1) l)

-- ---- the records of a plan

found_is_new : (n clock : ℕ) (objects : List ℕ) (plan : Plan) (id : ℕ) (x : Downtime) → record_of (new_records n clock objects plan) id ≡ Some x → x ≡ record (new_record 0 clock 0 plan) { id = x.id; object = x.object }
unfolding new_records
found_is_new n clock [] plan id x h = absurd (cc)
found_is_new n clock (object ∷ objects) plan id x h = by_test (λ k. found_is_new (n + 1) clock objects plan id x k) (eqb (n + 1) id) h
  where
    by_test : (record_of (new_records (n + 1) clock objects plan) id ≡ Some x → x ≡ record (new_record 0 clock 0 plan) { id = x.id; object = x.object }) → (b : Bool) → cond b (Some (new_record n clock object plan)) (record_of (new_records (n + 1) clock objects plan) id) ≡ Some x → x ≡ record (new_record 0 clock 0 plan) { id = x.id; object = x.object }
    by_test again true k = subst (λ (y : Downtime). y ≡ record (new_record 0 clock 0 plan) { id = y.id; object = y.object }) (let is : new_record n clock object plan ≡ x = cc in is) refl
    by_test again false k = again k

-- records that end with new ones of a plan
pub new_are_alike : (ds all : List Downtime) (n first clock : ℕ) (objects : List ℕ) (plan : Plan) → AreNumbered 0 all → all ≡ ds ++ new_records n clock objects plan → n ≡ length ds → first ≡ n + 1 → AreAlike all first
new_are_alike ds all n first clock objects plan w added long next = record {
  pending = λ id x l h. ap (λ (d : Downtime). d.fate) (is id x (omega arith) h);
  alike = λ id d x g l h. is id x (omega arith) h ∙ sym (ap (λ (y : Downtime). record y { id = x.id; object = x.object }) (is first d (omega arith) g));
}
  where
    is : (id : ℕ) (x : Downtime) → length ds < id → record_of all id ≡ Some x → x ≡ record (new_record 0 clock 0 plan) { id = x.id; object = x.object }
    is id x l h = found_is_new n clock objects plan id x (sym (record_behind 0 ds (new_records n clock objects plan) id (numbered_parts 0 ds (new_records n clock objects plan) (rw added at w)).0 (omega arith)) ∙ (rw added at h))

-- ---- the events of the others

start_front : (ds es : List Downtime) (n : ℕ) (d : Downtime) → AreNumbered n es → d.plan.times.trigger_id ≤ n → start_of (ds ++ es) d ≡ start_of ds d
start_front ds es n d w l = ap (λ (o : Option Downtime). cond (eqb d.plan.times.trigger_id 0) (cond d.plan.times.fixed (from_entry (Some (own_time d)) d.entered) None) (from_entry (since_of o) d.entered)) (record_front ds es n d.plan.times.trigger_id w l)

events_front : (ds es : List Downtime) (n : ℕ) (d : Downtime) (e : Event) → AreNumbered n es → d.plan.times.trigger_id ≤ n → has (events_of (ds ++ es) d) e ≡ has (events_of ds d) e
unfolding events_of
events_front ds es n d e w l = by_fate d.fate
  where
    by_fate : (f : Fate) → has (events_at (ds ++ es) d f) e ≡ has (events_at ds d f) e
    by_fate Pending = ap (λ (o : Option ℕ). has (record { moment = d.plan.times.end_time; kind = Expires; id = d.id } ∷ starts d.id o) e) (start_front ds es n d w l)
    by_fate (Active since until) = refl
    by_fate Over = refl

-- an event of one of the first records is one as before
event_front : (ds es : List Downtime) (e : Event) → AreNumbered 0 ds → AreNumbered (length ds) es → e.id ≤ length ds → is_event (ds ++ es) e ≡ is_event ds e
unfolding is_event
event_front ds es e v w l = ap (λ (o : Option Downtime). has_event (ds ++ es) o e) (record_front ds es (length ds) e.id w l) ∙ by_record (record_of ds e.id) refl
  where
    by_record : (o : Option Downtime) → record_of ds e.id ≡ o → has_event (ds ++ es) o e ≡ has_event ds o e
    by_record None k = refl
    by_record (Some d) k =
        let falls = trigger_falls ds e.id v in
        let trigger : trigger_of ds e.id ≡ d.plan.times.trigger_id = ap trigger_in k in
        events_front ds es (length ds) d e w (omega arith)

none_yet : (ds : List Downtime) (e : Event) → AreNumbered 0 ds → length ds < e.id → is_event ds e ≡ false
unfolding is_event
none_yet ds e w l = ap (λ (o : Option Downtime). has_event ds o e) (record_of_past 0 ds e.id w (omega arith))

-- a queue of the first records has the events below the first new id
pub others_listed : (ds es all : List Downtime) (q : Queue) (first : ℕ) (e : Event) → AreNumbered 0 all → all ≡ ds ++ es → IsListed ds q → first ≡ length ds + 1 → has (queued q) e ≡ (is_event all e && nat_lt e.id first)
others_listed ds es all q first e w added listed next = listed.exact e ∙ by_test parts.0 (rw (let same : 0 + length ds ≡ length ds = omega arith in same) at parts.1) (nat_lt e.id first) refl
  where
    parts : AreNumbered 0 ds × AreNumbered (0 + length ds) es
    parts = numbered_parts 0 ds es (rw added at w)

    by_test : AreNumbered 0 ds → AreNumbered (length ds) es → (b : Bool) → nat_lt e.id first ≡ b → is_event ds e ≡ (is_event all e && b)
    by_test v u true k = let l : e.id ≤ length ds = grind (arith, nat_tests) in rw added (sym (event_front ds es e v u l) ∙ sym (and-true (is_event (ds ++ es) e)))
    by_test v u false k = let l : length ds < e.id = grind (arith, nat_tests) in none_yet ds e v l ∙ sym (and-false (is_event all e))
