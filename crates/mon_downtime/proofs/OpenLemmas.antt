-- The openings of the downtimes that wait, and how one leaves them or comes into the rings.
use Rattle.std.proofs.Common.{◌≡◌, ℕ, ◌+◌, ◌-◌, ◌<◌, ◌≤◌, Bool, true, false, eqb, cond, nat_lt, nat_le, not, ◌&&◌, ◌||◌, List, [], ◌∷◌, length, get_or, drop, Option, Some, None, refl, ap, sym, ◌∙◌, subst, arith, eq-eqb}
use Rattle.std.proofs.Math.Bool.{and-false, or-false, and-true, or-true}
use Rattle.std.specs.List.{flat_map}
use Rattle.std.specs.Option.{option_to_list, option_map}
use Rattle.std.specs.Prelude.{vec_capacity, IfSome}
use Rattle.std.proofs.lemmas.Bool.{eqb-true, and_parts}
use Rattle.std.proofs.lemmas.Bool.Decides.{nat_tests}
use Rattle.std.proofs.lemmas.List.{length-append, length-map}
use Rattle.mon_downtime.specs.declared.downtime.Downtime.{Downtime}
use Rattle.mon_downtime.specs.declared.downtime.Fate.{Fate}
use Rattle.mon_downtime.specs.declared.event.Event.{Event}
use Rattle.mon_downtime.specs.declared.event.EventKind.TheVariants.{Starts}
use Rattle.mon_downtime.specs.declared.queue.Queue.{Queue}
use Rattle.mon_downtime.specs.declared.rings.Rings.{Rings}
use Rattle.mon_downtime.specs.declared.waiting.Waiting.{Waiting}
use Rattle.mon_downtime.specs.declared.depths.Depths.{Depths}
use Rattle.mon_downtime.specs.declared.kept.RecordIndex.{RecordIndex}
use Rattle.mon_downtime.specs.Depths.{AreDepths}
use Rattle.mon_downtime.specs.Kept.{AreKept}
use Rattle.mon_downtime.specs.Records.{record_of, with_fate, changed, AreNumbered, AreRecords}
use Rattle.mon_downtime.specs.Events.{own_time, before}
use Rattle.mon_downtime.specs.Order.{same, has, AreOnce}
use Rattle.mon_downtime.specs.Queue.{IsQueue, queued, retired, in_block_of}
use Rattle.mon_downtime.proofs.RetireLemmas.{next_left}
use Rattle.mon_downtime.specs.Problem.{is_pending}
use Rattle.mon_downtime.specs.Rings.{awaits, awaits_in, awaits_at, is_in, is_open, is_open_in, at_place, next_of, AreRings, AreTied}
use Rattle.mon_downtime.specs.Waiting.{opening, openings_of, openings_in, is_opening, has_opening, is_unopened, is_yet, AreOpenings, AreWaiting, AreOpening, HaveLeft, HaveOpened, is_outside, all_openings}
use Rattle.mon_downtime.proofs.RecordLemmas.{numbered, record_there, id_found, place_found, objects_stay}
use Rattle.mon_downtime.proofs.ListedLemmas.{record_other, record_changed, flat_has, event_itself, one_of}
use Rattle.mon_downtime.proofs.OrderLemmas.{same_has}
use Rattle.mon_downtime.proofs.EnterLemmas.{timed, own_block, no_block, AreNew}
use Rattle.mon_downtime.proofs.RoomLemmas.{fits_in}
use Rattle.mon_downtime.proofs.OnceLemmas.{often, all_once}
use Rattle.mon_downtime.proofs.WaitLemmas.{awaits_within, membership, members_none, members_less, members_more, IsBehind, IsSet, SameBut, rings_like}

-- ---- the opening of one record

-- what an opening is of
pub record IsOpeningOf (ds : List Downtime) (e : Event) : Type 0 where
  pub of : Downtime
  pub found : record_of ds e.id ≡ Some of
  pub waits : awaits of ≡ true
  pub is : same (opening of) e ≡ true

pub opening_is_of : (ds : List Downtime) (e : Event) → is_opening ds e ≡ true → IsOpeningOf ds e
unfolding is_opening has
opening_is_of ds e h = by_record (record_of ds e.id) refl h
  where
    by_test : (d : Downtime) → record_of ds e.id ≡ Some d → (b : Bool) → awaits d ≡ b → has (cond b (opening d ∷ []) []) e ≡ true → IsOpeningOf ds e
    by_test d k true w i = record { of = d; found = k; waits = w; is = sym (or-false (same (opening d) e)) ∙ i }
    by_test d k false w i = absurd (cc)

    by_record : (o : Option Downtime) → record_of ds e.id ≡ o → has (openings_in o) e ≡ true → IsOpeningOf ds e
    by_record None k i = absurd (cc)
    by_record (Some d) k i = by_test d k (awaits d) refl i

-- the opening of a record that waits is one
pub is_its_opening : (ds : List Downtime) (d : Downtime) (id : ℕ) → record_of ds id ≡ Some d → awaits d ≡ true → is_opening ds (opening d) ≡ true
unfolding is_opening
is_its_opening ds d id found waits =
    ap (λ n. has (openings_in (record_of ds n)) (opening d)) (id_found ds id d found) ∙ ap (λ o. has (openings_in o) (opening d)) found
    ∙ ap (λ b. has (cond b (opening d ∷ []) []) (opening d)) waits ∙ event_itself (opening d) []

-- a record without an opening does not wait
pub no_opening : (ds : List Downtime) (id o : ℕ) → openings_in (record_of ds id) ≡ [] → awaits_at ds o id ≡ false
no_opening ds id o h = by_record (record_of ds id) h
  where
    by_test : (d : Downtime) (b : Bool) → awaits d ≡ b → cond b (opening d ∷ []) [] ≡ [] → (eqb d.object o && b) ≡ false
    by_test d true w k = absurd (cc)
    by_test d false w k = and-false (eqb d.object o)

    by_record : (r : Option Downtime) → openings_in r ≡ [] → awaits_in o r ≡ false
    by_record None k = refl
    by_record (Some d) k = by_test d (awaits d) refl k

-- the opening that is found for a record is its own, and it waits
pub opening_found : (ds : List Downtime) (id : ℕ) (d : Downtime) (x : Event) → record_of ds id ≡ Some d → x ∷ [] ≡ openings_in (record_of ds id) → (awaits d ≡ true) × (x ≡ opening d)
opening_found ds id d x found h = by_test (awaits d) refl (h ∙ ap openings_in found)
  where
    by_test : (b : Bool) → awaits d ≡ b → x ∷ [] ≡ cond b (opening d ∷ []) [] → (awaits d ≡ true) × (x ≡ opening d)
    by_test true w k = (w, cc)
    by_test false w k = absurd (cc)

-- where an opening is found for an id there is a record
pub found_opening : (ds : List Downtime) (id : ℕ) (x : Event) → x ∷ [] ≡ openings_in (record_of ds id) → (d : Downtime) × (record_of ds id ≡ Some d) × (x ≡ opening d)
found_opening ds id x h = by_record (record_of ds id) refl h
  where
    by_record : (r : Option Downtime) → record_of ds id ≡ r → x ∷ [] ≡ openings_in r → (d : Downtime) × (record_of ds id ≡ Some d) × (x ≡ opening d)
    by_record None k i = absurd (cc)
    by_record (Some d) k i = (d, k, (opening_found ds id d x k h).1)

opening_other : (d : Downtime) (e : Event) → eqb d.id e.id ≡ false → same (opening d) e ≡ false
opening_other d e h = grind (arith, nat_tests)

openings_other : (d : Downtime) (e : Event) → eqb d.id e.id ≡ false → has (openings_in (Some d)) e ≡ false
unfolding has
openings_other d e h = by_test (awaits d)
  where
    by_test : (b : Bool) → has (cond b (opening d ∷ []) []) e ≡ false
    by_test true = let no = opening_other d e h in rw no refl
    by_test false = refl

-- ---- the openings of all records

pub openings_by_id : (ds : List Downtime) (e : Event) → AreNumbered 0 ds → has (all_openings ds) e ≡ is_opening ds e
unfolding all_openings is_opening
openings_by_id ds e w = flat_has 0 openings_in ds e refl (λ d. openings_other d e) w

pub openings_are_once : (ds : List Downtime) → AreNumbered 0 ds → AreOnce (all_openings ds)
unfolding all_openings
openings_are_once ds w = all_once openings_in ds refl openings_other (λ d e. by_test d e (awaits d)) w
  where
    alone : (x e : Event) → often e (x ∷ []) ≤ 1
    alone x e = by_one (same x e)
      where
        by_one : (b : Bool) → cond b 1 0 ≤ 1
        by_one true = omega arith
        by_one false = omega arith

    by_test : (d : Downtime) (e : Event) (b : Bool) → often e (cond b (opening d ∷ []) []) ≤ 1
    by_test d e true = alone (opening d) e
    by_test d e false = omega arith

one_each : (ds : List Downtime) → length (flat_map openings_of ds) ≤ length ds
one_each [] = omega arith
one_each (x ∷ xs) =
    let rest = one_each xs in
    let one = by_test (awaits x) in
    omega (arith, length-append (openings_of x) (flat_map openings_of xs))
  where
    by_test : (b : Bool) → length (cond b (opening x ∷ []) []) ≤ 1
    by_test true = omega arith
    by_test false = omega arith

-- ---- a record is pending no more

-- another record's opening is as it was
pub left_same : (ds : List Downtime) (es es2 : List Event) (id : ℕ) (fate : Fate) → ((e : Event) → eqb e.id id ≡ false → has es2 e ≡ has es e) → SameBut id (is_in ds (is_unopened ds es)) (is_in (with_fate ds id (λ _. fate)) (is_unopened (with_fate ds id (λ _. fate)) es2))
left_same ds es es2 id fate like = λ o x k. ap (λ (r : Option Downtime). awaits_in o r && not (has_opening es2 r)) (record_other ds id x (λ _. fate) k) ∙ by_record o x k (record_of ds x) refl
  where
    by_record : (o x : ℕ) → eqb x id ≡ false → (r : Option Downtime) → record_of ds x ≡ r → (awaits_in o r && not (has_opening es2 r)) ≡ (awaits_in o r && not (has_opening es r))
    by_record o x k None i = refl
    by_record o x k (Some d) i = ap (λ b. awaits_in o (Some d) && not b) (like (opening d) (ap (λ n. eqb n id) (id_found ds x d i) ∙ k))

begun_not : (d : Downtime) (fate : Fate) → is_pending fate ≡ false → awaits (record d { fate = fate }) ≡ false
begun_not d fate h = rw h refl

-- the record itself waits no more
left_itself : (ds : List Downtime) (out : ℕ → Bool) (id o : ℕ) (fate : Fate) → is_pending fate ≡ false → is_in (with_fate ds id (λ _. fate)) out o id ≡ false
left_itself ds out id o fate h = ap (λ b. b && not (out id)) (ap (awaits_in o) (record_changed ds id id (λ _. fate)) ∙ by_record (record_of ds id) refl)
  where
    by_record : (r : Option Downtime) → record_of ds id ≡ r → awaits_in o (option_map (changed id (λ _. fate)) r) ≡ false
    by_record None k = refl
    by_record (Some d) k =
        let is : eqb d.id id ≡ true = eq-eqb d.id id (id_found ds id d k) in
        let no = begun_not d fate h in
        rw is (rw no (and-false (eqb d.object o)))

left_openings : (ds : List Downtime) (q p : Queue) (id : ℕ) (fate : Fate) → AreOpenings ds q → IsQueue p → vec_capacity p.list ≡ vec_capacity q.list → ((e : Event) → has (queued p) e ≡ true → (has (queued q) e ≡ true) × (eqb e.id id ≡ false)) → AreOpenings (with_fate ds id (λ _. fate)) p
unfolding is_opening
left_openings ds q p id fate w queue room less = record {
  queue = queue;
  some = λ e h. let was = less e h in ap (λ (o : Option Downtime). has (openings_in o) e) (record_other ds id e.id (λ _. fate) was.1) ∙ w.some e was.0;
  room = let long = length-map ds (changed id (λ _. fate)) in let all = w.room in omega arith;
}

-- one that did not wait
pub left_idle : (ds : List Downtime) (w : Waiting) (id : ℕ) (fate : Fate) → AreWaiting ds w → openings_in (record_of ds id) ≡ [] → is_pending fate ≡ false → AreWaiting (with_fate ds id (λ _. fate)) w
left_idle ds w id fate a none begun = record {
  openings = left_openings ds w.openings w.openings id fate a.openings a.openings.queue refl (λ e h. (h, by_test e h (eqb e.id id) refl));
  rings = record {
    each = a.rings.each ∙ sym (length-map ds (changed id (λ _. fate)));
    ends = objects_stay ds id _ (λ _. fate) a.rings.ends;
    ring = members_none _ _ w.rings id a.rings.ring (left_same ds (queued w.openings) (queued w.openings) id fate (λ e k. refl))
        (λ o. ap (λ b. b && not (is_unopened ds (queued w.openings) id)) (no_opening ds id o none)) (λ o. left_itself ds (is_unopened (with_fate ds id (λ _. fate)) (queued w.openings)) id o fate begun);
  };
}
  where
    by_test : (e : Event) → has (queued w.openings) e ≡ true → (b : Bool) → eqb e.id id ≡ b → eqb e.id id ≡ false
    by_test e h true k =
        let its = opening_is_of ds e (a.openings.some e h) in
        let idle = no_opening ds id its.of.object none in
        let waits : awaits_at ds its.of.object e.id ≡ true = ap (awaits_in its.of.object) its.found ∙ (let same_one : eqb its.of.object its.of.object ≡ true = eq-eqb its.of.object its.of.object refl in rw (same_one, its.waits) refl) in
        let both = ap (awaits_at ds its.of.object) (eqb-true e.id id k) in
        absurd (cc)
    by_test e h false k = k

-- ---- an opening leaves the queue

-- the queue of before, without the opening of the record
pub record IsWithout (q p : Queue) (x : Event) : Type 0 where
  pub queue : IsQueue p
  pub room : vec_capacity p.list ≡ vec_capacity q.list
  pub events : (e : Event) → has (queued p) e ≡ (has (queued q) e && not (same x e))

without_other : (q p : Queue) (x : Event) → IsWithout q p x → (e : Event) → eqb e.id x.id ≡ false → has (queued p) e ≡ has (queued q) e
without_other q p x w e k =
    let no : same x e ≡ false = grind (arith, nat_tests) in
    w.events e ∙ ap (λ b. has (queued q) e && not b) no ∙ and-true (has (queued q) e)

without_some : (q p : Queue) (x e : Event) → IsWithout q p x → has (queued p) e ≡ true → (has (queued q) e ≡ true) × (same x e ≡ false)
without_some q p x e w h = (parts.0, no (same x e) parts.1)
  where
    parts : (has (queued q) e ≡ true) × (not (same x e) ≡ true)
    parts = and_parts (has (queued q) e) (not (same x e)) (sym (w.events e) ∙ h)

    no : (b : Bool) → not b ≡ true → b ≡ false
    no true k = absurd (cc)
    no false k = refl

-- what the queue has of the record was its opening
no_other : (ds : List Downtime) (q p : Queue) (d : Downtime) (id : ℕ) (e : Event) → AreOpenings ds q → record_of ds id ≡ Some d → IsWithout q p (opening d) → has (queued p) e ≡ true → eqb e.id id ≡ false
no_other ds q p d id e a found w h = by_test (eqb e.id id) refl
  where
    by_test : (b : Bool) → eqb e.id id ≡ b → eqb e.id id ≡ false
    by_test true k =
        let s = without_some q p (opening d) e w h in
        let its = opening_is_of ds e (a.some e s.0) in
        let is : its.of ≡ d = (let both = sym its.found ∙ ap (record_of ds) (eqb-true e.id id k) ∙ found in cc) in
        let yes_is : same (opening d) e ≡ true = ap (λ (x : Downtime). same (opening x) e) (sym is) ∙ its.is in
        absurd (let no = s.1 in cc)
    by_test false k = k

-- one that waits leaves the queue
pub left_queue : (ds : List Downtime) (a b : Waiting) (d : Downtime) (id : ℕ) (fate : Fate) → AreWaiting ds a → record_of ds id ≡ Some d → has (queued a.openings) (opening d) ≡ true → is_pending fate ≡ false
    → IsWithout a.openings b.openings (opening d) → b.rings ≡ a.rings → AreWaiting (with_fate ds id (λ _. fate)) b
left_queue ds a b d id fate w found was begun without rings = record {
  openings = left_openings ds a.openings b.openings id fate w.openings without.queue without.room (λ e h. ((without_some _ _ (opening d) e without h).0, no_other ds a.openings b.openings d id e w.openings found without h));
  rings = rw rings (record {
    each = w.rings.each ∙ sym (length-map ds (changed id (λ _. fate)));
    ends = objects_stay ds id _ (λ _. fate) w.rings.ends;
    ring = members_none _ _ a.rings id w.rings.ring (left_same ds (queued a.openings) (queued b.openings) id fate (λ e k. without_other _ _ (opening d) without e (rw (id_found ds id d found) k)))
        (λ o. ap (λ c. awaits_at ds o id && not c) (ap (has_opening (queued a.openings)) found ∙ was) ∙ and-false (awaits_at ds o id)) (λ o. left_itself ds (is_unopened (with_fate ds id (λ _. fate)) (queued b.openings)) id o fate begun);
  });
}

-- a record waits on its own object
awaits_own : (ds : List Downtime) (d : Downtime) (id : ℕ) → record_of ds id ≡ Some d → awaits d ≡ true → awaits_at ds d.object id ≡ true
awaits_own ds d id found waits = ap (awaits_in d.object) found ∙ (let is : eqb d.object d.object ≡ true = eq-eqb d.object d.object refl in rw (is, waits) refl)

-- one that waits and is not in the queue is in its ring
pub in_its_ring : (ds : List Downtime) (a : Waiting) (d : Downtime) (id : ℕ) → record_of ds id ≡ Some d → awaits d ≡ true → has (queued a.openings) (opening d) ≡ false → is_in ds (is_unopened ds (queued a.openings)) d.object id ≡ true
in_its_ring ds a d id found waits not_there = ap (λ c. awaits_at ds d.object id && not c) (ap (has_opening (queued a.openings)) found ∙ not_there) ∙ ap (λ c. c && true) (awaits_own ds d id found waits)

-- and leaves the ring
pub left_ring : (ds : List Downtime) (a b : Waiting) (d : Downtime) (id : ℕ) (fate : Fate) → AreNumbered 0 ds → AreWaiting ds a → record_of ds id ≡ Some d → awaits d ≡ true → has (queued a.openings) (opening d) ≡ false → is_pending fate ≡ false
    → IsWithout a.openings b.openings (opening d) → AreTied a.rings b.rings d.object (at_place a.rings d.object id) (at_place a.rings d.object id) → AreWaiting (with_fate ds id (λ _. fate)) b
left_ring ds a b d id fate n w found waits was begun without t = record {
  openings = left_openings ds a.openings b.openings id fate w.openings without.queue without.room (λ e h. ((without_some _ _ (opening d) e without h).0, no_other ds a.openings b.openings d id e w.openings found without h));
  rings = record {
    each = t.near ∙ w.rings.each ∙ sym (length-map ds (changed id (λ _. fate)));
    ends = rw t.ends (objects_stay ds id _ (λ _. fate) w.rings.ends);
    ring = members_less _ _ a.rings b.rings d.object id (membership ds _ n) w.rings.ring (in_its_ring ds a d id found waits was) (λ o. left_itself ds (is_unopened (with_fate ds id (λ _. fate)) (queued b.openings)) id o fate begun)
        (left_same ds (queued a.openings) (queued b.openings) id fate (λ e k. without_other _ _ (opening d) without e (rw (id_found ds id d found) k))) t;
  };
}

-- ---- a downtime opens

-- a downtime that opens
pub record IsToOpen (ds : List Downtime) (e : Event) (d : Downtime) : Type 0 where
  pub found : record_of ds e.id ≡ Some d
  pub waits : awaits d ≡ true
  pub is : same e (opening d) ≡ true

same_turned : (a b : Event) → same a b ≡ true → same b a ≡ true
same_turned a b h = grind (arith, nat_tests)

-- the record of an opening is there
pub opening_within : (ds : List Downtime) (e : Event) → AreNumbered 0 ds → is_opening ds e ≡ true → (1 ≤ e.id) × (e.id ≤ length ds)
opening_within ds e n h =
    let its = opening_is_of ds e h in
    let p = place_found ds e.id its.of n its.found in
    (p.first, p.last)

-- the record at its index is to open
pub is_to_open : (ds : List Downtime) (e : Event) (d : Downtime) → AreRecords 0 ds → is_opening ds e ≡ true → d ≡ get_or ds (e.id - 1) d → IsToOpen ds e d
is_to_open ds e d w h at =
    let its = opening_is_of ds e h in
    let found = record_there ds e.id d w (opening_within ds e (numbered 0 ds w) h) at in
    let same_one : its.of ≡ d = (let both = sym its.found ∙ found in cc) in
    record {
      found = found;
      waits = subst (λ (x : Downtime). awaits x ≡ true) same_one its.waits;
      is = same_turned (opening d) e (subst (λ (x : Downtime). same (opening x) e ≡ true) same_one its.is);
    }

-- it is in no ring yet
pub in_no_ring : (ds : List Downtime) (q : Queue) (left : List Event) (e : Event) (d : Downtime) (o : ℕ) → IsToOpen ds e d → is_in ds (is_yet ds q (e ∷ left)) o e.id ≡ false
unfolding has
in_no_ring ds q left e d o t =
    let yet : is_unopened ds (e ∷ left) e.id ≡ true = ap (has_opening (e ∷ left)) t.found ∙ ap (λ c. c || has left (opening d)) t.is in
    ap (λ c. awaits_at ds o e.id && not (is_unopened ds (queued q) e.id || c)) yet ∙ ap (λ c. awaits_at ds o e.id && not c) (or-true (is_unopened ds (queued q) e.id)) ∙ and-false (awaits_at ds o e.id)

pub opened : (ds : List Downtime) (q : Queue) (a p b : Rings) (left : List Event) (e : Event) (d : Downtime) (before id : ℕ) → id ≡ e.id → AreNumbered 0 ds → AreOpening ds (e ∷ left) (record { openings = q; rings = a }) → IsToOpen ds e d
    → has left e ≡ false → has (queued q) e ≡ false
    → IsBehind (is_in ds (is_yet ds q (e ∷ left)) d.object) (next_of a d.object) before id
    → IsSet a p d.object id (record { next = next_of a d.object before; previous = before })
    → length p.near.items ≡ length a.near.items → length p.ends.items ≡ length a.ends.items
    → AreTied p b d.object (record { next = next_of a d.object before; previous = before }) (record { next = id; previous = id })
    → AreOpening ds left (record { openings = q; rings = b })
unfolding has
opened ds q a p b left e d before id same_id n w its not_left not_queued at s near ends t = record {
  openings = w.openings;
  rings = record {
    each = t.near ∙ near ∙ w.rings.each;
    ends = rw (t.ends, ends) w.rings.ends;
    ring = members_more _ _ a p b d.object id before (membership ds _ n) w.rings.ring at (λ o. rw same_id (in_no_ring ds q left e d o its))
        (rw same_id (ap (λ c. awaits_at ds d.object e.id && not c) gone ∙ ap (λ c. c && true) (awaits_own ds d e.id its.found its.waits)))
        (λ o k. rw same_id (ap (λ c. c && not (is_yet ds q left e.id)) (ap (awaits_in o) its.found ∙ not_on o k)))
        (λ o x k. ap (λ c. awaits_at ds o x && not (is_unopened ds (queued q) x || c)) (by_record x (subst (λ m. eqb x m ≡ false) same_id k) (record_of ds x) refl))
        s t;
  };
}
  where
    not_on : (o : ℕ) → eqb o d.object ≡ false → (eqb d.object o && awaits d) ≡ false
    not_on o k = let turned : eqb d.object o ≡ false = grind (arith, nat_tests) in ap (λ c. c && awaits d) turned

    gone : is_yet ds q left e.id ≡ false
    gone =
        ap (λ (r : Option Downtime). has_opening (queued q) r || has_opening left r) its.found
        ∙ ap (λ c. c || has left (opening d)) (same_has (queued q) e (opening d) its.is ∙ not_queued)
        ∙ same_has left e (opening d) its.is ∙ not_left

    by_record : (x : ℕ) → eqb x e.id ≡ false → (r : Option Downtime) → record_of ds x ≡ r → has_opening left (record_of ds x) ≡ has_opening (e ∷ left) (record_of ds x)
    by_record x k None i = ap (has_opening left) i ∙ sym (ap (has_opening (e ∷ left)) i)
    by_record x k (Some y) i =
        let its_id = id_found ds x y i in
        let no : same e (opening y) ≡ false = grind (arith, nat_tests) in
        ap (has_opening left) i ∙ sym (ap (λ c. c || has left (opening y)) no) ∙ sym (ap (has_opening (e ∷ left)) i)

-- ---- all that opened by a clock

-- the openings by the clock left the queue
pub record IsRetired (q p : Queue) (clock : ℕ) (es : List Event) : Type 0 where
  pub queue : IsQueue p
  pub room : vec_capacity p.list ≡ vec_capacity q.list
  pub rest : (e : Event) → has (queued p) e ≡ (has (queued q) e && not (nat_le e.moment clock))
  pub gone : (e : Event) → has es e ≡ (has (queued q) e && nat_le e.moment clock)
  pub once : AreOnce es

pub have_left : (ds : List Downtime) (q p : Queue) (clock : ℕ) (es : List Event) → AreOpenings ds q → IsRetired q p clock es → HaveLeft ds es p
have_left ds q p clock es w r = record {
  some = λ e h. w.some e (and_parts (has (queued q) e) (nat_le e.moment clock) (sym (r.gone e) ∙ h)).0;
  once = r.once;
  apart = λ e h. r.rest e ∙ ap (λ c. has (queued q) e && not c) (and_parts (has (queued q) e) (nat_le e.moment clock) (sym (r.gone e) ∙ h)).1 ∙ and-false (has (queued q) e);
}

pub all_left : (ds : List Downtime) (w : Waiting) (p : Queue) (clock : ℕ) (es : List Event) → AreWaiting ds w → IsRetired w.openings p clock es → AreOpening ds es (record { openings = p; rings = w.rings })
all_left ds w p clock es a r = record {
  openings = record {
    queue = r.queue;
    some = λ e h. a.openings.some e (and_parts (has (queued w.openings) e) (not (nat_le e.moment clock)) (sym (r.rest e) ∙ h)).0;
    room = rw r.room a.openings.room;
  };
  rings = rings_like ds (is_unopened ds (queued w.openings)) (is_yet ds p es) w.rings (λ o x h. by_record x (record_of ds x) refl) a.rings;
}
  where
    either : (h m : Bool) → ((h && not m) || (h && m)) ≡ h
    either true true = refl
    either true false = refl
    either false m = refl

    by_record : (x : ℕ) (r : Option Downtime) → record_of ds x ≡ r → is_yet ds p es x ≡ is_unopened ds (queued w.openings) x
    by_record x None k = ap (λ (o : Option Downtime). has_opening (queued p) o || has_opening es o) k ∙ sym (ap (has_opening (queued w.openings)) k)
    by_record x (Some d) k =
        ap (λ (o : Option Downtime). has_opening (queued p) o || has_opening es o) k
        ∙ ap (λ c. c || has es (opening d)) (r.rest (opening d))
        ∙ ap (λ c. (has (queued w.openings) (opening d) && not (nat_le (own_time d) clock)) || c) (r.gone (opening d))
        ∙ either (has (queued w.openings) (opening d)) (nat_le (own_time d) clock)
        ∙ sym (ap (has_opening (queued w.openings)) k)

-- the opening at index i of those that left
pub record IsLeftAt (ds : List Downtime) (q : Queue) (count i : ℕ) (e : Event) : Type 0 where
  pub at : drop i (retired count q) ≡ e ∷ drop (i + 1) (retired count q)
  pub opens : is_opening ds e ≡ true
  pub gone : has (drop (i + 1) (retired count q)) e ≡ false
  pub apart : has (queued q) e ≡ false

pub left_at : (ds : List Downtime) (q : Queue) (count i : ℕ) (e : Event) → IsQueue q → HaveLeft ds (retired count q) q → (i < count) × (count ≤ q.start) → e ≡ get_or (retired count q) i e → IsLeftAt ds q count i e
left_at ds q count i e w left within is =
    let next = next_left q count i e w within.1 within.0 left.once is in
    record { at = next.at; opens = left.some e next.there; gone = next.gone; apart = left.apart e next.there }

-- where none is left to be moved the rings are whole
pub all_moved : (ds : List Downtime) (w : Waiting) → AreOpening ds [] w → AreWaiting ds w
unfolding has
all_moved ds w a = record { openings = a.openings; rings = rings_like ds (is_yet ds w.openings []) (is_unopened ds (queued w.openings)) w.rings (λ o x h. sym (by_record x (record_of ds x))) a.rings }
  where
    by_record : (x : ℕ) (r : Option Downtime) → (is_unopened ds (queued w.openings) x || has_opening [] r) ≡ is_unopened ds (queued w.openings) x
    by_record x None = or-false (is_unopened ds (queued w.openings) x)
    by_record x (Some d) = or-false (is_unopened ds (queued w.openings) x)

-- and none of the queue is open
pub none_opened : (ds : List Downtime) (q : Queue) (w : Waiting) (clock : ℕ) (es : List Event) → IsRetired q w.openings clock es → HaveOpened ds w clock
none_opened ds q w clock es r = λ x h. by_record x (record_of ds x) refl h
  where
    late : (m : Bool) → not m ≡ true → m ≡ false
    late true k = absurd (cc)
    late false k = refl

    by_record : (x : ℕ) (o : Option Downtime) → record_of ds x ≡ o → is_unopened ds (queued w.openings) x ≡ true → is_open ds clock x ≡ false
    by_record x None k h = ap (is_open_in clock) k
    by_record x (Some d) k h =
        let there = sym (ap (has_opening (queued w.openings)) k) ∙ h in
        let after = late (nat_le (own_time d) clock) (and_parts (has (queued q) (opening d)) (not (nat_le (own_time d) clock)) (sym (r.rest (opening d)) ∙ there)).1 in
        ap (is_open_in clock) k ∙ ap (λ c. c && nat_lt clock d.plan.times.end_time) after

-- ---- new records

openings_block : (ds : List Downtime) (first n : ℕ) (o : Option Event) → AreNew ds first n → option_to_list o ≡ openings_in (record_of ds first) → (e : Event) → in_block_of o n e ≡ (not (nat_lt e.id first) && is_opening ds e)
unfolding is_opening
openings_block ds first n o new h e = by_first (record_of ds first) refl h
  where
    at : Downtime → Option ℕ
    at d = cond (awaits d) (Some (own_time d)) None

    timed_opening : (d : Downtime) (b : Bool) → cond b (opening d ∷ []) [] ≡ timed Starts (cond b (Some (own_time d)) None) d.id
    timed_opening d true = refl
    timed_opening d false = refl

    own : (d : Downtime) → record_of ds first ≡ Some d → (id : ℕ) (x : Downtime) → first ≤ id → record_of ds id ≡ Some x → openings_of x ≡ timed Starts (at d) id
    own d g id x k i =
        let is = new.alike.alike id d x g k i in
        timed_opening x (awaits x) ∙ ap (λ y. timed Starts (at x) y) (id_found ds id x i) ∙ ap (λ (y : Downtime). timed Starts (at y) id) is

    by_first : (r : Option Downtime) → record_of ds first ≡ r → option_to_list o ≡ openings_in r → in_block_of o n e ≡ (not (nat_lt e.id first) && has (openings_in (record_of ds e.id)) e)
    by_first None g i = no_block ds openings_in first n o e new.numbered new.some g refl i
    by_first (Some d) g i = own_block ds openings_in Starts (at d) first n o e new.numbered new.some new.long refl (own d g) (i ∙ own d g first d (omega arith) g)

-- the queue has openings of the records below `first` alone
abbrev pub AreBelow : List Downtime → Queue → (first : ℕ) → Type 0
AreBelow ds q first = (e : Event) → has (queued q) e ≡ true → (is_opening ds e ≡ true) × (e.id < first)

pub opening_not_in : (ds : List Downtime) (q : Queue) (first n : ℕ) (o : Option Event) → AreNew ds first n → option_to_list o ≡ openings_in (record_of ds first) → AreBelow ds q first → (e : Event) → in_block_of o n e ≡ true → has (queued q) e ≡ false
opening_not_in ds q first n o new is below e h = by_test (has (queued q) e) refl
  where
    by_test : (b : Bool) → has (queued q) e ≡ b → has (queued q) e ≡ false
    by_test true k =
        let l = (below e k).1 in
        let yes_is : nat_lt e.id first ≡ true = grind (arith, nat_tests) in
        let no : (not (nat_lt e.id first) && is_opening ds e) ≡ true = sym (openings_block ds first n o new is e) ∙ h in
        absurd (let f = ap (λ b. not b && is_opening ds e) yes_is in cc)
    by_test false k = k

pub opening_fits : (ds : List Downtime) (q : Queue) (first n : ℕ) (o : Option Event) → AreNew ds first n → option_to_list o ≡ openings_in (record_of ds first) → IsQueue q → length ds ≤ vec_capacity q.list → AreBelow ds q first → IfSome o (λ _. length (queued q) + n ≤ vec_capacity q.list)
unfolding all_openings
opening_fits ds q first n o new is queue room below =
    let most = one_each ds in
    fits_in (all_openings ds) q o n queue.ascending (omega arith)
    (λ e h. openings_by_id ds e new.numbered ∙ (and_parts (not (nat_lt e.id first)) (is_opening ds e) (sym (openings_block ds first n o new is e) ∙ h)).1)
    (λ e h. openings_by_id ds e new.numbered ∙ (below e h).0)
    (opening_not_in ds q first n o new is below)

-- with the openings of the new records in the queue, the rings are whole
pub all_entered : (ds : List Downtime) (a b : Waiting) (first n : ℕ) (o : Option Event) → AreNew ds first n → option_to_list o ≡ openings_in (record_of ds first) → IsQueue b.openings → vec_capacity b.openings.list ≡ vec_capacity a.openings.list → length ds ≤ vec_capacity a.openings.list
    → AreBelow ds a.openings first → ((e : Event) → has (queued b.openings) e ≡ (in_block_of o n e || has (queued a.openings) e)) → b.rings ≡ a.rings → AreRings ds (is_outside ds (queued a.openings) first) a.rings → AreWaiting ds b
all_entered ds a b first n o new is queue same_room room below events same_rings rings = record {
  openings = record {
    queue = queue;
    some = λ e h. by_block e (in_block_of o n e) refl (sym (events e) ∙ h);
    room = rw same_room room;
  };
  rings = rw same_rings (rings_like ds (is_outside ds (queued a.openings) first) (is_unopened ds (queued b.openings)) a.rings (λ p x h. by_record p x (record_of ds x) refl h) rings);
}
  where
    by_block : (e : Event) (c : Bool) → in_block_of o n e ≡ c → (c || has (queued a.openings) e) ≡ true → is_opening ds e ≡ true
    by_block e true k h = (and_parts (not (nat_lt e.id first)) (is_opening ds e) (sym (openings_block ds first n o new is e) ∙ k)).1
    by_block e false k h = (below e h).0

    turned : (l h : Bool) → (not l && true || h) ≡ (h || not l)
    turned true true = refl
    turned true false = refl
    turned false true = refl
    turned false false = refl

    not_below : (x : ℕ) → not (nat_lt x first) ≡ nat_le first x
    not_below x = grind (arith, nat_tests)

    by_record : (p x : ℕ) (r : Option Downtime) → record_of ds x ≡ r → awaits_at ds p x ≡ true → is_unopened ds (queued b.openings) x ≡ is_outside ds (queued a.openings) first x
    by_record p x None k h = absurd (let no = ap (awaits_in p) k in cc)
    by_record p x (Some d) k h =
        let waits = (and_parts (eqb d.object p) (awaits d) (sym (ap (awaits_in p) k) ∙ h)).1 in
        ap (has_opening (queued b.openings)) k ∙ events (opening d)
        ∙ ap (λ c. c || has (queued a.openings) (opening d)) (openings_block ds first n o new is (opening d))
        ∙ ap (λ c. not (nat_lt d.id first) && c || has (queued a.openings) (opening d)) (is_its_opening ds d x k waits)
        ∙ turned (nat_lt d.id first) (has (queued a.openings) (opening d))
        ∙ ap (λ c. has (queued a.openings) (opening d) || c) (not_below d.id ∙ ap (λ y. nat_le first y) (id_found ds x d k))
        ∙ sym (ap (λ c. c || nat_le first x) (ap (has_opening (queued a.openings)) k))

pub opening_id_is : (ds : List Downtime) (id n m : ℕ) (o : Option Event) → option_to_list o ≡ openings_in (record_of ds id) → id + n ≤ m → IfSome o (λ f. f.id + n ≤ m)
unfolding has
opening_id_is ds id n m o h l = one_of o (openings_in (record_of ds id)) (λ f. f.id + n ≤ m) h (λ e k. by_record e (record_of ds id) refl k)
  where
    by_test : (d : Downtime) (e : Event) → d.id ≡ id → (b : Bool) → eqb d.id e.id ≡ b → has (openings_of d) e ≡ true → e.id + n ≤ m
    by_test d e its true i k = let same_one = eqb-true d.id e.id i in omega arith
    by_test d e its false i k = absurd (let no = openings_other d e i in cc)

    by_record : (e : Event) (r : Option Downtime) → record_of ds id ≡ r → has (openings_in r) e ≡ true → e.id + n ≤ m
    by_record e None i k = absurd (cc)
    by_record e (Some d) i k = by_test d e (id_found ds id d i) (eqb d.id e.id) refl k

-- what waits below the new records waits among all
before_entered : (ds all : List Downtime) (es : List Event) (first : ℕ) (a : Rings) → AreNumbered 0 ds → first ≡ length ds + 1 → ((x : ℕ) → x ≤ length ds → record_of all x ≡ record_of ds x) → AreRings ds (is_unopened ds es) a → AreRings ds (is_outside all es first) a
before_entered ds all es first a n next front w = rings_like ds (is_unopened ds es) (is_outside all es first) a (λ o x h. like o x (awaits_within ds o x n h).1) w
  where
    like : (o x : ℕ) → x ≤ length ds → is_outside all es first x ≡ is_unopened ds es x
    like o x l =
        let no : nat_le first x ≡ false = grind (arith, nat_tests) in
        ap (λ c. is_unopened all es x || c) no ∙ or-false (is_unopened all es x) ∙ ap (has_opening es) (front x l)

pub openings_below : (ds all : List Downtime) (q : Queue) (first : ℕ) → AreNumbered 0 ds → first ≡ length ds + 1 → ((x : ℕ) → x ≤ length ds → record_of all x ≡ record_of ds x) → AreOpenings ds q → AreBelow all q first
unfolding is_opening
openings_below ds all q first n next front w = λ e h.
    let is = w.some e h in
    let its = opening_is_of ds e is in
    let l = (place_found ds e.id its.of n its.found).last in
    (ap (λ (o : Option Downtime). has (openings_in o) e) (front e.id l) ∙ is, omega arith)

-- the rings with the new records left out, where each was added so
pub rings_entered : (ds all : List Downtime) (es : List Event) (first : ℕ) (a b : Rings) → AreNumbered 0 ds → first ≡ length ds + 1 → ((x : ℕ) → x ≤ length ds → record_of all x ≡ record_of ds x) → AreRings ds (is_unopened ds es) a
    → ((out : ℕ → Bool) → ((x : ℕ) → first ≤ x → out x ≡ true) → AreRings ds out a → AreRings all out b) → AreRings all (is_outside all es first) b
rings_entered ds all es first a b n next front w added = added (is_outside all es first) above (before_entered ds all es first a n next front w)
  where
    above : (x : ℕ) → first ≤ x → is_outside all es first x ≡ true
    above x l = let yes_is : nat_le first x ≡ true = grind (arith, nat_tests) in ap (λ c. is_unopened all es x || c) yes_is ∙ or-true (is_unopened all es x)

-- ---- no records, and room for more

pub none_wait : (w : Waiting) → IsQueue w.openings → queued w.openings ≡ [] → ((out : ℕ → Bool) → AreRings [] out w.rings) → AreWaiting [] w
unfolding has
none_wait w queue none rings = record {
  openings = record { queue = queue; some = λ e h. absurd (let no = ap (λ es. has es e) none in cc); room = omega arith };
  rings = rings (is_unopened [] (queued w.openings));
}

pub more_room : (ds : List Downtime) (a b : Waiting) → AreWaiting ds a → IsQueue b.openings → queued b.openings ≡ queued a.openings → vec_capacity a.openings.list ≤ vec_capacity b.openings.list → ((out : ℕ → Bool) → AreRings ds out a.rings → AreRings ds out b.rings) → AreWaiting ds b
more_room ds a b w queue same_ones room rings = record {
  openings = record {
    queue = queue;
    some = λ e h. w.openings.some e (ap (λ es. has es e) (sym same_ones) ∙ h);
    room = (let all = w.openings.room in omega arith);
  };
  rings = rw same_ones (rings (is_unopened ds (queued a.openings)) w.rings);
}

-- counters and rings that only grew
pub kept_reserved : (ds : List Downtime) (kept : RecordIndex) (depths : Depths) (rings : Rings) → AreKept ds kept → AreDepths ds depths → ((out : ℕ → Bool) → AreRings ds out kept.waiting.rings → AreRings ds out rings) → AreKept ds (record kept { depths = depths; waiting = record kept.waiting { rings = rings } })
kept_reserved ds kept depths rings w counted grown = record {
  records = w.records;
  listed = w.listed;
  linked = w.linked;
  marked = w.marked;
  counted = counted;
  waiting = more_room ds kept.waiting _ w.waiting w.waiting.openings.queue refl (omega arith) grown;
}

-- ---- records that were scheduled before

-- no record is in a ring, whoever is left out
pub none_left_out : (out : ℕ → Bool) (a : Rings) → AreRings [] out a → AreRings [] (λ _. true) a
none_left_out out a w = rings_like [] out (λ _. true) a (λ o x h. absurd (cc)) w

-- with all openings in the queue, the rings are empty
pub all_unopened : (ds : List Downtime) (es : List Event) (a : Rings) → ((e : Event) → has es e ≡ is_opening ds e) → AreRings ds (λ _. true) a → AreRings ds (is_unopened ds es) a
all_unopened ds es a events w = rings_like ds (λ _. true) (is_unopened ds es) a (λ o x h. by_record o x (record_of ds x) refl h) w
  where
    by_record : (o x : ℕ) (r : Option Downtime) → record_of ds x ≡ r → awaits_at ds o x ≡ true → is_unopened ds es x ≡ true
    by_record o x None k h = absurd (let no = ap (awaits_in o) k in cc)
    by_record o x (Some d) k h = ap (has_opening es) k ∙ events (opening d) ∙ is_its_opening ds d x k (and_parts (eqb d.object o) (awaits d) (sym (ap (awaits_in o) k) ∙ h)).1
