-- The dependants of a downtime, by their triggers.
use Rattle.std.proofs.Common.{◌≡◌, ℕ, ◌+◌, ◌-◌, ◌<◌, ◌≤◌, Bool, true, false, eqb, cond, ◌||◌, List, [], ◌∷◌, length, get_or, map, Option, Some, None, refl, ap, sym, ◌∙◌, subst, arith, zero, suc, eq-eqb}
use Rattle.std.proofs.Math.Bool.{or-true}
use Rattle.std.proofs.lemmas.Bool.{eqb-true}
use Rattle.std.proofs.lemmas.Bool.Decides.{nat_tests}
use Rattle.std.proofs.lemmas.Option.{slice_get-get_or}
use Rattle.mon_downtime.specs.declared.downtime.Downtime.{Downtime}
use Rattle.mon_downtime.specs.declared.downtime.Fate.TheVariants.{Over}
use Rattle.mon_downtime.specs.Records.{record_of, IsNumbered, AreNumbered, IsRecord, AreRecords, is_live, is_live_record}
use Rattle.mon_downtime.specs.Cancel.{trigger_of, trigger_in, leads_to, depends, cancelled, cancelled_record, IsClosed, DependantsAreLeast}
use Rattle.mon_downtime.proofs.RecordLemmas.{record_at, record_is, place_found, id_found, record_of_earlier}

-- a trigger is an earlier downtime
pub trigger_falls : (ds : List Downtime) (x : ℕ) → AreNumbered 0 ds → trigger_of ds x ≤ x - 1
trigger_falls ds x w = by_record (record_of ds x) refl
  where
    by_record : (o : Option Downtime) → record_of ds x ≡ o → trigger_in o ≤ x - 1
    by_record None e = omega arith
    by_record (Some d) e =
        let p = place_found ds x d w e in
        let r = record_is 0 ds (x - 1) d w (let a = p.first in let b = p.last in omega arith) in
        let earlier : d.plan.times.trigger_id ≤ r.0 = subst (λ (v : Downtime). v.plan.times.trigger_id ≤ r.0) (p.at d) r.2.trigger_earlier in
        omega (arith, r.1)

-- 0 is no downtime, and leads nowhere
pub none_leads : (n : ℕ) (ds : List Downtime) (id : ℕ) → AreNumbered 0 ds → 0 < id → leads_to n ds id 0 ≡ false
unfolding leads_to
none_leads zero ds id w l = grind (arith, nat_tests)
none_leads (suc n) ds id w l =
    let again = none_leads n ds id w l in
    let none = record_of_earlier 0 ds 0 w (omega arith) in
    let not_id : eqb 0 id ≡ false = grind (arith, nat_tests) in
    rw (not_id, none) again

-- a chain is no longer than the ids are high
pub leads_enough : (n : ℕ) (ds : List Downtime) (id x : ℕ) → AreNumbered 0 ds → 0 < id → x ≤ n → leads_to (suc n) ds id x ≡ leads_to n ds id x
unfolding leads_to
leads_enough zero ds id x w l h =
    let zero_is : x ≡ 0 = omega arith in
    let none = record_of_earlier 0 ds 0 w (omega arith) in
    let not_id : eqb 0 id ≡ false = grind (arith, nat_tests) in
    rw (zero_is, not_id, none, not_id) refl
leads_enough (suc n) ds id x w l h =
    let falls = trigger_falls ds x w in
    ap (λ b. eqb x id || b) (leads_enough n ds id (trigger_of ds x) w l (omega arith))

-- a downtime depends on id where it is id, or its trigger depends on it
pub depends_step : (ds : List Downtime) (id x : ℕ) → AreNumbered 0 ds → 0 < id → x ≤ length ds → depends ds id x ≡ (eqb x id || depends ds id (trigger_of ds x))
unfolding depends leads_to
depends_step ds id x w l h = sym (leads_enough (length ds) ds id x w l h)

pub depends_none : (ds : List Downtime) (id : ℕ) → AreNumbered 0 ds → 0 < id → depends ds id 0 ≡ false
unfolding depends
depends_none ds id w l = none_leads (length ds) ds id w l

-- the record of a place, and what is known of its id
record HasRecord (ds : List Downtime) (i : ℕ) (x : Downtime) : Type 0 where
  id_is : x.id ≡ i + 1
  found : record_of ds x.id ≡ Some x
  trigger_earlier : x.plan.times.trigger_id ≤ i

has_record : (ds : List Downtime) (i : ℕ) (d : Downtime) → AreNumbered 0 ds → i < length ds → HasRecord ds i (get_or ds i d)
has_record ds i d w h =
    let r = record_is 0 ds i d w h in
    let next = r.2.id_next in
    let earlier = r.2.trigger_earlier in
    record {
      id_is = omega (arith, r.1);
      found = record_at 0 ds (get_or ds i d).id i w (omega (arith, r.1)) ∙ slice_get-get_or ds i d h;
      trigger_earlier = omega (arith, r.1);
    }

-- a live downtime has its id among those of the records
pub live_within : (ds : List Downtime) (id : ℕ) → AreNumbered 0 ds → is_live ds id ≡ true → (1 ≤ id) × (id ≤ length ds)
live_within ds id w h = by_record (record_of ds id) refl h
  where
    by_record : (o : Option Downtime) → record_of ds id ≡ o → is_live_record o ≡ true → (1 ≤ id) × (id ≤ length ds)
    by_record None e k = absurd (cc)
    by_record (Some d) e k = let p = place_found ds id d w e in (p.first, p.last)

AreRecords-over : (n : ℕ) (ds xs : List Downtime) (id : ℕ) → AreRecords n xs → AreRecords n (map (cancelled_record ds id) xs)
AreRecords-over n ds [] id w = tt
AreRecords-over n ds (x ∷ xs) id w = (over (depends ds id x.id), AreRecords-over (n + 1) ds xs id w.1)
  where
    numbers : IsNumbered n (record x { fate = Over })
    numbers = record { id_next = w.0.numbered.id_next; trigger_earlier = w.0.numbered.trigger_earlier }

    over : (b : Bool) → IsRecord n (cond b (record x { fate = Over }) x)
    over true = let r = w.0 in record { numbered = numbers; start_small = r.start_small; end_small = r.end_small; duration_small = r.duration_small; entered_small = r.entered_small; fate_small = tt }
    over false = w.0

pub AreRecords-cancelled : (ds : List Downtime) (id : ℕ) → AreRecords 0 ds → AreRecords 0 (cancelled ds id)
unfolding cancelled
AreRecords-cancelled ds id w = AreRecords-over 0 ds ds id w

pub leads_itself : (n : ℕ) (ds : List Downtime) (id : ℕ) → leads_to n ds id id ≡ true
unfolding leads_to
leads_itself zero ds id = eq-eqb id id refl
leads_itself (suc n) ds id = let e = eq-eqb id id refl in rw e refl

closed : (ds : List Downtime) (id : ℕ) → AreNumbered 0 ds → 0 < id → IsClosed ds id (depends ds id)
closed ds id w l = record {
  itself = unfold depends in leads_itself (length ds) ds id;
  through = λ d k h.
      let r : HasRecord ds k.0 d = subst (HasRecord ds k.0) k.2 (has_record ds k.0 d w k.1) in
      let is = r.id_is in
      let at = k.1 in
      depends_step ds id d.id w l (omega arith)
      ∙ ap (λ (o : Option Downtime). eqb d.id id || depends ds id (trigger_in o)) r.found
      ∙ ap (λ b. eqb d.id id || b) h ∙ or-true (eqb d.id id);
}

leads_least : (n : ℕ) (ds : List Downtime) (id x : ℕ) (has : ℕ → Bool) → AreNumbered 0 ds → 0 < id → IsClosed ds id has → leads_to n ds id x ≡ true → has x ≡ true
unfolding leads_to
leads_least zero ds id x has w l c h = subst (λ y. has y ≡ true) (sym (eqb-true x id h)) c.itself
leads_least (suc n) ds id x has w l c h = by_test (λ k. leads_least n ds id (trigger_of ds x) has w l c k) (eqb x id) refl h
  where
    by_record : (o : Option Downtime) → record_of ds x ≡ o → leads_to n ds id (trigger_in o) ≡ true → has (trigger_in o) ≡ true → has x ≡ true
    by_record None e t k = absurd (let no = none_leads n ds id w l in cc)
    by_record (Some d) e t k =
        let p = place_found ds x d w e in
        let a = p.first in
        let b = p.last in
        let y = c.through d (x - 1, omega arith, p.at d) k in
        subst (λ z. has z ≡ true) (id_found ds x d e) y

    by_test : (leads_to n ds id (trigger_of ds x) ≡ true → has (trigger_of ds x) ≡ true) → (b : Bool) → eqb x id ≡ b → (b || leads_to n ds id (trigger_of ds x)) ≡ true → has x ≡ true
    by_test again true e k = subst (λ y. has y ≡ true) (sym (eqb-true x id e)) c.itself
    by_test again false e k = by_record (record_of ds x) refl k (again k)

-- the dependants are the least set that is closed
pub dependants_least : DependantsAreLeast
unfolding depends
dependants_least ds id w l = (closed ds id w l, λ has c x h. leads_least (length ds) ds id x has w l c h)
