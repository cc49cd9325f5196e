-- A record that is scheduled, or several.
use Rattle.std.proofs.Common.{◌≡◌, ℕ, ◌+◌, ◌<◌, ◌≤◌, Bool, true, false, eqb, leb, cond, not, ◌&&◌, List, [], ◌∷◌, ◌++◌, length, get_or, take, Option, Some, None, refl, ap, sym, ◌∙◌, subst, arith}
use Rattle.std.proofs.lemmas.Bool.Decides.{nat_tests}
use Rattle.std.proofs.lemmas.List.{take_more, length-take-le, append_assoc}
use Rattle.cmd_types.specs.declared.limits.TheConstants.{GREATEST_NUMBER}
use Rattle.mon_downtime.specs.declared.downtime.Downtime.{Downtime}
use Rattle.mon_downtime.specs.declared.plan.Plan.{Plan}
use Rattle.mon_downtime.specs.Records.{record_of, IsRecord, AreRecords}
use Rattle.mon_downtime.specs.Schedule.{BadWindow, PastWindow, NoDuration, fault_of, trigger_fault, new_record, new_records, IsSmallPlan}
use Rattle.mon_downtime.proofs.RecordLemmas.{numbered, place_found}

-- what has no fault has a trigger that is there, or none
pub trigger_known : (ds : List Downtime) (clock : ℕ) (plan : Plan) → AreRecords 0 ds → fault_of ds clock plan ≡ None → plan.times.trigger_id ≤ length ds
trigger_known ds clock plan w h = first (leb plan.times.end_time plan.times.start_time) (leb plan.times.end_time clock) (not plan.times.fixed && eqb plan.times.duration 0) (eqb plan.times.trigger_id 0) refl h
  where
    found : (o : Option Downtime) → record_of ds plan.times.trigger_id ≡ o → trigger_fault o ≡ None → plan.times.trigger_id ≤ length ds
    found None e k = absurd (cc)
    found (Some d) e k = (place_found ds plan.times.trigger_id d (numbered 0 ds w) e).last

    first : (a b c d : Bool) → eqb plan.times.trigger_id 0 ≡ d → cond a (Some BadWindow) (cond b (Some PastWindow) (cond c (Some NoDuration) (cond d None (trigger_fault (record_of ds plan.times.trigger_id))))) ≡ None → plan.times.trigger_id ≤ length ds
    first true b c d e k = absurd (cc)
    first false true c d e k = absurd (cc)
    first false false true d e k = absurd (cc)
    first false false false true e k = grind (arith, nat_tests)
    first false false false false e k = found (record_of ds plan.times.trigger_id) refl k

pub new_is_record : (n clock object : ℕ) (plan : Plan) → plan.times.trigger_id ≤ n → clock ≤ GREATEST_NUMBER → IsSmallPlan plan → IsRecord n (new_record n clock object plan)
new_is_record n clock object plan t c s = record { numbered = record { id_next = refl; trigger_earlier = t }; start_small = s.0; end_small = s.1; duration_small = s.2; entered_small = c; fate_small = tt }

new_are_records : (n clock : ℕ) (objects : List ℕ) (plan : Plan) → plan.times.trigger_id ≤ n → clock ≤ GREATEST_NUMBER → IsSmallPlan plan → AreRecords n (new_records n clock objects plan)
unfolding new_records
new_are_records n clock [] plan t c s = tt
new_are_records n clock (object ∷ objects) plan t c s = (new_is_record n clock object plan t c s, new_are_records (n + 1) clock objects plan (omega arith) c s)

pub AreRecords-append : (n m : ℕ) (ds es : List Downtime) → AreRecords n ds → m ≡ n + length ds → AreRecords m es → AreRecords n (ds ++ es)
AreRecords-append n m [] es w e r = let same : m ≡ n = omega arith in subst (λ k. AreRecords k es) same r
AreRecords-append n m (x ∷ ds) es w e r = (w.0, AreRecords-append (n + 1) m ds es w.1 (omega arith) r)

-- the records with new ones of a plan without a fault
pub AreRecords-scheduled : (ds : List Downtime) (clock : ℕ) (objects : List ℕ) (plan : Plan) → AreRecords 0 ds → fault_of ds clock plan ≡ None → clock ≤ GREATEST_NUMBER → IsSmallPlan plan → AreRecords 0 (ds ++ new_records (length ds) clock objects plan)
AreRecords-scheduled ds clock objects plan w h c s =
    AreRecords-append 0 (length ds) ds (new_records (length ds) clock objects plan) w (omega arith) (new_are_records (length ds) clock objects plan (trigger_known ds clock plan w h) c s)

-- one more new record
new_records-push : (n clock object : ℕ) (objects : List ℕ) (plan : Plan) → new_records n clock (objects ++ object ∷ []) plan ≡ new_records n clock objects plan ++ new_record (n + length objects) clock object plan ∷ []
unfolding new_records
new_records-push n clock object [] plan = let e : n ≡ n + 0 = omega arith in ap (λ k. new_record k clock object plan ∷ []) e
new_records-push n clock object (x ∷ objects) plan =
    let e : (n + 1) + length objects ≡ n + length (x ∷ objects) = omega arith in
    ap (λ (ds : List Downtime). new_record n clock x plan ∷ ds) (new_records-push (n + 1) clock object objects plan ∙ ap (λ k. new_records (n + 1) clock objects plan ++ new_record k clock object plan ∷ []) e)

-- a turn of the loop that adds one for each object
pub many_turn : (old ds next : List Downtime) (n m i clock object : ℕ) (objects : List ℕ) (plan : Plan) → i < length objects → object ≡ get_or objects i object → m ≡ n + i → ds ≡ old ++ new_records n clock (take i objects) plan → next ≡ ds ++ new_record m clock object plan ∷ [] → next ≡ old ++ new_records n clock (take (i + 1) objects) plan
many_turn old ds next n m i clock object objects plan l o e h k =
    let long : n + length (take i objects) ≡ m = omega (arith, length-take-le i objects (omega arith)) in
    k ∙ ap (λ (xs : List Downtime). xs ++ new_record m clock object plan ∷ []) h
    ∙ append_assoc old (new_records n clock (take i objects) plan) (new_record m clock object plan ∷ [])
    ∙ ap (λ (xs : List Downtime). old ++ xs) (ap (λ j. new_records n clock (take i objects) plan ++ new_record j clock object plan ∷ []) (sym long)
    ∙ sym (new_records-push n clock object (take i objects) plan)
    ∙ ap (λ (os : List ℕ). new_records n clock os plan) (sym (take_more objects i object l ∙ ap (λ x. take i objects ++ x ∷ []) (sym o))))
