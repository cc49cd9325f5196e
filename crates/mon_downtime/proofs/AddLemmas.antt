-- What a new record changes of the depths: nothing, where it is not active.
use Rattle.std.proofs.Common.{◌≡◌, ℕ, ◌+◌, ◌<◌, ◌≤◌, Bool, true, false, eqb, ltb, cond, ◌&&◌, List, [], ◌∷◌, ◌++◌, length, get_or, set, refl, ap, sym, ◌∙◌, subst, arith, eq-eqb}
use Rattle.std.proofs.lemmas.Bool.{eqb-true}
use Rattle.std.proofs.lemmas.Bool.Decides.{nat_tests}
use Rattle.std.proofs.lemmas.List.{length-set, get_or-set_same, get_or-set_other}
use Rattle.std.proofs.lemmas.List.Elements.{All-push}
use Rattle.std.proofs.lemmas.List.Sums.{sum_by-append}
use Rattle.mon_downtime.specs.declared.downtime.Downtime.{Downtime}
use Rattle.mon_downtime.specs.Records.{depth_of, is_active, IsRecord, AreRecords}
use Rattle.mon_downtime.specs.declared.depths.Depths.{Depths}
use Rattle.mon_downtime.specs.Depths.{every_object, AreDepths}
use Rattle.mon_downtime.proofs.BusyLemmas.{same_depths, busy_changed}
use Rattle.cmd_types.specs.declared.limits.TheConstants.{GREATEST_NUMBER}
use Rattle.cmd_types.specs.Counts.{one}
use Rattle.mon_downtime.specs.declared.plan.Plan.{Plan}
use Rattle.mon_downtime.specs.Schedule.{new_record, IsSmallPlan}
use Rattle.mon_downtime.proofs.ScheduleLemmas.{AreRecords-append, new_is_record}

pub records_added : (ds : List Downtime) (r : Downtime) → AreRecords 0 ds → IsRecord (length ds) r → AreRecords 0 (ds ++ r ∷ [])
records_added ds r w h = AreRecords-append 0 (length ds) ds (r ∷ []) w (omega arith) (h, tt)

pub added_depths : (ds : List Downtime) (r : Downtime) (depths : Depths) → AreDepths ds depths → r.object < length depths.each.items → is_active r.fate ≡ false → AreDepths (ds ++ r ∷ []) depths
added_depths ds r depths c within idle = record {
  all = All-push (λ (d : Downtime). d.object < length depths.each.items) ds r c.all within;
  exact = λ o. c.exact o ∙ sym (same o);
  busy = c.busy ∙ same_depths ds (ds ++ r ∷ []) every_object same;
}
  where
    none : (b : Bool) → ◌≡◌ {A = ℕ} (cond (b && false) 1 0) 0
    none true = refl
    none false = refl

    same : (o : ℕ) → depth_of (ds ++ r ∷ []) o ≡ depth_of ds o
    same o =
        let joined = sum_by-append (λ (d : Downtime). cond (eqb d.object o && is_active d.fate) 1 0) ds (r ∷ []) in
        let last : ◌≡◌ {A = ℕ} (cond (eqb r.object o && is_active r.fate) 1 0) 0 = ap (λ b. cond (eqb r.object o && b) 1 0) idle ∙ none (eqb r.object o) in
        omega (arith, joined, last)

-- a record that is active counts for its object
pub added_active : (ds : List Downtime) (r : Downtime) (old new : Depths) (v : ℕ) → AreDepths ds old → r.object < length old.each.items → r.object < every_object → is_active r.fate ≡ true
    → new.each.items ≡ set old.each.items r.object v → v ≡ get_or old.each.items r.object 0 + 1
    → new.in_downtime + one (ltb 0 (get_or old.each.items r.object 0)) ≡ old.in_downtime + one (ltb 0 v) → AreDepths (ds ++ r ∷ []) new
added_active ds r old new v c within small active items counted step = record {
  all = rw (items, length-set old.each.items r.object v) (All-push (λ (d : Downtime). d.object < length old.each.items) ds r c.all within);
  exact = λ o. rw items (by_object o (eqb r.object o) refl);
  busy = busy_changed ds (ds ++ r ∷ []) r.object every_object old.in_downtime new.in_downtime
      (λ k other. elsewhere k (unlike k other)) small c.busy
      (let was = ap (λ n. one (ltb 0 n)) (c.exact r.object) in
      let is = ap (λ n. one (ltb 0 n)) (sym (get_or-set_same old.each.items r.object v 0 within) ∙ by_object r.object true (eq-eqb r.object r.object refl)) in
      omega (arith, was, is, step));
}
  where
    joined : (o : ℕ) → depth_of (ds ++ r ∷ []) o ≡ depth_of ds o + one (eqb r.object o && is_active r.fate)
    joined o = let all = sum_by-append (λ (d : Downtime). one (eqb d.object o && is_active d.fate)) ds (r ∷ []) in omega (arith, all)

    unlike : (k : ℕ) → (k ≡ r.object → ⊥) → eqb r.object k ≡ false
    unlike k other = by_test (eqb r.object k) refl
      where
        by_test : (b : Bool) → eqb r.object k ≡ b → eqb r.object k ≡ false
        by_test true same = absurd (other (sym (eqb-true r.object k same)))
        by_test false same = same

    here : (o : ℕ) → eqb r.object o ≡ true → depth_of (ds ++ r ∷ []) o ≡ depth_of ds o + 1
    here o k = joined o ∙ ap (λ b. depth_of ds o + one (b && is_active r.fate)) k ∙ ap (λ b. depth_of ds o + one b) active

    elsewhere : (o : ℕ) → eqb r.object o ≡ false → depth_of (ds ++ r ∷ []) o ≡ depth_of ds o
    elsewhere o k = let none = joined o ∙ ap (λ b. depth_of ds o + one (b && is_active r.fate)) k in omega (arith, none)

    by_object : (o : ℕ) (b : Bool) → eqb r.object o ≡ b → get_or (set old.each.items r.object v) o 0 ≡ depth_of (ds ++ r ∷ []) o
    by_object o true k =
        let same = eqb-true r.object o k in
        let read = get_or-set_same old.each.items r.object v 0 within in
        let moved = ap (λ n. get_or (set old.each.items r.object v) n 0) (sym same) in
        let before = c.exact o in
        let at = ap (λ n. get_or old.each.items n 0) same in
        let now = here o k in
        omega (arith, read, moved, before, at, now, counted)
    by_object o false k =
        get_or-set_other old.each.items r.object o v 0 (λ same. let k2 : eqb r.object o ≡ true = grind (arith, nat_tests) in absurd (cc)) ∙ c.exact o ∙ sym (elsewhere o k)

-- the records with that of a plan behind them
pub record_added : (ds : List Downtime) (r : Downtime) (n clock object : ℕ) (plan : Plan) → AreRecords 0 ds → n ≡ length ds → plan.times.trigger_id ≤ n → clock ≤ GREATEST_NUMBER → IsSmallPlan plan → r ≡ new_record n clock object plan → AreRecords 0 (ds ++ r ∷ [])
record_added ds r n clock object plan w long t c s is = records_added ds r w (subst (λ k. IsRecord k r) long (subst (IsRecord n) (sym is) (new_is_record n clock object plan t c s)))
