-- How a change of one fate changes the depths.
use Rattle.std.proofs.Common.{◌≡◌, ℕ, ◌+◌, ◌<◌, ◌≤◌, Bool, true, false, eqb, ltb, cond, ◌&&◌, List, [], ◌∷◌, length, get_or, set, Some, refl, ap, sym, ◌∙◌, arith, eq-eqb}
use Rattle.std.proofs.lemmas.Bool.{eqb-true}
use Rattle.std.proofs.lemmas.Bool.Decides.{nat_tests}
use Rattle.std.proofs.lemmas.List.{length-map, length-set, get_or-set_same, get_or-set_other}
use Rattle.std.proofs.lemmas.List.Elements.{All-weaker}
use Rattle.std.proofs.lemmas.List.Sums.{sum_by-cons, count_by-le-length}
use Rattle.mon_downtime.specs.declared.downtime.Downtime.{Downtime}
use Rattle.mon_downtime.specs.declared.downtime.Fate.{Fate}
use Rattle.mon_downtime.specs.Records.{record_of, with_fate, changed, depth_of, is_active, AreNumbered}
use Rattle.mon_downtime.specs.declared.depths.Depths.{Depths}
use Rattle.cmd_types.specs.Counts.{one}
use Rattle.mon_downtime.specs.Depths.{every_object, AreDepths}
use Rattle.mon_downtime.proofs.BusyLemmas.{busy_changed}
use Rattle.mon_downtime.proofs.RecordLemmas.{with_fate_earlier, objects_stay}

count_cons : (o : ℕ) (x : Downtime) (xs : List Downtime) → depth_of (x ∷ xs) o ≡ one (eqb x.object o && is_active x.fate) + depth_of xs o
count_cons o x xs = sum_by-cons (λ (d : Downtime). one (eqb d.object o && is_active d.fate)) x xs

-- a depth falls by what the record was, and grows by what it is
pub depth_change : (n : ℕ) (ds : List Downtime) (id o : ℕ) (fate : Fate) (d : Downtime) → AreNumbered n ds → record_of ds id ≡ Some d → depth_of (with_fate ds id (λ _. fate)) o + one (eqb d.object o && is_active d.fate) ≡ depth_of ds o + one (eqb d.object o && is_active fate)
depth_change n [] id o fate d w h = absurd (cc)
depth_change n (x ∷ ds) id o fate d w h = by_test (eqb x.id id) refl (λ k. depth_change (n + 1) ds id o fate d w.1 k) h
  where
    by_test : (b : Bool) → eqb x.id id ≡ b → (record_of ds id ≡ Some d → depth_of (with_fate ds id (λ _. fate)) o + one (eqb d.object o && is_active d.fate) ≡ depth_of ds o + one (eqb d.object o && is_active fate)) → cond b (Some x) (record_of ds id) ≡ Some d → depth_of (cond b (record x { fate = fate }) x ∷ with_fate ds id (λ _. fate)) o + one (eqb d.object o && is_active d.fate) ≡ depth_of (x ∷ ds) o + one (eqb d.object o && is_active fate)
    by_test true k again e =
        let same : x ≡ d = cc in
        let next = w.0.id_next in
        let is = eqb-true x.id id k in
        let others = ap (λ (xs : List Downtime). depth_of xs o) (with_fate_earlier (n + 1) ds id (λ _. fate) w.1 (omega arith)) in
        let now = count_cons o (record x { fate = fate }) (with_fate ds id (λ _. fate)) in
        let old = count_cons o x ds in
        let a = ap (λ (v : Downtime). one (eqb v.object o && is_active v.fate)) same in
        let b = ap (λ (v : Downtime). one (eqb v.object o && is_active fate)) same in
        omega (arith, others, now, old, a, b)
    by_test false k again e =
        let now = count_cons o x (with_fate ds id (λ _. fate)) in
        let old = count_cons o x ds in
        let rest = again e in
        omega (arith, now, old, rest)

-- an active record counts
pub counted_one : (ds : List Downtime) (id : ℕ) (d : Downtime) → record_of ds id ≡ Some d → one (is_active d.fate) ≤ depth_of ds d.object
counted_one [] id d h = absurd (cc)
counted_one (x ∷ ds) id d h = by_test (eqb x.id id) (λ k. counted_one ds id d k) h
  where
    itself : (o : ℕ) (b : Bool) → one (eqb o o && b) ≡ one b
    itself o b = let e : eqb o o ≡ true = grind (arith, nat_tests) in rw e refl

    by_test : (b : Bool) → (record_of ds id ≡ Some d → one (is_active d.fate) ≤ depth_of ds d.object) → cond b (Some x) (record_of ds id) ≡ Some d → one (is_active d.fate) ≤ depth_of (x ∷ ds) d.object
    by_test true again e =
        let same : x ≡ d = cc in
        let all = count_cons d.object x ds in
        let a = ap (λ (v : Downtime). one (eqb v.object d.object && is_active v.fate)) same in
        let b = itself d.object (is_active d.fate) in
        omega (arith, all, a, b)
    by_test false again e = let rest = again e in let all = count_cons d.object x ds in omega (arith, rest, all)

-- the depth of the record's object is another, and each other stays
pub depths_changed : (ds : List Downtime) (old new : Depths) (id : ℕ) (fate : Fate) (d : Downtime) (v : ℕ) → AreNumbered 0 ds → AreDepths ds old → record_of ds id ≡ Some d → d.object < length old.each.items → d.object < every_object
    → new.each.items ≡ set old.each.items d.object v → v + one (is_active d.fate) ≡ get_or old.each.items d.object 0 + one (is_active fate)
    → new.in_downtime + one (ltb 0 (get_or old.each.items d.object 0)) ≡ old.in_downtime + one (ltb 0 v) → AreDepths (with_fate ds id (λ _. fate)) new
depths_changed ds old new id fate d v w c h within small items e step = record {
  all = rw (items, length-set old.each.items d.object v) (objects_stay ds id (length old.each.items) (λ _. fate) c.all);
  exact = λ o. rw items (by_object o (eqb d.object o) refl);
  busy = busy_changed ds (with_fate ds id (λ _. fate)) d.object every_object old.in_downtime new.in_downtime
      (λ k other. elsewhere k (unlike k other)) small c.busy
      (let was = ap (λ n. one (ltb 0 n)) (c.exact d.object) in
      let is = ap (λ n. one (ltb 0 n)) (sym (get_or-set_same old.each.items d.object v 0 within) ∙ by_object d.object true (eq-eqb d.object d.object refl)) in
      omega (arith, was, is, step));
}
  where
    unlike : (k : ℕ) → (k ≡ d.object → ⊥) → eqb d.object k ≡ false
    unlike k other = by_test (eqb d.object k) refl
      where
        by_test : (b : Bool) → eqb d.object k ≡ b → eqb d.object k ≡ false
        by_test true same = absurd (other (sym (eqb-true d.object k same)))
        by_test false same = same

    by_object : (o : ℕ) (b : Bool) → eqb d.object o ≡ b → get_or (set old.each.items d.object v) o 0 ≡ depth_of (with_fate ds id (λ _. fate)) o
    by_object o true k =
        let same = eqb-true d.object o k in
        let read = get_or-set_same old.each.items d.object v 0 within in
        let moved = ap (λ n. get_or (set old.each.items d.object v) n 0) (sym same) in
        let change = depth_change 0 ds id o fate d w h in
        let was = ap (λ b. one (b && is_active d.fate)) k in
        let is = ap (λ b. one (b && is_active fate)) k in
        let before = c.exact o in
        let at = ap (λ n. get_or old.each.items n 0) same in
        omega (arith, read, moved, change, was, is, before, at, e)
    by_object o false k =
        let other = get_or-set_other old.each.items d.object o v 0 (λ same. let k2 : eqb d.object o ≡ true = grind (arith, nat_tests) in absurd (cc)) in
        let change = depth_change 0 ds id o fate d w h in
        let was = ap (λ b. one (b && is_active d.fate)) k in
        let is = ap (λ b. one (b && is_active fate)) k in
        let before = c.exact o in
        omega (arith, other, change, was, is, before)

    elsewhere : (k : ℕ) → eqb d.object k ≡ false → depth_of (with_fate ds id (λ _. fate)) k ≡ depth_of ds k
    elsewhere k other =
        let change = depth_change 0 ds id k fate d w h in
        let was = ap (λ b. one (b && is_active d.fate)) other in
        let is = ap (λ b. one (b && is_active fate)) other in
        omega (arith, change, was, is)

-- no more are active than there are
pub depth_within : (ds : List Downtime) (o : ℕ) → depth_of ds o ≤ length ds
depth_within ds o = count_by-le-length (λ (d : Downtime). eqb d.object o && is_active d.fate) ds

-- tables that only grew
pub depths_grown : (ds : List Downtime) (a b : Depths) → ((o : ℕ) → get_or b.each.items o 0 ≡ get_or a.each.items o 0) → length a.each.items ≤ length b.each.items → b.in_downtime ≡ a.in_downtime → AreDepths ds a → AreDepths ds b
depths_grown ds a b same more busy w = record {
  all = All-weaker (λ (d : Downtime). d.object < length a.each.items) (λ (d : Downtime). d.object < length b.each.items) (λ d h. omega arith) ds w.all;
  exact = λ o. same o ∙ w.exact o;
  busy = busy ∙ w.busy;
}

-- and so none is above their number after a change
pub depth_room : (ds : List Downtime) (id : ℕ) (fate : Fate) (d : Downtime) → AreNumbered 0 ds → record_of ds id ≡ Some d → depth_of ds d.object + one (is_active fate) ≤ length ds + one (is_active d.fate)
depth_room ds id fate d w h =
    let change = depth_change 0 ds id d.object fate d w h in
    let few = depth_within (with_fate ds id (λ _. fate)) d.object in
    let long = length-map ds (changed id (λ _. fate)) in
    let itself : eqb d.object d.object ≡ true = eq-eqb d.object d.object refl in
    let was = ap (λ b. one (b && is_active d.fate)) itself in
    let is = ap (λ b. one (b && is_active fate)) itself in
    omega (arith, change, few, long, was, is)
