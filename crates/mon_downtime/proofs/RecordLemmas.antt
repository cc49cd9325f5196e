-- The record of an id stands at the place below it.
use Rattle.std.proofs.Common.{◌≡◌, ℕ, ◌+◌, ◌-◌, ◌<◌, ◌≤◌, Bool, true, false, eqb, cond, List, [], ◌∷◌, ◌++◌, length, take, drop, get_or, set, Some, None, refl, ap, sym, ◌∙◌, subst, arith, zero, suc}
use Rattle.std.proofs.Common.{◌⊎◌, inl, inr}
use Rattle.std.proofs.lemmas.Option.{slice_get_read, slice_get-get_or, same_Some}
use Rattle.std.proofs.lemmas.Bool.{eqb-true, cases_lt}
use Rattle.std.proofs.Common.{eq-eqb}
use Rattle.std.specs.Prelude.{find}
use Rattle.std.specs.List.{slice_get}
use Rattle.std.proofs.lemmas.Bool.Decides.{nat_tests}
use Rattle.std.proofs.lemmas.List.{set-get_or}
use Rattle.std.proofs.lemmas.List.Elements.{All-map}
use Rattle.std.specs.Prelude.{All}
use Rattle.mon_downtime.specs.declared.downtime.Downtime.{Downtime}
use Rattle.mon_downtime.specs.declared.downtime.Fate.{Fate}
use Rattle.mon_downtime.specs.Records.{record_of, changed, with_fate, IsNumbered, AreNumbered, IsRecord, AreRecords, IsSmallFate}

-- a list that was lent as a slice is the slice again, which has kept its length
pub written_back : {X : Type 0} (n : ℕ) (xs ys : List X) → length xs ≡ n → take n (xs ++ drop (length xs) ys) ≡ xs
written_back n xs ys e = rw (← e) (front xs _)
  where
    front : {X : Type 0} (xs ys : List X) → take (length xs) (xs ++ ys) ≡ xs
    front [] ys = refl
    front (x ∷ xs) ys = ap (λ zs. x ∷ zs) (front xs ys)

-- ids up to n are those of earlier records
pub record_of_earlier : (n : ℕ) (ds : List Downtime) (id : ℕ) → AreNumbered n ds → id ≤ n → record_of ds id ≡ None
record_of_earlier n [] id w h = refl
record_of_earlier n (d ∷ ds) id w h =
    let next = w.0.id_next in
    let rest = record_of_earlier (n + 1) ds id w.1 (omega arith) in
    grind (arith, nat_tests)

-- and those past the end of none
pub record_of_past : (n : ℕ) (ds : List Downtime) (id : ℕ) → AreNumbered n ds → n + length ds < id → record_of ds id ≡ None
record_of_past n [] id w h = refl
record_of_past n (d ∷ ds) id w h =
    let next = w.0.id_next in
    let rest = record_of_past (n + 1) ds id w.1 (omega arith) in
    grind (arith, nat_tests)

pub record_at : (n : ℕ) (ds : List Downtime) (id i : ℕ) → AreNumbered n ds → id ≡ (n + i) + 1 → record_of ds id ≡ slice_get ds i
record_at n [] id i w e = refl
record_at n (d ∷ ds) id zero w e =
    let next = w.0.id_next in
    grind (arith, nat_tests)
record_at n (d ∷ ds) id (suc i) w e =
    let next = w.0.id_next in
    let rest = record_at (n + 1) ds id i w.1 (omega arith) in
    grind (arith, nat_tests)

pub with_fate_earlier : (n : ℕ) (ds : List Downtime) (id : ℕ) (f : Downtime → Fate) → AreNumbered n ds → id ≤ n → with_fate ds id f ≡ ds
with_fate_earlier n [] id f w h = refl
with_fate_earlier n (d ∷ ds) id f w h =
    let next = w.0.id_next in
    let rest = with_fate_earlier (n + 1) ds id f w.1 (omega arith) in
    grind (arith, nat_tests)

-- a write at the place is the change of the record with the id
pub with_fate_at : (n : ℕ) (ds : List Downtime) (id i : ℕ) (f : Downtime → Fate) (d : Downtime) → AreNumbered n ds → id ≡ (n + i) + 1 → i < length ds → with_fate ds id f ≡ set ds i (record (get_or ds i d) { fate = f (get_or ds i d) })
with_fate_at n [] id i f d w e h = absurd (omega arith)
with_fate_at n (x ∷ ds) id zero f d w e h =
    let next = w.0.id_next in
    let rest = with_fate_earlier (n + 1) ds id f w.1 (omega arith) in
    grind (arith, nat_tests)
with_fate_at n (x ∷ ds) id (suc i) f d w e h =
    let next = w.0.id_next in
    let rest = with_fate_at (n + 1) ds id i f d w.1 (omega arith) (omega arith) in
    grind (arith, nat_tests)

-- a record that gets the fate that it has
pub with_fate_same : (ds : List Downtime) (id : ℕ) (fate : Fate) (d : Downtime) → AreNumbered 0 ds → 1 ≤ id → id ≤ length ds → (get_or ds (id - 1) d).fate ≡ fate → with_fate ds id (λ _. fate) ≡ ds
with_fate_same ds id fate d w first last same =
    with_fate_at 0 ds id (id - 1) (λ _. fate) d w (omega arith) (omega arith)
    ∙ ap (λ f. set ds (id - 1) (record (get_or ds (id - 1) d) { fate = f })) (sym same)
    ∙ set-get_or ds (id - 1) d

pub no_record : (ds : List Downtime) (id : ℕ) → AreNumbered 0 ds → (id ≡ 0) ⊎ ((id ≡ 0 → ⊥) × (length ds < id)) → None ≡ record_of ds id
no_record ds id w (inl e) = sym (record_of_earlier 0 ds id w (omega arith))
no_record ds id w (inr h) = sym (record_of_past 0 ds id w (omega (arith, h.1)))

pub record_read : (ds : List Downtime) (id : ℕ) (x : Downtime) → AreNumbered 0 ds → (id ≡ 0 → ⊥) → id ≤ length ds → x ≡ get_or ds (id - 1) x → Some x ≡ record_of ds id
record_read ds id x w n l e = sym (record_at 0 ds id (id - 1) w (omega arith) ∙ slice_get_read ds (length ds) (id - 1) x refl (omega arith) e)

pub record_is : (n : ℕ) (ds : List Downtime) (i : ℕ) (d : Downtime) → AreNumbered n ds → i < length ds → (m : ℕ) × (m ≡ n + i) × IsNumbered m (get_or ds i d)
record_is n [] i d w h = absurd (omega arith)
record_is n (x ∷ ds) zero d w h = (n, omega arith, w.0)
record_is n (x ∷ ds) (suc i) d w h =
    let r = record_is (n + 1) ds i d w.1 (omega arith) in
    (r.0, omega (arith, r.1), r.2)

pub AreNumbered-with_fate : (n : ℕ) (ds : List Downtime) (id : ℕ) (f : Downtime → Fate) → AreNumbered n ds → AreNumbered n (with_fate ds id f)
AreNumbered-with_fate n [] id f w = tt
AreNumbered-with_fate n (d ∷ ds) id f w = (changed_is (eqb d.id id), AreNumbered-with_fate (n + 1) ds id f w.1)
  where
    changed_is : (b : Bool) → IsNumbered n (cond b (record d { fate = f d }) d)
    changed_is true = record { id_next = w.0.id_next; trigger_earlier = w.0.trigger_earlier }
    changed_is false = w.0

pub id_found : (ds : List Downtime) (id : ℕ) (t : Downtime) → record_of ds id ≡ Some t → t.id ≡ id
id_found [] id t h = absurd (cc)
id_found (x ∷ ds) id t h = by_test (λ k. id_found ds id t k) (eqb x.id id) refl h
  where
    by_test : (record_of ds id ≡ Some t → t.id ≡ id) → (b : Bool) → eqb x.id id ≡ b → cond b (Some x) (record_of ds id) ≡ Some t → t.id ≡ id
    by_test again true e k = let same : x ≡ t = cc in subst (λ (v : Downtime). v.id ≡ id) same (eqb-true x.id id e)
    by_test again false e k = again k

-- where a record is found
pub record HasPlace (ds : List Downtime) (id : ℕ) (t : Downtime) : Type 0 where
  pub first : 1 ≤ id
  pub last : id ≤ length ds
  pub at : (d : Downtime) → get_or ds (id - 1) d ≡ t

pub place_found : (ds : List Downtime) (id : ℕ) (t : Downtime) → AreNumbered 0 ds → record_of ds id ≡ Some t → HasPlace ds id t
place_found ds zero t w h = absurd (let e = record_of_earlier 0 ds 0 w (omega arith) in cc)
place_found ds (suc i) t w h =
    let last = within (cases_lt (length ds) (suc i)) in
    record {
      first = omega arith;
      last = last;
      at = λ d. let at = record_at 0 ds (suc i) i w (omega arith) in let x = slice_get-get_or ds i d (omega arith) in let y : Some (get_or ds i d) ≡ Some t = cc in let e : suc i - 1 ≡ i = omega arith in rw e (same_Some _ _ y);
    }
  where
    within : (length ds < suc i) ⊎ (suc i ≤ length ds) → suc i ≤ length ds
    within (inl l) = absurd (let e = record_of_past 0 ds (suc i) w (omega arith) in cc)
    within (inr l) = l

-- a record that is found by a test is found by its id
pub record_by_test : (n : ℕ) (p : Downtime → Bool) (ds : List Downtime) (d : Downtime) → AreNumbered n ds → find p ds ≡ Some d → (record_of ds d.id ≡ Some d) × (p d ≡ true)
record_by_test n p [] d w h = absurd (cc)
record_by_test n p (x ∷ ds) d w h = by_test (λ k. record_by_test (n + 1) p ds d w.1 k) (p x) refl h
  where
    same_id : (r : record_of ds d.id ≡ Some d) (b : Bool) → eqb x.id d.id ≡ b → cond b (Some x) (record_of ds d.id) ≡ Some d
    same_id r true e = absurd (let next = w.0.id_next in let is = eqb-true x.id d.id e in let none = record_of_earlier (n + 1) ds d.id w.1 (omega arith) in cc)
    same_id r false e = r

    by_test : (find p ds ≡ Some d → (record_of ds d.id ≡ Some d) × (p d ≡ true)) → (b : Bool) → p x ≡ b → cond b (Some x) (find p ds) ≡ Some d → (record_of (x ∷ ds) d.id ≡ Some d) × (p d ≡ true)
    by_test again true e k =
        let same : x ≡ d = cc in
        let itself : eqb d.id d.id ≡ true = eq-eqb d.id d.id refl in
        (rw (same, itself) refl, subst (λ (v : Downtime). p v ≡ true) same e)
    by_test again false e k = let r = again k in (same_id r.0 (eqb x.id d.id) refl, r.1)

-- ---- records whose numbers are in range

pub numbered : (n : ℕ) (ds : List Downtime) → AreRecords n ds → AreNumbered n ds
numbered n [] w = tt
numbered n (d ∷ ds) w = (w.0.numbered, numbered (n + 1) ds w.1)

-- a record that is found is one of the records
pub record_found : (n : ℕ) (ds : List Downtime) (id : ℕ) (t : Downtime) → AreRecords n ds → record_of ds id ≡ Some t → (m : ℕ) × IsRecord m t
record_found n [] id t w h = absurd (cc)
record_found n (x ∷ ds) id t w h = by_test (λ k. record_found (n + 1) ds id t w.1 k) (eqb x.id id) h
  where
    by_test : (record_of ds id ≡ Some t → (m : ℕ) × IsRecord m t) → (b : Bool) → cond b (Some x) (record_of ds id) ≡ Some t → (m : ℕ) × IsRecord m t
    by_test rest true k = (n, subst (λ d. IsRecord n d) (let same : x ≡ t = cc in same) w.0)
    by_test rest false k = rest k

pub AreRecords-with_fate : (n : ℕ) (ds : List Downtime) (id : ℕ) (fate : Fate) → AreRecords n ds → IsSmallFate fate → AreRecords n (with_fate ds id (λ _. fate))
AreRecords-with_fate n [] id fate w s = tt
AreRecords-with_fate n (d ∷ ds) id fate w s = (changed_is (eqb d.id id), AreRecords-with_fate (n + 1) ds id fate w.1 s)
  where
    numbers : IsNumbered n (record d { fate = fate })
    numbers = record { id_next = w.0.numbered.id_next; trigger_earlier = w.0.numbered.trigger_earlier }

    changed_is : (b : Bool) → IsRecord n (cond b (record d { fate = fate }) d)
    changed_is true = let r = w.0 in record { numbered = numbers; start_small = r.start_small; end_small = r.end_small; duration_small = r.duration_small; entered_small = r.entered_small; fate_small = s }
    changed_is false = w.0

-- the record that is read
pub record_there : (ds : List Downtime) (id : ℕ) (d : Downtime) → AreRecords 0 ds → (1 ≤ id) × (id ≤ length ds) → d ≡ get_or ds (id - 1) d → record_of ds id ≡ Some d
record_there ds id d w there is = sym (record_read ds id d (numbered 0 ds w) (λ e. omega (arith, there.0)) there.1 is)

-- with another fate the records are of the same objects
pub objects_stay : (ds : List Downtime) (id n : ℕ) (g : Downtime → Fate) → All (λ (d : Downtime). d.object < n) ds → All (λ (d : Downtime). d.object < n) (with_fate ds id g)
objects_stay ds id n g w = All-map (λ (d : Downtime). d.object < n) (changed id g) ds (λ k d h. by_test (get_or ds k d) (eqb (get_or ds k d).id id) (w k d h))
  where
    by_test : (d : Downtime) (b : Bool) → d.object < n → (cond b (record d { fate = g d }) d).object < n
    by_test d true h = h
    by_test d false h = h
