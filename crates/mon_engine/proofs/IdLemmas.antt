-- Downtimes numbered by their ids: each is the one with its id, also with other fates and with more behind them.
use Rattle.std.proofs.Common.{◌≡◌, ℕ, ◌+◌, ◌<◌, Bool, true, false, eqb, cond, List, [], ◌∷◌, ◌++◌, length, map, All, Option, Some, refl, ap, ◌∙◌, subst, arith}
use Rattle.std.specs.Option.{option_or}
use Rattle.std.proofs.lemmas.Bool.{eq-eqb, ne_eqb}
use Rattle.std.proofs.lemmas.List.Folds.{find-append}
use Rattle.std.proofs.lemmas.List.Elements.{All-nil, All-cons, All-weaker}
use Rattle.mon_downtime.specs.declared.downtime.Downtime.{Downtime}
use Rattle.mon_downtime.specs.Records.{record_of}
use Rattle.mon_engine.proofs.DowntimeLemmas.{OnlyFates}

-- the ids are n + 1, n + 2, ..
abbrev pub AreIds : ℕ → List Downtime → Type 0
AreIds n [] = Unit {0}
AreIds n (d ∷ ds) = (d.id ≡ n + 1) × AreIds (n + 1) ds

pub mapped_ids : (f : Downtime → Downtime) → OnlyFates f → (n : ℕ) (ds : List Downtime) → AreIds n ds → AreIds n (map f ds)
mapped_ids f only n [] h = tt
mapped_ids f only n (d ∷ ds) h = (ap (λ (y : Downtime). y.id) (only d) ∙ h.0, mapped_ids f only (n + 1) ds h.1)

pub more_ids : (n : ℕ) (ds new : List Downtime) → AreIds n ds → AreIds (n + length ds) new → AreIds n (ds ++ new)
more_ids n [] new h k = let none : n + length {A = Downtime} [] ≡ n = omega arith in subst (λ (m : ℕ). AreIds m new) none k
more_ids n (d ∷ ds) new h k = (h.0, more_ids (n + 1) ds new h.1 (subst (λ (m : ℕ). AreIds m new) (omega arith) k))

-- each is the one with its id
pub each_found : (n : ℕ) (ds : List Downtime) → AreIds n ds → All (λ r. (n < r.id) × (record_of ds r.id ≡ Some r)) ds
each_found n [] h = All-nil (λ (r : Downtime). (n < r.id) × (record_of [] r.id ≡ Some r))
each_found n (d ∷ ds) h =
    let first = h.0 in
    let here : record_of (d ∷ ds) d.id ≡ Some d = ap (λ (b : Bool). cond b (Some d) (record_of ds d.id)) (eq-eqb d.id d.id refl) in
    All-cons (λ (r : Downtime). (n < r.id) × (record_of (d ∷ ds) r.id ≡ Some r)) d ds (omega arith, here)
    (All-weaker (λ (r : Downtime). (n + 1 < r.id) × (record_of ds r.id ≡ Some r)) (λ (r : Downtime). (n < r.id) × (record_of (d ∷ ds) r.id ≡ Some r))
    (λ r k. (let above = k.0 in
    (omega arith, ap (λ (b : Bool). cond b (Some d) (record_of ds r.id)) (ne_eqb d.id r.id (λ same. omega (arith, same, above, first))) ∙ k.1))) ds (each_found (n + 1) ds h.1))

pub mapped_record : (f : Downtime → Downtime) → OnlyFates f → (ds : List Downtime) (id : ℕ) (x : Downtime) → record_of ds id ≡ Some x → record_of (map f ds) id ≡ Some (f x)
mapped_record f only [] id x h = absurd (cc)
mapped_record f only (d ∷ ds) id x h = by_test (eqb d.id id) (ap (λ (y : Downtime). eqb y.id id) (only d)) (λ k. mapped_record f only ds id x k) h
  where
    by_test : (b : Bool) → eqb (f d).id id ≡ b → (record_of ds id ≡ Some x → record_of (map f ds) id ≡ Some (f x)) → cond b (Some d) (record_of ds id) ≡ Some x → cond (eqb (f d).id id) (Some (f d)) (record_of (map f ds) id) ≡ Some (f x)
    by_test true e rest h = let same : d ≡ x = cc in ap (λ (b : Bool). cond b (Some (f d)) (record_of (map f ds) id)) e ∙ ap (λ (y : Downtime). Some (f y)) same
    by_test false e rest h = ap (λ (b : Bool). cond b (Some (f d)) (record_of (map f ds) id)) e ∙ rest h

pub more_record : (ds new : List Downtime) (id : ℕ) (x : Downtime) → record_of ds id ≡ Some x → record_of (ds ++ new) id ≡ Some x
more_record ds new id x h = find-append (λ (d : Downtime). eqb d.id id) ds new ∙ ap (λ (o : Option Downtime). option_or o (record_of new id)) h
