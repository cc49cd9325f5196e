-- Counts over lists, and those that are kept of the objects.
use Rattle.std.proofs.Common.{◌≡◌, ℕ, zero, suc, ◌+◌, ◌*◌, ◌≤◌, ◌<◌, Bool, false, not, eqb, List, set, length, get_or, Some, slice_get, refl, ap, sym, ◌∙◌, subst, arith}
use Rattle.std.specs.Prelude.{count_by, All}
use Rattle.std.specs.List.{range_with_len}
use Rattle.std.proofs.lemmas.List.Sums.{sum_by-cons, sum_by-set, sum_by-le}
use Rattle.std.proofs.lemmas.List.Elements.{All-weaker}
use Rattle.std.proofs.lemmas.List.FromFn.{get_or-range_with_len, length-range_with_len}
use Rattle.std.proofs.lemmas.Option.{same_Some, slice_get_read, slice_get_within, slice_get-get_or}
use Rattle.cmd_types.specs.Counts.{one}
use Rattle.mon_checks.specs.declared.status.Status.{Status}
use Rattle.mon_engine.specs.declared.object.Acknowledgement.{Acknowledgement}
use Rattle.mon_engine.specs.declared.object.Object.{Object}
use Rattle.mon_engine.specs.declared.objects.Setting.{Setting}
use Rattle.mon_engine.specs.declared.objects.Setting.TheVariants as settings
use Rattle.mon_engine.specs.Objects.{is_acknowledged, with_setting}
use Rattle.mon_engine.specs.Figures.{is_problem, has_acknowledgement, AreCounted}

-- none is counted where none passes
pub count_none : {X : Type 0} (p : X → Bool) (xs : List X) → All (λ x. p x ≡ false) xs → count_by p xs ≡ 0
count_none {X = X} p xs h =
    let least : count_by p xs ≤ length xs * 0 = sum_by-le (λ (x : X). one (p x)) 0 xs (All-weaker (λ (x : X). p x ≡ false) (λ (x : X). one (p x) ≤ 0) (λ x e. subst (λ (b : Bool). one b ≤ 0) (sym e) (omega arith)) xs h) in
    omega arith

-- the count falls by the old item's and grows by the new item's
count_set : {X : Type 0} (p : X → Bool) (xs : List X) (k : ℕ) (x y : X) → slice_get xs k ≡ Some x → count_by p (set xs k y) + one (p x) ≡ count_by p xs + one (p y)
count_set {X = X} p xs k x y e =
    let within = slice_get_within xs k x e in
    let here : get_or xs k x ≡ x = same_Some _ _ (sym (slice_get-get_or xs k x within) ∙ e) in
    subst (λ (v : X). count_by p (set xs k y) + one (p v) ≡ count_by p xs + one (p y)) here (sum_by-set (λ (v : X). one (p v)) xs k y x within)

-- of numbers of which none passes from a + n on, those below are counted
pub range_beyond : (p : ℕ → Bool) (a n t : ℕ) → ((k : ℕ) → a + n ≤ k → p k ≡ false) → n ≤ t → count_by p (range_with_len a t) ≡ count_by p (range_with_len a n)
range_beyond p a zero t h l = count_none p (range_with_len a t) none
  where
    none : All (λ k. p k ≡ false) (range_with_len a t)
    none k d lt =
        let here : k < t = omega (arith, length-range_with_len a t) in
        rw (get_or-range_with_len a t k d here) (h (a + k) (omega arith))
range_beyond p a (suc n) zero h l = absurd (omega arith)
range_beyond p a (suc n) (suc t) h l =
    let rest = range_beyond p (a + 1) n t (λ k m. h k (omega (arith, m))) (omega (arith, l)) in
    let few = sum_by-cons (λ (k : ℕ). one (p k)) a (range_with_len (a + 1) n) in
    let many = sum_by-cons (λ (k : ℕ). one (p k)) a (range_with_len (a + 1) t) in
    omega (arith, rest, few, many)

-- ---- objects

-- what is read at a place stands there
pub read_at : (os v : List Object) (k : ℕ) (o : Object) → os ≡ v → k < length v → o ≡ get_or os k o → slice_get os k ≡ Some o
read_at os v k o same h e = slice_get_read os (length v) k o (ap length (sym same)) h e

pub stands_at : (os v : List Object) (k : ℕ) (o : Object) → os ≡ v → k < length v → o ≡ get_or os k o → slice_get v k ≡ Some o
stands_at os v k o same h e = ap (λ (xs : List Object). slice_get xs k) (sym same) ∙ read_at os v k o same h e

-- one object in the place of another, and each count by what it was and is
pub place_counted : (os : List Object) (n n' m m' k : ℕ) (o o' : Object) → AreCounted os n m → slice_get os k ≡ Some o → n' + one (is_problem o) ≡ n + one (is_problem o')
    → m' + one (has_acknowledgement o) ≡ m + one (has_acknowledgement o') → AreCounted (set os k o') n' m'
place_counted os n n' m m' k o o' c at problem acked = record {
  in_problem = (let all = count_set is_problem os k o o' at in let old = c.in_problem in omega (arith, all, old, problem));
  acked = (let all = count_set has_acknowledgement os k o o' at in let old = c.acked in omega (arith, all, old, acked));
}

-- what commands set of an object leaves its status and its acknowledgement
pub setting_leaves : (s : Setting) (o : Object) → ((with_setting s o).status ≡ o.status) × ((with_setting s o).acknowledgement ≡ o.acknowledgement)
setting_leaves (settings.Passive on) o = (refl, refl)
setting_leaves (settings.Notify on) o = (refl, refl)
setting_leaves (settings.Delay moment) o = (refl, refl)
setting_leaves (settings.Number n) o = (refl, refl)

-- an object in the place of one with the same status and the same acknowledgement
pub kept_counted : (os : List Object) (n m k : ℕ) (o o' : Object) → AreCounted os n m → slice_get os k ≡ Some o → o'.status ≡ o.status → o'.acknowledgement ≡ o.acknowledgement → AreCounted (set os k o') n m
kept_counted os n m k o o' c at status acked = place_counted os n n m m k o o' c at
    (ap (λ (x : Status). n + one (not (eqb x.code 0))) (sym status)) (ap (λ (x : Acknowledgement). m + one (is_acknowledged x)) (sym acked))
