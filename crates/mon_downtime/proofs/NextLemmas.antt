-- The walk over all that depends on a downtime goes on to the next.
use Rattle.std.proofs.Common.{◌≡◌, ℕ, ◌-◌, ◌<◌, ◌≤◌, Bool, true, false, eqb, cond, ◌||◌, List, length, get_or, refl, ap, sym, ◌∙◌, subst, arith, zero, suc}
use Rattle.std.proofs.Common.{inl, inr}
use Rattle.std.proofs.lemmas.Bool.{or_cases}
use Rattle.std.proofs.lemmas.Bool.Decides.{nat_tests}
use Rattle.mon_downtime.specs.declared.downtime.Downtime.{Downtime}
use Rattle.mon_downtime.specs.Records.{AreNumbered}
use Rattle.mon_downtime.specs.Cancel.{trigger_of, trigger_in, depends}
use Rattle.mon_downtime.specs.Links.{IsLatest}
use Rattle.mon_downtime.specs.Walk.{is_under, is_behind, is_left, GoesOn}
use Rattle.mon_downtime.proofs.RecordLemmas.{record_read}
use Rattle.mon_downtime.proofs.CancelLemmas.{trigger_falls}
use Rattle.mon_downtime.proofs.DependLemmas.{steps, itself, child, above, through, apart, under_has, under_latest, under_none, depends_under}

-- ---- what is behind

behind_enough : (n : ℕ) (ds : List Downtime) (id x y : ℕ) → AreNumbered 0 ds → 0 < id → x ≤ n → is_behind (suc n) ds id x y ≡ is_behind n ds id x y
unfolding is_behind is_under
behind_enough zero ds id x y w l h =
    let zero_is : x ≡ 0 = omega arith in
    let not_id : eqb 0 id ≡ false = grind (arith, nat_tests) in
    rw (zero_is, not_id) refl
behind_enough (suc n) ds id x y w l h =
    let falls = trigger_falls ds x w in
    ap (λ b. cond (eqb x id) false (is_under ds (trigger_of ds x) (x - 1) y || b)) (behind_enough n ds id (trigger_of ds x) y w l (omega arith))

behind_step : (ds : List Downtime) (id x y : ℕ) → AreNumbered 0 ds → 0 < id → x ≤ length ds → is_behind (length ds) ds id x y ≡ cond (eqb x id) false (is_under ds (trigger_of ds x) (x - 1) y || is_behind (length ds) ds id (trigger_of ds x) y)
unfolding is_behind
behind_step ds id x y w l h = sym (behind_enough (length ds) ds id x y w l h)

-- nothing is behind id
behind_none : (ds : List Downtime) (id y : ℕ) → AreNumbered 0 ds → 0 < id → id ≤ length ds → is_behind (length ds) ds id id y ≡ false
behind_none ds id y w l h = let same : eqb id id ≡ true = grind (arith, nat_tests) in behind_step ds id id y w l h ∙ ap (λ b. cond b false (is_under ds (trigger_of ds id) (id - 1) y || is_behind (length ds) ds id (trigger_of ds id) y)) same

behind_other : (ds : List Downtime) (id x y : ℕ) → AreNumbered 0 ds → 0 < id → x ≤ length ds → eqb x id ≡ false → is_behind (length ds) ds id x y ≡ (is_under ds (trigger_of ds x) (x - 1) y || is_behind (length ds) ds id (trigger_of ds x) y)
behind_other ds id x y w l h other = behind_step ds id x y w l h ∙ ap (λ b. cond b false (is_under ds (trigger_of ds x) (x - 1) y || is_behind (length ds) ds id (trigger_of ds x) y)) other

-- a dependant other than id has a trigger that depends on id
pub up : (ds : List Downtime) (id x : ℕ) → AreNumbered 0 ds → 0 < id → depends ds id x ≡ true → eqb x id ≡ false → depends ds id (trigger_of ds x) ≡ true
up ds id x w l d other = elim (or_cases (eqb x id) (depends ds id (trigger_of ds x)) (sym (steps ds id x w l) ∙ d)) [
  | inl same ↦ absurd (cc)
  | inr on ↦ on
]

-- nothing that depends on x is behind it
behind_apart : (n : ℕ) (ds : List Downtime) (id x y : ℕ) → AreNumbered 0 ds → 0 < id → depends ds id x ≡ true → is_behind n ds id x y ≡ true → depends ds x y ≡ true → ⊥
unfolding is_behind
behind_apart zero ds id x y w l on h d = absurd (cc)
behind_apart (suc n) ds id x y w l on h d = by_test (λ k r e. behind_apart n ds id (trigger_of ds x) y w l k r e) (eqb x id) refl h
  where
    by_test : (depends ds id (trigger_of ds x) ≡ true → is_behind n ds id (trigger_of ds x) y ≡ true → depends ds (trigger_of ds x) y ≡ true → ⊥) → (b : Bool) → eqb x id ≡ b → cond b false (is_under ds (trigger_of ds x) (x - 1) y || is_behind n ds id (trigger_of ds x) y) ≡ true → ⊥
    by_test again true e k = absurd (cc)
    by_test again false e k =
        let first = above ds id x w l on in
        let upper = up ds id x w l on e in
        let least = above ds id (trigger_of ds x) w l upper in
        elim (or_cases (is_under ds (trigger_of ds x) (x - 1) y) (is_behind n ds id (trigger_of ds x) y) k) [
          | inl under ↦ (let u = under_has ds (trigger_of ds x) (x - 1) y under in let some = u.some in let last = u.within in apart ds u.one x y w u.some (omega arith) u.trigger u.on d)
          | inr rest ↦ again upper rest (through ds (trigger_of ds x) x y w (omega arith) (omega arith) (child ds (trigger_of ds x) x w (omega arith) refl) d)
        ]

-- ---- what is left

left_is : (ds : List Downtime) (id x y : ℕ) → 0 < x → is_left ds id x y ≡ (depends ds x y || is_behind (length ds) ds id x y)
unfolding is_left
left_is ds id x y h = let some : eqb x 0 ≡ false = grind (arith, nat_tests) in rw some refl

pub none_left : (ds : List Downtime) (id y : ℕ) → is_left ds id 0 y ≡ false
unfolding is_left
none_left ds id y = refl

-- at first all that depend on id
pub all_left : (ds : List Downtime) (id y : ℕ) → AreNumbered 0 ds → 0 < id → id ≤ length ds → is_left ds id id y ≡ depends ds id y
all_left ds id y w l h = left_is ds id id y l ∙ ap (λ b. depends ds id y || b) (behind_none ds id y w l h) ∙ or_none (depends ds id y)
  where
    or_none : (b : Bool) → (b || false) ≡ b
    or_none true = refl
    or_none false = refl

-- what is left at the last of the records up to k with a trigger that depends on id
pub entered : (ds : List Downtime) (id p k e y : ℕ) → AreNumbered 0 ds → 0 < id → depends ds id p ≡ true → IsLatest ds p k e → 0 < e → e ≤ length ds
    → is_left ds id e y ≡ (is_under ds p k y || is_behind (length ds) ds id p y)
entered ds id p k e y w l on latest some last =
    let t : trigger_of ds e ≡ p = latest.one some in
    let falls = trigger_falls ds e w in
    let least = above ds id p w l on in
    let other : eqb e id ≡ false = grind (arith, nat_tests) in
    left_is ds id e y some
    ∙ ap (λ b. depends ds e y || b) (behind_other ds id e y w l last other ∙ ap (λ q. is_under ds q (e - 1) y || is_behind (length ds) ds id q y) t)
    ∙ shape (depends ds e y) (is_under ds p (e - 1) y) (is_behind (length ds) ds id p y)
    ∙ ap (λ b. b || is_behind (length ds) ds id p y) (sym (under_latest ds p k e y latest some))
  where
    shape : (a b c : Bool) → (a || (b || c)) ≡ ((a || b) || c)
    shape true b c = refl
    shape false b c = refl

-- ---- on to the next

-- at next is left what is under x and what is behind it
on_to : (ds : List Downtime) (id x next : ℕ) → AreNumbered 0 ds → 0 < id → depends ds id x ≡ true → next ≤ length ds → (0 < next → depends ds id next ≡ true)
    → ((y : ℕ) → is_left ds id next y ≡ (is_under ds x (length ds) y || is_behind (length ds) ds id x y)) → GoesOn ds id x next
on_to ds id x next w l on last one is = record {
  within = last;
  one = one;
  left = λ y. left_is ds id x y some ∙ ap (λ b. b || is_behind (length ds) ds id x y) (depends_under ds x y w some) ∙ shape (eqb y x) (is_under ds x (length ds) y) (is_behind (length ds) ds id x y) ∙ ap (λ b. eqb y x || b) (sym (is y));
  once = by_test (is_left ds id next x) refl;
}
  where
    some : 0 < x
    some = let least = above ds id x w l on in omega arith

    shape : (a b c : Bool) → ((a || b) || c) ≡ (a || (b || c))
    shape true b c = refl
    shape false b c = refl

    not_itself : (is_under ds x (length ds) x || is_behind (length ds) ds id x x) ≡ true → ⊥
    not_itself h = elim (or_cases (is_under ds x (length ds) x) (is_behind (length ds) ds id x x) h) [
      | inl under ↦ (
          let u = under_has ds x (length ds) x under in
          let a = above ds u.one x w u.some u.on in
          let f = trigger_falls ds u.one w in
          let t = u.trigger in
          let s = u.some in
          omega arith)
      | inr behind ↦ behind_apart (length ds) ds id x x w l on behind (itself ds x)
    ]

    by_test : (b : Bool) → is_left ds id next x ≡ b → is_left ds id next x ≡ false
    by_test true e = absurd (not_itself (sym (is x) ∙ e))
    by_test false e = e

-- to the last that it triggers
pub goes_down : (ds : List Downtime) (id x next : ℕ) → AreNumbered 0 ds → 0 < id → depends ds id x ≡ true → IsLatest ds x (length ds) next → 0 < next → GoesOn ds id x next
goes_down ds id x next w l on latest some =
    let least = above ds id x w l on in
    on_to ds id x next w l on latest.within (λ h. through ds id x next w l (omega arith) on (child ds x next w (omega arith) (latest.one some)))
    (λ y. entered ds id x (length ds) next y w l on latest some latest.within)

-- where it triggers none: a dependant of id, behind which is all that is left after x
pub record IsUp (ds : List Downtime) (id x at : ℕ) : Type 0 where
  pub within : at ≤ length ds
  pub on : depends ds id at ≡ true
  pub left : (y : ℕ) → (is_under ds x (length ds) y || is_behind (length ds) ds id x y) ≡ is_behind (length ds) ds id at y

pub starts_up : (ds : List Downtime) (id x latest : ℕ) → x ≤ length ds → depends ds id x ≡ true → IsLatest ds x (length ds) latest → (latest ≡ 0) → IsUp ds id x x
starts_up ds id x latest last on is none = record {
  within = last;
  on = on;
  left = λ y. ap (λ b. b || is_behind (length ds) ds id x y) (under_none ds x (length ds) y (subst (IsLatest ds x (length ds)) none is));
}

-- up to the trigger, where none before it has the same trigger
pub goes_up : (ds : List Downtime) (id x at earlier : ℕ) → AreNumbered 0 ds → 0 < id → (at ≡ id → ⊥) → IsUp ds id x at → IsLatest ds (trigger_of ds at) (at - 1) earlier → earlier ≡ 0 → IsUp ds id x (trigger_of ds at)
goes_up ds id x at earlier w l some u is none =
    let other : eqb at id ≡ false = grind (arith, nat_tests) in
    let falls = trigger_falls ds at w in
    let last = u.within in
    record {
      within = omega arith;
      on = up ds id at w l u.on other;
      left = λ y. u.left y ∙ behind_other ds id at y w l u.within other ∙ ap (λ b. b || is_behind (length ds) ds id (trigger_of ds at) y) (under_none ds (trigger_of ds at) (at - 1) y (subst (IsLatest ds (trigger_of ds at) (at - 1)) none is));
    }

-- to the last before it with the same trigger
pub goes_over : (ds : List Downtime) (id x at earlier : ℕ) → AreNumbered 0 ds → 0 < id → depends ds id x ≡ true → (at ≡ id → ⊥) → IsUp ds id x at → IsLatest ds (trigger_of ds at) (at - 1) earlier → 0 < earlier → GoesOn ds id x earlier
goes_over ds id x at earlier w l on not_id u is some =
    let other : eqb at id ≡ false = grind (arith, nat_tests) in
    let last = u.within in
    let first = is.within in
    let upper = up ds id at w l u.on other in
    let least = above ds id (trigger_of ds at) w l upper in
    on_to ds id x earlier w l on (omega arith) (λ h. through ds id (trigger_of ds at) earlier w l (omega arith) upper (child ds (trigger_of ds at) earlier w (omega arith) (is.one some)))
    (λ y. entered ds id (trigger_of ds at) (at - 1) earlier y w l upper is some (omega arith) ∙ sym (u.left y ∙ behind_other ds id at y w l u.within other))

-- back at id none is left
pub goes_out : (ds : List Downtime) (id x at : ℕ) → AreNumbered 0 ds → 0 < id → depends ds id x ≡ true → at ≡ id → IsUp ds id x at → GoesOn ds id x 0
goes_out ds id x at w l on same u =
    let back : id ≤ length ds = (let last = u.within in omega arith) in
    on_to ds id x 0 w l on (omega arith) (λ h. absurd (omega arith))
    (λ y. none_left ds id y ∙ sym (u.left y ∙ ap (λ z. is_behind (length ds) ds id z y) same ∙ behind_none ds id y w l back))

-- a dependant has a trigger unless it is id
pub has_trigger : (ds : List Downtime) (id x : ℕ) → AreNumbered 0 ds → 0 < id → depends ds id x ≡ true → (x ≡ id → ⊥) → 0 < trigger_of ds x
has_trigger ds id x w l on not_id =
    let other : eqb x id ≡ false = grind (arith, nat_tests) in
    let least = above ds id (trigger_of ds x) w l (up ds id x w l on other) in
    omega arith

-- the trigger as it is read from the record
pub trigger_read : (ds : List Downtime) (x : ℕ) (d : Downtime) → AreNumbered 0 ds → 0 < x → x ≤ length ds → d ≡ get_or ds (x - 1) d → trigger_of ds x ≡ (get_or ds (x - 1) d).plan.times.trigger_id
trigger_read ds x d w some last is = ap trigger_in (sym (record_read ds x d w (λ e. omega arith) last is)) ∙ ap (λ (v : Downtime). v.plan.times.trigger_id) is
