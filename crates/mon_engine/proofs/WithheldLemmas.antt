-- The first test of a PROBLEM that fails, its contacts being tested last.
use Rattle.std.proofs.Common.{◌≡◌, ◌≢◌, ◌⊎◌, inl, inr, ℕ, zero, suc, ◌+◌, ◌<◌, Bool, true, false, true≢false, not, ◌&&◌, ◌||◌, eqb, arith, List, [], ◌∷◌, ◌++◌, length, Option, Some, None, is_some, slice_get, if◌then◌else◌, refl, ap, sym, ◌∙◌, subst}
use Rattle.std.specs.Prelude.{nat_lt}
use Rattle.std.proofs.lemmas.Bool.{cases_lt, eqb-true, eqb-false, lt-ltb}
use Rattle.std.proofs.lemmas.Option.{same_Some}
use Rattle.mon_downtime.specs.Records.{depth_of}
use Rattle.mon_notify.specs.Interval.{interval_in_force}
use Rattle.mon_notify.specs.Viable.{have_gone_by, is_delayed, is_due, is_of_code, is_old, is_over, is_settled}
use Rattle.mon_engine.specs.Notices.{is_volatile_on}
use Rattle.mon_engine.specs.Objects.{back_since, host_is_up}
use Rattle.mon_inventory.specs.declared.records.ObjectSpec.{ObjectSpec}
use Rattle.mon_inventory.specs.Configuration.{Configuration}
use Rattle.mon_notify.specs.declared.facts.Facts.{Facts}
use Rattle.mon_notify.specs.Letters.{letter_of}
use Rattle.mon_notify.specs.Recipients.{recipients}
use Rattle.mon_engine.specs.declared.notices.Occasion.TheVariants.{Clock}
use Rattle.mon_engine.specs.declared.object.Object.{Object}
use Rattle.mon_engine.specs.declared.withheld.Withheld.{Withheld}
use Rattle.mon_engine.specs.declared.withheld.Withheld.TheVariants.{Program, Switch, Downtime, Host, Letter, Acknowledged, Soft, NotBefore, Interval, Delay, Settle, Nobody}
use Rattle.mon_engine.specs.Notices.{problem_facts}
use Rattle.mon_engine.specs.Objects.{is_service}
use Rattle.mon_engine.specs.Withheld.{first_failing, tests, withheld}
use Rattle.mon_engine.specs.WithheldLaws.{Says, EachWordIsTrue}
use Rattle.mon_engine.specs.World.{World}
use Rattle.mon_engine.proofs.UnlessLemmas.{withheld_is}

-- a test that fails is the first also where one more follows
failing_stays : (ts : List (Bool × Withheld)) (last : Bool × Withheld) → is_some (first_failing ts) ≡ true → first_failing (ts ++ last ∷ []) ≡ first_failing ts
failing_stays [] last some = absurd cc
failing_stays (t ∷ ts) last some = by t.0 some (λ more. failing_stays ts last more)
  where
    by : (passes : Bool) → is_some (if passes then first_failing ts else Some t.1) ≡ true → (is_some (first_failing ts) ≡ true → first_failing (ts ++ last ∷ []) ≡ first_failing ts)
        → (if passes then first_failing (ts ++ last ∷ []) else Some t.1) ≡ (if passes then first_failing ts else Some t.1)
    by true more later = later more
    by false more later = refl

-- where none fails, the one that follows decides
last_decides : (ts : List (Bool × Withheld)) (last : Bool × Withheld) → is_some (first_failing ts) ≡ false → first_failing (ts ++ last ∷ []) ≡ (if last.0 then None else Some last.1)
last_decides [] last none = refl
last_decides (t ∷ ts) last none = by t.0 none (λ more. last_decides ts last more)
  where
    by : (passes : Bool) → is_some (if passes then first_failing ts else Some t.1) ≡ false → (is_some (first_failing ts) ≡ false → first_failing (ts ++ last ∷ []) ≡ (if last.0 then None else Some last.1))
        → (if passes then first_failing (ts ++ last ∷ []) else Some t.1) ≡ (if last.0 then None else Some last.1)
    by true more later = later more
    by false more later = absurd cc

-- what holds the PROBLEM of this object back, by the test of its facts that fails first
module _ (inv : Configuration) (w : World) (object : ℕ) (spec : ObjectSpec) (o : Object) (f : Facts) (failing : Option Withheld) (known : slice_get inv.objects object ≡ Some spec) (there : slice_get w.objects object ≡ Some o)
    (is_facts : f ≡ problem_facts inv w Clock object spec o) (is_failing : failing ≡ first_failing (tests f)) where
  reached : List ℕ
  reached = recipients inv w.contacts object (o.number + 1) (letter_of (is_service spec) o.status.code) true

  all_tests : withheld inv w Clock object ≡ first_failing (tests f ++ (nat_lt 0 (length reached), Nobody) ∷ [])
  unfolding reached
  all_tests = withheld_is inv w Clock object spec o known there ∙ ap (λ (g : Facts). first_failing (tests g ++ (nat_lt 0 (length reached), Nobody) ∷ [])) (sym is_facts)

  pub withheld_by_facts : is_some failing ≡ true → failing ≡ withheld inv w Clock object
  withheld_by_facts some = is_failing ∙ sym (all_tests ∙ failing_stays (tests f) (nat_lt 0 (length reached), Nobody) (ap is_some (sym is_failing) ∙ some))

  pub withheld_by_contacts : is_some failing ≡ false → (contacts : List ℕ) → contacts ≡ recipients inv w.contacts object (o.number + 1) (letter_of (is_service spec) o.status.code) true
      → (if nat_lt 0 (length contacts) then None else Some Nobody) ≡ withheld inv w Clock object
  unfolding reached
  withheld_by_contacts none contacts is =
      ap (λ (cs : List ℕ). if nat_lt 0 (length cs) then None else Some Nobody) is
      ∙ sym (all_tests ∙ last_decides (tests f) (nat_lt 0 (length reached), Nobody) (ap is_some (sym is_failing) ∙ none))

-- ---- each word is true

-- the word of a test that fails, or one of the later tests
first_word : (P : Withheld → Type 0) (passes : Bool) (x why : Withheld) (later : Option Withheld) → (passes ≡ false → P x) → (later ≡ Some why → P why) → (if passes then later else Some x) ≡ Some why → P why
first_word P true x why later here there e = there e
first_word P false x why later here there e = subst P (same_Some x why e) (here refl)

not_open : (a b : Bool) → (a && b) ≡ false → (a ≡ false) ⊎ (b ≡ false)
not_open false b e = inl refl
not_open true b e = inr e

pub each_word_is_true : EachWordIsTrue
each_word_is_true inv w occasion object spec o why known there e =
    let P = Says inv w occasion object spec o in
    let f : Facts = problem_facts inv w occasion object spec o in
    first_word P f.program_on Program why _ (λ off. off)
    (first_word P f.object_on Switch why _ (λ off. off)
    (first_word P (eqb f.depth 0 && eqb f.host_depth 0) Downtime why _ (λ fails. in_downtime (not_open (eqb f.depth 0) (eqb f.host_depth 0) fails))
    (first_word P f.host_up Host why _ (λ down. by_host (is_service spec) refl down)
    (first_word P f.letter_on Letter why _ (λ off. off)
    (first_word P (not f.acknowledged) Acknowledged why _ (λ fails. not_false f.acknowledged fails)
    (first_word P f.hard Soft why _ (λ soft. soft)
    (first_word P (not (is_delayed f.not_before f.clock)) NotBefore why _ (λ fails. not_false (is_delayed f.not_before f.clock) fails)
    (first_word P (is_due f) Interval why _ (λ fails. undue f.volatile (eqb f.number 0) (is_of_code f.notified f.code) fails refl refl refl)
    (first_word P (is_old f) Delay why _ (λ young. young)
    (first_word P (is_settled f) Settle why _ (λ fails. unsettled (eqb o.number 0) (is_service spec) refl refl fails)
    (first_word P (nat_lt 0 (length reached)) Nobody why None (λ none. empty reached none) (λ never. absurd (cc)))))))))))))
    (sym (withheld_is inv w occasion object spec o known there) ∙ e)
  where
    reached : List ℕ
    reached = recipients inv w.contacts object (o.number + 1) (letter_of (is_service spec) o.status.code) true

    not_false : (b : Bool) → not b ≡ false → b ≡ true
    not_false true e = refl
    not_false false e = absurd (cc)

    some : (n : ℕ) → eqb n 0 ≡ false → 0 < n
    some n e = (let is = eqb-false n 0 e in elim (cases_lt 0 n) [
      | inl more ↦ more
      | inr none ↦ absurd (is (omega (arith, none)))
    ])

    by_depth : (s : Bool) → is_service spec ≡ s → eqb (if s then depth_of w.downtimes spec.host_object else 0) 0 ≡ false → (is_service spec ≡ true) × (0 < depth_of w.downtimes spec.host_object)
    by_depth true is e = (is, some (depth_of w.downtimes spec.host_object) e)
    by_depth false is e = absurd (cc)

    in_downtime : (eqb (depth_of w.downtimes object) 0 ≡ false) ⊎ (eqb (if is_service spec then depth_of w.downtimes spec.host_object else 0) 0 ≡ false) → (0 < depth_of w.downtimes object) ⊎ ((is_service spec ≡ true) × (0 < depth_of w.downtimes spec.host_object))
    in_downtime (inl own) = inl (some (depth_of w.downtimes object) own)
    in_downtime (inr host) = inr (by_depth (is_service spec) refl host)

    by_host : (s : Bool) → is_service spec ≡ s → (if s then host_is_up w.objects spec else true) ≡ false → (is_service spec ≡ true) × (host_is_up w.objects spec ≡ false)
    by_host true is down = (is, down)
    by_host false is down = absurd (cc)

    by_interval : (n : ℕ) (over : Bool) → (nat_lt 0 n && over) ≡ false → (n ≡ 0) ⊎ (over ≡ false)
    by_interval zero over e = inl refl
    by_interval (suc n) over e = inr (ap (λ (b : Bool). b && over) (sym (lt-ltb 0 (suc n) (omega arith))) ∙ e)

    undue : (v first same : Bool) → (v || first || not same || (nat_lt 0 (interval_in_force inv object o.number o.status.code) && is_over o.last (interval_in_force inv object o.number o.status.code) w.clock)) ≡ false
        → is_volatile_on occasion inv object ≡ v → eqb o.number 0 ≡ first → is_of_code o.notified o.status.code ≡ same
        → (is_volatile_on occasion inv object ≡ false) × (o.number ≢ 0) × (is_of_code o.notified o.status.code ≡ true) × ((interval_in_force inv object o.number o.status.code ≡ 0) ⊎ (is_over o.last (interval_in_force inv object o.number o.status.code) w.clock ≡ false))
    undue false false true e v first same = (v, eqb-false o.number 0 first, same, by_interval (interval_in_force inv object o.number o.status.code) _ e)
    undue true first same e v f s = absurd (cc)
    undue false true same e v f s = absurd (cc)
    undue false false false e v f s = absurd (cc)

    unsettled : (first service : Bool) → eqb o.number 0 ≡ first → is_service spec ≡ service → (not first || have_gone_by (if service then back_since (slice_get w.objects spec.host_object) else None) inv.settle w.clock) ≡ false
        → (o.number ≡ 0) × (is_service spec ≡ true) × (have_gone_by (back_since (slice_get w.objects spec.host_object)) inv.settle w.clock ≡ false)
    unsettled true true first service e = (eqb-true o.number 0 first, service, e)
    unsettled true false first service e = absurd (cc)
    unsettled false service first is e = absurd (cc)

    empty : (xs : List ℕ) → nat_lt 0 (length xs) ≡ false → xs ≡ []
    empty [] e = refl
    empty (x ∷ xs) e = absurd (let less = lt-ltb 0 (length (x ∷ xs)) (omega arith) in true≢false (sym less ∙ e))
