-- An acknowledgement is changed by the acts for it alone, and by results.
use Rattle.std.proofs.Common.{◌≡◌, ℕ, Bool, true, false, not, eqb, List, [], ◌∷◌, ◌≢◌, Some, Result, Ok, ◌⊎◌, inl, inr, slice_get, if◌then◌else◌, refl, ap, sym, ◌∙◌, subst}
use Rattle.std.proofs.lemmas.Bool.{eqb-false}
use Rattle.mon_checks.specs.States.{change_by, recovers}
use Rattle.mon_checks.specs.declared.transition.Change.{Change}
use Rattle.mon_inventory.specs.declared.records.ObjectSpec.{ObjectSpec}
use Rattle.mon_inventory.specs.Configuration.{Configuration, passive_hosts_soft}
use Rattle.mon_engine.specs.declared.object.Acknowledgement.{Acknowledgement}
use Rattle.mon_engine.specs.declared.object.Acknowledgement.TheVariants.{Unacknowledged, Normal, Sticky}
use Rattle.mon_engine.specs.declared.object.Object.{Object}
use Rattle.mon_engine.specs.declared.objects.Setting.TheVariants as settings
use Rattle.mon_engine.specs.declared.outcome.Reason.{Reason}
use Rattle.mon_engine.specs.declared.outcome.Outcome.TheVariants.{Applied}
use Rattle.mon_engine.specs.Places.{changed_at, changed_each}
use Rattle.mon_engine.specs.Objects.{host_is_up, object_after, after_told, reset, custom_number, acknowledgement_after, acknowledgement_of, only_sticky, with_acknowledgement, with_setting}
use Rattle.mon_engine.specs.Notices.{noticed, after_custom}
use Rattle.mon_engine.specs.Results.{with_result, with_started, after_taken, after_check_result}
use Rattle.mon_engine.specs.Acknowledgements.{after_acknowledge, after_unacknowledge}
use Rattle.mon_inventory.specs.Lookups.{services_of}
use Rattle.mon_engine.specs.Clock.{advanced}
use Rattle.mon_engine.specs.Step.{counted}
use Rattle.mon_engine.proofs.ActLemmas.{ok_is, acknowledge_cases, unacknowledge_cases, started_leaves, noticed_cases, check_result_cases, custom_cases, act_leaves}
use Rattle.mon_engine.proofs.CountLemmas.{setting_leaves}
use Rattle.mon_engine.proofs.EntryLemmas.{found, kept_objects, entry_cases}
use Rattle.mon_engine.proofs.ListLemmas.{changed_cases}
use Rattle.mon_engine.specs.World.{World}
use Rattle.mon_engine.specs.Effects as acts
use Rattle.mon_engine.specs.Effects.{Act, act, named}
use Rattle.mon_engine.specs.Laws.{moment_of, acknowledgement_in, acknowledgement_at, AppliesOne, EndsAcknowledgement, MakesOfAcknowledgement, AcknowledgementsStand}

-- ---- one object among all

-- the object is there, with this acknowledgement
abbrev pub Has : List Object → ℕ → Acknowledgement → Type 0
Has os object a = (o : Object) × (slice_get os object ≡ Some o) × (o.acknowledgement ≡ a)

pub has_is : (os : List Object) (object : ℕ) (a : Acknowledgement) → Has os object a → acknowledgement_in (slice_get os object) ≡ a
has_is os object a h = ap acknowledgement_in h.1 ∙ h.2

-- a change that leaves acknowledgements alone
pub changed_has : (os : List Object) (k object : ℕ) (f : Object → Object) (a : Acknowledgement) → ((o : Object) → (f o).acknowledgement ≡ o.acknowledgement) → Has os object a → Has (changed_at os k f) object a
changed_has os k object f a keeps h = elim (changed_cases os k object f h.0 h.1) [
  | inl here ↦ (f h.0, here.1, keeps h.0 ∙ h.2)
  | inr there ↦ (h.0, there, h.2)
]

each_has : (os : List Object) (ks : List ℕ) (object : ℕ) (f : Object → Object) (a : Acknowledgement) → ((o : Object) → (f o).acknowledgement ≡ o.acknowledgement) → Has os object a → Has (changed_each os ks f) object a
unfolding changed_each
each_has os [] object f a keeps h = h
each_has os (k ∷ ks) object f a keeps h = each_has (changed_at os k f) ks object f a keeps (changed_has os k object f a keeps h)

-- ---- what acts make of it

-- the object is there afterwards, its acknowledgement as it was or as the act makes it
abbrev Becomes : (object : ℕ) → Object → Act → List Object → Type 0
Becomes object o a os = (x : Acknowledgement) × Has os object x × ((x ≡ o.acknowledgement) ⊎ MakesOfAcknowledgement object o x a)

-- where the act leaves it
stays : (object : ℕ) (o : Object) (a : Act) (os : List Object) → Has os object o.acknowledgement → Becomes object o a os
stays object o a os h = (o.acknowledgement, h, inl refl)

-- what is done by one of these acts
becomes_ok : (object : ℕ) (o : Object) (a : Act) (r : Result World Reason) (v w : World) → r ≡ Ok v → r ≡ Ok w → Becomes object o a v.objects → Becomes object o a w.objects
becomes_ok object o a r v w e f h = ok_is (λ (x : World). Becomes object o a x.objects) r v w e f h

-- where the act sets it of one object
set_becomes : (object x : ℕ) (o : Object) (a : Act) (os : List Object) (b : Acknowledgement) → slice_get os object ≡ Some o → (x ≡ object → MakesOfAcknowledgement object o b a) → Becomes object o a (changed_at os x (with_acknowledgement b))
set_becomes object x o a os b here makes = elim (changed_cases os x object (with_acknowledgement b) o here) [
  | inl at ↦ (b, (with_acknowledgement b o, at.1, refl), inr (makes at.0))
  | inr there ↦ (o.acknowledgement, (o, there, refl), inl refl)
]

acknowledged : (inv : Configuration) (v w : World) (x sticky object : ℕ) (notify persistent : Bool) (author text : List ℕ) (o : Object) → slice_get v.objects object ≡ Some o
    → after_acknowledge inv v x sticky notify persistent author text ≡ Ok w → Becomes object o (acts.Acknowledge x sticky notify persistent author text) w.objects
acknowledged inv v w x sticky object notify persistent author text o here e =
    acknowledge_cases (λ (y : World). Becomes object o (acts.Acknowledge x sticky notify persistent author text) y.objects) inv v w x sticky notify persistent author text e (λ p at problem. set) (λ p at problem. set)
  where
    set : Becomes object o (acts.Acknowledge x sticky notify persistent author text) (changed_at v.objects x (with_acknowledgement (acknowledgement_of sticky)))
    set = set_becomes object x o (acts.Acknowledge x sticky notify persistent author text) v.objects (acknowledgement_of sticky) here (λ same. (same, refl))

unacknowledged : (v : World) (x object : ℕ) (o : Object) → slice_get v.objects object ≡ Some o → Becomes object o (acts.RemoveAcknowledgement x) (after_unacknowledge v x).objects
unacknowledged v x object o here = unacknowledge_cases (λ (y : World). Becomes object o (acts.RemoveAcknowledgement x) y.objects) v x
    (stays object o (acts.RemoveAcknowledgement x) v.objects (o, here, refl))
    (λ p at is. set_becomes object x o (acts.RemoveAcknowledgement x) v.objects Unacknowledged here (λ same. (same, refl)))

-- notices leave acknowledgements alone
pub noticed_has : (inv : Configuration) (v : World) (x object : ℕ) (change : Change) (a : Acknowledgement) → Has v.objects object a → Has (noticed inv v x change).objects object a
noticed_has inv v x object change a h = noticed_cases (λ (y : World). Has y.objects object a) inv v x change h
    (λ spec o known at. changed_has v.objects x object reset a (λ p. refl) h) (λ spec o known at n e. changed_has v.objects x object (after_told v.clock) a (λ p. refl) h)

-- the rule for a result, and the reasons that it gives
result_becomes : (o : Object) (code : ℕ) → (acknowledgement_after o.acknowledgement (change_by o.status code).code_changed (change_by o.status code).recovered ≡ o.acknowledgement)
    ⊎ ((acknowledgement_after o.acknowledgement (change_by o.status code).code_changed (change_by o.status code).recovered ≡ Unacknowledged) × EndsAcknowledgement o code)
result_becomes o code = by_recovered (recovers o.status code) refl
  where
    by_kind : (a : Acknowledgement) → o.acknowledgement ≡ a → (o.status.code ≢ code) → (only_sticky a ≡ a) ⊎ ((only_sticky a ≡ Unacknowledged) × EndsAcknowledgement o code)
    by_kind Unacknowledged k n = inl refl
    by_kind Normal k n = inr (refl, inr (k, n))
    by_kind Sticky k n = inl refl

    by_changed : (same : Bool) → eqb o.status.code code ≡ same
        → ((if not same then only_sticky o.acknowledgement else o.acknowledgement) ≡ o.acknowledgement) ⊎ (((if not same then only_sticky o.acknowledgement else o.acknowledgement) ≡ Unacknowledged) × EndsAcknowledgement o code)
    by_changed true e = inl refl
    by_changed false e = by_kind o.acknowledgement refl (eqb-false o.status.code code e)

    by_recovered : (r : Bool) → recovers o.status code ≡ r
        → (acknowledgement_after o.acknowledgement (change_by o.status code).code_changed r ≡ o.acknowledgement)
        ⊎ ((acknowledgement_after o.acknowledgement (change_by o.status code).code_changed r ≡ Unacknowledged) × EndsAcknowledgement o code)
    by_recovered true e = inr (refl, inl e)
    by_recovered false e = by_changed (eqb o.status.code code) refl

-- the object itself after a result, and any other
taken_becomes : (os : List Object) (x object clock code : ℕ) (output : List ℕ) (up soft : Bool) (max : ℕ) (o : Object) → slice_get os object ≡ Some o → Becomes object o (acts.CheckResult x code output) (changed_at os x (object_after clock code output up soft max))
taken_becomes os x object clock code output up soft max o here = elim (changed_cases os x object (object_after clock code output up soft max) o here) [
  | inl at ↦ (
    acknowledgement_after o.acknowledgement (change_by o.status code).code_changed (change_by o.status code).recovered,
    (object_after clock code output up soft max o, at.1, refl),
    elim (result_becomes o code) [
      | inl same ↦ inl same
      | inr ended ↦ inr (at.0, ended.0, ended.1)
    ],
  )
  | inr there ↦ (o.acknowledgement, (o, there, refl), inl refl)
]

after_taken_becomes : (inv : Configuration) (v : World) (x object code : ℕ) (output : List ℕ) (spec : ObjectSpec) (p o : Object) → slice_get v.objects object ≡ Some o
    → Becomes object o (acts.CheckResult x code output) (after_taken inv v x code output spec p).objects
after_taken_becomes inv v x object code output spec p o here =
    let changed = taken_becomes v.objects x object v.clock code output (host_is_up v.objects spec) (passive_hosts_soft inv) spec.max o here in
    let on : World = with_started inv (with_result inv v x spec p code output) x in
    let started : Has on.objects object changed.0 = subst (λ (os : List Object). Has os object changed.0) (sym (ap (λ (y : World). y.objects) (started_leaves inv (with_result inv v x spec p code output) x))) changed.1 in
    (changed.0, noticed_has inv on x object (change_by p.status code) changed.0 started, changed.2)

checked : (inv : Configuration) (v w : World) (x object code : ℕ) (output : List ℕ) (o : Object) → slice_get v.objects object ≡ Some o → after_check_result inv v x code output ≡ Ok w → Becomes object o (acts.CheckResult x code output) w.objects
checked inv v w x object code output o here e =
    check_result_cases (λ (y : World). Becomes object o (acts.CheckResult x code output) y.objects) inv v w x code output e (λ spec p known at. after_taken_becomes inv v x object code output spec p o here)

custom_has : (inv : Configuration) (v : World) (x options object : ℕ) (a : Acknowledgement) → Has v.objects object a → Has (after_custom inv v x options).objects object a
custom_has inv v x options object a h = custom_cases (λ (y : World). Has y.objects object a) inv v x options h (λ spec o known at n e. changed_has v.objects x object (with_setting (settings.Number (custom_number options o))) a (λ p. refl) h)

-- an act that leaves the objects
unmoved : (object : ℕ) (o : Object) (a : Act) (v w : World) → slice_get v.objects object ≡ Some o → w.objects ≡ v.objects → Becomes object o a w.objects
unmoved object o a v w here same = subst (Becomes object o a) (sym same) (stays object o a v.objects (o, here, refl))

-- ---- each act

act_becomes : (inv : Configuration) (v w : World) (object : ℕ) (o : Object) (a : Act) → slice_get v.objects object ≡ Some o → act inv v a ≡ Ok w → Becomes object o a w.objects
unfolding act
act_becomes inv v w object o (acts.Acknowledge x sticky notify persistent author text) here e = acknowledged inv v w x sticky object notify persistent author text o here e
act_becomes inv v w object o (acts.RemoveAcknowledgement x) here e = becomes_ok object o (acts.RemoveAcknowledgement x) _ _ w refl e (unacknowledged v x object o here)
act_becomes inv v w object o (acts.CheckResult x code output) here e = checked inv v w x object code output o here e
act_becomes inv v w object o (acts.Set x setting) here e =
    becomes_ok object o (acts.Set x setting) _ _ w refl e (stays object o (acts.Set x setting) _ (changed_has v.objects x object (with_setting setting) o.acknowledgement (λ p. (setting_leaves setting p).1) (o, here, refl)))
act_becomes inv v w object o (acts.SetServices host setting) here e =
    becomes_ok object o (acts.SetServices host setting) _ _ w refl e (stays object o (acts.SetServices host setting) _ (each_has v.objects (services_of inv.objects host) object (with_setting setting) o.acknowledgement (λ p. (setting_leaves setting p).1) (o, here, refl)))
act_becomes inv v w object o (acts.SendCustom x options) here e = becomes_ok object o (acts.SendCustom x options) _ _ w refl e (stays object o (acts.SendCustom x options) _ (custom_has inv v x options object o.acknowledgement (o, here, refl)))
act_becomes inv v w object o a here e = unmoved object o a v w here (ap (λ (x : World). x.objects) (act_leaves inv v w a e))

-- ---- the law

-- an object's acknowledgement after all that an entry does
at_end : (inv : Configuration) (b : World) (t object : ℕ) → acknowledgement_at (advanced inv (counted b) t) object ≡ acknowledgement_at b object
at_end inv b t object = ap (λ (os : List Object). acknowledgement_in (slice_get os object)) (kept_objects inv (counted b) t)

pub acknowledgements_stand : AcknowledgementsStand
acknowledgements_stand inv w e object o here = entry_cases inv w e
    (λ p. (acknowledgement_at p.0 object ≡ o.acknowledgement) ⊎ AppliesOne inv e p.1 (MakesOfAcknowledgement object o (acknowledgement_at p.0 object)))
    (λ why. inl (at_end inv _ (moment_of w e) object ∙ ap acknowledgement_in found_there))
    applied
  where
    found_there : slice_get (found inv w e).objects object ≡ Some o
    found_there = ap (λ (os : List Object). slice_get os object) (kept_objects inv w (moment_of w e)) ∙ here

    applied : (a : Act) (b : World) → named inv e.stamped.command ≡ Ok a → act inv (found inv w e) a ≡ Ok b
        → (acknowledgement_at (advanced inv (counted b) (moment_of w e)) object ≡ o.acknowledgement)
        ⊎ AppliesOne inv e Applied (MakesOfAcknowledgement object o (acknowledgement_at (advanced inv (counted b) (moment_of w e)) object))
    applied a b n h =
        let becomes = act_becomes inv (found inv w e) b object o a found_there h in
        let is : acknowledgement_at (advanced inv (counted b) (moment_of w e)) object ≡ becomes.0 = at_end inv b (moment_of w e) object ∙ has_is b.objects object becomes.0 becomes.1 in
        elim becomes.2 [
          | inl same ↦ inl (is ∙ same)
          | inr made ↦ inr (record { applied = refl; does = a; asked_for = n; among = subst (λ (x : Acknowledgement). MakesOfAcknowledgement object o x a) (sym is) made })
        ]
