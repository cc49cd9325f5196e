-- An entry touches no object and no downtime but those that it names, and those of which something falls due.
use Rattle.std.proofs.Common.{◌≡◌, ℕ, suc, Bool, true, false, eqb, cond, List, [], ◌∷◌, ◌++◌, map, fold, Option, Some, None, Result, Ok, Err, slice_get, ◌⊎◌, inl, inr, refl, ap, sym, ◌∙◌, subst, arith}
use Rattle.std.specs.Prelude.{Contains}
use Rattle.std.specs.Option.{option_or}
use Rattle.std.proofs.lemmas.Bool.{eqb-true}
use Rattle.std.proofs.lemmas.List.Folds.{find-append}
use Rattle.cmd_types.specs.declared.entry.Entry.{Entry}
use Rattle.mon_checks.specs.States.{change_by}
use Rattle.mon_downtime.specs.declared.downtime.Downtime.{Downtime}
use Rattle.mon_downtime.specs.declared.downtime.Fate.TheVariants.{Over}
use Rattle.mon_downtime.specs.declared.event.Event.{Event}
use Rattle.mon_downtime.specs.Records.{record_of, changed}
use Rattle.mon_downtime.specs.Events.{fate_by, after_event}
use Rattle.mon_downtime.specs.Clock.{happening}
use Rattle.mon_downtime.specs.Problem.{all_started, started, started_by, waits_for}
use Rattle.mon_downtime.specs.Cancel.{depends, cancelled, cancelled_record}
use Rattle.mon_inventory.specs.declared.records.ObjectSpec.{ObjectSpec}
use Rattle.mon_inventory.specs.Configuration.{Configuration, passive_hosts_soft}
use Rattle.mon_inventory.specs.Lookups.{services_of}
use Rattle.mon_engine.specs.declared.object.Acknowledgement.TheVariants.{Unacknowledged}
use Rattle.mon_engine.specs.declared.object.Object.{Object}
use Rattle.mon_engine.specs.declared.objects.Setting.TheVariants as settings
use Rattle.mon_engine.specs.declared.outcome.Reason.{Reason}
use Rattle.mon_engine.specs.Places.{changed_at, changed_each}
use Rattle.mon_engine.specs.Objects.{host_is_up, object_after, after_told, reset, custom_number, acknowledgement_of, with_acknowledgement, with_setting}
use Rattle.mon_engine.specs.World.{World}
use Rattle.mon_engine.specs.Results.{with_result, with_started, after_taken}
use Rattle.mon_engine.specs.Effects as acts
use Rattle.mon_engine.specs.Effects.{Act, act, named}
use Rattle.mon_engine.specs.Clock.{fired, drained, advanced}
use Rattle.mon_engine.specs.Step.{act_on, settled, effect, counted, acted}
use Rattle.mon_engine.specs.Laws.{moment_of, AppliesOne}
use Rattle.mon_engine.specs.TouchLaws.{MayChangeObject, OtherObjectsStay, FallsDue, MayChangeDowntime, OtherDowntimesStay, Schedules, NewDowntimesAreAsked}
use Rattle.mon_engine.proofs.ActLemmas.{ok_is, acknowledge_cases, unacknowledge_cases, started_leaves, noticed_cases, check_result_cases, custom_cases, act_leaves}
use Rattle.mon_engine.proofs.DowntimeLemmas.{OnlyFates, changed_only, started_only, cancelled_only, waits_as}
use Rattle.mon_engine.proofs.EntryLemmas.{found, kept_objects, entry_cases}
use Rattle.mon_engine.proofs.FoundLemmas.{known_downtime}
use Rattle.mon_engine.proofs.IdLemmas.{mapped_record, more_record}
use Rattle.mon_engine.proofs.ListLemmas.{changed_cases}
use Rattle.mon_engine.proofs.MoveLemmas.{Moves, act_moves}
use Rattle.mon_engine.proofs.TimeLemmas.{waits_inside}

-- ---- objects

-- where one place is changed
place_stays : (C : Type 0) (os : List Object) (x object : ℕ) (f : Object → Object) (o : Object) → (x ≡ object → C) → (slice_get os object ≡ Some o) ⊎ C → (slice_get (changed_at os x f) object ≡ Some o) ⊎ C
place_stays C os x object f o why (inl there) = elim (changed_cases os x object f o there) [
  | inl here ↦ inr (why here.0)
  | inr same ↦ inl same
]
place_stays C os x object f o why (inr may) = inr may

places_stay : (os : List Object) (ks : List ℕ) (object : ℕ) (f : Object → Object) (o : Object) → slice_get os object ≡ Some o → (slice_get (changed_each os ks f) object ≡ Some o) ⊎ Contains ks object
unfolding changed_each
places_stay os [] object f o there = inl there
places_stay os (k ∷ ks) object f o there = elim (changed_cases os k object f o there) [
  | inl here ↦ inr (0, omega arith, here.0)
  | inr same ↦ elim (places_stay (changed_at os k f) ks object f o same) [
    | inl stays ↦ inl stays
    | inr is ↦ inr (suc is.0, (let lt = is.1 in omega arith), is.2)
  ]
]

-- the object is as it was, or the act may change it
abbrev StaysUnder : Configuration → (object : ℕ) → Object → Act → List Object → Type 0
StaysUnder inv object o a os = (slice_get os object ≡ Some o) ⊎ MayChangeObject inv object a

checked_stays : (inv : Configuration) (v w : World) (object x code : ℕ) (output : List ℕ) (o : Object) → slice_get v.objects object ≡ Some o → act inv v (acts.CheckResult x code output) ≡ Ok w → (slice_get w.objects object ≡ Some o) ⊎ (x ≡ object)
unfolding act
checked_stays inv v w object x code output o there e = check_result_cases (λ (y : World). (slice_get y.objects object ≡ Some o) ⊎ (x ≡ object)) inv v w x code output e (λ spec p known at. taken spec p)
  where
    taken : (spec : ObjectSpec) (p : Object) → (slice_get (after_taken inv v x code output spec p).objects object ≡ Some o) ⊎ (x ≡ object)
    taken spec p =
        let on : World = with_started inv (with_result inv v x spec p code output) x in
        let result = place_stays (x ≡ object) v.objects x object (object_after v.clock code output (host_is_up v.objects spec) (passive_hosts_soft inv) spec.max) o (λ same. same) (inl there) in
        let begun : (slice_get on.objects object ≡ Some o) ⊎ (x ≡ object) = subst (λ (os : List Object). (slice_get os object ≡ Some o) ⊎ (x ≡ object)) (sym (ap (λ (y : World). y.objects) (started_leaves inv (with_result inv v x spec p code output) x))) result in
        noticed_cases (λ (y : World). (slice_get y.objects object ≡ Some o) ⊎ (x ≡ object)) inv on x (change_by p.status code) begun
        (λ s q known at. place_stays (x ≡ object) on.objects x object reset o (λ same. same) begun) (λ s q known at n k. place_stays (x ≡ object) on.objects x object (after_told on.clock) o (λ same. same) begun)

act_stays : (inv : Configuration) (v w : World) (object : ℕ) (o : Object) (a : Act) → slice_get v.objects object ≡ Some o → act inv v a ≡ Ok w → StaysUnder inv object o a w.objects
unfolding act
act_stays inv v w object o (acts.Acknowledge x sticky notify persistent author text) there e =
    acknowledge_cases (λ (y : World). StaysUnder inv object o (acts.Acknowledge x sticky notify persistent author text) y.objects) inv v w x sticky notify persistent author text e
    (λ p at problem. place_stays (x ≡ object) v.objects x object (with_acknowledgement (acknowledgement_of sticky)) o (λ same. same) (inl there))
    (λ p at problem. place_stays (x ≡ object) v.objects x object (with_acknowledgement (acknowledgement_of sticky)) o (λ same. same) (inl there))
act_stays inv v w object o (acts.RemoveAcknowledgement x) there e = ok_is (λ (y : World). StaysUnder inv object o (acts.RemoveAcknowledgement x) y.objects) _ _ w refl e
    (unacknowledge_cases (λ (y : World). StaysUnder inv object o (acts.RemoveAcknowledgement x) y.objects) v x (inl there) (λ p at is. place_stays (x ≡ object) v.objects x object (with_acknowledgement Unacknowledged) o (λ same. same) (inl there)))
act_stays inv v w object o (acts.CheckResult x code output) there e = checked_stays inv v w object x code output o there e
act_stays inv v w object o (acts.Set x setting) there e = ok_is (λ (y : World). StaysUnder inv object o (acts.Set x setting) y.objects) _ _ w refl e (place_stays (x ≡ object) v.objects x object (with_setting setting) o (λ same. same) (inl there))
act_stays inv v w object o (acts.SetServices host setting) there e = ok_is (λ (y : World). StaysUnder inv object o (acts.SetServices host setting) y.objects) _ _ w refl e (places_stay v.objects (services_of inv.objects host) object (with_setting setting) o there)
act_stays inv v w object o (acts.SendCustom x options) there e = ok_is (λ (y : World). StaysUnder inv object o (acts.SendCustom x options) y.objects) _ _ w refl e
    (custom_cases (λ (y : World). StaysUnder inv object o (acts.SendCustom x options) y.objects) inv v x options (inl there) (λ spec p known at n k. place_stays (x ≡ object) v.objects x object (with_setting (settings.Number (custom_number options p))) o (λ same. same) (inl there)))
act_stays inv v w object o a there e = inl (ap (λ (y : World). slice_get y.objects object) (act_leaves inv v w a e) ∙ there)

pub other_objects_stay : OtherObjectsStay
other_objects_stay inv w e object o there = entry_cases inv w e
    (λ p. (slice_get p.0.objects object ≡ Some o) ⊎ AppliesOne inv e p.1 (MayChangeObject inv object))
    (λ why. inl (at_end _ ∙ at_found))
    (λ a b n k. elim (act_stays inv (found inv w e) b object o a at_found k) [
      | inl same ↦ inl (at_end b ∙ same)
      | inr may ↦ inr (record { applied = refl; does = a; asked_for = n; among = may })
    ])
  where
    at_found : slice_get (found inv w e).objects object ≡ Some o
    at_found = ap (λ (os : List Object). slice_get os object) (kept_objects inv w (moment_of w e)) ∙ there

    at_end : (b : World) → slice_get (advanced inv (counted b) (moment_of w e)).objects object ≡ slice_get b.objects object
    at_end b = ap (λ (os : List Object). slice_get os object) (kept_objects inv (counted b) (moment_of w e))

-- ---- downtimes: time

-- one that a change of fates leaves alone
left_alone : (f : Downtime → Downtime) → OnlyFates f → (ds : List Downtime) (d : Downtime) → record_of ds d.id ≡ Some d → f d ≡ d → record_of (map f ds) d.id ≡ Some d
left_alone f only ds d there same = mapped_record f only ds d.id d there ∙ ap (λ (y : Downtime). Some y) same

fired_stays : (inv : Configuration) (w : World) (k : Event) (d : Downtime) → record_of w.downtimes d.id ≡ Some d → (record_of (fired inv w k).downtimes d.id ≡ Some d) ⊎ (k.id ≡ d.id)
unfolding fired after_event
fired_stays inv w k d there = by_test (eqb d.id k.id) refl
  where
    by_test : (b : Bool) → eqb d.id k.id ≡ b → (record_of (map (changed k.id (fate_by k.moment k.kind)) w.downtimes) d.id ≡ Some d) ⊎ (k.id ≡ d.id)
    by_test true hit = inr (sym (eqb-true d.id k.id hit))
    by_test false miss = inl (left_alone (changed k.id (fate_by k.moment k.kind)) (changed_only k.id (fate_by k.moment k.kind)) w.downtimes d there (ap (λ (b : Bool). cond b (record d { fate = fate_by k.moment k.kind d }) d) miss))

folded_stays : (inv : Configuration) (d : Downtime) (ks : List Event) (w : World) → record_of w.downtimes d.id ≡ Some d → (record_of (fold (fired inv) w ks).downtimes d.id ≡ Some d) ⊎ ((k : Event) × Contains ks k × (k.id ≡ d.id))
folded_stays inv d [] w there = inl there
folded_stays inv d (k ∷ ks) w there = elim (fired_stays inv w k d there) [
  | inl same ↦ elim (folded_stays inv d ks (fired inv w k) same) [
    | inl still ↦ inl still
    | inr later ↦ inr (later.0, (suc later.1.0, (let lt = later.1.1 in omega arith), later.1.2), later.2)
  ]
  | inr hit ↦ inr (k, (0, omega arith, refl), hit)
]

time_stays : (inv : Configuration) (w : World) (t : ℕ) (d : Downtime) → record_of w.downtimes d.id ≡ Some d → (record_of (advanced inv w t).downtimes d.id ≡ Some d) ⊎ FallsDue w.downtimes t d
unfolding advanced drained
time_stays inv w t d there = folded_stays inv d (happening w.downtimes t) w there

-- ---- downtimes: an act

-- the downtime is as it was, or the act may change it, and leaves these objects
abbrev KeptUnder : Configuration → List Downtime → (after : List Object) → Downtime → Act → List Downtime → Type 0
KeptUnder inv ds after d a es = (record_of es d.id ≡ Some d) ⊎ MayChangeDowntime inv ds after d a

moves_stay : (inv : Configuration) (v b : World) (a : Act) (d : Downtime) → record_of v.downtimes d.id ≡ Some d → Moves inv v b a → KeptUnder inv v.downtimes b.objects d a b.downtimes
unfolding all_started cancelled
moves_stay inv v b a d there (inl same) = inl (ap (λ (ds : List Downtime). record_of ds d.id) same ∙ there)
moves_stay inv v b a d there (inr (inl more)) = inl (ap (λ (ds : List Downtime). record_of ds d.id) more.1 ∙ more_record v.downtimes more.0 d.id d there)
moves_stay inv v b a d there (inr (inr (inl begun))) = subst (KeptUnder inv v.downtimes b.objects d a) (sym begun.4) (subst (λ (x : Act). KeptUnder inv v.downtimes b.objects d x (map (started begun.0 v.clock) v.downtimes)) (sym begun.3) (by_test (waits_for begun.0 v.clock d) refl))
  where
    by_test : (t : Bool) → waits_for begun.0 v.clock d ≡ t → KeptUnder inv v.downtimes b.objects d (acts.CheckResult begun.0 begun.1 begun.2) (map (started begun.0 v.clock) v.downtimes)
    by_test true h = (let waiting = waits_as begun.0 v.clock d h in inr (waiting.0, waiting.1, waiting.2, (waits_inside begun.0 v.clock d h).0, begun.5))
    by_test false h = inl (left_alone (started begun.0 v.clock) (started_only begun.0 v.clock) v.downtimes d there (ap (λ (t : Bool). cond t (record d { fate = started_by v.clock d }) d) h))
moves_stay inv v b a d there (inr (inr (inr gone))) = subst (KeptUnder inv v.downtimes b.objects d a) (sym gone.4) (subst (λ (x : Act). KeptUnder inv v.downtimes b.objects d x (map (cancelled_record v.downtimes gone.1) v.downtimes)) (sym gone.2) (by_test (depends v.downtimes gone.1 d.id) refl))
  where
    by_test : (t : Bool) → depends v.downtimes gone.1 d.id ≡ t → KeptUnder inv v.downtimes b.objects d (acts.DelDowntime gone.0 gone.1) (map (cancelled_record v.downtimes gone.1) v.downtimes)
    by_test true h = inr (h, gone.3)
    by_test false h = inl (left_alone (cancelled_record v.downtimes gone.1) (cancelled_only v.downtimes gone.1) v.downtimes d there (ap (λ (t : Bool). cond t (record d { fate = Over }) d) h))

-- ---- downtimes: an entry

effect_stays : (inv : Configuration) (v : World) (e : Entry) (d : Downtime) → record_of v.downtimes d.id ≡ Some d → (record_of (effect inv v e).0.downtimes d.id ≡ Some d) ⊎ AppliesOne inv e (effect inv v e).1 (MayChangeDowntime inv v.downtimes (effect inv v e).0.objects d)
effect_stays inv v e d there = by_named (named inv e.stamped.command) refl
  where
    by_act : (a : Act) → named inv e.stamped.command ≡ Ok a → (r : Result World Reason) → act inv v a ≡ r → (record_of (settled v e.sender e.place r).0.downtimes d.id ≡ Some d) ⊎ AppliesOne inv e (settled v e.sender e.place r).1 (MayChangeDowntime inv v.downtimes (settled v e.sender e.place r).0.objects d)
    by_act a n (Err why) h = inl there
    by_act a n (Ok b) h = elim (moves_stay inv v b a d there (act_moves inv v b a h)) [
      | inl same ↦ inl same
      | inr may ↦ inr (record { applied = refl; does = a; asked_for = n; among = may })
    ]

    by_named : (r : Result Act Reason) → named inv e.stamped.command ≡ r → (record_of (settled v e.sender e.place (act_on inv v r)).0.downtimes d.id ≡ Some d) ⊎ AppliesOne inv e (settled v e.sender e.place (act_on inv v r)).1 (MayChangeDowntime inv v.downtimes (settled v e.sender e.place (act_on inv v r)).0.objects d)
    by_named (Err why) n = inl there
    by_named (Ok a) n = by_act a n (act inv v a) refl

pub other_downtimes_stay : OtherDowntimesStay
unfolding acted
other_downtimes_stay inv w e d there = elim (time_stays inv w (moment_of w e) d there) [
  | inl found_there ↦ elim (effect_stays inv (found inv w e) e d found_there) [
    | inl left ↦ elim (time_stays inv (counted (effect inv (found inv w e) e).0) (moment_of w e) d left) [
      | inl still ↦ inl still
      | inr due_behind ↦ inr (inl (inr due_behind))
    ]
    | inr may ↦ inr (inr (subst (λ (os : List Object). AppliesOne inv e (effect inv (found inv w e) e).1 (MayChangeDowntime inv (found inv w e).downtimes os d)) (sym (kept_objects inv (counted (effect inv (found inv w e) e).0) (moment_of w e))) may))
  ]
  | inr due_before ↦ inr (inl (inl due_before))
]

-- ---- new downtimes

fates_none : (f : Downtime → Downtime) → OnlyFates f → (ds : List Downtime) (id : ℕ) → record_of ds id ≡ None → record_of (map f ds) id ≡ None
fates_none f only [] id h = refl
fates_none f only (d ∷ ds) id h = by_test (λ k. fates_none f only ds id k) (eqb d.id id) (ap (λ (x : Downtime). eqb x.id id) (only d)) h
  where
    by_test : (record_of ds id ≡ None → record_of (map f ds) id ≡ None) → (b : Bool) → eqb (f d).id id ≡ b → cond b (Some d) (record_of ds id) ≡ None → cond (eqb (f d).id id) (Some (f d)) (record_of (map f ds) id) ≡ None
    by_test again true e k = absurd (cc)
    by_test again false e k = ap (λ (b : Bool). cond b (Some (f d)) (record_of (map f ds) id)) e ∙ again k

time_none : (inv : Configuration) (w : World) (t id : ℕ) → record_of w.downtimes id ≡ None → record_of (advanced inv w t).downtimes id ≡ None
unfolding advanced drained fired after_event
time_none inv w t id h = each (happening w.downtimes t) w h
  where
    each : (ks : List Event) (v : World) → record_of v.downtimes id ≡ None → record_of (fold (fired inv) v ks).downtimes id ≡ None
    each [] v h = h
    each (k ∷ ks) v h = each ks (fired inv v k) (fates_none (changed k.id (fate_by k.moment k.kind)) (changed_only k.id (fate_by k.moment k.kind)) v.downtimes id h)

-- a downtime of this id, of this object
abbrev IsOfObject : List Downtime → (id object : ℕ) → Type 0
IsOfObject ds id object = (x : Downtime) × (record_of ds id ≡ Some x) × (x.object ≡ object)

time_of_object : (inv : Configuration) (w : World) (t id object : ℕ) → IsOfObject w.downtimes id object → IsOfObject (advanced inv w t).downtimes id object
unfolding advanced drained fired after_event
time_of_object inv w t id object h = each (happening w.downtimes t) w h
  where
    each : (ks : List Event) (v : World) → IsOfObject v.downtimes id object → IsOfObject (fold (fired inv) v ks).downtimes id object
    each [] v h = h
    each (k ∷ ks) v h =
        let f = changed k.id (fate_by k.moment k.kind) in
        each ks (fired inv v k) (f h.0, mapped_record f (changed_only k.id (fate_by k.moment k.kind)) v.downtimes id h.0 h.1, ap (λ (y : Downtime). y.object) (changed_only k.id (fate_by k.moment k.kind) h.0) ∙ h.2)

-- none of this id, or one that the act schedules
abbrev NewUnder : Configuration → (id : ℕ) → Act → List Downtime → Type 0
NewUnder inv id a ds = (record_of ds id ≡ None) ⊎ ((object : ℕ) × IsOfObject ds id object × Schedules inv object a)

moves_new : (inv : Configuration) (v b : World) (a : Act) (id : ℕ) → record_of v.downtimes id ≡ None → Moves inv v b a → NewUnder inv id a b.downtimes
unfolding all_started cancelled
moves_new inv v b a id none (inl same) = inl (ap (λ (ds : List Downtime). record_of ds id) same ∙ none)
moves_new inv v b a id none (inr (inl more)) = subst (NewUnder inv id a) (sym more.1) (by_new (record_of more.0 id) refl)
  where
    behind : record_of (v.downtimes ++ more.0) id ≡ record_of more.0 id
    behind = find-append (λ (d : Downtime). eqb d.id id) v.downtimes more.0 ∙ ap (λ (o : Option Downtime). option_or o (record_of more.0 id)) none

    by_new : (o : Option Downtime) → record_of more.0 id ≡ o → NewUnder inv id a (v.downtimes ++ more.0)
    by_new None e = inl (behind ∙ e)
    by_new (Some x) e = inr (x.object, (x, behind ∙ e, refl), known_downtime (λ (y : Downtime). Schedules inv y.object a) more.0 id x more.5 e)
moves_new inv v b a id none (inr (inr (inl begun))) = subst (NewUnder inv id a) (sym begun.4) (inl (fates_none (started begun.0 v.clock) (started_only begun.0 v.clock) v.downtimes id none))
moves_new inv v b a id none (inr (inr (inr gone))) = subst (NewUnder inv id a) (sym gone.4) (inl (fates_none (cancelled_record v.downtimes gone.1) (cancelled_only v.downtimes gone.1) v.downtimes id none))

effect_new : (inv : Configuration) (v : World) (e : Entry) (id : ℕ) → record_of v.downtimes id ≡ None
    → (record_of (effect inv v e).0.downtimes id ≡ None) ⊎ ((object : ℕ) × IsOfObject (effect inv v e).0.downtimes id object × AppliesOne inv e (effect inv v e).1 (Schedules inv object))
effect_new inv v e id none = by_named (named inv e.stamped.command) refl
  where
    by_act : (a : Act) → named inv e.stamped.command ≡ Ok a → (r : Result World Reason) → act inv v a ≡ r
        → (record_of (settled v e.sender e.place r).0.downtimes id ≡ None) ⊎ ((object : ℕ) × IsOfObject (settled v e.sender e.place r).0.downtimes id object × AppliesOne inv e (settled v e.sender e.place r).1 (Schedules inv object))
    by_act a n (Err why) h = inl none
    by_act a n (Ok b) h = elim (moves_new inv v b a id none (act_moves inv v b a h)) [
      | inl still ↦ inl still
      | inr new ↦ inr (new.0, new.1, record { applied = refl; does = a; asked_for = n; among = new.2 })
    ]

    by_named : (r : Result Act Reason) → named inv e.stamped.command ≡ r
        → (record_of (settled v e.sender e.place (act_on inv v r)).0.downtimes id ≡ None) ⊎ ((object : ℕ) × IsOfObject (settled v e.sender e.place (act_on inv v r)).0.downtimes id object × AppliesOne inv e (settled v e.sender e.place (act_on inv v r)).1 (Schedules inv object))
    by_named (Err why) n = inl none
    by_named (Ok a) n = by_act a n (act inv v a) refl

pub new_downtimes_are_asked : NewDowntimesAreAsked
unfolding acted
new_downtimes_are_asked inv w e d none there = elim (effect_new inv (found inv w e) e d.id (time_none inv w (moment_of w e) d.id none)) [
  | inl still ↦ absurd (let no = time_none inv (counted (effect inv (found inv w e) e).0) (moment_of w e) d.id still in cc)
  | inr new ↦ (
      let at_end = time_of_object inv (counted (effect inv (found inv w e) e).0) (moment_of w e) d.id new.0 new.1 in
      let one : at_end.0 ≡ d = (let it = at_end.1 in cc) in
      let is : new.0 ≡ d.object = sym (subst (λ (y : Downtime). y.object ≡ new.0) one at_end.2) in
      subst (λ (object : ℕ). AppliesOne inv e (effect inv (found inv w e) e).1 (Schedules inv object)) is new.2)
]
