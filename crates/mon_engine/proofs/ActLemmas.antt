-- An act by the cases of its rule, and what it leaves alone. A property holds of what an act leaves where it holds in each case.
use Rattle.std.proofs.Common.{◌≡◌, ℕ, Bool, true, false, eqb, List, ◌++◌, Option, Some, None, Result, Ok, Err, slice_get, if◌then◌else◌, refl, subst}
use Rattle.mon_checks.specs.declared.transition.Change.{Change}
use Rattle.mon_downtime.specs.declared.downtime.Downtime.{Downtime}
use Rattle.mon_downtime.specs.Records.{record_of}
use Rattle.mon_downtime.specs.Schedule.{Fault, fault_of}
use Rattle.mon_notes.specs.Comments.{comment_of, without, without_acknowledged}
use Rattle.mon_inventory.specs.declared.records.ObjectSpec.{ObjectSpec}
use Rattle.mon_inventory.specs.Configuration.{Configuration}
use Rattle.mon_engine.specs.declared.notices.Occasion.TheVariants.{Check}
use Rattle.mon_engine.specs.declared.object.Kind.{Kind}
use Rattle.mon_engine.specs.declared.notice.Notice.{Notice}
use Rattle.mon_engine.specs.declared.object.Acknowledgement.TheVariants.{Unacknowledged}
use Rattle.mon_engine.specs.declared.object.Object.{Object}
use Rattle.mon_engine.specs.declared.outcome.Reason.{Reason}
use Rattle.mon_engine.specs.declared.outcome.Reason.TheVariants.{UnknownHost, NoSuchComment, NoSuchDowntime, NotAProblem, PassiveOff}
use Rattle.mon_engine.specs.Places.{changed_at}
use Rattle.mon_engine.specs.Objects.{is_acknowledged, with_acknowledgement, custom_number}
use Rattle.mon_engine.specs.World.{World}
use Rattle.mon_engine.specs.Notices.{told, of_object, noticed, noticed_by, with_problem, with_recovery, problem_notice, recovery_notice, acknowledgement_notice, with_custom, custom_notice, after_custom, after_custom_of}
use Rattle.mon_engine.specs.Results.{is_taken, started_all, with_started, is_hard_problem, after_taken, after_result_of, after_check_result}
use Rattle.mon_engine.specs.Acknowledgements.{acknowledge, told_acknowledged, acknowledged_by, after_acknowledge, unacknowledged_by, after_unacknowledge, after_del_comment, has_comment_by}
use Rattle.mon_engine.specs.Downtimes.{with_records, reason_of, has_downtime_by, after_cancel, told_cancelled, after_del_downtime}
use Rattle.mon_engine.specs.Effects as acts
use Rattle.mon_engine.specs.Effects.{Act, act}

-- ---- what is answered

-- what is Ok is one thing
pub ok_is : {X E : Type 0} (P : X → Type 0) (r : Result X E) (x y : X) → r ≡ Ok x → r ≡ Ok y → P x → P y
ok_is P r x y e f p = let same : x ≡ y = cc in subst P same p

-- a refused effect has no world
not_ok : {X E : Type 0} (r : Result X E) (why : E) (y : X) → r ≡ Err why → r ≡ Ok y → ⊥
not_ok r why y e f = absurd (cc)

-- what is done where a test passes, and is rejected else
if_ok : (P : World → Type 0) (b : Bool) (v w : World) (why : Reason) → (if b then Ok v else Err why) ≡ Ok w → (b ≡ true → P v) → P w
if_ok P true v w why e h = ok_is P _ v w refl e (h refl)
if_ok P false v w why e h = absurd (not_ok _ why w refl e)

-- of an object that the inventory and the world have
abbrev pub AtObject : Configuration → World → (object : ℕ) → (ObjectSpec → Object → Type 0) → Type 0
AtObject inv w object Q = (spec : ObjectSpec) (o : Object) → slice_get inv.objects object ≡ Some spec → slice_get w.objects object ≡ Some o → Q spec o

-- ---- comments and acknowledgements

pub del_comment_cases : (P : World → Type 0) (inv : Configuration) (v w : World) (kind : Kind) (id : ℕ) → after_del_comment inv v kind id ≡ Ok w
    → (has_comment_by inv kind (comment_of v.notes.comments id) ≡ true → P (record v { notes = without id v.notes })) → P w
unfolding after_del_comment
del_comment_cases P inv v w kind id e h = if_ok P (has_comment_by inv kind (comment_of v.notes.comments id)) (record v { notes = without id v.notes }) w NoSuchComment e h

-- an acknowledgement of a problem, not told of and told of
pub acknowledge_cases : (P : World → Type 0) (inv : Configuration) (v w : World) (object sticky : ℕ) (notify persistent : Bool) (author text : List ℕ) → after_acknowledge inv v object sticky notify persistent author text ≡ Ok w
    → ((o : Object) → slice_get v.objects object ≡ Some o → eqb o.status.code 0 ≡ false → P (acknowledge v object sticky persistent author text))
    → ((o : Object) → slice_get v.objects object ≡ Some o → eqb o.status.code 0 ≡ false → P (told (acknowledge v object sticky persistent author text) (acknowledgement_notice inv (acknowledge v object sticky persistent author text) object)))
    → P w
unfolding after_acknowledge
acknowledge_cases P inv v w object sticky notify persistent author text e quiet tells = by_object (slice_get v.objects object) refl e
  where
    by_notify : (n : Bool) (o : Object) → slice_get v.objects object ≡ Some o → eqb o.status.code 0 ≡ false → P (told_acknowledged inv (acknowledge v object sticky persistent author text) object n)
    by_notify true o at problem = tells o at problem
    by_notify false o at problem = quiet o at problem

    by_code : (well : Bool) (o : Object) → slice_get v.objects object ≡ Some o → eqb o.status.code 0 ≡ well
        → (if well then Err NotAProblem else Ok (told_acknowledged inv (acknowledge v object sticky persistent author text) object notify)) ≡ Ok w → P w
    by_code true o at problem e = absurd (not_ok _ NotAProblem w refl e)
    by_code false o at problem e = ok_is P _ (told_acknowledged inv (acknowledge v object sticky persistent author text) object notify) w refl e (by_notify notify o at problem)

    by_object : (o : Option Object) → slice_get v.objects object ≡ o → acknowledged_by inv v object sticky notify persistent author text o ≡ Ok w → P w
    by_object None at e = absurd (not_ok _ UnknownHost w refl e)
    by_object (Some o) at e = by_code (eqb o.status.code 0) o at refl e

pub unacknowledge_cases : (P : World → Type 0) (v : World) (object : ℕ) → P v
    → ((o : Object) → slice_get v.objects object ≡ Some o → is_acknowledged o.acknowledgement ≡ true → P (record v { objects = changed_at v.objects object (with_acknowledgement Unacknowledged); notes = without_acknowledged object v.notes }))
    → P (after_unacknowledge v object)
unfolding after_unacknowledge
unacknowledge_cases P v object same removed = by_object (slice_get v.objects object) refl
  where
    by_acknowledged : (b : Bool) (o : Object) → slice_get v.objects object ≡ Some o → is_acknowledged o.acknowledgement ≡ b
        → P (if b then record v { objects = changed_at v.objects object (with_acknowledgement Unacknowledged); notes = without_acknowledged object v.notes } else v)
    by_acknowledged true o at is = removed o at is
    by_acknowledged false o at is = same

    by_object : (o : Option Object) → slice_get v.objects object ≡ o → P (unacknowledged_by v object o)
    by_object None at = same
    by_object (Some o) at = by_acknowledged (is_acknowledged o.acknowledgement) o at refl

pub unacknowledge_leaves : (w : World) (object : ℕ) → after_unacknowledge w object ≡ record w { objects = (after_unacknowledge w object).objects; notes = (after_unacknowledge w object).notes }
unacknowledge_leaves w object = unacknowledge_cases (λ (v : World). v ≡ record w { objects = v.objects; notes = v.notes }) w object refl (λ o at is. refl)

-- ---- downtimes

pub schedule_cases : (P : World → Type 0) (v w : World) (new : List Downtime) (fault : Option Fault) → with_records v new fault ≡ Ok w → (fault ≡ None → P (record v { downtimes = v.downtimes ++ new })) → P w
schedule_cases P v w new (Some why) e h = absurd (not_ok _ (reason_of why) w refl e)
schedule_cases P v w new None e h = ok_is P _ (record v { downtimes = v.downtimes ++ new }) w refl e (h refl)

pub del_downtime_cases : (P : World → Type 0) (inv : Configuration) (v w : World) (kind : Kind) (id : ℕ) → after_del_downtime inv v kind id ≡ Ok w
    → (has_downtime_by inv kind (record_of v.downtimes id) ≡ true → P (after_cancel inv v id)) → P w
unfolding after_del_downtime
del_downtime_cases P inv v w kind id e h = if_ok P (has_downtime_by inv kind (record_of v.downtimes id)) (after_cancel inv v id) w NoSuchDowntime e h

-- ---- check results

-- the flexible downtimes that wait for a problem, where there is one
pub started_cases : (P : World → Type 0) (inv : Configuration) (w : World) (object : ℕ) → P w → P (started_all inv w object) → P (with_started inv w object)
started_cases P inv w object same start = by_problem (is_hard_problem (slice_get w.objects object))
  where
    by_problem : (b : Bool) → P (if b then started_all inv w object else w)
    by_problem true = start
    by_problem false = same

pub started_leaves : (inv : Configuration) (w : World) (object : ℕ) → with_started inv w object ≡ record w { downtimes = (with_started inv w object).downtimes; notices = (with_started inv w object).notices }
unfolding started_all
started_leaves inv w object = started_cases (λ (v : World). v ≡ record w { downtimes = v.downtimes; notices = v.notices }) inv w object refl refl

-- a recovery, or a problem whose notice goes out
pub noticed_when : (P : World → Type 0) (inv : Configuration) (w : World) (object : ℕ) (change : Change) → P w
    → (change.recovered ≡ true → AtObject inv w object (λ spec o. P (with_recovery w object (recovery_notice inv w object change.hard_recovery spec o))))
    → (change.recovered ≡ false → AtObject inv w object (λ spec o. eqb o.status.code 0 ≡ false → (n : Notice) → problem_notice inv w Check object spec o ≡ Some n → P (with_problem w object (Some n))))
    → P (noticed inv w object change)
unfolding noticed
noticed_when P inv w object change same recovery problem = by_object (slice_get inv.objects object) (slice_get w.objects object) refl refl
  where
    by_notice : (spec : ObjectSpec) (o : Object) → change.recovered ≡ false → slice_get inv.objects object ≡ Some spec → slice_get w.objects object ≡ Some o → eqb o.status.code 0 ≡ false
        → (n : Option Notice) → problem_notice inv w Check object spec o ≡ n → P (with_problem w object n)
    by_notice spec o r known at bad None e = same
    by_notice spec o r known at bad (Some n) e = problem r spec o known at bad n e

    by_change : (recovered well : Bool) (spec : ObjectSpec) (o : Object) → change.recovered ≡ recovered → slice_get inv.objects object ≡ Some spec → slice_get w.objects object ≡ Some o → eqb o.status.code 0 ≡ well
        → P (if recovered then with_recovery w object (recovery_notice inv w object change.hard_recovery spec o) else (if well then w else with_problem w object (problem_notice inv w Check object spec o)))
    by_change true well spec o r known at code = recovery r spec o known at
    by_change false true spec o r known at code = same
    by_change false false spec o r known at code = by_notice spec o r known at code (problem_notice inv w Check object spec o) refl

    by_object : (s : Option ObjectSpec) (o : Option Object) → slice_get inv.objects object ≡ s → slice_get w.objects object ≡ o → P (of_object w (noticed_by inv w object change) s o)
    by_object None o known at = same
    by_object (Some spec) None known at = same
    by_object (Some spec) (Some o) known at = by_change change.recovered (eqb o.status.code 0) spec o refl known at refl

pub noticed_cases : (P : World → Type 0) (inv : Configuration) (w : World) (object : ℕ) (change : Change) → P w
    → AtObject inv w object (λ spec o. P (with_recovery w object (recovery_notice inv w object change.hard_recovery spec o)))
    → AtObject inv w object (λ spec o. (n : Notice) → problem_notice inv w Check object spec o ≡ Some n → P (with_problem w object (Some n)))
    → P (noticed inv w object change)
noticed_cases P inv w object change same recovery problem = noticed_when P inv w object change same (λ r. recovery) (λ r spec o known at bad. problem spec o known at)

pub noticed_leaves : (inv : Configuration) (w : World) (object : ℕ) (change : Change) → noticed inv w object change ≡ record w { objects = (noticed inv w object change).objects; notices = (noticed inv w object change).notices }
noticed_leaves inv w object change = noticed_cases (λ (v : World). v ≡ record w { objects = v.objects; notices = v.notices }) inv w object change refl (λ spec o known at. refl) (λ spec o known at n e. refl)

pub check_result_cases : (P : World → Type 0) (inv : Configuration) (v w : World) (object code : ℕ) (output : List ℕ) → after_check_result inv v object code output ≡ Ok w
    → AtObject inv v object (λ spec o. P (after_taken inv v object code output spec o)) → P w
unfolding after_check_result
check_result_cases P inv v w object code output e taken = by_object (slice_get inv.objects object) (slice_get v.objects object) refl refl e
  where
    by_object : (s : Option ObjectSpec) (o : Option Object) → slice_get inv.objects object ≡ s → slice_get v.objects object ≡ o → of_object (Err UnknownHost) (after_result_of inv v object code output) s o ≡ Ok w → P w
    by_object None o known at e = absurd (not_ok _ UnknownHost w refl e)
    by_object (Some spec) None known at e = absurd (not_ok _ UnknownHost w refl e)
    by_object (Some spec) (Some o) known at e = if_ok P (is_taken v.program spec o) (after_taken inv v object code output spec o) w PassiveOff e (λ may. taken spec o known at)

-- ---- custom notices

pub custom_cases : (P : World → Type 0) (inv : Configuration) (w : World) (object options : ℕ) → P w
    → AtObject inv w object (λ spec o. (n : Notice) → custom_notice inv w object (custom_number options o) options spec o ≡ Some n → P (with_custom w object (custom_number options o) (Some n)))
    → P (after_custom inv w object options)
unfolding after_custom
custom_cases P inv w object options same tells = by_object (slice_get inv.objects object) (slice_get w.objects object) refl refl
  where
    by_notice : (spec : ObjectSpec) (o : Object) → slice_get inv.objects object ≡ Some spec → slice_get w.objects object ≡ Some o → (n : Option Notice) → custom_notice inv w object (custom_number options o) options spec o ≡ n
        → P (with_custom w object (custom_number options o) n)
    by_notice spec o known at None e = same
    by_notice spec o known at (Some n) e = tells spec o known at n e

    by_object : (s : Option ObjectSpec) (o : Option Object) → slice_get inv.objects object ≡ s → slice_get w.objects object ≡ o → P (of_object w (after_custom_of inv w object options) s o)
    by_object None o known at = same
    by_object (Some spec) None known at = same
    by_object (Some spec) (Some o) known at = by_notice spec o known at (custom_notice inv w object (custom_number options o) options spec o) refl

pub custom_leaves : (inv : Configuration) (w : World) (object options : ℕ) → after_custom inv w object options ≡ record w { objects = (after_custom inv w object options).objects; notices = (after_custom inv w object options).notices }
custom_leaves inv w object options = custom_cases (λ (v : World). v ≡ record w { objects = v.objects; notices = v.notices }) inv w object options refl (λ spec o known at n e. refl)

-- ---- what acts leave alone

-- v, but for the parts of it that the act may change, which are those of w; of a check result each law has its own say
abbrev pub touched : Act → (v w : World) → World
touched (acts.AddComment _ _ _ _) v w = record v { notes = w.notes }
touched (acts.DelComment _ _) v w = record v { notes = w.notes }
touched (acts.DelAllComments _) v w = record v { notes = w.notes }
touched (acts.Acknowledge _ _ _ _ _ _) v w = record v { objects = w.objects; notes = w.notes; notices = w.notices }
touched (acts.RemoveAcknowledgement _) v w = record v { objects = w.objects; notes = w.notes }
touched (acts.CheckResult _ _ _) v w = w
touched (acts.Set _ _) v w = record v { objects = w.objects }
touched (acts.SetServices _ _) v w = record v { objects = w.objects }
touched (acts.SetAccepting _ _) v w = record v { program = w.program }
touched (acts.Schedule _ _) v w = record v { downtimes = w.downtimes }
touched (acts.ScheduleServices _ _) v w = record v { downtimes = w.downtimes }
touched (acts.DelDowntime _ _) v w = record v { downtimes = w.downtimes; notices = w.notices }
touched (acts.SetNotifications _) v w = record v { program = w.program }
touched (acts.SetContact _ _ _) v w = record v { contacts = w.contacts }
touched (acts.SendCustom _ _) v w = record v { objects = w.objects; notices = w.notices }
touched acts.Restart v w = record v { notes = w.notes }

pub act_leaves : (inv : Configuration) (v w : World) (a : Act) → act inv v a ≡ Ok w → w ≡ touched a v w
unfolding act after_cancel told_cancelled
act_leaves inv v w (acts.DelComment kind id) e = del_comment_cases (λ (y : World). y ≡ touched (acts.DelComment kind id) v y) inv v w kind id e (λ there. refl)
act_leaves inv v w (acts.Acknowledge object sticky notify persistent author text) e =
    acknowledge_cases (λ (y : World). y ≡ touched (acts.Acknowledge object sticky notify persistent author text) v y) inv v w object sticky notify persistent author text e (λ o at problem. refl) (λ o at problem. refl)
act_leaves inv v w (acts.RemoveAcknowledgement object) e = ok_is (λ (y : World). y ≡ touched (acts.RemoveAcknowledgement object) v y) _ _ w refl e (unacknowledge_leaves v object)
act_leaves inv v w (acts.CheckResult object code output) e = refl
act_leaves inv v w (acts.Schedule object plan) e = schedule_cases (λ (y : World). y ≡ touched (acts.Schedule object plan) v y) v w _ (fault_of v.downtimes v.clock plan) e (λ sound. refl)
act_leaves inv v w (acts.ScheduleServices host plan) e = schedule_cases (λ (y : World). y ≡ touched (acts.ScheduleServices host plan) v y) v w _ (fault_of v.downtimes v.clock plan) e (λ sound. refl)
act_leaves inv v w (acts.DelDowntime kind id) e = del_downtime_cases (λ (y : World). y ≡ touched (acts.DelDowntime kind id) v y) inv v w kind id e (λ there. refl)
act_leaves inv v w (acts.SendCustom object options) e = ok_is (λ (y : World). y ≡ touched (acts.SendCustom object options) v y) _ _ w refl e (custom_leaves inv v object options)
act_leaves inv v w a e = ok_is (λ (y : World). y ≡ touched a v y) _ _ w refl e refl
