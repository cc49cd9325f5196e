-- What entries leave is such as commands say: each part of the world, after each act and as time goes on.
use Rattle.std.proofs.Common.{◌≡◌, ℕ, ◌+◌, ◌<◌, ◌≤◌, Bool, true, false, not, ◌&&◌, eqb, if◌then◌else◌, List, [], ◌∷◌, ◌++◌, length, get_or, All, Some, None, is_some, IfSome, Ok, slice_get, rules, refl, ap, sym, ◌∙◌, subst, arith}
use Rattle.std.proofs.lemmas.List.Elements.{All-nil, All-cons, All-push, All-append, All-filter}
use Rattle.std.proofs.lemmas.Option.{slice_get-get_or}
use Rattle.cmd_types.specs.declared.limits.TheConstants.{GREATEST_NUMBER}
use Rattle.cmd_types.specs.Bytes.{Lacks}
use Rattle.mon_checks.specs.declared.status.Status.{Status}
use Rattle.mon_checks.specs.States.{IsCodeOf, status_after, change_by}
use Rattle.mon_downtime.specs.declared.downtime.Downtime.{Downtime}
use Rattle.mon_downtime.specs.declared.event.Event.{Event}
use Rattle.mon_downtime.specs.declared.plan.Plan.{Plan}
use Rattle.mon_downtime.specs.Records.{AreRecords, changed}
use Rattle.mon_downtime.specs.RecordLaws.{RecordsStayRecords}
use Rattle.mon_downtime.specs.Events.{fate_by, after_event}
use Rattle.mon_downtime.specs.Schedule.{fault_of, new_records}
use Rattle.mon_downtime.specs.Problem.{all_started, started}
use Rattle.mon_downtime.specs.Cancel.{cancelled, cancelled_record}
use Rattle.mon_notes.specs.declared.comment.Comment.{Comment}
use Rattle.mon_notes.specs.Comments.{CommentList, IsCommentList, CommentsStayInOrder, kept, with_comment, without_acknowledged}
use Rattle.mon_inventory.specs.declared.records.ObjectSpec.{ObjectSpec}
use Rattle.mon_inventory.specs.Configuration.{Configuration, passive_hosts_soft}
use Rattle.mon_inventory.specs.Lookups.{services_of}
use Rattle.mon_engine.specs.declared.object.Object.{Object}
use Rattle.mon_engine.specs.declared.object.Acknowledgement.TheVariants.{Unacknowledged}
use Rattle.mon_engine.specs.declared.objects.Setting.{Setting}
use Rattle.mon_engine.specs.declared.objects.Setting.TheVariants as settings
use Rattle.mon_engine.specs.Places.{changed_at, changed_each}
use Rattle.mon_engine.specs.Objects.{host_is_up, is_of_hard_problem, object_after, result_unacknowledges, after_told, reset, custom_number, with_setting, with_acknowledgement, acknowledgement_of}
use Rattle.mon_engine.specs.World.{World}
use Rattle.mon_engine.specs.Notices.{noticed}
use Rattle.mon_engine.specs.Results.{IsCodeAt, with_result, started_all, with_started, after_taken}
use Rattle.mon_engine.specs.Downtimes.{after_cancel, told_cancelled}
use Rattle.mon_engine.specs.Clock.{due_in, fired, advanced}
use Rattle.mon_engine.specs.ByClock.{told_by_clock}
use Rattle.mon_engine.specs.ByClockLaws.{ready_notice}
use Rattle.mon_engine.specs.Effects as acts
use Rattle.mon_engine.specs.Effects.{Act, act}
use Rattle.mon_engine.specs.Sound.{AreObjectStates}
use Rattle.mon_engine.specs.Saved.{IsSaid, IsSaidObject, IsSaidComment, IsSaidDowntime}
use Rattle.mon_engine.proofs.ActLemmas.{ok_is, schedule_cases, del_comment_cases, acknowledge_cases, unacknowledge_cases, del_downtime_cases, started_cases, started_leaves, noticed_cases, noticed_leaves, check_result_cases, custom_cases, act_leaves}
use Rattle.mon_engine.proofs.ByClockLemmas.{clock_cases}
use Rattle.mon_engine.proofs.ClockLemmas.{drained_keeps}
use Rattle.mon_engine.proofs.DowntimeLemmas.{changed_only, started_only, cancelled_only, fates_keep}
use Rattle.mon_engine.proofs.TargetLemmas.{IsSaidSetting, IsSaidPlan, IsSaidAct}
use Rattle.mon_engine.proofs.ListLemmas.{All-changed_at}

-- ---- comments

-- comments in order of their ids, such as commands say
pub record AreSaidNotes (notes : CommentList) : Type 0 where
  pub list : IsCommentList notes
  pub said : All IsSaidComment notes.comments

fewer_said : (order : CommentsStayInOrder) (keeps : Comment → Bool) (notes : CommentList) → AreSaidNotes notes → AreSaidNotes (kept keeps notes)
fewer_said order keeps notes h = record { list = (order notes h.list).1 keeps; said = All-filter keeps IsSaidComment notes.comments h.said }

more_said : (order : CommentsStayInOrder) (notes : CommentList) (object : ℕ) (ack persistent : Bool) (time : ℕ) (author text : List ℕ) → time ≤ GREATEST_NUMBER → IsSaid author text → AreSaidNotes notes → AreSaidNotes (with_comment notes object ack persistent time author text)
more_said order notes object ack persistent time author text small said h = record {
  list = (order notes h.list).0 object ack persistent time author text;
  said = All-push IsSaidComment notes.comments _ h.said (record { time = small; said = said });
}

acknowledged_fewer : (order : CommentsStayInOrder) (object : ℕ) (b : Bool) (notes : CommentList) → AreSaidNotes notes → AreSaidNotes (if b then without_acknowledged object notes else notes)
acknowledged_fewer order object true notes h = fewer_said order (λ c. not (eqb c.object object && c.ack && not c.persistent)) notes h
acknowledged_fewer order object false notes h = h

-- what an act leaves of them
pub notes_said : (order : CommentsStayInOrder) (inv : Configuration) (v w : World) (a : Act) → v.clock ≤ GREATEST_NUMBER → IsSaidAct inv a → act inv v a ≡ Ok w → AreSaidNotes v.notes → AreSaidNotes w.notes
unfolding act
notes_said order inv v w (acts.AddComment object persistent author text) small is e h = ok_is (λ (x : World). AreSaidNotes x.notes) _ _ w refl e (more_said order v.notes object false persistent v.clock author text small is h)
notes_said order inv v w (acts.DelComment kind id) small is e h = del_comment_cases (λ (x : World). AreSaidNotes x.notes) inv v w kind id e (λ there. fewer_said order (λ c. not (eqb c.id id)) v.notes h)
notes_said order inv v w (acts.DelAllComments object) small is e h = ok_is (λ (x : World). AreSaidNotes x.notes) _ _ w refl e (fewer_said order (λ c. not (eqb c.object object)) v.notes h)
notes_said order inv v w (acts.Acknowledge object sticky notify persistent author text) small is e h =
    let more = more_said order v.notes object true persistent v.clock author text small is h in
    acknowledge_cases (λ (x : World). AreSaidNotes x.notes) inv v w object sticky notify persistent author text e (λ o at problem. more) (λ o at problem. more)
notes_said order inv v w (acts.RemoveAcknowledgement object) small is e h =
    ok_is (λ (x : World). AreSaidNotes x.notes) _ _ w refl e (unacknowledge_cases (λ (x : World). AreSaidNotes x.notes) v object h (λ o at acked. acknowledged_fewer order object true v.notes h))
notes_said order inv v w (acts.CheckResult object code output) small is e h = check_result_cases (λ (x : World). AreSaidNotes x.notes) inv v w object code output e
    (λ spec o known at. (let u = with_result inv v object spec o code output in
    let left = ap (λ (x : World). x.notes) (noticed_leaves inv (with_started inv u object) object (change_by o.status code)) ∙ ap (λ (x : World). x.notes) (started_leaves inv u object) in
    subst AreSaidNotes (sym left) (acknowledged_fewer order object (result_unacknowledges o code) v.notes h)))
notes_said order inv v w acts.Restart small is e h = ok_is (λ (x : World). AreSaidNotes x.notes) _ _ w refl e (fewer_said order (λ c. c.persistent) v.notes h)
notes_said order inv v w a small is e h = subst AreSaidNotes (sym (ap (λ (x : World). x.notes) (act_leaves inv v w a e))) h

-- ---- downtimes

-- all records ever scheduled, such as commands say
pub record AreSaidDowntimes (ds : List Downtime) : Type 0 where
  pub records : AreRecords 0 ds
  pub said : All IsSaidDowntime ds

new_said : (n clock : ℕ) (objects : List ℕ) (plan : Plan) → IsSaid plan.author plan.text → All IsSaidDowntime (new_records n clock objects plan)
unfolding new_records
new_said n clock [] plan is = All-nil IsSaidDowntime
new_said n clock (object ∷ objects) plan is = All-cons IsSaidDowntime _ (new_records (n + 1) clock objects plan) is (new_said (n + 1) clock objects plan is)

-- what an act leaves of them
module _ (stay : RecordsStayRecords) where
  scheduled_said : (ds : List Downtime) (clock : ℕ) (objects : List ℕ) (plan : Plan) → clock ≤ GREATEST_NUMBER → IsSaidPlan plan → fault_of ds clock plan ≡ None → AreSaidDowntimes ds → AreSaidDowntimes (ds ++ new_records (length ds) clock objects plan)
  scheduled_said ds clock objects plan small is sound h = record {
    records = (stay ds h.records).with_new clock objects plan small is.0 sound;
    said = All-append IsSaidDowntime ds (new_records (length ds) clock objects plan) h.said (new_said (length ds) clock objects plan is.1);
  }

  started_said : (inv : Configuration) (w : World) (object : ℕ) → w.clock ≤ GREATEST_NUMBER → AreSaidDowntimes w.downtimes → AreSaidDowntimes (with_started inv w object).downtimes
  unfolding started_all all_started
  started_said inv w object small h = started_cases (λ (x : World). AreSaidDowntimes x.downtimes) inv w object h (record {
    records = (stay w.downtimes h.records).with_started object w.clock small;
    said = fates_keep IsSaidDowntime (λ d fate k. k) (started object w.clock) (started_only object w.clock) w.downtimes h.said;
  })

  cancelled_said : (ds : List Downtime) (id : ℕ) → AreSaidDowntimes ds → AreSaidDowntimes (cancelled ds id)
  unfolding cancelled
  cancelled_said ds id h = record { records = (stay ds h.records).with_cancelled id; said = fates_keep IsSaidDowntime (λ d fate k. k) (cancelled_record ds id) (cancelled_only ds id) ds h.said }

  pub downtimes_said : (inv : Configuration) (v w : World) (a : Act) → v.clock ≤ GREATEST_NUMBER → IsSaidAct inv a → act inv v a ≡ Ok w → AreSaidDowntimes v.downtimes → AreSaidDowntimes w.downtimes
  unfolding act after_cancel told_cancelled new_records
  downtimes_said inv v w (acts.CheckResult object code output) small is e h = check_result_cases (λ (x : World). AreSaidDowntimes x.downtimes) inv v w object code output e
      (λ spec o known at. (let u = with_result inv v object spec o code output in
      subst AreSaidDowntimes (sym (ap (λ (x : World). x.downtimes) (noticed_leaves inv (with_started inv u object) object (change_by o.status code)))) (started_said inv u object small h)))
  downtimes_said inv v w (acts.Schedule object plan) small is e h =
      schedule_cases (λ (x : World). AreSaidDowntimes x.downtimes) v w _ (fault_of v.downtimes v.clock plan) e (λ sound. scheduled_said v.downtimes v.clock (object ∷ []) plan small is sound h)
  downtimes_said inv v w (acts.ScheduleServices host plan) small is e h =
      schedule_cases (λ (x : World). AreSaidDowntimes x.downtimes) v w _ (fault_of v.downtimes v.clock plan) e (λ sound. scheduled_said v.downtimes v.clock (services_of inv.objects host) plan small is sound h)
  downtimes_said inv v w (acts.DelDowntime kind id) small is e h = del_downtime_cases (λ (x : World). AreSaidDowntimes x.downtimes) inv v w kind id e (λ there. cancelled_said v.downtimes id h)
  downtimes_said inv v w a small is e h = subst AreSaidDowntimes (sym (ap (λ (x : World). x.downtimes) (act_leaves inv v w a e))) h

  -- and what time leaves of them
  fired_said : (inv : Configuration) (w : World) (t : ℕ) (e : Event) → due_in w t ≡ Some e → AreSaidDowntimes w.downtimes → AreSaidDowntimes (fired inv w e).downtimes
  unfolding fired after_event
  fired_said inv w t e due h = record {
    records = (stay w.downtimes h.records).with_event t e due;
    said = fates_keep IsSaidDowntime (λ d fate k. k) (changed e.id (fate_by e.moment e.kind)) (changed_only e.id (fate_by e.moment e.kind)) w.downtimes h.said;
  }

  pub advanced_said : (inv : Configuration) (w : World) (t : ℕ) → AreSaidDowntimes w.downtimes → AreSaidDowntimes (advanced inv w t).downtimes
  unfolding advanced
  advanced_said inv w t h = drained_keeps inv (λ (x : World). AreSaidDowntimes x.downtimes) t (λ v e g d. fired_said inv v t e d g) w h

-- ---- objects

four : (service : Bool) (code : ℕ) → IsCodeOf service code → code < 4
four true code h = h
four false code h = omega (arith, h)

result_said : (o : Object) (clock code : ℕ) (output : List ℕ) (up soft : Bool) (max : ℕ) → clock ≤ GREATEST_NUMBER → IsCodeOf o.status.service code → Lacks 10 output → IsSaidObject o → IsSaidObject (object_after clock code output up soft max o)
result_said o clock code output up soft max small is line h = record {
  code = subst (λ (s : Bool). IsCodeOf s (status_after o.status code up soft max).code) (sym (kind_is o.status)) (subst (IsCodeOf o.status.service) (sym (code_is o.status)) is);
  last = h.last;
  notified = h.notified;
  not_before = delayed (change_by o.status code).code_changed;
  moments = record {
    checked = small;
    changed = later (change_by o.status code).code_changed;
    since = begun (is_of_hard_problem o.status) (is_of_hard_problem (status_after o.status code up soft max));
  };
  output = line;
}
  where
    kind_is : (s : Status) → (status_after s code up soft max).service ≡ s.service
    kind_is s = search rules

    code_is : (s : Status) → (status_after s code up soft max).code ≡ code
    code_is s = search rules

    delayed : (b : Bool) → IfSome (if b then None else o.not_before) (λ moment. moment ≤ GREATEST_NUMBER)
    delayed true = tt
    delayed false = h.not_before

    later : (b : Bool) → (if b then clock else o.moments.changed) ≤ GREATEST_NUMBER
    later true = small
    later false = h.moments.changed

    begun : (was is : Bool) → IfSome (if is then (if was then o.moments.since else Some clock) else None) (λ moment. moment ≤ GREATEST_NUMBER)
    begun was false = tt
    begun true true = h.moments.since
    begun false true = small

told_said : (clock : ℕ) (o : Object) → clock ≤ GREATEST_NUMBER → IsSaidObject o → IsSaidObject (after_told clock o)
told_said clock o small h = record { code = h.code; last = small; notified = four o.status.service o.status.code h.code; not_before = h.not_before; moments = h.moments; output = h.output }

reset_said : (o : Object) → IsSaidObject o → IsSaidObject (reset o)
reset_said o h = record { code = h.code; last = tt; notified = tt; not_before = tt; moments = h.moments; output = h.output }

acknowledgement_said : (a : _) (o : Object) → IsSaidObject o → IsSaidObject (with_acknowledgement a o)
acknowledgement_said a o h = record { code = h.code; last = h.last; notified = h.notified; not_before = h.not_before; moments = h.moments; output = h.output }

setting_said : (s : Setting) (o : Object) → IsSaidSetting s → IsSaidObject o → IsSaidObject (with_setting s o)
setting_said (settings.Passive on) o is h = record { code = h.code; last = h.last; notified = h.notified; not_before = h.not_before; moments = h.moments; output = h.output }
setting_said (settings.Notify on) o is h = record { code = h.code; last = h.last; notified = h.notified; not_before = h.not_before; moments = h.moments; output = h.output }
setting_said (settings.Delay moment) o is h = record { code = h.code; last = h.last; notified = h.notified; not_before = is; moments = h.moments; output = h.output }
setting_said (settings.Number n) o is h = record { code = h.code; last = h.last; notified = h.notified; not_before = h.not_before; moments = h.moments; output = h.output }

each_said : (os : List Object) (ks : List ℕ) (s : Setting) → IsSaidSetting s → All IsSaidObject os → All IsSaidObject (changed_each os ks (with_setting s))
unfolding changed_each
each_said os [] s is h = h
each_said os (k ∷ ks) s is h = each_said (changed_at os k (with_setting s)) ks s is (All-changed_at IsSaidObject os k (with_setting s) (λ o at x. setting_said s o is x) h)

noticed_said : (inv : Configuration) (w : World) (object : ℕ) (change : _) → w.clock ≤ GREATEST_NUMBER → All IsSaidObject w.objects → All IsSaidObject (noticed inv w object change).objects
noticed_said inv w object change small h = noticed_cases (λ (x : World). All IsSaidObject x.objects) inv w object change h
    (λ spec o known at. All-changed_at IsSaidObject w.objects object reset (λ o at x. reset_said o x) h)
    (λ spec o known at n e. All-changed_at IsSaidObject w.objects object (after_told w.clock) (λ o at x. told_said w.clock o small x) h)

taken_said : (inv : Configuration) (n : ℕ) (w : World) (object code : ℕ) (output : List ℕ) (spec : ObjectSpec) (o : Object) → w.clock ≤ GREATEST_NUMBER → AreObjectStates n inv.objects w.objects → IsCodeAt inv object code → Lacks 10 output
    → slice_get inv.objects object ≡ Some spec → All IsSaidObject w.objects → All IsSaidObject (after_taken inv w object code output spec o).objects
taken_said inv n w object code output spec o small states is line known h =
    let u = with_result inv w object spec o code output in
    let first : All IsSaidObject u.objects = All-changed_at IsSaidObject w.objects object (object_after w.clock code output (host_is_up w.objects spec) (passive_hosts_soft inv) spec.max)
    (λ x at said. result_said x w.clock code output _ _ _ small (subst (λ (b : Bool). IsCodeOf b code) (sym (states.each object spec x known at).kind) (is spec known)) line said) h in
    let started = started_leaves inv u object in
    noticed_said inv (with_started inv u object) object (change_by o.status code)
    (subst (λ (t : ℕ). t ≤ GREATEST_NUMBER) (sym (ap (λ (x : World). x.clock) started)) small)
    (subst (All IsSaidObject) (sym (ap (λ (x : World). x.objects) started)) first)

-- what an act leaves of them
pub objects_said : (inv : Configuration) (n : ℕ) (v w : World) (a : Act) → v.clock ≤ GREATEST_NUMBER → AreObjectStates n inv.objects v.objects → IsSaidAct inv a → act inv v a ≡ Ok w → All IsSaidObject v.objects → All IsSaidObject w.objects
unfolding act
objects_said inv n v w (acts.Acknowledge object sticky notify persistent author text) small states is e h =
    let after = All-changed_at IsSaidObject v.objects object (with_acknowledgement (acknowledgement_of sticky)) (λ o at x. acknowledgement_said (acknowledgement_of sticky) o x) h in
    acknowledge_cases (λ (x : World). All IsSaidObject x.objects) inv v w object sticky notify persistent author text e (λ o at problem. after) (λ o at problem. after)
objects_said inv n v w (acts.RemoveAcknowledgement object) small states is e h =
    ok_is (λ (x : World). All IsSaidObject x.objects) _ _ w refl e
    (unacknowledge_cases (λ (x : World). All IsSaidObject x.objects) v object h (λ o at acked. All-changed_at IsSaidObject v.objects object (with_acknowledgement Unacknowledged) (λ o at x. acknowledgement_said Unacknowledged o x) h))
objects_said inv n v w (acts.CheckResult object code output) small states is e h =
    check_result_cases (λ (x : World). All IsSaidObject x.objects) inv v w object code output e (λ spec o known at. taken_said inv n v object code output spec o small states is.0 is.1 known h)
objects_said inv n v w (acts.Set object setting) small states is e h =
    ok_is (λ (x : World). All IsSaidObject x.objects) _ _ w refl e (All-changed_at IsSaidObject v.objects object (with_setting setting) (λ o at x. setting_said setting o is x) h)
objects_said inv n v w (acts.SetServices host setting) small states is e h =
    ok_is (λ (x : World). All IsSaidObject x.objects) _ _ w refl e (each_said v.objects (services_of inv.objects host) setting is h)
objects_said inv n v w (acts.SendCustom object options) small states is e h =
    ok_is (λ (x : World). All IsSaidObject x.objects) _ _ w refl e
    (custom_cases (λ (x : World). All IsSaidObject x.objects) inv v object options h
    (λ spec o known at notice sent. All-changed_at IsSaidObject v.objects object (with_setting (settings.Number (custom_number options o))) (λ o2 at x. setting_said (settings.Number (custom_number options o)) o2 tt x) h))
objects_said inv n v w a small states is e h = subst (All IsSaidObject) (sym (ap (λ (x : World). x.objects) (act_leaves inv v w a e))) h

-- and what the clock leaves of them
pub clock_said : (inv : Configuration) (w : World) → w.clock ≤ GREATEST_NUMBER → All IsSaidObject w.objects → All IsSaidObject (told_by_clock inv w).objects
clock_said inv w small h = clock_cases inv w (λ (v : World). All IsSaidObject v.objects) h (λ v tells k d low. (let at = slice_get-get_or v.objects k d low in
    let there = slice_get-get_or w.objects k d (let long = tells.as_many in omega (arith, low, long)) in
    by (is_some (ready_notice inv w k)) (get_or v.objects k d) (get_or w.objects k d) (sym at ∙ tells.each k (get_or w.objects k d) there) (h k d (let long = tells.as_many in omega (arith, low, long)))))
  where
    by : (b : Bool) (o p : Object) → Some o ≡ Some (if b then after_told w.clock p else p) → IsSaidObject p → IsSaidObject o
    by true o p same said = (let is : after_told w.clock p ≡ o = cc in subst IsSaidObject is (told_said w.clock p small said))
    by false o p same said = (let is : p ≡ o = cc in subst IsSaidObject is said)
