-- No entry reads the lists of what was told, nor how many entries there were: what it does is the same behind any lists and counts.
use Rattle.std.proofs.Common.{◌≡◌, ℕ, ◌+◌, Bool, true, false, eqb, if◌then◌else◌, List, [], ◌∷◌, ◌++◌, Option, Some, None, Result, Ok, Err, slice_get, option_to_list, fold, length, drop, max, refl, ap, sym, ◌∙◌, append_assoc, append-nil, arith, length-append}
use Rattle.std.specs.List.{range_with_len}
use Rattle.std.proofs.Math.Seq.{drop-append_seam, drop-append-add}
use Rattle.cmd_types.specs.declared.entry.Entry.{Entry}
use Rattle.mon_checks.specs.declared.transition.Change.{Change}
use Rattle.mon_checks.specs.States.{change_by}
use Rattle.mon_downtime.specs.declared.downtime.Downtime.{Downtime}
use Rattle.mon_downtime.specs.declared.event.Event.{Event}
use Rattle.mon_downtime.specs.declared.event.EventKind.{EventKind}
use Rattle.mon_downtime.specs.declared.event.EventKind.TheVariants.{Ends, Expires, Starts}
use Rattle.mon_downtime.specs.Records.{record_of}
use Rattle.mon_downtime.specs.Schedule.{Fault, fault_of}
use Rattle.mon_downtime.specs.Clock.{happening}
use Rattle.mon_notes.specs.Comments.{comment_of}
use Rattle.mon_inventory.specs.declared.records.ObjectSpec.{ObjectSpec}
use Rattle.mon_inventory.specs.Configuration.{Configuration, tells_by_clock, recovers_the_told}
use Rattle.mon_engine.specs.declared.notices.Occasion.TheVariants.{Check, Clock}
use Rattle.mon_engine.specs.declared.object.Kind.{Kind}
use Rattle.mon_engine.specs.declared.notice.Notice.{Notice}
use Rattle.mon_engine.specs.declared.object.Object.{Object}
use Rattle.mon_engine.specs.declared.outcome.Outcome.{Outcome}
use Rattle.mon_engine.specs.declared.outcome.Outcome.TheVariants.{Rejected}
use Rattle.mon_engine.specs.declared.outcome.Reason.{Reason}
use Rattle.mon_engine.specs.declared.outcome.Reason.TheVariants.{UnknownHost}
use Rattle.mon_engine.specs.declared.outcome.Rejection.{Rejection}
use Rattle.mon_engine.specs.Places.{changed_at}
use Rattle.mon_engine.specs.Objects.{is_acknowledged, custom_number, reset}
use Rattle.mon_engine.specs.World.{World}
use Rattle.mon_engine.specs.Notices.{told, downtime_notice, acknowledgement_notice, problem_notice, recovery_notice, of_object, noticed, noticed_by, with_problem, told_problem_of, told_problem, custom_notice, with_custom, after_custom, after_custom_of}
use Rattle.mon_engine.specs.Results.{is_taken, is_hard_problem, started_all, with_started, with_result, after_taken, after_result_of, after_check_result}
use Rattle.mon_engine.specs.Acknowledgements.{acknowledge, told_acknowledged, acknowledged_by, after_acknowledge, unacknowledged_by, after_unacknowledge, after_del_comment, has_comment_by}
use Rattle.mon_engine.specs.Downtimes.{with_records, has_downtime_by, told_cancelled, after_cancel, after_del_downtime}
use Rattle.mon_engine.specs.Clock.{event_notice, with_event, fired, drained, advanced}
use Rattle.mon_engine.specs.Ends.{end_notice, is_end_due_of, is_news, owed_at, owes, owing, told_end, told_end_of, told_ends, told_ends_among, with_owed}
use Rattle.mon_notify.specs.Ends.{missed}
use Rattle.mon_engine.specs.ByClock.{told_among, told_by_clock}
use Rattle.mon_engine.specs.Effects as acts
use Rattle.mon_engine.specs.Effects.{Act, act, named}
use Rattle.mon_engine.specs.Step.{act_on, settled, effect, counted, closed_at, acted, step, stood}
use Rattle.mon_engine.specs.Telling.{with_lists, forgotten, TheListsAreNotRead}

-- a world with what was listed and counted before it
abbrev behind : List Rejection → List Notice → (entries before : ℕ) → World → World
behind rs ns many earlier w = record w { rejections = rs ++ w.rejections; notices = ns ++ w.notices; entries = many + w.entries; before = earlier + w.before }

-- what a refusal or a world is behind them
abbrev ok_behind : List Rejection → List Notice → (entries before : ℕ) → Result World Reason → Result World Reason
ok_behind rs ns many earlier (Ok w) = Ok (behind rs ns many earlier w)
ok_behind rs ns many earlier (Err why) = Err why

abbrev paired : World → Outcome → World × Outcome
paired w o = (w, o)

abbrev and_behind : List Rejection → List Notice → (entries before : ℕ) → World × Outcome → World × Outcome
and_behind rs ns many earlier p = paired (behind rs ns many earlier p.0) p.1

module _ (rs : List Rejection) (ns : List Notice) (many earlier : ℕ) where
  told_behind : (w : World) (n : Option Notice) → told (behind rs ns many earlier w) n ≡ behind rs ns many earlier (told w n)
  told_behind w n = ap (λ (xs : List Notice). record (behind rs ns many earlier w) { notices = xs }) (append_assoc ns w.notices (option_to_list n))

  -- ---- acts

  checked : (b : Bool) (w : World) (why : Reason) → (if b then Ok (behind rs ns many earlier w) else Err why) ≡ ok_behind rs ns many earlier (if b then Ok w else Err why)
  checked true w why = refl
  checked false w why = refl

  scheduled : (w : World) (new : List Downtime) (fault : Option Fault) → with_records (behind rs ns many earlier w) new fault ≡ ok_behind rs ns many earlier (with_records w new fault)
  scheduled w new (Some fault) = refl
  scheduled w new None = refl

  acknowledged : (inv : Configuration) (w : World) (object sticky : ℕ) (notify persistent : Bool) (author text : List ℕ) → after_acknowledge inv (behind rs ns many earlier w) object sticky notify persistent author text ≡ ok_behind rs ns many earlier (after_acknowledge inv w object sticky notify persistent author text)
  unfolding after_acknowledge acknowledgement_notice
  acknowledged inv w object sticky notify persistent author text = by_object (slice_get w.objects object)
    where
      by_notify : (n : Bool) → told_acknowledged inv (acknowledge (behind rs ns many earlier w) object sticky persistent author text) object n ≡ behind rs ns many earlier (told_acknowledged inv (acknowledge w object sticky persistent author text) object n)
      by_notify true = told_behind (acknowledge w object sticky persistent author text) (acknowledgement_notice inv (acknowledge w object sticky persistent author text) object)
      by_notify false = refl

      by_code : (well : Bool) (o : Object) (why : Reason) → (if well then Err why else Ok (told_acknowledged inv (acknowledge (behind rs ns many earlier w) object sticky persistent author text) object notify)) ≡ ok_behind rs ns many earlier (if well then Err why else Ok (told_acknowledged inv (acknowledge w object sticky persistent author text) object notify))
      by_code true o why = refl
      by_code false o why = ap (λ (v : World). Ok v) (by_notify notify)

      by_object : (o : Option Object) → acknowledged_by inv (behind rs ns many earlier w) object sticky notify persistent author text o ≡ ok_behind rs ns many earlier (acknowledged_by inv w object sticky notify persistent author text o)
      by_object None = refl
      by_object (Some o) = by_code (eqb o.status.code 0) o _

  unacknowledged : (w : World) (object : ℕ) → after_unacknowledge (behind rs ns many earlier w) object ≡ behind rs ns many earlier (after_unacknowledge w object)
  unfolding after_unacknowledge
  unacknowledged w object = by_object (slice_get w.objects object)
    where
      by_acknowledged : (b : Bool) (v u : World) → v ≡ behind rs ns many earlier u → (if b then v else behind rs ns many earlier w) ≡ behind rs ns many earlier (if b then u else w)
      by_acknowledged true v u e = e
      by_acknowledged false v u e = refl

      by_object : (o : Option Object) → unacknowledged_by (behind rs ns many earlier w) object o ≡ behind rs ns many earlier (unacknowledged_by w object o)
      by_object None = refl
      by_object (Some o) = by_acknowledged (is_acknowledged o.acknowledgement) _ _ refl

  cancelled_behind : (inv : Configuration) (w : World) (id : ℕ) → after_cancel inv (behind rs ns many earlier w) id ≡ behind rs ns many earlier (after_cancel inv w id)
  unfolding after_cancel told_cancelled downtime_notice
  cancelled_behind inv w id = ap (λ (xs : List Notice). record (behind rs ns many earlier (after_cancel inv w id)) { notices = xs }) (append_assoc ns w.notices _)

  deleted : (inv : Configuration) (w : World) (kind : Kind) (id : ℕ) → after_del_downtime inv (behind rs ns many earlier w) kind id ≡ ok_behind rs ns many earlier (after_del_downtime inv w kind id)
  unfolding after_del_downtime
  deleted inv w kind id = by_there (has_downtime_by inv kind (record_of w.downtimes id)) _
    where
      by_there : (b : Bool) (why : Reason) → (if b then Ok (after_cancel inv (behind rs ns many earlier w) id) else Err why) ≡ ok_behind rs ns many earlier (if b then Ok (after_cancel inv w id) else Err why)
      by_there true why = ap (λ (v : World). Ok v) (cancelled_behind inv w id)
      by_there false why = refl

  started_behind : (inv : Configuration) (w : World) (object : ℕ) → with_started inv (behind rs ns many earlier w) object ≡ behind rs ns many earlier (with_started inv w object)
  unfolding started_all downtime_notice
  started_behind inv w object = by_problem (is_hard_problem (slice_get w.objects object))
    where
      by_problem : (b : Bool) → (if b then started_all inv (behind rs ns many earlier w) object else behind rs ns many earlier w) ≡ behind rs ns many earlier (if b then started_all inv w object else w)
      by_problem true = ap (λ (xs : List Notice). record (behind rs ns many earlier (started_all inv w object)) { notices = xs }) (append_assoc ns w.notices _)
      by_problem false = refl

  problem_behind : (w : World) (object : ℕ) (n : Option Notice) → with_problem (behind rs ns many earlier w) object n ≡ behind rs ns many earlier (with_problem w object n)
  problem_behind w object None = refl
  problem_behind w object (Some n) = ap (λ (v : World). record v { objects = (with_problem w object (Some n)).objects }) (told_behind w (Some n))

  unless_well : (w : World) (object : ℕ) (well : Bool) (n : Option Notice) → (if well then behind rs ns many earlier w else with_problem (behind rs ns many earlier w) object n) ≡ behind rs ns many earlier (if well then w else with_problem w object n)
  unless_well w object true n = refl
  unless_well w object false n = problem_behind w object n

  noticed_behind : (inv : Configuration) (w : World) (object : ℕ) (change : Change) → noticed inv (behind rs ns many earlier w) object change ≡ behind rs ns many earlier (noticed inv w object change)
  unfolding noticed problem_notice recovery_notice
  noticed_behind inv w object change = by_object (slice_get inv.objects object) (slice_get w.objects object)
    where
      by_recovered : (b : Bool) (v u x y : World) → v ≡ behind rs ns many earlier u → x ≡ behind rs ns many earlier y → (if b then v else x) ≡ behind rs ns many earlier (if b then u else y)
      by_recovered true v u x y e f = e
      by_recovered false v u x y e f = f

      by_object : (spec : Option ObjectSpec) (o : Option Object) → of_object (behind rs ns many earlier w) (noticed_by inv (behind rs ns many earlier w) object change) spec o ≡ behind rs ns many earlier (of_object w (noticed_by inv w object change) spec o)
      by_object None o = refl
      by_object (Some spec) None = refl
      by_object (Some spec) (Some o) = by_recovered change.recovered _ _ _ _
          (ap (λ (v : World). record v { objects = changed_at w.objects object reset }) (told_behind w (recovery_notice inv w object change.hard_recovery spec o)))
          (unless_well w object (eqb o.status.code 0) (problem_notice inv w Check object spec o))

  told_problem_behind : (inv : Configuration) (w : World) (object : ℕ) → told_problem inv Clock (behind rs ns many earlier w) object ≡ behind rs ns many earlier (told_problem inv Clock w object)
  unfolding told_problem problem_notice
  told_problem_behind inv w object = by_object (slice_get inv.objects object) (slice_get w.objects object)
    where
      by_object : (spec : Option ObjectSpec) (o : Option Object) → of_object (behind rs ns many earlier w) (told_problem_of inv (behind rs ns many earlier w) Clock object) spec o ≡ behind rs ns many earlier (of_object w (told_problem_of inv w Clock object) spec o)
      by_object None o = refl
      by_object (Some spec) None = refl
      by_object (Some spec) (Some o) = unless_well w object (eqb o.status.code 0) (problem_notice inv w Clock object spec o)

  taken_behind : (inv : Configuration) (w : World) (object code : ℕ) (output : List ℕ) (spec : ObjectSpec) (o : Object) → after_taken inv (behind rs ns many earlier w) object code output spec o ≡ behind rs ns many earlier (after_taken inv w object code output spec o)
  taken_behind inv w object code output spec o =
      ap (λ (v : World). noticed inv v object (change_by o.status code)) (started_behind inv (with_result inv w object spec o code output) object)
      ∙ noticed_behind inv (with_started inv (with_result inv w object spec o code output) object) object (change_by o.status code)

  result_behind : (inv : Configuration) (w : World) (object code : ℕ) (output : List ℕ) → after_check_result inv (behind rs ns many earlier w) object code output ≡ ok_behind rs ns many earlier (after_check_result inv w object code output)
  unfolding after_check_result
  result_behind inv w object code output = by_object (slice_get inv.objects object) (slice_get w.objects object)
    where
      by_taken : (b : Bool) (why : Reason) (spec : ObjectSpec) (o : Object) → (if b then Ok (after_taken inv (behind rs ns many earlier w) object code output spec o) else Err why) ≡ ok_behind rs ns many earlier (if b then Ok (after_taken inv w object code output spec o) else Err why)
      by_taken true why spec o = ap (λ (v : World). Ok v) (taken_behind inv w object code output spec o)
      by_taken false why spec o = refl

      by_object : (spec : Option ObjectSpec) (o : Option Object) → of_object (Err UnknownHost) (after_result_of inv (behind rs ns many earlier w) object code output) spec o ≡ ok_behind rs ns many earlier (of_object (Err UnknownHost) (after_result_of inv w object code output) spec o)
      by_object None o = refl
      by_object (Some spec) None = refl
      by_object (Some spec) (Some o) = by_taken (is_taken w.program spec o) _ spec o

  custom_behind : (inv : Configuration) (w : World) (object options : ℕ) → after_custom inv (behind rs ns many earlier w) object options ≡ behind rs ns many earlier (after_custom inv w object options)
  unfolding after_custom custom_notice
  custom_behind inv w object options = by_object (slice_get inv.objects object) (slice_get w.objects object)
    where
      by_notice : (number : ℕ) (n : Option Notice) → with_custom (behind rs ns many earlier w) object number n ≡ behind rs ns many earlier (with_custom w object number n)
      by_notice number None = refl
      by_notice number (Some n) = ap (λ (v : World). record v { objects = (with_custom w object number (Some n)).objects }) (told_behind w (Some n))

      by_object : (spec : Option ObjectSpec) (o : Option Object) → of_object (behind rs ns many earlier w) (after_custom_of inv (behind rs ns many earlier w) object options) spec o ≡ behind rs ns many earlier (of_object w (after_custom_of inv w object options) spec o)
      by_object None o = refl
      by_object (Some spec) None = refl
      by_object (Some spec) (Some o) = by_notice (custom_number options o) (custom_notice inv w object (custom_number options o) options spec o)

  act_behind : (inv : Configuration) (w : World) (a : Act) → act inv (behind rs ns many earlier w) a ≡ ok_behind rs ns many earlier (act inv w a)
  unfolding act after_del_comment
  act_behind inv w (acts.AddComment object persistent author text) = refl
  act_behind inv w (acts.DelComment kind id) = checked (has_comment_by inv kind (comment_of w.notes.comments id)) _ _
  act_behind inv w (acts.DelAllComments object) = refl
  act_behind inv w (acts.Acknowledge object sticky notify persistent author text) = acknowledged inv w object sticky notify persistent author text
  act_behind inv w (acts.RemoveAcknowledgement object) = ap (λ (v : World). Ok v) (unacknowledged w object)
  act_behind inv w (acts.CheckResult object code output) = result_behind inv w object code output
  act_behind inv w (acts.Set object setting) = refl
  act_behind inv w (acts.SetServices host setting) = refl
  act_behind inv w (acts.SetAccepting kind on) = refl
  act_behind inv w (acts.Schedule object plan) = scheduled w _ (fault_of w.downtimes w.clock plan)
  act_behind inv w (acts.ScheduleServices host plan) = scheduled w _ (fault_of w.downtimes w.clock plan)
  act_behind inv w (acts.DelDowntime kind id) = deleted inv w kind id
  act_behind inv w (acts.SetNotifications on) = refl
  act_behind inv w (acts.SetContact contact kind on) = refl
  act_behind inv w (acts.SendCustom object options) = ap (λ (v : World). Ok v) (custom_behind inv w object options)
  act_behind inv w acts.Restart = refl

  -- ---- time

  fired_behind : (inv : Configuration) (w : World) (e : Event) → fired inv (behind rs ns many earlier w) e ≡ behind rs ns many earlier (fired inv w e)
  unfolding fired downtime_notice
  fired_behind inv w e = by_kind e.kind (record_of (with_event w e).downtimes e.id)
    where
      by_kind : (k : EventKind) (d : Option Downtime) → told (with_event (behind rs ns many earlier w) e) (event_notice inv (with_event (behind rs ns many earlier w) e) k e.moment d) ≡ behind rs ns many earlier (told (with_event w e) (event_notice inv (with_event w e) k e.moment d))
      by_kind k None = told_behind (with_event w e) None
      by_kind Ends (Some d) = told_behind (with_event w e) (event_notice inv (with_event w e) Ends e.moment (Some d))
      by_kind Expires (Some d) = told_behind (with_event w e) None
      by_kind Starts (Some d) = told_behind (with_event w e) (event_notice inv (with_event w e) Starts e.moment (Some d))

  drained_behind : (inv : Configuration) (w : World) (t : ℕ) → drained inv (behind rs ns many earlier w) t ≡ behind rs ns many earlier (drained inv w t)
  unfolding drained
  drained_behind inv w t = each w (happening w.downtimes t)
    where
      each : (v : World) (es : List Event) → fold (fired inv) (behind rs ns many earlier v) es ≡ behind rs ns many earlier (fold (fired inv) v es)
      each v [] = refl
      each v (e ∷ es) = ap (λ (x : World). fold (fired inv) x es) (fired_behind inv v e) ∙ each (fired inv v e) es

  advanced_behind : (inv : Configuration) (w : World) (t : ℕ) → advanced inv (behind rs ns many earlier w) t ≡ behind rs ns many earlier (advanced inv w t)
  unfolding advanced
  advanced_behind inv w t = ap (λ (v : World). record v { clock = max w.clock t }) (drained_behind inv w t)

  -- ---- an entry

  settled_behind : (w : World) (sender place : ℕ) (r : Result World Reason) → settled (behind rs ns many earlier w) sender place (ok_behind rs ns many earlier r) ≡ and_behind rs ns many earlier (settled w sender place r)
  settled_behind w sender place (Ok v) = refl
  settled_behind w sender place (Err why) = ap (λ (xs : List Rejection). paired (record (behind rs ns many earlier w) { rejections = xs }) (Rejected why)) (append_assoc rs w.rejections _)

  asked_behind : (inv : Configuration) (w : World) (r : Result Act Reason) → act_on inv (behind rs ns many earlier w) r ≡ ok_behind rs ns many earlier (act_on inv w r)
  asked_behind inv w (Ok a) = act_behind inv w a
  asked_behind inv w (Err why) = refl

  -- what an entry leaves once time has gone on to it
  entry_behind : (inv : Configuration) (v : World) (e : Entry) (t : ℕ) → closed_at inv t (effect inv (behind rs ns many earlier v) e) ≡ and_behind rs ns many earlier (closed_at inv t (effect inv v e))
  entry_behind inv v e t =
      let x = effect inv v e in
      let count : (many + x.0.entries) + 1 ≡ many + (x.0.entries + 1) = omega arith in
      ap (λ (r : Result World Reason). closed_at inv t (settled (behind rs ns many earlier v) e.sender e.place r)) (asked_behind inv v (named inv e.stamped.command))
      ∙ ap (closed_at inv t) (settled_behind v e.sender e.place (act_on inv v (named inv e.stamped.command)))
      ∙ ap (λ (k : ℕ). paired (advanced inv (record (behind rs ns many earlier x.0) { entries = k }) t) x.1) count
      ∙ ap (λ (w : World). paired w x.1) (advanced_behind inv (counted x.0) t)

  acted_behind : (inv : Configuration) (w : World) (e : Entry) → acted inv (behind rs ns many earlier w) e ≡ and_behind rs ns many earlier (acted inv w e)
  unfolding acted
  acted_behind inv w e =
      ap (λ (v : World). closed_at inv (max w.clock e.stamped.time) (effect inv v e)) (advanced_behind inv w (max w.clock e.stamped.time))
      ∙ entry_behind inv (advanced inv w (max w.clock e.stamped.time)) e (max w.clock e.stamped.time)

  clock_behind : (inv : Configuration) (w : World) → told_by_clock inv (behind rs ns many earlier w) ≡ behind rs ns many earlier (told_by_clock inv w)
  unfolding told_by_clock
  clock_behind inv w = by_option (tells_by_clock inv)
    where
      each : (v : World) (ks : List ℕ) → fold (told_problem inv Clock) (behind rs ns many earlier v) ks ≡ behind rs ns many earlier (fold (told_problem inv Clock) v ks)
      each v [] = refl
      each v (k ∷ ks) = ap (λ (x : World). fold (told_problem inv Clock) x ks) (told_problem_behind inv v k) ∙ each (told_problem inv Clock v k) ks

      by_option : (b : Bool) → (if b then told_among inv (behind rs ns many earlier w) (length inv.objects) else behind rs ns many earlier w) ≡ behind rs ns many earlier (if b then told_among inv w (length inv.objects) else w)
      by_option true = each w (range_with_len 0 (length inv.objects))
      by_option false = refl

  end_behind : (inv : Configuration) (w : World) (object : ℕ) → told_end inv (behind rs ns many earlier w) object ≡ behind rs ns many earlier (told_end inv w object)
  unfolding told_end
  end_behind inv w object = by_object (slice_get inv.objects object) (slice_get w.objects object)
    where
      by_due : (due news : Bool) (o : Object) (n : Option Notice) (left : List ℕ) → (if due then (if news then with_owed (told (behind rs ns many earlier w) n) object left else with_owed (behind rs ns many earlier w) object []) else behind rs ns many earlier w)
          ≡ behind rs ns many earlier (if due then (if news then with_owed (told w n) object left else with_owed w object []) else w)
      by_due true true o n left = ap (λ (v : World). record v { owed = (with_owed w object left).owed }) (told_behind w n)
      by_due true false o n left = refl
      by_due false news o n left = refl

      by_object : (spec : Option ObjectSpec) (o : Option Object) → of_object (behind rs ns many earlier w) (told_end_of inv (behind rs ns many earlier w) object) spec o ≡ behind rs ns many earlier (of_object w (told_end_of inv w object) spec o)
      by_object None o = refl
      by_object (Some spec) None = refl
      by_object (Some spec) (Some o) = by_due (is_end_due_of inv w object spec o) (is_news w.clock o) o (end_notice inv w object o (owed_at w object)) (missed inv w.contacts object (owed_at w object).contacts)

  ends_behind : (inv : Configuration) (w : World) → told_ends inv (behind rs ns many earlier w) ≡ behind rs ns many earlier (told_ends inv w)
  unfolding told_ends
  ends_behind inv w = by_option (recovers_the_told inv)
    where
      each : (v : World) (ks : List ℕ) → fold (told_end inv) (behind rs ns many earlier v) ks ≡ behind rs ns many earlier (fold (told_end inv) v ks)
      each v [] = refl
      each v (k ∷ ks) = ap (λ (x : World). fold (told_end inv) x ks) (end_behind inv v k) ∙ each (told_end inv v k) ks

      by_option : (b : Bool) → (if b then told_ends_among inv (behind rs ns many earlier w) (length inv.objects) else behind rs ns many earlier w) ≡ behind rs ns many earlier (if b then told_ends_among inv w (length inv.objects) else w)
      by_option true = each w (range_with_len 0 (length inv.objects))
      by_option false = refl

  owing_behind : (inv : Configuration) (before : List Notice) (v : World) → owing inv (length (ns ++ before)) (behind rs ns many earlier v) ≡ behind rs ns many earlier (owing inv (length before) v)
  unfolding owing
  owing_behind inv before v = by_option (recovers_the_told inv)
    where
      dropped : drop (length (ns ++ before)) (ns ++ v.notices) ≡ drop (length before) v.notices
      dropped = ap (λ (n : ℕ). drop n (ns ++ v.notices)) (length-append ns before) ∙ drop-append-add ns v.notices (length before)

      by_option : (b : Bool) → (if b then record (behind rs ns many earlier v) { owed = fold (owes inv) v.owed (drop (length (ns ++ before)) (ns ++ v.notices)) } else behind rs ns many earlier v)
          ≡ behind rs ns many earlier (if b then record v { owed = fold (owes inv) v.owed (drop (length before) v.notices) } else v)
      by_option true = ap (λ (xs : List Notice). record (behind rs ns many earlier v) { owed = fold (owes inv) v.owed xs }) dropped
      by_option false = refl

  pub step_behind : (inv : Configuration) (w : World) (e : Entry) → step inv (behind rs ns many earlier w) e ≡ and_behind rs ns many earlier (step inv w e)
  unfolding step
  step_behind inv w e =
      let v : World = (acted inv w e).0 in
      let o : Outcome = (acted inv w e).1 in
      let n : ℕ = length (ns ++ w.notices) in
      ap (λ (p : World × Outcome). paired (owing inv n (stood inv p.0)) p.1) (acted_behind inv w e)
      ∙ ap (λ (x : World). paired (owing inv n (told_by_clock inv x)) o) (ends_behind inv v)
      ∙ ap (λ (x : World). paired (owing inv n x) o) (clock_behind inv (told_ends inv v))
      ∙ ap (λ (x : World). paired x o) (owing_behind inv w.notices (stood inv v))

-- behind lists alone nothing is counted
uncounted : (rs : List Rejection) (ns : List Notice) (w : World) → with_lists rs ns w ≡ behind rs ns 0 0 w
uncounted rs ns w =
    let entries : w.entries ≡ 0 + w.entries = omega arith in
    let before : w.before ≡ 0 + w.before = omega arith in
    ap (λ (n : ℕ). record (with_lists rs ns w) { entries = n }) entries ∙ ap (λ (n : ℕ). record (with_lists rs ns w) { entries = 0 + w.entries; before = n }) before

rejoined : (v : World) → v ≡ behind v.rejections v.notices 0 0 (forgotten v)
rejoined v =
    ap (λ (xs : List Rejection). record v { rejections = xs }) (sym (append-nil v.rejections))
    ∙ ap (λ (xs : List Notice). record v { rejections = v.rejections ++ []; notices = xs }) (sym (append-nil v.notices))
    ∙ uncounted v.rejections v.notices (forgotten v)

-- what an entry does adds to the notices
pub acted_grows : (inv : Configuration) (w : World) (e : Entry) → (acted inv w e).0.notices ≡ w.notices ++ drop (length w.notices) (acted inv w e).0.notices
acted_grows inv w e =
    let new = (acted inv (forgotten w) e).0.notices in
    let is : (acted inv w e).0.notices ≡ w.notices ++ new = ap (λ p. p.0.notices) (ap (λ (v : World). acted inv v e) (rejoined w) ∙ acted_behind w.rejections w.notices 0 0 inv (forgotten w) e) in
    is ∙ ap (λ (x : List Notice). w.notices ++ x) (sym (ap (drop (length w.notices)) is ∙ drop-append_seam w.notices new))

-- no entry reads the lists
pub the_lists_are_not_read : TheListsAreNotRead
the_lists_are_not_read inv w e =
    ap (λ (v : World). step inv v e) (rejoined w)
    ∙ step_behind w.rejections w.notices 0 0 inv (forgotten w) e
    ∙ ap (λ (v : World). paired v (step inv (forgotten w) e).1) (sym (uncounted w.rejections w.notices (step inv (forgotten w) e).0))
