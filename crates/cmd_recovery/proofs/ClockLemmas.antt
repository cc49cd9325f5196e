-- The clock of a world is the greatest time of the entries that led to it, and of the clock before.
use Rattle.std.proofs.Common.{◌≡◌, ℕ, max, Bool, true, false, eqb, if◌then◌else◌, List, [], ◌∷◌, length, fold, Option, Some, None, Result, Ok, Err, refl, ◌∙◌, arith}
use Rattle.std.specs.Prelude.{slice_get}
use Rattle.std.specs.List.{range_with_len}
use Rattle.cmd_types.specs.declared.entry.Entry.{Entry}
use Rattle.cmd_journal.specs.Versions.{greatest_time}
use Rattle.mon_inventory.specs.declared.records.ObjectSpec.{ObjectSpec}
use Rattle.mon_inventory.specs.Configuration.{Configuration, recovers_the_told, tells_by_clock}
use Rattle.mon_engine.specs.declared.notice.Notice.{Notice}
use Rattle.mon_engine.specs.declared.object.Object.{Object}
use Rattle.mon_engine.specs.declared.outcome.Reason.{Reason}
use Rattle.mon_engine.specs.declared.outcome.Reason.TheVariants.{UnknownHost}
use Rattle.mon_engine.specs.Objects.{is_acknowledged, custom_number}
use Rattle.mon_engine.specs.World.{World}
use Rattle.mon_engine.specs.declared.notices.Occasion.TheVariants.{Check, Clock}
use Rattle.mon_engine.specs.Notices.{told, noticed, noticed_by, with_problem, with_recovery, problem_notice, recovery_notice, with_custom, custom_notice, after_custom, after_custom_of, of_object, told_problem, told_problem_of}
use Rattle.mon_engine.specs.ByClock.{told_among, told_by_clock}
use Rattle.mon_engine.specs.Results.{is_taken, started_all, with_started, with_result, is_hard_problem, after_taken, after_result_of, after_check_result}
use Rattle.mon_engine.specs.Acknowledgements.{acknowledge, told_acknowledged, acknowledged_by, after_acknowledge, unacknowledged_by, after_unacknowledge, after_del_comment}
use Rattle.mon_engine.specs.Downtimes.{with_records, after_cancel, told_cancelled, after_del_downtime}
use Rattle.mon_engine.specs.Effects as acts
use Rattle.mon_engine.specs.Effects.{Act, act, named}
use Rattle.mon_engine.specs.Clock.{advanced}
use Rattle.mon_engine.specs.Ends.{is_end_due_of, is_news, owing, told_end, told_end_of, told_ends, told_ends_among, with_owed}
use Rattle.mon_engine.specs.Step.{act_on, settled, counted, acted, step, stood, meaning_from}

-- what is done leaves this clock
abbrev Keeps : (clock : ℕ) → Result World Reason → Type 0
Keeps clock (Ok w) = w.clock ≡ clock
Keeps clock (Err why) = Unit {0}

if_ok : (clock : ℕ) (b : Bool) (w : World) (why : Reason) → w.clock ≡ clock → Keeps clock (if b then Ok w else Err why)
if_ok clock true w why is = is
if_ok clock false w why is = tt

if_err : (clock : ℕ) (b : Bool) (w : World) (why : Reason) → w.clock ≡ clock → Keeps clock (if b then Err why else Ok w)
if_err clock true w why is = tt
if_err clock false w why is = is

either_clock : (clock : ℕ) (b : Bool) (v w : World) → v.clock ≡ clock → w.clock ≡ clock → (if b then v else w).clock ≡ clock
either_clock clock true v w is also = is
either_clock clock false v w is also = also

started_clock : (inv : Configuration) (w : World) (object : ℕ) → (with_started inv w object).clock ≡ w.clock
unfolding started_all
started_clock inv w object = either_clock w.clock (is_hard_problem (slice_get w.objects object)) (started_all inv w object) w refl refl

problem_clock : (w : World) (object : ℕ) (n : Option Notice) → (with_problem w object n).clock ≡ w.clock
problem_clock w object None = refl
problem_clock w object (Some n) = refl

noticed_clock : (inv : Configuration) (w : World) (object : ℕ) (change : _) → (noticed inv w object change).clock ≡ w.clock
unfolding noticed
noticed_clock inv w object change = by_object (slice_get inv.objects object) (slice_get w.objects object)
  where
    by_object : (spec : Option ObjectSpec) (o : Option Object) → (of_object w (noticed_by inv w object change) spec o).clock ≡ w.clock
    by_object None o = refl
    by_object (Some spec) None = refl
    by_object (Some spec) (Some o) =
        either_clock w.clock change.recovered (with_recovery w object (recovery_notice inv w object change.hard_recovery spec o)) (if eqb o.status.code 0 then w else with_problem w object (problem_notice inv w Check object spec o)) refl
        (either_clock w.clock (eqb o.status.code 0) w (with_problem w object (problem_notice inv w Check object spec o)) refl (problem_clock w object (problem_notice inv w Check object spec o)))

result_clock : (inv : Configuration) (w : World) (object code : ℕ) (output : List ℕ) → Keeps w.clock (after_check_result inv w object code output)
unfolding after_check_result
result_clock inv w object code output = by_object (slice_get inv.objects object) (slice_get w.objects object)
  where
    by_object : (spec : Option ObjectSpec) (o : Option Object) → Keeps w.clock (of_object (Err UnknownHost) (after_result_of inv w object code output) spec o)
    by_object None o = tt
    by_object (Some spec) None = tt
    by_object (Some spec) (Some o) = if_ok w.clock (is_taken w.program spec o) (after_taken inv w object code output spec o) _ (noticed_clock inv (with_started inv (with_result inv w object spec o code output) object) object _ ∙ started_clock inv (with_result inv w object spec o code output) object)

acknowledged_clock : (inv : Configuration) (w : World) (object sticky : ℕ) (notify persistent : Bool) (author text : List ℕ) → Keeps w.clock (after_acknowledge inv w object sticky notify persistent author text)
unfolding after_acknowledge
acknowledged_clock inv w object sticky notify persistent author text = by_object (slice_get w.objects object)
  where
    by_object : (o : Option Object) → Keeps w.clock (acknowledged_by inv w object sticky notify persistent author text o)
    by_object None = tt
    by_object (Some o) = if_err w.clock (eqb o.status.code 0) (told_acknowledged inv (acknowledge w object sticky persistent author text) object notify) _ (either_clock w.clock notify (told (acknowledge w object sticky persistent author text) _) (acknowledge w object sticky persistent author text) refl refl)

unacknowledged_clock : (w : World) (object : ℕ) → (after_unacknowledge w object).clock ≡ w.clock
unfolding after_unacknowledge
unacknowledged_clock w object = by_object (slice_get w.objects object)
  where
    by_object : (o : Option Object) → (unacknowledged_by w object o).clock ≡ w.clock
    by_object None = refl
    by_object (Some o) = either_clock w.clock (is_acknowledged o.acknowledgement) _ w refl refl

custom_clock : (inv : Configuration) (w : World) (object options : ℕ) → (after_custom inv w object options).clock ≡ w.clock
unfolding after_custom
custom_clock inv w object options = by_object (slice_get inv.objects object) (slice_get w.objects object)
  where
    by_notice : (number : ℕ) (n : Option Notice) → (with_custom w object number n).clock ≡ w.clock
    by_notice number None = refl
    by_notice number (Some n) = refl

    by_object : (spec : Option ObjectSpec) (o : Option Object) → (of_object w (after_custom_of inv w object options) spec o).clock ≡ w.clock
    by_object None o = refl
    by_object (Some spec) None = refl
    by_object (Some spec) (Some o) = by_notice (custom_number options o) (custom_notice inv w object (custom_number options o) options spec o)

scheduled_clock : (w : World) (new : _) (fault : _) → Keeps w.clock (with_records w new fault)
scheduled_clock w new (Some why) = tt
scheduled_clock w new None = refl

-- no act moves the clock
act_clock : (inv : Configuration) (w : World) (a : Act) → Keeps w.clock (act inv w a)
unfolding act after_del_comment after_del_downtime after_cancel told_cancelled
act_clock inv w (acts.DelComment service id) = if_ok w.clock _ _ _ refl
act_clock inv w (acts.Acknowledge object sticky notify persistent author text) = acknowledged_clock inv w object sticky notify persistent author text
act_clock inv w (acts.RemoveAcknowledgement object) = unacknowledged_clock w object
act_clock inv w (acts.CheckResult object code output) = result_clock inv w object code output
act_clock inv w (acts.Schedule object plan) = scheduled_clock w _ _
act_clock inv w (acts.ScheduleServices host plan) = scheduled_clock w _ _
act_clock inv w (acts.DelDowntime service id) = if_ok w.clock _ _ _ refl
act_clock inv w (acts.SendCustom object options) = custom_clock inv w object options
act_clock inv w a = refl

-- an entry moves it to its time, where that is later
settled_clock : (w : World) (sender place : ℕ) (r : Result World Reason) → Keeps w.clock r → (settled w sender place r).0.clock ≡ w.clock
settled_clock w sender place (Ok v) is = is
settled_clock w sender place (Err why) is = refl

acted_clock : (inv : Configuration) (w : World) (r : Result Act Reason) → Keeps w.clock (act_on inv w r)
acted_clock inv w (Ok a) = act_clock inv w a
acted_clock inv w (Err why) = tt

advanced_clock : (inv : Configuration) (w : World) (t : ℕ) → (advanced inv w t).clock ≡ max w.clock t
unfolding advanced
advanced_clock inv w t = refl

-- the clock tells at the moment at which it stands
told_clock : (inv : Configuration) (w : World) (k : ℕ) → (told_problem inv Clock w k).clock ≡ w.clock
unfolding told_problem
told_clock inv w k = by_object (slice_get inv.objects k) (slice_get w.objects k)
  where
    by_notice : (b : Bool) (n : Option Notice) → (if b then w else with_problem w k n).clock ≡ w.clock
    by_notice true n = refl
    by_notice false None = refl
    by_notice false (Some n) = refl

    by_object : (s : Option ObjectSpec) (o : Option Object) → (of_object w (told_problem_of inv w Clock k) s o).clock ≡ w.clock
    by_object None o = refl
    by_object (Some spec) None = refl
    by_object (Some spec) (Some o) = by_notice (eqb o.status.code 0) (problem_notice inv w Clock k spec o)

each_told_clock : (inv : Configuration) (w : World) (ks : List ℕ) → (fold (told_problem inv Clock) w ks).clock ≡ w.clock
each_told_clock inv w [] = refl
each_told_clock inv w (k ∷ ks) = each_told_clock inv (told_problem inv Clock w k) ks ∙ told_clock inv w k

by_clock : (inv : Configuration) (w : World) → (told_by_clock inv w).clock ≡ w.clock
unfolding told_by_clock
by_clock inv w = by_option (tells_by_clock inv)
  where
    by_option : (b : Bool) → (if b then told_among inv w (length inv.objects) else w).clock ≡ w.clock
    by_option true = each_told_clock inv w (range_with_len 0 (length inv.objects))
    by_option false = refl

end_clock : (inv : Configuration) (w : World) (k : ℕ) → (told_end inv w k).clock ≡ w.clock
unfolding told_end
end_clock inv w k = by_object (slice_get inv.objects k) (slice_get w.objects k)
  where
    by_object : (s : Option ObjectSpec) (o : Option Object) → (of_object w (told_end_of inv w k) s o).clock ≡ w.clock
    by_object None o = refl
    by_object (Some spec) None = refl
    by_object (Some spec) (Some o) = either_clock w.clock (is_end_due_of inv w k spec o) _ w (either_clock w.clock (is_news w.clock o) _ (with_owed w k []) refl refl) refl

each_end_clock : (inv : Configuration) (w : World) (ks : List ℕ) → (fold (told_end inv) w ks).clock ≡ w.clock
each_end_clock inv w [] = refl
each_end_clock inv w (k ∷ ks) = each_end_clock inv (told_end inv w k) ks ∙ end_clock inv w k

ends_clock : (inv : Configuration) (w : World) → (told_ends inv w).clock ≡ w.clock
unfolding told_ends
ends_clock inv w = either_clock w.clock (recovers_the_told inv) (told_ends_among inv w (length inv.objects)) w (each_end_clock inv w (range_with_len 0 (length inv.objects))) refl

owing_clock : (inv : Configuration) (before : ℕ) (w : World) → (owing inv before w).clock ≡ w.clock
unfolding owing
owing_clock inv before w = either_clock w.clock (recovers_the_told inv) _ w refl refl

step_clock : (inv : Configuration) (w : World) (e : Entry) → (step inv w e).0.clock ≡ max w.clock e.stamped.time
unfolding step acted
step_clock inv w e =
    (let t = max w.clock e.stamped.time in
    let v = advanced inv w t in
    let done = (settled v e.sender e.place (act_on inv v (named inv e.stamped.command))).0 in
    let now : v.clock ≡ max w.clock t = advanced_clock inv w t in
    let same : done.clock ≡ v.clock = settled_clock v e.sender e.place (act_on inv v (named inv e.stamped.command)) (acted_clock inv v (named inv e.stamped.command)) in
    let later : (advanced inv (counted done) t).clock ≡ max done.clock t = advanced_clock inv (counted done) t in
    let u = advanced inv (counted done) t in
    let ends = ends_clock inv u in
    let told = by_clock inv (told_ends inv u) in
    let owed = owing_clock inv (length w.notices) (stood inv u) in
    omega (arith, now, same, later, ends, told, owed))

pub meaning_clock : (inv : Configuration) (w : World) (es : List Entry) → (meaning_from inv w es).clock ≡ max w.clock (greatest_time es)
unfolding meaning_from
meaning_clock inv w [] = omega arith
meaning_clock inv w (e ∷ es) = (let first = step_clock inv w e in let rest = meaning_clock inv (step inv w e).0 es in omega (arith, first, rest))
