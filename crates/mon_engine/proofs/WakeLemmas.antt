-- Where nothing but the clock changes, no object is ready before its moment; and what an entry does not touch is ready for
-- the same after it.
use Rattle.std.proofs.Common.{◌≡◌, inl, inr, ℕ, zero, suc, ◌+◌, ◌<◌, ◌≤◌, Bool, true, false, true≢false, not, ◌&&◌, ◌||◌, eqb, nat_lt, if◌then◌else◌, max, min, List, [], ◌∷◌, ◌++◌, length, map, Option, Some, None, is_some, cond, slice_get, Result, Ok, Err, refl, ap, sym, ◌∙◌, subst, arith}
use Rattle.std.specs.Prelude.{unwrap_or}
use Rattle.std.proofs.lemmas.Bool.{cases_lt, lt-ltb, eqb-true, eqb-false, ltb-true, leb-true, false_from_ne_true, ne_eqb}
use Rattle.std.specs.List.{fold, range_with_len}
use Rattle.std.proofs.lemmas.List.Sums.{fold-append, sum_by-append, sum_by-cons}
use Rattle.std.proofs.lemmas.Option.{same_Some}
use Rattle.mon_downtime.specs.declared.downtime.Downtime.{Downtime}
use Rattle.mon_downtime.specs.declared.event.Event.{Event}
use Rattle.mon_downtime.specs.declared.plan.Plan.{Plan}
use Rattle.mon_downtime.specs.Clock.{WhatIsDueHappens}
use Rattle.mon_downtime.specs.Problem.{all_started, started, started_by, waits_for}
use Rattle.mon_downtime.specs.Records.{depth_of, is_active}
use Rattle.mon_downtime.specs.Schedule.{Fault, fault_of, new_record, new_records}
use Rattle.cmd_types.specs.declared.entry.Entry.{Entry}
use Rattle.mon_checks.specs.declared.status.Status.{Status}
use Rattle.mon_checks.specs.States.{change_by}
use Rattle.mon_notes.specs.Comments.{without_acknowledged}
use Rattle.mon_inventory.specs.declared.records.ObjectSpec.{ObjectSpec}
use Rattle.mon_inventory.specs.Configuration.{Configuration, passive_hosts_soft, recovers_the_told, tells_by_clock}
use Rattle.mon_inventory.specs.Facts.{IsInventory}
use Rattle.mon_inventory.specs.Lookups.{services_of}
use Rattle.mon_notify.specs.declared.contacts.ContactSwitch.{ContactSwitch}
use Rattle.mon_notify.specs.declared.facts.Facts.{Facts}
use Rattle.mon_notify.specs.declared.letter.Letter.{Letter}
use Rattle.mon_notify.specs.declared.letter.Letter.TheVariants.{R}
use Rattle.mon_notify.specs.Ends.{reaches_one}
use Rattle.mon_notify.specs.Letters.{letter_of}
use Rattle.mon_notify.specs.Objects as option
use Rattle.mon_notify.specs.Recipients.{recipients}
use Rattle.mon_notify.specs.Viable.{is_delayed, is_due, is_of_code, is_over, have_gone_by, is_old, is_open, is_settled, problem_viable}
use Rattle.mon_engine.specs.declared.by_clock.HostView.{HostView}
use Rattle.mon_engine.specs.declared.by_clock.Touched.{Touched}
use Rattle.mon_engine.specs.declared.by_clock.Touched.TheVariants as touched
use Rattle.mon_engine.specs.declared.by_clock.TheConstants.{NEVER}
use Rattle.mon_engine.specs.declared.ends.Owed.{Owed}
use Rattle.mon_engine.specs.declared.notice.Notice.{Notice}
use Rattle.mon_engine.specs.declared.notice.Subject.{Subject}
use Rattle.mon_engine.specs.declared.notice.Word.TheVariants as words
use Rattle.mon_engine.specs.declared.notices.Occasion.TheVariants.{Clock}
use Rattle.mon_engine.specs.declared.object.Moments.{Moments}
use Rattle.mon_engine.specs.declared.object.Object.{Object}
use Rattle.mon_engine.specs.declared.object.Acknowledgement.TheVariants.{Unacknowledged}
use Rattle.mon_engine.specs.declared.object.Kind.{Kind}
use Rattle.mon_engine.specs.declared.object.Kind.TheVariants.{Host, Service}
use Rattle.mon_engine.specs.declared.objects.Setting.{Setting}
use Rattle.mon_engine.specs.declared.objects.Setting.TheVariants as settings
use Rattle.mon_engine.specs.declared.outcome.Reason.{Reason}
use Rattle.mon_engine.specs.Objects.{is_service, is_up, back_since, host_is_up, object_after, after_told, reset, custom_number, with_setting, with_acknowledgement, acknowledgement_of}
use Rattle.mon_engine.specs.Places.{changed_at}
use Rattle.mon_engine.specs.World.{World}
use Rattle.mon_engine.specs.Ends.{week, is_end_due, is_end_due_of, is_news, may_end, owed_at, owed_of, told_end, told_ends, told_ends_among}
use Rattle.mon_engine.specs.Notices.{told, of_object, facts, problem_facts, acknowledgement_notice, with_custom, to_someone, addressed, subject_of, problem_notice, problem_notice_by, with_problem, told_problem}
use Rattle.mon_engine.specs.Clock.{due_in, advanced}
use Rattle.mon_engine.specs.Downtimes.{with_records}
use Rattle.mon_engine.specs.Acknowledgements.{acknowledge, after_acknowledge}
use Rattle.mon_engine.specs.Effects as acts
use Rattle.mon_engine.specs.Effects.{Act, act, named}
use Rattle.mon_engine.specs.NoticeLaws.{is_service_at}
use Rattle.mon_engine.specs.Results.{with_result, started_all, with_started, after_taken}
use Rattle.mon_engine.specs.SavedLaws.{resumed}
use Rattle.mon_engine.specs.Telling.{forgotten}
use Rattle.mon_engine.specs.Step.{act_on, settled, effect, stood}
use Rattle.mon_engine.specs.Withheld.{next_problem, withheld_by, withheld_of}
use Rattle.mon_engine.specs.ByClock.{told_among, told_by_clock}
use Rattle.mon_engine.specs.ByClockLaws.{unless, ready_notice_of, ready_notice}
use Rattle.mon_engine.specs.Wakes.{is_steady, over_from, gone_from, settled_from, due_from, host_view, touches, wakes_by, wakes_of, stale_from, wakes, end_told, problem_told, told_one, IsAsReady, IsIdle, Untouched, Covers, IsQuietBut, IsQuiet}
use Rattle.mon_engine.proofs.ActLemmas.{ok_is, acknowledge_cases, unacknowledge_cases, started_cases, noticed_cases, check_result_cases, custom_cases, schedule_cases, act_leaves}
use Rattle.mon_engine.proofs.ByClockLemmas.{ready_is, told_problem_is, told_other, told_clock, range_more, none_beyond, none_is_ready, clock_on, clock_off, clock_leaves}
use Rattle.mon_engine.proofs.DowntimeLemmas.{waits_as}
use Rattle.mon_engine.proofs.EndLemmas.{no_end, end_clock, end_other, end_ready, ends_on, ends_off, ends_leave, left_ready, none_is_due, none_due_beyond, problem_due, clock_due}
use Rattle.mon_engine.proofs.EntryLemmas.{advanced_idle}
use Rattle.mon_engine.proofs.ListLemmas.{changed_other, changed_reads}

-- ---- when

-- a world at another clock
abbrev at_clock : World → ℕ → World
at_clock w c = record w { clock = c }

-- a notice that reaches nobody reaches nobody at another moment
no_one : (s t : Subject) (contacts : List ℕ) → to_someone s contacts ≡ None → to_someone t contacts ≡ None
no_one s t contacts e = by (nat_lt 0 (length contacts)) e
  where
    given : (b : Bool) → Subject → Option Notice
    given b x = if b then Some (record { subject = x; contacts = contacts }) else None

    by : (b : Bool) → given b s ≡ None → given b t ≡ None
    by true e = absurd (cc)
    by false e = refl

no_notice : (inv : Configuration) (w : World) (k c : ℕ) (o : Object) (l : Letter) (b : Bool) → problem_notice_by inv w k o l true ≡ None → problem_notice_by inv (at_clock w c) k o l b ≡ None
unfolding addressed
no_notice inv w k c o l true e = no_one (subject_of w.clock words.Problem k o (o.number + 1)) (subject_of c words.Problem k o (o.number + 1)) _ e
no_notice inv w k c o l false e = refl

left_false : (a b : Bool) → a ≡ false → (a && b) ≡ false
left_false false b e = refl
left_false true b e = absurd (cc)

right_false : (a b : Bool) → b ≡ false → (a && b) ≡ false
right_false false b e = refl
right_false true b e = e

-- a delay that is not over
still_delayed : (o : Option ℕ) (c : ℕ) → c < unwrap_or o 0 → not (is_delayed o c) ≡ false
still_delayed None c early = absurd (omega (arith, early))
still_delayed (Some m) c early = ap not (by (nat_lt c m) refl)
  where
    by : (b : Bool) → nat_lt c m ≡ b → b ≡ true
    by true e = refl
    by false e = absurd (true≢false (sym (lt-ltb c m early) ∙ e))

-- an interval that is not over
still_within : (o : Option ℕ) (interval c : ℕ) → c < over_from o interval → is_over o interval c ≡ false
still_within None interval c early = absurd (omega (arith, early))
still_within (Some last) interval c early = false_from_ne_true (is_over (Some last) interval c) (λ over. (let late = leb-true (last + interval) c over in absurd (omega (arith, late, early))))

not_due : (f : Facts) → f.volatile ≡ false → f.clock < due_from f → is_due f ≡ false
not_due f steady early = ap (λ (v : Bool). v || eqb f.number 0 || not (is_of_code f.notified f.code) || (nat_lt 0 f.interval && is_over f.last f.interval f.clock)) steady
    ∙ by_first (eqb f.number 0 || not (is_of_code f.notified f.code)) refl early
  where
    by_interval : (b : Bool) → eqb f.interval 0 ≡ b → f.clock < (if b then NEVER else over_from f.last f.interval) → (nat_lt 0 f.interval && is_over f.last f.interval f.clock) ≡ false
    by_interval true none e = left_false (nat_lt 0 f.interval) _ (false_from_ne_true (nat_lt 0 f.interval) (λ some. (let is = eqb-true f.interval 0 none in let more = ltb-true 0 f.interval some in absurd (omega (arith, is, more)))))
    by_interval false some e = right_false (nat_lt 0 f.interval) (is_over f.last f.interval f.clock) (still_within f.last f.interval f.clock e)

    by_first : (b : Bool) → (eqb f.number 0 || not (is_of_code f.notified f.code)) ≡ b → f.clock < (if b then 0 else (if eqb f.interval 0 then NEVER else over_from f.last f.interval))
        → (eqb f.number 0 || not (is_of_code f.notified f.code) || (nat_lt 0 f.interval && is_over f.last f.interval f.clock)) ≡ false
    by_first true first e = absurd (omega (arith, e))
    by_first false later e = ap (λ (b : Bool). b || (nat_lt 0 f.interval && is_over f.last f.interval f.clock)) later ∙ by_interval (eqb f.interval 0) refl e

-- seconds that have not gone by
still_young : (from seconds : Option ℕ) (c : ℕ) → c < gone_from from seconds → have_gone_by from seconds c ≡ false
still_young (Some from) (Some seconds) c early = false_from_ne_true (have_gone_by (Some from) (Some seconds) c) (λ over. (let late = leb-true (from + seconds) c over in absurd (omega (arith, late, early))))
still_young (Some from) None c early = absurd (omega (arith, early))
still_young None seconds c early = absurd (omega (arith, early))

not_settled : (f : Facts) → f.clock < settled_from f → is_settled f ≡ false
not_settled f early = by_number (eqb f.number 0) early
  where
    by_number : (b : Bool) → f.clock < (if b then gone_from f.above_back f.settle else 0) → (not b || have_gone_by f.above_back f.settle f.clock) ≡ false
    by_number true e = still_young f.above_back f.settle f.clock e
    by_number false e = absurd (omega (arith, e))

-- of an object that is not ready now
module _ (inv : Configuration) (w : World) (k c : ℕ) (from : w.clock ≤ c) where
  -- f are its facts at the world's clock
  by_facts : (f : Facts) (spec : ObjectSpec) (o : Object) → f ≡ problem_facts inv w Clock k spec o → problem_notice_by inv w k o (letter_of (is_service spec) o.status.code) (problem_viable f) ≡ None
      → c < wakes_by f → problem_notice_by inv (at_clock w c) k o (letter_of (is_service spec) o.status.code) (problem_viable (record f { clock = c })) ≡ None
  by_facts f spec o is none early = by_viable (problem_viable f) refl none early
    where
      l : Letter
      l = letter_of (is_service spec) o.status.code

      g : Facts
      g = record f { clock = c }

      from_then : ℕ
      from_then = max (max (unwrap_or f.not_before 0) (due_from f)) (max (gone_from f.since f.delay) (settled_from f))

      held : problem_viable g ≡ false → problem_notice_by inv (at_clock w c) k o l (problem_viable g) ≡ None
      held fails = ap (problem_notice_by inv (at_clock w c) k o l) fails

      -- the tests up to that of the interval, up to the delay, and all
      undue : (is_steady f && not (is_delayed f.not_before c) && is_due g) ≡ false → problem_viable g ≡ false
      undue fails = left_false _ (is_settled g) (left_false _ (is_old g) fails)

      by_time : c < from_then → problem_viable g ≡ false
      by_time low = elim (cases_lt c (unwrap_or f.not_before 0)) [
        | inl delayed ↦ undue (left_false _ (is_due g) (right_false (is_steady f) (not (is_delayed f.not_before c)) (still_delayed f.not_before c delayed)))
        | inr high ↦ elim (cases_lt c (due_from f)) [
          | inl soon ↦ undue (right_false _ (is_due g) (not_due g (ap (λ (x : Facts). x.volatile) is) soon))
          | inr due ↦ elim (cases_lt c (gone_from f.since f.delay)) [
            | inl young ↦ left_false _ (is_settled g) (right_false _ (is_old g) (still_young f.since f.delay c young))
            | inr old ↦ right_false _ (is_settled g) (not_settled g (omega (arith, low, high, due, old)))
          ]
        ]
      ]

      by_steady : (b : Bool) → is_steady f ≡ b → c < (if not b || false then NEVER else from_then) → problem_viable g ≡ false
      by_steady true steady low = by_time low
      by_steady false unsteady low = undue (left_false _ (is_due g) (left_false (is_steady f) (not (is_delayed f.not_before c)) unsteady))

      by_viable : (b : Bool) → problem_viable f ≡ b → problem_notice_by inv w k o l b ≡ None → c < (if not (is_steady f) || b then NEVER else from_then) → problem_notice_by inv (at_clock w c) k o l (problem_viable g) ≡ None
      by_viable true may nobody low = no_notice inv w k c o l (problem_viable g) nobody
      by_viable false may_not nobody low = held (by_steady (is_steady f) refl low)

  pub not_yet : ready_notice inv w k ≡ None → c < wakes inv w k → ready_notice inv (at_clock w c) k ≡ None
  unfolding ready_notice wakes problem_notice
  not_yet none early = by_object (slice_get inv.objects k) (slice_get w.objects k) none early
    where
      by_code : (b : Bool) (n m : Option Notice) → (if b then None else n) ≡ None → (b ≡ false → n ≡ None → m ≡ None) → (if b then None else m) ≡ None
      by_code true n m e h = refl
      by_code false n m e h = h refl e

      low_by : (b : Bool) (n : ℕ) → b ≡ false → c < (if b then NEVER else n) → c < n
      low_by false n e low = low
      low_by true n e low = absurd (cc)

      by_object : (s : Option ObjectSpec) (o : Option Object) → of_object None (ready_notice_of inv w k) s o ≡ None → c < of_object NEVER (λ spec o. min (wakes_of inv w k spec o) (stale_from w k o)) s o → of_object None (ready_notice_of inv (at_clock w c) k) s o ≡ None
      by_object None o e low = refl
      by_object (Some spec) None e low = refl
      by_object (Some spec) (Some o) e low = by_code (eqb o.status.code 0) (unless (withheld_of inv w Clock k spec o) (next_problem inv w k spec o)) (unless (withheld_of inv (at_clock w c) Clock k spec o) (next_problem inv (at_clock w c) k spec o)) e
          (λ bad quiet. sym (ready_is inv (at_clock w c) k spec o)
          ∙ by_facts (problem_facts inv w Clock k spec o) spec o refl (ready_is inv w k spec o ∙ quiet) (low_by (eqb o.status.code 0) (wakes_by (problem_facts inv w Clock k spec o)) bad (omega (arith, low))))

  -- an end that is not due now is not due before it is no news
  pub end_not_yet : is_end_due inv w k ≡ false → c < wakes inv w k → is_end_due inv (at_clock w c) k ≡ false
  unfolding is_end_due wakes
  end_not_yet none early = by_object (slice_get inv.objects k) (slice_get w.objects k) none early
    where
      owed : List ℕ
      owed = (owed_at w k).contacts

      -- it is news at both clocks
      by_parts : (spec : ObjectSpec) (o : Object) (some : Bool) → (eqb o.status.code 0 && nat_lt 0 (length owed)) ≡ some → (some && (not (is_news w.clock o) || (may_end inv w k spec o && reaches_one inv w.contacts k owed))) ≡ false
          → c < (if some then min (o.moments.changed + week) NEVER else NEVER) → (some && (not (is_news c o) || (may_end inv w k spec o && reaches_one inv w.contacts k owed))) ≡ false
      by_parts spec o false is e low = refl
      by_parts spec o true is e low = ap (λ (b : Bool). not b || (may_end inv w k spec o && reaches_one inv w.contacts k owed)) (lt-ltb c (o.moments.changed + week) (omega (arith, low)))
          ∙ sym (ap (λ (b : Bool). not b || (may_end inv w k spec o && reaches_one inv w.contacts k owed)) (lt-ltb w.clock (o.moments.changed + week) (omega (arith, low, from)))) ∙ e

      by_object : (s : Option ObjectSpec) (p : Option Object) → of_object false (is_end_due_of inv w k) s p ≡ false → c < of_object NEVER (λ spec o. min (wakes_of inv w k spec o) (stale_from w k o)) s p → of_object false (is_end_due_of inv (at_clock w c) k) s p ≡ false
      by_object None p e low = refl
      by_object (Some spec) None e low = refl
      by_object (Some spec) (Some o) e low = by_parts spec o (eqb o.status.code 0 && nat_lt 0 (length owed)) refl e (omega (arith, low))

  pub idle_yet : IsIdle inv w k → c < wakes inv w k → IsIdle inv (at_clock w c) k
  idle_yet idle early = record { problem = λ on. not_yet (idle.problem on) early; ending = λ on. end_not_yet (idle.ending on) early }

-- the moment by the facts of the object: of one with code 0, and of one in a problem
pub wakes_at : (inv : Configuration) (w : World) (k : ℕ) (spec : ObjectSpec) (o : Object) → slice_get inv.objects k ≡ Some spec → slice_get w.objects k ≡ Some o → wakes inv w k ≡ min (wakes_of inv w k spec o) (stale_from w k o)
unfolding wakes
wakes_at inv w k spec o known at =
    let f = λ (spec : ObjectSpec) (o : Object). min (wakes_of inv w k spec o) (stale_from w k o) in
    ap (λ (s : Option ObjectSpec). of_object NEVER f s (slice_get w.objects k)) known ∙ ap (of_object NEVER f (Some spec)) at

pub wakes_well : (inv : Configuration) (w : World) (k : ℕ) (spec : ObjectSpec) (o : Object) (m : ℕ) → slice_get inv.objects k ≡ Some spec → slice_get w.objects k ≡ Some o → eqb o.status.code 0 ≡ true → m ≡ stale_from w k o → m ≡ wakes inv w k
wakes_well inv w k spec o m known at good is = is ∙ sym (wakes_at inv w k spec o known at ∙ ap (λ (b : Bool). min (if b then NEVER else wakes_by (problem_facts inv w Clock k spec o)) (stale_from w k o)) good ∙ least (eqb o.status.code 0 && nat_lt 0 (length (owed_at w k).contacts)))
  where
    least : (b : Bool) → min NEVER (if b then min (o.moments.changed + week) NEVER else NEVER) ≡ (if b then min (o.moments.changed + week) NEVER else NEVER)
    least true = omega arith
    least false = omega arith

pub wakes_bad : (inv : Configuration) (w : World) (k : ℕ) (spec : ObjectSpec) (o : Object) (f : Facts) (m n : ℕ) → slice_get inv.objects k ≡ Some spec → slice_get w.objects k ≡ Some o → eqb o.status.code 0 ≡ false
    → f ≡ problem_facts inv w Clock k spec o → m ≡ wakes_by f → n ≡ stale_from w k o → min m n ≡ wakes inv w k
wakes_bad inv w k spec o f m n known at bad is first last =
    ap (λ (x : ℕ). min x n) (first ∙ ap wakes_by is) ∙ ap (min (wakes_by (problem_facts inv w Clock k spec o))) last
    ∙ sym (wakes_at inv w k spec o known at ∙ ap (λ (b : Bool). min (if b then NEVER else wakes_by (problem_facts inv w Clock k spec o)) (stale_from w k o)) bad)

-- ---- which

-- the started downtimes of an object leave the depths of others
started_depth : (x t : ℕ) (ds : List Downtime) (k : ℕ) → (k ≡ x → ⊥) → depth_of (map (started x t) ds) k ≡ depth_of ds k
started_depth x t [] k other = refl
started_depth x t (d ∷ ds) k other =
    sum_by-cons (λ (y : Downtime). cond (eqb y.object k && is_active y.fate) 1 0) (started x t d) (map (started x t) ds)
    ∙ ap (λ (n : ℕ). n + depth_of (map (started x t) ds) k) (by_waits (waits_for x t d) refl)
    ∙ ap (λ (n : ℕ). cond (eqb d.object k && is_active d.fate) 1 0 + n) (started_depth x t ds k other)
    ∙ sym (sum_by-cons (λ (y : Downtime). cond (eqb y.object k && is_active y.fate) 1 0) d ds)
  where
    elsewhere : waits_for x t d ≡ true → eqb d.object k ≡ false
    elsewhere waits = ne_eqb d.object k (λ same. other (sym same ∙ (waits_as x t d waits).0))

    by_waits : (b : Bool) → waits_for x t d ≡ b → cond (eqb (cond b (record d { fate = started_by t d }) d).object k && is_active (cond b (record d { fate = started_by t d }) d).fate) 1 0 ≡ cond {A = ℕ} (eqb d.object k && is_active d.fate) 1 0
    by_waits true waits = ap (λ (b : Bool). cond {A = ℕ} (b && true) 1 0) (elsewhere waits) ∙ sym (ap (λ (b : Bool). cond {A = ℕ} (b && is_active d.fate) 1 0) (elsewhere waits))
    by_waits false waits = refl

-- what the tests of a service read of its host is the same in two worlds
record IsSeenAs (v w : World) (h : ℕ) : Type 0 where
  up : is_up (slice_get v.objects h) ≡ is_up (slice_get w.objects h)
  depth : depth_of v.downtimes h ≡ depth_of w.downtimes h
  back : back_since (slice_get v.objects h) ≡ back_since (slice_get w.objects h)

-- two worlds in which the tests of a problem read the same
alike_ready : (inv : Configuration) (v w : World) (k c : ℕ) → v.program.notifications ≡ w.program.notifications → v.contacts ≡ w.contacts → slice_get v.objects k ≡ slice_get w.objects k → depth_of v.downtimes k ≡ depth_of w.downtimes k
    → ((spec : ObjectSpec) → slice_get inv.objects k ≡ Some spec → IsSeenAs v w spec.host_object) → ready_notice inv (at_clock v c) k ≡ ready_notice inv (at_clock w c) k
unfolding ready_notice
alike_ready inv v w k c on contacts at deep host = ap (of_object None (ready_notice_of inv (at_clock v c) k) (slice_get inv.objects k)) at ∙ by_object (slice_get inv.objects k) (slice_get w.objects k) refl
  where
    ready_with : ObjectSpec → Object → Bool → ℕ → ℕ → Bool → Option ℕ → List ContactSwitch → Option Notice
    ready_with spec o program_on depth host_depth up back switches =
        let reached : List ℕ = recipients inv switches k (o.number + 1) (letter_of (is_service spec) o.status.code) true in
        if eqb o.status.code 0 then None
        else unless (withheld_by (record (problem_facts inv (at_clock w c) Clock k spec o) {
          program_on = program_on;
          depth = depth;
          host_depth = if is_service spec then host_depth else 0;
          host_up = if is_service spec then up else true;
          above_back = if is_service spec then back else None;
        }) (nat_lt 0 (length reached)))
        (record { subject = subject_of c words.Problem k o (o.number + 1); contacts = reached })

    by_object : (s : Option ObjectSpec) (o : Option Object) → slice_get inv.objects k ≡ s → of_object None (ready_notice_of inv (at_clock v c) k) s o ≡ of_object None (ready_notice_of inv (at_clock w c) k) s o
    by_object None o known = refl
    by_object (Some spec) None known = refl
    by_object (Some spec) (Some o) known =
        let h = spec.host_object in
        let of_host = host spec known in
        ap (λ (b : Bool). ready_with spec o b (depth_of v.downtimes k) (depth_of v.downtimes h) (is_up (slice_get v.objects h)) (back_since (slice_get v.objects h)) v.contacts) on
        ∙ ap (λ (n : ℕ). ready_with spec o w.program.notifications n (depth_of v.downtimes h) (is_up (slice_get v.objects h)) (back_since (slice_get v.objects h)) v.contacts) deep
        ∙ ap (λ (n : ℕ). ready_with spec o w.program.notifications (depth_of w.downtimes k) n (is_up (slice_get v.objects h)) (back_since (slice_get v.objects h)) v.contacts) of_host.depth
        ∙ ap (λ (b : Bool). ready_with spec o w.program.notifications (depth_of w.downtimes k) (depth_of w.downtimes h) b (back_since (slice_get v.objects h)) v.contacts) of_host.up
        ∙ ap (λ (m : Option ℕ). ready_with spec o w.program.notifications (depth_of w.downtimes k) (depth_of w.downtimes h) (is_up (slice_get w.objects h)) m v.contacts) of_host.back
        ∙ ap (ready_with spec o w.program.notifications (depth_of w.downtimes k) (depth_of w.downtimes h) (is_up (slice_get w.objects h)) (back_since (slice_get w.objects h))) contacts

-- two worlds in which the tests of an end read the same
alike_due : (inv : Configuration) (v w : World) (k c : ℕ) → v.program.notifications ≡ w.program.notifications → v.contacts ≡ w.contacts → slice_get v.objects k ≡ slice_get w.objects k → depth_of v.downtimes k ≡ depth_of w.downtimes k
    → slice_get v.owed k ≡ slice_get w.owed k → ((spec : ObjectSpec) → slice_get inv.objects k ≡ Some spec → depth_of v.downtimes spec.host_object ≡ depth_of w.downtimes spec.host_object)
    → is_end_due inv (at_clock v c) k ≡ is_end_due inv (at_clock w c) k
unfolding is_end_due
alike_due inv v w k c on contacts at deep owed host = ap (of_object false (is_end_due_of inv (at_clock v c) k) (slice_get inv.objects k)) at ∙ by_object (slice_get inv.objects k) (slice_get w.objects k) refl
  where
    due_with : ObjectSpec → Object → Bool → ℕ → ℕ → List ContactSwitch → Option Owed → Bool
    due_with spec o program_on depth host_depth switches x =
        (eqb o.status.code 0) && nat_lt 0 (length (owed_of x).contacts)
        && (not (is_news c o) || (is_open (record (facts inv (at_clock w c) k spec o R) { program_on = program_on; depth = depth; host_depth = if is_service spec then host_depth else 0 }) && reaches_one inv switches k (owed_of x).contacts))

    by_object : (s : Option ObjectSpec) (p : Option Object) → slice_get inv.objects k ≡ s → of_object false (is_end_due_of inv (at_clock v c) k) s p ≡ of_object false (is_end_due_of inv (at_clock w c) k) s p
    by_object None p known = refl
    by_object (Some spec) None known = refl
    by_object (Some spec) (Some o) known =
        let h = spec.host_object in
        ap (λ (b : Bool). due_with spec o b (depth_of v.downtimes k) (depth_of v.downtimes h) v.contacts (slice_get v.owed k)) on
        ∙ ap (λ (n : ℕ). due_with spec o w.program.notifications n (depth_of v.downtimes h) v.contacts (slice_get v.owed k)) deep
        ∙ ap (λ (n : ℕ). due_with spec o w.program.notifications (depth_of w.downtimes k) n v.contacts (slice_get v.owed k)) (host spec known)
        ∙ ap (λ (cs : List ContactSwitch). due_with spec o w.program.notifications (depth_of w.downtimes k) (depth_of w.downtimes h) cs (slice_get v.owed k)) contacts
        ∙ ap (due_with spec o w.program.notifications (depth_of w.downtimes k) (depth_of w.downtimes h) w.contacts) owed

-- two worlds in which the tests of an object read the same
alike : (inv : Configuration) (v w : World) (k c : ℕ) → v.program.notifications ≡ w.program.notifications → v.contacts ≡ w.contacts → slice_get v.objects k ≡ slice_get w.objects k → depth_of v.downtimes k ≡ depth_of w.downtimes k
    → slice_get v.owed k ≡ slice_get w.owed k → ((spec : ObjectSpec) → slice_get inv.objects k ≡ Some spec → IsSeenAs v w spec.host_object)
    → IsAsReady inv (at_clock w c) (at_clock v c) k
alike inv v w k c on contacts at deep owed host = record { problem = alike_ready inv v w k c on contacts at deep host; ending = alike_due inv v w k c on contacts at deep owed (λ spec known. (host spec known).depth) }

-- all but the object x is as it was
record IsNear (x : ℕ) (v w : World) : Type 0 where
  on : w.program.notifications ≡ v.program.notifications
  contacts : w.contacts ≡ v.contacts
  others : (k : ℕ) → (k ≡ x → ⊥) → slice_get w.objects k ≡ slice_get v.objects k
  depths : (k : ℕ) → (k ≡ x → ⊥) → depth_of w.downtimes k ≡ depth_of v.downtimes k
  owed : w.owed ≡ v.owed

-- and, where it is a host, what the tests of its services read
covers_near : (inv : Configuration) (v w : World) (x : ℕ) → IsInventory inv → IsNear x v w
    → ((spec : ObjectSpec) → slice_get inv.objects x ≡ Some spec → is_service spec ≡ false → IsSeenAs w v x)
    → Covers inv v w (touched.One x)
covers_near inv v w x sound near own k other c = alike inv w v k c near.on near.contacts (near.others k other) (near.depths k other) (ap (λ (xs : List Owed). slice_get xs k) near.owed) by_host
  where
    by_host : (spec : ObjectSpec) → slice_get inv.objects k ≡ Some spec → IsSeenAs w v spec.host_object
    by_host spec known = by (eqb spec.host_object x) refl
      where
        by : (b : Bool) → eqb spec.host_object x ≡ b → IsSeenAs w v spec.host_object
        by false differs =
            let other = eqb-false spec.host_object x differs in
            record { up = ap is_up (near.others spec.host_object other); depth = near.depths spec.host_object other; back = ap back_since (near.others spec.host_object other) }
        by true is =
            let same = eqb-true spec.host_object x is in
            let stands = (sound.objects k spec known).host_stands in
            subst (IsSeenAs w v) (sym same) (own stands.element (ap (slice_get inv.objects) (sym same) ∙ stands.is) (ap is_some stands.holds.0))

-- one object is changed, and its status and its moments stay
covers_changed : (inv : Configuration) (v w : World) (x : ℕ) (f : Object → Object) → IsInventory inv → ((o : Object) → ((f o).status ≡ o.status) × ((f o).moments ≡ o.moments)) → w.objects ≡ changed_at v.objects x f → w.downtimes ≡ v.downtimes → w.program.notifications ≡ v.program.notifications
    → w.contacts ≡ v.contacts → w.owed ≡ v.owed → Covers inv v w (touched.One x)
covers_changed inv v w x f sound keeps objects downtimes on contacts owed = covers_near inv v w x sound
    (record {
      on = on;
      contacts = contacts;
      others = λ k other. ap (λ (os : List Object). slice_get os k) objects ∙ changed_other v.objects x k f (λ e. other (sym e));
      depths = λ k other. ap (λ (ds : List Downtime). depth_of ds k) downtimes;
      owed = owed;
    })
    (λ spec known host. record {
      up = ap (λ (os : List Object). is_up (slice_get os x)) objects ∙ changed_reads is_up v.objects x x f (λ o. ap (λ (s : Status). eqb s.code 0) (keeps o).0);
      depth = ap (λ (ds : List Downtime). depth_of ds x) downtimes;
      back = ap (λ (os : List Object). back_since (slice_get os x)) objects
          ∙ changed_reads back_since v.objects x x f (λ o. ap (λ (s : Status). if eqb s.code 0 then Some (f o).moments.changed else None) (keeps o).0 ∙ ap (λ (m : Moments). if eqb o.status.code 0 then Some m.changed else None) (keeps o).1);
    })

-- ---- acts

covers_acknowledged : (inv : Configuration) (v w : World) (x sticky : ℕ) (notify persistent : Bool) (author text : List ℕ) → IsInventory inv → after_acknowledge inv v x sticky notify persistent author text ≡ Ok w → Covers inv v w (touched.One x)
covers_acknowledged inv v w x sticky notify persistent author text sound e =
    let f = with_acknowledgement (acknowledgement_of sticky) in
    let after = acknowledge v x sticky persistent author text in
    acknowledge_cases (λ (y : World). Covers inv v y (touched.One x)) inv v w x sticky notify persistent author text e
    (λ o at problem. covers_changed inv v after x f sound (λ p. (refl, refl)) refl refl refl refl refl)
    (λ o at problem. covers_changed inv v (told after (acknowledgement_notice inv after x)) x f sound (λ p. (refl, refl)) refl refl refl refl refl)

covers_unacknowledged : (inv : Configuration) (v w : World) (x : ℕ) → IsInventory inv → act inv v (acts.RemoveAcknowledgement x) ≡ Ok w → Covers inv v w (touched.One x)
unfolding act
covers_unacknowledged inv v w x sound e = ok_is (λ (y : World). Covers inv v y (touched.One x)) _ _ w refl e
    (unacknowledge_cases (λ (y : World). Covers inv v y (touched.One x)) v x (λ k other c. record { problem = refl; ending = refl }) (λ o at is. covers_changed inv v (record v { objects = changed_at v.objects x (with_acknowledgement Unacknowledged); notes = without_acknowledged x v.notes }) x (with_acknowledgement Unacknowledged) sound (λ p. (refl, refl)) refl refl refl refl refl))

setting_keeps : (s : Setting) (o : Object) → ((with_setting s o).status ≡ o.status) × ((with_setting s o).moments ≡ o.moments)
setting_keeps (settings.Passive on) o = (refl, refl)
setting_keeps (settings.Notify on) o = (refl, refl)
setting_keeps (settings.Delay moment) o = (refl, refl)
setting_keeps (settings.Number n) o = (refl, refl)

covers_set : (inv : Configuration) (v w : World) (x : ℕ) (s : Setting) → IsInventory inv → act inv v (acts.Set x s) ≡ Ok w → Covers inv v w (touched.One x)
unfolding act
covers_set inv v w x s sound e = ok_is (λ (y : World). Covers inv v y (touched.One x)) _ _ w refl e (covers_changed inv v (record v { objects = changed_at v.objects x (with_setting s) }) x (with_setting s) sound (setting_keeps s) refl refl refl refl refl)

covers_custom : (inv : Configuration) (v w : World) (x options : ℕ) → IsInventory inv → act inv v (acts.SendCustom x options) ≡ Ok w → Covers inv v w (touched.One x)
unfolding act
covers_custom inv v w x options sound e = ok_is (λ (y : World). Covers inv v y (touched.One x)) _ _ w refl e
    (custom_cases (λ (y : World). Covers inv v y (touched.One x)) inv v x options (λ k other c. record { problem = refl; ending = refl })
    (λ spec o known at n sent. covers_changed inv v (with_custom v x (custom_number options o) (Some n)) x (with_setting (settings.Number (custom_number options o))) sound (λ p. (refl, refl)) refl refl refl refl refl))

-- what changes no notice's tests touches nothing
covers_notes : (inv : Configuration) (v w : World) → w ≡ record v { notes = w.notes } → Covers inv v w touched.Nothing
unfolding ready_notice is_end_due
covers_notes inv v w same k other c = record { problem = ap (λ (x : World). ready_notice inv (at_clock x c) k) same; ending = ap (λ (x : World). is_end_due inv (at_clock x c) k) same }

covers_accepting : (inv : Configuration) (v w : World) (kind : Kind) (on : Bool) → act inv v (acts.SetAccepting kind on) ≡ Ok w → Covers inv v w touched.Nothing
unfolding act ready_notice is_end_due
covers_accepting inv v w Host on e k other c = ok_is (λ (x : World). IsAsReady inv (at_clock v c) (at_clock x c) k) _ _ w refl e (record { problem = refl; ending = refl })
covers_accepting inv v w Service on e k other c = ok_is (λ (x : World). IsAsReady inv (at_clock v c) (at_clock x c) k) _ _ w refl e (record { problem = refl; ending = refl })

-- a result changes its own object, and the depth of no other
near_changed : (x : ℕ) (v w u : World) (f : Object → Object) → IsNear x v w → u.program.notifications ≡ w.program.notifications → u.contacts ≡ w.contacts → u.objects ≡ changed_at w.objects x f → u.downtimes ≡ w.downtimes → u.owed ≡ w.owed → IsNear x v u
near_changed x v w u f near on contacts objects downtimes owed = record {
  on = on ∙ near.on;
  contacts = contacts ∙ near.contacts;
  others = λ k other. ap (λ (os : List Object). slice_get os k) objects ∙ changed_other w.objects x k f (λ e. other (sym e)) ∙ near.others k other;
  depths = λ k other. ap (λ (ds : List Downtime). depth_of ds k) downtimes ∙ near.depths k other;
  owed = owed ∙ near.owed;
}

near_started : (inv : Configuration) (x : ℕ) (v w : World) → IsNear x v w → IsNear x v (with_started inv w x)
unfolding started_all all_started
near_started inv x v w near = started_cases (IsNear x v) inv w x near
    (record { on = near.on; contacts = near.contacts; others = near.others; depths = λ k other. started_depth x w.clock w.downtimes k other ∙ near.depths k other; owed = near.owed })

near_taken : (inv : Configuration) (v : World) (x code : ℕ) (output : List ℕ) (spec : ObjectSpec) (o : Object) → IsNear x v (after_taken inv v x code output spec o)
near_taken inv v x code output spec o = noticed_cases (IsNear x v) inv u x (change_by o.status code) near
    (λ s p known at. near_changed x v u _ reset near refl refl refl refl refl)
    (λ s p known at n e. near_changed x v u _ (after_told u.clock) near refl refl refl refl refl)
  where
    r : World
    r = with_result inv v x spec o code output

    u : World
    u = with_started inv r x

    same : IsNear x v v
    same = record { on = refl; contacts = refl; others = λ k other. refl; depths = λ k other. refl; owed = refl }

    near : IsNear x v u
    near = near_started inv x v r (near_changed x v v r (object_after v.clock code output (host_is_up v.objects spec) (passive_hosts_soft inv) spec.max) same refl refl refl refl refl)

covers_result : (inv : Configuration) (v w : World) (x code : ℕ) (output : List ℕ) (spec : ObjectSpec) → IsInventory inv → slice_get inv.objects x ≡ Some spec → is_service spec ≡ true → act inv v (acts.CheckResult x code output) ≡ Ok w → Covers inv v w (touched.One x)
unfolding act
covers_result inv v w x code output spec sound known service e = check_result_cases (λ (y : World). Covers inv v y (touched.One x)) inv v w x code output e
    (λ s o of at. covers_near inv v _ x sound (near_taken inv v x code output s o) (λ t there host. (let same : t ≡ spec = same_Some t spec (sym there ∙ known) in absurd (true≢false (sym service ∙ sym (ap is_service same) ∙ host)))))

-- a host's result touches its services where they see the host otherwise
covers_host : (inv : Configuration) (v w : World) (x code : ℕ) (output : List ℕ) → IsInventory inv → act inv v (acts.CheckResult x code output) ≡ Ok w → Covers inv v w (touched.Host x (host_view v x))
unfolding act
covers_host inv v w x code output sound e = check_result_cases (λ (y : World). Covers inv v y (touched.Host x (host_view v x))) inv v w x code output e
    (λ s o of at k other. covers_near inv v _ x sound (near_taken inv v x code output s o) (λ t there host. record { up = ap (λ (h : HostView). h.up) other.1; depth = ap (λ (h : HostView). h.depth) other.1; back = ap (λ (h : HostView). h.back) other.1 }) k other.0)

-- downtimes that are added are not active
added_depth : (n t : ℕ) (xs : List ℕ) (plan : Plan) (ds : List Downtime) (k : ℕ) → depth_of (ds ++ new_records n t xs plan) k ≡ depth_of ds k
unfolding new_records
added_depth n t xs plan ds k =
    let joined = sum_by-append (λ (y : Downtime). cond (eqb y.object k && is_active y.fate) 1 0) ds (new_records n t xs plan) in
    let new = none n xs in
    omega (arith, joined, new)
  where
    not_one : (b : Bool) → ◌≡◌ {A = ℕ} (cond (b && false) 1 0) 0
    not_one true = refl
    not_one false = refl

    none : (m : ℕ) (ys : List ℕ) → depth_of (new_records m t ys plan) k ≡ 0
    none m [] = refl
    none m (y ∷ ys) =
        let first = sum_by-cons (λ (z : Downtime). cond (eqb z.object k && is_active z.fate) 1 0) (new_record m t y plan) (new_records (m + 1) t ys plan) in
        let zero = not_one (eqb y k) in
        let rest = none (m + 1) ys in
        omega (arith, first, zero, rest)

covers_scheduled : (inv : Configuration) (v w : World) (n t : ℕ) (xs : List ℕ) (plan : Plan) (fault : Option Fault) → with_records v (new_records n t xs plan) fault ≡ Ok w → Covers inv v w touched.Nothing
covers_scheduled inv v w n t xs plan fault e = schedule_cases (λ (y : World). Covers inv v y touched.Nothing) v w (new_records n t xs plan) fault e
    (λ none k other c. alike inv (record v { downtimes = v.downtimes ++ new_records n t xs plan }) v k c refl refl refl (added_depth n t xs plan v.downtimes k) refl (λ spec known. record { up = refl; depth = added_depth n t xs plan v.downtimes spec.host_object; back = refl }))

-- each act touches no more than is said
covers_act : (inv : Configuration) (v w : World) (a : Act) → IsInventory inv → act inv v a ≡ Ok w → Covers inv v w (touches inv v a)
unfolding act new_records
covers_act inv v w (acts.AddComment object persistent author text) sound e = covers_notes inv v w (act_leaves inv v w (acts.AddComment object persistent author text) e)
covers_act inv v w (acts.DelComment kind id) sound e = covers_notes inv v w (act_leaves inv v w (acts.DelComment kind id) e)
covers_act inv v w (acts.DelAllComments object) sound e = covers_notes inv v w (act_leaves inv v w (acts.DelAllComments object) e)
covers_act inv v w (acts.Acknowledge x sticky notify persistent author text) sound e = covers_acknowledged inv v w x sticky notify persistent author text sound e
covers_act inv v w (acts.RemoveAcknowledgement x) sound e = covers_unacknowledged inv v w x sound e
covers_act inv v w (acts.CheckResult x code output) sound e = by_service (is_service_at inv x) refl
  where
    known : (s : Option ObjectSpec) → slice_get inv.objects x ≡ s → option.is_service s ≡ true → (spec : ObjectSpec) × (slice_get inv.objects x ≡ Some spec) × (is_service spec ≡ true)
    known None at service = absurd (cc)
    known (Some spec) at service = (spec, at, service)

    by_service : (b : Bool) → is_service_at inv x ≡ b → Covers inv v w (if b then touched.One x else touched.Host x (host_view v x))
    by_service true service = (let its = known (slice_get inv.objects x) refl service in covers_result inv v w x code output its.0 sound its.1 its.2 e)
    by_service false host = covers_host inv v w x code output sound e
covers_act inv v w (acts.Set x s) sound e = covers_set inv v w x s sound e
covers_act inv v w (acts.SetAccepting kind on) sound e = covers_accepting inv v w kind on e
covers_act inv v w (acts.Schedule x plan) sound e = covers_scheduled inv v w (length v.downtimes) v.clock (x ∷ []) plan (fault_of v.downtimes v.clock plan) e
covers_act inv v w (acts.ScheduleServices host plan) sound e = covers_scheduled inv v w (length v.downtimes) v.clock (services_of inv.objects host) plan (fault_of v.downtimes v.clock plan) e
covers_act inv v w (acts.SendCustom x options) sound e = covers_custom inv v w x options sound e
covers_act inv v w acts.Restart sound e = covers_notes inv v w (act_leaves inv v w acts.Restart e)
covers_act inv v w a sound e = λ k never c. absurd never

-- ---- an entry

-- a rejected entry touches nothing
pub covers_rejected : (inv : Configuration) (v : World) (e : Entry) (why : Reason) → named inv e.stamped.command ≡ Err why → Covers inv v (effect inv v e).0 touched.Nothing
unfolding ready_notice is_end_due
covers_rejected inv v e why asked k other c = record {
  problem = ap (λ (x : Result Act Reason). ready_notice inv (at_clock (settled v e.sender e.place (act_on inv v x)).0 c) k) asked;
  ending = ap (λ (x : Result Act Reason). is_end_due inv (at_clock (settled v e.sender e.place (act_on inv v x)).0 c) k) asked;
}

-- an entry touches what its act does
pub covers_effect : (inv : Configuration) (v : World) (e : Entry) (a : Act) (t : Touched) → IsInventory inv → named inv e.stamped.command ≡ Ok a → t ≡ touches inv v a → Covers inv v (effect inv v e).0 t
unfolding ready_notice is_end_due
covers_effect inv v e a t sound asked is = subst (Covers inv v (effect inv v e).0) (sym is) (subst (λ (r : Result Act Reason). Covers inv v (settled v e.sender e.place (act_on inv v r)).0 (touches inv v a)) (sym asked) (by_result (act inv v a) refl))
  where
    by_result : (r : Result World Reason) → act inv v a ≡ r → Covers inv v (settled v e.sender e.place r).0 (touches inv v a)
    by_result (Ok w) left = covers_act inv v w a sound left
    by_result (Err why) left = λ k other c. record { problem = refl; ending = refl }

-- who is not touched does not depend on the clock
untouched_then : (b : World) (n c : ℕ) (t : Touched) (k : ℕ) → Untouched (record b { entries = n; clock = c }) t k → Untouched b t k
untouched_then b n c touched.Nothing k other = other
untouched_then b n c (touched.One x) k other = other
untouched_then b n c (touched.Host x before) k other = other
untouched_then b n c touched.All k other = other

-- an object of which the same is to be told is as idle
as_idle : (inv : Configuration) (v w : World) (k : ℕ) → IsAsReady inv v w k → IsIdle inv v k → IsIdle inv w k
as_idle inv v w k same idle = record { problem = λ on. same.problem ∙ idle.problem on; ending = λ on. same.ending ∙ idle.ending on }

-- nothing is due before an entry nor after its effect: what was quiet is quiet but for what the effect touches
pub quiet_through : (inv : Configuration) (w a b d : World) (t : ℕ) (by_act : Touched) (until : Option ℕ) → IsQuiet inv w until → w.clock ≤ t → a ≡ record w { clock = max w.clock t } → Covers inv a b by_act → d ≡ record b { entries = d.entries; clock = max b.clock t }
    → IsQuietBut inv d by_act until
unfolding ready_notice is_end_due
quiet_through inv w a b d t by_act None quiet from first covers last = quiet
quiet_through inv w a b d t by_act (Some until) quiet from first covers last = λ k other c high low.
    (let late : max b.clock t ≤ c = subst (λ (x : World). x.clock ≤ c) last high in
    subst (λ (x : World). IsIdle inv (at_clock x c) k) (sym last)
    (still (as_idle inv (at_clock a c) (at_clock b c) k (covers k (untouched_then b d.entries (max b.clock t) by_act k (subst (λ (x : World). Untouched x by_act k) last other)) c)
    (subst (λ (x : World). IsIdle inv (at_clock x c) k) (sym first) (quiet k c (omega (arith, late, from)) low)))))
  where
    still : {k c : ℕ} → IsIdle inv (at_clock b c) k → IsIdle inv (at_clock (record b { entries = d.entries; clock = max b.clock t }) c) k
    still idle = record { problem = idle.problem; ending = idle.ending }

-- where all are touched there is nothing to show
pub quiet_but_all : (inv : Configuration) (w d : World) (until : Option ℕ) → IsQuiet inv w until → IsQuietBut inv d touched.All until
quiet_but_all inv w d None quiet = quiet
quiet_but_all inv w d (Some until) quiet = λ k never c high low. absurd never

-- ---- what the clock tells

none_told : (inv : Configuration) (w : World) (k : ℕ) → ready_notice inv w k ≡ None → told_problem inv Clock w k ≡ w
none_told inv w k none = told_problem_is inv w k ∙ ap (with_problem w k) none

-- one place is below a number or not, and another one makes no difference
same_below : (n x : ℕ) → (n ≡ x → ⊥) → (a b : Bool) → nat_lt x n ≡ a → nat_lt x (n + 1) ≡ b → a ≡ b
same_below n x other true true low more = refl
same_below n x other false false low more = refl
same_below n x other true false low more = (let less = ltb-true x n low in absurd (true≢false (sym (lt-ltb x (n + 1) (omega (arith, less))) ∙ more)))
same_below n x other false true low more = (let less = ltb-true x (n + 1) more in elim (cases_lt x n) [
  | inl below ↦ absurd (true≢false (sym (lt-ltb x n below) ∙ low))
  | inr high ↦ absurd (other (omega (arith, less, high)))
])

-- of steps that do nothing, before and after the one of x, but for that one, it alone is left
one_of_all : (f : World → ℕ → World) (w : World) (x n : ℕ) → ((k : ℕ) → (k ≡ x → ⊥) → f w k ≡ w) → ((k : ℕ) → (k ≡ x → ⊥) → f (f w x) k ≡ f w x) → fold f w (range_with_len 0 n) ≡ (if nat_lt x n then f w x else w)
one_of_all f w x zero before after = sym (ap (λ (b : Bool). if b then f w x else w) (false_from_ne_true (nat_lt x 0) (λ low. (let less = ltb-true x 0 low in absurd (omega (arith, less))))))
one_of_all f w x (suc n) before after =
    let next : n + 1 ≡ suc n = omega arith in
    subst (λ (m : ℕ). fold f w (range_with_len 0 m) ≡ (if nat_lt x m then f w x else w)) next
    (ap (fold f w) (range_more n) ∙ fold-append f w (range_with_len 0 n) (n ∷ []) ∙ ap (λ (v : World). f v n) (one_of_all f w x n before after) ∙ by_place (eqb n x) refl)
  where
    by_place : (b : Bool) → eqb n x ≡ b → f (if nat_lt x n then f w x else w) n ≡ (if nat_lt x (n + 1) then f w x else w)
    by_place true is =
        let same = eqb-true n x is in
        ap (λ (b : Bool). f (if b then f w x else w) n) (false_from_ne_true (nat_lt x n) (λ low. (let less = ltb-true x n low in absurd (omega (arith, less, same)))))
        ∙ ap (f w) same
        ∙ sym (ap (λ (b : Bool). if b then f w x else w) (lt-ltb x (n + 1) (omega (arith, same))))
    by_place false differs = by_below (nat_lt x n) ∙ ap (λ (b : Bool). if b then f w x else w) (same_below n x (eqb-false n x differs) (nat_lt x n) (nat_lt x (n + 1)) refl refl)
      where
        by_below : (b : Bool) → f (if b then f w x else w) n ≡ (if b then f w x else w)
        by_below true = after n (eqb-false n x differs)
        by_below false = before n (eqb-false n x differs)

-- where no other object is ready, one alone is told of
one_told : (inv : Configuration) (w : World) (x n : ℕ) → ((k : ℕ) → (k ≡ x → ⊥) → ready_notice inv w k ≡ None) → told_among inv w n ≡ (if nat_lt x n then told_problem inv Clock w x else w)
one_told inv w x n others = one_of_all (told_problem inv Clock) w x n (λ k other. none_told inv w k (others k other)) (λ k other. none_told inv (told_problem inv Clock w x) k
    (ap (λ (c : ℕ). ready_notice inv (record (told_problem inv Clock w x) { clock = c }) k) (told_clock inv w x) ∙ told_other inv w x k w.clock other ∙ others k other))

-- where no other end is due, one alone is told
one_ended : (inv : Configuration) (w : World) (x n : ℕ) → ((k : ℕ) → (k ≡ x → ⊥) → is_end_due inv w k ≡ false) → told_ends_among inv w n ≡ (if nat_lt x n then told_end inv w x else w)
one_ended inv w x n others = one_of_all (told_end inv) w x n (λ k other. no_end inv w k (others k other)) (λ k other. no_end inv (told_end inv w x) k
    (ap (λ (c : ℕ). is_end_due inv (record (told_end inv w x) { clock = c }) k) (end_clock inv w x) ∙ end_other inv w x k w.clock other ∙ others k other))

-- where no other object has anything to be told, one alone is told
one_stood : (inv : Configuration) (w : World) (x : ℕ) → x < length inv.objects → ((k : ℕ) → (k ≡ x → ⊥) → IsIdle inv w k) → told_one inv w x ≡ stood inv w
one_stood inv w x there others = ap (λ (v : World). problem_told (tells_by_clock inv) inv v x) ends ∙ problems (tells_by_clock inv) refl
  where
    n : ℕ
    n = length inv.objects

    by_end : (b : Bool) → recovers_the_told inv ≡ b → end_told b inv w x ≡ told_ends inv w
    by_end true on = sym (ends_on inv w on ∙ one_ended inv w x n (λ k other. (others k other).ending on) ∙ ap (λ (b : Bool). if b then told_end inv w x else w) (lt-ltb x n there))
    by_end false off = sym (ends_off inv w off)

    ends : end_told (recovers_the_told inv) inv w x ≡ told_ends inv w
    ends = by_end (recovers_the_told inv) refl

    ready : (k : ℕ) → ready_notice inv (told_ends inv w) k ≡ ready_notice inv w k
    ready k = ap (λ (c : ℕ). ready_notice inv (record (told_ends inv w) { clock = c }) k) (ap (λ (v : World). v.clock) (ends_leave inv w)) ∙ left_ready inv w (told_ends inv w) k w.clock (ends_leave inv w)

    problems : (b : Bool) → tells_by_clock inv ≡ b → problem_told b inv (told_ends inv w) x ≡ told_by_clock inv (told_ends inv w)
    problems true on = sym (clock_on inv (told_ends inv w) on ∙ one_told inv (told_ends inv w) x n (λ k other. ready k ∙ (others k other).problem on) ∙ ap (λ (b : Bool). if b then told_problem inv Clock (told_ends inv w) x else told_ends inv w) (lt-ltb x n there))
    problems false off = sym (clock_off inv (told_ends inv w) off)

-- ---- all that is told, and nothing is left to be told

-- after what stands was told, nothing is to be told of any object
pub stood_idle : (inv : Configuration) (w : World) (k : ℕ) → IsIdle inv (stood inv w) k
stood_idle inv w k = record {
  problem = λ on. none_is_ready inv (told_ends inv w) k on;
  ending = λ on. ap (λ (c : ℕ). is_end_due inv (record (stood inv w) { clock = c }) k) (ap (λ (v : World). v.clock) (clock_leaves inv (told_ends inv w))) ∙ clock_due inv (told_ends inv w) k (told_ends inv w).clock ∙ none_is_due inv w k on;
}

-- where nothing is, nothing is before the least moment of all objects
pub quiet_all : (inv : Configuration) (u : World) (until : ℕ) → ((k : ℕ) → IsIdle inv u k) → ((k : ℕ) → k < length inv.objects → until ≤ wakes inv u k) → IsQuiet inv u (Some until)
quiet_all inv u until idle least k c from early = elim (cases_lt k (length inv.objects)) [
  | inl low ↦ idle_yet inv u k c from (idle k) (omega (arith, early, least k low))
  | inr high ↦ record { problem = λ on. none_beyond inv (at_clock u c) k high; ending = λ on. none_due_beyond inv (at_clock u c) k high }
]

-- ---- the touched alone

-- a host that its services see as before is touched alone
pub quiet_narrowed : (inv : Configuration) (w : World) (x : ℕ) (before : HostView) (until : Option ℕ) → host_view w x ≡ before → IsQuietBut inv w (touched.Host x before) until → IsQuietBut inv w (touched.One x) until
quiet_narrowed inv w x before None same quiet = quiet
quiet_narrowed inv w x before (Some until) same quiet = λ k other. quiet k (other, same)

others_idle : (inv : Configuration) (w : World) (t : Touched) (until : ℕ) → IsQuietBut inv w t (Some until) → w.clock < until → (k : ℕ) → Untouched w t k → IsIdle inv w k
others_idle inv w t until quiet early k other = quiet k other w.clock (omega arith) early

-- nothing stands to be told
pub none_stood : (inv : Configuration) (w : World) → ((k : ℕ) → IsIdle inv w k) → w ≡ stood inv w
none_stood inv w idle = sym (ap (told_by_clock inv) ends ∙ problems (tells_by_clock inv) refl)
  where
    n : ℕ
    n = length inv.objects

    not_below : nat_lt n n ≡ false
    not_below = false_from_ne_true (nat_lt n n) (λ low. (let less = ltb-true n n low in absurd (omega (arith, less))))

    by_end : (b : Bool) → recovers_the_told inv ≡ b → told_ends inv w ≡ w
    by_end true on = ends_on inv w on ∙ one_ended inv w n n (λ k other. (idle k).ending on) ∙ ap (λ (b : Bool). if b then told_end inv w n else w) not_below
    by_end false off = ends_off inv w off

    ends : told_ends inv w ≡ w
    ends = by_end (recovers_the_told inv) refl

    problems : (b : Bool) → tells_by_clock inv ≡ b → told_by_clock inv w ≡ w
    problems true on = clock_on inv w on ∙ one_told inv w n n (λ k other. (idle k).problem on) ∙ ap (λ (b : Bool). if b then told_problem inv Clock w n else w) not_below
    problems false off = clock_off inv w off

pub nothing_to_tell : (inv : Configuration) (w : World) (until : ℕ) → IsQuietBut inv w touched.Nothing (Some until) → w.clock < until → w ≡ stood inv w
nothing_to_tell inv w until quiet early = none_stood inv w (λ k. others_idle inv w touched.Nothing until quiet early k tt)

-- without both options nothing is told
pub never_stood : (inv : Configuration) (w : World) → IsQuietBut inv w touched.Nothing None → w ≡ stood inv w
never_stood inv w off = none_stood inv w (λ k. record { problem = λ on. absurd (true≢false (sym on ∙ off.0)); ending = λ on. absurd (true≢false (sym on ∙ off.1)) })

pub one_to_tell : (inv : Configuration) (w : World) (x until : ℕ) → x < length inv.objects → IsQuietBut inv w (touched.One x) (Some until) → w.clock < until → told_one inv w x ≡ stood inv w
one_to_tell inv w x until there quiet early = one_stood inv w x there (λ k other. others_idle inv w (touched.One x) until quiet early k other)

-- what is told of one object leaves what is to be told of another, at any clock
one_other : (inv : Configuration) (w : World) (x k c : ℕ) → (k ≡ x → ⊥) → IsAsReady inv (at_clock w c) (at_clock (told_one inv w x) c) k
one_other inv w x k c other = record { problem = by_problem (tells_by_clock inv) (recovers_the_told inv); ending = by_ending (tells_by_clock inv) (recovers_the_told inv) }
  where
    by_problem : (p e : Bool) → ready_notice inv (at_clock (problem_told p inv (end_told e inv w x) x) c) k ≡ ready_notice inv (at_clock w c) k
    by_problem true true = told_other inv (told_end inv w x) x k c other ∙ end_ready inv w x k c
    by_problem true false = told_other inv w x k c other
    by_problem false true = end_ready inv w x k c
    by_problem false false = refl

    by_ending : (p e : Bool) → is_end_due inv (at_clock (problem_told p inv (end_told e inv w x) x) c) k ≡ is_end_due inv (at_clock w c) k
    by_ending true true = problem_due inv (told_end inv w x) x k c ∙ end_other inv w x k c other
    by_ending true false = problem_due inv w x k c
    by_ending false true = end_other inv w x k c other
    by_ending false false = refl

pub quiet_but_one : (inv : Configuration) (w u : World) (x until next : ℕ) → IsQuietBut inv w (touched.One x) (Some until) → w.clock < until → x < length inv.objects → u ≡ told_one inv w x → next ≡ min until (wakes inv u x) → IsQuiet inv u (Some next)
quiet_but_one inv w u x until next quiet early there is least = λ k c from low. by_place k c from low (eqb k x) refl
  where
    is_stood : u ≡ stood inv w
    is_stood = is ∙ one_to_tell inv w x until there quiet early

    clock : u.clock ≡ w.clock
    clock = ap (λ (v : World). v.clock) is_stood ∙ ap (λ (v : World). v.clock) (clock_leaves inv (told_ends inv w)) ∙ ap (λ (v : World). v.clock) (ends_leave inv w)

    by_place : (k c : ℕ) → u.clock ≤ c → c < next → (b : Bool) → eqb k x ≡ b → IsIdle inv (at_clock u c) k
    by_place k c from low true here =
        let same = eqb-true k x here in
        subst (IsIdle inv (at_clock u c)) (sym same) (idle_yet inv u x c from (subst (λ (v : World). IsIdle inv v x) (sym is_stood) (stood_idle inv w x)) (omega (arith, least, low)))
    by_place k c from low false differs =
        let other = eqb-false k x differs in
        subst (λ (v : World). IsIdle inv (at_clock v c) k) (sym is) (as_idle inv (at_clock w c) (at_clock (told_one inv w x) c) k (one_other inv w x k c other) (quiet k other c (omega (arith, clock, from)) (omega (arith, least, low))))

-- ---- an entry, with what is due before it and after its effect

-- due is whether something was due; a is what the entry finds, b what its effect leaves, d what stands before the clock tells
pub quiet_entry : (each : WhatIsDueHappens) (inv : Configuration) (w a b d : World) (t : ℕ) (n : ℕ) (due_first due_then : Bool) (by_act all : Touched) (until : Option ℕ) → IsQuiet inv w until → w.clock ≤ t
    → due_first ≡ is_some (due_in w t) → a ≡ advanced inv w t → Covers inv a b by_act → due_then ≡ is_some (due_in (record b { entries = n }) t) → d ≡ advanced inv (record b { entries = n }) t
    → all ≡ (if due_first || due_then then touched.All else by_act) → IsQuietBut inv d all until
quiet_entry each inv w a b d t n due_first due_then by_act all until quiet from was first covers is last which =
    subst (λ (x : Touched). IsQuietBut inv d x until) (sym which) (by_due due_first due_then refl refl)
  where
    none_due : (v : World) (b : Bool) → b ≡ is_some (due_in v t) → b ≡ false → due_in v t ≡ None
    none_due v b same no_event = by_event (due_in v t) (sym same ∙ no_event)
      where
        by_event : (o : Option Event) → is_some o ≡ false → o ≡ None
        by_event None e = refl
        by_event (Some x) e = absurd (cc)

    by_due : (x y : Bool) → due_first ≡ x → due_then ≡ y → IsQuietBut inv d (if x || y then touched.All else by_act) until
    by_due true y e f = quiet_but_all inv w d until quiet
    by_due false true e f = quiet_but_all inv w d until quiet
    by_due false false e f =
        let idle = advanced_idle each inv (record b { entries = n }) t (none_due (record b { entries = n }) due_then is f) in
        quiet_through inv w a b d t by_act until quiet from (first ∙ advanced_idle each inv w t (none_due w due_first was e)) covers
        (last ∙ idle ∙ ap (λ (k : ℕ). record b { entries = k; clock = max b.clock t }) (sym (ap (λ (x : World). x.entries) (last ∙ idle))))

-- a monitor that is written and read back, or forgets what it printed, is as quiet
pub quiet_resumed : (inv : Configuration) (w : World) (until : Option ℕ) → IsQuiet inv w until → IsQuiet inv (resumed w) until
unfolding ready_notice is_end_due
quiet_resumed inv w None quiet = quiet
quiet_resumed inv w (Some until) quiet = λ k c from early. (let idle = quiet k c from early in record { problem = idle.problem; ending = idle.ending })

pub quiet_forgotten : (inv : Configuration) (w : World) (until : Option ℕ) → IsQuiet inv w until → IsQuiet inv (forgotten w) until
unfolding ready_notice is_end_due
quiet_forgotten inv w None quiet = quiet
quiet_forgotten inv w (Some until) quiet = λ k c from early. (let idle = quiet k c from early in record { problem = idle.problem; ending = idle.ending })
