-- No problem is told of whose notices something suppresses: neither by what an entry does nor by the clock after it.
use Rattle.std.proofs.Common.{◌≡◌, ℕ, ◌+◌, Bool, true, false, if◌then◌else◌, Option, Some, is_some, slice_get, refl, ap, sym, ◌∙◌, subst, length, List}
use Rattle.std.proofs.lemmas.List.Elements.{All-weaker}
use Rattle.mon_downtime.specs.Clock.{WhatIsDueHappens, NothingIsLeft}
use Rattle.mon_downtime.specs.Records.{depth_of}
use Rattle.mon_inventory.specs.declared.records.ObjectSpec.{ObjectSpec}
use Rattle.mon_inventory.specs.Configuration.{Configuration, directives_at}
use Rattle.mon_notify.specs.Letters.{letter_of, has_letter}
use Rattle.mon_notify.specs.Viable.{is_delayed, have_gone_by}
use Rattle.mon_engine.specs.declared.notices.Occasion.TheVariants.{Clock}
use Rattle.mon_engine.specs.declared.notice.Notice.{Notice}
use Rattle.mon_engine.specs.declared.notice.Subject.{Subject}
use Rattle.mon_engine.specs.declared.notice.Word.TheVariants.{Problem}
use Rattle.mon_engine.specs.declared.object.Object.{Object}
use Rattle.mon_engine.specs.Objects.{is_service, host_is_up, back_since, is_acknowledged, after_told}
use Rattle.mon_engine.specs.World.{World}
use Rattle.mon_engine.specs.Notices.{problem_facts, subject_of}
use Rattle.mon_engine.specs.ByClock.{told_by_clock}
use Rattle.mon_engine.specs.ByClockLaws.{ready_notice, after_ready, TellsWhatIsReady}
use Rattle.mon_engine.specs.Ends.{told_ends}
use Rattle.mon_engine.specs.Laws.{IsUnsuppressed, TellsOfProblems, SuppressedProblemsAreNotTold}
use Rattle.mon_engine.specs.Step.{acted, step}
use Rattle.mon_engine.proofs.ByClockLemmas.{ready_says, clock_cases, clock_more, clock_up, clock_back}
use Rattle.mon_engine.proofs.EndLemmas.{IsLeft, IsRecovery, ends_leave, ends_more, owing_leaves, step_notices}
use Rattle.mon_engine.proofs.NewsLemmas.{More, more_after, more_weaker}
use Rattle.mon_engine.proofs.RepeatLemmas.{problem_says}
use Rattle.mon_engine.proofs.ToldLemmas.{IsOpenTo, viable_open, problem_viable_as, first_settled, acted_tells}

module _ (inv : Configuration) (v : World) where
  -- of an object that is told of there changes nothing that its notices depend on
  kept : {A : Type 0} (f : Object → A) (k : ℕ) (o : Object) → ((p : Object) → f (after_told v.clock p) ≡ f p) → f (after_ready inv v k o) ≡ f o
  kept f k o same = by (is_some (ready_notice inv v k))
    where
      by : (b : Bool) → f (if b then after_told v.clock o else o) ≡ f o
      by true = same o
      by false = refl

  still_unsuppressed : (u : World) (s : Subject) → u ≡ told_by_clock inv v → TellsWhatIsReady inv v u → IsUnsuppressed inv v s → IsUnsuppressed inv u s
  still_unsuppressed u s is tells h = record {
    spec = h.spec;
    of = after_ready inv v s.object h.of;
    known = h.known;
    there = tells.each s.object h.of h.there;
    unacknowledged = kept (λ o. is_acknowledged o.acknowledgement) s.object h.of (λ p. refl) ∙ h.unacknowledged;
    depth = ap (λ (x : World). depth_of x.downtimes s.object) tells.same ∙ h.depth;
    host_depth = λ service. ap (λ (x : World). depth_of x.downtimes h.spec.host_object) tells.same ∙ h.host_depth service;
    object_on = kept (λ o. o.notify) s.object h.of (λ p. refl) ∙ h.object_on;
    program_on = ap (λ (x : World). x.program.notifications) tells.same ∙ h.program_on;
    hard = kept (λ o. o.status.hard) s.object h.of (λ p. refl) ∙ h.hard;
    letter_on = kept (λ o. has_letter h.spec.letters (letter_of (is_service h.spec) o.status.code)) s.object h.of (λ p. refl) ∙ h.letter_on;
    not_delayed = kept (λ o. is_delayed o.not_before u.clock) s.object h.of (λ p. refl) ∙ ap (λ (x : World). is_delayed h.of.not_before x.clock) tells.same ∙ h.not_delayed;
    host_up = λ service. ap (λ (x : World). host_is_up x.objects h.spec) is ∙ clock_up inv v h.spec.host_object ∙ h.host_up service;
    old = kept (λ o. have_gone_by o.moments.since (directives_at inv (Some s.object)).first_notification_delay u.clock) s.object h.of (λ p. refl)
        ∙ ap (λ (x : World). have_gone_by h.of.moments.since (directives_at inv (Some s.object)).first_notification_delay x.clock) tells.same ∙ h.old;
    settled = λ first service. ap (λ (x : World). have_gone_by (back_since (slice_get x.objects h.spec.host_object)) inv.settle u.clock) is
        ∙ ap (λ (m : Option ℕ). have_gone_by m inv.settle u.clock) (clock_back inv v h.spec.host_object) ∙ ap (λ (x : World). have_gone_by (back_since (slice_get v.objects h.spec.host_object)) inv.settle x.clock) tells.same ∙ h.settled first service;
  }

  ready_unsuppressed : (k : ℕ) (n : Notice) → ready_notice inv v k ≡ Some n → IsUnsuppressed inv v n.subject
  ready_unsuppressed k n ready =
      let says = ready_says inv v k n ready in
      problem_says (λ (m : Notice). IsUnsuppressed inv v m.subject) inv v Clock k says.0 says.1 n says.5
      (λ cs. by_tests says.0 says.1 says.2 says.3 (viable_open (problem_facts inv v Clock k says.0 says.1) (problem_viable_as inv v Clock k says.0 says.1 n says.5)))
    where
      by_tests : (spec : ObjectSpec) (o : Object) → slice_get inv.objects k ≡ Some spec → slice_get v.objects k ≡ Some o → IsOpenTo (problem_facts inv v Clock k spec o) → IsUnsuppressed inv v (subject_of v.clock Problem k o (o.number + 1))
      by_tests spec o known at opened = record {
        spec = spec;
        of = o;
        known = known;
        there = at;
        unacknowledged = opened.unacknowledged;
        depth = opened.depth;
        host_depth = λ service. ap (λ (s : Bool). if s then depth_of v.downtimes spec.host_object else 0) (sym service) ∙ opened.host_depth;
        object_on = opened.object_on;
        program_on = opened.program_on;
        hard = opened.hard;
        letter_on = opened.letter_on;
        not_delayed = opened.not_delayed;
        host_up = λ service. ap (λ (s : Bool). if s then host_is_up v.objects spec else true) (sym service) ∙ opened.host_up;
        old = opened.old;
        settled = λ first service. first_settled inv v Clock k spec o opened.settled first service;
      }

-- what is left of all but notices and ends suppresses the same
left_unsuppressed : (inv : Configuration) (w v : World) (s : Subject) → IsLeft w v → IsUnsuppressed inv w s → IsUnsuppressed inv v s
left_unsuppressed inv w v s is h = subst (λ (x : World). IsUnsuppressed inv x s) (sym is) (record {
  spec = h.spec;
  of = h.of;
  known = h.known;
  there = h.there;
  unacknowledged = h.unacknowledged;
  depth = h.depth;
  host_depth = h.host_depth;
  object_on = h.object_on;
  program_on = h.program_on;
  hard = h.hard;
  letter_on = h.letter_on;
  not_delayed = h.not_delayed;
  old = h.old;
  host_up = h.host_up;
  settled = h.settled;
})

pub suppressed_problems_are_not_told : (each : WhatIsDueHappens) (done : NothingIsLeft) → SuppressedProblemsAreNotTold
unfolding step
suppressed_problems_are_not_told each done inv w e = (let all = by_clock in record {
  new = all.0;
  behind = step_notices inv w e ∙ all.1;
  problems = All-weaker (Fine (told_by_clock inv m)) (Fine s) (λ n h word. left_unsuppressed inv (told_by_clock inv m) s n.subject left (h word)) all.0 all.2;
})
  where
    v : World
    v = (acted inv w e).0

    m : World
    m = told_ends inv v

    s : World
    s = (step inv w e).0

    left : IsLeft (told_by_clock inv m) s
    left = (let is = owing_leaves inv (length w.notices) (told_by_clock inv m) in is ∙ ap (λ (ns : List Notice). record (told_by_clock inv m) { notices = ns; owed = s.owed }) (sym (ap (λ (x : World). x.notices) is)))

    Fine : World → Notice → Type 0
    Fine x n = n.subject.word ≡ Problem → IsUnsuppressed inv x n.subject

    by_act : TellsOfProblems inv w v
    by_act = acted_tells each done inv w e

    before : More (Fine m) w.notices m.notices
    before = more_after (Fine m) w.notices v.notices m.notices (by_act.new, by_act.behind, All-weaker (Fine v) (Fine m) (λ n h word. left_unsuppressed inv v m n.subject (ends_leave inv v) (h word)) by_act.new by_act.problems)
        (more_weaker IsRecovery (Fine m) v.notices m.notices (λ n is word. absurd (let same = sym is ∙ word in cc)) (ends_more inv v))

    by_clock : More (Fine (told_by_clock inv m)) w.notices (told_by_clock inv m).notices
    by_clock = clock_cases inv m (λ (u : World). u ≡ told_by_clock inv m → More (Fine u) w.notices u.notices) (λ is. before)
        (λ u tells is. (let first : More (Fine u) w.notices m.notices = (before.0, before.1, All-weaker (Fine m) (Fine u) (λ n h word. still_unsuppressed inv m u n.subject is tells (h word)) before.0 before.2) in
        more_after (Fine u) w.notices m.notices u.notices first (clock_more inv m u (Fine u) tells (λ k n ready word. still_unsuppressed inv m u n.subject is tells (ready_unsuppressed inv m k n ready))))) refl
