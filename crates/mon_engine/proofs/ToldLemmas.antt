-- A PROBLEM goes out only of an object whose notices nothing suppresses.
use Rattle.std.proofs.Common.{◌≡◌, ℕ, ◌+◌, Bool, true, false, not, ◌&&◌, ◌||◌, eqb, cond, if◌then◌else◌, max, List, [], ◌∷◌, ◌++◌, map, Option, Some, None, Ok, slice_get, append_assoc, refl, ap, sym, ◌∙◌, subst, arith}
use Rattle.std.specs.Prelude.{All}
use Rattle.std.proofs.lemmas.Bool.{and_parts, eqb-true, eqb-false, eq-eqb, not-true}
use Rattle.std.proofs.lemmas.Bool.Decides.{nat_tests}
use Rattle.std.proofs.lemmas.List.Sums.{sum_by-cons}
use Rattle.std.proofs.lemmas.List.Elements.{All-nil, All-cons, All-append, All-weaker}
use Rattle.std.proofs.lemmas.Option.{same_Some, slice_get_within}
use Rattle.cmd_types.specs.declared.entry.Entry.{Entry}
use Rattle.mon_checks.specs.States.{change_by}
use Rattle.mon_checks.specs.declared.transition.Change.{Change}
use Rattle.mon_downtime.specs.declared.downtime.Downtime.{Downtime}
use Rattle.mon_downtime.specs.Records.{depth_of, is_active}
use Rattle.mon_downtime.specs.Events.{due}
use Rattle.mon_downtime.specs.Problem.{all_started, all_waiting, started, started_by, waits_for}
use Rattle.mon_downtime.specs.Clock.{WhatIsDueHappens, NothingIsLeft}
use Rattle.mon_notify.specs.declared.facts.Facts.{Facts}
use Rattle.mon_notify.specs.Letters.{letter_of}
use Rattle.mon_notify.specs.Viable.{problem_viable, is_open, is_delayed, is_due, have_gone_by, is_old, is_settled}
use Rattle.mon_inventory.specs.declared.records.ObjectSpec.{ObjectSpec}
use Rattle.mon_inventory.specs.Configuration.{Configuration, directives_at}
use Rattle.mon_engine.specs.declared.notices.Occasion.{Occasion}
use Rattle.mon_engine.specs.declared.notices.Occasion.TheVariants.{Check}
use Rattle.mon_engine.specs.declared.notice.Notice.{Notice}
use Rattle.mon_engine.specs.declared.notice.Subject.{Subject}
use Rattle.mon_engine.specs.declared.notice.Word.TheVariants.{Problem, DowntimeStart}
use Rattle.mon_engine.specs.declared.object.Object.{Object}
use Rattle.mon_engine.specs.declared.switches.Program.{Program}
use Rattle.mon_engine.specs.Objects.{is_service, is_up, host_is_up, back_since, after_told}
use Rattle.mon_engine.specs.World.{World}
use Rattle.mon_engine.specs.Notices.{addressed, problem_facts, problem_notice_by, problem_notice, subject_of, with_problem, noticed}
use Rattle.mon_engine.specs.Results.{with_result, started_all, with_started}
use Rattle.mon_engine.specs.Acknowledgements.{acknowledge}
use Rattle.mon_engine.specs.Clock.{due_in, advanced}
use Rattle.mon_engine.specs.Step.{acted, counted}
use Rattle.mon_engine.specs.Effects as acts
use Rattle.mon_engine.specs.Effects.{Act, act}
use Rattle.mon_engine.specs.Laws.{moment_of, IsUnsuppressed, TellsOfProblems}
use Rattle.mon_engine.proofs.ActLemmas.{ok_is, acknowledge_cases, del_downtime_cases, started_cases, noticed_cases, check_result_cases, act_leaves}
use Rattle.mon_engine.proofs.ClockLemmas.{nothing_is_left}
use Rattle.mon_engine.proofs.DowntimeLemmas.{waits_as}
use Rattle.mon_engine.proofs.EntryLemmas.{found, advanced_leaves, advanced_idle, entry_cases}
use Rattle.mon_engine.proofs.ListLemmas.{All-each, changed_here, changed_reads}
use Rattle.mon_engine.proofs.NoticeLemmas.{recovery_notice_as}
use Rattle.mon_engine.proofs.QuietLemmas.{IsOther, other_as, downtime_other, acknowledgement_other, Quiet, quiet_same, quiet_more, advanced_quiet, cancel_quiet, custom_quiet}

-- ---- a PROBLEM

-- the notices of v, and behind them some of which each PROBLEM is of an object whose notices nothing suppresses in b; then the downtimes are those of v
abbrev IsFine : Configuration → (v b : World) → Notice → Type 0
IsFine inv v b n = n.subject.word ≡ Problem → IsUnsuppressed inv b n.subject × (b.downtimes ≡ v.downtimes)

abbrev Tells : Configuration → (v b : World) → Type 0
Tells inv v b = (new : List Notice) × (b.notices ≡ v.notices ++ new) × All (IsFine inv v b) new

quiet_tells : (inv : Configuration) (v b : World) → Quiet v.notices b.notices → Tells inv v b
quiet_tells inv v b q = (q.0, q.1, All-weaker IsOther (IsFine inv v b) (λ n h is. absurd (h is)) q.0 q.2)

-- what the tests of a PROBLEM say
pub record IsOpenTo (f : Facts) : Type 0 where
  pub program_on : f.program_on ≡ true
  pub object_on : f.object_on ≡ true
  pub depth : f.depth ≡ 0
  pub host_depth : f.host_depth ≡ 0
  pub unacknowledged : f.acknowledged ≡ false
  pub host_up : f.host_up ≡ true
  pub letter_on : f.letter_on ≡ true
  pub hard : f.hard ≡ true
  pub not_delayed : is_delayed f.not_before f.clock ≡ false
  pub old : is_old f ≡ true
  pub settled : is_settled f ≡ true

pub viable_open : (f : Facts) → problem_viable f ≡ true → IsOpenTo f
viable_open f h =
    let settled = and_parts (is_open f && f.host_up && f.letter_on && not f.acknowledged && f.hard && not (is_delayed f.not_before f.clock) && is_due f && is_old f) (is_settled f) h in
    let old = and_parts (is_open f && f.host_up && f.letter_on && not f.acknowledged && f.hard && not (is_delayed f.not_before f.clock) && is_due f) (is_old f) settled.0 in
    let due = and_parts (is_open f && f.host_up && f.letter_on && not f.acknowledged && f.hard && not (is_delayed f.not_before f.clock)) (is_due f) old.0 in
    let delay = and_parts (is_open f && f.host_up && f.letter_on && not f.acknowledged && f.hard) (not (is_delayed f.not_before f.clock)) due.0 in
    let hard = and_parts (is_open f && f.host_up && f.letter_on && not f.acknowledged) f.hard delay.0 in
    let unacknowledged = and_parts (is_open f && f.host_up && f.letter_on) (not f.acknowledged) hard.0 in
    let letter = and_parts (is_open f && f.host_up) f.letter_on unacknowledged.0 in
    let up = and_parts (is_open f) f.host_up letter.0 in
    let host = and_parts (f.program_on && f.object_on && eqb f.depth 0) (eqb f.host_depth 0) up.0 in
    let own = and_parts (f.program_on && f.object_on) (eqb f.depth 0) host.0 in
    let switches = and_parts f.program_on f.object_on own.0 in
    record {
      program_on = switches.0;
      object_on = switches.1;
      depth = eqb-true f.depth 0 own.1;
      host_depth = eqb-true f.host_depth 0 host.1;
      unacknowledged = not-true f.acknowledged unacknowledged.1;
      host_up = up.1;
      letter_on = letter.1;
      hard = hard.1;
      not_delayed = not-true (is_delayed f.not_before f.clock) delay.1;
      old = old.1;
      settled = settled.1;
    }

-- a PROBLEM that goes out has passed the tests
pub problem_viable_as : (inv : Configuration) (w : World) (occasion : Occasion) (object : ℕ) (spec : ObjectSpec) (o : Object) (n : Notice) → problem_notice inv w occasion object spec o ≡ Some n → problem_viable (problem_facts inv w occasion object spec o) ≡ true
unfolding problem_notice
problem_viable_as inv w occasion object spec o n e = by_may (problem_viable (problem_facts inv w occasion object spec o)) e
  where
    by_may : (may : Bool) → problem_notice_by inv w object o (letter_of (is_service spec) o.status.code) may ≡ Some n → may ≡ true
    by_may true e = refl
    by_may false e = absurd (cc)

-- what such a PROBLEM says
pub problem_subject : (inv : Configuration) (w : World) (occasion : Occasion) (object : ℕ) (spec : ObjectSpec) (o : Object) (n : Notice) → problem_notice inv w occasion object spec o ≡ Some n → n.subject ≡ subject_of w.clock Problem object o (o.number + 1)
unfolding problem_notice addressed
problem_subject inv w occasion object spec o n e = by_may (problem_viable (problem_facts inv w occasion object spec o)) e
  where
    s : Subject
    s = subject_of w.clock Problem object o (o.number + 1)

    by_someone : (b : Bool) (contacts : List ℕ) → (if b then Some (record { subject = s; contacts = contacts }) else None) ≡ Some n → n.subject ≡ s
    by_someone true contacts is = ap (λ (m : Notice). m.subject) (sym (same_Some _ n is))
    by_someone false contacts is = absurd (cc)

    by_may : (may : Bool) → problem_notice_by inv w object o (letter_of (is_service spec) o.status.code) may ≡ Some n → n.subject ≡ s
    by_may true is = by_someone _ _ is
    by_may false is = absurd (cc)

-- of a first notice, what stands above the object came back long enough ago
pub first_settled : (inv : Configuration) (w : World) (occasion : Occasion) (object : ℕ) (spec : ObjectSpec) (o : Object) → is_settled (problem_facts inv w occasion object spec o) ≡ true → o.number + 1 ≡ 1 → is_service spec ≡ true
    → have_gone_by (back_since (slice_get w.objects spec.host_object)) inv.settle w.clock ≡ true
first_settled inv w occasion object spec o settled first service = by_number (eqb o.number 0) refl settled
  where
    back : Option ℕ
    back = back_since (slice_get w.objects spec.host_object)

    by_number : (b : Bool) → eqb o.number 0 ≡ b → (not b || have_gone_by (if is_service spec then back else None) inv.settle w.clock) ≡ true → have_gone_by back inv.settle w.clock ≡ true
    by_number true is h = ap (λ (s : Bool). have_gone_by (if s then back else None) inv.settle w.clock) (sym service) ∙ h
    by_number false is h = absurd (eqb-false o.number 0 is (omega (arith, first)))

-- w is v with more notices that are no PROBLEM; where no downtime of the object is active, its downtimes are those of v
pub record IsBefore (v w : World) (object : ℕ) : Type 0 where
  pub quiet : Quiet v.notices w.notices
  pub downtimes : depth_of w.downtimes object ≡ 0 → w.downtimes ≡ v.downtimes

problem_tells : (inv : Configuration) (v w : World) (object : ℕ) (spec : ObjectSpec) (o : Object) (n : Notice) → IsBefore v w object → slice_get inv.objects object ≡ Some spec → slice_get w.objects object ≡ Some o
    → problem_notice inv w Check object spec o ≡ Some n → Tells inv v (with_problem w object (Some n))
problem_tells inv v w object spec o n before known at e = (
  q.0 ++ n ∷ [],
  ap (λ (x : List Notice). x ++ n ∷ []) q.1 ∙ append_assoc v.notices q.0 (n ∷ []),
  All-append (IsFine inv v b) q.0 (n ∷ []) (All-weaker IsOther (IsFine inv v b) (λ m h is. absurd (h is)) q.0 q.2) (All-cons (IsFine inv v b) n [] fine (All-nil (IsFine inv v b))),
)
  where
    b : World
    b = with_problem w object (Some n)

    q : Quiet v.notices w.notices
    q = before.quiet

    opened : IsOpenTo (problem_facts inv w Check object spec o)
    opened = viable_open (problem_facts inv w Check object spec o) (problem_viable_as inv w Check object spec o n e)

    -- the object is as it was, but for what notices leave
    unsuppressed : IsUnsuppressed inv b (subject_of w.clock Problem object o (o.number + 1))
    unsuppressed = record {
      spec = spec;
      of = after_told w.clock o;
      known = known;
      there = changed_here w.objects object (after_told w.clock) o at;
      unacknowledged = opened.unacknowledged;
      depth = opened.depth;
      host_depth = λ service. ap (λ (s : Bool). if s then depth_of w.downtimes spec.host_object else 0) (sym service) ∙ opened.host_depth;
      object_on = opened.object_on;
      program_on = opened.program_on;
      hard = opened.hard;
      letter_on = opened.letter_on;
      not_delayed = opened.not_delayed;
      host_up = λ service. changed_reads is_up w.objects object spec.host_object (after_told w.clock) (λ p. refl) ∙ ap (λ (s : Bool). if s then host_is_up w.objects spec else true) (sym service) ∙ opened.host_up;
      old = opened.old;
      settled = λ first service. ap (λ (m : Option ℕ). have_gone_by m inv.settle w.clock) (changed_reads back_since w.objects object spec.host_object (after_told w.clock) (λ p. refl)) ∙ first_settled inv w Check object spec o opened.settled first service;
    }

    fine : IsFine inv v b n
    fine k = (subst (IsUnsuppressed inv b) (sym (problem_subject inv w Check object spec o n e)) unsuppressed, before.downtimes opened.depth)

noticed_tells : (inv : Configuration) (v w : World) (object : ℕ) (change : Change) → IsBefore v w object → Tells inv v (noticed inv w object change)
noticed_tells inv v w object change before = noticed_cases (Tells inv v) inv w object change (quiet_tells inv v w before.quiet)
    (λ spec o known at. (let is = recovery_notice_as inv w object change.hard_recovery spec o (slice_get_within inv.objects object spec known) in
    quiet_tells inv v _ (quiet_more v.notices w.notices _ (other_as _ (λ e. absurd (cc)) is) before.quiet)))
    (λ spec o known at n e. problem_tells inv v w object spec o n before known at e)

-- ---- flexible downtimes that start

-- where no downtime of the object is active afterwards, none has started
started_none : (object clock : ℕ) (ds : List Downtime) → depth_of (map (started object clock) ds) object ≡ 0 → map (started object clock) ds ≡ ds
started_none object clock [] h = refl
started_none object clock (d ∷ ds) h = by_waits (waits_for object clock d) refl (λ k. started_none object clock ds k) first
  where
    active : Downtime → Bool
    active x = eqb x.object object && is_active x.fate

    first : cond (eqb (started object clock d).object object && is_active (started object clock d).fate) 1 0 + depth_of (map (started object clock) ds) object ≡ 0
    first = sym (sum_by-cons (λ (x : Downtime). cond (eqb x.object object && is_active x.fate) 1 0) (started object clock d) (map (started object clock) ds)) ∙ h

    by_waits : (b : Bool) → waits_for object clock d ≡ b → (depth_of (map (started object clock) ds) object ≡ 0 → map (started object clock) ds ≡ ds)
        → cond (eqb (cond b (record d { fate = started_by clock d }) d).object object && is_active (cond b (record d { fate = started_by clock d }) d).fate) 1 0 + depth_of (map (started object clock) ds) object ≡ 0
        → cond b (record d { fate = started_by clock d }) d ∷ map (started object clock) ds ≡ d ∷ ds
    by_waits true e rest k = let here = eq-eqb d.object object (waits_as object clock d e).0 in absurd (let one : cond {A = ℕ} (eqb d.object object && true) 1 0 ≡ 1 = rw here refl in omega (arith, one, k))
    by_waits false e rest k = ap (λ (xs : List Downtime). d ∷ xs) (rest (omega (arith, k)))

pub started_before : (inv : Configuration) (v w : World) (object : ℕ) → w.notices ≡ v.notices → w.downtimes ≡ v.downtimes → IsBefore v (with_started inv w object) object
unfolding started_all all_started
started_before inv v w object notices downtimes = started_cases (λ (x : World). IsBefore v x object) inv w object
    (record { quiet = quiet; downtimes = λ h. downtimes })
    (record {
      quiet = quiet_more v.notices w.notices _ (All-each IsOther _ (λ d. downtime_other inv w DowntimeStart w.clock object (λ e. absurd (cc))) (all_waiting w.downtimes object w.clock)) quiet;
      downtimes = λ h. started_none object w.clock w.downtimes h ∙ downtimes;
    })
  where
    quiet : Quiet v.notices w.notices
    quiet = subst (Quiet v.notices) (sym notices) (quiet_same v.notices)

-- ---- each act

-- what tells of nothing
silent : (inv : Configuration) (v b : World) → b.notices ≡ v.notices → Tells inv v b
silent inv v b same = quiet_tells inv v b (subst (Quiet v.notices) (sym same) (quiet_same v.notices))

act_tells : (inv : Configuration) (v w : World) (a : Act) → act inv v a ≡ Ok w → Tells inv v w
unfolding act
act_tells inv v w (acts.Acknowledge object sticky notify persistent author text) e =
    acknowledge_cases (Tells inv v) inv v w object sticky notify persistent author text e (λ o at problem. silent inv v _ refl)
    (λ o at problem. quiet_tells inv v _ (quiet_more v.notices v.notices _ (acknowledgement_other inv (acknowledge v object sticky persistent author text) object) (quiet_same v.notices)))
act_tells inv v w (acts.CheckResult object code output) e = check_result_cases (Tells inv v) inv v w object code output e
    (λ spec o known at. noticed_tells inv v _ object (change_by o.status code) (started_before inv v (with_result inv v object spec o code output) object refl refl))
act_tells inv v w (acts.DelDowntime kind id) e = del_downtime_cases (Tells inv v) inv v w kind id e (λ there. quiet_tells inv v _ (cancel_quiet inv v id))
act_tells inv v w (acts.SendCustom object options) e = ok_is (Tells inv v) _ _ w refl e (quiet_tells inv v _ (custom_quiet inv v object options))
act_tells inv v w a e = silent inv v w (ap (λ (x : World). x.notices) (act_leaves inv v w a e))

-- ---- an entry

-- a delay that is over stays so
later_not_delayed : (o : Option ℕ) (c t : ℕ) → is_delayed o c ≡ false → is_delayed o (max c t) ≡ false
later_not_delayed None c t h = refl
later_not_delayed (Some moment) c t h = grind (arith, nat_tests)

-- what has gone by has gone by later
pub later_gone_by : (from seconds : Option ℕ) (c t : ℕ) → have_gone_by from seconds c ≡ true → have_gone_by from seconds (max c t) ≡ true
later_gone_by (Some from) (Some seconds) c t h = grind (arith, nat_tests)
later_gone_by (Some from) None c t h = refl
later_gone_by None seconds c t h = refl

-- what an object's notices depend on is the same, the clock aside, which is no less
same_unsuppressed : (inv : Configuration) (b d : World) (s : Subject) (t : ℕ) → d.clock ≡ max b.clock t → d.objects ≡ b.objects → d.downtimes ≡ b.downtimes → d.program ≡ b.program → IsUnsuppressed inv b s → IsUnsuppressed inv d s
same_unsuppressed inv b d s t c os ds p h = record {
  spec = h.spec;
  of = h.of;
  known = h.known;
  there = ap (λ (xs : List Object). slice_get xs s.object) os ∙ h.there;
  unacknowledged = h.unacknowledged;
  depth = ap (λ (xs : List Downtime). depth_of xs s.object) ds ∙ h.depth;
  host_depth = λ service. ap (λ (xs : List Downtime). depth_of xs h.spec.host_object) ds ∙ h.host_depth service;
  object_on = h.object_on;
  program_on = ap (λ (x : Program). x.notifications) p ∙ h.program_on;
  hard = h.hard;
  letter_on = h.letter_on;
  not_delayed = ap (is_delayed h.of.not_before) c ∙ later_not_delayed h.of.not_before b.clock t h.not_delayed;
  host_up = λ service. ap (λ (xs : List Object). host_is_up xs h.spec) os ∙ h.host_up service;
  old = ap (have_gone_by h.of.moments.since (directives_at inv (Some s.object)).first_notification_delay) c ∙ later_gone_by h.of.moments.since _ b.clock t h.old;
  settled = λ first service. ap (λ (xs : List Object). have_gone_by (back_since (slice_get xs h.spec.host_object)) inv.settle d.clock) os
      ∙ ap (have_gone_by (back_since (slice_get b.objects h.spec.host_object)) inv.settle) c ∙ later_gone_by _ inv.settle b.clock t (h.settled first service);
}

-- after the effect nothing more is due where the downtimes are as they were
end_unsuppressed : (each : WhatIsDueHappens) (done : NothingIsLeft) (inv : Configuration) (w b : World) (e : Entry) (s : Subject) → b.downtimes ≡ (found inv w e).downtimes → IsUnsuppressed inv b s → IsUnsuppressed inv (advanced inv (counted b) (moment_of w e)) s
end_unsuppressed each done inv w b e s same h =
    let t = moment_of w e in
    let idle : due_in (counted b) t ≡ None = ap (λ (ds : List Downtime). due ds t) same ∙ nothing_is_left done inv w t in
    let leaves = advanced_leaves inv (counted b) t in
    same_unsuppressed inv b (advanced inv (counted b) t) s t (ap (λ (x : World). x.clock) leaves) (ap (λ (x : World). x.objects) leaves) (ap (λ (x : World). x.downtimes) (advanced_idle each inv (counted b) t idle)) (ap (λ (x : World). x.program) leaves) h

-- first what is due, then the effect, then what is due then
closed_tells : (each : WhatIsDueHappens) (done : NothingIsLeft) (inv : Configuration) (w b : World) (e : Entry) → Tells inv (found inv w e) b → TellsOfProblems inv w (advanced inv (counted b) (moment_of w e))
closed_tells each done inv w b e tells =
    let d : World = advanced inv (counted b) (moment_of w e) in
    let before = advanced_quiet inv w (moment_of w e) in
    let behind = advanced_quiet inv (counted b) (moment_of w e) in
    let Fine = λ (n : Notice). n.subject.word ≡ Problem → IsUnsuppressed inv d n.subject in
    record {
      new = before.0 ++ (tells.0 ++ behind.0);
      behind = behind.1 ∙ ap (λ (x : List Notice). x ++ behind.0) tells.1 ∙ ap (λ (x : List Notice). (x ++ tells.0) ++ behind.0) before.1
          ∙ append_assoc (w.notices ++ before.0) tells.0 behind.0 ∙ append_assoc w.notices before.0 (tells.0 ++ behind.0);
      problems = All-append Fine before.0 (tells.0 ++ behind.0) (All-weaker IsOther Fine (λ n h is. absurd (h is)) before.0 before.2)
          (All-append Fine tells.0 behind.0 (All-weaker (IsFine inv (found inv w e) b) Fine (λ n h is. (let fine = h is in end_unsuppressed each done inv w b e n.subject fine.1 fine.0)) tells.0 tells.2)
          (All-weaker IsOther Fine (λ n h is. absurd (h is)) behind.0 behind.2));
    }

pub acted_tells : (each : WhatIsDueHappens) (done : NothingIsLeft) (inv : Configuration) (w : World) (e : Entry) → TellsOfProblems inv w (acted inv w e).0
acted_tells each done inv w e = entry_cases inv w e (λ p. TellsOfProblems inv w p.0)
    (λ why. closed_tells each done inv w _ e (quiet_tells inv (found inv w e) _ (quiet_same (found inv w e).notices)))
    (λ a b n h. closed_tells each done inv w b e (act_tells inv (found inv w e) b a h))
