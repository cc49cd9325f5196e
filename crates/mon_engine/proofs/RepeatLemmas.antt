-- No problem is told twice: what an object keeps of its last PROBLEM, and what a further one asks of it.
use Rattle.std.proofs.Common.{◌≡◌, ◌≢◌, ◌⊎◌, inl, inr, ℕ, zero, suc, ◌+◌, ◌<◌, ◌≤◌, Bool, true, false, true≢false, not, ◌&&◌, ◌||◌, eqb, nat_lt, if◌then◌else◌, cond, List, [], ◌∷◌, ◌++◌, length, drop, count_by, Option, Some, None, is_some, option_to_list, Result, Ok, Err, All, slice_get, refl, ap, sym, ◌∙◌, subst, append_assoc, arith}
use Rattle.std.proofs.lemmas.Bool.{and_parts, eqb-true, eqb-false, ne_eqb}
use Rattle.std.proofs.lemmas.List.Elements.{All-nil, All-cons, All-contains, All-weaker}
use Rattle.std.proofs.lemmas.List.Sums.{sum_by-append, sum_by-cons}
use Rattle.std.proofs.lemmas.Option.{same_Some, slice_get_within}
use Rattle.cmd_types.specs.declared.command.Command.{Command}
use Rattle.cmd_types.specs.declared.command.Command.TheVariants as commands
use Rattle.cmd_types.specs.declared.entry.Entry.{Entry}
use Rattle.cmd_types.specs.Names.{names_of}
use Rattle.mon_checks.specs.States.{change_by}
use Rattle.mon_downtime.specs.Clock.{WhatIsDueHappens, NothingIsLeft}
use Rattle.mon_inventory.specs.declared.records.ObjectSpec.{ObjectSpec}
use Rattle.mon_inventory.specs.Configuration.{Configuration, passive_hosts_soft}
use Rattle.mon_inventory.specs.Lookups.{services_of}
use Rattle.mon_notify.specs.Custom.{increments}
use Rattle.mon_notify.specs.Interval.{interval_in_force}
use Rattle.mon_notify.specs.Letters.{letter_of}
use Rattle.mon_notify.specs.Viable.{problem_viable, is_of_code, is_over}
use Rattle.mon_engine.specs.declared.notices.Occasion.{Occasion}
use Rattle.mon_engine.specs.declared.notices.Occasion.TheVariants.{Check, Clock}
use Rattle.mon_engine.specs.declared.notice.Notice.{Notice}
use Rattle.mon_engine.specs.declared.notice.Subject.{Subject}
use Rattle.mon_engine.specs.declared.notice.Word.{Word}
use Rattle.mon_engine.specs.declared.notice.Word.TheVariants as words
use Rattle.mon_engine.specs.declared.object.Acknowledgement.TheVariants.{Unacknowledged}
use Rattle.mon_engine.specs.declared.object.Object.{Object}
use Rattle.mon_engine.specs.declared.objects.Setting.TheVariants as settings
use Rattle.mon_engine.specs.declared.outcome.Outcome.{Outcome}
use Rattle.mon_engine.specs.declared.outcome.Outcome.TheVariants.{Applied}
use Rattle.mon_engine.specs.declared.outcome.Reason.{Reason}
use Rattle.mon_engine.specs.Names.{target_of}
use Rattle.mon_engine.specs.Places.{changed_at, changed_each}
use Rattle.mon_engine.specs.Objects.{is_service, host_is_up, object_after, after_told, reset, custom_number, with_setting, with_acknowledgement, acknowledgement_of}
use Rattle.mon_engine.specs.World.{World}
use Rattle.mon_engine.specs.Notices.{addressed, is_problem_word, problem_facts, subject_of, problem_notice, with_problem, after_custom}
use Rattle.mon_engine.specs.Results.{with_result, with_started, after_taken}
use Rattle.mon_engine.specs.Acknowledgements.{acknowledge}
use Rattle.mon_engine.specs.ByClock.{told_by_clock}
use Rattle.mon_engine.specs.Ends.{told_ends}
use Rattle.mon_engine.specs.ByClockLaws.{ready_notice, ready_notices, TellsWhatIsReady}
use Rattle.mon_engine.specs.Effects as acts
use Rattle.mon_engine.specs.Effects.{Act, act, asked, asked_of, named}
use Rattle.mon_engine.specs.Clock.{advanced}
use Rattle.mon_engine.specs.Laws.{moment_of, AppliesOne}
use Rattle.mon_engine.specs.Step.{counted, acted, step, meaning_from}
use Rattle.mon_engine.specs.NoticeLaws.{went_out, is_volatile, IsVolatileResult, BeginsAnew, GoesOn, IsIntervalLater, NoProblemIsToldTwice, is_problem_of, OneProblemAnObject}
use Rattle.mon_engine.proofs.ActLemmas.{ok_is, acknowledge_cases, unacknowledge_cases, del_downtime_cases, started_leaves, noticed_when, check_result_cases, custom_cases, act_leaves}
use Rattle.mon_engine.proofs.ByClockLemmas.{ready_says, due_again, viable_due, told_once, notices_more, clock_cases, clock_object, clock_counts, clock_more}
use Rattle.mon_engine.proofs.CountLemmas.{count_none}
use Rattle.mon_engine.proofs.EndLemmas.{IsRecovery, ends_leave, ends_more, ends_objects, step_clock, step_notices, step_objects}
use Rattle.mon_engine.proofs.EntryLemmas.{found, found_clock, kept_objects, entry_cases}
use Rattle.mon_engine.proofs.FirstLemmas.{code_after}
use Rattle.mon_engine.proofs.ForgottenLemmas.{acted_grows}
use Rattle.mon_engine.proofs.ListLemmas.{changed_cases, changed_here}
use Rattle.mon_engine.proofs.NewsLemmas.{drop_front, More, more_on, more_after, more_went, more_weaker, downtime_word, news_are}
use Rattle.mon_engine.proofs.NoticeLemmas.{recovery_notice_as}
use Rattle.mon_engine.proofs.OnceLemmas.{problem_word, one_problem_an_entry}
use Rattle.mon_engine.proofs.QuietLemmas.{IsOther, other_as, Quiet, no_problem, quiet_same, quiet_more, acknowledgement_other, cancel_quiet, custom_quiet}
use Rattle.mon_engine.proofs.ReachedLemmas.{passed, someone_is}
use Rattle.mon_engine.proofs.TimeLemmas.{acted_clock}
use Rattle.mon_engine.proofs.ToldLemmas.{problem_viable_as, started_before}

-- ---- a PROBLEM among the notices of an act

-- a PROBLEM of an object in this state is due at the clock, by itself or by its number, its code and the interval
abbrev IsDueTo : (ByItself : Type 0) → Configuration → Subject → Object → (clock : ℕ) → Type 0
IsDueTo ByItself inv s of clock =
    ByItself ⊎ ((eqb of.number 0 || not (is_of_code of.notified s.code) || (nat_lt 0 (interval_in_force inv s.object of.number s.code) && is_over of.last (interval_in_force inv s.object of.number s.code) clock)) ≡ true)

-- a test of four parts holds by its first or by the others
by_parts : (a b c d : Bool) → (a || b || c || d) ≡ true → (a ≡ true) ⊎ ((b || c || d) ≡ true)
by_parts true b c d h = inl refl
by_parts false b c d h = inr h

-- what the object was when a PROBLEM of it went out in this world
pub record IsProblemBy (inv : Configuration) (v b : World) (a : Act) (n : Notice) : Type 0 where
  pub output : List ℕ
  pub of : Object
  pub result : a ≡ acts.CheckResult n.subject.object n.subject.code output
  pub problem : n.subject.code ≢ 0
  pub at : slice_get v.objects n.subject.object ≡ Some of
  pub moment : n.subject.moment ≡ v.clock
  pub number : n.subject.number ≡ of.number + 1
  pub due : IsDueTo (is_volatile inv n.subject.object ≡ true) inv n.subject of v.clock
  pub left : Object
  pub there : slice_get b.objects n.subject.object ≡ Some left
  pub code : left.status.code ≡ n.subject.code
  pub notified : left.notified ≡ Some n.subject.code
  pub last : left.last ≡ Some v.clock
  pub next : left.number ≡ of.number + 1

abbrev IfProblem : Configuration → (v b : World) → Act → Notice → Type 0
IfProblem inv v b a n = n.subject.word ≡ words.Problem → IsProblemBy inv v b a n

abbrev Problems : Configuration → (v : World) → Act → (b : World) → Type 0
Problems inv v a b = More (IfProblem inv v b a) v.notices b.notices

-- an act of which no PROBLEM is told
none_told : (inv : Configuration) (v b : World) (a : Act) → Quiet v.notices b.notices → Problems inv v a b
none_told inv v b a q = more_weaker IsOther (IfProblem inv v b a) v.notices b.notices (λ n other is. absurd (other is)) q

-- what a PROBLEM says
pub problem_says : (P : Notice → Type 0) (inv : Configuration) (u : World) (occasion : Occasion) (object : ℕ) (spec : ObjectSpec) (o : Object) (n : Notice) → problem_notice inv u occasion object spec o ≡ Some n
    → ((cs : List ℕ) → P (record { subject = subject_of u.clock words.Problem object o (o.number + 1); contacts = cs })) → P n
unfolding problem_notice addressed
problem_says P inv u occasion object spec o n e h =
    let l = letter_of (is_service spec) o.status.code in
    let s = subject_of u.clock words.Problem object o (o.number + 1) in
    let may = passed (problem_viable (problem_facts inv u occasion object spec o)) (addressed inv u.contacts s l true) n e in
    someone_is P s _ n may.1 (h _)

taken_problems : (inv : Configuration) (v : World) (object code : ℕ) (output : List ℕ) (spec : ObjectSpec) (o : Object) → slice_get v.objects object ≡ Some o
    → Problems inv v (acts.CheckResult object code output) (after_taken inv v object code output spec o)
taken_problems inv v object code output spec o at = noticed_when (Problems inv v a) inv u object (change_by o.status code) (none_told inv v u a quiet)
    (λ r s p known there. none_told inv v _ a (quiet_more v.notices u.notices _ (other_as _ (λ k. absurd (cc)) (recovery_notice_as inv u object (change_by o.status code).hard_recovery s p (slice_get_within inv.objects object s known))) quiet))
    (λ r s p known there bad n e. more_on (IfProblem inv v _ a) v.notices u.notices (n ∷ []) (more_weaker IsOther (IfProblem inv v _ a) v.notices u.notices (λ m other is. absurd (other is)) quiet)
    (All-cons (IfProblem inv v _ a) n [] (λ is. tells s p there bad n e) (All-nil (IfProblem inv v _ a))))
  where
    a : Act
    a = acts.CheckResult object code output

    with_it : World
    with_it = with_result inv v object spec o code output

    u : World
    u = with_started inv with_it object

    o1 : Object
    o1 = object_after v.clock code output (host_is_up v.objects spec) (passive_hosts_soft inv) spec.max o

    quiet : Quiet v.notices u.notices
    quiet = (started_before inv v with_it object refl refl).quiet

    clock : u.clock ≡ v.clock
    clock = ap (λ (x : World). x.clock) (started_leaves inv with_it object)

    is_o1 : (p : Object) → slice_get u.objects object ≡ Some p → p ≡ o1
    is_o1 p there = same_Some p o1 (sym there ∙ ap (λ (x : World). slice_get x.objects object) (started_leaves inv with_it object)
        ∙ changed_here v.objects object (object_after v.clock code output (host_is_up v.objects spec) (passive_hosts_soft inv) spec.max) o at)

    code_is : o1.status.code ≡ code
    code_is = code_after o.status code (host_is_up v.objects spec) (passive_hosts_soft inv) spec.max

    tells_o1 : (s : ObjectSpec) → slice_get u.objects object ≡ Some o1 → eqb o1.status.code 0 ≡ false → (n : Notice) → problem_notice inv u Check object s o1 ≡ Some n → IsProblemBy inv v (with_problem u object (Some n)) a n
    tells_o1 s there bad n e = problem_says (IsProblemBy inv v (with_problem u object (Some n)) a) inv u Check object s o1 n e (λ cs. record {
      output = output;
      of = o;
      result = ap (λ (c : ℕ). acts.CheckResult object c output) (sym code_is);
      problem = eqb-false o1.status.code 0 bad;
      at = at;
      moment = clock;
      number = refl;
      due = subst (λ (c : ℕ). IsDueTo (is_volatile inv object ≡ true) inv (subject_of c words.Problem object o1 (o.number + 1)) o c) clock
          (by_parts (is_volatile inv object) (eqb o.number 0) (not (is_of_code o.notified o1.status.code)) _ (viable_due (problem_facts inv u Check object s o1) (problem_viable_as inv u Check object s o1 n e)));
      left = after_told u.clock o1;
      there = changed_here u.objects object (after_told u.clock) o1 there;
      code = refl;
      notified = refl;
      last = ap (λ (c : ℕ). Some c) clock;
      next = refl;
    })

    tells : (s : ObjectSpec) (p : Object) → slice_get u.objects object ≡ Some p → eqb p.status.code 0 ≡ false → (n : Notice) → problem_notice inv u Check object s p ≡ Some n → IsProblemBy inv v (with_problem u object (Some n)) a n
    tells s p there bad n e = subst (λ (x : Object). slice_get u.objects object ≡ Some x → eqb x.status.code 0 ≡ false → problem_notice inv u Check object s x ≡ Some n → IsProblemBy inv v (with_problem u object (Some n)) a n)
        (sym (is_o1 p there)) (λ k l m. tells_o1 s k l n m) there bad e

act_problems : (inv : Configuration) (v b : World) (a : Act) → act inv v a ≡ Ok b → Problems inv v a b
unfolding act
act_problems inv v b (acts.Acknowledge object sticky notify persistent author text) e =
    let a = acts.Acknowledge object sticky notify persistent author text in
    acknowledge_cases (Problems inv v a) inv v b object sticky notify persistent author text e (λ o at problem. none_told inv v _ a (quiet_same v.notices))
    (λ o at problem. none_told inv v _ a (quiet_more v.notices v.notices _ (acknowledgement_other inv (acknowledge v object sticky persistent author text) object) (quiet_same v.notices)))
act_problems inv v b (acts.CheckResult object code output) e = check_result_cases (Problems inv v (acts.CheckResult object code output)) inv v b object code output e (λ spec o known at. taken_problems inv v object code output spec o at)
act_problems inv v b (acts.DelDowntime kind id) e = del_downtime_cases (Problems inv v (acts.DelDowntime kind id)) inv v b kind id e (λ there. none_told inv v _ (acts.DelDowntime kind id) (cancel_quiet inv v id))
act_problems inv v b (acts.SendCustom object options) e = ok_is (Problems inv v (acts.SendCustom object options)) _ _ b refl e (none_told inv v _ (acts.SendCustom object options) (custom_quiet inv v object options))
act_problems inv v b a e = none_told inv v b a (subst (Quiet v.notices) (sym (ap (λ (x : World). x.notices) (act_leaves inv v b a e))) (quiet_same v.notices))

-- ---- a PROBLEM among the notices of an entry

record IsProblemOn (inv : Configuration) (w : World) (e : Entry) (left : World × Outcome) (n : Notice) : Type 0 where
  does : Act
  asked_for : named inv e.stamped.command ≡ Ok does
  applied : left.1 ≡ Applied
  on : World
  by : IsProblemBy inv (found inv w e) on does n
  ended : left.0.objects ≡ on.objects

all_problems : (each : WhatIsDueHappens) (done : NothingIsLeft) (inv : Configuration) (w : World) (e : Entry) → All (λ n. n.subject.word ≡ words.Problem → IsProblemOn inv w e (acted inv w e) n) (went_out w (acted inv w e).0)
all_problems each done inv w e = news_are each done inv w e (λ p n. n.subject.word ≡ words.Problem → IsProblemOn inv w e p n)
    (λ p n t is. absurd (no_problem n.subject.word (downtime_word inv w n t) is))
    (λ a b asked h. (
      more_weaker (IfProblem inv (found inv w e) b a) (λ n. n.subject.word ≡ words.Problem → IsProblemOn inv w e (advanced inv (counted b) (moment_of w e), Applied) n) (found inv w e).notices b.notices
          (λ n k is. record { does = a; asked_for = asked; applied = refl; on = b; by = k is; ended = kept_objects inv (counted b) (moment_of w e) }) (act_problems inv (found inv w e) b a h),
      inr (λ n t is. absurd (no_problem n.subject.word (downtime_word inv b n t) is)),
    ))

-- ---- a PROBLEM of the object, whoever sends it

-- sent at the clock, of an object that was among the first of these objects, and is left among the second
pub record IsSentOf (ByItself : Type 0) (inv : Configuration) (before after : List Object) (clock : ℕ) (n : Notice) : Type 0 where
  pub of : Object
  pub at : slice_get before n.subject.object ≡ Some of
  pub problem : n.subject.code ≢ 0
  pub moment : n.subject.moment ≡ clock
  pub number : n.subject.number ≡ of.number + 1
  pub due : IsDueTo ByItself inv n.subject of clock
  pub left : Object
  pub there : slice_get after n.subject.object ≡ Some left
  pub code : left.status.code ≡ n.subject.code
  pub notified : left.notified ≡ Some n.subject.code
  pub last : left.last ≡ Some clock
  pub next : left.number ≡ of.number + 1

sent_by_act : (inv : Configuration) (w : World) (e : Entry) (left : World × Outcome) (n : Notice) → IsProblemOn inv w e left n → IsSentOf (IsVolatileResult inv n.subject.object e left.1) inv w.objects left.0.objects (found inv w e).clock n
sent_by_act inv w e left n h = record {
  of = h.by.of;
  at = ap (λ (os : List Object). slice_get os n.subject.object) (sym (kept_objects inv w (moment_of w e))) ∙ h.by.at;
  problem = h.by.problem;
  moment = h.by.moment;
  number = h.by.number;
  due = elim h.by.due [
    | inl volatile ↦ inl (record { volatile = volatile; by_result = record { applied = h.applied; does = acts.CheckResult n.subject.object n.subject.code h.by.output; asked_for = h.asked_for ∙ ap (λ (a : Act). Ok a) h.by.result; among = refl } })
    | inr due ↦ inr due
  ];
  left = h.by.left;
  there = ap (λ (os : List Object). slice_get os n.subject.object) h.ended ∙ h.by.there;
  code = h.by.code;
  notified = h.by.notified;
  last = h.by.last;
  next = h.by.next;
}

sent_by_clock : (inv : Configuration) (w v : World) (k : ℕ) (n : Notice) → TellsWhatIsReady inv w v → ready_notice inv w k ≡ Some n → IsSentOf ⊥ inv w.objects v.objects w.clock n
sent_by_clock inv w v k n tells is =
    let ready = ready_says inv w k n is in
    let spec : ObjectSpec = ready.0 in
    let o : Object = ready.1 in
    problem_says (IsSentOf ⊥ inv w.objects v.objects w.clock) inv w Clock k spec o n ready.5 (λ cs. record {
      of = o;
      at = ready.3;
      problem = eqb-false o.status.code 0 ready.4;
      moment = refl;
      number = refl;
      due = inr (viable_due (problem_facts inv w Clock k spec o) (problem_viable_as inv w Clock k spec o n ready.5));
      left = after_told w.clock o;
      there = clock_counts inv w v k o n tells ready.3 is;
      code = refl;
      notified = refl;
      last = refl;
      next = refl;
    })

-- an entry sends it, or the clock after what the entry does
abbrev pub IsSentWith : Configuration → World → Entry → Notice → Type 0
IsSentWith inv w e n = IsSentOf (IsVolatileResult inv n.subject.object e (acted inv w e).1) inv w.objects (acted inv w e).0.objects (found inv w e).clock n
    ⊎ IsSentOf ⊥ inv (acted inv w e).0.objects (step inv w e).0.objects (acted inv w e).0.clock n

-- the same lists of objects and the same clock, by other names
sent_as : (ByItself : Type 0) (inv : Configuration) (before was after now : List Object) (clock time : ℕ) (n : Notice) → before ≡ was → after ≡ now → clock ≡ time → IsSentOf ByItself inv before after clock n → IsSentOf ByItself inv was now time n
sent_as ByItself inv before was after now clock time n first last at sent =
    subst (λ (c : ℕ). IsSentOf ByItself inv was now c n) at (subst (λ (os : List Object). IsSentOf ByItself inv was os clock n) last (subst (λ (os : List Object). IsSentOf ByItself inv os after clock n) first sent))

pub all_sent_with : (each : WhatIsDueHappens) (done : NothingIsLeft) (inv : Configuration) (w : World) (e : Entry) → All (λ n. n.subject.word ≡ words.Problem → IsSentWith inv w e n) (went_out w (step inv w e).0)
all_sent_with each done inv w e = more_went Sent w (step inv w e).0 (subst (More Sent w.notices) (sym (step_notices inv w e)) by_clock)
  where
    v : World
    v = (acted inv w e).0

    m : World
    m = told_ends inv v

    Sent : Notice → Type 0
    Sent n = n.subject.word ≡ words.Problem → IsSentWith inv w e n

    by_act : More Sent w.notices v.notices
    by_act = (went_out w v, acted_grows inv w e, All-weaker (λ n. n.subject.word ≡ words.Problem → IsProblemOn inv w e (acted inv w e) n) Sent (λ n h word. inl (sent_by_act inv w e (acted inv w e) n (h word))) (went_out w v) (all_problems each done inv w e))

    before : More Sent w.notices m.notices
    before = more_after Sent w.notices v.notices m.notices by_act (more_weaker IsRecovery Sent v.notices m.notices (λ n is word. absurd (let same = sym is ∙ word in cc)) (ends_more inv v))

    sent : (k : ℕ) (n : Notice) → TellsWhatIsReady inv m (told_by_clock inv m) → ready_notice inv m k ≡ Some n → IsSentWith inv w e n
    sent k n tells ready = inr (sent_as ⊥ inv m.objects v.objects (told_by_clock inv m).objects (step inv w e).0.objects m.clock v.clock n (ends_objects inv v) (sym (step_objects inv w e)) (ap (λ (x : World). x.clock) (ends_leave inv v)) (sent_by_clock inv m (told_by_clock inv m) k n tells ready))

    by_clock : More Sent w.notices (told_by_clock inv m).notices
    by_clock = clock_cases inv m (λ (u : World). u ≡ told_by_clock inv m → More Sent w.notices u.notices) (λ is. before)
        (λ u tells is. more_after Sent w.notices m.notices u.notices before (clock_more inv m u Sent tells (λ k n ready word. sent k n (subst (TellsWhatIsReady inv m) is tells) ready))) refl

-- ---- what an object keeps of its last PROBLEM

-- a PROBLEM of the object with this code went out at the moment m or later, and the problem has gone on since
record IsTold (os : List Object) (object code m : ℕ) : Type 0 where
  of : Object
  there : slice_get os object ≡ Some of
  code_is : of.status.code ≡ code
  notified : of.notified ≡ Some code
  moment : ℕ
  last : of.last ≡ Some moment
  since : m ≤ moment
  number : 0 < of.number
  problem : code ≢ 0

first_told : (ByItself : Type 0) (inv : Configuration) (before after : List Object) (clock : ℕ) (n : Notice) → IsSentOf ByItself inv before after clock n → IsTold after n.subject.object n.subject.code n.subject.moment
first_told ByItself inv before after clock n h = record {
  of = h.left;
  there = h.there;
  code_is = h.code;
  notified = h.notified;
  moment = clock;
  last = h.last;
  since = (let is = h.moment in omega (arith, is));
  number = (let is = h.next in omega (arith, is));
  problem = h.problem;
}

second_later : (ByItself : Type 0) (inv : Configuration) (before after : List Object) (clock : ℕ) (first : Subject) (n : Notice) → IsTold before n.subject.object n.subject.code first.moment → IsSentOf ByItself inv before after clock n
    → IsIntervalLater inv n.subject.object n.subject.code first n.subject ⊎ ByItself
second_later ByItself inv before after clock first n told h = elim h.due [
  | inl itself ↦ inr itself
  | inr due ↦ (let again = due_again h.of.number h.of.notified h.of.last n.subject.code (interval_in_force inv n.subject.object h.of.number n.subject.code) clock first.moment told.moment
      (ap (λ (o : Object). o.notified) same ∙ told.notified) (ap (λ (o : Object). o.last) same ∙ told.last) told.since (subst (λ (o : Object). 0 < o.number) (sym same) told.number) due in
      inl (record {
        number = h.of.number;
        next = h.number;
        repeated = again.0;
        later = (let is = h.moment in let late = again.1 in omega (arith, is, late));
      }))
]
  where
    same : h.of ≡ told.of
    same = same_Some h.of told.of (sym h.at ∙ told.there)

-- ---- the problem goes on

-- the change leaves the code, and what is kept of notices
abbrev KeepsTold : (Object → Object) → Type 0
KeepsTold f = (o : Object) → ((f o).notified ≡ o.notified) × ((f o).last ≡ o.last) × ((f o).number ≡ o.number) × ((f o).status.code ≡ o.status.code)

changed_told : (os : List Object) (k object code m : ℕ) (f : Object → Object) → KeepsTold f → IsTold os object code m → IsTold (changed_at os k f) object code m
changed_told os k object code m f keeps h = elim (changed_cases os k object f h.of h.there) [
  | inl here ↦ (let kept = keeps h.of in let number = kept.2 in let some = h.number in
      record { of = f h.of; there = here.1; code_is = kept.3 ∙ h.code_is; notified = kept.0 ∙ h.notified; moment = h.moment; last = kept.1 ∙ h.last; since = h.since; number = omega (arith, number, some); problem = h.problem })
  | inr there ↦ record { of = h.of; there = there; code_is = h.code_is; notified = h.notified; moment = h.moment; last = h.last; since = h.since; number = h.number; problem = h.problem }
]

each_told : (os : List Object) (ks : List ℕ) (object code m : ℕ) (f : Object → Object) → KeepsTold f → IsTold os object code m → IsTold (changed_each os ks f) object code m
unfolding changed_each
each_told os [] object code m f keeps h = h
each_told os (k ∷ ks) object code m f keeps h = each_told (changed_at os k f) ks object code m f keeps (changed_told os k object code m f keeps h)

-- the object is as it was
unmoved : (os vs : List Object) (object code m : ℕ) (h : IsTold os object code m) → slice_get vs object ≡ Some h.of → IsTold vs object code m
unmoved os vs object code m h there = record { of = h.of; there = there; code_is = h.code_is; notified = h.notified; moment = h.moment; last = h.last; since = h.since; number = h.number; problem = h.problem }

-- a result, of another object or of the same code
result_told : (inv : Configuration) (v : World) (x other : ℕ) (output : List ℕ) (spec : ObjectSpec) (o : Object) (object code m : ℕ) → m ≤ v.clock → slice_get v.objects x ≡ Some o → (x ≡ object → other ≡ code) → IsTold v.objects object code m
    → IsTold (after_taken inv v x other output spec o).objects object code m
result_told inv v x other output spec o object code m from at same_code h = noticed_when (λ (y : World). IsTold y.objects object code m) inv u x (change_by o.status other) told_u
    (λ r s p known there. elim (changed_cases u.objects x object reset told_u.of told_u.there) [
      | inl here ↦ absurd (h.problem (sym (same_code here.0) ∙ eqb-true other 0 (and_parts (not (eqb o.status.code 0)) (eqb other 0) r).1))
      | inr still ↦ unmoved u.objects _ object code m told_u still
    ])
    (λ r s p known there bad n e. elim (changed_cases u.objects x object (after_told u.clock) told_u.of told_u.there) [
      | inl here ↦ repeated s p there n e here.0 here.1
      | inr still ↦ unmoved u.objects _ object code m told_u still
    ])
  where
    with_it : World
    with_it = with_result inv v x spec o other output

    u : World
    u = with_started inv with_it x

    told_u : IsTold u.objects object code m
    told_u = subst (λ (os : List Object). IsTold os object code m) (sym (ap (λ (y : World). y.objects) (started_leaves inv with_it x)))
        (elim (changed_cases v.objects x object (object_after v.clock other output (host_is_up v.objects spec) (passive_hosts_soft inv) spec.max) h.of h.there) [
          | inl here ↦ record {
            of = object_after v.clock other output (host_is_up v.objects spec) (passive_hosts_soft inv) spec.max h.of;
            there = here.1;
            code_is = code_after h.of.status other (host_is_up v.objects spec) (passive_hosts_soft inv) spec.max ∙ same_code here.0;
            notified = h.notified;
            moment = h.moment;
            last = h.last;
            since = h.since;
            number = h.number;
            problem = h.problem;
          }
          | inr still ↦ unmoved v.objects _ object code m h still
        ])

    code_of : (p : Object) → slice_get u.objects x ≡ Some p → p.status.code ≡ other
    code_of p there =
        let is = same_Some p _ (sym there ∙ ap (λ (y : World). slice_get y.objects x) (started_leaves inv with_it x) ∙ changed_here v.objects x (object_after v.clock other output (host_is_up v.objects spec) (passive_hosts_soft inv) spec.max) o at) in
        ap (λ (y : Object). y.status.code) is ∙ code_after o.status other (host_is_up v.objects spec) (passive_hosts_soft inv) spec.max

    repeated : (s : ObjectSpec) (p : Object) → slice_get u.objects x ≡ Some p → (n : Notice) → problem_notice inv u Check x s p ≡ Some n → x ≡ object → slice_get (changed_at u.objects x (after_told u.clock)) object ≡ Some (after_told u.clock told_u.of)
        → IsTold (changed_at u.objects x (after_told u.clock)) object code m
    repeated s p there n e is now =
        let same : p ≡ told_u.of = same_Some p told_u.of (sym there ∙ ap (slice_get u.objects) is ∙ told_u.there) in
        let code_is : p.status.code ≡ code = code_of p there ∙ same_code is in
        let now_is : u.clock ≡ v.clock = ap (λ (y : World). y.clock) (started_leaves inv with_it x) in
        record {
          of = after_told u.clock told_u.of;
          there = now;
          code_is = told_u.code_is;
          notified = ap (λ (y : Object). Some y.status.code) (sym same) ∙ ap (λ (c : ℕ). Some c) code_is;
          moment = u.clock;
          last = refl;
          since = omega (arith, now_is, from);
          number = omega arith;
          problem = told_u.problem;
        }

-- a custom notice may raise the number, and no more
custom_told : (inv : Configuration) (v : World) (x options object code m : ℕ) → IsTold v.objects object code m → IsTold (after_custom inv v x options).objects object code m
custom_told inv v x options object code m h = custom_cases (λ (y : World). IsTold y.objects object code m) inv v x options h
    (λ spec o known at n e. elim (changed_cases v.objects x object (with_setting (settings.Number (custom_number options o))) h.of h.there) [
      | inl here ↦ record {
        of = with_setting (settings.Number (custom_number options o)) h.of;
        there = here.1;
        code_is = h.code_is;
        notified = h.notified;
        moment = h.moment;
        last = h.last;
        since = h.since;
        number = (let same : o ≡ h.of = same_Some o h.of (sym at ∙ ap (slice_get v.objects) here.0 ∙ h.there) in raised o (increments options) (subst (λ (y : Object). 0 < y.number) (sym same) h.number));
        problem = h.problem;
      }
      | inr still ↦ unmoved v.objects _ object code m h still
    ])
  where
    raised : (o : Object) (b : Bool) → 0 < o.number → 0 < (if b then o.number + 1 else o.number)
    raised o true some = omega arith
    raised o false some = some

-- ---- each act

-- no command sets the number of a host's services
asked_of_one : (c : Command) (target host n : ℕ) → asked c target ≡ acts.SetServices host (settings.Number n) → ⊥
asked_of_one commands.RestartProgram target host n e = absurd (cc)
asked_of_one c target host n e = absurd (cc)

named_of_one : (inv : Configuration) (c : Command) (host n : ℕ) → named inv c ≡ Ok (acts.SetServices host (settings.Number n)) → ⊥
named_of_one inv c host n e = by (target_of inv (names_of c)) e
  where
    by : (r : Result ℕ Reason) → asked_of c r ≡ Ok (acts.SetServices host (settings.Number n)) → ⊥
    by (Err why) k = absurd (cc)
    by (Ok target) k = asked_of_one c target host n (cc)

module _ (inv : Configuration) (v b : World) (object code m : ℕ) where
  act_told : (c : Command) (a : Act) → m ≤ v.clock → named inv c ≡ Ok a → (BeginsAnew object code a → ⊥) → act inv v a ≡ Ok b → IsTold v.objects object code m → IsTold b.objects object code m
  unfolding act
  act_told c (acts.Acknowledge x sticky notify persistent author text) from n goes e h =
      acknowledge_cases (λ (y : World). IsTold y.objects object code m) inv v b x sticky notify persistent author text e (λ o at problem. acknowledged) (λ o at problem. acknowledged)
    where
      acknowledged : IsTold (changed_at v.objects x (with_acknowledgement (acknowledgement_of sticky))) object code m
      acknowledged = changed_told v.objects x object code m (with_acknowledgement (acknowledgement_of sticky)) (λ p. (refl, refl, refl, refl)) h
  act_told c (acts.RemoveAcknowledgement x) from n goes e h = ok_is (λ (y : World). IsTold y.objects object code m) _ _ b refl e
      (unacknowledge_cases (λ (y : World). IsTold y.objects object code m) v x h (λ o at is. changed_told v.objects x object code m (with_acknowledgement Unacknowledged) (λ p. (refl, refl, refl, refl)) h))
  act_told c (acts.CheckResult x other output) from n goes e h =
      check_result_cases (λ (y : World). IsTold y.objects object code m) inv v b x other output e (λ spec o known at. result_told inv v x other output spec o object code m from at same_code h)
    where
      same_code : x ≡ object → other ≡ code
      same_code is = by (eqb other code) refl
        where
          by : (s : Bool) → eqb other code ≡ s → other ≡ code
          by true k = eqb-true other code k
          by false k = absurd (goes (is, eqb-false other code k))
  act_told c (acts.Set x (settings.Passive on)) from n goes e h = ok_is (λ (y : World). IsTold y.objects object code m) _ _ b refl e (changed_told v.objects x object code m (with_setting (settings.Passive on)) (λ p. (refl, refl, refl, refl)) h)
  act_told c (acts.Set x (settings.Notify on)) from n goes e h = ok_is (λ (y : World). IsTold y.objects object code m) _ _ b refl e (changed_told v.objects x object code m (with_setting (settings.Notify on)) (λ p. (refl, refl, refl, refl)) h)
  act_told c (acts.Set x (settings.Delay moment)) from n goes e h = ok_is (λ (y : World). IsTold y.objects object code m) _ _ b refl e (changed_told v.objects x object code m (with_setting (settings.Delay moment)) (λ p. (refl, refl, refl, refl)) h)
  act_told c (acts.Set x (settings.Number k)) from n goes e h = ok_is (λ (y : World). IsTold y.objects object code m) _ _ b refl e (elim (changed_cases v.objects x object (with_setting (settings.Number k)) h.of h.there) [
    | inl here ↦ absurd (goes here.0)
    | inr still ↦ unmoved v.objects _ object code m h still
  ])
  act_told c (acts.SetServices host (settings.Passive on)) from n goes e h =
      ok_is (λ (y : World). IsTold y.objects object code m) _ _ b refl e (each_told v.objects (services_of inv.objects host) object code m (with_setting (settings.Passive on)) (λ p. (refl, refl, refl, refl)) h)
  act_told c (acts.SetServices host (settings.Notify on)) from n goes e h =
      ok_is (λ (y : World). IsTold y.objects object code m) _ _ b refl e (each_told v.objects (services_of inv.objects host) object code m (with_setting (settings.Notify on)) (λ p. (refl, refl, refl, refl)) h)
  act_told c (acts.SetServices host (settings.Delay moment)) from n goes e h =
      ok_is (λ (y : World). IsTold y.objects object code m) _ _ b refl e (each_told v.objects (services_of inv.objects host) object code m (with_setting (settings.Delay moment)) (λ p. (refl, refl, refl, refl)) h)
  act_told c (acts.SetServices host (settings.Number k)) from n goes e h = absurd (named_of_one inv c host k n)
  act_told c (acts.SendCustom x options) from n goes e h = ok_is (λ (y : World). IsTold y.objects object code m) _ _ b refl e (custom_told inv v x options object code m h)
  act_told c a from n goes e h = subst (λ (os : List Object). IsTold os object code m) (sym (ap (λ (y : World). y.objects) (act_leaves inv v b a e))) h

-- ---- entries

acted_told : (inv : Configuration) (w : World) (e : Entry) (object code m : ℕ) → m ≤ w.clock → (AppliesOne inv e (acted inv w e).1 (BeginsAnew object code) → ⊥) → IsTold w.objects object code m → IsTold (acted inv w e).0.objects object code m
acted_told inv w e object code m from goes h = entry_cases inv w e (λ p. (AppliesOne inv e p.1 (BeginsAnew object code) → ⊥) → IsTold p.0.objects object code m)
    (λ why still. at_end _ at_found)
    (λ a b n k still. at_end b (act_told inv (found inv w e) b object code m e.stamped.command a (omega (arith, from, found_clock inv w e)) n (λ begins. still (record { applied = refl; does = a; asked_for = n; among = begins })) k at_found)) goes
  where
    at_found : IsTold (found inv w e).objects object code m
    at_found = subst (λ (os : List Object). IsTold os object code m) (sym (kept_objects inv w (moment_of w e))) h

    at_end : (b : World) → IsTold b.objects object code m → IsTold (advanced inv (counted b) (moment_of w e)).objects object code m
    at_end b k = subst (λ (os : List Object). IsTold os object code m) (sym (kept_objects inv (counted b) (moment_of w e))) k

-- where the clock tells of the problem again, it does so at least the interval later
clock_told : (inv : Configuration) (w : World) (object code m : ℕ) → IsTold w.objects object code m → IsTold (told_by_clock inv w).objects object code m
clock_told inv w object code m h = elim (clock_object inv w object h.of h.there) [
  | inl still ↦ unmoved w.objects _ object code m h still
  | inr told ↦ (let ready = ready_says inv w object told.1.0 told.1.1 in
      let o : Object = ready.1 in
      let same : o ≡ h.of = same_Some o h.of (sym ready.3 ∙ h.there) in
      let again = due_again o.number o.notified o.last o.status.code (interval_in_force inv object o.number o.status.code) w.clock m h.moment
      (ap (λ (x : Object). x.notified) same ∙ h.notified ∙ ap (λ (c : ℕ). Some c) (sym (ap (λ (x : Object). x.status.code) same ∙ h.code_is))) (ap (λ (x : Object). x.last) same ∙ h.last) h.since
      (subst (λ (x : Object). 0 < x.number) (sym same) h.number)
      (viable_due (problem_facts inv w Clock object ready.0 o) (problem_viable_as inv w Clock object ready.0 o told.1.0 ready.5)) in
      record {
        of = after_told w.clock h.of;
        there = told.0;
        code_is = h.code_is;
        notified = ap (λ (c : ℕ). Some c) h.code_is;
        moment = w.clock;
        last = refl;
        since = (let late = again.1 in omega (arith, late));
        number = omega arith;
        problem = h.problem;
      })
]

-- told of by what an entry does, it is told of after the entry
still_told : (inv : Configuration) (w : World) (e : Entry) (object code m : ℕ) → IsTold (acted inv w e).0.objects object code m → IsTold (step inv w e).0.objects object code m
still_told inv w e object code m h =
    let v : World = (acted inv w e).0 in
    subst (λ (os : List Object). IsTold os object code m) (sym (step_objects inv w e)) (clock_told inv (told_ends inv v) object code m (subst (λ (os : List Object). IsTold os object code m) (sym (ends_objects inv v)) h))

entry_told : (inv : Configuration) (w : World) (e : Entry) (object code m : ℕ) → m ≤ w.clock → (AppliesOne inv e (step inv w e).1 (BeginsAnew object code) → ⊥) → IsTold w.objects object code m → IsTold (step inv w e).0.objects object code m
unfolding step
entry_told inv w e object code m from goes h = still_told inv w e object code m (acted_told inv w e object code m from goes h)

-- the clock after an entry
pub step_moment : (inv : Configuration) (w : World) (e : Entry) → (step inv w e).0.clock ≡ moment_of w e
step_moment inv w e = step_clock inv w e ∙ acted_clock inv w e

-- the problem goes on up to the last of these entries, and with it
entries_told : (inv : Configuration) (object code m : ℕ) (w : World) (es : List Entry) (last : Entry) → m ≤ w.clock → GoesOn inv object code w (es ++ last ∷ []) → IsTold w.objects object code m
    → (m ≤ (meaning_from inv w es).clock) × IsTold (meaning_from inv w es).objects object code m × (AppliesOne inv last (step inv (meaning_from inv w es) last).1 (BeginsAnew object code) → ⊥)
unfolding meaning_from
entries_told inv object code m w [] last from goes h = (from, h, goes.0)
entries_told inv object code m w (e ∷ es) last from goes h = entries_told inv object code m (step inv w e).0 es last (omega (arith, from, step_moment inv w e)) goes.1 (entry_told inv w e object code m from goes.0 h)

-- an object is told of once its notice went out with an entry
told_with : (inv : Configuration) (w : World) (e : Entry) (n : Notice) → IsSentWith inv w e n → (n.subject.moment ≤ (step inv w e).0.clock) × IsTold (step inv w e).0.objects n.subject.object n.subject.code n.subject.moment
told_with inv w e n (inl sent) = (
  (let at = sent.moment in omega (arith, at, found_clock inv w e, step_moment inv w e)),
  still_told inv w e n.subject.object n.subject.code n.subject.moment (first_told _ inv w.objects (acted inv w e).0.objects (found inv w e).clock n sent),
)
told_with inv w e n (inr sent) = (
  (let at = sent.moment in omega (arith, at, acted_clock inv w e, step_moment inv w e)),
  first_told ⊥ inv (acted inv w e).0.objects (step inv w e).0.objects (acted inv w e).0.clock n sent,
)

-- and a further notice with a later entry comes the interval later, or with a result of a volatile service
later_with : (inv : Configuration) (w : World) (e : Entry) (first : Subject) (n : Notice) → first.moment ≤ w.clock → IsTold w.objects n.subject.object n.subject.code first.moment
    → (AppliesOne inv e (step inv w e).1 (BeginsAnew n.subject.object n.subject.code) → ⊥) → IsSentWith inv w e n → IsIntervalLater inv n.subject.object n.subject.code first n.subject ⊎ IsVolatileResult inv n.subject.object e (step inv w e).1
unfolding step
later_with inv w e first n from told goes (inl sent) = second_later _ inv w.objects (acted inv w e).0.objects (found inv w e).clock first n told sent
later_with inv w e first n from told goes (inr sent) = elim (second_later ⊥ inv (acted inv w e).0.objects (step inv w e).0.objects (acted inv w e).0.clock first n
    (acted_told inv w e n.subject.object n.subject.code first.moment from goes told) sent) [
      | inl later ↦ inl later
      | inr never ↦ absurd never
    ]

pub no_problem_is_told_twice : (each : WhatIsDueHappens) (done : NothingIsLeft) → NoProblemIsToldTwice
no_problem_is_told_twice each done inv w first last between object code m n first_out of_first goes last_out of_last =
    let v : World = meaning_from inv (step inv w first).0 between in
    let Out = λ (u : World) (e : Entry) (x : Notice). x.subject.word ≡ words.Problem → IsSentWith inv u e x in
    let one = All-contains (Out w first) (went_out w (step inv w first).0) m (all_sent_with each done inv w first) first_out of_first.word_is in
    let two = All-contains (Out v last) (went_out v (step inv v last).0) n (all_sent_with each done inv v last) last_out of_last.word_is in
    let sent = told_with inv w first m one in
    let told : IsTold (step inv w first).0.objects object code m.subject.moment =
    subst (λ (k : ℕ). IsTold (step inv w first).0.objects object k m.subject.moment) of_first.code_is
    (subst (λ (x : ℕ). IsTold (step inv w first).0.objects x m.subject.code m.subject.moment) of_first.object_is sent.1) in
    let still = entries_told inv object code m.subject.moment (step inv w first).0 between last sent.0 goes told in
    let Begins = λ (x k : ℕ). AppliesOne inv last (step inv v last).1 (BeginsAnew x k) → ⊥ in
    let later = later_with inv v last m.subject n still.0
    (subst (λ (k : ℕ). IsTold v.objects n.subject.object k m.subject.moment) (sym of_last.code_is) (subst (λ (x : ℕ). IsTold v.objects x code m.subject.moment) (sym of_last.object_is) still.1))
    (subst (λ (k : ℕ). Begins n.subject.object k) (sym of_last.code_is) (subst (λ (x : ℕ). Begins x code) (sym of_last.object_is) still.2)) two in
    let Later = λ (x k : ℕ). IsIntervalLater inv x k m.subject n.subject ⊎ IsVolatileResult inv x last (step inv v last).1 in
    subst (λ (k : ℕ). Later object k) of_last.code_is (subst (λ (x : ℕ). Later x n.subject.code) of_last.object_is later)

-- ---- one PROBLEM of an object with an entry

abbrev sent_of : (object : ℕ) → List Notice → ℕ
sent_of object ns = count_by (is_problem_of object) ns

sent_join : (object : ℕ) (xs ys : List Notice) → sent_of object (xs ++ ys) ≡ sent_of object xs + sent_of object ys
sent_join object xs ys = sum_by-append (λ (n : Notice). cond (is_problem_of object n) 1 0) xs ys

sent_one : (object : ℕ) (n : Notice) → sent_of object (n ∷ []) ≡ cond (is_problem_of object n) 1 0
sent_one object n = (let one = sum_by-cons (λ (m : Notice). cond (is_problem_of object m) 1 0) n [] in omega (arith, one))

-- those of an object are among all
fewer : (object : ℕ) (ns : List Notice) → sent_of object ns ≤ count_by (λ n. is_problem_word n.subject.word) ns
fewer object [] = omega arith
fewer object (n ∷ ns) =
    let one = sum_by-cons (λ (m : Notice). cond (is_problem_of object m) 1 0) n ns in
    let all = sum_by-cons (λ (m : Notice). cond (is_problem_word m.subject.word) 1 0) n ns in
    let first = less (is_problem_word n.subject.word) (eqb n.subject.object object) in
    let rest = fewer object ns in
    omega (arith, one, all, first, rest)
  where
    less : (a b : Bool) → cond {A = ℕ} (a && b) 1 0 ≤ cond {A = ℕ} a 1 0
    less true true = omega arith
    less true false = omega arith
    less false b = omega arith

module _ (inv : Configuration) (v : World) (object : ℕ) where
  ready_of : (k : ℕ) (n : Notice) → ready_notice inv v k ≡ Some n → is_problem_of object n ≡ eqb k object
  ready_of k n is = (let ready = ready_says inv v k n is in problem_says (λ (m : Notice). is_problem_of object m ≡ eqb k object) inv v Clock k ready.0 ready.1 n ready.5 (λ cs. refl))

  -- another object is ready for no notice of this one
  none_of_other : (k : ℕ) → (k ≡ object → ⊥) → sent_of object (option_to_list (ready_notice inv v k)) ≡ 0
  none_of_other k other = by_ready (ready_notice inv v k) refl
    where
      by_ready : (r : Option Notice) → ready_notice inv v k ≡ r → sent_of object (option_to_list r) ≡ 0
      by_ready None is = refl
      by_ready (Some n) is = sent_one object n ∙ ap (λ (b : Bool). cond {A = ℕ} b 1 0) (ready_of k n is ∙ ne_eqb k object other)

  one_of_own : sent_of object (option_to_list (ready_notice inv v object)) ≤ cond (is_some (ready_notice inv v object)) 1 0
  one_of_own = by_ready (ready_notice inv v object)
    where
      at_most : (b : Bool) → cond {A = ℕ} b 1 0 ≤ 1
      at_most true = omega arith
      at_most false = omega arith

      by_ready : (r : Option Notice) → sent_of object (option_to_list r) ≤ cond {A = ℕ} (is_some r) 1 0
      by_ready None = omega arith
      by_ready (Some n) = (let one = sent_one object n in let most = at_most (is_problem_of object n) in omega (arith, one, most))

  none_before : (n : ℕ) → n ≤ object → sent_of object (ready_notices inv v n) ≡ 0
  none_before zero low = refl
  none_before (suc n) low =
      let next : n + 1 ≡ suc n = omega arith in
      let more = ap (sent_of object) (ap (ready_notices inv v) (sym next) ∙ notices_more inv v n) ∙ sent_join object (ready_notices inv v n) (option_to_list (ready_notice inv v n)) in
      let before = none_before n (omega (arith, low)) in
      let here = none_of_other n (λ same. absurd (omega (arith, low, same))) in
      omega (arith, more, before, here)

  -- the clock sends one where the object is ready, else none
  by_clock_at_most : (n : ℕ) → sent_of object (ready_notices inv v n) ≤ cond (is_some (ready_notice inv v object)) 1 0
  by_clock_at_most zero = omega arith
  by_clock_at_most (suc n) =
      let next : n + 1 ≡ suc n = omega arith in
      let more = ap (sent_of object) (ap (ready_notices inv v) (sym next) ∙ notices_more inv v n) ∙ sent_join object (ready_notices inv v n) (option_to_list (ready_notice inv v n)) in
      by_place (by_clock_at_most n) (eqb n object) refl more
    where
      by_place : sent_of object (ready_notices inv v n) ≤ cond (is_some (ready_notice inv v object)) 1 0 → (b : Bool) → eqb n object ≡ b → sent_of object (ready_notices inv v (suc n)) ≡ sent_of object (ready_notices inv v n) + sent_of object (option_to_list (ready_notice inv v n))
          → sent_of object (ready_notices inv v (suc n)) ≤ cond (is_some (ready_notice inv v object)) 1 0
      by_place before true is more =
          let same = eqb-true n object is in
          let none = none_before n (omega (arith, same)) in
          let here = subst (λ (k : ℕ). sent_of object (option_to_list (ready_notice inv v k)) ≤ cond (is_some (ready_notice inv v object)) 1 0) (sym same) one_of_own in
          omega (arith, more, none, here)
      by_place before false differs more =
          let here = none_of_other n (eqb-false n object differs) in
          omega (arith, more, before, here)

  -- after a PROBLEM of it the object is not ready at the same clock
  not_again : (ByItself : Type 0) (before : List Object) (clock : ℕ) (n : Notice) → v.clock ≡ clock → n.subject.object ≡ object → IsSentOf ByItself inv before v.objects clock n → ready_notice inv v object ≡ None
  not_again ByItself before clock n now is sent = by_ready (ready_notice inv v object) refl
    where
      by_ready : (r : Option Notice) → ready_notice inv v object ≡ r → ready_notice inv v object ≡ None
      by_ready None e = e
      by_ready (Some m) e =
          let ready = ready_says inv v object m e in
          let there : slice_get v.objects object ≡ Some sent.left = ap (slice_get v.objects) (sym is) ∙ sent.there in
          let next = sent.next in
          told_once inv v object ready.0 sent.left ready.2 there (omega (arith, next)) (sent.notified ∙ ap (λ (c : ℕ). Some c) (sym sent.code)) (sent.last ∙ ap (λ (c : ℕ). Some c) (sym now))

-- the notices of ends are of no problem
none_of_ends : (object : ℕ) (ns : List Notice) → All IsRecovery ns → sent_of object ns ≡ 0
none_of_ends object ns h = count_none (is_problem_of object) ns (All-weaker IsRecovery (λ n. is_problem_of object n ≡ false) (λ n is. ap (λ (word : Word). is_problem_word word && eqb n.subject.object object) is) ns h)

pub one_problem_an_object : (each : WhatIsDueHappens) (done : NothingIsLeft) → OneProblemAnObject
one_problem_an_object each done inv w e object = subst (λ (ns : List Notice). sent_of object (drop (length w.notices) ns) ≤ 1) (sym (step_notices inv w e)) (clock_cases inv m (λ (u : World). sent_of object (went_out w u) ≤ 1)
    (let some = of_act in let is = ap (sent_of object) went_before ∙ sent_join object (went_out w v) ends.0 in let none = none_of_ends object ends.0 ends.2 in omega (arith, some, is, none))
    (λ u tells. (let all : went_out w u ≡ (went_out w v ++ ends.0) ++ ready_notices inv m (length inv.objects) =
    ap (drop (length w.notices)) (ap (λ (x : World). x.notices) tells.same ∙ ap (λ (x : List Notice). x ++ ready_notices inv m (length inv.objects)) before ∙ append_assoc w.notices (went_out w v ++ ends.0) (ready_notices inv m (length inv.objects)))
    ∙ drop_front w.notices ((went_out w v ++ ends.0) ++ ready_notices inv m (length inv.objects)) in
    subst (λ (ns : List Notice). sent_of object ns ≤ 1) (sym all) (both (is_some (ready_notice inv m object)) refl))))
  where
    v : World
    v = (acted inv w e).0

    m : World
    m = told_ends inv v

    ends : More IsRecovery v.notices m.notices
    ends = ends_more inv v

    before : m.notices ≡ w.notices ++ (went_out w v ++ ends.0)
    before = ends.1 ∙ ap (λ (x : List Notice). x ++ ends.0) (acted_grows inv w e) ∙ append_assoc w.notices (went_out w v) ends.0

    went_before : went_out w m ≡ went_out w v ++ ends.0
    went_before = ap (drop (length w.notices)) before ∙ drop_front w.notices (went_out w v ++ ends.0)

    of_act : sent_of object (went_out w v) ≤ 1
    of_act = (let some = fewer object (went_out w v) in let one = one_problem_an_entry inv w e in omega (arith, some, one))

    both : (b : Bool) → is_some (ready_notice inv m object) ≡ b → sent_of object ((went_out w v ++ ends.0) ++ ready_notices inv m (length inv.objects)) ≤ 1
    both false none =
        let sum = sent_join object (went_out w v ++ ends.0) (ready_notices inv m (length inv.objects)) in
        let first = sent_join object (went_out w v) ends.0 in
        let ended = none_of_ends object ends.0 ends.2 in
        let clock = by_clock_at_most inv m object (length inv.objects) in
        let zero_more = ap (λ (b : Bool). cond {A = ℕ} b 1 0) none in
        let act = of_act in
        omega (arith, sum, first, ended, clock, zero_more, act)
    both true ready =
        let sum = sent_join object (went_out w v ++ ends.0) (ready_notices inv m (length inv.objects)) in
        let first = sent_join object (went_out w v) ends.0 in
        let ended = none_of_ends object ends.0 ends.2 in
        let clock = by_clock_at_most inv m object (length inv.objects) in
        let one_more = ap (λ (b : Bool). cond {A = ℕ} b 1 0) ready in
        let act = count_none (is_problem_of object) (went_out w v) (All-weaker (λ n. n.subject.word ≡ words.Problem → IsProblemOn inv w e (acted inv w e) n) (λ n. is_problem_of object n ≡ false) (λ n h. not_of n h (is_problem_of object n) refl) (went_out w v) (all_problems each done inv w e)) in
        omega (arith, sum, first, ended, clock, one_more, act)
      where
        not_of : (n : Notice) → (n.subject.word ≡ words.Problem → IsProblemOn inv w e (acted inv w e) n) → (b : Bool) → is_problem_of object n ≡ b → b ≡ false
        not_of n h false is = refl
        not_of n h true is =
            let parts = and_parts (is_problem_word n.subject.word) (eqb n.subject.object object) is in
            let none = not_again inv m object _ w.objects (found inv w e).clock n (ap (λ (x : World). x.clock) (ends_leave inv v) ∙ acted_clock inv w e ∙ sym (found_clock inv w e)) (eqb-true n.subject.object object parts.1) (sent_as _ inv w.objects w.objects v.objects m.objects (found inv w e).clock (found inv w e).clock n refl (sym (ends_objects inv v)) refl (sent_by_act inv w e (acted inv w e) n (h (problem_word n.subject.word parts.0)))) in
            absurd (true≢false (sym ready ∙ ap is_some none))
