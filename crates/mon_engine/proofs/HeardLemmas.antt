-- The end goes to who heard the beginning: who is owed an end after each entry, and after a journal.
use Rattle.std.proofs.Common.{◌≡◌, ◌⊎◌, ◌↔◌, inl, inr, ℕ, zero, suc, ◌+◌, ◌<◌, ◌≤◌, Bool, true, false, true≢false, not, ◌&&◌, ◌||◌, eqb, nat_lt, cond, if◌then◌else◌, List, [], ◌∷◌, ◌++◌, length, drop, map, fold, Option, Some, Contains, All, slice_get, refl, ap, sym, ◌∙◌, subst, append_assoc, append-nil, arith}
use Rattle.std.specs.Prelude.{count_by}
use Rattle.std.specs.List.{range_with_len}
use Rattle.std.proofs.lemmas.Bool.{and_parts, eq-eqb, eqb-true, ltb-true, or_right}
use Rattle.std.proofs.lemmas.List.{same_from_push}
use Rattle.std.proofs.lemmas.List.Elements.{All-weaker, All-append, All-filter, filter_passes, Contains-append_left, Contains-append_right}
use Rattle.std.proofs.lemmas.Option.{slice_get_cases}
use Rattle.cmd_types.specs.declared.entry.Entry.{Entry}
use Rattle.mon_checks.specs.declared.status.Status.{Status}
use Rattle.mon_downtime.specs.Clock.{WhatIsDueHappens, NothingIsLeft}
use Rattle.mon_downtime.specs.Records.{depth_of}
use Rattle.mon_inventory.specs.declared.records.ObjectSpec.{ObjectSpec}
use Rattle.mon_inventory.specs.Configuration.{Configuration, recovers_the_told}
use Rattle.mon_notify.specs.declared.contacts.ContactSwitch.{ContactSwitch}
use Rattle.mon_notify.specs.declared.letter.Letter.TheVariants.{R}
use Rattle.mon_notify.specs.Ends.{hears, is_within_reach, reaches_one}
use Rattle.mon_notify.specs.Escalations.{has_contact}
use Rattle.mon_engine.specs.declared.ends.Owed.{Owed}
use Rattle.mon_engine.specs.declared.notice.Notice.{Notice}
use Rattle.mon_engine.specs.declared.notice.Subject.{Subject}
use Rattle.mon_engine.specs.declared.notice.Word.{Word}
use Rattle.mon_engine.specs.declared.notice.Word.TheVariants as words
use Rattle.mon_engine.specs.declared.notices.Occasion.TheVariants.{Clock}
use Rattle.mon_engine.specs.declared.object.Moments.{Moments}
use Rattle.mon_engine.specs.declared.object.Object.{Object}
use Rattle.mon_engine.specs.ByClock.{told_by_clock}
use Rattle.mon_engine.specs.EndLaws.{is_recovery_of, is_recovery_word, EndsChangeNothingElse, OneRecoveryAnObject, TellsAnEnd, TheEndHasTheNumberOfTheProblem, ARecoveryGoesToWhoIsOwedIt, GoesOut, HeardTheBeginning, IsHeldBack, IsOldNews, IsOwed, NobodyIsOwedWhoCouldBeTold, TheEndGoesToWhoHeardTheBeginning}
use Rattle.mon_engine.specs.Ends.{is_end_due, is_news, may_end, owed_at, owed_of, owes, owing, told_ends, week}
use Rattle.mon_engine.specs.NoticeLaws.{went_out, IsInNoDowntime}
use Rattle.mon_engine.specs.Notices.{facts, subject_of}
use Rattle.mon_engine.specs.Objects.{after_told, is_service}
use Rattle.mon_engine.specs.Owed.{initial_owed}
use Rattle.mon_engine.specs.Step.{acted, meaning, meaning_from, step, stood}
use Rattle.mon_engine.specs.World.{World, initial}
use Rattle.mon_engine.proofs.ByClockLemmas.{clock_cases, clock_leaves, clock_more, clock_object, ready_says}
use Rattle.mon_engine.proofs.EndLemmas.{due_at, ends_leave, ends_objects, ends_on, owing_due, owing_leaves, step_clock, step_leaves, step_notices, step_objects, IsOfOneThatStands}
use Rattle.mon_engine.proofs.ForgottenLemmas.{acted_grows}
use Rattle.mon_engine.proofs.NewsLemmas.{More, drop_front, more_same}
use Rattle.mon_engine.proofs.OwedLemmas.{each_long, ends_number, owes_number, recoveries_join, recovery_word, acted_owed, are_told, each_has, end_reaches, heard_of, not_nobody, not_told, one_passes, owes_cases, owes_keeps, owes_long, owes_reaches, still_owed_to, was_owed, AreTold, Has, IsDue, IsEnd, IsEnded}
use Rattle.mon_engine.proofs.ReachedLemmas.{opened, someone_is, IsOpen}
use Rattle.mon_engine.proofs.CountLemmas.{count_none}
use Rattle.mon_engine.proofs.RepeatLemmas.{problem_says}
use Rattle.mon_engine.proofs.ResumedLemmas.{meaning_joins}
use Rattle.mon_engine.proofs.SilenceLemmas.{in_none, none_recovers}
use Rattle.mon_engine.proofs.StepLemmas.{IsOfProblem, problems_stand}
use Rattle.mon_engine.proofs.WakeLemmas.{stood_idle}

-- ---- an entry

-- the notices of an entry: of what it does, of ends, and of problems by the clock
module _ (each : WhatIsDueHappens) (done : NothingIsLeft) (inv : Configuration) (w : World) (e : Entry) (on : recovers_the_told inv ≡ true) where
  abbrev by_act : World
  by_act = (acted inv w e).0

  abbrev by_end : World
  by_end = told_ends inv by_act

  abbrev left : World
  left = (step inv w e).0

  abbrev IsProblem : Notice → Type 0
  IsProblem n = n.subject.word ≡ words.Problem

  pub heard : AreTold inv by_act (length inv.objects) by_end.notices by_end.owed
  heard = subst (λ (u : World). AreTold inv by_act (length inv.objects) u.notices u.owed) (sym (ends_on inv by_act on)) (are_told inv by_act (length inv.objects))

  pub clock_problems : More IsProblem by_end.notices (told_by_clock inv by_end).notices
  clock_problems = clock_cases inv by_end (λ (u : World). More IsProblem by_end.notices u.notices) (more_same IsProblem by_end.notices)
      (λ u tells. clock_more inv by_end u IsProblem tells (λ k n ready. (let says = ready_says inv by_end k n ready in problem_says IsProblem inv by_end Clock k says.0 says.1 n says.5 (λ cs. refl))))

  pub went_is : went_out w left ≡ went_out w by_act ++ (heard.sent.0 ++ clock_problems.0)
  went_is = ap (drop (length w.notices)) all ∙ drop_front w.notices (went_out w by_act ++ (heard.sent.0 ++ clock_problems.0))
    where
      all : left.notices ≡ w.notices ++ (went_out w by_act ++ (heard.sent.0 ++ clock_problems.0))
      all = step_notices inv w e ∙ clock_problems.1 ∙ ap (λ (ns : List Notice). ns ++ clock_problems.0) (heard.sent.1 ∙ ap (λ (ns : List Notice). ns ++ heard.sent.0) (acted_grows inv w e))
          ∙ append_assoc (w.notices ++ went_out w by_act) heard.sent.0 clock_problems.0 ∙ append_assoc w.notices (went_out w by_act) (heard.sent.0 ++ clock_problems.0)

  recoveries : All (λ n. n.subject.word ≡ words.Recovery → IsEnd inv by_act n.subject.object n) (went_out w left)
  recoveries = subst (All Ends) (sym went_is) (All-append Ends (went_out w by_act) (heard.sent.0 ++ clock_problems.0)
      (All-weaker (λ n. n.subject.word ≡ words.Recovery → recovers_the_told inv ≡ false) Ends (λ n off word. absurd (true≢false (sym on ∙ off word))) (went_out w by_act) (none_recovers each done inv w e))
      (All-append Ends heard.sent.0 clock_problems.0 (All-weaker (λ n. IsEnd inv by_act n.subject.object n) Ends (λ n end word. end) heard.sent.0 heard.sent.2)
      (All-weaker IsProblem Ends (λ n is word. absurd (let same = sym is ∙ word in cc)) clock_problems.0 clock_problems.2)))
    where
      Ends : Notice → Type 0
      Ends n = n.subject.word ≡ words.Recovery → IsEnd inv by_act n.subject.object n

  owed_before : (k : ℕ) → owed_at by_act k ≡ owed_at w k
  owed_before k = ap (λ (owed : List Owed). owed_of (slice_get owed k)) (acted_owed inv w e)

  pub owed_now : left.owed ≡ fold (owes inv) by_end.owed (went_out w left)
  unfolding step owing
  owed_now = (let u : World = told_by_clock inv by_end in
      ap (λ (b : Bool). (if b then record u { owed = fold (owes inv) u.owed (drop (length w.notices) u.notices) } else u).owed) on
      ∙ ap (λ (owed : List Owed). fold (owes inv) owed (drop (length w.notices) u.notices)) (ap (λ (x : World). x.owed) (clock_leaves inv by_end))
      ∙ ap (λ (ns : List Notice). fold (owes inv) by_end.owed (drop (length w.notices) ns)) (sym (step_notices inv w e)))

  -- an end that goes out to the contact, as it was found
  end_of : (k c : ℕ) → (g : GoesOut inv w e words.Recovery k c) → IsEnd inv by_act k g.notice
  end_of k c g = subst (λ (j : ℕ). IsEnd inv by_act j g.notice) g.object_is
      (subst (λ (n : Notice). n.subject.word ≡ words.Recovery → IsEnd inv by_act n.subject.object n) g.out.2 (recoveries g.out.0 g.notice g.out.1) g.word_is)

  -- no end is due any more
  none_due : (k : ℕ) → is_end_due inv left k ≡ false
  unfolding step
  none_due k = (let u : World = stood inv by_act in
      ap (λ (c : ℕ). is_end_due inv (record left { clock = c }) k) (ap (λ (x : World). x.clock) (owing_leaves inv (length w.notices) u))
      ∙ owing_due inv (length w.notices) u k u.clock (All-weaker (IsOfProblem u) (IsOfOneThatStands u) (λ n h word o at. (h word o at).0) (drop (length w.notices) u.notices) (problems_stand each done inv w e))
      ∙ (stood_idle inv by_act k).ending on)

  -- a problem that goes out is of an object that stands
  problem_is_news : (k c : ℕ) → GoesOut inv w e words.Problem k c → IsOldNews left k → ⊥
  problem_is_news k c g old = (let u : World = stood inv by_act in
      let stands : IsOfProblem u g.notice = subst (IsOfProblem u) g.out.2
      (subst (λ (ns : List Notice). All (IsOfProblem u) (drop (length w.notices) ns)) (sym (step_notices inv w e)) (problems_stand each done inv w e) g.out.0 g.notice g.out.1) in
      (stands g.word_is old.of (ap (λ (j : ℕ). slice_get u.objects j) g.object_is ∙ ap (λ (os : List Object). slice_get os k) (sym (step_objects inv w e)) ∙ old.there)).0 old.good)

  -- the object as it was left, by what the entry did of it
  left_as : (k : ℕ) (o : Object) → slice_get by_act.objects k ≡ Some o → o.status.code ≡ 0 → is_news by_act.clock o ≡ false → IsOldNews left k
  left_as k o at good old = elim (clock_object inv by_end k o (ap (λ (os : List Object). slice_get os k) (ends_objects inv by_act) ∙ at)) [
    | inl same ↦ record { of = o; there = now ∙ same; good = good; old = ap (λ (c : ℕ). is_news c o) (step_clock inv w e) ∙ old }
    | inr told ↦ record { of = after_told by_end.clock o; there = now ∙ told.0; good = good; old = ap (λ (c : ℕ). is_news c o) (step_clock inv w e) ∙ old }
  ]
    where
      now : slice_get left.objects k ≡ slice_get (told_by_clock inv by_end).objects k
      now = ap (λ (os : List Object). slice_get os k) (step_objects inv w e)

  module _ (long : length w.owed ≡ length inv.objects) where
    ended : (k : ℕ) → k < length inv.objects → IsEnded inv by_act k heard.sent.0 (slice_get by_end.owed k)
    ended k low = heard.each k low

    -- somebody is owed the end of an object of the inventory alone
    of_inventory : (k c : ℕ) (owed : List Owed) → length owed ≡ length inv.objects → Has inv k c owed → k < length inv.objects
    of_inventory k c owed many h = elim (slice_get_cases owed k).1 [
      | inl x ↦ (let low = x.1 in omega (arith, low, many))
      | inr past ↦ absurd (true≢false (sym h ∙ ap (λ (r : Option Owed). has_contact c (owed_of r).contacts) past.1))
    ]

    ends_long : length by_end.owed ≡ length inv.objects
    ends_long = ap (λ (u : World). length u.owed) (ends_on inv by_act on) ∙ each_long inv (range_with_len 0 (length inv.objects)) by_act ∙ ap (λ (owed : List Owed). length owed) (acted_owed inv w e) ∙ long

    step_long : length left.owed ≡ length inv.objects
    step_long = ap (λ (owed : List Owed). length owed) owed_now ∙ owes_long inv (went_out w left) by_end.owed ∙ ends_long

    -- whoever is owed the end was notified of the problem with the entry, or was owed it, and no end was told
    owed_from : (k c : ℕ) → IsOwed left k c → ((hears inv k c ≡ true) × GoesOut inv w e words.Problem k c) ⊎ (IsOwed w k c × (GoesOut inv w e words.Recovery k c → ⊥) × (IsOldNews left k → ⊥))
    owed_from k c h = elim (owes_cases inv k c (went_out w left) by_end.owed (ap (λ (owed : List Owed). has_contact c (owed_of (slice_get owed k)).contacts) (sym owed_now) ∙ h)) [
      | inr told ↦ inl (told.hears, record { notice = told.notice; out = told.in_them; word_is = told.word_is; object_is = told.object_is; to = told.to })
      | inl was ↦ (let low = of_inventory k c by_end.owed ends_long was in inr (
        ap (λ (x : Owed). has_contact c x.contacts) (sym (owed_before k)) ∙ was_owed inv by_act k c heard.sent.0 (slice_get by_end.owed k) (ended k low) was,
        λ g. not_told inv by_act k c heard.sent.0 (slice_get by_end.owed k) g.notice (ended k low) was (end_of k c g) g.to,
        λ old. not_old low old,
      ))
    ]
      where
        not_old : k < length inv.objects → IsOldNews left k → ⊥
        not_old low old = elim (slice_get_cases inv.objects k).1 [
          | inl spec ↦ true≢false (sym (due_at inv left k spec.0 old.of spec.2 old.there
              ∙ ap (λ (b : Bool). b && nat_lt 0 (length (owed_at left k).contacts) && (not (is_news left.clock old.of) || (may_end inv left k spec.0 old.of && reaches_one inv left.contacts k (owed_at left k).contacts))) (eq-eqb old.of.status.code 0 old.good)
              ∙ ap (λ (b : Bool). b && (not (is_news left.clock old.of) || (may_end inv left k spec.0 old.of && reaches_one inv left.contacts k (owed_at left k).contacts))) (not_nobody c (owed_at left k).contacts h)
              ∙ ap (λ (b : Bool). not b || (may_end inv left k spec.0 old.of && reaches_one inv left.contacts k (owed_at left k).contacts)) old.old) ∙ none_due k)
          | inr past ↦ (let far = past.0 in omega (arith, low, far))
        ]

    owed_for_problem : (k c : ℕ) → hears inv k c ≡ true → GoesOut inv w e words.Problem k c → IsOwed left k c
    owed_for_problem k c hear g = ap (λ (owed : List Owed). has_contact c (owed_of (slice_get owed k)).contacts) owed_now
        ∙ owes_reaches inv k c (went_out w left) by_end.owed (record { notice = g.notice; in_them = g.out; word_is = g.word_is; object_is = g.object_is; to = g.to; hears = hear }) (let low = (heard_of inv k c hear).0 in let many = ends_long in omega (arith, low, many))

    owed_on : (k c : ℕ) → c < length inv.contacts → IsOwed w k c → (GoesOut inv w e words.Recovery k c → ⊥) → (IsOldNews left k → ⊥) → IsOwed left k c
    owed_on k c there was untold news = ap (λ (owed : List Owed). has_contact c (owed_of (slice_get owed k)).contacts) owed_now
        ∙ owes_keeps inv k c (went_out w left) by_end.owed there
        (still_owed_to inv by_act k c heard.sent.0 (slice_get by_end.owed k) (ended k (of_inventory k c w.owed long was)) (ap (λ (x : Owed). has_contact c x.contacts) (owed_before k) ∙ was)
        (λ d stale. news (left_as k d.of d.there (is_good d) stale)) (λ n out word is to. untold (record { notice = n; out = goes n out; word_is = word; object_is = is; to = to })))
      where
        is_good : (d : IsDue inv by_act k) → d.of.status.code ≡ 0
        is_good d = eqb-true d.of.status.code 0 (and_parts (eqb d.of.status.code 0) (nat_lt 0 (length (owed_at by_act k).contacts)) (and_parts (eqb d.of.status.code 0 && nat_lt 0 (length (owed_at by_act k).contacts)) _ d.due).0).0

        goes : (n : Notice) → Contains heard.sent.0 n → Contains (went_out w left) n
        goes n out = subst (λ (ns : List Notice). Contains ns n) (sym went_is) (Contains-append_right (went_out w by_act) (heard.sent.0 ++ clock_problems.0) n (Contains-append_left heard.sent.0 clock_problems.0 n out))

-- ---- with one entry

-- the end that goes out, by the world that the entry leaves
right_end : (each : WhatIsDueHappens) (done : NothingIsLeft) (inv : Configuration) (w : World) (e : Entry) → recovers_the_told inv ≡ true → (n : Notice) → IsEnd inv (acted inv w e).0 n.subject.object n → TellsAnEnd inv w (step inv w e).0 n
right_end each done inv w e on n (d, news, is) = elim (clock_object inv m k d.of (ap (λ (os : List Object). slice_get os k) (ends_objects inv v) ∙ d.there)) [
  | inl same ↦ of_object d.of (now ∙ same) refl refl refl
  | inr told ↦ of_object (after_told m.clock d.of) (now ∙ told.0) refl refl refl
]
  where
    k : ℕ
    k = n.subject.object

    v : World
    v = (acted inv w e).0

    m : World
    m = told_ends inv v

    s : World
    s = (step inv w e).0

    xs : List ℕ
    xs = (owed_at v k).contacts

    leaves : s ≡ record v { objects = s.objects; notices = s.notices; owed = s.owed }
    leaves = step_leaves inv w e

    now : slice_get s.objects k ≡ slice_get (told_by_clock inv m).objects k
    now = ap (λ (os : List Object). slice_get os k) (step_objects inv w e)

    of_due : (eqb d.of.status.code 0 ≡ true) × (may_end inv v k d.spec d.of ≡ true)
    of_due = (let parts = and_parts (eqb d.of.status.code 0 && nat_lt 0 (length xs)) (not (is_news v.clock d.of) || (may_end inv v k d.spec d.of && reaches_one inv v.contacts k xs)) d.due in (
      (and_parts (eqb d.of.status.code 0) (nat_lt 0 (length xs)) parts.0).0,
      (and_parts (may_end inv v k d.spec d.of) (reaches_one inv v.contacts k xs) (sym (ap (λ (b : Bool). not b || (may_end inv v k d.spec d.of && reaches_one inv v.contacts k xs)) news) ∙ parts.1)).0,
    ))

    opens : IsOpen (facts inv v k d.spec d.of R)
    opens = opened (facts inv v k d.spec d.of R) of_due.1

    good : d.of.status.code ≡ 0
    good = eqb-true d.of.status.code 0 of_due.0

    said : Subject
    said = subject_of v.clock words.Recovery k d.of (owed_at v k).number

    of_object : (o : Object) → slice_get s.objects k ≡ Some o → o.status ≡ d.of.status → o.moments ≡ d.of.moments → o.notify ≡ d.of.notify → TellsAnEnd inv w s n
    of_object o there status moments notify = record {
      of = o;
      there = there;
      good = ap (λ (x : Status). x.code) status ∙ good;
      news = (let less = ltb-true v.clock (d.of.moments.changed + week) news in let clock = step_clock inv w e in let changed = ap (λ (x : Moments). x.changed) moments in omega (arith, less, clock, changed));
      program_on = ap (λ (x : World). x.program.notifications) leaves ∙ opens.program_on;
      object_on = notify ∙ opens.object_on;
      no_downtime = in_none inv s v k d.spec d.known (sym (ap (λ (x : World). x.downtimes) leaves)) opens.depth opens.host_depth;
      owed = subst (λ (x : Owed). All (λ c. has_contact c x.contacts ≡ true) n.contacts) (owed_before each done inv w e on k)
          (subst (All (λ c. has_contact c xs ≡ true)) (sym (end_reaches inv v k d.of (owed_at v k) n is)) (All-filter (is_within_reach inv v.contacts k) (λ c. has_contact c xs ≡ true) xs (each_has xs)));
      reached = subst (λ (switches : List ContactSwitch). All (λ c. is_within_reach inv switches k c ≡ true) n.contacts) (sym (ap (λ (x : World). x.contacts) leaves))
          (subst (All (λ c. is_within_reach inv v.contacts k c ≡ true)) (sym (end_reaches inv v k d.of (owed_at v k) n is)) (filter_passes (is_within_reach inv v.contacts k) xs));
      number = someone_is (λ x. x.subject.number ≡ (owed_at v k).number) said _ n is refl ∙ ap (λ (x : Owed). x.number) (owed_before each done inv w e on k);
      moment = someone_is (λ x. x.subject.moment ≡ v.clock) said _ n is refl ∙ sym (step_clock inv w e);
      code = someone_is (λ x. x.subject.code ≡ d.of.status.code) said _ n is refl ∙ good;
    }

pub a_recovery_goes_to_who_is_owed_it : (each : WhatIsDueHappens) (done : NothingIsLeft) → ARecoveryGoesToWhoIsOwedIt
a_recovery_goes_to_who_is_owed_it each done inv w e on = All-weaker (λ n. n.subject.word ≡ words.Recovery → IsEnd inv (acted inv w e).0 n.subject.object n) (λ n. n.subject.word ≡ words.Recovery → TellsAnEnd inv w (step inv w e).0 n)
    (λ n end word. right_end each done inv w e on n (end word)) (went_out w (step inv w e).0) (recoveries each done inv w e on)

pub one_recovery_an_object : (each : WhatIsDueHappens) (done : NothingIsLeft) → OneRecoveryAnObject
one_recovery_an_object each done inv w e k on = subst (λ (ns : List Notice). count_by (is_recovery_of k) ns ≤ 1) (sym (went_is each done inv w e on))
    (let first = recoveries_join k (went_out w v) (ends.sent.0 ++ last.0) in
    let second = recoveries_join k ends.sent.0 last.0 in
    let by_act = count_none (is_recovery_of k) (went_out w v) (All-weaker (λ n. n.subject.word ≡ words.Recovery → recovers_the_told inv ≡ false) (λ n. is_recovery_of k n ≡ false) (λ n off. none n (is_recovery_of k n) refl off) (went_out w v) (none_recovers each done inv w e)) in
    let by_clock = count_none (is_recovery_of k) last.0 (All-weaker (λ n. n.subject.word ≡ words.Problem) (λ n. is_recovery_of k n ≡ false) (λ n is. ap (λ (word : Word). is_recovery_word word && eqb n.subject.object k) is) last.0 last.2) in
    let some = ends.once k in
    let most = at_most (nat_lt k (length inv.objects)) in
    omega (arith, first, second, by_act, by_clock, some, most))
  where
    v : World
    v = (acted inv w e).0

    ends : AreTold inv v (length inv.objects) (told_ends inv v).notices (told_ends inv v).owed
    ends = heard each done inv w e on

    last : More (λ n. n.subject.word ≡ words.Problem) (told_ends inv v).notices (told_by_clock inv (told_ends inv v)).notices
    last = clock_problems each done inv w e on

    at_most : (b : Bool) → cond {A = ℕ} b 1 0 ≤ 1
    at_most true = omega arith
    at_most false = omega arith

    none : (n : Notice) (b : Bool) → is_recovery_of k n ≡ b → (n.subject.word ≡ words.Recovery → recovers_the_told inv ≡ false) → b ≡ false
    none n false is off = refl
    none n true is off = absurd (true≢false (sym on ∙ off (recovery_word n.subject.word (and_parts (is_recovery_word n.subject.word) (eqb n.subject.object k) is).0)))

pub the_end_has_the_number_of_the_problem : (each : WhatIsDueHappens) (done : NothingIsLeft) → TheEndHasTheNumberOfTheProblem
the_end_has_the_number_of_the_problem each done inv w e k on low = elim (owes_number inv k (went_out w s) m.owed (omega (arith, long, low))) [
  | inl none ↦ inl (none.0, ap (λ (owed : List Owed). (owed_of (slice_get owed k)).number) now ∙ none.1 ∙ before)
  | inr some ↦ inr (some.0, some.1, some.2, ap (λ (owed : List Owed). (owed_of (slice_get owed k)).number) now ∙ some.3)
]
  where
    s : World
    s = (step inv w e).0

    v : World
    v = (acted inv w e).0

    m : World
    m = told_ends inv v

    now : s.owed ≡ fold (owes inv) m.owed (went_out w s)
    now = owed_now each done inv w e on

    before : (owed_of (slice_get m.owed k)).number ≡ (owed_at w k).number
    before = ap (λ (u : World). (owed_of (slice_get u.owed k)).number) (ends_on inv v on) ∙ ends_number inv v (range_with_len 0 (length inv.objects)) k ∙ ap (λ (owed : List Owed). (owed_of (slice_get owed k)).number) (acted_owed inv w e)

    long : length m.owed ≡ length w.owed
    long = ap (λ (u : World). length u.owed) (ends_on inv v on) ∙ each_long inv (range_with_len 0 (length inv.objects)) v ∙ ap (λ (owed : List Owed). length owed) (acted_owed inv w e)

pub ends_change_nothing_else : EndsChangeNothingElse
ends_change_nothing_else inv w = ends_leave inv w

pub nobody_is_owed_who_could_be_told : (each : WhatIsDueHappens) (done : NothingIsLeft) → NobodyIsOwedWhoCouldBeTold
nobody_is_owed_who_could_be_told each done inv w e k c spec o on known at good owed = (not-false (is_news s.clock o) (first_of (not (is_news s.clock o)) _ withheld), by_reach (is_within_reach inv s.contacts k c) refl)
  where
    s : World
    s = (step inv w e).0

    xs : List ℕ
    xs = (owed_at s k).contacts

    -- what is left of the test that an end is due
    withheld : (not (is_news s.clock o) || (may_end inv s k spec o && reaches_one inv s.contacts k xs)) ≡ false
    withheld = sym (due_at inv s k spec o known at
        ∙ ap (λ (b : Bool). b && nat_lt 0 (length xs) && (not (is_news s.clock o) || (may_end inv s k spec o && reaches_one inv s.contacts k xs))) (eq-eqb o.status.code 0 good)
        ∙ ap (λ (b : Bool). b && (not (is_news s.clock o) || (may_end inv s k spec o && reaches_one inv s.contacts k xs))) (not_nobody c xs owed))
        ∙ none_due each done inv w e on k

    first_of : (a b : Bool) → (a || b) ≡ false → a ≡ false
    first_of false b is = refl
    first_of true b is = is

    not-false : (b : Bool) → not b ≡ false → b ≡ true
    not-false true is = refl
    not-false false is = absurd (true≢false is)

    closed : is_within_reach inv s.contacts k c ≡ true → may_end inv s k spec o ≡ false
    closed within = by_open (may_end inv s k spec o) refl
      where
        by_open : (b : Bool) → may_end inv s k spec o ≡ b → b ≡ false
        by_open false is = refl
        by_open true is = absurd (true≢false (sym (or_right (not (is_news s.clock o)) (may_end inv s k spec o && reaches_one inv s.contacts k xs)
            (ap (λ (b : Bool). b && reaches_one inv s.contacts k xs) is ∙ one_passes (is_within_reach inv s.contacts k) c xs owed within)) ∙ withheld))

    held : may_end inv s k spec o ≡ false → IsHeldBack inv s k o
    held shut = by_program s.program.notifications refl o.notify refl
      where
        by_program : (p : Bool) → s.program.notifications ≡ p → (q : Bool) → o.notify ≡ q → IsHeldBack inv s k o
        by_program false off q is = inl off
        by_program true run false off = inr (inl off)
        by_program true run true is = inr (inr (λ none. true≢false (sym (
            ap (λ (b : Bool). b && o.notify && eqb (depth_of s.downtimes k) 0 && eqb (if is_service spec then depth_of s.downtimes spec.host_object else 0) 0) run
            ∙ ap (λ (b : Bool). b && eqb (depth_of s.downtimes k) 0 && eqb (if is_service spec then depth_of s.downtimes spec.host_object else 0) 0) is
            ∙ ap (λ (n : ℕ). eqb n 0 && eqb (if is_service spec then depth_of s.downtimes spec.host_object else 0) 0) none.depth
            ∙ ap (λ (n : ℕ). eqb n 0) (host none (is_service spec) refl)) ∙ shut)))
          where
            host : IsInNoDowntime inv s k → (b : Bool) → is_service spec ≡ b → (if b then depth_of s.downtimes spec.host_object else 0) ≡ 0
            host none true is = none.host_depth spec known is
            host none false is = refl

    by_reach : (b : Bool) → is_within_reach inv s.contacts k c ≡ b → IsHeldBack inv s k o ⊎ (is_within_reach inv s.contacts k c ≡ false)
    by_reach true within = inl (held (closed within))
    by_reach false out = inr out

-- ---- after a journal

nil_not_parts : {A : Type 0} (xs ys : List A) (y : A) → [] ≡ xs ++ y ∷ ys → ⊥
nil_not_parts [] ys y is = cc
nil_not_parts (x ∷ xs) ys y is = cc

nil_part : {A : Type 0} (xs ys : List A) → [] ≡ xs ++ ys → xs ≡ []
nil_part [] ys is = refl
nil_part (x ∷ xs) ys is = absurd (cc)

-- a list is empty or has a last item
by_last : {A : Type 0} (P : List A → Type 0) → P [] → ((ys : List A) (y : A) → P (ys ++ y ∷ [])) → (xs : List A) → P xs
by_last P none some [] = none
by_last P none some (x ∷ xs) = by_last (λ ys. P (x ∷ ys)) (some [] x) (λ ys y. some (x ∷ ys) y) xs

first_nobody : (specs : List ObjectSpec) (k : ℕ) → (owed_of (slice_get (map initial_owed specs) k)).contacts ≡ []
first_nobody [] k = refl
first_nobody (spec ∷ specs) zero = refl
first_nobody (spec ∷ specs) (suc k) = first_nobody specs k

first_long : (specs : List ObjectSpec) → length (map initial_owed specs) ≡ length specs
first_long [] = refl
first_long (spec ∷ specs) = ap suc (first_long specs)

module _ (each : WhatIsDueHappens) (done : NothingIsLeft) (inv : Configuration) (on : recovers_the_told inv ≡ true) (k c : ℕ) where
  -- what is said of one journal
  abbrev Exactly : List Entry → Type 0
  Exactly journal = IsOwed (meaning inv journal) k c ↔ HeardTheBeginning inv journal k c

  -- what goes out with an entry after a journal, and what it leaves
  abbrev Recovers : List Entry → Entry → Type 0
  Recovers journal e = GoesOut inv (meaning inv journal) e words.Recovery k c

  abbrev IsOld : List Entry → Type 0
  IsOld journal = IsOldNews (meaning inv journal) k

  one_more : (journal : List Entry) (e : Entry) → meaning inv (journal ++ e ∷ []) ≡ (step inv (meaning inv journal) e).0
  unfolding meaning_from
  one_more journal e = meaning_joins inv (initial inv) journal (e ∷ [])

  all_long : (journal rest : List Entry) → length (meaning inv journal).owed ≡ length inv.objects → length (meaning inv (journal ++ rest)).owed ≡ length inv.objects
  all_long journal [] long = subst (λ (es : List Entry). length (meaning inv es).owed ≡ length inv.objects) (sym (append-nil journal)) long
  all_long journal (e ∷ rest) long = subst (λ (es : List Entry). length (meaning inv es).owed ≡ length inv.objects) (append_assoc journal (e ∷ []) rest)
      (all_long (journal ++ e ∷ []) rest (ap (λ (w : World). length w.owed) (one_more journal e) ∙ step_long each done inv (meaning inv journal) e on long))

  first_world_long : length (meaning inv []).owed ≡ length inv.objects
  unfolding meaning_from initial
  first_world_long = first_long inv.objects

  long : (journal : List Entry) → length (meaning inv journal).owed ≡ length inv.objects
  long journal = all_long [] journal first_world_long

  at_first : Exactly []
  unfolding meaning_from initial
  at_first = (
    λ owed. absurd (true≢false (sym owed ∙ ap (has_contact c) (first_nobody inv.objects k))),
    λ heard. absurd (nil_not_parts heard.before heard.after heard.with_it heard.parts),
  )

  module _ (journal : List Entry) (e : Entry) (known : Exactly journal) where
    abbrev w : World
    w = meaning inv journal

    -- the contact is told of the problem with this entry
    begins : hears inv k c ≡ true → GoesOut inv w e words.Problem k c → HeardTheBeginning inv (journal ++ e ∷ []) k c
    begins hear g = record {
      before = journal;
      with_it = e;
      after = [];
      parts = refl;
      hears = hear;
      told = g;
      untold = λ since x rest is out. nil_not_parts since rest x is;
      news = λ since rest is old. problem_is_news each done inv w e on k c g
          (subst (λ (u : World). IsOldNews u k) (one_more journal e) (subst (λ (es : List Entry). IsOld (journal ++ e ∷ es)) (nil_part since rest is) old));
    }

    -- the contact heard of it before, and not of its end
    goes_on : HeardTheBeginning inv journal k c → (Recovers journal e → ⊥) → (IsOld (journal ++ e ∷ []) → ⊥) → HeardTheBeginning inv (journal ++ e ∷ []) k c
    goes_on heard untold news = record {
      before = heard.before;
      with_it = heard.with_it;
      after = heard.after ++ e ∷ [];
      parts = ap (λ (es : List Entry). es ++ e ∷ []) heard.parts ∙ append_assoc heard.before (heard.with_it ∷ heard.after) (e ∷ []);
      hears = heard.hears;
      told = heard.told;
      untold = λ since x rest. by_last (λ es. heard.after ++ e ∷ [] ≡ since ++ x ∷ es → Recovers (heard.before ++ heard.with_it ∷ since) x → ⊥)
          (λ is out. (let same = same_from_push heard.after since e x is in
          untold (subst (λ (es : List Entry). Recovers es e) (sym (heard.parts ∙ ap (λ (es : List Entry). heard.before ++ heard.with_it ∷ es) same.0)) (subst (Recovers (heard.before ++ heard.with_it ∷ since)) (sym same.1) out))))
          (λ ys y is out. heard.untold since x ys (same_from_push heard.after (since ++ x ∷ ys) e y (is ∙ sym (append_assoc since (x ∷ ys) (y ∷ [])))).0 out) rest;
      news = λ since rest. by_last (λ es. heard.after ++ e ∷ [] ≡ since ++ es → IsOld (heard.before ++ heard.with_it ∷ since) → ⊥)
          (λ is old. news (subst IsOld (ap (λ (es : List Entry). heard.before ++ heard.with_it ∷ es) (sym (append-nil since) ∙ sym is)
          ∙ sym (append_assoc heard.before (heard.with_it ∷ heard.after) (e ∷ [])) ∙ ap (λ (es : List Entry). es ++ e ∷ []) (sym heard.parts)) old))
          (λ ys y is old. heard.news since ys (same_from_push heard.after (since ++ ys) e y (is ∙ sym (append_assoc since ys (y ∷ [])))).0 old) rest;
    }

    then_heard : IsOwed (meaning inv (journal ++ e ∷ [])) k c → HeardTheBeginning inv (journal ++ e ∷ []) k c
    then_heard owed = elim (owed_from each done inv w e on (long journal) k c (subst (λ (u : World). IsOwed u k c) (one_more journal e) owed)) [
      | inl new ↦ begins new.0 new.1
      | inr was ↦ goes_on (known.0 was.0) was.1 (λ old. was.2 (subst (λ (u : World). IsOldNews u k) (one_more journal e) old))
    ]

    -- where the notice of the problem is not of this entry
    earlier : (heard : HeardTheBeginning inv (journal ++ e ∷ []) k c) (ys : List Entry) (y : Entry) → heard.after ≡ ys ++ y ∷ [] → IsOwed (step inv w e).0 k c
    earlier heard ys y is = owed_on each done inv w e on (long journal) k c (heard_of inv k c heard.hears).1 (known.1 (record {
      before = heard.before;
      with_it = heard.with_it;
      after = ys;
      parts = same.0;
      hears = heard.hears;
      told = heard.told;
      untold = λ since x rest at out. heard.untold since x (rest ++ y ∷ []) (is ∙ ap (λ (es : List Entry). es ++ y ∷ []) at ∙ append_assoc since (x ∷ rest) (y ∷ [])) out;
      news = λ since rest at old. heard.news since (rest ++ y ∷ []) (is ∙ ap (λ (es : List Entry). es ++ y ∷ []) at ∙ append_assoc since rest (y ∷ [])) old;
    }))
        (λ out. heard.untold ys y [] is (subst (Recovers (heard.before ++ heard.with_it ∷ ys)) same.1 (subst (λ (es : List Entry). Recovers es e) same.0 out)))
        (λ old. heard.news heard.after [] (sym (append-nil heard.after)) (subst IsOld heard.parts (subst (λ (u : World). IsOldNews u k) (sym (one_more journal e)) old)))
      where
        same : (journal ≡ heard.before ++ heard.with_it ∷ ys) × (e ≡ y)
        same = same_from_push journal (heard.before ++ heard.with_it ∷ ys) e y (heard.parts ∙ ap (λ (es : List Entry). heard.before ++ heard.with_it ∷ es) is ∙ sym (append_assoc heard.before (heard.with_it ∷ ys) (y ∷ [])))

    -- where it is of this entry
    just_now : (heard : HeardTheBeginning inv (journal ++ e ∷ []) k c) → heard.after ≡ [] → IsOwed (step inv w e).0 k c
    just_now heard is = (let same = same_from_push journal heard.before e heard.with_it (heard.parts ∙ ap (λ (es : List Entry). heard.before ++ heard.with_it ∷ es) is) in
        owed_for_problem each done inv w e on (long journal) k c heard.hears
        (subst (λ (es : List Entry). GoesOut inv (meaning inv es) e words.Problem k c) (sym same.0) (subst (λ (x : Entry). GoesOut inv (meaning inv heard.before) x words.Problem k c) (sym same.1) heard.told)))

    then_owed : HeardTheBeginning inv (journal ++ e ∷ []) k c → IsOwed (meaning inv (journal ++ e ∷ [])) k c
    then_owed heard = subst (λ (u : World). IsOwed u k c) (sym (one_more journal e))
        (by_last (λ es. heard.after ≡ es → IsOwed (step inv w e).0 k c) (λ is. just_now heard is) (λ ys y is. earlier heard ys y is) heard.after refl)

  from_there : (journal rest : List Entry) → Exactly journal → Exactly (journal ++ rest)
  from_there journal [] known = subst Exactly (sym (append-nil journal)) known
  from_there journal (e ∷ rest) known = subst Exactly (append_assoc journal (e ∷ []) rest) (from_there (journal ++ e ∷ []) rest (then_heard journal e known, then_owed journal e known))

pub the_end_goes_to_who_heard_the_beginning : (each : WhatIsDueHappens) (done : NothingIsLeft) → TheEndGoesToWhoHeardTheBeginning
the_end_goes_to_who_heard_the_beginning each done inv journal k c on = from_there each done inv on k c [] journal (at_first each done inv on k c)
