-- Only who may be told is told: what goes out with an entry, by the switches that the entry finds.
use Rattle.std.proofs.Common.{◌≡◌, ◌⊎◌, inl, inr, ℕ, true, Some, Ok, List, [], ◌∷◌, All, slice_get, refl, ap, sym, ◌∙◌, subst}
use Rattle.std.proofs.lemmas.List.Elements.{All-nil, All-cons, All-weaker}
use Rattle.cmd_types.specs.declared.entry.Entry.{Entry}
use Rattle.mon_checks.specs.declared.transition.Change.{Change}
use Rattle.mon_checks.specs.States.{change_by}
use Rattle.mon_downtime.specs.Cancel.{active_dependants}
use Rattle.mon_downtime.specs.Problem.{all_waiting}
use Rattle.mon_downtime.specs.Schedule.{fault_of}
use Rattle.mon_downtime.specs.Clock.{WhatIsDueHappens, NothingIsLeft}
use Rattle.mon_inventory.specs.declared.records.ObjectSpec.{ObjectSpec}
use Rattle.mon_inventory.specs.Configuration.{Configuration, passive_hosts_soft}
use Rattle.mon_notify.specs.declared.contacts.ContactSwitch.{ContactSwitch}
use Rattle.mon_engine.specs.declared.notices.Occasion.TheVariants.{Check, Clock}
use Rattle.mon_engine.specs.declared.notice.Notice.{Notice}
use Rattle.mon_engine.specs.declared.notice.Word.TheVariants.{Custom, DowntimeStart, DowntimeCancelled}
use Rattle.mon_engine.specs.declared.object.Object.{Object}
use Rattle.mon_engine.specs.declared.outcome.Outcome.{Outcome}
use Rattle.mon_engine.specs.declared.outcome.Outcome.TheVariants.{Applied}
use Rattle.mon_engine.specs.declared.switches.Program.{Program}
use Rattle.mon_engine.specs.Places.{changed_at}
use Rattle.mon_engine.specs.Objects.{host_is_up, object_after, after_told, reset, custom_number, with_acknowledgement, acknowledgement_of}
use Rattle.mon_engine.specs.World.{World}
use Rattle.mon_engine.specs.Notices.{downtime_notice, acknowledgement_notice, recovery_notice, noticed}
use Rattle.mon_engine.specs.Results.{with_result, started_all, with_started, after_taken}
use Rattle.mon_engine.specs.Acknowledgements.{acknowledge}
use Rattle.mon_engine.specs.Downtimes.{after_cancel, told_cancelled}
use Rattle.mon_engine.specs.Effects as acts
use Rattle.mon_engine.specs.Effects.{Act, act, named}
use Rattle.mon_engine.specs.Laws.{moment_of}
use Rattle.mon_engine.specs.Step.{acted}
use Rattle.mon_engine.specs.NoticeLaws.{went_out, ForcesCustom, IsForced, IsContactOf, IsReached, letter_asked, MayBeTold, OnlyWhoMayBeToldIsTold, TheClockTellsWhoMayBeTold, is_service_at, notifies}
use Rattle.mon_engine.proofs.ActLemmas.{ok_is, acknowledge_cases, schedule_cases, del_downtime_cases, started_cases, noticed_cases, check_result_cases, custom_cases, act_leaves}
use Rattle.mon_engine.proofs.EntryLemmas.{found, advanced_leaves}
use Rattle.mon_engine.proofs.ListLemmas.{All-each, changed_reads}
use Rattle.mon_engine.proofs.NoticeLemmas.{cancel_notice_as}
use Rattle.mon_engine.proofs.ByClockLemmas.{ready_says, clock_cases, clock_more}
use Rattle.mon_engine.proofs.NewsLemmas.{More, more_same, more_on, more_went, more_weaker, if_some, TellsOfDowntime, news_are}
use Rattle.mon_engine.proofs.ReachedLemmas.{IsPlain, IsForcedTo, downtime_plain, acknowledgement_plain, problem_plain, recovery_plain, custom_plain}

-- ---- worlds that agree on the switches

pub record Agrees (w u : World) : Type 0 where
  pub contacts : u.contacts ≡ w.contacts
  pub program : u.program ≡ w.program
  pub notifying : (k : ℕ) → notifies (slice_get u.objects k) ≡ notifies (slice_get w.objects k)

agrees_on : (w v u : World) → Agrees w v → Agrees v u → Agrees w u
agrees_on w v u a b = record { contacts = b.contacts ∙ a.contacts; program = b.program ∙ a.program; notifying = λ k. b.notifying k ∙ a.notifying k }

same_agrees : (w u : World) → u.contacts ≡ w.contacts → u.program ≡ w.program → u.objects ≡ w.objects → Agrees w u
same_agrees w u contacts program objects = record { contacts = contacts; program = program; notifying = λ k. ap (λ (os : List Object). notifies (slice_get os k)) objects }

-- one object is changed, and not its switch
changed_agrees : (w u : World) (object : ℕ) (f : Object → Object) → ((o : Object) → (f o).notify ≡ o.notify) → u.contacts ≡ w.contacts → u.program ≡ w.program → u.objects ≡ changed_at w.objects object f → Agrees w u
changed_agrees w u object f keeps contacts program objects = record {
  contacts = contacts;
  program = program;
  notifying = λ k. ap (λ (os : List Object). notifies (slice_get os k)) objects ∙ changed_reads notifies w.objects object k f keeps;
}

plain_agrees : (inv : Configuration) (w u : World) (n : Notice) → Agrees w u → IsPlain inv u n → IsPlain inv w n
plain_agrees inv w u n a h = record {
  program_on = sym (ap (λ (p : Program). p.notifications) a.program) ∙ h.program_on;
  object_on = sym (a.notifying n.subject.object) ∙ h.object_on;
  reached = subst (λ (cs : List ContactSwitch). All (IsReached inv cs n.subject) n.contacts) a.contacts h.reached;
}

-- ---- each act

-- a custom notice that the act forces
record IsForcedBy (inv : Configuration) (a : Act) (n : Notice) : Type 0 where
  word_is : n.subject.word ≡ Custom
  forces : ForcesCustom n.subject.object a
  contacts : All (IsContactOf inv n.subject.object) n.contacts

abbrev IsLet : Configuration → World → Act → Notice → Type 0
IsLet inv v a n = IsPlain inv v n ⊎ IsForcedBy inv a n

-- each new notice was let out, and either the downtimes or the switches are as they were
abbrev Lets : Configuration → World → Act → World → Type 0
Lets inv v a b = More (IsLet inv v a) v.notices b.notices × ((b.downtimes ≡ v.downtimes) ⊎ Agrees v b)

silent : (inv : Configuration) (v : World) (a : Act) (b : World) → b.notices ≡ v.notices → (b.downtimes ≡ v.downtimes) ⊎ Agrees v b → Lets inv v a b
silent inv v a b same h = (subst (More (IsLet inv v a) v.notices) (sym same) (more_same (IsLet inv v a) v.notices), h)

-- one more notice, let out in a world that agrees
let_more : (inv : Configuration) (v u : World) (a : Act) (n : Notice) → Agrees v u → IsPlain inv u n → IsLet inv v a n
let_more inv v u a n agrees plain = inl (plain_agrees inv v u n agrees plain)

-- on the way of an act
abbrev IsOn : Configuration → World → Act → World → Type 0
IsOn inv v a b = More (IsLet inv v a) v.notices b.notices × Agrees v b

started_lets : (inv : Configuration) (v u : World) (a : Act) (object : ℕ) → IsOn inv v a u → IsOn inv v a (with_started inv u object)
unfolding started_all
started_lets inv v u a object on = started_cases (IsOn inv v a) inv u object on (
  more_on (IsLet inv v a) v.notices u.notices _ on.0
      (All-each (IsLet inv v a) _ (λ d. if_some (IsLet inv v a) (downtime_notice inv u DowntimeStart u.clock object) (λ n e. let_more inv v u a n on.1 (downtime_plain inv u DowntimeStart u.clock object n refl e))) (all_waiting u.downtimes object u.clock)),
  agrees_on v u _ on.1 (same_agrees u _ refl refl refl),
)

noticed_lets : (inv : Configuration) (v u : World) (a : Act) (object : ℕ) (change : Change) → IsOn inv v a u → IsOn inv v a (noticed inv u object change)
noticed_lets inv v u a object change on = noticed_cases (IsOn inv v a) inv u object change on
    (λ spec o known at. (
      more_on (IsLet inv v a) v.notices u.notices _ on.0
          (if_some (IsLet inv v a) (recovery_notice inv u object change.hard_recovery spec o) (λ n e. let_more inv v u a n on.1 (recovery_plain inv u object change.hard_recovery spec o n at e))),
      agrees_on v u _ on.1 (changed_agrees u _ object reset (λ p. refl) refl refl refl),
    ))
    (λ spec o known at n e. (
      more_on (IsLet inv v a) v.notices u.notices (n ∷ []) on.0
          (All-cons (IsLet inv v a) n [] (let_more inv v u a n on.1 (problem_plain inv u Check object spec o n known at e)) (All-nil (IsLet inv v a))),
      agrees_on v u _ on.1 (changed_agrees u _ object (after_told u.clock) (λ p. refl) refl refl refl),
    ))

taken_lets : (inv : Configuration) (v : World) (object code : ℕ) (output : List ℕ) (spec : ObjectSpec) (o : Object) → Lets inv v (acts.CheckResult object code output) (after_taken inv v object code output spec o)
taken_lets inv v object code output spec o =
    let a = acts.CheckResult object code output in
    let u : World = with_result inv v object spec o code output in
    let first : IsOn inv v a u = (
      more_same (IsLet inv v a) v.notices,
      changed_agrees v u object (object_after v.clock code output (host_is_up v.objects spec) (passive_hosts_soft inv) spec.max) (λ p. refl) refl refl refl,
    ) in
    let on = noticed_lets inv v (with_started inv u object) a object (change_by o.status code) (started_lets inv v u a object first) in
    (on.0, inr on.1)

cancel_lets : (inv : Configuration) (v : World) (a : Act) (id : ℕ) → Lets inv v a (after_cancel inv v id)
unfolding after_cancel told_cancelled
cancel_lets inv v a id = (
  more_on (IsLet inv v a) v.notices v.notices _ (more_same (IsLet inv v a) v.notices)
      (All-each (IsLet inv v a) _ (λ x. cancel_notice_as (IsLet inv v a) inv _ x (λ object. if_some (IsLet inv v a) _ (λ n e. let_more inv v _ a n (same_agrees v _ refl refl refl) (downtime_plain inv _ DowntimeCancelled _ object n refl e)))) (active_dependants v.downtimes id)),
  inr (same_agrees v _ refl refl refl),
)

act_lets : (inv : Configuration) (v b : World) (a : Act) → act inv v a ≡ Ok b → Lets inv v a b
unfolding act
act_lets inv v b (acts.Acknowledge object sticky notify persistent author text) e =
    let a = acts.Acknowledge object sticky notify persistent author text in
    let u : World = acknowledge v object sticky persistent author text in
    acknowledge_cases (Lets inv v a) inv v b object sticky notify persistent author text e (λ o at problem. silent inv v a u refl (inl refl))
    (λ o at problem. (
      more_on (IsLet inv v a) v.notices v.notices _ (more_same (IsLet inv v a) v.notices)
          (if_some (IsLet inv v a) (acknowledgement_notice inv u object) (λ n k. let_more inv v u a n (changed_agrees v u object (with_acknowledgement (acknowledgement_of sticky)) (λ p. refl) refl refl refl) (acknowledgement_plain inv u object n k))),
      inl refl,
    ))
act_lets inv v b (acts.CheckResult object code output) e = check_result_cases (Lets inv v (acts.CheckResult object code output)) inv v b object code output e (λ spec o known at. taken_lets inv v object code output spec o)
act_lets inv v b (acts.Schedule object plan) e = schedule_cases (Lets inv v (acts.Schedule object plan)) v b _ (fault_of v.downtimes v.clock plan) e (λ sound. silent inv v (acts.Schedule object plan) _ refl (inr (same_agrees v _ refl refl refl)))
act_lets inv v b (acts.ScheduleServices host plan) e =
    schedule_cases (Lets inv v (acts.ScheduleServices host plan)) v b _ (fault_of v.downtimes v.clock plan) e (λ sound. silent inv v (acts.ScheduleServices host plan) _ refl (inr (same_agrees v _ refl refl refl)))
act_lets inv v b (acts.DelDowntime kind id) e = del_downtime_cases (Lets inv v (acts.DelDowntime kind id)) inv v b kind id e (λ there. cancel_lets inv v (acts.DelDowntime kind id) id)
act_lets inv v b (acts.SendCustom object options) e =
    let a = acts.SendCustom object options in
    ok_is (Lets inv v a) _ _ b refl e (custom_cases (Lets inv v a) inv v object options (silent inv v a v refl (inl refl))
    (λ spec o known at n k. (
      more_on (IsLet inv v a) v.notices v.notices (n ∷ []) (more_same (IsLet inv v a) v.notices)
          (All-cons (IsLet inv v a) n [] (sent (custom_plain inv v object (custom_number options o) options spec o n at k)) (All-nil (IsLet inv v a))),
      inl refl,
    )))
  where
    sent : {n : Notice} → IsPlain inv v n ⊎ IsForcedTo inv object options n → IsLet inv v (acts.SendCustom object options) n
    sent (inl plain) = inl plain
    sent (inr f) = inr (record { word_is = f.word_is; forces = (sym f.object_is, f.forced); contacts = f.contacts })
act_lets inv v b a e = silent inv v a b (ap (λ (x : World). x.notices) (act_leaves inv v b a e)) (inl (ap (λ (x : World). x.downtimes) (act_leaves inv v b a e)))

-- ---- an entry

-- the notice was let out by the switches that the entry found, or the entry forced it
pub record IsSent (inv : Configuration) (w : World) (e : Entry) (outcome : Outcome) (n : Notice) : Type 0 where
  pub contacts : All (MayBeTold inv w e outcome n.subject) n.contacts
  pub switches_on : IsForced inv e outcome n.subject ⊎ ((w.program.notifications ≡ true) × (notifies (slice_get w.objects n.subject.object) ≡ true))

plain_sent : (inv : Configuration) (w : World) (e : Entry) (outcome : Outcome) (n : Notice) → IsPlain inv w n → IsSent inv w e outcome n
plain_sent inv w e outcome n h = record {
  contacts = All-weaker (IsReached inv w.contacts n.subject) (MayBeTold inv w e outcome n.subject) (λ c r. record { contact = r.contact; switch_on = inr r.switch_on; letter_on = r.letter_on }) n.contacts h.reached;
  switches_on = inr (h.program_on, h.object_on);
}

forced_sent : (inv : Configuration) (w : World) (e : Entry) (a : Act) (n : Notice) → named inv e.stamped.command ≡ Ok a → IsForcedBy inv a n → IsSent inv w e Applied n
forced_sent inv w e a n asked h = record {
  contacts = All-weaker (IsContactOf inv n.subject.object) (MayBeTold inv w e Applied n.subject) (λ c k. record {
    contact = k;
    switch_on = inl forced;
    letter_on = λ l q. (let none : letter_asked (is_service_at inv n.subject.object) n.subject.code Custom ≡ Some l = ap (letter_asked (is_service_at inv n.subject.object) n.subject.code) (sym h.word_is) ∙ q in absurd (cc));
  }) n.contacts h.contacts;
  switches_on = inl forced;
}
  where
    forced : IsForced inv e Applied n.subject
    forced = (h.word_is, record { applied = refl; does = a; asked_for = asked; among = h.forces })

found_agrees : (inv : Configuration) (w : World) (e : Entry) → Agrees w (found inv w e)
found_agrees inv w e = let leaves = advanced_leaves inv w (moment_of w e) in same_agrees w (found inv w e) (ap (λ (x : World). x.contacts) leaves) (ap (λ (x : World). x.program) leaves) (ap (λ (x : World). x.objects) leaves)

pub all_sent : (each : WhatIsDueHappens) (done : NothingIsLeft) (inv : Configuration) (w : World) (e : Entry) → All (IsSent inv w e (acted inv w e).1) (went_out w (acted inv w e).0)
all_sent each done inv w e = news_are each done inv w e (λ p n. IsSent inv w e p.1 n)
    (λ p n t. plain_sent inv w e p.1 n (downtime_plain inv w t.word t.moment t.object n t.of_downtime t.is))
    (λ a b asked h. (let lets = act_lets inv (found inv w e) b a h in (more_weaker (IsLet inv (found inv w e) a) (IsSent inv w e Applied) (found inv w e).notices b.notices (λ n k. from_let a n asked k) lets.0, behind b lets.1)))
  where
    from_plain : (u : World) (n : Notice) → Agrees (found inv w e) u → IsPlain inv u n → IsSent inv w e Applied n
    from_plain u n agrees plain = plain_sent inv w e Applied n (plain_agrees inv w u n (agrees_on w (found inv w e) u (found_agrees inv w e) agrees) plain)

    from_let : (a : Act) (n : Notice) → named inv e.stamped.command ≡ Ok a → IsLet inv (found inv w e) a n → IsSent inv w e Applied n
    from_let a n asked (inl plain) = from_plain (found inv w e) n (same_agrees (found inv w e) (found inv w e) refl refl refl) plain
    from_let a n asked (inr forced) = forced_sent inv w e a n asked forced

    behind : (b : World) → (b.downtimes ≡ (found inv w e).downtimes) ⊎ Agrees (found inv w e) b → (b.downtimes ≡ (found inv w e).downtimes) ⊎ ((n : Notice) → TellsOfDowntime inv b n → IsSent inv w e Applied n)
    behind b (inl same) = inl same
    behind b (inr agrees) = inr (λ n t. from_plain b n agrees (downtime_plain inv b t.word t.moment t.object n t.of_downtime t.is))

pub only_who_may_be_told_is_told : (each : WhatIsDueHappens) (done : NothingIsLeft) → OnlyWhoMayBeToldIsTold
only_who_may_be_told_is_told each done inv w e = All-weaker (IsSent inv w e (acted inv w e).1) (λ n. All (MayBeTold inv w e (acted inv w e).1 n.subject) n.contacts) (λ n s. s.contacts) (went_out w (acted inv w e).0) (all_sent each done inv w e)

pub the_clock_tells_who_may_be_told : TheClockTellsWhoMayBeTold
the_clock_tells_who_may_be_told inv w = clock_cases inv w (λ (u : World). All Fine (went_out w u)) (more_went Fine w w (more_same Fine w.notices))
    (λ u tells. more_went Fine w u (clock_more inv w u Fine tells (λ k n ready. (let says = ready_says inv w k n ready in (problem_plain inv w Clock k says.0 says.1 n says.2 says.3 says.5).reached))))
  where
    Fine : Notice → Type 0
    Fine n = All (IsReached inv w.contacts n.subject) n.contacts
