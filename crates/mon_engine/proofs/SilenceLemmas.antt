-- Silence is kept: a PROBLEM or a RECOVERY goes out only where no downtime is active, and then the downtimes are as the entry found them.
use Rattle.std.proofs.Common.{◌≡◌, ◌⊎◌, inl, inr, ℕ, Bool, true, false, true≢false, if◌then◌else◌, List, [], ◌∷◌, Option, Some, None, Ok, All, slice_get, refl, ap, sym, ◌∙◌, subst}
use Rattle.std.proofs.lemmas.List.Elements.{All-nil, All-cons, All-head, All-weaker}
use Rattle.std.proofs.lemmas.Option.{same_Some, slice_get_within}
use Rattle.cmd_types.specs.declared.entry.Entry.{Entry}
use Rattle.mon_checks.specs.States.{change_by}
use Rattle.mon_checks.specs.declared.transition.Change.{Change}
use Rattle.mon_downtime.specs.declared.downtime.Downtime.{Downtime}
use Rattle.mon_downtime.specs.Cancel.{active_dependants}
use Rattle.mon_downtime.specs.Events.{due}
use Rattle.mon_downtime.specs.Problem.{all_waiting}
use Rattle.mon_downtime.specs.Records.{depth_of}
use Rattle.mon_downtime.specs.Clock.{WhatIsDueHappens, NothingIsLeft}
use Rattle.mon_inventory.specs.declared.records.ObjectSpec.{ObjectSpec}
use Rattle.mon_inventory.specs.Configuration.{Configuration, recovers_the_told}
use Rattle.mon_engine.specs.declared.notices.Occasion.TheVariants.{Check}
use Rattle.mon_engine.specs.declared.notice.Notice.{Notice}
use Rattle.mon_engine.specs.declared.notice.Word.{Word}
use Rattle.mon_engine.specs.declared.notice.Word.TheVariants as words
use Rattle.mon_engine.specs.declared.outcome.Outcome.{Outcome}
use Rattle.mon_engine.specs.declared.outcome.Outcome.TheVariants.{Applied}
use Rattle.mon_engine.specs.Objects.{is_service, custom_number}
use Rattle.mon_engine.specs.World.{World}
use Rattle.mon_engine.specs.Notices.{problem_facts, recovery_notice, noticed}
use Rattle.mon_engine.specs.Results.{with_result, started_all, with_started}
use Rattle.mon_engine.specs.Acknowledgements.{acknowledge}
use Rattle.mon_engine.specs.Downtimes.{after_cancel, told_cancelled}
use Rattle.mon_engine.specs.Effects as acts
use Rattle.mon_engine.specs.Effects.{Act, act}
use Rattle.mon_engine.specs.Clock.{due_in, advanced}
use Rattle.mon_engine.specs.Laws.{moment_of}
use Rattle.mon_engine.specs.Step.{closed_at, counted, acted}
use Rattle.mon_engine.specs.NoticeLaws.{went_out, IsInNoDowntime, SilenceIsKept}
use Rattle.mon_engine.proofs.ActLemmas.{ok_is, acknowledge_cases, del_downtime_cases, started_cases, noticed_cases, check_result_cases, custom_cases, act_leaves}
use Rattle.mon_engine.proofs.ClockLemmas.{nothing_is_left}
use Rattle.mon_engine.proofs.EntryLemmas.{found, advanced_idle}
use Rattle.mon_engine.proofs.ListLemmas.{All-each}
use Rattle.mon_engine.proofs.NoticeLemmas.{IfAny, IsAs, is_of_downtime, downtime_notice_as, acknowledgement_notice_as, problem_notice_as, recovery_notice_as, custom_notice_as, cancel_notice_as}
use Rattle.mon_engine.proofs.NewsLemmas.{More, more_same, more_on, more_weaker, if_some, downtime_word, news_are}
use Rattle.mon_engine.proofs.ReachedLemmas.{recovery_off, recovery_open}
use Rattle.mon_engine.proofs.SentLemmas.{all_sent}
use Rattle.mon_engine.proofs.ToldLemmas.{viable_open, problem_viable_as, started_before}

abbrev IsOfState : Word → Type 0
IsOfState word = (word ≡ words.Problem) ⊎ (word ≡ words.Recovery)

-- where it is a PROBLEM or a RECOVERY, its object is in no downtime in the world v, whose downtimes are these; a RECOVERY
-- goes out without the option `recover_the_told` alone
abbrev IsStill : Configuration → (v : World) → List Downtime → Notice → Type 0
IsStill inv v ds n = IsOfState n.subject.word → IsInNoDowntime inv v n.subject.object × (ds ≡ v.downtimes) × (n.subject.word ≡ words.Recovery → recovers_the_told inv ≡ false)

-- ---- notices of other words

abbrev pub is_of_state : Word → Bool
is_of_state words.Problem = true
is_of_state words.Recovery = true
is_of_state word = false

not_of_state : (word : Word) → is_of_state word ≡ false → IsOfState word → ⊥
not_of_state word other (inl same) = true≢false (sym (ap is_of_state same) ∙ other)
not_of_state word other (inr same) = true≢false (sym (ap is_of_state same) ∙ other)

downtime_other : (word : Word) → is_of_downtime word ≡ true → is_of_state word ≡ false
downtime_other words.DowntimeStart e = refl
downtime_other words.DowntimeEnd e = refl
downtime_other words.DowntimeCancelled e = refl
downtime_other word e = absurd (cc)

other_still : (inv : Configuration) (v : World) (ds : List Downtime) (word : Word) (object : ℕ) (n : Option Notice) → is_of_state word ≡ false → IfAny (IsAs inv word object) n → IfAny (IsStill inv v ds) n
other_still inv v ds word object n other h = All-weaker (IsAs inv word object) (IsStill inv v ds) (λ m is of. absurd (not_of_state m.subject.word (ap is_of_state is.word_is ∙ other) of)) _ h

-- ---- each act

abbrev Stays : Configuration → (v b : World) → Type 0
Stays inv v b = More (IsStill inv v b.downtimes) v.notices b.notices

silent : (inv : Configuration) (v b : World) → b.notices ≡ v.notices → Stays inv v b
silent inv v b same = subst (More (IsStill inv v b.downtimes) v.notices) (sym same) (more_same (IsStill inv v b.downtimes) v.notices)

-- what the depths among the facts say
pub in_none : (inv : Configuration) (v u : World) (object : ℕ) (spec : ObjectSpec) → slice_get inv.objects object ≡ Some spec → u.downtimes ≡ v.downtimes → depth_of u.downtimes object ≡ 0
    → (if is_service spec then depth_of u.downtimes spec.host_object else 0) ≡ 0 → IsInNoDowntime inv v object
in_none inv v u object spec known same depth host = record {
  depth = ap (λ (ds : List Downtime). depth_of ds object) (sym same) ∙ depth;
  host_depth = λ other there service. (let is : spec ≡ other = same_Some spec other (sym known ∙ there) in
      ap (λ (ds : List Downtime). depth_of ds other.host_object) (sym same)
      ∙ sym (ap (λ (x : ObjectSpec). depth_of u.downtimes x.host_object) is)
      ∙ ap (λ (b : Bool). if b then depth_of u.downtimes spec.host_object else 0) (sym (ap (λ (x : ObjectSpec). is_service x) is ∙ service)) ∙ host);
}

-- a notice of this word and object is still where the object is in no downtime
one_still : (inv : Configuration) (v : World) (ds : List Downtime) (word : Word) (object : ℕ) (n : Notice) → IsAs inv word object n → (word ≡ words.Recovery → recovers_the_told inv ≡ false) → IsInNoDowntime inv v object → ds ≡ v.downtimes → IsStill inv v ds n
one_still inv v ds word object n is off none same of = (subst (IsInNoDowntime inv v) (sym is.object_is) none, same, λ recovery. off (sym is.word_is ∙ recovery))

-- a world with more notices of other words; where no downtime of the object is active, its downtimes are those of v
record IsReady (inv : Configuration) (v u : World) (object : ℕ) : Type 0 where
  others : More (λ n. IsOfState n.subject.word → ⊥) v.notices u.notices
  downtimes : depth_of u.downtimes object ≡ 0 → u.downtimes ≡ v.downtimes

ready : (inv : Configuration) (v u : World) (object : ℕ) → u.notices ≡ v.notices → u.downtimes ≡ v.downtimes → IsReady inv v (with_started inv u object) object
unfolding started_all
ready inv v u object notices downtimes = record {
  others = started_cases (λ (x : World). More Other v.notices x.notices) inv u object same
      (more_on Other v.notices u.notices _ same (All-each Other _ (λ d. All-weaker (IsAs inv words.DowntimeStart object) Other (λ m is of. not_of_state m.subject.word (ap is_of_state is.word_is) of) _ (downtime_notice_as inv u words.DowntimeStart u.clock object))
      (all_waiting u.downtimes object u.clock)));
  downtimes = (started_before inv v u object notices downtimes).downtimes;
}
  where
    Other : Notice → Type 0
    Other n = IsOfState n.subject.word → ⊥

    same : More Other v.notices u.notices
    same = subst (More Other v.notices) (sym notices) (more_same Other v.notices)

others_still : (inv : Configuration) (v u : World) (ds : List Downtime) (object : ℕ) → IsReady inv v u object → More (IsStill inv v ds) v.notices u.notices
others_still inv v u ds object h = more_weaker (λ n. IsOfState n.subject.word → ⊥) (IsStill inv v ds) v.notices u.notices (λ n other of. absurd (other of)) h.others

noticed_stays : (inv : Configuration) (v u : World) (object : ℕ) (change : Change) → IsReady inv v u object → Stays inv v (noticed inv u object change)
noticed_stays inv v u object change before = noticed_cases (Stays inv v) inv u object change (others_still inv v u u.downtimes object before)
    (λ spec o known at. more_on (IsStill inv v _) v.notices u.notices _ (others_still inv v u _ object before)
    (if_some (IsStill inv v _) (recovery_notice inv u object change.hard_recovery spec o) (λ n e. (let open_for = recovery_open inv u object change.hard_recovery spec o n e in
    let same : u.downtimes ≡ v.downtimes = before.downtimes open_for.depth in
    one_still inv v _ words.Recovery object n
    (All-head (IsAs inv words.Recovery object) n [] (subst (IfAny (IsAs inv words.Recovery object)) e (recovery_notice_as inv u object change.hard_recovery spec o (slice_get_within inv.objects object spec known))))
    (λ recovery. recovery_off inv u object change.hard_recovery spec o n e)
    (in_none inv v u object spec known same open_for.depth open_for.host_depth) same))))
    (λ spec o known at n e. (let open_for = viable_open (problem_facts inv u Check object spec o) (problem_viable_as inv u Check object spec o n e) in
    let same : u.downtimes ≡ v.downtimes = before.downtimes open_for.depth in
    more_on (IsStill inv v _) v.notices u.notices (n ∷ []) (others_still inv v u _ object before)
    (All-cons (IsStill inv v _) n [] (one_still inv v _ words.Problem object n
    (All-head (IsAs inv words.Problem object) n [] (subst (IfAny (IsAs inv words.Problem object)) e (problem_notice_as inv u Check object spec o (slice_get_within inv.objects object spec known))))
    (λ recovery. absurd (cc))
    (in_none inv v u object spec known same open_for.depth open_for.host_depth) same) (All-nil (IsStill inv v _)))))

cancel_stays : (inv : Configuration) (v : World) (id : ℕ) → Stays inv v (after_cancel inv v id)
unfolding after_cancel told_cancelled
cancel_stays inv v id = more_on (IsStill inv v _) v.notices v.notices _ (more_same (IsStill inv v _) v.notices)
    (All-each (IsStill inv v _) _ (λ x. cancel_notice_as (IsStill inv v _) inv _ x (λ object. other_still inv v _ words.DowntimeCancelled object _ refl (downtime_notice_as inv _ words.DowntimeCancelled _ object))) (active_dependants v.downtimes id))

act_stays : (inv : Configuration) (v b : World) (a : Act) → act inv v a ≡ Ok b → Stays inv v b
unfolding act
act_stays inv v b (acts.Acknowledge object sticky notify persistent author text) e =
    acknowledge_cases (Stays inv v) inv v b object sticky notify persistent author text e (λ o at problem. silent inv v (acknowledge v object sticky persistent author text) refl)
    (λ o at problem. (let u : World = acknowledge v object sticky persistent author text in
    more_on (IsStill inv v _) v.notices v.notices _ (more_same (IsStill inv v _) v.notices) (other_still inv v _ words.Acknowledgement object _ refl (acknowledgement_notice_as inv u object))))
act_stays inv v b (acts.CheckResult object code output) e = check_result_cases (Stays inv v) inv v b object code output e
    (λ spec o known at. noticed_stays inv v _ object (change_by o.status code) (ready inv v (with_result inv v object spec o code output) object refl refl))
act_stays inv v b (acts.DelDowntime kind id) e = del_downtime_cases (Stays inv v) inv v b kind id e (λ there. cancel_stays inv v id)
act_stays inv v b (acts.SendCustom object options) e = ok_is (Stays inv v) _ _ b refl e (custom_cases (Stays inv v) inv v object options (silent inv v v refl)
    (λ spec o known at n k. more_on (IsStill inv v _) v.notices v.notices (n ∷ []) (more_same (IsStill inv v _) v.notices)
    (subst (IfAny (IsStill inv v _)) k (other_still inv v _ words.Custom object _ refl (custom_notice_as inv v object (custom_number options o) options spec o (slice_get_within inv.objects object spec known))))))
act_stays inv v b a e = silent inv v b (ap (λ (x : World). x.notices) (act_leaves inv v b a e))

-- ---- an entry

same_none : (inv : Configuration) (v d : World) (object : ℕ) → d.downtimes ≡ v.downtimes → IsInNoDowntime inv v object → IsInNoDowntime inv d object
same_none inv v d object same h = record {
  depth = ap (λ (ds : List Downtime). depth_of ds object) same ∙ h.depth;
  host_depth = λ spec known service. ap (λ (ds : List Downtime). depth_of ds spec.host_object) same ∙ h.host_depth spec known service;
}

end_none : (each : WhatIsDueHappens) (done : NothingIsLeft) (inv : Configuration) (w b : World) (e : Entry) (object : ℕ) → b.downtimes ≡ (found inv w e).downtimes → IsInNoDowntime inv (found inv w e) object
    → IsInNoDowntime inv (advanced inv (counted b) (moment_of w e)) object
end_none each done inv w b e object same h =
    let t = moment_of w e in
    let idle : due_in (counted b) t ≡ None = ap (λ (ds : List Downtime). due ds t) same ∙ nothing_is_left done inv w t in
    same_none inv (found inv w e) (advanced inv (counted b) t) object (ap (λ (x : World). x.downtimes) (advanced_idle each inv (counted b) t idle) ∙ same) h

abbrev InNone : Configuration → World → Entry → World × Outcome → Notice → Type 0
InNone inv w e p n = IsOfState n.subject.word → IsInNoDowntime inv (advanced inv w (moment_of w e)) n.subject.object × IsInNoDowntime inv p.0 n.subject.object × (n.subject.word ≡ words.Recovery → recovers_the_told inv ≡ false)

all_in_none : (each : WhatIsDueHappens) (done : NothingIsLeft) (inv : Configuration) (w : World) (e : Entry) → All (InNone inv w e (acted inv w e)) (went_out w (acted inv w e).0)
all_in_none each done inv w e = news_are each done inv w e (InNone inv w e)
    (λ p n t of. absurd (not_of_state n.subject.word (downtime_other n.subject.word (downtime_word inv w n t)) of))
    (λ a b asked h. (
      more_weaker (IsStill inv (found inv w e) b.downtimes) (InNone inv w e (closed_at inv (moment_of w e) (b, Applied))) (found inv w e).notices b.notices
          (λ n still of. (let k = still of in (k.0, end_none each done inv w b e n.subject.object k.1 k.0, k.2))) (act_stays inv (found inv w e) b a h),
      inr (λ n t of. absurd (not_of_state n.subject.word (downtime_other n.subject.word (downtime_word inv b n t)) of)),
    ))

pub silence_is_kept : (each : WhatIsDueHappens) (done : NothingIsLeft) → SilenceIsKept
silence_is_kept each done inv w e k d lt = record { switches_on = (all_sent each done inv w e k d lt).switches_on; no_downtime = λ of. (let none = all_in_none each done inv w e k d lt of in (none.0, none.1)) }

-- with the option `recover_the_told` what an entry does sends no RECOVERY
pub none_recovers : (each : WhatIsDueHappens) (done : NothingIsLeft) (inv : Configuration) (w : World) (e : Entry) → All (λ n. n.subject.word ≡ words.Recovery → recovers_the_told inv ≡ false) (went_out w (acted inv w e).0)
none_recovers each done inv w e = All-weaker (InNone inv w e (acted inv w e)) (λ n. n.subject.word ≡ words.Recovery → recovers_the_told inv ≡ false) (λ n none word. (none (inr word)).2 word) (went_out w (acted inv w e).0) (all_in_none each done inv w e)
