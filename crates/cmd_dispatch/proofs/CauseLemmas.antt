-- The cause for which a run has no report, and the facts on the entries passed to the log that it implies.
use Rattle.std.proofs.Common.{◌≡◌, ◌≢◌, ◌==◌, ◌<◌, ◌≤◌, ◌+◌, ℕ, Bool, true, false, List, [], length, map, get_or, refl, sym, ap, ◌∙◌, subst, arith, append-nil, Option, None, Some}
use Rattle.std.specs.List.{sum_by}
use Rattle.std.proofs.lemmas.List.{get_or-map}
use Rattle.cmd_types.specs.declared.entry.Entry.{Entry}
use Rattle.cmd_run.specs.declared.ending.Ending.TheVariants as ending
use Rattle.cmd_run.specs.declared.ending.SenderReport.{SenderReport}
use Rattle.cmd_run.specs.declared.fault.RunCause.{RunCause}
use Rattle.cmd_run.specs.declared.fault.RunCause.TheVariants as cause
use Rattle.cmd_run.specs.Endings.{is_complete}
use Rattle.cmd_dispatch.specs.Delivered.{BeginsWith}
use Rattle.cmd_dispatch.specs.Dispatches.{MayFail, Stands, logged}
use Rattle.cmd_dispatch.specs.Runs.{IsEndedBy, fault_known, AreComplete, IsSpawned, IsCause}
use Rattle.cmd_dispatch.proofs.SenderLemmas.{stopped_for_memory}

-- a run whose queue was lost had started all threads
pub lost_first : (all : Bool) (count : ℕ) (first fault : Option RunCause) (reports : List SenderReport) → IsSpawned all count first → Stands first fault → IsCause fault reports (Some cause.QueueLost)
    → (first ≡ None) × (fault ≡ Some cause.QueueLost)
lost_first true count first None reports spawned stands is = absurd is
lost_first true count first (Some d) reports spawned stands is = (spawned, sym is)
lost_first false count first fault reports spawned stands is =
    let h = subst (λ (y : Option RunCause). Stands y fault) spawned stands in
    let e : Some cause.QueueLost ≡ Some (cause.Spawn count) = subst (λ (y : Option RunCause). IsCause y reports (Some cause.QueueLost)) h is in
    absurd (cc)

pub no_fault : (fault : Option RunCause) (reports : List SenderReport) → IsCause fault reports None → (fault ≡ None) × AreComplete reports
no_fault None reports is = (refl, is)
no_fault (Some c) reports is = absurd (let h : None ≡ Some c = is in cc)

-- without a fault before anything was taken, all threads were started
pub none_at_first : (all : Bool) (count : ℕ) (first : Option RunCause) → IsSpawned all count first → first ≡ None → all ≡ true
none_at_first true count first is none = refl
none_at_first false count first is none = absurd (let h : Some (cause.Spawn count) ≡ None = sym is ∙ none in cc)

pub none_before : (first fault : Option RunCause) → Stands first fault → fault ≡ None → first ≡ None
none_before None fault stands none = refl
none_before (Some c) fault stands none = absurd (let h : Some c ≡ None = sym stands ∙ none in cc)

-- the cause is a sender that stopped only where there is no other fault
pub free_if_stopped : (all : Bool) (count j : ℕ) (first fault : Option RunCause) (reports : List SenderReport) → IsSpawned all count first → Stands first fault → IsCause fault reports (Some (cause.SenderStopped j)) → fault ≡ None
free_if_stopped all count j first None reports spawned stands is = refl
free_if_stopped true count j first (Some d) reports spawned stands is =
    let same : d ≡ cause.SenderStopped j = (let e : Some (cause.SenderStopped j) ≡ Some d = is in cc) in
    absurd (subst (λ (x : RunCause). MayFail (Some x)) same (subst (λ (y : Option RunCause). Stands y (Some d)) spawned stands))
free_if_stopped false count j first (Some d) reports spawned stands is =
    let h = subst (λ (y : Option RunCause). Stands y (Some d)) spawned stands in
    absurd (let e : Some (cause.SenderStopped j) ≡ Some d = is in let e' : Some d ≡ Some (cause.Spawn count) = h in cc)

pub spawn_some : (all : Bool) (count : ℕ) (d : RunCause) → IsSpawned all count (Some d) → Some d ≡ Some (cause.Spawn count)
spawn_some true count d is = absurd (let h : Some d ≡ None = is in cc)
spawn_some false count d is = is

-- the log knows the cause by which the dispatcher fails
pub may_fail_known : (d : RunCause) → MayFail (Some d) → fault_known (Some d) ≡ Some d
may_fail_known cause.BadOptions may = absurd may
may_fail_known cause.Memory may = refl
may_fail_known (cause.Spawn k) may = absurd may
may_fail_known cause.JournalFull may = refl
may_fail_known cause.QueueLost may = refl
may_fail_known (cause.SenderStopped k) may = absurd may
may_fail_known cause.Output may = refl

-- the entries that were passed to the log are a prefix of the taken entries
pub logged_begins : (first : Option RunCause) (taken : List Entry) → BeginsWith taken (logged first taken)
logged_begins None taken = ([], sym (append-nil taken))
logged_begins (Some c) taken = (taken, refl)

pub logged_all : (first : Option RunCause) (taken : List Entry) → first ≡ None → logged first taken ≡ taken
logged_all None taken none = refl
logged_all (Some c) taken none = absurd (let h : Some c ≡ None = none in cc)

-- the facts that the cause of the dispatcher's failure implies
pub of_failure : (readers : ℕ) (c : RunCause) (taken : List Entry) (reports : List SenderReport) → length reports ≡ readers → length taken ≤ sum_by (λ r. r.accepted) reports → MayFail (Some c) → IsEndedBy readers c taken reports
of_failure readers cause.BadOptions taken reports all few may = may
of_failure readers cause.Memory taken reports all few may = (all, few)
of_failure readers (cause.Spawn k) taken reports all few may = absurd may
of_failure readers cause.JournalFull taken reports all few may = (all, few)
of_failure readers cause.QueueLost taken reports all few may = (all, few)
of_failure readers (cause.SenderStopped k) taken reports all few may = absurd may
of_failure readers cause.Output taken reports all few may = (all, few)

pub of_stopped : (readers : ℕ) (c : RunCause) (taken : List Entry) (reports : List SenderReport) → length reports ≡ readers → ((i : ℕ) (r : SenderReport) → i < length reports → (get_or reports i r).ending ≢ ending.QueueRefused) → IsCause None reports (Some c)
    → IsEndedBy readers c taken reports
of_stopped readers cause.BadOptions taken reports all none is = is
of_stopped readers cause.Memory taken reports all none is = absurd is
of_stopped readers (cause.Spawn k) taken reports all none is = absurd is
of_stopped readers cause.JournalFull taken reports all none is = absurd is
of_stopped readers cause.QueueLost taken reports all none is = absurd is
of_stopped readers cause.Output taken reports all none is = absurd is
of_stopped readers (cause.SenderStopped k) taken reports all none is =
    (all, record { known = is.known; stopped = λ r. stopped_for_memory (get_or reports k r).ending (is.stopped r) (none k r is.known); others = is.others; none_refused = none })

-- one more of the senders read its feed to its end
pub complete_more : {P : Type 0} (view : P → SenderReport) (ps : List P) (k : ℕ) (p : P) → k < length ps → p ≡ get_or ps k p → is_complete (view p).ending ≡ true → ((i : ℕ) (r : SenderReport) → i < k → is_complete (get_or (map view ps) i r).ending ≡ true)
    → (i : ℕ) (r : SenderReport) → i < k + 1 → is_complete (get_or (map view ps) i r).ending ≡ true
complete_more view ps k p low is last each i r below = by_place (i == k) refl
  where
    by_place : (b : Bool) → (i == k) ≡ b → is_complete (get_or (map view ps) i r).ending ≡ true
    by_place true same =
        let e : i ≡ k = grind (arith, same) in
        ap (λ n. is_complete (get_or (map view ps) n r).ending) e ∙ ap (λ (x : SenderReport). is_complete x.ending) (get_or-map view ps k p r low ∙ ap view (sym is)) ∙ last
    by_place false other = each i r (grind (arith, other, below))
