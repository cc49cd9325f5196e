-- The list that a run has published, at its beginning and at its end.
use Rattle.std.proofs.Common.{◌≡◌, inl, inr, ⊎_elim, List, [], ◌∷◌, ◌++◌, Some, Result, Ok, Err, MatchResult, IfOk, IfErr, OnOk, ap, subst, sym, ◌∙◌}
use Rattle.cmd_types.specs.declared.entry.Entry.{Entry}
use Rattle.mon_inventory.specs.Configuration.{Configuration}
use Rattle.cmd_run.specs.declared.fault.RunCause.{RunCause}
use Rattle.cmd_run.specs.declared.fault.RunFault.{RunFault}
use Rattle.cmd_dispatch.specs.declared.report.RunReport.{RunReport}
use Rattle.cmd_dispatch.specs.declared.running.FailedRun.{FailedRun}
use Rattle.cmd_run.specs.declared.fault.RunCause.TheVariants as cause
use Rattle.cmd_dispatch.specs.BoardEnds.{Writing}
use Rattle.cmd_dispatch.specs.Runs.{reported, fault_known}
use Rattle.cmd_dispatch.specs.Delivered.{BeginsWith}
use Rattle.cmd_dispatch.specs.Watching.{IsShown, IsBehind}
use Rattle.cmd_dispatch.proofs.CutLemmas.{begins_twice}

-- the published list follows the journal, by the cause for which the run has no report
pub shown_known : (shows : List Entry → Type 0) (c : RunCause) (journal : List Entry) → IsShown shows (fault_known (Some c)) journal → IsShown shows (Some c) journal
shown_known shows cause.BadOptions journal h = h
shown_known shows cause.Memory journal h = h
shown_known shows (cause.Spawn k) journal h = h
shown_known shows cause.JournalFull journal h = h
shown_known shows cause.QueueLost journal h = h
shown_known shows (cause.SenderStopped k) journal h = h
shown_known shows cause.Output journal h = h

-- of a board whose seat came back from a run
behind : (c : RunCause) (journal : List Entry) (inv : Configuration) (s : Writing) → IsShown (λ list. (s.inventory ≡ inv) × (s.published ≡ list)) (Some c) journal → IsBehind c journal s.published
behind cause.BadOptions journal inv s h = h.1
behind cause.Memory journal inv s h =
    ⊎_elim (λ (x : (s.inventory ≡ inv) × (s.published ≡ journal)). inl x.1)
    (λ (x : (published : List Entry) × (last : Entry) × ((s.inventory ≡ inv) × (s.published ≡ published)) × (journal ≡ published ++ last ∷ [])). inr (x.0, x.1, x.2.1, x.3)) h
behind (cause.Spawn k) journal inv s h = h.1
behind cause.JournalFull journal inv s h = h.1
behind cause.QueueLost journal inv s h = h.1
behind (cause.SenderStopped k) journal inv s h = h.1
behind cause.Output journal inv s h = h.1

pub run_behind : (run : Result RunReport FailedRun) (inv : Configuration) (s : Writing) → MatchResult run (λ r. (s.inventory ≡ inv) × (s.published ≡ r.journal.entries)) (λ e. IsShown (λ list. (s.inventory ≡ inv) × (s.published ≡ list)) (Some e.fault.cause) e.fault.journal.entries)
    → IfErr run (λ e. IsBehind e.fault.cause e.fault.journal.entries s.published)
run_behind (Ok r) inv s h = tt
run_behind (Err e) inv s h = behind e.fault.cause e.fault.journal.entries inv s h

-- where a run has its report, what is published is its journal
pub run_published : (run : Result RunReport FailedRun) (inv : Configuration) (s : Writing) → MatchResult run (λ r. (s.inventory ≡ inv) × (s.published ≡ r.journal.entries)) (λ e. IsShown (λ list. (s.inventory ≡ inv) × (s.published ≡ list)) (Some e.fault.cause) e.fault.journal.entries)
    → IfOk run (λ r. s.published ≡ r.journal.entries)
run_published (Ok r) inv s h = h.1
run_published (Err e) inv s h = tt

-- a property of a run holds of its result
pub reported_ok : (run : Result RunReport FailedRun) (out : Result RunReport RunFault) (P : RunReport → Type 0) → out ≡ reported run → IfOk run P → IfOk out P
reported_ok (Ok r) out P is h = subst (λ (o : Result RunReport RunFault). IfOk o P) (sym is) h
reported_ok (Err e) out P is h = subst (λ (o : Result RunReport RunFault). IfOk o P) (sym is) tt

pub reported_on : (run : Result RunReport FailedRun) (out : Result RunReport RunFault) (P : Type 0) → out ≡ reported run → OnOk run P → OnOk out P
reported_on (Ok r) out P is h = subst (λ (o : Result RunReport RunFault). OnOk o P) (sym is) h
reported_on (Err e) out P is h = subst (λ (o : Result RunReport RunFault). OnOk o P) (sym is) tt

pub reported_err : (run : Result RunReport FailedRun) (out : Result RunReport RunFault) (P : RunFault → Type 0) → out ≡ reported run → IfErr run (λ e. P e.fault) → IfErr out P
reported_err (Ok r) out P is h = subst (λ (o : Result RunReport RunFault). IfErr o P) (sym is) tt
reported_err (Err e) out P is h = subst (λ (o : Result RunReport RunFault). IfErr o P) (sym is) h

pub reported_both : (run : Result RunReport FailedRun) (out : Result RunReport RunFault) (P : RunReport → Type 0) (Q : RunFault → Type 0) → out ≡ reported run → MatchResult run P (λ e. Q e.fault) → MatchResult out P Q
reported_both (Ok r) out P Q is h = subst (λ (o : Result RunReport RunFault). MatchResult o P Q) (sym is) h
reported_both (Err e) out P Q is h = subst (λ (o : Result RunReport RunFault). MatchResult o P Q) (sym is) h

-- what begins the published list begins the journal
begun_behind : (c : RunCause) (journal published seen : List Entry) → IsBehind c journal published → BeginsWith published seen → BeginsWith journal seen
begun_behind cause.Memory journal published seen is more =
    ⊎_elim (λ (x : published ≡ journal). subst (λ (l : List Entry). BeginsWith l seen) x more)
    (λ (x : (list : List Entry) × (last : Entry) × (published ≡ list) × (journal ≡ list ++ last ∷ [])).
    begins_twice journal published seen (x.1 ∷ [], x.3 ∙ ap (λ (l : List Entry). l ++ x.1 ∷ []) (sym x.2)) more) is
begun_behind cause.BadOptions journal published seen is more = subst (λ (l : List Entry). BeginsWith l seen) is more
begun_behind (cause.Spawn k) journal published seen is more = subst (λ (l : List Entry). BeginsWith l seen) is more
begun_behind cause.JournalFull journal published seen is more = subst (λ (l : List Entry). BeginsWith l seen) is more
begun_behind cause.QueueLost journal published seen is more = subst (λ (l : List Entry). BeginsWith l seen) is more
begun_behind (cause.SenderStopped k) journal published seen is more = subst (λ (l : List Entry). BeginsWith l seen) is more
begun_behind cause.Output journal published seen is more = subst (λ (l : List Entry). BeginsWith l seen) is more

-- a prefix of the published list is a prefix of the journal in the result
pub seen_begins : (out : Result RunReport RunFault) (published : List Entry) → IfOk out (λ r. published ≡ r.journal.entries) → IfErr out (λ e. IsBehind e.cause e.journal.entries published)
    → (seen : List Entry) → BeginsWith published seen → MatchResult out (λ r. BeginsWith r.journal.entries seen) (λ e. BeginsWith e.journal.entries seen)
seen_begins (Ok r) published is late seen more = subst (λ (l : List Entry). BeginsWith l seen) is more
seen_begins (Err e) published is late seen more = begun_behind e.cause e.journal.entries published seen late more
