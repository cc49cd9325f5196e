-- The watch of a run: the figures that a reader sees at its end are those of the list that the run published.
use Rattle.std.proofs.Common.{◌≡◌, inl, List, [], ◌∷◌, ◌++◌, ◌≤◌, length, append-nil, length-append, arith, Option, Some, None, Result, Ok, Err, IfOk, Bool, true, false, refl, sym, ap, ◌∙◌, subst, ℕ}
use Rattle.cmd_types.specs.declared.entry.Entry.{Entry}
use Rattle.mon_inventory.specs.Configuration.{Configuration}
use Rattle.cmd_run.specs.declared.fault.RunCause.{RunCause}
use Rattle.cmd_run.specs.declared.fault.RunCause.TheVariants as cause
use Rattle.cmd_run.specs.declared.fault.RunFault.{RunFault}
use Rattle.cmd_dispatch.specs.declared.report.RunReport.{RunReport}
use Rattle.cmd_queue.specs.Lists.{entries}
use Rattle.cmd_journal.specs.Journals.{of_sender}
use Rattle.cmd_run.specs.Senders.{AreOf}
use Rattle.cmd_dispatch.specs.Dispatches.{Means}
use Rattle.cmd_dispatch.specs.RunCalls.{RunCall}
use Rattle.cmd_dispatch.specs.Runs.{outcome, AreReported, HaveClosedWith, HasRun}
use Rattle.cmd_dispatch.specs.Delivered.{BeginsWith}
use Rattle.cmd_dispatch.specs.Watching.{IsBehind}
use Rattle.gateway.specs.declared.watching.Watched.{Watched}
use Rattle.cmd_answer.specs.Printed.{figures_of}
use Rattle.gateway.specs.Watched.{IsPublished, IsWatched, figures_in}

nothing_more : (list a b : List Entry) → list ≡ (list ++ a) ++ b → a ≡ []
nothing_more list [] b is = refl
nothing_more list (x ∷ a) b is = absurd (omega (arith, ap length is, length-append (list ++ x ∷ a) b, length-append list (x ∷ a)))

-- a reader that had seen the published list, and looks again, has seen the same list
pub seen_all : (before after published : List Entry) → before ≡ published → BeginsWith after before → BeginsWith published after → after ≡ published
seen_all before after published is more less =
    let one : after ≡ published ++ more.0 = more.1 ∙ ap (λ (l : List Entry). l ++ more.0) is in
    let both : published ≡ (published ++ more.0) ++ less.0 = less.1 ∙ ap (λ (l : List Entry). l ++ less.0) one in
    one ∙ ap (λ (l : List Entry). published ++ l) (nothing_more published more.0 less.0 both) ∙ append-nil published

-- where the journal itself was published, the published list is as required after a fault
pub behind_itself : (c : RunCause) (journal : List Entry) → IsBehind c journal journal
behind_itself cause.BadOptions journal = refl
behind_itself cause.Memory journal = inl refl
behind_itself (cause.Spawn k) journal = refl
behind_itself cause.JournalFull journal = refl
behind_itself cause.QueueLost journal = refl
behind_itself (cause.SenderStopped k) journal = refl
behind_itself cause.Output journal = refl

-- the printed figures are those of a list that the run published
pub published_of : (asked : Bool) (inv : Configuration) (run : Result RunReport RunFault) (watched : Option Watched) → IsWatched asked inv run watched
    → (published : List Entry) × IsPublished run published × (figures_in watched ≡ figures_of asked inv published)
published_of true inv run (Some w) h = (w.board.published, h.1, ap Some h.2)
published_of true inv run None h = absurd h
published_of false inv run (Some w) h = absurd h
published_of false inv (Ok r) None h = (r.journal.entries, refl, refl)
published_of false inv (Err e) None h = (e.journal.entries, behind_itself e.cause e.journal.entries, refl)

-- the clauses of a run that has a report are together `HasRun`
pub has_run : (call : RunCall) (readers : ℕ) (run : Result RunReport RunFault) → length call.sources ≡ readers
    → IfOk run (λ r. entries r.settled.list ≡ r.journal.entries) → IfOk run (λ r. r.settled.senders ≡ readers) → IfOk run (λ r. HaveClosedWith readers r.journal.entries r.senders.items r.settled)
    → IfOk run (λ r. length r.journal.entries ≤ call.limit) → IfOk run (λ r. readers ≡ 1 → of_sender 0 r.journal.entries ≡ r.journal.entries) → IfOk run (λ r. AreReported call.sources r.journal.entries r.senders.items)
    → IfOk run (λ r. AreOf readers r.journal.entries) → IfOk run (λ r. Means call.inventory r.journal.entries r.monitor) → IfOk run (λ r. length r.senders.items ≡ readers) → IfOk run (λ r. HasRun call (outcome r))
has_run call readers (Ok r) many settled settled_of closed within alone told known means one_each = record {
  settled_is = settled;
  settled_of = settled_of ∙ sym many;
  closed = subst (λ (n : ℕ). HaveClosedWith n r.journal.entries r.senders.items r.settled) (sym many) closed;
  within = within;
  alone = λ one. alone (sym many ∙ one);
  known = subst (λ (n : ℕ). AreOf n r.journal.entries) (sym many) known;
  one_each = one_each ∙ sym many;
  reported_are = told;
  means = means;
}
has_run call readers (Err e) many settled settled_of closed within alone told known means one_each = tt
