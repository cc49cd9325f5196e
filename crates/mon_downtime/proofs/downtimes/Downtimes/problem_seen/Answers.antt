use Rattle.std.proofs.Common.{◌∙◌}
use Rattle.mon_downtime.proofs.RecordLemmas.{written_back}
use Rattle.mon_downtime.proofs.downtimes.Downtimes.problem_seen.Goals as goal

pub start_waiting-requires : goal.start_waiting-requires
start_waiting-requires c = record { kept = rw c.deref_mut.ensures.value c.self.invariant }

pub invariant_of-self : goal.invariant_of-self
invariant_of-self c = rw (written_back _ _ _ (c.start_waiting.auto.records ∙ c.deref_mut.ensures.len)) c.start_waiting.ensures.kept

pub returns-clause-started : goal.returns-clause-started
returns-clause-started c = written_back _ _ _ (c.start_waiting.auto.records ∙ c.deref_mut.ensures.len) ∙ (rw (c.deref_mut.ensures.value, c.self.view_is) at c.start_waiting.ensures.started)

pub returns-clause-none : goal.returns-clause-none
returns-clause-none c = rw (written_back _ _ _ (c.start_waiting.auto.records ∙ c.deref_mut.ensures.len)) (rw (c.deref_mut.ensures.value, c.self.view_is) at c.start_waiting.ensures.none)

pub returns-clause-falls : goal.returns-clause-falls
returns-clause-falls c = rw (written_back _ _ _ (c.start_waiting.auto.records ∙ c.deref_mut.ensures.len)) (rw (c.deref_mut.ensures.value, c.self.view_is) at c.start_waiting.ensures.falls)

pub returns-clause-records : goal.returns-clause-records
returns-clause-records c = rw (written_back _ _ _ (c.start_waiting.auto.records ∙ c.deref_mut.ensures.len)) c.start_waiting.ensures.kept.records
