use Rattle.std.proofs.Common.{◌≡◌, ◌∙◌, Some}
use Rattle.mon_downtime.specs.Events.{due}
use Rattle.mon_downtime.proofs.RecordLemmas.{written_back}
use Rattle.mon_downtime.proofs.RangeLemmas.{due_is_taken}
use Rattle.mon_downtime.proofs.downtimes.Downtimes.take_event.Goals as goal

pub apply-requires-clause-event : goal.apply-requires-clause-event
apply-requires-clause-event c =
    let e : due c.self.inside.records.items c.args.t ≡ Some c.in-Some.event = cc (c.next_due.ensures, c.self.view_is, c.in-Some.is) in
    let taken = due_is_taken c.self.inside.records.items c.args.t c.in-Some.event c.self.invariant.records e in
    rw (c.deref_mut.ensures.value) taken.event

pub apply-requires-clause-there : goal.apply-requires-clause-there
apply-requires-clause-there c =
    let e : due c.self.inside.records.items c.args.t ≡ Some c.in-Some.event = cc (c.next_due.ensures, c.self.view_is, c.in-Some.is) in
    let taken = due_is_taken c.self.inside.records.items c.args.t c.in-Some.event c.self.invariant.records e in
    rw (c.deref_mut.ensures.value) taken.there

pub apply-requires-clause-kept : goal.apply-requires-clause-kept
apply-requires-clause-kept c = rw c.deref_mut.ensures.value c.self.invariant

pub invariant_of-self : goal.invariant_of-self
invariant_of-self c = rw (written_back _ _ _ (c.apply.auto.records ∙ c.deref_mut.ensures.len)) c.apply.ensures.kept

pub returns-in-Some-clause-applied : goal.returns-in-Some-clause-applied
returns-in-Some-clause-applied c = written_back _ _ _ (c.apply.auto.records ∙ c.deref_mut.ensures.len) ∙ (rw (c.deref_mut.ensures.value, c.self.view_is) at c.apply.ensures.applied)

pub returns-in-Some-clause-falls : goal.returns-in-Some-clause-falls
returns-in-Some-clause-falls c = rw (written_back _ _ _ (c.apply.auto.records ∙ c.deref_mut.ensures.len)) (rw (c.deref_mut.ensures.value, c.self.view_is) at c.apply.ensures.falls)

pub returns-in-Some-clause-records : goal.returns-in-Some-clause-records
returns-in-Some-clause-records c = rw (written_back _ _ _ (c.apply.auto.records ∙ c.deref_mut.ensures.len)) c.apply.ensures.kept.records
