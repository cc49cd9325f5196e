use Rattle.std.proofs.Common.{◌≡◌, ◌≤◌, ℕ, ◌∙◌, sym, subst, true, arith, length, List}
use Rattle.mon_downtime.specs.declared.downtime.Downtime.{Downtime}
use Rattle.mon_downtime.specs.Records.{is_live, AreNumbered}
use Rattle.mon_downtime.proofs.RecordLemmas.{numbered, written_back}
use Rattle.mon_downtime.proofs.CancelLemmas.{live_within}
use Rattle.mon_downtime.proofs.downtimes.Downtimes.cancel.Goals as goal

-- the id is of a record
there : (ds xs : List Downtime) (id : ℕ) → AreNumbered 0 ds → ds ≡ xs → is_live xs id ≡ true → (1 ≤ id) × (id ≤ length ds)
there ds xs id w same h = live_within ds id w (subst (λ (ys : List Downtime). is_live ys id ≡ true) (sym same) h)

pub active_dependants-requires-clause-records : goal.active_dependants-requires-clause-records
active_dependants-requires-clause-records c = rw c.deref.ensures.value c.self.invariant.records

pub active_dependants-requires-clause-links : goal.active_dependants-requires-clause-links
active_dependants-requires-clause-links c = rw (c.deref.ensures.value, c.deref-2.ensures.value) c.self.invariant.linked

pub active_dependants-requires-clause-id : goal.active_dependants-requires-clause-id
active_dependants-requires-clause-id c = (let first = (there c.self.inside.records.items c.args.self.now c.args.id (numbered 0 _ c.self.invariant.records) c.self.view_is c.requires).0 in omega arith)

pub active_dependants-requires-clause-within : goal.active_dependants-requires-clause-within
active_dependants-requires-clause-within c = rw c.deref.ensures.value (there c.self.inside.records.items c.args.self.now c.args.id (numbered 0 _ c.self.invariant.records) c.self.view_is c.requires).1

pub end_dependants-requires-clause-kept : goal.end_dependants-requires-clause-kept
end_dependants-requires-clause-kept c = rw c.deref_mut.ensures.value c.self.invariant

pub end_dependants-requires-clause-there : goal.end_dependants-requires-clause-there
end_dependants-requires-clause-there c = rw c.deref_mut.ensures.value (there c.self.inside.records.items c.args.self.now c.args.id (numbered 0 _ c.self.invariant.records) c.self.view_is c.requires)

pub invariant_of-self : goal.invariant_of-self
invariant_of-self c = rw (written_back _ _ _ (c.end_dependants.auto.records ∙ c.deref_mut.ensures.len)) c.end_dependants.ensures.kept

pub returns-clause-active : goal.returns-clause-active
returns-clause-active c = rw (c.deref.ensures.value, c.self.view_is) at c.in_ok-active.ensures

pub returns-clause-ok : goal.returns-clause-ok
returns-clause-ok c = written_back _ _ _ (c.end_dependants.auto.records ∙ c.deref_mut.ensures.len) ∙ (rw (c.deref_mut.ensures.value, c.self.view_is) at c.end_dependants.ensures.ended)

pub returns-clause-records : goal.returns-clause-records
returns-clause-records c = rw (written_back _ _ _ (c.end_dependants.auto.records ∙ c.deref_mut.ensures.len)) c.end_dependants.ensures.kept.records
