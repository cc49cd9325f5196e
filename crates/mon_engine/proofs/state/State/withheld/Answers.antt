use Rattle.std.proofs.Common.{ℕ, ◌+◌, List, ap, sym, ◌∙◌, arith, rules}
use Rattle.std.specs.Prelude.{true}
use Rattle.mon_notify.specs.declared.contacts.ContactSwitch.{ContactSwitch}
use Rattle.mon_notify.specs.declared.letter.Letter.{Letter}
use Rattle.mon_notify.specs.Recipients.{recipients}
use Rattle.mon_engine.specs.Notices.{problem_facts}
use Rattle.mon_engine.specs.declared.notices.Occasion.TheVariants.{Clock}
use Rattle.mon_engine.specs.World.{World}
use Rattle.mon_engine.proofs.WithheldLemmas.{withheld_by_facts, withheld_by_contacts}
use Rattle.mon_engine.proofs.state.State.withheld.Goals as goal

pub problem_facts-requires-clause-host : goal.problem_facts-requires-clause-host
problem_facts-requires-clause-host c =
    let host = (c.requires.sound.objects _ _ c.found-found.ensures.spec).host_stands.within in
    let long = c.requires.world.states.as_many in
    omega (arith, host, long)

pub returns-then-is_some : goal.returns-then-is_some
returns-then-is_some c =
    let found = c.found-found.result in
    withheld_by_facts c.args.inventory.now c.args.self.now c.args.object found.spec.now found.state.now c.problem_facts.result c.failing_test-failing.result c.found-found.ensures.spec c.found-found.ensures.state
    (c.problem_facts.ensures ∙ ap (λ (k : ℕ). problem_facts c.args.inventory.now c.args.self.now Clock k found.spec.now found.state.now) c.found-found.ensures.index) c.failing_test-failing.ensures (sym c.is_some.ensures ∙ c.if-is_some.true)

pub returns-then-is_empty : goal.returns-then-is_empty
returns-then-is_empty c =
    let found = c.found-found.result in
    let by = withheld_by_contacts c.args.inventory.now c.args.self.now c.args.object found.spec.now found.state.now c.problem_facts.result c.failing_test-failing.result c.found-found.ensures.spec c.found-found.ensures.state
    (c.problem_facts.ensures ∙ ap (λ (k : ℕ). problem_facts c.args.inventory.now c.args.self.now Clock k found.spec.now found.state.now) c.found-found.ensures.index) c.failing_test-failing.ensures (sym c.is_some.ensures ∙ c.if-is_some.false) c.in_ok-contacts.contacts.items
    (c.in_ok-contacts.ensures.told
    ∙ ap (λ (cs : List ContactSwitch). recipients c.args.inventory.now cs c.args.object (found.state.now.number + 1) c.state_letter-letter.result true) (c.deref.ensures.value ∙ ap (λ (w : World). w.contacts) c.self.view_is)
    ∙ ap (λ (l : Letter). recipients c.args.inventory.now c.args.self.now.contacts c.args.object (found.state.now.number + 1) l true) c.state_letter-letter.ensures) in
    search (rules, by)

pub returns : goal.returns
returns c =
    let found = c.found-found.result in
    let by = withheld_by_contacts c.args.inventory.now c.args.self.now c.args.object found.spec.now found.state.now c.problem_facts.result c.failing_test-failing.result c.found-found.ensures.spec c.found-found.ensures.state
    (c.problem_facts.ensures ∙ ap (λ (k : ℕ). problem_facts c.args.inventory.now c.args.self.now Clock k found.spec.now found.state.now) c.found-found.ensures.index) c.failing_test-failing.ensures (sym c.is_some.ensures ∙ c.if-is_some.false) c.in_ok-contacts.contacts.items
    (c.in_ok-contacts.ensures.told
    ∙ ap (λ (cs : List ContactSwitch). recipients c.args.inventory.now cs c.args.object (found.state.now.number + 1) c.state_letter-letter.result true) (c.deref.ensures.value ∙ ap (λ (w : World). w.contacts) c.self.view_is)
    ∙ ap (λ (l : Letter). recipients c.args.inventory.now c.args.self.now.contacts c.args.object (found.state.now.number + 1) l true) c.state_letter-letter.ensures) in
    search (rules, by)
