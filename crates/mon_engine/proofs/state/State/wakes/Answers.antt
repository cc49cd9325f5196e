use Rattle.std.proofs.Common.{ℕ, ap, ◌∙◌, arith}
use Rattle.std.proofs.lemmas.Bool.{ne_eqb}
use Rattle.mon_engine.specs.declared.notices.Occasion.TheVariants.{Clock}
use Rattle.mon_engine.specs.Notices.{problem_facts}
use Rattle.mon_engine.proofs.WakeLemmas.{wakes_bad}
use Rattle.mon_engine.proofs.state.State.wakes.Goals as goal

pub problem_facts-requires-clause-host : goal.problem_facts-requires-clause-host
problem_facts-requires-clause-host c = (let host = (c.requires.sound.objects _ _ c.found-found.ensures.spec).host_stands.within in omega (arith, host, c.requires.tellable.objects))

pub returns : goal.returns
returns c =
    let found = c.found-found.result in
    c.min.ensures ∙ wakes_bad c.args.inventory.now c.args.self.now c.args.object found.spec.now found.state.now c.problem_facts.result c.wakes_by.result c.stale_from-stale.result c.found-found.ensures.spec c.found-found.ensures.state (ne_eqb c.found-found.result.state.now.status.code 0 c.if-found-eq0.false)
    (c.problem_facts.ensures ∙ ap (λ (k : ℕ). problem_facts c.args.inventory.now c.args.self.now Clock k found.spec.now found.state.now) c.found-found.ensures.index) c.wakes_by.ensures c.stale_from-stale.ensures
