use Rattle.std.proofs.Common.{arith, ap, ◌∙◌, List, refl, rules, slice_get, subst, sym}
use Rattle.mon_checks.specs.States.{IsCodeOf}
use Rattle.mon_engine.specs.declared.object.Object.{Object}
use Rattle.mon_engine.specs.Objects.{host_is_up}
use Rattle.mon_engine.specs.Sound.{IsWorldAt, ever, raised}
use Rattle.mon_engine.specs.World.{World}
use Rattle.mon_engine.specs.contracts.state.State.{the_view}
use Rattle.mon_engine.proofs.PartLemmas.{tellable}
use Rattle.mon_engine.proofs.ResultLemmas.{change_found}
use Rattle.mon_engine.proofs.state.State.check_result.Goals as goal

pub tell_change-requires : goal.tell_change-requires
tell_change-requires c =
    let up = c.host_is_up.ensures ∙ ap (λ (os : List Object). host_is_up os c.object-spec.result.now) c.as_slice.ensures in
    let here : IsWorldAt c.args.inventory.now (ever c.args.self.now) (raised c.args.self.now) c.start_waiting.new.self =
    change_found c.args.inventory.now (ever c.args.self.now) (raised c.args.self.now) (the_view c.self.inside) c.args.self.now c.start_waiting.new.self c.args.passive.object c.object-spec.result.now c.get.result.now _ c.args.passive.code c.args.passive.output.now _ _ _ _ _ _
    c.requires.sound c.requires.world c.object-spec.ensures.value c.self.view_is refl c.in_ok-copy.ensures up c.passive_hosts_soft.ensures (c.take-checked.ensures.checked c.get.result.now c.get.ensures) c.take-checked.ensures.taken c.drop_comments.ensures c.in_ok-start_waiting.ensures in
    let limit = c.requires.world.limit in
    let earlier = c.requires.world.earlier in
    record {
      object = c.requires.object;
      sound = c.requires.sound;
      tellable = tellable c.args.inventory.now (ever c.args.self.now) (raised c.args.self.now) c.start_waiting.new.self here;
      next = λ o e. (let few = here.states.numbers c.args.passive.object o e in omega (arith, few, limit, earlier));
    }

pub returns-then-not-is_taken : goal.returns-then-not-is_taken
unfolding Rattle.mon_engine.specs.Results.after_check_result
returns-then-not-is_taken c = (rw (← c.self.view_is, c.object-spec.ensures.value, c.get.ensures, ← c.is_taken.ensures, c.if-not-is_taken.true) refl, refl)

pub returns-in_err-copy : goal.returns-in_err-copy
unfolding Rattle.mon_engine.specs.Results.after_check_result
returns-in_err-copy c = search rules

pub returns : goal.returns
unfolding Rattle.mon_engine.specs.Results.after_check_result
returns c =
    let taken = rw c.passive_hosts_soft.ensures at c.take-checked.ensures.taken in
    search (rules, taken)

pub take-checked-requires-clause-can_take : goal.take-checked-requires-clause-can_take
take-checked-requires-clause-can_take c = λ o at.
    (let spec = c.object-spec.result.now in
    let known = c.object-spec.ensures.value in
    let its = c.requires.sound.objects c.args.passive.object spec known in
    let state = c.requires.world.states.each c.args.passive.object spec o known (ap (λ (w : World). slice_get w.objects c.args.passive.object) (sym c.self.view_is) ∙ at) in
    record {
      of_kind = subst (λ b. IsCodeOf b c.args.passive.code) (sym state.kind) (c.requires.code spec known);
      least = its.max_least;
      greatest = its.max_small;
      within = state.within;
    })
