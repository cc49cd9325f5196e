use Rattle.std.proofs.Common.{sym, ap, ◌∙◌, List}
use Rattle.std.specs.Prelude.{slice_set}
use Rattle.std.proofs.lemmas.Option.{same_Some}
use Rattle.mon_engine.specs.declared.object.Object.{Object}
use Rattle.mon_engine.specs.Objects.{object_after}
use Rattle.mon_engine.specs.Places.{changed_at, change_to}
use Rattle.mon_engine.specs.Results.{checked_as}
use Rattle.mon_engine.proofs.CountLemmas.{place_counted, read_at, stands_at}
use Rattle.mon_engine.proofs.objects.Objects.take.Goals as goal

pub take_result-checked-requires : goal.take_result-checked-requires
take_result-checked-requires c = c.requires.can_take c.index_mut-known.result.now (stands_at c.self.inside.list.items c.args.self.now c.args.object c.index_mut-known.result.now c.self.view_is c.requires.object c.index_mut-known.ensures.value)

pub invariant_of-self : goal.invariant_of-self
invariant_of-self c =
    let os = c.self.inside.list.items in
    let o = c.index_mut-known.result.now in
    let at = read_at os c.args.self.now c.args.object o c.self.view_is c.requires.object c.index_mut-known.ensures.value in
    place_counted os _ _ _ _ c.args.object o c.take_result-checked.new.object c.self.invariant at c.recounted-self-inside.ensures (rw (sym c.is_acknowledged-was_acknowledged.ensures, sym c.is_acknowledged.ensures) c.recounted-self-inside-2.ensures)

pub returns-clause-taken : goal.returns-clause-taken
returns-clause-taken c =
    let os = c.self.inside.list.items in
    let f = object_after c.args.check.clock c.args.check.code c.args.check.output c.args.check.host_up c.args.check.soft_hosts c.args.check.max in
    let at = read_at os c.args.self.now c.args.object c.index_mut-known.result.now c.self.view_is c.requires.object c.index_mut-known.ensures.value in
    ap (slice_set os c.args.object) c.take_result-checked.ensures.object ∙ sym (ap (change_to os c.args.object f) at) ∙ ap (λ (v : List Object). changed_at v c.args.object f) c.self.view_is

pub returns-clause-checked : goal.returns-clause-checked
returns-clause-checked c = λ o e.
    (let at = stands_at c.self.inside.list.items c.args.self.now c.args.object c.index_mut-known.result.now c.self.view_is c.requires.object c.index_mut-known.ensures.value in
    c.take_result-checked.ensures.checked ∙ ap (λ (x : Object). checked_as x c.args.check.code) (same_Some _ _ (sym at ∙ e)))
