use Rattle.std.proofs.Common.{ap, ◌∙◌}
use Rattle.mon_engine.specs.declared.object.Object.{Object}
use Rattle.mon_engine.proofs.CountLemmas.{read_at, setting_leaves, kept_counted}
use Rattle.mon_engine.proofs.objects.Objects.set.Goals as goal

pub invariant_of-self : goal.invariant_of-self
invariant_of-self c =
    let os = c.self.inside.list.items in
    let o = c.index_mut.result.now in
    let at = read_at os c.args.self.now c.args.object o c.self.view_is c.requires c.index_mut.ensures.value in
    let leaves = setting_leaves c.args.setting o in
    kept_counted os _ _ c.args.object o c.put.new.known c.self.invariant at (ap (λ (x : Object). x.status) c.put.ensures ∙ leaves.0) (ap (λ (x : Object). x.acknowledgement) c.put.ensures ∙ leaves.1)
