use Rattle.std.proofs.Common.{refl}
use Rattle.mon_engine.specs.Objects.{reset}
use Rattle.mon_engine.proofs.CountLemmas.{read_at, kept_counted}
use Rattle.mon_engine.proofs.objects.Objects.reset_notices.Goals as goal

pub invariant_of-self : goal.invariant_of-self
invariant_of-self c =
    let os = c.self.inside.list.items in
    let o = c.index_mut-known.result.now in
    let at = read_at os c.args.self.now c.args.object o c.self.view_is c.requires c.index_mut-known.ensures.value in
    kept_counted os _ _ c.args.object o (reset o) c.self.invariant at refl refl
