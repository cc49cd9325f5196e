use Rattle.std.proofs.Common.{refl, sym}
use Rattle.mon_engine.specs.Objects.{with_acknowledgement}
use Rattle.mon_engine.proofs.CountLemmas.{read_at, place_counted}
use Rattle.mon_engine.proofs.objects.Objects.set_acknowledgement.Goals as goal

pub invariant_of-self : goal.invariant_of-self
invariant_of-self c =
    let os = c.self.inside.list.items in
    let o = c.index_mut-known.result.now in
    let at = read_at os c.args.self.now c.args.object o c.self.view_is c.requires c.index_mut-known.ensures.value in
    place_counted os _ _ _ _ c.args.object o (with_acknowledgement c.args.acknowledgement o) c.self.invariant at refl (rw (sym c.is_acknowledged-was.ensures, sym c.is_acknowledged-is.ensures) c.recounted-self-inside.ensures)
