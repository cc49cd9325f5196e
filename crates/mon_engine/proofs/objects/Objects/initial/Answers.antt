use Rattle.std.proofs.Common.{List, subst, sym}
use Rattle.mon_engine.specs.declared.object.Object.{Object}
use Rattle.mon_engine.specs.Figures.{AreCounted}
use Rattle.mon_engine.proofs.FigureLemmas.{first_counted}
use Rattle.mon_engine.proofs.objects.Objects.initial.Goals as goal

pub invariant_of-result : goal.invariant_of-result
invariant_of-result c = subst (λ (os : List Object). AreCounted os 0 0) (sym c.in_ok-list.ensures.objects) (first_counted c.args.inventory.now.objects)
