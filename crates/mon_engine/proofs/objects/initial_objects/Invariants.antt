use Rattle.std.proofs.Common.{◌≡◌, take, map}
use Rattle.mon_engine.specs.Objects.{initial_object}
use Rattle.mon_engine.proofs.objects.initial_objects.Given as goal

abbrev pub invariant-loop-spec : goal.invariant-loop-spec
invariant-loop-spec l = l.objects.items ≡ map initial_object (take l.spec-index l.spec-items)
