use Rattle.std.proofs.Common.{◌≡◌, map}
use Rattle.std.specs.List.{range_with_len}
use Rattle.mon_engine.specs.Owed.{presumed_at}
use Rattle.mon_engine.proofs.ends.presumed_owed.Given as goal

abbrev pub invariant-loop-object : goal.invariant-loop-object
invariant-loop-object l = l.owed.items ≡ map (presumed_at l.inventory l.objects) (range_with_len 0 l.object)
