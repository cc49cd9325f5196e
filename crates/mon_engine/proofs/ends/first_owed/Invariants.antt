use Rattle.std.proofs.Common.{◌≡◌, take, map}
use Rattle.mon_engine.specs.Owed.{initial_owed}
use Rattle.mon_engine.proofs.ends.first_owed.Given as goal

abbrev pub invariant-loop : goal.invariant-loop
invariant-loop l = l.owed.items ≡ map initial_owed (take l.index l.items)
