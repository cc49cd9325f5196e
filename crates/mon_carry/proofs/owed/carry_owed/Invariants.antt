use Rattle.std.proofs.Common.{◌≡◌, map}
use Rattle.std.specs.List.{range_with_len}
use Rattle.mon_carry.specs.Carried.{owed_carried_at}
use Rattle.mon_carry.proofs.owed.carry_owed.Given as goal

abbrev pub invariant-loop-object : goal.invariant-loop-object
invariant-loop-object l = l.carried.items ≡ map (owed_carried_at l.old l.new l.owed) (range_with_len 0 l.object)
