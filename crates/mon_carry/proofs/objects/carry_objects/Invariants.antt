use Rattle.std.proofs.Common.{◌≡◌, ◌++◌, map, length}
use Rattle.std.specs.Vec.Iter.{into_iter_items}
use Rattle.mon_carry.proofs.PlacingLemmas.{object_so_far}
use Rattle.mon_carry.proofs.objects.carry_objects.Given as goal

abbrev pub invariant-loop-known : goal.invariant-loop-known
invariant-loop-known l = record {
  parts : l.yielded ++ into_iter_items l.known-iterator ≡ l.fn.objects.items;
  at : l.index ≡ length l.yielded;
  carried : l.carried.items ≡ map (object_so_far l.clock l.old.objects l.fn.objects.items l.index) l.new.objects;
}
