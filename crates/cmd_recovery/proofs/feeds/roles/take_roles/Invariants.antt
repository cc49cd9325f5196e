use Rattle.std.proofs.Common.{◌<◌, ◌++◌, map, take, length, All}
use Rattle.std.specs.List.Sorted.{IsPermutation}
use Rattle.cmd_recovery.specs.Assigns.{Ascend, AreFit, given_places, left_out}
use Rattle.cmd_recovery.proofs.UnnamedLemmas.{AllTaken}
use Rattle.cmd_recovery.proofs.feeds.roles.take_roles.Given as goal

abbrev pub invariant-loop-number : goal.invariant-loop-number
invariant-loop-number l = record {
  fit : AreFit (map (λ w. w.now) l.words) l.clock 0 (take l.number l.feeds) l.roles.items;
  shared : IsPermutation l.fn.free.items (given_places l.roles.items ++ l.free.items);
  unnamed : AllTaken (map (λ w. w.now) l.words) l.free.items (left_out (take l.number l.feeds) l.roles.items);
  ascend : Ascend l.fn.free.items → Ascend l.free.items;
  within : All (λ place. place < length l.words) l.free.items;
}
