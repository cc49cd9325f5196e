use Rattle.std.proofs.Common.{◌≡◌, ◌≤◌, ◌++◌, length, map, vec_capacity}
use Rattle.std.specs.Vec.Iter.{into_iter_items}
use Rattle.gateway.proofs.files.readers_of.Given as goal

abbrev pub invariant-loop-file : goal.invariant-loop-file
invariant-loop-file g l = record {
  parts : map (λ o. o.reader) l.readers.items ++ into_iter_items l.file-iterator ≡ l.fn.files.items;
  room : length l.fn.files.items ≤ vec_capacity l.readers;
}
