use Rattle.std.proofs.Common.{take}
use Rattle.mon_notes.specs.Listed.{AreListed}
use Rattle.mon_notes.proofs.lists.lists_of.Given as goal

abbrev pub invariant-loop-place : goal.invariant-loop-place
invariant-loop-place l = AreListed l.lists (take l.place l.comments)
