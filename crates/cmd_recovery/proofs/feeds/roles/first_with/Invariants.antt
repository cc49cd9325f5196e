use Rattle.std.proofs.Common.{◌≡◌, map, take}
use Rattle.std.specs.List.{count_by}
use Rattle.cmd_recovery.specs.Assigns.{has_word}
use Rattle.cmd_recovery.proofs.feeds.roles.first_with.Given as goal

abbrev pub invariant-loop-at : goal.invariant-loop-at
invariant-loop-at l = count_by (has_word (map (λ w. w.now) l.words) l.wanted) (take l.at l.free) ≡ 0
