use Rattle.std.proofs.Common.{◌≡◌, ◌++◌, map, take}
use Rattle.cmd_recovery.specs.declared.feeds.assigned.Role.TheVariants.{Given}
use Rattle.cmd_recovery.specs.Assigns.{new_feed, word_at}
use Rattle.cmd_recovery.proofs.feeds.assigning.add_new.Given as goal

abbrev pub invariant-loop-place : goal.invariant-loop-place
invariant-loop-place l = record {
  feeds : l.feeds.items ≡ l.fn.feeds.items ++ map (λ place. new_feed (word_at (map (λ w. w.now) l.words) place)) (take l.place-index l.free);
  roles : l.roles.items ≡ l.fn.roles.items ++ map Given (take l.place-index l.free);
}
