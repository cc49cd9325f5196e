use Rattle.std.proofs.Common.{◌≡◌, ◌≤◌, true, All, length, map, vec_capacity}
use Rattle.std.specs.List.{range_with_len}
use Rattle.cmd_live.proofs.run.Run.attendants.Given as goal

abbrev pub invariant-loop-feed : goal.invariant-loop-feed
invariant-loop-feed g l = record {
  count : length l.attendants.items ≡ l.feed;
  nothing : All (λ a. (a.is_clean ≡ true) × (a.first.value ≡ a.refusals)) l.attendants.items;
  numbers : map (λ a. a.care.feed) l.attendants.items ≡ range_with_len 0 l.feed;
  room : l.fn.feeds ≤ vec_capacity l.attendants;
}
