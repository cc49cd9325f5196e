use Rattle.std.proofs.Common.{◌≡◌, ℕ, ◌≤◌, ◌<◌, length, take, get_or}
use Rattle.std.specs.Prelude.{All}
use Rattle.mon_downtime.proofs.depths.reserve_depths.Given as goal

abbrev pub invariant-loop-object : goal.invariant-loop-object
invariant-loop-object l = record {
  same : (o : ℕ) → get_or l.depths.items o 0 ≡ get_or l.fn.depths.items o 0;
  more : length l.fn.depths.items ≤ length l.depths.items;
  counted : All (λ o. o < length l.depths.items) (take l.object-index l.objects);
}
