use Rattle.std.proofs.Common.{◌≡◌, ◌≤◌, ◌<◌, ℕ, Bool, List, length, take}
use Rattle.std.specs.Prelude.{All}
use Rattle.mon_downtime.specs.declared.downtime.Downtime.{Downtime}
use Rattle.mon_downtime.specs.Rings.{AreRings}
use Rattle.mon_downtime.proofs.rings.Rings.reserve_ends.Given as goal

abbrev pub invariant-loop-object : goal.invariant-loop-object
invariant-loop-object l = record {
  rings : (ds : List Downtime) (out : ℕ → Bool) → AreRings ds out l.fn.self → AreRings ds out l.self;
  near : l.self.near ≡ l.fn.self.near;
  more : length l.fn.self.ends.items ≤ length l.self.ends.items;
  counted : All (λ o. o < length l.self.ends.items) (take l.object-index l.objects);
}
