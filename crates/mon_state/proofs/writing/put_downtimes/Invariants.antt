use Rattle.std.proofs.Common.{◌≡◌, ◌++◌, drop}
use Rattle.std.specs.List.{flat_map}
use Rattle.cmd_types.specs.Growth.{Grows}
use Rattle.mon_state.specs.State.{downtime_line}
use Rattle.mon_state.proofs.writing.put_downtimes.Given as goal

abbrev pub invariant-loop-downtime : goal.invariant-loop-downtime
invariant-loop-downtime l = record {
  put : l.out.items ++ flat_map (downtime_line l.inventory.objects) (drop l.downtime-index l.downtimes) ≡ l.fn.out.items ++ flat_map (downtime_line l.inventory.objects) l.downtimes;
  grown : Grows l.fn.out.items l.out.items;
}
