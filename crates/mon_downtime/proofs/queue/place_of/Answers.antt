use Rattle.std.proofs.Common.{rules}
use Rattle.std.proofs.lemmas.List.Sorted.{IsPartitionPoint-from_clause}
use Rattle.mon_downtime.specs.declared.event.Event.{Event}
use Rattle.mon_downtime.specs.Events.{before}
use Rattle.mon_downtime.proofs.OrderLemmas.{parted, place_is}
use Rattle.mon_downtime.proofs.queue.place_of.Goals as goal

pub returns : goal.returns
returns c =
    let point = IsPartitionPoint-from_clause (λ (x : Event). before x c.args.event.now) _ _ c.partition_point.ensures.partitioned (parted c.args.event.now c.args.events.now c.requires) (λ a r q k. search rules) in
    place_is c.args.event.now c.args.events.now c.partition_point.result c.partition_point.ensures.bound point
