use Rattle.std.proofs.Common.{nat_le, rules}
use Rattle.std.proofs.lemmas.List.Sorted.{IsPartitionPoint-from_clause}
use Rattle.mon_downtime.specs.declared.event.Event.{Event}
use Rattle.mon_downtime.proofs.OrderLemmas.{parted_moments, moments_are}
use Rattle.mon_downtime.proofs.queue.place_after.Goals as goal

pub returns : goal.returns
returns c =
    let point = IsPartitionPoint-from_clause (λ (x : Event). nat_le x.moment c.args.t) _ _ c.partition_point.ensures.partitioned (parted_moments c.args.t c.args.events.now c.requires) (λ a r q k. search rules) in
    moments_are c.args.t c.args.events.now c.partition_point.result c.partition_point.ensures.bound point
