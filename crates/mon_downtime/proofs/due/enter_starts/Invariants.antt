use Rattle.std.proofs.Common.{◌≡◌, ◌<◌, ◌≤◌, ◌&&◌, ◌||◌, nat_lt, length, vec_capacity}
use Rattle.mon_downtime.specs.declared.event.Event.{Event}
use Rattle.mon_downtime.specs.Order.{has}
use Rattle.mon_downtime.specs.Queue.{queued}
use Rattle.mon_downtime.specs.Cancel.{trigger_of}
use Rattle.mon_downtime.specs.Listed.{hangs_on, IsPartOf}
use Rattle.mon_downtime.proofs.due.enter_starts.Given as goal

-- those behind `next` are in
abbrev pub invariant-loop-next : goal.invariant-loop-next
invariant-loop-next l = record {
  part : IsPartOf l.records l.queue;
  room : vec_capacity l.queue.list ≡ vec_capacity l.fn.queue.list;
  within : l.next ≤ length l.records;
  one : 0 < l.next → trigger_of l.records l.next ≡ l.id;
  put : (e : Event) → has (queued l.queue) e ≡ (hangs_on l.records l.id e && nat_lt l.next e.id || has (queued l.fn.queue) e);
}

abbrev pub decreases-loop-next : goal.decreases-loop-next
decreases-loop-next l = l.next
