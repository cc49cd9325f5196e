use Rattle.std.proofs.Common.{◌≡◌, ◌<◌, ◌≤◌, ◌&&◌, not, nat_lt, length, vec_capacity}
use Rattle.mon_downtime.specs.declared.event.Event.{Event}
use Rattle.mon_downtime.specs.Order.{has}
use Rattle.mon_downtime.specs.Queue.{IsQueue, queued}
use Rattle.mon_downtime.specs.Cancel.{trigger_of}
use Rattle.mon_downtime.specs.Listed.{hangs_on}
use Rattle.mon_downtime.proofs.due.forget_starts.Given as goal

-- those behind `next` are out
abbrev pub invariant-loop-next : goal.invariant-loop-next
invariant-loop-next l = record {
  queue : IsQueue l.queue;
  room : vec_capacity l.queue.list ≡ vec_capacity l.fn.queue.list;
  within : l.next ≤ length l.records;
  one : 0 < l.next → trigger_of l.records l.next ≡ l.id;
  out : (e : Event) → has (queued l.queue) e ≡ (has (queued l.fn.queue) e && not (hangs_on l.records l.id e && nat_lt l.next e.id));
}

abbrev pub decreases-loop-next : goal.decreases-loop-next
decreases-loop-next l = l.next
