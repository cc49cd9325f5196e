use Rattle.std.proofs.Common.{◌≡◌, ◌≤◌, length, take, vec_len, vec_capacity}
use Rattle.mon_downtime.proofs.queue.Queue.slide.Given as goal

-- behind what was there stands whatever was pushed
abbrev pub invariant-loop : goal.invariant-loop
invariant-loop l = record {
  front : take (length l.fn.self.list.items) l.self.list.items ≡ l.fn.self.list.items;
  more : length l.fn.self.list.items ≤ length l.self.list.items;
  long : vec_len l.self.list ≡ l.counter;
  room : vec_capacity l.self.list ≡ vec_capacity l.fn.self.list;
  start : l.self.start ≡ l.fn.self.start;
}
