use Rattle.std.proofs.Common.{◌≡◌, ◌++◌, map, vec_capacity}
use Rattle.std.specs.Vec.Iter.{into_iter_items}
use Rattle.cmd_dispatch.specs.Delivered.{taken_at}
use Rattle.cmd_dispatch.specs.Threads.{HaveEnded}
use Rattle.cmd_dispatch.proofs.threads.join_all.Given as goal

abbrev pub invariant-loop-handle : goal.invariant-loop-handle
invariant-loop-handle g l = record {
  ended : HaveEnded g.F.Feed.remaining g.F.Feed.fails g.F.Feed.fills l.yielded l.ends.items (map g.P.Reporter.view l.reports.items) (taken_at g.P.Reporter.has_taken l.reports.items);
  parts : l.yielded ++ into_iter_items l.handle-iterator ≡ l.fn.started.items;
  ends : vec_capacity l.ends ≡ vec_capacity l.initial.ends;
  reports : vec_capacity l.reports ≡ vec_capacity l.initial.reports;
}
