use Rattle.std.proofs.Common.{Option, []}
use Rattle.cmd_queue.specs.Sides.{Taking}
use Rattle.cmd_run.specs.declared.fault.RunCause.{RunCause}
use Rattle.cmd_dispatch.specs.Dispatches.{IsReady}
use Rattle.cmd_dispatch.proofs.dispatch.Dispatch.join_waiting.Given as goal

abbrev pub invariant-loop : goal.invariant-loop
invariant-loop g l = (start : _) (begin : Taking) (first : Option RunCause)
    → IsReady (g.L.Log.holds start l.fn.self.log) (g.L.Log.knows start) begin l.fn.side first l.fn.self.fault []
    → IsReady (g.L.Log.holds start l.self.log) (g.L.Log.knows start) begin l.side first l.self.fault []
