use Rattle.std.proofs.Common.{[], sym, subst}
use Rattle.cmd_queue.specs.Sides.{Taking}
use Rattle.cmd_dispatch.specs.Dispatches.{IsReady}
use Rattle.cmd_dispatch.proofs.DispatchLemmas.{with_next}
use Rattle.cmd_dispatch.proofs.dispatch.Dispatch.join_waiting.Goals as goal

pub loop-init : goal.loop-init
loop-init g c = λ start begin first is. is

pub pass-requires : goal.pass-requires
pass-requires g c =
    let w = c.requires in
    let was = c.loop.invariant w.0 w.1 w.2 w.3 in
    (w.0, w.1, c.loop.side, w.2, with_next _ _ _ _ _ _ _ _ was.taking was.kept was.known c.in-Some.ensures.next c.in-Some.ensures.taken c.take_waiting.ensures.planned)

pub loop-preserved : goal.loop-preserved
loop-preserved g c = λ start begin first is.
    let was = c.loop.invariant start begin first is in
    subst (λ (t : Taking). IsReady (g.L.Log.holds start c.pass.new.self.log) (g.L.Log.knows start) begin t first c.pass.new.self.fault [])
    (sym c.in-Some.ensures.taken)
    (c.pass.ensures start begin c.loop.side first (with_next _ _ _ _ _ _ _ _ was.taking was.kept was.known c.in-Some.ensures.next c.in-Some.ensures.taken c.take_waiting.ensures.planned))

pub returns-in_default : goal.returns-in_default
returns-in_default g c = λ start begin first is.
    subst (λ (t : Taking). IsReady (g.L.Log.holds start c.loop.self.log) (g.L.Log.knows start) begin t first c.loop.self.fault []) (sym c.in_default.ensures.none) (c.loop.invariant start begin first is)
