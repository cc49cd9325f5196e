use Rattle.std.proofs.Common.{◌++◌, ◌∷◌, [], sym, ap, ◌∙◌, arith, append_assoc, vec_capacity}
use Rattle.std.proofs.lemmas.List.{nil_from_length}
use Rattle.std.specs.Vec.Iter.{into_iter_items}
use Rattle.cmd_dispatch.proofs.ThreadLemmas.{ended_more, ended_all}
use Rattle.cmd_dispatch.proofs.threads.join_all.Goals as goal

pub loop-handle-preserved : goal.loop-handle-preserved
loop-handle-preserved g c =
    let was = c.loop-handle.invariant in
    let hs = c.loop-handle.yielded in
    record {
      ended = ended_more g.F.Feed.remaining g.F.Feed.fails g.F.Feed.fills g.P.Reporter.view g.P.Reporter.has_taken hs c.loop-handle.ends.items c.push_reserved.new.self.items c.loop-handle.reports.items c.push_reserved-in-loop-handle.new.self.items c.in-Some.handle c.join-end.result.0 c.join-end.result.1
          was.ended (g.F.Feed.remaining c.join-end.result.2, c.join-end.ensures) c.push_reserved.ensures.items c.push_reserved-in-loop-handle.ensures.items;
      parts = append_assoc hs (c.in-Some.handle ∷ []) (into_iter_items c.next.new.self) ∙ ap (λ r. hs ++ r) (sym c.in-Some.ensures.steps.0) ∙ was.parts;
      ends = ◌∙◌ {a = vec_capacity c.push_reserved.new.self} c.push_reserved.ensures.capacity was.ends;
      reports = ◌∙◌ {a = vec_capacity c.push_reserved-in-loop-handle.new.self} c.push_reserved-in-loop-handle.ensures.capacity was.reports;
    }

pub returns : goal.returns
returns g c =
    let was = c.loop-handle.invariant in
    ended_all g.F.Feed.remaining g.F.Feed.fails g.F.Feed.fills g.P.Reporter.view g.P.Reporter.has_taken c.loop-handle.yielded (into_iter_items c.loop-handle.handle-iterator) c.args.started.items _ _ was.ended was.parts
    (nil_from_length (into_iter_items c.loop-handle.handle-iterator) (omega (arith, c.in-None.ensures.steps.0, c.loop-handle.handle-iterator.rest.ok)))
