use Rattle.std.proofs.Common.{◌≡◌, ◌∙◌, ◌++◌, ◌∷◌, [], sym, ap, subst, append_assoc, append-nil, arith}
use Rattle.std.specs.List.{All}
use Rattle.std.specs.Vec.Iter.{into_iter_items}
use Rattle.std.proofs.lemmas.List.{nil_from_length}
use Rattle.std.proofs.lemmas.List.Elements.{All-push}
use Rattle.cmd_queue.specs.Sides.{Ended, Taking, IsSettled}
use Rattle.cmd_queue.proofs.settled.settle.Goals as goal

pub loop-ended-preserved : goal.loop-ended-preserved
loop-ended-preserved c =
    let e : Ended = c.in-Some.ended in
    let was = c.loop-ended.invariant in
    record {
      same = c.hand_in.ensures.same ∙ was.same;
      parts = append_assoc c.loop-ended.yielded (e ∷ []) (into_iter_items c.next.new.self) ∙ ap (λ r. c.loop-ended.yielded ++ r) (sym c.in-Some.ensures.steps.0) ∙ was.parts;
      settled = All-push (λ (end : Ended). IsSettled c.args.dispatcher end) c.loop-ended.yielded e was.settled (subst (λ (t : Taking). IsSettled t e) was.same c.hand_in.ensures.settled);
    }

pub returns-clause-each : goal.returns-clause-each
returns-clause-each c =
    let was = c.loop-ended.invariant in
    let none : into_iter_items c.loop-ended.ended-iterator ≡ [] = nil_from_length (into_iter_items c.loop-ended.ended-iterator) (omega (arith, c.in-None.ensures.steps.0, c.loop-ended.ended-iterator.rest.ok)) in
    let all : c.loop-ended.yielded ≡ c.args.ends.items = sym (append-nil c.loop-ended.yielded) ∙ ap (λ r. c.loop-ended.yielded ++ r) (sym none) ∙ was.parts in
    subst (All (λ (end : Ended). IsSettled c.args.dispatcher end)) all was.settled
