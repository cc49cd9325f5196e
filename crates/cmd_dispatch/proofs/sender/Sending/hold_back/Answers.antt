use Rattle.std.proofs.Common.{◌≡◌, ◌∷◌, ◌++◌, [], ◌∙◌, length, sym, ap, subst, arith, length-append}
use Rattle.cmd_queue.specs.Sides.{with_commands}
use Rattle.cmd_dispatch.specs.Planned.{IsOfPlan}
use Rattle.cmd_dispatch.proofs.PlanLemmas.{gathered_first}
use Rattle.cmd_dispatch.proofs.SendLemmas.{length-ahead, sent_ahead, waited}
use Rattle.cmd_dispatch.proofs.sender.Sending.hold_back.Goals as goal

pub send_gathered-requires-clause-within : goal.send_gathered-requires-clause-within
send_gathered-requires-clause-within g c κs within =
    let old = c.args.self.now in
    let first = c.pop.new.self.items in
    let all : old.gathered.items ≡ first ++ c.in-Some-pop.held ∷ [] = c.in-Some-pop.ensures.items in
    (omega (arith, c.requires.within.0, ap length all, length-append first (c.in-Some-pop.held ∷ [])), omega (arith, c.requires.within.1, length-ahead old.side old.gathered.items, length-ahead old.side first, ap length all, length-append first (c.in-Some-pop.held ∷ [])), gathered_first old.side first (c.in-Some-pop.held ∷ []) (subst (λ cs. IsOfPlan (with_commands old.side cs)) all c.requires.within.2))

pub returns-clause-same : goal.returns-clause-same
returns-clause-same g c =
    let old = c.args.self.now in
    let first = c.pop.new.self.items in
    let held = c.in-Some-pop.held in
    let same = c.send_gathered.ensures.same in
    let none = c.in_ok-send_gathered.ensures.sent in
    let sent = sent_ahead g.P.Reporter.has_taken (record old { gathered = c.pop.new.self; report = c.must_wait.new.self }) c.send_gathered.new.self same none in (
      ap (with_commands c.send_gathered.new.self.side) (c.push_reserved.ensures.items ∙ ap (λ l. l ++ held ∷ []) (c.reserve_exact.ensures.items ∙ none)) ∙ ap (λ s. with_commands s (held ∷ [])) sent ∙ waited old.side first held ∙ ap (with_commands old.side) (sym c.in-Some-pop.ensures.items),
      same.1,
      λ refused told. c.wait_for.ensures.kept refused (same.2 refused (c.must_wait.ensures.kept refused told)),
    )

pub returns-clause-within : goal.returns-clause-within
returns-clause-within g c =
    let is = (returns-clause-same g c).0 in
    let none = c.in_ok-send_gathered.ensures.sent in
    (omega (arith, ap length c.push_reserved.ensures.items, ap length (c.reserve_exact.ensures.items ∙ none), length-append c.reserve_exact.new.self.items (c.in-Some-pop.held ∷ [])), omega (arith, c.requires.within.1, ap (λ s. length s.list) is), subst IsOfPlan (sym is) c.requires.within.2)
