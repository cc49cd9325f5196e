use Rattle.std.proofs.Common.{◌∙◌, ℕ, false, ap, replicate, rules}
use Rattle.crossbeam_channel.specs.Claims.{view}
use Rattle.cmd_queue.specs.declared.rule.View.{View}
use Rattle.cmd_queue.specs.declared.tally.Tally.{Tally}
use Rattle.cmd_queue.specs.Rows.{row_taken}
use Rattle.cmd_queue.proofs.Steps.{begins, plans}
use Rattle.cmd_queue.proofs.Takers.{nothing_received, nothing_counted}
use Rattle.cmd_queue.proofs.make.make_queue.Goals as goal

pub bounded_with-requires-clause-rule : goal.bounded_with-requires-clause-rule
bounded_with-requires-clause-rule g c = begins

pub another-requires-clause-rule : goal.another-requires-clause-rule
another-requires-clause-rule g c =
    let new = c.in_ok-first.ensures.3 in
    plans g.J.Planning.plan _ (view c.in_ok-first.pass) (ap (λ (v : View). v.takes) new) (ap (λ (v : View). v.made) new)

pub invariant_of-dispatcher : goal.invariant_of-dispatcher
invariant_of-dispatcher g c =
    let made = c.in_ok-sides.ensures.made in
    let none = c.nothing-rest.ensures in
    let nothing : Tally = record { count = 0; closed = false } in
    let tallies = c.in_ok-tallies.ensures.items_if_clones_equal (λ y e. e) ∙ ap (λ (n : ℕ). replicate n nothing) c.from.ensures in
    (search rules, (nothing_received (view c.sides_of.new.pass) _ _ (row_taken c.nothing-rest.result) made none, nothing_counted (view c.sides_of.new.pass) _ _ (row_taken c.nothing-rest.result) _ made none tallies))
