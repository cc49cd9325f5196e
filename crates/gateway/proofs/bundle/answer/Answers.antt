use Rattle.std.proofs.Common.{List, ℕ, Some, true, false, map, ap, subst, ◌∙◌}
use Rattle.cmd_dispatch.specs.RunCalls.{sources}
use Rattle.gateway.specs.Answers.{AnswersFeeds}
use Rattle.gateway.proofs.FeedLemmas.{answered_bundle, answers_as}
use Rattle.gateway.proofs.bundle.answer.Goals as goal

pub returns-clause-answers : goal.returns-clause-answers
returns-clause-answers g c =
    let inv = c.in_ok-inventory.inventory in
    let ran = c.in_ok-answer_feeds in
    answered_bundle c.args.options c.args.input.now _ inv _ _ c.requires c.in_ok-inventory.ensures.read
    (subst (λ (feeds : List (List ℕ)). AnswersFeeds (sources Some (λ _. false) (λ _. true) c.args.options.run feeds) c.args.options inv ran.field-0.0.items ran.field-0.1) (c.in_ok-readers.ensures ∙ ap (map (λ f. f.now)) c.deref.ensures.value)
    (answers_as (λ b. b.rest.now) Some (λ _. false) (λ _. true) c.in_ok-readers.readers.items c.args.options inv _ _ ran.ensures))
