use Rattle.std.proofs.Common.{rules, ◌∙◌}
use Rattle.std.proofs.lemmas.List.Sorted.{answers_always}
use Rattle.mon_notes.specs.declared.comment.Comment.{Comment}
use Rattle.mon_notes.proofs.IdLemmas.{searched, search_tells}
use Rattle.mon_notes.proofs.search.is_there.Goals as goal

pub returns : goal.returns
returns c =
    let facts = c.binary_search_by_key.ensures in
    let by_key = facts.position (λ (x : Comment). x.id) (answers_always _ _ _ (λ f a r g called. search rules)) in
    λ w. c.is_ok.ensures.value ∙ search_tells c.args.comments.now c.args.id w _ (searched c.args.comments.now c.args.id w _ facts.bound by_key)
