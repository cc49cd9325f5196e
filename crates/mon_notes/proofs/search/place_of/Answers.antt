use Rattle.std.proofs.Common.{rules}
use Rattle.std.proofs.lemmas.List.Sorted.{answers_always}
use Rattle.mon_notes.specs.declared.comment.Comment.{Comment}
use Rattle.mon_notes.proofs.IdLemmas.{searched}
use Rattle.mon_notes.proofs.search.place_of.Goals as goal

pub returns-clause-found : goal.returns-clause-found
returns-clause-found c =
    let facts = c.binary_search_by_key.ensures in
    let by_key = facts.position (λ (x : Comment). x.id) (answers_always _ _ _ (λ f a r g called. search rules)) in
    rw c.ok.ensures.value (searched c.args.comments.now c.args.id c.requires _ facts.bound by_key).0

pub returns-clause-missing : goal.returns-clause-missing
returns-clause-missing c =
    let facts = c.binary_search_by_key.ensures in
    let by_key = facts.position (λ (x : Comment). x.id) (answers_always _ _ _ (λ f a r g called. search rules)) in
    rw c.ok.ensures.value (searched c.args.comments.now c.args.id c.requires _ facts.bound by_key).1
