use Rattle.std.proofs.Common.{List, ℕ, ◌∷◌, [], ◌++◌, ap, ◌∙◌}
use Rattle.cmd_recovery.proofs.AssignLemmas.{places_more}
use Rattle.cmd_recovery.proofs.feeds.roles.places.Goals as goal

pub loop-place-preserved : goal.loop-place-preserved
loop-place-preserved c = c.in_ok-push.ensures.items ∙ ap (λ (l : List ℕ). l ++ c.loop-place.place ∷ []) c.loop-place.invariant ∙ places_more c.loop-place.place
