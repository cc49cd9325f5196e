use Rattle.std.proofs.Common.{◌≡◌, ◌++◌, ◌∷◌, drop}
use Rattle.std.specs.List.{flat_map}
use Rattle.cmd_explain.proofs.serving.spaced.Given as goal

abbrev pub invariant-loop-word : goal.invariant-loop-word
invariant-loop-word l = l.text.items ++ flat_map (λ w. 32 ∷ w.now) (drop l.word-index l.others) ≡ l.initial.text.items ++ flat_map (λ w. 32 ∷ w.now) l.others
