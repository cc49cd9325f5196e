use Rattle.std.proofs.Common.{◌≡◌, ◌++◌, ◌∷◌, [], codes}
use Rattle.std.specs.Fmt.{decimal}
use Rattle.std.specs.List.{flat_map, range_with_len}
use Rattle.cmd_dispatch.proofs.tests.batches.lines.Given as goal

abbrev pub invariant-lines : goal.invariant-lines
invariant-lines l = l.text.items ≡ flat_map (λ time. codes "[" ++ (decimal time ++ (codes "] RESTART_PROGRAM" ++ 10 ∷ []))) (range_with_len 1 l.before)
