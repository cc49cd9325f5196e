use Rattle.std.proofs.Common.{arith}
use Rattle.std.proofs.lemmas.List.{length-map, get_or-map}
use Rattle.cmd_answer.proofs.StopLemmas.{unopened_stops}
use Rattle.cmd_answer.proofs.files.open_all.Goals as goal

pub returns-in-Err-clause-stops : goal.returns-in-Err-clause-stops
returns-in-Err-clause-stops g c =
    let paths = c.args.paths.now in
    let at = c.loop-path.path-index in
    unopened_stops _ _ _ _ c.unopened.ensures _ (at, omega (arith, length-map paths (λ p. p.now), c.loop-path-test.true), get_or-map (λ p. p.now) paths at _ _ c.loop-path-test.true)
