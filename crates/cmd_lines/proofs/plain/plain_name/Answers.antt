-- Why `plain_name` keeps its contract.
use Rattle.std.proofs.Common.{rules, ◌≡◌, ◌<◌, ◌∷◌, ◌++◌, length, arith}
use Rattle.std.proofs.lemmas.Bool.{eqb-false}
use Rattle.cmd_types.specs.Bytes.{without_returns}
use Rattle.cmd_lines.proofs.PlainLaws.{plain_name_is}
use Rattle.cmd_lines.proofs.plain.plain_name.Goals as goal

pub returns : goal.returns
returns c =
    let name = c.cut.result.0.now in
    let parts : c.args.bytes.now ≡ name ++ 59 ∷ c.in_ok-rest.rest.now = search rules in
    let ended : without_returns name ≡ name = search rules in
    let some : 0 < length name = omega (arith, eqb-false (length name) 0 (search rules)) in
    λ n. plain_name_is n c.args.bytes.now name c.in_ok-rest.rest.now parts c.cut.ensures.first ended some
