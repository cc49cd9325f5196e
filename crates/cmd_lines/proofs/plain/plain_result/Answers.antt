-- Why `plain_result` keeps its contract.
use Rattle.std.proofs.Common.{rules, ◌≡◌, ℕ, eqb, ◌∷◌, ◌++◌, Ok, Some, take, drop, refl, ◌∙◌, arith, get_or, length, ◌-◌}
use Rattle.std.proofs.lemmas.Bool.Decides.{Decides-eqb}
use Rattle.std.proofs.lemmas.Slice.Eq.{strip_prefix_is}
use Rattle.cmd_types.specs.declared.command_name.CommandName.TheVariants.{ProcessServiceCheckResult}
use Rattle.cmd_types.specs.Table.{name_text}
use Rattle.cmd_lines.specs.declared.plain.TheConstants.{OPENING}
use Rattle.cmd_lines.specs.Reading.{name_at}
use Rattle.cmd_lines.proofs.PlainLaws.{plain_is, two_first}
use Rattle.cmd_lines.proofs.plain.plain_result.Goals as goal

pub returns-in-48-to-51 : goal.returns-in-48-to-51
returns-in-48-to-51 c =
    let after = c.args.after.now in
    let rest = c.in_ok-rest.rest.now in
    let last = c.in_ok-service.rest.now in
    let is : after ≡ 32 ∷ (name_text ProcessServiceCheckResult ++ 59 ∷ rest) = strip_prefix_is {A = ℕ} {E = eqb} Decides-eqb after OPENING.now (Some c.in_ok-rest.rest) c.in_ok-rest.ensures.cases in
    let named : (n : ℕ) → name_at n (59 ∷ rest) ≡ Ok (c.in_ok-host.host.now, 59 ∷ c.in_ok-host.rest.now) = search rules in
    let served : (n : ℕ) → name_at n (59 ∷ c.in_ok-host.rest.now) ≡ Ok (c.in_ok-service.service.now, 59 ∷ last) = search rules in
    let semicolon : get_or last 1 0 ≡ 59 = omega arith in
    let coded : last ≡ get_or last 0 0 ∷ 59 ∷ take (length last - 2) (drop 2 last) = two_first last (omega arith) ∙ rw semicolon refl in
    plain_is c.definitions_agree.ensures after rest c.in_ok-host.host.now c.in_ok-host.rest.now c.in_ok-service.service.now last (take (length last - 2) (drop 2 last)) (get_or last 0 0) is named served coded (omega arith) (omega arith)
