-- Why `LastNumber::up_to` keeps its contract.
use Rattle.std.proofs.Common.{◌≡◌, ℕ, eqb, [], ◌++◌, ap, subst, ◌∙◌, arith}
use Rattle.std.proofs.lemmas.Bool.Decides.{Decides-eqb}
use Rattle.std.proofs.lemmas.Slice.Eq.{strip_prefix_is}
use Rattle.std.specs.Prelude.{slice_index}
use Rattle.cmd_lines.specs.Leading.{LeadsTo}
use Rattle.cmd_lines.proofs.LeadingLaws.{known}
use Rattle.cmd_lines.proofs.last_number.LastNumber.up_to.Goals as goal

pub returns-in-Some : goal.returns-in-Some
returns-in-Some c =
    let x = c.self.inside in
    let bytes = c.args.bytes.now in
    let byte : slice_index x.spelled 10 ≡ c.args.byte = omega (arith, c.if-self-byte.true) in
    let spelled = c.as_slice.result.now in
    let is = rw c.in-Some.is at (strip_prefix_is {A = ℕ} {E = eqb} Decides-eqb bytes spelled c.strip_prefix.result c.strip_prefix.ensures.cases) in
    known c.args.byte x.spelled bytes c.in-Some.rest.now x.number (subst (λ b. LeadsTo b x.spelled x.number []) byte c.self.invariant) (is ∙ ap (λ s. s ++ c.in-Some.rest.now) c.as_slice.ensures)
