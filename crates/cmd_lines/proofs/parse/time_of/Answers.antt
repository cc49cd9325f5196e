-- Why `time_of` keeps its contract.
use Rattle.std.proofs.Common.{rules, ◌≡◌, ◌∷◌, ℕ, Option, Some, None, List, length, ◌-◌, take, drop, get_or, arith, Bor}
use Rattle.std.specs.Prelude.{MatchOption}
use Rattle.std.specs.Option.{ok_or}
use Rattle.cmd_types.specs.Laws.{Laws}
use Rattle.cmd_lines.specs.declared.fault.LineFault.TheVariants.{BadTime}
use Rattle.cmd_lines.specs.Leading.{LeadsTo}
use Rattle.cmd_lines.specs.Reading.{Gives, time_at}
use Rattle.cmd_lines.proofs.LeadingLaws.{opens_with}
use Rattle.cmd_lines.proofs.WholeLine.{time_leads, no_time_leads}
use Rattle.cmd_lines.proofs.parse.time_of.Goals as goal

pub returns-in_default : goal.returns-in_default
unfolding time_at
returns-in_default c = search rules

-- what stands behind the bracket, or the fault where there is no number
given : Laws → (line bytes : List ℕ) (o : Option (ℕ × Bor (List ℕ))) → line ≡ 91 ∷ bytes
    → MatchOption o ((n : ℕ) (rest : List ℕ) → LeadsTo 93 bytes n rest → ⊥) (λ x. LeadsTo 93 bytes x.0 x.1.now)
    → Gives (λ x. (x.0, x.1.now)) (ok_or o BadTime) (time_at line)
given laws line bytes (Some x) is leads = time_leads laws line bytes x.1.now x.0 is leads
given laws line bytes None is leads = no_time_leads laws line bytes is leads

pub returns : goal.returns
returns c =
    let line = c.args.line.now in
    let bytes = take (length line - 1) (drop 1 line) in
    let bracket : get_or line 0 0 ≡ 91 = omega arith in
    rw c.ok_or.ensures.value (given c.definitions_agree.ensures line bytes c.up_to.result (opens_with 91 line (omega arith) bracket) c.up_to.ensures)
