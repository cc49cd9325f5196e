-- Why `parse_next` keeps its contract.
use Rattle.std.proofs.Common.{◌≡◌, ◌≢◌, ℕ, List, Result, Ok, Err}
use Rattle.std.specs.Prelude.{IfOk, IfErr}
use Rattle.cmd_types.specs.Laws.{Laws}
use Rattle.cmd_types.specs.Spelling.{Timed, Spells}
use Rattle.cmd_lines.specs.declared.fault.LineFault.{LineFault}
use Rattle.cmd_lines.specs.declared.fault.LineFault.TheVariants.{Torn, Memory}
use Rattle.cmd_lines.specs.FirstFault.{IsFirstFault}
use Rattle.cmd_lines.specs.Reading.{Copies, parts, reading}
use Rattle.cmd_lines.proofs.Sound.{IsLine}
use Rattle.cmd_lines.proofs.WholeLine.{reading_spells}
use Rattle.cmd_lines.proofs.Laws.{spells_nothing}
use Rattle.cmd_lines.proofs.FaultLaws as faults
use Rattle.cmd_lines.proofs.ItemLaws.{read_spells}
use Rattle.cmd_lines.proofs.parse.parse_next.Goals as goal

-- of what a line is read as
spelled : Laws → (line : List ℕ) (r : Result Timed LineFault) → IsLine line → Copies (λ t. parts t) r (reading line) → IfOk r (λ t. Spells line t)
spelled laws line (Ok t) is e = reading_spells laws line t is e
spelled laws line (Err f) is e = tt

first : Laws → (line : List ℕ) (r : Result Timed LineFault) → Copies (λ t. parts t) r (reading line) → IfErr r (λ f. f ≢ Memory → IsFirstFault line f)
first laws line (Ok t) e = tt
first laws line (Err f) e = λ ne. faults.first_fault laws line f (faults.not_read line f e ne)

nothing : Laws → (line : List ℕ) (r : Result Timed LineFault) → Copies (λ t. parts t) r (reading line) → IfErr r (λ f. f ≢ Memory → (t : Timed) → Spells line t → ⊥)
nothing laws line (Ok t) e = tt
nothing laws line (Err f) e = λ ne. spells_nothing laws line f (faults.not_read line f e ne)

lacking : Laws → (line : List ℕ) (r : Result Timed LineFault) → IsLine line → Copies (λ t. parts t) r (reading line) → IfErr r (λ f. f ≡ Memory → (t : Timed) × Spells line t)
lacking laws line (Ok t) is e = tt
lacking laws line (Err f) is e = λ memory. (let read = faults.read_for_memory laws line f e memory in read_spells laws line read.0 is read.1)

whole : Laws → (line : List ℕ) (r : Result Timed LineFault) → Copies (λ t. parts t) r (reading line) → IfErr r (λ f. f ≢ Torn)
whole laws line (Ok t) e = tt
whole laws line (Err f) e = faults.never_torn laws line f e

pub read_line-requires-clause-one_line : goal.read_line-requires-clause-one_line
read_line-requires-clause-one_line c = c.requires.one_line

pub read_line-requires-clause-no_return : goal.read_line-requires-clause-no_return
read_line-requires-clause-no_return c = c.requires.no_return

pub returns-clause-spelled : goal.returns-clause-spelled
returns-clause-spelled c =
    let line : IsLine c.args.line.now = record { one = c.requires.one_line; ended = c.requires.no_return } in
    spelled c.definitions_agree.ensures c.args.line.now c.read_line.result line c.read_line.ensures

pub returns-clause-first_fault : goal.returns-clause-first_fault
returns-clause-first_fault c = first c.definitions_agree.ensures c.args.line.now c.read_line.result c.read_line.ensures

pub returns-clause-nothing_spelled : goal.returns-clause-nothing_spelled
returns-clause-nothing_spelled c = nothing c.definitions_agree.ensures c.args.line.now c.read_line.result c.read_line.ensures

pub returns-clause-memory : goal.returns-clause-memory
returns-clause-memory c =
    let line : IsLine c.args.line.now = record { one = c.requires.one_line; ended = c.requires.no_return } in
    lacking c.definitions_agree.ensures c.args.line.now c.read_line.result line c.read_line.ensures

pub returns-clause-never_torn : goal.returns-clause-never_torn
returns-clause-never_torn c = whole c.definitions_agree.ensures c.args.line.now c.read_line.result c.read_line.ensures
