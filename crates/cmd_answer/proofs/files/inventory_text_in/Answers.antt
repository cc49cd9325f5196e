use Rattle.std.proofs.Common.{List, ℕ, IfSome, ◌≡◌, sym, subst}
use Rattle.cmd_answer.specs.Stops.{StopsInventory}
use Rattle.cmd_answer.specs.declared.stop.Stop.{Stop}
use Rattle.cmd_answer.specs.declared.stop.FilesStop.TheVariants.{Other}
use Rattle.cmd_answer.proofs.StopLemmas.{stopped_inventory}
use Rattle.cmd_answer.proofs.files.inventory_text_in.Goals as goal

pub returns-in-Ok-read_all-clause-stops : goal.returns-in-Ok-read_all-clause-stops
returns-in-Ok-read_all-clause-stops g c =
    let remaining = g.R.File.Read.remaining in
    subst (λ (s : Stop). StopsInventory remaining c.args.path.now (Other s)) (sym c.from.ensures)
    (stopped_inventory remaining c.args.path.now c.in-Ok.file c.deref.result.now c.in-Err-parse.fault.line c.in-Err-parse.fault.cause
    (subst (λ (text : List ℕ). IfSome (remaining c.in-Ok.file) (λ told. text ≡ told)) (sym c.deref.ensures.value) c.in-Ok-read_all.ensures.read)
    c.in-Err-parse.ensures.read)
