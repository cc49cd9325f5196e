use Rattle.std.proofs.lemmas.Result.{err_from_is_err_and}
use Rattle.mon_inventory.proofs.Facts.{sound}
use Rattle.mon_inventory.proofs.Order.{in_order, grows}
use Rattle.mon_inventory.proofs.inventory.Inventory.parse.Goals as goal

pub invariant_of-result : goal.invariant_of-result
invariant_of-result c = record { indexed = c.in_ok-index.ensures.indexed; inventory = sound c.args.text.now _ c.in_ok-index.ensures.read }

pub returns-clause-sound : goal.returns-clause-sound
returns-clause-sound c = sound c.args.text.now _ c.in_ok-index.ensures.read

pub returns-clause-in_order : goal.returns-clause-in_order
returns-clause-in_order c = in_order c.args.text.now _ c.in_ok-index.ensures.read

pub returns-clause-grows : goal.returns-clause-grows
returns-clause-grows c = grows c.args.text.now _ c.in_ok-index.ensures.read

pub returns-clause-read : goal.returns-clause-read
returns-clause-read c = c.in_ok-index.ensures.read

pub returns-in_err-index-clause-read : goal.returns-in_err-index-clause-read
returns-in_err-index-clause-read c = let told = err_from_is_err_and c.from_residual.result c.from_residual.ensures.1 in rw (told.1, told.2) c.in_err-index.ensures.read

pub returns-in_err-index-clause-first_fault : goal.returns-in_err-index-clause-first_fault
returns-in_err-index-clause-first_fault c = let told = err_from_is_err_and c.from_residual.result c.from_residual.ensures.1 in rw (told.1, told.2) c.in_err-index.ensures.first_fault

pub returns-in_err-index-clause-memory : goal.returns-in_err-index-clause-memory
returns-in_err-index-clause-memory c = let told = err_from_is_err_and c.from_residual.result c.from_residual.ensures.1 in rw (told.1, told.2) c.in_err-index.ensures.memory
