use Rattle.std.proofs.Common.{◌≡◌, drop}
use Rattle.mon_inventory.specs.Configuration.{said_of}
use Rattle.mon_inventory.proofs.index.Index.said_of.Given as goal

abbrev pub invariant-loop-option : goal.invariant-loop-option
invariant-loop-option l = said_of (drop l.option-index l.option-items) l.name ≡ said_of l.option-items l.name
