use Rattle.std.proofs.Common.{◌≡◌, not, take, filter}
use Rattle.mon_notes.specs.Listed.{goes}
use Rattle.mon_notes.proofs.DropLemmas.{each_goes}
use Rattle.mon_notes.proofs.notes.drop_each.Given as goal

abbrev pub invariant-loop-id : goal.invariant-loop-id
invariant-loop-id l = l.row ≡ filter (λ c. not (each_goes (take l.id-index l.ids) (goes l.group) c)) l.fn.row
