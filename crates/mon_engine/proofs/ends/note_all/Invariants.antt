use Rattle.std.proofs.Common.{◌≡◌, length, take}
use Rattle.std.specs.List.{fold}
use Rattle.mon_engine.specs.Ends.{owes}
use Rattle.mon_engine.proofs.ends.note_all.Given as goal

abbrev pub invariant-loop-notice : goal.invariant-loop-notice
invariant-loop-notice l = record {
  noted : l.owed.items ≡ fold (owes l.inventory) l.fn.owed.items (take l.notice-index l.notices);
  many : length l.owed.items ≡ length l.inventory.objects;
}
