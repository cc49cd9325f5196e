use Rattle.std.proofs.Common.{◌≡◌, ◌++◌}
use Rattle.cmd_types.specs.Growth.{Grows}
use Rattle.mon_engine.specs.Report.{each_index, contact_line}
use Rattle.mon_state.proofs.named_lines.put_contacts.Given as goal

abbrev pub invariant-loop-contact : goal.invariant-loop-contact
invariant-loop-contact l = record {
  put : l.out.items ≡ l.fn.out.items ++ each_index (contact_line l.inventory.contacts l.contacts) l.contact;
  grown : Grows l.fn.out.items l.out.items;
}
