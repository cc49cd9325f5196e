use Rattle.std.proofs.Common.{◌≡◌, ◌++◌, drop}
use Rattle.std.specs.List.{flat_map}
use Rattle.mon_engine.specs.Report.{comma_name}
use Rattle.mon_engine.proofs.notice_lines.put_more_names.Given as goal

abbrev pub invariant-loop-contact : goal.invariant-loop-contact
invariant-loop-contact l =
    l.out.items ++ flat_map (comma_name l.inventory.contacts) (drop l.contact-index l.contacts) ≡ l.fn.out.items ++ flat_map (comma_name l.inventory.contacts) l.contacts
