use Rattle.cmd_answer.proofs.stop.Stop.print.Goals as goal

pub returns-in-Inventory : goal.returns-in-Inventory
returns-in-Inventory g c = rw c.in-Inventory.is (record { whole = c.print_line.ensures.whole; part = c.print_line.ensures.part })
