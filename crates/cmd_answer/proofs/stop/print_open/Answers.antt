use Rattle.cmd_answer.proofs.stop.print_open.Goals as goal

pub returns : goal.returns
returns g c = record { whole = rw c.as_bytes.ensures.value at c.write_pieces.ensures.whole; part = rw c.as_bytes.ensures.value at c.write_pieces.ensures.part }
