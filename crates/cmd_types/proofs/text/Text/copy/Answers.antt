use Rattle.cmd_types.proofs.text.Text.copy.Goals as goal

pub returns : goal.returns
returns c = rw c.as_bytes.ensures at c.from_slice.ensures
