-- Why `UnreadBytes::clear` keeps its contract.
use Rattle.std.proofs.Common.{◌≡◌, [], arith, drop}
use Rattle.std.proofs.lemmas.List.{nil_from_length, length-drop}
use Rattle.cmd_lines.proofs.KeptLaws.{kept_none}
use Rattle.cmd_lines.proofs.kept.UnreadBytes.clear.Goals as goal

pub invariant_of-self : goal.invariant_of-self
invariant_of-self c =
    let items = c.self.inside.buffer.items in
    let bytes : drop c.len-self-inside.result items ≡ [] = nil_from_length (drop c.len-self-inside.result items) (omega (arith, c.len-self-inside.ensures, length-drop c.len-self-inside.result items)) in
    let held : drop c.len-self-inside-2.result items ≡ [] = nil_from_length (drop c.len-self-inside-2.result items) (omega (arith, c.len-self-inside-2.ensures, length-drop c.len-self-inside-2.result items)) in
    (kept_none (drop c.len-self-inside.result items) (drop c.len-self-inside-2.result items) bytes held, omega (arith, c.len-self-inside.ensures), omega (arith, c.len-self-inside-2.ensures))
