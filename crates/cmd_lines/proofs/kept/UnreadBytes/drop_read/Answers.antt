-- Why `UnreadBytes::drop_read` keeps its contract.
use Rattle.std.proofs.Common.{◌≡◌, ◌-◌, ◌∙◌, arith, ap, refl, length, drop}
use Rattle.std.proofs.lemmas.List.{length-drop}
use Rattle.cmd_lines.specs.Unfinished.{Keeping}
use Rattle.cmd_lines.proofs.KeptLaws.{same_keeping, start_first, line_dropped}
use Rattle.cmd_lines.proofs.kept.UnreadBytes.drop_read.Goals as goal

pub overflow_sub-self : goal.overflow_sub-self
overflow_sub-self c =
    let x = c.self.inside in
    let i = c.self.invariant in
    start_first c.definitions_agree.ensures x.buffer.items x.start x.line i.0.last i.1 i.2

pub invariant_of-self : goal.invariant_of-self
invariant_of-self c =
    let x = c.self.inside in
    let i = c.self.invariant in
    let le = start_first c.definitions_agree.ensures x.buffer.items x.start x.line i.0.last i.1 i.2 in
    let new = c.drop_front.new.buffer.items in
    let held = line_dropped x.buffer.items new x.start x.line c.drop_front.ensures le in
    let len : length new ≡ length x.buffer.items - x.start = ap length c.drop_front.ensures ∙ length-drop x.start x.buffer.items in
    let within = i.2 in
    (rw (held, c.drop_front.ensures) i.0, omega arith, omega (arith, len, within, le))

pub returns-then-self-gt0 : goal.returns-then-self-gt0
returns-then-self-gt0 c =
    let x = c.self.inside in
    let i = c.self.invariant in
    let le = start_first c.definitions_agree.ensures x.buffer.items x.start x.line i.0.last i.1 i.2 in
    let new = c.drop_front.new.buffer.items in
    let held = line_dropped x.buffer.items new x.start x.line c.drop_front.ensures le in
    same_keeping 0 0 new (drop (x.line - x.start) new) (drop x.start x.buffer.items) (drop x.line x.buffer.items) x.lost refl c.drop_front.ensures held ∙ ap (λ (k : Keeping). record k { read = 0 }) c.self.view_is
