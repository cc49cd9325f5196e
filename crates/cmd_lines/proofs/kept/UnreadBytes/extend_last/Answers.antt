-- Why `UnreadBytes::extend_last` keeps its contract.
use Rattle.std.proofs.Common.{◌≡◌, ◌-◌, ◌++◌, ◌∙◌, true, cond, arith, length, length-append, take, drop, refl, ap}
use Rattle.std.proofs.lemmas.List.{length-drop}
use Rattle.cmd_lines.specs.Unfinished.{most_held, is_lost, Keeping}
use Rattle.cmd_lines.proofs.KeptLaws.{drop_onto, kept_on, on_alike, on_held}
use Rattle.cmd_lines.proofs.kept.UnreadBytes.extend_last.Goals as goal
use Rattle.cmd_lines.proofs.kept.UnreadBytes.extend_last.Goals.{then-self, else-self}

pub overflow_sub-len-2 : goal.overflow_sub-len-2
overflow_sub-len-2 c =
    let x = c.self.inside in
    let few = c.self.invariant.0.few in
    omega (arith, few, c.len.ensures, length-drop x.line x.buffer.items)

pub invariant_of-self-2 : goal.invariant_of-self-2
invariant_of-self-2 c =
    let x = c.self.inside in
    let items = x.buffer.items in
    let new = c.extend_from_slice.new.self.items in
    let piece = c.args.piece.now in
    let room = most_held - (c.len.result - x.line) in
    let is : room ≡ most_held - length (drop x.line items) = omega (arith, c.len.ensures, length-drop x.line items) in
    let lost : c.if-self.self ≡ cond x.lost true (is_lost (drop room piece)) = elim c.if-self.branch [ then-self w ↦ rw (w.self-is, w.if-self.true) refl | else-self w ↦ rw (w.self-is, w.if-self.false) c.cut_at-lost.ensures.lost ] in
    let bytes = drop_onto items new c.cut_at-lost.result.0.now (take room piece) x.start c.in_ok-extend_from_slice.ensures.items c.cut_at-lost.ensures.front c.self.invariant.1 in
    let held = drop_onto items new c.cut_at-lost.result.0.now (take room piece) x.line c.in_ok-extend_from_slice.ensures.items c.cut_at-lost.ensures.front c.self.invariant.2 in
    let i = c.self.invariant in
    let len = ap length c.in_ok-extend_from_slice.ensures.items in
    (rw (bytes, held, lost) (kept_on c.definitions_agree.ensures (drop x.start items) (drop x.line items) x.lost room piece i.0 is c.requires), omega (arith, i.1, len, length-append items c.cut_at-lost.result.0.now), omega (arith, i.2, len, length-append items c.cut_at-lost.result.0.now))

pub returns-clause-alike : goal.returns-clause-alike
returns-clause-alike c =
    let x = c.self.inside in
    let items = x.buffer.items in
    let new = c.extend_from_slice.new.self.items in
    let piece = c.args.piece.now in
    let room = most_held - (c.len.result - x.line) in
    let is : room ≡ most_held - length (drop x.line items) = omega (arith, c.len.ensures, length-drop x.line items) in
    let lost : c.if-self.self ≡ cond x.lost true (is_lost (drop room piece)) = elim c.if-self.branch [ then-self w ↦ rw (w.self-is, w.if-self.true) refl | else-self w ↦ rw (w.self-is, w.if-self.false) c.cut_at-lost.ensures.lost ] in
    let bytes = drop_onto items new c.cut_at-lost.result.0.now (take room piece) x.start c.in_ok-extend_from_slice.ensures.items c.cut_at-lost.ensures.front c.self.invariant.1 in
    rw (← c.self.view_is, bytes, lost) (on_alike c.definitions_agree.ensures (drop x.start items) (drop x.line items) x.lost room piece c.self.invariant.0 is c.requires)

pub returns-clause-held : goal.returns-clause-held
returns-clause-held c =
    let x = c.self.inside in
    let items = x.buffer.items in
    let piece = c.args.piece.now in
    let room = most_held - (c.len.result - x.line) in
    let is : room ≡ most_held - length (drop x.line items) = omega (arith, c.len.ensures, length-drop x.line items) in
    let held = drop_onto items c.extend_from_slice.new.self.items c.cut_at-lost.result.0.now (take room piece) x.line c.in_ok-extend_from_slice.ensures.items c.cut_at-lost.ensures.front c.self.invariant.2 in
    held ∙ on_held (drop x.line items) room piece c.self.invariant.0.few is ∙ ap (λ (k : Keeping). take most_held (k.held ++ piece)) c.self.view_is
