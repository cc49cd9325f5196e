use Rattle.std.proofs.Common.{ℕ, ◌+◌, ◌-◌, drop, sym, ap, ◌∙◌, arith}
use Rattle.std.proofs.lemmas.List.{with_items_is, length-drop}
use borrow.Rule.Slice.PartMut.{put_mid}
use Rattle.mon_notes.proofs.RowLemmas.{taken_forward}
use Rattle.mon_notes.proofs.row.CommentRow.take_forward.Goals as goal

pub returns : goal.returns
returns c =
    let r = c.self.inside in
    let a = c.args.at in
    let ws = c.deref_mut.result.now in
    let k : ℕ = r.start + a + 1 - r.start in
    let within = rw (← c.self.view_is) at c.requires in
    let is = taken_forward r.start a k r.comments.items ws c.rotate_right.new.self c.deref_mut.ensures.value (omega arith) (omega (arith, within, length-drop r.start r.comments.items)) c.rotate_right.ensures.after in
    rw (← c.self.view_is) (ap (drop (r.start + 1)) (with_items_is r.comments (put_mid r.start k ws c.rotate_right.new.self) (is.0 ∙ sym r.comments.ok.0)) ∙ is.1)
