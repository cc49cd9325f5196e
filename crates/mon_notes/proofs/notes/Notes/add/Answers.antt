use Rattle.std.proofs.Common.{true, refl, ◌∙◌}
use Rattle.mon_notes.specs.Listed.{AreListed}
use Rattle.mon_notes.proofs.IdLemmas.{IsCommentList-pushed}
use Rattle.mon_notes.proofs.ListedLemmas.{listed_kept, listed_push}
use Rattle.mon_notes.proofs.notes.Notes.add.Goals as goal

pub invariant_of-self-in_err-add : goal.invariant_of-self-in_err-add
invariant_of-self-in_err-add c =
    let n = c.self.inside in
    record {
      list = rw c.reserve_one.ensures c.self.invariant.list;
      listed = rw c.reserve_one.ensures (listed_kept n.row n.lists c.add.new.self (rw (c.as_slice.ensures ∙ c.reserve_one.ensures) at c.add.ensures.kept) c.self.invariant.listed);
    }

pub invariant_of-self-in_err-push : goal.invariant_of-self-in_err-push
invariant_of-self-in_err-push c =
    let n = c.self.inside in
    let same = c.in_err-push.ensures.err ∙ c.reserve_one.ensures in
    record {
      list = rw same c.self.invariant.list;
      listed = rw same (listed_kept n.row n.lists c.add.new.self (rw (c.as_slice.ensures ∙ c.reserve_one.ensures) at c.add.ensures.kept) c.self.invariant.listed);
    }

pub invariant_of-self-2 : goal.invariant_of-self-2
invariant_of-self-2 c =
    let n = c.self.inside in
    let row = rw c.reserve_one.ensures at c.in_ok-push.ensures.ok in
    let listed : AreListed c.add.new.self n.row = listed_kept n.row n.lists c.add.new.self (rw (c.as_slice.ensures ∙ c.reserve_one.ensures) at c.add.ensures.kept) c.self.invariant.listed in
    record {
      list = IsCommentList-pushed n.row _ n.last_id _ true row c.self.invariant.list refl;
      listed = rw row (listed_push c.add.new.self n.row _ listed c.in_ok-add.ensures.ok);
    }
