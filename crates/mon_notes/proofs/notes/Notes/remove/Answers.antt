use Rattle.std.proofs.Common.{List, not, ◌==◌, sym, ap, ◌∙◌}
use Rattle.mon_notes.specs.declared.comment.Comment.{Comment}
use Rattle.mon_notes.specs.Comments.{IsPlaceOf, without}
use Rattle.mon_notes.proofs.IdLemmas.{IsCommentList-kept, kept_all, place_some, taken_out}
use Rattle.mon_notes.proofs.ListedLemmas.{listed_filter}
use Rattle.mon_notes.proofs.notes.Notes.remove.Goals as goal

pub invariant_of-self : goal.invariant_of-self
invariant_of-self c =
    let n = c.self.inside in
    let place : IsPlaceOf n.row c.args.id c.in-Some.at = rw c.as_slice.ensures at c.in-Some.ensures.found in
    let is = c.take_out.ensures ∙ taken_out n.row c.args.id c.in-Some.at c.self.invariant.list.ascending place in
    record {
      list = rw is (IsCommentList-kept (λ (x : Comment). not (x.id == c.args.id)) _ c.self.invariant.list);
      listed = rw is (listed_filter n.lists (λ (x : Comment). not (x.id == c.args.id)) n.row c.self.invariant.listed);
    }

pub returns-in-None-clause-left : goal.returns-in-None-clause-left
returns-in-None-clause-left c =
    let n = c.self.inside in
    rw (← c.self.view_is) (ap (λ (cs : List Comment). record { comments = cs; last_id = n.last_id }) (sym (kept_all c.args.id n.row (rw c.as_slice.ensures at c.in-None.ensures.missing))))

pub returns-in-Some-clause-was : goal.returns-in-Some-clause-was
returns-in-Some-clause-was c =
    let n = c.self.inside in
    let place : IsPlaceOf n.row c.args.id c.in-Some.at = rw c.as_slice.ensures at c.in-Some.ensures.found in
    rw (← c.self.view_is) (sym (place_some n.row c.args.id c.in-Some.at c.self.invariant.list.ascending place))

pub returns-in-Some-clause-left : goal.returns-in-Some-clause-left
returns-in-Some-clause-left c =
    let n = c.self.inside in
    let place : IsPlaceOf n.row c.args.id c.in-Some.at = rw c.as_slice.ensures at c.in-Some.ensures.found in
    let is = c.take_out.ensures ∙ taken_out n.row c.args.id c.in-Some.at c.self.invariant.list.ascending place in
    ap (λ (cs : List Comment). record { comments = cs; last_id = n.last_id }) is ∙ ap (without c.args.id) c.self.view_is
