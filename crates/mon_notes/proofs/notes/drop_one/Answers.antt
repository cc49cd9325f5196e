use Rattle.std.proofs.Common.{◌≡◌, Some, get_or, sym, ap, ◌∙◌}
use Rattle.mon_notes.specs.Comments.{IsPlaceOf, comment_of}
use Rattle.mon_notes.specs.Listed.{goes}
use Rattle.mon_notes.proofs.IdLemmas.{place_read, place_removed}
use Rattle.mon_notes.proofs.DropLemmas.{absent, stays, leaves}
use Rattle.mon_notes.proofs.notes.drop_one.Goals as goal

pub returns-then-goes : goal.returns-then-goes
returns-then-goes c =
    let cs = c.args.row.now in
    let x = c.index-as_slice-at.result in
    let place : IsPlaceOf cs c.args.id c.in-Some.at = rw c.as_slice.ensures at c.in-Some.ensures.found in
    let is : x ≡ get_or cs c.in-Some.at x = rw c.as_slice-in-Some.ensures at c.index-as_slice-at.is in
    let found : comment_of cs c.args.id ≡ Some x = place_read cs c.args.id c.in-Some.at x c.requires place ∙ ap Some (sym is) in
    c.take_out.ensures ∙ place_removed cs c.args.id c.in-Some.at x c.requires place ∙ sym (leaves 0 c.args.id (goes c.args.group) cs x c.requires found (sym c.goes.ensures ∙ c.if-goes.true))

pub returns-else-goes : goal.returns-else-goes
returns-else-goes c =
    let cs = c.args.row.now in
    let x = c.index-as_slice-at.result in
    let place : IsPlaceOf cs c.args.id c.in-Some.at = rw c.as_slice.ensures at c.in-Some.ensures.found in
    let is : x ≡ get_or cs c.in-Some.at x = rw c.as_slice-in-Some.ensures at c.index-as_slice-at.is in
    let found : comment_of cs c.args.id ≡ Some x = place_read cs c.args.id c.in-Some.at x c.requires place ∙ ap Some (sym is) in
    sym (stays 0 c.args.id (goes c.args.group) cs x c.requires found (sym c.goes.ensures ∙ c.if-goes.false))

pub returns-in_default : goal.returns-in_default
returns-in_default c = sym (absent c.args.id (goes c.args.group) c.args.row.now (rw c.as_slice.ensures at c.in_default.ensures.missing))
