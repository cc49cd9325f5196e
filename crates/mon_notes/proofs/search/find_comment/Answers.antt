use Rattle.std.proofs.Common.{sym, ◌∙◌, ap, Some}
use Rattle.mon_notes.proofs.IdLemmas.{place_read}
use Rattle.mon_notes.proofs.search.find_comment.Goals as goal

pub returns-in-Some : goal.returns-in-Some
returns-in-Some c = ap Some c.index-comments-i.is ∙ sym (place_read c.args.comments.now c.args.id c.in-Some.i c.index-comments-i.result c.requires c.in-Some.ensures.found)
