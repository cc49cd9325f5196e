use Rattle.std.proofs.Common.{◌<◌, ◌∙◌, ap, length, sym}
use Rattle.std.specs.Option.{option_copied}
use Rattle.mon_engine.proofs.FoundLemmas.{known_comment}
use Rattle.mon_engine.proofs.state.State.del_comment.Goals as goal

pub has_comment-requires : goal.has_comment-requires
has_comment-requires c = λ x e.
    known_comment (λ d. d.object < length c.args.inventory.now.objects) c.args.self.now.notes.comments c.args.id x.now c.requires
    (rw (← c.self.view_is) (sym c.find.ensures ∙ ap option_copied e))
