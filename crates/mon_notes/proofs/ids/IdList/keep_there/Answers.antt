use Rattle.std.proofs.Common.{rules, is_some, ap, ◌∙◌}
use Rattle.std.specs.List.{filter}
use Rattle.std.proofs.lemmas.Fn.{filter_same}
use Rattle.mon_notes.specs.Comments.{comment_of}
use Rattle.mon_notes.proofs.ids.IdList.keep_there.Goals as goal

pub returns : goal.returns
returns c =
    let asks = c.requires in
    filter_same _ (λ id. is_some (comment_of c.args.there.now id)) _ (λ x b f' k. search rules) _ _ c.retain.ensures.filtered ∙ ap (filter (λ id. is_some (comment_of c.args.there.now id))) c.self.view_is
