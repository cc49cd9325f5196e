use Rattle.std.proofs.Common.{◌∙◌}
use Rattle.mon_notes.proofs.ListedLemmas.{keeps_those_there}
use Rattle.mon_notes.proofs.ids.IdList.make_room.Goals as goal

pub returns : goal.returns
returns c = rw (c.reserve.ensures.items ∙ c.self-2.view_is ∙ c.keep_there.ensures) (keeps_those_there c.args.there.now c.args.self.now)
