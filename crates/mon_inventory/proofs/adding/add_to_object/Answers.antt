use Rattle.std.proofs.Common.{refl, ◌∙◌, []}
use Rattle.std.proofs.lemmas.List.{get_or_default}
use Rattle.mon_inventory.proofs.adding.add_to_object.Goals as goal

pub returns-clause-ok : goal.returns-clause-ok
returns-clause-ok c = rw (c.in_ok-push.ensures.ok, c.index_mut-own.ensures.value ∙ get_or_default c.args.lists.now.items c.args.object _ [] c.requires) refl
