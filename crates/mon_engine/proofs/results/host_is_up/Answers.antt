use Rattle.std.proofs.Common.{refl}
use Rattle.std.proofs.lemmas.Option.{slice_get-get_or}
use Rattle.mon_engine.proofs.results.host_is_up.Goals as goal

pub returns : goal.returns
returns c = rw (slice_get-get_or c.args.objects.now c.args.spec.now.host_object c.index-objects-spec.result c.requires) refl
