use Rattle.std.proofs.Common.{◌<◌, refl, length}
use Rattle.std.proofs.lemmas.List.Elements.{All-nil}
use Rattle.mon_downtime.specs.declared.downtime.Downtime.{Downtime}
use Rattle.mon_downtime.specs.Depths.{every_object}
use Rattle.mon_downtime.proofs.BusyLemmas.{none_in_downtime}
use Rattle.mon_downtime.proofs.depths.Depths.new.Goals as goal

pub returns : goal.returns
returns c = record {
  all = All-nil (λ (d : Downtime). d.object < length c.new.result.items);
  exact = λ o. rw c.new.ensures.items refl;
  busy = none_in_downtime every_object;
}
