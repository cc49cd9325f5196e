use Rattle.std.proofs.Common.{[], length, ap, ◌∙◌, rules, List}
use Rattle.mon_downtime.specs.declared.links.Link.{Link}
use Rattle.mon_downtime.proofs.RestoreLemmas.{none_marked}
use Rattle.mon_downtime.proofs.OpenLemmas.{none_left_out}
use Rattle.mon_downtime.proofs.restoring.room_for.Goals as goal

pub returns : goal.returns
returns c =
    let was = c.new-kept.ensures in
    let links = c.reserve.ensures.items in
    record {
      noted = record {
        records = tt;
        linked = rw links was.linked;
        marked = rw links was.marked;
        counted = was.counted;
        placed = (c.reserve-2.ensures.rings [] _ was.waiting.rings).each;
      };
      ringed = c.reserve-2.ensures.rings [] _ (none_left_out _ _ was.waiting.rings);
      unmarked = none_marked _ (ap (λ (ls : List Link). length ls) links ∙ was.linked.each);
      of_links = search rules;
      of_near = search rules;
    }
