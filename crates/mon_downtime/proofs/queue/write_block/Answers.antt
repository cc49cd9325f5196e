use Rattle.std.proofs.Common.{◌+◌, List, set, arith, ap, refl, ◌∙◌}
use Rattle.mon_downtime.specs.declared.event.Event.{Event}
use Rattle.mon_downtime.proofs.MoveLemmas.{written_none, written_more}
use Rattle.mon_downtime.proofs.queue.write_block.Goals as goal

pub loop-i-init : goal.loop-i-init
loop-i-init c = record { items = written_none c.args.at c.args.list.now.items c.args.first; long = refl; room = refl }

pub loop-i-preserved : goal.loop-i-preserved
loop-i-preserved c =
    let w = c.loop-i.invariant in
    let i = c.loop-i.i in
    record {
      items = ap (λ (e : Event). set c.loop-i.list.items (c.args.at + i) e) c.under_id.ensures
          ∙ ap (λ (xs : List Event). set xs (c.args.at + i) (record c.args.first { id = c.args.first.id + i })) w.items
          ∙ written_more c.args.at i c.args.list.now.items c.args.first (omega (arith, c.requires.within, c.loop-i-test.true));
      long = w.long;
      room = w.room;
    }
