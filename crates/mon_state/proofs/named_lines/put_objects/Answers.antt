use Rattle.mon_state.specs.State.{object_line}
use Rattle.mon_state.proofs.TextLemmas.{grows_on, put_next_index}
use Rattle.mon_state.proofs.named_lines.put_objects.Goals as goal

pub loop-object-preserved : goal.loop-object-preserved
loop-object-preserved c =
    let so_far = c.loop-object.invariant in
    record {
      put = put_next_index (object_line c.args.version c.args.inventory.now.objects c.args.objects.now) c.loop-object.object c.args.out.now.items c.loop-object.out.items c.put_object.new.out.items so_far.put c.in_ok-put_object.ensures.ok;
      grown = grows_on _ _ _ so_far.grown c.put_object.ensures.grown;
    }

pub returns-in_err-put_object-clause-grown : goal.returns-in_err-put_object-clause-grown
returns-in_err-put_object-clause-grown c = grows_on _ _ _ c.loop-object.invariant.grown c.put_object.ensures.grown
