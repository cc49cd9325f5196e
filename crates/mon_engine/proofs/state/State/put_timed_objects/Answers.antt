use Rattle.mon_engine.specs.Status.{object_lines}
use Rattle.mon_engine.proofs.ReportLemmas.{grows_on, put_next_index}
use Rattle.mon_engine.proofs.state.State.put_timed_objects.Goals as goal

pub loop-object-preserved : goal.loop-object-preserved
loop-object-preserved c =
    let so_far = c.loop-object.invariant in
    record {
      put = put_next_index (object_lines c.args.inventory.now c.args.self.now) c.loop-object.object c.args.out.now.items c.loop-object.out.items c.put_object_lines.new.out.items so_far.put c.in_ok-put_object_lines.ensures.ok;
      grown = grows_on _ _ _ so_far.grown c.put_object_lines.ensures.grown;
    }

pub returns-in_err-put_object_lines-clause-grown : goal.returns-in_err-put_object_lines-clause-grown
returns-in_err-put_object_lines-clause-grown c = grows_on _ _ _ c.loop-object.invariant.grown c.put_object_lines.ensures.grown
