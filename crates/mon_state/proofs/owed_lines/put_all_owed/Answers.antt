use Rattle.mon_state.specs.State.{owed_line}
use Rattle.mon_state.proofs.TextLemmas.{grows_on, put_next_index}
use Rattle.mon_state.proofs.owed_lines.put_all_owed.Goals as goal

pub loop-object-preserved : goal.loop-object-preserved
loop-object-preserved c =
    let so_far = c.loop-object.invariant in
    record {
      put = put_next_index (owed_line c.args.inventory.now.objects c.args.owed.now) c.loop-object.object c.args.out.now.items c.loop-object.out.items c.put_owed.new.out.items so_far.put c.in_ok-put_owed.ensures.ok;
      grown = grows_on _ _ _ so_far.grown c.put_owed.ensures.grown;
    }

pub returns-in_err-put_owed-clause-grown : goal.returns-in_err-put_owed-clause-grown
returns-in_err-put_owed-clause-grown c = grows_on _ _ _ c.loop-object.invariant.grown c.put_owed.ensures.grown
