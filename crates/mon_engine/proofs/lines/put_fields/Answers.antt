use Rattle.std.proofs.Common.{refl}
use Rattle.mon_engine.proofs.ReportLemmas.{grows_by, grows_on, put_field, put_last_field}
use Rattle.mon_engine.proofs.lines.put_fields.Goals as goal

pub returns-in_err-put-clause-grown : goal.returns-in_err-put-clause-grown
returns-in_err-put-clause-grown c = rw c.in_err-put.ensures.err (grows_on _ _ _ c.loop-field.invariant.grown (grows_by _ _ _ c.in_ok-push.ensures.items))

pub loop-field-preserved : goal.loop-field-preserved
loop-field-preserved c =
    let so_far = c.loop-field.invariant in
    record {
      put = put_field c.args.fields.now c.loop-field.field-index _ _ c.loop-field.out.items c.push.new.self.items c.put.new.out.items _ c.loop-field-test.true refl so_far.put c.in_ok-push.ensures.items c.in_ok-put.ensures.ok;
      grown = grows_on _ _ _ so_far.grown (grows_on _ _ _ (grows_by _ _ _ c.in_ok-push.ensures.items) (grows_by _ _ _ c.in_ok-put.ensures.ok));
    }

pub returns-clause-ok : goal.returns-clause-ok
returns-clause-ok c = put_last_field c.args.fields.now c.loop-field.field-index c.loop-field.out.items _ c.loop-field-test.false c.loop-field.invariant.put
