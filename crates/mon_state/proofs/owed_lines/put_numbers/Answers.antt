use Rattle.std.proofs.Common.{◌++◌, ◌∷◌, [], List, ℕ, ap, ◌∙◌}
use Rattle.std.specs.Fmt.{decimal}
use Rattle.mon_engine.specs.Report.{fields_text}
use Rattle.mon_state.proofs.TextLemmas.{fields_of, grows_on, put_next, put_last}
use Rattle.mon_state.proofs.owed_lines.put_numbers.Goals as goal

pub loop-number-preserved : goal.loop-number-preserved
loop-number-preserved c =
    let so_far = c.loop-number.invariant in
    record {
      put = put_next (λ n. fields_text (decimal n ∷ [])) c.args.numbers.now c.loop-number.number-index _ 0 c.loop-number.out.items c.put_fields.new.out.items _ c.loop-number-test.true c.from.ensures so_far.put c.in_ok-put_fields.ensures.ok;
      grown = grows_on _ _ _ so_far.grown c.put_fields.ensures.grown;
    }

pub returns-in_err-put_fields-clause-grown : goal.returns-in_err-put_fields-clause-grown
returns-in_err-put_fields-clause-grown c = grows_on _ _ _ c.loop-number.invariant.grown c.put_fields.ensures.grown

pub returns-clause-ok : goal.returns-clause-ok
returns-clause-ok c =
    put_last (λ n. fields_text (decimal n ∷ [])) c.args.numbers.now c.loop-number.number-index c.loop-number.out.items _ c.loop-number-test.false c.loop-number.invariant.put
    ∙ ap (λ (t : List ℕ). c.args.out.now.items ++ t) (fields_of decimal c.args.numbers.now)
