use Rattle.std.proofs.Common.{◌≡◌, length, arith, ◌∙◌}
use Rattle.mon_engine.proofs.lines.put_line.Goals as goal

pub returns-in-Err-clause-err : goal.returns-in-Err-clause-err
returns-in-Err-clause-err c =
    let len : c.len-len.result ≡ length c.args.out.now.items = omega arith in
    c.truncate.ensures.items ∙ rw len c.in-Err.ensures.grown
