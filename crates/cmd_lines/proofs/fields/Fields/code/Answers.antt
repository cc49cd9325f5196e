use Rattle.std.proofs.Common.{refl, arith}
use Rattle.std.proofs.lemmas.Bool.{le-leb, lt-leb}
use Rattle.cmd_lines.specs.Reading.{code_at}
use Rattle.cmd_lines.proofs.fields.Fields.code.Goals as goal

pub returns-then-number-from : goal.returns-then-number-from
unfolding code_at
returns-then-number-from c = rw (c.in_ok-number.ensures, lt-leb c.in_ok-number.number c.args.greatest (omega arith)) refl

pub returns : goal.returns
unfolding code_at
returns c = rw (c.in_ok-number.ensures, le-leb c.in_ok-number.number c.args.greatest (omega arith)) refl
