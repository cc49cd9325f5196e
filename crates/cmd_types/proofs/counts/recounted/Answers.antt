use Rattle.std.proofs.Common.{◌≡◌, Bool, true, false, refl, arith}
use Rattle.cmd_types.specs.Counts.{one}
use mir.Val.{bool_byte}
use Rattle.cmd_types.proofs.counts.recounted.Goals as goal

-- a flag as a number is what it adds to a count
one_is : (b : Bool) → bool_byte b ≡ one b
one_is true = refl
one_is false = refl

pub returns : goal.returns
returns c = omega (arith, one_is c.args.membership.was, one_is c.args.membership.is)
