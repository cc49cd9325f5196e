-- Why `LastNumber::new` remembers a number.
use Rattle.std.proofs.Common.{◌∷◌, [], refl, arith}
use Rattle.cmd_lines.proofs.last_number.LastNumber.new.Goals as goal

pub invariant_of-result : goal.invariant_of-result
invariant_of-result c = record {
  text = 48 ∷ 48 ∷ 48 ∷ 48 ∷ 48 ∷ 48 ∷ 48 ∷ 48 ∷ 48 ∷ 48 ∷ [];
  parts = refl;
  number = record { digits = refl; some = omega arith; few = omega arith; value = refl; small = omega arith };
}
