use Rattle.std.proofs.Common.{ℕ, Option, Some, None, List, Ok, refl}
use Rattle.std.specs.Option.{ok_or}
use Rattle.cmd_lines.specs.declared.fault.LineFault.TheVariants.{BadNumber}
use Rattle.cmd_lines.specs.Reading.{◌>>=◌, Gives, some_or, number_at}
use Rattle.cmd_lines.proofs.fields.Fields.number.Goals as goal

-- a number, or the fault where there is none
given : (n : ℕ) (after : List ℕ) (o : Option ℕ) → Gives {X = ℕ} {Y = ℕ × List ℕ} (λ x. (x, after)) (ok_or o (BadNumber n)) (◌>>=◌ {A = ℕ} {B = ℕ × List ℕ} (some_or (BadNumber n) o) (λ x. Ok (x, after)))
given n after (Some x) = refl
given n after None = refl

pub returns : goal.returns
unfolding number_at
returns c = rw (c.in_ok-text.ensures, c.ok_or.ensures.value, c.number_of.ensures.number) (given c.args.n _ _)
