-- What stays true in the loop of `number_up_to`.
use Rattle.std.proofs.Common.{◌<◌, ◌≤◌, ◌^◌, ℕ, List, length}
use Rattle.cmd_types.specs.declared.limits.TheConstants.{MOST_DIGITS}
use Rattle.cmd_lines.specs.Leading.{LeadsOn}
use Rattle.cmd_lines.proofs.leading.number_up_to.Given as goal

abbrev pub invariant-digits : goal.invariant-digits
invariant-digits l = record {
  back : (n : ℕ) (rest : List ℕ) → LeadsOn l.byte l.n l.digits l.rest n rest → LeadsOn l.byte 0 0 l.fn.bytes n rest;
  forth : (n : ℕ) (rest : List ℕ) → LeadsOn l.byte 0 0 l.fn.bytes n rest → LeadsOn l.byte l.n l.digits l.rest n rest;
  bound : l.n < 10 ^ l.digits;
  few : l.digits ≤ MOST_DIGITS;
}

abbrev pub decreases-digits : goal.decreases-digits
decreases-digits l = length l.rest
