use Rattle.std.proofs.Common.{◌≡◌, ◌+◌, ◌≤◌, eqb, drop}
use Rattle.std.specs.Prelude.{count_by}
use Rattle.mon_state.proofs.places.line_at.Given as goal

abbrev pub invariant-loop-byte : goal.invariant-loop-byte
invariant-loop-byte l = record {
  counted : l.line + count_by (λ b. eqb b 10) (drop l.byte-index l.before) ≡ count_by (λ b. eqb b 10) l.before + 1;
  few : l.line ≤ l.byte-index + 1;
}
