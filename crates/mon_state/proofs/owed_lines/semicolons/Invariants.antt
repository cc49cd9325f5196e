use Rattle.std.proofs.Common.{◌≡◌, ◌+◌, ◌≤◌, eqb, drop}
use Rattle.std.specs.Prelude.{count_by}
use Rattle.mon_state.proofs.owed_lines.semicolons.Given as goal

abbrev pub invariant-loop-byte : goal.invariant-loop-byte
invariant-loop-byte l = record {
  counted : l.count + count_by (λ b. eqb b 59) (drop l.byte-index l.bytes) ≡ count_by (λ b. eqb b 59) l.bytes;
  few : l.count ≤ l.byte-index;
}
