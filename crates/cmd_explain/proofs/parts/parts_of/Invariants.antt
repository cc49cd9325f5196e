use Rattle.std.proofs.Common.{◌≡◌, ◌≤◌, ◌++◌, true, drop}
use Rattle.std.specs.Prelude.{IfSome, is_some}
use Rattle.cmd_types.specs.declared.limits.TheConstants.{GREATEST_NUMBER}
use Rattle.cmd_explain.specs.Parts.{form, form_behind, numbers, numbers_behind, are_small}
use Rattle.cmd_explain.proofs.parts.parts_of.Given as goal

abbrev pub invariant-loop-byte : goal.invariant-loop-byte
invariant-loop-byte l = record {
  form_so_far : l.form.items ++ form_behind (is_some l.open) (drop l.byte-index l.line) ≡ form l.line;
  numbers_so_far : l.numbers.items ++ numbers_behind l.open (drop l.byte-index l.line) ≡ numbers l.line;
  small : are_small l.numbers.items ≡ true;
  open_small : IfSome l.open (λ n. n ≤ GREATEST_NUMBER);
}
