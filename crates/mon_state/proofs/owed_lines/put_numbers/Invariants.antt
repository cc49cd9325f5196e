use Rattle.std.proofs.Common.{◌≡◌, ◌++◌, ◌∷◌, [], drop}
use Rattle.std.specs.Fmt.{decimal}
use Rattle.std.specs.List.{flat_map}
use Rattle.cmd_types.specs.Growth.{Grows}
use Rattle.mon_engine.specs.Report.{fields_text}
use Rattle.mon_state.proofs.owed_lines.put_numbers.Given as goal

abbrev pub invariant-loop-number : goal.invariant-loop-number
invariant-loop-number l = record {
  put : l.out.items ++ flat_map (λ n. fields_text (decimal n ∷ [])) (drop l.number-index l.numbers) ≡ l.fn.out.items ++ flat_map (λ n. fields_text (decimal n ∷ [])) l.numbers;
  grown : Grows l.fn.out.items l.out.items;
}
