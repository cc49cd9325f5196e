-- What stays true in the loop of `put_fields`.
use Rattle.std.proofs.Common.{◌≡◌, ◌++◌, drop}
use Rattle.cmd_types.specs.Growth.{Grows}
use Rattle.mon_engine.specs.Report.{fields_text}
use Rattle.mon_engine.specs.Fields.{texts}
use Rattle.mon_engine.proofs.lines.put_fields.Given as goal

abbrev pub invariant-loop-field : goal.invariant-loop-field
invariant-loop-field l = record {
  put : l.out.items ++ fields_text (texts (drop l.field-index l.fields)) ≡ l.fn.out.items ++ fields_text (texts l.fields);
  grown : Grows l.fn.out.items l.out.items;
}
