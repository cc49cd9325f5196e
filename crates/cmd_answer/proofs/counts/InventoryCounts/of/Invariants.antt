use Rattle.std.proofs.Common.{◌≡◌, ◌+◌, ◌≤◌, drop}
use Rattle.std.specs.Prelude.{count_by}
use Rattle.std.specs.Option.{is_some}
use Rattle.cmd_answer.proofs.counts.InventoryCounts.of.Given as goal

abbrev pub invariant-loop-object : goal.invariant-loop-object
invariant-loop-object l = record {
  counted : l.services + count_by (λ o. is_some o.service) (drop l.object-index l.objects) ≡ count_by (λ o. is_some o.service) l.objects;
  few : l.services ≤ l.object-index;
}
