use Rattle.std.proofs.Common.{◌≡◌, [], ℕ, length, get_or, ◌≤◌}
use Rattle.mon_notes.proofs.ids.Ids.make_list.Given as goal

abbrev pub invariant-loop : goal.invariant-loop
invariant-loop l = record {
  same : (o : ℕ) → get_or l.self-inside.lists.items o [] ≡ get_or l.fn.self o [];
  many : l.counter ≤ length l.self-inside.lists.items;
}
