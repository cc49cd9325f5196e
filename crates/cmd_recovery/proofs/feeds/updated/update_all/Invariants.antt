use Rattle.std.proofs.Common.{◌≡◌, ◌≤◌, ◌++◌, All, drop}
use Rattle.cmd_types.specs.declared.limits.TheConstants.{GREATEST_NUMBER}
use Rattle.cmd_recovery.specs.Updates.{all_updated}
use Rattle.cmd_recovery.proofs.feeds.updated.update_all.Given as goal

abbrev pub invariant-loop-number : goal.invariant-loop-number
invariant-loop-number l = record {
  rest : l.list.items ++ all_updated l.past.last_places l.lasts l.number (drop l.number l.feeds) ≡ all_updated l.past.last_places l.lasts 0 l.feeds;
  small : All (λ f. f.journaled ≤ GREATEST_NUMBER) l.list.items;
}
