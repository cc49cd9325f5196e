use Rattle.std.proofs.Common.{◌∙◌, ◌+◌, get_or, rules, arith, sym}
use Rattle.std.proofs.lemmas.List.Sorted.{answers_always}
use Rattle.mon_downtime.specs.Events.{order_of}
use Rattle.mon_downtime.proofs.EventLemmas.{order_before}
use Rattle.mon_downtime.proofs.OnceLemmas.{has_moved, ascending_sorted}
use Rattle.mon_downtime.proofs.queue.Queue.of_events.Goals as goal

pub returns-clause-events : goal.returns-clause-events
returns-clause-events c = λ e. has_moved _ _ e c.sort_unstable_by_key.ensures.permutation

pub returns-clause-queue : goal.returns-clause-queue
returns-clause-queue c =
    let es = c.sort_unstable_by_key.new.self.items in
    let sorted = c.sort_unstable_by_key.ensures.sorted order_of (answers_always _ _ _ (λ f a r g h. search rules)) in
    record {
      within = omega arith;
      ascending = ascending_sorted c.args.list.items es c.requires c.sort_unstable_by_key.ensures.permutation (λ k d l h. sym (order_before (get_or es (k + 1) d) (get_or es k d)) ∙ sorted k d l h);
    }
