use Rattle.std.proofs.Common.{◌&&◌, not, sym, ◌∙◌, ap}
use Rattle.mon_downtime.specs.Order.{has}
use Rattle.mon_downtime.specs.Queue.{queued}
use Rattle.mon_downtime.specs.Listed.{is_start, hangs_on}
use Rattle.mon_downtime.proofs.ListedLemmas.{none_has}
use Rattle.mon_downtime.proofs.due.forget_all_starts.Goals as goal

pub returns-clause-rest : goal.returns-clause-rest
unfolding is_start
returns-clause-rest c = λ e.
    c.forget_starts.ensures.events e
    ∙ ap (λ b. b && not (hangs_on c.args.records.now c.args.id e))
    (c.forget.ensures.events e
    ∙ ap (λ b. has (queued c.args.queue.now) e && not b) (sym (none_has c.start_event.result _ e c.start_event.ensures))
    ∙ ap (λ b. b && not (is_start c.args.records.now c.args.id e)) (c.requires.listed.exact e))
