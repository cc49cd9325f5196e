use Rattle.std.proofs.Common.{◌++◌, List, ap, refl, sym, subst, ◌∙◌}
use Rattle.cmd_queue.specs.Plans.{planned_of, ComeFirst, commands_in}
use Rattle.cmd_queue.specs.Sides.{with_commands}
use Rattle.cmd_dispatch.proofs.SendLemmas.{gathered_sent}
use Rattle.cmd_dispatch.proofs.PlanLemmas.{gathered_next}
use Rattle.cmd_dispatch.proofs.sender.Sending.send_gathered.Goals as goal

pub returns-in-Ok-clause-same : goal.returns-in-Ok-clause-same
returns-in-Ok-clause-same g c =
    let was = c.args.self.now in
    let sent = c.in-Ok.ensures.sent ∙ ap (λ v. with_commands was.side v.items) c.replace-gathered.ensures.value in
    let none = ap (λ v. v.items) c.replace-gathered.ensures.after ∙ c.new.ensures.items in
    (gathered_sent was.side c.submit_many.new.self was.gathered.items c.replace-gathered.new.dest.items sent none, refl, λ refused told. told)

pub submit_many-requires-clause-planned : goal.submit_many-requires-clause-planned
submit_many-requires-clause-planned g c =
    let was = c.args.self.now in
    subst (λ (cs : List _). ComeFirst (planned_of was.side.queue.plan was.side.sender) (commands_in was.side.list ++ cs)) (sym (ap (λ v. v.items) c.replace-gathered.ensures.value)) (gathered_next was.side was.gathered.items c.requires.within.2)
