use Rattle.std.proofs.Common.{arith, refl, subst, sym, ◌≡◌, ◌∙◌, ℕ, true}
use Rattle.cmd_answer.specs.declared.stop.FilesStop.TheVariants.{Other}
use Rattle.cmd_answer.specs.declared.stop.Stop.TheVariants.{Memory}
use Rattle.cmd_dispatch.specs.Tellings.{AppendsBeginning}
use Rattle.cmd_live.specs.Runs.{start_line}
use Rattle.gateway.specs.Followed.{given_feeds}
use Rattle.gateway.proofs.FollowServes.{stops_opening, not_followed, was_followed, was_cut_off, kept_then, kept_then_part, of_refused, of_taken, as_many}
use Rattle.gateway.proofs.follow.serve_run.Goals as goal

pub returns-in-Err : goal.returns-in-Err
returns-in-Err g c =
    let stops = rw c.requires.paths at c.in-Err.ensures.stops in
    not_followed g.R.File.Read.remaining c.args.run.now.call.now.asked.now c.in-Err.stop c.stopped.result _ _ _
    (stops_opening g.R.File.Read.remaining c.args.run.now.call.now.asked.now c.args.inventory c.in-Err.stop c.requires.count.0 c.requires.count.1 c.requires.read stops)
    c.stopped.ensures.status c.stopped.ensures.line c.stopped.ensures.part

pub returns-then-is_err : goal.returns-then-is_err
returns-then-is_err g c =
    let kept = of_refused c.print_start.result _ (sym c.is_err.ensures.value ∙ c.if-is_err.true) c.print_start.ensures.nothing in
    not_followed g.R.File.Read.remaining c.args.run.now.call.now.asked.now (Other Memory) c.stopped-then-is_err.result _ _ _
    (stops_opening g.R.File.Read.remaining c.args.run.now.call.now.asked.now c.args.inventory (Other Memory) c.requires.count.0 c.requires.count.1 c.requires.read tt)
    c.stopped-then-is_err.ensures.status
    (λ told. kept_then _ _ _ _ kept (c.stopped-then-is_err.ensures.line told))
    (λ told. kept_then_part _ _ _ _ kept (c.stopped-then-is_err.ensures.part told))

pub follow_all-requires-clause-one_each : goal.follow_all-requires-clause-one_each
follow_all-requires-clause-one_each g c κs within =
    c.in-Ok.ensures.one_each ∙ as_many _ _ _ _ c.requires.paths

pub returns-in-Ok-default : goal.returns-in-Ok-default
returns-in-Ok-default g c =
    let count : c.len-feeds.result ≡ given_feeds c.args.run.now.call.now.asked.now = omega (arith, c.len-feeds.ensures) in
    let start = of_taken c.print_start.result _ (sym c.is_err.ensures.value ∙ c.if-is_err.false) c.print_start.ensures.printed in
    was_followed g.R.File.Read.remaining c.args.run.now.call.now.asked.now c.args.inventory (record { status = c.in-Ok-default.status; printed = true }) _ _ _ _ c.requires.read
    (subst (λ (n : ℕ). AppendsBeginning (g.E.Write.contents c.args.errors.now) (g.E.Write.contents c.print_start.new.errors) (start_line n 0 0)) count start)
    (rw c.in-Ok-default.is-0 at c.follow_all.ensures.ran) refl

pub returns-in-Err-default : goal.returns-in-Err-default
returns-in-Err-default g c =
    let count : c.len-feeds.result ≡ given_feeds c.args.run.now.call.now.asked.now = omega (arith, c.len-feeds.ensures) in
    let start = of_taken c.print_start.result _ (sym c.is_err.ensures.value ∙ c.if-is_err.false) c.print_start.ensures.printed in
    was_cut_off g.R.File.Read.remaining c.args.run.now.call.now.asked.now c.args.inventory c.in-Err-default.stop c.stopped-in-Err-default.result _ _ _ _ _ c.requires.read
    (subst (λ (n : ℕ). AppendsBeginning (g.E.Write.contents c.args.errors.now) (g.E.Write.contents c.print_start.new.errors) (start_line n 0 0)) count start)
    (rw c.in-Err-default.is-0 at c.follow_all.ensures.cut_off)
    c.stopped-in-Err-default.ensures.status c.stopped-in-Err-default.ensures.line c.stopped-in-Err-default.ensures.part
