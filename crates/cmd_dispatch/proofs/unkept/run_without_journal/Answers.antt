use Rattle.std.proofs.Common.{◌∙◌, ℕ, [], List, refl, sym, ap, subst, length, arith, IfOk, IfErr}
use Rattle.cmd_types.specs.declared.entry.Entry.{Entry}
use Rattle.cmd_options.specs.Options.{MayRun}
use Rattle.mon_inventory.specs.Configuration.{Configuration}
use Rattle.mon_engine.specs.World.{initial}
use Rattle.cmd_dispatch.specs.declared.unkept.UnkeptReport.{UnkeptReport}
use Rattle.cmd_dispatch.specs.RunCalls.{RunCall, run_call}
use Rattle.cmd_dispatch.specs.Runs.{unkept_outcome, HasRun, HasFailed}
use Rattle.cmd_dispatch.proofs.CountingLemmas.{count_nothing, unkept_ran, unkept_failed, unkept_in_range}
use Rattle.cmd_dispatch.proofs.JournalRunLemmas.{as_listed, failed_bad, failed_early}
use Rattle.cmd_dispatch.proofs.TellingLemmas.{always_ok}
use Rattle.cmd_dispatch.proofs.unkept.run_without_journal.Goals as goal

pub returns-then-not-may_run-clause-fault : goal.returns-then-not-may_run-clause-fault
returns-then-not-may_run-clause-fault g c =
    let e = c.unstarted in
    ([], failed_bad (run_call g.F.Feed.remaining g.F.Feed.fails g.F.Feed.fills c.args.options c.args.readers.items c.args.inventory) e.result.cause [] e.result.senders.items e.ensures.0 refl e.ensures.1)

pub returns-in_default-clause-fault : goal.returns-in_default-clause-fault
returns-in_default-clause-fault g c =
    let e = c.unstarted-in_default in
    ([], (failed_early (run_call g.F.Feed.remaining g.F.Feed.fails g.F.Feed.fills c.args.options c.args.readers.items c.args.inventory) e.result.cause [] e.result.senders.items (e.ensures.0, refl, e.ensures.1)).1)

pub returns-in_default-empty_reports-clause-fault : goal.returns-in_default-empty_reports-clause-fault
returns-in_default-empty_reports-clause-fault g c =
    let e = c.unstarted-in_default-empty_reports in
    ([], (failed_early (run_call g.F.Feed.remaining g.F.Feed.fails g.F.Feed.fills c.args.options c.args.readers.items c.args.inventory) e.result.cause [] e.result.senders.items (e.ensures.0, refl, e.ensures.1)).1)

pub returns-clause-fault : goal.returns-clause-fault
returns-clause-fault g c =
    let e = c.unstarted-in-Err in
    ([], (failed_early (run_call g.F.Feed.remaining g.F.Feed.fails g.F.Feed.fills c.args.options c.args.readers.items c.args.inventory) e.result.cause [] e.result.senders.items (e.ensures.0, refl, e.ensures.1)).1)

pub run_logged-requires-clause-begun : goal.run_logged-requires-clause-begun
run_logged-requires-clause-begun g c κs within =
    let m = c.in-Ok.monitor in
    let of = c.in-Ok.ensures in
    let limit = c.args.options.limit in
    (refl, record { entries = []; limit = limit; capacity = 0 }, count_nothing m.inventory limit m (c.may_run.ensures.0 c.if-not-may_run.false).1.limit.1 refl (record { world = of.world ∙ ap initial (sym of.inventory); nothing = of.applied; whole = of.whole }))

pub returns-in-Ok-run_logged : goal.returns-in-Ok-run_logged
returns-in-Ok-run_logged g c =
    let ran = c.in-Ok-run_logged.ran in
    let out = c.unkept.result in
    let call : Configuration → RunCall = run_call g.F.Feed.remaining g.F.Feed.fails g.F.Feed.fills c.args.options c.args.readers.items in
    let report : UnkeptReport = record { monitor = ran.log.monitor; senders = ran.senders; settled = ran.settled } in
    let range : MayRun (length c.args.readers.items) c.args.options = subst (λ (n : ℕ). MayRun n c.args.options) (omega (arith, c.len.ensures, c.args.readers.ok)) (c.may_run.ensures.0 c.if-not-may_run.false) in
    let ended = as_listed _ _ ran.cause ran.senders.items ran.settled c.in-Ok-run_logged.ensures.ended in
    record {
      ran = subst (λ (i : Configuration). IfOk out (λ r. HasRun (call i) (unkept_outcome r))) c.in-Ok.ensures.inventory (unkept_ran (call c.in-Ok.monitor.inventory) _ report ran.cause out ended c.unkept.ensures);
      may_run = always_ok out (MayRun (length c.args.readers.items) c.args.options) range;
      bad_options = unkept_in_range (call c.in-Ok.monitor.inventory) _ report (MayRun (length c.args.readers.items) c.args.options) range ran.cause out ended c.unkept.ensures;
      fault = subst (λ (i : Configuration). IfErr out (λ e. (journal : List Entry) × HasFailed (call i) e.cause journal e.senders.items)) c.in-Ok.ensures.inventory (unkept_failed (call c.in-Ok.monitor.inventory) _ report ran.cause out ended c.unkept.ensures);
    }

pub returns-clause-bad_options : goal.returns-clause-bad_options
returns-clause-bad_options g c =
    let range : MayRun (length c.args.readers.items) c.args.options = subst (λ (n : ℕ). MayRun n c.args.options) (omega (arith, c.len.ensures, c.args.readers.ok)) (c.may_run.ensures.0 c.if-not-may_run.false) in
    (λ bad. absurd (let memory = sym c.unstarted-in-Err.ensures.0 ∙ bad in cc), λ none. absurd (none range))
