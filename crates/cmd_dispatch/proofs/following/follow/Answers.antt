use Rattle.std.proofs.Common.{◌≡◌, ◌∙◌, ℕ, [], Option, refl, sym, ap, subst, length, map, arith, IfOk, IfErr}
use Rattle.cmd_options.specs.Options.{MayRun}
use Rattle.cmd_run.specs.declared.fault.RunCause.TheVariants.{BadOptions, Memory}
use Rattle.mon_inventory.specs.Configuration.{Configuration}
use Rattle.cmd_journal.specs.Pasts.{Counts, StandsFor}
use Rattle.mon_engine.specs.Held.{Held}
use Rattle.mon_engine.specs.World.{initial}
use Rattle.cmd_run.specs.declared.fault.RunCause.{RunCause}
use Rattle.cmd_dispatch.specs.RunCalls.{RunCall, run_call}
use Rattle.cmd_dispatch.specs.Runs.{fault_known}
use Rattle.cmd_dispatch.specs.Planned.{AreOfFeeds}
use Rattle.cmd_dispatch.specs.Stores.{WhileWhole}
use Rattle.cmd_dispatch.specs.Tellings.{IsTelling, MayTell}
use Rattle.cmd_dispatch.specs.TellingLaws.{telling_ends}
use Rattle.cmd_dispatch.specs.Follows.{HasFollowed, HasStopped, attended_at, followed_outcome}
use Rattle.cmd_dispatch.proofs.BlameLemmas.{blamed_known}
use Rattle.cmd_dispatch.proofs.PlanLemmas.{run_nothing, fed_more}
use Rattle.cmd_dispatch.proofs.JournalingLemmas.{IsNewMonitor}
use Rattle.cmd_dispatch.proofs.TellingLemmas.{telling_nothing, followed_all, never_bad, always_ok, attended_nothing}
use Rattle.cmd_dispatch.proofs.following.follow.Goals as goal

pub run_logged-requires-clause-range : goal.run_logged-requires-clause-range
run_logged-requires-clause-range g c κs within =
    subst (λ (n : ℕ). MayRun n c.args.feeding.options) (omega (arith, c.len.ensures, c.args.feeding.readers.ok)) (c.may_run.ensures.0 c.if-not-may_run.false)

pub run_logged-requires-clause-begun : goal.run_logged-requires-clause-begun
run_logged-requires-clause-begun g c κs within =
    let of = c.in-Ok.ensures in
    let range : MayRun (length c.args.feeding.readers.items) c.args.feeding.options = subst (λ (n : ℕ). MayRun n c.args.feeding.options) (omega (arith, c.len.ensures, c.args.feeding.readers.ok)) (c.may_run.ensures.0 c.if-not-may_run.false) in
    let most = range.1.limit.1 in
    let made = c.in-Ok-new.ensures.ledger in
    let new : IsNewMonitor c.in-Ok.monitor = record { world = of.world ∙ ap initial (sym of.inventory); nothing = of.applied; whole = of.whole } in (
      refl,
      omega arith,
      telling_nothing c.args.feeding.options.limit (g.T.Teller.told c.args.audience.teller) c.in-Ok-new.ledger c.new-4.result.items (subst IsNewMonitor (sym made.0) new) (subst (λ (p : Counts). StandsFor p []) (sym made.1) c.new-2.ensures) c.in-Ok-new.ensures.lasts c.new-4.ensures.items,
      (
        let of_call : c.in-Ok-new.ledger.monitor.inventory ≡ c.args.inventory = ap (λ (m : Held). m.inventory) made.0 ∙ of.inventory in
            subst (λ (p : Configuration × Option ℕ). MayTell g.T.Teller.allows (AreOfFeeds g.F.Feed.remaining c.args.feeding.readers.items) p.0 p.1 (g.T.Teller.told c.args.audience.teller)) (λ i. (sym of_call i, sym made.2 i)) c.requires.allowed,
        tt,
        run_nothing _,
      ),
    )

pub run_logged-requires-clause-known : goal.run_logged-requires-clause-known
run_logged-requires-clause-known g c κs within = λ taken e low of sent.
    let range : MayRun (length c.args.feeding.readers.items) c.args.feeding.options = subst (λ (n : ℕ). MayRun n c.args.feeding.options) (omega (arith, c.len.ensures, c.args.feeding.readers.ok)) (c.may_run.ensures.0 c.if-not-may_run.false) in
    let few = range.0.1 in
    (omega (arith, low, few), fed_more g.F.Feed.remaining c.args.feeding.readers.items taken e low of sent)

pub finish-requires-clause-allowed : goal.finish-requires-clause-allowed
finish-requires-clause-allowed g c κs within = λ none.
    let ran = c.in-Ok-run_logged.ran in
    let ended = c.in-Ok-run_logged.ensures.ended in
    let start = c.in-Ok-new.ledger in
    let feeds = c.args.feeding.readers.items in
    let told = g.T.Teller.told in
    let held = subst (λ (why : Option RunCause). IsTelling c.args.feeding.options.limit start.monitor.inventory start.clock (told c.args.audience.teller) (fault_known why) ended.logged ran.log.ledger ran.log.waiting.items (told ran.log.teller)) none ended.held.2 in
    telling_ends c.args.feeding.options.limit start.monitor.inventory start.clock (told c.args.audience.teller) ended.logged ran.log.ledger ran.log.waiting.items (told ran.log.teller) g.T.Teller.allows (AreOfFeeds g.F.Feed.remaining feeds) held
    (subst (λ (why : Option RunCause). WhileWhole (fault_known why) (AreOfFeeds g.F.Feed.remaining feeds ended.logged)) none ended.held.3.2) ended.held.3.0

pub finish-requires-clause-blamed : goal.finish-requires-clause-blamed
finish-requires-clause-blamed g c κs within = blamed_known g.T.Teller.has_failed c.in-Ok-run_logged.ran.cause c.in-Ok-run_logged.ensures.ended.held.3.1

pub run_logged-requires-clause-none_taken : goal.run_logged-requires-clause-none_taken
run_logged-requires-clause-none_taken g c κs within =
    attended_nothing g.A.Attendant.has_taken c.in-Ok-unread.reports.items c.args.feeding.attendants.items (length c.args.feeding.readers.items) c.in-Ok-unread.ensures.attended c.in-Ok-unread.ensures.unlisted c.requires.none_taken

pub returns-in-Ok-run_logged : goal.returns-in-Ok-run_logged
returns-in-Ok-run_logged g c =
    let ran = c.in-Ok-run_logged.ran in
    let made = c.in-Ok-new.ensures.ledger in
    let told = g.T.Teller.told in
    let has_taken = g.A.Attendant.has_taken in
    let range : MayRun (length c.args.feeding.readers.items) c.args.feeding.options = subst (λ (n : ℕ). MayRun n c.args.feeding.options) (omega (arith, c.len.ensures, c.args.feeding.readers.ok)) (c.may_run.ensures.0 c.if-not-may_run.false) in
    let call : Configuration → RunCall = run_call g.F.Feed.remaining g.F.Feed.fails g.F.Feed.fills c.args.feeding.options c.args.feeding.readers.items in
    let of_call : c.in-Ok-new.ledger.monitor.inventory ≡ c.args.inventory = ap (λ (m : Held). m.inventory) made.0 ∙ c.in-Ok.ensures.inventory in
    let all =
    followed_all (call c.in-Ok-new.ledger.monitor.inventory) c.in-Ok-new.ledger.clock _ _ _ has_taken (told c.args.audience.teller) ran.log.waiting.items (told ran.log.teller) (told c.finish.result.1)
    (record { monitor = ran.log.ledger.monitor; feeds = ran.senders; settled = ran.settled }) ran.log.ledger refl ran.cause c.finish.result.0 c.in-Ok-run_logged.ensures.ended c.finish.ensures.answer in
    record {
      followed = subst (λ (p : Configuration × Option ℕ). IfOk c.finish.result.0 (λ r. HasFollowed (call p.0) p.1 (told c.args.audience.teller) (told c.finish.result.1) (followed_outcome r) (attended_at has_taken r.feeds.items))) (λ i. (of_call i, made.2 i)) all.0;
      may_run = always_ok c.finish.result.0 (MayRun (length c.args.feeding.readers.items) c.args.feeding.options) range;
      bad_options = never_bad (MayRun (length c.args.feeding.readers.items) c.args.feeding.options) range c.finish.result.0 all.2;
      fault = subst (λ (p : Configuration × Option ℕ). IfErr c.finish.result.0 (λ e. HasStopped (call p.0) p.1 (told c.args.audience.teller) (told c.finish.result.1) e.cause (map (λ f. f.report) e.feeds.items) (attended_at has_taken e.feeds.items))) (λ i. (of_call i, made.2 i)) all.1;
      output = c.finish.ensures.output;
    }

pub returns-in-Err-clause-bad_options : goal.returns-in-Err-clause-bad_options
returns-in-Err-clause-bad_options g c = (λ bad. (let e : Memory ≡ BadOptions = sym c.unstarted-in-Err.ensures.0 ∙ bad in cc), λ not. absurd (not (subst (λ (n : ℕ). MayRun n c.args.feeding.options) (omega (arith, c.len.ensures, c.args.feeding.readers.ok)) (c.may_run.ensures.0 c.if-not-may_run.false))))
