use Rattle.std.proofs.Common.{inl, inr, refl, arith, subst, sym, ◌≡◌, ◌∙◌, false, map}
use denote.Param.Send.{sendable}
use Rattle.std.proofs.lemmas.Result.{IfOk-weaker}
use Rattle.std.proofs.Crossing.{crosses}
use Rattle.gateway.proofs.Crossing.{Backlog-sync, Flag-sync, Gate-sync, Renewal-sync, Seen-send}
use Rattle.std.specs.Io.KnownBytes.{Appends}
use Rattle.std.specs.List.{flat_map}
use Rattle.cmd_lines.specs.Skips.{raised_refusal}
use Rattle.cmd_answer.specs.Printed.{refused_line, refuses_none}
use Rattle.cmd_answer.specs.declared.stop.Stop.TheVariants.{Output}
use Rattle.gateway.specs.Followed.{lines_due, followed_status, IsRunCutOff}
use Rattle.gateway.proofs.FollowRuns.{call_unstarted, none_taken, count_is, call_followed, call_failed, cut_so}
use Rattle.gateway.proofs.follow.follow_all.Goals as goal

pub returns-in_default-clause-cut_off : goal.returns-in_default-clause-cut_off
returns-in_default-clause-cut_off g c = inl (call_unstarted c.args.run.now.call.now.asked.now c.args.inventory _)

pub follow-followed-requires-clause-allowed : goal.follow-followed-requires-clause-allowed
follow-followed-requires-clause-allowed g c κs within = inl (λ text. tt)

pub follow-followed-requires-clause-none_taken : goal.follow-followed-requires-clause-none_taken
follow-followed-requires-clause-none_taken g c κs within =
    let count = c.in-Ok.ensures.one_each in
    (count, λ k p h. (let told = c.in-Ok.ensures.nothing k p (omega (arith, h, count)) in (told.0, λ _. none_taken g.R.Stream.Write.contents _ _ told.1)))

pub returns-in-Ok-due-clause-ran : goal.returns-in-Ok-due-clause-ran
returns-in-Ok-due-clause-ran g c =
    let ran = rw c.in-Ok.ensures.options at (rw c.in-Ok-followed.is at c.follow-followed.ensures.followed) in
    IfOk-weaker c.put.result _ _
    (λ status put. (
      _,
      c.in-Ok-due.due.0.items,
      call_followed (λ a. a.is_clean) (λ a refused. (a.is_clean ≡ refuses_none refused) × (a.is_cut ≡ false → Appends (g.R.Stream.Write.contents a.first.value) (g.R.Stream.Write.contents a.refusals) (flat_map (λ r. refused_line a.care.feed (raised_refusal a.care.passed r)) refused))) (λ a refused t. t.0) c.args.run.now.call.now.asked.now c.args.inventory c.args.run.now.clock _ _ c.in-Ok.fed.readers.items c.in-Ok-followed.followed.monitor c.in-Ok-followed.followed.feeds.items c.in-Ok-followed.followed.settled c.in-Ok-due.due.0.items status
          (c.in-Ok.ensures.all ∙ count_is _ _ _ _ c.requires.clock c.requires.one_each) c.requires.clock ran c.deref.result.now c.deref.ensures.value c.in-Ok-due.ensures.lines (put.0 ∙ c.in-Ok-due.ensures.status),
      put.1,
    ))
    c.put.ensures.put

pub returns-in-Ok-due-clause-cut_off : goal.returns-in-Ok-due-clause-cut_off
returns-in-Ok-due-clause-cut_off g c =
    let ran = rw c.in-Ok.ensures.options at (rw c.in-Ok-followed.is at c.follow-followed.ensures.followed) in
    cut_so c.put.result Output _ _ c.put.ensures.failed c.put.ensures.part
    (λ part. inr (record {
      told = _;
      lines = c.in-Ok-due.due.0.items;
      status = c.in-Ok-due.due.1;
      ran = call_followed (λ a. a.is_clean) (λ a refused. (a.is_clean ≡ refuses_none refused) × (a.is_cut ≡ false → Appends (g.R.Stream.Write.contents a.first.value) (g.R.Stream.Write.contents a.refusals) (flat_map (λ r. refused_line a.care.feed (raised_refusal a.care.passed r)) refused))) (λ a refused t. t.0) c.args.run.now.call.now.asked.now c.args.inventory c.args.run.now.clock _ _ c.in-Ok.fed.readers.items c.in-Ok-followed.followed.monitor c.in-Ok-followed.followed.feeds.items c.in-Ok-followed.followed.settled c.in-Ok-due.due.0.items c.in-Ok-due.due.1
          (c.in-Ok.ensures.all ∙ count_is _ _ _ _ c.requires.clock c.requires.one_each) c.requires.clock ran c.deref.result.now c.deref.ensures.value c.in-Ok-due.ensures.lines c.in-Ok-due.ensures.status;
      cut_off = inl (refl, part);
    }))

pub returns-in-Ok-followed-clause-cut_off : goal.returns-in-Ok-followed-clause-cut_off
returns-in-Ok-followed-clause-cut_off g c =
    let ran = rw c.in-Ok.ensures.options at (rw c.in-Ok-followed.is at c.follow-followed.ensures.followed) in
    let feeds = c.in-Ok-followed.followed.feeds.items in
    inr (record {
      told = _;
      lines = lines_due c.args.run.now.call.now.asked.now.following.drain c.args.run.now.clock (map (λ f. f.report) feeds);
      status = followed_status (map (λ f. f.report) feeds) (map (λ f. f.attendant.is_clean) feeds);
      ran = call_followed (λ a. a.is_clean) (λ a refused. (a.is_clean ≡ refuses_none refused) × (a.is_cut ≡ false → Appends (g.R.Stream.Write.contents a.first.value) (g.R.Stream.Write.contents a.refusals) (flat_map (λ r. refused_line a.care.feed (raised_refusal a.care.passed r)) refused))) (λ a refused t. t.0) c.args.run.now.call.now.asked.now c.args.inventory c.args.run.now.clock _ _ c.in-Ok.fed.readers.items c.in-Ok-followed.followed.monitor c.in-Ok-followed.followed.feeds.items c.in-Ok-followed.followed.settled _ _
          (c.in-Ok.ensures.all ∙ count_is _ _ _ _ c.requires.clock c.requires.one_each) c.requires.clock ran feeds refl refl refl;
      cut_off = inr (refl, refl);
    })

pub returns-clause-cut_off : goal.returns-clause-cut_off
returns-clause-cut_off g c =
    subst (IsRunCutOff c.args.run.now.call.now.asked.now c.args.inventory (g.O.Write.contents c.args.output) (g.O.Write.contents c.follow-followed.result.1.output)) (sym c.stop_of.ensures)
    (inl (call_failed (λ a. a.is_clean) (λ a refused. (a.is_clean ≡ refuses_none refused) × (a.is_cut ≡ false → Appends (g.R.Stream.Write.contents a.first.value) (g.R.Stream.Write.contents a.refusals) (flat_map (λ r. refused_line a.care.feed (raised_refusal a.care.passed r)) refused))) (λ a refused t. t.0) c.args.run.now.call.now.asked.now c.args.inventory c.args.run.now.clock _ _ c.in-Ok.fed.readers.items c.in-Err.fault.cause c.in-Err.fault.feeds.items
    (c.in-Ok.ensures.all ∙ count_is _ _ _ _ c.requires.clock c.requires.one_each) c.requires.clock (rw c.in-Ok.ensures.options at (rw c.in-Err.is at c.follow-followed.ensures.fault))))

pub follow-followed-requires-send-A : goal.follow-followed-requires-send-A
follow-followed-requires-send-A g c κs within =
    let shared = c.type_bounds.sync-R in
    let stream = c.type_bounds.send-R-Stream in
    let file = c.type_bounds.send-R-File in
    search (Backlog-sync, Flag-sync, Gate-sync, Renewal-sync, Seen-send, sendable, crosses) depth 100 fits 200000
