use Rattle.std.proofs.Common.{◌++◌, ◌∷◌, [], ◌∙◌, arith, ap, refl, sym, subst}
use Rattle.cmd_lines.specs.declared.phase.Phase.{Phase}
use Rattle.cmd_lines.specs.Items.{known}
use Rattle.cmd_lines.specs.Reader.{Waiting}
use Rattle.cmd_queue.specs.Sides.{Sent}
use Rattle.cmd_dispatch.specs.Sends.{IsCovered, IsGiving, ahead}
use Rattle.cmd_dispatch.proofs.PlanLemmas.{on_in_plan, in_plan_of}
use Rattle.cmd_dispatch.proofs.SendLemmas.{all_given, begun_giving, still_passed, still_giving, still_begun}
use Rattle.cmd_dispatch.proofs.ToldLemmas.{first_given}
use Rattle.cmd_dispatch.proofs.sender.Sending.pass_on_known.Goals as goal

pub pass_next-requires-clause-few : goal.pass_next-requires-clause-few
pass_next-requires-clause-few g c = (let same = c.items.invariant.fed in let few = c.requires.few in omega arith)

pub pass_next-requires-clause-planned : goal.pass_next-requires-clause-planned
pass_next-requires-clause-planned g c κs within =
    let was = c.items.invariant in
    let keeps = c.requires.planned in
    let at = was.giving keeps.0 keeps.1.given keeps.1.stands keeps.1.passed in
    on_in_plan c.items.self.lines (known c.args.self.now.lines.phase keeps.0) keeps.0 at.given (ahead c.items.self) (g.P.Reporter.has_taken c.items.self.report) at.stands at.passed (ap (λ (p : Phase). known p keeps.0) was.phase)
    (in_plan_of (ahead c.args.self.now) (ahead c.items.self) (known c.args.self.now.lines.phase keeps.0) was.queue was.sender keeps.2)

pub items-preserved : goal.items-preserved
items-preserved g c =
    let more = c.if-branch.true in
    let passed = c.in_ok-pass_next.ensures.passed more in
    let falls = c.in_ok-pass_next.ensures.falls more in
    let was = c.items.invariant in
    let few = c.in_ok-pass_next.ensures.few in
    let before = was.covered in
    let room = c.make_room-in-items.ensures.same in
    record {
      giving = λ f given s p.
          let at = was.giving f given s p in
          still_giving f c.pass_next.new.self.lines c.make_room-in-items.new.self.lines (ahead c.pass_next.new.self) (ahead c.make_room-in-items.new.self) (g.P.Reporter.has_taken c.pass_next.new.self.report) (g.P.Reporter.has_taken c.make_room-in-items.new.self.report) room.0 room.1 room.2
          (record { given = at.given ++ passed.0 ∷ []; stands = passed.1 f at.given at.stands; passed = passed.2 at.given at.passed });
      covered = subst (λ (y : Sent × Waiting). IsCovered y.1 y.0) (λ i. (sym room.0 i, sym room.1 i))
          (omega (arith, falls, few, before, c.in_ok-pass_next.ensures.fed));
      within = c.make_room-in-items.ensures.within;
      room = c.in_ok-make_room-2.ensures.room;
      phase = ap (λ (w : Waiting). w.phase) room.1 ∙ c.in_ok-pass_next.ensures.phase ∙ was.phase;
      fed = ap (λ (w : Waiting). w.fed) room.1 ∙ c.in_ok-pass_next.ensures.fed ∙ was.fed;
      queue = ap (λ (s : Sent). s.queue) room.0 ∙ c.in_ok-pass_next.ensures.side.0 ∙ was.queue;
      sender = ap (λ (s : Sent). s.sender) room.0 ∙ c.in_ok-pass_next.ensures.side.1 ∙ was.sender;
    }

pub returns-clause-passed : goal.returns-clause-passed
returns-clause-passed g c = λ f given s p.
    let none = c.in_ok-pass_next.ensures.none c.if-branch.false in
    let was = c.items.invariant in
    let at = was.giving f given s p in
    let all = all_given f at.given c.args.self.now.lines.phase c.items.self.lines.phase c.items.self.lines c.pass_next.new.self.lines (ahead c.items.self) (g.P.Reporter.has_taken c.items.self.report) was.phase none.1 (none.0 f at.given at.stands) at.stands at.passed in
    (all.0, still_passed (known c.args.self.now.lines.phase f) (ahead c.items.self) (ahead c.pass_next.new.self) (g.P.Reporter.has_taken c.items.self.report) (g.P.Reporter.has_taken c.pass_next.new.self.report) none.2 none.3 all.1)

pub returns-clause-begun : goal.returns-clause-begun
returns-clause-begun g c = λ f given s p.
    let none = c.in_ok-pass_next.ensures.none c.if-branch.false in
    begun_giving f c.args.self.now.lines.phase c.items.self.lines (ahead c.items.self) (ahead c.pass_next.new.self) (g.P.Reporter.has_taken c.items.self.report) (g.P.Reporter.has_taken c.pass_next.new.self.report) c.items.invariant.phase (c.items.invariant.giving f given s p) none.2 none.3

pub returns-in_err-pass_next-clause-begun : goal.returns-in_err-pass_next-clause-begun
returns-in_err-pass_next-clause-begun g c = λ f given s p.
    let h = c.in_err-pass_next.ensures.stopped in
    begun_giving f c.args.self.now.lines.phase c.items.self.lines (ahead c.items.self) (ahead c.pass_next.new.self) (g.P.Reporter.has_taken c.items.self.report) (g.P.Reporter.has_taken c.pass_next.new.self.report) c.items.invariant.phase (c.items.invariant.giving f given s p) h.0 h.1

pub returns-in_err-make_room-clause-begun : goal.returns-in_err-make_room-clause-begun
returns-in_err-make_room-clause-begun g c = λ f given s p.
    still_begun (known c.args.self.now.lines.phase f) (ahead c.args.self.now) (ahead c.make_room.new.self) (g.P.Reporter.has_taken c.args.self.now.report) (g.P.Reporter.has_taken c.make_room.new.self.report) c.make_room.ensures.same.0 c.make_room.ensures.same.2 (record { given = given; first = first_given c.args.self.now.lines f given s; passed = p })

pub returns-in_err-make_room-2-clause-begun : goal.returns-in_err-make_room-2-clause-begun
returns-in_err-make_room-2-clause-begun g c = λ f given s p.
    let passed = c.in_ok-pass_next.ensures.passed c.if-branch.true in
    let at = c.items.invariant.giving f given s p in
    let more : IsGiving f c.pass_next.new.self.lines (ahead c.pass_next.new.self) (g.P.Reporter.has_taken c.pass_next.new.self.report) =
    record { given = at.given ++ passed.0 ∷ []; stands = passed.1 f at.given at.stands; passed = passed.2 at.given at.passed } in
    still_begun (known c.args.self.now.lines.phase f) (ahead c.pass_next.new.self) (ahead c.make_room-in-items.new.self) (g.P.Reporter.has_taken c.pass_next.new.self.report) (g.P.Reporter.has_taken c.make_room-in-items.new.self.report) c.make_room-in-items.ensures.same.0 c.make_room-in-items.ensures.same.2
    (begun_giving f c.args.self.now.lines.phase c.pass_next.new.self.lines (ahead c.pass_next.new.self) (ahead c.pass_next.new.self) (g.P.Reporter.has_taken c.pass_next.new.self.report) (g.P.Reporter.has_taken c.pass_next.new.self.report)
    (c.in_ok-pass_next.ensures.phase ∙ c.items.invariant.phase) more refl (λ refused told. told))
