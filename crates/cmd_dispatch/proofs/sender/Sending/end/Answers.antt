use Rattle.std.proofs.Common.{List, ℕ, subst}
use Rattle.cmd_lines.specs.declared.item.Item.{Item}
use Rattle.cmd_lines.specs.Items.{known, items_so_far}
use Rattle.cmd_lines.specs.Reader.{Stands}
use Rattle.cmd_dispatch.specs.Delivered.{items_by}
use Rattle.cmd_dispatch.specs.Sends.{HasPassedOn, HasBegun, IsReading, ahead}
use Rattle.cmd_dispatch.proofs.PlanLemmas.{on_in_plan}
use Rattle.cmd_dispatch.proofs.ToldLemmas.{on_ok}
use Rattle.cmd_dispatch.proofs.sender.Sending.end.Goals as goal

pub returns-clause-passed : goal.returns-clause-passed
returns-clause-passed g c =
    let now = c.pass_on_known.new.self in
    let phase = c.end_text.new.lines.phase in
    let told_of : ((f : List ℕ) (given : List Item) → Stands c.end_text.new.lines f given → HasPassedOn given (ahead c.args.self.now) (g.P.Reporter.has_taken c.args.self.now.report) → Stands now.lines f (known phase f) × HasPassedOn (known phase f) (ahead now) (g.P.Reporter.has_taken now.report))
    → (f : List ℕ) → IsReading f c.args.self.now.lines (ahead c.args.self.now) (g.P.Reporter.has_taken c.args.self.now.report) → HasPassedOn (items_by c.args.how f) (ahead now) (g.P.Reporter.has_taken now.report) = λ passed f at.
    subst (λ (all : List Item). HasPassedOn all (ahead now) (g.P.Reporter.has_taken now.report)) (c.end_text.ensures.items f) (passed f (items_so_far f) (c.end_text.ensures.stands f (items_so_far f) at.stands) at.passed).1 in
    on_ok _ told_of c.pass_on_known.ensures.passed

pub returns-clause-begun : goal.returns-clause-begun
returns-clause-begun g c = λ f at.
    subst (λ (all : List Item). HasBegun all (ahead c.pass_on_known.new.self) (g.P.Reporter.has_taken c.pass_on_known.new.self.report)) (c.end_text.ensures.items f)
    (c.pass_on_known.ensures.begun f (items_so_far f) (c.end_text.ensures.stands f (items_so_far f) at.stands) at.passed)

pub pass_on_known-requires-clause-planned : goal.pass_on_known-requires-clause-planned
pass_on_known-requires-clause-planned g c κs within =
    let reads = c.requires.planned in
    on_in_plan c.end_text.new.lines (items_by c.args.how reads.0) reads.0 (items_so_far reads.0) (ahead c.args.self.now) (g.P.Reporter.has_taken c.args.self.now.report) (c.end_text.ensures.stands reads.0 (items_so_far reads.0) reads.1.stands) reads.1.passed
    (c.end_text.ensures.items reads.0) reads.2
