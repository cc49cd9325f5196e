use Rattle.std.proofs.Common.{◌+◌, ◌∷◌, ◌++◌, [], ◌∙◌, length, List, refl, sym, ap, subst, arith, length-append}
use Rattle.cmd_lines.specs.declared.item.Item.{Item}
use Rattle.cmd_lines.specs.Reader.{Waiting, Stands}
use Rattle.cmd_queue.specs.Sides.{Sent, with_commands}
use Rattle.cmd_dispatch.specs.Sends.{HasPassedOn, ahead}
use Rattle.cmd_dispatch.proofs.PlanLemmas.{kept_in_plan, next_in_plan, still_within}
use Rattle.cmd_dispatch.proofs.SendLemmas.{command_passed, gathered_more, length-ahead, refusal_passed, still_passed}
use Rattle.cmd_dispatch.proofs.ToldLemmas.{always_on_err}
use Rattle.cmd_dispatch.proofs.sender.Sending.pass_next.Goals as goal

pub hold_back-requires-clause-within : goal.hold_back-requires-clause-within
hold_back-requires-clause-within g c κs within =
    let old = c.args.self.now in
    let new = c.next_into.new.commands.items in
    let some = rw c.in-Some-Command.field-0-is at (rw c.in-Some-Command.is at c.in_ok-next_into.ensures.some) in
    let put = some.1 in
    let few = c.requires.room.0 in
    let falls = rw c.in-Some-Command.is at c.in_ok-next_into.ensures.falls in
    let covered = c.requires.covered in
    let fed = c.requires.few in (
      omega (arith, few, ap length put.2, length-append old.gathered.items (put.0 ∷ [])),
      omega (arith, falls, covered, fed, length-ahead old.side old.gathered.items, length-ahead old.side new, ap length put.2, length-append old.gathered.items (put.0 ∷ [])),
      kept_in_plan c.next_into.new.self (with_commands old.side new) _ (next_in_plan old.lines c.next_into.new.self (ahead old) (with_commands old.side new) (g.P.Reporter.has_taken old.report) (g.P.Reporter.has_taken old.report) some.0 c.requires.planned c.next_into.ensures.phase refl refl some.3
          (λ given was.
          subst (λ (i : Item). HasPassedOn (given ++ i ∷ []) (with_commands old.side new) (g.P.Reporter.has_taken old.report)) (sym put.1)
          (command_passed given put.0 (length (ahead old).list + 1) (ahead old) (with_commands old.side new) _ was refl
          (ap (with_commands old.side) put.2 ∙ gathered_more old.side old.gathered.items put.0)))),
    )

pub returns-in_ok-hold_back-in-Some-Command-clause-passed : goal.returns-in_ok-hold_back-in-Some-Command-clause-passed
returns-in_ok-hold_back-in-Some-Command-clause-passed g c = λ more.
    let old = c.args.self.now in
    let gathered = with_commands old.side c.next_into.new.commands.items in
    let some = rw c.in-Some-Command.field-0-is at (rw c.in-Some-Command.is at c.in_ok-next_into.ensures.some) in
    let put = some.1 in
    let same = c.in_ok-hold_back-in-Some-Command.ensures.same in (
      some.0,
      λ f given stands. subst (λ (w : Waiting). Stands w f (given ++ some.0 ∷ [])) (sym same.1) (some.3 f given stands),
      λ given was.
          still_passed (given ++ some.0 ∷ []) gathered (ahead c.hold_back.new.self) (g.P.Reporter.has_taken old.report) (g.P.Reporter.has_taken c.hold_back.new.self.report) same.0 same.2
          (subst (λ (i : Item). HasPassedOn (given ++ i ∷ []) gathered (g.P.Reporter.has_taken old.report)) (sym put.1)
          (command_passed given put.0 (length (ahead old).list + 1) (ahead old) gathered _ was refl
          (ap (with_commands old.side) put.2 ∙ gathered_more old.side old.gathered.items put.0))),
    )

pub returns-in_ok-hold_back-in-Some-Command-clause-few : goal.returns-in_ok-hold_back-in-Some-Command-clause-few
returns-in_ok-hold_back-in-Some-Command-clause-few g c =
    let old = c.args.self.now in
    let new = c.next_into.new.commands.items in
    let put = (rw c.in-Some-Command.field-0-is at (rw c.in-Some-Command.is at c.in_ok-next_into.ensures.some)).1 in
    omega (arith, ap (λ (s : Sent). length s.list) c.in_ok-hold_back-in-Some-Command.ensures.same.0, length-ahead old.side old.gathered.items, length-ahead old.side new, ap length put.2, length-append old.gathered.items (put.0 ∷ []))

pub returns-in_err-hold_back-in-Some-Command-clause-stopped : goal.returns-in_err-hold_back-in-Some-Command-clause-stopped
returns-in_err-hold_back-in-Some-Command-clause-stopped g c =
    let old = c.args.self.now in
    let put = (rw c.in-Some-Command.field-0-is at (rw c.in-Some-Command.is at c.in_ok-next_into.ensures.some)).1 in
    always_on_err _ (c.in_err-hold_back-in-Some-Command.ensures.dropped old.gathered.items put.0 put.2)

pub returns-in_ok-refuse-in-Some-Refused-clause-passed : goal.returns-in_ok-refuse-in-Some-Refused-clause-passed
returns-in_ok-refuse-in-Some-Refused-clause-passed g c = λ more.
    let old = c.args.self.now in
    let some = rw c.in-Some-Refused.field-0-is at (rw c.in-Some-Refused.is at c.in_ok-next_into.ensures.some) in
    let put = some.1 in
    let side = with_commands old.side c.next_into.new.commands.items in (
      some.0,
      some.3,
      λ given was.
          subst (λ (i : Item). HasPassedOn (given ++ i ∷ []) side (g.P.Reporter.has_taken c.refuse.new.self)) (sym put.0)
          (refusal_passed given c.in-Some-Refused.line c.in-Some-Refused.fault side (g.P.Reporter.has_taken old.report) (g.P.Reporter.has_taken c.refuse.new.self)
          (subst (λ (cs : List _). HasPassedOn given (with_commands old.side cs) (g.P.Reporter.has_taken old.report)) (sym put.1) was) c.in_ok-refuse-in-Some-Refused.ensures.taken),
    )

pub returns-in-None-clause-few : goal.returns-in-None-clause-few
returns-in-None-clause-few g c =
    let old = c.args.self.now in
    let kept = rw c.in-None.is at c.in_ok-next_into.ensures.kept in
    omega (arith, ap (λ (cs : List _). length (with_commands old.side cs).list) kept.1)

pub returns-in_err-next_into-clause-within : goal.returns-in_err-next_into-clause-within
returns-in_err-next_into-clause-within g c =
    let old = c.args.self.now in
    still_within old.lines old.side old.gathered.items c.next_into.new.commands.items (g.P.Reporter.has_taken old.report) c.in_err-next_into.ensures.err.1 c.requires.room.0 c.requires.covered c.requires.few c.requires.planned

pub returns-in_err-refuse-in-Some-Refused-clause-within : goal.returns-in_err-refuse-in-Some-Refused-clause-within
returns-in_err-refuse-in-Some-Refused-clause-within g c =
    let old = c.args.self.now in
    let put = (rw c.in-Some-Refused.field-0-is at (rw c.in-Some-Refused.is at c.in_ok-next_into.ensures.some)).1 in
    still_within old.lines old.side old.gathered.items c.next_into.new.commands.items (g.P.Reporter.has_taken old.report) put.1 c.requires.room.0 c.requires.covered c.requires.few c.requires.planned

pub returns-in_ok-refuse-in-Some-Refused-clause-within : goal.returns-in_ok-refuse-in-Some-Refused-clause-within
returns-in_ok-refuse-in-Some-Refused-clause-within g c =
    let old = c.args.self.now in
    let put = (rw c.in-Some-Refused.field-0-is at (rw c.in-Some-Refused.is at c.in_ok-next_into.ensures.some)).1 in
    still_within old.lines old.side old.gathered.items c.next_into.new.commands.items (g.P.Reporter.has_taken old.report) put.1 c.requires.room.0 c.requires.covered c.requires.few c.requires.planned

pub returns-in-None-clause-within : goal.returns-in-None-clause-within
returns-in-None-clause-within g c =
    let old = c.args.self.now in
    let kept = rw c.in-None.is at c.in_ok-next_into.ensures.kept in
    still_within old.lines old.side old.gathered.items c.next_into.new.commands.items (g.P.Reporter.has_taken old.report) kept.1 c.requires.room.0 c.requires.covered c.requires.few c.requires.planned
