use Rattle.std.proofs.Common.{◌≡◌, Ok, ap, sym, ◌∙◌, subst}
use Rattle.cmd_types.specs.declared.command.Command.{Command}
use Rattle.cmd_types.specs.Spelling.{AllFit}
use Rattle.cmd_types.specs.Table.{arguments_of}
use Rattle.mon_engine.specs.Effects.{Act, asked_of, named, shown}
use Rattle.mon_engine.specs.Names.{target_of}
use Rattle.mon_engine.specs.Step.{act_on}
use Rattle.mon_engine.specs.Stops.{Acts}
use Rattle.mon_engine.proofs.AskedLemmas.{named_fit, named_stands}
use Rattle.mon_engine.proofs.SoundLemmas.{effect_follows}
use Rattle.mon_engine.proofs.state.State.attempt.Goals as goal

-- what was found and asked is what the command's names and the command ask for
names : (c : goal.After-asked) → named c.args.inventory.now c.command-command.result.now ≡ Ok (shown c.asked.result)
names c =
    ap (asked_of c.command-command.result.now) (ap (target_of c.args.inventory.now) (sym c.names.ensures) ∙ c.in-Ok.ensures.1)
    ∙ ap (λ (a : Act). Ok a) (sym c.asked.ensures)

pub act-requires-clause-stands : goal.act-requires-clause-stands
act-requires-clause-stands c = named_stands c.args.inventory.now c.command-command.result.now (shown c.asked.result) c.requires.sound (names c)

pub act-requires-clause-fits : goal.act-requires-clause-fits
act-requires-clause-fits c =
    named_fit c.args.inventory.now c.command-command.result.now (shown c.asked.result) c.requires.sound (names c)
    (subst (λ (x : Command). AllFit (arguments_of x)) (sym c.command-command.ensures.value) c.command-command.ensures.fits.arguments)

pub returns-in-Ok-clause-acts : goal.returns-in-Ok-clause-acts
returns-in-Ok-clause-acts c =
    let asks = ap (named c.args.inventory.now) (sym c.command-command.ensures.value) ∙ names c.before in
    subst (λ r. Acts (act_on c.args.inventory.now c.args.self.now r) c.act.result c.args.self.now c.act.new.self) (sym asks) c.act.ensures

pub returns-in-Ok-clause-follows : goal.returns-in-Ok-clause-follows
returns-in-Ok-clause-follows c =
    effect_follows c.args.inventory.now c.args.self.now c.act.new.self (shown c.asked.result) c.act.result c.requires.sound c.requires.world (act-requires-clause-stands c.before) (act-requires-clause-fits c.before) c.act.ensures
