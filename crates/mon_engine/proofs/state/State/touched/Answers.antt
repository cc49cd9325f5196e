use Rattle.std.proofs.Common.{◌≡◌, Ok, ap, sym, ◌∙◌}
use Rattle.mon_engine.specs.Effects.{Act, asked_of, named, shown}
use Rattle.mon_engine.specs.Names.{target_of}
use Rattle.mon_engine.proofs.AskedLemmas.{named_stands}
use Rattle.mon_engine.proofs.WakeLemmas.{covers_effect, covers_rejected}
use Rattle.mon_engine.proofs.state.State.touched.Goals as goal

-- what was found and asked is what the command's names and the command ask for
names : (c : goal.After-asked) → named c.args.inventory.now c.command-command.result.now ≡ Ok (shown c.asked.result)
names c =
    ap (asked_of c.command-command.result.now) (ap (target_of c.args.inventory.now) (sym c.names.ensures) ∙ c.in-Ok.ensures.1)
    ∙ ap (λ (a : Act). Ok a) (sym c.asked.ensures)

pub touches-requires-clause-stands : goal.touches-requires-clause-stands
touches-requires-clause-stands c = named_stands c.args.inventory.now c.command-command.result.now (shown c.asked.result) c.requires.sound (names c)

pub returns-in-Ok-clause-covers : goal.returns-in-Ok-clause-covers
returns-in-Ok-clause-covers c = covers_effect c.args.inventory.now c.args.self.now c.args.entry.now (shown c.asked.result) c.touches.result c.requires.sound
    (ap (named c.args.inventory.now) (sym c.command-command.ensures.value) ∙ names c.before) c.touches.ensures.touches

pub returns-in-Err-clause-covers : goal.returns-in-Err-clause-covers
returns-in-Err-clause-covers c = covers_rejected c.args.inventory.now c.args.self.now c.args.entry.now c.in-Err.field-0
    (ap (named c.args.inventory.now) (sym c.command-command.ensures.value) ∙ ap (asked_of c.command-command.result.now) (ap (target_of c.args.inventory.now) (sym c.names.ensures) ∙ c.in-Err.ensures))
