-- Why `rest_item` keeps its contract.
use Rattle.std.proofs.Common.{◌≡◌, ◌≢◌, ◌∷◌, [], true, arith, length-append, rules}
use Rattle.cmd_lines.specs.declared.fault.LineFault.TheVariants.{TooLong, Memory}
use Rattle.cmd_lines.proofs.UnfinishedLaws.{lost_items}
use Rattle.cmd_lines.proofs.line_item.rest_item.Goals as goal

-- a line that is too long is so by its text
too_long_is_of_text : TooLong ≢ Memory
too_long_is_of_text e = absurd cc

pub returns-in_default : goal.returns-in_default
returns-in_default c =
    let lost : c.args.lost ≡ true = search rules in
    let long = c.requires.long lost in
    record {
      value = rw lost (lost_items c.definitions_agree.ensures c.args.phase c.args.number c.args.rest.now c.in_default.not-Open long);
      of_text = too_long_is_of_text;
      memory = tt;
      some = rw lost (omega (arith, length-append c.args.rest.now (120 ∷ [])));
    }
