use Rattle.std.proofs.Common.{sym, ◌∙◌, rules}
use Rattle.std.specs.Str.{bytes_eq}
use Rattle.std.proofs.lemmas.Iterator.{YieldsList-from_slice}
use Rattle.std.proofs.lemmas.Iterator.Adapters.{option_map_id}
use Rattle.std.proofs.lemmas.Iterator.Consumers.{YieldsList-from_copied}
use Rattle.std.proofs.lemmas.Iterator.Search.{find_from_yields_List}
use Rattle.cmd_types.specs.declared.command_name.TheConstants.{ALL_NAMES}
use Rattle.cmd_types.specs.Table.{name_text}
use Rattle.cmd_types.proofs.command_name.CommandName.find.Goals as goal

pub returns : goal.returns
returns c =
    sym (option_map_id _) ∙ find_from_yields_List (λ n. bytes_eq (name_text n) c.args.bytes.now) _ _ c.find.result c.find.ensures.ran (YieldsList-from_copied (YieldsList-from_slice ALL_NAMES.now cc)) (λ x b q k. search rules fits 100)
