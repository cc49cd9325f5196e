use Rattle.std.proofs.Common.{true, false, sym, ◌∙◌, refl}
use Rattle.cmd_answer.proofs.BundleLemmas.{twice_parts}
use Rattle.cmd_answer.proofs.files.+has_twice.Goals as goal

pub returns-then-is_among : goal.returns-then-is_among
returns-then-is_among t c = c.if-is_among.true ∙ twice_parts c.args.paths.now _ c.in-len1-up.len_at_least true _ (sym c.if-is_among.true ∙ c.is_among.ensures) refl

pub returns-else-is_among : goal.returns-else-is_among
returns-else-is_among t c = twice_parts c.args.paths.now _ c.in-len1-up.len_at_least false c.has_twice.result (sym c.if-is_among.false ∙ c.is_among.ensures) c.has_twice.ensures
