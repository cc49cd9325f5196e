use Rattle.std.proofs.Common.{◌∷◌, [], map}
use Rattle.std.specs.Prelude.{codes}
use Rattle.std.specs.Fmt.{decimal}
use Rattle.mon_engine.specs.Report.{or_empty}
use Rattle.mon_state.proofs.TextLemmas.{line_put}
use Rattle.mon_state.proofs.owed_lines.put_owed_of.Goals as goal

pub returns-clause-ok : goal.returns-clause-ok
returns-clause-ok c =
    let spec = c.args.spec.now in
    let x = c.args.owed.now in
    line_put c.args.out.now.items c.put_word.new.out.items c.put_numbers.new.out.items c.put_fields.new.out.items c.push.new.self.items
    (codes "owed") (spec.host ∷ or_empty spec.service ∷ decimal x.number ∷ []) (map decimal x.contacts) ([] ∷ [])
    (rw (c.as_bytes.ensures, c.service_name.ensures) at c.in_ok-put_word.ensures.ok) (rw c.as_slice.ensures at c.in_ok-put_numbers.ensures.ok) c.in_ok-put_fields.ensures.ok c.in_ok-push.ensures.items
