-- Why `last_line` keeps its contract.
use Rattle.std.proofs.Common.{◌≡◌, [], ◌∷◌, ◌++◌, length, inl, inr, ◌∙◌}
use Rattle.std.proofs.lemmas.List.{take_rest, nil_from_length}
use Rattle.cmd_lines.proofs.PassLaws.{last_at}
use Rattle.cmd_lines.proofs.split.last_line.Goals as goal
use Rattle.cmd_lines.proofs.split.last_line.Goals.{in-Some+then-last-eq10, in_default}

pub returns : goal.returns
returns c =
    let i = c.bytes.invariant in
    let front = c.bytes.front.now in
    take_rest c.args.bytes.now (length front) ∙ last_at c.definitions_agree.ensures c.args.bytes.now front i.0 i.1 i.2 (elim c.match-split_last.branch [
      | in-Some+then-last-eq10 w ↦ (let parts : front ≡ w.in-Some.before.now ++ 10 ∷ [] = rw (← w.if-last-eq10.true) w.in-Some.ensures.cases.0 in inr (w.in-Some.before.now, parts))
      | in_default w ↦ (let none : length front ≡ 0 = rw w.in_default.is at c.split_last.ensures.cases in inl (nil_from_length front none))
    ])
