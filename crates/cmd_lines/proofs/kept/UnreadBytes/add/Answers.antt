-- Why `UnreadBytes::add` keeps its contract.
use Rattle.std.proofs.Common.{◌++◌, ◌∙◌, ap, take}
use Rattle.cmd_lines.proofs.PassLaws.{last_line_short}
use Rattle.cmd_lines.specs.Unfinished.{Keeping, most_held}
use Rattle.cmd_lines.proofs.KeptLaws.{one_line, lines_first, held_on, held_end}
use Rattle.cmd_lines.proofs.kept.UnreadBytes.add.Goals as goal

pub extend_last-requires : goal.extend_last-requires
extend_last-requires c = one_line c.definitions_agree.ensures c.args.piece.now c.last_line-rest.result.now c.last_line-rest.ensures c.if-rest-piece.true

pub overflow_sub-piece : goal.overflow_sub-piece
overflow_sub-piece c = rw c.last_line-rest.ensures (last_line_short c.definitions_agree.ensures c.args.piece.now)

pub end_line-requires-clause-ended : goal.end_line-requires-clause-ended
end_line-requires-clause-ended c =
    let s = lines_first c.definitions_agree.ensures c.args.piece.now c.last_line-rest.result.now c.split_at.result.0.now c.split_at.result.1.now c.last_line-rest.ensures c.if-rest-piece.false c.split_at.ensures.front c.split_at.ensures.back in
    (s.line, s.ends)

pub end_line-requires-clause-one : goal.end_line-requires-clause-one
end_line-requires-clause-one c =
    (lines_first c.definitions_agree.ensures c.args.piece.now c.last_line-rest.result.now c.split_at.result.0.now c.split_at.result.1.now c.last_line-rest.ensures c.if-rest-piece.false c.split_at.ensures.front c.split_at.ensures.back).one

pub returns-then-rest-piece-clause-held : goal.returns-then-rest-piece-clause-held
returns-then-rest-piece-clause-held c = λ f was.
    let piece = c.args.piece.now in
    let lacks = one_line c.definitions_agree.ensures piece c.last_line-rest.result.now c.last_line-rest.ensures c.if-rest-piece.true in
    c.in_ok-extend_last.ensures.held ∙ ap (λ (k : Keeping). take most_held (k.held ++ piece)) c.drop_read.ensures ∙ held_on c.definitions_agree.ensures f piece c.args.self.now.held lacks was

pub returns-clause-held : goal.returns-clause-held
returns-clause-held c = λ f was.
    let s = lines_first c.definitions_agree.ensures c.args.piece.now c.last_line-rest.result.now c.split_at.result.0.now c.split_at.result.1.now c.last_line-rest.ensures c.if-rest-piece.false c.split_at.ensures.front c.split_at.ensures.back in
    c.in_ok-end_line.ensures.held ∙ held_end c.definitions_agree.ensures f c.args.piece.now c.split_at.result.0.now c.split_at.result.1.now s

pub returns-then-rest-piece-clause-alike : goal.returns-then-rest-piece-clause-alike
returns-then-rest-piece-clause-alike c = (rw c.drop_read.ensures at c.in_ok-extend_last.ensures.alike)

pub returns-then-rest-piece-clause-read : goal.returns-then-rest-piece-clause-read
returns-then-rest-piece-clause-read c = c.in_ok-extend_last.ensures.read ∙ ap (λ (k : Keeping). k.read) c.drop_read.ensures

pub returns-clause-read : goal.returns-clause-read
returns-clause-read c = c.in_ok-end_line.ensures.read ∙ ap (λ (k : Keeping). k.read) c.drop_read.ensures
