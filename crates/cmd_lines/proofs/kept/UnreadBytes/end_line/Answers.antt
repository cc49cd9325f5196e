-- Why `UnreadBytes::end_line` keeps its contract.
use Rattle.std.proofs.Common.{◌≡◌, ◌+◌, ◌++◌, ◌∙◌, arith, length, length-append, take, drop, ap}
use Rattle.cmd_lines.specs.Unfinished.{most_held, in_place}
use Rattle.cmd_lines.proofs.KeptLaws.{drop_ended, drop_front, kept_ended, end_alike, end_few}
use Rattle.cmd_lines.proofs.kept.UnreadBytes.end_line.Goals as goal

pub overflow_sub-self : goal.overflow_sub-self
overflow_sub-self c =
    let x = c.self.inside in
    let before = (x.buffer.items ++ in_place x.lost) ++ c.args.ended.now in
    omega (arith, c.len.ensures, ap length c.in_ok-put_ended.ensures.ok ∙ length-append before c.cut_at-lost.result.0.now)

pub invariant_of-self-2 : goal.invariant_of-self-2
invariant_of-self-2 c =
    let x = c.self.inside in
    let i = c.self.invariant in
    let items = x.buffer.items in
    let new = c.put_ended.new.buffer.items in
    let front = c.cut_at-lost.result.0.now in
    let rest = c.args.rest.now in
    let before = (items ++ in_place x.lost) ++ c.args.ended.now in
    let bytes = drop_ended items (in_place x.lost) c.args.ended.now new front (take most_held rest) x.start c.in_ok-put_ended.ensures.ok c.cut_at-lost.ensures.front i.1 in
    let long : c.len.result ≡ length new = omega (arith, c.len.ensures) in
    let held = drop_front before new front c.len.result c.in_ok-put_ended.ensures.ok long ∙ c.cut_at-lost.ensures.front in
    let len : length new ≡ length before + length front = ap length c.in_ok-put_ended.ensures.ok ∙ length-append before front in (
      rw (bytes, held, c.cut_at-lost.ensures.lost) (kept_ended c.definitions_agree.ensures (drop x.start items ++ in_place x.lost) c.args.ended.now c.requires.ended.0 rest c.requires.ended.1 c.requires.one),
      omega (arith, i.1, len, length-append (items ++ in_place x.lost) c.args.ended.now, length-append items (in_place x.lost)),
      omega (arith, len, c.len.ensures),
    )

pub returns-clause-alike : goal.returns-clause-alike
returns-clause-alike c =
    let x = c.self.inside in
    let items = x.buffer.items in
    let rest = c.args.rest.now in
    let bytes = drop_ended items (in_place x.lost) c.args.ended.now c.put_ended.new.buffer.items c.cut_at-lost.result.0.now (take most_held rest) x.start c.in_ok-put_ended.ensures.ok c.cut_at-lost.ensures.front c.self.invariant.1 in
    rw (← c.self.view_is, bytes, c.cut_at-lost.ensures.lost) (end_alike c.definitions_agree.ensures (drop x.start items ++ in_place x.lost) c.args.ended.now c.requires.ended.0 rest c.requires.ended.1 c.requires.one)

pub returns-clause-few : goal.returns-clause-few
returns-clause-few c =
    let x = c.self.inside in
    let items = x.buffer.items in
    let rest = c.args.rest.now in
    let bytes = drop_ended items (in_place x.lost) c.args.ended.now c.put_ended.new.buffer.items c.cut_at-lost.result.0.now (take most_held rest) x.start c.in_ok-put_ended.ensures.ok c.cut_at-lost.ensures.front c.self.invariant.1 in
    rw (← c.self.view_is, bytes, c.cut_at-lost.ensures.lost) (end_few c.definitions_agree.ensures (drop x.start items ++ in_place x.lost) c.args.ended.now rest)

pub returns-clause-held : goal.returns-clause-held
returns-clause-held c =
    let x = c.self.inside in
    let new = c.put_ended.new.buffer.items in
    let before = (x.buffer.items ++ in_place x.lost) ++ c.args.ended.now in
    let long : c.len.result ≡ length new = omega (arith, c.len.ensures) in
    drop_front before new c.cut_at-lost.result.0.now c.len.result c.in_ok-put_ended.ensures.ok long ∙ c.cut_at-lost.ensures.front
