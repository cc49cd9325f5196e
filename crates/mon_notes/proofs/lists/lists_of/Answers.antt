use Rattle.std.proofs.Common.{◌≡◌, take, arith}
use Rattle.std.proofs.lemmas.List.{take_all}
use Rattle.mon_notes.proofs.ListedLemmas.{listed_kept}
use Rattle.mon_notes.proofs.RestoreLemmas.{take_ascending, next_listed}
use Rattle.mon_notes.proofs.lists.lists_of.Goals as goal

pub add-requires : goal.add-requires
add-requires c = take_ascending 0 c.loop-place.place c.args.comments.now c.requires

pub loop-place-preserved : goal.loop-place-preserved
loop-place-preserved c =
    let kept = listed_kept (take c.loop-place.place c.args.comments.now) c.loop-place.lists c.add.new.self c.add.ensures.kept c.loop-place.invariant in
    next_listed c.add.new.self c.args.comments.now c.loop-place.place c.index-comments-place.result c.index-comments-place.result c.loop-place-test.true c.index-comments-place.is kept c.in_ok-add.ensures.ok

pub returns : goal.returns
returns c =
    let all : take c.loop-place.place c.args.comments.now ≡ c.args.comments.now = take_all c.loop-place.place c.args.comments.now (omega (arith, c.loop-place-test.false)) in
    rw all at c.loop-place.invariant
