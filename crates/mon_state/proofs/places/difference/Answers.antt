use Rattle.std.proofs.Common.{◌<◌, ◌≤◌, length, min, arith}
use Rattle.mon_state.proofs.PlaceLemmas.{same_here, other_here, end_here}
use Rattle.mon_state.proofs.places.difference.Goals as goal

pub returns-then-text-place : goal.returns-then-text-place
returns-then-text-place c =
    let test = c.loop-place-test.true in
    let shorter = c.min-shorter.ensures in
    let low : c.loop-place.place < length c.args.text.now = omega (arith, test, shorter) in
    let high : c.loop-place.place < length c.args.other.now = omega (arith, test, shorter) in
    let so_far = c.loop-place.invariant in
    omega (arith, so_far, other_here c.args.text.now c.args.other.now c.loop-place.place low high c.if-text-place.true)

pub loop-place-preserved : goal.loop-place-preserved
loop-place-preserved c =
    let test = c.loop-place-test.true in
    let shorter = c.min-shorter.ensures in
    let low : c.loop-place.place < length c.args.text.now = omega (arith, test, shorter) in
    let high : c.loop-place.place < length c.args.other.now = omega (arith, test, shorter) in
    let so_far = c.loop-place.invariant in
    omega (arith, so_far, same_here c.args.text.now c.args.other.now c.loop-place.place low high c.if-text-place.false)

pub returns : goal.returns
returns c =
    let test = c.loop-place-test.false in
    let shorter = c.min-shorter.ensures in
    let ends : min (length c.args.text.now) (length c.args.other.now) ≤ c.loop-place.place = omega (arith, test, shorter) in
    let within = c.loop-place.auto.place-end in
    let so_far = c.loop-place.invariant in
    omega (arith, so_far, within, test, end_here c.args.text.now c.args.other.now c.loop-place.place ends)
