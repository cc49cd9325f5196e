use Rattle.std.proofs.Common.{◌<◌, arith, length, take, ◌∙◌}
use Rattle.std.proofs.lemmas.List.{take_all}
use Rattle.std.proofs.lemmas.List.Elements.{All-more, All-weaker}
use Rattle.mon_downtime.proofs.rings.Rings.reserve_ends.Goals as goal

pub loop-object-preserved : goal.loop-object-preserved
loop-object-preserved c =
    let w = c.loop-object.invariant in
    let grown = c.reserve_end.ensures.more in
    let all = c.args.objects.now in
    record {
      rings = λ ds out h. c.reserve_end.ensures.rings ds out (w.rings ds out h);
      near = c.reserve_end.ensures.near ∙ w.near;
      more = omega (arith, w.more);
      counted = All-more (λ o. o < length c.reserve_end.new.self.ends.items) all c.loop-object.object-index _ c.loop-object-test.true (All-weaker (λ o. o < length c.loop-object.self.ends.items) (λ o. o < length c.reserve_end.new.self.ends.items) (λ o h. omega arith) (take c.loop-object.object-index all) w.counted) c.in_ok-reserve_end.ensures.ok;
    }

pub returns-in_err-reserve_end-clause-rings : goal.returns-in_err-reserve_end-clause-rings
returns-in_err-reserve_end-clause-rings c = λ ds out h. c.reserve_end.ensures.rings ds out (c.loop-object.invariant.rings ds out h)

pub returns-clause-ok : goal.returns-clause-ok
returns-clause-ok c =
    let all = take_all c.loop-object.object-index c.args.objects.now (omega arith) in
    rw all at c.loop-object.invariant.counted
