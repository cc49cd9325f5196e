use Rattle.std.proofs.Common.{◌∙◌}
use Rattle.mon_engine.specs.Objects.{with_setting}
use Rattle.mon_engine.proofs.ListLemmas.{each_turn, each_last, length-changed_at}
use Rattle.mon_engine.proofs.objects.Objects.set_each.Goals as goal

pub loop-object-preserved : goal.loop-object-preserved
loop-object-preserved c = record {
  rest = each_turn c.loop-object.self c.set.new.self _ c.args.objects.now c.loop-object.object-index _ (with_setting c.args.setting) c.loop-object-test.true c.set.ensures c.loop-object.invariant.rest;
  as_many = (let is = c.set.ensures in rw is (length-changed_at c.loop-object.self _ (with_setting c.args.setting))) ∙ c.loop-object.invariant.as_many;
}

pub returns : goal.returns
returns c = each_last c.loop-object.self _ c.args.objects.now c.loop-object.object-index (with_setting c.args.setting) c.loop-object-test.false c.loop-object.invariant.rest
