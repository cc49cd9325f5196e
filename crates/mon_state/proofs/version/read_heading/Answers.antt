use Rattle.std.proofs.Common.{rules}
use Rattle.mon_state.proofs.version.read_heading.Goals as goal

pub returns-in_default : goal.returns-in_default
unfolding Rattle.mon_state.specs.Reading.version_at Rattle.mon_state.specs.Reading.expect_at Rattle.mon_state.specs.Reading.number_at Rattle.mon_state.specs.Reading.field_at
returns-in_default c = (c.args.text.now, search rules)

pub returns-in_default-behind : goal.returns-in_default-behind
unfolding Rattle.mon_state.specs.Reading.version_at Rattle.mon_state.specs.Reading.expect_at Rattle.mon_state.specs.Reading.number_at Rattle.mon_state.specs.Reading.field_at
returns-in_default-behind c = (c.in-Some.named.now, search rules)

pub returns-in_default-number_of : goal.returns-in_default-number_of
unfolding Rattle.mon_state.specs.Reading.version_at Rattle.mon_state.specs.Reading.expect_at Rattle.mon_state.specs.Reading.number_at Rattle.mon_state.specs.Reading.field_at
returns-in_default-number_of c = (c.in-Some.named.now, search rules)

pub returns-in-None : goal.returns-in-None
unfolding Rattle.mon_state.specs.Reading.version_at Rattle.mon_state.specs.Reading.expect_at Rattle.mon_state.specs.Reading.number_at Rattle.mon_state.specs.Reading.field_at
returns-in-None c = (c.in-Some.named.now, search rules)
