use Rattle.std.proofs.Common.{arith, rules}
use Rattle.mon_engine.proofs.state.State.send_custom.Goals as goal

pub facts-requires-clause-host : goal.facts-requires-clause-host
facts-requires-clause-host c = (let host = (c.requires.sound.objects _ _ c.found-found.ensures.spec).host_stands.within in omega (arith, host, c.requires.tellable.objects))

pub returns-in-None : goal.returns-in-None
unfolding Rattle.mon_engine.specs.Notices.after_custom Rattle.mon_engine.specs.Notices.custom_notice
returns-in-None c = search rules
