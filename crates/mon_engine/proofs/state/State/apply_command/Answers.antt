use Rattle.std.proofs.Common.{rules}
use Rattle.mon_engine.specs.contracts.state.State.{the_view}
use Rattle.mon_engine.proofs.SoundLemmas.{rejected_follows, rejected_same}
use Rattle.mon_engine.proofs.state.State.apply_command.Goals as goal

pub returns-in_ok-push-in-Err-Rejected-clause-follows : goal.returns-in_ok-push-in-Err-Rejected-clause-follows
returns-in_ok-push-in-Err-Rejected-clause-follows c =
    rejected_follows c.args.inventory.now c.args.self.now (the_view c.self.inside) c.attempt.new.self c.push.new.self.items c.requires.world c.self.view_is (rejected_same _ c.in-Err-Rejected.field-0 c.in-Err-Rejected.reason _ _ c.in-Err-Rejected.ensures.acts c.in-Err-Rejected.field-0-is)

pub returns-in_ok-push-in-Err-Rejected-clause-ok : goal.returns-in_ok-push-in-Err-Rejected-clause-ok
returns-in_ok-push-in-Err-Rejected-clause-ok c = search rules
