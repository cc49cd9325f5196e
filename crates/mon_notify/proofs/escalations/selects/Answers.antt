use Rattle.mon_notify.proofs.escalations.selects.Goals as goal

pub returns-in-InForce : goal.returns-in-InForce
returns-in-InForce c = rw c.in-InForce.is c.is_in_force.ensures
