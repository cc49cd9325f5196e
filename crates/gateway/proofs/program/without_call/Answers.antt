use Rattle.std.proofs.Common.{◌≡◌, inl}
use Rattle.cmd_answer.specs.declared.stop.FilesStop.TheVariants.{Other}
use Rattle.cmd_answer.specs.declared.stop.Stop.TheVariants.{Usage, Output}
use Rattle.gateway.proofs.ServeLemmas.{stops_said}
use Rattle.gateway.proofs.program.without_call.Goals as goal

pub returns-in-Usage : goal.returns-in-Usage
returns-in-Usage g c = λ output.
    inl (stops_said _ (λ text. ⊥) (Other Usage) c.misused.result output _ _ (λ is. (let clash : Other Usage ≡ Other Output = is in cc)) c.misused.ensures.status
    (rw c.usage_of.ensures at c.misused.ensures.text) (rw c.usage_of.ensures at c.misused.ensures.part))
