use Rattle.std.proofs.Common.{◌≡◌, inl, inr, Err, refl, subst}
use Rattle.mon_state.specs.declared.fault.StateCause.{StateCause}
use Rattle.mon_state.specs.Reading.{version_at}
use Rattle.mon_state.proofs.VersionLemmas.{unknown_is, unknown_from, same_fault, known_not}
use Rattle.mon_state.proofs.AnswerLemmas.{heading_reads}
use Rattle.mon_state.proofs.reading.read_state.Goals as goal

pub returns-in-Ok-clause-unknown : goal.returns-in-Ok-clause-unknown
returns-in-Ok-clause-unknown c = λ u. absurd (known_not c.args.text.now _ c.in-Ok.ensures u)

pub returns-in-Err-clause-version : goal.returns-in-Err-clause-version
returns-in-Err-clause-version c = λ is. unknown_from c.args.text.now c.in-Err.ensures.0 (subst (λ (e : StateCause). version_at c.args.text.now ≡ Err (e, c.in-Err.ensures.0)) is c.in-Err.ensures.1)

pub returns-in-Err-clause-unknown : goal.returns-in-Err-clause-unknown
returns-in-Err-clause-unknown c = λ u. (let unknown = unknown_is c.args.text.now u in same_fault c.args.text.now c.in-Err.ensures.0 unknown.0 c.in-Err.cause _ c.in-Err.ensures.1 unknown.1)

pub returns-in-Err-clause-back : goal.returns-in-Err-clause-back
returns-in-Err-clause-back c = λ w h is. absurd (heading_reads c.args.inventory c.args.text.now (c.in-Err.cause, c.in-Err.ensures.0) w is c.in-Err.ensures.1)

pub returns-in-Err-clause-first : goal.returns-in-Err-clause-first
returns-in-Err-clause-first c = inr (inl (c.in-Err.ensures.0, c.in-Err.ensures.1, refl))
