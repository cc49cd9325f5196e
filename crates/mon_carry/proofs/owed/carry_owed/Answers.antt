use Rattle.std.proofs.Common.{◌≡◌, List, true, false, sym, ◌∙◌, subst}
use Rattle.std.specs.Prelude.{IfOk}
use Rattle.std.proofs.lemmas.Bool.{true≢false}
use Rattle.mon_engine.specs.declared.ends.Owed.{Owed}
use Rattle.mon_engine.specs.Owed.{presumed}
use Rattle.mon_carry.specs.Carried.{owed_carried_at, owed_under}
use Rattle.mon_carry.proofs.ListLemmas.{indexed_more}
use Rattle.mon_carry.proofs.OwedLemmas.{presumed_under}
use Rattle.mon_carry.proofs.owed.carry_owed.Goals as goal
use Rattle.mon_carry.proofs.owed.carry_owed.Goals.{then-not-recovers_the_told-via-then-not-recovers_the_told, then-not-recovers_the_told-via-else-not-recovers_the_told+then-not-recovers_the_told-2}

pub returns-then-not-recovers_the_told : goal.returns-then-not-recovers_the_told
returns-then-not-recovers_the_told c =
    let old = c.args.old.now in
    let new = c.args.new.now in
    let os = c.args.objects.now in
    let owed = c.args.owed.now in
    let is : presumed new os ≡ owed_under old new os owed = elim c.then-not-recovers_the_told.branch [
      | then-not-recovers_the_told-via-then-not-recovers_the_told w ↦
          presumed_under old new os owed false (sym c.recovers_the_told.ensures ∙ w.if-not-recovers_the_told.true) (λ e. absurd (true≢false (sym e)))
      | then-not-recovers_the_told-via-else-not-recovers_the_told+then-not-recovers_the_told-2 w ↦
          presumed_under old new os owed true (sym c.recovers_the_told.ensures ∙ w.if-not-recovers_the_told.false) (λ e. sym w.recovers_the_told-else-not-recovers_the_told.ensures ∙ w.if-not-recovers_the_told-2.true)
    ] in
    subst (λ (xs : List Owed). IfOk c.presumed_owed.result (λ v. v.items ≡ xs)) is c.presumed_owed.ensures

pub loop-object-preserved : goal.loop-object-preserved
loop-object-preserved c =
    indexed_more (owed_carried_at c.args.old.now c.args.new.now c.args.owed.now) c.loop-object.object _ _ c.in_ok-owed_carried_at.field-0 c.loop-object.invariant c.in_ok-owed_carried_at.ensures c.in_ok-push.ensures.items
