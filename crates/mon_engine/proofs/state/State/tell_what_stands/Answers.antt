use Rattle.std.proofs.Common.{◌≡◌, min, Some, ap, sym, ◌∙◌, subst, arith, slice_get}
use Rattle.mon_engine.specs.World.{World}
use Rattle.mon_engine.specs.declared.by_clock.Touched.{Touched}
use Rattle.mon_engine.specs.Wakes.{IsQuiet, IsQuietBut, IsTouchable, IsIdle}
use Rattle.mon_engine.proofs.WakeLemmas.{never_stood, nothing_to_tell, one_to_tell, quiet_all, quiet_but_one, stood_idle}
use Rattle.mon_engine.proofs.state.State.tell_what_stands.Goals as goal
use Rattle.mon_engine.specs.ByClock.{told_by_clock}
use Rattle.mon_engine.proofs.SoundLemmas.{one_tellable, one_owing, ends_tellable, ends_owing, clock_tellable, clock_owing}
use Rattle.mon_engine.proofs.EndLemmas.{ends_leave}
use Rattle.mon_engine.specs.Sound.{IsTellable, IsOwing}
use Rattle.mon_engine.specs.Ends.{told_ends}

pub returns-in-None-clause-told : goal.returns-in-None-clause-told
returns-in-None-clause-told c = never_stood c.args.inventory.now c.args.self.now (subst (IsQuietBut c.args.inventory.now c.args.self.now c.args.touched) c.in-None.is c.requires.quiet)

pub returns-in-Nothing-clause-told : goal.returns-in-Nothing-clause-told
returns-in-Nothing-clause-told c =
    let clock : c.self.inside.clock ≡ c.args.self.now.clock = ap (λ (w : World). w.clock) c.self.view_is in
    let early = c.if-self-until.true in
    nothing_to_tell c.args.inventory.now c.args.self.now c.in-Some.until
    (subst (λ (t : Touched). IsQuietBut c.args.inventory.now c.args.self.now t (Some c.in-Some.until)) c.in-Nothing.is (c.narrowed.ensures.quiet (Some c.in-Some.until) (subst (IsQuietBut c.args.inventory.now c.args.self.now c.args.touched) c.in-Some.is c.requires.quiet)))
    (omega (arith, clock, early))

pub returns-in-Nothing-clause-quiet : goal.returns-in-Nothing-clause-quiet
returns-in-Nothing-clause-quiet c = subst (IsQuiet c.args.inventory.now c.args.self.now) (sym c.in-Some.is)
    (let quiet = subst (λ (t : Touched). IsQuietBut c.args.inventory.now c.args.self.now t (Some c.in-Some.until)) c.in-Nothing.is (c.narrowed.ensures.quiet (Some c.in-Some.until) (subst (IsQuietBut c.args.inventory.now c.args.self.now c.args.touched) c.in-Some.is c.requires.quiet)) in
    λ k clock from early. quiet k tt clock from early)

pub returns-in-One-clause-told : goal.returns-in-One-clause-told
returns-in-One-clause-told c =
    let clock : c.self.inside.clock ≡ c.args.self.now.clock = ap (λ (w : World). w.clock) c.self.view_is in
    let early = c.if-self-until.true in
    c.in_ok-tell_one-in-One.ensures
    ∙ one_to_tell c.args.inventory.now c.args.self.now c.in-One.object c.in-Some.until (subst (IsTouchable c.args.inventory.now) c.in-One.is c.narrowed.ensures.touchable)
    (subst (λ (t : Touched). IsQuietBut c.args.inventory.now c.args.self.now t (Some c.in-Some.until)) c.in-One.is (c.narrowed.ensures.quiet (Some c.in-Some.until) (subst (IsQuietBut c.args.inventory.now c.args.self.now c.args.touched) c.in-Some.is c.requires.quiet)))
    (omega (arith, clock, early))

pub returns-in-One-clause-quiet : goal.returns-in-One-clause-quiet
returns-in-One-clause-quiet c =
    let clock : c.self.inside.clock ≡ c.args.self.now.clock = ap (λ (w : World). w.clock) c.self.view_is in
    let early = c.if-self-until.true in
    quiet_but_one c.args.inventory.now c.args.self.now c.tell_one.new.self c.in-One.object c.in-Some.until c.min.result
    (subst (λ (t : Touched). IsQuietBut c.args.inventory.now c.args.self.now t (Some c.in-Some.until)) c.in-One.is (c.narrowed.ensures.quiet (Some c.in-Some.until) (subst (IsQuietBut c.args.inventory.now c.args.self.now c.args.touched) c.in-Some.is c.requires.quiet)))
    (omega (arith, clock, early)) (subst (IsTouchable c.args.inventory.now) c.in-One.is c.narrowed.ensures.touchable)
    c.in_ok-tell_one-in-One.ensures (c.min.ensures ∙ ap (min c.in-Some.until) c.wakes.ensures)

pub returns-clause-quiet : goal.returns-clause-quiet
returns-clause-quiet c =
    let told = c.in_ok-tell_problems.ensures ∙ ap (told_by_clock c.args.inventory.now) c.in_ok-tell_ends.ensures in
    quiet_all c.args.inventory.now c.tell_problems.new.self c.first_wake.result
    (λ k. subst (λ (w : World). IsIdle c.args.inventory.now w k) (sym told) (stood_idle c.args.inventory.now c.args.self.now k)) c.first_wake.ensures

pub wakes-requires-clause-tellable : goal.wakes-requires-clause-tellable
wakes-requires-clause-tellable c = subst (IsTellable c.args.inventory.now) (sym c.in_ok-tell_one-in-One.ensures) (one_tellable c.args.inventory.now c.args.self.now c.in-One.object c.requires.tellable)

pub wakes-requires-clause-owing : goal.wakes-requires-clause-owing
wakes-requires-clause-owing c = subst (λ (w : World). IsOwing c.args.inventory.now w.owed) (sym c.in_ok-tell_one-in-One.ensures) (one_owing c.args.inventory.now c.args.self.now c.in-One.object c.requires.owing)

pub tell_problems-requires-clause-tellable : goal.tell_problems-requires-clause-tellable
tell_problems-requires-clause-tellable c = subst (IsTellable c.args.inventory.now) (sym c.in_ok-tell_ends.ensures) (ends_tellable c.args.inventory.now c.args.self.now c.requires.tellable)

pub tell_problems-requires-clause-next : goal.tell_problems-requires-clause-next
tell_problems-requires-clause-next c = λ k o at.
    c.requires.next k o (sym (ap (λ (w : World). slice_get w.objects k) c.in_ok-tell_ends.ensures ∙ ap (λ (w : World). slice_get w.objects k) (ends_leave c.args.inventory.now c.args.self.now)) ∙ at)

pub first_wake-requires-clause-tellable : goal.first_wake-requires-clause-tellable
first_wake-requires-clause-tellable c = subst (IsTellable c.args.inventory.now) (sym (c.in_ok-tell_problems.ensures ∙ ap (told_by_clock c.args.inventory.now) c.in_ok-tell_ends.ensures))
    (clock_tellable c.args.inventory.now (told_ends c.args.inventory.now c.args.self.now) (ends_tellable c.args.inventory.now c.args.self.now c.requires.tellable))

pub first_wake-requires-clause-owing : goal.first_wake-requires-clause-owing
first_wake-requires-clause-owing c = subst (λ (w : World). IsOwing c.args.inventory.now w.owed) (sym (c.in_ok-tell_problems.ensures ∙ ap (told_by_clock c.args.inventory.now) c.in_ok-tell_ends.ensures))
    (clock_owing c.args.inventory.now (told_ends c.args.inventory.now c.args.self.now) (ends_owing c.args.inventory.now c.args.self.now c.requires.owing))
