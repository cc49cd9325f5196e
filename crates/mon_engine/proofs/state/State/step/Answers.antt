use Rattle.std.proofs.Common.{◌≡◌, ◌+◌, length, ap, sym, ◌∙◌, subst, arith, ℕ}
use Rattle.mon_engine.specs.declared.outcome.Outcome.{Outcome}
use Rattle.mon_engine.specs.Ends.{owing}
use Rattle.mon_engine.specs.Step.{effect, stood}
use Rattle.mon_engine.specs.Wakes.{Covers, IsQuiet}
use Rattle.mon_engine.specs.World.{World}
use Rattle.mon_engine.specs.Sound.{IsWorldAt, ever, raised, IsWorld}
use Rattle.mon_engine.specs.contracts.state.State.{the_view}
use Rattle.mon_engine.proofs.SoundLemmas.{acted_sound, found_sound, stood_sound}
use Rattle.mon_engine.proofs.PartLemmas.{tellable, timely}
use Rattle.mon_engine.proofs.StepLemmas.{acted_left, stood_grows, quiet_owing, step_is, stepped}
use Rattle.mon_engine.proofs.WakeLemmas.{quiet_entry}
use Rattle.mon_engine.proofs.state.State.step.Goals as goal

pub advance-requires : goal.advance-requires
advance-requires c = timely c.args.inventory.now (ever c.args.self.now) (raised c.args.self.now) c.args.self.now c.requires.world

pub apply_command-requires : goal.apply_command-requires
apply_command-requires c =
    let clock : c.self.inside.clock ≡ c.args.self.now.clock = ap (λ (w : World). w.clock) c.self.view_is in
    record { sound = c.requires.sound; world = found_sound c.args.inventory.now c.args.self.now c.advance.new.self c.max-t.result c.requires.world (omega arith) c.in_ok-advance.ensures }

pub touched-by_act-requires-clause-tellable : goal.touched-by_act-requires-clause-tellable
touched-by_act-requires-clause-tellable c =
    let clock : c.self.inside.clock ≡ c.args.self.now.clock = ap (λ (w : World). w.clock) c.self.view_is in
    let world = found_sound c.args.inventory.now c.args.self.now c.advance.new.self c.max-t.result c.requires.world (omega arith) c.in_ok-advance.ensures in
    tellable c.args.inventory.now (ever c.advance.new.self) (raised c.advance.new.self) c.advance.new.self world

pub tell_what_stands-requires-clause-quiet : goal.tell_what_stands-requires-clause-quiet
tell_what_stands-requires-clause-quiet c =
    let clock : c.self.inside.clock ≡ c.args.self.now.clock = ap (λ (w : World). w.clock) c.self.view_is in
    let b : World = the_view c.self-2.inside in
    let left : (effect c.args.inventory.now c.advance.new.self c.args.entry.now).0 ≡ b = ap (λ (p : World × Outcome). p.0) c.in_ok-outcome.ensures.ok ∙ sym c.self-2.view_is in
    quiet_entry c.law_of_the_clock.ensures.each c.args.inventory.now c.args.self.now c.advance.new.self b c.advance-2.new.self c.max-t.result (b.entries + 1) c.is_due-was_due.result c.is_due-is_due.result c.touched-by_act.result c.unless_due-touched.result
    c.args.quiet.now c.requires.quiet (omega (arith, clock)) c.is_due-was_due.ensures c.in_ok-advance.ensures
    (subst (λ (x : World). Covers c.args.inventory.now c.advance.new.self x c.touched-by_act.result) left c.touched-by_act.ensures.covers)
    c.is_due-is_due.ensures c.in_ok-advance-2.ensures c.unless_due-touched.ensures

pub tell_what_stands-requires-clause-tellable : goal.tell_what_stands-requires-clause-tellable
tell_what_stands-requires-clause-tellable c =
    (let clock : c.self.inside.clock ≡ c.args.self.now.clock = ap (λ (w : World). w.clock) c.self.view_is in
    tellable c.args.inventory.now (ever c.args.self.now + 1) (raised c.args.self.now + 1) c.advance-2.new.self (acted_sound c.args.inventory.now c.args.self.now c.advance.new.self c.apply_command.new.self (the_view c.self-2.inside) c.advance-2.new.self c.max-t.result c.requires.world c.requires.room (omega (arith, clock)) c.in_ok-advance.ensures c.in_ok-outcome.ensures.follows c.self-2.view_is c.in_ok-advance-2.ensures).0)

pub tell_what_stands-requires-clause-owing : goal.tell_what_stands-requires-clause-owing
tell_what_stands-requires-clause-owing c =
    (let clock : c.self.inside.clock ≡ c.args.self.now.clock = ap (λ (w : World). w.clock) c.self.view_is in
    (acted_sound c.args.inventory.now c.args.self.now c.advance.new.self c.apply_command.new.self (the_view c.self-2.inside) c.advance-2.new.self c.max-t.result c.requires.world c.requires.room (omega (arith, clock)) c.in_ok-advance.ensures c.in_ok-outcome.ensures.follows c.self-2.view_is c.in_ok-advance-2.ensures).0.owing)

pub tell_what_stands-requires-clause-next : goal.tell_what_stands-requires-clause-next
tell_what_stands-requires-clause-next c = λ k o at.
    (let clock : c.self.inside.clock ≡ c.args.self.now.clock = ap (λ (w : World). w.clock) c.self.view_is in
    let world = (acted_sound c.args.inventory.now c.args.self.now c.advance.new.self c.apply_command.new.self (the_view c.self-2.inside) c.advance-2.new.self c.max-t.result c.requires.world c.requires.room (omega (arith, clock)) c.in_ok-advance.ensures c.in_ok-outcome.ensures.follows c.self-2.view_is c.in_ok-advance-2.ensures).0 in
    let few = world.states.numbers k o at in
    let limit = c.requires.world.limit in
    let earlier = c.requires.world.earlier in
    omega (arith, few, limit, earlier))

pub note_owed-requires-clause-from : goal.note_owed-requires-clause-from
note_owed-requires-clause-from c =
    (let clock : c.self.inside.clock ≡ c.args.self.now.clock = ap (λ (w : World). w.clock) c.self.view_is in
    let is = acted_left c.args.inventory.now c.args.self.now c.advance.new.self (the_view c.self-2.inside) c.advance-2.new.self c.args.entry.now c.max-t.result (omega (arith, clock)) c.in_ok-advance.ensures (ap (λ (p : World × Outcome). p.0) c.in_ok-outcome.ensures.ok ∙ sym c.self-2.view_is) c.in_ok-advance-2.ensures in
    let more = stood_grows c.args.inventory.now c.args.self.now c.args.entry.now in
    let left = ap (λ (x : World). length (stood c.args.inventory.now x).notices) is ∙ ap (λ (x : World). length x.notices) (sym c.in_ok-tell_what_stands.ensures.told) in
    (let before = ap (λ (w : World). length w.notices) c.self.view_is in let told = c.len-told.ensures in omega (arith, more, left, before, told)))

pub note_owed-requires-clause-known : goal.note_owed-requires-clause-known
note_owed-requires-clause-known c =
    (let clock : c.self.inside.clock ≡ c.args.self.now.clock = ap (λ (w : World). w.clock) c.self.view_is in
    (stood_sound c.args.inventory.now (ever c.args.self.now + 1) (raised c.args.self.now + 1) c.advance-2.new.self c.tell_what_stands.new.self (acted_sound c.args.inventory.now c.args.self.now c.advance.new.self c.apply_command.new.self (the_view c.self-2.inside) c.advance-2.new.self c.max-t.result c.requires.world c.requires.room (omega (arith, clock)) c.in_ok-advance.ensures c.in_ok-outcome.ensures.follows c.self-2.view_is c.in_ok-advance-2.ensures).0 c.in_ok-tell_what_stands.ensures.told).notices)

pub note_owed-requires-clause-owing : goal.note_owed-requires-clause-owing
note_owed-requires-clause-owing c =
    (let clock : c.self.inside.clock ≡ c.args.self.now.clock = ap (λ (w : World). w.clock) c.self.view_is in
    (stood_sound c.args.inventory.now (ever c.args.self.now + 1) (raised c.args.self.now + 1) c.advance-2.new.self c.tell_what_stands.new.self (acted_sound c.args.inventory.now c.args.self.now c.advance.new.self c.apply_command.new.self (the_view c.self-2.inside) c.advance-2.new.self c.max-t.result c.requires.world c.requires.room (omega (arith, clock)) c.in_ok-advance.ensures c.in_ok-outcome.ensures.follows c.self-2.view_is c.in_ok-advance-2.ensures).0 c.in_ok-tell_what_stands.ensures.told).owing)

pub returns-clause-world : goal.returns-clause-world
returns-clause-world c =
    (let clock : c.self.inside.clock ≡ c.args.self.now.clock = ap (λ (w : World). w.clock) c.self.view_is in
    let act = acted_left c.args.inventory.now c.args.self.now c.advance.new.self (the_view c.self-2.inside) c.advance-2.new.self c.args.entry.now c.max-t.result (omega (arith, clock)) c.in_ok-advance.ensures (ap (λ (p : World × Outcome). p.0) c.in_ok-outcome.ensures.ok ∙ sym c.self-2.view_is) c.in_ok-advance-2.ensures in
    let before = ap (λ (w : World). length w.notices) c.self.view_is in
    let told = c.len-told.ensures in
    let many : c.len-told.result ≡ length c.args.self.now.notices = omega (arith, before, told) in
    subst (IsWorld c.args.inventory.now) (sym (step_is c.args.inventory.now c.args.self.now c.advance-2.new.self c.tell_what_stands.new.self c.note_owed.new.self c.args.entry.now c.len-told.result act c.in_ok-tell_what_stands.ensures.told many c.in_ok-note_owed.ensures)) (stepped c.law_of_the_clock.ensures.each c.law_of_the_clock.ensures.done c.args.inventory.now c.args.self.now c.args.entry.now (subst (λ (x : World). IsWorldAt c.args.inventory.now (ever c.args.self.now + 1) (raised c.args.self.now + 1) x × (x.entries ≡ c.args.self.now.entries + 1) × (x.before ≡ c.args.self.now.before)) (sym act) (acted_sound c.args.inventory.now c.args.self.now c.advance.new.self c.apply_command.new.self (the_view c.self-2.inside) c.advance-2.new.self c.max-t.result c.requires.world c.requires.room (omega (arith, clock)) c.in_ok-advance.ensures c.in_ok-outcome.ensures.follows c.self-2.view_is c.in_ok-advance-2.ensures))).0)

pub returns-clause-entries : goal.returns-clause-entries
returns-clause-entries c =
    (let clock : c.self.inside.clock ≡ c.args.self.now.clock = ap (λ (w : World). w.clock) c.self.view_is in
    let act = acted_left c.args.inventory.now c.args.self.now c.advance.new.self (the_view c.self-2.inside) c.advance-2.new.self c.args.entry.now c.max-t.result (omega (arith, clock)) c.in_ok-advance.ensures (ap (λ (p : World × Outcome). p.0) c.in_ok-outcome.ensures.ok ∙ sym c.self-2.view_is) c.in_ok-advance-2.ensures in
    let before = ap (λ (w : World). length w.notices) c.self.view_is in
    let told = c.len-told.ensures in
    let many : c.len-told.result ≡ length c.args.self.now.notices = omega (arith, before, told) in
    subst (λ (x : World). x.entries ≡ c.args.self.now.entries + 1) (sym (step_is c.args.inventory.now c.args.self.now c.advance-2.new.self c.tell_what_stands.new.self c.note_owed.new.self c.args.entry.now c.len-told.result act c.in_ok-tell_what_stands.ensures.told many c.in_ok-note_owed.ensures)) (stepped c.law_of_the_clock.ensures.each c.law_of_the_clock.ensures.done c.args.inventory.now c.args.self.now c.args.entry.now (subst (λ (x : World). IsWorldAt c.args.inventory.now (ever c.args.self.now + 1) (raised c.args.self.now + 1) x × (x.entries ≡ c.args.self.now.entries + 1) × (x.before ≡ c.args.self.now.before)) (sym act) (acted_sound c.args.inventory.now c.args.self.now c.advance.new.self c.apply_command.new.self (the_view c.self-2.inside) c.advance-2.new.self c.max-t.result c.requires.world c.requires.room (omega (arith, clock)) c.in_ok-advance.ensures c.in_ok-outcome.ensures.follows c.self-2.view_is c.in_ok-advance-2.ensures))).1)

pub returns-clause-quiet : goal.returns-clause-quiet
returns-clause-quiet c =
    (let clock : c.self.inside.clock ≡ c.args.self.now.clock = ap (λ (w : World). w.clock) c.self.view_is in
    let act = acted_left c.args.inventory.now c.args.self.now c.advance.new.self (the_view c.self-2.inside) c.advance-2.new.self c.args.entry.now c.max-t.result (omega (arith, clock)) c.in_ok-advance.ensures (ap (λ (p : World × Outcome). p.0) c.in_ok-outcome.ensures.ok ∙ sym c.self-2.view_is) c.in_ok-advance-2.ensures in
    let before = ap (λ (w : World). length w.notices) c.self.view_is in
    let told = c.len-told.ensures in
    let many : c.len-told.result ≡ length c.args.self.now.notices = omega (arith, before, told) in
    subst (λ (x : World). IsQuiet c.args.inventory.now x c.tell_what_stands.new.quiet) (sym (c.in_ok-note_owed.ensures ∙ ap (λ (k : ℕ). owing c.args.inventory.now k c.tell_what_stands.new.self) many))
    (quiet_owing c.law_of_the_clock.ensures.each c.law_of_the_clock.ensures.done c.args.inventory.now c.args.self.now c.args.entry.now c.tell_what_stands.new.self c.tell_what_stands.new.quiet (c.in_ok-tell_what_stands.ensures.told ∙ ap (stood c.args.inventory.now) (sym act)) c.in_ok-tell_what_stands.ensures.quiet))
