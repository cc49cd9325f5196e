use Rattle.std.proofs.Common.{◌≡◌, ℕ, ◌-◌, length, ap, sym, ◌∙◌, subst, arith, rules}
use Rattle.mon_inventory.specs.Configuration.{Configuration}
use Rattle.mon_engine.specs.Saved.{IsSaved}
use Rattle.mon_engine.specs.World.{World}
use Rattle.mon_state.specs.State.{text_of}
use Rattle.mon_state.specs.Upgrade.{upgrade}
use Rattle.mon_state.specs.Cursors.{Place}
use Rattle.mon_state.specs.Faults.{line_at}
use Rattle.mon_state.proofs.FaultLemmas.{field_fault}
use Rattle.mon_state.proofs.FitLemmas.{counted_fits, misfit_fault}
use Rattle.mon_state.proofs.AnswerLemmas.{is_state_text, only_memory, read_fails, rest_is, goes_on_saved, text_is, goes_out}
use Rattle.mon_state.proofs.reading.read_behind.Goals as goal

pub returns-in-Err-clause-back : goal.returns-in-Err-clause-back
returns-in-Err-clause-back c = λ w h is. read_fails c.args.version c.args.inventory c.args.text.now c.args.rest.now c.new-cursor.result.rest c.read_parts.new.cursor.last c.in-Err.cause w c.object_count-objects.ensures.sound c.requires (ap (λ (p : Place). p.rest) c.new-cursor.ensures) c.in-Err.ensures.read h is

pub returns-in-Err-Misfit-clause-back : goal.returns-in-Err-Misfit-clause-back
returns-in-Err-Misfit-clause-back c = λ w h is.
    (let parts = rest_is c.args.version c.args.inventory c.args.text.now c.args.rest.now c.new-cursor.result.rest c.in-Ok.parts w c.object_count-objects.ensures.sound c.requires (ap (λ (p : Place). p.rest) c.new-cursor.ensures) c.in-Ok.ensures.read h is in
    absurd (c.in-Err-Misfit.ensures.misfit (λ e. (let no = c.in-Err-Misfit.field-0-is in absurd (cc))) (subst (IsSaved c.args.inventory) (sym parts) (goes_on_saved c.args.inventory w h))))

pub returns-in_err-compare_with_text-clause-back : goal.returns-in_err-compare_with_text-clause-back
returns-in_err-compare_with_text-clause-back c = λ w h is.
    (let parts = rest_is c.args.version c.args.inventory c.args.text.now c.args.rest.now c.new-cursor.result.rest c.in-Ok.parts w c.object_count-objects.ensures.sound c.requires (ap (λ (p : Place). p.rest) c.new-cursor.ensures) c.in-Ok.ensures.read h is in
    goes_out _ c.from_residual.result c.in_err-compare_with_text.field-0.0 c.from_residual.ensures.1
    (only_memory _ (λ other. c.in_err-compare_with_text.ensures.err other (text_is c.args.version c.args.inventory _ c.args.text.now c.args.rest.now w c.in-Ok.parts c.in-Ok-resume.monitor.world c.requires c.in-Ok-resume.ensures.inventory c.in-Ok-resume.ensures.world parts is))))

pub returns-clause-back : goal.returns-clause-back
returns-clause-back c = λ w h is. c.in-Ok-resume.ensures.world ∙ rest_is c.args.version c.args.inventory c.args.text.now c.args.rest.now c.new-cursor.result.rest c.in-Ok.parts w c.object_count-objects.ensures.sound c.requires (ap (λ (p : Place). p.rest) c.new-cursor.ensures) c.in-Ok.ensures.read h is

pub returns-in-Err-clause-first : goal.returns-in-Err-clause-first
returns-in-Err-clause-first c =
    let text = c.args.text.now in
    let place = c.saturating_sub-read.ensures ∙ ap (λ (n : ℕ). length text - n) c.last_left.ensures in
    field_fault c.args.version c.args.inventory text c.args.rest.now c.new-cursor.result.rest c.read_parts.new.cursor.last _ c.requires (ap (λ (p : Place). p.rest) c.new-cursor.ensures) c.in-Err.ensures.read (c.line_at.ensures ∙ ap (line_at text) place)

pub returns-clause-text : goal.returns-clause-text
returns-clause-text c =
    is_state_text c.args.version c.args.inventory c.args.text.now c.in-Ok-resume.monitor.world
    (c.in_ok-compare_with_text.ensures.ok ∙ ap (λ (k : Configuration). text_of c.args.version k c.in-Ok-resume.monitor.world) c.in-Ok-resume.ensures.inventory)
    (λ one. subst (λ (w : World). upgrade c.args.inventory w ≡ w) (sym c.in-Ok-resume.ensures.world) (c.in-Ok.ensures.first one))

pub line_of-requires : goal.line_of-requires
line_of-requires c =
    let objects = c.object_count-objects.type_inv in
    let contacts = c.contact_count-contacts.type_inv in
    counted_fits c.args.inventory c.in-Ok.parts c.in-Err-Misfit.field-0 c.in-Err-Misfit.misfit _ (record { objects = c.object_count-objects.result; contacts = c.contact_count-contacts.result; comments = c.len.result; downtimes = c.len-2.result }) (omega (arith, objects)) (omega (arith, contacts)) (record {
      is = c.in-Err-Misfit.field-0-is;
      first = c.in-Err-Misfit.ensures.first;
      objects_are = c.object_count-objects.ensures.count;
      contacts_are = c.contact_count-contacts.ensures.count;
      comments_are = search rules;
      downtimes_are = search rules;
      named_is = c.in-Err-Misfit.misfit-is;
    })

pub returns-in-Err-Misfit-clause-first : goal.returns-in-Err-Misfit-clause-first
returns-in-Err-Misfit-clause-first c =
    let lost = c.in-Err-Misfit.ensures.misfit (λ e. (let no = c.in-Err-Misfit.field-0-is in absurd (cc))) in
    misfit_fault c.args.version c.args.inventory c.args.text.now c.args.rest.now c.new-cursor.result.rest c.in-Ok.parts c.in-Err-Misfit.field-0 c.in-Err-Misfit.misfit _
    (record { objects = c.object_count-objects.result; contacts = c.contact_count-contacts.result; comments = c.len.result; downtimes = c.len-2.result })
    c.line_of.result c.requires (ap (λ (p : Place). p.rest) c.new-cursor.ensures) c.in-Ok.ensures.read lost
    (record {
      is = c.in-Err-Misfit.field-0-is;
      first = c.in-Err-Misfit.ensures.first;
      objects_are = c.object_count-objects.ensures.count;
      contacts_are = c.contact_count-contacts.ensures.count;
      comments_are = search rules;
      downtimes_are = search rules;
      named_is = c.in-Err-Misfit.misfit-is;
    })
    c.line_of.ensures
