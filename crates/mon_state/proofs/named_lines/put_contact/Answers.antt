use Rattle.std.proofs.Common.{false}
use Rattle.std.proofs.lemmas.Option.{slice_get-get_or}
use Rattle.mon_state.proofs.named_lines.put_contact.Goals as goal

pub returns-clause-ok : goal.returns-clause-ok
unfolding Rattle.mon_engine.specs.Report.contact_line
returns-clause-ok c = rw (c.contact.ensures, slice_get-get_or c.args.contacts.now c.args.contact (record { host = false; service = false }) c.requires.known) c.put_switch.ensures.ok
