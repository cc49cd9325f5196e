use Rattle.mon_engine.specs.Report.{comma_name}
use Rattle.mon_engine.proofs.ReportLemmas.{put_next_name, put_last}
use Rattle.mon_engine.proofs.notice_lines.put_more_names.Goals as goal

pub loop-contact-preserved : goal.loop-contact-preserved
loop-contact-preserved c =
    put_next_name c.args.inventory.now.contacts c.args.contacts.now c.loop-contact.contact-index _ c.loop-contact.out.items c.push.new.self.items c.put_name.new.out.items _ c.loop-contact-test.true c.loop-contact.invariant c.in_ok-push.ensures.items c.in_ok-put_name.ensures

pub returns : goal.returns
returns c = put_last (comma_name c.args.inventory.now.contacts) c.args.contacts.now c.loop-contact.contact-index c.loop-contact.out.items _ c.loop-contact-test.false c.loop-contact.invariant
