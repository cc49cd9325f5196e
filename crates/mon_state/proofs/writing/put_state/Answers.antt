use Rattle.std.proofs.Common.{length}
use Rattle.std.specs.List.{flat_map}
use Rattle.mon_engine.specs.Report.{clock_line, program_line, contact_line, each_index}
use Rattle.mon_engine.specs.Sound.{ever}
use Rattle.mon_state.specs.State.{heading_line, entries_line, object_line, comments_line, comment_line, downtimes_line, downtime_line, owed_line, owed_count, end_line, line_count, text_of}
use Rattle.mon_state.proofs.TextLemmas.{on_ok, all_put}
use Rattle.mon_state.proofs.writing.put_state.Goals as goal

pub returns-clause-ok : goal.returns-clause-ok
unfolding text_of
returns-clause-ok c =
    let inv = c.args.monitor.now.inventory in
    let w = c.args.monitor.now.world in
    let same = c.inventory-inventory.ensures.value in
    let one = rw (c.clock.ensures, c.entries_ever-entries.ensures.count, c.program.ensures) at c.in_ok-put_head.ensures.ok in
    let two = rw (same, c.objects.ensures) at c.in_ok-put_objects.ensures.ok in
    let three = rw (same, c.contacts.ensures) at c.in_ok-put_contacts.ensures.ok in
    let four = rw (same, c.last_comment.ensures, c.comments.ensures.value) at c.in_ok-put_notes.ensures.ok in
    let five = rw (same, c.downtimes.ensures.value) at c.in_ok-put_schedule.ensures.ok in
    let six = rw (same, c.owed.ensures) at c.in_ok-put_all_owed.ensures.ok in
    on_ok c.put.result _ _
    (λ seven. all_put c.args.out.now.items c.put_head.new.out.items c.put_objects.new.out.items c.put_contacts.new.out.items c.put_notes.new.out.items c.put_schedule.new.out.items c.put_all_owed.new.out.items c.put.new.out.items
    (heading_line c.args.version) (clock_line w.clock) (entries_line (ever w)) (program_line w.program) (each_index (object_line c.args.version inv.objects w.objects) (length inv.objects)) (each_index (contact_line inv.contacts w.contacts) (length inv.contacts))
    (comments_line w.notes) (flat_map (comment_line inv.objects) w.notes.comments) (downtimes_line w.downtimes) (flat_map (downtime_line inv.objects) w.downtimes) (each_index (owed_line inv.objects w.owed) (owed_count c.args.version inv)) (end_line (line_count c.args.version inv w))
    one two three four five six seven)
    (rw c.line_count-count.ensures at c.put.ensures.ok)
