use Rattle.mon_downtime.proofs.MarkedLemmas.{AreMarked-with_fate}
use Rattle.mon_downtime.proofs.keeping.give_fate.Goals as goal

pub returns-clause-kept : goal.returns-clause-kept
returns-clause-kept c =
    let was = c.requires.kept in
    record {
      records = c.change_fate.ensures.records;
      listed = c.change_fate.ensures.listed;
      linked = rw (← c.deref.ensures.value) c.change_fate.ensures.links;
      marked = rw c.change_fate.ensures.changed (AreMarked-with_fate c.args.records.now c.args.kept.now.links.items c.args.id c.args.fate c.requires.stays was.marked);
      counted = rw c.change_fate.ensures.changed (c.recount.ensures);
      waiting = rw c.change_fate.ensures.changed (c.leave.ensures c.args.fate c.requires.begun);
    }
