use Rattle.std.proofs.Common.{refl, [], ◌∷◌, ◌++◌, List, sym, subst, append-nil}
use Rattle.cmd_queue.specs.Lists.{entries}
use Rattle.cmd_queue.specs.Plans.{AreOfPlan}
use Rattle.cmd_queue.specs.Sides.{with_taken}
use Rattle.cmd_queue.specs.declared.taken.Taken.{Taken}
use Rattle.cmd_queue.specs.declared.taken.Taken.TheVariants.{Closed}
use Rattle.cmd_dispatch.proofs.DispatchLemmas.{may_be_noted, mark_taken, ready_more}
use Rattle.cmd_dispatch.proofs.dispatch.Dispatch.pass.Goals as goal

pub note-requires : goal.note-requires
note-requires g c =
    let w = c.requires in
    may_be_noted (g.L.Log.holds w.0) (g.L.Log.knows w.0) g.L.Log.may_note (g.met.L.Log.next w.0) c.args.self.now.log w.1 w.2 c.in-One.entry w.3 c.args.self.now.fault [] (rw c.in-One.is at w.4)

pub note_row-requires : goal.note_row-requires
note_row-requires g c = (let w = c.requires in (w.0, w.1, w.2, w.3, rw c.in-Row.is at w.4))

pub returns-in-One : goal.returns-in-One
returns-in-One g c = rw c.in-One.is (λ start begin old first is.
    ready_more (g.L.Log.holds start) (g.met.L.Log.more start) (g.L.Log.knows start) c.args.self.now.log c.note.new.self.log begin old c.in-One.entry first c.args.self.now.fault c.note.new.self.fault [] is (c.note.ensures start))

pub returns-in-Row : goal.returns-in-Row
returns-in-Row g c = rw c.in-Row.is c.note_row.ensures

pub returns-in-Closed : goal.returns-in-Closed
returns-in-Closed g c = rw c.in-Closed.is (λ start begin old first was.
    (let s = c.in-Closed.sender in
    let n = c.in-Closed.count in
    record {
      taking = mark_taken (g.L.Log.holds start) c.args.self.now.log begin old (with_taken old (Closed s n)) s n first c.args.self.now.fault was.taking refl was.next.0;
      kept = was.kept;
      known = was.known;
      next = tt;
      planned = subst (λ (ts : List Taken). AreOfPlan old.queue.plan (entries ts)) (sym (append-nil (old.list ++ Closed s n ∷ []))) was.planned;
    }))
