use Rattle.mon_notes.proofs.ListedLemmas.{keeps_same, keeps_then}
use Rattle.mon_notes.proofs.ids.Ids.add.Goals as goal

pub returns-in_err-make_list-clause-kept : goal.returns-in_err-make_list-clause-kept
returns-in_err-make_list-clause-kept c = keeps_same c.args.there.now c.args.self.now _ c.make_list.ensures.same

pub returns-clause-kept : goal.returns-clause-kept
returns-clause-kept c =
    keeps_then c.args.there.now c.args.self.now c.self.inside.lists.items c.args.object c.index_mut.result.now c.push.new.self (rw c.self.view_is c.in_ok-make_list.ensures.ok) (rw c.self.view_is c.make_list.ensures.same) c.index_mut.ensures.value c.push.ensures.kept
