-- Why `put_line` keeps its contract.
use Rattle.cmd_types.proofs.GrowthLaws.{grown_more, grows_on, line_is}
use Rattle.cmd_types.proofs.stamped.Stamped.put_line.Goals as goal

pub returns-clause-ok : goal.returns-clause-ok
returns-clause-ok c =
    rw (← c.self.view_is, c.in_ok-push.ensures.items, c.in_ok-put_arguments.ensures.ok, c.arguments.ensures, c.in_ok-extend_from_slice.ensures.items, c.text.ensures, c.name.ensures, c.in_ok-put_time.ensures.ok) (line_is _ _ _ _)

pub returns-clause-grown : goal.returns-clause-grown
returns-clause-grown c =
    rw c.in_ok-push.ensures.items (grown_more _ _ _ (grows_on _ c.extend_from_slice.new.self.items _ (rw c.in_ok-extend_from_slice.ensures.items (grown_more _ _ _ c.in_ok-put_time.ensures.grown)) c.in_ok-put_arguments.ensures.grown))

pub returns-in_err-put_time-clause-grown : goal.returns-in_err-put_time-clause-grown
returns-in_err-put_time-clause-grown c = c.in_err-put_time.ensures.grown

pub returns-in_err-extend_from_slice-clause-grown : goal.returns-in_err-extend_from_slice-clause-grown
returns-in_err-extend_from_slice-clause-grown c = rw c.in_err-extend_from_slice.ensures.items c.in_ok-put_time.ensures.grown

pub returns-in_err-put_arguments-clause-grown : goal.returns-in_err-put_arguments-clause-grown
returns-in_err-put_arguments-clause-grown c =
    grows_on _ c.extend_from_slice.new.self.items _ (rw c.in_ok-extend_from_slice.ensures.items (grown_more _ _ _ c.in_ok-put_time.ensures.grown)) c.in_err-put_arguments.ensures.grown

pub returns-in_err-push-clause-grown : goal.returns-in_err-push-clause-grown
returns-in_err-push-clause-grown c =
    rw c.in_err-push.ensures.items (grows_on _ c.extend_from_slice.new.self.items _ (rw c.in_ok-extend_from_slice.ensures.items (grown_more _ _ _ c.in_ok-put_time.ensures.grown)) c.in_ok-put_arguments.ensures.grown)
