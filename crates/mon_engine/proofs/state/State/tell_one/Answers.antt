use Rattle.std.proofs.Common.{slice_get, ap, sym, ◌∙◌, subst}
use Rattle.mon_engine.specs.Sound.{IsTellable}
use Rattle.mon_engine.specs.World.{World}
use Rattle.mon_engine.proofs.EndLemmas.{end_objects}
use Rattle.mon_engine.proofs.SoundLemmas.{end_tellable}
use Rattle.mon_engine.proofs.state.State.tell_one.Goals.{then-recovers_the_told+in_ok-tell_end, else-recovers_the_told}
use Rattle.mon_engine.proofs.state.State.tell_one.Goals as goal

pub tell_problem-requires-clause-tellable : goal.tell_problem-requires-clause-tellable
tell_problem-requires-clause-tellable c = elim c.if-recovers_the_told.branch [
  | then-recovers_the_told+in_ok-tell_end w ↦ subst (IsTellable c.args.inventory.now) (sym (w.self-is ∙ w.in_ok-tell_end.ensures)) (end_tellable c.args.inventory.now c.args.self.now c.args.object c.requires.tellable)
  | else-recovers_the_told w ↦ subst (IsTellable c.args.inventory.now) (sym w.self-is) c.requires.tellable
]

pub tell_problem-requires-clause-next : goal.tell_problem-requires-clause-next
tell_problem-requires-clause-next c = elim c.if-recovers_the_told.branch [
  | then-recovers_the_told+in_ok-tell_end w ↦ λ o at. c.requires.next c.args.object o (sym (ap (λ (x : World). slice_get x.objects c.args.object) (w.self-is ∙ w.in_ok-tell_end.ensures) ∙ ap (λ (os : _). slice_get os c.args.object) (end_objects c.args.inventory.now c.args.self.now c.args.object)) ∙ at)
  | else-recovers_the_told w ↦ λ o at. c.requires.next c.args.object o (sym (ap (λ (x : World). slice_get x.objects c.args.object) w.self-is) ∙ at)
]
