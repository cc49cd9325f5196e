use Rattle.mon_state.specs.Reading.{downtime_at}
use Rattle.mon_state.proofs.CursorLemmas.{exit_fails, fails_here, fails_later}
use Rattle.mon_state.proofs.lines.read_downtime.Goals as goal

pub returns-in_err-fate : goal.returns-in_err-fate
unfolding downtime_at
returns-in_err-fate c = exit_fails _ c.from_residual-in_err-fate.result _ c.in_err-fate.field-0.0 c.fate.new.self.last c.from_residual-in_err-fate.ensures.1
    (fails_later _ c.in_err-fate.field-0.0 c.fate.new.self.last c.in_ok-expect.ensures (fails_later _ c.in_err-fate.field-0.0 c.fate.new.self.last c.in_ok-id.ensures.read (fails_later _ c.in_err-fate.field-0.0 c.fate.new.self.last c.in_ok-object.ensures (fails_later _ c.in_err-fate.field-0.0 c.fate.new.self.last c.in_ok-start_time.ensures.read (fails_later _ c.in_err-fate.field-0.0 c.fate.new.self.last c.in_ok-end_time.ensures.read (fails_later _ c.in_err-fate.field-0.0 c.fate.new.self.last c.in_ok-fixed.ensures (fails_later _ c.in_err-fate.field-0.0 c.fate.new.self.last c.in_ok-trigger_id.ensures.read (fails_later _ c.in_err-fate.field-0.0 c.fate.new.self.last c.in_ok-duration.ensures.read (fails_later _ c.in_err-fate.field-0.0 c.fate.new.self.last c.in_ok-entered.ensures.read (fails_here _ _ c.in_err-fate.field-0.0 c.fate.new.self.last c.in_err-fate.ensures))))))))))

pub returns-in_err-said : goal.returns-in_err-said
unfolding downtime_at
returns-in_err-said c = exit_fails _ c.from_residual-in_err-said.result _ c.in_err-said.field-0.0 c.read_said.new.cursor.last c.from_residual-in_err-said.ensures.1
    (fails_later _ c.in_err-said.field-0.0 c.read_said.new.cursor.last c.in_ok-expect.ensures (fails_later _ c.in_err-said.field-0.0 c.read_said.new.cursor.last c.in_ok-id.ensures.read (fails_later _ c.in_err-said.field-0.0 c.read_said.new.cursor.last c.in_ok-object.ensures (fails_later _ c.in_err-said.field-0.0 c.read_said.new.cursor.last c.in_ok-start_time.ensures.read (fails_later _ c.in_err-said.field-0.0 c.read_said.new.cursor.last c.in_ok-end_time.ensures.read (fails_later _ c.in_err-said.field-0.0 c.read_said.new.cursor.last c.in_ok-fixed.ensures (fails_later _ c.in_err-said.field-0.0 c.read_said.new.cursor.last c.in_ok-trigger_id.ensures.read (fails_later _ c.in_err-said.field-0.0 c.read_said.new.cursor.last c.in_ok-duration.ensures.read (fails_later _ c.in_err-said.field-0.0 c.read_said.new.cursor.last c.in_ok-entered.ensures.read (fails_later _ c.in_err-said.field-0.0 c.read_said.new.cursor.last c.in_ok-fate.ensures (fails_here _ _ c.in_err-said.field-0.0 c.read_said.new.cursor.last c.in_err-said.ensures)))))))))))
