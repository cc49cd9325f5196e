-- What one call of take_many or take_waiting answers, as a list of entries and marks.
use Rattle.std.specs.Prelude.{List, [], ◌∷◌}
use Rattle.cmd_queue.specs.declared.taken.Taken.{Taken}
use Rattle.cmd_queue.specs.declared.taken.Taken.TheVariants as taken
use Rattle.cmd_queue.specs.declared.taken.TakenMessage.{TakenMessage}
use Rattle.cmd_queue.specs.declared.taken.TakenMessage.TheVariants as together
use Rattle.cmd_queue.specs.Rows.{row_taken}

abbrev pub together_taken : TakenMessage → List Taken
together_taken (together.One entry) = taken.Command entry ∷ []
together_taken (together.Row row) = row_taken row
together_taken (together.Closed sender count) = taken.Closed sender count ∷ []
