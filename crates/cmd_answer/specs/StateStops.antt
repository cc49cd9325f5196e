-- The line and the status of a run that could not begin from a state directory, or could not write it.
use Rattle.std.specs.Prelude.{ℕ, List, [], ◌∷◌, ◌++◌, codes}
use Rattle.std.specs.Fmt.{decimal}
use Rattle.cmd_answer.specs.declared.state_stop.StateWord.{StateWord}
use Rattle.cmd_answer.specs.declared.state_stop.StateWord.TheVariants as word
use Rattle.cmd_answer.specs.declared.state_stop.StateStop.{StateStop}
use Rattle.cmd_answer.specs.declared.state_stop.StateStop.TheVariants.{AtStart, Passing, StateLine, InventoryLine, JournalLine, Later}

-- the line on a faulty text: its first words, the number of the faulty line, and the number of the cause
abbrev pub fault_text : (begins : List ℕ) → (line cause : ℕ) → List ℕ
fault_text begins line cause = begins ++ (decimal line ++ (codes ": " ++ (decimal cause ++ 10 ∷ [])))

abbrev pub word_text : StateWord → List ℕ
word_text word.NotThere = codes "not there"
word_text word.Lock = codes "lock"
word_text word.InUse = codes "in use"
word_text word.Read = codes "read"
word_text word.Mark = codes "mark"
word_text word.Inventory = codes "inventory"
word_text word.Feeds = codes "feeds"
word_text word.Told = codes "told"
word_text word.Full = codes "full"
word_text word.File = codes "file"
word_text word.Journal = codes "journal"
word_text word.Sync = codes "sync"
word_text word.Status = codes "status"

abbrev pub state_line : StateWord → List ℕ
state_line w = codes "gateway: state " ++ (word_text w ++ 10 ∷ [])

-- the line on the error stream
abbrev pub state_stop_line : StateStop → List ℕ
state_stop_line (AtStart w) = state_line w
state_stop_line (Passing w) = state_line w
state_stop_line (StateLine line cause) = fault_text (codes "gateway: state line ") line cause
state_stop_line (InventoryLine line cause) = fault_text (codes "gateway: state inventory line ") line cause
state_stop_line (JournalLine line cause) = fault_text (codes "gateway: state journal line ") line cause
state_stop_line (Later w) = state_line w

-- 2 where the run has not begun, 3 where it has ended or the reason may pass by itself
abbrev pub state_status : StateStop → ℕ
state_status (Passing w) = 3
state_status (Later w) = 3
state_status _ = 2
