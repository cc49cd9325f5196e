-- The text that the mode `explain` explains, the text that it prints, and its status.
use Rattle.std.specs.Prelude.{◌≡◌, ◌==◌, ℕ, if◌then◌else◌, List, [], ◌∷◌, ◌++◌, length, Option, Some}
use Rattle.std.specs.List.{flat_map}
use Rattle.cmd_answer.specs.declared.stop.FilesStop.{FilesStop}
use Rattle.cmd_answer.specs.declared.stop.FilesStop.TheVariants.{Other}
use Rattle.cmd_answer.specs.declared.stop.Stop.TheVariants as stop
use Rattle.cmd_answer.specs.Stops.{files_stop_line}
use Rattle.cmd_explain.specs.Explained.{explained, is_all_known}

-- the text of words; an empty line where the text has no byte
abbrev pub or_line : (text : List ℕ) → List ℕ
or_line text = if length text == 0 then 10 ∷ [] else text

-- the words, with a blank before each but the first; without words the whole input
abbrev pub asked_text : (words : List (List ℕ)) → (input : Option (List ℕ)) → Option (List ℕ)
asked_text [] input = input
asked_text (word ∷ words) input = Some (or_line (word ++ flat_map (λ w. 32 ∷ w) words))

-- the status: 0 for an input; for words 0 where each line of them is known, else 1
abbrev pub explained_status : (words : List (List ℕ)) → (asked : List ℕ) → ℕ
explained_status [] asked = 0
explained_status (word ∷ words) asked = if is_all_known asked then 0 else 1

-- the text with the meanings, and the status
abbrev pub Explains : (words : List (List ℕ)) → (asked text : List ℕ) → (status : ℕ) → Type 0
Explains words asked text status = (text ≡ explained asked) × (status ≡ explained_status words asked)

-- why nothing is explained: without words the input could not be read to its end; or memory ran out
abbrev pub StopsExplain : (words : List (List ℕ)) → FilesStop → Type 0
StopsExplain words (Other stop.Memory) = Unit {0}
StopsExplain [] (Other stop.Input) = Unit {0}
StopsExplain words _ = ⊥

-- the line of a stop, followed by its meaning
abbrev pub stop_in_words : FilesStop → List ℕ
stop_in_words s = explained (files_stop_line s)
