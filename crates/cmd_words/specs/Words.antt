-- The modes that words ask for, and the ranges of their options.
use Rattle.std.specs.Prelude.{◌≡◌, ◌==◌, ℕ, length, if◌then◌else◌, List, [], ◌∷◌, Option, Some, None, codes}
use Rattle.std.specs.Str.{bytes_eq}
use Rattle.cmd_journal.specs.Journals.{IsLimit}
use Rattle.cmd_options.specs.Options.{AreInRange}
use Rattle.cmd_options.specs.declared.mode.TheConstants.{MOST_READS}
use Rattle.cmd_options.specs.declared.options.RunOptions.{RunOptions}
use Rattle.cmd_options.specs.declared.mode.Mode.{Mode}
use Rattle.cmd_options.specs.declared.mode.Mode.TheVariants as modes
use Rattle.cmd_words.specs.declared.mode_name.ModeName.{ModeName}
use Rattle.cmd_words.specs.declared.mode_name.ModeName.TheVariants as name

-- the options of a run that words give: they are in their ranges, and a feed is read at most as often as a count can say
abbrev pub AreOfWords : RunOptions → Type 0
AreOfWords options = AreInRange options × (options.reads ≡ MOST_READS)

-- the options of a run are as words give them; the limit of a replayed journal is in its range
abbrev pub HasRanges : Mode → Type 0
HasRanges (modes.Bundle options) = AreOfWords options.run
HasRanges (modes.Replay limit) = IsLimit limit

-- the mode that the first word names; none for any other word, and where there is none
abbrev pub mode_by : (first : List ℕ) → Option ModeName
mode_by w =
    if bytes_eq w (codes "bundle") then Some name.Bundle
    else if bytes_eq w (codes "files") then Some name.Files
    else if bytes_eq w (codes "replay") then Some name.Replay
    else if bytes_eq w (codes "follow") then Some name.Follow
    else if bytes_eq w (codes "told") then Some name.Told
    else if bytes_eq w (codes "check") then Some name.Check
    else if bytes_eq w (codes "explain") then Some name.Explain
    else None

-- the same, where these modes are named by their word alone
abbrev pub mode_alone : (first : List ℕ) → Option ModeName
mode_alone w =
    if bytes_eq w (codes "help") then Some name.Help
    else if bytes_eq w (codes "version") then Some name.Version
    else mode_by w

-- the mode that the words name
abbrev pub mode_named : (words : List (List ℕ)) → Option ModeName
mode_named [] = None
mode_named (w ∷ words) = if length words == 0 then mode_alone w else mode_by w

-- the words after the first, where that is `explain`
abbrev pub explain_words : (words : List (List ℕ)) → Option (List (List ℕ))
explain_words [] = None
explain_words (w ∷ words) = if bytes_eq w (codes "explain") then Some words else None
