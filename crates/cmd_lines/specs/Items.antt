-- The items of a text: of each line that is not empty, its command or its first fault.
use Rattle.std.specs.Prelude.{◌≢◌, ℕ, ◌+◌, List, [], ◌∷◌, ◌++◌, length, Option, Some, None, Result, Ok, Err, nat_lt, if◌then◌else◌}
use Rattle.std.specs.List.{filter_map}
use Rattle.cmd_types.specs.declared.command.Command.{Command}
use Rattle.cmd_types.specs.Bytes.{without_returns}
use Rattle.cmd_types.specs.Build.{command_from}
use Rattle.cmd_types.specs.Spelling.{Timed}
use Rattle.cmd_types.specs.declared.limits.TheConstants.{LONGEST_LINE}
use Rattle.cmd_lines.specs.declared.fault.LineFault.{LineFault}
use Rattle.cmd_lines.specs.declared.fault.LineFault.TheVariants.{TooLong, Torn, UnknownCommand, Memory}
use Rattle.cmd_lines.specs.declared.phase.Phase.{Phase}
use Rattle.cmd_lines.specs.declared.phase.Phase.TheVariants.{Open, Finished, CutOff}
use Rattle.cmd_lines.specs.declared.item.Item.{Item}
use Rattle.cmd_lines.specs.declared.item.Item.TheVariants as item
use Rattle.cmd_lines.specs.Reading.{Parts, reading}
use Rattle.cmd_types.specs.TextLines.{split_lines}

-- ---- one line

abbrev pub command_item : ℕ → ℕ → Option Command → Item
command_item n time None = item.Refused n UnknownCommand
command_item n time (Some c) = item.Command (record { time = time; command = c })

abbrev pub item_from : ℕ → Result Parts LineFault → Item
item_from n (Err f) = item.Refused n f
item_from n (Ok p) = command_item n p.time (command_from p.name p.arguments)

-- the item of line n, which is not empty
unfoldable pub item_of : ℕ → List ℕ → Item
item_of n line = item_from n (reading line)

-- the item of an unfinished line n of a text that broke off
abbrev pub torn_item : ℕ → List ℕ → Item
torn_item n line = item.Refused n (if nat_lt LONGEST_LINE (length line) then TooLong else Torn)

-- an empty line has none
abbrev pub if_some : List ℕ → Item → List Item
if_some [] i = []
if_some (x ∷ xs) i = i ∷ []

-- carriage returns at the end of a line do not count
abbrev pub line_items : ℕ → List ℕ → List Item
line_items n line = if_some (without_returns line) (item_of n (without_returns line))

abbrev pub torn_items : ℕ → List ℕ → List Item
torn_items n line = if_some (without_returns line) (torn_item n (without_returns line))

-- ---- a text

-- the items of the bytes after the last line feed: none while the text may go on, those of a line where it ended,
-- a refused line where it broke off
abbrev pub last_items : Phase → ℕ → List ℕ → List Item
last_items Open n line = []
last_items Finished n line = line_items n line
last_items CutOff n line = torn_items n line

-- the items of the parts between line feeds, the first of which is line n
unfoldable pub all_items : Phase → ℕ → List (List ℕ) → List Item
all_items p n [] = []
all_items p n (line ∷ []) = last_items p n line
all_items p n (line ∷ (next ∷ others)) = line_items n line ++ all_items p (n + 1) (next ∷ others)

-- the items of a text whose first line is line n
abbrev pub items_from : Phase → ℕ → List ℕ → List Item
items_from p n text = all_items p n (split_lines text)

-- the items that are known of a text in this phase
abbrev pub known : Phase → List ℕ → List Item
known p text = items_from p 1 text

-- the items of a text that may go on: of its lines up to the last line feed
abbrev pub items_so_far : List ℕ → List Item
items_so_far text = known Open text

-- the items of a text that ended
abbrev pub items : List ℕ → List Item
items text = known Finished text

-- the items of a text that broke off: an unfinished last line is refused
abbrev pub items_cut : List ℕ → List Item
items_cut text = known CutOff text

-- ---- the two parts of a list of items

abbrev pub command_in : Item → Option Timed
command_in (item.Command t) = Some t
command_in (item.Refused _ _) = None

abbrev pub commands : List Item → List Timed
commands items = filter_map command_in items

-- the number of its line, and the fault
abbrev pub refusal_in : Item → Option (ℕ × LineFault)
refusal_in (item.Command _) = None
refusal_in (item.Refused n f) = Some (n, f)

abbrev pub refusals : List Item → List (ℕ × LineFault)
refusals items = filter_map refusal_in items

-- an item says something of the text alone: its fault is not want of memory
abbrev pub IsOfText : Item → Type 0
IsOfText (item.Command _) = Unit {0}
IsOfText (item.Refused _ f) = f ≢ Memory
