-- Where a text has its bytes.
use Rattle.std.specs.Prelude.{ℕ, ◌≤◌, List, take}
use Rattle.cmd_types.specs.declared.text.TheConstants.{MOST_INSIDE}
use Rattle.cmd_types.specs.declared.text.Held.{Held}
use Rattle.cmd_types.specs.declared.text.Held.TheVariants.{Inside, Outside}

-- a text that holds its bytes in its own place has no more of them than there is room for
abbrev pub IsHeld : Held → Type 0
IsHeld (Inside count bytes) = count ≤ MOST_INSIDE
IsHeld (Outside bytes) = Unit {0}

-- ---- of private contracts alone

-- the bytes of a text: those in its own place are the first `count`
abbrev pub bytes_of : Held → List ℕ
bytes_of (Inside count bytes) = take count bytes
bytes_of (Outside bytes) = bytes.items
