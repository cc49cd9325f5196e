-- The number of feeds of a run, and the line with which it begins.
use Rattle.std.specs.Prelude.{◌+◌, ℕ, List, Option, Some, None}
use Rattle.cmd_answer.specs.declared.follow_line.FollowLine.TheVariants.{Following}
use Rattle.cmd_answer.specs.FollowLines.{follow_line}

-- the number of feeds, counting the clock feed, if there is one
abbrev pub count_with : (clock : Option ℕ) → (given : ℕ) → ℕ
count_with None given = given
count_with (Some number) given = given + 1

-- gateway: following FEEDS feeds, ENTRIES entries, clock CLOCK
abbrev pub start_line : (feeds entries clock : ℕ) → List ℕ
start_line feeds entries clock = follow_line (Following feeds entries clock)
