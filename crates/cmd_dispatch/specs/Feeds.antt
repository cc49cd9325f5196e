-- The commands that a feed makes, each of which counts as its canonical line among the bytes of the feed.
use Rattle.std.specs.Prelude.{◌≤◌, ℕ, List, [], ◌∷◌, ◌++◌, length, Option, MatchOption, Result, MatchResult}
use Rattle.std.specs.Io.KnownBytes.{Consumes, Keeps, IsAtEnd}
use Rattle.cmd_types.specs.Spelling.{Timed, IsWellFormed, canonical}
use Rattle.cmd_dispatch.specs.declared.feed.TheConstants.{LONGEST_MADE}

-- the line of a command: its canonical line and a line feed
abbrev pub line_of : Timed → List ℕ
line_of t = canonical t ++ 10 ∷ []

-- a command that a feed may make: it is well formed, and its line is short
abbrev pub IsMade : Timed → Type 0
IsMade t = IsWellFormed t × (length (line_of t) ≤ LONGEST_MADE)

-- a command that is made consumes its line; where none is made, the feed is at its end; a failure consumes nothing
abbrev pub MakeConsumes : {E : Type 0} → (before after : Option (List ℕ)) → Result (Option Timed) E → Type 0
MakeConsumes before after made = MatchResult made (λ o. MatchOption o (Keeps before after × IsAtEnd after) (λ t. Consumes before after (line_of t))) (λ _. Keeps before after)
