-- The entries of a state directory for its feeds, and their text.
use Rattle.std.specs.Prelude.{◌≡◌, ◌<◌, ◌≤◌, ℕ, List, [], ◌∷◌, ◌++◌, length, All, Option, Some, None, IfSome, codes, slice_get, Result, MatchResult}
use Rattle.std.specs.Fmt.{decimal}
use Rattle.cmd_types.specs.declared.entry.TheConstants.{MOST_SENDERS}
use Rattle.cmd_types.specs.declared.limits.TheConstants.{GREATEST_NUMBER}
use Rattle.cmd_types.specs.Bytes.{Lacks}
use Rattle.mon_engine.specs.Report.{line, each_index, optional}
use Rattle.mon_state.specs.declared.feeds.KeptFeed.{KeptFeed}
use Rattle.mon_state.specs.declared.fault.StateCause.TheVariants.{Memory}
use Rattle.mon_state.specs.declared.fault.StateFault.{StateFault}

-- the feeds in order of their numbers, and the number of the clock, if one is a clock
pub record Feeds : Type 0 where
  pub list : List KeptFeed
  pub clock : Option ℕ

-- feed;NUMBER;JOURNALED;EARLIER;WORDS and last;LINE
abbrev pub feed_lines_of : (number : ℕ) → Option KeptFeed → List ℕ
feed_lines_of number None = []
feed_lines_of number (Some f) = line (codes "feed") (decimal number ∷ decimal f.journaled ∷ decimal f.earlier ∷ f.words ∷ []) ++ line (codes "last") (f.last ∷ [])

-- the lines of the feed of this number
unfoldable pub feed_lines : List KeptFeed → ℕ → List ℕ
feed_lines feeds number = feed_lines_of number (slice_get feeds number)

-- feeds;CLOCK;COUNT, and the lines of each
unfoldable pub feeds_text : Feeds → List ℕ
feeds_text feeds = line (codes "feeds") (optional feeds.clock ∷ decimal (length feeds.list) ∷ []) ++ each_index (feed_lines feeds.list) (length feeds.list)

-- a text can hold this entry: neither the words nor the line have a line feed, and the numbers are in range
pub record IsWritable (f : KeptFeed) : Type 0 where
  pub words : Lacks 10 f.words
  pub last : Lacks 10 f.last
  pub journaled : f.journaled ≤ GREATEST_NUMBER
  pub earlier : f.earlier ≤ f.journaled

-- a text can hold these feeds: each entry can be written, there are at most `MOST_SENDERS`, and the clock feed, if any,
-- is one of them
pub record AreWritable (feeds : Feeds) : Type 0 where
  pub each : All IsWritable feeds.list
  pub few : length feeds.list ≤ MOST_SENDERS
  pub clock : IfSome feeds.clock (λ k. k < length feeds.list)

-- the text of feeds that can be written is read as these feeds, with the bytes after it, or memory runs out
abbrev pub AreReadBack : {A : Type 0} → (view : A → Feeds × List ℕ) → (text : List ℕ) → Result A StateFault → Type 0
AreReadBack view text read = (feeds : Feeds) (rest : List ℕ) → AreWritable feeds → text ≡ feeds_text feeds ++ rest → MatchResult read (λ r. view r ≡ (feeds, rest)) (λ f. f.cause ≡ Memory)
