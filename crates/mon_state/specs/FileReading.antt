-- How the feeds in a file `state` are read, and where its mark stands.
use Rattle.std.specs.Prelude.{ℕ, Bool, true, List, [], ◌∷◌, ◌++◌, Option, Some, None, Result, Ok, Err, codes, nat_lt, ◌==◌, if◌then◌else◌}
use Rattle.std.specs.Str.{bytes_eq}
use Rattle.mon_state.specs.declared.fault.StateCause.TheVariants.{BadValue}
use Rattle.mon_state.specs.declared.feeds.KeptFeed.{KeptFeed}
use Rattle.mon_state.specs.Feeds.{Feeds}
use Rattle.mon_state.specs.File.{mark}
use Rattle.cmd_types.specs.declared.entry.TheConstants.{MOST_SENDERS}
use Rattle.cmd_types.specs.declared.limits.TheConstants.{GREATEST_NUMBER}
use Rattle.mon_state.specs.Reading.{Stuck, ◌>>=◌, field_at, expect_at, number_at, small_at, optional_at, many_at}

-- the two lines of a feed, whatever number the first has
unfoldable pub feed_at : List ℕ → Result (KeptFeed × List ℕ) Stuck
feed_at text = do
  text ← expect_at (codes "feed;") text
  number ← number_at 59 text
  journaled ← small_at GREATEST_NUMBER 59 number.1
  earlier ← small_at journaled.0 59 journaled.1
  words ← field_at 10 earlier.1
  text ← expect_at (codes "last;") words.1
  last ← field_at 10 text
  Ok (record { words = words.0; journaled = journaled.0; earlier = earlier.0; last = last.0 }, last.1)

-- the two lines of a feed, whatever was read before
abbrev pub next_feed : List KeptFeed → List ℕ → Result (KeptFeed × List ℕ) Stuck
next_feed feeds text = feed_at text

-- the number of the clock is that of a feed
abbrev pub is_feed : Option ℕ → (count : ℕ) → Bool
is_feed None count = true
is_feed (Some k) count = nat_lt k count

-- the lines of `count` feeds, where the clock's number is that of one of them
abbrev pub with_clock : (at : List ℕ) → Option ℕ → (count : ℕ) → List ℕ → Result (List KeptFeed × List ℕ) Stuck
with_clock at clock count text = if is_feed clock count then many_at next_feed count [] text else Err (BadValue, at)

-- the lines of all feeds
unfoldable pub feeds_at : List ℕ → Result (Feeds × List ℕ) Stuck
feeds_at text = do
  text ← expect_at (codes "feeds;") text
  clock ← optional_at 59 text
  count ← small_at MOST_SENDERS 10 clock.1
  list ← with_clock clock.1 clock.0 count.0 count.1
  Ok (record { list = list.0; clock = clock.0 }, list.1)

-- the text after the mark, where a line is the mark; `line` is the beginning of the line that is being read
unfoldable pub behind_mark : (line : List ℕ) → List ℕ → Option (List ℕ)
behind_mark line [] = None
behind_mark line (x ∷ xs) = if x == 10 then (if bytes_eq line mark then Some xs else behind_mark [] xs) else behind_mark (line ++ x ∷ []) xs
