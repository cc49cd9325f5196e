-- The feeds of a run: the feeds of the directory, and those that the call names.
use Rattle.std.specs.Prelude.{◌≡◌, ◌≢◌, ◌<◌, ◌⊎◌, ◌+◌, ℕ, zero, suc, Bool, true, false, List, [], ◌∷◌, ◌++◌, length, map, Option, Some, None, IfSome, slice_get, slice_index_or, All, if◌then◌else◌}
use Rattle.std.specs.List.{count_by}
use Rattle.std.specs.Str.{bytes_eq}
use Rattle.cmd_types.specs.declared.entry.TheConstants.{MOST_SENDERS}
use Rattle.cmd_types.specs.Bytes.{Lacks}
use Rattle.mon_engine.specs.Telling.{is_clock}
use Rattle.mon_state.specs.declared.feeds.KeptFeed.{KeptFeed}
use Rattle.mon_state.specs.Feeds.{Feeds}
use Rattle.cmd_recovery.specs.declared.feeds.assigned.Role.{Role}
use Rattle.cmd_recovery.specs.declared.feeds.assigned.Role.TheVariants.{Given, Clock, Unnamed}
use Rattle.cmd_recovery.specs.declared.feeds.assigned.AssignFault.{AssignFault}
use Rattle.cmd_recovery.specs.declared.feeds.assigned.AssignFault.TheVariants as fault

-- ---- the data that a feed keeps

-- The feed keeps its words, its count and its last line. The count of its commands in earlier files is unchanged where
-- reading resumes in the same file; it becomes the count of all its commands where reading begins anew, in another file
pub record KeepsFeed (before after : KeptFeed) : Type 0 where
  pub words : after.words ≡ before.words
  pub journaled : after.journaled ≡ before.journaled
  pub earlier : (after.earlier ≡ before.earlier) ⊎ (after.earlier ≡ before.journaled)
  pub last : after.last ≡ before.last

-- no command was journaled of the feed
pub record IsNewFeed (f : KeptFeed) : Type 0 where
  pub journaled : f.journaled ≡ 0
  pub earlier : f.earlier ≡ 0
  pub last : f.last ≡ []

-- Each feed of the directory keeps its number and its data; a new feed has no entry; and the clock feed is the same, or
-- a new feed.
pub record TakesOver (before after : Feeds) : Type 0 where
  pub kept : (k : ℕ) (f : KeptFeed) → slice_get before.list k ≡ Some f → (g : KeptFeed) × (slice_get after.list k ≡ Some g) × KeepsFeed f g
  pub new : (k : ℕ) (g : KeptFeed) → slice_get before.list k ≡ None → slice_get after.list k ≡ Some g → IsNewFeed g
  pub clock : (after.clock ≡ before.clock) ⊎ ((before.clock ≡ None) × IfSome after.clock (λ k. slice_get before.list k ≡ None))

-- ---- the roles of the feeds

-- The feeds of a run by the words of the call: each of the words has exactly one number. A feed that has none of the
-- words is the clock feed, or a feed that the call leaves out.
pub record AreAssigned (words : List (List ℕ)) (feeds : Feeds) (roles : List Role) : Type 0 where
  pub one_each : length roles ≡ length feeds.list
  pub is_given : (k i : ℕ) → slice_get roles k ≡ Some (Given i) → slice_get words i ≡ slice_get (map (λ f. f.words) feeds.list) k
  pub has_number : (i : ℕ) (w : List ℕ) → slice_get words i ≡ Some w → (k : ℕ) × (slice_get roles k ≡ Some (Given i))
  pub once : (k l i : ℕ) → slice_get roles k ≡ Some (Given i) → slice_get roles l ≡ Some (Given i) → k ≡ l
  pub clock : (k : ℕ) → slice_get roles k ≡ Some Clock → feeds.clock ≡ Some k
  pub clock_too : IfSome feeds.clock (λ k. slice_get roles k ≡ Some Clock)

-- each of these feeds that the call names has a greater index than this one
abbrev pub AreAbove : (place : ℕ) → List Role → Type 0
AreAbove place [] = Unit {0}
AreAbove place (Given i ∷ roles) = (place < i) × AreAbove place roles
AreAbove place (Clock ∷ roles) = AreAbove place roles
AreAbove place (Unnamed ∷ roles) = AreAbove place roles

-- the feeds are in the order of the call, and the clock feed is last
abbrev pub AreInOrder : List Role → Type 0
AreInOrder [] = Unit {0}
AreInOrder (Given i ∷ roles) = AreAbove i roles × AreInOrder roles
AreInOrder (Clock ∷ roles) = roles ≡ []
AreInOrder (Unnamed ∷ roles) = AreInOrder roles

-- an existing clock feed is unchanged; where there was none, there is a new one if the call asks for it
abbrev pub HasClock : (before : Option ℕ) → (has_clock : Bool) → (after : Option ℕ) → Type 0
HasClock (Some k) has_clock after = after ≡ Some k
HasClock None true after = after ≢ None
HasClock None false after = after ≡ None

-- ---- which feeds the call leaves out

-- the words of the feeds from this number on, without those of the clock feed
abbrev pub own_words : (clock : Option ℕ) → (number : ℕ) → List KeptFeed → List (List ℕ)
own_words clock number [] = []
own_words clock number (f ∷ feeds) = if is_clock clock number then own_words clock (number + 1) feeds else f.words ∷ own_words clock (number + 1) feeds

-- the call has these words fewer times than the directory has feeds of these words, not counting the clock feed
abbrev pub LacksOf : (words : List (List ℕ)) → Feeds → (w : List ℕ) → Type 0
LacksOf words feeds w = count_by (bytes_eq w) words < count_by (bytes_eq w) (own_words feeds.clock 0 feeds.list)

-- A feed that the call leaves out is a feed of the directory, and the call has its words fewer times than the
-- directory. If the call leaves out a feed, it names no new one.
pub record AreUnnamed (words : List (List ℕ)) (before : Feeds) (roles : List Role) : Type 0 where
  pub of : (k : ℕ) → slice_get roles k ≡ Some Unnamed → (w : List ℕ) × (slice_get (map (λ f. f.words) before.list) k ≡ Some w) × LacksOf words before w
  pub alone : (k l i : ℕ) → slice_get roles k ≡ Some Unnamed → slice_get roles l ≡ Some (Given i) → l < length before.list

-- ---- why no numbers are assigned

-- the call leaves out a feed of the directory
abbrev pub LacksOne : (words : List (List ℕ)) → Feeds → Type 0
LacksOne words feeds = (w : List ℕ) × LacksOf words feeds w

-- the call names a new feed: it has some words more times than the directory has feeds of these words
abbrev pub BringsOne : (words : List (List ℕ)) → Feeds → Type 0
BringsOne words feeds = (w : List ℕ) × (count_by (bytes_eq w) (own_words feeds.clock 0 feeds.list) < count_by (bytes_eq w) words)

-- how many clock feeds a run has
abbrev pub clocks : (before : Option ℕ) → (has_clock : Bool) → ℕ
clocks None has_clock = if has_clock then 1 else 0
clocks (Some k) has_clock = 1

-- how many new clock feeds a run has
abbrev pub new_clocks : (before : Option ℕ) → (has_clock : Bool) → ℕ
new_clocks None has_clock = if has_clock then 1 else 0
new_clocks (Some k) has_clock = 0

-- Why no numbers are assigned: the call leaves out a feed of the directory and names a new one, the words of a feed
-- have a line feed, or the clock feed is none of the directory's feeds; or, counting the clock feed, the call or the
-- directory has too many feeds.
abbrev pub IsAssignFault : (words : List (List ℕ)) → Feeds → (has_clock : Bool) → AssignFault → Type 0
IsAssignFault words feeds has_clock fault.Memory = Unit {0}
IsAssignFault words feeds has_clock fault.Feeds = (LacksOne words feeds × BringsOne words feeds) ⊎ ((All (Lacks 10) words → ⊥) ⊎ (IfSome feeds.clock (λ k. k < length feeds.list) → ⊥))
IsAssignFault words feeds has_clock fault.TooMany = (MOST_SENDERS < length words + clocks feeds.clock has_clock) ⊎ (MOST_SENDERS < length feeds.list + new_clocks feeds.clock has_clock)

-- ---- of private contracts alone

-- the numbers below this one
abbrev pub places_to : (count : ℕ) → List ℕ
places_to zero = []
places_to (suc count) = places_to count ++ count ∷ []

-- the words of the call at an index
abbrev pub word_at : (words : List (List ℕ)) → (place : ℕ) → List ℕ
word_at words place = slice_index_or words place []

-- whether the words at an index are these
abbrev pub has_word : (words : List (List ℕ)) → (w : List ℕ) → (place : ℕ) → Bool
has_word words w place = bytes_eq w (word_at words place)

abbrev pub new_feed : (words : List ℕ) → KeptFeed
new_feed words = record { words = words; journaled = 0; earlier = 0; last = [] }

-- each index is above this one
abbrev pub AllAbove : (place : ℕ) → List ℕ → Type 0
AllAbove place [] = Unit {0}
AllAbove place (i ∷ places) = (place < i) × AllAbove place places

-- each index is above the ones before it
abbrev pub Ascend : List ℕ → Type 0
Ascend [] = Unit {0}
Ascend (i ∷ places) = AllAbove i places × Ascend places

-- the index of the call's words that a role takes; the clock feed takes none, nor does a feed that the call leaves out
abbrev pub places_of : Role → List ℕ
places_of (Given i) = i ∷ []
places_of Clock = []
places_of Unnamed = []

-- the indices that these roles take
abbrev pub given_places : List Role → List ℕ
given_places [] = []
given_places (r ∷ roles) = places_of r ++ given_places roles

-- the words of the feed, where its role is that of a feed that the call leaves out
abbrev pub words_left : KeptFeed → Role → List (List ℕ)
words_left f (Given i) = []
words_left f Clock = []
words_left f Unnamed = f.words ∷ []

-- the words of the feeds that the call leaves out, by the roles of these feeds
abbrev pub left_out : List KeptFeed → List Role → List (List ℕ)
left_out [] roles = []
left_out (f ∷ feeds) [] = []
left_out (f ∷ feeds) (r ∷ roles) = words_left f r ++ left_out feeds roles

-- the role is not that of the clock feed; and where it is that of a feed of the call, its index has this property
abbrev pub IfGiven : Role → (ℕ → Type 0) → Type 0
IfGiven (Given i) P = P i
IfGiven Clock P = ⊥
IfGiven Unnamed P = Unit {0}

-- the feed of this number is the clock feed, or the call has its words at this index, or leaves it out
abbrev pub Fits : (words : List (List ℕ)) → (clock : Option ℕ) → (number : ℕ) → KeptFeed → Role → Type 0
Fits words clock number f (Given i) = (is_clock clock number ≡ false) × (word_at words i ≡ f.words)
Fits words clock number f Clock = is_clock clock number ≡ true
Fits words clock number f Unnamed = is_clock clock number ≡ false

-- each feed from this number on fits its role
abbrev pub AreFit : (words : List (List ℕ)) → (clock : Option ℕ) → (number : ℕ) → List KeptFeed → List Role → Type 0
AreFit words clock number [] [] = Unit {0}
AreFit words clock number [] (r ∷ roles) = ⊥
AreFit words clock number (f ∷ feeds) [] = ⊥
AreFit words clock number (f ∷ feeds) (r ∷ roles) = Fits words clock number f r × AreFit words clock (number + 1) feeds roles

-- the call asks for a clock feed, and there is none yet
abbrev pub asks_anew : Option ℕ → Bool → Bool
asks_anew None has_clock = has_clock
asks_anew (Some k) has_clock = false

-- the number of the clock feed, where a new clock feed gets this number
abbrev pub clock_after : (before : Option ℕ) → (has_clock : Bool) → (number : ℕ) → Option ℕ
clock_after before has_clock number = if asks_anew before has_clock then Some number else before
