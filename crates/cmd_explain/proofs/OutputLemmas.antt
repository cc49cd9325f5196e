-- No meaning has a line feed, so the lines of the printed text are the shown lines.
use Rattle.std.proofs.Common.{◌≡◌, ◌≢◌, ℕ, zero, suc, ◌+◌, ◌/◌, ◌%◌, ◌==◌, Bool, true, false, not, List, [], ◌∷◌, ◌++◌, length, Option, Some, None, nat_lt, if◌then◌else◌, refl, ap, ◌∙◌, arith, append_assoc, codes, nat_eq}
use Rattle.std.specs.List.{list_any}
use Rattle.std.specs.Fmt.{decimal, digits, digits_onto, digit_glyph}
use Rattle.cmd_types.specs.Bytes.{Lacks}
use Rattle.cmd_types.specs.Laws.{Laws}
use Rattle.cmd_types.specs.TextLines.{split_lines, AreParts}
use Rattle.cmd_lines.specs.declared.fault.LineFault.{LineFault}
use Rattle.cmd_lines.specs.declared.fault.LineFault.TheVariants as fault
use Rattle.cmd_journal.specs.declared.fault.ReadCause.{ReadCause}
use Rattle.cmd_journal.specs.declared.fault.ReadCause.TheVariants as journal
use Rattle.cmd_run.specs.declared.ending.Ending.{Ending}
use Rattle.cmd_run.specs.declared.ending.Ending.TheVariants as ending
use Rattle.cmd_run.specs.declared.fault.RunCause.{RunCause}
use Rattle.cmd_run.specs.declared.fault.RunCause.TheVariants as run
use Rattle.cmd_answer.specs.declared.state_stop.StateWord.{StateWord}
use Rattle.cmd_answer.specs.declared.state_stop.StateWord.TheVariants as word
use Rattle.mon_engine.specs.declared.outcome.Reason.{Reason}
use Rattle.mon_engine.specs.declared.outcome.Reason.TheVariants as reason
use Rattle.mon_engine.specs.declared.withheld.Withheld.{Withheld}
use Rattle.mon_engine.specs.declared.withheld.Withheld.TheVariants as by
use Rattle.mon_inventory.specs.declared.fault.Cause.{Cause}
use Rattle.mon_inventory.specs.declared.fault.Cause.TheVariants as inventory
use Rattle.mon_state.specs.declared.fault.StateCause.{StateCause}
use Rattle.mon_state.specs.declared.fault.StateCause.TheVariants as state
use Rattle.cmd_explain.specs.declared.known.KnownLine.{KnownLine}
use Rattle.cmd_explain.specs.declared.known.KnownLine.TheVariants.{Usage, Input, Feeds, FeedTwice, Memory, Output, Open, Inventory, Journal, Fault, State, StateLine, StateInventory, StateJournal, Following, Waits, Replaced, Anew, Ended, ClockAhead, Absent, NewInventory, InventoryRefused, ToldMissing, Refused, Rejected, Feed, Times}
use Rattle.cmd_explain.specs.Words.{inventory_words, journal_words, state_line_words, state_words, absence_words, run_words, ending_words, fault_words, reason_words, withheld_words}
use Rattle.cmd_explain.specs.Meanings.{pieces_of, together, meaning}
use Rattle.cmd_explain.specs.Explained.{known_by_line, whole_lines, lines_of, meaning_lines, shown_lines, ended, taken_away}
use Rattle.cmd_explain.specs.Laws.{LosesNothing}
use Rattle.cmd_explain.proofs.LineLemmas.{before_text}
use Rattle.cmd_explain.proofs.LawLemmas.{without_meanings}

-- no byte is a line feed
abbrev has_none : List ℕ → Bool
has_none xs = not (list_any (λ x. nat_eq x 10) xs)

record IsOneLine (xs : List ℕ) : Type 0 where
  lacks : Lacks 10 xs

-- each of the texts has none
abbrev LackAll : List (List ℕ) → Type 0
LackAll [] = Unit {0}
LackAll (x ∷ xs) = IsOneLine x × LackAll xs

-- ---- a number

glyph_is_none : (d : ℕ) → digit_glyph false d ≢ 10
glyph_is_none d = by (nat_lt d 10)
  where
    by : (b : Bool) → (if b then 48 + d else 87 + d) ≡ 10 → ⊥
    by true e = omega arith
    by false e = omega arith

onto_lacks : (k n : ℕ) (acc : List ℕ) → Lacks 10 acc → Lacks 10 (digits_onto k 10 false n acc)
onto_lacks zero n acc h = h
onto_lacks (suc k) n acc h = step (n / 10 == 0) (onto_lacks k (n / 10) (digit_glyph false (n % 10) ∷ acc) (glyph_is_none (n % 10), h))
  where
    step : (b : Bool) → Lacks 10 (digits_onto k 10 false (n / 10) (digit_glyph false (n % 10) ∷ acc)) → Lacks 10 (if b then digit_glyph false (n % 10) ∷ acc else digits_onto k 10 false (n / 10) (digit_glyph false (n % 10) ∷ acc))
    step true more = (glyph_is_none (n % 10), h)
    step false more = more

number_lacks : (n : ℕ) → IsOneLine (decimal n)
unfolding digits
number_lacks n = record { lacks = onto_lacks 64 n [] tt }

-- ---- words

inventory_words_none : (x : Cause) → has_none (inventory_words x) ≡ true
inventory_words_none inventory.BadForm = refl
inventory_words_none inventory.BadNumber = refl
inventory_words_none inventory.BadOption = refl
inventory_words_none inventory.Duplicate = refl
inventory_words_none inventory.UnknownHost = refl
inventory_words_none inventory.UnknownService = refl
inventory_words_none inventory.UnknownContact = refl
inventory_words_none inventory.TooMany = refl
inventory_words_none inventory.Memory = refl

journal_words_none : (x : ReadCause) → has_none (journal_words x) ≡ true
journal_words_none journal.BadEntry = refl
journal_words_none journal.BadPlace = refl
journal_words_none journal.BadClock = refl
journal_words_none journal.Full = refl
journal_words_none journal.Memory = refl

state_line_words_none : (x : StateCause) → has_none (state_line_words x) ≡ true
state_line_words_none state.BadLine = refl
state_line_words_none state.BadValue = refl
state_line_words_none state.NotAsWritten = refl
state_line_words_none state.UnknownVersion = refl
state_line_words_none state.Memory = refl

state_words_none : (x : StateWord) → has_none (state_words x) ≡ true
state_words_none word.NotThere = refl
state_words_none word.Lock = refl
state_words_none word.InUse = refl
state_words_none word.Read = refl
state_words_none word.Mark = refl
state_words_none word.Inventory = refl
state_words_none word.Feeds = refl
state_words_none word.Told = refl
state_words_none word.Full = refl
state_words_none word.File = refl
state_words_none word.Journal = refl
state_words_none word.Sync = refl
state_words_none word.Status = refl

absence_words_none : (x : Bool) → has_none (absence_words x) ≡ true
absence_words_none false = refl
absence_words_none true = refl

ending_words_none : (x : Ending) → has_none (ending_words x) ≡ true
ending_words_none ending.Whole = refl
ending_words_none ending.ReadFailed = refl
ending_words_none ending.TooManyReads = refl
ending_words_none ending.Memory = refl
ending_words_none ending.QueueRefused = refl

reason_words_none : (x : Reason) → has_none (reason_words x) ≡ true
reason_words_none reason.UnknownHost = refl
reason_words_none reason.UnknownService = refl
reason_words_none reason.UnknownContact = refl
reason_words_none reason.NoSuchComment = refl
reason_words_none reason.NoSuchDowntime = refl
reason_words_none reason.NotAProblem = refl
reason_words_none reason.BadWindow = refl
reason_words_none reason.PastWindow = refl
reason_words_none reason.NoDuration = refl
reason_words_none reason.NoTrigger = refl
reason_words_none reason.TriggerOver = refl
reason_words_none reason.PassiveOff = refl

withheld_words_none : (x : Withheld) → has_none (withheld_words x) ≡ true
withheld_words_none by.Program = refl
withheld_words_none by.Switch = refl
withheld_words_none by.Downtime = refl
withheld_words_none by.Host = refl
withheld_words_none by.Letter = refl
withheld_words_none by.Acknowledged = refl
withheld_words_none by.Soft = refl
withheld_words_none by.NotBefore = refl
withheld_words_none by.Interval = refl
withheld_words_none by.Delay = refl
withheld_words_none by.Settle = refl
withheld_words_none by.Nobody = refl

module _ (laws : Laws) where
  words : (xs : List ℕ) → has_none xs ≡ true → IsOneLine xs
  words xs h = record { lacks = laws.lacking.tested 10 xs h }

  run_lack : (c : RunCause) → LackAll (run_words c)
  run_lack run.BadOptions = (words _ refl, tt)
  run_lack run.Memory = (words _ refl, tt)
  run_lack (run.Spawn k) = (words _ refl, (number_lacks k, (words _ refl, tt)))
  run_lack run.JournalFull = (words _ refl, tt)
  run_lack run.QueueLost = (words _ refl, tt)
  run_lack (run.SenderStopped k) = (words _ refl, (number_lacks k, (words _ refl, tt)))
  run_lack run.Output = (words _ refl, tt)

  fault_lack : (f : LineFault) → LackAll (fault_words f)
  fault_lack fault.TooLong = (words _ refl, tt)
  fault_lack fault.Torn = (words _ refl, tt)
  fault_lack fault.NoBracket = (words _ refl, tt)
  fault_lack fault.BadTime = (words _ refl, tt)
  fault_lack fault.NoSpace = (words _ refl, tt)
  fault_lack fault.UnknownCommand = (words _ refl, tt)
  fault_lack (fault.Missing k) = (words _ refl, (number_lacks k, (words _ refl, tt)))
  fault_lack (fault.EmptyName k) = (words _ refl, (number_lacks k, (words _ refl, tt)))
  fault_lack (fault.BadNumber k) = (words _ refl, (number_lacks k, (words _ refl, tt)))
  fault_lack fault.Memory = (words _ refl, tt)

  pieces_lack : (known : KnownLine) → LackAll (pieces_of known)
  pieces_lack Usage = (words _ refl, tt)
  pieces_lack Input = (words _ refl, tt)
  pieces_lack Feeds = (words _ refl, tt)
  pieces_lack FeedTwice = (words _ refl, tt)
  pieces_lack Memory = (words _ refl, tt)
  pieces_lack Output = (words _ refl, tt)
  pieces_lack Open = (words _ refl, tt)
  pieces_lack (Inventory n c) = (words _ refl, (number_lacks n, (words _ (inventory_words_none c), tt)))
  pieces_lack (Journal n c) = (words _ refl, (number_lacks n, (words _ refl, (words _ (journal_words_none c), tt))))
  pieces_lack (Fault c) = (words _ refl, run_lack c)
  pieces_lack (State w) = (words _ (state_words_none w), tt)
  pieces_lack (StateLine n c) = (words _ refl, (number_lacks n, (words _ refl, (words _ (state_line_words_none c), tt))))
  pieces_lack (StateInventory n c) = (words _ refl, (number_lacks n, (words _ refl, (words _ (inventory_words_none c), tt))))
  pieces_lack (StateJournal n c) = (words _ refl, (number_lacks n, (words _ refl, (words _ (journal_words_none c), tt))))
  pieces_lack (Following a b d) = (words _ refl, (number_lacks a, (words _ refl, (number_lacks b, (words _ refl, (number_lacks d, tt))))))
  pieces_lack (Waits a b d) = (words _ refl, (number_lacks b, (words _ refl, (number_lacks a, (words _ refl, (number_lacks d, tt))))))
  pieces_lack (Replaced a) = (words _ refl, (number_lacks a, (words _ refl, tt)))
  pieces_lack (Anew a) = (words _ refl, (number_lacks a, (words _ refl, tt)))
  pieces_lack (Ended a e) = (words _ refl, (number_lacks a, (words _ refl, (words _ (ending_words_none e), tt))))
  pieces_lack (ClockAhead a) = (words _ refl, (number_lacks a, (words _ refl, tt)))
  pieces_lack (Absent b) = (words _ (absence_words_none b), tt)
  pieces_lack (NewInventory a b) = (words _ refl, (number_lacks a, (words _ refl, (number_lacks b, tt))))
  pieces_lack (InventoryRefused n c) = (words _ refl, (number_lacks n, (words _ refl, (words _ (inventory_words_none c), (words _ refl, tt)))))
  pieces_lack (ToldMissing a b) = (words _ refl, (number_lacks b, (words _ refl, (number_lacks a, (words _ refl, tt)))))
  pieces_lack (Refused a b f) = (words _ refl, (number_lacks b, (words _ refl, (number_lacks a, (words _ refl, fault_lack f)))))
  pieces_lack (Rejected a b r) = (words _ refl, (number_lacks b, (words _ refl, (number_lacks a, (words _ refl, (words _ (reason_words_none r), tt))))))
  pieces_lack (Feed a b e) = (words _ refl, (number_lacks a, (words _ refl, (number_lacks b, (words _ refl, (words _ (ending_words_none e), tt))))))
  pieces_lack (Times None) = (words _ refl, tt)
  pieces_lack (Times (Some w)) = (words _ refl, (words _ (withheld_words_none w), tt))

  together_lacks : (pieces : List (List ℕ)) → LackAll pieces → Lacks 10 (together pieces)
  together_lacks [] h = tt
  together_lacks (piece ∷ pieces) h = laws.lacking.join 10 piece (together pieces) h.0.lacks (together_lacks pieces h.1)

  meaning_lacks : (known : KnownLine) → IsOneLine (codes "    " ++ meaning known)
  meaning_lacks known = record { lacks = laws.lacking.join 10 (codes "    ") (meaning known) (laws.lacking.tested 10 (codes "    ") refl) (together_lacks (pieces_of known) (pieces_lack known)) }

  -- ---- the lines of a text, and those that are shown

  one_lacks : (line : List ℕ) (b : Bool) → Lacks 10 line → LackAll (if b then [] else line ∷ [])
  one_lacks line true h = tt
  one_lacks line false h = (record { lacks = h }, tt)

  whole_lack : (lines : List (List ℕ)) → AreParts lines → LackAll (whole_lines lines)
  whole_lack [] h = absurd h
  whole_lack (line ∷ []) h = one_lacks line (length line == 0) h
  whole_lack (line ∷ (next ∷ lines)) h = (record { lacks = h.0 }, whole_lack (next ∷ lines) h.1)

  behind_lacks : (known : Option KnownLine) (lines : List (List ℕ)) → LackAll lines → LackAll (meaning_lines known ++ lines)
  behind_lacks None lines h = h
  behind_lacks (Some known) lines h = (meaning_lacks known, h)

  shown_lack : (lines : List (List ℕ)) → LackAll lines → LackAll (shown_lines lines)
  shown_lack [] h = tt
  shown_lack (line ∷ lines) h = (h.0, behind_lacks (known_by_line line) (shown_lines lines) (shown_lack lines h.1))

  -- lines that were ended are the lines of that text
  lines_ended : (lines : List (List ℕ)) → LackAll lines → lines_of (ended lines) ≡ lines
  unfolding split_lines
  lines_ended [] h = refl
  lines_ended (line ∷ lines) h =
      ap lines_of (append_assoc line (10 ∷ []) (ended lines))
      ∙ ap whole_lines (laws.lines.ended line (ended lines) h.0.lacks)
      ∙ before_text line (ended lines)
      ∙ ap (λ (ls : List (List ℕ)). line ∷ ls) (lines_ended lines h.1)

  pub loses_nothing : LosesNothing
  loses_nothing text =
      ap (taken_away false) (lines_ended (shown_lines (lines_of text)) (shown_lack (lines_of text) (whole_lack (split_lines text) (laws.lines.parts text).0)))
      ∙ without_meanings (lines_of text)
