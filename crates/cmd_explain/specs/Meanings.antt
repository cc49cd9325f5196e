-- The meaning of a line in words.
use Rattle.std.specs.Prelude.{ℕ, List, [], ◌∷◌, ◌++◌, Some, None, codes}
use Rattle.std.specs.Fmt.{decimal}
use Rattle.cmd_explain.specs.declared.known.KnownLine.{KnownLine}
use Rattle.cmd_explain.specs.declared.known.KnownLine.TheVariants.{Usage, Input, Feeds, FeedTwice, Memory, Output, Open, Inventory, Journal, Fault, State, StateLine, StateInventory, StateJournal, Following, Waits, Replaced, Anew, Ended, ClockAhead, Absent, NewInventory, InventoryRefused, ToldMissing, Refused, Rejected, Feed, Times}
use Rattle.cmd_explain.specs.declared.pieces.Piece.{Piece}
use Rattle.cmd_explain.specs.declared.pieces.Piece.TheVariants as code
use Rattle.cmd_explain.specs.Words.{inventory_words, journal_words, state_line_words, state_words, run_words, absence_words, ending_words, fault_words, reason_words, withheld_words}

-- the meaning of a line, in pieces
abbrev pub pieces_of : KnownLine → List (List ℕ)
pieces_of Usage = codes "the words ask for nothing that the program does, or a value is out of its range" ∷ []
pieces_of Input = codes "the input could not be read to its end" ∷ []
pieces_of Feeds = codes "there is no separator, or no feed, or there are more than 64, a clock among them" ∷ []
pieces_of FeedTwice = codes "the words name a feed twice" ∷ []
pieces_of Memory = codes "memory was wanting" ∷ []
pieces_of Output = codes "the output failed: not all stands there" ∷ []
pieces_of Open = codes "the file cannot be opened; or it is the inventory, and cannot be read to its end" ∷ []
pieces_of (Inventory line cause) = codes "line " ∷ decimal line ∷ inventory_words cause ∷ []
pieces_of (Journal line cause) = codes "line " ∷ decimal line ∷ codes " of the journal" ∷ journal_words cause ∷ []
pieces_of (Fault cause) = codes "the run failed: " ∷ run_words cause
pieces_of (State word) = state_words word ∷ []
pieces_of (StateLine line cause) = codes "line " ∷ decimal line ∷ codes " of the file state" ∷ state_line_words cause ∷ []
pieces_of (StateInventory line cause) = codes "line " ∷ decimal line ∷ codes " of the inventory in the file state" ∷ inventory_words cause ∷ []
pieces_of (StateJournal line cause) = codes "line " ∷ decimal line ∷ codes " of the last segment of the journal" ∷ journal_words cause ∷ []
pieces_of (Following feeds entries clock) =
    codes "feeds that are followed: " ∷ decimal feeds ∷ codes "; commands that were applied before: " ∷ decimal entries ∷ codes "; the clock is " ∷ decimal clock ∷ []
pieces_of (Waits feed line seconds) =
    codes "the command in line " ∷ decimal line ∷ codes " of feed " ∷ decimal feed ∷ codes " waits; seconds from the system's clock to its time: " ∷ decimal seconds ∷ []
pieces_of (Replaced feed) = codes "the file of feed " ∷ decimal feed ∷ codes " got shorter, or its name is that of another file or of none" ∷ []
pieces_of (Anew feed) = codes "the file of feed " ∷ decimal feed ∷ codes " is not the one that was read before, and is read from its beginning" ∷ []
pieces_of (Ended feed ending) = codes "feed " ∷ decimal feed ∷ codes " has ended: " ∷ ending_words ending ∷ []
pieces_of (ClockAhead seconds) = codes "the system's clock jumped ahead of the time that passed; seconds: " ∷ decimal seconds ∷ codes "; the clock feed uses it again once five readings agree" ∷ []
pieces_of (Absent is_there) = absence_words is_there ∷ []
pieces_of (NewInventory hosts services) = codes "a new inventory was taken without a restart; hosts: " ∷ decimal hosts ∷ codes "; services: " ∷ decimal services ∷ []
pieces_of (InventoryRefused line cause) = codes "line " ∷ decimal line ∷ codes " of the new inventory" ∷ inventory_words cause ∷ codes "; the old inventory stays in force" ∷ []
pieces_of (ToldMissing segment line) = codes "line " ∷ decimal line ∷ codes " of the file told." ∷ decimal segment ∷ codes " is not there; the lines begin at the first later one that is, or else at the first of all" ∷ []
pieces_of (Refused feed line fault) = codes "line " ∷ decimal line ∷ codes " of feed " ∷ decimal feed ∷ codes " is no command: " ∷ fault_words fault
pieces_of (Rejected feed place reason) = codes "command " ∷ decimal place ∷ codes " of feed " ∷ decimal feed ∷ codes " had no effect: " ∷ reason_words reason ∷ []
pieces_of (Feed feed accepted ending) = codes "commands that feed " ∷ decimal feed ∷ codes " gave: " ∷ decimal accepted ∷ codes "; " ∷ ending_words ending ∷ []
pieces_of (Times None) = codes "nothing withholds a notice of the object now" ∷ []
pieces_of (Times (Some withheld)) = codes "nobody is notified of the problem now: " ∷ withheld_words withheld ∷ []

-- the text of these pieces, one after another
abbrev pub together : List (List ℕ) → List ℕ
together [] = []
together (piece ∷ pieces) = piece ++ together pieces

-- the meaning of a line
abbrev pub meaning : KnownLine → List ℕ
meaning known = together (pieces_of known)

-- ---- of private contracts alone

-- a piece as the code writes it
abbrev pub shown : Piece → List ℕ
shown (code.Words words) = words.now
shown (code.Number n) = decimal n
