-- The kind and the numbers of a line that the program prints, by the line's form.
use Rattle.std.specs.Prelude.{ℕ, List, [], ◌∷◌, ◌++◌, Option, Some, None, option_map, codes}
use Rattle.std.specs.List.{find}
use Rattle.std.specs.Str.{bytes_eq}
use Rattle.cmd_run.specs.declared.ending.Ending.{Ending}
use Rattle.cmd_answer.specs.declared.state_stop.StateWord.{StateWord}
use Rattle.cmd_answer.specs.StateStops.{word_text}
use Rattle.cmd_answer.specs.Printed.{ending_text}
use Rattle.cmd_explain.specs.declared.kinds.LineKind.{LineKind}
use Rattle.cmd_explain.specs.declared.kinds.LineKind.TheVariants as kind
use Rattle.cmd_explain.specs.declared.known.KnownLine.{KnownLine}
use Rattle.cmd_explain.specs.declared.known.KnownLine.TheVariants.{Usage, Input, Feeds, FeedTwice, Memory, Output, Inventory, Journal, Fault, State, StateLine, StateInventory, StateJournal, Following, Waits, Replaced, Anew, Ended, ClockAhead, NewInventory, InventoryRefused, ToldMissing, Refused, Rejected, Feed}
use Rattle.cmd_explain.specs.declared.kinds.TheConstants.{KINDS}
use Rattle.cmd_explain.specs.Codes.{inventory_cause, journal_cause, state_cause, reason_of, run_cause, line_fault}

-- ---- forms

abbrev pub state_form : StateWord → List ℕ
state_form word = codes "gateway: state " ++ word_text word

abbrev pub ended_form : Ending → List ℕ
ended_form ending = codes "gateway: feed 0: " ++ ending_text ending

abbrev pub feed_form : Ending → List ℕ
feed_form ending = codes "feed;0;0;" ++ ending_text ending

-- the line of each kind, with each number written as 0
abbrev pub form_of : LineKind → List ℕ
form_of kind.Usage = codes "gateway: usage"
form_of kind.Input = codes "gateway: input"
form_of kind.Feeds = codes "gateway: feeds"
form_of kind.FeedTwice = codes "gateway: feed twice"
form_of kind.Memory = codes "gateway: memory"
form_of kind.Output = codes "gateway: output"
form_of kind.Inventory = codes "gateway: inventory line 0: 0"
form_of kind.Journal = codes "gateway: journal line 0: 0"
form_of kind.Fault = codes "gateway: fault 0 0"
form_of (kind.State word) = state_form word
form_of kind.StateLine = codes "gateway: state line 0: 0"
form_of kind.StateInventory = codes "gateway: state inventory line 0: 0"
form_of kind.StateJournal = codes "gateway: state journal line 0: 0"
form_of kind.Following = codes "gateway: following 0 feeds, 0 entries, clock 0"
form_of kind.Waits = codes "gateway: feed 0 waits: line 0 is 0 seconds ahead"
form_of kind.Replaced = codes "gateway: feed 0: replaced"
form_of kind.Anew = codes "gateway: feed 0: begins anew"
form_of (kind.Ended ending) = ended_form ending
form_of kind.ClockAhead = codes "gateway: clock: 0 seconds ahead"
form_of kind.NewInventory = codes "gateway: inventory: 0 hosts, 0 services"
form_of kind.InventoryRefused = codes "gateway: inventory refused: line 0: 0"
form_of kind.ToldMissing = codes "gateway: told 0.0: not there"
form_of kind.Refused = codes "refused;0;0;0;0"
form_of kind.Rejected = codes "rejected;0;0;0"
form_of kind.NoReport = codes "fault;0;0"
form_of (kind.Feed ending) = feed_form ending

-- the kind whose form this is
unfoldable pub kind_of : (form : List ℕ) → Option LineKind
kind_of form = find (λ k. bytes_eq (form_of k) form) KINDS

-- ---- what a line says

-- what a line of a kind says with these numbers; none where their count differs from that in the form, or a number
-- stands for no cause, fault or reason
unfoldable pub line_of : LineKind → (numbers : List ℕ) → Option KnownLine
line_of kind.Usage [] = Some Usage
line_of kind.Input [] = Some Input
line_of kind.Feeds [] = Some Feeds
line_of kind.FeedTwice [] = Some FeedTwice
line_of kind.Memory [] = Some Memory
line_of kind.Output [] = Some Output
line_of (kind.State word) [] = Some (State word)
line_of kind.Replaced (feed ∷ []) = Some (Replaced feed)
line_of kind.Anew (feed ∷ []) = Some (Anew feed)
line_of (kind.Ended ending) (feed ∷ []) = Some (Ended feed ending)
line_of kind.ClockAhead (seconds ∷ []) = Some (ClockAhead seconds)
line_of kind.NewInventory (hosts ∷ (services ∷ [])) = Some (NewInventory hosts services)
line_of kind.ToldMissing (segment ∷ (line ∷ [])) = Some (ToldMissing segment line)
line_of kind.InventoryRefused (line ∷ (cause ∷ [])) = option_map (InventoryRefused line) (inventory_cause cause)
line_of kind.Inventory (line ∷ (cause ∷ [])) = option_map (Inventory line) (inventory_cause cause)
line_of kind.Journal (line ∷ (cause ∷ [])) = option_map (Journal line) (journal_cause cause)
line_of kind.Fault (cause ∷ (feed ∷ [])) = option_map Fault (run_cause cause feed)
line_of kind.NoReport (cause ∷ (feed ∷ [])) = option_map Fault (run_cause cause feed)
line_of kind.StateLine (line ∷ (cause ∷ [])) = option_map (StateLine line) (state_cause cause)
line_of kind.StateInventory (line ∷ (cause ∷ [])) = option_map (StateInventory line) (inventory_cause cause)
line_of kind.StateJournal (line ∷ (cause ∷ [])) = option_map (StateJournal line) (journal_cause cause)
line_of (kind.Feed ending) (feed ∷ (accepted ∷ [])) = Some (Feed feed accepted ending)
line_of kind.Following (feeds ∷ (entries ∷ (clock ∷ []))) = Some (Following feeds entries clock)
line_of kind.Waits (feed ∷ (line ∷ (seconds ∷ []))) = Some (Waits feed line seconds)
line_of kind.Rejected (feed ∷ (place ∷ (reason ∷ []))) = option_map (Rejected feed place) (reason_of reason)
line_of kind.Refused (feed ∷ (line ∷ (fault ∷ (argument ∷ [])))) = option_map (Refused feed line) (line_fault fault argument)
line_of _ _ = None
