-- The laws that every line that the program prints is known, and that explaining loses nothing.
use Rattle.std.specs.Prelude.{◌≡◌, ◌<◌, ◌≤◌, ℕ, false, List, [], ◌∷◌, ◌++◌, Option, Some, IfSome, slice_get, codes}
use Rattle.cmd_types.specs.declared.entry.TheConstants.{MOST_SENDERS}
use Rattle.cmd_types.specs.declared.limits.TheConstants.{GREATEST_NUMBER}
use Rattle.cmd_lines.specs.declared.fault.LineFault.{LineFault}
use Rattle.cmd_lines.specs.Faults.{fault_number, fault_argument}
use Rattle.cmd_journal.specs.declared.fault.ReadCause.{ReadCause}
use Rattle.cmd_journal.specs.Faults as of_journal
use Rattle.cmd_run.specs.declared.fault.RunCause.{RunCause}
use Rattle.cmd_run.specs.Causes as of_run
use Rattle.mon_engine.specs.declared.outcome.Reason.{Reason}
use Rattle.mon_engine.specs.declared.outcome.Rejection.{Rejection}
use Rattle.mon_engine.specs.declared.object.Object.{Object}
use Rattle.mon_engine.specs.declared.withheld.Withheld.{Withheld}
use Rattle.mon_engine.specs.Report.{rejected_line}
use Rattle.mon_engine.specs.Saved.{AreMoments}
use Rattle.mon_engine.specs.Status.{withheld_now, times_line}
use Rattle.mon_engine.specs.Words.{reason_number, withheld_text}
use Rattle.mon_engine.specs.World.{World}
use Rattle.mon_inventory.specs.declared.records.ObjectSpec.{ObjectSpec}
use Rattle.mon_inventory.specs.Configuration.{Configuration}
use Rattle.mon_inventory.specs.declared.fault.Cause.{Cause}
use Rattle.mon_inventory.specs.Cause as of_inventory
use Rattle.mon_state.specs.declared.fault.StateCause.{StateCause}
use Rattle.cmd_run.specs.declared.ending.Ending.{Ending}
use Rattle.cmd_answer.specs.declared.stop.Stop.TheVariants as stop
use Rattle.cmd_answer.specs.declared.state_stop.StateStop.TheVariants as state_stop
use Rattle.cmd_answer.specs.declared.state_stop.StateWord.{StateWord}
use Rattle.cmd_answer.specs.declared.follow_line.AbsentFeed.{AbsentFeed}
use Rattle.cmd_answer.specs.declared.follow_line.FollowLine.TheVariants as follow
use Rattle.cmd_answer.specs.FollowLines.{follow_line, absent_line}
use Rattle.cmd_answer.specs.Printed.{fault_line, feed_line, refused_line}
use Rattle.cmd_answer.specs.Stops.{stop_line}
use Rattle.cmd_answer.specs.StateStops.{state_line, state_stop_line}
use Rattle.cmd_explain.specs.declared.kinds.LineKind.{LineKind}
use Rattle.cmd_explain.specs.declared.known.KnownLine.{KnownLine}
use Rattle.cmd_explain.specs.declared.known.KnownLine.TheVariants.{Usage, Input, Feeds, FeedTwice, Memory, Output, Open, Inventory, Journal, Fault, State, StateLine, StateInventory, StateJournal, Following, Waits, Replaced, Anew, Ended, ClockAhead, Absent, NewInventory, InventoryRefused, ToldMissing, Refused, Rejected, Feed, Times}
use Rattle.mon_state.specs.Causes as of_state
use Rattle.cmd_explain.specs.Codes.{inventory_cause, journal_cause, state_cause, reason_of, run_cause, line_fault}
use Rattle.cmd_explain.specs.KnownLines.{form_of, kind_of}
use Rattle.cmd_explain.specs.Times.{withheld_of}
use Rattle.cmd_explain.specs.Explained.{known_line, lines_of, explained, taken_away}

-- each cause, fault and reason is found by its number, all that can withhold a notice by its word, and each kind of line
-- by its form
pub record FindsAll : Type 0 where
  pub inventory : (c : Cause) → inventory_cause (of_inventory.cause_number c) ≡ Some c
  pub journal : (c : ReadCause) → journal_cause (of_journal.cause_number c) ≡ Some c
  pub state : (c : StateCause) → state_cause (of_state.cause_number c) ≡ Some c
  pub reasons : (r : Reason) → reason_of (reason_number r) ≡ Some r
  pub runs : (c : RunCause) → of_run.cause_sender c < MOST_SENDERS → run_cause (of_run.cause_number c) (of_run.cause_sender c) ≡ Some c
  pub faults : (f : LineFault) → fault_argument f < 256 → line_fault (fault_number f) (fault_argument f) ≡ Some f
  pub withheld : (w : Option Withheld) → withheld_of (withheld_text w) ≡ Some w
  pub kinds : (k : LineKind) → kind_of (form_of k) ≡ Some k

-- the text is one line with its line feed, which is known and says this
abbrev pub IsKnownAs : (text : List ℕ) → KnownLine → Type 0
IsKnownAs text known = (line : List ℕ) × (text ≡ line ++ 10 ∷ []) × (known_line line ≡ Some known)

-- Each line that the program prints on its end, a run, a feed, a refused line and a rejected command is known, and so
-- is each line of a run that follows feeds. The line says for which event it was printed. The line of the status on the
-- moments of an object says what withholds the notice of its problem. The numbers in a line are at most the greatest
-- number that a command may have
pub record KnowsAll : Type 0 where
  pub usage : IsKnownAs (stop_line stop.Usage) Usage
  pub input : IsKnownAs (stop_line stop.Input) Input
  pub feeds : IsKnownAs (stop_line stop.Feeds) Feeds
  pub feed_twice : IsKnownAs (stop_line stop.FeedTwice) FeedTwice
  pub memory : IsKnownAs (stop_line stop.Memory) Memory
  pub output : IsKnownAs (stop_line stop.Output) Output
  pub unopened : (path : List ℕ) → IsKnownAs (codes "gateway: open " ++ (path ++ 10 ∷ [])) Open
  pub inventory : (n : ℕ) (c : Cause) → n ≤ GREATEST_NUMBER → IsKnownAs (stop_line (stop.Inventory n (of_inventory.cause_number c))) (Inventory n c)
  pub journal : (n : ℕ) (c : ReadCause) → n ≤ GREATEST_NUMBER → IsKnownAs (stop_line (stop.Journal n (of_journal.cause_number c))) (Journal n c)
  pub fault : (c : RunCause) → of_run.cause_sender c < MOST_SENDERS → IsKnownAs (stop_line (stop.Fault (of_run.cause_number c) (of_run.cause_sender c))) (Fault c)
  pub state : (w : StateWord) → IsKnownAs (state_line w) (State w)
  pub state_line : (n : ℕ) (c : StateCause) → n ≤ GREATEST_NUMBER → IsKnownAs (state_stop_line (state_stop.StateLine n (of_state.cause_number c))) (StateLine n c)
  pub state_inventory : (n : ℕ) (c : Cause) → n ≤ GREATEST_NUMBER → IsKnownAs (state_stop_line (state_stop.InventoryLine n (of_inventory.cause_number c))) (StateInventory n c)
  pub state_journal : (n : ℕ) (c : ReadCause) → n ≤ GREATEST_NUMBER → IsKnownAs (state_stop_line (state_stop.JournalLine n (of_journal.cause_number c))) (StateJournal n c)
  pub following : (feeds entries clock : ℕ) → feeds ≤ GREATEST_NUMBER → entries ≤ GREATEST_NUMBER → clock ≤ GREATEST_NUMBER → IsKnownAs (follow_line (follow.Following feeds entries clock)) (Following feeds entries clock)
  pub waits : (feed n seconds : ℕ) → feed ≤ GREATEST_NUMBER → n ≤ GREATEST_NUMBER → seconds ≤ GREATEST_NUMBER → IsKnownAs (follow_line (follow.Waits feed n seconds)) (Waits feed n seconds)
  pub replaced : (feed : ℕ) → feed ≤ GREATEST_NUMBER → IsKnownAs (follow_line (follow.Replaced feed)) (Replaced feed)
  pub anew : (feed : ℕ) → feed ≤ GREATEST_NUMBER → IsKnownAs (follow_line (follow.Anew feed)) (Anew feed)
  pub ended : (feed : ℕ) (e : Ending) → feed ≤ GREATEST_NUMBER → IsKnownAs (follow_line (follow.Ended feed e)) (Ended feed e)
  pub clock_ahead : (seconds : ℕ) → seconds ≤ GREATEST_NUMBER → IsKnownAs (follow_line (follow.ClockAhead seconds)) (ClockAhead seconds)
  pub absent : (feed : AbsentFeed) → IsKnownAs (absent_line feed) (Absent feed.is_there)
  pub new_inventory : (hosts services : ℕ) → hosts ≤ GREATEST_NUMBER → services ≤ GREATEST_NUMBER → IsKnownAs (follow_line (follow.NewInventory hosts services)) (NewInventory hosts services)
  pub inventory_refused : (n : ℕ) (c : Cause) → n ≤ GREATEST_NUMBER → IsKnownAs (follow_line (follow.InventoryRefused n c)) (InventoryRefused n c)
  pub told_missing : (segment n : ℕ) → segment ≤ GREATEST_NUMBER → n ≤ GREATEST_NUMBER → IsKnownAs (follow_line (follow.ToldMissing segment n)) (ToldMissing segment n)
  pub refused : (feed n : ℕ) (f : LineFault) → feed ≤ GREATEST_NUMBER → n ≤ GREATEST_NUMBER → fault_argument f < 256 → IsKnownAs (refused_line feed (n, f)) (Refused feed n f)
  pub rejected : (r : Rejection) → r.sender ≤ GREATEST_NUMBER → r.place ≤ GREATEST_NUMBER → IsKnownAs (rejected_line r) (Rejected r.sender r.place r.reason)
  pub no_report : (c : RunCause) → of_run.cause_sender c < MOST_SENDERS → IsKnownAs (fault_line (of_run.cause_number c) (of_run.cause_sender c)) (Fault c)
  pub feed : (k accepted : ℕ) (e : Ending) → k ≤ GREATEST_NUMBER → accepted ≤ GREATEST_NUMBER → IsKnownAs (feed_line k accepted e) (Feed k accepted e)
  pub times : (inv : Configuration) (w : World) (object : ℕ) (spec : ObjectSpec) (o : Object) → slice_get inv.objects object ≡ Some spec → slice_get w.objects object ≡ Some o → AreMoments o.moments → IfSome o.last (λ moment. moment ≤ GREATEST_NUMBER) → IsKnownAs (times_line inv w object) (Times (withheld_now inv w object o))

-- an explained text without its meanings has exactly the lines of the text, in their order
abbrev pub LosesNothing : Type 0
LosesNothing = (text : List ℕ) → taken_away false (lines_of (explained text)) ≡ lines_of text
