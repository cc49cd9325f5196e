-- The lines that the program prints are known, and say for which event they were printed.
use Rattle.std.proofs.Common.{◌≡◌, ℕ, ◌<◌, ◌≤◌, true, false, List, [], ◌∷◌, ◌++◌, Some, None, refl, sym, ap, ◌∙◌, arith, append_assoc, codes}
use Rattle.std.specs.Prelude.{option_map}
use Rattle.std.specs.Fmt.{decimal}
use Rattle.cmd_types.specs.declared.limits.TheConstants.{GREATEST_NUMBER}
use Rattle.cmd_types.specs.Laws.{Laws}
use Rattle.cmd_lines.specs.declared.fault.LineFault.{LineFault}
use Rattle.cmd_lines.specs.Faults.{fault_number, fault_argument}
use Rattle.cmd_journal.specs.Faults as of_journal
use Rattle.cmd_run.specs.declared.ending.Ending.{Ending}
use Rattle.cmd_run.specs.declared.ending.Ending.TheVariants as ending
use Rattle.cmd_run.specs.Causes as of_run
use Rattle.mon_engine.specs.declared.outcome.Reason.{Reason}
use Rattle.mon_engine.specs.Report.{rejected_line}
use Rattle.mon_engine.specs.Words.{reason_number}
use Rattle.mon_inventory.specs.Cause as of_inventory
use Rattle.cmd_answer.specs.declared.stop.Stop.TheVariants as stop
use Rattle.cmd_answer.specs.declared.state_stop.StateWord.{StateWord}
use Rattle.cmd_answer.specs.declared.state_stop.StateWord.TheVariants as word
use Rattle.cmd_answer.specs.Printed.{ending_text, fault_line, feed_line, refused_line}
use Rattle.cmd_answer.specs.Stops.{stop_line}
use Rattle.cmd_answer.specs.StateStops.{state_line}
use Rattle.cmd_explain.specs.declared.kinds.LineKind.TheVariants as kind
use Rattle.cmd_explain.specs.declared.known.KnownLine.{KnownLine}
use Rattle.cmd_explain.specs.declared.known.KnownLine.TheVariants.{Usage, Input, Feeds, FeedTwice, Memory, Output, Open, Inventory, Journal, Fault, State, StateLine, StateInventory, StateJournal, InventoryRefused, Refused, Rejected, Feed}
use Rattle.mon_state.specs.Causes as of_state
use Rattle.cmd_explain.specs.Parts.{form_behind, numbers_behind}
use Rattle.cmd_explain.specs.KnownLines.{kind_of, line_of}
use Rattle.cmd_explain.specs.Explained.{known_line}
use Rattle.cmd_explain.specs.Laws.{IsKnownAs, KnowsAll}
use Rattle.cmd_explain.proofs.NumberLemmas.{form_number, form_last, numbers_number, numbers_last}
use Rattle.cmd_explain.proofs.LawLemmas.{finds_all}
use Rattle.cmd_explain.proofs.KnownLemmas.{known_by, inventory_small, journal_small, state_small, run_small, fault_small, reason_small, small_two, small_three, small_four}
use Rattle.cmd_explain.proofs.TimesLemmas.{times_known}
use Rattle.cmd_explain.proofs.FollowLemmas.{following_known, waits_known, replaced_known, anew_known, ended_known, clock_ahead_known, absent_known, new_inventory_known, told_missing_known}

-- ---- lines without numbers

usage_known : IsKnownAs (stop_line stop.Usage) Usage
unfolding known_line kind_of line_of form_behind numbers_behind
usage_known = (codes "gateway: usage", refl, refl)

input_known : IsKnownAs (stop_line stop.Input) Input
unfolding known_line kind_of line_of form_behind numbers_behind
input_known = (codes "gateway: input", refl, refl)

feeds_known : IsKnownAs (stop_line stop.Feeds) Feeds
unfolding known_line kind_of line_of form_behind numbers_behind
feeds_known = (codes "gateway: feeds", refl, refl)

feed_twice_known : IsKnownAs (stop_line stop.FeedTwice) FeedTwice
unfolding known_line kind_of line_of form_behind numbers_behind
feed_twice_known = (codes "gateway: feed twice", refl, refl)

memory_known : IsKnownAs (stop_line stop.Memory) Memory
unfolding known_line kind_of line_of form_behind numbers_behind
memory_known = (codes "gateway: memory", refl, refl)

output_known : IsKnownAs (stop_line stop.Output) Output
unfolding known_line kind_of line_of form_behind numbers_behind
output_known = (codes "gateway: output", refl, refl)

unopened_known : (path : List ℕ) → IsKnownAs (codes "gateway: open " ++ (path ++ 10 ∷ [])) Open
unfolding known_line
unopened_known path = (codes "gateway: open " ++ path, refl, refl)

state_known : (w : StateWord) → IsKnownAs (state_line w) (State w)
unfolding known_line kind_of line_of form_behind numbers_behind
state_known word.NotThere = (codes "gateway: state not there", refl, refl)
state_known word.Lock = (codes "gateway: state lock", refl, refl)
state_known word.InUse = (codes "gateway: state in use", refl, refl)
state_known word.Read = (codes "gateway: state read", refl, refl)
state_known word.Mark = (codes "gateway: state mark", refl, refl)
state_known word.Inventory = (codes "gateway: state inventory", refl, refl)
state_known word.Feeds = (codes "gateway: state feeds", refl, refl)
state_known word.Told = (codes "gateway: state told", refl, refl)
state_known word.Full = (codes "gateway: state full", refl, refl)
state_known word.File = (codes "gateway: state file", refl, refl)
state_known word.Journal = (codes "gateway: state journal", refl, refl)
state_known word.Sync = (codes "gateway: state sync", refl, refl)
state_known word.Status = (codes "gateway: state status", refl, refl)

-- ---- a line of a text and a cause

module _ (laws : Laws) (n cause : ℕ) (small : n ≤ GREATEST_NUMBER) (least : cause ≤ GREATEST_NUMBER) where
  -- the number of the line and that of the cause
  tail : List ℕ
  tail = decimal n ++ (codes ": " ++ decimal cause)

  form_of_tail : form_behind false tail ≡ codes "0: 0"
  unfolding tail form_behind
  form_of_tail = form_number laws n _ small ∙ ap (λ (t : List ℕ). codes "0: " ++ t) (form_last laws cause least)

  numbers_of_tail : numbers_behind None tail ≡ n ∷ cause ∷ []
  unfolding tail numbers_behind
  numbers_of_tail = numbers_number laws n _ small ∙ ap (λ (t : List ℕ). n ∷ t) (numbers_last laws cause least)

  ended_tail : decimal n ++ (codes ": " ++ (decimal cause ++ 10 ∷ [])) ≡ tail ++ 10 ∷ []
  unfolding tail
  ended_tail = sym (append_assoc (decimal n) (codes ": " ++ decimal cause) (10 ∷ []))

  inventory_read : (known : KnownLine) → line_of kind.Inventory (n ∷ cause ∷ []) ≡ Some known → IsKnownAs (codes "gateway: inventory line " ++ (decimal n ++ (codes ": " ++ (decimal cause ++ 10 ∷ [])))) known
  unfolding form_behind numbers_behind
  inventory_read known said = (
    codes "gateway: inventory line " ++ tail,
    ap (λ (t : List ℕ). codes "gateway: inventory line " ++ t) ended_tail,
    known_by _ kind.Inventory (n ∷ cause ∷ []) (Some known) refl refl (ap (λ (t : List ℕ). codes "gateway: inventory line " ++ t) form_of_tail) numbers_of_tail (small_two n cause small least) said,
  )

  journal_read : (known : KnownLine) → line_of kind.Journal (n ∷ cause ∷ []) ≡ Some known → IsKnownAs (codes "gateway: journal line " ++ (decimal n ++ (codes ": " ++ (decimal cause ++ 10 ∷ [])))) known
  unfolding form_behind numbers_behind
  journal_read known said = (
    codes "gateway: journal line " ++ tail,
    ap (λ (t : List ℕ). codes "gateway: journal line " ++ t) ended_tail,
    known_by _ kind.Journal (n ∷ cause ∷ []) (Some known) refl refl (ap (λ (t : List ℕ). codes "gateway: journal line " ++ t) form_of_tail) numbers_of_tail (small_two n cause small least) said,
  )

  inventory_refused_read : (known : KnownLine) → line_of kind.InventoryRefused (n ∷ cause ∷ []) ≡ Some known → IsKnownAs (codes "gateway: inventory refused: line " ++ (decimal n ++ (codes ": " ++ (decimal cause ++ 10 ∷ [])))) known
  unfolding form_behind numbers_behind
  inventory_refused_read known said = (
    codes "gateway: inventory refused: line " ++ tail,
    ap (λ (t : List ℕ). codes "gateway: inventory refused: line " ++ t) ended_tail,
    known_by _ kind.InventoryRefused (n ∷ cause ∷ []) (Some known) refl refl (ap (λ (t : List ℕ). codes "gateway: inventory refused: line " ++ t) form_of_tail) numbers_of_tail (small_two n cause small least) said,
  )

  state_line_read : (known : KnownLine) → line_of kind.StateLine (n ∷ cause ∷ []) ≡ Some known → IsKnownAs (codes "gateway: state line " ++ (decimal n ++ (codes ": " ++ (decimal cause ++ 10 ∷ [])))) known
  unfolding form_behind numbers_behind
  state_line_read known said = (
    codes "gateway: state line " ++ tail,
    ap (λ (t : List ℕ). codes "gateway: state line " ++ t) ended_tail,
    known_by _ kind.StateLine (n ∷ cause ∷ []) (Some known) refl refl (ap (λ (t : List ℕ). codes "gateway: state line " ++ t) form_of_tail) numbers_of_tail (small_two n cause small least) said,
  )

  state_inventory_read : (known : KnownLine) → line_of kind.StateInventory (n ∷ cause ∷ []) ≡ Some known → IsKnownAs (codes "gateway: state inventory line " ++ (decimal n ++ (codes ": " ++ (decimal cause ++ 10 ∷ [])))) known
  unfolding form_behind numbers_behind
  state_inventory_read known said = (
    codes "gateway: state inventory line " ++ tail,
    ap (λ (t : List ℕ). codes "gateway: state inventory line " ++ t) ended_tail,
    known_by _ kind.StateInventory (n ∷ cause ∷ []) (Some known) refl refl (ap (λ (t : List ℕ). codes "gateway: state inventory line " ++ t) form_of_tail) numbers_of_tail (small_two n cause small least) said,
  )

  state_journal_read : (known : KnownLine) → line_of kind.StateJournal (n ∷ cause ∷ []) ≡ Some known → IsKnownAs (codes "gateway: state journal line " ++ (decimal n ++ (codes ": " ++ (decimal cause ++ 10 ∷ [])))) known
  unfolding form_behind numbers_behind
  state_journal_read known said = (
    codes "gateway: state journal line " ++ tail,
    ap (λ (t : List ℕ). codes "gateway: state journal line " ++ t) ended_tail,
    known_by _ kind.StateJournal (n ∷ cause ∷ []) (Some known) refl refl (ap (λ (t : List ℕ). codes "gateway: state journal line " ++ t) form_of_tail) numbers_of_tail (small_two n cause small least) said,
  )

-- ---- a run

module _ (laws : Laws) (cause feed : ℕ) (small : cause ≤ GREATEST_NUMBER) (low : feed ≤ GREATEST_NUMBER) where
  fault_read : (known : KnownLine) → line_of kind.Fault (cause ∷ feed ∷ []) ≡ Some known → IsKnownAs (codes "gateway: fault " ++ (decimal cause ++ (codes " " ++ (decimal feed ++ 10 ∷ [])))) known
  unfolding form_behind numbers_behind
  fault_read known said = (
    codes "gateway: fault " ++ (decimal cause ++ (codes " " ++ decimal feed)),
    ap (λ (t : List ℕ). codes "gateway: fault " ++ t) (sym (append_assoc (decimal cause) (codes " " ++ decimal feed) (10 ∷ []))),
    known_by _ kind.Fault (cause ∷ feed ∷ []) (Some known) refl refl
        (ap (λ (t : List ℕ). codes "gateway: fault " ++ t) (form_number laws cause _ small ∙ ap (λ (t : List ℕ). codes "0 " ++ t) (form_last laws feed low)))
        (numbers_number laws cause _ small ∙ ap (λ (t : List ℕ). cause ∷ t) (numbers_last laws feed low))
        (small_two cause feed small low) said,
  )

  no_report_read : (known : KnownLine) → line_of kind.NoReport (cause ∷ feed ∷ []) ≡ Some known → IsKnownAs (fault_line cause feed) known
  unfolding form_behind numbers_behind
  no_report_read known said = (
    codes "fault;" ++ (decimal cause ++ (codes ";" ++ (decimal feed ++ []))),
    refl,
    known_by _ kind.NoReport (cause ∷ feed ∷ []) (Some known) refl refl
        (ap (λ (t : List ℕ). codes "fault;" ++ t) (form_number laws cause _ small ∙ ap (λ (t : List ℕ). codes "0;" ++ t) (form_number laws feed [] low)))
        (numbers_number laws cause _ small ∙ ap (λ (t : List ℕ). cause ∷ t) (numbers_number laws feed [] low))
        (small_two cause feed small low) said,
  )

-- ---- a feed, a refused line and a rejected command

module _ (laws : Laws) (a b : ℕ) (h : a ≤ GREATEST_NUMBER) (k : b ≤ GREATEST_NUMBER) where
  -- two numbers one after another, and the rest
  form_of_two : (rest : List ℕ) → form_behind false (decimal a ++ (codes ";" ++ (decimal b ++ rest))) ≡ codes "0;0" ++ form_behind true rest
  unfolding form_behind
  form_of_two rest = form_number laws a _ h ∙ ap (λ (t : List ℕ). codes "0;" ++ t) (form_number laws b rest k)

  numbers_of_two : (rest : List ℕ) → numbers_behind None (decimal a ++ (codes ";" ++ (decimal b ++ rest))) ≡ a ∷ numbers_behind (Some b) rest
  unfolding numbers_behind
  numbers_of_two rest = numbers_number laws a _ h ∙ ap (λ (t : List ℕ). a ∷ t) (numbers_number laws b rest k)

  feed_read : (e : Ending) → form_behind true (codes ";" ++ (ending_text e ++ [])) ≡ codes ";" ++ ending_text e → numbers_behind (Some b) (codes ";" ++ (ending_text e ++ [])) ≡ b ∷ [] → IsKnownAs (feed_line a b e) (Feed a b e)
  unfolding form_behind numbers_behind line_of
  feed_read e form_is numbers_are = (
    codes "feed;" ++ (decimal a ++ (codes ";" ++ (decimal b ++ (codes ";" ++ (ending_text e ++ []))))),
    refl,
    known_by _ (kind.Feed e) (a ∷ b ∷ []) (Some (Feed a b e)) refl refl
        (ap (λ (t : List ℕ). codes "feed;" ++ t) (form_of_two (codes ";" ++ (ending_text e ++ [])) ∙ ap (λ (t : List ℕ). codes "0;0" ++ t) form_is))
        (numbers_of_two (codes ";" ++ (ending_text e ++ [])) ∙ ap (λ (t : List ℕ). a ∷ t) numbers_are)
        (small_two a b h k) refl,
  )

  feed_known : (e : Ending) → IsKnownAs (feed_line a b e) (Feed a b e)
  unfolding form_behind numbers_behind
  feed_known ending.Whole = feed_read ending.Whole refl refl
  feed_known ending.ReadFailed = feed_read ending.ReadFailed refl refl
  feed_known ending.TooManyReads = feed_read ending.TooManyReads refl refl
  feed_known ending.Memory = feed_read ending.Memory refl refl
  feed_known ending.QueueRefused = feed_read ending.QueueRefused refl refl

  rejected_known : (r : Reason) → IsKnownAs (rejected_line (record { sender = a; place = b; reason = r })) (Rejected a b r)
  unfolding form_behind numbers_behind line_of rejected_line
  rejected_known r = (
    codes "rejected;" ++ (decimal a ++ (codes ";" ++ (decimal b ++ (codes ";" ++ (decimal (reason_number r) ++ []))))),
    refl,
    known_by _ kind.Rejected (a ∷ b ∷ reason_number r ∷ []) (Some (Rejected a b r)) refl refl
        (ap (λ (t : List ℕ). codes "rejected;" ++ t) (form_of_two (codes ";" ++ (decimal (reason_number r) ++ [])) ∙ ap (λ (t : List ℕ). codes "0;0;" ++ t) (form_number laws (reason_number r) [] (reason_small r))))
        (numbers_of_two (codes ";" ++ (decimal (reason_number r) ++ [])) ∙ ap (λ (t : List ℕ). a ∷ b ∷ t) (numbers_number laws (reason_number r) [] (reason_small r)))
        (small_three a b (reason_number r) h k (reason_small r))
        (ap (option_map (Rejected a b)) (finds_all.reasons r)),
  )

refused_known : Laws → (feed n : ℕ) (f : LineFault) → feed ≤ GREATEST_NUMBER → n ≤ GREATEST_NUMBER → fault_argument f < 256 → IsKnownAs (refused_line feed (n, f)) (Refused feed n f)
unfolding form_behind numbers_behind line_of
refused_known laws feed n f h k low =
    let small : fault_argument f ≤ GREATEST_NUMBER = omega arith in
    let rest = decimal (fault_number f) ++ (codes ";" ++ (decimal (fault_argument f) ++ [])) in (
      codes "refused;" ++ (decimal feed ++ (codes ";" ++ (decimal n ++ (codes ";" ++ rest)))),
      refl,
      known_by _ kind.Refused (feed ∷ n ∷ fault_number f ∷ fault_argument f ∷ []) (Some (Refused feed n f)) refl refl
          (ap (λ (t : List ℕ). codes "refused;" ++ t) (form_of_two laws feed n h k (codes ";" ++ rest) ∙ ap (λ (t : List ℕ). codes "0;0;" ++ t) (form_of_two laws (fault_number f) (fault_argument f) (fault_small f) small [])))
          (numbers_of_two laws feed n h k (codes ";" ++ rest) ∙ ap (λ (t : List ℕ). feed ∷ n ∷ t) (numbers_of_two laws (fault_number f) (fault_argument f) (fault_small f) small []))
          (small_four feed n (fault_number f) (fault_argument f) h k (fault_small f) small)
          (ap (option_map (Refused feed n)) (finds_all.faults f low)),
    )

pub knows_all : Laws → KnowsAll
unfolding line_of
knows_all laws = record {
  usage = usage_known;
  input = input_known;
  feeds = feeds_known;
  feed_twice = feed_twice_known;
  memory = memory_known;
  output = output_known;
  unopened = unopened_known;
  inventory = λ n c small. inventory_read laws n (of_inventory.cause_number c) small (inventory_small c) (Inventory n c) (ap (option_map (Inventory n)) (finds_all.inventory c));
  journal = λ n c small. journal_read laws n (of_journal.cause_number c) small (journal_small c) (Journal n c) (ap (option_map (Journal n)) (finds_all.journal c));
  fault = λ c low. fault_read laws (of_run.cause_number c) (of_run.cause_sender c) (run_small c) (omega arith) (Fault c) (ap (option_map Fault) (finds_all.runs c low));
  state = state_known;
  state_line = λ n c small. state_line_read laws n (of_state.cause_number c) small (state_small c) (StateLine n c) (ap (option_map (StateLine n)) (finds_all.state c));
  state_inventory = λ n c small. state_inventory_read laws n (of_inventory.cause_number c) small (inventory_small c) (StateInventory n c) (ap (option_map (StateInventory n)) (finds_all.inventory c));
  state_journal = λ n c small. state_journal_read laws n (of_journal.cause_number c) small (journal_small c) (StateJournal n c) (ap (option_map (StateJournal n)) (finds_all.journal c));
  following = following_known laws;
  waits = waits_known laws;
  replaced = replaced_known laws;
  anew = anew_known laws;
  ended = λ k e small. ended_known laws k small e;
  clock_ahead = clock_ahead_known laws;
  absent = absent_known;
  new_inventory = new_inventory_known laws;
  inventory_refused = λ n c small. inventory_refused_read laws n (of_inventory.cause_number c) small (inventory_small c) (InventoryRefused n c) (ap (option_map (InventoryRefused n)) (finds_all.inventory c));
  told_missing = told_missing_known laws;
  refused = refused_known laws;
  rejected = λ r small less. rejected_known laws r.sender r.place small less r.reason;
  no_report = λ c low. no_report_read laws (of_run.cause_number c) (of_run.cause_sender c) (run_small c) (omega arith) (Fault c) (ap (option_map Fault) (finds_all.runs c low));
  feed = λ k accepted e small less. feed_known laws k accepted small less e;
  times = times_known laws;
}
