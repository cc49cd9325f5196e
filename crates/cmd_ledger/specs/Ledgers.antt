-- A ledger, and what it holds after the entries that were applied through it.
use Rattle.std.specs.Prelude.{◌≡◌, ◌<◌, ℕ, false, List, [], ◌∷◌, ◌++◌, length, Option, Some, None, slice_index_or}
use Rattle.cmd_types.specs.declared.entry.Entry.{Entry}
use Rattle.cmd_types.specs.declared.entry.TheConstants.{MOST_SENDERS}
use Rattle.cmd_types.specs.Spelling.{Timed}
use Rattle.cmd_journal.specs.Journals.{of_sender}
use Rattle.cmd_journal.specs.Pasts.{StandsFor}
use Rattle.mon_inventory.specs.Configuration.{Configuration}
use Rattle.mon_engine.specs.Held.{Held}
use Rattle.mon_engine.specs.World.{World}
use Rattle.mon_engine.specs.Step.{meaning_from}
use Rattle.mon_engine.specs.Telling.{told_text, forgotten}
use Rattle.cmd_ledger.specs.declared.ledger.Ledger.{Ledger}

-- the monitor began in this world and applied these entries; it printed their lines and lists none
pub record HasToldFrom (inv : Configuration) (w : World) (taken : List Entry) (monitor : Held) : Type 0 where
  pub inventory : monitor.inventory ≡ inv
  pub world : monitor.world ≡ forgotten (meaning_from inv w taken)
  pub applied : monitor.applied ≡ length taken
  pub whole : monitor.broken ≡ false

-- the command of the last of these entries
abbrev pub last_command : List Entry → Option Timed
last_command [] = None
last_command (e ∷ []) = Some e.stamped
last_command (e ∷ f ∷ entries) = last_command (f ∷ entries)

-- the list has the last command of each sender among these entries
pub record AreLastsOf (entries : List Entry) (lasts : List (Option Timed)) : Type 0 where
  pub senders : length lasts ≡ MOST_SENDERS
  pub each : (k : ℕ) → k < MOST_SENDERS → slice_index_or lasts k None ≡ last_command (of_sender k entries)

-- The ledger began in this world, after the earlier entries, and the entries `applied` were applied through it. Its
-- monitor is in the state to which they lead, its counts are those of all entries, and it has the last command of each
-- sender since it began. The lines of the applied entries, without the rejections of the clock feed, are `printed` and
-- then `waiting`.
pub record HasApplied (inv : Configuration) (clock : Option ℕ) (w : World) (earlier applied : List Entry) (printed waiting : List ℕ) (ledger : Ledger) : Type 0 where
  pub has_told : HasToldFrom inv w applied ledger.monitor
  pub stands : StandsFor ledger.past (earlier ++ applied)
  pub same_clock : ledger.clock ≡ clock
  pub lasts : AreLastsOf applied ledger.lasts
  pub told : printed ++ waiting ≡ told_text inv clock w applied
