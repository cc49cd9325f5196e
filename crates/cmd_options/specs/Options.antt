-- The ranges of the options of a run.
use Rattle.std.specs.Prelude.{◌≤◌, ℕ}
use Rattle.cmd_types.specs.Entries.{IsSenderCount}
use Rattle.cmd_journal.specs.Journals.{IsLimit}
use Rattle.cmd_queue.specs.Queue.{IsCapacity}
use Rattle.cmd_options.specs.declared.options.RunOptions.{RunOptions}
use Rattle.cmd_options.specs.declared.options.TheConstants.{MOST_PIECE}

pub record AreInRange (options : RunOptions) : Type 0 where
  pub capacity : IsCapacity options.capacity
  pub piece : (1 ≤ options.piece) × (options.piece ≤ MOST_PIECE)
  pub limit : IsLimit options.limit
  pub reads : 1 ≤ options.reads

-- the options are in range, and there are as many readers as a run may have senders
abbrev pub MayRun : (readers : ℕ) → RunOptions → Type 0
MayRun readers options = IsSenderCount readers × AreInRange options
