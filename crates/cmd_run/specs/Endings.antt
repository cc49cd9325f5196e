-- The endings of a sender.
use Rattle.std.specs.Prelude.{Bool, true, false}
use Rattle.cmd_run.specs.declared.ending.Ending.{Ending}
use Rattle.cmd_run.specs.declared.ending.Ending.TheVariants.{Whole, ReadFailed, TooManyReads, Memory, QueueRefused}

-- a sender with this ending has sent all commands of its feed's text, and has passed on all refused lines
abbrev pub is_complete : Ending → Bool
is_complete Whole = true
is_complete ReadFailed = true
is_complete TooManyReads = true
is_complete Memory = false
is_complete QueueRefused = false
