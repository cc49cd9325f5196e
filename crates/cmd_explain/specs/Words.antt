-- The words for causes, faults, reasons and what withholds a notice.
use Rattle.std.specs.Prelude.{ℕ, Bool, true, false, List, [], ◌∷◌, codes}
use Rattle.std.specs.Fmt.{decimal}
use Rattle.mon_inventory.specs.declared.fault.Cause.{Cause}
use Rattle.mon_inventory.specs.declared.fault.Cause.TheVariants as inventory
use Rattle.cmd_journal.specs.declared.fault.ReadCause.{ReadCause}
use Rattle.cmd_journal.specs.declared.fault.ReadCause.TheVariants as journal
use Rattle.mon_state.specs.declared.fault.StateCause.{StateCause}
use Rattle.mon_state.specs.declared.fault.StateCause.TheVariants as state
use Rattle.cmd_answer.specs.declared.state_stop.StateWord.{StateWord}
use Rattle.cmd_answer.specs.declared.state_stop.StateWord.TheVariants as word
use Rattle.cmd_run.specs.declared.ending.Ending.{Ending}
use Rattle.cmd_run.specs.declared.ending.Ending.TheVariants as ending
use Rattle.cmd_run.specs.declared.fault.RunCause.{RunCause}
use Rattle.cmd_run.specs.declared.fault.RunCause.TheVariants as run
use Rattle.mon_engine.specs.declared.outcome.Reason.{Reason}
use Rattle.mon_engine.specs.declared.outcome.Reason.TheVariants as reason
use Rattle.mon_engine.specs.declared.withheld.Withheld.{Withheld}
use Rattle.mon_engine.specs.declared.withheld.Withheld.TheVariants as by
use Rattle.cmd_lines.specs.declared.fault.LineFault.{LineFault}
use Rattle.cmd_lines.specs.declared.fault.LineFault.TheVariants as fault

-- the cause of a fault in a line of an inventory; the words follow those for the line
abbrev pub inventory_words : Cause → List ℕ
inventory_words inventory.BadForm = codes " has none of the forms contact;NAME;HOSTOPTS;SVCOPTS, host;NAME;MAX;INTERVAL;OPTS;CONTACTS, service;HOST;DESC;MAX;INTERVAL;OPTS;CONTACTS, escalation;HOST;DESC or empty;FIRST;LAST;INTERVAL;OPTS;CONTACTS, option;NAME;VALUE, settle;SECONDS, delay;HOST;DESC or empty;SECONDS and volatile;HOST;DESC (look at the first word and the number of fields; an option's NAME is passive_host_checks_are_soft, tell_by_clock or recover_the_told), or an empty name, an empty item in a list or a comma in a contact's name"
inventory_words inventory.BadNumber = codes " has a field that is no number, or none that may stand there"
inventory_words inventory.BadOption = codes " has a letter that this kind of line does not allow"
inventory_words inventory.Duplicate = codes " defines again what a line before it defines"
inventory_words inventory.UnknownHost = codes " names a host that no line before it defines"
inventory_words inventory.UnknownService = codes " names a service that no line before it defines"
inventory_words inventory.UnknownContact = codes " names a contact that no line before it defines"
inventory_words inventory.TooMany = codes " is one contact, host, service or escalation more than there may be"
inventory_words inventory.Memory = codes " could not be read: out of memory"

-- the cause of a fault in a line of a journal; the words follow those for the line
abbrev pub journal_words : ReadCause → List ℕ
journal_words journal.BadEntry = codes " is neither the heading nor an entry: a clock, a feed, a place and a command"
journal_words journal.BadPlace = codes " has a place that is not the next one of its feed"
journal_words journal.BadClock = codes " has a clock that is not the greatest time so far"
journal_words journal.Full = codes " is one entry more than the limit allows"
journal_words journal.Memory = codes " could not be read: out of memory"

-- the cause of a fault in a line of the file `state`; the words follow those for the line
abbrev pub state_line_words : StateCause → List ℕ
state_line_words state.BadLine = codes " is not of the form that is due there"
state_line_words state.BadValue = codes " has a value that nothing can have led to"
state_line_words state.NotAsWritten = codes " would be written otherwise: the file was cut or edited"
state_line_words state.UnknownVersion = codes " names a version that this program does not read"
state_line_words state.Memory = codes " could not be read: out of memory"

-- what is wrong with a state directory
abbrev pub state_words : StateWord → List ℕ
state_words word.NotThere = codes "there is no such state directory"
state_words word.Lock = codes "the file lock of the state directory cannot be made or held"
state_words word.InUse = codes "another run holds the state directory"
state_words word.Read = codes "a file of the state directory cannot be read"
state_words word.Mark = codes "the file state has no line ---"
state_words word.Inventory = codes "the inventory has no object, and that of the directory has some"
state_words word.Feeds = codes "a feed of the state is not given, the journal has an entry of another feed, or a path has a line feed"
state_words word.Told = codes "the file told does not match the journal; with status 3, the told lines could not be written"
state_words word.Full = codes "one more segment might have more entries than a state can count"
state_words word.File = codes "the file state could not be written"
state_words word.Journal = codes "a segment stands behind the last one of the state, or there is no state; with status 3, the journal could not be written"
state_words word.Sync = codes "the system does not keep what is written to the state directory"
state_words word.Status = codes "the file status could not be written"

-- that the file of a feed cannot be read yet, by whether it exists
abbrev pub absence_words : (is_there : Bool) → List ℕ
absence_words false = codes "the file of this feed is not there; the program looks again each second, and the other feeds continue"
absence_words true = codes "the file of this feed cannot be opened or read; the program looks again each second, and the other feeds continue"

-- how a feed ended; the words follow those for the feed
abbrev pub ending_words : Ending → List ℕ
ending_words ending.Whole = codes "it was read to its end"
ending_words ending.ReadFailed = codes "a read of it failed, or it broke off inside a line"
ending_words ending.TooManyReads = codes "it gave bytes at each of the most reads that a feed may have"
ending_words ending.Memory = codes "memory was wanting"
ending_words ending.QueueRefused = codes "the queue took nothing any more"

-- the reason for which a command was rejected
abbrev pub reason_words : Reason → List ℕ
reason_words reason.UnknownHost = codes "there is no such host"
reason_words reason.UnknownService = codes "there is no such service"
reason_words reason.UnknownContact = codes "there is no such contact"
reason_words reason.NoSuchComment = codes "there is no such comment of that kind of object"
reason_words reason.NoSuchDowntime = codes "there is no such downtime of that kind of object, or it is over"
reason_words reason.NotAProblem = codes "what it acknowledges is no problem"
reason_words reason.BadWindow = codes "the downtime does not end after its start"
reason_words reason.PastWindow = codes "the downtime's end is past"
reason_words reason.NoDuration = codes "the downtime is flexible and lasts 0 seconds"
reason_words reason.NoTrigger = codes "the downtime's trigger was never scheduled"
reason_words reason.TriggerOver = codes "the downtime's trigger is over"
reason_words reason.PassiveOff = codes "passive results are switched off, for the program or for the object"

-- what withholds the notice of a problem; the words follow those for the problem
abbrev pub withheld_words : Withheld → List ℕ
withheld_words by.Program = codes "notifications are off"
withheld_words by.Switch = codes "its notifications are off"
withheld_words by.Downtime = codes "it or its host is in a downtime"
withheld_words by.Host = codes "its host is not UP"
withheld_words by.Letter = codes "its options lack the letter of its state"
withheld_words by.Acknowledged = codes "it is acknowledged"
withheld_words by.Soft = codes "its state is soft"
withheld_words by.NotBefore = codes "the time of a DELAY has not come"
withheld_words by.Interval = codes "this state was notified, and the interval is 0 or not over"
withheld_words by.Delay = codes "its first notification delay is not over"
withheld_words by.Settle = codes "its host came back too short a time ago for a first notice"
withheld_words by.Nobody = codes "no contact may get the notice"

-- why a run failed, in pieces
abbrev pub run_words : RunCause → List (List ℕ)
run_words run.BadOptions = codes "an option is out of its range" ∷ []
run_words run.Memory = codes "memory was wanting" ∷ []
run_words (run.Spawn feed) = codes "the thread of feed " ∷ decimal feed ∷ codes " was not started" ∷ []
run_words run.JournalFull = codes "the limit was reached and another command came" ∷ []
run_words run.QueueLost = codes "the queue was lost" ∷ []
run_words (run.SenderStopped feed) = codes "feed " ∷ decimal feed ∷ codes " wanted memory, or the queue refused what it sent" ∷ []
run_words run.Output = codes "the output took nothing any more" ∷ []

-- what is wrong with a refused line, in pieces
abbrev pub fault_words : LineFault → List (List ℕ)
fault_words fault.TooLong = codes "it is too long" ∷ []
fault_words fault.Torn = codes "the feed broke off in it" ∷ []
fault_words fault.NoBracket = codes "it does not begin with [" ∷ []
fault_words fault.BadTime = codes "no whole number of 1 to 13 digits up to 1,099,511,627,775 stands between [ and ]" ∷ []
fault_words fault.NoSpace = codes "no space stands behind ]" ∷ []
fault_words fault.UnknownCommand = codes "no command has this name" ∷ []
fault_words (fault.Missing argument) = codes "argument " ∷ decimal argument ∷ codes " is missing" ∷ []
fault_words (fault.EmptyName argument) = codes "argument " ∷ decimal argument ∷ codes " is an empty name" ∷ []
fault_words (fault.BadNumber argument) = codes "argument " ∷ decimal argument ∷ codes " is no number, or none that may stand there" ∷ []
fault_words fault.Memory = codes "memory was wanting" ∷ []
