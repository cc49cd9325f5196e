-- The words and digits of the report.
use Rattle.std.specs.Prelude.{ℕ, ◌==◌, Bool, if◌then◌else◌, List, [], Option, Some, None, codes}
use Rattle.mon_engine.specs.declared.object.Acknowledgement.{Acknowledgement}
use Rattle.mon_engine.specs.declared.object.Acknowledgement.TheVariants.{Unacknowledged, Normal, Sticky}
use Rattle.mon_engine.specs.declared.outcome.Reason.{Reason}
use Rattle.mon_engine.specs.declared.outcome.Reason.TheVariants as reasons
use Rattle.mon_engine.specs.declared.notice.Word.{Word}
use Rattle.mon_engine.specs.declared.notice.Word.TheVariants as words
use Rattle.mon_engine.specs.declared.withheld.Withheld.{Withheld}
use Rattle.mon_engine.specs.declared.withheld.Withheld.TheVariants as by

-- the word for the code of a host
abbrev pub host_state : ℕ → List ℕ
host_state code = if code == 0 then codes "UP" else (if code == 1 then codes "DOWN" else codes "UNREACHABLE")

-- the word for the code of a service
abbrev pub service_state : ℕ → List ℕ
service_state code = if code == 0 then codes "OK" else (if code == 1 then codes "WARNING" else (if code == 2 then codes "CRITICAL" else codes "UNKNOWN"))

-- the word for a code, of a service or of a host
abbrev pub state_text : (service : Bool) → (code : ℕ) → List ℕ
state_text service code = if service then service_state code else host_state code

-- the word for a hard or a soft state
abbrev pub type_text : (hard : Bool) → List ℕ
type_text hard = if hard then codes "HARD" else codes "SOFT"

-- the digit for an acknowledgement
abbrev pub acknowledgement_text : Acknowledgement → List ℕ
acknowledgement_text Unacknowledged = codes "0"
acknowledgement_text Normal = codes "1"
acknowledgement_text Sticky = codes "2"

-- `user` or `ack`
abbrev pub kind_text : (ack : Bool) → List ℕ
kind_text ack = if ack then codes "ack" else codes "user"

-- the number of a rejection's reason
abbrev pub reason_number : Reason → ℕ
reason_number reasons.UnknownHost = 1
reason_number reasons.UnknownService = 2
reason_number reasons.UnknownContact = 3
reason_number reasons.NoSuchComment = 4
reason_number reasons.NoSuchDowntime = 5
reason_number reasons.NotAProblem = 6
reason_number reasons.BadWindow = 7
reason_number reasons.PastWindow = 8
reason_number reasons.NoDuration = 9
reason_number reasons.NoTrigger = 10
reason_number reasons.TriggerOver = 11
reason_number reasons.PassiveOff = 12

-- the word for the cause of a notice
abbrev pub word_text : Word → List ℕ
word_text words.Problem = codes "PROBLEM"
word_text words.Recovery = codes "RECOVERY"
word_text words.Acknowledgement = codes "ACKNOWLEDGEMENT"
word_text words.DowntimeStart = codes "DOWNTIMESTART"
word_text words.DowntimeEnd = codes "DOWNTIMEEND"
word_text words.DowntimeCancelled = codes "DOWNTIMECANCELLED"
word_text words.Custom = codes "CUSTOM"

-- the word for what holds a PROBLEM back, or no bytes
abbrev pub withheld_text : Option Withheld → List ℕ
withheld_text None = []
withheld_text (Some by.Program) = codes "program"
withheld_text (Some by.Switch) = codes "switch"
withheld_text (Some by.Downtime) = codes "downtime"
withheld_text (Some by.Host) = codes "host"
withheld_text (Some by.Letter) = codes "letter"
withheld_text (Some by.Acknowledged) = codes "acknowledged"
withheld_text (Some by.Soft) = codes "soft"
withheld_text (Some by.NotBefore) = codes "not_before"
withheld_text (Some by.Interval) = codes "interval"
withheld_text (Some by.Delay) = codes "delay"
withheld_text (Some by.Settle) = codes "settle"
withheld_text (Some by.Nobody) = codes "nobody"
