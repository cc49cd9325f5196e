-- The text of a world, in each version: one line for each fact, each field after a semicolon, as in the report.
use Rattle.std.specs.Prelude.{ℕ, ◌+◌, Bool, false, if◌then◌else◌, List, [], ◌∷◌, ◌++◌, length, map, Option, Some, None, codes, slice_get}
use Rattle.std.specs.List.{flat_map}
use Rattle.std.specs.Fmt.{decimal}
use Rattle.mon_notes.specs.declared.comment.Comment.{Comment}
use Rattle.mon_notes.specs.Comments.{CommentList}
use Rattle.mon_downtime.specs.declared.downtime.Downtime.{Downtime}
use Rattle.mon_downtime.specs.declared.downtime.Fate.{Fate}
use Rattle.mon_downtime.specs.declared.downtime.Fate.TheVariants.{Pending, Active, Over}
use Rattle.mon_downtime.specs.Events.{active_since}
use Rattle.mon_inventory.specs.declared.records.ObjectSpec.{ObjectSpec}
use Rattle.mon_inventory.specs.Configuration.{Configuration, recovers_the_told}
use Rattle.mon_engine.specs.declared.ends.Owed.{Owed}
use Rattle.mon_engine.specs.declared.object.Object.{Object}
use Rattle.mon_engine.specs.declared.object.Moments.{Moments}
use Rattle.mon_engine.specs.Words.{acknowledgement_text}
use Rattle.mon_engine.specs.Report.{line, flag, optional, or_empty, clock_line, program_line, contact_line, each_index}
use Rattle.mon_engine.specs.World.{World}
use Rattle.mon_engine.specs.Sound.{ever}
use Rattle.mon_state.specs.declared.version.StateVersion.{StateVersion}
use Rattle.mon_state.specs.declared.version.StateVersion.TheVariants.{One, Two}
use Rattle.mon_state.specs.Version.{version_number}

-- ---- fields

-- the word for a fate
abbrev pub fate_word : Fate → List ℕ
fate_word Pending = codes "pending"
fate_word (Active since until) = codes "active"
fate_word Over = codes "over"

-- until when a downtime is active
abbrev pub active_until : Fate → Option ℕ
active_until Pending = None
active_until (Active since until) = Some until
active_until Over = None

-- FATE;SINCE;UNTIL
abbrev pub fate_fields : Fate → List (List ℕ)
fate_fields fate = fate_word fate ∷ optional (active_since fate) ∷ optional (active_until fate) ∷ []

-- the object of a comment or a downtime: its index and its names; a host has an empty field in the service's place
abbrev pub object_fields : (object : ℕ) → ObjectSpec → List (List ℕ)
object_fields object spec = decimal object ∷ spec.host ∷ or_empty spec.service ∷ []

-- ---- lines

-- the heading of a text of this version
abbrev pub heading_line : StateVersion → List ℕ
heading_line version = line (codes "state") (decimal (version_number version) ∷ [])

-- how many entries there ever were
abbrev pub entries_line : ℕ → List ℕ
entries_line n = line (codes "entries") (decimal n ∷ [])

-- CHECKED;CHANGED;SINCE, which version 1 lacks
abbrev pub moment_fields : StateVersion → Moments → List (List ℕ)
moment_fields One m = []
moment_fields Two m = optional m.checked ∷ decimal m.changed ∷ optional m.since ∷ []

-- CODE;HARD;ATTEMPT;ACK
abbrev pub status_fields : Object → List (List ℕ)
status_fields o = decimal o.status.code ∷ flag o.status.hard ∷ decimal o.status.attempt ∷ acknowledgement_text o.acknowledgement ∷ []

-- NUMBER;LAST;NOTIFIED;NOT_BEFORE;NOTIFY;PASSIVE
abbrev pub notice_fields : Object → List (List ℕ)
notice_fields o = decimal o.number ∷ optional o.last ∷ optional o.notified ∷ optional o.not_before ∷ flag o.notify ∷ flag o.passive ∷ []

-- the status, what is known of notices, the moments, and OUTPUT
abbrev pub known_fields : StateVersion → Object → List (List ℕ)
known_fields version o = status_fields o ++ notice_fields o ++ moment_fields version o.moments ++ o.output ∷ []

-- the line of a host, or of the service of this name
abbrev pub host_or_service_line : StateVersion → (host : List ℕ) → Option (List ℕ) → Object → List ℕ
host_or_service_line version host None o = line (codes "host") (host ∷ known_fields version o)
host_or_service_line version host (Some name) o = line (codes "service") (host ∷ name ∷ known_fields version o)

-- the line of an object that is there, with its state
abbrev pub object_line_of : StateVersion → Option ObjectSpec → Option Object → List ℕ
object_line_of version None o = []
object_line_of version (Some spec) None = []
object_line_of version (Some spec) (Some o) = host_or_service_line version spec.host spec.service o

-- the line of the object of this index
unfoldable pub object_line : StateVersion → List ObjectSpec → List Object → ℕ → List ℕ
object_line version specs os object = object_line_of version (slice_get specs object) (slice_get os object)

-- the greatest id that a comment ever had, and how many comments there are
abbrev pub comments_line : CommentList → List ℕ
comments_line notes = line (codes "comments") (decimal notes.last_id ∷ decimal (length notes.comments) ∷ [])

-- ID;OBJECT;HOST;SERVICE;ACK;PERSISTENT;TIME;AUTHOR;TEXT
abbrev pub comment_line_of : Comment → Option ObjectSpec → List ℕ
comment_line_of c None = []
comment_line_of c (Some spec) =
    line (codes "comment") (decimal c.id ∷ (object_fields c.object spec ++ flag c.ack ∷ flag c.persistent ∷ decimal c.time ∷ c.author ∷ c.text ∷ []))

-- the line of a comment, with the names of its object
unfoldable pub comment_line : List ObjectSpec → Comment → List ℕ
comment_line specs c = comment_line_of c (slice_get specs c.object)

-- how many downtimes were ever scheduled
abbrev pub downtimes_line : List Downtime → List ℕ
downtimes_line ds = line (codes "downtimes") (decimal (length ds) ∷ [])

-- ID;OBJECT;HOST;SERVICE;START;END;FIXED;TRIGGER;DURATION;ENTERED;FATE;SINCE;UNTIL;AUTHOR;TEXT
abbrev pub downtime_line_of : Downtime → Option ObjectSpec → List ℕ
downtime_line_of d None = []
downtime_line_of d (Some spec) =
    line (codes "downtime") (decimal d.id ∷ (object_fields d.object spec ++ decimal d.plan.times.start_time ∷ decimal d.plan.times.end_time ∷ flag d.plan.times.fixed ∷ decimal d.plan.times.trigger_id
    ∷ decimal d.plan.times.duration ∷ decimal d.entered ∷ (fate_fields d.fate ++ d.plan.author ∷ d.plan.text ∷ [])))

-- the line of a downtime, with the names of its object
unfoldable pub downtime_line : List ObjectSpec → Downtime → List ℕ
downtime_line specs d = downtime_line_of d (slice_get specs d.object)

-- HOST;SERVICE;NUMBER;CONTACT;..;CONTACT; with the index of each contact; the last field is empty, so that a semicolon
-- follows each contact
abbrev pub owed_fields : ObjectSpec → Owed → List (List ℕ)
owed_fields spec x = spec.host ∷ or_empty spec.service ∷ decimal x.number ∷ (map decimal x.contacts ++ [] ∷ [])

-- the line of who is owed the end of the problem of an object that is there
abbrev pub owed_line_of : Option ObjectSpec → Option Owed → List ℕ
owed_line_of None x = []
owed_line_of (Some spec) None = []
owed_line_of (Some spec) (Some x) = line (codes "owed") (owed_fields spec x)

-- the line of who is owed the end of the problem of the object of this index
unfoldable pub owed_line : List ObjectSpec → List Owed → ℕ → List ℕ
owed_line specs owed object = owed_line_of (slice_get specs object) (slice_get owed object)

-- the number of lines before this one
abbrev pub end_line : ℕ → List ℕ
end_line count = line (codes "end") (decimal count ∷ [])

-- ---- the text

-- a text of this version says who is owed the end of each object's problem: one of version 2 does, with the option
-- `recover_the_told`
abbrev pub tells_owed : StateVersion → Configuration → Bool
tells_owed One inv = false
tells_owed Two inv = recovers_the_told inv

-- how many lines say it: one for each object, or none
abbrev pub owed_count : StateVersion → Configuration → ℕ
owed_count version inv = if tells_owed version inv then length inv.objects else 0

-- the lines of the heading, the clock, the entries and the program, those that head comments and downtimes, one for
-- each object, contact, comment and downtime, and those of who is owed an end
abbrev pub line_count : StateVersion → Configuration → World → ℕ
line_count version inv w = 6 + length inv.objects + length inv.contacts + length w.notes.comments + length w.downtimes + owed_count version inv

-- heading, clock, entries, program; objects and contacts in the order of the inventory; comments and downtimes by
-- id; who is owed the end of each object's problem, in the order of the inventory; the end
unfoldable pub text_of : StateVersion → Configuration → World → List ℕ
text_of version inv w =
    heading_line version
    ++ clock_line w.clock
    ++ entries_line (ever w)
    ++ program_line w.program
    ++ each_index (object_line version inv.objects w.objects) (length inv.objects)
    ++ each_index (contact_line inv.contacts w.contacts) (length inv.contacts)
    ++ comments_line w.notes
    ++ flat_map (comment_line inv.objects) w.notes.comments
    ++ downtimes_line w.downtimes
    ++ flat_map (downtime_line inv.objects) w.downtimes
    ++ each_index (owed_line inv.objects w.owed) (owed_count version inv)
    ++ end_line (line_count version inv w)

-- the text that is written
abbrev pub state_text : Configuration → World → List ℕ
state_text inv w = text_of Two inv w
