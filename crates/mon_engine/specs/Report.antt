-- The report: the text that is printed of a world, one line for each fact, each field after a semicolon.
use Rattle.std.specs.Prelude.{ℕ, Bool, if◌then◌else◌, List, [], ◌∷◌, ◌++◌, length, Option, Some, None, codes, slice_get}
use Rattle.std.specs.List.{flat_map, range_with_len}
use Rattle.std.specs.Fmt.{decimal}
use Rattle.mon_downtime.specs.declared.downtime.Downtime.{Downtime}
use Rattle.mon_downtime.specs.declared.plan.Plan.{Plan}
use Rattle.mon_downtime.specs.declared.downtime.Fate.{Fate}
use Rattle.mon_downtime.specs.declared.downtime.Fate.TheVariants.{Pending, Active, Over}
use Rattle.mon_downtime.specs.Records.{depth_of}
use Rattle.mon_notes.specs.declared.comment.Comment.{Comment}
use Rattle.mon_inventory.specs.declared.records.ObjectSpec.{ObjectSpec}
use Rattle.mon_inventory.specs.declared.records.ContactSpec.{ContactSpec}
use Rattle.mon_inventory.specs.Configuration.{Configuration}
use Rattle.mon_engine.specs.declared.object.Object.{Object}
use Rattle.mon_engine.specs.declared.switches.Program.{Program}
use Rattle.mon_notify.specs.declared.contacts.ContactSwitch.{ContactSwitch}
use Rattle.mon_engine.specs.declared.outcome.Rejection.{Rejection}
use Rattle.mon_engine.specs.declared.notice.Notice.{Notice}
use Rattle.mon_engine.specs.declared.notice.Subject.{Subject}
use Rattle.mon_engine.specs.Objects.{is_service}
use Rattle.mon_engine.specs.Words.{state_text, type_text, acknowledgement_text, kind_text, reason_number, word_text}
use Rattle.mon_engine.specs.World.{World}

-- ---- a line

-- each field after a semicolon
abbrev pub fields_text : List (List ℕ) → List ℕ
fields_text [] = []
fields_text (field ∷ fields) = 59 ∷ field ++ fields_text fields

-- a word, its fields, each after a semicolon, and a line feed
abbrev pub line : (word : List ℕ) → (fields : List (List ℕ)) → List ℕ
line word fields = word ++ fields_text fields ++ 10 ∷ []

-- 1 for on, 0 for off
abbrev pub flag : Bool → List ℕ
flag on = if on then 49 ∷ [] else 48 ∷ []

-- a number, or an empty field
abbrev pub optional : Option ℕ → List ℕ
optional None = []
optional (Some n) = decimal n

-- ---- lines

-- the line of the clock, in seconds
abbrev pub clock_line : ℕ → List ℕ
clock_line clock = line (codes "clock") (decimal clock ∷ [])

-- the line of the program's switches
abbrev pub program_line : Program → List ℕ
program_line p = line (codes "program") (flag p.notifications ∷ flag p.passive_host ∷ flag p.passive_service ∷ [])

-- STATE;TYPE;ATTEMPT;ACK;DEPTH;NUMBER;NOTIFY;PASSIVE;OUTPUT
abbrev pub state_fields : Object → (depth : ℕ) → List (List ℕ)
state_fields o depth =
    state_text o.status.service o.status.code ∷ type_text o.status.hard ∷ decimal o.status.attempt ∷ acknowledgement_text o.acknowledgement
    ∷ decimal depth ∷ decimal o.number ∷ flag o.notify ∷ flag o.passive ∷ o.output ∷ []

-- the line of a host, or of the service of this name, with its state
abbrev pub object_line_by : (host : List ℕ) → Option (List ℕ) → Object → (depth : ℕ) → List ℕ
object_line_by host None o depth = line (codes "host") (host ∷ state_fields o depth)
object_line_by host (Some name) o depth = line (codes "service") (host ∷ name ∷ state_fields o depth)

abbrev pub object_line_of : Option ObjectSpec → Option Object → (depth : ℕ) → List ℕ
object_line_of None o depth = []
object_line_of (Some spec) None depth = []
object_line_of (Some spec) (Some o) depth = object_line_by spec.host spec.service o depth

-- the line of the object at an index
unfoldable pub object_line : List ObjectSpec → List Object → List Downtime → ℕ → List ℕ
object_line specs os ds object = object_line_of (slice_get specs object) (slice_get os object) (depth_of ds object)

abbrev pub contact_line_of : Option ContactSpec → Option ContactSwitch → List ℕ
contact_line_of None s = []
contact_line_of (Some c) None = []
contact_line_of (Some c) (Some s) = line (codes "contact") (c.name ∷ flag s.host ∷ flag s.service ∷ [])

-- the line of the contact at an index
unfoldable pub contact_line : List ContactSpec → List ContactSwitch → ℕ → List ℕ
contact_line specs switches contact = contact_line_of (slice_get specs contact) (slice_get switches contact)

-- a name that is there, or no bytes
abbrev pub or_empty : Option (List ℕ) → List ℕ
or_empty None = []
or_empty (Some name) = name

abbrev pub comment_line_on : Comment → (host service : List ℕ) → List ℕ
comment_line_on c host service =
    line (codes "comment") (decimal c.id ∷ host ∷ service ∷ kind_text c.ack ∷ flag c.persistent ∷ decimal c.time ∷ c.author ∷ c.text ∷ [])

abbrev pub comment_line_of : Comment → Option ObjectSpec → List ℕ
comment_line_of c None = []
comment_line_of c (Some spec) = comment_line_on c spec.host (or_empty spec.service)

-- the line of a comment, with the names of its object
unfoldable pub comment_line : List ObjectSpec → Comment → List ℕ
comment_line specs c = comment_line_of c (slice_get specs c.object)

-- FATE;A;B, where A and B are start_time and end_time, or since and until
abbrev pub fate_fields : Downtime → Fate → Option (List (List ℕ))
fate_fields d Pending = Some (codes "pending" ∷ decimal d.plan.times.start_time ∷ decimal d.plan.times.end_time ∷ [])
fate_fields d (Active since until) = Some (codes "active" ∷ decimal since ∷ decimal until ∷ [])
fate_fields d Over = None

abbrev pub plan_fields : Plan → List (List ℕ)
plan_fields plan = flag plan.times.fixed ∷ decimal plan.times.trigger_id ∷ decimal plan.times.duration ∷ plan.author ∷ plan.text ∷ []

abbrev pub downtime_line_on : Downtime → (host service : List ℕ) → Option (List (List ℕ)) → List ℕ
downtime_line_on d host service None = []
downtime_line_on d host service (Some fate) = line (codes "downtime") (decimal d.id ∷ host ∷ service ∷ (fate ++ plan_fields d.plan))

abbrev pub downtime_line_of : Downtime → Option ObjectSpec → List ℕ
downtime_line_of d None = []
downtime_line_of d (Some spec) = downtime_line_on d spec.host (or_empty spec.service) (fate_fields d d.fate)

-- a downtime that is over has no line
unfoldable pub downtime_line : List ObjectSpec → Downtime → List ℕ
downtime_line specs d = downtime_line_of d (slice_get specs d.object)

-- the line of a rejected entry
unfoldable pub rejected_line : Rejection → List ℕ
rejected_line r = line (codes "rejected") (decimal r.sender ∷ decimal r.place ∷ decimal (reason_number r.reason) ∷ [])

abbrev pub name_in : Option ContactSpec → List ℕ
name_in None = []
name_in (Some c) = c.name

-- the name of the contact at an index
abbrev pub contact_name : List ContactSpec → ℕ → List ℕ
contact_name specs contact = name_in (slice_get specs contact)

-- the name of a contact, after a comma
abbrev pub comma_name : List ContactSpec → ℕ → List ℕ
comma_name specs contact = 44 ∷ contact_name specs contact

-- the names of these contacts, joined by commas
abbrev pub names_text : List ContactSpec → (contacts : List ℕ) → List ℕ
names_text specs [] = []
names_text specs (contact ∷ contacts) = contact_name specs contact ++ flat_map (comma_name specs) contacts

-- MOMENT;WORD;HOST;SERVICE;STATE;NUMBER;CONTACTS
abbrev pub notice_line_on : Subject → (host service : List ℕ) → (is_service : Bool) → (names : List ℕ) → List ℕ
notice_line_on s host service kind names =
    line (codes "notice") (decimal s.moment ∷ word_text s.word ∷ host ∷ service ∷ state_text kind s.code ∷ decimal s.number ∷ names ∷ [])

abbrev pub notice_line_of : Subject → (names : List ℕ) → Option ObjectSpec → List ℕ
notice_line_of s names None = []
notice_line_of s names (Some spec) = notice_line_on s spec.host (or_empty spec.service) (is_service spec) names

-- the line of a notice, with the names of its object and contacts
unfoldable pub notice_line : Configuration → Notice → List ℕ
notice_line inv n = notice_line_of n.subject (names_text inv.contacts n.contacts) (slice_get inv.objects n.subject.object)

-- ---- the report

-- one text for each index below the count, in order
abbrev pub each_index : (ℕ → List ℕ) → (count : ℕ) → List ℕ
each_index f count = flat_map f (range_with_len 0 count)

-- clock, program, objects, contacts, comments and downtimes by id, rejections and then notices in order of happening
unfoldable pub report : Configuration → World → List ℕ
report inv w =
    clock_line w.clock
    ++ program_line w.program
    ++ each_index (object_line inv.objects w.objects w.downtimes) (length inv.objects)
    ++ each_index (contact_line inv.contacts w.contacts) (length inv.contacts)
    ++ flat_map (comment_line inv.objects) w.notes.comments
    ++ flat_map (downtime_line inv.objects) w.downtimes
    ++ flat_map rejected_line w.rejections
    ++ flat_map (notice_line inv) w.notices
