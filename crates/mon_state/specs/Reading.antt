-- A text is read from left to right, field by field, up to the first faulty field. In a name `.._at` is a step at the
-- front of a text, which returns the value that it read and the text after it, or the cause and the text from the
-- faulty field on.
use Rattle.std.specs.Prelude.{ℕ, Bool, true, false, List, [], ◌∷◌, ◌++◌, length, map, count_by, Option, Some, None, Result, Ok, Err, codes, nat_lt, ◌==◌, if◌then◌else◌, slice_get, zero, suc}
use Rattle.std.specs.Option.{option_map}
use Rattle.std.specs.Str.{bytes_eq}
use Rattle.std.specs.Str.Parse.{digits_value}
use Rattle.cmd_types.specs.Cuts.{before, after}
use Rattle.mon_checks.specs.declared.status.Status.{Status}
use Rattle.mon_notes.specs.declared.comment.Comment.{Comment}
use Rattle.mon_notify.specs.declared.contacts.ContactSwitch.{ContactSwitch}
use Rattle.mon_downtime.specs.declared.downtime.Downtime.{Downtime}
use Rattle.mon_downtime.specs.declared.downtime.Fate.{Fate}
use Rattle.mon_downtime.specs.declared.downtime.Fate.TheVariants.{Pending, Active, Over}
use Rattle.mon_inventory.specs.declared.records.ObjectSpec.{ObjectSpec}
use Rattle.mon_inventory.specs.declared.records.ContactSpec.{ContactSpec}
use Rattle.mon_inventory.specs.Configuration.{Configuration, recovers_the_told}
use Rattle.mon_engine.specs.declared.ends.Owed.{Owed}
use Rattle.mon_engine.specs.declared.object.Object.{Object}
use Rattle.mon_engine.specs.declared.object.Moments.{Moments}
use Rattle.mon_engine.specs.declared.object.Acknowledgement.{Acknowledgement}
use Rattle.mon_engine.specs.declared.object.Acknowledgement.TheVariants.{Unacknowledged, Normal, Sticky}
use Rattle.mon_engine.specs.declared.switches.Program.{Program}
use Rattle.mon_engine.specs.World.{World}
use Rattle.mon_engine.specs.Report.{or_empty}
use Rattle.mon_engine.specs.Objects.{is_service}
use Rattle.mon_engine.specs.Owed.{initial_owed, presumed}
use Rattle.mon_state.specs.declared.fault.StateCause.{StateCause}
use Rattle.mon_state.specs.declared.fault.StateCause.TheVariants.{BadLine, BadValue, UnknownVersion}
use Rattle.mon_state.specs.declared.lines.AuthorText.{AuthorText}
use Rattle.mon_state.specs.declared.version.StateVersion.{StateVersion}
use Rattle.mon_state.specs.declared.version.StateVersion.TheVariants.{One, Two}
use Rattle.mon_state.specs.Version.{version_of, is_number}
use Rattle.mon_state.specs.Upgrade.{upgraded}

-- why reading stopped, and the text from the faulty field on
abbrev pub Stuck : Type 0
Stuck = StateCause × List ℕ

infixl 10 ◌>>=◌
abbrev pub ◌>>=◌ : {A B : Type 0} → Result A Stuck → (A → Result B Stuck) → Result B Stuck
(Ok x) >>= f = f x
(Err e) >>= f = Err e

-- ---- a field, and the text after it

-- the field and the text after its end, where the end was found; else a bad line
abbrev pub ended : (at field : List ℕ) → Option (List ℕ) → Result (List ℕ × List ℕ) Stuck
ended at field None = Err (BadLine, at)
ended at field (Some rest) = Ok (field, rest)

-- the bytes before the first byte `end`, which ends the field
unfoldable pub field_at : (end : ℕ) → List ℕ → Result (List ℕ × List ℕ) Stuck
field_at end text = ended text (before end text) (after end text)

-- the field, where no line feed is in it
abbrev pub in_one_line : (at : List ℕ) → List ℕ × List ℕ → (behind_feed : Option (List ℕ)) → Result (List ℕ × List ℕ) Stuck
in_one_line at field None = Ok field
in_one_line at field (Some rest) = Err (BadLine, at)

-- the bytes before the first semicolon, which ends the field in the line in which the field begins
unfoldable pub word_at : List ℕ → Result (List ℕ × List ℕ) Stuck
word_at text = do
  field ← field_at 59 text
  in_one_line text field (after 10 field.0)

-- the text after these bytes, where it begins with them
unfoldable pub rest_after : (expected : List ℕ) → List ℕ → Option (List ℕ)
rest_after [] text = Some text
rest_after (x ∷ xs) [] = None
rest_after (x ∷ xs) (y ∷ ys) = if x == y then rest_after xs ys else None

-- the text after the expected bytes, where they were found; else a bad line
abbrev pub found_or : (at : List ℕ) → Option (List ℕ) → Result (List ℕ) Stuck
found_or at None = Err (BadLine, at)
found_or at (Some rest) = Ok rest

-- the text after these bytes; a bad line where the text does not begin with them
unfoldable pub expect_at : (expected : List ℕ) → List ℕ → Result (List ℕ) Stuck
expect_at expected text = found_or text (rest_after expected text)

-- the number that a field spells
unfoldable pub number_of : List ℕ → Option ℕ
number_of text = if is_number text then Some (digits_value 10 text) else None

-- the value that the field at the front of a text spells; a bad line where it spells none
abbrev pub some_or : {A : Type 0} → (at : List ℕ) → Option A → Result A Stuck
some_or at None = Err (BadLine, at)
some_or at (Some x) = Ok x

-- a number
unfoldable pub number_at : (end : ℕ) → List ℕ → Result (ℕ × List ℕ) Stuck
number_at end text = do
  field ← field_at end text
  n ← some_or text (number_of field.0)
  Ok (n, field.1)

-- the number of the field at the front of a text, where it is at most this
abbrev pub at_most : (at : List ℕ) → (most : ℕ) → ℕ × List ℕ → Result (ℕ × List ℕ) Stuck
at_most at most n = if nat_lt most n.0 then Err (BadValue, at) else Ok n

-- a number that is at most this
unfoldable pub small_at : (most end : ℕ) → List ℕ → Result (ℕ × List ℕ) Stuck
small_at most end text = do
  n ← number_at end text
  at_most text most n

-- the number that a field spells, or none where it is empty
unfoldable pub optional_of : List ℕ → Option (Option ℕ)
optional_of [] = Some None
optional_of (x ∷ xs) = option_map (λ n. Some n) (number_of (x ∷ xs))

-- a number, or an empty field
unfoldable pub optional_at : (end : ℕ) → List ℕ → Result (Option ℕ × List ℕ) Stuck
optional_at end text = do
  field ← field_at end text
  n ← some_or text (optional_of field.0)
  Ok (n, field.1)

-- a code of at most 255, or none
abbrev pub code_in : (at : List ℕ) → Option ℕ × List ℕ → Result (Option ℕ × List ℕ) Stuck
code_in at (None, rest) = Ok (None, rest)
code_in at (Some n, rest) = if nat_lt 255 n then Err (BadValue, at) else Ok (Some n, rest)

-- a code of at most 255, or an empty field
unfoldable pub optional_code_at : (end : ℕ) → List ℕ → Result (Option ℕ × List ℕ) Stuck
optional_code_at end text = do
  n ← optional_at end text
  code_in text n

-- the flag that a field spells
abbrev pub flag_of : List ℕ → Option Bool
flag_of text = if bytes_eq text (codes "0") then Some false else (if bytes_eq text (codes "1") then Some true else None)

-- 0 or 1
unfoldable pub flag_at : (end : ℕ) → List ℕ → Result (Bool × List ℕ) Stuck
flag_at end text = do
  field ← field_at end text
  on ← some_or text (flag_of field.0)
  Ok (on, field.1)

-- the acknowledgement that a field spells
abbrev pub acknowledgement_of : List ℕ → Option Acknowledgement
acknowledgement_of text = if bytes_eq text (codes "0") then Some Unacknowledged else (if bytes_eq text (codes "1") then Some Normal else (if bytes_eq text (codes "2") then Some Sticky else None))

-- the field of an acknowledgement
unfoldable pub acknowledgement_at : List ℕ → Result (Acknowledgement × List ℕ) Stuck
acknowledgement_at text = do
  field ← field_at 59 text
  a ← some_or text (acknowledgement_of field.0)
  Ok (a, field.1)

-- the two moments of a downtime that is active
unfoldable pub active_at : List ℕ → Result (Fate × List ℕ) Stuck
active_at text = do
  since ← number_at 59 text
  until ← number_at 59 since.1
  Ok (Active since.0 until.0, until.1)

-- the two fields of moments after any other fate, each of which may be empty. A moment in them is not refused here,
-- but by the comparison with the text as it would be written.
unfoldable pub inactive_at : Fate → List ℕ → Result (Fate × List ℕ) Stuck
inactive_at fate text = do
  since ← optional_at 59 text
  until ← optional_at 59 since.1
  Ok (fate, until.1)

-- the fate with this word, and its moments; a bad line where no fate has the word
abbrev pub fate_of : (at word : List ℕ) → List ℕ → Result (Fate × List ℕ) Stuck
fate_of at word text = if bytes_eq word (codes "pending") then inactive_at Pending text else (if bytes_eq word (codes "over") then inactive_at Over text else (if bytes_eq word (codes "active") then active_at text else Err (BadLine, at)))

-- FATE;SINCE;UNTIL;
unfoldable pub fate_at : List ℕ → Result (Fate × List ℕ) Stuck
fate_at text = do
  word ← word_at text
  fate_of text word.0 word.1

-- ---- the parts of a line

-- a name, and the semicolon that ends it
abbrev pub name_at : (name : List ℕ) → List ℕ → Result (List ℕ) Stuck
name_at name text = do
  rest ← expect_at name text
  expect_at (59 ∷ []) rest

-- HOST;SERVICE;
unfoldable pub names_at : ObjectSpec → List ℕ → Result (List ℕ) Stuck
names_at spec text = do
  rest ← name_at spec.host text
  name_at (or_empty spec.service) rest

-- the index of an object, and the text after its names; a bad value where no object has the index
abbrev pub names_of : (at : List ℕ) → Option ObjectSpec → ℕ × List ℕ → Result (ℕ × List ℕ) Stuck
names_of at None n = Err (BadValue, at)
names_of at (Some spec) n = do
  rest ← names_at spec n.1
  Ok (n.0, rest)

-- OBJECT;HOST;SERVICE;
unfoldable pub object_at : List ObjectSpec → List ℕ → Result (ℕ × List ℕ) Stuck
object_at specs text = do
  n ← small_at 65535 59 text
  names_of text (slice_get specs n.0) n

-- the word and the names of an object's line
abbrev pub head_of : (host : List ℕ) → Option (List ℕ) → List ℕ → Result (List ℕ) Stuck
head_of host None text = do
  rest ← expect_at (codes "host;") text
  name_at host rest
head_of host (Some name) text = do
  rest ← expect_at (codes "service;") text
  rest ← name_at host rest
  name_at name rest

-- the moments of an object in this status, where the text has this clock; version 1 has those of an upgrade
unfoldable pub moments_at : StateVersion → (clock : ℕ) → Status → List ℕ → Result (Moments × List ℕ) Stuck
moments_at One clock status text = Ok (upgraded clock status, text)
moments_at Two clock status text = do
  checked ← optional_at 59 text
  changed ← number_at 59 checked.1
  since ← optional_at 59 changed.1
  Ok (record { checked = checked.0; changed = changed.0; since = since.0 }, since.1)

-- the line of a host or a service, where the text has this clock
unfoldable pub known_at : StateVersion → (clock : ℕ) → ObjectSpec → List ℕ → Result (Object × List ℕ) Stuck
known_at version clock spec text = do
  text ← head_of spec.host spec.service text
  code ← small_at 255 59 text
  hard ← flag_at 59 code.1
  attempt ← number_at 59 hard.1
  acknowledgement ← acknowledgement_at attempt.1
  number ← number_at 59 acknowledgement.1
  last ← optional_at 59 number.1
  notified ← optional_code_at 59 last.1
  not_before ← optional_at 59 notified.1
  notify ← flag_at 59 not_before.1
  passive ← flag_at 59 notify.1
  moments ← moments_at version clock (record { service = is_service spec; code = code.0; hard = hard.0; attempt = attempt.0 }) passive.1
  output ← field_at 10 moments.1
  Ok (
    record {
      status = record { service = is_service spec; code = code.0; hard = hard.0; attempt = attempt.0 };
      moments = moments.0;
      output = output.0;
      acknowledgement = acknowledgement.0;
      number = number.0;
      last = last.0;
      notified = notified.0;
      not_before = not_before.0;
      notify = notify.0;
      passive = passive.0;
    },
    output.1,
  )

-- the line of a contact
unfoldable pub switch_at : ContactSpec → List ℕ → Result (ContactSwitch × List ℕ) Stuck
switch_at spec text = do
  text ← expect_at (codes "contact;") text
  text ← name_at spec.name text
  host ← flag_at 59 text
  service ← flag_at 10 host.1
  Ok (record { host = host.0; service = service.0 }, service.1)

-- AUTHOR;TEXT and the line feed
unfoldable pub said_at : List ℕ → Result (AuthorText × List ℕ) Stuck
said_at text = do
  author ← word_at text
  text ← field_at 10 author.1
  Ok (record { author = author.0; text = text.0 }, text.1)

-- the line of a comment
unfoldable pub comment_at : List ObjectSpec → List ℕ → Result (Comment × List ℕ) Stuck
comment_at specs text = do
  text ← expect_at (codes "comment;") text
  id ← number_at 59 text
  object ← object_at specs id.1
  ack ← flag_at 59 object.1
  persistent ← flag_at 59 ack.1
  time ← number_at 59 persistent.1
  said ← said_at time.1
  Ok (record { id = id.0; object = object.0; ack = ack.0; persistent = persistent.0; time = time.0; author = said.0.author; text = said.0.text }, said.1)

-- the line of a downtime
unfoldable pub downtime_at : List ObjectSpec → List ℕ → Result (Downtime × List ℕ) Stuck
downtime_at specs text = do
  text ← expect_at (codes "downtime;") text
  id ← number_at 59 text
  object ← object_at specs id.1
  start_time ← number_at 59 object.1
  end_time ← number_at 59 start_time.1
  fixed ← flag_at 59 end_time.1
  trigger_id ← number_at 59 fixed.1
  duration ← number_at 59 trigger_id.1
  entered ← number_at 59 duration.1
  fate ← fate_at entered.1
  said ← said_at fate.1
  Ok (
    record {
      id = id.0;
      object = object.0;
      plan = record {
        times = record { start_time = start_time.0; end_time = end_time.0; fixed = fixed.0; trigger_id = trigger_id.0; duration = duration.0 };
        author = said.0.author;
        text = said.0.text;
      };
      entered = entered.0;
      fate = fate.0;
    },
    said.1,
  )

-- ---- many lines

-- `count` lines, one after another
unfoldable pub many_at : {X : Type 0} → (List X → List ℕ → Result (X × List ℕ) Stuck) → (count : ℕ) → List X → List ℕ → Result (List X × List ℕ) Stuck
many_at one zero xs text = Ok (xs, text)
many_at one (suc count) xs text = one xs text >>= λ x. many_at one count (xs ++ x.0 ∷ []) x.1

-- the line of this object, where there is one
abbrev pub known_of : StateVersion → (clock : ℕ) → Option ObjectSpec → List ℕ → Result (Object × List ℕ) Stuck
known_of version clock None text = Err (BadLine, text)
known_of version clock (Some spec) text = known_at version clock spec text

-- the line of the object after those that were read
abbrev pub next_known : StateVersion → (clock : ℕ) → List ObjectSpec → List Object → List ℕ → Result (Object × List ℕ) Stuck
next_known version clock specs os text = known_of version clock (slice_get specs (length os)) text

-- the line of this contact, where there is one
abbrev pub switch_of : Option ContactSpec → List ℕ → Result (ContactSwitch × List ℕ) Stuck
switch_of None text = Err (BadLine, text)
switch_of (Some spec) text = switch_at spec text

-- the line of the contact after those that were read
abbrev pub next_switch : List ContactSpec → List ContactSwitch → List ℕ → Result (ContactSwitch × List ℕ) Stuck
next_switch specs cs text = switch_of (slice_get specs (length cs)) text

-- the line of a comment, whatever was read before
abbrev pub next_comment : List ObjectSpec → List Comment → List ℕ → Result (Comment × List ℕ) Stuck
next_comment specs cs text = comment_at specs text

-- the line of a downtime, whatever was read before
abbrev pub next_downtime : List ObjectSpec → List Downtime → List ℕ → Result (Downtime × List ℕ) Stuck
next_downtime specs ds text = downtime_at specs text

-- ---- who is owed an end

-- the index of a contact, whatever was read before
abbrev pub next_index : List ℕ → List ℕ → Result (ℕ × List ℕ) Stuck
next_index cs text = small_at 65535 59 text

-- how many contacts the rest of a line has: each is followed by a semicolon
unfoldable pub contacts_left : List ℕ → ℕ
contacts_left text = count_by (λ b. b == 59) (before 10 text)

-- the line of who is owed the end of an object's problem
unfoldable pub owed_at : ObjectSpec → List ℕ → Result (Owed × List ℕ) Stuck
owed_at spec text = do
  text ← expect_at (codes "owed;") text
  text ← names_at spec text
  number ← number_at 59 text
  contacts ← many_at next_index (contacts_left number.1) [] number.1
  text ← expect_at (10 ∷ []) contacts.1
  Ok (record { contacts = contacts.0; number = number.0 }, text)

-- the line of this object, where there is one
abbrev pub owed_of : Option ObjectSpec → List ℕ → Result (Owed × List ℕ) Stuck
owed_of None text = Err (BadLine, text)
owed_of (Some spec) text = owed_at spec text

-- the line of the object after those that were read
abbrev pub next_owed : List ObjectSpec → List Owed → List ℕ → Result (Owed × List ℕ) Stuck
next_owed specs owed text = owed_of (slice_get specs (length owed)) text

-- who is owed the end of each object's problem: with the option `recover_the_told` each object has a line; without it
-- there is no line, and nobody is owed an end. Version 1 has no such line either, and there it is presumed from the
-- objects.
unfoldable pub all_owed_at : StateVersion → Configuration → List Object → List ℕ → Result (List Owed × List ℕ) Stuck
all_owed_at One inv os text = Ok (presumed inv os, text)
all_owed_at Two inv os text = if recovers_the_told inv then many_at (next_owed inv.objects) (length inv.objects) [] text else Ok (map initial_owed inv.objects, text)

-- ---- the whole

-- the version that was found, or the fault
abbrev pub known_or : (at : List ℕ) → Option StateVersion → Result StateVersion Stuck
known_or at None = Err (UnknownVersion, at)
known_or at (Some version) = Ok version

-- the version that the heading names, and the text after the heading
unfoldable pub version_at : List ℕ → Result (StateVersion × List ℕ) Stuck
version_at text = do
  text ← expect_at (codes "state;") text
  number ← number_at 10 text
  version ← known_or text (version_of number.0)
  Ok (version, number.1)

-- the line of the program's switches
unfoldable pub program_at : List ℕ → Result (Program × List ℕ) Stuck
program_at text = do
  text ← expect_at (codes "program;") text
  notifications ← flag_at 59 text
  passive_host ← flag_at 59 notifications.1
  passive_service ← flag_at 10 passive_host.1
  Ok (record { notifications = notifications.0; passive_host = passive_host.0; passive_service = passive_service.0 }, passive_service.1)

-- a line of a word and a number
unfoldable pub count_at : (word : List ℕ) → List ℕ → Result (ℕ × List ℕ) Stuck
count_at word text = do
  text ← expect_at word text
  number_at 10 text

-- the world that the text after the heading spells. The line `end` is not read here, but compared with the text as it
-- would be written.
unfoldable pub world_at : StateVersion → Configuration → List ℕ → Result World Stuck
world_at version inv text = do
  clock ← count_at (codes "clock;") text
  before ← count_at (codes "entries;") clock.1
  program ← program_at before.1
  objects ← many_at (next_known version clock.0 inv.objects) (length inv.objects) [] program.1
  contacts ← many_at (next_switch inv.contacts) (length inv.contacts) [] objects.1
  text ← expect_at (codes "comments;") contacts.1
  last_id ← number_at 59 text
  count ← number_at 10 last_id.1
  comments ← many_at (next_comment inv.objects) count.0 [] count.1
  count ← count_at (codes "downtimes;") comments.1
  downtimes ← many_at (next_downtime inv.objects) count.0 [] count.1
  owed ← all_owed_at version inv objects.0 downtimes.1
  Ok (record {
    clock = clock.0;
    notes = record { comments = comments.0; last_id = last_id.0 };
    downtimes = downtimes.0;
    objects = objects.0;
    program = program.0;
    contacts = contacts.0;
    owed = owed.0;
    rejections = [];
    notices = [];
    entries = 0;
    before = before.0;
  })
