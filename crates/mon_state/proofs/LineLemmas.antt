-- A line is read back, and so are many lines and the whole text.
use Rattle.std.proofs.Common.{◌≡◌, ℕ, zero, suc, ◌+◌, ◌<◌, ◌≤◌, ◌^◌, Bool, List, [], ◌∷◌, ◌++◌, length, take, get_or, Option, Some, None, Result, Ok, slice_get, append_assoc, refl, ap, sym, ◌∙◌, subst, arith}
use Rattle.std.specs.Prelude.{codes, IfSome}
use Rattle.std.specs.Fmt.{decimal}
use Rattle.std.specs.List.{flat_map, range_with_len, AllByRecursion}
use Rattle.std.proofs.Math.Seq.{take-suc}
use Rattle.std.proofs.lemmas.List.{take_all, append-nil}
use Rattle.std.proofs.lemmas.Option.{slice_get-get_or}
use Rattle.cmd_types.specs.Bytes.{Lacks}
use Rattle.mon_checks.specs.declared.status.Status.{Status}
use Rattle.mon_notes.specs.declared.comment.Comment.{Comment}
use Rattle.mon_downtime.specs.declared.downtime.Downtime.{Downtime}
use Rattle.mon_downtime.specs.declared.downtime.Fate.{Fate}
use Rattle.mon_downtime.specs.declared.downtime.Fate.TheVariants.{Pending, Active, Over}
use Rattle.mon_notify.specs.declared.contacts.ContactSwitch.{ContactSwitch}
use Rattle.mon_inventory.specs.declared.records.ObjectSpec.{ObjectSpec}
use Rattle.mon_inventory.specs.declared.records.ContactSpec.{ContactSpec}
use Rattle.mon_engine.specs.declared.object.Object.{Object}
use Rattle.mon_engine.specs.declared.object.Moments.{Moments}
use Rattle.mon_engine.specs.declared.switches.Program.{Program}
use Rattle.mon_engine.specs.Objects.{is_service}
use Rattle.mon_engine.specs.Words.{acknowledgement_text}
use Rattle.mon_engine.specs.Report.{flag, optional, or_empty, program_line, contact_line_of}
use Rattle.mon_engine.specs.Saved.{IsSaid}
use Rattle.mon_state.specs.State.{fate_fields, moment_fields, known_fields, host_or_service_line, comment_line_of, comment_line, downtime_line_of, downtime_line}
use Rattle.mon_state.specs.declared.version.StateVersion.{StateVersion}
use Rattle.mon_state.specs.declared.version.StateVersion.TheVariants.{One, Two}
use Rattle.mon_state.specs.Upgrade.{upgraded}
use Rattle.mon_state.specs.Reading.{Stuck, head_of, moments_at, known_at, switch_at, program_at, said_at, comment_at, downtime_at, many_at}
use Rattle.mon_state.proofs.LawLemmas.{chained, line_behind, then, field_gives, word_gives, expect_gives, number_gives, small_gives, optional_gives, optional_code_gives, flag_gives, last_flag_gives, acknowledgement_gives, IsReadable, fate_text, fate_gives, name_gives, object_gives}

-- ---- objects

-- the moments, each ended by a semicolon, where the version has them
abbrev moment_text : StateVersion → Moments → List ℕ → List ℕ
moment_text One m rest = rest
moment_text Two m rest = optional m.checked ++ 59 ∷ (decimal m.changed ++ 59 ∷ (optional m.since ++ 59 ∷ rest))

moments_behind : (version : StateVersion) (m : Moments) (field rest : List ℕ) → chained (moment_fields version m ++ field ∷ []) rest ≡ 59 ∷ moment_text version m (field ++ 10 ∷ rest)
moments_behind One m field rest = refl
moments_behind Two m field rest = refl

-- the fields after the names
abbrev known_text : StateVersion → Object → List ℕ → List ℕ
known_text version o rest =
    decimal o.status.code ++ 59 ∷ (flag o.status.hard ++ 59 ∷ (decimal o.status.attempt ++ 59 ∷ (acknowledgement_text o.acknowledgement ++ 59 ∷ (decimal o.number ++ 59 ∷ (optional o.last ++ 59 ∷ (optional o.notified ++ 59 ∷ (optional o.not_before
    ++ 59 ∷ (flag o.notify ++ 59 ∷ (flag o.passive ++ 59 ∷ moment_text version o.moments (o.output ++ 10 ∷ rest))))))))))

head_gives : (version : StateVersion) (host : List ℕ) (service : Option (List ℕ)) (o : Object) (rest : List ℕ) → head_of host service (host_or_service_line version host service o ++ rest) ≡ Ok (known_text version o rest)
head_gives version host None o rest =
    rw (line_behind (codes "host") (host ∷ known_fields version o) rest, moments_behind version o.moments o.output rest)
    (then _ (expect_gives (codes "host;") (host ++ 59 ∷ known_text version o rest)) (name_gives host (known_text version o rest)))
head_gives version host (Some name) o rest =
    rw (line_behind (codes "service") (host ∷ name ∷ known_fields version o) rest, moments_behind version o.moments o.output rest)
    (then _ (expect_gives (codes "service;") (host ++ 59 ∷ (name ++ 59 ∷ known_text version o rest))) (then _ (name_gives host (name ++ 59 ∷ known_text version o rest)) (name_gives name (known_text version o rest))))

pub record AreReadableMoments (m : Moments) : Type 0 where
  pub checked : IfSome m.checked (λ n. n < 10 ^ 18)
  pub changed : m.changed < 10 ^ 18
  pub since : IfSome m.since (λ n. n < 10 ^ 18)

-- the moments of version 1 are those of an upgrade
abbrev pub AreOfVersion : StateVersion → (clock : ℕ) → Status → Moments → Type 0
AreOfVersion version clock status m = version ≡ One → m ≡ upgraded clock status

moments_give : (version : StateVersion) (clock : ℕ) (status : Status) (m : Moments) (rest : List ℕ) → AreReadableMoments m → AreOfVersion version clock status m → moments_at version clock status (moment_text version m rest) ≡ Ok (m, rest)
unfolding moments_at
moments_give One clock status m rest h is = ap (λ (x : Moments). Ok (x, rest)) (sym (is refl))
moments_give Two clock status m rest h is = then _ (optional_gives m.checked _ h.checked) (then _ (number_gives 59 m.changed _ refl h.changed) (then _ (optional_gives m.since _ h.since) refl))

pub record IsReadableObject (o : Object) : Type 0 where
  pub code : o.status.code ≤ 255
  pub attempt : o.status.attempt < 10 ^ 18
  pub number : o.number < 10 ^ 18
  pub last : IfSome o.last (λ n. n < 10 ^ 18)
  pub notified : IfSome o.notified (λ n. n < 4)
  pub not_before : IfSome o.not_before (λ n. n < 10 ^ 18)
  pub moments : AreReadableMoments o.moments
  pub output : Lacks 10 o.output

pub known_gives : (version : StateVersion) (clock : ℕ) (spec : ObjectSpec) (o : Object) (rest : List ℕ) → o.status.service ≡ is_service spec → IsReadableObject o → AreOfVersion version clock o.status o.moments
    → known_at version clock spec (host_or_service_line version spec.host spec.service o ++ rest) ≡ Ok (o, rest)
unfolding known_at
known_gives version clock spec o rest kind h is =
    then _ (head_gives version spec.host spec.service o rest)
    (then _ (small_gives 255 o.status.code _ h.code (let small = h.code in omega arith))
    (then _ (flag_gives o.status.hard _)
    (then _ (number_gives 59 o.status.attempt _ refl h.attempt)
    (then _ (acknowledgement_gives o.acknowledgement _)
    (then _ (number_gives 59 o.number _ refl h.number)
    (then _ (optional_gives o.last _ h.last)
    (then _ (optional_code_gives o.notified _ h.notified)
    (then _ (optional_gives o.not_before _ h.not_before)
    (then _ (flag_gives o.notify _)
    (then _ (flag_gives o.passive _)
    (then _ (moments_give version clock (record o.status { service = is_service spec }) o.moments _ h.moments is)
    (then _ (field_gives 10 o.output rest h.output)
    (ap (λ (b : Bool). Ok (record o { status = record o.status { service = b } }, rest)) (sym kind))))))))))))))

-- ---- contacts, and the program

pub switch_gives : (spec : ContactSpec) (s : ContactSwitch) (rest : List ℕ) → switch_at spec (contact_line_of (Some spec) (Some s) ++ rest) ≡ Ok (s, rest)
unfolding switch_at
switch_gives spec s rest =
    rw (line_behind (codes "contact") (spec.name ∷ flag s.host ∷ flag s.service ∷ []) rest)
    (then _ (expect_gives (codes "contact;") (spec.name ++ 59 ∷ (flag s.host ++ 59 ∷ (flag s.service ++ 10 ∷ rest))))
    (then _ (name_gives spec.name (flag s.host ++ 59 ∷ (flag s.service ++ 10 ∷ rest)))
    (then _ (flag_gives s.host (flag s.service ++ 10 ∷ rest))
    (then _ (last_flag_gives s.service rest) refl))))

pub program_gives : (p : Program) (rest : List ℕ) → program_at (program_line p ++ rest) ≡ Ok (p, rest)
unfolding program_at
program_gives p rest =
    rw (line_behind (codes "program") (flag p.notifications ∷ flag p.passive_host ∷ flag p.passive_service ∷ []) rest)
    (then _ (expect_gives (codes "program;") (flag p.notifications ++ 59 ∷ (flag p.passive_host ++ 59 ∷ (flag p.passive_service ++ 10 ∷ rest))))
    (then _ (flag_gives p.notifications (flag p.passive_host ++ 59 ∷ (flag p.passive_service ++ 10 ∷ rest)))
    (then _ (flag_gives p.passive_host (flag p.passive_service ++ 10 ∷ rest))
    (then _ (last_flag_gives p.passive_service rest) refl))))

-- ---- comments

said_gives : (author text rest : List ℕ) → IsSaid author text → said_at (author ++ 59 ∷ (text ++ 10 ∷ rest)) ≡ Ok (record { author = author; text = text }, rest)
unfolding said_at
said_gives author text rest h = then _ (word_gives author (text ++ 10 ∷ rest) h.no_semicolon h.author_line) (then _ (field_gives 10 text rest h.text_line) refl)

-- the comment's object is one of `count`, and its numbers can be read
pub record IsReadableComment (count : ℕ) (c : Comment) : Type 0 where
  pub object : c.object < count
  pub id : c.id < 10 ^ 18
  pub time : c.time < 10 ^ 18
  pub said : IsSaid c.author c.text

comment_of_gives : (specs : List ObjectSpec) (spec : ObjectSpec) (c : Comment) (rest : List ℕ) → slice_get specs c.object ≡ Some spec → length specs ≤ 65535 → IsReadableComment (length specs) c → comment_at specs (comment_line_of c (Some spec) ++ rest) ≡ Ok (c, rest)
unfolding comment_at
comment_of_gives specs spec c rest at few h =
    rw (line_behind (codes "comment") (decimal c.id ∷ decimal c.object ∷ spec.host ∷ or_empty spec.service ∷ flag c.ack ∷ flag c.persistent ∷ decimal c.time ∷ c.author ∷ c.text ∷ []) rest)
    (then _ (expect_gives (codes "comment;") _)
    (then _ (number_gives 59 c.id _ refl h.id)
    (then _ (object_gives specs spec c.object _ at (let low = h.object in omega arith))
    (then _ (flag_gives c.ack _)
    (then _ (flag_gives c.persistent _)
    (then _ (number_gives 59 c.time _ refl h.time)
    (then _ (said_gives c.author c.text rest h.said) refl)))))))

-- the inventory has a line at this index
with_spec : (specs : List ObjectSpec) (i : ℕ) → i < length specs → (P : Option ObjectSpec → Type 0) → ((spec : ObjectSpec) → slice_get specs i ≡ Some spec → P (Some spec)) → P (slice_get specs i)
with_spec [] i low P f = absurd (omega arith)
with_spec (x ∷ specs) i low P f = let at = slice_get-get_or (x ∷ specs) i x low in subst P (sym at) (f (get_or (x ∷ specs) i x) at)

pub comment_gives : (specs : List ObjectSpec) (c : Comment) (rest : List ℕ) → length specs ≤ 65535 → IsReadableComment (length specs) c → comment_at specs (comment_line specs c ++ rest) ≡ Ok (c, rest)
unfolding comment_line
comment_gives specs c rest few h = with_spec specs c.object h.object (λ o. comment_at specs (comment_line_of c o ++ rest) ≡ Ok (c, rest)) (λ spec at. comment_of_gives specs spec c rest at few h)

-- ---- downtimes

fate_behind : (f : Fate) (field : List ℕ) (fields : List (List ℕ)) (rest : List ℕ) → chained (fate_fields f ++ field ∷ fields) rest ≡ 59 ∷ fate_text f (field ++ chained fields rest)
fate_behind Pending field fields rest = refl
fate_behind (Active since until) field fields rest = refl
fate_behind Over field fields rest = refl

pub record IsReadableDowntime (count : ℕ) (d : Downtime) : Type 0 where
  pub object : d.object < count
  pub id : d.id < 10 ^ 18
  pub start : d.plan.times.start_time < 10 ^ 18
  pub end : d.plan.times.end_time < 10 ^ 18
  pub trigger : d.plan.times.trigger_id < 10 ^ 18
  pub duration : d.plan.times.duration < 10 ^ 18
  pub entered : d.entered < 10 ^ 18
  pub fate : IsReadable d.fate
  pub said : IsSaid d.plan.author d.plan.text

downtime_of_gives : (specs : List ObjectSpec) (spec : ObjectSpec) (d : Downtime) (rest : List ℕ) → slice_get specs d.object ≡ Some spec → length specs ≤ 65535 → IsReadableDowntime (length specs) d → downtime_at specs (downtime_line_of d (Some spec) ++ rest) ≡ Ok (d, rest)
unfolding downtime_at
downtime_of_gives specs spec d rest at few h =
    rw (
      line_behind (codes "downtime") (decimal d.id ∷ decimal d.object ∷ spec.host ∷ or_empty spec.service ∷ decimal d.plan.times.start_time ∷ decimal d.plan.times.end_time ∷ flag d.plan.times.fixed ∷ decimal d.plan.times.trigger_id ∷ decimal d.plan.times.duration ∷ decimal d.entered ∷ (fate_fields d.fate ++ d.plan.author ∷ d.plan.text ∷ [])) rest,
      fate_behind d.fate d.plan.author (d.plan.text ∷ []) rest,
    )
    (then _ (expect_gives (codes "downtime;") _)
    (then _ (number_gives 59 d.id _ refl h.id)
    (then _ (object_gives specs spec d.object _ at (let low = h.object in omega arith))
    (then _ (number_gives 59 d.plan.times.start_time _ refl h.start)
    (then _ (number_gives 59 d.plan.times.end_time _ refl h.end)
    (then _ (flag_gives d.plan.times.fixed _)
    (then _ (number_gives 59 d.plan.times.trigger_id _ refl h.trigger)
    (then _ (number_gives 59 d.plan.times.duration _ refl h.duration)
    (then _ (number_gives 59 d.entered _ refl h.entered)
    (then _ (fate_gives d.fate _ h.fate)
    (then _ (said_gives d.plan.author d.plan.text rest h.said) refl)))))))))))

pub downtime_gives : (specs : List ObjectSpec) (d : Downtime) (rest : List ℕ) → length specs ≤ 65535 → IsReadableDowntime (length specs) d → downtime_at specs (downtime_line specs d ++ rest) ≡ Ok (d, rest)
unfolding downtime_line
downtime_gives specs d rest few h = with_spec specs d.object h.object (λ o. downtime_at specs (downtime_line_of d o ++ rest) ≡ Ok (d, rest)) (λ spec at. downtime_of_gives specs spec d rest at few h)

-- ---- many lines

-- lines that depend on the item alone
pub each_gives : {X : Type 0} (one : List X → List ℕ → Result (X × List ℕ) Stuck) (text : X → List ℕ) (Q : X → Type 0) → ((done : List X) (x : X) (rest : List ℕ) → Q x → one done (text x ++ rest) ≡ Ok (x, rest))
    → (done todo : List X) (rest : List ℕ) → AllByRecursion Q todo → many_at one (length todo) done (flat_map text todo ++ rest) ≡ Ok (done ++ todo, rest)
unfolding many_at
each_gives one text Q each done [] rest all = ap (λ xs. Ok (xs, rest)) (sym (append-nil done))
each_gives {X = X} one text Q each done (x ∷ todo) rest all =
    rw (append_assoc (text x) (flat_map text todo) rest)
    (then _ (each done x (flat_map text todo ++ rest) all.0)
    (each_gives one text Q each (done ++ x ∷ []) todo rest all.1 ∙ ap (λ (xs : List X). Ok (xs, rest)) (append_assoc done (x ∷ []) todo)))

-- lines that depend on the index of the item
pub placed_gives : {X : Type 0} (one : List X → List ℕ → Result (X × List ℕ) Stuck) (text : ℕ → List ℕ) (xs : List X) → ((k : ℕ) (x : X) (rest : List ℕ) → slice_get xs k ≡ Some x → one (take k xs) (text k ++ rest) ≡ Ok (x, rest))
    → (n k : ℕ) (rest : List ℕ) → k + n ≡ length xs → many_at one n (take k xs) (flat_map text (range_with_len k n) ++ rest) ≡ Ok (xs, rest)
unfolding many_at
placed_gives {X = X} one text xs each zero k rest all = ap (λ (ys : List X). Ok (ys, rest)) (take_all k xs (omega arith))
placed_gives {X = X} one text xs each (suc n) k rest all =
    with_item xs k (omega arith) (λ x at more.
    rw (append_assoc (text k) (flat_map text (range_with_len (k + 1) n)) rest)
    (then _ (each k x (flat_map text (range_with_len (k + 1) n) ++ rest) at)
    (ap (λ (ys : List X). many_at one n ys (flat_map text (range_with_len (k + 1) n) ++ rest)) more ∙ placed_gives one text xs each n (k + 1) rest (omega (arith, all)))))
  where
    with_item : {R : Type 0} (ys : List X) (i : ℕ) → i < length ys → ((x : X) → slice_get ys i ≡ Some x → take i ys ++ x ∷ [] ≡ take (i + 1) ys → R) → R
    with_item [] i low f = absurd (omega arith)
    with_item (y ∷ ys) i low f =
        let next : suc i ≡ i + 1 = omega arith in
        f (get_or (y ∷ ys) i y) (slice_get-get_or (y ∷ ys) i y low) (sym (take-suc (y ∷ ys) i y low) ∙ ap (λ j. take j (y ∷ ys)) next)
