-- The text of a saved world is read as the world from which a monitor resumes.
use Rattle.std.proofs.Common.{◌≡◌, ℕ, ◌+◌, ◌*◌, ◌<◌, ◌≤◌, ◌^◌, Bool, true, false, List, [], ◌∷◌, ◌++◌, length, take, get_or, Option, Some, None, option_map, Result, Ok, map, slice_get, append_assoc, refl, ap, sym, ◌∙◌, subst, arith}
use Rattle.std.specs.Prelude.{codes, IfSome, All}
use Rattle.std.specs.Fmt.{decimal}
use Rattle.std.specs.List.{flat_map, AllByRecursion}
use Rattle.std.proofs.lemmas.List.{length-take, map-append}
use Rattle.std.proofs.lemmas.List.Elements.{recursion_from_All}
use Rattle.std.proofs.lemmas.Option.{same_Some, slice_get-map, slice_get-get_or, slice_get_within, get_or_from_slice_get}
use Rattle.cmd_types.specs.declared.limits.TheConstants.{GREATEST_NUMBER}
use Rattle.mon_checks.specs.States.{IsCodeOf}
use Rattle.mon_notes.specs.declared.comment.Comment.{Comment}
use Rattle.mon_notes.specs.Comments.{AreAscending}
use Rattle.mon_downtime.specs.declared.downtime.Downtime.{Downtime}
use Rattle.mon_downtime.specs.declared.downtime.Fate.{Fate}
use Rattle.mon_downtime.specs.declared.downtime.Fate.TheVariants.{Pending, Active, Over}
use Rattle.mon_downtime.specs.Records.{IsSmallFate, AreRecords}
use Rattle.mon_notify.specs.declared.contacts.ContactSwitch.{ContactSwitch}
use Rattle.mon_inventory.specs.declared.records.ObjectSpec.{ObjectSpec}
use Rattle.mon_inventory.specs.declared.records.ContactSpec.{ContactSpec}
use Rattle.mon_inventory.specs.Configuration.{Configuration}
use Rattle.mon_inventory.specs.Facts.{IsInventory}
use Rattle.mon_engine.specs.declared.object.Object.{Object}
use Rattle.mon_engine.specs.declared.outcome.Rejection.{Rejection}
use Rattle.mon_engine.specs.declared.notice.Notice.{Notice}
use Rattle.mon_engine.specs.Report.{line, contact_line, contact_line_of, clock_line, program_line, each_index}
use Rattle.mon_engine.specs.World.{World}
use Rattle.mon_engine.specs.Sound.{ever, raised, AreObjectStates}
use Rattle.mon_engine.specs.Saved.{IsSaidObject, IsSaidComment, IsSaidDowntime, IsSaved, going_on}
use Rattle.mon_state.specs.State.{heading_line, object_line, object_line_of, comment_line, downtime_line, owed_line, owed_count, entries_line, comments_line, downtimes_line, end_line, line_count, text_of}
use Rattle.mon_state.specs.declared.version.StateVersion.{StateVersion}
use Rattle.mon_state.specs.declared.version.StateVersion.TheVariants.{One}
use Rattle.mon_state.specs.Upgrade.{upgraded, upgraded_object, upgrade}
use Rattle.mon_state.specs.Reading.{Stuck, ◌>>=◌, expect_at, known_of, switch_of, next_known, next_switch, next_comment, next_downtime, version_at, world_at}
use Rattle.mon_state.proofs.LawLemmas.{line_behind, then, expect_gives, number_gives, count_gives, IsReadable}
use Rattle.mon_state.proofs.VersionLemmas.{version_gives}
use Rattle.mon_state.proofs.LineLemmas.{AreOfVersion, IsReadableObject, known_gives, switch_gives, program_gives, IsReadableComment, comment_gives, IsReadableDowntime, downtime_gives, each_gives, placed_gives}
use Rattle.mon_state.proofs.OwedLemmas.{all_owed_gives}

-- ---- the parts of a saved world can be read

small_moment : (o : Option ℕ) → IfSome o (λ n. n ≤ GREATEST_NUMBER) → IfSome o (λ n. n < 10 ^ 18)
small_moment None h = tt
small_moment (Some n) h = omega arith

code_small : (service : Bool) (code : ℕ) → IsCodeOf service code → code ≤ 255
code_small true code h = omega (arith, h)
code_small false code h = omega (arith, h)

readable_object : (inv : Configuration) (n : ℕ) (os : List Object) (k : ℕ) (spec : ObjectSpec) (o : Object) → IsInventory inv → n ≤ 2 * GREATEST_NUMBER → AreObjectStates n inv.objects os → All IsSaidObject os
    → slice_get inv.objects k ≡ Some spec → slice_get os k ≡ Some o → IsReadableObject o
readable_object inv n os k spec o sound few states said at here =
    let state = states.each k spec o at here in
    let own = sound.objects k spec at in
    let its : IsSaidObject o = subst IsSaidObject (get_or_from_slice_get os k o o here) (said k o (slice_get_within os k o here)) in
    let last = state.within.last in
    let most = own.max_small in
    let number = states.numbers k o here in
    record {
      code = code_small o.status.service o.status.code its.code;
      attempt = omega (arith, last, most);
      number = omega (arith, number, few);
      last = small_moment o.last its.last;
      notified = its.notified;
      not_before = small_moment o.not_before its.not_before;
      moments = record { checked = small_moment o.moments.checked its.moments.checked; changed = (let changed = its.moments.changed in omega arith); since = small_moment o.moments.since its.moments.since };
      output = its.output;
    }

-- there are at most as many comments as ids were assigned
few_comments : (low most : ℕ) (cs : List Comment) → low ≤ most → AreAscending low cs → AllByRecursion (λ (c : Comment). c.id ≤ most) cs → low + length cs ≤ most
few_comments low most [] h a g = omega (arith, h)
few_comments low most (c ∷ cs) h a g = let rest = few_comments c.id most cs g.0 a.1 g.1 in omega (arith, rest, a.0)

readable_comments : (count most : ℕ) (cs : List Comment) → most ≤ GREATEST_NUMBER → AllByRecursion (λ (c : Comment). c.id ≤ most) cs → AllByRecursion (λ (c : Comment). c.object < count) cs → AllByRecursion IsSaidComment cs → AllByRecursion (IsReadableComment count) cs
readable_comments count most [] few given known said = tt
readable_comments count most (c ∷ cs) few given known said =
    (record { object = known.0; id = omega (arith, given.0, few); time = (let time = said.0.time in omega arith); said = said.0.said }, readable_comments count most cs few given.1 known.1 said.1)

readable_fate : (f : Fate) → IsSmallFate f → IsReadable f
readable_fate Pending h = tt
readable_fate (Active since until) h = (omega (arith, h.0), omega (arith, h.1))
readable_fate Over h = tt

readable_downtimes : (count n m : ℕ) (ds : List Downtime) → m < 10 ^ 18 → n + length ds ≤ m → AreRecords n ds → AllByRecursion (λ (d : Downtime). d.object < count) ds → AllByRecursion IsSaidDowntime ds → AllByRecursion (IsReadableDowntime count) ds
readable_downtimes count n m [] small few records known said = tt
readable_downtimes count n m (d ∷ ds) small few records known said =
    let r = records.0 in
    let next = r.numbered.id_next in
    let earlier = r.numbered.trigger_earlier in
    let start = r.start_small in
    let end = r.end_small in
    let duration = r.duration_small in
    let entered = r.entered_small in (
      record {
        object = known.0;
        id = omega (arith, next, few, small);
        start = omega (arith, start);
        end = omega (arith, end);
        trigger = omega (arith, earlier, few, small);
        duration = omega (arith, duration);
        entered = omega (arith, entered);
        fate = readable_fate d.fate r.fate_small;
        said = said.0;
      },
      readable_downtimes count (n + 1) m ds small (omega (arith, few)) records.1 known.1 said.1,
    )

-- ---- the parts of a text

turn_of : {X : Type 0} (xs : List X) (k : ℕ) (x : X) → slice_get xs k ≡ Some x → length (take k xs) ≡ k
turn_of xs k x at = length-take k xs ∙ (let low = slice_get_within xs k x at in omega arith)

object_line_gives : (version : StateVersion) (clock : ℕ) (inv : Configuration) (n : ℕ) (os : List Object) → IsInventory inv → n ≤ 2 * GREATEST_NUMBER → AreObjectStates n inv.objects os → All IsSaidObject os
    → ((k : ℕ) (o : Object) → slice_get os k ≡ Some o → AreOfVersion version clock o.status o.moments)
    → (k : ℕ) (o : Object) (rest : List ℕ) → slice_get os k ≡ Some o → next_known version clock inv.objects (take k os) (object_line version inv.objects os k ++ rest) ≡ Ok (o, rest)
unfolding object_line
object_line_gives version clock inv n os sound few states said is k o rest here =
    ap (λ j. known_of version clock (slice_get inv.objects j) (object_line_of version (slice_get inv.objects k) (slice_get os k) ++ rest)) (turn_of os k o here)
    ∙ ap (λ (x : Option Object). known_of version clock (slice_get inv.objects k) (object_line_of version (slice_get inv.objects k) x ++ rest)) here
    ∙ with_line inv.objects (let low = slice_get_within os k o here in let long = states.as_many in omega arith) (λ spec at. known_gives version clock spec o rest (states.each k spec o at here).kind (readable_object inv n os k spec o sound few states said at here) (is k o here))
  where
    with_line : (specs : List ObjectSpec) → k < length specs → ((spec : ObjectSpec) → slice_get specs k ≡ Some spec → known_of version clock (Some spec) (object_line_of version (Some spec) (Some o) ++ rest) ≡ Ok (o, rest)) → known_of version clock (slice_get specs k) (object_line_of version (slice_get specs k) (Some o) ++ rest) ≡ Ok (o, rest)
    with_line [] low f = absurd (omega arith)
    with_line (x ∷ specs) low f = let at = slice_get-get_or (x ∷ specs) k x low in rw at (f (get_or (x ∷ specs) k x) at)

contact_line_gives : (specs : List ContactSpec) (cs : List ContactSwitch) → length cs ≡ length specs
    → (k : ℕ) (s : ContactSwitch) (rest : List ℕ) → slice_get cs k ≡ Some s → next_switch specs (take k cs) (contact_line specs cs k ++ rest) ≡ Ok (s, rest)
unfolding contact_line
contact_line_gives specs cs long k s rest here =
    ap (λ j. switch_of (slice_get specs j) (contact_line_of (slice_get specs k) (slice_get cs k) ++ rest)) (turn_of cs k s here)
    ∙ ap (λ (x : Option ContactSwitch). switch_of (slice_get specs k) (contact_line_of (slice_get specs k) x ++ rest)) here
    ∙ with_line specs (let low = slice_get_within cs k s here in omega arith) (λ spec. switch_gives spec s rest)
  where
    with_line : (xs : List ContactSpec) → k < length xs → ((spec : ContactSpec) → switch_of (Some spec) (contact_line_of (Some spec) (Some s) ++ rest) ≡ Ok (s, rest)) → switch_of (slice_get xs k) (contact_line_of (slice_get xs k) (Some s) ++ rest) ≡ Ok (s, rest)
    with_line [] low f = absurd (omega arith)
    with_line (x ∷ xs) low f = let at = slice_get-get_or (x ∷ xs) k x low in rw at (f (get_or (x ∷ xs) k x))

comments_head : (last count : ℕ) (rest : List ℕ) → expect_at (codes "comments;") (line (codes "comments") (decimal last ∷ decimal count ∷ []) ++ rest) ≡ Ok (decimal last ++ 59 ∷ (decimal count ++ 10 ∷ rest))
comments_head last count rest = rw (line_behind (codes "comments") (decimal last ∷ decimal count ∷ []) rest) (expect_gives (codes "comments;") (decimal last ++ 59 ∷ (decimal count ++ 10 ∷ rest)))

-- ---- the whole

-- the parts of a text, each with all parts after it
owed_part : StateVersion → Configuration → World → List ℕ
owed_part version inv w = each_index (owed_line inv.objects w.owed) (owed_count version inv) ++ end_line (line_count version inv w)

downtimes_part : StateVersion → Configuration → World → List ℕ
downtimes_part version inv w = flat_map (downtime_line inv.objects) w.downtimes ++ owed_part version inv w

comments_part : StateVersion → Configuration → World → List ℕ
comments_part version inv w = flat_map (comment_line inv.objects) w.notes.comments ++ (downtimes_line w.downtimes ++ downtimes_part version inv w)

contacts_part : StateVersion → Configuration → World → List ℕ
contacts_part version inv w = each_index (contact_line inv.contacts w.contacts) (length inv.contacts) ++ (comments_line w.notes ++ comments_part version inv w)

objects_part : StateVersion → Configuration → World → List ℕ
objects_part version inv w = each_index (object_line version inv.objects w.objects) (length inv.objects) ++ contacts_part version inv w

joined : (a b c d e f g h i j k l : List ℕ) → a ++ b ++ c ++ d ++ e ++ f ++ g ++ h ++ i ++ j ++ k ++ l ≡ a ++ (b ++ (c ++ (d ++ (e ++ (f ++ (g ++ (h ++ (i ++ (j ++ (k ++ l))))))))))
joined a b c d e f g h i j k l = simp append_assoc

in_parts : (version : StateVersion) (inv : Configuration) (w : World) → text_of version inv w ≡ heading_line version ++ (clock_line w.clock ++ (entries_line (ever w) ++ (program_line w.program ++ objects_part version inv w)))
unfolding text_of owed_part downtimes_part comments_part contacts_part objects_part
in_parts version inv w =
    joined (heading_line version) (clock_line w.clock) (entries_line (ever w)) (program_line w.program) (each_index (object_line version inv.objects w.objects) (length inv.objects)) (each_index (contact_line inv.contacts w.contacts) (length inv.contacts))
    (comments_line w.notes) (flat_map (comment_line inv.objects) w.notes.comments) (downtimes_line w.downtimes) (flat_map (downtime_line inv.objects) w.downtimes)
    (each_index (owed_line inv.objects w.owed) (owed_count version inv)) (end_line (line_count version inv w))

-- the world that a text spells, with its heading
pub state_at : Configuration → List ℕ → Result World Stuck
state_at inv text = version_at text >>= λ h. world_at h.0 inv h.1

pub at_rest : (version : StateVersion) (inv : Configuration) (text rest read : List ℕ) → version_at text ≡ Ok (version, rest) → read ≡ rest → state_at inv text ≡ world_at version inv read
unfolding state_at
at_rest version inv text rest read heading same = ap (λ r. r >>= λ h. world_at h.0 inv h.1) heading ∙ ap (world_at version inv) (sym same)

-- one more object with the moments of an upgrade
pub upgraded_more : (clock : ℕ) (os : List Object) (o : Object) → map (upgraded_object clock) os ≡ os → upgraded_object clock o ≡ o → map (upgraded_object clock) (os ++ o ∷ []) ≡ os ++ o ∷ []
upgraded_more clock os o all one = map-append (upgraded_object clock) os (o ∷ []) ∙ (λ i. all i ++ one i ∷ [])

-- an object of an upgraded world has the moments of an upgrade
of_upgrade : (inv : Configuration) (w : World) (k : ℕ) (o : Object) → upgrade inv w ≡ w → slice_get w.objects k ≡ Some o → o.moments ≡ upgraded w.clock o.status
unfolding upgrade
of_upgrade inv w k o is at =
    let there : Some (upgraded_object w.clock o) ≡ Some o =
    sym (slice_get-map (upgraded_object w.clock) w.objects k ∙ ap (option_map (upgraded_object w.clock)) at) ∙ ap (λ (v : World). slice_get v.objects k) is ∙ at in
    sym (ap (λ (x : Object). x.moments) (same_Some (upgraded_object w.clock o) o there))

pub world_gives : (version : StateVersion) (inv : Configuration) (w : World) → IsInventory inv → IsSaved inv w → (version ≡ One → upgrade inv w ≡ w) → state_at inv (text_of version inv w) ≡ Ok (going_on w)
unfolding state_at world_at owed_part downtimes_part comments_part contacts_part objects_part
world_gives version inv w sound h up =
    let world = h.world in
    let room = h.room in
    let clock = world.clock in
    let ids = world.comments in
    let few = world.downtimes in
    let states = world.states in
    let many : ever w ≤ GREATEST_NUMBER = omega (arith, room) in
    let objects = sound.few_objects in
    let comments = few_comments 0 w.notes.last_id w.notes.comments (omega arith) h.notes.ascending h.notes.given in
    let downtimes = downtimes_line w.downtimes ++ downtimes_part version inv w in
    let notes = comments_line w.notes ++ comments_part version inv w in
    let program = program_line w.program ++ objects_part version inv w in
    let entries = entries_line (ever w) ++ program in
    ap (state_at inv) (in_parts version inv w)
    ∙ then _ (version_gives version (clock_line w.clock ++ entries))
    (then _ (count_gives (codes "clock;") (codes "clock") w.clock entries refl (omega (arith, clock)))
    (then _ (count_gives (codes "entries;") (codes "entries") (ever w) program refl (omega (arith, many)))
    (then _ (program_gives w.program (objects_part version inv w))
    (then _ (placed_gives (next_known version w.clock inv.objects) (object_line version inv.objects w.objects) w.objects (object_line_gives version w.clock inv (raised w) w.objects sound (omega (arith, many)) states h.said.objects (λ k o at one. of_upgrade inv w k o (up one) at)) (length inv.objects) 0 (contacts_part version inv w) (let long = states.as_many in omega arith))
    (then _ (placed_gives (next_switch inv.contacts) (contact_line inv.contacts w.contacts) w.contacts (contact_line_gives inv.contacts w.contacts world.contacts) (length inv.contacts) 0 notes (let long = world.contacts in omega arith))
    (then _ (comments_head w.notes.last_id (length w.notes.comments) (comments_part version inv w))
    (then _ (number_gives 59 w.notes.last_id (decimal (length w.notes.comments) ++ 10 ∷ comments_part version inv w) refl (omega (arith, ids, many)))
    (then _ (number_gives 10 (length w.notes.comments) (comments_part version inv w) refl (omega (arith, comments, ids, many)))
    (then _ (each_gives (next_comment inv.objects) (comment_line inv.objects) (IsReadableComment (length inv.objects)) (λ done c rest q. comment_gives inv.objects c rest (omega (arith, objects)) q) [] w.notes.comments downtimes
    (readable_comments (length inv.objects) w.notes.last_id w.notes.comments (omega (arith, ids, many)) h.notes.given (recursion_from_All _ w.notes.comments world.noted) (recursion_from_All _ w.notes.comments h.said.comments)))
    (then _ (count_gives (codes "downtimes;") (codes "downtimes") (length w.downtimes) (downtimes_part version inv w) refl (omega (arith, few, many)))
    (then _ (each_gives (next_downtime inv.objects) (downtime_line inv.objects) (IsReadableDowntime (length inv.objects)) (λ done d rest q. downtime_gives inv.objects d rest (omega (arith, objects)) q) [] w.downtimes (owed_part version inv w)
    (readable_downtimes (length inv.objects) 0 (length w.downtimes) w.downtimes (omega (arith, few, many)) (omega arith) h.records (recursion_from_All _ w.downtimes world.known) (recursion_from_All _ w.downtimes h.said.downtimes)))
    (then _ (all_owed_gives version inv (ever w) (raised w) w (end_line (line_count version inv w)) sound (omega (arith, many)) world up)
    (ap (λ (rs : List Rejection). Ok (record (going_on w) { rejections = rs; notices = [] })) (sym h.no_rejections) ∙ ap (λ (ns : List Notice). Ok (record (going_on w) { notices = ns })) (sym h.no_notices))))))))))))))

-- the heading of a text names its version
pub heading_is : (version : StateVersion) (inv : Configuration) (text : List ℕ) (w : World) → text ≡ text_of version inv w → (rest : List ℕ) × (version_at text ≡ Ok (version, rest))
heading_is version inv text w is =
    let rest = clock_line w.clock ++ (entries_line (ever w) ++ (program_line w.program ++ objects_part version inv w)) in
    (rest, ap version_at (is ∙ in_parts version inv w) ∙ version_gives version rest)

-- ---- resuming

-- the text of a world where there ever were so many entries
abbrev pub text_with : StateVersion → Configuration → World → (entries : ℕ) → List ℕ
text_with version inv w entries =
    heading_line version ++ clock_line w.clock ++ entries_line entries ++ program_line w.program ++ each_index (object_line version inv.objects w.objects) (length inv.objects)
    ++ each_index (contact_line inv.contacts w.contacts) (length inv.contacts) ++ comments_line w.notes ++ flat_map (comment_line inv.objects) w.notes.comments
    ++ downtimes_line w.downtimes ++ flat_map (downtime_line inv.objects) w.downtimes ++ each_index (owed_line inv.objects w.owed) (owed_count version inv) ++ end_line (line_count version inv w)

-- the world from which a monitor resumes has the same text
pub same_text : (version : StateVersion) (inv : Configuration) (w : World) → text_of version inv (going_on w) ≡ text_of version inv w
unfolding text_of
same_text version inv w = let same : ever w + 0 ≡ ever w = omega arith in ap (text_with version inv w) same
