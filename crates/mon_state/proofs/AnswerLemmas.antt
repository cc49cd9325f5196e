-- What a reader returns for a text that was written from a saved world.
use Rattle.std.proofs.Common.{◌≡◌, ◌≢◌, inl, inr, ℕ, ◌+◌, ◌*◌, List, Result, Ok, Err, refl, ap, sym, ◌∙◌, subst, arith}
use Rattle.std.specs.Result.{IsErrAnd}
use Rattle.mon_inventory.specs.Configuration.{Configuration}
use Rattle.mon_inventory.specs.Facts.{IsInventory}
use Rattle.mon_engine.specs.Held.{Held}
use Rattle.mon_engine.specs.World.{World}
use Rattle.mon_engine.specs.Sound.{ever, raised, IsWorldAt}
use Rattle.mon_engine.specs.Saved.{IsSaved, going_on}
use Rattle.mon_state.specs.declared.fault.StateCause.{StateCause}
use Rattle.mon_state.specs.declared.fault.StateCause.TheVariants.{BadLine, BadValue, NotAsWritten, UnknownVersion, Memory}
use Rattle.mon_state.specs.declared.fault.StateFault.{StateFault}
use Rattle.mon_state.specs.State.{text_of}
use Rattle.mon_state.specs.Upgrade.{upgrade, IsStateText}
use Rattle.mon_state.specs.declared.version.StateVersion.{StateVersion}
use Rattle.mon_state.specs.declared.version.StateVersion.TheVariants.{One, Two}
use Rattle.mon_state.specs.Reading.{Stuck, version_at, world_at}
use Rattle.mon_state.specs.Cursors.{Fails}
use Rattle.mon_state.specs.Answers.{GoesOnWith}
use Rattle.mon_state.proofs.WholeLemmas.{state_at, at_rest, world_gives, heading_is, same_text}

-- ---- causes

fails_memory : (e : StateCause) (last : List ℕ) (w : World) (read : Result World Stuck) → Fails e last read → read ≡ Ok w → e ≡ Memory
fails_memory BadLine last w read fails is = absurd (cc)
fails_memory BadValue last w read fails is = absurd (cc)
fails_memory NotAsWritten last w read fails is = absurd (cc)
fails_memory UnknownVersion last w read fails is = absurd fails
fails_memory Memory last w read fails is = refl

pub only_memory : (e : StateCause) → ((e ≢ Memory) → ⊥) → e ≡ Memory
only_memory BadLine h = absurd (h (λ k. cc))
only_memory BadValue h = absurd (h (λ k. cc))
only_memory NotAsWritten h = absurd (h (λ k. cc))
only_memory UnknownVersion h = absurd (h (λ k. cc))
only_memory Memory h = refl

-- ---- what is read

-- a text that is read as a saved world spells the world that resumes from it
pub spells : (inv : Configuration) (text : List ℕ) (w : World) → IsInventory inv → IsSaved inv w → IsStateText inv text w → state_at inv text ≡ Ok (going_on w)
spells inv text w sound h (inl is) = ap (state_at inv) is ∙ world_gives Two inv w sound h (λ e. absurd cc)
spells inv text w sound h (inr is) = ap (state_at inv) is.0 ∙ world_gives One inv w sound h (λ e. is.1)

pub read_fails : (version : StateVersion) (inv : Configuration) (text rest read last : List ℕ) (e : StateCause) (w : World) → IsInventory inv → version_at text ≡ Ok (version, rest) → read ≡ rest → Fails e last (world_at version inv read) → IsSaved inv w → IsStateText inv text w → e ≡ Memory
read_fails version inv text rest read last e w sound heading same fails h is =
    fails_memory e last (going_on w) (world_at version inv read) fails (sym (at_rest version inv text rest read heading same) ∙ spells inv text w sound h is)

same_world : (a b : World) (read : Result World Stuck) → read ≡ Ok a → read ≡ Ok b → a ≡ b
same_world a b read x y = cc

pub read_is : (inv : Configuration) (text : List ℕ) (parts w : World) → IsInventory inv → state_at inv text ≡ Ok parts → IsSaved inv w → IsStateText inv text w → parts ≡ going_on w
read_is inv text parts w sound gives h is = same_world parts (going_on w) (state_at inv text) gives (spells inv text w sound h is)

pub rest_is : (version : StateVersion) (inv : Configuration) (text rest read : List ℕ) (parts w : World) → IsInventory inv → version_at text ≡ Ok (version, rest) → read ≡ rest → world_at version inv read ≡ Ok parts → IsSaved inv w → IsStateText inv text w → parts ≡ going_on w
rest_is version inv text rest read parts w sound heading same gives h is = read_is inv text parts w sound (at_rest version inv text rest read heading same ∙ gives) h is

-- ---- the text that is read

-- the text of a world, in version 1 that of an upgraded world, is a text of the state of this world
pub is_state_text : (version : StateVersion) (inv : Configuration) (text : List ℕ) (w : World) → text ≡ text_of version inv w → (version ≡ One → upgrade inv w ≡ w) → IsStateText inv text w
is_state_text One inv text w is up = inr (is, up refl)
is_state_text Two inv text w is up = inl is

same_version : (a b : StateVersion) (x y : List ℕ) → ◌≡◌ {A = Result (StateVersion × List ℕ) Stuck} (Ok (a, x)) (Ok (b, y)) → a ≡ b
same_version a b x y e = (let same : ◌≡◌ {A = StateVersion × List ℕ} (a, x) (b, y) = cc in ap (λ (p : StateVersion × List ℕ). p.0) same)

-- a text that is read as a world is the text of that world in the version of the heading
pub is_written : (version : StateVersion) (inv : Configuration) (text rest : List ℕ) (w : World) → version_at text ≡ Ok (version, rest) → IsStateText inv text w → text ≡ text_of version inv w
is_written version inv text rest w heading (inl is) =
    let found = heading_is Two inv text w is in
    is ∙ ap (λ (v : StateVersion). text_of v inv w) (sym (same_version version Two rest found.0 (sym heading ∙ found.1)))
is_written version inv text rest w heading (inr is) =
    let found = heading_is One inv text w is.0 in
    is.0 ∙ ap (λ (v : StateVersion). text_of v inv w) (sym (same_version version One rest found.0 (sym heading ∙ found.1)))

-- the heading of a text that is read as a world can be read
pub heading_reads : (inv : Configuration) (text : List ℕ) (e : Stuck) (w : World) → IsStateText inv text w → version_at text ≡ Err e → ⊥
heading_reads inv text e w (inl is) fails = (let found = heading_is Two inv text w is in let clash : ◌≡◌ {A = Result (StateVersion × List ℕ) Stuck} (Err e) (Ok (Two, found.0)) = sym fails ∙ found.1 in cc)
heading_reads inv text e w (inr is) fails = (let found = heading_is One inv text w is.0 in let clash : ◌≡◌ {A = Result (StateVersion × List ℕ) Stuck} (Err e) (Ok (One, found.0)) = sym fails ∙ found.1 in cc)

-- ---- the monitor that resumes

pub goes_on_saved : (inv : Configuration) (w : World) → IsSaved inv w → IsSaved inv (going_on w)
goes_on_saved inv w h =
    let was = h.world in
    let now : IsWorldAt inv (ever w) (raised w) (going_on w) = record {
      clock = was.clock;
      states = was.states;
      contacts = was.contacts;
      owing = was.owing;
      ends = was.ends;
      without = was.without;
      comments = was.comments;
      noted = was.noted;
      downtimes = was.downtimes;
      known = was.known;
      notices = was.notices;
      limit = omega arith;
      earlier = h.room;
    } in
    let same : ever w ≡ (w.before + w.entries) + 0 = omega arith in
    let room = h.room in
    record {
      world = subst (λ n. IsWorldAt inv n (2 * n) (going_on w)) same now;
      notes = h.notes;
      records = h.records;
      said = record { objects = h.said.objects; comments = h.said.comments; downtimes = h.said.downtimes };
      no_rejections = h.no_rejections;
      no_notices = h.no_notices;
      room = omega (arith, room);
    }

-- the text of the monitor that resumes is the text that was read
pub text_is : (version : StateVersion) (inv inv' : Configuration) (text rest : List ℕ) (w parts now : World) → version_at text ≡ Ok (version, rest) → inv' ≡ inv → now ≡ parts → parts ≡ going_on w → IsStateText inv text w → text ≡ text_of version inv' now
text_is version inv inv' text rest w parts now heading same world is read =
    is_written version inv text rest w heading read ∙ sym (same_text version inv w) ∙ ap (text_of version inv) (sym (world ∙ is)) ∙ ap (λ (k : Configuration). text_of version k now) (sym same)

pub goes_out : (w : World) (r : Result Held StateFault) (f : StateFault) → IsErrAnd r (λ y. y ≡ f) → f.cause ≡ Memory → GoesOnWith w r
goes_out w (Ok m) f is cause = absurd is
goes_out w (Err g) f is cause = ap (λ (x : StateFault). x.cause) is ∙ cause
