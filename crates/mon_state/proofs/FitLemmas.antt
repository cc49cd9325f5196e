-- The line of the first part that does not fit: where it stands is a number that a line can have, and it is the fault.
use Rattle.std.proofs.Common.{◌≡◌, inl, inr, ℕ, zero, suc, ◌<◌, ◌≤◌, ◌^◌, List, [], ◌∷◌, length, Option, Some, None, Ok, slice_get, refl, ap, sym, ◌∙◌, subst, arith}
use Rattle.std.specs.Prelude.{IfSome}
use Rattle.std.specs.Option.{option_map, unwrap_or}
use Rattle.std.proofs.lemmas.Bool.{cases_lt}
use Rattle.std.proofs.lemmas.Option.{slice_get_past}
use Rattle.mon_notes.specs.declared.comment.Comment.{Comment}
use Rattle.mon_notes.specs.Comments.{id_before, ComesAfter}
use Rattle.mon_inventory.specs.declared.records.ObjectSpec.{ObjectSpec}
use Rattle.mon_inventory.specs.Configuration.{Configuration}
use Rattle.mon_engine.specs.declared.ends.Owed.{Owed}
use Rattle.mon_engine.specs.declared.parts.Misfit.{Misfit}
use Rattle.mon_engine.specs.declared.parts.Misfit.TheVariants as part
use Rattle.mon_engine.specs.declared.parts.ResumeFault.{ResumeFault}
use Rattle.mon_engine.specs.declared.parts.ResumeFault.TheVariants as fault
use Rattle.mon_engine.specs.declared.state.TheConstants.{GREATEST_BEFORE}
use Rattle.mon_engine.specs.World.{World}
use Rattle.mon_engine.specs.Saved.{IsSaved, Fits, IsOwedFit}
use Rattle.mon_engine.specs.Misfits.{FitsLine, FitsAt, IsFirstMisfit, NamesFirstMisfit}
use Rattle.mon_state.specs.declared.fault.StateCause.TheVariants.{BadValue}
use Rattle.mon_state.specs.declared.version.StateVersion.{StateVersion}
use Rattle.mon_state.specs.Reading.{version_at, world_at}
use Rattle.mon_state.specs.Faults.{line_of_part, IsStateFault}

-- ---- how many there are

past : {X : Type 0} (xs : List X) (n : ℕ) → slice_get xs n ≡ None → length xs ≤ n
past [] n is = omega arith
past (x ∷ xs) zero is = absurd (cc)
past (x ∷ xs) (suc n) is = let rest = past xs n is in omega (arith, rest)

-- ids that ascend are at least as great as the number of comments
ids_grow : (last : ℕ) (cs : List Comment) (n : ℕ) → n ≤ length cs → ((k : ℕ) → k < n → ComesAfter last cs k) → (n ≤ id_before cs n) × (id_before cs n ≤ last)
ids_grow last cs zero h all = (omega arith, omega arith)
ids_grow last cs (suc n) h all = by (ids_grow last cs n (omega (arith, h)) (λ k l. all k (omega (arith, l)))) (slice_get cs n) refl (all n (omega arith))
  where
    by : (n ≤ id_before cs n) × (id_before cs n ≤ last) → (o : Option Comment) → slice_get cs n ≡ o → IfSome o (λ c. (id_before cs n < c.id) × (c.id ≤ last)) → (suc n ≤ unwrap_or (option_map (λ c. c.id) o) 0) × (unwrap_or (option_map (λ c. c.id) o) 0 ≤ last)
    by before None is w = absurd (let high = past cs n is in omega (arith, h, high))
    by before (Some c) is w = (let least = before.0 in let above = w.0 in omega (arith, least, above), w.1)

-- nothing is required past the end of a list
beyond : {X : Type 0} (P : X → Type 0) (xs : List X) (k : ℕ) → length xs ≤ k → IfSome (slice_get xs k) P
beyond {X} P xs k h = subst (λ (o : Option X). IfSome o P) (sym (slice_get_past xs k h)) tt

none_there : {A : Type 0} (fits : ObjectSpec → A → Type 0) (o : Option A) → FitsLine fits None o → o ≡ None
none_there fits None w = refl
none_there fits (Some x) w = absurd w

-- the first that does not fit its line of the inventory stands at most one past the lines
few_lines : {A : Type 0} (fits : ObjectSpec → A → Type 0) (specs : List ObjectSpec) (known : List A) (place : ℕ) → (FitsAt fits specs known place → ⊥) → ((k : ℕ) → k < place → FitsAt fits specs known k) → place ≤ length specs
few_lines {A} fits specs known place misfit earlier = elim (cases_lt (length specs) place) [
  | inl far ↦ absurd (let n = length specs in
      let line : slice_get specs n ≡ None = slice_get_past specs n (omega arith) in
      let fit : FitsLine fits None (slice_get known n) = subst (λ (s : Option ObjectSpec). FitsLine fits s (slice_get known n)) line (earlier n far) in
      let short = past known n (none_there fits (slice_get known n) fit) in
      misfit
      (subst (λ (s : Option ObjectSpec). FitsLine fits s (slice_get known place)) (sym (slice_get_past specs place (omega (arith, far))))
      (subst (λ (o : Option A). FitsLine fits None o) (sym (slice_get_past known place (omega (arith, short, far)))) tt)))
  | inr near ↦ near
]

few_objects : (inv : Configuration) (w : World) (place : ℕ) → IsFirstMisfit inv w (part.Object place) → place ≤ length inv.objects
few_objects inv w place h = few_lines (Fits w.before) inv.objects w.objects place h.misfit (λ k low. h.first (part.Object k) (inr (refl, low)))

few_owed : (inv : Configuration) (w : World) (place : ℕ) → IsFirstMisfit inv w (part.Owed place) → place ≤ length inv.objects
few_owed inv w place h = few_lines (λ (spec : ObjectSpec) (x : Owed). IsOwedFit inv w.before x) inv.objects w.owed place h.misfit (λ k low. h.first (part.Owed k) (inr (refl, low)))

-- before the comments the count of entries and the greatest id are in range
few_ids : (w : World) (n : ℕ) → n ≤ length w.notes.comments → w.before ≤ GREATEST_BEFORE → w.notes.last_id ≤ w.before → ((k : ℕ) → k < n → ComesAfter w.notes.last_id w.notes.comments k) → n ≤ GREATEST_BEFORE
few_ids w n h room last all = let grown = ids_grow w.notes.last_id w.notes.comments n h all in omega (arith, grown.0, grown.1, last, room)

few_comments : (inv : Configuration) (w : World) (place : ℕ) → IsFirstMisfit inv w (part.Comment place) → place ≤ GREATEST_BEFORE
few_comments inv w place h = elim (cases_lt place (length w.notes.comments)) [
  | inl low ↦ few_ids w place (omega (arith, low)) (h.first part.Before (inl (omega arith))) (h.first part.LastComment (inl (omega arith))) (λ k l. (h.first (part.Comment k) (inr (refl, l))).0)
  | inr high ↦ absurd (h.misfit (beyond _ w.notes.comments place high, beyond _ w.notes.comments place high))
]

all_comments : (w : World) → w.before ≤ GREATEST_BEFORE → w.notes.last_id ≤ w.before → ((k : ℕ) → ComesAfter w.notes.last_id w.notes.comments k) → length w.notes.comments ≤ GREATEST_BEFORE
all_comments w room last all = few_ids w (length w.notes.comments) (omega arith) room last (λ k _. all k)

few_downtimes : (inv : Configuration) (w : World) (place : ℕ) → IsFirstMisfit inv w (part.Downtime place) → place < length w.downtimes
few_downtimes inv w place h = elim (cases_lt place (length w.downtimes)) [
  | inl low ↦ low
  | inr high ↦ absurd (h.misfit (beyond _ w.downtimes place high))
]

-- ---- the line

line_fits : (inv : Configuration) (w : World) (found : Misfit) → length inv.objects < 2 ^ 16 → length inv.contacts < 2 ^ 16 → IsFirstMisfit inv w found → line_of_part (length inv.objects) (length inv.contacts) (length w.notes.comments) (length w.downtimes) found < 2 ^ 64
line_fits inv w part.Clock os cs h = omega arith
line_fits inv w part.Before os cs h = omega arith
line_fits inv w (part.Object place) os cs h = let few = few_objects inv w place h in omega (arith, few, os)
line_fits inv w part.Contacts os cs h = omega (arith, os)
line_fits inv w part.LastComment os cs h = omega (arith, os, cs)
line_fits inv w (part.Comment place) os cs h = let few = few_comments inv w place h in omega (arith, few, os, cs)
line_fits inv w part.Downtimes os cs h =
    let few = all_comments w (h.first part.Before (inl (omega arith))) (h.first part.LastComment (inl (omega arith))) (λ k. (h.first (part.Comment k) (inl (omega arith))).0) in
    omega (arith, few, os, cs)
line_fits inv w (part.Downtime place) os cs h =
    let room = h.first part.Before (inl (omega arith)) in
    let few = all_comments w room (h.first part.LastComment (inl (omega arith))) (λ k. (h.first (part.Comment k) (inl (omega arith))).0) in
    let most = h.first part.Downtimes (inl (omega arith)) in
    let low = few_downtimes inv w place h in
    omega (arith, few, os, cs, room, most, low)
line_fits inv w (part.Owed place) os cs h =
    let room = h.first part.Before (inl (omega arith)) in
    let few = all_comments w room (h.first part.LastComment (inl (omega arith))) (λ k. (h.first (part.Comment k) (inl (omega arith))).0) in
    let most = h.first part.Downtimes (inl (omega arith)) in
    let low = few_owed inv w place h in
    omega (arith, few, os, cs, room, most, low)

-- the counts of the state that was read
pub record Counted : Type 0 where
  pub objects : ℕ
  pub contacts : ℕ
  pub comments : ℕ
  pub downtimes : ℕ

-- the line of a part where there are so many
abbrev pub counted_line : Counted → Misfit → ℕ
counted_line n found = line_of_part n.objects n.contacts n.comments n.downtimes found

-- what the reader knows of the fault of parts from which no monitor resumes, and its counts
pub record IsCounted (inv : Configuration) (w : World) (f : ResumeFault) (found named : Misfit) (n : Counted) : Type 0 where
  pub is : f ≡ fault.Misfit found
  pub first : NamesFirstMisfit inv w f
  pub objects_are : n.objects ≡ length inv.objects
  pub contacts_are : n.contacts ≡ length inv.contacts
  pub comments_are : n.comments ≡ length w.notes.comments
  pub downtimes_are : n.downtimes ≡ length w.downtimes
  pub named_is : named ≡ found

same_line : (inv : Configuration) (w : World) (f : ResumeFault) (found named : Misfit) (n : Counted) → IsCounted inv w f found named n → counted_line n named ≡ line_of_part (length inv.objects) (length inv.contacts) (length w.notes.comments) (length w.downtimes) found
same_line inv w f found named n h =
    λ i. line_of_part (h.objects_are i) (h.contacts_are i) (h.comments_are i) (h.downtimes_are i) (h.named_is i)

counted_first : (inv : Configuration) (w : World) (f : ResumeFault) (found named : Misfit) (n : Counted) → IsCounted inv w f found named n → IsFirstMisfit inv w found
counted_first inv w f found named n h = subst (NamesFirstMisfit inv w) h.is h.first

pub counted_fits : (inv : Configuration) (w : World) (f : ResumeFault) (found named : Misfit) (n : Counted) → n.objects < 2 ^ 16 → n.contacts < 2 ^ 16 → IsCounted inv w f found named n → counted_line n named < 2 ^ 64
counted_fits inv w f found named n os cs h =
    subst (λ k. k < 2 ^ 64) (sym (same_line inv w f found named n h))
    (line_fits inv w found (let many = h.objects_are in omega (arith, os, many)) (let many = h.contacts_are in omega (arith, cs, many)) (counted_first inv w f found named n h))

pub misfit_fault : (version : StateVersion) (inv : Configuration) (text behind read : List ℕ) (w : World) (f : ResumeFault) (found named : Misfit) (n : Counted) (line : ℕ) → version_at text ≡ Ok (version, behind) → read ≡ behind → world_at version inv read ≡ Ok w → (IsSaved inv w → ⊥) → IsCounted inv w f found named n → line ≡ counted_line n named → IsStateFault inv text (record { line = line; cause = BadValue })
misfit_fault version inv text behind read w f found named n line heading same gives lost h at =
    inr (inr (inr (inl (version, w, found, (behind, heading, ap (world_at version inv) (sym same) ∙ gives), lost, counted_first inv w f found named n h, refl, at ∙ same_line inv w f found named n h))))
