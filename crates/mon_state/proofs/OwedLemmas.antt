-- The lines of who is owed the end of each object's problem are read back.
use Rattle.std.proofs.Common.{◌≡◌, ℕ, ◌+◌, ◌*◌, ◌<◌, ◌≤◌, ◌^◌, cond, Bool, true, false, if◌then◌else◌, eqb, List, [], ◌∷◌, ◌++◌, length, take, map, get_or, Option, Some, Ok, slice_get, append_assoc, refl, ap, sym, ◌∙◌, subst, arith}
use Rattle.std.specs.Prelude.{codes, All, count_by}
use Rattle.std.specs.Fmt.{decimal}
use Rattle.std.specs.List.{flat_map, AllByRecursion}
use Rattle.std.proofs.lemmas.Bool.{ne_eqb}
use Rattle.std.proofs.lemmas.List.{length-take}
use Rattle.std.proofs.lemmas.List.Elements.{recursion_from_All}
use Rattle.std.proofs.lemmas.List.Sums.{sum_by-append, sum_by-cons}
use Rattle.std.proofs.lemmas.Option.{slice_get-get_or, slice_get_within, get_or_from_slice_get}
use Rattle.cmd_types.specs.declared.limits.TheConstants.{GREATEST_NUMBER}
use Rattle.cmd_types.specs.Bytes.{Lacks}
use Rattle.cmd_types.specs.Cuts.{before}
use Rattle.mon_inventory.specs.declared.records.ObjectSpec.{ObjectSpec}
use Rattle.mon_inventory.specs.Configuration.{Configuration, recovers_the_told}
use Rattle.mon_inventory.specs.Facts.{IsInventory}
use Rattle.mon_engine.specs.declared.ends.Owed.{Owed}
use Rattle.mon_engine.specs.Owed.{nobody, initial_owed}
use Rattle.mon_engine.specs.Report.{each_index, or_empty}
use Rattle.mon_engine.specs.Sound.{IsWorldAt}
use Rattle.mon_engine.specs.World.{World}
use Rattle.mon_state.specs.State.{owed_fields, owed_line_of, owed_line, owed_count}
use Rattle.mon_state.specs.Upgrade.{upgrade}
use Rattle.mon_state.specs.declared.version.StateVersion.{StateVersion}
use Rattle.mon_state.specs.declared.version.StateVersion.TheVariants.{One, Two}
use Rattle.mon_state.specs.Reading.{small_at, many_at, next_index, contacts_left, owed_at, owed_of, next_owed, all_owed_at}
use Rattle.mon_state.proofs.NumberLemmas.{decimal_lacks}
use Rattle.mon_state.proofs.LawLemmas.{chained, line_behind, then as step, expect_gives, number_gives, small_gives, names_gives}
use Rattle.mon_state.proofs.LineLemmas.{each_gives, placed_gives}

-- ---- the contacts of a line

-- a contact, and the semicolon after it
abbrev contact_text : ℕ → List ℕ
contact_text c = decimal c ++ 59 ∷ []

contact_behind : (c : ℕ) (more : List ℕ) → contact_text c ++ more ≡ decimal c ++ 59 ∷ more
contact_behind c more = append_assoc (decimal c) (59 ∷ []) more

contacts_next : (c : ℕ) (cs rest : List ℕ) → flat_map contact_text (c ∷ cs) ++ rest ≡ decimal c ++ 59 ∷ (flat_map contact_text cs ++ rest)
contacts_next c cs rest = append_assoc (contact_text c) (flat_map contact_text cs) rest ∙ contact_behind c (flat_map contact_text cs ++ rest)

-- the fields of the contacts, and the empty field after them
contacts_behind : (cs rest : List ℕ) → chained (map decimal cs ++ [] ∷ []) rest ≡ 59 ∷ (flat_map contact_text cs ++ 10 ∷ rest)
contacts_behind [] rest = refl
contacts_behind (c ∷ cs) rest =
    ap (λ (t : List ℕ). 59 ∷ (decimal c ++ t)) (contacts_behind cs rest)
    ∙ ap (λ (t : List ℕ). 59 ∷ t) (sym (contacts_next c cs (10 ∷ rest)))

before_passes : (d more : List ℕ) → Lacks 10 d → before 10 (d ++ more) ≡ d ++ before 10 more
before_passes [] more h = refl
before_passes (x ∷ d) more h = rw (ne_eqb x 10 h.0) (ap (λ (t : List ℕ). x ∷ t) (before_passes d more h.1))

none_counted : (d : List ℕ) → Lacks 59 d → count_by (λ b. eqb b 59) d ≡ 0
none_counted [] h = refl
none_counted (x ∷ d) h =
    sum_by-cons (λ b. cond (eqb b 59) 1 0) x d ∙ ap (λ (t : Bool). cond t 1 0 + count_by (λ b. eqb b 59) d) (ne_eqb x 59 h.0) ∙ ap (λ n. 0 + n) (none_counted d h.1)

-- there are as many contacts as semicolons
left_is : (cs rest : List ℕ) → AllByRecursion (λ (c : ℕ). c ≤ 65535) cs → contacts_left (flat_map contact_text cs ++ 10 ∷ rest) ≡ length cs
unfolding contacts_left
left_is [] rest few = refl
left_is (c ∷ cs) rest few =
    let small : c < 10 ^ 18 = (let low = few.0 in omega arith) in
    let more = flat_map contact_text cs ++ 10 ∷ rest in
    let left = before 10 more in
    let split : contacts_left (flat_map contact_text (c ∷ cs) ++ 10 ∷ rest) ≡ count_by (λ b. eqb b 59) (decimal c) + count_by (λ b. eqb b 59) (59 ∷ left) =
    ap (λ (t : List ℕ). count_by (λ b. eqb b 59) (before 10 t)) (contacts_next c cs (10 ∷ rest))
    ∙ ap (count_by (λ b. eqb b 59)) (before_passes (decimal c) (59 ∷ more) (decimal_lacks 10 c refl small))
    ∙ sum_by-append (λ b. cond (eqb b 59) 1 0) (decimal c) (59 ∷ left) in
    let none = none_counted (decimal c) (decimal_lacks 59 c refl small) in
    let one : count_by (λ b. eqb b 59) (59 ∷ left) ≡ 1 + count_by (λ b. eqb b 59) left = sum_by-cons (λ b. cond (eqb b 59) 1 0) 59 left in
    let again : count_by (λ b. eqb b 59) left ≡ length cs = left_is cs rest few.1 in
    omega (arith, split, none, one, again)

index_gives : (done : List ℕ) (c : ℕ) (rest : List ℕ) → c ≤ 65535 → next_index done (contact_text c ++ rest) ≡ Ok (c, rest)
index_gives done c rest few = ap (small_at 65535 59) (contact_behind c rest) ∙ small_gives 65535 c rest few (omega arith)

contacts_give : (cs rest : List ℕ) → AllByRecursion (λ (c : ℕ). c ≤ 65535) cs
    → many_at next_index (contacts_left (flat_map contact_text cs ++ 10 ∷ rest)) [] (flat_map contact_text cs ++ 10 ∷ rest) ≡ Ok (cs, 10 ∷ rest)
contacts_give cs rest few =
    ap (λ n. many_at next_index n [] (flat_map contact_text cs ++ 10 ∷ rest)) (left_is cs rest few)
    ∙ each_gives next_index contact_text (λ (c : ℕ). c ≤ 65535) index_gives [] cs (10 ∷ rest) few

-- ---- a line

pub record IsReadableOwed (x : Owed) : Type 0 where
  pub number : x.number < 10 ^ 18
  pub contacts : AllByRecursion (λ (c : ℕ). c ≤ 65535) x.contacts

owed_gives : (spec : ObjectSpec) (x : Owed) (rest : List ℕ) → IsReadableOwed x → owed_at spec (owed_line_of (Some spec) (Some x) ++ rest) ≡ Ok (x, rest)
unfolding owed_at
owed_gives spec x rest h =
    let behind = flat_map contact_text x.contacts ++ 10 ∷ rest in
    rw (line_behind (codes "owed") (owed_fields spec x) rest, contacts_behind x.contacts rest)
    (step _ (expect_gives (codes "owed;") (spec.host ++ 59 ∷ (or_empty spec.service ++ 59 ∷ (decimal x.number ++ 59 ∷ behind))))
    (step _ (names_gives spec (decimal x.number ++ 59 ∷ behind))
    (step _ (number_gives 59 x.number behind refl h.number)
    (step _ (contacts_give x.contacts rest h.contacts)
    (step _ (expect_gives (10 ∷ []) rest) refl)))))

-- ---- the lines of all objects

readable_owed : (inv : Configuration) (n m : ℕ) (w : World) (k : ℕ) (x : Owed) → IsInventory inv → m ≤ 2 * GREATEST_NUMBER → IsWorldAt inv n m w → slice_get w.owed k ≡ Some x → IsReadableOwed x
readable_owed inv n m w k x sound few world here =
    let low = slice_get_within w.owed k x here in
    let number : x.number ≤ GREATEST_NUMBER + m = subst (λ (y : Owed). y.number ≤ GREATEST_NUMBER + m) (get_or_from_slice_get w.owed k x x here) (world.ends k x low) in
    let within : All (λ (c : ℕ). c < length inv.contacts) x.contacts = subst (λ (y : Owed). All (λ (c : ℕ). c < length inv.contacts) y.contacts) (get_or_from_slice_get w.owed k x x here) (world.owing.within k x low) in
    record {
      number = omega (arith, number, few);
      contacts = small x.contacts (recursion_from_All _ x.contacts within);
    }
  where
    small : (cs : List ℕ) → AllByRecursion (λ (c : ℕ). c < length inv.contacts) cs → AllByRecursion (λ (c : ℕ). c ≤ 65535) cs
    small [] h = tt
    small (c ∷ cs) h = (let low = h.0 in let many = sound.few_contacts in omega (arith, low, many), small cs h.1)

owed_line_gives : (inv : Configuration) (n m : ℕ) (w : World) → IsInventory inv → m ≤ 2 * GREATEST_NUMBER → IsWorldAt inv n m w
    → (k : ℕ) (x : Owed) (rest : List ℕ) → slice_get w.owed k ≡ Some x → next_owed inv.objects (take k w.owed) (owed_line inv.objects w.owed k ++ rest) ≡ Ok (x, rest)
unfolding owed_line
owed_line_gives inv n m w sound few world k x rest here =
    ap (λ j. owed_of (slice_get inv.objects j) (owed_line_of (slice_get inv.objects k) (slice_get w.owed k) ++ rest)) turn
    ∙ ap (λ (y : Option Owed). owed_of (slice_get inv.objects k) (owed_line_of (slice_get inv.objects k) y ++ rest)) here
    ∙ with_line inv.objects (let long = world.owing.as_many in omega (arith, low, long)) (λ spec. owed_gives spec x rest (readable_owed inv n m w k x sound few world here))
  where
    low : k < length w.owed
    low = slice_get_within w.owed k x here

    turn : length (take k w.owed) ≡ k
    turn = length-take k w.owed ∙ (omega (arith, low))

    with_line : (xs : List ObjectSpec) → k < length xs → ((spec : ObjectSpec) → owed_of (Some spec) (owed_line_of (Some spec) (Some x) ++ rest) ≡ Ok (x, rest)) → owed_of (slice_get xs k) (owed_line_of (slice_get xs k) (Some x) ++ rest) ≡ Ok (x, rest)
    with_line [] short f = absurd (omega arith)
    with_line (y ∷ xs) short f = let at = slice_get-get_or (y ∷ xs) k y short in rw at (f (get_or (y ∷ xs) k y))

-- nobody is owed an end, of as many objects
all_initial : (specs : List ObjectSpec) (owed : List Owed) → length owed ≡ length specs → AllByRecursion (λ (x : Owed). x ≡ nobody) owed → map initial_owed specs ≡ owed
all_initial [] [] long all = refl
all_initial [] (x ∷ owed) long all = absurd (omega arith)
all_initial (spec ∷ specs) [] long all = absurd (omega arith)
all_initial (spec ∷ specs) (x ∷ owed) long all = (let more = all_initial specs owed (omega arith) all.1 in λ i. sym all.0 i ∷ more i)

-- without the option there are no lines, since nobody is owed an end
without_is : (inv : Configuration) (n m : ℕ) (w : World) → IsWorldAt inv n m w → recovers_the_told inv ≡ false → map initial_owed inv.objects ≡ w.owed
without_is inv n m w world off = all_initial inv.objects w.owed world.owing.as_many (recursion_from_All _ w.owed (world.without off))

pub all_owed_gives : (version : StateVersion) (inv : Configuration) (n m : ℕ) (w : World) (rest : List ℕ) → IsInventory inv → m ≤ 2 * GREATEST_NUMBER → IsWorldAt inv n m w → (version ≡ One → upgrade inv w ≡ w)
    → all_owed_at version inv w.objects (each_index (owed_line inv.objects w.owed) (owed_count version inv) ++ rest) ≡ Ok (w.owed, rest)
unfolding all_owed_at upgrade
all_owed_gives One inv n m w rest sound few world up = ap (λ (v : World). Ok (v.owed, rest)) (up refl)
all_owed_gives Two inv n m w rest sound few world up = by_option (recovers_the_told inv) refl
  where
    lines : Bool → List ℕ
    lines on = each_index (owed_line inv.objects w.owed) (if on then length inv.objects else 0) ++ rest

    by_option : (on : Bool) → recovers_the_told inv ≡ on → (if on then many_at (next_owed inv.objects) (length inv.objects) [] (lines on) else Ok (map initial_owed inv.objects, lines on)) ≡ Ok (w.owed, rest)
    by_option true on = placed_gives (next_owed inv.objects) (owed_line inv.objects w.owed) w.owed (owed_line_gives inv n m w sound few world) (length inv.objects) 0 rest (let long = world.owing.as_many in omega (arith, long))
    by_option false off = ap (λ (xs : List Owed). Ok (xs, rest)) (without_is inv n m w world off)
