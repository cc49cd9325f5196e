-- A written text is read back, field by field and line by line.
use Rattle.std.proofs.Common.{◌≡◌, ℕ, ◌<◌, ◌≤◌, ◌^◌, Bool, true, false, List, [], ◌∷◌, ◌++◌, Option, Some, None, Result, Ok, slice_get, append_assoc, refl, ap, sym, ◌∙◌, arith, rules}
use Rattle.std.specs.Prelude.{codes, IfSome}
use Rattle.std.specs.Fmt.{decimal}
use Rattle.std.specs.Char.{is_ascii_digit}
use Rattle.std.proofs.lemmas.Bool.{eq-eqb, ne_eqb, le-ltb}
use Rattle.cmd_types.specs.Bytes.{Lacks}
use Rattle.cmd_types.specs.Cuts.{before, after}
use Rattle.mon_downtime.specs.declared.downtime.Fate.{Fate}
use Rattle.mon_downtime.specs.declared.downtime.Fate.TheVariants.{Pending, Active, Over}
use Rattle.mon_inventory.specs.declared.records.ObjectSpec.{ObjectSpec}
use Rattle.mon_engine.specs.declared.object.Acknowledgement.{Acknowledgement}
use Rattle.mon_engine.specs.declared.object.Acknowledgement.TheVariants.{Unacknowledged, Normal, Sticky}
use Rattle.mon_engine.specs.Report.{fields_text, line, flag, or_empty, optional}
use Rattle.mon_engine.specs.Words.{acknowledgement_text}
use Rattle.mon_state.specs.Reading.{Stuck, ◌>>=◌, field_at, word_at, expect_at, number_of, number_at, small_at, optional_of, optional_at, optional_code_at, flag_at, acknowledgement_at, active_at, inactive_at, fate_at, name_at, names_at, object_at, count_at}
use Rattle.mon_state.proofs.NumberLemmas.{number_of_decimal, decimal_lacks}
use Rattle.mon_state.proofs.CursorLemmas.{rest_after_is}

-- ---- a line, field by field

-- fields one after another, each with a semicolon before it, then a line feed and the rest
abbrev pub chained : List (List ℕ) → List ℕ → List ℕ
chained [] rest = 10 ∷ rest
chained (field ∷ fields) rest = 59 ∷ field ++ chained fields rest

fields_behind : (fields : List (List ℕ)) (rest : List ℕ) → fields_text fields ++ 10 ∷ rest ≡ chained fields rest
fields_behind [] rest = refl
fields_behind (field ∷ fields) rest = ap (λ (t : List ℕ). 59 ∷ t) (append_assoc field (fields_text fields) (10 ∷ rest) ∙ ap (λ (t : List ℕ). field ++ t) (fields_behind fields rest))

pub line_behind : (word : List ℕ) (fields : List (List ℕ)) (rest : List ℕ) → line word fields ++ rest ≡ word ++ chained fields rest
line_behind word fields rest =
    let text : line word fields ++ rest ≡ word ++ (fields_text fields ++ 10 ∷ rest) = simp append_assoc in
    text ∙ ap (λ (t : List ℕ). word ++ t) (fields_behind fields rest)

-- ---- one step, and then the others

pub then : {A B : Type 0} {r : Result A Stuck} (f : A → Result B Stuck) {x : A} {y : Result B Stuck} → r ≡ Ok x → f x ≡ y → (r >>= f) ≡ y
then f is next = ap (λ r. r >>= f) is ∙ next

-- ---- fields

cut_at : (end : ℕ) (field rest : List ℕ) → Lacks end field → (before end (field ++ end ∷ rest) ≡ field) × (after end (field ++ end ∷ rest) ≡ Some rest)
cut_at end [] rest h = rw (eq-eqb end end refl) (refl, refl)
cut_at end (x ∷ field) rest h =
    let more = cut_at end field rest h.1 in
    rw (ne_eqb x end h.0) (ap (λ (t : List ℕ). x ∷ t) more.0, more.1)

pub field_gives : (end : ℕ) (field rest : List ℕ) → Lacks end field → field_at end (field ++ end ∷ rest) ≡ Ok (field, rest)
unfolding field_at
field_gives end field rest h = let cut = cut_at end field rest h in rw (cut.0, cut.1) refl

-- no line feed ends such a word
no_feed : (end : ℕ) (word : List ℕ) → Lacks end word → after end word ≡ None
no_feed end [] h = refl
no_feed end (x ∷ word) h = rw (ne_eqb x end h.0) (no_feed end word h.1)

pub word_gives : (word rest : List ℕ) → Lacks 59 word → Lacks 10 word → word_at (word ++ 59 ∷ rest) ≡ Ok (word, rest)
unfolding word_at
word_gives word rest h line = rw (field_gives 59 word rest h, no_feed 10 word line) refl

pub expect_gives : (expected rest : List ℕ) → expect_at expected (expected ++ rest) ≡ Ok rest
unfolding expect_at
expect_gives expected rest = rw (rest_after_is expected rest) refl

pub number_gives : (end n : ℕ) (rest : List ℕ) → is_ascii_digit end ≡ false → n < 10 ^ 18 → number_at end (decimal n ++ end ∷ rest) ≡ Ok (n, rest)
unfolding number_at
number_gives end n rest other small = rw (field_gives end (decimal n) rest (decimal_lacks end n other small), number_of_decimal n small) refl

pub small_gives : (most n : ℕ) (rest : List ℕ) → n ≤ most → n < 10 ^ 18 → small_at most 59 (decimal n ++ 59 ∷ rest) ≡ Ok (n, rest)
unfolding small_at
small_gives most n rest few small = rw (number_gives 59 n rest refl small, le-ltb most n few) refl

optional_number : (text : List ℕ) (n : ℕ) → number_of text ≡ Some n → optional_of text ≡ Some (Some n)
unfolding number_of optional_of
optional_number [] n h = absurd (cc)
optional_number (x ∷ text) n h = rw h refl

pub optional_gives : (o : Option ℕ) (rest : List ℕ) → IfSome o (λ n. n < 10 ^ 18) → optional_at 59 (optional o ++ 59 ∷ rest) ≡ Ok (o, rest)
unfolding optional_at optional_of
optional_gives None rest small = rw (field_gives 59 [] rest tt) refl
optional_gives (Some n) rest small = rw (field_gives 59 (decimal n) rest (decimal_lacks 59 n refl small), optional_number (decimal n) n (number_of_decimal n small)) refl

pub optional_code_gives : (o : Option ℕ) (rest : List ℕ) → IfSome o (λ n. n < 4) → optional_code_at 59 (optional o ++ 59 ∷ rest) ≡ Ok (o, rest)
unfolding optional_code_at
optional_code_gives None rest small = rw (optional_gives None rest tt) refl
optional_code_gives (Some n) rest small = rw (optional_gives (Some n) rest (omega arith), le-ltb 255 n (omega arith)) refl

pub flag_gives : (on : Bool) (rest : List ℕ) → flag_at 59 (flag on ++ 59 ∷ rest) ≡ Ok (on, rest)
unfolding flag_at field_at
flag_gives true rest = refl
flag_gives false rest = refl

pub last_flag_gives : (on : Bool) (rest : List ℕ) → flag_at 10 (flag on ++ 10 ∷ rest) ≡ Ok (on, rest)
unfolding flag_at field_at
last_flag_gives true rest = refl
last_flag_gives false rest = refl

pub acknowledgement_gives : (a : Acknowledgement) (rest : List ℕ) → acknowledgement_at (acknowledgement_text a ++ 59 ∷ rest) ≡ Ok (a, rest)
unfolding acknowledgement_at field_at
acknowledgement_gives Unacknowledged rest = refl
acknowledgement_gives Normal rest = refl
acknowledgement_gives Sticky rest = refl

-- the moments of a fate are small enough to be read
abbrev pub IsReadable : Fate → Type 0
IsReadable Pending = Unit {0}
IsReadable (Active since until) = (since < 10 ^ 18) × (until < 10 ^ 18)
IsReadable Over = Unit {0}

-- the fields of a fate, each ended by a semicolon
abbrev pub fate_text : Fate → List ℕ → List ℕ
fate_text Pending rest = codes "pending" ++ 59 ∷ (59 ∷ (59 ∷ rest))
fate_text (Active since until) rest = codes "active" ++ 59 ∷ (decimal since ++ 59 ∷ (decimal until ++ 59 ∷ rest))
fate_text Over rest = codes "over" ++ 59 ∷ (59 ∷ (59 ∷ rest))

inactive_gives : (f : Fate) (rest : List ℕ) → inactive_at f (59 ∷ (59 ∷ rest)) ≡ Ok (f, rest)
unfolding inactive_at
inactive_gives f rest = then _ (optional_gives None (59 ∷ rest) tt) (then _ (optional_gives None rest tt) refl)

active_gives : (since until : ℕ) (rest : List ℕ) → since < 10 ^ 18 → until < 10 ^ 18 → active_at (decimal since ++ 59 ∷ (decimal until ++ 59 ∷ rest)) ≡ Ok (Active since until, rest)
unfolding active_at
active_gives since until rest small_since small_until = then _ (number_gives 59 since (decimal until ++ 59 ∷ rest) refl small_since) (then _ (number_gives 59 until rest refl small_until) refl)

pub fate_gives : (f : Fate) (rest : List ℕ) → IsReadable f → fate_at (fate_text f rest) ≡ Ok (f, rest)
unfolding fate_at
fate_gives Pending rest h = then _ (word_gives (codes "pending") (59 ∷ (59 ∷ rest)) (search rules) (search rules)) (inactive_gives Pending rest)
fate_gives (Active since until) rest h = then _ (word_gives (codes "active") (decimal since ++ 59 ∷ (decimal until ++ 59 ∷ rest)) (search rules) (search rules)) (active_gives since until rest h.0 h.1)
fate_gives Over rest h = then _ (word_gives (codes "over") (59 ∷ (59 ∷ rest)) (search rules) (search rules)) (inactive_gives Over rest)

-- ---- names

pub name_gives : (name rest : List ℕ) → name_at name (name ++ 59 ∷ rest) ≡ Ok rest
name_gives name rest = rw (expect_gives name (59 ∷ rest)) (expect_gives (59 ∷ []) rest)

pub names_gives : (spec : ObjectSpec) (rest : List ℕ) → names_at spec (spec.host ++ 59 ∷ (or_empty spec.service ++ 59 ∷ rest)) ≡ Ok rest
unfolding names_at
names_gives spec rest = then _ (name_gives spec.host (or_empty spec.service ++ 59 ∷ rest)) (name_gives (or_empty spec.service) rest)

pub object_gives : (specs : List ObjectSpec) (spec : ObjectSpec) (object : ℕ) (rest : List ℕ) → slice_get specs object ≡ Some spec → object ≤ 65535
    → object_at specs (decimal object ++ 59 ∷ (spec.host ++ 59 ∷ (or_empty spec.service ++ 59 ∷ rest))) ≡ Ok (object, rest)
unfolding object_at
object_gives specs spec object rest at few =
    then _ (small_gives 65535 object (spec.host ++ 59 ∷ (or_empty spec.service ++ 59 ∷ rest)) few (omega arith))
    (rw at (then _ (names_gives spec rest) refl))

pub count_gives : (full word : List ℕ) (n : ℕ) (rest : List ℕ) → full ≡ word ++ 59 ∷ [] → n < 10 ^ 18 → count_at full (line word (decimal n ∷ []) ++ rest) ≡ Ok (n, rest)
unfolding count_at
count_gives full word n rest is small =
    let text : line word (decimal n ∷ []) ++ rest ≡ full ++ (decimal n ++ 10 ∷ rest) = line_behind word (decimal n ∷ []) rest ∙ sym (append_assoc word (59 ∷ []) (decimal n ++ 10 ∷ rest)) ∙ ap (λ (t : List ℕ). t ++ (decimal n ++ 10 ∷ rest)) (sym is) in
    rw text (then _ (expect_gives full (decimal n ++ 10 ∷ rest)) (number_gives 10 n rest refl small))
