-- Which version the heading of a text names.
use Rattle.std.proofs.Common.{◌≡◌, ◌≢◌, ℕ, ◌<◌, ◌^◌, Bool, true, false, eqb, if◌then◌else◌, List, [], ◌∷◌, ◌++◌, length, leb, Option, Some, None, Result, Ok, Err, refl, ap, sym, ◌∙◌, arith}
use Rattle.std.specs.Prelude.{codes}
use Rattle.std.specs.Fmt.{decimal}
use Rattle.std.specs.Str.{all_ascii_digits}
use Rattle.std.specs.Str.Parse.{digits_value}
use Rattle.std.proofs.lemmas.Bool.{and_parts, ne_eqb, eqb-true}
use Rattle.cmd_types.specs.Cuts.{before, after}
use Rattle.mon_state.specs.declared.fault.StateCause.{StateCause}
use Rattle.mon_state.specs.declared.fault.StateCause.TheVariants.{BadLine, UnknownVersion}
use Rattle.mon_state.specs.declared.number.TheConstants.{MOST_DIGITS}
use Rattle.mon_state.specs.declared.version.StateVersion.{StateVersion}
use Rattle.mon_state.specs.declared.version.StateVersion.TheVariants.{One, Two}
use Rattle.mon_state.specs.State.{heading_line}
use Rattle.mon_state.specs.Version.{version_number, version_of, is_number, IsOfUnknownVersion}
use Rattle.mon_state.specs.Reading.{Stuck, ◌>>=◌, ended, field_at, rest_after, found_or, expect_at, number_of, some_or, number_at, known_or, version_at}
use Rattle.mon_state.proofs.NumberLemmas.{digits_lack}
use Rattle.mon_state.proofs.CursorLemmas.{front_is}
use Rattle.mon_state.proofs.LawLemmas.{line_behind, field_gives, expect_gives, number_gives}

-- one step, and then the others
next : {A B : Type 0} {r : Result A Stuck} (f : A → Result B Stuck) {x : A} {y : Result B Stuck} → r ≡ Ok x → f x ≡ y → (r >>= f) ≡ y
next f is others = ap (λ r. r >>= f) is ∙ others

-- ---- a version that is known

version_found : (v : StateVersion) → version_of (version_number v) ≡ Some v
unfolding version_of
version_found One = refl
version_found Two = refl

few_versions : (v : StateVersion) → version_number v < 10 ^ 18
few_versions One = omega arith
few_versions Two = omega arith

pub version_gives : (v : StateVersion) (rest : List ℕ) → version_at (heading_line v ++ rest) ≡ Ok (v, rest)
unfolding version_at
version_gives v rest =
    ap version_at (line_behind (codes "state") (decimal (version_number v) ∷ []) rest)
    ∙ next _ (expect_gives (codes "state;") (decimal (version_number v) ++ 10 ∷ rest))
    (next _ (number_gives 10 (version_number v) rest refl (few_versions v))
    (rw (version_found v) refl))

-- ---- a version that is not known

digits_of : (word : List ℕ) → is_number word ≡ true → all_ascii_digits word ≡ true
digits_of word h = (and_parts (leb (length word) MOST_DIGITS) (all_ascii_digits word) (and_parts _ _ h).1).1

number_is : (word rest : List ℕ) → is_number word ≡ true → number_at 10 (word ++ 10 ∷ rest) ≡ Ok (digits_value 10 word, rest)
unfolding number_at number_of
number_is word rest h = rw (field_gives 10 word rest (digits_lack 10 word refl (digits_of word h)), h) refl

no_version : (n : ℕ) → ((v : StateVersion) → n ≢ version_number v) → version_of n ≡ None
unfolding version_of
no_version n none = rw (ne_eqb (version_number One) n (λ e. none One (sym e)), ne_eqb (version_number Two) n (λ e. none Two (sym e))) refl

pub unknown_is : (text : List ℕ) → IsOfUnknownVersion text → (rest : List ℕ) × (version_at text ≡ Err (UnknownVersion, rest))
unfolding version_at
unknown_is text u = (
  u.word ++ 10 ∷ u.rest,
  ap version_at u.heading
      ∙ next _ (expect_gives (codes "state;") (u.word ++ 10 ∷ u.rest))
      (next _ (number_is u.word u.rest u.number)
      (rw (no_version (digits_value 10 u.word) u.unknown) refl)),
)

pub same_fault : (text a b : List ℕ) (e f : StateCause) → version_at text ≡ Err (e, a) → version_at text ≡ Err (f, b) → e ≡ f
same_fault text a b e f x y = ap (λ (s : Stuck). s.0) (same_stuck (e, a) (f, b) (sym x ∙ y))
  where
    same_stuck : (s t : Stuck) → ◌≡◌ {A = Result (StateVersion × List ℕ) Stuck} (Err s) (Err t) → s ≡ t
    same_stuck s t is = cc

pub known_not : (text : List ℕ) (h : StateVersion × List ℕ) → version_at text ≡ Ok h → IsOfUnknownVersion text → ⊥
known_not text h is u = (let unknown = unknown_is text u in let clash : ◌≡◌ {A = Result (StateVersion × List ℕ) Stuck} (Ok h) (Err (UnknownVersion, unknown.0)) = sym is ∙ unknown.1 in cc)

-- the text before a byte, the byte, and the text after it are the whole text
joined : (b : ℕ) (text rest : List ℕ) → after b text ≡ Some rest → text ≡ before b text ++ b ∷ rest
joined b [] rest is = (let clash : None ≡ Some rest = is in absurd cc)
joined b (x ∷ text) rest is = by_byte (eqb x b) refl is (joined b text rest)
  where
    by_byte : (t : Bool) → eqb x b ≡ t → (if t then Some text else after b text) ≡ Some rest → (after b text ≡ Some rest → text ≡ before b text ++ b ∷ rest) → x ∷ text ≡ (if t then [] else x ∷ before b text) ++ b ∷ rest
    by_byte true same found more = (let left : text ≡ rest = cc in λ i. eqb-true x b same i ∷ left i)
    by_byte false other found more = ap (λ (l : List ℕ). x ∷ l) (more found)

-- the steps after the version, the number, and the field with the number
abbrev after_version : (named rest : List ℕ) → Option StateVersion → Result (StateVersion × List ℕ) Stuck
after_version named rest o = known_or named o >>= λ v. Ok (v, rest)

abbrev after_number : (named word : List ℕ) → Bool → List ℕ → Result (ℕ × List ℕ) Stuck
after_number named word is_one rest = some_or named (if is_one then Some (digits_value 10 word) else None) >>= λ n. Ok (n, rest)

abbrev after_field : (named : List ℕ) → List ℕ × List ℕ → Result (ℕ × List ℕ) Stuck
after_field named field = some_or named (number_of field.0) >>= λ n. Ok (n, field.1)

abbrev with_number : (named : List ℕ) → ℕ × List ℕ → Result (StateVersion × List ℕ) Stuck
with_number named n = known_or named (version_of n.0) >>= λ v. Ok (v, n.1)

abbrev with_text : List ℕ → Result (StateVersion × List ℕ) Stuck
with_text named = number_at 10 named >>= with_number named

-- another cause is not this one
not_unknown : {X : Type 0} (a b : List ℕ) → ◌≡◌ {A = Result X Stuck} (Err (BadLine, a)) (Err (UnknownVersion, b)) → ⊥
not_unknown {X = X} a b is = (let cause : BadLine ≡ UnknownVersion = ap (λ (s : Stuck). s.0) (same_stuck (BadLine, a) (UnknownVersion, b) is) in absurd (cc))
  where
    same_stuck : (s t : Stuck) → ◌≡◌ {A = Result X Stuck} (Err s) (Err t) → s ≡ t
    same_stuck s t e = cc

pub unknown_from : (text left : List ℕ) → version_at text ≡ Err (UnknownVersion, left) → IsOfUnknownVersion text
unfolding version_at expect_at number_at field_at number_of
unknown_from text left is = by_front (rest_after (codes "state;") text) refl is
  where
    by_version : (named rest : List ℕ) → text ≡ codes "state;" ++ named → after 10 named ≡ Some rest → is_number (before 10 named) ≡ true → (o : Option StateVersion) → version_of (digits_value 10 (before 10 named)) ≡ o
        → after_version named rest o ≡ Err (UnknownVersion, left) → IsOfUnknownVersion text
    by_version named rest at end number (Some v) known found = absurd cc
    by_version named rest at end number None none found = record {
      word = before 10 named;
      rest = rest;
      heading = at ∙ ap (λ (l : List ℕ). codes "state;" ++ l) (joined 10 named rest end);
      number = number;
      unknown = λ v e. (let clash : None ≡ Some v = sym none ∙ ap version_of e ∙ version_found v in cc);
    }

    by_number : (named rest : List ℕ) → text ≡ codes "state;" ++ named → after 10 named ≡ Some rest → (b : Bool) → is_number (before 10 named) ≡ b
        → (after_number named (before 10 named) b rest >>= with_number named) ≡ Err (UnknownVersion, left) → IsOfUnknownVersion text
    by_number named rest at end false other found = absurd (not_unknown named left found)
    by_number named rest at end true number found = by_version named rest at end number (version_of (digits_value 10 (before 10 named))) refl found

    by_end : (named : List ℕ) → text ≡ codes "state;" ++ named → (o : Option (List ℕ)) → after 10 named ≡ o
        → ((ended named (before 10 named) o >>= after_field named) >>= with_number named) ≡ Err (UnknownVersion, left) → IsOfUnknownVersion text
    by_end named at None none found = absurd (not_unknown named left found)
    by_end named at (Some rest) end found = by_number named rest at end (is_number (before 10 named)) refl found

    by_front : (o : Option (List ℕ)) → rest_after (codes "state;") text ≡ o → (found_or text o >>= with_text) ≡ Err (UnknownVersion, left) → IsOfUnknownVersion text
    by_front None none found = absurd (not_unknown text left found)
    by_front (Some named) front found = by_end named (front_is (codes "state;") text named front) (after 10 named) refl found
