-- The first fault of a line is what reading it answers, so there is one at most.
use Rattle.std.proofs.Common.{◌≡◌, ◌≢◌, ℕ, zero, suc, ◌+◌, ◌<◌, ◌≤◌, Bool, true, false, not, cond, eqb, leb, eq-eqb, List, [], ◌∷◌, ◌++◌, length, replicate, inl, inr, Option, Some, None, Result, Ok, Err, refl, sym, ap, subst, ◌∙◌, arith}
use Rattle.std.proofs.lemmas.Bool.{ne_eqb, lt-ltb, le-ltb, le-leb, leb-true}
use Rattle.cmd_types.specs.declared.command_name.CommandName.{CommandName}
use Rattle.cmd_types.specs.Bytes.{without_returns, IsNumber}
use Rattle.cmd_types.specs.Kinds.{Argument, Name, Author, Rest, Flag, Number, Code, Kind, AName, AnAuthor, ARest, AFlag, ANumber, ACode}
use Rattle.cmd_types.specs.Names.{name_from}
use Rattle.cmd_types.specs.Table.{name_text, kinds}
use Rattle.cmd_types.specs.Digits.{number_of}
use Rattle.cmd_types.specs.declared.limits.TheConstants.{LONGEST_LINE}
use Rattle.cmd_lines.specs.declared.fault.LineFault.{LineFault}
use Rattle.cmd_lines.specs.declared.fault.LineFault.TheVariants.{NoBracket, BadTime, NoSpace, Missing, BadNumber}
use Rattle.cmd_lines.specs.FirstFault.{NotFirst, HasTime, Takes, IsOfKind, TakesKind, fault_of, ArgumentsFail, IsFirstFault}
use Rattle.cmd_lines.specs.Reading.{◌>>=◌, without_spaces, opened, field, number_at, name_at, rest_at, flag_at, code_at, argument_at, arguments_at, time_at, spaced, reading}
use Rattle.cmd_lines.proofs.Pieces.{before_is, from_is}
use Rattle.cmd_lines.proofs.Each.{opened_is, field_is}
use Rattle.cmd_lines.proofs.WholeLine.{time_is}
use Rattle.cmd_lines.proofs.FaultLaws.{time_err, has_time}
use Rattle.cmd_types.specs.Laws.{Laws}

-- ---- arguments

opened_no : (n : ℕ) (bytes : List ℕ) → NotFirst 59 bytes → opened n bytes ≡ Err (Missing n)
unfolding opened
opened_no n [] h = refl
opened_no n (x ∷ bytes) h = rw (ne_eqb x 59 h) refl

field_no : (n : ℕ) (bytes : List ℕ) → NotFirst 59 bytes → field n bytes ≡ Err (Missing n)
unfolding field
field_no n bytes h = rw (opened_no n bytes h) refl

missing : (k : Kind) (n : ℕ) (bytes : List ℕ) → NotFirst 59 bytes → argument_at k n bytes ≡ Err (Missing n)
unfolding name_at rest_at number_at flag_at code_at
missing (AName of) n bytes h = rw (field_no n bytes h) refl
missing AnAuthor n bytes h = rw (field_no n bytes h) refl
missing ARest n bytes h = rw (opened_no n bytes h) refl
missing AFlag n bytes h = rw (field_no n bytes h) refl
missing ANumber n bytes h = rw (field_no n bytes h) refl
missing (ACode greatest) n bytes h = rw (field_no n bytes h) refl

field_takes : (n : ℕ) (bytes text after : List ℕ) → Takes bytes text after → field n bytes ≡ Ok (text, after)
field_takes n bytes text after t = rw t.parts (field_is n text after t.lacks t.opens)

no_number : Laws → (text : List ℕ) → ((x : ℕ) × IsNumber text x → ⊥) → number_of text ≡ None
no_number laws text none = here (number_of text) refl
  where
    here : (o : Option ℕ) → number_of text ≡ o → number_of text ≡ None
    here None e = e
    here (Some x) e = absurd (none (x, laws.numbers.spelled text x e))

number_wrong : Laws → (n : ℕ) (bytes text after : List ℕ) → Takes bytes text after → ((x : ℕ) × IsNumber text x → ⊥) → number_at n bytes ≡ Err (BadNumber n)
unfolding number_at
number_wrong laws n bytes text after t none = rw (field_takes n bytes text after t, no_number laws text none) refl

number_right : Laws → (n : ℕ) (bytes text after : List ℕ) (x : ℕ) → Takes bytes text after → IsNumber text x → number_at n bytes ≡ Ok (x, after)
unfolding number_at
number_right laws n bytes text after x t h = rw (field_takes n bytes text after t, laws.numbers.read text x h) refl

code_wrong : Laws → (greatest n : ℕ) (bytes text after : List ℕ) → Takes bytes text after → ((x : ℕ) × IsNumber text x × (x ≤ greatest) → ⊥) → code_at greatest n bytes ≡ Err (BadNumber n)
unfolding code_at
code_wrong laws greatest n bytes text after t none = here (number_of text) refl
  where
    test : (x : ℕ) (b : Bool) → leb x greatest ≡ b → IsNumber text x → cond {A = Result (ℕ × List ℕ) LineFault} b (Ok (x, after)) (Err (BadNumber n)) ≡ Err (BadNumber n)
    test x true e h = absurd (none (x, h, leb-true _ _ e))
    test x false e h = refl

    here : (o : Option ℕ) → number_of text ≡ o → (number_at n bytes >>= λ x. cond (leb x.0 greatest) (Ok x) (Err (BadNumber n))) ≡ Err (BadNumber n)
    here None e = rw (number_wrong laws n bytes text after t (λ p. let clash : Some p.0 ≡ None = sym (laws.numbers.read text p.0 p.1) ∙ e in cc)) refl
    here (Some x) e = rw (number_right laws n bytes text after x t (laws.numbers.spelled text x e)) (test x (leb x greatest) refl (laws.numbers.spelled text x e))

wrong : Laws → (k : Kind) (n : ℕ) (bytes text after : List ℕ) → TakesKind k bytes text after → (IsOfKind k text → ⊥) → argument_at k n bytes ≡ Err (fault_of k n)
unfolding name_at flag_at
wrong laws (AName of) n bytes text after t none = rw (field_takes n bytes text after t, eq-eqb (length (without_returns text)) 0 (empty (length (without_returns text)) none)) refl
  where
    empty : (len : ℕ) → (0 < len → ⊥) → len ≡ 0
    empty zero h = refl
    empty (suc len) h = absurd (h (omega arith))
wrong laws AnAuthor n bytes text after t none = absurd (none tt)
wrong laws ARest n bytes text after t none = absurd (none tt)
wrong laws AFlag n bytes text after t none = rw (number_wrong laws n bytes text after t none) refl
wrong laws ANumber n bytes text after t none = rw (number_wrong laws n bytes text after t none) refl
wrong laws (ACode greatest) n bytes text after t none = rw (code_wrong laws greatest n bytes text after t none) refl

right : Laws → (k : Kind) (n : ℕ) (bytes text after : List ℕ) → TakesKind k bytes text after → IsOfKind k text → (a : Argument) × (argument_at k n bytes ≡ Ok (a, after))
unfolding name_at rest_at flag_at code_at
right laws (AName of) n bytes text after t some = (Name of (without_returns text), rw (field_takes n bytes text after t, ne_eqb (length (without_returns text)) 0 (λ e. omega arith)) refl)
right laws AnAuthor n bytes text after t some = (Author text, rw (field_takes n bytes text after t) refl)
right laws ARest n bytes text after t some = (Rest text, rw (t.0, t.1, opened_is n text) refl)
right laws AFlag n bytes text after t some = (Flag (not (eqb some.0 0)), rw (number_right laws n bytes text after some.0 t some.1) refl)
right laws ANumber n bytes text after t some = (Number some.0, rw (number_right laws n bytes text after some.0 t some.1) refl)
right laws (ACode greatest) n bytes text after t some = (Code greatest some.0, rw (number_right laws n bytes text after some.0 t some.1, le-leb some.0 greatest some.2) refl)

arguments_wrong : Laws → (ks : List Kind) (n : ℕ) (bytes : List ℕ) (f : LineFault) → ArgumentsFail ks n bytes f → arguments_at ks n bytes ≡ Err f
arguments_wrong laws [] n bytes f h = absurd h
arguments_wrong laws (k ∷ ks) n bytes f (inl h) = rw (missing k n bytes h.1) (ap Err (sym h.0))
arguments_wrong laws (k ∷ ks) n bytes f (inr (text, after, takes, inl h)) = rw (wrong laws k n bytes text after takes h.1) (ap Err (sym h.0))
arguments_wrong laws (k ∷ ks) n bytes f (inr (text, after, takes, inr h)) =
    let a = right laws k n bytes text after takes h.0 in
    rw (a.1, arguments_wrong laws ks (n + 1) after f h.1) refl

-- ---- lines

timed : Laws → (line after : List ℕ) → HasTime line after → (time : ℕ) × (time_at line ≡ Ok (time, after))
timed laws line after h = (h.time, rw h.parts (time_is laws h.text after h.time h.number))

no_bracket : (line : List ℕ) → NotFirst 91 line → time_at line ≡ Err NoBracket
unfolding time_at
no_bracket [] h = refl
no_bracket (x ∷ bytes) h = rw (ne_eqb x 91 h) refl

bad_time : Laws → (line rest : List ℕ) → line ≡ 91 ∷ rest → ((after : List ℕ) → HasTime line after → ⊥) → time_at line ≡ Err BadTime
bad_time laws line rest opens none = here (time_at line) refl
  where
    here : (r : Result (ℕ × List ℕ) LineFault) → time_at line ≡ r → time_at line ≡ Err BadTime
    here (Ok t) e = absurd (none t.1 (has_time laws line t.1 t.0 e))
    here (Err f) e = elim (time_err line f e) [
      | inl h ↦ absurd (let first = subst (NotFirst 91) opens h.1 in first refl)
      | inr h ↦ e ∙ ap Err h.0
    ]

no_space : (after : List ℕ) → NotFirst 32 after → spaced after ≡ Err NoSpace
unfolding spaced
no_space [] h = refl
no_space (x ∷ after) h = rw (ne_eqb x 32 h) refl

spaces_drop : (n : ℕ) (xs : List ℕ) → NotFirst 32 xs → without_spaces (replicate n 32 ++ xs) ≡ xs
spaces_drop zero [] h = refl
spaces_drop zero (x ∷ xs) h = rw (ne_eqb x 32 h) refl
spaces_drop (suc n) xs h = spaces_drop n xs h

spaced_word : (n : ℕ) (xs : List ℕ) → NotFirst 32 xs → spaced (32 ∷ (replicate n 32 ++ xs)) ≡ Ok xs
unfolding spaced
spaced_word n xs h = ap Ok (spaces_drop n xs h)

no_such : Laws → (word : List ℕ) → ((n : CommandName) → name_text n ≢ word) → name_from word ≡ None
no_such laws word none = here (name_from word) refl
  where
    here : (o : Option CommandName) → name_from word ≡ o → name_from word ≡ None
    here None e = e
    here (Some n) e = absurd (none n (laws.names.spelled word n e))

pub fault_read : Laws → (line : List ℕ) (f : LineFault) → IsFirstFault line f → reading line ≡ Err f
unfolding reading
fault_read laws line f (inl h) = rw (lt-ltb LONGEST_LINE (length line) h.1) (ap Err (sym h.0))
fault_read laws line f (inr (short, inl h)) = rw (le-ltb LONGEST_LINE (length line) short, no_bracket line h.1) (ap Err (sym h.0))
fault_read laws line f (inr (short, inr (inl h))) = rw (le-ltb LONGEST_LINE (length line) short, bad_time laws line h.1 h.2 h.3) (ap Err (sym h.0))
fault_read laws line f (inr (short, inr (inr (inl h)))) =
    let t = timed laws line h.1 h.2 in
    rw (le-ltb LONGEST_LINE (length line) short, t.1, no_space h.1 h.3) (ap Err (sym h.0))
fault_read laws line f (inr (short, inr (inr (inr (inl h))))) =
    let w = h.3 in
    let t = timed laws line (32 ∷ (replicate w.spaces 32 ++ (h.1 ++ h.2))) w.time in
    rw (le-ltb LONGEST_LINE (length line) short, t.1, spaced_word w.spaces (h.1 ++ h.2) w.no_space, before_is 59 h.1 h.2 w.no_semicolon w.opens, no_such laws h.1 h.4) (ap Err (sym h.0))
fault_read laws line f (inr (short, inr (inr (inr (inr h))))) =
    let w = h.2 in
    let t = timed laws line (32 ∷ (replicate w.spaces 32 ++ (name_text h.0 ++ h.1))) w.time in
    rw (le-ltb LONGEST_LINE (length line) short, t.1, spaced_word w.spaces (name_text h.0 ++ h.1) w.no_space, before_is 59 (name_text h.0) h.1 w.no_semicolon w.opens, laws.names.found h.0, from_is 59 (name_text h.0) h.1 w.no_semicolon w.opens, arguments_wrong laws (kinds h.0) 1 h.1 f h.3) refl

pub one_fault : Laws → (line : List ℕ) (f g : LineFault) → IsFirstFault line f → IsFirstFault line g → f ≡ g
one_fault laws line f g h k = (let same : Err f ≡ Err g = sym (fault_read laws line f h) ∙ fault_read laws line g k in cc)
