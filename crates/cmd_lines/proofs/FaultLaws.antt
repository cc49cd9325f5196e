-- Where reading fails, it fails by the first fault of the line.
use Rattle.std.proofs.Common.{◌≡◌, ◌≢◌, ℕ, ◌+◌, ◌<◌, Bool, true, false, not, cond, eqb, leb, ltb, List, [], ◌∷◌, ◌++◌, length, replicate, ◌⊎◌, inl, inr, Option, Some, None, Result, Ok, Err, refl, sym, ap, subst, ◌∙◌, arith}
use Rattle.std.proofs.lemmas.Bool.{eqb-true, eqb-false, leb-true, leb-false, ltb-true, ltb-false}
use Rattle.std.proofs.lemmas.Bool.Decides.{eqb_tells}
use Rattle.cmd_types.specs.declared.command_name.CommandName.{CommandName}
use Rattle.cmd_types.specs.declared.argument.NameRole.{NameRole}
use Rattle.cmd_types.specs.Bytes.{without_returns, IsNumber}
use Rattle.cmd_types.specs.Kinds.{Argument, Name, Author, Rest, Flag, Number, Code, Kind, AName, AnAuthor, ARest, AFlag, ANumber, ACode}
use Rattle.cmd_types.specs.Names.{name_from}
use Rattle.cmd_types.specs.Table.{name_text, kinds}
use Rattle.cmd_types.specs.Digits.{number_of}
use Rattle.cmd_types.specs.Cuts.{before}
use Rattle.cmd_types.specs.declared.limits.TheConstants.{LONGEST_LINE}
use Rattle.cmd_lines.specs.declared.fault.LineFault.{LineFault}
use Rattle.cmd_lines.specs.declared.fault.LineFault.TheVariants.{TooLong, Torn, NoBracket, BadTime, NoSpace, UnknownCommand, Missing, EmptyName, BadNumber, Memory}
use Rattle.cmd_lines.specs.FirstFault.{NotFirst, HasTime, HasWord, Takes, IsOfKind, TakesKind, fault_of, ArgumentsFail, Fails, IsFirstFault}
use Rattle.cmd_lines.specs.Reading.{◌>>=◌, IsWhy, some_or, from, without_spaces, opened, field, number_at, name_at, rest_at, flag_at, code_at, argument_at, arguments_at, closed, time_at, spaced, Parts, reading}
use Rattle.cmd_lines.proofs.Pieces.{before_from, from_opens}
use Rattle.cmd_lines.proofs.Each.{bind_ok, guard_ok, test_ok, some_ok, ok_is, opened_ok, field_ok}
use Rattle.cmd_lines.proofs.WholeLine.{time_is, time_ok, spaced_ok}
use Rattle.cmd_types.specs.Laws.{Laws}

-- ---- a step that failed

bind_err : {A B : Type 0} (r : Result A LineFault) (f : A → Result B LineFault) (e : LineFault) → (r >>= f) ≡ Err e → (r ≡ Err e) ⊎ ((x : A) × (r ≡ Ok x) × (f x ≡ Err e))
bind_err (Ok x) f e h = inr (x, refl, h)
bind_err (Err d) f e h = inl (let same : d ≡ e = cc in ap Err same)

cond_err : {A : Type 0} (b : Bool) (d : LineFault) (r : Result A LineFault) (e : LineFault) → cond b r (Err d) ≡ Err e → ((b ≡ true) × (r ≡ Err e)) ⊎ ((b ≡ false) × (e ≡ d))
cond_err true d r e h = inl (refl, h)
cond_err false d r e h = inr (refl, cc)

guard_err : {A : Type 0} (b : Bool) (d : LineFault) (r : Result A LineFault) (e : LineFault) → cond b (Err d) r ≡ Err e → ((b ≡ true) × (e ≡ d)) ⊎ ((b ≡ false) × (r ≡ Err e))
guard_err true d r e h = inl (refl, cc)
guard_err false d r e h = inr (refl, h)

some_err : {A : Type 0} (d : LineFault) (o : Option A) (e : LineFault) → some_or d o ≡ Err e → (e ≡ d) × (o ≡ None)
some_err d None e h = (cc, refl)
some_err d (Some x) e h = absurd cc

abbrev fine : {A : Type 0} → A → Result A LineFault
fine x = Ok x

no_err : {A : Type 0} (x : A) (e : LineFault) → fine x ≡ Err e → ⊥
no_err x e h = cc

-- ---- arguments

opened_err : (n : ℕ) (bytes : List ℕ) (f : LineFault) → opened n bytes ≡ Err f → (f ≡ Missing n) × NotFirst 59 bytes
unfolding opened
opened_err n [] f e = (cc, tt)
opened_err n (x ∷ bytes) f e =
    elim (cond_err (eqb x 59) (Missing n) (Ok bytes) f e) [
      | inl h ↦ absurd (no_err bytes f h.1)
      | inr h ↦ (h.1, eqb-false _ _ h.0)
    ]

field_err : (n : ℕ) (bytes : List ℕ) (f : LineFault) → field n bytes ≡ Err f → (f ≡ Missing n) × NotFirst 59 bytes
unfolding field
field_err n bytes f e =
    elim (bind_err (opened n bytes) (λ t. Ok (before 59 t, from 59 t)) f e) [
      | inl h ↦ opened_err n bytes f h
      | inr h ↦ absurd (no_err (before 59 h.0, from 59 h.0) f h.2)
    ]

-- argument n of the kind is at fault
abbrev KindFails : Kind → ℕ → List ℕ → LineFault → Type 0
KindFails k n bytes f = ((f ≡ Missing n) × NotFirst 59 bytes) ⊎ ((text : List ℕ) × (after : List ℕ) × TakesKind k bytes text after × (f ≡ fault_of k n) × (IsOfKind k text → ⊥))

-- an argument of the kind stands in front
record KindStands (k : Kind) (bytes after : List ℕ) : Type 0 where
  text : List ℕ
  takes : TakesKind k bytes text after
  passes : IsOfKind k text

name_err : Laws → (of : NameRole) (n : ℕ) (bytes : List ℕ) (f : LineFault) → name_at n bytes ≡ Err f → KindFails (AName of) n bytes f
unfolding name_at
name_err laws of n bytes f e =
    elim (bind_err (field n bytes) (λ x. cond (eqb (length (without_returns x.0)) 0) (Err (EmptyName n)) (Ok (without_returns x.0, x.1))) f e) [
      | inl h ↦ inl (field_err n bytes f h)
      | inr h ↦ elim (guard_err (eqb (length (without_returns h.0.0)) 0) (EmptyName n) (Ok (without_returns h.0.0, h.0.1)) f h.2) [
        | inl g ↦ inr (h.0.0, h.0.1, field_ok laws n bytes h.0.0 h.0.1 h.1, g.1, λ some. let none = eqb-true (length (without_returns h.0.0)) 0 g.0 in omega arith)
        | inr g ↦ absurd (no_err (without_returns h.0.0, h.0.1) f g.1)
      ]
    ]

name_stands : Laws → (of : NameRole) (n : ℕ) (bytes x after : List ℕ) → name_at n bytes ≡ Ok (x, after) → KindStands (AName of) bytes after
unfolding name_at
name_stands laws of n bytes x after e =
    let b = bind_ok (field n bytes) (λ y. cond (eqb (length (without_returns y.0)) 0) (Err (EmptyName n)) (Ok (without_returns y.0, y.1))) (x, after) e in
    let g = guard_ok (eqb (length (without_returns b.0.0)) 0) (EmptyName n) (Ok (without_returns b.0.0, b.0.1)) (x, after) b.2 in
    let same = ok_is (without_returns b.0.0, b.0.1) (x, after) g.1 in
    let some : 0 < length (without_returns b.0.0) = (let ne = eqb-false (length (without_returns b.0.0)) 0 g.0 in omega arith) in
    let made : KindStands (AName of) bytes b.0.1 = record { text = b.0.0; takes = field_ok laws n bytes b.0.0 b.0.1 b.1; passes = some } in
    subst (λ (p : List ℕ × List ℕ). KindStands (AName of) bytes p.1) same made

number_err : Laws → (n : ℕ) (bytes : List ℕ) (f : LineFault) → number_at n bytes ≡ Err f → KindFails ANumber n bytes f
unfolding number_at
number_err laws n bytes f e =
    elim (bind_err (field n bytes) (λ x. some_or (BadNumber n) (number_of x.0) >>= λ y. Ok (y, x.1)) f e) [
      | inl h ↦ inl (field_err n bytes f h)
      | inr h ↦ elim (bind_err (some_or (BadNumber n) (number_of h.0.0)) (λ y. Ok (y, h.0.1)) f h.2) [
        | inl g ↦ (let s = some_err (BadNumber n) (number_of h.0.0) f g in
            inr (h.0.0, h.0.1, field_ok laws n bytes h.0.0 h.0.1 h.1, s.0, λ p. let clash : Some p.0 ≡ None = sym (laws.numbers.read h.0.0 p.0 p.1) ∙ s.1 in cc))
        | inr g ↦ absurd (no_err (g.0, h.0.1) f g.2)
      ]
    ]

-- a number stands in front
record NumberStands (bytes : List ℕ) (x : ℕ) (after : List ℕ) : Type 0 where
  text : List ℕ
  takes : Takes bytes text after
  number : IsNumber text x

number_stands : Laws → (n : ℕ) (bytes : List ℕ) (x : ℕ) (after : List ℕ) → number_at n bytes ≡ Ok (x, after) → NumberStands bytes x after
unfolding number_at
number_stands laws n bytes x after e =
    let b = bind_ok (field n bytes) (λ p. some_or (BadNumber n) (number_of p.0) >>= λ y. Ok (y, p.1)) (x, after) e in
    let d = bind_ok (some_or (BadNumber n) (number_of b.0.0)) (λ y. Ok (y, b.0.1)) (x, after) b.2 in
    let made : NumberStands bytes d.0 b.0.1 = record { text = b.0.0; takes = field_ok laws n bytes b.0.0 b.0.1 b.1; number = laws.numbers.spelled b.0.0 d.0 (some_ok (BadNumber n) (number_of b.0.0) d.0 d.1) } in
    subst (λ (p : ℕ × List ℕ). NumberStands bytes p.0 p.1) (ok_is (d.0, b.0.1) (x, after) d.2) made

flag_err : Laws → (n : ℕ) (bytes : List ℕ) (f : LineFault) → flag_at n bytes ≡ Err f → KindFails AFlag n bytes f
unfolding flag_at
flag_err laws n bytes f e =
    elim (bind_err (number_at n bytes) (λ x. Ok (not (eqb x.0 0), x.1)) f e) [
      | inl h ↦ number_err laws n bytes f h
      | inr h ↦ absurd (no_err (not (eqb h.0.0 0), h.0.1) f h.2)
    ]

flag_stands : Laws → (n : ℕ) (bytes : List ℕ) (x : Bool) (after : List ℕ) → flag_at n bytes ≡ Ok (x, after) → KindStands AFlag bytes after
unfolding flag_at
flag_stands laws n bytes x after e =
    let b = bind_ok (number_at n bytes) (λ y. Ok (not (eqb y.0 0), y.1)) (x, after) e in
    let s = number_stands laws n bytes b.0.0 b.0.1 b.1 in
    let made : KindStands AFlag bytes b.0.1 = record { text = s.text; takes = s.takes; passes = (b.0.0, s.number) } in
    subst (λ (p : Bool × List ℕ). KindStands AFlag bytes p.1) (ok_is (not (eqb b.0.0 0), b.0.1) (x, after) b.2) made

code_err : Laws → (greatest n : ℕ) (bytes : List ℕ) (f : LineFault) → code_at greatest n bytes ≡ Err f → KindFails (ACode greatest) n bytes f
unfolding code_at
code_err laws greatest n bytes f e =
    elim (bind_err (number_at n bytes) (λ x. cond (leb x.0 greatest) (Ok x) (Err (BadNumber n))) f e) [
      | inl h ↦ elim (number_err laws n bytes f h) [
        | inl g ↦ inl g
        | inr g ↦ inr (g.0, g.1, g.2, g.3, λ p. g.4 (p.0, p.1))
      ]
      | inr h ↦ elim (cond_err (leb h.0.0 greatest) (BadNumber n) (Ok h.0) f h.2) [
        | inl g ↦ absurd (no_err h.0 f g.1)
        | inr g ↦ (let s = number_stands laws n bytes h.0.0 h.0.1 h.1 in
            inr (s.text, h.0.1, s.takes, g.1, λ p. let same : h.0.0 ≡ p.0 = sym s.number.value ∙ p.1.value in let large = leb-false h.0.0 greatest g.0 in let small = p.2 in omega arith))
      ]
    ]

code_stands : Laws → (greatest n : ℕ) (bytes : List ℕ) (x : ℕ) (after : List ℕ) → code_at greatest n bytes ≡ Ok (x, after) → KindStands (ACode greatest) bytes after
unfolding code_at
code_stands laws greatest n bytes x after e =
    let b = bind_ok (number_at n bytes) (λ y. cond (leb y.0 greatest) (Ok y) (Err (BadNumber n))) (x, after) e in
    let t = test_ok (leb b.0.0 greatest) (BadNumber n) (Ok b.0) (x, after) b.2 in
    let s = number_stands laws n bytes b.0.0 b.0.1 b.1 in
    let made : KindStands (ACode greatest) bytes b.0.1 = record { text = s.text; takes = s.takes; passes = (b.0.0, s.number, leb-true _ _ t.0) } in
    subst (λ (p : ℕ × List ℕ). KindStands (ACode greatest) bytes p.1) (ok_is b.0 (x, after) t.1) made

wrapped_err : {A : Type 0} (wrap : A → Argument) (r : Result (A × List ℕ) LineFault) (f : LineFault) → ◌>>=◌ {B = Argument × List ℕ} r (λ x. Ok (wrap x.0, x.1)) ≡ Err f → r ≡ Err f
wrapped_err wrap r f e =
    elim (bind_err r (λ x. Ok (wrap x.0, x.1)) f e) [
      | inl h ↦ h
      | inr h ↦ absurd (no_err (wrap h.0.0, h.0.1) f h.2)
    ]

wrapped_ok : {A : Type 0} (wrap : A → Argument) (r : Result (A × List ℕ) LineFault) (a : Argument) (after : List ℕ) → ◌>>=◌ {B = Argument × List ℕ} r (λ x. Ok (wrap x.0, x.1)) ≡ Ok (a, after) → (x : A) × (r ≡ Ok (x, after))
wrapped_ok wrap r a after e =
    let b = bind_ok r (λ x. Ok (wrap x.0, x.1)) (a, after) e in
    let same : b.0.1 ≡ after = ap (λ (p : Argument × List ℕ). p.1) (ok_is (wrap b.0.0, b.0.1) (a, after) b.2) in
    (b.0.0, b.1 ∙ ap (λ (t : List ℕ). Ok (b.0.0, t)) same)

rest_err : (n : ℕ) (bytes : List ℕ) (f : LineFault) → rest_at n bytes ≡ Err f → (f ≡ Missing n) × NotFirst 59 bytes
unfolding rest_at
rest_err n bytes f e =
    elim (bind_err (opened n bytes) (λ t. Ok (t, [])) f e) [
      | inl h ↦ opened_err n bytes f h
      | inr h ↦ absurd (no_err (h.0, []) f h.2)
    ]

argument_err : Laws → (k : Kind) (n : ℕ) (bytes : List ℕ) (f : LineFault) → argument_at k n bytes ≡ Err f → KindFails k n bytes f
argument_err laws (AName of) n bytes f e = name_err laws of n bytes f (wrapped_err (Name of) (name_at n bytes) f e)
argument_err laws AnAuthor n bytes f e = inl (field_err n bytes f (wrapped_err Author (field n bytes) f e))
argument_err laws ARest n bytes f e = inl (rest_err n bytes f (wrapped_err Rest (rest_at n bytes) f e))
argument_err laws AFlag n bytes f e = flag_err laws n bytes f (wrapped_err Flag (flag_at n bytes) f e)
argument_err laws ANumber n bytes f e = number_err laws n bytes f (wrapped_err Number (number_at n bytes) f e)
argument_err laws (ACode greatest) n bytes f e = code_err laws greatest n bytes f (wrapped_err (Code greatest) (code_at greatest n bytes) f e)

rest_stands : (n : ℕ) (bytes x after : List ℕ) → rest_at n bytes ≡ Ok (x, after) → KindStands ARest bytes after
unfolding rest_at
rest_stands n bytes x after e =
    let b = bind_ok (opened n bytes) (λ t. Ok (t, [])) (x, after) e in
    let made : KindStands ARest bytes [] = record { text = b.0; takes = (opened_ok n bytes b.0 b.1, refl); passes = tt } in
    subst (λ (p : List ℕ × List ℕ). KindStands ARest bytes p.1) (ok_is (b.0, []) (x, after) b.2) made

argument_stands : Laws → (k : Kind) (n : ℕ) (bytes : List ℕ) (a : Argument) (after : List ℕ) → argument_at k n bytes ≡ Ok (a, after) → KindStands k bytes after
argument_stands laws (AName of) n bytes a after e = (let w = wrapped_ok (Name of) (name_at n bytes) a after e in name_stands laws of n bytes w.0 after w.1)
argument_stands laws AnAuthor n bytes a after e = (let w = wrapped_ok Author (field n bytes) a after e in record { text = w.0; takes = field_ok laws n bytes w.0 after w.1; passes = tt })
argument_stands laws ARest n bytes a after e = (let w = wrapped_ok Rest (rest_at n bytes) a after e in rest_stands n bytes w.0 after w.1)
argument_stands laws AFlag n bytes a after e = (let w = wrapped_ok Flag (flag_at n bytes) a after e in flag_stands laws n bytes w.0 after w.1)
argument_stands laws ANumber n bytes a after e = (let w = wrapped_ok Number (number_at n bytes) a after e in let s = number_stands laws n bytes w.0 after w.1 in record { text = s.text; takes = s.takes; passes = (w.0, s.number) })
argument_stands laws (ACode greatest) n bytes a after e = (let w = wrapped_ok (Code greatest) (code_at greatest n bytes) a after e in code_stands laws greatest n bytes w.0 after w.1)

arguments_fail : Laws → (ks : List Kind) (n : ℕ) (bytes : List ℕ) (f : LineFault) → arguments_at ks n bytes ≡ Err f → ArgumentsFail ks n bytes f
arguments_fail laws [] n bytes f e = absurd cc
arguments_fail laws (k ∷ ks) n bytes f e =
    elim (bind_err (argument_at k n bytes) (λ x. arguments_at ks (n + 1) x.1 >>= λ others. Ok (x.0 ∷ others)) f e) [
      | inl h ↦ elim (argument_err laws k n bytes f h) [
        | inl g ↦ inl g
        | inr g ↦ inr (g.0, g.1, g.2, inl (g.3, g.4))
      ]
      | inr h ↦ elim (bind_err (arguments_at ks (n + 1) h.0.1) (λ others. Ok (h.0.0 ∷ others)) f h.2) [
        | inl g ↦ (let s = argument_stands laws k n bytes h.0.0 h.0.1 h.1 in inr (s.text, h.0.1, s.takes, inr (s.passes, arguments_fail laws ks (n + 1) h.0.1 f g)))
        | inr g ↦ absurd (no_err (h.0.0 ∷ g.0) f g.2)
      ]
    ]

-- ---- the head of a line

no_time : Laws → (line : List ℕ) (f : LineFault) → time_at line ≡ Err f → (after : List ℕ) → HasTime line after → ⊥
no_time laws line f e after h =
    let ok : time_at line ≡ Ok (h.time, after) = rw h.parts (time_is laws h.text after h.time h.number) in
    no_err (h.time, after) f (sym ok ∙ e)

closed_err : (text bytes : List ℕ) (f : LineFault) → closed text bytes ≡ Err f → f ≡ BadTime
unfolding closed
closed_err text [] f e = cc
closed_err text (b ∷ after) f e =
    elim (bind_err (some_or BadTime (number_of text)) (λ n. Ok (n, after)) f e) [
      | inl h ↦ (some_err BadTime (number_of text) f h).0
      | inr h ↦ absurd (no_err (h.0, after) f h.2)
    ]

pub time_err : (line : List ℕ) (f : LineFault) → time_at line ≡ Err f → ((f ≡ NoBracket) × NotFirst 91 line) ⊎ ((f ≡ BadTime) × (rest : List ℕ) × (line ≡ 91 ∷ rest))
unfolding time_at
time_err [] f e = inl (cc, tt)
time_err (x ∷ bytes) f e =
    elim (cond_err (eqb x 91) NoBracket (closed (before 93 bytes) (from 93 bytes)) f e) [
      | inl h ↦ inr (closed_err (before 93 bytes) (from 93 bytes) f h.1, bytes, ap (λ (b : ℕ). b ∷ bytes) (eqb-true _ _ h.0))
      | inr h ↦ inl (h.1, eqb-false _ _ h.0)
    ]

spaced_err : (bytes : List ℕ) (f : LineFault) → spaced bytes ≡ Err f → (f ≡ NoSpace) × NotFirst 32 bytes
unfolding spaced
spaced_err [] f e = (cc, tt)
spaced_err (x ∷ after) f e =
    elim (cond_err (eqb x 32) NoSpace (Ok (without_spaces after)) f e) [
      | inl h ↦ absurd (no_err (without_spaces after) f h.1)
      | inr h ↦ (h.1, eqb-false _ _ h.0)
    ]

spaces_end : (xs : List ℕ) → NotFirst 32 (without_spaces xs)
spaces_end [] = tt
spaces_end (x ∷ xs) =
    elim (eqb_tells x 32) [
      | inl h ↦ rw h.0 (spaces_end xs)
      | inr h ↦ rw h.0 h.1
    ]

spaced_end : (bytes after : List ℕ) → spaced bytes ≡ Ok after → NotFirst 32 after
unfolding spaced
spaced_end [] after e = absurd cc
spaced_end (x ∷ bytes) after e =
    let t = test_ok (eqb x 32) NoSpace (Ok (without_spaces bytes)) after e in
    subst (NotFirst 32) (ok_is (without_spaces bytes) after t.1) (spaces_end bytes)

no_name : Laws → (word : List ℕ) → name_from word ≡ None → (n : CommandName) → name_text n ≢ word
no_name laws word none n same = (let clash : Some n ≡ None = sym (laws.names.found n) ∙ ap name_from same ∙ none in cc)

pub has_time : Laws → (line after : List ℕ) (time : ℕ) → time_at line ≡ Ok (time, after) → HasTime line after
has_time laws line after time e = (let t = time_ok laws line after time e in record { text = t.text; time = time; parts = t.parts; number = t.number })

-- the word behind the time and the spaces
word_is : Laws → (line after bytes : List ℕ) (time : ℕ) → time_at line ≡ Ok (time, after) → spaced after ≡ Ok bytes → HasWord line (before 59 bytes) (from 59 bytes)
word_is laws line after bytes time timed spaces =
    let s = spaced_ok after bytes spaces in
    let whole = before_from 59 bytes in
    let behind : after ≡ 32 ∷ (replicate s.0 32 ++ (before 59 bytes ++ from 59 bytes)) = s.1 ∙ ap (λ (r : List ℕ). 32 ∷ (replicate s.0 32 ++ r)) whole in
    record {
      spaces = s.0;
      time = subst (HasTime line) behind (has_time laws line after time timed);
      no_space = subst (NotFirst 32) whole (spaced_end after bytes spaces);
      no_semicolon = laws.lacking.up_to 59 bytes;
      opens = from_opens 59 bytes;
    }

-- ---- lines

abbrev read : ℕ → CommandName → List Argument → Result Parts LineFault
read time n xs = Ok (record { time = time; name = n; arguments = xs })

read_not : (time : ℕ) (n : CommandName) (xs : List Argument) (f : LineFault) → read time n xs ≡ Err f → ⊥
read_not time n xs f e = cc

pub first_fault : Laws → (line : List ℕ) (f : LineFault) → reading line ≡ Err f → IsFirstFault line f
unfolding reading
first_fault laws line f e =
    elim (guard_err (ltb LONGEST_LINE (length line)) TooLong (time_at line >>= λ t. spaced t.1 >>= λ bytes. some_or UnknownCommand (name_from (before 59 bytes)) >>= λ n. arguments_at (kinds n) 1 (from 59 bytes) >>= λ xs. read t.0 n xs) f e) [
      | inl h ↦ inl (h.1, ltb-true _ _ h.0)
      | inr h ↦ inr (ltb-false _ _ h.0, timed h.1)
    ]
  where
    found_name : (t : ℕ × List ℕ) (bytes : List ℕ) (n : CommandName) → HasWord line (before 59 bytes) (from 59 bytes) → name_from (before 59 bytes) ≡ Some n → (arguments_at (kinds n) 1 (from 59 bytes) >>= λ xs. read t.0 n xs) ≡ Err f → Fails line f
    found_name t bytes n word named h =
        elim (bind_err (arguments_at (kinds n) 1 (from 59 bytes)) (λ xs. read t.0 n xs) f h) [
          | inl g ↦ inr (inr (inr (inr (n, from 59 bytes, subst (λ (w : List ℕ). HasWord line w (from 59 bytes)) (sym (laws.names.spelled (before 59 bytes) n named)) word, arguments_fail laws (kinds n) 1 (from 59 bytes) f g))))
          | inr g ↦ absurd (read_not t.0 n g.0 f g.2)
        ]

    named : (t : ℕ × List ℕ) (bytes : List ℕ) → HasWord line (before 59 bytes) (from 59 bytes) → (some_or UnknownCommand (name_from (before 59 bytes)) >>= λ n. arguments_at (kinds n) 1 (from 59 bytes) >>= λ xs. read t.0 n xs) ≡ Err f → Fails line f
    named t bytes word h =
        elim (bind_err (some_or UnknownCommand (name_from (before 59 bytes))) (λ n. arguments_at (kinds n) 1 (from 59 bytes) >>= λ xs. read t.0 n xs) f h) [
          | inl g ↦ (let s = some_err UnknownCommand (name_from (before 59 bytes)) f g in inr (inr (inr (inl (s.0, before 59 bytes, from 59 bytes, word, no_name laws (before 59 bytes) s.1)))))
          | inr g ↦ found_name t bytes g.0 word (some_ok UnknownCommand (name_from (before 59 bytes)) g.0 g.1) g.2
        ]

    spaces : (t : ℕ × List ℕ) → time_at line ≡ Ok t → (spaced t.1 >>= λ bytes. some_or UnknownCommand (name_from (before 59 bytes)) >>= λ n. arguments_at (kinds n) 1 (from 59 bytes) >>= λ xs. read t.0 n xs) ≡ Err f → Fails line f
    spaces t ok h =
        elim (bind_err (spaced t.1) (λ bytes. some_or UnknownCommand (name_from (before 59 bytes)) >>= λ n. arguments_at (kinds n) 1 (from 59 bytes) >>= λ xs. read t.0 n xs) f h) [
          | inl g ↦ (let s = spaced_err t.1 f g in inr (inr (inl (s.0, t.1, has_time laws line t.1 t.0 ok, s.1))))
          | inr g ↦ named t g.0 (word_is laws line t.1 g.0 t.0 ok g.1) g.2
        ]

    timed : (time_at line >>= λ t. spaced t.1 >>= λ bytes. some_or UnknownCommand (name_from (before 59 bytes)) >>= λ n. arguments_at (kinds n) 1 (from 59 bytes) >>= λ xs. read t.0 n xs) ≡ Err f → Fails line f
    timed h =
        elim (bind_err (time_at line) (λ t. spaced t.1 >>= λ bytes. some_or UnknownCommand (name_from (before 59 bytes)) >>= λ n. arguments_at (kinds n) 1 (from 59 bytes) >>= λ xs. read t.0 n xs) f h) [
          | inl g ↦ elim (time_err line f g) [
            | inl s ↦ inl s
            | inr s ↦ inr (inl (s.0, s.1, s.2, no_time laws line f g))
          ]
          | inr g ↦ spaces g.0 g.1 g.2
        ]

-- ---- what no line's fault is

abbrev pub IsPlain : LineFault → Type 0
IsPlain f = (f ≢ Memory) × (f ≢ Torn)

kind_plain : (k : Kind) (n : ℕ) (f : LineFault) → f ≡ fault_of k n → IsPlain f
kind_plain (AName of) n f e = (λ m. cc, λ t. cc)
kind_plain _ n f e = (λ m. cc, λ t. cc)

arguments_plain : (ks : List Kind) (n : ℕ) (bytes : List ℕ) (f : LineFault) → ArgumentsFail ks n bytes f → IsPlain f
arguments_plain [] n bytes f h = absurd h
arguments_plain (k ∷ ks) n bytes f (inl h) = (let e = h.0 in (λ m. cc, λ t. cc))
arguments_plain (k ∷ ks) n bytes f (inr (text, after, takes, inl h)) = kind_plain k n f h.0
arguments_plain (k ∷ ks) n bytes f (inr (text, after, takes, inr h)) = arguments_plain ks (n + 1) after f h.1

pub fault_plain : (line : List ℕ) (f : LineFault) → IsFirstFault line f → IsPlain f
fault_plain line f (inl h) = (let e = h.0 in (λ m. cc, λ t. cc))
fault_plain line f (inr (short, inl h)) = (let e = h.0 in (λ m. cc, λ t. cc))
fault_plain line f (inr (short, inr (inl h))) = (let e = h.0 in (λ m. cc, λ t. cc))
fault_plain line f (inr (short, inr (inr (inl h)))) = (let e = h.0 in (λ m. cc, λ t. cc))
fault_plain line f (inr (short, inr (inr (inr (inl h))))) = (let e = h.0 in (λ m. cc, λ t. cc))
fault_plain line f (inr (short, inr (inr (inr (inr h))))) = arguments_plain (kinds h.0) 1 h.1 f h.3

-- ---- why there is no command

pub not_read : (line : List ℕ) (f : LineFault) → IsWhy f (reading line) → f ≢ Memory → reading line ≡ Err f
not_read line f why ne = here (reading line) refl
  where
    here : (r : Result Parts LineFault) → reading line ≡ r → reading line ≡ Err f
    here (Ok p) e = absurd (ne (subst (IsWhy f) e why))
    here (Err g) e = e ∙ ap Err (sym (subst (IsWhy f) e why))

pub never_torn : Laws → (line : List ℕ) (f : LineFault) → IsWhy f (reading line) → f ≢ Torn
never_torn laws line f why torn = (fault_plain line f (first_fault laws line f (not_read line f why (λ m. cc)))).1 torn

-- memory lacks where the line is read
pub read_for_memory : Laws → (line : List ℕ) (f : LineFault) → IsWhy f (reading line) → f ≡ Memory → (p : Parts) × (reading line ≡ Ok p)
read_for_memory laws line f why memory = here (reading line) refl
  where
    here : (r : Result Parts LineFault) → reading line ≡ r → (p : Parts) × (reading line ≡ Ok p)
    here (Ok p) e = (p, e)
    here (Err g) e = absurd ((fault_plain line f (first_fault laws line f (e ∙ ap Err (sym (subst (IsWhy f) e why))))).0 memory)
