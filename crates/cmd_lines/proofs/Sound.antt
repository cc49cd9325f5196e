-- What is read is spelled so, fits, and is no longer in the canonical line.
use Rattle.std.proofs.Common.{◌≡◌, ℕ, ◌+◌, ◌<◌, ◌≤◌, Bool, true, false, not, cond, eqb, leb, List, [], ◌∷◌, ◌++◌, length, replicate, Result, Ok, Err, refl, sym, ap, subst, ◌∙◌, arith, inl, length-append}
use Rattle.std.proofs.lemmas.Bool.{eqb-false, leb-true}
use Rattle.std.proofs.lemmas.List.{append-nil}
use Rattle.cmd_types.specs.declared.argument.NameRole.{NameRole}
use Rattle.cmd_types.specs.Bytes.{Lacks, without_returns, IsNumber}
use Rattle.cmd_types.specs.Kinds.{Argument, Name, Author, Rest, Flag, Number, Code, Kind, AName, AnAuthor, ARest, AFlag, ANumber, ACode}
use Rattle.cmd_types.specs.Spelling.{Fits, AllFit, text_of, texts, SpellsArgument, MayFollow, SpellsArguments}
use Rattle.cmd_types.specs.Digits.{number_of}
use Rattle.cmd_lines.specs.FirstFault.{Opens, Takes}
use Rattle.cmd_lines.specs.declared.fault.LineFault.{LineFault}
use Rattle.cmd_lines.specs.declared.fault.LineFault.TheVariants.{EmptyName, BadNumber}
use Rattle.cmd_lines.specs.Reading.{◌>>=◌, some_or, opened, field, number_at, name_at, rest_at, flag_at, code_at, argument_at, arguments_at}
use Rattle.cmd_lines.proofs.Each.{bind_ok, guard_ok, test_ok, some_ok, ok_is, opened_ok, field_ok}
use Rattle.cmd_types.specs.Laws.{Laws}

-- bytes of one line
pub record IsLine (bytes : List ℕ) : Type 0 where
  pub one : Lacks 10 bytes
  pub ended : without_returns bytes ≡ bytes

IsLine-back : Laws → (xs ys : List ℕ) → IsLine (xs ++ ys) → IsLine ys
IsLine-back laws xs ys h = record { one = laws.lacking.back 10 xs ys h.one; ended = laws.returns.back xs ys h.ended }

pub IsLine-after : Laws → (bytes xs ys : List ℕ) → bytes ≡ xs ++ ys → IsLine bytes → IsLine ys
IsLine-after laws bytes xs ys e h = IsLine-back laws xs ys (subst IsLine e h)

-- what reading one argument shows
pub record Reads (bytes : List ℕ) (a : Argument) (after : List ℕ) : Type 0 where
  pub text : List ℕ
  pub parts : bytes ≡ 59 ∷ text ++ after
  pub spells : SpellsArgument a text
  pub follows : MayFollow a after
  pub opens : Opens 59 after
  pub fits : Fits a
  pub shorter : length (text_of a) ≤ length text

takes_one : Laws → (bytes text after : List ℕ) → IsLine bytes → Takes bytes text after → Lacks 10 text
takes_one laws bytes text after line t =
    let whole : Lacks 10 (59 ∷ text ++ after) = subst (Lacks 10) t.parts line.one in
    laws.lacking.front 10 text after whole.1

length-without_returns : Laws → (xs : List ℕ) → length (without_returns xs) ≤ length xs
length-without_returns laws xs =
    let s = laws.returns.split xs in
    omega (arith, ap length s.1, length-append (without_returns xs) (replicate s.0 13))

-- ---- each kind

name_reads : Laws → (of : NameRole) (n : ℕ) (bytes x after : List ℕ) → IsLine bytes → name_at n bytes ≡ Ok (x, after) → Reads bytes (Name of x) after
unfolding name_at
name_reads laws of n bytes x after line e =
    let b = bind_ok (field n bytes) (λ f. cond (eqb (length (without_returns f.0)) 0) (Err (EmptyName n)) (Ok (without_returns f.0, f.1))) (x, after) e in
    let t = field_ok laws n bytes b.0.0 b.0.1 b.1 in
    let g = guard_ok (eqb (length (without_returns b.0.0)) 0) (EmptyName n) (Ok (without_returns b.0.0, b.0.1)) (x, after) b.2 in
    let some : 0 < length (without_returns b.0.0) = omega (arith, eqb-false _ _ g.0) in
    let s = laws.returns.split b.0.0 in
    let made : Reads bytes (Name of (without_returns b.0.0)) b.0.1 = record {
      text = b.0.0;
      parts = t.parts;
      spells = s;
      follows = tt;
      opens = t.opens;
      fits = record { some = some; no_semicolon = laws.lacking.trimmed 59 b.0.0 t.lacks; no_line_feed = laws.lacking.trimmed 10 b.0.0 (takes_one laws bytes b.0.0 b.0.1 line t); no_return = laws.returns.twice b.0.0 };
      shorter = length-without_returns laws b.0.0;
    } in
    subst (λ (p : List ℕ × List ℕ). Reads bytes (Name of p.0) p.1) (ok_is (without_returns b.0.0, b.0.1) (x, after) g.1) made

author_reads : Laws → (n : ℕ) (bytes x after : List ℕ) → IsLine bytes → field n bytes ≡ Ok (x, after) → Reads bytes (Author x) after
author_reads laws n bytes x after line e =
    let t = field_ok laws n bytes x after e in
    record { text = x; parts = t.parts; spells = refl; follows = tt; opens = t.opens; fits = (t.lacks, takes_one laws bytes x after line t); shorter = omega arith }

rest_reads : Laws → (n : ℕ) (bytes x after : List ℕ) → IsLine bytes → rest_at n bytes ≡ Ok (x, after) → Reads bytes (Rest x) after
unfolding rest_at
rest_reads laws n bytes x after line e =
    let b = bind_ok (opened n bytes) (λ t. Ok (t, [])) (x, after) e in
    let parts = opened_ok n bytes b.0 b.1 in
    let below = IsLine-after laws bytes (59 ∷ []) b.0 parts line in
    let made : Reads bytes (Rest b.0) [] = record {
      text = b.0;
      parts = parts ∙ ap (λ (t : List ℕ). 59 ∷ t) (sym (append-nil b.0));
      spells = refl;
      follows = refl;
      opens = inl refl;
      fits = (below.one, below.ended);
      shorter = omega arith;
    } in
    subst (λ (p : List ℕ × List ℕ). Reads bytes (Rest p.0) p.1) (ok_is (b.0, []) (x, after) b.2) made

-- the bytes that a number took
pub record TakesNumber (bytes : List ℕ) (x : ℕ) (after : List ℕ) : Type 0 where
  pub text : List ℕ
  pub takes : Takes bytes text after
  pub number : IsNumber text x

number_takes : Laws → (n : ℕ) (bytes : List ℕ) (x : ℕ) (after : List ℕ) → number_at n bytes ≡ Ok (x, after) → TakesNumber bytes x after
unfolding number_at
number_takes laws n bytes x after e =
    let b = bind_ok (field n bytes) (λ f. some_or (BadNumber n) (number_of f.0) >>= λ y. Ok (y, f.1)) (x, after) e in
    let d = bind_ok (some_or (BadNumber n) (number_of b.0.0)) (λ y. Ok (y, b.0.1)) (x, after) b.2 in
    let made : TakesNumber bytes d.0 b.0.1 = record {
      text = b.0.0;
      takes = field_ok laws n bytes b.0.0 b.0.1 b.1;
      number = laws.numbers.spelled b.0.0 d.0 (some_ok (BadNumber n) (number_of b.0.0) d.0 d.1);
    } in
    subst (λ (p : ℕ × List ℕ). TakesNumber bytes p.0 p.1) (ok_is (d.0, b.0.1) (x, after) d.2) made

number_reads : Laws → (n : ℕ) (bytes : List ℕ) (x : ℕ) (after : List ℕ) → number_at n bytes ≡ Ok (x, after) → Reads bytes (Number x) after
number_reads laws n bytes x after e =
    let t = number_takes laws n bytes x after e in
    record { text = t.text; parts = t.takes.parts; spells = t.number; follows = tt; opens = t.takes.opens; fits = t.number.small; shorter = laws.numbers.shortest t.text x t.number }

pub length-flag : (b : Bool) → length (text_of (Flag b)) ≡ 1
length-flag true = refl
length-flag false = refl

flag_reads : Laws → (n : ℕ) (bytes : List ℕ) (x : Bool) (after : List ℕ) → flag_at n bytes ≡ Ok (x, after) → Reads bytes (Flag x) after
unfolding flag_at
flag_reads laws n bytes x after e =
    let b = bind_ok (number_at n bytes) (λ y. Ok (not (eqb y.0 0), y.1)) (x, after) e in
    let t = number_takes laws n bytes b.0.0 b.0.1 b.1 in
    let made : Reads bytes (Flag (not (eqb b.0.0 0))) b.0.1 = record {
      text = t.text;
      parts = t.takes.parts;
      spells = (b.0.0, t.number, refl);
      follows = tt;
      opens = t.takes.opens;
      fits = tt;
      shorter = (let some = t.number.some in omega (arith, length-flag (not (eqb b.0.0 0))));
    } in
    subst (λ (p : Bool × List ℕ). Reads bytes (Flag p.0) p.1) (ok_is (not (eqb b.0.0 0), b.0.1) (x, after) b.2) made

code_reads : Laws → (greatest n : ℕ) (bytes : List ℕ) (x : ℕ) (after : List ℕ) → code_at greatest n bytes ≡ Ok (x, after) → Reads bytes (Code greatest x) after
unfolding code_at
code_reads laws greatest n bytes x after e =
    let b = bind_ok (number_at n bytes) (λ y. cond (leb y.0 greatest) (Ok y) (Err (BadNumber n))) (x, after) e in
    let g = test_ok (leb b.0.0 greatest) (BadNumber n) (Ok b.0) (x, after) b.2 in
    let t = number_takes laws n bytes b.0.0 b.0.1 b.1 in
    let made : Reads bytes (Code greatest b.0.0) b.0.1 = record {
      text = t.text;
      parts = t.takes.parts;
      spells = t.number;
      follows = tt;
      opens = t.takes.opens;
      fits = leb-true _ _ g.0;
      shorter = laws.numbers.shortest t.text b.0.0 t.number;
    } in
    subst (λ (p : ℕ × List ℕ). Reads bytes (Code greatest p.0) p.1) (ok_is b.0 (x, after) g.1) made

-- a step that only wraps the value
wrapped : {A : Type 0} (bytes : List ℕ) (wrap : A → Argument) (r : Result (A × List ℕ) LineFault) (a : Argument) (after : List ℕ)
    → ((x : A) (rest : List ℕ) → r ≡ Ok (x, rest) → Reads bytes (wrap x) rest) → ◌>>=◌ {B = Argument × List ℕ} r (λ x. Ok (wrap x.0, x.1)) ≡ Ok (a, after) → Reads bytes a after
wrapped bytes wrap r a after reads e =
    let b = bind_ok r (λ x. Ok (wrap x.0, x.1)) (a, after) e in
    subst (λ (p : Argument × List ℕ). Reads bytes p.0 p.1) (ok_is (wrap b.0.0, b.0.1) (a, after) b.2) (reads b.0.0 b.0.1 b.1)

pub argument_reads : Laws → (k : Kind) (n : ℕ) (bytes : List ℕ) (a : Argument) (after : List ℕ) → IsLine bytes → argument_at k n bytes ≡ Ok (a, after) → Reads bytes a after
argument_reads laws (AName of) n bytes a after line e = wrapped bytes (Name of) (name_at n bytes) a after (λ x rest. name_reads laws of n bytes x rest line) e
argument_reads laws AnAuthor n bytes a after line e = wrapped bytes Author (field n bytes) a after (λ x rest. author_reads laws n bytes x rest line) e
argument_reads laws ARest n bytes a after line e = wrapped bytes Rest (rest_at n bytes) a after (λ x rest. rest_reads laws n bytes x rest line) e
argument_reads laws AFlag n bytes a after line e = wrapped bytes Flag (flag_at n bytes) a after (λ x rest. flag_reads laws n bytes x rest) e
argument_reads laws ANumber n bytes a after line e = wrapped bytes Number (number_at n bytes) a after (λ x rest. number_reads laws n bytes x rest) e
argument_reads laws (ACode greatest) n bytes a after line e = wrapped bytes (Code greatest) (code_at greatest n bytes) a after (λ x rest. code_reads laws greatest n bytes x rest) e

-- ---- all arguments

pub record ReadsAll (bytes : List ℕ) (xs : List Argument) : Type 0 where
  pub spells : SpellsArguments xs bytes
  pub fits : AllFit xs
  pub shorter : length (texts xs) ≤ length bytes

pub arguments_read : Laws → (ks : List Kind) (n : ℕ) (bytes : List ℕ) (xs : List Argument) → IsLine bytes → Opens 59 bytes → arguments_at ks n bytes ≡ Ok xs → ReadsAll bytes xs
arguments_read laws [] n bytes xs line opens e =
    subst (ReadsAll bytes) (ok_is [] xs e) (record { spells = opens; fits = tt; shorter = omega arith })
arguments_read laws (k ∷ ks) n bytes xs line opens e =
    let a = bind_ok (argument_at k n bytes) (λ x. arguments_at ks (n + 1) x.1 >>= λ others. Ok (x.0 ∷ others)) xs e in
    let b = bind_ok (arguments_at ks (n + 1) a.0.1) (λ others. Ok (a.0.0 ∷ others)) xs a.2 in
    let first = argument_reads laws k n bytes a.0.0 a.0.1 line a.1 in
    let others = arguments_read laws ks (n + 1) a.0.1 b.0 (IsLine-after laws bytes (59 ∷ first.text) a.0.1 first.parts line) first.opens b.1 in
    let len : length bytes ≡ 1 + (length first.text + length a.0.1) = ap length first.parts ∙ omega (arith, length-append first.text a.0.1) in
    let made : ReadsAll bytes (a.0.0 ∷ b.0) = record {
      spells = (first.text, a.0.1, first.parts, first.spells, first.follows, others.spells);
      fits = (first.fits, others.fits);
      shorter = (let s = first.shorter in let t = others.shorter in omega (arith, length-append (text_of a.0.0) (texts b.0)));
    } in
    subst (ReadsAll bytes) (ok_is (a.0.0 ∷ b.0) xs b.2) made
