-- A line is read as what it spells, and spells what is read.
use Rattle.std.proofs.Common.{◌≡◌, ℕ, ◌+◌, ◌≤◌, Bool, true, false, cond, eqb, ltb, List, [], ◌∷◌, ◌++◌, length, replicate, Option, Some, None, Result, Ok, Err, refl, sym, ap, subst, ◌∙◌, arith, inl, inr, append_assoc, length-append}
use Rattle.std.specs.Prelude.{IfOk}
use Rattle.std.specs.Fmt.{decimal}
use Rattle.std.proofs.lemmas.Bool.{eqb-true, le-ltb, ltb-false}
use Rattle.std.proofs.lemmas.List.{length-replicate}
use Rattle.cmd_types.specs.declared.command_name.CommandName.{CommandName}
use Rattle.cmd_types.specs.Bytes.{IsNumber}
use Rattle.cmd_types.specs.Kinds.{Argument}
use Rattle.cmd_types.specs.Names.{name_from}
use Rattle.cmd_types.specs.declared.command.Command.{Command}
use Rattle.cmd_types.specs.Table.{Apart, apart, name_text, kinds, name_of, arguments_of}
use Rattle.cmd_types.specs.Spelling.{Timed, texts, Spells}
use Rattle.cmd_types.specs.Digits.{number_of}
use Rattle.cmd_types.specs.Cuts.{before}
use Rattle.cmd_types.specs.declared.limits.TheConstants.{LONGEST_LINE}
use Rattle.cmd_lines.specs.FirstFault.{Opens}
use Rattle.cmd_lines.specs.Leading.{LeadsTo}
use Rattle.cmd_lines.specs.declared.fault.LineFault.{LineFault}
use Rattle.cmd_lines.specs.declared.fault.LineFault.TheVariants.{TooLong, NoBracket, BadTime, NoSpace, UnknownCommand}
use Rattle.cmd_lines.specs.Reading.{◌>>=◌, IsWhy, some_or, from, without_spaces, closed, time_at, stamp_at, spaced, arguments_at, named_at, behind, FitsBehind, Copies, Parts, parts, reading}
use Rattle.cmd_lines.proofs.Pieces.{before_from, before_is, from_is, from_opens, spaces_is, spaces_split}
use Rattle.cmd_lines.proofs.Each.{bind_ok, guard_ok, test_ok, some_ok, ok_is}
use Rattle.cmd_lines.proofs.Sound.{IsLine, IsLine-after, ReadsAll, arguments_read}
use Rattle.cmd_lines.proofs.Whole.{spells_open, arguments_are}
use Rattle.cmd_types.specs.Laws.{Laws}

-- ---- what is spelled is read

closed_is : Laws → (text after : List ℕ) (time : ℕ) → IsNumber text time → closed text (93 ∷ after) ≡ Ok (time, after)
unfolding closed
closed_is laws text after time h = rw (laws.numbers.read text time h) refl

pub time_is : Laws → (text after : List ℕ) (time : ℕ) → IsNumber text time → time_at (91 ∷ (text ++ (93 ∷ after))) ≡ Ok (time, after)
unfolding time_at
time_is laws text after time h =
    let lacks = laws.numbers.digits_alone 93 text time refl h in
    rw (before_is 93 text (93 ∷ after) lacks (inr (after, refl)), from_is 93 text (93 ∷ after) lacks (inr (after, refl)), closed_is laws text after time h) refl

pub time_leads : Laws → (line bytes after : List ℕ) (time : ℕ) → line ≡ 91 ∷ bytes → LeadsTo 93 bytes time after → time_at line ≡ Ok (time, after)
time_leads laws line bytes after time parts h = ap time_at (parts ∙ ap (λ (xs : List ℕ). 91 ∷ xs) h.parts) ∙ time_is laws h.text after time h.number

no_number : Laws → (text after : List ℕ) (o : Option ℕ) → o ≡ number_of text → ((time : ℕ) → IsNumber text time → ⊥) → ◌>>=◌ {B = ℕ × List ℕ} (some_or BadTime o) (λ n. Ok (n, after)) ≡ Err BadTime
no_number laws text after None e none = refl
no_number laws text after (Some n) e none = absurd (none n (laws.numbers.spelled text n (sym e)))

not_closed : Laws → (text back : List ℕ) → Opens 93 back → ((after : List ℕ) (time : ℕ) → LeadsTo 93 (text ++ back) time after → ⊥) → closed text back ≡ Err BadTime
unfolding closed
not_closed laws text [] opens none = refl
not_closed laws text (x ∷ back) (inl e) none = absurd cc
not_closed laws text (x ∷ back) (inr (more, e)) none =
    let bracket : x ≡ 93 = cc in
    no_number laws text back (number_of text) refl (λ time number. none back time (record { text = text; parts = ap (λ (b : ℕ). text ++ b ∷ back) bracket; number = number }))

pub no_time_leads : Laws → (line bytes : List ℕ) → line ≡ 91 ∷ bytes → ((time : ℕ) (after : List ℕ) → LeadsTo 93 bytes time after → ⊥) → time_at line ≡ Err BadTime
unfolding time_at
no_time_leads laws line bytes parts none =
    rw parts (not_closed laws (before 93 bytes) (from 93 bytes) (from_opens 93 bytes) (λ after time h. none time after (subst (λ (xs : List ℕ). LeadsTo 93 xs time after) (sym (before_from 93 bytes)) h)))

spaced_is : Laws → (n : ℕ) (name : CommandName) (tail : List ℕ) → spaced (32 ∷ (replicate n 32 ++ (name_text name ++ tail))) ≡ Ok (name_text name ++ tail)
unfolding spaced
spaced_is laws n name tail =
    let f = laws.names.first name in
    rw f.2 (rw (spaces_is n f.0 (f.1 ++ tail) f.3) refl)

pub reading_is : Laws → (line : List ℕ) (t : Timed) → Spells line t → reading line ≡ Ok (parts t)
unfolding reading
reading_is laws line t s =
    let n = name_of t.command in
    let short : ltb LONGEST_LINE (length line) ≡ false = le-ltb LONGEST_LINE (length line) s.short in
    let regrouped : line ≡ 91 ∷ (s.time_text ++ (93 ∷ 32 ∷ (replicate s.spaces 32 ++ (name_text n ++ s.tail)))) = s.parts ∙ simp append_assoc in
    let time : time_at line ≡ Ok (t.time, 32 ∷ (replicate s.spaces 32 ++ (name_text n ++ s.tail))) = rw regrouped (time_is laws s.time_text (32 ∷ (replicate s.spaces 32 ++ (name_text n ++ s.tail))) t.time s.spells_time) in
    let opens = spells_open (arguments_of t.command) s.tail s.spells_arguments in
    let v = laws.commands.values t.command in
    let arguments : arguments_at (kinds n) 1 s.tail ≡ Ok (arguments_of t.command) = subst (λ (xs : List Argument). arguments_at (kinds n) 1 s.tail ≡ Ok xs) (sym v.are) (arguments_are laws (kinds n) 1 s.tail v.xs (rw (← v.are) s.spells_arguments) (rw (← v.are) s.well_formed.arguments)) in
    rw (short, time, spaced_is laws s.spaces n s.tail, before_is 59 (name_text n) s.tail (laws.names.no_semicolon n) opens, laws.names.found n, from_is 59 (name_text n) s.tail (laws.names.no_semicolon n) opens, arguments) refl

-- what stands behind a time is read as a name and arguments
named_is : Laws → (n : CommandName) (tail : List ℕ) → Opens 59 tail → named_at (32 ∷ (name_text n ++ tail)) ≡ Ok (n, tail)
unfolding named_at
named_is laws n tail opens =
    let lacks = laws.names.no_semicolon n in
    rw (spaced_is laws 0 n tail, before_is 59 (name_text n) tail lacks opens, laws.names.found n, from_is 59 (name_text n) tail lacks opens) refl

pub read_behind : (after tail : List ℕ) (n : CommandName) (xs : List Argument) → named_at after ≡ Ok (n, tail) → arguments_at (kinds n) 1 tail ≡ Ok xs → behind after ≡ Ok (record { name = n; arguments = xs })
unfolding behind
read_behind after tail n xs named read = rw (named, read) refl

pub behind_is : Laws → (n : CommandName) (tail : List ℕ) (xs : List Argument) → Opens 59 tail → arguments_at (kinds n) 1 tail ≡ Ok xs → behind (32 ∷ (name_text n ++ tail)) ≡ Ok (record { name = n; arguments = xs })
behind_is laws n tail xs opens read = read_behind (32 ∷ (name_text n ++ tail)) tail n xs (named_is laws n tail opens) read

-- it has no command for the same reason as its arguments, where all before them is read
why_named : (e : LineFault) (n : CommandName) (r : Result (List Argument) LineFault) → IsWhy e r → IsWhy {Y = Apart} e (r >>= λ xs. Ok (record { name = n; arguments = xs }))
why_named e n (Ok xs) why = why
why_named e n (Err f) why = why

pub why_behind : (after tail : List ℕ) (n : CommandName) (e : LineFault) → named_at after ≡ Ok (n, tail) → IsWhy e (arguments_at (kinds n) 1 tail) → IsWhy e (behind after)
unfolding behind
why_behind after tail n e named why = rw named (why_named e n (arguments_at (kinds n) 1 tail) why)

-- ---- a line is read as its time and what stands behind it

abbrev with_time : ℕ → Apart → Result Parts LineFault
with_time time a = Ok (record { time = time; name = a.name; arguments = a.arguments })

then_time : (time : ℕ) (n : CommandName) (r : Result (List Argument) LineFault) → (r >>= λ xs. Ok (record { time = time; name = n; arguments = xs })) ≡ (◌>>=◌ {B = Apart} r (λ xs. Ok (record { name = n; arguments = xs })) >>= with_time time)
then_time time n (Ok xs) = refl
then_time time n (Err e) = refl

abbrev from_name : ℕ → List ℕ → CommandName → Result Parts LineFault
from_name time bytes n = arguments_at (kinds n) 1 (from 59 bytes) >>= λ xs. Ok (record { time = time; name = n; arguments = xs })

abbrev from_bytes : ℕ → List ℕ → Result Parts LineFault
from_bytes time bytes = some_or UnknownCommand (name_from (before 59 bytes)) >>= from_name time bytes

abbrev named_from : CommandName × List ℕ → Result Apart LineFault
named_from n = arguments_at (kinds n.0) 1 n.1 >>= λ xs. Ok (record { name = n.0; arguments = xs })

abbrev name_at_front : List ℕ → Result (CommandName × List ℕ) LineFault
name_at_front bytes = some_or UnknownCommand (name_from (before 59 bytes)) >>= λ n. Ok (n, from 59 bytes)

then_named : (time : ℕ) (bytes : List ℕ) (o : Option CommandName) → (some_or UnknownCommand o >>= from_name time bytes) ≡ ((◌>>=◌ {B = CommandName × List ℕ} (some_or UnknownCommand o) (λ n. Ok (n, from 59 bytes)) >>= named_from) >>= with_time time)
then_named time bytes None = refl
then_named time bytes (Some n) = then_time time n (arguments_at (kinds n) 1 (from 59 bytes))

then_spaced : (time : ℕ) (r : Result (List ℕ) LineFault) → (r >>= from_bytes time) ≡ (((r >>= name_at_front) >>= named_from) >>= with_time time)
then_spaced time (Ok bytes) = then_named time bytes (name_from (before 59 bytes))
then_spaced time (Err e) = refl

abbrev behind_from : ℕ × List ℕ → Result Parts LineFault
behind_from t = ((spaced t.1 >>= name_at_front) >>= named_from) >>= with_time t.0

then_stamped : (long : Bool) (r : Result (ℕ × List ℕ) LineFault) → cond long (Err TooLong) (r >>= λ t. spaced t.1 >>= from_bytes t.0) ≡ (cond long (Err TooLong) r >>= behind_from)
then_stamped true r = refl
then_stamped false (Ok t) = then_spaced t.0 (spaced t.1)
then_stamped false (Err e) = refl

reading_is_behind : (line : List ℕ) → reading line ≡ (stamp_at line >>= λ t. behind t.1 >>= with_time t.0)
unfolding reading behind named_at stamp_at
reading_is_behind line = then_stamped (ltb LONGEST_LINE (length line)) (time_at line)

reading_behind : (line after : List ℕ) (time : ℕ) → stamp_at line ≡ Ok (time, after) → reading line ≡ (behind after >>= with_time time)
reading_behind line after time stamped = reading_is_behind line ∙ rw stamped refl

pub no_stamp : (line : List ℕ) (e : LineFault) → stamp_at line ≡ Err e → reading line ≡ Err e
no_stamp line e stamped = reading_is_behind line ∙ rw stamped refl

why_timed : (e : LineFault) (time : ℕ) (r : Result Apart LineFault) → IsWhy e r → IsWhy e (r >>= with_time time)
why_timed e time (Ok a) why = why
why_timed e time (Err f) why = why

pub why_line : (line after : List ℕ) (time : ℕ) (e : LineFault) → stamp_at line ≡ Ok (time, after) → IsWhy e (behind after) → IsWhy e (reading line)
why_line line after time e stamped why = rw (reading_behind line after time stamped) (why_timed e time (behind after) why)

pub read_whole : (line after : List ℕ) (time : ℕ) (c : Command) → stamp_at line ≡ Ok (time, after) → behind after ≡ Ok (apart c) → reading line ≡ Ok (parts (record { time = time; command = c }))
read_whole line after time c stamped read = rw (reading_behind line after time stamped, read) refl

-- ---- what is read is spelled

closed_ok : Laws → (text bytes after : List ℕ) (time : ℕ) → Opens 93 bytes → closed text bytes ≡ Ok (time, after) → (bytes ≡ 93 ∷ after) × IsNumber text time
unfolding closed
closed_ok laws text [] after time opens e = absurd cc
closed_ok laws text (b ∷ bytes) after time opens e =
    let s = bind_ok (some_or BadTime (number_of text)) (λ n. Ok (n, bytes)) (time, after) e in
    let same = ok_is (s.0, bytes) (time, after) s.2 in
    let number = laws.numbers.spelled text s.0 (some_ok BadTime (number_of text) s.0 s.1) in (
      elim opens [ inl h ↦ absurd cc | inr h ↦ (let back : bytes ≡ after = ap (λ (p : ℕ × List ℕ). p.1) same in let head = h.1 in let first : b ≡ 93 = cc in rw (first, back) refl) ],
      subst (IsNumber text) (ap (λ (p : ℕ × List ℕ). p.0) same) number,
    )

-- the time in front of a line
pub record TakesTime (line : List ℕ) (time : ℕ) (after : List ℕ) : Type 0 where
  pub text : List ℕ
  pub parts : line ≡ 91 ∷ (text ++ (93 ∷ after))
  pub number : IsNumber text time

pub time_ok : Laws → (line after : List ℕ) (time : ℕ) → time_at line ≡ Ok (time, after) → TakesTime line time after
unfolding time_at
time_ok laws [] after time e = absurd cc
time_ok laws (x ∷ bytes) after time e =
    let t = test_ok (eqb x 91) NoBracket (closed (before 93 bytes) (from 93 bytes)) (time, after) e in
    let c = closed_ok laws (before 93 bytes) (from 93 bytes) after time (from_opens 93 bytes) t.1 in
    let first : x ≡ 91 = eqb-true _ _ t.0 in
    record {
      text = before 93 bytes;
      parts = ap (λ (b : ℕ). b ∷ bytes) first ∙ ap (λ (r : List ℕ). 91 ∷ r) (before_from 93 bytes) ∙ ap (λ (r : List ℕ). 91 ∷ (before 93 bytes ++ r)) c.0;
      number = c.1;
    }

pub spaced_ok : (bytes after : List ℕ) → spaced bytes ≡ Ok after → (n : ℕ) × (bytes ≡ 32 ∷ (replicate n 32 ++ after))
unfolding spaced
spaced_ok [] after e = absurd cc
spaced_ok (x ∷ bytes) after e =
    let t = test_ok (eqb x 32) NoSpace (Ok (without_spaces bytes)) after e in
    let same = ok_is (without_spaces bytes) after t.1 in
    let s = spaces_split bytes in
    let first : x ≡ 32 = eqb-true _ _ t.0 in
    (s.0, ap (λ (b : ℕ). b ∷ bytes) first ∙ ap (λ (r : List ℕ). 32 ∷ r) s.1 ∙ ap (λ (r : List ℕ). 32 ∷ (replicate s.0 32 ++ r)) same)

-- what follows the time, the spaces and the name of a line

abbrev from_time : ℕ × List ℕ → Result Parts LineFault
from_time t = spaced t.1 >>= from_bytes t.0

-- what the steps behind the spaces gave
record IsNamed (time : ℕ) (bytes : List ℕ) (p : Parts) : Type 0 where
  time_is : time ≡ p.time
  named : name_from (before 59 bytes) ≡ Some p.name
  read : arguments_at (kinds p.name) 1 (from 59 bytes) ≡ Ok p.arguments

named_by : (time : ℕ) (bytes : List ℕ) (n : CommandName) (xs : List Argument) (p : Parts) → name_from (before 59 bytes) ≡ Some n → arguments_at (kinds n) 1 (from 59 bytes) ≡ Ok xs → record { time = time; name = n; arguments = xs } ≡ p → IsNamed time bytes p
named_by time bytes n xs p named read same = subst (IsNamed time bytes) same (record { time_is = refl; named = named; read = read })

named_ok : (time : ℕ) (bytes : List ℕ) (p : Parts) → from_bytes time bytes ≡ Ok p → IsNamed time bytes p
named_ok time bytes p e =
    let c = bind_ok (some_or UnknownCommand (name_from (before 59 bytes))) (from_name time bytes) p e in
    let d = bind_ok (arguments_at (kinds c.0) 1 (from 59 bytes)) (λ xs. Ok (record { time = time; name = c.0; arguments = xs })) p c.2 in
    named_by time bytes c.0 d.0 p (some_ok UnknownCommand (name_from (before 59 bytes)) c.0 c.1) d.1 (ok_is (record { time = time; name = c.0; arguments = d.0 }) p d.2)

-- what each step of a line gave
pub record IsRead (line : List ℕ) (p : Parts) : Type 0 where
  pub after : List ℕ
  pub bytes : List ℕ
  pub short : length line ≤ LONGEST_LINE
  pub timed : time_at line ≡ Ok (p.time, after)
  pub opened : spaced after ≡ Ok bytes
  pub named : name_from (before 59 bytes) ≡ Some p.name
  pub read : arguments_at (kinds p.name) 1 (from 59 bytes) ≡ Ok p.arguments

read_by : (line : List ℕ) (time : ℕ) (after bytes : List ℕ) (p : Parts) → length line ≤ LONGEST_LINE → time_at line ≡ Ok (time, after) → spaced after ≡ Ok bytes → IsNamed time bytes p → IsRead line p
read_by line time after bytes p short timed opened n = record {
  after = after;
  bytes = bytes;
  short = short;
  timed = subst (λ (x : ℕ). time_at line ≡ Ok (x, after)) n.time_is timed;
  opened = opened;
  named = n.named;
  read = n.read;
}

pub read_ok : (line : List ℕ) (p : Parts) → reading line ≡ Ok p → IsRead line p
unfolding reading
read_ok line p e =
    let g = guard_ok (ltb LONGEST_LINE (length line)) TooLong (time_at line >>= from_time) p e in
    let a = bind_ok (time_at line) from_time p g.1 in
    let b = bind_ok (spaced a.0.1) (from_bytes a.0.0) p a.2 in
    read_by line a.0.0 a.0.1 b.0 p (ltb-false _ _ g.0) a.1 b.1 (named_ok a.0.0 b.0 p b.2)

-- the parts of a line, put together again
whole_line : (line time_text after bytes name tail : List ℕ) (spaces : ℕ) → line ≡ 91 ∷ (time_text ++ (93 ∷ after)) → after ≡ 32 ∷ (replicate spaces 32 ++ bytes) → bytes ≡ name ++ tail
    → line ≡ 91 ∷ time_text ++ 93 ∷ 32 ∷ replicate spaces 32 ++ name ++ tail
whole_line line time_text after bytes name tail spaces parts opened named =
    let regrouped : line ≡ 91 ∷ (time_text ++ (93 ∷ 32 ∷ (replicate spaces 32 ++ (name ++ tail)))) = rw (parts, opened, named) refl in
    regrouped ∙ simp append_assoc

-- what stands in a line is no longer with a shorter time, no spaces and shorter arguments
pub shorter_line : (line time_text text name tail rest : List ℕ) (spaces : ℕ) → line ≡ 91 ∷ time_text ++ 93 ∷ 32 ∷ replicate spaces 32 ++ name ++ tail → length text ≤ length time_text → length rest ≤ length tail
    → length (91 ∷ text ++ 93 ∷ 32 ∷ name ++ rest) ≤ length line
shorter_line line time_text text name tail rest spaces parts time arguments =
    let len : length line ≡ 1 + (length time_text + (2 + (spaces + (length name + length tail)))) = ap length parts ∙ simp (length-append, length-replicate) (omega arith) in
    let shorter_len : length (91 ∷ text ++ 93 ∷ 32 ∷ name ++ rest) ≡ 1 + (length text + (2 + (length name + length rest))) = simp length-append (omega arith) in
    omega (arith, len, shorter_len, time, arguments)

spelled_by : Laws → (line time_text tail : List ℕ) (spaces : ℕ) (t : Timed) → length line ≤ LONGEST_LINE → line ≡ 91 ∷ time_text ++ 93 ∷ 32 ∷ replicate spaces 32 ++ name_text (name_of t.command) ++ tail → IsNumber time_text t.time
    → ReadsAll tail (arguments_of t.command) → Spells line t
spelled_by laws line time_text tail spaces t short parts number reads =
    let shorter = shorter_line line time_text (decimal t.time) (name_text (name_of t.command)) tail (texts (arguments_of t.command)) spaces parts (laws.numbers.shortest time_text t.time number) reads.shorter in
    record {
      short = short;
      well_formed = record { time = number.small; arguments = reads.fits; short = omega arith };
      time_text = time_text;
      spaces = spaces;
      tail = tail;
      parts = parts;
      spells_time = number;
      spells_arguments = reads.spells;
    }

spells_from : Laws → (line time_text after bytes : List ℕ) (spaces : ℕ) (t : Timed) → IsLine line → length line ≤ LONGEST_LINE → line ≡ 91 ∷ (time_text ++ (93 ∷ after)) → IsNumber time_text t.time → after ≡ 32 ∷ (replicate spaces 32 ++ bytes)
    → name_text (name_of t.command) ≡ before 59 bytes → arguments_at (kinds (name_of t.command)) 1 (from 59 bytes) ≡ Ok (arguments_of t.command) → Spells line t
spells_from laws line time_text after bytes spaces t is_line short parts number opened name read =
    let n = name_text (name_of t.command) in
    let rest : bytes ≡ n ++ from 59 bytes = before_from 59 bytes ∙ ap (λ (r : List ℕ). r ++ from 59 bytes) (sym name) in
    let whole = whole_line line time_text after bytes n (from 59 bytes) spaces parts opened rest in
    let tail_line = IsLine-after laws line (91 ∷ time_text ++ 93 ∷ 32 ∷ replicate spaces 32 ++ n) (from 59 bytes) whole is_line in
    spelled_by laws line time_text (from 59 bytes) spaces t short whole number (arguments_read laws (kinds (name_of t.command)) 1 (from 59 bytes) (arguments_of t.command) tail_line (from_opens 59 bytes) read)

pub reading_spells : Laws → (line : List ℕ) (t : Timed) → IsLine line → reading line ≡ Ok (parts t) → Spells line t
reading_spells laws line t is_line e =
    let r = read_ok line (parts t) e in
    let time = time_ok laws line r.after t.time r.timed in
    let spaces = spaced_ok r.after r.bytes r.opened in
    spells_from laws line time.text r.after r.bytes spaces.0 t is_line r.short time.parts time.number spaces.1 (laws.names.spelled (before 59 r.bytes) (name_of t.command) r.named) r.read

-- a command behind the time of a line is well formed with it
pub fits_behind : Laws → (line after : List ℕ) (time : ℕ) → IsLine line → stamp_at line ≡ Ok (time, after) → FitsBehind time after
fits_behind laws line after time is_line stamped = λ c read. (reading_spells laws line (record { time = time; command = c }) is_line (read_whole line after time c stamped read)).well_formed

-- a line is read as what stands behind its time
pub line_is : (line after : List ℕ) (time : ℕ) (r : Result Timed LineFault) → stamp_at line ≡ Ok (time, after) → Copies (λ t. apart t.command) r (behind after) → IfOk r (λ t. t.time ≡ time) → Copies (λ t. parts t) r (reading line)
line_is line after time (Ok t) stamped read is = rw is (read_whole line after time t.command stamped read)
line_is line after time (Err e) stamped why is = why_line line after time e stamped why
