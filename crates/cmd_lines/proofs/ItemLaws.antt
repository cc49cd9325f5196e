-- What the definitions of lines and items say.
use Rattle.std.proofs.Common.{◌≡◌, ℕ, ◌+◌, List, [], ◌∷◌, ◌⊎◌, inl, inr, Result, Ok, Err, refl, sym, ap, subst, ◌∙◌}
use Rattle.cmd_types.specs.declared.command_name.CommandName.{CommandName}
use Rattle.cmd_types.specs.Kinds.{Argument, Name, Author, Rest, Flag, Number, Code, Kind, AName, AnAuthor, ARest, AFlag, ANumber, ACode, Value, argument}
use Rattle.cmd_types.specs.Table.{build, kinds, name_of, arguments_of}
use Rattle.cmd_types.specs.Spelling.{Timed, Spells}
use Rattle.cmd_lines.specs.declared.fault.LineFault.{LineFault}
use Rattle.cmd_lines.specs.declared.item.Item.TheVariants as item
use Rattle.cmd_lines.specs.Reading.{◌>>=◌, from, field, name_at, rest_at, number_at, flag_at, code_at, argument_at, arguments_at, Parts, parts, reading}
use Rattle.cmd_lines.specs.Items.{item_of}
use Rattle.cmd_lines.proofs.Each.{bind_ok, ok_is}
use Rattle.cmd_lines.proofs.Sound.{IsLine}
use Rattle.cmd_lines.proofs.WholeLine.{read_ok, reading_spells}
use Rattle.cmd_lines.specs.FirstFault.{IsFirstFault}
use Rattle.cmd_lines.proofs.FaultLaws.{first_fault}
use Rattle.cmd_lines.proofs.StandLaws.{item_spelled, item_refused}
use Rattle.cmd_types.specs.Laws.{Laws, AreValues}

-- ---- items: what is read has values of the table's kinds

record IsValue (k : Kind) (a : Argument) : Type 0 where
  x : Value k
  is : a ≡ argument k x

one_value : {A : Type 0} (k : Kind) (wrap : A → Argument) (r : Result (A × List ℕ) LineFault) (a : Argument) (after : List ℕ) → ((x : A) → IsValue k (wrap x)) → ◌>>=◌ {B = Argument × List ℕ} r (λ x. Ok (wrap x.0, x.1)) ≡ Ok (a, after) → IsValue k a
one_value k wrap r a after values e =
    let b = bind_ok r (λ x. Ok (wrap x.0, x.1)) (a, after) e in
    subst (λ (p : Argument × List ℕ). IsValue k p.0) (ok_is (wrap b.0.0, b.0.1) (a, after) b.2) (values b.0.0)

value_is : (k : Kind) (n : ℕ) (bytes : List ℕ) (a : Argument) (after : List ℕ) → argument_at k n bytes ≡ Ok (a, after) → IsValue k a
value_is (AName of) n bytes a after e = one_value (AName of) (Name of) (name_at n bytes) a after (λ x. record { x = x; is = refl }) e
value_is AnAuthor n bytes a after e = one_value AnAuthor Author (field n bytes) a after (λ x. record { x = x; is = refl }) e
value_is ARest n bytes a after e = one_value ARest Rest (rest_at n bytes) a after (λ x. record { x = x; is = refl }) e
value_is AFlag n bytes a after e = one_value AFlag Flag (flag_at n bytes) a after (λ x. record { x = x; is = refl }) e
value_is ANumber n bytes a after e = one_value ANumber Number (number_at n bytes) a after (λ x. record { x = x; is = refl }) e
value_is (ACode greatest) n bytes a after e = one_value (ACode greatest) (Code greatest) (code_at greatest n bytes) a after (λ x. record { x = x; is = refl }) e

values_are : (ks : List Kind) (n : ℕ) (bytes : List ℕ) (xs : List Argument) → arguments_at ks n bytes ≡ Ok xs → AreValues ks xs
values_are [] n bytes xs e = record { xs = tt; are = sym (ok_is [] xs e) }
values_are (k ∷ ks) n bytes xs e =
    let a = bind_ok (argument_at k n bytes) (λ x. arguments_at ks (n + 1) x.1 >>= λ others. Ok (x.0 ∷ others)) xs e in
    let b = bind_ok (arguments_at ks (n + 1) a.0.1) (λ others. Ok (a.0.0 ∷ others)) xs a.2 in
    let first = value_is k n bytes a.0.0 a.0.1 a.1 in
    let others = values_are ks (n + 1) a.0.1 b.0 b.1 in
    record { xs = (first.x, others.xs); are = sym (ok_is (a.0.0 ∷ b.0) xs b.2) ∙ ap (λ (y : Argument). y ∷ b.0) first.is ∙ ap (λ (r : List Argument). argument k first.x ∷ r) others.are }

-- the command of what is read
record IsRead (p : Parts) : Type 0 where
  t : Timed
  is : p ≡ parts t

abbrev parts_by : ℕ → CommandName → List Argument → Parts
parts_by time name arguments = record { time = time; name = name; arguments = arguments }

read_by : Laws → (p : Parts) (after : List ℕ) → arguments_at (kinds p.name) 1 after ≡ Ok p.arguments → IsRead p
read_by laws p after read =
    let v = values_are (kinds p.name) 1 after p.arguments read in
    let made : Timed = record { time = p.time; command = build p.name v.xs } in
    let name : p.name ≡ name_of made.command = sym (laws.commands.name p.name v.xs) in
    let arguments : p.arguments ≡ arguments_of made.command = v.are ∙ sym (laws.commands.arguments p.name v.xs) in
    record {
      t = made;
      is = ap (λ (n : CommandName). parts_by p.time n p.arguments) name ∙ ap (parts_by p.time (name_of made.command)) arguments;
    }

read_is : Laws → (line : List ℕ) (p : Parts) → reading line ≡ Ok p → IsRead p
read_is laws line p e = let r = read_ok line p e in read_by laws p (from 59 r.bytes) r.read

abbrev done : Parts → Result Parts LineFault
done p = Ok p

-- a line that is read spells a command
pub read_spells : Laws → (line : List ℕ) (p : Parts) → IsLine line → reading line ≡ Ok p → (t : Timed) × Spells line t
read_spells laws line p is_line e = let r = read_is laws line p e in (r.t, reading_spells laws line r.t is_line (e ∙ ap done r.is))

-- the item of a line is the command that it spells, or else the first test that it fails
pub item_exact : Laws → (n : ℕ) (line : List ℕ) → IsLine line → ((t : Timed) × Spells line t × (item_of n line ≡ item.Command t)) ⊎ ((f : LineFault) × IsFirstFault line f × (item_of n line ≡ item.Refused n f))
item_exact laws n line is_line = by_reading (reading line) refl
  where
    by_reading : (r : Result Parts LineFault) → reading line ≡ r → ((t : Timed) × Spells line t × (item_of n line ≡ item.Command t)) ⊎ ((f : LineFault) × IsFirstFault line f × (item_of n line ≡ item.Refused n f))
    by_reading (Err f) e = inr (f, first_fault laws line f e, item_refused n line f e)
    by_reading (Ok p) e = let s = read_spells laws line p is_line e in inl (s.0, s.1, item_spelled laws n line s.0 s.1)
