-- A check result of a service that is spelled plainly is read as its parts.
use Rattle.std.proofs.Common.{◌≡◌, ℕ, ◌-◌, ◌<◌, ◌≤◌, List, [], ◌∷◌, ◌++◌, length, get_or, drop, Ok, refl, sym, subst, take, arith, inl, inr}
use Rattle.std.proofs.lemmas.Bool.{ne_eqb}
use Rattle.std.proofs.lemmas.List.{take_rest}
use Rattle.std.proofs.lemmas.Bool.Decides.{eqb_tells}
use Rattle.cmd_types.specs.declared.command.Command.TheVariants as commands
use Rattle.cmd_types.specs.declared.command_name.CommandName.TheVariants.{ProcessServiceCheckResult}
use Rattle.cmd_types.specs.Bytes.{Lacks, without_returns}
use Rattle.cmd_types.specs.Table.{apart, name_text, kinds, arguments_of}
use Rattle.cmd_types.specs.Digits.{number_of}
use Rattle.cmd_types.specs.Laws.{Laws}
use Rattle.cmd_lines.specs.Reading.{opened, field, name_at, number_at, code_at, rest_at, arguments_at, behind}
use Rattle.cmd_lines.proofs.Each.{field_is}
use Rattle.cmd_lines.proofs.WholeLine.{behind_is}

-- a name up to a semicolon
pub plain_name_is : (n : ℕ) (bytes name rest : List ℕ) → bytes ≡ name ++ 59 ∷ rest → Lacks 59 name → without_returns name ≡ name → 0 < length name → name_at n (59 ∷ bytes) ≡ Ok (name, 59 ∷ rest)
unfolding name_at
plain_name_is n bytes name rest parts lacks ended some =
    rw (parts, field_is n name (59 ∷ rest) lacks (inr (rest, refl)), ended, ne_eqb (length name) 0 (λ e. absurd (omega arith))) refl

-- a digit of a code
digit_is_0 : (output : List ℕ) → code_at 3 3 (59 ∷ 48 ∷ 59 ∷ output) ≡ Ok (48 - 48, 59 ∷ output)
unfolding code_at number_at field opened number_of
digit_is_0 output = refl

digit_is_1 : (output : List ℕ) → code_at 3 3 (59 ∷ 49 ∷ 59 ∷ output) ≡ Ok (49 - 48, 59 ∷ output)
unfolding code_at number_at field opened number_of
digit_is_1 output = refl

digit_is_2 : (output : List ℕ) → code_at 3 3 (59 ∷ 50 ∷ 59 ∷ output) ≡ Ok (50 - 48, 59 ∷ output)
unfolding code_at number_at field opened number_of
digit_is_2 output = refl

digit_is_3 : (output : List ℕ) → code_at 3 3 (59 ∷ 51 ∷ 59 ∷ output) ≡ Ok (51 - 48, 59 ∷ output)
unfolding code_at number_at field opened number_of
digit_is_3 output = refl

code_is : (d : ℕ) (output : List ℕ) → 48 ≤ d → d ≤ 51 → code_at 3 3 (59 ∷ d ∷ 59 ∷ output) ≡ Ok (d - 48, 59 ∷ output)
code_is d output least most =
    elim (eqb_tells d 48) [
      | inl h ↦ rw h.1 (digit_is_0 output)
      | inr h ↦ elim (eqb_tells d 49) [
        | inl i ↦ rw i.1 (digit_is_1 output)
        | inr i ↦ elim (eqb_tells d 50) [
          | inl j ↦ rw j.1 (digit_is_2 output)
          | inr j ↦ (let three : d ≡ 51 = omega (arith, h.1, i.1, j.1) in rw three (digit_is_3 output))
        ]
      ]
    ]

last_is : (output : List ℕ) → rest_at 4 (59 ∷ output) ≡ Ok (output, [])
unfolding rest_at opened
last_is output = refl

pub two_first : (xs : List ℕ) → 2 ≤ length xs → xs ≡ get_or xs 0 0 ∷ (get_or xs 1 0 ∷ take (length xs - 2) (drop 2 xs))
two_first [] few = absurd (omega arith)
two_first (x ∷ []) few = absurd (omega arith)
two_first (x ∷ (y ∷ xs)) few = rw (take_rest (x ∷ (y ∷ xs)) 2) refl

-- the whole of it
pub plain_is : Laws → (after rest host first service second output : List ℕ) (d : ℕ) → after ≡ 32 ∷ (name_text ProcessServiceCheckResult ++ 59 ∷ rest) → ((n : ℕ) → name_at n (59 ∷ rest) ≡ Ok (host, 59 ∷ first)) → ((n : ℕ) → name_at n (59 ∷ first) ≡ Ok (service, 59 ∷ second))
    → second ≡ d ∷ 59 ∷ output → 48 ≤ d → d ≤ 51 → behind after ≡ Ok (apart (commands.ProcessServiceCheckResult host service (d - 48) output))
plain_is laws after rest host first service second output d is named served coded least most =
    let code = subst (λ (xs : List ℕ). code_at 3 3 (59 ∷ xs) ≡ Ok (d - 48, 59 ∷ output)) (sym coded) (code_is d output least most) in
    let read : arguments_at (kinds ProcessServiceCheckResult) 1 (59 ∷ rest) ≡ Ok (arguments_of (commands.ProcessServiceCheckResult host service (d - 48) output)) = rw (named 1, served 2, code, last_is output) refl in
    rw is (behind_is laws ProcessServiceCheckResult (59 ∷ rest) (arguments_of (commands.ProcessServiceCheckResult host service (d - 48) output)) (inr (rest, refl)) read)
