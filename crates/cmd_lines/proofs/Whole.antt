-- What is spelled so is read.
use Rattle.std.proofs.Common.{◌≡◌, ◌≢◌, ℕ, zero, suc, ◌+◌, ◌≤◌, Bool, false, not, eqb, List, [], ◌∷◌, ◌++◌, length, replicate, Ok, refl, ap, ◌∙◌, arith, inr}
use Rattle.std.proofs.lemmas.Bool.{ne_eqb, le-leb}
use Rattle.std.proofs.lemmas.List.{append-nil}
use Rattle.cmd_types.specs.Bytes.{Lacks, without_returns, IsNumber}
use Rattle.cmd_types.specs.Kinds.{Argument, Kind, AName, AnAuthor, ARest, AFlag, ANumber, ACode, Value, argument}
use Rattle.cmd_types.specs.Spelling.{IsName, Fits, AllFit, SpellsArgument, MayFollow, SpellsArguments}
use Rattle.cmd_types.specs.Table.{Values, listed}
use Rattle.cmd_lines.specs.FirstFault.{Opens}
use Rattle.cmd_lines.specs.Reading.{number_at, name_at, rest_at, flag_at, code_at, argument_at, arguments_at}
use Rattle.cmd_lines.proofs.Each.{opened_is, field_is}
use Rattle.cmd_types.specs.Laws.{Laws}

Lacks-replicate : (b k x : ℕ) → x ≢ b → Lacks b (replicate k x)
Lacks-replicate b zero x ne = tt
Lacks-replicate b (suc k) x ne = (ne, Lacks-replicate b k x ne)

name_is : Laws → (n : ℕ) (x text after : List ℕ) → (returns : ℕ) → text ≡ x ++ replicate returns 13 → IsName x → Opens 59 after → name_at n (59 ∷ text ++ after) ≡ Ok (x, after)
unfolding name_at
name_is laws n x text after returns e fits opens =
    let lacks : Lacks 59 text = rw e (laws.lacking.join 59 x (replicate returns 13) fits.no_semicolon (Lacks-replicate 59 returns 13 (λ h. omega arith))) in
    let same : without_returns text ≡ x = ap without_returns e ∙ laws.returns.dropped x returns ∙ fits.no_return in
    let some : eqb (length x) 0 ≡ false = ne_eqb (length x) 0 (let s = fits.some in λ h. omega arith) in
    rw (field_is n text after lacks opens, same, some) refl

number_is_at : Laws → (n x : ℕ) (text after : List ℕ) → IsNumber text x → Opens 59 after → number_at n (59 ∷ text ++ after) ≡ Ok (x, after)
unfolding number_at
number_is_at laws n x text after h opens = rw (field_is n text after (laws.numbers.digits_alone 59 text x refl h) opens, laws.numbers.read text x h) refl

rest_is : (n : ℕ) (text after : List ℕ) → after ≡ [] → rest_at n (59 ∷ text ++ after) ≡ Ok (text, after)
unfolding rest_at
rest_is n text after e = rw (e, append-nil text, opened_is n text) refl

flag_is : Laws → (n : ℕ) (x : Bool) (v : ℕ) (text after : List ℕ) → IsNumber text v → x ≡ not (eqb v 0) → Opens 59 after → flag_at n (59 ∷ text ++ after) ≡ Ok (x, after)
unfolding flag_at
flag_is laws n x v text after h e opens = rw (number_is_at laws n v text after h opens, e) refl

code_is : Laws → (greatest n x : ℕ) (text after : List ℕ) → IsNumber text x → x ≤ greatest → Opens 59 after → code_at greatest n (59 ∷ text ++ after) ≡ Ok (x, after)
unfolding code_at
code_is laws greatest n x text after h le opens = rw (number_is_at laws n x text after h opens, le-leb x greatest le) refl

argument_is : Laws → (k : Kind) (x : Value k) (n : ℕ) (text after : List ℕ) → SpellsArgument (argument k x) text → Fits (argument k x) → MayFollow (argument k x) after → Opens 59 after → argument_at k n (59 ∷ text ++ after) ≡ Ok (argument k x, after)
argument_is laws (AName of) x n text after s fits f opens = rw (name_is laws n x text after s.0 s.1 fits opens) refl
argument_is laws AnAuthor x n text after s fits f opens = rw (s, field_is n x after fits.0 opens) refl
argument_is laws ARest x n text after s fits f opens = rw (s, rest_is n x after f) refl
argument_is laws AFlag x n text after s fits f opens = rw (flag_is laws n x s.0 text after s.1 s.2 opens) refl
argument_is laws ANumber x n text after s fits f opens = rw (number_is_at laws n x text after s opens) refl
argument_is laws (ACode greatest) x n text after s fits f opens = rw (code_is laws greatest n x text after s fits opens) refl

pub spells_open : (xs : List Argument) (bytes : List ℕ) → SpellsArguments xs bytes → Opens 59 bytes
spells_open [] bytes s = s
spells_open (x ∷ xs) bytes s = inr (s.0 ++ s.1, s.2)

pub arguments_are : Laws → (ks : List Kind) (n : ℕ) (bytes : List ℕ) (xs : Values ks) → SpellsArguments (listed ks xs) bytes → AllFit (listed ks xs) → arguments_at ks n bytes ≡ Ok (listed ks xs)
arguments_are laws [] n bytes xs s fits = refl
arguments_are laws (k ∷ ks) n bytes xs s fits =
    let opens = spells_open (listed ks xs.1) s.1 s.5 in
    rw (s.2, argument_is laws k xs.0 n s.0 s.1 s.3 fits.0 s.4 opens, arguments_are laws ks (n + 1) s.1 xs.1 s.5 fits.1) refl
