-- What grew and grows on has grown, and what is put one behind the other.
use Rattle.std.proofs.Common.{◌≡◌, ℕ, ◌≤◌, ◌+◌, List, [], ◌∷◌, ◌++◌, length, take, sym, ap, ◌∙◌, append_assoc, length-take, length-append, arith}
use Rattle.std.proofs.Math.Seq.{take-append_seam}
use Rattle.std.proofs.lemmas.List.{take-append-le, take-take}
use Rattle.std.specs.Prelude.{Result, Ok, Err, OnOk, is_ok, if◌then◌else◌}
use Rattle.cmd_types.specs.Growth.{Grows}

grown_length : (old new : List ℕ) → Grows old new → length old ≤ length new
grown_length old new grown = omega (arith, ap length grown, length-take (length old) new)

pub grown_more : (old new more : List ℕ) → Grows old new → Grows old (new ++ more)
grown_more old new more grown = take-append-le (length old) new more (grown_length old new grown) ∙ grown

pub grows_on : (a b c : List ℕ) → Grows a b → Grows b c → Grows a c
grows_on a b c first second = sym (take-take (length a) (length b) c (grown_length a b first)) ∙ ap (take (length a)) second ∙ first

-- what was begun, and a last step that appends more or changes nothing
pub ended : {T E : Type 0} (r : Result T E) (out begun old more new : List ℕ) → old ≡ out ++ begun → new ≡ (if is_ok r then old ++ more else old) → OnOk r (new ≡ out ++ begun ++ more) × Grows out new
ended (Ok _) out begun old more new was is = (is ∙ ap (λ (t : List ℕ). t ++ more) was, rw (is, was) (grown_more _ _ _ (take-append_seam out begun)))
ended (Err _) out begun old more new was is = (tt, rw (is, was) (take-append_seam out begun))

-- the parts of a line, put one behind the other
pub line_is : (out time name values : List ℕ) → out ++ 91 ∷ time ++ 93 ∷ 32 ∷ [] ++ name ++ values ++ 10 ∷ [] ≡ out ++ (91 ∷ time ++ 93 ∷ 32 ∷ name ++ values) ++ 10 ∷ []
line_is out time name values =
    let head : List ℕ = 91 ∷ time in
    let space : List ℕ = 93 ∷ 32 ∷ [] in
    let named : out ++ head ++ space ++ name ≡ out ++ (head ++ (space ++ name)) =
    ap (λ (t : List ℕ). t ++ name) (append_assoc out head space) ∙ append_assoc out (head ++ space) name ∙ ap (λ (t : List ℕ). out ++ t) (append_assoc head space name) in
    ap (λ (t : List ℕ). t ++ 10 ∷ []) (ap (λ (t : List ℕ). t ++ values) named ∙ append_assoc out (head ++ (space ++ name)) values)

-- how long a line is
pub length_line : (time name values : List ℕ) → length (91 ∷ time ++ 93 ∷ 32 ∷ name ++ values) ≡ 3 + length time + length name + length values
length_line time name values = omega (arith, length-append (91 ∷ time ++ 93 ∷ 32 ∷ name) values, length-append (91 ∷ time) (93 ∷ 32 ∷ name))
