-- Steps of reading, taken apart.
use Rattle.std.proofs.Common.{◌≡◌, ℕ, Bool, true, false, cond, eqb, List, [], ◌∷◌, ◌++◌, Option, Some, None, Result, Ok, Err, refl, ap, subst, ◌∙◌}
use Rattle.std.proofs.lemmas.Bool.{eqb-true}
use Rattle.cmd_types.specs.Bytes.{Lacks}
use Rattle.cmd_types.specs.Cuts.{before}
use Rattle.cmd_lines.specs.declared.fault.LineFault.{LineFault}
use Rattle.cmd_lines.specs.declared.fault.LineFault.TheVariants.{Missing}
use Rattle.cmd_lines.specs.FirstFault.{Opens, Takes}
use Rattle.cmd_lines.specs.Reading.{◌>>=◌, some_or, opened, field, from}
use Rattle.cmd_lines.proofs.Pieces.{before_from, from_opens, before_is, from_is}
use Rattle.cmd_types.specs.Laws.{Laws}

-- the value of a step that did not fail
pub bind_ok : {A B : Type 0} (r : Result A LineFault) (f : A → Result B LineFault) (y : B) → (r >>= f) ≡ Ok y → (x : A) × (r ≡ Ok x) × (f x ≡ Ok y)
bind_ok (Ok x) f y e = (x, refl, e)
bind_ok (Err d) f y e = absurd cc

-- a test that did not fail
pub guard_ok : {A : Type 0} (b : Bool) (d : LineFault) (r : Result A LineFault) (y : A) → cond b (Err d) r ≡ Ok y → (b ≡ false) × (r ≡ Ok y)
guard_ok true d r y e = absurd cc
guard_ok false d r y e = (refl, e)

pub test_ok : {A : Type 0} (b : Bool) (d : LineFault) (r : Result A LineFault) (y : A) → cond b r (Err d) ≡ Ok y → (b ≡ true) × (r ≡ Ok y)
test_ok true d r y e = (refl, e)
test_ok false d r y e = absurd cc

pub some_ok : {A : Type 0} (d : LineFault) (o : Option A) (y : A) → some_or d o ≡ Ok y → o ≡ Some y
some_ok d None y e = absurd cc
some_ok d (Some x) y e = let same : x ≡ y = cc in ap Some same

abbrev done : {A : Type 0} → A → Result A LineFault
done x = Ok x

pub ok_is : {A : Type 0} (x y : A) → done x ≡ done y → x ≡ y
ok_is x y e = cc

pub opened_ok : (n : ℕ) (bytes text : List ℕ) → opened n bytes ≡ Ok text → bytes ≡ 59 ∷ text
unfolding opened
opened_ok n [] text e = absurd cc
opened_ok n (x ∷ bytes) text e =
    let t = test_ok (eqb x 59) (Missing n) (Ok bytes) text e in
    let same = ok_is bytes text t.1 in
    rw (eqb-true _ _ t.0, same) refl

pub opened_is : (n : ℕ) (text : List ℕ) → opened n (59 ∷ text) ≡ Ok text
unfolding opened
opened_is n text = refl

pub field_ok : Laws → (n : ℕ) (bytes text after : List ℕ) → field n bytes ≡ Ok (text, after) → Takes bytes text after
unfolding field
field_ok laws n bytes text after e =
    let b = bind_ok (opened n bytes) (λ t. Ok (before 59 t, from 59 t)) (text, after) e in
    let same = ok_is (before 59 b.0, from 59 b.0) (text, after) b.2 in
    let made : Takes bytes (before 59 b.0) (from 59 b.0) = record {
      parts = opened_ok n bytes b.0 b.1 ∙ ap (λ (t : List ℕ). 59 ∷ t) (before_from 59 b.0);
      lacks = laws.lacking.up_to 59 b.0;
      opens = from_opens 59 b.0;
    } in
    subst (λ (p : List ℕ × List ℕ). Takes bytes p.0 p.1) same made

pub field_is : (n : ℕ) (text after : List ℕ) → Lacks 59 text → Opens 59 after → field n (59 ∷ text ++ after) ≡ Ok (text, after)
unfolding field
field_is n text after lacks opens = rw (opened_is n (text ++ after), before_is 59 text after lacks opens, from_is 59 text after lacks opens) refl
