-- The bytes at the front of a text, and many lines that are read one after another.
use Rattle.std.proofs.Common.{◌≡◌, ◌≢◌, ℕ, suc, ◌<◌, List, [], ◌∷◌, ◌++◌, length, get_or, Option, Some, None, Result, Ok, Err, slice_get, MatchOption, Bor, refl, ap, sym, subst, ◌∙◌}
use Rattle.std.proofs.Common.{inl, inr, eqb, Bool, true, false, if◌then◌else◌}
use Rattle.std.proofs.lemmas.Bool.{eqb-true}
use Rattle.std.specs.Option.{option_copied}
use Rattle.std.specs.Result.{IsErrAnd}
use Rattle.std.proofs.lemmas.Option.{slice_get-get_or}
use Rattle.std.proofs.lemmas.Bool.{eq-eqb}
use Rattle.std.proofs.lemmas.Bool.Decides.{eqb_tells}
use Rattle.mon_state.specs.declared.fault.StateCause.{StateCause}
use Rattle.mon_state.specs.declared.fault.StateCause.TheVariants.{BadLine, BadValue, NotAsWritten, UnknownVersion, Memory}
use Rattle.mon_state.specs.Reading.{Stuck, ◌>>=◌, rest_after, many_at}
use Rattle.mon_state.specs.Cursors.{Fails, Gives}

-- ---- the front of a text

pub rest_after_is : (p rest : List ℕ) → rest_after p (p ++ rest) ≡ Some rest
unfolding rest_after
rest_after_is [] rest = refl
rest_after_is (x ∷ p) rest = rw (eq-eqb x x refl) (rest_after_is p rest)

rest_after_none : (p s : List ℕ) → ((rest : List ℕ) → s ≢ p ++ rest) → rest_after p s ≡ None
unfolding rest_after
rest_after_none [] s none = absurd (none s refl)
rest_after_none (x ∷ p) [] none = refl
rest_after_none (x ∷ p) (y ∷ s) none = elim (eqb_tells x y) [
  | inl t ↦ rw t.0 (rest_after_none p s (λ rest e. none rest (ap (λ b. b ∷ s) (sym t.1) ∙ ap (λ (z : List ℕ). x ∷ z) e)))
  | inr t ↦ rw t.0 refl
]

pub found_after : (p s : List ℕ) (r : Option (Bor (List ℕ))) → MatchOption r ((rest : List ℕ) → s ≢ p ++ rest) (λ x. s ≡ p ++ x.now) → option_copied r ≡ rest_after p s
found_after p s None none = sym (rest_after_none p s none)
found_after p s (Some x) is = sym (ap (rest_after p) is ∙ rest_after_is p x.now)

-- a text that begins with these bytes is these bytes and the rest
pub front_is : (front text rest : List ℕ) → rest_after front text ≡ Some rest → text ≡ front ++ rest
unfolding rest_after
front_is [] text rest is = (let same : Some text ≡ Some rest = is in cc)
front_is (x ∷ front) [] rest is = (let clash : None ≡ Some rest = is in absurd cc)
front_is (x ∷ front) (y ∷ text) rest is = by_byte (eqb x y) refl is (front_is front text rest)
  where
    by_byte : (b : Bool) → eqb x y ≡ b → (if b then rest_after front text else None) ≡ Some rest → (rest_after front text ≡ Some rest → text ≡ front ++ rest) → y ∷ text ≡ (x ∷ front) ++ rest
    by_byte true same found more = ap (λ (b : ℕ). b ∷ text) (sym (eqb-true x y same)) ∙ ap (λ (l : List ℕ). x ∷ l) (more found)
    by_byte false other found more = (let clash : None ≡ Some rest = found in absurd cc)

pub no_front : (front text rest : List ℕ) → rest_after front text ≡ None → text ≡ front ++ rest → ⊥
no_front front text rest none is = (let clash : None ≡ Some rest = sym none ∙ ap (rest_after front) is ∙ rest_after_is front rest in cc)

-- ---- a step that fails

pub fails_here : {A B : Type 0} (r : Result A Stuck) (f : A → Result B Stuck) (e : StateCause) (last : List ℕ) → Fails e last r → Fails e last (r >>= f)
fails_here r f BadLine last h = ap (λ r. r >>= f) h
fails_here r f BadValue last h = ap (λ r. r >>= f) h
fails_here r f NotAsWritten last h = ap (λ r. r >>= f) h
fails_here r f UnknownVersion last h = h
fails_here r f Memory last h = tt

pub fails_later : {A B : Type 0} {r : Result A Stuck} (f : A → Result B Stuck) {x : A} (e : StateCause) (last : List ℕ) → r ≡ Ok x → Fails e last (f x) → Fails e last (r >>= f)
fails_later f e last is h = subst (λ y. Fails e last y) (sym (ap (λ r. r >>= f) is)) h

-- ---- many lines

-- one more line was read
pub many_more : {X : Type 0} (one : List X → List ℕ → Result (X × List ℕ) Stuck) (n m : ℕ) (xs : List X) (x : X) (text rest : List ℕ) (whole : Result (List X × List ℕ) Stuck)
    → n ≡ suc m → one xs text ≡ Ok (x, rest) → many_at one n xs text ≡ whole → many_at one m (xs ++ x ∷ []) rest ≡ whole
unfolding many_at
many_more {X = X} one n m xs x text rest whole next read so_far =
    ap (λ (r : Result (X × List ℕ) Stuck). r >>= λ y. many_at one m (xs ++ y.0 ∷ []) y.1) (sym read) ∙ ap (λ k. many_at one k xs text) (sym next) ∙ so_far

-- the next line could not be read
pub many_fails : {X : Type 0} (one : List X → List ℕ → Result (X × List ℕ) Stuck) (n m : ℕ) (xs : List X) (text : List ℕ) (whole : Result (List X × List ℕ) Stuck) (e : StateCause) (last : List ℕ)
    → n ≡ suc m → Fails e last (one xs text) → many_at one n xs text ≡ whole → Fails e last whole
unfolding many_at
many_fails {X = X} one n m xs text whole e last next fails so_far = by_cause e fails
  where
    failed : (f : StateCause) → one xs text ≡ Err (f, last) → whole ≡ Err (f, last)
    failed f k = sym so_far ∙ ap (λ j. many_at one j xs text) next ∙ ap (λ (r : Result (X × List ℕ) Stuck). r >>= λ y. many_at one m (xs ++ y.0 ∷ []) y.1) k

    by_cause : (f : StateCause) → Fails f last (one xs text) → Fails f last whole
    by_cause BadLine k = failed BadLine k
    by_cause BadValue k = failed BadValue k
    by_cause NotAsWritten k = failed NotAsWritten k
    by_cause UnknownVersion k = k
    by_cause Memory k = tt

-- all lines were read
pub many_end : {X : Type 0} (one : List X → List ℕ → Result (X × List ℕ) Stuck) (n : ℕ) (xs : List X) (text : List ℕ) (whole : Result (List X × List ℕ) Stuck)
    → n ≡ 0 → many_at one n xs text ≡ whole → whole ≡ Ok (xs, text)
unfolding many_at
many_end one n xs text whole none so_far = sym so_far ∙ ap (λ k. many_at one k xs text) none

-- a `?` returns the fault of the step
pub exit_fails : {X Y : Type 0} (view : X → Y) (r : Result X StateCause) (whole : Result Y Stuck) (e : StateCause) (last : List ℕ) → IsErrAnd r (λ y. y ≡ e) → Fails e last whole → Gives view last r whole
exit_fails view (Ok x) whole e last is fails = absurd is
exit_fails view (Err y) whole e last is fails = subst (λ (f : StateCause). Fails f last whole) (sym is) fails

-- the next line of the inventory
pub next_spec : {S : Type 0} (specs items : List S) (i n : ℕ) (spec : S) → items ≡ specs → n ≡ i → i < length items → spec ≡ get_or items i spec → slice_get specs n ≡ Some spec
next_spec {S = S} specs items i n spec same turn within is =
    ap (slice_get specs) turn ∙ ap (λ (xs : List S). slice_get xs i) (sym same) ∙ slice_get-get_or items i spec within ∙ ap Some (sym is)
