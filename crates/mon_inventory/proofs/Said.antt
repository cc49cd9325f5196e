-- What is said of an option, one after another.
use Rattle.std.proofs.Common.{◌≡◌, ℕ, zero, suc, Bool, slice_get, arith, ◌+◌, ◌<◌, ◌≤◌, true, false, List, ◌∷◌, Some, None, refl, length, get_or, drop, if◌then◌else◌, sym, ap, ◌∙◌, add-one, drop-cons, unwrap_or, [], Option}
use Rattle.std.proofs.lemmas.List.{drop_all}
use Rattle.std.specs.Str.{bytes_eq}
use Rattle.std.proofs.lemmas.Option.{same_Some}
use Rattle.std.proofs.lemmas.Slice.Eq.{bytes_eq-Decides}
use Rattle.mon_inventory.specs.declared.records.OptionSpec.{OptionSpec}
use Rattle.mon_inventory.specs.Configuration.{said_of}
use Rattle.mon_inventory.specs.Lists.{StandsAt}
use Rattle.mon_inventory.specs.Lookups.{IsOptionNamed, IsOptionOn}

module _ (os : List OptionSpec) (i : ℕ) (name : List ℕ) (same : said_of (drop i os) name ≡ said_of os name) where
  module _ (o : OptionSpec) (within : i < length os) (is : o ≡ get_or os i o) where
    others : drop i os ≡ o ∷ drop (i + 1) os
    others = rw add-one (drop-cons os i o within ∙ ap (λ (x : OptionSpec). x ∷ drop (suc i) os) (sym is))

    this : said_of (drop i os) name ≡ said_of (o ∷ drop (i + 1) os) name
    this = ap (λ (l : List OptionSpec). said_of l name) others

    pub said_here : bytes_eq o.name name ≡ true → Some o.on ≡ said_of os name
    said_here e = sym (ap (λ b. if b then Some o.on else said_of (drop (i + 1) os) name) e) ∙ sym this ∙ same

    pub said_later : bytes_eq o.name name ≡ false → said_of (drop (i + 1) os) name ≡ said_of os name
    said_later e = sym (ap (λ b. if b then Some o.on else said_of (drop (i + 1) os) name) e) ∙ sym this ∙ same

  pub said_nowhere : length os ≤ i → None ≡ said_of os name
  said_nowhere past = sym (ap (λ (l : List OptionSpec). said_of l name) (drop_all i os past)) ∙ same

pub option_not_found : (os : List OptionSpec) (name : List ℕ) → said_of os name ≡ None → (n : ℕ) → StandsAt (IsOptionNamed name) os n → ⊥
option_not_found [] name e n s = (let within = s.within in omega (arith, within))
option_not_found (o ∷ os) name e n s = by_name (option_not_found os name) (bytes_eq o.name name) refl e
  where
    Later : Type 0
    Later = said_of os name ≡ None → (m : ℕ) → StandsAt (IsOptionNamed name) os m → ⊥

    by_place : Later → bytes_eq o.name name ≡ false → said_of os name ≡ None → (m : ℕ) → m ≡ n → ⊥
    by_place later t e zero at =
        let same : o ≡ s.element = same_Some o s.element (ap (slice_get (o ∷ os)) at ∙ s.is) in
        let named : bytes_eq o.name name ≡ true = (bytes_eq-Decides o.name name).1 (ap (λ (x : OptionSpec). x.name) same ∙ s.holds) in
        absurd (cc)
    by_place later t e (suc m) at = later e m (record { element = s.element; within = (let within = s.within in omega (arith, within, at)); is = ap (slice_get (o ∷ os)) at ∙ s.is; holds = s.holds })

    by_name : Later → (b : Bool) → bytes_eq o.name name ≡ b → (if b then Some o.on else said_of os name) ≡ None → ⊥
    by_name later true t e = absurd (cc)
    by_name later false t e = by_place later t e n refl

-- what is said of an option stands there
said_stands : (os : List OptionSpec) (name : List ℕ) → said_of os name ≡ Some true → (n : ℕ) × StandsAt (IsOptionOn name) os n
said_stands [] name e = absurd (cc)
said_stands (o ∷ os) name e = by_name (said_stands os name) (bytes_eq o.name name) refl e
  where
    by_name : (said_of os name ≡ Some true → (n : ℕ) × StandsAt (IsOptionOn name) os n) → (b : Bool) → bytes_eq o.name name ≡ b → (if b then Some o.on else said_of os name) ≡ Some true → (n : ℕ) × StandsAt (IsOptionOn name) (o ∷ os) n
    by_name later true t e = (0, record { element = o; within = omega arith; is = refl; holds = ((bytes_eq-Decides o.name name).0 t, same_Some o.on true e) })
    by_name later false t e =
        let r = later e in
        let there = r.1 in
        let within = there.within in
        (suc r.0, record { element = there.element; within = omega (arith, within); is = there.is; holds = there.holds })

pub said_on : (os : List OptionSpec) (name : List ℕ) → unwrap_or (said_of os name) false ≡ true → (n : ℕ) × StandsAt (IsOptionOn name) os n
said_on os name e = by_said (said_of os name) refl e
  where
    by_said : (s : Option Bool) → said_of os name ≡ s → unwrap_or s false ≡ true → (n : ℕ) × StandsAt (IsOptionOn name) os n
    by_said None t e = absurd (cc)
    by_said (Some on) t e = said_stands os name (t ∙ ap (λ (b : Bool). Some b) e)
