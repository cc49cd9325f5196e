-- What results and commands leave of objects that hold together.
use Rattle.std.proofs.Common.{◌≡◌, ℕ, zero, suc, ◌+◌, ◌≤◌, Bool, true, false, not, ◌||◌, eqb, leb, List, [], ◌∷◌, Option, Some, None, is_some, map, slice_get, rules, if◌then◌else◌, inl, inr, refl, ap, sym, ◌∙◌, subst, arith}
use Rattle.std.proofs.lemmas.Bool.{leb-false}
use Rattle.std.proofs.lemmas.List.{length-set, length-map}
use Rattle.cmd_types.specs.declared.limits.TheConstants.{GREATEST_NUMBER}
use Rattle.mon_checks.specs.declared.status.Status.{Status}
use Rattle.mon_checks.specs.States.{status_after, problem_at, hard_at, may_be_soft, IsWithin}
use Rattle.mon_inventory.specs.declared.records.ObjectSpec.{ObjectSpec}
use Rattle.mon_inventory.specs.Configuration.{Configuration}
use Rattle.mon_inventory.specs.Facts.{IsInventory}
use Rattle.mon_engine.specs.declared.object.Object.{Object}
use Rattle.mon_engine.specs.declared.object.Moments.{Moments}
use Rattle.mon_engine.specs.declared.objects.Setting.{Setting}
use Rattle.mon_engine.specs.declared.objects.Setting.TheVariants as settings
use Rattle.mon_engine.specs.Places.{changed_at, change_to, changed_each}
use Rattle.mon_engine.specs.Effects.{IsInRange}
use Rattle.mon_engine.specs.Objects.{is_of_hard_problem, initial_object, since_after, object_after, with_setting}
use Rattle.mon_engine.specs.Sound.{IsObjectState, AreObjectStates}
use Rattle.mon_engine.proofs.CountLemmas.{setting_leaves}
use Rattle.mon_engine.proofs.ListLemmas.{set_cases}

-- ---- a status

or_first : (a b : Bool) → (a || b) ≡ false → a ≡ false
or_first false b e = refl
or_first true b e = absurd (cc)

problem_within : (s : Status) (code max attempt : ℕ) (up soft : Bool) → 1 ≤ attempt → attempt ≤ max → IsWithin max (problem_at s code up soft max attempt)
problem_within s code max attempt up soft first last = record {
  first = first;
  last = last;
  soft = λ e. leb-false max attempt (or_first (leb max attempt) (not (may_be_soft s up soft)) e);
}

hard_within : (s : Status) (code max attempt : ℕ) → 1 ≤ attempt → attempt ≤ max → IsWithin max (hard_at s code attempt)
hard_within s code max attempt first last = record { first = first; last = last; soft = λ e. absurd (cc) }

within_after : (s : Status) (code max : ℕ) (up soft : Bool) → 1 ≤ max → IsWithin max s → IsWithin max (status_after s code up soft max)
within_after s code max up soft least w = by_code (eqb code 0)
  where
    by_hard : (b : Bool) → s.hard ≡ b → IsWithin max (if b then hard_at s code s.attempt else problem_at s code up soft max (s.attempt + 1))
    by_hard true e = hard_within s code max s.attempt w.first w.last
    by_hard false e = let below = w.soft e in problem_within s code max (s.attempt + 1) up soft (omega arith) (omega arith)

    by_old : (b : Bool) → IsWithin max (if b then problem_at s code up soft max 1 else (if s.hard then hard_at s code s.attempt else problem_at s code up soft max (s.attempt + 1)))
    by_old true = problem_within s code max 1 up soft (omega arith) least
    by_old false = by_hard s.hard refl

    by_code : (b : Bool) → IsWithin max (if b then hard_at s code 1 else (if eqb s.code 0 then problem_at s code up soft max 1 else (if s.hard then hard_at s code s.attempt else problem_at s code up soft max (s.attempt + 1))))
    by_code true = hard_within s code max 1 (omega arith) least
    by_code false = by_old (eqb s.code 0)

-- ---- the objects

-- later the bound on numbers is greater
pub later_states : (n m : ℕ) (specs : List ObjectSpec) (os : List Object) → n ≤ m → AreObjectStates n specs os → AreObjectStates m specs os
later_states n m specs os l states = record {
  as_many = states.as_many;
  each = states.each;
  numbers = λ k o e. (let few = states.numbers k o e in omega (arith, few));
}

-- one object changed: it is still one of its kind, and its number is still in range
pub changed_states : (n m : ℕ) (specs : List ObjectSpec) (os : List Object) (k : ℕ) (f : Object → Object) → n ≤ m → AreObjectStates n specs os
    → ((spec : ObjectSpec) (o : Object) → slice_get specs k ≡ Some spec → IsObjectState spec o → IsObjectState spec (f o))
    → ((o : Object) → o.number ≤ GREATEST_NUMBER + n → (f o).number ≤ GREATEST_NUMBER + m)
    → AreObjectStates m specs (changed_at os k f)
changed_states n m specs os k f l states keeps grows = by_old (slice_get os k) refl
  where
    by_old : (o : Option Object) → slice_get os k ≡ o → AreObjectStates m specs (change_to os k f o)
    by_old None e = later_states n m specs os l states
    by_old (Some o) e = record {
      as_many = length-set os k (f o) ∙ states.as_many;
      each = λ j spec z s h. elim (set_cases os k j (f o) z h) [
        | inl same ↦ (let here : slice_get specs k ≡ Some spec = ap (slice_get specs) (sym same.0) ∙ s in
            subst (IsObjectState spec) (sym same.1) (keeps spec o here (states.each k spec o here e)))
        | inr old ↦ states.each j spec z s old
      ];
      numbers = λ j z h. elim (set_cases os k j (f o) z h) [
        | inl same ↦ subst (λ (x : Object). x.number ≤ GREATEST_NUMBER + m) (sym same.1) (grows o (states.numbers k o e))
        | inr old ↦ (let few = states.numbers j z old in omega (arith, few))
      ];
    }

-- what leaves the status and the moments alone
pub same_status : (spec : ObjectSpec) (o o' : Object) → o'.status ≡ o.status → o'.moments ≡ o.moments → IsObjectState spec o → IsObjectState spec o'
same_status spec o o' e f s = record {
  within = subst (IsWithin spec.max) (sym e) s.within;
  kind = ap (λ (t : Status). t.service) e ∙ s.kind;
  since = ap (λ (t : Moments). is_some t.since) f ∙ s.since ∙ sym (ap is_of_hard_problem e);
}

-- what leaves the status, the moments and the number alone
pub kept_states : (n : ℕ) (specs : List ObjectSpec) (os : List Object) (k : ℕ) (f : Object → Object) → ((o : Object) → (f o).status ≡ o.status) → ((o : Object) → (f o).moments ≡ o.moments) → ((o : Object) → (f o).number ≡ o.number)
    → AreObjectStates n specs os → AreObjectStates n specs (changed_at os k f)
kept_states n specs os k f status moments number states =
    changed_states n n specs os k f (omega arith) states (λ spec o a s. same_status spec o (f o) (status o) (moments o) s) (λ o h. (let same = number o in omega (arith, same, h)))

-- what commands set
setting_number : (s : Setting) (o : Object) (n : ℕ) → IsInRange s → o.number ≤ GREATEST_NUMBER + n → (with_setting s o).number ≤ GREATEST_NUMBER + n
setting_number (settings.Passive on) o n is h = h
setting_number (settings.Notify on) o n is h = h
setting_number (settings.Delay moment) o n is h = h
setting_number (settings.Number m) o n is h = omega (arith, is)

setting_moments : (s : Setting) (o : Object) → (with_setting s o).moments ≡ o.moments
setting_moments (settings.Passive on) o = refl
setting_moments (settings.Notify on) o = refl
setting_moments (settings.Delay moment) o = refl
setting_moments (settings.Number n) o = refl

pub set_states : (n : ℕ) (specs : List ObjectSpec) (os : List Object) (k : ℕ) (s : Setting) → IsInRange s → AreObjectStates n specs os → AreObjectStates n specs (changed_at os k (with_setting s))
set_states n specs os k s is states =
    changed_states n n specs os k (with_setting s) (omega arith) states (λ spec o a t. same_status spec o (with_setting s o) (setting_leaves s o).0 (setting_moments s o) t) (λ o h. setting_number s o n is h)

pub set_each_states : (n : ℕ) (specs : List ObjectSpec) (os : List Object) (ks : List ℕ) (s : Setting) → IsInRange s → AreObjectStates n specs os → AreObjectStates n specs (changed_each os ks (with_setting s))
unfolding changed_each
set_each_states n specs os [] s is states = states
set_each_states n specs os (k ∷ ks) s is states = set_each_states n specs (changed_at os k (with_setting s)) ks s is (set_states n specs os k s is states)

-- the beginning of a hard problem is known after a result, where it was before
since_known : (clock : ℕ) (before after : Status) (since : Option ℕ) → is_some since ≡ is_of_hard_problem before → is_some (since_after clock before since after) ≡ is_of_hard_problem after
since_known clock before after since h = by_problems (is_of_hard_problem before) (is_of_hard_problem after) h
  where
    by_problems : (was is : Bool) → is_some since ≡ was → is_some (if is then (if was then since else Some clock) else None) ≡ is
    by_problems was false e = refl
    by_problems true true e = e
    by_problems false true e = refl

pub result_state : (spec : ObjectSpec) (o : Object) (clock code : ℕ) (output : List ℕ) (up soft : Bool) → 1 ≤ spec.max → IsObjectState spec o → IsObjectState spec (object_after clock code output up soft spec.max o)
result_state spec o clock code output up soft least s = record {
  within = within_after o.status code spec.max up soft least s.within;
  kind = kind_after o.status code up ∙ s.kind;
  since = since_known clock o.status (status_after o.status code up soft spec.max) o.moments.since s.since;
}
  where
    kind_after : (t : Status) (code : ℕ) (up : Bool) → (status_after t code up soft spec.max).service ≡ t.service
    kind_after t code up = search rules

-- ---- at first

mapped_at : {A B : Type 0} (f : A → B) (xs : List A) (k : ℕ) (x : A) (y : B) → slice_get xs k ≡ Some x → slice_get (map f xs) k ≡ Some y → y ≡ f x
mapped_at f [] k x y e h = absurd (cc)
mapped_at f (z ∷ xs) zero x y e h = let same : z ≡ x = cc in let is : f z ≡ y = cc in sym is ∙ ap f same
mapped_at f (z ∷ xs) (suc k) x y e h = mapped_at f xs k x y e h

initial_state : (spec : ObjectSpec) → 1 ≤ spec.max → IsObjectState spec (initial_object spec)
initial_state spec least = record { within = record { first = omega arith; last = least; soft = λ e. absurd (cc) }; kind = refl; since = refl }

initial_number : (xs : List ObjectSpec) (k : ℕ) (o : Object) → slice_get (map initial_object xs) k ≡ Some o → o.number ≤ GREATEST_NUMBER + 0
initial_number [] k o e = absurd (cc)
initial_number (x ∷ xs) zero o e = let same : initial_object x ≡ o = cc in subst (λ (y : Object). y.number ≤ GREATEST_NUMBER + 0) same (omega arith)
initial_number (x ∷ xs) (suc k) o e = initial_number xs k o e

pub initial_states : (inv : Configuration) → IsInventory inv → AreObjectStates 0 inv.objects (map initial_object inv.objects)
initial_states inv sound = record {
  as_many = length-map inv.objects initial_object;
  numbers = λ k o b. initial_number inv.objects k o b;
  each = λ k spec o a b. subst (IsObjectState spec) (sym (mapped_at initial_object inv.objects k spec o a b)) (initial_state spec (sound.objects k spec a).max_least);
}
