-- What a fate is not, by the tests of it.
use Rattle.std.proofs.Common.{◌≡◌, ℕ, true, false, refl}
use Rattle.mon_downtime.specs.declared.downtime.Fate.{Fate}
use Rattle.mon_downtime.specs.declared.downtime.Fate.TheVariants.{Pending, Active, Over}
use Rattle.mon_downtime.specs.Records.{is_active, is_over}
use Rattle.mon_downtime.specs.Problem.{is_pending}

pub not_active : (f : Fate) → ((since until : ℕ) → f ≡ Active since until → ⊥) → is_active f ≡ false
not_active Pending other = refl
not_active (Active since until) other = absurd (other since until refl)
not_active Over other = refl

pub not_over : (f : Fate) → (f ≡ Over → ⊥) → is_over f ≡ false
not_over Pending other = refl
not_over (Active since until) other = refl
not_over Over other = absurd (other refl)

pub not_pending : (f : Fate) → (f ≡ Pending → ⊥) → is_pending f ≡ false
not_pending Pending other = absurd (other refl)
not_pending (Active since until) other = refl
not_pending Over other = refl

pub over_is : (f : Fate) → is_over f ≡ true → f ≡ Over
over_is Pending h = absurd (cc)
over_is (Active since until) h = absurd (cc)
over_is Over h = refl
