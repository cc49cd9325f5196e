-- A line that has too many fields for its first word.
use Rattle.std.proofs.Common.{◌≡◌, ℕ, codes, List, [], ◌∷◌, refl}
use Rattle.mon_inventory.specs.Line.{NoForm, form_of}

-- a service's line with a field too many
pub service_more : (fs : List (List ℕ)) (host name max interval options contacts other : List ℕ) (more : List (List ℕ))
    → fs ≡ host ∷ (name ∷ (max ∷ (interval ∷ (options ∷ (contacts ∷ (other ∷ more)))))) → NoForm ≡ form_of (codes "service" ∷ fs)
service_more fs host name max interval options contacts other [] e = rw e refl
service_more fs host name max interval options contacts other (x ∷ more) e = rw e refl
