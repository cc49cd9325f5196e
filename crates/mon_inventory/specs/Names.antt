-- What ties a map from names to the look-up that it stands for.
use Rattle.std.specs.Prelude.{◌≡◌, ℕ, List, [], Option, get_or}
use Rattle.std.specs.Map.{lookup}
use Rattle.std.specs.Str.{bytes_eq}
use Rattle.mon_inventory.specs.declared.records.ObjectSpec.{ObjectSpec}
use Rattle.mon_inventory.specs.Lookups.{service_at}

-- the index that a name has among entries
abbrev pub named : List (List ℕ × ℕ) → List ℕ → Option ℕ
named entries name = lookup (bytes_eq name) entries

-- the entries tell each name's index
abbrev pub Tells : List (List ℕ × ℕ) → (List ℕ → Option ℕ) → Type 0
Tells entries f = (name : List ℕ) → named entries name ≡ f name

-- the map at each host's index tells its services, and every other map is empty
abbrev pub TellServices : List ObjectSpec → List (List (List ℕ × ℕ)) → Type 0
TellServices objects maps = (host : ℕ) → Tells (get_or maps host []) (service_at objects host)
