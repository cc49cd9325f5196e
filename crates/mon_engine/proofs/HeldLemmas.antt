-- What a monitor holds goes on to hold where it forgets what it printed, and where it counts anew.
use Rattle.std.proofs.Common.{◌≡◌, ℕ, ◌≤◌, Bool, Option, sym, subst, refl}
use Rattle.mon_inventory.specs.Configuration.{Configuration}
use Rattle.mon_engine.specs.declared.state.TheConstants.{GREATEST_BEFORE}
use Rattle.mon_engine.specs.World.{World}
use Rattle.mon_engine.specs.Telling.{forgotten}
use Rattle.mon_engine.specs.SavedLaws.{resumed}
use Rattle.mon_engine.specs.Sound.{ever, raised}
use Rattle.mon_engine.specs.Held.{IsHeld}
use Rattle.mon_engine.proofs.SavedLemmas.{going_on_world, forgotten_world}
use Rattle.mon_engine.proofs.WakeLemmas.{quiet_forgotten, quiet_resumed}

pub held_forgotten : (inv : Configuration) (w u : World) (applied : ℕ) (broken : Bool) (quiet : Option ℕ) → IsHeld inv w applied broken quiet → u ≡ forgotten w → IsHeld inv u applied broken quiet
held_forgotten inv w u applied broken quiet h is = subst (λ (x : World). IsHeld inv x applied broken quiet) (sym is)
    (h.0, λ whole. (let held = h.1 whole in (forgotten_world inv (ever w) (raised w) w held.0, held.1, quiet_forgotten inv w quiet held.2)))

pub held_resumed : (inv : Configuration) (w u : World) (applied : ℕ) (broken : Bool) (quiet : Option ℕ) → IsHeld inv w applied broken quiet → ever w ≤ GREATEST_BEFORE → u ≡ resumed w → IsHeld inv u 0 broken quiet
held_resumed inv w u applied broken quiet h room is = subst (λ (x : World). IsHeld inv x 0 broken quiet) (sym is)
    (h.0, λ whole. (let held = h.1 whole in (going_on_world inv (forgotten w) room (forgotten_world inv (ever w) (raised w) w held.0), refl, quiet_resumed inv w quiet held.2)))
