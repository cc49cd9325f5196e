-- Events in order, each once.
use Rattle.std.specs.Prelude.{◌≡◌, ◌≤◌, ◌==◌, ◌&&◌, ◌||◌, Bool, true, false, List, [], ◌∷◌, count_by}
use Rattle.std.specs.List.{AllByRecursion}
use Rattle.mon_downtime.specs.declared.event.Event.{Event}
use Rattle.mon_downtime.specs.Event.{rank}
use Rattle.mon_downtime.specs.Events.{before}

-- the two events are equal
abbrev pub same : Event → Event → Bool
same a b = (a.moment == b.moment) && (rank a.kind == rank b.kind) && (a.id == b.id)

-- the event is one of these
unfoldable pub has : List Event → Event → Bool
has [] e = false
has (x ∷ xs) e = same x e || has xs e

-- each comes before all that follow it
abbrev pub Ascending : List Event → Type 0
Ascending [] = Unit {0}
Ascending (x ∷ xs) = AllByRecursion (λ y. before x y ≡ true) xs × Ascending xs

-- the list has exactly these events, in order and each once
pub record AreInOrder (es list : List Event) : Type 0 where
  pub ascending : Ascending list
  pub exact : (e : Event) → has list e ≡ has es e

-- ---- of private contracts alone

-- no event is among these twice
abbrev pub AreOnce : List Event → Type 0
AreOnce es = (e : Event) → count_by (λ x. same x e) es ≤ 1
