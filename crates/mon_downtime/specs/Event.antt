-- An event as a value: the moment, the kind, and the id of the downtime.
use Rattle.std.specs.Prelude.{ℕ, ◌+◌, ◌*◌, ◌==◌, if◌then◌else◌}
use Rattle.mon_downtime.specs.declared.event.EventKind.{EventKind}
use Rattle.mon_downtime.specs.declared.event.EventKind.TheVariants.{Ends, Expires, Starts}

-- an event of the downtime with the id
pub record Event : Type 0 where
  pub moment : ℕ
  pub kind : EventKind
  pub id : ℕ

-- at one moment ends come first, and then expiries
abbrev pub rank : EventKind → ℕ
rank Ends = 0
rank Expires = 1
rank Starts = 2

-- the kind with a rank
abbrev pub kind_of : ℕ → EventKind
kind_of n = if n == 0 then Ends else (if n == 1 then Expires else Starts)

-- ---- of private contracts alone

-- the moment and the kind as one number, ordered by the moment and then by the kind
abbrev pub key_of : Event → ℕ
key_of e = 4 * e.moment + rank e.kind
