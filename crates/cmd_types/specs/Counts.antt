-- What one thing adds to a count: 1 where it is counted, else 0.
use Rattle.std.specs.Prelude.{ℕ, Bool, if◌then◌else◌}

abbrev pub one : Bool → ℕ
one b = if b then 1 else 0
