-- The letters by which options name states and events.
use Rattle.std.specs.Prelude.{ℕ, Bool, ◌==◌, if◌then◌else◌}
use Rattle.mon_inventory.specs.declared.letters.Letters.{Letters}
use Rattle.mon_notify.specs.declared.letter.Letter.{Letter}
use Rattle.mon_notify.specs.declared.letter.Letter.TheVariants as letter

-- the letter of a service that is not OK: WARNING, CRITICAL, UNKNOWN
abbrev pub service_letter : ℕ → Letter
service_letter code = if code == 1 then letter.W else (if code == 2 then letter.C else letter.U)

-- the letter of a host that is not UP: DOWN, UNREACHABLE
abbrev pub host_letter : ℕ → Letter
host_letter code = if code == 1 then letter.D else letter.U

-- the letter of a code of a service or a host; OK and UP have the letter of a recovery
abbrev pub letter_of : Bool → ℕ → Letter
letter_of service code = if code == 0 then letter.R else (if service then service_letter code else host_letter code)

-- the options have the letter
abbrev pub has_letter : Letters → Letter → Bool
has_letter letters letter.W = letters.w
has_letter letters letter.U = letters.u
has_letter letters letter.C = letters.c
has_letter letters letter.D = letters.d
has_letter letters letter.R = letters.r
has_letter letters letter.S = letters.s
