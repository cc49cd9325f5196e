-- When a notice may go out, its recipients aside.
use Rattle.std.specs.Prelude.{ℕ, ◌+◌, Bool, true, false, ◌==◌, ◌&&◌, ◌||◌, not, nat_lt, nat_le, Option, Some, None}
use Rattle.mon_notify.specs.declared.facts.Facts.{Facts}

-- both switches are on, and no downtime of the object or its host is active
abbrev pub is_open : Facts → Bool
is_open f = f.program_on && f.object_on && (f.depth == 0) && (f.host_depth == 0)

-- the moment is still to come, where there is one
abbrev pub is_delayed : Option ℕ → ℕ → Bool
is_delayed None clock = false
is_delayed (Some moment) clock = nat_lt clock moment

-- the last notice was of this code
abbrev pub is_of_code : Option ℕ → ℕ → Bool
is_of_code None code = false
is_of_code (Some notified) code = notified == code

-- the interval has gone by since the last notice, or there was none
abbrev pub is_over : Option ℕ → ℕ → ℕ → Bool
is_over None interval clock = true
is_over (Some last) interval clock = nat_le (last + interval) clock

-- it is the first notice, or of another code than the last, or the interval is not 0 and over; or a volatile service
-- has a bad result
abbrev pub is_due : Facts → Bool
is_due f = f.volatile || (f.number == 0) || not (is_of_code f.notified f.code) || (nat_lt 0 f.interval && is_over f.last f.interval f.clock)

-- these seconds have gone by since that moment; also where there is no moment, or no seconds are asked for
abbrev pub have_gone_by : (from seconds : Option ℕ) → (clock : ℕ) → Bool
have_gone_by (Some from) (Some seconds) clock = nat_le (from + seconds) clock
have_gone_by from seconds clock = true

-- the first notification delay is over
abbrev pub is_old : Facts → Bool
is_old f = have_gone_by f.since f.delay f.clock

-- what stands above came back long enough ago; only a first notice waits for that
abbrev pub is_settled : Facts → Bool
is_settled f = not (f.number == 0) || have_gone_by f.above_back f.settle f.clock

-- all tests of a PROBLEM but its recipients, in their order
abbrev pub problem_viable : Facts → Bool
problem_viable f =
    is_open f
    && f.host_up
    && f.letter_on
    && not f.acknowledged
    && f.hard
    && not (is_delayed f.not_before f.clock)
    && is_due f
    && is_old f
    && is_settled f

-- all tests of a RECOVERY but its recipients, once there is a hard recovery
abbrev pub recovery_viable : Facts → Bool
recovery_viable f = nat_lt 0 f.number && is_open f && f.letter_on
