-- The text and the status of the program in the mode that follows feeds and keeps nothing.
use Rattle.std.specs.Prelude.{◌≡◌, ◌+◌, ◌⊎◌, ◌&&◌, ℕ, zero, suc, Bool, true, false, List, [], ◌∷◌, ◌++◌, length, replicate, take, slice_index_or, if◌then◌else◌, Option, None, Some}
use Rattle.std.specs.List.{list_all}
use Rattle.std.specs.Io.KnownBytes.{Appends}
use Rattle.cmd_lines.specs.declared.fault.LineFault.{LineFault}
use Rattle.cmd_queue.specs.Sides.{Settlement}
use Rattle.mon_inventory.specs.Configuration.{Configuration}
use Rattle.mon_engine.specs.Held.{Held}
use Rattle.mon_engine.specs.Telling.{is_clock}
use Rattle.cmd_run.specs.declared.ending.SenderReport.{SenderReport}
use Rattle.cmd_run.specs.declared.fault.RunCause.{RunCause}
use Rattle.cmd_run.specs.declared.fault.RunCause.TheVariants as cause
use Rattle.cmd_run.specs.Causes.{cause_number, cause_sender}
use Rattle.cmd_options.specs.declared.mode.FollowCall.{FollowCall}
use Rattle.cmd_dispatch.specs.RunCalls.{RunCall}
use Rattle.cmd_dispatch.specs.Runs.{taken_outcome}
use Rattle.cmd_dispatch.specs.Follows.{HasFollowed, HasStopped}
use Rattle.cmd_answer.specs.declared.stop.Stop.{Stop}
use Rattle.cmd_answer.specs.declared.stop.Stop.TheVariants as stop
use Rattle.cmd_answer.specs.Printed.{feed_line, is_whole, refuses_none}
use Rattle.cmd_answer.specs.Written.{AppendsPart}

-- ---- the feeds

-- the number of feeds, counting the clock feed if there is one: 0 seconds between its commands switches it off
abbrev pub with_clock : (seconds given : ℕ) → ℕ
with_clock zero given = given
with_clock (suc seconds) given = given + 1

-- the number of the clock feed, after those of the feeds that the call names; none where there is no clock feed
abbrev pub clock_after : (seconds given : ℕ) → Option ℕ
clock_after zero given = None
clock_after (suc seconds) given = Some given

-- the number of feeds that a call names, and the number of all its feeds with the clock feed
abbrev pub given_feeds : FollowCall → ℕ
given_feeds call = length call.feeds.items

abbrev pub all_feeds : FollowCall → ℕ
all_feeds call = with_clock call.following.clock (given_feeds call)

-- ---- lines

-- the lines on feeds that have ended, the first of which is feed k
unfoldable pub ending_lines : (k : ℕ) → List SenderReport → List ℕ
ending_lines k [] = []
ending_lines k (r ∷ reports) = feed_line k r.accepted r.ending ++ ending_lines (k + 1) reports

-- the lines on the feeds that the call names, where they are drained
abbrev pub drained_lines : FollowCall → List SenderReport → List ℕ
drained_lines call reports = if call.following.drain then ending_lines 0 (take (given_feeds call) reports) else []

-- 0 where all feeds are whole and no line of them is refused, else 1
abbrev pub followed_status : List SenderReport → (clean : List Bool) → ℕ
followed_status reports clean = if list_all (λ r. is_whole r.ending) reports && list_all (λ c. c) clean then 0 else 1

-- the stop of the program where the run failed
abbrev pub run_stop : RunCause → Stop
run_stop cause.Output = stop.Output
run_stop cause.Memory = stop.Memory
run_stop c = stop.Fault (cause_number c) (cause_sender c)

-- ---- a run

-- for each feed, whether none of its lines was refused
abbrev pub are_clean : List Bool → ℕ → List (ℕ × LineFault) → Type 0
are_clean clean k refused = (c : Bool) → slice_index_or clean k c ≡ refuses_none refused

-- the arguments of the run of a call that follows feeds: nothing is known of each feed, and its reads may fail
abbrev pub run_of : FollowCall → Configuration → RunCall
run_of call inv = record {
  sources = replicate (all_feeds call) (record { remaining = None; fails = true; fills = false; piece = call.run.piece; reads = call.run.reads });
  limit = call.run.limit;
  inventory = inv;
}

-- A run that came to its end. Its told lines are those of all commands of its feeds in some order, each feed's in its
-- own order and each once; they follow the bytes that the output held before. The text of a feed is not known here.
-- After them come the lines on the feeds that the call names, where they are drained
pub record HasFollowedCall (call : FollowCall) (inv : Configuration) (before told : Option (List ℕ)) (lines : List ℕ) (status : ℕ) : Type 0 where
  pub monitor : Held
  pub reports : List SenderReport
  pub clean : List Bool
  pub clean_each : length clean ≡ all_feeds call
  pub settled : Settlement
  pub followed : HasFollowed (run_of call inv) (clock_after call.following.clock (given_feeds call)) before told (taken_outcome monitor reports settled) (are_clean clean)
  pub lines_are : lines ≡ drained_lines call reports
  pub status_is : status ≡ followed_status reports clean

-- a run that failed: the output holds a prefix of the lines of the commands that were taken, as `HasStopped` says
pub record HasFailedCall (call : FollowCall) (inv : Configuration) (before now : Option (List ℕ)) (s : Stop) : Type 0 where
  pub cause : RunCause
  pub reports : List SenderReport
  pub clean : List Bool
  pub stopped : HasStopped (run_of call inv) (clock_after call.following.clock (given_feeds call)) before now cause reports (are_clean clean)
  pub stop_is : s ≡ run_stop cause

-- A run came to its end, and then the output did not take all of the lines on the feeds, or memory ran out for
-- these lines
pub record HasUnended (call : FollowCall) (inv : Configuration) (before now : Option (List ℕ)) (s : Stop) : Type 0 where
  pub told : Option (List ℕ)
  pub lines : List ℕ
  pub status : ℕ
  pub ran : HasFollowedCall call inv before told lines status
  pub cut_off : ((s ≡ stop.Output) × AppendsPart told now lines) ⊎ ((s ≡ stop.Memory) × (now ≡ told))

-- the output after a run: the whole text that is due, with the status; or a part of it, with the stop that gives the
-- reason
abbrev pub IsRun : FollowCall → Configuration → (before now : Option (List ℕ)) → (status : ℕ) → Type 0
IsRun call inv before now status = (told : Option (List ℕ)) × (lines : List ℕ) × HasFollowedCall call inv before told lines status × Appends told now lines

abbrev pub IsRunCutOff : FollowCall → Configuration → (before now : Option (List ℕ)) → Stop → Type 0
IsRunCutOff call inv before now s = HasFailedCall call inv before now s ⊎ HasUnended call inv before now s

-- ---- of private contracts alone

-- the line on feed k, unless that is the clock feed
abbrev pub end_line : (clock : Option ℕ) → (k : ℕ) → SenderReport → List ℕ
end_line clock k r = if is_clock clock k then [] else feed_line k r.accepted r.ending

-- the lines on feeds, the first of which is feed k, without the clock feed
unfoldable pub end_lines : (clock : Option ℕ) → (k : ℕ) → List SenderReport → List ℕ
end_lines clock k [] = []
end_lines clock k (r ∷ reports) = end_line clock k r ++ end_lines clock (k + 1) reports

-- the lines on all feeds of a run except the clock feed, where feeds are drained
abbrev pub lines_due : (drain : Bool) → (clock : Option ℕ) → List SenderReport → List ℕ
lines_due drain clock reports = if drain then end_lines clock 0 reports else []
