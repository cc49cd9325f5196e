-- The results of the program's parts are those that the program promises.
use Rattle.std.proofs.Common.{◌≡◌, refl, inr, List, ℕ, Option, Some, None, IfSome, true, false, ap}
use Rattle.std.specs.Io.KnownBytes.{Appends, Keeps}
use Rattle.cmd_answer.specs.declared.stop.FilesStop.{FilesStop}
use Rattle.cmd_answer.specs.declared.stop.FilesStop.TheVariants.{Other}
use Rattle.cmd_answer.specs.declared.ended.Ended.{Ended}
use Rattle.cmd_answer.specs.declared.stop.Stop.{Stop}
use Rattle.cmd_answer.specs.declared.stop.Stop.TheVariants.{Output}
use Rattle.cmd_answer.specs.Replayed.{ReportsJournal}
use Rattle.cmd_answer.specs.Written.{AppendsPart}
use Rattle.gateway.specs.Modes.{Streams, streams, HasStoppedBy, IsServed}
use Rattle.cmd_answer.specs.Stops.{files_stop_line, files_stop_status}

-- a stop whose line was printed, with at most a prefix of the due text printed before it, ends a mode over an input
-- whose bytes are known
pub stops_over : (input : Option (List ℕ)) (Answered : List ℕ → List ℕ → ℕ → Type 0) (Stops : List ℕ → FilesStop → Type 0) (stop : Stop) (e : Ended) (s : Streams)
    → IfSome input (λ told. Stops told (Other stop)) → e.status ≡ files_stop_status (Other stop) → ((stop ≡ Output → ⊥) → Keeps s.output s.output_now)
    → (stop ≡ Output → IfSome input (λ told. (text : List ℕ) × ((status : ℕ) × Answered told text status) × AppendsPart s.output s.output_now text))
    → (e.printed ≡ true → Appends s.errors s.errors_now (files_stop_line (Other stop))) → (e.printed ≡ false → AppendsPart s.errors s.errors_now (files_stop_line (Other stop)))
    → IfSome input (λ told. IsServed (Answered told) (Stops told) e s)
stops_over None Answered Stops stop e s why status nothing cut line part = tt
stops_over (Some told) Answered Stops stop e s why status nothing cut line part =
    inr (Other stop, why, record { status_is = status; nothing = λ no. nothing (λ is. no (ap Other is)); cut_off = λ is. cut (output is); line = line; part = part })
  where
    output : Other stop ≡ Other Output → stop ≡ Output
    output is = cc

-- a stream to which nothing was written
pub keeps_same : (known : Option (List ℕ)) → Keeps known known
keeps_same None = tt
keeps_same (Some text) = refl

-- a stop before the output was touched, with this text on the error stream
pub stops_said : (said : List ℕ) (Due : List ℕ → Type 0) (stop : FilesStop) (e : Ended) (known errors told : Option (List ℕ))
    → (stop ≡ Other Output → ⊥) → e.status ≡ files_stop_status stop → (e.printed ≡ true → Appends errors told said) → (e.printed ≡ false → AppendsPart errors told said)
    → HasStoppedBy said Due stop e (streams known known errors told)
stops_said said Due stop e known errors told other status line part =
    record { status_is = status; nothing = λ _. keeps_same known; cut_off = λ is. absurd (other is); line = line; part = part }

-- a replay whose text was printed has status 0
pub replay_due : (input : Option (List ℕ)) (limit : ℕ) (output put : Option (List ℕ)) → IfSome input (λ told. (text : List ℕ) × ReportsJournal limit told text × AppendsPart output put text)
    → IfSome input (λ told. (text : List ℕ) × ((status : ℕ) × (ReportsJournal limit told text × (status ≡ 0))) × AppendsPart output put text)
replay_due None limit output put h = tt
replay_due (Some told) limit output put h = (h.0, (0, (h.1, refl)), h.2)
