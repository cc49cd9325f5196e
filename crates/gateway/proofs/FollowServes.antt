-- The ends of a call that follows feeds.
use Rattle.std.proofs.Common.{◌≡◌, inl, inr, ⊎_elim, List, ◌++◌, ℕ, Option, Some, None, Result, Ok, Err, OnOk, OnErr, true, false, length, map, ap, sym, ◌∙◌, subst}
use Rattle.std.specs.Result.{is_err}
use Rattle.std.proofs.lemmas.List.{length-map}
use Rattle.std.specs.Io.KnownBytes.{Appends, Keeps}
use Rattle.cmd_types.specs.Entries.{IsSenderCount}
use Rattle.mon_inventory.specs.Configuration.{Configuration}
use Rattle.cmd_options.specs.declared.mode.FollowCall.{FollowCall}
use Rattle.cmd_answer.specs.declared.ended.Ended.{Ended}
use Rattle.cmd_answer.specs.declared.stop.FilesStop.{FilesStop}
use Rattle.cmd_answer.specs.declared.stop.FilesStop.TheVariants.{Open, OpenPassing, Other}
use Rattle.cmd_answer.specs.declared.stop.Stop.{Stop}
use Rattle.cmd_answer.specs.declared.stop.Stop.TheVariants as stop
use Rattle.cmd_answer.specs.Files.{IsInFile}
use Rattle.cmd_answer.specs.Stops.{StopsOpening, files_stop_line, files_stop_status, stop_line, stop_status}
use Rattle.cmd_answer.specs.Written.{AppendsPart}
use Rattle.cmd_dispatch.specs.Tellings.{AppendsBeginning}
use Rattle.cmd_live.specs.Runs.{start_line}
use Rattle.gateway.specs.Followed.{given_feeds, all_feeds, IsRun, IsRunCutOff}
use Rattle.gateway.specs.Modes.{streams, StopsFollow, ServesFollow}
use Rattle.gateway.proofs.ServeLemmas.{keeps_same}

module _ {F : Type 0} (remaining : F → Option (List ℕ)) (call : FollowCall) where
  -- not all feeds could be opened
  pub stops_opening : (inv : Configuration) (s : FilesStop) → IsSenderCount (given_feeds call) → IsSenderCount (all_feeds call) → IsInFile remaining inv → StopsOpening (map (λ p. p.now) call.feeds.items) s → StopsFollow remaining call s
  stops_opening inv (Open path) given all read stops = (given, all, inr (inv, read, stops))
  stops_opening inv (OpenPassing path) given all read stops = (given, all, inr (inv, read, stops))
  stops_opening inv (Other stop.Usage) given all read stops = absurd stops
  stops_opening inv (Other stop.Input) given all read stops = absurd stops
  stops_opening inv (Other stop.Feeds) given all read stops = absurd stops
  stops_opening inv (Other stop.FeedTwice) given all read stops = absurd stops
  stops_opening inv (Other (stop.Inventory line cause)) given all read stops = absurd stops
  stops_opening inv (Other (stop.Journal line cause)) given all read stops = absurd stops
  stops_opening inv (Other (stop.Fault cause sender)) given all read stops = absurd stops
  stops_opening inv (Other stop.Memory) given all read stops = (given, all, inr (inv, read, stops))
  stops_opening inv (Other stop.Output) given all read stops = absurd stops
  stops_opening inv (Other (stop.State why)) given all read stops = absurd stops

  no_output : StopsFollow remaining call (Other stop.Output) → ⊥
  no_output why = ⊎_elim (λ no. no) (λ no. no.2) why.2

  -- nothing was followed
  pub not_followed : (s : FilesStop) (e : Ended) (known errors told : Option (List ℕ))
      → StopsFollow remaining call s → e.status ≡ files_stop_status s → (e.printed ≡ true → Appends errors told (files_stop_line s)) → (e.printed ≡ false → AppendsPart errors told (files_stop_line s))
      → ServesFollow remaining call e (streams known known errors told)
  not_followed s e known errors told why status line part =
      inl (s, why, record { status_is = status; nothing = λ _. keeps_same known; cut_off = λ is. absurd (no_output (subst (StopsFollow remaining call) is why)); line = line; part = part })

  -- the whole text that is due was printed
  pub was_followed : (inv : Configuration) (e : Ended) (output put errors told : Option (List ℕ))
      → IsInFile remaining inv → AppendsBeginning errors told (start_line (given_feeds call) 0 0) → IsRun call inv output put e.status → e.printed ≡ true
      → ServesFollow remaining call e (streams output put errors told)
  was_followed inv e output put errors told read start ran owes =
      inr (record { inv = inv; inventory_is = read; started = told; start = start; ran = inl (ran, owes, keeps_same told) })

  -- the text that is due was not printed whole
  pub was_cut_off : (inv : Configuration) (s : Stop) (e : Ended) (output put errors started told : Option (List ℕ))
      → IsInFile remaining inv → AppendsBeginning errors started (start_line (given_feeds call) 0 0) → IsRunCutOff call inv output put s
      → e.status ≡ stop_status s → (e.printed ≡ true → Appends started told (stop_line s)) → (e.printed ≡ false → AppendsPart started told (stop_line s))
      → ServesFollow remaining call e (streams output put errors told)
  was_cut_off inv s e output put errors started told read start cut status line part =
      inr (record { inv = inv; inventory_is = read; started = started; start = start; ran = inr (s, cut, status, line, part) })

-- a stream that was unchanged and then took a text or a part of it
pub kept_then : (first before now : Option (List ℕ)) (text : List ℕ) → Keeps first before → Appends before now text → Appends first now text
kept_then None before now text k a = tt
kept_then (Some xs) None now text k a = absurd k
kept_then (Some xs) (Some ys) None text k a = absurd a
kept_then (Some xs) (Some ys) (Some zs) text k a = a ∙ ap (λ (t : List ℕ). t ++ text) k

pub kept_then_part : (first before now : Option (List ℕ)) (text : List ℕ) → Keeps first before → AppendsPart before now text → AppendsPart first now text
kept_then_part first before now text k p = record { part = p.part; rest = p.rest; begins = p.begins; missing = p.missing; appended = kept_then first before now p.part k p.appended }

-- a result that is an error
pub of_refused : {X E : Type 0} (r : Result X E) (P : Type 0) → is_err r ≡ true → OnErr r P → P
of_refused (Ok x) P is p = absurd (let no : false ≡ true = is in cc)
of_refused (Err e) P is p = p

pub of_taken : {X E : Type 0} (r : Result X E) (P : Type 0) → is_err r ≡ false → OnOk r P → P
of_taken (Ok x) P is p = p
of_taken (Err e) P is p = absurd (let no : true ≡ false = is in cc)

-- two lists have the same length where their mapped lists are equal
pub as_many : {X Y Z : Type 0} (f : X → Z) (h : Y → Z) (xs : List X) (ys : List Y) → map f xs ≡ map h ys → length xs ≡ length ys
as_many f h xs ys is = sym (length-map xs f) ∙ ap length is ∙ length-map ys h
