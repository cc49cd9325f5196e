-- The lines of a run that follows feeds are known, and say for which event they were printed.
use Rattle.std.proofs.Common.{◌≡◌, ℕ, ◌≤◌, Bool, true, false, List, [], ◌∷◌, ◌++◌, Some, None, refl, sym, ap, ◌∙◌, arith, append_assoc, codes}
use Rattle.std.specs.Fmt.{decimal}
use Rattle.cmd_types.specs.declared.limits.TheConstants.{GREATEST_NUMBER}
use Rattle.cmd_types.specs.Laws.{Laws}
use Rattle.cmd_run.specs.declared.ending.Ending.{Ending}
use Rattle.cmd_run.specs.declared.ending.Ending.TheVariants as ending
use Rattle.cmd_answer.specs.declared.follow_line.AbsentFeed.{AbsentFeed}
use Rattle.cmd_answer.specs.declared.follow_line.FollowLine.TheVariants as follow
use Rattle.cmd_answer.specs.FollowLines.{follow_line, absent_words, absent_line}
use Rattle.cmd_explain.specs.declared.kinds.LineKind.{LineKind}
use Rattle.cmd_explain.specs.declared.kinds.LineKind.TheVariants as kind
use Rattle.cmd_explain.specs.declared.known.KnownLine.{KnownLine}
use Rattle.cmd_explain.specs.declared.known.KnownLine.TheVariants.{Following, Waits, Replaced, Anew, Ended, ClockAhead, Absent, NewInventory, ToldMissing}
use Rattle.cmd_explain.specs.Parts.{form_behind, numbers_behind}
use Rattle.cmd_explain.specs.KnownLines.{form_of, line_of}
use Rattle.cmd_explain.specs.Explained.{line_by_path, known_line}
use Rattle.cmd_explain.specs.Laws.{IsKnownAs}
use Rattle.cmd_explain.proofs.NumberLemmas.{form_number, form_last, numbers_number, numbers_last}
use Rattle.cmd_explain.proofs.PathLemmas.{ends, ends_not, is_other, names_none}
use Rattle.cmd_explain.proofs.KnownLemmas.{known_by, small_one, small_two, small_three}

module _ (laws : Laws) (a b c : ℕ) (h : a ≤ GREATEST_NUMBER) (k : b ≤ GREATEST_NUMBER) (l : c ≤ GREATEST_NUMBER) where
  pub following_known : IsKnownAs (follow_line (follow.Following a b c)) (Following a b c)
  unfolding form_behind numbers_behind line_of
  following_known =
      let last = codes " entries, clock " ++ decimal c in
      let rest = codes " feeds, " ++ (decimal b ++ last) in (
        codes "gateway: following " ++ (decimal a ++ rest),
        ap (λ (t : List ℕ). codes "gateway: following " ++ (decimal a ++ (codes " feeds, " ++ t))) (sym (append_assoc (decimal b) last (10 ∷ [])))
            ∙ ap (λ (t : List ℕ). codes "gateway: following " ++ t) (sym (append_assoc (decimal a) rest (10 ∷ []))),
        known_by _ kind.Following (a ∷ b ∷ c ∷ []) (Some (Following a b c)) refl refl
            (ap (λ (t : List ℕ). codes "gateway: following " ++ t) (form_number laws a rest h)
            ∙ ap (λ (t : List ℕ). codes "gateway: following 0 feeds, " ++ t) (form_number laws b last k)
            ∙ ap (λ (t : List ℕ). codes "gateway: following 0 feeds, 0 entries, clock " ++ t) (form_last laws c l))
            (numbers_number laws a rest h ∙ ap (λ (t : List ℕ). a ∷ t) (numbers_number laws b last k) ∙ ap (λ (t : List ℕ). a ∷ b ∷ t) (numbers_last laws c l))
            (small_three a b c h k l) refl,
      )

  waits_other : line_by_path (codes "gateway: feed " ++ (decimal a ++ (codes " waits: line " ++ (decimal b ++ (codes " is " ++ (decimal c ++ codes " seconds ahead")))))) ≡ None
  waits_other =
      let last = codes " seconds ahead" in
      let behind = codes " is " ++ decimal c in
      let front = decimal a ++ (codes " waits: line " ++ (decimal b ++ behind)) in
      ap (λ (t : List ℕ). line_by_path (codes "gateway: feed " ++ t)) (
      ap (λ (t : List ℕ). decimal a ++ (codes " waits: line " ++ t)) (sym (append_assoc (decimal b) behind last))
      ∙ sym (append_assoc (decimal a) (codes " waits: line " ++ (decimal b ++ behind)) last)
      )
      ∙ names_none front last refl

  pub waits_known : IsKnownAs (follow_line (follow.Waits a b c)) (Waits a b c)
  unfolding form_behind numbers_behind line_of
  waits_known =
      let last = codes " seconds ahead" in
      let more = codes " is " ++ (decimal c ++ last) in
      let rest = codes " waits: line " ++ (decimal b ++ more) in (
        codes "gateway: feed " ++ (decimal a ++ rest),
        ap (λ (t : List ℕ). codes "gateway: feed " ++ (decimal a ++ (codes " waits: line " ++ (decimal b ++ (codes " is " ++ t))))) (sym (append_assoc (decimal c) last (10 ∷ [])))
            ∙ ap (λ (t : List ℕ). codes "gateway: feed " ++ (decimal a ++ (codes " waits: line " ++ t))) (sym (append_assoc (decimal b) more (10 ∷ [])))
            ∙ ap (λ (t : List ℕ). codes "gateway: feed " ++ t) (sym (append_assoc (decimal a) rest (10 ∷ []))),
        known_by _ kind.Waits (a ∷ b ∷ c ∷ []) (Some (Waits a b c)) waits_other refl
            (ap (λ (t : List ℕ). codes "gateway: feed " ++ t) (form_number laws a rest h)
            ∙ ap (λ (t : List ℕ). codes "gateway: feed 0 waits: line " ++ t) (form_number laws b more k)
            ∙ ap (λ (t : List ℕ). codes "gateway: feed 0 waits: line 0 is " ++ t) (form_number laws c last l))
            (numbers_number laws a rest h ∙ ap (λ (t : List ℕ). a ∷ t) (numbers_number laws b more k) ∙ ap (λ (t : List ℕ). a ∷ b ∷ t) (numbers_number laws c last l))
            (small_three a b c h k l) refl,
      )

module _ (laws : Laws) (feed : ℕ) (h : feed ≤ GREATEST_NUMBER) where
  -- a line on a feed: `rest` follows its number, and has no number
  of_feed_known : (k : LineKind) (rest : List ℕ) (known : KnownLine) → is_other rest ≡ true → form_behind true rest ≡ rest → numbers_behind (Some feed) rest ≡ feed ∷ [] → form_of k ≡ codes "gateway: feed 0" ++ rest → line_of k (feed ∷ []) ≡ Some known → IsKnownAs (codes "gateway: feed " ++ (decimal feed ++ (rest ++ 10 ∷ []))) known
  unfolding form_behind numbers_behind
  of_feed_known k rest known other form_is numbers_are is said = (
    codes "gateway: feed " ++ (decimal feed ++ rest),
    ap (λ (t : List ℕ). codes "gateway: feed " ++ t) (sym (append_assoc (decimal feed) rest (10 ∷ []))),
    known_by _ k (feed ∷ []) (Some known) (names_none (decimal feed) rest other) refl
        (ap (λ (t : List ℕ). codes "gateway: feed " ++ t) (form_number laws feed rest h) ∙ ap (λ (t : List ℕ). codes "gateway: feed 0" ++ t) form_is ∙ sym is)
        (numbers_number laws feed rest h ∙ numbers_are)
        (small_one feed h) said,
  )

  pub replaced_known : IsKnownAs (follow_line (follow.Replaced feed)) (Replaced feed)
  unfolding form_behind numbers_behind line_of
  replaced_known = of_feed_known kind.Replaced (codes ": replaced") (Replaced feed) refl refl refl refl refl

  pub anew_known : IsKnownAs (follow_line (follow.Anew feed)) (Anew feed)
  unfolding form_behind numbers_behind line_of
  anew_known = of_feed_known kind.Anew (codes ": begins anew") (Anew feed) refl refl refl refl refl

  pub ended_known : (e : Ending) → IsKnownAs (follow_line (follow.Ended feed e)) (Ended feed e)
  unfolding form_behind numbers_behind line_of
  ended_known ending.Whole = of_feed_known (kind.Ended ending.Whole) (codes ": whole") (Ended feed ending.Whole) refl refl refl refl refl
  ended_known ending.ReadFailed = of_feed_known (kind.Ended ending.ReadFailed) (codes ": read-failed") (Ended feed ending.ReadFailed) refl refl refl refl refl
  ended_known ending.TooManyReads = of_feed_known (kind.Ended ending.TooManyReads) (codes ": too-many-reads") (Ended feed ending.TooManyReads) refl refl refl refl refl
  ended_known ending.Memory = of_feed_known (kind.Ended ending.Memory) (codes ": memory") (Ended feed ending.Memory) refl refl refl refl refl
  ended_known ending.QueueRefused = of_feed_known (kind.Ended ending.QueueRefused) (codes ": queue-refused") (Ended feed ending.QueueRefused) refl refl refl refl refl

module _ (laws : Laws) (seconds : ℕ) (h : seconds ≤ GREATEST_NUMBER) where
  pub clock_ahead_known : IsKnownAs (follow_line (follow.ClockAhead seconds)) (ClockAhead seconds)
  unfolding form_behind numbers_behind line_of
  clock_ahead_known =
      let rest = codes " seconds ahead" in (
        codes "gateway: clock: " ++ (decimal seconds ++ rest),
        ap (λ (t : List ℕ). codes "gateway: clock: " ++ t) (sym (append_assoc (decimal seconds) rest (10 ∷ []))),
        known_by _ kind.ClockAhead (seconds ∷ []) (Some (ClockAhead seconds)) refl refl
            (ap (λ (t : List ℕ). codes "gateway: clock: " ++ t) (form_number laws seconds rest h))
            (numbers_number laws seconds rest h)
            (small_one seconds h) refl,
      )

-- ---- a new inventory

module _ (laws : Laws) (a b : ℕ) (h : a ≤ GREATEST_NUMBER) (k : b ≤ GREATEST_NUMBER) where
  pub new_inventory_known : IsKnownAs (follow_line (follow.NewInventory a b)) (NewInventory a b)
  unfolding form_behind numbers_behind line_of
  new_inventory_known =
      let last = codes " services" in
      let rest = codes " hosts, " ++ (decimal b ++ last) in (
        codes "gateway: inventory: " ++ (decimal a ++ rest),
        ap (λ (t : List ℕ). codes "gateway: inventory: " ++ (decimal a ++ (codes " hosts, " ++ t))) (sym (append_assoc (decimal b) last (10 ∷ [])))
            ∙ ap (λ (t : List ℕ). codes "gateway: inventory: " ++ t) (sym (append_assoc (decimal a) rest (10 ∷ []))),
        known_by _ kind.NewInventory (a ∷ b ∷ []) (Some (NewInventory a b)) refl refl
            (ap (λ (t : List ℕ). codes "gateway: inventory: " ++ t) (form_number laws a rest h)
            ∙ ap (λ (t : List ℕ). codes "gateway: inventory: 0 hosts, " ++ t) (form_number laws b last k))
            (numbers_number laws a rest h ∙ ap (λ (t : List ℕ). a ∷ t) (numbers_number laws b last k))
            (small_two a b h k) refl,
      )

module _ (laws : Laws) (a b : ℕ) (h : a ≤ GREATEST_NUMBER) (k : b ≤ GREATEST_NUMBER) where
  pub told_missing_known : IsKnownAs (follow_line (follow.ToldMissing a b)) (ToldMissing a b)
  unfolding form_behind numbers_behind line_of
  told_missing_known =
      let last = codes ": not there" in
      let rest = codes "." ++ (decimal b ++ last) in (
        codes "gateway: told " ++ (decimal a ++ rest),
        ap (λ (t : List ℕ). codes "gateway: told " ++ (decimal a ++ (codes "." ++ t))) (sym (append_assoc (decimal b) last (10 ∷ [])))
            ∙ ap (λ (t : List ℕ). codes "gateway: told " ++ t) (sym (append_assoc (decimal a) rest (10 ∷ []))),
        known_by _ kind.ToldMissing (a ∷ b ∷ []) (Some (ToldMissing a b)) refl refl
            (ap (λ (t : List ℕ). codes "gateway: told " ++ t) (form_number laws a rest h)
            ∙ ap (λ (t : List ℕ). codes "gateway: told 0." ++ t) (form_number laws b last k))
            (numbers_number laws a rest h ∙ ap (λ (t : List ℕ). a ∷ t) (numbers_number laws b last k))
            (small_two a b h k) refl,
      )

-- ---- a feed whose file cannot be read

absent_read : (path : List ℕ) (is_there : Bool) → known_line (codes "gateway: feed " ++ (path ++ absent_words is_there)) ≡ Some (Absent is_there)
unfolding known_line
absent_read path false = rw (ends (codes "gateway: feed " ++ path) (codes ": not there")) refl
absent_read path true =
    let begins = codes "gateway: feed " ++ path in
    rw (ends_not begins (codes ": not opened") (codes ": not there") (omega arith) (omega arith) refl, ends begins (codes ": not opened")) refl

pub absent_known : (feed : AbsentFeed) → IsKnownAs (absent_line feed) (Absent feed.is_there)
absent_known feed = (
  codes "gateway: feed " ++ (feed.path.now ++ absent_words feed.is_there),
  ap (λ (t : List ℕ). codes "gateway: feed " ++ t) (sym (append_assoc feed.path.now (absent_words feed.is_there) (10 ∷ []))),
  absent_read feed.path.now feed.is_there,
)
