-- The items that a sender whose feed makes its commands passes on.
use Rattle.std.proofs.Common.{◌≡◌, inl, inr, ℕ, ◌+◌, ◌*◌, ◌/◌, ◌<◌, ◌≤◌, Bool, List, [], ◌∷◌, ◌++◌, length, sym, ap, refl, subst, append_assoc, arith, length-append, Option}
use Rattle.std.specs.Io.KnownBytes.{Consumes}
use Rattle.std.proofs.KnownBytes.{Consumes-nil, Consumes-trans}
use Rattle.cmd_types.specs.Spelling.{Timed, IsWellFormed, canonical}
use Rattle.cmd_types.specs.TextLines.{split_lines}
use Rattle.cmd_lines.specs.declared.fault.LineFault.{LineFault}
use Rattle.cmd_lines.specs.declared.item.Item.{Item}
use Rattle.cmd_lines.specs.declared.item.Item.TheVariants as item
use Rattle.cmd_lines.specs.declared.phase.Phase.{Phase}
use Rattle.cmd_lines.specs.declared.phase.Phase.TheVariants.{Open, Finished, CutOff}
use Rattle.cmd_lines.specs.Items.{known, items_so_far, all_items}
use Rattle.cmd_lines.specs.Skips.{AreWhole}
use Rattle.cmd_queue.specs.declared.taken.Taken.TheVariants.{Command}
use Rattle.cmd_queue.specs.Sides.{Sent, with_command}
use Rattle.cmd_queue.specs.Plans.{planned_of, ComeFirst, commands_in}
use Rattle.cmd_dispatch.specs.Planned.{IsPlannedBy}
use Rattle.cmd_dispatch.proofs.PlanLemmas.{TheGrowthLaw, so_far_in_plan, passed_in_plan, planned_still, command_next}
use Rattle.cmd_run.specs.declared.ending.Ending.TheVariants as ending
use Rattle.cmd_dispatch.specs.declared.feed.TheConstants.{LONGEST_MADE}
use Rattle.cmd_dispatch.specs.Feeds.{line_of, IsMade}
use Rattle.cmd_dispatch.specs.Sends.{HasKept, HasPassedOn, IsMaking, IsPartRead}
use Rattle.cmd_dispatch.proofs.SendLemmas.{command_passed, still_passed}

-- the line of a command adds the command to the items of the whole lines before it
abbrev pub TheMadeLaw : Type 0
TheMadeLaw = (p : Phase) (front : List ℕ) (t : Timed) → AreWhole front → IsWellFormed t → known p (front ++ (canonical t ++ 10 ∷ [])) ≡ known p front ++ item.Command t ∷ []

nothing_known : (p : Phase) → known p [] ≡ []
unfolding all_items split_lines
nothing_known Open = refl
nothing_known Finished = refl
nothing_known CutOff = refl

-- where fewer commands were made than fit into these bytes, one more fits
fits_one : (many bytes : ℕ) → many < bytes / LONGEST_MADE → (many + 1) * LONGEST_MADE ≤ bytes
fits_one many bytes low = omega arith

pub one_fits : (many from reads piece : ℕ) → from ≡ reads → many < (from * piece) / LONGEST_MADE → (many + 1) * LONGEST_MADE ≤ reads * piece
one_fits many from reads piece is low = subst (λ (r : ℕ). (many + 1) * LONGEST_MADE ≤ r * piece) is (fits_one many (from * piece) low)

-- before the first command
pub making_nothing : (remaining : Option (List ℕ)) (side : Sent) (refused : List (ℕ × LineFault) → Type 0) → side.list ≡ [] → refused [] → IsMaking remaining remaining 0 side refused
making_nothing remaining side refused sent nothing = record {
  text = [];
  consumed = Consumes-nil remaining;
  whole = inl refl;
  bound = omega arith;
  few = omega (arith, ap length sent);
  passed = λ p. subst (λ (g : List Item). HasPassedOn g side refused) (sym (nothing_known p)) (record { sent = sent; told = nothing });
}

-- a command was made and sent
pub made_more : TheMadeLaw → (before now next : Option (List ℕ)) (many : ℕ) (t : Timed) (side side' : Sent) (refused refused' : List (ℕ × LineFault) → Type 0) → IsMaking before now many side refused → IsMade t → Consumes now next (line_of t)
    → side' ≡ with_command side (length side.list + 1) t → HasKept refused refused' → IsMaking before next (many + 1) side' refused'
made_more law before now next many t side side' refused refused' was made read is kept = record {
  text = was.text ++ line_of t;
  consumed = Consumes-trans before now next was.text (line_of t) was.consumed read;
  whole = inr (was.text ++ canonical t, sym (append_assoc was.text (canonical t) (10 ∷ [])));
  bound = (let bound = was.bound in let short = made.1 in omega (arith, length-append was.text (line_of t)));
  few = (let few = was.few in omega (arith, ap (λ (s : Sent). length s.list) is, length-append side.list (Command (record { sender = side.sender; place = length side.list + 1; stamped = t }) ∷ [])));
  passed = λ p.
      subst (λ (g : List Item). HasPassedOn g side' refused') (sym (law p was.text t was.whole made.0))
      (command_passed (known p was.text) t (length side.list + 1) side side' refused' (still_passed (known p was.text) side side refused refused' refl kept (was.passed p)) refl is);
}

-- a command that was made comes next in the plan
pub made_in_plan : TheGrowthLaw → TheMadeLaw → (before now next : Option (List ℕ)) (many : ℕ) (t : Timed) (start side : Sent) (refused : List (ℕ × LineFault) → Type 0) → IsPlannedBy before start → side.queue ≡ start.queue → side.sender ≡ start.sender → IsMaking before now many side refused → IsMade t → Consumes now next (line_of t)
    → ComeFirst (planned_of side.queue.plan side.sender) (commands_in side.list ++ t ∷ [])
made_in_plan grows law before now next many t start side refused planned queue sender was made read =
    let place = length side.list + 1 in
    let sent = with_command side place t in
    let more = made_more law before now next many t side sent refused refused was made read refl (λ lines told. told) in
    command_next side place t (passed_in_plan (items_so_far more.text) sent refused (more.passed Open) (so_far_in_plan grows before next more.text sent (planned_still before start sent queue sender planned) more.consumed))

-- a command was made, and the queue refused it
pub made_refused : TheMadeLaw → (before now next : Option (List ℕ)) (fails : Bool) (piece reads many : ℕ) (t : Timed) (side side' : Sent) (refused refused' : List (ℕ × LineFault) → Type 0) → IsMaking before now many side refused → IsMade t → Consumes now next (line_of t)
    → (many + 1) * LONGEST_MADE ≤ reads * piece → side' ≡ side → HasKept refused refused' → IsPartRead before next fails piece reads side' refused'
made_refused law before now next fails piece reads many t side side' refused refused' was made read room same kept = record {
  text = was.text ++ line_of t;
  consumed = Consumes-trans before now next was.text (line_of t) was.consumed read;
  bound = (let bound = was.bound in let short = made.1 in omega (arith, length-append was.text (line_of t)));
  given = items_so_far was.text;
  first = inl (item.Command t ∷ [], law Open was.text t was.whole made.0);
  passed = still_passed (items_so_far was.text) side side' refused refused' same kept (was.passed Open);
}
