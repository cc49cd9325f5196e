-- The command that the clock makes has a short line, and a feed of which nothing is known may make any command.
use Rattle.std.proofs.Common.{◌≡◌, ◌≤◌, ℕ, [], ◌∷◌, ◌++◌, length, sym, refl, subst, arith, length-append}
use Rattle.std.specs.Fmt.{decimal}
use Rattle.std.proofs.lemmas.Fmt.{length-decimal-le}
use Rattle.cmd_types.specs.Spelling.{Timed, IsWellFormed, canonical, texts}
use Rattle.cmd_types.specs.Table.{name_text, name_of, arguments_of}
use Rattle.cmd_types.specs.declared.command.Command.TheVariants.{DelHostComment}
use Rattle.cmd_types.specs.declared.limits.TheConstants.{GREATEST_NUMBER}
use Rattle.cmd_dispatch.specs.declared.feed.TheConstants.{LONGEST_MADE}
use Rattle.cmd_dispatch.specs.Feeds.{line_of, IsMade}

abbrev tick : ℕ → Timed
tick now = record { time = now; command = DelHostComment 0 }

tick_short : (now : ℕ) → now ≤ GREATEST_NUMBER → length (line_of (tick now)) ≤ LONGEST_MADE
tick_short now low =
    let name = name_text (name_of (DelHostComment 0)) in
    let tail = texts (arguments_of (DelHostComment 0)) in
    let sixteen : length name ≡ 16 = refl in
    omega (
      arith,
      sixteen,
      length-append (canonical (tick now)) (10 ∷ []),
      length-append ((91 ∷ decimal now) ++ (93 ∷ 32 ∷ name)) tail,
      length-append (91 ∷ decimal now) (93 ∷ 32 ∷ name),
      length-append (59 ∷ decimal 0) [],
      length-decimal-le 20 now (omega arith) (omega arith) (omega arith),
      length-decimal-le 1 0 (omega arith) (omega arith) (omega arith),
    )

pub tick_made : (t : Timed) (now : ℕ) → t ≡ tick now → IsWellFormed t → IsMade t
tick_made t now is fits =
    (fits, subst (λ (u : Timed). length (line_of u) ≤ LONGEST_MADE) (sym is) (tick_short now (subst (λ (u : Timed). u.time ≤ GREATEST_NUMBER) is fits.time)))
