-- The line of the status on the moments of an object is known, with what withholds the notice of its problem.
use Rattle.std.proofs.Common.{◌≡◌, ℕ, ◌==◌, ◌≤◌, Bool, true, false, List, [], ◌∷◌, ◌++◌, Option, Some, None, refl, ap, ◌∙◌, arith, append-nil, codes, slice_get, nat_le}
use Rattle.std.specs.Prelude.{IfSome}
use Rattle.std.specs.Char.{is_ascii_digit}
use Rattle.std.specs.Fmt.{decimal}
use Rattle.std.specs.Option.{option_and_then}
use Rattle.std.specs.Str.{all_ascii_digits}
use Rattle.std.proofs.lemmas.Bool.{leb-true, eqb-true, and_parts}
use Rattle.cmd_types.specs.declared.limits.TheConstants.{GREATEST_NUMBER}
use Rattle.cmd_types.specs.Cuts.{before, after}
use Rattle.cmd_types.specs.Laws.{Laws}
use Rattle.mon_inventory.specs.declared.records.ObjectSpec.{ObjectSpec}
use Rattle.mon_inventory.specs.Configuration.{Configuration}
use Rattle.mon_engine.specs.declared.object.Object.{Object}
use Rattle.mon_engine.specs.declared.withheld.Withheld.{Withheld}
use Rattle.mon_engine.specs.Report.{optional}
use Rattle.mon_engine.specs.Saved.{AreMoments}
use Rattle.mon_engine.specs.Status.{withheld_now, times_line}
use Rattle.mon_engine.specs.Words.{withheld_text}
use Rattle.mon_engine.specs.World.{World}
use Rattle.cmd_explain.specs.declared.known.KnownLine.TheVariants.{Times}
use Rattle.cmd_explain.specs.Times.{is_moment, behind_moment, withheld_of, times_of}
use Rattle.cmd_explain.specs.Explained.{known_line}
use Rattle.cmd_explain.specs.Laws.{IsKnownAs}
use Rattle.cmd_explain.proofs.LawLemmas.{finds_all}

-- ---- a moment and its semicolon

of_digits : (ds : List ℕ) → all_ascii_digits ds ≡ true → is_moment ds ≡ true
of_digits [] h = refl
of_digits (d ∷ ds) h = let a = and_parts (is_ascii_digit d) (all_ascii_digits ds) h in rw a.0 (of_digits ds a.1)

no_semicolon : (b : ℕ) → is_ascii_digit b ≡ true → (b == 59) ≡ false
no_semicolon b h = by (b == 59) refl
  where
    low : b ≤ 57
    low = leb-true b 57 (and_parts (nat_le 48 b) (nat_le b 57) h).1

    by : (t : Bool) → (b == 59) ≡ t → (b == 59) ≡ false
    by false e = e
    by true e = absurd (omega (arith, low, eqb-true b 59 e))

before_moment : (ds rest : List ℕ) → is_moment ds ≡ true → before 59 (ds ++ 59 ∷ rest) ≡ ds
before_moment [] rest h = refl
before_moment (d ∷ ds) rest h =
    let a = and_parts (is_ascii_digit d) (is_moment ds) h in
    rw (no_semicolon d a.0) (ap (λ (t : List ℕ). d ∷ t) (before_moment ds rest a.1))

after_moment : (ds rest : List ℕ) → is_moment ds ≡ true → after 59 (ds ++ 59 ∷ rest) ≡ Some rest
after_moment [] rest h = refl
after_moment (d ∷ ds) rest h =
    let a = and_parts (is_ascii_digit d) (is_moment ds) h in
    rw (no_semicolon d a.0) (after_moment ds rest a.1)

behind_one : (ds rest : List ℕ) → is_moment ds ≡ true → behind_moment (ds ++ 59 ∷ rest) ≡ Some rest
behind_one ds rest h = rw (before_moment ds rest h, h) (after_moment ds rest h)

-- ---- a line of four moments and a word

times_read : (a b c d rest : List ℕ) → is_moment a ≡ true → is_moment b ≡ true → is_moment c ≡ true → is_moment d ≡ true → times_of (codes "times;" ++ (a ++ 59 ∷ (b ++ 59 ∷ (c ++ 59 ∷ (d ++ 59 ∷ rest))))) ≡ withheld_of rest
times_read a b c d rest ha hb hc hd =
    ap (λ (o : Option (List ℕ)). option_and_then withheld_of (option_and_then behind_moment (option_and_then behind_moment (option_and_then behind_moment o)))) (behind_one a _ ha)
    ∙ ap (λ (o : Option (List ℕ)). option_and_then withheld_of (option_and_then behind_moment (option_and_then behind_moment o))) (behind_one b _ hb)
    ∙ ap (λ (o : Option (List ℕ)). option_and_then withheld_of (option_and_then behind_moment o)) (behind_one c _ hc)
    ∙ ap (λ (o : Option (List ℕ)). option_and_then withheld_of o) (behind_one d rest hd)

module _ (laws : Laws) where
  is_moment_of : (o : Option ℕ) → IfSome o (λ n. n ≤ GREATEST_NUMBER) → is_moment (optional o) ≡ true
  is_moment_of None small = refl
  is_moment_of (Some n) small = of_digits (decimal n) (laws.numbers.by_decimal n small).digits

  -- a line with these moments and the word for this
  abbrev times_text : (checked : Option ℕ) → (changed : ℕ) → (since last : Option ℕ) → Option Withheld → List ℕ
  times_text checked changed since last w = codes "times;" ++ (optional checked ++ 59 ∷ (decimal changed ++ 59 ∷ (optional since ++ 59 ∷ (optional last ++ 59 ∷ (withheld_text w ++ [])))))

  text_read : (checked : Option ℕ) (changed : ℕ) (since last : Option ℕ) (w : Option Withheld) → IfSome checked (λ n. n ≤ GREATEST_NUMBER) → changed ≤ GREATEST_NUMBER → IfSome since (λ n. n ≤ GREATEST_NUMBER) → IfSome last (λ n. n ≤ GREATEST_NUMBER) → times_of (times_text checked changed since last w) ≡ Some w
  text_read checked changed since last w h k l m =
      times_read (optional checked) (decimal changed) (optional since) (optional last) (withheld_text w ++ []) (is_moment_of checked h) (is_moment_of (Some changed) k) (is_moment_of since l) (is_moment_of last m)
      ∙ ap withheld_of (append-nil (withheld_text w))
      ∙ finds_all.withheld w

  text_known : (checked : Option ℕ) (changed : ℕ) (since last : Option ℕ) (w : Option Withheld) → times_of (times_text checked changed since last w) ≡ Some w → known_line (times_text checked changed since last w) ≡ Some (Times w)
  unfolding known_line
  text_known checked changed since last w read = rw read refl

  pub times_known : (inv : Configuration) (w : World) (object : ℕ) (spec : ObjectSpec) (o : Object) → slice_get inv.objects object ≡ Some spec → slice_get w.objects object ≡ Some o → AreMoments o.moments → IfSome o.last (λ moment. moment ≤ GREATEST_NUMBER) → IsKnownAs (times_line inv w object) (Times (withheld_now inv w object o))
  unfolding times_line
  times_known inv w object spec o known there moments last =
      let by = withheld_now inv w object o in
      let of = o.moments in (
        times_text of.checked of.changed of.since o.last by,
        rw (known, there) refl,
        text_known of.checked of.changed of.since o.last by (text_read of.checked of.changed of.since o.last by moments.checked moments.changed moments.since last),
      )
