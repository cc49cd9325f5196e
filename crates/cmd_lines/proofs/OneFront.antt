-- A text has one front at most that ends with the line of its n-th command.
use Rattle.std.proofs.Common.{◌≡◌, ℕ, zero, suc, ◌+◌, ◌⊎◌, List, [], ◌∷◌, ◌++◌, length, Option, Some, inl, inr, refl, sym, ap, subst, ◌∙◌, arith, append_assoc, length-append}
use Rattle.std.proofs.lemmas.List.{append-nil}
use Rattle.cmd_types.specs.Bytes.{Lacks}
use Rattle.cmd_types.specs.Laws.{Laws}
use Rattle.cmd_types.specs.Spelling.{Timed}
use Rattle.cmd_lines.specs.declared.phase.Phase.TheVariants.{Finished}
use Rattle.cmd_lines.specs.declared.skip.Skipped.{Skipped}
use Rattle.cmd_lines.specs.Items.{items, commands}
use Rattle.cmd_lines.specs.Skips.{AreWhole, line_count, EndsWithCommand, IsSkipped}
use Rattle.cmd_lines.proofs.SkipLaws.{whole_commands}
use Rattle.cmd_lines.proofs.SkippedLaws.{whole_and_line, up_to_commands, skipped}

-- the first is the beginning of the second, which has so much more
abbrev IsLonger : List ℕ → List ℕ → List ℕ → List ℕ → Type 0
IsLonger xs ys zs ws = (d : List ℕ) × (zs ≡ xs ++ d) × (ys ≡ d ++ ws)

longer_by : (x z : ℕ) (xs ys zs ws : List ℕ) → x ≡ z → IsLonger xs ys zs ws → IsLonger (x ∷ xs) ys (z ∷ zs) ws
longer_by x z xs ys zs ws same h = (h.0, ap (λ (r : List ℕ). z ∷ r) h.1 ∙ ap (λ (y : ℕ). y ∷ (xs ++ h.0)) (sym same), h.2)

-- of two beginnings of a text one begins with the other
comparable : (xs ys zs ws : List ℕ) → xs ++ ys ≡ zs ++ ws → IsLonger xs ys zs ws ⊎ IsLonger zs ws xs ys
comparable [] ys zs ws e = inl (zs, refl, e)
comparable (x ∷ xs) ys [] ws e = inr (x ∷ xs, refl, sym e)
comparable (x ∷ xs) ys (z ∷ zs) ws e =
    let same : x ≡ z = cc in
    let others : xs ++ ys ≡ zs ++ ws = cc in
    by same (comparable xs ys zs ws others)
  where
    by : x ≡ z → IsLonger xs ys zs ws ⊎ IsLonger zs ws xs ys → IsLonger (x ∷ xs) ys (z ∷ zs) ws ⊎ IsLonger (z ∷ zs) ws (x ∷ xs) ys
    by same (inl h) = inl (longer_by x z xs ys zs ws same h)
    by same (inr h) = inr (longer_by z x zs ws xs ys (sym same) h)

not_last : (q : List ℕ) (x : ℕ) (d : List ℕ) → Lacks 10 (x ∷ d) → 10 ∷ [] ≡ q ++ (x ∷ d) → ⊥
not_last [] x d lacks e = lacks.0 (let same : x ≡ 10 = cc in same)
not_last (y ∷ q) x d lacks e = absurd (omega (arith, ap (λ (r : List ℕ). length r) e, length-append q (x ∷ d)))

-- the bytes at the end of whole lines that lack a line feed are none
end_lacking : Laws → (xs ys d : List ℕ) → Lacks 10 d → ys ++ d ≡ xs ++ (10 ∷ []) → d ≡ []
end_lacking laws xs ys [] lacks e = refl
end_lacking laws xs ys (x ∷ d) lacks e = absurd (by (comparable xs (10 ∷ []) ys (x ∷ d) (sym e)))
  where
    by : IsLonger xs (10 ∷ []) ys (x ∷ d) ⊎ IsLonger ys (x ∷ d) xs (10 ∷ []) → ⊥
    by (inl h) = not_last h.0 x d lacks h.2
    by (inr h) = (laws.lacking.back 10 h.0 (10 ∷ []) (subst (Lacks 10) h.2 lacks)).0 refl

counted : Laws → (n : ℕ) (front : List ℕ) (t : Timed) → EndsWithCommand n front t → length (commands (items front)) ≡ n + 1
counted laws n front t e = omega (arith, e.count, ap (λ (r : List Timed). length r) (up_to_commands laws n front t e), length-append (commands (items e.before)) (t ∷ []))

-- a front that begins with another is that one
no_longer : Laws → (n : ℕ) (front other d : List ℕ) (t u : Timed) → EndsWithCommand n front t → EndsWithCommand n other u → other ≡ front ++ d → d ≡ []
no_longer laws n front other d t u e o is = by (comparable front d o.before (o.line ++ (10 ∷ [])) (sym is ∙ o.parts))
  where
    whole : AreWhole front
    whole = subst (λ (r : List ℕ). AreWhole r) (sym e.parts) (whole_and_line e.before e.line)

    ends : front ≡ (e.before ++ e.line) ++ (10 ∷ [])
    ends = e.parts ∙ sym (append_assoc e.before e.line (10 ∷ []))

    fewer : (k : List ℕ) → o.before ≡ front ++ k → ⊥
    fewer k more = absurd (
        omega (
          arith,
          counted laws n front t e,
          o.count,
          ap (λ (r : List ℕ). length (commands (items r))) more,
          ap (λ (r : List Timed). length r) (whole_commands laws Finished front k whole),
          length-append (commands (items front)) (commands (items k)),
        )
        )

    lacking : (k : List ℕ) → front ≡ o.before ++ k → Lacks 10 k → ⊥
    lacking k more lacks =
        let none : k ≡ [] = end_lacking laws (e.before ++ e.line) o.before k lacks (sym more ∙ ends) in
        let same : front ≡ o.before = more ∙ ap (λ (r : List ℕ). o.before ++ r) none ∙ append-nil o.before in
        fewer [] (sym same ∙ sym (append-nil front))

    last : (k q : List ℕ) → front ≡ o.before ++ k → k ≡ o.line ++ q → 10 ∷ [] ≡ q ++ d → d ≡ []
    last k [] more begins feed = absurd (lacking k more (subst (Lacks 10) (sym (begins ∙ append-nil o.line)) o.one))
    last k (x ∷ q) more begins feed = none d (omega (arith, ap (λ (r : List ℕ). length r) feed, length-append q d))
      where
        none : (r : List ℕ) → length r ≡ 0 → r ≡ []
        none [] e = refl
        none (x ∷ r) e = absurd (omega (arith, e))

    inner : (k : List ℕ) → front ≡ o.before ++ k → IsLonger k d o.line (10 ∷ []) ⊎ IsLonger o.line (10 ∷ []) k d → d ≡ []
    inner k more (inl h) = absurd (lacking k more (laws.lacking.front 10 k h.0 (subst (Lacks 10) h.1 o.one)))
    inner k more (inr h) = last k h.0 more h.1 h.2

    by : IsLonger front d o.before (o.line ++ (10 ∷ [])) ⊎ IsLonger o.before (o.line ++ (10 ∷ [])) front d → d ≡ []
    by (inl h) = absurd (fewer h.0 h.1)
    by (inr h) = inner h.0 h.1 (comparable h.0 d o.line (10 ∷ []) (sym h.2))

last_same : (xs ys : List Timed) (t u : Timed) → length xs ≡ length ys → xs ++ (t ∷ []) ≡ ys ++ (u ∷ []) → t ≡ u
last_same [] [] t u e same = cc
last_same [] (y ∷ ys) t u e same = absurd (omega (arith, e))
last_same (x ∷ xs) [] t u e same = absurd (omega (arith, e))
last_same (x ∷ xs) (y ∷ ys) t u e same =
    let others : xs ++ (t ∷ []) ≡ ys ++ (u ∷ []) = cc in
    last_same xs ys t u (omega (arith, e)) others

same_skipped : (s s' : Skipped) → s.bytes ≡ s'.bytes → s.lines ≡ s'.lines → s.last ≡ s'.last → s ≡ s'
same_skipped s s' bytes lines last = ap (λ (b : ℕ). skipped b s.lines s.last) bytes ∙ ap (λ (l : ℕ). skipped s'.bytes l s.last) lines ∙ ap (λ (o : Option Timed). skipped s'.bytes s'.lines o) last

by_front : (n : ℕ) (text : List ℕ) (s s' : Skipped) → (k : IsSkipped text n s) → (o : IsSkipped text n s') → k.front ≡ o.front → s.last ≡ s'.last → s ≡ s'
by_front n text s s' k o same last =
    same_skipped s s' (k.bytes ∙ ap (λ (r : List ℕ). length r) same ∙ sym o.bytes) (k.lines ∙ ap line_count same ∙ sym o.lines) last

pub one_front : Laws → (n : ℕ) (text : List ℕ) (s s' : Skipped) → IsSkipped text n s → IsSkipped text n s' → s ≡ s'
one_front laws zero text s s' k o = by_front zero text s s' k o (k.up_to.0 ∙ sym o.up_to.0) (k.up_to.1 ∙ sym o.up_to.1)
one_front laws (suc n) text s s' k o = by_front (suc n) text s s' k o same (k.up_to.1 ∙ ap (λ (t : Timed). Some t) last ∙ sym o.up_to.1)
  where
    by : IsLonger k.front k.rest o.front o.rest ⊎ IsLonger o.front o.rest k.front k.rest → k.front ≡ o.front
    by (inl h) =
        let none = no_longer laws n k.front o.front h.0 k.up_to.0 o.up_to.0 k.up_to.2 o.up_to.2 h.1 in
        sym (h.1 ∙ ap (λ (r : List ℕ). k.front ++ r) none ∙ append-nil k.front)
    by (inr h) =
        let none = no_longer laws n o.front k.front h.0 o.up_to.0 k.up_to.0 o.up_to.2 k.up_to.2 h.1 in
        h.1 ∙ ap (λ (r : List ℕ). o.front ++ r) none ∙ append-nil o.front

    same : k.front ≡ o.front
    same = by (comparable k.front k.rest o.front o.rest (sym k.parts ∙ o.parts))

    last : k.up_to.0 ≡ o.up_to.0
    last =
        let e = k.up_to.2 in
        let u = o.up_to.2 in
        last_same (commands (items e.before)) (commands (items u.before)) k.up_to.0 o.up_to.0 (e.count ∙ sym u.count)
        (sym (up_to_commands laws n k.front k.up_to.0 e) ∙ ap (λ (r : List ℕ). commands (items r)) same ∙ up_to_commands laws n o.front o.up_to.0 u)
