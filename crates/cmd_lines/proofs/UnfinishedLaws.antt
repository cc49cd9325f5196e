-- What is kept of a line that is not finished reads as the line does.
use Rattle.std.proofs.Common.{◌≡◌, ℕ, ◌+◌, ◌<◌, ◌≤◌, Bool, true, false, cond, ltb, List, [], ◌∷◌, ◌++◌, length, take, drop, replicate, ◌⊎◌, inl, inr, refl, sym, ap, subst, ◌∙◌, arith, append_assoc, length-append}
use Rattle.std.proofs.lemmas.Bool.{lt-ltb, le-ltb, ltb-true}
use Rattle.std.proofs.lemmas.List.{append-nil, take-append-drop}
use Rattle.cmd_types.specs.Bytes.{Lacks, before_rest, without_returns}
use Rattle.cmd_types.specs.declared.limits.TheConstants.{LONGEST_LINE}
use Rattle.cmd_lines.specs.declared.fault.LineFault.TheVariants.{TooLong, Torn}
use Rattle.cmd_lines.specs.declared.phase.Phase.{Phase}
use Rattle.cmd_lines.specs.declared.phase.Phase.TheVariants.{Open, Finished, CutOff}
use Rattle.cmd_lines.specs.declared.item.Item.{Item}
use Rattle.cmd_lines.specs.declared.item.Item.TheVariants as item
use Rattle.cmd_lines.specs.Items.{item_of, if_some, line_items, torn_items, last_items, items_from}
use Rattle.cmd_lines.specs.Unfinished.{last_line, is_lost, in_place, ReadAlike}
use Rattle.cmd_lines.proofs.FaultIsRead.{fault_read}
use Rattle.cmd_lines.proofs.PassLaws.{by_lines, last_line_one, last_line_next, last_is, first_line, some_is}
use Rattle.cmd_lines.proofs.StandLaws.{item_refused}
use Rattle.cmd_types.specs.Laws.{Laws}

-- ---- lines with the same items: the same but for returns at the end, or both too long

abbrev SameLine : List ℕ → List ℕ → Type 0
SameLine x y = (without_returns x ≡ without_returns y) ⊎ ((LONGEST_LINE < length (without_returns x)) × (LONGEST_LINE < length (without_returns y)))

too_long : Laws → (n : ℕ) (line : List ℕ) → LONGEST_LINE < length line → (if_some line (item_of n line) ≡ item.Refused n TooLong ∷ []) × (if_some line (item.Refused n (cond (ltb LONGEST_LINE (length line)) TooLong Torn)) ≡ item.Refused n TooLong ∷ [])
too_long laws n line long =
    let some : 0 < length line = omega arith in (
      some_is line (item_of n line) some ∙ ap (λ (i : Item). i ∷ []) (item_refused n line TooLong (fault_read laws line TooLong (inl (refl, long)))),
      some_is line (item.Refused n (cond (ltb LONGEST_LINE (length line)) TooLong Torn)) some ∙ ap (λ (b : Bool). item.Refused n (cond b TooLong Torn) ∷ []) (lt-ltb LONGEST_LINE (length line) long),
    )

same_items : Laws → (n : ℕ) (x y : List ℕ) → SameLine x y → (line_items n x ≡ line_items n y) × (torn_items n x ≡ torn_items n y)
same_items laws n x y (inl same) = (
  ap (λ (w : List ℕ). if_some w (item_of n w)) same,
  ap (λ (w : List ℕ). if_some w (item.Refused n (cond (ltb LONGEST_LINE (length w)) TooLong Torn))) same,
)
same_items laws n x y (inr long) =
    let here = too_long laws n (without_returns x) long.0 in
    let there = too_long laws n (without_returns y) long.1 in
    (here.0 ∙ sym there.0, here.1 ∙ sym there.1)

same_last : Laws → (e : Phase) (n : ℕ) (x y : List ℕ) → SameLine x y → last_items e n x ≡ last_items e n y
same_last laws Open n x y same = refl
same_last laws Finished n x y same = (same_items laws n x y same).0
same_last laws CutOff n x y same = (same_items laws n x y same).1

-- a line of which bytes are lost is too long
lost_line : Laws → (n : ℕ) (rest : List ℕ) → LONGEST_LINE < length rest → (line_items n (rest ++ 120 ∷ []) ≡ item.Refused n TooLong ∷ []) × (torn_items n (rest ++ 120 ∷ []) ≡ item.Refused n TooLong ∷ [])
lost_line laws n rest long =
    let line = rest ++ 120 ∷ [] in
    let whole : without_returns line ≡ line = laws.returns.kept rest 120 (λ x. absurd cc) in
    let both = too_long laws n line (omega (arith, length-append rest (120 ∷ []))) in (
      ap (λ (w : List ℕ). if_some w (item_of n w)) whole ∙ both.0,
      ap (λ (w : List ℕ). if_some w (item.Refused n (cond (ltb LONGEST_LINE (length w)) TooLong Torn))) whole ∙ both.1,
    )

pub lost_items : Laws → (e : Phase) (n : ℕ) (rest : List ℕ) → (e ≡ Open → ⊥) → LONGEST_LINE < length rest → last_items e n (rest ++ 120 ∷ []) ≡ item.Refused n TooLong ∷ []
lost_items laws Open n rest ended long = absurd (ended refl)
lost_items laws Finished n rest ended long = (lost_line laws n rest long).0
lost_items laws CutOff n rest ended long = (lost_line laws n rest long).1

-- however both go on
abbrev GoOnAlike : List ℕ → List ℕ → Type 0
GoOnAlike u w = (v : List ℕ) → SameLine (u ++ v) (w ++ v)

lines_alike : Laws → (u w : List ℕ) → Lacks 10 u → Lacks 10 w → GoOnAlike u w → ReadAlike u w
lines_alike laws u w lacks others alike e n =
    by_lines laws (λ (t : List ℕ). items_from e n (u ++ t) ≡ items_from e n (w ++ t))
    (λ line one. last_is laws e n (u ++ line) (laws.lacking.join 10 u line lacks one) ∙ same_last laws e n (u ++ line) (w ++ line) (alike line) ∙ sym (last_is laws e n (w ++ line) (laws.lacking.join 10 w line others one)))
    (λ line rest one later.
    ap (items_from e n) (sym (append_assoc u line (10 ∷ rest)))
    ∙ first_line laws e n (u ++ line) rest (laws.lacking.join 10 u line lacks one)
    ∙ ap (λ (gs : List Item). gs ++ items_from e (n + 1) rest) (same_items laws n (u ++ line) (w ++ line) (alike line)).0
    ∙ sym (first_line laws e n (w ++ line) rest (laws.lacking.join 10 w line others one))
    ∙ ap (items_from e n) (append_assoc w line (10 ∷ rest)))

-- ---- behind lines

behind_line : Laws → (line xs ys : List ℕ) → Lacks 10 line → ReadAlike xs ys → ReadAlike (line ++ (10 ∷ xs)) (line ++ (10 ∷ ys))
behind_line laws line xs ys lacks alike e n more =
    ap (items_from e n) (append_assoc line (10 ∷ xs) more)
    ∙ first_line laws e n line (xs ++ more) lacks
    ∙ ap (λ (is' : List Item). line_items n line ++ is') (alike e (n + 1) more)
    ∙ sym (first_line laws e n line (ys ++ more) lacks)
    ∙ ap (items_from e n) (sym (append_assoc line (10 ∷ ys) more))

pub ended_alike : Laws → (text xs ys : List ℕ) → ReadAlike xs ys → ReadAlike (text ++ (10 ∷ xs)) (text ++ (10 ∷ ys))
ended_alike laws text xs ys alike =
    by_lines laws (λ (t : List ℕ). ReadAlike (t ++ (10 ∷ xs)) (t ++ (10 ∷ ys))) (λ line one. behind_line laws line xs ys one alike)
    (λ line rest one later. rw (append_assoc line (10 ∷ rest) (10 ∷ xs), append_assoc line (10 ∷ rest) (10 ∷ ys)) (behind_line laws line (rest ++ (10 ∷ xs)) (rest ++ (10 ∷ ys)) one later)) text

-- what goes on alike behind the last line of a text goes on alike behind the text
last_alike : Laws → (text u w : List ℕ) → Lacks 10 u → Lacks 10 w → GoOnAlike (last_line text ++ u) (last_line text ++ w) → ReadAlike (text ++ u) (text ++ w)
last_alike laws text u w lacks others =
    by_lines laws (λ (t : List ℕ). GoOnAlike (last_line t ++ u) (last_line t ++ w) → ReadAlike (t ++ u) (t ++ w))
    (λ line one alike. lines_alike laws (line ++ u) (line ++ w) (laws.lacking.join 10 line u one lacks) (laws.lacking.join 10 line w one others) (subst (λ (t : List ℕ). GoOnAlike (t ++ u) (t ++ w)) (last_line_one laws line one) alike))
    (λ line rest one later alike. rw (append_assoc line (10 ∷ rest) u, append_assoc line (10 ∷ rest) w) (behind_line laws line (rest ++ u) (rest ++ w) one (later (subst (λ (t : List ℕ). GoOnAlike (t ++ u) (t ++ w)) (last_line_next laws line rest one) alike)))) text

-- ---- a line whose end is cut

-- behind a byte that is no return all bytes count
over : (a s : List ℕ) → 0 < length (without_returns s) → length a + length (without_returns s) ≤ length (without_returns (a ++ s))
over [] s some = omega arith
over (x ∷ a) s some = let later = over a s some in omega (arith, one_more x (without_returns (a ++ s)) (omega (arith, later)))
  where
    one_more : (x : ℕ) (ys : List ℕ) → 0 < length ys → length (before_rest x ys) ≡ 1 + length ys
    one_more x [] lt = absurd (omega arith)
    one_more x (y ∷ ys) lt = omega arith

-- bytes of which one is no return are so whatever follows
other_stays : Laws → (s v : List ℕ) → 0 < length (without_returns s) → 0 < length (without_returns (s ++ v))
other_stays laws s v some = by (without_returns v) refl
  where
    by : (r : List ℕ) → without_returns v ≡ r → 0 < length (without_returns (s ++ v))
    by [] none =
        let split = laws.returns.split v in
        let returns : v ≡ replicate split.0 13 = split.1 ∙ ap (λ (t : List ℕ). t ++ replicate split.0 13) none in
        let same : without_returns (s ++ v) ≡ without_returns s = ap (λ (t : List ℕ). without_returns (s ++ t)) returns ∙ laws.returns.dropped s split.0 in
        omega (arith, ap length same)
    by (x ∷ r) is = (let later = over s v (omega (arith, ap length is)) in omega (arith, later, ap length is))

both_long : Laws → (a b s t : List ℕ) → LONGEST_LINE < length a → LONGEST_LINE < length b → 0 < length (without_returns s) → 0 < length (without_returns t) → GoOnAlike (a ++ s) (b ++ t)
both_long laws a b s t long longer some other v =
    rw (append_assoc a s v, append_assoc b t v)
    (let first = over a (s ++ v) (other_stays laws s v some) in let second = over b (t ++ v) (other_stays laws t v other) in inr (omega (arith, first), omega (arith, second)))

-- returns behind the longest line
returns_alike : Laws → (a : List ℕ) (j : ℕ) → LONGEST_LINE < length a → GoOnAlike (a ++ replicate j 13) a
returns_alike laws a j long v = by (without_returns v) refl
  where
    by : (r : List ℕ) → without_returns v ≡ r → SameLine ((a ++ replicate j 13) ++ v) (a ++ v)
    by [] none =
        let split = laws.returns.split v in
        let returns : v ≡ replicate split.0 13 = split.1 ∙ ap (λ (t : List ℕ). t ++ replicate split.0 13) none in
        inl (rw returns (laws.returns.dropped (a ++ replicate j 13) split.0 ∙ laws.returns.dropped a j ∙ sym (laws.returns.dropped a split.0)))
    by (x ∷ r) is =
        let some : 0 < length (without_returns v) = omega (arith, ap length is) in
        let first = over (a ++ replicate j 13) v some in
        let second = over a v some in
        inr (omega (arith, first, length-append a (replicate j 13)), omega (arith, second))

cut_alike : Laws → (a d : List ℕ) → (0 < length d → LONGEST_LINE < length a) → GoOnAlike (a ++ d) (a ++ in_place (is_lost d))
cut_alike laws a [] long v = inl refl
cut_alike laws a (x ∷ d) long v = by (without_returns (x ∷ d)) refl
  where
    by : (r : List ℕ) → without_returns (x ∷ d) ≡ r → SameLine ((a ++ (x ∷ d)) ++ v) ((a ++ in_place (is_lost (x ∷ d))) ++ v)
    by [] none =
        let split = laws.returns.split (x ∷ d) in
        let returns : x ∷ d ≡ replicate split.0 13 = split.1 ∙ ap (λ (t : List ℕ). t ++ replicate split.0 13) none in
        let not_lost : is_lost (x ∷ d) ≡ false = le-ltb 0 (length (without_returns (x ∷ d))) (omega (arith, ap length none)) in
        rw (not_lost, append-nil a) (rw returns (returns_alike laws a split.0 (long (omega arith)) v))
    by (y ∷ r) is =
        let lost : is_lost (x ∷ d) ≡ true = lt-ltb 0 (length (without_returns (x ∷ d))) (omega (arith, ap length is)) in
        rw lost (both_long laws a a (x ∷ d) (120 ∷ []) (long (omega arith)) (long (omega arith)) (omega (arith, ap length is)) (omega arith) v)

-- ---- what is kept of a text

pub in_place_lacks : (lost : Bool) → Lacks 10 (in_place lost)
in_place_lacks true = ((λ e. absurd cc), tt)
in_place_lacks false = tt

-- the last line goes on, and its end is cut
pub go_on_alike : Laws → (text : List ℕ) (lost : Bool) (front back : List ℕ) → (lost ≡ true → LONGEST_LINE < length (last_line text)) → (0 < length back → LONGEST_LINE < length (last_line text ++ front)) → Lacks 10 front → Lacks 10 back
    → ReadAlike ((text ++ in_place lost) ++ (front ++ back)) ((text ++ front) ++ in_place (cond lost true (is_lost back)))
go_on_alike laws text true front back full long lacks others =
    let behind = both_long laws (last_line text) (last_line text ++ front) (120 ∷ (front ++ back)) (120 ∷ []) (full refl) (let f = full refl in omega (arith, f, length-append (last_line text) front)) (other_stays laws (120 ∷ []) (front ++ back) (omega arith)) (omega arith) in
    let whole = last_alike laws text (120 ∷ (front ++ back)) (front ++ 120 ∷ []) ((λ e. absurd cc), laws.lacking.join 10 front back lacks others) (laws.lacking.join 10 front (120 ∷ []) lacks ((λ e. absurd cc), tt)) (rw (← append_assoc (last_line text) front (120 ∷ [])) behind) in
    rw (append_assoc text (120 ∷ []) (front ++ back), append_assoc text front (120 ∷ [])) whole
go_on_alike laws text false front back full long lacks others =
    let behind = cut_alike laws (last_line text ++ front) back long in
    let whole = last_alike laws text (front ++ back) (front ++ in_place (is_lost back)) (laws.lacking.join 10 front back lacks others) (laws.lacking.join 10 front (in_place (is_lost back)) lacks (in_place_lacks (is_lost back)))
    (rw (← append_assoc (last_line text) front back, ← append_assoc (last_line text) front (in_place (is_lost back))) behind) in
    rw (append-nil text, append_assoc text front (in_place (is_lost back))) whole

-- the last line ends, and the end of another line is cut
pub ended_cut : Laws → (text line front back : List ℕ) → Lacks 10 front → Lacks 10 back → (0 < length back → LONGEST_LINE < length front)
    → ReadAlike (text ++ ((line ++ 10 ∷ []) ++ (front ++ back))) (((text ++ (line ++ 10 ∷ [])) ++ front) ++ in_place (is_lost back))
ended_cut laws text line front back lacks others long =
    let alike = lines_alike laws (front ++ back) (front ++ in_place (is_lost back)) (laws.lacking.join 10 front back lacks others) (laws.lacking.join 10 front (in_place (is_lost back)) lacks (in_place_lacks (is_lost back))) (cut_alike laws front back long) in
    let whole = ended_alike laws (text ++ line) (front ++ back) (front ++ in_place (is_lost back)) alike in
    let before_is : text ++ ((line ++ 10 ∷ []) ++ (front ++ back)) ≡ (text ++ line) ++ (10 ∷ (front ++ back)) = simp append_assoc in
    let after_is : ((text ++ (line ++ 10 ∷ [])) ++ front) ++ in_place (is_lost back) ≡ (text ++ line) ++ (10 ∷ (front ++ in_place (is_lost back))) = simp append_assoc in
    rw (before_is, after_is) whole

-- bytes of which one is no return are some
pub lost_some : Laws → (back : List ℕ) → is_lost back ≡ true → 0 < length back
lost_some laws back lost =
    let some : 0 < length (without_returns back) = ltb-true _ _ lost in
    let split = laws.returns.split back in
    omega (arith, some, ap length split.1, length-append (without_returns back) (replicate split.0 13))

pub cut_lacks : Laws → (room : ℕ) (piece : List ℕ) → Lacks 10 piece → Lacks 10 (take room piece) × Lacks 10 (drop room piece)
cut_lacks laws room piece lacks =
    let parts : Lacks 10 (take room piece ++ drop room piece) = rw (take-append-drop room piece) lacks in
    (laws.lacking.front 10 (take room piece) (drop room piece) parts, laws.lacking.back 10 (take room piece) (drop room piece) parts)

pub left_lacks : Laws → (rest : List ℕ) (lost : Bool) → Lacks 10 rest → Lacks 10 (rest ++ in_place lost)
left_lacks laws rest lost lacks = laws.lacking.join 10 rest (in_place lost) lacks (in_place_lacks lost)
