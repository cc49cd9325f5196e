-- The lines of a text, its last line, and lines that pass one after another.
use Rattle.std.proofs.Common.{◌≡◌, ℕ, ◌+◌, ◌<◌, ◌≤◌, Bool, true, false, cond, eqb, List, [], ◌∷◌, ◌++◌, length, drop, Option, Some, inl, inr, refl, sym, ap, subst, ◌∙◌, arith, append_assoc, length-append}
use Rattle.std.specs.List.{onto_first}
use Rattle.std.proofs.Math.Seq.{drop-append_seam}
use Rattle.cmd_types.specs.Bytes.{Lacks}
use Rattle.cmd_types.specs.Cuts.{IsCut}
use Rattle.cmd_types.specs.TextLines.{split_lines, joined, AreParts, IsFirstLine}
use Rattle.cmd_lines.specs.declared.phase.Phase.{Phase}
use Rattle.cmd_lines.specs.declared.item.Item.{Item}
use Rattle.cmd_lines.specs.Items.{if_some, line_items, last_items, all_items, items_from}
use Rattle.cmd_lines.specs.Skips.{AreWhole}
use Rattle.cmd_lines.specs.Steps.{Passes}
use Rattle.cmd_lines.specs.Unfinished.{last_of, last_line}
use Rattle.cmd_types.specs.Laws.{Laws}

-- ---- a text is a line, or a line before a text

parts_by_lines : (P : List ℕ → Type 0) → ((line : List ℕ) → Lacks 10 line → P line) → ((line rest : List ℕ) → Lacks 10 line → P rest → P (line ++ (10 ∷ rest))) → (ps : List (List ℕ)) → AreParts ps → P (joined ps)
parts_by_lines P one next [] are = absurd are
parts_by_lines P one next (p ∷ []) are = one p are
parts_by_lines P one next (p ∷ (q ∷ ps)) are = next p (joined (q ∷ ps)) are.0 (parts_by_lines P one next (q ∷ ps) are.1)

pub by_lines : Laws → (P : List ℕ → Type 0) → ((line : List ℕ) → Lacks 10 line → P line) → ((line rest : List ℕ) → Lacks 10 line → P rest → P (line ++ (10 ∷ rest))) → (text : List ℕ) → P text
by_lines laws P one next text = let are = laws.lines.parts text in subst P are.1 (parts_by_lines P one next (split_lines text) are.0)

-- a text has a first line
record HasFirst (ps : List (List ℕ)) : Type 0 where
  first : List ℕ
  others : List (List ℕ)
  is : ps ≡ first ∷ others

onto_has : (x : ℕ) (ps : List (List ℕ)) → HasFirst (onto_first x ps)
onto_has x [] = record { first = x ∷ []; others = []; is = refl }
onto_has x (p ∷ ps) = record { first = x ∷ p; others = ps; is = refl }

split_lines_first : (xs : List ℕ) → HasFirst (split_lines xs)
unfolding split_lines
split_lines_first [] = record { first = []; others = []; is = refl }
split_lines_first (x ∷ xs) = here (eqb x 10)
  where
    here : (b : Bool) → HasFirst (cond b ([] ∷ split_lines xs) (onto_first x (split_lines xs)))
    here true = record { first = []; others = split_lines xs; is = refl }
    here false = onto_has x (split_lines xs)

-- ---- the last line

last_of_next : (line : List ℕ) (rest : List ℕ) → last_of (line ∷ split_lines rest) ≡ last_of (split_lines rest)
last_of_next line rest = let f = split_lines_first rest in rw f.is refl

pub last_line_next : Laws → (line rest : List ℕ) → Lacks 10 line → last_line (line ++ (10 ∷ rest)) ≡ last_line rest
unfolding last_line
last_line_next laws line rest lacks = ap last_of (laws.lines.ended line rest lacks) ∙ last_of_next line rest

pub last_line_one : Laws → (line : List ℕ) → Lacks 10 line → last_line line ≡ line
unfolding last_line
last_line_one laws line lacks = ap last_of (laws.lines.last line lacks)

pub last_line_ended : Laws → (xs ys : List ℕ) → last_line (xs ++ (10 ∷ ys)) ≡ last_line ys
last_line_ended laws xs ys =
    by_lines laws (λ (t : List ℕ). last_line (t ++ (10 ∷ ys)) ≡ last_line ys) (λ line one. last_line_next laws line ys one)
    (λ line rest one later. ap last_line (append_assoc line (10 ∷ rest) (10 ∷ ys)) ∙ last_line_next laws line (rest ++ (10 ∷ ys)) one ∙ later) xs

pub last_line_onto : Laws → (xs u : List ℕ) → Lacks 10 u → last_line (xs ++ u) ≡ last_line xs ++ u
last_line_onto laws xs u lacks =
    by_lines laws (λ (t : List ℕ). last_line (t ++ u) ≡ last_line t ++ u) (λ line one. last_line_one laws (line ++ u) (laws.lacking.join 10 line u one lacks) ∙ ap (λ (t : List ℕ). t ++ u) (sym (last_line_one laws line one)))
    (λ line rest one later. ap last_line (append_assoc line (10 ∷ rest) u) ∙ last_line_next laws line (rest ++ u) one ∙ later ∙ ap (λ (t : List ℕ). t ++ u) (sym (last_line_next laws line rest one))) xs

-- a text is lines and a last line
pub record HasLast (text : List ℕ) : Type 0 where
  pub front : List ℕ
  pub parts : text ≡ front ++ last_line text
  pub lines : AreWhole front
  pub one : Lacks 10 (last_line text)

line_first : (line front : List ℕ) → AreWhole front → AreWhole (line ++ (10 ∷ front))
line_first line front (inl none) = inr (line, ap (λ (t : List ℕ). line ++ (10 ∷ t)) none)
line_first line front (inr (lines, is)) = inr (line ++ (10 ∷ lines), ap (λ (t : List ℕ). line ++ (10 ∷ t)) is ∙ sym (append_assoc line (10 ∷ lines) (10 ∷ [])))

one_line : Laws → (line : List ℕ) → Lacks 10 line → HasLast line
one_line laws line one = record { front = []; parts = sym (last_line_one laws line one); lines = inl refl; one = rw (last_line_one laws line one) one }

line_more : Laws → (line rest : List ℕ) → Lacks 10 line → HasLast rest → HasLast (line ++ (10 ∷ rest))
line_more laws line rest one later =
    let next = last_line_next laws line rest one in
    record {
      front = line ++ (10 ∷ later.front);
      parts = ap (λ (t : List ℕ). line ++ (10 ∷ t)) later.parts ∙ sym (append_assoc line (10 ∷ later.front) (last_line rest)) ∙ ap (λ (t : List ℕ). (line ++ (10 ∷ later.front)) ++ t) (sym next);
      lines = line_first line later.front later.lines;
      one = rw next later.one;
    }

pub has_last : Laws → (text : List ℕ) → HasLast text
has_last laws = by_lines laws HasLast (one_line laws) (line_more laws)

pub last_line_short : Laws → (xs : List ℕ) → length (last_line xs) ≤ length xs
last_line_short laws xs = let h = has_last laws xs in omega (arith, ap length h.parts, length-append h.front (last_line xs))

-- nothing, or lines, and what follows them
pub last_at : Laws → (bytes front line : List ℕ) → bytes ≡ front ++ line → Lacks 10 line → AreWhole front → drop (length front) bytes ≡ last_line bytes
last_at laws bytes front line parts lacks (inl none) =
    let whole : bytes ≡ line = parts ∙ ap (λ (t : List ℕ). t ++ line) none in
    ap (λ (t : List ℕ). drop (length t) bytes) none ∙ whole ∙ sym (ap last_line whole ∙ last_line_one laws line lacks)
last_at laws bytes front line parts lacks (inr (lines, is)) =
    let whole : bytes ≡ lines ++ (10 ∷ line) = parts ∙ ap (λ (t : List ℕ). t ++ line) is ∙ append_assoc lines (10 ∷ []) line in
    ap (drop (length front)) parts ∙ drop-append_seam front line ∙ sym (ap last_line whole ∙ last_line_ended laws lines line ∙ last_line_one laws line lacks)

-- ---- items of lines

all_items_line : (e : Phase) (n : ℕ) (line rest : List ℕ) → all_items e n (line ∷ split_lines rest) ≡ line_items n line ++ all_items e (n + 1) (split_lines rest)
unfolding all_items
all_items_line e n line rest = let f = split_lines_first rest in rw f.is refl

pub last_is : Laws → (e : Phase) (n : ℕ) (line : List ℕ) → Lacks 10 line → items_from e n line ≡ last_items e n line
unfolding all_items
last_is laws e n line lacks = rw (laws.lines.last line lacks) refl

-- the first line of a text has its items
pub first_line : Laws → (p : Phase) (n : ℕ) (line rest : List ℕ) → Lacks 10 line → items_from p n (line ++ (10 ∷ rest)) ≡ line_items n line ++ items_from p (n + 1) rest
first_line laws p n line rest lacks = ap (all_items p n) (laws.lines.ended line rest lacks) ∙ all_items_line p n line rest

-- ---- lines that pass

pub pass_none : (n : ℕ) (xs : List ℕ) → Passes n xs [] n xs
pass_none n xs = record { front = []; parts = refl; onward = omega arith; counted = omega arith; last = refl; items = λ e more. refl }

pub pass_line : Laws → (n : ℕ) (line rest : List ℕ) → Lacks 10 line → Passes n (line ++ (10 ∷ rest)) (line_items n line) (n + 1) rest
pass_line laws n line rest lacks = record {
  front = line ++ (10 ∷ []);
  parts = sym (append_assoc line (10 ∷ []) rest);
  onward = omega arith;
  counted = omega (arith, length-append line (10 ∷ rest));
  last = last_line_next laws line rest lacks;
  items = λ e more. ap (items_from e n) (append_assoc line (10 ∷ rest) more) ∙ ap (all_items e n) (laws.lines.ended line (rest ++ more) lacks) ∙ all_items_line e n line (rest ++ more);
}

pub pass_then : (n : ℕ) (xs : List ℕ) (gs : List Item) (m : ℕ) (ys : List ℕ) (hs : List Item) (k : ℕ) (zs : List ℕ) → Passes n xs gs m ys → Passes m ys hs k zs → Passes n xs (gs ++ hs) k zs
pass_then n xs gs m ys hs k zs p q = record {
  front = p.front ++ q.front;
  parts = p.parts ∙ ap (λ (r : List ℕ). p.front ++ r) q.parts ∙ sym (append_assoc p.front q.front zs);
  onward = (let a = p.onward in let b = q.onward in omega arith);
  counted = (let a = p.counted in let b = q.counted in omega arith);
  last = p.last ∙ q.last;
  items = λ e more. p.items e more ∙ ap (λ (r : List Item). gs ++ r) (q.items e more) ∙ sym (append_assoc gs hs (items_from e k (zs ++ more)));
}

-- ---- the first line of what waits

pub some_is : (line : List ℕ) (i : Item) → 0 < length line → if_some line i ≡ i ∷ []
some_is [] i lt = absurd (omega arith)
some_is (x ∷ xs) i lt = refl

pub none_is : (line : List ℕ) (i : Item) → length line ≡ 0 → if_some line i ≡ []
none_is [] i e = refl
none_is (x ∷ xs) i e = absurd (omega arith)

-- the first line of what is left, which a line feed ends, has its items
pub pass_first : Laws → (n : ℕ) (pending : List ℕ) (m : ℕ) (rest line after : List ℕ) (old new : Option (List ℕ)) → Passes n pending [] m rest → old ≡ Some rest → IsFirstLine old line new → new ≡ Some after
    → Passes n pending (line_items m line) (m + 1) after
pass_first laws n pending m rest line after old new p was first is =
    let same : first.text ≡ rest = (let both : Some first.text ≡ Some rest = sym first.is ∙ was in cc) in
    let whole : rest ≡ line ++ (10 ∷ after) = subst (λ (t : List ℕ). IsCut 10 t line (Some after)) same (subst (IsCut 10 first.text line) is first.parts) in
    pass_then n pending [] m rest (line_items m line) (m + 1) after p (subst (λ (r : List ℕ). Passes m r (line_items m line) (m + 1) after) (sym whole) (pass_line laws m line after first.one))
