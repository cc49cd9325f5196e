-- The items of whole lines and of what follows them.
use Rattle.std.proofs.Common.{◌≡◌, ℕ, ◌+◌, List, [], ◌∷◌, ◌++◌, length, map, Option, Some, None, Result, Ok, Err, inl, inr, refl, sym, ap, ◌∙◌, arith, append_assoc}
use Rattle.std.proofs.lemmas.List.{append-nil, map-append}
use Rattle.std.proofs.lemmas.List.Elements.{filter_map-append}
use Rattle.cmd_types.specs.declared.command.Command.{Command}
use Rattle.cmd_types.specs.Bytes.{Lacks, without_returns}
use Rattle.cmd_types.specs.Build.{command_from}
use Rattle.cmd_types.specs.Laws.{Laws}
use Rattle.cmd_types.specs.Spelling.{Timed}
use Rattle.cmd_types.specs.TextLines.{split_lines}
use Rattle.cmd_lines.specs.declared.fault.LineFault.{LineFault}
use Rattle.cmd_lines.specs.declared.phase.Phase.{Phase}
use Rattle.cmd_lines.specs.declared.phase.Phase.TheVariants.{Open, Finished, CutOff}
use Rattle.cmd_lines.specs.declared.item.Item.{Item}
use Rattle.cmd_lines.specs.declared.item.Item.TheVariants as item
use Rattle.cmd_lines.specs.Items.{command_item, item_from, item_of, torn_item, if_some, line_items, last_items, all_items, items_from, known, items_so_far, items, command_in, commands, refusal_in, refusals}
use Rattle.cmd_lines.specs.Reading.{Parts, reading}
use Rattle.cmd_lines.specs.Skips.{AreWhole, line_count, raised, raised_refusal}
use Rattle.cmd_lines.specs.Unfinished.{last_line}
use Rattle.cmd_lines.proofs.PassLaws.{by_lines, first_line, last_is, has_last}

-- ---- numbers that are raised

raised_command : (k n time : ℕ) (c : Option Command) → command_item (k + n) time c ≡ raised k (command_item n time c)
raised_command k n time None = refl
raised_command k n time (Some c) = refl

raised_from : (k n : ℕ) (r : Result Parts LineFault) → item_from (k + n) r ≡ raised k (item_from n r)
raised_from k n (Err f) = refl
raised_from k n (Ok p) = raised_command k n p.time (command_from p.name p.arguments)

raised_of : (k n : ℕ) (line : List ℕ) → item_of (k + n) line ≡ raised k (item_of n line)
unfolding item_of
raised_of k n line = raised_from k n (reading line)

raised_some : (k : ℕ) (line : List ℕ) (i j : Item) → i ≡ raised k j → if_some line i ≡ map (raised k) (if_some line j)
raised_some k [] i j e = refl
raised_some k (x ∷ xs) i j e = ap (λ (h : Item). h ∷ []) e

raised_line : (k n : ℕ) (line : List ℕ) → line_items (k + n) line ≡ map (raised k) (line_items n line)
raised_line k n line = raised_some k (without_returns line) (item_of (k + n) (without_returns line)) (item_of n (without_returns line)) (raised_of k n (without_returns line))

raised_last : (p : Phase) (k n : ℕ) (line : List ℕ) → last_items p (k + n) line ≡ map (raised k) (last_items p n line)
raised_last Open k n line = refl
raised_last Finished k n line = raised_line k n line
raised_last CutOff k n line = raised_some k (without_returns line) (torn_item (k + n) (without_returns line)) (torn_item n (without_returns line)) refl

raised_all : (p : Phase) (k n : ℕ) (ps : List (List ℕ)) → all_items p (k + n) ps ≡ map (raised k) (all_items p n ps)
unfolding all_items
raised_all p k n [] = refl
raised_all p k n (line ∷ []) = raised_last p k n line
raised_all p k n (line ∷ (next ∷ others)) =
    let e : (k + n) + 1 ≡ k + (n + 1) = omega arith in
    let later : all_items p ((k + n) + 1) (next ∷ others) ≡ map (raised k) (all_items p (n + 1) (next ∷ others)) = ap (λ (m : ℕ). all_items p m (next ∷ others)) e ∙ raised_all p k (n + 1) (next ∷ others) in
    ap (λ (r : List Item). line_items (k + n) line ++ r) later
    ∙ ap (λ (r : List Item). r ++ map (raised k) (all_items p (n + 1) (next ∷ others))) (raised_line k n line)
    ∙ sym (map-append (raised k) (line_items n line) (all_items p (n + 1) (next ∷ others)))

raised_none : (is : List Item) → map (raised 0) is ≡ is
raised_none [] = refl
raised_none (item.Command t ∷ is) = ap (λ (r : List Item). item.Command t ∷ r) (raised_none is)
raised_none (item.Refused n f ∷ is) =
    let e : 0 + n ≡ n = omega arith in
    ap (λ (m : ℕ). item.Refused m f ∷ map (raised 0) is) e ∙ ap (λ (r : List Item). item.Refused n f ∷ r) (raised_none is)

commands_raised : (k : ℕ) (is : List Item) → commands (map (raised k) is) ≡ commands is
commands_raised k [] = refl
commands_raised k (item.Command t ∷ is) = ap (λ (r : List Timed). t ∷ r) (commands_raised k is)
commands_raised k (item.Refused n f ∷ is) = commands_raised k is

refusals_raised : (k : ℕ) (is : List Item) → refusals (map (raised k) is) ≡ map (raised_refusal k) (refusals is)
refusals_raised k [] = refl
refusals_raised k (item.Command t ∷ is) = refusals_raised k is
refusals_raised k (item.Refused n f ∷ is) = ap (λ (r : List (ℕ × LineFault)). (k + n, f) ∷ r) (refusals_raised k is)

-- ---- lines before a text

-- a text, a line feed, and another text
lines_apart : Laws → (p : Phase) (b t : List ℕ) (n : ℕ) → items_from p n (t ++ (10 ∷ b)) ≡ items_from Finished n t ++ items_from p (n + length (split_lines t)) b
lines_apart laws p b =
    by_lines laws (λ (t : List ℕ). (n : ℕ) → items_from p n (t ++ (10 ∷ b)) ≡ items_from Finished n t ++ items_from p (n + length (split_lines t)) b)
    (λ line one n.
    first_line laws p n line b one
    ∙ ap (λ (r : List Item). r ++ items_from p (n + 1) b) (sym (last_is laws Finished n line one))
    ∙ ap (λ (ps : List (List ℕ)). items_from Finished n line ++ items_from p (n + length ps) b) (sym (laws.lines.last line one)))
    (λ line rest one later n.
    let count : (n + 1) + length (split_lines rest) ≡ n + length (line ∷ split_lines rest) = omega arith in
    ap (items_from p n) (append_assoc line (10 ∷ rest) (10 ∷ b))
    ∙ first_line laws p n line (rest ++ (10 ∷ b)) one
    ∙ ap (λ (r : List Item). line_items n line ++ r) (later (n + 1))
    ∙ sym (append_assoc (line_items n line) (items_from Finished (n + 1) rest) (items_from p ((n + 1) + length (split_lines rest)) b))
    ∙ ap (λ (r : List Item). r ++ items_from p ((n + 1) + length (split_lines rest)) b) (sym (first_line laws Finished n line rest one))
    ∙ ap (λ (k : ℕ). items_from Finished n (line ++ (10 ∷ rest)) ++ items_from p k b) count
    ∙ ap (λ (ps : List (List ℕ)). items_from Finished n (line ++ (10 ∷ rest)) ++ items_from p (n + length ps) b) (sym (laws.lines.ended line rest one)))

pub count_apart : Laws → (b t : List ℕ) → length (split_lines (t ++ (10 ∷ b))) ≡ length (split_lines t) + length (split_lines b)
count_apart laws b =
    by_lines laws (λ (t : List ℕ). length (split_lines (t ++ (10 ∷ b))) ≡ length (split_lines t) + length (split_lines b))
    (λ line one. omega (arith, ap (λ (ps : List (List ℕ)). length ps) (laws.lines.ended line b one), ap (λ (ps : List (List ℕ)). length ps) (laws.lines.last line one)))
    (λ line rest one later.
    omega (
      arith,
      later,
      ap (λ (t : List ℕ). length (split_lines t)) (append_assoc line (10 ∷ rest) (10 ∷ b)),
      ap (λ (ps : List (List ℕ)). length ps) (laws.lines.ended line (rest ++ (10 ∷ b)) one),
      ap (λ (ps : List (List ℕ)). length ps) (laws.lines.ended line rest one),
    ))

-- how many lines bytes and a line feed are
pub count_ended : Laws → (t : List ℕ) → line_count (t ++ (10 ∷ [])) ≡ length (split_lines t)
count_ended laws t = omega (arith, count_apart laws [] t, ap (λ (ps : List (List ℕ)). length ps) (laws.lines.last [] tt))

pub count_none : line_count [] ≡ 0
unfolding line_count split_lines
count_none = refl

pub nothing_known : (p : Phase) (n : ℕ) → items_from p n [] ≡ []
unfolding items_from all_items split_lines
nothing_known Open n = refl
nothing_known Finished n = refl
nothing_known CutOff n = refl

pub ended_known : Laws → (p : Phase) (t : List ℕ) → known p (t ++ (10 ∷ [])) ≡ items t
ended_known laws p t = lines_apart laws p [] t 1 ∙ ap (λ (r : List Item). items t ++ r) (nothing_known p (1 + length (split_lines t))) ∙ append-nil (items t)

pub whole_known : Laws → (p : Phase) (front : List ℕ) → AreWhole front → known p front ≡ items front
whole_known laws p front (inl none) = ap (known p) none ∙ nothing_known p 1 ∙ sym (ap items none ∙ nothing_known Finished 1)
whole_known laws p front (inr (t, is)) = ap (known p) is ∙ ended_known laws p t ∙ sym (ap items is ∙ ended_known laws Finished t)

pub whole_then : Laws → (p : Phase) (front text : List ℕ) → AreWhole front → known p (front ++ text) ≡ items front ++ map (raised (line_count front)) (known p text)
whole_then laws p front text (inl none) =
    ap (λ (t : List ℕ). known p (t ++ text)) none
    ∙ sym (raised_none (known p text))
    ∙ ap (λ (k : ℕ). map (raised k) (known p text)) (sym (ap line_count none ∙ count_none))
    ∙ ap (λ (r : List Item). r ++ map (raised (line_count front)) (known p text)) (sym (ap items none ∙ nothing_known Finished 1))
whole_then laws p front text (inr (t, is)) =
    let count : line_count front ≡ length (split_lines t) = ap line_count is ∙ count_ended laws t in
    let order : 1 + length (split_lines t) ≡ line_count front + 1 = omega (arith, count) in
    ap (λ (u : List ℕ). known p (u ++ text)) is
    ∙ ap (known p) (append_assoc t (10 ∷ []) text)
    ∙ lines_apart laws p text t 1
    ∙ ap (λ (r : List Item). r ++ items_from p (1 + length (split_lines t)) text) (sym (ap items is ∙ ended_known laws Finished t))
    ∙ ap (λ (k : ℕ). items front ++ items_from p k text) order
    ∙ ap (λ (r : List Item). items front ++ r) (raised_all p (line_count front) 1 (split_lines text))

pub whole_commands : Laws → (p : Phase) (front text : List ℕ) → AreWhole front → commands (known p (front ++ text)) ≡ commands (known p front) ++ commands (known p text)
whole_commands laws p front text whole =
    ap commands (whole_then laws p front text whole)
    ∙ filter_map-append command_in (items front) (map (raised (line_count front)) (known p text))
    ∙ ap (λ (r : List Timed). commands (items front) ++ r) (commands_raised (line_count front) (known p text))
    ∙ ap (λ (r : List Item). commands r ++ commands (known p text)) (sym (whole_known laws p front whole))

pub whole_refusals : Laws → (p : Phase) (front text : List ℕ) → AreWhole front → refusals (known p (front ++ text)) ≡ refusals (known p front) ++ map (raised_refusal (line_count front)) (refusals (known p text))
whole_refusals laws p front text whole =
    ap refusals (whole_then laws p front text whole)
    ∙ filter_map-append refusal_in (items front) (map (raised (line_count front)) (known p text))
    ∙ ap (λ (r : List (ℕ × LineFault)). refusals (items front) ++ r) (refusals_raised (line_count front) (known p text))
    ∙ ap (λ (r : List Item). refusals r ++ map (raised_refusal (line_count front)) (refusals (known p text))) (sym (whole_known laws p front whole))

-- ---- a text that grows

pub so_far_whole : Laws → (front begun : List ℕ) → AreWhole front → Lacks 10 begun → items_so_far (front ++ begun) ≡ items front
so_far_whole laws front begun whole one =
    whole_then laws Open front begun whole
    ∙ ap (λ (r : List Item). items front ++ map (raised (line_count front)) r) (last_is laws Open 1 begun one)
    ∙ append-nil (items front)

pub grows : Laws → (p : Phase) (text more : List ℕ) → (later : List Item) × (known p (text ++ more) ≡ items_so_far text ++ later)
grows laws p text more =
    let h = has_last laws text in
    let last = last_line text in (
      map (raised (line_count h.front)) (known p (last ++ more)),
      ap (λ (t : List ℕ). known p (t ++ more)) h.parts
          ∙ ap (known p) (append_assoc h.front last more)
          ∙ whole_then laws p h.front (last ++ more) h.lines
          ∙ ap (λ (r : List Item). r ++ map (raised (line_count h.front)) (known p (last ++ more))) (sym (ap items_so_far h.parts ∙ so_far_whole laws h.front last h.lines h.one)),
    )
