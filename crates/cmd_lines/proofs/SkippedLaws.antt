-- The lines up to a command, and a reader that skips them.
use Rattle.std.proofs.Common.{◌≡◌, ℕ, zero, suc, ◌+◌, ◌<◌, ◌≤◌, List, [], ◌∷◌, ◌++◌, length, take, Option, Some, None, inl, inr, refl, sym, ap, subst, ◌∙◌, arith, append_assoc, length-append}
use Rattle.std.specs.Prelude.{IfSome, IfNone}
use Rattle.std.specs.Option.{option_to_list}
use Rattle.std.proofs.lemmas.List.{append-nil, take_at}
use Rattle.cmd_types.specs.Bytes.{Lacks, without_returns}
use Rattle.cmd_types.specs.Cuts.{before}
use Rattle.cmd_types.specs.Laws.{Laws}
use Rattle.cmd_types.specs.Spelling.{Timed}
use Rattle.cmd_types.specs.TextLines.{split_lines}
use Rattle.cmd_lines.specs.declared.phase.Phase.{Phase}
use Rattle.cmd_lines.specs.declared.phase.Phase.TheVariants.{Open, Finished}
use Rattle.cmd_lines.specs.declared.item.Item.{Item}
use Rattle.cmd_lines.specs.declared.item.Item.TheVariants as item
use Rattle.cmd_lines.specs.declared.skip.Skipped.{Skipped}
use Rattle.cmd_lines.specs.FirstFault.{Opens}
use Rattle.cmd_lines.specs.Reading.{from}
use Rattle.cmd_lines.specs.Items.{item_of, if_some, items_from, known, items_so_far, items, commands}
use Rattle.cmd_lines.specs.Reader.{Waiting, Stands, Passing}
use Rattle.cmd_lines.specs.Skips.{AreWhole, line_count, EndsWithCommand, IsUpTo, IsSkipped, Skips, IsEnd}
use Rattle.cmd_lines.proofs.Pieces.{before_from, from_opens}
use Rattle.cmd_lines.proofs.PassLaws.{last_is}
use Rattle.cmd_lines.proofs.SkipLaws.{count_apart, count_ended, count_none, nothing_known, ended_known, whole_commands, so_far_whole}
use Rattle.cmd_lines.proofs.StandLaws.{stands_known}

-- ---- the lines up to a command

abbrev ended : List ℕ → List ℕ
ended line = line ++ (10 ∷ [])

pub whole_and_line : (before line : List ℕ) → AreWhole (before ++ (line ++ (10 ∷ [])))
whole_and_line before line = inr (before ++ line, sym (append_assoc before line (10 ∷ [])))

-- a line more has its commands
pub line_commands : Laws → (before line : List ℕ) → AreWhole before → commands (items (before ++ (line ++ (10 ∷ [])))) ≡ commands (items before) ++ commands (items line)
line_commands laws before line whole =
    whole_commands laws Finished before (ended line) whole ∙ ap (λ (r : List Item). commands (items before) ++ commands r) (ended_known laws Finished line)

pub up_to_commands : Laws → (n : ℕ) (front : List ℕ) (t : Timed) → (e : EndsWithCommand n front t) → commands (items front) ≡ commands (items e.before) ++ (t ∷ [])
up_to_commands laws n front t e =
    ap (λ (r : List ℕ). commands (items r)) e.parts
    ∙ line_commands laws e.before e.line e.whole
    ∙ ap (λ (r : List Item). commands (items e.before) ++ commands r) e.command

pub up_to_whole : (n : ℕ) (front : List ℕ) (last : Option Timed) → IsUpTo n front last → AreWhole front
up_to_whole zero front last u = inl u.0
up_to_whole (suc n) front last u = let e = u.2 in subst (λ (r : List ℕ). AreWhole r) (sym e.parts) (whole_and_line e.before e.line)

pub up_to_count : Laws → (n : ℕ) (front : List ℕ) (last : Option Timed) → IsUpTo n front last → length (commands (items front)) ≡ n
up_to_count laws zero front last u = ap (λ (r : List ℕ). length (commands (items r))) u.0 ∙ ap (λ (r : List Item). length (commands r)) (nothing_known Finished 1)
up_to_count laws (suc n) front last u =
    let e = u.2 in
    omega (arith, e.count, ap (λ (r : List Timed). length r) (up_to_commands laws n front u.0 e), length-append (commands (items e.before)) (u.0 ∷ []))

pub up_to_last : Laws → (n : ℕ) (front : List ℕ) (last : Option Timed) → IsUpTo n front last → (firsts : List Timed) × (commands (items front) ≡ firsts ++ option_to_list last)
up_to_last laws zero front last u = (
  [],
  ap (λ (r : List ℕ). commands (items r)) u.0 ∙ ap commands (nothing_known Finished 1) ∙ sym (ap (λ (o : Option Timed). option_to_list o) u.1),
)
up_to_last laws (suc n) front last u =
    let e = u.2 in (
      commands (items e.before),
      up_to_commands laws n front u.0 e ∙ ap (λ (o : Option Timed). commands (items e.before) ++ option_to_list o) (sym u.1),
    )

pub skips_fewer : Laws → (s : Passing) (n : ℕ) (f : List ℕ) → Skips s n f → length (commands (items_so_far f)) < n
skips_fewer laws s n f k =
    let same : items_so_far f ≡ items k.front = ap items_so_far k.parts ∙ so_far_whole laws k.front k.begun k.whole k.one in
    let some = k.some in
    omega (arith, some, k.count, ap (λ (r : List Item). length (commands r)) same)

-- ---- the item of a line that ends

only_one : (bytes : List ℕ) (i j : Item) (more : List Item) → if_some bytes j ≡ i ∷ more → if_some bytes j ≡ i ∷ []
only_one [] i j more e = absurd cc
only_one (x ∷ xs) i j more e = let same : j ≡ i = cc in ap (λ (h : Item). h ∷ []) same

line_one : Laws → (line : List ℕ) → Lacks 10 line → (i : Item) (more : List Item) → items line ≡ i ∷ more → items line ≡ i ∷ []
line_one laws line lacks i more e =
    let is = last_is laws Finished 1 line lacks in
    is ∙ only_one (without_returns line) i (item_of 1 (without_returns line)) more (sym is ∙ e)

-- what stands before the line feed
pub whole_line : (begun end : List ℕ) → (e : IsEnd end) → begun ++ end ≡ (begun ++ e.line) ++ (10 ∷ [])
whole_line begun end e = ap (λ (r : List ℕ). begun ++ r) e.is ∙ sym (append_assoc begun e.line (10 ∷ []))

pub item_is : Laws → (w v : Waiting) (begun end : List ℕ) (o : Option Item) → w.phase ≡ Open → v.phase ≡ Open → IsEnd end → Lacks 10 begun → Stands w (begun ++ end) []
    → IfSome o (λ i. (f : List ℕ) (g : List Item) → Stands w f g → Stands v f (g ++ i ∷ [])) → IfNone o ((f : List ℕ) (g : List Item) → Stands w f g → known w.phase f ≡ g)
    → items (begun ++ end) ≡ option_to_list o
item_is laws w v begun end None was_open later e lacks s some none =
    let line = whole_line begun end e in
    let both : items_so_far (begun ++ end) ≡ items (begun ++ end) = ap items_so_far line ∙ ended_known laws Open (begun ++ e.line) ∙ sym (ap items line ∙ ended_known laws Finished (begun ++ e.line)) in
    sym both ∙ ap (λ (p : Phase). known p (begun ++ end)) (sym was_open) ∙ none (begun ++ end) [] s
item_is laws w v begun end (Some i) was_open later e lacks s some none =
    let line = whole_line begun end e in
    let more = items_from v.phase v.number v.pending in
    let now : known v.phase (begun ++ end) ≡ i ∷ more = stands_known v (begun ++ end) (i ∷ []) (some (begun ++ end) [] s) in
    let same : items (begun ++ e.line) ≡ i ∷ more = sym (ap items_so_far line ∙ ended_known laws Open (begun ++ e.line)) ∙ ap (λ (p : Phase). known p (begun ++ end)) (sym later) ∙ now in
    ap items line ∙ ended_known laws Finished (begun ++ e.line) ∙ line_one laws (begun ++ e.line) (laws.lacking.join 10 begun e.line lacks e.one) i more same

-- ---- steps of a reader that skips

abbrev pub passing : Waiting → ℕ → ℕ → ℕ → Passing
passing w left fed lines = record { waiting = w; left = left; fed = fed; lines = lines }

line_more : Laws → (front line : List ℕ) → AreWhole front → line_count (front ++ (line ++ (10 ∷ []))) ≡ line_count front + length (split_lines line)
line_more laws front line (inl none) =
    ap (λ (r : List ℕ). line_count (r ++ (line ++ (10 ∷ [])))) none ∙ count_ended laws line ∙ omega (arith, ap line_count none, count_none)
line_more laws front line (inr (others, is)) =
    let split : front ++ (line ++ (10 ∷ [])) ≡ others ++ (10 ∷ (line ++ (10 ∷ []))) = ap (λ (r : List ℕ). r ++ (line ++ (10 ∷ []))) is ∙ append_assoc others (10 ∷ []) (line ++ (10 ∷ [])) in
    omega (
      arith,
      ap line_count split,
      count_apart laws (line ++ (10 ∷ [])) others,
      count_apart laws [] line,
      ap (λ (ps : List (List ℕ)). length ps) (laws.lines.last [] tt),
      ap line_count is,
      count_ended laws others,
    )

line_adds : Laws → (front line : List ℕ) → AreWhole front → Lacks 10 line → line_count (front ++ (line ++ (10 ∷ []))) ≡ line_count front + 1
line_adds laws front line whole one = line_more laws front line whole ∙ ap (λ (ps : List (List ℕ)). line_count front + length ps) (laws.lines.last line one)

-- bytes without a line feed
pub skips_more : Laws → (w v : Waiting) (left fed lines n : ℕ) (f part : List ℕ) → Lacks 10 part → ((g : List ℕ) (is : List Item) → Stands w g is → Stands v (g ++ part) is)
    → Skips (passing w left fed lines) n f → Skips (passing v left (fed + length part) lines) n (f ++ part)
skips_more laws w v left fed lines n f part lacks stands k = record {
  front = k.front;
  begun = k.begun ++ part;
  parts = ap (λ (r : List ℕ). r ++ part) k.parts ∙ append_assoc k.front k.begun part;
  whole = k.whole;
  one = laws.lacking.join 10 k.begun part k.one lacks;
  reads = stands k.begun [] k.reads;
  count = k.count;
  some = k.some;
  fed = omega (arith, k.fed, length-append f part);
  lines = k.lines;
}

-- the text up to a line's end
record AtEnd (s : Passing) (n : ℕ) (f end : List ℕ) (o : Option Item) : Type 0 where
  front : List ℕ
  line : List ℕ
  one : Lacks 10 line
  whole : AreWhole front
  parts : f ++ end ≡ front ++ (line ++ (10 ∷ []))
  found : items line ≡ option_to_list o
  count : length (commands (items front)) + s.left ≡ n
  lines : s.lines ≡ line_count front
  fed : s.fed ≡ length f

at_end : Laws → (s : Passing) (n : ℕ) (f end : List ℕ) (o : Option Item) → IsEnd end → ((begun : List ℕ) → Lacks 10 begun → Stands s.waiting begun [] → items (begun ++ end) ≡ option_to_list o) → Skips s n f → AtEnd s n f end o
at_end laws s n f end o e is k =
    let line = whole_line k.begun end e in
    record {
      front = k.front;
      line = k.begun ++ e.line;
      one = laws.lacking.join 10 k.begun e.line k.one e.one;
      whole = k.whole;
      parts = ap (λ (r : List ℕ). r ++ end) k.parts ∙ append_assoc k.front k.begun end ∙ ap (λ (r : List ℕ). k.front ++ r) line;
      found = sym (ap items line ∙ ended_known laws Finished (k.begun ++ e.line)) ∙ is k.begun k.one k.reads;
      count = k.count;
      lines = k.lines;
      fed = k.fed;
    }

-- a line is passed, with a command or none
pub skips_line : Laws → (w v : Waiting) (left left' fed lines n : ℕ) (f end : List ℕ) (o : Option Item) → IsEnd end → ((begun : List ℕ) → Lacks 10 begun → Stands w begun [] → items (begun ++ end) ≡ option_to_list o) → Stands v [] []
    → length (commands (option_to_list o)) + left' ≡ left → 0 < left' → Skips (passing w left fed lines) n f → Skips (passing v left' (fed + length end) (lines + 1)) n (f ++ end)
skips_line laws w v left left' fed lines n f end o e is begins falls some k =
    let a = at_end laws (passing w left fed lines) n f end o e is k in
    record {
      front = f ++ end;
      begun = [];
      parts = sym (append-nil (f ++ end));
      whole = subst (λ (r : List ℕ). AreWhole r) (sym a.parts) (whole_and_line a.front a.line);
      one = tt;
      reads = begins;
      count = omega (
        arith,
        falls,
        a.count,
        ap (λ (r : List ℕ). length (commands (items r))) a.parts,
        ap (λ (r : List Timed). length r) (line_commands laws a.front a.line a.whole),
        length-append (commands (items a.front)) (commands (items a.line)),
        ap (λ (r : List Item). length (commands r)) a.found,
      );
      some = some;
      fed = omega (arith, a.fed, length-append f end);
      lines = ap (λ (x : ℕ). x + 1) a.lines ∙ sym (ap line_count a.parts ∙ line_adds laws a.front a.line a.whole a.one);
    }

abbrev pub skipped : ℕ → ℕ → Option Timed → Skipped
skipped bytes lines last = record { bytes = bytes; lines = lines; last = last }

-- the line of the n-th command is passed
pub skips_done : Laws → (w : Waiting) (fed lines n : ℕ) (f end : List ℕ) (t : Timed) → IsEnd end → ((begun : List ℕ) → Lacks 10 begun → Stands w begun [] → items (begun ++ end) ≡ item.Command t ∷ [])
    → Skips (passing w 1 fed lines) n f → IsSkipped (f ++ end) n (skipped (fed + length end) (lines + 1) (Some t))
skips_done laws w fed lines zero f end t e is k = absurd (let c = k.count in omega arith)
skips_done laws w fed lines (suc n) f end t e is k =
    let a = at_end laws (passing w 1 fed lines) (suc n) f end (Some (item.Command t)) e is k in
    let ends : EndsWithCommand n (f ++ end) t = record {
      before = a.front;
      line = a.line;
      parts = a.parts;
      whole = a.whole;
      one = a.one;
      count = (let c = a.count in omega arith);
      command = a.found;
    } in
    record {
      front = f ++ end;
      rest = [];
      parts = sym (append-nil (f ++ end));
      up_to = (t, refl, ends);
      bytes = omega (arith, a.fed, length-append f end);
      lines = ap (λ (x : ℕ). x + 1) a.lines ∙ sym (ap line_count a.parts ∙ line_adds laws a.front a.line a.whole a.one);
    }

-- also where the text goes on
pub skipped_more : (text more : List ℕ) (n : ℕ) (s : Skipped) → IsSkipped text n s → IsSkipped (text ++ more) n s
skipped_more text more n s k = record {
  front = k.front;
  rest = k.rest ++ more;
  parts = ap (λ (r : List ℕ). r ++ more) k.parts ∙ append_assoc k.front k.rest more;
  up_to = k.up_to;
  bytes = k.bytes;
  lines = k.lines;
}

-- ---- the first line of a text

pub none_opens : Laws → (text : List ℕ) → length (from 10 text) ≡ 0 → Lacks 10 text
none_opens laws text e = by (from 10 text) refl e
  where
    by : (back : List ℕ) → from 10 text ≡ back → length back ≡ 0 → Lacks 10 text
    by [] is none = subst (Lacks 10) (sym (before_from 10 text ∙ ap (λ (r : List ℕ). before 10 text ++ r) is ∙ append-nil (before 10 text))) (laws.lacking.up_to 10 text)
    by (x ∷ back) is none = absurd (omega (arith, none))

-- a line feed and what stands before it
pub record HasLine (text : List ℕ) : Type 0 where
  pub rest : List ℕ
  pub is : text ≡ (before 10 text ++ (10 ∷ [])) ++ rest

pub some_opens : (text : List ℕ) → (length (from 10 text) ≡ 0 → ⊥) → HasLine text
some_opens text some = by (from_opens 10 text)
  where
    by : Opens 10 (from 10 text) → HasLine text
    by (inl none) = absurd (some (ap (λ (r : List ℕ). length r) none))
    by (inr (after, is)) = record { rest = after; is = before_from 10 text ∙ ap (λ (r : List ℕ). before 10 text ++ r) is ∙ sym (append_assoc (before 10 text) (10 ∷ []) after) }

pub first_short : (text : List ℕ) (k : ℕ) → k ≡ length (before 10 text) → (length (from 10 text) ≡ 0 → ⊥) → k + 1 ≤ length text
first_short text k e some =
    let h = some_opens text some in
    omega (arith, e, ap (λ (r : List ℕ). length r) h.is, length-append (before 10 text ++ (10 ∷ [])) h.rest, length-append (before 10 text) (10 ∷ []))

pub first_end : Laws → (text : List ℕ) (k : ℕ) → k ≡ length (before 10 text) → (length (from 10 text) ≡ 0 → ⊥) → IsEnd (take (k + 1) text)
first_end laws text k e some =
    let h = some_opens text some in
    let line = before 10 text ++ (10 ∷ []) in
    let count : k + 1 ≡ length line = omega (arith, e, length-append (before 10 text) (10 ∷ [])) in
    record {
      line = before 10 text;
      is = ap (λ (i : ℕ). take i text) count ∙ ap (take (length line)) h.is ∙ take_at line h.rest (length line) refl;
      one = laws.lacking.up_to 10 text;
    }

-- a text in which a line is passed
pub text_passed : (f taken line after rest piece : List ℕ) → piece ≡ taken ++ rest → rest ≡ line ++ after → ((f ++ taken) ++ line) ++ after ≡ f ++ piece
text_passed f taken line after rest piece whole is =
    append_assoc (f ++ taken) line after ∙ ap (λ (r : List ℕ). (f ++ taken) ++ r) (sym is) ∙ append_assoc f taken rest ∙ ap (λ (r : List ℕ). f ++ r) (sym whole)
