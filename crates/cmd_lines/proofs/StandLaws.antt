-- What a reader stands for, through its calls.
use Rattle.std.proofs.Common.{◌≡◌, ℕ, ◌+◌, List, [], ◌∷◌, ◌++◌, length, take, Err, refl, sym, ap, subst, ◌∙◌, arith, append_assoc, length-append}
use Rattle.std.proofs.lemmas.List.{append-nil}
use Rattle.cmd_types.specs.Bytes.{Lacks}
use Rattle.cmd_types.specs.Spelling.{Timed, Spells}
use Rattle.cmd_lines.specs.declared.fault.LineFault.{LineFault}
use Rattle.cmd_lines.specs.declared.phase.Phase.{Phase}
use Rattle.cmd_lines.specs.declared.phase.Phase.TheVariants.{Open, Finished, CutOff}
use Rattle.cmd_lines.specs.declared.item.Item.{Item}
use Rattle.cmd_lines.specs.declared.item.Item.TheVariants as item
use Rattle.cmd_lines.specs.Reading.{reading}
use Rattle.cmd_lines.specs.Items.{item_of, last_items, items_from, known}
use Rattle.cmd_lines.specs.Reader.{Waiting, Continues, Stands, IsNextCommand}
use Rattle.cmd_lines.specs.Steps.{Passes}
use Rattle.cmd_lines.specs.Unfinished.{last_line, most_held, ReadAlike}
use Rattle.cmd_lines.proofs.PassLaws.{last_is}
use Rattle.cmd_lines.proofs.WholeLine.{reading_is}
use Rattle.cmd_types.specs.Laws.{Laws}

-- ---- items of lines

pub item_spelled : Laws → (n : ℕ) (line : List ℕ) (t : Timed) → Spells line t → item_of n line ≡ item.Command t
unfolding item_of
item_spelled laws n line t s = rw (reading_is laws line t s, laws.commands.again t.command) refl

pub item_refused : (n : ℕ) (line : List ℕ) (f : LineFault) → reading line ≡ Err f → item_of n line ≡ item.Refused n f
unfolding item_of
item_refused n line f e = rw e refl

-- ---- what goes on

-- from xs at line n the items gs come first, and then those of ys from line m on
abbrev pub GoesOver : ℕ → List ℕ → List Item → ℕ → List ℕ → Type 0
GoesOver n xs gs m ys = (e : Phase) (more : List ℕ) → items_from e n (xs ++ more) ≡ gs ++ items_from e m (ys ++ more)

-- also where one byte stands for those that are lost
pub goes_over : (n : ℕ) (xs : List ℕ) (gs : List Item) (m : ℕ) (ys mark : List ℕ) → Passes n xs gs m ys → GoesOver n (xs ++ mark) gs m (ys ++ mark)
goes_over n xs gs m ys mark p e more =
    ap (items_from e n) (append_assoc xs mark more) ∙ p.items e (mark ++ more) ∙ ap (λ (r : List ℕ). gs ++ items_from e m r) (sym (append_assoc ys mark more))

continues_over : (e : Phase) (n : ℕ) (xs f : List ℕ) (g hs : List Item) (m : ℕ) (ys : List ℕ) → Continues e n xs f g → GoesOver n xs hs m ys → Continues e m ys f (g ++ hs)
continues_over Open n xs f g hs m ys c over = λ e more. c e more ∙ ap (λ (r : List Item). g ++ r) (over e more) ∙ sym (append_assoc g hs (items_from e m (ys ++ more)))
continues_over Finished n xs f g hs m ys c over =
    let items : items_from Finished n xs ≡ hs ++ items_from Finished m ys = ap (items_from Finished n) (sym (append-nil xs)) ∙ over Finished [] ∙ ap (λ (r : List ℕ). hs ++ items_from Finished m r) (append-nil ys) in
    c ∙ ap (λ (r : List Item). g ++ r) items ∙ sym (append_assoc g hs (items_from Finished m ys))
continues_over CutOff n xs f g hs m ys c over =
    let items : items_from CutOff n xs ≡ hs ++ items_from CutOff m ys = ap (items_from CutOff n) (sym (append-nil xs)) ∙ over CutOff [] ∙ ap (λ (r : List ℕ). hs ++ items_from CutOff m r) (append-nil ys) in
    c ∙ ap (λ (r : List Item). g ++ r) items ∙ sym (append_assoc g hs (items_from CutOff m ys))

-- at once
continues_now : (e : Phase) (n : ℕ) (xs f : List ℕ) (g : List Item) → Continues e n xs f g → known e f ≡ g ++ items_from e n xs
continues_now Open n xs f g c = ap (known Open) (sym (append-nil f)) ∙ c Open [] ∙ ap (λ (r : List ℕ). g ++ items_from Open n r) (append-nil xs)
continues_now Finished n xs f g c = c
continues_now CutOff n xs f g c = c

-- nothing waits
nothing_left : (e : Phase) (n : ℕ) → last_items e n [] ≡ []
nothing_left Open n = refl
nothing_left Finished n = refl
nothing_left CutOff n = refl

nothing_more : Laws → (e : Phase) (n : ℕ) → items_from e n [] ≡ []
nothing_more laws e n = last_is laws e n [] tt ∙ nothing_left e n

continues_empty : Laws → (e : Phase) (n : ℕ) (f : List ℕ) (g : List Item) → (e ≡ Open → ⊥) → known e f ≡ g → Continues e n [] f g
continues_empty laws Open n f g ended t = absurd (ended refl)
continues_empty laws Finished n f g ended t = t ∙ sym (ap (λ (r : List Item). g ++ r) (nothing_more laws Finished n) ∙ append-nil g)
continues_empty laws CutOff n f g ended t = t ∙ sym (ap (λ (r : List Item). g ++ r) (nothing_more laws CutOff n) ∙ append-nil g)

-- ---- a reader

abbrev pub waiting : List ℕ → List ℕ → ℕ → ℕ → Phase → Waiting
waiting pending held number fed phase = record { pending = pending; held = held; number = number; fed = fed; phase = phase }

-- while it is open, it holds the first bytes of the last line of what was fed
abbrev pub Holds : List ℕ → List ℕ → Type 0
Holds held f = held ≡ take most_held (last_line f)

pub stands_fed : (w : Waiting) (xs ys p held held' f : List ℕ) (n fed : ℕ) (phase : Phase) (g : List Item) → waiting xs held n fed phase ≡ w → w.phase ≡ Open → ReadAlike (xs ++ p) ys → (Holds held f → Holds held' (f ++ p))
    → Stands w f g → Stands (waiting ys held' n (fed + length p) phase) (f ++ p) g
stands_fed w xs ys p held held' f n fed phase g view was_open alike holds s =
    let is_open : phase ≡ Open = ap (λ (v : Waiting). v.phase) view ∙ was_open in
    let was : Stands (waiting xs held n fed Open) f g = subst (λ (d : Phase). Stands (waiting xs held n fed d) f g) is_open (subst (λ (v : Waiting). Stands v f g) (sym view) s) in
    let now : Stands (waiting ys held' n (fed + length p) Open) (f ++ p) g = (
      omega (arith, was.0, length-append f p),
      λ e more. ap (known e) (append_assoc f p more) ∙ was.1 e (p ++ more) ∙ ap (λ (r : List ℕ). g ++ items_from e n r) (sym (append_assoc xs p more)) ∙ ap (λ (r : List Item). g ++ r) (alike e n more),
      λ o. holds (was.2 refl),
    ) in
    subst (λ (d : Phase). Stands (waiting ys held' n (fed + length p) d) (f ++ p) g) (sym is_open) now

stands_ended : (e : Phase) (xs held f : List ℕ) (n fed : ℕ) (g : List Item) → Stands (waiting xs held n fed Open) f g → Stands (waiting xs held n fed e) f g
stands_ended Open xs held f n fed g s = s
stands_ended Finished xs held f n fed g s = (s.0, ap (known Finished) (sym (append-nil f)) ∙ s.1 Finished [] ∙ ap (λ (r : List ℕ). g ++ items_from Finished n r) (append-nil xs), λ o. absurd cc)
stands_ended CutOff xs held f n fed g s = (s.0, ap (known CutOff) (sym (append-nil f)) ∙ s.1 CutOff [] ∙ ap (λ (r : List ℕ). g ++ items_from CutOff n r) (append-nil xs), λ o. absurd cc)

pub stands_ended_at : (e : Phase) (w : Waiting) (xs held : List ℕ) (n fed : ℕ) (phase : Phase) (f : List ℕ) (g : List Item) → waiting xs held n fed phase ≡ w → w.phase ≡ Open → Stands w f g → Stands (waiting xs held n fed e) f g
stands_ended_at e w xs held n fed phase f g view was_open s =
    let now : Stands (waiting xs held n fed phase) f g = subst (λ (v : Waiting). Stands v f g) (sym view) s in
    let is_open : phase ≡ Open = ap (λ (v : Waiting). v.phase) view ∙ was_open in
    stands_ended e xs held f n fed g (subst (λ (d : Phase). Stands (waiting xs held n fed d) f g) is_open now)

-- the items given and those that wait are all of them, so far as they are known
pub stands_known : (w : Waiting) (f : List ℕ) (g : List Item) → Stands w f g → known w.phase f ≡ g ++ items_from w.phase w.number w.pending
stands_known w f g s = continues_now w.phase w.number w.pending f g s.1

-- ---- a step over what waits, and one byte for what is lost of it

pub stands_line : (w : Waiting) (xs mark held : List ℕ) (n fed : ℕ) (phase : Phase) (m : ℕ) (rest : List ℕ) (i j : Item) → waiting (xs ++ mark) held n fed phase ≡ w → Passes n xs (j ∷ []) m rest → i ≡ j
    → (f : List ℕ) (g : List Item) → Stands w f g → Stands (waiting (rest ++ mark) held m fed phase) f (g ++ i ∷ [])
stands_line w xs mark held n fed phase m rest i j view p is f g s =
    let now : Stands (waiting (xs ++ mark) held n fed phase) f g = subst (λ (u : Waiting). Stands u f g) (sym view) s in
    rw is (now.0, continues_over phase n (xs ++ mark) f g (j ∷ []) m (rest ++ mark) now.1 (goes_over n xs (j ∷ []) m rest mark p), now.2)

-- lines that have no item
pub stands_passed : (w : Waiting) (xs mark held : List ℕ) (n fed : ℕ) (phase : Phase) (m : ℕ) (rest : List ℕ) → waiting (xs ++ mark) held n fed phase ≡ w → Passes n xs [] m rest
    → (f : List ℕ) (g : List Item) → Stands w f g → Stands (waiting (rest ++ mark) held m fed phase) f g
stands_passed w xs mark held n fed phase m rest view p f g s =
    let now : Stands (waiting (xs ++ mark) held n fed phase) f g = subst (λ (u : Waiting). Stands u f g) (sym view) s in
    let after = continues_over phase n (xs ++ mark) f g [] m (rest ++ mark) now.1 (goes_over n xs [] m rest mark p) in
    (now.0, subst (λ (h : List Item). Continues phase m (rest ++ mark) f h) (append-nil g) after, now.2)

-- what is left has no line feed: its items are those of a last line
last_known : Laws → (w : Waiting) (xs mark held : List ℕ) (n fed : ℕ) (phase : Phase) (m : ℕ) (rest : List ℕ) → waiting (xs ++ mark) held n fed phase ≡ w → Lacks 10 (rest ++ mark) → Passes n xs [] m rest
    → (f : List ℕ) (g : List Item) → Stands w f g → (length f ≡ fed) × (known phase f ≡ g ++ last_items phase m (rest ++ mark))
last_known laws w xs mark held n fed phase m rest view lacks p f g s =
    let now : Stands (waiting (xs ++ mark) held n fed phase) f g = subst (λ (u : Waiting). Stands u f g) (sym view) s in
    let after = continues_over phase n (xs ++ mark) f g [] m (rest ++ mark) now.1 (goes_over n xs [] m rest mark p) in
    (sym now.0, continues_now phase m (rest ++ mark) f (g ++ []) after ∙ ap (λ (r : List Item). r ++ items_from phase m (rest ++ mark)) (append-nil g) ∙ ap (λ (r : List Item). g ++ r) (last_is laws phase m (rest ++ mark) lacks))

pub stands_rest : Laws → (w : Waiting) (xs mark held held' : List ℕ) (n fed : ℕ) (phase : Phase) (m k : ℕ) (rest : List ℕ) (i : Item) → waiting (xs ++ mark) held n fed phase ≡ w → Lacks 10 (rest ++ mark) → Passes n xs [] m rest
    → last_items phase m (rest ++ mark) ≡ i ∷ [] → (f : List ℕ) (g : List Item) → Stands w f g → Stands (waiting [] held' k fed phase) f (g ++ i ∷ [])
stands_rest laws w xs mark held held' n fed phase m k rest i view lacks p last f g s =
    let here = last_known laws w xs mark held n fed phase m rest view lacks p f g s in
    let ended = not_open phase m (rest ++ mark) i last in
    (sym here.0, continues_empty laws phase k f (g ++ i ∷ []) ended (here.1 ∙ ap (λ (r : List Item). g ++ r) last), λ o. absurd (ended o))
  where
    not_open : (e : Phase) (m : ℕ) (rest : List ℕ) (i : Item) → last_items e m rest ≡ i ∷ [] → e ≡ Open → ⊥
    not_open Open m rest i last o = cc
    not_open Finished m rest i last o = cc
    not_open CutOff m rest i last o = cc

pub stands_none : Laws → (w : Waiting) (xs mark held : List ℕ) (n fed : ℕ) (phase : Phase) (m : ℕ) (rest : List ℕ) → waiting (xs ++ mark) held n fed phase ≡ w → Lacks 10 (rest ++ mark) → Passes n xs [] m rest
    → last_items phase m (rest ++ mark) ≡ [] → (f : List ℕ) (g : List Item) → Stands w f g → known w.phase f ≡ g
stands_none laws w xs mark held n fed phase m rest view lacks p last f g s =
    ap (λ (u : Waiting). known u.phase f) (sym view) ∙ (last_known laws w xs mark held n fed phase m rest view lacks p f g s).1 ∙ ap (λ (r : List Item). g ++ r) last ∙ append-nil g

-- where the next item would be a command, that is what is known
pub next_command : (w now : Waiting) (f : List ℕ) (g : List Item) (t : Timed) → w.phase ≡ now.phase → Stands w f (g ++ item.Command t ∷ []) → IsNextCommand now.phase f g
next_command w now f g t same s =
    let others = items_from w.phase w.number w.pending in
    subst (λ (e : Phase). IsNextCommand e f g) same (t, others, stands_known w f (g ++ item.Command t ∷ []) s ∙ append_assoc g (item.Command t ∷ []) others)
