-- What is kept of the bytes that wait, through its calls.
use Rattle.std.proofs.Common.{◌≡◌, ◌≢◌, ℕ, zero, suc, ◌+◌, ◌-◌, ◌<◌, ◌≤◌, Bool, true, false, cond, List, [], ◌∷◌, ◌++◌, length, take, drop, inl, inr, refl, sym, ap, subst, ◌∙◌, arith, append_assoc, length-append}
use Rattle.std.proofs.Math.Seq.{drop-append_seam, take-append_seam, take-append-add}
use Rattle.std.proofs.lemmas.List.{nil_from_length, length-drop, length-take-le, take-append-drop, drop-append-le}
use Rattle.cmd_types.specs.Bytes.{Lacks}
use Rattle.cmd_types.specs.declared.limits.TheConstants.{LONGEST_LINE}
use Rattle.cmd_lines.specs.declared.item.Item.{Item}
use Rattle.cmd_lines.specs.Steps.{Passes}
use Rattle.cmd_lines.specs.Unfinished.{last_line, most_held, is_lost, in_place, ReadAlike, Keeping, pending_of, IsKept}
use Rattle.cmd_lines.proofs.PassLaws.{has_last, last_line_one, last_line_ended, last_line_onto, last_line_short}
use Rattle.cmd_lines.proofs.UnfinishedLaws.{lost_some, cut_lacks, go_on_alike, ended_cut}
use Rattle.cmd_types.specs.Laws.{Laws}
use Rattle.cmd_types.specs.TextLines.{split_lines}

abbrev pub keeping : ℕ → List ℕ → List ℕ → Bool → Keeping
keeping read bytes held lost = record { read = read; bytes = bytes; held = held; lost = lost }

pub same_keeping : (read read' : ℕ) (bytes held bytes' held' : List ℕ) (lost : Bool) → read ≡ read' → bytes ≡ bytes' → held ≡ held' → keeping read bytes held lost ≡ keeping read' bytes' held' lost
same_keeping read read' bytes held bytes' held' lost r e d = ap (λ (n : ℕ). keeping n bytes held lost) r ∙ ap (λ (b : List ℕ). keeping read' b held lost) e ∙ ap (λ (h : List ℕ). keeping read' bytes' h lost) d

last_line_none : last_line [] ≡ []
unfolding last_line split_lines
last_line_none = refl

pub kept_none : (bytes held : List ℕ) → bytes ≡ [] → held ≡ [] → IsKept bytes held false
kept_none bytes held e d = record { last = d ∙ sym (ap last_line e ∙ last_line_none); few = omega (arith, ap length d); full = λ l. absurd cc }

-- ---- the buffer

drop-nil : (n : ℕ) → drop {A = ℕ} n [] ≡ []
drop-nil zero = refl
drop-nil (suc n) = refl

drop-drop : (a b c : ℕ) (xs : List ℕ) → a + b ≡ c → drop b (drop a xs) ≡ drop c xs
drop-drop zero b c xs sum = (let same : b ≡ c = omega (arith, sum) in ap (λ (n : ℕ). drop n xs) same)
drop-drop (suc a) b zero xs sum = absurd (omega (arith, sum))
drop-drop (suc a) b (suc c) [] sum = drop-nil b
drop-drop (suc a) b (suc c) (x ∷ xs) sum = drop-drop a b c xs (omega (arith, sum))

pub start_first : Laws → (items : List ℕ) (start line : ℕ) → drop line items ≡ last_line (drop start items) → start ≤ length items → line ≤ length items → start ≤ line
start_first laws items start line is within line_within = omega (arith, ap length is, last_line_short laws (drop start items), length-drop line items, length-drop start items)

pub line_dropped : (items new : List ℕ) (start line : ℕ) → new ≡ drop start items → start ≤ line → drop (line - start) new ≡ drop line items
line_dropped items new start line is le =
    let sum : start + (line - start) ≡ line = omega arith in
    ap (drop (line - start)) is ∙ drop-drop start (line - start) line items sum

pub drop_onto : (items new front piece : List ℕ) (n : ℕ) → new ≡ items ++ front → front ≡ piece → n ≤ length items → drop n new ≡ drop n items ++ piece
drop_onto items new front piece n is same within = ap (drop n) is ∙ drop-append-le n items front within ∙ ap (λ (r : List ℕ). drop n items ++ r) same

pub drop_ended : (items mark ended new front piece : List ℕ) (n : ℕ) → new ≡ ((items ++ mark) ++ ended) ++ front → front ≡ piece → n ≤ length items → drop n new ≡ ((drop n items ++ mark) ++ ended) ++ piece
drop_ended items mark ended new front piece n is same within =
    let whole : new ≡ items ++ (mark ++ (ended ++ front)) = is ∙ simp append_assoc in
    drop_onto items new (mark ++ (ended ++ front)) (mark ++ (ended ++ piece)) n whole (ap (λ (r : List ℕ). mark ++ (ended ++ r)) same) within ∙ simp append_assoc

pub drop_front : (before new front : List ℕ) (len : ℕ) → new ≡ before ++ front → len ≡ length new → drop (len - length front) new ≡ front
drop_front before new front len is long =
    let place : len - length front ≡ length before = omega (arith, long, ap length is, length-append before front) in
    ap (λ (n : ℕ). drop n new) place ∙ ap (drop (length before)) is ∙ drop-append_seam before front

-- ---- a cut

pub in_place_few : Laws → (back : List ℕ) → length (in_place (is_lost back)) ≤ length back
in_place_few laws back = by (is_lost back) refl
  where
    by : (lost : Bool) → is_lost back ≡ lost → length (in_place lost) ≤ length back
    by true is = lost_some laws back is
    by false is = omega arith

-- the front of a cut is whole, or it has as many bytes as were asked for
cut_front : (room : ℕ) (piece : List ℕ) → (length (take room piece) ≤ room) × (0 < length (drop room piece) → length (take room piece) ≡ room)
cut_front room piece = (by room piece, λ some. length-take-le room piece (omega (arith, some, length-drop room piece)))
  where
    by : (n : ℕ) (xs : List ℕ) → length (take n xs) ≤ n
    by zero xs = omega arith
    by (suc n) [] = omega arith
    by (suc n) (x ∷ xs) = omega (arith, by n xs)

-- ---- the last line goes on

on_full : Laws → (held : List ℕ) (lost : Bool) (room : ℕ) (piece : List ℕ) → length held ≤ most_held → (lost ≡ true → length held ≡ most_held) → room ≡ most_held - length held
    → cond lost true (is_lost (drop room piece)) ≡ true → length (held ++ take room piece) ≡ most_held
on_full laws held true room piece few full is new = (let f = full refl in omega (arith, f, is, (cut_front room piece).0, length-append held (take room piece)))
on_full laws held false room piece few full is new = omega (arith, is, (cut_front room piece).1 (lost_some laws (drop room piece) new), length-append held (take room piece))

pub kept_on : Laws → (bytes held : List ℕ) (lost : Bool) (room : ℕ) (piece : List ℕ) → IsKept bytes held lost → room ≡ most_held - length held → Lacks 10 piece
    → IsKept (bytes ++ take room piece) (held ++ take room piece) (cond lost true (is_lost (drop room piece)))
kept_on laws bytes held lost room piece kept is lacks = record {
  last = ap (λ (t : List ℕ). t ++ take room piece) kept.last ∙ sym (last_line_onto laws bytes (take room piece) (cut_lacks laws room piece lacks).0);
  few = (let few = kept.few in omega (arith, few, is, (cut_front room piece).0, length-append held (take room piece)));
  full = on_full laws held lost room piece kept.few kept.full is;
}

pub on_alike : Laws → (bytes held : List ℕ) (lost : Bool) (room : ℕ) (piece : List ℕ) → IsKept bytes held lost → room ≡ most_held - length held → Lacks 10 piece
    → ReadAlike ((bytes ++ in_place lost) ++ piece) ((bytes ++ take room piece) ++ in_place (cond lost true (is_lost (drop room piece))))
on_alike laws bytes held lost room piece kept is lacks =
    let l = cut_lacks laws room piece lacks in
    let full : lost ≡ true → LONGEST_LINE < length (last_line bytes) = λ e. (let f = kept.full e in omega (arith, f, ap length kept.last)) in
    let long : 0 < length (drop room piece) → LONGEST_LINE < length (last_line bytes ++ take room piece) = λ some. (let few = kept.few in omega (arith, few, is, (cut_front room piece).1 some, ap length kept.last, length-append (last_line bytes) (take room piece))) in
    subst (λ (p : List ℕ). ReadAlike ((bytes ++ in_place lost) ++ p) ((bytes ++ take room piece) ++ in_place (cond lost true (is_lost (drop room piece)))))
    (take-append-drop room piece) (go_on_alike laws bytes lost (take room piece) (drop room piece) full long l.0 l.1)

pub on_held : (held : List ℕ) (room : ℕ) (piece : List ℕ) → length held ≤ most_held → room ≡ most_held - length held → held ++ take room piece ≡ take most_held (held ++ piece)
on_held held room piece few is =
    let sum : length held + room ≡ most_held = omega (arith, is) in
    sym (take-append-add held piece room) ∙ ap (λ (n : ℕ). take n (held ++ piece)) sum

-- ---- the last line ends

pub kept_ended : Laws → (text ended line rest : List ℕ) → ended ≡ line ++ 10 ∷ [] → Lacks 10 rest
    → IsKept ((text ++ ended) ++ take most_held rest) (take most_held rest) (is_lost (drop most_held rest))
kept_ended laws text ended line rest is lacks =
    let front = take most_held rest in
    let whole : (text ++ ended) ++ front ≡ (text ++ line) ++ (10 ∷ front) = ap (λ (t : List ℕ). (text ++ t) ++ front) is ∙ simp append_assoc in
    record {
      last = sym (ap last_line whole ∙ last_line_ended laws (text ++ line) front ∙ last_line_one laws front (cut_lacks laws most_held rest lacks).0);
      few = (cut_front most_held rest).0;
      full = λ lost. (cut_front most_held rest).1 (lost_some laws (drop most_held rest) lost);
    }

pub end_alike : Laws → (text ended line rest : List ℕ) → ended ≡ line ++ 10 ∷ [] → Lacks 10 rest
    → ReadAlike (text ++ (ended ++ rest)) (((text ++ ended) ++ take most_held rest) ++ in_place (is_lost (drop most_held rest)))
end_alike laws text ended line rest is lacks =
    let l = cut_lacks laws most_held rest lacks in
    let long : 0 < length (drop most_held rest) → LONGEST_LINE < length (take most_held rest) = λ some. omega (arith, (cut_front most_held rest).1 some) in
    let whole = ended_cut laws text line (take most_held rest) (drop most_held rest) l.0 l.1 long in
    rw is (subst (λ (r : List ℕ). ReadAlike (text ++ ((line ++ 10 ∷ []) ++ r)) (((text ++ (line ++ 10 ∷ [])) ++ take most_held rest) ++ in_place (is_lost (drop most_held rest)))) (take-append-drop most_held rest) whole)

pub end_few : Laws → (text ended rest : List ℕ) → length (((text ++ ended) ++ take most_held rest) ++ in_place (is_lost (drop most_held rest))) ≤ length text + length (ended ++ rest)
end_few laws text ended rest =
    let parts : length rest ≡ length (take most_held rest) + length (drop most_held rest) = ap length (sym (take-append-drop most_held rest)) ∙ length-append (take most_held rest) (drop most_held rest) in
    let few = in_place_few laws (drop most_held rest) in
    omega (arith, parts, few, length-append ((text ++ ended) ++ take most_held rest) (in_place (is_lost (drop most_held rest))), length-append (text ++ ended) (take most_held rest), length-append text ended, length-append ended rest)

-- ---- a piece

take_again : (n : ℕ) (xs ys : List ℕ) → take n (take n xs ++ ys) ≡ take n (xs ++ ys)
take_again zero xs ys = refl
take_again (suc n) [] ys = refl
take_again (suc n) (x ∷ xs) ys = ap (λ (t : List ℕ). x ∷ t) (take_again n xs ys)

pub held_on : Laws → (f piece held : List ℕ) → Lacks 10 piece → held ≡ take most_held (last_line f) → take most_held (held ++ piece) ≡ take most_held (last_line (f ++ piece))
held_on laws f piece held lacks is =
    ap (λ (h : List ℕ). take most_held (h ++ piece)) is ∙ take_again most_held (last_line f) piece ∙ ap (take most_held) (sym (last_line_onto laws f piece lacks))

-- a piece is lines and a last line, or that alone
pub one_line : Laws → (piece rest : List ℕ) → rest ≡ last_line piece → length rest ≡ length piece → Lacks 10 piece
one_line laws piece rest is same =
    let h = has_last laws piece in
    let none : h.front ≡ [] = nil_from_length h.front (omega (arith, same, ap length is, ap length h.parts, length-append h.front (last_line piece))) in
    subst (Lacks 10) (sym (h.parts ∙ ap (λ (t : List ℕ). t ++ last_line piece) none)) h.one

pub record IsSplit (piece ended rest : List ℕ) : Type 0 where
  pub line : List ℕ
  pub ends : ended ≡ line ++ 10 ∷ []
  pub one : Lacks 10 rest
  pub parts : ended ++ rest ≡ piece

pub lines_first : Laws → (piece last ended rest : List ℕ) → last ≡ last_line piece → length last ≢ length piece → ended ≡ take (length piece - length last) piece → rest ≡ drop (length piece - length last) piece → IsSplit piece ended rest
lines_first laws piece last ended rest is ne front back =
    let h = has_last laws piece in
    let whole : length piece ≡ length h.front + length last = ap length h.parts ∙ length-append h.front (last_line piece) ∙ omega (arith, ap length is) in
    let place : length piece - length last ≡ length h.front = omega (arith, whole) in
    let ended_is : ended ≡ h.front = front ∙ ap (λ (n : ℕ). take n piece) place ∙ ap (take (length h.front)) h.parts ∙ take-append_seam h.front (last_line piece) in
    let rest_is : rest ≡ last_line piece = back ∙ ap (λ (n : ℕ). drop n piece) place ∙ ap (drop (length h.front)) h.parts ∙ drop-append_seam h.front (last_line piece) in
    elim h.lines [
      | inl none ↦ absurd (ne (omega (arith, whole, ap length none)))
      | inr some ↦ record { line = some.0; ends = ended_is ∙ some.1; one = subst (Lacks 10) (sym rest_is) h.one; parts = ap (λ (t : List ℕ). t ++ rest) ended_is ∙ ap (λ (t : List ℕ). h.front ++ t) rest_is ∙ sym h.parts }
    ]

pub held_end : Laws → (f piece ended rest : List ℕ) → IsSplit piece ended rest → take most_held rest ≡ take most_held (last_line (f ++ piece))
held_end laws f piece ended rest s =
    let whole : f ++ piece ≡ (f ++ s.line) ++ (10 ∷ rest) = ap (λ (t : List ℕ). f ++ t) (sym s.parts ∙ ap (λ (t : List ℕ). t ++ rest) s.ends) ∙ simp append_assoc in
    ap (take most_held) (sym (ap last_line whole ∙ last_line_ended laws (f ++ s.line) rest ∙ last_line_one laws rest s.one))

-- ---- what was read of it

pub left_keeping : (k k' : Keeping) (n m : ℕ) (gs : List Item) (rest : List ℕ) → Passes n k.bytes gs m rest → k' ≡ keeping (k.read + (length k.bytes - length rest)) (drop (length k.bytes - length rest) k.bytes) k.held k.lost → keeping (k.read + (length k.bytes - length rest)) rest k.held k.lost ≡ k'
left_keeping k k' n m gs rest p is = ap (λ (b : List ℕ). keeping (k.read + (length k.bytes - length rest)) b k.held k.lost) (sym (drop_front p.front k.bytes rest (length k.bytes) p.parts refl)) ∙ sym is

-- how many bytes wait then, and that the last line is the same
pub left_length : (k k' : Keeping) (n m : ℕ) (gs : List Item) (rest : List ℕ) → Passes n k.bytes gs m rest → k' ≡ keeping (k.read + (length k.bytes - length rest)) (drop (length k.bytes - length rest) k.bytes) k.held k.lost → length (pending_of k') ≡ length rest + length (in_place k.lost)
left_length k k' n m gs rest p is = ap (λ (x : Keeping). length (pending_of x)) (sym (left_keeping k k' n m gs rest p is)) ∙ length-append rest (in_place k.lost)

pub left_line : (bytes : List ℕ) (n m : ℕ) (gs : List Item) (rest : List ℕ) → Passes n bytes gs m rest → last_line (drop (length bytes - length rest) bytes) ≡ last_line bytes
left_line bytes n m gs rest p = ap last_line (drop_front p.front bytes rest (length bytes) p.parts refl) ∙ sym p.last

pub left_long : Laws → (k : Keeping) (n m : ℕ) (rest : List ℕ) → IsKept k.bytes k.held k.lost → Lacks 10 rest → Passes n k.bytes [] m rest → k.lost ≡ true → LONGEST_LINE < length rest
left_long laws k n m rest kept lacks p lost =
    let full = kept.full lost in
    let is : k.held ≡ rest = kept.last ∙ p.last ∙ last_line_one laws rest lacks in
    omega (arith, full, ap length is)
