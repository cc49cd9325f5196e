-- Feeds that are followed: the lines printed on refused lines, and a list with a value for each feed.
use Rattle.std.proofs.Common.{◌≡◌, ℕ, zero, suc, ◌+◌, ◌<◌, Bool, true, false, ◌&&◌, List, [], ◌∷◌, ◌++◌, length, map, get_or, ap, sym, ◌∙◌, refl, subst, arith, Option, Some, None, Result, Ok, Err, OnOk, OnErr}
use Rattle.std.proofs.lemmas.List.{append-nil, flat_map_more, length-map, get_or-map, map-append}
use Rattle.std.proofs.lemmas.List.Elements.{All-same, All-push}
use Rattle.std.specs.List.{flat_map, list_all, range_with_len, All, Contains}
use Rattle.std.specs.Io.KnownBytes.{Appends}
use Rattle.cmd_lines.specs.declared.fault.LineFault.{LineFault}
use Rattle.cmd_run.specs.declared.ending.SenderReport.{SenderReport}
use Rattle.cmd_dispatch.specs.Tellings.{AppendsBeginning}
use Rattle.cmd_answer.specs.Printed.{refuses_none, is_whole}
use Rattle.cmd_answer.specs.Written.{AppendsPart}

-- a list with one more refused line is not empty
pub refuses_more : (refused : List (ℕ × LineFault)) (r : ℕ × LineFault) → refuses_none (refused ++ r ∷ []) ≡ false
refuses_more [] r = refl
refuses_more (x ∷ refused) r = refl

-- one more line was appended to the lines of these
told_more : (first before now : Option (List ℕ)) (text : ℕ × LineFault → List ℕ) (refused : List (ℕ × LineFault)) (r : ℕ × LineFault) → Appends first before (flat_map text refused) → Appends before now (text r)
    → Appends first now (flat_map text (refused ++ r ∷ []))
told_more None before now text refused r a b = tt
told_more (Some xs) None now text refused r a b = absurd a
told_more (Some xs) (Some ys) None text refused r a b = absurd b
told_more (Some xs) (Some ys) (Some zs) text refused r a b = b ∙ ap (λ (t : List ℕ). t ++ text r) a ∙ flat_map_more text xs refused r

-- a text or a prefix of it was written
pub begun_by : {A E : Type 0} (old new : Option (List ℕ)) (text : List ℕ) (r : Result A E) → OnOk r (Appends old new text) → OnErr r (AppendsPart old new text) → AppendsBeginning old new text
begun_by old new text (Ok x) whole part = record { part = text; begins = ([], sym (append-nil text)); appended = whole }
begun_by old new text (Err e) whole p = record { part = p.part; begins = (p.rest, p.begins); appended = p.appended }

-- a refused line was printed, unless the stream was cut before or is cut now
pub line_told : {S : Type 0} (contents : S → Option (List ℕ)) (first first_now before now : S) (was_cut is_cut : Bool) (text text_now : ℕ × LineFault → List ℕ) (refused : List (ℕ × LineFault)) (r : ℕ × LineFault) (cleared line : List ℕ)
    → first_now ≡ first → text_now ≡ text → cleared ≡ [] → line ≡ cleared ++ text r
    → (was_cut ≡ false → Appends (contents first) (contents before) (flat_map text refused))
    → (is_cut ≡ false → (was_cut ≡ false) × Appends (contents before) (contents now) line)
    → is_cut ≡ false → Appends (contents first_now) (contents now) (flat_map text_now (refused ++ r ∷ []))
line_told {S = S} contents first first_now before now was_cut is_cut text text_now refused r cleared line same_first same_text none is was wrote whole =
    let w = wrote whole in
    let spelled : line ≡ text r = is ∙ ap (λ (xs : List ℕ). xs ++ text r) none in
    let told : Appends (contents first) (contents now) (flat_map text (refused ++ r ∷ [])) =
    told_more (contents first) (contents before) (contents now) text refused r (was w.0) (subst (Appends (contents before) (contents now)) spelled w.1) in
    subst (λ (s : S). Appends (contents s) (contents now) (flat_map text_now (refused ++ r ∷ []))) (sym same_first)
    (subst (λ (t : ℕ × LineFault → List ℕ). Appends (contents first) (contents now) (flat_map t (refused ++ r ∷ []))) (sym same_text) told)

-- one more element with the same property
pub all_more : {X : Type 0} (P : X → Type 0) (xs ys : List X) (x : X) → ys ≡ xs ++ x ∷ [] → All P xs → P x → All P ys
all_more P xs ys x is each one = All-same P ys (xs ++ x ∷ []) is (All-push P xs x each one)

-- the numbers from `a` on, and the next number
range_more : (a n : ℕ) → range_with_len a (suc n) ≡ range_with_len a n ++ (a + n) ∷ []
range_more a zero = let same : a ≡ a + 0 = omega arith in ap (λ (k : ℕ). k ∷ []) same
range_more a (suc n) =
    let same : a + 1 + n ≡ a + suc n = omega arith in
    ap (λ (ns : List ℕ). a ∷ ns) (range_more (a + 1) n ∙ ap (λ (k : ℕ). range_with_len (a + 1) n ++ k ∷ []) same)

-- one more element, whose number is its index
pub numbered_more : {X : Type 0} (number : X → ℕ) (xs ys : List X) (x : X) (n : ℕ) → ys ≡ xs ++ x ∷ [] → map number xs ≡ range_with_len 0 n → number x ≡ n → map number ys ≡ range_with_len 0 (n + 1)
numbered_more number xs ys x n is each one =
    let next : number x ≡ 0 + n = omega (arith, one) in
    let more : suc n ≡ n + 1 = omega arith in
    ap (map number) is ∙ map-append number xs (x ∷ []) ∙ ap (λ (ns : List ℕ). ns ++ number x ∷ []) each
    ∙ ap (λ (k : ℕ). range_with_len 0 n ++ k ∷ []) next ∙ sym (range_more 0 n) ∙ ap (range_with_len 0) more

-- the value of an element is in the list of the elements' values
pub contains_at : {X Y : Type 0} (f : X → Y) (xs : List X) (i : ℕ) (x : X) → i < length xs → x ≡ get_or xs i x → Contains (map f xs) (f x)
contains_at f xs i x h at = (i, omega (arith, length-map xs f), get_or-map f xs i x (f x) h ∙ sym (ap f at))
