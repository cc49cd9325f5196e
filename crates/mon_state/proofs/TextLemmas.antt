-- A text grows by one part after another, and lines follow one another, for the items of a list or for each number.
use Rattle.std.proofs.Common.{◌≡◌, ℕ, ◌+◌, ◌<◌, ◌≤◌, List, [], ◌∷◌, ◌++◌, length, get_or, take, drop, map, Result, Ok, Err, refl, ap, sym, ◌∙◌, append_assoc, append-nil, arith}
use Rattle.std.specs.Prelude.{OnOk}
use Rattle.std.specs.List.{flat_map, range_with_len}
use Rattle.std.proofs.lemmas.List.{flat_map_more, at_drop_more, at_drop_all, take-take, length-take}
use Rattle.std.proofs.lemmas.List.FromFn.{map-range_with_len_more}
use Rattle.std.proofs.lemmas.List.Folds.{flat_map-map}
use Rattle.cmd_types.specs.Growth.{Grows}
use Rattle.mon_engine.specs.Report.{each_index, fields_text, line}

-- ---- a text that grows

-- a text that grows twice has grown
pub grows_on : (a b c : List ℕ) → Grows a b → Grows b c → Grows a c
grows_on a b c first second =
    let low : length a ≤ length b = omega (arith, ap length first, length-take (length a) b) in
    sym (take-take (length a) (length b) c low) ∙ ap (take (length a)) second ∙ first

-- ---- the items of a list, one after another

-- the line of one more item is appended
pub put_next : {X : Type 0} (line : X → List ℕ) (xs : List X) (i : ℕ) (x d : X) (out out' whole : List ℕ) → i < length xs → x ≡ get_or xs i d → out ++ flat_map line (drop i xs) ≡ whole → out' ≡ out ++ line x → out' ++ flat_map line (drop (i + 1) xs) ≡ whole
put_next {X = X} line xs i x d out out' whole low is so_far put =
    ap (λ (t : List ℕ). t ++ flat_map line (drop (i + 1) xs)) put
    ∙ append_assoc out (line x) (flat_map line (drop (i + 1) xs))
    ∙ ap (λ (y : X). out ++ (line y ++ flat_map line (drop (i + 1) xs))) is
    ∙ sym (at_drop_more (λ (ys : List X). out ++ flat_map line ys) xs i d low)
    ∙ so_far

-- the lines of all items are appended
pub put_last : {X : Type 0} (line : X → List ℕ) (xs : List X) (i : ℕ) (out whole : List ℕ) → length xs ≤ i → out ++ flat_map line (drop i xs) ≡ whole → out ≡ whole
put_last {X = X} line xs i out whole high so_far = sym (append-nil out) ∙ sym (at_drop_all (λ (ys : List X). out ++ flat_map line ys) xs i high) ∙ so_far

-- ---- each number

-- the lines of one more number
pub each_index_more : (f : ℕ → List ℕ) (n : ℕ) → each_index f (n + 1) ≡ each_index f n ++ f n
each_index_more f n =
    sym (flat_map-map f (λ x. x) (range_with_len 0 (n + 1)))
    ∙ ap (flat_map f) (map-range_with_len_more (λ x. x) 0 n n (omega arith))
    ∙ sym (flat_map_more f [] (map (λ x. x) (range_with_len 0 n)) n)
    ∙ ap (λ (xs : List ℕ). xs ++ f n) (flat_map-map f (λ x. x) (range_with_len 0 n))

pub put_next_index : (line : ℕ → List ℕ) (n : ℕ) (start out out' : List ℕ) → out ≡ start ++ each_index line n → out' ≡ out ++ line n → out' ≡ start ++ each_index line (n + 1)
put_next_index line n start out out' so_far put =
    put ∙ ap (λ (t : List ℕ). t ++ line n) so_far ∙ append_assoc start (each_index line n) (line n) ∙ ap (λ (t : List ℕ). start ++ t) (sym (each_index_more line n))

-- ---- all parts

pub on_ok : {T E : Type 0} (r : Result T E) (P Q : Type 0) → (P → Q) → OnOk r P → OnOk r Q
on_ok (Ok x) P Q f p = f p
on_ok (Err e) P Q f p = tt

-- twelve parts that are appended in groups of four, one, one, two, two, one and one
pub all_put : (out m1 m2 m3 m4 m5 m6 new a b c d e f g h i j k l : List ℕ) → m1 ≡ out ++ a ++ b ++ c ++ d → m2 ≡ m1 ++ e → m3 ≡ m2 ++ f → m4 ≡ m3 ++ g ++ h → m5 ≡ m4 ++ i ++ j → m6 ≡ m5 ++ k → new ≡ m6 ++ l
    → new ≡ out ++ (a ++ b ++ c ++ d ++ e ++ f ++ g ++ h ++ i ++ j ++ k ++ l)
all_put out m1 m2 m3 m4 m5 m6 new a b c d e f g h i j k l one two three four five six seven =
    seven
    ∙ ap (λ (t : List ℕ). t ++ l)
    (six ∙ ap (λ (t : List ℕ). t ++ k) (five ∙ ap (λ (t : List ℕ). t ++ i ++ j) (four ∙ ap (λ (t : List ℕ). t ++ g ++ h) (three ∙ ap (λ (t : List ℕ). t ++ f) (two ∙ ap (λ (t : List ℕ). t ++ e) one)))))
    ∙ simp append_assoc

-- ---- fields

fields_joined : (a b : List (List ℕ)) → fields_text (a ++ b) ≡ fields_text a ++ fields_text b
fields_joined [] b = refl
fields_joined (field ∷ a) b = ap (λ (t : List ℕ). 59 ∷ field ++ t) (fields_joined a b) ∙ ap (λ (t : List ℕ). 59 ∷ t) (sym (append_assoc field (fields_text a) (fields_text b)))

-- the fields of a list, one after another
pub fields_of : {X : Type 0} (text : X → List ℕ) (xs : List X) → flat_map (λ (x : X). fields_text (text x ∷ [])) xs ≡ fields_text (map text xs)
fields_of text [] = refl
fields_of {X = X} text (x ∷ xs) = ap (λ (t : List ℕ). fields_text (text x ∷ []) ++ t) (fields_of text xs) ∙ sym (fields_joined (text x ∷ []) (map text xs))

-- a line with its fields in three parts
pub line_put : (out m1 m2 m3 new word : List ℕ) (a b c : List (List ℕ)) → m1 ≡ out ++ word ++ fields_text a → m2 ≡ m1 ++ fields_text b → m3 ≡ m2 ++ fields_text c → new ≡ m3 ++ 10 ∷ [] → new ≡ out ++ line word (a ++ (b ++ c))
line_put out m1 m2 m3 new word a b c one two three four =
    let all : fields_text (a ++ (b ++ c)) ≡ fields_text a ++ (fields_text b ++ fields_text c) = fields_joined a (b ++ c) ∙ ap (λ (t : List ℕ). fields_text a ++ t) (fields_joined b c) in
    let same : out ++ word ++ fields_text a ++ fields_text b ++ fields_text c ++ 10 ∷ [] ≡ out ++ (word ++ (fields_text a ++ (fields_text b ++ fields_text c)) ++ 10 ∷ []) = simp append_assoc in
    four
    ∙ ap (λ (t : List ℕ). t ++ 10 ∷ []) (three ∙ ap (λ (t : List ℕ). t ++ fields_text c) (two ∙ ap (λ (t : List ℕ). t ++ fields_text b) one))
    ∙ same
    ∙ ap (λ (t : List ℕ). out ++ (word ++ t ++ 10 ∷ [])) (sym all)

-- the fields of a line in four parts, and its line feed
pub fields_put : (out m1 m2 m3 m4 new : List ℕ) (a b c d : List (List ℕ)) → m1 ≡ out ++ fields_text a → m2 ≡ m1 ++ fields_text b → m3 ≡ m2 ++ fields_text c → m4 ≡ m3 ++ fields_text d → new ≡ m4 ++ 10 ∷ [] → new ≡ out ++ (fields_text (a ++ b ++ c ++ d) ++ 10 ∷ [])
fields_put out m1 m2 m3 m4 new a b c d one two three four five =
    let all : fields_text (a ++ b ++ c ++ d) ≡ fields_text a ++ fields_text b ++ fields_text c ++ fields_text d =
    fields_joined (a ++ b ++ c) d ∙ ap (λ (t : List ℕ). t ++ fields_text d) (fields_joined (a ++ b) c ∙ ap (λ (t : List ℕ). t ++ fields_text c) (fields_joined a b)) in
    let same : out ++ fields_text a ++ fields_text b ++ fields_text c ++ fields_text d ++ 10 ∷ [] ≡ out ++ ((fields_text a ++ fields_text b ++ fields_text c ++ fields_text d) ++ 10 ∷ []) = simp append_assoc in
    five
    ∙ ap (λ (t : List ℕ). t ++ 10 ∷ []) (four ∙ ap (λ (t : List ℕ). t ++ fields_text d) (three ∙ ap (λ (t : List ℕ). t ++ fields_text c) (two ∙ ap (λ (t : List ℕ). t ++ fields_text b) one)))
    ∙ same
    ∙ ap (λ (t : List ℕ). out ++ (t ++ 10 ∷ [])) (sym all)
