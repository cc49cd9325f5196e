-- The report's text grows by one part after another, and lines follow one another, for the items of a list or for each number.
use Rattle.std.proofs.Common.{◌≡◌, ℕ, ◌+◌, ◌<◌, ◌≤◌, List, [], ◌∷◌, ◌++◌, length, get_or, take, drop, map, refl, ap, sym, ◌∙◌, append_assoc, append-nil, arith}
use Rattle.std.specs.List.{flat_map, range_with_len}
use Rattle.std.proofs.lemmas.List.{flat_map_more, at_drop_more, at_drop_all, take-take, take_at, length-take}
use Rattle.std.proofs.lemmas.List.FromFn.{map-range_with_len_more}
use Rattle.std.proofs.lemmas.List.Folds.{flat_map-map}
use Rattle.cmd_types.specs.Growth.{Grows}
use Rattle.mon_inventory.specs.declared.records.ContactSpec.{ContactSpec}
use Rattle.mon_engine.specs.declared.lines.Field.{Field}
use Rattle.mon_engine.specs.Fields.{shown, texts}
use Rattle.mon_engine.specs.Report.{each_index, fields_text, comma_name, contact_name}

-- ---- a text that grows

-- by a part
pub grows_by : (a b x : List ℕ) → b ≡ a ++ x → Grows a b
grows_by a b x is = ap (take (length a)) is ∙ take_at a x (length a) refl

-- and on
pub grows_on : (a b c : List ℕ) → Grows a b → Grows b c → Grows a c
grows_on a b c first second =
    let low : length a ≤ length b = omega (arith, ap length first, length-take (length a) b) in
    sym (take-take (length a) (length b) c low) ∙ ap (take (length a)) second ∙ first

-- by a word with its fields, and then by a line feed
pub line_put : (out mid new word fields : List ℕ) → mid ≡ out ++ word ++ fields → new ≡ mid ++ 10 ∷ [] → new ≡ out ++ (word ++ fields ++ 10 ∷ [])
line_put out mid new word fields first second = second ∙ ap (λ (t : List ℕ). t ++ 10 ∷ []) first ∙ simp append_assoc

-- a text that grew by four parts, and then by four more, grew by all
pub grown_by_both : (out mid new a b c d e f g h : List ℕ) → mid ≡ out ++ a ++ b ++ c ++ d → new ≡ mid ++ e ++ f ++ g ++ h → new ≡ out ++ (a ++ b ++ c ++ d ++ e ++ f ++ g ++ h)
grown_by_both out mid new a b c d e f g h first second = second ∙ ap (λ (t : List ℕ). t ++ e ++ f ++ g ++ h) first ∙ simp append_assoc

-- ---- the items of a list, one after another

-- the line of one more
pub put_next : {X : Type 0} (line : X → List ℕ) (xs : List X) (i : ℕ) (x d : X) (out out' whole : List ℕ) → i < length xs → x ≡ get_or xs i d → out ++ flat_map line (drop i xs) ≡ whole → out' ≡ out ++ line x → out' ++ flat_map line (drop (i + 1) xs) ≡ whole
put_next {X = X} line xs i x d out out' whole low is so_far put =
    ap (λ (t : List ℕ). t ++ flat_map line (drop (i + 1) xs)) put
    ∙ append_assoc out (line x) (flat_map line (drop (i + 1) xs))
    ∙ ap (λ (y : X). out ++ (line y ++ flat_map line (drop (i + 1) xs))) is
    ∙ sym (at_drop_more (λ (ys : List X). out ++ flat_map line ys) xs i d low)
    ∙ so_far

-- none is left
pub put_last : {X : Type 0} (line : X → List ℕ) (xs : List X) (i : ℕ) (out whole : List ℕ) → length xs ≤ i → out ++ flat_map line (drop i xs) ≡ whole → out ≡ whole
put_last {X = X} line xs i out whole high so_far = sym (append-nil out) ∙ sym (at_drop_all (λ (ys : List X). out ++ flat_map line ys) xs i high) ∙ so_far

-- the name of one more contact, behind a comma
pub put_next_name : (specs : List ContactSpec) (contacts : List ℕ) (i d : ℕ) (out mid out' whole : List ℕ) → i < length contacts → out ++ flat_map (comma_name specs) (drop i contacts) ≡ whole → mid ≡ out ++ 44 ∷ []
    → out' ≡ mid ++ contact_name specs (get_or contacts i d) → out' ++ flat_map (comma_name specs) (drop (i + 1) contacts) ≡ whole
put_next_name specs contacts i d out mid out' whole low so_far comma put =
    let name = contact_name specs (get_or contacts i d) in
    put_next (comma_name specs) contacts i (get_or contacts i d) d out out' whole low refl so_far (put ∙ ap (λ (t : List ℕ). t ++ name) comma ∙ append_assoc out (44 ∷ []) name)

-- ---- the fields of a line, one after another

-- one more, behind a semicolon
pub put_field : (fields : List Field) (i : ℕ) (field d : Field) (out mid out' whole : List ℕ) → i < length fields → field ≡ get_or fields i d → out ++ fields_text (texts (drop i fields)) ≡ whole → mid ≡ out ++ 59 ∷ [] → out' ≡ mid ++ shown field
    → out' ++ fields_text (texts (drop (i + 1) fields)) ≡ whole
put_field fields i field d out mid out' whole low is so_far semicolon put =
    let rest = fields_text (texts (drop (i + 1) fields)) in
    ap (λ (t : List ℕ). t ++ rest) (put ∙ ap (λ (t : List ℕ). t ++ shown field) semicolon)
    ∙ append_assoc (out ++ 59 ∷ []) (shown field) rest
    ∙ append_assoc out (59 ∷ []) (shown field ++ rest)
    ∙ ap (λ (f : Field). out ++ fields_text (shown f ∷ texts (drop (i + 1) fields))) is
    ∙ sym (at_drop_more (λ (fs : List Field). out ++ fields_text (texts fs)) fields i d low)
    ∙ so_far

pub put_last_field : (fields : List Field) (i : ℕ) (out whole : List ℕ) → length fields ≤ i → out ++ fields_text (texts (drop i fields)) ≡ whole → out ≡ whole
put_last_field fields i out whole high so_far = sym (append-nil out) ∙ sym (at_drop_all (λ (fs : List Field). out ++ fields_text (texts fs)) fields i high) ∙ so_far

-- ---- each number

-- one more
pub each_index_more : (f : ℕ → List ℕ) (n : ℕ) → each_index f (n + 1) ≡ each_index f n ++ f n
each_index_more f n =
    sym (flat_map-map f (λ x. x) (range_with_len 0 (n + 1)))
    ∙ ap (flat_map f) (map-range_with_len_more (λ x. x) 0 n n (omega arith))
    ∙ sym (flat_map_more f [] (map (λ x. x) (range_with_len 0 n)) n)
    ∙ ap (λ (xs : List ℕ). xs ++ f n) (flat_map-map f (λ x. x) (range_with_len 0 n))

pub put_next_index : (line : ℕ → List ℕ) (n : ℕ) (start out out' : List ℕ) → out ≡ start ++ each_index line n → out' ≡ out ++ line n → out' ≡ start ++ each_index line (n + 1)
put_next_index line n start out out' so_far put =
    put ∙ ap (λ (t : List ℕ). t ++ line n) so_far ∙ append_assoc start (each_index line n) (line n) ∙ ap (λ (t : List ℕ). start ++ t) (sym (each_index_more line n))
