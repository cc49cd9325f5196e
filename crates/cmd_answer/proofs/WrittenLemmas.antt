-- A prefix of a text was appended.
use Rattle.std.proofs.Common.{◌≡◌, ℕ, ◌+◌, ◌-◌, ◌<◌, List, [], ◌∷◌, ◌++◌, Option, Result, Ok, Err, OnErr, length, length-append, length-drop, arith, map, get_or, take, drop, refl, sym, ap, ◌∙◌, subst, append-nil, append_assoc, take-append-drop}
use Rattle.std.specs.Io.KnownBytes.{Appends}
use Rattle.std.proofs.KnownBytes.{Appends-trans}
use Rattle.std.proofs.lemmas.List.{take_all, take_more, map-append}
use Rattle.std.proofs.Math.Seq.{take-add}
use Rattle.cmd_answer.specs.Written.{AppendsPart, joined}

-- the first `n` bytes of a text are a prefix
pub part_at : (a b : Option (List ℕ)) (n : ℕ) (text : List ℕ) → n < length text → Appends a b (take n text) → AppendsPart a b text
part_at a b n text some written = record { part = take n text; rest = drop n text; begins = sym (take-append-drop n text); missing = omega (arith, length-drop n text); appended = written }

-- one more write appends a prefix of the rest
pub written_more : (a b c : Option (List ℕ)) (n m : ℕ) (text : List ℕ) → Appends a b (take n text) → Appends b c (take m (take (length text - n) (drop n text))) → Appends a c (take (n + m) text)
written_more a b c n m text first next =
    let rest : take (length text - n) (drop n text) ≡ drop n text = take_all (length text - n) (drop n text) (omega (arith, length-drop n text)) in
    let more : Appends b c (take m (drop n text)) = subst (λ (l : List ℕ). Appends b c (take m l)) rest next in
    subst (Appends a c) (sym (take-add n m text)) (Appends-trans a b c (take n text) (take m (drop n text)) first more)

-- a prefix of the next piece, after all pieces before it
pub part_behind : (a b c : Option (List ℕ)) (first second rest : List ℕ) → Appends a b first → AppendsPart b c second → AppendsPart a c (first ++ (second ++ rest))
part_behind a b c first second rest written p = record {
  part = first ++ p.part;
  rest = p.rest ++ rest;
  begins = ap (λ (l : List ℕ). first ++ (l ++ rest)) p.begins ∙ ap (λ (l : List ℕ). first ++ l) (append_assoc p.part p.rest rest) ∙ sym (append_assoc first p.part (p.rest ++ rest));
  missing = (let some = p.missing in omega (arith, length-append p.rest rest));
  appended = Appends-trans a b c first p.part written p.appended;
}

-- a prefix of the first of two texts is a prefix of both
pub part_first : (a b : Option (List ℕ)) (first second : List ℕ) → AppendsPart a b first → AppendsPart a b (first ++ second)
part_first a b first second p = record {
  part = p.part;
  rest = p.rest ++ second;
  begins = ap (λ (l : List ℕ). l ++ second) p.begins ∙ append_assoc p.part p.rest second;
  missing = (let some = p.missing in omega (arith, length-append p.rest second));
  appended = p.appended;
}

-- the first of two texts and a prefix of the second are a prefix of both
pub part_second : (a b c : Option (List ℕ)) (first second : List ℕ) → Appends a b first → AppendsPart b c second → AppendsPart a c (first ++ second)
part_second a b c first second written p = record {
  part = first ++ p.part;
  rest = p.rest;
  begins = ap (λ (l : List ℕ). first ++ l) p.begins ∙ sym (append_assoc first p.part p.rest);
  missing = p.missing;
  appended = Appends-trans a b c first p.part written p.appended;
}

pub joined-append : (xs ys : List (List ℕ)) → joined (xs ++ ys) ≡ joined xs ++ joined ys
joined-append [] ys = refl
joined-append (x ∷ xs) ys = ap (λ (l : List ℕ). x ++ l) (joined-append xs ys) ∙ sym (append_assoc x (joined xs) (joined ys))

module _ {P : Type 0} (f : P → List ℕ) (ps : List P) (i : ℕ) (d : P) (low : i < length ps) where
  -- the pieces before a piece, and that piece
  pub joined_more : joined (map f (take (i + 1) ps)) ≡ joined (map f (take i ps)) ++ f (get_or ps i d)
  joined_more =
      ap (λ (l : List P). joined (map f l)) (take_more ps i d low)
      ∙ ap joined (map-append f (take i ps) (get_or ps i d ∷ []))
      ∙ joined-append (map f (take i ps)) (f (get_or ps i d) ∷ [])
      ∙ ap (λ (l : List ℕ). joined (map f (take i ps)) ++ l) (append-nil (f (get_or ps i d)))

  -- a prefix of a piece was appended, and so a prefix of all pieces
  pub joined_part : (a b c : Option (List ℕ)) → Appends a b (joined (map f (take i ps))) → AppendsPart b c (f (get_or ps i d)) → AppendsPart a c (joined (map f ps))
  joined_part a b c written p =
      let rest = joined (map f (drop (i + 1) ps)) in
      let all : joined (map f ps) ≡ joined (map f (take i ps)) ++ (f (get_or ps i d) ++ rest) =
      ap (λ (l : List P). joined (map f l)) (sym (take-append-drop (i + 1) ps))
      ∙ ap joined (map-append f (take (i + 1) ps) (drop (i + 1) ps))
      ∙ joined-append (map f (take (i + 1) ps)) (map f (drop (i + 1) ps))
      ∙ ap (λ (l : List ℕ). l ++ rest) joined_more
      ∙ append_assoc (joined (map f (take i ps))) (f (get_or ps i d)) rest in
      subst (AppendsPart a c) (sym all) (part_behind a b c (joined (map f (take i ps))) (f (get_or ps i d)) rest written p)

pub part_on_err : {A E : Type 0} {P : Type 0} (r : Result A E) → P → OnErr r P
part_on_err (Ok x) h = tt
part_on_err (Err e) h = h
