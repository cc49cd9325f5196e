-- The texts between separators, line by line.
use Rattle.std.proofs.Common.{◌≡◌, ℕ, ◌+◌, ◌-◌, ◌==◌, Bool, true, false, Option, Some, None, List, [], ◌∷◌, ◌++◌, length, take, refl, ap, ◌∙◌, sym, arith, length-append, append_assoc, append-nil, if◌then◌else◌}
use Rattle.std.specs.Prelude.{unwrap_or}
use Rattle.std.specs.List.{slice_split}
use Rattle.std.proofs.lemmas.List.Splits.{length-slice_split, join_with_byte-slice_split}
use Rattle.std.proofs.Math.Seq.{take-append_seam}
use Rattle.cmd_types.specs.Cuts.{IsCut}
use Rattle.cmd_types.specs.TextLines.{split_lines, joined, lines_left}
use Rattle.cmd_answer.specs.Parts.{is_separator, with_feed, texts, parts, prepend, prepend_first, first_texts, divided}

-- ---- a line of a text and the text after it

feed_before_some : (line : List ℕ) (lines : List (List ℕ)) (n : ℕ) → length lines ≡ n + 1 → with_feed line lines ≡ line ++ 10 ∷ []
feed_before_some line [] n e = absurd (omega (arith, e))
feed_before_some line (next ∷ others) n e = refl

feed_before_text : (line text : List ℕ) → with_feed line (split_lines text) ≡ line ++ 10 ∷ []
unfolding split_lines
feed_before_text line text = feed_before_some line (slice_split (λ b. b == 10) text) _ (length-slice_split (λ b. b == 10) text)

-- the line with its line feed, and the text after it
whole_line : (text line : List ℕ) (left : Option (List ℕ)) → IsCut 10 text line left → text ≡ with_feed line (lines_left left) ++ unwrap_or left []
whole_line text line None cut = cut ∙ sym (append-nil line)
whole_line text line (Some after) cut =
    cut ∙ sym (ap (λ (l : List ℕ). l ++ after) (feed_before_text line after) ∙ append_assoc line (10 ∷ []) after)

-- the rest of the text is its lines, joined
joined_left : (left : Option (List ℕ)) → joined (lines_left left) ≡ unwrap_or left []
unfolding split_lines
joined_left None = refl
joined_left (Some text) = join_with_byte-slice_split 10 text

-- ---- a part while its lines are read: the front and the rest

-- the front of a part, before the text ahead
front_of : (part front ahead : List ℕ) → part ≡ front ++ ahead → take (length part - length ahead) part ≡ front
front_of part front ahead e =
    let long : length part - length ahead ≡ length front = omega (arith, ap length e, length-append front ahead) in
    rw long (ap (take (length front)) e ∙ take-append_seam front ahead)

-- the line belongs to the current part
front_more : (part front ahead text line : List ℕ) (left : Option (List ℕ)) → part ≡ front ++ ahead → ahead ≡ text → IsCut 10 text line left → part ≡ (front ++ with_feed line (lines_left left)) ++ unwrap_or left []
front_more part front ahead text line left e is cut =
    e ∙ ap (λ (t : List ℕ). front ++ t) (is ∙ whole_line text line left cut) ∙ sym (append_assoc front (with_feed line (lines_left left)) (unwrap_or left []))

-- ---- all separators

prepend_nil : (line : List ℕ) (ts : List (List ℕ)) → prepend [] (prepend line ts) ≡ prepend line ts
prepend_nil line [] = refl
prepend_nil line (t ∷ ts) = refl

texts_first : (lines : List (List ℕ)) → prepend [] (texts lines) ≡ texts lines
texts_first [] = refl
texts_first (line ∷ lines) = by (is_separator line)
  where
    by : (b : Bool) → prepend [] (if b then [] ∷ texts lines else prepend (with_feed line lines) (texts lines)) ≡ (if b then [] ∷ texts lines else prepend (with_feed line lines) (texts lines))
    by true = refl
    by false = prepend_nil (with_feed line lines) (texts lines)

prepend_twice : (a b : List ℕ) (ts : List (List ℕ)) → prepend a (prepend b ts) ≡ prepend (a ++ b) ts
prepend_twice a b [] = refl
prepend_twice a b (t ∷ ts) = ap (λ (x : List ℕ). x ∷ ts) (sym (append_assoc a b t))

-- these parts of the input are complete, the front of the current part is read, and `ahead` is the rest
pub record IsDividing (input part ahead : List ℕ) (left : Option (List ℕ)) (done : List (List ℕ)) : Type 0 where
  pub front : List ℕ
  pub whole : part ≡ front ++ ahead
  pub here : ahead ≡ unwrap_or left []
  pub told : done ++ prepend front (texts (lines_left left)) ≡ parts input

pub dividing_start : (input : List ℕ) → IsDividing input input input (Some input) []
dividing_start input = record { front = []; whole = refl; here = refl; told = texts_first (split_lines input) }

module _ (input part ahead text line after : List ℕ) (old left : Option (List ℕ)) (done : List (List ℕ)) (is : old ≡ Some text) (cut : IsCut 10 text line left) (lines : lines_left old ≡ line ∷ lines_left left) (behind : after ≡ unwrap_or left [])
    (was : IsDividing input part ahead old done) where
  pub line_divides : is_separator line ≡ true → IsDividing input after after left (done ++ take (length part - length ahead) part ∷ [])
  line_divides divides =
      record {
        front = [];
        whole = refl;
        here = behind;
        told = rw (front_of part was.front ahead was.whole, texts_first (lines_left left)) (append_assoc done (was.front ∷ []) (texts (lines_left left)))
            ∙ (rw (lines, divides, append-nil) at was.told);
      }

  pub line_goes_on : is_separator line ≡ false → IsDividing input part after left done
  line_goes_on goes =
      record {
        front = was.front ++ with_feed line (lines_left left);
        whole = rw behind (front_more part was.front ahead text line left was.whole (was.here ∙ ap (λ o. unwrap_or o []) is) cut);
        here = behind;
        told = ap (λ (ts : List (List ℕ)). done ++ ts) (sym (prepend_twice was.front (with_feed line (lines_left left)) (texts (lines_left left)))) ∙ (rw (lines, goes) at was.told);
      }

-- ---- the first separator

first_start : (o : Option (List ℕ × List ℕ)) → prepend_first [] o ≡ o
first_start None = refl
first_start (Some two) = refl

first_twice : (a b : List ℕ) (o : Option (List ℕ × List ℕ)) → prepend_first a (prepend_first b o) ≡ prepend_first (a ++ b) o
first_twice a b None = refl
first_twice a b (Some two) = ap (λ (t : List ℕ). Some (t, two.1)) (sym (append_assoc a b two.0))

-- no line of the front is a separator, and `ahead` is the rest
pub record IsSeeking (input ahead : List ℕ) (left : Option (List ℕ)) : Type 0 where
  pub front : List ℕ
  pub whole : input ≡ front ++ ahead
  pub here : ahead ≡ unwrap_or left []
  pub told : prepend_first front (first_texts (lines_left left)) ≡ divided input

pub seeking_start : (input : List ℕ) → IsSeeking input input (Some input)
seeking_start input = record { front = []; whole = refl; here = refl; told = first_start (first_texts (split_lines input)) }

module _ (input ahead text line after : List ℕ) (old left : Option (List ℕ)) (is : old ≡ Some text) (cut : IsCut 10 text line left) (lines : lines_left old ≡ line ∷ lines_left left) (behind : after ≡ unwrap_or left []) (was : IsSeeking input ahead old) where
  pub line_found : is_separator line ≡ true → Some (take (length input - length ahead) input, after) ≡ divided input
  line_found divides = rw (front_of input was.front ahead was.whole, behind) (rw (lines, divides, append-nil, joined_left left) at was.told)

  pub line_passed : is_separator line ≡ false → IsSeeking input after left
  line_passed goes =
      record {
        front = was.front ++ with_feed line (lines_left left);
        whole = rw behind (front_more input was.front ahead text line left was.whole (was.here ∙ ap (λ o. unwrap_or o []) is) cut);
        here = behind;
        told = sym (first_twice was.front (with_feed line (lines_left left)) (first_texts (lines_left left))) ∙ (rw (lines, goes) at was.told);
      }
