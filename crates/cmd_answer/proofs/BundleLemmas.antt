-- The parts of a bundle: the first is the inventory's text, and the others are the feeds.
use Rattle.std.proofs.Common.{◌≡◌, ℕ, ◌≤◌, ◌-◌, Bool, List, [], ◌∷◌, Bor, length, map, take, drop, get_or, refl, ap, sym, ◌∙◌, subst, arith}
use Rattle.std.specs.Prelude.{◌||◌}
use Rattle.std.specs.List.{list_any}
use Rattle.std.specs.Str.{bytes_eq}
use Rattle.std.proofs.lemmas.List.{length-map, take_all}
use Rattle.cmd_types.specs.Entries.{IsSenderCount}
use Rattle.cmd_answer.specs.Stops.{has_twice}

-- a list is its first item and the rest
pub head_parts : {A B : Type 0} (f : A → B) (xs : List A) (d : A) → 1 ≤ length xs → map f xs ≡ f (get_or xs 0 d) ∷ map f (take (length xs - 1) (drop 1 xs))
head_parts f [] d h = absurd (omega arith)
head_parts {A = A} f (x ∷ xs) d h = ap (λ (ys : List A). f x ∷ map f ys) (sym (take_all (length (x ∷ xs) - 1) xs (omega arith)))

any_map : {A B : Type 0} (f : A → B) (t : B → Bool) (xs : List A) → list_any t (map f xs) ≡ list_any (λ x. t (f x)) xs
any_map f t [] = refl
any_map f t (x ∷ xs) = ap (λ (b : Bool). t (f x) || b) (any_map f t xs)

-- whether two paths are equal, by the first path and the rest
pub twice_parts : (paths : List (Bor (List ℕ))) (d : Bor (List ℕ)) → 1 ≤ length paths → (among behind : Bool)
    → among ≡ list_any (λ other. bytes_eq other.now (get_or paths 0 d).now) (take (length paths - 1) (drop 1 paths)) → behind ≡ has_twice (map (λ p. p.now) (take (length paths - 1) (drop 1 paths)))
    → (among || behind) ≡ has_twice (map (λ p. p.now) paths)
twice_parts paths d h among behind a b =
    let others = take (length paths - 1) (drop 1 paths) in
    let path = (get_or paths 0 d).now in
    ap (λ (x : Bool). x || behind) (a ∙ sym (any_map (λ p. p.now) (λ other. bytes_eq other path) others))
    ∙ ap (λ (x : Bool). list_any (λ other. bytes_eq other path) (map (λ p. p.now) others) || x) b
    ∙ sym (ap has_twice (head_parts (λ p. p.now) paths d h))

pub count_map : {A B : Type 0} (f : A → B) (xs : List A) → IsSenderCount (length xs) → IsSenderCount (length (map f xs))
count_map f xs h = subst (λ (n : ℕ). IsSenderCount n) (sym (length-map xs f)) h
