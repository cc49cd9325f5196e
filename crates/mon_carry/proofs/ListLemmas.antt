-- Lists that are compared item by item, mapped, or filtered.
use Rattle.std.proofs.Common.{◌≡◌, ◌≢◌, ℕ, zero, suc, ◌+◌, ◌<◌, Bool, true, false, cond, List, [], ◌∷◌, ◌++◌, set, length, take, map, get_or, Option, Some, None, slice_get, All, count_by, find, filter_map, option_map, refl, ap, sym, ◌∙◌, arith}
use Rattle.std.specs.List.{cons_option, range_with_len}
use Rattle.std.proofs.lemmas.List.{map_more}
use Rattle.std.proofs.lemmas.List.FromFn.{map-range_with_len_more}
use Rattle.std.proofs.lemmas.List.Sums.{sum_by-cons}
use Rattle.std.proofs.lemmas.List.Elements.{All-nil, All-cons, All-head, All-tail}

-- one more item of a list that is mapped from its first item on
pub mapped_more : {X Y : Type 0} (f : X → Y) (xs : List X) (i : ℕ) (x : X) (ys zs : List Y) (y : Y) → i < length xs → x ≡ get_or xs i x → ys ≡ map f (take i xs) → y ≡ f x → zs ≡ ys ++ y ∷ [] → zs ≡ map f (take (i + 1) xs)
mapped_more {Y = Y} f xs i x ys zs y lt here before is more =
    more ∙ ap (λ (v : List Y). v ++ y ∷ []) before ∙ ap (λ (z : Y). map f (take i xs) ++ z ∷ []) (is ∙ ap f here) ∙ sym (map_more f xs i x lt)

-- one more index of a list that is mapped from the indices
pub indexed_more : {Y : Type 0} (f : ℕ → Y) (i : ℕ) (ys zs : List Y) (y : Y) → ys ≡ map f (range_with_len 0 i) → y ≡ f i → zs ≡ ys ++ y ∷ [] → zs ≡ map f (range_with_len 0 (i + 1))
indexed_more {Y = Y} f i ys zs y before is more =
    more ∙ ap (λ (v : List Y). v ++ y ∷ []) before ∙ ap (λ (z : Y). map f (range_with_len 0 i) ++ z ∷ []) is ∙ sym (map-range_with_len_more f 0 i i (omega arith))

-- ---- place by place

-- lists of the same length with the same item at each index are equal
pub same_places : {X : Type 0} (xs ys : List X) → length xs ≡ length ys → ((k : ℕ) (x y : X) → slice_get xs k ≡ Some x → slice_get ys k ≡ Some y → x ≡ y) → xs ≡ ys
same_places [] [] long h = refl
same_places [] (y ∷ ys) long h = absurd (omega arith)
same_places (x ∷ xs) [] long h = absurd (omega arith)
same_places (x ∷ xs) (y ∷ ys) long h =
    let here = h 0 x y refl refl in
    let later = same_places xs ys (omega arith) (λ k a b p q. h (suc k) a b p q) in
    cc

-- two functions that agree on each item
pub map_agrees : {X Y : Type 0} (f g : X → Y) (xs : List X) → ((k : ℕ) (x : X) → slice_get xs k ≡ Some x → f x ≡ g x) → map f xs ≡ map g xs
map_agrees f g [] h = refl
map_agrees f g (x ∷ xs) h =
    let here = h 0 x refl in
    let later = map_agrees f g xs (λ k y e. h (suc k) y e) in
    cc

-- two functions that agree on each item but one
pub map_set : {X Y : Type 0} (f g : X → Y) (xs : List X) (i : ℕ) (y : Y) → ((k : ℕ) (x : X) → slice_get xs k ≡ Some x → k ≢ i → g x ≡ f x) → ((x : X) → slice_get xs i ≡ Some x → g x ≡ y) → map g xs ≡ set (map f xs) i y
map_set f g [] i y other here = refl
map_set f g (x ∷ xs) zero y other here =
    let first = here x refl in
    let later = map_agrees g f xs (λ k z e. other (suc k) z e (λ same. omega arith)) in
    cc
map_set f g (x ∷ xs) (suc i) y other here =
    let first = other 0 x refl (λ same. omega arith) in
    let later = map_set f g xs i y (λ k z e apart. other (suc k) z e (λ same. apart (omega arith))) (λ z e. here z e) in
    cc

-- ---- lists that are mapped

pub map_map : {X Y Z : Type 0} (f : X → Y) (g : Y → Z) (h : X → Z) → ((x : X) → g (f x) ≡ h x) → (xs : List X) → map g (map f xs) ≡ map h xs
map_map f g h same [] = refl
map_map f g h same (x ∷ xs) =
    let here = same x in
    let later = map_map f g h same xs in
    cc

pub count_map : {X : Type 0} (f : X → X) (p q : X → Bool) → ((x : X) → q (f x) ≡ p x) → (xs : List X) → count_by q (map f xs) ≡ count_by p xs
count_map f p q same [] = refl
count_map f p q same (x ∷ xs) =
    sum_by-cons (λ y. cond (q y) 1 0) (f x) (map f xs)
    ∙ ap (λ b. cond b 1 0 + count_by q (map f xs)) (same x)
    ∙ ap (λ n. cond (p x) 1 0 + n) (count_map f p q same xs)
    ∙ sym (sum_by-cons (λ y. cond (p y) 1 0) x xs)

pub find_map : {X : Type 0} (f : X → X) (p q : X → Bool) → ((x : X) → q (f x) ≡ p x) → (xs : List X) → find q (map f xs) ≡ option_map f (find p xs)
find_map f p q same [] = refl
find_map {X = X} f p q same (x ∷ xs) = rw (same x, find_map f p q same xs) (by (p x))
  where
    by : (t : Bool) → cond t (Some (f x)) (option_map f (find p xs)) ≡ option_map f (cond t (Some x) (find p xs))
    by true = refl
    by false = refl

-- ---- lists that are filtered

-- a property of each item that is kept
pub All-filter_map : {X Y : Type 0} (P : Y → Type 0) (Q : X → Type 0) (h : X → Option Y) → ((x : X) (y : Y) → Q x → h x ≡ Some y → P y) → (xs : List X) → All Q xs → All P (filter_map h xs)
All-filter_map P Q h tells [] all = All-nil P
All-filter_map {Y = Y} P Q h tells (x ∷ xs) all = by (All-filter_map P Q h tells xs (All-tail Q x xs all)) (h x) refl
  where
    by : All P (filter_map h xs) → (o : Option Y) → h x ≡ o → All P (cons_option o (filter_map h xs))
    by later None e = later
    by later (Some y) e = All-cons P y (filter_map h xs) (tells x y (All-head Q x xs all) e) later

-- all items are kept unchanged
pub filter_map_all : {X : Type 0} (Q : X → Type 0) (h : X → Option X) → ((x : X) → Q x → h x ≡ Some x) → (xs : List X) → All Q xs → filter_map h xs ≡ xs
filter_map_all Q h tells [] all = refl
filter_map_all Q h tells (x ∷ xs) all = rw (tells x (All-head Q x xs all), filter_map_all Q h tells xs (All-tail Q x xs all)) refl

pub map_all : {X : Type 0} (Q : X → Type 0) (f : X → X) → ((x : X) → Q x → f x ≡ x) → (xs : List X) → All Q xs → map f xs ≡ xs
map_all Q f tells [] all = refl
map_all Q f tells (x ∷ xs) all = rw (tells x (All-head Q x xs all), map_all Q f tells xs (All-tail Q x xs all)) refl
