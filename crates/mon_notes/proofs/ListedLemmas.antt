-- What stays listed.
use Rattle.std.proofs.Common.{◌≡◌, ◌⊎◌, ℕ, zero, suc, ◌<◌, Bool, true, false, ◌==◌, eqb, is_some, Some, List, [], ◌∷◌, ◌++◌, length, get_or, cond, not, filter, refl, ap, ◌∙◌, arith, inl, inr}
use Rattle.std.proofs.Math.ListN.{set}
use Rattle.std.proofs.lemmas.Bool.{eqb-true, eq-eqb}
use Rattle.std.proofs.lemmas.Bool.Decides.{eqb_tells}
use Rattle.std.proofs.lemmas.List.{get_or-set_same, get_or-set_other}
use Rattle.std.proofs.lemmas.Map.Views.{any-filter_same}
use Rattle.mon_notes.specs.declared.comment.Comment.{Comment}
use Rattle.mon_notes.specs.Comments.{comment_of}
use Rattle.mon_notes.specs.declared.comment.Group.{Group}
use Rattle.mon_notes.specs.Listed.{Listing, goes, has, ids_of, AreAmong, AreListed, KeepsThere}

-- ---- one list

pub keeps_those_there : (there : List Comment) (ids : List ℕ) → KeepsThere there ids (filter (λ id. is_some (comment_of there id)) ids)
keeps_those_there there ids id is h =
    any-filter_same (λ x. x == id) (λ n. is_some (comment_of there n)) true (λ n same. ap (λ k. is_some (comment_of there k)) (eqb-true n id same) ∙ is) ids ∙ h

-- ---- all lists

-- a comment is found under its id, whatever else is there
found_in : (c : Comment) (cs : List Comment) → is_some (comment_of (c ∷ cs) c.id) ≡ true
found_in c cs = ap (λ b. is_some (cond b (Some c) (comment_of cs c.id))) (eq-eqb c.id c.id refl)

still_found : (c : Comment) (cs : List Comment) (id : ℕ) → is_some (comment_of cs id) ≡ true → is_some (comment_of (c ∷ cs) id) ≡ true
still_found c cs id h = by (eqb c.id id)
  where
    by : (b : Bool) → is_some (cond b (Some c) (comment_of cs id)) ≡ true
    by true = refl
    by false = h

-- what keeps the ids of these comments keeps those of a group of them among the ids
among_by : (g : Group) (there cs : List Comment) (old new : List ℕ) → ((id : ℕ) → is_some (comment_of cs id) ≡ true → is_some (comment_of there id) ≡ true)
    → KeepsThere there old new → AreAmong g old cs → AreAmong g new cs
among_by g there [] old new among keeps w = tt
among_by g there (c ∷ cs) old new among keeps w =
    (λ is. keeps c.id (among c.id (found_in c cs)) (w.0 is), among_by g there cs old new (λ id h. among id (still_found c cs id h)) keeps w.1)

pub among_kept : (g : Group) (there : List Comment) (old new : List ℕ) → KeepsThere there old new → AreAmong g old there → AreAmong g new there
among_kept g there old new keeps w = among_by g there there old new (λ id h. h) keeps w

pub among_filter : (g : Group) (ids : List ℕ) (p : Comment → Bool) (cs : List Comment) → AreAmong g ids cs → AreAmong g ids (filter p cs)
among_filter g ids p [] w = tt
among_filter g ids p (c ∷ cs) w = by (p c) (among_filter g ids p cs w.1)
  where
    by : (b : Bool) → AreAmong g ids (filter p cs) → AreAmong g ids (cond b (c ∷ filter p cs) (filter p cs))
    by true rest = (w.0, rest)
    by false rest = rest

pub among_push : (g : Group) (ids : List ℕ) (cs : List Comment) (c : Comment) → AreAmong g ids cs → (goes g c ≡ true → has ids c.id ≡ true) → AreAmong g ids (cs ++ c ∷ [])
among_push g ids [] c w h = (h, tt)
among_push g ids (x ∷ cs) c w h = (w.0, among_push g ids cs c w.1 h)

-- of a group that is gone there is no comment
pub among_gone : (g : Group) (ids : List ℕ) (cs : List Comment) → AreAmong g ids (filter (λ c. not (goes g c)) cs)
among_gone g ids [] = tt
among_gone g ids (c ∷ cs) = by (goes g c) refl (among_gone g ids cs)
  where
    by : (b : Bool) → goes g c ≡ b → AreAmong g ids (filter (λ c. not (goes g c)) cs) → AreAmong g ids (cond (not b) (c ∷ filter (λ c. not (goes g c)) cs) (filter (λ c. not (goes g c)) cs))
    by true is rest = rest
    by false is rest = (λ yes. absurd (cc (is, yes)), rest)

-- where one list is another
pub keeps_at : (there : List Comment) (lists : List (List ℕ)) (i : ℕ) (list : List ℕ) → i < length lists → KeepsThere there (get_or lists i []) list
    → (object : ℕ) → KeepsThere there (get_or lists object []) (get_or (set lists i list) object [])
keeps_at there lists i list h k object id is e =
    elim (eqb_tells object i) [
      | inl t ↦ rw (t.1, get_or-set_same lists i list [] h) (k id is (rw t.1 at e))
      | inr t ↦ rw (get_or-set_other lists i object list [] t.1) e
    ]

-- one empty list more
pub padded : (lists : List (List ℕ)) (object : ℕ) → get_or (lists ++ [] ∷ []) object [] ≡ get_or lists object []
padded [] zero = refl
padded [] (suc object) = refl
padded (list ∷ lists) zero = refl
padded (list ∷ lists) (suc object) = padded lists object

-- where the look-ups stay as they were
pub keeps_same : (there : List Comment) (old new : List (List ℕ)) → ((o : ℕ) → get_or new o [] ≡ get_or old o []) → (object : ℕ) → KeepsThere there (get_or old object []) (get_or new object [])
keeps_same there old new same object id is h = rw (same object) h

-- what stands in a list, whatever is answered outside of it
pub at_any : (lists : List (List ℕ)) (i : ℕ) (d e : List ℕ) → i < length lists → get_or lists i d ≡ get_or lists i e
at_any [] i d e h = absurd (omega arith)
at_any (list ∷ lists) zero d e h = refl
at_any (list ∷ lists) (suc i) d e h = at_any lists i d e (omega arith)

-- the lists look up as they did, and then one of them is another, which keeps what is there
pub keeps_then : (there : List Comment) (old mid : List (List ℕ)) (i : ℕ) (was list : List ℕ) → i < length mid → ((o : ℕ) → get_or mid o [] ≡ get_or old o []) → was ≡ get_or mid i was → KeepsThere there was list
    → (o : ℕ) → KeepsThere there (get_or old o []) (get_or (set mid i list) o [])
keeps_then there old mid i was list h same is k o id there_is e =
    keeps_at there mid i list h (rw (← (is ∙ at_any mid i was [] h)) k) o id there_is (rw (same o) e)

-- ---- all groups

pub listed_kept : (there : List Comment) (old new : Listing) → ((g : Group) → KeepsThere there (ids_of old g) (ids_of new g)) → AreListed old there → AreListed new there
listed_kept there old new keeps w = λ g. among_kept g there (ids_of old g) (ids_of new g) (keeps g) (w g)

pub listed_filter : (l : Listing) (p : Comment → Bool) (cs : List Comment) → AreListed l cs → AreListed l (filter p cs)
listed_filter l p cs w = λ g. among_filter g (ids_of l g) p cs (w g)

pub listed_push : (l : Listing) (cs : List Comment) (c : Comment) → AreListed l cs → ((g : Group) → goes g c ≡ true → has (ids_of l g) c.id ≡ true) → AreListed l (cs ++ c ∷ [])
listed_push l cs c w h = λ g. among_push g (ids_of l g) cs c (w g) (h g)

-- where a group is gone, its list may be any
pub listed_gone : (old new : Listing) (gone : Group) (cs : List Comment) → ((g : Group) → (ids_of new g ≡ ids_of old g) ⊎ (g ≡ gone)) → AreListed old cs → AreListed new (filter (λ c. not (goes gone c)) cs)
listed_gone old new gone cs others w = λ g.
    elim (others g) [
      | inl same ↦ rw same (among_filter g (ids_of old g) (λ c. not (goes gone c)) cs (w g))
      | inr is ↦ rw is (among_gone gone (ids_of new gone) cs)
    ]
