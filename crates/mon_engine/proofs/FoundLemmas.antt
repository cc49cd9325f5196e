-- What is found by its id is one of the list.
use Rattle.std.proofs.Common.{◌≡◌, ℕ, Bool, true, false, cond, eqb, List, [], ◌∷◌, Option, Some, All, subst}
use Rattle.std.proofs.lemmas.List.Elements.{recursion_from_All}
use Rattle.std.specs.List.{AllByRecursion, find}
use Rattle.mon_downtime.specs.declared.downtime.Downtime.{Downtime}
use Rattle.mon_downtime.specs.Records.{record_of}
use Rattle.mon_notes.specs.declared.comment.Comment.{Comment}
use Rattle.mon_notes.specs.Comments.{comment_of}

by_found : {A : Type 0} (P : A → Type 0) (x d : A) (rest : Option A) → P x → (rest ≡ Some d → P d) → (b : Bool) → cond b (Some x) rest ≡ Some d → P d
by_found P x d rest p q true e = let same : x ≡ d = cc in subst P same p
by_found P x d rest p q false e = q e

found_in : {A : Type 0} (P : A → Type 0) (test : A → Bool) (d : A) (xs : List A) → AllByRecursion P xs → find test xs ≡ Some d → P d
found_in P test d [] a e = absurd (cc)
found_in P test d (x ∷ xs) a e = by_found P x d (find test xs) a.0 (found_in P test d xs a.1) (test x) e

-- a comment that is found is one of them
pub known_comment : (P : Comment → Type 0) (cs : List Comment) (id : ℕ) (d : Comment) → All P cs → comment_of cs id ≡ Some d → P d
known_comment P cs id d all e = found_in P (λ c. eqb c.id id) d cs (recursion_from_All P cs all) e

-- a downtime that is found is one of them
pub known_downtime : (P : Downtime → Type 0) (ds : List Downtime) (id : ℕ) (d : Downtime) → All P ds → record_of ds id ≡ Some d → P d
known_downtime P ds id d all e = found_in P (λ (x : Downtime). eqb x.id id) d ds (recursion_from_All P ds all) e
