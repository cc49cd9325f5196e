-- The ids of the comments of each group. An id may be listed for a while after its comment was removed.
use Rattle.std.specs.Prelude.{◌≡◌, ℕ, ◌==◌, ◌&&◌, not, Bool, true, is_some, List, [], ◌∷◌, get_or}
use Rattle.std.specs.List.{list_any}
use Rattle.mon_notes.specs.declared.comment.Comment.{Comment}
use Rattle.mon_notes.specs.declared.comment.Group.{Group}
use Rattle.mon_notes.specs.declared.comment.Group.TheVariants.{Object, Acknowledged, Transient}
use Rattle.mon_notes.specs.Comments.{IsCommentList, comment_of}

-- the comment is one of the group
abbrev pub goes : Group → Comment → Bool
goes (Object object) c = c.object == object
goes (Acknowledged object) c = (c.object == object) && c.ack && not c.persistent
goes Transient c = not c.persistent

-- the id is among these
abbrev pub has : List ℕ → ℕ → Bool
has ids id = list_any (λ x. x == id) ids

-- for each object the ids of its comments, and of those that go with its acknowledgement; and the ids of those that are not
-- persistent
pub record Listing : Type 0 where
  pub objects : List (List ℕ)
  pub acknowledged : List (List ℕ)
  pub transient : List ℕ

-- the ids that are listed for a group
abbrev pub ids_of : Listing → Group → List ℕ
ids_of l (Object object) = get_or l.objects object []
ids_of l (Acknowledged object) = get_or l.acknowledged object []
ids_of l Transient = l.transient

-- the ids of those of these comments that are of the group are among these
abbrev pub AreAmong : Group → (ids : List ℕ) → List Comment → Type 0
AreAmong g ids [] = Unit {0}
AreAmong g ids (c ∷ cs) = (goes g c ≡ true → has ids c.id ≡ true) × AreAmong g ids cs

-- each of these comments is listed for each of its groups
abbrev pub AreListed : Listing → List Comment → Type 0
AreListed l cs = (g : Group) → AreAmong g (ids_of l g) cs

-- comments in order of their ids, each listed for its groups
pub record IsNotes (comments : List Comment) (lists : Listing) (last_id : ℕ) : Type 0 where
  pub list : IsCommentList (record { comments = comments; last_id = last_id })
  pub listed : AreListed lists comments

-- ---- of private contracts alone

-- a group of comments that are not persistent
abbrev pub IsTransient : Group → Type 0
IsTransient (Object object) = ⊥
IsTransient _ = Unit {0}

-- no id of one of these comments is lost
abbrev pub KeepsThere : List Comment → (old new : List ℕ) → Type 0
KeepsThere there old new = (id : ℕ) → is_some (comment_of there id) ≡ true → has old id ≡ true → has new id ≡ true
