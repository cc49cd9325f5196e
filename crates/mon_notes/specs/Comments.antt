-- Comments, in order of their ids.
use Rattle.std.specs.Prelude.{◌≡◌, ℕ, ◌+◌, ◌<◌, ◌≤◌, ◌==◌, ◌&&◌, not, Bool, List, [], ◌∷◌, ◌++◌, length, filter, find, Option, IfSome, slice_get, slice_index_or, zero, suc}
use Rattle.std.specs.Option.{option_map, unwrap_or}
use Rattle.std.specs.List.{AllByRecursion}
use Rattle.mon_notes.specs.declared.comment.Comment.{Comment}

-- the comments that are not removed, and the greatest id ever assigned
pub record CommentList : Type 0 where
  pub comments : List Comment
  pub last_id : ℕ

-- the comment with an id
abbrev pub comment_of : List Comment → ℕ → Option Comment
comment_of cs id = find (λ c. c.id == id) cs

-- the comments that pass the test, in order; an id is never assigned again
abbrev pub kept : (Comment → Bool) → CommentList → CommentList
kept keeps b = record { comments = filter keeps b.comments; last_id = b.last_id }

-- all comments but the one with this id
abbrev pub without : ℕ → CommentList → CommentList
without id b = kept (λ c. not (c.id == id)) b

-- all comments but those of the object
abbrev pub without_object : ℕ → CommentList → CommentList
without_object object b = kept (λ c. not (c.object == object)) b

-- all comments but the object's acknowledgement comments that are not persistent
abbrev pub without_acknowledged : ℕ → CommentList → CommentList
without_acknowledged object b = kept (λ c. not ((c.object == object) && c.ack && not c.persistent)) b

-- the persistent comments
abbrev pub without_transient : CommentList → CommentList
without_transient b = kept (λ c. c.persistent) b

-- one more comment at the end, with the next id
abbrev pub with_comment : CommentList → ℕ → Bool → Bool → ℕ → List ℕ → List ℕ → CommentList
with_comment b object ack persistent time author text = record {
  comments = b.comments ++ record { id = b.last_id + 1; object = object; ack = ack; persistent = persistent; time = time; author = author; text = text } ∷ [];
  last_id = b.last_id + 1;
}

-- the ids ascend from above `low`
abbrev pub AreAscending : ℕ → List Comment → Type 0
AreAscending low [] = Unit {0}
AreAscending low (c ∷ cs) = (low < c.id) × AreAscending c.id cs

-- the ids ascend from 1 on, and were all assigned
pub record IsCommentList (b : CommentList) : Type 0 where
  pub ascending : AreAscending 0 b.comments
  pub given : AllByRecursion (λ c. c.id ≤ b.last_id) b.comments

-- the id of the comment before this index; 0 before the first
abbrev pub id_before : List Comment → (place : ℕ) → ℕ
id_before cs zero = 0
id_before cs (suc place) = unwrap_or (option_map (λ c. c.id) (slice_get cs place)) 0

-- the comment at this index, if there is one, comes after the one before it: its id is greater, and was assigned
abbrev pub ComesAfter : (last_id : ℕ) → List Comment → (place : ℕ) → Type 0
ComesAfter last_id cs place = IfSome (slice_get cs place) (λ c. (id_before cs place < c.id) × (c.id ≤ last_id))

-- the comments stay in order, with one more comment and with fewer
abbrev pub CommentsStayInOrder : Type 0
CommentsStayInOrder = (b : CommentList) → IsCommentList b →
    ((object : ℕ) (ack persistent : Bool) (time : ℕ) (author text : List ℕ) → IsCommentList (with_comment b object ack persistent time author text))
    × ((keeps : Comment → Bool) → IsCommentList (kept keeps b))

-- ---- of private contracts alone

-- the comment with the id is at index i
pub record IsPlaceOf (cs : List Comment) (id i : ℕ) : Type 0 where
  pub within : i < length cs
  pub at : (d : Comment) → (slice_index_or cs i d).id ≡ id

-- the ids ascend from above `low`, and none is above `most`
abbrev pub AreWithin : (low most : ℕ) → List Comment → Type 0
AreWithin low most [] = Unit {0}
AreWithin low most (c ∷ cs) = (low < c.id) × (c.id ≤ most) × AreWithin c.id most cs
