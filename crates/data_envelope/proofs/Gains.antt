-- An entry that has each record of another, where neither has begun a mark, is the merge of both.
use Rattle.std.proofs.Common.{◌≡◌, ℕ, ◌≤◌, Bool, true, false, max, None, Option, arith, ap, sym, ◌∙◌}
use Rattle.std.specs.Prelude.{if◌then◌else◌}
use Rattle.model_history.specs.Vector.{Covers, VersionVector, IdentitySet}
use Rattle.model_history.specs.History.{History, versions, union, cut, is_pruned}
use Rattle.model_history.specs.Log.{IsTakenFrom}
use Rattle.model_history.proofs.PartLaws.{taken_union}
use Rattle.model_history.proofs.Bridge.{versions-union, cut_of_part}
use Rattle.model_members.specs.Entry.{Entry, Mark, merged, merged_mark, seen_by, seen_mark}
use Rattle.data_markers.specs.Marks.{mark_of, begun}
use Rattle.data_envelope.specs.Images.{Parts, StandsFor}
use Rattle.data_envelope.specs.Words.{IsUnmarked}

more_is : (m n : ℕ) → n ≤ m → max m n ≡ m
more_is m n l = omega arith

neither : (b : Bool) (one other : Option Mark) → one ≡ None → other ≡ None → (if b then None else merged_mark one other) ≡ one
neither true one other e f = sym e
neither false one other e f = ap (λ m. merged_mark m other) e ∙ f ∙ sym e

unseen : (id view : ℕ) (mark : Option Mark) → mark ≡ None → seen_mark id view mark ≡ mark
unseen id view mark e = ap (seen_mark id view) e ∙ sym e

module _ {Op : Type 0} where
  union_here : (log mine theirs : History Op) → IsTakenFrom log mine → IsTakenFrom log theirs → Covers (versions mine) (versions theirs) → union mine theirs ≡ mine
  union_here log mine theirs s t covers =
      let same : versions (union mine theirs) ≡ versions mine = versions-union mine theirs ∙ (λ j i. more_is (versions mine i) (versions theirs i) (covers i) j) in
      sym (cut_of_part log (union mine theirs) (taken_union mine theirs log s t).part) ∙ ap (cut log) same ∙ cut_of_part log mine s.part

  pub merged_here : (log : History Op) (mine theirs : Entry Op) → IsTakenFrom log mine.history → IsTakenFrom log theirs.history → Covers (versions mine.history) (versions theirs.history) → IsUnmarked mine → IsUnmarked theirs → merged mine theirs ≡ mine
  merged_here log mine theirs s t covers none none' =
      let histories = union_here log mine.history theirs.history s t covers in
      λ j. record {
        history = histories j;
        marks = λ r. neither (is_pruned (union mine.history theirs.history) r) (mine.marks r) (theirs.marks r) (none r) (none' r) j;
      }

  pub seen_here : (entry : Entry Op) (id view : ℕ) → IsUnmarked entry → seen_by id view entry ≡ entry
  seen_here entry id view none = λ j. record { history = entry.history; marks = λ r. unseen id view (entry.marks r) (none r) j }

module _ {State Op : Type 0} (D : State → History Op → VersionVector → IdentitySet → Type 0) where
  -- the begun marks of the parts are those of the entry
  pub begun_none : (parts : Parts State) (log : History Op) (entry : Entry Op) → StandsFor D parts log entry → IsUnmarked entry → (r : ℕ) → begun (mark_of parts.marks r) ≡ None
  begun_none parts log entry s none r = sym (s.marks r) ∙ none r

  pub unmarked_entry : (parts : Parts State) (log : History Op) (entry : Entry Op) → StandsFor D parts log entry → ((r : ℕ) → begun (mark_of parts.marks r) ≡ None) → IsUnmarked entry
  unmarked_entry parts log entry s none r = s.marks r ∙ none r
