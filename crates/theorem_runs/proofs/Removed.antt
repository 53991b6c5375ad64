-- Identities that a view has removed, over an event: who is past the view takes nothing of them.
use Rattle.std.proofs.Common.{◌≡◌, ◌≢◌, ℕ, ◌<◌, ◌≤◌, List, [], ◌∷◌, ◌++◌, length, refl, sym, ap, ◌∙◌, arith, Bool, true, false, Option, Some, None, inl, inr}
use Rattle.std.specs.Prelude.{slice_get}
use Rattle.model_history.proofs.CutLaws.{both_ways}
use Rattle.model_history.specs.Texts.{Text}
use Rattle.model_history.proofs.HistoryLaws.{slice_get-push, slice_get-below}
use Rattle.model_members.specs.View.{View, is_member}
use Rattle.model_members.specs.DataType.{Replication}
use Rattle.model_members.specs.Node.{Node}
use Rattle.model_members.specs.World.{World, views_of}
use Rattle.theorem_runs.specs.Pruning.{HistoryVariables, Standing, noted, first_of, joined_by, HasUnprunedMarks}
use Rattle.theorem_runs.proofs.Happening.{NodeAfter, ViewsAfter, Follows}
use Rattle.theorem_runs.proofs.Happening.NodeAfter.{Same, Stepped, Started}
use Rattle.theorem_runs.proofs.Happening.ViewsAfter.{SameViews, NextViews}
use Rattle.theorem_runs.proofs.RunViews.{HasViews, at_most_last, past_view, views_follow}
use Rattle.theorem_runs.proofs.StoredParts.{HasParts}
use Rattle.theorem_runs.proofs.MarksFollow.{HasMarks, StandsNow, stands_now, joined_known}

-- a view of the list, as of which the identity is removed
pub record IsPast (views : List View) (view : View) (r : ℕ) : Type 0 where
  pub listed : slice_get views view.number ≡ Some view
  pub given : r < view.given
  pub removed : is_member view r ≡ false

module _ {Kind Op Shown : Type 0} (D : Replication Kind Op Shown) (variables : HistoryVariables Op) (world : World Kind Op Shown) (has : HasViews D variables world) (view : View) (r : ℕ) (past : IsPast (views_of world) view r) where
  -- it is in no later view
  pub not_later : (w : View) → slice_get (views_of world) w.number ≡ Some w → view.number ≤ w.number → is_member w r ≡ false
  not_later w listed late = has.views.gone view.number w.number view w r late past.listed listed past.given past.removed

  -- so no running member has this identity
  pub not_running : (t : ℕ) (node : Node Kind Op Shown) → world.nodes t ≡ Some node → t ≢ r
  not_running t node runs is =
      both_ways (is_member world.view r) (ap (is_member world.view) (sym is) ∙ (has.running t node runs).last)
      (not_later world.view has.views.listed (at_most_last (views_of world) world.view has.views view.number view past.listed))

-- whether a running member is past a view: it has joined or is no member of it, or it is an unjoined member
pub data IsPastView {Op : Type 0} (variables : HistoryVariables Op) (key : Text) (r : ℕ) (view : View) (t : ℕ) (number : ℕ) : Type 0 where
  LateMember : view.number ≤ number → IsPastView variables key r view t number
  Unjoined : is_member view t ≡ true → variables.joined key r view.number t ≡ None → IsPastView variables key r view t number

module _ {Kind Op Shown : Type 0} (D : Replication Kind Op Shown) (variables : HistoryVariables Op) (world : World Kind Op Shown) (has : HasViews D variables world) (marks : HasMarks variables world) where
  pub past_or_unjoined : (key : Text) (r : ℕ) (view : View) → slice_get (views_of world) view.number ≡ Some view → (t : ℕ) (node : Node Kind Op Shown) → world.nodes t ≡ Some node → IsPastView variables key r view t node.view.number
  past_or_unjoined key r view listed t node runs = by_member (is_member view t) refl (variables.joined key r view.number t) refl
    where
      by_member : (b : Bool) → is_member view t ≡ b → (o : Option Standing) → variables.joined key r view.number t ≡ o → IsPastView variables key r view t node.view.number
      by_member false stranger o e = LateMember (past_view D variables world has t node runs view listed stranger)
      by_member true member None e = Unjoined member e
      by_member true member (Some standing) e = LateMember (let a = (marks.joined key r view.number t standing e).installed in let b = (has.running t node runs).installed in omega arith)

module _ {Kind Op Shown : Type 0} (D : Replication Kind Op Shown) (variables : HistoryVariables Op) (world next : World Kind Op Shown) (has : HasViews D variables world) (follows : Follows D world next) (parts : HasParts D world) (marks : HasMarks variables world)
    (unpruned : (t : ℕ) (new : Node Kind Op Shown) (key : Text) → next.nodes t ≡ Some new → HasUnprunedMarks (new.entries key)) where
  abbrev then : HasViews D (noted variables next) next
  then = views_follow D variables world next has follows

  -- a view that is listed then was so before, or is the last one, in which nobody has joined yet
  pub data IsListed (view : View) : Type 0 where
    WasListed : slice_get (views_of world) view.number ≡ Some view → IsListed view
    Newest : view ≡ next.view → ((key : Text) (r t : ℕ) → (noted variables next).joined key r view.number t ≡ None) → IsListed view

  nobody_yet : (number : ℕ) → number ≡ length (views_of world) → (key : Text) (r t : ℕ) → (noted variables next).joined key r number t ≡ None
  nobody_yet number is key r t = go ((noted variables next).joined key r number t) refl
    where
      go : (o : Option Standing) → (noted variables next).joined key r number t ≡ o → o ≡ None
      go None e = refl
      go (Some standing) e =
          let j = joined_known D variables world next has follows parts marks unpruned key r number t standing e in
          absurd (let a = slice_get-below (views_of world) j.gone.view number j.gone.listed in omega arith)

  pub listed_then : (view : View) → slice_get (views_of next) view.number ≡ Some view → IsListed view
  listed_then view listed = go follows.views
    where
      go : ViewsAfter D world next → IsListed view
      go (SameViews e v) = WasListed (sym (ap (λ (views : List View). slice_get views view.number) (λ i. e i ++ v i ∷ [])) ∙ listed)
      go (NextViews e n) = elim (slice_get-push (views_of world) next.view view view.number (sym (ap (λ (views : List View). slice_get (views ++ next.view ∷ []) view.number) e) ∙ listed)) [
        | inl old ↦ WasListed old
        | inr new ↦ Newest (sym new.1) (nobody_yet view.number new.0)
      ]

  -- who is gone stays gone
  pub still_gone : (t : ℕ) → t < world.view.given → world.nodes t ≡ None → next.nodes t ≡ None
  still_gone t small none = go (next.nodes t) refl
    where
      go : (o : Option (Node Kind Op Shown)) → next.nodes t ≡ o → o ≡ None
      go None e = refl
      go (Some new) e = absurd (by_node (follows.nodes t new e))
        where
          by_node : NodeAfter D world next t new → ⊥
          by_node (Same was stays) = let f : ◌≡◌ {A = Option (Node Kind Op Shown)} (Some new) None = sym was ∙ none in cc f
          by_node (Stepped old input fate was comes is views) = let f : ◌≡◌ {A = Option (Node Kind Op Shown)} (Some old) None = sym was ∙ none in cc f
          by_node (Started store is given member made from) = omega arith

  -- and joins no more
  pub joins_no_more : (key : Text) (r v t : ℕ) → variables.joined key r v t ≡ None → next.nodes t ≡ None → (noted variables next).joined key r v t ≡ None
  joins_no_more key r v t e none = ap (λ o. first_of o (joined_by (next.nodes t) key r v t)) e ∙ ap (λ o. joined_by o key r v t) none

  -- an unjoined member joins now, with all that it then has, or not yet
  pub data JoinsNow (key : Text) (r v t : ℕ) (new : Node Kind Op Shown) : Type 0 where
    NotYet : (noted variables next).joined key r v t ≡ None → JoinsNow key r v t new
    Joins : (standing : Standing) → (noted variables next).joined key r v t ≡ Some standing → StandsNow (new.entries key) r v t standing → JoinsNow key r v t new

  pub joins_now_or_not : (key : Text) (r v t : ℕ) (new : Node Kind Op Shown) → variables.joined key r v t ≡ None → next.nodes t ≡ Some new → JoinsNow key r v t new
  joins_now_or_not key r v t new e runs = go (joined_by (Some new) key r v t) refl
    where
      now : (noted variables next).joined key r v t ≡ joined_by (Some new) key r v t
      now = ap (λ o. first_of o (joined_by (next.nodes t) key r v t)) e ∙ ap (λ o. joined_by o key r v t) runs

      go : (o : Option Standing) → joined_by (Some new) key r v t ≡ o → JoinsNow key r v t new
      go None f = NotYet (now ∙ f)
      go (Some standing) f = Joins standing (now ∙ f) (stands_now (new.entries key) r v t ((new.entries key).marks r) standing refl f)

  -- a member of a listed view was given before
  pub member_given : (view : View) → slice_get (views_of world) view.number ≡ Some view → (t : ℕ) → is_member view t ≡ true → t < world.view.given
  member_given view listed t member =
      let a = has.views.below view.number view t listed member in
      let b = has.views.given view.number world.view.number view world.view (at_most_last (views_of world) world.view has.views view.number view listed) listed has.views.listed in omega arith

  -- a view at or past the last is the last
  pub is_last : (w : View) → slice_get (views_of next) w.number ≡ Some w → next.view.number ≤ w.number → w ≡ next.view
  is_last w listed late =
      let a = at_most_last (views_of next) next.view then.views w.number w listed in
      let same : w.number ≡ next.view.number = omega arith in
      let e : Some w ≡ Some next.view = sym listed ∙ ap (slice_get (views_of next)) same ∙ then.views.listed in cc e
