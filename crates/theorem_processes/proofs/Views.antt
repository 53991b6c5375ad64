-- Where members of the next view are.
--     without_place, joined_place, replaced_place        who stays is where it was, and a new one is apart
use Rattle.std.proofs.Common.{◌≡◌, ◌≢◌, ℕ, ◌<◌, sym, ◌∙◌, arith, true, false}
use Rattle.model_members.specs.View.{View, is_member, is_taken, place_of, with_joined, with_replaced}
use Rattle.theorem_runs.proofs.ViewLaws.{HasPlaces, IsMemberAfter, IsNextView, next_joined, next_replaced, joins, joins_at, stays_joined, stays_replaced}
use Rattle.theorem_runs.proofs.ViewLaws.IsMemberAfter.{OldMember, NewMember}

module _ (view next : View) (below : (t : ℕ) → is_member view t ≡ true → t < view.given) where
  -- an old member of the next view is where it was
  pub same_place : (t : ℕ) → is_member view t ≡ true → IsMemberAfter view next t → place_of next t ≡ place_of view t
  same_place t m (OldMember old same) = same
  same_place t m (NewMember is more) = absurd (let l = below t m in omega arith)

module _ (view : View) (below : (t : ℕ) → is_member view t ≡ true → t < view.given) (places : HasPlaces view) where
  module _ (place : ℕ) (free : is_taken view place ≡ false) where
    abbrev joined : View
    joined = with_joined view place

    after_join : IsNextView view joined
    after_join = next_joined view place below free

    pub joined_place : (t : ℕ) → is_member view t ≡ true → place_of joined t ≡ place_of view t
    joined_place t m = same_place view joined below t m (after_join.member t (stays_joined view place below t m))

    pub joined_apart : (t : ℕ) → is_member view t ≡ true → place_of view t ≢ place
    joined_apart t m e =
        let same : t ≡ view.given = (after_join.places places).apart t view.given (stays_joined view place below t m) (joins view place below) (joined_place t m ∙ e ∙ sym (joins_at view place below)) in
        absurd (let l = below t m in omega arith)

  module _ (i : ℕ) (there : is_member view i ≡ true) where
    abbrev replaced : View
    replaced = with_replaced view i

    after_return : IsNextView view replaced
    after_return = next_replaced view i below there

    pub replaced_place : (t : ℕ) → t ≢ i → is_member view t ≡ true → place_of replaced t ≡ place_of view t
    replaced_place t other m = same_place view replaced below t m (after_return.member t (stays_replaced view i below t other m))
