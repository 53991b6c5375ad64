-- What views of a run are.
use Rattle.std.specs.Prelude.{◌≡◌, ℕ, ◌<◌, length, IsTrue, Some, slice_get}
use Rattle.model_members.specs.View.{View, Member, is_member}
use Rattle.model_members.specs.World.{World, views_of}

-- a view of this number: somebody is in it, identities rise and were given, and no two members share a place
pub record IsSoundView (number : ℕ) (view : View) : Type 0 where
  pub numbered : view.number ≡ number
  pub some : 0 < length view.members
  pub rising : (k l : ℕ) (a b : Member) → k < l → slice_get view.members k ≡ Some a → slice_get view.members l ≡ Some b → a.identity < b.identity
  pub given : (i : ℕ) → IsTrue (is_member view i) → i < view.given
  pub apart : (k l : ℕ) (a b : Member) → slice_get view.members k ≡ Some a → slice_get view.members l ≡ Some b → a.place ≡ b.place → k ≡ l

-- view 0, view 1 and so on
abbrev pub HasSoundViews : {Kind Op Shown : Type 0} → World Kind Op Shown → Type 0
HasSoundViews world = (number : ℕ) (view : View) → slice_get (views_of world) number ≡ Some view → IsSoundView number view
