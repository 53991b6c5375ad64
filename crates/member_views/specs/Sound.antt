-- What every view keeps, and every list of views.
use Rattle.std.specs.Prelude.{◌≡◌, ◌≢◌, ℕ, ◌+◌, ◌-◌, ◌*◌, ◌<◌, ◌≤◌, List, length, slice_get, slice_index_or, Some, All, AllPairs}
use Rattle.model_history.specs.Table.{identity_limit}
use Rattle.member_views.specs.Views.{Member, View, first_view}

-- Somebody is a member. Identities rise and were given, places are below 8 and differ. Since each view gives an identity or has a member less than the one before it, few views can come before it.
pub record IsView (view : View) : Type 0 where
  pub some : 0 < length view.members
  pub rising : AllPairs (λ (a b : Member). a.identity < b.identity) view.members
  pub given : All (λ (m : Member). m.identity < view.given) view.members
  pub apart : AllPairs (λ (a b : Member). a.place ≢ b.place) view.members
  pub places : All (λ (m : Member). m.place < 8) view.members
  pub few : view.given ≤ identity_limit
  pub early : view.number + length view.members ≤ 2 * view.given

-- the last of a list that has one
abbrev pub last_view : List View → View
last_view views = slice_index_or views (length views - 1) (first_view 1)

-- There is a view, and each has its place in the list as its number.
pub record AreViews (views : List View) : Type 0 where
  pub some : 0 < length views
  pub numbered : (i : ℕ) (view : View) → slice_get views i ≡ Some view → view.number ≡ i
  pub sound : All IsView views
