-- Members and keepers by their places.
--     member_of        the member of an identity
--     keeper_of        the keeper of a place: its member's, or a spare one
use Rattle.std.specs.Prelude.{ℕ, List, [], ◌∷◌, ◌++◌, find, ◌==◌, Option, Some, None, option_map, option_and_then, option_to_list, slice_get}
use Rattle.model_members.specs.View.{View, Member}
use Rattle.data_lattice.specs.declared.replica.Replica.{Ghosts}
use Rattle.member_keeper.specs.declared.keeper.Keeper.{Ghosts as Keeping}
use Rattle.member_node.specs.declared.node.Node.{Node}

-- what stands at a place, where something does
abbrev pub item_at : {X : Type 0} → List (Option X) → ℕ → Option X
item_at xs place = option_and_then (λ x. x) (slice_get xs place)

-- the identity of the member at a place
abbrev pub identity_at : View → ℕ → Option ℕ
identity_at view place = option_map (λ (member : Member). member.identity) (find (λ (member : Member). member.place == place) view.members)

-- the place of a member, and none of another identity
abbrev pub seat_of : View → ℕ → Option ℕ
seat_of view i = option_map (λ (member : Member). member.place) (find (λ (member : Member). member.identity == i) view.members)

module _ {T K Kind Op Delta : Type 0} {ghosts : Ghosts T Kind Op Delta} {keeping : Keeping K} where
  abbrev pub member_of : View → List (Option (Node T K Kind Op Delta ghosts keeping)) → ℕ → Option (Node T K Kind Op Delta ghosts keeping)
  member_of view nodes i = option_and_then (item_at nodes) (seat_of view i)

  abbrev pub first_keeper : Option (Node T K Kind Op Delta ghosts keeping) → Option K → Option K
  first_keeper None spare = spare
  first_keeper (Some node) spare = Some node.keeper

  abbrev pub keeper_of : List (Option (Node T K Kind Op Delta ghosts keeping)) → List (Option K) → ℕ → Option K
  keeper_of nodes spare place = first_keeper (item_at nodes place) (item_at spare place)

  -- the keepers of all places, in their order
  abbrev pub keepers_of : List (Option (Node T K Kind Op Delta ghosts keeping)) → List (Option K) → List K
  keepers_of [] spare = []
  keepers_of (member ∷ nodes) [] = []
  keepers_of (member ∷ nodes) (keeper ∷ spare) = option_to_list (first_keeper member keeper) ++ keepers_of nodes spare
