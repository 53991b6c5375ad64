-- Inputs that a script may give.
use Rattle.std.specs.Prelude.{◌≡◌, ℕ, List, Some, slice_get}
use Rattle.model_members.specs.View.{View}
use Rattle.data_lattice.specs.declared.replica.Replica.{Ghosts}
use Rattle.member_node.specs.declared.input.Input.{Input}
use Rattle.member_node.specs.declared.input.Input.TheVariants as input

module _ {T Kind Op Delta : Type 0} {ghosts : Ghosts T Kind Op Delta} where
  -- it takes no message, and an installed view is one of these
  abbrev pub IsGivenFrom : List View → Input T Kind Op Delta ghosts → Type 0
  IsGivenFrom views (input.Take from message) = ⊥
  IsGivenFrom views (input.Install view) = (k : ℕ) × (slice_get views k ≡ Some view)
  IsGivenFrom views _ = Unit {0}
