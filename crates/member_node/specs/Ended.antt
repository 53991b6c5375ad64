-- Which operations of a member are forgotten.
--     ended_first        how many have ended before the first that is open
--     forgotten_to        how many are forgotten where this is asked for
--     forgetting_to        these count as closed
use Rattle.std.specs.Prelude.{ℕ, ◌+◌, min, max, List, [], ◌∷◌, ◌++◌, replicate, drop}
use Rattle.member_node.specs.declared.operation.Operation.{Operation}
use Rattle.member_node.specs.declared.operation.Operation.TheVariants.{Open, Finished, TimedOut}
use Rattle.member_node.specs.declared.operations.Operations.{Operations}
use Rattle.member_node.specs.Operations.{known}

-- how many there are before the first that is open
abbrev pub ended_first : List Operation → ℕ
ended_first [] = 0
ended_first (Open asked ∷ operations) = 0
ended_first (Finished result ∷ operations) = ended_first operations + 1
ended_first (TimedOut ∷ operations) = ended_first operations + 1

-- the number of the first that is open, or is not below this one, and never fewer than were forgotten
abbrev pub forgotten_to : Operations → ℕ → ℕ
forgotten_to operations before = max operations.forgotten (min before (ended_first (known operations)))

-- so many of the first ones are forgotten
abbrev pub forgetting_to : ℕ → List Operation → List Operation
forgetting_to count operations = replicate count TimedOut ++ drop count operations
