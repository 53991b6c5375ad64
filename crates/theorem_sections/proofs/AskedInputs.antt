-- What is asked of a member takes no message and is no timeout.
use Rattle.std.proofs.Common.{◌≡◌, List, Option, None, Some, subst}
use Rattle.std.specs.Prelude.{⊤, option_map, slice_get}
use Rattle.model_members.specs.View.{View}
use Rattle.model_members.specs.Node.{Input}
use Rattle.model_members.specs.Script.{Ask, input_of}

abbrev pub IsAsked : {Op : Type 0} → Input Op → Type 0
IsAsked (Input.Take from message) = ⊥
IsAsked (Input.Timeout op) = ⊥
IsAsked _ = ⊤

abbrev IsAskedOrNone : {Op : Type 0} → Option (Input Op) → Type 0
IsAskedOrNone None = ⊤
IsAskedOrNone (Some input) = IsAsked input

each_asked : {Op : Type 0} (views : List View) (ask : Ask Op) → IsAskedOrNone (input_of views ask)
each_asked {Op} views (Ask.Install number) = by_view (slice_get views number)
  where
    by_view : (o : Option View) → IsAskedOrNone {Op = Op} (option_map Input.Install o)
    by_view None = tt
    by_view (Some view) = tt
each_asked views ask = tt

pub is_asked : {Op : Type 0} (views : List View) (ask : Ask Op) (input : Input Op) → input_of views ask ≡ Some input → IsAsked input
is_asked views ask input is = subst IsAskedOrNone is (each_asked views ask)
