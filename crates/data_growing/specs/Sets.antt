-- What the calls of a set that only grows compute, and what its data are. A set is seen as its elements, rising.
use Rattle.std.specs.Prelude.{ℕ, ◌<◌, List, ◌++◌, Bool, Option, None, Some}
use Rattle.std.specs.Option.{option_to_list}
use Rattle.model_history.specs.Texts.{Text, text_set, contains_text}
use Rattle.model_history.specs.Vector.{VersionVector}
use Rattle.model_history.specs.History.{History}
use Rattle.model_meanings.specs.Refusal.{Refusal, full}
use Rattle.base_bytes.specs.TextOrder.{IsRising}
use Rattle.data_growing.specs.Recorded.{Tells, TellsBetween}

-- the elements of both
abbrev pub set_joined : List Text → List Text → List Text
set_joined state other = text_set (state ++ other)

-- with an element more
abbrev pub set_applied : List Text → Option Text → List Text
set_applied state element = text_set (state ++ option_to_list element)

abbrev pub set_refusal : List Text → Option Text → Option Refusal
set_refusal state None = None
set_refusal state (Some element) = full element state

-- the operation adds the element
abbrev pub is_adding : {Op : Type 0} → (Op → Option Text) → Text → Op → Bool
is_adding added element op = contains_text (option_to_list (added op)) element

-- the elements are those that held records add
pub record IsSetOf {Op : Type 0} (added : Op → Option Text) (state : List Text) (log : History Op) (held : VersionVector) : Type 0 where
  pub rising : IsRising state
  pub tells : (element : Text) → Tells (is_adding added element) log (contains_text state element) held

-- those that one of an origin's records adds
pub record IsAddedBetween {Op : Type 0} (added : Op → Option Text) (delta : List Text) (log : History Op) (origin after to : ℕ) : Type 0 where
  pub rising : IsRising delta
  pub rises : after < to
  pub tells : (element : Text) → TellsBetween (is_adding added element) log (contains_text delta element) origin after to
