-- The one spelling of sets, flags and registers, which of them there are, and the spelling that a history says.
use Rattle.std.specs.Prelude.{ℕ, ◌<◌, ◌≤◌, ◌^◌, List, [], ◌∷◌, ◌++◌, length, Bool, if◌then◌else◌, Option, None, Some, IfSome, option_map}
use Rattle.std.specs.List.{flat_map, AllByRecursion}
use Rattle.model_history.specs.Table.{identity_limit}
use Rattle.model_history.specs.Texts.{Text}
use Rattle.model_history.specs.History.{History}
use Rattle.model_meanings.specs.Growing.{Assignment, newest, winner, winning_text}
use Rattle.model_meanings.specs.Refusal.{greatest_share}
use Rattle.base_bytes.specs.Spelling.{IsText, number_spelled, text_spelled}
use Rattle.base_bytes.specs.TextOrder.{IsRising}
use Rattle.data_growing.specs.declared.register.Written.{Written}

-- how many they are, and each of them
abbrev pub set_spelled : List Text → List ℕ
set_spelled elements = number_spelled (length elements) ++ flat_map text_spelled elements

pub record IsSoundSet (elements : List Text) : Type 0 where
  pub rising : IsRising elements
  pub texts : AllByRecursion IsText elements
  pub counted : length elements < 2 ^ 64

abbrev pub switch_spelled : Bool → List ℕ
switch_spelled on = (if on then 1 else 0) ∷ []

-- the timestamp, the writer and the text
abbrev pub write_spelled : Written → List ℕ
write_spelled write = number_spelled write.timestamp ++ write.writer ∷ text_spelled write.text

-- 0 before the first write
abbrev pub register_spelled : Option Written → List ℕ
register_spelled None = number_spelled 0
register_spelled (Some write) = write_spelled write

pub record IsSoundWrite (write : Written) : Type 0 where
  pub above : 1 ≤ write.timestamp
  pub within : write.timestamp ≤ greatest_share
  pub writer_within : write.writer < identity_limit
  pub text_is : IsText write.text

abbrev pub IsSoundRegister : Option Written → Type 0
IsSoundRegister state = IfSome state IsSoundWrite

-- the write that won among those of a history
abbrev pub won_write : {Op : Type 0} → (Op → Option Assignment) → History Op → Option Written
won_write assigned H = option_map (λ x. record { text = winning_text assigned H; timestamp = newest assigned H; writer = x.origin }) (winner assigned H)
