-- What a line does to a member, and the text that tells of it.
use Rattle.std.specs.Prelude.{◌≡◌, ℕ, List, Result, Ok, Err, MatchResult, String, string_bytes}
use Rattle.model_history.specs.Texts.{Text}
use Rattle.model_kinds.specs.declared.kind.Kind.{Kind}
use Rattle.model_kinds.specs.declared.operation.Op.{Op}
use Rattle.data_lattice.specs.declared.replica.Replica.{Ghosts}
use Rattle.data_lattice.specs.declared.spelled.SpelledData.{Ghosts as Spelling}
use Rattle.data_delta_codec.specs.declared.spelled_delta.SpelledDelta.{Ghosts as DeltaSpelling}
use Rattle.member_keeper.specs.declared.keeper.Keeper.{Ghosts as Keeping}
use Rattle.member_node.specs.declared.node.Node.{Node}
use Rattle.member_node.specs.declared.input.Input.{Input}
use Rattle.member_node.specs.declared.reply.Output.{Output}
use Rattle.member_node.specs.Steps.{MakesStep, IsUnchanged}
use Rattle.member_node.specs.Forgetting.{IsOtherwiseAlike, StandsForgetting}
use Rattle.top_lines.specs.declared.refusal.Refusal.{Refusal}
use Rattle.top_lines.specs.Asking.{Asks}
use Rattle.top_lines.specs.Texts.{refusal_line, full_line, output_text}

module _ {T Delta K : Type 0} {ghosts : Ghosts T Kind Op Delta} {keeping : Keeping K} (spelling : Spelling T Kind Op Delta) (deltas : DeltaSpelling T Kind Op Delta) where
  -- how the first operations ended is forgotten, once it was told; the member stands for the model's without that
  abbrev pub Forgets : (mid new : Node T K Kind Op Delta ghosts keeping) → Type 0
  Forgets mid new = IsOtherwiseAlike mid new × StandsForgetting mid new

  -- what an input does: the member's step, or nothing where it is full
  pub data Makes (old : Node T K Kind Op Delta ghosts keeping) (input : Input T Kind Op Delta ghosts) (new : Node T K Kind Op Delta ghosts keeping) (text : Text) : Type 0 where
    made : (output : Output T Kind Op Delta ghosts) (mid : Node T K Kind Op Delta ghosts keeping) → MakesStep spelling old input output mid → Forgets mid new → text ≡ output_text ghosts spelling deltas output → Makes old input new text
    full : old.steps ≡ old.limit → IsUnchanged old new → text ≡ full_line → Makes old input new text

  -- of a step of which nothing is told, for want of memory: it was not made, or it was
  pub data IsUntold (old : Node T K Kind Op Delta ghosts keeping) (input : Input T Kind Op Delta ghosts) (new : Node T K Kind Op Delta ghosts keeping) : Type 0 where
    unmade : IsUnchanged old new → IsUntold old input new
    made_untold : (output : Output T Kind Op Delta ghosts) → MakesStep spelling old input output new → IsUntold old input new

  -- A line does what it asks for, and a text tells of it; or it asks for nothing, which changes nothing
  pub data Answers (old : Node T K Kind Op Delta ghosts keeping) (line : List ℕ) (new : Node T K Kind Op Delta ghosts keeping) (text : Text) : Type 0 where
    answered : (input : Input T Kind Op Delta ghosts) → Asks ghosts spelling deltas old.view old.id line (Ok input) → Makes old input new text → Answers old line new text
    refused : (refusal : Refusal) → Asks ghosts spelling deltas old.view old.id line (Err refusal) → new ≡ old → text ≡ refusal_line refusal → Answers old line new text

  -- of a line of which nothing is told, for want of memory
  pub data LeavesUntold (old : Node T K Kind Op Delta ghosts keeping) (line : List ℕ) (new : Node T K Kind Op Delta ghosts keeping) : Type 0 where
    same : new ≡ old → LeavesUntold old line new
    asked : (input : Input T Kind Op Delta ghosts) → Asks ghosts spelling deltas old.view old.id line (Ok input) → IsUntold old input new → LeavesUntold old line new

  -- a text tells what the line does, or nothing is told, for want of memory
  abbrev pub TellsLine : {A E : Type 0} → (old : Node T K Kind Op Delta ghosts keeping) → (line : List ℕ) → (new : Node T K Kind Op Delta ghosts keeping) → Result (String A) E → Type 0
  TellsLine old line new result = MatchResult result (λ text. Answers old line new (string_bytes text)) (λ _. LeavesUntold old line new)
