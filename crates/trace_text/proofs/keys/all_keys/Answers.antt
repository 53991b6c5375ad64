use Rattle.std.proofs.Common.{◌≡◌, true, arith}
use Rattle.std.proofs.lemmas.Grind.{common_steps}
use Rattle.std.proofs.lemmas.List.Elements.{All-push}
use Rattle.script_reading.specs.Fields.{is_key_name}
use Rattle.trace_text.specs.Reading.{keys_after}
use Rattle.trace_text.proofs.Lists.{new_name}
use Rattle.trace_text.proofs.keys.all_keys.Goals as goal

pub loop-value-preserved : goal.loop-value-preserved
unfolding keys_after
loop-value-preserved c = (
  grind (arith, common_steps),
  rw c.in_ok-push.ensures.ok (new_name _ _ c.loop-value.invariant.1 (rw (← c.as_slice.ensures) c.in-Some.ensures.new)),
  rw c.in_ok-push.ensures.ok (All-push (λ key. is_key_name key.key ≡ true) _ _ c.loop-value.invariant.2 c.in-Some.ensures.name),
  grind (arith, common_steps, c.in-Some.ensures.value, c.in_ok-push.ensures.ok, c.loop-value.invariant.3, c.as_slice.ensures),
)
