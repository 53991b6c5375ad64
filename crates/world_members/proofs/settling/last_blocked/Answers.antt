use Rattle.std.proofs.Common.{◌∙◌, ap, sym}
use Rattle.std.specs.Prelude.{option_copied, option_map, unwrap_or}
use Rattle.world_members.specs.declared.event.Event.{Event}
use Rattle.world_members.specs.Settling.{blocked_in}
use Rattle.world_members.proofs.SettleParts.{last_there}
use Rattle.world_members.proofs.settling.last_blocked.Goals as goal

pub returns-in-Some : goal.returns-in-Some
returns-in-Some c =
    c.blocked_in.ensures ∙ sym (ap (λ o. unwrap_or (option_map (λ (event : Event). blocked_in event.answer) o) 0) (last_there c.args.events.now ∙ sym c.last.ensures.value ∙ ap option_copied c.in-Some.is))
