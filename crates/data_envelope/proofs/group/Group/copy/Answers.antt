use Rattle.std.proofs.Common.{refl}
use Rattle.data_envelope.proofs.Groups.{same_group}
use Rattle.data_envelope.proofs.group.Group.copy.Goals as goal

pub returns : goal.returns
returns g c = same_group _ _ refl refl refl c.in_ok-needs.ensures.same c.in_ok-delta.ensures
