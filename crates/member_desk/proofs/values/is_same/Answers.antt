use Rattle.std.proofs.lemmas.Bool.Decides.{same_from_decides}
use Rattle.member_desk.specs.Values.{same_shown}
use Rattle.member_desk.proofs.SameValues.{shown_decides}
use Rattle.member_desk.proofs.values.is_same.Goals as goal

pub returns : goal.returns
returns c = same_from_decides c.same_value.result (same_shown c.args.one.now c.args.other.now) c.same_value.ensures (shown_decides c.args.one.now c.args.other.now)
