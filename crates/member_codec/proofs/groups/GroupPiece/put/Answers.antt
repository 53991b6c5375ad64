use Rattle.std.proofs.lemmas.Result.{on_ok_weaker}
use Rattle.member_codec.specs.Identities.{identity_spelled, versions_spelled}
use Rattle.member_codec.specs.Numbers.{span_spelled}
use Rattle.member_codec.proofs.Putting.{five_put}
use Rattle.member_codec.proofs.groups.GroupPiece.put.Goals as goal

pub returns-clause-ok : goal.returns-clause-ok
returns-clause-ok g c =
    on_ok_weaker c.spell_delta.result
    (five_put c.args.into.now.items (identity_spelled c.args.self.now.origin) (span_spelled (c.args.self.now.after, c.args.self.now.upto)) (versions_spelled c.args.self.now.needs) (g.T.SpelledDelta.delta_spelled c.args.self.now.delta)
    c.put.new.into.items c.put-2.new.into.items c.put-3.new.into.items c.push.new.self.items c.spell_delta.new.into.items (g.T.SpelledDelta.delta_byte c.args.self.now.delta)
    c.in_ok-put.ensures.ok c.in_ok-put-2.ensures.ok c.in_ok-put-3.ensures.ok (rw c.delta_kind.ensures at c.in_ok-push.ensures.items))
    c.spell_delta.ensures.ok
