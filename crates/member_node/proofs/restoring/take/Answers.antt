use Rattle.std.proofs.Common.{refl, sym, subst}
use Rattle.member_node.proofs.Common.{parts_of}
use Rattle.member_node.specs.Restoring.{HasSeen}
use Rattle.member_node.proofs.restoring.take.Goals as goal

pub returns : goal.returns
returns g c =
    let seen = c.add_seen-changed.ensures in
    record {
      others = refl;
      seen = subst (HasSeen g.T.Replica.IsDataOf c.args.id c.args.view (parts_of c.args.entry)) (sym c.put.ensures) (record { value = seen.value; versions = seen.versions; performed = seen.performed; image = seen.image });
    }
