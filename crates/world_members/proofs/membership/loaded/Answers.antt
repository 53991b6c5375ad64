use Rattle.std.proofs.Common.{◌≡◌, subst, sym}
use Rattle.member_keeper.specs.Calls.{Gives}
use Rattle.member_node.specs.Loading.{IsRefusedLoad}
use Rattle.member_node.specs.Loaded.{IsDamaged}
use Rattle.member_node.specs.Stores.{SpellsStore}
use Rattle.world_members.proofs.membership.loaded.Goals as goal

pub returns-in-Err-Damaged : goal.returns-in-Err-Damaged
returns-in-Err-Damaged g c =
    let damaged = subst (λ e. IsDamaged g.T.SpelledData c.args.old c.args.id c.args.view e) c.in-Err-Damaged.field-0-is c.in-Err-Damaged.ensures.damaged in
    record {
      refused = subst (λ e. IsRefusedLoad c.args.old e) c.in-Err-Damaged.field-0-is c.in-Err-Damaged.ensures.refused;
      unfit = λ kinds logs table store told of_kinds spells fit.
          let given : damaged.loaded ≡ table = (subst (λ t. Gives t damaged.loaded) told damaged.gives).0 in
          damaged.unfit kinds logs store of_kinds (subst (λ t. SpellsStore g.T.Replica g.T.SpelledData kinds logs t store) (sym given) spells) fit;
    }

pub returns-in-Err-Memory : goal.returns-in-Err-Memory
returns-in-Err-Memory g c = subst (λ e. IsRefusedLoad c.args.old e) c.in-Err-Memory.field-0-is c.in-Err-Memory.ensures.refused
