use Rattle.std.proofs.Common.{refl, sym, ap, ◌∙◌, subst}
use Rattle.std.specs.Coded.{Coded-set}
use Rattle.member_node.proofs.Common.{known, changed_operations}
use Rattle.member_node.specs.Planning.{CanCarryOut, KeepsKinds}
use Rattle.member_node.specs.Storing.{AreStores}
use Rattle.member_node.specs.Steps.{IsKeptBy}
use Rattle.member_node.proofs.Standing.{on_err, unchanged_same, same_otherwise}
use Rattle.member_node.proofs.node.Node.carry.Goals as goal

pub returns-in_err-stores-clause-unchanged : goal.returns-in_err-stores-clause-unchanged
returns-in_err-stores-clause-unchanged g c = on_err c.from_residual.result (unchanged_same c.args.self.now)

pub returns-in_err-fate-clause-unchanged : goal.returns-in_err-fate-clause-unchanged
returns-in_err-fate-clause-unchanged g c = on_err c.from_residual-in_err-fate.result (record { same = same_otherwise (Coded-set g.row.T-Kind.coded) c.args.self.now _ refl refl refl refl refl refl refl; told = c.in_err-fate.ensures.refused })

pub stores-requires : goal.stores-requires
stores-requires g c = record {
  can = subst (λ keys. CanCarryOut g.T.Replica keys c.args.plan) (sym c.deref.ensures.value) c.requires.sound.can;
  kinds = subst (λ keys. KeepsKinds g.T.Replica keys c.args.plan) (sym c.deref.ensures.value) c.requires.sound.kinds;
}

pub returns-clause-carried : goal.returns-clause-carried
returns-clause-carried g c =
    let code = c.args.self.now in
    let stores = c.in_ok-stores.stores in
    let fate = c.in_ok-fate.fate in
    record {
      planned = c.commit.ensures.planned;
      operated = c.commit.ensures.operated ∙ ap (changed_operations (known code.operations)) c.after.ensures;
      viewed = c.commit.ensures.viewed;
      counted = c.commit.ensures.counted;
      limit = c.commit.ensures.limit;
      identity = c.commit.ensures.identity;
      items = stores;
      stores = subst (λ keys. AreStores g.T.Replica g.T.SpelledData keys c.args.plan stores) c.deref.ensures.value c.in_ok-stores.ensures.stores;
      nothing = c.in_ok-stores.ensures.nothing;
      kept = subst (IsKeptBy g.K.Keeper stores fate code.keeper) (sym c.commit.ensures.keeper) (subst (λ items. IsKeptBy g.K.Keeper items fate code.keeper c.keep.new.keeper) c.as_slice.ensures c.in_ok-fate.ensures.kept);
    }
