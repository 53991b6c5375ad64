use Rattle.std.proofs.Common.{◌≡◌, ℕ, [], Some, sym, ap, subst, ◌∙◌}
use Rattle.model_members.specs.View.{View}
use Rattle.member_keeper.specs.declared.memory.MemoryKeeper.{MemoryKeeper}
use Rattle.member_node.specs.Members.{IsNewMember}
use Rattle.theorem_processes.proofs.worked.member.Goals as goal

pub returns-in-Ok-new-clause-made : goal.returns-in-Ok-new-clause-made
returns-in-Ok-new-clause-made g c = λ decls part.
    let limited = c.with_limit.ensures in
    let new =
    subst (λ (view : View). IsNewMember c.args.keys.now c.args.number view c.in-Ok-new.member) c.in-Ok.ensures
    (subst (λ (id : ℕ). IsNewMember c.args.keys.now id c.in-Ok.copy c.in-Ok-new.member) c.in_ok-id.ensures.value c.in-Ok-new.ensures.stands) in
    record {
      own = c.args.keys.now;
      part = part;
      is_new = λ kinds logs histories of_kinds. limited.stands kinds logs _ (new kinds logs histories of_kinds);
      empty = λ table told.
          let none : c.in-Ok-new.member.keeper.table ≡ [] = ap (λ (keeper : MemoryKeeper). keeper.table) c.in-Ok-new.ensures.keeper ∙ c.new-keeper.ensures.table in
          let there : Some c.in-Ok-new.member.keeper.table ≡ Some table = ap (λ (keeper : MemoryKeeper). Some keeper.table) (sym limited.keeper) ∙ told in
          cc;
    }
