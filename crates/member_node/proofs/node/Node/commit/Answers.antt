use Rattle.std.proofs.Common.{rules, refl, ℕ, ◌+◌, ◌≤◌, List, [], ◌∷◌, length, sym, subst, arith, length-set, length-append, ◌≡◌, ap, ◌∙◌, Vec}
use Rattle.std.specs.Vec.{with_items}
use Rattle.std.proofs.lemmas.List.{with_items_is}
use Rattle.member_node.proofs.Common.{known, Open, Put, changed_operations, AreOwned, recorded, KeyState, Nothing, At}
use Rattle.member_node.specs.declared.operation.Operation.{Operation}
use Rattle.member_node.specs.declared.operations.OperationChange.{OperationChange}
use Rattle.member_node.specs.declared.operations.OperationChange.TheVariants.{Same, Opened}
use Rattle.member_node.specs.Planning.{IsPlanned}
use Rattle.member_node.specs.declared.plan.Plan.{Plan}
use Rattle.member_node.proofs.node.Node.commit.Given as given
use Rattle.member_node.proofs.node.Node.commit.Goals as goal

module _ {T Kind Op Delta : Type 0} where
  planned_length : (plan : Plan T Kind Op Delta) (keys after : List (KeyState T Kind Op Delta)) → IsPlanned keys plan after → length after ≡ length keys
  planned_length Nothing keys after p = ap length p
  planned_length (At index entry next) keys after p = ap length p.2 ∙ length-set keys index (recorded p.0 entry next)
  planned_length _ keys after p = p.same_length

  -- a slice that was written is the vector's items
  planned_back : {Z : Type 0} (keys : Vec (KeyState T Kind Op Delta) Z) (old new : List (KeyState T Kind Op Delta)) (plan : Plan T Kind Op Delta) → old ≡ keys.items → IsPlanned old plan new → IsPlanned keys.items plan (with_items keys new).items
  planned_back keys old new plan is p =
      let here = subst (λ (xs : List (KeyState T Kind Op Delta)). IsPlanned xs plan new) is p in
      subst (IsPlanned keys.items plan) (sym (with_items_is keys new (planned_length plan keys.items new here ∙ sym keys.ok.0))) here

-- what a member keeps of its keys
owned : (g : given.Over) (c : goal.After-install g) → AreOwned g.T.Replica c.args.self.now.id (c.args.self.now.steps + 1) (with_items c.args.self.now.keys c.carry_out.new.keys).items
owned g c = c.requires.sound.owned (with_items c.args.self.now.keys c.carry_out.new.keys).items (planned_back c.args.self.now.keys c.as_mut_slice.result.now c.carry_out.new.keys c.args.plan c.as_mut_slice.ensures.value c.carry_out.ensures)

-- a step opens one at most
few_changed : (operations : List Operation) (change : OperationChange) (n : ℕ) → length operations ≤ n → length (changed_operations operations change) ≤ n + 1
few_changed operations Same n few = omega arith
few_changed operations (Opened next) n few = let more = length-append operations (Open next.asked ∷ []) in omega arith
few_changed operations (Put op operation) n few = let same = length-set operations op operation in omega arith

pub returns : goal.returns
returns g c = record {
  planned = planned_back c.args.self.now.keys c.as_mut_slice.result.now c.carry_out.new.keys c.args.plan c.as_mut_slice.ensures.value c.carry_out.ensures;
  operated = c.change.ensures;
  viewed = c.install.ensures;
  counted = refl;
  limit = refl;
  identity = refl;
  keeper = refl;
}

pub invariant_of-self : goal.invariant_of-self
invariant_of-self g c = record {
  few_operations =
      let code = c.args.self.now in
      subst (λ (os : List Operation). length os ≤ code.steps + 1) (sym c.change.ensures) (few_changed (known code.operations) c.args.operations code.steps code.few_operations);
  few_own = (owned g c).few;
  unpruned = (owned g c).unpruned;
  logged = (owned g c).logged;
  of_kinds = (owned g c).of_kinds;
  distinct = (owned g c).distinct;
  few_steps = search rules;
  few_limit = c.args.self.now.few_limit;
}
