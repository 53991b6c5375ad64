-- A member with a part of the keys counts an answer as one with all, where an operation that it ends is of these.
use Rattle.std.proofs.Common.{◌≡◌, ℕ, List, [], ◌∷◌, ◌++◌, refl, sym, subst, Bool, true, false, not, Option, Some, None, length, map, filter, if◌then◌else◌, nat_le, ◌==◌}
use Rattle.model_history.specs.Vector.{members_of}
use Rattle.model_members.specs.DataType.{Replication}
use Rattle.model_members.specs.Node.{KeyDecl, OpenOperation, Result, Stepped}
use Rattle.model_members.specs.Step.{with_answer, result_of}
use Rattle.model_members.proofs.Cases.{counted_for}
use Rattle.theorem_declaring.specs.Parts.{with_keys, stepped_with, UsesOnly}

-- the second step is the first one, made with a part of the keys, and nothing is held of the others then
pub record StepsAlike {Kind Op Shown : Type 0} (part : List (KeyDecl Kind)) (one other : Stepped Kind Op Shown) : Type 0 where
  pub alike : other ≡ stepped_with part one
  pub stays : UsesOnly part one.node

module _ {Kind Op Shown : Type 0} (D : Replication Kind Op Shown) (part : List (KeyDecl Kind)) where
  -- the open operation ends in this way, or goes on
  abbrev after_answer : Stepped Kind Op Shown → ℕ → OpenOperation → Result Shown → Bool → Stepped Kind Op Shown
  after_answer stepped from o result ends = if ends
      then record {
        node = record stepped.node { open_operations = filter (λ (p : OpenOperation). not (p.op == o.op)) stepped.node.open_operations; finished = stepped.node.finished ++ record { op = o.op; result = result } ∷ [] };
        output = record stepped.output { ended = Some (record { op = o.op; result = result }) };
      }
      else record stepped { node = record stepped.node { open_operations = map (λ (p : OpenOperation). if p.op == o.op then with_answer from o else p) stepped.node.open_operations } }

  answer_alike : (stepped : Stepped Kind Op Shown) (from : ℕ) (o : OpenOperation) (result : Result Shown) (ends : Bool) → UsesOnly part stepped.node → StepsAlike part (after_answer stepped from o result ends) (after_answer (stepped_with part stepped) from o result ends)
  answer_alike stepped from o result true uses = record { alike = refl; stays = record { is_part = uses.is_part; no_others = uses.no_others } }
  answer_alike stepped from o result false uses = record { alike = refl; stays = record { is_part = uses.is_part; no_others = uses.no_others } }

  pub counts_alike : (stepped : Stepped Kind Op Shown) (from : ℕ) (asked : Option OpenOperation) → UsesOnly part stepped.node
      → ((o : OpenOperation) → asked ≡ Some o → result_of D (with_keys part stepped.node) o ≡ result_of D stepped.node o) → StepsAlike part (counted_for D stepped from asked) (counted_for D (stepped_with part stepped) from asked)
  counts_alike stepped from None uses same = record { alike = refl; stays = uses }
  counts_alike stepped from (Some o) uses same =
      let ends = nat_le o.needed (length (members_of (with_answer from o).counted)) in
      subst (λ (r : Result Shown). StepsAlike part (after_answer stepped from o (result_of D stepped.node o) ends) (after_answer (stepped_with part stepped) from o r ends)) (sym (same o refl))
      (answer_alike stepped from o (result_of D stepped.node o) ends uses)
