use Rattle.std.proofs.Common.{refl, sym, ◌∙◌, subst, ◌≡◌, ◌≤◌, List, length, ap, Vec}
use Rattle.std.specs.Coded.{Coded-set}
use Rattle.std.proofs.Math.Bridge.{le_prop}
use Rattle.std.proofs.Math.Nat.{ℕ_set}
use Rattle.std.proofs.lemmas.List.{with_items_is}
use Rattle.std.specs.Vec.{with_items}
use mathlib.Core.HLevel.{is_prop→PathP}
use Rattle.member_node.proofs.Common.{HasFewOwn, IsUnpruned, AreLogged, AreOfTheirKinds, AreDistinctKeys}
use Rattle.member_node.proofs.Standing.{same_otherwise}
use Rattle.member_node.proofs.node.Node.keep_digests.Goals as goal

written_again : {X Z : Type 0} (v : Vec X Z) (ws : List X) → ws ≡ v.items → with_items v ws ≡ v
written_again v ws same =
    let items : (with_items v ws).items ≡ v.items = with_items_is v ws (ap length same ∙ sym v.ok.0) ∙ same in
    λ i. record {
      ptr = v.ptr;
      len = v.len;
      cap = v.cap;
      alloc = v.alloc;
      items = items i;
      ok = is_prop→PathP (λ j. (v.len ≡ length (items j)) × (v.len ≤ v.cap)) (λ j x y k. (ℕ_set _ _ x.0 y.0 k, le_prop x.1 y.1 k)) (with_items v ws).ok v.ok i;
      small = v.small;
    }

pub invariant_of-self : goal.invariant_of-self
invariant_of-self g c =
    let old = c.args.self.now in
    let same = sym (written_again old.keys c.keep_for.new.keys (c.keep_for.ensures ∙ c.as_mut_slice.ensures.value)) in
    record {
      few_steps = old.few_steps;
      few_limit = old.few_limit;
      few_operations = old.few_operations;
      few_own = subst (λ keys. HasFewOwn old.id old.steps keys.items) same old.few_own;
      unpruned = subst (λ keys. IsUnpruned old.id keys.items) same old.unpruned;
      logged = subst (λ keys. AreLogged g.T.Replica.kind_of old.id keys.items) same old.logged;
      of_kinds = subst (λ keys. AreOfTheirKinds g.T.Replica.kind_of keys.items) same old.of_kinds;
      distinct = subst (λ keys. AreDistinctKeys keys.items) same old.distinct;
    }

pub returns : goal.returns
returns g c =
    let old = c.args.self.now in
    same_otherwise (Coded-set g.row.T-Kind.coded) old _ refl refl refl (written_again old.keys c.keep_for.new.keys (c.keep_for.ensures ∙ c.as_mut_slice.ensures.value)) refl refl refl
