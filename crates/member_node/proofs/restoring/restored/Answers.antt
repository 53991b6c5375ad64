use Rattle.std.proofs.Common.{◌≡◌, ℕ, ◌++◌, length, take, drop, sym, ap, ◌∙◌, subst, map, All}
use Rattle.std.proofs.Math.Seq.{take-append_seam}
use Rattle.member_node.proofs.Common.{declared_by, IsFresh, HoldsKept}
use Rattle.member_node.proofs.Restorings.{same_length}
use Rattle.member_node.proofs.restoring.restored.Goals as goal

pub returns-in-Ok-take_all-clause-holds : goal.returns-in-Ok-take_all-clause-holds
returns-in-Ok-take_all-clause-holds g c =
    let states = c.in-Ok.states in
    let next = c.take_all.new.states in
    let count : states.len ≡ length next =
    states.ok.0 ∙ same_length states.items c.args.keys.now c.in-Ok.ensures.declared ∙ sym (same_length next c.args.keys.now c.in-Ok-take_all.ensures.declared) in
    subst (All (HoldsKept g.T.Replica g.T.SpelledData c.args.id c.args.view.now c.args.loaded.items))
    (sym (ap (λ (n : ℕ). take n (next ++ drop (length next) states.items)) count ∙ take-append_seam next (drop (length next) states.items))) c.in-Ok-take_all.ensures.holds

pub returns-in-Ok-take_all-clause-declared : goal.returns-in-Ok-take_all-clause-declared
returns-in-Ok-take_all-clause-declared g c =
    let states = c.in-Ok.states in
    let next = c.take_all.new.states in
    let count : states.len ≡ length next =
    states.ok.0 ∙ same_length states.items c.args.keys.now c.in-Ok.ensures.declared ∙ sym (same_length next c.args.keys.now c.in-Ok-take_all.ensures.declared) in
    ap (map declared_by) (ap (λ (n : ℕ). take n (next ++ drop (length next) states.items)) count ∙ take-append_seam next (drop (length next) states.items))
    ∙ c.in-Ok-take_all.ensures.declared

pub take_all-requires-clause-fresh : goal.take_all-requires-clause-fresh
take_all-requires-clause-fresh g c =
    subst (All (IsFresh g.T.Replica.kind_of g.T.Replica.IsDataOf g.T.Replica.IsDeltaOf c.args.id)) (sym c.as_mut_slice.ensures.value) c.in-Ok.ensures.fresh

pub take_all-requires-clause-distinct : goal.take_all-requires-clause-distinct
take_all-requires-clause-distinct g c = c.requires.distinct
