use Rattle.std.proofs.Common.{◌≡◌, ◌≤◌, ◌++◌, ◌∷◌, [], List, ℕ, true, false, ap, sym, ◌∙◌, arith, append_assoc}
use Rattle.model_history.specs.Table.{identity_limit}
use Rattle.base_vectors.specs.IdSets.{members_in, member_count}
use Rattle.base_vectors.proofs.Readings.{members_below, members_skip, members_more, members_all}
use Rattle.base_vectors.proofs.id_set.IdSet.spell.Goals as goal
use Rattle.base_vectors.proofs.id_set.IdSet.spell.Goals.{in-Some+then-has+in_ok-push-2, in-Some+else-has, in_default}

one_more : (before : List ℕ) (count : ℕ) (xs : List ℕ) (x : ℕ) (now after : List ℕ) → now ≡ before ++ count ∷ xs → after ≡ xs ++ x ∷ [] → now ++ x ∷ [] ≡ before ++ count ∷ after
one_more before count xs x now after is more = ap (λ (ys : List ℕ). ys ++ x ∷ []) is ∙ append_assoc before (count ∷ xs) (x ∷ []) ∙ ap (λ (ys : List ℕ). before ++ count ∷ ys) (sym more)

pub loop-number-preserved : goal.loop-number-preserved
loop-number-preserved c = elim c.match-new.branch [
  | in-Some+then-has+in_ok-push-2 w ↦
      let member : members_in c.args.self c.loop-number.number ≡ true = ap (members_in c.args.self) (sym w.in-Some.ensures.value) ∙ sym w.has.ensures ∙ w.if-has.true in
      rw w.into-is (w.in_ok-push-2.ensures.items ∙ one_more c.args.into.now.items (member_count (members_in c.args.self)) (members_below (members_in c.args.self) c.loop-number.number) c.loop-number.number c.loop-number.into.items _ c.loop-number.invariant (members_more (members_in c.args.self) c.loop-number.number member))
  | in-Some+else-has w ↦
      let out : members_in c.args.self c.loop-number.number ≡ false = ap (members_in c.args.self) (sym w.in-Some.ensures.value) ∙ sym w.has.ensures ∙ w.if-has.false in
      rw w.into-is (c.loop-number.invariant ∙ ap (λ (xs : List ℕ). c.args.into.now.items ++ member_count (members_in c.args.self) ∷ xs) (sym (members_skip (members_in c.args.self) c.loop-number.number out)))
  | in_default w ↦ absurd (let none = w.in_default.ensures.variant.1 (omega (arith, c.loop-number-test.true, c.limit-number-end.ensures.range)) in cc)
]

pub returns-clause-ok : goal.returns-clause-ok
returns-clause-ok c =
    let few : c.loop-number.number ≤ identity_limit = omega (arith, c.loop-number.auto.number-end, c.limit-number-end.ensures.range) in
    c.loop-number.invariant ∙ ap (λ (xs : List ℕ). c.args.into.now.items ++ xs)
    (members_all (members_in c.args.self) c.loop-number.number few (λ i from. c.limit-number-end.ensures.above i (omega (arith, c.loop-number-test.false, from))))
