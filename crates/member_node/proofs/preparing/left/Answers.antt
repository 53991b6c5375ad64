use Rattle.std.proofs.Common.{◌<◌, not, ◌++◌, ◌∷◌, [], sym, ap, ◌∙◌, arith, filter}
use Rattle.std.specs.List.{range_with_len}
use Rattle.member_node.proofs.Common.{identity_limit, is_member}
use Rattle.member_node.proofs.Ticks.{left_one, left_none}
use Rattle.member_node.proofs.preparing.left.Goals as goal
use Rattle.member_node.proofs.preparing.left.Goals.{in-Some+then-not-contains+in_ok-push, in-Some+else-not-contains, in_default}

pub loop-number-preserved : goal.loop-number-preserved
loop-number-preserved c =
    let view = c.args.view.now in
    let number = c.loop-number.number in
    elim c.match-new.branch [
      | in-Some+then-not-contains+in_ok-push w ↦
          let is = w.in-Some.ensures.value in
          let gone = ap (λ i. not (is_member view i)) (sym is) ∙ ap not (sym w.contains.ensures ∙ w.if-not-contains.true) in
          w.ids-is ∙ w.in_ok-push.ensures.ok ∙ (λ j. c.loop-number.invariant j ++ is j ∷ []) ∙ sym (left_one (λ i. not (is_member view i)) number gone)
      | in-Some+else-not-contains w ↦
          let stays = ap (λ i. not (is_member view i)) (sym w.in-Some.ensures.value) ∙ ap not (sym w.contains.ensures ∙ w.if-not-contains.false) in
          w.ids-is ∙ c.loop-number.invariant ∙ sym (left_none (λ i. not (is_member view i)) number stays)
      | in_default w ↦ absurd (
          let few = c.given-given.ensures.sound.few in
          let given = c.given-given.ensures.given in
          let below : number < identity_limit = (let l = c.loop-number-test.true in omega (arith, l, few, given)) in
          let no = w.in_default.ensures.variant.1 below in cc)
    ]

pub returns : goal.returns
returns c =
    let view = c.args.view.now in
    c.into_vec.ensures ∙ c.loop-number.invariant ∙ ap (λ n. filter (λ i. not (is_member view i)) (range_with_len 0 n)) (let given = c.given-given.ensures.given in omega arith)
