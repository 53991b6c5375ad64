use Rattle.std.proofs.Common.{◌≡◌, true, false, not, refl, sym, ap, ◌∙◌, arith, ◌&&◌, ◌==◌}
use Rattle.std.proofs.lemmas.Bool.Decides.{nat_tests}
use mathlib.Core.Bool.{and-false}
use Rattle.member_node.specs.Sending.{is_sent}
use Rattle.member_node.proofs.Sendings.{sent_is}
use Rattle.member_node.proofs.sending.post.Goals as goal
use Rattle.member_node.proofs.sending.post.Goals.{then-eq-via-then-eq, then-eq-via-else-eq+then-not-any_behind}

pub returns-then-eq : goal.returns-then-eq
returns-then-eq g c = λ D kinds logs node keeps held declares.
    let R = g.T.Replica in
    elim c.then-eq.branch [
      | then-eq-via-then-eq w ↦ let same : (c.args.peer == c.args.id) ≡ true = grind (arith, nat_tests) in ap (λ b. not b && is_sent D node c.args.peer) same
      | then-eq-via-else-eq+then-not-any_behind w ↦
          let none = sym (sent_is R.kind_of R.IsDataOf R.IsDeltaOf kinds logs c.args.id node D c.args.peer c.args.keys.now held declares) ∙ sym w.any_behind.ensures ∙ w.if-not-any_behind.true in
          ap (λ b. not (c.args.peer == c.args.id) && b) none ∙ and-false (not (c.args.peer == c.args.id))
    ]

pub returns : goal.returns
returns g c = λ D kinds logs node keeps held declares.
    let R = g.T.Replica in
    let some = sym (sent_is R.kind_of R.IsDataOf R.IsDeltaOf kinds logs c.args.id node D c.args.peer c.args.keys.now held declares) ∙ sym c.any_behind.ensures ∙ c.if-not-any_behind.false in
    let other : (c.args.peer == c.args.id) ≡ false = grind (arith, nat_tests) in
    ((λ i. not (other i) && some i), record { to = refl; message = c.in_ok-message.ensures D kinds logs node keeps held declares })
