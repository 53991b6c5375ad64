use Rattle.std.proofs.Common.{◌≡◌, ◌↔◌, Bool, true, false, not, IsTrue, sym, ap, ◌∙◌}
use Rattle.std.proofs.lemmas.Bool.{not-true, not_from_false}
use Rattle.data_envelope.specs.Words.{parts_of}
use Rattle.member_node.specs.Restoring.{names_others}
use Rattle.member_node.proofs.restoring.is_fit.Goals as goal

-- what two tests say together, whatever the later one looks at
module _ {K : Type 0} (x y a b : K) (same named : Bool) (mine : x ≡ a) (theirs : y ≡ b) (tells : IsTrue same ↔ (x ≡ y)) where
  passed : (found : Bool) → found ≡ named → same ≡ true → IsTrue (not found) ↔ ((a ≡ b) × (named ≡ false))
  passed found told is = (λ t. (sym mine ∙ tells.0 is ∙ theirs, sym told ∙ not-true found t), λ p. not_from_false found (told ∙ p.1))

  failed : same ≡ false → IsTrue same ↔ ((a ≡ b) × (named ≡ false))
  failed is = (λ t. absurd (cc (is, t)), λ p. tells.1 (mine ∙ p.0 ∙ sym theirs))

pub returns-then-same_kind : goal.returns-then-same_kind
returns-then-same_kind g c =
    let R = g.T.Replica in
    passed (R.kind_of c.value.result.now) (R.kind_of c.value-2.result.now) c.args.state.now.kind (R.kind_of c.args.entry.now.value) c.same_kind.result (names_others R.mentioned c.args.id c.args.given (parts_of c.args.entry.now))
    (ap R.kind_of (c.value.ensures ∙ ap (λ e. e.value) c.envelope.ensures) ∙ c.requires) (ap R.kind_of c.value-2.ensures) c.same_kind.ensures c.names_others.result c.names_others.ensures c.if-same_kind.true

pub returns-else-same_kind : goal.returns-else-same_kind
returns-else-same_kind g c =
    let R = g.T.Replica in
    failed (R.kind_of c.value.result.now) (R.kind_of c.value-2.result.now) c.args.state.now.kind (R.kind_of c.args.entry.now.value) c.same_kind.result (names_others R.mentioned c.args.id c.args.given (parts_of c.args.entry.now))
    (ap R.kind_of (c.value.ensures ∙ ap (λ e. e.value) c.envelope.ensures) ∙ c.requires) (ap R.kind_of c.value-2.ensures) c.same_kind.ensures c.if-same_kind.false
