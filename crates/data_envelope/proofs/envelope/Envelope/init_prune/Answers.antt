use Rattle.std.proofs.Common.{◌≡◌, ℕ, ◌<◌, ◌||◌, nat_eq, arith, ap, sym, ◌∙◌}
use mathlib.Core.Bool.{or-false}
use Rattle.base_vectors.specs.Vectors.{number_at}
use Rattle.data_markers.specs.Marks.{is_performed, performed_in, begun}
use Rattle.data_envelope.specs.Words.{parts_of, init_by}
use Rattle.data_envelope.proofs.Judging.{init_absent, init_there, unpruned_there, stands_marked}
use Rattle.data_envelope.specs.Pruning.{init_as}
use Rattle.data_envelope.proofs.Pruned.{init_none, init_some, performed_still, unperformed}
use Rattle.data_envelope.proofs.Forgetting.{forgotten_still}
use Rattle.data_envelope.proofs.envelope.Envelope.init_prune.Given as given
use Rattle.data_envelope.proofs.envelope.Envelope.init_prune.Goals as goal

pub returns-then-at-eq0-clause-outcome : goal.returns-then-at-eq0-clause-outcome
returns-then-at-eq0-clause-outcome g c = rw (← c.self.view_is) (
    λ log entry s. init_absent g.T.Replica.IsDataOf _ log entry c.args.removed c.args.view s (sym c.at.ensures.value ∙ c.if-at-eq0.true))

pub returns-in_ok-put-in-Marked-clause-image : goal.returns-in_ok-put-in-Marked-clause-image
returns-in_ok-put-in-Marked-clause-image g c = rw (← c.self.view_is) (
    λ log entry s _.
    let some : 0 < number_at c.self.inside.versions c.args.removed = omega (arith, c.at.ensures.value) in
    stands_marked g.T.Replica.IsDataOf _ _ log entry c.args.removed c.args.owner c.args.view c.with-seen.result s some c.in_ok-put-in-Marked.ensures.ok
    (λ i. c.with-seen.ensures.members i ∙ ap (λ b. nat_eq i c.args.owner || b) (c.empty.ensures.members i) ∙ or-false (nat_eq i c.args.owner)))

pub returns-in_ok-put-in-Marked-clause-outcome : goal.returns-in_ok-put-in-Marked-clause-outcome
returns-in_ok-put-in-Marked-clause-outcome g c = rw (← c.self.view_is) (
    λ log entry s.
    let D = g.T.Replica.IsDataOf in
    let one = c.self.inside in
    let some : 0 < number_at one.versions c.args.removed = omega (arith, c.at.ensures.value) in
    let kept = unpruned_there D _ log entry c.args.removed s some in
    init_there D _ log entry c.args.removed c.args.view _ s some
    (sym c.in-Marked.is ∙ c.first_step.ensures.unpruned (ap is_performed c.get.ensures.value ∙ kept) ∙ ap (λ m. init_by (begun m) c.args.view) c.get.ensures.value))

pub returns-in_default-clause-outcome : goal.returns-in_default-clause-outcome
returns-in_default-clause-outcome g c = rw (← c.self.view_is) (
    λ log entry s.
    let D = g.T.Replica.IsDataOf in
    let one = c.self.inside in
    let some : 0 < number_at one.versions c.args.removed = omega (arith, c.at.ensures.value) in
    let kept = unpruned_there D _ log entry c.args.removed s some in
    init_there D _ log entry c.args.removed c.args.view _ s some
    (c.first_step.ensures.unpruned (ap is_performed c.get.ensures.value ∙ kept) ∙ ap (λ m. init_by (begun m) c.args.view) c.get.ensures.value))

pub returns-then-at-eq0-clause-init : goal.returns-then-at-eq0-clause-init
returns-then-at-eq0-clause-init g c = init_none (parts_of c.args.self.now) c.args.removed c.args.view (rw (← c.self.view_is) (sym c.at.ensures.value ∙ c.if-at-eq0.true))

pub returns-in_ok-put-in-Marked-clause-init : goal.returns-in_ok-put-in-Marked-clause-init
returns-in_ok-put-in-Marked-clause-init g c =
    init_some (parts_of c.args.self.now) c.args.removed c.args.view _ (rw (← c.self.view_is) (omega (arith, c.at.ensures.value)))
    (rw (← c.self.view_is) (sym c.in-Marked.is ∙ c.first_step.ensures.init ∙ ap (λ m. init_as m c.args.view) c.get.ensures.value))

performed_as_before : (g : given.Over) (c : goal.In_ok-put-in-Marked g) → (r : ℕ) → performed_in c.put.new.self r ≡ performed_in c.self.inside.markers r
performed_as_before g c r =
    performed_still c.self.inside.markers _ c.args.removed c.args.view c.args.owner c.with-seen.result c.in_ok-put-in-Marked.ensures.ok
    (ap is_performed (sym c.get.ensures.value) ∙ unperformed c.get.result c.args.view (sym c.first_step.ensures.init ∙ c.in-Marked.is)) r

pub returns-in_ok-put-in-Marked-clause-performed : goal.returns-in_ok-put-in-Marked-clause-performed
returns-in_ok-put-in-Marked-clause-performed g c = rw (← c.self.view_is) (performed_as_before g c)

pub invariant_of-self-in-Marked : goal.invariant_of-self-in-Marked
invariant_of-self-in-Marked g c = forgotten_still g.T.Replica.mentioned c.self.inside.value c.self.inside.versions c.self.inside.markers _ (performed_as_before g c) c.self.invariant

pub returns-in_default-clause-init : goal.returns-in_default-clause-init
returns-in_default-clause-init g c =
    init_some (parts_of c.args.self.now) c.args.removed c.args.view _ (rw (← c.self.view_is) (omega (arith, c.at.ensures.value)))
    (rw (← c.self.view_is) (c.first_step.ensures.init ∙ ap (λ m. init_as m c.args.view) c.get.ensures.value))
