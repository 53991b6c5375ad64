use Rattle.std.proofs.Common.{◌≡◌, ap, sym, ◌∙◌, subst, refl, Result, Ok}
use Rattle.base_bytes.specs.declared.memory.Memory.{Memory}
use Rattle.data_envelope.specs.declared.outcomes.Init.{Init}
use Rattle.data_envelope.specs.declared.outcomes.Init.TheVariants as initial
use Rattle.member_node.proofs.Common.{StandsFor, parts_of}
use Rattle.model_members.specs.Entry.{ticked}
use Rattle.member_node.specs.Ticking.{IsTicked}
use Rattle.member_node.proofs.Ticks.{nothing_at, marked_at, newer_at, standing_at, tick_as}
use Rattle.member_node.proofs.ticking.outcome_of.Goals as goal

-- what was told otherwise is not that the mark was made
module _ {told : Result Init Memory} {init : Init} where
  nothing_unmade : told ≡ Ok init → init ≡ initial.NothingKnown → told ≡ Ok initial.Marked → ⊥
  nothing_unmade told_so is made = cc

  newer_unmade : told ≡ Ok init → init ≡ initial.Newer → told ≡ Ok initial.Marked → ⊥
  newer_unmade told_so is made = cc

  standing_unmade : told ≡ Ok init → init ≡ initial.Standing → told ≡ Ok initial.Marked → ⊥
  standing_unmade told_so is made = cc

pub returns-in-NothingKnown-clause-image : goal.returns-in-NothingKnown-clause-image
returns-in-NothingKnown-clause-image g c = λ log before s.
    let R = g.T.Replica in
    let one = c.args.entry.now in
    let ensures = c.in_ok-init_prune.ensures in
    let same = ensures.stays (nothing_unmade refl c.in-NothingKnown.is) in
    tick_as R.IsDataOf log c.args.owner c.args.removed before c.init_prune.new.self _ _ _
    (nothing_at R.data_type (R.kind_of one.value) c.args.owner c.args.view c.args.members.now before c.args.removed (sym (ensures.outcome log before s) ∙ c.in-NothingKnown.is))
    (subst (λ e. StandsFor R.IsDataOf (parts_of e) log before) (sym same) s)

pub returns-in-Marked-clause-image : goal.returns-in-Marked-clause-image
returns-in-Marked-clause-image g c = λ log before s.
    let R = g.T.Replica in
    let one = c.args.entry.now in
    let ensures = c.in_ok-init_prune.ensures in
    tick_as R.IsDataOf log c.args.owner c.args.removed before c.init_prune.new.self _ _ _
    (marked_at R.data_type (R.kind_of one.value) c.args.owner c.args.view c.args.members.now before c.args.removed (sym (ensures.outcome log before s) ∙ c.in-Marked.is))
    (record { image = λ part. ensures.image log before s (ap Ok c.in-Marked.is); told = refl; after = refl })

pub returns-in-Newer-clause-image : goal.returns-in-Newer-clause-image
returns-in-Newer-clause-image g c = λ log before s.
    let R = g.T.Replica in
    let one = c.args.entry.now in
    let ensures = c.in_ok-init_prune.ensures in
    let same = ensures.stays (newer_unmade refl c.in-Newer.is) in
    tick_as R.IsDataOf log c.args.owner c.args.removed before c.init_prune.new.self _ _ _
    (newer_at R.data_type (R.kind_of one.value) c.args.owner c.args.view c.args.members.now before c.args.removed (sym (ensures.outcome log before s) ∙ c.in-Newer.is))
    (record { image = λ part. subst (λ e. StandsFor R.IsDataOf (parts_of e) log before) (sym same) s; told = refl; after = refl })

pub returns-in_ok-outcome-in-Standing-clause-image : goal.returns-in_ok-outcome-in-Standing-clause-image
returns-in_ok-outcome-in-Standing-clause-image g c = λ log before s.
    let R = g.T.Replica in
    let one = c.args.entry.now in
    let ensures = c.in_ok-init_prune.ensures in
    let same = ensures.stays (standing_unmade refl c.in-Standing.is) in
    let told = c.in_ok-outcome-in-Standing.outcome in
    let new = c.performed.new.entry in
    tick_as R.IsDataOf log c.args.owner c.args.removed before c.performed.new.entry _ _ _
    (standing_at R.data_type (R.kind_of one.value) c.args.owner c.args.view c.args.members.now before c.args.removed (sym (ensures.outcome log before s) ∙ c.in-Standing.is))
    (subst (λ e. IsTicked R.IsDataOf log c.args.owner c.args.removed before (ticked (R.data_type.blocked (R.kind_of e.value) c.args.owner c.args.removed before.history) c.args.owner c.args.view c.args.members.now before c.args.removed) told new) same
    (c.in_ok-outcome-in-Standing.ensures.image log before (subst (λ e. StandsFor R.IsDataOf (parts_of e) log before) (sym same) s)))
