use Rattle.std.proofs.Common.{◌≡◌, ℕ, ap, sym, subst, refl, Result, Ok}
use Rattle.base_bytes.specs.declared.memory.Memory.{Memory}
use Rattle.data_envelope.specs.declared.outcomes.Perform.{Perform}
use Rattle.data_envelope.specs.declared.outcomes.Perform.TheVariants as outcome
use Rattle.member_node.proofs.Common.{StandsFor, parts_of}
use Rattle.member_node.proofs.Ticks.{taken_next, standing, ticked_waits, ticked_blocks, ticked_performs, ticked_as}
use Rattle.member_node.proofs.ticking.performed.Goals as goal

-- what was told is no other outcome
module _ {told : Result Perform Memory} {here : Perform} where
  performed_unwaiting : told ≡ Ok here → here ≡ outcome.Performed → (id : ℕ) → told ≡ Ok (outcome.Waiting id) → ⊥
  performed_unwaiting told_so is id waits = cc

  waiting_unperformed : (id : ℕ) → told ≡ Ok here → here ≡ outcome.Waiting id → told ≡ Ok outcome.Performed → ⊥
  waiting_unperformed id told_so is performs = cc

  blocked_unperformed : (owner removed : ℕ) → told ≡ Ok here → here ≡ outcome.Blocked owner removed → told ≡ Ok outcome.Performed → ⊥
  blocked_unperformed owner removed told_so is performs = cc

  blocked_unwaiting : (owner removed : ℕ) → told ≡ Ok here → here ≡ outcome.Blocked owner removed → (id : ℕ) → told ≡ Ok (outcome.Waiting id) → ⊥
  blocked_unwaiting owner removed told_so is id waits = cc

pub returns-in-Performed-clause-image : goal.returns-in-Performed-clause-image
returns-in-Performed-clause-image g c = λ log before s.
    let R = g.T.Replica in
    let one = c.args.entry.now in
    let owner = c.args.owner in
    let removed = c.args.removed in
    let view = c.args.view in
    let members = c.args.members.now in
    let shares = R.data_type.blocked (R.kind_of one.value) owner removed before.history in
    let e = ap Ok c.in-Performed.is in
    let ensures = c.in_ok-perform.ensures in
    ticked_as R.IsDataOf log owner removed before c.perform.new.self _ _ _
    (ticked_performs R.IsDataOf shares owner view members (parts_of one) log before removed s (standing (parts_of one) removed view c.requires.stands) _ ensures.seen (performed_unwaiting refl c.in-Performed.is) (ensures.unblocked log before s e))
    (record { image = λ part. ensures.image log before s (taken_next log before.history owner removed s.taken part) e; told = refl; after = refl })

pub returns-in-Waiting-clause-image : goal.returns-in-Waiting-clause-image
returns-in-Waiting-clause-image g c = λ log before s.
    let R = g.T.Replica in
    let one = c.args.entry.now in
    let owner = c.args.owner in
    let removed = c.args.removed in
    let view = c.args.view in
    let members = c.args.members.now in
    let shares = R.data_type.blocked (R.kind_of one.value) owner removed before.history in
    let ensures = c.in_ok-perform.ensures in
    let same = ensures.stays (waiting_unperformed c.in-Waiting.id refl c.in-Waiting.is) in
    ticked_as R.IsDataOf log owner removed before c.perform.new.self _ _ _
    (ticked_waits R.IsDataOf shares owner view members (parts_of one) log before removed s (standing (parts_of one) removed view c.requires.stands) _ ensures.waiting c.in-Waiting.id (ap Ok c.in-Waiting.is))
    (record { image = λ part. subst (λ e. StandsFor R.IsDataOf (parts_of e) log before) (sym same) s; told = refl; after = refl })

pub returns-in-Blocked-clause-image : goal.returns-in-Blocked-clause-image
returns-in-Blocked-clause-image g c = λ log before s.
    let R = g.T.Replica in
    let one = c.args.entry.now in
    let owner = c.args.owner in
    let removed = c.args.removed in
    let view = c.args.view in
    let members = c.args.members.now in
    let shares = R.data_type.blocked (R.kind_of one.value) owner removed before.history in
    let ensures = c.in_ok-perform.ensures in
    let same = ensures.stays (blocked_unperformed c.in-Blocked.owner_share c.in-Blocked.removed_share refl c.in-Blocked.is) in
    let blocked = ensures.blocked log before c.in-Blocked.owner_share c.in-Blocked.removed_share s (ap Ok c.in-Blocked.is) in
    ticked_as R.IsDataOf log owner removed before c.perform.new.self _ _ _
    (ticked_blocks R.IsDataOf shares owner view members (parts_of one) log before removed s (standing (parts_of one) removed view c.requires.stands) _ ensures.seen (blocked_unwaiting c.in-Blocked.owner_share c.in-Blocked.removed_share refl c.in-Blocked.is) _ blocked)
    (record { image = λ part. subst (λ e. StandsFor R.IsDataOf (parts_of e) log before) (sym same) s; told = refl; after = refl })
