use Rattle.std.proofs.Common.{◌≡◌, None, refl, ap, ◌∙◌, sym, subst, slice_get, is_some, ℕ, true, false, not, ◌==◌, if◌then◌else◌, filter}
use Rattle.member_node.proofs.Common.{known, NoStore, OpenOperation, one_step_later, step, answered, Replication, Shown, Put, Nothing, Prepared, is_pending, IsPrepared, meant, replication}
use Rattle.model_members.specs.Node as nodes
use Rattle.model_members.specs.Node.{Reply as Meant}
use Rattle.member_node.specs.declared.operation.Operation.TheVariants.{TimedOut}
use Rattle.member_node.specs.declared.reply.Reply.TheVariants as reply
use Rattle.member_node.specs.Counting.{is_open}
use Rattle.member_node.proofs.Operating.{open_there, can_put, looked_open, operates_closed}
use Rattle.member_node.proofs.Planned.{sound_still, sound_told, prepared_moved, prepared_answered, quiet_output}
use Rattle.member_node.specs.declared.input.Input.TheVariants as inputs
use Rattle.member_node.proofs.Answerings.{replies_told, replies_still}
use Rattle.member_node.proofs.node.Node.timed_out.Goals as goal

module _ {Kind Op : Type 0} (D : Replication Kind Op Shown) (node : nodes.Node Kind Op Shown) (op : ℕ) where
  abbrev closed : nodes.Node Kind Op Shown
  closed = record (one_step_later node) { open_operations = filter (λ (o : OpenOperation). not (o.op == op)) node.open_operations }

  step-closes : is_open node op ≡ true → step D node (nodes.Input.Timeout op) NoStore ≡ answered closed Meant.TimedOut
  step-closes is = ap (λ b. if b then answered closed Meant.TimedOut else answered (one_step_later node) Meant.NoSuchOp) is

  step-closes_none : is_open node op ≡ false → step D node (nodes.Input.Timeout op) NoStore ≡ answered (one_step_later node) Meant.NoSuchOp
  step-closes_none is = ap (λ b. if b then answered closed Meant.TimedOut else answered (one_step_later node) Meant.NoSuchOp) is

pub returns-in-Some-clause-sound : goal.returns-in-Some-clause-sound
returns-in-Some-clause-sound g c =
    let operations = c.args.self.now.operations in
    record {
      plan = sound_still c.args.self.now _ refl;
      operations = can_put operations c.args.op c.in-Some.field-0.now (open_there (slice_get (known operations) c.args.op) c.in-Some.field-0.now (sym c.in-Some.ensures));
      pending = ap (λ o. is_pending o.reply) c.told.ensures;
    }

pub returns-in-Some-clause-image : goal.returns-in-Some-clause-image
returns-in-Some-clause-image g c = λ kinds logs node sent s is safe.
    let R = g.T.Replica in
    let D = replication R g.T.SpelledData in
    let code = c.args.self.now in
    let op = c.args.op in
    let asked = c.in-Some.field-0.now in
    let there = open_there (slice_get (known code.operations) op) asked (sym c.in-Some.ensures) in
    let is_there = looked_open (known code.operations) node s.operations op ∙ ap is_some (sym c.in-Some.ensures) in
    let next = answered (closed D node op) Meant.TimedOut in
    let same : step D node sent NoStore ≡ next = ap (λ i. step D node i NoStore) is ∙ step-closes D node op is_there in
    let prepared : Prepared g.row.T.Denot g.row.T-Kind.Denot g.row.T-Op.Denot g.row.T-Delta.Denot R = record { view = None; plan = Nothing; operations = Put op TimedOut; output = c.told.result } in
    subst (λ st. IsPrepared {ghosts = R} kinds logs code.keys.items (known code.operations) node st prepared) (sym same)
    (prepared_moved kinds logs code node s prepared next refl refl refl refl refl refl refl refl (operates_closed (known code.operations) node next.node s.operations op asked there refl refl refl)
    (quiet_output kinds logs c.told.result next.output (ap (λ o. o.posts) c.told.ensures) (ap (λ o. o.finished) c.told.ensures) (ap (λ o. meant o.reply) c.told.ensures) refl refl))

pub returns-in-None-clause-sound : goal.returns-in-None-clause-sound
returns-in-None-clause-sound g c = sound_told c.args.self.now c.reply.result reply.NoSuchOp c.reply.ensures.plan c.reply.ensures.operations c.reply.ensures.output refl

pub returns-in-None-clause-image : goal.returns-in-None-clause-image
returns-in-None-clause-image g c = λ kinds logs node sent s is safe.
    let R = g.T.Replica in
    let D = replication R g.T.SpelledData in
    let code = c.args.self.now in
    let none = looked_open (known code.operations) node s.operations c.args.op ∙ ap is_some (sym c.in-None.ensures) in
    prepared_answered kinds logs code node s c.reply.result reply.NoSuchOp c.reply.ensures.view c.reply.ensures.plan c.reply.ensures.operations c.reply.ensures.output
    (step D node sent NoStore) (ap (λ i. step D node i NoStore) is ∙ step-closes_none D node c.args.op none)

pub returns-in-Some-clause-replies : goal.returns-in-Some-clause-replies
returns-in-Some-clause-replies g c = replies_still (inputs.Timeout c.args.op) _ reply.TimedOut refl (ap (λ o. o.reply) c.told.ensures) (ap (λ o. o.finished) c.told.ensures) refl

pub returns-in-None-clause-replies : goal.returns-in-None-clause-replies
returns-in-None-clause-replies g c = replies_told (inputs.Timeout c.args.op) c.reply.result reply.NoSuchOp c.reply.ensures.plan c.reply.ensures.output refl
