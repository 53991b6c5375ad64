use Rattle.std.proofs.Common.{◌≡◌, None, false, refl, sym, ap, ◌∙◌, subst, subst₂, inl}
use Rattle.member_node.proofs.Common.{known, one_step_later, NoStore, step_of_take, answered, counted, is_answered_by, StandsForPosts, Nothing, Prepared, IsPrepared, replication}
use Rattle.model_members.specs.Node.Reply.{Taken}
use Rattle.member_node.specs.declared.operation.OperationResult.TheVariants.{Wrote}
use Rattle.member_node.specs.declared.reply.Reply.TheVariants as reply
use Rattle.member_node.specs.Counting.{is_write}
use Rattle.member_node.proofs.Operating.{counts_can, counts_opens_none, write_counts, operates_same}
use Rattle.member_node.proofs.Planned.{sound_still, prepared_moved}
use Rattle.member_node.proofs.TakingSteps.{member_is, step_taken}
use Rattle.member_node.proofs.node.Node.acknowledged.Goals as goal

pub returns-clause-sound : goal.returns-clause-sound
returns-clause-sound g c =
    let operations = c.args.self.now.operations in
    record {
      plan = sound_still c.args.self.now Nothing refl;
      operations = counts_can operations c.args.from c.args.op is_write (λ end. end ≡ Wrote) c.in_ok-counted.counted c.in_ok-counted.ensures;
      pending = sym (counts_opens_none (known operations) c.args.from c.args.op is_write (λ end. end ≡ Wrote) c.in_ok-counted.counted c.in_ok-counted.ensures);
    }

pub returns-clause-image : goal.returns-clause-image
returns-clause-image g c = λ kinds logs node sent s i safe.
    let R = g.T.Replica in
    let D = replication R g.T.SpelledData in
    let code = c.args.self.now in
    let from = c.args.from in
    let op = c.args.op in
    let later = one_step_later node in
    let next = counted D (answered later Taken) from (is_answered_by false op) in
    let member = member_is R.kind_of R.IsDataOf kinds logs code node s from ∙ c.requires in
    let same = step_taken D node from sent i.told i.is member ∙ ap (step_of_take D later from NoStore) i.message_stands in
    let w = write_counts D (known code.operations) (answered later Taken) (operates_same (known code.operations) node later s.operations refl refl refl) refl from op c.in_ok-counted.counted c.in_ok-counted.ensures in
    let prepared : Prepared g.row.T.Denot g.row.T-Kind.Denot g.row.T-Op.Denot g.row.T-Delta.Denot R =
    record { view = None; plan = Nothing; operations = c.in_ok-counted.counted.change; output = record { reply = reply.Taken; posts = c.new.result; finished = c.in_ok-counted.counted.finished } } in
    subst (λ st. IsPrepared {ghosts = R} kinds logs code.keys.items (known code.operations) node st prepared) (sym same)
    (prepared_moved kinds logs code node s prepared next refl refl (ap (λ n. n.identity) w.only) (ap (λ n. n.keys) w.only) (ap (λ n. n.steps) w.only) (ap (λ n. n.view) w.only) (ap (λ n. n.entries) w.only) (ap (λ n. n.flushed) w.only)
    w.operates (record {
      reply = sym w.reply;
      posts = subst₂ (StandsForPosts {ghosts = R} R.kind_of R.IsDataOf kinds logs) (sym c.new.ensures) (sym w.posts) tt;
      ended = w.ended;
    }))

pub returns-clause-replies : goal.returns-clause-replies
returns-clause-replies g c = record { stored = refl; failing = inl tt; ends = tt }
