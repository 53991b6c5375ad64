use Rattle.std.proofs.Common.{◌≡◌, sym, ap, ◌∙◌}
use Rattle.std.proofs.lemmas.Result.{IfOk-weaker}
use Rattle.member_node.proofs.Common.{number_at, parts_of}
use Rattle.data_envelope.proofs.Reading.{all_counted, unmarked}
use Rattle.data_deltalog.specs.Words.{IsAfter}
use Rattle.member_node.specs.Recording.{FollowsAll}
use Rattle.member_node.proofs.recording.prepared.Goals as goal

-- an entry without a mark counts all its records
pub returns-then-is_empty-clause-before : goal.returns-then-is_empty-clause-before
returns-then-is_empty-clause-before g c =
    let entry = c.args.entry.now in
    let log = c.args.log.now in
    let empty = c.is_empty.ensures.0 c.if-is_empty.true in
    IfOk-weaker c.prepare.result (IsAfter log (number_at c.versions.result.now)) (FollowsAll g.T.Replica log entry)
    (λ next after history held stands i other. after i other ∙ ap (λ m. number_at m i) c.versions.ensures.value
    ∙ all_counted g.T.Replica.IsDataOf (parts_of entry) history held stands (unmarked entry.markers (sym c.markers.ensures.value ∙ empty)) i) c.prepare.ensures.before
