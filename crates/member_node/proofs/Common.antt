-- The names that most proofs of this crate cite, passed on from one place. Declares nothing.
pub use Rattle.model_history.proofs.CutLaws.{uncleaned}
pub use Rattle.model_history.specs.History.{History, at, versions, IsPartOf}
pub use Rattle.model_history.specs.Log.{IsTakenFrom}
pub use Rattle.model_history.specs.Table.{identity_limit}
pub use Rattle.model_history.specs.Texts.{Text}
pub use Rattle.model_history.specs.Vector.{VersionVector, IdentitySet}
pub use Rattle.model_members.proofs.Steps.{bytes_eq-tells}
pub use Rattle.model_members.proofs.Taking.{is_unchanged-same}
pub use Rattle.model_members.specs.DataType.{Replication}
pub use Rattle.model_members.specs.Entry.{is_unchanged, has_records, seen_by, with_action}
pub use Rattle.model_members.specs.Node.{one_step_later, state_of, OpenOperation, needed, key_state, HasKey, Stepped, keyed_entry}
pub use Rattle.model_members.specs.Node.Fate.{NoStore}
pub use Rattle.model_members.specs.Step.{step, after_entries, answered, step_of_take, take_entry, answer_to, gossip_to, after_groups, is_answered_by, take_group, result_of, counted, named_entries, AfterGroups, opened}
pub use Rattle.model_members.specs.View.{is_member, View, identities_of}
pub use Rattle.base_vectors.specs.Vectors.{number_at, Numbers}
pub use Rattle.data_markers.specs.Marks.{performed_in, mark_of}
pub use Rattle.model_kinds.specs.declared.shown.Shown.{Shown}
pub use Rattle.data_lattice.specs.declared.replica.Replica.{Ghosts}
pub use Rattle.member_keeper.specs.declared.keeper.Keeper.{Ghosts as Keeping}
pub use Rattle.data_envelope.specs.Images.{StandsFor, Parts}
pub use Rattle.data_envelope.specs.Words.{parts_of}
pub use Rattle.data_envelope.specs.declared.envelope.Envelope.{Envelope}
pub use Rattle.data_codec.specs.Entries.{entry_digest}
pub use Rattle.data_deltalog.specs.Contents.{LogParts}
pub use Rattle.data_deltalog.specs.Images.{StandsForLog}
pub use Rattle.data_deltalog.specs.declared.delta_log.NextRecord.{NextRecord}
pub use Rattle.member_messages.specs.Standing.{StandsForKeyed, StandsForPosts, digest_told, StandsForMessage, StandsForEntry, StandsForKeyedGroup, StandsForPost}
pub use Rattle.member_messages.specs.declared.message.Keyed.{Keyed}
pub use Rattle.member_messages.specs.declared.message.Message.{Message}
pub use Rattle.member_quorum.specs.Levels.{level_meant}
pub use Rattle.member_node.specs.Changes.{AreMade, changed, IsFlush}
pub use Rattle.member_node.specs.Fresh.{IsFresh}
pub use Rattle.member_node.specs.Gossip.{HoldsKey}
pub use Rattle.member_node.specs.Inputs.{TellsEntries, IsEntryPassedOver, StandsForTaken, TellsGroups}
pub use Rattle.member_node.specs.Keys.{declared_by, AreDistinct, AreDistinctKeys}
pub use Rattle.member_node.specs.Loading.{AreSound}
pub use Rattle.member_node.specs.Members.{StandsForKey, StandsForNode}
pub use Rattle.member_node.specs.Opening.{IsOpened}
pub use Rattle.member_node.specs.Operations.{known, changed_operations, StandForOperations, result_meant}
pub use Rattle.member_node.specs.Outputs.{is_pending}
pub use Rattle.member_node.specs.Own.{AreOfTheirKinds, AreLogged, HasFewOwn, IsUnpruned}
pub use Rattle.member_node.specs.Planning.{IsPrepared, ticked, LeadsOn, AreOwned, IsSoundPlan, recorded}
pub use Rattle.member_node.specs.Preparing.{Prepares, IsSoundFor}
pub use Rattle.member_node.specs.Replies.{delta_groups, meant}
pub use Rattle.member_node.specs.Restoring.{HoldsKept}
pub use Rattle.member_node.specs.Sending.{state_in, IsHeldBy, peers_of, own_number}
pub use Rattle.member_node.specs.Steps.{replication, StandsForOutput, IsUnchanged, IsStepOf}
pub use Rattle.member_node.specs.Storing.{AreSpelled}
pub use Rattle.member_node.specs.Taking.{IsKept, LeadsTo, IsAtWork, AreExactAt, AreHeld, gap_told, StandsAfter, current_of}
pub use Rattle.member_node.specs.Ticking.{IsKeyTick, IsTickedAs, tick_in, TicksIn}
pub use Rattle.member_node.specs.declared.change.Change.{Change}
pub use Rattle.member_node.specs.declared.change.Change.TheVariants.{Flushed}
pub use Rattle.member_node.specs.declared.key.KeyState.{KeyState}
pub use Rattle.member_node.specs.declared.node.Node.{Node}
pub use Rattle.member_node.specs.declared.operation.Operation.TheVariants.{Open}
pub use Rattle.member_node.specs.declared.operations.OperationChange.TheVariants.{Put}
pub use Rattle.member_node.specs.declared.plan.Plan.TheVariants.{Nothing, Each, At}
pub use Rattle.member_node.specs.declared.plan.Prepared.{Prepared}
pub use Rattle.member_node.specs.declared.reply.Output.{Output}
pub use Rattle.member_node.specs.declared.reply.Reply.{Reply}
pub use Rattle.member_node.specs.declared.ticking.KeyTick.{KeyTick}
