-- The worked scripts with client threads: a section of each, by computation, and all others, by trying every move.
use Rattle.std.proofs.Common.{refl, [], ◌∷◌}
use Rattle.std.specs.Prelude.{codes}
use Rattle.std.specs.Fmt.{digits}
use Rattle.json.specs.Print.{escape_byte}
use Rattle.model_kinds.specs.ShownText.{shown_text}
use Rattle.model_kinds.specs.declared.kind.Kind.TheVariants.{GCounter}
use Rattle.model_rows.specs.Words.{data_type, key, durable_key, failing_at}
use Rattle.theorem_sections.specs.Sections.Move.{NextCommand, NextMessage, ItsTimeout}
use Rattle.theorem_sections.specs.Rows.{OneClient, pending_update, one_client_text, OtherCommands, other_commands, other_commands_text, TimedOutWrite, timed_out_write, timed_out_text, NackHeard, nack_heard_text, MajorityGet, majority_get, majority_get_text, Racing, racing, racing_text, TwoWriters, two_writers, two_writers_text}
use Rattle.theorem_sections.proofs.Exploring.{has_this, has_only_this, has_only_these, has_this_then, has_only_this_then}
use Rattle.model_members.specs.Script.{none_fails}
use Rattle.model_members.specs.Script.ScriptStep.{Round}

pub OtherCommands_holds : OtherCommands
unfolding digits escape_byte
OtherCommands_holds =
    record {
      has = has_this data_type shown_text none_fails 2 (key (codes "n") GCounter ∷ []) (other_commands ∷ []) other_commands_text
          (NextCommand 0 ∷ NextCommand 0 ∷ NextMessage 0 1 ∷ NextCommand 0 ∷ NextCommand 0 ∷ NextMessage 1 0 ∷ NextCommand 0 ∷ NextCommand 0 ∷ []) refl refl refl;
      only = has_only_this data_type shown_text none_fails 2 (key (codes "n") GCounter ∷ []) (other_commands ∷ []) other_commands_text 9 refl;
    }

pub OneClient_holds : OneClient
unfolding digits escape_byte
OneClient_holds =
    record {
      has = has_this data_type shown_text none_fails 3 (key (codes "n") GCounter ∷ []) (pending_update ∷ []) one_client_text
          (NextCommand 0 ∷ NextMessage 0 1 ∷ NextMessage 0 2 ∷ NextMessage 1 0 ∷ NextMessage 2 0 ∷ NextCommand 0 ∷ NextCommand 0 ∷ []) refl refl refl;
      only = has_only_this data_type shown_text none_fails 3 (key (codes "n") GCounter ∷ []) (pending_update ∷ []) one_client_text 8 refl;
    }

pub TimedOutWrite_holds : TimedOutWrite
unfolding digits escape_byte
TimedOutWrite_holds =
    record {
      has = has_this data_type shown_text (failing_at 1 (1 ∷ [])) 2 (durable_key (codes "d") GCounter ∷ []) (timed_out_write ∷ []) timed_out_text
          (NextCommand 0 ∷ NextMessage 0 1 ∷ NextMessage 1 0 ∷ ItsTimeout 0 ∷ []) refl refl refl;
      only = has_only_this data_type shown_text (failing_at 1 (1 ∷ [])) 2 (durable_key (codes "d") GCounter ∷ []) (timed_out_write ∷ []) timed_out_text 5 refl;
    }

pub NackHeard_holds : NackHeard
unfolding digits escape_byte
NackHeard_holds =
    record {
      has = has_this_then data_type shown_text (failing_at 1 (1 ∷ [])) 2 (durable_key (codes "d") GCounter ∷ []) (timed_out_write ∷ []) nack_heard_text Round
          (NextCommand 0 ∷ NextMessage 0 1 ∷ NextMessage 1 0 ∷ ItsTimeout 0 ∷ []) refl refl refl;
      only = has_only_this_then data_type shown_text (failing_at 1 (1 ∷ [])) 2 (durable_key (codes "d") GCounter ∷ []) (timed_out_write ∷ []) nack_heard_text Round 5 refl;
    }

pub MajorityGet_holds : MajorityGet
unfolding digits escape_byte
MajorityGet_holds =
    record {
      has = has_this data_type shown_text none_fails 2 (key (codes "n") GCounter ∷ []) (majority_get ∷ []) majority_get_text
          (NextCommand 0 ∷ NextMessage 0 1 ∷ NextMessage 1 0 ∷ NextCommand 0 ∷ NextMessage 1 0 ∷ NextMessage 0 1 ∷ []) refl refl refl;
      only = has_only_this data_type shown_text none_fails 2 (key (codes "n") GCounter ∷ []) (majority_get ∷ []) majority_get_text 7 refl;
    }

pub Racing_holds : Racing
unfolding digits escape_byte
Racing_holds =
    record {
      has = has_this data_type shown_text none_fails 1 (key (codes "n") GCounter ∷ []) racing (racing_text (codes "not found")) (NextCommand 1 ∷ NextCommand 0 ∷ []) refl refl refl;
      has_too = has_this data_type shown_text none_fails 1 (key (codes "n") GCounter ∷ []) racing (racing_text (codes "value 1")) (NextCommand 0 ∷ NextCommand 1 ∷ []) refl refl refl;
      only = has_only_these data_type shown_text none_fails 1 (key (codes "n") GCounter ∷ []) racing (racing_text (codes "not found")) (racing_text (codes "value 1")) 3 refl;
    }

pub TwoWriters_holds : TwoWriters
unfolding digits escape_byte
TwoWriters_holds =
    record {
      has = has_this data_type shown_text none_fails 2 (key (codes "n") GCounter ∷ []) two_writers two_writers_text (NextCommand 0 ∷ NextCommand 1 ∷ NextCommand 0 ∷ NextCommand 0 ∷ NextCommand 1 ∷ []) refl refl refl;
      only = has_only_this data_type shown_text none_fails 2 (key (codes "n") GCounter ∷ []) two_writers two_writers_text 6 refl;
    }
