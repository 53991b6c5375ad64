-- What worked scripts are said with.
use Rattle.std.specs.Prelude.{ℕ, ◌==◌, ◌&&◌, not, List, [], ◌∷◌, ◌++◌, map, true, false, Option, None, Some, flat_map}
use Rattle.std.specs.List.{list_any}
use Rattle.model_history.specs.Texts.{Text}
use Rattle.model_history.specs.Table.{identity_limit, identities}
use Rattle.model_history.specs.Vector.{members_of}
use Rattle.model_history.specs.History.{versions}
use Rattle.model_members.specs.Entry.{Entry, Mark}
use Rattle.model_members.specs.DataType.{Replication}
use Rattle.model_members.specs.Node.{KeyDecl}
use Rattle.model_members.specs.Script.{ScriptStep, KeeperAnswers, none_fails, opening, played_all}
use Rattle.model_members.specs.Report as Report
use Rattle.model_members.specs.Report.{final_block}
use Rattle.model_kinds.specs.declared.kind.Kind.{Kind}
use Rattle.model_kinds.specs.declared.operation.Op.{Op}
use Rattle.model_kinds.specs.declared.shown.Shown.{Shown}
use Rattle.model_kinds.specs.SixKinds.{six_kinds}
use Rattle.model_kinds.specs.ShownText.{shown_text}

abbrev pub mark_digest : Option Mark → List ℕ
mark_digest None = 0 ∷ []
mark_digest (Some mark) = (1 ∷ mark.view ∷ mark.owner ∷ members_of mark.seen) ++ identity_limit ∷ []

-- numbers that tell the entries of these scripts apart
abbrev pub plain_digest : Kind → Entry Op → List ℕ
plain_digest kind entry = map (versions entry.history) identities ++ flat_map (λ r. mark_digest (entry.marks r)) identities

-- the six kinds at members that keep 50 own records for groups and make 16384 steps
abbrev pub data_type : Replication Kind Op Shown
data_type = record { data_type = six_kinds; digest = plain_digest; log_length = 50; most_steps = 16384 }

abbrev pub key : Text → Kind → KeyDecl Kind
key name kind = record { name = name; kind = kind; durable = false }

abbrev pub durable_key : Text → Kind → KeyDecl Kind
durable_key name kind = record { name = name; kind = kind; durable = true }

-- the calls of these numbers to a place's keeper fail, and no others. Call 0 is the clear at the start
abbrev pub failing_at : ℕ → List ℕ → KeeperAnswers
failing_at place calls p call = not ((p == place) && list_any (λ n. n == call) calls)

abbrev pub report_with : KeeperAnswers → ℕ → List (KeyDecl Kind) → List (ScriptStep Op) → Text
report_with = Report.report data_type shown_text

abbrev pub report : ℕ → List (KeyDecl Kind) → List (ScriptStep Op) → Text
report = report_with none_fails

-- the final block alone
abbrev pub final : ℕ → List (KeyDecl Kind) → List (ScriptStep Op) → Text
final members keys steps = final_block data_type shown_text (played_all data_type (opening none_fails members keys) steps).world
