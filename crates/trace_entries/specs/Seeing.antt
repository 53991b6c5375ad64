-- What a recorder sees.
--     Sees        it saw these lines too
--     looked_at        what is looked at of a key of a member
--     OfWhatStands        of the state of a key that an entry stands for
use Rattle.std.specs.Prelude.{◌≡◌, ℕ, List, ◌++◌}
use Rattle.model_history.specs.Texts.{Text}
use Rattle.model_history.specs.History.{History}
use Rattle.model_members.specs.DataType.{Replication}
use Rattle.model_members.specs.Node.{KeyDecl, KeyState}
use Rattle.model_kinds.specs.ShownText.{shown_text}
use Rattle.model_kinds.specs.declared.kind.Kind.{Kind}
use Rattle.model_kinds.specs.declared.operation.Op.{Op}
use Rattle.model_kinds.specs.declared.shown.Shown as values
use Rattle.model_traces.specs.Traces.{TraceLine}
use Rattle.model_traces.specs.Runs.{show_line}
use Rattle.data_lattice.specs.declared.replica.Replica.{Ghosts}
use Rattle.data_envelope.specs.Images.{StandsFor}
use Rattle.data_envelope.specs.Words.{parts_of}
use Rattle.data_envelope.specs.declared.envelope.Envelope.{Envelope}
use Rattle.trace_told.specs.Seen.{held_line}
use Rattle.trace_recorder.specs.declared.recorder.Recorder.{Recorder}
use Rattle.trace_recorder.specs.Saw.{Saw}
use Rattle.trace_entries.specs.declared.entries.Look.{Look}
use Rattle.trace_entries.specs.declared.entries.Look.TheVariants.{Held, Shown}

-- it saw these lines too
abbrev pub Sees : (old new : Recorder) → List (TraceLine Op) → Type 0
Sees old new lines = (keys : List (KeyDecl Kind)) (seen : List (TraceLine Op)) → Saw keys old seen → Saw keys new (seen ++ lines)

-- how many records a member holds of a key, or what it shows
abbrev pub looked_at : Replication Kind Op values.Shown → Look → ℕ → KeyState Kind Op → List (TraceLine Op)
looked_at D Held i k = held_line i k
looked_at D Shown i k = show_line D shown_text i k

-- it holds of every state of a key of this name that the entry stands for, and of what the model's members follow, where values mean what the data type says
abbrev pub OfWhatStands : {T Delta : Type 0} → Ghosts T Kind Op Delta → Text → Envelope T Kind Op Delta → (Replication Kind Op values.Shown → KeyState Kind Op → Type 0) → Type 0
OfWhatStands ghosts key entry Holds =
    (D : Replication Kind Op values.Shown) (log : History Op) (k : KeyState Kind Op) → D.data_type ≡ ghosts.data_type → k.name ≡ key → k.kind ≡ ghosts.kind_of entry.value
    → StandsFor ghosts.IsDataOf (parts_of entry) log k.entry → Holds D k
