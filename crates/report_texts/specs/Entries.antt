-- What a report tells of an entry: its value, its records by identity, and its marks.
use Rattle.std.specs.Prelude.{◌≡◌, ◌++◌, Bool, codes, if◌then◌else◌, Result, OnOk}
use Rattle.model_history.specs.Vector.{VersionVector, IdentitySet}
use Rattle.model_history.specs.Texts.{Text}
use Rattle.model_history.specs.History.{History, versions}
use Rattle.model_members.specs.Entry as model
use Rattle.model_members.specs.Entry.{Entry}
use Rattle.model_members.specs.Report as report
use Rattle.model_members.specs.Report.{vector_text}
use Rattle.model_kinds.specs.declared.shown.Shown.{Shown}
use Rattle.model_kinds.specs.ShownText.{shown_text}
use Rattle.data_envelope.specs.Images.{Parts, StandsFor}

module _ {Op : Type 0} where
  unfoldable pub has_records : Entry Op → Bool
  has_records entry = model.has_records entry

  -- the value that a history shows, or a dash where there is no record
  abbrev pub value_text : (History Op → Shown) → Entry Op → Text
  value_text shown entry = if has_records entry then shown_text (shown entry.history) else codes "-"

  -- behind the old text stands the value of the entry
  abbrev pub AddsValue : {State Kind V E : Type 0} → (State → History Op → VersionVector → IdentitySet → Type 0) → Parts State → (Kind → History Op → Shown) → Kind → (old new : Text) → Result V E → Type 0
  AddsValue IsDataOf parts shown kind old new result = (log : History Op) (entry : Entry Op) → StandsFor IsDataOf parts log entry → OnOk result (new ≡ old ++ value_text (shown kind) entry)

  unfoldable pub known_text : Entry Op → Text
  known_text entry = vector_text (versions entry.history)

  unfoldable pub marks_text : Entry Op → Text
  marks_text entry = report.marks_text entry
