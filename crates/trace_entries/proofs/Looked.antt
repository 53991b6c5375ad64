-- What a recorder sees of a key, by what its entry stands for.
use Rattle.std.proofs.Common.{◌≡◌, ℕ, Bool, true, false, if◌then◌else◌, List, [], ◌∷◌, sym, ap, subst, ◌∙◌}
use Rattle.model_history.specs.History.{versions, at}
use Rattle.model_members.specs.DataType.{DataType, Meaning, Replication, meaning}
use Rattle.model_members.specs.Entry.{has_records}
use Rattle.model_members.specs.Node.{KeyState}
use Rattle.model_kinds.specs.ShownText.{shown_text}
use Rattle.model_kinds.specs.declared.kind.Kind.{Kind}
use Rattle.model_kinds.specs.declared.operation.Op.{Op}
use Rattle.model_kinds.specs.declared.shown.Shown as values
use Rattle.model_traces.specs.Traces.{meaning_text}
use Rattle.model_traces.specs.Traces.Act.{Holds, Shows}
use Rattle.model_traces.specs.Runs.{line_of, show_line}
use Rattle.base_vectors.specs.Vectors.{Numbers, number_at}
use Rattle.trace_told.specs.Seen.{held_line}
use Rattle.trace_recorder.specs.declared.recorder.Recorder.{Recorder}
use Rattle.trace_entries.specs.Seeing.{Sees}
use Rattle.trace_entries.proofs.SeenLines.{sees_nothing}

module _ (i : ℕ) (k : KeyState Kind Op) (key : List ℕ) (named : k.name ≡ key) (a b : Recorder) where
  -- the records that it has
  pub sees_held : (known : Numbers) → ((j : ℕ) → number_at known j ≡ at k.entry.history j) → Sees a b (line_of i key (Holds (number_at known)) ∷ []) → Sees a b (held_line i k)
  sees_held known image =
      let same : number_at known ≡ versions k.entry.history = λ e j. image j e in
      subst (Sees a b) (ap (λ vector. line_of i key (Holds vector) ∷ []) same ∙ ap (λ name. line_of i name (Holds (versions k.entry.history)) ∷ []) (sym named))

  module _ (D : Replication Kind Op values.Shown) where
    -- the text of what it means, if it has a record
    pub sees_shown : (text : List ℕ) → has_records k.entry ≡ true → meaning_text shown_text (meaning D.data_type k.kind k.entry.history) ≡ text → Sees a b (line_of i key (Shows text) ∷ []) → Sees a b (show_line D shown_text i k)
    sees_shown text has means =
        subst (Sees a b) (sym (ap (λ (yes : Bool). if yes then line_of i k.name (Shows (meaning_text shown_text (meaning D.data_type k.kind k.entry.history))) ∷ [] else []) has
        ∙ ap (λ told. line_of i k.name (Shows told) ∷ []) means ∙ ap (λ name. line_of i name (Shows text) ∷ []) named))

-- nothing of an entry without records
pub sees_none : (D : Replication Kind Op values.Shown) (i : ℕ) (k : KeyState Kind Op) (a : Recorder) → has_records k.entry ≡ false → Sees a a (show_line D shown_text i k)
sees_none D i k a none =
    subst (Sees a a) (sym (ap (λ (yes : Bool). if yes then line_of i k.name (Shows (meaning_text shown_text (meaning D.data_type k.kind k.entry.history))) ∷ [] else []) none)) (sees_nothing a)

-- WHAT IT MEANS

module _ (D T : DataType Kind Op values.Shown) (same : D ≡ T) (k : KeyState Kind Op) where
  pub means_deleted : T.deleted k.entry.history ≡ true → meaning D k.kind k.entry.history ≡ Meaning.IsDeleted
  means_deleted gone = ap (λ (E : DataType Kind Op values.Shown). meaning E k.kind k.entry.history) same ∙ ap (λ (yes : Bool). if yes then Meaning.IsDeleted else Meaning.Shows (T.shown k.kind k.entry.history)) gone

  pub means_shown : (kind : Kind) (value : values.Shown) → k.kind ≡ kind → T.deleted k.entry.history ≡ false → value ≡ T.shown kind k.entry.history → meaning D k.kind k.entry.history ≡ Meaning.Shows value
  means_shown kind value of kept is =
      ap (λ (E : DataType Kind Op values.Shown). meaning E k.kind k.entry.history) same ∙ ap (λ (yes : Bool). if yes then Meaning.IsDeleted else Meaning.Shows (T.shown k.kind k.entry.history)) kept
      ∙ ap (λ (kd : Kind). Meaning.Shows (T.shown kd k.entry.history)) of ∙ ap Meaning.Shows (sym is)
