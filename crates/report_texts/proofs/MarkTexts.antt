-- The marks of an envelope are told as those of the entry that it stands for.
use Rattle.std.proofs.Common.{◌≡◌, ℕ, List, [], ◌∷◌, false, Option, Some, None, refl, sym, ap, ◌∙◌}
use Rattle.std.specs.Prelude.{filter_map, option_map}
use Rattle.model_history.specs.Table.{identities}
use Rattle.model_history.specs.Vector.{VersionVector, IdentitySet}
use Rattle.model_history.specs.History.{History, Stamped, prune_of}
use Rattle.model_members.specs.Entry.{Entry}
use Rattle.std.specs.List.{cons_option}
use Rattle.model_members.specs.Report.{mark_text, initialized_text, marks_text, words_or_dash}
use Rattle.data_markers.specs.declared.marker.Marker.{Marker}
use Rattle.data_markers.specs.declared.marker.Marker.TheVariants.{Initialized, Performed}
use Rattle.data_markers.specs.Marks.{mark_of, begun, is_performed}
use Rattle.data_envelope.specs.Images.{Parts, StandsFor}
use Rattle.data_envelope.proofs.MarkPrunes.{mark_of_prune, none_performed}
use Rattle.report_texts.specs.Marks.{marker_text, marker_word}

-- THE WORDS

begun_text : (r : ℕ) (o : Option Marker) → is_performed o ≡ false → initialized_text r (begun o) ≡ option_map (marker_text r) o
begun_text r None h = refl
begun_text r (Some (Initialized view owner seen)) h = refl
begun_text r (Some (Performed owner at upto)) h = absurd (cc h)

module _ {State Op : Type 0} (D : State → History Op → VersionVector → IdentitySet → Type 0) (parts : Parts State) (log : History Op) (entry : Entry Op) (stands : StandsFor D parts log entry) where
  word_of : (r : ℕ) (o : Option (Stamped Op)) → prune_of entry.history r ≡ o → mark_text o r (entry.marks r) ≡ marker_word parts.marks r
  word_of r (Some x) e = sym (ap (option_map (marker_text r)) (mark_of_prune D parts log entry stands r x e))
  word_of r None e = ap (initialized_text r) (stands.marks r) ∙ begun_text r (mark_of parts.marks r) (none_performed D parts log entry stands r e)

  words_of : (is : List ℕ) → filter_map (λ r. mark_text (prune_of entry.history r) r (entry.marks r)) is ≡ filter_map (marker_word parts.marks) is
  words_of [] = refl
  words_of (r ∷ is) =
      ap (λ o. cons_option o (filter_map (λ r. mark_text (prune_of entry.history r) r (entry.marks r)) is)) (word_of r (prune_of entry.history r) refl)
      ∙ ap (cons_option (marker_word parts.marks r)) (words_of is)

  pub marks_told : marks_text entry ≡ words_or_dash (filter_map (marker_word parts.marks) identities)
  marks_told = ap words_or_dash (words_of identities)
