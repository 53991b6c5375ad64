-- An envelope is spelled as the entry that it stands for.
use Rattle.std.proofs.Common.{◌≡◌, ℕ, List, ◌∷◌, ◌++◌, Bool, true, false, Option, Some, None, refl, sym, ap, ◌∙◌}
use Rattle.std.specs.Prelude.{option_map, if◌then◌else◌}
use Rattle.model_history.specs.Vector.{VersionVector, IdentitySet}
use Rattle.model_history.specs.History.{History, Stamped, cut, versions, is_pruned, prune_of}
use Rattle.model_history.specs.Cuts.{IsPrunedCut, without}
use Rattle.model_history.proofs.Bridge.{cut_of_part}
use Rattle.model_members.specs.Entry.{Entry}
use Rattle.base_vectors.specs.Vectors.{number_at}
use Rattle.base_vectors.specs.Spelling.{numbers_spelled}
use Rattle.data_markers.specs.declared.marker.Marker.{Marker}
use Rattle.data_markers.specs.declared.marker.Marker.TheVariants.{Initialized, Performed}
use Rattle.data_markers.specs.Marks.{mark_of, begun, is_performed, performed_in}
use Rattle.data_markers.specs.Spelling.{mark_spelled, piece_of, pieces_spelled, marks_spelled}
use Rattle.sha1.specs.Sha1.{sha1}
use Rattle.data_envelope.specs.Images.{Parts, StandsFor}
use Rattle.data_envelope.proofs.Holding.{held_pruned}
use Rattle.data_envelope.proofs.Entries.{pruned_is}
use Rattle.data_envelope.proofs.MarkPrunes.{mark_of_prune, none_performed}
use Rattle.data_codec.specs.Envelopes.{spelled_in, envelope_spelled}
use Rattle.data_codec.specs.Entries.{mark_piece, entry_piece, entry_in, entry_spelled, entry_digest}
use Rattle.data_codec.specs.Stored.{sealed, envelope_stored, entry_stored}

begun_piece : (r : ℕ) (o : Option Marker) → is_performed o ≡ false → option_map (mark_spelled r) o ≡ mark_piece {Op = ℕ} None r (begun o)
begun_piece r None h = refl
begun_piece r (Some (Initialized view owner seen)) h = refl
begun_piece r (Some (Performed owner at upto)) h = absurd (cc h)

module _ {State Kind Op : Type 0} (D : State → History Op → VersionVector → IdentitySet → Type 0) (kind_of : State → Kind) (byte_of : State → ℕ) (spelled : State → List ℕ) (history_byte : Kind → History Op → ℕ) (history_spelled : Kind → History Op → List ℕ)
    (byte_means : (state : State) (log : History Op) (held : VersionVector) (gone : IdentitySet) → IsPrunedCut log held gone → D state log held gone → byte_of state ≡ history_byte (kind_of state) (cut log held))
    (means : (state : State) (log : History Op) (held : VersionVector) (gone : IdentitySet) → IsPrunedCut log held gone → D state log held gone → spelled state ≡ history_spelled (kind_of state) (cut log held))
    (parts : Parts State) (log : History Op) (entry : Entry Op) (stands : StandsFor D parts log entry) where
  piece_is : (r : ℕ) (o : Option (Stamped Op)) → prune_of entry.history r ≡ o → piece_of parts.marks r ≡ mark_piece o r (entry.marks r)
  piece_is r (Some x) e = ap (option_map (mark_spelled r)) (mark_of_prune D parts log entry stands r x e)
  piece_is r None e = go (mark_of parts.marks r) refl (none_performed D parts log entry stands r e)
    where
      go : (o : Option Marker) → mark_of parts.marks r ≡ o → is_performed (mark_of parts.marks r) ≡ false → piece_of parts.marks r ≡ mark_piece {Op = Op} None r (entry.marks r)
      go None is f = ap (option_map (mark_spelled r)) is ∙ sym (ap (mark_piece {Op = Op} None r) (stands.marks r ∙ ap begun is))
      go (Some (Initialized view owner seen)) is f = ap (option_map (mark_spelled r)) is ∙ sym (ap (mark_piece {Op = Op} None r) (stands.marks r ∙ ap begun is))
      go (Some (Performed owner at upto)) is f = absurd (let no : true ≡ false = sym (ap is_performed is) ∙ f in cc no)

  pieces_are : piece_of parts.marks ≡ entry_piece entry
  pieces_are = λ j r. piece_is r (prune_of entry.history r) refl j

  marks_are : marks_spelled parts.marks ≡ pieces_spelled (entry_piece entry)
  unfolding marks_spelled
  marks_are = ap pieces_spelled pieces_are

  pruned : (i : ℕ) → performed_in parts.marks i ≡ is_pruned entry.history i
  pruned = pruned_is D parts log entry.history stands.histories stands.taken stands.holds

  numbers_are : number_at parts.versions ≡ without (is_pruned entry.history) (versions entry.history)
  numbers_are = λ j i. (stands.holds.numbers i ∙ ap (λ (gone : Bool). if gone then 0 else versions entry.history i) (pruned i)) j

  data_are : spelled parts.value ≡ history_spelled (kind_of parts.value) entry.history
  data_are =
      means parts.value log (versions entry.history) (performed_in parts.marks) (held_pruned D parts log (versions entry.history) stands.holds) stands.holds.state
      ∙ ap (history_spelled (kind_of parts.value)) (cut_of_part log entry.history stands.taken.part)

  byte_is : byte_of parts.value ≡ history_byte (kind_of parts.value) entry.history
  byte_is =
      byte_means parts.value log (versions entry.history) (performed_in parts.marks) (held_pruned D parts log (versions entry.history) stands.holds) stands.holds.state
      ∙ ap (history_byte (kind_of parts.value)) (cut_of_part log entry.history stands.taken.part)

  -- in each format
  pub format_is : (format : ℕ) → spelled_in byte_of spelled format parts ≡ entry_in history_byte history_spelled format (kind_of parts.value) entry
  format_is format =
      ap (λ (b : ℕ). format ∷ b ∷ marks_spelled parts.marks ++ numbers_spelled (number_at parts.versions) ++ spelled parts.value) byte_is
      ∙ ap (λ (t : List ℕ). format ∷ history_byte (kind_of parts.value) entry.history ∷ t ++ numbers_spelled (number_at parts.versions) ++ spelled parts.value) marks_are
      ∙ ap (λ (f : ℕ → ℕ). format ∷ history_byte (kind_of parts.value) entry.history ∷ pieces_spelled (entry_piece entry) ++ numbers_spelled f ++ spelled parts.value) numbers_are
      ∙ ap (λ (t : List ℕ). format ∷ history_byte (kind_of parts.value) entry.history ∷ pieces_spelled (entry_piece entry) ++ numbers_spelled (without (is_pruned entry.history) (versions entry.history)) ++ t) data_are

  pub spelled_is : envelope_spelled byte_of spelled parts ≡ entry_spelled history_byte history_spelled (kind_of parts.value) entry
  unfolding entry_spelled
  spelled_is = format_is 1

  -- what is stored is what is stored of the entry
  pub stored_is : envelope_stored byte_of spelled parts ≡ entry_stored history_byte history_spelled (kind_of parts.value) entry
  unfolding entry_stored
  stored_is = ap sealed (format_is 2)

  -- a digest of the spelling is that of the entry
  pub digest_is : (digest : List ℕ) → digest ≡ sha1 (envelope_spelled byte_of spelled parts) → digest ≡ entry_digest history_byte history_spelled (kind_of parts.value) entry
  unfolding entry_digest
  digest_is digest is = is ∙ ap sha1 spelled_is
