-- The spelling and the digest of an entry, by its history and its marks.
use Rattle.std.specs.Prelude.{ℕ, List, ◌∷◌, ◌++◌, Option, None, Some}
use Rattle.model_history.specs.History.{History, Stamped, versions, is_pruned, prune_of}
use Rattle.model_history.specs.Cuts.{without}
use Rattle.model_members.specs.Entry.{Entry, Mark}
use Rattle.base_vectors.specs.Spelling.{numbers_spelled}
use Rattle.data_markers.specs.Spelling.{begun_tail, performed_tail, pieces_spelled}
use Rattle.sha1.specs.Sha1.{sha1}

module _ {Op : Type 0} where
  -- the mark of an identity: its prune, or else the mark that was begun
  abbrev pub mark_piece : Option (Stamped Op) → ℕ → Option Mark → Option (List ℕ)
  mark_piece None removed None = None
  mark_piece None removed (Some mark) = Some (removed ∷ begun_tail mark.view mark.owner mark.seen)
  mark_piece (Some prune) removed mark = Some (removed ∷ performed_tail prune.origin prune.number (prune.past removed))

  abbrev pub entry_piece : Entry Op → ℕ → Option (List ℕ)
  entry_piece entry removed = mark_piece (prune_of entry.history removed) removed (entry.marks removed)

module _ {Kind Op : Type 0} (history_byte : Kind → History Op → ℕ) (history_spelled : Kind → History Op → List ℕ) where
  -- the format, the byte of the kind or of a deleted key of the kind, the marks, the numbers of records, and the data, nothing of pruned identities in these
  abbrev pub entry_in : ℕ → Kind → Entry Op → List ℕ
  entry_in format kind entry =
      format ∷ history_byte kind entry.history ∷ pieces_spelled (entry_piece entry) ++ numbers_spelled (without (is_pruned entry.history) (versions entry.history)) ++ history_spelled kind entry.history

  -- format 1
  unfoldable pub entry_spelled : Kind → Entry Op → List ℕ
  entry_spelled kind entry = entry_in 1 kind entry

  -- SHA-1 of the spelling
  unfoldable pub entry_digest : Kind → Entry Op → List ℕ
  entry_digest kind entry = sha1 (entry_spelled kind entry)
