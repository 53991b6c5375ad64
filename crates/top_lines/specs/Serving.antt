-- What becomes of the lines of a source.
--     AnswersAll        lines were answered one after the other, and these are their texts in a row
--     Serves        how the answering of a source's lines ended
use Rattle.std.specs.Prelude.{◌≡◌, ℕ, List, [], ◌∷◌, ◌++◌, flat_map, Option, Result, Ok, Err, ◌⊎◌, ⊤}
use Rattle.std.specs.Io.KnownBytes.{Consumes, Appends, IsAtEnd}
use Rattle.model_members.specs.Report.{line_of}
use Rattle.model_kinds.specs.declared.kind.Kind.{Kind}
use Rattle.model_kinds.specs.declared.operation.Op.{Op}
use Rattle.base_outside.specs.Transfers.{AppendsPrefix}
use Rattle.data_lattice.specs.declared.replica.Replica.{Ghosts}
use Rattle.data_lattice.specs.declared.spelled.SpelledData.{Ghosts as Spelling}
use Rattle.data_delta_codec.specs.declared.spelled_delta.SpelledDelta.{Ghosts as DeltaSpelling}
use Rattle.member_keeper.specs.declared.keeper.Keeper.{Ghosts as Keeping}
use Rattle.member_node.specs.declared.node.Node.{Node}
use Rattle.top_lines.specs.declared.stopped.Stopped.{Stopped}
use Rattle.top_lines.specs.declared.stopped.Stopped.TheVariants.{ReadFailed, TooLong, WriteFailed, Memory}
use Rattle.top_lines.specs.Answering.{Answers, LeavesUntold}
use Rattle.top_lines.specs.Rows.{IsOneLine, ReadsLine, ReadsPart}

module _ {T Delta K : Type 0} {ghosts : Ghosts T Kind Op Delta} {keeping : Keeping K} (spelling : Spelling T Kind Op Delta) (deltas : DeltaSpelling T Kind Op Delta) where
  -- lines, and their texts in a row
  pub data AnswersAll (old : Node T K Kind Op Delta ghosts keeping) : List (List ℕ) → Node T K Kind Op Delta ghosts keeping → List ℕ → Type 0 where
    none : AnswersAll old [] old []
    more : (lines : List (List ℕ)) (mid : Node T K Kind Op Delta ghosts keeping) (before : List ℕ) (line : List ℕ) (new : Node T K Kind Op Delta ghosts keeping) (text : List ℕ)
        → AnswersAll old lines mid before → IsOneLine line → Answers spelling deltas mid line new text → AnswersAll old (lines ++ line ∷ []) new (before ++ text)

  -- these lines were read and answered, and their texts written
  pub record HasServed (old new : Node T K Kind Op Delta ghosts keeping) (left left' written written' : Option (List ℕ)) : Type 0 where
    pub lines : List (List ℕ)
    pub text : List ℕ
    pub answered : AnswersAll old lines new text
    pub read : Consumes left left' (flat_map line_of lines)
    pub told : Appends written written' text

  -- and of the next one less was read than its end, or nothing was told
  pub record HasStopped (IsLast : Option (List ℕ) → Node T K Kind Op Delta ghosts keeping → Option (List ℕ) → Type 0) (old : Node T K Kind Op Delta ghosts keeping) (left written : Option (List ℕ)) : Type 0 where
    pub mid : Node T K Kind Op Delta ghosts keeping
    pub rest : Option (List ℕ)
    pub done : Option (List ℕ)
    pub served : HasServed old mid left rest written done
    pub last : IsLast rest mid done

  module _ (new : Node T K Kind Op Delta ghosts keeping) (left' written' : Option (List ℕ)) where
    -- a part of a line was read
    pub record IsPart (rest : Option (List ℕ)) (mid : Node T K Kind Op Delta ghosts keeping) (done : Option (List ℕ)) : Type 0 where
      pub read : ReadsPart rest left'
      pub same : new ≡ mid
      pub unwritten : written' ≡ done

    -- a line was read, of which nothing is told
    pub record IsUntoldLine (rest : Option (List ℕ)) (mid : Node T K Kind Op Delta ghosts keeping) (done : Option (List ℕ)) : Type 0 where
      pub line : List ℕ
      pub read : ReadsLine rest left' line
      pub left_untold : LeavesUntold spelling deltas mid line new
      pub unwritten : written' ≡ done

    -- a line was answered, and a part of its text was written
    pub record IsToldInPart (rest : Option (List ℕ)) (mid : Node T K Kind Op Delta ghosts keeping) (done : Option (List ℕ)) : Type 0 where
      pub line : List ℕ
      pub text : List ℕ
      pub read : ReadsLine rest left' line
      pub answers : Answers spelling deltas mid line new text
      pub told : AppendsPrefix done written' text

  -- All lines were answered, in their order; or all before one, at which the answering stopped
  abbrev pub Serves : (old new : Node T K Kind Op Delta ghosts keeping) → (left left' written written' : Option (List ℕ)) → Result ⊤ Stopped → Type 0
  Serves old new left left' written written' (Ok done) = HasStopped (IsPart new left' written') old left written × IsAtEnd left'
  Serves old new left left' written written' (Err ReadFailed) = HasStopped (IsPart new left' written') old left written
  Serves old new left left' written written' (Err TooLong) = HasStopped (IsPart new left' written') old left written
  Serves old new left left' written written' (Err WriteFailed) = HasStopped (IsToldInPart new left' written') old left written
  Serves old new left left' written written' (Err Memory) = HasStopped (IsPart new left' written') old left written ⊎ HasStopped (IsUntoldLine new left' written') old left written
