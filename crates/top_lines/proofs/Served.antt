-- Lines one after the other.
use Rattle.std.proofs.Common.{◌≡◌, ℕ, List, [], ◌∷◌, ◌++◌, flat_map, append-nil, refl, sym, ap, subst, ◌∙◌, Option, None, Some, Err, inl, inr}
use Rattle.std.proofs.lemmas.List.{flat_map_more}
use Rattle.std.specs.Io.KnownBytes.{Consumes, Appends}
use Rattle.base_outside.specs.declared.transfer.ReadAllError.{ReadAllError}
use Rattle.base_outside.specs.declared.transfer.ReadAllError.TheVariants as error
use Rattle.base_outside.specs.Transfers.{AppendsPrefix}
use Rattle.base_outside.proofs.Moved.{consumes_more, appends_more}
use Rattle.model_members.specs.Report.{line_of}
use Rattle.model_kinds.specs.declared.kind.Kind.{Kind}
use Rattle.model_kinds.specs.declared.operation.Op.{Op}
use Rattle.data_lattice.specs.declared.replica.Replica.{Ghosts}
use Rattle.data_lattice.specs.declared.spelled.SpelledData.{Ghosts as Spelling}
use Rattle.data_delta_codec.specs.declared.spelled_delta.SpelledDelta.{Ghosts as DeltaSpelling}
use Rattle.member_keeper.specs.declared.keeper.Keeper.{Ghosts as Keeping}
use Rattle.member_node.specs.declared.node.Node.{Node}
use Rattle.top_lines.specs.Answering.{Answers, LeavesUntold}
use Rattle.top_lines.specs.Rows.{IsOneLine, ReadsLine, ReadsPart}
use Rattle.top_lines.specs.Serving.{AnswersAll, HasServed, HasStopped, IsPart, IsUntoldLine, IsToldInPart, Serves}
use Rattle.top_lines.specs.Stops.{stopped_by}
use Rattle.top_lines.proofs.Lasting.{nothing_read, no_bytes}
use Rattle.top_lines.specs.Serving.AnswersAll.{none, more}

-- no part of a line was read
pub part_of_none : (a : Option (List ℕ)) → ReadsPart a a
part_of_none a = ([], no_bytes, nothing_read a)

nothing_told : (a : Option (List ℕ)) → Appends a a []
nothing_told None = tt
nothing_told (Some bytes) = sym (append-nil bytes)

module _ {T Delta K : Type 0} {ghosts : Ghosts T Kind Op Delta} {keeping : Keeping K} (spelling : Spelling T Kind Op Delta) (deltas : DeltaSpelling T Kind Op Delta) where
  -- one line more was read and answered, and its text written
  pub serves_next : (old mid new : Node T K Kind Op Delta ghosts keeping) (left rest left' written done written' : Option (List ℕ)) (line text : List ℕ)
      → HasServed spelling deltas old mid left rest written done → ReadsLine rest left' line → Answers spelling deltas mid line new text → Appends done written' text
      → HasServed spelling deltas old new left left' written written'
  serves_next old mid new left rest left' written done written' line text served read answers told = record {
    lines = served.lines ++ line ∷ [];
    text = served.text ++ text;
    answered = more served.lines mid served.text line new text served.answered read.0 answers;
    read = subst (Consumes left left') (flat_map_more line_of [] served.lines line) (consumes_more left rest left' (flat_map line_of served.lines) (line_of line) served.read read.1);
    told = appends_more written done written' served.text text served.told told;
  }

  pub none_served : (old : Node T K Kind Op Delta ghosts keeping) (left written : Option (List ℕ)) → HasServed spelling deltas old old left left written written
  none_served old left written = record { lines = []; text = []; answered = none; read = nothing_read left; told = nothing_told written }

  -- a line is not read to its end
  pub stops_in_part : (old new : Node T K Kind Op Delta ghosts keeping) (left rest left' written done : Option (List ℕ)) → HasServed spelling deltas old new left rest written done → ReadsPart rest left'
      → HasStopped spelling deltas (IsPart spelling deltas new left' done) old left written
  stops_in_part old new left rest left' written done served part = record { mid = new; rest = rest; done = done; served = served; last = record { read = part; same = refl; unwritten = refl } }

  pub stops_by : (error : ReadAllError) (old new : Node T K Kind Op Delta ghosts keeping) (left left' written written' : Option (List ℕ)) → HasStopped spelling deltas (IsPart spelling deltas new left' written') old left written
      → Serves spelling deltas old new left left' written written' (Err (stopped_by error))
  stops_by error.ReadFailed old new left left' written written' stopped = stopped
  stops_by error.TooLong old new left left' written written' stopped = stopped
  stops_by error.Memory old new left left' written written' stopped = inl stopped

  -- nothing is told of a line
  pub stops_untold : (old mid new : Node T K Kind Op Delta ghosts keeping) (left rest left' written done : Option (List ℕ)) (line : List ℕ) → HasServed spelling deltas old mid left rest written done → ReadsLine rest left' line
      → LeavesUntold spelling deltas mid line new → HasStopped spelling deltas (IsUntoldLine spelling deltas new left' done) old left written
  stops_untold old mid new left rest left' written done line served read untold = record { mid = mid; rest = rest; done = done; served = served; last = record { line = line; read = read; left_untold = untold; unwritten = refl } }

  -- or a part of its text is written
  pub stops_told_in_part : (old mid new : Node T K Kind Op Delta ghosts keeping) (left rest left' written done written' : Option (List ℕ)) (line text : List ℕ) → HasServed spelling deltas old mid left rest written done
      → ReadsLine rest left' line → Answers spelling deltas mid line new text → AppendsPrefix done written' text → HasStopped spelling deltas (IsToldInPart spelling deltas new left' written') old left written
  stops_told_in_part old mid new left rest left' written done written' line text served read answers told = record {
    mid = mid;
    rest = rest;
    done = done;
    served = served;
    last = record { line = line; text = text; read = read; answers = answers; told = told };
  }
