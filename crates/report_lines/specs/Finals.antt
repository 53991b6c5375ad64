-- What a report tells at the end: of a key, and of all members.
use Rattle.std.specs.Prelude.{◌≡◌, ℕ, List, [], ◌∷◌, ◌++◌, codes, decimal}
use Rattle.model_history.specs.Texts.{Text}
use Rattle.model_history.specs.History.{History}
use Rattle.model_members.specs.Entry.{Entry}
use Rattle.model_members.specs.DataType.{DataType}
use Rattle.model_members.specs.World as model
use Rattle.model_members.specs.Report.{words, line_of, final_block}
use Rattle.model_kinds.specs.ShownText.{shown_text}
use Rattle.model_kinds.specs.declared.shown.Shown.{Shown}
use Rattle.data_lattice.specs.declared.replica.Replica.{Ghosts}
use Rattle.data_lattice.specs.declared.spelled.SpelledData.{Ghosts as Spelling}
use Rattle.member_keeper.specs.declared.keeper.Keeper.{Ghosts as Keeping}
use Rattle.member_node.specs.Members.{delta_groups}
use Rattle.world_members.specs.declared.world.World.{World}
use Rattle.world_members.specs.Standing.{StandsForWorld}
use Rattle.report_texts.specs.Entries.{value_text, known_text, marks_text}

-- the line of a key with its entry
abbrev pub key_line : {Kind Op : Type 0} → DataType Kind Op Shown → Text → Kind → Entry Op → Text
key_line data_type name kind entry = line_of (name ++ codes " " ++ value_text (data_type.shown kind) entry ++ codes " known " ++ known_text entry ++ codes " marks " ++ marks_text entry)

-- the line of a member
abbrev pub member_line : ℕ → ℕ → ℕ → Text
member_line id place view = line_of (words (codes "member" ∷ decimal id ∷ codes "place" ∷ decimal place ∷ codes "view" ∷ decimal view ∷ []))

-- the line of the last view
abbrev pub view_line : ℕ → Text
view_line view = line_of (codes "final view " ++ decimal view)

-- the final block of the world that this one stands for
abbrev pub IsBlockOf : {T K Kind Op Delta : Type 0} {ghosts : Ghosts T Kind Op Delta} {keeping : Keeping K} → Spelling T Kind Op Delta → World T K Kind Op Delta ghosts keeping → List ℕ → Type 0
IsBlockOf {Kind} {Op} {ghosts} spelling world text =
    (digest : Kind → Entry Op → List ℕ) (kinds : Text → Kind) (logs : Text → History Op) (end : model.World Kind Op Shown) → StandsForWorld spelling kinds logs world end
    → text ≡ final_block (delta_groups ghosts.data_type digest) shown_text end
