-- What a flush finds at a key, as a value to be told.
use Rattle.std.specs.Prelude.{List, [], ◌∷◌, ◌++◌, Option, Some, None}
use Rattle.model_history.specs.Texts.{Text}
use Rattle.model_kinds.specs.declared.shown.Shown.{Shown}
use Rattle.member_desk.specs.declared.followed.Followed.{Followed}
use Rattle.member_desk.specs.declared.look.Told.{Told}
use Rattle.member_desk.specs.declared.look.Look.{Look}
use Rattle.member_desk.specs.declared.look.Look.TheVariants.{Nothing, Same, Other}
use Rattle.member_desk.specs.declared.notice.Notice.{Notice}
use Rattle.member_desk.specs.Notices.{notices_at, told_at_key}

abbrev pub shows_told : Text → Told → Shown
shows_told key told = told.shown

-- where the records are those of the last look, it is what was told
abbrev pub found_by : Option Told → Look → Option Told
found_by told Nothing = None
found_by told Same = told
found_by told (Other now) = Some now

-- the notices of followed keys at each of which something was found, and what is told after them
abbrev pub notices_by : List (Followed Told) → List Look → List Notice
notices_by [] looks = []
notices_by (followed ∷ desk) [] = []
notices_by (followed ∷ desk) (look ∷ looks) = notices_at shows_told followed (found_by followed.told look) ++ notices_by desk looks

abbrev pub told_by : List (Followed Told) → List Look → List (Followed Told)
told_by [] looks = []
told_by (followed ∷ desk) [] = followed ∷ desk
told_by (followed ∷ desk) (look ∷ looks) = told_at_key followed (found_by followed.told look) ∷ told_by desk looks
