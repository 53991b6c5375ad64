-- What a member of the model has to do with some of its keys alone.
--     is_whole        all that a message says of keys is of these
--     AsksOnly        each open operation is of one of these keys
use Rattle.std.specs.Prelude.{List, Bool, true, ◌&&◌, IsTrue}
use Rattle.std.specs.List.{list_all}
use Rattle.model_history.specs.Texts.{Text}
use Rattle.model_members.specs.Entry.{Entry, Group}
use Rattle.model_members.specs.Message.{Keyed, Message}
use Rattle.model_members.specs.Message.Message.{Deltas, Status, Gossip, Write, ReadAnswer}
use Rattle.model_members.specs.Node.{KeyDecl, Node, OpenOperation}
use Rattle.theorem_declaring.specs.Parts.{knows}

-- what a message says of these keys is the whole message
abbrev pub is_whole : {Op : Type 0} → (Text → Bool) → Message Op → Bool
is_whole {Op} known (Deltas groups entries) = list_all (λ (g : Keyed (Group Op)). known g.key) groups && list_all (λ (e : Keyed (Entry Op)). known e.key) entries
is_whole known (Status digests) = list_all (λ (d : Keyed (List _)). known d.key) digests
is_whole {Op} known (Gossip entries wants) = list_all (λ (e : Keyed (Entry Op)). known e.key) entries
is_whole known (Write op key entry) = known key
is_whole known (ReadAnswer op key entry) = known key
is_whole known message = true

-- each open operation is of one of these keys
abbrev pub AsksOnly : {Kind Op Shown : Type 0} → List (KeyDecl Kind) → Node Kind Op Shown → Type 0
AsksOnly keys node = IsTrue (list_all (λ (o : OpenOperation). knows keys o.key) node.open_operations)
