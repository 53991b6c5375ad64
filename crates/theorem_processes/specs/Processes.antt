-- The processes of a cluster, each with a member, and what happens to them in the order of time. Whatever the transport and the clocks do, there is some such order.
--     IsSpelledBy        bytes of a message
--     Processes        what there is at one time
--     Happening, happened        what happens, and what there is then
--     IsMade, Begin        a new member, and the members that are there at the start
--     MayHappen, AllHappen        what is so of what happens
use Rattle.std.specs.Prelude.{◌≡◌, ◌⊎◌, ℕ, ◌<◌, ◌≤◌, max, List, [], ◌∷◌, ◌++◌, length, ⊤, IsTrue, IsFalse, Option, Some, None, slice_get, ◌==◌, if◌then◌else◌}
use Rattle.model_history.specs.Table.{identity_limit, with_at}
use Rattle.model_members.specs.View.{View, is_member, is_taken, first_view, without_member, with_joined, with_replaced}
use Rattle.model_kinds.specs.declared.operation.Op.{Op}
use Rattle.data_lattice.specs.declared.replica.Replica.{Ghosts}
use Rattle.data_lattice.specs.declared.spelled.SpelledData.{Ghosts as Spelling}
use Rattle.data_delta_codec.specs.declared.spelled_delta.SpelledDelta.{Ghosts as DeltaSpelling}
use Rattle.member_keeper.specs.declared.keeper.Keeper.{Ghosts as Keeping}
use Rattle.member_keeper.specs.Tables.{Table}
use Rattle.member_views.specs.Sound.{last_view}
use Rattle.member_messages.specs.declared.message.Message.{Message}
use Rattle.member_codec.specs.Messages.{message_parts, message_bytes, IsSpellable}
use Rattle.member_node.specs.declared.node.Node.{Node}
use Rattle.member_node.specs.declared.key.KeyDecl.{KeyDecl}
use Rattle.member_node.specs.declared.input.Input.{Input}
use Rattle.member_node.specs.declared.input.Input.TheVariants as input
use Rattle.member_node.specs.declared.reply.Fate.{Fate}
use Rattle.member_node.specs.declared.reply.Output.{Output}
use Rattle.member_node.specs.FromKeeper.{IsFromKeeper, StandsForKept}
use Rattle.member_node.specs.Limits.{IsLimited}
use Rattle.member_node.specs.Loading.{AreSound}
use Rattle.member_node.specs.Members.{IsNewMember}
use Rattle.member_node.specs.Steps.{IsStepOf, IsUnchanged}
use Rattle.world_members.specs.Entering.{IsGivenFrom}
use Rattle.world_places.specs.Sending.{messages_to}
use Rattle.theorem_processes.specs.Declaring.{ArePart, HasDeclared}
use Rattle.theorem_processes.specs.Forgetting.{HasForgotten}

-- bytes that a message is spelled by, as `spell_message` and `read_message` say it
abbrev pub IsSpelledBy : {T Kind Delta : Type 0} {ghosts : Ghosts T Kind Op Delta} → Spelling T Kind Op Delta → DeltaSpelling T Kind Op Delta → Message T Kind Op Delta ghosts → List ℕ → Type 0
IsSpelledBy {ghosts = ghosts} spelling deltas message bytes = IsSpellable ghosts spelling deltas (message_parts message) × (bytes ≡ message_bytes ghosts spelling deltas (message_parts message))

-- WHAT THERE IS, AND WHAT HAPPENS

module _ {T K Kind Delta : Type 0} (ghosts : Ghosts T Kind Op Delta) (keeping : Keeping K) where
  -- the views so far, from view 0 on; the members that run, by identity; below which number each may have forgotten how operations
  -- ended; and what one posted to another, in order
  pub record Processes : Type 0 where
    pub views : List View
    pub members : ℕ → Option (Node T K Kind Op Delta ghosts keeping)
    pub forgotten : ℕ → ℕ
    pub posted : ℕ → ℕ → List (Message T Kind Op Delta ghosts)

  -- what happens, with what the member is then
  pub data Happening : Type 0 where
    -- a member makes a step for an input of its own process
    Steps : (at : ℕ) (given : Input T Kind Op Delta ghosts) (fate : Fate) (output : Output T Kind Op Delta ghosts) (after : Node T K Kind Op Delta ghosts keeping) → Happening
    -- bytes come as from a member, of its post of this number; they are read, and the message is taken
    Takes : (from to index : ℕ) (bytes : List ℕ) (read : Message T Kind Op Delta ghosts) (fate : Fate) (output : Output T Kind Op Delta ghosts) (after : Node T K Kind Op Delta ghosts keeping) → Happening
    -- a step is refused
    Refuses : (at : ℕ) (after : Node T K Kind Op Delta ghosts keeping) → Happening
    -- a member forgets how its operations below a number ended; or it is given another limit of steps
    Forgets : (at before : ℕ) (after : Node T K Kind Op Delta ghosts keeping) → Happening
    Limits : (at limit : ℕ) (after : Node T K Kind Op Delta ghosts keeping) → Happening
    -- a member is told of one more key
    Declares : (at : ℕ) (decl : KeyDecl T Kind Op Delta) (after : Node T K Kind Op Delta ghosts keeping) → Happening
    -- whoever decides on membership removes a member; has a new one join at a place; or replaces one by a new one over what its keeper holds
    Leaves : (identity : ℕ) → Happening
    Joins : (place : ℕ) (new : Node T K Kind Op Delta ghosts keeping) → Happening
    Returns : (identity : ℕ) (keeper : K) (new : Node T K Kind Op Delta ghosts keeping) → Happening

module _ {T K Kind Delta : Type 0} {ghosts : Ghosts T Kind Op Delta} {keeping : Keeping K} where
  -- after a step: what the member is, and its posts behind the earlier ones
  abbrev pub after_step : Processes ghosts keeping → ℕ → Output T Kind Op Delta ghosts → Node T K Kind Op Delta ghosts keeping → Processes ghosts keeping
  after_step ps at output after =
      record ps {
        members = with_at ps.members at (Some after);
        posted = λ from to. if from == at then ps.posted from to ++ messages_to output.posts to else ps.posted from to;
      }

  -- with one more view
  abbrev pub with_view : Processes ghosts keeping → View → Processes ghosts keeping
  with_view ps view = record ps { views = ps.views ++ view ∷ [] }

  abbrev pub with_member : Processes ghosts keeping → ℕ → Option (Node T K Kind Op Delta ghosts keeping) → Processes ghosts keeping
  with_member ps i member = record ps { members = with_at ps.members i member }

  -- with a member that may have forgotten more
  abbrev pub with_forgetful : Processes ghosts keeping → ℕ → Node T K Kind Op Delta ghosts keeping → Processes ghosts keeping
  with_forgetful ps i member = record (with_member ps i (Some member)) { forgotten = with_at ps.forgotten i (max (ps.forgotten i) member.operations.forgotten) }

  -- the last view, and the identity that is given next
  abbrev pub now_of : Processes ghosts keeping → View
  now_of ps = last_view ps.views

  abbrev pub next_identity : Processes ghosts keeping → ℕ
  next_identity ps = (now_of ps).given

  -- what there is after it. A member that is removed or replaced makes no more steps
  abbrev pub happened : Processes ghosts keeping → Happening ghosts keeping → Processes ghosts keeping
  happened ps (Steps at given fate output after) = after_step ps at output after
  happened ps (Takes from to index bytes read fate output after) = after_step ps to output after
  happened ps (Refuses at after) = with_member ps at (Some after)
  happened ps (Forgets at before after) = with_forgetful ps at after
  happened ps (Limits at limit after) = with_member ps at (Some after)
  happened ps (Declares at decl after) = with_member ps at (Some after)
  happened ps (Leaves i) = with_view (with_member ps i None) (without_member (now_of ps) i)
  happened ps (Joins place new) = with_view (with_member ps (next_identity ps) (Some new)) (with_joined (now_of ps) place)
  happened ps (Returns i keeper new) = with_view (with_member (with_member ps i None) (next_identity ps) (Some new)) (with_replaced (now_of ps) i)

  abbrev pub after_all : Processes ghosts keeping → List (Happening ghosts keeping) → Processes ghosts keeping
  after_all ps [] = ps
  after_all ps (h ∷ hs) = after_all (happened ps h) hs

  -- WHAT IS SO OF IT

  -- a new member of this identity and view, with some of the keys, as `Node::new` makes it, with whatever limit of steps, over a keeper that tells no entry
  pub record IsMade (decls : List (KeyDecl T Kind Op Delta)) (id : ℕ) (view : View) (new : Node T K Kind Op Delta ghosts keeping) : Type 0 where
    pub own : List (KeyDecl T Kind Op Delta)
    pub part : ArePart own decls
    pub is_new : IsNewMember own id view new
    pub empty : (table : Table) → keeping.table new.keeper ≡ Some table → table ≡ []

  -- at the start: members 0 and up, which have forgotten nothing, and no post
  pub record Begin (decls : List (KeyDecl T Kind Op Delta)) (count : ℕ) (ps : Processes ghosts keeping) : Type 0 where
    pub some : 1 ≤ count
    pub few : count ≤ identity_limit
    pub view : ps.views ≡ first_view count ∷ []
    pub made : (i : ℕ) → i < count → (new : Node T K Kind Op Delta ghosts keeping) × (ps.members i ≡ Some new) × IsMade decls i (first_view count) new
    pub no_more : (i : ℕ) → count ≤ i → ps.members i ≡ None
    pub remembers : (i : ℕ) → ps.forgotten i ≡ 0
    pub silent : (from to : ℕ) → ps.posted from to ≡ []

  -- a member as it was made, or with another limit of steps
  abbrev pub IsMaybeLimited : (made new : Node T K Kind Op Delta ghosts keeping) → Type 0
  IsMaybeLimited made new = (new ≡ made) ⊎ ((limit : ℕ) × IsLimited made limit new)

  module _ (spelling : Spelling T Kind Op Delta) where
    -- a running member makes a step of its contract
    pub record Makes (ps : Processes ghosts keeping) (at : ℕ) (given : Input T Kind Op Delta ghosts) (fate : Fate) (output : Output T Kind Op Delta ghosts) (after : Node T K Kind Op Delta ghosts keeping) : Type 0 where
      pub before : Node T K Kind Op Delta ghosts keeping
      pub runs : ps.members at ≡ Some before
      pub makes : IsStepOf spelling before given fate output after

    -- the member that comes back under a new identity with some of the keys, as `Node::from_keeper` makes it of a keeper which tells the table that the old one's told, with whatever limit of steps
    pub record IsBack (decls : List (KeyDecl T Kind Op Delta)) (ps : Processes ghosts keeping) (i : ℕ) (keeper : K) (new : Node T K Kind Op Delta ghosts keeping) : Type 0 where
      pub before : Node T K Kind Op Delta ghosts keeping
      pub was : ps.members i ≡ Some before
      pub table : Table
      pub kept : keeping.table before.keeper ≡ Some table
      pub told : keeping.table keeper ≡ Some table
      pub own : List (KeyDecl T Kind Op Delta)
      pub part : ArePart own decls
      pub made : Node T K Kind Op Delta ghosts keeping
      pub loaded : IsFromKeeper own keeper (next_identity ps) (with_replaced (now_of ps) i) made
      pub stands : StandsForKept spelling own keeper (next_identity ps) (with_replaced (now_of ps) i) made
      pub sound : AreSound ghosts spelling made.keys.items (next_identity ps) (with_replaced (now_of ps) i).given table
      pub limited : IsMaybeLimited made new

    module _ (deltas : DeltaSpelling T Kind Op Delta) where
      -- WHAT A TRANSPORT MUST GUARANTEE: the bytes spell the post of this number from the one to the other. They are read as this message
      pub record IsHandedOver (ps : Processes ghosts keeping) (from to index : ℕ) (bytes : List ℕ) (read : Message T Kind Op Delta ghosts) : Type 0 where
        pub post : Message T Kind Op Delta ghosts
        pub posted : slice_get (ps.posted from to) index ≡ Some post
        pub spelled : IsSpelledBy spelling deltas post bytes
        pub read_so : IsSpelledBy spelling deltas read bytes

      -- an input of the process itself takes no message, and installs a view of the list
      abbrev pub MayHappen : List (KeyDecl T Kind Op Delta) → Processes ghosts keeping → Happening ghosts keeping → Type 0
      MayHappen decls ps (Steps at given fate output after) = IsGivenFrom ps.views given × Makes ps at given fate output after
      MayHappen decls ps (Takes from to index bytes read fate output after) = IsHandedOver ps from to index bytes read × Makes ps to (input.Take from read) fate output after
      MayHappen decls ps (Refuses at after) = (before : Node T K Kind Op Delta ghosts keeping) × (ps.members at ≡ Some before) × IsUnchanged before after
      MayHappen decls ps (Forgets at before after) = (old : Node T K Kind Op Delta ghosts keeping) × (ps.members at ≡ Some old) × HasForgotten before old after
      MayHappen decls ps (Limits at limit after) = (before : Node T K Kind Op Delta ghosts keeping) × (ps.members at ≡ Some before) × IsLimited before limit after
      MayHappen decls ps (Declares at decl after) = (before : Node T K Kind Op Delta ghosts keeping) × (ps.members at ≡ Some before) × HasDeclared decls decl before after
      MayHappen decls ps (Leaves i) = IsTrue (is_member (now_of ps) i) × (1 < length (now_of ps).members)
      MayHappen decls ps (Joins place new) = (place < 8) × IsFalse (is_taken (now_of ps) place) × (next_identity ps < identity_limit) × IsMade decls (next_identity ps) (with_joined (now_of ps) place) new
      MayHappen decls ps (Returns i keeper new) = IsTrue (is_member (now_of ps) i) × (next_identity ps < identity_limit) × IsBack decls ps i keeper new

      abbrev pub AllHappen : List (KeyDecl T Kind Op Delta) → Processes ghosts keeping → List (Happening ghosts keeping) → Type 0
      AllHappen decls ps [] = ⊤
      AllHappen decls ps (h ∷ hs) = MayHappen decls ps h × AllHappen decls (happened ps h) hs
