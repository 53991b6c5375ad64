-- What loading a member answers.
--     IsSoundAt        what may be loaded
--     IsLoaded, IsRefusedLoad        the new member, and the old one that comes back
--     StandsForLoaded        what comes of a table that has the spellings of a store
use Rattle.std.specs.Prelude.{◌≡◌, ◌≢◌, ℕ, ◌≤◌, List, true, false, Some, slice_get, take, map, All, Any}
use Rattle.model_history.specs.Texts.{Text}
use Rattle.model_history.specs.History.{History, IsHistory}
use Rattle.base_outside.specs.Causes.{Rose}
use Rattle.model_members.specs.View.{View}
use Rattle.model_members.specs.World.{Store, loaded_node}
use Rattle.base_vectors.specs.Vectors.{number_at}
use Rattle.base_vectors.specs.IdSets.{members_in}
use Rattle.data_markers.specs.Marks.{mark_of}
use Rattle.data_markers.specs.declared.marker.Marker.{Marker}
use Rattle.data_markers.specs.declared.marker.Marker.TheVariants.{Initialized, Performed}
use Rattle.data_lattice.specs.declared.replica.Replica.{Ghosts}
use Rattle.data_lattice.specs.declared.spelled.SpelledData.{Ghosts as Spelling}
use Rattle.data_envelope.specs.Images.{Parts}
use Rattle.data_codec.specs.Envelopes.{IsEnvelope}
use Rattle.data_codec.specs.Stored.{IsStored}
use Rattle.member_keeper.specs.declared.stored.Stored.{Stored}
use Rattle.member_keeper.specs.declared.keeper.Keeper.{Ghosts as Keeping}
use Rattle.member_keeper.specs.Calls.{Becomes}
use Rattle.member_keeper.specs.Tables.{Table}
use Rattle.member_node.specs.declared.key.KeyState.{KeyState}
use Rattle.member_node.specs.declared.node.Node.{Node}
use Rattle.member_node.specs.declared.loading.LoadError.{LoadError}
use Rattle.member_node.specs.declared.loading.LoadError.TheVariants.{LoadFailed, Damaged, Memory}
use Rattle.member_node.specs.Keys.{HaveKinds, declared_by}
use Rattle.member_node.specs.Members.{StandsForNode}
use Rattle.member_node.specs.Stores.{IsEarlier, SpellsStore}
use Rattle.member_node.specs.Steps.{IsOtherwiseSame, Answers, MayAnswer}

-- WHAT MAY BE LOADED

-- a mark names earlier identities alone
abbrev pub MarkIsEarlier : (id given : ℕ) → Marker → Type 0
MarkIsEarlier id given (Initialized view owner seen) = IsEarlier id given owner × ((i : ℕ) → members_in seen i ≡ true → IsEarlier id given i)
MarkIsEarlier id given (Performed owner at upto) = IsEarlier id given owner

module _ {T Kind Op Delta : Type 0} (ghosts : Ghosts T Kind Op Delta) (id given : ℕ) where
  -- the parts name earlier identities alone: in the numbers of records, in the marks and in the data
  pub record NamesEarlier (parts : Parts T) : Type 0 where
    pub counted : (i : ℕ) → number_at parts.versions i ≢ 0 → IsEarlier id given i
    pub marked : (r : ℕ) (mark : Marker) → mark_of parts.marks r ≡ Some mark → IsEarlier id given r × MarkIsEarlier id given mark
    pub mentioned : (i : ℕ) → ghosts.mentioned parts.value i ≡ true → IsEarlier id given i

module _ {T Kind Op Delta : Type 0} (ghosts : Ghosts T Kind Op Delta) (spelling : Spelling T Kind Op Delta) (keys : List (KeyState T Kind Op Delta)) (id given : ℕ) where
  -- of a durable key, an envelope of its kind in either format, which names earlier identities alone
  pub record IsSoundAt (stored : Stored) : Type 0 where
    pub parts : Parts T
    pub durable : Any (λ state. (state.name ≡ stored.key) × (state.durable ≡ true) × (state.kind ≡ ghosts.kind_of parts.value)) keys
    pub envelope : IsEnvelope spelling.IsSound ghosts.mentioned parts
    pub spelled : IsStored spelling.byte_of spelling.spelled parts stored.bytes
    pub names : NamesEarlier ghosts id given parts

  abbrev pub AreSound : Table → Type 0
  AreSound table = All IsSoundAt table

  -- the first that may not be loaded
  pub record IsFirstUnsound (table : Table) (key : Text) : Type 0 where
    pub index : ℕ
    pub stored : Stored
    pub there : slice_get table index ≡ Some stored
    pub named : stored.key ≡ key
    pub unsound : IsSoundAt stored → ⊥
    pub before : AreSound (take index table)

-- THE TWO MEMBERS

module _ {T Kind Op Delta K : Type 0} {ghosts : Ghosts T Kind Op Delta} {keeping : Keeping K} where
  module _ (old : Node T K Kind Op Delta ghosts keeping) where
    -- the keeper was loaded, and its table stays
    pub record IsLoaded (id : ℕ) (view : View) (new : Node T K Kind Op Delta ghosts keeping) : Type 0 where
      pub identity : new.id ≡ id
      pub viewed : new.view ≡ view
      pub keys : map declared_by new.keys.items ≡ map declared_by old.keys.items
      pub begins : new.steps ≡ 0
      pub limit : new.limit ≡ old.limit
      pub table : Becomes (keeping.table old.keeper) (keeping.table new.keeper) (λ table. table)
      pub answered : Answers keeping true old.keeper new.keeper
      pub later : keeping.faults old.keeper ≤ keeping.faults new.keeper

    -- the old member as it was, but for the keeper, whose table stays
    pub record ComesBack (back : Node T K Kind Op Delta ghosts keeping) : Type 0 where
      pub same : IsOtherwiseSame old back
      pub table : Becomes (keeping.table old.keeper) (keeping.table back.keeper) (λ table. table)
      pub later : keeping.faults old.keeper ≤ keeping.faults back.keeper

    -- the keeper failed at a load, and only then its count rose for it
    abbrev pub IsRefusedLoad : LoadError T K Kind Op Delta ghosts keeping → Type 0
    IsRefusedLoad (LoadFailed back) = ComesBack back × Answers keeping false old.keeper back.keeper × Rose (keeping.faults old.keeper) (keeping.faults back.keeper)
    IsRefusedLoad (Damaged back key) = ComesBack back × Answers keeping true old.keeper back.keeper
    IsRefusedLoad (Memory back) = ComesBack back × MayAnswer keeping old.keeper back.keeper

  -- A TABLE OF SPELLINGS

  module _ (spelling : Spelling T Kind Op Delta) (old : Node T K Kind Op Delta ghosts keeping) (id : ℕ) (view : View) where
    -- where the keeper's table has the spellings of a store, the new member is the model's that has loaded this
    abbrev pub StandsForLoaded : Node T K Kind Op Delta ghosts keeping → Type 0
    StandsForLoaded new =
        (kinds : Text → Kind) (logs : Text → History Op) (table : Table) (store : Store Op) → keeping.table old.keeper ≡ Some table → HaveKinds kinds old.keys.items → ((key : Text) → IsHistory (logs key))
        → SpellsStore ghosts spelling kinds logs table store → StandsForNode ghosts.kind_of ghosts.IsDataOf kinds logs new (loaded_node (map declared_by old.keys.items) id view store)
