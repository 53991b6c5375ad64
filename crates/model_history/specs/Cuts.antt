-- Histories as vectors: a log and a vector name the history `cut log held`. Histories of one log agree, and their union is the join of the vectors.
--     record_at                     the record of an origin at an index: index 0 is the record with number 1
--     IsConsistentCut               the vector holds the past of each of its records
--     Prunes, HasExactPrunes, ArePruned        which record prunes an identity, and that nothing of it is lost or doubled
--     IsPrunedCut                   all of these: what the laws of data types assume
--     HasPrunedHistory              the same, said by histories
use Rattle.std.specs.Prelude.{◌≡◌, ℕ, ◌+◌, ◌<◌, ◌≤◌, true, unwrap_or, slice_get, if◌then◌else◌}
use Rattle.model_history.specs.Table.{identity_limit, with_at}
use Rattle.model_history.specs.Vector.{VersionVector, IdentitySet, Covers, none_counted}
use Rattle.model_history.specs.History.{Action, Record, History, at, versions, cut, IsHistory, IsExactlyPruned, is_pruned}
use Rattle.model_history.specs.History.Action.{Prune}

-- past the log's end it means nothing
unfoldable pub record_at : {Op : Type 0} → History Op → ℕ → ℕ → Record Op
record_at log origin index = unwrap_or (slice_get (log origin) index) (record { action = Prune 0; past = none_counted })

-- with one more record of an origin
abbrev pub grown : VersionVector → ℕ → VersionVector
grown held origin = with_at held origin (held origin + 1)

-- what data count, once the identities of a set were cleaned away
abbrev pub without : IdentitySet → VersionVector → VersionVector
without gone held i = if gone i then 0 else held i

module _ {Op : Type 0} (log : History Op) where
  abbrev pub action_of : ℕ → ℕ → Action Op
  action_of origin index = (record_at log origin index).action

  abbrev pub past_of : ℕ → ℕ → VersionVector
  past_of origin index = (record_at log origin index).past

  -- the log has these records, they hold the past of each of them, and pasts are consistent themselves
  pub record IsConsistentCut (held : VersionVector) : Type 0 where
    pub made : (origin : ℕ) → held origin ≤ at log origin
    pub own : (origin index : ℕ) → index < held origin → past_of origin index origin ≡ index
    pub closed : (origin index other : ℕ) → index < held origin → past_of origin index other ≤ held other
    pub transitive : (origin index other before third : ℕ) → index < held origin → before < past_of origin index other → past_of other before third ≤ past_of origin index third
    pub few : (origin : ℕ) → identity_limit ≤ origin → held origin ≡ 0

  -- the next record of an origin, whose past is all that is held
  pub record IsNext (held : VersionVector) (origin : ℕ) (next : Action Op) : Type 0 where
    pub made : held origin < at log origin
    pub member : origin < identity_limit
    pub action : action_of origin (held origin) ≡ next
    pub past : (i : ℕ) → past_of origin (held origin) i ≡ held i

  -- no record of an origin from one index to another is a prune
  pub record AreOperations (origin after to : ℕ) : Type 0 where
    pub none : (index removed : ℕ) → after ≤ index → index < to → action_of origin index ≡ Prune removed → ⊥

  -- a held record prunes the identity
  pub record Prunes (held : VersionVector) (removed owner index : ℕ) : Type 0 where
    pub within : index < held owner
    pub action : action_of owner index ≡ Prune removed

  -- a pruned identity has one prune, of another origin, and no record beside those in its past
  pub record HasExactPrunes (held : VersionVector) : Type 0 where
    pub once : (removed owner index owner' index' : ℕ) → Prunes held removed owner index → Prunes held removed owner' index' → (owner ≡ owner') × (index ≡ index')
    pub frozen : (removed owner index : ℕ) → Prunes held removed owner index → held removed ≡ past_of owner index removed
    pub other : (removed owner index : ℕ) → Prunes held removed owner index → (removed ≡ owner → ⊥)

  -- the identities that have a held prune
  pub record ArePruned (held : VersionVector) (gone : IdentitySet) : Type 0 where
    pub all : (removed owner index : ℕ) → Prunes held removed owner index → gone removed ≡ true
    pub only : (removed : ℕ) → gone removed ≡ true → (owner : ℕ) × (index : ℕ) × Prunes held removed owner index

  -- a history of the log, with the identities that it has a prune of
  pub record IsPrunedCut (held : VersionVector) (gone : IdentitySet) : Type 0 where
    pub cut : IsConsistentCut held
    pub exact : HasExactPrunes held
    pub pruned : ArePruned held gone

  -- the log has so many records, they are a history that is exactly pruned, and the set is what that is pruned of
  abbrev pub HasPrunedHistory : VersionVector → IdentitySet → Type 0
  HasPrunedHistory held gone = Covers (versions log) held × IsHistory (cut log held) × IsExactlyPruned (cut log held) × ((r : ℕ) → gone r ≡ is_pruned (cut log held) r)
