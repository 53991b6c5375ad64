-- Relations that short definitions stand for.
use Rattle.std.specs.Prelude.{◌≡◌, ◌↔◌, ℕ, ◌<◌, ◌≤◌, [], true, false, Option, None, Some, slice_get}
use Rattle.model_history.specs.Table.{identity_limit}
use Rattle.model_history.specs.History.{Record, History, at}
use Rattle.model_members.specs.Entry.{Mark, Marks, Entry, Group, IsGroupOf, judged, is_unchanged}
use Rattle.model_members.specs.Entry.Judgement.{Wanted, Missing}
use Rattle.model_members.specs.Message.{Message}
use Rattle.model_members.specs.Message.Message.{Deltas, Gossip, Write, ReadAnswer}

-- a record, named by its origin and number, precedes one of the group's records and isn't one of them
pub record StandsBefore {Op : Type 0} (group : Group Op) (origin number : ℕ) : Type 0 where
  pub index : ℕ
  pub later : Record Op
  pub member : slice_get group.group_records index ≡ Some later
  pub precedes : number ≤ later.past origin
  pub outside : origin ≡ group.origin → number ≤ group.after

module _ {Op : Type 0} (entry : Entry Op) (group : Group Op) where
  -- the group is wanted exactly where it brings news and no record is lacking that stands before it
  abbrev pub IsWantedAfterPasts : Type 0
  IsWantedAfterPasts = (judged entry group ≡ Wanted) ↔ ((at entry.history group.origin < group.upto) × ((origin number : ℕ) → StandsBefore group origin number → number ≤ at entry.history origin))

  -- if it is one of the log and the judgement names an identity, then a record of that is lacking that stands before the group, and none of a lesser identity
  abbrev pub NamesLeastLacking : History Op → ℕ → Type 0
  NamesLeastLacking log i =
      IsGroupOf log group → judged entry group ≡ Missing i → ((number : ℕ) × StandsBefore group i number × (at entry.history i < number)) × ((origin number : ℕ) → origin < i → StandsBefore group origin number → number ≤ at entry.history origin)

-- no mark on both sides, or the same view, the same owner, and the same identities that have seen it
abbrev pub AreSameMark : Option Mark → Option Mark → Type 0
AreSameMark None None = Unit {0}
AreSameMark None (Some b) = ⊥
AreSameMark (Some a) None = ⊥
AreSameMark (Some a) (Some b) = (a.view ≡ b.view) × (a.owner ≡ b.owner) × ((i : ℕ) → i < identity_limit → a.seen i ≡ b.seen i)

-- nothing is marked, and has seen a mark, that is no identity
pub record AreOfIdentities (marks : Marks) : Type 0 where
  pub marked : (r : ℕ) → identity_limit ≤ r → marks r ≡ None
  pub seen : (r : ℕ) (mark : Mark) → marks r ≡ Some mark → (i : ℕ) → identity_limit ≤ i → mark.seen i ≡ false

-- nothing that is no identity has a record
abbrev pub HasNoOthers : {Op : Type 0} → History Op → Type 0
HasNoOthers H = (i : ℕ) → identity_limit ≤ i → H i ≡ []

module _ {Op : Type 0} (old new : Entry Op) where
  -- unchanged exactly where the history and the marks of all identities are the same
  abbrev pub IsUnchangedInParts : Type 0
  IsUnchangedInParts = (is_unchanged old new ≡ true) ↔ ((old.history ≡ new.history) × ((r : ℕ) → r < identity_limit → AreSameMark (old.marks r) (new.marks r)))

  -- unchanged exactly where they are equal, if the marks of both are of identities
  abbrev pub IsUnchangedAsWhole : Type 0
  IsUnchangedAsWhole = AreOfIdentities old.marks → AreOfIdentities new.marks → (is_unchanged old new ≡ true) ↔ (old ≡ new)

-- a message that may bring entries or groups
abbrev pub MayChange : {Op : Type 0} → Message Op → Type 0
MayChange (Deltas groups entries) = Unit {0}
MayChange (Gossip entries wants) = Unit {0}
MayChange (Write op key entry) = Unit {0}
MayChange (ReadAnswer op key entry) = Unit {0}
MayChange _ = ⊥
