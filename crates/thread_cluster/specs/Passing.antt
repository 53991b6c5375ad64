-- What members post to each other, and take.
--     Passed, stamped, passed        a message with the stamp of its entry, and those of a history
--     at_one, posts, takes        what a history posts to an identity, and takes of one
--     IsTakeOf, AreHeard, AreAllHeard        which takes are of which posts
--     Hears        what the lock of a place keeps
--     AreApart        no identity is at two places
--     AreCopies, IsNext        copies of posts, and the post that is to be taken next
--     HasUnheard        who posted more to another one than this took
use Rattle.std.specs.Prelude.{◌≡◌, ℕ, ◌<◌, List, [], ◌∷◌, ◌++◌, length, map, drop, slice_get, Option, Some, None}
use mathlib.Core.List.{IsPrefix}
use Rattle.thread_machine.specs.declared.entry.Entry.{Entry}
use Rattle.thread_cell.specs.Lists.{at}

-- a message, with the stamp of the entry that posted or took it
pub record Passed (X : Type 0) : Type 0 where
  pub message : X
  pub stamp : ℕ

-- nothing, where there is no identity
abbrev pub at_one : {A X : Type 0} → (ℕ → A → List X) → Option ℕ → A → List X
at_one of_id None a = []
at_one of_id (Some id) a = of_id id a

-- no identity is at two places
pub record AreApart (ids : ℕ → Option ℕ) : Type 0 where
  pub apart : (p q id : ℕ) → ids p ≡ Some id → ids q ≡ Some id → p ≡ q

module _ {X : Type 0} where
  abbrev pub stamped : ℕ → List X → List (Passed X)
  stamped stamp [] = []
  stamped stamp (m ∷ ms) = record { message = m; stamp = stamp } ∷ stamped stamp ms

  abbrev pub message_in : Passed X → X
  message_in w = w.message

  abbrev pub messages : List (Passed X) → List X
  messages ps = map message_in ps

  -- the take is of the post, and comes later
  pub record IsTakeOf (post take : Passed X) : Type 0 where
    pub message : take.message ≡ post.message
    pub stamp : post.stamp < take.stamp

  -- each take is of the post of its number
  pub record AreHeard (ps ts : List (Passed X)) : Type 0 where
    pub each : (k : ℕ) (take : Passed X) → slice_get ts k ≡ Some take → (post : Passed X) × (slice_get ps k ≡ Some post) × IsTakeOf post take

  -- each post is taken, at its number
  pub record AreAllHeard (ps ts : List (Passed X)) : Type 0 where
    pub each : (k : ℕ) (post : Passed X) → slice_get ps k ≡ Some post → (take : Passed X) × (slice_get ts k ≡ Some take) × IsTakeOf post take

  -- these are the messages that were posted, from a number on, or the first of them
  pub record AreCopies (number : ℕ) (copies : List X) (ps : List (Passed X)) : Type 0 where
    pub begins : IsPrefix copies (drop number (messages ps))

module _ {M I F O R X : Type 0} where
  -- what the entries of a history pass, one after another
  abbrev pub passed : (Entry M I F O R → List X) → List (Entry M I F O R) → List (Passed X)
  passed each [] = []
  passed each (e ∷ es) = stamped e.stamp (each e) ++ passed each es

  -- what a history posted to an identity
  abbrev pub posts : (ℕ → O → List X) → Option ℕ → List (Entry M I F O R) → List (Passed X)
  posts posted to h = passed (λ (e : Entry M I F O R). at_one posted to e.output) h

  -- what a history took of an identity
  abbrev pub takes : (ℕ → I → List X) → Option ℕ → List (Entry M I F O R) → List (Passed X)
  takes taken from h = passed (λ (e : Entry M I F O R). at_one taken from e.input) h

  module _ (posted : ℕ → O → List X) (taken : ℕ → I → List X) (ids : ℕ → Option ℕ) where
    -- WHAT THE LOCK OF A PLACE KEEPS: what the place took of each other one are, by number, the other's posts to it, each with a higher stamp
    pub record Hears (p : ℕ) (known : List (List (Entry M I F O R))) : Type 0 where
      pub from : (q : ℕ) → AreHeard (posts posted (ids p) (at known q)) (takes taken (ids q) (at known p))

    -- the post of a place that another place is to take next
    pub record IsNext (q : ℕ) (message : X) (p : ℕ) (known : List (List (Entry M I F O R))) : Type 0 where
      pub post : Passed X
      pub stands : slice_get (posts posted (ids p) (at known q)) (length (takes taken (ids q) (at known p))) ≡ Some post
      pub message_is : post.message ≡ message

    -- the member at q posted more to the one at p than this took, in what is known
    pub record HasUnheard (q p : ℕ) (known : List (List (Entry M I F O R))) : Type 0 where
      pub sender : ℕ
      pub from : ids q ≡ Some sender
      pub receiver : ℕ
      pub to : ids p ≡ Some receiver
      pub more : length (takes taken (ids q) (at known p)) < length (posts posted (ids p) (at known q))
