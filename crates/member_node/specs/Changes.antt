-- What a step writes at the keys.
--     changed        a key after its change, if there is one
--     change_at, AreRising        the changes as they are kept: those of some keys, in their order
--     each_of, IsSparse        a change for each key, or none
--     AreWritten, AreChanged        each key after its change
--     AreMade        something for each key, made of it
--     IsFlush        the change of a flush
use Rattle.std.specs.Prelude.{◌≡◌, ℕ, ◌+◌, ◌<◌, ◌≤◌, ◌==◌, List, [], ◌∷◌, length, map, find, if◌then◌else◌, Option, Some, None, option_map, slice_index_or, Result, OnOk}
use Rattle.std.specs.List.{range_with_len}
use Rattle.base_vectors.specs.Vectors.{number_at}
use Rattle.member_node.specs.Sending.{own_number, peers_of, flushed_to}
use Rattle.member_node.specs.declared.key.KeyState.{KeyState}
use Rattle.member_node.specs.declared.change.Change.{Change}
use Rattle.member_node.specs.declared.change.ChangeAt.{ChangeAt}
use Rattle.member_node.specs.declared.change.Change.TheVariants.{Entry, Flushed}

module _ {T Kind Op Delta : Type 0} where
  abbrev pub changed : KeyState T Kind Op Delta → Option (Change T Kind Op Delta) → KeyState T Kind Op Delta
  changed state None = state
  changed state (Some (Entry entry)) = record state { entry = entry }
  changed state (Some (Flushed flushed)) = record state { flushed = flushed }

  -- AS THEY ARE KEPT

  -- the change of the key at a place, if it is among these
  abbrev pub change_at : List (ChangeAt T Kind Op Delta) → ℕ → Option (Change T Kind Op Delta)
  change_at written k = option_map (λ at. at.change) (find (λ at. at.index == k) written)

  -- each of a later key than those before, from a place on and before another
  abbrev pub AreRising : (from to : ℕ) → List (ChangeAt T Kind Op Delta) → Type 0
  AreRising from to [] = from ≤ to
  AreRising from to (at ∷ more) = (from ≤ at.index) × AreRising (at.index + 1) to more

  -- those of earlier keys end before this place, and the others begin there
  pub record IsPlaceFor (written : List (ChangeAt T Kind Op Delta)) (index place : ℕ) : Type 0 where
    pub within : place ≤ length written
    pub before : (k : ℕ) (d : ChangeAt T Kind Op Delta) → k + 1 ≡ place → (slice_index_or written k d).index < index
    pub after : (d : ChangeAt T Kind Op Delta) → place < length written → index ≤ (slice_index_or written place d).index

  -- the change of one more key, or another in its place
  pub record IsPut (index : ℕ) (change : Change T Kind Op Delta) (keys : ℕ) (old new : List (ChangeAt T Kind Op Delta)) : Type 0 where
    pub rising : AreRising 0 keys new
    pub at : (k : ℕ) → change_at new k ≡ (if index == k then Some change else change_at old k)

  -- it is put, or all stays
  pub record PutsChange {E : Type 0} (index : ℕ) (change : Change T Kind Op Delta) (old new : List (ChangeAt T Kind Op Delta)) (result : Result (Unit {0}) E) : Type 0 where
    pub ok : (keys : ℕ) → AreRising 0 keys old → index < keys → OnOk result (IsPut index change keys old new)
    pub still : (keys : ℕ) → AreRising 0 keys old → index < keys → AreRising 0 keys new

  -- AS CONTRACTS SEE THEM

  -- of so many keys the change, if there is one
  abbrev pub each_of : ℕ → List (ChangeAt T Kind Op Delta) → List (Option (Change T Kind Op Delta))
  each_of keys written = map (change_at written) (range_with_len 0 keys)

  pub record IsSparse (changes : List (Option (Change T Kind Op Delta))) (written : List (ChangeAt T Kind Op Delta)) : Type 0 where
    pub rising : AreRising 0 (length changes) written
    pub each : changes ≡ each_of (length changes) written

  -- ONCE THEY ARE WRITTEN

  -- each key after its change, if it is among these
  pub record AreWritten (old : List (KeyState T Kind Op Delta)) (written : List (ChangeAt T Kind Op Delta)) (new : List (KeyState T Kind Op Delta)) : Type 0 where
    pub same_length : length new ≡ length old
    pub each : (k : ℕ) (d : KeyState T Kind Op Delta) → k < length old → slice_index_or new k d ≡ changed (slice_index_or old k d) (change_at written k)

  pub record AreChanged (old : List (KeyState T Kind Op Delta)) (changes : List (Option (Change T Kind Op Delta))) (new : List (KeyState T Kind Op Delta)) : Type 0 where
    pub same_length : length new ≡ length old
    pub each : (k : ℕ) (d : KeyState T Kind Op Delta) (e : Option (Change T Kind Op Delta)) → k < length old → slice_index_or new k d ≡ changed (slice_index_or old k d) (slice_index_or changes k e)

  -- something for each key, made of it
  pub record AreMade {C : Type 0} (Makes : KeyState T Kind Op Delta → C → Type 0) (keys : List (KeyState T Kind Op Delta)) (changes : List C) : Type 0 where
    pub one_each : length changes ≡ length keys
    pub made : (k : ℕ) (d : KeyState T Kind Op Delta) (e : C) → k < length keys → Makes (slice_index_or keys k d) (slice_index_or changes k e)

  -- the numbers once a flush to these peers was made: the own number for each of them
  abbrev pub AreFlushed : ℕ → List ℕ → KeyState T Kind Op Delta → (ℕ → ℕ) → Type 0
  AreFlushed id members state numbers = (i : ℕ) → numbers i ≡ flushed_to (own_number id state) (peers_of id members) (number_at state.flushed i) i

  -- the change of the flush, if a number is another
  abbrev pub IsFlush : ℕ → List ℕ → KeyState T Kind Op Delta → Option (Change T Kind Op Delta) → Type 0
  IsFlush id members state None = AreFlushed id members state (number_at state.flushed)
  IsFlush id members state (Some (Flushed flushed)) = AreFlushed id members state (number_at flushed)
  IsFlush id members state (Some (Entry entry)) = ⊥
