-- Stamps of what a seat knows.
use Rattle.std.specs.Prelude.{◌≡◌, ℕ, ◌*◌, ◌<◌, ◌≤◌, List, length, slice_get, Some}
use Rattle.thread_machine.specs.declared.entry.Entry.{Entry}
use Rattle.thread_cell.specs.Lists.{at, weigh}
use Rattle.thread_cell.specs.Rule.{most}

-- how many entries these histories have
abbrev pub total : {A : Type 0} → List (List A) → ℕ
total {A} known = weigh (λ (h : List A). length h) known

module _ {M I F O R : Type 0} where
  -- the stamp is at least that of each entry that is known, and at most the number of these entries
  pub record IsTimed (known : List (List (Entry M I F O R))) (stamp : ℕ) : Type 0 where
    pub at_least : (p i : ℕ) (e : Entry M I F O R) → slice_get (at known p) i ≡ Some e → e.stamp ≤ stamp
    pub at_most : stamp ≤ total known
    pub bound : total known ≤ 8 * most

  -- stamps rise along a history, from 1 on
  pub record Rises (history : List (Entry M I F O R)) : Type 0 where
    pub above : (i : ℕ) (e : Entry M I F O R) → slice_get history i ≡ Some e → 0 < e.stamp
    pub rising : (i j : ℕ) (e f : Entry M I F O R) → i < j → slice_get history i ≡ Some e → slice_get history j ≡ Some f → e.stamp < f.stamp
