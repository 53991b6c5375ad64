-- What a turn does by the numbers of all books, which it read before: of all that was known when it had read none.
--     TurnsCounted, TellsCounted        it hears what was known then, at one place or at all
--     ReadsOfOne, ReadsOfAll        it reads no more entries than there are messages that weren't heard then
use Rattle.std.specs.Prelude.{ℕ, ◌+◌, ◌≤◌, List, Option}
use Rattle.thread_cell.specs.Values.{ClientParts}
use Rattle.thread_cluster.specs.declared.book.Counts.{Counts}
use Rattle.thread_cluster.specs.Knowing.{Known}
use Rattle.thread_cluster.specs.Books.{AreCounted, unheard_from, unheard_to}
use Rattle.thread_cluster.specs.Turning.{HasTurnedTo, HasTold}

module _ {M I F O R X : Type 0} (taken : ℕ → I → List X) (posted : ℕ → O → List X) (ids : ℕ → Option ℕ) (all : List Counts) where
  -- the member at q takes what the one at p posted to it
  abbrev pub TurnsCounted : (p q n : ℕ) → (old new : ClientParts M I F O R) → Type 0
  TurnsCounted p q n old new = (first : Known M I F O R) → AreCounted posted taken ids all first old.seen.known → HasTurnedTo taken posted ids p q n first old new

  -- each member takes what the one at p posted to it
  abbrev pub TellsCounted : (p n : ℕ) → (old new : ClientParts M I F O R) → Type 0
  TellsCounted p n old new = (first : Known M I F O R) → AreCounted posted taken ids all first old.seen.known → HasTold taken posted ids p 8 n first old new

  -- from so many steps to so many, for what the member at p posted to the one at q
  abbrev pub ReadsOfOne : (p q from to : ℕ) → (old new : ClientParts M I F O R) → Type 0
  ReadsOfOne p q from to old new = (first : Known M I F O R) → AreCounted posted taken ids all first old.seen.known → to ≤ from + unheard_from posted taken ids p q first new.seen.known

  -- for what the member at p posted to all
  abbrev pub ReadsOfAll : (p from to : ℕ) → (old new : ClientParts M I F O R) → Type 0
  ReadsOfAll p from to old new = (first : Known M I F O R) → AreCounted posted taken ids all first old.seen.known → to ≤ from + unheard_to posted taken ids p 8 first new.seen.known
