-- What a lock leaves of its cell and of a session.
use Rattle.std.specs.Prelude.{◌≡◌, ℕ, ◌+◌, List, length, Option}
use Rattle.thread_cell.specs.Lists.{at}
use Rattle.thread_cell.specs.Values.{ClientParts, CellParts}
use Rattle.thread_cluster.specs.Passing.{takes}
use Rattle.thread_cluster.specs.Knowing.{KnowsMore, KnowsSame, Sees, Turns}

module _ {M I F O R : Type 0} where
  -- cell and session know the same
  pub record AreAlike (c : CellParts M I F O R) (s : ClientParts M I F O R) : Type 0 where
    pub same : KnowsSame s.seen.known c.seen.known
    pub began : s.seen.began ≡ c.seen.began

  -- cell and session met
  pub record HasMet (p : ℕ) (c c' : CellParts M I F O R) (s s' : ClientParts M I F O R) : Type 0 where
    pub machine : c'.machine ≡ c.machine
    pub history : at c'.seen.known p ≡ at c.seen.known p
    pub more : KnowsMore c.seen.known c'.seen.known
    pub alike : AreAlike c' s'
    pub sees : Sees s s'

  -- the member at p took one message more of the member at q, which cell and session then know
  pub record Took {X : Type 0} (taken : ℕ → I → List X) (ids : ℕ → Option ℕ) (q p : ℕ) (c c' : CellParts M I F O R) (s s' : ClientParts M I F O R) : Type 0 where
    pub count : length (takes taken (ids q) (at c'.seen.known p)) ≡ length (takes taken (ids q) (at c.seen.known p)) + 1
    pub grown : length (at c'.seen.known p) ≡ length (at c.seen.known p) + 1
    pub more : KnowsMore c.seen.known c'.seen.known
    pub alike : AreAlike c' s'
    pub turned : Turns taken ids 1 s s'
