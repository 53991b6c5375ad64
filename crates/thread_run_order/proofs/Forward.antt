-- A replay, read from its beginning: after each entry the machine goes on, and may refuse inputs before the next one.
use Rattle.std.proofs.Common.{List, [], ◌∷◌, ◌++◌}
use Rattle.thread_machine.specs.declared.machine.Machine.{Ghosts}
use Rattle.thread_machine.specs.declared.entry.Entry.{Entry}
use Rattle.thread_machine.specs.Replays.{Replays}
use Rattle.thread_machine.specs.Replays.Replays.{begins, refused, stepped}

module _ {M I F O R : Type 0} (meaning : Ghosts M I F O R) where
  -- from a machine, by these entries, to another
  pub data Goes : M → List (Entry M I F O R) → M → Type 0 where
    ends : (now : M) → Goes now [] now
    refuses : (now next last : M) (es : List (Entry M I F O R)) → meaning.IsUnchanged now next → Goes next es last → Goes now es last
    steps : (now next last : M) (e : Entry M I F O R) (es : List (Entry M I F O R)) → meaning.Steps now e.input e.fate e.output next → Goes next es last → Goes now (e ∷ es) last

  goes_refused : (start last next : M) (es : List (Entry M I F O R)) → Goes start es last → meaning.IsUnchanged last next → Goes start es next
  goes_refused start last next _ (ends _) u = refuses last next next [] u (ends next)
  goes_refused start last next es (refuses _ mid _ _ v more) u = refuses start mid next es v (goes_refused mid last next es more u)
  goes_refused start last next _ (steps _ mid _ e es s more) u = steps start mid next e es s (goes_refused mid last next es more u)

  goes_stepped : (start last next : M) (es : List (Entry M I F O R)) (e : Entry M I F O R) → Goes start es last → meaning.Steps last e.input e.fate e.output next → Goes start (es ++ e ∷ []) next
  goes_stepped start last next _ e (ends _) s = steps last next next e [] s (ends next)
  goes_stepped start last next es e (refuses _ mid _ _ v more) s = refuses start mid next (es ++ e ∷ []) v (goes_stepped mid last next es e more s)
  goes_stepped start last next _ e (steps _ mid _ f es t more) s = steps start mid next f (es ++ e ∷ []) t (goes_stepped mid last next es e more s)

  pub forward : (start now : M) (h : List (Entry M I F O R)) → Replays meaning start h now → Goes start h now
  forward start now _ (begins _) = ends start
  forward start now h (refused _ before _ _ replays u) = goes_refused start before now h (forward start before h replays) u
  forward start now _ (stepped _ before _ h e replays s) = goes_stepped start before now h e (forward start before h replays) s
