-- In every run each member stands in the marks that it holds: one lemma for each kind of event.
use Rattle.std.proofs.Common.{◌≡◌, ℕ, List, refl, sym, subst, Bool, true, false, Option, Some, None}
use Rattle.std.specs.Prelude.{if◌then◌else◌, nat_lt, nat_le, unwrap_or, ⊤}
use Rattle.model_members.specs.View.{View, first_view}
use Rattle.model_members.specs.Entry.{seen_by, empty_entry}
use Rattle.model_members.specs.DataType.{Replication}
use Rattle.model_members.specs.Message.{Message}
use Rattle.model_members.specs.Message.Message.{Deltas, Nack, Status, Gossip, Write, WriteAck, WriteNack, Read, ReadAnswer}
use Rattle.model_members.specs.Node.{KeyDecl, Node, Input, Fate, Stepped}
use Rattle.model_members.specs.Node.Input.{Update, Get, Take, Install, Flush, GossipTo, PruneTick, Timeout}
use Rattle.model_members.specs.Step.{step, step_of_install}
use Rattle.model_members.specs.World.{World, Store, no_entries, start, loaded_entry, loaded_node}
use Rattle.theorem_runs.specs.Pruning.{SeesMarks, SeesItsMarks, AllSeeTheirMarks}
use Rattle.theorem_runs.proofs.Keeping.{AnyTick, IsKnown, IsKnownInput, keeps_step, if_holds}
use Rattle.theorem_runs.proofs.Stepping.{all_trivial}
use Rattle.theorem_runs.proofs.OwnMarks.{sees_seen, sees_kept}
use Rattle.theorem_runs.proofs.Happening.{NodeAfter, Follows}
use Rattle.theorem_runs.proofs.Happening.NodeAfter.{Same, Stepped as MadeStep, Started}

module _ {Kind Op Shown : Type 0} (D : Replication Kind Op Shown) where
  -- A STEP

  module _ (i : ℕ) (view : View) where
    known : (message : Message Op) → IsKnown D (λ key. SeesMarks {Op = Op} i view.number) (λ key theirs. ⊤) (λ key group. ⊤) AnyTick i view (sees_kept i view) message
    known (Deltas groups entries) = (all_trivial groups, all_trivial entries)
    known (Nack keys) = tt
    known (Status digests) = tt
    known (Gossip entries wants) = all_trivial entries
    known (Write op key entry) = tt
    known (WriteAck op) = tt
    known (WriteNack op) = tt
    known (Read op key) = tt
    known (ReadAnswer op key None) = tt
    known (ReadAnswer op key (Some entry)) = tt

  by_keeping : (i : ℕ) (node : Node Kind Op Shown) (input : Input Op) (fate : Fate) → SeesItsMarks i node → IsKnownInput D (λ key. SeesMarks {Op = Op} i node.view.number) (λ key theirs. ⊤) (λ key group. ⊤) AnyTick i node.view (sees_kept i node.view) input → SeesItsMarks i (step D node input fate).node
  by_keeping i node input fate sees brought =
      let keeps = keeps_step D (λ key. SeesMarks i node.view.number) (λ key theirs. ⊤) (λ key group. ⊤) AnyTick i node.view (sees_kept i node.view) node.keys node input fate
      (record { same_identity = sees.identity; same_view = refl; same_keys = refl; entries = sees.entries }) brought in
      record { identity = keeps.same_identity; entries = λ key. subst (λ (v : View). SeesMarks i v.number ((step D node input fate).node.entries key)) (sym keeps.same_view) (keeps.entries key) }

  by_installing : (i : ℕ) (node : Node Kind Op Shown) (view : View) (fate : Fate) → SeesItsMarks i node → SeesItsMarks i (step_of_install D node view fate).node
  by_installing i node view fate sees =
      if_holds (λ (s : Stepped Kind Op Shown). SeesItsMarks i s.node) (nat_le view.number node.view.number) _ _ sees
      (record {
        identity = sees.identity;
        entries = λ key. subst (λ j. SeesMarks i view.number (seen_by j view.number (node.entries key))) (sym sees.identity) (sees_seen i view.number (node.entries key));
      })

  pub sees_step : (i : ℕ) (node : Node Kind Op Shown) (input : Input Op) (fate : Fate) → SeesItsMarks i node → SeesItsMarks i (step D node input fate).node
  sees_step i node (Update key op level) fate sees = by_keeping i node (Update key op level) fate sees tt
  sees_step i node (Get key level) fate sees = by_keeping i node (Get key level) fate sees tt
  sees_step i node (Take from message) fate sees = by_keeping i node (Take from message) fate sees (known i node.view message)
  sees_step i node (Install view) fate sees = by_installing i _ view fate (record { identity = sees.identity; entries = sees.entries })
  sees_step i node Flush fate sees = by_keeping i node Flush fate sees tt
  sees_step i node (GossipTo j) fate sees = by_keeping i node (GossipTo j) fate sees tt
  sees_step i node PruneTick fate sees = by_keeping i node PruneTick fate sees (λ key r mark. tt)
  sees_step i node (Timeout op) fate sees = by_keeping i node (Timeout op) fate sees tt

  -- A NEW MEMBER

  sees_loaded_entry : (i : ℕ) (view : View) (store : Store Op) (o : Option (KeyDecl Kind)) → SeesMarks i view.number (loaded_entry i view store o)
  sees_loaded_entry i view store None = λ r m e h. absurd (cc e)
  sees_loaded_entry i view store (Some key) =
      if_holds (SeesMarks i view.number) key.durable (seen_by i view.number (unwrap_or (store key.name) empty_entry)) empty_entry (sees_seen i view.number (unwrap_or (store key.name) empty_entry)) (λ r m e h. absurd (cc e))

  sees_loaded : (keys : List (KeyDecl Kind)) (i : ℕ) (view : View) (store : Store Op) → SeesItsMarks i (loaded_node {Shown = Shown} keys i view store)
  sees_loaded keys i view store = record { identity = refl; entries = λ key. sees_loaded_entry i view store _ }

  -- AN EVENT

  module _ (world next : World Kind Op Shown) (follows : Follows D world next) (all : AllSeeTheirMarks world) where
    sees_after : (t : ℕ) (new : Node Kind Op Shown) → NodeAfter D world next t new → SeesItsMarks t new
    sees_after t new (Same was stays) = all t new was
    sees_after t new (MadeStep old input fate was comes is views) = subst (SeesItsMarks t) (sym is) (sees_step t old input fate (all t old was))
    sees_after t new (Started store is given member made from) = subst (SeesItsMarks t) (sym made) (sees_loaded world.keys t next.view store)

    pub sees_follow : AllSeeTheirMarks next
    sees_follow t new runs = sees_after t new (follows.nodes t new runs)

  -- THE FIRST WORLD

  pub sees_at_start : (members : ℕ) (keys : List (KeyDecl Kind)) → AllSeeTheirMarks (start {Op = Op} {Shown = Shown} members keys)
  sees_at_start members keys i node e = from_test (nat_lt i members) e
    where
      from_test : (b : Bool) → (if b then Some (loaded_node keys i (first_view members) no_entries) else None) ≡ Some node → SeesItsMarks i node
      from_test true e = let same : loaded_node keys i (first_view members) no_entries ≡ node = cc e in subst (SeesItsMarks i) same (sees_loaded keys i (first_view members) no_entries)
      from_test false e = absurd (cc e)
