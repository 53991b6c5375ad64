-- A member of the program that goes by the entries of its place stands for the model's member after the entries of its identity.
--     Paired, by_place        entries of all places one by one, and of one place
--     images_by_place        each entry of a history has its model entry there
--     IsFollowed, AreSafe        what inputs stand for in logs, and that these hold the histories of a member on its way
--     goes_standing        the members stand for those of the model
use Rattle.std.proofs.Common.{◌≡◌, ◌≢◌, ⊎_elim, ℕ, zero, suc, refl, sym, ap, subst, ◌∙◌, List, [], ◌∷◌, take, Option, Some}
use Rattle.std.specs.Prelude.{⊤, if◌then◌else◌}
use Rattle.std.specs.List.{AllZip}
use Rattle.model_history.specs.Texts.{Text}
use Rattle.model_history.specs.History.{History}
use Rattle.thread_machine.specs.declared.machine.Machine.{Ghosts as Machine}
use Rattle.model_members.specs.DataType.{Replication}
use Rattle.model_members.specs.Node as nodes
use Rattle.model_members.specs.Step.{step}
use Rattle.theorem_sections.specs.Histories.{Entry, Placed, entries_at, replayed}
use Rattle.theorem_sections.proofs.NextDue.{same_or_not}
use Rattle.theorem_sections.proofs.RunOrder.{is_same, is_other, entries_here, entries_else}
use Rattle.model_kinds.specs.declared.operation.Op.{Op}
use Rattle.model_kinds.specs.declared.shown.Shown.{Shown}
use Rattle.data_lattice.specs.declared.replica.Replica.{Ghosts}
use Rattle.data_lattice.specs.declared.spelled.SpelledData.{Ghosts as Spelling}
use Rattle.member_keeper.specs.declared.keeper.Keeper.{Ghosts as Keeping}
use Rattle.member_node.specs.declared.key.KeyState.{KeyState}
use Rattle.member_node.specs.declared.input.Input.{Input}
use Rattle.member_node.specs.declared.node.Node.{Node}
use Rattle.member_node.specs.declared.reply.Fate.{Fate}
use Rattle.member_node.specs.declared.reply.Output.{Output}
use Rattle.member_node.specs.declared.reply.StepError.{StepError}
use Rattle.member_node.specs.Inputs.{StandsForInput}
use Rattle.member_node.specs.Members.{StandsForNode, IsSafe}
use Rattle.member_node.specs.Replies.{meant_fate}
use Rattle.member_node.specs.Steps.{replication, IsStepOf, IsUnchanged}
use Rattle.thread_run_order.specs.Orders.{AtPlace, entries_of}
use Rattle.thread_run_order.specs.Images.{EntryOf, IsImage, AreImages}
use Rattle.thread_run_order.proofs.Forward.{Goes}
use Rattle.thread_run_order.proofs.Forward.Goes.{ends, refuses, steps}

-- the first ones correspond, where all do
pub take_zip : {A B : Type 0} (R : A → B → Type 0) (n : ℕ) (xs : List A) (ys : List B) → AllZip R xs ys → AllZip R (take n xs) (take n ys)
take_zip R zero xs ys all = tt
take_zip R (suc n) [] [] all = tt
take_zip R (suc n) [] (y ∷ ys) all = absurd all
take_zip R (suc n) (x ∷ xs) [] all = absurd all
take_zip R (suc n) (x ∷ xs) (y ∷ ys) all = (all.0, take_zip R n xs ys all.1)

-- BY PLACE

module _ {E Op Shown : Type 0} (ids : ℕ → Option ℕ) (R : E → Entry Op Shown → Type 0) where
  -- one by one, each at the identity of its place
  abbrev pub Paired : List (AtPlace E) → List (Placed Op Shown) → Type 0
  Paired [] [] = ⊤
  Paired (x ∷ xs) (y ∷ ys) = (ids x.place ≡ Some y.at) × R x.entry y.entry × Paired xs ys
  Paired _ _ = ⊥

  module _ (apart : (a b i : ℕ) → ids a ≡ Some i → ids b ≡ Some i → a ≡ b) (k i : ℕ) (here : ids k ≡ Some i) where
    pub by_place : (xs : List (AtPlace E)) (ys : List (Placed Op Shown)) → Paired xs ys → AllZip R (entries_of k xs) (entries_at i ys)
    by_place [] [] all = tt
    by_place [] (y ∷ ys) all = absurd all
    by_place (x ∷ xs) [] all = absurd all
    by_place (x ∷ xs) (y ∷ ys) all = ⊎_elim
        (λ (same : y.at ≡ i).
        let at_it : x.place ≡ k = apart x.place k i (all.0 ∙ ap Some same) here in
        subst (λ es. AllZip R es (entries_at i (y ∷ ys))) (sym (ap (λ b. if b then x.entry ∷ entries_of k xs else entries_of k xs) (is_same x.place k at_it)))
        (subst (AllZip R (x.entry ∷ entries_of k xs)) (sym (entries_here i y ys same)) (all.1, by_place xs ys all.2)))
        (λ other.
        let beside : x.place ≢ k = λ same. other (let e : ◌≡◌ {A = Option ℕ} (Some y.at) (Some i) = sym all.0 ∙ ap ids same ∙ here in cc e) in
        subst (λ es. AllZip R es (entries_at i (y ∷ ys))) (sym (ap (λ b. if b then x.entry ∷ entries_of k xs else entries_of k xs) (is_other x.place k beside)))
        (subst (AllZip R (entries_of k xs)) (sym (entries_else i y ys other)) (by_place xs ys all.2)))
        (same_or_not y.at i)

module _ {T K Kind Delta : Type 0} {ghosts : Ghosts T Kind Op Delta} {keeping : Keeping K} (ids : ℕ → Option ℕ) where
  images_paired : (xs : List (AtPlace (EntryOf ghosts keeping))) (ys : List (Placed Op Shown)) → AreImages ids xs ys → Paired ids (IsImage {ghosts = ghosts} {keeping = keeping}) xs ys
  images_paired [] [] all = tt
  images_paired [] (y ∷ ys) all = absurd all
  images_paired (x ∷ xs) [] all = absurd all
  images_paired (x ∷ xs) (y ∷ ys) all = (all.0, all.1, images_paired xs ys all.2)

  -- the model entries of an identity are those of its place's history, one for one
  pub images_by_place : (apart : (a b i : ℕ) → ids a ≡ Some i → ids b ≡ Some i → a ≡ b) (histories : ℕ → List (EntryOf ghosts keeping)) (xs : List (AtPlace (EntryOf ghosts keeping))) (placed : List (Placed Op Shown)) → ((p : ℕ) → entries_of p xs ≡ histories p) → AreImages ids xs placed
      → (place i : ℕ) → ids place ≡ Some i → AllZip (IsImage {ghosts = ghosts} {keeping = keeping}) (histories place) (entries_at i placed)
  images_by_place apart histories xs placed whole images place i here =
      subst (λ es. AllZip (IsImage {ghosts = ghosts} {keeping = keeping}) es (entries_at i placed)) (whole place) (by_place ids (IsImage {ghosts = ghosts} {keeping = keeping}) apart place i here xs placed (images_paired xs placed images))

-- IN LOGS

module _ {T K Kind Delta : Type 0} {ghosts : Ghosts T Kind Op Delta} {keeping : Keeping K} (kinds : Text → Kind) (logs : Text → History Op) where
  -- the input stands for the model's, whatever keys a member has, and the fate is the model's
  pub record IsFollowed (e : EntryOf ghosts keeping) (m : Entry Op Shown) : Type 0 where
    pub input : (keys : List (KeyState T Kind Op Delta)) → StandsForInput kinds logs keys e.input m.input
    pub fate : m.fate ≡ meant_fate e.fate

module _ {Kind Op : Type 0} (D : Replication Kind Op Shown) (logs : Text → History Op) where
  -- the member is safe after each entry
  abbrev pub AreSafe : nodes.Node Kind Op Shown → List (Entry Op Shown) → Type 0
  AreSafe before [] = ⊤
  AreSafe before (e ∷ entries) = IsSafe logs (step D before e.input e.fate).node × AreSafe (step D before e.input e.fate).node entries

  pub take_safe : (n : ℕ) (before : nodes.Node Kind Op Shown) (entries : List (Entry Op Shown)) → AreSafe before entries → AreSafe before (take n entries)
  take_safe zero before entries all = tt
  take_safe (suc n) before [] all = tt
  take_safe (suc n) before (e ∷ entries) all = (all.0, take_safe n (step D before e.input e.fate).node entries all.1)

module _ {T K Kind Delta : Type 0} {ghosts : Ghosts T Kind Op Delta} {keeping : Keeping K} (kinds : Text → Kind) (logs : Text → History Op) where
  -- a member that refused an input stands for the same
  unchanged_standing : (old new : Node T K Kind Op Delta ghosts keeping) (node : nodes.Node Kind Op Shown) → IsUnchanged old new → StandsForNode ghosts.kind_of ghosts.IsDataOf kinds logs old node → StandsForNode ghosts.kind_of ghosts.IsDataOf kinds logs new node
  unchanged_standing old new node unchanged s =
      subst (λ (c : Node T K Kind Op Delta ghosts keeping). StandsForNode ghosts.kind_of ghosts.IsDataOf kinds logs c node) (sym unchanged.same)
      (record { identity = s.identity; view = s.view; keys = s.keys; distinct = s.distinct; entries = s.entries; operations = s.operations; steps = s.steps })

module _ {T K Kind Delta : Type 0} {ghosts : Ghosts T Kind Op Delta} {keeping : Keeping K} (spelling : Spelling T Kind Op Delta) (meaning : Machine (Node T K Kind Op Delta ghosts keeping) (Input T Kind Op Delta ghosts) Fate (Output T Kind Op Delta ghosts) StepError)
    (steps_are : (old : Node T K Kind Op Delta ghosts keeping) (input : Input T Kind Op Delta ghosts) (fate : Fate) (output : Output T Kind Op Delta ghosts) (new : Node T K Kind Op Delta ghosts keeping) → meaning.Steps old input fate output new → IsStepOf spelling old input fate output new)
    (unchanged_are : (old new : Node T K Kind Op Delta ghosts keeping) → meaning.IsUnchanged old new → IsUnchanged old new) (kinds : Text → Kind) (logs : Text → History Op) where
  abbrev D : Replication Kind Op Shown
  D = replication ghosts spelling

  abbrev Stands : Node T K Kind Op Delta ghosts keeping → nodes.Node Kind Op Shown → Type 0
  Stands = StandsForNode ghosts.kind_of ghosts.IsDataOf kinds logs

  pub goes_standing : (now last : Node T K Kind Op Delta ghosts keeping) (es : List (EntryOf ghosts keeping)) → Goes meaning now es last → (member : nodes.Node Kind Op Shown) (ms : List (Entry Op Shown)) → Stands now member → AllZip (IsFollowed kinds logs) es ms → AreSafe D logs member ms → Stands last (replayed D member ms)
  goes_standing now _ _ (ends _) member [] stands all safe = stands
  goes_standing now _ _ (ends _) member (m ∷ ms) stands all safe = absurd all
  goes_standing now last es (refuses _ next _ _ u onward) member ms stands all safe = goes_standing next last es onward member ms (unchanged_standing kinds logs now next member (unchanged_are now next u) stands) all safe
  goes_standing now last _ (steps _ next _ e es s onward) member [] stands all safe = absurd all
  goes_standing now last _ (steps _ next _ e es s onward) member (m ∷ ms) stands all safe =
      let makes = steps_are now e.input e.fate e.output next s in
      let image = makes.image kinds logs member m.input stands (all.0.input now.keys.items) (subst (λ f. IsSafe logs (step D member m.input f).node) all.0.fate safe.0) in
      goes_standing next last es onward (step D member m.input m.fate).node ms (subst (λ f. Stands next (step D member m.input f).node) (sym all.0.fate) image.stands) all.1 safe.1
