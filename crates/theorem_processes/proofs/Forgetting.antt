-- What a member that forgot ends and has declared a part of the keys stands for, and how it goes on.
--     whole        a member that has forgotten nothing
--     loaded_in_part        a new member
--     goes_on, forgets, declares_key        one that is changed otherwise, forgets more, or declares a key
--     Gives        an input, at which a member with a part of the keys moves as at one that speaks of these
--     IsImageInPart, carried        its step is that of the model's member
use Rattle.std.proofs.Common.{◌≡◌, ℕ, ◌≤◌, List, [], ◌∷◌, ◌++◌, refl, sym, ap, subst, ◌∙◌, arith, Bool, Some, inl, inr, map, filter, if◌then◌else◌, nat_le}
use Rattle.std.specs.Prelude.{max, All, IsFalse, slice_get}
use Rattle.std.proofs.lemmas.Bool.Decides.{leb_tells}
use Rattle.model_history.specs.Texts.{Text}
use Rattle.model_history.specs.History.{History, IsHistory}
use Rattle.model_members.specs.DataType.{Replication}
use Rattle.model_members.specs.Node as nodes
use Rattle.model_members.specs.Node.{Input, Fate, Stepped, KeyState, with_key}
use Rattle.model_members.specs.Node.Fate.{NoStore, Stored, StoreFailed}
use Rattle.model_members.specs.Step.{step, to_store}
use Rattle.model_members.specs.View.{View}
use Rattle.model_members.specs.World.{Store, FitsFate, loaded_node}
use Rattle.base_bytes.specs.TextOrder.{IsRising}
use Rattle.model_kinds.specs.declared.operation.Op.{Op}
use Rattle.model_kinds.specs.declared.shown.Shown.{Shown}
use Rattle.data_lattice.specs.declared.replica.Replica.{Ghosts}
use Rattle.data_lattice.specs.declared.spelled.SpelledData.{Ghosts as Spelling}
use Rattle.member_keeper.specs.declared.keeper.Keeper.{Ghosts as Keeping}
use Rattle.member_node.specs.declared.input.Input as given_input
use Rattle.member_node.specs.declared.key.KeyDecl.{KeyDecl}
use Rattle.member_node.specs.declared.node.Node.{Node}
use Rattle.member_node.specs.declared.reply.Fate as done
use Rattle.member_node.specs.declared.reply.Output.{Output}
use Rattle.member_node.specs.Declaring.{IsDeclared}
use Rattle.member_node.specs.Forgetting.{StandsForgetting}
use Rattle.member_node.specs.Inputs.{StandsForInput}
use Rattle.member_node.specs.Keys.{declared}
use Rattle.member_node.specs.Members.{StandsForNode}
use Rattle.member_node.specs.Replies.{meant_fate}
use Rattle.member_node.specs.Steps.{IsImage, KeepsTable, StandsForOutput}
use Rattle.world_members.proofs.Answering.{names_apart, all_fine}
use Rattle.world_places.proofs.Storing.{NamesApart, IsFine}
use Rattle.theorem_declaring.specs.Parts.{knows, with_keys, stepped_with, IsPart, UsesOnly, SpeaksOf, StoresNoOthers}
use Rattle.theorem_declaring.proofs.Growing.{grown}
use Rattle.theorem_declaring.proofs.Loading.{new_uses, new_alike}
use Rattle.theorem_declaring.proofs.Stores.{makes_same, stays_part}
use Rattle.theorem_processes.specs.Declaring.{declared_keys}
use Rattle.theorem_processes.specs.Forgetting.{AreLeft, StandsInPart}
use Rattle.theorem_processes.specs.Forgetting.AreLeft.{nothing, kept, lost}
use Rattle.theorem_processes.specs.Keys.{AsksOnly}
use Rattle.theorem_processes.specs.Runs.{lasting}
use Rattle.theorem_processes.proofs.Keys.{asks_more}
use Rattle.theorem_processes.proofs.OpenKeys.{asks_only}
use Rattle.theorem_processes.proofs.OtherEnds.{with_ends, AddsAlike, adds_alike}

-- THE ENDS THAT ARE LEFT

all_left : (n : ℕ) (ends : List (nodes.Finished Shown)) → AreLeft n ends ends
all_left n [] = nothing
all_left n (end ∷ ends) = kept end ends ends (all_left n ends)

left_with : (n : ℕ) (left ends added : List (nodes.Finished Shown)) → AreLeft n left ends → AreLeft n (left ++ added) (ends ++ added)
left_with n _ _ added nothing = all_left n added
left_with n _ _ added (kept end left ends rest) = kept end (left ++ added) (ends ++ added) (left_with n left ends added rest)
left_with n _ _ added (lost end left ends below rest) = lost end (left ++ added) (ends ++ added) below (left_with n left ends added rest)

abbrev ends_from : ℕ → List (nodes.Finished Shown) → List (nodes.Finished Shown)
ends_from count ends = filter (λ (f : nodes.Finished Shown). nat_le count f.op) ends

left_from : (n count more : ℕ) → n ≤ more → count ≤ more → (left ends : List (nodes.Finished Shown)) → AreLeft n left ends → AreLeft more (ends_from count left) ends
left_from n count more h g _ _ nothing = nothing
left_from n count more h g _ _ (kept end left ends rest) =
    let others = left_from n count more h g left ends rest in
    elim (leb_tells count end.op) [
      | inl e ↦ subst (λ (b : Bool). AreLeft more (if b then end ∷ ends_from count left else ends_from count left) (end ∷ ends)) (sym e.0) (kept end (ends_from count left) ends others)
      | inr e ↦ subst (λ (b : Bool). AreLeft more (if b then end ∷ ends_from count left else ends_from count left) (end ∷ ends)) (sym e.0) (lost end (ends_from count left) ends (let f = e.1 in omega arith) others)
    ]
left_from n count more h g _ _ (lost end left ends below rest) = lost end (ends_from count left) ends (omega arith) (left_from n count more h g left ends rest)

module _ {T K Kind Delta : Type 0} {ghosts : Ghosts T Kind Op Delta} {keeping : Keeping K} (kinds : Text → Kind) (logs : Text → History Op) where
  abbrev Stands : Node T K Kind Op Delta ghosts keeping → nodes.Node Kind Op Shown → Type 0
  Stands code node = StandsForNode ghosts.kind_of ghosts.IsDataOf kinds logs code node

  -- the keys with which it stands are those that it has declared
  in_part : (forgotten : ℕ) (code : Node T K Kind Op Delta ghosts keeping) (keys : List (nodes.KeyDecl Kind)) (ends : List (nodes.Finished Shown)) (node : nodes.Node Kind Op Shown) → AreLeft forgotten ends node.finished → UsesOnly keys node → AsksOnly keys node
      → Stands code (with_keys keys (with_ends ends node)) → StandsInPart kinds logs forgotten code node
  in_part forgotten code keys ends node left uses asks stands =
      let own : keys ≡ declared_keys code = stands.keys in
      record {
        ends = ends;
        left = left;
        uses = subst (λ (ks : List (nodes.KeyDecl Kind)). UsesOnly ks node) own uses;
        asks = subst (λ (ks : List (nodes.KeyDecl Kind)). AsksOnly ks node) own asks;
        stands = subst (λ (ks : List (nodes.KeyDecl Kind)). Stands code (with_keys ks (with_ends ends node))) own stands;
      }

  pub whole : (forgotten : ℕ) (code : Node T K Kind Op Delta ghosts keeping) (keys : List (nodes.KeyDecl Kind)) (node : nodes.Node Kind Op Shown) → UsesOnly keys node → AsksOnly keys node → Stands code (with_keys keys node)
      → StandsInPart kinds logs forgotten code node
  whole forgotten code keys node uses asks stands = in_part forgotten code keys node.finished node (all_left forgotten node.finished) uses asks stands

  -- a new member with some of the keys, of which its store has nothing else
  pub loaded_in_part : (forgotten : ℕ) (code : Node T K Kind Op Delta ghosts keeping) (own all : List (nodes.KeyDecl Kind)) (id : ℕ) (view : View) (store : Store Op) → IsPart own all → StoresNoOthers own all store → Stands code (loaded_node own id view store)
      → StandsInPart kinds logs forgotten code (loaded_node all id view store)
  loaded_in_part forgotten code own all id view store part none stands =
      whole forgotten code own (loaded_node all id view store) (new_uses own all id view store part none) refl (subst (Stands code) (sym (new_alike own all id view store part none)) stands)

  -- a member that stands for all that the old one stood for
  pub goes_on : (forgotten : ℕ) (old new : Node T K Kind Op Delta ghosts keeping) (node : nodes.Node Kind Op Shown) → ((n : nodes.Node Kind Op Shown) → Stands old n → Stands new n) → StandsInPart kinds logs forgotten old node → StandsInPart kinds logs forgotten new node
  goes_on forgotten old new node stands s = in_part forgotten new (declared_keys old) s.ends node s.left s.uses s.asks (stands (with_keys (declared_keys old) (with_ends s.ends node)) s.stands)

  pub forgets : (forgotten : ℕ) (old new : Node T K Kind Op Delta ghosts keeping) (node : nodes.Node Kind Op Shown) → StandsForgetting old new → StandsInPart kinds logs forgotten old node
      → StandsInPart kinds logs (max forgotten new.operations.forgotten) new node
  forgets forgotten old new node forgetting s =
      in_part (max forgotten new.operations.forgotten) new (declared_keys old) (ends_from new.operations.forgotten s.ends) node
      (left_from forgotten new.operations.forgotten (max forgotten new.operations.forgotten) (omega arith) (omega arith) s.ends node.finished s.left) s.uses s.asks
      (forgetting kinds logs (with_keys (declared_keys old) (with_ends s.ends node)) s.stands)

  -- a key of the model's member is declared
  pub declares_key : (forgotten : ℕ) (old new : Node T K Kind Op Delta ghosts keeping) (node : nodes.Node Kind Op Shown) (decl : KeyDecl T Kind Op Delta) (k : ℕ) → IsRising (map (λ (d : nodes.KeyDecl Kind). d.name) node.keys) → slice_get node.keys k ≡ Some (declared decl)
      → ((key : Text) → IsHistory (logs key)) → kinds decl.key ≡ decl.kind → IsFalse (knows (declared_keys old) decl.key) → IsDeclared decl old new → StandsInPart kinds logs forgotten old node → StandsInPart kinds logs forgotten new node
  declares_key forgotten old new node decl k rising listed histories of_kind unknown is s =
      let lacks = s.uses.no_others decl.key unknown in
      in_part forgotten new (with_key (declared decl) (declared_keys old)) s.ends node s.left (grown (declared_keys old) node (declared decl) k s.uses rising listed unknown) (asks_more (declared_keys old) (declared decl) node s.asks)
      (is.stands kinds logs (with_keys (declared_keys old) (with_ends s.ends node)) histories of_kind (record { entry = lacks.0; sent = lacks.1 }) s.stands)

-- A STEP

module _ {Kind Op Shown : Type 0} (D : Replication Kind Op Shown) (keys : List (nodes.KeyDecl Kind)) where
  -- two steps after which the member is the same, and which post the same
  pub record MovesAlike (one other : Stepped Kind Op Shown) : Type 0 where
    pub node : one.node ≡ other.node
    pub posts : one.output.posts ≡ other.output.posts

  -- with these keys, the member of this identity moves alike at both inputs
  abbrev pub AreAlike : (at : ℕ) (taken sent : Input Op) → Type 0
  AreAlike at taken sent = (node : nodes.Node Kind Op Shown) → node.identity ≡ at → AsksOnly keys node → (fate : Fate) → MovesAlike (step D (with_keys keys node) taken fate) (step D (with_keys keys node) sent fate)

  -- and answers alike
  abbrev pub AreSame : (at : ℕ) (taken sent : Input Op) → Type 0
  AreSame at taken sent = (node : nodes.Node Kind Op Shown) → node.identity ≡ at → AsksOnly keys node → (fate : Fate) → step D (with_keys keys node) taken fate ≡ step D (with_keys keys node) sent fate

module _ {T K Kind Delta : Type 0} {ghosts : Ghosts T Kind Op Delta} {keeping : Keeping K} (spelling : Spelling T Kind Op Delta) (kinds : Text → Kind) (logs : Text → History Op)
    (old : Node T K Kind Op Delta ghosts keeping) (at : ℕ) (given : given_input.Input T Kind Op Delta ghosts) (sent : Input Op) where
  -- the input stands for one of the model, at which a member with the keys moves as at this one
  pub record Gives : Type 0 where
    pub taken : Input Op
    pub stands : StandsForInput kinds logs old.keys.items given taken
    pub alike : AreAlike (lasting ghosts spelling) (declared_keys old) at taken sent

module _ {T K Kind Delta : Type 0} {ghosts : Ghosts T Kind Op Delta} {keeping : Keeping K} (spelling : Spelling T Kind Op Delta) (kinds : Text → Kind) (logs : Text → History Op) (forgotten : ℕ)
    (old : Node T K Kind Op Delta ghosts keeping) (fate : done.Fate) (output : Output T Kind Op Delta ghosts) (new : Node T K Kind Op Delta ghosts keeping) (node : nodes.Node Kind Op Shown) (sent : Input Op) where
  abbrev D : Replication Kind Op Shown
  D = lasting ghosts spelling

  abbrev stepped : Stepped Kind Op Shown
  stepped = step D node sent (meant_fate fate)

  -- the step of this member of the model, but for ends that were forgotten and keys that are not declared; what it says is this
  pub record IsImageInPart (said : nodes.Output Op Shown) : Type 0 where
    pub fate_fits : FitsFate D node sent (meant_fate fate)
    pub stands : StandsInPart kinds logs forgotten new stepped.node
    pub answers : StandsForOutput kinds logs output said
    pub posts : said.posts ≡ stepped.output.posts
    pub table : KeepsTable spelling keeping fate (to_store node stepped.node) old.keeper new.keeper
    pub apart : NamesApart (to_store node stepped.node)
    pub fine : All (IsFine ghosts spelling kinds logs) (to_store node stepped.node)

  module _ (at : ℕ) (given : given_input.Input T Kind Op Delta ghosts) (s : StandsInPart kinds logs forgotten old node) (identity : node.identity ≡ at) (speaks : SpeaksOf (declared_keys old) sent) (gives : Gives spelling kinds logs old at given sent) where
    abbrev keys : List (nodes.KeyDecl Kind)
    keys = declared_keys old

    -- the member with all keys, and with those that are declared
    abbrev other : nodes.Node Kind Op Shown
    other = with_ends s.ends node

    abbrev part : nodes.Node Kind Op Shown
    part = with_keys keys other

    uses_part : UsesOnly keys other
    uses_part = record { is_part = s.uses.is_part; no_others = s.uses.no_others }

    same_step : (f : Fate) → step D part sent f ≡ stepped_with keys (step D other sent f)
    same_step f = (makes_same D keys other sent f uses_part speaks).same_step

    adds : (f : Fate) → AddsAlike node.finished s.ends (step D node sent f) (step D other sent f)
    adds f = adds_alike D node s.ends sent f

    abbrev ends_after : Fate → List (nodes.Finished Shown)
    ends_after f = s.ends ++ (adds f).added

    part_steps : (f : Fate) → step D part sent f ≡ stepped_with keys (record (step D node sent f) { node = with_ends (ends_after f) (step D node sent f).node })
    part_steps f = same_step f ∙ ap (stepped_with keys) (adds f).alike

    moves : (f : Fate) → MovesAlike D keys (step D part gives.taken f) (step D part sent f)
    moves f = gives.alike other identity s.asks f

    node_after : (f : Fate) → (step D part gives.taken f).node ≡ with_keys keys (with_ends (ends_after f) (step D node sent f).node)
    node_after f = (moves f).node ∙ ap (λ (x : Stepped Kind Op Shown). x.node) (part_steps f)

    stores_after : (f : Fate) → to_store part (step D part gives.taken f).node ≡ to_store node (step D node sent f).node
    stores_after f =
        ap (to_store part) (moves f).node ∙ (makes_same D keys other sent f uses_part speaks).same_stores ∙ ap (λ (x : Stepped Kind Op Shown). to_store node x.node) (adds f).alike

    pub entries_after : (f : Fate) → (step D part gives.taken f).node.entries ≡ (step D node sent f).node.entries
    entries_after f = ap (λ (n : nodes.Node Kind Op Shown). n.entries) (node_after f)

    -- where the answers are alike too
    pub says : AreSame D keys at gives.taken sent → (step D part gives.taken (meant_fate fate)).output ≡ stepped.output
    says same = ap (λ (x : Stepped Kind Op Shown). x.output) (same other identity s.asks (meant_fate fate) ∙ part_steps (meant_fate fate))

    fits : (f : Fate) → FitsFate D part gives.taken f → FitsFate D node sent f
    fits NoStore none = sym (stores_after Stored) ∙ none
    fits Stored some = λ none. some (stores_after Stored ∙ none)
    fits StoreFailed some = λ none. some (stores_after Stored ∙ none)

    pub carried : IsImage spelling kinds logs old fate output new part gives.taken → IsImageInPart (step D part gives.taken (meant_fate fate)).output
    carried image =
        let f = meant_fate fate in
        record {
          fate_fits = fits f image.fate_fits;
          stands =
              in_part kinds logs forgotten new keys (ends_after f) stepped.node (subst (AreLeft forgotten (ends_after f)) (sym (adds f).adds) (left_with forgotten s.ends node.finished (adds f).added s.left))
              (stays_part D keys node sent f s.uses speaks).uses (subst (λ (n : nodes.Node Kind Op Shown). AsksOnly keys n) (node_after f) (asks_only D part s.asks gives.taken f))
              (subst (StandsForNode ghosts.kind_of ghosts.IsDataOf kinds logs new) (node_after f) image.stands);
          answers = image.answers;
          posts = (moves f).posts ∙ ap (λ (x : Stepped Kind Op Shown). x.output.posts) (part_steps f);
          table = subst (λ (items : List (KeyState Kind Op)). KeepsTable spelling keeping fate items old.keeper new.keeper) (stores_after f) image.table;
          apart = subst NamesApart (stores_after f) (names_apart spelling kinds logs new part (step D part gives.taken f).node image.stands);
          fine = subst (All (IsFine ghosts spelling kinds logs)) (stores_after f) (all_fine spelling kinds logs new part (step D part gives.taken f).node image.stands image.kept);
        }
