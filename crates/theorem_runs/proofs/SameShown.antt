-- What a running member shows depends only on the records that it has taken.
use Rattle.std.proofs.Common.{◌≡◌, ℕ, ◌<◌, ◌≤◌, List, refl, sym, ap, ◌∙◌, arith, Option, Some, None, inl, inr}
use Rattle.std.specs.Prelude.{if◌then◌else◌, nat_lt, find, option_map}
use Rattle.std.specs.List.{list_any}
use Rattle.std.specs.Str.{bytes_eq}
use Rattle.std.proofs.lemmas.Bool.{cases_lt}
use Rattle.model_history.proofs.Bridge.{has_at}
use Rattle.model_members.proofs.Steps.{one_is_enough}
use Rattle.model_history.specs.Texts.{Text}
use Rattle.model_history.specs.Table.{identities}
use Rattle.model_history.specs.History.{Record, History, at, HasRecord}
use Rattle.model_history.proofs.HistoryLaws.{same_part, slice_get-below}
use Rattle.model_members.specs.DataType.{Replication, meaning}
use Rattle.model_members.specs.Node.{KeyDecl, Node, Level, Input, Fate, Reply, state_of, one_step_later}
use Rattle.model_members.specs.Node.Reply.{UnknownKey}
use Rattle.model_members.specs.Step.{step, shown_of, meaning_of, value_reply, member_count}
use Rattle.model_members.specs.World.{World}
use Rattle.model_members.proofs.Cases.{got, got_needing}
use Rattle.theorem_runs.specs.Pruning.{HistoryVariables}
use Rattle.model_history.proofs.PruneLaws.{found}
use Rattle.theorem_runs.proofs.Keeping.{same_text}
use Rattle.theorem_runs.proofs.ViewLaws.{some_members}
use Rattle.theorem_runs.proofs.Safety.{IsSafe}

-- RECORDS

module _ {Op : Type 0} where
  no_fewer : (H J : History Op) → ((o k : ℕ) (x : Record Op) → HasRecord H o k x → HasRecord J o k x) → (o : ℕ) → at H o ≤ at J o
  no_fewer H J all o = elim (cases_lt (at J o) (at H o)) [
    | inl more ↦ let r = has_at (H o) (at J o) more in absurd (let a = slice_get-below (J o) r.0 (at J o) (all o (at J o) r.0 r.1) in omega arith)
    | inr enough ↦ enough
  ]

  -- who has the same records has as many of each identity
  pub as_many : (H J : History Op) → ((o k : ℕ) (x : Record Op) → HasRecord H o k x → HasRecord J o k x) → ((o k : ℕ) (x : Record Op) → HasRecord J o k x → HasRecord H o k x) → (o : ℕ) → at H o ≡ at J o
  as_many H J there back o = let a = no_fewer H J there o in let b = no_fewer J H back o in omega arith

-- A LOCAL GET

module _ {Kind Op Shown : Type 0} (D : Replication Kind Op Shown) where
  -- what a key shows is by its history alone
  shown_by_history : (a b : Node Kind Op Shown) (decl : KeyDecl Kind) → (a.entries decl.name).history ≡ (b.entries decl.name).history → shown_of D (state_of a decl) ≡ shown_of D (state_of b decl)
  shown_by_history a b decl same = ap (λ (H : History Op). if list_any (λ i. nat_lt 0 (at H i)) identities then Some (D.data_type.shown decl.kind H) else None) same

  -- and so is what it means
  pub means_by_history : (a b : Node Kind Op Shown) (decl : KeyDecl Kind) → (a.entries decl.name).history ≡ (b.entries decl.name).history → meaning_of D (state_of a decl) ≡ meaning_of D (state_of b decl)
  means_by_history a b decl same = ap (λ (H : History Op). if list_any (λ i. nat_lt 0 (at H i)) identities then Some (meaning D.data_type decl.kind H) else None) same

  -- the reply to a local get, by the key's declaration
  abbrev reply_of : Node Kind Op Shown → Option (KeyDecl Kind) → Reply Shown
  reply_of node None = UnknownKey
  reply_of node (Some decl) = value_reply D (meaning_of D (state_of node decl))

  by_decl : (node : Node Kind Op Shown) (o : Option (KeyDecl Kind)) → 0 < member_count node → (got D (one_step_later node) (option_map (state_of (one_step_later node)) o) Level.Local).output.reply ≡ reply_of node o
  by_decl node None some = refl
  by_decl node (Some decl) some = ap (λ n. (got_needing D (one_step_later node) (state_of (one_step_later node) decl) n).output.reply) (one_is_enough (member_count node) some)

  local_get : (node : Node Kind Op Shown) (key : Text) (fate : Fate) → 0 < member_count node → (step D node (Input.Get key Level.Local) fate).output.reply ≡ reply_of node (find (λ (d : KeyDecl Kind). bytes_eq d.name key) node.keys)
  local_get node key fate some = by_decl node (find (λ (d : KeyDecl Kind). bytes_eq d.name key) node.keys) some

  -- MEMBERS THAT TOOK THE SAME

  module _ (variables : HistoryVariables Op) (world : World Kind Op Shown) (safe : IsSafe D variables world) (i j : ℕ) (a b : Node Kind Op Shown) (runs_a : world.nodes i ≡ Some a) (runs_b : world.nodes j ≡ Some b) where
    -- a history is known by how many records of each identity it has
    pub same_history : (key : Text) → ((o : ℕ) → at (a.entries key).history o ≡ at (b.entries key).history o) → (a.entries key).history ≡ (b.entries key).history
    same_history key same = same_part (variables.made key) (a.entries key).history (b.entries key).history (safe.logs.held i a key runs_a).part (safe.logs.held j b key runs_b).part same

    same_decl : (key : Text) (o : Option (KeyDecl Kind)) → find (λ (d : KeyDecl Kind). bytes_eq d.name key) world.keys ≡ o → (a.entries key).history ≡ (b.entries key).history → reply_of a o ≡ reply_of b o
    same_decl key None is same = refl
    same_decl key (Some decl) is same =
        let name = same_text decl.name key (found (λ (d : KeyDecl Kind). bytes_eq d.name key) world.keys decl is) in
        ap (value_reply D) (means_by_history a b decl (ap (λ k. (a.entries k).history) name ∙ same ∙ ap (λ k. (b.entries k).history) (sym name)))

    -- they answer a local get alike
    pub same_reply : (key : Text) (fate : Fate) → ((o : ℕ) → at (a.entries key).history o ≡ at (b.entries key).history o) → (step D a (Input.Get key Level.Local) fate).output.reply ≡ (step D b (Input.Get key Level.Local) fate).output.reply
    same_reply key fate same =
        let well_a = safe.views.running i a runs_a in
        let well_b = safe.views.running j b runs_b in
        local_get a key fate (some_members a.view i well_a.member)
        ∙ ap (λ (ks : List (KeyDecl Kind)). reply_of a (find (λ (d : KeyDecl Kind). bytes_eq d.name key) ks)) well_a.keys
        ∙ same_decl key (find (λ (d : KeyDecl Kind). bytes_eq d.name key) world.keys) refl (same_history key same)
        ∙ ap (λ (ks : List (KeyDecl Kind)). reply_of b (find (λ (d : KeyDecl Kind). bytes_eq d.name key) ks)) (sym well_b.keys)
        ∙ sym (local_get b key fate (some_members b.view j well_b.member))

    -- and show the same in the final block
    pub same_shown : (decl : KeyDecl Kind) → ((o : ℕ) → at (a.entries decl.name).history o ≡ at (b.entries decl.name).history o) → shown_of D (state_of a decl) ≡ shown_of D (state_of b decl)
    same_shown decl same = shown_by_history a b decl (same_history decl.name same)
