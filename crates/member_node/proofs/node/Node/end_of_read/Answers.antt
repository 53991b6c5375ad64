use Rattle.std.proofs.Common.{◌≡◌, Option, Some, None, if◌then◌else◌, bytes_eq, ℕ, List, arith, get_or, sym, ap, ◌∙◌, subst, true, map, find, option_map, position}
use Rattle.std.specs.Option.{option_and_then}
use Rattle.std.proofs.lemmas.List.{get_or_default}
use Rattle.std.proofs.lemmas.Result.{IfOk-weaker}
use Rattle.member_node.proofs.Common.{Text, VersionVector, IdentitySet, History, has_records, result_of, Replication, OpenOperation, key_state, state_of, Shown, Envelope, StandsFor, parts_of, StandsForEntry, result_meant, delta_groups, KeyState, Change, declared_by, AreMade, current_of, IsKept, LeadsTo, AreHeld}
use Rattle.model_members.specs.Entry as model
use Rattle.model_members.specs.DataType.{meaning}
use Rattle.model_members.specs.Step.{read_result, meaning_of}
use Rattle.model_members.specs.Node as nodes
use Rattle.model_members.specs.Node.{Result as Meant}
use Rattle.member_node.specs.declared.operation.OperationResult.{OperationResult}
use Rattle.member_node.proofs.Lists.{position-found, IsFound, position-none}
use Rattle.member_node.proofs.Standing.{find-map}
use Rattle.member_node.proofs.Takings.{made_at, stands_current, undeclared_in}
use Rattle.member_node.proofs.node.Node.end_of_read.Goals as goal

module _ {T Kind Op Delta : Type 0} (D : Replication Kind Op Shown) (kind_of : T → Kind) (IsDataOf : T → History Op → VersionVector → IdentitySet → Type 0) (kinds : Text → Kind) (logs : Text → History Op) (id : ℕ) (keys : List (KeyState T Kind Op Delta))
    (before : Text → model.Entry Op) (held : AreHeld kind_of IsDataOf kinds logs id keys before) (changes : List (Option (Change T Kind Op Delta))) (kept : AreMade (IsKept kind_of id) keys changes)
    (node : nodes.Node Kind Op Shown) (leads : AreMade (LeadsTo IsDataOf logs before node.entries) keys changes) (declares : node.keys ≡ map declared_by keys) (key : Text) (asked : OpenOperation) (at_key : asked.key ≡ key) (reads : asked.reads ≡ true) where
  by_key : result_of D node asked ≡ read_result D (option_and_then (meaning_of D) (key_state node key))
  by_key =
      ap (λ b. if b then read_result D (option_and_then (meaning_of D) (key_state node asked.key)) else Meant.Wrote) reads ∙ ap (λ k. read_result D (option_and_then (meaning_of D) (key_state node k))) at_key

  read_undeclared : None ≡ position (λ (state : KeyState T Kind Op Delta). bytes_eq state.name key) keys → Meant.ReadNothing ≡ result_of D node asked
  read_undeclared none =
      let undeclared = undeclared_in node keys key declares (position-none (λ (state : KeyState T Kind Op Delta). bytes_eq state.name key) keys none) in
      sym (by_key ∙ ap (λ o. read_result D (option_and_then (meaning_of D) (option_map (state_of node) o))) undeclared)

  -- the key at its place, after its change
  module _ (index : ℕ) (at : KeyState T Kind Op Delta) (change : Option (Change T Kind Op Delta)) (found : IsFound (λ (state : KeyState T Kind Op Delta). bytes_eq state.name key) keys index) (is : at ≡ get_or keys index at) (is' : change ≡ get_or changes index change)
      (mine : Envelope T Kind Op Delta) (same : mine ≡ current_of at change) where
    first : StandsForEntry kind_of IsDataOf kinds logs at.name at.entry (before at.name)
    first = subst (λ (state : KeyState T Kind Op Delta). StandsForEntry kind_of IsDataOf kinds logs state.name state.entry (before state.name)) (sym is) (held.held index at found.within)

    read_stands : StandsFor IsDataOf (parts_of mine) (logs at.name) (node.entries at.name)
    read_stands =
        subst (λ (e : Envelope T Kind Op Delta). StandsFor IsDataOf (parts_of e) (logs at.name) (node.entries at.name)) (sym same)
        (stands_current IsDataOf logs before node.entries at change (made_at (LeadsTo IsDataOf logs before node.entries) keys changes index at change found.within is is' leads) first.image)

    kind_now : kind_of mine.value ≡ at.kind
    kind_now =
        let own = made_at (IsKept kind_of id) keys changes index at change found.within is is' kept in
        ap (λ (e : Envelope T Kind Op Delta). kind_of e.value) same ∙ own.kind ∙ first.kind ∙ subst (λ (state : KeyState T Kind Op Delta). kinds state.name ≡ state.kind) (sym is) (held.of_kinds index at found.within)

    declared_so : key_state node key ≡ Some (state_of node (declared_by at))
    declared_so = ap (option_map (state_of node))
        (ap (find (λ (decl : nodes.KeyDecl Kind). bytes_eq decl.name key)) declares ∙ find-map (λ (decl : nodes.KeyDecl Kind). bytes_eq decl.name key) declared_by keys
        ∙ ap (option_map declared_by) (found.found at) ∙ ap (λ (state : KeyState T Kind Op Delta). Some (declared_by state)) (sym is))

    read_found : (end : Meant Shown) → end ≡ read_result D (if has_records (node.entries at.name) then Some (meaning D.data_type (kind_of mine.value) (node.entries at.name).history) else None) → end ≡ result_of D node asked
    read_found end ends =
        ends ∙ ap (λ kind. read_result D (if has_records (node.entries at.name) then Some (meaning D.data_type kind (node.entries at.name).history) else None)) kind_now
        ∙ sym (by_key ∙ ap (λ o. read_result D (option_and_then (meaning_of D) o)) declared_so)

pub returns-in_default : goal.returns-in_default
returns-in_default g c = λ digest kinds logs before node asked held kept leads declares at_key reads.
    let R = g.T.Replica in
    read_undeclared (delta_groups R.data_type digest) R.kind_of R.IsDataOf kinds logs c.args.self.now.id c.args.self.now.keys.items before held c.args.changes.now kept node leads declares c.args.key.now asked at_key reads c.in_default.ensures

pub returns : goal.returns
returns g c = λ digest kinds logs before node asked held kept leads declares at_key reads.
    let R = g.T.Replica in
    let D = delta_groups R.data_type digest in
    let id = c.args.self.now.id in
    let keys = c.args.self.now.keys.items in
    let changes = c.args.changes.now in
    let key = c.args.key.now in
    let index = c.in-Some.index in
    let at = c.index.result.now in
    let change = get_or changes index None in
    let mine = c.current-entry.result.now in
    let found = position-found (λ state. bytes_eq state.name key) keys index c.in-Some.ensures in
    let is : change ≡ get_or changes index change = get_or_default changes index None change (let inside = found.within in let counted = c.requires in omega arith) in
    let stands = read_stands D R.kind_of R.IsDataOf kinds logs id keys before held changes kept node leads declares key asked at_key reads index at change found c.index.ensures is mine c.current-entry.ensures in
    IfOk-weaker c.read_result.result
    (λ (end : OperationResult). result_meant end ≡ read_result D (if has_records (node.entries at.name) then Some (meaning R.data_type (R.kind_of mine.value) (node.entries at.name).history) else None))
    (λ (end : OperationResult). result_meant end ≡ result_of D node asked)
    (λ end ends. read_found D R.kind_of R.IsDataOf kinds logs id keys before held changes kept node leads declares key asked at_key reads index at change found c.index.ensures is mine c.current-entry.ensures (result_meant end) ends)
    (c.read_result.ensures digest (logs at.name) (node.entries at.name) stands)
