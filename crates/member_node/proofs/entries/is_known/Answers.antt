use Rattle.std.proofs.Common.{◌≡◌, ◌↔◌, ℕ, ◌<◌, List, length, get_or, Bool, true, false, Some, IsTrue, bytes_eq, refl, sym, ap, ◌∙◌, subst, rules}
use Rattle.std.proofs.lemmas.List.{get_or_default}
use Rattle.member_node.proofs.Common.{Ghosts, Envelope, Keyed, KeyState, IsEntryPassedOver, AreOfTheirKinds, AreDistinctKeys, bytes_eq-tells}
use Rattle.member_node.proofs.Lists.{IsFound, position-found, position-none}
use Rattle.member_node.proofs.Standing.{slice_get-map}
use Rattle.member_node.proofs.TakingSteps.{passed_none}
use Rattle.member_node.proofs.entries.is_known.Goals as goal

module _ {T Kind Op Delta : Type 0} (ghosts : Ghosts T Kind Op Delta) (keys : List (KeyState T Kind Op Delta)) (keyed : Keyed (Envelope T Kind Op Delta)) where
  abbrev is_name : KeyState T Kind Op Delta → Bool
  is_name state = bytes_eq state.name keyed.key

  abbrev name_of : KeyState T Kind Op Delta → List ℕ
  name_of state = state.name

  -- a key that is, by its kind
  module _ (of_kinds : AreOfTheirKinds ghosts.kind_of keys) (distinct : AreDistinctKeys keys) (index : ℕ) (at : KeyState T Kind Op Delta) (found : IsFound is_name keys index) (is : at ≡ get_or keys index at) where
    kind_at : ghosts.kind_of at.entry.value ≡ at.kind
    kind_at = subst (λ (state : KeyState T Kind Op Delta). ghosts.kind_of state.entry.value ≡ state.kind) (sym is) (of_kinds index at found.within)

    named : (get_or keys index at).name ≡ keyed.key
    named = bytes_eq-tells (get_or keys index at).name keyed.key (found.passes at)

    passed_other : (at.kind ≡ ghosts.kind_of keyed.item.value → ⊥) → IsEntryPassedOver ghosts keys keyed
    passed_other other k d within same kind =
        let place : k ≡ index = distinct k index keyed.key (slice_get-map name_of keys k d within ∙ ap Some same) (slice_get-map name_of keys index at found.within ∙ ap Some named) in
        let here : get_or keys k d ≡ at = ap (λ j. get_or keys j d) place ∙ sym (get_or_default keys index at d found.within) ∙ sym is in
        other (sym (ap (λ (state : KeyState T Kind Op Delta). state.kind) here) ∙ kind)

    passed_kind : IsEntryPassedOver ghosts keys keyed → at.kind ≡ ghosts.kind_of keyed.item.value → ⊥
    passed_kind passed kind = passed index at found.within named (sym (ap (λ (state : KeyState T Kind Op Delta). state.kind) is) ∙ kind)

    passed_by : (x y : Kind) → x ≡ ghosts.kind_of at.entry.value → y ≡ ghosts.kind_of keyed.item.value → (b : Bool) → IsTrue b ↔ (x ≡ y) → (b ≡ false) ↔ IsEntryPassedOver ghosts keys keyed
    passed_by x y mine theirs true tells = (λ no. absurd (cc no), λ passed. absurd (passed_kind passed (sym kind_at ∙ sym mine ∙ tells.0 refl ∙ theirs)))
    passed_by x y mine theirs false tells = (λ no. passed_other (λ kind. let yes = tells.1 (mine ∙ kind_at ∙ kind ∙ sym theirs) in cc yes), λ passed. refl)

pub returns-in-Some : goal.returns-in-Some
returns-in-Some g c =
    let R = g.T.Replica in
    let found = position-found (λ state. bytes_eq state.name c.args.key.now) c.args.keys.now c.in-Some.index c.in-Some.ensures in
    passed_by R c.args.keys.now (record { key = c.args.key.now; item = c.args.envelope.now }) c.requires.of_kinds c.requires.distinct c.in-Some.index c.index-keys-index.result found c.index-keys-index.is
    (R.kind_of c.value-value.result.now) (R.kind_of c.value.result.now) (ap R.kind_of (c.value-value.ensures ∙ ap (λ e. e.value) c.envelope.ensures ∙ sym (ap (λ state. state.entry.value) c.index-keys-index.is))) (ap R.kind_of c.value.ensures) c.same_kind.result c.same_kind.ensures

pub returns-in-None : goal.returns-in-None
returns-in-None g c =
    let none = position-none (λ state. bytes_eq state.name c.args.key.now) c.args.keys.now c.in-None.ensures in
    (λ no. passed_none g.T.Replica c.args.keys.now (record { key = c.args.key.now; item = c.args.envelope.now }) none, λ passed. refl)

pub bounds-keys-index : goal.bounds-keys-index
bounds-keys-index g c = (position-found (λ state. bytes_eq state.name c.args.key.now) c.args.keys.now c.in-Some.index c.in-Some.ensures).within

pub offset_bounds-keys-index : goal.offset_bounds-keys-index
offset_bounds-keys-index g c =
    let found = position-found (λ state. bytes_eq state.name c.args.key.now) c.args.keys.now c.in-Some.index c.in-Some.ensures in
    let inside : c.in-Some.index < length c.args.keys.now = found.within in
    search rules
