-- What a member holds of a key that is looked up.
use Rattle.std.proofs.Common.{◌≡◌, ℕ, suc, ◌<◌, List, [], ◌∷◌, length, get_or, Bool, true, false, Option, Some, None, Result, Ok, Err, IfOk, refl, ap, sym, ◌∙◌, subst, arith}
use Rattle.std.specs.Prelude.{find, option_map, if◌then◌else◌}
use Rattle.std.specs.Str.{bytes_eq}
use Rattle.model_history.specs.Texts.{Text}
use Rattle.model_history.specs.History.{History}
use Rattle.model_members.proofs.Steps.{bytes_eq-tells}
use Rattle.model_members.specs.DataType.{meaning}
use Rattle.model_members.specs.Entry.{Entry}
use Rattle.model_members.specs.Node as nodes
use Rattle.model_kinds.specs.declared.shown.Shown.{Shown}
use Rattle.data_lattice.specs.declared.replica.Replica.{Ghosts}
use Rattle.data_envelope.specs.declared.envelope.Envelope.{Envelope}
use Rattle.data_envelope.specs.Images.{StandsFor}
use Rattle.data_envelope.specs.Words.{parts_of}
use Rattle.member_keeper.specs.declared.keeper.Keeper.{Ghosts as Keeping}
use Rattle.member_messages.specs.Standing.{StandsForEntry}
use Rattle.member_node.specs.Keys.{declared_by}
use Rattle.member_node.specs.Members.{StandsForKey, StandsForNode}
use Rattle.member_node.specs.declared.key.KeyState.{KeyState}
use Rattle.member_node.specs.declared.node.Node.{Node}
use Rattle.member_node.proofs.Standing.{undeclared, find-map}
use Rattle.member_desk.specs.declared.followed.Followed.{Followed}
use Rattle.member_desk.specs.declared.look.Told.{Told}
use Rattle.member_desk.specs.declared.look.Look.{Look}
use Rattle.member_desk.specs.declared.look.Look.TheVariants.{Nothing}
use Rattle.member_desk.specs.Looks.{found_by}
use Rattle.member_desk.specs.Histories.{shown_as, shows_history, history_of, held_at, LooksAt, StandsForTold}
use Rattle.member_desk.specs.Members.{IsLook}
use Rattle.member_desk.proofs.Looking.{look_tells}

-- what a search finds stands at a place, and passes
pub record IsFoundAt {X : Type 0} (p : X → Bool) (xs : List X) (x : X) : Type 0 where
  pub place : ℕ
  pub within : place < length xs
  pub here : x ≡ get_or xs place x
  pub passes : p x ≡ true

pub found_at : {X : Type 0} (p : X → Bool) (xs : List X) (x : X) → find p xs ≡ Some x → IsFoundAt p xs x
found_at p [] x e = absurd (cc e)
found_at p (y ∷ ys) x e = go (p y) refl e (λ e'. found_at p ys x e')
  where
    go : (b : Bool) → p y ≡ b → (if b then Some y else find p ys) ≡ Some x → (find p ys ≡ Some x → IsFoundAt p ys x) → IsFoundAt p (y ∷ ys) x
    go true is e' later = let same : y ≡ x = cc e' in record { place = 0; within = omega arith; here = sym same; passes = subst (λ z. p z ≡ true) same is }
    go false is e' later = let rest = later e' in record { place = suc rest.place; within = (let w = rest.within in omega arith); here = rest.here; passes = rest.passes }

module _ {T K Kind Op Delta : Type 0} {ghosts : Ghosts T Kind Op Delta} {keeping : Keeping K} (code : Node T K Kind Op Delta ghosts keeping) (key : Text) where
  abbrev pub is_key : KeyState T Kind Op Delta → Bool
  is_key state = bytes_eq state.name key

  abbrev pub entry_found : Option (KeyState T Kind Op Delta) → Option (Envelope T Kind Op Delta)
  entry_found found = option_map (λ (state : KeyState T Kind Op Delta). state.entry) found

  -- the key that was found
  state_of_entry : (found : Option (KeyState T Kind Op Delta)) (entry : Envelope T Kind Op Delta) → Some entry ≡ entry_found found → (state : KeyState T Kind Op Delta) × (found ≡ Some state) × (entry ≡ state.entry)
  state_of_entry None entry e = absurd (cc e)
  state_of_entry (Some state) entry e = (state, refl, cc e)

  nothing_found : (found : Option (KeyState T Kind Op Delta)) → None ≡ entry_found found → found ≡ None
  nothing_found None e = refl
  nothing_found (Some state) e = absurd (cc e)

  module _ (kinds : Text → Kind) (logs : Text → History Op) (node : nodes.Node Kind Op Shown) (s : StandsForNode ghosts.kind_of ghosts.IsDataOf kinds logs code node) where
    -- of a declared key the member holds what its envelope stands for
    pub record IsHeld (entry : Envelope T Kind Op Delta) : Type 0 where
      pub held : StandsForEntry ghosts.kind_of ghosts.IsDataOf kinds logs key entry (node.entries key)
      pub is : held_at node key ≡ history_of (node.entries key)

    abbrev is_declared : nodes.KeyDecl Kind → Bool
    is_declared decl = bytes_eq decl.name key

    abbrev held_by : Option (nodes.KeyDecl Kind) → Option (History Op)
    held_by found = elim found [ None ↦ None | Some decl ↦ history_of (node.entries key) ]

    pub held_of_entry : (entry : Envelope T Kind Op Delta) → Some entry ≡ entry_found (find is_key code.keys.items) → IsHeld entry
    held_of_entry entry e =
        let f = state_of_entry (find is_key code.keys.items) entry e in
        let at = found_at is_key code.keys.items f.0 f.1 in
        let stands = subst (λ (state : KeyState T Kind Op Delta). StandsForKey ghosts.kind_of ghosts.IsDataOf ghosts.IsDeltaOf kinds logs state (node.entries state.name) (node.flushed state.name)) (sym at.here) (s.entries at.place f.0 at.within) in
        let name : f.0.name ≡ key = bytes_eq-tells f.0.name key at.passes in
        let declares = ap (find is_declared) s.keys ∙ find-map is_declared declared_by code.keys.items ∙ ap (option_map declared_by) f.1 in
        let named = subst (λ (name : Text). StandsForEntry ghosts.kind_of ghosts.IsDataOf kinds logs name f.0.entry (node.entries name)) name stands.held in
        record {
          held = subst (λ (e : Envelope T Kind Op Delta). StandsForEntry ghosts.kind_of ghosts.IsDataOf kinds logs key e (node.entries key)) (sym f.2) named;
          is = ap held_by declares;
        }

    -- and of another key nothing
    pub nothing_held : None ≡ entry_found (find is_key code.keys.items) → held_at node key ≡ None
    nothing_held e = ap held_by (undeclared ghosts.kind_of ghosts.IsDataOf kinds logs code node s key (nothing_found (find is_key code.keys.items) e))

-- WHAT A LOOK FINDS

module _ {T K Kind Op Delta : Type 0} {ghosts : Ghosts T Kind Op Delta} {keeping : Keeping K} (code : Node T K Kind Op Delta ghosts keeping) (followed : Followed Told) where
  pub no_look : None ≡ entry_found code followed.key (find (is_key code followed.key) code.keys.items) → IsLook code followed Nothing
  no_look e kinds logs node told s t =
      subst (λ (held : Option (History Op)). StandsForTold (shows_history ghosts.data_type kinds followed.key) (logs followed.key) None held)
      (sym (nothing_held code followed.key kinds logs node s e)) tt

  -- a look at the entry that was found
  abbrev pub IsLookOf : {E : Type 0} → Envelope T Kind Op Delta → Result Look E → Type 0
  IsLookOf entry result = (log : History Op) (held : Entry Op) → StandsFor ghosts.IsDataOf (parts_of entry) log held
      → IfOk result (LooksAt (λ history. shown_as (meaning ghosts.data_type (ghosts.kind_of entry.value) history)) followed.told held)

  pub look_at_entry : {E : Type 0} (entry : Envelope T Kind Op Delta) (result : Result Look E) → Some entry ≡ entry_found code followed.key (find (is_key code followed.key) code.keys.items) → IsLookOf entry result → IfOk result (IsLook code followed)
  look_at_entry entry (Err error) found says = tt
  look_at_entry entry (Ok look) found says = λ kinds logs node told s t.
      let h = held_of_entry code followed.key kinds logs node s entry found in
      let finds = subst (λ (kind : Kind). LooksAt (λ history. shown_as (meaning ghosts.data_type kind history)) followed.told (node.entries followed.key) look) h.held.kind (says (logs followed.key) (node.entries followed.key) h.held.image) in
      subst (λ (held : Option (History Op)). StandsForTold (shows_history ghosts.data_type kinds followed.key) (logs followed.key) (found_by followed.told look) held) (sym h.is)
      (look_tells (shows_history ghosts.data_type kinds followed.key) (logs followed.key) (node.entries followed.key) followed.told told look h.held.image.taken.part finds t)
