-- What members hold is told as in the model's final block.
use Rattle.std.proofs.Common.{◌≡◌, ℕ, ◌+◌, ◌<◌, List, [], ◌∷◌, ◌++◌, length, map, flat_map, take, get_or, Bool, None, Some, refl, sym, ap, ap₂, subst, ◌∙◌, append_assoc, arith, length-append}
use Rattle.std.specs.Prelude.{codes, unwrap_or, option_map, slice_index_or, ◌-◌}
use Rattle.std.proofs.lemmas.List.{take_more, append-nil, get_or-append-add}
use Rattle.std.proofs.lemmas.Grind.{flat_map-append}
use Rattle.model_history.specs.Texts.{Text}
use Rattle.model_history.specs.Vector.{VersionVector, IdentitySet}
use Rattle.model_history.specs.History.{History}
use Rattle.model_members.specs.Entry.{Entry}
use Rattle.model_members.specs.DataType.{DataType, Replication}
use Rattle.model_members.specs.View.{View, Member}
use Rattle.member_views.specs.Views.{first_view}
use Rattle.member_views.specs.Sound.{last_view}
use Rattle.model_members.specs.Node as nodes
use Rattle.model_members.specs.Node.{key_states, state_of}
use Rattle.model_members.specs.World as worlds
use Rattle.model_members.specs.Report.{line_of, words, key_text, node_text, member_text, final_block}
use Rattle.model_kinds.specs.ShownText.{shown_text}
use Rattle.model_kinds.specs.declared.shown.Shown.{Shown}
use Rattle.data_lattice.specs.declared.replica.Replica.{Ghosts}
use Rattle.member_keeper.specs.declared.keeper.Keeper.{Ghosts as Keeping}
use Rattle.member_node.specs.declared.key.KeyState.{KeyState}
use Rattle.member_node.specs.declared.node.Node.{Node}
use Rattle.member_node.specs.Members.{delta_groups, declared_by, StandsForKey, StandsForNode}
use Rattle.report_texts.specs.Entries.{has_records, value_text, known_text, marks_text}
use Rattle.report_lines.specs.Finals.{key_line, member_line, view_line}

-- TEXTS THAT GROW

pub seven_more : (t0 t1 t2 t3 t4 t5 t6 t7 a b c d e f g : List ℕ) → t1 ≡ t0 ++ a → t2 ≡ t1 ++ b → t3 ≡ t2 ++ c → t4 ≡ t3 ++ d → t5 ≡ t4 ++ e → t6 ≡ t5 ++ f → t7 ≡ t6 ++ g → t7 ≡ t0 ++ (a ++ b ++ c ++ d ++ e ++ f ++ g)
seven_more t0 t1 t2 t3 t4 t5 t6 t7 a b c d e f g p q r s t u v =
    let all : t7 ≡ t0 ++ a ++ b ++ c ++ d ++ e ++ f ++ g = rw (v, u, t, s, r, q, p) refl in
    all ∙ simp append_assoc

-- one more item's text
pub grown_by_one : {X : Type 0} (f : X → List ℕ) (xs : List X) (i : ℕ) (x : X) (start old new text : List ℕ) → i < length xs → x ≡ get_or xs i x → old ≡ start ++ flat_map f (take i xs) → new ≡ old ++ text → text ≡ f x → new ≡ start ++ flat_map f (take (i + 1) xs)
grown_by_one f xs i x start old new text here is before grown told =
    grown ∙ ap₂ (λ (a b : List ℕ). a ++ b) before (told ∙ ap f is) ∙ append_assoc start (flat_map f (take i xs)) (f (get_or xs i x))
    ∙ ap (λ t. start ++ (flat_map f (take i xs) ++ t)) (sym (append-nil (f (get_or xs i x)))) ∙ ap (λ t. start ++ t) (sym (flat_map-append f (take i xs) (get_or xs i x ∷ [])))
    ∙ ap (λ ys. start ++ flat_map f ys) (sym (take_more xs i x here))

-- KEYS

words_of_six : (a b c d e f : Text) → words (a ∷ b ∷ c ∷ d ∷ e ∷ f ∷ []) ≡ a ++ codes " " ++ b ++ (32 ∷ (c ++ codes " ")) ++ d ++ (32 ∷ (e ++ codes " ")) ++ f
words_of_six a b c d e f = simp append_assoc

key_told : {Kind Op : Type 0} (data_type : DataType Kind Op Shown) (digest : Kind → Entry Op → List ℕ) (name : Text) (kind : Kind) (durable : Bool) (entry : Entry Op)
    → key_line data_type name kind entry ≡ key_text (delta_groups data_type digest) shown_text (record { name = name; kind = kind; durable = durable; entry = entry })
unfolding has_records known_text marks_text
key_told data_type digest name kind durable entry =
    ap line_of (sym (words_of_six name (value_text (data_type.shown kind) entry) (codes "known") (known_text entry) (codes "marks") (marks_text entry)))

module _ {T Kind Op Delta : Type 0} (data_type : DataType Kind Op Shown) where
  -- the line of a key that a member holds
  abbrev pub held_line : nodes.Node Kind Op Shown → KeyState T Kind Op Delta → Text
  held_line node state = key_line data_type state.name state.kind (node.entries state.name)

  keys_told : (digest : Kind → Entry Op → List ℕ) (node : nodes.Node Kind Op Shown) (states : List (KeyState T Kind Op Delta))
      → flat_map (held_line node) states ≡ flat_map (key_text (delta_groups data_type digest) shown_text) (map (state_of node) (map declared_by states))
  keys_told digest node [] = refl
  keys_told digest node (state ∷ states) = ap₂ (λ (a b : Text). a ++ b) (key_told data_type digest state.name state.kind state.durable (node.entries state.name)) (keys_told digest node states)

-- MEMBERS

module _ {T K Kind Op Delta : Type 0} {ghosts : Ghosts T Kind Op Delta} {keeping : Keeping K} (kind_of : T → Kind) (IsDataOf : T → History Op → VersionVector → IdentitySet → Type 0) (kinds : Text → Kind) (logs : Text → History Op) where
  -- a key of a member
  pub key_stands : (code : Node T K Kind Op Delta ghosts keeping) (node : nodes.Node Kind Op Shown) (states : List (KeyState T Kind Op Delta)) (i : ℕ) (state : KeyState T Kind Op Delta) → StandsForNode kind_of IsDataOf kinds logs code node → states ≡ code.keys.items → i < length states → state ≡ get_or states i state
      → StandsForKey kind_of IsDataOf ghosts.IsDeltaOf kinds logs state (node.entries state.name) (node.flushed state.name)
  key_stands code node states i state stands same here is =
      let here' : i < length code.keys.items = subst (λ (ss : List (KeyState T Kind Op Delta)). i < length ss) same here in
      let at : get_or code.keys.items i state ≡ state = ap (λ ss. get_or ss i state) (sym same) ∙ sym is in
      subst (λ (s : KeyState T Kind Op Delta). StandsForKey kind_of IsDataOf ghosts.IsDeltaOf kinds logs s (node.entries s.name) (node.flushed s.name)) at (stands.entries i state here')

module _ {T K Kind Op Delta : Type 0} {ghosts : Ghosts T Kind Op Delta} {keeping : Keeping K} (kind_of : T → Kind) (IsDataOf : T → History Op → VersionVector → IdentitySet → Type 0) (kinds : Text → Kind) (logs : Text → History Op) (data_type : DataType Kind Op Shown) (digest : Kind → Entry Op → List ℕ) where
  pub member_told : (place : ℕ) (code : Node T K Kind Op Delta ghosts keeping) (node : nodes.Node Kind Op Shown) (states : List (KeyState T Kind Op Delta)) (start mid new : List ℕ) → StandsForNode kind_of IsDataOf kinds logs code node
      → states ≡ code.keys.items → mid ≡ start ++ member_line code.id place code.view.number → new ≡ mid ++ flat_map (held_line data_type node) states → new ≡ start ++ node_text (delta_groups data_type digest) shown_text place node
  member_told place code node states start mid new stands same begun grown =
      let D = delta_groups data_type digest in
      let keys : map (state_of node) (map declared_by states) ≡ key_states node = ap (λ ss. map (state_of node) (map declared_by ss)) same ∙ ap (map (state_of node)) (sym stands.keys) in
      let told = keys_told data_type digest node states ∙ ap (flat_map (key_text D shown_text)) keys in
      grown ∙ ap₂ (λ (a b : List ℕ). a ++ b) (begun ∙ ap₂ (λ id view. start ++ member_line id place view) (sym stands.identity) (sym (ap (λ (v : View). v.number) stands.view))) told
      ∙ append_assoc start (member_line node.identity place node.view.number) (flat_map (key_text D shown_text) (key_states node))

-- THE LAST VIEW

-- the last view of the code's list is the world's
pub last_is : {Kind Op : Type 0} (world : worlds.World Kind Op Shown) (views : List View) → worlds.views_of world ≡ views → last_view views ≡ world.view
last_is world views same =
    let number : length world.earlier + 0 ≡ length (worlds.views_of world) - 1 = let n = length-append world.earlier (world.view ∷ []) in omega (arith, n) in
    ap last_view (sym same) ∙ ap (λ k. slice_index_or (worlds.views_of world) k (first_view 1)) (sym number) ∙ get_or-append-add world.earlier (world.view ∷ []) 0 (first_view 1)

module _ {Kind Op : Type 0} (D : Replication Kind Op Shown) (world : worlds.World Kind Op Shown) where
  -- a member that runs, and one that does not
  pub running_told : (member : Member) (node : nodes.Node Kind Op Shown) → world.nodes member.identity ≡ Some node → member_text D shown_text world member ≡ node_text D shown_text member.place node
  running_told member node is = ap (λ o. unwrap_or (option_map (node_text D shown_text member.place) o) []) is

  pub gone_told : (member : Member) → world.nodes member.identity ≡ None → member_text D shown_text world member ≡ []
  gone_told member is = ap (λ o. unwrap_or (option_map (node_text D shown_text member.place) o) []) is

  -- all members
  pub block_told : (view : View) (start mid new : List ℕ) → world.view ≡ view → mid ≡ start ++ view_line view.number → new ≡ mid ++ flat_map (member_text D shown_text world) view.members → new ≡ start ++ final_block D shown_text world
  block_told view start mid new same begun grown =
      grown ∙ ap (λ t. t ++ flat_map (member_text D shown_text world) view.members) begun ∙ append_assoc start (view_line view.number) (flat_map (member_text D shown_text world) view.members)
      ∙ ap (λ (v : View). start ++ (view_line v.number ++ flat_map (member_text D shown_text world) v.members)) (sym same)
