-- Show lines leave the state of a trace as it is; a running member's is lawful, and so are all at the end.
use Rattle.std.proofs.Common.{◌≡◌, ℕ, zero, suc, List, [], ◌∷◌, map, refl, sym, ap, subst, ◌∙◌, arith, Bool, true, false, Option, Some, None, inl, inr}
use Rattle.std.specs.Prelude.{if◌then◌else◌, ◌||◌, nat_lt}
use Rattle.std.specs.List.{list_any}
use Rattle.std.specs.Str.{bytes_eq}
use Rattle.std.proofs.lemmas.Bool.{ltb-true}
use Rattle.std.proofs.lemmas.Bool.Decides.{eqb_tells}
use Rattle.std.proofs.lemmas.Slice.Eq.{bytes_eq-Decides}
use Rattle.model_history.specs.Table.{identity_limit, identities, with_at}
use Rattle.model_history.specs.Texts.{Text}
use Rattle.model_history.specs.History.{History, at, IsExactlyPruned}
use Rattle.model_history.proofs.HistoryLaws.{with_at_same, with_at_other}
use Rattle.model_history.proofs.PruneLaws.{IsIn, in_tail, in_flat_map, in_range}
use Rattle.model_members.specs.View.{identities_of}
use Rattle.model_members.specs.Entry.{Entry, has_records}
use Rattle.model_members.specs.DataType.{Replication, meaning}
use Rattle.model_members.specs.Node.{KeyDecl, KeyState, Node, state_of, key_states, with_text_at}
use Rattle.model_members.specs.World.{World}
use Rattle.model_traces.specs.Traces.{TraceLine, TraceState, after_line, after_lines, AreLawful, broken_rule, is_none, meaning_text}
use Rattle.model_traces.specs.Traces.Act.{Shows}
use Rattle.model_traces.specs.Runs.{line_of, show_line, of_node, of_members}
use Rattle.model_traces.proofs.Tests.{is_none_not}
use Rattle.model_traces.proofs.Lines.{of_declared, show_lawful}
use Rattle.theorem_traces.proofs.Holding.{IsDeclared, Agrees, IsSound}

-- LISTS

any_tells : {X : Type 0} (p : X → Bool) (xs : List X) → list_any p xs ≡ true → (x : X) × IsIn xs x × (p x ≡ true)
any_tells p [] e = absurd (cc e)
any_tells p (x ∷ xs) e = go (p x) refl e (any_tells p xs)
  where
    go : (b : Bool) → p x ≡ b → (b || list_any p xs) ≡ true → (list_any p xs ≡ true → (y : _) × IsIn xs y × (p y ≡ true)) → (y : _) × IsIn (x ∷ xs) y × (p y ≡ true)
    go true is e' later = (x, (0, refl), is)
    go false is e' later = let h = later e' in (h.0, in_tail x xs h.0 h.1, h.2)

pub in_map : {X Y : Type 0} (f : X → Y) (xs : List X) (y : Y) → IsIn (map f xs) y → (x : X) × IsIn xs x × (f x ≡ y)
in_map f [] y h = absurd (cc h.1)
in_map f (x ∷ xs) y (zero, e) = (x, (0, refl), (let same : f x ≡ y = cc e in same))
in_map f (x ∷ xs) y (suc k, e) = let h = in_map f xs y (k, e) in (h.0, in_tail x xs h.0 h.1, h.2)

pub some_records : {Op : Type 0} (entry : Entry Op) → has_records entry ≡ true → is_none entry.history ≡ false
some_records entry e =
    let h = any_tells (λ i. nat_lt 0 (at entry.history i)) identities e in
    is_none_not entry.history h.0 (let r = in_range 0 identity_limit h.0 h.1 in omega (arith, r.1)) (ltb-true 0 (at entry.history h.0) h.2)

-- NOTHING CHANGES

module _ {Op : Type 0} (state : TraceState Op) (i : ℕ) (key : Text) (text : Text) where
  same_at : {X : Type 0} (f : Text → X) (other : Text) → with_text_at f key (f key) other ≡ f other
  same_at f other = go (bytes_eq other key) refl
    where
      go : (b : Bool) → bytes_eq other key ≡ b → (if b then f key else f other) ≡ f other
      go true e = ap f (sym ((bytes_eq-Decides other key).0 e))
      go false e = refl

  same_row : (j : ℕ) (other : Text) → with_at state.held i (with_text_at (state.held i) key (state.held i key)) j other ≡ state.held j other
  same_row j other = elim (eqb_tells j i) [
    | inl is ↦
        ap (λ k. with_at state.held i (with_text_at (state.held i) key (state.held i key)) k other) is.1 ∙ ap (λ (f : Text → History Op). f other) (with_at_same state.held i (with_text_at (state.held i) key (state.held i key)))
        ∙ same_at (state.held i) other ∙ ap (λ k. state.held k other) (sym is.1)
    | inr isnt ↦ ap (λ (f : Text → History Op). f other) (with_at_other state.held i (with_text_at (state.held i) key (state.held i key)) j isnt.1)
  ]

  pub show_leaves : after_line state (line_of i key (Shows text)) ≡ state
  show_leaves = λ k. record { made = λ other. same_at state.made other k; held = λ j other. same_row j other k }

module _ {Kind Op Shown : Type 0} (D : Replication Kind Op Shown) (value_text : Shown → Text) (keys : List (KeyDecl Kind)) (state : TraceState Op) where
  -- a lawful line that shows
  pub data IsLawfulShow : TraceLine Op → Type 0 where
    LawfulShow : (i : ℕ) (key text : Text) → broken_rule D.data_type value_text keys state (line_of i key (Shows text)) ≡ None → IsLawfulShow (line_of i key (Shows text))

  pub record AreShows (lines : List (TraceLine Op)) : Type 0 where
    pub lawful : AreLawful D.data_type value_text keys state lines
    pub leaves : after_lines state lines ≡ state

  pub shows_lawful : (lines : List (TraceLine Op)) → ((line : TraceLine Op) → IsIn lines line → IsLawfulShow line) → AreShows lines
  shows_lawful [] all = record { lawful = tt; leaves = refl }
  shows_lawful (line ∷ lines) all = go line (all line (0, refl)) (shows_lawful lines (λ l h. all l (in_tail line lines l h)))
    where
      go : (line : TraceLine Op) → IsLawfulShow line → AreShows lines → AreShows (line ∷ lines)
      go _ (LawfulShow i key text none) rest =
          let same = show_leaves state i key text in
          record {
            lawful = (none, subst (λ s. AreLawful D.data_type value_text keys s lines) (sym same) rest.lawful);
            leaves = ap (λ s. after_lines s lines) same ∙ rest.leaves;
          }

  module _ (world : World Kind Op Shown) (sound : IsSound keys world) (agrees : Agrees keys state world) where
    -- a running member shows what it holds
    pub member_shows : (i : ℕ) (node : Node Kind Op Shown) (decl : KeyDecl Kind) → world.nodes i ≡ Some node → IsDeclared keys decl → has_records (node.entries decl.name) ≡ true
        → IsLawfulShow (line_of i decl.name (Shows (meaning_text value_text (meaning D.data_type decl.kind (node.entries decl.name).history))))
    member_shows i node decl runs is some =
        let J = (node.entries decl.name).history in
        let text = meaning_text value_text (meaning D.data_type decl.kind J) in
        let held = agrees.held i node decl runs is in
        LawfulShow i decl.name text
        (of_declared D.data_type value_text keys state (line_of i decl.name (Shows text)) decl is
        (show_lawful D.data_type value_text decl.kind (state.made decl.name) i (state.held i decl.name) text (ap is_none held ∙ some_records (node.entries decl.name) some)
        (ap (λ (H : History Op). meaning_text value_text (meaning D.data_type decl.kind H)) held) (subst IsExactlyPruned (sym held) (sound.exact i node decl.name runs))))

    key_shows : (i : ℕ) (node : Node Kind Op Shown) (decl : KeyDecl Kind) → world.nodes i ≡ Some node → IsDeclared keys decl → (line : TraceLine Op) → IsIn (show_line D value_text i (state_of node decl)) line → IsLawfulShow line
    key_shows i node decl runs is line h = go (has_records (node.entries decl.name)) refl h
      where
        go : (b : Bool) → has_records (node.entries decl.name) ≡ b → IsIn (if b then line_of i decl.name (Shows (meaning_text value_text (meaning D.data_type decl.kind (node.entries decl.name).history))) ∷ [] else []) line → IsLawfulShow line
        go true e (zero, m) = let same : line_of i decl.name (Shows (meaning_text value_text (meaning D.data_type decl.kind (node.entries decl.name).history))) ≡ line = cc m in subst IsLawfulShow same (member_shows i node decl runs is e)
        go true e (suc k, m) = absurd (cc m)
        go false e m = absurd (cc m.1)

    node_shows : (declared : (d : KeyDecl Kind) → IsIn keys d → IsDeclared keys d) (i : ℕ) (o : Option (Node Kind Op Shown)) → world.nodes i ≡ o → (line : TraceLine Op) → IsIn (of_node (show_line D value_text) i o) line → IsLawfulShow line
    node_shows declared i None e line h = absurd (cc h.1)
    node_shows declared i (Some node) e line h =
        let k = in_flat_map (show_line D value_text i) (key_states node) line h in
        let d = in_map (state_of node) node.keys k.0 k.1 in
        key_shows i node d.0 e (declared d.0 (subst (λ ks. IsIn ks d.0) (sound.keys_are i node e) d.1)) line (subst (λ (x : KeyState Kind Op). IsIn (show_line D value_text i x) line) (sym d.2) k.2)

    -- what all show at the end
    pub end_shows : ((d : KeyDecl Kind) → IsIn keys d → IsDeclared keys d) → AreShows (of_members (show_line D value_text) world)
    end_shows declared =
        shows_lawful (of_members (show_line D value_text) world)
        (λ line h. let m = in_flat_map (λ i. of_node (show_line D value_text) i (world.nodes i)) (identities_of world.view) line h in node_shows declared m.0 (world.nodes m.0) refl line m.2)
