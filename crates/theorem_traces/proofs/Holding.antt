-- The hold lines of a step: each is lawful, and after them the trace's state is what running members hold.
--     Agrees        the state is that of the world: all records made, and what each running member holds of each declared key
--     Trails        what a member holds in the state may be less
use Rattle.std.proofs.Common.{◌≡◌, ◌≢◌, ℕ, zero, suc, ◌≤◌, List, [], ◌∷◌, ◌++◌, length, map, refl, sym, ap, subst, ◌∙◌, arith, Bool, true, false, Option, Some, None, ◌⊎◌, inl, inr}
use Rattle.std.specs.Prelude.{if◌then◌else◌, find, flat_map, ◌==◌, ◌||◌}
use Rattle.std.specs.List.{list_any}
use Rattle.std.specs.Str.{bytes_eq}
use Rattle.std.proofs.lemmas.Bool.{eqb-true, cases_lt}
use Rattle.std.proofs.lemmas.Bool.Decides.{eqb_tells}
use Rattle.std.proofs.lemmas.Slice.Eq.{bytes_eq-Decides}
use Rattle.model_history.specs.Table.{identity_limit, identities}
use Rattle.model_history.specs.Texts.{Text}
use Rattle.model_history.specs.Log.{IsTakenFrom}
use Rattle.model_history.specs.History.{History, at, versions, no_records, IsPartOf, IsExactlyPruned}
use Rattle.model_history.proofs.HistoryLaws.{same_part}
use Rattle.model_history.proofs.PartLaws.{part-le}
use Rattle.model_history.proofs.PruneLaws.{IsIn, in_tail, at_identities}
use Rattle.model_history.proofs.Bridge.{cut_of_part}
use Rattle.model_members.specs.View.{identities_of, is_member}
use Rattle.model_members.specs.DataType.{DataType}
use Rattle.model_members.specs.Node.{KeyDecl, Node, state_of}
use Rattle.model_members.specs.World.{World}
use Rattle.theorem_runs.specs.Logs.{HasLogs}
use Rattle.theorem_runs.proofs.Growth.{part_same}
use Rattle.theorem_runs.proofs.RunViews.{same_some}
use Rattle.model_traces.specs.Traces.{TraceLine, TraceState, after_line, after_lines, AreLawful}
use Rattle.model_traces.specs.Traces.Act.{Holds}
use Rattle.model_traces.specs.Runs.{line_of, counts_alike, hold_line, of_node, of_members}
use Rattle.model_traces.proofs.Tests.{each_passes}
use Rattle.model_traces.proofs.Lines.{lawful_both, after_both, made_here, made_there, held_here, held_of_another, held_there, of_declared, hold_lawful}

-- the key is found by its name
abbrev pub IsDeclared : {Kind : Type 0} → List (KeyDecl Kind) → KeyDecl Kind → Type 0
IsDeclared keys decl = find (λ d. bytes_eq d.name decl.name) keys ≡ Some decl

pub found_among : {X : Type 0} (p : X → Bool) (xs : List X) (x : X) → find p xs ≡ Some x → IsIn xs x
found_among p [] x e = absurd (cc e)
found_among p (y ∷ xs) x e = go (p y) refl (λ e'. found_among p xs x e')
  where
    go : (b : Bool) → p y ≡ b → (find p xs ≡ Some x → IsIn xs x) → IsIn (y ∷ xs) x
    go true is later = let same : y ≡ x = (let e' = rw is at e in cc e') in (0, ap Some same)
    go false is later = in_tail y xs x (later (rw is at e))

any_is_in : (xs : List ℕ) (i : ℕ) → list_any (λ j. j == i) xs ≡ true → IsIn xs i
any_is_in [] i e = absurd (cc e)
any_is_in (j ∷ js) i e = elim (eqb_tells j i) [
  | inl is ↦ (0, ap Some is.1)
  | inr isnt ↦ in_tail j js i (any_is_in js i (ap (λ b. b || list_any (λ j. j == i) js) (sym isnt.0) ∙ e))
]

pub same_or_other : (a b : Text) → (a ≡ b) ⊎ (a ≢ b)
same_or_other a b = go (bytes_eq a b) refl
  where
    go : (t : Bool) → bytes_eq a b ≡ t → (a ≡ b) ⊎ (a ≢ b)
    go true e = inl ((bytes_eq-Decides a b).0 e)
    go false e = inr (λ same. absurd (let f = sym e ∙ (bytes_eq-Decides a b).1 same in cc f))

module _ {Kind Op Shown : Type 0} (keys : List (KeyDecl Kind)) where
  pub record Agrees (state : TraceState Op) (world : World Kind Op Shown) : Type 0 where
    pub logs : HasLogs state.made world
    pub held : (i : ℕ) (node : Node Kind Op Shown) (decl : KeyDecl Kind) → world.nodes i ≡ Some node → IsDeclared keys decl → state.held i decl.name ≡ (node.entries decl.name).history
    pub fresh : (i : ℕ) (key : Text) → world.view.given ≤ i → state.held i key ≡ no_records

  pub record Trails (state : TraceState Op) (world : World Kind Op Shown) : Type 0 where
    pub logs : HasLogs state.made world
    pub held : (i : ℕ) (node : Node Kind Op Shown) (decl : KeyDecl Kind) → world.nodes i ≡ Some node → IsDeclared keys decl → IsPartOf (state.held i decl.name) (node.entries decl.name).history
    pub fresh : (i : ℕ) (key : Text) → world.view.given ≤ i → state.held i key ≡ no_records

-- what holds of the histories of running members
pub record IsSound {Kind Op Shown : Type 0} (keys : List (KeyDecl Kind)) (world : World Kind Op Shown) : Type 0 where
  pub keys_are : (i : ℕ) (node : Node Kind Op Shown) → world.nodes i ≡ Some node → node.keys ≡ keys
  pub member : (i : ℕ) (node : Node Kind Op Shown) → world.nodes i ≡ Some node → is_member world.view i ≡ true
  pub exact : (i : ℕ) (node : Node Kind Op Shown) (key : Text) → world.nodes i ≡ Some node → IsExactlyPruned (node.entries key).history

module _ {Kind Op Shown : Type 0} (D : DataType Kind Op Shown) (value_text : Shown → Text) (keys : List (KeyDecl Kind)) (world : World Kind Op Shown) (sound : IsSound keys world) (first : TraceState Op) (trails : Trails keys first world) where
  -- what a member holds of a key in the world
  abbrev Has : Node Kind Op Shown → KeyDecl Kind → History Op
  Has node decl = (node.entries decl.name).history

  -- amid the hold lines: a member's history is as at first, or what the member holds
  record Midst (state : TraceState Op) : Type 0 where
    made : (key : Text) → state.made key ≡ first.made key
    held : (i : ℕ) (node : Node Kind Op Shown) (decl : KeyDecl Kind) → world.nodes i ≡ Some node → IsDeclared keys decl → (state.held i decl.name ≡ first.held i decl.name) ⊎ (state.held i decl.name ≡ Has node decl)
    fresh : (i : ℕ) (key : Text) → world.view.given ≤ i → state.held i key ≡ no_records

  -- who held what it holds still does
  abbrev Kept : TraceState Op → TraceState Op → Type 0
  Kept state later = (i : ℕ) (node : Node Kind Op Shown) (decl : KeyDecl Kind) → world.nodes i ≡ Some node → IsDeclared keys decl → state.held i decl.name ≡ Has node decl → later.held i decl.name ≡ Has node decl

  record Holding (state : TraceState Op) (lines : List (TraceLine Op)) (Done : TraceState Op → Type 0) : Type 0 where
    lawful : AreLawful D value_text keys state lines
    midst : Midst (after_lines state lines)
    kept : Kept state (after_lines state lines)
    done : Done (after_lines state lines)

  -- ONE LINE

  module _ (i : ℕ) (node : Node Kind Op Shown) (runs : world.nodes i ≡ Some node) (decl : KeyDecl Kind) (is : IsDeclared keys decl) where
    abbrev J : History Op
    J = Has node decl

    abbrev line : TraceLine Op
    line = line_of i decl.name (Holds (versions J))

    abbrev IsHeld : TraceState Op → Type 0
    IsHeld state = state.held i decl.name ≡ J

    taken : (state : TraceState Op) → Midst state → IsTakenFrom (state.made decl.name) J
    taken state midst = subst (λ G. IsTakenFrom G J) (sym (midst.made decl.name)) (trails.logs.held i node decl.name runs)

    part : (state : TraceState Op) → Midst state → IsPartOf (state.held i decl.name) J
    part state midst = elim (midst.held i node decl runs is) [
      | inl old ↦ subst (λ H. IsPartOf H J) (sym old) (trails.held i node decl runs is)
      | inr new ↦ subst (λ H. IsPartOf H J) (sym new) (part_same J)
    ]

    then_held : (state : TraceState Op) → Midst state → IsHeld (after_line state line)
    then_held state midst = held_here state line ∙ cut_of_part (state.made decl.name) J (taken state midst).part

    -- of another member or another key nothing changes
    of_others : (state : TraceState Op) → Midst state → (P : TraceState Op → (j : ℕ) → KeyDecl Kind → Node Kind Op Shown → Type 0) → ((j : ℕ) (d : KeyDecl Kind) (n : Node Kind Op Shown) → (after_line state line).held j d.name ≡ state.held j d.name → P (after_line state line) j d n)
        → ((j : ℕ) (d : KeyDecl Kind) (n : Node Kind Op Shown) → (after_line state line).held j d.name ≡ Has n d → P (after_line state line) j d n)
        → (j : ℕ) (n : Node Kind Op Shown) (d : KeyDecl Kind) → world.nodes j ≡ Some n → IsDeclared keys d → P (after_line state line) j d n
    of_others state midst P others here j n d runs' is' = elim (same_or_other d.name decl.name) [
      | inr other ↦ others j d n (held_there state line j d.name other)
      | inl name ↦ elim (eqb_tells j i) [
        | inr isnt ↦ others j d n (held_of_another state line j d.name isnt.1)
        | inl same ↦
            let nodes : n ≡ node = same_some (world.nodes j) n node runs' (ap world.nodes same.1 ∙ runs) in
            here j d n (ap (λ k. (after_line state line).held k d.name) same.1 ∙ ap ((after_line state line).held i) name ∙ then_held state midst
            ∙ ap (λ (x : Node Kind Op Shown). (x.entries decl.name).history) (sym nodes) ∙ ap (λ name. (n.entries name).history) (sym name))
      ]
    ]

    one_line : (state : TraceState Op) → Midst state → Holding state (line ∷ []) IsHeld
    one_line state midst =
        record {
          lawful = (of_declared D value_text keys state line decl is (hold_lawful D value_text decl.kind (state.made decl.name) i (state.held i decl.name) J (taken state midst) (part state midst) (sound.exact i node decl.name runs)), tt);
          midst = record {
            made = λ key. elim (same_or_other key decl.name) [ inl same ↦ ap (after_line state line).made same ∙ made_here state line ∙ midst.made decl.name ∙ ap first.made (sym same) | inr other ↦ made_there state line key other ∙ midst.made key ];
            held = λ j n d runs' is'. of_others state midst (λ later j d n. (state.held j d.name ≡ first.held j d.name) ⊎ (state.held j d.name ≡ Has n d) → (later.held j d.name ≡ first.held j d.name) ⊎ (later.held j d.name ≡ Has n d))
                (λ j d n e. elim_old (state.held j d.name) ((after_line state line).held j d.name) (first.held j d.name) (Has n d) e) (λ j d n e before. inr e) j n d runs' is' (midst.held j n d runs' is');
            fresh = λ j key h. held_of_another state line j key (λ e. absurd (let a = trails.logs.given i node runs in omega (arith, a, e))) ∙ midst.fresh j key h;
          };
          kept = λ j n d runs' is'. of_others state midst (λ later j d n. state.held j d.name ≡ Has n d → later.held j d.name ≡ Has n d) (λ j d n e before. e ∙ before) (λ j d n e before. e) j n d runs' is';
          done = then_held state midst;
        }
      where
        elim_old : (old new a b : History Op) → new ≡ old → (old ≡ a) ⊎ (old ≡ b) → (new ≡ a) ⊎ (new ≡ b)
        elim_old old new a b e (inl h) = inl (e ∙ h)
        elim_old old new a b e (inr h) = inr (e ∙ h)

    -- no line: it holds what it held at first
    no_line : (state : TraceState Op) → Midst state → counts_alike (versions (first.held i decl.name)) (versions J) ≡ true → Holding state [] IsHeld
    no_line state midst alike =
        record {
          lawful = tt;
          midst = midst;
          kept = λ j n d runs' is' e. e;
          done = elim (midst.held i node decl runs is) [ inl old ↦ old ∙ same_part J (first.held i decl.name) J (trails.held i node decl runs is) (part_same J) counts | inr new ↦ new ];
        }
      where
        beyond : (o : ℕ) → identity_limit ≤ o → at J o ≡ 0
        beyond o h = let a = part-le J (first.made decl.name) (trails.logs.held i node decl.name runs).part o in let b = ap length ((trails.logs.histories decl.name).within o h) in omega (arith, a, b)

        counts : (o : ℕ) → at (first.held i decl.name) o ≡ at J o
        counts o = elim (cases_lt o identity_limit) [
          | inl small ↦ eqb-true (at (first.held i decl.name) o) (at J o) (each_passes (λ i'. at (first.held i decl.name) i' == at J i') identities alike o (at_identities o small))
          | inr far ↦ let a = part-le (first.held i decl.name) J (trails.held i node decl runs is) o in let b = beyond o far in omega (arith, a, b)
        ]

    key_lines : (state : TraceState Op) → Midst state → Holding state (hold_line first i (state_of node decl)) IsHeld
    key_lines state midst = go (counts_alike (versions (first.held i decl.name)) (versions J)) refl
      where
        go : (b : Bool) → counts_alike (versions (first.held i decl.name)) (versions J) ≡ b → Holding state (if b then [] else line ∷ []) IsHeld
        go true e = no_line state midst e
        go false e = one_line state midst

  -- LINES ONE AFTER ANOTHER

  -- two lots of lines; what the first did stays done
  both : (state : TraceState Op) (xs ys : List (TraceLine Op)) (First Second : TraceState Op → Type 0) → (h : Holding state xs First) → Holding (after_lines state xs) ys Second → ((later : TraceState Op) → Kept (after_lines state xs) later → First (after_lines state xs) → First later)
      → Holding state (xs ++ ys) (λ later. First later × Second later)
  both state xs ys First Second h g stays =
      let same = after_both state xs ys in
      record {
        lawful = lawful_both D value_text keys state xs ys h.lawful g.lawful;
        midst = subst Midst (sym same) g.midst;
        kept = subst (Kept state) (sym same) (λ i node decl runs is e. g.kept i node decl runs is (h.kept i node decl runs is e));
        done = subst (λ later. First later × Second later) (sym same) (stays (after_lines (after_lines state xs) ys) g.kept h.done, g.done);
      }

  nothing : (state : TraceState Op) → Midst state → (Done : TraceState Op → Type 0) → Done state → Holding state [] Done
  nothing state midst Done done = record { lawful = tt; midst = midst; kept = λ i node decl runs is e. e; done = done }

  weaker : (state : TraceState Op) (xs : List (TraceLine Op)) (First Second : TraceState Op → Type 0) → ((later : TraceState Op) → First later → Second later) → Holding state xs First → Holding state xs Second
  weaker state xs First Second f h = record { lawful = h.lawful; midst = h.midst; kept = h.kept; done = f (after_lines state xs) h.done }

  abbrev HoldsAll : ℕ → Node Kind Op Shown → List (KeyDecl Kind) → TraceState Op → Type 0
  HoldsAll i node ks state = (d : KeyDecl Kind) → IsIn ks d → state.held i d.name ≡ Has node d

  holds_more : (i : ℕ) (node : Node Kind Op Shown) (d : KeyDecl Kind) (ks : List (KeyDecl Kind)) (state : TraceState Op) → (state.held i d.name ≡ Has node d) × HoldsAll i node ks state → HoldsAll i node (d ∷ ks) state
  holds_more i node d ks state h e (zero, is) = let same : d ≡ e = cc is in subst (λ (x : KeyDecl Kind). state.held i x.name ≡ Has node x) same h.0
  holds_more i node d ks state h e (suc k, is) = h.1 e (k, is)

  keys_lines : (i : ℕ) (node : Node Kind Op Shown) → world.nodes i ≡ Some node → (ks : List (KeyDecl Kind)) → ((d : KeyDecl Kind) → IsIn ks d → IsDeclared keys d) → (state : TraceState Op) → Midst state
      → Holding state (flat_map (hold_line first i) (map (state_of node) ks)) (HoldsAll i node ks)
  keys_lines i node runs [] declared state midst = nothing state midst (HoldsAll i node []) (λ d h. absurd (cc h.1))
  keys_lines i node runs (d ∷ ks) declared state midst =
      let is = declared d (0, refl) in
      let one = key_lines i node runs d is state midst in
      let lines = hold_line first i (state_of node d) in
      let more = keys_lines i node runs ks (λ e h. declared e (in_tail d ks e h)) (after_lines state lines) one.midst in
      weaker state (lines ++ flat_map (hold_line first i) (map (state_of node) ks)) _ (HoldsAll i node (d ∷ ks)) (holds_more i node d ks)
      (both state lines (flat_map (hold_line first i) (map (state_of node) ks)) (λ later. later.held i d.name ≡ Has node d) (HoldsAll i node ks) one more (λ later kept e. kept i node d runs is e))

  module _ (declared : (d : KeyDecl Kind) → IsIn keys d → IsDeclared keys d) where
    -- each running member among these identities holds what it holds
    abbrev AllHold : List ℕ → TraceState Op → Type 0
    AllHold is state = (i : ℕ) → IsIn is i → (node : Node Kind Op Shown) → world.nodes i ≡ Some node → HoldsAll i node keys state

    node_lines : (i : ℕ) (o : Option (Node Kind Op Shown)) → world.nodes i ≡ o → (state : TraceState Op) → Midst state → Holding state (of_node (hold_line first) i o) (λ later. (node : Node Kind Op Shown) → o ≡ Some node → HoldsAll i node keys later)
    node_lines i None e state midst = nothing state midst _ (λ node h. absurd (cc h))
    node_lines i (Some node) e state midst =
        let lines = λ (ks : List (KeyDecl Kind)). flat_map (hold_line first i) (map (state_of node) ks) in
        weaker state (lines node.keys) (HoldsAll i node keys) _ (λ later h n same d m. let those : node ≡ n = cc same in subst (λ (x : Node Kind Op Shown). later.held i d.name ≡ Has x d) those (h d m))
        (subst (λ ks. Holding state (lines ks) (HoldsAll i node keys)) (sym (sound.keys_are i node e)) (keys_lines i node e keys declared state midst))

    members_lines : (is : List ℕ) (state : TraceState Op) → Midst state → Holding state (flat_map (λ i. of_node (hold_line first) i (world.nodes i)) is) (AllHold is)
    members_lines [] state midst = nothing state midst (AllHold []) (λ i h. absurd (cc h.1))
    members_lines (i ∷ is) state midst =
        let lines = of_node (hold_line first) i (world.nodes i) in
        let rest = flat_map (λ i. of_node (hold_line first) i (world.nodes i)) is in
        let one = node_lines i (world.nodes i) refl state midst in
        let more = members_lines is (after_lines state lines) one.midst in
        weaker state (lines ++ rest) _ (AllHold (i ∷ is)) (λ later h. holds_more_members later h)
        (both state lines rest (λ later. (node : Node Kind Op Shown) → world.nodes i ≡ Some node → HoldsAll i node keys later) (AllHold is) one more
        (λ later kept e node runs d m. kept i node d runs (declared d m) (e node runs d m)))
      where
        holds_more_members : (later : TraceState Op) → ((node : Node Kind Op Shown) → world.nodes i ≡ Some node → HoldsAll i node keys later) × AllHold is later → AllHold (i ∷ is) later
        holds_more_members later h j (zero, e) node runs = let same : i ≡ j = cc e in subst (λ k. HoldsAll k node keys later) same (h.0 node (ap world.nodes same ∙ runs))
        holds_more_members later h j (suc k, e) node runs = h.1 j (k, e) node runs

    -- all hold lines of a step
    pub record IsToldHeld (lines : List (TraceLine Op)) : Type 0 where
      pub lawful : AreLawful D value_text keys first lines
      pub agrees : Agrees keys (after_lines first lines) world

    pub hold_lines_lawful : IsToldHeld (of_members (hold_line first) world)
    hold_lines_lawful =
        let h = members_lines (identities_of world.view) first (record { made = λ key. refl; held = λ i node decl runs is. inl refl; fresh = trails.fresh }) in
        let made : (after_lines first (of_members (hold_line first) world)).made ≡ first.made = λ k key. h.midst.made key k in
        record {
          lawful = h.lawful;
          agrees = record {
            logs = subst (λ (l : Text → History Op). HasLogs l world) (sym made) trails.logs;
            held = λ i node decl runs is. h.done i (any_is_in (identities_of world.view) i (sound.member i node runs)) node runs decl (found_among (λ (d : KeyDecl Kind). bytes_eq d.name decl.name) keys decl is);
            fresh = h.midst.fresh;
          };
        }
