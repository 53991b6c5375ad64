-- A leader's tick: the prunes that its outcomes tell are lawful lines, one after another, and lead to the entries after the tick.
use Rattle.std.proofs.Common.{◌≡◌, ◌≢◌, ℕ, zero, suc, ◌<◌, ◌≤◌, List, [], ◌∷◌, ◌++◌, map, refl, sym, ap, subst, ◌∙◌, arith, Bool, true, false, Option, Some, None, inl, inr}
use Rattle.std.specs.Prelude.{if◌then◌else◌, filter, fold, flat_map, nat_lt, not, ◌==◌, ◌||◌}
use Rattle.std.specs.List.{AllByRecursion, range_with_len}
use Rattle.std.specs.Str.{bytes_eq}
use Rattle.std.proofs.lemmas.Bool.Decides.{eqb_tells, nat_tests}
use Rattle.std.proofs.lemmas.Slice.Eq.{bytes_eq-Decides}
use Rattle.std.proofs.lemmas.Map.Keys.{IsDistinct-head, IsDistinct-tail}
use Rattle.model_history.specs.Table.{with_at}
use Rattle.model_history.specs.Texts.{Text}
use Rattle.model_history.specs.History.{Action, Record, History, at, versions, is_pruned, IsPartOf, IsExactlyPruned}
use Rattle.model_history.specs.History.Action.{Prune}
use Rattle.model_history.proofs.CutLaws.{both_ways}
use Rattle.model_history.proofs.HistoryLaws.{with_at_same, with_at_other, append_nothing, has_with_record}
use Rattle.model_history.proofs.PartLaws.{in_whole, part-le, part_with_record}
use Rattle.model_history.proofs.PruneLaws.{IsIn, in_tail}
use Rattle.model_meanings.specs.Refusal.{Shares}
use Rattle.model_members.specs.View.{View, is_member, identities_of, removed_of}
use Rattle.model_members.specs.Entry.{Entry, Mark, Tick, ticked, unseen}
use Rattle.model_members.specs.DataType.{Replication}
use Rattle.model_members.specs.Node.{KeyDecl, KeyState, Node, KeyOutcome, state_of}
use Rattle.model_members.specs.Step.{Ticking, tick_identity, tick_key}
use Rattle.model_members.proofs.Cases.{performed_unless, ticked_seen, ticked_mark, with_tick}
use Rattle.theorem_runs.proofs.Keeping.{if_holds}
use Rattle.theorem_runs.proofs.Midway.{ticks_grow}
use Rattle.model_traces.specs.Traces.{TraceLine, TraceState, recorded, after_line, after_lines, broken_by, AreLawful}
use Rattle.model_traces.specs.Traces.Act.{Records}
use Rattle.model_traces.specs.Runs.{line_of, is_performed}
use Rattle.theorem_traces.specs.Traced.{AreApart}
use Rattle.model_traces.proofs.Tests.{IsClosed}
use Rattle.model_traces.proofs.Lines.{lawful_both, after_both, made_here, made_there, held_here, held_of_another, held_there, of_declared, prune_lawful, with_at_own}
use Rattle.theorem_traces.proofs.Holding.{IsDeclared}

-- HISTORIES

module _ {Op : Type 0} where
  -- a part that is closed under past is exactly pruned where the whole is
  pub exact_part : (H F : History Op) → IsPartOf H F → IsClosed H → IsExactlyPruned F → IsExactlyPruned H
  exact_part H F part closed exact =
      record {
        once = λ i k j m x y r hx hy ex ey. exact.once i k j m x y r (in_whole H F part i k x hx) (in_whole H F part j m y hy) ex ey;
        nothing_more = λ i k x r hx ex.
            let all = exact.nothing_more i k x r (in_whole H F part i k x hx) ex in
            let few = part-le H F part r in
            let some = closed i k x hx r in
            omega (arith, all, few, some);
      }

  -- one more record, whose past is all that there is
  pub closed_recorded : (H : History Op) (i : ℕ) (action : Action Op) → IsClosed H → IsClosed (recorded H i H action)
  closed_recorded H i action closed o k x has l =
      let grown = part-le H (recorded H i H action) (part_with_record H i (record { action = action; past = versions H })) l in
      elim (has_with_record H i (record { action = action; past = versions H }) o k x has) [
        | inl old ↦ let a = closed o k x old l in omega (arith, a, grown)
        | inr new ↦ subst (λ (y : Record Op). y.past l ≤ at (recorded H i H action) l) new.2 grown
      ]

  -- two writes of one row
  pub with_at_again : (f : ℕ → List (Record Op)) (i : ℕ) (x y : List (Record Op)) → with_at (with_at f i x) i y ≡ with_at f i y
  with_at_again f i x y = λ k j. rows j k
    where
      rows : (j : ℕ) → with_at (with_at f i x) i y j ≡ with_at f i y j
      rows j = elim (eqb_tells j i) [
        | inl is ↦ ap (with_at (with_at f i x) i y) is.1 ∙ with_at_same (with_at f i x) i y ∙ sym (ap (with_at f i y) is.1 ∙ with_at_same f i y)
        | inr isnt ↦ with_at_other (with_at f i x) i y j isnt.1 ∙ with_at_other f i x j isnt.1 ∙ sym (with_at_other f i y j isnt.1)
      ]

-- LINES OF OUTCOMES

module _ {Op : Type 0} (i : ℕ) where
  abbrev pub outcome_line : KeyOutcome → TraceLine Op
  outcome_line o = line_of i o.key (Records (Prune o.removed))

  -- the prunes among outcomes
  abbrev pub prune_lines : List KeyOutcome → List (TraceLine Op)
  prune_lines outcomes = map outcome_line (filter (λ (o : KeyOutcome). is_performed o.outcome) outcomes)

  pub prune_lines_both : (xs ys : List KeyOutcome) → prune_lines (xs ++ ys) ≡ prune_lines xs ++ prune_lines ys
  prune_lines_both [] ys = refl
  prune_lines_both (x ∷ xs) ys = go (is_performed x.outcome) (prune_lines_both xs ys)
    where
      go : (b : Bool) → prune_lines (xs ++ ys) ≡ prune_lines xs ++ prune_lines ys
          → map outcome_line (if b then x ∷ filter (λ (o : KeyOutcome). is_performed o.outcome) (xs ++ ys) else filter (λ (o : KeyOutcome). is_performed o.outcome) (xs ++ ys))
          ≡ map outcome_line (if b then x ∷ filter (λ (o : KeyOutcome). is_performed o.outcome) xs else filter (λ (o : KeyOutcome). is_performed o.outcome) xs) ++ prune_lines ys
      go true e = ap (λ ls. outcome_line x ∷ ls) e
      go false e = e

  pub prune_lines_each : {X : Type 0} (f : X → List KeyOutcome) (xs : List X) → prune_lines (flat_map f xs) ≡ flat_map (λ x. prune_lines (f x)) xs
  prune_lines_each f [] = refl
  prune_lines_each f (x ∷ xs) = prune_lines_both (f x) (flat_map f xs) ∙ ap (λ ls. prune_lines (f x) ++ ls) (prune_lines_each f xs)

-- ONE REMOVED IDENTITY

-- the outcome is no prune and the history stays, or it is one
pub data TickCase {Op : Type 0} (H : History Op) (i r : ℕ) (tick : Tick Op) : Type 0 where
  Waits : is_performed tick.outcome ≡ false → tick.entry.history ≡ H → TickCase H i r tick
  Prunes : is_performed tick.outcome ≡ true → tick.entry.history ≡ recorded H i H (Prune r) → TickCase H i r tick

module _ {Op : Type 0} (shares : Option Shares) (i view : ℕ) (members : List ℕ) (entry : Entry Op) (r : ℕ) where
  abbrev IsCase : Tick Op → Type 0
  IsCase = TickCase entry.history i r

  unless_case : (o : Option Shares) → IsCase (performed_unless shares i view members entry r o)
  unless_case None = Prunes refl refl
  unless_case (Some blocked) = Waits refl refl

  seen_case : (o : Option ℕ) → IsCase (ticked_seen shares i view members entry r o)
  seen_case None = unless_case shares
  seen_case (Some j) = Waits refl refl

  mark_case : (o : Option Mark) → IsCase (ticked_mark shares i view members entry r o)
  mark_case None = Waits refl refl
  mark_case (Some mark) = if_holds IsCase (nat_lt mark.view view) _ _ (Waits refl refl) (if_holds IsCase (nat_lt view mark.view) _ _ (Waits refl refl) (seen_case (unseen mark members)))

  pub tick_case : IsCase (ticked shares i view members entry r)
  tick_case = mark_case (entry.marks r)

-- LISTS

pub neither : (a b : Bool) → (a || b) ≡ false → (a ≡ false) × (b ≡ false)
neither true b e = absurd (cc e)
neither false b e = (refl, e)

by_place : {X : Type 0} (x : X) (xs : List X) (P : X → Type 0) → P x → ((y : X) → IsIn xs y → P y) → (y : X) → IsIn (x ∷ xs) y → P y
by_place x xs P here there y (zero, e) = let same : x ≡ y = cc e in subst P same here
by_place x xs P here there y (suc k, e) = there y (k, e)

pub name_apart : {Kind : Type 0} (d : KeyDecl Kind) (ks : List (KeyDecl Kind)) → AllByRecursion (λ name. bytes_eq d.name name ≡ false) (map (λ (k : KeyDecl Kind). k.name) ks) → (e : KeyDecl Kind) → IsIn ks e → e.name ≢ d.name
name_apart d [] none e h = absurd (cc h.1)
name_apart d (k ∷ ks) none e (zero, m) = λ same. absurd (let here : k ≡ e = cc m in both_ways (bytes_eq d.name k.name) ((bytes_eq-Decides d.name k.name).1 (sym same ∙ ap (λ (x : KeyDecl _). x.name) (sym here))) none.0)
name_apart d (k ∷ ks) none e (suc n, m) = name_apart d ks none.1 e (n, m)

all_removed : (view : View) (xs : List ℕ) → AllByRecursion (λ r. is_member view r ≡ false) (filter (λ j. not (is_member view j)) xs)
all_removed view [] = tt
all_removed view (x ∷ xs) = go (is_member view x) refl (all_removed view xs)
  where
    go : (b : Bool) → is_member view x ≡ b → AllByRecursion (λ r. is_member view r ≡ false) (filter (λ j. not (is_member view j)) xs) → AllByRecursion (λ r. is_member view r ≡ false) (if not b then x ∷ filter (λ j. not (is_member view j)) xs else filter (λ j. not (is_member view j)) xs)
    go true e rest = rest
    go false e rest = (e, rest)

-- TICKS OF ONE KEY

positive : (n : ℕ) → (n == 0) ≡ false → 0 < n
positive n e = grind (arith, nat_tests)

module _ {Kind Op Shown : Type 0} (D : Replication Kind Op Shown) (value_text : Shown → Text) (keys : List (KeyDecl Kind)) (node : Node Kind Op Shown) (member : is_member node.view node.identity ≡ true) where
  abbrev i : ℕ
  i = node.identity

  abbrev lines_of : List KeyOutcome → List (TraceLine Op)
  lines_of = prune_lines i

  -- a prune by the member, where it held H
  abbrev Lawful : Kind → History Op → History Op → ℕ → Type 0
  Lawful kind made H r = broken_by D.data_type value_text kind made i H (Records (Prune r)) ≡ None

  module _ (first : TraceState Op) (decl : KeyDecl Kind) (is : IsDeclared keys decl) where
    abbrev k : KeyState Kind Op
    k = state_of node decl

    -- the lines of the outcomes so far lead to the entry so far
    pub record IsTicked (so_far : Ticking Op) : Type 0 where
      pub lawful : AreLawful D.data_type value_text keys first (lines_of so_far.outcomes)
      pub closed : IsClosed so_far.entry.history
      pub held : (after_lines first (lines_of so_far.outcomes)).held i decl.name ≡ so_far.entry.history
      pub made : (after_lines first (lines_of so_far.outcomes)).made decl.name ≡ with_at (first.made decl.name) i (so_far.entry.history i)
      pub of_others : (t : ℕ) (key : Text) → t ≢ i → (after_lines first (lines_of so_far.outcomes)).held t key ≡ first.held t key
      pub elsewhere : (t : ℕ) (key : Text) → key ≢ decl.name → (after_lines first (lines_of so_far.outcomes)).held t key ≡ first.held t key
      pub made_elsewhere : (key : Text) → key ≢ decl.name → (after_lines first (lines_of so_far.outcomes)).made key ≡ first.made key

    -- an outcome that is no prune
    waits : (so_far : Ticking Op) (r : ℕ) (tick : Tick Op) → IsTicked so_far → is_performed tick.outcome ≡ false → tick.entry.history ≡ so_far.entry.history → IsTicked (with_tick D k so_far r tick)
    waits so_far r tick ticked told same =
        let o : KeyOutcome = record { key = decl.name; removed = r; outcome = tick.outcome } in
        let lines : lines_of (so_far.outcomes ++ o ∷ []) ≡ lines_of so_far.outcomes =
        prune_lines_both i so_far.outcomes (o ∷ []) ∙ ap (λ b. lines_of so_far.outcomes ++ map (outcome_line i) (if b then o ∷ [] else [])) told ∙ append_nothing (lines_of so_far.outcomes) in
        record {
          lawful = subst (AreLawful D.data_type value_text keys first) (sym lines) ticked.lawful;
          closed = subst IsClosed (sym same) ticked.closed;
          held = ap (λ ls. (after_lines first ls).held i decl.name) lines ∙ ticked.held ∙ sym same;
          made = ap (λ ls. (after_lines first ls).made decl.name) lines ∙ ticked.made ∙ ap (λ (H : History Op). with_at (first.made decl.name) i (H i)) (sym same);
          of_others = λ t key other. ap (λ ls. (after_lines first ls).held t key) lines ∙ ticked.of_others t key other;
          elsewhere = λ t key other. ap (λ ls. (after_lines first ls).held t key) lines ∙ ticked.elsewhere t key other;
          made_elsewhere = λ key other. ap (λ ls. (after_lines first ls).made key) lines ∙ ticked.made_elsewhere key other;
        }

    -- a prune, whose history is part of one that is exactly pruned
    prunes : (so_far : Ticking Op) (r : ℕ) (tick : Tick Op) → IsTicked so_far → is_member node.view r ≡ false → 0 < at so_far.entry.history r → is_pruned so_far.entry.history r ≡ false
        → is_performed tick.outcome ≡ true → tick.entry.history ≡ recorded so_far.entry.history i so_far.entry.history (Prune r)
        → (F : History Op) → IsPartOf tick.entry.history F → IsExactlyPruned F → IsTicked (with_tick D k so_far r tick)
    prunes so_far r tick ticked gone some fresh told same F part exact =
        let o : KeyOutcome = record { key = decl.name; removed = r; outcome = tick.outcome } in
        let H = so_far.entry.history in
        let line : TraceLine Op = line_of i decl.name (Records (Prune r)) in
        let before = lines_of so_far.outcomes in
        let state = after_lines first before in
        let lines : lines_of (so_far.outcomes ++ o ∷ []) ≡ before ++ line ∷ [] = prune_lines_both i so_far.outcomes (o ∷ []) ∙ ap (λ b. before ++ map (outcome_line i) (if b then o ∷ [] else [])) told in
        let then_state : after_lines first (lines_of (so_far.outcomes ++ o ∷ [])) ≡ after_line state line = ap (after_lines first) lines ∙ after_both first before (line ∷ []) in
        let closed : IsClosed tick.entry.history = subst IsClosed (sym same) (closed_recorded H i (Prune r) ticked.closed) in
        let exact_now : IsExactlyPruned (recorded H i H (Prune r)) = subst IsExactlyPruned same (exact_part tick.entry.history F part closed exact) in
        let other_member : (r == i) ≡ false = elim (eqb_tells r i) [ inl e ↦ absurd (both_ways (is_member node.view i) member (ap (is_member node.view) (sym e.1) ∙ gone)) | inr e ↦ e.0 ] in
        let rec : Record Op = record { action = Prune r; past = versions H } in
        let row : (state.made decl.name) i ≡ H i = ap (λ (G : History Op). G i) ticked.made ∙ with_at_same (first.made decl.name) i (H i) in
        record {
          lawful = subst (AreLawful D.data_type value_text keys first) (sym lines)
              (lawful_both D.data_type value_text keys first before (line ∷ []) ticked.lawful (
                of_declared D.data_type value_text keys state line decl is
                    (subst (λ (J : History Op). Lawful decl.kind (state.made decl.name) J r) (sym ticked.held)
                    (prune_lawful D.data_type value_text decl.kind (state.made decl.name) i H r other_member some fresh exact_now)),
                tt,
              ));
          closed = closed;
          held = ap (λ (s : TraceState Op). s.held i decl.name) then_state ∙ held_here state line ∙ ap (λ (J : History Op). recorded J i J (Prune r)) ticked.held ∙ sym same;
          made = ap (λ (s : TraceState Op). s.made decl.name) then_state ∙ made_here state line ∙ ap (λ (J : History Op). recorded (state.made decl.name) i J (Prune r)) ticked.held
              ∙ ap (λ (xs : List (Record Op)). with_at (state.made decl.name) i (xs ++ rec ∷ [])) row
              ∙ ap (with_at (state.made decl.name) i) (sym (ap (λ (J : History Op). J i) same ∙ with_at_same H i (H i ++ rec ∷ [])))
              ∙ ap (λ (G : History Op). with_at G i (tick.entry.history i)) ticked.made ∙ with_at_again (first.made decl.name) i (H i) (tick.entry.history i);
          of_others = λ t key other. ap (λ (s : TraceState Op). s.held t key) then_state ∙ held_of_another state line t key other ∙ ticked.of_others t key other;
          elsewhere = λ t key other. ap (λ (s : TraceState Op). s.held t key) then_state ∙ held_there state line t key other ∙ ticked.elsewhere t key other;
          made_elsewhere = λ key other. ap (λ (s : TraceState Op). s.made key) then_state ∙ made_there state line key other ∙ ticked.made_elsewhere key other;
        }

    one_tick : (so_far : Ticking Op) (r : ℕ) → IsTicked so_far → is_member node.view r ≡ false → (F : History Op) → IsPartOf (tick_identity D node k so_far r).entry.history F → IsExactlyPruned F → IsTicked (tick_identity D node k so_far r)
    one_tick so_far r ticked_so_far gone F part exact = go ((at so_far.entry.history r == 0) || is_pruned so_far.entry.history r) refl part
      where
        by_case : (tick : Tick Op) → TickCase so_far.entry.history i r tick → 0 < at so_far.entry.history r → is_pruned so_far.entry.history r ≡ false → IsPartOf tick.entry.history F → IsTicked (with_tick D k so_far r tick)
        by_case tick (Waits told same) some fresh p = waits so_far r tick ticked_so_far told same
        by_case tick (Prunes told same) some fresh p = prunes so_far r tick ticked_so_far gone some fresh told same F p exact

        go : (b : Bool) → ((at so_far.entry.history r == 0) || is_pruned so_far.entry.history r) ≡ b
            → IsPartOf (if b then so_far else with_tick D k so_far r (ticked (D.data_type.blocked decl.kind i r so_far.entry.history) i node.view.number (identities_of node.view) so_far.entry r)).entry.history F
            → IsTicked (if b then so_far else with_tick D k so_far r (ticked (D.data_type.blocked decl.kind i r so_far.entry.history) i node.view.number (identities_of node.view) so_far.entry r))
        go true e p = ticked_so_far
        go false e p =
            let tests = neither (at so_far.entry.history r == 0) (is_pruned so_far.entry.history r) e in
            by_case (ticked (D.data_type.blocked decl.kind i r so_far.entry.history) i node.view.number (identities_of node.view) so_far.entry r)
            (tick_case (D.data_type.blocked decl.kind i r so_far.entry.history) i node.view.number (identities_of node.view) so_far.entry r) (positive (at so_far.entry.history r) tests.0) tests.1 p

    all_ticks : (rs : List ℕ) → AllByRecursion (λ r. is_member node.view r ≡ false) rs → (so_far : Ticking Op) → IsTicked so_far → IsExactlyPruned (fold (tick_identity D node k) so_far rs).entry.history → IsTicked (fold (tick_identity D node k) so_far rs)
    all_ticks [] gone so_far ticked exact = ticked
    all_ticks (r ∷ rs) gone so_far ticked exact =
        let next = tick_identity D node k so_far r in
        all_ticks rs gone.1 next (one_tick so_far r ticked gone.0 (fold (tick_identity D node k) next rs).entry.history (ticks_grow D node k next rs) exact) exact

    pub key_ticked : IsClosed (node.entries decl.name).history → first.held i decl.name ≡ (node.entries decl.name).history → first.made decl.name i ≡ (node.entries decl.name).history i → IsExactlyPruned (tick_key D node k).entry.history → IsTicked (tick_key D node k)
    key_ticked closed held row exact =
        all_ticks (removed_of node.view) (all_removed node.view (range_with_len 0 node.view.given)) (record { entry = node.entries decl.name; outcomes = [] })
        (record {
          lawful = tt;
          closed = closed;
          held = held;
          made = sym (with_at_own (first.made decl.name) i ((node.entries decl.name).history i) (sym row));
          of_others = λ t key other. refl;
          elsewhere = λ t key other. refl;
          made_elsewhere = λ key other. refl;
        }) exact

  -- TICKS OF ALL KEYS

  abbrev pub key_lines : KeyDecl Kind → List (TraceLine Op)
  key_lines d = lines_of (tick_key D node (state_of node d)).outcomes

  abbrev pub ticked_history : KeyDecl Kind → History Op
  ticked_history d = (tick_key D node (state_of node d)).entry.history

  -- the keys of a list stand as the member has them
  pub record Stands (state : TraceState Op) (d : KeyDecl Kind) : Type 0 where
    pub held : state.held i d.name ≡ (node.entries d.name).history
    pub row : state.made d.name i ≡ (node.entries d.name).history i

  pub record AreTicked (ks : List (KeyDecl Kind)) (state : TraceState Op) (lines : List (TraceLine Op)) : Type 0 where
    pub lawful : AreLawful D.data_type value_text keys state lines
    pub held : (d : KeyDecl Kind) → IsIn ks d → (after_lines state lines).held i d.name ≡ ticked_history d
    pub made : (d : KeyDecl Kind) → IsIn ks d → (after_lines state lines).made d.name ≡ with_at (state.made d.name) i (ticked_history d i)
    pub of_others : (t : ℕ) (key : Text) → t ≢ i → (after_lines state lines).held t key ≡ state.held t key
    pub elsewhere : (t : ℕ) (key : Text) → ((d : KeyDecl Kind) → IsIn ks d → key ≢ d.name) → (after_lines state lines).held t key ≡ state.held t key
    pub made_elsewhere : (key : Text) → ((d : KeyDecl Kind) → IsIn ks d → key ≢ d.name) → (after_lines state lines).made key ≡ state.made key

  -- what is known of the keys of a list
  pub record AreFit (ks : List (KeyDecl Kind)) : Type 0 where
    pub declared : (d : KeyDecl Kind) → IsIn ks d → IsDeclared keys d
    pub closed : (d : KeyDecl Kind) → IsIn ks d → IsClosed (node.entries d.name).history
    pub exact : (d : KeyDecl Kind) → IsIn ks d → IsExactlyPruned (ticked_history d)

  pub keys_ticked : (ks : List (KeyDecl Kind)) → AreApart ks → AreFit ks → (state : TraceState Op) → ((d : KeyDecl Kind) → IsIn ks d → Stands state d) → AreTicked ks state (flat_map key_lines ks)
  keys_ticked [] apart fit state stands =
      record { lawful = tt; held = λ d h. absurd (cc h.1); made = λ d h. absurd (cc h.1); of_others = λ t key other. refl; elsewhere = λ t key other. refl; made_elsewhere = λ key other. refl }
  keys_ticked (d ∷ ks) apart fit state stands =
      let here : IsIn (d ∷ ks) d = (0, refl) in
      let one = key_ticked state d (fit.declared d here) (fit.closed d here) (stands d here).held (stands d here).row (fit.exact d here) in
      let lines = key_lines d in
      let state1 = after_lines state lines in
      let others : (e : KeyDecl Kind) → IsIn ks e → e.name ≢ d.name = name_apart d ks (IsDistinct-head bytes_eq d.name (map (λ (k : KeyDecl Kind). k.name) ks) apart) in
      let more = keys_ticked ks (IsDistinct-tail bytes_eq d.name (map (λ (k : KeyDecl Kind). k.name) ks) apart) (record { declared = λ e h. fit.declared e (in_tail d ks e h); closed = λ e h. fit.closed e (in_tail d ks e h); exact = λ e h. fit.exact e (in_tail d ks e h) }) state1
      (λ e h. record { held = one.elsewhere i e.name (others e h) ∙ (stands e (in_tail d ks e h)).held; row = ap (λ (G : History Op). G i) (one.made_elsewhere e.name (others e h)) ∙ (stands e (in_tail d ks e h)).row }) in
      let after : after_lines state (lines ++ flat_map key_lines ks) ≡ after_lines state1 (flat_map key_lines ks) = after_both state lines (flat_map key_lines ks) in
      let not_later : (e : KeyDecl Kind) → IsIn ks e → d.name ≢ e.name = λ e h same. others e h (sym same) in
      record {
        lawful = lawful_both D.data_type value_text keys state lines (flat_map key_lines ks) one.lawful more.lawful;
        held = λ e h. ap (λ (s : TraceState Op). s.held i e.name) after ∙ by_place d ks (λ e. (after_lines state1 (flat_map key_lines ks)).held i e.name ≡ ticked_history e)
            (more.elsewhere i d.name not_later ∙ one.held) more.held e h;
        made = λ e h. ap (λ (s : TraceState Op). s.made e.name) after ∙ by_place d ks (λ e. (after_lines state1 (flat_map key_lines ks)).made e.name ≡ with_at (state.made e.name) i (ticked_history e i))
            (more.made_elsewhere d.name not_later ∙ one.made) (λ e h. more.made e h ∙ ap (λ (G : History Op). with_at G i (ticked_history e i)) (one.made_elsewhere e.name (others e h))) e h;
        of_others = λ t key other. ap (λ (s : TraceState Op). s.held t key) after ∙ more.of_others t key other ∙ one.of_others t key other;
        elsewhere = λ t key away. ap (λ (s : TraceState Op). s.held t key) after ∙ more.elsewhere t key (λ e h. away e (in_tail d ks e h)) ∙ one.elsewhere t key (away d here);
        made_elsewhere = λ key away. ap (λ (s : TraceState Op). s.made key) after ∙ more.made_elsewhere key (λ e h. away e (in_tail d ks e h)) ∙ one.made_elsewhere key (away d here);
      }
