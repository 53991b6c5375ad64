-- The record lines of a tick: those of the prunes that it performed, of each key in turn.
use Rattle.std.proofs.Common.{◌≡◌, ◌≢◌, zero, suc, List, [], ◌∷◌, ◌++◌, map, refl, sym, ap, subst, ◌∙◌, Bool, true, false, Option, Some, None}
use Rattle.std.specs.Prelude.{if◌then◌else◌, find, flat_map, option_map, not, ◌==◌}
use Rattle.std.specs.Str.{bytes_eq}
use Rattle.std.proofs.lemmas.Slice.Eq.{bytes_eq-Decides}
use Rattle.std.proofs.lemmas.Map.Keys.{IsDistinct-head, IsDistinct-tail}
use Rattle.model_history.specs.Table.{with_at}
use Rattle.model_history.specs.Texts.{Text}
use Rattle.model_history.specs.History.{IsExactlyPruned}
use Rattle.model_history.proofs.CutLaws.{both_ways}
use Rattle.model_history.proofs.PruneLaws.{IsIn, found}
use Rattle.model_members.specs.View.{is_member, leader}
use Rattle.model_members.specs.Entry.{Entry}
use Rattle.model_members.specs.DataType.{Replication}
use Rattle.model_members.specs.Node.{KeyDecl, KeyState, Node, Input, Fate, Stepped, Reply, state_of, one_step_later}
use Rattle.model_members.specs.Node.Reply.{NotLeader, Ticked, TickedNotStored}
use Rattle.model_members.specs.Step.{step, answered, tick_key, outcomes_of, entry_after_tick, has_failed}
use Rattle.model_members.specs.Script.{Ask, ScriptStep}
use Rattle.model_members.specs.Script.Answer.{Replied}
use Rattle.model_members.proofs.Cases.{entry_after_tick_of}
use Rattle.model_members.proofs.Steps.{bytes_eq-same}
use Rattle.theorem_runs.proofs.Keeping.{if_holds, same_text}
use Rattle.model_traces.specs.Traces.{TraceLine, TraceState, after_lines}
use Rattle.model_traces.specs.Runs.{record_lines}
use Rattle.theorem_traces.specs.Traced.{AreApart}
use Rattle.model_traces.proofs.Tests.{IsClosed}
use Rattle.theorem_traces.proofs.Holding.{IsDeclared, found_among}
use Rattle.model_traces.proofs.Lines.{with_at_own}
use Rattle.theorem_traces.proofs.Recording.{Recorded}
use Rattle.theorem_traces.proofs.Ticks.{prune_lines, prune_lines_each, AreTicked, AreFit, keys_ticked, key_lines, name_apart}
use Rattle.theorem_traces.proofs.Updates.{none_recorded}

flat_map_map : {X Y Z : Type 0} (f : Y → List Z) (g : X → Y) (xs : List X) → flat_map f (map g xs) ≡ flat_map (λ x. f (g x)) xs
flat_map_map f g [] = refl
flat_map_map f g (x ∷ xs) = ap (λ zs. f (g x) ++ zs) (flat_map_map f g xs)

-- KEYS

-- keys with names of their own are found by them
pub apart_declared : {Kind : Type 0} (keys : List (KeyDecl Kind)) → AreApart keys → (d : KeyDecl Kind) → IsIn keys d → IsDeclared keys d
apart_declared [] apart d h = absurd (cc h.1)
apart_declared (x ∷ keys) apart d (zero, e) =
    let same : x ≡ d = cc e in
    subst (λ y. IsDeclared (x ∷ keys) y) same (ap (λ b. if b then Some x else find (λ e. bytes_eq e.name x.name) keys) (bytes_eq-same x.name))
apart_declared (x ∷ keys) apart d (suc k, e) =
    let other : bytes_eq x.name d.name ≡ false = differ x.name d.name (λ same. name_apart x keys (IsDistinct-head bytes_eq x.name (map (λ (k : KeyDecl _). k.name) keys) apart) d (k, e) (sym same)) in
    ap (λ b. if b then Some x else find (λ e. bytes_eq e.name d.name) keys) other ∙ apart_declared keys (IsDistinct-tail bytes_eq x.name (map (λ (k : KeyDecl _). k.name) keys) apart) d (k, e)
  where
    differ : (a b : Text) → a ≢ b → bytes_eq a b ≡ false
    differ a b isnt = go (bytes_eq a b) refl
      where
        go : (t : Bool) → bytes_eq a b ≡ t → t ≡ false
        go true e = absurd (isnt ((bytes_eq-Decides a b).0 e))
        go false e = refl

not_found : {X : Type 0} (p : X → Bool) (xs : List X) → find p xs ≡ None → (x : X) → IsIn xs x → p x ≡ false
not_found p [] e x h = absurd (cc h.1)
not_found p (y ∷ xs) e x h = go (p y) refl e h (not_found p xs)
  where
    go : (b : Bool) → p y ≡ b → (if b then Some y else find p xs) ≡ None → IsIn (y ∷ xs) x → (find p xs ≡ None → (z : _) → IsIn xs z → p z ≡ false) → p x ≡ false
    go true is e' m later = absurd (cc e')
    go false is e' (zero, m) later = let same : y ≡ x = cc m in ap p (sym same) ∙ is
    go false is e' (suc k, m) later = later e' x (k, m)

module _ {Kind Op Shown : Type 0} (D : Replication Kind Op Shown) (value_text : Shown → Text) (node : Node Kind Op Shown) (apart : AreApart node.keys) (member : is_member node.view node.identity ≡ true) (state : TraceState Op)
    (own : (name : Text) → (node.entries name).history node.identity ≡ state.made name node.identity)
    (held : (decl : KeyDecl Kind) → IsDeclared node.keys decl → state.held node.identity decl.name ≡ (node.entries decl.name).history)
    (closed : (name : Text) → IsClosed (node.entries name).history) where
  abbrev later : Node Kind Op Shown
  later = one_step_later node

  abbrev ticked_node : Node Kind Op Shown
  ticked_node = record later { entries = entry_after_tick D later }

  abbrev declared : (d : KeyDecl Kind) → IsIn node.keys d → IsDeclared node.keys d
  declared = apart_declared node.keys apart

  -- the entry of a key after the tick
  entry_is : (key : Text) (o : Option (KeyDecl Kind)) → find (λ (d : KeyDecl Kind). bytes_eq d.name key) node.keys ≡ o → entry_after_tick D later key ≡ entry_after_tick_of D later (option_map (state_of later) o) (node.entries key)
  entry_is key o e = ap (λ (o : Option (KeyDecl Kind)). entry_after_tick_of D later (option_map (state_of later) o) (node.entries key)) e

  module _ (exact : (name : Text) → IsExactlyPruned (ticked_node.entries name).history) where
    fit : AreFit D value_text node.keys later member node.keys
    fit = record {
      declared = declared;
      closed = λ d h. closed d.name;
      exact = λ d h. subst (λ (e : Entry Op). IsExactlyPruned e.history) (entry_is d.name (Some d) (declared d h)) (exact d.name);
    }

    abbrev lines : List (TraceLine Op)
    lines = flat_map (key_lines D value_text node.keys later member) node.keys

    ticked : AreTicked D value_text node.keys later member node.keys state lines
    ticked = keys_ticked D value_text node.keys later member node.keys apart fit state (λ d h. record { held = held d (declared d h); row = sym (own d.name) })

    recorded_by : Recorded D value_text node.keys node.identity ticked_node state lines
    recorded_by =
        record {
          lawful = ticked.lawful;
          made = λ key. by_key key (find (λ (d : KeyDecl Kind). bytes_eq d.name key) node.keys) refl;
          own = λ d is. ticked.held d (found_among (λ (e : KeyDecl Kind). bytes_eq e.name d.name) node.keys d is) ∙ ap (λ (e : Entry Op). e.history) (sym (entry_is d.name (Some d) is));
          others = ticked.of_others;
        }
      where
        by_key : (key : Text) (o : Option (KeyDecl Kind)) → find (λ (d : KeyDecl Kind). bytes_eq d.name key) node.keys ≡ o → (after_lines state lines).made key ≡ with_at (state.made key) node.identity ((ticked_node.entries key).history node.identity)
        by_key key None e =
            ticked.made_elsewhere key (λ d h same. absurd (both_ways (bytes_eq d.name key) ((bytes_eq-Decides d.name key).1 (sym same)) (not_found (λ (d : KeyDecl Kind). bytes_eq d.name key) node.keys e d h)))
            ∙ sym (with_at_own (state.made key) node.identity ((ticked_node.entries key).history node.identity) (ap (λ (x : Entry Op). x.history node.identity) (entry_is key None e) ∙ own key))
        by_key key (Some d) e =
            let name = same_text d.name key (found (λ (d : KeyDecl Kind). bytes_eq d.name key) node.keys d e) in
            ap (after_lines state lines).made (sym name) ∙ ticked.made d (found_among (λ (d : KeyDecl Kind). bytes_eq d.name key) node.keys d e)
            ∙ ap (λ t. with_at (state.made t) node.identity ((tick_key D later (state_of later d)).entry.history node.identity)) name
            ∙ ap (λ (x : Entry Op). with_at (state.made key) node.identity (x.history node.identity)) (sym (entry_is key (Some d) e))

    -- as the outcomes tell them
    told : Recorded D value_text node.keys node.identity ticked_node state (prune_lines node.identity (outcomes_of D later))
    told =
        subst (Recorded D value_text node.keys node.identity ticked_node state)
        (sym (prune_lines_each node.identity (λ (k : KeyState Kind Op). (tick_key D later k).outcomes) (map (state_of later) node.keys) ∙ flat_map_map (λ (k : KeyState Kind Op). prune_lines node.identity (tick_key D later k).outcomes) (state_of later) node.keys))
        recorded_by

  abbrev IsRecorded : Stepped Kind Op Shown → Type 0
  IsRecorded s = ((name : Text) → IsExactlyPruned (s.node.entries name).history) → Recorded D value_text node.keys node.identity s.node state (record_lines (ScriptStep.Asks node.identity Ask.Tick) (Replied s.output.reply))

  -- the record lines of a tick
  pub tick_recorded : (fate : Fate) → IsRecorded (step D node Input.PruneTick fate)
  tick_recorded fate =
      if_holds IsRecorded (not (leader node.view == node.identity)) (answered later (NotLeader (leader node.view)))
      (answered ticked_node (if has_failed fate then TickedNotStored (outcomes_of D later) else Ticked (outcomes_of D later)))
      (λ exact. none_recorded D value_text node.keys state node.identity node later (λ name. refl) own held)
      (λ exact. if_holds (λ (reply : Reply Shown). Recorded D value_text node.keys node.identity ticked_node state (record_lines (ScriptStep.Asks node.identity Ask.Tick) (Replied reply))) (has_failed fate) _ _ (told exact) (told exact))
