-- A settle that answers done leaves a settled world.
use Rattle.std.proofs.Common.{◌≡◌, ◌≢◌, ℕ, zero, suc, ◌+◌, ◌*◌, ◌<◌, ◌≤◌, List, [], ◌∷◌, ◌++◌, length, refl, sym, ap, subst, ◌∙◌, arith, Bool, true, false, Some, ◌⊎◌, inl, inr, append_assoc}
use Rattle.std.specs.Prelude.{if◌then◌else◌, slice_get, fold, filter, find, not, ◌==◌, ◌||◌, IsSome, get_or}
use Rattle.std.specs.List.{list_any}
use Rattle.std.specs.Str.{bytes_eq}
use Rattle.std.proofs.lemmas.Bool.Decides.{eqb_tells}
use Rattle.std.proofs.lemmas.Bool.{eq-eqb}
use Rattle.model_history.specs.Table.{identity_limit}
use Rattle.model_history.specs.Texts.{Text}
use Rattle.model_history.specs.History.{History, at, is_pruned}
use Rattle.model_history.proofs.CutLaws.{both_ways}
use Rattle.model_history.proofs.HistoryLaws.{append_nothing}
use Rattle.model_history.proofs.PruneLaws.{IsIn, found}
use Rattle.model_members.specs.View.{View, is_member, leader, identities_of, removed_of}
use Rattle.model_members.specs.Entry.{Entry, Mark}
use Rattle.model_members.specs.DataType.{Replication}
use Rattle.model_members.specs.Node.{KeyDecl, Node, Input, Fate, Stepped, HasKey, state_of, one_step_later, KeyState}
use Rattle.model_members.specs.Step.{step, Ticking, tick_key}
use Rattle.model_members.specs.World.{World, Event}
use Rattle.model_members.specs.Script.{Ask, Playing, given, exchange, sweep, tick, has_met_full, posted}
use Rattle.model_members.specs.Script.Head.{Asked}
use Rattle.model_members.specs.World.Event.{InputAt}
use Rattle.theorem_runs.proofs.Keeping.{same_text}
use Rattle.theorem_runs.proofs.Growth.{step_no_fewer}
use Rattle.theorem_runs.proofs.RunViews.{same_some, is_or_isnt}
use Rattle.theorem_runs.proofs.Happening.{all_of}
use Rattle.theorem_settling.specs.Settling.{BlockedStays}
use Rattle.theorem_operations.proofs.Lists.{in_any, in_filtered, map_length, to_filter}
use Rattle.theorem_operations.proofs.Moments.{safe_at}
use Rattle.theorem_operations.proofs.Calm.{IsCalm}
use Rattle.theorem_settling.proofs.Merging.{MarkAt}
use Rattle.theorem_operations.proofs.Turns.{MakesStep}
use Rattle.theorem_operations.proofs.Turns.MakesStep.{ByInput, ByDelivery}
use Rattle.theorem_operations.proofs.Opening.{found_at}
use Rattle.theorem_settling.proofs.PlayedSteps.{Did, Runs, did_runs, did_posted, did_calm, did_here, did_other, given_steps, unless_is}
use Rattle.theorem_settling.proofs.Sweeps.{counted, same_histories, up_to, sees_own, keys_are}
use Rattle.theorem_settling.proofs.SweepFolds.{Among, AreOthers, TellsUntil, N, N_is, Counts, Swept, sweep_does, sweep_counts, sweep_marks, sweep_same, sweep_met, runs_of}
use Rattle.theorem_settling.proofs.Ticks.{tick_marks, tick_settles, tick_count, ticked_entry, tick_step, in_removed}

-- LISTS

fewer : {X : Type 0} (p : X → Bool) (xs : List X) → length (filter p xs) ≤ length xs
fewer p [] = omega arith
fewer p (x ∷ xs) = by (p x) (fewer p xs)
  where
    by : (b : Bool) → length (filter p xs) ≤ length xs → length (if b then x ∷ filter p xs else filter p xs) ≤ length (x ∷ xs)
    by true h = omega arith
    by false h = omega arith

one_fewer : {X : Type 0} (p : X → Bool) (xs : List X) (x : X) → IsIn xs x → p x ≡ false → length (filter p xs) + 1 ≤ length xs
one_fewer p [] x h e = absurd (cc h.1)
one_fewer p (y ∷ xs) x (zero, is) e = let same : y ≡ x = cc is in by (p y) (ap p same ∙ e)
  where
    by : (b : Bool) → b ≡ false → length (if b then y ∷ filter p xs else filter p xs) + 1 ≤ length (y ∷ xs)
    by true f = absurd (cc f)
    by false f = let a = fewer p xs in omega arith
one_fewer p (y ∷ xs) x (suc k, is) e = by (p y) (one_fewer p xs x (k, is) e)
  where
    by : (b : Bool) → length (filter p xs) + 1 ≤ length xs → length (if b then y ∷ filter p xs else filter p xs) + 1 ≤ length (y ∷ xs)
    by true h = omega arith
    by false h = omega arith

-- the first of a list is one of it
pub first_in : (js : List ℕ) (t : ℕ) → list_any (λ j. j == t) js ≡ true → IsIn js (get_or js 0 0)
first_in [] t e = absurd (cc e)
first_in (j ∷ js) t e = (zero, refl)

module _ {Kind Op Shown : Type 0} (D : Replication Kind Op Shown) (members : ℕ) (keys : List (KeyDecl Kind)) where
  -- A TICK

  module _ (V : View) (lead_member : is_member V (leader V) ≡ true) where
    abbrev lead : ℕ
    lead = leader V

    abbrev Calm : World Kind Op Shown → Type 0
    Calm world = IsCalm D members keys V world

    pub record TickDone (p q : Playing Kind Op Shown) (b : Node Kind Op Shown) : Type 0 where
      pub fate : Fate
      pub did : Did D members keys p q lead (step D b Input.PruneTick fate)
      pub event_is : did.event ≡ InputAt lead Input.PruneTick fate
      pub not_met : has_met_full p ≡ false
      pub silent : posted q ≡ posted p
      pub calm_after : Calm q.world

    leads : (world : World Kind Op Shown) → Calm world → (b : Node Kind Op Shown) → world.nodes lead ≡ Some b → leader b.view ≡ b.identity
    leads world calm b runs = ap leader (calm.installed lead b runs) ∙ sym ((safe_at D members keys world calm.stands).views.running lead b runs).identity

    -- a tick is no delivery
    ticks_by : (world : World Kind Op Shown) (event : Event Op) (fate : Fate) → MakesStep world event lead Input.PruneTick fate → event ≡ InputAt lead Input.PruneTick fate
    ticks_by world event fate (ByInput e) = e
    ticks_by world event fate (ByDelivery from index message e sent is) = absurd (cc is)

    pub tick_done : (p : Playing Kind Op Shown) → Calm p.world → (b : Node Kind Op Shown) → p.world.nodes lead ≡ Some b → has_met_full (tick D p) ≡ false → TickDone p (tick D p) b
    tick_done p calm b runs e =
        let f = λ (q : Playing Kind Op Shown). given D q (Asked (leader q.world.view) Ask.Tick) (InputAt (leader q.world.view) Input.PruneTick) in
        let u = unless_is D members keys f p e in
        let here : leader p.world.view ≡ lead = ap leader calm.view in
        let same : tick D p ≡ given D p (Asked lead Ask.Tick) (InputAt lead Input.PruneTick) = u.0 ∙ ap (λ j. given D p (Asked j Ask.Tick) (InputAt j Input.PruneTick)) here in
        let s = given_steps D members keys p (Asked lead Ask.Tick) lead Input.PruneTick b tt runs (ap has_met_full (sym same) ∙ e) in
        let with_event : (x : Did D members keys p (tick D p) lead (step D b Input.PruneTick s.fate)) × (x.event ≡ InputAt lead Input.PruneTick s.fate) =
        subst (λ (q : Playing Kind Op Shown). (x : Did D members keys p q lead (step D b Input.PruneTick s.fate)) × (x.event ≡ InputAt lead Input.PruneTick s.fate)) (sym same) (s.does, ticks_by p.world s.does.event s.fate s.makes) in
        let d = with_event.0 in
        record {
          fate = s.fate;
          did = d;
          event_is = with_event.1;
          not_met = u.1;
          silent = let a = did_posted D members keys p (tick D p) lead (step D b Input.PruneTick s.fate) d in let c : length (step D b Input.PruneTick s.fate).output.posts ≡ 0 = ap (λ (z : Stepped Kind Op Shown). length z.output.posts) (tick_step D b (leads p.world calm b runs) s.fate) in omega arith;
          calm_after = did_calm D members keys V p (tick D p) lead (step D b Input.PruneTick s.fate) d calm;
        }

    tick_met : (p : Playing Kind Op Shown) → has_met_full (tick D p) ≡ false → has_met_full p ≡ false
    tick_met p e = (unless_is D members keys (λ (q : Playing Kind Op Shown). given D q (Asked (leader q.world.view) Ask.Tick) (InputAt (leader q.world.view) Input.PruneTick)) p e).1

    -- A SWEEP

    abbrev pub others : List ℕ
    others = filter (λ i. not (i == lead)) (identities_of V)

    pub are_others : AreOthers D members keys V lead lead_member others
    are_others = all_of (λ i. (i ≢ lead) × (is_member V i ≡ true)) others (λ i h. (not_lead i h, in_any (identities_of V) i (in_filtered (λ i. not (i == lead)) (identities_of V) i h)))
      where
        passes : (xs : List ℕ) (i : ℕ) → IsIn (filter (λ i. not (i == leader V)) xs) i → not (i == leader V) ≡ true
        passes [] i h = absurd (cc h.1)
        passes (x ∷ xs) i h = by (not (x == leader V)) refl h.0 h.1 (λ m. passes xs i m)
          where
            by : (b : Bool) → not (x == leader V) ≡ b → (k : ℕ) → slice_get (if b then x ∷ filter (λ i. not (i == leader V)) xs else filter (λ i. not (i == leader V)) xs) k ≡ Some i → (IsIn (filter (λ i. not (i == leader V)) xs) i → not (i == leader V) ≡ true) → not (i == leader V) ≡ true
            by true is zero e later = let same : x ≡ i = cc e in ap (λ j. not (j == leader V)) (sym same) ∙ is
            by true is (suc k) e later = later (k, e)
            by false is k e later = later (k, e)

        not_lead : (i : ℕ) → IsIn (filter (λ i. not (i == leader V)) (identities_of V)) i → i ≢ leader V
        not_lead i h is = let a = passes (identities_of V) i h in absurd (let b = sym (ap not (eq-eqb i (leader V) is)) ∙ a in cc b)

    not_lead_in : (is : List ℕ) → AreOthers D members keys V lead lead_member is → (t : ℕ) → Among is t → t ≢ lead
    not_lead_in [] all t m = absurd (cc m)
    not_lead_in (i ∷ is) all t m = by (i == t) refl m (λ m'. not_lead_in is all.1 t m')
      where
        by : (b : Bool) → (i == t) ≡ b → (b || list_any (λ j. j == t) is) ≡ true → (list_any (λ j. j == t) is ≡ true → t ≢ leader V) → t ≢ leader V
        by true e m' later = elim (eqb_tells i t) [ inl h ↦ (λ f. all.0.0 (h.1 ∙ f)) | inr h ↦ absurd (let g = sym e ∙ h.0 in cc g) ]
        by false e m' later = later m'

    among : (t : ℕ) → is_member V t ≡ true → t ≢ lead → Among others t
    among t m other =
        let h = found_at (identities_of V) t m in
        in_any others t (to_filter (λ i. not (i == lead)) (identities_of V) t h (elim (eqb_tells t lead) [ inl is ↦ absurd (other is.1) | inr isnt ↦ ap not isnt.0 ]))

    pub sweep_is : (p : Playing Kind Op Shown) → Calm p.world → sweep D p ≡ fold (exchange D lead) p others
    sweep_is p calm = ap (λ (view : View). fold (exchange D (leader view)) p (filter (λ i. not (i == leader view)) (identities_of view))) calm.view

    pub few_others : length others + 1 ≤ length V.members
    few_others =
        let a = one_fewer (λ i. not (i == lead)) (identities_of V) lead (found_at (identities_of V) lead lead_member) (ap not (eq-eqb lead lead refl)) in
        let b = map_length (λ member. member.identity) V.members in omega arith

    -- THE WHOLE SETTLE, FROM THE FIRST SWEEP ON

    module _ (all_installed : Playing Kind Op Shown) (calm_installed : Calm all_installed.world) (ran_installed : Runs D members keys all_installed) where
      abbrev pub swept_once : Playing Kind Op Shown
      swept_once = fold (exchange D lead) all_installed others

      abbrev pub swept_twice : Playing Kind Op Shown
      swept_twice = fold (exchange D lead) swept_once others

      abbrev pub ticked_once : Playing Kind Op Shown
      ticked_once = tick D swept_twice

      abbrev pub swept_again : Playing Kind Op Shown
      swept_again = fold (exchange D lead) ticked_once others

      abbrev pub ticked_twice : Playing Kind Op Shown
      ticked_twice = tick D swept_again

      abbrev pub swept_last : Playing Kind Op Shown
      swept_last = fold (exchange D lead) ticked_twice others

      module _ (met : has_met_full swept_last ≡ false) where
        met_ticked_twice : has_met_full ticked_twice ≡ false
        met_ticked_twice = sweep_met D members keys V lead lead_member others ticked_twice met

        met_swept_again : has_met_full swept_again ≡ false
        met_swept_again = tick_met swept_again met_ticked_twice

        met_ticked_once : has_met_full ticked_once ≡ false
        met_ticked_once = sweep_met D members keys V lead lead_member others ticked_once met_swept_again

        met_swept_twice : has_met_full swept_twice ≡ false
        met_swept_twice = tick_met swept_twice met_ticked_once

        met_swept_once : has_met_full swept_once ≡ false
        met_swept_once = sweep_met D members keys V lead lead_member others swept_once met_swept_twice

        first_sweep : Swept D members keys V lead lead_member others all_installed swept_once
        first_sweep = sweep_does D members keys V lead lead_member others are_others all_installed calm_installed met_swept_once

        second_sweep : Swept D members keys V lead lead_member others swept_once swept_twice
        second_sweep = sweep_does D members keys V lead lead_member others are_others swept_once first_sweep.calm_after met_swept_twice

        abbrev first_ticking : Node Kind Op Shown
        first_ticking = (runs_of D members keys V lead lead_member swept_twice.world second_sweep.calm_after lead lead_member).0

        runs_first_ticking : swept_twice.world.nodes lead ≡ Some first_ticking
        runs_first_ticking = (runs_of D members keys V lead lead_member swept_twice.world second_sweep.calm_after lead lead_member).1

        first_tick : TickDone swept_twice ticked_once first_ticking
        first_tick = tick_done swept_twice second_sweep.calm_after first_ticking runs_first_ticking met_ticked_once

        pub third_sweep : Swept D members keys V lead lead_member others ticked_once swept_again
        third_sweep = sweep_does D members keys V lead lead_member others are_others ticked_once first_tick.calm_after met_swept_again

        abbrev pub last_ticking : Node Kind Op Shown
        last_ticking = (runs_of D members keys V lead lead_member swept_again.world third_sweep.calm_after lead lead_member).0

        pub runs_last_ticking : swept_again.world.nodes lead ≡ Some last_ticking
        runs_last_ticking = (runs_of D members keys V lead lead_member swept_again.world third_sweep.calm_after lead lead_member).1

        pub last_tick : TickDone swept_again ticked_twice last_ticking
        last_tick = tick_done swept_again third_sweep.calm_after last_ticking runs_last_ticking met_ticked_twice

        pub last_sweep : Swept D members keys V lead lead_member others ticked_twice swept_last
        last_sweep = sweep_does D members keys V lead lead_member others are_others ticked_twice last_tick.calm_after met

        -- EVENTS

        ran_swept_once : Runs D members keys swept_once
        ran_swept_once = first_sweep.ran ran_installed

        ran_swept_twice : Runs D members keys swept_twice
        ran_swept_twice = second_sweep.ran ran_swept_once

        ran_ticked_once : Runs D members keys ticked_once
        ran_ticked_once = did_runs D members keys swept_twice ticked_once lead (step D first_ticking Input.PruneTick first_tick.fate) first_tick.did ran_swept_twice

        ran_swept_again : Runs D members keys swept_again
        ran_swept_again = third_sweep.ran ran_ticked_once

        ran_ticked_twice : Runs D members keys ticked_twice
        ran_ticked_twice = did_runs D members keys swept_again ticked_twice lead (step D last_ticking Input.PruneTick last_tick.fate) last_tick.did ran_swept_again

        abbrev After : Playing Kind Op Shown → Type 0
        After x = (more : List (Event Op)) × (swept_last.events ≡ x.events ++ more)

        longer : (x y : Playing Kind Op Shown) (more : List (Event Op)) → y.events ≡ x.events ++ more → After y → After x
        longer x y more e h = (more ++ h.0, h.1 ∙ ap (λ es. es ++ h.0) e ∙ append_assoc x.events more h.0)

        end_swept_last : After swept_last
        end_swept_last = ([], sym (append_nothing swept_last.events))

        end_ticked_twice : After ticked_twice
        end_ticked_twice = longer ticked_twice swept_last last_sweep.more last_sweep.events end_swept_last

        end_swept_again : After swept_again
        end_swept_again = longer swept_again ticked_twice (last_tick.did.event ∷ []) last_tick.did.events end_ticked_twice

        end_ticked_once : After ticked_once
        end_ticked_once = longer ticked_once swept_again third_sweep.more third_sweep.events end_swept_again

        end_swept_twice : After swept_twice
        end_swept_twice = longer swept_twice ticked_once (first_tick.did.event ∷ []) first_tick.did.events end_ticked_once

        end_swept_once : After swept_once
        end_swept_once = longer swept_once swept_twice second_sweep.more second_sweep.events end_swept_twice

        -- HOW MANY MESSAGES

        pub few_sent : posted swept_last ≤ posted all_installed + 12 * length others
        few_sent = let a = first_sweep.sent_few in let b = second_sweep.sent_few in let c = first_tick.silent in let d = third_sweep.sent_few in let e = last_tick.silent in let f = last_sweep.sent_few in omega arith

        -- ONE KEY

        module _ (tells : TellsUntil D members keys V lead lead_member swept_last.events) (key : Text) (decl : KeyDecl Kind) (declared : find (λ (d : KeyDecl Kind). bytes_eq d.name key) keys ≡ Some decl) where
          abbrev n : Playing Kind Op Shown → ℕ → ℕ → ℕ
          n p t o = N D members keys V lead lead_member swept_last.events tells key decl declared p t o

          abbrev CountsBetween : Playing Kind Op Shown → Playing Kind Op Shown → Type 0
          CountsBetween p q = Counts D members keys V lead lead_member swept_last.events tells key decl declared others p q

          first_counts : CountsBetween all_installed swept_once
          first_counts = sweep_counts D members keys V lead lead_member swept_last.events tells key decl declared others are_others all_installed calm_installed ran_installed met_swept_once end_swept_once.0 end_swept_once.1

          second_counts : CountsBetween swept_once swept_twice
          second_counts = sweep_counts D members keys V lead lead_member swept_last.events tells key decl declared others are_others swept_once first_sweep.calm_after ran_swept_once met_swept_twice end_swept_twice.0 end_swept_twice.1

          full_swept_twice : ((o : ℕ) → n swept_twice lead o ≡ n swept_once lead o) × ((t : ℕ) → Among others t → (o : ℕ) → n swept_twice t o ≡ n swept_twice lead o)
          full_swept_twice = second_counts.full first_counts.covered

          not_lead_of : (t : ℕ) → Among others t → t ≢ lead
          not_lead_of t m = not_lead_in others are_others t m

          -- a tick leaves the others
          tick_others : (p q : Playing Kind Op Shown) (b : Node Kind Op Shown) → TickDone p q b → (t : ℕ) → Among others t → (o : ℕ) → n q t o ≡ n p t o
          tick_others p q b t m mt o = ap (λ x. counted D members keys V x key o) (did_other D members keys p q lead (step D b Input.PruneTick t.fate) t.did m (not_lead_of m mt))

          tick_lead : (p q : Playing Kind Op Shown) (b : Node Kind Op Shown) → p.world.nodes lead ≡ Some b → TickDone p q b → (o : ℕ) → n p lead o ≤ n q lead o
          tick_lead p q b runs t o =
              let a = step_no_fewer D b Input.PruneTick t.fate key o in
              let c = N_is D members keys V lead lead_member swept_last.events tells key decl declared p lead b o runs in
              let d = N_is D members keys V lead lead_member swept_last.events tells key decl declared q lead (step D b Input.PruneTick t.fate).node o (did_here D members keys p q lead (step D b Input.PruneTick t.fate) t.did) in
              omega arith

          covered_ticked_once : (t : ℕ) → Among others t → (o : ℕ) → n ticked_once t o ≤ n ticked_once lead o
          covered_ticked_once t m o = let a = tick_others swept_twice ticked_once first_ticking first_tick t m o in let b = full_swept_twice.1 t m o in let c = tick_lead swept_twice ticked_once first_ticking runs_first_ticking first_tick o in omega arith

          third_counts : CountsBetween ticked_once swept_again
          third_counts = sweep_counts D members keys V lead lead_member swept_last.events tells key decl declared others are_others ticked_once first_tick.calm_after ran_ticked_once met_swept_again end_swept_again.0 end_swept_again.1

          full_swept_again : ((o : ℕ) → n swept_again lead o ≡ n ticked_once lead o) × ((t : ℕ) → Among others t → (o : ℕ) → n swept_again t o ≡ n swept_again lead o)
          full_swept_again = third_counts.full covered_ticked_once

          covered_ticked_twice : (t : ℕ) → Among others t → (o : ℕ) → n ticked_twice t o ≤ n ticked_twice lead o
          covered_ticked_twice t m o = let a = tick_others swept_again ticked_twice last_ticking last_tick t m o in let b = full_swept_again.1 t m o in let c = tick_lead swept_again ticked_twice last_ticking runs_last_ticking last_tick o in omega arith

          last_counts : CountsBetween ticked_twice swept_last
          last_counts = sweep_counts D members keys V lead lead_member swept_last.events tells key decl declared others are_others ticked_twice last_tick.calm_after ran_ticked_twice met end_swept_last.0 end_swept_last.1

          full_swept_last : ((o : ℕ) → n swept_last lead o ≡ n ticked_twice lead o) × ((t : ℕ) → Among others t → (o : ℕ) → n swept_last t o ≡ n swept_last lead o)
          full_swept_last = last_counts.full covered_ticked_twice

          -- all have the leader's history
          pub all_same : (t : ℕ) (a e : Node Kind Op Shown) → is_member V t ≡ true → swept_last.world.nodes t ≡ Some a → swept_last.world.nodes lead ≡ Some e → (a.entries key).history ≡ (e.entries key).history
          all_same t a e m ra re = elim (eqb_tells t lead) [
            | inl is ↦ let same : a ≡ e = same_some (swept_last.world.nodes lead) a e (ap swept_last.world.nodes (sym is.1) ∙ ra) re in ap (λ (x : Node Kind Op Shown). (x.entries key).history) same
            | inr isnt ↦
                same_histories D members keys V swept_last.world last_sweep.calm_after t lead a e key ra re
                (λ o. sym (N_is D members keys V lead lead_member swept_last.events tells key decl declared swept_last t a o ra) ∙ full_swept_last.1 t (among t m isnt.1) o ∙ N_is D members keys V lead lead_member swept_last.events tells key decl declared swept_last lead e o re)
          ]

          -- A REMOVED IDENTITY

          module _ (blocked_stays : BlockedStays D) (r : ℕ) (given : r < V.given) (removed : is_member V r ≡ false) where
            not_the_lead : r ≢ lead
            not_the_lead e = both_ways (is_member V r) (ap (is_member V) e ∙ lead_member) removed

            small_r : r < identity_limit
            small_r = let a = (safe_at D members keys all_installed.world calm_installed.stands).logs.few in let b : all_installed.world.view.given ≡ V.given = ap (λ (v : View). v.given) calm_installed.view in omega arith

            -- what is known of a leader that ticks
            module _ (p : Playing Kind Op Shown) (calm : Calm p.world) (b : Node Kind Op Shown) (runs : p.world.nodes lead ≡ Some b) (fate : Fate) where
              identity_b : b.identity ≡ lead
              identity_b = ((safe_at D members keys p.world calm.stands).views.running lead b runs).identity

              view_b : b.view ≡ V
              view_b = calm.installed lead b runs

              small_b : b.identity < identity_limit
              small_b = let safe = safe_at D members keys p.world calm.stands in let a = safe.logs.few in let c = safe.logs.given lead b runs in let d = identity_b in omega arith

              other_b : r ≢ b.identity
              other_b e = not_the_lead (e ∙ identity_b)

              has_b : HasKey b key decl.kind
              has_b =
                  let name : decl.name ≡ key = same_text decl.name key (found (λ (d : KeyDecl Kind). bytes_eq d.name key) keys decl declared) in
                  (decl.durable, ap (find (λ (d : KeyDecl Kind). bytes_eq d.name key)) (keys_are D members keys V p.world calm lead b runs) ∙ declared ∙ (λ j. Some (record { name = name j; kind = decl.kind; durable = decl.durable })))

              abbrev the_state : KeyState Kind Op
              the_state = state_of b (record { name = key; kind = decl.kind; durable = has_b.0 })

              abbrev begun : Ticking Op
              begun = record { entry = b.entries key; outcomes = [] }

              in_ticks : IsIn (removed_of b.view) r
              in_ticks = in_removed b.view r (subst (λ (v : View). r < v.given) (sym view_b) given) (ap (λ (v : View). is_member v r) view_b ∙ removed)

              ticked_is : (step D b Input.PruneTick fate).node.entries key ≡ (tick_key D (one_step_later b) the_state).entry
              ticked_is = ticked_entry D b (leads p.world calm b runs) fate key decl.kind has_b

              pub same_count : at ((step D b Input.PruneTick fate).node.entries key).history r ≡ at (b.entries key).history r
              same_count = ap (λ (e : Entry Op). at e.history r) ticked_is ∙ tick_count D (one_step_later b) the_state small_b r other_b (removed_of b.view) begun

              pub marked_or_pruned : 0 < at (b.entries key).history r → (is_pruned ((step D b Input.PruneTick fate).node.entries key).history r ≡ true) ⊎ MarkAt r V.number (λ t. ⊥) ((step D b Input.PruneTick fate).node.entries key)
              marked_or_pruned more =
                  let number : b.view.number ≡ V.number = ap (λ (v : View). v.number) view_b in
                  let up = (λ (m : Mark) (f : (b.entries key).marks r ≡ Some m). let a = up_to D members keys V p.world calm lead b runs key r m f in let z : m.view ≤ b.view.number = omega arith in z) in
                  subst (λ (e : Entry Op). (is_pruned e.history r ≡ true) ⊎ MarkAt r V.number (λ t. ⊥) e) (sym ticked_is)
                  (subst (λ w. (is_pruned (tick_key D (one_step_later b) the_state).entry.history r ≡ true) ⊎ MarkAt r w (λ t. ⊥) (tick_key D (one_step_later b) the_state).entry) number
                  (tick_marks D (one_step_later b) the_state small_b r other_b (removed_of b.view) in_ticks begun up more))

              pub blocked_or_pruned : ((is_pruned (b.entries key).history r ≡ true) ⊎ MarkAt r V.number (λ t. is_member V t ≡ true) (b.entries key)) → 0 < at (b.entries key).history r
                  → (is_pruned ((step D b Input.PruneTick fate).node.entries key).history r ≡ true) ⊎ IsSome (D.data_type.blocked decl.kind lead r ((step D b Input.PruneTick fate).node.entries key).history)
              blocked_or_pruned seen more =
                  let number : b.view.number ≡ V.number = ap (λ (v : View). v.number) view_b in
                  let seen_b : (is_pruned (b.entries key).history r ≡ true) ⊎ MarkAt r b.view.number (λ t. is_member b.view t ≡ true) (b.entries key) =
                  subst (λ (v : View). (is_pruned (b.entries key).history r ≡ true) ⊎ MarkAt r v.number (λ t. is_member v t ≡ true) (b.entries key)) (sym view_b) seen in
                  subst (λ (e : Entry Op). (is_pruned e.history r ≡ true) ⊎ IsSome (D.data_type.blocked decl.kind lead r e.history)) (sym ticked_is)
                  (subst (λ w. (is_pruned (tick_key D (one_step_later b) the_state).entry.history r ≡ true) ⊎ IsSome (D.data_type.blocked decl.kind w r (tick_key D (one_step_later b) the_state).entry.history)) identity_b
                  (tick_settles D (one_step_later b) the_state small_b r other_b blocked_stays (removed_of b.view) in_ticks begun seen_b more))

            abbrev first_ticked : Node Kind Op Shown
            first_ticked = (step D first_ticking Input.PruneTick first_tick.fate).node

            runs_first_ticked : ticked_once.world.nodes lead ≡ Some first_ticked
            runs_first_ticked = did_here D members keys swept_twice ticked_once lead (step D first_ticking Input.PruneTick first_tick.fate) first_tick.did

            abbrev last_ticked : Node Kind Op Shown
            last_ticked = (step D last_ticking Input.PruneTick last_tick.fate).node

            runs_last_ticked : ticked_twice.world.nodes lead ≡ Some last_ticked
            runs_last_ticked = did_here D members keys swept_again ticked_twice lead (step D last_ticking Input.PruneTick last_tick.fate) last_tick.did

            is_n : (p : Playing Kind Op Shown) (t : ℕ) (b : Node Kind Op Shown) (o : ℕ) → p.world.nodes t ≡ Some b → n p t o ≡ at (b.entries key).history o
            is_n p t b o e = N_is D members keys V lead lead_member swept_last.events tells key decl declared p t b o e

            -- after the third sweep all members stand in the leader's mark, or r is pruned
            all_stand : 0 < at (last_ticking.entries key).history r → (is_pruned (last_ticking.entries key).history r ≡ true) ⊎ MarkAt r V.number (λ t. is_member V t ≡ true) (last_ticking.entries key)
            all_stand more =
                let same_first_ticking : at (first_ticked.entries key).history r ≡ at (first_ticking.entries key).history r = same_count swept_twice second_sweep.calm_after first_ticking runs_first_ticking first_tick.fate in
                let n1 = is_n swept_again lead last_ticking r runs_last_ticking in let n2 = is_n ticked_once lead first_ticked r runs_first_ticked in let n3 = full_swept_again.0 r in
                by (marked_or_pruned swept_twice second_sweep.calm_after first_ticking runs_first_ticking first_tick.fate (omega arith))
              where
                same_lead : (is_pruned (first_ticked.entries key).history r ≡ true) → is_pruned (last_ticking.entries key).history r ≡ true
                same_lead p =
                    let s = sweep_same D members keys V lead lead_member swept_last.events tells key decl declared others are_others ticked_once first_tick.calm_after ran_ticked_once met_swept_again end_swept_again.0 end_swept_again.1 first_ticked runs_first_ticked covered_ticked_once in
                    let same : s.e ≡ last_ticking = same_some (swept_again.world.nodes lead) s.e last_ticking s.runs_e runs_last_ticking in
                    subst (λ (x : Node Kind Op Shown). is_pruned (x.entries key).history r ≡ true) same (ap (λ (H : History Op). is_pruned H r) s.same ∙ p)

                each_has : (t : ℕ) → Among others t → 0 < n ticked_once t r
                each_has t m =
                    let a = tick_others swept_twice ticked_once first_ticking first_tick t m r in let b = full_swept_twice.1 t m r in let c = is_n swept_twice lead first_ticking r runs_first_ticking in
                    let same_first_ticking : at (first_ticked.entries key).history r ≡ at (first_ticking.entries key).history r = same_count swept_twice second_sweep.calm_after first_ticking runs_first_ticking first_tick.fate in
                    let n1 = is_n swept_again lead last_ticking r runs_last_ticking in let n2 = is_n ticked_once lead first_ticked r runs_first_ticked in let n3 = full_swept_again.0 r in
                    let h = more in omega arith

                with_mark : MarkAt r V.number (λ t. ⊥) (first_ticked.entries key) → is_pruned (first_ticked.entries key).history r ≡ false → MarkAt r V.number (λ t. is_member V t ≡ true) (last_ticking.entries key)
                with_mark m unpruned =
                    let s = sweep_marks D members keys V lead lead_member swept_last.events tells key decl declared others are_others ticked_once first_tick.calm_after ran_ticked_once met_swept_again end_swept_again.0 end_swept_again.1 r (λ t. ⊥) small_r first_ticked runs_first_ticked covered_ticked_once each_has unpruned m in
                    let same : s.e ≡ last_ticking = same_some (swept_again.world.nodes lead) s.e last_ticking s.runs_e runs_last_ticking in
                    let own = sees_own D members keys V swept_again.world third_sweep.calm_after lead s.e s.runs_e key r s.marked.mark s.marked.is (let z = s.marked.now in omega arith) in
                    subst (λ (x : Node Kind Op Shown). MarkAt r V.number (λ t. is_member V t ≡ true) (x.entries key)) same
                    (record {
                      mark = s.marked.mark;
                      is = s.marked.is;
                      now = s.marked.now;
                      seen = λ t member. elim (eqb_tells t lead) [ inl is ↦ ap s.marked.mark.seen is.1 ∙ own | inr isnt ↦ s.marked.seen t (inl (among t member isnt.1)) ];
                    })

                by : (is_pruned (first_ticked.entries key).history r ≡ true) ⊎ MarkAt r V.number (λ t. ⊥) (first_ticked.entries key) → (is_pruned (last_ticking.entries key).history r ≡ true) ⊎ MarkAt r V.number (λ t. is_member V t ≡ true) (last_ticking.entries key)
                by (inl p) = inl (same_lead p)
                by (inr m) = is_or_isnt (is_pruned (first_ticked.entries key).history r) ((is_pruned (last_ticking.entries key).history r ≡ true) ⊎ MarkAt r V.number (λ t. is_member V t ≡ true) (last_ticking.entries key)) (λ p. inl (same_lead p)) (λ u. inr (with_mark m u))

            -- at the end it is pruned or blocked
            pub all_blocked : (e : Node Kind Op Shown) → swept_last.world.nodes lead ≡ Some e → 0 < at (e.entries key).history r → is_pruned (e.entries key).history r ≡ false → IsSome (D.data_type.blocked decl.kind lead r (e.entries key).history)
            all_blocked e runs more unpruned =
                let s = sweep_same D members keys V lead lead_member swept_last.events tells key decl declared others are_others ticked_twice last_tick.calm_after ran_ticked_twice met end_swept_last.0 end_swept_last.1 last_ticked runs_last_ticked covered_ticked_twice in
                let same : s.e ≡ e = same_some (swept_last.world.nodes lead) s.e e s.runs_e runs in
                let history : (e.entries key).history ≡ (last_ticked.entries key).history = ap (λ (x : Node Kind Op Shown). (x.entries key).history) (sym same) ∙ s.same in
                let count : at (e.entries key).history r ≡ at (last_ticking.entries key).history r = ap (λ (H : History Op). at H r) history ∙ same_count swept_again third_sweep.calm_after last_ticking runs_last_ticking last_tick.fate in
                let more_last_ticking : 0 < at (last_ticking.entries key).history r = omega arith in
                subst (λ (H : History Op). IsSome (D.data_type.blocked decl.kind lead r H)) (sym history)
                (by (blocked_or_pruned swept_again third_sweep.calm_after last_ticking runs_last_ticking last_tick.fate (all_stand more_last_ticking) more_last_ticking) (ap (λ (H : History Op). is_pruned H r) (sym history) ∙ unpruned))
              where
                by : (is_pruned (last_ticked.entries key).history r ≡ true) ⊎ IsSome (D.data_type.blocked decl.kind lead r (last_ticked.entries key).history) → is_pruned (last_ticked.entries key).history r ≡ false → IsSome (D.data_type.blocked decl.kind lead r (last_ticked.entries key).history)
                by (inl p) u = absurd (both_ways (is_pruned (last_ticked.entries key).history r) p u)
                by (inr b) u = b
