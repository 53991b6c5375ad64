-- The installs of a settle: then all running members have the last view.
use Rattle.std.proofs.Common.{◌≡◌, ◌≢◌, ℕ, ◌≤◌, List, [], ◌∷◌, ◌++◌, length, refl, sym, ap, subst, ◌∙◌, arith, Bool, true, false, Option, Some, inl, inr, append_assoc}
use Rattle.std.specs.Prelude.{if◌then◌else◌, slice_get, fold, nat_lt, nat_le, ◌==◌, ◌||◌}
use Rattle.std.specs.List.{list_any, AllByRecursion}
use Rattle.std.proofs.lemmas.Bool.Decides.{eqb_tells, nat_tests}
use Rattle.model_history.proofs.HistoryLaws.{append_nothing}
use Rattle.model_members.specs.View.{View, is_member, identities_of}
use Rattle.model_members.specs.DataType.{Replication}
use Rattle.model_members.specs.Node.{KeyDecl, Node, Fate, Stepped, one_step_later}
use Rattle.model_members.specs.Node.Input.{Install}
use Rattle.model_members.specs.Node.Reply.{OldView, NotStored, Installed}
use Rattle.model_members.specs.Step.{step, answered, has_failed}
use Rattle.model_members.specs.World.{World, Event, views_of}
use Rattle.model_members.specs.World.Event.{InputAt}
use Rattle.model_members.specs.Script.{Ask, Playing, given, unless_full, has_met_full, posted, install_last, is_older}
use Rattle.model_members.specs.Script.Head.{Asked}
use Rattle.model_members.specs.Entry.{seen_by}
use Rattle.theorem_runs.proofs.RunViews.{same_some, at_most_last}
use Rattle.theorem_operations.proofs.Moments.{Stands, stands_next, safe_at, view_stays}
use Rattle.theorem_operations.proofs.Calm.{IsCalm}
use Rattle.theorem_settling.proofs.PlayedSteps.{Did, Runs, did_runs, did_posted, did_here, did_other, given_steps, unless_is}
use Rattle.theorem_settling.proofs.SweepFolds.{Among}

module _ {Kind Op Shown : Type 0} (D : Replication Kind Op Shown) (members : ℕ) (keys : List (KeyDecl Kind)) (V : View) where
  -- a world whose last view is V
  pub record Lasts (world : World Kind Op Shown) : Type 0 where
    pub stands : Stands D members keys world
    pub view : world.view ≡ V

  pub record InstalledOne (i : ℕ) (p q : Playing Kind Op Shown) : Type 0 where
    pub lasts : Lasts q.world
    pub ran : Runs D members keys p → Runs D members keys q
    pub more : List (Event Op)
    pub events : q.events ≡ p.events ++ more
    pub silent : posted q ≡ posted p
    pub others : (t : ℕ) → t ≢ i → q.world.nodes t ≡ p.world.nodes t
    pub has_view : (n : Node Kind Op Shown) → q.world.nodes i ≡ Some n → n.view ≡ V

  last_there : (views : List View) (view : View) → slice_get (views ++ view ∷ []) (length views) ≡ Some view
  last_there [] view = refl
  last_there (v ∷ views) view = last_there views view

  -- what an install of a later view does
  install_step : (n : Node Kind Op Shown) (fate : Fate) → nat_lt n.view.number V.number ≡ true → ((step D n (Install V) fate).node.view ≡ V) × ((step D n (Install V) fate).output.posts ≡ [])
  install_step n fate older = (ap (λ (s : Stepped Kind Op Shown). s.node.view) is, ap (λ (s : Stepped Kind Op Shown). s.output.posts) is)
    where
      not_le : nat_lt n.view.number V.number ≡ true → nat_le V.number n.view.number ≡ false
      not_le e = grind (arith, nat_tests)

      is : step D n (Install V) fate ≡ answered (record (one_step_later n) { view = V; entries = λ key. seen_by n.identity V.number (n.entries key) }) (if has_failed fate then NotStored else Installed)
      is = ap (λ b. if b then answered (one_step_later n) OldView else answered (record (one_step_later n) { view = V; entries = λ key. seen_by n.identity V.number (n.entries key) }) (if has_failed fate then NotStored else Installed)) (not_le older)

  abbrev inst : ℕ → View → Playing Kind Op Shown → Playing Kind Op Shown
  inst i view q = given D q (Asked i (Ask.Install view.number)) (InputAt i (Install view))

  install_met : (p : Playing Kind Op Shown) (i : ℕ) → has_met_full (install_last D p i) ≡ false → has_met_full p ≡ false
  install_met p i = by (is_older D p.world.view (p.world.nodes i))
    where
      by : (b : Bool) → has_met_full (if b then unless_full D (inst i p.world.view) p else p) ≡ false → has_met_full p ≡ false
      by true e = (unless_is D members keys (inst i p.world.view) p e).1
      by false e = e

  install_one : (p : Playing Kind Op Shown) (i : ℕ) → Lasts p.world → is_member V i ≡ true → has_met_full (install_last D p i) ≡ false → InstalledOne i p (install_last D p i)
  install_one p i lasts member =
      let r = (safe_at D members keys p.world lasts.stands).views.all_run.runs i (ap (λ (v : View). is_member v i) lasts.view ∙ member) in
      subst (λ (v : View). has_met_full (if is_older D v (p.world.nodes i) then unless_full D (inst i v) p else p) ≡ false → InstalledOne i p (if is_older D v (p.world.nodes i) then unless_full D (inst i v) p else p)) (sym lasts.view)
      (subst (λ (o : Option (Node Kind Op Shown)). has_met_full (if is_older D V o then unless_full D (inst i V) p else p) ≡ false → InstalledOne i p (if is_older D V o then unless_full D (inst i V) p else p)) (sym r.1)
      (by r.0 r.1 (nat_lt r.0.view.number V.number) refl))
    where
      by : (n : Node Kind Op Shown) → p.world.nodes i ≡ Some n → (b : Bool) → nat_lt n.view.number V.number ≡ b → has_met_full (if b then unless_full D (inst i V) p else p) ≡ false → InstalledOne i p (if b then unless_full D (inst i V) p else p)
      by n runs true older e =
          let u = unless_is D members keys (inst i V) p e in
          let listed : slice_get (views_of p.world) (length p.world.earlier) ≡ Some V = last_there p.world.earlier p.world.view ∙ ap Some lasts.view in
          let s = given_steps D members keys p (Asked i (Ask.Install V.number)) i (Install V) n (length p.world.earlier, listed) runs (ap has_met_full (sym u.0) ∙ e) in
          let d : Did D members keys p (unless_full D (inst i V) p) i (step D n (Install V) s.fate) = subst (λ (q : Playing Kind Op Shown). Did D members keys p q i (step D n (Install V) s.fate)) (sym u.0) s.does in
          let does = install_step n s.fate older in
          record {
            lasts = record {
              stands = subst (Stands D members keys) (sym d.world) (stands_next D members keys p.world lasts.stands d.event d.lawful);
              view = ap (λ (w : World Kind Op Shown). w.view) d.world ∙ view_stays D p.world d.event d.keeps ∙ lasts.view;
            };
            ran = did_runs D members keys p (unless_full D (inst i V) p) i (step D n (Install V) s.fate) d;
            more = d.event ∷ [];
            events = d.events;
            silent = let a = did_posted D members keys p (unless_full D (inst i V) p) i (step D n (Install V) s.fate) d in let b : length (step D n (Install V) s.fate).output.posts ≡ 0 = ap length does.1 in omega arith;
            others = did_other D members keys p (unless_full D (inst i V) p) i (step D n (Install V) s.fate) d;
            has_view = λ m f. ap (λ (x : Node Kind Op Shown). x.view) (same_some ((unless_full D (inst i V) p).world.nodes i) m (step D n (Install V) s.fate).node f (did_here D members keys p (unless_full D (inst i V) p) i (step D n (Install V) s.fate) d)) ∙ does.0;
          }
      by n runs false not_older e =
          record {
            lasts = lasts;
            ran = λ r. r;
            more = [];
            events = sym (append_nothing p.events);
            silent = refl;
            others = λ t o. refl;
            has_view = λ m f. ap (λ (x : Node Kind Op Shown). x.view) (same_some (p.world.nodes i) m n f runs) ∙ here;
          }
        where
          at_least : nat_lt n.view.number V.number ≡ false → V.number ≤ n.view.number
          at_least e = grind (arith, nat_tests)

          here : n.view ≡ V
          here =
              let safe = safe_at D members keys p.world lasts.stands in
              let well = safe.views.running i n runs in
              let a = at_most_last (views_of p.world) p.world.view safe.views.views n.view.number n.view well.viewed in
              let b : p.world.view.number ≡ V.number = ap (λ (v : View). v.number) lasts.view in
              let c = at_least not_older in
              let same : n.view.number ≡ p.world.view.number = omega arith in
              same_some (slice_get (views_of p.world) p.world.view.number) n.view p.world.view (ap (slice_get (views_of p.world)) (sym same) ∙ well.viewed) safe.views.views.listed ∙ lasts.view

  pub record InstalledAll (is : List ℕ) (p q : Playing Kind Op Shown) : Type 0 where
    pub lasts : Lasts q.world
    pub not_met : has_met_full p ≡ false
    pub ran : Runs D members keys p → Runs D members keys q
    pub more : List (Event Op)
    pub events : q.events ≡ p.events ++ more
    pub silent : posted q ≡ posted p
    pub others : (t : ℕ) → (Among is t → ⊥) → q.world.nodes t ≡ p.world.nodes t
    pub has_view : (t : ℕ) → Among is t → (n : Node Kind Op Shown) → q.world.nodes t ≡ Some n → n.view ≡ V

  installs_met : (is : List ℕ) (p : Playing Kind Op Shown) → has_met_full (fold (install_last D) p is) ≡ false → has_met_full p ≡ false
  installs_met [] p e = e
  installs_met (i ∷ is) p e = install_met p i (installs_met is (install_last D p i) e)

  pub installs : (is : List ℕ) → AllByRecursion (λ i. is_member V i ≡ true) is → (p : Playing Kind Op Shown) → Lasts p.world → has_met_full (fold (install_last D) p is) ≡ false → InstalledAll is p (fold (install_last D) p is)
  installs [] all p lasts e = record { lasts = lasts; not_met = e; ran = λ r. r; more = []; events = sym (append_nothing p.events); silent = refl; others = λ t h. refl; has_view = λ t m. absurd (cc m) }
  installs (i ∷ is) all p lasts e =
      let met = installs_met is (install_last D p i) e in
      let x = install_one p i lasts all.0 met in
      let s = installs is all.1 (install_last D p i) x.lasts e in
      record {
        lasts = s.lasts;
        not_met = install_met p i met;
        ran = λ r. s.ran (x.ran r);
        more = x.more ++ s.more;
        events = s.events ∙ ap (λ es. es ++ s.more) x.events ∙ append_assoc p.events x.more s.more;
        silent = s.silent ∙ x.silent;
        others = λ t h. s.others t (λ m. h (rest (i == t) t m)) ∙ x.others t (λ f. h (first t f));
        has_view = λ t m n f. by t m n f (list_any (λ j. j == t) is) refl s.has_view s.others x.has_view;
      }
    where
      rest : (b : Bool) (t : ℕ) → Among is t → (b || list_any (λ j. j == t) is) ≡ true
      rest true t f = refl
      rest false t f = f

      first : (t : ℕ) → t ≡ i → Among (i ∷ is) t
      first t e = elim (eqb_tells i t) [ inl h ↦ ap (λ b. b || list_any (λ j. j == t) is) h.0 | inr h ↦ absurd (h.1 (sym e)) ]

      by : (t : ℕ) → Among (i ∷ is) t → (n : Node Kind Op Shown) → (fold (install_last D) p (i ∷ is)).world.nodes t ≡ Some n → (b : Bool) → list_any (λ j. j == t) is ≡ b
          → ((t : ℕ) → Among is t → (n : Node Kind Op Shown) → (fold (install_last D) p (i ∷ is)).world.nodes t ≡ Some n → n.view ≡ V) → ((t : ℕ) → (Among is t → ⊥) → (fold (install_last D) p (i ∷ is)).world.nodes t ≡ (install_last D p i).world.nodes t)
          → ((n : Node Kind Op Shown) → (install_last D p i).world.nodes i ≡ Some n → n.view ≡ V) → n.view ≡ V
      by t m n f true is' view others here = view t is' n f
      by t m n f false none view others here =
          let t_is : t ≡ i = elim (eqb_tells i t) [ inl h ↦ sym h.1 | inr h ↦ absurd (let g = sym m ∙ ap (λ b. b || list_any (λ j. j == t) is) h.0 ∙ none in cc g) ] in
          here n (ap (install_last D p i).world.nodes (sym t_is) ∙ sym (others t (λ m'. let g = sym m' ∙ none in cc g)) ∙ f)

  -- then all have the view
  pub calm_then : (p q : Playing Kind Op Shown) → InstalledAll (identities_of V) p q → IsCalm D members keys V q.world
  calm_then p q s =
      record {
        stands = s.lasts.stands;
        view = s.lasts.view;
        installed = λ t n e. s.has_view t (ap (λ (v : View). is_member v t) (sym s.lasts.view) ∙ ((safe_at D members keys q.world s.lasts.stands).views.running t n e).last) n e;
      }
