-- A whole sweep: after it the leader has what anyone had, and where it had that before, everyone has it.
use Rattle.std.proofs.Common.{◌≡◌, ◌≢◌, ℕ, ◌+◌, ◌*◌, ◌<◌, ◌≤◌, max, List, [], ◌∷◌, ◌++◌, length, refl, sym, ap, subst, ◌∙◌, arith, Bool, true, false, Some, ◌⊎◌, inl, inr, append_assoc}
use Rattle.std.specs.Prelude.{fold, ◌==◌, ◌||◌, find}
use Rattle.std.specs.List.{list_any, AllByRecursion}
use Rattle.std.specs.Str.{bytes_eq}
use Rattle.std.proofs.lemmas.Bool.Decides.{eqb_tells}
use Rattle.model_history.specs.Table.{identity_limit}
use Rattle.model_history.specs.Texts.{Text}
use Rattle.model_history.specs.History.{History, at, is_pruned}
use Rattle.model_history.proofs.HistoryLaws.{append_nothing}
use Rattle.model_members.specs.View.{View, is_member}
use Rattle.model_members.specs.Entry.{has_records}
use Rattle.model_members.specs.DataType.{Replication}
use Rattle.model_members.specs.Node.{KeyDecl, Node}
use Rattle.model_members.specs.Node.Input.{GossipTo}
use Rattle.model_members.specs.World.{World, Event}
use Rattle.model_members.specs.Script.{Ask, Playing, exchange, given, unless_full, deliver_last, has_met_full, posted}
use Rattle.model_members.specs.Script.Head.{Asked}
use Rattle.model_members.specs.World.Event.{InputAt}
use Rattle.theorem_settling.specs.Settling.{DigestsTell}
use Rattle.theorem_operations.proofs.Moments.{safe_at}
use Rattle.theorem_operations.proofs.Calm.{IsCalm}
use Rattle.theorem_settling.proofs.Merging.{MarkAt, OneMore, mark_weaker}
use Rattle.theorem_settling.proofs.PlayedSteps.{Runs, unless_is, last_is}
use Rattle.theorem_settling.proofs.Exchanges.{Exchanged, exchanged}
use Rattle.theorem_settling.proofs.Sweeps.{counted, member_count, leader_count, leader_same, leader_marked, has_if}

-- among these
abbrev pub Among : List ℕ → ℕ → Type 0
Among is t = list_any (λ j. j == t) is ≡ true

module _ {Kind Op Shown : Type 0} (D : Replication Kind Op Shown) (members : ℕ) (keys : List (KeyDecl Kind)) (V : View) (lead : ℕ) (lead_member : is_member V lead ≡ true) where
  abbrev Calm : World Kind Op Shown → Type 0
  Calm world = IsCalm D members keys V world

  abbrev Ran : Playing Kind Op Shown → Type 0
  Ran p = Runs D members keys p

  abbrev swept : Playing Kind Op Shown → List ℕ → Playing Kind Op Shown
  swept p is = fold (exchange D lead) p is

  -- every member runs
  pub runs_of : (world : World Kind Op Shown) → Calm world → (t : ℕ) → is_member V t ≡ true → (n : Node Kind Op Shown) × (world.nodes t ≡ Some n)
  runs_of world calm t m = (safe_at D members keys world calm.stands).views.all_run.runs t (ap (λ (v : View). is_member v t) calm.view ∙ m)

  exchange_met : (p : Playing Kind Op Shown) (i : ℕ) → has_met_full (exchange D lead p i) ≡ false → has_met_full p ≡ false
  exchange_met p i e =
      let one = unless_full D (λ q. given D q (Asked i (Ask.Gossip lead)) (InputAt i (GossipTo lead))) p in
      let two = deliver_last D (posted p) i lead one in
      let three = deliver_last D (posted one) lead i two in
      let a = (last_is D members keys (posted two) i lead three e).1 in
      let b = (last_is D members keys (posted one) lead i two a).1 in
      let c = (last_is D members keys (posted p) i lead one b).1 in
      (unless_is D members keys (λ q. given D q (Asked i (Ask.Gossip lead)) (InputAt i (GossipTo lead))) p c).1

  pub sweep_met : (is : List ℕ) (p : Playing Kind Op Shown) → has_met_full (swept p is) ≡ false → has_met_full p ≡ false
  sweep_met [] p e = e
  sweep_met (i ∷ is) p e = exchange_met p i (sweep_met is (exchange D lead p i) e)

  -- members but the leader
  abbrev pub AreOthers : List ℕ → Type 0
  AreOthers is = AllByRecursion (λ i. (i ≢ lead) × (is_member V i ≡ true)) is

  one : (p : Playing Kind Op Shown) (calm : Calm p.world) (i : ℕ) (other : i ≢ lead) (member : is_member V i ≡ true) → has_met_full (exchange D lead p i) ≡ false
      → Exchanged D members keys V lead i other member lead_member p calm (runs_of p.world calm i member).0 (runs_of p.world calm lead lead_member).0 (runs_of p.world calm i member).1 (runs_of p.world calm lead lead_member).1 (exchange D lead p i)
  one p calm i other member e = exchanged D members keys V lead i other member lead_member p calm (runs_of p.world calm i member).0 (runs_of p.world calm lead lead_member).0 (runs_of p.world calm i member).1 (runs_of p.world calm lead lead_member).1 e

  pub record Swept (is : List ℕ) (p q : Playing Kind Op Shown) : Type 0 where
    pub calm_after : Calm q.world
    pub sent_few : posted q ≤ posted p + 3 * length is
    pub more : List (Event Op)
    pub events : q.events ≡ p.events ++ more
    pub ran : Ran p → Ran q
    pub untouched : (t : ℕ) → (Among is t → ⊥) → t ≢ lead → q.world.nodes t ≡ p.world.nodes t

  not_here : (i : ℕ) (is : List ℕ) (t : ℕ) → (Among (i ∷ is) t → ⊥) → (t ≢ i) × (Among is t → ⊥)
  not_here i is t h = ((λ e. h (first e)), λ e. h (rest (i == t) e))
    where
      first : t ≡ i → Among (i ∷ is) t
      first e = elim (eqb_tells i t) [ inl is' ↦ ap (λ b. b || list_any (λ j. j == t) is) is'.0 | inr isnt ↦ absurd (isnt.1 (sym e)) ]

      rest : (b : Bool) → Among is t → (b || list_any (λ j. j == t) is) ≡ true
      rest true e = refl
      rest false e = e

  pub sweep_does : (is : List ℕ) → AreOthers is → (p : Playing Kind Op Shown) → Calm p.world → has_met_full (swept p is) ≡ false → Swept is p (swept p is)
  sweep_does [] others p calm e = record { calm_after = calm; sent_few = omega arith; more = []; events = sym (append_nothing p.events); ran = λ r. r; untouched = λ t h o. refl }
  sweep_does (i ∷ is) others p calm e =
      let x = one p calm i others.0.0 others.0.1 (sweep_met is (exchange D lead p i) e) in
      let s = sweep_does is others.1 (exchange D lead p i) x.calm_after e in
      record {
        calm_after = s.calm_after;
        sent_few = let a = x.sent_few in let b = s.sent_few in omega arith;
        more = x.more ++ s.more;
        events = s.events ∙ ap (λ es. es ++ s.more) x.events ∙ append_assoc p.events x.more s.more;
        ran = λ r. s.ran (x.ran r);
        untouched = λ t h o. let n = not_here i is t h in s.untouched t n.1 o ∙ x.others t n.0 o;
      }

  -- HOW MANY RECORDS

  -- digests tell in each world of a run that goes on so
  abbrev pub TellsUntil : List (Event Op) → Type 0
  TellsUntil final = (x : Playing Kind Op Shown) → Ran x → (later : List (Event Op)) → final ≡ x.events ++ later → DigestsTell D x.world

  module _ (final : List (Event Op)) (tells : TellsUntil final) (key : Text) (decl : KeyDecl Kind) (declared : find (λ (d : KeyDecl Kind). bytes_eq d.name key) keys ≡ Some decl) where
    -- how many records of an origin a member has of the key
    abbrev pub N : Playing Kind Op Shown → ℕ → ℕ → ℕ
    N p t o = counted D members keys V (p.world.nodes t) key o

    pub N_is : (p : Playing Kind Op Shown) (t : ℕ) (n : Node Kind Op Shown) (o : ℕ) → p.world.nodes t ≡ Some n → N p t o ≡ at (n.entries key).history o
    N_is p t n o e = ap (λ x. counted D members keys V x key o) e

    pub record Counts (is : List ℕ) (p q : Playing Kind Op Shown) : Type 0 where
      pub grows : (o : ℕ) → N p lead o ≤ N q lead o
      pub covered : (t : ℕ) → Among is t → (o : ℕ) → N q t o ≤ N q lead o
      pub full : ((t : ℕ) → Among is t → (o : ℕ) → N p t o ≤ N p lead o) → ((o : ℕ) → N q lead o ≡ N p lead o) × ((t : ℕ) → Among is t → (o : ℕ) → N q t o ≡ N q lead o)

    pub sweep_counts : (is : List ℕ) → AreOthers is → (p : Playing Kind Op Shown) → Calm p.world → Ran p → has_met_full (swept p is) ≡ false → (later : List (Event Op)) → final ≡ (swept p is).events ++ later → Counts is p (swept p is)
    sweep_counts [] others p calm ran e later ends = record { grows = λ o. omega arith; covered = λ t h o. absurd (cc h); full = λ h. ((λ o. refl), λ t m o. absurd (cc m)) }
    sweep_counts (i ∷ is) others p calm ran e later ends =
        by (one p calm i others.0.0 others.0.1 (sweep_met is (exchange D lead p i) e)) (λ c r. sweep_counts is others.1 (exchange D lead p i) c r e later ends) (λ c. sweep_does is others.1 (exchange D lead p i) c e)
      where
        p1 : Playing Kind Op Shown
        p1 = exchange D lead p i

        by : Exchanged D members keys V lead i others.0.0 others.0.1 lead_member p calm (runs_of p.world calm i others.0.1).0 (runs_of p.world calm lead lead_member).0 (runs_of p.world calm i others.0.1).1 (runs_of p.world calm lead lead_member).1 (exchange D lead p i)
            → (Calm (exchange D lead p i).world → Ran (exchange D lead p i) → Counts is (exchange D lead p i) (swept p (i ∷ is))) → (Calm (exchange D lead p i).world → Swept is (exchange D lead p i) (swept p (i ∷ is))) → Counts (i ∷ is) p (swept p (i ∷ is))
        by x counts does =
            let a = runs_of p.world calm i others.0.1 in
            let b = runs_of p.world calm lead lead_member in
            let rest = counts x.calm_after (x.ran ran) in
            let s = does x.calm_after in
            let here : DigestsTell D p.world =
            tells p ran (x.more ++ s.more ++ later)
            (ends ∙ ap (λ es. es ++ later) (s.events ∙ ap (λ es. es ++ s.more) x.events) ∙ ap (λ es. es ++ later) (append_assoc p.events x.more s.more) ∙ append_assoc p.events (x.more ++ s.more) later) in
            let C : (o : ℕ) → N (exchange D lead p i) i o ≡ max (N p i o) (N p lead o) = (λ o.
            let m = member_count D members keys V lead i others.0.0 others.0.1 lead_member p calm a.0 b.0 a.1 b.1 (exchange D lead p i) x here key decl declared o in
            let n1 = N_is (exchange D lead p i) i x.c o x.runs_c in let n2 = N_is p i a.0 o a.1 in let n3 = N_is p lead b.0 o b.1 in omega arith) in
            let L : (o : ℕ) → N (exchange D lead p i) lead o ≡ max (N p i o) (N p lead o) = (λ o.
            let m = leader_count D members keys V lead i others.0.0 others.0.1 lead_member p calm a.0 b.0 a.1 b.1 (exchange D lead p i) x here key decl declared o in
            let n1 = N_is (exchange D lead p i) lead x.e o x.runs_e in let n2 = N_is p i a.0 o a.1 in let n3 = N_is p lead b.0 o b.1 in omega arith) in
            finish x.others rest s C L
          where
            finish : ((t : ℕ) → t ≢ i → t ≢ lead → (exchange D lead p i).world.nodes t ≡ p.world.nodes t) → Counts is (exchange D lead p i) (swept p (i ∷ is)) → Swept is (exchange D lead p i) (swept p (i ∷ is))
                → ((o : ℕ) → N (exchange D lead p i) i o ≡ max (N p i o) (N p lead o)) → ((o : ℕ) → N (exchange D lead p i) lead o ≡ max (N p i o) (N p lead o)) → Counts (i ∷ is) p (swept p (i ∷ is))
            finish kept rest s C L =
                record {
                  grows = λ o. let u = rest.grows o in let w = L o in omega arith;
                  covered = λ t m o. by_rest t m o (list_any (λ j. j == t) is) refl;
                  full = λ h. whole h;
                }
              where
                this_one : (t : ℕ) → Among (i ∷ is) t → list_any (λ j. j == t) is ≡ false → t ≡ i
                this_one t m none = elim (eqb_tells i t) [ inl h ↦ sym h.1 | inr h ↦ absurd (let f = sym m ∙ ap (λ b. b || list_any (λ j. j == t) is) h.0 ∙ none in cc f) ]

                same_i : (o : ℕ) → list_any (λ j. j == i) is ≡ false → N (swept p (i ∷ is)) i o ≡ N (exchange D lead p i) i o
                same_i o none = ap (λ n. counted D members keys V n key o) (s.untouched i (λ m. let f = sym m ∙ none in absurd (cc f)) others.0.0)

                by_rest : (t : ℕ) → Among (i ∷ is) t → (o : ℕ) → (b : Bool) → list_any (λ j. j == t) is ≡ b → N (swept p (i ∷ is)) t o ≤ N (swept p (i ∷ is)) lead o
                by_rest t m o true is' = rest.covered t is' o
                by_rest t m o false none =
                    let t_is = this_one t m none in
                    subst (λ u. N (swept p (i ∷ is)) u o ≤ N (swept p (i ∷ is)) lead o) (sym t_is)
                    (let u = same_i o (ap (λ u. list_any (λ j. j == u) is) (sym t_is) ∙ none) in let w = rest.grows o in let y = C o in let z = L o in omega arith)

                whole : ((t : ℕ) → Among (i ∷ is) t → (o : ℕ) → N p t o ≤ N p lead o) → ((o : ℕ) → N (swept p (i ∷ is)) lead o ≡ N p lead o) × ((t : ℕ) → Among (i ∷ is) t → (o : ℕ) → N (swept p (i ∷ is)) t o ≡ N (swept p (i ∷ is)) lead o)
                whole h =
                    let i_here : Among (i ∷ is) i = elim (eqb_tells i i) [ inl e ↦ ap (λ b. b || list_any (λ j. j == i) is) e.0 | inr e ↦ absurd (e.1 refl) ] in
                    let less : (o : ℕ) → N p i o ≤ N p lead o = h i i_here in
                    let lead_same : (o : ℕ) → N (exchange D lead p i) lead o ≡ N p lead o = (λ o. let u = L o in let w = less o in omega arith) in
                    let premise : (t : ℕ) → Among is t → (o : ℕ) → N (exchange D lead p i) t o ≤ N (exchange D lead p i) lead o = (λ t m o. before t m o lead_same less (eqb_tells t i) (eqb_tells t lead)) in
                    let r = rest.full premise in (
                      (λ o. r.0 o ∙ lead_same o),
                      λ t m o. at_end t m o r.1 (list_any (λ j. j == t) is) refl lead_same less r.0,
                    )
                  where
                    before : (t : ℕ) → Among is t → (o : ℕ) → ((o : ℕ) → N (exchange D lead p i) lead o ≡ N p lead o) → ((o : ℕ) → N p i o ≤ N p lead o) → (((t == i) ≡ true) × (t ≡ i)) ⊎ (((t == i) ≡ false) × (t ≢ i)) → (((t == lead) ≡ true) × (t ≡ lead)) ⊎ (((t == lead) ≡ false) × (t ≢ lead))
                        → N (exchange D lead p i) t o ≤ N (exchange D lead p i) lead o
                    before t m o lead_same less (inl e) l = subst (λ u. N (exchange D lead p i) u o ≤ N (exchange D lead p i) lead o) (sym e.1) (let u = C o in let w = L o in omega arith)
                    before t m o lead_same less (inr e) (inl l) = subst (λ u. N (exchange D lead p i) u o ≤ N (exchange D lead p i) lead o) (sym l.1) (omega arith)
                    before t m o lead_same less (inr e) (inr l) =
                        let same : N (exchange D lead p i) t o ≡ N p t o = ap (λ n. counted D members keys V n key o) (kept t e.1 l.1) in
                        let u = h t (later_one (i == t) m) o in let w = lead_same o in omega arith
                      where
                        later_one : (b : Bool) → Among is t → (b || list_any (λ j. j == t) is) ≡ true
                        later_one true f = refl
                        later_one false f = f

                    at_end : (t : ℕ) → Among (i ∷ is) t → (o : ℕ) → ((t : ℕ) → Among is t → (o : ℕ) → N (swept p (i ∷ is)) t o ≡ N (swept p (i ∷ is)) lead o) → (b : Bool) → list_any (λ j. j == t) is ≡ b → ((o : ℕ) → N (exchange D lead p i) lead o ≡ N p lead o) → ((o : ℕ) → N p i o ≤ N p lead o)
                        → ((o : ℕ) → N (swept p (i ∷ is)) lead o ≡ N (exchange D lead p i) lead o) → N (swept p (i ∷ is)) t o ≡ N (swept p (i ∷ is)) lead o
                    at_end t m o r true is' lead_same less r0 = r t is' o
                    at_end t m o r false none lead_same less r0 =
                        let t_is = this_one t m none in
                        subst (λ u. N (swept p (i ∷ is)) u o ≡ N (swept p (i ∷ is)) lead o) (sym t_is)
                        (let u = same_i o (ap (λ u. list_any (λ j. j == u) is) (sym t_is) ∙ none) in let y = C o in let z = less o in let w = lead_same o in let x = r0 o in omega arith)

    -- THE LEADER'S MARKS

    later_one : (b : Bool) (is : List ℕ) (t : ℕ) → Among is t → (b || list_any (λ j. j == t) is) ≡ true
    later_one true is t f = refl
    later_one false is t f = f

    -- after one exchange those that are left have still no more than the leader, and nobody has less than before
    record AfterOne (i : ℕ) (is : List ℕ) (p q : Playing Kind Op Shown) : Type 0 where
      less : (t : ℕ) → Among is t → (o : ℕ) → N q t o ≤ N q lead o
      no_less : (t : ℕ) → Among is t → (o : ℕ) → N p t o ≤ N q t o

    after_one : (i : ℕ) (other : i ≢ lead) (member : is_member V i ≡ true) (is : List ℕ) (p : Playing Kind Op Shown) (calm : Calm p.world) (a b : Node Kind Op Shown) (ra : p.world.nodes i ≡ Some a) (rb : p.world.nodes lead ≡ Some b)
        (x : Exchanged D members keys V lead i other member lead_member p calm a b ra rb (exchange D lead p i)) → DigestsTell D p.world → ((t : ℕ) → Among (i ∷ is) t → (o : ℕ) → N p t o ≤ N p lead o) → AfterOne i is p (exchange D lead p i)
    after_one i other member is p calm a b ra rb x here h =
        record { less = λ t m o. (by t m o (eqb_tells t i) (eqb_tells t lead)).0; no_less = λ t m o. (by t m o (eqb_tells t i) (eqb_tells t lead)).1 }
      where
        C : (o : ℕ) → N (exchange D lead p i) i o ≡ max (N p i o) (N p lead o)
        C o =
            let m = member_count D members keys V lead i other member lead_member p calm a b ra rb (exchange D lead p i) x here key decl declared o in
            let n1 = N_is (exchange D lead p i) i x.c o x.runs_c in let n2 = N_is p i a o ra in let n3 = N_is p lead b o rb in omega arith

        L : (o : ℕ) → N (exchange D lead p i) lead o ≡ max (N p i o) (N p lead o)
        L o =
            let m = leader_count D members keys V lead i other member lead_member p calm a b ra rb (exchange D lead p i) x here key decl declared o in
            let n1 = N_is (exchange D lead p i) lead x.e o x.runs_e in let n2 = N_is p i a o ra in let n3 = N_is p lead b o rb in omega arith

        by : (t : ℕ) → Among is t → (o : ℕ) → (((t == i) ≡ true) × (t ≡ i)) ⊎ (((t == i) ≡ false) × (t ≢ i)) → (((t == lead) ≡ true) × (t ≡ lead)) ⊎ (((t == lead) ≡ false) × (t ≢ lead)) → (N (exchange D lead p i) t o ≤ N (exchange D lead p i) lead o) × (N p t o ≤ N (exchange D lead p i) t o)
        by t m o (inl e) l = subst (λ u. (N (exchange D lead p i) u o ≤ N (exchange D lead p i) lead o) × (N p u o ≤ N (exchange D lead p i) u o)) (sym e.1) (let u = C o in let w = L o in (omega arith, omega arith))
        by t m o (inr e) (inl l) = subst (λ u. (N (exchange D lead p i) u o ≤ N (exchange D lead p i) lead o) × (N p u o ≤ N (exchange D lead p i) u o)) (sym l.1) (let w = L o in (omega arith, omega arith))
        by t m o (inr e) (inr l) =
            let same : N (exchange D lead p i) t o ≡ N p t o = ap (λ n. counted D members keys V n key o) (x.others t e.1 l.1) in
            let u = h t (later_one (i == t) is t m) o in let w = L o in (omega arith, omega arith)

    pub record Marked (is : List ℕ) (q : Playing Kind Op Shown) (b : Node Kind Op Shown) (r : ℕ) (S : ℕ → Type 0) : Type 0 where
      pub e : Node Kind Op Shown
      pub runs_e : q.world.nodes lead ≡ Some e
      pub same : (e.entries key).history ≡ (b.entries key).history
      pub marked : MarkAt r V.number (λ t. Among is t ⊎ S t) (e.entries key)

    pub sweep_marks : (is : List ℕ) → AreOthers is → (p : Playing Kind Op Shown) → Calm p.world → Ran p → has_met_full (swept p is) ≡ false → (later : List (Event Op)) → final ≡ (swept p is).events ++ later
        → (r : ℕ) (S : ℕ → Type 0) → r < identity_limit → (b : Node Kind Op Shown) → p.world.nodes lead ≡ Some b → ((t : ℕ) → Among is t → (o : ℕ) → N p t o ≤ N p lead o) → ((t : ℕ) → Among is t → 0 < N p t r) → is_pruned (b.entries key).history r ≡ false → MarkAt r V.number S (b.entries key)
        → Marked is (swept p is) b r S
    sweep_marks [] others p calm ran e later ends r S small b runs_b h some_r unpruned m =
        record { e = b; runs_e = runs_b; same = refl; marked = mark_weaker r V.number S (λ t. Among [] t ⊎ S t) (b.entries key) (λ t s. elim s [ inl f ↦ absurd (cc f) | inr g ↦ g ]) m }
    sweep_marks (i ∷ is) others p calm ran e later ends r S small b runs_b h some_r unpruned m =
        let met = sweep_met is (exchange D lead p i) e in
        let a = runs_of p.world calm i others.0.1 in
        let x = exchanged D members keys V lead i others.0.0 others.0.1 lead_member p calm a.0 b a.1 runs_b met in
        let s = sweep_does is others.1 (exchange D lead p i) x.calm_after e in
        let here : DigestsTell D p.world =
        tells p ran (x.more ++ s.more ++ later)
        (ends ∙ ap (λ es. es ++ later) (s.events ∙ ap (λ es. es ++ s.more) x.events) ∙ ap (λ es. es ++ later) (append_assoc p.events x.more s.more) ∙ append_assoc p.events (x.more ++ s.more) later) in
        let i_here : Among (i ∷ is) i = elim (eqb_tells i i) [ inl e ↦ ap (λ b. b || list_any (λ j. j == i) is) e.0 | inr e ↦ absurd (e.1 refl) ] in
        let less : (o : ℕ) → at (a.0.entries key).history o ≤ at (b.entries key).history o = (λ o. let u = h i i_here o in let n2 = N_is p i a.0 o a.1 in let n3 = N_is p lead b o runs_b in omega arith) in
        let some_a : has_records (a.0.entries key) ≡ true =
        has_if D members keys V p.world calm i a.0 a.1 key r small (let u = some_r i i_here in let n2 = N_is p i a.0 r a.1 in omega arith) in
        let same1 = leader_same D members keys V lead i others.0.0 others.0.1 lead_member p calm a.0 b a.1 runs_b (exchange D lead p i) x here key decl declared less in
        let marked1 = leader_marked D members keys V lead i others.0.0 others.0.1 lead_member p calm a.0 b a.1 runs_b (exchange D lead p i) x here key decl declared less r small S some_a unpruned m in
        let one = after_one i others.0.0 others.0.1 is p calm a.0 b a.1 runs_b x here h in
        let rest = sweep_marks is others.1 (exchange D lead p i) x.calm_after (x.ran ran) e later ends r (OneMore i S) small x.e x.runs_e one.less
        (λ t m'. let u = some_r t (later_one (i == t) is t m') in let w = one.no_less t m' r in omega arith) (ap (λ (H : History Op). is_pruned H r) same1 ∙ unpruned) marked1 in
        record {
          e = rest.e;
          runs_e = rest.runs_e;
          same = rest.same ∙ same1;
          marked = mark_weaker r V.number (λ t. Among is t ⊎ OneMore i S t) (λ t. Among (i ∷ is) t ⊎ S t) (rest.e.entries key) (λ t f. by t f (eqb_tells i t)) rest.marked;
        }
      where
        by : (t : ℕ) → Among (i ∷ is) t ⊎ S t → (((i == t) ≡ true) × (i ≡ t)) ⊎ (((i == t) ≡ false) × (i ≢ t)) → Among is t ⊎ OneMore i S t
        by t (inr g) c = inr (inr g)
        by t (inl f) (inl h) = inr (inl (sym h.1))
        by t (inl f) (inr h) = inl (sym (ap (λ b. b || list_any (λ j. j == t) is) h.0) ∙ f)

    -- the leader's history stays where nobody has more
    pub record SameHistory (q : Playing Kind Op Shown) (b : Node Kind Op Shown) : Type 0 where
      pub e : Node Kind Op Shown
      pub runs_e : q.world.nodes lead ≡ Some e
      pub same : (e.entries key).history ≡ (b.entries key).history

    pub sweep_same : (is : List ℕ) → AreOthers is → (p : Playing Kind Op Shown) → Calm p.world → Ran p → has_met_full (swept p is) ≡ false → (later : List (Event Op)) → final ≡ (swept p is).events ++ later
        → (b : Node Kind Op Shown) → p.world.nodes lead ≡ Some b → ((t : ℕ) → Among is t → (o : ℕ) → N p t o ≤ N p lead o) → SameHistory (swept p is) b
    sweep_same [] others p calm ran e later ends b runs_b h = record { e = b; runs_e = runs_b; same = refl }
    sweep_same (i ∷ is) others p calm ran e later ends b runs_b h =
        let met = sweep_met is (exchange D lead p i) e in
        let a = runs_of p.world calm i others.0.1 in
        let x = exchanged D members keys V lead i others.0.0 others.0.1 lead_member p calm a.0 b a.1 runs_b met in
        let s = sweep_does is others.1 (exchange D lead p i) x.calm_after e in
        let here : DigestsTell D p.world =
        tells p ran (x.more ++ s.more ++ later)
        (ends ∙ ap (λ es. es ++ later) (s.events ∙ ap (λ es. es ++ s.more) x.events) ∙ ap (λ es. es ++ later) (append_assoc p.events x.more s.more) ∙ append_assoc p.events (x.more ++ s.more) later) in
        let i_here : Among (i ∷ is) i = elim (eqb_tells i i) [ inl e ↦ ap (λ b. b || list_any (λ j. j == i) is) e.0 | inr e ↦ absurd (e.1 refl) ] in
        let less : (o : ℕ) → at (a.0.entries key).history o ≤ at (b.entries key).history o = (λ o. let u = h i i_here o in let n2 = N_is p i a.0 o a.1 in let n3 = N_is p lead b o runs_b in omega arith) in
        let same1 = leader_same D members keys V lead i others.0.0 others.0.1 lead_member p calm a.0 b a.1 runs_b (exchange D lead p i) x here key decl declared less in
        let one = after_one i others.0.0 others.0.1 is p calm a.0 b a.1 runs_b x here h in
        let rest = sweep_same is others.1 (exchange D lead p i) x.calm_after (x.ran ran) e later ends x.e x.runs_e one.less in
        record { e = rest.e; runs_e = rest.runs_e; same = rest.same ∙ same1 }
