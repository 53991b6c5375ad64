-- A sweep: how many records everyone has after it, and who stands in the leader's marks.
use Rattle.std.proofs.Common.{◌≡◌, ◌≢◌, ℕ, zero, suc, ◌<◌, ◌≤◌, max, List, [], ◌∷◌, length, take, refl, sym, ap, subst, ◌∙◌, arith, Bool, true, false, Option, Some, None, inl, inr}
use Rattle.std.specs.Prelude.{slice_get, fold, nat_lt, ◌||◌, find, if◌then◌else◌, ◌&&◌, not, ◌==◌}
use Rattle.std.specs.List.{list_any, list_all}
use Rattle.std.specs.Str.{bytes_eq}
use Rattle.std.proofs.lemmas.Bool.Decides.{nat_tests}
use Rattle.std.proofs.lemmas.Bool.{lt-ltb, ltb-true, cases_lt}
use Rattle.model_history.specs.Table.{identity_limit, identities}
use Rattle.model_history.specs.Texts.{Text}
use Rattle.model_history.specs.History.{History, at, union, is_pruned, IsPartOf}
use Rattle.model_history.proofs.HistoryLaws.{same_part, at-union}
use Rattle.model_history.proofs.PruneLaws.{IsIn, found, at_identities}
use Rattle.model_history.proofs.PartLaws.{part-le, part_trans, part_union, take_whole}
use Rattle.model_members.specs.View.{View, is_member}
use Rattle.model_members.specs.Entry.{Entry, Mark, has_records, is_unchanged, is_same_mark, same_set}
use Rattle.model_members.specs.DataType.{Replication}
use Rattle.model_members.specs.Node.{KeyDecl, Node, HasKey}
use Rattle.model_members.specs.Step.{named_entries, news_for, wanted_from}
use Rattle.model_members.specs.World.{World, views_of}
use Rattle.model_members.specs.Script.{Playing}
use Rattle.model_members.proofs.Taking.{taken_entry}
use Rattle.theorem_runs.proofs.Keeping.{same_text}
use Rattle.theorem_runs.proofs.Growth.{part_same, part_of_union}
use Rattle.theorem_runs.proofs.RunViews.{at_most_last}
use Rattle.theorem_settling.specs.Settling.{DigestsTell}
use Rattle.theorem_operations.proofs.Lists.{any_in, any_more, first_true, second_true, same_number}
use Rattle.theorem_operations.proofs.Moments.{variables_at, safe_at}
use Rattle.theorem_operations.proofs.Calm.{IsCalm}
use Rattle.theorem_settling.proofs.Merging.{Ordinary, MarkAt, UpTo, OneMore, takes_all, joined}
use Rattle.theorem_settling.proofs.Exchanging.{IsAlike, digests_of, member_has, leader_has, leader_marks, E, own_theirs}
use Rattle.theorem_settling.proofs.PlayedSteps.{Runs}
use Rattle.theorem_settling.proofs.Exchanges.{Exchanged, held_is_taken}

-- LISTS

any_false : {X : Type 0} (p : X → Bool) (xs : List X) → list_any p xs ≡ false → (x : X) → IsIn xs x → p x ≡ false
any_false p [] e x h = absurd (cc h.1)
any_false p (y ∷ xs) e x h = by (p y) refl e h.0 h.1 (λ f m. any_false p xs f x m)
  where
    by : (b : Bool) → p y ≡ b → (b || list_any p xs) ≡ false → (k : ℕ) → slice_get (y ∷ xs) k ≡ Some x → (list_any p xs ≡ false → IsIn xs x → p x ≡ false) → p x ≡ false
    by true is f k g later = absurd (cc f)
    by false is f zero g later = let same : y ≡ x = cc g in ap p (sym same) ∙ is
    by false is f (suc k) g later = later f (k, g)

-- more records, and there are some
pub some_more : {Op : Type 0} (x y : Entry Op) → ((o : ℕ) → at x.history o ≤ at y.history o) → has_records x ≡ true → has_records y ≡ true
some_more x y h e = any_more (λ o. nat_lt 0 (at x.history o)) (λ o. nat_lt 0 (at y.history o)) (λ o f. let a = ltb-true 0 (at x.history o) f in let b = h o in lt-ltb 0 (at y.history o) (omega arith)) identities e

all_true : {X : Type 0} (p : X → Bool) (xs : List X) → list_all p xs ≡ true → (x : X) → IsIn xs x → p x ≡ true
all_true p [] e x h = absurd (cc h.1)
all_true p (y ∷ xs) e x h = by (p y) refl e h.0 h.1 (λ f m. all_true p xs f x m)
  where
    by : (b : Bool) → p y ≡ b → (b && list_all p xs) ≡ true → (k : ℕ) → slice_get (y ∷ xs) k ≡ Some x → (list_all p xs ≡ true → IsIn xs x → p x ≡ true) → p x ≡ true
    by false is f k g later = absurd (cc f)
    by true is f zero g later = let same : y ≡ x = cc g in ap p (sym same) ∙ is
    by true is f (suc k) g later = later f (k, g)

-- marks that are the same have one view, and a member stands in both or in neither
same_marks : (i : ℕ) → i < identity_limit → (o : Option Mark) (m : Mark) → is_same_mark o (Some m) ≡ true → (n : Mark) × (o ≡ Some n) × (n.view ≡ m.view) × (n.seen i ≡ m.seen i)
same_marks i small None m e = absurd (cc e)
same_marks i small (Some n) m e =
    let both = first_true ((n.view == m.view) && (n.owner == m.owner)) (same_set n.seen m.seen) e in
    let sets = second_true ((n.view == m.view) && (n.owner == m.owner)) (same_set n.seen m.seen) e in (
      n,
      refl,
      same_number n.view m.view (first_true (n.view == m.view) (n.owner == m.owner) both),
      by (n.seen i) (m.seen i) (all_true (λ j. if n.seen j then m.seen j else not (m.seen j)) identities sets i (at_identities i small)),
    )
  where
    by : (a b : Bool) → (if a then b else not b) ≡ true → a ≡ b
    by true true e = refl
    by true false e = absurd (cc e)
    by false true e = absurd (cc e)
    by false false e = refl

module _ {Kind Op Shown : Type 0} (D : Replication Kind Op Shown) (members : ℕ) (keys : List (KeyDecl Kind)) (V : View) where
  abbrev Calm : World Kind Op Shown → Type 0
  Calm world = IsCalm D members keys V world

  abbrev Ran : Playing Kind Op Shown → Type 0
  Ran p = Runs D members keys p

  -- how many records of an origin a member has
  abbrev pub counted : Option (Node Kind Op Shown) → Text → ℕ → ℕ
  counted None key o = 0
  counted (Some n) key o = at (n.entries key).history o

  -- A CALM WORLD

  module _ (world : World Kind Op Shown) (calm : Calm world) (t : ℕ) (n : Node Kind Op Shown) (runs : world.nodes t ≡ Some n) where
    pub keys_are : n.keys ≡ keys
    keys_are = ((safe_at D members keys world calm.stands).views.running t n runs).keys ∙ calm.stands.same_keys

    -- there are no identities beyond the limit
    pub none_beyond : (key : Text) (o : ℕ) → identity_limit ≤ o → at (n.entries key).history o ≡ 0
    none_beyond key o large =
        let safe = safe_at D members keys world calm.stands in
        let variables = variables_at D members keys world calm.stands in
        let a = part-le (n.entries key).history (variables.made key) (safe.logs.held t n key runs).part o in
        let b : at (variables.made key) o ≡ 0 = ap length ((safe.logs.histories key).within o large) in
        omega arith

    pub is_small : t < identity_limit
    is_small = let safe = safe_at D members keys world calm.stands in let a = safe.logs.few in let b = safe.logs.given t n runs in omega arith

    pub no_more_than_some : (key : Text) → has_records (n.entries key) ≡ false → (o : ℕ) → at (n.entries key).history o ≡ 0
    no_more_than_some key none o = elim (cases_lt o identity_limit) [
      | inl small ↦
          let a = any_false (λ j. nat_lt 0 (at (n.entries key).history j)) identities none o (at_identities o small) in zero_if (at (n.entries key).history o) a
      | inr large ↦ none_beyond key o large
    ]
      where
        zero_if : (m : ℕ) → nat_lt 0 m ≡ false → m ≡ 0
        zero_if m e = grind (arith, nat_tests)

    pub has_if : (key : Text) (o : ℕ) → o < identity_limit → 0 < at (n.entries key).history o → has_records (n.entries key) ≡ true
    has_if key o small more = any_in (λ j. nat_lt 0 (at (n.entries key).history j)) identities o (at_identities o small) (lt-ltb 0 (at (n.entries key).history o) more)

    pub up_to : (key : Text) (r : ℕ) → UpTo r V.number (n.entries key)
    up_to key r mark e =
        let safe = safe_at D members keys world calm.stands in
        let gone = (safe.marks.held t n key runs).gone r mark e in
        let a = at_most_last (views_of world) world.view safe.views.views mark.view gone.view gone.listed in
        let b : world.view.number ≡ V.number = ap (λ (v : View). v.number) calm.view in omega arith

    pub sees_own : (key : Text) (r : ℕ) (mark : Mark) → (n.entries key).marks r ≡ Some mark → mark.view ≤ V.number → mark.seen t ≡ true
    sees_own key r mark e less =
        let safe = safe_at D members keys world calm.stands in
        let b : n.view.number ≡ V.number = ap (λ (v : View). v.number) (calm.installed t n runs) in
        (safe.own t n runs).entries key r mark e (omega arith)

  -- histories of one world with as many records are the same
  pub same_histories : (world : World Kind Op Shown) (calm : Calm world) (t u : ℕ) (m n : Node Kind Op Shown) (key : Text) → world.nodes t ≡ Some m → world.nodes u ≡ Some n → ((o : ℕ) → at (m.entries key).history o ≡ at (n.entries key).history o) → (m.entries key).history ≡ (n.entries key).history
  same_histories world calm t u m n key rm rn same =
      let safe = safe_at D members keys world calm.stands in
      let variables = variables_at D members keys world calm.stands in
      same_part (variables.made key) (m.entries key).history (n.entries key).history (safe.logs.held t m key rm).part (safe.logs.held u n key rn).part same

  -- a union with what is no more is the same
  pub union_is : (world : World Kind Op Shown) (calm : Calm world) (t u : ℕ) (m n : Node Kind Op Shown) (key : Text) → world.nodes t ≡ Some m → world.nodes u ≡ Some n → ((o : ℕ) → at (m.entries key).history o ≤ at (n.entries key).history o)
      → (union (m.entries key).history (n.entries key).history ≡ (n.entries key).history) × (union (n.entries key).history (m.entries key).history ≡ (n.entries key).history)
  union_is world calm t u m n key rm rn less =
      let safe = safe_at D members keys world calm.stands in
      let variables = variables_at D members keys world calm.stands in
      let H = (m.entries key).history in
      let J = (n.entries key).history in
      let h = (safe.logs.held t m key rm).part in
      let j = (safe.logs.held u n key rn).part in (
        same_part (variables.made key) (union H J) J (part_union H J (variables.made key) h j) j (λ o. let a = less o in let b = at-union H J o in omega arith),
        same_part (variables.made key) (union J H) J (part_union J H (variables.made key) j h) j (λ o. let a = less o in let b = at-union J H o in omega arith),
      )

  -- ONE EXCHANGE

  module _ (lead i : ℕ) (other : i ≢ lead) (i_member : is_member V i ≡ true) (lead_member : is_member V lead ≡ true) (p : Playing Kind Op Shown) (calm : Calm p.world) (a b : Node Kind Op Shown) (runs_a : p.world.nodes i ≡ Some a) (runs_b : p.world.nodes lead ≡ Some b)
      (q : Playing Kind Op Shown) (x : Exchanged D members keys V lead i other i_member lead_member p calm a b runs_a runs_b q) (tells : DigestsTell D p.world) (key : Text) (decl : KeyDecl Kind) (declared : find (λ (d : KeyDecl Kind). bytes_eq d.name key) keys ≡ Some decl) where
    abbrev v : ℕ
    v = V.number

    name_is : decl.name ≡ key
    name_is = same_text decl.name key (found (λ (d : KeyDecl Kind). bytes_eq d.name key) keys decl declared)

    keys_a : a.keys ≡ keys
    keys_a = keys_are p.world calm i a runs_a

    keys_b : b.keys ≡ a.keys
    keys_b = keys_are p.world calm lead b runs_b ∙ sym keys_a

    keys_c : x.c.keys ≡ a.keys
    keys_c = keys_are q.world x.calm_after i x.c x.runs_c ∙ sym keys_a

    declared_a : find (λ (d : KeyDecl Kind). bytes_eq d.name key) a.keys ≡ Some decl
    declared_a = ap (find (λ (d : KeyDecl Kind). bytes_eq d.name key)) keys_a ∙ declared

    has_a : HasKey a key decl.kind
    has_a = (decl.durable, declared_a ∙ (λ j. Some (record { name = name_is j; kind = decl.kind; durable = decl.durable })))

    has_b : HasKey b key decl.kind
    has_b = (decl.durable, ap (find (λ (d : KeyDecl Kind). bytes_eq d.name key)) keys_b ∙ declared_a ∙ (λ j. Some (record { name = name_is j; kind = decl.kind; durable = decl.durable })))

    identity_a : a.identity ≡ i
    identity_a = ((safe_at D members keys p.world calm.stands).views.running i a runs_a).identity

    identity_b : b.identity ≡ lead
    identity_b = ((safe_at D members keys p.world calm.stands).views.running lead b runs_b).identity

    view_a : a.view.number ≡ v
    view_a = ap (λ (w : View). w.number) (calm.installed i a runs_a)

    view_b : b.view.number ≡ v
    view_b = ap (λ (w : View). w.number) (calm.installed lead b runs_b)

    took : x.c.entries key ≡ fold (taken_entry i v key) (a.entries key) (news_for D b (digests_of D key a))
    took = x.took_c key decl.kind has_a ∙ (λ j. fold (taken_entry (identity_a j) (view_a j) key) (a.entries key) (news_for D b (digests_of D key a)))

    took_e : x.e.entries key ≡ E D key i lead v a b x.c decl declared_a keys_b keys_c
    took_e = x.took_e key decl.kind has_b ∙ (λ j. fold (taken_entry (identity_b j) (view_b j) key) (b.entries key) (named_entries D x.c (wanted_from D b (digests_of D key a))))

    ordinary_b : Ordinary i v key (b.entries key) (a.entries key)
    ordinary_b = let s = held_is_taken D members keys V p.world calm i lead a b key runs_a runs_b in record { few = s.no_more; unpruned = s.unpruned }

    ordinary_c : Ordinary lead v key (x.c.entries key) (b.entries key)
    ordinary_c =
        let s = held_is_taken D members keys V x.midway x.calm_midway lead i x.lead_midway x.c key x.runs_lead_midway x.runs_c_midway in
        let e : at (x.lead_midway.entries key).history lead ≡ at (b.entries key).history lead = ap (λ (f : Text → Entry Op). at (f key).history lead) x.same_midway in
        record { few = let y = s.no_more in omega arith; unpruned = s.unpruned }

    same_digest : D.digest decl.kind (a.entries key) ≡ D.digest decl.kind (b.entries key) → IsAlike i (a.entries key) (b.entries key)
    same_digest e = alike (unchanged e)
      where
        unchanged : D.digest decl.kind (a.entries key) ≡ D.digest decl.kind (b.entries key) → is_unchanged (a.entries key) (b.entries key) ≡ true
        unchanged =
            subst (λ (k : Text). D.digest decl.kind (a.entries k) ≡ D.digest decl.kind (b.entries k) → is_unchanged (a.entries k) (b.entries k) ≡ true) name_is
            (tells i lead a b decl runs_a runs_b (ap (find (λ (d : KeyDecl Kind). bytes_eq d.name decl.name)) calm.stands.same_keys ∙ ap (λ k. find (λ (d : KeyDecl Kind). bytes_eq d.name k) keys) name_is ∙ declared))

        each : is_unchanged (a.entries key) (b.entries key) ≡ true → (o : ℕ) → o < identity_limit → ((at (a.entries key).history o == at (b.entries key).history o) && is_same_mark ((a.entries key).marks o) ((b.entries key).marks o)) ≡ true
        each u o small = all_true (λ i. (at (a.entries key).history i == at (b.entries key).history i) && is_same_mark ((a.entries key).marks i) ((b.entries key).marks i)) identities u o (at_identities o small)

        alike : is_unchanged (a.entries key) (b.entries key) ≡ true → IsAlike i (a.entries key) (b.entries key)
        alike u =
            record {
              counts = λ o. elim (cases_lt o identity_limit) [
                | inl small ↦ same_number (at (a.entries key).history o) (at (b.entries key).history o) (first_true (at (a.entries key).history o == at (b.entries key).history o) _ (each u o small))
                | inr large ↦ none_beyond p.world calm i a runs_a key o large ∙ sym (none_beyond p.world calm lead b runs_b key o large)
              ];
              marks = λ r m small is.
                  same_marks i (is_small p.world calm i a runs_a) ((a.entries key).marks r) m
                  (ap (is_same_mark ((a.entries key).marks r)) (sym is) ∙ second_true (at (a.entries key).history r == at (b.entries key).history r) _ (each u r small));
            }

    nonempty : (y : Entry Op) (o : ℕ) → has_records (a.entries key) ≡ true → ((o : ℕ) → at (a.entries key).history o ≤ at y.history o) → has_records y ≡ true
    nonempty y o e h = some_more (a.entries key) y h e

    pub member_count : (o : ℕ) → at (x.c.entries key).history o ≡ max (at (a.entries key).history o) (at (b.entries key).history o)
    member_count o = member_has D key i lead v a b x.c decl declared_a keys_b keys_c took ordinary_b ordinary_c same_digest (no_more_than_some p.world calm i a runs_a key) (no_more_than_some p.world calm lead b runs_b key) nonempty o

    pub leader_count : (o : ℕ) → at (x.e.entries key).history o ≡ max (at (a.entries key).history o) (at (b.entries key).history o)
    leader_count o =
        ap (λ (y : Entry Op). at y.history o) took_e
        ∙ leader_has D key i lead v a b x.c decl declared_a keys_b keys_c took ordinary_b ordinary_c same_digest (no_more_than_some p.world calm i a runs_a key) (no_more_than_some p.world calm lead b runs_b key) nonempty o

    -- the leader's history grows
    pub leader_part : IsPartOf (b.entries key).history (x.e.entries key).history
    leader_part =
        subst (λ (y : Entry Op). IsPartOf (b.entries key).history y.history) (sym took_e)
        (takes_all lead v key (x.c.entries key) (λ (y : Entry Op). IsPartOf (b.entries key).history y.history)
        (λ y h. part_trans (b.entries key).history y.history (joined lead v key (x.c.entries key) y).history h (part_of_union y.history (x.c.entries key).history))
        (named_entries D x.c (wanted_from D b (digests_of D key a))) (b.entries key) (own_theirs D key lead v x.c _) ordinary_c (part_same (b.entries key).history))

    -- where the member has no more than the leader, the leader's history stays, and its marks have one more in them
    module _ (less : (o : ℕ) → at (a.entries key).history o ≤ at (b.entries key).history o) where
      pub leader_same : (x.e.entries key).history ≡ (b.entries key).history
      leader_same = λ k o. rows o k
        where
          rows : (o : ℕ) → (x.e.entries key).history o ≡ (b.entries key).history o
          rows o =
              let n : at (b.entries key).history o ≡ at (x.e.entries key).history o = (let c = leader_count o in let d = less o in omega arith) in
              sym (leader_part o ∙ ap (λ m. take m ((x.e.entries key).history o)) n ∙ take_whole ((x.e.entries key).history o))

      pub leader_marked : (r : ℕ) → r < identity_limit → (S : ℕ → Type 0) → has_records (a.entries key) ≡ true → is_pruned (b.entries key).history r ≡ false → MarkAt r v S (b.entries key) → MarkAt r v (OneMore i S) (x.e.entries key)
      leader_marked r small S some_a unpruned leads =
          let c_less : (o : ℕ) → at (x.c.entries key).history o ≤ at (x.lead_midway.entries key).history o =
          (λ o. let c = member_count o in let d = less o in let e : at (x.lead_midway.entries key).history o ≡ at (b.entries key).history o = ap (λ (f : Text → Entry Op). at (f key).history o) x.same_midway in omega arith) in
          let ab = (union_is p.world calm i lead a b key runs_a runs_b less).0 in
          let bc : union (b.entries key).history (x.c.entries key).history ≡ (b.entries key).history =
          subst (λ (f : Text → Entry Op). union (f key).history (x.c.entries key).history ≡ (f key).history) x.same_midway (union_is x.midway x.calm_midway i lead x.c x.lead_midway key x.runs_c_midway x.runs_lead_midway c_less).1 in
          subst (MarkAt r v (OneMore i S)) (sym took_e)
          (leader_marks D key i lead v a b x.c decl declared_a keys_b keys_c took ordinary_b ordinary_c same_digest (no_more_than_some p.world calm i a runs_a key) (no_more_than_some p.world calm lead b runs_b key) nonempty
          r small S (up_to p.world calm i a runs_a key r) (up_to p.world calm lead b runs_b key r) (up_to q.world x.calm_after i x.c x.runs_c key r) (sees_own p.world calm i a runs_a key r) some_a (some_more (a.entries key) (b.entries key) less some_a)
          (ap (λ (H : History Op). is_pruned H r) ab ∙ unpruned) (ap (λ (H : History Op). is_pruned H r) bc ∙ unpruned) leads)
