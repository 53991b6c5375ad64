-- One exchange of a settle: what the two members have then, and how many messages it took.
use Rattle.std.proofs.Common.{◌≡◌, ◌≢◌, ℕ, ◌+◌, ◌≤◌, List, [], ◌∷◌, ◌++◌, length, refl, sym, ap, subst, ◌∙◌, arith, Bool, true, false, Some, inl, inr, append_assoc}
use Rattle.std.specs.Prelude.{if◌then◌else◌, fold, filter, map, ◌==◌, ◌||◌, ◌&&◌, not}
use Rattle.std.proofs.lemmas.Bool.Decides.{eqb_tells}
use Rattle.model_history.specs.Texts.{Text, contains_text}
use Rattle.model_history.specs.History.{at, is_pruned}
use Rattle.model_members.specs.View.{View, is_member}
use Rattle.model_members.specs.Entry.{Entry, has_records}
use Rattle.model_members.specs.DataType.{Replication}
use Rattle.model_members.specs.Message.{Keyed, Message}
use Rattle.model_members.specs.Message.Message.{Status, Gossip}
use Rattle.model_members.specs.Node.{KeyDecl, KeyState, Node, Fate, Stepped, HasKey, one_step_later, key_states, keyed_entry}
use Rattle.model_members.specs.Node.Input.{Take, GossipTo}
use Rattle.model_members.specs.Node.Reply.{NotFromMember, NotAPeer, Done}
use Rattle.model_members.specs.Step.{step, step_of_take, answered, sent, gossip_to, answer_to, status_of, named_entries, news_for, wanted_from, after_entries}
use Rattle.model_members.specs.World.{World, Event}
use Rattle.model_members.specs.Script.{Ask, Playing, given, exchange, unless_full, has_met_full, deliver_last, posted, last_number}
use Rattle.model_members.specs.Script.Head.{Asked}
use Rattle.model_members.specs.World.Event.{InputAt}
use Rattle.model_members.proofs.Taking.{taken_entry, after_entries-at}
use Rattle.theorem_runs.specs.Pruning.HasEntry.{Held}
use Rattle.theorem_runs.proofs.PassedOver.{no_more, unpruned}
use Rattle.theorem_operations.proofs.Moments.{variables_at, safe_at}
use Rattle.theorem_operations.proofs.Calm.{IsCalm}
use Rattle.theorem_settling.proofs.Exchanging.{digests_of}
use Rattle.theorem_settling.proofs.PlayedSteps.{Did, Runs, did_runs, did_posted, did_calm, did_here, did_other, did_sent, Steps, given_steps, deliver_steps, unless_is, LastDelivered, last_is}
use Rattle.theorem_settling.proofs.PlayedSteps.LastDelivered.{NothingSent, JustSent}

module _ {Kind Op Shown : Type 0} (D : Replication Kind Op Shown) where
  -- STEPS OF AN EXCHANGE

  not_peer : (a b : ℕ) (c : Bool) → a ≢ b → c ≡ true → ((a == b) || not c) ≡ false
  not_peer a b c other e = elim (eqb_tells a b) [ inl is ↦ absurd (other is.1) | inr isnt ↦ ap (λ x. x || not c) isnt.0 ∙ ap not e ]

  gossip_step : (a : Node Kind Op Shown) (lead : ℕ) (fate : Fate) → lead ≢ a.identity → is_member a.view lead ≡ true → step D a (GossipTo lead) fate ≡ sent (one_step_later a) Done (answer_to D lead (Status (digests_of D [] a)))
  gossip_step a lead fate other member = ap (λ b. if b then answered (one_step_later a) NotAPeer else sent (one_step_later a) Done (answer_to D lead (status_of D (one_step_later a)))) (not_peer lead a.identity (is_member a.view lead) other member)

  take_step : (n : Node Kind Op Shown) (from : ℕ) (message : Message Op) (fate : Fate) → is_member n.view from ≡ true → step D n (Take from message) fate ≡ step_of_take D (one_step_later n) from fate message
  take_step n from message fate member = ap (λ b. if b then step_of_take D (one_step_later n) from fate message else answered (one_step_later n) NotFromMember) member

  nothing_named : (n : Node Kind Op Shown) → named_entries D n [] ≡ []
  nothing_named n = ap (map (keyed_entry)) (none (key_states n))
    where
      none : (ks : List (KeyState Kind Op)) → filter (λ (k : KeyState Kind Op). contains_text [] k.name && has_records k.entry) ks ≡ []
      none [] = refl
      none (k ∷ ks) = none ks

  -- a message with entries and wants, or none
  data Gossips (i : ℕ) (entries : List (Keyed (Entry Op))) (wants : List Text) : Type 0 where
    NoGossip : entries ≡ [] → wants ≡ [] → gossip_to D i entries wants ≡ [] → Gossips i entries wants
    SomeGossip : gossip_to D i entries wants ≡ record { to = i; message = Gossip entries wants } ∷ [] → Gossips i entries wants

  gossips : (i : ℕ) (entries : List (Keyed (Entry Op))) (wants : List Text) → Gossips i entries wants
  gossips i [] [] = NoGossip refl refl refl
  gossips i [] (w ∷ ws) = SomeGossip refl
  gossips i (e ∷ es) ws = SomeGossip refl

  module _ (members : ℕ) (keys : List (KeyDecl Kind)) where
    -- what one running member has is not passed over by another
    pub record NotPassedOver (t : ℕ) (theirs mine : Entry Op) : Type 0 where
      pub no_more : at theirs.history t ≤ at mine.history t
      pub unpruned : is_pruned theirs.history t ≡ false

    pub held_is_taken : (V : View) (world : World Kind Op Shown) → IsCalm D members keys V world → (t u : ℕ) (m n : Node Kind Op Shown) (key : Text) → world.nodes t ≡ Some m → world.nodes u ≡ Some n → NotPassedOver t (n.entries key) (m.entries key)
    held_is_taken V world calm t u m n key rm rn =
        let variables = variables_at D members keys world calm.stands in
        let safe = safe_at D members keys world calm.stands in
        record { no_more = no_more D variables world safe t m rm key (n.entries key) (Held u n rn refl); unpruned = unpruned D variables world safe t m rm key (n.entries key) (Held u n rn refl) }

    -- AN EXCHANGE

    module _ (V : View) (lead i : ℕ) (other : i ≢ lead) (i_member : is_member V i ≡ true) (lead_member : is_member V lead ≡ true) (p : Playing Kind Op Shown) (calm : IsCalm D members keys V p.world) (a b : Node Kind Op Shown) (runs_a : p.world.nodes i ≡ Some a) (runs_b : p.world.nodes lead ≡ Some b) where
      abbrev pub said : List (Keyed (List ℕ))
      said = digests_of D [] a

      abbrev pub news : List (Keyed (Entry Op))
      news = news_for D b said

      abbrev pub wants : List Text
      wants = wanted_from D b said

      pub record Exchanged (q : Playing Kind Op Shown) : Type 0 where
        pub c : Node Kind Op Shown
        pub e : Node Kind Op Shown
        pub runs_c : q.world.nodes i ≡ Some c
        pub runs_e : q.world.nodes lead ≡ Some e
        pub others : (t : ℕ) → t ≢ i → t ≢ lead → q.world.nodes t ≡ p.world.nodes t
        pub calm_after : IsCalm D members keys V q.world
        pub not_met : has_met_full p ≡ false
        pub sent_few : posted q ≤ posted p + 3
        pub more : List (Event Op)
        pub events : q.events ≡ p.events ++ more
        pub ran : Runs D members keys p → Runs D members keys q
        pub took_c : (key : Text) (kind : Kind) → HasKey a key kind → c.entries key ≡ fold (taken_entry a.identity a.view.number key) (a.entries key) news
        pub took_e : (key : Text) (kind : Kind) → HasKey b key kind → e.entries key ≡ fold (taken_entry b.identity b.view.number key) (b.entries key) (named_entries D c wants)
        -- before the leader took the reply
        pub midway : World Kind Op Shown
        pub calm_midway : IsCalm D members keys V midway
        pub lead_midway : Node Kind Op Shown
        pub runs_c_midway : midway.nodes i ≡ Some c
        pub runs_lead_midway : midway.nodes lead ≡ Some lead_midway
        pub same_midway : lead_midway.entries ≡ b.entries

      q1 : Playing Kind Op Shown
      q1 = unless_full D (λ q. given D q (Asked i (Ask.Gossip lead)) (InputAt i (GossipTo lead))) p

      q2 : Playing Kind Op Shown
      q2 = deliver_last D (posted p) i lead q1

      q3 : Playing Kind Op Shown
      q3 = deliver_last D (posted q1) lead i q2

      q4 : Playing Kind Op Shown
      q4 = deliver_last D (posted q2) i lead q3

      seen_member : (w : World Kind Op Shown) (t u : ℕ) (n : Node Kind Op Shown) → IsCalm D members keys V w → w.nodes t ≡ Some n → is_member V u ≡ true → is_member n.view u ≡ true
      seen_member w t u n c r m = ap (λ (v : View). is_member v u) (c.installed t n r) ∙ m

      identity_of : (w : World Kind Op Shown) (t : ℕ) (n : Node Kind Op Shown) → IsCalm D members keys V w → w.nodes t ≡ Some n → n.identity ≡ t
      identity_of w t n c r = ((safe_at D members keys w c.stands).views.running t n r).identity

      -- the member's gossip
      record First (q : Playing Kind Op Shown) : Type 0 where
        not_met : has_met_full p ≡ false
        fate : Fate
        does : Did D members keys p q i (step D a (GossipTo lead) fate)

      first : has_met_full q1 ≡ false → First q1
      unfolding q1
      first e =
          let u = unless_is D members keys (λ q. given D q (Asked i (Ask.Gossip lead)) (InputAt i (GossipTo lead))) p e in
          let s = given_steps D members keys p (Asked i (Ask.Gossip lead)) i (GossipTo lead) a tt runs_a (ap has_met_full (sym u.0) ∙ e) in
          record { not_met = u.1; fate = s.fate; does = subst (λ (q : Playing Kind Op Shown). Did D members keys p q i (step D a (GossipTo lead) s.fate)) (sym u.0) s.does }

      -- a message that was sent by the step before is delivered
      delivers : (x y z : Playing Kind Op Shown) (from to : ℕ) (s : Stepped Kind Op Shown) (message : Message Op) (n : Node Kind Op Shown) → Did D members keys x y from s → s.output.posts ≡ record { to = to; message = message } ∷ [] → y.world.nodes to ≡ Some n
          → LastDelivered D members keys y z (posted x) from to → has_met_full z ≡ false → Steps D members keys y z to (Take from message) n
      delivers x y z from to s message n did posts runs (NothingSent e is) met = absurd (let a = did_posted D members keys x y from s did in let b : length s.output.posts ≡ 1 = ap length posts in omega arith)
      delivers x y z from to s message n did posts runs (JustSent e is) met =
          subst (λ (q : Playing Kind Op Shown). Steps D members keys y q to (Take from message) n) (sym is)
          (deliver_steps D members keys y from to (last_number y from to) message n (did_sent D members keys x y from to message s did posts) runs (ap has_met_full (sym is) ∙ met))

      -- where nothing was sent nothing is delivered
      delivers_nothing : (x y z : Playing Kind Op Shown) (from from' to : ℕ) (s : Stepped Kind Op Shown) → Did D members keys x y from s → s.output.posts ≡ [] → LastDelivered D members keys y z (posted x) from' to → z ≡ y
      delivers_nothing x y z from from' to s did posts (NothingSent e is) = is
      delivers_nothing x y z from from' to s did posts (JustSent e is) = absurd (let a = did_posted D members keys x y from s did in let b : length s.output.posts ≡ 0 = ap length posts in e (let z : posted y ≡ posted x = omega arith in z))

      last_same : (x y : Playing Kind Op Shown) (from to : ℕ) → y ≡ x → LastDelivered D members keys x y (posted x) from to
      last_same x y from to e = NothingSent refl e

      -- AFTER THE LEADER HEARD

      record Second (q : Playing Kind Op Shown) : Type 0 where
        calm_now : IsCalm D members keys V q.world
        runs_a2 : q.world.nodes i ≡ Some (one_step_later a)
        runs_b2 : q.world.nodes lead ≡ Some (one_step_later b)
        others2 : (t : ℕ) → t ≢ i → t ≢ lead → q.world.nodes t ≡ p.world.nodes t
        not_met : has_met_full p ≡ false
        stepped : Stepped Kind Op Shown
        does : Did D members keys q1 q lead stepped
        posts : stepped.output.posts ≡ gossip_to D i news wants
        count : posted q ≡ posted p + 1 + length (gossip_to D i news wants)
        more : List (Event Op)
        events : q.events ≡ p.events ++ more
        ran : Runs D members keys p → Runs D members keys q

      second : has_met_full q2 ≡ false → Second q2
      unfolding q1 q2
      second met =
          let l2 = last_is D members keys (posted p) i lead q1 met in
          let f = first l2.1 in
          let s1 = step D a (GossipTo lead) f.fate in
          let calm1 = did_calm D members keys V p q1 i s1 f.does calm in
          let is1 = gossip_step a lead f.fate (λ e. other (sym (e ∙ identity_of p.world i a calm runs_a))) (seen_member p.world i lead a calm runs_a lead_member) in
          let posts1 : s1.output.posts ≡ record { to = lead; message = Status said } ∷ [] = ap (λ (s : Stepped Kind Op Shown). s.output.posts) is1 in
          let runs_b1 : q1.world.nodes lead ≡ Some b = did_other D members keys p q1 i s1 f.does lead (λ e. other (sym e)) ∙ runs_b in
          let d2 = delivers p q1 q2 i lead s1 (Status said) b f.does posts1 runs_b1 l2.0 met in
          let s2 = step D b (Take i (Status said)) d2.fate in
          let is2 = take_step b i (Status said) d2.fate (seen_member q1.world lead i b calm1 runs_b1 i_member) in
          let posts2 : s2.output.posts ≡ gossip_to D i news wants = ap (λ (s : Stepped Kind Op Shown). s.output.posts) is2 in
          let sent1 = did_posted D members keys p q1 i s1 f.does in
          let count1 : length s1.output.posts ≡ 1 = ap length posts1 in
          let sent2 = did_posted D members keys q1 q2 lead s2 d2.does in
          let count2 : length s2.output.posts ≡ length (gossip_to D i news wants) = ap length posts2 in
          record {
            calm_now = did_calm D members keys V q1 q2 lead s2 d2.does calm1;
            runs_a2 = did_other D members keys q1 q2 lead s2 d2.does i other ∙ did_here D members keys p q1 i s1 f.does ∙ ap (λ (s : Stepped Kind Op Shown). Some s.node) is1;
            runs_b2 = did_here D members keys q1 q2 lead s2 d2.does ∙ ap (λ (s : Stepped Kind Op Shown). Some s.node) is2;
            others2 = λ t x y. did_other D members keys q1 q2 lead s2 d2.does t y ∙ did_other D members keys p q1 i s1 f.does t x;
            not_met = f.not_met;
            stepped = s2;
            does = d2.does;
            posts = posts2;
            count = omega arith;
            ran = λ r. did_runs D members keys q1 q2 lead s2 d2.does (did_runs D members keys p q1 i s1 f.does r);
            more = f.does.event ∷ d2.does.event ∷ [];
            events = d2.does.events ∙ ap (λ es. es ++ d2.does.event ∷ []) f.does.events ∙ append_assoc p.events (f.does.event ∷ []) (d2.does.event ∷ []);
          }

      -- AFTER THE MEMBER HEARD

      -- what was posted last
      data LastPosts (q : Playing Kind Op Shown) (c : Node Kind Op Shown) : Type 0 where
        Silent : q ≡ q2 → wants ≡ [] → LastPosts q c
        Replied : (s : Stepped Kind Op Shown) → Did D members keys q2 q i s → s.output.posts ≡ gossip_to D lead (named_entries D c wants) [] → LastPosts q c

      record Third (q : Playing Kind Op Shown) : Type 0 where
        c : Node Kind Op Shown
        runs_c : q.world.nodes i ≡ Some c
        runs_b3 : q.world.nodes lead ≡ Some (one_step_later b)
        others3 : (t : ℕ) → t ≢ i → t ≢ lead → q.world.nodes t ≡ p.world.nodes t
        calm_now : IsCalm D members keys V q.world
        not_met : has_met_full p ≡ false
        took_c : (key : Text) (kind : Kind) → HasKey a key kind → c.entries key ≡ fold (taken_entry a.identity a.view.number key) (a.entries key) news
        last : LastPosts q c
        sent_few : posted q ≤ posted p + 3
        more : List (Event Op)
        events : q.events ≡ p.events ++ more
        ran : Runs D members keys p → Runs D members keys q

      gossip_one : (j : ℕ) (entries : List (Keyed (Entry Op))) (names : List Text) → length (gossip_to D j entries names) ≤ 1
      gossip_one j [] [] = omega arith
      gossip_one j [] (w ∷ ws) = omega arith
      gossip_one j (e ∷ es) ws = omega arith

      third : has_met_full q3 ≡ false → Third q3
      unfolding q3
      third met =
          let l3 = last_is D members keys (posted q1) lead i q2 met in
          let s = second l3.1 in
          by s l3.0 (gossips i news wants)
        where
          by : (s : Second q2) → LastDelivered D members keys q2 q3 (posted q1) lead i → Gossips i news wants → Third q3
          by s l (NoGossip no_news no_wants no_post) =
              let same : q3 ≡ q2 = delivers_nothing q1 q2 q3 lead lead i s.stepped s.does (s.posts ∙ no_post) l in
              let count : length (gossip_to D i news wants) ≡ 0 = ap length no_post in
              let whole = s.count in
              let posted3 : posted q3 ≡ posted q2 = ap posted same in
              record {
                c = one_step_later a;
                runs_c = ap (λ (x : Playing Kind Op Shown). x.world.nodes i) same ∙ s.runs_a2;
                runs_b3 = ap (λ (x : Playing Kind Op Shown). x.world.nodes lead) same ∙ s.runs_b2;
                others3 = λ t x y. ap (λ (z : Playing Kind Op Shown). z.world.nodes t) same ∙ s.others2 t x y;
                calm_now = subst (λ (z : Playing Kind Op Shown). IsCalm D members keys V z.world) (sym same) s.calm_now;
                not_met = s.not_met;
                took_c = λ key kind has. ap (λ es. fold (taken_entry a.identity a.view.number key) (a.entries key) es) (sym no_news);
                last = Silent same no_wants;
                sent_few = omega arith;
                ran = λ r. subst (Runs D members keys) (sym same) (s.ran r);
                more = s.more;
                events = ap (λ (z : Playing Kind Op Shown). z.events) same ∙ s.events;
              }
          by s l (SomeGossip post) =
              let d = delivers q1 q2 q3 lead i s.stepped (Gossip news wants) (one_step_later a) s.does (s.posts ∙ post) s.runs_a2 l met in
              let s3 = step D (one_step_later a) (Take lead (Gossip news wants)) d.fate in
              let is3 = take_step (one_step_later a) lead (Gossip news wants) d.fate (seen_member q2.world i lead (one_step_later a) s.calm_now s.runs_a2 lead_member) in
              let c = after_entries (one_step_later (one_step_later a)) news in
              let posts3 : s3.output.posts ≡ gossip_to D lead (named_entries D c wants) [] = ap (λ (s : Stepped Kind Op Shown). s.output.posts) is3 in
              let sent3 = did_posted D members keys q2 q3 i s3 d.does in
              let count3 : length s3.output.posts ≡ length (gossip_to D lead (named_entries D c wants) []) = ap length posts3 in
              let whole = s.count in
              let one = gossip_one i news wants in
              let two = gossip_one lead (named_entries D c wants) [] in
              record {
                c = c;
                runs_c = did_here D members keys q2 q3 i s3 d.does ∙ ap (λ (s : Stepped Kind Op Shown). Some s.node) is3;
                runs_b3 = did_other D members keys q2 q3 i s3 d.does lead (λ e. other (sym e)) ∙ s.runs_b2;
                others3 = λ t x y. did_other D members keys q2 q3 i s3 d.does t x ∙ s.others2 t x y;
                calm_now = did_calm D members keys V q2 q3 i s3 d.does s.calm_now;
                not_met = s.not_met;
                took_c = λ key kind has. after_entries-at news (one_step_later (one_step_later a)) key kind has;
                last = Replied s3 d.does posts3;
                sent_few = omega arith;
                ran = λ r. did_runs D members keys q2 q3 i s3 d.does (s.ran r);
                more = s.more ++ d.does.event ∷ [];
                events = d.does.events ∙ ap (λ es. es ++ d.does.event ∷ []) s.events ∙ append_assoc p.events s.more (d.does.event ∷ []);
              }

      -- AFTER THE LEADER HEARD AGAIN

      exchange_is : exchange D lead p i ≡ q4
      unfolding q1 q2 q3 q4
      exchange_is = refl

      fourth : has_met_full q4 ≡ false → Exchanged q4
      unfolding q4
      fourth met =
          let l4 = last_is D members keys (posted q2) i lead q3 met in
          let t = third l4.1 in
          by t l4.0 t.last
        where
          -- nothing more is delivered
          rests : (t : Third q3) → q4 ≡ q3 → named_entries D t.c wants ≡ [] → Exchanged q4
          rests t same none =
              record {
                c = t.c;
                e = one_step_later b;
                runs_c = ap (λ (x : Playing Kind Op Shown). x.world.nodes i) same ∙ t.runs_c;
                runs_e = ap (λ (x : Playing Kind Op Shown). x.world.nodes lead) same ∙ t.runs_b3;
                others = λ u x y. ap (λ (z : Playing Kind Op Shown). z.world.nodes u) same ∙ t.others3 u x y;
                calm_after = subst (λ (z : Playing Kind Op Shown). IsCalm D members keys V z.world) (sym same) t.calm_now;
                not_met = t.not_met;
                sent_few = let x = t.sent_few in let y : posted q4 ≡ posted q3 = ap posted same in omega arith;
                ran = λ r. subst (Runs D members keys) (sym same) (t.ran r);
                more = t.more;
                events = ap (λ (z : Playing Kind Op Shown). z.events) same ∙ t.events;
                took_c = t.took_c;
                took_e = λ key kind has. ap (λ es. fold (taken_entry b.identity b.view.number key) (b.entries key) es) (sym none);
                midway = q3.world;
                calm_midway = t.calm_now;
                lead_midway = one_step_later b;
                runs_c_midway = t.runs_c;
                runs_lead_midway = t.runs_b3;
                same_midway = refl;
              }

          by_reply : (t : Third q3) → LastDelivered D members keys q3 q4 (posted q2) i lead → (s : Stepped Kind Op Shown) → Did D members keys q2 q3 i s → s.output.posts ≡ gossip_to D lead (named_entries D t.c wants) [] → Gossips lead (named_entries D t.c wants) [] → Exchanged q4
          by_reply t l s did posts (NoGossip none no_wants no_post) = rests t (delivers_nothing q2 q3 q4 i i lead s did (posts ∙ no_post) l) none
          by_reply t l s did posts (SomeGossip post) =
              let reply = named_entries D t.c wants in
              let d = delivers q2 q3 q4 i lead s (Gossip reply []) (one_step_later b) did (posts ∙ post) t.runs_b3 l met in
              let s4 = step D (one_step_later b) (Take i (Gossip reply [])) d.fate in
              let is4 = take_step (one_step_later b) i (Gossip reply []) d.fate (seen_member q3.world lead i (one_step_later b) t.calm_now t.runs_b3 i_member) in
              let e = after_entries (one_step_later (one_step_later b)) reply in
              let posts4 : s4.output.posts ≡ [] = ap (λ (s : Stepped Kind Op Shown). s.output.posts) is4 ∙ ap (λ es. gossip_to D i es []) (nothing_named e) in
              let sent4 = did_posted D members keys q3 q4 lead s4 d.does in
              let count4 : length s4.output.posts ≡ 0 = ap length posts4 in
              let x = t.sent_few in
              record {
                c = t.c;
                e = e;
                runs_c = did_other D members keys q3 q4 lead s4 d.does i other ∙ t.runs_c;
                runs_e = did_here D members keys q3 q4 lead s4 d.does ∙ ap (λ (s : Stepped Kind Op Shown). Some s.node) is4;
                others = λ u x y. did_other D members keys q3 q4 lead s4 d.does u y ∙ t.others3 u x y;
                calm_after = did_calm D members keys V q3 q4 lead s4 d.does t.calm_now;
                not_met = t.not_met;
                sent_few = omega arith;
                ran = λ r. did_runs D members keys q3 q4 lead s4 d.does (t.ran r);
                more = t.more ++ d.does.event ∷ [];
                events = d.does.events ∙ ap (λ es. es ++ d.does.event ∷ []) t.events ∙ append_assoc p.events t.more (d.does.event ∷ []);
                took_c = t.took_c;
                took_e = λ key kind has. after_entries-at reply (one_step_later (one_step_later b)) key kind has;
                midway = q3.world;
                calm_midway = t.calm_now;
                lead_midway = one_step_later b;
                runs_c_midway = t.runs_c;
                runs_lead_midway = t.runs_b3;
                same_midway = refl;
              }

          by : (t : Third q3) → LastDelivered D members keys q3 q4 (posted q2) i lead → LastPosts q3 t.c → Exchanged q4
          by t l (Silent same no_wants) = rests t (silent l) (ap (named_entries D t.c) no_wants ∙ nothing_named t.c)
            where
              silent : LastDelivered D members keys q3 q4 (posted q2) i lead → q4 ≡ q3
              silent (NothingSent e is) = is
              silent (JustSent e is) = absurd (e (ap posted same))
          by t l (Replied s did posts) = by_reply t l s did posts (gossips lead (named_entries D t.c wants) [])

      pub exchanged : has_met_full (exchange D lead p i) ≡ false → Exchanged (exchange D lead p i)
      exchanged met = subst Exchanged (sym exchange_is) (fourth (ap has_met_full (sym exchange_is) ∙ met))
