-- An operation that nothing disturbs is over after two rounds.
use Rattle.std.proofs.Common.{◌≡◌, ◌≢◌, ℕ, zero, suc, ◌<◌, ◌≤◌, List, [], ◌∷◌, ◌++◌, length, refl, sym, ap, subst, ◌∙◌, arith, Bool, true, false, Some, inl, inr}
use Rattle.std.specs.Prelude.{⊤, if◌then◌else◌, slice_get, ◌==◌}
use Rattle.std.specs.List.{AllByRecursion}
use Rattle.std.proofs.lemmas.Bool.Decides.{eqb_tells}
use Rattle.model_history.specs.Texts.{Text}
use Rattle.model_history.proofs.HistoryLaws.{with_at_same, slice_get-below}
use Rattle.model_history.proofs.PruneLaws.{IsIn}
use Rattle.model_members.specs.View.{View, is_member}
use Rattle.model_members.specs.DataType.{Replication}
use Rattle.model_members.specs.Message.{Message, Post}
use Rattle.model_members.specs.Node.{KeyDecl, Node, OpenOperation, Input, Fate}
use Rattle.model_members.specs.Node.Input.{Take, Timeout}
use Rattle.model_members.specs.Step.{step}
use Rattle.model_members.specs.World.{World, Link, Links, Event, happens, run, message_at, moved_on, with_link, with_post, with_posts, IsLawful, AreLawful}
use Rattle.model_members.specs.World.Event.{Delivery}
use Rattle.model_members.proofs.Cases.{stepped_at, delivered}
use Rattle.theorem_runs.proofs.RunViews.{same_some}
use Rattle.theorem_operations.proofs.Turns.{MakesStep}
use Rattle.theorem_operations.proofs.Turns.MakesStep.{ByInput, ByDelivery}
use Rattle.theorem_operations.specs.Finishing.{HasNotFailed, ClosesOther, DisturbsNothing}
use Rattle.theorem_operations.proofs.Moments.{safe_at}
use Rattle.theorem_operations.proofs.Calm.{IsCalm, calm_next}
use Rattle.theorem_operations.proofs.Rounds.{link_case, post_grows, posts_grow, Later}
use Rattle.theorem_operations.proofs.KnownWrites.{message_known}
use Rattle.theorem_operations.proofs.Waiting.{LinkAfter, link_after, later_after, keeps_members, AllFit, fits_run, NodeFrom, node_from, Waits, IsQuestion, IsReplyTo, IsOverAt, GoesOn, goes_on, Answers, replied, answers_question, over_stays}
use Rattle.theorem_operations.proofs.Waiting.LinkAfter.{Rests, MovesOn}
use Rattle.theorem_operations.proofs.Waiting.NodeFrom.{Unmoved, Moved}
use Rattle.theorem_operations.proofs.Waiting.GoesOn.{Ends, StillWaits}
use Rattle.theorem_operations.proofs.Waiting.Answers.{EndsIt, CountsIt}

-- MESSAGES ON THEIR WAY

module _ {Op : Type 0} where
  -- each post comes to its link, where it is due
  pub posts_bring : (posts : List (Post Op)) (links : Links Op) (from : ℕ) (post : Post Op) (k : ℕ) → slice_get posts k ≡ Some post → (links from post.to).next ≤ length (links from post.to).messages
      → (j : ℕ) × ((links from post.to).next ≤ j) × (slice_get (with_posts links from posts from post.to).messages j ≡ Some post.message)
  posts_bring [] links from post k e fits = absurd (cc e)
  posts_bring (p ∷ posts) links from post zero e fits =
      let same : p ≡ post = cc e in
      let one : with_post from links post from post.to ≡ record (links from post.to) { messages = (links from post.to).messages ++ post.message ∷ [] } = ap (λ (r : ℕ → Link Op). r post.to) (with_at_same links from _) ∙ with_at_same (links from) post.to _ in
      let here : slice_get (with_post from links p from post.to).messages (length (links from post.to).messages) ≡ Some post.message =
      ap (λ (q : Post Op). slice_get (with_post from links q from post.to).messages (length (links from post.to).messages)) same ∙ ap (λ (l : Link Op). slice_get l.messages (length (links from post.to).messages)) one ∙ last_one (links from post.to).messages post.message in
      (length (links from post.to).messages, fits, (posts_grow posts (with_post from links p) from from post.to).0.stays (length (links from post.to).messages) post.message here)
    where
      last_one : (xs : List (Message Op)) (x : Message Op) → slice_get (xs ++ x ∷ []) (length xs) ≡ Some x
      last_one [] x = refl
      last_one (y ∷ xs) x = last_one xs x
  posts_bring (p ∷ posts) links from post (suc k) e fits =
      let g = post_grows from links p from post.to in
      let a = g.0.longer in
      let b = g.1 in
      let r = posts_bring posts (with_post from links p) from post k e (omega arith) in
      (r.0, (let c = r.1 in omega arith), r.2)

module _ {Kind Op Shown : Type 0} (D : Replication Kind Op Shown) where
  delivery_makes : (world : World Kind Op Shown) (from to index : ℕ) (fate : Fate) (message : Message Op) (old : Node Kind Op Shown) → message_at world from to index ≡ Some message → world.nodes to ≡ Some old → (happens D world (Delivery from to index fate)).nodes to ≡ Some (step D old (Take from message) fate).node
  delivery_makes world from to index fate message old sent runs =
      ap (λ m. (delivered D world from to index m fate).nodes to) sent
      ∙ ap (λ o. (stepped_at D (record world { links = moved_on world.links from to index }) to o (Take from message) fate).nodes to) runs
      ∙ with_at_same world.nodes to (Some (step D old (Take from message) fate).node)

  delivery_links : (world : World Kind Op Shown) (from to index : ℕ) (fate : Fate) (message : Message Op) (old : Node Kind Op Shown) → message_at world from to index ≡ Some message → world.nodes to ≡ Some old → (happens D world (Delivery from to index fate)).links ≡ with_posts (moved_on world.links from to index) to (step D old (Take from message) fate).output.posts
  delivery_links world from to index fate message old sent runs =
      ap (λ m. (delivered D world from to index m fate).links) sent
      ∙ ap (λ o. (stepped_at D (record world { links = moved_on world.links from to index }) to o (Take from message) fate).links) runs

  -- a link that another one's message moves on
  moved_other : (links : Links Op) (from to index f t : ℕ) → (f ≡ from → ⊥) → moved_on links from to index f t ≡ links f t
  moved_other links from to index f t other = by_test ((links from to).next == index)
    where
      by_test : (b : Bool) → (if b then with_link links from to (record (links from to) { next = suc index }) else links) f t ≡ links f t
      by_test false = refl
      by_test true = elim (link_case links from to (record (links from to) { next = suc index }) f t) [ inl h ↦ absurd (other h.0) | inr g ↦ g ]

  module _ (members : ℕ) (keys : List (KeyDecl Kind)) (V : View) (i op : ℕ) (reads : Bool) (key : Text) (n : ℕ) where
    -- ONE MEMBER'S ANSWER

    module _ (t : ℕ) (A B : ℕ → Type 0) where
      -- the answer is counted, or due with a number in A, or its question is due with a number in B
      pub data IsAtHand (world : World Kind Op Shown) (o : OpenOperation) : Type 0 where
        IsCounted : o.counted t ≡ true → IsAtHand world o
        ReplyDue : (k : ℕ) (message : Message Op) → A k → (world.links t i).next ≤ k → message_at world t i k ≡ Some message → IsReplyTo D i op reads key n message → IsAtHand world o
        QuestionDue : (k : ℕ) (message : Message Op) → B k → (world.links i t).next ≤ k → message_at world i t k ≡ Some message → IsQuestion D i op reads key n message → IsAtHand world o

      pub data Stage (world : World Kind Op Shown) : Type 0 where
        HasEnded : (node : Node Kind Op Shown) → world.nodes i ≡ Some node → IsOverAt D i op reads key n node → Stage world
        IsOpen : (node : Node Kind Op Shown) (o : OpenOperation) → world.nodes i ≡ Some node → Waits D i op reads key n node o → IsAtHand world o → Stage world

      module _ (from_question : (x y : ℕ) → B x → A y) (member : is_member V t ≡ true) (other : t ≢ i) (i_member : is_member V i ≡ true)
          (world : World Kind Op Shown) (calm : IsCalm D members keys V world) (fits : AllFit D world) (event : Event Op) (lawful : IsLawful D world event) (quiet : DisturbsNothing i op event) where
        abbrev next : World Kind Op Shown
        next = happens D world event

        later : Later world next
        later = later_after D world i op event quiet

        -- it is no timeout of this operation
        no_timeout : (input : Input Op) (fate : Fate) → MakesStep world event i input fate → (m : ℕ) → input ≡ Timeout m → m ≢ op
        no_timeout input fate (ByInput e) m is = subst (λ (x : Input Op). ClosesOther i op i x) is (subst (λ (ev : Event Op). DisturbsNothing i op ev) e quiet).1 refl
        no_timeout input fate (ByDelivery f index message e sent was) m is = absurd (let g = sym was ∙ is in cc g)

        not_failed : (f u index : ℕ) (fate : Fate) → event ≡ Delivery f u index fate → HasNotFailed fate
        not_failed f u index fate e = subst (λ (ev : Event Op). DisturbsNothing i op ev) e quiet

        module _ (node : Node Kind Op Shown) (o : OpenOperation) (runs : world.nodes i ≡ Some node) (waits : Waits D i op reads key n node o) where
          single : (p : OpenOperation) → IsIn node.open_operations p → p.op ≡ op → p ≡ o
          single p h e = calm.stands.numbers.single i node p o runs h waits.stood (e ∙ sym waits.is_op)

          -- what becomes of the operation
          data Becomes : Type 0 where
            IsDone : (new : Node Kind Op Shown) → next.nodes i ≡ Some new → IsOverAt D i op reads key n new → Becomes
            IsStill : (new : Node Kind Op Shown) (p : OpenOperation) → next.nodes i ≡ Some new → Waits D i op reads key n new p → ((u : ℕ) → o.counted u ≡ true → p.counted u ≡ true) → Becomes

          becomes : Becomes
          becomes = let r = later.runs i node runs in by r.0 r.1 (node_from D world i op event quiet i r.0 r.1)
            where
              by_goes : (input : Input Op) (fate : Fate) → next.nodes i ≡ Some (step D node input fate).node → GoesOn D i op reads key n o (step D node input fate).node → Becomes
              by_goes input fate e (Ends over) = IsDone (step D node input fate).node e over
              by_goes input fate e (StillWaits p w more) = IsStill (step D node input fate).node p e w more

              by : (new : Node Kind Op Shown) → next.nodes i ≡ Some new → NodeFrom D event world i new → Becomes
              by new e (Unmoved f) = let same : node ≡ new = same_some (world.nodes i) node new runs f in IsStill new o e (subst (λ (m : Node Kind Op Shown). Waits D i op reads key n m o) same waits) (λ u h. h)
              by new e (Moved old input fate f makes is) =
                  let same : old ≡ node = same_some (world.nodes i) old node f runs in
                  by_goes input fate (e ∙ ap Some (sym is) ∙ ap (λ (m : Node Kind Op Shown). Some (step D m input fate).node) same)
                  (goes_on D i op reads key n node o waits single input fate (λ m g. no_timeout input fate makes m g))

          with_hand : (h : (new : Node Kind Op Shown) (p : OpenOperation) → next.nodes i ≡ Some new → Waits D i op reads key n new p → ((u : ℕ) → o.counted u ≡ true → p.counted u ≡ true) → Stage next) → Becomes → Stage next
          with_hand h (IsDone new e over) = HasEnded new e over
          with_hand h (IsStill new p e w more) = h new p e w more

          -- the answer is taken
          takes_reply : (k : ℕ) (message : Message Op) (fate : Fate) → event ≡ Delivery t i k fate → message_at world t i k ≡ Some message → IsReplyTo D i op reads key n message → Stage next
          takes_reply k message fate e sent reply =
              let new : next.nodes i ≡ Some (step D node (Take t message) fate).node = subst (λ (ev : Event Op). (happens D world ev).nodes i ≡ Some (step D node (Take t message) fate).node) (sym e) (delivery_makes world t i k fate message node sent runs) in
              by new (replied D i op reads key n node o waits single t message fate (ap (λ (v : View). is_member v t) (calm.installed i node runs) ∙ member) reply)
            where
              by : next.nodes i ≡ Some (step D node (Take t message) fate).node → Answers D i op reads key n node o waits single t (step D node (Take t message) fate).node → Stage next
              by new (EndsIt over) = HasEnded (step D node (Take t message) fate).node new over
              by new (CountsIt p w is) = IsOpen (step D node (Take t message) fate).node p new w (IsCounted is)

          -- the question is taken
          takes_question : (k : ℕ) (message : Message Op) (fate : Fate) → B k → event ≡ Delivery i t k fate → message_at world i t k ≡ Some message → IsQuestion D i op reads key n message → Stage next
          takes_question k message fate in_B e sent question =
              let r = (safe_at D members keys world calm.stands).views.all_run.runs t (ap (λ (v : View). is_member v t) calm.view ∙ member) in
              let old = r.0 in
              let a = answers_question D i op reads key n old message fate (not_failed i t k fate e) (ap (λ (v : View). is_member v i) (calm.installed t old r.1) ∙ i_member) (message_known D members keys world calm.stands i t k message sent t old r.1) question in
              let links : next.links ≡ with_posts (moved_on world.links i t k) t (record { to = i; message = a.0 } ∷ []) =
              ap (λ (ev : Event Op). (happens D world ev).links) e ∙ delivery_links world i t k fate message old sent r.1 ∙ ap (with_posts (moved_on world.links i t k) t) a.1 in
              let same : moved_on world.links i t k t i ≡ world.links t i = moved_other world.links i t k t i other in
              let brings = posts_bring (record { to = i; message = a.0 } ∷ []) (moved_on world.links i t k) t (record { to = i; message = a.0 }) 0 refl (subst (λ (l : Link Op). l.next ≤ length l.messages) (sym same) (fits t i)) in
              let there : message_at next t i brings.0 ≡ Some a.0 = ap (λ (l : Links Op). slice_get (l t i).messages brings.0) links ∙ brings.2 in
              let due : (next.links t i).next ≤ brings.0 =
              (let b : (next.links t i).next ≡ (moved_on world.links i t k t i).next = ap (λ (l : Links Op). (l t i).next) links ∙ (posts_grow (record { to = i; message = a.0 } ∷ []) (moved_on world.links i t k) t t i).1 in let c = brings.1 in omega arith) in
              with_hand (λ new p f w more. IsOpen new p f w (ReplyDue brings.0 a.0 (from_question k brings.0 in_B) due there a.2)) becomes

          stage_open : IsAtHand world o → Stage next
          stage_open (IsCounted e) = with_hand (λ new p f w more. IsOpen new p f w (IsCounted (more t e))) becomes
          stage_open (ReplyDue k message in_A due sent reply) = by (link_after D world i op event quiet t i)
            where
              still : (next.links t i).next ≤ k → Stage next
              still less = with_hand (λ new p f w more. IsOpen new p f w (ReplyDue k message in_A less ((later.links t i).stays k message sent) reply)) becomes

              by : LinkAfter D event world next t i → Stage next
              by (Rests e) = still (omega arith)
              by (MovesOn fate e moved) = elim (eqb_tells (world.links t i).next k) [
                | inl is ↦ takes_reply k message fate (e ∙ ap (λ x. Delivery t i x fate) is.1) sent reply
                | inr isnt ↦ still (let a = isnt.1 in omega arith)
              ]
          stage_open (QuestionDue k message in_B due sent question) = by (link_after D world i op event quiet i t)
            where
              still : (next.links i t).next ≤ k → Stage next
              still less = with_hand (λ new p f w more. IsOpen new p f w (QuestionDue k message in_B less ((later.links i t).stays k message sent) question)) becomes

              by : LinkAfter D event world next i t → Stage next
              by (Rests e) = still (omega arith)
              by (MovesOn fate e moved) = elim (eqb_tells (world.links i t).next k) [
                | inl is ↦ takes_question k message fate in_B (e ∙ ap (λ x. Delivery i t x fate) is.1) sent question
                | inr isnt ↦ still (let a = isnt.1 in omega arith)
              ]

        stage_next : Stage world → Stage next
        stage_next (HasEnded node e over) = let r = later.runs i node e in by r.0 r.1 (node_from D world i op event quiet i r.0 r.1)
          where
            by : (new : Node Kind Op Shown) → next.nodes i ≡ Some new → NodeFrom D event world i new → Stage next
            by new f (Unmoved g) = HasEnded new f (subst (λ (m : Node Kind Op Shown). IsOverAt D i op reads key n m) (same_some (world.nodes i) node new e g) over)
            by new f (Moved old input fate g makes is) =
                let same : node ≡ old = same_some (world.nodes i) node old e g in
                HasEnded new f (subst (λ (m : Node Kind Op Shown). IsOverAt D i op reads key n m) is (over_stays D i op reads key n old input fate (subst (λ (m : Node Kind Op Shown). IsOverAt D i op reads key n m) same over)))
        stage_next (IsOpen node o e w h) = stage_open node o e w h

      -- along a run
      pub record Goes (world : World Kind Op Shown) : Type 0 where
        pub calm : IsCalm D members keys V world
        pub fits : AllFit D world
        pub stage : Stage world

      pub goes_run : (from_question : (x y : ℕ) → B x → A y) → is_member V t ≡ true → t ≢ i → is_member V i ≡ true → (world : World Kind Op Shown) (events : List (Event Op)) → AreLawful D world events → AllByRecursion (DisturbsNothing i op) events → Goes world → Goes (run D world events)
      goes_run from_question member other i_member world [] lawful quiet goes = goes
      goes_run from_question member other i_member world (event ∷ events) lawful quiet goes =
          goes_run from_question member other i_member (happens D world event) events lawful.1 quiet.1
          (record {
            calm = calm_next D members keys V world goes.calm event lawful.0 (keeps_members D i op event quiet.0);
            fits = fits_run D world (event ∷ []) (lawful.0, tt) goes.fits;
            stage = stage_next from_question member other i_member world goes.calm goes.fits event lawful.0 quiet.0 goes.stage;
          })

    -- WHAT A ROUND SETTLES

    abbrev pub Any : ℕ → Type 0
    Any k = ⊤

    abbrev pub Nowhere : ℕ → Type 0
    Nowhere k = ⊥

    -- of what is due, all is below the number sent
    bounded : (t : ℕ) (world : World Kind Op Shown) → Stage t Any Any world → Stage t Any (λ k. k < length (world.links i t).messages) world
    bounded t world (HasEnded node e over) = HasEnded node e over
    bounded t world (IsOpen node o e w (IsCounted c)) = IsOpen node o e w (IsCounted c)
    bounded t world (IsOpen node o e w (ReplyDue k m a due sent r)) = IsOpen node o e w (ReplyDue k m tt due sent r)
    bounded t world (IsOpen node o e w (QuestionDue k m b due sent q)) = IsOpen node o e w (QuestionDue k m (slice_get-below (world.links i t).messages m k sent) due sent q)

    replies_bounded : (t : ℕ) (world : World Kind Op Shown) → Stage t Any Nowhere world → Stage t (λ k. k < length (world.links t i).messages) Nowhere world
    replies_bounded t world (HasEnded node e over) = HasEnded node e over
    replies_bounded t world (IsOpen node o e w (IsCounted c)) = IsOpen node o e w (IsCounted c)
    replies_bounded t world (IsOpen node o e w (ReplyDue k m a due sent r)) = IsOpen node o e w (ReplyDue k m (slice_get-below (world.links t i).messages m k sent) due sent r)
    replies_bounded t world (IsOpen node o e w (QuestionDue k m b due sent q)) = absurd b

    -- what was below is past
    questions_past : (t m : ℕ) (world : World Kind Op Shown) → m ≤ (world.links i t).next → Stage t Any (λ k. k < m) world → Stage t Any Nowhere world
    questions_past t m world h (HasEnded node e over) = HasEnded node e over
    questions_past t m world h (IsOpen node o e w (IsCounted c)) = IsOpen node o e w (IsCounted c)
    questions_past t m world h (IsOpen node o e w (ReplyDue k x a due sent r)) = IsOpen node o e w (ReplyDue k x tt due sent r)
    questions_past t m world h (IsOpen node o e w (QuestionDue k x b due sent q)) = absurd (let c : k < m = b in omega arith)

    -- its answer is counted, or it is over
    pub data IsHeard (world : World Kind Op Shown) (t : ℕ) : Type 0 where
      Over : (node : Node Kind Op Shown) → world.nodes i ≡ Some node → IsOverAt D i op reads key n node → IsHeard world t
      Counted : (node : Node Kind Op Shown) (o : OpenOperation) → world.nodes i ≡ Some node → Waits D i op reads key n node o → o.counted t ≡ true → IsHeard world t

    replies_past : (t m : ℕ) (world : World Kind Op Shown) → m ≤ (world.links t i).next → Stage t (λ k. k < m) Nowhere world → IsHeard world t
    replies_past t m world h (HasEnded node e over) = Over node e over
    replies_past t m world h (IsOpen node o e w (IsCounted c)) = Counted node o e w c
    replies_past t m world h (IsOpen node o e w (ReplyDue k x a due sent r)) = absurd (let c : k < m = a in omega arith)
    replies_past t m world h (IsOpen node o e w (QuestionDue k x b due sent q)) = absurd b

    -- two rounds
    module _ (t : ℕ) (member : is_member V t ≡ true) (other : t ≢ i) (i_member : is_member V i ≡ true) (world : World Kind Op Shown) (first round second last_round : List (Event Op)) where
      abbrev w1 : World Kind Op Shown
      w1 = run D world first

      abbrev w2 : World Kind Op Shown
      w2 = run D w1 round

      abbrev w3 : World Kind Op Shown
      w3 = run D w2 second

      abbrev w4 : World Kind Op Shown
      w4 = run D w3 last_round

      pub two_rounds : AreLawful D world first → AreLawful D w1 round → AreLawful D w2 second → AreLawful D w3 last_round
          → AllByRecursion (DisturbsNothing i op) first → AllByRecursion (DisturbsNothing i op) round → AllByRecursion (DisturbsNothing i op) second → AllByRecursion (DisturbsNothing i op) last_round
          → length (w1.links i t).messages ≤ (w2.links i t).next → length (w3.links t i).messages ≤ (w4.links t i).next → Goes t Any Any world → IsHeard w4 t
      two_rounds l1 l2 l3 l4 q1 q2 q3 q4 past past_last goes =
          let g1 = goes_run t Any Any (λ x y b. tt) member other i_member world first l1 q1 goes in
          let m = length (w1.links i t).messages in
          let g2 = goes_run t Any (λ k. k < m) (λ x y b. tt) member other i_member w1 round l2 q2 (record { calm = g1.calm; fits = g1.fits; stage = bounded t w1 g1.stage }) in
          let g3 = goes_run t Any Nowhere (λ x y b. tt) member other i_member w2 second l3 q3 (record { calm = g2.calm; fits = g2.fits; stage = questions_past t m w2 past g2.stage }) in
          let m' = length (w3.links t i).messages in
          let g4 = goes_run t (λ k. k < m') Nowhere (λ x y b. absurd b) member other i_member w3 last_round l4 q4 (record { calm = g3.calm; fits = g3.fits; stage = replies_bounded t w3 g3.stage }) in
          replies_past t m' w4 past_last g4.stage
