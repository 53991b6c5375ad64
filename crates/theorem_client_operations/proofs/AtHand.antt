-- An operation of a client that nothing disturbs: each member's answer to it is counted, or still unheard, or its question is.
--     posts_come        posts stand on their links past what stood there
--     Stage, stage_next        of one member's answer, by an event
--     OpStands, op_next        of all members' answers
--     over_when_heard, over_when_closed        when it is over
use Rattle.std.proofs.Common.{◌≡◌, ◌≢◌, ◌⊎◌, inl, inr, ℕ, zero, suc, ◌<◌, ◌≤◌, List, [], ◌∷◌, ◌++◌, length, refl, sym, ap, subst, ◌∙◌, arith, Bool, true, false, Some}
use Rattle.std.specs.Prelude.{◌==◌, ◌||◌, not, nat_le, if◌then◌else◌, slice_get, is_some, drop}
use Rattle.std.specs.List.{list_any, list_all}
use Rattle.std.proofs.lemmas.Bool.{eq-eqb, leb-true}
use Rattle.std.proofs.lemmas.Bool.Decides.{eqb_tells}
use Rattle.model_history.specs.Table.{identities}
use Rattle.model_history.specs.Texts.{Text}
use Rattle.model_history.proofs.HistoryLaws.{with_at_same}
use Rattle.model_history.proofs.PruneLaws.{IsIn}
use Rattle.model_members.specs.View.{View, is_member, identities_of}
use Rattle.model_members.specs.DataType.{Replication}
use Rattle.model_members.specs.Message.{Message, Post}
use Rattle.model_members.specs.Message.Message.{Write, WriteAck, WriteNack, Read, ReadAnswer, Deltas, Gossip, Nack, Status}
use Rattle.model_members.specs.Node.{KeyDecl, Node, OpenOperation, Finished, Input, Fate}
use Rattle.model_members.specs.Node.Input.{Take, Timeout}
use Rattle.model_members.specs.Step.{step}
use Rattle.model_members.specs.World.{World, Link, Links, Event, happens, message_at, moved_on, with_link, with_post, with_posts, IsLawful}
use Rattle.model_members.specs.World.Event.{Delivery}
use Rattle.model_members.proofs.Cases.{stepped_at, delivered}
use Rattle.theorem_runs.proofs.RunViews.{same_some}
use Rattle.theorem_operations.specs.Finishing.{HasNotFailed, ClosesOther, DisturbsNothing}
use Rattle.theorem_operations.specs.Quorum.{KeepsMembers}
use Rattle.theorem_operations.proofs.Counting.{count}
use Rattle.theorem_operations.proofs.Lists.{any_in, first_true, second_true, same_number}
use Rattle.theorem_operations.proofs.Moments.{safe_at}
use Rattle.theorem_operations.proofs.Calm.{IsCalm}
use Rattle.theorem_operations.proofs.Opening.{all_members, each_or, found_at}
use Rattle.theorem_operations.proofs.Rounds.{Later, link_case, post_grows, posts_grow}
use Rattle.theorem_operations.proofs.Turns.{MakesStep}
use Rattle.theorem_operations.proofs.Turns.MakesStep.{ByInput, ByDelivery}
use Rattle.theorem_operations.proofs.KnownWrites.{message_known}
use Rattle.theorem_operations.proofs.Waiting.{NodeFrom, node_from, later_after, Waits, IsQuestion, IsReplyTo, IsOverAt, GoesOn, goes_on, Answers, replied, answers_question, over_stays}
use Rattle.theorem_operations.proofs.Waiting.NodeFrom.{Unmoved, Moved}
use Rattle.theorem_operations.proofs.Waiting.GoesOn.{Ends, StillWaits}
use Rattle.theorem_operations.proofs.Waiting.Answers.{EndsIt, CountsIt}
use Rattle.theorem_sections.specs.Sections.{Section, Made, answers, is_open, unheard, are_posts_heard, are_answers_heard, world_of, running}
use Rattle.theorem_client_operations.proofs.Endings.{NodeThen, node_then}
use Rattle.theorem_client_operations.proofs.Endings.NodeThen.{IsTheSame, HasStepped}

-- LISTS

pub all_at : {X : Type 0} (p : X → Bool) (xs : List X) (x : X) → list_all p xs ≡ true → IsIn xs x → p x ≡ true
all_at p [] x all h = absurd (cc h.1)
all_at p (y ∷ xs) x all (zero, e) = let same : y ≡ x = cc e in subst (λ z. p z ≡ true) same (first_true (p y) (list_all p xs) all)
all_at p (y ∷ xs) x all (suc k, e) = all_at p xs x (second_true (p y) (list_all p xs) all) (k, e)

any_dropped : {X : Type 0} (p : X → Bool) (xs : List X) (d k : ℕ) (x : X) → d ≤ k → slice_get xs k ≡ Some x → p x ≡ true → list_any p (drop d xs) ≡ true
any_dropped p [] d k x h e is = absurd (cc e)
any_dropped p (y ∷ xs) zero k x h e is = any_in p (y ∷ xs) x (k, e) is
any_dropped p (y ∷ xs) (suc d) zero x h e is = absurd (omega (arith, h))
any_dropped p (y ∷ xs) (suc d) (suc k) x h e is = any_dropped p xs d k x (omega (arith, h)) e is

not_both : (a b : Bool) → (not a || b) ≡ true → a ≡ true → b ≡ true
not_both true b e h = e
not_both false b e h = absurd (cc h)

none_any : (a : Bool) → not a ≡ true → a ≡ true → ⊥
none_any true e h = cc e
none_any false e h = cc h

-- POSTS

module _ {Op : Type 0} where
  last_one : (xs : List (Message Op)) (x : Message Op) → slice_get (xs ++ x ∷ []) (length xs) ≡ Some x
  last_one [] x = refl
  last_one (y ∷ xs) x = last_one xs x

  -- each post comes to its link, past all that stood there
  pub posts_come : (posts : List (Post Op)) (links : Links Op) (from : ℕ) (post : Post Op) (k : ℕ) → slice_get posts k ≡ Some post
      → (j : ℕ) × (length (links from post.to).messages ≤ j) × (slice_get (with_posts links from posts from post.to).messages j ≡ Some post.message)
  posts_come [] links from post k e = absurd (cc e)
  posts_come (p ∷ posts) links from post zero e =
      let same : p ≡ post = cc e in
      let one : with_post from links post from post.to ≡ record (links from post.to) { messages = (links from post.to).messages ++ post.message ∷ [] } = ap (λ (r : ℕ → Link Op). r post.to) (with_at_same links from _) ∙ with_at_same (links from) post.to _ in
      let here : slice_get (with_post from links p from post.to).messages (length (links from post.to).messages) ≡ Some post.message =
      ap (λ (q : Post Op). slice_get (with_post from links q from post.to).messages (length (links from post.to).messages)) same ∙ ap (λ (l : Link Op). slice_get l.messages (length (links from post.to).messages)) one ∙ last_one (links from post.to).messages post.message in
      (length (links from post.to).messages, omega arith, (posts_grow posts (with_post from links p) from from post.to).0.stays (length (links from post.to).messages) post.message here)
  posts_come (p ∷ posts) links from post (suc k) e =
      let g = post_grows from links p from post.to in
      let r = posts_come posts (with_post from links p) from post k e in
      (r.0, (let a = g.0.longer in let c = r.1 in omega (arith, a, c)), r.2)

module _ {Kind Op Shown : Type 0} (D : Replication Kind Op Shown) where
  delivery_makes : (world : World Kind Op Shown) (from to index : ℕ) (fate : Fate) (message : Message Op) (old : Node Kind Op Shown) → message_at world from to index ≡ Some message → world.nodes to ≡ Some old → (happens D world (Delivery from to index fate)).nodes to ≡ Some (step D old (Take from message) fate).node
  delivery_makes world from to index fate message old sent runs =
      ap (λ m. (delivered D world from to index m fate).nodes to) sent
      ∙ ap (λ o. (stepped_at D (record world { links = moved_on world.links from to index }) to o (Take from message) fate).nodes to) runs
      ∙ with_at_same world.nodes to (Some (step D old (Take from message) fate).node)

  delivery_links : (world : World Kind Op Shown) (from to index : ℕ) (fate : Fate) (message : Message Op) (old : Node Kind Op Shown) → message_at world from to index ≡ Some message → world.nodes to ≡ Some old → (happens D world (Delivery from to index fate)).links ≡ with_posts (moved_on world.links from to index) to (step D old (Take from message) fate).output.posts
  delivery_links world from to index fate message old sent runs =
      ap (λ m. (delivered D world from to index m fate).links) sent
      ∙ ap (λ o. (stepped_at D (record world { links = moved_on world.links from to index }) to o (Take from message) fate).links) runs

  moved_other : (links : Links Op) (from to index f t : ℕ) → (f ≡ from → ⊥) → moved_on links from to index f t ≡ links f t
  moved_other links from to index f t other = by_test ((links from to).next == index)
    where
      by_test : (b : Bool) → (if b then with_link links from to (record (links from to) { next = suc index }) else links) f t ≡ links f t
      by_test false = refl
      by_test true = elim (link_case links from to (record (links from to) { next = suc index }) f t) [ inl h ↦ absurd (other h.0) | inr g ↦ g ]

  -- the next message of a link: as before, or one further, where the event delivered it
  pub data DueAfter (due due' : ℕ → ℕ → ℕ) (event : Event Op) (f u : ℕ) : Type 0 where
    RestsThere : due' f u ≡ due f u → DueAfter due due' event f u
    GoesThere : (fate : Fate) → event ≡ Delivery f u (due f u) fate → due' f u ≡ suc (due f u) → DueAfter due due' event f u

  module _ (i op : ℕ) where
    -- ONE MEMBER'S ANSWER

    module _ (reads : Bool) (key : Text) (n t sent : ℕ) where
      -- counted, or on its way and unheard, or the question is, with a number below the number sent
      pub data IsAtHand (world : World Kind Op Shown) (due : ℕ → ℕ → ℕ) (o : OpenOperation) : Type 0 where
        IsCounted : o.counted t ≡ true → IsAtHand world due o
        ReplyDue : (k : ℕ) (message : Message Op) → due t i ≤ k → message_at world t i k ≡ Some message → IsReplyTo D i op reads key n message → IsAtHand world due o
        QuestionDue : (k : ℕ) (message : Message Op) → t ≢ i → due i t ≤ k → k < sent → message_at world i t k ≡ Some message → IsQuestion D i op reads key n message → IsAtHand world due o

      pub data Stage (world : World Kind Op Shown) (due : ℕ → ℕ → ℕ) : Type 0 where
        HasEnded : (node : Node Kind Op Shown) → world.nodes i ≡ Some node → IsOverAt D i op reads key n node → Stage world due
        IsStillOpen : (node : Node Kind Op Shown) (o : OpenOperation) → world.nodes i ≡ Some node → Waits D i op reads key n node o → IsAtHand world due o → Stage world due

    module _ (members : ℕ) (keys : List (KeyDecl Kind)) (V : View) (i_member : is_member V i ≡ true) (world : World Kind Op Shown) (calm : IsCalm D members keys V world) (due due' : ℕ → ℕ → ℕ)
        (fits : (f u : ℕ) → due f u ≤ length (world.links f u).messages) (event : Event Op) (quiet : DisturbsNothing i op event) (dues : (f u : ℕ) → DueAfter due due' event f u) where
      abbrev next : World Kind Op Shown
      next = happens D world event

      later : Later world next
      later = later_after D world i op event quiet

      no_timeout : (input : Input Op) (fate : Fate) → MakesStep world event i input fate → (m : ℕ) → input ≡ Timeout m → m ≢ op
      no_timeout input fate (ByInput e) m is = subst (λ (x : Input Op). ClosesOther i op i x) is (subst (λ (ev : Event Op). DisturbsNothing i op ev) e quiet).1 refl
      no_timeout input fate (ByDelivery f index message e sent was) m is = absurd (let g = sym was ∙ is in cc g)

      not_failed : (f u index : ℕ) (fate : Fate) → event ≡ Delivery f u index fate → HasNotFailed fate
      not_failed f u index fate e = subst (λ (ev : Event Op). DisturbsNothing i op ev) e quiet

      module _ (reads : Bool) (key : Text) (n t sent : ℕ) (member : is_member V t ≡ true) where
        abbrev StageThen : Type 0
        StageThen = Stage reads key n t sent next due'

        module _ (node : Node Kind Op Shown) (o : OpenOperation) (runs : world.nodes i ≡ Some node) (waits : Waits D i op reads key n node o) where
          single : (p : OpenOperation) → IsIn node.open_operations p → p.op ≡ op → p ≡ o
          single p h e = calm.stands.numbers.single i node p o runs h waits.stood (e ∙ sym waits.is_op)

          data Becomes : Type 0 where
            IsDone : (new : Node Kind Op Shown) → next.nodes i ≡ Some new → IsOverAt D i op reads key n new → Becomes
            IsStill : (new : Node Kind Op Shown) (p : OpenOperation) → next.nodes i ≡ Some new → Waits D i op reads key n new p → ((u : ℕ) → o.counted u ≡ true → p.counted u ≡ true) → Becomes

          becomes : Becomes
          becomes = let r = later.runs i node runs in by r.0 r.1 (node_from D world i op event quiet i r.0 r.1)
            where
              by_goes : (input : Input Op) (fate : Fate) → next.nodes i ≡ Some (step D node input fate).node → GoesOn D i op reads key n o (step D node input fate).node → Becomes
              by_goes input fate e (Ends over) = IsDone (step D node input fate).node e over
              by_goes input fate e (StillWaits p w more) = IsStill (step D node input fate).node p e w more

              by : (new : Node Kind Op Shown) → next.nodes i ≡ Some new → NodeFrom D event world i new → Becomes
              by new e (Unmoved f) = let same : node ≡ new = same_some (world.nodes i) node new runs f in IsStill new o e (subst (λ (m : Node Kind Op Shown). Waits D i op reads key n m o) same waits) (λ u h. h)
              by new e (Moved old input fate f makes is) =
                  let same : old ≡ node = same_some (world.nodes i) old node f runs in
                  by_goes input fate (e ∙ ap Some (sym is) ∙ ap (λ (m : Node Kind Op Shown). Some (step D m input fate).node) same)
                  (goes_on D i op reads key n node o waits single input fate (λ m g. no_timeout input fate makes m g))

          with_hand : ((new : Node Kind Op Shown) (p : OpenOperation) → next.nodes i ≡ Some new → Waits D i op reads key n new p → ((u : ℕ) → o.counted u ≡ true → p.counted u ≡ true) → StageThen) → Becomes → StageThen
          with_hand h (IsDone new e over) = HasEnded new e over
          with_hand h (IsStill new p e w more) = h new p e w more

          takes_reply : (k : ℕ) (message : Message Op) (fate : Fate) → event ≡ Delivery t i k fate → message_at world t i k ≡ Some message → IsReplyTo D i op reads key n message → StageThen
          takes_reply k message fate e there reply =
              let new : next.nodes i ≡ Some (step D node (Take t message) fate).node = subst (λ (ev : Event Op). (happens D world ev).nodes i ≡ Some (step D node (Take t message) fate).node) (sym e) (delivery_makes world t i k fate message node there runs) in
              by new (replied D i op reads key n node o waits single t message fate (ap (λ (v : View). is_member v t) (calm.installed i node runs) ∙ member) reply)
            where
              by : next.nodes i ≡ Some (step D node (Take t message) fate).node → Answers D i op reads key n node o waits single t (step D node (Take t message) fate).node → StageThen
              by new (EndsIt over) = HasEnded (step D node (Take t message) fate).node new over
              by new (CountsIt p w is) = IsStillOpen (step D node (Take t message) fate).node p new w (IsCounted is)

          takes_question : (k : ℕ) (message : Message Op) (fate : Fate) → t ≢ i → event ≡ Delivery i t k fate → message_at world i t k ≡ Some message → IsQuestion D i op reads key n message → StageThen
          takes_question k message fate other e there question =
              let r = (safe_at D members keys world calm.stands).views.all_run.runs t (ap (λ (v : View). is_member v t) calm.view ∙ member) in
              let old = r.0 in
              let a = answers_question D i op reads key n old message fate (not_failed i t k fate e) (ap (λ (v : View). is_member v i) (calm.installed t old r.1) ∙ i_member) (message_known D members keys world calm.stands i t k message there t old r.1) question in
              let links : next.links ≡ with_posts (moved_on world.links i t k) t (record { to = i; message = a.0 } ∷ []) =
              ap (λ (ev : Event Op). (happens D world ev).links) e ∙ delivery_links world i t k fate message old there r.1 ∙ ap (with_posts (moved_on world.links i t k) t) a.1 in
              let same : moved_on world.links i t k t i ≡ world.links t i = moved_other world.links i t k t i other in
              let brings = posts_come (record { to = i; message = a.0 } ∷ []) (moved_on world.links i t k) t (record { to = i; message = a.0 }) 0 refl in
              let stands : message_at next t i brings.0 ≡ Some a.0 = ap (λ (l : Links Op). slice_get (l t i).messages brings.0) links ∙ brings.2 in
              let long : length (world.links t i).messages ≤ brings.0 = (let b : length (moved_on world.links i t k t i).messages ≡ length (world.links t i).messages = ap (λ (l : Link Op). length l.messages) same in let c = brings.1 in omega (arith, b, c)) in
              with_hand (λ new p f w more. IsStillOpen new p f w (ReplyDue brings.0 a.0 (due_there brings.0 long (dues t i)) stands a.2)) becomes
            where
              due_there : (j : ℕ) → length (world.links t i).messages ≤ j → DueAfter due due' event t i → due' t i ≤ j
              due_there j long (RestsThere e') = let b = fits t i in omega (arith, b, long, e')
              due_there j long (GoesThere fate' e' moved) = absurd (let g = sym e ∙ e' in let same : i ≡ t = cc g in other (sym same))

          stage_open : IsAtHand reads key n t sent world due o → StageThen
          stage_open (IsCounted e) = with_hand (λ new p f w more. IsStillOpen new p f w (IsCounted (more t e))) becomes
          stage_open (ReplyDue k message low there reply) = by (dues t i)
            where
              still : due' t i ≤ k → StageThen
              still less = with_hand (λ new p f w more. IsStillOpen new p f w (ReplyDue k message less ((later.links t i).stays k message there) reply)) becomes

              by : DueAfter due due' event t i → StageThen
              by (RestsThere e) = still (omega (arith, e, low))
              by (GoesThere fate e moved) = elim (eqb_tells (due t i) k) [
                | inl is ↦ takes_reply k message fate (e ∙ ap (λ x. Delivery t i x fate) is.1) there reply
                | inr isnt ↦ still (let a = isnt.1 in omega arith)
              ]
          stage_open (QuestionDue k message other low below there question) = by (dues i t)
            where
              still : due' i t ≤ k → StageThen
              still less = with_hand (λ new p f w more. IsStillOpen new p f w (QuestionDue k message other less below ((later.links i t).stays k message there) question)) becomes

              by : DueAfter due due' event i t → StageThen
              by (RestsThere e) = still (omega (arith, e, low))
              by (GoesThere fate e moved) = elim (eqb_tells (due i t) k) [
                | inl is ↦ takes_question k message fate other (e ∙ ap (λ x. Delivery i t x fate) is.1) there question
                | inr isnt ↦ still (let a = isnt.1 in omega arith)
              ]

        pub stage_next : Stage reads key n t sent world due → StageThen
        stage_next (HasEnded node e over) = let r = later.runs i node e in by r.0 r.1 (node_from D world i op event quiet i r.0 r.1)
          where
            by : (new : Node Kind Op Shown) → next.nodes i ≡ Some new → NodeFrom D event world i new → StageThen
            by new f (Unmoved g) = HasEnded new f (subst (λ (m : Node Kind Op Shown). IsOverAt D i op reads key n m) (same_some (world.nodes i) node new e g) over)
            by new f (Moved old input fate g makes is) =
                let same : node ≡ old = same_some (world.nodes i) node old e g in
                HasEnded new f (subst (λ (m : Node Kind Op Shown). IsOverAt D i op reads key n m) is (over_stays D i op reads key n old input fate (subst (λ (m : Node Kind Op Shown). IsOverAt D i op reads key n m) same over)))
        stage_next (IsStillOpen node o e w h) = stage_open node o e w h

    -- THE OPERATION

    -- it has a result
    pub record HasResult (world : World Kind Op Shown) : Type 0 where
      pub node : Node Kind Op Shown
      pub runs : world.nodes i ≡ Some node
      pub result : Finished Shown
      pub among : IsIn node.finished result
      pub its : result.op ≡ op

    -- it waits for as many answers as there may be, and a post went to each other member
    pub record StillWaiting (members : ℕ) (keys : List (KeyDecl Kind)) (V : View) (world : World Kind Op Shown) (due : ℕ → ℕ → ℕ) (sent : ℕ → ℕ) (posts : List (Post Op)) : Type 0 where
      pub reads : Bool
      pub key : Text
      pub n : ℕ
      pub few : n ≤ length V.members
      pub i_member : is_member V i ≡ true
      pub asked : (t : ℕ) → is_member V t ≡ true → t ≢ i → (post : Post Op) × IsIn posts post × (post.to ≡ t)
      pub stages : (t : ℕ) → is_member V t ≡ true → Stage reads key n t (sent t) world due

    -- a result stays
    pub result_next : (world : World Kind Op Shown) (event : Event Op) → IsLawful D world event → KeepsMembers event → HasResult world → HasResult (happens D world event)
    result_next world event lawful keeps has = by (node_then D world event lawful keeps i has.node has.runs)
      where
        by : NodeThen D world (happens D world event) event i has.node → HasResult (happens D world event)
        by (IsTheSame there) = record { node = has.node; runs = there; result = has.result; among = has.among; its = has.its }
        by (HasStepped input fate room makes there) =
            let over = over_stays D i op true [] 0 has.node input fate (has.result, has.among, has.its) in
            record { node = (step D has.node input fate).node; runs = there; result = over.0; among = over.1; its = over.2 }

    module _ (members : ℕ) (keys : List (KeyDecl Kind)) (V : View) (world : World Kind Op Shown) (calm : IsCalm D members keys V world) (due : ℕ → ℕ → ℕ) (sent : ℕ → ℕ) (posts : List (Post Op)) (waiting : StillWaiting members keys V world due sent posts) where
      -- a closed one has its result
      pub has_when_closed : is_open op (world.nodes i) ≡ false → HasResult world
      has_when_closed closed = by (waiting.stages i waiting.i_member)
        where
          by : Stage waiting.reads waiting.key waiting.n i (sent i) world due → HasResult world
          by (HasEnded node runs over) = record { node = node; runs = runs; result = over.0; among = over.1; its = over.2 }
          by (IsStillOpen node o runs w h) =
              absurd (let shown : is_open op (world.nodes i) ≡ true = ap (is_open op) runs ∙ any_in (λ (p : OpenOperation). p.op == op) node.open_operations o w.stood (eq-eqb o.op op w.is_op) in let g = sym closed ∙ shown in cc g)

      -- and one for which all posts and all answers were heard
      module _ (questions : (t : ℕ) → is_member V t ≡ true → t ≢ i → sent t ≤ due i t) (replies : (t : ℕ) → is_member V t ≡ true → (k : ℕ) (message : Message Op) → due t i ≤ k → message_at world t i k ≡ Some message → answers op message ≡ true → ⊥) where
        is_reply : (reads : Bool) (key : Text) (n : ℕ) (message : Message Op) → IsReplyTo D i op reads key n message → answers op message ≡ true
        is_reply reads key n (WriteAck m) r = eq-eqb m op r.1
        is_reply reads key n (ReadAnswer m name entry) r = eq-eqb m op r.1
        is_reply reads key n (Deltas groups entries) r = absurd r
        is_reply reads key n (Nack keys) r = absurd r
        is_reply reads key n (Status digests) r = absurd r
        is_reply reads key n (Gossip entries wants) r = absurd r
        is_reply reads key n (Write m name entry) r = absurd r
        is_reply reads key n (WriteNack m) r = absurd r
        is_reply reads key n (Read m name) r = absurd r

        -- it has a result, or the answer is counted
        pub data IsHeardOf (t : ℕ) : Type 0 where
          ItHas : HasResult world → IsHeardOf t
          ItsCounted : (node : Node Kind Op Shown) (o : OpenOperation) → world.nodes i ≡ Some node → Waits D i op waiting.reads waiting.key waiting.n node o → o.counted t ≡ true → IsHeardOf t

        heard_of : (t : ℕ) → is_member V t ≡ true → IsHeardOf t
        heard_of t member = by (waiting.stages t member)
          where
            by : Stage waiting.reads waiting.key waiting.n t (sent t) world due → IsHeardOf t
            by (HasEnded node runs over) = ItHas (record { node = node; runs = runs; result = over.0; among = over.1; its = over.2 })
            by (IsStillOpen node o runs w (IsCounted c)) = ItsCounted node o runs w c
            by (IsStillOpen node o runs w (ReplyDue k message low there reply)) = absurd (replies t member k message low there (is_reply waiting.reads waiting.key waiting.n message reply))
            by (IsStillOpen node o runs w (QuestionDue k message other low below there question)) = absurd (let a = questions t member other in omega (arith, a, low, below))

        all_counted : (node : Node Kind Op Shown) (o : OpenOperation) → world.nodes i ≡ Some node → Waits D i op waiting.reads waiting.key waiting.n node o → HasResult world
        all_counted node o runs w = by (each_or (HasResult world) o.counted (is_member V) counts identities)
          where
            counts : (m : ℕ) → is_member V m ≡ true → HasResult world ⊎ (o.counted m ≡ true)
            counts m member = one (heard_of m member)
              where
                one : IsHeardOf m → HasResult world ⊎ (o.counted m ≡ true)
                one (ItHas has) = inl has
                one (ItsCounted n' p e w' c) =
                    let same : n' ≡ node = same_some (world.nodes i) n' node e runs in
                    let there : IsIn node.open_operations p = subst (λ (x : Node Kind Op Shown). IsIn x.open_operations p) same w'.stood in
                    let is : p ≡ o = calm.stands.numbers.single i node p o runs there w.stood (w'.is_op ∙ sym w.is_op) in
                    inr (ap (λ (y : OpenOperation). y.counted m) (sym is) ∙ c)

            by : HasResult world ⊎ (count (is_member V) identities ≤ count o.counted identities) → HasResult world
            by (inl has) = has
            by (inr more) =
                let safe = safe_at D members keys world calm.stands in
                let rising = safe.views.views.rising world.view.number world.view safe.views.views.listed in
                let a = all_members world.view safe.logs.few rising in
                let b : length world.view.members ≡ length V.members = ap (λ (v : View). length v.members) calm.view in
                let c : count (is_member world.view) identities ≡ count (is_member V) identities = ap (λ (v : View). count (is_member v) identities) calm.view in
                let d = w.few_yet in
                let e = waiting.few in
                absurd (omega arith)

        pub has_when_heard : HasResult world
        has_when_heard = by (heard_of i waiting.i_member)
          where
            by : IsHeardOf i → HasResult world
            by (ItHas has) = has
            by (ItsCounted node o runs w c) = all_counted node o runs w

    -- by an event
    pub waiting_next : (members : ℕ) (keys : List (KeyDecl Kind)) (V : View) (world : World Kind Op Shown) → IsCalm D members keys V world → (due due' : ℕ → ℕ → ℕ) → ((f u : ℕ) → due f u ≤ length (world.links f u).messages)
        → (event : Event Op) → DisturbsNothing i op event → ((f u : ℕ) → DueAfter due due' event f u) → (sent : ℕ → ℕ) (posts : List (Post Op)) → StillWaiting members keys V world due sent posts → StillWaiting members keys V (happens D world event) due' sent posts
    waiting_next members keys V world calm due due' fits event quiet dues sent posts waiting = record {
      reads = waiting.reads;
      key = waiting.key;
      n = waiting.n;
      few = waiting.few;
      i_member = waiting.i_member;
      asked = waiting.asked;
      stages = λ t member. stage_next members keys V waiting.i_member world calm due due' fits event quiet dues waiting.reads waiting.key waiting.n t (sent t) member (waiting.stages t member);
    }

  -- A SECTION IN WHICH AN OPERATION'S POSTS AND ANSWERS WERE HEARD

  module _ (members : ℕ) (keys : List (KeyDecl Kind)) (V : View) (s : Section Kind Op Shown) (calm : IsCalm D members keys V (world_of s)) (made : Made Op Shown) (op : ℕ) (waiting : StillWaiting made.at op members keys V (world_of s) s.due made.sent made.line.posts) where
    here_member : (t : ℕ) → is_member V t ≡ true → IsIn (running (world_of s)) t
    here_member t member = found_at (running (world_of s)) t (ap (λ (v : View). is_member v t) calm.view ∙ member)

    pub result_when_heard : are_posts_heard s made ≡ true → are_answers_heard s made.at op ≡ true → HasResult made.at op (world_of s)
    result_when_heard posted answered = has_when_heard made.at op members keys V (world_of s) calm s.due made.sent made.line.posts waiting questions replies
      where
        questions : (t : ℕ) → is_member V t ≡ true → t ≢ made.at → made.sent t ≤ s.due made.at t
        questions t member other =
            let post = waiting.asked t member other in
            let r = (safe_at D members keys (world_of s) calm.stands).views.all_run.runs t (ap (λ (v : View). is_member v t) calm.view ∙ member) in
            let e = all_at (λ (p : Post Op). not (is_some ((world_of s).nodes p.to)) || nat_le (made.sent p.to) (s.due made.at p.to)) made.line.posts post.0 posted post.1 in
            let f : (not (is_some ((world_of s).nodes t)) || nat_le (made.sent t) (s.due made.at t)) ≡ true = subst (λ u. (not (is_some ((world_of s).nodes u)) || nat_le (made.sent u) (s.due made.at u)) ≡ true) post.2 e in
            leb-true (made.sent t) (s.due made.at t) (not_both (is_some ((world_of s).nodes t)) (nat_le (made.sent t) (s.due made.at t)) f (ap is_some r.1))

        replies : (t : ℕ) → is_member V t ≡ true → (k : ℕ) (message : Message Op) → s.due t made.at ≤ k → message_at (world_of s) t made.at k ≡ Some message → answers op message ≡ true → ⊥
        replies t member k message low there is =
            none_any (list_any (answers op) (unheard s t made.at)) (all_at (λ j. not (list_any (answers op) (unheard s j made.at))) (running (world_of s)) t answered (here_member t member))
            (any_dropped (answers op) ((world_of s).links t made.at).messages (s.due t made.at) k message low there is)
