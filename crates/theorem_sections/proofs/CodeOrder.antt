-- Entries of another kind than the model's, as code makes them: where each step of a member that stands for the model's is one of the model's, entries in run order have model entries, which are histories in run order too.
use Rattle.std.proofs.Common.{◌≡◌, ◌≢◌, ◌⊎◌, inl, inr, ⊎_elim, ℕ, ◌<◌, ◌≤◌, List, [], ◌∷◌, ◌++◌, map, refl, sym, ap, subst, ◌∙◌, arith, cond, Some}
use Rattle.std.specs.Prelude.{⊤, ◌==◌, filter, IsTrue, IsFalse, flat_map}
use Rattle.std.specs.List.{AllByRecursion}
use Rattle.std.proofs.lemmas.List.{append_assoc}
use Rattle.model_history.specs.Table.{with_at}
use Rattle.model_history.proofs.HistoryLaws.{with_at_other}
use Rattle.model_history.proofs.CutLaws.{with_at_is}
use Rattle.model_members.specs.View.{View, is_member, place_of}
use Rattle.model_members.specs.DataType.{Replication}
use Rattle.model_members.specs.Message.{Message, Post}
use Rattle.model_members.specs.Node.{Node, Input}
use Rattle.model_members.specs.Node.Input.{Take}
use Rattle.model_members.specs.Step.{step, is_full}
use Rattle.model_members.specs.World.{World, views_of, FitsFate}
use Rattle.theorem_sections.specs.Histories as model
use Rattle.theorem_sections.specs.Histories.{Entry, Placed, Passed, taken_by, IsFromClients, posted_to, taken_from, entries_at, AreSteps}
use Rattle.theorem_sections.specs.Queues.{sent, stamped, Waits}
use Rattle.theorem_sections.proofs.NextDue.{same_or_not, table_here, table_else}
use Rattle.theorem_sections.proofs.RunOrder.{at_both, is_same, is_other, entries_here, entries_else, posts_split, takes_split, posts_of, takes_none, takes_here, takes_else}
use Rattle.theorem_sections.proofs.OnTheWay.{waits_on, takes_first}
use Rattle.theorem_sections.proofs.Heard.{all_entries}

module _ {Kind Op Shown E X S : Type 0} (D : Replication Kind Op Shown) (view : View) (views : List View) (at stamp : E → ℕ) (posts takes : E → ℕ → List X)
    (Means : X → Message Op → Type 0) (Stands : S → Node Kind Op Shown → Type 0) (Does : S → E → S → Type 0) where
  -- messages with stamps, one by one
  abbrev pub QueueMeans : List (X × ℕ) → List (Passed Op) → Type 0
  QueueMeans [] [] = ⊤
  QueueMeans (x ∷ xs) (p ∷ ps) = Means x.0 p.message × (p.stamp ≡ x.1) × QueueMeans xs ps
  QueueMeans _ _ = ⊥

  means_append : (xs ys : List (X × ℕ)) (ps qs : List (Passed Op)) → QueueMeans xs ps → QueueMeans ys qs → QueueMeans (xs ++ ys) (ps ++ qs)
  means_append [] ys [] qs a b = b
  means_append [] ys (p ∷ ps) qs a b = absurd a
  means_append (x ∷ xs) ys [] qs a b = absurd a
  means_append (x ∷ xs) ys (p ∷ ps) qs a b = (a.0, a.1, means_append xs ys ps qs a.2 b)

  -- a model entry of an entry: the same stamp, and posts that mean its posts
  pub record IsModelOf (e : E) (m : Entry Op Shown) : Type 0 where
    pub same_stamp : m.stamp ≡ stamp e
    pub same_posts : (j : ℕ) → QueueMeans (stamped (stamp e) (posts e j)) (map (λ (post : Post Op). record { message = post.message; stamp = m.stamp }) (filter (λ (post : Post Op). post.to == j) m.output.posts))

  -- the model's member makes the step, and then stands for the state after it
  pub record StepsTo (n : Node Kind Op Shown) (m : Entry Op Shown) (after : S) : Type 0 where
    pub has_room : IsFalse (is_full D n)
    pub fits : FitsFate D n m.input m.fate
    pub output : m.output ≡ (step D n m.input m.fate).output
    pub stands : Stands after (step D n m.input m.fate).node

  pub record ModelStep (n : Node Kind Op Shown) (e : E) (after : S) (GivenBy : Input Op → Type 0) : Type 0 where
    pub entry : Entry Op Shown
    pub of : IsModelOf e entry
    pub given : GivenBy entry.input
    pub steps : StepsTo n entry after

  -- an input that takes nothing, and is given by clients
  pub record OfClients (input : Input Op) : Type 0 where
    pub none : (i s : ℕ) → taken_by i s input ≡ []
    pub from_clients : IsFromClients view views input

  -- what a member's contract says of one step
  pub record Simulates : Type 0 where
    pub by_client : (s s' : S) (e : E) (n : Node Kind Op Shown) → Stands s n → Does s e s' → ((i : ℕ) → takes e i ≡ []) → ModelStep n e s' OfClients
    pub by_message : (s s' : S) (e : E) (n : Node Kind Op Shown) (from : ℕ) (x : X) (message : Message Op) → Stands s n → Does s e s' → takes e from ≡ x ∷ [] → ((i : ℕ) → i ≢ from → takes e i ≡ []) → Means x message
        → ModelStep n e s' (λ input. input ≡ Take from message)

  abbrev pub own_entries : ℕ → List E → List E
  own_entries i es = filter (λ e. at e == i) es

  abbrev pub AllDo : S → List E → Type 0
  AllDo s [] = ⊤
  AllDo s (e ∷ es) = (s' : S) × Does s e s' × AllDo s' es

  -- an entry takes nothing, or one message of a member
  abbrev pub TakesOne : E → Type 0
  TakesOne e = ((i : ℕ) → takes e i ≡ []) ⊎ ((from : ℕ) × (x : X) × IsTrue (is_member view from) × (takes e from ≡ x ∷ []) × ((i : ℕ) → i ≢ from → takes e i ≡ []))

  abbrev pub InOrder : List E → Type 0
  InOrder [] = ⊤
  InOrder (e ∷ es) = AllByRecursion (λ y. stamp e ≤ stamp y) es × InOrder es

  pub record Coming (states : ℕ → S) (nodes : ℕ → Node Kind Op Shown) (queue : ℕ → ℕ → List (X × ℕ)) (messages : ℕ → ℕ → List (Passed Op)) (es : List E) : Type 0 where
    pub stand : (i : ℕ) → IsTrue (is_member view i) → Stands (states i) (nodes i)
    pub do_all : (i : ℕ) → IsTrue (is_member view i) → AllDo (states i) (own_entries i es)
    pub waits : Waits at stamp posts takes queue es
    pub mean : (i j : ℕ) → QueueMeans (queue i j) (messages i j)
    pub order : InOrder es
    pub takes_one : AllByRecursion TakesOne es
    pub members : AllByRecursion (λ e. IsTrue (is_member view (at e))) es

  abbrev pub AreModels : List E → List (Placed Op Shown) → Type 0
  AreModels [] [] = ⊤
  AreModels (e ∷ es) (x ∷ placed) = (x.at ≡ at e) × IsModelOf e x.entry × AreModels es placed
  AreModels _ _ = ⊥

  -- a state does these entries one after another, and each time stands for the member that the model entries replay
  abbrev pub AllStand : S → List E → Node Kind Op Shown → List (Entry Op Shown) → Type 0
  AllStand s [] n [] = Stands s n
  AllStand s (e ∷ es) n (m ∷ ms) = (s' : S) × Does s e s' × Stands s n × AllStand s' es (step D n m.input m.fate).node ms
  AllStand s _ n _ = ⊥

  -- model entries of all
  pub record HaveModels (states : ℕ → S) (nodes : ℕ → Node Kind Op Shown) (messages : ℕ → ℕ → List (Passed Op)) (es : List E) : Type 0 where
    pub placed : List (Placed Op Shown)
    pub models : AreModels es placed
    pub steps : (i : ℕ) → IsTrue (is_member view i) → AreSteps D (nodes i) (entries_at i placed)
    pub stand : (i : ℕ) → IsTrue (is_member view i) → AllStand (states i) (own_entries i es) (nodes i) (entries_at i placed)
    pub given : AllByRecursion (λ (x : Placed Op Shown). IsFromClients view views x.entry.input) placed
    pub heard : (i j : ℕ) → model.AreHeard (messages i j ++ posted_to j (entries_at i placed)) (taken_from i (entries_at j placed))

  own_here : (e : E) (es : List E) → own_entries (at e) (e ∷ es) ≡ e ∷ own_entries (at e) es
  own_here e es = ap (λ b. cond b (e ∷ own_entries (at e) es) (own_entries (at e) es)) (is_same (at e) (at e) refl)

  own_else : (i : ℕ) (e : E) (es : List E) → at e ≢ i → own_entries i (e ∷ es) ≡ own_entries i es
  own_else i e es isnt = ap (λ b. cond b (e ∷ own_entries i es) (own_entries i es)) (is_other (at e) i isnt)

  -- what one entry posts, and what its model does
  posts_mean : (e : E) (m : Entry Op Shown) → IsModelOf e m → (i j : ℕ) → QueueMeans (sent at stamp posts i j (e ∷ [])) (posts_of (record { at = at e; entry = m }) i j)
  posts_mean e m is i j = ⊎_elim
      (λ (here : at e ≡ i).
      subst (λ b. QueueMeans (flat_map (λ e. stamped (stamp e) (posts e j)) (cond b (e ∷ []) [])) (posts_of (record { at = at e; entry = m }) i j)) (sym (is_same (at e) i here))
      (subst (λ es. QueueMeans (stamped (stamp e) (posts e j) ++ []) (posted_to j es)) (sym (entries_here i (record { at = at e; entry = m }) [] here))
      (means_append (stamped (stamp e) (posts e j)) [] (map (λ (post : Post Op). record { message = post.message; stamp = m.stamp }) (filter (λ (post : Post Op). post.to == j) m.output.posts)) [] (is.same_posts j) tt)))
      (λ isnt.
      subst (λ b. QueueMeans (flat_map (λ e. stamped (stamp e) (posts e j)) (cond b (e ∷ []) [])) (posts_of (record { at = at e; entry = m }) i j)) (sym (is_other (at e) i isnt))
      (subst (λ es. QueueMeans [] (posted_to j es)) (sym (entries_else i (record { at = at e; entry = m }) [] isnt)) tt))
      (same_or_not (at e) i)

  module _ (simulates : Simulates) where
    module _ (states : ℕ → S) (nodes : ℕ → Node Kind Op Shown) (queue : ℕ → ℕ → List (X × ℕ)) (messages : ℕ → ℕ → List (Passed Op)) (e : E) (es : List E) (coming : Coming states nodes queue messages (e ∷ es)) where
      abbrev first_does : AllDo (states (at e)) (e ∷ own_entries (at e) es)
      first_does = subst (AllDo (states (at e))) (own_here e es) (coming.do_all (at e) coming.members.0)

      abbrev states' : ℕ → S
      states' = with_at states (at e) first_does.0

      abbrev nodes' : Entry Op Shown → ℕ → Node Kind Op Shown
      nodes' m = with_at nodes (at e) (step D (nodes (at e)) m.input m.fate).node

      abbrev placed_at : Entry Op Shown → Placed Op Shown
      placed_at m = record { at = at e; entry = m }

      -- what is to come after the entry
      coming_on : (m : Entry Op Shown) → IsModelOf e m → StepsTo (nodes (at e)) m first_does.0 → (queue' : ℕ → ℕ → List (X × ℕ)) (messages' : ℕ → ℕ → List (Passed Op)) → ((i j : ℕ) → QueueMeans (queue' i j) (messages' i j))
          → Waits at stamp posts takes (λ i j. queue' i j ++ sent at stamp posts i j (e ∷ [])) es
          → Coming states' (nodes' m) (λ i j. queue' i j ++ sent at stamp posts i j (e ∷ [])) (λ i j. messages' i j ++ posts_of (placed_at m) i j) es
      coming_on m is steps queue' messages' mean waits =
          record {
            stand = λ i mi. ⊎_elim
                (λ (here : i ≡ at e). subst (λ s. Stands s (nodes' m i)) (sym (with_at_is states (at e) first_does.0 i here)) (subst (Stands first_does.0) (sym (with_at_is nodes (at e) (step D (nodes (at e)) m.input m.fate).node i here)) steps.stands))
                (λ isnt. subst (λ s. Stands s (nodes' m i)) (sym (with_at_other states (at e) first_does.0 i isnt)) (subst (Stands (states i)) (sym (with_at_other nodes (at e) (step D (nodes (at e)) m.input m.fate).node i isnt)) (coming.stand i mi)))
                (same_or_not i (at e));
            do_all = λ i mi. ⊎_elim
                (λ (here : i ≡ at e). subst (λ s. AllDo s (own_entries i es)) (sym (with_at_is states (at e) first_does.0 i here)) (subst (λ j. AllDo first_does.0 (own_entries j es)) (sym here) first_does.2))
                (λ isnt. subst (λ s. AllDo s (own_entries i es)) (sym (with_at_other states (at e) first_does.0 i isnt)) (subst (AllDo (states i)) (own_else i e es (λ h. isnt (sym h))) (coming.do_all i mi)))
                (same_or_not i (at e));
            waits = waits;
            mean = λ i j. means_append (queue' i j) (sent at stamp posts i j (e ∷ [])) (messages' i j) (posts_of (placed_at m) i j) (mean i j) (posts_mean e m is i j);
            order = coming.order.1;
            takes_one = coming.takes_one.1;
            members = coming.members.1;
          }

      -- and what then has models, with the entry's own before them
      models_on : (m : Entry Op Shown) → IsModelOf e m → StepsTo (nodes (at e)) m first_does.0 → IsFromClients view views m.input → (messages' : ℕ → ℕ → List (Passed Op)) → (later : HaveModels states' (nodes' m) (λ i j. messages' i j ++ posts_of (placed_at m) i j) es)
          → ((i j : ℕ) → model.AreHeard (messages' i j ++ posted_to j (entries_at i (placed_at m ∷ later.placed))) (taken_from i (entries_at j later.placed)) → model.AreHeard (messages i j ++ posted_to j (entries_at i (placed_at m ∷ later.placed))) (taken_from i (entries_at j (placed_at m ∷ later.placed))))
          → HaveModels states nodes messages (e ∷ es)
      models_on m is steps given messages' later heard =
          record {
            placed = placed_at m ∷ later.placed;
            models = (refl, is, later.models);
            steps = λ i mi. ⊎_elim
                (λ (here : i ≡ at e).
                subst (λ j. AreSteps D (nodes j) (entries_at j (placed_at m ∷ later.placed))) (sym here)
                (subst (AreSteps D (nodes (at e))) (sym (entries_here (at e) (placed_at m) later.placed refl))
                (steps.has_room, steps.fits, steps.output, subst (λ n. AreSteps D n (entries_at (at e) later.placed)) (with_at_is nodes (at e) (step D (nodes (at e)) m.input m.fate).node (at e) refl) (later.steps (at e) coming.members.0))))
                (λ isnt. subst (AreSteps D (nodes i)) (sym (entries_else i (placed_at m) later.placed (λ h. isnt (sym h)))) (subst (λ n. AreSteps D n (entries_at i later.placed)) (with_at_other nodes (at e) (step D (nodes (at e)) m.input m.fate).node i isnt) (later.steps i mi)))
                (same_or_not i (at e));
            stand = λ i mi. ⊎_elim
                (λ (here : i ≡ at e).
                subst (λ j. AllStand (states j) (own_entries j (e ∷ es)) (nodes j) (entries_at j (placed_at m ∷ later.placed))) (sym here)
                (subst (λ xs. AllStand (states (at e)) xs (nodes (at e)) (entries_at (at e) (placed_at m ∷ later.placed))) (sym (own_here e es))
                (subst (AllStand (states (at e)) (e ∷ own_entries (at e) es) (nodes (at e))) (sym (entries_here (at e) (placed_at m) later.placed refl)) (
                  first_does.0,
                  first_does.1,
                  coming.stand (at e) coming.members.0,
                  subst (λ s. AllStand s (own_entries (at e) es) (step D (nodes (at e)) m.input m.fate).node (entries_at (at e) later.placed)) (with_at_is states (at e) first_does.0 (at e) refl)
                      (subst (λ n. AllStand (states' (at e)) (own_entries (at e) es) n (entries_at (at e) later.placed)) (with_at_is nodes (at e) (step D (nodes (at e)) m.input m.fate).node (at e) refl) (later.stand (at e) coming.members.0)),
                ))))
                (λ isnt.
                subst (λ xs. AllStand (states i) xs (nodes i) (entries_at i (placed_at m ∷ later.placed))) (sym (own_else i e es (λ h. isnt (sym h))))
                (subst (AllStand (states i) (own_entries i es) (nodes i)) (sym (entries_else i (placed_at m) later.placed (λ h. isnt (sym h))))
                (subst (λ s. AllStand s (own_entries i es) (nodes i) (entries_at i later.placed)) (with_at_other states (at e) first_does.0 i isnt)
                (subst (λ n. AllStand (states' i) (own_entries i es) n (entries_at i later.placed)) (with_at_other nodes (at e) (step D (nodes (at e)) m.input m.fate).node i isnt) (later.stand i mi)))))
                (same_or_not i (at e));
            given = (given, later.given);
            heard = λ i j. heard i j (subst (λ ps. model.AreHeard ps (taken_from i (entries_at j later.placed))) (append_assoc (messages' i j) (posts_of (placed_at m) i j) (posted_to j (entries_at i later.placed)) ∙ ap (λ ps. messages' i j ++ ps) (sym (posts_split (placed_at m) later.placed i j))) (later.heard i j));
          }

      -- an entry of a client
      client_models : ((i : ℕ) → takes e i ≡ []) → ((m : Entry Op Shown) (queue' : ℕ → ℕ → List (X × ℕ)) (messages' : ℕ → ℕ → List (Passed Op)) → Coming states' (nodes' m) queue' messages' es → HaveModels states' (nodes' m) messages' es) → HaveModels states nodes messages (e ∷ es)
      client_models none later =
          let made = simulates.by_client (states (at e)) first_does.0 e (nodes (at e)) (coming.stand (at e) coming.members.0) first_does.1 none in
          let m = made.entry in
          let models = later m (λ i j. queue i j ++ sent at stamp posts i j (e ∷ [])) (λ i j. messages i j ++ posts_of (placed_at m) i j) (coming_on m made.of made.steps queue messages coming.mean (waits_on at stamp posts takes queue e es none coming.waits)) in
          models_on m made.of made.steps made.given.from_clients messages models
          (λ i j h. subst (model.AreHeard (messages i j ++ posted_to j (entries_at i (placed_at m ∷ models.placed))))
          (sym (takes_split (placed_at m) models.placed i j ∙ ap (λ ts. ts ++ taken_from i (entries_at j models.placed)) (takes_none (placed_at m) i j m.input refl (made.given.none i m.stamp)))) h)

      -- the first of what is on its way, in the model too
      record IsFirst (x : X) (posted : ℕ) (xs : List (X × ℕ)) (ps : List (Passed Op)) : Type 0 where
        first : Passed Op
        others : List (Passed Op)
        is : ps ≡ first ∷ others
        means : Means x first.message
        when_posted : first.stamp ≡ posted
        rest : QueueMeans xs others

      first_of_queue : (x : X) (posted : ℕ) (xs : List (X × ℕ)) (ps : List (Passed Op)) → QueueMeans ((x, posted) ∷ xs) ps → IsFirst x posted xs ps
      first_of_queue x posted xs [] h = absurd h
      first_of_queue x posted xs (p ∷ ps) h = record { first = p; others = ps; is = refl; means = h.0; when_posted = h.1; rest = h.2 }

      -- an entry that takes a message
      message_models : (from : ℕ) (x : X) → IsTrue (is_member view from) → takes e from ≡ x ∷ [] → ((i : ℕ) → i ≢ from → takes e i ≡ [])
          → ((m : Entry Op Shown) (queue' : ℕ → ℕ → List (X × ℕ)) (messages' : ℕ → ℕ → List (Passed Op)) → Coming states' (nodes' m) queue' messages' es → HaveModels states' (nodes' m) messages' es) → HaveModels states nodes messages (e ∷ es)
      message_models from x member one others later =
          let due = takes_first at stamp posts takes queue e es from x one others coming.order.0 coming.waits in
          let f = first_of_queue x due.posted due.others (messages from (at e)) (subst (λ q. QueueMeans q (messages from (at e))) due.first (coming.mean from (at e))) in
          let made = simulates.by_message (states (at e)) first_does.0 e (nodes (at e)) from x f.first.message (coming.stand (at e) coming.members.0) first_does.1 one others f.means in
          let m = made.entry in
          let queue' : ℕ → ℕ → List (X × ℕ) = with_at queue from (with_at (queue from) (at e) due.others) in
          let messages' : ℕ → ℕ → List (Passed Op) = with_at messages from (with_at (messages from) (at e) f.others) in
          let mean' : (i j : ℕ) → QueueMeans (queue' i j) (messages' i j) =
          at_both from (at e) (λ i j. QueueMeans (queue' i j) (messages' i j))
          (subst (λ q. QueueMeans q (messages' from (at e))) (sym (table_here queue from (at e) due.others from (at e) refl refl)) (subst (QueueMeans due.others) (sym (table_here messages from (at e) f.others from (at e) refl refl)) f.rest))
          (λ a b away. subst (λ q. QueueMeans q (messages' a b)) (sym (table_else queue from (at e) due.others a b away)) (subst (QueueMeans (queue a b)) (sym (table_else messages from (at e) f.others a b away)) (coming.mean a b))) in
          let models = later m (λ i j. queue' i j ++ sent at stamp posts i j (e ∷ [])) (λ i j. messages' i j ++ posts_of (placed_at m) i j) (coming_on m made.of made.steps queue' messages' mean' due.waits) in
          models_on m made.of made.steps (subst (IsFromClients view views) (sym made.given) member) messages' models
          (at_both from (at e) (λ i j. model.AreHeard (messages' i j ++ posted_to j (entries_at i (placed_at m ∷ models.placed))) (taken_from i (entries_at j models.placed)) → model.AreHeard (messages i j ++ posted_to j (entries_at i (placed_at m ∷ models.placed))) (taken_from i (entries_at j (placed_at m ∷ models.placed))))
          (λ h.
          subst (model.AreHeard (messages from (at e) ++ posted_to (at e) (entries_at from (placed_at m ∷ models.placed))))
          (sym (takes_split (placed_at m) models.placed from (at e) ∙ ap (λ ts. ts ++ taken_from from (entries_at (at e) models.placed)) (takes_here (placed_at m) from (at e) f.first.message made.given refl)))
          (subst (λ q. model.AreHeard (q ++ posted_to (at e) (entries_at from (placed_at m ∷ models.placed))) (record { message = f.first.message; stamp = m.stamp } ∷ taken_from from (entries_at (at e) models.placed))) (sym f.is) (
            refl,
            (let a = f.when_posted in let b = due.earlier in let c = made.of.same_stamp in omega (arith, a, b, c)),
            subst (λ q. model.AreHeard (q ++ posted_to (at e) (entries_at from (placed_at m ∷ models.placed))) (taken_from from (entries_at (at e) models.placed))) (table_here messages from (at e) f.others from (at e) refl refl) h,
          )))
          (λ a b away h.
          subst (model.AreHeard (messages a b ++ posted_to b (entries_at a (placed_at m ∷ models.placed))))
          (sym (takes_split (placed_at m) models.placed a b ∙ ap (λ ts. ts ++ taken_from a (entries_at b models.placed)) (takes_else (placed_at m) a b from f.first.message made.given away)))
          (subst (λ q. model.AreHeard (q ++ posted_to b (entries_at a (placed_at m ∷ models.placed))) (taken_from a (entries_at b models.placed))) (table_else messages from (at e) f.others a b away) h)))

    pub all_have_models : (es : List E) (states : ℕ → S) (nodes : ℕ → Node Kind Op Shown) (queue : ℕ → ℕ → List (X × ℕ)) (messages : ℕ → ℕ → List (Passed Op)) → Coming states nodes queue messages es → HaveModels states nodes messages es
    all_have_models [] states nodes queue messages coming = record { placed = []; models = tt; steps = λ i mi. tt; stand = λ i mi. coming.stand i mi; given = tt; heard = λ i j. tt }
    all_have_models (e ∷ es) states nodes queue messages coming =
        by coming.takes_one.0 (λ m queue' messages' coming'. all_have_models es (states' states nodes queue messages e es coming) (nodes' states nodes queue messages e es coming m) queue' messages' coming')
      where
        by : TakesOne e
            → ((m : Entry Op Shown) (queue' : ℕ → ℕ → List (X × ℕ)) (messages' : ℕ → ℕ → List (Passed Op)) → Coming (states' states nodes queue messages e es coming) (nodes' states nodes queue messages e es coming m) queue' messages' es → HaveModels (states' states nodes queue messages e es coming) (nodes' states nodes queue messages e es coming m) messages' es)
            → HaveModels states nodes messages (e ∷ es)
        by (inl none) later = client_models states nodes queue messages e es coming none later
        by (inr (from, x, member, one, others)) later = message_models states nodes queue messages e es coming from x member one others later

  -- AS HISTORIES

  abbrev pub Rises : ℕ → List E → Type 0
  Rises u [] = ⊤
  Rises u (e ∷ es) = (u < stamp e) × Rises (stamp e) es

  abbrev pub Before : E → E → Type 0
  Before a b = (stamp a < stamp b) ⊎ ((stamp a ≡ stamp b) × (place_of view (at a) < place_of view (at b)))

  abbrev pub Sorted : List E → Type 0
  Sorted [] = ⊤
  Sorted (e ∷ es) = AllByRecursion (Before e) es × Sorted es

  models_rise : (i u : ℕ) (es : List E) (placed : List (Placed Op Shown)) → AreModels es placed → Rises u (own_entries i es) → model.RiseAbove u (entries_at i placed)
  models_rise i u [] [] m r = tt
  models_rise i u [] (x ∷ placed) m r = absurd m
  models_rise i u (e ∷ es) [] m r = absurd m
  models_rise i u (e ∷ es) (x ∷ placed) m r = ⊎_elim
      (λ (here : at e ≡ i).
      let r' = subst (Rises u) (ap (λ b. cond b (e ∷ own_entries i es) (own_entries i es)) (is_same (at e) i here)) r in
      subst (model.RiseAbove u) (sym (entries_here i x placed (m.0 ∙ here)))
      (subst (λ n. u < n) (sym m.1.same_stamp) r'.0, subst (λ n. model.RiseAbove n (entries_at i placed)) (sym m.1.same_stamp) (models_rise i (stamp e) es placed m.2 r'.1)))
      (λ isnt. subst (model.RiseAbove u) (sym (entries_else i x placed (λ h. isnt (sym m.0 ∙ h)))) (models_rise i u es placed m.2 (subst (Rises u) (own_else i e es isnt) r)))
      (same_or_not (at e) i)

  models_before : (e : E) (x : Placed Op Shown) (es : List E) (placed : List (Placed Op Shown)) → x.at ≡ at e → x.entry.stamp ≡ stamp e → AreModels es placed → AllByRecursion (Before e) es → AllByRecursion (model.ComesBefore view x) placed
  models_before e x [] [] a s m h = tt
  models_before e x [] (y ∷ placed) a s m h = absurd m
  models_before e x (f ∷ es) [] a s m h = absurd m
  models_before e x (f ∷ es) (y ∷ placed) a s m h = (
    let t = m.1.same_stamp in
        ⊎_elim (λ (less : stamp e < stamp f). inl (omega (arith, s, t, less)))
        (λ (same : (stamp e ≡ stamp f) × (place_of view (at e) < place_of view (at f))). inr (s ∙ same.0 ∙ sym t, subst (λ i. place_of view i < place_of view y.at) (sym a) (subst (λ j. place_of view (at e) < place_of view j) (sym m.0) same.1))) h.0,
    models_before e x es placed a s m.2 h.1,
  )

  models_sorted : (es : List E) (placed : List (Placed Op Shown)) → AreModels es placed → Sorted es → model.AreSorted view placed
  models_sorted [] [] m h = tt
  models_sorted [] (x ∷ placed) m h = absurd m
  models_sorted (e ∷ es) [] m h = absurd m
  models_sorted (e ∷ es) (x ∷ placed) m h = (models_before e x es placed m.0 m.1.same_stamp m.2 h.0, models_sorted es placed m.2 h.1)

  models_members : (es : List E) (placed : List (Placed Op Shown)) → AreModels es placed → AllByRecursion (λ e. IsTrue (is_member view (at e))) es → AllByRecursion (λ (x : Placed Op Shown). IsTrue (is_member view x.at)) placed
  models_members [] [] m h = tt
  models_members [] (x ∷ placed) m h = absurd m
  models_members (e ∷ es) [] m h = absurd m
  models_members (e ∷ es) (x ∷ placed) m h = (subst (λ i. IsTrue (is_member view i)) (sym m.0) h.0, models_members es placed m.2 h.1)

  in_order : (es : List E) → Sorted es → InOrder es
  in_order [] h = tt
  in_order (e ∷ es) h = (by es h.0, in_order es h.1)
    where
      by : (es : List E) → AllByRecursion (Before e) es → AllByRecursion (λ y. stamp e ≤ stamp y) es
      by [] h = tt
      by (f ∷ es) h = (⊎_elim (λ (less : stamp e < stamp f). omega (arith, less)) (λ (same : (stamp e ≡ stamp f) × (place_of view (at e) < place_of view (at f))). let q = same.0 in omega (arith, q)) h.0, by es h.1)

  -- code's entries in run order: what the locks and the cells of a section keep
  pub record AreCodeHistories (world : World Kind Op Shown) (states : ℕ → S) (es : List E) : Type 0 where
    pub same_view : world.view ≡ view
    pub same_views : views_of world ≡ views
    pub nodes : ℕ → Node Kind Op Shown
    pub run_there : (i : ℕ) → IsTrue (is_member view i) → world.nodes i ≡ Some (nodes i)
    pub stand : (i : ℕ) → IsTrue (is_member view i) → Stands (states i) (nodes i)
    pub do_all : (i : ℕ) → IsTrue (is_member view i) → AllDo (states i) (own_entries i es)
    pub heard : Waits at stamp posts takes (λ i j. []) es
    pub sorted : Sorted es
    pub rise : (i : ℕ) → Rises 0 (own_entries i es)
    pub takes_one : AllByRecursion TakesOne es
    pub members : AllByRecursion (λ e. IsTrue (is_member view (at e))) es

  pub record HaveHistories (world : World Kind Op Shown) (states : ℕ → S) (nodes : ℕ → Node Kind Op Shown) (es : List E) : Type 0 where
    pub placed : List (Placed Op Shown)
    pub models : AreModels es placed
    pub stand : (i : ℕ) → IsTrue (is_member view i) → AllStand (states i) (own_entries i es) (nodes i) (entries_at i placed)
    pub histories : model.AreHistories D world (λ i. entries_at i placed)
    pub order : model.IsRunOrder view (λ i. entries_at i placed) placed

  -- they have model entries, which are histories in run order
  pub code_has_histories : Simulates → (world : World Kind Op Shown) (states : ℕ → S) (es : List E) → (are : AreCodeHistories world states es) → HaveHistories world states are.nodes es
  code_has_histories simulates world states es are =
      let have = all_have_models simulates es states are.nodes (λ i j. []) (λ i j. [])
      (record { stand = are.stand; do_all = are.do_all; waits = are.heard; mean = λ i j. tt; order = in_order es are.sorted; takes_one = are.takes_one; members = are.members }) in
      record {
        placed = have.placed;
        models = have.models;
        stand = have.stand;
        histories = record {
          steps = λ i mi. let m = subst (λ v. IsTrue (is_member v i)) are.same_view mi in (are.nodes i, are.run_there i m, have.steps i m);
          given = λ i. subst (λ v. AllByRecursion (λ (e : Entry Op Shown). IsFromClients v (views_of world) e.input) (entries_at i have.placed)) (sym are.same_view)
              (subst (λ vs. AllByRecursion (λ (e : Entry Op Shown). IsFromClients view vs e.input) (entries_at i have.placed)) (sym are.same_views) (all_entries (λ (e : Entry Op Shown). IsFromClients view views e.input) i have.placed have.given));
          rise = λ i. models_rise i 0 es have.placed have.models (are.rise i);
          heard = λ i j mi mj. have.heard i j;
        };
        order = record { sorted = models_sorted es have.placed have.models are.sorted; whole = λ i mi. refl; members = models_members es have.placed have.models are.members };
      }
