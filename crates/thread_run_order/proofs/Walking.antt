-- Along the entries in run order, with a world of the program that means where the script is.
--     Going        a world before some entries
--     Went        what comes of them
--     went        it comes of them
use Rattle.std.proofs.Common.{◌≡◌, ◌≢◌, ⊎_elim, inl, inr, ◌⊎◌, ℕ, zero, suc, ◌+◌, ◌<◌, ◌≤◌, refl, sym, ap, subst, ◌∙◌, true, false, Bool, List, [], ◌∷◌, ◌++◌, length, map, Option, Some, None, arith, append_assoc}
use Rattle.std.specs.Prelude.{⊤, ◌==◌, ◌&&◌, if◌then◌else◌, filter, slice_get, is_some, option_map, IsTrue}
use Rattle.std.specs.List.{AllByRecursion}
use Rattle.std.proofs.lemmas.Bool.Decides.{eqb_tells}
use Rattle.std.proofs.lemmas.List.{append-nil}
use Rattle.model_history.specs.Table.{with_at, identity_limit}
use Rattle.model_history.specs.Texts.{Text}
use Rattle.model_history.specs.History.{History}
use Rattle.model_history.proofs.HistoryLaws.{with_at_other}
use Rattle.model_history.proofs.CutLaws.{with_at_is}
use Rattle.thread_machine.specs.declared.machine.Machine.{Ghosts as Machine}
use Rattle.model_members.specs.View.{View, is_member}
use Rattle.model_members.specs.DataType.{Replication}
use Rattle.model_members.specs.Message.{Message as Sent, Post}
use Rattle.model_members.specs.Node as nodes
use Rattle.model_members.specs.Node.{KeyDecl, Input as Taken, Fate as Became, Stepped}
use Rattle.model_members.specs.Step.{step, is_full}
use Rattle.model_members.specs.World as worlds
use Rattle.model_members.specs.World.{Links, Event, with_posts, moved_on, happens, after_step, run, FitsFate}
use Rattle.model_members.specs.World.Event.{InputAt, Delivery}
use Rattle.model_members.specs.Script.{Playing}
use Rattle.theorem_sections.specs.Histories as model
use Rattle.theorem_sections.specs.Histories.{Placed, Passed, taken_by, event_of, due_after, IsFromClients, posted_to, taken_from, entries_at, events_of, AreSteps}
use Rattle.theorem_sections.specs.Queues.{sent, Waits}
use Rattle.theorem_sections.proofs.NextDue.{same_or_not, table_here, table_else}
use Rattle.theorem_sections.proofs.OnTheWay.{waits_on, takes_first}
use Rattle.theorem_sections.proofs.RunOrder.{at_both, is_same, is_other, entries_here, entries_else, posts_of, posts_split, takes_split, takes_none, takes_here, takes_else}
use Rattle.model_kinds.specs.declared.operation.Op.{Op}
use Rattle.model_kinds.specs.declared.shown.Shown.{Shown}
use Rattle.data_lattice.specs.declared.replica.Replica.{Ghosts}
use Rattle.data_lattice.specs.declared.spelled.SpelledData.{Ghosts as Spelling}
use Rattle.member_keeper.specs.declared.keeper.Keeper.{Ghosts as Keeping}
use Rattle.member_messages.specs.declared.message.Message.{Message}
use Rattle.member_messages.specs.declared.message.Post as code
use Rattle.member_messages.specs.Sketches.{sketch_of}
use Rattle.member_views.specs.Sound.{IsView, last_view}
use Rattle.member_node.specs.declared.key.KeyState.{KeyState}
use Rattle.member_node.specs.declared.input.Input.{Input}
use Rattle.member_node.specs.declared.input.Input.TheVariants as form
use Rattle.member_node.specs.declared.node.Node.{Node}
use Rattle.member_node.specs.declared.reply.Fate.{Fate}
use Rattle.member_node.specs.declared.reply.Output.{Output}
use Rattle.member_node.specs.declared.reply.StepError.{StepError}
use Rattle.member_node.proofs.Takings.{told_whole}
use Rattle.member_node.specs.Inputs.{StandsForInput}
use Rattle.member_node.specs.Members.{StandsForMessage, IsSafe}
use Rattle.member_node.specs.Replies.{meant_fate}
use Rattle.member_node.specs.Steps.{replication, IsStepOf, IsUnchanged}
use Rattle.world_members.specs.declared.world.World.{World}
use Rattle.world_places.specs.Channels.{Channel, channel_at, message_on, passed, extended}
use Rattle.world_members.specs.Entering.{IsGivenFrom}
use Rattle.world_members.specs.Giving.{ChangesAt}
use Rattle.world_places.specs.Sketched.{sketched, sketched_post}
use Rattle.world_places.specs.Places.{item_at, identity_at, seat_of}
use Rattle.world_places.specs.Sending.{messages_to, told_of}
use Rattle.world_members.specs.Ways.{Throughout, Means}
use Rattle.world_members.proofs.Entering.{with_member, changes_with, links_with, IsEntered, meant_input, input_means, input_enters, meant_message, message_there, message_sketch, take_enters}
use Rattle.world_places.proofs.Seats.{item-set_same, item-set_other}
use Rattle.world_places.proofs.Linking.{link_message}
use Rattle.world_members.proofs.Onward.{means_same, way_logs, throughout_earlier, throughout_same, safe_now}
use Rattle.world_places.proofs.Lists.{pair_both}
use Rattle.thread_run_order.specs.Orders.{AtPlace, entries_of, AreSorted}
use Rattle.thread_run_order.specs.Images.{EntryOf, IsMeantBy, IsImage, AreImages}
use Rattle.thread_run_order.specs.Section.{takes_of, IsGiven}
use Rattle.thread_run_order.proofs.Following.{Paired, IsFollowed, AreSafe}
use Rattle.thread_run_order.proofs.Forward.{Goes}
use Rattle.thread_run_order.proofs.Links.{over, channel_over, after_from, after_none, after_nothing, after_extended, after_passed}
use Rattle.thread_run_order.proofs.Merging.{same_place, other_place}
use Rattle.thread_run_order.proofs.Places.{seat_there, member_there, ids_apart, small_place, small_identity}
use Rattle.thread_run_order.proofs.Refusals.{StaysBut, CameTo, AtStep, to_step, GoesQuietly, Ended, all_end, seat_in, sound_in}
use Rattle.thread_run_order.proofs.Ways.{OnTheWay, Ways, ways_posted, WayOn, next, channels_on, ways_taken}

-- INPUTS THAT TAKE NOTHING

-- an input that takes nothing, and is given by clients
pub record IsNoTake (views : List View) (taken : Taken Op) : Type 0 where
  pub event : (due : ℕ → ℕ → ℕ) (i : ℕ) (fate : Became) → event_of due i fate taken ≡ InputAt i taken fate
  pub due : (due : ℕ → ℕ → ℕ) (i : ℕ) → due_after due i taken ≡ due
  pub none : (i stamp : ℕ) → taken_by i stamp taken ≡ []
  pub from_clients : (view : View) → IsFromClients view views taken

module _ {T Kind Delta : Type 0} {ghosts : Ghosts T Kind Op Delta} (kinds : Text → Kind) (logs : Text → History Op) (keys : List (KeyState T Kind Op Delta)) (views : List View) where
  is_no_take : (input : Input T Kind Op Delta ghosts) (taken : Taken Op) → IsGivenFrom views input → StandsForInput kinds logs keys input taken → IsNoTake views taken × IsMeantBy input taken
  is_no_take (form.Update key op level) taken given e = (subst (IsNoTake views) (sym e) (record { event = λ due i fate. refl; due = λ due i. refl; none = λ i stamp. refl; from_clients = λ view. tt }), e)
  is_no_take (form.Get key level) taken given e = (subst (IsNoTake views) (sym e) (record { event = λ due i fate. refl; due = λ due i. refl; none = λ i stamp. refl; from_clients = λ view. tt }), e)
  is_no_take (form.Take from message) taken given e = absurd given
  is_no_take (form.Install view) taken given e = (subst (IsNoTake views) (sym e) (record { event = λ due i fate. refl; due = λ due i. refl; none = λ i stamp. refl; from_clients = λ _. given }), e)
  is_no_take form.Flush taken given e = (subst (IsNoTake views) (sym e) (record { event = λ due i fate. refl; due = λ due i. refl; none = λ i stamp. refl; from_clients = λ view. tt }), e)
  is_no_take (form.GossipTo to) taken given e = (subst (IsNoTake views) (sym e) (record { event = λ due i fate. refl; due = λ due i. refl; none = λ i stamp. refl; from_clients = λ view. tt }), e)
  is_no_take form.PruneTick taken given e = (subst (IsNoTake views) (sym e) (record { event = λ due i fate. refl; due = λ due i. refl; none = λ i stamp. refl; from_clients = λ view. tt }), e)
  is_no_take (form.Timeout op) taken given e = (subst (IsNoTake views) (sym e) (record { event = λ due i fate. refl; due = λ due i. refl; none = λ i stamp. refl; from_clients = λ view. tt }), e)

  -- and it stands for the model's in all logs, and for all keys
  stands_meant : (input : Input T Kind Op Delta ghosts) (taken : Taken Op) → IsGivenFrom views input → IsMeantBy input taken → StandsForInput kinds logs keys input taken
  stands_meant (form.Update key op level) taken given e = e
  stands_meant (form.Get key level) taken given e = e
  stands_meant (form.Take from message) taken given e = absurd given
  stands_meant (form.Install view) taken given e = e
  stands_meant form.Flush taken given e = e
  stands_meant (form.GossipTo to) taken given e = e
  stands_meant form.PruneTick taken given e = e
  stands_meant (form.Timeout op) taken given e = e

-- what an input of a section is
pub data Kind-of {T Kind Delta : Type 0} {ghosts : Ghosts T Kind Op Delta} (view : View) (views : List View) (input : Input T Kind Op Delta ghosts) : Type 0 where
  of_client : IsGivenFrom views input → ((i : ℕ) → takes_of i input ≡ []) → Kind-of view views input
  of_member : (from place : ℕ) (message : Message T Kind Op Delta ghosts) → input ≡ form.Take from message → identity_at view place ≡ Some from → Kind-of view views input

kind_of : {T Kind Delta : Type 0} {ghosts : Ghosts T Kind Op Delta} (view : View) (views : List View) (input : Input T Kind Op Delta ghosts) → IsGiven view views input → Kind-of view views input
kind_of view views (form.Update key op level) given = of_client tt (λ i. refl)
kind_of view views (form.Get key level) given = of_client tt (λ i. refl)
kind_of view views (form.Take from message) given = of_member from given.0 message refl given.1
kind_of view views (form.Install other) given = of_client given (λ i. refl)
kind_of view views form.Flush given = of_client tt (λ i. refl)
kind_of view views (form.GossipTo to) given = of_client tt (λ i. refl)
kind_of view views form.PruneTick given = of_client tt (λ i. refl)
kind_of view views (form.Timeout op) given = of_client tt (λ i. refl)

-- POSTS

-- posts that are told alike are as many to each member
module _ {T Kind Delta : Type 0} {ghosts : Ghosts T Kind Op Delta} where
  pub as_many : (posts : List (code.Post T Kind Op Delta ghosts)) (sents : List (Post Op)) → map told_of posts ≡ map sketched_post sents → (j : ℕ) → length (messages_to posts j) ≡ length (filter (λ (post : Post Op). post.to == j) sents)
  as_many [] [] e j = refl
  as_many [] (s ∷ sents) e j = absurd (cc e)
  as_many (post ∷ posts) [] e j = absurd (cc e)
  as_many (post ∷ posts) (s ∷ sents) e j =
      let first : told_of post ≡ sketched_post s = cc e in
      let to : post.to ≡ s.to = ap (λ (t : Rattle.world_places.specs.declared.sent.SentTo.SentTo). t.to) first in
      let rest = as_many posts sents (cc e) j in
      go (post.to == j) (s.to == j) (ap (λ n. n == j) to) rest
    where
      go : (a b : Bool) → a ≡ b → length (messages_to posts j) ≡ length (filter (λ (post : Post Op). post.to == j) sents)
          → length (map (λ (post : code.Post T Kind Op Delta ghosts). post.message) (if a then post ∷ filter (λ (post : code.Post T Kind Op Delta ghosts). post.to == j) posts else filter (λ (post : code.Post T Kind Op Delta ghosts). post.to == j) posts))
          ≡ length (if b then s ∷ filter (λ (post : Post Op). post.to == j) sents else filter (λ (post : Post Op). post.to == j) sents)
      go true true e h = ap suc h
      go true false e h = absurd (cc e)
      go false true e h = absurd (cc e)
      go false false e h = h

-- nothing, where there is no identity
abbrev pub at_one : {X : Type 0} → (ℕ → List X) → Option ℕ → List X
at_one f None = []
at_one f (Some i) = f i

-- an identity is this one
abbrev pub is_id : Option ℕ → ℕ → Bool
is_id None i = false
is_id (Some k) i = i == k

-- what entries send on a link, and how many messages they take from it
module _ {T K Kind Delta : Type 0} {ghosts : Ghosts T Kind Op Delta} {keeping : Keeping K} where
  abbrev pub sent_in : View → ℕ → ℕ → List (AtPlace (EntryOf ghosts keeping)) → List (Message T Kind Op Delta ghosts)
  sent_in view a b [] = []
  sent_in view a b (x ∷ xs) = (if is_id (identity_at view x.place) a then messages_to x.entry.output.posts b else []) ++ sent_in view a b xs

  abbrev pub taken_in : View → ℕ → ℕ → List (AtPlace (EntryOf ghosts keeping)) → ℕ
  taken_in view a b [] = 0
  taken_in view a b (x ∷ xs) = (if is_id (identity_at view x.place) b then length (takes_of a x.entry.input) else 0) + taken_in view a b xs

module _ {T K Kind Delta : Type 0} {ghosts : Ghosts T Kind Op Delta} {keeping : Keeping K} (spelling : Spelling T Kind Op Delta) (alike : (a b : K) → is_some (keeping.table a) ≡ is_some (keeping.table b)) (meaning : Machine (Node T K Kind Op Delta ghosts keeping) (Input T Kind Op Delta ghosts) Fate (Output T Kind Op Delta ghosts) StepError)
    (steps_are : (old : Node T K Kind Op Delta ghosts keeping) (input : Input T Kind Op Delta ghosts) (fate : Fate) (output : Output T Kind Op Delta ghosts) (new : Node T K Kind Op Delta ghosts keeping) → meaning.Steps old input fate output new → IsStepOf spelling old input fate output new)
    (unchanged_are : (old new : Node T K Kind Op Delta ghosts keeping) → meaning.IsUnchanged old new → IsUnchanged old new)
    (kinds : Text → Kind) (members : ℕ) (decls : List (KeyDecl Kind)) (views : List View) (sound : IsView (last_view views)) (lasts : ℕ → Option (Node T K Kind Op Delta ghosts keeping)) where
  abbrev D : Replication Kind Op Shown
  D = replication ghosts spelling

  abbrev ids : ℕ → Option ℕ
  ids = identity_at (last_view views)

  abbrev X : Type 0
  X = Message T Kind Op Delta ghosts

  abbrev Item : Type 0
  Item = AtPlace (EntryOf ghosts keeping)

  abbrev at : Item → ℕ
  at x = x.place

  abbrev stamp : Item → ℕ
  stamp x = x.entry.stamp

  -- what an entry posts to the member of a place, and takes of it
  abbrev posts : Item → ℕ → List X
  posts x b = at_one (messages_to x.entry.output.posts) (ids b)

  abbrev takes : Item → ℕ → List X
  takes x a = at_one (λ i. takes_of i x.entry.input) (ids a)

  abbrev AllWays : (ℕ → ℕ → List (X × ℕ)) → (ℕ → ℕ → List (Passed Op)) → (ℕ → ℕ → ℕ) → (ℕ → ℕ → Option (Channel X)) → Links Op → Type 0
  AllWays = Ways ids (ids_apart (last_view views) sound)

  abbrev IsEntry : Item → Type 0
  IsEntry x = (i : ℕ) × (ids x.place ≡ Some i) × IsGiven (last_view views) views x.entry.input

  abbrev sent_on : ℕ → ℕ → List Item → List X
  sent_on = sent_in (last_view views)

  abbrev taken_on : ℕ → ℕ → List Item → ℕ
  taken_on = taken_in (last_view views)

  pub record Going (w : World T K Kind Op Delta ghosts keeping) (p : Playing Kind Op Shown) (due : ℕ → ℕ → ℕ) (queue : ℕ → ℕ → List (X × ℕ)) (messages : ℕ → ℕ → List (Passed Op)) (xs : List Item) : Type 0 where
    pub same : w.views ≡ views
    pub means : Means spelling kinds members decls p w
    pub goes : (k : ℕ) (now : Node T K Kind Op Delta ghosts keeping) → item_at w.nodes.items k ≡ Some now → (last : Node T K Kind Op Delta ghosts keeping) × (lasts k ≡ Some last) × Goes meaning now (entries_of k xs) last
    pub none : (k : ℕ) → item_at w.nodes.items k ≡ None → lasts k ≡ None
    pub ways : AllWays queue messages due (channel_at w.links) p.world.links
    pub waits : Waits at stamp posts takes queue xs
    pub sorted : AreSorted xs
    pub given : AllByRecursion IsEntry xs

  -- a script past the events of these entries
  abbrev pub past : Playing Kind Op Shown → (ℕ → ℕ → ℕ) → List (Placed Op Shown) → Playing Kind Op Shown
  past p due placed = record p { events = p.events ++ events_of due placed }

  pub record Went (w : World T K Kind Op Delta ghosts keeping) (p : Playing Kind Op Shown) (due : ℕ → ℕ → ℕ) (messages : ℕ → ℕ → List (Passed Op)) (xs : List Item) : Type 0 where
    pub placed : List (Placed Op Shown)
    pub images : AreImages ids xs placed
    pub steps : (i : ℕ) (member : nodes.Node Kind Op Shown) → p.world.nodes i ≡ Some member → AreSteps D member (entries_at i placed)
    pub given : AllByRecursion (λ (y : Placed Op Shown). IsFromClients (last_view views) views y.entry.input) placed
    pub heard : (a b i j : ℕ) → ids a ≡ Some i → ids b ≡ Some j → model.AreHeard (messages i j ++ posted_to j (entries_at i placed)) (taken_from i (entries_at j placed))
    pub world : World T K Kind Op Delta ghosts keeping
    pub same_views : world.views ≡ w.views
    pub same_keys : world.keys ≡ w.keys
    pub same_spare : world.spare ≡ w.spare
    pub ended : (k : ℕ) → k < 8 → item_at world.nodes.items k ≡ lasts k
    pub links : (a b : ℕ) → channel_at world.links a b ≡ option_map (after_from (due a b) (sent_on a b xs) (taken_on a b xs)) (channel_at w.links a b)
    pub means : (q : Playing Kind Op Shown) → q.events ≡ p.events ++ events_of due placed → q.world ≡ run D p.world (events_of due placed) → Means spelling kinds members decls q world
    pub followed : (logs : Text → History Op) → Throughout D logs members decls (past p due placed) → Paired ids (IsFollowed {ghosts = ghosts} {keeping = keeping} kinds logs) xs placed
    pub safe : (logs : Text → History Op) → Throughout D logs members decls (past p due placed) → (i : ℕ) (member : nodes.Node Kind Op Shown) → p.world.nodes i ≡ Some member → AreSafe D logs member (entries_at i placed)

  -- AT THE END

  some_same : (o : Option (Channel X)) (due : ℕ) → o ≡ option_map (after_from due [] 0) o
  some_same None due = refl
  some_same (Some c) due = ap Some (sym (after_nothing due c))

  at_end : (w : World T K Kind Op Delta ghosts keeping) (p : Playing Kind Op Shown) (due : ℕ → ℕ → ℕ) (queue : ℕ → ℕ → List (X × ℕ)) (messages : ℕ → ℕ → List (Passed Op)) → Going w p due queue messages [] → Went w p due messages []
  at_end w p due queue messages g =
      let e = all_end spelling alike meaning unchanged_are kinds members decls p views sound lasts w g.same g.means (λ k small. record { some = g.goes k; none = g.none k }) 8 (omega arith) in
      record {
        placed = [];
        images = tt;
        steps = λ i member runs. tt;
        given = tt;
        heard = λ a b i j of_a of_b. tt;
        world = e.world;
        same_views = e.same_views;
        same_keys = e.same_keys;
        same_spare = e.same_spare;
        ended = λ k small. e.done k small;
        links = λ a b. ap (λ links. channel_at links a b) e.same_links ∙ some_same (channel_at w.links a b) (due a b);
        means = λ q events world. means_same spelling kinds members decls p q e.world (events ∙ append-nil p.events) world e.means;
        followed = λ logs through. tt;
        safe = λ logs through i member runs. tt;
      }

  -- ONE ENTRY

  module _ (w : World T K Kind Op Delta ghosts keeping) (p : Playing Kind Op Shown) (due : ℕ → ℕ → ℕ) (queue : ℕ → ℕ → List (X × ℕ)) (messages : ℕ → ℕ → List (Passed Op)) (x : Item) (xs : List Item) (g : Going w p due queue messages (x ∷ xs)) where
    abbrev i : ℕ
    i = g.given.0.0

    abbrev here : ids x.place ≡ Some i
    here = g.given.0.1

    -- the member at the place
    its_node : (o : Option (Node T K Kind Op Delta ghosts keeping)) → option_map (λ (node : Node T K Kind Op Delta ghosts keeping). node.id) o ≡ Some i → (now : Node T K Kind Op Delta ghosts keeping) × (o ≡ Some now)
    its_node None e = absurd (cc e)
    its_node (Some now) e = (now, refl)

    runs_there : (now : Node T K Kind Op Delta ghosts keeping) × (item_at w.nodes.items x.place ≡ Some now)
    runs_there = its_node (item_at w.nodes.items x.place) (w.seated.members x.place (small_place (last_view views) sound x.place i here) ∙ ap (λ (vs : List View). identity_at (last_view vs) x.place) g.same ∙ here)

    abbrev going : (last : Node T K Kind Op Delta ghosts keeping) × (lasts x.place ≡ Some last) × Goes meaning runs_there.0 (entries_of x.place (x ∷ xs)) last
    going = g.goes x.place runs_there.0 runs_there.1

    at_step : AtStep spelling alike meaning unchanged_are kinds members decls p views sound x.place i here x.entry (entries_of x.place xs) going.0 w
    at_step =
        to_step spelling alike meaning unchanged_are kinds members decls p views sound x.place i here (entries_of x.place (x ∷ xs)) runs_there.0 going.0 going.2 x.entry (entries_of x.place xs) (same_place x x.place x xs refl) w g.same g.means runs_there.1

    -- the world at the step, and the step
    abbrev old : World T K Kind Op Delta ghosts keeping
    old = at_step.came.world

    abbrev makes : IsStepOf spelling at_step.before x.entry.input x.entry.fate x.entry.output at_step.next
    makes = steps_are at_step.before x.entry.input x.entry.fate x.entry.output at_step.next at_step.makes

    abbrev old_views : old.views ≡ views
    old_views = at_step.came.but.views ∙ g.same

    module _ (change : ℕ → ℕ → Channel X → Channel X) where
      -- the world after it
      abbrev new : World T K Kind Op Delta ghosts keeping
      new = with_member old x.place at_step.before at_step.next at_step.came.is makes.identity makes.limit (over change old.links)

      abbrev changes : ChangesAt i x.place at_step.before at_step.next old new
      changes = changes_with old x.place at_step.before at_step.next at_step.came.is makes.identity makes.limit i (over change old.links) (sound_in spelling alike meaning unchanged_are kinds members decls p views sound old old_views) (seat_in spelling alike meaning unchanged_are kinds members decls p views sound old old_views x.place i here)

      new_links : (a b : ℕ) → channel_at new.links a b ≡ option_map (change a b) (channel_at old.links a b)
      new_links a b = ap (λ links. channel_at links a b) (links_with old x.place at_step.before at_step.next at_step.came.is makes.identity makes.limit (over change old.links)) ∙ channel_over change old.links a b

      from_before : (a b : ℕ) → channel_at new.links a b ≡ option_map (change a b) (channel_at w.links a b)
      from_before a b = new_links a b ∙ ap (λ links. option_map (change a b) (channel_at links a b)) at_step.came.but.links

      -- the model's entry
      abbrev entry_of : (taken : Taken Op) (event : Event Op) (links : Links Op) → IsEntered spelling kinds members decls p new i x.entry.fate x.entry.output taken event links → model.Entry Op Shown
      entry_of taken event links entered = record { client = x.entry.client; input = taken; fate = meant_fate x.entry.fate; output = (step D entered.node taken (meant_fate x.entry.fate)).output; stamp = x.entry.stamp }

      -- where the script is after it
      abbrev after : Event Op → Playing Kind Op Shown
      after event = record p { world = happens D p.world event; events = p.events ++ event ∷ [] }

      -- what the entry is in the model, and what is on the way after it
      record Turned (taken : Taken Op) (event : Event Op) (links : Links Op) (due' : ℕ → ℕ → ℕ) (queue' : ℕ → ℕ → List (X × ℕ)) (messages' : ℕ → ℕ → List (Passed Op)) : Type 0 where
        entered : IsEntered spelling kinds members decls p new i x.entry.fate x.entry.output taken event links
        event_is : event_of due i (meant_fate x.entry.fate) taken ≡ event
        due_is : due_after due i taken ≡ due'
        meant : IsMeantBy x.entry.input taken
        stands : (logs : Text → History Op) → Throughout D logs members decls p → (keys : List (KeyState T Kind Op Delta)) → StandsForInput kinds logs keys x.entry.input taken
        from_clients : IsFromClients (last_view views) views taken
        ways : AllWays queue' messages' due' (channel_at new.links) (with_posts links i (step D entered.node taken (meant_fate x.entry.fate)).output.posts)
        waits : Waits at stamp posts takes queue' xs
        heard : (later : List (Placed Op Shown)) (a b k j : ℕ) → ids a ≡ Some k → ids b ≡ Some j → model.AreHeard (messages' k j ++ posted_to j (entries_at k later)) (taken_from k (entries_at j later))
            → model.AreHeard (messages k j ++ posted_to j (entries_at k (record { at = i; entry = entry_of taken event links entered } ∷ later))) (taken_from k (entries_at j (record { at = i; entry = entry_of taken event links entered } ∷ later)))
        links_on : (a b : ℕ) (ps : List X) (n : ℕ) (c : Channel X) → channel_at w.links a b ≡ Some c
            → after_from (due' a b) ps n (change a b c) ≡ after_from (due a b) ((if is_id (ids x.place) a then messages_to x.entry.output.posts b else []) ++ ps) ((if is_id (ids x.place) b then length (takes_of a x.entry.input) else 0) + n) c

      module _ (taken : Taken Op) (event : Event Op) (links : Links Op) (due' : ℕ → ℕ → ℕ) (queue' : ℕ → ℕ → List (X × ℕ)) (messages' : ℕ → ℕ → List (Passed Op)) (t : Turned taken event links due' queue' messages') where
        abbrev stepped : Stepped Kind Op Shown
        stepped = step D t.entered.node taken (meant_fate x.entry.fate)

        abbrev y : Placed Op Shown
        y = record { at = i; entry = entry_of taken event links t.entered }

        member_here : item_at new.nodes.items x.place ≡ Some at_step.next
        member_here = ap (λ items. item_at items x.place) changes.nodes ∙ item-set_same old.nodes.items x.place (Some at_step.next) changes.within

        member_else : (k : ℕ) → k ≢ x.place → item_at new.nodes.items k ≡ item_at w.nodes.items k
        member_else k other = ap (λ items. item_at items k) changes.nodes ∙ item-set_other old.nodes.items x.place k (Some at_step.next) other ∙ at_step.came.but.others k other

        goes_on : (k : ℕ) (now : Node T K Kind Op Delta ghosts keeping) → item_at new.nodes.items k ≡ Some now → (last : Node T K Kind Op Delta ghosts keeping) × (lasts k ≡ Some last) × Goes meaning now (entries_of k xs) last
        goes_on k now is = elim (eqb_tells k x.place) [
          | inl same ↦
              let next_is : at_step.next ≡ now = let e = sym member_here ∙ ap (item_at new.nodes.items) (sym same.1) ∙ is in cc e in
              (going.0, ap lasts same.1 ∙ going.1, subst (λ n. Goes meaning n (entries_of k xs) going.0) next_is (subst (λ j. Goes meaning at_step.next (entries_of j xs) going.0) (sym same.1) at_step.goes))
          | inr other ↦
              let before = g.goes k now (sym (member_else k other.1) ∙ is) in
              (before.0, before.1, subst (λ es. Goes meaning now es before.0) (other_place x k x xs (λ e. other.1 (sym e))) before.2)
        ]

        none_on : (k : ℕ) → item_at new.nodes.items k ≡ None → lasts k ≡ None
        none_on k is = elim (eqb_tells k x.place) [
          | inl same ↦ absurd (let e : ◌≡◌ {A = Option (Node T K Kind Op Delta ghosts keeping)} (Some at_step.next) None = sym member_here ∙ ap (item_at new.nodes.items) (sym same.1) ∙ is in cc e)
          | inr other ↦ g.none k (sym (member_else k other.1) ∙ is)
        ]

        links_are : (happens D p.world event).links ≡ with_posts links i stepped.output.posts
        links_are = ap (λ (v : worlds.World Kind Op Shown). v.links) t.entered.happened

        going_on : Going new (after event) due' queue' messages' xs
        going_on =
            record {
              same = changes.views ∙ old_views;
              means = t.entered.means (after event) refl refl;
              goes = goes_on;
              none = none_on;
              ways = subst (AllWays queue' messages' due' (channel_at new.links)) (sym links_are) t.ways;
              waits = t.waits;
              sorted = g.sorted.1;
              given = g.given.1;
            }

        module _ (later : Went new (after event) due' messages' xs) where
          steps_with : (k : ℕ) (member : nodes.Node Kind Op Shown) → p.world.nodes k ≡ Some member → AreSteps D member (entries_at k (y ∷ later.placed))
          steps_with k member runs = ⊎_elim
              (λ (same : k ≡ i).
              let is : t.entered.node ≡ member = let e = sym t.entered.runs ∙ ap p.world.nodes (sym same) ∙ runs in cc e in
              subst (λ n. AreSteps D n (entries_at k (y ∷ later.placed))) is
              (subst (AreSteps D t.entered.node) (sym (entries_here k y later.placed (sym same))) (
                t.entered.has_room,
                t.entered.fits,
                refl,
                later.steps k stepped.node (ap (λ (v : worlds.World Kind Op Shown). v.nodes k) t.entered.happened ∙ with_at_is p.world.nodes i (Some stepped.node) k same),
              )))
              (λ other.
              subst (AreSteps D member) (sym (entries_else k y later.placed (λ e. other (sym e))))
              (later.steps k member (ap (λ (v : worlds.World Kind Op Shown). v.nodes k) t.entered.happened ∙ with_at_other p.world.nodes i (Some stepped.node) k other ∙ runs)))
              (same_or_not k i)

          events_are : events_of due (y ∷ later.placed) ≡ event ∷ events_of due' later.placed
          events_are = ap (λ e. e ∷ events_of (due_after due i taken) later.placed) t.event_is ∙ ap (λ d. event ∷ events_of d later.placed) t.due_is

          links_with_all : (a b : ℕ) → channel_at later.world.links a b ≡ option_map (after_from (due a b) (sent_on a b (x ∷ xs)) (taken_on a b (x ∷ xs))) (channel_at w.links a b)
          links_with_all a b = later.links a b ∙ ap (option_map (after_from (due' a b) (sent_on a b xs) (taken_on a b xs))) (from_before a b) ∙ go (channel_at w.links a b) refl
            where
              go : (o : Option (Channel X)) → channel_at w.links a b ≡ o → option_map (after_from (due' a b) (sent_on a b xs) (taken_on a b xs)) (option_map (change a b) o) ≡ option_map (after_from (due a b) (sent_on a b (x ∷ xs)) (taken_on a b (x ∷ xs))) o
              go None is = refl
              go (Some c) is = ap Some (t.links_on a b (sent_on a b xs) (taken_on a b xs) c is)

          past_events : (past (after event) due' later.placed).events ≡ (past p due (y ∷ later.placed)).events
          past_events = append_assoc p.events (event ∷ []) (events_of due' later.placed) ∙ sym (ap (λ es. p.events ++ es) events_are)

          module _ (logs : Text → History Op) (through : Throughout D logs members decls (past p due (y ∷ later.placed))) where
            through_now : Throughout D logs members decls p
            through_now = throughout_earlier D logs members decls p (past p due (y ∷ later.placed)) (events_of due (y ∷ later.placed), refl) through

            through_later : Throughout D logs members decls (past (after event) due' later.placed)
            through_later = throughout_same D logs members decls (past (after event) due' later.placed) (past p due (y ∷ later.placed)) (sym past_events) through

            through_next : Throughout D logs members decls (after event)
            through_next = throughout_earlier D logs members decls (after event) (past (after event) due' later.placed) (events_of due' later.placed, refl) through_later

            runs_next : (after event).world.nodes i ≡ Some stepped.node
            runs_next = ap (λ (v : worlds.World Kind Op Shown). v.nodes i) t.entered.happened ∙ with_at_is p.world.nodes i (Some stepped.node) i refl

            safe_next : IsSafe logs stepped.node
            safe_next = safe_now D logs members decls (after event) (t.entered.means (after event) refl refl).run through_next i stepped.node runs_next

            safe_with : (k : ℕ) (member : nodes.Node Kind Op Shown) → p.world.nodes k ≡ Some member → AreSafe D logs member (entries_at k (y ∷ later.placed))
            safe_with k member runs = ⊎_elim
                (λ (same : k ≡ i).
                let is : t.entered.node ≡ member = let e = sym t.entered.runs ∙ ap p.world.nodes (sym same) ∙ runs in cc e in
                subst (λ n. AreSafe D logs n (entries_at k (y ∷ later.placed))) is
                (subst (AreSafe D logs t.entered.node) (sym (entries_here k y later.placed (sym same))) (
                  safe_next,
                  later.safe logs through_later k stepped.node (ap (λ (v : worlds.World Kind Op Shown). v.nodes k) t.entered.happened ∙ with_at_is p.world.nodes i (Some stepped.node) k same),
                )))
                (λ other.
                subst (AreSafe D logs member) (sym (entries_else k y later.placed (λ e. other (sym e))))
                (later.safe logs through_later k member (ap (λ (v : worlds.World Kind Op Shown). v.nodes k) t.entered.happened ∙ with_at_other p.world.nodes i (Some stepped.node) k other ∙ runs)))
                (same_or_not k i)

          went_with : Went w p due messages (x ∷ xs)
          went_with =
              record {
                placed = y ∷ later.placed;
                images = (here, record { client = refl; stamp = refl; input = t.meant; fate = refl; reply = t.entered.reply; posts = t.entered.posts; ended = t.entered.ended }, later.images);
                steps = steps_with;
                given = (t.from_clients, later.given);
                heard = λ a b k j of_a of_b. t.heard later.placed a b k j of_a of_b (later.heard a b k j of_a of_b);
                world = later.world;
                same_views = later.same_views ∙ changes.views ∙ at_step.came.but.views;
                same_keys = later.same_keys ∙ changes.keys ∙ at_step.came.but.keys;
                same_spare = later.same_spare ∙ changes.spare ∙ at_step.came.but.spare;
                ended = later.ended;
                links = links_with_all;
                means = λ q events world.
                    later.means q
                    (events ∙ ap (λ es. p.events ++ es) events_are ∙ sym (append_assoc p.events (event ∷ []) (events_of due' later.placed)))
                    (world ∙ ap (run D p.world) events_are);
                followed = λ logs through. (here, record { input = t.stands logs (through_now logs through); fate = refl }, later.followed logs (through_later logs through));
                safe = λ logs through. safe_with logs through;
              }

    -- AN INPUT OF A CLIENT

    module _ (allowed : IsGivenFrom views x.entry.input) (no_takes : (k : ℕ) → takes_of k x.entry.input ≡ []) where
      abbrev posting : ℕ → ℕ → Channel X → Channel X
      posting a b c = if a == i then extended (messages_to x.entry.output.posts b) c else c

      abbrev allowed_here : IsGivenFrom old.views x.entry.input
      allowed_here = subst (λ vs. IsGivenFrom vs x.entry.input) (sym old_views) allowed

      option_if : (b : Bool) (f : Channel X → Channel X) (o : Option (Channel X)) → option_map (λ c. if b then f c else c) o ≡ (if b then option_map f o else o)
      option_if true f None = refl
      option_if true f (Some c) = refl
      option_if false f None = refl
      option_if false f (Some c) = refl

      sends_input : (a b : ℕ) → channel_at (new posting).links a b ≡ (if a == i then option_map (extended (messages_to x.entry.output.posts b)) (channel_at old.links a b) else channel_at old.links a b)
      sends_input a b = new_links posting a b ∙ option_if (a == i) (extended (messages_to x.entry.output.posts b)) (channel_at old.links a b)

      abbrev model_input : Taken Op
      model_input = meant_input spelling alike kinds members decls old (new posting) p at_step.came.means i x.place at_step.before at_step.next (changes posting) x.entry.fate x.entry.output x.entry.input makes allowed_here sends_input

      input_kind : IsNoTake views model_input × IsMeantBy x.entry.input model_input
      input_kind =
          let logged = way_logs D members decls p at_step.came.means.run in
          is_no_take kinds logged.0 at_step.before.keys.items views x.entry.input model_input allowed
          (input_means spelling alike kinds members decls old (new posting) p at_step.came.means i x.place at_step.before at_step.next (changes posting) x.entry.fate x.entry.output x.entry.input makes allowed_here sends_input logged.0)

      entered_input : IsEntered spelling kinds members decls p (new posting) i x.entry.fate x.entry.output model_input (InputAt i model_input (meant_fate x.entry.fate)) p.world.links
      entered_input = input_enters spelling alike kinds members decls old (new posting) p at_step.came.means i x.place at_step.before at_step.next (changes posting) x.entry.fate x.entry.output x.entry.input makes allowed_here sends_input

      abbrev the_entry : Placed Op Shown
      the_entry = record { at = i; entry = entry_of posting model_input (InputAt i model_input (meant_fate x.entry.fate)) p.world.links entered_input }

      takes_nothing : (k : ℕ) → takes x k ≡ []
      takes_nothing k = go (ids k)
        where
          go : (o : Option ℕ) → at_one (λ n. takes_of n x.entry.input) o ≡ []
          go None = refl
          go (Some n) = no_takes n

      heard_input : (later : List (Placed Op Shown)) (k j : ℕ) → model.AreHeard ((messages k j ++ posts_of the_entry k j) ++ posted_to j (entries_at k later)) (taken_from k (entries_at j later))
          → model.AreHeard (messages k j ++ posted_to j (entries_at k (the_entry ∷ later))) (taken_from k (entries_at j (the_entry ∷ later)))
      heard_input later k j h =
          subst (λ ts. model.AreHeard (messages k j ++ posted_to j (entries_at k (the_entry ∷ later))) ts) (sym (takes_split the_entry later k j ∙ ap (λ ts. ts ++ taken_from k (entries_at j later)) (takes_none the_entry k j model_input refl (input_kind.0.none k x.entry.stamp))))
          (subst (λ ps. model.AreHeard ps (taken_from k (entries_at j later))) (append_assoc (messages k j) (posts_of the_entry k j) (posted_to j (entries_at k later)) ∙ ap (λ ps. messages k j ++ ps) (sym (posts_split the_entry later k j))) h)

      links_input : (a b : ℕ) (ps : List X) (n : ℕ) (c : Channel X)
          → after_from (due a b) ps n (posting a b c) ≡ after_from (due a b) ((if is_id (ids x.place) a then messages_to x.entry.output.posts b else []) ++ ps) ((if is_id (ids x.place) b then length (takes_of a x.entry.input) else 0) + n) c
      links_input a b ps n c =
          go (a == i) ∙ ap (λ m. after_from (due a b) ((if a == i then messages_to x.entry.output.posts b else []) ++ ps) m c) (sym (none_taken (is_id (ids x.place) b) (length (takes_of a x.entry.input)) (ap length (no_takes a))))
          ∙ ap (λ o. after_from (due a b) ((if is_id o a then messages_to x.entry.output.posts b else []) ++ ps) ((if is_id (ids x.place) b then length (takes_of a x.entry.input) else 0) + n) c) (sym here)
        where
          go : (t : Bool) → after_from (due a b) ps n (if t then extended (messages_to x.entry.output.posts b) c else c) ≡ after_from (due a b) ((if t then messages_to x.entry.output.posts b else []) ++ ps) n c
          go true = after_extended (due a b) n (messages_to x.entry.output.posts b) ps c
          go false = refl

          none_taken : (t : Bool) (m : ℕ) → m ≡ 0 → (if t then m else 0) + n ≡ n
          none_taken true m e = omega (arith, e)
          none_taken false m e = omega arith

      posts_there : (b j : ℕ) → ids b ≡ Some j → posts x b ≡ messages_to x.entry.output.posts j
      posts_there b j e = ap (at_one (messages_to x.entry.output.posts)) e

      sends_before : (a b : ℕ) → channel_at (new posting).links a b ≡ (if a == i then option_map (extended (messages_to x.entry.output.posts b)) (channel_at w.links a b) else channel_at w.links a b)
      sends_before a b = from_before posting a b ∙ option_if (a == i) (extended (messages_to x.entry.output.posts b)) (channel_at w.links a b)

      turned_input : Turned posting model_input (InputAt i model_input (meant_fate x.entry.fate)) p.world.links due (λ a b. queue a b ++ sent at stamp posts a b (x ∷ [])) (λ k j. messages k j ++ posts_of the_entry k j)
      turned_input =
          record {
            entered = entered_input;
            event_is = input_kind.0.event due i (meant_fate x.entry.fate);
            due_is = input_kind.0.due due i;
            meant = input_kind.1;
            stands = λ logs through keys. stands_meant kinds logs keys views x.entry.input model_input allowed input_kind.1;
            from_clients = input_kind.0.from_clients (last_view views);
            ways = ways_posted ids (ids_apart (last_view views) sound) at stamp posts queue messages due (channel_at w.links) (channel_at (new posting).links) p.world.links x i here the_entry.entry refl (messages_to x.entry.output.posts) sends_before posts_there
                (as_many x.entry.output.posts the_entry.entry.output.posts entered_input.posts) g.ways;
            waits = waits_on at stamp posts takes queue x xs takes_nothing g.waits;
            heard = λ later a b k j of_a of_b h. heard_input later k j h;
            links_on = λ a b ps n c is. links_input a b ps n c;
          }

    -- A MESSAGE OF A MEMBER

    module _ (from place : ℕ) (message : X) (is : x.entry.input ≡ form.Take from message) (of : ids place ≡ Some from) where
      takes_it : takes x place ≡ message ∷ []
      takes_it = ap (at_one (λ n. takes_of n x.entry.input)) of ∙ ap (takes_of from) is ∙ ap (λ b. if b then message ∷ [] else []) (is_same from from refl)

      takes_no_other : (k : ℕ) → k ≢ place → takes x k ≡ []
      takes_no_other k other = go (ids k) refl
        where
          go : (o : Option ℕ) → ids k ≡ o → at_one (λ n. takes_of n x.entry.input) o ≡ []
          go None e = refl
          go (Some n) e = ap (takes_of n) is ∙ ap (λ b. if b then message ∷ [] else []) (is_other from n (λ same. other (ids_apart (last_view views) sound k place n e (subst (λ m. ids place ≡ Some m) same of))))

      no_earlier : (ys : List Item) → AllByRecursion (Rattle.thread_run_order.specs.Orders.ComesBefore x) ys → AllByRecursion (λ z. stamp x ≤ stamp z) ys
      no_earlier [] all = tt
      no_earlier (z ∷ ys) all = (⊎_elim (λ (less : stamp x < stamp z). omega (arith, less)) (λ (same : (stamp x ≡ stamp z) × (x.place < z.place)). let e = same.0 in omega (arith, e)) all.0, no_earlier ys all.1)

      due_one : Rattle.theorem_sections.specs.Queues.IsDue at stamp posts takes queue x xs place message
      due_one = takes_first at stamp posts takes queue x xs place message takes_it takes_no_other (no_earlier xs g.sorted.0) g.waits

      abbrev index : ℕ
      index = due from i

      abbrev on_way : WayOn message due_one.posted due_one.others (messages from i) (due from i) (channel_at w.links from i) (Rattle.theorem_sections.proofs.RunOrder.messages_on p.world.links from i)
      on_way = next ids (ids_apart (last_view views) sound) queue messages due (channel_at w.links) p.world.links g.ways place x.place from i of here message due_one.posted due_one.others due_one.first

      abbrev taking : ℕ → ℕ → Channel X → Channel X
      taking a b c = if a == i then extended (messages_to x.entry.output.posts b) (if (a == from) && (b == i) then passed index c else c) else (if (a == from) && (b == i) then passed index c else c)

      option_both : (t u : Bool) (f h : Channel X → Channel X) (o : Option (Channel X)) → option_map (λ c. if t then f (if u then h c else c) else (if u then h c else c)) o ≡ (if t then option_map f (if u then option_map h o else o) else (if u then option_map h o else o))
      option_both true true f h None = refl
      option_both true true f h (Some c) = refl
      option_both true false f h None = refl
      option_both true false f h (Some c) = refl
      option_both false true f h None = refl
      option_both false true f h (Some c) = refl
      option_both false false f h None = refl
      option_both false false f h (Some c) = refl

      sends_take : (a b : ℕ) → channel_at (new taking).links a b
          ≡ (if a == i then option_map (extended (messages_to x.entry.output.posts b)) (if (a == from) && (b == i) then option_map (passed index) (channel_at old.links a b) else channel_at old.links a b) else (if (a == from) && (b == i) then option_map (passed index) (channel_at old.links a b) else channel_at old.links a b))
      sends_take a b = new_links taking a b ∙ option_both (a == i) ((a == from) && (b == i)) (extended (messages_to x.entry.output.posts b)) (passed index) (channel_at old.links a b)

      abbrev small : from < identity_limit
      small = small_identity (last_view views) sound place from of

      abbrev few : i < identity_limit
      few = small_identity (last_view views) sound x.place i here

      abbrev there : message_on (channel_at old.links from i) index ≡ Some message
      there = ap (λ links. message_on (channel_at links from i) index) at_step.came.but.links ∙ on_way.there

      abbrev makes_take : IsStepOf spelling at_step.before (form.Take from message) x.entry.fate x.entry.output at_step.next
      makes_take = subst (λ input. IsStepOf spelling at_step.before input x.entry.fate x.entry.output at_step.next) is makes

      abbrev present : is_member (last_view old.views) i ≡ true
      present = ap (λ (vs : List View). is_member (last_view vs) i) old_views ∙ member_there (last_view views) sound x.place i here

      abbrev told : Sent Op
      told = meant_message spelling alike kinds members decls old (new taking) p at_step.came.means i x.place at_step.before at_step.next (changes taking) x.entry.fate x.entry.output from index small few message there makes_take present sends_take

      told_first : on_way.first.message ≡ told
      told_first =
          let e : ◌≡◌ {A = Option (Sent Op)} (Some on_way.first.message) (Some told) =
          sym on_way.meant_there ∙ message_there spelling alike kinds members decls old (new taking) p at_step.came.means i x.place at_step.before at_step.next (changes taking) x.entry.fate x.entry.output from index small few message there makes_take present sends_take in
          cc e

      -- in logs of the way so far the message stands for the model's
      told_stands : (logs : Text → History Op) → Throughout D logs members decls p → StandsForMessage ghosts.kind_of ghosts.IsDataOf kinds logs message told
      told_stands logs through =
          pair_both (StandsForMessage ghosts.kind_of ghosts.IsDataOf kinds logs) (message_on (channel_at w.links from i) index) (slice_get (p.world.links from i).messages index) message told
          (link_message kinds logs (channel_at w.links from i) (p.world.links from i) index ((g.means.stands logs through).links from i small few)) on_way.there (on_way.meant_there ∙ ap Some told_first)

      entered_take : IsEntered spelling kinds members decls p (new taking) i x.entry.fate x.entry.output (Taken.Take from told) (Delivery from i index (meant_fate x.entry.fate)) (moved_on p.world.links from i index)
      entered_take = take_enters spelling alike kinds members decls old (new taking) p at_step.came.means i x.place at_step.before at_step.next (changes taking) x.entry.fate x.entry.output from index small few message there makes_take present sends_take

      abbrev the_take : Placed Op Shown
      the_take = record { at = i; entry = entry_of taking (Taken.Take from told) (Delivery from i index (meant_fate x.entry.fate)) (moved_on p.world.links from i index) entered_take }

      abbrev queue_on : ℕ → ℕ → List (X × ℕ)
      queue_on = with_at queue place (with_at (queue place) x.place due_one.others)

      abbrev messages_left : ℕ → ℕ → List (Passed Op)
      messages_left = with_at messages from (with_at (messages from) i on_way.rest)

      abbrev due_on : ℕ → ℕ → ℕ
      due_on = with_at due from (with_at (due from) i (suc (due from i)))

      sends_on : (a b : ℕ) → channel_at (new taking).links a b
          ≡ (if a == i then option_map (extended (messages_to x.entry.output.posts b)) (if (a == from) && (b == i) then option_map (passed (due from i)) (channel_at w.links a b) else channel_at w.links a b) else (if (a == from) && (b == i) then option_map (passed (due from i)) (channel_at w.links a b) else channel_at w.links a b))
      sends_on a b = from_before taking a b ∙ option_both (a == i) ((a == from) && (b == i)) (extended (messages_to x.entry.output.posts b)) (passed index) (channel_at w.links a b)

      posts_so : (b j : ℕ) → ids b ≡ Some j → posts x b ≡ messages_to x.entry.output.posts j
      posts_so b j e = ap (at_one (messages_to x.entry.output.posts)) e

      AllHeard : (later : List (Placed Op Shown)) (k j : ℕ) → Type 0
      AllHeard later k j =
          model.AreHeard ((messages_left k j ++ posts_of the_take k j) ++ posted_to j (entries_at k later)) (taken_from k (entries_at j later)) → model.AreHeard (messages k j ++ posted_to j (entries_at k (the_take ∷ later))) (taken_from k (entries_at j (the_take ∷ later)))

      heard_there : (later : List (Placed Op Shown)) → AllHeard later from i
      unfolding AllHeard
      heard_there later h =
          subst (λ ts. model.AreHeard (messages from i ++ posted_to i (entries_at from (the_take ∷ later))) ts)
          (sym (takes_split the_take later from i ∙ ap (λ ts. ts ++ taken_from from (entries_at i later)) (takes_here the_take from i told refl refl)))
          (subst (λ ms. model.AreHeard (ms ++ posted_to i (entries_at from (the_take ∷ later))) (record { message = told; stamp = x.entry.stamp } ∷ taken_from from (entries_at i later))) (sym on_way.is) (
            sym told_first,
            subst (λ s. s < x.entry.stamp) (sym on_way.posted) due_one.earlier,
            subst (λ ps. model.AreHeard ps (taken_from from (entries_at i later))) (append_assoc on_way.rest (posts_of the_take from i) (posted_to i (entries_at from later)) ∙ ap (λ ps. on_way.rest ++ ps) (sym (posts_split the_take later from i)))
                (subst (λ ms. model.AreHeard ((ms ++ posts_of the_take from i) ++ posted_to i (entries_at from later)) (taken_from from (entries_at i later))) (table_here messages from i on_way.rest from i refl refl) h),
          ))

      heard_beside : (later : List (Placed Op Shown)) (k j : ℕ) → (k ≡ from → j ≢ i) → AllHeard later k j
      unfolding AllHeard
      heard_beside later k j away h =
          subst (λ ts. model.AreHeard (messages k j ++ posted_to j (entries_at k (the_take ∷ later))) ts) (sym (takes_split the_take later k j ∙ ap (λ ts. ts ++ taken_from k (entries_at j later)) (takes_else the_take k j from told refl away)))
          (subst (λ ps. model.AreHeard ps (taken_from k (entries_at j later))) (append_assoc (messages k j) (posts_of the_take k j) (posted_to j (entries_at k later)) ∙ ap (λ ps. messages k j ++ ps) (sym (posts_split the_take later k j)))
          (subst (λ ms. model.AreHeard ((ms ++ posts_of the_take k j) ++ posted_to j (entries_at k later)) (taken_from k (entries_at j later))) (table_else messages from i on_way.rest k j away) h))

      heard_take : (later : List (Placed Op Shown)) (k j : ℕ) → AllHeard later k j
      heard_take later k j = at_both from i (AllHeard later) (heard_there later) (heard_beside later) k j

      -- how many messages are taken from a link
      abbrev count_on : ℕ → ℕ → ℕ
      count_on a b = if b == i then length (takes_of a x.entry.input) else 0

      count_there : count_on from i ≡ 1
      count_there = ap (λ t. if t then length (takes_of from x.entry.input) else 0) (is_same i i refl) ∙ ap (λ input. length (takes_of from input)) is ∙ ap (λ t. length (if t then message ∷ [] else [])) (is_same from from refl)

      count_beside : (a b : ℕ) → (a ≡ from → b ≢ i) → count_on a b ≡ 0
      count_beside a b away = ⊎_elim
          (λ (same : b ≡ i).
          ap (λ t. if t then length (takes_of a x.entry.input) else 0) (is_same b i same) ∙ ap (λ input. length (takes_of a input)) is
          ∙ ap (λ t. length (if t then message ∷ [] else [])) (is_other from a (λ e. away (sym e) same)))
          (λ other. ap (λ t. if t then length (takes_of a x.entry.input) else 0) (is_other b i other))
          (same_or_not b i)

      abbrev passing : ℕ → ℕ → Channel X → Channel X
      passing a b c = if (a == from) && (b == i) then passed index c else c

      passing_there : (c : Channel X) → passing from i c ≡ passed index c
      passing_there c = ap (λ t. if t && (i == i) then passed index c else c) (is_same from from refl) ∙ ap (λ t. if t then passed index c else c) (is_same i i refl)

      passing_beside : (a b : ℕ) (c : Channel X) → (a ≡ from → b ≢ i) → passing a b c ≡ c
      passing_beside a b c away = ⊎_elim
          (λ (same : a ≡ from). ap (λ t. if t && (b == i) then passed index c else c) (is_same a from same) ∙ ap (λ t. if t then passed index c else c) (is_other b i (away same)))
          (λ other. ap (λ t. if t && (b == i) then passed index c else c) (is_other a from other))
          (same_or_not a from)

      TakenOn : ℕ → ℕ → Type 0
      TakenOn a b = (ps : List X) (n : ℕ) (c : Channel X) → channel_at w.links a b ≡ Some c → after_from (due_on a b) ps n (passing a b c) ≡ after_from (due a b) ps (count_on a b + n) c

      taken_there : TakenOn from i
      unfolding TakenOn
      taken_there ps n c is_c =
          let way = g.ways place x.place from i of here in
          let same : way.channel ≡ c = let e = sym way.there ∙ is_c in cc e in
          ap (λ d. after_from d ps n (passing from i c)) (table_here due from i (suc (due from i)) from i refl refl) ∙ ap (after_from (suc (due from i)) ps n) (passing_there c)
          ∙ after_passed (due from i) n ps c (subst (λ (d : Channel X). d.next ≤ due from i) same way.fits) ∙ ap (λ m. after_from (due from i) ps m c) (let e = count_there in let s : suc n ≡ count_on from i + n = omega (arith, e) in s)

      taken_beside : (a b : ℕ) → (a ≡ from → b ≢ i) → TakenOn a b
      unfolding TakenOn
      taken_beside a b away ps n c is_c =
          ap (λ d. after_from d ps n (passing a b c)) (table_else due from i (suc (due from i)) a b away) ∙ ap (after_from (due a b) ps n) (passing_beside a b c away) ∙ ap (λ m. after_from (due a b) ps m c) (let e = count_beside a b away in let s : n ≡ count_on a b + n = omega (arith, e) in s)

      taken_so : (a b : ℕ) → TakenOn a b
      taken_so a b = at_both from i TakenOn taken_there taken_beside a b

      links_take : (a b : ℕ) (ps : List X) (n : ℕ) (c : Channel X) → channel_at w.links a b ≡ Some c
          → after_from (due_on a b) ps n (taking a b c) ≡ after_from (due a b) ((if is_id (ids x.place) a then messages_to x.entry.output.posts b else []) ++ ps) ((if is_id (ids x.place) b then length (takes_of a x.entry.input) else 0) + n) c
      unfolding TakenOn
      links_take a b ps n c is_c =
          go (a == i) ∙ taken_so a b ((if a == i then messages_to x.entry.output.posts b else []) ++ ps) n c is_c
          ∙ ap (λ o. after_from (due a b) ((if is_id o a then messages_to x.entry.output.posts b else []) ++ ps) ((if is_id o b then length (takes_of a x.entry.input) else 0) + n) c) (sym here)
        where
          go : (t : Bool) → after_from (due_on a b) ps n (if t then extended (messages_to x.entry.output.posts b) (passing a b c) else passing a b c) ≡ after_from (due_on a b) ((if t then messages_to x.entry.output.posts b else []) ++ ps) n (passing a b c)
          go true = after_extended (due_on a b) n (messages_to x.entry.output.posts b) ps (passing a b c)
          go false = refl

      turned_take : Turned taking (Taken.Take from told) (Delivery from i index (meant_fate x.entry.fate)) (moved_on p.world.links from i index) due_on (λ a b. queue_on a b ++ sent at stamp posts a b (x ∷ [])) (λ k j. messages_left k j ++ posts_of the_take k j)
      unfolding AllHeard
      turned_take =
          record {
            entered = entered_take;
            event_is = refl;
            due_is = refl;
            meant = subst (λ input. IsMeantBy input (Taken.Take from told)) (sym is) (
              told,
              refl,
              message_sketch spelling alike kinds members decls old (new taking) p at_step.came.means i x.place at_step.before at_step.next (changes taking) x.entry.fate x.entry.output from index small few message there makes_take present sends_take,
            );
            stands = λ logs through keys. subst (λ input. StandsForInput kinds logs keys input (Taken.Take from told)) (sym is) (record { told = told; is = refl; message_stands = told_whole kinds logs keys message told (told_stands logs through) });
            from_clients = member_there (last_view views) sound place from of;
            ways = ways_posted ids (ids_apart (last_view views) sound) at stamp posts queue_on messages_left due_on (channels_on ids (ids_apart (last_view views) sound) queue messages due (channel_at w.links) p.world.links g.ways place x.place from i of here message due_one.posted due_one.others due_one.first)
                (channel_at (new taking).links) (moved_on p.world.links from i index) x i here the_take.entry refl (messages_to x.entry.output.posts) sends_on posts_so (as_many x.entry.output.posts the_take.entry.output.posts entered_take.posts)
                (ways_taken ids (ids_apart (last_view views) sound) queue messages due (channel_at w.links) p.world.links g.ways place x.place from i of here message due_one.posted due_one.others due_one.first);
            waits = due_one.waits;
            heard = λ later a b k j of_a of_b h. heard_take later k j h;
            links_on = links_take;
          }

    -- with what comes of the later ones
    one_entry : ((w : World T K Kind Op Delta ghosts keeping) (p : Playing Kind Op Shown) (due : ℕ → ℕ → ℕ) (queue : ℕ → ℕ → List (X × ℕ)) (messages : ℕ → ℕ → List (Passed Op)) → Going w p due queue messages xs → Went w p due messages xs) → Went w p due messages (x ∷ xs)
    one_entry later = go (kind_of (last_view views) views x.entry.input g.given.0.2)
      where
        go : Kind-of (last_view views) views x.entry.input → Went w p due messages (x ∷ xs)
        go (of_client allowed none) =
            let t = turned_input allowed none in
            went_with (posting allowed none) (model_input allowed none) _ _ _ _ _ t (later _ _ _ _ _ (going_on (posting allowed none) (model_input allowed none) _ _ _ _ _ t))
        go (of_member from place message is of) =
            let t = turned_take from place message is of in
            went_with (taking from place message is of) (Taken.Take from (told from place message is of)) _ _ _ _ _ t (later _ _ _ _ _ (going_on (taking from place message is of) (Taken.Take from (told from place message is of)) _ _ _ _ _ t))

  -- ALL ENTRIES

  pub went : (xs : List Item) (w : World T K Kind Op Delta ghosts keeping) (p : Playing Kind Op Shown) (due : ℕ → ℕ → ℕ) (queue : ℕ → ℕ → List (X × ℕ)) (messages : ℕ → ℕ → List (Passed Op)) → Going w p due queue messages xs → Went w p due messages xs
  went [] w p due queue messages g = at_end w p due queue messages g
  went (x ∷ xs) w p due queue messages g = one_entry w p due queue messages x xs g (went xs)
