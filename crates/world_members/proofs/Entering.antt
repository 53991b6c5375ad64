-- A step that a member made away from its world: where it is put back, with its posts on the links, it is the model's next event.
--     with_member        a world with another member at a place, and other links
--     IsEntered        what comes of a step
--     input_enters, take_enters        for an input of a client, and for a message by its number
use Rattle.std.proofs.Common.{◌≡◌, ℕ, ◌+◌, ◌-◌, ◌<◌, List, [], ◌∷◌, ◌++◌, length, map, refl, sym, ap, subst, ◌∙◌, arith, Bool, true, false, Option, Some, None, set}
use Rattle.std.specs.Prelude.{is_some, if◌then◌else◌, ◌==◌, ◌&&◌, option_map, option_and_then, slice_get}
use Rattle.std.specs.List.{range_with_len}
use Rattle.std.specs.Vec.{with_item}
use Rattle.std.proofs.lemmas.Option.{slice_get_within}
use Rattle.model_history.specs.Table.{identity_limit}
use Rattle.model_history.specs.Texts.{Text}
use Rattle.model_history.specs.History.{History}
use Rattle.model_members.specs.View.{is_member}
use Rattle.model_members.specs.DataType.{Replication}
use Rattle.model_members.specs.Message as sending
use Rattle.model_members.specs.Message.{Message as Sent}
use Rattle.model_members.specs.Node as nodes
use Rattle.model_members.specs.Node.{KeyDecl, Input, Fate}
use Rattle.model_members.specs.Node.Fate.{NoStore, Stored, StoreFailed}
use Rattle.model_members.specs.Step.{step, is_full}
use Rattle.model_members.specs.World.{Links, Event, message_at, moved_on, with_posts, after_step, happens, FitsFate, IsRun}
use Rattle.model_members.specs.World.Event.{InputAt, Delivery}
use Rattle.model_members.specs.Script as script
use Rattle.model_members.specs.Script.{Playing, ScriptStep, IsStep, given, played}
use Rattle.theorem_runs.proofs.Playing.{step_is_run, played_appends}
use Rattle.model_kinds.specs.declared.operation.Op.{Op}
use Rattle.model_kinds.specs.declared.shown.Shown.{Shown}
use Rattle.data_lattice.specs.declared.replica.Replica.{Ghosts}
use Rattle.data_lattice.specs.declared.spelled.SpelledData.{Ghosts as Spelling}
use Rattle.member_keeper.specs.declared.keeper.Keeper.{Ghosts as Keeping}
use Rattle.member_messages.specs.declared.message.Message.{Message}
use Rattle.member_messages.specs.Sketches.{sketch_of}
use Rattle.member_views.specs.Sound.{IsView, last_view}
use Rattle.member_node.specs.declared.node.Node.{Node}
use Rattle.member_node.specs.declared.input.Input as given_input
use Rattle.member_node.specs.declared.input.Input.TheVariants as form
use Rattle.member_node.specs.declared.reply.Fate as done
use Rattle.member_node.specs.declared.reply.Output.{Output}
use Rattle.member_node.specs.Inputs.{StandsForInput}
use Rattle.member_node.specs.Members.{StandsForPosts, StandsForMessage}
use Rattle.member_node.specs.Operations.{finished_meant}
use Rattle.member_node.specs.Replies.{meant, meant_fate}
use Rattle.member_node.specs.Steps.{replication, IsStepOf, IsImage, IsUnchanged}
use Rattle.member_node.proofs.Takings.{told_whole}
use Rattle.script_reading.specs.Meant.{ask_of}
use Rattle.script_reading.specs.declared.ask.Ask.{Ask}
use Rattle.script_reading.specs.declared.ask.Ask.TheVariants.{Update, Get, Flush, Gossip, Tick, Install}
use Rattle.world_members.specs.declared.world.World.{World}
use Rattle.world_members.specs.declared.event.Head.{Head}
use Rattle.world_members.specs.declared.event.Head.TheVariants as head
use Rattle.world_members.specs.Asking.{input_of}
use Rattle.world_places.specs.Channels.{Channel, Channels, channel_at, message_on, passed, extended}
use Rattle.world_members.specs.Entering.{IsGivenFrom}
use Rattle.world_members.specs.Giving.{ChangesAt}
use Rattle.world_places.specs.Keeping.{AreSeated}
use Rattle.world_members.specs.Lines.{IsHead}
use Rattle.world_places.specs.Sketched.{sketched, sketched_post}
use Rattle.world_places.specs.Places.{item_at, seat_of}
use Rattle.world_places.specs.Sending.{messages_to, told_of, AreFew}
use Rattle.world_members.specs.Standing.{StandsForWorld}
use Rattle.world_places.specs.Standing.{StandsForLink}
use Rattle.world_members.specs.Steps.{Foretells, Reaches}
use Rattle.world_members.specs.Ways.{IsPrefix, Throughout, Means}
use Rattle.world_members.proofs.Answering.{means_refused, given_at, has_room, image, next_is, reaches_made, answers_of, taken_with, world_taken, events_taken}
use Rattle.world_members.proofs.Asking.{StandsAlways, asked_some, asks_so}
use Rattle.world_places.proofs.Seats.{seated_set}
use Rattle.world_members.proofs.Steps.{sent, stands_in, is_head, at_delivery, run_handing, more_handing}
use Rattle.world_places.proofs.Linking.{links_sent, links_moved, same_told, same_sketch}
use Rattle.world_members.proofs.Onward.{means_same, stands_before, way_logs}
use Rattle.world_members.proofs.Standings.{IsAtWork, at_work_there}
use Rattle.world_members.proofs.Telling.{IsEventAt, input_at}

-- WORLDS WITH ANOTHER MEMBER

pub item_within : {X : Type 0} (xs : List (Option X)) (place : ℕ) (x : X) → item_at xs place ≡ Some x → place < length xs
item_within xs place x is = go (slice_get xs place) refl is
  where
    go : (o : Option (Option _)) → slice_get xs place ≡ o → option_and_then (λ y. y) o ≡ Some x → place < length xs
    go None e h = absurd (cc h)
    go (Some y) e h = slice_get_within xs place y e

module _ {T K Kind Op Delta : Type 0} {ghosts : Ghosts T Kind Op Delta} {keeping : Keeping K} (old : World T K Kind Op Delta ghosts keeping) (place : ℕ) (before after : Node T K Kind Op Delta ghosts keeping) (was : item_at old.nodes.items place ≡ Some before) (same : after.id ≡ before.id) (limit : after.limit ≡ before.limit) where
  within : place < length old.nodes.items
  within = item_within old.nodes.items place before was

  seated_with : AreSeated old.views (set old.nodes.items place (Some after)) old.spare.items
  seated_with = seated_set old.views old.nodes.items old.spare.items old.seated place before after within was same limit

  pub with_member : Channels (Message T Kind Op Delta ghosts) → World T K Kind Op Delta ghosts keeping
  with_member links =
      record old { nodes = with_item old.nodes place (Some after); links = links; seated = seated_with }

  pub changes_with : (i : ℕ) (links : Channels (Message T Kind Op Delta ghosts)) → IsView (last_view old.views) → seat_of (last_view old.views) i ≡ Some place → ChangesAt i place before after old (with_member links)
  unfolding with_member
  changes_with i links sound seat = record { views = refl; keys = refl; spare = refl; sound = sound; seat = seat; within = within; was = was; nodes = refl }

  pub links_with : (links : Channels (Message T Kind Op Delta ghosts)) → (with_member links).links ≡ links
  unfolding with_member
  links_with links = refl

-- A REFUSAL

-- a member that made no step means what it meant
module _ {T K Kind Delta : Type 0} {ghosts : Ghosts T Kind Op Delta} {keeping : Keeping K} (spelling : Spelling T Kind Op Delta) (alike : (a b : K) → is_some (keeping.table a) ≡ is_some (keeping.table b)) (old : World T K Kind Op Delta ghosts keeping) (i place : ℕ) (before after : Node T K Kind Op Delta ghosts keeping) (was : item_at old.nodes.items place ≡ Some before) (unchanged : IsUnchanged before after) (sound : IsView (last_view old.views)) (seat : seat_of (last_view old.views) i ≡ Some place) where
  pub same_id : after.id ≡ before.id
  same_id = ap (λ (node : Node T K Kind Op Delta ghosts keeping). node.id) unchanged.same

  pub same_limit : after.limit ≡ before.limit
  same_limit = ap (λ (node : Node T K Kind Op Delta ghosts keeping). node.limit) unchanged.same

  abbrev pub refused_world : World T K Kind Op Delta ghosts keeping
  refused_world = with_member old place before after was same_id same_limit old.links

  pub refused_means : (kinds : Text → Kind) (members : ℕ) (decls : List (KeyDecl Kind)) (p : Playing Kind Op Shown) → Means spelling kinds members decls p old → Means spelling kinds members decls p refused_world
  refused_means kinds members decls p m =
      means_refused spelling alike old refused_world i kinds members decls p
      (record { place = place; before = before; after = after; changes = changes_with old place before after was same_id same_limit i old.links sound seat; links = links_with old place before after was same_id same_limit old.links; unchanged = unchanged }) m

-- KEEPERS' ANSWERS

-- a keeper that answers as the fate tells
abbrev answer_by : Fate → Bool
answer_by StoreFailed = false
answer_by _ = true

-- the script, where each keeper answers so
abbrev pub foretelling : {Kind Op Shown : Type 0} → Playing Kind Op Shown → Fate → Playing Kind Op Shown
foretelling p fate = record p { answers = λ place call. answer_by fate }

foretold : {Kind Op Shown : Type 0} (p : Playing Kind Op Shown) (place : ℕ) (fate : Fate) → Foretells (foretelling p fate) (given_at place (answers_of fate))
foretold p place fate k = go (k == place) fate
  where
    nothing : (fate : Fate) (n : ℕ) → ◌≡◌ {A = List Bool} (map (λ call. answer_by fate) (range_with_len n (n + 0 - n))) []
    nothing fate n = let none : n + 0 - n ≡ 0 = omega arith in ap (λ m. map (λ (call : ℕ). answer_by fate) (range_with_len n m)) none

    one : (fate : Fate) (n : ℕ) → ◌≡◌ {A = List Bool} (map (λ call. answer_by fate) (range_with_len n (n + 1 - n))) (answer_by fate ∷ [])
    one fate n = let once : n + 1 - n ≡ 1 = omega arith in ap (λ m. map (λ (call : ℕ). answer_by fate) (range_with_len n m)) once

    go : (b : Bool) (fate : Fate) → map (λ call. answer_by fate) (range_with_len (p.calls k) (p.calls k + length (if b then answers_of fate else []) - p.calls k)) ≡ (if b then answers_of fate else [])
    go false fate = nothing fate (p.calls k)
    go true NoStore = nothing NoStore (p.calls k)
    go true Stored = one Stored (p.calls k)
    go true StoreFailed = one StoreFailed (p.calls k)

-- A STEP

module _ {T K Kind Delta : Type 0} {ghosts : Ghosts T Kind Op Delta} {keeping : Keeping K} (spelling : Spelling T Kind Op Delta) (kinds : Text → Kind) (members : ℕ) (decls : List (KeyDecl Kind)) (p : Playing Kind Op Shown) (new : World T K Kind Op Delta ghosts keeping) where
  -- the step is the model's, for this input, in this event; and the world then means where the script is, when the event has happened
  pub record IsEntered (i : ℕ) (fate : done.Fate) (output : Output T Kind Op Delta ghosts) (sent : Input Op) (event : Event Op) (links : Links Op) : Type 0 where
    pub node : nodes.Node Kind Op Shown
    pub runs : p.world.nodes i ≡ Some node
    pub has_room : is_full (replication ghosts spelling) node ≡ false
    pub fits : FitsFate (replication ghosts spelling) node sent (meant_fate fate)
    pub reply : (step (replication ghosts spelling) node sent (meant_fate fate)).output.reply ≡ meant output.reply
    pub posts : map told_of output.posts ≡ map sketched_post (step (replication ghosts spelling) node sent (meant_fate fate)).output.posts
    pub ended : (step (replication ghosts spelling) node sent (meant_fate fate)).output.ended ≡ option_map finished_meant output.finished
    pub happened : happens (replication ghosts spelling) p.world event ≡ after_step (record p.world { links = links }) i node (meant_fate fate) (step (replication ghosts spelling) node sent (meant_fate fate))
    pub means : (q : Playing Kind Op Shown) → q.events ≡ p.events ++ event ∷ [] → q.world ≡ happens (replication ghosts spelling) p.world event → Means spelling kinds members decls q new

module _ {T K Kind Delta : Type 0} {ghosts : Ghosts T Kind Op Delta} {keeping : Keeping K} (spelling : Spelling T Kind Op Delta) (alike : (a b : K) → is_some (keeping.table a) ≡ is_some (keeping.table b)) (kinds : Text → Kind) (members : ℕ) (decls : List (KeyDecl Kind)) (old new : World T K Kind Op Delta ghosts keeping) (p : Playing Kind Op Shown) (m : Means spelling kinds members decls p old)
    (i place : ℕ) (before after : Node T K Kind Op Delta ghosts keeping) (changes : ChangesAt i place before after old new) (input : given_input.Input T Kind Op Delta ghosts) (fate : done.Fate) (output : Output T Kind Op Delta ghosts) (makes : IsStepOf spelling before input fate output after) where
  abbrev D : Replication Kind Op Shown
  D = replication ghosts spelling

  -- where the keepers answer as the fate tells
  abbrev so : Playing Kind Op Shown
  so = foretelling p (meant_fate fate)

  means_so : Means spelling kinds members decls so old
  means_so = means_same spelling kinds members decls p so old refl refl m

  module _ (heading : script.Head Op) (event : Fate → Event Op) (taken : Input Op) (links : Links Op) (at : IsEventAt D so event i taken links) (is_run : IsRun D members decls (given D so heading event).events (given D so heading event).world) (more : IsPrefix p.events (given D so heading event).events)
      (input_stands : (logs : Text → History Op) → StandsForWorld spelling kinds logs old p.world → StandsForInput kinds logs before.keys.items input taken) (kept : Head) (is_kept : IsHead kept heading)
      (linked : (logs : Text → History Op) (sents : List (sending.Post Op)) → StandsForWorld spelling kinds logs old p.world → StandsForPosts ghosts.kind_of ghosts.IsDataOf kinds logs output.posts sents → AreFew before.view input output.posts
      → (a b : ℕ) → a < identity_limit → b < identity_limit → StandsForLink {ghosts = ghosts} kinds logs (channel_at new.links a b) (with_posts links i sents a b)) where
    abbrev next : Playing Kind Op Shown
    next = given D so heading event

    reached : Reaches spelling kinds members decls so next (given_at place (answers_of (meant_fate fate))) new (record { head = kept; answer = Rattle.world_members.specs.declared.event.Answer.TheVariants.Reply output.reply; sent = map told_of output.posts; finished = output.finished } ∷ [])
    reached =
        reaches_made spelling alike kinds members decls old new so means_so heading event is_run more i taken links at place before after changes input fate output makes input_stands (foretold p place (meant_fate fate)) kept is_kept (map told_of output.posts) (λ few. refl) linked

    logged : (logs : Text → History Op) × Throughout D logs members decls next
    logged = way_logs D members decls next is_run

    now : StandsForWorld spelling kinds logged.0 old p.world
    now = stands_before spelling kinds members decls so next old more means_so logged.0 logged.1

    abbrev work : IsAtWork spelling kinds logged.0 p.world i before
    work = at_work_there spelling kinds logged.0 old new p.world now i place before after changes

    its_image : IsImage spelling kinds logged.0 before fate output after work.node taken
    its_image = image spelling alike kinds members decls old new so means_so heading event is_run more i taken links at place before after changes input fate output makes logged.0 now (input_stands logged.0 now) logged.1

    next_so : next ≡ taken_with D so heading event i taken work.node (at.turns work.node work.runs) (meant_fate fate)
    next_so = next_is spelling alike kinds members decls old new so means_so heading event is_run more i taken links at place before after changes input fate output makes logged.0 now (input_stands logged.0 now) logged.1 (foretold p place (meant_fate fate))

    enters : IsEntered spelling kinds members decls p new i fate output taken (event (meant_fate fate)) links
    enters =
        record {
          node = work.node;
          runs = work.runs;
          has_room = has_room spelling alike kinds members decls old new so means_so heading event is_run more i taken links at place before after changes input fate output makes logged.0 now;
          fits = its_image.fate_fits;
          reply = sym its_image.answers.reply;
          posts = same_told kinds logged.0 output.posts (step D work.node taken (meant_fate fate)).output.posts its_image.answers.posts;
          ended = its_image.answers.ended;
          happened = at.happened work.node work.runs (meant_fate fate);
          means = λ q events world.
              means_same spelling kinds members decls next q new
              (events ∙ sym (ap (λ (x : Playing Kind Op Shown). x.events) next_so ∙ events_taken D so heading event i taken work.node (at.turns work.node work.runs) (meant_fate fate)))
              (world ∙ sym (ap (λ (x : Playing Kind Op Shown). x.world) next_so ∙ world_taken D so heading event i taken work.node (at.turns work.node work.runs) (meant_fate fate))) reached.means;
        }

-- AN INPUT OF A CLIENT

module _ {T K Kind Delta : Type 0} {ghosts : Ghosts T Kind Op Delta} {keeping : Keeping K} (spelling : Spelling T Kind Op Delta) (kinds : Text → Kind) (members : ℕ) (decls : List (KeyDecl Kind)) (p : Playing Kind Op Shown) (old : World T K Kind Op Delta ghosts keeping) (m : Means spelling kinds members decls p old) (i : ℕ) where
  -- a script gives the input by a step
  pub record IsPlayed (input : given_input.Input T Kind Op Delta ghosts) (taken : Input Op) : Type 0 where
    one : ScriptStep Op
    is_step : IsStep one
    heading : script.Head Op
    kept : Head
    is_kept : IsHead kept heading
    goes : played (replication ghosts spelling) p one ≡ given (replication ghosts spelling) p heading (InputAt i taken)
    stands : StandsAlways input taken

  asks : (ask : Ask) (input : given_input.Input T Kind Op Delta ghosts) → input_of old.views ask ≡ Some input → (taken : Input Op) × IsPlayed input taken
  asks ask input is =
      let there = asked_some old.views ask input is in (
        there.0,
        record { one = ScriptStep.Asks i (ask_of ask); is_step = tt; heading = script.Head.Asked i (ask_of ask); kept = head.Asked i ask; is_kept = refl; goes = asks_so spelling kinds members decls p old m i ask (Some there.0) there.1; stands = there.2 },
      )

  pub plays : (input : given_input.Input T Kind Op Delta ghosts) → IsGivenFrom old.views input → (taken : Input Op) × IsPlayed input taken
  plays (form.Update key op level) allowed = asks (Update key op level) (form.Update key op level) refl
  plays (form.Get key level) allowed = asks (Get key level) (form.Get key level) refl
  plays (form.Take from message) allowed = absurd allowed
  plays (form.Install view) allowed = asks (Install allowed.0) (form.Install view) (ap (option_map form.Install) allowed.1)
  plays form.Flush allowed = asks Flush form.Flush refl
  plays (form.GossipTo to) allowed = asks (Gossip to) (form.GossipTo to) refl
  plays form.PruneTick allowed = asks Tick form.PruneTick refl
  plays (form.Timeout op) allowed = (Input.Timeout op, record { one = ScriptStep.Timeout i op; is_step = tt; heading = script.Head.TimeoutHead i op; kept = head.Timeout i op; is_kept = refl; goes = refl; stands = λ kinds logs keys. refl })

module _ {T K Kind Delta : Type 0} {ghosts : Ghosts T Kind Op Delta} {keeping : Keeping K} (spelling : Spelling T Kind Op Delta) (alike : (a b : K) → is_some (keeping.table a) ≡ is_some (keeping.table b)) (kinds : Text → Kind) (members : ℕ) (decls : List (KeyDecl Kind)) (old new : World T K Kind Op Delta ghosts keeping) (p : Playing Kind Op Shown) (m : Means spelling kinds members decls p old)
    (i place : ℕ) (before after : Node T K Kind Op Delta ghosts keeping) (changes : ChangesAt i place before after old new) (fate : done.Fate) (output : Output T Kind Op Delta ghosts) where
  abbrev so_far : Playing Kind Op Shown
  so_far = foretelling p (meant_fate fate)

  pub means_it : Means spelling kinds members decls so_far old
  means_it = means_same spelling kinds members decls p so_far old refl refl m

  module _ (input : given_input.Input T Kind Op Delta ghosts) (makes : IsStepOf spelling before input fate output after) (is_given : IsGivenFrom old.views input)
      (sends : (a b : ℕ) → channel_at new.links a b ≡ (if a == i then option_map (extended (messages_to output.posts b)) (channel_at old.links a b) else channel_at old.links a b)) where
    -- what the model's input is
    abbrev pub meant_input : Input Op
    meant_input = (plays spelling kinds members decls so_far old means_it i input is_given).0

    abbrev by : IsPlayed spelling kinds members decls so_far old means_it i input meant_input
    by = (plays spelling kinds members decls so_far old means_it i input is_given).1

    pub input_means : (logs : Text → History Op) → StandsForInput kinds logs before.keys.items input meant_input
    input_means logs = by.stands kinds logs before.keys.items

    pub input_enters : IsEntered spelling kinds members decls p new i fate output meant_input (InputAt i meant_input (meant_fate fate)) p.world.links
    input_enters =
        enters spelling alike kinds members decls old new p m i place before after changes input fate output makes by.heading (InputAt i meant_input) meant_input p.world.links (input_at (replication ghosts spelling) so_far i meant_input)
        (subst (λ (q : Playing Kind Op Shown). IsRun (replication ghosts spelling) members decls q.events q.world) by.goes (step_is_run (replication ghosts spelling) members decls so_far by.one by.is_step m.run))
        (subst (λ (q : Playing Kind Op Shown). IsPrefix p.events q.events) by.goes (played_appends (replication ghosts spelling) so_far by.one by.is_step))
        (λ logs now. input_means logs) by.kept by.is_kept
        (λ logs sents now posts few a b small bounded. links_sent kinds logs (channel_at old.links) (channel_at new.links) p.world.links i output.posts sents posts sends a b (now.links a b small bounded))

  -- A MESSAGE

  module _ (from index : ℕ) (small : from < identity_limit) (few : i < identity_limit) (message : Message T Kind Op Delta ghosts) (there : message_on (channel_at old.links from i) index ≡ Some message) (makes : IsStepOf spelling before (form.Take from message) fate output after) (present : is_member (last_view old.views) i ≡ true)
      (sends : (a b : ℕ) → channel_at new.links a b ≡ (if a == i then option_map (extended (messages_to output.posts b)) (if (a == from) && (b == i) then option_map (passed index) (channel_at old.links a b) else channel_at old.links a b) else (if (a == from) && (b == i) then option_map (passed index) (channel_at old.links a b) else channel_at old.links a b))) where
    abbrev told_so : (told : Sent Op) × (message_at so_far.world from i index ≡ Some told)
    told_so = sent spelling old from i index small few kinds members decls so_far means_it changes.sound present message there

    -- the model's message
    abbrev pub meant_message : Sent Op
    meant_message = told_so.0

    pub message_there : message_at p.world from i index ≡ Some meant_message
    message_there = told_so.1

    stands_so : (logs : Text → History Op) → StandsForWorld spelling kinds logs old p.world → StandsForMessage ghosts.kind_of ghosts.IsDataOf kinds logs message meant_message
    stands_so logs now = stands_in spelling old from i index small few kinds members decls so_far means_it changes.sound present message there logs now

    pub message_sketch : sketch_of message ≡ sketched meant_message
    message_sketch = let logged = way_logs (replication ghosts spelling) members decls p m.run in same_sketch kinds logged.0 message meant_message (stands_so logged.0 (m.stands logged.0 logged.1))

    abbrev passed_there : ℕ → ℕ → Option (Channel (Message T Kind Op Delta ghosts))
    passed_there a b = if (a == from) && (b == i) then option_map (passed index) (channel_at old.links a b) else channel_at old.links a b

    pub take_enters : IsEntered spelling kinds members decls p new i fate output (Input.Take from meant_message) (Delivery from i index (meant_fate fate)) (moved_on p.world.links from i index)
    take_enters =
        enters spelling alike kinds members decls old new p m i place before after changes (form.Take from message) fate output makes (script.Head.DeliverHead from i index (Some meant_message)) (Delivery from i index) (Input.Take from meant_message) (moved_on p.world.links from i index)
        (at_delivery spelling old from i index small few kinds members decls so_far means_it changes.sound present message there)
        (run_handing spelling old from i index small few kinds members decls so_far means_it changes.sound present message there)
        (more_handing spelling old from i index small few kinds members decls so_far means_it changes.sound present message there)
        (λ logs now. record { told = meant_message; is = refl; message_stands = told_whole kinds logs before.keys.items message meant_message (stands_so logs now) })
        (head.Deliver from i index (Some (sketch_of message))) (is_head spelling old from i index small few kinds members decls so_far means_it changes.sound present message there)
        (λ logs sents now posts bounded a b ok fine.
        links_sent kinds logs passed_there (channel_at new.links) (moved_on p.world.links from i index) i output.posts sents posts sends a b
        (links_moved kinds logs (channel_at old.links) passed_there p.world.links from i index (λ a b. refl) a b (now.links a b ok fine)))
