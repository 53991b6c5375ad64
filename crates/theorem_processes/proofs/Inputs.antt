-- An input of a process, and a message that came as bytes: each is one event of the model.
--     Advances        what comes of something that happens
--     gives, takes        an input, and a message
use Rattle.std.proofs.Common.{◌≡◌, ℕ, List, [], ◌∷◌, ◌++◌, map, refl, sym, ap, subst, ◌∙◌, Bool, true, false, not, Option, Some, None, inl, inr, if◌then◌else◌}
use Rattle.std.specs.Prelude.{is_some, option_map, option_and_then, slice_get}
use Rattle.std.proofs.lemmas.Bool.{cases_Bool}
use Rattle.model_history.specs.Texts.{Text}
use Rattle.model_history.specs.History.{History}
use Rattle.model_members.specs.DataType.{Replication}
use Rattle.model_members.specs.Message.{Message as Sent, part_of}
use Rattle.model_members.specs.Node as nodes
use Rattle.model_members.specs.Node.{Input, Fate, Stepped, one_step_later}
use Rattle.model_members.specs.View.{View}
use Rattle.model_members.specs.Step.{step, is_full, answered}
use Rattle.model_members.specs.World as worlds
use Rattle.model_members.specs.World.{Event, Links, IsGiven, IsLawful, FitsFate, happens, output_of, moved_on, after_turn, turn_at, step_in, views_of, message_at}
use Rattle.model_members.specs.World.Event.{InputAt, Delivery}
use Rattle.theorem_operations.proofs.Lists.{not_true}
use Rattle.model_kinds.specs.declared.operation.Op.{Op}
use Rattle.model_kinds.specs.declared.shown.Shown.{Shown}
use Rattle.data_lattice.specs.declared.replica.Replica.{Ghosts}
use Rattle.data_lattice.specs.declared.spelled.SpelledData.{Ghosts as Spelling}
use Rattle.data_delta_codec.specs.declared.spelled_delta.SpelledDelta.{Ghosts as DeltaSpelling}
use Rattle.member_keeper.specs.declared.keeper.Keeper.{Ghosts as Keeping}
use Rattle.member_messages.specs.declared.message.Message.{Message}
use Rattle.member_messages.specs.declared.message.Post.{Post}
use Rattle.member_quorum.specs.Levels.{level_meant}
use Rattle.member_node.specs.declared.key.KeyDecl.{KeyDecl}
use Rattle.member_node.specs.declared.key.KeyState.{KeyState}
use Rattle.member_node.specs.declared.node.Node.{Node}
use Rattle.member_node.specs.declared.input.Input as given_input
use Rattle.member_node.specs.declared.input.Input.TheVariants as form
use Rattle.member_node.specs.declared.operation.Finished as ended
use Rattle.member_node.specs.declared.reply.Fate as done
use Rattle.member_node.specs.declared.reply.Output.{Output}
use Rattle.member_node.specs.Inputs.{StandsForInput}
use Rattle.member_node.specs.Keys.{declared}
use Rattle.member_node.specs.Members.{StandsForMessage, StandsForPosts}
use Rattle.member_node.specs.Operations.{finished_meant}
use Rattle.member_node.specs.Replies.{meant_fate}
use Rattle.member_node.specs.Steps.{StandsForOutput}
use Rattle.world_members.specs.Entering.{IsGivenFrom}
use Rattle.world_places.proofs.Lists.{zip_at, pair_some, pair_both}
use Rattle.theorem_declaring.specs.Parts.{knows, with_keys, SpeaksOf, IsForAnother}
use Rattle.theorem_declaring.proofs.Stores.{speaks_of_part, unknown_command, nothing_instead}
use Rattle.theorem_processes.specs.Declaring.{declared_keys, known_to, is_unknown}
use Rattle.theorem_processes.specs.Keys.{is_whole}
use Rattle.theorem_processes.specs.Processes.{Processes, Happening, Makes, IsSpelledBy, IsHandedOver, happened}
use Rattle.theorem_processes.specs.Processes.Happening.{Steps, Takes}
use Rattle.theorem_processes.specs.Runs.{lasting, StandFor, IsTold, TellsStep, TellsUnknown, given_inputs, taken_as, events_of}
use Rattle.theorem_processes.proofs.Forgetting.{Gives}
use Rattle.theorem_processes.proofs.Messages.{whole_part}
use Rattle.theorem_processes.proofs.OtherEnds.{with_ends}
use Rattle.theorem_processes.proofs.Steps.{work, node_stands, made, seen, tells}
use Rattle.theorem_processes.proofs.Tables.{moved_messages}
use Rattle.theorem_processes.proofs.Takes.{TakesPart, takes_part}
use Rattle.theorem_processes.proofs.Ways.{Reached, way_of}

-- AN INPUT OF A PROCESS

known_so : (b : Bool) → not b ≡ false → b ≡ true
known_so true e = refl
known_so false e = absurd (cc e)

module _ {T Kind Delta : Type 0} {ghosts : Ghosts T Kind Op Delta} (views : List View) where
  -- it is one input of the model, which the world may give. It is a command for a key that is not known, or speaks of known ones
  pub record IsOneInput (given : given_input.Input T Kind Op Delta ghosts) : Type 0 where
    pub sent : Input Op
    pub one : given_inputs given ≡ sent ∷ []
    pub stands : (kinds : Text → Kind) (logs : Text → History Op) (keys : List (KeyState T Kind Op Delta)) → StandsForInput kinds logs keys given sent
    pub is_given : (D : Replication Kind Op Shown) (world : worlds.World Kind Op Shown) (at : ℕ) → views_of world ≡ views → IsGiven D world at sent
    pub speaks : (keys : List (nodes.KeyDecl Kind)) → is_unknown (knows keys) given ≡ false → SpeaksOf keys sent
    pub another : (keys : List (nodes.KeyDecl Kind)) → is_unknown (knows keys) given ≡ true → IsForAnother keys sent

  -- one that is no command
  no_command : (given : given_input.Input T Kind Op Delta ghosts) (sent : Input Op) → given_inputs given ≡ sent ∷ [] → ((kinds : Text → Kind) (logs : Text → History Op) (keys : List (KeyState T Kind Op Delta)) → StandsForInput kinds logs keys given sent)
      → ((D : Replication Kind Op Shown) (world : worlds.World Kind Op Shown) (at : ℕ) → views_of world ≡ views → IsGiven D world at sent) → ((keys : List (nodes.KeyDecl Kind)) → SpeaksOf keys sent)
      → ((keys : List (nodes.KeyDecl Kind)) → is_unknown (knows keys) given ≡ false) → IsOneInput given
  no_command given sent one stands is_given speaks never =
      record { sent = sent; one = one; stands = stands; is_given = is_given; speaks = λ keys e. speaks keys; another = λ keys e. absurd (let both = sym e ∙ never keys in cc both) }

  pub one_input : (given : given_input.Input T Kind Op Delta ghosts) → IsGivenFrom views given → IsOneInput given
  one_input (form.Update key op level) ok =
      record { sent = Input.Update key op (level_meant level); one = refl; stands = λ kinds logs keys. refl; is_given = λ D world at e. tt; speaks = λ keys e. known_so (knows keys key) e; another = λ keys e. not_true (knows keys key) e }
  one_input (form.Get key level) ok =
      record { sent = Input.Get key (level_meant level); one = refl; stands = λ kinds logs keys. refl; is_given = λ D world at e. tt; speaks = λ keys e. known_so (knows keys key) e; another = λ keys e. not_true (knows keys key) e }
  one_input (form.Take from message) ok = absurd ok
  one_input (form.Install view) ok =
      no_command (form.Install view) (Input.Install view) refl (λ kinds logs keys. refl) (λ D world at e. subst (λ (vs : List View). (k : ℕ) × (slice_get vs k ≡ Some view)) (sym e) ok) (λ keys. tt) (λ keys. refl)
  one_input form.Flush ok = no_command form.Flush Input.Flush refl (λ kinds logs keys. refl) (λ D world at e. tt) (λ keys. tt) (λ keys. refl)
  one_input (form.GossipTo to) ok = no_command (form.GossipTo to) (Input.GossipTo to) refl (λ kinds logs keys. refl) (λ D world at e. tt) (λ keys. tt) (λ keys. refl)
  one_input form.PruneTick ok = no_command form.PruneTick Input.PruneTick refl (λ kinds logs keys. refl) (λ D world at e. tt) (λ keys. tt) (λ keys. refl)
  one_input (form.Timeout op) ok = no_command (form.Timeout op) (Input.Timeout op) refl (λ kinds logs keys. refl) (λ D world at e. tt) (λ keys. tt) (λ keys. refl)

-- WHAT COMES OF IT

module _ {T K Kind Delta : Type 0} {ghosts : Ghosts T Kind Op Delta} {keeping : Keeping K} (spelling : Spelling T Kind Op Delta) (kinds : Text → Kind) (decls : List (KeyDecl T Kind Op Delta)) (count : ℕ) (events : List (Event Op)) (ps : Processes ghosts keeping) (world : worlds.World Kind Op Shown) where
  -- the run goes on with its events, and what it told is what they put out
  pub record Advances (h : Happening ghosts keeping) : Type 0 where
    pub next : worlds.World Kind Op Shown
    pub reached : Reached spelling kinds decls count (events ++ events_of world ps h) (happened ps h) next
    pub told : IsTold spelling kinds decls world ps h

  -- by one event
  by_one : (h : Happening ghosts keeping) (event : Event Op) (next : worlds.World Kind Op Shown) → events_of world ps h ≡ event ∷ [] → Reached spelling kinds decls count (events ++ event ∷ []) (happened ps h) next → IsTold spelling kinds decls world ps h → Advances h
  by_one h event next one reached told = record { next = next; reached = subst (λ (es : List (Event Op)). Reached spelling kinds decls count (events ++ es) (happened ps h) next) (sym one) reached; told = told }

-- what is told of a step that replied that a key is not known
module _ {T Kind Delta : Type 0} {ghosts : Ghosts T Kind Op Delta} (spelling : Spelling T Kind Op Delta) (kinds : Text → Kind) (logs : Text → History Op) (world : worlds.World Kind Op Shown) (output : Output T Kind Op Delta ghosts) where
  no_posts : (posts : List (Post T Kind Op Delta ghosts)) → StandsForPosts ghosts.kind_of ghosts.IsDataOf kinds logs posts [] → posts ≡ []
  no_posts [] all = refl
  no_posts (post ∷ posts) all = absurd all

  not_ended : (finished : Option ended.Finished) → None ≡ option_map finished_meant finished → finished ≡ None
  not_ended None e = refl
  not_ended (Some f) e = absurd (cc e)

  pub tells_unknown : (said : nodes.Output Op Shown) → said ≡ record { reply = nodes.Reply.UnknownKey; posts = []; ended = None } → StandsForOutput kinds logs output said → TellsUnknown spelling world output
  tells_unknown said is answers =
      record {
        reply = answers.reply ∙ ap (λ (o : nodes.Output Op Shown). o.reply) is;
        posts = no_posts output.posts (subst (λ (o : nodes.Output Op Shown). StandsForPosts ghosts.kind_of ghosts.IsDataOf kinds logs output.posts o.posts) is answers.posts);
        ended = not_ended output.finished (ap (λ (o : nodes.Output Op Shown). o.ended) (sym is) ∙ answers.ended);
      }

module _ {T K Kind Delta : Type 0} {ghosts : Ghosts T Kind Op Delta} {keeping : Keeping K} (spelling : Spelling T Kind Op Delta) (alike : (a b : K) → is_some (keeping.table a) ≡ is_some (keeping.table b)) (kinds : Text → Kind) (decls : List (KeyDecl T Kind Op Delta)) (count : ℕ)
    (events : List (Event Op)) (ps : Processes ghosts keeping) (world : worlds.World Kind Op Shown) (r : Reached {ghosts = ghosts} {keeping = keeping} spelling kinds decls count events ps world) where
  abbrev D : Replication Kind Op Shown
  D = lasting ghosts spelling

  abbrev Stand : (Text → History Op) → Type 0
  Stand logs = StandFor {ghosts = ghosts} {keeping = keeping} spelling kinds decls logs ps world

  abbrev views_are : views_of world ≡ ps.views
  views_are = let now = way_of D count (map declared decls) events world r.is_run in (r.stand now.0 now.1).views

  -- an input that is given
  module _ (at : ℕ) (sent : Input Op) (is_given : IsGiven D world at sent) where
    abbrev event : Fate → Event Op
    event f = InputAt at sent f

    happens_so : (n : nodes.Node Kind Op Shown) → world.nodes at ≡ Some n → (f : Fate) → happens D world (event f) ≡ worlds.after_step (record world { links = world.links }) at n f (step D n sent f)
    happens_so n runs f = ap (λ (o : Option (nodes.Node Kind Op Shown)). after_turn D world (option_map (λ (node : nodes.Node Kind Op Shown). record { at = at; before = node; input = sent; fate = f }) o)) runs

    puts_out : (n : nodes.Node Kind Op Shown) → world.nodes at ≡ Some n → (f : Fate) → output_of D world (event f) ≡ Some (step D n sent f).output
    puts_out n runs f = ap (λ (o : Option (nodes.Node Kind Op Shown)). option_map (λ (turn : worlds.Turn Kind Op Shown). (step_in D turn).output) (option_map (λ (node : nodes.Node Kind Op Shown). record { at = at; before = node; input = sent; fate = f }) o)) runs

    lawful : (n : nodes.Node Kind Op Shown) → world.nodes at ≡ Some n → is_full D n ≡ false → (f : Fate) → FitsFate D n sent f → IsLawful D world (event f)
    lawful n runs room f fits = (is_given, record { node = n; runs = runs; has_room = room; fate_fits = fits })

  -- A STEP FOR AN INPUT

  module _ (at : ℕ) (given : given_input.Input T Kind Op Delta ghosts) (fate : done.Fate) (output : Output T Kind Op Delta ghosts) (after : Node T K Kind Op Delta ghosts keeping) (ok : IsGivenFrom ps.views given) (m : Makes spelling ps at given fate output after) where
    one : IsOneInput {ghosts = ghosts} ps.views given
    one = one_input ps.views given ok

    abbrev keys : List (nodes.KeyDecl Kind)
    keys = declared_keys m.before

    abbrev steps : Happening ghosts keeping
    steps = Steps at given fate output after

    unknown_is : is_unknown (known_to (ps.members at)) given ≡ is_unknown (knows keys) given
    unknown_is = ap (λ (o : Option (Node T K Kind Op Delta ghosts keeping)). is_unknown (known_to o) given) m.runs

    -- the events, where it is known whether the key is
    events_are : (unknown : Bool) → is_unknown (knows keys) given ≡ unknown → events_of world ps steps ≡ map (λ (i : Input Op). InputAt at i (meant_fate fate)) (if unknown then Input.GossipTo at ∷ [] else given_inputs given)
    events_are unknown is = ap (λ (b : Bool). map (λ (i : Input Op). InputAt at i (meant_fate fate)) (if b then Input.GossipTo at ∷ [] else given_inputs given)) (unknown_is ∙ is)

    -- of a known key
    module _ (known : is_unknown (knows keys) given ≡ false) where
      abbrev gives_itself : (logs : Text → History Op) → Stand logs → Gives spelling kinds logs m.before at given one.sent
      gives_itself logs s = record { taken = one.sent; stands = one.stands kinds logs m.before.keys.items; alike = λ n i asks f. record { node = refl; posts = refl } }

      abbrev may : IsGiven D world at one.sent
      may = one.is_given D world at views_are

      gives_known : Advances {ghosts = ghosts} {keeping = keeping} spelling kinds decls count events ps world steps
      gives_known =
          let goes = made spelling alike kinds decls count events ps world r at given fate output after m one.sent (event at one.sent may) world.links (lawful at one.sent may) (happens_so at one.sent may) (puts_out at one.sent may) (λ a b. refl) (one.speaks keys known) gives_itself in
          let said = tells spelling alike kinds decls count events ps world r at given fate output after m one.sent (event at one.sent may) world.links (lawful at one.sent may) (happens_so at one.sent may) (puts_out at one.sent may) (λ a b. refl) (one.speaks keys known) gives_itself (λ logs s n i asks f. refl) in
          let is = events_are false known ∙ ap (map (λ (i : Input Op). InputAt at i (meant_fate fate))) one.one in
          by_one spelling kinds decls count events ps world steps (event at one.sent may (meant_fate fate)) (happens D world (event at one.sent may (meant_fate fate))) is goes
          (subst (λ (b : Bool). TellsStep spelling world output b (events_of world ps steps)) (sym (unknown_is ∙ known)) (record { event = event at one.sent may (meant_fate fate); is = is; tells = said }))

    -- of another
    module _ (unknown : is_unknown (knows keys) given ≡ true) where
      refused : (n : nodes.Node Kind Op Shown) (f : Fate) → step D (with_keys keys n) one.sent f ≡ answered (with_keys keys (one_step_later n)) nodes.Reply.UnknownKey
      refused n f = unknown_command D keys n one.sent f (one.another keys unknown)

      instead : (n : nodes.Node Kind Op Shown) → n.identity ≡ at → (f : Fate) → step D (with_keys keys n) (Input.GossipTo at) f ≡ answered (with_keys keys (one_step_later n)) nodes.Reply.NotAPeer
      instead n is f = subst (λ (i : ℕ). step D (with_keys keys n) (Input.GossipTo i) f ≡ answered (with_keys keys (one_step_later n)) nodes.Reply.NotAPeer) is (nothing_instead D (with_keys keys n) f)

      abbrev gives_another : (logs : Text → History Op) → Stand logs → Gives spelling kinds logs m.before at given (Input.GossipTo at)
      gives_another logs s =
          record {
            taken = one.sent;
            stands = one.stands kinds logs m.before.keys.items;
            alike = λ n i asks f. record {
              node = ap (λ (x : Stepped Kind Op Shown). x.node) (refused n f) ∙ sym (ap (λ (x : Stepped Kind Op Shown). x.node) (instead n i f));
              posts = ap (λ (x : Stepped Kind Op Shown). x.output.posts) (refused n f) ∙ sym (ap (λ (x : Stepped Kind Op Shown). x.output.posts) (instead n i f));
            };
          }

      gives_unknown : Advances {ghosts = ghosts} {keeping = keeping} spelling kinds decls count events ps world steps
      gives_unknown =
          let sent : Input Op = Input.GossipTo at in
          let goes = made spelling alike kinds decls count events ps world r at given fate output after m sent (event at sent tt) world.links (lawful at sent tt) (happens_so at sent tt) (puts_out at sent tt) (λ a b. refl) tt gives_another in
          let sees = seen spelling alike kinds decls count events ps world r at given fate output after m sent (event at sent tt) world.links (lawful at sent tt) (happens_so at sent tt) (puts_out at sent tt) (λ a b. refl) tt gives_another in
          let there : nodes.Node Kind Op Shown =
          with_ends (node_stands spelling alike kinds decls count events ps world r at given fate output after m sees.0 sees.1.0).ends (work spelling alike kinds decls count events ps world r at given fate output after m).node in
          by_one spelling kinds decls count events ps world steps (event at sent tt (meant_fate fate)) (happens D world (event at sent tt (meant_fate fate))) (events_are true unknown) goes
          (subst (λ (b : Bool). TellsStep spelling world output b (events_of world ps steps)) (sym (unknown_is ∙ unknown))
          (tells_unknown spelling kinds sees.0 world output (step D (with_keys keys there) one.sent (meant_fate fate)).output (ap (λ (x : Stepped Kind Op Shown). x.output) (refused there (meant_fate fate))) sees.1.1.answers))

    pub gives : Advances {ghosts = ghosts} {keeping = keeping} spelling kinds decls count events ps world (Steps at given fate output after)
    gives = elim (cases_Bool (is_unknown (knows keys) given)) [ inl unknown ↦ gives_unknown unknown | inr known ↦ gives_known known ]

  -- A MESSAGE

  module _ (deltas : DeltaSpelling T Kind Op Delta)
      (across : (logs : Text → History Op) (post read : Message T Kind Op Delta ghosts) (told : Sent Op) (bytes : List ℕ) → IsSpelledBy spelling deltas post bytes → IsSpelledBy spelling deltas read bytes
      → StandsForMessage ghosts.kind_of ghosts.IsDataOf kinds logs post told → StandsForMessage ghosts.kind_of ghosts.IsDataOf kinds logs read told)
      (from to index : ℕ) (bytes : List ℕ) (read : Message T Kind Op Delta ghosts) (fate : done.Fate) (output : Output T Kind Op Delta ghosts) (after : Node T K Kind Op Delta ghosts keeping) (over : IsHandedOver spelling deltas ps from to index bytes read) (m : Makes spelling ps to (form.Take from read) fate output after) where
    abbrev IsMeant : (Text → History Op) → Message T Kind Op Delta ghosts → Sent Op → Type 0
    IsMeant logs = StandsForMessage ghosts.kind_of ghosts.IsDataOf kinds logs

    there : (sent : Sent Op) × (message_at world from to index ≡ Some sent)
    there =
        let now = way_of D count (map declared decls) events world r.is_run in
        pair_some (IsMeant now.0) (slice_get (ps.posted from to) index) (message_at world from to index) over.post (zip_at (IsMeant now.0) (ps.posted from to) (world.links from to).messages index ((r.stand now.0 now.1).links from to)) over.posted

    abbrev sent : Sent Op
    sent = there.0

    -- the keys of the member, and what the message says of them
    abbrev own : List (nodes.KeyDecl Kind)
    own = declared_keys m.before

    abbrev part : Sent Op
    part = part_of (knows own) sent

    -- what was read stands for what was posted
    read_stands : (logs : Text → History Op) → Stand logs → TakesPart {ghosts = ghosts} kinds logs m.before.keys.items read sent
    read_stands logs s =
        let was = pair_both (IsMeant logs) (slice_get (ps.posted from to) index) (message_at world from to index) over.post sent (zip_at (IsMeant logs) (ps.posted from to) (world.links from to).messages index (s.links from to)) over.posted there.1 in
        takes_part kinds logs m.before.keys.items read sent (across logs over.post read sent bytes over.spelled over.read_so was)

    abbrev gives_part : (logs : Text → History Op) → Stand logs → Gives spelling kinds logs m.before to (form.Take from read) (Input.Take from part)
    gives_part logs s =
        let takes = read_stands logs s in
        record {
          taken = Input.Take from takes.taken;
          stands = record { told = takes.taken; is = refl; message_stands = takes.stands };
          alike = λ n i asks f. record { node = ap (λ (x : Stepped Kind Op Shown). x.node) (takes.same D n asks from f); posts = ap (λ (x : Stepped Kind Op Shown). x.output.posts) (takes.same D n asks from f) };
        }

    speaks : SpeaksOf own (Input.Take from part)
    speaks = speaks_of_part own from sent

    abbrev takes_it : Happening ghosts keeping
    takes_it = Takes from to index bytes read fate output after

    events_taken : (whole : Bool) → is_whole (knows own) sent ≡ whole
        → events_of world ps takes_it ≡ (if whole then Delivery from to index (meant_fate fate) else InputAt to (Input.Take from part) (meant_fate fate)) ∷ []
    events_taken whole is =
        ap (λ (o : Option (Node T K Kind Op Delta ghosts keeping)). taken_as (known_to o) from to index (meant_fate fate) (message_at world from to index)) m.runs
        ∙ ap (taken_as (knows own) from to index (meant_fate fate)) there.1 ∙ ap (λ (b : Bool). (if b then Delivery from to index (meant_fate fate) else InputAt to (Input.Take from part) (meant_fate fate)) ∷ []) is

    -- of which all is of known keys
    module _ (all : is_whole (knows own) sent ≡ true) where
      abbrev delivery : Fate → Event Op
      delivery f = Delivery from to index f

      abbrev moved : Links Op
      moved = moved_on world.links from to index

      same : part ≡ sent
      same = whole_part (knows own) sent all

      arrives : (n : nodes.Node Kind Op Shown) → world.nodes to ≡ Some n → (f : Fate) → happens D world (delivery f) ≡ worlds.after_step (record world { links = moved }) to n f (step D n (Input.Take from part) f)
      arrives n runs f =
          ap (λ (o : Option (Sent Op)). after_turn D (record world { links = moved }) (option_and_then (λ (message : Sent Op). turn_at world to (Input.Take from message) f) o)) there.1
          ∙ ap (λ (o : Option (nodes.Node Kind Op Shown)). after_turn D (record world { links = moved }) (option_map (λ (node : nodes.Node Kind Op Shown). record { at = to; before = node; input = Input.Take from sent; fate = f }) o)) runs
          ∙ ap (λ (message : Sent Op). worlds.after_step (record world { links = moved }) to n f (step D n (Input.Take from message) f)) (sym same)

      answers : (n : nodes.Node Kind Op Shown) → world.nodes to ≡ Some n → (f : Fate) → output_of D world (delivery f) ≡ Some (step D n (Input.Take from part) f).output
      answers n runs f =
          ap (λ (o : Option (Sent Op)). option_map (λ (turn : worlds.Turn Kind Op Shown). (step_in D turn).output) (option_and_then (λ (message : Sent Op). turn_at world to (Input.Take from message) f) o)) there.1
          ∙ ap (λ (o : Option (nodes.Node Kind Op Shown)). option_map (λ (turn : worlds.Turn Kind Op Shown). (step_in D turn).output) (option_map (λ (node : nodes.Node Kind Op Shown). record { at = to; before = node; input = Input.Take from sent; fate = f }) o)) runs
          ∙ ap (λ (message : Sent Op). Some (step D n (Input.Take from message) f).output) (sym same)

      may_arrive : (n : nodes.Node Kind Op Shown) → world.nodes to ≡ Some n → is_full D n ≡ false → (f : Fate) → FitsFate D n (Input.Take from part) f → IsLawful D world (delivery f)
      may_arrive n runs room f fits = (sent, there.1, record { node = n; runs = runs; has_room = room; fate_fits = subst (λ (message : Sent Op). FitsFate D n (Input.Take from message) f) same fits })

      takes_whole : Advances {ghosts = ghosts} {keeping = keeping} spelling kinds decls count events ps world takes_it
      takes_whole =
          let goes = made spelling alike kinds decls count events ps world r to (form.Take from read) fate output after m (Input.Take from part) delivery moved may_arrive arrives answers (moved_messages world.links from to index) speaks gives_part in
          let said = tells spelling alike kinds decls count events ps world r to (form.Take from read) fate output after m (Input.Take from part) delivery moved may_arrive arrives answers (moved_messages world.links from to index) speaks gives_part (λ logs s n i asks f. (read_stands logs s).same D n asks from f) in
          by_one spelling kinds decls count events ps world takes_it (delivery (meant_fate fate)) (happens D world (delivery (meant_fate fate))) (events_taken true all) goes (record { event = delivery (meant_fate fate); is = events_taken true all; tells = said })

    -- of which some is not
    module _ (some : is_whole (knows own) sent ≡ false) where
      abbrev given_part : IsGiven D world to (Input.Take from part)
      given_part = (index, sent, knows own, there.1, refl)

      abbrev input : Fate → Event Op
      input = event to (Input.Take from part) given_part

      takes_some : Advances {ghosts = ghosts} {keeping = keeping} spelling kinds decls count events ps world takes_it
      takes_some =
          let goes = made spelling alike kinds decls count events ps world r to (form.Take from read) fate output after m (Input.Take from part) input world.links (lawful to (Input.Take from part) given_part) (happens_so to (Input.Take from part) given_part) (puts_out to (Input.Take from part) given_part) (λ a b. refl) speaks gives_part in
          let said = tells spelling alike kinds decls count events ps world r to (form.Take from read) fate output after m (Input.Take from part) input world.links (lawful to (Input.Take from part) given_part) (happens_so to (Input.Take from part) given_part) (puts_out to (Input.Take from part) given_part) (λ a b. refl) speaks gives_part (λ logs s n i asks f. (read_stands logs s).same D n asks from f) in
          by_one spelling kinds decls count events ps world takes_it (input (meant_fate fate)) (happens D world (input (meant_fate fate))) (events_taken false some) goes (record { event = input (meant_fate fate); is = events_taken false some; tells = said })

    pub takes : Advances {ghosts = ghosts} {keeping = keeping} spelling kinds decls count events ps world (Takes from to index bytes read fate output after)
    takes = elim (cases_Bool (is_whole (knows own) sent)) [ inl all ↦ takes_whole all | inr some ↦ takes_some some ]
