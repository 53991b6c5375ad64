-- Each step of one event, by its form.
--     call_reply, call_other        a message is handed to its receiver, and passed where it was the next one due
--     plays_lost        the next message due on a link is lost
--     asks_given, times_out        a question that is an input, and a timeout
--     delivers_this, delivers_next        a message by its number, and the next one due
--     asks_gone, asks_viewless        a question that names no view
use Rattle.std.proofs.Common.{◌≡◌, ℕ, ◌<◌, ◌≤◌, List, [], ◌∷◌, length-append, refl, sym, ap, subst, ◌∙◌, arith, Bool, true, false, Option, Some, None, ◌+◌, length, Result, Ok, Err}
use Rattle.std.specs.Prelude.{is_some, if◌then◌else◌, ◌==◌, ◌&&◌, option_map, MatchResult}
use Rattle.std.proofs.lemmas.Option.{slice_get_within}
use Rattle.std.proofs.lemmas.Bool.{lt-ltb, le-ltb}
use Rattle.base_bytes.specs.declared.memory.Memory.{Memory}
use Rattle.model_history.specs.Table.{identity_limit}
use Rattle.model_history.specs.Texts.{Text}
use Rattle.model_history.specs.History.{History}
use Rattle.model_kinds.specs.declared.operation.Op.{Op}
use Rattle.model_kinds.specs.declared.shown.Shown.{Shown}
use Rattle.model_members.specs.Message as sending
use Rattle.model_members.specs.Node as nodes
use Rattle.model_members.specs.Script as script
use Rattle.model_members.specs.World as worlds
use Rattle.model_members.specs.View.{is_member}
use Rattle.model_members.specs.Message.{Message as Sent}
use Rattle.model_members.specs.Node.{KeyDecl, Input}
use Rattle.model_members.specs.World.{IsRun, message_at, moved_on, with_posts, views_of}
use Rattle.model_members.specs.World.Event.{Delivery, Loss, InputAt}
use Rattle.model_members.specs.Script.{Playing, told, deliver, given, ScriptStep, did_plainly, lose, IsStep, played}
use Rattle.theorem_runs.proofs.Playing.{deliver_is_run, deliver_appends, step_is_run, played_appends}
use Rattle.member_views.specs.Sound.{IsView, AreViews, last_view}
use Rattle.member_keeper.specs.declared.keeper.Keeper.{Ghosts as Keeping}
use Rattle.data_lattice.specs.declared.replica.Replica.{Ghosts}
use Rattle.data_lattice.specs.declared.spelled.SpelledData.{Ghosts as Spelling}
use Rattle.member_messages.specs.declared.message.Message.{Message}
use Rattle.member_messages.specs.Sketches.{sketch_of}
use Rattle.member_messages.specs.declared.sketch.Sketch.{Sketch}
use Rattle.member_node.specs.declared.input.Input.TheVariants as input
use Rattle.member_node.specs.declared.input.Input as given_input
use Rattle.member_node.specs.declared.node.Node.{Node}
use Rattle.member_node.specs.declared.reply.Reply.{Reply}
use Rattle.member_node.specs.Members.{StandsForMessage, StandsForPosts}
use Rattle.member_node.specs.Replies.{meant_fate}
use Rattle.member_node.specs.Steps.{replication}
use Rattle.member_node.specs.declared.key.KeyState.{KeyState}
use Rattle.member_node.specs.Inputs.{StandsForInput}
use Rattle.member_node.proofs.Takings.{told_whole}
use Rattle.script_reading.specs.Meant.{ask_of, step_of}
use Rattle.script_reading.specs.declared.ask.Ask.{Ask}
use Rattle.script_reading.specs.declared.script.Step.TheVariants as form
use Rattle.script_reading.specs.declared.script.Step.{Step}
use Rattle.world_members.specs.declared.event.Head.TheVariants as head
use Rattle.world_members.specs.declared.event.Answer.TheVariants as answer
use Rattle.world_members.specs.declared.world.World.{World}
use Rattle.world_members.specs.declared.event.Head.{Head}
use Rattle.world_members.specs.declared.event.Event.{Event}
use Rattle.world_places.specs.declared.sending.Answered.{Answered}
use Rattle.world_places.specs.Channels.{Channel, channel_at, count_on, message_on, passed, extended, ChangesOne, next_on}
use Rattle.world_members.specs.Asking.{input_of}
use Rattle.world_members.specs.Lines.{IsHead, IsAnswer, is_damage}
use Rattle.world_places.specs.Places.{seat_of}
use Rattle.world_places.specs.Sending.{messages_to, AreFew}
use Rattle.world_members.specs.Standing.{StandsForWorld}
use Rattle.world_places.specs.Standing.{StandsForLink}
use Rattle.world_members.specs.Steps.{Foretells, Reaches, Plays, Remains}
use Rattle.world_members.specs.Ways.{IsPrefix, Means}
use Rattle.world_members.specs.Giving.{IsSame, IsAlikeButLinks, ChangesAt, Refuses, Makes, Gives, Hands, gone, full, made, Does, delivers, IsAsBefore}
use Rattle.world_members.specs.declared.event.Answer.{Answer}
use Rattle.world_places.proofs.Seats.{last_sound}
use Rattle.world_members.proofs.Answering.{reaches_gone, reaches_full, kept_changed, called_keeps, kept_refused, given_at, reaches_made, answers_of, step_does, outcome_given, IsWhole, remains_as, ask as whole_ask, timeout, deliver as whole_deliver}
use Rattle.world_places.proofs.Linking.{link_message, links_sent, links_moved, passed_first, same_sketch, link_next, link_count}
use Rattle.world_members.proofs.Onward.{way_logs, stands_before}
use Rattle.world_members.proofs.Standings.{absent_gone, present_runs, same_itself, but_links, kept_alike, stands_with_links, kept_with_links}
use Rattle.world_members.proofs.Asking.{asked_some, asked_none, asks_so}
use Rattle.world_places.proofs.Lists.{IsPair, pair_both, pair_some, pair_none}
use Rattle.world_members.proofs.Telling.{IsEventAt, delivery_at, does_told, plays_does, plays_told}

pub sent_within : {M : Type 0} (o : Option (Channel M)) (index : ℕ) (message : M) → message_on o index ≡ Some message → index < count_on o
sent_within None index message e = absurd (cc e)
sent_within (Some channel) index message e = slice_get_within channel.messages index message e

count_extended : {M : Type 0} (o : Option (Channel M)) (messages : List M) (b : Bool) → count_on o ≤ count_on (if b then option_map (extended messages) o else o)
count_extended None messages true = omega arith
count_extended (Some channel) messages true = let l = length-append channel.messages messages in omega arith
count_extended o messages false = omega arith

-- where the rest is alike, a world has the same changes
changes_on : {T K Kind Op Delta : Type 0} {ghosts : Ghosts T Kind Op Delta} {keeping : Keeping K} {i place : ℕ} {before after : Node T K Kind Op Delta ghosts keeping} {old mid new : World T K Kind Op Delta ghosts keeping} → IsAlikeButLinks mid new → ChangesAt i place before after old mid → ChangesAt i place before after old new
changes_on same c =
    record { views = same.views ∙ c.views; keys = same.keys ∙ c.keys; spare = same.spare ∙ c.spare; sound = c.sound; seat = c.seat; within = c.within; was = c.was; nodes = same.nodes ∙ c.nodes }

module _ {T K Kind Delta : Type 0} {ghosts : Ghosts T Kind Op Delta} {keeping : Keeping K} (spelling : Spelling T Kind Op Delta) where
  -- DELIVERIES

  module _ (old : World T K Kind Op Delta ghosts keeping) (from to index : ℕ) (small : from < identity_limit) (few : to < identity_limit) where
    abbrev here : Option (Channel (Message T Kind Op Delta ghosts))
    here = channel_at old.links from to

    module _ (kinds : Text → Kind) (members : ℕ) (decls : List (KeyDecl Kind)) (p : Playing Kind Op Shown) (m : Means spelling kinds members decls p old) where
      abbrev handed : Option (Sent Op) → Playing Kind Op Shown
      handed o = elim o [
        | None ↦ told p (script.Head.DeliverHead from to index None) script.Answer.NoSuchMessage
        | Some message ↦ given (replication ghosts spelling) p (script.Head.DeliverHead from to index (Some message)) (Delivery from to index)
      ]

      abbrev by_running : Option (nodes.Node Kind Op Shown) → Playing Kind Op Shown
      by_running o = if is_some o then handed (message_at p.world from to index) else told p (script.Head.DeliverHead from to index None) script.Answer.Gone

      module _ (sound : IsView (last_view old.views)) (present : is_member (last_view old.views) to ≡ true) where
        runs : (node : nodes.Node Kind Op Shown) × (p.world.nodes to ≡ Some node)
        runs = present_runs spelling old kinds members decls p m to sound present

        there : deliver (replication ghosts spelling) p from to index ≡ handed (message_at p.world from to index)
        there = ap by_running runs.1

        pair_in : (logs : Text → History Op) → StandsForWorld spelling kinds logs old p.world → IsPair (StandsForMessage ghosts.kind_of ghosts.IsDataOf kinds logs) (message_on here index) (message_at p.world from to index)
        pair_in logs now = link_message kinds logs here (p.world.links from to) index (now.links from to small few)

        unsent : message_on here index ≡ None → deliver (replication ghosts spelling) p from to index ≡ told p (script.Head.DeliverHead from to index None) script.Answer.NoSuchMessage
        unsent none =
            let logged = way_logs (replication ghosts spelling) members decls p m.run in
            there ∙ ap handed (pair_none (StandsForMessage ghosts.kind_of ghosts.IsDataOf kinds logged.0) (message_on here index) (message_at p.world from to index) (pair_in logged.0 (m.stands logged.0 logged.1)) none)

        module _ (message : Message T Kind Op Delta ghosts) (is : message_on here index ≡ Some message) where
          pub sent : (sent : Sent Op) × (message_at p.world from to index ≡ Some sent)
          sent =
              let logged = way_logs (replication ghosts spelling) members decls p m.run in
              pair_some (StandsForMessage ghosts.kind_of ghosts.IsDataOf kinds logged.0) (message_on here index) (message_at p.world from to index) message (pair_in logged.0 (m.stands logged.0 logged.1)) is

          pub stands_in : (logs : Text → History Op) → StandsForWorld spelling kinds logs old p.world → StandsForMessage ghosts.kind_of ghosts.IsDataOf kinds logs message sent.0
          stands_in logs now = pair_both (StandsForMessage ghosts.kind_of ghosts.IsDataOf kinds logs) (message_on here index) (message_at p.world from to index) message sent.0 (pair_in logs now) is sent.1

          abbrev sent_head : script.Head Op
          sent_head = script.Head.DeliverHead from to index (Some sent.0)

          abbrev handing : Playing Kind Op Shown
          handing = given (replication ghosts spelling) p sent_head (Delivery from to index)

          pub is_given : deliver (replication ghosts spelling) p from to index ≡ handing
          is_given = there ∙ ap handed sent.1

          pub is_head : IsHead (head.Deliver from to index (Some (sketch_of message))) sent_head
          is_head = let logged = way_logs (replication ghosts spelling) members decls p m.run in (Some sent.0, refl, ap Some (same_sketch kinds logged.0 message sent.0 (stands_in logged.0 (m.stands logged.0 logged.1))))

          pub at_delivery : IsEventAt (replication ghosts spelling) p (Delivery from to index) to (Input.Take from sent.0) (moved_on p.world.links from to index)
          at_delivery = delivery_at (replication ghosts spelling) p from to index sent.0 sent.1

          pub run_handing : IsRun (replication ghosts spelling) members decls handing.events handing.world
          run_handing = subst (λ (q : Playing Kind Op Shown). IsRun (replication ghosts spelling) members decls q.events q.world) is_given (deliver_is_run (replication ghosts spelling) members decls p from to index m.run)

          pub more_handing : IsPrefix p.events handing.events
          more_handing = subst (λ (q : Playing Kind Op Shown). IsPrefix p.events q.events) is_given (deliver_appends (replication ghosts spelling) p from to index)

          module _ (alike : (a b : K) → is_some (keeping.table a) ≡ is_some (keeping.table b)) (new : World T K Kind Op Delta ghosts keeping) where
            pub reaches_handed_gone : seat_of (last_view old.views) to ≡ None → IsSame old new → Reaches spelling kinds members decls p (deliver (replication ghosts spelling) p from to index) (λ k. []) new (record { head = head.Deliver from to index (Some (sketch_of message)); answer = answer.Gone; sent = []; finished = None } ∷ [])
            reaches_handed_gone none same =
                reaches_gone spelling alike old new kinds members decls p (deliver (replication ghosts spelling) p from to index) m sent_head (Delivery from to index) to (Input.Take from sent.0) (moved_on p.world.links from to index) at_delivery is_given (head.Deliver from to index (Some (sketch_of message))) is_head none same

            pub reaches_handed_full : (r : Refuses to old new) → r.before.steps ≡ r.before.limit → Reaches spelling kinds members decls p (deliver (replication ghosts spelling) p from to index) (λ k. []) new (record { head = head.Deliver from to index (Some (sketch_of message)); answer = answer.HistoryFull; sent = []; finished = None } ∷ [])
            reaches_handed_full r steps =
                reaches_full spelling alike old new kinds members decls p (deliver (replication ghosts spelling) p from to index) m sent_head (Delivery from to index) to (Input.Take from sent.0) (moved_on p.world.links from to index) at_delivery is_given (head.Deliver from to index (Some (sketch_of message))) is_head r steps

            module _ (mid : World T K Kind Op Delta ghosts keeping) (answered : Answered) (mk : Makes spelling to (input.Take from message) answered old mid) (same : IsAlikeButLinks mid new) (passes : index < count_on (channel_at mid.links from to) → ChangesOne (passed index) from to mid.links new.links) where
              on : ChangesAt to mk.place mk.before mk.after old new
              on = changes_on same mk.changes

              linked : (logs : Text → History Op) (sents : List (sending.Post Op)) → StandsForWorld spelling kinds logs old p.world → StandsForPosts ghosts.kind_of ghosts.IsDataOf kinds logs mk.steps.posts sents → AreFew mk.before.view (input.Take from message) mk.steps.posts
                  → (a b : ℕ) → a < identity_limit → b < identity_limit → StandsForLink {ghosts = ghosts} kinds logs (channel_at new.links a b) (with_posts (moved_on p.world.links from to index) to sents a b)
              linked logs sents now posts bounded a b ok fine =
                  let sends = mk.steps.sends bounded in
                  let passed_there = λ (a b : ℕ). if (a == from) && (b == to) then option_map (passed index) (channel_at old.links a b) else channel_at old.links a b in
                  let within : index < count_on (channel_at mid.links from to) =
                  let first = sent_within here index message is in
                  let more : count_on here ≤ count_on (channel_at mid.links from to) = subst (λ o. count_on here ≤ count_on o) (sym (sends from to)) (count_extended here (messages_to mk.steps.posts to) (from == to)) in omega arith in
                  links_sent kinds logs passed_there (channel_at new.links) (moved_on p.world.links from to index) to mk.steps.posts sents posts
                  (passed_first (channel_at old.links) (channel_at mid.links) (channel_at new.links) to (messages_to mk.steps.posts) from to index sends (passes within)) a b
                  (links_moved kinds logs (channel_at old.links) passed_there p.world.links from to index (λ a b. refl) a b (now.links a b ok fine))

              pub reaches_handed : Foretells p (given_at mk.place (answers_of (meant_fate mk.steps.fate)))
                  → Reaches spelling kinds members decls p (deliver (replication ghosts spelling) p from to index) (given_at mk.place (answers_of (meant_fate mk.steps.fate))) new (record { head = head.Deliver from to index (Some (sketch_of message)); answer = answer.Reply answered.reply; sent = answered.sent; finished = answered.finished } ∷ [])
              reaches_handed foretold =
                  subst (λ (q : Playing Kind Op Shown). Reaches spelling kinds members decls p q (given_at mk.place (answers_of (meant_fate mk.steps.fate))) new (record { head = head.Deliver from to index (Some (sketch_of message)); answer = answer.Reply answered.reply; sent = answered.sent; finished = answered.finished } ∷ [])) (sym is_given)
                  (reaches_made spelling alike kinds members decls old new p m sent_head (Delivery from to index) run_handing more_handing to (Input.Take from sent.0) (moved_on p.world.links from to index) at_delivery mk.place mk.before mk.after on (input.Take from message) mk.steps.fate
                  (record { reply = answered.reply; posts = mk.steps.posts; finished = answered.finished }) mk.steps.makes
                  (λ logs now. record { told = sent.0; is = refl; message_stands = told_whole kinds logs mk.before.keys.items message sent.0 (stands_in logs now) })
                  foretold (head.Deliver from to index (Some (sketch_of message))) is_head answered.sent mk.steps.tells linked)

    -- WHAT A CALL DOES

    pub does_absent : is_member (last_view old.views) to ≡ false → Does spelling (delivers ghosts spelling from to index) old old (record { head = head.Deliver from to index None; answer = answer.Gone; sent = []; finished = None } ∷ [])
    does_absent absent =
        does_told spelling old old (same_itself old) (delivers ghosts spelling from to index) (head.Deliver from to index None) answer.Gone refl
        (λ kinds members decls p m. (script.Head.DeliverHead from to index None, script.Answer.Gone, ap (by_running kinds members decls p m) (absent_gone spelling old kinds members decls p m to absent), (None, refl, refl), refl))

    module _ (sound : IsView (last_view old.views)) (present : is_member (last_view old.views) to ≡ true) where
      pub does_unsent : message_on here index ≡ None → Does spelling (delivers ghosts spelling from to index) old old (record { head = head.Deliver from to index None; answer = answer.NoSuchMessage; sent = []; finished = None } ∷ [])
      does_unsent none =
          does_told spelling old old (same_itself old) (delivers ghosts spelling from to index) (head.Deliver from to index None) answer.NoSuchMessage refl
          (λ kinds members decls p m. (script.Head.DeliverHead from to index None, script.Answer.NoSuchMessage, unsent kinds members decls p m sound present none, (None, refl, refl), refl))

      module _ (message : Message T Kind Op Delta ghosts) (is : message_on here index ≡ Some message) (alike : (a b : K) → is_some (keeping.table a) ≡ is_some (keeping.table b)) (mid new : World T K Kind Op Delta ghosts keeping) where
        abbrev DoesIt : Event → Type 0
        DoesIt event = Does spelling (delivers ghosts spelling from to index) old new (event ∷ [])

        abbrev sent_line : Head
        sent_line = head.Deliver from to index (Some (sketch_of message))

        gone_handed : seat_of (last_view old.views) to ≡ None → IsSame old new → DoesIt (record { head = sent_line; answer = answer.Gone; sent = []; finished = None })
        gone_handed none same =
            record { given = λ k. []; kept = kept_alike old new same; undamaged = refl; leads = λ kinds members decls p m foretold. reaches_handed_gone kinds members decls p m sound present message is alike new none same }

        full_handed : (r : Refuses to old new) → r.before.steps ≡ r.before.limit → DoesIt (record { head = sent_line; answer = answer.HistoryFull; sent = []; finished = None })
        full_handed r steps =
            record { given = λ k. []; kept = kept_refused spelling alike old new to r; undamaged = refl; leads = λ kinds members decls p m foretold. reaches_handed_full kinds members decls p m sound present message is alike new r steps }

        made_handed : (answered : Answered) → Makes spelling to (input.Take from message) answered old mid → IsAlikeButLinks mid new → (index < count_on (channel_at mid.links from to) → ChangesOne (passed index) from to mid.links new.links)
            → DoesIt (record { head = sent_line; answer = answer.Reply answered.reply; sent = answered.sent; finished = answered.finished })
        made_handed answered mk same passes =
            let on : ChangesAt to mk.place mk.before mk.after old new = changes_on same mk.changes in
            record {
              given = given_at mk.place (answers_of (meant_fate mk.steps.fate));
              kept = kept_changed keeping alike to mk.place mk.before mk.after old new on (answers_of (meant_fate mk.steps.fate)) (called_keeps keeping alike mk.steps.fate mk.before.keeper mk.after.keeper mk.steps.makes.called);
              undamaged = refl;
              leads = λ kinds members decls p m foretold. reaches_handed kinds members decls p m sound present message is alike new mid answered mk same passes foretold;
            }

        -- the receiver answered no reply
        pub does_other : (event : Event) → Gives spelling to sent_line (input.Take from message) old mid event → IsSame mid new → ((r : Reply) → event.answer ≡ answer.Reply r → ⊥) → DoesIt event
        does_other event (gone none same line) then_same no_reply =
            subst DoesIt (sym line)
            (gone_handed none (record { views = then_same.views ∙ same.views; keys = then_same.keys ∙ same.keys; spare = then_same.spare ∙ same.spare; nodes = then_same.nodes ∙ same.nodes; links = then_same.links ∙ same.links }))
        does_other event (full r steps line) then_same no_reply =
            subst DoesIt (sym line)
            (full_handed (record { place = r.place; before = r.before; after = r.after; changes = changes_on (but_links mid new then_same) r.changes; links = then_same.links ∙ r.links; unchanged = r.unchanged }) steps)
        does_other event (made answered mk line) then_same no_reply = absurd (no_reply answered.reply (ap (λ (e : Event). e.answer) line))

        -- the receiver replied
        pub does_reply : (event : Event) (r : Reply) → event.answer ≡ answer.Reply r → Gives spelling to sent_line (input.Take from message) old mid event → IsAlikeButLinks mid new → (index < count_on (channel_at mid.links from to) → ChangesOne (passed index) from to mid.links new.links)
            → DoesIt event
        does_reply event r replied (gone none same line) then_same passes = absurd (let e : answer.Gone ≡ answer.Reply r = sym (ap (λ (e : Event). e.answer) line) ∙ replied in cc e)
        does_reply event r replied (full refused steps line) then_same passes = absurd (let e : answer.HistoryFull ≡ answer.Reply r = sym (ap (λ (e : Event). e.answer) line) ∙ replied in cc e)
        does_reply event r replied (made answered mk line) then_same passes = subst DoesIt (sym line) (made_handed answered mk then_same passes)

  -- what the code has at hand: the message that was found, and its sketch
  module _ (old : World T K Kind Op Delta ghosts keeping) (from to index : ℕ) (small : from < identity_limit) (few : to < identity_limit) (are : AreViews old.views) (here_is : Bool) (contains : here_is ≡ is_member (last_view old.views) to) where
    pub call_absent : here_is ≡ false → (event : Event) → event ≡ record { head = head.Deliver from to index None; answer = answer.Gone; sent = []; finished = None } → Does spelling (delivers ghosts spelling from to index) old old (event ∷ [])
    call_absent absent event line = subst (λ (e : Event). Does spelling (delivers ghosts spelling from to index) old old (e ∷ [])) (sym line) (does_absent old from to index small few (sym contains ∙ absent))

    module _ (present : here_is ≡ true) (asked : Option (Message T Kind Op Delta ghosts)) (asks : asked ≡ message_on (channel_at old.links from to) index) where
      pub call_unsent : asked ≡ None → (event : Event) → event ≡ record { head = head.Deliver from to index None; answer = answer.NoSuchMessage; sent = []; finished = None } → Does spelling (delivers ghosts spelling from to index) old old (event ∷ [])
      call_unsent none event line =
          subst (λ (e : Event). Does spelling (delivers ghosts spelling from to index) old old (e ∷ [])) (sym line) (does_unsent old from to index small few (last_sound old.views are) (sym contains ∙ present) (sym asks ∙ none))

      module _ (message : Message T Kind Op Delta ghosts) (found : asked ≡ Some message) (sketch : Sketch) (sketches : sketch ≡ sketch_of message) (alike : (a b : K) → is_some (keeping.table a) ≡ is_some (keeping.table b)) (mid : World T K Kind Op Delta ghosts keeping) (event : Event)
          (hands : Hands spelling from to index (head.Deliver from to index (Some sketch)) old mid event) where
        gives_so : Gives spelling to (head.Deliver from to index (Some (sketch_of message))) (input.Take from message) old mid event
        gives_so = subst (λ (s : Sketch). Gives spelling to (head.Deliver from to index (Some s)) (input.Take from message) old mid event) sketches (hands message (sym asks ∙ found))

        pub call_reply : (r : Reply) → event.answer ≡ answer.Reply r → (new self : World T K Kind Op Delta ghosts keeping) → self ≡ new → IsAlikeButLinks mid new → (index < count_on (channel_at mid.links from to) → ChangesOne (passed index) from to mid.links new.links)
            → Does spelling (delivers ghosts spelling from to index) old self (event ∷ [])
        call_reply r replied new self is alike_but passes =
            subst (λ (s : World T K Kind Op Delta ghosts keeping). Does spelling (delivers ghosts spelling from to index) old s (event ∷ [])) (sym is)
            (does_reply old from to index small few (last_sound old.views are) (sym contains ∙ present) message (sym asks ∙ found) alike mid new event r replied gives_so alike_but passes)

        pub call_other : ((r : Reply) → event.answer ≡ answer.Reply r → ⊥) → (new self : World T K Kind Op Delta ghosts keeping) → self ≡ new → IsSame mid new → Does spelling (delivers ghosts spelling from to index) old self (event ∷ [])
        call_other no_reply new self is same_world =
            subst (λ (s : World T K Kind Op Delta ghosts keeping). Does spelling (delivers ghosts spelling from to index) old s (event ∷ [])) (sym is)
            (does_other old from to index small few (last_sound old.views are) (sym contains ∙ present) message (sym asks ∙ found) alike mid new event gives_so same_world no_reply)

  -- LOSSES

  module _ (old : World T K Kind Op Delta ghosts keeping) (from to : ℕ) (small : from < identity_limit) (few : to < identity_limit) where
    abbrev next_due : ℕ
    next_due = next_on (channel_at old.links from to)

    module _ (kinds : Text → Kind) (members : ℕ) (decls : List (KeyDecl Kind)) (p : Playing Kind Op Shown) (m : Means spelling kinds members decls p old) where
      -- the number of the next message due is that of the channel
      pub same_next : (p.world.links from to).next ≡ next_due
      same_next =
          let logged = way_logs (replication ghosts spelling) members decls p m.run in
          link_next kinds logged.0 (channel_at old.links from to) (p.world.links from to) ((m.stands logged.0 logged.1).links from to small few)

      pub same_count : length (p.world.links from to).messages ≡ count_on (channel_at old.links from to)
      same_count =
          let logged = way_logs (replication ghosts spelling) members decls p m.run in
          link_count kinds logged.0 (channel_at old.links from to) (p.world.links from to) ((m.stands logged.0 logged.1).links from to small few)

      by_test : Bool → Playing Kind Op Shown
      by_test b = if b then did_plainly (replication ghosts spelling) p (Loss from to) (script.Head.LoseHead from to (p.world.links from to).next) script.Answer.Lost else told p (script.Head.LoseHead from to (p.world.links from to).next) script.Answer.NoSuchMessage

      lost : next_due < count_on (channel_at old.links from to) → lose (replication ghosts spelling) p from to ≡ did_plainly (replication ghosts spelling) p (Loss from to) (script.Head.LoseHead from to next_due) script.Answer.Lost
      unfolding by_test
      lost within =
          ap by_test (lt-ltb (p.world.links from to).next (length (p.world.links from to).messages) (let a = same_next in let b = same_count in omega arith))
          ∙ ap (λ n. did_plainly (replication ghosts spelling) p (Loss from to) (script.Head.LoseHead from to n) script.Answer.Lost) same_next

      none : count_on (channel_at old.links from to) ≤ next_due → lose (replication ghosts spelling) p from to ≡ told p (script.Head.LoseHead from to next_due) script.Answer.NoSuchMessage
      unfolding by_test
      none past =
          ap by_test (le-ltb (p.world.links from to).next (length (p.world.links from to).messages) (let a = same_next in let b = same_count in omega arith))
          ∙ ap (λ n. told p (script.Head.LoseHead from to n) script.Answer.NoSuchMessage) same_next

      module _ (new : World T K Kind Op Delta ghosts keeping) (same : IsAlikeButLinks old new) (changes : ChangesOne (passed next_due) from to old.links new.links) (within : next_due < count_on (channel_at old.links from to)) where
        stands_lost : (logs : Text → History Op) → StandsForWorld spelling kinds logs old p.world → StandsForWorld spelling kinds logs new (record p.world { links = moved_on p.world.links from to (p.world.links from to).next })
        stands_lost logs s =
            stands_with_links spelling kinds logs old new p.world s same (moved_on p.world.links from to (p.world.links from to).next)
            (λ a b ok bounded.
            links_moved kinds logs (channel_at old.links) (channel_at new.links) p.world.links from to (p.world.links from to).next
            (subst (λ n. ChangesOne (passed n) from to old.links new.links) (sym same_next) changes) a b (s.links a b ok bounded))

        pub reaches_lost : Reaches spelling kinds members decls p (lose (replication ghosts spelling) p from to) (λ k. []) new (record { head = head.Lose from to next_due; answer = answer.Lost; sent = []; finished = None } ∷ [])
        reaches_lost =
            record {
              means = record {
                run = step_is_run (replication ghosts spelling) members decls p (ScriptStep.Lose from to) tt m.run;
                stands = λ logs through.
                    subst (λ (w : worlds.World Kind Op Shown). StandsForWorld spelling kinds logs new w) (sym (ap (λ (q : Playing Kind Op Shown). q.world) (lost within)))
                    (stands_lost logs (stands_before spelling kinds members decls p (lose (replication ghosts spelling) p from to) old (played_appends (replication ghosts spelling) p (ScriptStep.Lose from to) tt) m logs through));
              };
              lines = (
                record { head = script.Head.LoseHead from to next_due; answer = script.Answer.Lost; posts = []; ended = None } ∷ [],
                ap (λ (q : Playing Kind Op Shown). q.lines) (lost within),
                (record { head = refl; answer = refl; sent = refl; ended = refl }, tt),
              );
              calls = λ place. ap (λ (q : Playing Kind Op Shown). q.calls place) (lost within) ∙ (let zero_more : p.calls place ≡ p.calls place + 0 = omega arith in zero_more);
            }

    pub does_lose : (new : World T K Kind Op Delta ghosts keeping) → IsAlikeButLinks old new → ChangesOne (passed next_due) from to old.links new.links → next_due < count_on (channel_at old.links from to)
        → Does spelling (λ p. lose (replication ghosts spelling) p from to) old new (record { head = head.Lose from to next_due; answer = answer.Lost; sent = []; finished = None } ∷ [])
    does_lose new same changes within =
        record { given = λ k. []; kept = kept_with_links old new same; undamaged = refl; leads = λ kinds members decls p m foretold. reaches_lost kinds members decls p m new same changes within }

  module _ (old : World T K Kind Op Delta ghosts keeping) (from to : ℕ) (small : from < identity_limit) (few : to < identity_limit) (number : ℕ) (due : number ≡ next_on (channel_at old.links from to)) (event : Event) where
    lost_line : (a : Answer) → event ≡ record { head = head.Lose from to number; answer = a; sent = []; finished = None } → event ≡ record { head = head.Lose from to (next_on (channel_at old.links from to)); answer = a; sent = []; finished = None }
    lost_line a is = is ∙ ap (λ n. record { head = head.Lose from to n; answer = a; sent = []; finished = None }) due

    pub plays_lost : (new : World T K Kind Op Delta ghosts keeping) → event ≡ record { head = head.Lose from to number; answer = answer.Lost; sent = []; finished = None } → IsAlikeButLinks old new → ChangesOne (passed number) from to old.links new.links → number < count_on (channel_at old.links from to)
        → Plays spelling (form.Lose from to) old new (event ∷ [])
    plays_lost new is same changes within =
        subst (λ (e : Event). Plays spelling (form.Lose from to) old new (e ∷ [])) (sym (lost_line answer.Lost is))
        (plays_does spelling (form.Lose from to) old new (record { head = head.Lose from to (next_on (channel_at old.links from to)); answer = answer.Lost; sent = []; finished = None } ∷ [])
        (does_lose old from to small few new same (subst (λ (n : ℕ). ChangesOne (passed n) from to old.links new.links) due changes) (omega arith)))

    pub plays_none : event ≡ record { head = head.Lose from to number; answer = answer.NoSuchMessage; sent = []; finished = None } → count_on (channel_at old.links from to) ≤ number → Plays spelling (form.Lose from to) old old (event ∷ [])
    plays_none is past =
        plays_told spelling old old (same_itself old) (form.Lose from to) (head.Lose from to (next_on (channel_at old.links from to))) answer.NoSuchMessage event (lost_line answer.NoSuchMessage is) refl
        (λ kinds members decls p m. (script.Head.LoseHead from to (next_on (channel_at old.links from to)), script.Answer.NoSuchMessage, none old from to small few kinds members decls p m (omega arith), refl, refl))

  -- BY THE FORM

  module _ (old new : World T K Kind Op Delta ghosts keeping) where
    abbrev PlaysOr : Step → Result Event Memory → Type 0
    PlaysOr step outcome = MatchResult outcome (λ event. Plays spelling step old new (event ∷ [])) (λ e. Remains spelling step old new)

    module _ (alike : (a b : K) → is_some (keeping.table a) ≡ is_some (keeping.table b)) (outcome : Result Event Memory) where
      takes : (step : Step) → IsWhole step → IsStep (step_of step) → (head : script.Head Op) (at : ℕ) (sent : Input Op) (kept : Head) → IsHead kept head → (given : given_input.Input T Kind Op Delta ghosts)
          → ((kinds : Text → Kind) (members : ℕ) (decls : List (KeyDecl Kind)) (p : Playing Kind Op Shown) → Means spelling kinds members decls p old → played (replication ghosts spelling) p (step_of step) ≡ script.given (replication ghosts spelling) p head (InputAt at sent))
          → ((kinds : Text → Kind) (logs : Text → History Op) (keys : List (KeyState T Kind Op Delta)) → StandsForInput kinds logs keys given sent) → MatchResult outcome (Gives spelling at kept given old new) (λ e. Refuses at old new) → PlaysOr step outcome
      takes step whole is_step head at sent kept is_head given goes stands gives = step_does spelling step whole old new outcome (outcome_given spelling alike (step_of step) is_step head at sent kept is_head given old new goes stands outcome gives)

      -- a question that is this input
      pub asks_given : (i : ℕ) (ask copy : Ask) → copy ≡ ask → (given : given_input.Input T Kind Op Delta ghosts) → input_of old.views ask ≡ Some given → MatchResult outcome (Gives spelling i (head.Asked i copy) given old new) (λ e. Refuses i old new) → PlaysOr (form.Ask i ask) outcome
      asks_given i ask copy same given is =
          let there = asked_some old.views ask given is in
          takes (form.Ask i ask) (whole_ask i ask) tt (script.Head.Asked i (ask_of ask)) i there.0 (head.Asked i copy) (ap (λ q. script.Head.Asked i (ask_of q)) (sym same)) given
          (λ kinds members decls p m. asks_so spelling kinds members decls p old m i ask (Some there.0) there.1) there.2

      pub times_out : (at op : ℕ) → MatchResult outcome (Gives spelling at (head.Timeout at op) (input.Timeout op) old new) (λ e. Refuses at old new) → PlaysOr (form.Timeout at op) outcome
      times_out at op = takes (form.Timeout at op) (timeout at op) tt (script.Head.TimeoutHead at op) at (Input.Timeout op) (head.Timeout at op) refl (input.Timeout op) (λ kinds members decls p m. refl) (λ kinds logs keys. refl)

    module _ (outcome : Result Event Memory) (from to : ℕ) where
      abbrev Delivers : ℕ → Type 0
      Delivers index = MatchResult outcome (λ event. Does spelling (delivers ghosts spelling from to index) old new (event ∷ [])) (λ e. IsAsBefore spelling old new)

      pub delivers_this : (index : Option ℕ) (number : ℕ) → index ≡ Some number → Delivers number → PlaysOr (form.Deliver from to index) outcome
      delivers_this index number is d = subst (λ (o : Option ℕ). PlaysOr (form.Deliver from to o) outcome) (sym is) (step_does spelling (form.Deliver from to (Some number)) (whole_deliver from to (Some number)) old new outcome d)

    module _ (from to : ℕ) (small : from < identity_limit) (few : to < identity_limit) (number : ℕ) (due : number ≡ next_on (channel_at old.links from to)) where
      next_does : (events : List Event) → Does spelling (delivers ghosts spelling from to number) old new events → Does spelling (λ p. deliver (replication ghosts spelling) p from to (p.world.links from to).next) old new events
      next_does events d =
          record {
            given = d.given;
            kept = d.kept;
            undamaged = d.undamaged;
            leads = λ kinds members decls p m foretold.
                subst (λ (n : ℕ). Reaches spelling kinds members decls p (deliver (replication ghosts spelling) p from to n) d.given new events) (due ∙ sym (same_next old from to small few kinds members decls p m)) (d.leads kinds members decls p m foretold);
          }

      pub delivers_next : (outcome : Result Event Memory) (index : Option ℕ) → index ≡ None → MatchResult outcome (λ event. Does spelling (delivers ghosts spelling from to number) old new (event ∷ [])) (λ e. IsAsBefore spelling old new) → PlaysOr (form.Deliver from to index) outcome
      delivers_next (Ok event) index is d = subst (λ (o : Option ℕ). Plays spelling (form.Deliver from to o) old new (event ∷ [])) (sym is) (plays_does spelling (form.Deliver from to None) old new (event ∷ []) (next_does (event ∷ []) d))
      delivers_next (Err e) index is b = subst (λ (o : Option ℕ). Remains spelling (form.Deliver from to o) old new) (sym is) (remains_as spelling (form.Deliver from to None) (whole_deliver from to None) old new b)

  -- A QUESTION THAT NAMES NO VIEW

  module _ (old : World T K Kind Op Delta ghosts keeping) (i : ℕ) (ask copy : Ask) (same : copy ≡ ask) (none : input_of {ghosts = ghosts} old.views ask ≡ None) (are : AreViews old.views) (here_is : Bool) (contains : here_is ≡ is_member (last_view old.views) i) where
    abbrev answered_by : Bool → script.Answer Shown
    answered_by b = if b then script.Answer.NoSuchView else script.Answer.Gone

    tells : (here : Bool) (a : Answer) → IsAnswer a (answered_by here) → is_damage a ≡ false → ((kinds : Text → Kind) (members : ℕ) (decls : List (KeyDecl Kind)) (p : Playing Kind Op Shown) → Means spelling kinds members decls p old → is_some (p.world.nodes i) ≡ here) → (event : Event) → event ≡ record { head = head.Asked i copy; answer = a; sent = []; finished = None } → Plays spelling (form.Ask i ask) old old (event ∷ [])
    tells here a is_answer sound runs event line =
        plays_told spelling old old (same_itself old) (form.Ask i ask) (head.Asked i copy) a event line sound
        (λ kinds members decls p m. (script.Head.Asked i (ask_of ask), answered_by here, asks_so spelling kinds members decls p old m i ask None (asked_none old.views ask none) ∙ ap (λ b. told p (script.Head.Asked i (ask_of ask)) (answered_by b)) (runs kinds members decls p m), ap (λ q. script.Head.Asked i (ask_of q)) (sym same), is_answer))

    pub asks_gone : here_is ≡ false → (event : Event) → event ≡ record { head = head.Asked i copy; answer = answer.Gone; sent = []; finished = None } → Plays spelling (form.Ask i ask) old old (event ∷ [])
    asks_gone absent = tells false answer.Gone refl refl (λ kinds members decls p m. ap is_some (absent_gone spelling old kinds members decls p m i (sym contains ∙ absent)))

    pub asks_viewless : here_is ≡ true → (event : Event) → event ≡ record { head = head.Asked i copy; answer = answer.NoSuchView; sent = []; finished = None } → Plays spelling (form.Ask i ask) old old (event ∷ [])
    asks_viewless present = tells true answer.NoSuchView refl refl (λ kinds members decls p m. ap is_some (present_runs spelling old kinds members decls p m i (last_sound old.views are) (sym contains ∙ present)).1)
