-- A step that a member makes at its process is the model's next event.
--     made        the processes then stand for the next world
--     seen, tells        what the step says, and that it is what the event puts out
use Rattle.std.proofs.Common.{◌≡◌, ◌≢◌, ℕ, List, [], ◌∷◌, ◌++◌, map, refl, sym, ap, subst, ◌∙◌, arith, Bool, false, Some, inl, inr}
use Rattle.std.specs.Prelude.{is_some, if◌then◌else◌, ◌==◌}
use Rattle.std.specs.List.{AllZip}
use Rattle.std.proofs.lemmas.Bool.Decides.{eqb_tells}
use Rattle.model_history.specs.Table.{with_at}
use Rattle.model_history.specs.Texts.{Text}
use Rattle.model_history.specs.History.{History}
use Rattle.model_history.proofs.HistoryLaws.{with_at_same, with_at_other}
use Rattle.model_members.specs.DataType.{Replication}
use Rattle.model_members.specs.Message.{Message as Sent}
use Rattle.model_members.specs.Node as nodes
use Rattle.model_members.specs.Node.{Input, Fate, Stepped, KeyState, keyed_entry}
use Rattle.model_members.specs.Node.Fate.{NoStore, Stored}
use Rattle.model_members.specs.Step.{step, is_full, to_store}
use Rattle.model_members.specs.View.{place_of}
use Rattle.model_members.specs.World as worlds
use Rattle.model_members.specs.World.{Event, Links, Store, IsRun, IsLawful, FitsFate, happens, output_of, with_posts, after_store}
use Rattle.theorem_operations.proofs.Moments.{run_pushed}
use Rattle.model_kinds.specs.declared.operation.Op.{Op}
use Rattle.model_kinds.specs.declared.shown.Shown.{Shown}
use Rattle.data_lattice.specs.declared.replica.Replica.{Ghosts}
use Rattle.data_lattice.specs.declared.spelled.SpelledData.{Ghosts as Spelling}
use Rattle.member_keeper.specs.declared.keeper.Keeper.{Ghosts as Keeping}
use Rattle.member_messages.specs.declared.message.Message.{Message}
use Rattle.member_node.specs.declared.key.KeyDecl.{KeyDecl}
use Rattle.member_node.specs.declared.node.Node.{Node}
use Rattle.member_node.specs.declared.input.Input as given_input
use Rattle.member_node.specs.declared.reply.Fate as done
use Rattle.member_node.specs.declared.reply.Output.{Output}
use Rattle.member_node.specs.Keys.{declared}
use Rattle.member_node.specs.Limits.{highest_limit}
use Rattle.member_node.specs.Members.{IsSafe, StandsForMessage, StandsForPosts}
use Rattle.member_node.specs.Replies.{meant_fate}
use Rattle.member_node.proofs.Fates.{entries_same}
use Rattle.world_places.specs.Sending.{messages_to}
use Rattle.world_places.specs.Standing.{TellsStore}
use Rattle.world_places.proofs.Linking.{sent_to, posts_here, posts_elsewhere, messages_stand}
use Rattle.world_places.proofs.Lists.{zip_append}
use Rattle.world_places.proofs.Storing.{store_stands}
use Rattle.theorem_declaring.specs.Parts.{with_keys, SpeaksOf}
use Rattle.theorem_processes.specs.Declaring.{declared_keys}
use Rattle.theorem_processes.specs.Forgetting.{StandsInPart, StandsForProcess}
use Rattle.theorem_processes.specs.Processes.{Processes, Makes, after_step}
use Rattle.theorem_processes.specs.Runs.{lasting, StandFor, Tells}
use Rattle.theorem_processes.proofs.Forgetting.{AreSame, Gives, IsImageInPart, carried, entries_after, says}
use Rattle.theorem_processes.proofs.OtherEnds.{with_ends}
use Rattle.theorem_processes.proofs.Tables.{both_at}
use Rattle.theorem_processes.proofs.Ways.{IsWay, Reached, IsAtWork, at_work, way_of, way_before, safe_there, safe_alike, member_of_view, identity_there, places_there}

module _ {T K Kind Delta : Type 0} {ghosts : Ghosts T Kind Op Delta} {keeping : Keeping K} (spelling : Spelling T Kind Op Delta) (alike : (a b : K) → is_some (keeping.table a) ≡ is_some (keeping.table b)) (kinds : Text → Kind) (decls : List (KeyDecl T Kind Op Delta)) (count : ℕ)
    (events : List (Event Op)) (ps : Processes ghosts keeping) (world : worlds.World Kind Op Shown) (r : Reached {ghosts = ghosts} {keeping = keeping} spelling kinds decls count events ps world)
    (at : ℕ) (given : given_input.Input T Kind Op Delta ghosts) (fate : done.Fate) (output : Output T Kind Op Delta ghosts) (after : Node T K Kind Op Delta ghosts keeping) (m : Makes spelling ps at given fate output after) where
  abbrev D : Replication Kind Op Shown
  D = lasting ghosts spelling

  abbrev keys : List (nodes.KeyDecl Kind)
  keys = map declared decls

  abbrev Stand : (Text → History Op) → Type 0
  Stand logs = StandFor {ghosts = ghosts} {keeping = keeping} spelling kinds decls logs ps world

  pub now : (logs : Text → History Op) × IsWay D count keys logs events
  now = way_of D count keys events world r.is_run

  pub work : IsAtWork {ghosts = ghosts} {keeping = keeping} spelling kinds decls count now.0 ps world at m.before
  work = at_work spelling kinds decls count now.0 ps world (r.stand now.0 now.1) at m.before m.runs

  abbrev node : nodes.Node Kind Op Shown
  node = work.node

  identity : node.identity ≡ at
  identity = identity_there D count keys events world r.is_run at node work.runs

  pub node_stands : (logs : Text → History Op) → Stand logs → StandsInPart kinds logs (ps.forgotten at) m.before node
  node_stands logs s =
      let there = at_work spelling kinds decls count logs ps world s at m.before m.runs in
      let same : there.node ≡ node = (let e : Some there.node ≡ Some node = sym there.runs ∙ work.runs in cc e) in
      subst (StandsInPart kinds logs (ps.forgotten at) m.before) same there.stands

  -- its own limit is at most the highest
  has_room : is_full D node ≡ false
  has_room = elim (eqb_tells node.steps highest_limit) [
    | inl e ↦ absurd (let a = work.stands.stands.steps in let b = m.makes.had_room in let c = e.1 in let d = m.before.few_limit in omega arith)
    | inr other ↦ other.0
  ]

  -- an event in which the member takes an input at which it moves as at what was given, and links whose messages are those of the world
  module _ (sent : Input Op) (event : Fate → Event Op) (links : Links Op)
      (lawful : (n : nodes.Node Kind Op Shown) → world.nodes at ≡ Some n → is_full D n ≡ false → (f : Fate) → FitsFate D n sent f → IsLawful D world (event f))
      (happens_so : (n : nodes.Node Kind Op Shown) → world.nodes at ≡ Some n → (f : Fate) → happens D world (event f) ≡ worlds.after_step (record world { links = links }) at n f (step D n sent f))
      (puts_out : (n : nodes.Node Kind Op Shown) → world.nodes at ≡ Some n → (f : Fate) → output_of D world (event f) ≡ Some (step D n sent f).output)
      (same_messages : (a b : ℕ) → (links a b).messages ≡ (world.links a b).messages) (speaks : SpeaksOf (declared_keys m.before) sent) (gives : (logs : Text → History Op) → Stand logs → Gives spelling kinds logs m.before at given sent) where
    run_with : (f : Fate) → FitsFate D node sent f → IsRun D count keys (events ++ event f ∷ []) (happens D world (event f))
    run_with f fits = run_pushed D count keys events world (event f) r.is_run (lawful node work.runs has_room f fits)

    some_fate : (f : Fate) × FitsFate D node sent f
    some_fate = by (worlds.stores D node sent) refl
      where
        by : (xs : List (KeyState Kind Op)) → worlds.stores D node sent ≡ xs → (f : Fate) × FitsFate D node sent f
        by [] e = (NoStore, e)
        by (x ∷ xs) e = (Stored, λ none. (let f : x ∷ xs ≡ [] = sym e ∙ none in cc f))

    safe_with : (f : Fate) → FitsFate D node sent f → (logs : Text → History Op) → IsWay D count keys logs (events ++ event f ∷ []) → IsSafe logs (step D node sent f).node
    safe_with f fits logs way =
        safe_there D count keys (events ++ event f ∷ []) (happens D world (event f)) (run_with f fits) logs way at (step D node sent f).node
        (ap (λ (w : worlds.World Kind Op Shown). w.nodes at) (happens_so node work.runs f) ∙ with_at_same world.nodes at (Some (step D node sent f).node))

    -- what the member says, as its input stands for it
    abbrev part : (logs : Text → History Op) → Stand logs → nodes.Node Kind Op Shown
    part logs s = with_keys (declared_keys m.before) (with_ends (node_stands logs s).ends node)

    abbrev said : (logs : Text → History Op) → Stand logs → nodes.Output Op Shown
    said logs s = (step D (part logs s) (gives logs s).taken (meant_fate fate)).output

    pub image : (logs : Text → History Op) (s : Stand logs) → IsSafe logs (step D node sent (meant_fate fate)).node → IsImageInPart spelling kinds logs (ps.forgotten at) m.before fate output after node sent (said logs s)
    image logs s safe =
        let before = node_stands logs s in
        let g = gives logs s in
        let f = meant_fate fate in
        let entries = entries_after spelling kinds logs (ps.forgotten at) m.before fate output after node sent at given before identity speaks g f in
        carried spelling kinds logs (ps.forgotten at) m.before fate output after node sent at given before identity speaks g
        (m.makes.image kinds logs (part logs s) g.taken before.stands g.stands (safe_alike (step D node sent f).node (step D (part logs s) g.taken f).node entries safe))

    -- the entries after the step are the same whatever the store did, so the step is the model's, and its fate fits
    fits : FitsFate D node sent (meant_fate fate)
    fits =
        let f = some_fate.0 in
        let way = way_of D count keys (events ++ event f ∷ []) (happens D world (event f)) (run_with f some_fate.1) in
        (image way.0 (r.stand way.0 (way_before D count keys way.0 events (event f ∷ []) way.1))
        (safe_alike (step D node sent f).node (step D node sent (meant_fate fate)).node (entries_same D node sent (meant_fate fate) ∙ sym (entries_same D node sent f)) (safe_with f some_fate.1 way.0 way.1))).fate_fits

    abbrev stepped : Stepped Kind Op Shown
    stepped = step D node sent (meant_fate fate)

    abbrev place : ℕ
    place = place_of world.view at

    abbrev next_store : Store Op
    next_store = after_store (meant_fate fate) (map keyed_entry (to_store node stepped.node)) (world.stores place)

    module _ (logs : Text → History Op) (s : Stand logs) (im : IsImageInPart spelling kinds logs (ps.forgotten at) m.before fate output after node sent (said logs s)) where
      abbrev IsMeant : Message T Kind Op Delta ghosts → Sent Op → Type 0
      IsMeant = StandsForMessage ghosts.kind_of ghosts.IsDataOf kinds logs

      linked : (a b : ℕ) → AllZip IsMeant (if a == at then ps.posted a b ++ messages_to output.posts b else ps.posted a b) (with_posts links at stepped.output.posts a b).messages
      linked a b =
          let earlier = subst (AllZip IsMeant (ps.posted a b)) (sym (same_messages a b)) (s.links a b) in
          elim (eqb_tells a at) [
            | inl here ↦
                let posts : (with_posts links at stepped.output.posts a b).messages ≡ (links a b).messages ++ sent_to stepped.output.posts b =
                ap (λ (i : ℕ). (with_posts links i stepped.output.posts a b).messages) (sym here.1) ∙ ap (λ (l : worlds.Link Op). l.messages) (posts_here stepped.output.posts links a b) in
                subst (λ (x : Bool). AllZip IsMeant (if x then ps.posted a b ++ messages_to output.posts b else ps.posted a b) (with_posts links at stepped.output.posts a b).messages) (sym here.0)
                (subst (AllZip IsMeant (ps.posted a b ++ messages_to output.posts b)) (sym posts)
                (zip_append IsMeant (ps.posted a b) (messages_to output.posts b) (links a b).messages (sent_to stepped.output.posts b) earlier (messages_stand kinds logs output.posts stepped.output.posts b (subst (StandsForPosts ghosts.kind_of ghosts.IsDataOf kinds logs output.posts) im.posts im.answers.posts))))
            | inr other ↦
                subst (λ (x : Bool). AllZip IsMeant (if x then ps.posted a b ++ messages_to output.posts b else ps.posted a b) (with_posts links at stepped.output.posts a b).messages) (sym other.0)
                (subst (AllZip IsMeant (ps.posted a b)) (sym (ap (λ (l : worlds.Link Op). l.messages) (posts_elsewhere stepped.output.posts links at a b other.1))) earlier)
          ]

      abbrev Keeps : K → Store Op → Type 0
      Keeps keeper store = TellsStore ghosts keeping spelling kinds logs (Some keeper) store

      stored : Keeps after.keeper next_store
      stored =
          store_stands ghosts spelling kinds logs keeping alike fate (to_store node stepped.node) m.before.keeper after.keeper (world.stores place) im.table im.apart im.fine (s.stores at m.before m.runs)

      kept : (i : ℕ) (member : Node T K Kind Op Delta ghosts keeping) → with_at ps.members at (Some after) i ≡ Some member → Keeps member.keeper (with_at world.stores place next_store (place_of world.view i))
      kept i member is = elim (eqb_tells i at) [
        | inl here ↦
            let same : after ≡ member = (let e : Some after ≡ Some member = sym (ap (λ (b : Bool). if b then Some after else ps.members i) here.0) ∙ is in cc e) in
            subst (λ (x : Node T K Kind Op Delta ghosts keeping). Keeps x.keeper (with_at world.stores place next_store (place_of world.view i))) same
            (subst (λ (k : ℕ). Keeps after.keeper (with_at world.stores place next_store (place_of world.view k))) (sym here.1) (subst (Keeps after.keeper) (sym (with_at_same world.stores place next_store)) stored))
        | inr other ↦
            let was : ps.members i ≡ Some member = sym (ap (λ (b : Bool). if b then Some after else ps.members i) other.0) ∙ is in
            let there = at_work spelling kinds decls count logs ps world s i member was in
            let apart : place_of world.view i ≢ place = (λ e. other.1 ((places_there D count keys events world r.is_run).apart i at (member_of_view D count keys events world r.is_run i there.node there.runs) (member_of_view D count keys events world r.is_run at node work.runs) e)) in
            subst (Keeps member.keeper) (sym (with_at_other world.stores place next_store (place_of world.view i) apart)) (s.stores i member was)
      ]

      stand_after : StandFor {ghosts = ghosts} {keeping = keeping} spelling kinds decls logs (after_step ps at output after) (worlds.after_step (record world { links = links }) at node (meant_fate fate) stepped)
      stand_after =
          record {
            views = s.views;
            keys = s.keys;
            running = both_at (λ j code running. StandsForProcess {ghosts = ghosts} {keeping = keeping} kinds logs (ps.forgotten j) code running) ps.members world.nodes at (Some after) (Some stepped.node) (stepped.node, refl, im.stands) (λ j other. s.running j);
            links = linked;
            stores = kept;
          }

    pub made : Reached {ghosts = ghosts} {keeping = keeping} spelling kinds decls count (events ++ event (meant_fate fate) ∷ []) (after_step ps at output after) (happens D world (event (meant_fate fate)))
    made =
        record {
          is_run = run_with (meant_fate fate) fits;
          stand = λ logs way.
              let s = r.stand logs (way_before D count keys logs events (event (meant_fate fate) ∷ []) way) in
              subst (λ (w : worlds.World Kind Op Shown). StandFor {ghosts = ghosts} {keeping = keeping} spelling kinds decls logs (after_step ps at output after) w) (sym (happens_so node work.runs (meant_fate fate)))
              (stand_after logs s (image logs s (safe_with (meant_fate fate) fits logs way)));
        }

    -- logs of the run with the event, in which the step is seen
    pub seen : (logs : Text → History Op) × ((s : Stand logs) × IsImageInPart spelling kinds logs (ps.forgotten at) m.before fate output after node sent (said logs s))
    seen =
        let way = way_of D count keys (events ++ event (meant_fate fate) ∷ []) (happens D world (event (meant_fate fate))) (run_with (meant_fate fate) fits) in
        let s = r.stand way.0 (way_before D count keys way.0 events (event (meant_fate fate) ∷ []) way.1) in
        (way.0, (s, image way.0 s (safe_with (meant_fate fate) fits way.0 way.1)))

    -- where the member also answers as it does at what was given
    pub tells : ((logs : Text → History Op) (s : Stand logs) → AreSame D (declared_keys m.before) at (gives logs s).taken sent) → Tells spelling world output (event (meant_fate fate))
    tells same =
        let logs = seen.0 in
        let s = seen.1.0 in
        let answers = seen.1.1.answers in
        let is : said logs s ≡ stepped.output = says spelling kinds logs (ps.forgotten at) m.before fate output after node sent at given (node_stands logs s) identity speaks (gives logs s) (same logs s) in
        record {
          meaning = stepped.output;
          put_out = puts_out node work.runs (meant_fate fate);
          reply = ap (λ (o : nodes.Output Op Shown). o.reply) (sym is) ∙ sym answers.reply;
          ended = ap (λ (o : nodes.Output Op Shown). o.ended) (sym is) ∙ answers.ended;
        }
