-- What a step tells, and events as the script plays them.
--     reaches_told        an answer that is no reply
--     IsEventAt        an event that gives a member an input
--     reaches_did, reaches_said        an event of no member's, and its line
--     plays_does        the contract of a step, from what its call does
--     does_told, plays_told        a step that changes nothing: one line is told, and nothing else is new
use Rattle.std.proofs.Common.{◌≡◌, ℕ, ◌+◌, List, [], ◌∷◌, refl, ap, ◌∙◌, arith, Some, None, ◌++◌, sym, subst, Bool, true, false}
use Rattle.std.specs.Prelude.{option_map, option_and_then}
use Rattle.model_history.specs.Texts.{Text}
use Rattle.model_history.specs.History.{History, IsHistory}
use Rattle.model_kinds.specs.declared.operation.Op.{Op}
use Rattle.model_kinds.specs.declared.shown.Shown.{Shown}
use Rattle.model_members.specs.Node as nodes
use Rattle.model_members.specs.Script as script
use Rattle.model_members.specs.DataType.{Replication}
use Rattle.model_members.specs.Message.{Message}
use Rattle.model_members.specs.Node.{KeyDecl, Input, Fate}
use Rattle.model_members.specs.Node.Fate.{NoStore}
use Rattle.model_members.specs.Step.{step}
use Rattle.model_members.specs.World.{Links, Event, Turn, moved_on, turn_at, turn_of, message_at, after_turn, after_step, happens}
use Rattle.model_members.specs.World.Event.{InputAt, Delivery}
use Rattle.model_members.specs.Script.{Playing, told, ScriptStep, IsStep, played, did_plainly}
use Rattle.theorem_runs.proofs.Playing.{step_is_run, played_appends}
use Rattle.member_views.specs.Sound.{last_view}
use Rattle.member_keeper.specs.declared.keeper.Keeper.{Ghosts as Keeping}
use Rattle.data_lattice.specs.declared.replica.Replica.{Ghosts}
use Rattle.data_lattice.specs.declared.spelled.SpelledData.{Ghosts as Spelling}
use Rattle.member_node.specs.Steps.{replication}
use Rattle.script_reading.specs.Meant.{step_of}
use Rattle.script_reading.specs.declared.script.Step.{Step}
use Rattle.world_members.specs.declared.world.World.{World}
use Rattle.world_members.specs.declared.event.Head.{Head}
use Rattle.world_members.specs.declared.event.Answer.{Answer}
use Rattle.world_members.specs.Lines.{IsHead, IsAnswer, is_damage}
use Rattle.world_members.specs.Ways.{Means}
use Rattle.world_members.specs.Steps.{Reaches, HaveAnswered, Plays}
use Rattle.world_members.specs.Standing.{StandsForWorld}
use Rattle.world_places.specs.Keeping.{Given}
use Rattle.world_members.specs.declared.event.Event.{Event as Line}
use Rattle.world_members.specs.Giving.{IsSame, Does}
use Rattle.world_members.proofs.Onward.{means_same, stands_before, way_logs}
use Rattle.world_members.proofs.Standings.{last_is, kept_alike, stays_same}

module _ {T K Kind Delta : Type 0} {ghosts : Ghosts T Kind Op Delta} {keeping : Keeping K} (spelling : Spelling T Kind Op Delta) (kinds : Text → Kind) (members : ℕ) (decls : List (KeyDecl Kind)) (p : Playing Kind Op Shown) (new : World T K Kind Op Delta ghosts keeping) where
  -- one line was told, and nothing else is new
  pub reaches_told : (q : Playing Kind Op Shown) (kept : Head) (a : Answer) (head : script.Head Op) (meant : script.Answer Shown) → q ≡ told p head meant → Means spelling kinds members decls p new → IsHead kept head → IsAnswer a meant
      → Reaches spelling kinds members decls p q (λ place. []) new (record { head = kept; answer = a; sent = []; finished = None } ∷ [])
  reaches_told q kept a head meant e m is_head is_answer =
      record {
        means = means_same spelling kinds members decls p q new (ap (λ (x : Playing Kind Op Shown). x.events) e) (ap (λ (x : Playing Kind Op Shown). x.world) e) m;
        lines = (record { head = head; answer = meant; posts = []; ended = None } ∷ [], ap (λ (x : Playing Kind Op Shown). x.lines) e, (record { head = is_head; answer = is_answer; sent = refl; ended = refl }, tt));
        calls = λ place. ap (λ (x : Playing Kind Op Shown). x.calls place) e ∙ (let zero_more : p.calls place ≡ p.calls place + 0 = omega arith in zero_more);
      }

module _ {Kind Op Shown : Type 0} (D : Replication Kind Op Shown) (p : Playing Kind Op Shown) where
  -- a member takes an input in the event, from these links
  pub record IsEventAt (event : Fate → Event Op) (i : ℕ) (sent : Input Op) (links : Links Op) : Type 0 where
    pub none : p.world.nodes i ≡ None → turn_of p.world (event NoStore) ≡ None
    pub turns : (node : nodes.Node Kind Op Shown) → p.world.nodes i ≡ Some node → (fate : Fate) → turn_of p.world (event fate) ≡ Some (record { at = i; before = node; input = sent; fate = fate })
    pub happened : (node : nodes.Node Kind Op Shown) → p.world.nodes i ≡ Some node → (fate : Fate) → happens D p.world (event fate) ≡ after_step (record p.world { links = links }) i node fate (step D node sent fate)

  abbrev turn_by : ℕ → Input Op → Fate → nodes.Node Kind Op Shown → Turn Kind Op Shown
  turn_by i input fate node = record { at = i; before = node; input = input; fate = fate }

  pub input_at : (i : ℕ) (input : Input Op) → IsEventAt (InputAt i input) i input p.world.links
  input_at i input =
      record {
        none = λ e. ap (option_map (turn_by i input NoStore)) e;
        turns = λ node e fate. ap (option_map (turn_by i input fate)) e;
        happened = λ node e fate. ap (λ o. after_turn D p.world (option_map (turn_by i input fate) o)) e;
      }

  module _ (from to index : ℕ) (message : Message Op) (is : message_at p.world from to index ≡ Some message) where
    taken : (fate : Fate) → turn_of p.world (Delivery from to index fate) ≡ turn_at p.world to (Input.Take from message) fate
    taken fate = ap (option_and_then (λ (m : Message Op). turn_at p.world to (Input.Take from m) fate)) is

    pub delivery_at : IsEventAt (Delivery from to index) to (Input.Take from message) (moved_on p.world.links from to index)
    delivery_at =
        record {
          none = λ e. taken NoStore ∙ ap (option_map (turn_by to (Input.Take from message) NoStore)) e;
          turns = λ node e fate. taken fate ∙ ap (option_map (turn_by to (Input.Take from message) fate)) e;
          happened = λ node e fate. ap (after_turn D (record p.world { links = moved_on p.world.links from to index })) (taken fate ∙ ap (option_map (turn_by to (Input.Take from message) fate)) e);
        }

-- EVENTS OF NO MEMBER'S

module _ {T K Kind Delta : Type 0} {ghosts : Ghosts T Kind Op Delta} {keeping : Keeping K} (spelling : Spelling T Kind Op Delta) (kinds : Text → Kind) (members : ℕ) (decls : List (KeyDecl Kind)) (p : Playing Kind Op Shown) (old : World T K Kind Op Delta ghosts keeping) (m : Means spelling kinds members decls p old) where
  -- the last view of the program is the model's
  pub view_of : last_view old.views ≡ p.world.view
  view_of = let l = way_logs (replication ghosts spelling) members decls p m.run in last_is p.world old.views (m.stands l.0 l.1).views

  module _ (s : ScriptStep Op) (ok : IsStep s) (before : Playing Kind Op Shown) (new : World T K Kind Op Delta ghosts keeping) (event : Event Op) (head : script.Head Op) (answer : script.Answer Shown) (given : Given) where
    -- where the new world stands for the model's, wherever the old one does
    pub reaches_did : before.world ≡ p.world → before.lines ≡ p.lines → played (replication ghosts spelling) p s ≡ did_plainly (replication ghosts spelling) before event head answer
        → ((logs : Text → History Op) → ((key : Text) → IsHistory (logs key)) → StandsForWorld spelling kinds logs old p.world → StandsForWorld spelling kinds logs new (script.did_plainly (replication ghosts spelling) before event head answer).world) → (kept : Head) (a : Answer) → IsHead kept head → IsAnswer a answer
        → HaveAnswered p before given → Reaches spelling kinds members decls p (played (replication ghosts spelling) p s) given new (record { head = kept; answer = a; sent = []; finished = None } ∷ [])
    reaches_did world lines e stands kept a is_head is_answer calls =
        record {
          means = record {
            run = step_is_run (replication ghosts spelling) members decls p s ok m.run;
            stands = λ logs through.
                subst (λ (x : Playing Kind Op Shown). StandsForWorld spelling kinds logs new x.world) (sym e) (stands logs through.histories (stands_before spelling kinds members decls p (played (replication ghosts spelling) p s) old (played_appends (replication ghosts spelling) p s ok) m logs through));
          };
          lines = (
            record { head = head; answer = answer; posts = []; ended = None } ∷ [],
            ap (λ (x : Playing Kind Op Shown). x.lines) e ∙ ap (λ (ls : List _). ls ++ record { head = head; answer = answer; posts = []; ended = None } ∷ []) lines,
            (record { head = is_head; answer = is_answer; sent = refl; ended = refl }, tt),
          );
          calls = λ place. ap (λ (x : Playing Kind Op Shown). x.calls place) e ∙ calls place;
        }

  module _ (s : ScriptStep Op) (before : Playing Kind Op Shown) (new : World T K Kind Op Delta ghosts keeping) (head : script.Head Op) (answer : script.Answer Shown) (given : Given) where
    -- calls were answered, and nothing happened
    pub reaches_said : before.world ≡ p.world → before.events ≡ p.events → before.lines ≡ p.lines → played (replication ghosts spelling) p s ≡ script.told before head answer → Means spelling kinds members decls p new → (kept : Head) (a : Answer) → IsHead kept head → IsAnswer a answer
        → HaveAnswered p before given → Reaches spelling kinds members decls p (played (replication ghosts spelling) p s) given new (record { head = kept; answer = a; sent = []; finished = None } ∷ [])
    reaches_said world events lines e means kept a is_head is_answer calls =
        record {
          means = means_same spelling kinds members decls p (played (replication ghosts spelling) p s) new (ap (λ (x : Playing Kind Op Shown). x.events) e ∙ events) (ap (λ (x : Playing Kind Op Shown). x.world) e ∙ world) means;
          lines = (
            record { head = head; answer = answer; posts = []; ended = None } ∷ [],
            ap (λ (x : Playing Kind Op Shown). x.lines) e ∙ ap (λ (ls : List _). ls ++ record { head = head; answer = answer; posts = []; ended = None } ∷ []) lines,
            (record { head = is_head; answer = is_answer; sent = refl; ended = refl }, tt),
          );
          calls = λ place. ap (λ (x : Playing Kind Op Shown). x.calls place) e ∙ calls place;
        }

-- NO CHANGE

-- the contract of a step
pub plays_does : {T K Kind Delta : Type 0} {ghosts : Ghosts T Kind Op Delta} {keeping : Keeping K} (spelling : Spelling T Kind Op Delta) (step : Step) (old new : World T K Kind Op Delta ghosts keeping) (events : List Line) → Does spelling (λ p. played (replication ghosts spelling) p (step_of step)) old new events → Plays spelling step old new events
plays_does spelling step old new events d =
    record { given = d.given; kept = d.kept; damaged = λ damage. absurd (let e : ◌≡◌ {A = Bool} true false = sym damage ∙ d.undamaged in cc e); does = λ loads. ((λ kinds members decls p m. d.undamaged), d.leads) }

module _ {T K Kind Delta : Type 0} {ghosts : Ghosts T Kind Op Delta} {keeping : Keeping K} (spelling : Spelling T Kind Op Delta) (old new : World T K Kind Op Delta ghosts keeping) (same : IsSame old new) where
  -- one line is told of what a script does, and nothing else
  abbrev TellsOf : (Playing Kind Op Shown → Playing Kind Op Shown) → Head → Answer → Type 0
  TellsOf goes kept a =
      (kinds : Text → Kind) (members : ℕ) (decls : List (KeyDecl Kind)) (p : Playing Kind Op Shown) → Means spelling kinds members decls p old
      → (head : script.Head Op) × (answer : script.Answer Shown) × (goes p ≡ told p head answer) × IsHead kept head × IsAnswer a answer

  pub does_told : (goes : Playing Kind Op Shown → Playing Kind Op Shown) (kept : Head) (a : Answer) → is_damage a ≡ false → TellsOf goes kept a → Does spelling goes old new (record { head = kept; answer = a; sent = []; finished = None } ∷ [])
  does_told goes kept a sound tells =
      record {
        given = λ place. [];
        kept = kept_alike old new same;
        undamaged = sound;
        leads = λ kinds members decls p m foretold. let t = tells kinds members decls p m in reaches_told spelling kinds members decls p new (goes p) kept a t.0 t.1 t.2 (stays_same spelling old new same kinds members decls p m) t.3 t.4;
      }

  pub plays_told : (step : Step) (kept : Head) (a : Answer) (event : Line) → event ≡ record { head = kept; answer = a; sent = []; finished = None } → is_damage a ≡ false → TellsOf (λ p. played (replication ghosts spelling) p (step_of step)) kept a → Plays spelling step old new (event ∷ [])
  plays_told step kept a event is sound tells =
      subst (λ (e : Line). Plays spelling step old new (e ∷ [])) (sym is) (plays_does spelling step old new _ (does_told (λ p. played (replication ghosts spelling) p (step_of step)) kept a sound tells))
