use Rattle.std.proofs.Common.{◌≡◌, ◌<◌, Bool, not, List, [], length, get_or, None, false, true, refl, sym, ap, ◌∙◌, subst, arith, All, ◌==◌, eq-eqb, ℕ, ◌∷◌, ◌++◌, map, flat_map, option_map, unwrap_or, if◌then◌else◌}
use Rattle.std.specs.Global.{Vec}
use Rattle.member_node.proofs.Common.{known, Text, VersionVector, History, IsPartOf, identities_of, one_step_later, state_of, Stepped, NoStore, step, answered, Replication, Shown, Ghosts, Keeping, entry_digest, Prepared, Output, KeyState, AreMade, StandsForKey, StandsForNode, is_pending, IsPrepared, ticked, LeadsOn, replication, IsKeyTick, IsTickedAs, TicksIn, tick_in, Node, KeyTick, AreDistinct, declared_by, meant}
use Rattle.model_members.specs.View.{leader, removed_of}
use Rattle.model_members.specs.Node as nodes
use Rattle.model_members.specs.Node.Reply.{NotLeader, Ticked}
use Rattle.model_members.specs.Step.{tick_key, outcomes_of, entry_after_tick}
use Rattle.model_members.specs.Entry as model
use Rattle.model_members.specs.Node.Input.{PruneTick}
use Rattle.model_members.proofs.Cases.{entry_after_tick_of}
use Rattle.member_node.specs.declared.operations.OperationChange.TheVariants.{Same}
use Rattle.member_node.specs.declared.plan.Plan.TheVariants as Plans
use Rattle.member_node.specs.declared.reply.Reply.TheVariants as replies
use Rattle.member_node.specs.Members.{IsSafe}
use Rattle.member_node.specs.Ticking.{CanTick, IsDue, TellsMore}
use Rattle.member_node.specs.declared.outcome.KeyOutcome.{KeyOutcome}
use Rattle.member_node.proofs.Ticks.{same_number, left_others, left_few}
use Rattle.member_node.proofs.Planned.{sound_ticked, leads_ticked, owned, sound_as, sound_told, prepared_answered, operates_still, quiet_output}
use Rattle.member_node.proofs.Sendings.{held_by}
use Rattle.member_node.proofs.Takings.{declared_at}
use Rattle.member_node.specs.declared.input.Input.TheVariants as inputs
use Rattle.member_node.proofs.Answerings.{replies_told, replies_stored}
use Rattle.member_node.proofs.node.Node.ticked.Goals as goal

module _ {Kind Op : Type 0} (D : Replication Kind Op Shown) (node : nodes.Node Kind Op Shown) where
  -- the node after a tick that its leader makes
  abbrev after_tick : Stepped Kind Op Shown
  after_tick = answered (record (one_step_later node) { entries = entry_after_tick D (one_step_later node) }) (Ticked (outcomes_of D (one_step_later node)))

  step-tick-led : (leader node.view == node.identity) ≡ true → step D node PruneTick NoStore ≡ after_tick
  step-tick-led leads = ap (λ b. if not b then answered (one_step_later node) (NotLeader (leader node.view)) else answered (record (one_step_later node) { entries = entry_after_tick D (one_step_later node) }) (Ticked (outcomes_of D (one_step_later node)))) leads

  step-tick-unled : (leader node.view == node.identity) ≡ false → step D node PruneTick NoStore ≡ answered (one_step_later node) (NotLeader (leader node.view))
  step-tick-unled leads = ap (λ b. if not b then answered (one_step_later node) (NotLeader (leader node.view)) else answered (record (one_step_later node) { entries = entry_after_tick D (one_step_later node) }) (Ticked (outcomes_of D (one_step_later node)))) leads

flat-map-maps : {X Y Z : Type 0} (f : Y → List Z) (g : X → Y) (xs : List X) → flat_map f (map g xs) ≡ flat_map (λ x. f (g x)) xs
flat-map-maps f g [] = refl
flat-map-maps f g (x ∷ xs) = ap (λ l. f (g x) ++ l) (flat-map-maps f g xs)

module _ {T Kind Op Delta : Type 0} (D : Replication Kind Op Shown) (node : nodes.Node Kind Op Shown) (keys : List (KeyState T Kind Op Delta)) (declares : node.keys ≡ map declared_by keys) (distinct : AreDistinct (map (λ (state : KeyState T Kind Op Delta). state.name) keys)) where
  -- a declared key's entry after the tick
  entry_ticked : (k : ℕ) (d : KeyState T Kind Op Delta) → k < length keys → entry_after_tick D node (get_or keys k d).name ≡ (tick_in D node (get_or keys k d)).entry
  entry_ticked k d within = ap (λ o. entry_after_tick_of D node (option_map (state_of node) o) (node.entries (get_or keys k d).name)) (declared_at node keys declares distinct k d within)

  outcomes_ticked : outcomes_of D node ≡ flat_map (λ state. (tick_in D node state).outcomes) keys
  outcomes_ticked =
      ap (λ (decls : List (nodes.KeyDecl Kind)). flat_map (λ k. (tick_key D node k).outcomes) (map (state_of node) decls)) declares
      ∙ flat-map-maps (λ k. (tick_key D node k).outcomes) (state_of node) (map declared_by keys)
      ∙ flat-map-maps (λ decl. (tick_key D node (state_of node decl)).outcomes) declared_by keys

-- what is held of a key after the tick
module _ {T Kind Op Delta : Type 0} (ghosts : Ghosts T Kind Op Delta) (D : Replication Kind Op Shown) (node : nodes.Node Kind Op Shown) (kinds : Text → Kind) (logs : Text → History Op) where
  stands_ticked : (id : ℕ) (state : KeyState T Kind Op Delta) (tick : KeyTick T Kind Op Delta) (old new : model.Entry Op) (flushed : VersionVector) → new ≡ (tick_in D node state).entry → IsKeyTick ghosts id state tick → IsTickedAs D node ghosts logs state tick
      → StandsForKey ghosts.kind_of ghosts.IsDataOf ghosts.IsDeltaOf kinds logs state old flushed → StandsForKey ghosts.kind_of ghosts.IsDataOf ghosts.IsDeltaOf kinds logs (ticked state tick) new flushed
  stands_ticked id state tick old new flushed is own made held =
      subst (λ (e : model.Entry Op). StandsForKey ghosts.kind_of ghosts.IsDataOf ghosts.IsDeltaOf kinds logs (ticked state tick) e flushed) (sym is) (record {
        kind = held.kind;
        held = record { kind = own.kind ∙ sym held.kind; image = made.entry };
        logged = made.logged;
        sent = held.sent;
      })

module _ {T K Kind Op Delta : Type 0} {ghosts : Ghosts T Kind Op Delta} {keeping : Keeping K} (D : Replication Kind Op Shown) (kinds : Text → Kind) (logs : Text → History Op)
    (code : Node T K Kind Op Delta ghosts keeping) (node : nodes.Node Kind Op Shown) (s : StandsForNode ghosts.kind_of ghosts.IsDataOf kinds logs code node) (leads : (leader node.view == node.identity) ≡ true) where
  -- the logs have the prunes of the tick, where they have those of the step
  within_ticked : IsSafe logs (step D node PruneTick NoStore).node → (k : ℕ) (d : KeyState T Kind Op Delta) → k < length code.keys.items
      → IsPartOf (tick_in D (one_step_later node) (get_or code.keys.items k d)).entry.history (logs (get_or code.keys.items k d).name)
  within_ticked safe k d within =
      subst (λ (e : model.Entry Op). IsPartOf e.history (logs (get_or code.keys.items k d).name)) (entry_ticked D (one_step_later node) code.keys.items s.keys s.distinct k d within)
      (subst (λ (st : Stepped Kind Op Shown). IsPartOf (st.node.entries (get_or code.keys.items k d).name).history (logs (get_or code.keys.items k d).name)) (step-tick-led D node leads) (safe.taken (get_or code.keys.items k d).name).part)

  all_due : (removed : List ℕ) → removed ≡ removed_of code.view → IsSafe logs (step D node PruneTick NoStore).node → All (IsDue D (one_step_later node) ghosts kinds logs code.id removed) code.keys.items
  all_due removed gone safe k d within = record {
    gone = ap removed_of s.view ∙ sym gone;
    held = held_by ghosts.IsDataOf kinds logs code node s k d within;
    log = within_ticked safe k d within;
  }

  ticks_in : (view : ℕ) (members : List ℕ) → view ≡ code.view.number → members ≡ identities_of code.view → TicksIn (one_step_later node) code.id view members
  ticks_in view members is these = record { identity = s.identity; viewed = ap (λ v. v.number) s.view ∙ sym is; seats = ap identities_of s.view ∙ sym these }

  module _ (ticks : Vec (KeyTick T Kind Op Delta)) (outcomes : List KeyOutcome) (own : AreMade (IsKeyTick ghosts code.id) code.keys.items ticks.items)
      (made : AreMade (IsTickedAs D (one_step_later node) ghosts logs) code.keys.items ticks.items) (told : TellsMore D (one_step_later node) [] code.keys.items outcomes) where
    leads_on : LeadsOn ghosts kinds logs code.keys.items node (after_tick D node).node (Plans.Ticked ticks)
    leads_on = leads_ticked ghosts kinds logs code.keys.items node (after_tick D node).node s.entries ticks own.one_each
        (λ k d e within held. stands_ticked ghosts D (one_step_later node) kinds logs code.id (get_or code.keys.items k d) (get_or ticks.items k e) _ _ _ (entry_ticked D (one_step_later node) code.keys.items s.keys s.distinct k d within) (own.made k d e within) (made.made k d e within) held)
        (λ k d e within none. entry_ticked D (one_step_later node) code.keys.items s.keys s.distinct k d within ∙ (made.made k d e within).still none)

    prepared_ticked : (prepared : Prepared T Kind Op Delta ghosts) → prepared.view ≡ None → prepared.plan ≡ Plans.Ticked ticks → prepared.operations ≡ Same → prepared.output ≡ record { reply = replies.Ticked outcomes; posts = []; finished = None }
        → IsPrepared {ghosts = ghosts} kinds logs code.keys.items (known code.operations) node (after_tick D node) prepared
    prepared_ticked prepared none plan same output = record {
      identity = refl;
      declared = refl;
      counted = refl;
      viewed = sym (ap (λ o. unwrap_or o node.view) none);
      leads_on = subst (LeadsOn ghosts kinds logs code.keys.items node (after_tick D node).node) (sym plan) leads_on;
      operates = operates_still kinds logs code node s prepared (after_tick D node).node same refl refl refl;
      answers = quiet_output kinds logs prepared.output (after_tick D node).output (ap (λ (o : Output T Kind Op Delta ghosts). o.posts) output) (ap (λ (o : Output T Kind Op Delta ghosts). o.finished) output)
          (ap (λ (o : Output T Kind Op Delta ghosts). meant o.reply) output ∙ ap (λ l. Ticked l) (told ∙ sym (outcomes_ticked D (one_step_later node) code.keys.items s.keys s.distinct))) refl refl;
    }

pub tick_all-requires : goal.tick_all-requires
tick_all-requires g c = λ k d within.
    let R = g.T.Replica in
    let code = c.args.self.now in
    let keys = c.deref.ensures.value in
    let removed = c.deref-3.ensures.value ∙ c.in_ok-removed.ensures in
    let view = c.number-view.ensures.sound in
    let leads : leader code.view ≡ code.id = sym c.leader-leader.ensures ∙ same_number c.leader-leader.result code.id c.if-ne.ensures in
    let inside = subst (λ (l : List (KeyState g.row.T.Denot g.row.T-Kind.Denot g.row.T-Op.Denot g.row.T-Delta.Denot)). k < length l) keys within in
    subst (λ (l : List (KeyState g.row.T.Denot g.row.T-Kind.Denot g.row.T-Op.Denot g.row.T-Delta.Denot)). CanTick R.kind_of code.id c.deref-3.result.now (get_or l k d)) (sym keys)
    (subst (λ rs. CanTick R.kind_of code.id rs (get_or code.keys.items k d)) (sym removed) (record {
      kind = code.of_kinds k d inside;
      unpruned = code.unpruned k d inside;
      logged = code.logged k d inside;
      others = left_others code.view code.id view.some leads;
      few = left_few code.view view.few;
      small = (let f = code.few_own k d inside in let r = c.requires in omega (arith, f, r));
    }))

-- a test that tells numbers apart
apart : (same : Bool) → true ≡ not same → same ≡ false
apart true is = absurd (cc is)
apart false is = refl

pub returns-then-ne-clause-sound : goal.returns-then-ne-clause-sound
returns-then-ne-clause-sound g c = sound_told c.args.self.now c.reply.result (replies.NotLeader c.leader-leader.result) c.reply.ensures.plan c.reply.ensures.operations c.reply.ensures.output refl

pub returns-then-ne-clause-image : goal.returns-then-ne-clause-image
returns-then-ne-clause-image g c = λ kinds logs node sent s is safe.
    let R = g.T.Replica in
    let D = replication R g.T.SpelledData in
    let code = c.args.self.now in
    let leads : leader node.view ≡ c.leader-leader.result = ap leader s.view ∙ sym c.leader-leader.ensures in
    let unled : (leader node.view == node.identity) ≡ false = (λ i. leads i == s.identity i) ∙ apart (c.leader-leader.result == code.id) c.if-ne.ensures in
    let same = step-tick-unled D node unled ∙ ap (λ n. answered (one_step_later node) (NotLeader n)) leads in
    subst (λ i. IsPrepared {ghosts = R} kinds logs code.keys.items (known code.operations) node (step D node i NoStore) c.reply.result) (sym is)
    (prepared_answered kinds logs code node s c.reply.result (replies.NotLeader c.leader-leader.result) c.reply.ensures.view c.reply.ensures.plan c.reply.ensures.operations c.reply.ensures.output _ same)

pub returns-clause-sound : goal.returns-clause-sound
returns-clause-sound g c =
    let code = c.args.self.now in
    sound_as code _ (sound_ticked g.T.Replica code.id code.steps code.keys.items (owned code) c.in_ok-ticks.ticks.keys
    (subst (λ (l : List (KeyState g.row.T.Denot g.row.T-Kind.Denot g.row.T-Op.Denot g.row.T-Delta.Denot)). AreMade (IsKeyTick g.T.Replica code.id) l c.in_ok-ticks.ticks.keys.items) c.deref.ensures.value c.in_ok-ticks.ensures.own)) refl (ap (λ (o : Output g.row.T.Denot g.row.T-Kind.Denot g.row.T-Op.Denot g.row.T-Delta.Denot g.T.Replica). is_pending o.reply) c.told.ensures)

pub returns-clause-image : goal.returns-clause-image
returns-clause-image g c = λ kinds logs node sent s is safe.
    let R = g.T.Replica in
    let D = replication R g.T.SpelledData in
    let code = c.args.self.now in
    let ticks = c.in_ok-ticks.ticks in
    let keys = c.deref.ensures.value in
    let leads : leader code.view ≡ code.id = sym c.leader-leader.ensures ∙ same_number c.leader-leader.result code.id c.if-ne.ensures in
    let led : (leader node.view == node.identity) ≡ true = eq-eqb (leader node.view) node.identity (ap leader s.view ∙ leads ∙ sym s.identity) in
    let safe' = subst (λ i. IsSafe logs (step D node i NoStore).node) is safe in
    let members = c.deref-2.ensures.value ∙ c.in_ok-members.ensures in
    let removed = c.deref-3.ensures.value ∙ c.in_ok-removed.ensures in
    let digest = entry_digest g.T.SpelledData.history_byte g.T.SpelledData.history_spelled in
    let due = subst (All (IsDue D (one_step_later node) R kinds logs code.id c.deref-3.result.now)) (sym keys) (all_due D kinds logs code node s led c.deref-3.result.now removed safe') in
    let ticks_in' = ticks_in D kinds logs code node s led _ _ c.number-view.ensures.number members in
    let image = c.in_ok-ticks.ensures.image digest kinds logs (one_step_later node) ticks_in' due in
    let tells = c.in_ok-ticks.ensures.told digest kinds logs (one_step_later node) ticks_in' due in
    let own = subst (λ (l : List (KeyState g.row.T.Denot g.row.T-Kind.Denot g.row.T-Op.Denot g.row.T-Delta.Denot)). AreMade (IsKeyTick R code.id) l ticks.keys.items) keys c.in_ok-ticks.ensures.own in
    let made = subst (λ (l : List (KeyState g.row.T.Denot g.row.T-Kind.Denot g.row.T-Op.Denot g.row.T-Delta.Denot)). AreMade (IsTickedAs D (one_step_later node) R logs) l ticks.keys.items) keys image in
    let told = subst (λ (l : List (KeyState g.row.T.Denot g.row.T-Kind.Denot g.row.T-Op.Denot g.row.T-Delta.Denot)). TellsMore D (one_step_later node) [] l ticks.outcomes) keys tells in
    let prepared : Prepared g.row.T.Denot g.row.T-Kind.Denot g.row.T-Op.Denot g.row.T-Delta.Denot R = record { view = None; plan = Plans.Ticked ticks.keys; operations = Same; output = c.told.result } in
    subst (λ i. IsPrepared {ghosts = R} kinds logs code.keys.items (known code.operations) node (step D node i NoStore) prepared) (sym is)
    (subst (λ st. IsPrepared {ghosts = R} kinds logs code.keys.items (known code.operations) node st prepared) (sym (step-tick-led D node led))
    (prepared_ticked D kinds logs code node s led ticks.keys ticks.outcomes own made told prepared refl refl refl c.told.ensures))

pub returns-then-ne-clause-replies : goal.returns-then-ne-clause-replies
returns-then-ne-clause-replies g c = replies_told inputs.PruneTick c.reply.result (replies.NotLeader c.leader-leader.result) c.reply.ensures.plan c.reply.ensures.output refl

pub returns-clause-replies : goal.returns-clause-replies
returns-clause-replies g c = replies_stored inputs.PruneTick _ (replies.Ticked c.in_ok-ticks.ticks.outcomes) (ap (λ (o : Output g.row.T.Denot g.row.T-Kind.Denot g.row.T-Op.Denot g.row.T-Delta.Denot g.T.Replica). o.reply) c.told.ensures) (ap (λ (o : Output g.row.T.Denot g.row.T-Kind.Denot g.row.T-Op.Denot g.row.T-Delta.Denot g.T.Replica). o.finished) c.told.ensures) refl refl
