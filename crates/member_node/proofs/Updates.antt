-- Updates and gets, as they are prepared and carried out.
-- An update that becomes a record.
-- What is prepared of updates and gets at any level.
--     told_deleted, told_unfit, told_too_few, told_refused        an update that changes nothing
--     taken_if        the next record is taken from the log, if the update is not refused
--     prepared_done, prepared_pending        an update that is recorded: it is done, or others are asked
--     got_too_few, got_value, got_pending        a get
-- Updates, as they are prepared, and those that change the entry in its place, which are carried out as they would be prepared.
--     prepares_refused, prepares_done, prepares_pending        what is prepared of an update is the step of the model
--     stores_none        a plan that changes no durable key has nothing to store
--     keys_still, owned_still        the keys, where memory was refused
--     owned_in_place, steps_in_place        an update in its place keeps what a member keeps, and is the step that would be prepared
use Rattle.std.proofs.Common.{◌≡◌, ◌≢◌, ℕ, ◌+◌, ◌<◌, length, get_or, Bool, false, refl, sym, ap, ◌∙◌, subst, None, unwrap_or, if◌then◌else◌, bytes_eq, ◌≤◌, List, [], arith, true, Some, inl, inr, nat_le, Result, Ok, Err, IfOk, set, Option, ◌==◌, ◌&&◌, not}
use Rattle.std.proofs.lemmas.List.{get_or_default, set-get_or}
use Rattle.std.proofs.lemmas.Bool.Decides.{leb_tells}
use Rattle.std.proofs.lemmas.Bool.{cases_eq, and_parts}
use Rattle.member_node.proofs.Common.{known, Text, History, IsTakenFrom, with_action, has_records, is_unchanged, one_step_later, HasKey, needed, opened, step, answered, Replication, bytes_eq-tells, View, is_unchanged-same, Shown, Ghosts, Keeping, Envelope, StandsFor, parts_of, entry_digest, NextRecord, StandsForLog, StandsForEntry, level_meant, KeyState, Node, At, Nothing, Prepared, StandsForKey, StandsForNode, changed_operations, StandForOperations, StandsForOutput, IsStepOf, recorded, IsSoundPlan, IsPrepared, LeadsOn, AreOwned, Output, Reply, IsOpened, delta_groups, meant, is_pending, IsSoundFor, Prepares, AreSpelled, StandsAfter}
use Rattle.model_history.specs.History.Action.{Operation}
use Rattle.model_members.specs.Entry.{Entry}
use Rattle.model_members.specs.DataType.{meaning}
use Rattle.model_members.specs.Message.{Message as Sent}
use Rattle.model_members.specs.Node as nodes
use Rattle.model_members.specs.Node.{with_entry, with_text_at}
use Rattle.model_members.specs.Step.{member_count, value_reply}
use Rattle.model_members.specs.Node.Reply.{Done, Deleted, WrongKind, TooFew}
use Rattle.model_members.proofs.Steps.{with_text_at-same}
use Rattle.data_lattice.specs.declared.spelled.SpelledData.{Ghosts as Spelling}
use Rattle.member_messages.specs.declared.message.Message.TheVariants.{Write, Read}
use Rattle.member_quorum.specs.declared.level.Level.{Level}
use Rattle.member_node.specs.Members.{AreTakenFrom}
use Rattle.member_node.specs.Recording.{is_open_to}
use Rattle.member_node.specs.Planning.{CanRecord, IsRecordable, IsPlanned, entry_in}
use Rattle.member_node.specs.Updates.{IsUndeleted, IsOwnRecord, refusal_at, IsRefusal, IsNextOperation, reply_of, IsOwn, MeansUpdate, Becomes, IsApplied}
use Rattle.member_node.specs.declared.operations.OperationChange.TheVariants.{Same}
use Rattle.member_node.specs.declared.reply.Reply.TheVariants as reply
use Rattle.member_node.specs.declared.input.Input.{Input}
use Rattle.member_node.specs.declared.input.Input.TheVariants as input
use Rattle.member_node.specs.declared.key.Updated.{Updated}
use Rattle.member_node.specs.declared.key.Updated.TheVariants.{Refused, Recorded}
use Rattle.member_node.specs.declared.in_place.Applied.{Applied}
use Rattle.member_node.specs.declared.plan.Plan.{Plan}
use Rattle.member_node.specs.declared.reply.Fate.TheVariants.{NoStore}
use Rattle.member_node.specs.InPlace.{IsInPlace, output_of}
use Rattle.member_node.specs.Storing.{stored_of, AreStores}
use Rattle.member_node.proofs.Takings.{other_name}
use Rattle.member_node.proofs.Planned.{sound_at, leads_at, owned, operates_still, prepared_moved, quiet_output, sound_told, sound_as, prepared_answered}
use Rattle.member_node.proofs.Lists.{IsFound, position-found}
use Rattle.member_node.proofs.Standing.{has_key, held_at}
use Rattle.member_node.proofs.Updating.{update_deleted, update_unfit, update_too_few, update_refused, update_accepted, update_entry, get_too_few, get_needing}
use Rattle.member_node.proofs.Operating.{opened_operates, opened_answers}
use Rattle.member_node.proofs.Making.{makes_step, stored_not, stored_same, put_none, put_all_keys}

-- A RECORD

-- a counted step that changes at most one key's entry, and it may be the operations
pub record MovesOne {Kind Op : Type 0} (node : nodes.Node Kind Op Shown) (key : Text) (next : nodes.Node Kind Op Shown) : Type 0 where
  pub identity : next.identity ≡ node.identity
  pub declared : next.keys ≡ node.keys
  pub counted : next.steps ≡ node.steps + 1
  pub viewed : next.view ≡ node.view
  pub flushed : next.flushed ≡ node.flushed
  pub others : (name : Text) → bytes_eq name key ≡ false → next.entries name ≡ node.entries name

module _ {Kind Op : Type 0} (node : nodes.Node Kind Op Shown) (key : Text) (entry : Entry Op) where
  -- an entry is another
  pub moves_entry : MovesOne node key (with_entry (one_step_later node) key entry)
  moves_entry = record {
    identity = refl;
    declared = refl;
    counted = refl;
    viewed = refl;
    flushed = refl;
    others = λ name other. ap (λ b. if b then entry else node.entries name) other;
  }

  -- and an operation is opened
  pub moves_opened : (reads : Bool) (n : ℕ) (message : Sent Op) → MovesOne node key (opened (with_entry (one_step_later node) key entry) key reads n message).node
  moves_opened reads n message = record {
    identity = refl;
    declared = refl;
    counted = refl;
    viewed = refl;
    flushed = refl;
    others = λ name other. ap (λ b. if b then entry else node.entries name) other;
  }

module _ {T K Kind Op Delta : Type 0} {ghosts : Ghosts T Kind Op Delta} {keeping : Keeping K} (code : Node T K Kind Op Delta ghosts keeping) (index : ℕ) (at : KeyState T Kind Op Delta) (entry : Envelope T Kind Op Delta) (next : NextRecord Delta)
    (within : index < length code.keys.items) (is : at ≡ get_or code.keys.items index at) (own : IsOwnRecord ghosts code.id at entry next) where
  can : CanRecord ghosts code.keys.items index next
  can = record { within = within; recordable = λ d. subst (λ (state : KeyState T Kind Op Delta). IsRecordable ghosts state next) (there d) own.recordable }
    where
      there : (d : KeyState T Kind Op Delta) → at ≡ get_or code.keys.items index d
      there d = is ∙ get_or_default code.keys.items index at d within

  pub sound_recorded : IsSoundPlan ghosts code.id code.steps code.keys.items (At index entry next)
  sound_recorded = sound_at ghosts code.id code.steps code.keys.items (owned code) index at entry next can is own.number own.marks own.kind

  -- a step of the model that makes this of the key
  module _ (kinds : Text → Kind) (logs : Text → History Op) (node : nodes.Node Kind Op Shown) (s : StandsForNode ghosts.kind_of ghosts.IsDataOf kinds logs code node) (stepped : nodes.Stepped Kind Op Shown) (moves : MovesOne node at.name stepped.node)
      (image : StandsFor ghosts.IsDataOf (parts_of entry) (logs at.name) (stepped.node.entries at.name)) (logged : StandsForLog ghosts.IsDeltaOf (recorded at entry next).log (logs at.name) (stepped.node.entries at.name)) where
    others : (k : ℕ) (d : KeyState T Kind Op Delta) → k < length code.keys.items → k ≢ index
        → (stepped.node.entries (get_or code.keys.items k d).name ≡ node.entries (get_or code.keys.items k d).name) × (stepped.node.flushed (get_or code.keys.items k d).name ≡ node.flushed (get_or code.keys.items k d).name)
    others k d inside apart =
        let here : (get_or code.keys.items index at).name ≡ at.name = ap (λ (state : KeyState T Kind Op Delta). state.name) (sym is) in (
          moves.others (get_or code.keys.items k d).name (ap (bytes_eq (get_or code.keys.items k d).name) (sym here) ∙ other_name code.keys.items s.distinct k index d at inside within apart),
          ap (λ (f : Text → _). f (get_or code.keys.items k d).name) moves.flushed,
        )

    new : StandsForKey ghosts.kind_of ghosts.IsDataOf ghosts.IsDeltaOf kinds logs (recorded at entry next) (stepped.node.entries at.name) (stepped.node.flushed at.name)
    new =
        let held = subst (λ (state : KeyState T Kind Op Delta). StandsForKey ghosts.kind_of ghosts.IsDataOf ghosts.IsDeltaOf kinds logs state (node.entries state.name) (node.flushed state.name)) (sym is) (s.entries index at within) in
        record {
          kind = held.kind;
          held = record { kind = own.kind ∙ held.held.kind; image = image };
          logged = logged;
          sent = λ i. held.sent i ∙ ap (λ f. f at.name i) (sym moves.flushed);
        }

    pub prepared_record : (prepared : Prepared T Kind Op Delta ghosts) → prepared.view ≡ None → prepared.plan ≡ At index entry next → StandForOperations (changed_operations (known code.operations) prepared.operations) stepped.node
        → StandsForOutput kinds logs prepared.output stepped.output → IsPrepared {ghosts = ghosts} kinds logs code.keys.items (known code.operations) node stepped prepared
    prepared_record prepared none plan operates answers = record {
      identity = moves.identity;
      declared = moves.declared;
      counted = moves.counted;
      viewed = moves.viewed ∙ sym (ap (λ o. unwrap_or o node.view) none);
      leads_on = subst (LeadsOn ghosts kinds logs code.keys.items node stepped.node) (sym plan)
          (leads_at ghosts code.id code.steps code.keys.items (owned code) index at entry next can is own.number own.marks own.kind kinds logs node stepped.node others s.entries new);
      operates = operates;
      answers = answers;
    }

-- AT ANY LEVEL

-- what is told of an envelope is so of each entry for which it stands
pub deleted_as : {T Kind Op Delta : Type 0} (ghosts : Ghosts T Kind Op Delta) (told entry : Envelope T Kind Op Delta) (answer b : Bool) → told ≡ entry
    → ((log : History Op) (held : Entry Op) → StandsFor ghosts.IsDataOf (parts_of told) log held → answer ≡ ghosts.data_type.deleted held.history) → answer ≡ b
    → (log : History Op) (held : Entry Op) → StandsFor ghosts.IsDataOf (parts_of entry) log held → ghosts.data_type.deleted held.history ≡ b
deleted_as {T} {Kind} {Op} {Delta} ghosts told entry answer b same tells is log held s =
    sym (tells log held (subst (λ (e : Envelope T Kind Op Delta). StandsFor ghosts.IsDataOf (parts_of e) log held) (sym same) s)) ∙ is

-- what is open to an operation is of its kind
pub open_fits : {T Kind Op Delta : Type 0} (ghosts : Ghosts T Kind Op Delta) (value : T) (op : Op) → is_open_to ghosts value op ≡ true → ghosts.data_type.fits (ghosts.kind_of value) op ≡ true
open_fits ghosts value op is = (and_parts (not (ghosts.is_closed value)) (ghosts.data_type.fits (ghosts.kind_of value) op) is).1

-- what is not deleted, and not open to it, is of another kind
pub unfit_of : {T Kind Op Delta : Type 0} (ghosts : Ghosts T Kind Op Delta) (value : T) (op : Op) → ghosts.is_closed value ≡ false → is_open_to ghosts value op ≡ false → ghosts.data_type.fits (ghosts.kind_of value) op ≡ false
unfit_of ghosts value op kept is = ap (λ b. not b && ghosts.data_type.fits (ghosts.kind_of value) op) (sym kept) ∙ is

-- two facts of a result that give a third
pub if_both : {A E : Type 0} (P Q S : A → Type 0) (r : Result A E) → ((x : A) → P x → Q x → S x) → IfOk r P → IfOk r Q → IfOk r S
if_both P Q S (Ok x) gives p q = gives x p q
if_both P Q S (Err e) gives p q = tt

is_one : (n : ℕ) → n ≤ 1 → nat_le n 1 ≡ true
is_one n few = elim (leb_tells n 1) [ inl e ↦ e.0 | inr e ↦ absurd (omega (arith, e.1)) ]

is_more : (n : ℕ) → 1 < n → nat_le n 1 ≡ false
is_more n more = elim (leb_tells n 1) [ inl e ↦ absurd (omega (arith, e.1)) | inr e ↦ e.0 ]

module _ {T K Kind Op Delta : Type 0} {ghosts : Ghosts T Kind Op Delta} {keeping : Keeping K} (kinds : Text → Kind) (logs : Text → History Op) (code : Node T K Kind Op Delta ghosts keeping) (node : nodes.Node Kind Op Shown)
    (s : StandsForNode ghosts.kind_of ghosts.IsDataOf kinds logs code node) (digest : Kind → Entry Op → List ℕ) (key : Text) (level : nodes.Level) (index : ℕ) (at : KeyState T Kind Op Delta)
    (found : IsFound (λ (state : KeyState T Kind Op Delta). bytes_eq state.name key) code.keys.items index) (is : at ≡ get_or code.keys.items index at) (input : nodes.Input Op) where
  abbrev D : Replication Kind Op Shown
  D = delta_groups ghosts.data_type digest

  abbrev later : nodes.Node Kind Op Shown
  later = one_step_later node

  named : at.name ≡ key
  named = ap (λ (state : KeyState T Kind Op Delta). state.name) is ∙ bytes_eq-tells _ key (found.passes at)

  has : HasKey node at.name (ghosts.kind_of at.entry.value)
  has = has_key ghosts.kind_of ghosts.IsDataOf kinds logs code node s key index at found is

  -- UPDATES

  module _ (op : Op) (sent : input ≡ nodes.Input.Update key op level) where
    stepped_so : step (delta_groups ghosts.data_type digest) node input nodes.Fate.NoStore ≡ step (delta_groups ghosts.data_type digest) node (nodes.Input.Update at.name op level) nodes.Fate.NoStore
    stepped_so = ap (λ i. step D node i nodes.Fate.NoStore) (sent ∙ ap (λ (name : Text). nodes.Input.Update name op level) (sym named))

    pub told_deleted : ghosts.data_type.deleted (node.entries at.name).history ≡ true → step (delta_groups ghosts.data_type digest) node input nodes.Fate.NoStore ≡ answered (one_step_later node) Deleted
    told_deleted deleted = stepped_so ∙ update_deleted D node at.name level (ghosts.kind_of at.entry.value) has op deleted

    pub told_unfit : ghosts.data_type.deleted (node.entries at.name).history ≡ false → ghosts.data_type.fits (ghosts.kind_of at.entry.value) op ≡ false → step (delta_groups ghosts.data_type digest) node input nodes.Fate.NoStore ≡ answered (one_step_later node) WrongKind
    told_unfit kept unfit = stepped_so ∙ update_unfit D node at.name level (ghosts.kind_of at.entry.value) has op kept unfit

    module _ (kept : ghosts.data_type.deleted (node.entries at.name).history ≡ false) (fits : ghosts.data_type.fits (ghosts.kind_of at.entry.value) op ≡ true) where
      pub told_too_few : needed level (member_count node) ≡ None → step (delta_groups ghosts.data_type digest) node input nodes.Fate.NoStore ≡ answered (one_step_later node) TooFew
      told_too_few none = stepped_so ∙ update_too_few D node at.name level (ghosts.kind_of at.entry.value) has op kept fits none

      module _ (n : ℕ) (number : needed level (member_count node) ≡ Some n) where
        pub told_refused : (told : Reply) → IsRefusal ghosts code.id op at (node.entries at.name) told → step (delta_groups ghosts.data_type digest) node input nodes.Fate.NoStore ≡ answered (one_step_later node) (meant told)
        told_refused told u =
            stepped_so
            ∙ update_refused D node at.name level (ghosts.kind_of at.entry.value) has op kept fits n number u.refusal (ap (λ i. ghosts.data_type.refusal (ghosts.kind_of at.entry.value) i op (node.entries at.name).history) s.identity ∙ u.refuses)
            ∙ ap (answered later) (sym u.told)

        unrefused_so : refusal_at ghosts code.id op at (node.entries at.name) ≡ None → ghosts.data_type.refusal (ghosts.kind_of at.entry.value) node.identity op (node.entries at.name).history ≡ None
        unrefused_so unrefused = ap (λ i. ghosts.data_type.refusal (ghosts.kind_of at.entry.value) i op (node.entries at.name).history) s.identity ∙ unrefused

        pub taken_if : AreTakenFrom logs (step (delta_groups ghosts.data_type digest) node input nodes.Fate.NoStore).node → refusal_at ghosts code.id op at (node.entries at.name) ≡ None → IsTakenFrom (logs at.name) (with_action (node.entries at.name) code.id (Operation op)).history
        taken_if taken unrefused =
            let here = ap (λ st. st.node.entries at.name) stepped_so ∙ update_entry D node at.name level (ghosts.kind_of at.entry.value) has op kept fits n number (unrefused_so unrefused)
            ∙ ap (λ i. with_action (node.entries at.name) i (Operation op)) s.identity in
            subst (λ (e : Entry Op). IsTakenFrom (logs at.name) e.history) here (taken at.name)

        module _ (entry : Envelope T Kind Op Delta) (next : NextRecord Delta) (own : IsOwnRecord ghosts code.id at entry next) (u : IsNextOperation ghosts code.id op at (logs at.name) (node.entries at.name) entry next)
            (prepared : Prepared T Kind Op Delta ghosts) (none : prepared.view ≡ None) (plan : prepared.plan ≡ At index entry next) where
          abbrev made : Entry Op
          made = with_action (node.entries at.name) node.identity (Operation op)

          made_is : with_action (node.entries at.name) node.identity (Operation op) ≡ with_action (node.entries at.name) code.id (Operation op)
          made_is = ap (λ i. with_action (node.entries at.name) i (Operation op)) s.identity

          here : with_text_at node.entries at.name (with_action (node.entries at.name) node.identity (Operation op)) at.name ≡ with_action (node.entries at.name) code.id (Operation op)
          here = with_text_at-same node.entries at.name made ∙ made_is

          image : StandsFor ghosts.IsDataOf (parts_of entry) (logs at.name) (with_text_at node.entries at.name (with_action (node.entries at.name) node.identity (Operation op)) at.name)
          image = subst (StandsFor ghosts.IsDataOf (parts_of entry) (logs at.name)) (sym here) u.image

          logged : StandsForLog ghosts.IsDeltaOf (recorded at entry next).log (logs at.name) (with_text_at node.entries at.name (with_action (node.entries at.name) node.identity (Operation op)) at.name)
          logged = subst (StandsForLog ghosts.IsDeltaOf (recorded at entry next).log (logs at.name)) (sym here) u.logged

          stepped_by : (b : _) → nat_le n 1 ≡ b → step (delta_groups ghosts.data_type digest) node input nodes.Fate.NoStore
              ≡ (if b then answered (with_entry (one_step_later node) at.name (with_action (node.entries at.name) node.identity (Operation op))) Done
              else opened (with_entry (one_step_later node) at.name (with_action (node.entries at.name) node.identity (Operation op))) at.name false n (Sent.Write node.next_op at.name (with_action (node.entries at.name) node.identity (Operation op))))
          stepped_by b test =
              stepped_so ∙ update_accepted D node at.name level (ghosts.kind_of at.entry.value) has op kept fits n number (unrefused_so u.unrefused)
              ∙ ap (λ b. if b then answered (with_entry (one_step_later node) at.name (with_action (node.entries at.name) node.identity (Operation op))) Done
              else opened (with_entry (one_step_later node) at.name (with_action (node.entries at.name) node.identity (Operation op))) at.name false n (Sent.Write node.next_op at.name (with_action (node.entries at.name) node.identity (Operation op)))) test

          pub prepared_done : n ≤ 1 → prepared.operations ≡ Same → prepared.output ≡ record { reply = reply.Done; posts = []; finished = None }
              → IsPrepared {ghosts = ghosts} kinds logs code.keys.items (known code.operations) node (step (delta_groups ghosts.data_type digest) node input nodes.Fate.NoStore) prepared
          prepared_done few same output =
              let stepped = answered (with_entry later at.name made) Done in
              subst (λ st. IsPrepared {ghosts = ghosts} kinds logs code.keys.items (known code.operations) node st prepared) (sym (stepped_by true (is_one n few)))
              (prepared_record code index at entry next found.within is own kinds logs node s stepped (moves_entry node at.name made) image logged prepared none plan
              (operates_still kinds logs code node s prepared stepped.node same refl refl refl)
              (quiet_output kinds logs prepared.output stepped.output (ap (λ (o : Output T Kind Op Delta ghosts). o.posts) output) (ap (λ (o : Output T Kind Op Delta ghosts). o.finished) output) (ap (λ (o : Output T Kind Op Delta ghosts). meant o.reply) output) refl refl))

          pub prepared_pending : 1 < n → IsOpened code at.name false n (Write (length (known code.operations)) at.name entry) prepared
              → IsPrepared {ghosts = ghosts} kinds logs code.keys.items (known code.operations) node (step (delta_groups ghosts.data_type digest) node input nodes.Fate.NoStore) prepared
          prepared_pending more o =
              let told = Sent.Write node.next_op at.name made in
              let stepped = opened (with_entry later at.name made) at.name false n told in
              let held = held_at ghosts.kind_of ghosts.IsDataOf kinds logs code node s index at found.within is in
              let entry_held : StandsForEntry ghosts.kind_of ghosts.IsDataOf kinds logs at.name entry (with_action (node.entries at.name) node.identity (Operation op)) =
              record { kind = own.kind ∙ held.held.kind; image = subst (StandsFor ghosts.IsDataOf (parts_of entry) (logs at.name)) (sym made_is) u.image } in
              subst (λ st. IsPrepared {ghosts = ghosts} kinds logs code.keys.items (known code.operations) node st prepared) (sym (stepped_by false (is_more n more)))
              (prepared_record code index at entry next found.within is own kinds logs node s stepped (moves_opened node at.name made false n told) image logged prepared none plan
              (opened_operates code at.name false n (Write (length (known code.operations)) at.name entry) prepared o kinds logs node s (with_text_at node.entries at.name made) told)
              (opened_answers code at.name false n (Write (length (known code.operations)) at.name entry) prepared o kinds logs node s (with_text_at node.entries at.name made) told
              (record { entry = made; is = ap (λ k. Sent.Write k at.name (with_action (node.entries at.name) node.identity (Operation op))) s.operations.next; held = entry_held })))

  -- GETS

  module _ (sent : input ≡ nodes.Input.Get key level) where
    got_so : step (delta_groups ghosts.data_type digest) node input nodes.Fate.NoStore ≡ step (delta_groups ghosts.data_type digest) node (nodes.Input.Get at.name level) nodes.Fate.NoStore
    got_so = ap (λ i. step D node i nodes.Fate.NoStore) (sent ∙ ap (λ (name : Text). nodes.Input.Get name level) (sym named))

    pub got_too_few : needed level (member_count node) ≡ None → step (delta_groups ghosts.data_type digest) node input nodes.Fate.NoStore ≡ answered (one_step_later node) TooFew
    got_too_few none = got_so ∙ get_too_few D node at.name level (ghosts.kind_of at.entry.value) has none

    module _ (n : ℕ) (number : needed level (member_count node) ≡ Some n) where
      got_by : (b : _) → nat_le n 1 ≡ b → step (delta_groups ghosts.data_type digest) node input nodes.Fate.NoStore
          ≡ (if b then answered (one_step_later node) (value_reply (delta_groups ghosts.data_type digest) (if has_records (node.entries at.name) then Some (meaning ghosts.data_type (ghosts.kind_of at.entry.value) (node.entries at.name).history) else None))
          else opened (one_step_later node) at.name true n (Sent.Read node.next_op at.name))
      got_by b test =
          got_so ∙ get_needing D node at.name level (ghosts.kind_of at.entry.value) has n number
          ∙ ap (λ b. if b then answered (one_step_later node) (value_reply (delta_groups ghosts.data_type digest) (if has_records (node.entries at.name) then Some (meaning ghosts.data_type (ghosts.kind_of at.entry.value) (node.entries at.name).history) else None))
          else opened (one_step_later node) at.name true n (Sent.Read node.next_op at.name)) test

      pub got_value : n ≤ 1 → (told : Reply) → meant told ≡ value_reply (delta_groups ghosts.data_type digest) (if has_records (node.entries at.name) then Some (meaning ghosts.data_type (ghosts.kind_of at.entry.value) (node.entries at.name).history) else None)
          → step (delta_groups ghosts.data_type digest) node input nodes.Fate.NoStore ≡ answered (one_step_later node) (meant told)
      got_value few told same = got_by true (is_one n few) ∙ ap (answered later) (sym same)

      pub got_pending : 1 < n → (prepared : Prepared T Kind Op Delta ghosts) → prepared.plan ≡ Nothing → IsOpened code at.name true n (Read (length (known code.operations)) at.name) prepared
          → IsPrepared {ghosts = ghosts} kinds logs code.keys.items (known code.operations) node (step (delta_groups ghosts.data_type digest) node input nodes.Fate.NoStore) prepared
      got_pending more prepared nothing o =
          let told = Sent.Read node.next_op at.name in
          let stepped = opened later at.name true n told in
          subst (λ st. IsPrepared {ghosts = ghosts} kinds logs code.keys.items (known code.operations) node st prepared) (sym (got_by false (is_more n more)))
          (prepared_moved kinds logs code node s prepared stepped o.viewed nothing refl refl refl refl refl refl
          (opened_operates code at.name true n (Read (length (known code.operations)) at.name) prepared o kinds logs node s node.entries told)
          (opened_answers code at.name true n (Read (length (known code.operations)) at.name) prepared o kinds logs node s node.entries told
          (ap (λ k. Sent.Read k at.name) s.operations.next)))

-- AS IT IS CARRIED OUT

module _ {T K Kind Op Delta : Type 0} {ghosts : Ghosts T Kind Op Delta} {keeping : Keeping K} (spelling : Spelling T Kind Op Delta) (code : Node T K Kind Op Delta ghosts keeping) (key : Text) (op : Op) (level : Level)
    (index : ℕ) (at : KeyState T Kind Op Delta) (found : IsFound (λ (state : KeyState T Kind Op Delta). bytes_eq state.name key) code.keys.items index) (is : at ≡ get_or code.keys.items index at)
    (kept : IsUndeleted ghosts at.entry) (fits : ghosts.data_type.fits (ghosts.kind_of at.entry.value) op ≡ true) (n : ℕ) (number : needed (level_meant level) (length code.view.members) ≡ Some n) (prepared : Prepared T Kind Op Delta ghosts) (none : prepared.view ≡ None) where
  -- a refusal
  pub prepares_refused : (told : Reply) → MeansUpdate ghosts code.id op at (Refused told) → prepared.plan ≡ Nothing → prepared.operations ≡ Same → prepared.output ≡ record { reply = told; posts = []; finished = None }
      → Prepares spelling code (input.Update key op level) prepared
  prepares_refused told means nothing same output = λ kinds logs node sent s sent_is safe.
      let digest = entry_digest spelling.history_byte spelling.history_spelled in
      let count = ap (λ (v : View). needed (level_meant level) (length v.members)) s.view ∙ number in
      let held = held_at ghosts.kind_of ghosts.IsDataOf kinds logs code node s index at found.within is in
      let u = means (logs at.name) (node.entries at.name) held.held.image held.logged (taken_if kinds logs code node s digest key (level_meant level) index at found is sent op sent_is (kept (logs at.name) (node.entries at.name) held.held.image) fits n count safe.taken) in
      prepared_answered kinds logs code node s prepared told none nothing same output _ (told_refused kinds logs code node s digest key (level_meant level) index at found is sent op sent_is (kept (logs at.name) (node.entries at.name) held.held.image) fits n count told u)

  module _ (entry : Envelope T Kind Op Delta) (next : NextRecord Delta) (own : IsOwnRecord ghosts code.id at entry next) (means : MeansUpdate ghosts code.id op at (Recorded entry next)) (plan : prepared.plan ≡ At index entry next) where
    -- a record that this member alone has to have
    pub prepares_done : n ≤ 1 → prepared.operations ≡ Same → prepared.output ≡ record { reply = reply.Done; posts = []; finished = None } → Prepares spelling code (input.Update key op level) prepared
    prepares_done few same output = λ kinds logs node sent s sent_is safe.
        let digest = entry_digest spelling.history_byte spelling.history_spelled in
        let count = ap (λ (v : View). needed (level_meant level) (length v.members)) s.view ∙ number in
        let held = held_at ghosts.kind_of ghosts.IsDataOf kinds logs code node s index at found.within is in
        let u = means (logs at.name) (node.entries at.name) held.held.image held.logged (taken_if kinds logs code node s digest key (level_meant level) index at found is sent op sent_is (kept (logs at.name) (node.entries at.name) held.held.image) fits n count safe.taken) in
        prepared_done kinds logs code node s digest key (level_meant level) index at found is sent op sent_is (kept (logs at.name) (node.entries at.name) held.held.image) fits n count entry next own u prepared none plan few same output

    -- one that others have to have
    pub prepares_pending : 1 < n → IsOpened code at.name false n (Write (length (known code.operations)) at.name entry) prepared → Prepares spelling code (input.Update key op level) prepared
    prepares_pending more o = λ kinds logs node sent s sent_is safe.
        let digest = entry_digest spelling.history_byte spelling.history_spelled in
        let count = ap (λ (v : View). needed (level_meant level) (length v.members)) s.view ∙ number in
        let held = held_at ghosts.kind_of ghosts.IsDataOf kinds logs code node s index at found.within is in
        let u = means (logs at.name) (node.entries at.name) held.held.image held.logged (taken_if kinds logs code node s digest key (level_meant level) index at found is sent op sent_is (kept (logs at.name) (node.entries at.name) held.held.image) fits n count safe.taken) in
        prepared_pending kinds logs code node s digest key (level_meant level) index at found is sent op sent_is (kept (logs at.name) (node.entries at.name) held.held.image) fits n count entry next own u prepared none plan more o

-- WHAT IS STORED

module _ {T Kind Op Delta : Type 0} (ghosts : Ghosts T Kind Op Delta) (spelling : Spelling T Kind Op Delta) (keys : List (KeyState T Kind Op Delta)) (plan : Plan T Kind Op Delta)
    (volatile : (k : ℕ) (d : KeyState T Kind Op Delta) (entry : Envelope T Kind Op Delta) → k < length keys → entry_in plan k ≡ Some entry → (get_or keys k d).durable ≡ false) where
  pub stores_none : AreStores ghosts spelling keys plan []
  stores_none kinds logs old next same same' held leads =
      subst (AreSpelled ghosts spelling logs []) (sym (put_none old next keys (λ k d within. at_place k d within (entry_in plan k) refl (leads.leads k d within))) ∙ put_all_keys old next keys same')
      (record { these = refl; kept = λ k d within. absurd (omega arith) })
    where
      at_place : (k : ℕ) (d : KeyState T Kind Op Delta) → k < length keys → (o : Option (Envelope T Kind Op Delta)) → entry_in plan k ≡ o
          → StandsAfter ghosts.IsDataOf (logs (get_or keys k d).name) o (old.entries (get_or keys k d).name) (next.entries (get_or keys k d).name)
          → stored_of (get_or keys k d) (old.entries (get_or keys k d).name) (next.entries (get_or keys k d).name) ≡ []
      at_place k d within None is still =
          let name = (get_or keys k d).name in
          stored_same (get_or keys k d) (old.entries name) (next.entries name) (ap (is_unchanged (old.entries name)) still ∙ is_unchanged-same (old.entries name))
      at_place k d within (Some entry) is after = stored_not (get_or keys k d) (old.entries (get_or keys k d).name) (next.entries (get_or keys k d).name) (volatile k d entry within is)

-- IN ITS PLACE

-- where memory was refused
module _ {T K Kind Op Delta : Type 0} {ghosts : Ghosts T Kind Op Delta} {keeping : Keeping K} (code : Node T K Kind Op Delta ghosts keeping) (index : ℕ) (at : KeyState T Kind Op Delta) (there : at ≡ get_or code.keys.items index at)
    (after : KeyState T Kind Op Delta) (same : after ≡ at) where
  pub keys_still : set code.keys.items index after ≡ code.keys.items
  keys_still = ap (set code.keys.items index) (same ∙ there) ∙ set-get_or code.keys.items index at

  pub owned_still : AreOwned ghosts code.id code.steps (set code.keys.items index after)
  owned_still = subst (AreOwned ghosts code.id code.steps) (sym keys_still) (owned code)

-- where the operation was made, or is refused
module _ {T K Kind Op Delta : Type 0} {ghosts : Ghosts T Kind Op Delta} {keeping : Keeping K} (spelling : Spelling T Kind Op Delta) (old : Node T K Kind Op Delta ghosts keeping) (key : Text) (op : Op) (level : Level) (index : ℕ)
    (here : IsInPlace old key op level index) (at : KeyState T Kind Op Delta) (there : at ≡ get_or old.keys.items index at) (became : Applied) (after : KeyState T Kind Op Delta) (applied : IsApplied ghosts old.id op at became after) where
  abbrev as_planned : Plan T Kind Op Delta → Prepared T Kind Op Delta ghosts
  as_planned plan = record { view = None; plan = plan; operations = Same; output = output_of became }

  -- the keys are as if the step had been prepared with this plan, and nothing has to be stored
  record IsAsPlanned (plan : Plan T Kind Op Delta) : Type 0 where
    sound : IsSoundFor old (as_planned plan)
    prepares : Prepares spelling old (input.Update key op level) (as_planned plan)
    planned : IsPlanned old.keys.items plan (set old.keys.items index after)
    stores : AreStores ghosts spelling old.keys.items plan []

  found : IsFound (λ (state : KeyState T Kind Op Delta). bytes_eq state.name key) old.keys.items index
  found = position-found (λ (state : KeyState T Kind Op Delta). bytes_eq state.name key) old.keys.items index here.found

  refused_planned : (told : Reply) → IsOwn ghosts old.id here.at (Refused told) → MeansUpdate ghosts old.id op here.at (Refused told) → Becomes here.at (Refused told) became after → IsAsPlanned Nothing
  refused_planned told own means becomes =
      let output : output_of became ≡ record { reply = told; posts = []; finished = None } = ap (λ r. record { reply = r; posts = []; finished = None }) becomes.1 in
      record {
        sound = sound_told old (as_planned Nothing) told refl refl output own;
        prepares = prepares_refused spelling old key op level index here.at found here.there here.undeleted (open_fits ghosts here.at.entry.value op here.fits) here.number here.enough (as_planned Nothing) refl told means refl refl output;
        planned = ap (set old.keys.items index) (becomes.0 ∙ here.there) ∙ set-get_or old.keys.items index here.at;
        stores = stores_none ghosts spelling old.keys.items Nothing (λ k d entry within is. absurd (cc is));
      }

  -- the key whose entry is another is not durable
  volatile : (entry : Envelope T Kind Op Delta) (next : NextRecord Delta) (k : ℕ) (d : KeyState T Kind Op Delta) (other : Envelope T Kind Op Delta) → k < length old.keys.items → entry_in (At index entry next) k ≡ Some other → (get_or old.keys.items k d).durable ≡ false
  volatile entry next k d other within changed = elim (cases_eq index k) [
    | inl same ↦
        subst (λ (state : KeyState T Kind Op Delta). state.durable ≡ false)
        (here.there ∙ get_or_default old.keys.items index here.at d found.within ∙ ap (λ j. get_or old.keys.items j d) same) here.volatile
    | inr apart ↦ absurd (let test : (index == k) ≡ false = grind arith in cc (changed, ap (λ b. if b then Some entry else None) test))
  ]

  recorded_so : (entry : Envelope T Kind Op Delta) (next : NextRecord Delta) → IsOwn ghosts old.id here.at (Recorded entry next) → MeansUpdate ghosts old.id op here.at (Recorded entry next) → Becomes here.at (Recorded entry next) became after
      → IsAsPlanned (At index entry next)
  recorded_so entry next own means becomes =
      let output = ap (λ b. record { reply = reply_of b; posts = []; finished = None }) becomes.1 in
      record {
        sound = sound_as old (as_planned (At index entry next)) (sound_recorded old index here.at entry next found.within here.there own) refl (ap (λ b. is_pending (reply_of b)) becomes.1);
        prepares = prepares_done spelling old key op level index here.at found here.there here.undeleted (open_fits ghosts here.at.entry.value op here.fits) here.number here.enough (as_planned (At index entry next)) refl entry next own means refl here.alone refl output;
        planned = (here.at, here.there, ap (set old.keys.items index) becomes.0);
        stores = stores_none ghosts spelling old.keys.items (At index entry next) (volatile entry next);
      }

  by_update : (u : Updated T Kind Op Delta) → IsOwn ghosts old.id here.at u → MeansUpdate ghosts old.id op here.at u → Becomes here.at u became after → (plan : Plan T Kind Op Delta) × IsAsPlanned plan
  by_update (Refused told) own means becomes = (Nothing, refused_planned told own means becomes)
  by_update (Recorded entry next) own means becomes = (At index entry next, recorded_so entry next own means becomes)

  as_prepared : (plan : Plan T Kind Op Delta) × IsAsPlanned plan
  as_prepared =
      let same : at ≡ here.at = there ∙ get_or_default old.keys.items index at here.at found.within ∙ sym here.there in
      let applied_there = subst (λ (state : KeyState T Kind Op Delta). IsApplied ghosts old.id op state became after) same applied in
      by_update applied_there.updated applied_there.owned applied_there.means applied_there.becomes

  pub owned_in_place : AreOwned ghosts old.id (old.steps + 1) (set old.keys.items index after)
  owned_in_place = as_prepared.1.sound.plan.owned (set old.keys.items index after) as_prepared.1.planned

  pub steps_in_place : (sent : Input T Kind Op Delta ghosts) → sent ≡ input.Update key op level → (new : Node T K Kind Op Delta ghosts keeping) → old.steps < old.limit → new.keys.items ≡ set old.keys.items index after → known new.operations ≡ known old.operations → new.view ≡ old.view → new.steps ≡ old.steps + 1 → new.limit ≡ old.limit → new.id ≡ old.id → new.keeper ≡ old.keeper
      → IsStepOf spelling old sent NoStore (output_of became) new
  steps_in_place sent is new few keys operations view steps limit id keeper =
      let plan = as_prepared.0 in
      let so = as_prepared.1 in
      subst (λ (i : Input T Kind Op Delta ghosts). IsStepOf spelling old i NoStore (output_of became) new) (sym is) (makes_step spelling old (as_planned plan) so.sound NoStore new
      (record {
        planned = subst (IsPlanned old.keys.items plan) (sym keys) so.planned;
        operated = operations;
        viewed = view;
        counted = steps;
        limit = limit;
        identity = id;
        items = [];
        nothing = λ nothing. refl;
        stores = so.stores;
        kept = (refl, keeper);
      }) few (input.Update key op level) so.prepares)
