-- What a member that has declared a part of the keys takes of a message.
--     TakesPart        it is a message of the model, of which the member takes what is said of its keys
--     takes_part        so it is for what stands for a message of the model
use Rattle.std.proofs.Common.{◌≡◌, ℕ, List, [], ◌∷◌, refl, sym, ap, subst, ◌∙◌, Bool, Option, Some, None, inl, inr, map, filter, if◌then◌else◌}
use Rattle.std.specs.Prelude.{IsFalse}
use Rattle.std.specs.List.{AllZip}
use Rattle.std.proofs.lemmas.Bool.{cases_Bool}
use Rattle.model_history.specs.Texts.{Text}
use Rattle.model_history.specs.History.{History}
use Rattle.model_members.specs.DataType.{Replication}
use Rattle.model_members.specs.Entry as model
use Rattle.model_members.specs.Message as sending
use Rattle.model_members.specs.Message.{Message as Sent, part_of}
use Rattle.model_members.specs.Node as nodes
use Rattle.model_members.specs.Node.{Input, Fate, Stepped, one_step_later}
use Rattle.model_members.specs.Node.Reply.{NotFromMember}
use Rattle.model_members.specs.Step.{step, answered}
use Rattle.model_members.specs.View.{is_member}
use Rattle.model_kinds.specs.declared.operation.Op.{Op}
use Rattle.model_kinds.specs.declared.shown.Shown.{Shown}
use Rattle.data_lattice.specs.declared.replica.Replica.{Ghosts}
use Rattle.data_envelope.specs.declared.envelope.Envelope.{Envelope}
use Rattle.data_envelope.specs.declared.group.Group.{Group}
use Rattle.member_messages.specs.declared.message.Keyed.{Keyed}
use Rattle.member_messages.specs.declared.message.Message.{Message}
use Rattle.member_messages.specs.declared.message.Message.TheVariants.{Deltas, Nack, Status, Gossip, Write, WriteAck, WriteNack, Read, ReadAnswer}
use Rattle.member_messages.specs.Standing.{digest_told, StandsForKeyed, StandsForKeyedGroup}
use Rattle.member_node.specs.declared.key.KeyState.{KeyState}
use Rattle.member_node.specs.Inputs.{Tells, IsEntryPassedOver, IsGroupPassedOver, StandsForTaken}
use Rattle.member_node.specs.Inputs.Tells.{nothing, told, passed_over}
use Rattle.member_node.specs.Keys.{declared_by}
use Rattle.member_node.specs.Members.{StandsForMessage}
use Rattle.theorem_declaring.specs.Parts.{knows, with_keys}
use Rattle.theorem_processes.specs.Keys.{AsksOnly}
use Rattle.theorem_processes.proofs.Messages.{status_part, unasked}
use Rattle.theorem_processes.proofs.Parts.{no_state}

module _ {T Kind Delta : Type 0} (states : List (KeyState T Kind Op Delta)) where
  abbrev keys : List (nodes.KeyDecl Kind)
  keys = map declared_by states

  abbrev known : Text → Bool
  known = knows keys

  -- the items of known keys are told, and the others passed over
  tells_part : {X Y : Type 0} (Stands : X → sending.Keyed Y → Type 0) (IsPassedOver : X → Type 0) → ((x : X) (y : sending.Keyed Y) → Stands x y → IsFalse (known y.key) → IsPassedOver x) → (xs : List X) (ys : List (sending.Keyed Y)) → AllZip Stands xs ys
      → Tells Stands IsPassedOver xs (filter (λ (y : sending.Keyed Y). known y.key) ys)
  tells_part Stands IsPassedOver passes [] [] all = nothing
  tells_part Stands IsPassedOver passes [] (y ∷ ys) all = absurd all
  tells_part Stands IsPassedOver passes (x ∷ xs) [] all = absurd all
  tells_part Stands IsPassedOver passes (x ∷ xs) (y ∷ ys) all =
      let rest = tells_part Stands IsPassedOver passes xs ys all.1 in
      let others = filter (λ (z : sending.Keyed _). known z.key) ys in
      elim (cases_Bool (known y.key)) [
        | inl here ↦ subst (λ (b : Bool). Tells Stands IsPassedOver (x ∷ xs) (if b then y ∷ others else others)) (sym here) (told x y xs others all.0 rest)
        | inr other ↦ subst (λ (b : Bool). Tells Stands IsPassedOver (x ∷ xs) (if b then y ∷ others else others)) (sym other) (passed_over x xs others (passes x y all.0 other) rest)
      ]

  takes_status : (D : Replication Kind Op Shown) (node : nodes.Node Kind Op Shown) (from : ℕ) (fate : Fate) (digests : List (sending.Keyed (List ℕ)))
      → step D (with_keys keys node) (Input.Take from (Sent.Status digests)) fate ≡ step D (with_keys keys node) (Input.Take from (part_of known (Sent.Status digests))) fate
  takes_status D node from fate digests =
      ap (λ (s : Stepped Kind Op Shown). if is_member node.view from then s else answered (one_step_later (with_keys keys node)) NotFromMember) (status_part D (one_step_later (with_keys keys node)) from fate digests)

  takes_nothing : (D : Replication Kind Op Shown) (node : nodes.Node Kind Op Shown) (from : ℕ) (fate : Fate) (op : ℕ) (key : Text) → IsFalse (known key) → AsksOnly keys node
      → step D (with_keys keys node) (Input.Take from (Sent.ReadAnswer op key None)) fate ≡ step D (with_keys keys node) (Input.Take from (Sent.Deltas [] [])) fate
  takes_nothing D node from fate op key unknown asks =
      ap (λ (s : Stepped Kind Op Shown). if is_member node.view from then s else answered (one_step_later (with_keys keys node)) NotFromMember) (unasked D (one_step_later (with_keys keys node)) from fate op key unknown asks)

-- of a message that may be of no known key, the part is the whole, or nothing
abbrev if_known : Sent Op → Bool → Sent Op
if_known sent b = if b then sent else Sent.Deltas [] []

-- WHAT IS PASSED OVER

module _ {T Kind Delta : Type 0} (ghosts : Ghosts T Kind Op Delta) (kinds : Text → Kind) (logs : Text → History Op) (states : List (KeyState T Kind Op Delta)) where
  entry_passes : (key : Text) (x : Keyed (Envelope T Kind Op Delta)) → key ≡ x.key → IsFalse (known states key) → IsEntryPassedOver ghosts states x
  entry_passes key x same unknown k d within named = absurd (no_state states key unknown k d within (named ∙ sym same))

  group_passes : (x : Keyed (Group T Kind Op Delta ghosts)) (y : sending.Keyed (model.Group Op)) → StandsForKeyedGroup kinds logs x y → IsFalse (known states y.key) → IsGroupPassedOver ghosts states x
  group_passes x y stands unknown k d within named = absurd (no_state states y.key unknown k d within (named ∙ sym stands.same))

  abbrev tells_entries : (entries : List (Keyed (Envelope T Kind Op Delta))) (sent : List (sending.Keyed (model.Entry Op))) → AllZip (StandsForKeyed ghosts.kind_of ghosts.IsDataOf kinds logs) entries sent
      → Tells (StandsForKeyed ghosts.kind_of ghosts.IsDataOf kinds logs) (IsEntryPassedOver ghosts states) entries (filter (λ (y : sending.Keyed (model.Entry Op)). known states y.key) sent)
  tells_entries entries sent all = tells_part states (StandsForKeyed ghosts.kind_of ghosts.IsDataOf kinds logs) (IsEntryPassedOver ghosts states) (λ x y stands unknown. entry_passes y.key x stands.same unknown) entries sent all

-- WHAT IS TAKEN

module _ {T Kind Delta : Type 0} {ghosts : Ghosts T Kind Op Delta} (kinds : Text → Kind) (logs : Text → History Op) (states : List (KeyState T Kind Op Delta)) where
  -- what is read stands for a message of the model, at which a member with these keys makes the step of what is said of them
  pub record TakesPart (read : Message T Kind Op Delta ghosts) (sent : Sent Op) : Type 0 where
    pub taken : Sent Op
    pub stands : StandsForTaken kinds logs states read taken
    pub same : (D : Replication Kind Op Shown) (node : nodes.Node Kind Op Shown) → AsksOnly (keys states) node → (from : ℕ) (fate : Fate) → step D (with_keys (keys states) node) (Input.Take from taken) fate ≡ step D (with_keys (keys states) node) (Input.Take from (part_of (known states) sent)) fate

  -- the message itself is taken
  itself : (read : Message T Kind Op Delta ghosts) (sent : Sent Op) → part_of (known states) sent ≡ sent → StandsForTaken kinds logs states read sent → TakesPart read sent
  itself read sent whole stands =
      record { taken = sent; stands = stands; same = λ D node asks from fate. ap (λ (m : Sent Op). step D (with_keys (keys states) node) (Input.Take from m) fate) (sym whole) }

  -- an answer for a key that is not known brings nothing
  answers_nothing : (read : Message T Kind Op Delta ghosts) (op : ℕ) (key : Text) (entry : Option (model.Entry Op)) → IsFalse (known states key) → StandsForTaken kinds logs states read (Sent.ReadAnswer op key None) → TakesPart read (Sent.ReadAnswer op key entry)
  answers_nothing read op key entry unknown stands =
      record {
        taken = Sent.ReadAnswer op key None;
        stands = stands;
        same = λ D node asks from fate. takes_nothing states D node from fate op key unknown asks
            ∙ ap (λ (b : Bool). step D (with_keys (keys states) node) (Input.Take from (if_known (Sent.ReadAnswer op key entry) b)) fate) (sym unknown);
      }

  pub takes_part : (read : Message T Kind Op Delta ghosts) (sent : Sent Op) → StandsForMessage ghosts.kind_of ghosts.IsDataOf kinds logs read sent → TakesPart read sent
  takes_part (Deltas groups entries) sent s =
      subst (TakesPart (Deltas groups entries)) (sym s.is)
      (record {
        taken = part_of (known states) (Sent.Deltas s.sent_groups s.sent_entries);
        stands = record {
          told_groups = filter (λ (y : sending.Keyed (model.Group Op)). known states y.key) s.sent_groups;
          told_entries = filter (λ (y : sending.Keyed (model.Entry Op)). known states y.key) s.sent_entries;
          is = refl;
          groups_stand = tells_part states (StandsForKeyedGroup kinds logs) (IsGroupPassedOver ghosts states) (group_passes ghosts kinds logs states) groups s.sent_groups s.groups_stand;
          entries_stand = tells_entries ghosts kinds logs states entries s.sent_entries s.entries_stand;
        };
        same = λ D node asks from fate. refl;
      })
  takes_part (Nack names) sent s = subst (TakesPart (Nack names)) (sym s) (itself (Nack names) (Sent.Nack names) refl refl)
  takes_part (Status digests) sent s =
      subst (TakesPart (Status digests)) (sym s)
      (record {
        taken = Sent.Status (map digest_told digests);
        stands = refl;
        same = λ D node asks from fate. takes_status states D node from fate (map digest_told digests);
      })
  takes_part (Gossip entries wants) sent s =
      subst (TakesPart (Gossip entries wants)) (sym s.is)
      (record {
        taken = part_of (known states) (Sent.Gossip s.sent_entries wants);
        stands = record { told_entries = filter (λ (y : sending.Keyed (model.Entry Op)). known states y.key) s.sent_entries; is = refl; entries_stand = tells_entries ghosts kinds logs states entries s.sent_entries s.entries_stand };
        same = λ D node asks from fate. refl;
      })
  takes_part (Write op key envelope) sent s =
      subst (TakesPart (Write op key envelope)) (sym s.is)
      (elim (cases_Bool (known states key)) [
        | inl here ↦
            itself (Write op key envelope) (Sent.Write op key s.entry) (ap (if_known (Sent.Write op key s.entry)) here)
            (record {
              told_entries = record { key = key; item = s.entry } ∷ [];
              entries_stand = told (record { key = key; item = envelope }) (record { key = key; item = s.entry }) [] [] (record { same = refl; held = s.held }) nothing;
              is = refl;
            })
        | inr other ↦
            record {
              taken = Sent.Deltas [] [];
              stands = record { told_entries = []; entries_stand = passed_over (record { key = key; item = envelope }) [] [] (entry_passes ghosts kinds logs states key (record { key = key; item = envelope }) refl other) nothing; is = refl };
              same = λ D node asks from fate. ap (λ (b : Bool). step D (with_keys (keys states) node) (Input.Take from (if_known (Sent.Write op key s.entry) b)) fate) (sym other);
            }
      ])
  takes_part (WriteAck op) sent s = subst (TakesPart (WriteAck op)) (sym s) (itself (WriteAck op) (Sent.WriteAck op) refl refl)
  takes_part (WriteNack op) sent s = subst (TakesPart (WriteNack op)) (sym s) (itself (WriteNack op) (Sent.WriteNack op) refl refl)
  takes_part (Read op key) sent s = subst (TakesPart (Read op key)) (sym s) (itself (Read op key) (Sent.Read op key) refl refl)
  takes_part (ReadAnswer op key None) sent s =
      subst (TakesPart (ReadAnswer op key None)) (sym s)
      (let stands : StandsForTaken kinds logs states (ReadAnswer op key None) (Sent.ReadAnswer op key None) = record { entry = None; entries_stand = nothing; is = refl } in
      elim (cases_Bool (known states key)) [
        | inl here ↦ itself (ReadAnswer op key None) (Sent.ReadAnswer op key None) (ap (if_known (Sent.ReadAnswer op key None)) here) stands
        | inr other ↦ answers_nothing (ReadAnswer op key None) op key None other stands
      ])
  takes_part (ReadAnswer op key (Some envelope)) sent s =
      subst (TakesPart (ReadAnswer op key (Some envelope))) (sym s.is)
      (elim (cases_Bool (known states key)) [
        | inl here ↦
            itself (ReadAnswer op key (Some envelope)) (Sent.ReadAnswer op key (Some s.entry)) (ap (if_known (Sent.ReadAnswer op key (Some s.entry))) here)
            (record {
              entry = Some s.entry;
              entries_stand = told (record { key = key; item = envelope }) (record { key = key; item = s.entry }) [] [] (record { same = refl; held = s.held }) nothing;
              is = refl;
            })
        | inr other ↦
            answers_nothing (ReadAnswer op key (Some envelope)) op key (Some s.entry) other
            (record { entry = None; entries_stand = passed_over (record { key = key; item = envelope }) [] [] (entry_passes ghosts kinds logs states key (record { key = key; item = envelope }) refl other) nothing; is = refl })
      ])
