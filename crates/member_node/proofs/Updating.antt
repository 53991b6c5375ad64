-- Updates and gets in the model.
-- What the model makes of an update and of a get, by the key and the number of members that have to answer.
-- What an entry means, by whether it has records and whether one of them deletes.
-- An own operation that was made a record of its entry, or refused, is what the model makes of the entry.
use Rattle.std.proofs.Common.{◌≡◌, ℕ, refl, ap, ◌∙◌, true, false, Bool, Option, Some, None, nat_le, if◌then◌else◌, option_map, find, bytes_eq, inl, inr, sym, ◌+◌, ◌<◌, ◌^◌, subst, arith}
use Rattle.member_node.proofs.Common.{Text, History, at, IsTakenFrom, with_action, Replication, HasKey, needed, state_of, one_step_later, NoStore, step, answered, opened, has_records, Shown, number_at, Ghosts, Envelope, StandsFor, parts_of, NextRecord, StandsForLog, KeyState, Reply, meant}
use Rattle.model_history.specs.History.Action.{Operation}
use Rattle.model_meanings.specs.Refusal.{Refusal}
use Rattle.model_meanings.specs.Refusal.Refusal.{Overflow, ClockSpent, SetFull}
use Rattle.model_members.specs.Entry.{Entry}
use Rattle.model_members.specs.DataType.{IsDeleted, Shows, meaning}
use Rattle.model_members.specs.Node as nodes
use Rattle.model_members.specs.Node.{KeyDecl, Node, Input, Level, with_entry, Reply as Meant}
use Rattle.model_members.specs.Node.Reply.{Done, UnknownKey, Deleted, WrongKind, TooFew}
use Rattle.model_members.specs.Message.Message.{Write}
use Rattle.model_members.specs.Step.{member_count}
use Rattle.model_members.proofs.Steps.{with_text_at-same}
use Rattle.model_members.proofs.Cases.{accepted, updated, updated_undeleted, updated_unless, updated_needing, got, got_needing}
use Rattle.data_lattice.specs.declared.answers.ApplyError.{ApplyError}
use Rattle.data_lattice.specs.declared.answers.ApplyError.TheVariants.{Memory}
use Rattle.data_lattice.specs.Refusals.{error_of, IsApplyRefusal}
use Rattle.data_deltalog.specs.Contents.{appended, IsDeltaFor}
use Rattle.data_deltalog.proofs.Keeping.{stands_operation}
use Rattle.member_node.specs.declared.key.Updated.TheVariants.{Refused, Recorded}
use Rattle.member_node.specs.Own.{IsLogged}
use Rattle.member_node.specs.Recording.{IsRecorded, StandsForRecorded}
use Rattle.member_node.specs.Showing.{meaning_of}
use Rattle.member_node.specs.Updates.{IsOwnRecord, refusal_at, MeansUpdate}

-- BY THE KEY AND THE NUMBER OF MEMBERS

no_memory : (refusal : Refusal) → Memory ≡ error_of refusal → ⊥
no_memory (Overflow share amount) e = cc e
no_memory _ e = cc e

same_refusal : (one two : Refusal) → error_of one ≡ error_of two → one ≡ two
same_refusal (Overflow share amount) (Overflow share' amount') e = cc e
same_refusal (Overflow share amount) ClockSpent e = absurd (cc e)
same_refusal (Overflow share amount) SetFull e = absurd (cc e)
same_refusal ClockSpent (Overflow share amount) e = absurd (cc e)
same_refusal ClockSpent ClockSpent e = refl
same_refusal ClockSpent SetFull e = absurd (cc e)
same_refusal SetFull (Overflow share amount) e = absurd (cc e)
same_refusal SetFull ClockSpent e = absurd (cc e)
same_refusal SetFull SetFull e = refl

-- an error that is not for want of memory tells how it is refused
pub refused_so : (meant : Option Refusal) (error : ApplyError) (refusal : Refusal) → IsApplyRefusal meant error → error ≡ error_of refusal → meant ≡ Some refusal
refused_so meant error refusal (inl memory) is = absurd (no_memory refusal (sym memory ∙ is))
refused_so None error refusal (inr told) is = absurd (cc told)
refused_so (Some other) error refusal (inr told) is =
    let same : error_of other ≡ error = cc told in
    ap Some (same_refusal other refusal (same ∙ is))

module _ {Kind Op Shown : Type 0} (D : Replication Kind Op Shown) (node : Node Kind Op Shown) (key : Text) (level : Level) where
  abbrev later : Node Kind Op Shown
  later = one_step_later node

  -- A KEY THAT IS NOT DECLARED

  module _ (undeclared : find (λ (decl : KeyDecl Kind). bytes_eq decl.name key) node.keys ≡ None) where
    pub update_undeclared : (op : Op) → step D node (Input.Update key op level) NoStore ≡ answered (one_step_later node) UnknownKey
    update_undeclared op = ap (λ o. updated D (one_step_later node) (option_map (state_of (one_step_later node)) o) op level NoStore) undeclared

    pub get_undeclared : step D node (Input.Get key level) NoStore ≡ answered (one_step_later node) UnknownKey
    get_undeclared = ap (λ o. got D (one_step_later node) (option_map (state_of (one_step_later node)) o) level) undeclared

  -- ONE THAT IS

  module _ (kind : Kind) (has : HasKey node key kind) where
    abbrev state : nodes.KeyState Kind Op
    state = state_of (one_step_later node) (record { name = key; kind = kind; durable = has.0 })

    module _ (op : Op) where
      by_delete : (b : Bool) → D.data_type.deleted (node.entries key).history ≡ b → step D node (Input.Update key op level) NoStore ≡ (if b then answered (one_step_later node) Deleted else updated_undeleted D (one_step_later node) state op level NoStore)
      by_delete b is =
          ap (λ o. updated D (one_step_later node) (option_map (state_of (one_step_later node)) o) op level NoStore) has.1
          ∙ ap (λ b. if b then answered (one_step_later node) Deleted else updated_undeleted D (one_step_later node) state op level NoStore) is

      pub update_deleted : D.data_type.deleted (node.entries key).history ≡ true → step D node (Input.Update key op level) NoStore ≡ answered (one_step_later node) Deleted
      update_deleted deleted = by_delete true deleted

    module _ (op : Op) (kept : D.data_type.deleted (node.entries key).history ≡ false) where
      by_kind : (b : Bool) → D.data_type.fits kind op ≡ b → step D node (Input.Update key op level) NoStore ≡ (if b then updated_needing D (one_step_later node) state op (needed level (member_count node)) NoStore else answered (one_step_later node) WrongKind)
      by_kind b is =
          by_delete op false kept
          ∙ ap (λ b. if b then updated_needing D (one_step_later node) state op (needed level (member_count node)) NoStore else answered (one_step_later node) WrongKind) is

      pub update_unfit : D.data_type.fits kind op ≡ false → step D node (Input.Update key op level) NoStore ≡ answered (one_step_later node) WrongKind
      update_unfit unfit = by_kind false unfit

      module _ (fits : D.data_type.fits kind op ≡ true) where
        pub update_too_few : needed level (member_count node) ≡ None → step D node (Input.Update key op level) NoStore ≡ answered (one_step_later node) TooFew
        update_too_few none = by_kind true fits ∙ ap (λ o. updated_needing D (one_step_later node) state op o NoStore) none

        module _ (n : ℕ) (number : needed level (member_count node) ≡ Some n) where
          by_number : step D node (Input.Update key op level) NoStore ≡ updated_unless D (one_step_later node) state op n NoStore (D.data_type.refusal kind node.identity op (node.entries key).history)
          by_number = by_kind true fits ∙ ap (λ o. updated_needing D (one_step_later node) state op o NoStore) number

          pub update_refused : (refusal : Refusal) → D.data_type.refusal kind node.identity op (node.entries key).history ≡ Some refusal → step D node (Input.Update key op level) NoStore ≡ answered (one_step_later node) (Meant.Refused refusal)
          update_refused refusal refuses = by_number ∙ ap (updated_unless D (one_step_later node) state op n NoStore) refuses

          pub update_accepted : D.data_type.refusal kind node.identity op (node.entries key).history ≡ None
              → step D node (Input.Update key op level) NoStore ≡ accepted D (one_step_later node) key n NoStore (with_action (node.entries key) node.identity (Operation op))
          update_accepted unrefused = by_number ∙ ap (updated_unless D (one_step_later node) state op n NoStore) unrefused

          -- whether it is done or opened
          pub update_entry : D.data_type.refusal kind node.identity op (node.entries key).history ≡ None → (step D node (Input.Update key op level) NoStore).node.entries key ≡ with_action (node.entries key) node.identity (Operation op)
          update_entry unrefused = ap (λ st. st.node.entries key) (update_accepted unrefused) ∙ go (nat_le n 1)
            where
              go : (b : Bool) → (if b then answered (with_entry (one_step_later node) key (with_action (node.entries key) node.identity (Operation op))) Done
                  else opened (with_entry (one_step_later node) key (with_action (node.entries key) node.identity (Operation op))) key false n (Write node.next_op key (with_action (node.entries key) node.identity (Operation op)))).node.entries key
                  ≡ with_action (node.entries key) node.identity (Operation op)
              go true = with_text_at-same node.entries key (with_action (node.entries key) node.identity (Operation op))
              go false = with_text_at-same node.entries key (with_action (node.entries key) node.identity (Operation op))

    pub get_too_few : needed level (member_count node) ≡ None → step D node (Input.Get key level) NoStore ≡ answered (one_step_later node) TooFew
    get_too_few none =
        ap (λ o. got D (one_step_later node) (option_map (state_of (one_step_later node)) o) level) has.1 ∙ ap (got_needing D (one_step_later node) state) none

    pub get_needing : (n : ℕ) → needed level (member_count node) ≡ Some n → step D node (Input.Get key level) NoStore ≡ got_needing D (one_step_later node) state (Some n)
    get_needing n number =
        ap (λ o. got D (one_step_later node) (option_map (state_of (one_step_later node)) o) level) has.1 ∙ ap (got_needing D (one_step_later node) state) number

-- WHAT AN ENTRY MEANS

module _ {T Kind Op Delta : Type 0} (ghosts : Ghosts T Kind Op Delta) (kind : Kind) (held : Entry Op) where
  pub means_nothing : false ≡ has_records held → None ≡ meaning_of ghosts kind held
  means_nothing none = ap (λ b. if b then Some (meaning ghosts.data_type kind held.history) else None) none

  means_more : true ≡ has_records held → Some (meaning ghosts.data_type kind held.history) ≡ meaning_of ghosts kind held
  means_more some = ap (λ b. if b then Some (meaning ghosts.data_type kind held.history) else None) some

  pub means_deleted : true ≡ has_records held → true ≡ ghosts.data_type.deleted held.history → Some IsDeleted ≡ meaning_of ghosts kind held
  means_deleted some deleted = ap (λ b. Some (if b then IsDeleted else Shows (ghosts.data_type.shown kind held.history))) deleted ∙ means_more some

  pub means_shown : true ≡ has_records held → false ≡ ghosts.data_type.deleted held.history → (shown : Shown) → shown ≡ ghosts.data_type.shown kind held.history → Some (Shows shown) ≡ meaning_of ghosts kind held
  means_shown some kept shown is =
      ap (λ shown. Some (Shows shown)) is ∙ ap (λ b. Some (if b then IsDeleted else Shows (ghosts.data_type.shown kind held.history))) kept ∙ means_more some

-- OF AN ENTRY

module _ {T Kind Op Delta : Type 0} (ghosts : Ghosts T Kind Op Delta) (id : ℕ) (op : Op) (state : KeyState T Kind Op Delta) where
  -- A RECORD

  module _ (entry : Envelope T Kind Op Delta) (next : NextRecord Delta) where
    pub own_record : IsLogged ghosts.kind_of id state → number_at (parts_of state.entry).versions id < 2 ^ 62 → IsRecorded ghosts id state.log state.entry entry next → IsOwnRecord ghosts id state entry next
    own_record logged small made = record {
      recordable = record {
        small = (let l = logged.last in omega arith);
        fits = subst (λ kind. IsDeltaFor ghosts.IsOfOrigin ghosts.delta_fits_kind kind state.log.origin next.delta) (sym logged.kind)
            (subst (λ i. IsDeltaFor ghosts.IsOfOrigin ghosts.delta_fits_kind (ghosts.kind_of state.entry.value) i next.delta) (sym logged.origin) made.fits);
        room = made.room;
      };
      number = made.number;
      marks = made.marks;
      kind = made.kind;
    }

    pub means_record : IsLogged ghosts.kind_of id state
        → ((log : History Op) (held : Entry Op) → StandsFor ghosts.IsDataOf (parts_of state.entry) log held → refusal_at ghosts id op state held ≡ None)
        → ((log : History Op) (held : Entry Op) → StandsFor ghosts.IsDataOf (parts_of state.entry) log held → IsTakenFrom log (with_action held id (Operation op)).history → StandsForRecorded ghosts state.log log id op held entry next)
        → MeansUpdate ghosts id op state (Recorded entry next)
    means_record logged unrefused image = λ log held s stands taken.
        let from_log = taken (unrefused log held s) in
        let made = image log held s from_log in
        let longer = stands_operation ghosts.IsDeltaOf state.log log held op next.before next.delta made.made stands
        (subst (λ i. IsTakenFrom log (with_action held i (Operation op)).history) (sym logged.origin) from_log) made.known made.some
        (subst (λ i. ghosts.IsDeltaOf made.made log i (at held.history i) (at held.history i + 1)) (sym logged.origin) made.delta) in
        record {
          unrefused = unrefused log held s;
          image = made.entry;
          logged = subst (λ i. StandsForLog ghosts.IsDeltaOf (appended state.log next.before next.delta) log (with_action held i (Operation op))) logged.origin longer;
        }

  -- A REFUSAL

  pub means_refusal : (error : ApplyError) (refusal : Refusal) (told : Reply) → error ≡ error_of refusal → meant told ≡ Meant.Refused refusal
      → ((log : History Op) (held : Entry Op) → StandsFor ghosts.IsDataOf (parts_of state.entry) log held → IsApplyRefusal (refusal_at ghosts id op state held) error) → MeansUpdate ghosts id op state (Refused told)
  means_refusal error refusal told is tells refused = λ log held s stands taken. record {
    refusal = refusal;
    refuses = refused_so (refusal_at ghosts id op state held) error refusal (refused log held s) is;
    told = tells;
  }
