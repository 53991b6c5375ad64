-- An update makes its record, or changes no entry; its answer tells which.
use Rattle.std.proofs.Common.{◌≡◌, ◌≢◌, ℕ, List, [], ◌∷◌, ◌++◌, refl, sym, ap, subst, ◌∙◌, true, false, Option, Some, None, inl, inr}
use Rattle.std.specs.Prelude.{if◌then◌else◌, find, option_map, nat_le}
use Rattle.std.specs.Str.{bytes_eq}
use Rattle.model_history.specs.Table.{with_at}
use Rattle.model_history.specs.Texts.{Text}
use Rattle.model_history.specs.History.{Record, History, versions, IsExactlyPruned}
use Rattle.model_history.specs.History.Action.{Operation}
use Rattle.model_history.proofs.HistoryLaws.{with_at_same}
use Rattle.model_history.proofs.PruneLaws.{found}
use Rattle.model_meanings.specs.Refusal.{Refusal}
use Rattle.model_members.specs.Entry.{Entry, with_action}
use Rattle.model_members.specs.DataType.{Replication}
use Rattle.model_members.specs.Node.{KeyDecl, KeyState, Node, Level, Fate, Stepped, state_of, needed, with_text_at, one_step_later}
use Rattle.model_members.specs.Node.Input.{Update}
use Rattle.model_members.specs.Step.{step, member_count, has_failed}
use Rattle.model_members.specs.Script.{Ask, ScriptStep}
use Rattle.model_members.specs.Script.Answer.{Replied}
use Rattle.model_members.proofs.Cases.{accepted, updated, updated_needing, updated_unless}
use Rattle.model_members.proofs.Steps.{with_text_at-same}
use Rattle.theorem_runs.proofs.Keeping.{if_holds, if_tells, same_text}
use Rattle.model_traces.specs.Traces.{TraceLine, TraceState, recorded, after_line}
use Rattle.model_traces.specs.Traces.Act.{Records}
use Rattle.model_traces.specs.Runs.{line_of, tells_record, record_lines}
use Rattle.model_traces.proofs.Lines.{other_text, made_here, made_there, held_here, held_of_another, held_there, of_declared, operation_lawful, with_at_own}
use Rattle.theorem_traces.proofs.Holding.{IsDeclared, same_or_other}
use Rattle.theorem_traces.proofs.Recording.{Recorded}

module _ {Kind Op Shown : Type 0} (D : Replication Kind Op Shown) (node : Node Kind Op Shown) (key : Text) (op : Op) where
  -- what a declared key's kind and a new record are
  pub data Updates (after : Stepped Kind Op Shown) : Type 0 where
    NoRecord : tells_record (Replied after.output.reply) ≡ false → ((name : Text) → after.node.entries name ≡ node.entries name) → Updates after
    NewRecord : (decl : KeyDecl Kind) → find (λ (d : KeyDecl Kind). bytes_eq d.name key) node.keys ≡ Some decl → decl.name ≡ key → D.data_type.fits decl.kind op ≡ true → D.data_type.deleted (node.entries decl.name).history ≡ false → tells_record (Replied after.output.reply) ≡ true
        → ((name : Text) → after.node.entries name ≡ with_text_at node.entries decl.name (with_action (node.entries decl.name) node.identity (Operation op)) name) → Updates after

  abbrev later : Node Kind Op Shown
  later = one_step_later node

  module _ (decl : KeyDecl Kind) (is : find (λ (d : KeyDecl Kind). bytes_eq d.name key) node.keys ≡ Some decl) (name : decl.name ≡ key) (fits : D.data_type.fits decl.kind op ≡ true) (open_key : D.data_type.deleted (node.entries decl.name).history ≡ false) (fate : Fate) where
    abbrev k : KeyState Kind Op
    k = state_of node decl

    by_acceptance : (n : ℕ) → Updates (accepted D later decl.name n fate (with_action (node.entries decl.name) node.identity (Operation op)))
    by_acceptance n =
        if_holds Updates (has_failed fate) _ _ (NewRecord decl is name fits open_key refl (λ t. refl)) (if_holds Updates (nat_le n 1) _ _ (NewRecord decl is name fits open_key refl (λ t. refl)) (NewRecord decl is name fits open_key refl (λ t. refl)))

    by_refusal : (n : ℕ) (o : Option Refusal) → Updates (updated_unless D later k op n fate o)
    by_refusal n None = by_acceptance n
    by_refusal n (Some refusal) = NoRecord refl (λ t. refl)

    by_number : (o : Option ℕ) → Updates (updated_needing D later k op o fate)
    by_number None = NoRecord refl (λ t. refl)
    by_number (Some n) = by_refusal n (D.data_type.refusal decl.kind node.identity op (node.entries decl.name).history)

  pub updates : (level : Level) (fate : Fate) → Updates (step D node (Update key op level) fate)
  updates level fate = go (find (λ (d : KeyDecl Kind). bytes_eq d.name key) node.keys) refl
    where
      go : (o : Option (KeyDecl Kind)) → find (λ (d : KeyDecl Kind). bytes_eq d.name key) node.keys ≡ o → Updates (updated D later (option_map (state_of later) o) op level fate)
      go None is = NoRecord refl (λ t. refl)
      go (Some decl) is =
          if_tells Updates (D.data_type.deleted (node.entries decl.name).history) _ _ (λ closed. NoRecord refl (λ t. refl))
          (λ open_key. if_tells Updates (D.data_type.fits decl.kind op) _ _
          (λ fits. by_number decl is (same_text decl.name key (found (λ (d : KeyDecl Kind). bytes_eq d.name key) node.keys decl is)) fits open_key fate (needed level (member_count later)))
          (λ e. NoRecord refl (λ t. refl)))

module _ {Kind Op Shown : Type 0} (D : Replication Kind Op Shown) (value_text : Shown → Text) (keys : List (KeyDecl Kind)) (state : TraceState Op) (i : ℕ) (node : Node Kind Op Shown) where
  -- nothing is recorded where no entry changed
  pub none_recorded : (now : Node Kind Op Shown) → ((name : Text) → now.entries name ≡ node.entries name) → ((name : Text) → (node.entries name).history i ≡ state.made name i)
      → ((decl : KeyDecl Kind) → IsDeclared keys decl → state.held i decl.name ≡ (node.entries decl.name).history) → Recorded D value_text keys i now state []
  none_recorded now same own held =
      record {
        lawful = tt;
        made = λ key. sym (with_at_own (state.made key) i ((now.entries key).history i) (ap (λ (e : Entry Op). e.history i) (same key) ∙ own key));
        own = λ decl is. held decl is ∙ ap (λ (e : Entry Op). e.history) (sym (same decl.name));
        others = λ t key other. refl;
      }

module _ {Kind Op Shown : Type 0} (D : Replication Kind Op Shown) (value_text : Shown → Text) (state : TraceState Op) (node : Node Kind Op Shown) (key : Text) (op : Op) where
  abbrev i : ℕ
  i = node.identity

  module _ (own : (name : Text) → (node.entries name).history i ≡ state.made name i) (held : (decl : KeyDecl Kind) → IsDeclared node.keys decl → state.held i decl.name ≡ (node.entries decl.name).history)
      (now : Node Kind Op Shown) (decl : KeyDecl Kind) (is : find (λ (d : KeyDecl Kind). bytes_eq d.name key) node.keys ≡ Some decl) (name : decl.name ≡ key) (fits : D.data_type.fits decl.kind op ≡ true) (open_key : D.data_type.deleted (node.entries decl.name).history ≡ false)
      (entries : (t : Text) → now.entries t ≡ with_text_at node.entries decl.name (with_action (node.entries decl.name) i (Operation op)) t) (exact : IsExactlyPruned (now.entries key).history) where
    abbrev line : TraceLine Op
    line = line_of i key (Records (Operation op))

    abbrev H : History Op
    H = (node.entries key).history

    is_declared : IsDeclared node.keys decl
    is_declared = subst (λ t. find (λ (d : KeyDecl Kind). bytes_eq d.name t) node.keys ≡ Some decl) (sym name) is

    held_key : state.held i key ≡ H
    held_key = ap (state.held i) (sym name) ∙ held decl is_declared ∙ ap (λ t. (node.entries t).history) name

    now_key : (now.entries key).history ≡ recorded H i H (Operation op)
    now_key =
        ap (λ (e : Entry Op). e.history) (entries key) ∙ ap (λ t. (with_text_at node.entries t (with_action (node.entries t) i (Operation op)) key).history) name
        ∙ ap (λ (e : Entry Op). e.history) (with_text_at-same node.entries key (with_action (node.entries key) i (Operation op)))

    now_other : (t : Text) → t ≢ key → now.entries t ≡ node.entries t
    now_other t other = entries t ∙ other_text node.entries decl.name (with_action (node.entries decl.name) i (Operation op)) t (λ e. other (e ∙ name))

    held_now : (after_line state line).held i key ≡ (now.entries key).history
    held_now = held_here state line ∙ ap (λ (J : History Op). recorded J i J (Operation op)) held_key ∙ sym now_key

    made_now : (after_line state line).made key ≡ with_at (state.made key) i ((now.entries key).history i)
    made_now =
        let r : Record Op = record { action = Operation op; past = versions H } in
        made_here state line ∙ ap (λ (J : History Op). recorded (state.made key) i J (Operation op)) held_key
        ∙ ap (λ (xs : List (Record Op)). with_at (state.made key) i (xs ++ r ∷ [])) (sym (own key))
        ∙ ap (with_at (state.made key) i) (sym (ap (λ (J : History Op). J i) now_key ∙ with_at_same H i (H i ++ r ∷ [])))

    pub one_recorded : Recorded D value_text node.keys i now state (line ∷ [])
    one_recorded =
        record {
          lawful = (
            of_declared D.data_type value_text node.keys state line decl is
                (operation_lawful D.data_type value_text decl.kind (state.made key) i (state.held i key) op fits
                (ap D.data_type.deleted held_key ∙ ap (λ t. D.data_type.deleted (node.entries t).history) (sym name) ∙ open_key)
                (subst IsExactlyPruned (now_key ∙ ap (λ (J : History Op). recorded J i J (Operation op)) (sym held_key)) exact)),
            tt,
          );
          made = λ t. elim (same_or_other t key) [
            | inl same ↦ ap (after_line state line).made same ∙ made_now ∙ ap (λ t. with_at (state.made t) i ((now.entries t).history i)) (sym same)
            | inr other ↦ made_there state line t other ∙ sym (with_at_own (state.made t) i ((now.entries t).history i) (ap (λ (e : Entry Op). e.history i) (now_other t other) ∙ own t))
          ];
          own = λ d d_is. elim (same_or_other d.name key) [
            | inl same ↦ ap ((after_line state line).held i) same ∙ held_now ∙ ap (λ t. (now.entries t).history) (sym same)
            | inr other ↦ held_there state line i d.name other ∙ held d d_is ∙ ap (λ (e : Entry Op). e.history) (sym (now_other d.name other))
          ];
          others = λ t name other. held_of_another state line t name other;
        }

module _ {Kind Op Shown : Type 0} (D : Replication Kind Op Shown) (value_text : Shown → Text) (state : TraceState Op) (node : Node Kind Op Shown) (key : Text) (op : Op) (level : Level) (fate : Fate) where
  -- the record lines of an update
  pub update_recorded : ((name : Text) → (node.entries name).history node.identity ≡ state.made name node.identity)
      → ((decl : KeyDecl Kind) → IsDeclared node.keys decl → state.held node.identity decl.name ≡ (node.entries decl.name).history)
      → IsExactlyPruned ((step D node (Update key op level) fate).node.entries key).history
      → Recorded D value_text node.keys node.identity (step D node (Update key op level) fate).node state (record_lines (ScriptStep.Asks node.identity (Ask.Update key op level)) (Replied (step D node (Update key op level) fate).output.reply))
  update_recorded own held exact = go (updates D node key op level fate)
    where
      go : Updates D node key op (step D node (Update key op level) fate)
          → Recorded D value_text node.keys node.identity (step D node (Update key op level) fate).node state (if tells_record (Replied (step D node (Update key op level) fate).output.reply) then line_of node.identity key (Records (Operation op)) ∷ [] else [])
      go (NoRecord told same) =
          subst (λ b. Recorded D value_text node.keys node.identity (step D node (Update key op level) fate).node state (if b then line_of node.identity key (Records (Operation op)) ∷ [] else [])) (sym told)
          (none_recorded D value_text node.keys state node.identity node (step D node (Update key op level) fate).node same own held)
      go (NewRecord decl is name fits open_key told entries) =
          subst (λ b. Recorded D value_text node.keys node.identity (step D node (Update key op level) fate).node state (if b then line_of node.identity key (Records (Operation op)) ∷ [] else [])) (sym told)
          (one_recorded D value_text state node key op own held (step D node (Update key op level) fate).node decl is name fits open_key entries exact)
