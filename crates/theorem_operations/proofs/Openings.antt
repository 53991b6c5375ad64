-- What a majority write and a majority read do at their member.
use Rattle.std.proofs.Common.{◌≡◌, ℕ, ◌+◌, ◌≤◌, [], ◌∷◌, ◌++◌, refl, sym, ap, subst, ◌∙◌, arith, Bool, true, false, Option, Some, None, ◌⊎◌, inl, inr}
use Rattle.std.specs.Prelude.{if◌then◌else◌, find, option_map, nat_le}
use Rattle.std.specs.Str.{bytes_eq}
use Rattle.std.proofs.lemmas.Bool.{leb-true, le-leb}
use Rattle.model_history.specs.Texts.{Text}
use Rattle.model_history.specs.Vector.{alone}
use Rattle.model_history.specs.History.{Action}
use Rattle.model_history.proofs.PruneLaws.{found}
use Rattle.model_meanings.specs.Refusal.{Refusal}
use Rattle.model_members.specs.Entry.{Entry, with_action, has_records}
use Rattle.model_members.specs.DataType.{Replication, Meaning, IsDeleted, Shows, meaning}
use Rattle.model_members.specs.Message.Message.{Write, Read}
use Rattle.model_members.specs.Node.{KeyDecl, KeyState, Node, Level, Input, Fate, Reply, Stepped, HasKey, state_of, needed, needed_number, with_entry, one_step_later}
use Rattle.model_members.specs.Node.Reply.{Done, Pending, UnknownKey, Deleted, WrongKind, TooFew, Refused, NotStored}
use Rattle.model_members.specs.Step.{step, has_failed, answered, opened, member_count, meaning_of, value_reply}
use Rattle.model_members.proofs.Steps.{with_text_at-same}
use Rattle.model_members.proofs.Cases.{accepted, updated, updated_undeleted, updated_needing, updated_unless, got, got_needing}
use Rattle.theorem_runs.proofs.Keeping.{if_holds, if_tells, same_text}

-- a reply that the write was accepted
abbrev pub IsAccepted : {Shown : Type 0} → Reply Shown → Type 0
IsAccepted {Shown} reply = (reply ≡ Done) ⊎ ((p : ℕ) × (reply ≡ Pending p))

needed_is : (level : Level) (members n : ℕ) → needed level members ≡ Some n → n ≡ needed_number level members
needed_is level members n e = go (nat_le (needed_number level members) members) e
  where
    go : (b : Bool) → (if b then Some (needed_number level members) else None) ≡ Some n → n ≡ needed_number level members
    go true e = let same : needed_number level members ≡ n = cc e in sym same
    go false e = absurd (cc e)

pub majority_needed : (cap members : ℕ) → needed (Level.Majority cap) members ≡ Some (needed_number (Level.Majority cap) members)
majority_needed cap members =
    let few : needed_number (Level.Majority cap) members ≤ members = omega arith in
    ap (λ b. if b then Some (needed_number (Level.Majority cap) members) else None) (le-leb (needed_number (Level.Majority cap) members) members few)

module _ {Kind Op Shown : Type 0} (D : Replication Kind Op Shown) where
  pub value_not_pending : (o : Option (Meaning Shown)) (p : ℕ) → value_reply D o ≡ Pending p → ⊥
  value_not_pending None p e = cc e
  value_not_pending (Some IsDeleted) p e = cc e
  value_not_pending (Some (Shows v)) p e = cc e

module _ {Kind Op Shown : Type 0} (D : Replication Kind Op Shown) (node : Node Kind Op Shown) (key : Text) where
  -- A WRITE

  pub record IsOpened (reads : Bool) (n p : ℕ) (s : Stepped Kind Op Shown) : Type 0 where
    pub number : p ≡ node.next_op
    pub next : s.node.next_op ≡ node.next_op + 1
    pub finished : s.node.finished ≡ node.finished
    pub operations : s.node.open_operations ≡ node.open_operations ++ record { op = node.next_op; key = key; reads = reads; needed = n; counted = alone node.identity } ∷ []

  pub record IsWritten (op : Op) (n : ℕ) (s : Stepped Kind Op Shown) : Type 0 where
    pub entry : s.node.entries key ≡ with_action (node.entries key) node.identity (Action.Operation op)
    pub done : s.output.reply ≡ Done → n ≤ 1
    pub pending : (p : ℕ) → s.output.reply ≡ Pending p → IsOpened false n p s

  -- what an accepted write tells
  pub record WriteTells (op : Op) (level : Level) (s : Stepped Kind Op Shown) : Type 0 where
    pub decl : KeyDecl Kind
    pub declared : find (λ (d : KeyDecl Kind). bytes_eq d.name key) node.keys ≡ Some decl
    pub written : IsWritten op (needed_number level (member_count node)) s

  refused : {A : Type 0} (reply : Reply Shown) → (reply ≡ Done → ⊥) → ((p : ℕ) → reply ≡ Pending p → ⊥) → IsAccepted reply → A
  refused reply undone none (inl e) = absurd (undone e)
  refused reply undone none (inr e) = absurd (none e.0 e.1)

  written_accepted : (op : Op) (n : ℕ) (fate : Fate) (entry : Entry Op) → entry ≡ with_action (node.entries key) node.identity (Action.Operation op)
      → IsAccepted (accepted D (one_step_later node) key n fate entry).output.reply → IsWritten op n (accepted D (one_step_later node) key n fate entry)
  written_accepted op n fate entry is =
      let later = one_step_later node in
      let after = with_entry later key entry in
      if_tells (λ (s : Stepped Kind Op Shown). IsAccepted s.output.reply → IsWritten op n s) (has_failed fate) (answered after NotStored) (if nat_le n 1 then answered after Done else opened after key false n (Write later.next_op key entry))
      (λ failed. refused NotStored (λ e. cc e) (λ p e. cc e))
      (λ stored. if_tells (λ (s : Stepped Kind Op Shown). IsAccepted s.output.reply → IsWritten op n s) (nat_le n 1) (answered after Done) (opened after key false n (Write later.next_op key entry))
      (λ one yes. record { entry = here ∙ is; done = λ e. leb-true n 1 one; pending = λ p e. absurd (cc e) })
      (λ more yes. record { entry = here ∙ is; done = λ e. absurd (cc e); pending = λ p e. record { number = (let f : node.next_op ≡ p = cc e in sym f); next = refl; finished = refl; operations = refl } }))
    where
      here : (with_entry (one_step_later node) key entry).entries key ≡ entry
      here = with_text_at-same node.entries key entry

  module _ (op : Op) (level : Level) (fate : Fate) where
    abbrev later : Node Kind Op Shown
    later = one_step_later node

    module _ (decl : KeyDecl Kind) (declared : find (λ (d : KeyDecl Kind). bytes_eq d.name key) node.keys ≡ Some decl) where
      name_is : decl.name ≡ key
      name_is = same_text decl.name key (found (λ (d : KeyDecl Kind). bytes_eq d.name key) node.keys decl declared)

      abbrev Told : Stepped Kind Op Shown → Type 0
      Told s = IsAccepted s.output.reply → WriteTells op level s

      told_unless : (n : ℕ) → n ≡ needed_number level (member_count node) → (refusal : Option Refusal) → Told (updated_unless D later (state_of later (record { name = key; kind = decl.kind; durable = decl.durable })) op n fate refusal)
      told_unless n is None = λ yes. record { decl = decl; declared = declared; written = subst (λ m. IsWritten op m (accepted D later key n fate (with_action (node.entries key) node.identity (Action.Operation op)))) is (written_accepted op n fate _ refl yes) }
      told_unless n is (Some refusal) = refused (Refused refusal) (λ e. cc e) (λ p e. cc e)

      told_needing : (o : Option ℕ) → needed level (member_count node) ≡ o → Told (updated_needing D later (state_of later (record { name = key; kind = decl.kind; durable = decl.durable })) op o fate)
      told_needing None e = refused TooFew (λ e. cc e) (λ p e. cc e)
      told_needing (Some n) e = told_unless n (needed_is level (member_count node) n e) (D.data_type.refusal decl.kind node.identity op (node.entries key).history)

      told_named : Told (updated D later (Some (state_of later (record { name = key; kind = decl.kind; durable = decl.durable }))) op level fate)
      told_named =
          if_holds Told (D.data_type.deleted (node.entries key).history) (answered later Deleted) (updated_undeleted D later (state_of later (record { name = key; kind = decl.kind; durable = decl.durable })) op level fate)
          (refused Deleted (λ e. cc e) (λ p e. cc e))
          (if_holds Told (D.data_type.fits decl.kind op) (updated_needing D later (state_of later (record { name = key; kind = decl.kind; durable = decl.durable })) op (needed level (member_count node)) fate) (answered later WrongKind)
          (told_needing (needed level (member_count node)) refl) (refused WrongKind (λ e. cc e) (λ p e. cc e)))

      told_declared : Told (updated D later (Some (state_of later decl)) op level fate)
      told_declared = subst (λ (name : Text). Told (updated D later (Some (state_of later (record { name = name; kind = decl.kind; durable = decl.durable }))) op level fate)) (sym name_is) told_named

    -- a write that is answered Done or Pending
    pub write_tells : IsAccepted (step D node (Input.Update key op level) fate).output.reply → WriteTells op level (step D node (Input.Update key op level) fate)
    write_tells = by_find (find (λ (d : KeyDecl Kind). bytes_eq d.name key) node.keys) refl
      where
        by_find : (o : Option (KeyDecl Kind)) → find (λ (d : KeyDecl Kind). bytes_eq d.name key) node.keys ≡ o
            → IsAccepted (updated D (one_step_later node) (option_map (state_of (one_step_later node)) o) op level fate).output.reply → WriteTells op level (updated D (one_step_later node) (option_map (state_of (one_step_later node)) o) op level fate)
        by_find None e = refused UnknownKey (λ e. cc e) (λ p e. cc e)
        by_find (Some decl) e = told_declared decl e

  -- A READ

  module _ (kind : Kind) (has : HasKey node key kind) (cap : ℕ) (fate : Fate) where
    abbrev n : ℕ
    n = needed_number (Level.Majority cap) (member_count node)

    abbrev state : KeyState Kind Op
    state = state_of (one_step_later node) (record { name = key; kind = kind; durable = has.0 })

    pub step_read : step D node (Input.Get key (Level.Majority cap)) fate
        ≡ (if nat_le n 1 then answered (one_step_later node) (value_reply D (meaning_of D state)) else opened (one_step_later node) key true n (Read node.next_op key))
    step_read =
        ap (λ o. got D (one_step_later node) (option_map (state_of (one_step_later node)) o) (Level.Majority cap)) has.1
        ∙ ap (got_needing D (one_step_later node) state) (majority_needed cap (member_count node))

    abbrev s : Stepped Kind Op Shown
    s = step D node (Input.Get key (Level.Majority cap)) fate

    pub record ReadOpened (p : ℕ) : Type 0 where
      pub is_open : IsOpened true n p s
      pub entries : s.node.entries ≡ node.entries

    pub read_pending : (p : ℕ) → s.output.reply ≡ Pending p → ReadOpened p
    read_pending p e = go (nat_le n 1) step_read (sym (ap (λ (z : Stepped Kind Op Shown). z.output.reply) step_read) ∙ e)
      where
        go : (b : Bool) → step D node (Input.Get key (Level.Majority cap)) fate ≡ (if b then answered (one_step_later node) (value_reply D (meaning_of D (state_of (one_step_later node) (record { name = key; kind = kind; durable = has.0 })))) else opened (one_step_later node) key true (needed_number (Level.Majority cap) (member_count node)) (Read node.next_op key))
            → (if b then answered (one_step_later node) (value_reply D (meaning_of D (state_of (one_step_later node) (record { name = key; kind = kind; durable = has.0 })))) else opened (one_step_later node) key true (needed_number (Level.Majority cap) (member_count node)) (Read node.next_op key)).output.reply ≡ Pending p → ReadOpened p
        go true is f = absurd (value_not_pending D _ p f)
        go false is f =
            record {
              is_open = record {
                number = (let g : node.next_op ≡ p = cc f in sym g);
                next = ap (λ (z : Stepped Kind Op Shown). z.node.next_op) is;
                finished = ap (λ (z : Stepped Kind Op Shown). z.node.finished) is;
                operations = ap (λ (z : Stepped Kind Op Shown). z.node.open_operations) is;
              };
              entries = ap (λ (z : Stepped Kind Op Shown). z.node.entries) is;
            }

    pub read_at_once : ((p : ℕ) → s.output.reply ≡ Pending p → ⊥) → has_records (node.entries key) ≡ true → (n ≤ 1) × (s.output.reply ≡ value_reply D (Some (meaning D.data_type kind (node.entries key).history)))
    read_at_once never some = go (nat_le n 1) refl (ap (λ (z : Stepped Kind Op Shown). z.output.reply) step_read)
      where
        go : (b : Bool) → nat_le (needed_number (Level.Majority cap) (member_count node)) 1 ≡ b
            → (step D node (Input.Get key (Level.Majority cap)) fate).output.reply ≡ (if b then answered (one_step_later node) (value_reply D (meaning_of D (state_of (one_step_later node) (record { name = key; kind = kind; durable = has.0 })))) else opened (one_step_later node) key true (needed_number (Level.Majority cap) (member_count node)) (Read node.next_op key)).output.reply
            → (needed_number (Level.Majority cap) (member_count node) ≤ 1) × ((step D node (Input.Get key (Level.Majority cap)) fate).output.reply ≡ value_reply D (Some (meaning D.data_type kind (node.entries key).history)))
        go true one e = (leb-true (needed_number (Level.Majority cap) (member_count node)) 1 one, e ∙ ap (λ b. value_reply D (if b then Some (meaning D.data_type kind (node.entries key).history) else None)) some)
        go false more e = absurd (never node.next_op e)

    -- a read that isn't pending needs one member
    pub read_one : ((p : ℕ) → s.output.reply ≡ Pending p → ⊥) → needed_number (Level.Majority cap) (member_count node) ≤ 1
    read_one never = go (nat_le n 1) refl (ap (λ (z : Stepped Kind Op Shown). z.output.reply) step_read)
      where
        go : (b : Bool) → nat_le (needed_number (Level.Majority cap) (member_count node)) 1 ≡ b
            → (step D node (Input.Get key (Level.Majority cap)) fate).output.reply ≡ (if b then answered (one_step_later node) (value_reply D (meaning_of D (state_of (one_step_later node) (record { name = key; kind = kind; durable = has.0 })))) else opened (one_step_later node) key true (needed_number (Level.Majority cap) (member_count node)) (Read node.next_op key)).output.reply
            → needed_number (Level.Majority cap) (member_count node) ≤ 1
        go true one e = leb-true (needed_number (Level.Majority cap) (member_count node)) 1 one
        go false more e = absurd (never node.next_op e)
