-- While a write is open its answers come from members that have it, and while a read is open its answers bring what their senders had.
use Rattle.std.proofs.Common.{◌≡◌, ℕ, ◌<◌, ◌≤◌, List, [], ◌∷◌, length, refl, sym, ap, subst, ◌∙◌, arith, true, false, Option, Some, None, ◌⊎◌, inl, inr, zero}
use Rattle.std.specs.Prelude.{◌||◌, if◌then◌else◌, option_map}
use Rattle.std.proofs.lemmas.Bool.Decides.{eqb_tells}
use Rattle.model_history.specs.Texts.{Text}
use Rattle.model_history.specs.Vector.{IdentitySet, members_of, with_member}
use Rattle.model_history.specs.History.{Record, at}
use Rattle.model_history.proofs.PruneLaws.{IsIn}
use Rattle.model_members.specs.View.{View, is_member}
use Rattle.model_members.specs.Entry.{Entry}
use Rattle.model_members.specs.DataType.{Replication}
use Rattle.model_members.specs.Message.Message.{Write, WriteAck, Read, ReadAnswer}
use Rattle.model_members.specs.Node.{KeyDecl, Node, OpenOperation, Finished, Input, Fate, state_of, key_state, one_step_later}
use Rattle.model_members.specs.Node.Input.{Take}
use Rattle.model_members.specs.Step.{step, after_entries, answered_entry}
use Rattle.model_members.specs.World.{World, Event, happens, message_at, IsGiven, IsLawful}
use Rattle.theorem_runs.proofs.RunViews.{same_some}
use Rattle.theorem_runs.proofs.Growth.{step_no_fewer}
use Rattle.theorem_operations.specs.Quorum.{KeepsMembers}
use Rattle.theorem_operations.proofs.Operations.{IsAnswer, Counts, OpenAfter, FinishedAfter, step_tells}
use Rattle.theorem_operations.proofs.Operations.IsAnswer.{Acked, ReadBack}
use Rattle.theorem_operations.proofs.Operations.OpenAfter.{Stays, Opened, Answered}
use Rattle.theorem_operations.proofs.Operations.FinishedAfter.{WasFinished, EndedNow}
use Rattle.theorem_operations.proofs.Moments.{MessageFrom, messages_follow, brought}
use Rattle.theorem_operations.proofs.Moments.MessageFrom.{OldOne, NewOne}
use Rattle.theorem_operations.proofs.Calm.{Continues, IsMade, HasIt, continues, has_key, has_some, takes, held_next, made_next, step_write, step_answer}
use Rattle.theorem_operations.proofs.Calm.Continues.{Unmoved, Moved}

-- who is in a set with one more member
in_with : (set : IdentitySet) (from t : ℕ) → with_member set from t ≡ true → (t ≡ from) ⊎ (set t ≡ true)
in_with set from t e = elim (eqb_tells t from) [
  | inl is ↦ inl is.1
  | inr isnt ↦ inr (sym (ap (λ b. b || set t) isnt.0) ∙ e)
]

module _ {Kind Op Shown : Type 0} (D : Replication Kind Op Shown) (members : ℕ) (keys : List (KeyDecl Kind)) (V : View) (decl : KeyDecl Kind) (key : Text) (i k : ℕ) (x : Record Op) where
  abbrev Made : World Kind Op Shown → Type 0
  Made world = IsMade D members keys V decl key i k x world

  abbrev pub Has : World Kind Op Shown → ℕ → Type 0
  Has world t = HasIt D members keys V decl key i k x world t

  -- so many members have the record
  pub record HasMany (n : ℕ) (world : World Kind Op Shown) : Type 0 where
    pub set : IdentitySet
    pub many : n ≤ length (members_of set)
    pub each : (t : ℕ) → set t ≡ true → (is_member V t ≡ true) × Has world t

  pub many_next : (n : ℕ) (world : World Kind Op Shown) → Made world → (event : Event Op) → IsLawful D world event → KeepsMembers event → HasMany n world → HasMany n (happens D world event)
  many_next n world made event lawful leaves has =
      record { set = has.set; many = has.many; each = λ t m. let h = has.each t m in (h.0, held_next D members keys V decl key i k x world made event lawful leaves t h.1) }

  -- A WRITE

  -- member i waits for answers to its write, or had enough of them
  pub record IsWriting (op n : ℕ) (world : World Kind Op Shown) : Type 0 where
    pub made : Made world
    pub later : (node : Node Kind Op Shown) → world.nodes i ≡ Some node → op < node.next_op
    pub asked : (t index : ℕ) (name : Text) (entry : Entry Op) → message_at world i t index ≡ Some (Write op name entry) → (name ≡ key) × (k < at entry.history i)
    pub acked : (t index : ℕ) → message_at world t i index ≡ Some (WriteAck op) → Has world t
    pub counted : (node : Node Kind Op Shown) (o : OpenOperation) → world.nodes i ≡ Some node → IsIn node.open_operations o → o.op ≡ op → (o.needed ≡ n) × (o.reads ≡ false) × ((t : ℕ) → o.counted t ≡ true → (is_member V t ≡ true) × Has world t)
    pub done : (node : Node Kind Op Shown) (f : Finished Shown) → world.nodes i ≡ Some node → IsIn node.finished f → f.op ≡ op → HasMany n world

  module _ (op n : ℕ) (world : World Kind Op Shown) (writing : IsWriting op n world) (event : Event Op) (lawful : IsLawful D world event) (leaves : KeepsMembers event) where
    abbrev next : World Kind Op Shown
    next = happens D world event

    goes_on : (t : ℕ) (node : Node Kind Op Shown) → next.nodes t ≡ Some node → Continues D members keys world t node
    goes_on t node e = continues D members keys V world writing.made.calm event lawful leaves t node e

    keeps : (t : ℕ) → Has world t → Has next t
    keeps t has = held_next D members keys V decl key i k x world writing.made event lawful leaves t has

    -- who is counted with a new answer has the record
    with_one_more : (old : Node Kind Op Shown) (input : Input Op) (from : ℕ) (p : OpenOperation) → world.nodes i ≡ Some old → IsGiven D world i input → Counts old input from p → p.op ≡ op → (t : ℕ) → with_member p.counted from t ≡ true → (is_member V t ≡ true) × Has world t
    with_one_more old input from p runs comes counts same t m = by (in_with p.counted from t m)
      where
        acked_by : IsAnswer input from p → Has world from
        acked_by (Acked is reads) =
            let b = brought D world i from (WriteAck p.op) tt input is comes in
            writing.acked from b.0 (b.1 ∙ ap (λ j. Some (WriteAck j)) same)
        acked_by (ReadBack entry is reads) = absurd (let f = sym reads ∙ (writing.counted old p runs counts.stood same).1 in cc f)

        by : (t ≡ from) ⊎ (p.counted t ≡ true) → (is_member V t ≡ true) × Has world t
        by (inl is) = subst (λ u. (is_member V u ≡ true) × Has world u) (sym is) (ap (λ (v : View). is_member v from) (sym (writing.made.calm.installed i old runs)) ∙ counts.member, acked_by counts.answer)
        by (inr old_one) = (writing.counted old p runs counts.stood same).2 t old_one

    both_next : (t : ℕ) → (is_member V t ≡ true) × Has world t → (is_member V t ≡ true) × Has next t
    both_next t h = (h.0, keeps t h.1)

    pub writing_next : IsWriting op n next
    writing_next =
        record {
          made = made_next D members keys V decl key i k x world writing.made event lawful leaves;
          later = λ node e. later_next node (goes_on i node e);
          asked = λ t index name entry e. asked_next t name entry (messages_follow D world event lawful i t index (Write op name entry) e);
          acked = λ t index e. acked_next t (messages_follow D world event lawful t i index (WriteAck op) e);
          counted = λ node o e h same. counted_next node o (goes_on i node e) h same;
          done = λ node f e h same. many_next n world writing.made event lawful leaves (done_next node f (goes_on i node e) h same);
        }
      where
        later_next : (node : Node Kind Op Shown) → Continues D members keys world i node → op < node.next_op
        later_next node (Unmoved e) = writing.later node e
        later_next node (Moved old input fate e comes is) = let a = writing.later old e in let b = (step_tells D old input fate).grows in let c = ap (λ (m : Node Kind Op Shown). m.next_op) is in omega arith

        asked_next : (t : ℕ) (name : Text) (entry : Entry Op) → MessageFrom D event world next i t (Write op name entry) → (name ≡ key) × (k < at entry.history i)
        asked_next t name entry (OldOne index e) = writing.asked t index name entry e
        asked_next t name entry (NewOne old input fate runs makes comes new member tells) = absurd (let a = writing.later old runs in let b : op ≡ old.next_op = tells.0 in omega arith)

        acked_next : (t : ℕ) → MessageFrom D event world next t i (WriteAck op) → Has next t
        acked_next t (OldOne index e) = keeps t (writing.acked t index e)
        acked_next t (NewOne old input fate runs makes comes new member tells) = λ node e.
            let name : Text = tells.0 in
            let entry : Entry Op = tells.1 in
            let b = brought D world t i (Write op name entry) tt input tells.2 comes in
            let asked = writing.asked t b.0 name entry b.1 in
            let sent : message_at world i t b.0 ≡ Some (Write op key entry) = b.1 ∙ ap (λ n. Some (Write op n entry)) asked.0 in
            let took = takes D members keys V decl key i k x world writing.made i t b.0 (Write op key entry) old entry sent (zero, refl) runs member in
            let now : (step D old input fate).node ≡ after_entries (one_step_later old) (record { key = key; item = entry } ∷ []) =
            ap (λ (j : Input Op). (step D old j fate).node) (tells.2 ∙ ap (λ n. Take i (Write op n entry)) asked.0) ∙ step_write D members keys old i member fate op key entry in
            let same : (step D old input fate).node ≡ node = same_some (next.nodes t) (step D old input fate).node node new e in
            let count : at ((after_entries (one_step_later old) (record { key = key; item = entry } ∷ [])).entries key).history i ≡ at (node.entries key).history i = ap (λ (m : Node Kind Op Shown). at (m.entries key).history i) (sym now ∙ same) in
            let more : k < at entry.history i = asked.1 in
            omega arith

        counted_next : (node : Node Kind Op Shown) (o : OpenOperation) → Continues D members keys world i node → IsIn node.open_operations o → o.op ≡ op
            → (o.needed ≡ n) × (o.reads ≡ false) × ((t : ℕ) → o.counted t ≡ true → (is_member V t ≡ true) × Has next t)
        counted_next node o (Unmoved e) h same = let c = writing.counted node o e h same in (c.0, c.1, λ t m. both_next t (c.2 t m))
        counted_next node o (Moved old input fate e comes is) h same = by ((step_tells D old input fate).operations o (subst (λ (m : Node Kind Op Shown). IsIn m.open_operations o) (sym is) h))
          where
            by : OpenAfter old (step D old input fate).node input o → (o.needed ≡ n) × (o.reads ≡ false) × ((t : ℕ) → o.counted t ≡ true → (is_member V t ≡ true) × Has next t)
            by (Stays m) = let c = writing.counted old o e m same in (c.0, c.1, λ t m. both_next t (c.2 t m))
            by (Opened a b) = absurd (let c = writing.later old e in omega arith)
            by (Answered from p counts f) =
                let p_is : p.op ≡ op = ap (λ (y : OpenOperation). y.op) f ∙ same in
                let c = writing.counted old p e counts.stood p_is in (
                  ap (λ (y : OpenOperation). y.needed) (sym f) ∙ c.0,
                  ap (λ (y : OpenOperation). y.reads) (sym f) ∙ c.1,
                  λ t m. both_next t (with_one_more old input from p e comes counts p_is t (ap (λ (y : OpenOperation). y.counted t) f ∙ m)),
                )

        done_next : (node : Node Kind Op Shown) (f : Finished Shown) → Continues D members keys world i node → IsIn node.finished f → f.op ≡ op → HasMany n world
        done_next node f (Unmoved e) h same = writing.done node f e h same
        done_next node f (Moved old input fate e comes is) h same = by ((step_tells D old input fate).finished f (subst (λ (m : Node Kind Op Shown). IsIn m.finished f) (sym is) h))
          where
            by : FinishedAfter D old (step D old input fate).node input f → HasMany n world
            by (WasFinished m) = writing.done old f e m same
            by (EndedNow end) =
                let p = end.operation in
                let p_is : p.op ≡ op = ap (λ (y : Finished Shown). y.op) end.is ∙ same in
                let c = writing.counted old p e end.counts.stood p_is in
                record {
                  set = with_member p.counted end.from;
                  many = subst (λ m. m ≤ length (members_of (with_member p.counted end.from))) c.0 end.enough;
                  each = with_one_more old input end.from p e comes end.counts p_is;
                }

  -- A READ

  module _ (j : ℕ) (S : IdentitySet) where
    -- member j waits for answers to its read; these bring the record where their senders had it when the read began
    pub record IsReading (op n : ℕ) (world : World Kind Op Shown) : Type 0 where
      pub made : Made world
      pub held : (t : ℕ) → S t ≡ true → Has world t
      pub later : (node : Node Kind Op Shown) → world.nodes j ≡ Some node → op < node.next_op
      pub asked : (t index : ℕ) (name : Text) → message_at world j t index ≡ Some (Read op name) → name ≡ key
      pub told : (t index : ℕ) (name : Text) (entry : Option (Entry Op)) → message_at world t j index ≡ Some (ReadAnswer op name entry) → (name ≡ key) × (S t ≡ true → (e : Entry Op) × (entry ≡ Some e) × (k < at e.history i))
      pub counted : (node : Node Kind Op Shown) (o : OpenOperation) → world.nodes j ≡ Some node → IsIn node.open_operations o → o.op ≡ op
          → (o.needed ≡ n) × (o.reads ≡ true) × (o.key ≡ key) × ((t : ℕ) → o.counted t ≡ true → (is_member V t ≡ true) × (S t ≡ true → k < at (node.entries key).history i))

    module _ (op n : ℕ) (world : World Kind Op Shown) (reading : IsReading op n world) where
      -- who is counted with a new answer, and had the record, has brought it
      pub read_one_more : (old : Node Kind Op Shown) (input : Input Op) (fate : Fate) (from : ℕ) (p : OpenOperation) → world.nodes j ≡ Some old → IsGiven D world j input → Counts old input from p → p.op ≡ op
          → (t : ℕ) → with_member p.counted from t ≡ true → (is_member V t ≡ true) × (S t ≡ true → k < at ((step D old input fate).node.entries key).history i)
      read_one_more old input fate from p runs comes counts same t m = by (in_with p.counted from t m)
        where
          c : (p.needed ≡ n) × (p.reads ≡ true) × (p.key ≡ key) × ((t : ℕ) → p.counted t ≡ true → (is_member V t ≡ true) × (S t ≡ true → k < at (old.entries key).history i))
          c = reading.counted old p runs counts.stood same

          told_by : IsAnswer input from p → S from ≡ true → k < at ((step D old input fate).node.entries key).history i
          told_by (Acked is reads) s = absurd (let f = sym (reading.counted old p runs counts.stood same).1 ∙ reads in cc f)
          told_by (ReadBack entry is reads) s =
              let p_key : p.key ≡ key = (reading.counted old p runs counts.stood same).2 in
              let is_now : input ≡ Take from (ReadAnswer op key entry) = is ∙ (λ l. Take from (ReadAnswer (same l) (p_key l) entry)) in
              let b = brought D world j from (ReadAnswer op key entry) tt input is_now comes in
              let t = reading.told from b.0 key entry b.1 in
              let e = t.1 s in
              let sent : message_at world from j b.0 ≡ Some (ReadAnswer op key (Some e.0)) = b.1 ∙ ap (λ x. Some (ReadAnswer op key x)) e.1 in
              let took = takes D members keys V decl key i k x world reading.made from j b.0 (ReadAnswer op key (Some e.0)) old e.0 sent (zero, refl) runs counts.member in
              let now : (step D old input fate).node.entries ≡ (after_entries (one_step_later old) (record { key = key; item = e.0 } ∷ [])).entries =
              ap (λ (l : Input Op). (step D old l fate).node.entries) (is_now ∙ ap (λ x. Take from (ReadAnswer op key x)) e.1) ∙ step_answer D members keys old from counts.member fate op key e.0 in
              let count : at ((step D old input fate).node.entries key).history i ≡ at ((after_entries (one_step_later old) (record { key = key; item = e.0 } ∷ [])).entries key).history i = ap (λ (f : Text → Entry Op). at (f key).history i) now in
              let more : k < at e.0.history i = e.2 in
              omega arith

          by : (t ≡ from) ⊎ (p.counted t ≡ true) → (is_member V t ≡ true) × (S t ≡ true → k < at ((step D old input fate).node.entries key).history i)
          by (inl is) =
              subst (λ u. (is_member V u ≡ true) × (S u ≡ true → k < at ((step D old input fate).node.entries key).history i)) (sym is)
              (ap (λ (v : View). is_member v from) (sym (reading.made.calm.installed j old runs)) ∙ counts.member, told_by counts.answer)
          by (inr old_one) =
              let h = (reading.counted old p runs counts.stood same).3 t old_one in
              (h.0, λ s. let a = h.1 s in let b = step_no_fewer D old input fate key i in omega arith)

      module _ (event : Event Op) (lawful : IsLawful D world event) (leaves : KeepsMembers event) where
        abbrev afterwards : World Kind Op Shown
        afterwards = happens D world event

        reads_on : (t : ℕ) (node : Node Kind Op Shown) → afterwards.nodes t ≡ Some node → Continues D members keys world t node
        reads_on t node e = continues D members keys V world reading.made.calm event lawful leaves t node e

        pub reading_next : IsReading op n afterwards
        reading_next =
            record {
              made = made_next D members keys V decl key i k x world reading.made event lawful leaves;
              held = λ t s. held_next D members keys V decl key i k x world reading.made event lawful leaves t (reading.held t s);
              later = λ node e. later_next node (reads_on j node e);
              asked = λ t index name e. asked_next t name (messages_follow D world event lawful j t index (Read op name) e);
              told = λ t index name entry e. told_next t name entry (messages_follow D world event lawful t j index (ReadAnswer op name entry) e);
              counted = λ node o e h same. counted_next node o (reads_on j node e) h same;
            }
          where
            later_next : (node : Node Kind Op Shown) → Continues D members keys world j node → op < node.next_op
            later_next node (Unmoved e) = reading.later node e
            later_next node (Moved old input fate e comes is) = let a = reading.later old e in let b = (step_tells D old input fate).grows in let c = ap (λ (m : Node Kind Op Shown). m.next_op) is in omega arith

            asked_next : (t : ℕ) (name : Text) → MessageFrom D event world afterwards j t (Read op name) → name ≡ key
            asked_next t name (OldOne index e) = reading.asked t index name e
            asked_next t name (NewOne old input fate runs makes comes new member tells) = absurd (let a = reading.later old runs in let b : op ≡ old.next_op = tells.0 in omega arith)

            told_next : (t : ℕ) (name : Text) (entry : Option (Entry Op)) → MessageFrom D event world afterwards t j (ReadAnswer op name entry) → (name ≡ key) × (S t ≡ true → (e : Entry Op) × (entry ≡ Some e) × (k < at e.history i))
            told_next t name entry (OldOne index e) = reading.told t index name entry e
            told_next t name entry (NewOne old input fate runs makes comes new member tells) =
                let b = brought D world t j (Read op name) tt input tells.0 comes in
                let is_key : name ≡ key = reading.asked t b.0 name b.1 in (
                  is_key,
                  λ s.
                      let more : k < at (old.entries key).history i = reading.held t s old runs in
                      let has = has_key D members keys V decl key i k x world reading.made t old runs in
                      let state : key_state old key ≡ Some (state_of old (record { name = key; kind = decl.kind; durable = has.0 })) = ap (option_map (state_of old)) has.1 in
                      let answer : answered_entry D (key_state old key) ≡ Some (old.entries key) =
                      ap (answered_entry D) state ∙ ap (λ b. if b then Some (old.entries key) else None) (has_some D members keys V decl key i k x world reading.made (old.entries key) more) in
                      (old.entries key, tells.1 ∙ ap (λ n. answered_entry D (key_state old n)) is_key ∙ answer, more),
                )

            counted_next : (node : Node Kind Op Shown) (o : OpenOperation) → Continues D members keys world j node → IsIn node.open_operations o → o.op ≡ op
                → (o.needed ≡ n) × (o.reads ≡ true) × (o.key ≡ key) × ((t : ℕ) → o.counted t ≡ true → (is_member V t ≡ true) × (S t ≡ true → k < at (node.entries key).history i))
            counted_next node o (Unmoved e) h same = reading.counted node o e h same
            counted_next node o (Moved old input fate e comes is) h same =
                subst (λ (m : Node Kind Op Shown). (o.needed ≡ n) × (o.reads ≡ true) × (o.key ≡ key) × ((t : ℕ) → o.counted t ≡ true → (is_member V t ≡ true) × (S t ≡ true → k < at (m.entries key).history i))) is
                (by ((step_tells D old input fate).operations o (subst (λ (m : Node Kind Op Shown). IsIn m.open_operations o) (sym is) h)))
              where
                by : OpenAfter old (step D old input fate).node input o
                    → (o.needed ≡ n) × (o.reads ≡ true) × (o.key ≡ key) × ((t : ℕ) → o.counted t ≡ true → (is_member V t ≡ true) × (S t ≡ true → k < at ((step D old input fate).node.entries key).history i))
                by (Stays m) =
                    let c = reading.counted old o e m same in
                    (c.0, c.1, c.2, λ t m. let h = c.3 t m in (h.0, λ s. let a = h.1 s in let b = step_no_fewer D old input fate key i in omega arith))
                by (Opened a b) = absurd (let c = reading.later old e in omega arith)
                by (Answered from p counts f) =
                    let p_is : p.op ≡ op = ap (λ (y : OpenOperation). y.op) f ∙ same in
                    let c = reading.counted old p e counts.stood p_is in (
                      ap (λ (y : OpenOperation). y.needed) (sym f) ∙ c.0,
                      ap (λ (y : OpenOperation). y.reads) (sym f) ∙ c.1,
                      ap (λ (y : OpenOperation). y.key) (sym f) ∙ c.2,
                      λ t m. read_one_more old input fate from p e comes counts p_is t (ap (λ (y : OpenOperation). y.counted t) f ∙ m),
                    )
