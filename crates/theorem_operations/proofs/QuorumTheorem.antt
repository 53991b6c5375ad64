-- A majority read after the success of a majority write of its key has the write's record.
use Rattle.std.proofs.Common.{◌≡◌, ℕ, zero, suc, ◌<◌, ◌≤◌, List, [], ◌∷◌, ◌++◌, length, refl, sym, ap, subst, ◌∙◌, arith, Bool, true, false, Option, Some, None, ◌⊎◌, inl, inr}
use Rattle.std.specs.Prelude.{◌≢◌, if◌then◌else◌, find, slice_get, filter, option_map, option_and_then, nat_le}
use Rattle.std.specs.Str.{bytes_eq}
use Rattle.std.proofs.lemmas.Bool.{eq-eqb}
use Rattle.model_history.specs.Texts.{Text}
use Rattle.model_history.specs.Table.{identity_limit, identities}
use Rattle.model_history.specs.Vector.{IdentitySet, members_of, alone}
use Rattle.model_history.specs.History.{Action, Record, at, versions, HasRecord}
use Rattle.model_history.proofs.HistoryLaws.{with_at_same, slice_get-below}
use Rattle.model_history.proofs.PruneLaws.{IsIn, in_append, at_identities}
use Rattle.model_members.specs.View.{View, is_member}
use Rattle.model_members.specs.Entry.{Entry, has_records, with_action}
use Rattle.model_members.specs.DataType.{Replication, Meaning, meaning}
use Rattle.model_members.specs.Message.{Message}
use Rattle.model_members.specs.Message.Message.{Write, WriteAck, Read, ReadAnswer}
use Rattle.model_members.specs.Node.{KeyDecl, Node, OpenOperation, Finished, Level, Input, Fate, Reply, Stepped, KeyState, HasKey, one_step_later, needed, state_of, key_state, needed_number}
use Rattle.model_members.specs.Node.Result.{Wrote}
use Rattle.model_members.proofs.Cases.{stepped_at, delivered, got, got_needing}
use Rattle.model_members.specs.Step.{step, member_count, with_answer, result_of, read_result, value_reply, meaning_of}
use Rattle.model_members.specs.World.{World, Event, happens, run, start, moved_on, IsGiven, IsLawful, AreLawful}
use Rattle.model_members.specs.World.Event.{InputAt}
use Rattle.theorem_runs.proofs.Keeping.{if_holds}
use Rattle.theorem_runs.proofs.Parts.{all_known}
use Rattle.theorem_runs.proofs.RunViews.{same_some}
use Rattle.theorem_operations.specs.Quorum.{KeepsMembers, AllInstalled, Finishes, MajorityWrite, write_event, HasSucceeded, WriteThenRead, IsUnchanged, at_write, to_read, at_read, read_event, at_end, reply_in, ShowsWrite}
use Rattle.theorem_operations.proofs.Lists.{is_alone}
use Rattle.theorem_operations.proofs.Turns.{MakesStep, turn_makes, reply_is}
use Rattle.theorem_operations.proofs.Turns.MakesStep.{ByInput, ByDelivery}
use Rattle.theorem_operations.specs.Quorum.HasSucceeded.{AtOnce, Afterwards}
use Rattle.theorem_operations.proofs.Counting.{majorities_meet, has_member}
use Rattle.theorem_operations.proofs.Operations.{step_tells}
use Rattle.theorem_operations.proofs.Moments.{Stands, stands_start, stands_run, safe_at, run_append, lawful_first, lawful_rest, MessageFrom, messages_follow}
use Rattle.theorem_operations.proofs.Moments.MessageFrom.{OldOne, NewOne}
use Rattle.theorem_operations.proofs.Calm.{IsCalm, IsMade, HasIt, calm_next, made_next, held_next, has_key, has_record, has_some, input_makes, runs_on}
use Rattle.theorem_operations.proofs.Phases.{HasMany, many_next, IsWriting, writing_next, IsReading, read_one_more, reading_next}
use Rattle.theorem_operations.proofs.Openings.{IsOpened, WriteTells, write_tells, ReadOpened, read_pending, read_at_once, read_one}

-- a set with this member has one
has_one : (p : ℕ → Bool) (xs : List ℕ) (x : ℕ) → IsIn xs x → p x ≡ true → 1 ≤ length (filter p xs)
has_one p [] x h e = absurd (cc h.1)
has_one p (y ∷ xs) x h e = go (p y) refl h.0 h.1 (λ m. has_one p xs x m e)
  where
    go : (b : Bool) → p y ≡ b → (k : ℕ) → slice_get (y ∷ xs) k ≡ Some x → (IsIn xs x → 1 ≤ length (filter p xs)) → 1 ≤ length (if b then y ∷ filter p xs else filter p xs)
    go true is k f later = omega arith
    go false is zero f later = absurd (let same : y ≡ x = cc f in let g = sym is ∙ ap p same ∙ e in cc g)
    go false is (suc k) f later = later (k, f)

-- a write at its running member
pub record WriteAt {Kind Op Shown : Type 0} (world : World Kind Op Shown) : Type 0 where
  pub writer : ℕ
  pub key : Text
  pub operation : Op
  pub cap : ℕ
  pub fate : Fate
  pub node : Node Kind Op Shown
  pub runs : world.nodes writer ≡ Some node

module _ {Kind Op Shown : Type 0} (D : Replication Kind Op Shown) where
  module _ (world : World Kind Op Shown) (w : WriteAt world) where
    abbrev pub write_input : Input Op
    write_input = Input.Update w.key w.operation (Level.Majority w.cap)

    abbrev pub written_by : Event Op
    written_by = InputAt w.writer write_input w.fate

    abbrev pub write_step : Stepped Kind Op Shown
    write_step = step D w.node write_input w.fate

  -- an input at a member and a delivery to one are no messages of the other kind
  not_taken : (world : World Kind Op Shown) (i t from : ℕ) (given input : Input Op) (fate fate' : Fate) (message : Message Op) → ((f : ℕ) (m : Message Op) → given ≡ Input.Take f m → ⊥) → MakesStep world (InputAt i given fate) t input fate' → input ≡ Input.Take from message → ⊥
  not_taken world i t from given input fate fate' message never (ByInput e) is = let same : given ≡ input = cc e in never from message (same ∙ is)
  not_taken world i t from given input fate fate' message never (ByDelivery f index m e sent was) is = cc e

  same_input : (world : World Kind Op Shown) (i t : ℕ) (given input : Input Op) (fate fate' : Fate) → MakesStep world (InputAt i given fate) t input fate' → given ≡ input
  same_input world i t given input fate fate' (ByInput e) = cc e
  same_input world i t given input fate fate' (ByDelivery f index m e sent was) = absurd (cc e)

  -- a get changes no entry
  get_keeps : (node : Node Kind Op Shown) (key : Text) (level : Level) (fate : Fate) → (step D node (Input.Get key level) fate).node.entries ≡ node.entries
  get_keeps node key level fate = by_state (key_state (one_step_later node) key)
    where
      by_number : (k : KeyState Kind Op) (n : Option ℕ) → (got_needing D (one_step_later node) k n).node.entries ≡ node.entries
      by_number k None = refl
      by_number k (Some n) = if_holds (λ (z : Stepped Kind Op Shown). z.node.entries ≡ node.entries) (nat_le n 1) _ _ refl refl

      by_state : (state : Option (KeyState Kind Op)) → (got D (one_step_later node) state level).node.entries ≡ node.entries
      by_state None = refl
      by_state (Some k) = by_number k (needed level (member_count (one_step_later node)))

  module _ (members : ℕ) (keys : List (KeyDecl Kind)) where
    -- THE WRITE

    module _ (world : World Kind Op Shown) (stands : Stands D members keys world) (installed : AllInstalled world) (w : WriteAt world) (lawful : IsLawful D world (written_by world w)) where
      abbrev i : ℕ
      i = w.writer

      abbrev V : View
      V = world.view

      abbrev k : ℕ
      k = at (w.node.entries w.key).history w.writer

      abbrev x : Record Op
      x = record { action = Action.Operation w.operation; past = versions (w.node.entries w.key).history }

      abbrev next : World Kind Op Shown
      next = happens D world (written_by world w)

      abbrev new : Node Kind Op Shown
      new = (write_step world w).node

      calm : IsCalm D members keys V world
      calm = record { stands = stands; view = refl; installed = installed }

      new_runs : next.nodes i ≡ Some new
      new_runs = input_makes D members keys world i w.node (Input.Update w.key w.operation (Level.Majority w.cap)) w.fate w.runs

      identity_is : w.node.identity ≡ i
      identity_is = ((safe_at D members keys world stands).views.running i w.node w.runs).identity

      i_member : is_member V i ≡ true
      i_member = ((safe_at D members keys world stands).views.running i w.node w.runs).last

      i_small : i < identity_limit
      i_small = let safe = safe_at D members keys world stands in let a = safe.logs.few in let b = safe.logs.given i w.node w.runs in omega arith

      module _ (tells : WriteTells D w.node w.key w.operation (Level.Majority w.cap) (write_step world w)) where
        abbrev n : ℕ
        n = needed_number (Level.Majority w.cap) (length V.members)

        same_needed : needed_number (Level.Majority w.cap) (member_count w.node) ≡ n
        same_needed = ap (λ (v : View). needed_number (Level.Majority w.cap) (length v.members)) (installed i w.node w.runs)

        row : (new.entries w.key).history i ≡ (w.node.entries w.key).history i ++ x ∷ []
        row =
            ap (λ (e : Entry Op). e.history i) tells.written.entry
            ∙ ap (λ j. (with_action (w.node.entries w.key) j (Action.Operation w.operation)).history i) identity_is
            ∙ with_at_same (w.node.entries w.key).history i ((w.node.entries w.key).history i ++ x ∷ [])

        last_one : (rs : List (Record Op)) (r : Record Op) → slice_get (rs ++ r ∷ []) (length rs) ≡ Some r
        last_one [] r = refl
        last_one (y ∷ rs) r = last_one rs r

        made_here : HasRecord (new.entries w.key).history i k x
        made_here = ap (λ (rs : List (Record Op)). slice_get rs k) row ∙ last_one ((w.node.entries w.key).history i) x

        pub written_made : IsMade D members keys V tells.decl w.key i k x next
        written_made =
            record {
              calm = calm_next D members keys V world calm (written_by world w) lawful tt;
              declared = ap (find (λ (d : KeyDecl Kind). bytes_eq d.name w.key)) (sym stands.same_keys ∙ sym ((safe_at D members keys world stands).views.running i w.node w.runs).keys) ∙ tells.declared;
              runs = i_member;
              made = λ node e. subst (λ (m : Node Kind Op Shown). HasRecord (m.entries w.key).history i k x) (same_some (next.nodes i) new node new_runs e) made_here;
            }

        i_has : HasIt D members keys V tells.decl w.key i k x next i
        i_has node e = slice_get-below ((node.entries w.key).history i) x k (written_made.made node e)

        alone_has : (t : ℕ) → alone i t ≡ true → (is_member V t ≡ true) × HasIt D members keys V tells.decl w.key i k x next t
        alone_has t e = subst (λ u. (is_member V u ≡ true) × HasIt D members keys V tells.decl w.key i k x next u) (sym (is_alone i t e)) (i_member, i_has)

        -- a write that needs no answers
        pub done_at_once : (write_step world w).output.reply ≡ Reply.Done → HasMany D members keys V tells.decl w.key i k x n next
        done_at_once e =
            record {
              set = alone i;
              many = let a = tells.written.done e in let b = same_needed in let c = has_one (alone i) identities i (at_identities i i_small) (eq-eqb i i refl) in omega arith;
              each = alone_has;
            }

        -- a write that waits for them
        pub begins_writing : (p : ℕ) → (write_step world w).output.reply ≡ Reply.Pending p → IsWriting D members keys V tells.decl w.key i k x p n next
        begins_writing p pending =
            record {
              made = written_made;
              later = λ node e. let a : new.next_op ≡ node.next_op = ap (λ (m : Node Kind Op Shown). m.next_op) (same_some (next.nodes i) new node new_runs e) in let b = is_open.number in let c = is_open.next in omega arith;
              asked = λ t index name entry e. asked t name entry (messages_follow D world (written_by world w) lawful i t index (Write p name entry) e);
              acked = λ t index e. absurd (acked t (messages_follow D world (written_by world w) lawful t i index (WriteAck p) e));
              counted = λ node o e h same. counted o (subst (λ (m : Node Kind Op Shown). IsIn m.open_operations o) (sym (same_some (next.nodes i) new node new_runs e)) h) same;
              done = λ node f e h same. absurd (none_done f (subst (λ (m : Node Kind Op Shown). IsIn m.finished f) (sym (same_some (next.nodes i) new node new_runs e)) h) same);
            }
          where
            is_open : IsOpened D w.node w.key false (needed_number (Level.Majority w.cap) (member_count w.node)) p (write_step world w)
            is_open = tells.written.pending p pending

            asked : (t : ℕ) (name : Text) (entry : Entry Op) → MessageFrom D (written_by world w) world next i t (Write p name entry) → (name ≡ w.key) × (k < at entry.history i)
            asked t name entry (OldOne index e) = absurd (let a : p < w.node.next_op = stands.numbers.asked i t index (Write p name entry) w.node e w.runs in let b = is_open.number in omega arith)
            asked t name entry (NewOne old input fate runs makes comes now member told) =
                let given : Input.Update w.key w.operation (Level.Majority w.cap) ≡ input = same_input world i i (Input.Update w.key w.operation (Level.Majority w.cap)) input w.fate fate makes in
                let u = told.3 in
                let both : Input.Update w.key w.operation (Level.Majority w.cap) ≡ Input.Update name u.0 u.1 = given ∙ u.2 in
                let key_is : w.key ≡ name = cc both in
                let same : (step D old input fate).node ≡ new = same_some (next.nodes i) (step D old input fate).node new now new_runs in
                let held : entry ≡ new.entries w.key = told.2 ∙ ap (λ (m : Node Kind Op Shown). m.entries name) same ∙ ap new.entries (sym key_is) in
                let more = i_has new new_runs in
                let count : at entry.history i ≡ at (new.entries w.key).history i = ap (λ (e : Entry Op). at e.history i) held in
                (sym key_is, omega arith)

            acked : (t : ℕ) → MessageFrom D (written_by world w) world next t i (WriteAck p) → ⊥
            acked t (OldOne index e) = let a : p < w.node.next_op = stands.numbers.told t i index (WriteAck p) w.node e w.runs in let b = is_open.number in omega arith
            acked t (NewOne old input fate runs makes comes now member told) =
                not_taken world i t i (Input.Update w.key w.operation (Level.Majority w.cap)) input w.fate fate (Write p told.0 told.1) (λ f m e. cc e) makes told.2

            counted : (o : OpenOperation) → IsIn new.open_operations o → o.op ≡ p → (o.needed ≡ n) × (o.reads ≡ false) × ((t : ℕ) → o.counted t ≡ true → (is_member V t ≡ true) × HasIt D members keys V tells.decl w.key i k x next t)
            counted o h same = by (in_append w.node.open_operations _ o (subst (λ (os : List OpenOperation). IsIn os o) is_open.operations h))
              where
                the_new : OpenOperation
                the_new = record { op = w.node.next_op; key = w.key; reads = false; needed = needed_number (Level.Majority w.cap) (member_count w.node); counted = alone w.node.identity }

                by_new : record { op = w.node.next_op; key = w.key; reads = false; needed = needed_number (Level.Majority w.cap) (member_count w.node); counted = alone w.node.identity } ≡ o
                    → (o.needed ≡ n) × (o.reads ≡ false) × ((t : ℕ) → o.counted t ≡ true → (is_member V t ≡ true) × HasIt D members keys V tells.decl w.key i k x next t)
                by_new e = (
                  ap (λ (y : OpenOperation). y.needed) (sym e) ∙ same_needed,
                  ap (λ (y : OpenOperation). y.reads) (sym e),
                  λ t m. alone_has t (ap (λ j. alone j t) (sym identity_is) ∙ ap (λ (y : OpenOperation). y.counted t) e ∙ m),
                )

                by : IsIn w.node.open_operations o ⊎ IsIn (record { op = w.node.next_op; key = w.key; reads = false; needed = needed_number (Level.Majority w.cap) (member_count w.node); counted = alone w.node.identity } ∷ []) o
                    → (o.needed ≡ n) × (o.reads ≡ false) × ((t : ℕ) → o.counted t ≡ true → (is_member V t ≡ true) × HasIt D members keys V tells.decl w.key i k x next t)
                by (inl old) = absurd (let a = stands.numbers.stood i w.node o w.runs old in let b = is_open.number in omega arith)
                by (inr (zero, e)) = by_new (cc e)
                by (inr (suc m, e)) = absurd (cc e)

            none_done : (f : Finished Shown) → IsIn new.finished f → f.op ≡ p → ⊥
            none_done f h same = let a = stands.numbers.done i w.node f w.runs (subst (λ (fs : List (Finished Shown)). IsIn fs f) is_open.finished h) in let b = is_open.number in omega arith

    -- THE READ

    module _ (V : View) (decl : KeyDecl Kind) (key : Text) (i k : ℕ) (x : Record Op) (world : World Kind Op Shown) (made : IsMade D members keys V decl key i k x world) (n : ℕ) (has : HasMany D members keys V decl key i k x n world)
        (j cap : ℕ) (fate : Fate) (node : Node Kind Op Shown) (runs : world.nodes j ≡ Some node) where
      abbrev the_input : Input Op
      the_input = Input.Get key (Level.Majority cap)

      abbrev the_event : Event Op
      the_event = InputAt j the_input fate

      abbrev after : World Kind Op Shown
      after = happens D world the_event

      abbrev stepped : Node Kind Op Shown
      stepped = (step D node the_input fate).node

      the_key : HasKey node key decl.kind
      the_key = has_key D members keys V decl key i k x world made j node runs

      j_member : is_member V j ≡ true
      j_member = ap (λ (v : View). is_member v j) (sym made.calm.view) ∙ ((safe_at D members keys world made.calm.stands).views.running j node runs).last

      abbrev needs : ℕ
      needs = needed_number (Level.Majority cap) (length V.members)

      same_needs : needed_number (Level.Majority cap) (member_count node) ≡ needs
      same_needs = ap (λ (v : View). needed_number (Level.Majority cap) (length v.members)) (made.calm.installed j node runs)

      identity_j : node.identity ≡ j
      identity_j = ((safe_at D members keys world made.calm.stands).views.running j node runs).identity

      stepped_runs : after.nodes j ≡ Some stepped
      stepped_runs = input_makes D members keys world j node the_input fate runs

      pub begins_reading : IsLawful D world the_event → (p : ℕ) → (step D node the_input fate).output.reply ≡ Reply.Pending p → IsReading D members keys V decl key i k x j has.set p needs after
      begins_reading lawful p pending =
          record {
            made = made_next D members keys V decl key i k x world made the_event lawful tt;
            held = λ t s. held_next D members keys V decl key i k x world made the_event lawful tt t (has.each t s).1;
            later = λ m e. let a : stepped.next_op ≡ m.next_op = ap (λ (m : Node Kind Op Shown). m.next_op) (same_some (after.nodes j) stepped m stepped_runs e) in let b = is_open.number in let c = is_open.next in omega arith;
            asked = λ t index name e. asked t name (messages_follow D world the_event lawful j t index (Read p name) e);
            told = λ t index name entry e. absurd (told t name entry (messages_follow D world the_event lawful t j index (ReadAnswer p name entry) e));
            counted = λ m o e h same.
                let is : stepped ≡ m = same_some (after.nodes j) stepped m stepped_runs e in
                subst (λ (m : Node Kind Op Shown). (o.needed ≡ needs) × (o.reads ≡ true) × (o.key ≡ key) × ((t : ℕ) → o.counted t ≡ true → (is_member V t ≡ true) × (has.set t ≡ true → k < at (m.entries key).history i))) is
                (counted o (subst (λ (m : Node Kind Op Shown). IsIn m.open_operations o) (sym is) h) same);
          }
        where
          opening : ReadOpened D node key decl.kind (has_key D members keys V decl key i k x world made j node runs) cap fate p
          opening = read_pending D node key decl.kind (has_key D members keys V decl key i k x world made j node runs) cap fate p pending

          is_open : IsOpened D node key true (needed_number (Level.Majority cap) (member_count node)) p (step D node the_input fate)
          is_open = opening.is_open

          asked : (t : ℕ) (name : Text) → MessageFrom D the_event world after j t (Read p name) → name ≡ key
          asked t name (OldOne index e) = absurd (let a : p < node.next_op = made.calm.stands.numbers.asked j t index (Read p name) node e runs in let b = is_open.number in omega arith)
          asked t name (NewOne old given fate' ran makes comes now member told) =
              let u = told.2 in
              let both : Input.Get key (Level.Majority cap) ≡ Input.Get name u.0 = same_input world j j the_input given fate fate' makes ∙ u.1 in
              let is : key ≡ name = cc both in sym is

          told : (t : ℕ) (name : Text) (entry : Option (Entry Op)) → MessageFrom D the_event world after t j (ReadAnswer p name entry) → ⊥
          told t name entry (OldOne index e) = let a : p < node.next_op = made.calm.stands.numbers.told t j index (ReadAnswer p name entry) node e runs in let b = is_open.number in omega arith
          told t name entry (NewOne old given fate' ran makes comes now member tells) = not_taken world j t j the_input given fate fate' (Read p name) (λ f m e. cc e) makes tells.0

          counted : (o : OpenOperation) → IsIn stepped.open_operations o → o.op ≡ p
              → (o.needed ≡ needs) × (o.reads ≡ true) × (o.key ≡ key) × ((t : ℕ) → o.counted t ≡ true → (is_member V t ≡ true) × (has.set t ≡ true → k < at (stepped.entries key).history i))
          counted o h same = by (in_append node.open_operations _ o (subst (λ (os : List OpenOperation). IsIn os o) is_open.operations h))
            where
              by_new : record { op = node.next_op; key = key; reads = true; needed = needed_number (Level.Majority cap) (member_count node); counted = alone node.identity } ≡ o
                  → (o.needed ≡ needs) × (o.reads ≡ true) × (o.key ≡ key) × ((t : ℕ) → o.counted t ≡ true → (is_member V t ≡ true) × (has.set t ≡ true → k < at (stepped.entries key).history i))
              by_new e = (
                ap (λ (y : OpenOperation). y.needed) (sym e) ∙ same_needs,
                ap (λ (y : OpenOperation). y.reads) (sym e),
                ap (λ (y : OpenOperation). y.key) (sym e),
                λ t m.
                    let t_is : t ≡ j = is_alone j t (ap (λ l. alone l t) (sym identity_j) ∙ ap (λ (y : OpenOperation). y.counted t) e ∙ m) in (
                      ap (is_member V) t_is ∙ j_member,
                      λ s.
                          let a = (has.each t s).1 node (ap world.nodes t_is ∙ runs) in
                          let b : at (stepped.entries key).history i ≡ at (node.entries key).history i = ap (λ (f : Text → Entry Op). at (f key).history i) opening.entries in omega arith,
                    ),
              )

              by : IsIn node.open_operations o ⊎ IsIn (record { op = node.next_op; key = key; reads = true; needed = needed_number (Level.Majority cap) (member_count node); counted = alone node.identity } ∷ []) o
                  → (o.needed ≡ needs) × (o.reads ≡ true) × (o.key ≡ key) × ((t : ℕ) → o.counted t ≡ true → (is_member V t ≡ true) × (has.set t ≡ true → k < at (stepped.entries key).history i))
              by (inl old) = absurd (let a = made.calm.stands.numbers.stood j node o runs old in let b = is_open.number in omega arith)
              by (inr (zero, e)) = by_new (cc e)
              by (inr (suc m, e)) = absurd (cc e)

      -- a read that needs no answers
      pub shows_at_once : (wcap : ℕ) → n ≡ needed_number (Level.Majority wcap) (length V.members) → ((p : ℕ) → (step D node the_input fate).output.reply ≡ Reply.Pending p → ⊥)
          → ((step D node the_input fate).output.reply ≡ value_reply D (Some (meaning D.data_type decl.kind (node.entries key).history))) × HasRecord (node.entries key).history i k x
      shows_at_once wcap n_is never =
          let has_it = (λ (some_records : has_records (node.entries key) ≡ true). read_at_once D node key decl.kind the_key cap fate never some_records) in
          let small : j < identity_limit = (let safe = safe_at D members keys world made.calm.stands in let a = safe.logs.few in let b = safe.logs.given j node runs in omega arith) in
          let one = read_fits in
          let meets = majorities_meet V wcap cap has.set (alone j) (has_member V j j_member) (λ t s. (has.each t s).0) (λ t s. ap (is_member V) (is_alone j t s) ∙ j_member) (subst (λ m. m ≤ length (members_of has.set)) n_is has.many)
          (let a = has_one (alone j) identities j (at_identities j small) (eq-eqb j j refl) in let b = same_needs in let c = one in omega arith) in
          let more : k < at (node.entries key).history i = (has.each meets.0 meets.1).1 node (ap world.nodes (is_alone j meets.0 meets.2) ∙ runs) in (
            (has_it (has_some D members keys V decl key i k x world made (node.entries key) more)).1,
            has_record D members keys V decl key i k x world made j node runs more,
          )
        where
          read_fits : needed_number (Level.Majority cap) (member_count node) ≤ 1
          read_fits = read_one D node key decl.kind (has_key D members keys V decl key i k x world made j node runs) cap fate never

    -- THE END OF A READ

    module _ (V : View) (decl : KeyDecl Kind) (key : Text) (i k : ℕ) (x : Record Op) (j : ℕ) (S : IdentitySet) (p cap wcap : ℕ) (world : World Kind Op Shown) (reading : IsReading D members keys V decl key i k x j S p (needed_number (Level.Majority cap) (length V.members)) world)
        (in_S : (t : ℕ) → S t ≡ true → is_member V t ≡ true) (many : needed_number (Level.Majority wcap) (length V.members) ≤ length (members_of S)) where
      comes_of : (event : Event Op) → IsLawful D world event → (input : Input Op) (fate : Fate) → MakesStep world event j input fate → IsGiven D world j input
      comes_of event lawful input fate (ByInput e) = (subst (λ (ev : Event Op). IsLawful D world ev) e lawful).0
      comes_of event lawful input fate (ByDelivery from index message e sent is) = subst (λ (x : Input Op). IsGiven D world j x) (sym is) (index, message, λ key. true, sent, sym (all_known message))

      leaves_of : (event : Event Op) (input : Input Op) (fate : Fate) → MakesStep world event j input fate → KeepsMembers event
      leaves_of event input fate (ByInput e) = subst (λ (ev : Event Op). KeepsMembers ev) (sym e) tt
      leaves_of event input fate (ByDelivery from index message e sent is) = subst (λ (ev : Event Op). KeepsMembers ev) (sym e) tt

      -- the member after the step
      made_it : (event : Event Op) (lawful : IsLawful D world event) (old : Node Kind Op Shown) → world.nodes j ≡ Some old → (input : Input Op) (fate : Fate) → MakesStep world event j input fate → (happens D world event).nodes j ≡ Some (step D old input fate).node
      made_it event lawful old runs input fate (ByInput e) = subst (λ (ev : Event Op). (happens D world ev).nodes j ≡ Some (step D old input fate).node) (sym e) (input_makes D members keys world j old input fate runs)
      made_it event lawful old runs input fate (ByDelivery from index message e sent is) =
          subst (λ (ev : Event Op). (happens D world ev).nodes j ≡ Some (step D old input fate).node) (sym e)
          (ap (λ m. (delivered D world from j index m fate).nodes j) sent
          ∙ ap (λ o. (stepped_at D (record world { links = moved_on world.links from j index }) j o (Input.Take from message) fate).nodes j) runs
          ∙ with_at_same world.nodes j (Some (step D old (Input.Take from message) fate).node)
          ∙ ap (λ (l : Input Op). Some (step D old l fate).node) (sym is))

      pub read_ends : (event : Event Op) → IsLawful D world event → (end : Finished Shown) (old : Node Kind Op Shown) (input : Input Op) (fate : Fate) → world.nodes j ≡ Some old → MakesStep world event j input fate → (step D old input fate).output.ended ≡ Some end → end.op ≡ p
          → ((happens D world event).nodes j ≡ Some (step D old input fate).node) × (end.result ≡ read_result D (Some (meaning D.data_type decl.kind ((step D old input fate).node.entries key).history))) × HasRecord ((step D old input fate).node.entries key).history i k x
      read_ends event lawful end old input fate old_runs makes ended is =
          let new = (step D old input fate).node in
          let comes = comes_of event lawful input fate makes in
          let leaves = leaves_of event input fate makes in
          let by = (step_tells D old input fate).ended end ended in
          let q = by.operation in
          let q_is : q.op ≡ p = ap (λ (y : Finished Shown). y.op) by.is ∙ is in
          let c = reading.counted old q old_runs by.counts.stood q_is in
          let each = read_one_more D members keys V decl key i k x j S p (needed_number (Level.Majority cap) (length V.members)) world reading old input fate by.from q old_runs comes by.counts q_is in
          let meets = majorities_meet V wcap cap S (with_answer by.from q).counted (has_member V i reading.made.runs) in_S (λ t m. (each t m).0) many
          (subst (λ m. m ≤ length (members_of (with_answer by.from q).counted)) c.0 by.enough) in
          let more : k < at (new.entries key).history i = (each meets.0 meets.2).1 meets.1 in
          let made = made_next D members keys V decl key i k x world reading.made event lawful leaves in
          let runs : (happens D world event).nodes j ≡ Some new = made_it event lawful old old_runs input fate makes in
          let the_key = has_key D members keys V decl key i k x (happens D world event) made j new runs in
          let state : key_state new key ≡ Some (state_of new (record { name = key; kind = decl.kind; durable = the_key.0 })) = ap (option_map (state_of new)) the_key.1 in
          let some_records = has_some D members keys V decl key i k x (happens D world event) made (new.entries key) more in
          let result : result_of D new q ≡ read_result D (Some (meaning D.data_type decl.kind (new.entries key).history)) =
          ap (λ b. if b then read_result D (option_and_then (meaning_of D) (key_state new q.key)) else Wrote) c.1
          ∙ ap (λ n. read_result D (option_and_then (meaning_of D) (key_state new n))) c.2
          ∙ ap (λ o. read_result D (option_and_then (meaning_of D) o)) state
          ∙ ap (λ b. read_result D (if b then Some (meaning D.data_type decl.kind (new.entries key).history) else None)) some_records in
          (runs, ap (λ (y : Finished Shown). y.result) (sym by.is) ∙ result, has_record D members keys V decl key i k x (happens D world event) made j new runs more)

  -- ALL TOGETHER

  module _ (members : ℕ) (keys : List (KeyDecl Kind)) (r : WriteThenRead Op) (u : IsUnchanged D members keys r) where
    abbrev first : World Kind Op Shown
    first = start members keys

    abbrev w : MajorityWrite Op
    w = r.write

    abbrev the_view : View
    the_view = (at_write D members keys r).view

    to_read_lawful : AreLawful D first (r.before ++ write_event w ∷ r.between)
    to_read_lawful = lawful_first D first (to_read r) (read_event r ∷ r.after) u.is_run.lawful

    from_write : AreLawful D (at_write D members keys r) (write_event w ∷ r.between)
    from_write = lawful_rest D first r.before (write_event w ∷ r.between) to_read_lawful

    from_read : AreLawful D (at_read D members keys r) (read_event r ∷ r.after)
    from_read = lawful_rest D first (to_read r) (read_event r ∷ r.after) u.is_run.lawful

    stands : Stands D members keys (at_write D members keys r)
    stands = stands_run D members keys first (stands_start D members keys u.is_run.some u.is_run.few) r.before (lawful_first D first r.before (write_event w ∷ r.between) to_read_lawful)

    -- the writer before the write, and the reader before the read
    abbrev the_write : WriteAt (at_write D members keys r)
    the_write = record { writer = w.writer; key = w.key; operation = w.operation; cap = w.cap; fate = w.fate; node = from_write.0.1.node; runs = from_write.0.1.runs }

    abbrev reader : Node Kind Op Shown
    reader = from_read.0.1.node

    abbrev reader_runs : (at_read D members keys r).nodes r.reader ≡ Some reader
    reader_runs = from_read.0.1.runs

    written_replies : (reply : Reply Shown) → reply_in D (at_write D members keys r) (write_event w) ≡ Some reply → (write_step (at_write D members keys r) the_write).output.reply ≡ reply
    written_replies reply e = let f = sym (reply_is D (at_write D members keys r) w.writer the_write.node (Input.Update w.key w.operation (Level.Majority w.cap)) w.fate the_write.runs) ∙ e in cc f

    abbrev read_input : Input Op
    read_input = Input.Get w.key (Level.Majority r.cap)

    read_replies : (reply : Reply Shown) → reply_in D (at_read D members keys r) (read_event r) ≡ Some reply → (step D reader read_input r.fate).output.reply ≡ reply
    read_replies reply e = let f = sym (reply_is D (at_read D members keys r) r.reader reader read_input r.fate reader_runs) ∙ e in cc f

    abbrev written : World Kind Op Shown
    written = happens D (at_write D members keys r) (write_event w)

    same_read : run D written r.between ≡ at_read D members keys r
    same_read = sym (run_append D first r.before (write_event w ∷ r.between))

    abbrev enough : ℕ
    enough = needed_number (Level.Majority w.cap) (length the_view.members)

    abbrev index : ℕ
    index = at (the_write.node.entries w.key).history w.writer

    abbrev the_record : Record Op
    the_record = record { action = Action.Operation w.operation; past = versions (the_write.node.entries w.key).history }

    -- when the read begins, so many members have the record
    record IsReady (decl : KeyDecl Kind) (world : World Kind Op Shown) : Type 0 where
      made : IsMade D members keys the_view decl w.key w.writer index the_record world
      many : HasMany D members keys the_view decl w.key w.writer index the_record enough world

    ready_next : (decl : KeyDecl Kind) (world : World Kind Op Shown) (event : Event Op) → IsReady decl world → IsLawful D world event → KeepsMembers event → IsReady decl (happens D world event)
    ready_next decl world event ready lawful leaves =
        record {
          made = made_next D members keys the_view decl w.key w.writer index the_record world ready.made event lawful leaves;
          many = many_next D members keys the_view decl w.key w.writer index the_record enough world ready.made event lawful leaves ready.many;
        }

    tells_of : HasSucceeded D (at_write D members keys r) w (at_read D members keys r) → WriteTells D the_write.node w.key w.operation (Level.Majority w.cap) (write_step (at_write D members keys r) the_write)
    tells_of (AtOnce e) = write_tells D the_write.node w.key w.operation (Level.Majority w.cap) w.fate (inl (written_replies Reply.Done e))
    tells_of (Afterwards op node e runs done) = write_tells D the_write.node w.key w.operation (Level.Majority w.cap) w.fate (inr (op, written_replies (Reply.Pending op) e))

    ready : (s : HasSucceeded D (at_write D members keys r) w (at_read D members keys r)) → IsReady (tells_of s).decl (at_read D members keys r)
    unfolding tells_of
    ready (AtOnce e) =
        let done = written_replies Reply.Done e in
        let tells = write_tells D the_write.node w.key w.operation (Level.Majority w.cap) w.fate (inl done) in
        subst (IsReady tells.decl) same_read
        (runs_on D members keys (IsReady tells.decl) (λ world event. ready_next tells.decl world event) written r.between
        (record {
          made = written_made members keys (at_write D members keys r) stands u.installed the_write from_write.0 tells;
          many = done_at_once members keys (at_write D members keys r) stands u.installed the_write from_write.0 tells done;
        }) from_write.1 u.between)
    ready (Afterwards op node e runs done) =
        let pending = written_replies (Reply.Pending op) e in
        let tells = write_tells D the_write.node w.key w.operation (Level.Majority w.cap) w.fate (inr (op, pending)) in
        let P : World Kind Op Shown → Type 0 = IsWriting D members keys the_view tells.decl w.key w.writer index the_record op enough in
        let writing : P (at_read D members keys r) =
        subst P same_read
        (runs_on D members keys P (λ world event p lawful leaves. writing_next D members keys the_view tells.decl w.key w.writer index the_record op enough world p event lawful leaves) written r.between
        (begins_writing members keys (at_write D members keys r) stands u.installed the_write from_write.0 tells op pending) from_write.1 u.between) in
        record { made = writing.made; many = writing.done node (record { op = op; result = Wrote }) runs done refl }

    abbrev decl : KeyDecl Kind
    decl = (tells_of u.succeeded).decl

    -- what the reader then has
    shows : (world : World Kind Op Shown) (node : Node Kind Op Shown) → world.nodes r.reader ≡ Some node → HasRecord (node.entries w.key).history w.writer index the_record → ShowsWrite D members keys r world (meaning D.data_type decl.kind (node.entries w.key).history)
    shows world node runs has =
        record { node = node; runs = runs; decl = decl; declared = (ready u.succeeded).made.declared; is = refl; has = record { node = the_write.node; runs = the_write.runs; has = has } }

    pub at_once : (reply : Reply Shown) → reply_in D (at_read D members keys r) (read_event r) ≡ Some reply → ((op : ℕ) → reply ≢ Reply.Pending op)
        → (means : Meaning Shown) × (reply ≡ value_reply D (Some means)) × ShowsWrite D members keys r (happens D (at_read D members keys r) (read_event r)) means
    at_once reply reads never =
        let now = ready u.succeeded in
        let replies = read_replies reply reads in
        let at_once = shows_at_once members keys the_view decl w.key w.writer index the_record (at_read D members keys r) now.made enough now.many r.reader r.cap r.fate reader reader_runs w.cap refl (λ p e. never p (sym replies ∙ e)) in
        let new = (step D reader read_input r.fate).node in
        let runs : (happens D (at_read D members keys r) (read_event r)).nodes r.reader ≡ Some new = input_makes D members keys (at_read D members keys r) r.reader reader read_input r.fate reader_runs in
        let same : new.entries ≡ reader.entries = get_keeps reader w.key (Level.Majority r.cap) r.fate in
        let is : reply ≡ value_reply D (Some (meaning D.data_type decl.kind (new.entries w.key).history)) = sym replies ∙ at_once.0 ∙ ap (λ (f : Text → Entry Op). value_reply D (Some (meaning D.data_type decl.kind (f w.key).history))) (sym same) in
        let has : HasRecord (new.entries w.key).history w.writer index the_record = subst (λ (f : Text → Entry Op). HasRecord (f w.key).history w.writer index the_record) (sym same) at_once.1 in
        (meaning D.data_type decl.kind (new.entries w.key).history, is, shows (happens D (at_read D members keys r) (read_event r)) new runs has)

    pub later : (op : ℕ) → reply_in D (at_read D members keys r) (read_event r) ≡ Some (Reply.Pending op) → (event : Event Op) (end : Finished Shown) → IsLawful D (at_end D members keys r) event
        → Finishes D (at_end D members keys r) event r.reader end → end.op ≡ op → (means : Meaning Shown) × (end.result ≡ read_result D (Some means)) × ShowsWrite D members keys r (happens D (at_end D members keys r) event) means
    later op reads event end lawful finishes is =
        let now = ready u.succeeded in
        let P : World Kind Op Shown → Type 0 = IsReading D members keys the_view decl w.key w.writer index the_record r.reader now.many.set op (needed_number (Level.Majority r.cap) (length the_view.members)) in
        let begun = begins_reading members keys the_view decl w.key w.writer index the_record (at_read D members keys r) now.made enough now.many r.reader r.cap r.fate reader reader_runs from_read.0 op (read_replies (Reply.Pending op) reads) in
        let reading : P (at_end D members keys r) =
        subst P (sym (run_append D first (to_read r) (read_event r ∷ r.after)))
        (runs_on D members keys P (λ world event p lawful leaves. reading_next D members keys the_view decl w.key w.writer index the_record r.reader now.many.set op (needed_number (Level.Majority r.cap) (length the_view.members)) world p event lawful leaves)
        (happens D (at_read D members keys r) (read_event r)) r.after begun from_read.1 u.after) in
        let turn = finishes.turn in
        let at_turn = turn_makes (at_end D members keys r) event turn finishes.takes in
        let runs : (at_end D members keys r).nodes r.reader ≡ Some turn.before = ap (at_end D members keys r).nodes (sym finishes.its) ∙ at_turn.runs in
        let makes : MakesStep (at_end D members keys r) event r.reader turn.input turn.fate = subst (λ j. MakesStep (at_end D members keys r) event j turn.input turn.fate) finishes.its at_turn.makes in
        let ends = read_ends members keys the_view decl w.key w.writer index the_record r.reader now.many.set op r.cap w.cap (at_end D members keys r) reading (λ t s. (now.many.each t s).0) now.many.many event lawful end turn.before turn.input turn.fate runs makes finishes.ended is in
        let new = (step D turn.before turn.input turn.fate).node in
        (meaning D.data_type decl.kind (new.entries w.key).history, ends.1, shows (happens D (at_end D members keys r) event) new ends.0 ends.2)
