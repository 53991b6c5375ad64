-- What a step does to a member's operations, and what it posts: one look at each kind of input.
use Rattle.std.proofs.Common.{◌≡◌, ℕ, zero, suc, ◌+◌, ◌<◌, ◌≤◌, List, [], ◌∷◌, ◌++◌, length, refl, sym, ap, subst, ◌∙◌, arith, Bool, true, false, Option, Some, None, inl, inr}
use Rattle.std.specs.Prelude.{⊤, if◌then◌else◌, find, filter, is_some, map, not, ◌||◌, ◌&&◌, ◌==◌, nat_le, option_map}
use Rattle.std.specs.List.{AllByRecursion, list_any}
use Rattle.std.specs.Str.{bytes_eq}
use Rattle.std.proofs.lemmas.Bool.{leb-true, leb-false}
use Rattle.model_history.specs.Texts.{Text}
use Rattle.model_history.specs.Vector.{alone, members_of}
use Rattle.model_history.proofs.PruneLaws.{IsIn, in_append, found}
use Rattle.model_meanings.specs.Refusal.{Refusal}
use Rattle.model_members.specs.View.{View, is_member, identities_of, others, leader}
use Rattle.model_members.specs.Entry.{Entry, Group, Judgement, judged}
use Rattle.model_members.specs.Entry.Judgement.{Wanted, Stale, Missing}
use Rattle.model_members.specs.DataType.{Replication}
use Rattle.model_members.specs.Message.{Keyed, Message, Post}
use Rattle.model_members.specs.Message.Message.{Deltas, Nack, Status, Gossip, Write, WriteAck, WriteNack, Read, ReadAnswer}
use Rattle.model_members.specs.Node.{KeyState, Node, OpenOperation, Finished, Level, Input, Fate, Stepped, key_state, needed, one_step_later, with_entry, KeyDecl, Reply, key_states, state_of}
use Rattle.model_members.specs.Node.Input.{Update, Get, Take, Install, Flush, GossipTo, PruneTick, Timeout}
use Rattle.model_members.specs.Node.Reply.{Taken}
use Rattle.model_members.specs.Step.{AfterGroups, KeyGap, has_failed, is_group_passed_over, is_answered_by, with_answer, answered, opened, member_count, take_group, after_groups, after_entries, result_of, meaning_of, value_reply, took, nack_to, gossip_to, answer_to, write_answer, keyed_option, answered_entry, step_of_take, deltas_for, is_behind, step_of_flush, step_of, step}
use Rattle.model_members.proofs.Steps.{bytes_eq-same}
use Rattle.model_members.proofs.Taking.{after_entries-only}
use Rattle.model_members.proofs.Cases.{with_judged, with_taken_group, counted_for, accepted, updated, updated_needing, updated_unless, got, got_needing}
use Rattle.theorem_runs.proofs.Keeping.{if_holds, if_tells, fold_all, same_text}
use Rattle.theorem_runs.proofs.Sending.{all_filtered, all_mapped_by}
use Rattle.theorem_runs.proofs.Happening.{all_of, of_all}
use Rattle.theorem_operations.proofs.Lists.{in_end, in_filtered, in_mapped, find_in, in_any, first_true, second_true, not_true, same_number}

-- LISTS

others_are_members : (view : View) (i : ℕ) → AllByRecursion (λ t. is_member view t ≡ true) (others view i)
others_are_members view i = all_filtered (λ t. is_member view t ≡ true) (λ j. not (j == i)) (identities_of view) (all_of (λ t. is_member view t ≡ true) (identities_of view) (λ t m. in_any (identities_of view) t m))

-- WHAT A STEP TELLS

-- the input is an answer to this open operation
pub data IsAnswer {Op : Type 0} (input : Input Op) (from : ℕ) (o : OpenOperation) : Type 0 where
  Acked : input ≡ Take from (WriteAck o.op) → o.reads ≡ false → IsAnswer input from o
  ReadBack : (entry : Option (Entry Op)) → input ≡ Take from (ReadAnswer o.op o.key entry) → o.reads ≡ true → IsAnswer input from o

module _ {Kind Op Shown : Type 0} where
  -- an answer is counted for an open operation
  pub record Counts (node : Node Kind Op Shown) (input : Input Op) (from : ℕ) (o : OpenOperation) : Type 0 where
    pub stood : IsIn node.open_operations o
    pub member : is_member node.view from ≡ true
    pub answer : IsAnswer input from o

  -- an operation that is open after a step
  pub data OpenAfter (node after : Node Kind Op Shown) (input : Input Op) (p : OpenOperation) : Type 0 where
    Stays : IsIn node.open_operations p → OpenAfter node after input p
    Opened : p.op ≡ node.next_op → node.next_op < after.next_op → OpenAfter node after input p
    Answered : (from : ℕ) (o : OpenOperation) → Counts node input from o → with_answer from o ≡ p → OpenAfter node after input p

module _ {Kind Op Shown : Type 0} (D : Replication Kind Op Shown) where
  pub record EndsBy (node after : Node Kind Op Shown) (input : Input Op) (f : Finished Shown) : Type 0 where
    pub from : ℕ
    pub operation : OpenOperation
    pub counts : Counts node input from operation
    pub enough : operation.needed ≤ length (members_of (with_answer from operation).counted)
    pub is : record { op = operation.op; result = result_of D after operation } ≡ f

  -- an operation that is finished after a step
  pub data FinishedAfter (node after : Node Kind Op Shown) (input : Input Op) (f : Finished Shown) : Type 0 where
    WasFinished : IsIn node.finished f → FinishedAfter node after input f
    EndedNow : EndsBy node after input f → FinishedAfter node after input f

  -- a message of an operation says its number, and an answer what it answers
  abbrev pub Tells : Node Kind Op Shown → Node Kind Op Shown → Input Op → ℕ → Message Op → Type 0
  Tells node after input to (Write op key entry) = (op ≡ node.next_op) × (node.next_op < after.next_op) × (entry ≡ after.entries key) × ((o : Op) × (level : Level) × (input ≡ Update key o level))
  Tells node after input to (WriteAck op) = (key : Text) × (entry : Entry Op) × (input ≡ Take to (Write op key entry))
  Tells node after input to (WriteNack op) = (key : Text) × (entry : Entry Op) × (input ≡ Take to (Write op key entry))
  Tells node after input to (Read op key) = (op ≡ node.next_op) × (node.next_op < after.next_op) × ((level : Level) × (input ≡ Get key level))
  Tells node after input to (ReadAnswer op key entry) = (input ≡ Take to (Read op key)) × (entry ≡ answered_entry D (key_state node key))
  Tells node after input to _ = ⊤

  pub record PostTells (node after : Node Kind Op Shown) (input : Input Op) (post : Post Op) : Type 0 where
    pub member : is_member node.view post.to ≡ true
    pub tells : Tells node after input post.to post.message

  -- the operations are as before
  pub record SameOperations (node after : Node Kind Op Shown) : Type 0 where
    pub operations : after.open_operations ≡ node.open_operations
    pub finished : after.finished ≡ node.finished
    pub next : after.next_op ≡ node.next_op
    pub steps : after.steps ≡ node.steps

  -- just how the operations changed
  pub data Change (node after : Node Kind Op Shown) (input : Input Op) : Type 0 where
    Unchanged : after.open_operations ≡ node.open_operations → after.finished ≡ node.finished → Change node after input
    Pushed : (o : OpenOperation) → o.op ≡ node.next_op → after.open_operations ≡ node.open_operations ++ o ∷ [] → after.finished ≡ node.finished → Change node after input
    CountedFor : (from : ℕ) (operation : OpenOperation) → Counts node input from operation → length (members_of (with_answer from operation).counted) < operation.needed
        → after.open_operations ≡ map (λ (o : OpenOperation). if o.op == operation.op then with_answer from operation else o) node.open_operations → after.finished ≡ node.finished → Change node after input
    EndedFor : (from : ℕ) (operation : OpenOperation) (end : Finished Shown) → Counts node input from operation → end.op ≡ operation.op
        → after.open_operations ≡ filter (λ (o : OpenOperation). not (o.op == operation.op)) node.open_operations → after.finished ≡ node.finished ++ end ∷ [] → Change node after input
    Dropped : (op : ℕ) → input ≡ Timeout op → after.open_operations ≡ filter (λ (o : OpenOperation). not (o.op == op)) node.open_operations → after.finished ≡ node.finished → Change node after input

  pub record StepTells (node : Node Kind Op Shown) (input : Input Op) (s : Stepped Kind Op Shown) : Type 0 where
    pub steps : s.node.steps ≡ node.steps
    pub change : Change node s.node input
    pub grows : node.next_op ≤ s.node.next_op
    pub operations : (p : OpenOperation) → IsIn s.node.open_operations p → OpenAfter node s.node input p
    pub finished : (f : Finished Shown) → IsIn s.node.finished f → FinishedAfter node s.node input f
    pub ended : (f : Finished Shown) → s.output.ended ≡ Some f → EndsBy node s.node input f
    pub listed : (f : Finished Shown) → s.output.ended ≡ Some f → IsIn s.node.finished f
    pub posts : AllByRecursion (PostTells node s.node input) s.output.posts

  same_ops : (node : Node Kind Op Shown) → SameOperations node node
  same_ops node = record { operations = refl; finished = refl; next = refl; steps = refl }

  quiet : (node : Node Kind Op Shown) (input : Input Op) (s : Stepped Kind Op Shown) → SameOperations node s.node → s.output.ended ≡ None → AllByRecursion (PostTells node s.node input) s.output.posts → StepTells node input s
  quiet node input s same ended posts =
      record {
        steps = same.steps;
        change = Unchanged same.operations same.finished;
        grows = let e = same.next in omega arith;
        operations = λ p h. Stays (subst (λ (os : List OpenOperation). IsIn os p) same.operations h);
        finished = λ f h. WasFinished (subst (λ (fs : List (Finished Shown)). IsIn fs f) same.finished h);
        ended = λ f e. absurd (let g = sym ended ∙ e in cc g);
        listed = λ f e. absurd (let g = sym ended ∙ e in cc g);
        posts = posts;
      }

  -- UPDATE AND GET

  tells_opened : (node : Node Kind Op Shown) (held : Text → Entry Op) (input : Input Op) (key : Text) (reads : Bool) (n : ℕ) (message : Message Op)
      → ((to : ℕ) → Tells node (opened (record node { entries = held }) key reads n message).node input to message) → StepTells node input (opened (record node { entries = held }) key reads n message)
  tells_opened node held input key reads n message tells =
      record {
        steps = refl;
        change = Pushed (record { op = node.next_op; key = key; reads = reads; needed = n; counted = alone node.identity }) refl refl refl;
        grows = omega arith;
        operations = λ p h. elim (in_append node.open_operations _ p h) [
          | inl old ↦ Stays old
          | inr new ↦ Opened (the_new p new) (omega arith)
        ];
        finished = λ f h. WasFinished h;
        ended = λ f e. absurd (cc e);
        listed = λ f e. absurd (cc e);
        posts = all_mapped_by (λ t. is_member node.view t ≡ true) _ (λ t. record { to = t; message = message }) (λ t m. record { member = m; tells = tells t }) (others node.view node.identity) (others_are_members node.view node.identity);
      }
    where
      the_new : (p : OpenOperation) → IsIn (record { op = node.next_op; key = key; reads = reads; needed = n; counted = alone node.identity } ∷ []) p → p.op ≡ node.next_op
      the_new p (zero, e) = let f = ap (λ (o : Option OpenOperation). elim o [ None ↦ 0 | Some x ↦ x.op ]) e in sym f
      the_new p (suc k, e) = absurd (cc e)

  tells_accepted : (node : Node Kind Op Shown) (key : Text) (op : Op) (level : Level) (n : ℕ) (fate : Fate) (entry : Entry Op) → StepTells node (Update key op level) (accepted D node key n fate entry)
  tells_accepted node key op level n fate entry =
      let input : Input Op = Update key op level in
      let after = with_entry node key entry in
      let same : SameOperations node after = record { operations = refl; finished = refl; next = refl; steps = refl } in
      if_holds (StepTells node input) (has_failed fate) _ _ (quiet node input _ same refl tt)
      (if_holds (StepTells node input) (nat_le n 1) _ _ (quiet node input _ same refl tt)
      (tells_opened node after.entries input key false n (Write node.next_op key entry) (λ to. (refl, omega arith, here, (op, level, refl)))))
    where
      here : entry ≡ (with_entry node key entry).entries key
      here = sym (ap (λ b. if b then entry else node.entries key) (bytes_eq-same key))

  named : (node : Node Kind Op Shown) (key : Text) (k : KeyState Kind Op) → key_state node key ≡ Some k → k.name ≡ key
  named node key k e = go (find (λ (decl : KeyDecl Kind). bytes_eq decl.name key) node.keys) refl e
    where
      go : (o : Option (KeyDecl Kind)) → find (λ (decl : KeyDecl Kind). bytes_eq decl.name key) node.keys ≡ o → option_map (state_of node) o ≡ Some k → k.name ≡ key
      go None is e' = absurd (cc e')
      go (Some decl) is e' =
          let same : state_of node decl ≡ k = cc e' in
          sym (ap (λ (x : KeyState Kind Op). x.name) same) ∙ same_text decl.name key (found _ node.keys decl is)

  still : (node : Node Kind Op Shown) (input : Input Op) (reply : Reply Shown) → StepTells node input (answered node reply)
  still node input reply = quiet node input (answered node reply) (same_ops node) refl tt

  tells_unless : (node : Node Kind Op Shown) (k : KeyState Kind Op) (op : Op) (level : Level) (n : ℕ) (fate : Fate) (refusal : Option Refusal) → StepTells node (Update k.name op level) (updated_unless D node k op n fate refusal)
  tells_unless node k op level n fate None = tells_accepted node k.name op level n fate _
  tells_unless node k op level n fate (Some refusal) = still node (Update k.name op level) _

  tells_needing : (node : Node Kind Op Shown) (k : KeyState Kind Op) (op : Op) (level : Level) (n : Option ℕ) (fate : Fate) → StepTells node (Update k.name op level) (updated_needing D node k op n fate)
  tells_needing node k op level None fate = still node (Update k.name op level) _
  tells_needing node k op level (Some n) fate = tells_unless node k op level n fate (D.data_type.refusal k.kind node.identity op k.entry.history)

  tells_updated : (node : Node Kind Op Shown) (key : Text) (o : Option (KeyState Kind Op)) → key_state node key ≡ o → (op : Op) (level : Level) (fate : Fate) → StepTells node (Update key op level) (updated D node o op level fate)
  tells_updated node key None e op level fate = still node (Update key op level) _
  tells_updated node key (Some k) e op level fate =
      subst (λ (name : Text). StepTells node (Update name op level) (updated D node (Some k) op level fate)) (named node key k e)
      (if_holds (StepTells node (Update k.name op level)) (D.data_type.deleted k.entry.history) _ _ (still node (Update k.name op level) _)
      (if_holds (StepTells node (Update k.name op level)) (D.data_type.fits k.kind op) _ _ (tells_needing node k op level (needed level (member_count node)) fate) (still node (Update k.name op level) _)))

  tells_got_needing : (node : Node Kind Op Shown) (k : KeyState Kind Op) (level : Level) (n : Option ℕ) → StepTells node (Get k.name level) (got_needing D node k n)
  tells_got_needing node k level None = still node (Get k.name level) _
  tells_got_needing node k level (Some n) =
      if_holds (StepTells node (Get k.name level)) (nat_le n 1) (answered node (value_reply D (meaning_of D k))) (opened node k.name true n (Read node.next_op k.name)) (still node (Get k.name level) _)
      (tells_opened node node.entries (Get k.name level) k.name true n (Read node.next_op k.name) (λ to. (refl, omega arith, (level, refl))))

  tells_got : (node : Node Kind Op Shown) (key : Text) (o : Option (KeyState Kind Op)) → key_state node key ≡ o → (level : Level) → StepTells node (Get key level) (got D node o level)
  tells_got node key None e level = still node (Get key level) _
  tells_got node key (Some k) e level =
      subst (λ (name : Text). StepTells node (Get name level) (got D node (Some k) level)) (named node key k e) (tells_got_needing node k level (needed level (member_count node)))

  -- COUNTING

  module _ (node : Node Kind Op Shown) (input : Input Op) (from : ℕ) (s : Stepped Kind Op Shown) (same : SameOperations node s.node) (ended : s.output.ended ≡ None) (posts : s.output.posts ≡ []) where
    tells_counted : (o : Option OpenOperation) → ((operation : OpenOperation) → o ≡ Some operation → Counts node input from operation) → StepTells node input (counted_for D s from o)
    tells_counted None counts = quiet node input s same ended (subst (AllByRecursion (PostTells node s.node input)) (sym posts) tt)
    tells_counted (Some operation) counts =
        let now = with_answer from operation in
        if_tells (StepTells node input) (nat_le operation.needed (length (members_of now.counted))) _ _
        (λ enough.
        let after : Node Kind Op Shown = record s.node { open_operations = filter (λ (o : OpenOperation). not (o.op == operation.op)) s.node.open_operations; finished = s.node.finished ++ record { op = operation.op; result = result_of D s.node operation } ∷ [] } in
        let by : EndsBy node after input (record { op = operation.op; result = result_of D s.node operation }) =
        record { from = from; operation = operation; counts = counts operation refl; enough = leb-true operation.needed (length (members_of now.counted)) enough; is = refl } in
        record {
          steps = same.steps;
          change = EndedFor from operation (record { op = operation.op; result = result_of D s.node operation }) (counts operation refl) refl (ap (filter (λ (o : OpenOperation). not (o.op == operation.op))) same.operations) (ap (λ (fs : List (Finished Shown)). fs ++ record { op = operation.op; result = result_of D s.node operation } ∷ []) same.finished);
          grows = let e = same.next in omega arith;
          operations = λ p h. Stays (subst (λ (os : List OpenOperation). IsIn os p) same.operations (in_filtered (λ (q : OpenOperation). not (q.op == operation.op)) s.node.open_operations p h));
          finished = λ f h. elim (in_append s.node.finished _ f h) [
            | inl old ↦ WasFinished (subst (λ (fs : List (Finished Shown)). IsIn fs f) same.finished old)
            | inr new ↦ EndedNow (subst (λ (g : Finished Shown). EndsBy node after input g) (only f new) by)
          ];
          ended = λ f e. let g : record { op = operation.op; result = result_of D s.node operation } ≡ f = cc e in subst (λ (g : Finished Shown). EndsBy node after input g) g by;
          listed = λ f e. let g : record { op = operation.op; result = result_of D s.node operation } ≡ f = cc e in subst (IsIn after.finished) g (in_end s.node.finished (record { op = operation.op; result = result_of D s.node operation }));
          posts = subst (AllByRecursion (PostTells node after input)) (sym posts) tt;
        })
        (λ few. record {
          steps = same.steps;
          change = CountedFor from operation (counts operation refl) (leb-false operation.needed (length (members_of now.counted)) few) (ap (map (λ (o : OpenOperation). if o.op == operation.op then now else o)) same.operations) same.finished;
          grows = let e = same.next in omega arith;
          operations = λ p h. let m = in_mapped (λ (o : OpenOperation). if o.op == operation.op then now else o) s.node.open_operations p h in
              by_test m.0 p (m.0.op == operation.op) m.1 m.2;
          finished = λ f h. WasFinished (subst (λ (fs : List (Finished Shown)). IsIn fs f) same.finished h);
          ended = λ f e. absurd (let g = sym ended ∙ e in cc g);
          listed = λ f e. absurd (let g = sym ended ∙ e in cc g);
          posts = subst (AllByRecursion (PostTells node _ input)) (sym posts) tt;
        })
      where
        only : (f : Finished Shown) → IsIn (record { op = operation.op; result = result_of D s.node operation } ∷ []) f → record { op = operation.op; result = result_of D s.node operation } ≡ f
        only f (zero, e) = cc e
        only f (suc k, e) = absurd (cc e)

        by_test : (o p : OpenOperation) (b : Bool) → IsIn s.node.open_operations o → (if b then with_answer from operation else o) ≡ p
            → OpenAfter node (record s.node { open_operations = map (λ (o : OpenOperation). if o.op == operation.op then with_answer from operation else o) s.node.open_operations }) input p
        by_test o p true m e = Answered from operation (counts operation refl) e
        by_test o p false m e = Stays (subst (λ (x : OpenOperation). IsIn node.open_operations x) e (subst (λ (os : List OpenOperation). IsIn os o) same.operations m))

  -- TAKING

  pub entries_same : (node : Node Kind Op Shown) (es : List (Keyed (Entry Op))) → SameOperations node (after_entries node es)
  entries_same node es =
      let only = after_entries-only es node in
      record { operations = ap (λ (n : Node Kind Op Shown). n.open_operations) only; finished = ap (λ (n : Node Kind Op Shown). n.finished) only; next = ap (λ (n : Node Kind Op Shown). n.next_op) only; steps = ap (λ (n : Node Kind Op Shown). n.steps) only }

  same_trans : (a b c : Node Kind Op Shown) → SameOperations a b → SameOperations b c → SameOperations a c
  same_trans a b c p q = record { operations = q.operations ∙ p.operations; finished = q.finished ∙ p.finished; next = q.next ∙ p.next; steps = q.steps ∙ p.steps }

  group_same : (node : Node Kind Op Shown) (so_far : AfterGroups Kind Op Shown) (g : Keyed (Group Op)) → SameOperations node so_far.node → SameOperations node (take_group so_far g).node
  group_same node so_far g same = by_state (key_state so_far.node g.key)
    where
      by_judgement : (k : KeyState Kind Op) (j : Judgement) → SameOperations node (with_judged so_far k g.item j).node
      by_judgement k Wanted = record { operations = same.operations; finished = same.finished; next = same.next; steps = same.steps }
      by_judgement k Stale = same
      by_judgement k (Missing i) = same

      by_state : (o : Option (KeyState Kind Op)) → SameOperations node (with_taken_group so_far o g.item).node
      by_state None = same
      by_state (Some k) = if_holds (λ (a : AfterGroups Kind Op Shown). SameOperations node a.node) (is_group_passed_over so_far.node.identity k.entry g.item) _ _ same (by_judgement k (judged k.entry g.item))

  groups_same : (node : Node Kind Op Shown) (gs : List (Keyed (Group Op))) → SameOperations node (after_groups node gs).node
  groups_same node gs = fold_all (λ (a : AfterGroups Kind Op Shown). SameOperations node a.node) take_group (λ a g p. group_same node a g p) gs (record { node = node; gaps = [] }) (same_ops node)

  module _ (node : Node Kind Op Shown) (from : ℕ) (member : is_member node.view from ≡ true) where
    one_post : (input : Input Op) (after : Node Kind Op Shown) (message : Message Op) → Tells node after input from message → AllByRecursion (PostTells node after input) (answer_to D from message)
    one_post input after message tells = (record { member = member; tells = tells }, tt)

    gossip_posts : (input : Input Op) (after : Node Kind Op Shown) (entries : List (Keyed (Entry Op))) (wants : List Text) → AllByRecursion (PostTells node after input) (gossip_to D from entries wants)
    gossip_posts input after [] [] = tt
    gossip_posts input after [] (w ∷ wants) = one_post input after (Gossip [] (w ∷ wants)) tt
    gossip_posts input after (e ∷ entries) wants = one_post input after (Gossip (e ∷ entries) wants) tt

    nack_posts : (input : Input Op) (after : Node Kind Op Shown) (gaps : List KeyGap) → AllByRecursion (PostTells node after input) (nack_to D from gaps)
    nack_posts input after [] = tt
    nack_posts input after (gap ∷ gaps) = one_post input after (Nack _) tt

    ack_posts : (op : ℕ) (key : Text) (entry : Entry Op) (after : Node Kind Op Shown) (failed : Bool) → AllByRecursion (PostTells node after (Take from (Write op key entry))) (answer_to D from (if failed then WriteNack op else WriteAck op))
    ack_posts op key entry after true = one_post (Take from (Write op key entry)) after (WriteNack op) (key, entry, refl)
    ack_posts op key entry after false = one_post (Take from (Write op key entry)) after (WriteAck op) (key, entry, refl)

    answer_posts : (op : ℕ) (key : Text) (entry : Entry Op) (after : Node Kind Op Shown) (fate : Fate) → AllByRecursion (PostTells node after (Take from (Write op key entry))) (write_answer D node from fate op key)
    answer_posts op key entry after fate = if_holds (AllByRecursion (PostTells node after (Take from (Write op key entry)))) (is_some (key_state node key)) _ _ (ack_posts op key entry after (has_failed fate)) tt

    acks : (op : ℕ) (o : OpenOperation) → find (is_answered_by false op) node.open_operations ≡ Some o → Counts node (Take from (WriteAck op)) from o
    acks op o e =
        let test = found (is_answered_by false op) node.open_operations o e in
        let same = same_number o.op op (first_true (o.op == op) (not o.reads) test) in
        record { stood = find_in (is_answered_by false op) node.open_operations o e; member = member; answer = Acked (ap (λ n. Take from (WriteAck n)) (sym same)) (not_true o.reads (second_true (o.op == op) (not o.reads) test)) }

    reads_back : (op : ℕ) (key : Text) (entry : Option (Entry Op)) (o : OpenOperation) → find (λ (o : OpenOperation). is_answered_by true op o && bytes_eq o.key key) node.open_operations ≡ Some o → Counts node (Take from (ReadAnswer op key entry)) from o
    reads_back op key entry o e =
        let test = found (λ (o : OpenOperation). is_answered_by true op o && bytes_eq o.key key) node.open_operations o e in
        let by = first_true (is_answered_by true op o) (bytes_eq o.key key) test in
        let same = same_number o.op op (first_true (o.op == op) o.reads by) in
        let same_key = same_text o.key key (second_true (is_answered_by true op o) (bytes_eq o.key key) test) in
        record {
          stood = find_in (λ (o : OpenOperation). is_answered_by true op o && bytes_eq o.key key) node.open_operations o e;
          member = member;
          answer = ReadBack entry (λ i. Take from (ReadAnswer (sym same i) (sym same_key i) entry)) (second_true (o.op == op) o.reads by);
        }

    tells_taken : (fate : Fate) (message : Message Op) → StepTells node (Take from message) (step_of_take D node from fate message)
    tells_taken fate (Deltas groups entries) =
        let gs = after_groups node groups in
        quiet node (Take from (Deltas groups entries)) _ (same_trans node gs.node (after_entries gs.node entries) (groups_same node groups) (entries_same gs.node entries)) refl (nack_posts (Take from (Deltas groups entries)) (after_entries gs.node entries) gs.gaps)
    tells_taken fate (Nack keys) = quiet node (Take from (Nack keys)) _ (same_ops node) refl (gossip_posts (Take from (Nack keys)) node _ [])
    tells_taken fate (Status digests) = quiet node (Take from (Status digests)) _ (same_ops node) refl (gossip_posts (Take from (Status digests)) node _ _)
    tells_taken fate (Gossip entries wants) = quiet node (Take from (Gossip entries wants)) _ (entries_same node entries) refl (gossip_posts (Take from (Gossip entries wants)) (after_entries node entries) _ [])
    tells_taken fate (Write op key entry) =
        quiet node (Take from (Write op key entry)) _ (entries_same node (record { key = key; item = entry } ∷ [])) refl (answer_posts op key entry (after_entries node (record { key = key; item = entry } ∷ [])) fate)
    tells_taken fate (WriteAck op) = tells_counted node (Take from (WriteAck op)) from (answered node Taken) (same_ops node) refl refl (find (is_answered_by false op) node.open_operations) (acks op)
    tells_taken fate (WriteNack op) = still node (Take from (WriteNack op)) _
    tells_taken fate (Read op key) = quiet node (Take from (Read op key)) _ (same_ops node) refl (one_post (Take from (Read op key)) node (ReadAnswer op key (answered_entry D (key_state node key))) (refl, refl))
    tells_taken fate (ReadAnswer op key entry) =
        let after = after_entries node (keyed_option D key entry) in
        let same = entries_same node (keyed_option D key entry) in
        tells_counted node (Take from (ReadAnswer op key entry)) from (took D node after fate [] []) same refl refl (find (λ (o : OpenOperation). is_answered_by true op o && bytes_eq o.key key) after.open_operations)
        (λ o e. reads_back op key entry o (ap (find (λ (o : OpenOperation). is_answered_by true op o && bytes_eq o.key key)) (sym same.operations) ∙ e))

  -- THE OTHERS

  tells_flushed : (node : Node Kind Op Shown) → StepTells node Flush (step_of_flush D node)
  tells_flushed node =
      quiet node Flush (step_of_flush D node) (record { operations = refl; finished = refl; next = refl; steps = refl }) refl
      (all_mapped_by (λ t. is_member node.view t ≡ true) (PostTells node (step_of_flush D node).node Flush) (λ peer. record { to = peer; message = deltas_for D node peer }) (λ t m. record { member = m; tells = tt })
      (filter (λ peer. list_any (is_behind D node peer) (key_states node)) (others node.view node.identity))
      (all_filtered (λ t. is_member node.view t ≡ true) (λ peer. list_any (is_behind D node peer) (key_states node)) (others node.view node.identity) (others_are_members node.view node.identity)))

  -- who is gossiped to is a member
  gossiped_member : (a b : Bool) → (a || not b) ≡ false → b ≡ true
  gossiped_member true b e = absurd (cc e)
  gossiped_member false true e = refl
  gossiped_member false false e = absurd (cc e)

  tells_step_of : (node : Node Kind Op Shown) (input : Input Op) (fate : Fate) → StepTells node input (step_of D node input fate)
  tells_step_of node (Update key op level) fate = tells_updated node key (key_state node key) refl op level fate
  tells_step_of node (Get key level) fate = tells_got node key (key_state node key) refl level
  tells_step_of node (Take from message) fate = if_tells (StepTells node (Take from message)) (is_member node.view from) _ _ (λ member. tells_taken node from member fate message) (λ stranger. still node (Take from message) _)
  tells_step_of node (Install view) fate = if_holds (StepTells node (Install view)) (nat_le view.number node.view.number) _ _ (still node (Install view) _) (quiet node (Install view) _ (record { operations = refl; finished = refl; next = refl; steps = refl }) refl tt)
  tells_step_of node Flush fate = tells_flushed node
  tells_step_of node (GossipTo i) fate =
      if_tells (StepTells node (GossipTo i)) ((i == node.identity) || not (is_member node.view i)) _ _ (λ e. still node (GossipTo i) _)
      (λ e. quiet node (GossipTo i) _ (same_ops node) refl (record { member = gossiped_member (i == node.identity) (is_member node.view i) e; tells = tt }, tt))
  tells_step_of node PruneTick fate = if_holds (StepTells node PruneTick) (not (leader node.view == node.identity)) _ _ (still node PruneTick _) (quiet node PruneTick _ (record { operations = refl; finished = refl; next = refl; steps = refl }) refl tt)
  tells_step_of node (Timeout op) fate =
      if_holds (StepTells node (Timeout op)) (list_any (λ (o : OpenOperation). o.op == op) node.open_operations) _ _
      (record {
        steps = refl;
        change = Dropped op refl refl refl;
        grows = omega arith;
        operations = λ p h. Stays (in_filtered (λ (o : OpenOperation). not (o.op == op)) node.open_operations p h);
        finished = λ f h. WasFinished h;
        ended = λ f e. absurd (cc e);
        listed = λ f e. absurd (cc e);
        posts = tt;
      })
      (still node (Timeout op) _)

  -- each step
  pub record Telling (node : Node Kind Op Shown) (input : Input Op) (s : Stepped Kind Op Shown) : Type 0 where
    pub steps : s.node.steps ≡ node.steps + 1
    pub change : Change node s.node input
    pub grows : node.next_op ≤ s.node.next_op
    pub operations : (p : OpenOperation) → IsIn s.node.open_operations p → OpenAfter node s.node input p
    pub finished : (f : Finished Shown) → IsIn s.node.finished f → FinishedAfter node s.node input f
    pub ended : (f : Finished Shown) → s.output.ended ≡ Some f → EndsBy node s.node input f
    pub listed : (f : Finished Shown) → s.output.ended ≡ Some f → IsIn s.node.finished f
    pub posts : AllByRecursion (PostTells node s.node input) s.output.posts

  pub step_tells : (node : Node Kind Op Shown) (input : Input Op) (fate : Fate) → Telling node input (step D node input fate)
  step_tells node input fate =
      let t = tells_step_of (one_step_later node) input fate in
      record { steps = t.steps; change = from_change t.change; grows = t.grows; operations = λ p h. from_open p (t.operations p h); finished = λ f h. from_finished f (t.finished f h); ended = λ f e. from_ended f (t.ended f e); listed = t.listed; posts = all_of (PostTells node (step D node input fate).node input) (step D node input fate).output.posts (λ post m. from_post post (of_all (PostTells (one_step_later node) (step D node input fate).node input) (step D node input fate).output.posts post t.posts m)) }
    where
      from_counts : (from : ℕ) (o : OpenOperation) → Counts (one_step_later node) input from o → Counts node input from o
      from_counts from o c = record { stood = c.stood; member = c.member; answer = c.answer }

      from_change : Change (one_step_later node) (step D node input fate).node input → Change node (step D node input fate).node input
      from_change (Unchanged a b) = Unchanged a b
      from_change (Pushed o a b c) = Pushed o a b c
      from_change (CountedFor from o c few a b) = CountedFor from o (from_counts from o c) few a b
      from_change (EndedFor from o end c e a b) = EndedFor from o end (from_counts from o c) e a b
      from_change (Dropped op e a b) = Dropped op e a b

      from_open : (p : OpenOperation) → OpenAfter (one_step_later node) (step D node input fate).node input p → OpenAfter node (step D node input fate).node input p
      from_open p (Stays h) = Stays h
      from_open p (Opened e l) = Opened e l
      from_open p (Answered from o c e) = Answered from o (from_counts from o c) e

      from_ended : (f : Finished Shown) → EndsBy (one_step_later node) (step D node input fate).node input f → EndsBy node (step D node input fate).node input f
      from_ended f e = record { from = e.from; operation = e.operation; counts = from_counts e.from e.operation e.counts; enough = e.enough; is = e.is }

      from_finished : (f : Finished Shown) → FinishedAfter (one_step_later node) (step D node input fate).node input f → FinishedAfter node (step D node input fate).node input f
      from_finished f (WasFinished h) = WasFinished h
      from_finished f (EndedNow e) = EndedNow (from_ended f e)

      by_message : (to : ℕ) (message : Message Op) → Tells (one_step_later node) (step D node input fate).node input to message → Tells node (step D node input fate).node input to message
      by_message to (Deltas groups entries) t = tt
      by_message to (Nack keys) t = tt
      by_message to (Status digests) t = tt
      by_message to (Gossip entries wants) t = tt
      by_message to (Write op key entry) t = t
      by_message to (WriteAck op) t = t
      by_message to (WriteNack op) t = t
      by_message to (Read op key) t = t
      by_message to (ReadAnswer op key entry) t = t

      from_post : (post : Post Op) → PostTells (one_step_later node) (step D node input fate).node input post → PostTells node (step D node input fate).node input post
      from_post post p = record { member = p.member; tells = by_message post.to post.message p.tells }
