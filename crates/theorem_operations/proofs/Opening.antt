-- What opens an operation; and the members of a view, counted.
use Rattle.std.proofs.Common.{◌≡◌, ℕ, zero, suc, ◌+◌, ◌<◌, ◌≤◌, List, [], ◌∷◌, ◌++◌, length, refl, sym, ap, subst, ◌∙◌, arith, Bool, true, false, Option, Some, None, ◌⊎◌, inl, inr}
use Rattle.std.specs.Prelude.{if◌then◌else◌, map, not, nat_le, ◌==◌, ◌||◌}
use Rattle.std.specs.List.{list_any, range_with_len}
use Rattle.std.proofs.lemmas.Bool.Decides.{eqb_tells}
use Rattle.std.proofs.lemmas.Bool.{eq-eqb, leb-false, leb-true}
use Rattle.model_history.specs.Texts.{Text}
use Rattle.model_history.specs.Table.{identity_limit, identities}
use Rattle.model_history.specs.Vector.{alone, members_of}
use Rattle.model_history.proofs.PruneLaws.{IsIn, in_tail}
use Rattle.model_meanings.specs.Refusal.{Refusal}
use Rattle.model_members.specs.View.{View, Member, is_member, leader}
use Rattle.model_members.specs.Entry.{Entry}
use Rattle.model_members.specs.DataType.{Replication}
use Rattle.model_members.specs.Message.{Message}
use Rattle.model_members.specs.Message.Message.{Deltas, Nack, Status, Gossip, Write, WriteAck, WriteNack, Read, ReadAnswer}
use Rattle.model_members.specs.Node.{KeyState, Node, OpenOperation, Level, Input, Fate, Reply, Stepped as StepResult, key_state, needed, needed_number, one_step_later, with_entry}
use Rattle.model_members.specs.Node.Fate.{StoreFailed, NoStore, Stored}
use Rattle.model_members.specs.Node.Input.{Update, Get, Take, Install, Flush, GossipTo, PruneTick, Timeout}
use Rattle.model_members.specs.Node.Reply.{Done, Pending, Deleted, WrongKind, NotStored, NotFromMember, OldView, Installed, NotAPeer, NotLeader, NoSuchOp, Ticked, TickedNotStored, Taken}
use Rattle.model_members.specs.Step.{step, has_failed, answered, opened, to_others, member_count, step_of_take, take_reply, KeyGap, value_reply, meaning_of, with_answer, outcomes_of}
use Rattle.model_members.proofs.Cases.{accepted, updated, updated_unless, updated_undeleted, updated_needing, got, got_needing, counted_for}
use Rattle.theorem_runs.proofs.Keeping.{if_holds, if_tells}
use Rattle.theorem_runs.proofs.ViewLaws.{IsRising}
use Rattle.theorem_operations.proofs.Openings.{value_not_pending}
use Rattle.theorem_operations.proofs.Lists.{is_alone}
use Rattle.theorem_operations.proofs.Counting.{count, count_cons, within, one_of_range}
use Rattle.theorem_operations.proofs.Waiting.{IsQuestion}

-- MEMBERS

pub alone_is_one : (i : ℕ) → length (members_of (alone i)) ≤ 1
alone_is_one i = let a = within (alone i) (λ x. i == x) (λ x e. eq-eqb i x (sym (is_alone i x e))) identities in let b = one_of_range i 0 identity_limit in omega arith

pub found_at : (js : List ℕ) (t : ℕ) → list_any (λ j. j == t) js ≡ true → IsIn js t
found_at [] t e = absurd (cc e)
found_at (j ∷ js) t e = by_test (j == t) refl e (λ f. found_at js t f)
  where
    by_test : (b : Bool) → (j == t) ≡ b → (b || list_any (λ j. j == t) js) ≡ true → (list_any (λ j. j == t) js ≡ true → IsIn js t) → IsIn (j ∷ js) t
    by_test true is f later = elim (eqb_tells j t) [ inl h ↦ (zero, ap Some h.1) | inr h ↦ absurd (let g = sym is ∙ h.0 in cc g) ]
    by_test false is f later = in_tail j js t (later f)

abbrev is_one_of : List Member → ℕ → Bool
is_one_of ms x = list_any (λ j. j == x) (map (λ (m : Member). m.identity) ms)

-- the members of a rising view are as many as its identities
rising_count : (n first : ℕ) (ms : List Member) → IsRising first (first + n) ms → length ms ≤ count (λ x. list_any (λ j. j == x) (map (λ (m : Member). m.identity) ms)) (range_with_len first n)
rising_count zero first [] all = omega arith
rising_count zero first (m ∷ ms) all = absurd (let a = all.0 in let b = all.1 in omega arith)
rising_count (suc n) first [] all = omega arith
rising_count (suc n) first (m ∷ ms) all = by_test (m.identity == first) refl (λ h. rising_count n (first + 1) ms h) (λ h. rising_count n (first + 1) (m ∷ ms) h)
  where
    or_more : (a b : Bool) → b ≡ true → (a || b) ≡ true
    or_more true b e = refl
    or_more false b e = e

    shifted : (l : ℕ) (ms : List Member) → IsRising l (first + suc n) ms → IsRising l (first + 1 + n) ms
    shifted l ms h = let e : first + suc n ≡ first + 1 + n = omega arith in subst (λ high. IsRising l high ms) e h

    by_test : (b : Bool) → (m.identity == first) ≡ b → (IsRising (first + 1) (first + 1 + n) ms → length ms ≤ count (is_one_of ms) (range_with_len (first + 1) n))
        → (IsRising (first + 1) (first + 1 + n) (m ∷ ms) → length (m ∷ ms) ≤ count (is_one_of (m ∷ ms)) (range_with_len (first + 1) n)) → length (m ∷ ms) ≤ count (is_one_of (m ∷ ms)) (range_with_len first (suc n))
    by_test true is here later =
        let same : m.identity ≡ first = elim (eqb_tells m.identity first) [ inl h ↦ h.1 | inr h ↦ absurd (let g = sym is ∙ h.0 in cc g) ] in
        let e : m.identity + 1 ≡ first + 1 = omega arith in
        let a = here (subst (λ l. IsRising l (first + 1 + n) ms) e (shifted (m.identity + 1) ms all.2)) in
        let b = within (is_one_of ms) (is_one_of (m ∷ ms)) (λ x h. or_more (m.identity == x) ((is_one_of ms) x) h) (range_with_len (first + 1) n) in
        let c : count (is_one_of (m ∷ ms)) (range_with_len first (suc n)) ≡ 1 + count (is_one_of (m ∷ ms)) (range_with_len (first + 1) n) = count_cons (is_one_of (m ∷ ms)) first (range_with_len (first + 1) n) ∙ ap (λ z. (if z || (is_one_of ms) first then 1 else 0) + count (is_one_of (m ∷ ms)) (range_with_len (first + 1) n)) is in
        omega arith
    by_test false is here later =
        let above : first + 1 ≤ m.identity = (let a = all.0 in elim (eqb_tells m.identity first) [ inl h ↦ absurd (let g = sym is ∙ h.0 in cc g) | inr h ↦ let d = h.1 in omega arith ]) in
        let a = later (above, (let b = all.1 in omega arith), shifted (m.identity + 1) ms all.2) in
        let c = count_cons (is_one_of (m ∷ ms)) first (range_with_len (first + 1) n) in
        by_last ((is_one_of (m ∷ ms)) first) a c
      where
        by_last : (z : Bool) → length (m ∷ ms) ≤ count (is_one_of (m ∷ ms)) (range_with_len (first + 1) n) → count (is_one_of (m ∷ ms)) (range_with_len first (suc n)) ≡ (if z then 1 else 0) + count (is_one_of (m ∷ ms)) (range_with_len (first + 1) n) → length (m ∷ ms) ≤ count (is_one_of (m ∷ ms)) (range_with_len first (suc n))
        by_last true a c = omega arith
        by_last false a c = omega arith

rising_more : (low high higher : ℕ) (ms : List Member) → high ≤ higher → IsRising low high ms → IsRising low higher ms
rising_more low high higher [] h all = tt
rising_more low high higher (m ∷ ms) h all = (all.0, (let a = all.1 in omega arith), rising_more (m.identity + 1) high higher ms h all.2)

pub all_members : (view : View) → view.given ≤ identity_limit → IsRising 0 view.given view.members → length view.members ≤ count (is_member view) identities
all_members view small rising = rising_count identity_limit 0 view.members (rising_more 0 view.given (0 + identity_limit) view.members (omega arith) rising)

-- each of a set is in another, or something else holds
pub each_or : (G : Type 0) (s m : ℕ → Bool) → ((x : ℕ) → m x ≡ true → G ⊎ (s x ≡ true)) → (xs : List ℕ) → G ⊎ (count m xs ≤ count s xs)
each_or G s m each [] = inr (omega arith)
each_or G s m each (x ∷ xs) = by (each_or G s m each xs)
  where
    by_tests : (a b : Bool) → m x ≡ a → s x ≡ b → (a ≡ true → b ≡ true) → count m xs ≤ count s xs → count m (x ∷ xs) ≤ count s (x ∷ xs)
    by_tests true true p q h l = let e : count m (x ∷ xs) ≡ 1 + count m xs = count_cons m x xs ∙ ap (λ b. (if b then 1 else 0) + count m xs) p in let f : count s (x ∷ xs) ≡ 1 + count s xs = count_cons s x xs ∙ ap (λ b. (if b then 1 else 0) + count s xs) q in omega arith
    by_tests true false p q h l = absurd (let g = h refl in cc g)
    by_tests false true p q h l = let e : count m (x ∷ xs) ≡ 0 + count m xs = count_cons m x xs ∙ ap (λ b. (if b then 1 else 0) + count m xs) p in let f : count s (x ∷ xs) ≡ 1 + count s xs = count_cons s x xs ∙ ap (λ b. (if b then 1 else 0) + count s xs) q in omega arith
    by_tests false false p q h l = let e : count m (x ∷ xs) ≡ 0 + count m xs = count_cons m x xs ∙ ap (λ b. (if b then 1 else 0) + count m xs) p in let f : count s (x ∷ xs) ≡ 0 + count s xs = count_cons s x xs ∙ ap (λ b. (if b then 1 else 0) + count s xs) q in omega arith

    here : (a : Bool) → m x ≡ a → count m xs ≤ count s xs → G ⊎ (count m (x ∷ xs) ≤ count s (x ∷ xs))
    here true p l = elim (each x p) [ inl g ↦ inl g | inr q ↦ inr (by_tests true true p q (λ h. refl) l) ]
    here false p l = inr (by_tests false (s x) p refl (λ h. absurd (cc h)) l)

    by : G ⊎ (count m xs ≤ count s xs) → G ⊎ (count m (x ∷ xs) ≤ count s (x ∷ xs))
    by (inl g) = inl g
    by (inr l) = here (m x) refl l

-- WHAT OPENS AN OPERATION

module _ {Kind Op Shown : Type 0} (D : Replication Kind Op Shown) (node : Node Kind Op Shown) (i op : ℕ) where
  pub record Opening (s : StepResult Kind Op Shown) : Type 0 where
    pub reads : Bool
    pub key : Text
    pub n : ℕ
    pub message : Message Op
    pub number : op ≡ node.next_op
    pub operations : s.node.open_operations ≡ node.open_operations ++ record { op = node.next_op; key = key; reads = reads; needed = n; counted = alone node.identity } ∷ []
    pub posts : s.output.posts ≡ to_others node message
    pub asks : IsQuestion D i op reads key n message
    pub many : 1 < n
    pub enough : n ≤ member_count node
    pub next : node.next_op < s.node.next_op

  abbrev Opens : StepResult Kind Op Shown → Type 0
  Opens s = s.output.reply ≡ Pending op → Opening s

  abbrev later : Node Kind Op Shown
  later = one_step_later node

  needed_few : (level : Level) (n : ℕ) → needed level (member_count node) ≡ Some n → n ≤ member_count node
  needed_few level n e = go (nat_le (needed_number level (member_count node)) (member_count node)) refl e
    where
      go : (b : Bool) → nat_le (needed_number level (member_count node)) (member_count node) ≡ b → (if b then Some (needed_number level (member_count node)) else None) ≡ Some n → n ≤ member_count node
      go true is f = let same : needed_number level (member_count node) ≡ n = cc f in let a = leb-true (needed_number level (member_count node)) (member_count node) is in omega arith
      go false is f = absurd (cc f)

  opens_accepted : (key : Text) (n : ℕ) (fate : Fate) (entry : Entry Op) → n ≤ member_count node → Opens (accepted D later key n fate entry)
  opens_accepted key n fate entry few =
      let after = with_entry later key entry in
      if_holds Opens (has_failed fate) (answered after NotStored) (if nat_le n 1 then answered after Done else opened after key false n (Write later.next_op key entry)) (λ e. absurd (cc e))
      (if_tells Opens (nat_le n 1) (answered after Done) (opened after key false n (Write later.next_op key entry)) (λ one e. absurd (cc e))
      (λ more e.
      let is : node.next_op ≡ op = cc e in
      record { reads = false; key = key; n = n; message = Write node.next_op key entry; number = sym is; operations = refl; posts = refl; asks = (refl, is); many = leb-false n 1 more; enough = few; next = omega arith }))

  opens_unless : (k : KeyState Kind Op) (x : Op) (n : ℕ) (fate : Fate) (refusal : Option Refusal) → n ≤ member_count node → Opens (updated_unless D later k x n fate refusal)
  opens_unless k x n fate None few = opens_accepted k.name n fate _ few
  opens_unless k x n fate (Some refusal) few = λ e. absurd (cc e)

  opens_needing : (k : KeyState Kind Op) (x : Op) (o : Option ℕ) (fate : Fate) → ((n : ℕ) → o ≡ Some n → n ≤ member_count node) → Opens (updated_needing D later k x o fate)
  opens_needing k x None fate few = λ e. absurd (cc e)
  opens_needing k x (Some n) fate few = opens_unless k x n fate (D.data_type.refusal k.kind node.identity x k.entry.history) (few n refl)

  opens_updated : (o : Option (KeyState Kind Op)) (x : Op) (level : Level) (fate : Fate) → Opens (updated D later o x level fate)
  opens_updated None x level fate = λ e. absurd (cc e)
  opens_updated (Some k) x level fate =
      if_holds Opens (D.data_type.deleted k.entry.history) (answered later Deleted) (updated_undeleted D later k x level fate) (λ e. absurd (cc e))
      (if_holds Opens (D.data_type.fits k.kind x) (updated_needing D later k x (needed level (member_count node)) fate) (answered later WrongKind)
      (opens_needing k x (needed level (member_count node)) fate (needed_few level)) (λ e. absurd (cc e)))

  opens_got_needing : (k : KeyState Kind Op) (o : Option ℕ) → ((n : ℕ) → o ≡ Some n → n ≤ member_count node) → Opens (got_needing D later k o)
  opens_got_needing k None few = λ e. absurd (cc e)
  opens_got_needing k (Some n) few =
      if_tells Opens (nat_le n 1) (answered later (value_reply D (meaning_of D k))) (opened later k.name true n (Read later.next_op k.name)) (λ one e. absurd (value_not_pending D (meaning_of D k) op e))
      (λ more e.
      let is : node.next_op ≡ op = cc e in
      record { reads = true; key = k.name; n = n; message = Read node.next_op k.name; number = sym is; operations = refl; posts = refl; asks = (refl, is, refl); many = leb-false n 1 more; enough = few n refl; next = omega arith })

  opens_got : (o : Option (KeyState Kind Op)) (level : Level) → Opens (got D later o level)
  opens_got None level = λ e. absurd (cc e)
  opens_got (Some k) level = opens_got_needing k (needed level (member_count node)) (needed_few level)

  take_not_pending : (fate : Fate) (gaps : List KeyGap) (b : Bool) (p : ℕ) → take_reply D fate gaps b ≡ Pending p → ⊥
  take_not_pending NoStore [] true p e = cc e
  take_not_pending NoStore [] false p e = cc e
  take_not_pending NoStore (g ∷ gaps) b p e = cc e
  take_not_pending Stored [] true p e = cc e
  take_not_pending Stored [] false p e = cc e
  take_not_pending Stored (g ∷ gaps) b p e = cc e
  take_not_pending StoreFailed gaps b p e = cc e

  counted_reply : (s : StepResult Kind Op Shown) (from : ℕ) (o : Option OpenOperation) → (counted_for D s from o).output.reply ≡ s.output.reply
  counted_reply s from None = refl
  counted_reply s from (Some operation) = if_holds (λ (z : StepResult Kind Op Shown). z.output.reply ≡ s.output.reply) (nat_le operation.needed (length (members_of (with_answer from operation).counted))) _ _ refl refl

  opens_taken : (from : ℕ) (fate : Fate) (message : Message Op) → Opens (step_of_take D later from fate message)
  opens_taken from fate (Deltas groups entries) e = absurd (take_not_pending fate _ _ op e)
  opens_taken from fate (Nack keys) e = absurd (cc e)
  opens_taken from fate (Status digests) e = absurd (cc e)
  opens_taken from fate (Gossip entries wants) e = absurd (take_not_pending fate [] _ op e)
  opens_taken from fate (Write m key entry) e = absurd (take_not_pending fate [] _ op e)
  opens_taken from fate (WriteAck m) e = absurd (let f = sym (counted_reply (answered later Taken) from _) ∙ e in cc f)
  opens_taken from fate (WriteNack m) e = absurd (cc e)
  opens_taken from fate (Read m key) e = absurd (cc e)
  opens_taken from fate (ReadAnswer m key entry) e = absurd (take_not_pending fate [] _ op (sym (counted_reply _ from _) ∙ e))

  -- whatever opens an operation
  pub opening_tells : (input : Input Op) (fate : Fate) → Opens (step D node input fate)
  opening_tells (Update key x level) fate = opens_updated (key_state later key) x level fate
  opening_tells (Get key level) fate = opens_got (key_state later key) level
  opening_tells (Take from message) fate = if_holds Opens (is_member node.view from) (step_of_take D later from fate message) (answered later NotFromMember) (opens_taken from fate message) (λ e. absurd (cc e))
  opening_tells (Install view) fate =
      if_holds Opens (nat_le view.number node.view.number) (answered later OldView) _ (λ e. absurd (cc e)) (λ e. absurd (by fate e))
    where
      by : (fate : Fate) → ◌≡◌ {A = Reply Shown} (if has_failed fate then NotStored else Installed) (Pending op) → ⊥
      by NoStore e = cc e
      by Stored e = cc e
      by StoreFailed e = cc e
  opening_tells Flush fate = λ e. absurd (cc e)
  opening_tells (GossipTo j) fate = if_holds Opens ((j == node.identity) || not (is_member node.view j)) (answered later NotAPeer) _ (λ e. absurd (cc e)) (λ e. absurd (cc e))
  opening_tells PruneTick fate = if_holds Opens (not (leader node.view == node.identity)) (answered later (NotLeader (leader node.view))) _ (λ e. absurd (cc e)) (λ e. absurd (by fate e))
    where
      by : (fate : Fate) → ◌≡◌ {A = Reply Shown} (if has_failed fate then TickedNotStored (outcomes_of D (one_step_later node)) else Ticked (outcomes_of D (one_step_later node))) (Pending op) → ⊥
      by NoStore e = cc e
      by Stored e = cc e
      by StoreFailed e = cc e
  opening_tells (Timeout m) fate = if_holds Opens (list_any (λ (o : OpenOperation). o.op == m) node.open_operations) _ (answered later NoSuchOp) (λ e. absurd (cc e)) (λ e. absurd (cc e))
