-- Where questions and answers of an operation come from: a member answers one only as it takes one, and asks under a number but once.
use Rattle.std.proofs.Common.{◌≡◌, ◌≢◌, ℕ, zero, suc, ◌<◌, ◌≤◌, List, [], ◌∷◌, refl, sym, ap, ◌∙◌, arith, Bool, true, false, true≢false, Some}
use Rattle.std.specs.Prelude.{◌==◌, ◌||◌}
use Rattle.std.specs.List.{AllByRecursion, list_any}
use Rattle.std.proofs.lemmas.Bool.Decides.{Decides-eqb}
use Rattle.model_history.proofs.PruneLaws.{IsIn, in_tail}
use Rattle.model_members.specs.DataType.{Replication}
use Rattle.model_members.specs.Message.{Message, Post}
use Rattle.model_members.specs.Message.Message.{Deltas, Nack, Status, Gossip, Write, WriteAck, WriteNack, Read, ReadAnswer}
use Rattle.model_members.specs.Node.{Node, OpenOperation, Input, Fate}
use Rattle.model_members.specs.Node.Input.{Take}
use Rattle.model_members.specs.Step.{step}
use Rattle.theorem_sections.specs.Sections.{answers, is_open}
use Rattle.theorem_operations.proofs.Operations.{OpenAfter, Tells, PostTells, step_tells}
use Rattle.theorem_operations.proofs.Operations.OpenAfter.{Stays, Opened, Answered}

-- a message that asks for answers to an operation
abbrev pub asks : {Op : Type 0} → ℕ → Message Op → Bool
asks op (Write o key entry) = o == op
asks op (Read o key) = o == op
asks op _ = false

module _ {Kind Op Shown : Type 0} (D : Replication Kind Op Shown) (node : Node Kind Op Shown) (input : Input Op) (fate : Fate) where
  abbrev after : Node Kind Op Shown
  after = (step D node input fate).node

  -- an answer is to a question that is taken in this step, and goes to who asked
  pub AnswersOne : ℕ → Post Op → Type 0
  AnswersOne op post = (m : Message Op) × (input ≡ Take post.to m) × (asks op m ≡ true)

  answers_one : (op : ℕ) (to : ℕ) (message : Message Op) → Tells D node after input to message → answers op message ≡ true → (m : Message Op) × (input ≡ Take to m) × (asks op m ≡ true)
  answers_one op to (Deltas groups entries) t a = absurd (cc a)
  answers_one op to (Nack keys) t a = absurd (cc a)
  answers_one op to (Status digests) t a = absurd (cc a)
  answers_one op to (Gossip entries wants) t a = absurd (cc a)
  answers_one op to (Write o key entry) t a = absurd (cc a)
  answers_one op to (WriteAck o) t a = (Write o t.0 t.1, t.2, a)
  answers_one op to (WriteNack o) t a = (Write o t.0 t.1, t.2, a)
  answers_one op to (Read o key) t a = absurd (cc a)
  answers_one op to (ReadAnswer o key entry) t a = (Read o key, t.0, a)

  -- a question has the number of an operation that opens in this step
  asks_new : (op : ℕ) (to : ℕ) (message : Message Op) → Tells D node after input to message → asks op message ≡ true → (op ≡ node.next_op) × (node.next_op < after.next_op)
  asks_new op to (Deltas groups entries) t a = absurd (cc a)
  asks_new op to (Nack keys) t a = absurd (cc a)
  asks_new op to (Status digests) t a = absurd (cc a)
  asks_new op to (Gossip entries wants) t a = absurd (cc a)
  asks_new op to (Write o key entry) t a = (sym ((Decides-eqb o op).0 a) ∙ t.0, t.1)
  asks_new op to (WriteAck o) t a = absurd (cc a)
  asks_new op to (WriteNack o) t a = absurd (cc a)
  asks_new op to (Read o key) t a = (sym ((Decides-eqb o op).0 a) ∙ t.0, t.1)
  asks_new op to (ReadAnswer o key entry) t a = absurd (cc a)

  all_posts : (Q : Post Op → Type 0) → ((post : Post Op) → PostTells D node after input post → Q post) → (posts : List (Post Op)) → AllByRecursion (PostTells D node after input) posts → AllByRecursion Q posts
  all_posts Q h [] all = tt
  all_posts Q h (post ∷ posts) all = (h post all.0, all_posts Q h posts all.1)

  pub posts_answer : (op : ℕ) → AllByRecursion (λ (post : Post Op). answers op post.message ≡ true → (m : Message Op) × (input ≡ Take post.to m) × (asks op m ≡ true)) (step D node input fate).output.posts
  posts_answer op = all_posts (λ (post : Post Op). answers op post.message ≡ true → (m : Message Op) × (input ≡ Take post.to m) × (asks op m ≡ true)) (λ post t. answers_one op post.to post.message t.tells) (step D node input fate).output.posts (step_tells D node input fate).posts

  pub posts_ask : (op : ℕ) → AllByRecursion (λ (post : Post Op). asks op post.message ≡ true → (op ≡ node.next_op) × (node.next_op < after.next_op)) (step D node input fate).output.posts
  posts_ask op = all_posts (λ (post : Post Op). asks op post.message ≡ true → (op ≡ node.next_op) × (node.next_op < after.next_op)) (λ post t. asks_new op post.to post.message t.tells) (step D node input fate).output.posts (step_tells D node input fate).posts

  pub number_grows : node.next_op ≤ (step D node input fate).node.next_op
  number_grows = (step_tells D node input fate).grows

  -- CLOSED OPERATIONS

  closed : (op : ℕ) (os : List OpenOperation) → list_any (λ (o : OpenOperation). o.op == op) os ≡ false → (p : OpenOperation) → IsIn os p → p.op ≢ op
  closed op [] e p h = absurd (cc h.1)
  closed op (o ∷ os) e p (zero, h) = λ is. absurd (true≢false (sym (ap (λ b. b || list_any (λ (o : OpenOperation). o.op == op) os) ((Decides-eqb o.op op).1 (let s : o ≡ p = cc h in ap (λ (x : OpenOperation). x.op) s ∙ is))) ∙ e))
  closed op (o ∷ os) e p (suc k, h) = closed op os (by_test (o.op == op) e) p (k, h)
    where
      by_test : (b : Bool) → (b || list_any (λ (o : OpenOperation). o.op == op) os) ≡ false → list_any (λ (o : OpenOperation). o.op == op) os ≡ false
      by_test true e = absurd (cc e)
      by_test false e = e

  none_open : (op : ℕ) (os : List OpenOperation) → ((p : OpenOperation) → IsIn os p → p.op ≢ op) → list_any (λ (o : OpenOperation). o.op == op) os ≡ false
  none_open op [] h = refl
  none_open op (o ∷ os) h = by_test (o.op == op) refl (none_open op os (λ p m. h p (in_tail o os p m)))
    where
      by_test : (b : Bool) → (o.op == op) ≡ b → list_any (λ (o : OpenOperation). o.op == op) os ≡ false → (b || list_any (λ (o : OpenOperation). o.op == op) os) ≡ false
      by_test true e later = absurd (h o (zero, refl) ((Decides-eqb o.op op).0 e))
      by_test false e later = later

  pub closed_stays : (op : ℕ) → op < node.next_op → is_open op (Some node) ≡ false → is_open op (Some (step D node input fate).node) ≡ false
  closed_stays op given e = none_open op (step D node input fate).node.open_operations (λ p m. by p ((step_tells D node input fate).operations p m))
    where
      by : (p : OpenOperation) → OpenAfter node (step D node input fate).node input p → p.op ≢ op
      by p (Stays h) = closed op node.open_operations e p h
      by p (Opened is new) = λ same. absurd (let a = given in let b = is in omega (arith, a, b, same))
      by p (Answered from o c is) = λ same. closed op node.open_operations e o c.stood (ap (λ (x : OpenOperation). x.op) is ∙ same)
