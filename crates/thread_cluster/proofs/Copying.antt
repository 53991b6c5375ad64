-- Messages to an identity, post by post.
use Rattle.std.proofs.Common.{◌≡◌, ℕ, zero, suc, ◌+◌, ◌-◌, ◌<◌, if◌then◌else◌, Bool, true, false, List, [], ◌∷◌, ◌++◌, length, take, drop, get_or, Some, slice_get, refl, ap, sym, ◌∙◌, arith, append_assoc, length-append, add-one}
use Rattle.std.specs.Prelude.{◌==◌}
use Rattle.data_lattice.specs.declared.replica.Replica.{Ghosts}
use Rattle.member_messages.specs.declared.message.Message.{Message}
use Rattle.member_messages.specs.declared.message.Post.{Post}
use Rattle.thread_cluster.specs.Messages.{messages_to}
use Rattle.thread_cluster.proofs.Lists.{take_snoc, drop_append}

if_cons : {A : Type 0} (b : Bool) (m : A) (xs ys : List A) → (if b then m ∷ xs else xs) ++ ys ≡ (if b then m ∷ (xs ++ ys) else (xs ++ ys))
if_cons true m xs ys = refl
if_cons false m xs ys = refl

get_item : {A : Type 0} (xs : List A) (i : ℕ) (x : A) → i < length xs → x ≡ get_or xs i x → slice_get xs i ≡ Some x
get_item [] i x lt is = absurd (omega arith)
get_item (y ∷ xs) zero x lt is = ap Some (sym is)
get_item (y ∷ xs) (suc i) x lt is = get_item xs i x (omega arith) is

module _ {T Kind Op Delta : Type 0} {ghosts : Ghosts T Kind Op Delta} where
  pub messages_to-append : (id : ℕ) (xs ys : List (Post T Kind Op Delta ghosts)) → messages_to id (xs ++ ys) ≡ messages_to id xs ++ messages_to id ys
  messages_to-append id [] ys = refl
  messages_to-append id (post ∷ xs) ys =
      ap (λ (w : List (Message T Kind Op Delta ghosts)). if post.to == id then post.message ∷ w else w) (messages_to-append id xs ys)
      ∙ sym (if_cons (post.to == id) post.message (messages_to id xs) (messages_to id ys))

  -- one post more of those so far
  one_more : (id : ℕ) (posts : List (Post T Kind Op Delta ghosts)) (i : ℕ) (post : Post T Kind Op Delta ghosts) → i < length posts → post ≡ get_or posts i post
      → messages_to id (take (i + 1) posts) ≡ messages_to id (take i posts) ++ messages_to id (post ∷ [])
  one_more id posts i post lt is =
      ap (λ (k : ℕ). messages_to id (take k posts)) (add-one i)
      ∙ (ap (messages_to id) (take_snoc posts i post (get_item posts i post lt is)) ∙ messages_to-append id (take i posts) (post ∷ []))

  pub count_more : (id count next : ℕ) (posts : List (Post T Kind Op Delta ghosts)) (i : ℕ) (post : Post T Kind Op Delta ghosts) → i < length posts → post ≡ get_or posts i post
      → count ≡ length (messages_to id (take i posts)) → next ≡ count + length (messages_to id (post ∷ [])) → next ≡ length (messages_to id (take (i + 1) posts))
  count_more id count next posts i post lt is so_far step =
      let grown : length (messages_to id (take (i + 1) posts)) ≡ length (messages_to id (take i posts)) + length (messages_to id (post ∷ [])) =
      ap length (one_more id posts i post lt is) ∙ length-append (messages_to id (take i posts)) (messages_to id (post ∷ [])) in
      omega arith

  pub left_more : (id skip left next : ℕ) (posts : List (Post T Kind Op Delta ghosts)) (i : ℕ) (post : Post T Kind Op Delta ghosts) → i < length posts → post ≡ get_or posts i post
      → left ≡ skip - length (messages_to id (take i posts)) → next ≡ left - length (messages_to id (post ∷ [])) → next ≡ skip - length (messages_to id (take (i + 1) posts))
  left_more id skip left next posts i post lt is so_far step =
      let count : length (messages_to id (take (i + 1) posts)) ≡ length (messages_to id (take i posts)) + length (messages_to id (post ∷ [])) =
      ap length (one_more id posts i post lt is) ∙ length-append (messages_to id (take i posts)) (messages_to id (post ∷ [])) in
      omega arith

  pub copies_more : (id skip left : ℕ) (first before after : List (Message T Kind Op Delta ghosts)) (posts : List (Post T Kind Op Delta ghosts)) (i : ℕ) (post : Post T Kind Op Delta ghosts) → i < length posts → post ≡ get_or posts i post
      → left ≡ skip - length (messages_to id (take i posts)) → before ≡ first ++ drop skip (messages_to id (take i posts)) → after ≡ before ++ drop left (messages_to id (post ∷ [])) → after ≡ first ++ drop skip (messages_to id (take (i + 1) posts))
  copies_more id skip left first before after posts i post lt is so_far copied step =
      let ms = messages_to id (take i posts) in
      let m = messages_to id (post ∷ []) in
      step
      ∙ (ap (λ (w : List (Message T Kind Op Delta ghosts)). w ++ drop left m) copied
      ∙ (ap (λ (k : ℕ). (first ++ drop skip ms) ++ drop k m) so_far
      ∙ (append_assoc first (drop skip ms) (drop (skip - length ms) m)
      ∙ (ap (λ (w : List (Message T Kind Op Delta ghosts)). first ++ w) (sym (drop_append skip ms m))
      ∙ ap (λ (w : List (Message T Kind Op Delta ghosts)). first ++ drop skip w) (sym (one_more id posts i post lt is))))))
