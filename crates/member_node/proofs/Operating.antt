-- Operations of a member, and how they stand for the model's.
-- The operation of a number, where how the first ones ended was forgotten.
--     forgotten-get, kept-get, kept-set, known-length        among all that are known
--     kept-open, kept-finished        one that is not kept is neither open nor has an end
-- The operations of a member under what a step makes of them.
--     open-pushed, finished-pushed        one more is open
--     open-put, finished-put        one has another answer
--     open-closed, finished-closed        one ends, with a result or without
--     open-found, open-any        the open one of a number
-- How an operation of a number stands, by what is at its place.
-- Operations that stand for a member's go on standing for them.
--     operates_same        nothing is opened, answered or closed
--     operates_opened, operates_answered, operates_closed, operates_ended        one is
-- An operation that is opened is opened in the model, and the same is asked of the others.
--     to_peers-one, to_peers-none        the same message to each other member, one member more
--     opened_can, opened_pending        it can be carried out, and its reply says that it is open
--     opened_operates, opened_answers        the operations and the output are the model's
-- An answer that counts, counts in the model.
--     counts_can, counts_opens_none        it can be carried out, and opens no operation
--     none_open, other_open, counts_nothing, counts_waits, counts_ends        what is answered to it
--     IsCounted        the operations and the end are the model's, and else nothing changes
--     write_counts, read_counts        it is so for a write, and for a read of a key
use Rattle.std.proofs.Common.{eq-eqb, ne_eqb, ◌≡◌, ◌≢◌, ℕ, ◌+◌, ◌<◌, List, [], ◌∷◌, ◌++◌, length, refl, sym, ap, ◌∙◌, subst, Bool, true, false, not, Option, Some, None, inl, inr, arith, suc, zero, ◌⊎◌, ◌==◌, ◌&&◌, ◌||◌, if◌then◌else◌, map, filter, find, option_map, is_some, slice_get, slice_set, replicate, ◌-◌, length-set, length-append, subst₂, append-nil, ◌≤◌, nat_le, Result, IfSome, IfOk, bytes_eq}
use Rattle.std.specs.List.{list_any, AllZip}
use Rattle.std.proofs.lemmas.Bool.Decides.{eqb_tells, leb_tells}
use Rattle.std.proofs.lemmas.List.{map-append, set-append_right, length-replicate}
use Rattle.std.proofs.lemmas.List.Elements.{filter-append}
use Rattle.std.proofs.lemmas.Result.{IfOk-weaker}
use Rattle.std.specs.Option.{option_and_then}
use Rattle.member_node.proofs.Common.{known, Text, History, OpenOperation, one_step_later, Stepped, key_state, opened, counted, result_of, is_answered_by, Replication, bytes_eq-tells, Shown, Ghosts, Keeping, Message, StandsForMessage, StandsForPost, StandsForPosts, Open, StandForOperations, result_meant, changed_operations, Node, Prepared, peers_of, StandsForNode, IsOpened, is_pending, meant, StandsForOutput, Put}
use Rattle.model_history.specs.Vector.{alone, members_of, with_member}
use Rattle.model_members.specs.Node as nodes
use Rattle.model_members.specs.Node.{Result as Meant}
use Rattle.model_members.specs.View.{others}
use Rattle.model_members.specs.Entry.{Entry}
use Rattle.model_members.specs.Message.{Message as Sent}
use Rattle.model_members.specs.Step.{with_answer, read_result, meaning_of}
use Rattle.model_members.proofs.Cases.{counted_for}
use Rattle.base_vectors.specs.IdSets.{member_count}
use Rattle.member_messages.specs.declared.message.Post.{Post}
use Rattle.member_quorum.specs.Counts.{answered_by}
use Rattle.member_node.specs.declared.operation.Asked.{Asked}
use Rattle.member_node.specs.declared.operation.Operation.{Operation}
use Rattle.member_node.specs.declared.operation.Operation.TheVariants.{Finished, TimedOut}
use Rattle.member_node.specs.declared.operations.Operations.{Operations}
use Rattle.member_node.specs.Operations.{kept_at, asked_meant, open_from, open_in, finished_as, finished_at, result_at, CanChange, opens_one, finished_meant}
use Rattle.member_node.specs.Counting.{open_as, open_at, is_open, count_with, IsAnswered, is_write, is_read_of, IsCountOf}
use Rattle.member_node.specs.declared.operation.OperationResult.{OperationResult}
use Rattle.member_node.specs.declared.counting.Counted.{Counted}
use Rattle.member_node.specs.declared.operation.OperationResult.TheVariants.{Wrote}
use Rattle.member_node.specs.declared.operations.OperationChange.TheVariants.{Same}
use Rattle.member_node.specs.Counting.IsCountOf.{nothing, waits, ends}

-- BY NUMBER

-- what was forgotten counts as closed
pub forgotten-get : (n op : ℕ) (kept : List Operation) → op < n → slice_get (replicate n TimedOut ++ kept) op ≡ Some TimedOut
forgotten-get zero op kept h = absurd (omega arith)
forgotten-get (suc n) zero kept h = refl
forgotten-get (suc n) (suc op) kept h = forgotten-get n op kept (omega arith)

-- and the others are kept
pub kept-get : (n op : ℕ) (kept : List Operation) → n ≤ op → slice_get (replicate n TimedOut ++ kept) op ≡ slice_get kept (op - n)
kept-get zero op kept h = let same : op ≡ op - 0 = omega arith in ap (slice_get kept) same
kept-get (suc n) zero kept h = absurd (omega arith)
kept-get (suc n) (suc op) kept h = let same : op - n ≡ suc op - suc n = omega arith in kept-get n op kept (omega arith) ∙ ap (slice_get kept) same

pub kept-set : (n op : ℕ) (kept : List Operation) (x : Operation) → n ≤ op → slice_set (replicate n TimedOut ++ kept) op x ≡ replicate n TimedOut ++ slice_set kept (op - n) x
kept-set n op kept x h = set-append_right (replicate n TimedOut) kept n op x (length-replicate n TimedOut) h

pub known-length : (n : ℕ) (kept : List Operation) → length (replicate n TimedOut ++ kept) ≡ n + length kept
known-length n kept = length-append (replicate n TimedOut) kept ∙ ap (λ m. m + length kept) (length-replicate n TimedOut)

-- one that is not kept is neither open nor has an end
pub kept-open : (operations : Operations) (op : ℕ) → open_as (kept_at operations op) ≡ open_at (known operations) op
kept-open operations op = elim (leb_tells (suc op) operations.forgotten) [
  | inl e ↦ ap (λ b. open_as (if b then None else slice_get operations.kept.items (op - operations.forgotten))) e.0 ∙ sym (ap open_as (forgotten-get operations.forgotten op operations.kept.items (omega (arith, e.1))))
  | inr e ↦ ap (λ b. open_as (if b then None else slice_get operations.kept.items (op - operations.forgotten))) e.0 ∙ sym (ap open_as (kept-get operations.forgotten op operations.kept.items (omega (arith, e.1))))
]

pub kept-finished : (operations : Operations) (op : ℕ) → finished_as (kept_at operations op) ≡ finished_at (known operations) op
kept-finished operations op = elim (leb_tells (suc op) operations.forgotten) [
  | inl e ↦ ap (λ b. finished_as (if b then None else slice_get operations.kept.items (op - operations.forgotten))) e.0 ∙ sym (ap finished_as (forgotten-get operations.forgotten op operations.kept.items (omega (arith, e.1))))
  | inr e ↦ ap (λ b. finished_as (if b then None else slice_get operations.kept.items (op - operations.forgotten))) e.0 ∙ sym (ap finished_as (kept-get operations.forgotten op operations.kept.items (omega (arith, e.1))))
]

-- LISTS OF OPERATIONS

open_from-pushed : (n : ℕ) (operations : List Operation) (asked : Asked) → open_from n (operations ++ Open asked ∷ []) ≡ open_from n operations ++ asked_meant (n + length operations) asked ∷ []
open_from-pushed n [] asked = let same : n ≡ n + length {A = Operation} [] = omega arith in ap (λ m. asked_meant m asked ∷ []) same
open_from-pushed n (Open other ∷ operations) asked =
    let same : (n + 1) + length operations ≡ n + length (Open other ∷ operations) = omega arith in
    ap (λ os. asked_meant n other ∷ os) (open_from-pushed (n + 1) operations asked ∙ ap (λ m. open_from (n + 1) operations ++ asked_meant m asked ∷ []) same)
open_from-pushed n (Finished end ∷ operations) asked =
    let same : (n + 1) + length operations ≡ n + length (Finished end ∷ operations) = omega arith in
    open_from-pushed (n + 1) operations asked ∙ ap (λ m. open_from (n + 1) operations ++ asked_meant m asked ∷ []) same
open_from-pushed n (TimedOut ∷ operations) asked =
    let same : (n + 1) + length operations ≡ n + length (TimedOut ∷ operations) = omega arith in
    open_from-pushed (n + 1) operations asked ∙ ap (λ m. open_from (n + 1) operations ++ asked_meant m asked ∷ []) same

pub open-pushed : (operations : List Operation) (asked : Asked) → open_in (operations ++ Open asked ∷ []) ≡ open_in operations ++ asked_meant (length operations) asked ∷ []
open-pushed operations asked = let same : 0 + length operations ≡ length operations = omega arith in open_from-pushed 0 operations asked ∙ ap (λ m. open_in operations ++ asked_meant m asked ∷ []) same

pub finished-pushed : (operations : List Operation) (asked : Asked) (op : ℕ) → finished_at (operations ++ Open asked ∷ []) op ≡ finished_at operations op
finished-pushed [] asked zero = refl
finished-pushed [] asked (suc op) = refl
finished-pushed (operation ∷ operations) asked zero = refl
finished-pushed (operation ∷ operations) asked (suc op) = finished-pushed operations asked op

-- ANOTHER ANSWER

map_above : (now : OpenOperation) (op n : ℕ) (operations : List Operation) → op < n → map (λ (o : OpenOperation). if o.op == op then now else o) (open_from n operations) ≡ open_from n operations
map_above now op n [] h = refl
map_above now op n (Open asked ∷ operations) h =
    let apart : n ≢ op = omega arith in
    ap (λ b. (if b then now else asked_meant n asked) ∷ map (λ (o : OpenOperation). if o.op == op then now else o) (open_from (n + 1) operations)) (ne_eqb n op apart)
    ∙ ap (λ os. asked_meant n asked ∷ os) (map_above now op (n + 1) operations (omega arith))
map_above now op n (_ ∷ operations) h = map_above now op (n + 1) operations (omega arith)

open_from-put : (op n k : ℕ) (operations : List Operation) (asked next : Asked) → op ≡ n + k → slice_get operations k ≡ Some (Open asked)
    → open_from n (slice_set operations k (Open next)) ≡ map (λ (o : OpenOperation). if o.op == op then asked_meant op next else o) (open_from n operations)
open_from-put op n k [] asked next is e = absurd (cc e)
open_from-put op n zero (Open other ∷ operations) asked next is e =
    let same : n ≡ op = omega arith in
    subst (λ m. open_from n (Open next ∷ operations) ≡ map (λ (o : OpenOperation). if o.op == m then asked_meant m next else o) (open_from n (Open other ∷ operations))) same
    (sym (ap (λ b. (if b then asked_meant n next else asked_meant n other) ∷ map (λ (o : OpenOperation). if o.op == n then asked_meant n next else o) (open_from (n + 1) operations)) (eq-eqb n n refl)
    ∙ ap (λ os. asked_meant n next ∷ os) (map_above (asked_meant n next) n (n + 1) operations (omega arith))))
open_from-put op n (suc k) (Open other ∷ operations) asked next is e =
    let apart : n ≢ op = omega arith in
    ap (λ os. asked_meant n other ∷ os) (open_from-put op (n + 1) k operations asked next (omega arith) e)
    ∙ sym (ap (λ b. (if b then asked_meant op next else asked_meant n other) ∷ map (λ (o : OpenOperation). if o.op == op then asked_meant op next else o) (open_from (n + 1) operations)) (ne_eqb n op apart))
open_from-put op n zero (_ ∷ operations) asked next is e = absurd (cc e)
open_from-put op n (suc k) (_ ∷ operations) asked next is e = open_from-put op (n + 1) k operations asked next (omega arith) e

pub open-put : (op : ℕ) (operations : List Operation) (asked next : Asked) → slice_get operations op ≡ Some (Open asked)
    → open_in (slice_set operations op (Open next)) ≡ map (λ (o : OpenOperation). if o.op == op then asked_meant op next else o) (open_in operations)
open-put op operations asked next e = open_from-put op 0 op operations asked next (omega arith) e

pub finished-put : (op : ℕ) (operations : List Operation) (asked : Asked) (x : Operation) (q : ℕ) → slice_get operations op ≡ Some (Open asked) → finished_as (Some x) ≡ None
    → finished_at (slice_set operations op x) q ≡ finished_at operations q
finished-put op [] asked x q e none = absurd (cc e)
finished-put zero (operation ∷ operations) asked x zero e none = none ∙ sym (ap finished_as e)
finished-put zero (operation ∷ operations) asked x (suc q) e none = refl
finished-put (suc op) (operation ∷ operations) asked x zero e none = refl
finished-put (suc op) (operation ∷ operations) asked x (suc q) e none = finished-put op operations asked x q e none

-- AN END

-- one that isn't open counts for nothing among the open ones
open_from-skips : (n : ℕ) (x : Operation) (operations : List Operation) → open_as (Some x) ≡ None → open_from n (x ∷ operations) ≡ open_from (n + 1) operations
open_from-skips n (Open asked) operations none = absurd (cc none)
open_from-skips n _ operations none = refl

filter_above : (op n : ℕ) (operations : List Operation) → op < n → filter (λ (o : OpenOperation). not (o.op == op)) (open_from n operations) ≡ open_from n operations
filter_above op n [] h = refl
filter_above op n (Open asked ∷ operations) h =
    let apart : n ≢ op = omega arith in
    let rest = filter (λ (o : OpenOperation). not (o.op == op)) (open_from (n + 1) operations) in
    ap (λ b. if not b then asked_meant n asked ∷ filter (λ (o : OpenOperation). not (o.op == op)) (open_from (n + 1) operations) else filter (λ (o : OpenOperation). not (o.op == op)) (open_from (n + 1) operations)) (ne_eqb n op apart)
    ∙ ap (λ os. asked_meant n asked ∷ os) (filter_above op (n + 1) operations (omega arith))
filter_above op n (_ ∷ operations) h = filter_above op (n + 1) operations (omega arith)

open_from-closed : (op n k : ℕ) (operations : List Operation) (asked : Asked) (x : Operation) → op ≡ n + k → slice_get operations k ≡ Some (Open asked) → open_as (Some x) ≡ None
    → open_from n (slice_set operations k x) ≡ filter (λ (o : OpenOperation). not (o.op == op)) (open_from n operations)
open_from-closed op n k [] asked x is e none = absurd (cc e)
open_from-closed op n zero (Open other ∷ operations) asked x is e none =
    let same : n ≡ op = omega arith in
    open_from-skips n x operations none
    ∙ subst (λ m. open_from (n + 1) operations ≡ filter (λ (o : OpenOperation). not (o.op == m)) (open_from n (Open other ∷ operations))) same
    (sym (ap (λ b. if not b then asked_meant n other ∷ filter (λ (o : OpenOperation). not (o.op == n)) (open_from (n + 1) operations) else filter (λ (o : OpenOperation). not (o.op == n)) (open_from (n + 1) operations)) (eq-eqb n n refl)
    ∙ filter_above n (n + 1) operations (omega arith)))
open_from-closed op n (suc k) (Open other ∷ operations) asked x is e none =
    let apart : n ≢ op = omega arith in
    ap (λ os. asked_meant n other ∷ os) (open_from-closed op (n + 1) k operations asked x (omega arith) e none)
    ∙ sym (ap (λ b. if not b then asked_meant n other ∷ filter (λ (o : OpenOperation). not (o.op == op)) (open_from (n + 1) operations) else filter (λ (o : OpenOperation). not (o.op == op)) (open_from (n + 1) operations)) (ne_eqb n op apart))
open_from-closed op n zero (_ ∷ operations) asked x is e none = absurd (cc e)
open_from-closed op n (suc k) (_ ∷ operations) asked x is e none = open_from-closed op (n + 1) k operations asked x (omega arith) e none

pub open-closed : (op : ℕ) (operations : List Operation) (asked : Asked) (x : Operation) → slice_get operations op ≡ Some (Open asked) → open_as (Some x) ≡ None
    → open_in (slice_set operations op x) ≡ filter (λ (o : OpenOperation). not (o.op == op)) (open_in operations)
open-closed op operations asked x e none = open_from-closed op 0 op operations asked x (omega arith) e none

-- the first of two results
abbrev pub or_else : Option (Meant Shown) → Option (Meant Shown) → Option (Meant Shown)
or_else None other = other
or_else (Some x) other = Some x

abbrev pub if_number : (op q : ℕ) → Meant Shown → Option (Meant Shown)
if_number op q end = if op == q then Some end else None

pub result-added : (finished : List (nodes.Finished Shown)) (op : ℕ) (end : Meant Shown) (q : ℕ) → result_at (finished ++ record { op = op; result = end } ∷ []) q ≡ or_else (result_at finished q) (if_number op q end)
result-added [] op end q = go (op == q)
  where
    go : (b : Bool) → option_map (λ (f : nodes.Finished Shown). f.result) (if b then Some (record { op = op; result = end }) else None) ≡ (if b then Some end else None)
    go true = refl
    go false = refl
result-added (f ∷ finished) op end q = go (f.op == q) (result-added finished op end q)
  where
    go : (b : Bool) → result_at (finished ++ record { op = op; result = end } ∷ []) q ≡ or_else (result_at finished q) (if_number op q end)
        → option_map (λ (f : nodes.Finished Shown). f.result) (if b then Some f else find (λ (f : nodes.Finished Shown). f.op == q) (finished ++ record { op = op; result = end } ∷ []))
        ≡ or_else (option_map (λ (f : nodes.Finished Shown). f.result) (if b then Some f else find (λ (f : nodes.Finished Shown). f.op == q) finished)) (if_number op q end)
    go true rest = refl
    go false rest = rest

or_none : (o : Option (Meant Shown)) → o ≡ or_else o None
or_none None = refl
or_none (Some y) = refl

pub finished-ended : (op q : ℕ) (operations : List Operation) (asked : Asked) (x : Operation) (end : Meant Shown) → slice_get operations op ≡ Some (Open asked) → finished_as (Some x) ≡ Some end
    → finished_at (slice_set operations op x) q ≡ or_else (finished_at operations q) (if_number op q end)
finished-ended op q [] asked x end e is = absurd (cc e)
finished-ended zero zero (operation ∷ operations) asked x end e is = is ∙ sym (ap (λ o. or_else (finished_as o) (Some end)) e)
finished-ended zero (suc q) (operation ∷ operations) asked x end e is =
    let apart : 0 ≢ suc q = omega arith in
    or_none (finished_at operations q) ∙ sym (ap (λ b. or_else (finished_at operations q) (if b then Some end else None)) (ne_eqb 0 (suc q) apart))
finished-ended (suc op) zero (operation ∷ operations) asked x end e is =
    let apart : suc op ≢ 0 = omega arith in
    or_none (finished_as (Some operation)) ∙ sym (ap (λ b. or_else (finished_as (Some operation)) (if b then Some end else None)) (ne_eqb (suc op) 0 apart))
finished-ended (suc op) (suc q) (operation ∷ operations) asked x end e is =
    finished-ended op q operations asked x end e is ∙ ap (λ b. or_else (finished_at operations q) (if b then Some end else None)) (both (eqb_tells op q))
  where
    both : ((op == q) ≡ true) × (op ≡ q) ⊎ ((op == q) ≡ false) × (op ≢ q) → (op == q) ≡ (suc op == suc q)
    both (inl e) = e.0 ∙ sym (ap (λ n. suc op == suc n) (sym e.1) ∙ eq-eqb (suc op) (suc op) refl)
    both (inr e) = let apart : op ≢ q = e.1 in let apart' : suc op ≢ suc q = omega arith in e.0 ∙ sym (ne_eqb (suc op) (suc q) apart')

-- THE OPEN ONE OF A NUMBER

-- it, if it passes the test
abbrev pub found_as : (OpenOperation → Bool) → ℕ → Option Asked → Option OpenOperation
found_as test op None = None
found_as test op (Some asked) = if test (asked_meant op asked) then Some (asked_meant op asked) else None

find_above : (test : OpenOperation → Bool) (op n : ℕ) (operations : List Operation) → op < n → find (λ (o : OpenOperation). (o.op == op) && test o) (open_from n operations) ≡ None
find_above test op n [] h = refl
find_above test op n (Open asked ∷ operations) h =
    let apart : n ≢ op = omega arith in
    ap (λ b. if b && test (asked_meant n asked) then Some (asked_meant n asked) else find (λ (o : OpenOperation). (o.op == op) && test o) (open_from (n + 1) operations)) (ne_eqb n op apart)
    ∙ find_above test op (n + 1) operations (omega arith)
find_above test op n (_ ∷ operations) h = find_above test op (n + 1) operations (omega arith)

open_from-found : (test : OpenOperation → Bool) (op n k : ℕ) (operations : List Operation) → op ≡ n + k
    → find (λ (o : OpenOperation). (o.op == op) && test o) (open_from n operations) ≡ found_as test op (open_as (slice_get operations k))
open_from-found test op n k [] is = refl
open_from-found test op n zero (Open asked ∷ operations) is =
    let same : n ≡ op = omega arith in
    subst (λ m. find (λ (o : OpenOperation). (o.op == m) && test o) (open_from n (Open asked ∷ operations)) ≡ found_as test m (Some asked)) same
    (ap (λ b. if b && test (asked_meant n asked) then Some (asked_meant n asked) else find (λ (o : OpenOperation). (o.op == n) && test o) (open_from (n + 1) operations)) (eq-eqb n n refl)
    ∙ ap (λ other. if test (asked_meant n asked) then Some (asked_meant n asked) else other) (find_above test n (n + 1) operations (omega arith)))
open_from-found test op n (suc k) (Open asked ∷ operations) is =
    let apart : n ≢ op = omega arith in
    ap (λ b. if b && test (asked_meant n asked) then Some (asked_meant n asked) else find (λ (o : OpenOperation). (o.op == op) && test o) (open_from (n + 1) operations)) (ne_eqb n op apart)
    ∙ open_from-found test op (n + 1) k operations (omega arith)
open_from-found test op n zero (_ ∷ operations) is = find_above test op (n + 1) operations (omega arith)
open_from-found test op n (suc k) (_ ∷ operations) is = open_from-found test op (n + 1) k operations (omega arith)

pub open-found : (test : OpenOperation → Bool) (op : ℕ) (operations : List Operation) → find (λ (o : OpenOperation). (o.op == op) && test o) (open_in operations) ≡ found_as test op (open_at operations op)
open-found test op operations = open_from-found test op 0 op operations (omega arith)

any_above : (op n : ℕ) (operations : List Operation) → op < n → list_any (λ (o : OpenOperation). o.op == op) (open_from n operations) ≡ false
any_above op n [] h = refl
any_above op n (Open asked ∷ operations) h =
    let apart : n ≢ op = omega arith in
    ap (λ b. b || list_any (λ (o : OpenOperation). o.op == op) (open_from (n + 1) operations)) (ne_eqb n op apart) ∙ any_above op (n + 1) operations (omega arith)
any_above op n (_ ∷ operations) h = any_above op (n + 1) operations (omega arith)

open_from-any : (op n k : ℕ) (operations : List Operation) → op ≡ n + k → list_any (λ (o : OpenOperation). o.op == op) (open_from n operations) ≡ is_some (open_as (slice_get operations k))
open_from-any op n k [] is = refl
open_from-any op n zero (Open asked ∷ operations) is =
    let same : n ≡ op = omega arith in
    ap (λ b. b || list_any (λ (o : OpenOperation). o.op == op) (open_from (n + 1) operations)) (ap (λ m. n == m) (sym same) ∙ eq-eqb n n refl)
open_from-any op n (suc k) (Open asked ∷ operations) is =
    let apart : n ≢ op = omega arith in
    ap (λ b. b || list_any (λ (o : OpenOperation). o.op == op) (open_from (n + 1) operations)) (ne_eqb n op apart) ∙ open_from-any op (n + 1) k operations (omega arith)
open_from-any op n zero (_ ∷ operations) is = any_above op (n + 1) operations (omega arith)
open_from-any op n (suc k) (_ ∷ operations) is = open_from-any op (n + 1) k operations (omega arith)

pub open-any : (op : ℕ) (operations : List Operation) → list_any (λ (o : OpenOperation). o.op == op) (open_in operations) ≡ is_some (open_at operations op)
open-any op operations = open_from-any op 0 op operations (omega arith)

-- HOW ONE STANDS

module _ {Kind Op : Type 0} (operations : List Operation) (node : nodes.Node Kind Op Shown) (s : StandForOperations operations node) (op : ℕ) where
  pub looked_open : is_open node op ≡ is_some (open_at operations op)
  looked_open = ap (list_any (λ (p : OpenOperation). p.op == op)) s.open_ones ∙ open-any op operations

module _ {Kind Op : Type 0} (operations : Operations) (node : nodes.Node Kind Op Shown) (s : StandForOperations (known operations) node) (op : ℕ) where
  pub looked : (o : Option Operation) → kept_at operations op ≡ o → is_open node op ≡ is_some (open_as o)
  looked o is = looked_open (known operations) node s op ∙ ap is_some (sym (kept-open operations op)) ∙ ap (λ x. is_some (open_as x)) is

  pub looked_result : (o : Option Operation) → kept_at operations op ≡ o → result_at node.finished op ≡ finished_as o
  looked_result o is = s.finished op ∙ sym (kept-finished operations op) ∙ ap finished_as is

-- THEY GO ON STANDING

module _ {Kind Op : Type 0} (operations : List Operation) (node next : nodes.Node Kind Op Shown) (s : StandForOperations operations node) where
  pub operates_same : next.open_operations ≡ node.open_operations → next.finished ≡ node.finished → next.next_op ≡ node.next_op → StandForOperations operations next
  operates_same opens ended number = record {
    open_ones = opens ∙ s.open_ones;
    finished = λ op. ap (λ fs. result_at fs op) ended ∙ s.finished op;
    next = number ∙ s.next;
  }

  pub operates_opened : (asked : Asked) (o : OpenOperation) → asked_meant (length operations) asked ≡ o → next.open_operations ≡ node.open_operations ++ o ∷ [] → next.finished ≡ node.finished → next.next_op ≡ node.next_op + 1
      → StandForOperations (operations ++ Open asked ∷ []) next
  operates_opened asked o is opens ended number = record {
    open_ones = opens ∙ ap (λ os. os ++ o ∷ []) s.open_ones ∙ ap (λ p. open_in operations ++ p ∷ []) (sym is) ∙ sym (open-pushed operations asked);
    finished = λ op. ap (λ fs. result_at fs op) ended ∙ s.finished op ∙ sym (finished-pushed operations asked op);
    next = number ∙ (let before = s.next in let more = length-append operations (Open asked ∷ []) in omega arith);
  }

  pub operates_answered : (op : ℕ) (asked answered : Asked) → slice_get operations op ≡ Some (Open asked)
      → next.open_operations ≡ map (λ (o : OpenOperation). if o.op == op then asked_meant op answered else o) node.open_operations → next.finished ≡ node.finished → next.next_op ≡ node.next_op
      → StandForOperations (slice_set operations op (Open answered)) next
  operates_answered op asked answered there opens ended number = record {
    open_ones = opens ∙ ap (map (λ (o : OpenOperation). if o.op == op then asked_meant op answered else o)) s.open_ones ∙ sym (open-put op operations asked answered there);
    finished = λ q. ap (λ fs. result_at fs q) ended ∙ s.finished q ∙ sym (finished-put op operations asked (Open answered) q there refl);
    next = number ∙ s.next ∙ sym (length-set operations op (Open answered));
  }

  pub operates_closed : (op : ℕ) (asked : Asked) → slice_get operations op ≡ Some (Open asked)
      → next.open_operations ≡ filter (λ (o : OpenOperation). not (o.op == op)) node.open_operations → next.finished ≡ node.finished → next.next_op ≡ node.next_op
      → StandForOperations (slice_set operations op TimedOut) next
  operates_closed op asked there opens ended number = record {
    open_ones = opens ∙ ap (filter (λ (o : OpenOperation). not (o.op == op))) s.open_ones ∙ sym (open-closed op operations asked TimedOut there refl);
    finished = λ q. ap (λ fs. result_at fs q) ended ∙ s.finished q ∙ sym (finished-put op operations asked TimedOut q there refl);
    next = number ∙ s.next ∙ sym (length-set operations op TimedOut);
  }

  pub operates_ended : (op : ℕ) (asked : Asked) (end : OperationResult) → slice_get operations op ≡ Some (Open asked)
      → next.open_operations ≡ filter (λ (o : OpenOperation). not (o.op == op)) node.open_operations → next.finished ≡ node.finished ++ record { op = op; result = result_meant end } ∷ [] → next.next_op ≡ node.next_op
      → StandForOperations (slice_set operations op (Finished end)) next
  operates_ended op asked end there opens ended number = record {
    open_ones = opens ∙ ap (filter (λ (o : OpenOperation). not (o.op == op))) s.open_ones ∙ sym (open-closed op operations asked (Finished end) there refl);
    finished = λ q. ap (λ fs. result_at fs q) ended ∙ result-added node.finished op (result_meant end) q ∙ ap (λ o. or_else o (if_number op q (result_meant end))) (s.finished q)
        ∙ sym (finished-ended op q operations asked (Finished end) (result_meant end) there refl);
    next = number ∙ s.next ∙ sym (length-set operations op (Finished end));
  }

-- ONE IS OPENED

module _ {T Kind Op Delta : Type 0} {ghosts : Ghosts T Kind Op Delta} (id : ℕ) (message : Message T Kind Op Delta ghosts) where
  abbrev pub to_peers : List ℕ → List (Post T Kind Op Delta ghosts)
  to_peers members = map (λ i. record { to = i; message = message }) (peers_of id members)

  pub to_peers-one : (members : List ℕ) (peer : ℕ) → (peer == id) ≡ false → to_peers (members ++ peer ∷ []) ≡ to_peers members ++ record { to = peer; message = message } ∷ []
  to_peers-one members peer other =
      ap (map (λ i. record { to = i; message = message })) (filter-append (λ j. not (j == id)) members (peer ∷ []) ∙ ap (λ b. peers_of id members ++ (if not b then peer ∷ [] else [])) other)
      ∙ map-append (λ i. record { to = i; message = message }) (peers_of id members) (peer ∷ [])

  pub to_peers-none : (members : List ℕ) (peer : ℕ) → (peer == id) ≡ true → to_peers (members ++ peer ∷ []) ≡ to_peers members
  to_peers-none members peer same =
      ap (map (λ i. record { to = i; message = message })) (filter-append (λ j. not (j == id)) members (peer ∷ []) ∙ ap (λ b. peers_of id members ++ (if not b then peer ∷ [] else [])) same ∙ append-nil (peers_of id members))

-- THE MODEL

zip_mapped : {A B C : Type 0} (R : B → C → Type 0) (f : A → B) (g : A → C) → ((x : A) → R (f x) (g x)) → (xs : List A) → AllZip R (map f xs) (map g xs)
zip_mapped R f g each [] = tt
zip_mapped R f g each (x ∷ xs) = (each x, zip_mapped R f g each xs)

module _ {T K Kind Op Delta : Type 0} {ghosts : Ghosts T Kind Op Delta} {keeping : Keeping K} (code : Node T K Kind Op Delta ghosts keeping)
    (key : Text) (reads : Bool) (number : ℕ) (message : Message T Kind Op Delta ghosts) (prepared : Prepared T Kind Op Delta ghosts) (o : IsOpened code key reads number message prepared) where
  pub opened_can : CanChange code.operations prepared.operations
  opened_can = subst (CanChange code.operations) (sym o.opens) o.room

  pub opened_pending : is_pending prepared.output.reply ≡ opens_one prepared.operations
  opened_pending = ap is_pending o.reply ∙ sym (ap opens_one o.opens)

  -- for a member of the model, one step later and with these entries
  module _ (kinds : Text → Kind) (logs : Text → History Op) (node : nodes.Node Kind Op Shown) (s : StandsForNode ghosts.kind_of ghosts.IsDataOf kinds logs code node) (entries : Text → Entry Op) (told : Sent Op) where
    abbrev base : nodes.Node Kind Op Shown
    base = record (one_step_later node) { entries = entries }

    pub opened_operates : StandForOperations (changed_operations (known code.operations) prepared.operations) (opened base key reads number told).node
    opened_operates =
        let meant_so : OpenOperation = record { op = node.next_op; key = key; reads = reads; needed = number; counted = alone node.identity } in
        subst (λ c. StandForOperations (changed_operations (known code.operations) c) (opened base key reads number told).node) (sym o.opens)
        (operates_opened (known code.operations) node (opened base key reads number told).node s.operations o.next.asked meant_so
        (o.asked (length (known code.operations))
        ∙ ap (λ n. record { op = n; key = key; reads = reads; needed = number; counted = alone code.id }) (sym s.operations.next)
        ∙ ap (λ i. record { op = node.next_op; key = key; reads = reads; needed = number; counted = alone i }) (sym s.identity))
        refl refl refl)

    pub opened_answers : StandsForMessage ghosts.kind_of ghosts.IsDataOf kinds logs message told → StandsForOutput kinds logs prepared.output (opened base key reads number told).output
    opened_answers stands = record {
      reply = ap meant o.reply ∙ ap (λ n. nodes.Reply.Pending n) (sym s.operations.next);
      posts = subst (λ posts. StandsForPosts {ghosts = ghosts} ghosts.kind_of ghosts.IsDataOf kinds logs posts (opened base key reads number told).output.posts) (sym o.posts)
          (subst₂ (λ view id. StandsForPosts {ghosts = ghosts} ghosts.kind_of ghosts.IsDataOf kinds logs (map (λ i. record { to = i; message = message }) (others view id)) (map (λ i. record { to = i; message = told }) (others node.view node.identity)))
          s.view s.identity
          (zip_mapped (StandsForPost {ghosts = ghosts} ghosts.kind_of ghosts.IsDataOf kinds logs) (λ i. record { to = i; message = message }) (λ i. record { to = i; message = told }) (λ i. record { to = refl; message = stands }) (others node.view node.identity)));
      ended = sym (ap (option_map finished_meant) o.none_ends);
    }

-- AN ANSWER IS COUNTED

pub open_there : (o : Option Operation) (asked : Asked) → open_as o ≡ Some asked → o ≡ Some (Open asked)
open_there (Some (Open other)) asked is = let same : other ≡ asked = cc is in ap (λ a. Some (Open a)) same
open_there _ asked is = absurd (cc is)

pub open_within : (operations : List Operation) (op : ℕ) (x : Operation) → slice_get operations op ≡ Some x → op < length operations
open_within [] op x is = absurd (cc is)
open_within (y ∷ operations) zero x is = omega arith
open_within (y ∷ operations) (suc op) x is = let rest = open_within operations op x is in omega arith

-- an open operation was not forgotten
pub can_put : (operations : Operations) (op : ℕ) (asked : Asked) → slice_get (known operations) op ≡ Some (Open asked) → (operations.forgotten ≤ op) × (op < length (known operations))
can_put operations op asked is = (elim (leb_tells operations.forgotten op) [ inl e ↦ e.1 | inr e ↦ absurd (not_open (sym (forgotten-get operations.forgotten op operations.kept.items (omega (arith, e.1))) ∙ is)) ], open_within (known operations) op (Open asked) is)
  where
    not_open : Some TimedOut ≡ Some (Open asked) → ⊥
    not_open same = absurd (cc same)

-- no operation that passes is open
pub none_open : (test : Asked → Bool) (o : Option Asked) → None ≡ o → IfSome o (λ asked. test asked ≡ false)
none_open test o is = subst (λ o. IfSome o (λ asked. test asked ≡ false)) is tt

pub other_open : (test : Asked → Bool) (o : Option Asked) (asked : Asked) → Some asked ≡ o → test asked ≡ false → IfSome o (λ asked. test asked ≡ false)
other_open test o asked is fails = subst (λ o. IfSome o (λ asked. test asked ≡ false)) is fails

module _ (operations : Operations) (from op : ℕ) (test : Asked → Bool) (Ends : OperationResult → Type 0) where
  pub counts_can : (c : Counted) → IsCountOf (known operations) from op test Ends c → CanChange operations c.change
  counts_can c (nothing none) = tt
  counts_can c (waits asked next there passes answered) = can_put operations op asked (open_there (slice_get (known operations) op) asked there)
  counts_can c (ends asked end there passes answered is) = can_put operations op asked (open_there (slice_get (known operations) op) asked there)

module _ (operations : List Operation) (from op : ℕ) (test : Asked → Bool) (Ends : OperationResult → Type 0) where
  pub counts_opens_none : (c : Counted) → IsCountOf operations from op test Ends c → opens_one c.change ≡ false
  counts_opens_none c (nothing none) = refl
  counts_opens_none c (waits asked next there passes answered) = refl
  counts_opens_none c (ends asked end there passes answered is) = refl

  -- what a count answers
  pub counts_nothing : (c : Counted) → IfSome (open_at operations op) (λ asked. test asked ≡ false) → c ≡ record { change = Same; finished = None } → IsCountOf operations from op test Ends c
  counts_nothing c none is = subst (IsCountOf operations from op test Ends) (sym is) (nothing none)

  pub counts_waits : (c : Counted) (asked next : Asked) → Some asked ≡ open_at operations op → test asked ≡ true → IsAnswered asked from (Some next) → c ≡ record { change = Put op (Open next); finished = None } → IsCountOf operations from op test Ends c
  counts_waits c asked next there passes answered is = subst (IsCountOf operations from op test Ends) (sym is) (waits asked next (sym there) passes answered)

  pub counts_ends : {E : Type 0} (r : Result Counted E) (asked : Asked) (end : OperationResult) → Some asked ≡ open_at operations op → test asked ≡ true → IsAnswered asked from None → Ends end
      → IfOk r (λ c. c ≡ record { change = Put op (Finished end); finished = Some (record { op = op; result = end }) }) → IfOk r (IsCountOf operations from op test Ends)
  counts_ends r asked end there passes answered is =
      IfOk-weaker r (λ (c : Counted). c ≡ record { change = Put op (Finished end); finished = Some (record { op = op; result = end }) }) (IsCountOf operations from op test Ends)
      (λ c same. subst (IsCountOf operations from op test Ends) (sym same) (ends asked end (sym there) passes answered is))

-- the test of the model finds none, or the one that passes
none_found : (test : OpenOperation → Bool) (mine : Asked → Bool) (op : ℕ) → ((asked : Asked) → test (asked_meant op asked) ≡ mine asked) → (o : Option Asked) → IfSome o (λ asked. mine asked ≡ false) → found_as test op o ≡ None
none_found test mine op same None none = refl
none_found test mine op same (Some asked) none = ap (λ b. if b then Some (asked_meant op asked) else None) (same asked ∙ none)

one_found : (test : OpenOperation → Bool) (mine : Asked → Bool) (op : ℕ) → ((asked : Asked) → test (asked_meant op asked) ≡ mine asked) → (o : Option Asked) (asked : Asked) → o ≡ Some asked → mine asked ≡ true → found_as test op o ≡ Some (asked_meant op asked)
one_found test mine op same o asked is passes = ap (found_as test op) is ∙ ap (λ b. if b then Some (asked_meant op asked) else None) (same asked ∙ passes)

-- whether as many have answered as are needed
enough : (asked : Asked) (from : ℕ) → asked.tally.needed ≤ count_with asked from → nat_le asked.tally.needed (length (members_of (with_member (answered_by asked.tally) from))) ≡ true
unfolding member_count
enough asked from h = elim (leb_tells asked.tally.needed (length (members_of (with_member (answered_by asked.tally) from)))) [ inl e ↦ e.0 | inr e ↦ absurd (omega (arith, e.1)) ]

too_few : (asked : Asked) (from : ℕ) → count_with asked from < asked.tally.needed → nat_le asked.tally.needed (length (members_of (with_member (answered_by asked.tally) from))) ≡ false
unfolding member_count
too_few asked from h = elim (leb_tells asked.tally.needed (length (members_of (with_member (answered_by asked.tally) from)))) [ inl e ↦ absurd (omega (arith, e.1)) | inr e ↦ e.0 ]

module _ {Kind Op : Type 0} (D : Replication Kind Op Shown) (operations : List Operation) (stepped : Stepped Kind Op Shown) (s : StandForOperations operations stepped.node) (none_ends : stepped.output.ended ≡ None) (from op : ℕ) where
  -- the step with the answer is this one with other operations, which the counted ones stand for, and with what ends by it
  pub record IsCounted (c : Counted) (next : Stepped Kind Op Shown) : Type 0 where
    pub only : next.node ≡ record stepped.node { open_operations = next.node.open_operations; finished = next.node.finished }
    pub operates : StandForOperations (changed_operations operations c.change) next.node
    pub reply : next.output.reply ≡ stepped.output.reply
    pub posts : next.output.posts ≡ stepped.output.posts
    pub ended : next.output.ended ≡ option_map finished_meant c.finished

  -- by whether as many have answered as are needed
  abbrev after_answer : Asked → Bool → Stepped Kind Op Shown
  after_answer asked b = if b
      then record {
        node = record stepped.node { open_operations = filter (λ (o : OpenOperation). not (o.op == op)) stepped.node.open_operations; finished = stepped.node.finished ++ record { op = op; result = result_of D stepped.node (asked_meant op asked) } ∷ [] };
        output = record stepped.output { ended = Some (record { op = op; result = result_of D stepped.node (asked_meant op asked) }) };
      }
      else record stepped { node = record stepped.node { open_operations = map (λ (o : OpenOperation). if o.op == op then with_answer from (asked_meant op asked) else o) stepped.node.open_operations } }

  counts_waiting : (asked next : Asked) → slice_get operations op ≡ Some (Open asked) → IsAnswered asked from (Some next)
      → IsCounted (record { change = Put op (Open next); finished = None }) (counted_for D stepped from (Some (asked_meant op asked)))
  counts_waiting asked next there answered =
      subst (IsCounted (record { change = Put op (Open next); finished = None })) (sym (ap (after_answer asked) (too_few asked from answered.0))) (record {
        only = refl;
        operates = operates_answered operations stepped.node (after_answer asked false).node s op asked next there (ap (λ n. map (λ (o : OpenOperation). if o.op == op then n else o) stepped.node.open_operations) (sym (answered.1 op))) refl refl;
        reply = refl;
        posts = refl;
        ended = none_ends;
      })

  counts_ending : (asked : Asked) (end : OperationResult) → slice_get operations op ≡ Some (Open asked) → IsAnswered asked from None → result_meant end ≡ result_of D stepped.node (asked_meant op asked)
      → IsCounted (record { change = Put op (Finished end); finished = Some (record { op = op; result = end }) }) (counted_for D stepped from (Some (asked_meant op asked)))
  counts_ending asked end there answered is =
      subst (IsCounted (record { change = Put op (Finished end); finished = Some (record { op = op; result = end }) })) (sym (ap (after_answer asked) (enough asked from answered))) (record {
        only = refl;
        operates = operates_ended operations stepped.node (after_answer asked true).node s op asked end there refl (ap (λ r. stepped.node.finished ++ record { op = op; result = r } ∷ []) (sym is)) refl;
        reply = refl;
        posts = refl;
        ended = ap (λ r. Some (record { op = op; result = r })) (sym is);
      })

  counts_found : (test : OpenOperation → Bool) (mine : Asked → Bool) → ((asked : Asked) → test (asked_meant op asked) ≡ mine asked) → (Ends : OperationResult → Type 0)
      → ((asked : Asked) (end : OperationResult) → mine asked ≡ true → Ends end → result_meant end ≡ result_of D stepped.node (asked_meant op asked))
      → (c : Counted) → IsCountOf operations from op mine Ends c → IsCounted c (counted_for D stepped from (found_as test op (open_at operations op)))
  counts_found test mine same Ends result c (nothing none) =
      subst (λ o. IsCounted (record { change = Same; finished = None }) (counted_for D stepped from o)) (sym (none_found test mine op same (open_at operations op) none))
      (record { only = refl; operates = s; reply = refl; posts = refl; ended = none_ends })
  counts_found test mine same Ends result c (waits asked next there passes answered) =
      subst (λ o. IsCounted (record { change = Put op (Open next); finished = None }) (counted_for D stepped from o)) (sym (one_found test mine op same (open_at operations op) asked there passes))
      (counts_waiting asked next (open_there (slice_get operations op) asked there) answered)
  counts_found test mine same Ends result c (ends asked end there passes answered is) =
      subst (λ o. IsCounted (record { change = Put op (Finished end); finished = Some (record { op = op; result = end }) }) (counted_for D stepped from o)) (sym (one_found test mine op same (open_at operations op) asked there passes))
      (counts_ending asked end (open_there (slice_get operations op) asked there) answered (result asked end passes is))

  -- the model looks among its open operations
  counts_in_model : (test : OpenOperation → Bool) (c : Counted) → IsCounted c (counted_for D stepped from (found_as test op (open_at operations op)))
      → IsCounted c (counted_for D stepped from (find (λ (o : OpenOperation). (o.op == op) && test o) stepped.node.open_operations))
  counts_in_model test c = subst (λ o. IsCounted c (counted_for D stepped from o)) (sym (ap (find (λ (o : OpenOperation). (o.op == op) && test o)) s.open_ones ∙ open-found test op operations))

  pub write_counts : (c : Counted) → IsCountOf operations from op is_write (λ end. end ≡ Wrote) c → IsCounted c (counted D stepped from (is_answered_by false op))
  write_counts c is =
      counts_in_model (λ o. not o.reads) c
      (counts_found (λ o. not o.reads) is_write (λ asked. refl) (λ end. end ≡ Wrote) (λ asked end writes wrote. ap result_meant wrote ∙ sym (by asked.reads asked writes)) c is)
    where
      by : (b : Bool) (asked : Asked) → not b ≡ true → (if b then read_result D (option_and_then (meaning_of D) (key_state stepped.node asked.key)) else Meant.Wrote) ≡ Meant.Wrote
      by true asked e = absurd (cc e)
      by false asked e = refl

  -- of the operation that is asked, only the key matters
  pub read_counts : (key : Text) (asked : OpenOperation) → asked.key ≡ key → asked.reads ≡ true → (c : Counted)
      → IsCountOf operations from op (is_read_of key) (λ end. result_meant end ≡ result_of D stepped.node asked) c → IsCounted c (counted D stepped from (λ o. is_answered_by true op o && bytes_eq o.key key))
  read_counts key asked at_key reads c is =
      subst (λ (test : OpenOperation → Bool). IsCounted c (counted_for D stepped from (find test stepped.node.open_operations))) (λ i o. sym (joined (o.op == op) o.reads (bytes_eq o.key key)) i)
      (counts_in_model (λ o. o.reads && bytes_eq o.key key) c
      (counts_found (λ o. o.reads && bytes_eq o.key key) (is_read_of key) (λ other. refl) (λ end. result_meant end ≡ result_of D stepped.node asked) (λ other end passes result. result ∙ same other passes) c is))
    where
      joined : (a b c : Bool) → ((a && b) && c) ≡ (a && (b && c))
      joined true b c = refl
      joined false b c = refl

      both : (a b : Bool) → (a && b) ≡ true → (a ≡ true) × (b ≡ true)
      both true true so = (refl, refl)
      both true false so = absurd (cc so)
      both false b so = absurd (cc so)

      read_so : (o : OpenOperation) → o.key ≡ key → o.reads ≡ true → result_of D stepped.node o ≡ read_result D (option_and_then (meaning_of D) (key_state stepped.node key))
      read_so o here is_read =
          ap (λ b. if b then read_result D (option_and_then (meaning_of D) (key_state stepped.node o.key)) else Meant.Wrote) is_read ∙ ap (λ k. read_result D (option_and_then (meaning_of D) (key_state stepped.node k))) here

      same : (other : Asked) → is_read_of key other ≡ true → result_of D stepped.node asked ≡ result_of D stepped.node (asked_meant op other)
      same other passes =
          let is_it = both other.reads (bytes_eq other.key key) passes in
          read_so asked at_key reads ∙ sym (read_so (asked_meant op other) (bytes_eq-tells other.key key is_it.1) is_it.0)
