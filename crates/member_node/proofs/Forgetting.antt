-- What is forgotten of operations that ended, and what a member then stands for.
-- Among the first that have ended.
--     ended-length, there, ended-one_more, ended-found        how many there are, by what stands at a place
--     ended-known        those that were forgotten are among them
--     left-cut, left-known        what is left of the others
-- Where so many of them are forgotten.
--     forgetting-open, forgetting-finished, forgetting-length        the same ones are open, the others end as they did, and there are as many
--     result-kept        the results of the model that are kept
--     forgotten-few        never more than have ended
--     operates_forgetting        they stand for those of the model's member without these ends
use Rattle.std.proofs.Common.{◌≡◌, ℕ, zero, suc, ◌+◌, ◌-◌, ◌<◌, ◌≤◌, ◌≢◌, List, [], ◌∷◌, ◌++◌, length, replicate, take, drop, refl, sym, ap, ◌∙◌, arith, Bool, true, false, if◌then◌else◌, nat_le, ◌==◌, Option, Some, None, inl, inr, filter, find, option_map, slice_get, get_or, is_some, length-drop, ◌⊎◌}
use Rattle.std.proofs.lemmas.Bool.Decides.{eqb_tells, leb_tells}
use Rattle.std.proofs.lemmas.List.{length-replicate}
use Rattle.std.proofs.Math.Seq.{take-append_seam, drop-append-add}
use Rattle.member_node.proofs.Common.{Shown, known, Open, StandForOperations, result_meant}
use Rattle.model_members.specs.Node as nodes
use Rattle.model_members.specs.Node.{Result as Meant}
use Rattle.member_node.specs.declared.operation.Operation.{Operation}
use Rattle.member_node.specs.declared.operation.Operation.TheVariants.{Finished, TimedOut}
use Rattle.member_node.specs.declared.operations.Operations.{Operations}
use Rattle.member_node.specs.Operations.{open_from, open_in, finished_at, result_at}
use Rattle.member_node.specs.Counting.{open_as}
use Rattle.member_node.specs.Ended.{ended_first, forgotten_to, forgetting_to}
use Rattle.member_node.specs.Forgetting.{forgetting}

-- THE FIRST THAT HAVE ENDED

pub ended-length : (operations : List Operation) → ended_first operations ≤ length operations
ended-length [] = omega arith
ended-length (Open asked ∷ operations) = omega arith
ended-length (Finished end ∷ operations) = let rest = ended-length operations in omega arith
ended-length (TimedOut ∷ operations) = let rest = ended-length operations in omega arith

-- what stands at a place
pub there : (operations : List Operation) (k : ℕ) (x : Operation) → k < length operations → x ≡ get_or operations k x → slice_get operations k ≡ Some x
there [] k x h is = absurd (omega arith)
there (y ∷ operations) zero x h is = ap Some (sym is)
there (y ∷ operations) (suc k) x h is = there operations k x (omega arith) is

pub ended-one_more : (operations : List Operation) (k : ℕ) (x : Operation) → slice_get operations k ≡ Some x → is_some (open_as (Some x)) ≡ false → k ≤ ended_first operations → k < ended_first operations
ended-one_more [] k x is ended h = absurd (cc is)
ended-one_more (Open asked ∷ operations) zero x is ended h =
    let same : Some (Open asked) ≡ Some x = is in absurd (cc (ap (λ o. is_some (open_as o)) same ∙ ended))
ended-one_more (Open asked ∷ operations) (suc k) x is ended h = absurd (omega arith)
ended-one_more (Finished end ∷ operations) zero x is ended h = omega arith
ended-one_more (Finished end ∷ operations) (suc k) x is ended h = let rest = ended-one_more operations k x is ended (omega arith) in omega arith
ended-one_more (TimedOut ∷ operations) zero x is ended h = omega arith
ended-one_more (TimedOut ∷ operations) (suc k) x is ended h = let rest = ended-one_more operations k x is ended (omega arith) in omega arith

pub ended-found : (operations : List Operation) (k : ℕ) (x : Operation) → slice_get operations k ≡ Some x → is_some (open_as (Some x)) ≡ true → k ≤ ended_first operations → ended_first operations ≡ k
ended-found [] k x is opens h = absurd (cc is)
ended-found (Open other ∷ operations) zero x is opens h = refl
ended-found (Open other ∷ operations) (suc k) x is opens h = absurd (omega arith)
ended-found (Finished end ∷ operations) zero x is opens h =
    let same : Some (Finished end) ≡ Some x = is in absurd (cc (ap (λ o. is_some (open_as o)) same ∙ opens))
ended-found (Finished end ∷ operations) (suc k) x is opens h = let rest = ended-found operations k x is opens (omega arith) in omega arith
ended-found (TimedOut ∷ operations) zero x is opens h =
    let same : Some TimedOut ≡ Some x = is in absurd (cc (ap (λ o. is_some (open_as o)) same ∙ opens))
ended-found (TimedOut ∷ operations) (suc k) x is opens h = let rest = ended-found operations k x is opens (omega arith) in omega arith

pub ended-known : (n : ℕ) (kept : List Operation) → ended_first (replicate n TimedOut ++ kept) ≡ n + ended_first kept
ended-known zero kept = omega arith
ended-known (suc n) kept = let rest = ended-known n kept in omega arith

-- the vector without the first ones, which were turned to its end and cut
pub left-cut : (operations : List Operation) (n : ℕ) → take (length operations - n) (drop n operations ++ take n operations) ≡ drop n operations
left-cut operations n = ap (λ m. take m (drop n operations ++ take n operations)) (sym (length-drop n operations)) ∙ take-append_seam (drop n operations) (take n operations)

pub left-known : (n m : ℕ) (kept : List Operation) → drop (n + m) (replicate n TimedOut ++ kept) ≡ drop m kept
left-known n m kept = ap (λ k. drop (k + m) (replicate n TimedOut ++ kept)) (sym (length-replicate n TimedOut)) ∙ drop-append-add (replicate n TimedOut) kept m

-- SO MANY OF THEM ARE FORGOTTEN

forgetting-open_from : (m count : ℕ) (operations : List Operation) → count ≤ ended_first operations → open_from m (forgetting_to count operations) ≡ open_from m operations
forgetting-open_from m zero operations h = refl
forgetting-open_from m (suc count) [] h = absurd (omega arith)
forgetting-open_from m (suc count) (Open asked ∷ operations) h = absurd (omega arith)
forgetting-open_from m (suc count) (Finished end ∷ operations) h = forgetting-open_from (m + 1) count operations (omega arith)
forgetting-open_from m (suc count) (TimedOut ∷ operations) h = forgetting-open_from (m + 1) count operations (omega arith)

pub forgetting-open : (count : ℕ) (operations : List Operation) → count ≤ ended_first operations → open_in (forgetting_to count operations) ≡ open_in operations
forgetting-open count operations h = forgetting-open_from 0 count operations h

pub forgetting-length : (count : ℕ) (operations : List Operation) → count ≤ ended_first operations → length (forgetting_to count operations) ≡ length operations
forgetting-length zero operations h = refl
forgetting-length (suc count) [] h = absurd (omega arith)
forgetting-length (suc count) (Open asked ∷ operations) h = absurd (omega arith)
forgetting-length (suc count) (Finished end ∷ operations) h = ap suc (forgetting-length count operations (omega arith))
forgetting-length (suc count) (TimedOut ∷ operations) h = ap suc (forgetting-length count operations (omega arith))

next_le : (count op : ℕ) → nat_le count op ≡ nat_le (suc count) (suc op)
next_le count op = elim (leb_tells count op) [
  | inl e ↦ e.0 ∙ sym (elim (leb_tells (suc count) (suc op)) [ inl f ↦ f.0 | inr f ↦ absurd (omega (arith, e.1, f.1)) ])
  | inr e ↦ e.0 ∙ sym (elim (leb_tells (suc count) (suc op)) [ inl f ↦ absurd (omega (arith, e.1, f.1)) | inr f ↦ f.0 ])
]

none_below : (count : ℕ) → nat_le (suc count) 0 ≡ false
none_below count = elim (leb_tells (suc count) 0) [ inl e ↦ absurd (omega (arith, e.1)) | inr e ↦ e.0 ]

-- an end that is kept
abbrev if_kept : ℕ → ℕ → Option (Meant Shown) → Option (Meant Shown)
if_kept count op end = if nat_le count op then end else None

all_kept : (op : ℕ) (end : Option (Meant Shown)) → end ≡ if_kept 0 op end
all_kept op end = ap (λ b. if b then end else None) (sym (elim (leb_tells 0 op) [ inl e ↦ e.0 | inr e ↦ absurd (omega (arith, e.1)) ]))

pub forgetting-finished : (count op : ℕ) (operations : List Operation) → count ≤ ended_first operations → finished_at (forgetting_to count operations) op ≡ if_kept count op (finished_at operations op)
forgetting-finished zero op operations h = all_kept op (finished_at operations op)
forgetting-finished (suc count) op [] h = absurd (omega arith)
forgetting-finished (suc count) op (Open asked ∷ operations) h = absurd (omega arith)
forgetting-finished (suc count) zero (Finished end ∷ operations) h = ap (λ b. if b then Some (result_meant end) else None) (sym (none_below count))
forgetting-finished (suc count) zero (TimedOut ∷ operations) h =
    let none : Option (Meant Shown) = None in ap (λ (b : Bool). if b then none else none) (sym (none_below count))
forgetting-finished (suc count) (suc op) (Finished end ∷ operations) h =
    forgetting-finished count op operations (omega arith) ∙ ap (λ b. if b then finished_at operations op else None) (next_le count op)
forgetting-finished (suc count) (suc op) (TimedOut ∷ operations) h =
    forgetting-finished count op operations (omega arith) ∙ ap (λ b. if b then finished_at operations op else None) (next_le count op)

-- THE RESULTS THAT ARE KEPT

abbrev results_from : ℕ → List (nodes.Finished Shown) → List (nodes.Finished Shown)
results_from count finished = filter (λ (f : nodes.Finished Shown). nat_le count f.op) finished

pub result-kept : (count op : ℕ) (finished : List (nodes.Finished Shown)) → result_at (results_from count finished) op ≡ if_kept count op (result_at finished op)
result-kept count op [] = none (nat_le count op)
  where
    none : (b : Bool) → ◌≡◌ {A = Option (Meant Shown)} None (if b then None else None)
    none true = refl
    none false = refl
result-kept count op (f ∷ finished) = one_more (result-kept count op finished) (eqb_tells f.op op)
  where
    found : (f.op == op) ≡ true → (fs : List (nodes.Finished Shown)) → result_at (f ∷ fs) op ≡ Some f.result
    found e fs = ap (λ b. option_map (λ (g : nodes.Finished Shown). g.result) (if b then Some f else find (λ (g : nodes.Finished Shown). g.op == op) fs)) e

    missed : (f.op == op) ≡ false → (fs : List (nodes.Finished Shown)) → result_at (f ∷ fs) op ≡ result_at fs op
    missed e fs = ap (λ b. option_map (λ (g : nodes.Finished Shown). g.result) (if b then Some f else find (λ (g : nodes.Finished Shown). g.op == op) fs)) e

    pick : (f.op == op) ≡ true → (b : Bool) → result_at (results_from count finished) op ≡ (if b then result_at finished op else None)
        → result_at (if b then f ∷ results_from count finished else results_from count finished) op ≡ (if b then result_at (f ∷ finished) op else None)
    pick e true same = found e (results_from count finished) ∙ sym (found e finished)
    pick e false same = same

    skip : (f.op == op) ≡ false → (b : Bool) → result_at (if b then f ∷ results_from count finished else results_from count finished) op ≡ result_at (results_from count finished) op
    skip e true = missed e (results_from count finished)
    skip e false = refl

    one_more : result_at (results_from count finished) op ≡ if_kept count op (result_at finished op) → ((f.op == op) ≡ true) × (f.op ≡ op) ⊎ ((f.op == op) ≡ false) × (f.op ≢ op)
        → result_at (results_from count (f ∷ finished)) op ≡ if_kept count op (result_at (f ∷ finished) op)
    one_more rest (inl e) = ap (λ n. result_at (if nat_le count n then f ∷ results_from count finished else results_from count finished) op) e.1 ∙ pick e.0 (nat_le count op) rest
    one_more rest (inr e) = skip e.0 (nat_le count f.op) ∙ rest ∙ ap (λ r. if nat_le count op then r else None) (sym (missed e.0 finished))

-- never more than have ended
pub forgotten-few : (operations : Operations) (before count : ℕ) → count ≡ forgotten_to operations before → count ≤ ended_first (known operations)
forgotten-few operations before count is = let all = ended-known operations.forgotten operations.kept.items in omega arith

pub operates_forgetting : {Kind Op : Type 0} (operations : List Operation) (node : nodes.Node Kind Op Shown) (count : ℕ) → count ≤ ended_first operations → StandForOperations operations node
    → StandForOperations (forgetting_to count operations) (forgetting count node)
operates_forgetting operations node count few s = record {
  open_ones = s.open_ones ∙ sym (forgetting-open count operations few);
  finished = λ op. result-kept count op node.finished ∙ ap (λ r. if nat_le count op then r else None) (s.finished op) ∙ sym (forgetting-finished count op operations few);
  next = s.next ∙ sym (forgetting-length count operations few);
}
