-- The equations of timestamps, and of what touches an element of a set: recursion on pasts.
use Rattle.std.proofs.Common.{◌≡◌, ℕ, suc, List, [], ◌∷◌, refl, ap, ◌∙◌, Bool, false, ◌||◌, ◌&&◌, not, Option, Some, map}
use Rattle.std.specs.Prelude.{slice_get, ◌==◌}
use Rattle.std.specs.List.{list_any}
use Rattle.model_history.specs.Texts.{Text}
use Rattle.model_history.specs.Table.{identities}
use Rattle.model_history.specs.History.{Action, History, Stamped, cut, stamped_from, all_records, precedes, HasRecord, IsHistory}
use Rattle.model_history.specs.History.Action.{Operation, Prune}
use Rattle.model_history.proofs.PastLaws.{LooksAtPasts, by_past_equation}
use Rattle.model_history.proofs.PruneLaws.{IsIn, in_flat_map, in_stamped}
use Rattle.model_meanings.specs.Growing.{Assignment, greatest, timestamp_after, found, timestamp}
use Rattle.model_meanings.specs.ObservedRemove.{SetOperations, is_adding_by, is_live_by, touches_by, touches}

pub list_any-same : {X : Type 0} (p q : X → Bool) (xs : List X) → ((k : ℕ) (x : X) → slice_get xs k ≡ Some x → p x ≡ q x) → list_any p xs ≡ list_any q xs
list_any-same p q [] same = refl
list_any-same p q (x ∷ xs) same = ap (λ b. b || list_any p xs) (same 0 x refl) ∙ ap (λ b. q x || b) (list_any-same p q xs (λ k y h. same (suc k) y h))

pub map-same : {X Y : Type 0} (f g : X → Y) (xs : List X) → ((k : ℕ) (x : X) → slice_get xs k ≡ Some x → f x ≡ g x) → map f xs ≡ map g xs
map-same f g [] same = refl
map-same f g (x ∷ xs) same = ap (λ y. y ∷ map f xs) (same 0 x refl) ∙ ap (λ ys. g x ∷ ys) (map-same f g xs (λ k y h. same (suc k) y h))

module _ {Op : Type 0} where
  -- the record is one of the history's
  abbrev pub Belongs : History Op → Stamped Op → Type 0
  Belongs H x = IsIn (all_records H) x

  pub record_of : (H : History Op) (x : Stamped Op) → Belongs H x → (i : ℕ) × (k : ℕ) × HasRecord H i k (record { action = x.action; past = x.past })
  record_of H x belongs =
      let row = in_flat_map (λ i. stamped_from i 1 (H i)) identities x belongs in
      let here = in_stamped row.0 1 (H row.0) x row.2 in
      (row.0, here.0, here.1)

  -- TIMESTAMPS

  module _ (assigned : Op → Option Assignment) where
    timestamp_looks : LooksAtPasts {Op = Op} {X = Stamped Op} {A = ℕ} Belongs
        (λ timestamp_before H x. timestamp_after (greatest (map (timestamp_before (cut H x.past)) (all_records (cut H x.past)))) (found assigned x.action))
    timestamp_looks f g H x belongs same =
        let r = record_of H x belongs in
        ap (λ ns. timestamp_after (greatest ns) (found assigned x.action))
        (map-same (f (cut H x.past)) (g (cut H x.past)) (all_records (cut H x.past)) (λ k y at. same r.0 r.1 (record { action = x.action; past = x.past }) r.2 y (k, at)))

    -- a timestamp is above all in the past
    pub timestamp_equation : (H : History Op) → IsHistory H → (x : Stamped Op) → Belongs H x
        → timestamp assigned H x ≡ timestamp_after (greatest (map (timestamp assigned (cut H x.past)) (all_records (cut H x.past)))) (found assigned x.action)
    timestamp_equation H history x belongs =
        by_past_equation Belongs 0 (λ timestamp_before H x. timestamp_after (greatest (map (timestamp_before (cut H x.past)) (all_records (cut H x.past)))) (found assigned x.action)) timestamp_looks H history x belongs

  -- WHAT TOUCHES AN ELEMENT

  module _ (ops : SetOperations Op) (e : Text) where
    adding_same : (f g : History Op → Stamped Op → Bool) (H : History Op) (y : Stamped Op) (action : Action Op) → f H y ≡ g H y → is_adding_by ops f e H y action ≡ is_adding_by ops g e H y action
    adding_same f g H y (Operation op) same = refl
    adding_same f g H y (Prune r) same = same

    live_same : (f g : History Op → Stamped Op → Bool) (H : History Op) → ((z : Stamped Op) → Belongs H z → f H z ≡ g H z) → (y : Stamped Op) → Belongs H y → is_live_by ops f e H y ≡ is_live_by ops g e H y
    live_same f g H same y belongs =
        ap (λ b. b && not (list_any (λ z. precedes y z && f H z) (all_records H))) (adding_same f g H y y.action (same y belongs))
        ∙ ap (λ b. is_adding_by ops g e H y y.action && not b)
        (list_any-same (λ z. precedes y z && f H z) (λ z. precedes y z && g H z) (all_records H) (λ k z at. ap (λ b. precedes y z && b) (same z (k, at))))

    touches_looks : LooksAtPasts {Op = Op} {X = Stamped Op} {A = Bool} Belongs (λ touches_before H x. touches_by ops touches_before e H x.past x.action)
    touches_looks f g H x belongs same = go x.action
      where
        before : (z : Stamped Op) → Belongs (cut H x.past) z → f (cut H x.past) z ≡ g (cut H x.past) z
        before z there = let r = record_of H x belongs in same r.0 r.1 (record { action = x.action; past = x.past }) r.2 z there

        go : (action : Action Op) → touches_by ops f e H x.past action ≡ touches_by ops g e H x.past action
        go (Operation op) = refl
        go (Prune removed) =
            list_any-same (λ y. (y.origin == removed) && is_live_by ops f e (cut H x.past) y) (λ y. (y.origin == removed) && is_live_by ops g e (cut H x.past) y) (all_records (cut H x.past))
            (λ k y at. ap (λ b. (y.origin == removed) && b) (live_same f g (cut H x.past) before y (k, at)))

    -- what touches the element, at each record of a history
    pub touches_equation : (H : History Op) → IsHistory H → (x : Stamped Op) → Belongs H x → touches ops e H x ≡ touches_by ops (touches ops e) e H x.past x.action
    touches_equation H history x belongs = by_past_equation Belongs false (λ touches_before H x. touches_by ops touches_before e H x.past x.action) touches_looks H history x belongs
