-- Followed keys after a change at a place.
use Rattle.std.proofs.Common.{◌≡◌, ℕ, suc, ◌+◌, ◌<◌, List, [], ◌∷◌, ◌++◌, length, take, drop, get_or, true, false, Some, None, Result, Ok, Err, OnOk, refl, ap, sym, ◌∙◌, arith}
use Rattle.std.specs.Prelude.{slice_get, if◌then◌else◌}
use Rattle.std.specs.List.{remove}
use Rattle.std.proofs.Math.ListN.{set}
use Rattle.std.proofs.lemmas.List.{set_split, take-set, drop-set-lt}
use Rattle.std.proofs.lemmas.Option.{slice_get_read}
use Rattle.model_history.specs.Texts.{Text}
use Rattle.member_desk.specs.declared.client.Client.{Client}
use Rattle.member_desk.specs.declared.followed.Followed.{Followed}
use Rattle.member_desk.specs.declared.place.Place.TheVariants.{At}
use Rattle.member_desk.specs.Places.{IsPlace}
use Rattle.member_desk.specs.Subscriptions.{with_client, without_client, is_nobody, has_client, by_key, with_clients, unless_left, with_subscription, follows, is_subscribed}

pub on_ok : {A E P Q : Type 0} (result : Result A E) → OnOk result P → (P → Q) → OnOk result Q
on_ok (Ok value) h f = f h
on_ok (Err error) h f = h

module _ {V : Type 0} (desk : List (Followed V)) (i : ℕ) where
  set_at : (here : Followed V) → i < length desk → set desk i here ≡ take i desk ++ here ∷ drop (i + 1) desk
  set_at here inside = let next : suc i ≡ i + 1 = omega arith in set_split desk i here inside ∙ ap (λ n. take i desk ++ here ∷ drop n desk) next

  -- what is read at the place is what stands there
  pub same_here : (here item : Followed V) → i < length desk → here ≡ get_or desk i here → slice_get desk i ≡ Some item → here ≡ item
  same_here here item inside at is = let read = slice_get_read desk (length desk) i here refl inside at in cc (read, is)

  module _ (key : Text) (n : ℕ) (place : IsPlace (by_key key) desk (At i)) (here : Followed V) (at : here ≡ get_or desk i here) where
    is_here : here ≡ place.item
    is_here = same_here here place.item place.within at place.here

    pub subscribed_here : (clients : List Client) → clients ≡ with_client here.clients n → set desk i (with_clients here clients) ≡ with_subscription desk key n
    subscribed_here clients same =
        ap (λ (cs : List Client). set desk i (with_clients here cs)) same
        ∙ ap (λ (f : Followed V). set desk i (with_clients f (with_client f.clients n))) is_here
        ∙ set_at (with_clients place.item (with_client place.item.clients n)) place.within
        ∙ sym (place.edit (λ followed. with_clients followed (with_client followed.clients n) ∷ []) (record { key = key; told = None; clients = record { number = n; told = false } ∷ [] } ∷ []))

    pub follows_here : has_client here.clients n ≡ is_subscribed desk key n
    follows_here = ap (λ (f : Followed V). has_client f.clients n) is_here ∙ ap (λ found. follows found n) (sym place.found)

  -- ONE FEWER

  module _ (here : Followed V) (n : ℕ) (inside : i < length desk) where
    pub nobody_left : (put : Followed V) → is_nobody (without_client here.clients n) ≡ true → remove (set desk i put) i ≡ take i desk ++ (unless_left (with_clients here (without_client here.clients n)) ++ drop (i + 1) desk)
    nobody_left put nobody =
        let next : suc i ≡ i + 1 = omega arith in
        ap (λ (front : List (Followed V)). front ++ drop (suc i) (set desk i put)) (take-set desk i put)
        ∙ ap (λ (rest : List (Followed V)). take i desk ++ rest) (drop-set-lt (suc i) desk i put (omega arith))
        ∙ ap (λ m. take i desk ++ drop m desk) next
        ∙ ap (λ b. take i desk ++ ((if b then [] else with_clients here (without_client here.clients n) ∷ []) ++ drop (i + 1) desk)) (sym nobody)

    pub somebody_left : is_nobody (without_client here.clients n) ≡ false → set desk i (with_clients here (without_client here.clients n)) ≡ take i desk ++ (unless_left (with_clients here (without_client here.clients n)) ++ drop (i + 1) desk)
    somebody_left somebody =
        set_at (with_clients here (without_client here.clients n)) inside
        ∙ ap (λ b. take i desk ++ ((if b then [] else with_clients here (without_client here.clients n) ∷ []) ++ drop (i + 1) desk)) (sym somebody)
