-- A desk that stands for one of the model stands for it after a subscription came or went.
use Rattle.std.proofs.Common.{◌≡◌, ℕ, List, [], ◌∷◌, ◌++◌, Bool, true, false, refl, ap, sym, subst}
use Rattle.std.specs.Prelude.{if◌then◌else◌}
use Rattle.std.specs.declared.cmp.Ordering.{Ordering}
use Rattle.std.specs.declared.cmp.Ordering.TheVariants.{Less, Equal, Greater}
use Rattle.std.specs.Ordering.{match_ordering}
use Rattle.model_history.specs.Texts.{Text}
use Rattle.model_history.specs.History.{History}
use Rattle.model_members.specs.DataType.{DataType}
use Rattle.model_kinds.specs.declared.shown.Shown.{Shown}
use Rattle.base_bytes.specs.TextOrder.{text_order}
use Rattle.member_desk.specs.declared.client.Client.{Client}
use Rattle.member_desk.specs.declared.followed.Followed.{Followed}
use Rattle.member_desk.specs.declared.look.Told.{Told}
use Rattle.member_desk.specs.Subscriptions.{with_client, without_client, is_nobody, first_of, with_clients, unless_left, with_subscription, without_subscription}
use Rattle.member_desk.specs.Histories.{StandsForFollowed, StandsForDesk}

module _ {Kind Op : Type 0} (data_type : DataType Kind Op Shown) (kinds : Text → Kind) (logs : Text → History Op) (key : Text) (n : ℕ) where
  abbrev Stands : List (Followed Told) → List (Followed (History Op)) → Type 0
  Stands code model = StandsForDesk data_type kinds logs code model

  with_others : (c : Followed Told) (m : Followed (History Op)) (clients others : List Client) → StandsForFollowed data_type kinds logs c m → others ≡ clients → StandsForFollowed data_type kinds logs (with_clients c clients) (with_clients m others)
  with_others c m clients others s same = record { key = s.key; clients = same; told = s.told }

  first_stands : StandsForFollowed data_type kinds logs (first_of key n) (first_of key n)
  first_stands = record { key = refl; clients = refl; told = tt }

  pub stands_with : (code : List (Followed Told)) (model : List (Followed (History Op))) → Stands code model → Stands (with_subscription code key n) (with_subscription model key n)
  stands_with [] [] s = (first_stands, tt)
  stands_with [] (m ∷ ms) s = absurd s
  stands_with (c ∷ cs) [] s = absurd s
  stands_with (c ∷ cs) (m ∷ ms) s =
      subst (λ k. Stands (with_subscription (c ∷ cs) key n) (match_ordering (text_order k key) (m ∷ with_subscription ms key n) (with_clients m (with_client m.clients n) ∷ ms) (first_of key n ∷ m ∷ ms))) (sym s.0.key)
      (go (text_order c.key key) (stands_with cs ms s.1))
    where
      go : (o : Ordering) → Stands (with_subscription cs key n) (with_subscription ms key n)
          → Stands (match_ordering o (c ∷ with_subscription cs key n) (with_clients c (with_client c.clients n) ∷ cs) (first_of key n ∷ c ∷ cs)) (match_ordering o (m ∷ with_subscription ms key n) (with_clients m (with_client m.clients n) ∷ ms) (first_of key n ∷ m ∷ ms))
      go Less rest = (s.0, rest)
      go Equal rest = (with_others c m (with_client c.clients n) (with_client m.clients n) s.0 (ap (λ (clients : List Client). with_client clients n) s.0.clients), s.1)
      go Greater rest = (first_stands, s)

  left_stand : (c : Followed Told) (m : Followed (History Op)) (clients others : List Client) (cs : List (Followed Told)) (ms : List (Followed (History Op))) → StandsForFollowed data_type kinds logs c m → others ≡ clients → Stands cs ms
      → Stands (unless_left (with_clients c clients) ++ cs) (unless_left (with_clients m others) ++ ms)
  left_stand c m clients others cs ms s same rest =
      subst (λ b. Stands (unless_left (with_clients c clients) ++ cs) ((if b then [] else with_clients m others ∷ []) ++ ms)) (ap is_nobody (sym same)) (go (is_nobody clients))
    where
      go : (nobody : Bool) → Stands ((if nobody then [] else with_clients c clients ∷ []) ++ cs) ((if nobody then [] else with_clients m others ∷ []) ++ ms)
      go true = rest
      go false = (with_others c m clients others s same, rest)

  pub stands_without : (code : List (Followed Told)) (model : List (Followed (History Op))) → Stands code model → Stands (without_subscription code key n) (without_subscription model key n)
  stands_without [] [] s = tt
  stands_without [] (m ∷ ms) s = absurd s
  stands_without (c ∷ cs) [] s = absurd s
  stands_without (c ∷ cs) (m ∷ ms) s =
      subst (λ k. Stands (without_subscription (c ∷ cs) key n) (match_ordering (text_order k key) (m ∷ without_subscription ms key n) (unless_left (with_clients m (without_client m.clients n)) ++ ms) (m ∷ ms))) (sym s.0.key)
      (go (text_order c.key key) (stands_without cs ms s.1))
    where
      go : (o : Ordering) → Stands (without_subscription cs key n) (without_subscription ms key n)
          → Stands (match_ordering o (c ∷ without_subscription cs key n) (unless_left (with_clients c (without_client c.clients n)) ++ cs) (c ∷ cs)) (match_ordering o (m ∷ without_subscription ms key n) (unless_left (with_clients m (without_client m.clients n)) ++ ms) (m ∷ ms))
      go Less rest = (s.0, rest)
      go Equal rest = left_stand c m (without_client c.clients n) (without_client m.clients n) cs ms s.0 (ap (λ (clients : List Client). without_client clients n) s.0.clients) s.1
      go Greater rest = s
