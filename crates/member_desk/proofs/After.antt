-- What is told after a flush.
use Rattle.std.proofs.Common.{◌≡◌, ℕ, List, [], ◌∷◌, ◌++◌, Bool, true, false, Option, Some, None, refl, ap, sym, ◌∙◌, subst, map}
use Rattle.std.specs.Prelude.{if◌then◌else◌, nat_lt}
use Rattle.std.specs.List.{AllByRecursion}
use Rattle.std.specs.declared.cmp.Ordering.{Ordering}
use Rattle.std.specs.declared.cmp.Ordering.TheVariants.{Less, Equal, Greater}
use Rattle.std.specs.Ordering.{match_ordering, nat_cmp}
use Rattle.model_history.specs.Texts.{Text, text_lt}
use Rattle.base_bytes.specs.TextOrder.{text_order}
use Rattle.base_bytes.proofs.TextLaws.{order_equal}
use Rattle.model_kinds.specs.declared.shown.Shown.{Shown}
use Rattle.member_desk.specs.declared.client.Client.{Client}
use Rattle.member_desk.specs.declared.followed.Followed.{Followed}
use Rattle.member_desk.specs.Places.{sought, IsRising}
use Rattle.member_desk.specs.Subscriptions.{by_number, by_key, numbers_of, keys_of, told_by_clients, told_of, told_to, AreInOrder}
use Rattle.member_desk.specs.Notices.{told_client, is_news, told_at_key, told_after}
use Rattle.member_desk.specs.Successive.{tellings, said_over}
use Rattle.member_desk.proofs.Flushing.{said_now, said_by}

-- WHAT STAYS

pub same_numbers : (clients : List Client) → numbers_of (map told_client clients) ≡ numbers_of clients
same_numbers [] = refl
same_numbers (client ∷ clients) = ap (λ ns. client.number ∷ ns) (same_numbers clients)

module _ {V : Type 0} where
  pub key_stays : (followed : Followed V) (found : Option V) → (told_at_key followed found).key ≡ followed.key
  key_stays followed None = refl
  key_stays followed (Some now) = refl

  pub clients_rise : (followed : Followed V) (found : Option V) → IsRising nat_lt (numbers_of followed.clients) → IsRising nat_lt (numbers_of (told_at_key followed found).clients)
  clients_rise followed None h = h
  clients_rise followed (Some now) h = subst (IsRising nat_lt) (sym (same_numbers followed.clients)) h

  module _ (found : Text → Option V) where
    keys_stay : (desk : List (Followed V)) → keys_of (told_after found desk) ≡ keys_of desk
    keys_stay [] = refl
    keys_stay (f ∷ fs) = ap (λ k. k ∷ keys_of (told_after found fs)) (key_stays f (found f.key)) ∙ ap (λ ks. f.key ∷ ks) (keys_stay fs)

    all_rise : (desk : List (Followed V)) → AllByRecursion (λ (f : Followed V). IsRising nat_lt (numbers_of f.clients)) desk → AllByRecursion (λ (f : Followed V). IsRising nat_lt (numbers_of f.clients)) (told_after found desk)
    all_rise [] h = tt
    all_rise (f ∷ fs) h = (clients_rise f (found f.key) h.0, all_rise fs h.1)

    pub in_order_after : (desk : List (Followed V)) → AreInOrder desk → AreInOrder (told_after found desk)
    in_order_after desk h = (subst (IsRising text_lt) (sym (keys_stay desk)) h.0, all_rise desk h.1)

-- WHAT A CLIENT WAS TOLD

found_after : (n : ℕ) (clients : List Client) → sought (by_number n) (map told_client clients) ≡ elim (sought (by_number n) clients) as (λ c. Option Client) [ None ↦ None | Some client ↦ Some (told_client client) ]
found_after n [] = refl
found_after n (client ∷ clients) = go (nat_cmp client.number n) (found_after n clients)
  where
    go : (o : Ordering) → sought (by_number n) (map told_client clients) ≡ elim (sought (by_number n) clients) as (λ c. Option Client) [ None ↦ None | Some c ↦ Some (told_client c) ]
        → match_ordering o (sought (by_number n) (map told_client clients)) (Some (told_client client)) None
        ≡ elim (match_ordering o (sought (by_number n) clients) (Some client) None) as (λ c. Option Client) [ None ↦ None | Some c ↦ Some (told_client c) ]
    go Less rest = rest
    go Equal rest = refl
    go Greater rest = refl

module _ {V : Type 0} (key : Text) (n : ℕ) (found : Text → Option V) where
  -- once a value is found, it is what every client was told
  abbrev pub told_now : Option (Option V) → Option V → Option (Option V)
  told_now told None = told
  told_now None (Some now) = None
  told_now (Some told) (Some now) = Some (Some now)

  told_at_once : (followed : Followed V) (now : Option V) → told_of (Some (told_at_key followed now)) n ≡ told_now (told_of (Some followed) n) now
  told_at_once followed None = refl
  told_at_once followed (Some now) = ap (told_by_clients (told_at_key followed (Some now))) (found_after n followed.clients) ∙ go (sought (by_number n) followed.clients)
    where
      go : (client : Option Client) → told_by_clients (told_at_key followed (Some now)) (elim client as (λ c. Option Client) [ None ↦ None | Some c ↦ Some (told_client c) ]) ≡ told_now (told_by_clients followed client) (Some now)
      go None = refl
      go (Some client) = refl

  nothing_told : (now : Option V) → None ≡ told_now None now
  nothing_told None = refl
  nothing_told (Some now) = refl

  pub told_to_after : (desk : List (Followed V)) → told_to (told_after found desk) key n ≡ told_now (told_to desk key n) (found key)
  told_to_after [] = nothing_told (found key)
  told_to_after (f ∷ fs) =
      ap (λ k. told_of (match_ordering (text_order k key) (sought (by_key key) (told_after found fs)) (Some (told_at_key f (found f.key))) None) n) (key_stays f (found f.key)) ∙ go (by_key key f) refl (told_to_after fs)
    where
      go : (o : Ordering) → by_key key f ≡ o → told_to (told_after found fs) key n ≡ told_now (told_to fs key n) (found key) → told_of (match_ordering o (sought (by_key key) (told_after found fs)) (Some (told_at_key f (found f.key))) None) n ≡ told_now (told_of (match_ordering o (sought (by_key key) fs) (Some f) None) n) (found key)
      go Less is rest = rest
      go Equal is rest = ap (λ k. told_of (Some (told_at_key f (found k))) n) (order_equal f.key key is) ∙ told_at_once f (found key)
      go Greater is rest = nothing_told (found key)

-- FLUSH AFTER FLUSH

module _ {V : Type 0} (shows : Text → V → Shown) (key : Text) (n : ℕ) where
  pub said_at_flushes : (desk : List (Followed V)) (told : Option V) (flushes : List (Text → Option V)) → AreInOrder desk → told_to desk key n ≡ Some told
      → said_over shows key n desk flushes ≡ map (shows key) (tellings shows key told (map (λ (found : Text → Option V). found key) flushes))
  said_at_flushes desk told [] h is = refl
  said_at_flushes desk told (found ∷ more) h is =
      ap (λ said. said ++ said_over shows key n (told_after found desk) more) (said_by shows key n found desk h ∙ ap (λ t. said_now shows key n t (found key)) is)
      ∙ go (found key) refl (λ (later : Option V) (e : told_to (told_after found desk) key n ≡ Some later). said_at_flushes (told_after found desk) later more (in_order_after found desk h) e)
    where
      after : (now : Option V) → found key ≡ now → told_to (told_after found desk) key n ≡ told_now key n found (Some told) now
      after now at = told_to_after key n found desk ∙ ap (λ t. told_now key n found t (found key)) is ∙ ap (told_now key n found (Some told)) at

      go : (now : Option V) → found key ≡ now
          → ((later : Option V) → told_to (told_after found desk) key n ≡ Some later → said_over shows key n (told_after found desk) more ≡ map (shows key) (tellings shows key later (map (λ (f : Text → Option V). f key) more)))
          → said_now shows key n (Some told) now ++ said_over shows key n (told_after found desk) more ≡ map (shows key) (tellings shows key told (now ∷ map (λ (f : Text → Option V). f key) more))
      go None at again = again told (after None at)
      go (Some now) at again = by_news (is_news shows key told now) (again (Some now) (after (Some now) at))
        where
          by_news : (news : Bool) → said_over shows key n (told_after found desk) more ≡ map (shows key) (tellings shows key (Some now) (map (λ (f : Text → Option V). f key) more))
              → (if news then shows key now ∷ [] else []) ++ said_over shows key n (told_after found desk) more
              ≡ map (shows key) (if news then now ∷ tellings shows key (Some now) (map (λ (f : Text → Option V). f key) more) else tellings shows key (Some now) (map (λ (f : Text → Option V). f key) more))
          by_news true e = ap (λ said. shows key now ∷ said) e
          by_news false e = e
