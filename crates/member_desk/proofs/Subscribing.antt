-- What clients are told after one of them subscribes, or ends its subscription.
use Rattle.std.proofs.Common.{◌≡◌, ◌≢◌, ℕ, List, [], ◌∷◌, ◌++◌, Bool, true, false, ◌⊎◌, inl, inr, Option, Some, None, refl, ap, sym, ◌∙◌, subst}
use Rattle.std.specs.Prelude.{is_some, nat_lt}
use Rattle.std.specs.List.{AllByRecursion}
use Rattle.std.specs.declared.cmp.Ordering.{Ordering}
use Rattle.std.specs.declared.cmp.Ordering.TheVariants.{Less, Equal, Greater}
use Rattle.std.specs.Ordering.{match_ordering, nat_cmp}
use Rattle.std.specs.Bool.{Decides}
use Rattle.std.specs.Str.{bytes_eq}
use Rattle.std.proofs.lemmas.Slice.Eq.{bytes_eq-Decides}
use Rattle.model_history.specs.Texts.{Text, text_lt}
use Rattle.base_bytes.specs.TextOrder.{text_order}
use Rattle.member_desk.specs.declared.client.Client.{Client}
use Rattle.member_desk.specs.declared.followed.Followed.{Followed}
use Rattle.member_desk.specs.Places.{sought, edited, IsRising}
use Rattle.member_desk.specs.Subscriptions.{untold, by_number, with_client, without_client, has_client, numbers_of, first_of, by_key, with_clients, unless_left, with_subscription, without_subscription, follows, is_subscribed, told_by_clients, told_of, told_to, AreInOrder}
use Rattle.member_desk.proofs.Orders.{numbers_order, texts_order, left_at}
use Rattle.member_desk.proofs.Finding.{sought_has, sought_edited, sought_other}

-- where what is found stays as it is, so does the list
pub edited_same : {X : Type 0} (order : X → Ordering) (instead : X → List X) (absent : List X) (xs : List X) (x : X) → sought order xs ≡ Some x → instead x ≡ x ∷ [] → edited order instead absent xs ≡ xs
edited_same order instead absent [] x e stays = absurd (cc e)
edited_same order instead absent (y ∷ ys) x e stays = go (order y) e (λ e'. edited_same order instead absent ys x e' stays)
  where
    go : (o : Ordering) → match_ordering o (sought order ys) (Some y) None ≡ Some x → (sought order ys ≡ Some x → edited order instead absent ys ≡ ys) → match_ordering o (y ∷ edited order instead absent ys) (instead y ++ ys) (absent ++ y ∷ ys) ≡ y ∷ ys
    go Less e' later = ap (λ zs. y ∷ zs) (later e')
    go Equal e' later = let same : y ≡ x = cc e' in ap (λ zs. zs ++ ys) (subst (λ z. instead z ≡ z ∷ []) (sym same) stays)
    go Greater e' later = absurd (cc e')

same_or_not : (key other : Text) → (key ≡ other) ⊎ (key ≢ other)
same_or_not key other = go (bytes_eq key other) refl
  where
    decides : Decides (bytes_eq key other) (key ≡ other)
    decides = bytes_eq-Decides key other

    go : (b : Bool) → bytes_eq key other ≡ b → (key ≡ other) ⊎ (key ≢ other)
    go true is = inl (decides.0 is)
    go false is = inr (λ same. let yes = decides.1 same in cc (is, yes))

-- CLIENTS

found_client : (clients : List Client) (n : ℕ) → has_client clients n ≡ true → (client : Client) × (sought (by_number n) clients ≡ Some client)
found_client clients n e = go (sought (by_number n) clients) refl e
  where
    go : (found : Option Client) → sought (by_number n) clients ≡ found → is_some found ≡ true → (client : Client) × (sought (by_number n) clients ≡ Some client)
    go None is e' = absurd (cc e')
    go (Some client) is e' = (client, is)

no_client : (clients : List Client) (n : ℕ) → has_client clients n ≡ false → sought (by_number n) clients ≡ None
no_client clients n e = go (sought (by_number n) clients) refl e
  where
    go : (found : Option Client) → sought (by_number n) clients ≡ found → is_some found ≡ false → sought (by_number n) clients ≡ None
    go None is e' = is
    go (Some client) is e' = absurd (cc e')

same_clients : (clients : List Client) (n : ℕ) → has_client clients n ≡ true → with_client clients n ≡ clients
same_clients clients n e = let found = found_client clients n e in edited_same (by_number n) (λ client. client ∷ []) (untold n ∷ []) clients found.0 found.1 refl

module _ (clients : List Client) (n : ℕ) (rising : IsRising nat_lt (numbers_of clients)) where
  client_added : has_client clients n ≡ false → sought (by_number n) (with_client clients n) ≡ Some (untold n)
  client_added e =
      sought_edited nat_lt nat_cmp numbers_order (λ (client : Client). client.number) (λ client. client ∷ []) (untold n ∷ []) n (λ client here. here) refl clients rising
      ∙ ap (λ found. elim found as (λ f. Option Client) [ None ↦ sought (by_number n) (untold n ∷ []) | Some client ↦ sought (by_number n) (client ∷ []) ]) (no_client clients n e)
      ∙ ap (λ o. match_ordering o None (Some (untold n)) None) (numbers_order.same n)

  client_stays : (m : ℕ) → n ≢ m → sought (by_number m) (with_client clients n) ≡ sought (by_number m) clients
  client_stays m other = sought_other nat_lt nat_cmp numbers_order (λ (client : Client). client.number) (λ client. client ∷ []) (untold n ∷ []) n (λ client here. here) refl m other clients rising

  client_gone : sought (by_number n) (without_client clients n) ≡ None
  client_gone =
      sought_edited nat_lt nat_cmp numbers_order (λ (client : Client). client.number) (λ client. []) [] n (λ client here. tt) tt clients rising ∙ go (sought (by_number n) clients)
    where
      go : (found : Option Client) → (elim found as (λ f. Option Client) [ None ↦ None | Some client ↦ None ]) ≡ None
      go None = refl
      go (Some client) = refl

  client_left : (m : ℕ) → n ≢ m → sought (by_number m) (without_client clients n) ≡ sought (by_number m) clients
  client_left m other = sought_other nat_lt nat_cmp numbers_order (λ (client : Client). client.number) (λ client. []) [] n (λ client here. tt) tt m other clients rising

-- KEYS

module _ {V : Type 0} where
  rising_at : (key : Text) (desk : List (Followed V)) (followed : Followed V) → AllByRecursion (λ (f : Followed V). IsRising nat_lt (numbers_of f.clients)) desk → sought (by_key key) desk ≡ Some followed → IsRising nat_lt (numbers_of followed.clients)
  rising_at key [] followed h e = absurd (cc e)
  rising_at key (f ∷ fs) followed h e = go (by_key key f) e (λ e'. rising_at key fs followed h.1 e')
    where
      go : (o : Ordering) → match_ordering o (sought (by_key key) fs) (Some f) None ≡ Some followed → (sought (by_key key) fs ≡ Some followed → IsRising nat_lt (numbers_of followed.clients)) → IsRising nat_lt (numbers_of followed.clients)
      go Less e' later = later e'
      go Equal e' later = let same : f ≡ followed = cc e' in subst (λ (g : Followed V). IsRising nat_lt (numbers_of g.clients)) same h.0
      go Greater e' later = absurd (cc e')

  -- what a client was told doesn't depend on the others
  other_clients : (f : Followed V) (clients : List Client) (found : Option Client) → told_by_clients (with_clients f clients) found ≡ told_by_clients f found
  other_clients f clients None = refl
  other_clients f clients (Some client) = refl

  module _ (desk : List (Followed V)) (in_order : AreInOrder desk) (key : Text) (n : ℕ) where
    -- ONE MORE

    abbrev with_it : Followed V → List (Followed V)
    with_it followed = with_clients followed (with_client followed.clients n) ∷ []

    found_with : sought (by_key key) (with_subscription desk key n) ≡ elim (sought (by_key key) desk) as (λ f. Option (Followed V)) [ None ↦ sought (by_key key) (first_of key n ∷ []) | Some followed ↦ sought (by_key key) (with_it followed) ]
    found_with = sought_edited text_lt text_order texts_order (λ (f : Followed V). f.key) with_it (first_of key n ∷ []) key (λ followed here. here) refl desk in_order.0

    by_its_key : (f : Followed V) → sought (by_key key) desk ≡ Some f → by_key key f ≡ Equal
    by_its_key f is = ap (λ k. text_order k key) (sought_has text_lt text_order texts_order (λ (g : Followed V). g.key) key desk f is) ∙ texts_order.same key

    -- a subscription that stands stays as it is
    pub standing_stays : is_subscribed desk key n ≡ true → with_subscription desk key n ≡ desk
    standing_stays e = go (sought (by_key key) desk) refl e
      where
        go : (found : Option (Followed V)) → sought (by_key key) desk ≡ found → follows found n ≡ true → with_subscription desk key n ≡ desk
        go None is e' = absurd (cc e')
        go (Some f) is e' = edited_same (by_key key) with_it (first_of key n ∷ []) desk f is (ap (λ clients. with_clients f clients ∷ []) (same_clients f.clients n e'))

    -- the client of a new one was told nothing
    pub new_untold : is_subscribed desk key n ≡ false → told_to (with_subscription desk key n) key n ≡ Some None
    new_untold e = ap (λ found. told_of found n) found_with ∙ go (sought (by_key key) desk) refl e
      where
        go : (found : Option (Followed V)) → sought (by_key key) desk ≡ found → follows found n ≡ false
            → told_of (elim found as (λ f. Option (Followed V)) [ None ↦ sought (by_key key) (first_of key n ∷ []) | Some followed ↦ sought (by_key key) (with_it followed) ]) n ≡ Some None
        go None is e' =
            ap (λ o. told_of (match_ordering o None (Some (first_of {V = V} key n)) None) n) (texts_order.same key)
            ∙ ap (λ o. told_by_clients (first_of {V = V} key n) (match_ordering o None (Some (untold n)) None)) (numbers_order.same n)
        go (Some f) is e' =
            ap (λ o. told_of (match_ordering o None (Some (with_clients f (with_client f.clients n))) None) n) (by_its_key f is)
            ∙ ap (told_by_clients (with_clients f (with_client f.clients n))) (client_added f.clients n (rising_at key desk f in_order.1 is) e')

    elsewhere_with : (other : Text) (m : ℕ) → key ≢ other → told_to (with_subscription desk key n) other m ≡ told_to desk other m
    elsewhere_with other m ne = ap (λ found. told_of found m) (sought_other text_lt text_order texts_order (λ (f : Followed V). f.key) with_it (first_of key n ∷ []) key (λ followed here. here) refl other ne desk in_order.0)

    others_here : (m : ℕ) → n ≢ m → told_to (with_subscription desk key n) key m ≡ told_to desk key m
    others_here m ne = ap (λ found. told_of found m) found_with ∙ go (sought (by_key key) desk) refl
      where
        go : (found : Option (Followed V)) → sought (by_key key) desk ≡ found
            → told_of (elim found as (λ f. Option (Followed V)) [ None ↦ sought (by_key key) (first_of key n ∷ []) | Some followed ↦ sought (by_key key) (with_it followed) ]) m ≡ told_of found m
        go None is =
            ap (λ o. told_of (match_ordering o None (Some (first_of {V = V} key n)) None) m) (texts_order.same key)
            ∙ ap (told_by_clients (first_of {V = V} key n)) (client_stays [] n tt m ne)
        go (Some f) is =
            ap (λ o. told_of (match_ordering o None (Some (with_clients f (with_client f.clients n))) None) m) (by_its_key f is)
            ∙ ap (told_by_clients (with_clients f (with_client f.clients n))) (client_stays f.clients n (rising_at key desk f in_order.1 is) m ne)
            ∙ other_clients f (with_client f.clients n) (sought (by_number m) f.clients)

    -- and nothing else changes
    pub others_with : (other : Text) (m : ℕ) → (key ≢ other) ⊎ (n ≢ m) → told_to (with_subscription desk key n) other m ≡ told_to desk other m
    others_with other m (inl ne) = elsewhere_with other m ne
    others_with other m (inr ne) = elim (same_or_not key other) [
      | inl same ↦ subst (λ (k : Text). told_to (with_subscription desk key n) k m ≡ told_to desk k m) same (others_here m ne)
      | inr apart ↦ elsewhere_with other m apart
    ]

    -- ONE FEWER

    abbrev without_it : Followed V → List (Followed V)
    without_it followed = unless_left (with_clients followed (without_client followed.clients n))

    found_without : sought (by_key key) (without_subscription desk key n) ≡ elim (sought (by_key key) desk) as (λ f. Option (Followed V)) [ None ↦ None | Some followed ↦ sought (by_key key) (without_it followed) ]
    found_without = sought_edited text_lt text_order texts_order (λ (f : Followed V). f.key) without_it [] key (λ followed here. left_at key (with_clients followed (without_client followed.clients n)) here) tt desk in_order.0

    -- what is told to a client of a key that is kept while somebody follows it
    told_if_left : (f : Followed V) → sought (by_key key) desk ≡ Some f → (clients : List Client) (m : ℕ) → told_of (sought (by_key key) (unless_left (with_clients f clients))) m ≡ told_by_clients (with_clients f clients) (sought (by_number m) clients)
    told_if_left f is [] m = refl
    told_if_left f is (client ∷ more) m = ap (λ o. told_of (match_ordering o None (Some (with_clients f (client ∷ more))) None) m) (by_its_key f is)

    -- an unsubscribe ends what was told too
    pub ended_untold : told_to (without_subscription desk key n) key n ≡ None
    ended_untold = ap (λ found. told_of found n) found_without ∙ go (sought (by_key key) desk) refl
      where
        go : (found : Option (Followed V)) → sought (by_key key) desk ≡ found → told_of (elim found as (λ f. Option (Followed V)) [ None ↦ None | Some followed ↦ sought (by_key key) (without_it followed) ]) n ≡ None
        go None is = refl
        go (Some f) is = told_if_left f is (without_client f.clients n) n
            ∙ ap (told_by_clients (with_clients f (without_client f.clients n))) (client_gone f.clients n (rising_at key desk f in_order.1 is))

    elsewhere_without : (other : Text) (m : ℕ) → key ≢ other → told_to (without_subscription desk key n) other m ≡ told_to desk other m
    elsewhere_without other m ne = ap (λ found. told_of found m)
        (sought_other text_lt text_order texts_order (λ (f : Followed V). f.key) without_it [] key (λ followed here. left_at key (with_clients followed (without_client followed.clients n)) here) tt other ne desk in_order.0)

    left_here : (m : ℕ) → n ≢ m → told_to (without_subscription desk key n) key m ≡ told_to desk key m
    left_here m ne = ap (λ found. told_of found m) found_without ∙ go (sought (by_key key) desk) refl
      where
        go : (found : Option (Followed V)) → sought (by_key key) desk ≡ found → told_of (elim found as (λ f. Option (Followed V)) [ None ↦ None | Some followed ↦ sought (by_key key) (without_it followed) ]) m ≡ told_of found m
        go None is = refl
        go (Some f) is = told_if_left f is (without_client f.clients n) m
            ∙ ap (told_by_clients (with_clients f (without_client f.clients n))) (client_left f.clients n (rising_at key desk f in_order.1 is) m ne)
            ∙ other_clients f (without_client f.clients n) (sought (by_number m) f.clients)

    pub others_without : (other : Text) (m : ℕ) → (key ≢ other) ⊎ (n ≢ m) → told_to (without_subscription desk key n) other m ≡ told_to desk other m
    others_without other m (inl ne) = elsewhere_without other m ne
    others_without other m (inr ne) = elim (same_or_not key other) [
      | inl same ↦ subst (λ (k : Text). told_to (without_subscription desk key n) k m ≡ told_to desk k m) same (left_here m ne)
      | inr apart ↦ elsewhere_without other m apart
    ]
