-- A list in order stays in order where it is edited at its place.
use Rattle.std.proofs.Common.{◌≡◌, ℕ, List, [], ◌∷◌, ◌++◌, Bool, true, false, Result, Ok, Err, OnOk, OnErr, refl, ap, sym, ◌∙◌, subst, map, arith}
use Rattle.std.specs.Prelude.{nat_lt, if◌then◌else◌}
use Rattle.std.specs.List.{AllByRecursion}
use Rattle.std.specs.declared.cmp.Ordering.{Ordering}
use Rattle.std.specs.declared.cmp.Ordering.TheVariants.{Less, Equal, Greater}
use Rattle.std.specs.Ordering.{match_ordering, nat_cmp, ordering_reverse}
use Rattle.std.proofs.lemmas.Bool.Decides.{nat_tests}
use Rattle.std.proofs.lemmas.List.{append-nil}
use Rattle.std.specs.Cmp.Lexicographic.{nat_list_cmp_total}
use Rattle.model_history.specs.Texts.{Text, text_lt}
use Rattle.base_bytes.specs.TextOrder.{text_order}
use Rattle.base_bytes.proofs.TextLaws.{order_less, order_equal, order_greater, less_order, lt_trans, lt_never}
use Rattle.member_desk.specs.declared.client.Client.{Client}
use Rattle.member_desk.specs.declared.followed.Followed.{Followed}
use Rattle.member_desk.specs.Places.{edited, IsBelowAll, IsRising}
use Rattle.member_desk.specs.Subscriptions.{untold, with_client, without_client, numbers_of, first_of, by_key, with_clients, is_nobody, unless_left, with_subscription, without_subscription, AreInOrder}

-- a test of which key comes first, and the order of keys that it is the test of
pub record IsOrder {K : Type 0} (lt : K → K → Bool) (R : K → K → Ordering) : Type 0 where
  pub less : (x y : K) → R x y ≡ Less → lt x y ≡ true
  pub equal : (x y : K) → R x y ≡ Equal → x ≡ y
  pub greater : (x y : K) → R x y ≡ Greater → lt y x ≡ true
  pub is_greater : (x y : K) → lt y x ≡ true → R x y ≡ Greater
  pub same : (x : K) → R x x ≡ Equal
  pub trans : (x y z : K) → lt x y ≡ true → lt y z ≡ true → lt x z ≡ true

-- at most one item, which has the key
abbrev pub IsOneAt : {X K : Type 0} → (X → K) → K → List X → Type 0
IsOneAt key k [] = Unit {0}
IsOneAt key k (y ∷ []) = key y ≡ k
IsOneAt key k (y ∷ z ∷ ys) = ⊥

module _ {X K : Type 0} (lt : K → K → Bool) (R : K → K → Ordering) (laws : IsOrder lt R) (key : X → K) (k : K) where
  abbrev order : X → Ordering
  order x = R (key x) k

  pub below_more : (b c : K) (cs : List K) → lt b c ≡ true → IsBelowAll lt c cs → IsBelowAll lt b cs
  below_more b c [] less h = tt
  below_more b c (d ∷ ds) less h = (laws.trans b c d less h.0, below_more b c ds less h.1)

  below_put : (b : K) (ys zs : List X) → IsOneAt key k ys → lt b k ≡ true → IsBelowAll lt b (map key zs) → IsBelowAll lt b (map key (ys ++ zs))
  below_put b [] zs one less h = h
  below_put b (y ∷ []) zs one less h = (subst (λ (c : K). lt b c ≡ true) (sym one) less, h)
  below_put b (y ∷ z ∷ ys) zs one less h = absurd one

  rising_put : (ys zs : List X) → IsOneAt key k ys → IsBelowAll lt k (map key zs) → IsRising lt (map key zs) → IsRising lt (map key (ys ++ zs))
  rising_put [] zs one below h = h
  rising_put (y ∷ []) zs one below h = (subst (λ (c : K). IsBelowAll lt c (map key zs)) (sym one) below, h)
  rising_put (y ∷ z ∷ ys) zs one below h = absurd one

  module _ (instead : X → List X) (absent : List X) (one_instead : (x : X) → key x ≡ k → IsOneAt key k (instead x)) (one_absent : IsOneAt key k absent) where
    below_edited : (b : K) (xs : List X) → IsBelowAll lt b (map key xs) → lt b k ≡ true → IsBelowAll lt b (map key (edited order instead absent xs))
    below_edited b [] h less = subst (λ (ys : List X). IsBelowAll lt b (map key ys)) (append-nil absent) (below_put b absent [] one_absent less tt)
    below_edited b (x ∷ xs) h less = go (order x) refl (below_edited b xs h.1 less)
      where
        go : (o : Ordering) → order x ≡ o → IsBelowAll lt b (map key (edited order instead absent xs)) → IsBelowAll lt b (map key (match_ordering o (x ∷ edited order instead absent xs) (instead x ++ xs) (absent ++ x ∷ xs)))
        go Less is rest = (h.0, rest)
        go Equal is rest = below_put b (instead x) xs (one_instead x (laws.equal (key x) k is)) less h.1
        go Greater is rest = below_put b absent (x ∷ xs) one_absent less h

    pub rising_edited : (xs : List X) → IsRising lt (map key xs) → IsRising lt (map key (edited order instead absent xs))
    rising_edited [] h = go absent one_absent
      where
        go : (ys : List X) → IsOneAt key k ys → IsRising lt (map key ys)
        go [] one = tt
        go (y ∷ []) one = (tt, tt)
        go (y ∷ z ∷ ys) one = absurd one
    rising_edited (x ∷ xs) h = go (order x) refl (rising_edited xs h.1)
      where
        go : (o : Ordering) → order x ≡ o → IsRising lt (map key (edited order instead absent xs)) → IsRising lt (map key (match_ordering o (x ∷ edited order instead absent xs) (instead x ++ xs) (absent ++ x ∷ xs)))
        go Less is rest = (below_edited (key x) xs h.0 (laws.less (key x) k is), rest)
        go Equal is rest = rising_put (instead x) xs (one_instead x (laws.equal (key x) k is)) (subst (λ (c : K). IsBelowAll lt c (map key xs)) (laws.equal (key x) k is) h.0) h.1
        go Greater is rest = let less = laws.greater (key x) k is in rising_put absent (x ∷ xs) one_absent (less, below_more k (key x) (map key xs) less h.0) h

-- what holds of each item holds of each after an edit
each_append : {X : Type 0} (P : X → Type 0) (ys zs : List X) → AllByRecursion P ys → AllByRecursion P zs → AllByRecursion P (ys ++ zs)
each_append P [] zs h g = g
each_append P (y ∷ ys) zs h g = (h.0, each_append P ys zs h.1 g)

each_edited : {X : Type 0} (P : X → Type 0) (order : X → Ordering) (instead : X → List X) (absent : List X) → ((x : X) → P x → AllByRecursion P (instead x)) → AllByRecursion P absent
    → (xs : List X) → AllByRecursion P xs → AllByRecursion P (edited order instead absent xs)
each_edited P order instead absent stays new [] h = new
each_edited P order instead absent stays new (x ∷ xs) h = go (order x) (each_edited P order instead absent stays new xs h.1)
  where
    go : (o : Ordering) → AllByRecursion P (edited order instead absent xs) → AllByRecursion P (match_ordering o (x ∷ edited order instead absent xs) (instead x ++ xs) (absent ++ x ∷ xs))
    go Less rest = (h.0, rest)
    go Equal rest = each_append P (instead x) xs (stays x h.0) h.1
    go Greater rest = each_append P absent (x ∷ xs) new h

-- CLIENTS

pub numbers_order : IsOrder nat_lt nat_cmp
numbers_order = record {
  less = λ x y e. less x y e;
  equal = λ x y e. equal x y e;
  greater = λ x y e. greater x y e;
  is_greater = λ x y e. is_greater x y e;
  same = λ x. same x;
  trans = λ x y z p q. trans x y z p q;
}
  where
    less : (x y : ℕ) → nat_cmp x y ≡ Less → nat_lt x y ≡ true
    less x y e = grind (arith, nat_tests)

    equal : (x y : ℕ) → nat_cmp x y ≡ Equal → x ≡ y
    equal x y e = grind (arith, nat_tests)

    greater : (x y : ℕ) → nat_cmp x y ≡ Greater → nat_lt y x ≡ true
    greater x y e = grind (arith, nat_tests)

    is_greater : (x y : ℕ) → nat_lt y x ≡ true → nat_cmp x y ≡ Greater
    is_greater x y e = grind (arith, nat_tests)

    same : (x : ℕ) → nat_cmp x x ≡ Equal
    same x = grind (arith, nat_tests)

    trans : (x y z : ℕ) → nat_lt x y ≡ true → nat_lt y z ≡ true → nat_lt x z ≡ true
    trans x y z p q = grind (arith, nat_tests)

rising_with_client : (clients : List Client) (n : ℕ) → IsRising nat_lt (numbers_of clients) → IsRising nat_lt (numbers_of (with_client clients n))
rising_with_client clients n h = rising_edited nat_lt nat_cmp numbers_order (λ (client : Client). client.number) n (λ client. client ∷ []) (untold n ∷ []) (λ client e. e) refl clients h

rising_without_client : (clients : List Client) (n : ℕ) → IsRising nat_lt (numbers_of clients) → IsRising nat_lt (numbers_of (without_client clients n))
rising_without_client clients n h = rising_edited nat_lt nat_cmp numbers_order (λ (client : Client). client.number) n (λ client. []) [] (λ client e. tt) tt clients h

-- KEYS

pub texts_order : IsOrder text_lt text_order
texts_order = record {
  less = order_less;
  equal = order_equal;
  greater = order_greater;
  is_greater = λ x y e. nat_list_cmp_total.antisymm x y ∙ ap ordering_reverse (less_order y x e);
  same = λ x. nat_list_cmp_same x;
  trans = lt_trans;
}
  where
    nat_list_cmp_same : (x : Text) → text_order x x ≡ Equal
    nat_list_cmp_same x = go (text_order x x) refl
      where
        go : (o : Ordering) → text_order x x ≡ o → text_order x x ≡ Equal
        go Less e = absurd (let f = sym (order_less x x e) ∙ lt_never x in cc f)
        go Equal e = e
        go Greater e = absurd (let f = sym (order_greater x x e) ∙ lt_never x in cc f)

module _ {V : Type 0} where
  abbrev HasRisingClients : Followed V → Type 0
  HasRisingClients followed = IsRising nat_lt (numbers_of followed.clients)

  pub in_order_with : (desk : List (Followed V)) (key : Text) (n : ℕ) → AreInOrder desk → AreInOrder (with_subscription desk key n)
  in_order_with desk key n h = (
    rising_edited text_lt text_order texts_order (λ (followed : Followed V). followed.key) key (λ followed. with_clients followed (with_client followed.clients n) ∷ []) (first_of key n ∷ []) (λ followed e. e) refl desk h.0,
    each_edited HasRisingClients (by_key key) (λ followed. with_clients followed (with_client followed.clients n) ∷ []) (first_of key n ∷ []) (λ followed g. (rising_with_client followed.clients n g, tt)) ((tt, tt), tt) desk h.1,
  )

  pub left_at : (key : Text) (followed : Followed V) → followed.key ≡ key → IsOneAt (λ (f : Followed V). f.key) key (unless_left followed)
  left_at key followed e = go (is_nobody followed.clients)
    where
      go : (nobody : Bool) → IsOneAt (λ (f : Followed V). f.key) key (if nobody then [] else followed ∷ [])
      go true = tt
      go false = e

  left_rising : (followed : Followed V) → HasRisingClients followed → AllByRecursion HasRisingClients (unless_left followed)
  left_rising followed h = go (is_nobody followed.clients)
    where
      go : (nobody : Bool) → AllByRecursion HasRisingClients (if nobody then [] else followed ∷ [])
      go true = tt
      go false = (h, tt)

  pub in_order_without : (desk : List (Followed V)) (key : Text) (n : ℕ) → AreInOrder desk → AreInOrder (without_subscription desk key n)
  in_order_without desk key n h = (
    rising_edited text_lt text_order texts_order (λ (followed : Followed V). followed.key) key (λ followed. unless_left (with_clients followed (without_client followed.clients n))) []
        (λ followed e. left_at key (with_clients followed (without_client followed.clients n)) e) tt desk h.0,
    each_edited HasRisingClients (by_key key) (λ followed. unless_left (with_clients followed (without_client followed.clients n))) []
        (λ followed g. left_rising (with_clients followed (without_client followed.clients n)) (rising_without_client followed.clients n g)) tt desk h.1,
  )

  -- whether it was done or refused
  pub in_order_either : {A E : Type 0} (result : Result A E) (desk new : List (Followed V)) (key : Text) (n : ℕ) → OnOk result (new ≡ with_subscription desk key n) → OnErr result (new ≡ desk) → AreInOrder desk → AreInOrder new
  in_order_either (Ok value) desk new key n ok err h = subst (λ (d : List (Followed V)). AreInOrder d) (sym ok) (in_order_with desk key n h)
  in_order_either (Err error) desk new key n ok err h = subst (λ (d : List (Followed V)). AreInOrder d) (sym err) h
