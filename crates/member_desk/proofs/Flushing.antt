-- What a desk says to one client of one key, at flush after flush.
use Rattle.std.proofs.Common.{◌≡◌, ◌≢◌, ℕ, List, [], ◌∷◌, ◌++◌, Bool, true, false, Option, Some, None, refl, ap, sym, ◌∙◌, subst, map}
use Rattle.std.specs.Prelude.{if◌then◌else◌, not, filter, ◌&&◌, ◌||◌, ◌==◌, nat_lt}
use Rattle.std.specs.declared.cmp.Ordering.{Ordering}
use Rattle.std.specs.declared.cmp.Ordering.TheVariants.{Less, Equal, Greater}
use Rattle.std.specs.Ordering.{match_ordering, nat_cmp}
use Rattle.std.specs.Bool.{Decides}
use Rattle.std.specs.Str.{bytes_eq}
use Rattle.std.proofs.lemmas.Bool.Decides.{Decides-eqb}
use Rattle.std.proofs.lemmas.Slice.Eq.{bytes_eq-Decides}
use Rattle.std.proofs.lemmas.List.{map-append}
use Rattle.std.proofs.lemmas.List.Elements.{filter-append}
use Rattle.model_history.specs.Texts.{Text, text_lt}
use Rattle.base_bytes.specs.TextOrder.{text_order}
use Rattle.base_bytes.proofs.TextLaws.{lt_never}
use Rattle.model_kinds.specs.declared.shown.Shown.{Shown}
use Rattle.member_desk.specs.declared.client.Client.{Client}
use Rattle.member_desk.specs.declared.followed.Followed.{Followed}
use Rattle.member_desk.specs.declared.notice.Notice.{Notice}
use Rattle.member_desk.specs.Places.{sought, IsBelowAll, IsRising}
use Rattle.member_desk.specs.Subscriptions.{by_number, by_key, numbers_of, keys_of, told_by_clients, told_of, told_to, AreInOrder}
use Rattle.member_desk.specs.Notices.{notice_of, tellings, is_news, notices_at, notices_of}
use Rattle.member_desk.specs.Successive.{said_to}
use Rattle.member_desk.proofs.Orders.{numbers_order, texts_order, below_more}

-- NUMBERS AND KEYS THAT DIFFER

other_number : (m n : ℕ) → m ≢ n → (m == n) ≡ false
other_number m n ne = go (m == n) refl
  where
    decides : Decides (m == n) (m ≡ n)
    decides = Decides-eqb m n

    go : (b : Bool) → (m == n) ≡ b → b ≡ false
    go true is = absurd (ne (decides.0 is))
    go false is = refl

other_key : (key other : Text) → key ≢ other → bytes_eq key other ≡ false
other_key key other ne = go (bytes_eq key other) refl
  where
    decides : Decides (bytes_eq key other) (key ≡ other)
    decides = bytes_eq-Decides key other

    go : (b : Bool) → bytes_eq key other ≡ b → b ≡ false
    go true is = absurd (ne (decides.0 is))
    go false is = refl

same_number : (n : ℕ) → (n == n) ≡ true
same_number n = let decides : Decides (n == n) (n ≡ n) = Decides-eqb n n in decides.1 refl

same_key : (key : Text) → bytes_eq key key ≡ true
same_key key = let decides : Decides (bytes_eq key key) (key ≡ key) = bytes_eq-Decides key key in decides.1 refl

and_false : (b : Bool) → (b && false) ≡ false
and_false true = refl
and_false false = refl

less_differ : {K : Type 0} (lt : K → K → Bool) (a b : K) → lt a b ≡ true → lt b b ≡ false → a ≢ b
less_differ lt a b less never same = let e : lt b b ≡ true = subst (λ c. lt c b ≡ true) same less in absurd (cc (e, never))

number_never : (n : ℕ) → nat_lt n n ≡ false
number_never n = go (nat_lt n n) refl
  where
    go : (b : Bool) → nat_lt n n ≡ b → b ≡ false
    go true is = absurd (let g = numbers_order.is_greater n n is in let e = sym (numbers_order.same n) ∙ g in cc e)
    go false is = refl

-- THE NOTICES OF ONE KEY

module _ (key : Text) (n : ℕ) where
  said_append : (xs ys : List Notice) → said_to key n (xs ++ ys) ≡ said_to key n xs ++ said_to key n ys
  said_append xs ys =
      ap (map (λ (notice : Notice). notice.shown)) (filter-append (λ (notice : Notice). bytes_eq notice.key key && (notice.client == n)) xs ys)
      ∙ map-append (λ (notice : Notice). notice.shown) (filter (λ (notice : Notice). bytes_eq notice.key key && (notice.client == n)) xs) (filter (λ (notice : Notice). bytes_eq notice.key key && (notice.client == n)) ys)

  -- one notice in front of others
  said_first : (notice : Notice) (test : Bool) (rest : List Notice) → (bytes_eq notice.key key && (notice.client == n)) ≡ test → said_to key n (notice ∷ rest) ≡ (if test then notice.shown ∷ said_to key n rest else said_to key n rest)
  said_first notice test rest is = ap (λ b. map (λ (x : Notice). x.shown) (if b then notice ∷ filter (λ (x : Notice). bytes_eq x.key key && (x.client == n)) rest else filter (λ (x : Notice). bytes_eq x.key key && (x.client == n)) rest)) is ∙ go test
    where
      go : (b : Bool) → map (λ (x : Notice). x.shown) (if b then notice ∷ filter (λ (x : Notice). bytes_eq x.key key && (x.client == n)) rest else filter (λ (x : Notice). bytes_eq x.key key && (x.client == n)) rest)
          ≡ (if b then notice.shown ∷ said_to key n rest else said_to key n rest)
      go true = refl
      go false = refl

  -- a client of whom nothing is said
  passed_over : (other : Text) (shown : Shown) (all : Bool) (client : Client) (clients : List Client) → (bytes_eq other key && (client.number == n)) ≡ false → said_to key n (tellings other shown all (client ∷ clients)) ≡ said_to key n (tellings other shown all clients)
  passed_over other shown all client clients is = go (all || not client.told)
    where
      go : (told : Bool) → said_to key n (map (notice_of other shown) (if told then client ∷ filter (λ c. all || not c.told) clients else filter (λ c. all || not c.told) clients)) ≡ said_to key n (tellings other shown all clients)
      go true = said_first (notice_of other shown client) false (tellings other shown all clients) is
      go false = refl

  -- another key's notices say nothing
  of_another : (other : Text) → other ≢ key → (shown : Shown) (all : Bool) (clients : List Client) → said_to key n (tellings other shown all clients) ≡ []
  of_another other ne shown all [] = refl
  of_another other ne shown all (client ∷ clients) = passed_over other shown all client clients (ap (λ b. b && (client.number == n)) (other_key other key ne)) ∙ of_another other ne shown all clients

  above_all : (shown : Shown) (all : Bool) (clients : List Client) → IsBelowAll nat_lt n (numbers_of clients) → said_to key n (tellings key shown all clients) ≡ []
  above_all shown all [] below = refl
  above_all shown all (client ∷ clients) below =
      let other : client.number ≢ n = λ same. less_differ nat_lt n client.number below.0 (number_never client.number) (sym same) in
      passed_over key shown all client clients (ap (λ b. bytes_eq key key && b) (other_number client.number n other) ∙ and_false (bytes_eq key key)) ∙ above_all shown all clients below.1

  -- what is said to the client that is found
  abbrev said_if : Shown → Bool → Option Client → List Shown
  said_if shown all None = []
  said_if shown all (Some client) = if all || not client.told then shown ∷ [] else []

  of_the_key : (shown : Shown) (all : Bool) (clients : List Client) → IsRising nat_lt (numbers_of clients) → said_to key n (tellings key shown all clients) ≡ said_if shown all (sought (by_number n) clients)
  of_the_key shown all [] h = refl
  of_the_key shown all (client ∷ clients) h = go (nat_cmp client.number n) refl (of_the_key shown all clients h.1)
    where
      skip : client.number ≢ n → said_to key n (tellings key shown all (client ∷ clients)) ≡ said_to key n (tellings key shown all clients)
      skip other = passed_over key shown all client clients (ap (λ b. bytes_eq key key && b) (other_number client.number n other) ∙ and_false (bytes_eq key key))

      here : client.number ≡ n → (told : Bool) → said_to key n (map (notice_of key shown) (if told then client ∷ filter (λ c. all || not c.told) clients else filter (λ c. all || not c.told) clients)) ≡ (if told then shown ∷ [] else [])
      here same told = elim told as (λ t. said_to key n (map (notice_of key shown) (if t then client ∷ filter (λ c. all || not c.told) clients else filter (λ c. all || not c.told) clients)) ≡ (if t then shown ∷ [] else [])) [
        | true ↦ said_first (notice_of key shown client) true (tellings key shown all clients) (ap (λ b. b && (client.number == n)) (same_key key) ∙ ap (λ m. m == n) same ∙ same_number n)
            ∙ ap (λ more. shown ∷ more) (after same)
        | false ↦ after same
      ]
        where
          after : client.number ≡ n → said_to key n (tellings key shown all clients) ≡ []
          after same' = above_all shown all clients (subst (λ (m : ℕ). IsBelowAll nat_lt m (numbers_of clients)) same' h.0)

      go : (o : Ordering) → nat_cmp client.number n ≡ o → said_to key n (tellings key shown all clients) ≡ said_if shown all (sought (by_number n) clients) → said_to key n (tellings key shown all (client ∷ clients)) ≡ said_if shown all (match_ordering o (sought (by_number n) clients) (Some client) None)
      go Less is rest = skip (less_differ nat_lt client.number n (numbers_order.less client.number n is) (number_never n)) ∙ rest
      go Equal is rest = here (numbers_order.equal client.number n is) (all || not client.told)
      go Greater is rest =
          let less = numbers_order.greater client.number n is in
          skip (λ same. less_differ nat_lt n client.number less (number_never client.number) (sym same))
          ∙ above_all shown all clients (below_more nat_lt nat_cmp numbers_order (λ (m : ℕ). m) n n client.number (numbers_of clients) less h.0)

-- THE NOTICES OF A FLUSH

module _ {V : Type 0} (shows : Text → V → Shown) (key : Text) (n : ℕ) where
  -- what is said to a client that was told this
  abbrev pub said_now : Option (Option V) → Option V → List Shown
  said_now None found = []
  said_now (Some told) None = []
  said_now (Some told) (Some now) = if is_news shows key told now then shows key now ∷ [] else []

  or_true : (b : Bool) → (b || true) ≡ true
  or_true true = refl
  or_true false = refl

  or_false : (b : Bool) → (b || false) ≡ b
  or_false true = refl
  or_false false = refl

  said_of_client : (followed : Followed V) (now : V) (client : Option Client) → said_if key n (shows key now) (is_news shows key followed.told now) client ≡ said_now (told_by_clients followed client) (Some now)
  said_of_client followed now None = refl
  said_of_client followed now (Some client) = go client.told
    where
      go : (told : Bool) → (if is_news shows key followed.told now || not told then shows key now ∷ [] else []) ≡ said_now (Some (if told then followed.told else None)) (Some now)
      go true = ap (λ b. if b then shows key now ∷ [] else []) (or_false (is_news shows key followed.told now))
      go false = ap (λ b. if b then shows key now ∷ [] else []) (or_true (is_news shows key followed.told now))

  said_nothing : (told : Option (Option V)) → [] ≡ said_now told None
  said_nothing None = refl
  said_nothing (Some told) = refl

  said_at : (followed : Followed V) → followed.key ≡ key → IsRising nat_lt (numbers_of followed.clients) → (found : Option V) → said_to key n (notices_at shows followed found) ≡ said_now (told_of (Some followed) n) found
  said_at followed here h None = said_nothing (told_of (Some followed) n)
  said_at followed here h (Some now) =
      ap (λ k. said_to key n (tellings k (shows k now) (is_news shows k followed.told now) followed.clients)) here
      ∙ of_the_key key n (shows key now) (is_news shows key followed.told now) followed.clients h
      ∙ said_of_client followed now (sought (by_number n) followed.clients)

  said_elsewhere : (followed : Followed V) → followed.key ≢ key → (found : Option V) → said_to key n (notices_at shows followed found) ≡ []
  said_elsewhere followed ne None = refl
  said_elsewhere followed ne (Some now) = of_another key n followed.key ne (shows followed.key now) (is_news shows followed.key followed.told now) followed.clients

  module _ (found : Text → Option V) where
    said_before : (desk : List (Followed V)) → IsBelowAll text_lt key (keys_of desk) → said_to key n (notices_of shows found desk) ≡ []
    said_before [] below = refl
    said_before (f ∷ fs) below =
        said_append key n (notices_at shows f (found f.key)) (notices_of shows found fs)
        ∙ ap (λ said. said ++ said_to key n (notices_of shows found fs)) (said_elsewhere f (λ same. less_differ text_lt key f.key below.0 (lt_never f.key) (sym same)) (found f.key))
        ∙ said_before fs below.1

    append_nothing : (xs : List Shown) → xs ++ [] ≡ xs
    append_nothing [] = refl
    append_nothing (x ∷ xs) = ap (λ ys. x ∷ ys) (append_nothing xs)

    pub said_by : (desk : List (Followed V)) → AreInOrder desk → said_to key n (notices_of shows found desk) ≡ said_now (told_to desk key n) (found key)
    said_by [] h = refl
    said_by (f ∷ fs) h = said_append key n (notices_at shows f (found f.key)) (notices_of shows found fs) ∙ go (by_key key f) refl (said_by fs (h.0.1, h.1.1))
      where
        go : (o : Ordering) → by_key key f ≡ o → said_to key n (notices_of shows found fs) ≡ said_now (told_to fs key n) (found key) → said_to key n (notices_at shows f (found f.key)) ++ said_to key n (notices_of shows found fs) ≡ said_now (told_of (match_ordering o (sought (by_key key) fs) (Some f) None) n) (found key)
        go Less is rest =
            ap (λ said. said ++ said_to key n (notices_of shows found fs)) (said_elsewhere f (less_differ text_lt f.key key (texts_order.less f.key key is) (lt_never key)) (found f.key))
            ∙ rest
        go Equal is rest =
            let same = texts_order.equal f.key key is in
            ap (λ said. said_to key n (notices_at shows f (found f.key)) ++ said) (said_before fs (subst (λ (k : Text). IsBelowAll text_lt k (keys_of fs)) same h.0.0))
            ∙ append_nothing (said_to key n (notices_at shows f (found f.key)))
            ∙ ap (λ k. said_to key n (notices_at shows f (found k))) same
            ∙ said_at f same h.1.0 (found key)
        go Greater is rest =
            let less = texts_order.greater f.key key is in
            ap (λ said. said ++ said_to key n (notices_of shows found fs)) (said_elsewhere f (λ same. less_differ text_lt key f.key less (lt_never f.key) (sym same)) (found f.key))
            ∙ said_before fs (below_more text_lt text_order texts_order (λ (k : Text). k) key key f.key (keys_of fs) less h.0.0)
