-- Rows whose links are made when they are needed: what is seen of them before and after.
use Rattle.std.proofs.Common.{◌≡◌, ℕ, ◌<◌, List, [], ◌∷◌, length, map, get_or, replicate, refl, sym, ap, subst, ◌∙◌, arith, Bool, true, false, Option, Some, None, Vec, Global}
use Rattle.std.specs.Prelude.{if◌then◌else◌, slice_get, option_map, option_and_then, is_some, IfSome, ◌==◌, nat_lt}
use Rattle.std.proofs.lemmas.Bool.{ltb-true, ltb-false}
use Rattle.std.proofs.lemmas.Option.{slice_get-map, slice_get_past, slice_get_read}
use Rattle.model_history.specs.Table.{identity_limit}
use Rattle.world_places.specs.declared.links.Link.{Link}
use Rattle.world_places.specs.Channels.{Channel, channel_at, channel_of, row_of, made, channels_in, no_messages, next_on, count_on, message_on, ChangesIn}
use Rattle.world_places.proofs.Lists.{slice_get-replicate}

module _ {M : Type 0} where
  -- there is a first channel
  first_made : (xs : List (Channel M)) → (x : Channel M) × (slice_get (made xs) 0 ≡ Some x)
  first_made [] = (no_messages, slice_get-replicate identity_limit 0 no_messages)
  first_made (x ∷ xs) = (x, refl)

  pub made_whole : (xs : List (Channel M)) (x : Channel M) → slice_get xs 0 ≡ Some x → made xs ≡ xs
  made_whole [] x e = absurd (cc e)
  made_whole (y ∷ xs) x e = refl

  pub made_twice : (xs : List (Channel M)) → made (made xs) ≡ made xs
  made_twice xs = made_whole (made xs) (first_made xs).0 (first_made xs).1

  -- the links are made, and what is seen stays
  pub made_same : (old new : List (Channel M)) → new ≡ made old → made new ≡ made old
  made_same old new e = ap made e ∙ made_twice old

  -- each channel is seen as one of those before
  pub made_mapped : (old new : List (Channel M)) (change : Channel M → Channel M) → slice_get new 0 ≡ option_map change (slice_get (made old) 0) → made new ≡ new
  made_mapped old new change e = made_whole new (change (first_made old).0) (e ∙ ap (option_map change) (first_made old).1)

  -- one of the channels is changed once they are made
  pub changed_made : (change : Channel M → Channel M) (to : ℕ) (old mid new : List (Channel M)) → mid ≡ made old → ChangesIn change to mid new → ChangesIn change to (made old) (made new)
  changed_made change to old mid new e each =
      let from : ChangesIn change to (made old) new = subst (λ xs. ChangesIn change to xs new) e each in
      subst (ChangesIn change to (made old)) (sym (go (0 == to) (from 0))) from
    where
      go : (b : Bool) → slice_get new 0 ≡ (if b then option_map change (slice_get (made old) 0) else slice_get (made old) 0) → made new ≡ new
      go true first = made_mapped old new change first
      go false first = made_whole new (first_made old).0 (first ∙ (first_made old).1)

  -- WHAT IS ASKED OF A CHANNEL

  -- a channel that is made
  pub made_there : (xs : List (Channel M)) (to : ℕ) (x : Channel M) → slice_get xs to ≡ Some x → slice_get (made xs) to ≡ Some x
  made_there [] to x e = absurd (cc e)
  made_there (y ∷ xs) to x e = e

  -- a channel that isn't made is without a message, or there is none
  unmade : (P : Option (Channel M) → Type 0) → P None → P (Some no_messages) → (xs : List (Channel M)) (to : ℕ) → slice_get xs to ≡ None → P (slice_get (made xs) to)
  unmade P none empty [] to e = subst P (sym (slice_get-replicate identity_limit to no_messages)) (go (nat_lt to identity_limit))
    where
      go : (b : Bool) → P (if b then Some no_messages else None)
      go true = empty
      go false = none
  unmade P none empty (x ∷ xs) to e = subst P (sym e) none

  pub next_unmade : (xs : List (Channel M)) (to : ℕ) → slice_get xs to ≡ None → 0 ≡ next_on (slice_get (made xs) to)
  next_unmade = unmade (λ o. 0 ≡ next_on o) refl refl

  pub count_unmade : (xs : List (Channel M)) (to : ℕ) → slice_get xs to ≡ None → 0 ≡ count_on (slice_get (made xs) to)
  count_unmade = unmade (λ o. 0 ≡ count_on o) refl refl

  pub message_unmade : (xs : List (Channel M)) (to index : ℕ) → slice_get xs to ≡ None → None ≡ message_on (slice_get (made xs) to) index
  message_unmade xs to index = unmade (λ o. None ≡ message_on o index) refl refl xs to

  -- a channel with a message is made
  pub made_counted : (xs : List (Channel M)) (to index : ℕ) → index < count_on (slice_get (made xs) to) → made xs ≡ xs
  made_counted [] to index less = absurd (omega (arith, less, count_unmade [] to refl))
  made_counted (x ∷ xs) to index less = refl

module _ {X M : Type 0} (f : X → Channel M) where
  pub nothing_made : (xs : List X) → length xs ≡ 0 → made (map f xs) ≡ replicate identity_limit no_messages
  nothing_made [] none = refl
  nothing_made (x ∷ xs) none = absurd (omega arith)

  pub something_made : (xs : List X) → (length xs ≡ 0 → ⊥) → made (map f xs) ≡ map f xs
  something_made [] some = absurd (some refl)
  something_made (x ∷ xs) some = refl

-- WHAT A LIST LENDS

-- at a place
pub lent_at : {R X : Type 0} (now : R → X) (xs : List X) (k : ℕ) (o : Option R) → is_some o ≡ nat_lt k (length xs) → IfSome o (λ x. now x ≡ get_or xs k (now x)) → slice_get xs k ≡ option_map now o
lent_at now xs k None there is = slice_get_past xs k (ltb-false k (length xs) (sym there))
lent_at now xs k (Some x) there is = slice_get_read xs (length xs) k (now x) refl (ltb-true k (length xs) (sym there)) is

-- AMONG ALL ROWS

module _ {M : Type 0} where
  -- the messages of a link that is there
  pub counted_link : (row : Vec (Link M) Global) (to index : ℕ) → index < count_on (slice_get (channels_in row) to) → (link : Link M) → slice_get row.items to ≡ Some link → index < length link.messages.items
  counted_link row to index less link is =
      let same : count_on (slice_get (channels_in row) to) ≡ length link.messages.items = ap count_on (made_there (row_of row) to (channel_of link) (slice_get-map channel_of row.items to ∙ ap (option_map channel_of) is)) in
      omega (arith, less, same)

  row_seen : (rows : List (Vec (Link M) Global)) (a b : ℕ) (row : Vec (Link M) Global) → slice_get rows a ≡ Some row → channel_at (map channels_in rows) a b ≡ slice_get (channels_in row) b
  row_seen rows a b row is = ap (option_and_then (λ (channels : List (Channel M)). slice_get channels b)) (slice_get-map channels_in rows a ∙ ap (option_map channels_in) is)

  not_linked : (row : Vec (Link M) Global) (b : ℕ) → slice_get row.items b ≡ None → slice_get (row_of row) b ≡ None
  not_linked row b none = slice_get-map channel_of row.items b ∙ ap (option_map channel_of) none

  pub next_seen : (rows : List (Vec (Link M) Global)) (a b : ℕ) (row : Vec (Link M) Global) (o : Option (Link M)) → slice_get rows a ≡ Some row → slice_get row.items b ≡ o → next_on (option_map channel_of o) ≡ next_on (channel_at (map channels_in rows) a b)
  next_seen rows a b row None is found = next_unmade (row_of row) b (not_linked row b found) ∙ sym (ap next_on (row_seen rows a b row is))
  next_seen rows a b row (Some link) is found =
      sym (ap next_on (row_seen rows a b row is ∙ made_there (row_of row) b (channel_of link) (slice_get-map channel_of row.items b ∙ ap (option_map channel_of) found)))

  pub count_seen : (rows : List (Vec (Link M) Global)) (a b : ℕ) (row : Vec (Link M) Global) (o : Option (Link M)) → slice_get rows a ≡ Some row → slice_get row.items b ≡ o → count_on (option_map channel_of o) ≡ count_on (channel_at (map channels_in rows) a b)
  count_seen rows a b row None is found = count_unmade (row_of row) b (not_linked row b found) ∙ sym (ap count_on (row_seen rows a b row is))
  count_seen rows a b row (Some link) is found =
      sym (ap count_on (row_seen rows a b row is ∙ made_there (row_of row) b (channel_of link) (slice_get-map channel_of row.items b ∙ ap (option_map channel_of) found)))

  pub message_seen : (rows : List (Vec (Link M) Global)) (a b index : ℕ) (row : Vec (Link M) Global) (link : Link M) → slice_get rows a ≡ Some row → slice_get row.items b ≡ Some link → slice_get link.messages.items index ≡ message_on (channel_at (map channels_in rows) a b) index
  message_seen rows a b index row link is found =
      sym (ap (λ (o : Option (Channel M)). message_on o index) (row_seen rows a b row is ∙ made_there (row_of row) b (channel_of link) (slice_get-map channel_of row.items b ∙ ap (option_map channel_of) found)))

  -- no message where no link is made, and where there is no row
  pub message_missing : (rows : List (Vec (Link M) Global)) (a b index : ℕ) (row : Vec (Link M) Global) → slice_get rows a ≡ Some row → slice_get row.items b ≡ None → None ≡ message_on (channel_at (map channels_in rows) a b) index
  message_missing rows a b index row is none =
      message_unmade (row_of row) b index (not_linked row b none) ∙ sym (ap (λ (o : Option (Channel M)). message_on o index) (row_seen rows a b row is))

  pub row_missing : (rows : List (Vec (Link M) Global)) (a b index : ℕ) → slice_get rows a ≡ None → None ≡ message_on (channel_at (map channels_in rows) a b) index
  row_missing rows a b index none =
      sym (ap (λ (o : Option (List (Channel M))). message_on (option_and_then (λ (channels : List (Channel M)). slice_get channels b) o) index) (slice_get-map channels_in rows a ∙ ap (option_map channels_in) none))
