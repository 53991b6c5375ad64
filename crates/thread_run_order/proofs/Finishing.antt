-- Messages come to the ends of links one after another, and links are passed one after another.
use Rattle.std.proofs.Common.{◌≡◌, ◌≢◌, inl, inr, ℕ, zero, suc, ◌+◌, ◌<◌, ◌≤◌, refl, sym, ap, subst, ◌∙◌, true, false, Bool, List, [], ◌∷◌, ◌++◌, length, map, take, get_or, Option, Some, None, Result, Ok, Err, arith, append_assoc, length-append}
use Rattle.std.specs.Prelude.{◌==◌, ◌&&◌, ◌||◌, if◌then◌else◌, filter, find, slice_get, option_map, All, AllPairs, OnOk}
use Rattle.std.specs.List.{list_any}
use Rattle.std.proofs.lemmas.Bool.Decides.{eqb_tells}
use Rattle.std.proofs.lemmas.Bool.{eq-eqb}
use Rattle.std.proofs.lemmas.Grind.{flat_map-append}
use Rattle.std.proofs.lemmas.List.{append-nil, map-append, take_all}
use Rattle.std.proofs.lemmas.Option.{slice_get-get_or}
use Rattle.std.proofs.lemmas.List.Elements.{filter-append, All-head, All-tail}
use Rattle.model_members.specs.View.{View, Member, is_member}
use Rattle.model_kinds.specs.declared.operation.Op.{Op}
use Rattle.data_lattice.specs.declared.replica.Replica.{Ghosts}
use Rattle.member_keeper.specs.declared.keeper.Keeper.{Ghosts as Keeping}
use Rattle.member_messages.specs.declared.message.Message.{Message}
use Rattle.member_messages.specs.declared.message.Post.{Post}
use Rattle.member_node.specs.declared.input.Input.{Input}
use Rattle.member_node.specs.declared.input.Input.TheVariants as form
use Rattle.member_views.specs.Sound.{IsView}
use Rattle.member_views.proofs.Others.{pairs_head, pairs_tail}
use Rattle.world_places.specs.Channels.{Channel, Channels, channel_at, extended, due_from, next_on, count_on, ChangesOne}
use Rattle.world_places.specs.Places.{seat_of}
use Rattle.world_places.specs.Sending.{messages_to, Sends}
use Rattle.thread_run_order.specs.Images.{EntryOf}
use Rattle.thread_run_order.specs.Section.{takes_of, sent_to, taken_from, history_of, TakesNothing}
use Rattle.thread_run_order.specs.Finishing.{after_taken, is_id, IsSent, AreSentByAll, ArePassedTo, ArePassed}
use Rattle.thread_run_order.proofs.Refusals.{below}

-- what follows from an Ok
pub ok_so : {A E : Type 0} (r : Result A E) (P Q : Type 0) → (P → Q) → OnOk r P → OnOk r Q
ok_so (Ok a) P Q f p = f p
ok_so (Err e) P Q f p = tt

pub ok_there : {A E : Type 0} (r : Result A E) (x : A) (P : Type 0) → r ≡ Ok x → OnOk r P → P
ok_there (Ok a) x P is p = p
ok_there (Err e) x P is p = absurd (cc is)

module _ {M : Type 0} where
  pub none_more : (o : Option (Channel M)) → o ≡ option_map (extended []) o
  none_more None = refl
  none_more (Some c) = ap (λ ms. Some (record { messages = ms; next = c.next })) (sym (append-nil c.messages))

  then_more : (first more : List M) (o : Option (Channel M)) → option_map (extended more) (option_map (extended first) o) ≡ option_map (extended (first ++ more)) o
  then_more first more None = refl
  then_more first more (Some c) = ap (λ ms. Some (record { messages = ms; next = c.next })) (append_assoc c.messages first more)

-- POSTS

module _ {T Kind Delta : Type 0} {ghosts : Ghosts T Kind Op Delta} (from : ℕ) where
  pub sends_none : (l : Channels (Message T Kind Op Delta ghosts)) → Sends from [] l l
  sends_none l a b = go (a == from)
    where
      go : (t : Bool) → channel_at l a b ≡ (if t then option_map (extended []) (channel_at l a b) else channel_at l a b)
      go true = none_more (channel_at l a b)
      go false = refl

  to_more : (ps : List (Post T Kind Op Delta ghosts)) (post : Post T Kind Op Delta ghosts) (b : ℕ) → messages_to (ps ++ post ∷ []) b ≡ messages_to ps b ++ (if b == post.to then post.message ∷ [] else [])
  to_more ps post b =
      ap (map (λ (p : Post T Kind Op Delta ghosts). p.message)) (filter-append (λ (p : Post T Kind Op Delta ghosts). p.to == b) ps (post ∷ []))
      ∙ map-append (λ (p : Post T Kind Op Delta ghosts). p.message) (filter (λ (p : Post T Kind Op Delta ghosts). p.to == b) ps) (filter (λ (p : Post T Kind Op Delta ghosts). p.to == b) (post ∷ []))
      ∙ ap (λ ms. messages_to ps b ++ ms) (last (post.to == b) ∙ ap (λ t. if t then post.message ∷ [] else []) (other_way post.to b))
    where
      last : (t : Bool) → map (λ (p : Post T Kind Op Delta ghosts). p.message) (if t then post ∷ [] else []) ≡ (if t then post.message ∷ [] else [])
      last true = refl
      last false = refl

      other_way : (m n : ℕ) → (m == n) ≡ (n == m)
      other_way m n = elim (eqb_tells m n) [ inl here ↦ here.0 ∙ sym (eq-eqb n m (sym here.1)) | inr other ↦ other.0 ∙ elim (eqb_tells n m) [ inl there ↦ absurd (other.1 (sym there.1)) | inr apart ↦ sym apart.0 ] ]

  pub sends_more : (ps : List (Post T Kind Op Delta ghosts)) (post : Post T Kind Op Delta ghosts) (l0 l1 l2 : Channels (Message T Kind Op Delta ghosts)) → Sends from ps l0 l1 → ChangesOne (extended (post.message ∷ [])) from post.to l1 l2 → Sends from (ps ++ post ∷ []) l0 l2
  sends_more ps post l0 l1 l2 sends changes a b =
      changes a b ∙ ap (λ o. if (a == from) && (b == post.to) then option_map (extended (post.message ∷ [])) o else o) (sends a b) ∙ go (a == from) (b == post.to)
      ∙ ap (λ ms. if a == from then option_map (extended ms) (channel_at l0 a b) else channel_at l0 a b) (sym (to_more ps post b))
    where
      go : (t u : Bool) → (if t && u then option_map (extended (post.message ∷ [])) (if t then option_map (extended (messages_to ps b)) (channel_at l0 a b) else channel_at l0 a b) else (if t then option_map (extended (messages_to ps b)) (channel_at l0 a b) else channel_at l0 a b))
          ≡ (if t then option_map (extended (messages_to ps b ++ (if u then post.message ∷ [] else []))) (channel_at l0 a b) else channel_at l0 a b)
      go true true = then_more (messages_to ps b) (post.message ∷ []) (channel_at l0 a b)
      go true false = ap (λ ms. option_map (extended ms) (channel_at l0 a b)) (sym (append-nil (messages_to ps b)))
      go false true = refl
      go false false = refl

pub sent_none : {T K Kind Delta : Type 0} {ghosts : Ghosts T Kind Op Delta} (keeping : Keeping K) (from : ℕ) (l : Channels (Message T Kind Op Delta ghosts)) → IsSent {keeping = keeping} (Some from) [] l l
sent_none keeping from l a b = go (a == from)
  where
    go : (t : Bool) → channel_at l a b ≡ (if t then option_map (extended []) (channel_at l a b) else channel_at l a b)
    go true = none_more (channel_at l a b)
    go false = refl

-- nine things, by number
pub nine : {C : Type 0} → (l0 l1 l2 l3 l4 l5 l6 l7 l8 : C) → ℕ → C
nine l0 l1 l2 l3 l4 l5 l6 l7 l8 zero = l0
nine l0 l1 l2 l3 l4 l5 l6 l7 l8 (suc zero) = l1
nine l0 l1 l2 l3 l4 l5 l6 l7 l8 (suc (suc zero)) = l2
nine l0 l1 l2 l3 l4 l5 l6 l7 l8 (suc (suc (suc zero))) = l3
nine l0 l1 l2 l3 l4 l5 l6 l7 l8 (suc (suc (suc (suc zero)))) = l4
nine l0 l1 l2 l3 l4 l5 l6 l7 l8 (suc (suc (suc (suc (suc zero))))) = l5
nine l0 l1 l2 l3 l4 l5 l6 l7 l8 (suc (suc (suc (suc (suc (suc zero)))))) = l6
nine l0 l1 l2 l3 l4 l5 l6 l7 l8 (suc (suc (suc (suc (suc (suc (suc zero))))))) = l7
nine l0 l1 l2 l3 l4 l5 l6 l7 l8 (suc (suc (suc (suc (suc (suc (suc (suc k)))))))) = l8

module _ {T K Kind Delta : Type 0} {ghosts : Ghosts T Kind Op Delta} {keeping : Keeping K} where
  pub sent_more : (from : ℕ) (es : List (EntryOf ghosts keeping)) (e : EntryOf ghosts keeping) (l0 l1 l2 : Channels (Message T Kind Op Delta ghosts)) → IsSent (Some from) es l0 l1 → Sends from e.output.posts l1 l2 → IsSent (Some from) (es ++ e ∷ []) l0 l2
  sent_more from es e l0 l1 l2 sent sends a b =
      sends a b ∙ ap (λ o. if a == from then option_map (extended (messages_to e.output.posts b)) o else o) (sent a b) ∙ go (a == from)
      ∙ ap (λ ms. if a == from then option_map (extended ms) (channel_at l0 a b) else channel_at l0 a b) (sym (flat_map-append (λ (x : EntryOf ghosts keeping). messages_to x.output.posts b) es (e ∷ []) ∙ ap (λ ms. sent_to b es ++ ms) (append-nil (messages_to e.output.posts b))))
    where
      go : (t : Bool) → (if t then option_map (extended (messages_to e.output.posts b)) (if t then option_map (extended (sent_to b es)) (channel_at l0 a b) else channel_at l0 a b) else (if t then option_map (extended (sent_to b es)) (channel_at l0 a b) else channel_at l0 a b))
          ≡ (if t then option_map (extended (sent_to b es ++ messages_to e.output.posts b)) (channel_at l0 a b) else channel_at l0 a b)
      go true = then_more (sent_to b es) (messages_to e.output.posts b) (channel_at l0 a b)
      go false = refl

  -- one place after another
  module _ (ids : ℕ → Option ℕ) (histories : ℕ → List (EntryOf ghosts keeping)) (l : ℕ → Channels (Message T Kind Op Delta ghosts)) (steps : (k : ℕ) → k < 8 → IsSent (ids k) (histories k) (l k) (l (suc k))) (a b : ℕ) where
    another : (o : Option ℕ) → o ≢ Some a → is_id o a ≡ false
    another None isnt = refl
    another (Some n) isnt = elim (eqb_tells a n) [ inl same ↦ absurd (isnt (ap Some (sym same.1))) | inr other ↦ other.0 ]

    this_one : (o : Option ℕ) → o ≡ Some a → is_id o a ≡ true
    this_one o is = ap (λ (q : Option ℕ). is_id q a) is ∙ eq-eqb a a refl

    kept : (n : ℕ) → n ≤ 8 → ((k : ℕ) → k < n → ids k ≢ Some a) → channel_at (l n) a b ≡ channel_at (l 0) a b
    kept zero few others = refl
    kept (suc n) few others =
        steps n (omega arith) a b ∙ ap (λ t. if t then option_map (extended (sent_to b (histories n))) (channel_at (l n) a b) else channel_at (l n) a b) (another (ids n) (others n (omega arith))) ∙ kept n (omega arith) (λ k less. others k (omega arith))

    changed : (place : ℕ) → ids place ≡ Some a → ((other : ℕ) → ids other ≡ Some a → other ≡ place) → (n : ℕ) → n ≤ 8 → place < n → channel_at (l n) a b ≡ option_map (extended (sent_to b (histories place))) (channel_at (l 0) a b)
    changed place here alone zero few within = absurd (omega arith)
    changed place here alone (suc n) few within = elim (eqb_tells place n) [
      | inl same ↦
          subst (λ k. channel_at (l (suc k)) a b ≡ option_map (extended (sent_to b (histories place))) (channel_at (l 0) a b)) same.1
          (steps place (let e = same.1 in omega arith) a b ∙ ap (λ t. if t then option_map (extended (sent_to b (histories place))) (channel_at (l place) a b) else channel_at (l place) a b) (this_one (ids place) here)
          ∙ ap (option_map (extended (sent_to b (histories place)))) (kept place (let e = same.1 in omega arith) (λ k less is. absurd (let e = alone k is in omega (arith, e, less)))))
      | inr other ↦
          steps n (omega arith) a b ∙ ap (λ t. if t then option_map (extended (sent_to b (histories n))) (channel_at (l n) a b) else channel_at (l n) a b) (another (ids n) (λ is. other.1 (sym (alone n is))))
          ∙ changed place here alone n (omega arith) (below place n within other.1)
    ]

  pub sent_by_all : (ids : ℕ → Option ℕ) (histories : ℕ → List (EntryOf ghosts keeping)) (l : ℕ → Channels (Message T Kind Op Delta ghosts)) → ((k : ℕ) → k < 8 → IsSent (ids k) (histories k) (l k) (l (suc k))) → AreSentByAll ids histories (l 0) (l 8)
  sent_by_all ids histories l steps = (
    (λ place a b small here alone. changed ids histories l steps a b place here alone 8 (omega arith) small),
    (λ a b nowhere. kept ids histories l steps a b 8 (omega arith) nowhere),
  )

  pub sent_by_eight : (ids : ℕ → Option ℕ) (histories : ℕ → List (EntryOf ghosts keeping)) (l0 l1 l2 l3 l4 l5 l6 l7 l8 : Channels (Message T Kind Op Delta ghosts)) → IsSent (ids 0) (histories 0) l0 l1 → IsSent (ids 1) (histories 1) l1 l2 → IsSent (ids 2) (histories 2) l2 l3 → IsSent (ids 3) (histories 3) l3 l4
      → IsSent (ids 4) (histories 4) l4 l5 → IsSent (ids 5) (histories 5) l5 l6 → IsSent (ids 6) (histories 6) l6 l7 → IsSent (ids 7) (histories 7) l7 l8 → AreSentByAll ids histories l0 l8
  unfolding nine
  sent_by_eight ids histories l0 l1 l2 l3 l4 l5 l6 l7 l8 s0 s1 s2 s3 s4 s5 s6 s7 = sent_by_all ids histories (nine l0 l1 l2 l3 l4 l5 l6 l7 l8) steps
    where
      steps : (k : ℕ) → k < 8 → IsSent (ids k) (histories k) (nine l0 l1 l2 l3 l4 l5 l6 l7 l8 k) (nine l0 l1 l2 l3 l4 l5 l6 l7 l8 (suc k))
      steps zero small = s0
      steps (suc zero) small = s1
      steps (suc (suc zero)) small = s2
      steps (suc (suc (suc zero))) small = s3
      steps (suc (suc (suc (suc zero)))) small = s4
      steps (suc (suc (suc (suc (suc zero))))) small = s5
      steps (suc (suc (suc (suc (suc (suc zero)))))) small = s6
      steps (suc (suc (suc (suc (suc (suc (suc zero))))))) small = s7
      steps (suc (suc (suc (suc (suc (suc (suc (suc k)))))))) small = absurd (omega (arith, small))

-- PASSED

module _ {M : Type 0} where
  -- a link is passed, where none was pending
  pub passed_idle : (n next : ℕ) (o : Option (Channel M)) → next ≡ next_on o → next ≡ count_on o → option_map (due_from (next + n)) o ≡ option_map (after_taken n) o
  passed_idle n next None e f = refl
  passed_idle n next (Some c) e f =
      let same : c.next ≡ length c.messages = sym e ∙ f in
      ap (λ m. Some (record { messages = c.messages; next = m })) (ap (λ m. m + n) e ∙ sym (ap (λ t. if t then c.next + n else c.next) (eq-eqb c.next (length c.messages) same)))

  pub not_passed : (n next : ℕ) (o : Option (Channel M)) → next ≡ next_on o → next ≢ count_on o → o ≡ option_map (after_taken n) o
  not_passed n next None e f = refl
  not_passed n next (Some c) e f = ap (λ m. Some (record { messages = c.messages; next = m })) (elim (eqb_tells c.next (length c.messages)) [ inl same ↦ absurd (f (e ∙ same.1)) | inr other ↦ sym (ap (λ t. if t then c.next + n else c.next) other.0) ])

-- who stands in a list
abbrev pub among : List Member → ℕ → Bool
among ms i = list_any (λ j. j == i) (map (λ (m : Member). m.identity) ms)

abbrev Rising : List Member → Type 0
Rising ms = AllPairs (λ (a b : Member). a.identity < b.identity) ms

among_more : (ms : List Member) (k : ℕ) (m : Member) (i : ℕ) → slice_get ms k ≡ Some m → among (take (suc k) ms) i ≡ (among (take k ms) i || (m.identity == i))
among_more [] k m i e = absurd (cc e)
among_more (x ∷ ms) zero m i e = let same : x ≡ m = cc e in ap (λ (y : Member). (y.identity == i) || false) same ∙ or_nothing (m.identity == i)
  where
    or_nothing : (t : Bool) → (t || false) ≡ t
    or_nothing true = refl
    or_nothing false = refl
among_more (x ∷ ms) (suc k) m i e = ap (λ t. (x.identity == i) || t) (among_more ms k m i e) ∙ grouped (x.identity == i) (among (take k ms) i) (m.identity == i)
  where
    grouped : (s t u : Bool) → (s || (t || u)) ≡ ((s || t) || u)
    grouped true t u = refl
    grouped false t u = refl

among_plus : (ms : List Member) (k : ℕ) (m : Member) (i : ℕ) → slice_get ms k ≡ Some m → among (take (k + 1) ms) i ≡ (among (take k ms) i || (m.identity == i))
among_plus ms k m i e = let one : k + 1 ≡ suc k = omega arith in ap (λ n. among (take n ms) i) one ∙ among_more ms k m i e

all_at : {X : Type 0} (P : X → Type 0) (xs : List X) (k : ℕ) (x : X) → All P xs → slice_get xs k ≡ Some x → P x
all_at P [] k x all e = absurd (cc e)
all_at P (y ∷ ys) zero x all e = subst P (cc e) (All-head P y ys all)
all_at P (y ∷ ys) (suc k) x all e = all_at P ys k x (All-tail P y ys all) e

-- an identity is none of those before it
not_before : (ms : List Member) (k : ℕ) (m : Member) → Rising ms → slice_get ms k ≡ Some m → among (take k ms) m.identity ≡ false
not_before [] k m rise e = absurd (cc e)
not_before (x ∷ ms) zero m rise e = refl
not_before (x ∷ ms) (suc k) m rise e =
    let less = all_at (λ (n : Member). x.identity < n.identity) ms k m (pairs_head (λ (a b : Member). a.identity < b.identity) x ms rise) e in
    elim (eqb_tells x.identity m.identity) [
      | inl same ↦ absurd (let s = same.1 in omega arith)
      | inr other ↦ ap (λ t. t || among (take k ms) m.identity) other.0 ∙ not_before ms k m (pairs_tail (λ (a b : Member). a.identity < b.identity) x ms rise) e
    ]

-- the member at an index is found by its identity
found_at : (ms : List Member) (k : ℕ) (m : Member) → Rising ms → slice_get ms k ≡ Some m → find (λ (n : Member). n.identity == m.identity) ms ≡ Some m
found_at [] k m rise e = absurd (cc e)
found_at (x ∷ ms) zero m rise e = let same : x ≡ m = cc e in ap (λ t. if t then Some x else find (λ (n : Member). n.identity == m.identity) ms) (eq-eqb x.identity m.identity (ap (λ (n : Member). n.identity) same)) ∙ e
found_at (x ∷ ms) (suc k) m rise e =
    let less = all_at (λ (n : Member). x.identity < n.identity) ms k m (pairs_head (λ (a b : Member). a.identity < b.identity) x ms rise) e in
    elim (eqb_tells x.identity m.identity) [
      | inl same ↦ absurd (let s = same.1 in omega arith)
      | inr other ↦ ap (λ t. if t then Some x else find (λ (n : Member). n.identity == m.identity) ms) other.0 ∙ found_at ms k m (pairs_tail (λ (a b : Member). a.identity < b.identity) x ms rise) e
    ]

pub seat_at : (view : View) (sound : IsView view) (k : ℕ) (m : Member) → slice_get view.members k ≡ Some m → seat_of view m.identity ≡ Some m.place
seat_at view sound k m e = ap (option_map (λ (n : Member). n.place)) (found_at view.members k m sound.rising e)

pub place_at : (view : View) (sound : IsView view) (k : ℕ) (m : Member) → slice_get view.members k ≡ Some m → m.place < 8
place_at view sound k m e = all_at (λ (n : Member). n.place < 8) view.members k m sound.places e

module _ {T K Kind Delta : Type 0} {ghosts : Ghosts T Kind Op Delta} {keeping : Keeping K} where
  -- the links to one identity from the first members
  abbrev pub ArePassedFirst : View → ℕ → ℕ → List (EntryOf ghosts keeping) → Channels (Message T Kind Op Delta ghosts) → Channels (Message T Kind Op Delta ghosts) → Type 0
  ArePassedFirst view k to es old new = (a b : ℕ) → channel_at new a b ≡ (if (b == to) && among (take k view.members) a then option_map (after_taken (length (taken_from a es))) (channel_at old a b) else channel_at old a b)

  -- the links to the first members
  abbrev pub AllPassedFirst : View → ℕ → (ℕ → List (EntryOf ghosts keeping)) → Channels (Message T Kind Op Delta ghosts) → Channels (Message T Kind Op Delta ghosts) → Type 0
  AllPassedFirst view k histories old new =
      (a b : ℕ) → channel_at new a b ≡ (if among (take k view.members) b && is_member view a then option_map (after_taken (length (taken_from a (history_of view histories b)))) (channel_at old a b) else channel_at old a b)

module _ {T K Kind Delta : Type 0} {ghosts : Ghosts T Kind Op Delta} {keeping : Keeping K} (view : View) (sound : IsView view) where
  pub passed_first : (to : ℕ) (es : List (EntryOf ghosts keeping)) (l : Channels (Message T Kind Op Delta ghosts)) → ArePassedFirst {keeping = keeping} view 0 to es l l
  passed_first to es l a b = go (b == to)
    where
      go : (t : Bool) → channel_at l a b ≡ (if t && false then option_map (after_taken (length (taken_from a es))) (channel_at l a b) else channel_at l a b)
      go true = refl
      go false = refl

  pub passed_more : (k to : ℕ) (m : Member) → slice_get view.members k ≡ Some m → (es : List (EntryOf ghosts keeping)) (l0 l1 l2 : Channels (Message T Kind Op Delta ghosts)) → ArePassedFirst view k to es l0 l1
      → ChangesOne (after_taken (length (taken_from m.identity es))) m.identity to l1 l2 → ArePassedFirst view (k + 1) to es l0 l2
  passed_more k to m e es l0 l1 l2 so_far changes a b = elim (eqb_tells a m.identity) [
    | inl here ↦
        let none : among (take k view.members) a ≡ false = ap (among (take k view.members)) here.1 ∙ not_before view.members k m sound.rising e in
        let all : among (take (k + 1) view.members) a ≡ true = among_plus view.members k m a e ∙ ap (λ t. t || (m.identity == a)) none ∙ eq-eqb m.identity a (sym here.1) in
        changes a b ∙ ap (λ t. if t && (b == to) then option_map (after_taken (length (taken_from m.identity es))) (channel_at l1 a b) else channel_at l1 a b) here.0
        ∙ ap (λ o. if b == to then option_map (after_taken (length (taken_from m.identity es))) o else o) (so_far a b ∙ ap (λ t. if (b == to) && t then option_map (after_taken (length (taken_from a es))) (channel_at l0 a b) else channel_at l0 a b) none ∙ neither (b == to))
        ∙ ap (λ i. if b == to then option_map (after_taken (length (taken_from i es))) (channel_at l0 a b) else channel_at l0 a b) (sym here.1)
        ∙ sym (ap (λ t. if (b == to) && t then option_map (after_taken (length (taken_from a es))) (channel_at l0 a b) else channel_at l0 a b) all ∙ both (b == to))
    | inr other ↦
        let same : among (take (k + 1) view.members) a ≡ among (take k view.members) a = among_plus view.members k m a e ∙ ap (λ t. among (take k view.members) a || t) (apart a m.identity other.1) ∙ or_nothing (among (take k view.members) a) in
        changes a b ∙ ap (λ t. if t && (b == to) then option_map (after_taken (length (taken_from m.identity es))) (channel_at l1 a b) else channel_at l1 a b) other.0 ∙ so_far a b
        ∙ ap (λ t. if (b == to) && t then option_map (after_taken (length (taken_from a es))) (channel_at l0 a b) else channel_at l0 a b) (sym same)
  ]
    where
      neither : (t : Bool) → (if t && false then option_map (after_taken (length (taken_from a es))) (channel_at l0 a b) else channel_at l0 a b) ≡ channel_at l0 a b
      neither true = refl
      neither false = refl

      both : (t : Bool) → (if t && true then option_map (after_taken (length (taken_from a es))) (channel_at l0 a b) else channel_at l0 a b) ≡ (if t then option_map (after_taken (length (taken_from a es))) (channel_at l0 a b) else channel_at l0 a b)
      both true = refl
      both false = refl

      or_nothing : (t : Bool) → (t || false) ≡ t
      or_nothing true = refl
      or_nothing false = refl

      apart : (i j : ℕ) → i ≢ j → (j == i) ≡ false
      apart i j isnt = elim (eqb_tells j i) [ inl there ↦ absurd (isnt (sym there.1)) | inr away ↦ away.0 ]

  pub all_passed_more : (k : ℕ) (m : Member) → slice_get view.members k ≡ Some m → (histories : ℕ → List (EntryOf ghosts keeping)) (l0 l1 l2 : Channels (Message T Kind Op Delta ghosts)) → AllPassedFirst view k histories l0 l1
      → ArePassedTo view m.identity (histories m.place) l1 l2 → AllPassedFirst view (k + 1) histories l0 l2
  all_passed_more k m e histories l0 l1 l2 so_far passes a b = elim (eqb_tells b m.identity) [
    | inl here ↦
        let none : among (take k view.members) b ≡ false = ap (among (take k view.members)) here.1 ∙ not_before view.members k m sound.rising e in
        let all : among (take (k + 1) view.members) b ≡ true = among_plus view.members k m b e ∙ ap (λ t. t || (m.identity == b)) none ∙ eq-eqb m.identity b (sym here.1) in
        let its : histories m.place ≡ history_of view histories b = sym (ap (λ o. elim o [ None ↦ [] | Some place ↦ histories place ]) (ap (seat_of view) here.1 ∙ seat_at view sound k m e)) in
        passes a b ∙ ap (λ t. if t && is_member view a then option_map (after_taken (length (taken_from a (histories m.place)))) (channel_at l1 a b) else channel_at l1 a b) here.0
        ∙ ap (λ o. if is_member view a then option_map (after_taken (length (taken_from a (histories m.place)))) o else o) (so_far a b ∙ ap (λ t. if t && is_member view a then option_map (after_taken (length (taken_from a (history_of view histories b)))) (channel_at l0 a b) else channel_at l0 a b) none)
        ∙ ap (λ (es : List (EntryOf ghosts keeping)). if is_member view a then option_map (after_taken (length (taken_from a es))) (channel_at l0 a b) else channel_at l0 a b) its
        ∙ sym (ap (λ t. if t && is_member view a then option_map (after_taken (length (taken_from a (history_of view histories b)))) (channel_at l0 a b) else channel_at l0 a b) all)
    | inr other ↦
        let same : among (take (k + 1) view.members) b ≡ among (take k view.members) b = among_plus view.members k m b e ∙ ap (λ t. among (take k view.members) b || t) (apart b m.identity other.1) ∙ or_nothing (among (take k view.members) b) in
        passes a b ∙ ap (λ t. if t && is_member view a then option_map (after_taken (length (taken_from a (histories m.place)))) (channel_at l1 a b) else channel_at l1 a b) other.0 ∙ so_far a b
        ∙ ap (λ t. if t && is_member view a then option_map (after_taken (length (taken_from a (history_of view histories b)))) (channel_at l0 a b) else channel_at l0 a b) (sym same)
  ]
    where
      or_nothing : (t : Bool) → (t || false) ≡ t
      or_nothing true = refl
      or_nothing false = refl

      apart : (i j : ℕ) → i ≢ j → (j == i) ≡ false
      apart i j isnt = elim (eqb_tells j i) [ inl there ↦ absurd (isnt (sym there.1)) | inr away ↦ away.0 ]

module _ {T K Kind Delta : Type 0} {ghosts : Ghosts T Kind Op Delta} {keeping : Keeping K} (view : View) (k : ℕ) (whole : length view.members ≤ k) where
  pub passed_whole : (to : ℕ) (es : List (EntryOf ghosts keeping)) (old new : Channels (Message T Kind Op Delta ghosts)) → ArePassedFirst view k to es old new → ArePassedTo view to es old new
  passed_whole to es old new passed a b = passed a b ∙ ap (λ ms. if (b == to) && among ms a then option_map (after_taken (length (taken_from a es))) (channel_at old a b) else channel_at old a b) (take_all k view.members whole)

  pub all_passed_whole : (histories : ℕ → List (EntryOf ghosts keeping)) (old new : Channels (Message T Kind Op Delta ghosts)) → AllPassedFirst view k histories old new → ArePassed view histories old new
  all_passed_whole histories old new passed a b = passed a b ∙ ap (λ ms. if among ms b && is_member view a then option_map (after_taken (length (taken_from a (history_of view histories b)))) (channel_at old a b) else channel_at old a b) (take_all k view.members whole)

-- an item of a list, by what it was read as
pub read_at : {X : Type 0} (xs ys : List X) (k : ℕ) (x : X) → k < length xs → x ≡ get_or xs k x → xs ≡ ys → slice_get ys k ≡ Some x
read_at xs ys k x within is same = ap (λ (zs : List _). slice_get zs k) (sym same) ∙ slice_get-get_or xs k x within ∙ ap Some (sym is)

-- one link is passed, where none was pending
pub passes_idle : {M : Type 0} (from to n m next : ℕ) (old new : Channels M) → next ≡ next_on (channel_at old from to) → next ≡ count_on (channel_at old from to) → n ≡ m → ChangesOne (due_from (next + n)) from to old new → ChangesOne (after_taken m) from to old new
passes_idle from to n m next old new is idle same changes a b = changes a b ∙ elim (eqb_tells a from) [
  | inl here ↦ elim (eqb_tells b to) [
    | inl there ↦
        let o : channel_at old a b ≡ channel_at old from to = ap (λ i. channel_at old i b) here.1 ∙ ap (λ i. channel_at old from i) there.1 in
        ap (λ t. if t then option_map (due_from (next + n)) (channel_at old a b) else channel_at old a b) (ap (λ t. t && (b == to)) here.0 ∙ there.0)
        ∙ passed_idle n next (channel_at old a b) (is ∙ ap next_on (sym o)) (idle ∙ ap count_on (sym o)) ∙ ap (λ k. option_map (after_taken k) (channel_at old a b)) same
        ∙ sym (ap (λ t. if t then option_map (after_taken m) (channel_at old a b) else channel_at old a b) (ap (λ t. t && (b == to)) here.0 ∙ there.0))
    | inr apart ↦
        let f : ((a == from) && (b == to)) ≡ false = ap (λ t. t && (b == to)) here.0 ∙ apart.0 in
        ap (λ t. if t then option_map (due_from (next + n)) (channel_at old a b) else channel_at old a b) f ∙ sym (ap (λ t. if t then option_map (after_taken m) (channel_at old a b) else channel_at old a b) f)
  ]
  | inr other ↦
      let f : ((a == from) && (b == to)) ≡ false = ap (λ t. t && (b == to)) other.0 in
      ap (λ t. if t then option_map (due_from (next + n)) (channel_at old a b) else channel_at old a b) f ∙ sym (ap (λ t. if t then option_map (after_taken m) (channel_at old a b) else channel_at old a b) f)
]

-- A HISTORY THAT TAKES NOTHING

taken_nothing : {M : Type 0} (o : Option (Channel M)) → o ≡ option_map (after_taken 0) o
taken_nothing None = refl
taken_nothing (Some c) = ap (λ n. Some (record { messages = c.messages; next = n })) (same (c.next == length c.messages))
  where
    same : (t : Bool) → c.next ≡ (if t then c.next + 0 else c.next)
    same true = omega arith
    same false = refl

pub takes_nothing : {T Kind Delta : Type 0} {ghosts : Ghosts T Kind Op Delta} (input : Input T Kind Op Delta ghosts) → ((from : ℕ) (message : Message T Kind Op Delta ghosts) → input ≡ form.Take from message → ⊥) → (from : ℕ) → takes_of from input ≡ []
takes_nothing (form.Take sender message) other from = absurd (other sender message refl)
takes_nothing input other from = refl

module _ {T K Kind Delta : Type 0} {ghosts : Ghosts T Kind Op Delta} {keeping : Keeping K} where
  none_taken : (es : List (EntryOf ghosts keeping)) → All (TakesNothing {keeping = keeping}) es → (from : ℕ) → taken_from from es ≡ []
  none_taken [] all from = refl
  none_taken (e ∷ es) all from = ap (λ ms. ms ++ taken_from from es) ((All-head (TakesNothing {keeping = keeping}) e es all).none from) ∙ none_taken es (All-tail (TakesNothing {keeping = keeping}) e es all) from

  pub passed_none : (view : View) (to : ℕ) (es : List (EntryOf ghosts keeping)) (l : Channels (Message T Kind Op Delta ghosts)) → All (TakesNothing {keeping = keeping}) es → ArePassedTo view to es l l
  passed_none view to es l all a b = go ((b == to) && is_member view a)
    where
      go : (t : Bool) → channel_at l a b ≡ (if t then option_map (after_taken (length (taken_from a es))) (channel_at l a b) else channel_at l a b)
      go true = taken_nothing (channel_at l a b) ∙ ap (λ ms. option_map (after_taken (length ms)) (channel_at l a b)) (sym (none_taken es all a))
      go false = refl

pub passes_not : {M : Type 0} (from to m next : ℕ) (old : Channels M) → next ≡ next_on (channel_at old from to) → next ≢ count_on (channel_at old from to) → ChangesOne (after_taken m) from to old old
passes_not from to m next old is pending a b = elim (eqb_tells a from) [
  | inl here ↦ elim (eqb_tells b to) [
    | inl there ↦
        let o : channel_at old a b ≡ channel_at old from to = ap (λ i. channel_at old i b) here.1 ∙ ap (λ i. channel_at old from i) there.1 in
        not_passed m next (channel_at old a b) (is ∙ ap next_on (sym o)) (λ e. pending (e ∙ ap count_on o)) ∙ sym (ap (λ t. if t then option_map (after_taken m) (channel_at old a b) else channel_at old a b) (ap (λ t. t && (b == to)) here.0 ∙ there.0))
    | inr apart ↦ sym (ap (λ t. if t then option_map (after_taken m) (channel_at old a b) else channel_at old a b) (ap (λ t. t && (b == to)) here.0 ∙ apart.0))
  ]
  | inr other ↦ sym (ap (λ t. if t then option_map (after_taken m) (channel_at old a b) else channel_at old a b) (ap (λ t. t && (b == to)) other.0))
]

pub all_yielded : {A : Type 0} (xs ys : List A) → map (λ (x : A). x) xs ≡ ys → xs ≡ ys
all_yielded {A = A} xs ys e = sym (same xs) ∙ e
  where
    same : (zs : List A) → map (λ (x : A). x) zs ≡ zs
    same [] = refl
    same (z ∷ zs) = ap (λ ws. z ∷ ws) (same zs)

-- one entry more of a history
pub taken_more : {T K Kind Delta : Type 0} {ghosts : Ghosts T Kind Op Delta} {keeping : Keeping K} (from : ℕ) (es : List (EntryOf ghosts keeping)) (k : ℕ) (e : EntryOf ghosts keeping) → slice_get es k ≡ Some e → length (taken_from from (take (suc k) es)) ≡ length (taken_from from (take k es)) + length (takes_of from e.input)
taken_more from [] k e is = absurd (cc is)
taken_more {ghosts = ghosts} {keeping = keeping} from (x ∷ es) zero e is =
    let same : x ≡ e = cc is in ap (λ (y : EntryOf ghosts keeping). length (takes_of from y.input ++ [])) same ∙ ap length (append-nil (takes_of from e.input)) ∙ (let z : length (takes_of from e.input) ≡ 0 + length (takes_of from e.input) = omega arith in z)
taken_more from (x ∷ es) (suc k) e is =
    let more = taken_more from es k e is in
    let a = length-append (takes_of from x.input) (taken_from from (take (suc k) es)) in
    let b = length-append (takes_of from x.input) (taken_from from (take k es)) in
    omega (arith, more, a, b)
