-- What a session knows, in the terms of the model: of each member's history the first entries.
--     known_of        how many
--     IsGround        the histories of a section, in the program and in the model
--     knows_by, knows_taken, hears        what is known of stamps, and what a turn makes heard
use Rattle.std.proofs.Common.{◌≡◌, ℕ, zero, suc, ◌<◌, ◌≤◌, List, [], ◌∷◌, length, refl, sym, ap, subst, ◌∙◌, arith, Bool, true, false, Option, Some, length-append}
use Rattle.std.specs.Prelude.{take, slice_get, IsTrue, IsFalse}
use Rattle.std.specs.List.{AllZip}
use mathlib.Core.List.{IsPrefix}
use Rattle.model_members.specs.View.{is_member, place_of}
use Rattle.model_members.specs.World as worlds
use Rattle.theorem_sections.specs.Histories as model
use Rattle.theorem_sections.specs.Histories.{posted_to, taken_from, AreHistories}
use Rattle.theorem_sections.specs.Knowing.{IsKnownBy, KnowsTaken}
use Rattle.model_kinds.specs.declared.operation.Op.{Op}
use Rattle.model_kinds.specs.declared.shown.Shown.{Shown}
use Rattle.data_lattice.specs.declared.replica.Replica.{Ghosts}
use Rattle.data_lattice.specs.declared.spelled.SpelledData.{Ghosts as Spelling}
use Rattle.member_keeper.specs.declared.keeper.Keeper.{Ghosts as Keeping}
use Rattle.thread_cell.specs.Lists.{at}
use Rattle.thread_cell.specs.Stamps.{IsTimed}
use Rattle.member_node.specs.Steps.{replication}
use Rattle.member_messages.specs.declared.message.Message.{Message}
use Rattle.member_node.specs.declared.reply.Output.{Output}
use Rattle.thread_cluster.specs.Messages.{messages_to, messages_of}
use Rattle.thread_cluster.specs.Passing.{Passed, posts, takes, AreAllHeard}
use Rattle.thread_cluster.proofs.Lists.{get_within, get_there, take_whole}
use Rattle.thread_cluster.proofs.Posts.{posts_begin}
use Rattle.thread_run_order.specs.Images.{EntryOf, IsImage}
use Rattle.thread_section.proofs.Counts.{code_posts, code_takes, counts_posts, counts_takes, first_images, source_at}

-- LISTS

pub prefix_length : {X : Type 0} (xs ys : List X) → IsPrefix xs ys → length xs ≤ length ys
prefix_length xs ys begin = let a = length-append xs begin.0 in let b = ap length begin.1 in omega (arith, a, b)

pub take_prefix : {X : Type 0} (xs ys : List X) → IsPrefix xs ys → take (length xs) ys ≡ xs
take_prefix xs ys begin = ap (take (length xs)) (sym begin.1) ∙ take_whole xs begin.0

-- fewer of the first
pub take_less : {X : Type 0} (n m : ℕ) (xs : List X) → n ≤ m → IsPrefix (take n xs) (take m xs)
take_less zero m xs h = (take m xs, refl)
take_less (suc n) zero xs h = absurd (omega (arith, h))
take_less (suc n) (suc m) [] h = ([], refl)
take_less (suc n) (suc m) (x ∷ xs) h = let later = take_less n m xs (omega (arith, h)) in (later.0, ap (λ ys. x ∷ ys) later.1)

pub take_begins : {X : Type 0} (n : ℕ) (xs ys : List X) → IsPrefix xs ys → n ≤ length xs → IsPrefix (take n ys) xs
take_begins n xs ys begin h = subst (IsPrefix (take n ys)) (take_prefix xs ys begin) (take_less n (length xs) ys h)

pub taken_at : {X : Type 0} (n k : ℕ) (xs : List X) (x : X) → k < n → slice_get xs k ≡ Some x → slice_get (take n xs) k ≡ Some x
taken_at zero k xs x h e = absurd (omega (arith, h))
taken_at (suc n) k [] x h e = absurd (cc e)
taken_at (suc n) zero (y ∷ xs) x h e = e
taken_at (suc n) (suc k) (y ∷ xs) x h e = taken_at n k xs x (omega (arith, h)) e

pub from_take : {X : Type 0} (n k : ℕ) (xs : List X) (x : X) → slice_get (take n xs) k ≡ Some x → slice_get xs k ≡ Some x
from_take zero k xs x e = absurd (cc e)
from_take (suc n) k [] x e = absurd (cc e)
from_take (suc n) zero (y ∷ xs) x e = e
from_take (suc n) (suc k) (y ∷ xs) x e = from_take n k xs x e

pub heard_count : {X : Type 0} (ps ts : List (Passed X)) → AreAllHeard ps ts → length ps ≤ length ts
heard_count [] ts heard = omega arith
heard_count (p ∷ ps) ts heard =
    let last = get_there (p ∷ ps) (length ps) (omega arith) in
    let it = heard.each (length ps) last.0 last.1 in
    let a = get_within ts (length ps) it.0 it.1 in
    omega (arith, a)

module _ {T K Kind Delta : Type 0} {ghosts : Ghosts T Kind Op Delta} {keeping : Keeping K} (spelling : Spelling T Kind Op Delta) (world : worlds.World Kind Op Shown) (ids : ℕ → Option ℕ) where
  -- the same histories, by place in the program and by identity in the model
  pub record IsGround (h : ℕ → List (EntryOf ghosts keeping)) (histories : ℕ → List (model.Entry Op Shown)) : Type 0 where
    pub seats : (p i : ℕ) → ids p ≡ Some i → place_of world.view i ≡ p
    pub members : (p i : ℕ) → ids p ≡ Some i → IsTrue (is_member world.view i)
    pub seated : (i : ℕ) → IsTrue (is_member world.view i) → ids (place_of world.view i) ≡ Some i
    pub images : (p i : ℕ) → ids p ≡ Some i → AllZip IsImage (h p) (histories i)
    pub strangers : (i : ℕ) → IsFalse (is_member world.view i) → histories i ≡ []
    pub all : AreHistories (replication ghosts spelling) world histories

  -- how many entries of each member are known
  abbrev pub known_of : List (List (EntryOf ghosts keeping)) → ℕ → ℕ
  known_of known i = length (at known (place_of world.view i))

  -- what is known are beginnings of these histories
  abbrev pub AreBeginnings : (ℕ → List (EntryOf ghosts keeping)) → List (List (EntryOf ghosts keeping)) → Type 0
  AreBeginnings h known = (p : ℕ) → IsPrefix (at known p) (h p)

  module _ (h : ℕ → List (EntryOf ghosts keeping)) (histories : ℕ → List (model.Entry Op Shown)) (ground : IsGround h histories) where
    abbrev post : ℕ → Output T Kind Op Delta ghosts → List (Message T Kind Op Delta ghosts)
    post id output = messages_to id output.posts

    known_at : (known : List (List (EntryOf ghosts keeping))) (p i : ℕ) → ids p ≡ Some i → known_of known i ≡ length (at known p)
    known_at known p i here = ap (λ q. length (at known q)) (ground.seats p i here)

    pub known_images : (known : List (List (EntryOf ghosts keeping))) (p i : ℕ) → AreBeginnings h known → ids p ≡ Some i → AllZip IsImage (at known p) (take (known_of known i) (histories i))
    known_images known p i begins here =
        subst (λ n. AllZip IsImage (at known p) (take n (histories i))) (sym (known_at known p i here))
        (subst (λ es. AllZip IsImage es (take (length (at known p)) (histories i))) (take_prefix (at known p) (h p) (begins p)) (first_images (length (at known p)) (h p) (histories i) (ground.images p i here)))

    -- so many first entries posted no more than those that are known
    pub posted_before : (known : List (List (EntryOf ghosts keeping))) (count p i j : ℕ) → AreBeginnings h known → ids p ≡ Some i → count ≤ length (at known p) → length (posted_to j (take count (histories i))) ≤ code_posts j (at known p)
    posted_before known count p i j begins here few =
        let a = counts_posts j (take count (h p)) (take count (histories i)) (first_images count (h p) (histories i) (ground.images p i here)) in
        let b = prefix_length (posts post (Some j) (take count (h p))) (posts post (Some j) (at known p)) (posts_begin post messages_of (Some j) (take count (h p)) (at known p) (take_begins count (at known p) (h p) (begins p) few)) in
        omega (arith, a, b)

    pub taken_now : (known : List (List (EntryOf ghosts keeping))) (i q j : ℕ) → AreBeginnings h known → ids q ≡ Some j → length (taken_from i (take (known_of known j) (histories j))) ≡ code_takes i (at known q)
    taken_now known i q j begins here = sym (counts_takes i (at known q) (take (known_of known j) (histories j)) (known_images known q j begins here))

    -- what was known of one member's posts to another is later known to be taken
    pub hears : (a b : List (List (EntryOf ghosts keeping))) (p q i j count : ℕ) → AreBeginnings h a → AreBeginnings h b → ids p ≡ Some i → ids q ≡ Some j
        → AreAllHeard (posts post (ids q) (at a p)) (takes messages_of (ids p) (at b q)) → count ≤ length (at a p) → KnowsTaken (replication ghosts spelling) world histories i count j (known_of b)
    hears a b p q i j count begun later here there heard few =
        let x = posted_before a count p i j begun here few in
        let y = subst (λ o. length (posts post o (at a p)) ≤ length (takes messages_of (Some i) (at b q))) there
        (subst (λ o. length (posts post (ids q) (at a p)) ≤ length (takes messages_of o (at b q))) here (heard_count (posts post (ids q) (at a p)) (takes messages_of (ids p) (at b q)) heard)) in
        let z = taken_now b i q j later there in
        omega (arith, x, y, z)

    -- stamps of what is known
    pub knows_by : (known : List (List (EntryOf ghosts keeping))) (stamp : ℕ) → AreBeginnings h known → IsTimed known stamp → IsKnownBy (replication ghosts spelling) world histories (known_of known) stamp
    knows_by known stamp begins timed i k m stands early = by (is_member world.view i) refl
      where
        by : (b : Bool) → is_member world.view i ≡ b → m.stamp ≤ stamp
        by false is = absurd (let none = subst (λ ms. slice_get ms k ≡ Some m) (ground.strangers i is) stands in cc none)
        by true is =
            let p = place_of world.view i in
            let here = ground.seated i is in
            let it = source_at k (at known p) (take (known_of known i) (histories i)) m (known_images known p i begins here) (taken_at (known_of known i) k (histories i) m early stands) in
            let a = timed.at_least p k it.0 it.1 in let b = it.2.stamp in omega (arith, a, b)
