-- Post books: what a place posted to each other one and heard of it, without a walk over its history.
--     capped, one_if        a count as far as it is kept, and 1 where it is so
--     if_any, postings_from        the entries that posted something, each with how many messages were posted before it
--     IsPage, IsBook        what a book has is what a walk over the history would give
--     IsBlank, AreBlank, AreIds        a book of a history without entries
--     IsSamePage, IsSameBook, HasRoom, HaveRoom        a book that takes memory
--     IsWritten, AreWritten        a book that is told of an entry
--     counts_of, IsAllHeard, IsUnheard        the numbers of a book, and what they tell of two places
--     IsCounted, WasCounted, AreCounted, WereCounted        they are those of what is known
--     unheard_from, unheard_to, unheard_of, unheard        how many messages aren't heard
use Rattle.std.specs.Prelude.{◌≡◌, ℕ, zero, suc, ◌+◌, ◌-◌, ◌^◌, ◌<◌, ◌≤◌, ◌==◌, min, if◌then◌else◌, Bool, false, List, [], ◌∷◌, ◌++◌, length, slice_get, slice_index, vec_len, vec_capacity, Option, Some, is_some}
use Rattle.thread_machine.specs.declared.entry.Entry.{Entry}
use Rattle.thread_cell.specs.Lists.{at}
use Rattle.thread_cluster.specs.declared.book.Page.{Page}
use Rattle.thread_cluster.specs.declared.book.Book.{Book}
use Rattle.thread_cluster.specs.declared.book.Counts.{Counts}
use Rattle.thread_cluster.specs.declared.places.Identities.{Identities}
use Rattle.thread_cluster.specs.Passing.{at_one, posts, takes, Hears}
use Rattle.thread_cluster.specs.Knowing.{KnowsMore}

-- a count, up to the greatest one that is kept
abbrev pub capped : ℕ → ℕ
capped n = min n (2 ^ 64 - 1)

abbrev pub one_if : Bool → ℕ
one_if b = if b then 1 else 0

-- the item, where the count isn't 0
abbrev pub if_any : {A : Type 0} → ℕ → A → List A → List A
if_any zero x xs = xs
if_any (suc n) x xs = x ∷ xs

-- The entries from an index on that posted something: of each the index, and how many messages were posted before it
abbrev pub postings_from : {E X : Type 0} → (E → List X) → ℕ → ℕ → List E → List (ℕ × ℕ)
postings_from each index before [] = []
postings_from each index before (e ∷ es) = if_any (length (each e)) (index, capped before) (postings_from each (suc index) (before + length (each e)) es)

-- the receiver heard as many of the sender's messages as these numbers tell of
pub record IsAllHeard (all : List Counts) (from to : ℕ) : Type 0 where
  pub each : (here there : Counts) → slice_get all from ≡ Some here → slice_get all to ≡ Some there → slice_index here.posted to ≤ slice_index there.heard from

-- the receiver heard so many of the sender's messages, by these numbers
pub record IsUnheard (all : List Counts) (from to number : ℕ) : Type 0 where
  pub there : Counts
  pub stands : slice_get all to ≡ Some there
  pub number_is : number ≡ slice_index there.heard from

-- a page of a history without entries
pub record IsBlank (peer : Option ℕ) (page : Page) : Type 0 where
  pub peer_is : page.id ≡ peer
  pub posted_is : page.posted ≡ 0
  pub postings_are : page.postings.items ≡ []
  pub heard_is : page.heard ≡ 0

pub record AreBlank (ids : Identities) (book : Book) : Type 0 where
  pub p0 : IsBlank ids.p0 book.p0
  pub p1 : IsBlank ids.p1 book.p1
  pub p2 : IsBlank ids.p2 book.p2
  pub p3 : IsBlank ids.p3 book.p3
  pub p4 : IsBlank ids.p4 book.p4
  pub p5 : IsBlank ids.p5 book.p5
  pub p6 : IsBlank ids.p6 book.p6
  pub p7 : IsBlank ids.p7 book.p7

-- these are the identities of the places
pub record AreIds (ids : ℕ → Option ℕ) (given : Identities) : Type 0 where
  pub p0 : ids 0 ≡ given.p0
  pub p1 : ids 1 ≡ given.p1
  pub p2 : ids 2 ≡ given.p2
  pub p3 : ids 3 ≡ given.p3
  pub p4 : ids 4 ≡ given.p4
  pub p5 : ids 5 ≡ given.p5
  pub p6 : ids 6 ≡ given.p6
  pub p7 : ids 7 ≡ given.p7
  pub within : (p : ℕ) → 8 ≤ p → is_some (ids p) ≡ false

-- both pages say the same
pub record IsSamePage (old new : Page) : Type 0 where
  pub peer_is : new.id ≡ old.id
  pub posted_is : new.posted ≡ old.posted
  pub postings_are : new.postings.items ≡ old.postings.items
  pub heard_is : new.heard ≡ old.heard

pub record IsSameBook (old new : Book) : Type 0 where
  pub p0 : IsSamePage old.p0 new.p0
  pub p1 : IsSamePage old.p1 new.p1
  pub p2 : IsSamePage old.p2 new.p2
  pub p3 : IsSamePage old.p3 new.p3
  pub p4 : IsSamePage old.p4 new.p4
  pub p5 : IsSamePage old.p5 new.p5
  pub p6 : IsSamePage old.p6 new.p6
  pub p7 : IsSamePage old.p7 new.p7

-- there is memory for one posting more
pub record HasRoom (page : Page) : Type 0 where
  pub room : vec_len page.postings < vec_capacity page.postings

pub record HaveRoom (book : Book) : Type 0 where
  pub p0 : HasRoom book.p0
  pub p1 : HasRoom book.p1
  pub p2 : HasRoom book.p2
  pub p3 : HasRoom book.p3
  pub p4 : HasRoom book.p4
  pub p5 : HasRoom book.p5
  pub p6 : HasRoom book.p6
  pub p7 : HasRoom book.p7

module _ {O X : Type 0} (posted : ℕ → O → List X) (index : ℕ) where
  -- a page that is told of the entry of an index: whether it took a message of the peer, and what it put out
  pub record IsWritten (takes : Bool) (output : O) (old new : Page) : Type 0 where
    pub peer_is : new.id ≡ old.id
    pub none_posted : length (at_one posted old.id output) ≡ 0 → new.posted ≡ old.posted
    pub some_posted : 0 < length (at_one posted old.id output) → new.posted ≡ capped (old.posted + length (at_one posted old.id output))
    pub postings_are : new.postings.items ≡ old.postings.items ++ if_any (length (at_one posted old.id output)) (index, old.posted) []
    pub heard_is : new.heard ≡ capped (old.heard + one_if takes)

  -- so is each; it took a message of the member at one place, or of none
  pub record AreWritten (from : ℕ) (output : O) (old new : Book) : Type 0 where
    pub p0 : IsWritten (from == 0) output old.p0 new.p0
    pub p1 : IsWritten (from == 1) output old.p1 new.p1
    pub p2 : IsWritten (from == 2) output old.p2 new.p2
    pub p3 : IsWritten (from == 3) output old.p3 new.p3
    pub p4 : IsWritten (from == 4) output old.p4 new.p4
    pub p5 : IsWritten (from == 5) output old.p5 new.p5
    pub p6 : IsWritten (from == 6) output old.p6 new.p6
    pub p7 : IsWritten (from == 7) output old.p7 new.p7

-- the numbers of a book, by place
abbrev pub counts_of : Book → Counts
counts_of book = record {
  posted = book.p0.posted ∷ book.p1.posted ∷ book.p2.posted ∷ book.p3.posted ∷ book.p4.posted ∷ book.p5.posted ∷ book.p6.posted ∷ book.p7.posted ∷ [];
  heard = book.p0.heard ∷ book.p1.heard ∷ book.p2.heard ∷ book.p3.heard ∷ book.p4.heard ∷ book.p5.heard ∷ book.p6.heard ∷ book.p7.heard ∷ [];
}

module _ {M I F O R X : Type 0} (posted : ℕ → O → List X) (taken : ℕ → I → List X) where
  -- WHAT A PAGE HAS is what a walk over the history would give, of what was posted to one peer and taken of it
  pub record IsPage (peer : Option ℕ) (h : List (Entry M I F O R)) (page : Page) : Type 0 where
    pub peer_is : page.id ≡ peer
    pub posted_is : page.posted ≡ capped (length (posts posted peer h))
    pub postings_are : page.postings.items ≡ postings_from (λ (e : Entry M I F O R). at_one posted peer e.output) 0 0 h
    pub heard_is : page.heard ≡ length (takes taken peer h)
    pub few : page.heard ≤ length h

  module _ (ids : ℕ → Option ℕ) where
    -- a page for each place
    pub record IsBook (h : List (Entry M I F O R)) (book : Book) : Type 0 where
      pub p0 : IsPage (ids 0) h book.p0
      pub p1 : IsPage (ids 1) h book.p1
      pub p2 : IsPage (ids 2) h book.p2
      pub p3 : IsPage (ids 3) h book.p3
      pub p4 : IsPage (ids 4) h book.p4
      pub p5 : IsPage (ids 5) h book.p5
      pub p6 : IsPage (ids 6) h book.p6
      pub p7 : IsPage (ids 7) h book.p7
      pub within : (p : ℕ) → 8 ≤ p → is_some (ids p) ≡ false

    -- the numbers of a place's book, as its lock keeps it, in what is known
    pub record IsCounted (p : ℕ) (known : List (List (Entry M I F O R))) (counts : Counts) : Type 0 where
      pub posted_is : (q : ℕ) → q < 8 → slice_index counts.posted q ≡ capped (length (posts posted (ids q) (at known p)))
      pub heard_is : (q : ℕ) → q < 8 → slice_index counts.heard q ≡ length (takes taken (ids q) (at known p))
      pub few : (q : ℕ) → q < 8 → slice_index counts.heard q ≤ 16384
      pub hears : Hears posted taken ids p known

    -- they were so between what was known first and what is known now
    pub record WasCounted (p : ℕ) (first now : List (List (Entry M I F O R))) (counts : Counts) : Type 0 where
      pub known : List (List (Entry M I F O R))
      pub after : KnowsMore first known
      pub before : KnowsMore known now
      pub counted : IsCounted p known counts

    -- so were those of each member
    pub record AreCounted (all : List Counts) (first now : List (List (Entry M I F O R))) : Type 0 where
      pub each : (p i : ℕ) (counts : Counts) → ids p ≡ Some i → slice_get all p ≡ Some counts → WasCounted p first now counts

    -- since something was known
    pub record WereCounted (all : List Counts) (now : List (List (Entry M I F O R))) : Type 0 where
      pub first : List (List (Entry M I F O R))
      pub are : AreCounted all first now

    -- how many messages of the member at p to the one at q, in what is known now, aren't heard in what was known before
    abbrev pub unheard_from : ℕ → ℕ → List (List (Entry M I F O R)) → List (List (Entry M I F O R)) → ℕ
    unheard_from p q old now = length (posts posted (ids q) (at now p)) - length (takes taken (ids p) (at old q))

    -- of one to those below a number
    unfoldable pub unheard_to : ℕ → ℕ → List (List (Entry M I F O R)) → List (List (Entry M I F O R)) → ℕ
    unheard_to p zero old now = 0
    unheard_to p (suc q) old now = unheard_to p q old now + unheard_from p q old now

    -- of those below a number to all
    unfoldable pub unheard_of : ℕ → List (List (Entry M I F O R)) → List (List (Entry M I F O R)) → ℕ
    unheard_of zero old now = 0
    unheard_of (suc p) old now = unheard_of p old now + unheard_to p 8 old now

    -- HOW MANY MESSAGES BETWEEN MEMBERS, in what is known now, aren't heard in what was known before
    unfoldable pub unheard : List (List (Entry M I F O R)) → List (List (Entry M I F O R)) → ℕ
    unheard old now = unheard_of 8 old now
