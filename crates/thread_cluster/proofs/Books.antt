-- Books: one entry more, and what their numbers tell.
use Rattle.std.proofs.Common.{◌≡◌, ◌≢◌, ℕ, zero, suc, ◌+◌, ◌-◌, ◌<◌, ◌≤◌, ◌==◌, if◌then◌else◌, Bool, true, false, List, [], ◌∷◌, ◌++◌, length, Option, Some, None, refl, ap, sym, ◌∙◌, subst, arith, append_assoc, append-nil, length-append, eq-eqb, ne_eqb}
use Rattle.std.specs.Prelude.{slice_index, is_some}
use mathlib.Core.Logic.{dite}
use native.Mathlib.Decide.{ℕ_discrete}
use Rattle.thread_machine.specs.declared.entry.Entry.{Entry}
use Rattle.thread_cell.specs.declared.unnamed.Cells.{Cells}
use Rattle.thread_cell.specs.Lists.{at}
use Rattle.thread_cluster.specs.declared.book.Page.{Page}
use Rattle.thread_cluster.specs.declared.book.Book.{Book}
use Rattle.thread_cluster.specs.declared.book.Counts.{Counts}
use Rattle.thread_cluster.specs.declared.places.Identities.{Identities}
use Rattle.thread_cluster.specs.Passing.{at_one, stamped, passed, posts, takes, AreApart, AreHeard, Hears}
use Rattle.thread_cluster.specs.Knowing.{KnowsSame, IsNowhere}
use Rattle.thread_cluster.specs.Opening.{AreNew}
use Rattle.thread_cluster.specs.Books.{capped, one_if, if_any, postings_from, IsBlank, AreBlank, AreIds, IsSamePage, IsSameBook, IsWritten, AreWritten, counts_of, IsPage, IsBook, IsCounted}
use Rattle.thread_cluster.proofs.Posts.{passed-append, length-stamped, at_none, at_other, at_from}

pub if_any_append : {A : Type 0} (n : ℕ) (x : A) (xs ys : List A) → if_any n x xs ++ ys ≡ if_any n x (xs ++ ys)
if_any_append zero x xs ys = refl
if_any_append (suc n) x xs ys = refl

pub if_any_some : {A : Type 0} (n : ℕ) (x : A) (xs : List A) → 0 < n → if_any n x xs ≡ x ∷ xs
if_any_some zero x xs lt = absurd (omega arith)
if_any_some (suc n) x xs lt = refl

pub one_if_few : (b : Bool) → one_if b ≤ 1
one_if_few true = omega arith
one_if_few false = omega arith

-- the identities of new cells
pub ids_of : {M N I F O R : Type 0} (ids : ℕ → Option ℕ) (cells : Cells M N I F O R) (given : Identities) → AreNew ids cells given → AreIds ids given
ids_of ids cells given are = record {
  p0 = are.p0.id_is;
  p1 = are.p1.id_is;
  p2 = are.p2.id_is;
  p3 = are.p3.id_is;
  p4 = are.p4.id_is;
  p5 = are.p5.id_is;
  p6 = are.p6.id_is;
  p7 = are.p7.id_is;
  within = are.within;
}

some_false : (o : Option ℕ) (id : ℕ) → is_some o ≡ false → o ≡ Some id → ⊥
some_false None id none is = absurd cc
some_false (Some x) id none is = absurd cc

-- an identity that none of these is
pub nowhere_listed : (ids : ℕ → Option ℕ) (given : Identities) (id : ℕ) → AreIds ids given → given.p0 ≢ Some id → given.p1 ≢ Some id → given.p2 ≢ Some id → given.p3 ≢ Some id → given.p4 ≢ Some id → given.p5 ≢ Some id → given.p6 ≢ Some id → given.p7 ≢ Some id → IsNowhere ids id
nowhere_listed ids given id are a b c d e f g h = record { nowhere = λ p is. each p is }
  where
    each : (p : ℕ) → ids p ≡ Some id → ⊥
    each zero is = a (sym are.p0 ∙ is)
    each (suc zero) is = b (sym are.p1 ∙ is)
    each (suc (suc zero)) is = c (sym are.p2 ∙ is)
    each (suc (suc (suc zero))) is = d (sym are.p3 ∙ is)
    each (suc (suc (suc (suc zero)))) is = e (sym are.p4 ∙ is)
    each (suc (suc (suc (suc (suc zero))))) is = f (sym are.p5 ∙ is)
    each (suc (suc (suc (suc (suc (suc zero)))))) is = g (sym are.p6 ∙ is)
    each (suc (suc (suc (suc (suc (suc (suc zero))))))) is = h (sym are.p7 ∙ is)
    each (suc (suc (suc (suc (suc (suc (suc (suc p)))))))) is = some_false (ids (suc (suc (suc (suc (suc (suc (suc (suc p))))))))) id (are.within (suc (suc (suc (suc (suc (suc (suc (suc p)))))))) (omega arith)) is

module _ {M I F O R X : Type 0} (each : Entry M I F O R → List X) where
  pub count_cons : (e : Entry M I F O R) (h : List (Entry M I F O R)) → length (passed each (e ∷ h)) ≡ length (each e) + length (passed each h)
  count_cons e h = length-append (stamped e.stamp (each e)) (passed each h) ∙ ap (λ (k : ℕ). k + length (passed each h)) (length-stamped e.stamp (each e))

  pub count_append : (g h : List (Entry M I F O R)) → length (passed each (g ++ h)) ≡ length (passed each g) + length (passed each h)
  count_append g h = ap length (passed-append each g h) ∙ length-append (passed each g) (passed each h)

  pub count_snoc : (h : List (Entry M I F O R)) (e : Entry M I F O R) → length (passed each (h ++ e ∷ [])) ≡ length (passed each h) + length (each e)
  count_snoc h e =
      let all = count_append h (e ∷ []) in
      let one = count_cons e [] in omega arith

  -- what a walk gives, of one entry more
  pub postings_snoc : (i b : ℕ) (h : List (Entry M I F O R)) (e : Entry M I F O R)
      → postings_from each i b (h ++ e ∷ []) ≡ postings_from each i b h ++ if_any (length (each e)) (i + length h, capped (b + length (passed each h))) []
  postings_snoc i b [] e =
      let index : i ≡ i + 0 = omega arith in
      let before : b ≡ b + 0 = omega arith in
      ap (λ (k : ℕ). if_any (length (each e)) (k, capped b) []) index ∙ ap (λ (k : ℕ). if_any (length (each e)) (i + 0, capped k) []) before
  postings_snoc i b (x ∷ h) e =
      let n = length (each x) in
      let c = count_cons x h in
      let index : suc i + length h ≡ i + length (x ∷ h) = omega arith in
      let before : (b + n) + length (passed each h) ≡ b + length (passed each (x ∷ h)) = omega arith in
      let last = if_any (length (each e)) (i + length (x ∷ h), capped (b + length (passed each (x ∷ h)))) [] in
      ap (if_any n (i, capped b))
      (postings_snoc (suc i) (b + n) h e
      ∙ (ap (λ (k : ℕ). postings_from each (suc i) (b + n) h ++ if_any (length (each e)) (k, capped ((b + n) + length (passed each h))) []) index
      ∙ ap (λ (k : ℕ). postings_from each (suc i) (b + n) h ++ if_any (length (each e)) (i + length (x ∷ h), capped k) []) before))
      ∙ sym (if_any_append n (i, capped b) (postings_from each (suc i) (b + n) h) last)

-- nothing was posted to the peer
pub written_none : {O X : Type 0} (posted : ℕ → O → List X) (index one : ℕ) (takes : Bool) (output : O) (old new : Page) → new.id ≡ old.id → new.posted ≡ old.posted → new.postings.items ≡ old.postings.items
    → one ≡ one_if takes → new.heard ≡ capped (old.heard + one) → length (at_one posted old.id output) ≡ 0 → IsWritten posted index takes output old new
written_none posted index one takes output old new peer same items one_is heard none = record {
  peer_is = peer;
  none_posted = λ _. same;
  some_posted = λ lt. absurd (omega arith);
  postings_are = items ∙ (sym (append-nil old.postings.items) ∙ ap (λ (k : ℕ). old.postings.items ++ if_any k (index, old.posted) []) (sym none));
  heard_is = heard ∙ ap (λ (k : ℕ). capped (old.heard + k)) one_is;
}

module _ {M I F O R X : Type 0} (posted : ℕ → O → List X) (taken : ℕ → I → List X) where
  -- a page of one entry more
  pub page_more : (peer : Option ℕ) (h : List (Entry M I F O R)) (e : Entry M I F O R) (index : ℕ) (takes_one : Bool) (old new : Page) → IsPage posted taken peer h old → IsWritten posted index takes_one e.output old new
      → index ≡ length h → length h < 16384 → length (at_one taken peer e.input) ≡ one_if takes_one → IsPage posted taken peer (h ++ e ∷ []) new
  page_more peer h e index takes_one old new is w index_is room took =
      let each : Entry M I F O R → List X = λ (x : Entry M I F O R). at_one posted peer x.output in
      let hears : Entry M I F O R → List X = λ (x : Entry M I F O R). at_one taken peer x.input in
      let n = length (at_one posted old.id e.output) in
      let same : n ≡ length (each e) = ap (λ (o : Option ℕ). length (at_one posted o e.output)) is.peer_is in
      let count : length (posts posted peer (h ++ e ∷ [])) ≡ length (posts posted peer h) + length (each e) = count_snoc each h e in
      let took_count : length (takes taken peer (h ++ e ∷ [])) ≡ length (takes taken peer h) + length (hears e) = count_snoc hears h e in
      let one : length (h ++ e ∷ []) ≡ length h + 1 = omega (arith, length-append h (e ∷ [])) in
      let small = one_if_few takes_one in
      let few = is.few in
      let old_heard = is.heard_is in
      let old_posted = is.posted_is in
      let new_heard = w.heard_is in
      let at_index : index ≡ 0 + length h = omega arith in
      let none_before : length (posts posted peer h) ≡ 0 + length (passed each h) = omega arith in
      let before : old.posted ≡ capped (0 + length (passed each h)) = old_posted ∙ ap capped none_before in
      record {
        peer_is = w.peer_is ∙ is.peer_is;
        posted_is = dite (ℕ_discrete n 0)
            (λ none. let told = w.none_posted none in let r : new.posted ≡ capped (length (posts posted peer (h ++ e ∷ []))) = omega arith in r)
            (λ some_there. let told = w.some_posted (omega arith) in let r : new.posted ≡ capped (length (posts posted peer (h ++ e ∷ []))) = omega arith in r);
        postings_are =
            w.postings_are
            ∙ (ap (λ (ps : List (ℕ × ℕ)). ps ++ if_any n (index, old.posted) []) is.postings_are
            ∙ (ap (λ (k : ℕ). postings_from each 0 0 h ++ if_any k (index, old.posted) []) same
            ∙ (ap (λ (k : ℕ). postings_from each 0 0 h ++ if_any (length (each e)) (k, old.posted) []) at_index
            ∙ (ap (λ (k : ℕ). postings_from each 0 0 h ++ if_any (length (each e)) (0 + length h, k) []) before
            ∙ sym (postings_snoc each 0 0 h e)))));
        heard_is = omega arith;
        few = omega arith;
      }

  pub same_page : (peer : Option ℕ) (h : List (Entry M I F O R)) (old new : Page) → IsSamePage old new → IsPage posted taken peer h old → IsPage posted taken peer h new
  same_page peer h old new same is = record {
    peer_is = same.peer_is ∙ is.peer_is;
    posted_is = same.posted_is ∙ is.posted_is;
    postings_are = same.postings_are ∙ is.postings_are;
    heard_is = same.heard_is ∙ is.heard_is;
    few = let a = same.heard_is in let b = is.few in omega arith;
  }

  blank_page : (peer given : Option ℕ) (page : Page) → peer ≡ given → IsBlank given page → IsPage {M = M} {I = I} {F = F} {O = O} {R = R} posted taken peer [] page
  blank_page peer given page same blank = record {
    peer_is = blank.peer_is ∙ sym same;
    posted_is = blank.posted_is;
    postings_are = blank.postings_are;
    heard_is = blank.heard_is;
    few = let none = blank.heard_is in omega arith;
  }

  module _ (ids : ℕ → Option ℕ) where
    pub blank_book : (given : Identities) (book : Book) → AreIds ids given → AreBlank given book → IsBook {M = M} {I = I} {F = F} {O = O} {R = R} posted taken ids [] book
    blank_book given book are blank = record {
      p0 = blank_page (ids 0) given.p0 book.p0 are.p0 blank.p0;
      p1 = blank_page (ids 1) given.p1 book.p1 are.p1 blank.p1;
      p2 = blank_page (ids 2) given.p2 book.p2 are.p2 blank.p2;
      p3 = blank_page (ids 3) given.p3 book.p3 are.p3 blank.p3;
      p4 = blank_page (ids 4) given.p4 book.p4 are.p4 blank.p4;
      p5 = blank_page (ids 5) given.p5 book.p5 are.p5 blank.p5;
      p6 = blank_page (ids 6) given.p6 book.p6 are.p6 blank.p6;
      p7 = blank_page (ids 7) given.p7 book.p7 are.p7 blank.p7;
      within = are.within;
    }

    pub same_book : (h : List (Entry M I F O R)) (old new : Book) → IsSameBook old new → IsBook posted taken ids h old → IsBook posted taken ids h new
    same_book h old new same is = record {
      p0 = same_page (ids 0) h old.p0 new.p0 same.p0 is.p0;
      p1 = same_page (ids 1) h old.p1 new.p1 same.p1 is.p1;
      p2 = same_page (ids 2) h old.p2 new.p2 same.p2 is.p2;
      p3 = same_page (ids 3) h old.p3 new.p3 same.p3 is.p3;
      p4 = same_page (ids 4) h old.p4 new.p4 same.p4 is.p4;
      p5 = same_page (ids 5) h old.p5 new.p5 same.p5 is.p5;
      p6 = same_page (ids 6) h old.p6 new.p6 same.p6 is.p6;
      p7 = same_page (ids 7) h old.p7 new.p7 same.p7 is.p7;
      within = is.within;
    }

    -- a book that was told of the entry
    pub book_more : (h h' : List (Entry M I F O R)) (e : Entry M I F O R) (index from : ℕ) (output : O) (old new : Book) → IsBook posted taken ids h old → AreWritten posted index from output old new
        → h' ≡ h ++ e ∷ [] → e.output ≡ output → index ≡ length h → length h < 16384 → ((p : ℕ) → p < 8 → length (at_one taken (ids p) e.input) ≡ one_if (from == p)) → IsBook posted taken ids h' new
    book_more h h' e index from output old new is written grown output_is index_is room took =
        let w : AreWritten posted index from e.output old new = subst (λ (o : O). AreWritten posted index from o old new) (sym output_is) written in
        subst (λ (g : List (Entry M I F O R)). IsBook posted taken ids g new) (sym grown) (record {
          p0 = page_more (ids 0) h e index (from == 0) old.p0 new.p0 is.p0 w.p0 index_is room (took 0 (omega arith));
          p1 = page_more (ids 1) h e index (from == 1) old.p1 new.p1 is.p1 w.p1 index_is room (took 1 (omega arith));
          p2 = page_more (ids 2) h e index (from == 2) old.p2 new.p2 is.p2 w.p2 index_is room (took 2 (omega arith));
          p3 = page_more (ids 3) h e index (from == 3) old.p3 new.p3 is.p3 w.p3 index_is room (took 3 (omega arith));
          p4 = page_more (ids 4) h e index (from == 4) old.p4 new.p4 is.p4 w.p4 index_is room (took 4 (omega arith));
          p5 = page_more (ids 5) h e index (from == 5) old.p5 new.p5 is.p5 w.p5 index_is room (took 5 (omega arith));
          p6 = page_more (ids 6) h e index (from == 6) old.p6 new.p6 is.p6 w.p6 index_is room (took 6 (omega arith));
          p7 = page_more (ids 7) h e index (from == 7) old.p7 new.p7 is.p7 w.p7 index_is room (took 7 (omega arith));
          within = is.within;
        })

    -- the page of a place
    pub page_at : (h : List (Entry M I F O R)) (book : Book) (p : ℕ) (page : Page) → IsBook posted taken ids h book → p < 8
        → (p ≡ 0 → page ≡ book.p0) → (p ≡ 1 → page ≡ book.p1) → (p ≡ 2 → page ≡ book.p2) → (p ≡ 3 → page ≡ book.p3)
        → (p ≡ 4 → page ≡ book.p4) → (p ≡ 5 → page ≡ book.p5) → (p ≡ 6 → page ≡ book.p6) → (p ≡ 7 → page ≡ book.p7) → IsPage posted taken (ids p) h page
    page_at h book zero page is lt a b c d e f g i = subst (IsPage posted taken (ids 0) h) (sym (a refl)) is.p0
    page_at h book (suc zero) page is lt a b c d e f g i = subst (IsPage posted taken (ids 1) h) (sym (b refl)) is.p1
    page_at h book (suc (suc zero)) page is lt a b c d e f g i = subst (IsPage posted taken (ids 2) h) (sym (c refl)) is.p2
    page_at h book (suc (suc (suc zero))) page is lt a b c d e f g i = subst (IsPage posted taken (ids 3) h) (sym (d refl)) is.p3
    page_at h book (suc (suc (suc (suc zero)))) page is lt a b c d e f g i = subst (IsPage posted taken (ids 4) h) (sym (e refl)) is.p4
    page_at h book (suc (suc (suc (suc (suc zero))))) page is lt a b c d e f g i = subst (IsPage posted taken (ids 5) h) (sym (f refl)) is.p5
    page_at h book (suc (suc (suc (suc (suc (suc zero)))))) page is lt a b c d e f g i = subst (IsPage posted taken (ids 6) h) (sym (g refl)) is.p6
    page_at h book (suc (suc (suc (suc (suc (suc (suc zero))))))) page is lt a b c d e f g i = subst (IsPage posted taken (ids 7) h) (sym (i refl)) is.p7
    page_at h book (suc (suc (suc (suc (suc (suc (suc (suc p)))))))) page is lt a b c d e f g i = absurd (omega arith)

    -- the numbers of a book
    posted_at : (h : List (Entry M I F O R)) (book : Book) → IsBook posted taken ids h book → (q : ℕ) → q < 8 → slice_index (counts_of book).posted q ≡ capped (length (posts posted (ids q) h))
    posted_at h book is zero lt = is.p0.posted_is
    posted_at h book is (suc zero) lt = is.p1.posted_is
    posted_at h book is (suc (suc zero)) lt = is.p2.posted_is
    posted_at h book is (suc (suc (suc zero))) lt = is.p3.posted_is
    posted_at h book is (suc (suc (suc (suc zero)))) lt = is.p4.posted_is
    posted_at h book is (suc (suc (suc (suc (suc zero))))) lt = is.p5.posted_is
    posted_at h book is (suc (suc (suc (suc (suc (suc zero)))))) lt = is.p6.posted_is
    posted_at h book is (suc (suc (suc (suc (suc (suc (suc zero))))))) lt = is.p7.posted_is
    posted_at h book is (suc (suc (suc (suc (suc (suc (suc (suc q)))))))) lt = absurd (omega arith)

    pub heard_at : (h : List (Entry M I F O R)) (book : Book) → IsBook posted taken ids h book → (q : ℕ) → q < 8 → (slice_index (counts_of book).heard q ≡ length (takes taken (ids q) h)) × (slice_index (counts_of book).heard q ≤ length h)
    heard_at h book is zero lt = (is.p0.heard_is, is.p0.few)
    heard_at h book is (suc zero) lt = (is.p1.heard_is, is.p1.few)
    heard_at h book is (suc (suc zero)) lt = (is.p2.heard_is, is.p2.few)
    heard_at h book is (suc (suc (suc zero))) lt = (is.p3.heard_is, is.p3.few)
    heard_at h book is (suc (suc (suc (suc zero)))) lt = (is.p4.heard_is, is.p4.few)
    heard_at h book is (suc (suc (suc (suc (suc zero))))) lt = (is.p5.heard_is, is.p5.few)
    heard_at h book is (suc (suc (suc (suc (suc (suc zero)))))) lt = (is.p6.heard_is, is.p6.few)
    heard_at h book is (suc (suc (suc (suc (suc (suc (suc zero))))))) lt = (is.p7.heard_is, is.p7.few)
    heard_at h book is (suc (suc (suc (suc (suc (suc (suc (suc q)))))))) lt = absurd (omega arith)

    -- as a lock keeps them, in what cell and session know
    pub is_counted : (p : ℕ) (v w : List (List (Entry M I F O R))) (book : Book) (counts : Counts) → KnowsSame w v → Hears posted taken ids p v → length (at v p) ≤ 16384 → IsBook posted taken ids (at v p) book → counts ≡ counts_of book
        → IsCounted posted taken ids p w counts
    is_counted p v w book counts same hears few is counts_are =
        subst (IsCounted posted taken ids p w) (sym counts_are) (record {
          posted_is = λ q lt. posted_at (at v p) book is q lt ∙ ap (λ (h : List (Entry M I F O R)). capped (length (posts posted (ids q) h))) (sym (same.same p));
          heard_is = λ q lt. (heard_at (at v p) book is q lt).0 ∙ ap (λ (h : List (Entry M I F O R)). length (takes taken (ids q) h)) (sym (same.same p));
          few = λ q lt. let le = (heard_at (at v p) book is q lt).1 in omega arith;
          hears = record {
            from = λ q.
                subst (λ (h : List (Entry M I F O R)). AreHeard (posts posted (ids p) h) (takes taken (ids q) (at w p))) (sym (same.same q))
                (subst (λ (h : List (Entry M I F O R)). AreHeard (posts posted (ids p) (at v q)) (takes taken (ids q) h)) (sym (same.same p)) (hears.from q));
          };
        })

module _ {I X : Type 0} (taken : ℕ → I → List X) (ids : ℕ → Option ℕ) where
  -- an input that takes nothing, and one that takes a message of the member at one place
  pub takes_none_of : (input : I) → ((id : ℕ) → taken id input ≡ []) → (p : ℕ) → p < 8 → length (at_one taken (ids p) input) ≡ one_if (8 == p)
  takes_none_of input none p lt =
      let away : 8 ≢ p = λ same. absurd (omega arith) in
      ap length (at_none taken (ids p) input none) ∙ sym (ap one_if (ne_eqb 8 p away))

  pub takes_one_of : (input : I) (q id : ℕ) (m : X) → AreApart ids → ids q ≡ Some id → ((i : ℕ) → taken i input ≡ (if i == id then m ∷ [] else [])) → (p : ℕ) → p < 8 → length (at_one taken (ids p) input) ≡ one_if (q == p)
  takes_one_of input q id m apart there says p lt =
      dite (ℕ_discrete q p)
      (λ here.
      ap length (at_from taken (ids p) id input m (ap ids (sym here) ∙ there) says) ∙ sym (ap one_if (eq-eqb q p here)))
      (λ away.
      let other : ids p ≢ Some id = λ same. away (apart.apart q p id there same) in
      ap length (at_other taken (ids p) id input m other says) ∙ sym (ap one_if (ne_eqb q p away)))
