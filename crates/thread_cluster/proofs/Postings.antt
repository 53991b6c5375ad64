-- Copies of posts by the postings of a book: entry after entry of those that posted something.
use Rattle.std.proofs.Common.{◌≡◌, ℕ, zero, suc, ◌+◌, ◌-◌, ◌<◌, ◌≤◌, ◌⊎◌, List, [], ◌∷◌, ◌++◌, length, drop, get_or, Some, slice_get, refl, ap, sym, ◌∙◌, subst, ⊎_elim, inl, inr, arith, append_assoc, append-nil, length-append}
use mathlib.Core.Logic.{dite}
use native.Mathlib.Decide.{dec_lt}
use Rattle.std.proofs.Math.Seq.{drop-cons}
use Rattle.thread_machine.specs.declared.entry.Entry.{Entry}
use Rattle.thread_cluster.specs.Passing.{Passed, stamped, passed, messages}
use Rattle.thread_cluster.specs.Books.{capped, if_any, postings_from}
use Rattle.thread_cluster.proofs.Lists.{drop_append, get_end}
use Rattle.thread_cluster.proofs.Posts.{passed-append, passed_one, length-stamped, messages-append, messages-stamped, length-messages}
use Rattle.thread_cluster.proofs.Books.{if_any_some, count_cons, count_append, count_snoc}

module _ {M I F O R X : Type 0} (each : Entry M I F O R → List X) where
  none_of : (xs : List X) → length xs ≡ 0 → xs ≡ []
  none_of [] e = refl
  none_of (x ∷ xs) e = absurd (omega arith)

  silent_cons : (e : Entry M I F O R) (z : List (Entry M I F O R)) → length (each e) ≡ 0 → passed each z ≡ [] → passed each (e ∷ z) ≡ []
  silent_cons e z none rest =
      ap (λ (ms : List X). stamped e.stamp ms ++ passed each z) (none_of (each e) none) ∙ rest

  -- The entry of the first posting, behind entries that posted nothing
  pub record IsNextPosting (i b : ℕ) (h : List (Entry M I F O R)) (index before : ℕ) (more : List (ℕ × ℕ)) : Type 0 where
    pub silent : List (Entry M I F O R)
    pub entry : Entry M I F O R
    pub others : List (Entry M I F O R)
    pub split : h ≡ silent ++ entry ∷ others
    pub nothing : passed each silent ≡ []
    pub index_is : index ≡ i + length silent
    pub before_is : before ≡ capped b
    pub some_posted : 0 < length (each entry)
    pub more_are : more ≡ postings_from each (suc index) (b + length (each entry)) others

  -- by how many the first entry posted
  next_by : (i b : ℕ) (e : Entry M I F O R) (h : List (Entry M I F O R)) (index before : ℕ) (more : List (ℕ × ℕ)) (n : ℕ) → length (each e) ≡ n
      → ((i' b' : ℕ) → postings_from each i' b' h ≡ (index, before) ∷ more → IsNextPosting i' b' h index before more)
      → if_any n (i, capped b) (postings_from each (suc i) (b + n) h) ≡ (index, before) ∷ more → IsNextPosting i b (e ∷ h) index before more
  next_by i b e h index before more zero none further is =
      let same : b + 0 ≡ b = omega arith in
      let next = further (suc i) b (subst (λ (k : ℕ). postings_from each (suc i) k h ≡ (index, before) ∷ more) same is) in
      let at_index = next.index_is in record {
        silent = e ∷ next.silent;
        entry = next.entry;
        others = next.others;
        split = ap (λ (g : List (Entry M I F O R)). e ∷ g) next.split;
        nothing = silent_cons e next.silent none next.nothing;
        index_is = omega arith;
        before_is = next.before_is;
        some_posted = next.some_posted;
        more_are = next.more_are;
      }
  next_by i b e h index before more (suc n) some_there further is =
      let first : (i, capped b) ≡ (index, before) = cc (is) in
      let rest : postings_from each (suc i) (b + suc n) h ≡ more = cc (is) in
      let first_index : i ≡ index = ap (λ (p : ℕ × ℕ). p.0) first in record {
        silent = [];
        entry = e;
        others = h;
        split = refl;
        nothing = refl;
        index_is = omega arith;
        before_is = sym (ap (λ (p : ℕ × ℕ). p.1) first);
        some_posted = omega arith;
        more_are =
            sym rest
            ∙ (ap (λ (k : ℕ). postings_from each (suc i) (b + k) h) (sym some_there)
            ∙ ap (λ (k : ℕ). postings_from each (suc k) (b + length (each e)) h) first_index);
      }

  pub next_posting : (i b : ℕ) (h : List (Entry M I F O R)) (index before : ℕ) (more : List (ℕ × ℕ)) → postings_from each i b h ≡ (index, before) ∷ more → IsNextPosting i b h index before more
  next_posting i b [] index before more is = absurd (cc (is))
  next_posting i b (e ∷ h) index before more is = next_by i b e h index before more (length (each e)) refl (λ i' b'. next_posting i' b' h index before more) is

  none_by : (i b : ℕ) (e : Entry M I F O R) (h : List (Entry M I F O R)) (n : ℕ) → length (each e) ≡ n → ((i' b' : ℕ) → postings_from each i' b' h ≡ [] → passed each h ≡ [])
      → if_any n (i, capped b) (postings_from each (suc i) (b + n) h) ≡ [] → passed each (e ∷ h) ≡ []
  none_by i b e h zero none further is = silent_cons e h none (further (suc i) (b + 0) is)
  none_by i b e h (suc n) some_there further is = absurd (cc (is))

  -- where there is no posting, nothing was posted
  pub none_posted : (i b : ℕ) (h : List (Entry M I F O R)) → postings_from each i b h ≡ [] → passed each h ≡ []
  none_posted i b [] is = refl
  none_posted i b (e ∷ h) is = none_by i b e h (length (each e)) refl (λ i' b'. none_posted i' b' h) is

  -- SO FAR: the history is cut where so many postings are behind, and what was posted up to there, from a number on, is copied
  pub record IsCut (h : List (Entry M I F O R)) (postings : List (ℕ × ℕ)) (k : ℕ) : Type 0 where
    pub behind : List (Entry M I F O R)
    pub ahead : List (Entry M I F O R)
    pub split : h ≡ behind ++ ahead
    pub left : drop k postings ≡ postings_from each (length behind) (length (passed each behind)) ahead

  pub record IsThrough (h : List (Entry M I F O R)) (postings : List (ℕ × ℕ)) (number k : ℕ) (copies : List X) (first steps : ℕ) : Type 0 where
    pub cut : IsCut h postings k
    pub copied : copies ≡ drop number (messages (passed each cut.behind))
    pub read : steps ≤ first + (length (passed each cut.behind) - number)

  abbrev cut_none : (h : List (Entry M I F O R)) (postings : List (ℕ × ℕ)) → postings ≡ postings_from each 0 0 h → IsCut h postings 0
  cut_none h postings are = record { behind = []; ahead = h; split = refl; left = are }

  -- one posting more
  abbrev cut_more : (h : List (Entry M I F O R)) (postings : List (ℕ × ℕ)) (k : ℕ) (cut : IsCut h postings k) → (next : IsNextPosting (length cut.behind) (length (passed each cut.behind)) cut.ahead (get_or postings k (0, 0)).0 (get_or postings k (0, 0)).1 (drop (suc k) postings))
      → IsCut h postings (suc k)
  cut_more h postings k cut next =
      let g = cut.behind ++ next.silent in
      let counted : length (passed each g) ≡ length (passed each cut.behind) + length (passed each next.silent) = count_append each cut.behind next.silent in
      let none : length (passed each next.silent) ≡ 0 = ap length next.nothing in
      let one : length (passed each (g ++ next.entry ∷ [])) ≡ length (passed each g) + length (each next.entry) = count_snoc each g next.entry in
      let index = next.index_is in
      let grown = length-append cut.behind next.silent in
      let last = length-append g (next.entry ∷ []) in
      let at_index : suc (get_or postings k (0, 0)).0 ≡ length (g ++ next.entry ∷ []) = omega arith in
      let before : length (passed each cut.behind) + length (each next.entry) ≡ length (passed each (g ++ next.entry ∷ [])) = omega arith in
      record {
        behind = g ++ next.entry ∷ [];
        ahead = next.others;
        split =
            cut.split
            ∙ (ap (λ (w : List (Entry M I F O R)). cut.behind ++ w) next.split
            ∙ (sym (append_assoc cut.behind next.silent (next.entry ∷ next.others))
            ∙ sym (append_assoc g (next.entry ∷ []) next.others)));
        left =
            next.more_are
            ∙ (ap (λ (i : ℕ). postings_from each i (length (passed each cut.behind) + length (each next.entry)) next.others) at_index
            ∙ ap (λ (b : ℕ). postings_from each (length (g ++ next.entry ∷ [])) b next.others) before);
      }

  pub next_of : (h : List (Entry M I F O R)) (postings : List (ℕ × ℕ)) (k : ℕ) (cut : IsCut h postings k) → k < length postings
      → IsNextPosting (length cut.behind) (length (passed each cut.behind)) cut.ahead (get_or postings k (0, 0)).0 (get_or postings k (0, 0)).1 (drop (suc k) postings)
  next_of h postings k cut lt =
      let first = get_or postings k (0, 0) in
      next_posting (length cut.behind) (length (passed each cut.behind)) cut.ahead first.0 first.1 (drop (suc k) postings) (sym cut.left ∙ drop-cons postings k (0, 0) lt)

  -- the history can be cut at each posting
  cut_at : (h : List (Entry M I F O R)) (postings : List (ℕ × ℕ)) → postings ≡ postings_from each 0 0 h → (k : ℕ) → k ≤ length postings → IsCut h postings k
  cut_at h postings are zero le = cut_none h postings are
  cut_at h postings are (suc k) le =
      let cut = cut_at h postings are k (omega arith) in cut_more h postings k cut (next_of h postings k cut (omega arith))

  -- the entry of the next posting
  pub entry_of : (h : List (Entry M I F O R)) (postings : List (ℕ × ℕ)) (k : ℕ) (cut : IsCut h postings k) → (lt : k < length postings)
      → slice_get h (get_or postings k (0, 0)).0 ≡ Some (next_of h postings k cut lt).entry
  entry_of h postings k cut lt =
      let next = next_of h postings k cut lt in
      let g = cut.behind ++ next.silent in
      let index = next.index_is in
      let grown = length-append cut.behind next.silent in
      let at_index : length g ≡ (get_or postings k (0, 0)).0 = omega arith in
      let split : h ≡ g ++ next.entry ∷ next.others = cut.split ∙ (ap (λ (w : List (Entry M I F O R)). cut.behind ++ w) next.split ∙ sym (append_assoc cut.behind next.silent (next.entry ∷ next.others))) in
      ap (λ (w : List (Entry M I F O R)). slice_get w (get_or postings k (0, 0)).0) split
      ∙ (ap (λ (i : ℕ). slice_get (g ++ next.entry ∷ next.others) i) (sym at_index)
      ∙ get_end g next.entry next.others)

  drop_all : {A : Type 0} (n : ℕ) (xs : List A) → length xs ≤ n → drop n xs ≡ []
  drop_all zero [] le = refl
  drop_all zero (x ∷ xs) le = absurd (omega arith)
  drop_all (suc n) [] le = refl
  drop_all (suc n) (x ∷ xs) le = drop_all n xs (omega arith)

  -- no more was posted up to a cut than in all
  within : (h : List (Entry M I F O R)) (postings : List (ℕ × ℕ)) (k : ℕ) (cut : IsCut h postings k) → length (passed each h) ≡ length (passed each cut.behind) + length (passed each cut.ahead)
  within h postings k cut = ap (λ (w : List (Entry M I F O R)). length (passed each w)) cut.split ∙ count_append each cut.behind cut.ahead

  -- before the last posting before which no more was posted than the number
  pub through_none : (h : List (Entry M I F O R)) (postings : List (ℕ × ℕ)) (number k steps : ℕ) → postings ≡ postings_from each 0 0 h → number ≤ 16384
      → (k ≡ 0) ⊎ ((k < length postings) × ((get_or postings k (0, 0)).1 ≤ number)) → IsThrough h postings number k [] steps steps
  through_none h postings number k steps are few low =
      ⊎_elim
      (λ none. subst (λ (j : ℕ). IsThrough h postings number j [] steps steps) (sym none) (record {
        cut = cut_none h postings are;
        copied = sym (drop_all number [] (omega arith));
        read = omega arith;
      }))
      (λ there. at_posting there.0 there.1)
      low
    where
      at_posting : k < length postings → (get_or postings k (0, 0)).1 ≤ number → IsThrough h postings number k [] steps steps
      at_posting lt le =
          let cut = cut_at h postings are k (omega arith) in
          let before = (next_of h postings k cut lt).before_is in
          let low : length (passed each cut.behind) ≤ number = omega arith in
          let same = length-messages (passed each cut.behind) in
          record { cut = cut; copied = sym (drop_all number (messages (passed each cut.behind)) (omega arith)); read = omega arith }

  module _ (h : List (Entry M I F O R)) (postings : List (ℕ × ℕ)) (number first k : ℕ) (few : number ≤ 16384) (from : first ≤ k) (lt : k < length postings) (some_left : number < length (passed each h))
      (later : (j : ℕ) → first < j → j < length postings → number < (get_or postings j (0, 0)).1) where
    -- the next entry posted a message of the number or a later one
    next_high : (cut : IsCut h postings k) → number < length (passed each (cut_more h postings k cut (next_of h postings k cut lt)).behind)
    next_high cut =
        let after = cut_more h postings k cut (next_of h postings k cut lt) in
        dite (dec_lt (suc k) (length postings))
        (λ inside.
        let before = (next_of h postings (suc k) after inside).before_is in
        let high = later (suc k) (omega arith) inside in
        let r : number < length (passed each after.behind) = omega arith in r)
        (λ outside.
        let left : postings_from each (length after.behind) (length (passed each after.behind)) after.ahead ≡ [] = sym after.left ∙ drop_all (suc k) postings (omega arith) in
        let none : length (passed each after.ahead) ≡ 0 = ap length (none_posted (length after.behind) (length (passed each after.behind)) after.ahead left) in
        let all = within h postings (suc k) after in
        let r : number < length (passed each after.behind) = omega arith in r)

    grown_by : (cut : IsCut h postings k) → length (passed each (cut_more h postings k cut (next_of h postings k cut lt)).behind) ≡ length (passed each cut.behind) + length (each (next_of h postings k cut lt).entry)
    grown_by cut =
        let next = next_of h postings k cut lt in
        let one = count_snoc each (cut.behind ++ next.silent) next.entry in
        let counted = count_append each cut.behind next.silent in
        let none : length (passed each next.silent) ≡ 0 = ap length next.nothing in omega arith

    -- a step more is one for such a message
    pub read_more : (s steps : ℕ) (copies : List X) → IsThrough h postings number k copies s steps → steps + 1 ≤ s + (length (passed each h) - number)
    read_more s steps copies through =
        let after = cut_more h postings k through.cut (next_of h postings k through.cut lt) in
        let high = next_high through.cut in
        let grown = grown_by through.cut in
        let some_posted = (next_of h postings k through.cut lt).some_posted in
        let all = within h postings (suc k) after in
        let read = through.read in omega arith

    pub through_more : (s steps : ℕ) (copies more : List X) (e : Entry M I F O R) → IsThrough h postings number k copies s steps → slice_get h (get_or postings k (0, 0)).0 ≡ Some e
        → more ≡ copies ++ drop (number - (get_or postings k (0, 0)).1) (each e) → IsThrough h postings number (suc k) more s (steps + 1)
    through_more s steps copies more e through here grown =
        let cut = through.cut in
        let next = next_of h postings k cut lt in
        let g = cut.behind ++ next.silent in
        let same : e ≡ next.entry = cc (here, entry_of h postings k cut lt) in
        let before = next.before_is in
        let skipped : number - (get_or postings k (0, 0)).1 ≡ number - length (messages (passed each cut.behind)) = let l = length-messages (passed each cut.behind) in omega arith in
        let nothing_more : passed each g ≡ passed each cut.behind = passed-append each cut.behind next.silent ∙ (ap (λ (w : List (Passed X)). passed each cut.behind ++ w) next.nothing ∙ append-nil (passed each cut.behind)) in
        let told : messages (passed each (g ++ next.entry ∷ [])) ≡ messages (passed each cut.behind) ++ each next.entry =
        ap messages (passed_one each g next.entry)
        ∙ (messages-append (passed each g) (stamped next.entry.stamp (each next.entry))
        ∙ (ap (λ (w : List (Passed X)). messages w ++ messages (stamped next.entry.stamp (each next.entry))) nothing_more
        ∙ ap (λ (w : List X). messages (passed each cut.behind) ++ w) (messages-stamped next.entry.stamp (each next.entry)))) in
        let high = next_high cut in
        let by = grown_by cut in
        let some_posted = next.some_posted in
        let read = through.read in
        record {
          cut = cut_more h postings k cut next;
          copied =
              grown
              ∙ (ap (λ (w : List X). w ++ drop (number - (get_or postings k (0, 0)).1) (each e)) through.copied
              ∙ (ap (λ (j : ℕ). drop number (messages (passed each cut.behind)) ++ drop j (each e)) skipped
              ∙ (ap (λ (x : Entry M I F O R). drop number (messages (passed each cut.behind)) ++ drop (number - length (messages (passed each cut.behind))) (each x)) same
              ∙ (sym (drop_append number (messages (passed each cut.behind)) (each next.entry))
              ∙ ap (drop number) (sym told)))));
          read = omega arith;
        }

  -- behind the last posting
  pub through_all : (h : List (Entry M I F O R)) (postings : List (ℕ × ℕ)) (number k s steps : ℕ) (copies : List X) → length postings ≤ k → IsThrough h postings number k copies s steps
      → (copies ≡ drop number (messages (passed each h))) × (steps ≤ s + (length (passed each h) - number))
  through_all h postings number k s steps copies past through =
      let cut = through.cut in
      let left : postings_from each (length cut.behind) (length (passed each cut.behind)) cut.ahead ≡ [] = sym cut.left ∙ drop_all k postings past in
      let none = none_posted (length cut.behind) (length (passed each cut.behind)) cut.ahead left in
      let same : passed each h ≡ passed each cut.behind =
      ap (passed each) cut.split ∙ (passed-append each cut.behind cut.ahead ∙ (ap (λ (w : List (Passed X)). passed each cut.behind ++ w) none ∙ append-nil (passed each cut.behind))) in
      let counts = ap length same in
      let read = through.read in
      (through.copied ∙ ap (λ (w : List (Passed X)). drop number (messages w)) (sym same), omega arith)

  -- where all was posted before the number, there is nothing to copy
  pub nothing_left : (h : List (Entry M I F O R)) (number : ℕ) → length (passed each h) ≤ number → [] ≡ drop number (messages (passed each h))
  nothing_left h number le = sym (drop_all number (messages (passed each h)) (let same = length-messages (passed each h) in omega arith))
