-- Posts and takes.
use Rattle.std.proofs.Common.{◌≡◌, ◌≢◌, ℕ, zero, suc, ◌+◌, ◌-◌, ◌<◌, ◌≤◌, if◌then◌else◌, Bool, List, [], ◌∷◌, ◌++◌, length, take, drop, Option, Some, None, slice_get, refl, ap, sym, ◌∙◌, subst, arith, append_assoc, append-nil, length-append, eq-eqb, ne_eqb}
use Rattle.std.specs.Prelude.{◌==◌}
use mathlib.Core.List.{IsPrefix}
use mathlib.Core.Logic.{dite}
use native.Mathlib.Decide.{ℕ_discrete}
use Rattle.thread_machine.specs.declared.entry.Entry.{Entry}
use Rattle.thread_cell.specs.Lists.{at}
use Rattle.thread_cell.proofs.Prefixes.{prefix_get, prefix_length, prefix_trans}
use Rattle.thread_cluster.specs.Passing.{Passed, at_one, AreApart, stamped, messages, passed, posts, takes, IsTakeOf, AreHeard, AreAllHeard, AreCopies, Hears, IsNext, HasUnheard}
use Rattle.thread_cluster.specs.Knowing.{KnowsMore, KnowsSame}
use Rattle.thread_cluster.proofs.Lists.{get_within, get_there, get_snoc, take_snoc, drop_append, get_drop, rest_begins}

module _ {X : Type 0} where
  pub heard_more : (ps more ts : List (Passed X)) → IsPrefix ps more → AreHeard ps ts → AreHeard more ts
  heard_more ps more ts p h = record { each = λ k take e. let f = h.each k take e in (f.0, prefix_get ps more k f.0 p f.1, f.2) }

  -- one take more, of the next post
  pub heard_next : (ps ts : List (Passed X)) (post take : Passed X) → AreHeard ps ts → slice_get ps (length ts) ≡ Some post → IsTakeOf post take → AreHeard ps (ts ++ take ∷ [])
  heard_next ps ts post take h next is = record {
    each = get_snoc (λ k t. (post : Passed X) × (slice_get ps k ≡ Some post) × IsTakeOf post t) ts take h.each (post, next, is);
  }

  -- as many takes as there were posts: each of these is heard
  pub all_heard : (old ps ts : List (Passed X)) → AreHeard ps ts → IsPrefix old ps → length old ≤ length ts → AreAllHeard old ts
  all_heard old ps ts h p le = record {
    each = λ k post e.
        let within : k < length old = get_within old k post e in
        let t = get_there ts k (omega arith) in
        let f = h.each k t.0 t.1 in
        let stands : slice_get ps k ≡ Some post = prefix_get old ps k post p e in
        let same : f.0 ≡ post = cc (f.1, stands) in
        (t.0, t.1, subst (λ w. IsTakeOf w t.0) same f.2);
  }

  pub all_heard_more : (old shorter ts more : List (Passed X)) → IsPrefix shorter old → IsPrefix ts more → AreAllHeard old ts → AreAllHeard shorter more
  all_heard_more old shorter ts more p q h = record {
    each = λ k post e. let f = h.each k post (prefix_get shorter old k post p e) in (f.0, prefix_get ts more k f.0 q f.1, f.2);
  }

  pub messages-append : (xs ys : List (Passed X)) → messages (xs ++ ys) ≡ messages xs ++ messages ys
  messages-append [] ys = refl
  messages-append (x ∷ xs) ys = ap (λ w. x.message ∷ w) (messages-append xs ys)

  pub messages-stamped : (stamp : ℕ) (ms : List X) → messages (stamped stamp ms) ≡ ms
  messages-stamped stamp [] = refl
  messages-stamped stamp (m ∷ ms) = ap (λ w. m ∷ w) (messages-stamped stamp ms)

  pub length-stamped : (stamp : ℕ) (ms : List X) → length (stamped stamp ms) ≡ length ms
  length-stamped stamp [] = refl
  length-stamped stamp (m ∷ ms) = ap suc (length-stamped stamp ms)

  pub length-messages : (ps : List (Passed X)) → length (messages ps) ≡ length ps
  length-messages [] = refl
  length-messages (x ∷ ps) = ap suc (length-messages ps)

  get_message : (ps : List (Passed X)) (k : ℕ) (m : X) → slice_get (messages ps) k ≡ Some m → (post : Passed X) × (slice_get ps k ≡ Some post) × (post.message ≡ m)
  get_message [] k m e = absurd cc
  get_message (p ∷ ps) zero m e = (p, refl, cc)
  get_message (p ∷ ps) (suc k) m e = get_message ps k m e

  -- the first copy is of the post at the number, and the others of those behind it
  pub copies_first : (n : ℕ) (m : X) (more : List X) (ps : List (Passed X)) → AreCopies n (m ∷ more) ps → (post : Passed X) × (slice_get ps n ≡ Some post) × (post.message ≡ m)
  copies_first n m more ps are =
      let e : n + 0 ≡ n = omega arith in
      get_message ps n m (subst (λ (k : ℕ). slice_get (messages ps) k ≡ Some m) e (sym (get_drop n (messages ps) 0) ∙ prefix_get (m ∷ more) (drop n (messages ps)) 0 m are.begins refl))

  pub copies_rest : (n : ℕ) (m : X) (more : List X) (ps : List (Passed X)) → AreCopies n (m ∷ more) ps → AreCopies (suc n) more ps
  copies_rest n m more ps are = record { begins = rest_begins n (messages ps) m more are.begins }

  pub copies_left : (k n : ℕ) (copies : List X) (ps : List (Passed X)) → AreCopies n copies ps → AreCopies (k + n) (drop k copies) ps
  copies_left zero n copies ps are = let e : n ≡ 0 + n = omega arith in subst (λ (j : ℕ). AreCopies j copies ps) e are
  copies_left (suc k) n [] ps are = record { begins = (drop (suc k + n) (messages ps), refl) }
  copies_left (suc k) n (m ∷ copies) ps are =
      let e : k + suc n ≡ suc k + n = omega arith in subst (λ (j : ℕ). AreCopies j (drop k copies) ps) e (copies_left k (suc n) copies ps (copies_rest n m copies ps are))

  pub copies_are : (n : ℕ) (copies : List X) (ps : List (Passed X)) → copies ≡ drop n (messages ps) → AreCopies n copies ps
  copies_are n copies ps is = record { begins = ([], append-nil copies ∙ is) }

  -- the same of more posts
  pub copies_more : (n : ℕ) (copies : List X) (ps more : List (Passed X)) → IsPrefix ps more → AreCopies n copies ps → AreCopies n copies more
  copies_more n copies ps more p are =
      let grown : drop n (messages ps) ++ drop (n - length (messages ps)) (messages p.0) ≡ drop n (messages more) =
      sym (drop_append n (messages ps) (messages p.0)) ∙ ap (drop n) (sym (messages-append ps p.0) ∙ ap messages p.1) in
      record { begins = prefix_trans copies (drop n (messages ps)) (drop n (messages more)) are.begins (drop (n - length (messages ps)) (messages p.0), grown) }

module _ {A X : Type 0} (of_id : ℕ → A → List X) where
  pub at_none : (o : Option ℕ) (a : A) → ((id : ℕ) → of_id id a ≡ []) → at_one of_id o a ≡ []
  at_none None a none = refl
  at_none (Some id) a none = none id

  pub at_this : (o : Option ℕ) (id : ℕ) (a : A) → o ≡ Some id → at_one of_id o a ≡ of_id id a
  at_this o id a is = ap (λ (w : Option ℕ). at_one of_id w a) is

  pub at_other : (o : Option ℕ) (from : ℕ) (a : A) (m : X) → o ≢ Some from → ((id : ℕ) → of_id id a ≡ (if id == from then m ∷ [] else [])) → at_one of_id o a ≡ []
  at_other None from a m n says = refl
  at_other (Some id) from a m n says = says id ∙ ap (λ (b : Bool). if b then m ∷ [] else []) (ne_eqb id from (λ e. n (ap Some e)))

  pub at_from : (o : Option ℕ) (from : ℕ) (a : A) (m : X) → o ≡ Some from → ((id : ℕ) → of_id id a ≡ (if id == from then m ∷ [] else [])) → at_one of_id o a ≡ m ∷ []
  at_from o from a m is says = at_this o from a is ∙ (says from ∙ ap (λ (b : Bool). if b then m ∷ [] else []) (eq-eqb from from refl))

module _ {M I F O R X : Type 0} (each : Entry M I F O R → List X) where
  pub passed-append : (xs ys : List (Entry M I F O R)) → passed each (xs ++ ys) ≡ passed each xs ++ passed each ys
  passed-append [] ys = refl
  passed-append (e ∷ xs) ys = ap (λ w. stamped e.stamp (each e) ++ w) (passed-append xs ys) ∙ sym (append_assoc (stamped e.stamp (each e)) (passed each xs) (passed each ys))

  pub passed_begin : (xs ys : List (Entry M I F O R)) → IsPrefix xs ys → IsPrefix (passed each xs) (passed each ys)
  passed_begin xs ys p = (passed each p.0, sym (passed-append xs p.0) ∙ ap (passed each) p.1)

  pub passed_one : (xs : List (Entry M I F O R)) (e : Entry M I F O R) → passed each (xs ++ e ∷ []) ≡ passed each xs ++ stamped e.stamp (each e)
  passed_one xs e = passed-append xs (e ∷ []) ∙ ap (λ w. passed each xs ++ w) (append-nil (stamped e.stamp (each e)))

  pub passed_none : (xs : List (Entry M I F O R)) (e : Entry M I F O R) → each e ≡ [] → passed each (xs ++ e ∷ []) ≡ passed each xs
  passed_none xs e is = passed_one xs e ∙ (ap (λ (ms : List X). passed each xs ++ stamped e.stamp ms) is ∙ append-nil (passed each xs))

  pub passed_this : (xs : List (Entry M I F O R)) (e : Entry M I F O R) (m : X) → each e ≡ m ∷ [] → passed each (xs ++ e ∷ []) ≡ passed each xs ++ record { message = m; stamp = e.stamp } ∷ []
  passed_this xs e m is = passed_one xs e ∙ ap (λ (ms : List X). passed each xs ++ stamped e.stamp ms) is

  -- one entry more of those so far
  pub passed_step : (h : List (Entry M I F O R)) (i : ℕ) (e : Entry M I F O R) → slice_get h i ≡ Some e → passed each (take (suc i) h) ≡ passed each (take i h) ++ stamped e.stamp (each e)
  passed_step h i e there = ap (passed each) (take_snoc h i e there) ∙ passed_one (take i h) e

  pub passed_count : (h : List (Entry M I F O R)) (i : ℕ) (e : Entry M I F O R) → slice_get h i ≡ Some e → length (passed each (take (suc i) h)) ≡ length (passed each (take i h)) + length (each e)
  passed_count h i e there =
      ap length (passed_step h i e there)
      ∙ (length-append (passed each (take i h)) (stamped e.stamp (each e))
      ∙ ap (λ (k : ℕ). length (passed each (take i h)) + k) (length-stamped e.stamp (each e)))

  -- the messages from a number on, an entry more
  pub passed_dropped : (n : ℕ) (h : List (Entry M I F O R)) (i : ℕ) (e : Entry M I F O R) → slice_get h i ≡ Some e
      → drop n (messages (passed each (take (suc i) h))) ≡ drop n (messages (passed each (take i h))) ++ drop (n - length (passed each (take i h))) (each e)
  passed_dropped n h i e there =
      let ps = passed each (take i h) in
      let one : messages (passed each (take (suc i) h)) ≡ messages ps ++ each e =
      ap messages (passed_step h i e there) ∙ (messages-append ps (stamped e.stamp (each e)) ∙ ap (λ w. messages ps ++ w) (messages-stamped e.stamp (each e))) in
      ap (drop n) one
      ∙ (drop_append n (messages ps) (each e)
      ∙ ap (λ (k : ℕ). drop n (messages ps) ++ drop (n - k) (each e)) (length-messages ps))

  head_stamp : (P : ℕ → Type 0) (stamp : ℕ) (ms : List X) (more : List (Passed X)) → P stamp → ((k : ℕ) (w : Passed X) → slice_get more k ≡ Some w → P w.stamp)
      → (k : ℕ) (w : Passed X) → slice_get (stamped stamp ms ++ more) k ≡ Some w → P w.stamp
  head_stamp P stamp [] more here others k w e = others k w e
  head_stamp P stamp (m ∷ ms) more here others zero w e = let is : record { message = m; stamp = stamp } ≡ w = cc in subst (λ (v : Passed X). P v.stamp) is here
  head_stamp P stamp (m ∷ ms) more here others (suc k) w e = head_stamp P stamp ms more here others k w e

  -- the stamp of what is passed is that of an entry
  pub passed_stamp : (P : ℕ → Type 0) (h : List (Entry M I F O R)) → ((i : ℕ) (e : Entry M I F O R) → slice_get h i ≡ Some e → P e.stamp) → (k : ℕ) (w : Passed X) → slice_get (passed each h) k ≡ Some w → P w.stamp
  passed_stamp P [] all k w e = absurd cc
  passed_stamp P (x ∷ h) all k w e = head_stamp P x.stamp (each x) (passed each h) (all 0 x refl) (passed_stamp P h (λ i. all (suc i))) k w e

module _ {M I F O R X : Type 0} (posted : ℕ → O → List X) (taken : ℕ → I → List X) where
  pub posts_begin : (to : Option ℕ) (xs ys : List (Entry M I F O R)) → IsPrefix xs ys → IsPrefix (posts posted to xs) (posts posted to ys)
  posts_begin to xs ys p = passed_begin (λ (e : Entry M I F O R). at_one posted to e.output) xs ys p

  pub takes_begin : (from : Option ℕ) (xs ys : List (Entry M I F O R)) → IsPrefix xs ys → IsPrefix (takes taken from xs) (takes taken from ys)
  takes_begin from xs ys p = passed_begin (λ (e : Entry M I F O R). at_one taken from e.input) xs ys p

  pub takes_none : (from : Option ℕ) (xs : List (Entry M I F O R)) (e : Entry M I F O R) → at_one taken from e.input ≡ [] → takes taken from (xs ++ e ∷ []) ≡ takes taken from xs
  takes_none from xs e none = passed_none (λ (x : Entry M I F O R). at_one taken from x.input) xs e none

  pub takes_this : (from : Option ℕ) (xs : List (Entry M I F O R)) (e : Entry M I F O R) (m : X) → at_one taken from e.input ≡ m ∷ [] → takes taken from (xs ++ e ∷ []) ≡ takes taken from xs ++ record { message = m; stamp = e.stamp } ∷ []
  takes_this from xs e m is = passed_this (λ (x : Entry M I F O R). at_one taken from x.input) xs e m is

  module _ (ids : ℕ → Option ℕ) where
    still_heard : (p q : ℕ) (old new : List (List (Entry M I F O R))) → KnowsMore old new → Hears posted taken ids p old → AreHeard (posts posted (ids p) (at new q)) (takes taken (ids q) (at old p))
    still_heard p q old new more h = heard_more (posts posted (ids p) (at old q)) (posts posted (ids p) (at new q)) (takes taken (ids q) (at old p)) (posts_begin (ids p) (at old q) (at new q) (more.begins q)) (h.from q)

    -- the lock's fact, where the place's history stays
    pub hears_more : (p : ℕ) (old new : List (List (Entry M I F O R))) → KnowsMore old new → at new p ≡ at old p → Hears posted taken ids p old → Hears posted taken ids p new
    hears_more p old new more same h = record {
      from = λ q. subst (λ (w : List (Entry M I F O R)). AreHeard (posts posted (ids p) (at new q)) (takes taken (ids q) w)) (sym same) (still_heard p q old new more h);
    }

    -- after an entry that takes nothing
    pub hears_call : (p : ℕ) (old new : List (List (Entry M I F O R))) (e : Entry M I F O R) → KnowsMore old new → at new p ≡ at old p ++ e ∷ [] → ((id : ℕ) → taken id e.input ≡ []) → Hears posted taken ids p old → Hears posted taken ids p new
    hears_call p old new e more is none h = record {
      from = λ q.
          let same : takes taken (ids q) (at new p) ≡ takes taken (ids q) (at old p) = ap (takes taken (ids q)) is ∙ takes_none (ids q) (at old p) e (at_none taken (ids q) e.input none) in
          subst (AreHeard (posts posted (ids p) (at new q))) (sym same) (still_heard p q old new more h);
    }

    -- and after a take of the next message
    pub hears_take : (from message_of : ℕ) (m : X) (p : ℕ) (old new : List (List (Entry M I F O R))) (e : Entry M I F O R) → AreApart ids → KnowsMore old new → at new p ≡ at old p ++ e ∷ []
        → ids from ≡ Some message_of → ((id : ℕ) → taken id e.input ≡ (if id == message_of then m ∷ [] else []))
        → IsNext posted taken ids from m p old → ((i : ℕ) (x : Entry M I F O R) → slice_get (at old from) i ≡ Some x → x.stamp < e.stamp) → Hears posted taken ids p old → Hears posted taken ids p new
    hears_take from sender m p old new e apart more is sender_is says next later h = record {
      from = λ q.
          dite (ℕ_discrete q from)
          (λ here. subst (λ (w : ℕ). AreHeard (posts posted (ids p) (at new w)) (takes taken (ids w) (at new p))) (sym here) of_sender)
          (λ away.
          let other : ids q ≢ Some sender = λ same. away (apart.apart q from sender same sender_is) in
          let same : takes taken (ids q) (at new p) ≡ takes taken (ids q) (at old p) = ap (takes taken (ids q)) is ∙ takes_none (ids q) (at old p) e (at_other taken (ids q) sender e.input m other says) in
          subst (AreHeard (posts posted (ids p) (at new q))) (sym same) (still_heard p q old new more h));
    }
      where
        of_sender : AreHeard (posts posted (ids p) (at new from)) (takes taken (ids from) (at new p))
        of_sender =
            let t : Passed X = record { message = m; stamp = e.stamp } in
            let grown : takes taken (ids from) (at new p) ≡ takes taken (ids from) (at old p) ++ t ∷ [] = ap (takes taken (ids from)) is ∙ takes_this (ids from) (at old p) e m (at_from taken (ids from) sender e.input m sender_is says) in
            let there : slice_get (posts posted (ids p) (at new from)) (length (takes taken (ids from) (at old p))) ≡ Some next.post =
            prefix_get (posts posted (ids p) (at old from)) (posts posted (ids p) (at new from)) (length (takes taken (ids from) (at old p))) next.post (posts_begin (ids p) (at old from) (at new from) (more.begins from)) next.stands in
            let before : next.post.stamp < e.stamp = passed_stamp (λ (x : Entry M I F O R). at_one posted (ids p) x.output) (λ (s : ℕ). s < e.stamp) (at old from) later (length (takes taken (ids from) (at old p))) next.post next.stands in
            subst (AreHeard (posts posted (ids p) (at new from))) (sym grown)
            (heard_next (posts posted (ids p) (at new from)) (takes taken (ids from) (at old p)) next.post t (still_heard p from old new more h) there (record { message = sym next.message_is; stamp = before }))

    -- where nothing was taken
    pub hears_none : (p : ℕ) (known : List (List (Entry M I F O R))) → at known p ≡ [] → Hears posted taken ids p known
    hears_none p known none = record {
      from = λ q. subst (λ (h : List (Entry M I F O R)). AreHeard (posts posted (ids p) (at known q)) (takes taken (ids q) h)) (sym none) (record { each = λ k take e. absurd cc });
    }

    -- the first of the copies is of the next post
    pub next_copy : (q : ℕ) (m : X) (more : List X) (p : ℕ) (known : List (List (Entry M I F O R))) → AreCopies (length (takes taken (ids q) (at known p))) (m ∷ more) (posts posted (ids p) (at known q)) → IsNext posted taken ids q m p known
    next_copy q m more p known are =
        let first = copies_first (length (takes taken (ids q) (at known p))) m more (posts posted (ids p) (at known q)) are in
        record { post = first.0; stands = first.1; message_is = first.2 }

    -- and once it is taken, the others are copies of those behind it
    pub copies_taken : (q : ℕ) (m : X) (more : List X) (p : ℕ) (old new : List (List (Entry M I F O R))) → KnowsMore old new → length (takes taken (ids q) (at new p)) ≡ length (takes taken (ids q) (at old p)) + 1
        → AreCopies (length (takes taken (ids q) (at old p))) (m ∷ more) (posts posted (ids p) (at old q)) → AreCopies (length (takes taken (ids q) (at new p))) more (posts posted (ids p) (at new q))
    copies_taken q m more p old new knows count are =
        let n = length (takes taken (ids q) (at old p)) in
        let e : suc n ≡ length (takes taken (ids q) (at new p)) = omega arith in
        subst (λ (k : ℕ). AreCopies k more (posts posted (ids p) (at new q))) e
        (copies_more (suc n) more (posts posted (ids p) (at old q)) (posts posted (ids p) (at new q)) (posts_begin (ids p) (at old q) (at new q) (knows.begins q)) (copies_rest n m more (posts posted (ids p) (at old q)) are))

    -- copies of what was known, from a number on, are those of what is known, behind what was taken
    pub copies_behind : (q : ℕ) (n k : ℕ) (copies : List X) (p : ℕ) (old new : List (List (Entry M I F O R))) → KnowsMore old new → k + n ≡ length (takes taken (ids q) (at new p))
        → AreCopies n copies (posts posted (ids p) (at old q)) → AreCopies (length (takes taken (ids q) (at new p))) (drop k copies) (posts posted (ids p) (at new q))
    copies_behind q n k copies p old new knows count are =
        subst (λ (j : ℕ). AreCopies j (drop k copies) (posts posted (ids p) (at new q))) count
        (copies_left k n copies (posts posted (ids p) (at new q)) (copies_more n copies (posts posted (ids p) (at old q)) (posts posted (ids p) (at new q)) (posts_begin (ids p) (at old q) (at new q) (knows.begins q)) are))

    -- as many takes as were known are known
    pub takes_known : (q n p : ℕ) (old new : List (List (Entry M I F O R))) → KnowsMore old new → n ≤ length (takes taken (ids q) (at old p)) → n ≤ length (takes taken (ids q) (at new p))
    takes_known q n p old new knows le =
        let more = prefix_length (takes taken (ids q) (at old p)) (takes taken (ids q) (at new p)) (takes_begin (ids q) (at old p) (at new p) (knows.begins p)) in omega arith

    -- nothing is posted to nobody
    posts_nowhere : (h : List (Entry M I F O R)) → posts posted None h ≡ []
    posts_nowhere [] = refl
    posts_nowhere (e ∷ es) = posts_nowhere es

    receives : (o : Option ℕ) (h : List (Entry M I F O R)) (k : ℕ) (post : Passed X) → slice_get (posts posted o h) k ≡ Some post → (id : ℕ) × (o ≡ Some id)
    receives (Some id) h k post stands = (id, refl)
    receives None h k post stands = let none : k < 0 = get_within [] k post (subst (λ (w : List (Passed X)). slice_get w k ≡ Some post) (posts_nowhere h) stands) in absurd (omega arith)

    -- where there is a post to take next, more was posted than is taken
    pub next_unheard : (q sender : ℕ) (m : X) (p : ℕ) (known : List (List (Entry M I F O R))) → ids q ≡ Some sender → IsNext posted taken ids q m p known → HasUnheard posted taken ids q p known
    next_unheard q sender m p known from next =
        let to = receives (ids p) (at known q) (length (takes taken (ids q) (at known p))) next.post next.stands in record {
          sender = sender;
          from = from;
          receiver = to.0;
          to = to.1;
          more = get_within (posts posted (ids p) (at known q)) (length (takes taken (ids q) (at known p))) next.post next.stands;
        }

    -- so it is in what another knows, who knows the same
    pub unheard_alike : (q p : ℕ) (v w : List (List (Entry M I F O R))) → KnowsSame v w → HasUnheard posted taken ids q p w → HasUnheard posted taken ids q p v
    unheard_alike q p v w alike h = record {
      sender = h.sender;
      from = h.from;
      receiver = h.receiver;
      to = h.to;
      more =
          subst (λ (a : List (Entry M I F O R)). length (takes taken (ids q) a) < length (posts posted (ids p) (at v q))) (sym (alike.same p))
          (subst (λ (b : List (Entry M I F O R)). length (takes taken (ids q) (at w p)) < length (posts posted (ids p) b)) (sym (alike.same q)) h.more);
    }
