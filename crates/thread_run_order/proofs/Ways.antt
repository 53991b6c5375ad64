-- Messages on their way between members, in the program and in the model, link by link.
--     OnTheWay        what is posted and not taken yet, on one link
--     Ways        on all links between members
--     ways_posted, ways_taken        a member posts messages, and takes the first one on its way
use Rattle.std.proofs.Common.{◌≡◌, ◌≢◌, ⊎_elim, ℕ, zero, suc, ◌+◌, ◌<◌, ◌≤◌, refl, sym, ap, subst, ◌∙◌, true, false, Bool, cond, List, [], ◌∷◌, ◌++◌, length, map, drop, Option, Some, None, arith, length-append, append_assoc}
use Rattle.std.specs.Prelude.{◌==◌, ◌&&◌, if◌then◌else◌, filter, flat_map, slice_get, option_map}
use Rattle.std.proofs.lemmas.List.{append-nil, map-append, drop-append-le}
use Rattle.model_history.specs.Table.{with_at}
use Rattle.model_history.proofs.PartLaws.{slice_get-dropped}
use Rattle.model_members.specs.Message.{Message, Post}
use Rattle.model_members.specs.World.{Links, with_posts, moved_on}
use Rattle.theorem_sections.specs.Histories.{Entry, Placed, Passed, posted_to, entries_at}
use Rattle.theorem_sections.specs.Queues.{sent, stamped}
use Rattle.theorem_sections.proofs.NextDue.{same_or_not, table_here, table_else}
use Rattle.theorem_sections.proofs.RunOrder.{is_same, is_other, entries_here, entries_else, posts_of, posts_are_sent, messages_on, posts_messages, moved_messages}
use Rattle.world_places.specs.Channels.{Channel, message_on, passed, extended}

drop_first : {Y : Type 0} (d : ℕ) (xs : List Y) (y : Y) (ys : List Y) → drop d xs ≡ y ∷ ys → slice_get xs d ≡ Some y
drop_first zero [] y ys e = absurd (cc e)
drop_first zero (x ∷ xs) y ys e = cc e
drop_first (suc d) [] y ys e = absurd (cc e)
drop_first (suc d) (x ∷ xs) y ys e = drop_first d xs y ys e

drop_next : {Y : Type 0} (d : ℕ) (xs : List Y) (y : Y) (ys : List Y) → drop d xs ≡ y ∷ ys → drop (suc d) xs ≡ ys
drop_next zero [] y ys e = absurd (cc e)
drop_next zero (x ∷ xs) y ys e = cc e
drop_next (suc d) [] y ys e = absurd (cc e)
drop_next (suc d) (x ∷ xs) y ys e = drop_next d xs y ys e

drop_within : {Y : Type 0} (d : ℕ) (xs : List Y) (y : Y) (ys : List Y) → drop d xs ≡ y ∷ ys → d < length xs
drop_within zero [] y ys e = absurd (cc e)
drop_within zero (x ∷ xs) y ys e = omega arith
drop_within (suc d) [] y ys e = absurd (cc e)
drop_within (suc d) (x ∷ xs) y ys e = let l = drop_within d xs y ys e in omega arith

-- lists of equal lengths, where only the lengths count
same_stamps : {A B : Type 0} (s : ℕ) (xs : List A) (ys : List B) → length xs ≡ length ys → map (λ (x : A). s) xs ≡ map (λ (y : B). s) ys
same_stamps s [] [] e = refl
same_stamps s [] (y ∷ ys) e = absurd (omega (arith, e))
same_stamps s (x ∷ xs) [] e = absurd (omega (arith, e))
same_stamps s (x ∷ xs) (y ∷ ys) e = ap (λ ss. s ∷ ss) (same_stamps s xs ys (omega (arith, e)))

module _ {X : Type 0} where
  abbrev pub message_of : X × ℕ → X
  message_of p = p.0

  abbrev pub stamp_of : X × ℕ → ℕ
  stamp_of p = p.1

  stamped_messages : (s : ℕ) (xs : List X) → map message_of (stamped s xs) ≡ xs
  stamped_messages s [] = refl
  stamped_messages s (x ∷ xs) = ap (λ ys. x ∷ ys) (stamped_messages s xs)

  stamped_stamps : (s : ℕ) (xs : List X) → map stamp_of (stamped s xs) ≡ map (λ (x : X). s) xs
  stamped_stamps s [] = refl
  stamped_stamps s (x ∷ xs) = ap (λ ys. s ∷ ys) (stamped_stamps s xs)

passed_stamps : {Op : Type 0} (s : ℕ) (posts : List (Post Op)) → map (λ (p : Passed Op). p.stamp) (map (λ (post : Post Op). record { message = post.message; stamp = s }) posts) ≡ map (λ (post : Post Op). s) posts
passed_stamps s [] = refl
passed_stamps s (post ∷ posts) = ap (λ ys. s ∷ ys) (passed_stamps s posts)

fits_on : {X : Type 0} (d : ℕ) (c : Channel X) → c.next ≤ d → (passed d c).next ≤ suc d
fits_on d c h = go (c.next == d)
  where
    go : (b : Bool) → (if b then suc d else c.next) ≤ suc d
    go true = omega arith
    go false = omega arith

one_id : (ids : ℕ → Option ℕ) (a i j : ℕ) → ids a ≡ Some i → ids a ≡ Some j → i ≡ j
one_id ids a i j e f = let g = sym e ∙ f in cc g

module _ {X Op : Type 0} where
  pub record OnTheWay (queue : List (X × ℕ)) (messages : List (Passed Op)) (due : ℕ) (o : Option (Channel X)) (link : List (Message Op)) : Type 0 where
    pub channel : Channel X
    pub there : o ≡ Some channel
    pub waiting : map message_of queue ≡ drop due channel.messages
    pub within : due ≤ length channel.messages
    pub fits : channel.next ≤ due
    pub meant : map (λ (p : Passed Op). p.message) messages ≡ drop due link
    pub meant_within : due ≤ length link
    pub stamps : map (λ (p : Passed Op). p.stamp) messages ≡ map stamp_of queue

  way_is : (q q' : List (X × ℕ)) (ms ms' : List (Passed Op)) (d d' : ℕ) (o o' : Option (Channel X)) (l l' : List (Message Op)) → q' ≡ q → ms' ≡ ms → d' ≡ d → o' ≡ o → l' ≡ l → OnTheWay q ms d o l → OnTheWay q' ms' d' o' l'
  way_is q q' ms ms' d d' o o' l l' e1 e2 e3 e4 e5 way =
      subst (λ q. OnTheWay q ms' d' o' l') (sym e1) (subst (λ ms. OnTheWay q ms d' o' l') (sym e2) (subst (λ d. OnTheWay q ms d o' l') (sym e3) (subst (λ o. OnTheWay q ms d o l') (sym e4) (subst (OnTheWay q ms d o) (sym e5) way))))

  -- messages are posted
  way_sent : (q : List (X × ℕ)) (ms : List (Passed Op)) (d : ℕ) (o : Option (Channel X)) (l : List (Message Op)) (more : List (X × ℕ)) (posts : List X) (meant_more : List (Passed Op)) → map message_of more ≡ posts → map (λ (p : Passed Op). p.stamp) meant_more ≡ map stamp_of more
      → OnTheWay q ms d o l → OnTheWay (q ++ more) (ms ++ meant_more) d (option_map (extended posts) o) (l ++ map (λ (p : Passed Op). p.message) meant_more)
  way_sent q ms d o l more posts meant_more are same way =
      record {
        channel = extended posts way.channel;
        there = ap (option_map (extended posts)) way.there;
        waiting = map-append message_of q more ∙ ap (λ xs. xs ++ map message_of more) way.waiting ∙ ap (λ xs. drop d way.channel.messages ++ xs) are ∙ sym (drop-append-le d way.channel.messages posts way.within);
        within = let h = way.within in omega (arith, h, length-append way.channel.messages posts);
        fits = way.fits;
        meant = map-append (λ (p : Passed Op). p.message) ms meant_more ∙ ap (λ xs. xs ++ map (λ (p : Passed Op). p.message) meant_more) way.meant ∙ sym (drop-append-le d l (map (λ (p : Passed Op). p.message) meant_more) way.meant_within);
        meant_within = let h = way.meant_within in omega (arith, h, length-append l (map (λ (p : Passed Op). p.message) meant_more));
        stamps = map-append (λ (p : Passed Op). p.stamp) ms meant_more ∙ ap (λ xs. xs ++ map (λ (p : Passed Op). p.stamp) meant_more) way.stamps ∙ ap (λ xs. map stamp_of q ++ xs) same ∙ sym (map-append stamp_of q more);
      }

  -- the first one is taken
  pub record WayOn (m : X) (s : ℕ) (q : List (X × ℕ)) (ms : List (Passed Op)) (d : ℕ) (o : Option (Channel X)) (l : List (Message Op)) : Type 0 where
    pub first : Passed Op
    pub rest : List (Passed Op)
    pub is : ms ≡ first ∷ rest
    pub posted : first.stamp ≡ s
    pub meant_there : slice_get l d ≡ Some first.message
    pub there : message_on o d ≡ Some m
    pub on : OnTheWay q rest (suc d) (option_map (passed d) o) l

  pub way_taken : (m : X) (s : ℕ) (q : List (X × ℕ)) (ms : List (Passed Op)) (d : ℕ) (o : Option (Channel X)) (l : List (Message Op)) → OnTheWay ((m, s) ∷ q) ms d o l → WayOn m s q ms d o l
  way_taken m s q [] d o l way = absurd (let e = way.stamps in cc e)
  way_taken m s q (first ∷ rest) d o l way =
      let w = sym way.waiting in
      let v = sym way.meant in
      let e = way.stamps in
      record {
        first = first;
        rest = rest;
        is = refl;
        posted = cc e;
        meant_there = drop_first d l first.message (map (λ (p : Passed Op). p.message) rest) v;
        there = ap (λ x. message_on x d) way.there ∙ drop_first d way.channel.messages m (map message_of q) w;
        on = record {
          channel = passed d way.channel;
          there = ap (option_map (passed d)) way.there;
          waiting = sym (drop_next d way.channel.messages m (map message_of q) w);
          within = drop_within d way.channel.messages m (map message_of q) w;
          fits = fits_on d way.channel way.fits;
          meant = sym (drop_next d l first.message (map (λ (p : Passed Op). p.message) rest) v);
          meant_within = drop_within d l first.message (map (λ (p : Passed Op). p.message) rest) v;
          stamps = cc e;
        };
      }

-- ALL LINKS BETWEEN MEMBERS

module _ {X Op : Type 0} (ids : ℕ → Option ℕ) (apart : (a b i : ℕ) → ids a ≡ Some i → ids b ≡ Some i → a ≡ b) where
  abbrev pub Ways : (ℕ → ℕ → List (X × ℕ)) → (ℕ → ℕ → List (Passed Op)) → (ℕ → ℕ → ℕ) → (ℕ → ℕ → Option (Channel X)) → Links Op → Type 0
  Ways queue messages due channels links = (a b i j : ℕ) → ids a ≡ Some i → ids b ≡ Some j → OnTheWay (queue a b) (messages i j) (due i j) (channels i j) (messages_on links i j)

  module _ {E Shown : Type 0} (at stamp : E → ℕ) (posts : E → ℕ → List X) (queue : ℕ → ℕ → List (X × ℕ)) (messages : ℕ → ℕ → List (Passed Op)) (due : ℕ → ℕ → ℕ) (channels channels' : ℕ → ℕ → Option (Channel X)) (links : Links Op) (x : E) (k : ℕ) (here : ids (at x) ≡ Some k) (m : Entry Op Shown) (same_stamp : m.stamp ≡ stamp x)
      (to_whom : ℕ → List X) (sends : (a b : ℕ) → channels' a b ≡ (if a == k then option_map (extended (to_whom b)) (channels a b) else channels a b)) (posts_are : (b j : ℕ) → ids b ≡ Some j → posts x b ≡ to_whom j)
      (counts : (j : ℕ) → length (to_whom j) ≡ length (filter (λ (post : Post Op). post.to == j) m.output.posts)) where
    abbrev px : Placed Op Shown
    px = record { at = k; entry = m }

    -- the posts of one entry
    one_here : (b : ℕ) → sent at stamp posts (at x) b (x ∷ []) ≡ stamped (stamp x) (posts x b)
    one_here b = ap (λ t. flat_map (λ e. stamped (stamp e) (posts e b)) (cond t (x ∷ []) [])) (is_same (at x) (at x) refl) ∙ append-nil (stamped (stamp x) (posts x b))

    one_else : (a b : ℕ) → at x ≢ a → sent at stamp posts a b (x ∷ []) ≡ []
    one_else a b other = ap (λ t. flat_map (λ e. stamped (stamp e) (posts e b)) (cond t (x ∷ []) [])) (is_other (at x) a other)

    stamps_here : (j : ℕ) → map (λ (p : Passed Op). p.stamp) (posts_of px k j) ≡ map stamp_of (stamped (stamp x) (to_whom j))
    stamps_here j =
        ap (λ es. map (λ (p : Passed Op). p.stamp) (posted_to j es)) (entries_here k px [] refl)
        ∙ ap (map (λ (p : Passed Op). p.stamp)) (append-nil (map (λ (post : Post Op). record { message = post.message; stamp = m.stamp }) (filter (λ (post : Post Op). post.to == j) m.output.posts)))
        ∙ passed_stamps m.stamp (filter (λ (post : Post Op). post.to == j) m.output.posts)
        ∙ ap (λ s. map (λ (post : Post Op). s) (filter (λ (post : Post Op). post.to == j) m.output.posts)) same_stamp
        ∙ same_stamps (stamp x) (filter (λ (post : Post Op). post.to == j) m.output.posts) (to_whom j) (sym (counts j)) ∙ sym (stamped_stamps (stamp x) (to_whom j))

    pub ways_posted : Ways queue messages due channels links → Ways (λ a b. queue a b ++ sent at stamp posts a b (x ∷ [])) (λ i j. messages i j ++ posts_of px i j) due channels' (with_posts links k m.output.posts)
    ways_posted ways a b i j of_a of_b = ⊎_elim
        (λ (is : at x ≡ a).
        let same : i ≡ k = one_id ids a i k of_a (subst (λ c. ids c ≡ Some k) is here) in
        let more : sent at stamp posts a b (x ∷ []) ≡ stamped (stamp x) (to_whom j) = subst (λ c. sent at stamp posts c b (x ∷ []) ≡ stamped (stamp x) (to_whom j)) is (one_here b ∙ ap (stamped (stamp x)) (posts_are b j of_b)) in
        way_is (queue a b ++ stamped (stamp x) (to_whom j)) (queue a b ++ sent at stamp posts a b (x ∷ [])) (messages i j ++ posts_of px i j) (messages i j ++ posts_of px i j) (due i j) (due i j) (option_map (extended (to_whom j)) (channels i j)) (channels' i j)
        (messages_on links i j ++ map (λ (p : Passed Op). p.message) (posts_of px i j)) (messages_on (with_posts links k m.output.posts) i j)
        (ap (λ xs. queue a b ++ xs) more) refl refl (sends i j ∙ ap (λ t. if t then option_map (extended (to_whom j)) (channels i j) else channels i j) (is_same i k same))
        (posts_messages k links m.output.posts i j ∙ ap (λ xs. messages_on links i j ++ xs) (sym (posts_are_sent px i j)))
        (way_sent (queue a b) (messages i j) (due i j) (channels i j) (messages_on links i j) (stamped (stamp x) (to_whom j)) (to_whom j) (posts_of px i j) (stamped_messages (stamp x) (to_whom j))
        (subst (λ n. map (λ (p : Passed Op). p.stamp) (posts_of px n j) ≡ map stamp_of (stamped (stamp x) (to_whom j))) (sym same) (stamps_here j)) (ways a b i j of_a of_b)))
        (λ other.
        let differs : i ≢ k = λ same. other (apart (at x) a k here (subst (λ n. ids a ≡ Some n) same of_a)) in
        let none : posts_of px i j ≡ [] = ap (posted_to j) (entries_else i px [] (λ e. differs (sym e))) in
        way_is (queue a b) (queue a b ++ sent at stamp posts a b (x ∷ [])) (messages i j) (messages i j ++ posts_of px i j) (due i j) (due i j) (channels i j) (channels' i j) (messages_on links i j) (messages_on (with_posts links k m.output.posts) i j)
        (ap (λ xs. queue a b ++ xs) (one_else a b other) ∙ append-nil (queue a b)) (ap (λ xs. messages i j ++ xs) none ∙ append-nil (messages i j)) refl
        (sends i j ∙ ap (λ t. if t then option_map (extended (to_whom j)) (channels i j) else channels i j) (is_other i k differs))
        (posts_messages k links m.output.posts i j ∙ ap (λ xs. messages_on links i j ++ xs) (sym (posts_are_sent px i j) ∙ ap (map (λ (p : Passed Op). p.message)) none) ∙ append-nil (messages_on links i j))
        (ways a b i j of_a of_b))
        (same_or_not (at x) a)

  module _ (queue : ℕ → ℕ → List (X × ℕ)) (messages : ℕ → ℕ → List (Passed Op)) (due : ℕ → ℕ → ℕ) (channels : ℕ → ℕ → Option (Channel X)) (links : Links Op) (ways : Ways queue messages due channels links) (from at f k : ℕ) (from_is : ids from ≡ Some f) (at_is : ids at ≡ Some k) (m : X) (s : ℕ) (others : List (X × ℕ)) (first : queue from at ≡ (m, s) ∷ others) where
    abbrev pub next : WayOn m s others (messages f k) (due f k) (channels f k) (messages_on links f k)
    next = way_taken m s others (messages f k) (due f k) (channels f k) (messages_on links f k) (subst (λ q. OnTheWay q (messages f k) (due f k) (channels f k) (messages_on links f k)) first (ways from at f k from_is at_is))

    abbrev pub channels_on : ℕ → ℕ → Option (Channel X)
    channels_on a b = if (a == f) && (b == k) then option_map (passed (due f k)) (channels a b) else channels a b

    here_both : (i j : ℕ) → i ≡ f → j ≡ k → channels_on i j ≡ option_map (passed (due f k)) (channels i j)
    here_both i j e h = ap (λ t. if t && (j == k) then option_map (passed (due f k)) (channels i j) else channels i j) (is_same i f e) ∙ ap (λ t. if t then option_map (passed (due f k)) (channels i j) else channels i j) (is_same j k h)

    else_one : (i j : ℕ) → (i ≡ f → j ≢ k) → channels_on i j ≡ channels i j
    else_one i j away = ⊎_elim
        (λ (e : i ≡ f). ap (λ t. if t && (j == k) then option_map (passed (due f k)) (channels i j) else channels i j) (is_same i f e) ∙ ap (λ t. if t then option_map (passed (due f k)) (channels i j) else channels i j) (is_other j k (away e)))
        (λ other. ap (λ t. if t && (j == k) then option_map (passed (due f k)) (channels i j) else channels i j) (is_other i f other))
        (same_or_not i f)

    pub ways_taken : Ways (with_at queue from (with_at (queue from) at others)) (with_at messages f (with_at (messages f) k next.rest)) (with_at due f (with_at (due f) k (suc (due f k)))) channels_on (moved_on links f k (due f k))
    ways_taken a b i j of_a of_b = ⊎_elim
        (λ (is : a ≡ from). ⊎_elim
        (λ (is' : b ≡ at).
        let e : i ≡ f = one_id ids a i f of_a (subst (λ c. ids c ≡ Some f) (sym is) from_is) in
        let h : j ≡ k = one_id ids b j k of_b (subst (λ c. ids c ≡ Some k) (sym is') at_is) in
        way_is others (with_at queue from (with_at (queue from) at others) a b) next.rest (with_at messages f (with_at (messages f) k next.rest) i j) (suc (due f k)) (with_at due f (with_at (due f) k (suc (due f k))) i j) (option_map (passed (due f k)) (channels f k)) (channels_on i j) (messages_on links f k) (messages_on (moved_on links f k (due f k)) i j)
        (table_here queue from at others a b is is') (table_here messages f k next.rest i j e h) (table_here due f k (suc (due f k)) i j e h)
        (here_both i j e h ∙ ap (λ n. option_map (passed (due f k)) (channels n j)) e ∙ ap (λ n. option_map (passed (due f k)) (channels f n)) h)
        (moved_messages links f k (due f k) i j ∙ ap (λ n. messages_on links n j) e ∙ ap (λ n. messages_on links f n) h) next.on)
        (λ isnt. apart_way a b i j of_a of_b (λ _. isnt) (λ e h. isnt (apart b at k (subst (λ n. ids b ≡ Some n) h of_b) at_is)))
        (same_or_not b at))
        (λ isnt. apart_way a b i j of_a of_b (λ is. absurd (isnt is)) (λ e h. isnt (apart a from f (subst (λ n. ids a ≡ Some n) e of_a) from_is)))
        (same_or_not a from)
      where
        apart_way : (a b i j : ℕ) → ids a ≡ Some i → ids b ≡ Some j → (a ≡ from → b ≢ at) → (i ≡ f → j ≢ k)
            → OnTheWay (with_at queue from (with_at (queue from) at others) a b) (with_at messages f (with_at (messages f) k next.rest) i j) (with_at due f (with_at (due f) k (suc (due f k))) i j) (channels_on i j) (messages_on (moved_on links f k (due f k)) i j)
        apart_way a b i j of_a of_b away away' =
            way_is (queue a b) (with_at queue from (with_at (queue from) at others) a b) (messages i j) (with_at messages f (with_at (messages f) k next.rest) i j) (due i j) (with_at due f (with_at (due f) k (suc (due f k))) i j) (channels i j) (channels_on i j) (messages_on links i j) (messages_on (moved_on links f k (due f k)) i j)
            (table_else queue from at others a b away) (table_else messages f k next.rest i j away') (table_else due f k (suc (due f k)) i j away') (else_one i j away') (moved_messages links f k (due f k) i j) (ways a b i j of_a of_b)
