-- How many messages members of the program pass, and those of the model: as many.
--     counts_posts, counts_takes        of entries and their images
use Rattle.std.proofs.Common.{◌≡◌, ℕ, zero, suc, List, [], ◌∷◌, length, map, refl, sym, ap, subst, ◌∙◌, arith, Bool, true, false, true≢false, cond, Some, length-append}
use Rattle.std.specs.Prelude.{◌==◌, filter, take, slice_get}
use Rattle.std.proofs.lemmas.Bool.Decides.{Decides-eqb}
use Rattle.std.specs.List.{AllZip}
use Rattle.model_members.specs.Message as sending
use Rattle.model_members.specs.Node as nodes
use Rattle.theorem_sections.specs.Histories as model
use Rattle.theorem_sections.specs.Histories.{taken_by, posted_to, taken_from}
use Rattle.model_kinds.specs.declared.operation.Op.{Op}
use Rattle.model_kinds.specs.declared.shown.Shown.{Shown}
use Rattle.data_lattice.specs.declared.replica.Replica.{Ghosts}
use Rattle.member_keeper.specs.declared.keeper.Keeper.{Ghosts as Keeping}
use Rattle.member_messages.specs.declared.message.Post.{Post}
use Rattle.member_node.specs.declared.input.Input.{Input}
use Rattle.member_node.specs.declared.input.Input.TheVariants as form
use Rattle.member_node.specs.declared.reply.Output.{Output}
use Rattle.world_places.specs.declared.sent.SentTo.{SentTo}
use Rattle.world_places.specs.Sketched.{sketched_post}
use Rattle.world_places.specs.Sending.{told_of}
use Rattle.thread_cluster.specs.Messages.{messages_to, messages_of}
use Rattle.thread_cluster.specs.Passing.{stamped, posts, takes}
use Rattle.thread_cluster.proofs.Posts.{length-stamped}
use Rattle.thread_run_order.specs.Images.{EntryOf, IsMeantBy, IsImage}

length-mapped : {X Y : Type 0} (f : X → Y) (xs : List X) → length (map f xs) ≡ length xs
length-mapped f [] = refl
length-mapped f (x ∷ xs) = ap suc (length-mapped f xs)

module _ {T Kind Delta : Type 0} {ghosts : Ghosts T Kind Op Delta} where
  -- what an output posts to one
  one_posts : (j : ℕ) (ps : List (Post T Kind Op Delta ghosts)) (ms : List (sending.Post Op)) → map told_of ps ≡ map sketched_post ms
      → length (messages_to j ps) ≡ length (filter (λ (post : sending.Post Op). post.to == j) ms)
  one_posts j [] [] e = refl
  one_posts j [] (m ∷ ms) e = absurd (cc e)
  one_posts j (p ∷ ps) [] e = absurd (cc e)
  one_posts j (p ∷ ps) (m ∷ ms) e =
      let first : told_of p ≡ sketched_post m = cc e in
      let rest : map told_of ps ≡ map sketched_post ms = cc e in
      by (p.to == j) (m.to == j) (ap (λ n. n == j) (ap (λ (s : SentTo). s.to) first)) (one_posts j ps ms rest)
    where
      by : (a b : Bool) → a ≡ b → length (messages_to j ps) ≡ length (filter (λ (post : sending.Post Op). post.to == j) ms)
          → length (cond a (p.message ∷ messages_to j ps) (messages_to j ps)) ≡ length (cond b (m ∷ filter (λ (post : sending.Post Op). post.to == j) ms) (filter (λ (post : sending.Post Op). post.to == j) ms))
      by true true is later = ap suc later
      by true false is later = absurd (cc is)
      by false true is later = absurd (cc is)
      by false false is later = later

  -- what an input takes from one
  one_takes : (i stamp : ℕ) (input : Input T Kind Op Delta ghosts) (sent : nodes.Input Op) → IsMeantBy input sent → length (messages_of i input) ≡ length (taken_by i stamp sent)
  one_takes i stamp (form.Update key op level) sent is = subst (λ s. 0 ≡ length (taken_by i stamp s)) (sym is) refl
  one_takes i stamp (form.Get key level) sent is = subst (λ s. 0 ≡ length (taken_by i stamp s)) (sym is) refl
  one_takes i stamp (form.Install view) sent is = subst (λ s. 0 ≡ length (taken_by i stamp s)) (sym is) refl
  one_takes i stamp form.Flush sent is = subst (λ s. 0 ≡ length (taken_by i stamp s)) (sym is) refl
  one_takes i stamp (form.GossipTo to) sent is = subst (λ s. 0 ≡ length (taken_by i stamp s)) (sym is) refl
  one_takes i stamp form.PruneTick sent is = subst (λ s. 0 ≡ length (taken_by i stamp s)) (sym is) refl
  one_takes i stamp (form.Timeout op) sent is = subst (λ s. 0 ≡ length (taken_by i stamp s)) (sym is) refl
  one_takes i stamp (form.Take from message) sent is =
      subst (λ s. length (messages_of i (form.Take from message)) ≡ length (taken_by i stamp s)) (sym is.1) (by (i == from) refl (from == i) refl)
    where
      by : (a : Bool) → (i == from) ≡ a → (b : Bool) → (from == i) ≡ b → length (cond a (message ∷ []) []) ≡ length {A = model.Passed Op} (cond b (record { message = is.0; stamp = stamp } ∷ []) [])
      by true p true q = refl
      by false p false q = refl
      by true p false q = absurd (true≢false (sym ((Decides-eqb from i).1 (sym ((Decides-eqb i from).0 p))) ∙ q))
      by false p true q = absurd (true≢false (sym ((Decides-eqb i from).1 (sym ((Decides-eqb from i).0 q))) ∙ p))

module _ {T K Kind Delta : Type 0} {ghosts : Ghosts T Kind Op Delta} {keeping : Keeping K} where
  abbrev pub code_posts : ℕ → List (EntryOf ghosts keeping) → ℕ
  code_posts j es = length (posts (λ id (output : Output T Kind Op Delta ghosts). messages_to id output.posts) (Some j) es)

  abbrev pub code_takes : ℕ → List (EntryOf ghosts keeping) → ℕ
  code_takes i es = length (takes messages_of (Some i) es)

  pub counts_posts : (j : ℕ) (es : List (EntryOf ghosts keeping)) (ms : List (model.Entry Op Shown)) → AllZip IsImage es ms → code_posts j es ≡ length (posted_to j ms)
  counts_posts j [] [] all = refl
  counts_posts j [] (m ∷ ms) all = absurd all
  counts_posts j (e ∷ es) [] all = absurd all
  counts_posts j (e ∷ es) (m ∷ ms) all =
      let here = messages_to j e.output.posts in
      let there = filter (λ (post : sending.Post Op). post.to == j) m.output.posts in
      let told : List (model.Passed Op) = map (λ (post : sending.Post Op). record { message = post.message; stamp = m.stamp }) there in
      let a = length-append (stamped e.stamp here) (posts (λ id (output : Output T Kind Op Delta ghosts). messages_to id output.posts) (Some j) es) in
      let b = length-append told (posted_to j ms) in
      let c = length-stamped e.stamp here in
      let d = length-mapped {Y = model.Passed Op} (λ (post : sending.Post Op). record { message = post.message; stamp = m.stamp }) there in
      let f = one_posts j e.output.posts m.output.posts all.0.posts in
      let g = counts_posts j es ms all.1 in
      omega (arith, a, b, c, d, f, g)

  pub counts_takes : (i : ℕ) (es : List (EntryOf ghosts keeping)) (ms : List (model.Entry Op Shown)) → AllZip IsImage es ms → code_takes i es ≡ length (taken_from i ms)
  counts_takes i [] [] all = refl
  counts_takes i [] (m ∷ ms) all = absurd all
  counts_takes i (e ∷ es) [] all = absurd all
  counts_takes i (e ∷ es) (m ∷ ms) all =
      let a = length-append (stamped e.stamp (messages_of i e.input)) (takes messages_of (Some i) es) in
      let b = length-append (taken_by i m.stamp m.input) (taken_from i ms) in
      let c = length-stamped e.stamp (messages_of i e.input) in
      let d = one_takes i m.stamp e.input m.input all.0.input in
      let f = counts_takes i es ms all.1 in
      omega (arith, a, b, c, d, f)

  -- of the first entries alone
  pub first_images : (n : ℕ) (es : List (EntryOf ghosts keeping)) (ms : List (model.Entry Op Shown)) → AllZip IsImage es ms → AllZip IsImage (take n es) (take n ms)
  first_images zero es ms all = tt
  first_images (suc n) [] [] all = tt
  first_images (suc n) [] (m ∷ ms) all = absurd all
  first_images (suc n) (e ∷ es) [] all = absurd all
  first_images (suc n) (e ∷ es) (m ∷ ms) all = (all.0, first_images n es ms all.1)

  -- the image of an entry
  pub image_at : (k : ℕ) (es : List (EntryOf ghosts keeping)) (ms : List (model.Entry Op Shown)) (e : EntryOf ghosts keeping) → AllZip IsImage es ms → slice_get es k ≡ Some e
      → (m : model.Entry Op Shown) × (slice_get ms k ≡ Some m) × IsImage e m
  image_at k [] ms e all at = absurd (cc at)
  image_at k (y ∷ es) [] e all at = absurd all
  image_at zero (y ∷ es) (m ∷ ms) e all at = let same : y ≡ e = cc at in (m, refl, subst (λ (x : EntryOf ghosts keeping). IsImage x m) same all.0)
  image_at (suc k) (y ∷ es) (m ∷ ms) e all at = image_at k es ms e all.1 at

  -- what an entry is the image of
  pub source_at : (k : ℕ) (es : List (EntryOf ghosts keeping)) (ms : List (model.Entry Op Shown)) (m : model.Entry Op Shown) → AllZip IsImage es ms → slice_get ms k ≡ Some m
      → (e : EntryOf ghosts keeping) × (slice_get es k ≡ Some e) × IsImage e m
  source_at k [] [] m all at = absurd (cc at)
  source_at k [] (y ∷ ms) m all at = absurd all
  source_at k (e ∷ es) [] m all at = absurd (cc at)
  source_at zero (e ∷ es) (y ∷ ms) m all at = let same : y ≡ m = cc at in (e, refl, subst (λ (x : model.Entry Op Shown). IsImage e x) same all.0)
  source_at (suc k) (e ∷ es) (y ∷ ms) m all at = source_at k es ms m all.1 at

  pub as_many : (es : List (EntryOf ghosts keeping)) (ms : List (model.Entry Op Shown)) → AllZip IsImage es ms → length ms ≡ length es
  as_many [] [] all = refl
  as_many [] (m ∷ ms) all = absurd all
  as_many (e ∷ es) [] all = absurd all
  as_many (e ∷ es) (m ∷ ms) all = ap suc (as_many es ms all.1)
