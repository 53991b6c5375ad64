-- The first entries of a history are among those up to a stamp, so what holds of a member after the first holds after the second.
use Rattle.std.proofs.Common.{◌≡◌, ℕ, zero, suc, ◌<◌, ◌≤◌, List, [], ◌∷◌, ◌++◌, length, refl, sym, ap, subst, ◌∙◌, arith, true, false, Option, Some, None, length-append}
use Rattle.std.specs.Prelude.{slice_get, take, option_map, IsTrue}
use Rattle.model_members.specs.View.{is_member}
use Rattle.model_members.specs.DataType.{Replication}
use Rattle.model_members.specs.Node.{Node, Reply, Output}
use Rattle.model_members.specs.Step.{step, is_full}
use Rattle.model_members.specs.World.{World}
use Rattle.theorem_operations.proofs.Opening.{opening_tells}
use Rattle.theorem_sections.specs.Sections.{is_open, node_full}
use Rattle.theorem_sections.specs.Histories.{Entry, taken_from, RiseAbove, AreSteps, replayed, AreHistories}
use Rattle.theorem_sections.specs.Paths.{until, member_until}
use Rattle.theorem_sections.specs.Knowing.{member_after}
use Rattle.theorem_sections.proofs.RunOrder.{taken-append}
use Rattle.theorem_sections.proofs.Untils.{until_in, until_none, until_begins, rise_at, steps_first, full_stays, replayed-append, numbers_grow, closed_since}

module _ {Op Shown : Type 0} where
  -- none of the first entries, so many, has a stamp above this
  abbrev pub AreUpTo : ℕ → ℕ → List (Entry Op Shown) → Type 0
  AreUpTo u n es = (k : ℕ) (e : Entry Op Shown) → slice_get es k ≡ Some e → k < n → e.stamp ≤ u

  pub first_until : (u n : ℕ) (es : List (Entry Op Shown)) → AreUpTo u n es → (more : List (Entry Op Shown)) × (take n es ++ more ≡ until u es)
  first_until u zero es h = (until u es, refl)
  first_until u (suc n) [] h = ([], refl)
  first_until u (suc n) (e ∷ es) h =
      let later = first_until u n es (λ k x at l. h (suc k) x at (omega (arith, l))) in
      (later.0, ap (λ xs. e ∷ xs) later.1 ∙ sym (until_in u e es (h zero e refl (omega arith))))

  -- the entries up to the stamp of one are those before it, and it
  pub until_one : (m k : ℕ) (es : List (Entry Op Shown)) (e : Entry Op Shown) → RiseAbove m es → slice_get es k ≡ Some e → until e.stamp es ≡ take (suc k) es
  until_one m k [] e r at = absurd (cc at)
  until_one m zero (x ∷ es) e r at =
      let same : x ≡ e = cc at in
      until_in e.stamp x es (subst (λ (y : Entry Op Shown). x.stamp ≤ y.stamp) same (omega arith)) ∙ ap (λ xs. x ∷ xs) (until_none e.stamp es (subst (λ (y : Entry Op Shown). RiseAbove y.stamp es) same r.1))
  until_one m (suc k) (x ∷ es) e r at =
      until_in e.stamp x es (let a = rise_at x.stamp es k e r.1 at in omega (arith, a)) ∙ ap (λ xs. x ∷ xs) (until_one x.stamp k es e r.1 at)

  -- what stands among the first entries
  pub stands_first : (n k : ℕ) (es : List (Entry Op Shown)) (e : Entry Op Shown) → slice_get es k ≡ Some e → k < n → slice_get (take n es) k ≡ Some e
  stands_first zero k es e at h = absurd (omega (arith, h))
  stands_first (suc n) k [] e at h = absurd (cc at)
  stands_first (suc n) zero (x ∷ es) e at h = at
  stands_first (suc n) (suc k) (x ∷ es) e at h = stands_first n k es e at (omega (arith, h))

  pub first_stands : (n k : ℕ) (es : List (Entry Op Shown)) (e : Entry Op Shown) → slice_get (take n es) k ≡ Some e → (slice_get es k ≡ Some e) × (k < n)
  first_stands zero k es e at = absurd (cc at)
  first_stands (suc n) k [] e at = absurd (cc at)
  first_stands (suc n) zero (x ∷ es) e at = (at, omega arith)
  first_stands (suc n) (suc k) (x ∷ es) e at = let h = first_stands n k es e at in (h.0, let l = h.1 in omega (arith, l))

  -- an entry with a lower stamp stands before
  pub before_by_stamp : (m k l : ℕ) (es : List (Entry Op Shown)) (e f : Entry Op Shown) → RiseAbove m es → slice_get es k ≡ Some e → slice_get es l ≡ Some f → e.stamp < f.stamp → k < l
  before_by_stamp m k l [] e f r at at' h = absurd (cc at)
  before_by_stamp m zero zero (x ∷ es) e f r at at' h =
      let same : e ≡ f = (let s : Some e ≡ Some f = sym at ∙ at' in cc s) in
      let s = ap (λ (y : Entry Op Shown). y.stamp) same in absurd (omega (arith, h, s))
  before_by_stamp m zero (suc l) (x ∷ es) e f r at at' h = omega arith
  before_by_stamp m (suc k) zero (x ∷ es) e f r at at' h =
      let same : x ≡ f = cc at' in
      let s = ap (λ (y : Entry Op Shown). y.stamp) same in let a = rise_at x.stamp es k e r.1 at in absurd (omega (arith, h, s, a))
  before_by_stamp m (suc k) (suc l) (x ∷ es) e f r at at' h = let a = before_by_stamp x.stamp k l es e f r.1 at at' h in omega (arith, a)

module _ {Kind Op Shown : Type 0} (D : Replication Kind Op Shown) where
  -- an operation that was answered Pending has a number below the next one
  pub number_of_pending : (op k : ℕ) (n : Node Kind Op Shown) (es : List (Entry Op Shown)) (e : Entry Op Shown) → AreSteps D n es → slice_get es k ≡ Some e → e.output.reply ≡ Reply.Pending op → op < (replayed D n es).next_op
  number_of_pending op k n [] e steps at reply = absurd (cc at)
  number_of_pending op zero n (y ∷ es) e steps at reply =
      let same : y ≡ e = cc at in
      let s = step D n y.input y.fate in
      let opens = opening_tells D n 0 op y.input y.fate (sym (ap (λ (o : Output Op Shown). o.reply) steps.2) ∙ ap (λ (x : Entry Op Shown). x.output.reply) same ∙ reply) in
      let a = opens.number in let b = opens.next in let c = numbers_grow D s.node es in omega (arith, a, b, c)
  number_of_pending op (suc k) n (y ∷ es) e steps at reply = number_of_pending op k (step D n y.input y.fate).node es e steps.3 at reply

  module _ (world : World Kind Op Shown) (histories : ℕ → List (Entry Op Shown)) (all : AreHistories D world histories) (runs_in : (i : ℕ) (n : Node Kind Op Shown) → world.nodes i ≡ Some n → IsTrue (is_member world.view i)) where
    -- the steps of a running member
    pub steps_of_node : (i : ℕ) (b : Node Kind Op Shown) → world.nodes i ≡ Some b → AreSteps D b (histories i)
    steps_of_node i b is =
        let at = all.steps i (runs_in i b is) in
        let same : at.0 ≡ b = cc (sym at.1 ∙ is) in
        subst (λ n. AreSteps D n (histories i)) same at.2

    module _ (u i n : ℕ) (early : AreUpTo u n (histories i)) where
      abbrev firsts : List (Entry Op Shown)
      firsts = take n (histories i)

      abbrev pub among : (more : List (Entry Op Shown)) × (firsts ++ more ≡ until u (histories i))
      among = first_until u n (histories i) early

      -- takes
      pub taken_until : (from : ℕ) → length (taken_from from firsts) ≤ length (taken_from from (until u (histories i)))
      taken_until from =
          let e = ap length (ap (taken_from from) (sym among.1) ∙ taken-append from firsts among.0) ∙ length-append (taken_from from firsts) (taken_from from among.0) in
          omega (arith, e)

      steps_until : (b : Node Kind Op Shown) → world.nodes i ≡ Some b → AreSteps D b (firsts ++ among.0)
      steps_until b is =
          let begin = until_begins u 0 (histories i) (all.rise i) in
          subst (AreSteps D b) (sym among.1) (steps_first D b (until u (histories i)) begin.0 (subst (AreSteps D b) (sym begin.1) (steps_of_node i b is)))

      -- full members
      pub full_until : node_full D (member_after D world histories i n) ≡ true → node_full D (member_until D world histories i u) ≡ true
      full_until full = by (world.nodes i) refl full
        where
          by : (o : Option (Node Kind Op Shown)) → world.nodes i ≡ o → node_full D (option_map (λ b. replayed D b firsts) o) ≡ true → node_full D (option_map (λ b. replayed D b (until u (histories i))) o) ≡ true
          by None is e = e
          by (Some b) is e = subst (λ es. is_full D (replayed D b es) ≡ true) among.1 (full_stays D b firsts among.0 (steps_until b is) e)

      -- closed operations
      pub closed_until : (op k : ℕ) (e : Entry Op Shown) → slice_get (histories i) k ≡ Some e → e.output.reply ≡ Reply.Pending op → k < n → is_open op (member_after D world histories i n) ≡ false → is_open op (member_until D world histories i u) ≡ false
      closed_until op k e at reply h closed = by (world.nodes i) refl closed
        where
          by : (o : Option (Node Kind Op Shown)) → world.nodes i ≡ o → is_open op (option_map (λ b. replayed D b firsts) o) ≡ false → is_open op (option_map (λ b. replayed D b (until u (histories i))) o) ≡ false
          by None is c = c
          by (Some b) is c =
              let below = number_of_pending op k b firsts e (steps_first D b firsts among.0 (steps_until b is)) (stands_first n k (histories i) e at h) reply in
              subst (λ es. is_open op (Some (replayed D b es)) ≡ false) among.1
              (subst (λ m. is_open op (Some m) ≡ false) (sym (replayed-append D b firsts among.0)) (closed_since D op (replayed D b firsts) among.0 below c))
