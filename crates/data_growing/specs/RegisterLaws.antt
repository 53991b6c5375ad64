-- The laws of registers.
use Rattle.std.proofs.Common.{◌≡◌, ◌≢◌, ℕ, zero, suc, ◌+◌, ◌<◌, ◌≤◌, ◌⊎◌, max, List, [], ◌∷◌, ◌++◌, Bool, true, false, Option, None, Some, refl, ap, sym, ◌∙◌, subst, arith, ⊎_elim, inl, inr}
use Rattle.std.specs.Prelude.{slice_get, find, flat_map, if◌then◌else◌, ◌==◌, ◌&&◌, not, option_map, unwrap_or}
use Rattle.std.specs.List.{range_with_len}
use Rattle.std.specs.Ordering.{is_lt}
use Rattle.std.proofs.lemmas.Bool.{cases_eq, cases_lt, eq-eqb, ne_eqb, eqb-true}
use Rattle.std.proofs.lemmas.Bool.Decides.{eqb_tells}
use Rattle.model_history.specs.Table.{identity_limit, identities, with_at}
use Rattle.model_history.specs.Vector.{VersionVector, join}
use Rattle.model_history.specs.History.{Record, Stamped, History, cut, stamped_from, all_records}
use Rattle.model_history.specs.History.Action.{Operation, Prune}
use Rattle.model_history.specs.Cuts.{past_of, record_at, IsConsistentCut, IsNext, grown}
use Rattle.model_history.proofs.HistoryLaws.{with_at_other}
use Rattle.model_history.proofs.PruneLaws.{IsIn, to_flat_map, in_stamped, at_identities}
use Rattle.model_history.proofs.CutLaws.{with_at_is, with_at-le, new_or_old, IsConsistentCut-empty, IsConsistentCut-grown, IsConsistentCut-join}
use Rattle.model_history.proofs.Bridge.{in_cut, of_cut}
use Rattle.model_meanings.specs.Growing.{Assignment, found, timestamp, newest, winner, winning_text}
use Rattle.model_meanings.specs.Refusal.{Refusal, greatest_share}
use Rattle.base_vectors.specs.declared.id.Dot.{Dot}
use Rattle.model_kinds.specs.SixKinds.{of_kind, assigned}
use Rattle.model_kinds.specs.declared.kind.Kind.TheVariants as Kind
use Rattle.model_kinds.specs.declared.operation.Op.{Op}
use Rattle.model_kinds.specs.declared.operation.Op.TheVariants.{Assign}
use Rattle.data_growing.specs.declared.register.Written.{Written}
use Rattle.data_growing.specs.RecordedLaws.{to_stamped}
use Rattle.data_growing.specs.Timestamps.{assignment_at, timestamp_at}
use Rattle.data_growing.specs.TimestampLaws.{timestamp_in, newest_above, newest_is, stamped_none, stamped_some, is_write, same_index}
use Rattle.data_growing.specs.Registers.{write_order, winning, register_written, register_joined, stamp_of, write_after, assignment_of, register_refusal, text_of, IsWinner, IsOutcome, Held, Between, IsRegisterOf, IsWrittenBetween}
use Rattle.data_growing.specs.Spelling.{won_write}
use Rattle.data_growing.specs.WriteLaws.{wins_says, loses_says, same_write, written_after, combined_writer}

-- records that are among one of two lots
record AreBoth (Either One Other : ℕ → ℕ → Type 0) : Type 0 where
  each : (i k : ℕ) → Either i k → One i k ⊎ Other i k
  one : (i k : ℕ) → One i k → Either i k
  other : (i k : ℕ) → Other i k → Either i k

swapped : (Either One Other : ℕ → ℕ → Type 0) → AreBoth Either One Other → AreBoth Either Other One
swapped Either One Other b = record {
  each = λ i k e. ⊎_elim (λ (x : One i k). inr x) (λ (y : Other i k). inl y) (b.each i k e);
  one = b.other;
  other = b.one;
}

held_grown : {Op : Type 0} (log : History Op) (held : VersionVector) (id : ℕ) → AreBoth (Held (grown held id)) (Held held) (Between id (held id) (held id + 1))
held_grown log held id = record {
  each = λ i k l. ⊎_elim
      (λ (new : (i ≡ id) × (k ≡ held id)). let at = new.1 in inr (new.0, omega arith, omega arith))
      (λ (old : k < held i). inl old) (new_or_old log held id i k l);
  one = λ i k l. let up = with_at-le held id (held id + 1) i (omega arith) in omega arith;
  other = λ i k b. let w = b.2 in let s = with_at_is held id (held id + 1) i b.0 in omega arith;
}

held_joined : (held also : VersionVector) → AreBoth (Held (join held also)) (Held held) (Held also)
held_joined held also = record {
  each = λ i k l. ⊎_elim (λ (x : k < held i). inl x) (λ (x : held i ≤ k). inr (omega arith)) (cases_lt k (held i));
  one = λ i k l. omega arith;
  other = λ i k l. omega arith;
}

held_group : (held : VersionVector) (origin after to : ℕ) → after ≤ held origin → held origin < to → AreBoth (Held (with_at held origin to)) (Held held) (Between origin after to)
held_group held origin after to low high = record {
  each = λ i k l. ⊎_elim
      (λ (old : k < held i). inl old)
      (λ (new : held i ≤ k). inr (⊎_elim
      (λ (here : i ≡ origin). let same = ap held here in let upto = with_at_is held origin to i here in (here, omega arith, omega arith))
      (λ (there : i ≢ origin). absurd (let same = with_at_other held origin to i there in omega arith)) (cases_eq i origin))) (cases_lt k (held i));
  one = λ i k l. let up = with_at-le held origin to i (omega arith) in omega arith;
  other = λ i k b. let w = b.2 in let s = with_at_is held origin to i b.0 in omega arith;
}

between_both : (origin after mid to : ℕ) → after < mid → mid < to → AreBoth (Between origin after to) (Between origin after mid) (Between origin mid to)
between_both origin after mid to low high = record {
  each = λ i k b. let f = b.1 in let w = b.2 in ⊎_elim (λ (x : k < mid). inl (b.0, f, x)) (λ (x : mid ≤ k). inr (b.0, x, w)) (cases_lt k mid);
  one = λ i k b. let w = b.2 in (b.0, b.1, omega arith);
  other = λ i k b. let f = b.1 in (b.0, omega arith, b.2);
}

module _ {Op : Type 0} (assigned : Op → Option Assignment) (log : History Op) where
  -- THE WINNER OF TWO LOTS

  pub winner_above : (write : Written) (Among : ℕ → ℕ → Type 0) → IsWinner assigned log write Among → 0 < write.timestamp
  winner_above write Among w = let s = stamped_some assigned log write.writer w.index _ w.assigns in let t = w.stamped in omega arith

  -- where the other lot has no write
  winner_alone : (write : Written) (Either One Other : ℕ → ℕ → Type 0) → AreBoth Either One Other → IsWinner assigned log write One → ((i k : ℕ) → Other i k → assignment_at assigned log i k ≡ None) → IsWinner assigned log write Either
  winner_alone write Either One Other both w none = record {
    index = w.index;
    now = w.now;
    member = both.one write.writer w.index w.member;
    assigns = w.assigns;
    stamped = w.stamped;
    greatest = λ i k e. ⊎_elim
        (λ (x : One i k). w.greatest i k x)
        (λ (y : Other i k). let z = stamped_none assigned log i k (none i k y) in omega arith) (both.each i k e);
    least = λ i k e same. ⊎_elim
        (λ (x : One i k). w.least i k x same)
        (λ (y : Other i k). absurd (let z = stamped_none assigned log i k (none i k y) in let a = winner_above write One w in omega arith)) (both.each i k e);
  }

  -- where the one wins over the winner of the other lot
  winner_over : (write loser : Written) (Either One Other : ℕ → ℕ → Type 0) → AreBoth Either One Other → IsWinner assigned log write One → IsWinner assigned log loser Other
      → loser.timestamp ≤ write.timestamp → (loser.timestamp ≡ write.timestamp → write.writer ≤ loser.writer) → IsWinner assigned log write Either
  winner_over write loser Either One Other both w l above tie = record {
    index = w.index;
    now = w.now;
    member = both.one write.writer w.index w.member;
    assigns = w.assigns;
    stamped = w.stamped;
    greatest = λ i k e. ⊎_elim
        (λ (x : One i k). w.greatest i k x)
        (λ (y : Other i k). let g = l.greatest i k y in omega arith) (both.each i k e);
    least = λ i k e same. ⊎_elim
        (λ (x : One i k). w.least i k x same)
        (λ (y : Other i k).
        let g = l.greatest i k y in
        let level : loser.timestamp ≡ write.timestamp = omega arith in
        let first = tie level in
        let second = l.least i k y (same ∙ sym level) in
        omega arith) (both.each i k e);
  }

  winner_both : (v w : Written) (Either One Other : ℕ → ℕ → Type 0) → AreBoth Either One Other → IsWinner assigned log v One → IsWinner assigned log w Other → IsWinner assigned log (winning v w) Either
  winner_both v w Either One Other both p q = go (is_lt (write_order w v)) refl
    where
      go : (b : Bool) → is_lt (write_order w v) ≡ b → IsWinner assigned log (if b then w else v) Either
      go true e = let s = wins_says w v e in winner_over w v Either Other One (swapped Either One Other both) q p s.0 s.1
      go false e = let s = loses_says w v e in winner_over v w Either One Other both p q s.0 s.1

  outcome_both : (state other : Option Written) (Either One Other : ℕ → ℕ → Type 0) → AreBoth Either One Other → IsOutcome assigned log state One → IsOutcome assigned log other Other → IsOutcome assigned log (register_joined state other) Either
  outcome_both None None Either One Other both p q = λ i k e. ⊎_elim (p i k) (q i k) (both.each i k e)
  outcome_both (Some v) None Either One Other both p q = winner_alone v Either One Other both p q
  outcome_both None (Some w) Either One Other both p q = winner_alone w Either Other One (swapped Either One Other both) q p
  outcome_both (Some v) (Some w) Either One Other both p q = winner_both v w Either One Other both p q

  -- THE TIMESTAMP THAT A REGISTER HAS

  pub stamp_is : (state : Option Written) (held : VersionVector) → IsRegisterOf assigned state log held → stamp_of state ≡ newest assigned (cut log held)
  stamp_is None held is = ⊎_elim
      (λ (none : newest assigned (cut log held) ≡ 0). sym none)
      (λ (some : (i : ℕ) × (k : ℕ) × (k < held i) × (timestamp_at assigned log i k ≡ newest assigned (cut log held))).
      sym (stamped_none assigned log some.0 some.1 (is.outcome some.0 some.1 some.2)) ∙ some.3)
      (newest_is assigned log held is.cut)
  stamp_is (Some w) held is =
      let up = newest_above assigned log held is.cut w.writer is.outcome.index is.outcome.member in
      let level = is.outcome.stamped in
      ⊎_elim
      (λ (none : newest assigned (cut log held) ≡ 0). omega arith)
      (λ (some : (i : ℕ) × (k : ℕ) × (k < held i) × (timestamp_at assigned log i k ≡ newest assigned (cut log held))).
      let g = is.outcome.greatest some.0 some.1 some.2 in let s = some.3 in omega arith)
      (newest_is assigned log held is.cut)

  -- DATA OF HISTORIES

  pub data_empty : (held : VersionVector) → ((i : ℕ) → held i ≡ 0) → IsRegisterOf assigned None log held
  data_empty held none = record { cut = IsConsistentCut-empty log held none; outcome = λ i k l. absurd (let z = none i in omega arith) }

  -- the new write wins over all that is held
  new_winner : (state : Option Written) (held : VersionVector) (op : Op) (a : Assignment) (dot : Dot) → IsNext log held dot.origin (Operation op) → IsRegisterOf assigned state log held → assigned op ≡ Some a
      → IsWinner assigned log (write_after state a dot) (Between dot.origin (held dot.origin) (held dot.origin + 1))
  new_winner state held op a dot next is writes =
      let assigns : assignment_at assigned log dot.origin (held dot.origin) ≡ Some a = ap (found assigned) next.action ∙ writes in
      let past : past_of log dot.origin (held dot.origin) ≡ held = λ j i. next.past i j in
      let stamped : timestamp_at assigned log dot.origin (held dot.origin) ≡ max a.now (stamp_of state + 1)
      = stamped_some assigned log dot.origin (held dot.origin) a assigns ∙ ap (λ v. max a.now (newest assigned (cut log v) + 1)) past ∙ ap (λ n. max a.now (n + 1)) (sym (stamp_is state held is)) in
      record {
        index = held dot.origin;
        now = a.now;
        member = (refl, omega arith, omega arith);
        assigns = assigns;
        stamped = stamped;
        greatest = λ i k b.
            let f = b.1 in
            let w = b.2 in
            let here : k ≡ held dot.origin = omega arith in
            let same = ap (λ j. timestamp_at assigned log j k) b.0 ∙ ap (timestamp_at assigned log dot.origin) here ∙ stamped in omega arith;
        least = λ i k b same. let here = b.0 in omega arith;
      }

  pub data_written : (state : Option Written) (held : VersionVector) (op : Op) (a : Assignment) (dot : Dot) → IsNext log held dot.origin (Operation op) → IsRegisterOf assigned state log held → assigned op ≡ Some a
      → IsRegisterOf assigned (Some (write_after state a dot)) log (grown held dot.origin) × IsWrittenBetween assigned (write_after state a dot) log dot.origin (held dot.origin) (held dot.origin + 1)
  data_written state held op a dot next is writes =
      let new = new_winner state held op a dot next is writes in (
        record {
          cut = IsConsistentCut-grown log held dot.origin (Operation op) is.cut next;
          outcome = subst (λ (w : Written). IsWinner assigned log w (Held (grown held dot.origin))) (written_after state a dot)
              (outcome_both state (Some (write_after state a dot)) (Held (grown held dot.origin)) (Held held) (Between dot.origin (held dot.origin) (held dot.origin + 1)) (held_grown log held dot.origin) is.outcome new);
        },
        record { made_by = refl; rises = omega arith; winner = new },
      )

  pub data_joined : (state other : Option Written) (held also : VersionVector) → IsRegisterOf assigned state log held → IsRegisterOf assigned other log also → IsRegisterOf assigned (register_joined state other) log (join held also)
  data_joined state other held also is other_is = record {
    cut = IsConsistentCut-join log held also is.cut other_is.cut;
    outcome = outcome_both state other (Held (join held also)) (Held held) (Held also) (held_joined held also) is.outcome other_is.outcome;
  }

  pub data_absorbed : (state : Option Written) (delta : Written) (held : VersionVector) (origin after to : ℕ) → IsConsistentCut log (with_at held origin to) → IsRegisterOf assigned state log held → IsWrittenBetween assigned delta log origin after to
      → after ≤ held origin → held origin < to → IsRegisterOf assigned (Some (register_written state delta)) log (with_at held origin to)
  data_absorbed state delta held origin after to h is made low high = record {
    cut = h;
    outcome = outcome_both state (Some delta) (Held (with_at held origin to)) (Held held) (Between origin after to) (held_group held origin after to low high) is.outcome made.winner;
  }

  pub data_pruned : (state : Option Written) (held : VersionVector) (removed id : ℕ) → IsNext log held id (Prune removed) → IsRegisterOf assigned state log held → IsRegisterOf assigned state log (grown held id)
  data_pruned state held removed id next is = record {
    cut = IsConsistentCut-grown log held id (Prune removed) is.cut next;
    outcome = outcome_both state None (Held (grown held id)) (Held held) (Between id (held id) (held id + 1)) (held_grown log held id) is.outcome (λ i k b.
        let f = b.1 in
        let w = b.2 in
        let here : k ≡ held id = omega arith in
        ap (λ j. assignment_at assigned log j k) b.0 ∙ ap (assignment_at assigned log id) here ∙ ap (found assigned) next.action);
  }

  pub delta_combined : (first later : Written) (origin after mid to : ℕ) → IsWrittenBetween assigned first log origin after mid → IsWrittenBetween assigned later log origin mid to → IsWrittenBetween assigned (winning first later) log origin after to
  delta_combined first later origin after mid to p q =
      let low : after < mid = p.rises in
      let high : mid < to = q.rises in record {
        made_by = combined_writer first later origin p.made_by q.made_by;
        rises = omega arith;
        winner = winner_both first later (Between origin after to) (Between origin after mid) (Between origin mid to) (between_both origin after mid to low high) p.winner q.winner;
      }

  -- DATA ARE DETERMINED

  same_text : (x y : Assignment) → ◌≡◌ {A = Option Assignment} (Some x) (Some y) → x.text ≡ y.text
  same_text x y e = ap (λ (o : Option Assignment). (assignment_of o).text) e

  winner_once : (v w : Written) (held : VersionVector) → IsConsistentCut log held → IsWinner assigned log v (Held held) → IsWinner assigned log w (Held held) → v ≡ w
  winner_once v w held h p q =
      let a = p.stamped in
      let b = q.stamped in
      let up = q.greatest v.writer p.index p.member in
      let down = p.greatest w.writer q.index q.member in
      let level : v.timestamp ≡ w.timestamp = omega arith in
      let left = p.least w.writer q.index q.member (b ∙ sym level) in
      let right = q.least v.writer p.index p.member (a ∙ level) in
      let writers : v.writer ≡ w.writer = omega arith in
      let inside : q.index < held v.writer = subst (λ i. q.index < held i) (sym writers) q.member in
      let assigns : assignment_at assigned log v.writer q.index ≡ Some (record { text = w.text; now = q.now }) = ap (λ i. assignment_at assigned log i q.index) writers ∙ q.assigns in
      let stamps : timestamp_at assigned log v.writer p.index ≡ timestamp_at assigned log v.writer q.index = a ∙ level ∙ sym b ∙ ap (λ i. timestamp_at assigned log i q.index) (sym writers) in
      let same : p.index ≡ q.index = same_index assigned log held h v.writer p.index q.index _ _ p.member inside p.assigns assigns stamps in
      same_write v w (same_text _ _ (sym p.assigns ∙ ap (assignment_at assigned log v.writer) same ∙ assigns)) level writers

  pub data_once : (state other : Option Written) (held : VersionVector) → IsRegisterOf assigned state log held → IsRegisterOf assigned other log held → state ≡ other
  data_once None None held is other_is = refl
  data_once None (Some w) held is other_is = absurd (let q = other_is.outcome in let e = sym (is.outcome w.writer q.index q.member) ∙ q.assigns in cc e)
  data_once (Some v) None held is other_is = absurd (let p = is.outcome in let e = sym (other_is.outcome v.writer p.index p.member) ∙ p.assigns in cc e)
  data_once (Some v) (Some w) held is other_is = ap Some (winner_once v w held is.cut is.outcome other_is.outcome)

-- THE FIRST OF SOME ROWS THAT PASSES A TEST

module _ {X : Type 0} (p : X → Bool) where
  find_none : (xs : List X) → ((x : X) → IsIn xs x → p x ≡ false) → find p xs ≡ None
  find_none [] none = refl
  find_none (x ∷ xs) none = ap (λ b. if b then Some x else find p xs) (none x (zero, refl)) ∙ find_none xs (λ y there. none y (suc there.0, there.1))

  find_after : (xs ys : List X) → ((x : X) → IsIn xs x → p x ≡ false) → find p (xs ++ ys) ≡ find p ys
  find_after [] ys none = refl
  find_after (x ∷ xs) ys none = ap (λ b. if b then Some x else find p (xs ++ ys)) (none x (zero, refl)) ∙ find_after xs ys (λ y there. none y (suc there.0, there.1))

  find_here : (xs ys : List X) (k : ℕ) (x : X) → slice_get xs k ≡ Some x → p x ≡ true → (y : X) × IsIn xs y × (find p (xs ++ ys) ≡ Some y) × (p y ≡ true)
  find_here [] ys k x at passes = absurd (cc at)
  find_here (z ∷ xs) ys zero x at passes = let same : z ≡ x = cc at in (z, (zero, refl), ap (λ b. if b then Some z else find p (xs ++ ys)) (ap p same ∙ passes), ap p same ∙ passes)
  find_here (z ∷ xs) ys (suc k) x at passes = go (p z) refl (find_here xs ys k x at passes)
    where
      go : (b : Bool) → p z ≡ b → ((y : X) × IsIn xs y × (find p (xs ++ ys) ≡ Some y) × (p y ≡ true)) → (y : X) × IsIn (z ∷ xs) y × (find p ((z ∷ xs) ++ ys) ≡ Some y) × (p y ≡ true)
      go true e later = (z, (zero, refl), ap (λ b. if b then Some z else find p (xs ++ ys)) e, e)
      go false e later = (later.0, (suc later.1.0, later.1.1), ap (λ b. if b then Some z else find p (xs ++ ys)) e ∙ later.2, later.3)

  -- none of the rows before i passes, and one of i does
  find_row : (rows : ℕ → List X) (first n i : ℕ) → first ≤ i → i < first + n → ((j : ℕ) (x : X) → j < i → IsIn (rows j) x → p x ≡ false) → (k : ℕ) (x : X) → slice_get (rows i) k ≡ Some x → p x ≡ true
      → (y : X) × IsIn (rows i) y × (find p (flat_map rows (range_with_len first n)) ≡ Some y) × (p y ≡ true)
  find_row rows first zero i low high before k x at passes = absurd (omega arith)
  find_row rows first (suc n) i low high before k x at passes = ⊎_elim
      (λ (here : i ≡ first).
      let f = find_here (rows first) (flat_map rows (range_with_len (first + 1) n)) k x (ap (λ j. slice_get (rows j) k) (sym here) ∙ at) passes in
      (f.0, subst (λ j. IsIn (rows j) f.0) (sym here) f.1, f.2, f.3))
      (λ (later : i ≢ first).
      let f = find_row rows (first + 1) n i (omega arith) (omega arith) before k x at passes in
      (f.0, f.1, find_after (rows first) (flat_map rows (range_with_len (first + 1) n)) (λ y there. before first y (omega arith) there) ∙ f.2, f.3))
      (cases_eq i first)

-- THE TEXT THAT A HISTORY SHOWS

module _ {Op : Type 0} (assigned : Op → Option Assignment) (log : History Op) where
  -- whether a record's timestamp is the newest, and there is one
  abbrev is_newest : VersionVector → Stamped Op → Bool
  is_newest held x = not (newest assigned (cut log held) == 0) && (timestamp assigned (cut log held) x == newest assigned (cut log held))

  abbrev shown_of : Option (Stamped Op) → List ℕ
  shown_of first = unwrap_or (option_map (λ (a : Assignment). a.text) (unwrap_or (option_map (λ (x : Stamped Op). found assigned x.action) first) None)) []

  row_record : (held : VersionVector) → IsConsistentCut log held → (i : ℕ) (x : Stamped Op) → IsIn (stamped_from i 1 (cut log held i)) x → i < identity_limit
      → (k : ℕ) × (k < held i) × (timestamp assigned (cut log held) x ≡ timestamp_at assigned log i k) × (found assigned x.action ≡ assignment_at assigned log i k)
  row_record held h i x there few =
      let r = in_stamped i 1 (cut log held i) x there in
      let c = of_cut log held i r.0 (record { action = x.action; past = x.past }) r.1 in
      (r.0, c.0, timestamp_in assigned log held h x (in_all held i x few there) i r.0 c.0 c.1, ap (λ (y : Record Op). found assigned y.action) (sym c.1))
    where
      in_all : (held : VersionVector) (i : ℕ) (x : Stamped Op) → i < identity_limit → IsIn (stamped_from i 1 (cut log held i)) x → IsIn (all_records (cut log held)) x
      in_all held i x few there = to_flat_map (λ i. stamped_from i 1 (cut log held i)) identities i x (at_identities i few) there

  nothing_shown : (held : VersionVector) → newest assigned (cut log held) ≡ 0 → [] ≡ winning_text assigned (cut log held)
  nothing_shown held none = sym (ap shown_of (find_none (is_newest held) (all_records (cut log held)) (λ x there. ap (λ n. not (n == 0) && (timestamp assigned (cut log held) x == n)) none)))

  few_of : (held : VersionVector) → IsConsistentCut log held → (i k : ℕ) → k < held i → i < identity_limit
  few_of held h i k inside = ⊎_elim (λ (l : i < identity_limit). l) (λ (g : identity_limit ≤ i). absurd (let z = h.few i g in omega arith)) (cases_lt i identity_limit)

  module _ (write : Written) (held : VersionVector) (h : IsConsistentCut log held) (w : IsWinner assigned log write (Held held)) (level : write.timestamp ≡ newest assigned (cut log held)) where
    not_empty : (newest assigned (cut log held) == 0) ≡ false
    not_empty = ne_eqb (newest assigned (cut log held)) 0 (λ z. let a = winner_above assigned log write (Held held) w in omega arith)

    -- where there is a write, the test compares timestamps
    newest_says : (x : Stamped Op) → is_newest held x ≡ (timestamp assigned (cut log held) x == newest assigned (cut log held))
    newest_says x = ap (λ b. not b && (timestamp assigned (cut log held) x == newest assigned (cut log held))) not_empty

    earlier : (j : ℕ) (x : Stamped Op) → j < write.writer → IsIn (stamped_from j 1 (cut log held j)) x → is_newest held x ≡ false
    earlier j x before there =
        let few : j < identity_limit = (let a = few_of held h write.writer w.index w.member in omega arith) in
        let r = row_record held h j x there few in
        newest_says x ∙ ne_eqb (timestamp assigned (cut log held) x) (newest assigned (cut log held)) (λ e. absurd (let l = w.least j r.0 r.1 (sym r.2 ∙ e ∙ sym level) in omega arith))

    -- the winner's own record passes
    winner_passes : (x : Stamped Op) → IsIn (stamped_from write.writer 1 (cut log held write.writer)) x → record_at log write.writer w.index ≡ record { action = x.action; past = x.past } → is_newest held x ≡ true
    winner_passes x there is =
        let few = few_of held h write.writer w.index w.member in
        let here = to_flat_map (λ i. stamped_from i 1 (cut log held i)) identities write.writer x (at_identities write.writer few) there in
        newest_says x ∙ eq-eqb (timestamp assigned (cut log held) x) (newest assigned (cut log held)) (timestamp_in assigned log held h x here write.writer w.index w.member is ∙ w.stamped ∙ level)

    -- and what passes at its writer is the same write
    same_record : (x : Stamped Op) → IsIn (stamped_from write.writer 1 (cut log held write.writer)) x → is_newest held x ≡ true → found assigned x.action ≡ Some (record { text = write.text; now = w.now })
    same_record x there passes =
        let r = row_record held h write.writer x there (few_of held h write.writer w.index w.member) in
        let newest_too = eqb-true (timestamp assigned (cut log held) x) (newest assigned (cut log held)) (sym (newest_says x) ∙ passes) in
        let stamps : timestamp_at assigned log write.writer r.0 ≡ write.timestamp = sym r.2 ∙ newest_too ∙ sym level in
        let above = winner_above assigned log write (Held held) w in
        let writes = is_write assigned log write.writer r.0 (omega arith) in
        let same : r.0 ≡ w.index = same_index assigned log held h write.writer r.0 w.index writes.0 (record { text = write.text; now = w.now }) r.1 w.member writes.1 w.assigns (stamps ∙ sym w.stamped) in
        r.3 ∙ ap (assignment_at assigned log write.writer) same ∙ w.assigns

    first_newest : (x : Stamped Op) × IsIn (stamped_from write.writer 1 (cut log held write.writer)) x × (winner assigned (cut log held) ≡ Some x) × (is_newest held x ≡ true)
    first_newest =
        let inside = w.member in
        let made = h.made write.writer in
        let few = few_of held h write.writer w.index w.member in
        let r = record_at log write.writer w.index in
        let s = to_stamped write.writer 1 (cut log held write.writer) w.index r (in_cut log held write.writer w.index inside (omega arith)) in
        let x : Stamped Op = record { origin = write.writer; number = 1 + w.index; action = r.action; past = r.past } in
        find_row (is_newest held) (λ i. stamped_from i 1 (cut log held i)) 0 identity_limit write.writer (omega arith) (omega arith) earlier s.0 x s.1 (winner_passes x s refl)

    winner_shown : write.text ≡ winning_text assigned (cut log held)
    winner_shown =
        let f = first_newest in
        sym (ap shown_of f.2 ∙ ap (λ o. unwrap_or (option_map (λ (a : Assignment). a.text) o) []) (same_record f.0 f.1 f.3))

  -- the text of the register is the one that the history shows
  pub text_means : (state : Option Written) (held : VersionVector) → IsRegisterOf assigned state log held → text_of state ≡ winning_text assigned (cut log held)
  text_means None held is = nothing_shown held (sym (stamp_is assigned log None held is))
  text_means (Some write) held is = winner_shown write held is.cut is.outcome (stamp_is assigned log (Some write) held is)

  -- the write of the record that won
  abbrev won_by : VersionVector → Stamped Op → Written
  won_by held x = record { text = winning_text assigned (cut log held); timestamp = newest assigned (cut log held); writer = x.origin }

  -- and the write of the register is the one that won
  pub write_means : (state : Option Written) (held : VersionVector) → IsRegisterOf assigned state log held → state ≡ won_write assigned (cut log held)
  write_means None held is = sym (ap (option_map (won_by held)) (find_none (is_newest held) (all_records (cut log held)) (λ x there. ap (λ n. not (n == 0) && (timestamp assigned (cut log held) x == n)) (sym (stamp_is assigned log None held is)))))
  write_means (Some write) held is =
      let level = stamp_is assigned log (Some write) held is in
      let f = first_newest write held is.cut is.outcome level in
      let r = in_stamped write.writer 1 (cut log held write.writer) f.0 f.1 in
      ap Some (same_write write (won_by held f.0) (text_means (Some write) held is) level (sym r.2))
      ∙ sym (ap (option_map (won_by held)) f.2)

  pub refusal_is : (state : Option Written) (held : VersionVector) → IsRegisterOf assigned state log held → register_refusal state ≡ (if newest assigned (cut log held) == greatest_share then Some Refusal.ClockSpent else None)
  refusal_is state held is = ap (λ n. if n == greatest_share then Some Refusal.ClockSpent else None) (stamp_is assigned log state held is)

-- WHAT A HISTORY OF THE SIX KINDS' OPERATIONS SAYS OF A REGISTER

assigns : (op : Op) → (of_kind Kind.LwwRegister).fits tt op ≡ true → assigned op ≡ Some (assignment_of (assigned op))
assigns (Assign text now) fits = refl
assigns op fits = absurd (cc fits)

pub data_applied : (state : Option Written) (log : History Op) (held : VersionVector) (op : Op) (dot : Dot) → IsNext log held dot.origin (Operation op) → IsRegisterOf assigned state log held → (of_kind Kind.LwwRegister).fits tt op ≡ true
    → IsRegisterOf assigned (Some (write_after state (assignment_of (assigned op)) dot)) log (grown held dot.origin) × IsWrittenBetween assigned (write_after state (assignment_of (assigned op)) dot) log dot.origin (held dot.origin) (held dot.origin + 1)
data_applied state log held op dot next is fits = data_written assigned log state held op (assignment_of (assigned op)) dot next is (assigns op fits)

pub refusal_means : (state : Option Written) (log : History Op) (held : VersionVector) (op : Op) (origin : ℕ) → IsRegisterOf assigned state log held → (of_kind Kind.LwwRegister).fits tt op ≡ true
    → register_refusal state ≡ (of_kind Kind.LwwRegister).refusal tt origin op (cut log held)
refusal_means state log held (Assign text now) origin is fits = refusal_is assigned log state held is
refusal_means state log held op origin is fits = absurd (cc fits)
