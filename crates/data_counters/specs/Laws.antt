-- The laws of shares, whatever says how much an operation adds.
use Rattle.std.proofs.Common.{◌≡◌, ◌≢◌, ℕ, ◌+◌, ◌<◌, ◌≤◌, ◌⊎◌, max, Bool, true, false, not, cond, nat_eq, Option, refl, ap, sym, ◌∙◌, subst, subst₂, rules, arith, ⊎_elim, inl, inr}
use Rattle.std.specs.FinMap as map
use Rattle.std.specs.Prelude.{sum_by, if◌then◌else◌}
use Rattle.std.proofs.Math.Nat.{max_comm}
use Rattle.std.proofs.lemmas.Bool.{cases_eq, cases_lt, cases_Bool, eqb-true, not-false}
use Rattle.model_history.specs.Table.{identity_limit, identities, with_at}
use Rattle.model_history.specs.Vector.{VersionVector, IdentitySet, join, with_member}
use Rattle.model_history.specs.History.{History, cut, is_pruned}
use Rattle.model_history.specs.History.Action.{Operation, Prune}
use Rattle.model_history.specs.Cuts.{past_of, IsConsistentCut, IsPrunedCut, IsNext, AreOperations, grown, without}
use Rattle.model_history.proofs.HistoryLaws.{with_at_other}
use Rattle.model_history.proofs.CutLaws.{with_at_is, with_member_is, with_member_other, both_ways}
use Rattle.model_history.proofs.Bridge.{cut_is_history, pruned_cut}
use Rattle.model_meanings.specs.Refusal.{Shares, overflow, too_much}
use Rattle.model_meanings.specs.Counter.{share, total}
use Rattle.model_meanings.specs.Shares.{HasShare, nothing, counted, taken}
use Rattle.model_meanings.proofs.CounterLaws.{share_equation, sum_by-same}
use Rattle.model_meanings.proofs.SharesLaw.{shares_add_up}
use Rattle.model_meanings.proofs.SharesOfLogs.{once, rises, none_of, share_is}
use Rattle.base_vectors.specs.Vectors.{Numbers, number_at, numbers_of, raised, joined, removed, IsNormal}
use Rattle.base_vectors.proofs.Laws.{number_at-numbers_of, number_at-numbers_of_above, number_at-empty, numbers_of-same, IsNormal-numbers_of, empty-numbers_of, same_numbers, number_at_above, number_at-joined}
use Rattle.base_vectors.specs.declared.id.Dot.{Dot}
use Rattle.model_kinds.specs.SixKinds.{of_kind, increment}
use Rattle.model_kinds.specs.declared.kind.Kind.TheVariants as Kind
use Rattle.model_kinds.specs.declared.operation.Op.{Op}
use Rattle.model_kinds.specs.declared.operation.Op.TheVariants.{Increment}
use Rattle.data_counters.specs.declared.counter.GCounter.{GCounter}
use Rattle.data_counters.specs.declared.counter.Share.{Share}
use Rattle.data_counters.specs.Counter.{counter_applied, counter_delta_of, counter_apply_refusal, counter_joined, counter_absorbed, counter_combined, counter_cleaned, counter_pruned, counter_mentioned, counter_sum, AreShares, IsShareAt, AreSharesWithin, IsShareOf, empty_counter}

-- two counters with the same shares
pub same_counter : (a b : Numbers) → a ≡ b → ◌≡◌ {A = GCounter} (record { shares = a }) (record { shares = b })
same_counter a b e = λ i. record { shares = e i }

max_assoc : (a b c : ℕ) → max (max a b) c ≡ max a (max b c)
max_assoc a b c = omega arith

max_same : (a : ℕ) → max a a ≡ a
max_same a = omega arith

max_again : (a b : ℕ) → max a (max a b) ≡ max a b
max_again a b = omega arith

max_right : (a b : ℕ) → a ≤ b → max a b ≡ b
max_right a b l = omega arith

max_left : (a b : ℕ) → b ≤ a → max a b ≡ a
max_left a b l = omega arith

le_or : (a b : ℕ) → (a ≤ b) ⊎ (b ≤ a)
le_or a b = ⊎_elim (λ (l : a < b). inl (omega arith)) (λ (l : b ≤ a). inr l) (cases_lt a b)

max_more : (a b : ℕ) → max a (a + b) ≡ a + b
max_more a b = omega arith

-- a map with another number at one identity
same_at : (f : ℕ → ℕ) (id to i : ℕ) → i < identity_limit → i ≡ id → number_at (numbers_of (with_at f id to)) i ≡ to
same_at f id to i l e = let u : nat_eq i id ≡ true = grind rules in number_at-numbers_of (with_at f id to) i l ∙ rw u refl

other_at : (f : ℕ → ℕ) (id to i : ℕ) → i < identity_limit → i ≢ id → number_at (numbers_of (with_at f id to)) i ≡ f i
other_at f id to i l ne = let u : nat_eq i id ≡ false = grind rules in number_at-numbers_of (with_at f id to) i l ∙ rw u refl

pub join_comm : (a b : GCounter) → counter_joined a b ≡ counter_joined b a
join_comm a b = same_counter _ _ (numbers_of-same _ _ (λ i l. max_comm (number_at a.shares i) (number_at b.shares i)))

pub join_assoc : (a b c : GCounter) → counter_joined (counter_joined a b) c ≡ counter_joined a (counter_joined b c)
join_assoc a b c = same_counter _ _ (numbers_of-same _ _ (λ i l.
    ap (λ n. max n (number_at c.shares i)) (number_at-joined a.shares b.shares i l) ∙ max_assoc (number_at a.shares i) (number_at b.shares i) (number_at c.shares i)
    ∙ ap (max (number_at a.shares i)) (sym (number_at-joined b.shares c.shares i l))))

pub join_same : (a : GCounter) → IsNormal a.shares → counter_joined a a ≡ a
join_same a normal = same_counter _ _ (numbers_of-same _ _ (λ i l. max_same (number_at a.shares i)) ∙ sym normal)

pub join_upper : (a b : GCounter) → counter_joined a (counter_joined a b) ≡ counter_joined a b
join_upper a b = same_counter _ _ (numbers_of-same _ _ (λ i l. ap (max (number_at a.shares i)) (number_at-joined a.shares b.shares i l) ∙ max_again (number_at a.shares i) (number_at b.shares i)))

pub join_within : (a b : GCounter) (v w : VersionVector) → AreSharesWithin a v → AreSharesWithin b w → AreSharesWithin (counter_joined a b) (join v w)
join_within a b v w p q = record {
  normal = IsNormal-numbers_of _;
  seen = λ i l h. let e = number_at-joined a.shares b.shares i l in ⊎_elim
      (λ (x : 0 < number_at a.shares i). let y = p.seen i l x in omega arith)
      (λ (x : number_at a.shares i ≤ 0). let y = q.seen i l (omega arith) in omega arith) (cases_lt 0 (number_at a.shares i));
}

pub absorb_applied : (state : GCounter) (by : ℕ) (dot : Dot) → counter_absorbed state (counter_delta_of state by dot) ≡ counter_applied state by dot
absorb_applied state by dot = same_counter _ _ (numbers_of-same _ _ (λ i l'. ap (λ n. cond (nat_eq i dot.origin) n (number_at state.shares i)) (max_more (number_at state.shares dot.origin) by)))

max_max : (a b c : ℕ) → max a (max b c) ≡ max (max a b) c
max_max a b c = omega arith

pub absorb_combined : (state : GCounter) (first later : Share) (origin : ℕ) → IsShareOf first origin → IsShareOf later origin
    → counter_absorbed state (counter_combined first later) ≡ counter_absorbed (counter_absorbed state first) later
absorb_combined state first later origin e f = same_counter _ _ (
    ap (λ o. raised state.shares o (max first.share later.share)) e
    ∙ numbers_of-same _ _ (λ i l. ⊎_elim
    (λ (s : i ≡ origin). with_at_is (number_at state.shares) origin (max (number_at state.shares origin) (max first.share later.share)) i s ∙ max_max (number_at state.shares origin) first.share later.share
    ∙ sym (with_at_is (number_at (raised state.shares origin first.share)) origin (max (number_at (raised state.shares origin first.share) origin) later.share) i s
    ∙ ap (λ n. max n later.share) (same_at (number_at state.shares) origin (max (number_at state.shares origin) first.share) origin (subst (λ z. z < identity_limit) s l) refl)))
    (λ (ne : i ≢ origin). with_at_other (number_at state.shares) origin (max (number_at state.shares origin) (max first.share later.share)) i ne
    ∙ sym (with_at_other (number_at (raised state.shares origin first.share)) origin (max (number_at (raised state.shares origin first.share) origin) later.share) i ne ∙ other_at (number_at state.shares) origin (max (number_at state.shares origin) first.share) i l ne)) (cases_eq i origin))
    ∙ sym (ap (λ o. raised (raised state.shares o first.share) origin later.share) e ∙ refl) ∙ ap (λ o. raised (raised state.shares first.origin first.share) o later.share) (sym f))

removed_at : (f : ℕ → ℕ) (id : ℕ) → removed (numbers_of f) id ≡ numbers_of (with_at f id 0)
removed_at f id = numbers_of-same _ _ (λ i l. ap (λ n. cond (nat_eq i id) 0 n) (number_at-numbers_of f i l))

-- how the call goes: the owner's share is raised, and then the removed one's dropped
pub pruned_by_steps : (shares : Numbers) (owner total id : ℕ) → number_at shares owner ≤ total → removed (raised shares owner total) id ≡ numbers_of (with_at (with_at (number_at shares) owner total) id 0)
pruned_by_steps shares owner total id l = removed_at (with_at (number_at shares) owner (max (number_at shares owner) total)) id
    ∙ ap (λ n. numbers_of (with_at (with_at (number_at shares) owner n) id 0)) (max_right (number_at shares owner) total l)

pub combined_origin : (first later : Share) (origin : ℕ) → IsShareOf first origin → IsShareOf later origin → IsShareOf (counter_combined first later) origin
combined_origin first later origin e f = e

-- WHAT ANY COUNTER MENTIONS

-- an identity that isn't mentioned has no share
no_mention : (state : GCounter) (id : ℕ) → counter_mentioned state id ≡ false → number_at state.shares id ≡ 0
no_mention state id none = eqb-true (number_at state.shares id) 0 (not-false _ none)

-- a counter made of numbers mentions no identity whose number is 0
made_mentions : (f : ℕ → ℕ) (id : ℕ) → f id ≡ 0 → counter_mentioned (record { shares = numbers_of f }) id ≡ false
made_mentions f id e = ap (λ n. not (nat_eq n 0)) (⊎_elim
    (λ (l : id < identity_limit). number_at-numbers_of f id l ∙ e)
    (λ (l : identity_limit ≤ id). number_at-numbers_of_above f id l) (cases_lt id identity_limit))

-- a number of 0 at one identity, and those that were 0 stay
zero_at : (f : ℕ → ℕ) (removed id : ℕ) → f id ≡ 0 → with_at f removed 0 id ≡ 0
zero_at f removed id e = ⊎_elim (λ (same : id ≡ removed). with_at_is f removed 0 id same) (λ (ne : id ≢ removed). with_at_other f removed 0 id ne ∙ e) (cases_eq id removed)

-- nothing is mentioned where there was no record
pub empty_mentions : (id : ℕ) → counter_mentioned empty_counter id ≡ false
empty_mentions id = ap (λ n. not (nat_eq n 0)) (number_at-empty id)

-- an operation adds no mention but of its origin
pub applied_mentions : (state : GCounter) (by : ℕ) (dot : Dot) (id : ℕ) → (id ≡ dot.origin → ⊥) → counter_mentioned state id ≡ false → counter_mentioned (counter_applied state by dot) id ≡ false
applied_mentions state by dot id other none = made_mentions _ id (with_at_other (number_at state.shares) dot.origin _ id other ∙ no_mention state id none)

-- what a join mentions, either side does
pub joined_mentions : (state other : GCounter) (id : ℕ) → counter_mentioned state id ≡ false → counter_mentioned other id ≡ false → counter_mentioned (counter_joined state other) id ≡ false
joined_mentions state other id none none_too = made_mentions _ id (ap (λ n. max n (number_at other.shares id)) (no_mention state id none) ∙ ap (max 0) (no_mention other id none_too))

-- a delta adds no mention but of its origin
pub absorbed_mentions : (state : GCounter) (delta : Share) (origin id : ℕ) → IsShareOf delta origin → (id ≡ origin → ⊥) → counter_mentioned state id ≡ false → counter_mentioned (counter_absorbed state delta) id ≡ false
absorbed_mentions state delta origin id made_by other none =
    made_mentions _ id (with_at_other (number_at state.shares) delta.origin _ id (λ same. other (same ∙ made_by)) ∙ no_mention state id none)

-- cleaning adds no mention
pub cleaned_mentions : (state : GCounter) (removed id : ℕ) → counter_mentioned state id ≡ false → counter_mentioned (counter_cleaned state removed) id ≡ false
cleaned_mentions state removed id none = made_mentions _ id (zero_at (number_at state.shares) removed id (no_mention state id none))

-- what was cleaned away is mentioned no more
pub cleaned_unmentioned : (state : GCounter) (removed : ℕ) → counter_mentioned (counter_cleaned state removed) removed ≡ false
cleaned_unmentioned state removed = made_mentions _ removed (with_at_is (number_at state.shares) removed 0 removed refl)

-- a prune adds no mention but of the owner
pub pruned_mentions : (state : GCounter) (removed owner id : ℕ) → (id ≡ owner → ⊥) → counter_mentioned state id ≡ false → counter_mentioned (counter_pruned state removed owner) id ≡ false
pruned_mentions state removed owner id other none =
    let numbers : ℕ → ℕ = with_at (number_at state.shares) owner (number_at state.shares owner + number_at state.shares removed) in
    made_mentions (with_at numbers removed 0) id (zero_at numbers removed id (with_at_other (number_at state.shares) owner _ id other ∙ no_mention state id none))

-- what was pruned is mentioned no more
pub pruned_unmentioned : (state : GCounter) (removed owner : ℕ) → counter_mentioned (counter_pruned state removed owner) removed ≡ false
pruned_unmentioned state removed owner =
    let numbers : ℕ → ℕ = with_at (number_at state.shares) owner (number_at state.shares owner + number_at state.shares removed) in
    made_mentions (with_at numbers removed 0) removed (with_at_is numbers removed 0 removed refl)

module _ {Op : Type 0} (amount : Op → ℕ) where
  -- shares with another share at one identity that was not cleaned away
  with_share : (state : GCounter) (log : History Op) (held : VersionVector) (gone : IdentitySet) (id number share : ℕ) → id < identity_limit → gone id ≡ false → AreShares amount state log held gone → HasShare amount log id number share
      → AreShares amount (record { shares = numbers_of (with_at (number_at state.shares) id share) }) log (with_at held id number) gone
  with_share state log held gone id number share few kept p has = record {
    normal = IsNormal-numbers_of _;
    away = λ i g. ⊎_elim
        (λ (l : i < identity_limit). other_at (number_at state.shares) id share i l (λ e. both_ways (gone i) g (ap gone e ∙ kept)) ∙ p.away i g)
        (λ (l : identity_limit ≤ i). number_at-numbers_of_above _ i l) (cases_lt i identity_limit);
    share = λ i l g. ⊎_elim
        (λ (e : i ≡ id). subst₂ (HasShare amount log i) (sym (with_at_is held id number i e)) (sym (same_at (number_at state.shares) id share i l e)) (subst (λ k. HasShare amount log k number share) (sym e) has))
        (λ (ne : i ≢ id). subst₂ (HasShare amount log i) (sym (with_at_other held id number i ne)) (sym (other_at (number_at state.shares) id share i l ne)) (p.share i l g)) (cases_eq i id);
  }

  -- the shares of the empty history
  pub data_empty : (log : History Op) (held : VersionVector) (gone : IdentitySet) → ((i : ℕ) → held i ≡ 0) → AreShares amount empty_counter log held gone
  data_empty log held gone none = record {
    normal = empty-numbers_of (number_at map.empty) number_at-empty;
    away = λ i g. number_at-empty i;
    share = λ i l g. nothing i (held i) _ (none i) (number_at-empty i);
  }

  pub data_applied : (state : GCounter) (log : History Op) (held : VersionVector) (gone : IdentitySet) (op : Op) (dot : Dot)
      → IsPrunedCut log held gone → gone dot.origin ≡ false → IsNext log held dot.origin (Operation op) → dot.seq ≡ held dot.origin + 1 → AreShares amount state log held gone
      → AreShares amount (counter_applied state (amount op) dot) log (grown held dot.origin) gone × IsShareAt amount (counter_delta_of state (amount op) dot) log dot.origin (held dot.origin) (held dot.origin + 1)
  data_applied state log held gone op dot h stays next seq is =
      let has : HasShare amount log dot.origin (held dot.origin + 1) (number_at state.shares dot.origin + amount op)
      = counted dot.origin _ _ (held dot.origin) (number_at state.shares dot.origin) op refl refl next.action (is.share dot.origin next.member stays) in
      (with_share state log held gone dot.origin _ _ next.member stays is has, record { made_by = refl; rises = omega arith; share = has })

  pub data_joined : (state other : GCounter) (log : History Op) (held also : VersionVector) (gone : IdentitySet) → IsConsistentCut log held → IsConsistentCut log also → IsPrunedCut log (join held also) gone
      → AreShares amount state log held gone → AreShares amount other log also gone → AreShares amount (counter_joined state other) log (join held also) gone
  data_joined state other log held also gone h j x p q = record {
    normal = IsNormal-numbers_of _;
    away = λ i g. ⊎_elim
        (λ (l : i < identity_limit). number_at-joined state.shares other.shares i l ∙ ap (λ n. max n (number_at other.shares i)) (p.away i g) ∙ ap (max 0) (q.away i g))
        (λ (l : identity_limit ≤ i). number_at-numbers_of_above _ i l) (cases_lt i identity_limit);
    share = λ i l g. ⊎_elim
        (λ (le : held i ≤ also i).
        let s : number_at state.shares i ≤ number_at other.shares i = rises amount log i (held i) (also i) _ _ (q.share i l g) (p.share i l g) le in
        subst₂ (HasShare amount log i) (sym (max_right (held i) (also i) le)) (sym (number_at-joined state.shares other.shares i l ∙ max_right _ _ s)) (q.share i l g))
        (λ (le : also i ≤ held i).
        let s : number_at other.shares i ≤ number_at state.shares i = rises amount log i (also i) (held i) _ _ (p.share i l g) (q.share i l g) le in
        subst₂ (HasShare amount log i) (sym (max_left (held i) (also i) le)) (sym (number_at-joined state.shares other.shares i l ∙ max_left _ _ s)) (p.share i l g)) (le_or (held i) (also i));
  }

  pub data_cleaned : (state : GCounter) (log : History Op) (held : VersionVector) (gone : IdentitySet) (id : ℕ) → AreShares amount state log held gone → AreShares amount (counter_cleaned state id) log held (with_member gone id)
  data_cleaned state log held gone id p = record {
    normal = IsNormal-numbers_of _;
    away = λ i g. ⊎_elim
        (λ (l : i < identity_limit). ⊎_elim (λ (e : i ≡ id). same_at (number_at state.shares) id 0 i l e)
        (λ (ne : i ≢ id). other_at (number_at state.shares) id 0 i l ne ∙ p.away i (sym (with_member_other gone id i ne) ∙ g)) (cases_eq i id))
        (λ (l : identity_limit ≤ i). number_at-numbers_of_above _ i l) (cases_lt i identity_limit);
    share = λ i l g.
        let ne : i ≢ id = λ e. both_ways _ (with_member_is gone id i e) g in
        subst (HasShare amount log i (held i)) (sym (other_at (number_at state.shares) id 0 i l ne)) (p.share i l (sym (with_member_other gone id i ne) ∙ g));
  }

  pub data_pruned : (state : GCounter) (log : History Op) (held : VersionVector) (gone : IdentitySet) (id : ℕ) (dot : Dot)
      → IsPrunedCut log held gone → gone dot.origin ≡ false → IsNext log held dot.origin (Prune id) → dot.seq ≡ held dot.origin + 1 → AreShares amount state log held gone → (id ≡ dot.origin → ⊥) → gone id ≡ false
      → AreShares amount (counter_pruned state id dot.origin) log (grown held dot.origin) (with_member gone id)
  data_pruned state log held gone id dot h stays next seq is other kept =
      let past : past_of log dot.origin (held dot.origin) id ≡ held id = next.past id in
      let removed_share : HasShare amount log id (past_of log dot.origin (held dot.origin) id) (number_at state.shares id) = subst (λ n. HasShare amount log id n (number_at state.shares id)) (sym past) (⊎_elim
      (λ (l : id < identity_limit). is.share id l kept)
      (λ (l : identity_limit ≤ id). nothing id _ _ (h.cut.few id l) (number_at_above state.shares is.normal id l)) (cases_lt id identity_limit)) in
      let total : ℕ = number_at state.shares dot.origin + number_at state.shares id in
      let has : HasShare amount log dot.origin (held dot.origin + 1) total
      = taken dot.origin _ _ (held dot.origin) (number_at state.shares dot.origin) id (number_at state.shares id) refl refl next.action (is.share dot.origin next.member stays) removed_share in
      let moved : GCounter = record { shares = numbers_of (with_at (number_at state.shares) dot.origin total) } in
      subst (λ (x : GCounter). AreShares amount x log (grown held dot.origin) (with_member gone id)) (same_counter _ _ (removed_at (with_at (number_at state.shares) dot.origin total) id))
      (data_cleaned moved log (grown held dot.origin) gone id (with_share state log held gone dot.origin _ _ next.member stays is has))

  pub data_absorbed : (state : GCounter) (delta : Share) (log : History Op) (held : VersionVector) (gone : IdentitySet) (origin after to : ℕ) → IsPrunedCut log held gone → IsConsistentCut log (with_at held origin to) → AreOperations log origin after to
      → AreShares amount state log held gone → IsShareAt amount delta log origin after to → gone origin ≡ false → after ≤ held origin → held origin < to → AreShares amount (counter_absorbed state delta) log (with_at held origin to) gone
  data_absorbed state delta log held gone origin after to h j u p d g l m =
      let few : origin < identity_limit = ⊎_elim (λ (x : origin < identity_limit). x) (λ (x : identity_limit ≤ origin). absurd (let z : to ≡ 0 = sym (with_at_is held origin to origin refl) ∙ j.few origin x in omega arith)) (cases_lt origin identity_limit) in
      let up : number_at state.shares origin ≤ delta.share = rises amount log origin (held origin) to _ _ d.share (p.share origin few g) (omega arith) in
      let same : raised state.shares delta.origin delta.share ≡ numbers_of (with_at (number_at state.shares) origin delta.share) =
      ap (λ k. numbers_of (with_at (number_at state.shares) k (max (number_at state.shares k) delta.share))) d.made_by ∙ ap (λ n. numbers_of (with_at (number_at state.shares) origin n)) (max_right _ _ up) in
      subst (λ (x : GCounter). AreShares amount x log (with_at held origin to) gone) (same_counter _ _ (sym same)) (with_share state log held gone origin to delta.share few g p d.share)

  pub delta_combined : (first later : Share) (log : History Op) (origin after mid to : ℕ) → IsShareAt amount first log origin after mid → IsShareAt amount later log origin mid to → IsShareAt amount (counter_combined first later) log origin after to
  delta_combined first later log origin after mid to d e = record {
    made_by = d.made_by;
    rises = let x = d.rises in let y = e.rises in omega arith;
    share = subst (HasShare amount log origin to) (sym (max_right _ _ (rises amount log origin mid to _ _ e.share d.share (let y = e.rises in omega arith)))) e.share;
  }

  pub data_within : (state : GCounter) (log : History Op) (held : VersionVector) (gone : IdentitySet) → AreShares amount state log held gone → AreSharesWithin state (without gone held)
  data_within state log held gone p = record {
    normal = p.normal;
    seen = λ i l h. ⊎_elim
        (λ (g : gone i ≡ true). absurd (let z = p.away i g in omega arith))
        (λ (g : gone i ≡ false). ⊎_elim (λ (z : held i ≡ 0). absurd (let n = none_of amount log i (held i) _ (p.share i l g) z in omega arith))
        (λ (nz : held i ≢ 0). rw g (omega arith)) (cases_eq (held i) 0)) (cases_Bool (gone i));
  }

  no_share : (state : GCounter) (log : History Op) (held : VersionVector) (gone : IdentitySet) (id : ℕ) → AreShares amount state log held gone → without gone held id ≡ 0 → number_at state.shares id ≡ 0
  no_share state log held gone id p none = ⊎_elim
      (λ (l : identity_limit ≤ id). number_at_above state.shares p.normal id l)
      (λ (l : id < identity_limit). ⊎_elim (λ (g : gone id ≡ true). p.away id g)
      (λ (g : gone id ≡ false). none_of amount log id (held id) _ (p.share id l g) (sym (ap (λ b. cond b 0 (held id)) g) ∙ none)) (cases_Bool (gone id))) (⊎_elim (λ (l : id < identity_limit). inr l) (λ (l : identity_limit ≤ id). inl l) (cases_lt id identity_limit))

  pub data_unmentioned : (state : GCounter) (log : History Op) (held : VersionVector) (gone : IdentitySet) (id : ℕ) → AreShares amount state log held gone → without gone held id ≡ 0 → counter_mentioned state id ≡ false
  data_unmentioned state log held gone id p none = ap (λ n. not (nat_eq n 0)) (no_share state log held gone id p none)

  pub data_once : (state other : GCounter) (log : History Op) (held : VersionVector) (gone : IdentitySet) → AreShares amount state log held gone → AreShares amount other log held gone → state ≡ other
  data_once state other log held gone p q = same_counter _ _ (same_numbers state.shares other.shares p.normal q.normal (λ i l. ⊎_elim
      (λ (g : gone i ≡ true). p.away i g ∙ sym (q.away i g))
      (λ (g : gone i ≡ false). once amount log i (held i) _ _ (p.share i l g) (q.share i l g)) (cases_Bool (gone i))))

  pub delta_made_by : (delta : Share) (log : History Op) (origin after to : ℕ) → IsShareAt amount delta log origin after to → IsShareOf delta origin
  delta_made_by delta log origin after to d = d.made_by

  share_here : (state : GCounter) (log : History Op) (held : VersionVector) (gone : IdentitySet) → IsPrunedCut log held gone → AreShares amount state log held gone → (i : ℕ) → gone i ≡ false
      → number_at state.shares i ≡ share amount (cut log held) i
  share_here state log held gone h p i g = ⊎_elim
      (λ (l : i < identity_limit). share_is amount log held i (number_at state.shares i) h.cut (p.share i l g))
      (λ (l : identity_limit ≤ i). let history = cut_is_history log held h.cut in
      number_at_above state.shares p.normal i l ∙ sym (share_equation amount (cut log held) history i ∙ ap (sum_by _) (history.within i l))) (cases_lt i identity_limit)

  pub refusal_means : (state : GCounter) (log : History Op) (held : VersionVector) (gone : IdentitySet) (by origin : ℕ) → IsPrunedCut log held gone → AreShares amount state log held gone → gone origin ≡ false
      → counter_apply_refusal state by origin ≡ overflow (share amount (cut log held) origin) by
  refusal_means state log held gone by origin h p g = ap (λ s. overflow s by) (share_here state log held gone h p origin g)

  pub blocked_means : (state : GCounter) (log : History Op) (held : VersionVector) (gone : IdentitySet) (owner id : ℕ) (otherwise : Option Shares) → IsPrunedCut log held gone → AreShares amount state log held gone → gone owner ≡ false → gone id ≡ false
      → too_much (number_at state.shares owner) (number_at state.shares id) otherwise ≡ too_much (share amount (cut log held) owner) (share amount (cut log held) id) otherwise
  blocked_means state log held gone owner id otherwise h p g g' =
      ap (λ s. too_much s (number_at state.shares id) otherwise) (share_here state log held gone h p owner g) ∙ ap (λ s. too_much (share amount (cut log held) owner) s otherwise) (share_here state log held gone h p id g')

  share_left : (state : GCounter) (log : History Op) (held : VersionVector) (gone : IdentitySet) → IsPrunedCut log held gone → AreShares amount state log held gone → (i : ℕ)
      → number_at state.shares i ≡ (if is_pruned (cut log held) i then 0 else share amount (cut log held) i)
  share_left state log held gone h p i = ⊎_elim
      (λ (g : gone i ≡ true). p.away i g ∙ sym (ap (λ b. if b then 0 else share amount (cut log held) i) (sym ((pruned_cut log held gone h).1 i) ∙ g)))
      (λ (g : gone i ≡ false). share_here state log held gone h p i g ∙ sym (ap (λ b. if b then 0 else share amount (cut log held) i) (sym ((pruned_cut log held gone h).1 i) ∙ g))) (cases_Bool (gone i))

  pub sum_means : (state : GCounter) (log : History Op) (held : VersionVector) (gone : IdentitySet) → IsPrunedCut log held gone → AreShares amount state log held gone → counter_sum state ≡ total amount (cut log held)
  sum_means state log held gone h p =
      sum_by-same (number_at state.shares) (λ i. if is_pruned (cut log held) i then 0 else share amount (cut log held) i) identities (λ k i e. share_left state log held gone h p i)
      ∙ shares_add_up amount (cut log held) (cut_is_history log held h.cut) (pruned_cut log held gone h).0

-- WHAT A HISTORY OF THE SIX KINDS' OPERATIONS SAYS OF A GROWING COUNTER

pub growing_refusal : (state : GCounter) (log : History Op) (held : VersionVector) (gone : IdentitySet) (op : Op) (origin : ℕ) → IsPrunedCut log held gone → AreShares increment state log held gone → gone origin ≡ false → (of_kind Kind.GCounter).fits tt op ≡ true
    → counter_apply_refusal state (increment op) origin ≡ (of_kind Kind.GCounter).refusal tt origin op (cut log held)
growing_refusal state log held gone (Increment by) origin h p g fits = refusal_means increment state log held gone by origin h p g
growing_refusal state log held gone op origin h p g fits = absurd (cc fits)
