-- The laws of a counter that moves both ways: each is a pair of laws of growing counters.
use Rattle.std.proofs.Common.{◌≡◌, ℕ, ◌+◌, ◌<◌, ◌≤◌, Bool, true, false, ◌||◌, None, ap, ◌∙◌}
use Rattle.std.proofs.lemmas.Bool.{or_parts}
use Rattle.model_history.specs.Table.{with_at}
use Rattle.model_history.specs.Vector.{VersionVector, IdentitySet, join, with_member}
use Rattle.model_history.specs.History.{History, cut}
use Rattle.model_history.specs.History.Action.{Operation, Prune}
use Rattle.model_history.specs.Cuts.{IsConsistentCut, IsPrunedCut, IsNext, AreOperations, grown, without}
use Rattle.model_meanings.specs.Refusal.{too_much}
use Rattle.model_meanings.specs.Counter.{share}
use Rattle.base_vectors.specs.declared.id.Dot.{Dot}
use Rattle.model_kinds.specs.SixKinds.{of_kind, increment, decrement}
use Rattle.model_kinds.specs.declared.kind.Kind.TheVariants as Kind
use Rattle.model_kinds.specs.declared.operation.Op.{Op}
use Rattle.model_kinds.specs.declared.operation.Op.TheVariants.{Increment, Decrement}
use Rattle.model_kinds.specs.declared.shown.Shown.{Shown}
use Rattle.model_kinds.specs.declared.shown.Shown.TheVariants.{Signed}
use Rattle.data_counters.specs.declared.counter.GCounter.{GCounter}
use Rattle.data_counters.specs.declared.counter.PnCounter.{PnCounter}
use Rattle.data_counters.specs.declared.counter.PnShare.{PnShare}
use Rattle.data_counters.specs.Counter.{counter_prune_refusal, counter_mentioned}
use Rattle.data_counters.specs.Signed.{plus_of, minus_of, empty_signed, signed_applied, signed_delta_of, signed_apply_refusal, signed_joined, signed_absorbed, signed_combined, signed_cleaned, signed_pruned, signed_prune_refusal, signed_mentioned, signed_sum, less, AreBothShares, AreBothAt, AreBothWithin, AreBothOf}
use Rattle.data_counters.specs.Laws as one

-- two counters with the same parts
same_parts : (a b c d : GCounter) → a ≡ b → c ≡ d → ◌≡◌ {A = PnCounter} (record { plus = a; minus = c }) (record { plus = b; minus = d })
same_parts a b c d e f = λ i. record { plus = e i; minus = f i }

pub join_comm : (a b : PnCounter) → signed_joined a b ≡ signed_joined b a
join_comm a b = same_parts _ _ _ _ (one.join_comm a.plus b.plus) (one.join_comm a.minus b.minus)

pub join_assoc : (a b c : PnCounter) → signed_joined (signed_joined a b) c ≡ signed_joined a (signed_joined b c)
join_assoc a b c = same_parts _ _ _ _ (one.join_assoc a.plus b.plus c.plus) (one.join_assoc a.minus b.minus c.minus)

pub join_same : (a : PnCounter) (v : VersionVector) → AreBothWithin a v → signed_joined a a ≡ a
join_same a v h = same_parts _ _ _ _ (one.join_same a.plus h.plus.normal) (one.join_same a.minus h.minus.normal)

pub join_upper : (a b : PnCounter) → signed_joined a (signed_joined a b) ≡ signed_joined a b
join_upper a b = same_parts _ _ _ _ (one.join_upper a.plus b.plus) (one.join_upper a.minus b.minus)

pub join_within : (a b : PnCounter) (v w : VersionVector) → AreBothWithin a v → AreBothWithin b w → AreBothWithin (signed_joined a b) (join v w)
join_within a b v w p q = record {
  plus = one.join_within a.plus b.plus v w p.plus q.plus;
  minus = one.join_within a.minus b.minus v w p.minus q.minus;
}

pub absorb_applied : (state : PnCounter) (op : Op) (dot : Dot) → signed_absorbed state (signed_delta_of state op dot) ≡ signed_applied state op dot
absorb_applied state op dot = same_parts _ _ _ _ (one.absorb_applied state.plus (increment op) dot) (one.absorb_applied state.minus (decrement op) dot)

pub absorb_combined : (state : PnCounter) (first later : PnShare) (origin : ℕ) → AreBothOf first origin → AreBothOf later origin
    → signed_absorbed state (signed_combined first later) ≡ signed_absorbed (signed_absorbed state first) later
absorb_combined state first later origin e f = same_parts _ _ _ _
    (one.absorb_combined state.plus (plus_of first) (plus_of later) origin e f) (one.absorb_combined state.minus (minus_of first) (minus_of later) origin e f)

pub data_empty : (log : History Op) (held : VersionVector) (gone : IdentitySet) → ((i : ℕ) → held i ≡ 0) → AreBothShares empty_signed log held gone
data_empty log held gone none = record { plus = one.data_empty increment log held gone none; minus = one.data_empty decrement log held gone none }

pub data_applied : (state : PnCounter) (log : History Op) (held : VersionVector) (gone : IdentitySet) (op : Op) (dot : Dot)
    → IsPrunedCut log held gone → gone dot.origin ≡ false → IsNext log held dot.origin (Operation op) → dot.seq ≡ held dot.origin + 1 → AreBothShares state log held gone
    → AreBothShares (signed_applied state op dot) log (grown held dot.origin) gone × AreBothAt (signed_delta_of state op dot) log dot.origin (held dot.origin) (held dot.origin + 1)
data_applied state log held gone op dot h stays next seq is =
    let (plus, plus_delta) = one.data_applied increment state.plus log held gone op dot h stays next seq is.plus in
    let (minus, minus_delta) = one.data_applied decrement state.minus log held gone op dot h stays next seq is.minus in
    (record { plus = plus; minus = minus }, record { plus = plus_delta; minus = minus_delta })

pub data_joined : (state other : PnCounter) (log : History Op) (held also : VersionVector) (gone : IdentitySet) → IsConsistentCut log held → IsConsistentCut log also → IsPrunedCut log (join held also) gone
    → AreBothShares state log held gone → AreBothShares other log also gone → AreBothShares (signed_joined state other) log (join held also) gone
data_joined state other log held also gone h j x p q = record {
  plus = one.data_joined increment state.plus other.plus log held also gone h j x p.plus q.plus;
  minus = one.data_joined decrement state.minus other.minus log held also gone h j x p.minus q.minus;
}

pub data_absorbed : (state : PnCounter) (delta : PnShare) (log : History Op) (held : VersionVector) (gone : IdentitySet) (origin after to : ℕ) → IsPrunedCut log held gone → IsConsistentCut log (with_at held origin to) → AreOperations log origin after to
    → AreBothShares state log held gone → AreBothAt delta log origin after to → gone origin ≡ false → after ≤ held origin → held origin < to → AreBothShares (signed_absorbed state delta) log (with_at held origin to) gone
data_absorbed state delta log held gone origin after to h j u p d g l m = record {
  plus = one.data_absorbed increment state.plus (plus_of delta) log held gone origin after to h j u p.plus d.plus g l m;
  minus = one.data_absorbed decrement state.minus (minus_of delta) log held gone origin after to h j u p.minus d.minus g l m;
}

pub data_cleaned : (state : PnCounter) (log : History Op) (held : VersionVector) (gone : IdentitySet) (id : ℕ) → AreBothShares state log held gone → AreBothShares (signed_cleaned state id) log held (with_member gone id)
data_cleaned state log held gone id p = record {
  plus = one.data_cleaned increment state.plus log held gone id p.plus;
  minus = one.data_cleaned decrement state.minus log held gone id p.minus;
}

pub data_pruned : (state : PnCounter) (log : History Op) (held : VersionVector) (gone : IdentitySet) (id : ℕ) (dot : Dot)
    → IsPrunedCut log held gone → gone dot.origin ≡ false → IsNext log held dot.origin (Prune id) → dot.seq ≡ held dot.origin + 1 → AreBothShares state log held gone → (id ≡ dot.origin → ⊥) → gone id ≡ false
    → AreBothShares (signed_pruned state id dot) log (grown held dot.origin) (with_member gone id)
data_pruned state log held gone id dot h stays next seq is other kept = record {
  plus = one.data_pruned increment state.plus log held gone id dot h stays next seq is.plus other kept;
  minus = one.data_pruned decrement state.minus log held gone id dot h stays next seq is.minus other kept;
}

pub delta_combined : (first later : PnShare) (log : History Op) (origin after mid to : ℕ) → AreBothAt first log origin after mid → AreBothAt later log origin mid to → AreBothAt (signed_combined first later) log origin after to
delta_combined first later log origin after mid to d e = record {
  plus = one.delta_combined increment (plus_of first) (plus_of later) log origin after mid to d.plus e.plus;
  minus = one.delta_combined decrement (minus_of first) (minus_of later) log origin after mid to d.minus e.minus;
}

pub delta_made_by : (delta : PnShare) (log : History Op) (origin after to : ℕ) → AreBothAt delta log origin after to → AreBothOf delta origin
delta_made_by delta log origin after to d = one.delta_made_by increment (plus_of delta) log origin after to d.plus

pub data_within : (state : PnCounter) (log : History Op) (held : VersionVector) (gone : IdentitySet) → AreBothShares state log held gone → AreBothWithin state (without gone held)
data_within state log held gone p = record { plus = one.data_within increment state.plus log held gone p.plus; minus = one.data_within decrement state.minus log held gone p.minus }

neither : (a b : Bool) → a ≡ false → b ≡ false → a || b ≡ false
neither a b e f = ap (λ x. x || b) e ∙ f

pub data_unmentioned : (state : PnCounter) (log : History Op) (held : VersionVector) (gone : IdentitySet) (id : ℕ) → AreBothShares state log held gone → without gone held id ≡ 0 → signed_mentioned state id ≡ false
data_unmentioned state log held gone id p none = neither _ _
    (one.data_unmentioned increment state.plus log held gone id p.plus none) (one.data_unmentioned decrement state.minus log held gone id p.minus none)

-- WHAT ANY COUNTER MENTIONS

-- the parts of a counter that doesn't mention an identity don't
no_mentions : (state : PnCounter) (id : ℕ) → signed_mentioned state id ≡ false → (counter_mentioned state.plus id ≡ false) × (counter_mentioned state.minus id ≡ false)
no_mentions state id none = or_parts _ _ none

-- nothing is mentioned where there was no record
pub empty_mentions : (id : ℕ) → signed_mentioned empty_signed id ≡ false
empty_mentions id = neither _ _ (one.empty_mentions id) (one.empty_mentions id)

-- an operation adds no mention but of its origin
pub applied_mentions : (state : PnCounter) (op : Op) (dot : Dot) (id : ℕ) → (id ≡ dot.origin → ⊥) → signed_mentioned state id ≡ false → signed_mentioned (signed_applied state op dot) id ≡ false
applied_mentions state op dot id other none =
    let parts = no_mentions state id none in
    neither _ _ (one.applied_mentions state.plus (increment op) dot id other parts.0) (one.applied_mentions state.minus (decrement op) dot id other parts.1)

-- what a join mentions, either side does
pub joined_mentions : (state other : PnCounter) (id : ℕ) → signed_mentioned state id ≡ false → signed_mentioned other id ≡ false → signed_mentioned (signed_joined state other) id ≡ false
joined_mentions state other id none none_too =
    let parts = no_mentions state id none in
    let parts_too = no_mentions other id none_too in
    neither _ _ (one.joined_mentions state.plus other.plus id parts.0 parts_too.0) (one.joined_mentions state.minus other.minus id parts.1 parts_too.1)

-- a delta adds no mention but of its origin
pub absorbed_mentions : (state : PnCounter) (delta : PnShare) (origin id : ℕ) → AreBothOf delta origin → (id ≡ origin → ⊥) → signed_mentioned state id ≡ false → signed_mentioned (signed_absorbed state delta) id ≡ false
absorbed_mentions state delta origin id made_by other none =
    let parts = no_mentions state id none in
    neither _ _ (one.absorbed_mentions state.plus (plus_of delta) origin id made_by other parts.0) (one.absorbed_mentions state.minus (minus_of delta) origin id made_by other parts.1)

-- cleaning adds no mention
pub cleaned_mentions : (state : PnCounter) (removed id : ℕ) → signed_mentioned state id ≡ false → signed_mentioned (signed_cleaned state removed) id ≡ false
cleaned_mentions state removed id none =
    let parts = no_mentions state id none in
    neither _ _ (one.cleaned_mentions state.plus removed id parts.0) (one.cleaned_mentions state.minus removed id parts.1)

-- what was cleaned away is mentioned no more
pub cleaned_unmentioned : (state : PnCounter) (removed : ℕ) → signed_mentioned (signed_cleaned state removed) removed ≡ false
cleaned_unmentioned state removed = neither _ _ (one.cleaned_unmentioned state.plus removed) (one.cleaned_unmentioned state.minus removed)

-- a prune adds no mention but of its origin
pub pruned_mentions : (state : PnCounter) (removed : ℕ) (dot : Dot) (id : ℕ) → (id ≡ dot.origin → ⊥) → signed_mentioned state id ≡ false → signed_mentioned (signed_pruned state removed dot) id ≡ false
pruned_mentions state removed dot id other none =
    let parts = no_mentions state id none in
    neither _ _ (one.pruned_mentions state.plus removed dot.origin id other parts.0) (one.pruned_mentions state.minus removed dot.origin id other parts.1)

-- what was pruned is mentioned no more
pub pruned_unmentioned : (state : PnCounter) (removed : ℕ) (dot : Dot) → signed_mentioned (signed_pruned state removed dot) removed ≡ false
pruned_unmentioned state removed dot = neither _ _ (one.pruned_unmentioned state.plus removed dot.origin) (one.pruned_unmentioned state.minus removed dot.origin)

pub data_once : (state other : PnCounter) (log : History Op) (held : VersionVector) (gone : IdentitySet) → AreBothShares state log held gone → AreBothShares other log held gone → state ≡ other
data_once state other log held gone p q = same_parts _ _ _ _
    (one.data_once increment state.plus other.plus log held gone p.plus q.plus) (one.data_once decrement state.minus other.minus log held gone p.minus q.minus)

pub refusal_means : (state : PnCounter) (log : History Op) (held : VersionVector) (gone : IdentitySet) (op : Op) (origin : ℕ) → IsPrunedCut log held gone → AreBothShares state log held gone → gone origin ≡ false → (of_kind Kind.PnCounter).fits tt op ≡ true
    → signed_apply_refusal state op origin ≡ (of_kind Kind.PnCounter).refusal tt origin op (cut log held)
refusal_means state log held gone (Increment by) origin h p g fits = one.refusal_means increment state.plus log held gone by origin h p.plus g
refusal_means state log held gone (Decrement by) origin h p g fits = one.refusal_means decrement state.minus log held gone by origin h p.minus g
refusal_means state log held gone op origin h p g fits = absurd (cc fits)

pub blocked_means : (state : PnCounter) (log : History Op) (held : VersionVector) (gone : IdentitySet) (owner removed : ℕ) → IsPrunedCut log held gone → AreBothShares state log held gone → gone owner ≡ false → gone removed ≡ false
    → signed_prune_refusal state removed owner ≡ (of_kind Kind.PnCounter).blocked tt owner removed (cut log held)
blocked_means state log held gone owner removed h p g g' =
    one.blocked_means increment state.plus log held gone owner removed (counter_prune_refusal state.minus removed owner) h p.plus g g'
    ∙ ap (too_much (share increment (cut log held) owner) (share increment (cut log held) removed)) (one.blocked_means decrement state.minus log held gone owner removed None h p.minus g g')

same_difference : (a b c d : ℕ) → a ≡ b → c ≡ d → ◌≡◌ {A = Shown} (Signed (less a c)) (Signed (less b d))
same_difference a b c d e f = λ i. Signed (less (e i) (f i))

pub shown_means : (state : PnCounter) (log : History Op) (held : VersionVector) (gone : IdentitySet) → IsPrunedCut log held gone → AreBothShares state log held gone
    → Signed (signed_sum state) ≡ (of_kind Kind.PnCounter).shown tt (cut log held)
shown_means state log held gone h p = same_difference _ _ _ _ (one.sum_means increment state.plus log held gone h p.plus) (one.sum_means decrement state.minus log held gone h p.minus)
