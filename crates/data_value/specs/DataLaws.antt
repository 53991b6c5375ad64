-- The laws of a key's data: those of its value until a delete, and then those of nothing but the kind.
use Rattle.std.proofs.Common.{◌≡◌, ℕ, ◌+◌, ◌<◌, ◌≤◌, Bool, true, false, ◌||◌, None, refl, sym, ap, subst, ◌∙◌, arith}
use Rattle.std.specs.Prelude.{if◌then◌else◌, not, ◌&&◌, Option}
use Rattle.std.proofs.lemmas.Bool.{false≢true}
use Rattle.model_history.specs.Table.{with_at}
use Rattle.model_history.specs.Vector.{VersionVector, IdentitySet, join, with_member}
use Rattle.model_history.specs.History.{History, cut}
use Rattle.model_history.specs.History.Action.{Operation, Prune}
use Rattle.model_history.specs.Cuts.{IsConsistentCut, IsPrunedCut, IsNext, AreOperations, grown, without}
use Rattle.model_meanings.specs.Refusal.{Refusal, Shares}
use Rattle.base_vectors.specs.declared.id.Dot.{Dot}
use Rattle.model_kinds.specs.SixKinds as meant
use Rattle.model_kinds.specs.SixKinds.{is_delete, six_kinds}
use Rattle.model_kinds.specs.declared.kind.Kind.{Kind}
use Rattle.model_kinds.specs.declared.operation.Op.{Op}
use Rattle.model_kinds.specs.declared.shown.Shown.TheVariants as shown_as
use Rattle.data_growing.specs.RecordedLaws.{tells_none, tells_grown, tells_pruned, tells_new, tells_joined, tells_group, tells_both, tells_once, tells_means}
use Rattle.data_value.specs.declared.value.Value.{Value}
use Rattle.data_value.specs.declared.data.Data.{Data}
use Rattle.data_value.specs.declared.data.Data.TheVariants.{Open, Deleted}
use Rattle.data_value.specs.declared.data.Delta.{Delta}
use Rattle.data_value.specs.declared.data.Delta.TheVariants as deltas
use Rattle.data_value.specs.Values as values
use Rattle.data_value.specs.Laws as laws
use Rattle.data_value.specs.Data.{kind_of, is_closed, fits_kind, IsOfOrigin, AreApart, empty_of, applied, delta_of, apply_refusal, joined, absorbed, combined, cleaned, pruned, prune_refusal, mentioned, shown, IsDataOf, IsDeltaOf, IsWithin}

abbrev unrefused : Option Refusal
unrefused = None

abbrev unblocked : Option Shares
unblocked = None

-- AN OPERATION, WHICH DELETES OR NOT

abbrev chosen : Bool → Kind → Value → Data
chosen deletes kind value = if deletes then Deleted kind else Open value

fits_value : (value : Value) (op : Op) → is_delete op ≡ false → (not false && six_kinds.fits (values.kind_of value) op) ≡ true → (not false && meant.values.fits (values.kind_of value) op) ≡ true
fits_value value op e fits = subst (λ (b : Bool). (b || meant.values.fits (values.kind_of value) op) ≡ true) e fits

-- THE KIND STAYS

pub kind_empty : (kind : Kind) → kind_of (empty_of kind) ≡ kind
kind_empty kind = laws.kind_empty kind

pub kind_applied : (state : Data) (op : Op) (dot : Dot) → kind_of (applied state op dot) ≡ kind_of state
kind_applied (Open value) op dot = either (is_delete op)
  where
    either : (b : Bool) → kind_of (chosen b (values.kind_of value) (values.applied value op dot)) ≡ values.kind_of value
    either true = refl
    either false = laws.kind_applied value op dot
kind_applied (Deleted kind) op dot = refl

pub kind_joined : (state : Data) (mine : VersionVector) (other : Data) (theirs : VersionVector) → kind_of (joined state mine other theirs) ≡ kind_of state
kind_joined (Open value) mine (Open other) theirs = laws.kind_joined value mine other theirs
kind_joined (Open value) mine (Deleted kind) theirs = refl
kind_joined (Deleted kind) mine other theirs = refl

pub kind_absorbed : (state : Data) (mine : VersionVector) (delta : Delta) → kind_of (absorbed state mine delta) ≡ kind_of state
kind_absorbed (Open value) mine (deltas.Open change) = laws.kind_absorbed value mine change
kind_absorbed (Open value) mine deltas.Delete = refl
kind_absorbed (Deleted kind) mine delta = refl

pub kind_cleaned : (state : Data) (id : ℕ) → kind_of (cleaned state id) ≡ kind_of state
kind_cleaned (Open value) id = laws.kind_cleaned value id
kind_cleaned (Deleted kind) id = refl

pub kind_pruned : (state : Data) (removed : ℕ) (dot : Dot) → kind_of (pruned state removed dot) ≡ kind_of state
kind_pruned (Open value) removed dot = laws.kind_pruned value removed dot
kind_pruned (Deleted kind) removed dot = refl

-- WHAT WAS DELETED STAYS SO

pub closed_joined : (state : Data) (mine : VersionVector) (other : Data) (theirs : VersionVector) → is_closed (joined state mine other theirs) ≡ (is_closed state || is_closed other)
closed_joined (Open value) mine (Open other) theirs = refl
closed_joined (Open value) mine (Deleted kind) theirs = refl
closed_joined (Deleted kind) mine other theirs = refl

pub closed_absorbed : (state : Data) (mine : VersionVector) (delta : Delta) → is_closed state ≡ true → is_closed (absorbed state mine delta) ≡ true
closed_absorbed (Open value) mine delta is = absurd (false≢true is)
closed_absorbed (Deleted kind) mine delta is = refl

pub closed_cleaned : (state : Data) (id : ℕ) → is_closed (cleaned state id) ≡ is_closed state
closed_cleaned (Open value) id = refl
closed_cleaned (Deleted kind) id = refl

pub closed_pruned : (state : Data) (removed : ℕ) (dot : Dot) → is_closed (pruned state removed dot) ≡ is_closed state
closed_pruned (Open value) removed dot = refl
closed_pruned (Deleted kind) removed dot = refl

pub closed_mentions : (state : Data) (id : ℕ) → is_closed state ≡ true → mentioned state id ≡ false
closed_mentions (Open value) id is = absurd (false≢true is)
closed_mentions (Deleted kind) id is = refl

pub closed_shown : (state : Data) → is_closed state ≡ true → shown state ≡ shown_as.Deleted
closed_shown (Open value) is = absurd (false≢true is)
closed_shown (Deleted kind) is = refl

pub closed_unblocked : (state : Data) (removed owner : ℕ) → is_closed state ≡ true → prune_refusal state removed owner ≡ None
closed_unblocked (Open value) removed owner is = absurd (false≢true is)
closed_unblocked (Deleted kind) removed owner is = refl

-- DELTAS ARE OF A KIND AND OF AN ORIGIN

pub delta_kind : (state : Data) (op : Op) (dot : Dot) → fits_kind (kind_of state) (delta_of state op dot) ≡ true
delta_kind (Open value) op dot = either (is_delete op)
  where
    either : (b : Bool) → fits_kind (values.kind_of value) (if b then deltas.Delete else deltas.Open (values.delta_of value op dot)) ≡ true
    either true = refl
    either false = laws.delta_kind value op dot
delta_kind (Deleted kind) op dot = refl

pub delta_origin : (state : Data) (op : Op) (dot : Dot) → IsOfOrigin (delta_of state op dot) dot.origin
delta_origin (Open value) op dot = either (is_delete op)
  where
    either : (b : Bool) → IsOfOrigin (if b then deltas.Delete else deltas.Open (values.delta_of value op dot)) dot.origin
    either true = tt
    either false = laws.delta_origin value op dot
delta_origin (Deleted kind) op dot = tt

pub combined_kind : (kind : Kind) (first later : Delta) → fits_kind kind first ≡ true → fits_kind kind (combined first later) ≡ true
combined_kind kind (deltas.Open first) (deltas.Open later) e = laws.combined_kind kind first later e
combined_kind kind (deltas.Open first) deltas.Delete e = refl
combined_kind kind deltas.Delete later e = refl

pub combined_origin : (first later : Delta) (origin : ℕ) → IsOfOrigin first origin → IsOfOrigin later origin → IsOfOrigin (combined first later) origin
combined_origin (deltas.Open first) (deltas.Open later) origin e f = laws.combined_origin first later origin e f
combined_origin (deltas.Open first) deltas.Delete origin e f = tt
combined_origin deltas.Delete later origin e f = tt

pub delta_made_by : (delta : Delta) (log : History Op) (origin after to : ℕ) → IsDeltaOf delta log origin after to → IsOfOrigin delta origin
delta_made_by (deltas.Open change) log origin after to is = laws.delta_made_by change log origin after to is.2
delta_made_by deltas.Delete log origin after to is = tt

-- JOINS

pub join_comm : (a b : Data) (v w : VersionVector) → kind_of a ≡ kind_of b → IsWithin a v → IsWithin b w → joined a v b w ≡ joined b w a v
join_comm (Open a) (Open b) v w k p q = ap Open (laws.join_comm a b v w k p q)
join_comm (Open a) (Deleted kind) v w k p q = ap Deleted k
join_comm (Deleted kind) (Open b) v w k p q = ap Deleted k
join_comm (Deleted kind) (Deleted also) v w k p q = ap Deleted k

pub join_assoc : (a b c : Data) (u v w : VersionVector) → kind_of a ≡ kind_of b → kind_of b ≡ kind_of c → IsWithin a u → IsWithin b v → IsWithin c w → joined (joined a u b v) (join u v) c w ≡ joined a u (joined b v c w) (join v w)
join_assoc (Open a) (Open b) (Open c) u v w k l p q r = ap Open (laws.join_assoc a b c u v w k l p q r)
join_assoc (Open a) (Open b) (Deleted kind) u v w k l p q r = ap Deleted (laws.kind_joined a u b v)
join_assoc (Open a) (Deleted kind) c u v w k l p q r = refl
join_assoc (Deleted kind) b c u v w k l p q r = refl

pub join_same : (a : Data) (v : VersionVector) → IsWithin a v → joined a v a v ≡ a
join_same (Open a) v p = ap Open (laws.join_same a v p)
join_same (Deleted kind) v p = refl

pub join_upper : (a b : Data) (v w : VersionVector) → kind_of a ≡ kind_of b → IsWithin a v → IsWithin b w → joined a v (joined a v b w) (join v w) ≡ joined a v b w
join_upper (Open a) (Open b) v w k p q = ap Open (laws.join_upper a b v w k p q)
join_upper (Open a) (Deleted kind) v w k p q = refl
join_upper (Deleted kind) b v w k p q = refl

pub join_within : (a b : Data) (v w : VersionVector) → kind_of a ≡ kind_of b → IsWithin a v → IsWithin b w → IsWithin (joined a v b w) (join v w)
join_within (Open a) (Open b) v w k p q = laws.join_within a b v w k p q
join_within (Open a) (Deleted kind) v w k p q = tt
join_within (Deleted kind) b v w k p q = tt

-- A DELTA DOES WHAT IT WAS MADE OF

pub absorb_applied : (state : Data) (mine : VersionVector) (op : Op) (dot : Dot) → IsWithin state mine → mine dot.origin < dot.seq → absorbed state mine (delta_of state op dot) ≡ applied state op dot
absorb_applied (Open value) mine op dot p l = either (is_delete op)
  where
    either : (b : Bool) → absorbed (Open value) mine (if b then deltas.Delete else deltas.Open (values.delta_of value op dot)) ≡ chosen b (values.kind_of value) (values.applied value op dot)
    either true = refl
    either false = ap Open (laws.absorb_applied value mine op dot p l)
absorb_applied (Deleted kind) mine op dot p l = refl

pub absorb_combined : (state : Data) (mine : VersionVector) (first later : Delta) (origin : ℕ) → fits_kind (kind_of state) first ≡ true → fits_kind (kind_of state) later ≡ true → IsOfOrigin first origin → IsOfOrigin later origin → AreApart first later
    → absorbed state mine (combined first later) ≡ absorbed (absorbed state mine first) mine later
absorb_combined (Open value) mine (deltas.Open first) (deltas.Open later) origin e f p q apart = ap Open (laws.absorb_combined value mine first later origin e f p q apart)
absorb_combined (Open value) mine (deltas.Open first) deltas.Delete origin e f p q apart = ap Deleted (sym (laws.kind_absorbed value mine first))
absorb_combined (Open value) mine deltas.Delete later origin e f p q apart = refl
absorb_combined (Deleted kind) mine first later origin e f p q apart = refl

-- DATA OF A HISTORY STAY SO

pub data_empty : (kind : Kind) (log : History Op) (held : VersionVector) (gone : IdentitySet) → ((i : ℕ) → held i ≡ 0) → IsDataOf (empty_of kind) log held gone
data_empty kind log held gone none = (tells_none is_delete log held none, laws.data_empty kind log held gone none)

pub data_applied : (state : Data) (log : History Op) (held : VersionVector) (gone : IdentitySet) (op : Op) (dot : Dot)
    → IsPrunedCut log held gone → gone dot.origin ≡ false → IsNext log held dot.origin (Operation op) → dot.seq ≡ held dot.origin + 1 → IsDataOf state log held gone → (not (is_closed state) && six_kinds.fits (kind_of state) op) ≡ true → apply_refusal state op dot.origin ≡ None
    → IsDataOf (applied state op dot) log (grown held dot.origin) gone × IsDeltaOf (delta_of state op dot) log dot.origin (held dot.origin) (held dot.origin + 1)
data_applied (Open value) log held gone op dot p stays next seq is fits free = either (is_delete op) refl
  where
    either : (b : Bool) → is_delete op ≡ b
        → IsDataOf (chosen b (values.kind_of value) (values.applied value op dot)) log (grown held dot.origin) gone × IsDeltaOf (if b then deltas.Delete else deltas.Open (values.delta_of value op dot)) log dot.origin (held dot.origin) (held dot.origin + 1)
    either true e = (tells_grown is_delete log false true held dot.origin (Operation op) next e is.0, (omega arith, tells_new is_delete log true held dot.origin (Operation op) next e))
    either false e =
        let free_value : values.apply_refusal value op dot.origin ≡ None = subst (λ (b : Bool). ◌≡◌ {A = Option Refusal} (if b then unrefused else values.apply_refusal value op dot.origin) None) e free in
        let both = laws.data_applied value log held gone op dot p stays next seq is.1 (fits_value value op e fits) free_value in
        ((tells_grown is_delete log false false held dot.origin (Operation op) next e is.0, both.0), (omega arith, tells_new is_delete log false held dot.origin (Operation op) next e, both.1))
data_applied (Deleted kind) log held gone op dot p stays next seq is fits free = absurd (false≢true fits)

pub data_joined : (state other : Data) (log : History Op) (held also : VersionVector) (gone : IdentitySet) → kind_of state ≡ kind_of other → IsConsistentCut log held → IsConsistentCut log also → IsPrunedCut log (join held also) gone → IsDataOf state log held gone → IsDataOf other log also gone
    → IsDataOf (joined state (without gone held) other (without gone also)) log (join held also) gone
data_joined (Open a) (Open b) log held also gone k h j p d e = (tells_joined is_delete log false false held also d.0 e.0, laws.data_joined a b log held also gone k h j p d.1 e.1)
data_joined (Open a) (Deleted kind) log held also gone k h j p d e = tells_joined is_delete log false true held also d.0 e
data_joined (Deleted kind) (Open b) log held also gone k h j p d e = tells_joined is_delete log true false held also d e.0
data_joined (Deleted kind) (Deleted kind_too) log held also gone k h j p d e = tells_joined is_delete log true true held also d e

pub data_absorbed : (state : Data) (delta : Delta) (log : History Op) (held : VersionVector) (gone : IdentitySet) (origin after to : ℕ) → fits_kind (kind_of state) delta ≡ true → IsPrunedCut log held gone → IsConsistentCut log (with_at held origin to) → AreOperations log origin after to
    → IsDataOf state log held gone → IsDeltaOf delta log origin after to → gone origin ≡ false → after ≤ held origin → held origin < to → IsDataOf (absorbed state (without gone held) delta) log (with_at held origin to) gone
data_absorbed (Open value) (deltas.Open change) log held gone origin after to fits p j u is made stays l m =
    (tells_group is_delete log false false held origin after to l m is.0 made.1, laws.data_absorbed value change log held gone origin after to fits p j u is.1 made.2 stays l m)
data_absorbed (Open value) deltas.Delete log held gone origin after to fits p j u is made stays l m = tells_group is_delete log false true held origin after to l m is.0 made.1
data_absorbed (Deleted kind) (deltas.Open change) log held gone origin after to fits p j u is made stays l m = tells_group is_delete log true false held origin after to l m is made.1
data_absorbed (Deleted kind) deltas.Delete log held gone origin after to fits p j u is made stays l m = tells_group is_delete log true true held origin after to l m is made.1

pub data_cleaned : (state : Data) (log : History Op) (held : VersionVector) (gone : IdentitySet) (removed : ℕ) → IsDataOf state log held gone → IsDataOf (cleaned state removed) log held (with_member gone removed)
data_cleaned (Open value) log held gone removed is = (is.0, laws.data_cleaned value log held gone removed is.1)
data_cleaned (Deleted kind) log held gone removed is = is

pub data_pruned : (state : Data) (log : History Op) (held : VersionVector) (gone : IdentitySet) (removed : ℕ) (dot : Dot)
    → IsPrunedCut log held gone → gone dot.origin ≡ false → IsNext log held dot.origin (Prune removed) → dot.seq ≡ held dot.origin + 1 → IsDataOf state log held gone → (removed ≡ dot.origin → ⊥) → gone removed ≡ false → prune_refusal state removed dot.origin ≡ None
    → IsDataOf (pruned state removed dot) log (grown held dot.origin) (with_member gone removed)
data_pruned (Open value) log held gone removed dot p stays next seq is other kept free =
    (tells_pruned is_delete log false held dot.origin removed next is.0, laws.data_pruned value log held gone removed dot p stays next seq is.1 other kept free)
data_pruned (Deleted kind) log held gone removed dot p stays next seq is other kept free = tells_pruned is_delete log true held dot.origin removed next is

pub delta_combined : (kind : Kind) (first later : Delta) (log : History Op) (origin after mid to : ℕ) → fits_kind kind first ≡ true → fits_kind kind later ≡ true → IsDeltaOf first log origin after mid → IsDeltaOf later log origin mid to → IsDeltaOf (combined first later) log origin after to
delta_combined kind (deltas.Open first) (deltas.Open later) log origin after mid to e f d g =
    ((let low = d.0 in let high = g.0 in omega arith), tells_both is_delete log false false origin after mid to d.0 g.0 d.1 g.1, laws.delta_combined kind first later log origin after mid to e f d.2 g.2)
delta_combined kind (deltas.Open first) deltas.Delete log origin after mid to e f d g =
    ((let low = d.0 in let high = g.0 in omega arith), tells_both is_delete log false true origin after mid to d.0 g.0 d.1 g.1)
delta_combined kind deltas.Delete (deltas.Open later) log origin after mid to e f d g =
    ((let low = d.0 in let high = g.0 in omega arith), tells_both is_delete log true false origin after mid to d.0 g.0 d.1 g.1)
delta_combined kind deltas.Delete deltas.Delete log origin after mid to e f d g =
    ((let low = d.0 in let high = g.0 in omega arith), tells_both is_delete log true true origin after mid to d.0 g.0 d.1 g.1)

-- DATA OF A HISTORY ARE DETERMINED

pub data_within : (state : Data) (log : History Op) (held : VersionVector) (gone : IdentitySet) → IsDataOf state log held gone → IsWithin state (without gone held)
data_within (Open value) log held gone is = laws.data_within value log held gone is.1
data_within (Deleted kind) log held gone is = tt

pub data_unmentioned : (state : Data) (log : History Op) (held : VersionVector) (gone : IdentitySet) (id : ℕ) → IsDataOf state log held gone → without gone held id ≡ 0 → mentioned state id ≡ false
data_unmentioned (Open value) log held gone id is none = laws.data_unmentioned value log held gone id is.1 none
data_unmentioned (Deleted kind) log held gone id is none = refl

pub data_once : (state other : Data) (log : History Op) (held : VersionVector) (gone : IdentitySet) → kind_of state ≡ kind_of other → IsDataOf state log held gone → IsDataOf other log held gone → state ≡ other
data_once (Open a) (Open b) log held gone k p q = ap Open (laws.data_once a b log held gone k p.1 q.1)
data_once (Open a) (Deleted kind) log held gone k p q = absurd (false≢true (tells_once is_delete log false true held p.0 q))
data_once (Deleted kind) (Open b) log held gone k p q = absurd (false≢true (tells_once is_delete log false true held q.0 p))
data_once (Deleted kind) (Deleted also) log held gone k p q = ap Deleted k

-- WHAT ANY DATA MENTION

pub empty_mentions : (kind : Kind) (id : ℕ) → mentioned (empty_of kind) id ≡ false
empty_mentions kind id = laws.empty_mentions kind id

pub applied_mentions : (state : Data) (op : Op) (dot : Dot) (id : ℕ) → (id ≡ dot.origin → ⊥) → mentioned state id ≡ false → mentioned (applied state op dot) id ≡ false
applied_mentions (Open value) op dot id other none = either (is_delete op)
  where
    either : (b : Bool) → mentioned (chosen b (values.kind_of value) (values.applied value op dot)) id ≡ false
    either true = refl
    either false = laws.applied_mentions value op dot id other none
applied_mentions (Deleted kind) op dot id other none = refl

pub joined_mentions : (state : Data) (mine : VersionVector) (other : Data) (theirs : VersionVector) (id : ℕ) → mentioned state id ≡ false → mentioned other id ≡ false → mentioned (joined state mine other theirs) id ≡ false
joined_mentions (Open value) mine (Open other) theirs id none none_too = laws.joined_mentions value mine other theirs id none none_too
joined_mentions (Open value) mine (Deleted kind) theirs id none none_too = refl
joined_mentions (Deleted kind) mine other theirs id none none_too = refl

pub absorbed_mentions : (state : Data) (mine : VersionVector) (delta : Delta) (origin id : ℕ) → IsOfOrigin delta origin → (id ≡ origin → ⊥) → mentioned state id ≡ false → mentioned (absorbed state mine delta) id ≡ false
absorbed_mentions (Open value) mine (deltas.Open change) origin id made_by other none = laws.absorbed_mentions value mine change origin id made_by other none
absorbed_mentions (Open value) mine deltas.Delete origin id made_by other none = refl
absorbed_mentions (Deleted kind) mine delta origin id made_by other none = refl

pub cleaned_mentions : (state : Data) (removed id : ℕ) → mentioned state id ≡ false → mentioned (cleaned state removed) id ≡ false
cleaned_mentions (Open value) removed id none = laws.cleaned_mentions value removed id none
cleaned_mentions (Deleted kind) removed id none = refl

pub cleaned_unmentioned : (state : Data) (removed : ℕ) → mentioned (cleaned state removed) removed ≡ false
cleaned_unmentioned (Open value) removed = laws.cleaned_unmentioned value removed
cleaned_unmentioned (Deleted kind) removed = refl

pub pruned_mentions : (state : Data) (removed : ℕ) (dot : Dot) (id : ℕ) → (id ≡ dot.origin → ⊥) → mentioned state id ≡ false → mentioned (pruned state removed dot) id ≡ false
pruned_mentions (Open value) removed dot id other none = laws.pruned_mentions value removed dot id other none
pruned_mentions (Deleted kind) removed dot id other none = refl

pub pruned_unmentioned : (state : Data) (removed : ℕ) (dot : Dot) → (removed ≡ dot.origin → ⊥) → mentioned (pruned state removed dot) removed ≡ false
pruned_unmentioned (Open value) removed dot other = laws.pruned_unmentioned value removed dot other
pruned_unmentioned (Deleted kind) removed dot other = refl

-- WHAT THE HISTORY SAYS

pub closed_means : (state : Data) (log : History Op) (held : VersionVector) (gone : IdentitySet) → IsPrunedCut log held gone → IsDataOf state log held gone → is_closed state ≡ six_kinds.deleted (cut log held)
closed_means (Open value) log held gone p is = tells_means is_delete log false held p.cut is.0
closed_means (Deleted kind) log held gone p is = tells_means is_delete log true held p.cut is

pub refusal_means : (state : Data) (log : History Op) (held : VersionVector) (gone : IdentitySet) (op : Op) (origin : ℕ) → IsPrunedCut log held gone → IsDataOf state log held gone → gone origin ≡ false → (not (is_closed state) && six_kinds.fits (kind_of state) op) ≡ true
    → apply_refusal state op origin ≡ six_kinds.refusal (kind_of state) origin op (cut log held)
refusal_means (Open value) log held gone op origin p is stays fits = either (is_delete op) refl
  where
    either : (b : Bool) → is_delete op ≡ b → (if b then unrefused else values.apply_refusal value op origin) ≡ (if b then unrefused else meant.values.refusal (values.kind_of value) origin op (cut log held))
    either true e = refl
    either false e = laws.refusal_means value log held gone op origin p is.1 stays (fits_value value op e fits)
refusal_means (Deleted kind) log held gone op origin p is stays fits = absurd (false≢true fits)

pub blocked_means : (state : Data) (log : History Op) (held : VersionVector) (gone : IdentitySet) (owner removed : ℕ) → IsPrunedCut log held gone → IsDataOf state log held gone → gone owner ≡ false → gone removed ≡ false
    → prune_refusal state removed owner ≡ six_kinds.blocked (kind_of state) owner removed (cut log held)
blocked_means (Open value) log held gone owner removed p is stays stays_too =
    laws.blocked_means value log held gone owner removed p is.1 stays stays_too
    ∙ ap (λ (deleted : Bool). if deleted then unblocked else meant.values.blocked (values.kind_of value) owner removed (cut log held)) (tells_means is_delete log false held p.cut is.0)
blocked_means (Deleted kind) log held gone owner removed p is stays stays_too =
    ap (λ (deleted : Bool). if deleted then unblocked else meant.values.blocked kind owner removed (cut log held)) (tells_means is_delete log true held p.cut is)

pub shown_means : (state : Data) (log : History Op) (held : VersionVector) (gone : IdentitySet) → IsPrunedCut log held gone → IsDataOf state log held gone → shown state ≡ six_kinds.shown (kind_of state) (cut log held)
shown_means (Open value) log held gone p is =
    laws.shown_means value log held gone p is.1
    ∙ ap (λ (deleted : Bool). if deleted then shown_as.Deleted else meant.values.shown (values.kind_of value) (cut log held)) (tells_means is_delete log false held p.cut is.0)
shown_means (Deleted kind) log held gone p is =
    ap (λ (deleted : Bool). if deleted then shown_as.Deleted else meant.values.shown kind (cut log held)) (tells_means is_delete log true held p.cut is)
