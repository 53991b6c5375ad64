-- The laws of values, of which no key is deleted: each is the law of the value's kind.
use Rattle.std.proofs.Common.{◌≡◌, ℕ, ◌+◌, ◌<◌, ◌≤◌, Bool, true, false, ◌&&◌, None, refl, sym, ap, subst, ◌∙◌}
use Rattle.std.proofs.lemmas.Bool.{false≢true}
use Rattle.model_history.specs.Table.{with_at}
use Rattle.model_history.specs.Vector.{VersionVector, IdentitySet, join, with_member}
use Rattle.model_history.specs.History.{History, cut}
use Rattle.model_history.specs.History.Action.{Operation, Prune}
use Rattle.model_history.specs.Cuts.{IsConsistentCut, IsPrunedCut, IsNext, AreOperations, grown, without}
use Rattle.base_vectors.specs.declared.id.Dot.{Dot}
use Rattle.model_kinds.specs.SixKinds.{values}
use Rattle.model_kinds.specs.declared.kind.Kind.{Kind}
use Rattle.model_kinds.specs.declared.kind.Kind.TheVariants as kinds
use Rattle.model_kinds.specs.declared.operation.Op.{Op}
use Rattle.data_counters.specs.contracts.replica.GCounterReplica.TheImpl.Laws as gcounter
use Rattle.data_counters.specs.contracts.signed.PnCounterReplica.TheImpl.Laws as pncounter
use Rattle.data_growing.specs.contracts.set.GSetReplica.TheImpl.Laws as gset
use Rattle.data_orset.specs.contracts.replica.OrSetReplica.TheImpl.Laws as orset
use Rattle.data_growing.specs.contracts.flag.FlagReplica.TheImpl.Laws as flag
use Rattle.data_growing.specs.contracts.register.LwwRegisterReplica.TheImpl.Laws as register
use Rattle.data_value.specs.declared.value.Value.{Value}
use Rattle.data_value.specs.declared.value.Value.TheVariants.{GCounter, PnCounter, GSet, OrSet, Flag, LwwRegister}
use Rattle.data_value.specs.declared.value.Change.{Change}
use Rattle.data_value.specs.declared.value.Change.TheVariants as changes
use Rattle.data_value.specs.Values.{kind_of, are_same, fits_kind, IsOfOrigin, AreApart, empty_of, applied, delta_of, apply_refusal, joined, absorbed, combined, cleaned, pruned, prune_refusal, mentioned, shown, IsDataOf, IsDeltaOf, IsWithin}

-- WHERE KINDS DIFFER

same_kind : (kind : Kind) → are_same kind kind ≡ true
same_kind kinds.GCounter = refl
same_kind kinds.PnCounter = refl
same_kind kinds.GSet = refl
same_kind kinds.OrSet = refl
same_kind kinds.Flag = refl
same_kind kinds.LwwRegister = refl

two_kinds : (a b : Kind) → are_same a b ≡ false → a ≡ b → ⊥
two_kinds a b differ e = false≢true (sym differ ∙ subst (λ (k : Kind). are_same a k ≡ true) e (same_kind a))

not_both : (a b : Bool) → (a && b) ≡ false → a ≡ true → b ≡ true → ⊥
not_both a b never e f = false≢true (sym never ∙ subst (λ (x : Bool). (x && b) ≡ true) (sym e) f)

three_kinds : (a b c : Kind) → (are_same a b && are_same b c) ≡ false → a ≡ b → b ≡ c → ⊥
three_kinds a b c differ e f =
    not_both (are_same a b) (are_same b c) differ (subst (λ (k : Kind). are_same a k ≡ true) e (same_kind a)) (subst (λ (k : Kind). are_same b k ≡ true) f (same_kind b))

-- THE LAWS

pub kind_empty : (kind : Kind) → kind_of (empty_of kind) ≡ kind
kind_empty kinds.GCounter = refl
kind_empty kinds.PnCounter = refl
kind_empty kinds.GSet = refl
kind_empty kinds.OrSet = refl
kind_empty kinds.Flag = refl
kind_empty kinds.LwwRegister = refl

pub kind_applied : (state : Value) (op : Op) (dot : Dot) → kind_of (applied state op dot) ≡ kind_of state
kind_applied (GCounter state) op dot = refl
kind_applied (PnCounter state) op dot = refl
kind_applied (GSet state) op dot = refl
kind_applied (OrSet state) op dot = refl
kind_applied (Flag state) op dot = refl
kind_applied (LwwRegister state) op dot = refl

pub kind_joined : (state : Value) (mine : VersionVector) (other : Value) (theirs : VersionVector) → kind_of (joined state mine other theirs) ≡ kind_of state
kind_joined (GCounter state) mine (GCounter other) theirs = refl
kind_joined (PnCounter state) mine (PnCounter other) theirs = refl
kind_joined (GSet state) mine (GSet other) theirs = refl
kind_joined (OrSet state) mine (OrSet other) theirs = refl
kind_joined (Flag state) mine (Flag other) theirs = refl
kind_joined (LwwRegister state) mine (LwwRegister other) theirs = refl
kind_joined state mine other theirs = refl

pub kind_absorbed : (state : Value) (mine : VersionVector) (delta : Change) → kind_of (absorbed state mine delta) ≡ kind_of state
kind_absorbed (GCounter state) mine (changes.GCounter change) = refl
kind_absorbed (PnCounter state) mine (changes.PnCounter change) = refl
kind_absorbed (GSet state) mine (changes.GSet change) = refl
kind_absorbed (OrSet state) mine (changes.OrSet change) = refl
kind_absorbed (Flag state) mine (changes.Flag change) = refl
kind_absorbed (LwwRegister state) mine (changes.LwwRegister change) = refl
kind_absorbed state mine change = refl

pub kind_cleaned : (state : Value) (id : ℕ) → kind_of (cleaned state id) ≡ kind_of state
kind_cleaned (GCounter state) id = refl
kind_cleaned (PnCounter state) id = refl
kind_cleaned (GSet state) id = refl
kind_cleaned (OrSet state) id = refl
kind_cleaned (Flag state) id = refl
kind_cleaned (LwwRegister state) id = refl

pub kind_pruned : (state : Value) (removed : ℕ) (dot : Dot) → kind_of (pruned state removed dot) ≡ kind_of state
kind_pruned (GCounter state) removed dot = refl
kind_pruned (PnCounter state) removed dot = refl
kind_pruned (GSet state) removed dot = refl
kind_pruned (OrSet state) removed dot = refl
kind_pruned (Flag state) removed dot = refl
kind_pruned (LwwRegister state) removed dot = refl

pub delta_kind : (state : Value) (op : Op) (dot : Dot) → fits_kind (kind_of state) (delta_of state op dot) ≡ true
delta_kind (GCounter state) op dot = refl
delta_kind (PnCounter state) op dot = refl
delta_kind (GSet state) op dot = refl
delta_kind (OrSet state) op dot = refl
delta_kind (Flag state) op dot = refl
delta_kind (LwwRegister state) op dot = refl

pub delta_origin : (state : Value) (op : Op) (dot : Dot) → IsOfOrigin (delta_of state op dot) dot.origin
delta_origin (GCounter state) op dot = gcounter.delta_origin-law state op dot
delta_origin (PnCounter state) op dot = pncounter.delta_origin-law state op dot
delta_origin (GSet state) op dot = gset.delta_origin-law state op dot
delta_origin (OrSet state) op dot = orset.delta_origin-law state op dot
delta_origin (Flag state) op dot = flag.delta_origin-law state op dot
delta_origin (LwwRegister state) op dot = register.delta_origin-law state op dot

pub combined_kind : (kind : Kind) (first later : Change) → fits_kind kind first ≡ true → fits_kind kind (combined first later) ≡ true
combined_kind kind (changes.GCounter first) (changes.GCounter later) e = e
combined_kind kind (changes.PnCounter first) (changes.PnCounter later) e = e
combined_kind kind (changes.GSet first) (changes.GSet later) e = e
combined_kind kind (changes.OrSet first) (changes.OrSet later) e = e
combined_kind kind (changes.Flag first) (changes.Flag later) e = e
combined_kind kind (changes.LwwRegister first) (changes.LwwRegister later) e = e
combined_kind kind first later e = e

pub combined_origin : (first later : Change) (origin : ℕ) → IsOfOrigin first origin → IsOfOrigin later origin → IsOfOrigin (combined first later) origin
combined_origin (changes.GCounter first) (changes.GCounter later) origin e f = gcounter.combined_origin-law first later origin e f
combined_origin (changes.PnCounter first) (changes.PnCounter later) origin e f = pncounter.combined_origin-law first later origin e f
combined_origin (changes.GSet first) (changes.GSet later) origin e f = gset.combined_origin-law first later origin e f
combined_origin (changes.OrSet first) (changes.OrSet later) origin e f = orset.combined_origin-law first later origin e f
combined_origin (changes.Flag first) (changes.Flag later) origin e f = flag.combined_origin-law first later origin e f
combined_origin (changes.LwwRegister first) (changes.LwwRegister later) origin e f = register.combined_origin-law first later origin e f
combined_origin first later origin e f = e

pub delta_made_by : (change : Change) (log : History Op) (origin after to : ℕ) → IsDeltaOf change log origin after to → IsOfOrigin change origin
delta_made_by (changes.GCounter change) log origin after to is = gcounter.delta_made_by-law change log origin after to is
delta_made_by (changes.PnCounter change) log origin after to is = pncounter.delta_made_by-law change log origin after to is
delta_made_by (changes.GSet change) log origin after to is = gset.delta_made_by-law change log origin after to is
delta_made_by (changes.OrSet change) log origin after to is = orset.delta_made_by-law change log origin after to is
delta_made_by (changes.Flag change) log origin after to is = flag.delta_made_by-law change log origin after to is
delta_made_by (changes.LwwRegister change) log origin after to is = register.delta_made_by-law change log origin after to is

pub join_comm : (a b : Value) (v w : VersionVector) → kind_of a ≡ kind_of b → IsWithin a v → IsWithin b w → joined a v b w ≡ joined b w a v
join_comm (GCounter a) (GCounter b) v w k p q = ap GCounter (gcounter.join_comm-law a b v w refl p q)
join_comm (PnCounter a) (PnCounter b) v w k p q = ap PnCounter (pncounter.join_comm-law a b v w refl p q)
join_comm (GSet a) (GSet b) v w k p q = ap GSet (gset.join_comm-law a b v w refl p q)
join_comm (OrSet a) (OrSet b) v w k p q = ap OrSet (orset.join_comm-law a b v w refl p q)
join_comm (Flag a) (Flag b) v w k p q = ap Flag (flag.join_comm-law a b v w refl p q)
join_comm (LwwRegister a) (LwwRegister b) v w k p q = ap LwwRegister (register.join_comm-law a b v w refl p q)
join_comm a b v w k p q = absurd (two_kinds (kind_of a) (kind_of b) refl k)

pub join_assoc : (a b c : Value) (u v w : VersionVector) → kind_of a ≡ kind_of b → kind_of b ≡ kind_of c → IsWithin a u → IsWithin b v → IsWithin c w → joined (joined a u b v) (join u v) c w ≡ joined a u (joined b v c w) (join v w)
join_assoc (GCounter a) (GCounter b) (GCounter c) u v w k l p q r = ap GCounter (gcounter.join_assoc-law a b c u v w refl refl p q r)
join_assoc (PnCounter a) (PnCounter b) (PnCounter c) u v w k l p q r = ap PnCounter (pncounter.join_assoc-law a b c u v w refl refl p q r)
join_assoc (GSet a) (GSet b) (GSet c) u v w k l p q r = ap GSet (gset.join_assoc-law a b c u v w refl refl p q r)
join_assoc (OrSet a) (OrSet b) (OrSet c) u v w k l p q r = ap OrSet (orset.join_assoc-law a b c u v w refl refl p q r)
join_assoc (Flag a) (Flag b) (Flag c) u v w k l p q r = ap Flag (flag.join_assoc-law a b c u v w refl refl p q r)
join_assoc (LwwRegister a) (LwwRegister b) (LwwRegister c) u v w k l p q r = ap LwwRegister (register.join_assoc-law a b c u v w refl refl p q r)
join_assoc a b c u v w k l p q r = absurd (three_kinds (kind_of a) (kind_of b) (kind_of c) refl k l)

pub join_same : (a : Value) (v : VersionVector) → IsWithin a v → joined a v a v ≡ a
join_same (GCounter a) v p = ap GCounter (gcounter.join_same-law a v p)
join_same (PnCounter a) v p = ap PnCounter (pncounter.join_same-law a v p)
join_same (GSet a) v p = ap GSet (gset.join_same-law a v p)
join_same (OrSet a) v p = ap OrSet (orset.join_same-law a v p)
join_same (Flag a) v p = ap Flag (flag.join_same-law a v p)
join_same (LwwRegister a) v p = ap LwwRegister (register.join_same-law a v p)

pub join_upper : (a b : Value) (v w : VersionVector) → kind_of a ≡ kind_of b → IsWithin a v → IsWithin b w → joined a v (joined a v b w) (join v w) ≡ joined a v b w
join_upper (GCounter a) (GCounter b) v w k p q = ap GCounter (gcounter.join_upper-law a b v w refl p q)
join_upper (PnCounter a) (PnCounter b) v w k p q = ap PnCounter (pncounter.join_upper-law a b v w refl p q)
join_upper (GSet a) (GSet b) v w k p q = ap GSet (gset.join_upper-law a b v w refl p q)
join_upper (OrSet a) (OrSet b) v w k p q = ap OrSet (orset.join_upper-law a b v w refl p q)
join_upper (Flag a) (Flag b) v w k p q = ap Flag (flag.join_upper-law a b v w refl p q)
join_upper (LwwRegister a) (LwwRegister b) v w k p q = ap LwwRegister (register.join_upper-law a b v w refl p q)
join_upper a b v w k p q = absurd (two_kinds (kind_of a) (kind_of b) refl k)

pub join_within : (a b : Value) (v w : VersionVector) → kind_of a ≡ kind_of b → IsWithin a v → IsWithin b w → IsWithin (joined a v b w) (join v w)
join_within (GCounter a) (GCounter b) v w k p q = gcounter.join_within-law a b v w refl p q
join_within (PnCounter a) (PnCounter b) v w k p q = pncounter.join_within-law a b v w refl p q
join_within (GSet a) (GSet b) v w k p q = gset.join_within-law a b v w refl p q
join_within (OrSet a) (OrSet b) v w k p q = orset.join_within-law a b v w refl p q
join_within (Flag a) (Flag b) v w k p q = flag.join_within-law a b v w refl p q
join_within (LwwRegister a) (LwwRegister b) v w k p q = register.join_within-law a b v w refl p q
join_within a b v w k p q = absurd (two_kinds (kind_of a) (kind_of b) refl k)

pub absorb_applied : (state : Value) (mine : VersionVector) (op : Op) (dot : Dot) → IsWithin state mine → mine dot.origin < dot.seq → absorbed state mine (delta_of state op dot) ≡ applied state op dot
absorb_applied (GCounter state) mine op dot p l = ap GCounter (gcounter.absorb_applied-law state mine op dot p l)
absorb_applied (PnCounter state) mine op dot p l = ap PnCounter (pncounter.absorb_applied-law state mine op dot p l)
absorb_applied (GSet state) mine op dot p l = ap GSet (gset.absorb_applied-law state mine op dot p l)
absorb_applied (OrSet state) mine op dot p l = ap OrSet (orset.absorb_applied-law state mine op dot p l)
absorb_applied (Flag state) mine op dot p l = ap Flag (flag.absorb_applied-law state mine op dot p l)
absorb_applied (LwwRegister state) mine op dot p l = ap LwwRegister (register.absorb_applied-law state mine op dot p l)

pub absorb_combined : (state : Value) (mine : VersionVector) (first later : Change) (origin : ℕ) → fits_kind (kind_of state) first ≡ true → fits_kind (kind_of state) later ≡ true → IsOfOrigin first origin → IsOfOrigin later origin → AreApart first later
    → absorbed state mine (combined first later) ≡ absorbed (absorbed state mine first) mine later
absorb_combined (GCounter state) mine (changes.GCounter first) (changes.GCounter later) origin e f p q apart = ap GCounter (gcounter.absorb_combined-law state mine first later origin refl refl p q apart)
absorb_combined (PnCounter state) mine (changes.PnCounter first) (changes.PnCounter later) origin e f p q apart = ap PnCounter (pncounter.absorb_combined-law state mine first later origin refl refl p q apart)
absorb_combined (GSet state) mine (changes.GSet first) (changes.GSet later) origin e f p q apart = ap GSet (gset.absorb_combined-law state mine first later origin refl refl p q apart)
absorb_combined (OrSet state) mine (changes.OrSet first) (changes.OrSet later) origin e f p q apart = ap OrSet (orset.absorb_combined-law state mine first later origin refl refl p q apart)
absorb_combined (Flag state) mine (changes.Flag first) (changes.Flag later) origin e f p q apart = ap Flag (flag.absorb_combined-law state mine first later origin refl refl p q apart)
absorb_combined (LwwRegister state) mine (changes.LwwRegister first) (changes.LwwRegister later) origin e f p q apart = ap LwwRegister (register.absorb_combined-law state mine first later origin refl refl p q apart)
absorb_combined state mine first later origin e f p q apart = absurd (not_both (fits_kind (kind_of state) first) (fits_kind (kind_of state) later) refl e f)

pub data_empty : (kind : Kind) (log : History Op) (held : VersionVector) (gone : IdentitySet) → ((i : ℕ) → held i ≡ 0) → IsDataOf (empty_of kind) log held gone
data_empty kinds.GCounter log held gone none = gcounter.data_empty-law tt log held gone none
data_empty kinds.PnCounter log held gone none = pncounter.data_empty-law tt log held gone none
data_empty kinds.GSet log held gone none = gset.data_empty-law tt log held gone none
data_empty kinds.OrSet log held gone none = orset.data_empty-law tt log held gone none
data_empty kinds.Flag log held gone none = flag.data_empty-law tt log held gone none
data_empty kinds.LwwRegister log held gone none = register.data_empty-law tt log held gone none

pub data_applied : (state : Value) (log : History Op) (held : VersionVector) (gone : IdentitySet) (op : Op) (dot : Dot)
    → IsPrunedCut log held gone → gone dot.origin ≡ false → IsNext log held dot.origin (Operation op) → dot.seq ≡ held dot.origin + 1 → IsDataOf state log held gone → values.fits (kind_of state) op ≡ true → apply_refusal state op dot.origin ≡ None
    → IsDataOf (applied state op dot) log (grown held dot.origin) gone × IsDeltaOf (delta_of state op dot) log dot.origin (held dot.origin) (held dot.origin + 1)
data_applied (GCounter state) log held gone op dot p stays next seq is fits free = gcounter.data_applied-law state log held gone op dot p stays next seq is fits free
data_applied (PnCounter state) log held gone op dot p stays next seq is fits free = pncounter.data_applied-law state log held gone op dot p stays next seq is fits free
data_applied (GSet state) log held gone op dot p stays next seq is fits free = gset.data_applied-law state log held gone op dot p stays next seq is fits free
data_applied (OrSet state) log held gone op dot p stays next seq is fits free = orset.data_applied-law state log held gone op dot p stays next seq is fits free
data_applied (Flag state) log held gone op dot p stays next seq is fits free = flag.data_applied-law state log held gone op dot p stays next seq is fits free
data_applied (LwwRegister state) log held gone op dot p stays next seq is fits free = register.data_applied-law state log held gone op dot p stays next seq is fits free

pub data_joined : (state other : Value) (log : History Op) (held also : VersionVector) (gone : IdentitySet) → kind_of state ≡ kind_of other → IsConsistentCut log held → IsConsistentCut log also → IsPrunedCut log (join held also) gone → IsDataOf state log held gone → IsDataOf other log also gone
    → IsDataOf (joined state (without gone held) other (without gone also)) log (join held also) gone
data_joined (GCounter state) (GCounter other) log held also gone k h j p d e = gcounter.data_joined-law state other log held also gone refl h j p d e
data_joined (PnCounter state) (PnCounter other) log held also gone k h j p d e = pncounter.data_joined-law state other log held also gone refl h j p d e
data_joined (GSet state) (GSet other) log held also gone k h j p d e = gset.data_joined-law state other log held also gone refl h j p d e
data_joined (OrSet state) (OrSet other) log held also gone k h j p d e = orset.data_joined-law state other log held also gone refl h j p d e
data_joined (Flag state) (Flag other) log held also gone k h j p d e = flag.data_joined-law state other log held also gone refl h j p d e
data_joined (LwwRegister state) (LwwRegister other) log held also gone k h j p d e = register.data_joined-law state other log held also gone refl h j p d e
data_joined state other log held also gone k h j p d e = absurd (two_kinds (kind_of state) (kind_of other) refl k)

pub data_absorbed : (state : Value) (change : Change) (log : History Op) (held : VersionVector) (gone : IdentitySet) (origin after to : ℕ) → fits_kind (kind_of state) change ≡ true → IsPrunedCut log held gone → IsConsistentCut log (with_at held origin to) → AreOperations log origin after to
    → IsDataOf state log held gone → IsDeltaOf change log origin after to → gone origin ≡ false → after ≤ held origin → held origin < to → IsDataOf (absorbed state (without gone held) change) log (with_at held origin to) gone
data_absorbed (GCounter state) (changes.GCounter change) log held gone origin after to fits p j u is made stays l m = gcounter.data_absorbed-law state change log held gone origin after to refl p j u is made stays l m
data_absorbed (PnCounter state) (changes.PnCounter change) log held gone origin after to fits p j u is made stays l m = pncounter.data_absorbed-law state change log held gone origin after to refl p j u is made stays l m
data_absorbed (GSet state) (changes.GSet change) log held gone origin after to fits p j u is made stays l m = gset.data_absorbed-law state change log held gone origin after to refl p j u is made stays l m
data_absorbed (OrSet state) (changes.OrSet change) log held gone origin after to fits p j u is made stays l m = orset.data_absorbed-law state change log held gone origin after to refl p j u is made stays l m
data_absorbed (Flag state) (changes.Flag change) log held gone origin after to fits p j u is made stays l m = flag.data_absorbed-law state change log held gone origin after to refl p j u is made stays l m
data_absorbed (LwwRegister state) (changes.LwwRegister change) log held gone origin after to fits p j u is made stays l m = register.data_absorbed-law state change log held gone origin after to refl p j u is made stays l m
data_absorbed state change log held gone origin after to fits p j u is made stays l m = absurd (false≢true fits)

pub data_cleaned : (state : Value) (log : History Op) (held : VersionVector) (gone : IdentitySet) (removed : ℕ) → IsDataOf state log held gone → IsDataOf (cleaned state removed) log held (with_member gone removed)
data_cleaned (GCounter state) log held gone removed is = gcounter.data_cleaned-law state log held gone removed is
data_cleaned (PnCounter state) log held gone removed is = pncounter.data_cleaned-law state log held gone removed is
data_cleaned (GSet state) log held gone removed is = gset.data_cleaned-law state log held gone removed is
data_cleaned (OrSet state) log held gone removed is = orset.data_cleaned-law state log held gone removed is
data_cleaned (Flag state) log held gone removed is = flag.data_cleaned-law state log held gone removed is
data_cleaned (LwwRegister state) log held gone removed is = register.data_cleaned-law state log held gone removed is

pub data_pruned : (state : Value) (log : History Op) (held : VersionVector) (gone : IdentitySet) (removed : ℕ) (dot : Dot)
    → IsPrunedCut log held gone → gone dot.origin ≡ false → IsNext log held dot.origin (Prune removed) → dot.seq ≡ held dot.origin + 1 → IsDataOf state log held gone → (removed ≡ dot.origin → ⊥) → gone removed ≡ false → prune_refusal state removed dot.origin ≡ None
    → IsDataOf (pruned state removed dot) log (grown held dot.origin) (with_member gone removed)
data_pruned (GCounter state) log held gone removed dot p stays next seq is other kept free = gcounter.data_pruned-law state log held gone removed dot p stays next seq is other kept free
data_pruned (PnCounter state) log held gone removed dot p stays next seq is other kept free = pncounter.data_pruned-law state log held gone removed dot p stays next seq is other kept free
data_pruned (GSet state) log held gone removed dot p stays next seq is other kept free = gset.data_pruned-law state log held gone removed dot p stays next seq is other kept free
data_pruned (OrSet state) log held gone removed dot p stays next seq is other kept free = orset.data_pruned-law state log held gone removed dot p stays next seq is other kept free
data_pruned (Flag state) log held gone removed dot p stays next seq is other kept free = flag.data_pruned-law state log held gone removed dot p stays next seq is other kept free
data_pruned (LwwRegister state) log held gone removed dot p stays next seq is other kept free = register.data_pruned-law state log held gone removed dot p stays next seq is other kept free

pub delta_combined : (kind : Kind) (first later : Change) (log : History Op) (origin after mid to : ℕ) → fits_kind kind first ≡ true → fits_kind kind later ≡ true → IsDeltaOf first log origin after mid → IsDeltaOf later log origin mid to → IsDeltaOf (combined first later) log origin after to
delta_combined kinds.GCounter (changes.GCounter first) (changes.GCounter later) log origin after mid to e f d g = gcounter.delta_combined-law tt first later log origin after mid to refl refl d g
delta_combined kinds.PnCounter (changes.PnCounter first) (changes.PnCounter later) log origin after mid to e f d g = pncounter.delta_combined-law tt first later log origin after mid to refl refl d g
delta_combined kinds.GSet (changes.GSet first) (changes.GSet later) log origin after mid to e f d g = gset.delta_combined-law tt first later log origin after mid to refl refl d g
delta_combined kinds.OrSet (changes.OrSet first) (changes.OrSet later) log origin after mid to e f d g = orset.delta_combined-law tt first later log origin after mid to refl refl d g
delta_combined kinds.Flag (changes.Flag first) (changes.Flag later) log origin after mid to e f d g = flag.delta_combined-law tt first later log origin after mid to refl refl d g
delta_combined kinds.LwwRegister (changes.LwwRegister first) (changes.LwwRegister later) log origin after mid to e f d g = register.delta_combined-law tt first later log origin after mid to refl refl d g
delta_combined kind first later log origin after mid to e f d g = absurd (not_both (fits_kind kind first) (fits_kind kind later) refl e f)

pub data_within : (state : Value) (log : History Op) (held : VersionVector) (gone : IdentitySet) → IsDataOf state log held gone → IsWithin state (without gone held)
data_within (GCounter state) log held gone is = gcounter.data_within-law state log held gone is
data_within (PnCounter state) log held gone is = pncounter.data_within-law state log held gone is
data_within (GSet state) log held gone is = gset.data_within-law state log held gone is
data_within (OrSet state) log held gone is = orset.data_within-law state log held gone is
data_within (Flag state) log held gone is = flag.data_within-law state log held gone is
data_within (LwwRegister state) log held gone is = register.data_within-law state log held gone is

pub data_unmentioned : (state : Value) (log : History Op) (held : VersionVector) (gone : IdentitySet) (id : ℕ) → IsDataOf state log held gone → without gone held id ≡ 0 → mentioned state id ≡ false
data_unmentioned (GCounter state) log held gone id is none = gcounter.data_unmentioned-law state log held gone id is none
data_unmentioned (PnCounter state) log held gone id is none = pncounter.data_unmentioned-law state log held gone id is none
data_unmentioned (GSet state) log held gone id is none = gset.data_unmentioned-law state log held gone id is none
data_unmentioned (OrSet state) log held gone id is none = orset.data_unmentioned-law state log held gone id is none
data_unmentioned (Flag state) log held gone id is none = flag.data_unmentioned-law state log held gone id is none
data_unmentioned (LwwRegister state) log held gone id is none = register.data_unmentioned-law state log held gone id is none

pub data_once : (state other : Value) (log : History Op) (held : VersionVector) (gone : IdentitySet) → kind_of state ≡ kind_of other → IsDataOf state log held gone → IsDataOf other log held gone → state ≡ other
data_once (GCounter state) (GCounter other) log held gone k p q = ap GCounter (gcounter.data_once-law state other log held gone refl p q)
data_once (PnCounter state) (PnCounter other) log held gone k p q = ap PnCounter (pncounter.data_once-law state other log held gone refl p q)
data_once (GSet state) (GSet other) log held gone k p q = ap GSet (gset.data_once-law state other log held gone refl p q)
data_once (OrSet state) (OrSet other) log held gone k p q = ap OrSet (orset.data_once-law state other log held gone refl p q)
data_once (Flag state) (Flag other) log held gone k p q = ap Flag (flag.data_once-law state other log held gone refl p q)
data_once (LwwRegister state) (LwwRegister other) log held gone k p q = ap LwwRegister (register.data_once-law state other log held gone refl p q)
data_once state other log held gone k p q = absurd (two_kinds (kind_of state) (kind_of other) refl k)

-- WHAT ANY VALUE MENTIONS

-- nothing is mentioned where there was no record
pub empty_mentions : (kind : Kind) (id : ℕ) → mentioned (empty_of kind) id ≡ false
empty_mentions kinds.GCounter id = gcounter.empty_mentions-law tt id
empty_mentions kinds.PnCounter id = pncounter.empty_mentions-law tt id
empty_mentions kinds.GSet id = gset.empty_mentions-law tt id
empty_mentions kinds.OrSet id = orset.empty_mentions-law tt id
empty_mentions kinds.Flag id = flag.empty_mentions-law tt id
empty_mentions kinds.LwwRegister id = register.empty_mentions-law tt id

-- an operation adds no mention but of its origin
pub applied_mentions : (state : Value) (op : Op) (dot : Dot) (id : ℕ) → (id ≡ dot.origin → ⊥) → mentioned state id ≡ false → mentioned (applied state op dot) id ≡ false
applied_mentions (GCounter state) op dot id other none = gcounter.applied_mentions-law state op dot id other none
applied_mentions (PnCounter state) op dot id other none = pncounter.applied_mentions-law state op dot id other none
applied_mentions (GSet state) op dot id other none = gset.applied_mentions-law state op dot id other none
applied_mentions (OrSet state) op dot id other none = orset.applied_mentions-law state op dot id other none
applied_mentions (Flag state) op dot id other none = flag.applied_mentions-law state op dot id other none
applied_mentions (LwwRegister state) op dot id other none = register.applied_mentions-law state op dot id other none

-- what a join mentions, either side does
pub joined_mentions : (state : Value) (mine : VersionVector) (other : Value) (theirs : VersionVector) (id : ℕ) → mentioned state id ≡ false → mentioned other id ≡ false → mentioned (joined state mine other theirs) id ≡ false
joined_mentions (GCounter state) mine (GCounter other) theirs id none none_too = gcounter.joined_mentions-law state mine other theirs id none none_too
joined_mentions (PnCounter state) mine (PnCounter other) theirs id none none_too = pncounter.joined_mentions-law state mine other theirs id none none_too
joined_mentions (GSet state) mine (GSet other) theirs id none none_too = gset.joined_mentions-law state mine other theirs id none none_too
joined_mentions (OrSet state) mine (OrSet other) theirs id none none_too = orset.joined_mentions-law state mine other theirs id none none_too
joined_mentions (Flag state) mine (Flag other) theirs id none none_too = flag.joined_mentions-law state mine other theirs id none none_too
joined_mentions (LwwRegister state) mine (LwwRegister other) theirs id none none_too = register.joined_mentions-law state mine other theirs id none none_too
joined_mentions state mine other theirs id none none_too = none

-- a delta adds no mention but of its origin
pub absorbed_mentions : (state : Value) (mine : VersionVector) (change : Change) (origin id : ℕ) → IsOfOrigin change origin → (id ≡ origin → ⊥) → mentioned state id ≡ false → mentioned (absorbed state mine change) id ≡ false
absorbed_mentions (GCounter state) mine (changes.GCounter change) origin id made_by other none = gcounter.absorbed_mentions-law state mine change origin id made_by other none
absorbed_mentions (PnCounter state) mine (changes.PnCounter change) origin id made_by other none = pncounter.absorbed_mentions-law state mine change origin id made_by other none
absorbed_mentions (GSet state) mine (changes.GSet change) origin id made_by other none = gset.absorbed_mentions-law state mine change origin id made_by other none
absorbed_mentions (OrSet state) mine (changes.OrSet change) origin id made_by other none = orset.absorbed_mentions-law state mine change origin id made_by other none
absorbed_mentions (Flag state) mine (changes.Flag change) origin id made_by other none = flag.absorbed_mentions-law state mine change origin id made_by other none
absorbed_mentions (LwwRegister state) mine (changes.LwwRegister change) origin id made_by other none = register.absorbed_mentions-law state mine change origin id made_by other none
absorbed_mentions state mine change origin id made_by other none = none

-- cleaning adds no mention
pub cleaned_mentions : (state : Value) (removed id : ℕ) → mentioned state id ≡ false → mentioned (cleaned state removed) id ≡ false
cleaned_mentions (GCounter state) removed id none = gcounter.cleaned_mentions-law state removed id none
cleaned_mentions (PnCounter state) removed id none = pncounter.cleaned_mentions-law state removed id none
cleaned_mentions (GSet state) removed id none = gset.cleaned_mentions-law state removed id none
cleaned_mentions (OrSet state) removed id none = orset.cleaned_mentions-law state removed id none
cleaned_mentions (Flag state) removed id none = flag.cleaned_mentions-law state removed id none
cleaned_mentions (LwwRegister state) removed id none = register.cleaned_mentions-law state removed id none

-- what was cleaned away is mentioned no more
pub cleaned_unmentioned : (state : Value) (removed : ℕ) → mentioned (cleaned state removed) removed ≡ false
cleaned_unmentioned (GCounter state) removed = gcounter.cleaned_unmentioned-law state removed
cleaned_unmentioned (PnCounter state) removed = pncounter.cleaned_unmentioned-law state removed
cleaned_unmentioned (GSet state) removed = gset.cleaned_unmentioned-law state removed
cleaned_unmentioned (OrSet state) removed = orset.cleaned_unmentioned-law state removed
cleaned_unmentioned (Flag state) removed = flag.cleaned_unmentioned-law state removed
cleaned_unmentioned (LwwRegister state) removed = register.cleaned_unmentioned-law state removed

-- a prune adds no mention but of its origin
pub pruned_mentions : (state : Value) (removed : ℕ) (dot : Dot) (id : ℕ) → (id ≡ dot.origin → ⊥) → mentioned state id ≡ false → mentioned (pruned state removed dot) id ≡ false
pruned_mentions (GCounter state) removed dot id other none = gcounter.pruned_mentions-law state removed dot id other none
pruned_mentions (PnCounter state) removed dot id other none = pncounter.pruned_mentions-law state removed dot id other none
pruned_mentions (GSet state) removed dot id other none = gset.pruned_mentions-law state removed dot id other none
pruned_mentions (OrSet state) removed dot id other none = orset.pruned_mentions-law state removed dot id other none
pruned_mentions (Flag state) removed dot id other none = flag.pruned_mentions-law state removed dot id other none
pruned_mentions (LwwRegister state) removed dot id other none = register.pruned_mentions-law state removed dot id other none

-- what was pruned is mentioned no more
pub pruned_unmentioned : (state : Value) (removed : ℕ) (dot : Dot) → (removed ≡ dot.origin → ⊥) → mentioned (pruned state removed dot) removed ≡ false
pruned_unmentioned (GCounter state) removed dot other = gcounter.pruned_unmentioned-law state removed dot other
pruned_unmentioned (PnCounter state) removed dot other = pncounter.pruned_unmentioned-law state removed dot other
pruned_unmentioned (GSet state) removed dot other = gset.pruned_unmentioned-law state removed dot other
pruned_unmentioned (OrSet state) removed dot other = orset.pruned_unmentioned-law state removed dot other
pruned_unmentioned (Flag state) removed dot other = flag.pruned_unmentioned-law state removed dot other
pruned_unmentioned (LwwRegister state) removed dot other = register.pruned_unmentioned-law state removed dot other

pub refusal_means : (state : Value) (log : History Op) (held : VersionVector) (gone : IdentitySet) (op : Op) (origin : ℕ) → IsPrunedCut log held gone → IsDataOf state log held gone → gone origin ≡ false → values.fits (kind_of state) op ≡ true
    → apply_refusal state op origin ≡ values.refusal (kind_of state) origin op (cut log held)
refusal_means (GCounter state) log held gone op origin p is stays fits = gcounter.refusal_means-law state log held gone op origin p is stays fits
refusal_means (PnCounter state) log held gone op origin p is stays fits = pncounter.refusal_means-law state log held gone op origin p is stays fits
refusal_means (GSet state) log held gone op origin p is stays fits = gset.refusal_means-law state log held gone op origin p is stays fits
refusal_means (OrSet state) log held gone op origin p is stays fits = orset.refusal_means-law state log held gone op origin p is stays fits
refusal_means (Flag state) log held gone op origin p is stays fits = flag.refusal_means-law state log held gone op origin p is stays fits
refusal_means (LwwRegister state) log held gone op origin p is stays fits = register.refusal_means-law state log held gone op origin p is stays fits

pub blocked_means : (state : Value) (log : History Op) (held : VersionVector) (gone : IdentitySet) (owner removed : ℕ) → IsPrunedCut log held gone → IsDataOf state log held gone → gone owner ≡ false → gone removed ≡ false
    → prune_refusal state removed owner ≡ values.blocked (kind_of state) owner removed (cut log held)
blocked_means (GCounter state) log held gone owner removed p is stays stays_too = gcounter.blocked_means-law state log held gone owner removed p is stays stays_too
blocked_means (PnCounter state) log held gone owner removed p is stays stays_too = pncounter.blocked_means-law state log held gone owner removed p is stays stays_too
blocked_means (GSet state) log held gone owner removed p is stays stays_too = gset.blocked_means-law state log held gone owner removed p is stays stays_too
blocked_means (OrSet state) log held gone owner removed p is stays stays_too = orset.blocked_means-law state log held gone owner removed p is stays stays_too
blocked_means (Flag state) log held gone owner removed p is stays stays_too = flag.blocked_means-law state log held gone owner removed p is stays stays_too
blocked_means (LwwRegister state) log held gone owner removed p is stays stays_too = register.blocked_means-law state log held gone owner removed p is stays stays_too

pub shown_means : (state : Value) (log : History Op) (held : VersionVector) (gone : IdentitySet) → IsPrunedCut log held gone → IsDataOf state log held gone → shown state ≡ values.shown (kind_of state) (cut log held)
shown_means (GCounter state) log held gone p is = gcounter.shown_means-law state log held gone p is
shown_means (PnCounter state) log held gone p is = pncounter.shown_means-law state log held gone p is
shown_means (GSet state) log held gone p is = gset.shown_means-law state log held gone p is
shown_means (OrSet state) log held gone p is = orset.shown_means-law state log held gone p is
shown_means (Flag state) log held gone p is = flag.shown_means-law state log held gone p is
shown_means (LwwRegister state) log held gone p is = register.shown_means-law state log held gone p is
