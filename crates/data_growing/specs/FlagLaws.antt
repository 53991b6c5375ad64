-- The laws of flags.
use Rattle.std.proofs.Common.{◌≡◌, ℕ, ◌+◌, ◌<◌, ◌≤◌, Bool, true, ◌||◌, refl, sym, subst, arith, Option, None}
use Rattle.std.proofs.lemmas.Bool.{or_right}
use mathlib.Core.Bool.{or_comm, or_self, or_self_left, or-true}
use Rattle.model_history.specs.Table.{with_at}
use Rattle.model_history.specs.Vector.{VersionVector, join}
use Rattle.model_history.specs.History.{History, cut}
use Rattle.model_history.specs.History.Action.{Operation, Prune}
use Rattle.model_history.specs.Cuts.{IsConsistentCut, IsNext, grown}
use Rattle.model_meanings.specs.Growing.{has_operation}
use Rattle.model_meanings.specs.Refusal.{Refusal}
use Rattle.base_vectors.specs.declared.id.Dot.{Dot}
use Rattle.model_kinds.specs.SixKinds.{of_kind, enables}
use Rattle.model_kinds.specs.declared.kind.Kind.TheVariants as Kind
use Rattle.model_kinds.specs.declared.operation.Op.{Op}
use Rattle.model_kinds.specs.declared.operation.Op.TheVariants.{Enable}
use Rattle.data_growing.specs.declared.flag.Flag.{Flag}
use Rattle.data_growing.specs.Bits.{or_third}
use Rattle.data_growing.specs.Recorded.{Tells, TellsBetween}
use Rattle.data_growing.specs.RecordedLaws.{tells_none, tells_grown, tells_pruned, tells_new, tells_joined, tells_group, tells_both, tells_once, tells_means}
use Rattle.data_growing.specs.Flags.{flag_off, flag_on, flag_joined, IsFlagOf, IsSwitchedOn}

-- two flags with the same switch
same_flag : (a b : Bool) → a ≡ b → ◌≡◌ {A = Flag} (record { on = a }) (record { on = b })
same_flag a b e = λ i. record { on = e i }

pub join_comm : (a b : Flag) → flag_joined a b ≡ flag_joined b a
join_comm a b = same_flag _ _ (or_comm a.on b.on)

pub join_assoc : (a b c : Flag) → flag_joined (flag_joined a b) c ≡ flag_joined a (flag_joined b c)
join_assoc a b c = same_flag _ _ (sym (or_third a.on b.on c.on))

pub join_same : (a : Flag) → flag_joined a a ≡ a
join_same a = same_flag _ _ (or_self a.on)

pub join_upper : (a b : Flag) → flag_joined a (flag_joined a b) ≡ flag_joined a b
join_upper a b = same_flag _ _ (or_self_left a.on b.on)

module _ {Op : Type 0} (on : Op → Bool) where
  -- the flag of the empty history
  pub data_empty : (log : History Op) (held : VersionVector) → ((i : ℕ) → held i ≡ 0) → IsFlagOf on flag_off log held
  data_empty log held none = tells_none on log held none

  pub data_joined : (state other : Flag) (log : History Op) (held also : VersionVector) → IsFlagOf on state log held → IsFlagOf on other log also → IsFlagOf on (flag_joined state other) log (join held also)
  data_joined state other log held also is other_is = tells_joined on log state.on other.on held also is other_is

  pub data_pruned : (state : Flag) (log : History Op) (held : VersionVector) (removed id : ℕ) → IsNext log held id (Prune removed) → IsFlagOf on state log held → IsFlagOf on state log (grown held id)
  data_pruned state log held removed id next is = tells_pruned on log state.on held id removed next is

  pub data_once : (state other : Flag) (log : History Op) (held : VersionVector) → IsFlagOf on state log held → IsFlagOf on other log held → state ≡ other
  data_once state other log held is other_is = same_flag _ _ (tells_once on log state.on other.on held is other_is)

  pub on_means : (state : Flag) (log : History Op) (held : VersionVector) → IsConsistentCut log held → IsFlagOf on state log held → state.on ≡ has_operation on (cut log held)
  on_means state log held h is = tells_means on log state.on held h is

  switched : (log : History Op) (origin after to : ℕ) → IsSwitchedOn on log origin after to → TellsBetween on log true origin after to
  switched log origin after to made = record { only = λ e. made; all = λ r. refl }

  -- a record that switches on
  pub data_switched : (state : Flag) (log : History Op) (held : VersionVector) (id : ℕ) (op : Op) → IsNext log held id (Operation op) → on op ≡ true → IsFlagOf on state log held
      → IsFlagOf on flag_on log (grown held id) × IsSwitchedOn on log id (held id) (held id + 1)
  data_switched state log held id op next passes is = (
    subst (λ b. Tells on log b (grown held id)) (or-true state.on) (tells_grown on log state.on true held id (Operation op) next passes is),
    (tells_new on log true held id (Operation op) next passes).only refl,
  )

  pub data_absorbed : (state : Flag) (log : History Op) (held : VersionVector) (origin after to : ℕ) → IsFlagOf on state log held → IsSwitchedOn on log origin after to → after ≤ held origin → held origin < to → IsFlagOf on flag_on log (with_at held origin to)
  data_absorbed state log held origin after to is made low high =
      subst (λ b. Tells on log b (with_at held origin to)) (or-true state.on) (tells_group on log state.on true held origin after to low high is (switched log origin after to made))

  pub delta_combined : (log : History Op) (origin after mid to : ℕ) → IsSwitchedOn on log origin after mid → IsSwitchedOn on log origin mid to → IsSwitchedOn on log origin after to
  delta_combined log origin after mid to first later =
      let low : after ≤ mid = (let f = first.from in let w = first.within in omega arith) in
      let high : mid ≤ to = (let f = later.from in let w = later.within in omega arith) in
      (tells_both on log true true origin after mid to low high (switched log origin after mid first) (switched log origin mid to later)).only refl

-- WHAT A HISTORY OF THE SIX KINDS' OPERATIONS SAYS OF A FLAG

pub data_enabled : (state : Flag) (log : History Op) (held : VersionVector) (op : Op) (dot : Dot) → IsNext log held dot.origin (Operation op) → IsFlagOf enables state log held → (of_kind Kind.Flag).fits tt op ≡ true
    → IsFlagOf enables flag_on log (grown held dot.origin) × IsSwitchedOn enables log dot.origin (held dot.origin) (held dot.origin + 1)
data_enabled state log held op dot next is fits = data_switched enables state log held dot.origin op next (passes op fits) is
  where
    passes : (op : Op) → (of_kind Kind.Flag).fits tt op ≡ true → enables op ≡ true
    passes Enable e = refl
    passes op e = absurd (cc e)

pub never_refused : (op : Op) (origin : ℕ) (H : History Op) → (of_kind Kind.Flag).fits tt op ≡ true → ◌≡◌ {A = Option Refusal} None ((of_kind Kind.Flag).refusal tt origin op H)
never_refused Enable origin H fits = refl
never_refused op origin H fits = absurd (cc fits)
