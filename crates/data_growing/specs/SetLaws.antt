-- The laws of sets that only grow.
use Rattle.std.proofs.Common.{◌≡◌, ℕ, ◌+◌, ◌<◌, ◌≤◌, List, [], ◌∷◌, ◌++◌, Bool, true, ◌||◌, refl, ap, sym, ◌∙◌, subst, arith, Option, None, Some}
use Rattle.std.specs.Prelude.{filter_map}
use Rattle.std.specs.List.{list_any}
use Rattle.std.specs.Option.{option_to_list}
use mathlib.Core.Bool.{or_comm, or_self, or_self_left}
use Rattle.model_history.specs.Table.{with_at}
use Rattle.model_history.specs.Texts.{Text, text_set, contains_text}
use Rattle.model_history.specs.Vector.{VersionVector, join}
use Rattle.model_history.specs.History.{Action, Stamped, History, cut, all_records}
use Rattle.model_history.specs.History.Action.{Operation, Prune}
use Rattle.model_history.specs.Cuts.{IsConsistentCut, IsNext, grown}
use Rattle.model_meanings.specs.Growing.{found, added_elements, is_operation}
use Rattle.model_meanings.specs.Refusal.{full}
use Rattle.model_kinds.specs.SixKinds.{of_kind, added}
use Rattle.model_kinds.specs.declared.kind.Kind.TheVariants as Kind
use Rattle.model_kinds.specs.declared.operation.Op.{Op}
use Rattle.model_kinds.specs.declared.operation.Op.TheVariants.{Add}
use Rattle.data_growing.specs.Bits.{or_third}
use Rattle.base_bytes.specs.TextOrder.{IsRising}
use Rattle.data_growing.specs.TextSetLaws.{same_texts, contains_set, contains_both, contains_append, rising_set, is_set}
use Rattle.data_growing.specs.Recorded.{Tells, TellsBetween}
use Rattle.data_growing.specs.RecordedLaws.{tells_none, tells_grown, tells_pruned, tells_new, tells_joined, tells_group, tells_both, tells_once, tells_means}
use Rattle.data_growing.specs.Sets.{set_joined, set_applied, set_refusal, is_adding, IsSetOf, IsAddedBetween}

-- TWO SETS

-- two sets of lists with the same elements
same_sets : (xs ys : List Text) → ((e : Text) → contains_text xs e ≡ contains_text ys e) → text_set xs ≡ text_set ys
same_sets xs ys same = same_texts (text_set xs) (text_set ys) (rising_set xs) (rising_set ys) (λ e. contains_set xs e ∙ same e ∙ sym (contains_set ys e))

pub join_comm : (a b : List Text) → set_joined a b ≡ set_joined b a
join_comm a b = same_sets (a ++ b) (b ++ a) (λ e. contains_append a b e ∙ or_comm (contains_text a e) (contains_text b e) ∙ sym (contains_append b a e))

pub join_assoc : (a b c : List Text) → set_joined (set_joined a b) c ≡ set_joined a (set_joined b c)
join_assoc a b c = same_sets (set_joined a b ++ c) (a ++ set_joined b c) (λ e.
    contains_append (set_joined a b) c e ∙ ap (λ x. x || contains_text c e) (contains_both a b e) ∙ sym (or_third (contains_text a e) (contains_text b e) (contains_text c e))
    ∙ ap (λ x. contains_text a e || x) (sym (contains_both b c e)) ∙ sym (contains_append a (set_joined b c) e))

pub join_same : (a : List Text) → IsRising a → set_joined a a ≡ a
join_same a rising = sym (is_set a (a ++ a) rising (λ e. sym (contains_append a a e ∙ or_self (contains_text a e))))

pub join_upper : (a b : List Text) → set_joined a (set_joined a b) ≡ set_joined a b
join_upper a b = same_sets (a ++ set_joined a b) (a ++ b) (λ e.
    contains_append a (set_joined a b) e ∙ ap (λ x. contains_text a e || x) (contains_both a b e) ∙ or_self_left (contains_text a e) (contains_text b e) ∙ sym (contains_append a b e))

pub join_rising : (a b : List Text) → IsRising (set_joined a b)
join_rising a b = rising_set (a ++ b)

-- both parts of a joined delta
pub absorb_combined : (state first later : List Text) → set_joined state (set_joined first later) ≡ set_joined (set_joined state first) later
absorb_combined state first later = sym (join_assoc state first later)

rising_option : (element : Option Text) → IsRising (option_to_list element)
rising_option None = tt
rising_option (Some e) = (tt, tt)

module _ {Op : Type 0} (added : Op → Option Text) where
  -- the set of the empty history
  pub data_empty : (log : History Op) (held : VersionVector) → ((i : ℕ) → held i ≡ 0) → IsSetOf added [] log held
  data_empty log held none = record { rising = tt; tells = λ e. tells_none (is_adding added e) log held none }

  -- a record that adds
  pub data_applied : (state : List Text) (log : History Op) (held : VersionVector) (id : ℕ) (op : Op) → IsNext log held id (Operation op) → IsSetOf added state log held
      → IsSetOf added (set_applied state (added op)) log (grown held id) × IsAddedBetween added (option_to_list (added op)) log id (held id) (held id + 1)
  data_applied state log held id op next is = (
    record {
      rising = rising_set (state ++ option_to_list (added op));
      tells = λ e. subst (λ b. Tells (is_adding added e) log b (grown held id)) (sym (contains_both state (option_to_list (added op)) e))
          (tells_grown (is_adding added e) log (contains_text state e) (is_adding added e op) held id (Operation op) next refl (is.tells e));
    },
    record {
      rising = rising_option (added op);
      rises = omega arith;
      tells = λ e. tells_new (is_adding added e) log (is_adding added e op) held id (Operation op) next refl;
    },
  )

  pub data_joined : (state other : List Text) (log : History Op) (held also : VersionVector) → IsSetOf added state log held → IsSetOf added other log also → IsSetOf added (set_joined state other) log (join held also)
  data_joined state other log held also is other_is = record {
    rising = rising_set (state ++ other);
    tells = λ e. subst (λ b. Tells (is_adding added e) log b (join held also)) (sym (contains_both state other e))
        (tells_joined (is_adding added e) log (contains_text state e) (contains_text other e) held also (is.tells e) (other_is.tells e));
  }

  pub data_absorbed : (state delta : List Text) (log : History Op) (held : VersionVector) (origin after to : ℕ) → IsSetOf added state log held → IsAddedBetween added delta log origin after to → after ≤ held origin → held origin < to
      → IsSetOf added (set_joined state delta) log (with_at held origin to)
  data_absorbed state delta log held origin after to is made low high = record {
    rising = rising_set (state ++ delta);
    tells = λ e. subst (λ b. Tells (is_adding added e) log b (with_at held origin to)) (sym (contains_both state delta e))
        (tells_group (is_adding added e) log (contains_text state e) (contains_text delta e) held origin after to low high (is.tells e) (made.tells e));
  }

  pub data_pruned : (state : List Text) (log : History Op) (held : VersionVector) (removed id : ℕ) → IsNext log held id (Prune removed) → IsSetOf added state log held → IsSetOf added state log (grown held id)
  data_pruned state log held removed id next is = record {
    rising = is.rising;
    tells = λ e. tells_pruned (is_adding added e) log (contains_text state e) held id removed next (is.tells e);
  }

  pub delta_combined : (first later : List Text) (log : History Op) (origin after mid to : ℕ) → IsAddedBetween added first log origin after mid → IsAddedBetween added later log origin mid to
      → IsAddedBetween added (set_joined first later) log origin after to
  delta_combined first later log origin after mid to f l =
      let low : after < mid = f.rises in
      let high : mid < to = l.rises in record {
        rising = rising_set (first ++ later);
        rises = omega arith;
        tells = λ e. subst (λ b. TellsBetween (is_adding added e) log b origin after to) (sym (contains_both first later e))
            (tells_both (is_adding added e) log (contains_text first e) (contains_text later e) origin after mid to (omega arith) (omega arith) (f.tells e) (l.tells e));
      }

  pub data_once : (state other : List Text) (log : History Op) (held : VersionVector) → IsSetOf added state log held → IsSetOf added other log held → state ≡ other
  data_once state other log held is other_is =
      same_texts state other is.rising other_is.rising (λ e. tells_once (is_adding added e) log (contains_text state e) (contains_text other e) held (is.tells e) (other_is.tells e))

  -- THE ELEMENTS THAT A HISTORY ADDS

  adds_here : (e : Text) (action : Action Op) (rest : Bool) (xs : List Text) → rest ≡ contains_text xs e → (is_operation (is_adding added e) action || rest) ≡ contains_text (option_to_list (found added action) ++ xs) e
  adds_here e (Operation op) rest xs same = ap (λ b. is_adding added e op || b) same ∙ sym (contains_append (option_to_list (added op)) xs e)
  adds_here e (Prune r) rest xs same = same

  filter_map_cons : {X : Type 0} (f : X → Option Text) (x : X) (xs : List X) → filter_map f (x ∷ xs) ≡ option_to_list (f x) ++ filter_map f xs
  filter_map_cons f x xs = go (f x) refl
    where
      go : (o : Option Text) → f x ≡ o → filter_map f (x ∷ xs) ≡ option_to_list (f x) ++ filter_map f xs
      go None e = rw e refl
      go (Some y) e = rw e refl

  contains_added : (xs : List (Stamped Op)) (e : Text) → list_any (λ (x : Stamped Op). is_operation (is_adding added e) x.action) xs ≡ contains_text (filter_map (λ (x : Stamped Op). found added x.action) xs) e
  contains_added [] e = refl
  contains_added (x ∷ xs) e =
      adds_here e x.action (list_any (λ (x : Stamped Op). is_operation (is_adding added e) x.action) xs) (filter_map (λ (x : Stamped Op). found added x.action) xs) (contains_added xs e)
      ∙ ap (λ ys. contains_text ys e) (sym (filter_map_cons (λ (x : Stamped Op). found added x.action) x xs))

  pub set_means : (state : List Text) (log : History Op) (held : VersionVector) → IsConsistentCut log held → IsSetOf added state log held → state ≡ added_elements added (cut log held)
  set_means state log held h is =
      is_set state (filter_map (λ (x : Stamped Op). found added x.action) (all_records (cut log held))) is.rising
      (λ e. tells_means (is_adding added e) log (contains_text state e) held h (is.tells e) ∙ contains_added (all_records (cut log held)) e)

-- WHAT A HISTORY OF THE SIX KINDS' OPERATIONS REFUSES

pub refusal_means : (state : List Text) (log : History Op) (held : VersionVector) (op : Op) (origin : ℕ) → IsConsistentCut log held → IsSetOf added state log held → (of_kind Kind.GSet).fits tt op ≡ true
    → set_refusal state (added op) ≡ (of_kind Kind.GSet).refusal tt origin op (cut log held)
refusal_means state log held (Add e) origin h is fits = ap (full e) (set_means added state log held h is)
refusal_means state log held op origin h is fits = absurd (cc fits)
