-- What the set shows and refuses is what its history means.
use Rattle.std.proofs.Common.{◌≡◌, ℕ, zero, suc, ◌+◌, ◌<◌, List, [], ◌∷◌, Bool, true, false, ◌&&◌, ◌||◌, Option, None, Some, map, arith, refl, ap, sym, ◌∙◌, subst, lt_of_lt_of_le, le_of_suc-le-suc, lt-suc_self}
use Rattle.std.specs.Prelude.{slice_get, filter, filter_map, if◌then◌else◌}
use Rattle.std.specs.List.{list_any}
use Rattle.std.specs.Str.{bytes_eq}
use Rattle.std.specs.FinSet as set
use Rattle.std.proofs.lemmas.Bool.{or_right, and_parts, and_from}
use Rattle.model_history.specs.Texts.{Text, text_set, contains_text}
use Rattle.model_history.specs.Vector.{VersionVector, IdentitySet}
use Rattle.model_history.specs.History.{Action, Stamped, History, size, cut, all_records}
use Rattle.model_history.specs.History.Action.{Operation, Prune}
use Rattle.model_history.specs.Cuts.{action_of, past_of, record_at, IsConsistentCut, IsPrunedCut}
use Rattle.model_history.proofs.PastLaws.{past_is_shorter}
use Rattle.model_history.proofs.Bridge.{cut_is_history, past_cut, in_cut}
use Rattle.model_meanings.specs.Growing.{found}
use Rattle.model_meanings.specs.ObservedRemove.{is_live, live_elements}
use Rattle.model_meanings.specs.Refusal.{full}
use Rattle.model_kinds.specs.SixKinds.{of_kind, set_operations, adds, added}
use Rattle.model_kinds.specs.declared.kind.Kind.TheVariants as Kind
use Rattle.model_kinds.specs.declared.operation.Op.{Op}
use Rattle.model_kinds.specs.declared.operation.Op.TheVariants.{Add, Remove}
use Rattle.data_growing.specs.Bits.{same_bits}
use Rattle.base_bytes.specs.TextOrder.{IsBelowAll, IsRising}
use Rattle.base_bytes.proofs.TextLaws.{eq_texts, texts_eq}
use Rattle.data_growing.specs.TextSetLaws.{same_texts, contains_set, rising_set}
use Rattle.data_orset.specs.Placing.{key}
use Rattle.data_orset.specs.Dots.{Dots, element_of, shown_elements, set_refusal}
use Rattle.data_orset.specs.DotLaws.{some_dot, dot_of_any}
use Rattle.data_orset.specs.Live.{Touches, IsLive}
use Rattle.data_orset.specs.LiveLaws.{stamped, any_held, held_any, at_all, cut_again, live_in_log, live_in_cut, Touches-opens}
use Rattle.data_orset.specs.DataOf.{AreLiveDots}
use Rattle.data_orset.specs.DataLaws.{live_not_gone}

-- LISTS OF TEXTS

-- some of the texts
contains_filter : (p : Text → Bool) (xs : List Text) (e : Text) → contains_text (filter p xs) e ≡ (contains_text xs e && p e)
contains_filter p [] e = refl
contains_filter p (x ∷ xs) e = go (p x) refl (bytes_eq e x) refl (contains_filter p xs e)
  where
    go : (b : Bool) → p x ≡ b → (c : Bool) → bytes_eq e x ≡ c → contains_text (filter p xs) e ≡ (contains_text xs e && p e)
        → contains_text (if b then x ∷ filter p xs else filter p xs) e ≡ ((c || contains_text xs e) && p e)
    go true is true here later = ap (λ c. c || contains_text (filter p xs) e) here ∙ sym is ∙ ap p (sym (eq_texts e x here))
    go true is false here later = ap (λ c. c || contains_text (filter p xs) e) here ∙ later
    go false is true here later = later ∙ none (contains_text xs e) (p e) (ap p (eq_texts e x here) ∙ is)
      where
        none : (a b : Bool) → b ≡ false → (a && b) ≡ b
        none true b f = refl
        none false b f = sym f
    go false is false here later = later

below_filter : (p : Text → Bool) (x : Text) (xs : List Text) → IsBelowAll x xs → IsBelowAll x (filter p xs)
below_filter p x [] h = tt
below_filter p x (y ∷ ys) h = go (p y) (below_filter p x ys h.1)
  where
    go : (b : Bool) → IsBelowAll x (filter p ys) → IsBelowAll x (if b then y ∷ filter p ys else filter p ys)
    go true later = (h.0, later)
    go false later = later

rising_filter : (p : Text → Bool) (xs : List Text) → IsRising xs → IsRising (filter p xs)
rising_filter p [] h = tt
rising_filter p (x ∷ xs) h = go (p x) (rising_filter p xs h.1)
  where
    go : (b : Bool) → IsRising (filter p xs) → IsRising (if b then x ∷ filter p xs else filter p xs)
    go true later = (below_filter p x xs h.0, later)
    go false later = later

-- what a test of the texts of a list's items says
pub any_map : {X : Type 0} (f : X → Text) (e : Text) (xs : List X) → contains_text (map f xs) e ≡ list_any (λ x. bytes_eq e (f x)) xs
any_map f e [] = refl
any_map f e (x ∷ xs) = ap (λ b. bytes_eq e (f x) || b) (any_map f e xs)

-- a text that is found at an item
contains_found : {X : Type 0} (f : X → Option Text) (e : Text) (xs : List X) (k : ℕ) (x : X) → slice_get xs k ≡ Some x → f x ≡ Some e → contains_text (filter_map f xs) e ≡ true
contains_found f e [] k x at is = absurd (cc at)
contains_found f e (y ∷ ys) zero x at is = let same : y ≡ x = cc at in rw (ap f same ∙ is) (ap (λ b. b || contains_text (filter_map f ys) e) (texts_eq e))
contains_found f e (y ∷ ys) (suc k) x at is = go (f y) refl (contains_found f e ys k x at is)
  where
    go : (o : Option Text) → f y ≡ o → contains_text (filter_map f ys) e ≡ true → contains_text (filter_map f (y ∷ ys)) e ≡ true
    go None none later = rw none later
    go (Some z) some later = rw some (or_right (bytes_eq e z) (contains_text (filter_map f ys) e) later)

-- EACH LIVE ELEMENT WAS ADDED

adds_found : (op : Op) (e : Text) → adds op e ≡ true → added op ≡ Some e
adds_found (Add x) e a = ap Some (eq_texts x e a)
adds_found op e a = absurd (cc a)

-- an element with a live adding record has an add among the records: a prune takes over what was live before it
add_of : (n : ℕ) (log : History Op) (e : Text) (held : VersionVector) → IsConsistentCut log held → size (cut log held) < n → (i k : ℕ) → IsLive log e held i k
    → (o : ℕ) × (j : ℕ) × (j < held o) × (found added (action_of log o j) ≡ Some e)
add_of zero log e held h less i k l = absurd (omega arith)
add_of (suc n) log e held h less i k l = go (action_of log i k) refl
    (λ (r m : ℕ) (live : IsLive log e (past_of log i k) r m).
    let history = cut_is_history log held h in
    let has = in_cut log held i k l.within (let a = h.made i in let w = l.within in omega arith) in
    let again = cut_again log held (past_of log i k) (λ j. h.closed i k j l.within) in
    let shorter : size (cut log (past_of log i k)) < size (cut log held) = subst (λ (H : History Op). size H < size (cut log held)) again (past_is_shorter (cut log held) history i k (record_at log i k) has) in
    add_of n log e (past_of log i k) (past_cut log held i k h l.within) (lt_of_lt_of_le shorter (le_of_suc-le-suc less)) r m live)
  where
    go : (action : Action Op) → action_of log i k ≡ action
        → ((r m : ℕ) → IsLive log e (past_of log i k) r m → (o : ℕ) × (j : ℕ) × (j < past_of log i k o) × (found added (action_of log o j) ≡ Some e))
        → (o : ℕ) × (j : ℕ) × (j < held o) × (found added (action_of log o j) ≡ Some e)
    go (Operation op) is before = (i, k, l.within, ap (found added) is ∙ adds_found op e (let a = l.adds in rw is at a))
    go (Prune r) is before =
        let t : Touches log e i k = (let a = l.adds in rw is at a) in
        let u = (Touches-opens log e held i k h l.within).0 t in
        let v = (rw is at u) in
        let b = before r v.0 v.1 in
        (b.0, b.1, (let c = h.closed i k b.0 l.within in let d = b.2 in omega arith), b.3)

-- WHAT IS SHOWN

module _ (state : Dots) (log : History Op) (held : VersionVector) (gone : IdentitySet) (pruned : IsPrunedCut log held gone) (is : AreLiveDots state log held gone) where
  abbrev has_live : Text → Bool
  has_live e = list_any (is_live set_operations e (cut log held)) (all_records (cut log held))

  abbrev added_in : Stamped Op → Option Text
  added_in x = found added x.action

  live_added : (e : Text) (i k : ℕ) → IsLive log e held i k → contains_text (filter_map added_in (all_records (cut log held))) e ≡ true
  live_added e i k l =
      let a = add_of (suc (size (cut log held))) log e held pruned.cut (lt-suc_self (size (cut log held))) i k l in
      let at = at_all log held pruned.cut a.0 a.1 a.2 in
      contains_found added_in e (all_records (cut log held)) at.0 (stamped log a.0 a.1) at.1 a.3

  shown_live : (e : Text) → contains_text (shown_elements state) e ≡ true → contains_text (live_elements set_operations (cut log held)) e ≡ true
  shown_live e c =
      let f = dot_of_any state (λ k. bytes_eq e (element_of k)) (sym (any_map element_of e (set.items state)) ∙ sym (contains_set (map element_of (set.items state)) e) ∙ c) in
      let shape = is.shaped f.0 f.1 in
      let l = (is.live shape.0 shape.1 shape.2 (ap (set.contains state) (sym shape.3) ∙ f.1)).1 in
      let same : e ≡ shape.0 = eq_texts e shape.0 (ap (λ k. bytes_eq e (element_of k)) (sym shape.3) ∙ f.2) in
      let live : IsLive log e held shape.1 shape.2 = subst (λ z. IsLive log z held shape.1 shape.2) (sym same) l in
      contains_filter has_live (text_set (filter_map added_in (all_records (cut log held)))) e
      ∙ and_from _ _ (contains_set (filter_map added_in (all_records (cut log held))) e ∙ live_added e shape.1 shape.2 live)
      (any_held log held pruned.cut (is_live set_operations e (cut log held)) shape.1 shape.2 live.within (live_in_cut log e held shape.1 shape.2 pruned.cut live.within live))

  live_shown : (e : Text) → contains_text (live_elements set_operations (cut log held)) e ≡ true → contains_text (shown_elements state) e ≡ true
  live_shown e c =
      let parts = and_parts _ _ (sym (contains_filter has_live (text_set (filter_map added_in (all_records (cut log held)))) e) ∙ c) in
      let y = held_any log held pruned.cut (is_live set_operations e (cut log held)) parts.1 in
      let live = live_in_log log e held y.0 y.1 pruned.cut y.2 y.3 in
      contains_set (map element_of (set.items state)) e ∙ any_map element_of e (set.items state)
      ∙ some_dot state (λ k. bytes_eq e (element_of k)) (key e y.0 (y.1 + 1)) (is.all e y.0 y.1 (live_not_gone log e held gone y.0 y.1 pruned live) live) (texts_eq e)

  -- the elements of the dots are those with a live adding record
  pub elements_mean : shown_elements state ≡ live_elements set_operations (cut log held)
  elements_mean =
      same_texts (shown_elements state) (live_elements set_operations (cut log held)) (rising_set (map element_of (set.items state)))
      (rising_filter has_live (text_set (filter_map added_in (all_records (cut log held)))) (rising_set (filter_map added_in (all_records (cut log held)))))
      (λ e. same_bits _ _ (shown_live e) (live_shown e))

  pub refusal_means : (op : Op) (origin : ℕ) → (of_kind Kind.OrSet).fits tt op ≡ true → set_refusal state op ≡ (of_kind Kind.OrSet).refusal tt origin op (cut log held)
  refusal_means (Add e) origin fits = ap (full e) elements_mean
  refusal_means (Remove e) origin fits = refl
  refusal_means op origin fits = absurd (cc fits)
