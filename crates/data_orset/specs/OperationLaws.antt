-- One operation more, and deltas of operations.
use Rattle.std.proofs.Common.{◌≡◌, ℕ, ◌+◌, ◌<◌, ◌≤◌, true, false, not, ◌&&◌, ◌||◌, arith, refl, ap, sym, ◌∙◌, subst, ⊎_elim, inl, inr}
use Rattle.std.proofs.lemmas.Bool.{cases_lt, cases_Bool, or_cases, or_left, or_right, and_parts, and_from, not-true, eq-eqb}
use Rattle.std.specs.FinSet as set
use Rattle.model_history.specs.Texts.{Text}
use Rattle.model_history.specs.Vector.{VersionVector, IdentitySet}
use Rattle.model_history.specs.History.{History}
use Rattle.model_history.specs.History.Action.{Operation}
use Rattle.model_history.specs.Cuts.{action_of, past_of, grown, IsNext, IsPrunedCut}
use Rattle.model_history.proofs.CutLaws.{with_at_is, with_at-le, IsConsistentCut-grown, new_or_old, both_ways}
use Rattle.base_vectors.specs.declared.id.Dot.{Dot}
use Rattle.model_kinds.specs.SixKinds.{adds, removes}
use Rattle.model_kinds.specs.declared.operation.Op.{Op}
use Rattle.data_orset.specs.declared.set.SetDelta.{SetDelta}
use Rattle.data_orset.specs.Placing.{key}
use Rattle.data_orset.specs.Dots.{Dots, is_of, is_named, fresh_of, set_combined, set_applied, set_delta_of}
use Rattle.data_orset.specs.DotLaws.{key_parts, same_key, named_is, fresh_key, key_fresh, contains-applied, contains-seen, contains-combined, contains-both_seen}
use Rattle.data_orset.specs.Live.{Touches, Adds, IsLive, TouchesBy}
use Rattle.data_orset.specs.LiveLaws.{Touches-opens}
use Rattle.data_orset.specs.DataOf.{AreLiveDots, IsSeenOf, IsOfOne}
use Rattle.data_orset.specs.DataLaws.{live_not_gone}

-- the next record touches what its operation touches
next_touches : (log : History Op) (held : VersionVector) (gone : IdentitySet) (origin : ℕ) (op : Op) (e : Text) → IsPrunedCut log held gone → IsNext log held origin (Operation op)
    → (Touches log e origin (held origin) → (adds op e || removes op e) ≡ true) × ((adds op e || removes op e) ≡ true → Touches log e origin (held origin))
next_touches log held gone origin op e h n =
    let grows = IsConsistentCut-grown log held origin (Operation op) h.cut n in
    let opens = Touches-opens log e (grown held origin) origin (held origin) grows (let x = with_at_is held origin (held origin + 1) origin refl in omega arith) in
    ((λ t. subst (TouchesBy log e (past_of log origin (held origin))) n.action (opens.0 t)), (λ t. opens.1 (subst (TouchesBy log e (past_of log origin (held origin))) (sym n.action) t)))

applied_live : (state : Dots) (log : History Op) (held : VersionVector) (gone : IdentitySet) (op : Op) (dot : Dot) → IsPrunedCut log held gone → gone dot.origin ≡ false → IsNext log held dot.origin (Operation op) → dot.seq ≡ held dot.origin + 1
    → AreLiveDots state log held gone → AreLiveDots (set_applied state op dot) log (grown held dot.origin) gone
applied_live state log held gone op dot h stays n seq p =
    let up : (i : ℕ) → held i ≤ grown held dot.origin i = λ i. with_at-le held dot.origin (held dot.origin + 1) i (omega arith) in
    let there : held dot.origin < grown held dot.origin dot.origin = (let y = with_at_is held dot.origin (held dot.origin + 1) dot.origin refl in omega arith) in
    record {
      live = λ e by k c. ⊎_elim
          (λ (a : (set.contains state (key e by (k + 1)) && not (is_named op (key e by (k + 1)))) ≡ true).
          let both = and_parts _ _ a in
          let l = p.live e by k both.0 in (
            l.0,
            record {
              within = (let w = l.1.within in let y = up by in omega arith);
              adds = l.1.adds;
              untouched = λ o' k' m t b. ⊎_elim
                  (λ (new : (o' ≡ dot.origin) × (k' ≡ held dot.origin)).
                  let t' : Touches log e dot.origin (held dot.origin) = subst (Touches log e dot.origin) new.1 (subst (λ z. Touches log e z k') new.0 t) in
                  both_ways _ (named_is op e by (k + 1) ∙ (next_touches log held gone dot.origin op e h n).0 t') (not-true _ both.1))
                  (λ (old : k' < held o'). l.1.untouched o' k' old t b) (new_or_old log held dot.origin o' k' m);
            },
          ))
          (λ (b : set.contains (fresh_of op dot) (key e by (k + 1)) ≡ true).
          let f = fresh_key op dot (key e by (k + 1)) b in
          let parts = key_parts e by (k + 1) f.0 dot.origin dot.seq f.2 in
          let at : k ≡ held dot.origin = (let q = parts.2 in omega arith) in
          let here : IsLive log e (grown held dot.origin) dot.origin (held dot.origin) = record {
            within = there;
            adds = subst (Adds log e dot.origin (held dot.origin)) (sym n.action) (subst (λ z. adds op z ≡ true) (sym parts.0) f.1);
            untouched = λ o' k' m t r. ⊎_elim
                (λ (new : (o' ≡ dot.origin) × (k' ≡ held dot.origin)).
                let q : past_of log o' k' dot.origin ≡ held dot.origin = ap (λ z. past_of log z k' dot.origin) new.0 ∙ ap (λ z. past_of log dot.origin z dot.origin) new.1 ∙ n.past dot.origin in omega arith)
                (λ (old : k' < held o'). let q = h.cut.closed o' k' dot.origin old in omega arith) (new_or_old log held dot.origin o' k' m);
          } in
          (ap gone parts.1 ∙ stays, subst (λ z. IsLive log e (grown held dot.origin) z k) (sym parts.1) (subst (λ z. IsLive log e (grown held dot.origin) dot.origin z) (sym at) here)))
          (or_cases _ _ (sym (contains-applied state op dot (key e by (k + 1))) ∙ c));
      all = λ e by k q l. contains-applied state op dot (key e by (k + 1)) ∙ ⊎_elim
          (λ (new : (by ≡ dot.origin) × (k ≡ held dot.origin)).
          let is_add : adds op e ≡ true = subst (Adds log e dot.origin (held dot.origin)) n.action
          (subst (λ z. Adds log e dot.origin z (action_of log dot.origin z)) new.1 (subst (λ z. Adds log e z k (action_of log z k)) new.0 l.adds)) in
          or_right _ _ (subst (λ z. set.contains (fresh_of op dot) z ≡ true)
          (same_key e e dot.origin dot.seq (k + 1) refl (let z = new.1 in omega arith) ∙ ap (λ z. key e z (k + 1)) (sym new.0)) (key_fresh op dot e is_add)))
          (λ (old : k < held by).
          let before : IsLive log e held by k = record { within = old; adds = l.adds; untouched = λ o' k' m t b. l.untouched o' k' (let y = up o' in omega arith) t b } in
          let apart : is_named op (key e by (k + 1)) ≡ false = ⊎_elim
          (λ (named : is_named op (key e by (k + 1)) ≡ true).
          absurd (l.untouched dot.origin (held dot.origin) there ((next_touches log held gone dot.origin op e h n).1 (sym (named_is op e by (k + 1)) ∙ named)) (let z = n.past by in omega arith)))
          (λ (t : is_named op (key e by (k + 1)) ≡ false). t) (cases_Bool (is_named op (key e by (k + 1)))) in
          or_left _ _ (and_from _ _ (p.all e by k q before) (ap not apart))) (new_or_old log held dot.origin by k l.within);
      shaped = λ y c. ⊎_elim
          (λ (a : (set.contains state y && not (is_named op y)) ≡ true). p.shaped y (and_parts _ _ a).0)
          (λ (b : set.contains (fresh_of op dot) y ≡ true). let f = fresh_key op dot y b in (f.0, dot.origin, held dot.origin, f.2 ∙ same_key f.0 f.0 dot.origin dot.seq (held dot.origin + 1) refl seq))
          (or_cases _ _ (sym (contains-applied state op dot y) ∙ c));
    }

applied_seen : (state : Dots) (log : History Op) (held : VersionVector) (gone : IdentitySet) (op : Op) (dot : Dot) → IsPrunedCut log held gone → IsNext log held dot.origin (Operation op) → dot.seq ≡ held dot.origin + 1
    → AreLiveDots state log held gone → IsSeenOf (set_delta_of state op dot) log dot.origin (held dot.origin) (held dot.origin + 1)
applied_seen state log held gone op dot h n seq p =
    let o = dot.origin in
    let x = held dot.origin in
    let placed : (e : Text) (by k : ℕ) → set.contains (fresh_of op dot) (key e by (k + 1)) ≡ true → (adds op e ≡ true) × (by ≡ o) × (k ≡ x) = λ e by k c.
    let f = fresh_key op dot (key e by (k + 1)) c in
    let parts = key_parts e by (k + 1) f.0 o dot.seq f.2 in (subst (λ z. adds op z ≡ true) (sym parts.0) f.1, parts.1, (let q = parts.2 in omega arith)) in
    record {
      rises = omega arith;
      fresh = λ e by k c.
          let f = placed e by k c in (
            f.1,
            record {
              from = (let q = f.2 in omega arith);
              below = (let q = f.2 in omega arith);
              adds = subst (λ j. Adds log e o j (action_of log o j)) (sym f.2) (subst (Adds log e o x) (sym n.action) f.0);
              last = λ later a b t _. (let q = f.2 in omega arith);
            },
          );
      adds = λ e k f.
          let same : k ≡ x = (let a = f.from in let b = f.below in omega arith) in
          let here : adds op e ≡ true = subst (Adds log e o k) (ap (action_of log o) same ∙ n.action) f.adds in
          subst (λ z. set.contains (fresh_of op dot) z ≡ true) (same_key e e o dot.seq (k + 1) refl (omega arith)) (key_fresh op dot e here);
      shaped = λ y c. let f = fresh_key op dot y c in (f.0, o, x, f.2 ∙ same_key f.0 f.0 o dot.seq (x + 1) refl seq);
      seen = λ e by k c. ⊎_elim
          (λ (a : (set.contains state (key e by (k + 1)) && is_named op (key e by (k + 1))) ≡ true).
          let both = and_parts _ _ a in
          let l = p.live e by k both.0 in
          inl (x, omega arith, omega arith, (next_touches log held gone o op e h n).1 (sym (named_is op e by (k + 1)) ∙ both.1), subst (λ z. IsLive log e z by k) (λ j i. sym (n.past i) j) l.1))
          (λ (b : set.contains (fresh_of op dot) (key e by (k + 1)) ≡ true). let f = placed e by k b in inr (f.1, (let q = f.2 in omega arith), (let q = f.2 in omega arith)))
          (or_cases _ _ (sym (contains-seen state op dot (key e by (k + 1))) ∙ c));
      all = λ e by k at a b t l.
          let same : at ≡ x = omega arith in
          let named : (adds op e || removes op e) ≡ true = (next_touches log held gone o op e h n).0 (subst (Touches log e o) same t) in
          let past : past_of log o at ≡ held = λ j i. (ap (λ z. past_of log o z i) same ∙ n.past i) j in
          let live : IsLive log e held by k = subst (λ z. IsLive log e z by k) past l in
          let stored = p.all e by k (live_not_gone log e held gone by k h live) live in
          contains-seen state op dot (key e by (k + 1)) ∙ or_left _ _ (and_from _ _ stored (named_is op e by (k + 1) ∙ named));
    }

pub data_applied : (state : Dots) (log : History Op) (held : VersionVector) (gone : IdentitySet) (op : Op) (dot : Dot) → IsPrunedCut log held gone → gone dot.origin ≡ false → IsNext log held dot.origin (Operation op) → dot.seq ≡ held dot.origin + 1
    → AreLiveDots state log held gone → AreLiveDots (set_applied state op dot) log (grown held dot.origin) gone × IsSeenOf (set_delta_of state op dot) log dot.origin (held dot.origin) (held dot.origin + 1)
data_applied state log held gone op dot h stays n seq p = (applied_live state log held gone op dot h stays n seq p, applied_seen state log held gone op dot h n seq p)

pub delta_combined : (first later : SetDelta) (log : History Op) (origin after mid to : ℕ) → IsSeenOf first log origin after mid → IsSeenOf later log origin mid to → IsSeenOf (set_combined first later) log origin after to
delta_combined first later log origin after mid to d e = record {
  rises = (let x = d.rises in let y = e.rises in omega arith);
  fresh = λ el by k c. ⊎_elim
      (λ (b : set.contains later.fresh (key el by (k + 1)) ≡ true).
      let f = e.fresh el by k b in (f.0, record { from = (let x = d.rises in let y = f.1.from in omega arith); below = f.1.below; adds = f.1.adds; last = f.1.last }))
      (λ (a : (set.contains first.fresh (key el by (k + 1)) && not (set.contains later.seen (key el by (k + 1)))) ≡ true).
      let both = and_parts _ _ a in
      let f = d.fresh el by k both.0 in (
        f.0,
        record {
          from = f.1.from;
          below = (let x = f.1.below in let y = e.rises in omega arith);
          adds = f.1.adds;
          last = λ at x y t l. ⊎_elim
              (λ (z : at < mid). f.1.last at x z t l)
              (λ (z : mid ≤ at). both_ways _ (e.all el by k at z y t (subst (λ q. IsLive log el (past_of log origin at) q k) (sym f.0) l)) (not-true _ both.1)) (cases_lt at mid);
        },
      ))
      (or_cases _ _ (sym (contains-combined first later (key el by (k + 1))) ∙ c));
  adds = λ el k f. contains-combined first later (key el origin (k + 1)) ∙ ⊎_elim
      (λ (x : k < mid).
      let kept_first = d.adds el k (record { from = f.from; below = x; adds = f.adds; last = λ at a b t l. f.last at a (let y = e.rises in omega arith) t l }) in
      let unseen : set.contains later.seen (key el origin (k + 1)) ≡ false = ⊎_elim
      (λ (s : set.contains later.seen (key el origin (k + 1)) ≡ true). absurd (⊎_elim
      (λ (r : (at : ℕ) × (mid ≤ at) × (at < to) × Touches log el origin at × IsLive log el (past_of log origin at) origin k). f.last r.0 (let y = r.1 in omega arith) r.2 r.3 r.4)
      (λ (r : (origin ≡ origin) × (mid ≤ k) × (k < to)). (let y = r.1 in omega arith)) (e.seen el origin k s)))
      (λ (s : set.contains later.seen (key el origin (k + 1)) ≡ false). s) (cases_Bool (set.contains later.seen (key el origin (k + 1)))) in
      or_right _ _ (and_from _ _ kept_first (ap not unseen)))
      (λ (x : mid ≤ k). or_left _ _ (e.adds el k (record { from = x; below = f.below; adds = f.adds; last = f.last }))) (cases_lt k mid);
  seen = λ el by k c. ⊎_elim
      (λ (a : set.contains first.seen (key el by (k + 1)) ≡ true). ⊎_elim
      (λ (r : (at : ℕ) × (after ≤ at) × (at < mid) × Touches log el origin at × IsLive log el (past_of log origin at) by k). inl (r.0, r.1, (let y = r.2 in let z = e.rises in omega arith), r.3, r.4))
      (λ (r : (by ≡ origin) × (after ≤ k) × (k < mid)). inr (r.0, r.1, (let y = r.2 in let z = e.rises in omega arith))) (d.seen el by k a))
      (λ (b : set.contains later.seen (key el by (k + 1)) ≡ true). ⊎_elim
      (λ (r : (at : ℕ) × (mid ≤ at) × (at < to) × Touches log el origin at × IsLive log el (past_of log origin at) by k). inl (r.0, (let y = r.1 in let z = d.rises in omega arith), r.2, r.3, r.4))
      (λ (r : (by ≡ origin) × (mid ≤ k) × (k < to)). inr (r.0, (let y = r.1 in let z = d.rises in omega arith), r.2)) (e.seen el by k b))
      (or_cases _ _ (sym (contains-both_seen first later (key el by (k + 1))) ∙ c));
  all = λ el by k at a b t l. contains-both_seen first later (key el by (k + 1)) ∙ ⊎_elim
      (λ (x : at < mid). or_left _ _ (d.all el by k at a x t l)) (λ (x : mid ≤ at). or_right _ _ (e.all el by k at x b t l)) (cases_lt at mid);
  shaped = λ y c. ⊎_elim
      (λ (b : set.contains later.fresh y ≡ true). e.shaped y b)
      (λ (a : (set.contains first.fresh y && not (set.contains later.seen y)) ≡ true). d.shaped y (and_parts _ _ a).0)
      (or_cases _ _ (sym (contains-combined first later y) ∙ c));
}

-- a delta's fresh dots are its origin's
pub delta_made_by : (delta : SetDelta) (log : History Op) (origin after to : ℕ) → IsSeenOf delta log origin after to → IsOfOne delta origin
delta_made_by delta log origin after to d = λ k c.
    let f = d.shaped k c in
    let by = (d.fresh f.0 f.1 f.2 (ap (set.contains delta.fresh) (sym f.3) ∙ c)).0 in
    ap (is_of origin) f.3 ∙ eq-eqb f.1 origin by
