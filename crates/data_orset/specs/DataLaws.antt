-- Data of histories, joined, absorbed and cleaned; what they hold and name.
use Rattle.std.proofs.Common.{◌≡◌, ◌≢◌, ◌⊎◌, ℕ, zero, suc, ◌+◌, ◌<◌, ◌≤◌, true, false, not, List, rules, arith, refl, ap, sym, ◌∙◌, subst, ⊎_elim, inl, inr, nat_eq}
use Rattle.std.proofs.lemmas.Bool.{cases_eq, cases_lt, cases_Bool, and_parts, and_from, not-true, eqb-true, eq-eqb}
use Rattle.std.proofs.Math.Nat.{max_comm}
use Rattle.std.specs.Ordering.{nat_cmp}
use Rattle.std.specs.Cmp.Lexicographic.{slice_cmp}
use Rattle.std.specs.FinSet as set
use Rattle.std.specs.FinSet.{contains-empty}
use Rattle.model_history.specs.Table.{with_at}
use Rattle.model_history.specs.Texts.{Text}
use Rattle.model_history.specs.Vector.{VersionVector, IdentitySet, join, with_member}
use Rattle.model_history.specs.History.{History}
use Rattle.model_history.specs.Cuts.{action_of, past_of, without, IsConsistentCut, IsPrunedCut}
use Rattle.model_history.proofs.HistoryLaws.{with_at_other}
use Rattle.model_history.proofs.CutLaws.{with_at_is, with_at-le, with_member_is, with_member_other, both_ways, in_either, uncleaned}
use Rattle.model_kinds.specs.declared.operation.Op.{Op}
use Rattle.data_orset.specs.declared.set.SetDelta.{SetDelta}
use Rattle.data_orset.specs.Placing.{key}
use Rattle.data_orset.specs.Cases.{which, kept_left, kept_right, absorbed_from, absorbed_kept, absorbed_new}
use Rattle.data_orset.specs.Dots.{Dots, contained, is_of, set_joined, set_absorbed, set_cleaned, set_mentioned}
use Rattle.data_orset.specs.DotLaws.{same_dots, lacks, lacked, holds, dot_of_any, contains-joined, contains-absorbed, contains-cleaned}
use Rattle.data_orset.specs.Live.{Touches, Adds, IsLive, TouchesBy}
use Rattle.data_orset.specs.LiveLaws.{Touches-opens}
use Rattle.data_orset.specs.DataOf.{AreLiveDots, IsSeenOf, AreDotsWithin}

-- live in a history that holds it, where the other history lacks the record or has it live too
live_left : (log : History Op) (element : Text) (held also : VersionVector) (origin index : ℕ) → IsConsistentCut log also → IsLive log element held origin index → (also origin ≤ index) ⊎ IsLive log element also origin index → IsLive log element (join held also) origin index
live_left log element held also origin index h a b = record {
  within = let l = a.within in omega arith;
  adds = a.adds;
  untouched = λ other later l t p. ⊎_elim
      (λ (x : later < held other). a.untouched other later x t p)
      (λ (x : later < also other). ⊎_elim
      (λ (y : also origin ≤ index). let z = h.closed other later origin x in omega arith)
      (λ (y : IsLive log element also origin index). y.untouched other later x t p) b) (in_either later (held other) (also other) l);
}

live_part : (log : History Op) (element : Text) (held also : VersionVector) (origin index : ℕ) → index < held origin → IsLive log element (join held also) origin index → IsLive log element held origin index
live_part log element held also origin index l a = record { within = l; adds = a.adds; untouched = λ other later x t p. a.untouched other later (omega arith) t p }

pub data_joined : (state other : Dots) (log : History Op) (held also : VersionVector) (gone : IdentitySet) → IsConsistentCut log held → IsConsistentCut log also → AreLiveDots state log held gone → AreLiveDots other log also gone → AreLiveDots (set_joined state (without gone held) other (without gone also)) log (join held also) gone
data_joined state other log held also gone h j p q =
    let v : VersionVector = without gone held in
    let w : VersionVector = without gone also in
    let swap : join also held ≡ join held also = λ n i. max_comm (also i) (held i) n in
    record {
      live = λ e o i c. ⊎_elim
          (λ (both : (set.contains state (key e o (i + 1)) ≡ true) × (set.contains other (key e o (i + 1)) ≡ true)).
          let a = p.live e o i both.0 in (a.0, live_left log e held also o i j a.1 (inr (q.live e o i both.1).1)))
          (λ (one : ((set.contains state (key e o (i + 1)) ≡ true) × (contained w (key e o (i + 1)) ≡ false)) ⊎ ((set.contains other (key e o (i + 1)) ≡ true) × (contained v (key e o (i + 1)) ≡ false))). ⊎_elim
          (λ (l : (set.contains state (key e o (i + 1)) ≡ true) × (contained w (key e o (i + 1)) ≡ false)).
          let a = p.live e o i l.0 in (a.0, live_left log e held also o i j a.1 (inl (subst (λ n. n ≤ i) (uncleaned gone also o a.0) (lacked w o i e l.1)))))
          (λ (r : (set.contains other (key e o (i + 1)) ≡ true) × (contained v (key e o (i + 1)) ≡ false)).
          let b = q.live e o i r.0 in (b.0, subst (λ u. IsLive log e u o i) swap (live_left log e also held o i h b.1 (inl (subst (λ n. n ≤ i) (uncleaned gone held o b.0) (lacked v o i e r.1)))))) one)
          (which _ _ _ _ (sym (contains-joined state v other w (key e o (i + 1))) ∙ c));
      all = λ e o i g l. contains-joined state v other w (key e o (i + 1)) ∙ ⊎_elim
          (λ (a : i < held o). kept_left _ _ _ _ (p.all e o i g (live_part log e held also o i a l)) (⊎_elim
          (λ (b : i < also o). inl (q.all e o i g (live_part log e also held o i b (subst (λ u. IsLive log e u o i) (sym swap) l))))
          (λ (b : also o ≤ i). inr (lacks w o i e (subst (λ n. n ≤ i) (sym (uncleaned gone also o g)) b))) (cases_lt i (also o))))
          (λ (a : held o ≤ i).
          let b : i < also o = (let u = l.within in omega arith) in
          kept_right _ _ _ _ (q.all e o i g (live_part log e also held o i b (subst (λ u. IsLive log e u o i) (sym swap) l))) (lacks v o i e (subst (λ n. n ≤ i) (sym (uncleaned gone held o g)) a))) (cases_lt i (held o));
      shaped = λ y c. ⊎_elim
          (λ (both : (set.contains state y ≡ true) × (set.contains other y ≡ true)). p.shaped y both.0)
          (λ (one : ((set.contains state y ≡ true) × (contained w y ≡ false)) ⊎ ((set.contains other y ≡ true) × (contained v y ≡ false))). ⊎_elim
          (λ (l : (set.contains state y ≡ true) × (contained w y ≡ false)). p.shaped y l.0)
          (λ (r : (set.contains other y ≡ true) × (contained v y ≡ false)). q.shaped y r.0) one)
          (which _ _ _ _ (sym (contains-joined state v other w y) ∙ c));
    }

-- a live adding record is of no pruned identity: its prune would touch the element
pub live_not_gone : (log : History Op) (element : Text) (held : VersionVector) (gone : IdentitySet) (origin index : ℕ) → IsPrunedCut log held gone → IsLive log element held origin index → gone origin ≡ false
live_not_gone log element held gone origin index h l = ⊎_elim
    (λ (g : gone origin ≡ true).
    let p = h.pruned.only origin g in
    let frozen : held origin ≡ past_of log p.0 p.1 origin = h.exact.frozen origin p.0 p.1 p.2 in
    let inside : (o : ℕ) → past_of log p.0 p.1 o ≤ held o = λ o. h.cut.closed p.0 p.1 o p.2.within in
    let there : IsLive log element (past_of log p.0 p.1) origin index = record {
      within = (let w = l.within in omega arith);
      adds = l.adds;
      untouched = λ o k m t b. l.untouched o k (let x = inside o in omega arith) t b;
    } in
    let opened : TouchesBy log element (past_of log p.0 p.1) (action_of log p.0 p.1) =
    subst (TouchesBy log element (past_of log p.0 p.1)) (sym p.2.action) (index, there) in
    absurd (l.untouched p.0 p.1 p.2.within ((Touches-opens log element held p.0 p.1 h.cut p.2.within).1 opened) (let w = l.within in omega arith)))
    (λ (g : gone origin ≡ false). g) (cases_Bool (gone origin))

untouched_by_group : (log : History Op) (held : VersionVector) (origin to : ℕ) (element : Text) (by index : ℕ) → IsConsistentCut log (with_at held origin to) → IsLive log element held by index
    → ((at : ℕ) → held origin ≤ at → at < to → Touches log element origin at → IsLive log element (past_of log origin at) by index → ⊥)
    → (n later : ℕ) → later < n → held origin ≤ later → later < to → Touches log element origin later → index < past_of log origin later by → ⊥
untouched_by_group log held origin to element by index h l blocked zero later m a b t p = omega arith
untouched_by_group log held origin to element by index h l blocked (suc n) later m a b t p =
    let there : later < with_at held origin to origin = (let x = with_at_is held origin to origin refl in omega arith) in
    blocked later a b t (record {
      within = p;
      adds = l.adds;
      untouched = λ o k q u r. ⊎_elim
          (λ (e : o ≡ origin). ⊎_elim
          (λ (x : k < held o). l.untouched o k x u r)
          (λ (x : held o ≤ k).
          let own : past_of log origin later origin ≡ later = h.own origin later there in
          let q' : k < later = subst (λ z. k < z) own (subst (λ z. k < past_of log origin later z) e q) in
          untouched_by_group log held origin to element by index h l blocked n k (omega arith) (subst (λ z. held z ≤ k) e x) (omega arith)
          (subst (λ z. Touches log element z k) e u) (subst (λ z. index < past_of log z k by) e r)) (cases_lt k (held o)))
          (λ (ne : o ≢ origin). l.untouched o k (let x = h.closed origin later o there in let y = with_at_other held origin to o ne in omega arith) u r) (cases_eq o origin);
    })

-- an add of the group that is not held yet, and replaced by no record of the group, is touched by none
untouched_add : (log : History Op) (held : VersionVector) (origin to : ℕ) (element : Text) (index : ℕ) → IsConsistentCut log held → IsConsistentCut log (with_at held origin to) → held origin ≤ index → Adds log element origin index (action_of log origin index)
    → ((at : ℕ) → index < at → at < to → Touches log element origin at → IsLive log element (past_of log origin at) origin index → ⊥)
    → (n later : ℕ) → later < n → index < later → later < to → Touches log element origin later → ⊥
untouched_add log held origin to element index g h new adds blocked zero later m a b t = omega arith
untouched_add log held origin to element index g h new adds blocked (suc n) later m a b t =
    let there : later < with_at held origin to origin = (let x = with_at_is held origin to origin refl in omega arith) in
    let own : past_of log origin later origin ≡ later = h.own origin later there in
    blocked later a b t (record {
      within = omega arith;
      adds = adds;
      untouched = λ o k q u r. ⊎_elim
          (λ (e : o ≡ origin).
          let q' : k < later = subst (λ z. k < z) own (subst (λ z. k < past_of log origin later z) e q) in
          let r' : index < past_of log origin k origin = subst (λ z. index < past_of log z k origin) e r in
          let own' : past_of log origin k origin ≡ k = h.own origin k (omega arith) in
          untouched_add log held origin to element index g h new adds blocked n k (omega arith) (omega arith) (omega arith) (subst (λ z. Touches log element z k) e u))
          (λ (ne : o ≢ origin). let x = h.closed origin later o there in let y = with_at_other held origin to o ne in let z = g.closed o k origin (omega arith) in omega arith) (cases_eq o origin);
    })

pub data_absorbed : (state : Dots) (d : SetDelta) (log : History Op) (held : VersionVector) (gone : IdentitySet) (origin after to : ℕ) → IsPrunedCut log held gone → IsConsistentCut log (with_at held origin to)
    → AreLiveDots state log held gone → IsSeenOf d log origin after to → gone origin ≡ false → after ≤ held origin → held origin < to → AreLiveDots (set_absorbed state (without gone held) d) log (with_at held origin to) gone
data_absorbed state d log held gone origin after to h g p is stays from more =
    let v : VersionVector = without gone held in
    let top : with_at held origin to origin ≡ to = with_at_is held origin to origin refl in
    let grows : (o : ℕ) → held o ≤ with_at held origin to o = λ o. with_at-le held origin to o (omega arith) in
    let own : (k : ℕ) → k < to → past_of log origin k origin ≡ k = λ k l. g.own origin k (omega arith) in
    let lasting : (e : Text) (o k : ℕ) → IsLive log e held o k → ((later : ℕ) → held origin ≤ later → later < to → Touches log e origin later → k < past_of log origin later o → ⊥) → IsLive log e (with_at held origin to) o k = λ e o k l u. record {
      within = (let w = l.within in let x = grows o in omega arith);
      adds = l.adds;
      untouched = λ o' k' m t b. ⊎_elim
          (λ (x : k' < held o'). l.untouched o' k' x t b)
          (λ (x : held o' ≤ k'). ⊎_elim
          (λ (same : o' ≡ origin). u k' (subst (λ z. held z ≤ k') same x) (subst (λ z. k' < z) (ap (with_at held origin to) same ∙ top) m) (subst (λ z. Touches log e z k') same t) (subst (λ z. k < past_of log z k' o) same b))
          (λ (ne : o' ≢ origin). let y = with_at_other held origin to o' ne in omega arith) (cases_eq o' origin)) (cases_lt k' (held o'));
    } in
    record {
      live = λ e o k c. ⊎_elim
          (λ (a : (set.contains state (key e o (k + 1)) ≡ true) × ((set.contains d.seen (key e o (k + 1)) ≡ false) ⊎ (set.contains d.fresh (key e o (k + 1)) ≡ true))).
          let l = p.live e o k a.0 in (
            l.0,
            lasting e o k l.1 (⊎_elim
                (λ (u : set.contains d.seen (key e o (k + 1)) ≡ false). λ later x y t b. untouched_by_group log held origin to e o k g l.1
                (λ at a' b' t' live'. both_ways _ (is.all e o k at (omega arith) b' t' live') u) (suc later) later (omega arith) x y t b)
                (λ (f : set.contains d.fresh (key e o (k + 1)) ≡ true).
                let fresh = is.fresh e o k f in λ later x y t b. untouched_by_group log held origin to e o k g l.1
                (λ at a' b' t' live'. let z = own at b' in let live'' : IsLive log e (past_of log origin at) origin k = subst (λ q. IsLive log e (past_of log origin at) q k) fresh.0 live' in
                fresh.1.last at (let w = live''.within in omega arith) b' t' live'') (suc later) later (omega arith) x y t b) a.1),
          ))
          (λ (b : (set.contains d.fresh (key e o (k + 1)) ≡ true) × (contained v (key e o (k + 1)) ≡ false)).
          let fresh = is.fresh e o k b.0 in
          let new : held origin ≤ k = subst (λ n. n ≤ k) (ap v fresh.0 ∙ uncleaned gone held origin stays) (lacked v o k e b.1) in (
            ap gone fresh.0 ∙ stays,
            subst (λ q. IsLive log e (with_at held origin to) q k) (sym fresh.0) (record {
              within = (let x = fresh.1.below in omega arith);
              adds = fresh.1.adds;
              untouched = λ o' k' m t r. ⊎_elim
                  (λ (x : k' < held o'). let y = h.cut.closed o' k' origin x in omega arith)
                  (λ (x : held o' ≤ k'). ⊎_elim
                  (λ (same : o' ≡ origin).
                  let m' : k' < to = subst (λ z. k' < z) (ap (with_at held origin to) same ∙ top) m in
                  untouched_add log held origin to e k h.cut g new fresh.1.adds fresh.1.last (suc k') k' (omega arith) (let z = own k' m' in let w : k < past_of log origin k' origin = subst (λ q. k < past_of log q k' origin) same r in omega arith) m' (subst (λ z. Touches log e z k') same t))
                  (λ (ne : o' ≢ origin). let y = with_at_other held origin to o' ne in omega arith) (cases_eq o' origin)) (cases_lt k' (held o'));
            }),
          ))
          (absorbed_from _ _ _ _ (sym (contains-absorbed state v d (key e o (k + 1))) ∙ c));
      all = λ e o k q l. contains-absorbed state v d (key e o (k + 1)) ∙ ⊎_elim
          (λ (x : k < held o).
          let old : IsLive log e held o k = record { within = x; adds = l.adds; untouched = λ o' k' m t b. l.untouched o' k' (let y = grows o' in omega arith) t b } in
          absorbed_kept _ _ _ _ (p.all e o k q old) (⊎_elim
          (λ (s : set.contains d.seen (key e o (k + 1)) ≡ true). inr (⊎_elim
          (λ (r : (at : ℕ) × (after ≤ at) × (at < to) × Touches log e origin at × IsLive log e (past_of log origin at) o k). absurd (l.untouched origin r.0 (let y = r.2 in omega arith) r.3 r.4.within))
          (λ (r : (o ≡ origin) × (after ≤ k) × (k < to)). subst (λ z. set.contains d.fresh (key e z (k + 1)) ≡ true) (sym r.0) (is.adds e k (record {
            from = r.1;
            below = r.2;
            adds = subst (λ z. Adds log e z k (action_of log z k)) r.0 l.adds;
            last = λ later a b t _. l.untouched origin later (omega arith) t (subst (λ z. k < past_of log origin later z) (sym r.0) (let z = own later b in omega arith));
          })))
          (is.seen e o k s)))
          (λ (s : set.contains d.seen (key e o (k + 1)) ≡ false). inl s) (cases_Bool (set.contains d.seen (key e o (k + 1))))))
          (λ (x : held o ≤ k). ⊎_elim
          (λ (same : o ≡ origin).
          let below : k < to = subst (λ z. k < z) (ap (with_at held origin to) same ∙ top) l.within in
          let late : held origin ≤ k = subst (λ z. held z ≤ k) same x in
          absorbed_new _ _ _ _ (subst (λ z. set.contains d.fresh (key e z (k + 1)) ≡ true) (sym same) (is.adds e k (record {
            from = omega arith;
            below = below;
            adds = subst (λ z. Adds log e z k (action_of log z k)) same l.adds;
            last = λ later a b t _. l.untouched origin later (omega arith) t (subst (λ z. k < past_of log origin later z) (sym same) (let z = own later b in omega arith));
          })))
          (lacks v o k e (subst (λ n. n ≤ k) (sym (ap v same ∙ uncleaned gone held origin stays)) late)))
          (λ (ne : o ≢ origin). absurd (let w = l.within in let y = with_at_other held origin to o ne in omega arith)) (cases_eq o origin)) (cases_lt k (held o));
      shaped = λ y c. ⊎_elim
          (λ (a : (set.contains state y ≡ true) × ((set.contains d.seen y ≡ false) ⊎ (set.contains d.fresh y ≡ true))). p.shaped y a.0)
          (λ (b : (set.contains d.fresh y ≡ true) × (contained v y ≡ false)). is.shaped y b.0)
          (absorbed_from _ _ _ _ (sym (contains-absorbed state v d y) ∙ c));
    }

pub data_empty : (log : History Op) (held : VersionVector) (gone : IdentitySet) → ((i : ℕ) → held i ≡ 0) → AreLiveDots set.empty log held gone
data_empty log held gone none = record {
  live = λ e o k c. absurd (both_ways _ c (contains-empty (slice_cmp nat_cmp) (key e o (k + 1))));
  all = λ e o k g l. absurd (let w = l.within in let z = none o in omega arith);
  shaped = λ y c. absurd (both_ways _ c (contains-empty (slice_cmp nat_cmp) y));
}

pub data_cleaned : (state : Dots) (log : History Op) (held : VersionVector) (gone : IdentitySet) (id : ℕ) → AreLiveDots state log held gone → AreLiveDots (set_cleaned state id) log held (with_member gone id)
data_cleaned state log held gone id p =
    record {
      live = λ e by k c.
          let both = and_parts _ _ (sym (contains-cleaned state id (key e by (k + 1))) ∙ c) in
          let l = p.live e by k both.0 in
          (with_member_other gone id by (λ same. both_ways _ (eq-eqb by id same) (not-true (nat_eq by id) both.1)) ∙ l.0, l.1);
      all = λ e by k q l.
          let apart : by ≢ id = λ same. both_ways _ (with_member_is gone id by same) q in
          let test : nat_eq by id ≡ false = grind rules in
          contains-cleaned state id (key e by (k + 1)) ∙ and_from _ _ (p.all e by k (sym (with_member_other gone id by apart) ∙ q) l) (ap not test);
      shaped = λ y c. p.shaped y (and_parts _ _ (sym (contains-cleaned state id y) ∙ c)).0;
    }

pub data_within : (state : Dots) (log : History Op) (held : VersionVector) (gone : IdentitySet) → AreLiveDots state log held gone → AreDotsWithin state (without gone held)
data_within state log held gone p = record {
  seen = λ y c.
      let f = p.shaped y c in
      let l = p.live f.0 f.1 f.2 (ap (set.contains state) (sym f.3) ∙ c) in
      ap (contained (without gone held)) f.3 ∙ holds (without gone held) f.1 f.2 f.0 (subst (λ n. f.2 < n) (sym (uncleaned gone held f.1 l.0)) l.1.within);
}

pub data_unmentioned : (state : Dots) (log : History Op) (held : VersionVector) (gone : IdentitySet) (id : ℕ) → AreLiveDots state log held gone → without gone held id ≡ 0 → set_mentioned state id ≡ false
data_unmentioned state log held gone id p none = ⊎_elim
    (λ (t : set_mentioned state id ≡ true).
    let f = dot_of_any state (is_of id) t in
    let inside : set.contains state f.0 ≡ true = f.1 in
    let shape = p.shaped f.0 inside in
    let l = p.live shape.0 shape.1 shape.2 (ap (set.contains state) (sym shape.3) ∙ inside) in
    let same : shape.1 ≡ id = eqb-true shape.1 id (ap (is_of id) (sym shape.3) ∙ f.2) in
    let nothing : held shape.1 ≡ 0 = sym (uncleaned gone held shape.1 l.0) ∙ ap (without gone held) same ∙ none in
    absurd (let w = l.1.within in omega arith))
    (λ (t : set_mentioned state id ≡ false). t) (cases_Bool (set_mentioned state id))

pub data_once : (state other : Dots) (log : History Op) (held : VersionVector) (gone : IdentitySet) → AreLiveDots state log held gone → AreLiveDots other log held gone → state ≡ other
data_once state other log held gone p q = same_dots state other (λ y. ⊎_elim
    (λ (a : set.contains state y ≡ true). a ∙ sym (over state other y p q a))
    (λ (a : set.contains state y ≡ false). ⊎_elim
    (λ (b : set.contains other y ≡ true). absurd (both_ways _ (over other state y q p b) a))
    (λ (b : set.contains other y ≡ false). a ∙ sym b) (cases_Bool (set.contains other y))) (cases_Bool (set.contains state y)))
  where
    over : (s t : Dots) (y : List ℕ) → AreLiveDots s log held gone → AreLiveDots t log held gone → set.contains s y ≡ true → set.contains t y ≡ true
    over s t y p' q' c =
        let f = p'.shaped y c in
        let l = p'.live f.0 f.1 f.2 (ap (set.contains s) (sym f.3) ∙ c) in
        ap (set.contains t) f.3 ∙ q'.all f.0 f.1 f.2 l.0 l.1
