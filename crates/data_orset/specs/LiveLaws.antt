-- The live records of a history, as its meaning has them, are those that stand in its log; and the recursion of what touches an element.
use Rattle.std.proofs.Common.{◌≡◌, ℕ, zero, suc, ◌+◌, ◌<◌, ◌≤◌, List, [], ◌∷◌, Bool, true, false, ◌&&◌, not, nat_le, Some, rules, arith, refl, ap, sym, ◌∙◌, subst, inl, inr}
use Rattle.std.proofs.lemmas.Bool.{cases_Bool, and_parts, and_from, not-true, eqb-true, eq-eqb}
use Rattle.std.specs.Prelude.{slice_get, ◌==◌}
use Rattle.std.specs.List.{list_any}
use Rattle.std.proofs.lemmas.Map.Keys.{any_passes_from_place}
use Rattle.model_history.proofs.CutLaws.{both_ways}
use Rattle.model_history.specs.Texts.{Text}
use Rattle.model_history.specs.Table.{identities}
use Rattle.model_history.specs.Vector.{VersionVector}
use Rattle.model_history.specs.History.{Action, Record, History, Stamped, cut, stamped_from, all_records, precedes}
use Rattle.model_history.specs.History.Action.{Operation, Prune}
use Rattle.model_history.specs.Cuts.{action_of, past_of, record_at, IsConsistentCut}
use Rattle.model_history.proofs.PartLaws.{take-take}
use Rattle.model_history.proofs.PruneLaws.{IsIn, in_flat_map}
use Rattle.model_history.proofs.Bridge.{cut_is_history, past_cut, in_cut, of_cut}
use Rattle.model_meanings.specs.ObservedRemove.{is_adding_by, is_live_by, touches_by, touches, is_live}
use Rattle.model_meanings.proofs.EquationsOfMeanings.{touches_equation}
use Rattle.model_kinds.specs.SixKinds.{set_operations}
use Rattle.model_kinds.specs.declared.operation.Op.{Op}
use Rattle.data_growing.specs.RecordedLaws.{any_at, belongs}
use Rattle.data_orset.specs.Live.{is_touching, Touches, Adds, IsLive, TouchesBy}

-- RECORDS WITH ORIGINS AND NUMBERS

-- the log's record, with its origin and number
abbrev pub stamped : History Op → ℕ → ℕ → Stamped Op
stamped log i k = record { origin = i; number = 1 + k; action = action_of log i k; past = past_of log i k }

of_stamped : (i n : ℕ) (rs : List (Record Op)) (x : Stamped Op) → IsIn (stamped_from i n rs) x
    → (k : ℕ) × (r : Record Op) × (slice_get rs k ≡ Some r) × (x ≡ record { origin = i; number = n + k; action = r.action; past = r.past })
of_stamped i n [] x h = absurd (cc h.1)
of_stamped i n (r ∷ rs) x (zero, e) =
    let same : record { origin = i; number = n; action = r.action; past = r.past } ≡ x = cc e in
    let here : n ≡ n + 0 = omega arith in
    (zero, r, refl, sym same ∙ λ j. record { origin = i; number = here j; action = r.action; past = r.past })
of_stamped i n (r ∷ rs) x (suc k, e) =
    let h = of_stamped i (suc n) rs x (k, e) in
    let later : suc n + h.0 ≡ n + suc h.0 = omega arith in
    let s : Record Op = h.1 in
    (suc h.0, s, h.2, h.3 ∙ λ j. record { origin = i; number = later j; action = s.action; past = s.past })

module _ (log : History Op) (held : VersionVector) (h : IsConsistentCut log held) where
  -- each record of the cut is one of the log's that is held
  pub all_at : (x : Stamped Op) → IsIn (all_records (cut log held)) x → (i : ℕ) × (k : ℕ) × (k < held i) × (x ≡ stamped log i k)
  all_at x there =
      let row = in_flat_map (λ i. stamped_from i 1 (cut log held i)) identities x there in
      let here = of_stamped row.0 1 (cut log held row.0) x row.2 in
      let is = of_cut log held row.0 here.0 here.1 here.2 in
      (row.0, here.0, is.0, here.3 ∙ λ j. record { origin = row.0; number = 1 + here.0; action = (sym is.1 j).action; past = (sym is.1 j).past })

  pub at_all : (i k : ℕ) → k < held i → IsIn (all_records (cut log held)) (stamped log i k)
  at_all i k l = belongs log held h i k (record_at log i k) (in_cut log held i k l (let m = h.made i in omega arith))

  pub any_held : (t : Stamped Op → Bool) (i k : ℕ) → k < held i → t (stamped log i k) ≡ true → list_any t (all_records (cut log held)) ≡ true
  any_held t i k l e = let at = at_all i k l in any_passes_from_place t (all_records (cut log held)) at.0 (stamped log i k) at.1 e

  pub held_any : (t : Stamped Op → Bool) → list_any t (all_records (cut log held)) ≡ true → (i : ℕ) × (k : ℕ) × (k < held i) × (t (stamped log i k) ≡ true)
  held_any t e =
      let x = any_at t (all_records (cut log held)) e in
      let at = all_at x.0 x.1 in
      (at.0, at.1, at.2, ap t (sym at.3) ∙ x.2)

-- a cut of a cut
pub cut_again : (log : History Op) (held past : VersionVector) → ((i : ℕ) → past i ≤ held i) → cut (cut log held) past ≡ cut log past
cut_again log held past l = λ j i. take-take (log i) (past i) (held i) (l i) j

-- what touches depends on the past alone
touches_of_cut : (T : History Op → Stamped Op → Bool) (e : Text) (log held_log : History Op) (past : VersionVector) (action : Action Op) → cut held_log past ≡ cut log past
    → touches_by set_operations T e held_log past action ≡ touches_by set_operations T e log past action
touches_of_cut T e log held_log past (Operation op) same = refl
touches_of_cut T e log held_log past (Prune r) same = ap (λ (H : History Op). list_any (λ y. (y.origin == r) && is_live_by set_operations T e H y) (all_records H)) same

touching_is : (log : History Op) (e : Text) (held : VersionVector) (i k : ℕ) → IsConsistentCut log held → k < held i → touches set_operations e (cut log held) (stamped log i k) ≡ is_touching log e i k
unfolding is_touching
touching_is log e held i k h l =
    touches_equation set_operations e (cut log held) (cut_is_history log held h) (stamped log i k) (at_all log held h i k l)
    ∙ touches_of_cut (touches set_operations e) e log (cut log held) (past_of log i k) (action_of log i k) (cut_again log held (past_of log i k) (λ j. h.closed i k j l))

-- THE LIVE RECORDS

adding_is : (log : History Op) (e : Text) (T : History Op → Stamped Op → Bool) (H : History Op) (x : Stamped Op) (i k : ℕ) (action : Action Op) → T H x ≡ is_touching log e i k
    → (is_adding_by set_operations T e H x action ≡ true → Adds log e i k action) × (Adds log e i k action → is_adding_by set_operations T e H x action ≡ true)
adding_is log e T H x i k (Operation op) same = ((λ t. t), (λ t. t))
adding_is log e T H x i k (Prune r) same = ((λ t. sym same ∙ t), (λ t. same ∙ t))

in_past : (k n : ℕ) → k < n → nat_le (1 + k) n ≡ true
in_past k n l = grind rules

of_past : (k n : ℕ) → nat_le (1 + k) n ≡ true → k < n
of_past k n e = grind rules

module _ (log : History Op) (e : Text) (held : VersionVector) (i k : ℕ) (h : IsConsistentCut log held) (l : k < held i) where
  -- a record that touches the element and has this one in its past
  abbrev touches_later : Stamped Op → Bool
  touches_later y = precedes (stamped log i k) y && touches set_operations e (cut log held) y

  pub live_in_log : is_live set_operations e (cut log held) (stamped log i k) ≡ true → IsLive log e held i k
  live_in_log t =
      let parts = and_parts _ _ t in record {
        within = l;
        adds = (adding_is log e (touches set_operations e) (cut log held) (stamped log i k) i k (action_of log i k) (touching_is log e held i k h l)).0 parts.0;
        untouched = λ o later m u p. both_ways _
            (any_held log held h touches_later o later m (and_from _ _ (in_past k (past_of log o later i) p) (touching_is log e held o later h m ∙ u)))
            (not-true _ parts.1);
      }

  pub live_in_cut : IsLive log e held i k → is_live set_operations e (cut log held) (stamped log i k) ≡ true
  live_in_cut live =
      and_from _ _ ((adding_is log e (touches set_operations e) (cut log held) (stamped log i k) i k (action_of log i k) (touching_is log e held i k h l)).1 live.adds)
      (ap not (elim (cases_Bool (list_any touches_later (all_records (cut log held)))) as (λ _. list_any touches_later (all_records (cut log held)) ≡ false) [
        | inl t ↦ absurd (
            let y = held_any log held h touches_later t in
            let parts = and_parts _ _ y.3 in
            live.untouched y.0 y.1 y.2 (sym (touching_is log e held y.0 y.1 h y.2) ∙ parts.1) (of_past k (past_of log y.0 y.1 i) parts.0))
        | inr t ↦ t
      ]))

-- live, and of this origin
abbrev live_of : History Op → Text → VersionVector → ℕ → Stamped Op → Bool
live_of log e past r y = (y.origin == r) && is_live set_operations e (cut log past) y

opens_by : (log : History Op) (e : Text) (past : VersionVector) (action : Action Op) → IsConsistentCut log past
    → (touches_by set_operations (touches set_operations e) e log past action ≡ true → TouchesBy log e past action) × (TouchesBy log e past action → touches_by set_operations (touches set_operations e) e log past action ≡ true)
opens_by log e past (Operation op) h = ((λ t. t), (λ t. t))
opens_by log e past (Prune r) h = (
  (λ t.
      let y = held_any log past h (live_of log e past r) t in
      let parts = and_parts _ _ y.3 in
      let whose : y.0 ≡ r = eqb-true y.0 r parts.0 in
      (y.1, subst (λ z. IsLive log e past z y.1) whose (live_in_log log e past y.0 y.1 h y.2 parts.1))),
  (λ u. any_held log past h (live_of log e past r) r u.0 u.1.within (and_from _ _ (eq-eqb r r refl) (live_in_cut log e past r u.0 h u.1.within u.1))),
)

-- what touches, by what is live in the past
pub Touches-opens : (log : History Op) (e : Text) (held : VersionVector) (origin index : ℕ) → IsConsistentCut log held → index < held origin
    → (Touches log e origin index → TouchesBy log e (past_of log origin index) (action_of log origin index)) × (TouchesBy log e (past_of log origin index) (action_of log origin index) → Touches log e origin index)
unfolding is_touching
Touches-opens log e held origin index h l = opens_by log e (past_of log origin index) (action_of log origin index) (past_cut log held origin index h l)
