use Rattle.std.proofs.Common.{◌≡◌, sym, ap, ◌∙◌, arith, if◌then◌else◌, ◌==◌, max, ◌≢◌, ℕ, ◌+◌, ◌<◌, ◌≤◌, refl, subst, inl, inr, Bool, true, false, Result, Ok, Err, OnOk, OnErr, eq-eqb}
use Rattle.std.proofs.lemmas.Bool.{cases_eq, cases_lt}
use Rattle.std.proofs.lemmas.Bool.Decides.{eqb_tells}
use Rattle.member_node.proofs.Common.{identity_limit, number_at, Numbers}
use Rattle.model_history.specs.Table.{with_at}
use Rattle.base_vectors.specs.Vectors.{raised, removed, IsNormal}
use Rattle.base_vectors.proofs.Laws.{number_at-raised_same, number_at-raised_other, number_at-numbers_of, number_at-numbers_of_above, number_at_above}
use Rattle.member_node.proofs.sending.set_flushed.Goals as goal

raised_once : (numbers : Numbers) (id : ℕ) → number_at (raised numbers id (number_at numbers id + 1)) id ≤ number_at numbers id + 1
raised_once numbers id = elim (cases_lt id identity_limit) [
  | inl small ↦ let e = number_at-raised_same numbers id (number_at numbers id + 1) id small refl in omega (arith, e)
  | inr large ↦ let e = number_at-numbers_of_above (with_at (number_at numbers) id (max (number_at numbers id) (number_at numbers id + 1))) id large in omega (arith, e)
]

-- the own number after an update, which may have failed
own_after : {A E X : Type 0} (numbers : X → Numbers) (result : Result A E) (old new : X) (id : ℕ) → OnOk result (numbers new ≡ raised (numbers old) id (number_at (numbers old) id + 1)) → OnErr result (new ≡ old)
    → number_at (numbers new) id ≤ number_at (numbers old) id + 1
own_after numbers (Ok a) old new id ok err = let e = ap (λ n. number_at n id) ok in let h = raised_once (numbers old) id in omega (arith, e, h)
own_after numbers (Err e) old new id ok err = let same = ap (λ x. number_at (numbers x) id) err in omega (arith, same)

-- TWO STEPS THAT SET A NUMBER

not_itself : (i j : ℕ) → j ≢ i → (i == j) ≡ false
not_itself i j other = elim (eqb_tells i j) [ inl is ↦ absurd (other (sym is.1)) | inr isnt ↦ isnt.0 ]

same_test : (i j : ℕ) → (i == j) ≡ (j == i)
same_test i j = elim (cases_eq i j) [ inl e ↦ ap (λ k. k == j) e ∙ ap (λ k. j == k) (sym e) | inr ne ↦ not_itself i j (λ e. ne (sym e)) ∙ sym (not_itself j i ne) ]

either_zero : (b : Bool) (n : ℕ) → n ≡ 0 → (if b then 0 else n) ≡ 0
either_zero true n e = refl
either_zero false n e = e

removed_at : (numbers : Numbers) (id : ℕ) → IsNormal numbers → (i : ℕ) → number_at (removed numbers id) i ≡ (if id == i then 0 else number_at numbers i)
removed_at numbers id normal i = elim (cases_lt i identity_limit) [
  | inl small ↦ number_at-numbers_of (with_at (number_at numbers) id 0) i small ∙ ap (λ b. if b then 0 else number_at numbers i) (same_test i id)
  | inr large ↦
      let none = number_at-numbers_of_above (with_at (number_at numbers) id 0) i large in
      let before = number_at_above numbers normal i large in
      none ∙ sym (either_zero (id == i) (number_at numbers i) before)
]

raised_at : (numbers : Numbers) (id own : ℕ) → id < identity_limit → IsNormal numbers → (i : ℕ) → number_at (raised (removed numbers id) id own) i ≡ (if id == i then own else number_at numbers i)
raised_at numbers id own member normal i = elim (cases_eq i id) [
  | inl same ↦
      let small : i < identity_limit = subst (λ k. k < identity_limit) (sym same) member in
      let none : number_at (removed numbers id) id ≡ 0 = removed_at numbers id normal id ∙ ap (λ b. if b then 0 else number_at numbers id) (eq-eqb id id refl) in
      number_at-raised_same (removed numbers id) id own i small same ∙ ap (λ n. max n own) none ∙ (let e : max 0 own ≡ own = omega arith in e) ∙ sym (ap (λ b. if b then own else number_at numbers i) (ap (λ k. id == k) same ∙ eq-eqb id id refl))
  | inr other ↦ elim (cases_lt i identity_limit) [
    | inl small ↦ number_at-raised_other (removed numbers id) id own i small other ∙ removed_at numbers id normal i ∙ ap (λ b. if b then 0 else number_at numbers i) (not_itself id i other) ∙ sym (ap (λ b. if b then own else number_at numbers i) (not_itself id i other))
    | inr large ↦ number_at-numbers_of_above (with_at (number_at (removed numbers id)) id (max (number_at (removed numbers id) id) own)) i large ∙ sym (number_at_above numbers normal i large) ∙ sym (ap (λ b. if b then own else number_at numbers i) (not_itself id i other))
  ]
]

pub returns-in_ok-raise : goal.returns-in_ok-raise
returns-in_ok-raise c = λ i.
    ap (λ m. number_at m i) (c.in_ok-raise.ensures.ok ∙ ap (λ m. raised m c.args.peer c.args.own) c.without.ensures)
    ∙ raised_at c.args.flushed.now c.args.peer c.args.own c.number-below_limit.ensures.range c.at-normal.ensures.normal i

pub returns-else-own-gt0 : goal.returns-else-own-gt0
returns-else-own-gt0 c = λ i.
    let none : c.args.own ≡ 0 = omega arith in
    ap (λ m. number_at m i) c.without.ensures ∙ removed_at c.args.flushed.now c.args.peer c.at-normal.ensures.normal i ∙ ap (λ n. if c.args.peer == i then n else number_at c.args.flushed.now i) (sym none)
