use Rattle.std.proofs.Common.{◌≡◌, ◌<◌, true, refl, subst, arith, inl, inr}
use Rattle.std.proofs.lemmas.Bool.{cases_lt}
use Rattle.base_vectors.specs.Vectors.{number_at}
use Rattle.trace_checker.specs.Holds.{HoldsLast}
use Rattle.trace_checker.proofs.rules.holds_pasts.Goals as goal
use Rattle.trace_checker.proofs.rules.holds_pasts.Goals.{in-Some+else-not-is_held, in_default}

pub loop-number-preserved : goal.loop-number-preserved
loop-number-preserved c = λ j small. elim (cases_lt j c.loop-number.number) [
  | inl below ↦ c.loop-number.invariant j below
  | inr last ↦ elim c.match-new.branch [
    | in-Some+else-not-is_held w ↦
        (let holds : w.is_held.result ≡ true = grind arith in
        let same : w.in-Some.id ≡ j = omega (arith, small, last, w.in-Some.ensures.value) in
        subst (λ i. number_at c.args.mine.now i < number_at c.args.known.now i → HoldsLast c.args.rows.now c.args.known.now i) same (w.is_held.ensures.0 holds))
    | in_default w ↦ absurd (let no = w.in_default.ensures.variant.1 (omega (arith, c.loop-number-test.true, c.limit-number-end.ensures.range)) in cc)
  ]
]

pub returns : goal.returns
returns c = (
  λ e j small risen. elim (cases_lt j c.loop-number.number) [
    | inl below ↦ c.loop-number.invariant j below risen
    | inr far ↦ absurd (let none = c.limit-number-end.ensures.above j (omega (arith, far, c.loop-number-test.false)) in omega (arith, none, risen))
  ],
  λ h. refl,
)
