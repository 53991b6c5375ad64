use Rattle.std.proofs.Common.{[], ◌∷◌, ◌++◌, List, option_copied, subst, ap, ◌∙◌, None, Option}
use Rattle.std.proofs.lemmas.Result.{err_from_is_err_and}
use Rattle.model_history.specs.Texts.{Text}
use Rattle.base_bytes.specs.Fields.{Fails}
use Rattle.base_vectors.specs.IdSets.{members_in}
use Rattle.data_orset.specs.Placing.{Placed}
use Rattle.data_orset.specs.Reading.{element_in, elements_in}
use Rattle.data_orset.proofs.Loops.{elements_step, last_step, dots_step, elements_end, elements_done}
use Rattle.data_orset.proofs.reading.read_elements.Goals as goal

pub returns-in_err-text : goal.returns-in_err-text
returns-in_err-text c =
    let p = err_from_is_err_and c.from_residual.result c.from_residual.ensures.1 in
    rw (p.1, p.2) (elements_end (members_in c.args.barred) c.loop.invariant.0 c.args.count c.loop.counter c.loop.rest.now (elements_in (members_in c.args.barred) c.args.count None c.args.bytes.now)
    c.in_err-text.field-0.0 c.loop-test.true
    (subst (λ (o : Option Text). Fails c.in_err-text.field-0.0 (element_in (members_in c.args.barred) o c.loop.rest.now)) (c.as_ref.ensures.value ∙ c.loop.invariant.2) c.in_err-text.ensures)
    c.loop.invariant.1)

pub loop-preserved : goal.loop-preserved
loop-preserved c =
    let x = c.in_ok-text.ensures.0 in (
      c.loop.invariant.0 ++ x.0 ∷ [],
      elements_step (members_in c.args.barred) c.loop.invariant.0 c.args.count c.loop.counter c.loop.rest.now (elements_in (members_in c.args.barred) c.args.count None c.args.bytes.now)
          (option_copied c.as_ref.result) x c.in_ok-text.text c.in_ok-text.after.now c.loop-test.true c.in_ok-text.ensures.1 (c.as_ref.ensures.value ∙ c.loop.invariant.2) c.in_ok-text.ensures.2.0 c.loop.invariant.1,
      last_step c.loop.invariant.0 x c.in_ok-text.text c.in_ok-text.after.now c.in_ok-text.ensures.2.0,
      dots_step c.loop.invariant.0 x.0 c.loop.all c.read_element.new.all c.loop.invariant.3 c.in_ok-text.ensures.2.1,
    )

pub returns : goal.returns
returns c = (
  (c.loop.invariant.0, c.loop.rest.now),
  elements_done (members_in c.args.barred) c.loop.invariant.0 c.args.count c.loop.counter c.loop.rest.now (elements_in (members_in c.args.barred) c.args.count None c.args.bytes.now)
      c.loop-test.false c.loop.invariant.1,
  ap (λ (ps : List Placed). (ps, c.loop.rest.now)) c.loop.invariant.3,
)
