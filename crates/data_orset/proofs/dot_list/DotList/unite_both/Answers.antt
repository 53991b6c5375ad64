use Rattle.std.proofs.Common.{List, true, refl, ap, sym, subst, ◌∙◌, arith}
use Rattle.std.proofs.lemmas.Result.{MatchResult-from_err}
use Rattle.model_history.specs.Texts.{Text}
use Rattle.data_orset.specs.Placing.{Placed, AreDots}
use Rattle.data_orset.specs.Keeping.{AreMerged}
use Rattle.data_orset.specs.Spots.{dots_in}
use Rattle.data_orset.proofs.dot_list.DotList.unite_both.Goals as goal

pub returns-in_err-reserve-clause-second_dots : goal.returns-in_err-reserve-clause-second_dots
returns-in_err-reserve-clause-second_dots c =
    let same = ap (λ (texts : List Text). dots_in texts c.second.inside.spots.items) c.in_err-reserve.ensures.items ∙ c.second.view_is in
    subst AreDots (sym same) c.requires.second

pub returns-in_err-reserve-clause-err : goal.returns-in_err-reserve-clause-err
returns-in_err-reserve-clause-err c =
    let same = ap (λ (texts : List Text). dots_in texts c.second.inside.spots.items) c.in_err-reserve.ensures.items ∙ c.second.view_is in
    MatchResult-from_err c.from_residual.result _ _ c.from_residual.ensures.0 (λ _. (refl, same))

pub returns-in_err-reserve-2-clause-second_dots : goal.returns-in_err-reserve-2-clause-second_dots
returns-in_err-reserve-2-clause-second_dots c =
    let same = ap (λ (texts : List Text). dots_in texts c.reserve-2.new.self.items) c.in_ok-reserve.ensures.items ∙ ap (dots_in c.second.inside.texts.items) c.in_err-reserve-2.ensures.items ∙ c.second.view_is in
    subst AreDots (sym same) c.requires.second

pub returns-in_err-reserve-2-clause-err : goal.returns-in_err-reserve-2-clause-err
returns-in_err-reserve-2-clause-err c =
    let same = ap (λ (texts : List Text). dots_in texts c.reserve-2.new.self.items) c.in_ok-reserve.ensures.items ∙ ap (dots_in c.second.inside.texts.items) c.in_err-reserve-2.ensures.items ∙ c.second.view_is in
    MatchResult-from_err c.from_residual-in_err-reserve-2.result _ _ c.from_residual-in_err-reserve-2.ensures.0 (λ _. (refl, same))

pub returns-in_err-put_all-clause-first_dots : goal.returns-in_err-put_all-clause-first_dots
returns-in_err-put_all-clause-first_dots c = c.in_err-put_all.ensures.dots

pub returns-in_err-put_all-clause-second_dots : goal.returns-in_err-put_all-clause-second_dots
returns-in_err-put_all-clause-second_dots c =
    let same = ap (λ (texts : List Text). dots_in texts c.reserve-2.new.self.items) c.in_ok-reserve.ensures.items ∙ ap (dots_in c.second.inside.texts.items) c.in_ok-reserve-2.ensures.items ∙ c.second.view_is in
    subst AreDots (sym same) c.requires.second

pub returns-in_err-put_all-clause-err : goal.returns-in_err-put_all-clause-err
returns-in_err-put_all-clause-err c =
    let same = ap (λ (texts : List Text). dots_in texts c.reserve-2.new.self.items) c.in_ok-reserve.ensures.items ∙ ap (dots_in c.second.inside.texts.items) c.in_ok-reserve-2.ensures.items ∙ c.second.view_is in
    MatchResult-from_err c.from_residual-in_err-put_all.result _ _ c.from_residual-in_err-put_all.ensures.0 (λ _. (c.in_err-put_all.ensures.err ∙ c.first.view_is, same))

pub returns-in_err-put_all-2-clause-err : goal.returns-in_err-put_all-2-clause-err
returns-in_err-put_all-2-clause-err c =
    absurd (cc (c.in_err-put_all-2.ensures.fits (omega (arith, c.in_ok-reserve.ensures.ok, c.len.ensures), omega (arith, c.in_ok-reserve-2.ensures.ok, c.len-2.ensures))))

pub returns-clause-first : goal.returns-clause-first
returns-clause-first c =
    subst (λ (ps : List Placed). AreMerged true (λ _. true) (λ _. true) ps c.args.to_first.now (dots_in c.put_all.new.texts.items c.put_all.new.spots.items)) c.first.view_is c.in_ok-put_all.ensures.ok

pub returns-clause-second : goal.returns-clause-second
returns-clause-second c =
    let same = ap (λ (texts : List Text). dots_in texts c.reserve-2.new.self.items) c.in_ok-reserve.ensures.items ∙ ap (dots_in c.second.inside.texts.items) c.in_ok-reserve-2.ensures.items ∙ c.second.view_is in
    subst (λ (ps : List Placed). AreMerged true (λ _. true) (λ _. true) ps c.args.to_second.now (dots_in c.put_all-2.new.texts.items c.put_all-2.new.spots.items)) same c.in_ok-put_all-2.ensures.ok
