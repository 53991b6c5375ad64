use Rattle.std.proofs.Common.{get_or, sym, ap, ◌∙◌, refl, arith, Some}
use Rattle.std.proofs.lemmas.Option.{slice_get-get_or}
use Rattle.script_reading.specs.declared.script.ScriptKey.{ScriptKey}
use Rattle.trace_checker.proofs.Traced.{get_is}
use Rattle.trace_checker.proofs.Judging.{judged, done}
use Rattle.trace_checker.proofs.checking.judge_at.Goals as goal

pub returns-in-Some-clause-rule : goal.returns-in-Some-clause-rule
returns-in-Some-clause-rule c = λ state stand.
    let there = slice_get-get_or c.args.codes.now.items c.args.place c.index_mut-code.result.now (omega (arith, c.requires.within, stand.count)) ∙ ap Some (sym c.index_mut-code.ensures.value) in
    let kind_is = ap (λ (k : ScriptKey). k.kind) (get_is c.args.keys.now c.args.place c.requires.place.0 c.index-keys-place.result c.requires.place.1) in
    sym c.in-Some.is
    ∙ judged c.args.keys.now c.args.codes.now.items state stand c.args.line.now c.args.place c.requires.place c.index_mut-code.result.now there (get_or c.args.keys.now c.args.place c.index-keys-place.result).kind kind_is c.in_ok-broken.broken c.in_ok-broken.ensures

pub returns-in_ok-take-in-None-clause-rule : goal.returns-in_ok-take-in-None-clause-rule
returns-in_ok-take-in-None-clause-rule c = λ state stand.
    let there = slice_get-get_or c.args.codes.now.items c.args.place c.index_mut-code.result.now (omega (arith, c.requires.within, stand.count)) ∙ ap Some (sym c.index_mut-code.ensures.value) in
    let kind_is = ap (λ (k : ScriptKey). k.kind) (get_is c.args.keys.now c.args.place c.requires.place.0 c.index-keys-place.result c.requires.place.1) in
    sym c.in-None.is
    ∙ judged c.args.keys.now c.args.codes.now.items state stand c.args.line.now c.args.place c.requires.place c.index_mut-code.result.now there (get_or c.args.keys.now c.args.place c.index-keys-place.result).kind kind_is c.in_ok-broken.broken c.in_ok-broken.ensures

pub returns-in_ok-take-in-None-clause-taken : goal.returns-in_ok-take-in-None-clause-taken
returns-in_ok-take-in-None-clause-taken c = λ state stand none.
    let there = slice_get-get_or c.args.codes.now.items c.args.place c.index_mut-code.result.now (omega (arith, c.requires.within, stand.count)) ∙ ap Some (sym c.index_mut-code.ensures.value) in
    let kind_is = ap (λ (k : ScriptKey). k.kind) (get_is c.args.keys.now c.args.place c.requires.place.0 c.index-keys-place.result c.requires.place.1) in
    let rule = judged c.args.keys.now c.args.codes.now.items state stand c.args.line.now c.args.place c.requires.place c.index_mut-code.result.now there (get_or c.args.keys.now c.args.place c.index-keys-place.result).kind kind_is c.in_ok-broken.broken c.in_ok-broken.ensures in
    done c.args.keys.now c.args.codes.now.items state stand c.args.line.now c.args.place c.requires.place c.index_mut-code.result.now there c.requires.apart c.requires.line.member (sym rule ∙ c.in-None.is) c.take.new.self _ refl
    c.in_ok-take-in-None.ensures
