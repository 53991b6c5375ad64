use Rattle.std.proofs.Common.{◌∙◌, sym, ap}
use Rattle.model_members.specs.View.{is_member}
use Rattle.script_reading.specs.declared.script.Step.TheVariants as form
use Rattle.world_members.proofs.Answering.{match_err}
use Rattle.world_members.proofs.Settled.{remains_same}
use Rattle.world_members.proofs.Steps.{asks_given, asks_gone, asks_viewless}
use Rattle.world_members.proofs.world.World.ask.Goals as goal

pub returns-in_err-input : goal.returns-in_err-input
returns-in_err-input g c = match_err _ _ c.from_residual.result c.from_residual.ensures.0 (remains_same g.T.SpelledData c.args.self.now (form.Ask c.args.at c.args.ask.now))

pub returns-in-Some : goal.returns-in-Some
returns-in-Some g c = asks_given g.T.SpelledData c.args.self.now c.give.new.self g.met.K.Keeper.tells_alike c.give.result c.args.at c.args.ask.now c.copied.result c.copied.ensures c.in-Some.input (sym c.in_ok-input.ensures ∙ c.in-Some.is) c.give.ensures

pub returns-in-None : goal.returns-in-None
returns-in-None g c =
    asks_viewless g.T.SpelledData c.args.self.now c.args.at c.args.ask.now c.copied.result c.copied.ensures (sym c.in_ok-input.ensures ∙ c.in-None.is) c.last.ensures.sound c.contains.result (c.contains.ensures ∙ ap (λ v. is_member v c.args.at) c.last.ensures.last) c.if-contains.true c.line.result c.line.ensures

pub returns-in-None-2 : goal.returns-in-None-2
returns-in-None-2 g c =
    asks_gone g.T.SpelledData c.args.self.now c.args.at c.args.ask.now c.copied.result c.copied.ensures (sym c.in_ok-input.ensures ∙ c.in-None.is) c.last.ensures.sound c.contains.result (c.contains.ensures ∙ ap (λ v. is_member v c.args.at) c.last.ensures.last) c.if-contains.false c.line-in-None-2.result c.line-in-None-2.ensures
