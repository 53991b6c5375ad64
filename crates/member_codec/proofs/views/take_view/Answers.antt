use Rattle.std.proofs.lemmas.Bool.{eq-eqb}
use Rattle.member_codec.proofs.ViewPlaces.{format_fails, format_unknown, format_read}
use Rattle.member_codec.proofs.views.take_view.Goals as goal

pub returns-then-format-ne1-clause-exact : goal.returns-then-format-ne1-clause-exact
returns-then-format-ne1-clause-exact c = format_unknown c.args.from.now c.args.place c.in-Ok.format c.in-Ok.next c.in-Ok.ensures.exact c.requires c.if-format-ne1.true

pub returns-else-format-ne1-clause-exact : goal.returns-else-format-ne1-clause-exact
returns-else-format-ne1-clause-exact c =
    rw (format_read c.args.from.now c.args.place c.in-Ok.format c.in-Ok.next c.in-Ok.ensures.exact (eq-eqb c.in-Ok.format 1 c.if-format-ne1.false)) c.take_parts.ensures.exact

pub returns-in-Err-clause-exact : goal.returns-in-Err-clause-exact
returns-in-Err-clause-exact c = format_fails c.args.from.now c.args.place c.in-Err.error c.in-Err.ensures.exact
