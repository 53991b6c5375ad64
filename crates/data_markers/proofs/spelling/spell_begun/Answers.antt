use Rattle.std.proofs.Common.{◌<◌, ◌^◌, arith}
use Rattle.data_markers.proofs.SpellingLoops.{some_member, on_ok}
use Rattle.data_markers.proofs.spelling.spell_begun.Goals as goal

pub returns-clause-sound : goal.returns-clause-sound
returns-clause-sound c =
    let view : c.args.view < 2 ^ 32 = omega arith in
    on_ok c.spell.result (view, c.number.ensures.range, some_member c.args.seen c.spell.ensures.range c.requires)
