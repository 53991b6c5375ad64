use Rattle.data_markers.proofs.SpellingLoops.{spells_all}
use Rattle.data_markers.proofs.markers.Markers.spell.Goals as goal

pub returns-clause-ok : goal.returns-clause-ok
returns-clause-ok c = spells_all c.spell_marks.result c.args.self.now c.count.result c.args.into.now.items c.push.new.self.items c.spell_marks.new.into.items c.in_ok-push.ensures.items c.count.ensures c.spell_marks.ensures.ok
