use Rattle.script_generated.proofs.Names.{note_short}
use Rattle.script_generated.proofs.script.note.Goals as goal

pub short-requires : goal.short-requires
short-requires c = rw (c.as_str.ensures.value, c.in_ok-text.ensures.ok) (note_short c.args.i c.requires)
