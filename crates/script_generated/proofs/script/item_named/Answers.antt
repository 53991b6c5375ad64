use Rattle.script_generated.proofs.Names.{item_short}
use Rattle.script_generated.proofs.script.item_named.Goals as goal

pub short-requires : goal.short-requires
short-requires c = rw (c.as_str.ensures.value, c.in_ok-name.ensures.ok) (item_short c.args.k c.requires)
