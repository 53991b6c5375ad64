use Rattle.trace_values.proofs.ElementLaws.{put_placed}
use Rattle.trace_values.proofs.sets.place_of.Goals as goal

pub returns-in_ok-insert-in-Err : goal.returns-in_ok-insert-in-Err
returns-in_ok-insert-in-Err c =
    let here = c.unnamed.ensures in
    put_placed c.args.elements.now.items c.as_slice.result.now c.insert.new.self.items c.in-Err.place c.unnamed.result c.args.name.now c.as_slice.ensures.value c.in-Err.ensures.there c.in-Err.ensures.found here.0 here.1 here.2
    c.in_ok-insert-in-Err.ensures.items
