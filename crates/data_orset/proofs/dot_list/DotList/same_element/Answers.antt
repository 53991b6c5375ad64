use Rattle.data_orset.proofs.Tables.{same_element}
use Rattle.data_orset.proofs.dot_list.DotList.same_element.Goals as goal

pub returns : goal.returns
returns c =
    same_element c.self.inside.texts.items c.self.inside.spots.items c.args.self.now c.args.index c.args.other c.index.result.now c.index-2.result.now c.self.view_is c.self.invariant c.requires.index c.requires.other
    c.index.ensures c.index-2.ensures
