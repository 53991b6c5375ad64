use Rattle.std.proofs.Common.{◌≡◌, None, length, slice_index_or, sym, ap, ◌∙◌, arith}
use Rattle.member_node.specs.Changes.{change_at}
use Rattle.member_node.proofs.Sparse.{each_at, each_length}
use Rattle.member_node.proofs.change.Changes.at.Goals as goal

pub returns : goal.returns
returns g c =
    let keys = c.self.inside.keys in
    let cs = c.self.inside.written.items in
    let counted : keys ≡ length c.args.self.now = sym (each_length keys cs) ∙ ap length c.self.view_is in
    c.find_change.ensures ∙ ap (λ cs. change_at cs c.args.index) c.deref.ensures.value
    ∙ sym (ap (λ xs. slice_index_or xs c.args.index None) (sym c.self.view_is) ∙ each_at keys cs c.args.index None (let within = c.requires in omega arith))
