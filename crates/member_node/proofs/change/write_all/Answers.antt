use Rattle.std.proofs.Common.{◌≡◌, length, slice_index_or, sym, ap, ◌∙◌, subst, arith}
use Rattle.member_node.specs.Changes.{AreRising, changed}
use Rattle.member_node.proofs.Sparse.{each_at, each_length}
use Rattle.member_node.proofs.change.write_all.Goals as goal

pub write_each-requires : goal.write_each-requires
write_each-requires g c =
    let keys = c.changes.inside.keys in
    let cs = c.changes.inside.written.items in
    let counted : keys ≡ length c.args.keys.now = sym (each_length keys cs) ∙ ap length c.changes.view_is ∙ c.requires in
    subst (λ n. AreRising 0 n cs) counted c.changes.invariant

pub returns : goal.returns
returns g c =
    let keys = c.changes.inside.keys in
    let cs = c.changes.inside.written.items in
    let counted : keys ≡ length c.args.keys.now = sym (each_length keys cs) ∙ ap length c.changes.view_is ∙ c.requires in
    record {
      same_length = c.write_each.ensures.same_length;
      each = λ k d e within. c.write_each.ensures.each k d within
          ∙ ap (changed (slice_index_or c.args.keys.now k d)) (sym (each_at keys cs k e (omega arith)) ∙ ap (λ xs. slice_index_or xs k e) c.changes.view_is);
    }
