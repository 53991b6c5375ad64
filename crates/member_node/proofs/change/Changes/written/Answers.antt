use Rattle.std.proofs.Common.{◌≡◌, length, sym, ap, ◌∙◌, subst₂}
use Rattle.member_node.specs.Changes.{AreRising, each_of}
use Rattle.member_node.proofs.Sparse.{each_length}
use Rattle.member_node.proofs.change.Changes.written.Goals as goal

pub returns : goal.returns
returns g c =
    let keys = c.self.inside.keys in
    let cs = c.self.inside.written.items in
    let counted : keys ≡ length c.args.self.now = sym (each_length keys cs) ∙ ap length c.self.view_is in
    record {
      rising = subst₂ (AreRising 0) counted (sym c.as_slice.ensures.value) c.self.invariant;
      each = sym c.self.view_is ∙ ap (λ n. each_of n cs) counted ∙ ap (each_of (length c.args.self.now)) (sym c.as_slice.ensures.value);
    }
