use Rattle.model_members.specs.Entry.{empty_entry}
use Rattle.std.proofs.Common.{refl, sym, ap, ◌∙◌, subst}
use Rattle.member_node.proofs.Common.{StandsFor, parts_of}
use Rattle.member_node.proofs.key.KeyState.new.Goals as goal

pub returns-clause-fresh : goal.returns-clause-fresh
returns-clause-fresh g c =
    let R = g.T.Replica in
    let kind = c.args.decl.now.kind in
    record {
      kind_is = ap (λ entry. R.kind_of entry.value) c.new-2.ensures ∙ ap R.kind_of (c.new.ensures.value ∙ c.in_ok-value.ensures) ∙ g.met.T.Replica.kind_empty kind;
      versions = ap (λ entry. (parts_of entry).versions) c.new-2.ensures ∙ c.new.ensures.versions;
      marks = ap (λ entry. (parts_of entry).marks) c.new-2.ensures ∙ c.new.ensures.markers;
      log = c.new-3.ensures.value;
      sent = c.new-4.ensures;
      image = λ log histories. subst (λ entry. StandsFor R.IsDataOf (parts_of entry) log empty_entry) (sym c.new-2.ensures) (c.new.ensures.image log histories);
      logged = λ log histories. c.new-3.ensures.image log empty_entry histories (c.new.ensures.image log histories).taken refl;
    }

pub returns-clause-declared : goal.returns-clause-declared
returns-clause-declared g c =
    let decl = c.args.decl.now in
    ap (λ name. record { name = name; kind = decl.kind; durable = decl.durable }) c.copied-name.ensures
