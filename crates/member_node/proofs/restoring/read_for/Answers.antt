use Rattle.std.proofs.Common.{◌≡◌, true, false, ap, sym, ◌∙◌, subst}
use Rattle.member_node.proofs.Common.{Parts, parts_of}
use Rattle.base_bytes.specs.FieldLaws.{ok_is}
use Rattle.member_node.specs.Restoring.{names_others}
use Rattle.member_node.proofs.Restorings.{names_earlier, no_others}
use Rattle.member_node.proofs.restoring.read_for.Goals as goal

pub returns-then-is_fit-clause-fit : goal.returns-then-is_fit-clause-fit
returns-then-is_fit-clause-fit g c =
    let found = c.in-Ok.ensures.found in
    let fit = c.is_fit.ensures.0 c.if-is_fit.true in
    record {
      durable = c.if-not-state.false;
      kind = fit.0;
      envelope = found.0;
      spelled = found.1;
      names = names_earlier g.T.Replica c.args.id c.args.given (parts_of c.in-Ok.entry) found.0.spelled.marks found.0.spelled.versions fit.1
          (λ i many. g.met.T.SpelledData.mentioned_few (parts_of c.in-Ok.entry).value i found.0.spelled.value many);
    }

pub returns-else-is_fit-clause-unfit : goal.returns-else-is_fit-clause-unfit
returns-else-is_fit-clause-unfit g c = λ e parts is.
    let R = g.T.Replica in
    let read : Parts g.row.T.Denot = parts_of c.in-Ok.entry in
    let same : parts ≡ read = ok_is parts read (c.in-Ok.ensures.only parts is.envelope is.spelled) in
    let none : names_others R.mentioned c.args.id c.args.given read ≡ false =
    subst (λ (p : Parts g.row.T.Denot). names_others R.mentioned c.args.id c.args.given p ≡ false) same (no_others R c.args.id c.args.given parts is.names) in
    let kind = is.kind ∙ ap (λ (p : Parts g.row.T.Denot). R.kind_of p.value) same in
    let yes = c.is_fit.ensures.1 (kind, none) in
    let no : false ≡ true = sym c.if-is_fit.false ∙ yes in
    cc no
