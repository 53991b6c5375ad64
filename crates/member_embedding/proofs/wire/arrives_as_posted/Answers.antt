use Rattle.std.proofs.Common.{ℕ, List, [], ◌++◌, refl, sym, ap, ◌∙◌}
use Rattle.member_codec.specs.Messages.{message_parts}
use Rattle.member_node.proofs.Takings.{told_whole}
use Rattle.member_embedding.proofs.wire.arrives_as_posted.Goals as goal

pub returns-clause-stands : goal.returns-clause-stands
returns-clause-stands g c = λ kinds logs posted read told bytes was is stands.
    let same = c.one_spelling.ensures (message_parts posted) (message_parts read) [] [] was.0 is.0 (ap (λ (t : List ℕ). t ++ []) (sym was.1 ∙ is.1)) in
    c.stands_as_sent.ensures kinds logs posted read told same.0 stands

pub returns-clause-taken : goal.returns-clause-taken
returns-clause-taken g c = λ kinds logs keys from posted read told bytes was is stands. record {
  told = told;
  is = refl;
  message_stands = told_whole kinds logs keys read told (returns-clause-stands g c kinds logs posted read told bytes was is stands);
}
