use Rattle.std.proofs.Common.{ℕ, List, drop, subst}
use Rattle.member_messages.specs.declared.message.Keyed.{Keyed}
use Rattle.base_places.specs.Places.{GivesOn}
use Rattle.base_places.specs.Lists.{list_in}
use Rattle.member_codec.specs.Numbers.{digest_in}
use Rattle.member_codec.specs.Keyed.{keyed_in}
use Rattle.member_codec.proofs.SameKeyed.{same_keyed}
use Rattle.member_codec.proofs.messages.take_digests.Goals as goal

pub returns-clause-exact : goal.returns-clause-exact
returns-clause-exact c =
    subst (λ (f : List (Keyed (List ℕ)) → List (Keyed (List ℕ))). GivesOn c.args.from.now f c.take.result (list_in (keyed_in digest_in) (drop c.args.place c.args.from.now))) (λ j xs. same_keyed xs j) c.take.ensures.exact
