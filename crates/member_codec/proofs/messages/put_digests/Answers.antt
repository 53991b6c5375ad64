use Rattle.std.proofs.Common.{◌≡◌, ℕ, List, ◌++◌, subst}
use Rattle.std.specs.Prelude.{OnOk}
use Rattle.member_messages.specs.declared.message.Keyed.{Keyed}
use Rattle.base_places.specs.Lists.{AreSound, list_spelled}
use Rattle.member_codec.specs.Numbers.{IsDigest, digest_spelled}
use Rattle.member_codec.specs.Keyed.{IsSoundKeyed, keyed_spelled}
use Rattle.member_codec.proofs.SameKeyed.{same_keyed}
use Rattle.member_codec.proofs.messages.put_digests.Goals as goal

pub returns-clause-readable : goal.returns-clause-readable
returns-clause-readable c = subst (λ (xs : List (Keyed (List ℕ))). OnOk c.put.result (AreSound (IsSoundKeyed IsDigest) xs)) (same_keyed c.args.digests.now) c.put.ensures.sound

pub returns-clause-value : goal.returns-clause-value
returns-clause-value c =
    subst (λ (xs : List (Keyed (List ℕ))). OnOk c.put.result (c.put.new.into.items ≡ c.args.into.now.items ++ list_spelled (keyed_spelled digest_spelled) xs)) (same_keyed c.args.digests.now) c.put.ensures.ok
