use Rattle.std.proofs.Common.{◌≡◌, ℕ, List, ◌++◌, subst}
use Rattle.std.specs.Prelude.{OnOk, map}
use Rattle.base_bytes.specs.Spelling.{IsText, text_spelled}
use Rattle.data_envelope.specs.Words.{parts_of}
use Rattle.data_codec.specs.Envelopes.{envelope_spelled, IsEnvelope}
use Rattle.base_places.specs.Lists.{AreSound, list_spelled}
use Rattle.member_codec.specs.Keyed.{keyed_as, IsSoundKeyed, keyed_spelled}
use Rattle.member_codec.proofs.SameKeyed.{same_items}
use Rattle.member_codec.proofs.messages.put_gossip.Goals as goal

pub returns-clause-readable : goal.returns-clause-readable
returns-clause-readable g c =
    subst (λ (xs : List (List ℕ)). OnOk c.put_both.result (AreSound (IsSoundKeyed (IsEnvelope g.T.SpelledData.IsSound g.T.Replica.mentioned)) (map (keyed_as parts_of) c.args.entries.now) × AreSound IsText xs)) (same_items c.args.wants.now) c.put_both.ensures.sound

pub returns-clause-value : goal.returns-clause-value
returns-clause-value g c =
    subst
    (λ (xs : List (List ℕ)). OnOk c.put_both.result (c.put_both.new.into.items
    ≡ c.args.into.now.items ++ (list_spelled (keyed_spelled (envelope_spelled g.T.SpelledData.byte_of g.T.SpelledData.spelled)) (map (keyed_as parts_of) c.args.entries.now) ++ list_spelled text_spelled xs)))
    (same_items c.args.wants.now) c.put_both.ensures.ok
