use Rattle.member_codec.proofs.SentMessages.{same_stands}
use Rattle.member_codec.proofs.sent.stands_as_sent.Goals as goal

pub returns : goal.returns
returns g c = λ kinds logs sent read told same stands. same_stands g.T.Replica.kind_of g.T.Replica.IsDataOf kinds logs sent read told same stands
