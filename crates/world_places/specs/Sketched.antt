-- What is printed of messages of the model.
--     sketched, sketched_post        of a message, and of one with its receiver
use Rattle.std.specs.Prelude.{length}
use Rattle.model_members.specs.Message as model
use Rattle.member_messages.specs.declared.sketch.MessageKind.TheVariants as kind
use Rattle.member_messages.specs.declared.sketch.Sketch.{Sketch}
use Rattle.world_places.specs.declared.sent.SentTo.{SentTo}

-- what is printed of a message
abbrev pub sketched : {Op : Type 0} → model.Message Op → Sketch
sketched (model.Message.Deltas groups entries) = record { kind = kind.Deltas; first = length groups; second = length entries }
sketched (model.Message.Nack keys) = record { kind = kind.Nack; first = length keys; second = 0 }
sketched (model.Message.Status digests) = record { kind = kind.Status; first = length digests; second = 0 }
sketched (model.Message.Gossip entries wants) = record { kind = kind.Gossip; first = length entries; second = length wants }
sketched (model.Message.Write op key entry) = record { kind = kind.Write; first = 0; second = 0 }
sketched (model.Message.WriteAck op) = record { kind = kind.WriteAck; first = 0; second = 0 }
sketched (model.Message.WriteNack op) = record { kind = kind.WriteNack; first = 0; second = 0 }
sketched (model.Message.Read op key) = record { kind = kind.Read; first = 0; second = 0 }
sketched (model.Message.ReadAnswer op key entry) = record { kind = kind.ReadAnswer; first = 0; second = 0 }

abbrev pub sketched_post : {Op : Type 0} → model.Post Op → SentTo
sketched_post post = record { to = post.to; sketch = sketched post.message }
