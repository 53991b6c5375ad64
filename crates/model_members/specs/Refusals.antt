-- Replies by which a member refuses an input.
use Rattle.model_members.specs.Node.{Reply}
use Rattle.model_members.specs.Node.Reply.{UnknownKey, Deleted, WrongKind, TooFew, Refused, NotFromMember, OldView, NotAPeer, NotLeader, NoSuchOp}

-- it refuses an input: an update, a get, a message, a view, a gossip, a tick or a timeout. That a store failed is none of these
abbrev pub IsRefusal : {Shown : Type 0} → Reply Shown → Type 0
IsRefusal UnknownKey = Unit {0}
IsRefusal Deleted = Unit {0}
IsRefusal WrongKind = Unit {0}
IsRefusal TooFew = Unit {0}
IsRefusal (Refused refusal) = Unit {0}
IsRefusal NotFromMember = Unit {0}
IsRefusal OldView = Unit {0}
IsRefusal NotAPeer = Unit {0}
IsRefusal (NotLeader i) = Unit {0}
IsRefusal NoSuchOp = Unit {0}
IsRefusal _ = ⊥
