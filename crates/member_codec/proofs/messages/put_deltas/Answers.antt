use Rattle.member_codec.proofs.messages.put_deltas.Goals as goal

pub returns-clause-readable : goal.returns-clause-readable
returns-clause-readable g c = c.put_both.ensures.sound

pub returns-clause-value : goal.returns-clause-value
returns-clause-value g c = c.put_both.ensures.ok
