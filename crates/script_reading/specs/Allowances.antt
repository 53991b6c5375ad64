-- Which steps with clients a script may have.
use Rattle.std.specs.Prelude.{Bool, true, false}
use Rattle.script_reading.specs.declared.clients.Clients.{Clients}
use Rattle.script_reading.specs.declared.clients.Clients.TheVariants.{Allowed, Refused, Following}
use Rattle.script_reading.specs.declared.clients.RunStep.{RunStep}
use Rattle.script_reading.specs.declared.clients.RunStep.TheVariants.{Plain, Threads, Subscribe, Unsubscribe}

-- clients may be at work at once
abbrev pub have_threads : Clients → Bool
have_threads Allowed = true
have_threads Refused = false
have_threads Following = false

-- clients may follow keys
abbrev pub follow_keys : Clients → Bool
follow_keys Allowed = false
follow_keys Refused = false
follow_keys Following = true

abbrev pub may_have : Clients → RunStep → Bool
may_have clients (Plain step) = true
may_have clients (Threads at_work) = have_threads clients
may_have clients (Subscribe at client key) = follow_keys clients
may_have clients (Unsubscribe at client key) = follow_keys clients
