-- The steps by which clients follow keys.
use Rattle.std.specs.Prelude.{ℕ, ◌-◌, ◌^◌, List, [], ◌∷◌, codes, Result, Ok, Err}
use Rattle.serde_json.specs.Data.{Data}
use Rattle.serde_json.specs.Find.{get}
use Rattle.script_reading.specs.declared.clients.Clients.{Clients}
use Rattle.script_reading.specs.declared.clients.Clients.TheVariants.{Allowed, Refused, Following}
use Rattle.script_reading.specs.declared.clients.RunStep.{RunStep}
use Rattle.script_reading.specs.declared.clients.RunStep.TheVariants.{Subscribe, Unsubscribe}
use Rattle.script_reading.specs.declared.fault.Rule.{Rule}
use Rattle.script_reading.specs.Fields.{rule, ◌>>=◌, whole_of, identity_of, key_of, names_of}

-- the number of a client
abbrev pub client_of : Rule → Data → Result ℕ Rule
client_of broken d = whole_of broken 0 (2 ^ 32 - 1) (get (codes "client") d)

-- a member, a client, and the key that it follows there, or follows no more
unfoldable pub request_of : ℕ → Data → Result (ℕ × ℕ × List ℕ) Rule
request_of step d = do
  names ← names_of step (codes "at" ∷ codes "client" ∷ codes "do" ∷ codes "key" ∷ []) [] d
  at ← identity_of step (get (codes "at") d)
  key ← key_of (rule step 8) (get (codes "key") d)
  client ← client_of (rule step 15) d
  Ok (at, client, key)

-- in a script whose clients follow no keys the step has no form
abbrev pub allowed_of : Clients → ℕ → Data → Result (ℕ × ℕ × List ℕ) Rule
allowed_of Following step d = request_of step d
allowed_of Allowed step d = Err (rule step 5)
allowed_of Refused step d = Err (rule step 5)

abbrev pub subscribe_of : Clients → ℕ → Data → Result RunStep Rule
subscribe_of clients step d = allowed_of clients step d >>= (λ r. Ok (Subscribe r.0 r.1 r.2))

abbrev pub unsubscribe_of : Clients → ℕ → Data → Result RunStep Rule
unsubscribe_of clients step d = allowed_of clients step d >>= (λ r. Ok (Unsubscribe r.0 r.1 r.2))
