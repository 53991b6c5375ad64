-- What bytes spell is within the bounds that the headline asks for: as many members, and places of a script.
use Rattle.std.proofs.Common.{◌≡◌, ℕ, ◌+◌, ◌≤◌, List, [], ◌∷◌, ◌++◌, length, map, codes, Bool, true, false, nat_le, Option, Some, None, Result, Ok, Err, refl, sym, subst, arith}
use Rattle.std.specs.Prelude.{if◌then◌else◌, ◌&&◌, option_and_then}
use Rattle.std.specs.List.{AllByRecursion}
use Rattle.std.specs.Str.{bytes_eq}
use Rattle.std.proofs.lemmas.Bool.{leb-true}
use Rattle.model_members.specs.Script.{IsStep}
use Rattle.serde_json.specs.Data.{Data, Items, no_items, item}
use Rattle.serde_json.specs.Find.{get, as_number, as_u64}
use Rattle.theorem_sections.specs.Runs.{IsRunStep}
use Rattle.script_reading.specs.declared.clients.Clients.{Clients}
use Rattle.script_reading.specs.declared.clients.Clients.TheVariants.{Allowed, Refused, Following}
use Rattle.script_reading.specs.declared.clients.RunStep.{RunStep}
use Rattle.script_reading.specs.declared.fault.Rule.{Rule}
use Rattle.script_reading.specs.declared.script.Script.{Script}
use Rattle.script_reading.specs.declared.script.Step.{Step}
use Rattle.script_reading.specs.Allowances.{may_have}
use Rattle.script_reading.specs.Fields.{rule, ◌>>=◌, within, guard, required, has_names, names_of, identity_of, place_of, number_of, whole_of, list_of, if_given, text_of, key_of}
use Rattle.script_reading.specs.Forms.{update_of, get_of, flush_of, gossip_of, deliver_of, lose_of, round_of, tick_of, timeout_of, remove_of, join_of, restart_of, install_of, settle_of, step_by, plain_of}
use Rattle.script_reading.specs.Followers.{allowed_of, subscribe_of, unsubscribe_of}
use Rattle.script_reading.specs.Clients.{threads_of}
use Rattle.script_reading.specs.Levels.{level_of}
use Rattle.script_reading.specs.Operations.{op_named, update_names, op_of}
use Rattle.script_reading.specs.declared.ask.Ask.TheVariants.{Update, Get, Flush, Gossip, Tick, Install}
use Rattle.script_reading.specs.declared.script.Step.TheVariants.{Ask, Deliver, Lose, Round, Timeout, Remove, Join, Restart, Settle}
use Rattle.script_reading.specs.declared.clients.RunStep.TheVariants.{Plain, Threads, Subscribe, Unsubscribe}
use Rattle.script_reading.specs.Meant.{step_of as meant}
use Rattle.script_reading.specs.Reading.{form_by, form_of, threads_step_of, plain_step_of, if_allowed, step_of, steps_after, keys_after, step_list_of, script_of, Spells}
use Rattle.world_members.specs.Threads.{run_step_of}

-- what is read is so, if anything is
abbrev Reads : {X : Type 0} → (X → Type 0) → Result X Rule → Type 0
Reads P (Ok x) = P x
Reads P (Err broken) = Unit {0}

bound : {A B : Type 0} (P : B → Type 0) (x : Result A Rule) (f : A → Result B Rule) → ((a : A) → x ≡ Ok a → Reads P (f a)) → Reads P (x >>= f)
bound P (Ok a) f h = h a refl
bound P (Err broken) f h = tt

either : {X : Type 0} (P : X → Type 0) (b : Bool) (x y : Result X Rule) → Reads P x → Reads P y → Reads P (if b then x else y)
either P true x y h k = h
either P false x y h k = k

known : {X : Type 0} (P : X → Type 0) (r : Result X Rule) (x : X) → r ≡ Ok x → Reads P r → P x
known P r x e h = subst (Reads P) e h

-- NUMBERS

abbrev IsBetween : ℕ → ℕ → ℕ → Type 0
IsBetween low high n = (low ≤ n) × (n ≤ high)

between : (broken : Rule) (low high : ℕ) (o : Option ℕ) → Reads (IsBetween low high) (within broken low high o)
between broken low high None = tt
between broken low high (Some n) = go (nat_le low n) refl (nat_le n high) refl
  where
    go : (b : Bool) → nat_le low n ≡ b → (c : Bool) → nat_le n high ≡ c → Reads (IsBetween low high) (if b && c then Ok n else Err broken)
    go true above true below = (leb-true low n above, leb-true n high below)
    go true above false below = tt
    go false above c below = tt

-- STEPS

abbrev Fits : Step → Type 0
Fits step = IsStep (meant step)

module _ (more : List (List ℕ)) (n : ℕ) (d : Data) where
  update_fits : Reads Fits (update_of more n d)
  unfolding update_of
  update_fits =
      bound Fits (text_of (rule n 5) (get (codes "op") d)) (λ name. required (rule n 5) (op_named name) >>= (λ form. names_of n (update_names form) (codes "level" ∷ more) d >>= (λ names. identity_of n (get (codes "at") d) >>= (λ at. key_of (rule n 8) (get (codes "key") d) >>= (λ key. op_of n form d >>= (λ op. level_of n (get (codes "level") d) >>= (λ level. Ok (Ask at (Update key op level)))))))))
      (λ name _. bound Fits (required (rule n 5) (op_named name)) (λ form. names_of n (update_names form) (codes "level" ∷ more) d >>= (λ names. identity_of n (get (codes "at") d) >>= (λ at. key_of (rule n 8) (get (codes "key") d) >>= (λ key. op_of n form d >>= (λ op. level_of n (get (codes "level") d) >>= (λ level. Ok (Ask at (Update key op level))))))))
      (λ form _. bound Fits (names_of n (update_names form) (codes "level" ∷ more) d) (λ names. identity_of n (get (codes "at") d) >>= (λ at. key_of (rule n 8) (get (codes "key") d) >>= (λ key. op_of n form d >>= (λ op. level_of n (get (codes "level") d) >>= (λ level. Ok (Ask at (Update key op level)))))))
      (λ names _. bound Fits (identity_of n (get (codes "at") d)) (λ at. key_of (rule n 8) (get (codes "key") d) >>= (λ key. op_of n form d >>= (λ op. level_of n (get (codes "level") d) >>= (λ level. Ok (Ask at (Update key op level))))))
      (λ at _. bound Fits (key_of (rule n 8) (get (codes "key") d)) (λ key. op_of n form d >>= (λ op. level_of n (get (codes "level") d) >>= (λ level. Ok (Ask at (Update key op level)))))
      (λ key _. bound Fits (op_of n form d) (λ op. level_of n (get (codes "level") d) >>= (λ level. Ok (Ask at (Update key op level))))
      (λ op _. bound Fits (level_of n (get (codes "level") d)) (λ level. Ok (Ask at (Update key op level)))
      (λ level _. tt)))))))

  get_fits : Reads Fits (get_of more n d)
  unfolding get_of
  get_fits =
      bound Fits (names_of n (codes "at" ∷ codes "do" ∷ codes "key" ∷ []) (codes "level" ∷ more) d) (λ names. identity_of n (get (codes "at") d) >>= (λ at. key_of (rule n 8) (get (codes "key") d) >>= (λ key. level_of n (get (codes "level") d) >>= (λ level. Ok (Ask at (Get key level))))))
      (λ names _. bound Fits (identity_of n (get (codes "at") d)) (λ at. key_of (rule n 8) (get (codes "key") d) >>= (λ key. level_of n (get (codes "level") d) >>= (λ level. Ok (Ask at (Get key level)))))
      (λ at _. bound Fits (key_of (rule n 8) (get (codes "key") d)) (λ key. level_of n (get (codes "level") d) >>= (λ level. Ok (Ask at (Get key level))))
      (λ key _. bound Fits (level_of n (get (codes "level") d)) (λ level. Ok (Ask at (Get key level)))
      (λ level _. tt))))

  flush_fits : Reads Fits (flush_of more n d)
  unfolding flush_of
  flush_fits =
      bound Fits (names_of n (codes "at" ∷ codes "do" ∷ []) more d) (λ names. identity_of n (get (codes "at") d) >>= (λ at. Ok (Ask at Flush)))
      (λ names _. bound Fits (identity_of n (get (codes "at") d)) (λ at. Ok (Ask at Flush))
      (λ at _. tt))

  gossip_fits : Reads Fits (gossip_of more n d)
  unfolding gossip_of
  gossip_fits =
      bound Fits (names_of n (codes "at" ∷ codes "do" ∷ codes "to" ∷ []) more d) (λ names. identity_of n (get (codes "at") d) >>= (λ at. identity_of n (get (codes "to") d) >>= (λ to. Ok (Ask at (Gossip to)))))
      (λ names _. bound Fits (identity_of n (get (codes "at") d)) (λ at. identity_of n (get (codes "to") d) >>= (λ to. Ok (Ask at (Gossip to))))
      (λ at _. bound Fits (identity_of n (get (codes "to") d)) (λ to. Ok (Ask at (Gossip to)))
      (λ to _. tt)))

  deliver_fits : Reads Fits (deliver_of n d)
  unfolding deliver_of
  deliver_fits =
      bound Fits (names_of n (codes "do" ∷ codes "from" ∷ codes "to" ∷ []) (codes "index" ∷ []) d) (λ names. identity_of n (get (codes "from") d) >>= (λ from. identity_of n (get (codes "to") d) >>= (λ to. if_given (number_of n) (get (codes "index") d) >>= (λ index. Ok (Deliver from to index)))))
      (λ names _. bound Fits (identity_of n (get (codes "from") d)) (λ from. identity_of n (get (codes "to") d) >>= (λ to. if_given (number_of n) (get (codes "index") d) >>= (λ index. Ok (Deliver from to index))))
      (λ from _. bound Fits (identity_of n (get (codes "to") d)) (λ to. if_given (number_of n) (get (codes "index") d) >>= (λ index. Ok (Deliver from to index)))
      (λ to _. bound Fits (if_given (number_of n) (get (codes "index") d)) (λ index. Ok (Deliver from to index))
      (λ index _. tt))))

  lose_fits : Reads Fits (lose_of n d)
  unfolding lose_of
  lose_fits =
      bound Fits (names_of n (codes "do" ∷ codes "from" ∷ codes "to" ∷ []) [] d) (λ names. identity_of n (get (codes "from") d) >>= (λ from. identity_of n (get (codes "to") d) >>= (λ to. Ok (Lose from to))))
      (λ names _. bound Fits (identity_of n (get (codes "from") d)) (λ from. identity_of n (get (codes "to") d) >>= (λ to. Ok (Lose from to)))
      (λ from _. bound Fits (identity_of n (get (codes "to") d)) (λ to. Ok (Lose from to))
      (λ to _. tt)))

  round_fits : Reads Fits (round_of n d)
  unfolding round_of
  round_fits =
      bound Fits (names_of n (codes "do" ∷ []) [] d) (λ names. Ok Round)
      (λ names _. tt)

  tick_fits : Reads Fits (tick_of more n d)
  unfolding tick_of
  tick_fits =
      bound Fits (names_of n (codes "at" ∷ codes "do" ∷ []) more d) (λ names. identity_of n (get (codes "at") d) >>= (λ at. Ok (Ask at Tick)))
      (λ names _. bound Fits (identity_of n (get (codes "at") d)) (λ at. Ok (Ask at Tick))
      (λ at _. tt))

  timeout_fits : Reads Fits (timeout_of n d)
  unfolding timeout_of
  timeout_fits =
      bound Fits (names_of n (codes "at" ∷ codes "do" ∷ codes "op" ∷ []) [] d) (λ names. identity_of n (get (codes "at") d) >>= (λ at. number_of n (get (codes "op") d) >>= (λ op. Ok (Timeout at op))))
      (λ names _. bound Fits (identity_of n (get (codes "at") d)) (λ at. number_of n (get (codes "op") d) >>= (λ op. Ok (Timeout at op)))
      (λ at _. bound Fits (number_of n (get (codes "op") d)) (λ op. Ok (Timeout at op))
      (λ op _. tt)))

  remove_fits : Reads Fits (remove_of n d)
  unfolding remove_of
  remove_fits =
      bound Fits (names_of n (codes "do" ∷ codes "id" ∷ []) [] d) (λ names. identity_of n (get (codes "id") d) >>= (λ id. Ok (Remove id)))
      (λ names _. bound Fits (identity_of n (get (codes "id") d)) (λ id. Ok (Remove id))
      (λ id _. tt))

  join_fits : Reads Fits (join_of n d)
  unfolding join_of
  join_fits =
      bound Fits (names_of n (codes "do" ∷ codes "place" ∷ []) [] d) (λ names. place_of n (get (codes "place") d) >>= (λ place. Ok (Join place)))
      (λ names _. bound Fits (place_of n (get (codes "place") d)) (λ place. Ok (Join place))
      (λ place read. let its : IsBetween 0 7 place = known (IsBetween 0 7) (place_of n (get (codes "place") d)) place read (between (rule n 7) 0 7 (option_and_then as_u64 (option_and_then as_number (get (codes "place") d)))) in omega (arith, its.1)))

  restart_fits : Reads Fits (restart_of n d)
  unfolding restart_of
  restart_fits =
      bound Fits (names_of n (codes "do" ∷ codes "id" ∷ []) [] d) (λ names. identity_of n (get (codes "id") d) >>= (λ id. Ok (Restart id)))
      (λ names _. bound Fits (identity_of n (get (codes "id") d)) (λ id. Ok (Restart id))
      (λ id _. tt))

  install_fits : Reads Fits (install_of more n d)
  unfolding install_of
  install_fits =
      bound Fits (names_of n (codes "at" ∷ codes "do" ∷ codes "view" ∷ []) more d) (λ names. identity_of n (get (codes "at") d) >>= (λ at. number_of n (get (codes "view") d) >>= (λ view. Ok (Ask at (Install view)))))
      (λ names _. bound Fits (identity_of n (get (codes "at") d)) (λ at. number_of n (get (codes "view") d) >>= (λ view. Ok (Ask at (Install view))))
      (λ at _. bound Fits (number_of n (get (codes "view") d)) (λ view. Ok (Ask at (Install view)))
      (λ view _. tt)))

  settle_fits : Reads Fits (settle_of n d)
  unfolding settle_of
  settle_fits =
      bound Fits (names_of n (codes "do" ∷ []) [] d) (λ names. Ok Settle)
      (λ names _. tt)

  named_fits : (name : List ℕ) → Reads Fits (step_by more n d name)
  named_fits name =
      either Fits (bytes_eq name (codes "update")) (update_of more n d) (if bytes_eq name (codes "get") then get_of more n d else (if bytes_eq name (codes "flush") then flush_of more n d else (if bytes_eq name (codes "gossip") then gossip_of more n d else (if bytes_eq name (codes "deliver") then deliver_of n d else (if bytes_eq name (codes "lose") then lose_of n d else (if bytes_eq name (codes "round") then round_of n d else (if bytes_eq name (codes "tick") then tick_of more n d else (if bytes_eq name (codes "timeout") then timeout_of n d else (if bytes_eq name (codes "remove") then remove_of n d else (if bytes_eq name (codes "join") then join_of n d else (if bytes_eq name (codes "restart") then restart_of n d else (if bytes_eq name (codes "install") then install_of more n d else (if bytes_eq name (codes "settle") then settle_of n d else (Err (rule n 5))))))))))))))) update_fits (
      either Fits (bytes_eq name (codes "get")) (get_of more n d) (if bytes_eq name (codes "flush") then flush_of more n d else (if bytes_eq name (codes "gossip") then gossip_of more n d else (if bytes_eq name (codes "deliver") then deliver_of n d else (if bytes_eq name (codes "lose") then lose_of n d else (if bytes_eq name (codes "round") then round_of n d else (if bytes_eq name (codes "tick") then tick_of more n d else (if bytes_eq name (codes "timeout") then timeout_of n d else (if bytes_eq name (codes "remove") then remove_of n d else (if bytes_eq name (codes "join") then join_of n d else (if bytes_eq name (codes "restart") then restart_of n d else (if bytes_eq name (codes "install") then install_of more n d else (if bytes_eq name (codes "settle") then settle_of n d else (Err (rule n 5)))))))))))))) get_fits (
      either Fits (bytes_eq name (codes "flush")) (flush_of more n d) (if bytes_eq name (codes "gossip") then gossip_of more n d else (if bytes_eq name (codes "deliver") then deliver_of n d else (if bytes_eq name (codes "lose") then lose_of n d else (if bytes_eq name (codes "round") then round_of n d else (if bytes_eq name (codes "tick") then tick_of more n d else (if bytes_eq name (codes "timeout") then timeout_of n d else (if bytes_eq name (codes "remove") then remove_of n d else (if bytes_eq name (codes "join") then join_of n d else (if bytes_eq name (codes "restart") then restart_of n d else (if bytes_eq name (codes "install") then install_of more n d else (if bytes_eq name (codes "settle") then settle_of n d else (Err (rule n 5))))))))))))) flush_fits (
      either Fits (bytes_eq name (codes "gossip")) (gossip_of more n d) (if bytes_eq name (codes "deliver") then deliver_of n d else (if bytes_eq name (codes "lose") then lose_of n d else (if bytes_eq name (codes "round") then round_of n d else (if bytes_eq name (codes "tick") then tick_of more n d else (if bytes_eq name (codes "timeout") then timeout_of n d else (if bytes_eq name (codes "remove") then remove_of n d else (if bytes_eq name (codes "join") then join_of n d else (if bytes_eq name (codes "restart") then restart_of n d else (if bytes_eq name (codes "install") then install_of more n d else (if bytes_eq name (codes "settle") then settle_of n d else (Err (rule n 5)))))))))))) gossip_fits (
      either Fits (bytes_eq name (codes "deliver")) (deliver_of n d) (if bytes_eq name (codes "lose") then lose_of n d else (if bytes_eq name (codes "round") then round_of n d else (if bytes_eq name (codes "tick") then tick_of more n d else (if bytes_eq name (codes "timeout") then timeout_of n d else (if bytes_eq name (codes "remove") then remove_of n d else (if bytes_eq name (codes "join") then join_of n d else (if bytes_eq name (codes "restart") then restart_of n d else (if bytes_eq name (codes "install") then install_of more n d else (if bytes_eq name (codes "settle") then settle_of n d else (Err (rule n 5))))))))))) deliver_fits (
      either Fits (bytes_eq name (codes "lose")) (lose_of n d) (if bytes_eq name (codes "round") then round_of n d else (if bytes_eq name (codes "tick") then tick_of more n d else (if bytes_eq name (codes "timeout") then timeout_of n d else (if bytes_eq name (codes "remove") then remove_of n d else (if bytes_eq name (codes "join") then join_of n d else (if bytes_eq name (codes "restart") then restart_of n d else (if bytes_eq name (codes "install") then install_of more n d else (if bytes_eq name (codes "settle") then settle_of n d else (Err (rule n 5)))))))))) lose_fits (
      either Fits (bytes_eq name (codes "round")) (round_of n d) (if bytes_eq name (codes "tick") then tick_of more n d else (if bytes_eq name (codes "timeout") then timeout_of n d else (if bytes_eq name (codes "remove") then remove_of n d else (if bytes_eq name (codes "join") then join_of n d else (if bytes_eq name (codes "restart") then restart_of n d else (if bytes_eq name (codes "install") then install_of more n d else (if bytes_eq name (codes "settle") then settle_of n d else (Err (rule n 5))))))))) round_fits (
      either Fits (bytes_eq name (codes "tick")) (tick_of more n d) (if bytes_eq name (codes "timeout") then timeout_of n d else (if bytes_eq name (codes "remove") then remove_of n d else (if bytes_eq name (codes "join") then join_of n d else (if bytes_eq name (codes "restart") then restart_of n d else (if bytes_eq name (codes "install") then install_of more n d else (if bytes_eq name (codes "settle") then settle_of n d else (Err (rule n 5)))))))) tick_fits (
      either Fits (bytes_eq name (codes "timeout")) (timeout_of n d) (if bytes_eq name (codes "remove") then remove_of n d else (if bytes_eq name (codes "join") then join_of n d else (if bytes_eq name (codes "restart") then restart_of n d else (if bytes_eq name (codes "install") then install_of more n d else (if bytes_eq name (codes "settle") then settle_of n d else (Err (rule n 5))))))) timeout_fits (
      either Fits (bytes_eq name (codes "remove")) (remove_of n d) (if bytes_eq name (codes "join") then join_of n d else (if bytes_eq name (codes "restart") then restart_of n d else (if bytes_eq name (codes "install") then install_of more n d else (if bytes_eq name (codes "settle") then settle_of n d else (Err (rule n 5)))))) remove_fits (
      either Fits (bytes_eq name (codes "join")) (join_of n d) (if bytes_eq name (codes "restart") then restart_of n d else (if bytes_eq name (codes "install") then install_of more n d else (if bytes_eq name (codes "settle") then settle_of n d else (Err (rule n 5))))) join_fits (
      either Fits (bytes_eq name (codes "restart")) (restart_of n d) (if bytes_eq name (codes "install") then install_of more n d else (if bytes_eq name (codes "settle") then settle_of n d else (Err (rule n 5)))) restart_fits (
      either Fits (bytes_eq name (codes "install")) (install_of more n d) (if bytes_eq name (codes "settle") then settle_of n d else (Err (rule n 5))) install_fits (
      either Fits (bytes_eq name (codes "settle")) (settle_of n d) (Err (rule n 5)) settle_fits (tt))))))))))))))

  plain_fits : Reads Fits (plain_of more n d)
  unfolding plain_of
  plain_fits = bound Fits (text_of (rule n 5) (get (codes "do") d)) (step_by more n d) (λ name _. named_fits name)

-- STEPS THAT MAY HAVE CLIENTS

abbrev RunFits : RunStep → Type 0
RunFits step = IsRunStep (run_step_of step)

module _ (clients : Clients) where
  form_by_fits : (n : ℕ) (d : Data) (name : List ℕ) → Reads RunFits (form_by clients n d name)
  form_by_fits n d name =
      either RunFits (bytes_eq name (codes "threads")) (threads_step_of n d) _ (bound RunFits (threads_of n d) (λ made. Ok (Threads made)) (λ made _. tt)) (
      either RunFits (bytes_eq name (codes "subscribe")) (subscribe_of clients n d) _ (bound RunFits (allowed_of clients n d) (λ r. Ok (Subscribe r.0 r.1 r.2)) (λ r _. tt)) (
      either RunFits (bytes_eq name (codes "unsubscribe")) (unsubscribe_of clients n d) (plain_step_of n d) (bound RunFits (allowed_of clients n d) (λ r. Ok (Unsubscribe r.0 r.1 r.2)) (λ r _. tt))
      (bound RunFits (plain_of [] n d) (λ plain. Ok (Plain plain)) (λ plain e. known Fits (plain_of [] n d) plain e (plain_fits [] n d)))))

  form_fits : (n : ℕ) (d : Data) → Reads RunFits (form_of clients n d)
  unfolding form_of
  form_fits n d = bound RunFits (text_of (rule n 5) (get (codes "do") d)) (form_by clients n d) (λ name _. form_by_fits n d name)

  allowed_fits : (broken : Rule) (step : RunStep) → RunFits step → Reads RunFits (if_allowed clients broken step)
  allowed_fits broken step h = either RunFits (may_have clients step) (Ok step) (Err broken) h tt

  step_fits : (n : ℕ) (d : Data) → Reads RunFits (step_of clients n d)
  unfolding step_of
  step_fits n d = bound RunFits (form_of clients n d) (if_allowed clients (rule n 14)) (λ step e. allowed_fits (rule n 14) step (known RunFits (form_of clients n d) step e (form_fits n d)))

  with_last : (steps : List RunStep) (step : RunStep) → AllByRecursion RunFits steps → RunFits step → AllByRecursion RunFits (steps ++ step ∷ [])
  with_last [] step h its = (its, tt)
  with_last (s ∷ steps) step h its = (h.0, with_last steps step h.1 its)

  steps_fit : (before : List RunStep) (items : Items) → AllByRecursion RunFits before → Reads (AllByRecursion RunFits) (steps_after clients before items)
  unfolding steps_after
  steps_fit before no_items h = h
  steps_fit before (item d ds) h =
      bound (AllByRecursion RunFits) (step_of clients (length before + 1) d) (λ step. steps_after clients (before ++ step ∷ []) ds)
      (λ step e. steps_fit (before ++ step ∷ []) ds (with_last before step h (known RunFits (step_of clients (length before + 1) d) step e (step_fits (length before + 1) d))))

-- as steps of the model
meant_fit : (steps : List RunStep) → AllByRecursion RunFits steps → AllByRecursion IsRunStep (map run_step_of steps)
meant_fit [] h = tt
meant_fit (step ∷ steps) h = (h.0, meant_fit steps h.1)

-- SCRIPTS

abbrev pub IsWithin : Script → Type 0
IsWithin script = (1 ≤ script.members) × (script.members ≤ 8) × AllByRecursion IsRunStep (map run_step_of script.steps)

script_within : (clients : Clients) (d : Data) → Reads IsWithin (script_of clients d)
unfolding script_of
script_within clients d =
    bound IsWithin (guard (rule 0 1) (has_names (codes "keys" ∷ codes "members" ∷ codes "steps" ∷ []) [] d)) (λ names. whole_of (rule 0 2) 1 8 (get (codes "members") d) >>= (λ members. list_of (rule 0 3) 1 16 (get (codes "keys") d) >>= (λ keys_in. keys_after [] keys_in >>= (λ keys. step_list_of d >>= (λ steps_in. steps_after clients [] steps_in >>= (λ steps. Ok (record { members = members; keys = keys; steps = steps })))))))
    (λ names _. bound IsWithin (whole_of (rule 0 2) 1 8 (get (codes "members") d)) (λ members. list_of (rule 0 3) 1 16 (get (codes "keys") d) >>= (λ keys_in. keys_after [] keys_in >>= (λ keys. step_list_of d >>= (λ steps_in. steps_after clients [] steps_in >>= (λ steps. Ok (record { members = members; keys = keys; steps = steps }))))))
    (λ members counted. bound IsWithin (list_of (rule 0 3) 1 16 (get (codes "keys") d)) (λ keys_in. keys_after [] keys_in >>= (λ keys. step_list_of d >>= (λ steps_in. steps_after clients [] steps_in >>= (λ steps. Ok (record { members = members; keys = keys; steps = steps })))))
    (λ keys_in _. bound IsWithin (keys_after [] keys_in) (λ keys. step_list_of d >>= (λ steps_in. steps_after clients [] steps_in >>= (λ steps. Ok (record { members = members; keys = keys; steps = steps }))))
    (λ keys _. bound IsWithin (step_list_of d) (λ steps_in. steps_after clients [] steps_in >>= (λ steps. Ok (record { members = members; keys = keys; steps = steps })))
    (λ steps_in _. bound IsWithin (steps_after clients [] steps_in) (λ steps. Ok (record { members = members; keys = keys; steps = steps }))
    (λ steps read.
    let some : IsBetween 1 8 members = known (IsBetween 1 8) (whole_of (rule 0 2) 1 8 (get (codes "members") d)) members counted (between (rule 0 2) 1 8 (option_and_then as_u64 (option_and_then as_number (get (codes "members") d)))) in
    (some.0, some.1, meant_fit steps (known (AllByRecursion RunFits) (steps_after clients [] steps_in) steps read (steps_fit clients [] steps_in tt)))))))))

pub spelled_within : (clients : Clients) (bytes : List ℕ) (script : Script) → Spells clients bytes script → IsWithin script
spelled_within clients bytes script spells = known IsWithin (script_of clients spells.0) script spells.2 (script_within clients spells.0)
