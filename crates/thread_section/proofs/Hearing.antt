-- What a client's turns make heard, and what its looks tell, in the terms of the model.
use Rattle.std.proofs.Common.{◌≢◌, ◌⊎◌, inl, inr, ℕ, suc, ◌<◌, ◌≤◌, List, length, sym, ap, ◌∙◌, arith, Option, length-append}
use Rattle.std.specs.Prelude.{take, IsTrue}
use mathlib.Core.List.{IsPrefix}
use Rattle.model_members.specs.View.{is_member, place_of}
use Rattle.model_members.specs.DataType.{Replication}
use Rattle.model_members.specs.World as worlds
use Rattle.theorem_sections.specs.Histories as model
use Rattle.theorem_sections.specs.Histories.{posted_to, taken_from}
use Rattle.theorem_sections.specs.Knowing.{KnowsFull, KnowsTaken, KnowsHeard, KnowsAnswered}
use Rattle.theorem_sections.proofs.RunOrder.{taken-append}
use Rattle.model_kinds.specs.declared.operation.Op.{Op}
use Rattle.model_kinds.specs.declared.shown.Shown.{Shown}
use Rattle.data_lattice.specs.declared.replica.Replica.{Ghosts}
use Rattle.data_lattice.specs.declared.spelled.SpelledData.{Ghosts as Spelling}
use Rattle.member_keeper.specs.declared.keeper.Keeper.{Ghosts as Keeping}
use Rattle.thread_machine.specs.declared.machine.Machine.{Ghosts as Machine}
use Rattle.thread_cell.specs.declared.opening.Opening.{Opening}
use Rattle.thread_cell.specs.Values.{ClientParts}
use Rattle.member_node.specs.declared.input.Input.{Input}
use Rattle.member_node.specs.declared.node.Node.{Node}
use Rattle.member_node.specs.declared.reply.Fate.{Fate}
use Rattle.member_node.specs.declared.reply.Output.{Output}
use Rattle.member_node.specs.declared.reply.StepError.{StepError}
use Rattle.member_node.specs.Steps.{replication}
use Rattle.thread_cluster.specs.Knowing.{GoesOn}
use Rattle.thread_cluster.proofs.Growing.{goes_on_trans}
use Rattle.thread_clients.specs.Turns.{HasHeard, WasFull, IsHeardOrFull}
use Rattle.thread_run_order.specs.Images.{EntryOf}
use Rattle.thread_section.proofs.Sights.{hears, take_less}
use Rattle.thread_section.proofs.Sessions.{IsSettled, known_in, IsOf, is_of_before, more_known, full_somewhere}

-- more is taken in more entries
taken_more : {Op Shown : Type 0} (i : ℕ) (xs ys : List (model.Entry Op Shown)) → IsPrefix xs ys → length (taken_from i xs) ≤ length (taken_from i ys)
taken_more i xs ys begin =
    let a = ap (λ zs. length (taken_from i zs)) (sym begin.1) in
    let b = ap length (taken-append i xs begin.0) in
    let c = length-append (taken_from i xs) (taken_from i begin.0) in
    omega (arith, a, b, c)

module _ {T K Kind Delta : Type 0} {ghosts : Ghosts T Kind Op Delta} {keeping : Keeping K} (spelling : Spelling T Kind Op Delta) (meaning : Machine (Node T K Kind Op Delta ghosts keeping) (Input T Kind Op Delta ghosts) Fate (Output T Kind Op Delta ghosts) StepError)
    (world : worlds.World Kind Op Shown) (ids : ℕ → Option ℕ) (opening : Opening (Node T K Kind Op Delta ghosts keeping) (Input T Kind Op Delta ghosts) Fate (Output T Kind Op Delta ghosts) StepError)
    (h : ℕ → List (EntryOf ghosts keeping)) (histories : ℕ → List (model.Entry Op Shown)) (settled : IsSettled spelling meaning world ids opening h histories) (client : ℕ) where
  abbrev Session : Type 0
  Session = ClientParts (Node T K Kind Op Delta ghosts keeping) (Input T Kind Op Delta ghosts) Fate (Output T Kind Op Delta ghosts) StepError

  abbrev D : Replication Kind Op Shown
  D = replication ghosts spelling

  abbrev pub known : Session → ℕ → ℕ
  known s = known_in spelling meaning world ids opening h histories settled s

  abbrev pub Of : Session → Type 0
  Of s = IsOf spelling meaning world ids opening h histories settled client s

  -- MORE IS KNOWN LATER

  pub taken_later : (i count j : ℕ) (a b : ℕ → ℕ) → a j ≤ b j → KnowsTaken D world histories i count j a → KnowsTaken D world histories i count j b
  taken_later i count j a b more taken = let x = taken_more i (take (a j) (histories j)) (take (b j) (histories j)) (take_less (a j) (b j) (histories j) more) in omega (arith, x, taken)

  pub heard_later : (i index : ℕ) (e : model.Entry Op Shown) (a b : ℕ → ℕ) → ((j : ℕ) → a j ≤ b j) → KnowsHeard D world histories i index e a → KnowsHeard D world histories i index e b
  heard_later i index e a b more heard = λ j other member posts. taken_later i (suc index) j a b (more j) (heard j other member posts)

  pub answered_later : (i : ℕ) (asked a b : ℕ → ℕ) → a i ≤ b i → KnowsAnswered D world histories i asked a → KnowsAnswered D world histories i asked b
  answered_later i asked a b more answered = λ j other member. taken_later j (asked j) i a b more (answered j other member)

  pub full_later : (a b : ℕ → ℕ) → ((j : ℕ) → a j ≤ b j) → KnowsFull D world histories a → KnowsFull D world histories b
  full_later a b more full = let m = more full.0 in let c = full.1.1 in (full.0, (full.1.0, omega (arith, m, c), full.1.2))

  -- TURNS

  pub turned_goes : (a b : Session) → HasHeard ids a b → GoesOn a b
  turned_goes a b heard = heard.turned.turned.goes_on

  pub full_goes : (a b : Session) → WasFull meaning ids a b → GoesOn a b
  full_goes a b full = goes_on_trans a full.between b full.before.turned.goes_on full.after.turned.goes_on

  pub waits_goes : (a b : Session) → IsHeardOrFull meaning ids a b → GoesOn a b
  waits_goes a b (inl heard) = turned_goes a b heard
  waits_goes a b (inr full) = full_goes a b full

  -- what was known of the posts of one member, so many entries of it, is taken
  turn_takes : (a b : Session) → Of b → HasHeard ids a b → (i j count : ℕ) → j ≢ i → IsTrue (is_member world.view i) → IsTrue (is_member world.view j) → count ≤ known a i → KnowsTaken D world histories i count j (known b)
  turn_takes a b is heard i j count other mi mj few =
      let here = settled.ground.seated i mi in
      let there = settled.ground.seated j mj in
      let before = is_of_before spelling meaning world ids opening h histories settled client a b (turned_goes a b heard) is in
      let p = place_of world.view i in
      let q = place_of world.view j in
      hears spelling world ids h histories settled.ground a.seen.known b.seen.known p q i j count before.begins is.begins here there
      (heard.turned.heard p q i j (λ same. other (cc (sym there ∙ ap ids (sym same) ∙ here))) here there).all few

  pub turn_hears : (a b : Session) → Of b → HasHeard ids a b → (i index : ℕ) (e : model.Entry Op Shown) → IsTrue (is_member world.view i) → index < known a i → KnowsHeard D world histories i index e (known b)
  turn_hears a b is heard i index e mi early = λ j other mj posts. turn_takes a b is heard i j (suc index) other mi mj (omega (arith, early))

  pub turn_answers : (a b : Session) → Of b → HasHeard ids a b → (i : ℕ) → IsTrue (is_member world.view i) → KnowsAnswered D world histories i (known a) (known b)
  turn_answers a b is heard i mi = λ j other mj. turn_takes a b is heard j i (known a j) (λ same. other (sym same)) mj mi (omega arith)

  pub was_full : (a b : Session) → Of b → WasFull meaning ids a b → KnowsFull D world histories (known b)
  was_full a b is full =
      let between = is_of_before spelling meaning world ids opening h histories settled client full.between b full.after.turned.goes_on is in
      full_later (known full.between) (known b) (more_known spelling meaning world ids opening h histories settled full.between b full.after.turned.goes_on)
      (full_somewhere spelling meaning world ids opening h histories settled client full.between between full.full)

  pub heard_or_full : (a b : Session) → Of b → IsHeardOrFull meaning ids a b → (i index : ℕ) (e : model.Entry Op Shown) → IsTrue (is_member world.view i) → index < known a i
      → KnowsHeard D world histories i index e (known b) ⊎ KnowsFull D world histories (known b)
  heard_or_full a b is (inl heard) i index e mi early = inl (turn_hears a b is heard i index e mi early)
  heard_or_full a b is (inr full) i index e mi early = inr (was_full a b is full)
