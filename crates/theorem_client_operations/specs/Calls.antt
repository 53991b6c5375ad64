-- The calls of a section's clients: each stands once, after all that its caller had seen.
--     ComesAt        the section when a client makes a command, by the moves before it
--     CallsStandOnce        so it is of all commands of all clients
use Rattle.std.specs.Prelude.{◌≡◌, ℕ, List, ◌∷◌, ◌++◌, length, map, count_by, Bool, true, false, ◌==◌, Some, slice_get}
use Rattle.model_members.specs.DataType.{Replication}
use Rattle.model_members.specs.Script.{Head, Playing, last_of}
use Rattle.theorem_sections.specs.Sections.{Command, Client, Made, Section, Move, goes_on, opened, moved_all, client_line, world_of}
use Rattle.theorem_sections.specs.Sections.Move.{NextCommand}

-- the move is a client's next command
abbrev pub is_command_of : ℕ → Move → Bool
is_command_of c (NextCommand d) = d == c
is_command_of c _ = false

-- the heads of the lines of commands, and of those that were made
abbrev pub asked_heads : {Op : Type 0} → List (Command Op) → List (Head Op)
asked_heads {Op} commands = map (λ (command : Command Op). Head.Asked command.at command.ask) commands

abbrev pub made_heads : {Op Shown : Type 0} → List (Made Op Shown) → List (Head Op)
made_heads {Op} {Shown} made = map (λ (m : Made Op Shown). m.line.head) made

module _ {Kind Op Shown : Type 0} (D : Replication Kind Op Shown) (before : Playing Kind Op Shown) (clients : List (List (Command Op))) (moves : List Move) where
  -- the section when a client makes a command, and the client as it then is
  pub record ComesAt (c : ℕ) (here : Section Kind Op Shown) (client : Client Op Shown) : Type 0 where
    pub early : List Move
    pub rest : List Move
    pub way : moves ≡ early ++ NextCommand c ∷ rest
    pub is : here ≡ moved_all D (opened before clients) early
    pub its : slice_get here.clients c ≡ Some client

  -- EACH CALL STANDS ONCE, AFTER ALL THAT ITS CALLER HAD SEEN
  pub record CallsStandOnce (end : Section Kind Op Shown) : Type 0 where
    -- there are as many such moves as the client has commands
    pub once : (c : ℕ) (commands : List (Command Op)) → slice_get clients c ≡ Some commands → count_by (is_command_of c) moves ≡ length commands
    -- each command has a line, in the client's order
    pub told : (c : ℕ) (commands : List (Command Op)) → slice_get clients c ≡ Some commands
        → (client : Client Op Shown) × (slice_get end.clients c ≡ Some client) × (made_heads client.made ≡ asked_heads commands)
    -- each of them came at a moment, when the client had made those before it
    pub came : (c k : ℕ) (at_end : Client Op Shown) (made : Made Op Shown) → slice_get end.clients c ≡ Some at_end → slice_get at_end.made k ≡ Some made
        → (here : Section Kind Op Shown) × (client : Client Op Shown) × ComesAt c here client × (length client.made ≡ k)
    -- when a command comes, what the client's last one sent was heard, and what it waited for has ended, as far as a client may know
    pub may : (c : ℕ) (here : Section Kind Op Shown) (client : Client Op Shown) → ComesAt c here client → goes_on D here (last_of client.made) ≡ true
    -- and what the report tells of the client's earlier commands is what stands then
    pub seen : (c : ℕ) (here : Section Kind Op Shown) (client : Client Op Shown) → ComesAt c here client
        → map (client_line (world_of here) c) client.made ≡ map (client_line (world_of end) c) client.made
    pub first : (c : ℕ) (here : Section Kind Op Shown) (client at_end : Client Op Shown) → ComesAt c here client → slice_get end.clients c ≡ Some at_end
        → (later : List (Made Op Shown)) × (at_end.made ≡ client.made ++ later)
