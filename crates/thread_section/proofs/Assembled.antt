-- What clients did beside each other is a section, with their lines.
use Rattle.std.proofs.Common.{◌≡◌, ◌⊎◌, inl, inr, ⊎_elim, ℕ, zero, suc, ◌+◌, List, [], ◌∷◌, ◌++◌, length, map, refl, sym, ap, subst, ◌∙◌, arith, Bool, true, false, Option, Some, None}
use Rattle.std.specs.Prelude.{⊤, slice_get, is_some, flat_map, replicate, IsTrue}
use Rattle.std.specs.List.{AllZip}
use Rattle.std.proofs.lemmas.List.{map-append}
use mathlib.Core.List.{IsPrefix}
use Rattle.model_history.proofs.PruneLaws.{IsIn}
use Rattle.model_members.specs.View.{View, is_member}
use Rattle.model_members.specs.DataType.{Replication}
use Rattle.model_members.specs.Node as nodes
use Rattle.model_members.specs.World as worlds
use Rattle.theorem_sections.specs.Sections as sections
use Rattle.theorem_sections.specs.Sections.{Line, section_lines}
use Rattle.theorem_sections.specs.Histories as model
use Rattle.theorem_sections.specs.Paths.{ClientStep, IsTake, HasEntryAt}
use Rattle.theorem_sections.specs.Knowing.{KnownStep, steps_of, IsKnownPath, AreKnownPaths}
use Rattle.model_kinds.specs.declared.operation.Op.{Op}
use Rattle.model_kinds.specs.declared.shown.Shown.{Shown}
use Rattle.data_lattice.specs.declared.replica.Replica.{Ghosts}
use Rattle.data_lattice.specs.declared.spelled.SpelledData.{Ghosts as Spelling}
use Rattle.member_keeper.specs.declared.keeper.Keeper.{Ghosts as Keeping}
use Rattle.thread_machine.specs.declared.machine.Machine.{Ghosts as Machine}
use Rattle.thread_cell.specs.declared.opening.Opening.{Opening}
use Rattle.thread_cell.specs.Lists.{at}
use Rattle.thread_cell.specs.Values.{ClientParts}
use Rattle.member_node.specs.declared.input.Input.{Input}
use Rattle.member_node.specs.declared.input.Input.TheVariants as form
use Rattle.member_node.specs.declared.node.Node.{Node}
use Rattle.member_node.specs.declared.reply.Fate.{Fate}
use Rattle.member_node.specs.declared.reply.Output.{Output}
use Rattle.member_node.specs.declared.reply.StepError.{StepError}
use Rattle.member_node.specs.Steps.{replication}
use Rattle.script_reading.specs.declared.clients.Command.{Command}
use Rattle.script_reading.specs.declared.clients.Repeated.{Repeated}
use Rattle.world_members.specs.declared.client_line.ClientLine.{ClientLine}
use Rattle.world_members.specs.ClientLines.{IsClientLine}
use Rattle.world_members.specs.Threads as given
use Rattle.thread_cluster.specs.Messages.{messages_of}
use Rattle.thread_run_order.specs.Images.{EntryOf, IsMeantBy}
use Rattle.thread_clients.specs.Paths.{IsPath}
use Rattle.thread_clients.specs.Commands as clients
use Rattle.thread_section.specs.Lines.{all_lines}
use Rattle.thread_section.proofs.Accounts.{TakenAt}
use Rattle.thread_section.proofs.Counts.{source_at}
use Rattle.thread_section.proofs.Sessions.{IsSettled}
use Rattle.thread_section.proofs.Lasting.{AreBelow}
use Rattle.thread_section.proofs.Walked.{HasWalked, PathCall, IsOfStep, has_walked, walked_path}

-- zipped lists, one behind the other
zip_append : {A B : Type 0} (R : A → B → Type 0) (xs : List A) (ys : List B) (zs : List A) (ws : List B) → AllZip R xs ys → AllZip R zs ws → AllZip R (xs ++ zs) (ys ++ ws)
zip_append R [] [] zs ws a b = b
zip_append R [] (y ∷ ys) zs ws a b = absurd a
zip_append R (x ∷ xs) [] zs ws a b = absurd a
zip_append R (x ∷ xs) (y ∷ ys) zs ws a b = (a.0, zip_append R xs ys zs ws a.1 b)

map_replicated : (n : ℕ) (c : Command) → map given.command_of (replicate n c) ≡ replicate n (given.command_of c)
map_replicated zero c = refl
map_replicated (suc n) c = ap (λ cs. given.command_of c ∷ cs) (map_replicated n c)

-- the commands of a client, in the model
commands_meant : (repeated : List Repeated) → map given.command_of (clients.commands_of repeated) ≡ given.commands_of repeated
commands_meant [] = refl
commands_meant (r ∷ rs) =
    map-append given.command_of (replicate r.times r.command) (clients.commands_of rs) ∙ ap (λ cs. cs ++ map given.command_of (clients.commands_of rs)) (map_replicated r.times r.command) ∙ ap (λ cs. replicate r.times (given.command_of r.command) ++ cs) (commands_meant rs)

module _ {T K Kind Delta : Type 0} {ghosts : Ghosts T Kind Op Delta} {keeping : Keeping K} (meaning : Machine (Node T K Kind Op Delta ghosts keeping) (Input T Kind Op Delta ghosts) Fate (Output T Kind Op Delta ghosts) StepError) (ids : ℕ → Option ℕ)
    (opening : Opening (Node T K Kind Op Delta ghosts keeping) (Input T Kind Op Delta ghosts) Fate (Output T Kind Op Delta ghosts) StepError) (h : ℕ → List (EntryOf ghosts keeping)) (views : List View) where
  abbrev Client : Type 0
  Client = ClientParts (Node T K Kind Op Delta ghosts keeping) (Input T Kind Op Delta ghosts) Fate (Output T Kind Op Delta ghosts) StepError

  -- A client of a number: the session that it began and ended with, and what it did
  pub record DidAll (client : ℕ) (repeated : List Repeated) (lines : List ClientLine) : Type 0 where
    pub first : Client
    pub last : Client
    pub number : last.number ≡ client
    pub opened : last.seen.began ≡ Some opening
    pub begins : (p : ℕ) → IsPrefix (at last.seen.known p) (h p)
    pub fresh : (first.seen.stamp ≡ 0) × (first.calls ≡ [])
    pub path : IsPath meaning ids views client first (clients.commands_of repeated) lines last

  -- from this number on
  abbrev pub AllDid : ℕ → List (List Repeated) → List (List ClientLine) → Type 0
  AllDid client [] [] = ⊤
  AllDid client (c ∷ cs) (lines ∷ rest) = DidAll client c lines × AllDid (suc client) cs rest
  AllDid client _ _ = ⊥

  -- one of these clients made the call
  abbrev pub Owned : (client : ℕ) (cs : List (List Repeated)) (lines : List (List ClientLine)) → AllDid client cs lines → ℕ × ℕ → Type 0
  Owned client [] [] all call = ⊥
  Owned client [] (l ∷ lines) all call = ⊥
  Owned client (c ∷ cs) [] all call = ⊥
  Owned client (c ∷ cs) (l ∷ lines) all call = IsIn all.0.last.calls call ⊎ Owned (suc client) cs lines all.1 call

module _ {T K Kind Delta : Type 0} {ghosts : Ghosts T Kind Op Delta} {keeping : Keeping K} (spelling : Spelling T Kind Op Delta) (meaning : Machine (Node T K Kind Op Delta ghosts keeping) (Input T Kind Op Delta ghosts) Fate (Output T Kind Op Delta ghosts) StepError)
    (world : worlds.World Kind Op Shown) (ids : ℕ → Option ℕ) (opening : Opening (Node T K Kind Op Delta ghosts keeping) (Input T Kind Op Delta ghosts) Fate (Output T Kind Op Delta ghosts) StepError)
    (h : ℕ → List (EntryOf ghosts keeping)) (histories : ℕ → List (model.Entry Op Shown)) (settled : IsSettled spelling meaning world ids opening h histories)
    (views : List View) (views_are : worlds.views_of world ≡ views) (below : (i : ℕ) (n : nodes.Node Kind Op Shown) → world.nodes i ≡ Some n → AreBelow (replication ghosts spelling) n) (runs_in : (i : ℕ) → IsTrue (is_member world.view i) → is_some (world.nodes i) ≡ true)
    (none_runs : (i : ℕ) → is_member world.view i ≡ false → world.nodes i ≡ None) where
  abbrev Session : Type 0
  Session = ClientParts (Node T K Kind Op Delta ghosts keeping) (Input T Kind Op Delta ghosts) Fate (Output T Kind Op Delta ghosts) StepError

  abbrev D : Replication Kind Op Shown
  D = replication ghosts spelling

  abbrev Did : ℕ → List Repeated → List ClientLine → Type 0
  Did = DidAll meaning ids opening h views

  abbrev AllThem : ℕ → List (List Repeated) → List (List ClientLine) → Type 0
  AllThem = AllDid meaning ids opening h views

  abbrev IsOne : (client : ℕ) (cs : List (List Repeated)) (lines : List (List ClientLine)) → AllThem client cs lines → ℕ × ℕ → Type 0
  IsOne = Owned meaning ids opening h views

  abbrev Walk : (client : ℕ) (repeated : List Repeated) (lines : List ClientLine) (d : Did client repeated lines) → Type 0
  Walk client repeated lines d = HasWalked spelling meaning world ids opening h histories settled client views views_are below runs_in none_runs d.first d.last (clients.commands_of repeated) lines

  walk_of : (client : ℕ) (repeated : List Repeated) (lines : List ClientLine) (d : Did client repeated lines) → Walk client repeated lines d
  walk_of client repeated lines d =
      has_walked spelling meaning world ids opening h histories settled client views views_are below runs_in none_runs d.first d.last (clients.commands_of repeated) lines
      (record { number = d.number; opened = d.opened; begins = d.begins }) d.path

  -- the paths of all clients
  pub paths_of : (client : ℕ) (cs : List (List Repeated)) (lines : List (List ClientLine)) → AllThem client cs lines → List (List (KnownStep Op Shown))
  paths_of client [] [] all = []
  paths_of client [] (l ∷ lines) all = absurd all
  paths_of client (c ∷ cs) [] all = absurd all
  paths_of client (c ∷ cs) (l ∷ lines) all = (walk_of client c l all.0).ks ∷ paths_of (suc client) cs lines all.1

  as_many_paths : (client : ℕ) (cs : List (List Repeated)) (lines : List (List ClientLine)) (all : AllThem client cs lines) → length (paths_of client cs lines all) ≡ length (map given.commands_of cs)
  unfolding paths_of
  as_many_paths client [] [] all = refl
  as_many_paths client [] (l ∷ lines) all = absurd all
  as_many_paths client (c ∷ cs) [] all = absurd all
  as_many_paths client (c ∷ cs) (l ∷ lines) all = ap suc (as_many_paths (suc client) cs lines all.1)

  each_path : (client : ℕ) (cs : List (List Repeated)) (lines : List (List ClientLine)) (all : AllThem client cs lines) (k : ℕ) (commands : List (sections.Command Op)) (ks : List (KnownStep Op Shown)) → slice_get (map given.commands_of cs) k ≡ Some commands
      → slice_get (paths_of client cs lines all) k ≡ Some ks → IsKnownPath D world histories (client + k) 0 commands ks
  unfolding paths_of
  each_path client [] [] all k commands ks at there = absurd (cc at)
  each_path client [] (l ∷ lines) all k commands ks at there = absurd all
  each_path client (c ∷ cs) [] all k commands ks at there = absurd all
  each_path client (c ∷ cs) (l ∷ lines) all zero commands ks at there =
      let d = all.0 in
      let w = walk_of client c l d in
      let same : given.commands_of c ≡ commands = cc at in
      let same_ks : w.ks ≡ ks = cc there in
      let same_client : client ≡ client + 0 = omega arith in
      subst (λ n. IsKnownPath D world histories n 0 commands ks) same_client
      (subst (IsKnownPath D world histories client 0 commands) same_ks
      (subst (λ cs. IsKnownPath D world histories client 0 cs w.ks) (commands_meant c ∙ same)
      (path_is client c l d w)))
    where
      path_is : (client : ℕ) (c : List Repeated) (l : List ClientLine) (d : Did client c l) (w : Walk client c l d) → IsKnownPath D world histories client 0 (map given.command_of (clients.commands_of c)) w.ks
      path_is client c l d w = walked_path spelling meaning world ids opening h histories settled client views views_are below runs_in none_runs d.first d.last (clients.commands_of c) l w d.fresh.0
  each_path client (c ∷ cs) (l ∷ lines) all (suc k) commands ks at there =
      let same : suc client + k ≡ client + suc k = omega arith in
      subst (λ n. IsKnownPath D world histories n 0 commands ks) same (each_path (suc client) cs lines all.1 k commands ks at there)

  pub told_all : (client : ℕ) (cs : List (List Repeated)) (lines : List (List ClientLine)) (all : AllThem client cs lines) → AllZip IsClientLine (all_lines lines) (flat_map (map (λ (step : ClientStep Op Shown). step.line)) (steps_of (paths_of client cs lines all)))
  unfolding paths_of
  told_all client [] [] all = tt
  told_all client [] (l ∷ lines) all = absurd all
  told_all client (c ∷ cs) [] all = absurd all
  told_all client (c ∷ cs) (l ∷ lines) all =
      zip_append IsClientLine l (map (λ (step : ClientStep Op Shown). step.line) (map (λ (k : KnownStep Op Shown). k.step) (walk_of client c l all.0).ks)) (all_lines lines) (flat_map (map (λ (step : ClientStep Op Shown). step.line)) (steps_of (paths_of (suc client) cs lines all.1)))
      (told_one client c l all.0) (told_all (suc client) cs lines all.1)
    where
      twice : (ks : List (KnownStep Op Shown)) → map (λ (k : KnownStep Op Shown). k.step.line) ks ≡ map (λ (step : ClientStep Op Shown). step.line) (map (λ (k : KnownStep Op Shown). k.step) ks)
      twice [] = refl
      twice (k ∷ ks) = ap (λ lines. k.step.line ∷ lines) (twice ks)

      told_one : (client : ℕ) (c : List Repeated) (l : List ClientLine) (d : Did client c l) → AllZip IsClientLine l (map (λ (step : ClientStep Op Shown). step.line) (map (λ (k : KnownStep Op Shown). k.step) (walk_of client c l d).ks))
      told_one client c l d = subst (AllZip IsClientLine l) (twice (walk_of client c l d).ks) (walk_of client c l d).told

  -- EVERY ENTRY

  -- a call that stands in the paths
  record InPaths (cs : List (List Repeated)) (paths : List (List (KnownStep Op Shown))) (call : ℕ × ℕ) : Type 0 where
    client : ℕ
    repeated : List Repeated
    ks : List (KnownStep Op Shown)
    at : (slice_get cs client ≡ Some repeated) × (slice_get paths client ≡ Some ks)
    step : IsOfStep spelling meaning world ids opening h histories settled client views views_are below runs_in none_runs (clients.commands_of repeated) ks call

  Taken : ℕ × ℕ → Type 0
  Taken call = TakenAt meaning ids h call

  owned_in : (client : ℕ) (cs : List (List Repeated)) (lines : List (List ClientLine)) (all : AllThem client cs lines) (call : ℕ × ℕ) → IsOne client cs lines all call → Taken call ⊎ InPaths cs (paths_of client cs lines all) call
  unfolding paths_of Taken
  owned_in client [] [] all call own = absurd own
  owned_in client [] (l ∷ lines) all call own = absurd own
  owned_in client (c ∷ cs) [] all call own = absurd own
  owned_in client (c ∷ cs) (l ∷ lines) all call own = ⊎_elim (λ (m : IsIn all.0.last.calls call). here m) (λ (o : IsOne (suc client) cs lines all.1 call). later (owned_in (suc client) cs lines all.1 call o)) own
    where
      later : Taken call ⊎ InPaths cs (paths_of (suc client) cs lines all.1) call → Taken call ⊎ InPaths (c ∷ cs) (paths_of client (c ∷ cs) (l ∷ lines) all) call
      later (inl t) = inl t
      later (inr i) = inr (record { client = suc i.client; repeated = i.repeated; ks = i.ks; at = i.at; step = record { number = i.step.number; command = i.step.command; k = i.step.k; stands = i.step.stands; at = i.step.at; is = i.step.is } })

      here : IsIn all.0.last.calls call → Taken call ⊎ InPaths (c ∷ cs) ((walk_of client c l all.0).ks ∷ paths_of (suc client) cs lines all.1) call
      here m =
          ⊎_elim (λ (old : IsIn all.0.first.calls call). absurd (let none = subst (λ calls. IsIn calls call) all.0.fresh.1 old in cc none.1))
          (λ (new : PathCall spelling meaning world ids opening h histories settled client views views_are below runs_in none_runs (clients.commands_of c) (walk_of client c l all.0).ks call).
          ⊎_elim (λ (t : TakenAt meaning ids h call). inl t)
          (λ (o : IsOfStep spelling meaning world ids opening h histories settled client views views_are below runs_in none_runs (clients.commands_of c) (walk_of client c l all.0).ks call).
          inr (record { client = 0; repeated = c; ks = (walk_of client c l all.0).ks; at = (refl, refl); step = record { number = o.number; command = o.command; k = o.k; stands = o.stands; at = o.at; is = o.is } })) new)
          ((walk_of client c l all.0).calls call m)

  map_at : {A B : Type 0} (f : A → B) (xs : List A) (k : ℕ) (x : A) → slice_get xs k ≡ Some x → slice_get (map f xs) k ≡ Some (f x)
  map_at f [] k x e = absurd (cc e)
  map_at f (y ∷ xs) zero x e = ap (λ o. Rattle.std.specs.Prelude.option_map f o) e
  map_at f (y ∷ xs) (suc k) x e = map_at f xs k x e

  -- a message is taken in the model too
  is_take : (from : ℕ) (input : Input T Kind Op Delta ghosts) (sent : nodes.Input Op) (message : Rattle.member_messages.specs.declared.message.Message.Message T Kind Op Delta ghosts) → messages_of from input ≡ message ∷ [] → IsMeantBy input sent → IsTake sent
  is_take from (form.Take sender m) sent message e means = subst IsTake (sym means.1) tt
  is_take from (form.Update key op level) sent message e means = absurd (cc e)
  is_take from (form.Get key level) sent message e means = absurd (cc e)
  is_take from (form.Install view) sent message e means = absurd (cc e)
  is_take from form.Flush sent message e means = absurd (cc e)
  is_take from (form.GossipTo to) sent message e means = absurd (cc e)
  is_take from form.PruneTick sent message e means = absurd (cc e)
  is_take from (form.Timeout op) sent message e means = absurd (cc e)

  module _ (cs : List (List Repeated)) (lines : List (List ClientLine)) (all : AllThem 0 cs lines) (owned : (p n : ℕ) (e : EntryOf ghosts keeping) → slice_get (h p) n ≡ Some e → IsOne 0 cs lines all (p, n)) where
    abbrev paths : List (List (KnownStep Op Shown))
    paths = paths_of 0 cs lines all

    whole : (i n : ℕ) (m : model.Entry Op Shown) → slice_get (histories i) n ≡ Some m → IsTake m.input ⊎ HasEntryAt D world histories (map given.commands_of cs) (steps_of paths) i n
    unfolding Taken
    whole i n m stands = by_member (is_member world.view i) refl
      where
        by_member : (b : Bool) → is_member world.view i ≡ b → IsTake m.input ⊎ HasEntryAt D world histories (map given.commands_of cs) (steps_of paths) i n
        by_member false absent = absurd (let none = subst (λ ms. slice_get ms n ≡ Some m) (settled.ground.strangers i absent) stands in cc none)
        by_member true there =
            let p = Rattle.model_members.specs.View.place_of world.view i in
            let here = settled.ground.seated i there in
            let it = source_at n (h p) (histories i) m (settled.ground.images p i here) stands in
            ⊎_elim
            (λ (t : TakenAt meaning ids h (p, n)).
            let same : t.entry ≡ it.0 = cc (sym t.stands ∙ it.1) in
            inl (is_take t.from it.0.input m.input t.message (subst (λ (e : EntryOf ghosts keeping). messages_of t.from e.input ≡ t.message ∷ []) same t.takes) it.2.input))
            (λ (o : InPaths cs paths (p, n)).
            let s = o.step in
            inr (record {
              client = o.client;
              number = s.number;
              commands = given.commands_of o.repeated;
              steps = map (λ (k : KnownStep Op Shown). k.step) o.ks;
              command = given.command_of s.command;
              step = s.k.step;
              of = (map_at given.commands_of cs o.client o.repeated o.at.0, map_at (map (λ (k : KnownStep Op Shown). k.step)) paths o.client o.ks o.at.1);
              stands = (
                subst (λ commands. slice_get commands s.number ≡ Some (given.command_of s.command)) (commands_meant o.repeated) (map_at given.command_of (clients.commands_of o.repeated) s.number s.command s.stands.0),
                map_at (λ (k : KnownStep Op Shown). k.step) o.ks s.number s.k s.stands.1,
              );
              at = (cc (sym s.at ∙ here), s.is);
            }))
            (owned_in 0 cs lines all (p, n) (owned p n it.0 it.1))

    pub are_known_paths : AreKnownPaths D world histories (map given.commands_of cs) paths
    are_known_paths = record { as_many = as_many_paths 0 cs lines all; each = λ k commands ks at there. (let same : 0 + k ≡ k = omega arith in subst (λ n. IsKnownPath D world histories n 0 commands ks) same (each_path 0 cs lines all k commands ks at there)); whole = whole }
