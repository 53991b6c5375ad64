-- Clients as they begin at the members of a world, and what they did in the end.
--     apart_of        no identity is at two places
--     are_new        cells of a table that was just named
--     as_many, all_as_begun        sessions as they begin
--     back_many, all_in_table, all_opened        sessions that come back
--     have_done, done_same        clients that made all of their commands
--     played_back, played_same        what comes of any world, where the views and the machines at the start are the same
--     placed_of, made_of, back_as_before        a world in parts, and keepers that come back as they were
use Rattle.std.proofs.Common.{◌≡◌, ℕ, zero, suc, ◌+◌, ◌<◌, List, [], ◌∷◌, ◌++◌, length, map, refl, sym, ap, subst, ◌∙◌, arith, inl, inr, Option, Some, None, Result, Err, Vec, Global}
use Rattle.std.specs.Prelude.{slice_get, is_some, not, option_map}
use Rattle.std.specs.List.{All}
use Rattle.std.proofs.lemmas.Bool.Decides.{eqb_tells}
use Rattle.std.proofs.lemmas.Option.{slice_get_within, slice_get-get_or}
use Rattle.atomic_table.specs.Seated.{TableId}
use Rattle.model_kinds.specs.declared.operation.Op.{Op}
use Rattle.data_lattice.specs.declared.replica.Replica.{Ghosts as Data}
use Rattle.data_lattice.specs.declared.spelled.SpelledData.{Ghosts as Spelling}
use Rattle.member_keeper.specs.declared.keeper.Keeper.{Ghosts as Keeping}
use Rattle.thread_machine.specs.declared.machines.Machines.{Machines}
use Rattle.thread_machine.specs.Machines.{machine_at}
use Rattle.thread_cell.specs.declared.opening.Opening.{Opening}
use Rattle.thread_cell.specs.declared.unnamed.Cells.{Cells}
use Rattle.thread_cell.specs.Beginnings.{begun, begun_session, begun_sessions}
use Rattle.thread_cell.specs.Lists.{at}
use Rattle.thread_cell.specs.Values.{CellParts}
use Rattle.thread_cell.proofs.Starts.{begun_some, length-begun_sessions}
use Rattle.thread_cluster.specs.declared.places.Identities.{Identities}
use Rattle.thread_cluster.specs.Opening.{IsNew, AreNew}
use Rattle.thread_cluster.specs.Passing.{AreApart}
use Rattle.model_members.specs.View.{View}
use Rattle.member_node.specs.declared.input.Input.{Input}
use Rattle.member_node.specs.declared.node.Node.{Node}
use Rattle.member_node.specs.declared.reply.Fate.{Fate}
use Rattle.member_node.specs.declared.reply.Output.{Output}
use Rattle.member_node.specs.declared.reply.StepError.{StepError}
use Rattle.script_reading.specs.declared.clients.Repeated.{Repeated}
use Rattle.member_views.specs.Sound.{AreViews, last_view}
use Rattle.world_members.specs.declared.client_line.ClientLine.{ClientLine}
use Rattle.world_members.specs.declared.client_line.Section.{Section}
use Rattle.world_members.specs.declared.world.World.{World}
use Rattle.world_places.specs.Keeping.{IsKept}
use Rattle.world_places.specs.Parts.{ArePlaced}
use Rattle.world_places.specs.Places.{item_at, identity_at, keeper_of, first_keeper}
use Rattle.world_members.specs.Threads.{GivesBack}
use Rattle.world_places.proofs.Seats.{last_sound}
use Rattle.world_places.proofs.Lists.{slice_get-last, slice_get-first}
use Rattle.world_places.proofs.Storing.{kept_same}
use Rattle.thread_run_order.proofs.Places.{ids_apart, none_past}
use Rattle.thread_clients.specs.declared.clients.Played.{Played}
use Rattle.thread_clients.specs.Playing.{IsBack, AreBack, AreAllPlayed}
use Rattle.thread_clients.specs.Sessions.{Session, Meaning}
use Rattle.thread_section.specs.declared.giving.Rest.{Rest}
use Rattle.thread_section.specs.Clients.{HasDone, HaveDone}
use Rattle.thread_section.specs.Lines.{session_of, lines_of}
use Rattle.thread_section.specs.Places.{AreIdentities}
use Rattle.thread_section.specs.Worlds.{WasMadeOf, AreGivenBack, IsPlayed}

-- IDENTITIES

pub apart_of : (views : List View) (ids : ℕ → Option ℕ) → ids ≡ identity_at (last_view views) → AreViews views → AreApart ids
apart_of views ids is sound = subst AreApart (sym is) (record { apart = ids_apart (last_view views) (last_sound views sound) })

module _ {M I F O R : Type 0} (ids : ℕ → Option ℕ) (p : ℕ) (table : TableId) (key : Opening M I F O R) where
  nothing_known : (m : Option M) (c : CellParts M I F O R) → begun table key m ≡ Some c → at c.seen.known p ≡ []
  nothing_known None c e = absurd (cc e)
  nothing_known (Some m) c e = let is : c ≡ record { seen = record { table = table; began = Some key; known = []; stamp = 0 }; machine = m } = cc e in ap (λ (w : CellParts M I F O R). at w.seen.known p) is

  new_at : (m : Option M) (cell : Option (CellParts M I F O R)) (given : Option ℕ) → ids p ≡ given → is_some m ≡ is_some (ids p) → cell ≡ begun table key m → IsNew ids p cell given
  new_at m cell given here some is = record {
    id_is = here;
    both = ap is_some is ∙ begun_some table key m ∙ some ∙ ap is_some here;
    empty = λ c there. nothing_known m c (sym is ∙ there);
  }

some_mapped : {X Y : Type 0} (f : X → Y) (m : Option X) (o : Option Y) → option_map f m ≡ o → is_some m ≡ is_some o
some_mapped f None o e = ap is_some e
some_mapped f (Some m) o e = ap is_some e

module _ {T K Kind Delta I F O R : Type 0} {data_of : Data T Kind Op Delta} {keeping : Keeping K} (views : List View) (spare : List (Option K)) (ids : ℕ → Option ℕ) (is : ids ≡ identity_at (last_view views)) where
  member_at : (starts : Machines (Node T K Kind Op Delta data_of keeping) I F O R) → ArePlaced views starts spare → (p : ℕ) → p < 8 → is_some (machine_at starts p) ≡ is_some (ids p)
  member_at starts placed p less = some_mapped (λ (node : Node T K Kind Op Delta data_of keeping). node.id) (machine_at starts p) (identity_at (last_view views) p) (placed.identities p less) ∙ ap (λ f. is_some (f p)) (sym is)

  module _ {N : Type 0} (table : TableId) (key : Opening (Node T K Kind Op Delta data_of keeping) I F O R) (placed : ArePlaced views key.machines spare) (sound : AreViews views) (given : Identities) (are : AreIdentities (last_view views) given)
      (cells : Cells (Node T K Kind Op Delta data_of keeping) N I F O R) where
    abbrev known_at : (p : ℕ) (id : Option ℕ) → id ≡ identity_at (last_view views) p → ids p ≡ id
    known_at p id e = ap (λ f. f p) is ∙ sym e

    -- the cells of a table that was just named
    pub are_new : cells.p0 ≡ begun table key key.machines.p0 → cells.p1 ≡ begun table key key.machines.p1 → cells.p2 ≡ begun table key key.machines.p2 → cells.p3 ≡ begun table key key.machines.p3 → cells.p4 ≡ begun table key key.machines.p4
        → cells.p5 ≡ begun table key key.machines.p5 → cells.p6 ≡ begun table key key.machines.p6 → cells.p7 ≡ begun table key key.machines.p7 → AreNew ids cells given
    are_new c0 c1 c2 c3 c4 c5 c6 c7 = record {
      p0 = new_at ids 0 table key key.machines.p0 cells.p0 given.p0 (known_at 0 given.p0 are.p0) (member_at key.machines placed 0 (omega arith)) c0;
      p1 = new_at ids 1 table key key.machines.p1 cells.p1 given.p1 (known_at 1 given.p1 are.p1) (member_at key.machines placed 1 (omega arith)) c1;
      p2 = new_at ids 2 table key key.machines.p2 cells.p2 given.p2 (known_at 2 given.p2 are.p2) (member_at key.machines placed 2 (omega arith)) c2;
      p3 = new_at ids 3 table key key.machines.p3 cells.p3 given.p3 (known_at 3 given.p3 are.p3) (member_at key.machines placed 3 (omega arith)) c3;
      p4 = new_at ids 4 table key key.machines.p4 cells.p4 given.p4 (known_at 4 given.p4 are.p4) (member_at key.machines placed 4 (omega arith)) c4;
      p5 = new_at ids 5 table key key.machines.p5 cells.p5 given.p5 (known_at 5 given.p5 are.p5) (member_at key.machines placed 5 (omega arith)) c5;
      p6 = new_at ids 6 table key key.machines.p6 cells.p6 given.p6 (known_at 6 given.p6 are.p6) (member_at key.machines placed 6 (omega arith)) c6;
      p7 = new_at ids 7 table key key.machines.p7 cells.p7 given.p7 (known_at 7 given.p7 are.p7) (member_at key.machines placed 7 (omega arith)) c7;
      within = λ p past. ap (λ f. is_some (f p)) is ∙ ap is_some (none_past (last_view views) (last_sound views sound) p past);
    }

-- SESSIONS

begun_at : {M I F O R : Type 0} (table : TableId) (key : Opening M I F O R) (n k : ℕ) → k < n → slice_get (begun_sessions table key n) k ≡ Some (begun_session table key k)
begun_at table key zero k less = absurd (omega arith)
begun_at table key (suc n) k less =
    let long = length-begun_sessions table key n in elim (eqb_tells k n) [
      | inl same ↦
          ap (λ j. slice_get (begun_sessions table key n ++ begun_session table key n ∷ []) j) (same.1 ∙ sym long) ∙ slice_get-last (begun_sessions table key n) (begun_session table key n)
          ∙ ap (λ j. Some (begun_session table key j)) (sym same.1)
      | inr other ↦ slice_get-first (begun_sessions table key n) (begun_session table key n ∷ []) k (let o = other.1 in omega arith) ∙ begun_at table key n k (let o = other.1 in omega arith)
    ]

all_from : {X : Type 0} (P : X → Type 0) (xs : List X) → ((k : ℕ) (x : X) → slice_get xs k ≡ Some x → P x) → All P xs
all_from P xs each = λ k d less. each k _ (slice_get-get_or xs k d less)

module _ {T K Kind Delta : Type 0} {data_of : Data T Kind Op Delta} {keeping : Keeping K} (table : TableId)
    (opening : Opening (Node T K Kind Op Delta data_of keeping) (Input T Kind Op Delta data_of) Fate (Output T Kind Op Delta data_of) StepError) (count : ℕ) (first : List (Session data_of keeping)) (are : first ≡ begun_sessions table opening count) where
  pub as_many : length first ≡ count
  as_many = ap length are ∙ length-begun_sessions table opening count

  first_at : (k : ℕ) → k < length first → slice_get first k ≡ Some (begun_session table opening k)
  first_at k less = ap (λ ss. slice_get ss k) are ∙ begun_at table opening count k (let long = as_many in omega arith)

  -- sessions as they begin
  pub all_as_begun : All (λ (s : Session data_of keeping). s.seen.began ≡ Some opening) first
  all_as_begun = all_from (λ (s : Session data_of keeping). s.seen.began ≡ Some opening) first (λ k s e. (let is : begun_session table opening k ≡ s = cc (sym (first_at k (slice_get_within first k s e)) ∙ e) in ap (λ (x : Session data_of keeping). x.seen.began) (sym is)))

  module _ (last : List (Session data_of keeping)) (back : AreBack table first last) where
    back_at : (k : ℕ) (s : Session data_of keeping) → slice_get last k ≡ Some s → IsBack table (begun_session table opening k) s
    back_at k s e = back.each k (begun_session table opening k) s (first_at k (let less = slice_get_within last k s e in let same = back.count in omega arith)) e

    -- sessions that come back
    pub back_many : length last ≡ count
    back_many = back.count ∙ as_many

    pub all_in_table : All (λ (s : Session data_of keeping). s.seen.table ≡ table) last
    all_in_table = all_from (λ (s : Session data_of keeping). s.seen.table ≡ table) last (λ k s e. (back_at k s e).table_is)

    pub all_opened : All (λ (s : Session data_of keeping). s.seen.began ≡ Some opening) last
    all_opened = all_from (λ (s : Session data_of keeping). s.seen.began ≡ Some opening) last (λ k s e. (back_at k s e).goes_on.began)

  -- CLIENTS THAT MADE ALL OF THEIR COMMANDS

  module _ (meaning : Meaning data_of keeping) (ids : ℕ → Option ℕ) (views : List View) where
    done_from : (client : ℕ) (cs : List (List Repeated)) (ps : List (Played T K Kind Delta data_of keeping)) → length ps ≡ length cs
        → ((k : ℕ) (c : List Repeated) (p : Played T K Kind Delta data_of keeping) → slice_get cs k ≡ Some c → slice_get ps k ≡ Some p → HasDone meaning ids views table opening (client + k) c p.session p.lines)
        → HaveDone meaning ids views table opening client cs (map session_of ps) (map lines_of ps)
    done_from client [] [] long each = tt
    done_from client [] (p ∷ ps) long each = absurd (omega (arith, long))
    done_from client (c ∷ cs) [] long each = absurd (omega (arith, long))
    done_from client (c ∷ cs) (p ∷ ps) long each = (
      (let e : client + 0 ≡ client = omega arith in subst (λ n. HasDone meaning ids views table opening n c p.session p.lines) e (each 0 c p refl refl)),
      done_from (suc client) cs ps (omega (arith, long)) (λ k d q here there. (let e : client + suc k ≡ suc client + k = omega arith in subst (λ n. HasDone meaning ids views table opening n d q.session q.lines) e (each (suc k) d q here there))),
    )

    pub have_done : (now : List View) → now ≡ views → (cs : List (List Repeated)) (ps : List (Played T K Kind Delta data_of keeping)) → count ≡ length cs → AreAllPlayed meaning ids now table cs first ps → HaveDone meaning ids views table opening 0 cs (map session_of ps) (map lines_of ps)
    have_done now same cs ps long played =
        let all = subst (λ vs. AreAllPlayed meaning ids vs table cs first ps) same played in
        done_from 0 cs ps (all.count ∙ as_many ∙ long) (λ k c p here there.
        let less : k < length first = (let l = slice_get_within cs k c here in let m = as_many in omega arith) in
        let it = all.each k c (begun_session table opening k) p here (first_at k less) there in
        let e : k ≡ 0 + k = omega arith in
        let done : HasDone meaning ids views table opening k c p.session p.lines = record {
          first = begun_session table opening k;
          fresh = (refl, refl);
          number = it.0.goes_on.number;
          opened = it.0.goes_on.began;
          in_table = it.0.table_is;
          path = it.1;
        } in
        subst (λ n. HasDone meaning ids views table opening n c p.session p.lines) e done)

-- the same, where the views and the opening are the same
pub done_same : {T K Kind Delta : Type 0} {data_of : Data T Kind Op Delta} {keeping : Keeping K} (meaning : Meaning data_of keeping) (ids : ℕ → Option ℕ) (views now : List View) (table : TableId)
    (opening key : Opening (Node T K Kind Op Delta data_of keeping) (Input T Kind Op Delta data_of) Fate (Output T Kind Op Delta data_of) StepError) (cs : List (List Repeated)) (ss sessions : List (Session data_of keeping)) (ls lines : List (List ClientLine))
    → now ≡ views → key ≡ opening → sessions ≡ ss → lines ≡ ls → HaveDone meaning ids views table opening 0 cs ss ls → HaveDone meaning ids now table key 0 cs sessions lines
done_same meaning ids views now table opening key cs ss sessions ls lines vs ks es fs done =
    subst (λ v. HaveDone meaning ids v table key 0 cs sessions lines) (sym vs)
    (subst (λ k. HaveDone meaning ids views table k 0 cs sessions lines) (sym ks) (subst (λ s. HaveDone meaning ids views table opening 0 cs s lines) (sym es) (subst (λ l. HaveDone meaning ids views table opening 0 cs ss l) (sym fs) done)))

-- WORLDS

module _ {T K Kind Delta I F O R : Type 0} {data_of : Data T Kind Op Delta} {keeping : Keeping K} (spelling : Spelling T Kind Op Delta) (clients : List (List Repeated)) (views now : List View) (starts same : Machines (Node T K Kind Op Delta data_of keeping) I F O R)
    (rest : Rest T K Kind Delta data_of keeping) (views_are : now ≡ views) (starts_are : same ≡ starts) where
  pub played_same : (result : Result (Section T K Kind Op Delta data_of keeping) (Vec K Global)) → IsPlayed spelling clients now same rest result → IsPlayed spelling clients views starts rest result
  played_same result played = subst (λ ms. IsPlayed spelling clients views ms rest result) starts_are (subst (λ vs. IsPlayed spelling clients vs same rest result) views_are played)

  pub played_back : (keepers : Vec K Global) → AreGivenBack now same rest keepers.items → IsPlayed spelling clients views starts rest (Err keepers)
  played_back keepers given = played_same (Err keepers) (record { of = given.of })

module _ {T K Kind Delta I F O R : Type 0} {data_of : Data T Kind Op Delta} {keeping : Keeping K} (world : World T K Kind Op Delta data_of keeping) (members : Machines (Node T K Kind Op Delta data_of keeping) I F O R)
    (members_are : (place : ℕ) → machine_at members place ≡ item_at world.nodes.items place) where
  module _ (spare : Vec (Option K) Global) (spare_is : spare ≡ world.spare) where
    pub placed_of : (views : List View) → views ≡ world.views → ArePlaced views members spare.items
    placed_of views views_are =
        subst (λ vs. ArePlaced vs members spare.items) (sym views_are) (subst (λ (s : Vec (Option K) Global). ArePlaced world.views members s.items) (sym spare_is) (record {
          identities = λ place less. ap (option_map (λ (node : Node T K Kind Op Delta data_of keeping). node.id)) (members_are place) ∙ world.seated.members place less;
          spares = λ place less. world.seated.spares place less ∙ ap (λ o. not (is_some o)) (sym (members_are place));
          limits = λ place less node is. world.seated.limits place less node (sym (members_are place) ∙ is);
        }))

    pub back_as_before : (keepers : List K) → ((place : ℕ) → slice_get keepers place ≡ first_keeper (machine_at members place) (item_at spare.items place)) → GivesBack world keepers
    back_as_before keepers are = λ place.
        subst (λ o. IsKept keeping (keeper_of world.nodes.items world.spare.items place) o)
        (sym
        (are place ∙ ap (λ o. first_keeper o (item_at spare.items place)) (members_are place)
        ∙ ap (λ (s : Vec (Option K) Global). first_keeper (item_at world.nodes.items place) (item_at s.items place)) spare_is))
        (kept_same keeping (keeper_of world.nodes.items world.spare.items place))

  pub made_of : (views : List View) (starts : Machines (Node T K Kind Op Delta data_of keeping) I F O R) (rest : Rest T K Kind Delta data_of keeping) → views ≡ world.views → starts ≡ members → rest.links ≡ world.links → rest.keys ≡ world.keys → rest.seats.spare ≡ world.spare
      → WasMadeOf world views starts rest
  made_of views starts rest views_are starts_are links keys spare = record {
    views_are = views_are;
    members = λ place. ap (λ ms. machine_at ms place) starts_are ∙ members_are place;
    links = links;
    keys = keys;
    spare = spare;
  }
