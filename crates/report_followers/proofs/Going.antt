-- A script whose clients follow keys on its way: what stands after some of its steps, and after one step more.
use Rattle.std.proofs.Common.{◌≡◌, ℕ, ◌+◌, List, [], ◌∷◌, ◌++◌, length, refl, sym, ap, ap₂, subst, ◌∙◌, arith, append_assoc, length-append, inl, inr}
use Rattle.model_history.specs.Texts.{Text}
use Rattle.model_members.specs.Node.{KeyDecl}
use Rattle.model_members.specs.Script.{Playing, answers_between}
use Rattle.model_kinds.specs.declared.kind.Kind.{Kind}
use Rattle.model_kinds.specs.declared.operation.Op.{Op}
use Rattle.model_kinds.specs.declared.shown.Shown.{Shown}
use Rattle.data_lattice.specs.declared.replica.Replica.{Ghosts}
use Rattle.data_lattice.specs.declared.spelled.SpelledData.{Ghosts as Spelling}
use Rattle.member_desk.specs.Histories.{StandsForDesk}
use Rattle.member_keeper.specs.declared.keeper.Keeper.{Ghosts as Keeping}
use Rattle.member_node.specs.Steps.{replication}
use Rattle.script_reading.specs.declared.clients.RunStep.{RunStep}
use Rattle.script_reading.specs.declared.clients.RunStep.TheVariants as form
use Rattle.theorem_watching.specs.Watching.{Watching, all_lines, beginning, watch_text, watched_all}
use Rattle.world_members.specs.declared.world.World.{World}
use Rattle.world_places.specs.Keeping.{Given, KeepsAt}
use Rattle.world_places.specs.Places.{keeper_of}
use Rattle.world_members.specs.Steps.{Foretells}
use Rattle.world_places.proofs.Storing.{not_called_at}
use Rattle.world_desks.specs.declared.desks.Desks.{Desks}
use Rattle.world_desks.specs.declared.seats.Seat.{Seat}
use Rattle.world_desks.specs.Seats.{desk_of}
use Rattle.world_desks.specs.Watched.{Means}
use Rattle.report_lines.specs.Telling.{LoadAll, SetsOut}
use Rattle.report_lines.proofs.Composed.{kept_further, tells_further, foretold_first, foretold_then}
use Rattle.report_lines.proofs.Stages.{IsCalm, all_front, all_last, loads_told, loads_nothing}
use Rattle.report_followers.specs.Steps.{watch_steps}
use Rattle.report_followers.specs.Watching.{LoadsAt, GoesOn, WatchesStep, WatchesSteps}
use Rattle.report_followers.proofs.Lists.{steps_more, watched_more, lines_more, lines_count, text_more}

nobody_followed : (seats : List Seat) → seats ≡ [] → (i : ℕ) → desk_of seats i ≡ []
nobody_followed seats none i = ap (λ (ss : List Seat). desk_of ss i) none

module _ {T K Delta : Type 0} {ghosts : Ghosts T Kind Op Delta} {keeping : Keeping K} (spelling : Spelling T Kind Op Delta) where
  -- SOME STEPS AFTER OTHERS

  module _ (kinds : Text → Kind) (members : ℕ) (decls : List (KeyDecl Kind)) (n m : ℕ) (xs ys : List RunStep) (given given' : Given) (mid new : World T K Kind Op Delta ghosts keeping) (desks desks' : Desks) (before between after : List ℕ) (w : Watching Kind Op) (number : n + length (watch_steps xs) ≡ m)
      (one : GoesOn spelling n xs given mid desks before between kinds members decls w) (two : GoesOn spelling m ys given' new desks' between after kinds members decls (watched_all (replication ghosts spelling) w (watch_steps xs))) where
    abbrev at_first : Watching Kind Op
    at_first = watched_all (replication ghosts spelling) w (watch_steps xs)

    ends_at : watched_all (replication ghosts spelling) w (watch_steps (xs ++ ys)) ≡ watched_all (replication ghosts spelling) at_first (watch_steps ys)
    ends_at = ap (watched_all (replication ghosts spelling) w) (steps_more xs ys) ∙ watched_more (replication ghosts spelling) w (watch_steps xs) (watch_steps ys)

    all_text : watch_text (replication ghosts spelling) n (all_lines (replication ghosts spelling) w (watch_steps (xs ++ ys)))
        ≡ watch_text (replication ghosts spelling) n (all_lines (replication ghosts spelling) w (watch_steps xs)) ++ watch_text (replication ghosts spelling) m (all_lines (replication ghosts spelling) at_first (watch_steps ys))
    all_text =
        let D = replication ghosts spelling in
        let first = all_lines D w (watch_steps xs) in
        let second = all_lines D at_first (watch_steps ys) in
        let count : n + length first ≡ m = ap (λ k. n + k) (lines_count D w (watch_steps xs)) ∙ number in
        ap (λ ss. watch_text D n (all_lines D w ss)) (steps_more xs ys) ∙ ap (watch_text D n) (lines_more D w (watch_steps xs) (watch_steps ys)) ∙ text_more D n first second ∙ ap (λ k. watch_text D n first ++ watch_text D k second) count

    pub goes_further : GoesOn spelling n (xs ++ ys) (λ place. given place ++ given' place) new desks' before after kinds members decls w
    goes_further =
        let D = replication ghosts spelling in
        record {
          means = subst (λ (v : Watching Kind Op). Means spelling kinds members decls v new desks') (sym ends_at) two.means;
          silent = ap (λ (v : Watching Kind Op). v.playing.lines) ends_at ∙ two.silent;
          answers = ap (λ (v : Watching Kind Op). v.playing.answers) ends_at ∙ two.answers ∙ one.answers;
          calls = λ place.
              let a = one.calls place in
              let b = two.calls place in
              let c = length-append (given place) (given' place) in
              ap (λ (v : Watching Kind Op). v.playing.calls place) ends_at ∙ b ∙ ap (λ k. k + length (given' place)) a ∙ (omega (arith, c));
          told = two.told ∙ ap (λ t. t ++ watch_text D m (all_lines D at_first (watch_steps ys))) one.told
              ∙ append_assoc before (watch_text D n (all_lines D w (watch_steps xs))) (watch_text D m (all_lines D at_first (watch_steps ys))) ∙ ap (λ t. before ++ t) (sym all_text);
        }

  -- STAGES

  pub first_watched : (world : World T K Kind Op Delta ghosts keeping) (desks : Desks) (text : List ℕ) → text ≡ [] → desks.seats.items ≡ [] → WatchesSteps spelling [] world world desks text
  first_watched world desks text none nobody =
      record {
        given = λ place. [];
        kept = λ place. not_called_at keeping (keeper_of world.nodes.items world.spare.items place);
        whole = λ load kinds members decls p sets. record {
          means = record {
            means = sets.means;
            stand = λ logs through i. subst (λ desk. StandsForDesk ghosts.data_type kinds logs desk []) (sym (nobody_followed desks.seats.items nobody i)) tt;
          };
          silent = sets.silent;
          answers = refl;
          calls = λ place. omega arith;
          told = none;
        };
      }

  module _ (done : List RunStep) (step : RunStep) (n : ℕ) (number : 1 + length (watch_steps done) ≡ n) (old mid new : World T K Kind Op Delta ghosts keeping) (desks desks' : Desks) (text text' : List ℕ)
      (stage : WatchesSteps spelling done old mid desks text) (goes : WatchesStep spelling n step mid new desks desks' text text') where
    abbrev given_then : Given
    given_then place = stage.given place ++ goes.given place

    kept_then : (place : ℕ) → KeepsAt keeping (given_then place) (keeper_of old.nodes.items old.spare.items place) (keeper_of new.nodes.items new.spare.items place)
    kept_then place = kept_further keeping (stage.given place) (goes.given place) (keeper_of old.nodes.items old.spare.items place) (keeper_of mid.nodes.items mid.spare.items place) (keeper_of new.nodes.items new.spare.items place) (stage.kept place) (goes.kept place)

    loads_before : LoadAll (done ++ step ∷ []) old → LoadAll done old
    loads_before (inl tell) = inl tell
    loads_before (inr none) = inr (all_front IsCalm done (step ∷ []) none)

    loads_at : (s : RunStep) → LoadAll (done ++ s ∷ []) old → LoadsAt spelling s mid
    loads_at (form.Plain s) (inl tell) = loads_told spelling s mid (λ place. tells_further keeping (stage.given place) (keeper_of old.nodes.items old.spare.items place) (keeper_of mid.nodes.items mid.spare.items place) (stage.kept place) (tell place))
    loads_at (form.Plain s) (inr none) = loads_nothing spelling s mid (all_last IsCalm done (form.Plain s) none)
    loads_at (form.Threads clients) load = tt
    loads_at (form.Subscribe at client key) load = tt
    loads_at (form.Unsubscribe at client key) load = tt

    module _ (load : LoadAll (done ++ step ∷ []) old) (kinds : Text → Kind) (members : ℕ) (decls : List (KeyDecl Kind)) (p : Playing Kind Op Shown) (sets : SetsOut spelling kinds members decls p given_then old) where
      sets_before : SetsOut spelling kinds members decls p stage.given old
      sets_before = record { means = sets.means; silent = sets.silent; foretold = λ place. foretold_first p.answers place (p.calls place) (stage.given place) (goes.given place) (sets.foretold place) }

      so_far : GoesOn spelling 1 done stage.given mid desks [] text kinds members decls (beginning p)
      so_far = stage.whole (loads_before load) kinds members decls p sets_before

      foretold_now : Foretells (watched_all (replication ghosts spelling) (beginning p) (watch_steps done)).playing goes.given
      foretold_now place =
          ap₂ (λ answers c. answers_between answers place c (c + length (goes.given place))) so_far.answers (so_far.calls place)
          ∙ foretold_then p.answers place (p.calls place) (stage.given place) (goes.given place) (sets.foretold place)

      goes_on : GoesOn spelling 1 (done ++ step ∷ []) given_then new desks' [] text' kinds members decls (beginning p)
      goes_on =
          goes_further kinds members decls 1 n done (step ∷ []) stage.given goes.given mid new desks desks' [] text text' (beginning p) number so_far
          (goes.goes (loads_at step load) kinds members decls (watched_all (replication ghosts spelling) (beginning p) (watch_steps done)) so_far.silent so_far.means foretold_now)

    pub next_watched : WatchesSteps spelling (done ++ step ∷ []) old new desks' text'
    next_watched = record { given = given_then; kept = kept_then; whole = λ load kinds members decls p sets. goes_on load kinds members decls p sets }
