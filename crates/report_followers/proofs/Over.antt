-- The run of a script whose clients follow keys, over keepers, from what its steps tell.
use Rattle.std.proofs.Common.{◌≡◌, ℕ, ◌<◌, ◌≤◌, List, [], ◌++◌, length, map, true, ap, ap₂, subst, ◌∙◌, refl, inl, inr, Some, string_bytes}
use Rattle.std.specs.Prelude.{slice_get}
use Rattle.model_members.specs.Node as model
use Rattle.model_members.specs.Report.{final_block}
use Rattle.model_members.specs.Script.{Playing, played_all}
use Rattle.model_kinds.specs.ShownText.{shown_text}
use Rattle.model_kinds.specs.declared.kind.Kind.{Kind}
use Rattle.model_kinds.specs.declared.operation.Op.{Op}
use Rattle.model_kinds.specs.declared.shown.Shown.{Shown}
use Rattle.data_codec.specs.Entries.{entry_digest}
use Rattle.data_lattice.specs.declared.replica.Replica.{Ghosts}
use Rattle.data_lattice.specs.declared.spelled.SpelledData.{Ghosts as Spelling}
use Rattle.member_keeper.specs.declared.keeper.Keeper.{Ghosts as Keeping}
use Rattle.member_node.specs.declared.key.KeyDecl.{KeyDecl}
use Rattle.member_node.specs.Members.{AreDistinct}
use Rattle.member_node.specs.Steps.{replication}
use Rattle.script_reading.specs.declared.script.Script.{Script}
use Rattle.script_reading.specs.WellFormed.{IsWellFormed}
use Rattle.theorem_digests.proofs.ByDigests.{agree_by_digests}
use Rattle.theorem_digests.proofs.FewRecords.{makes_few}
use Rattle.theorem_operations.proofs.QuorumOfScripts.{gets_include}
use Rattle.theorem_runs.proofs.AgreementOverRuns.{logs_throughout}
use Rattle.theorem_watching.specs.Watching as watching
use Rattle.theorem_watching.specs.Watching.{Watching, watched_all}
use Rattle.theorem_watching.proofs.Projecting.{plays_plain_steps}
use Rattle.world_members.specs.declared.world.World.{World}
use Rattle.world_places.specs.Keeping.{Given, Keeps, AtEachPlace, AreKept}
use Rattle.world_places.specs.Places.{keepers_of}
use Rattle.world_members.specs.Steps.{HaveAnswered}
use Rattle.world_members.specs.Ways as ways
use Rattle.world_desks.specs.declared.desks.Desks.{Desks}
use Rattle.report_lines.specs.declared.playing.Ending.{Ending}
use Rattle.report_lines.specs.declared.playing.Ending.TheVariants.{Told, NotCleared, Memory}
use Rattle.report_lines.specs.Finals.{IsBlockOf}
use Rattle.report_lines.specs.Kept.{LoadWhatTheyTook, EndsOver, EndsSo, IsPlayed, IsTheRun, answers_by}
use Rattle.report_lines.specs.Run.{decl_of, in_order, steps_of, beginning, ending}
use Rattle.report_lines.specs.Telling.{LoadAll, SetsOut, EndsWithBlock, Opens}
use Rattle.report_lines.proofs.NamedKinds.{kind_among}
use Rattle.report_lines.proofs.Orders.{distinct_keys}
use Rattle.report_lines.proofs.Runs.{eight_of, tells_first, whole_given, cleared_so, kept_so, others_so, sets_out, kept_over, called_so, stored_so, model_steps}
use Rattle.report_lines.proofs.Unfailing.{none_failed}
use Rattle.report_followers.specs.Followed.{IsWatchReport, IsWholeWatch, IsFollowedOver}
use Rattle.report_followers.specs.Steps.{watch_steps}
use Rattle.report_followers.specs.Watching.{GoesOn, WatchesSteps}
use Rattle.report_followers.proofs.Lists.{plain_are}

module _ {T K Delta : Type 0} {ghosts : Ghosts T Kind Op Delta} {keeping : Keeping K} (spelling : Spelling T Kind Op Delta) (script : Script) (formed : IsWellFormed script) (old : List K) (first : World T K Kind Op Delta ghosts keeping) (eight : length old ≡ 8) (opens : Opens spelling script.members script.keys old first) where
  apart : AreDistinct (map (λ (d : KeyDecl T Kind Op Delta). d.key) opens.keys)
  apart = distinct_keys script.keys opens.keys opens.made formed.key_names

  module _ (new : List K) (last : World T K Kind Op Delta ghosts keeping) (desks : Desks) (text : List ℕ) (tells : WatchesSteps spelling script.steps first last desks text) (back : new ≡ keepers_of last.nodes.items last.spare.items) where
    -- the answers of each keeper
    abbrev over : Given
    over = whole_given spelling script.members script.keys opens.keys old first eight opens.made apart opens.starts (eight_of first).0 (eight_of first).1 new last (eight_of last).0 (eight_of last).1 back tells.given tells.kept

    abbrev begin : Playing Kind Op Shown
    begin = beginning (answers_by over) script

    abbrev names : List (model.KeyDecl Kind)
    names = map decl_of (in_order script.keys)

    abbrev end : Playing Kind Op Shown
    end = ending ghosts.data_type spelling.history_byte spelling.history_spelled (answers_by over) script

    sets : SetsOut spelling (kind_among opens.keys) script.members names begin tells.given first
    sets = sets_out spelling script.members script.keys opens.keys old first eight opens.made apart opens.starts (eight_of first).0 (eight_of first).1 new last (eight_of last).0 (eight_of last).1 back tells.given tells.kept

    each_kept : AtEachPlace (λ place. Keeps keeping (over place)) old new
    each_kept = kept_so spelling script.members script.keys opens.keys old first eight opens.made apart opens.starts (eight_of first).0 (eight_of first).1 new last (eight_of last).0 (eight_of last).1 back tells.given tells.kept

    none_others : (place : ℕ) → length old ≤ place → over place ≡ []
    none_others = others_so spelling script.members script.keys opens.keys old first eight opens.made apart opens.starts (eight_of first).0 (eight_of first).1 new last (eight_of last).0 (eight_of last).1 back tells.given tells.kept

    all_cleared : (place : ℕ) → place < length old → slice_get (over place) 0 ≡ Some true
    all_cleared = cleared_so spelling script.members script.keys opens.keys old first eight opens.made apart opens.starts (eight_of first).0 (eight_of first).1 new last (eight_of last).0 (eight_of last).1 back tells.given tells.kept

    all_are_kept : AreKept keeping old new
    all_are_kept = kept_over spelling script.members script.keys opens.keys old first eight opens.made apart opens.starts (eight_of first).0 (eight_of first).1 new last (eight_of last).0 (eight_of last).1 back tells.given tells.kept

    loads_all : LoadWhatTheyTook keeping script old → LoadAll script.steps first
    loads_all (inl all) = inl (tells_first spelling script.members script.keys opens.keys old first eight opens.made apart opens.starts (eight_of first).0 (eight_of first).1 all)
    loads_all (inr none) = inr none

    module _ (block text' : List ℕ) (is_block : IsBlockOf spelling last block) (grown : text' ≡ text ++ block) (load : LoadWhatTheyTook keeping script old) where
      goes : GoesOn spelling 1 script.steps tells.given last desks [] text (kind_among opens.keys) script.members names (watching.beginning begin)
      goes = tells.whole (loads_all load) (kind_among opens.keys) script.members names begin sets

      abbrev after_all : Watching Kind Op
      after_all = watched_all (replication ghosts spelling) (watching.beginning begin) (watch_steps script.steps)

      -- members played the steps that they take part in
      same_end : after_all.playing ≡ end
      same_end = plays_plain_steps (replication ghosts spelling) (watching.beginning begin) (watch_steps script.steps) ∙ ap (played_all (replication ghosts spelling) begin) (plain_are script.steps)

      means_end : ways.Means spelling (kind_among opens.keys) script.members names end last
      means_end = subst (λ (p : Playing Kind Op Shown). ways.Means spelling (kind_among opens.keys) script.members names p last) same_end goes.means.means

      calls_end : HaveAnswered begin end tells.given
      calls_end = subst (λ (p : Playing Kind Op Shown). HaveAnswered begin p tells.given) same_end goes.calls

      over_end : EndsOver ghosts.data_type spelling.history_byte spelling.history_spelled keeping over script end old new
      over_end = record {
        called = called_so spelling script.members script.keys opens.keys old first eight opens.made apart opens.starts (eight_of first).0 (eight_of first).1 new last (eight_of last).0 (eight_of last).1 back tells.given tells.kept end means_end calls_end;
        stored = stored_so spelling script.members script.keys opens.keys old first eight opens.made apart opens.starts (eight_of first).0 (eight_of first).1 new last (eight_of last).0 (eight_of last).1 back tells.given tells.kept end means_end calls_end;
      }

      the_run : IsTheRun ghosts.data_type spelling.history_byte spelling.history_spelled keeping (answers_by over) script end
      the_run =
          let D = replication ghosts spelling in
          let within = model_steps script.steps formed.steps in
          record {
            ends = refl;
            majorities = gets_include D (answers_by over) script.members names (steps_of script.steps) means_end.run.some means_end.run.few within;
            settles = λ stays. agree_by_digests D (makes_few D refl) spelling.history_byte spelling.history_spelled refl stays (answers_by over) script.members names (steps_of script.steps) means_end.run.some means_end.run.few within;
          }

      block_is : block ≡ final_block (replication ghosts spelling) shown_text after_all.playing.world
      block_is =
          let D = replication ghosts spelling in
          let logs = logs_throughout D script.members names after_all.playing.events after_all.playing.world goes.means.means.run in
          is_block (entry_digest spelling.history_byte spelling.history_spelled) (kind_among opens.keys) logs.0 after_all.playing.world
          (goes.means.means.stands logs.0 (record { histories = logs.1.last.histories; logged = logs.1.throughout }))

      reported : IsWatchReport ghosts.data_type spelling.history_byte spelling.history_spelled (answers_by over) script text'
      reported = grown ∙ ap₂ (λ (a b : List ℕ). a ++ b) goes.told block_is

      whole : IsWholeWatch ghosts.data_type spelling.history_byte spelling.history_spelled keeping over script old new text'
      whole = record {
        reported = reported;
        over = over_end;
        run = the_run;
        unfailing = λ stays. subst (λ answers. IsWatchReport ghosts.data_type spelling.history_byte spelling.history_spelled answers script text') (none_failed keeping over old new each_kept none_others stays) reported;
      }

    watch_over : (block text' : List ℕ) → IsBlockOf spelling last block → text' ≡ text ++ block → IsFollowedOver ghosts.data_type spelling.history_byte spelling.history_spelled keeping script old new text'
    watch_over block text' is_block grown = record {
      given = over;
      kept = each_kept;
      others = none_others;
      cleared = all_cleared;
      begun = tt;
      whole = λ load. whole block text' is_block grown load;
    }

    pub ends_watch : (end : Ending) → EndsWithBlock spelling last text end → IsPlayed keeping (IsFollowedOver ghosts.data_type spelling.history_byte spelling.history_spelled keeping) script old new end
    ends_watch end ends = record { ends = by_end end ends; kept = all_are_kept }
      where
        by_end : (end : Ending) → EndsWithBlock spelling last text end → EndsSo keeping (IsFollowedOver ghosts.data_type spelling.history_byte spelling.history_spelled keeping) end script old new
        by_end (Told told) adds = watch_over adds.0 (string_bytes told) adds.1 adds.2
        by_end (NotCleared place) ends = absurd ends
        by_end Memory ends = tt
