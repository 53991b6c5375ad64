-- What a get shows is what its member holds.
use Rattle.std.proofs.Common.{◌≡◌, ℕ, zero, suc, List, [], ◌∷◌, refl, sym, ap, subst, ◌∙◌, true, Option, Some, None}
use Rattle.std.specs.Prelude.{if◌then◌else◌, find, option_map, nat_le}
use Rattle.std.specs.Str.{bytes_eq}
use Rattle.model_history.specs.Texts.{Text}
use Rattle.model_history.proofs.PruneLaws.{IsIn, found}
use Rattle.model_members.specs.Entry.{Entry, has_records}
use Rattle.model_members.specs.DataType.{Replication, Meaning, meaning}
use Rattle.model_members.specs.Node.{KeyDecl, Node, Level, Fate, Stepped, Reply, state_of, needed, one_step_later}
use Rattle.model_members.specs.Node.Input.{Get}
use Rattle.model_members.specs.Step.{step, member_count, answered, value_reply}
use Rattle.model_members.specs.World.{World}
use Rattle.model_members.specs.Script.{Ask, ScriptStep}
use Rattle.model_members.specs.Script.Answer.{Replied}
use Rattle.model_members.proofs.Cases.{got, got_needing}
use Rattle.theorem_runs.proofs.Keeping.{if_holds, if_tells, same_text}
use Rattle.model_traces.specs.Traces.{TraceLine, TraceState, meaning_text}
use Rattle.model_traces.specs.Traces.Act.{Shows}
use Rattle.model_traces.specs.Runs.{line_of, get_lines}
use Rattle.theorem_traces.proofs.Holding.{IsDeclared, Agrees, IsSound}
use Rattle.theorem_traces.proofs.Showing.{IsLawfulShow, AreShows, shows_lawful, member_shows}

module _ {Kind Op Shown : Type 0} (D : Replication Kind Op Shown) (node : Node Kind Op Shown) (key : Text) where
  -- a get shows nothing, or what the member holds of a declared key
  pub data Gets (after : Stepped Kind Op Shown) : Type 0 where
    ShowsNothing : ((value_text : Shown → Text) (i : ℕ) (level : Level) → get_lines D value_text (ScriptStep.Asks i (Ask.Get key level)) (Replied after.output.reply) ≡ []) → Gets after
    ShowsMeaning : (decl : KeyDecl Kind) → find (λ (d : KeyDecl Kind). bytes_eq d.name key) node.keys ≡ Some decl → decl.name ≡ key → has_records (node.entries decl.name) ≡ true
        → after.output.reply ≡ value_reply D (Some (meaning D.data_type decl.kind (node.entries decl.name).history)) → ((name : Text) → after.node.entries name ≡ node.entries name) → Gets after

  abbrev later : Node Kind Op Shown
  later = one_step_later node

  module _ (decl : KeyDecl Kind) (is : find (λ (d : KeyDecl Kind). bytes_eq d.name key) node.keys ≡ Some decl) (name : decl.name ≡ key) where
    by_value : Gets (answered later (value_reply D (if has_records (node.entries decl.name) then Some (meaning D.data_type decl.kind (node.entries decl.name).history) else None)))
    by_value =
        if_tells (λ (o : Option (Meaning Shown)). Gets (answered later (value_reply D o))) (has_records (node.entries decl.name)) _ _ (λ some. ShowsMeaning decl is name some refl (λ t. refl)) (λ none. ShowsNothing (λ value_text i level. refl))

    by_number : (o : Option ℕ) → Gets (got_needing D later (state_of later decl) o)
    by_number None = ShowsNothing (λ value_text i level. refl)
    by_number (Some n) = if_holds Gets (nat_le n 1) _ _ by_value (ShowsNothing (λ value_text i level. refl))

  pub gets : (level : Level) (fate : Fate) → Gets (step D node (Get key level) fate)
  gets level fate = go (find (λ (d : KeyDecl Kind). bytes_eq d.name key) node.keys) refl
    where
      go : (o : Option (KeyDecl Kind)) → find (λ (d : KeyDecl Kind). bytes_eq d.name key) node.keys ≡ o → Gets (got D later (option_map (state_of later) o) level)
      go None is = ShowsNothing (λ value_text i level. refl)
      go (Some decl) is = by_number decl is (same_text decl.name key (found (λ (d : KeyDecl Kind). bytes_eq d.name key) node.keys decl is)) (needed level (member_count later))

-- what a meaning is answered with, a get shows
meaning_lines : {Kind Op Shown : Type 0} (D : Replication Kind Op Shown) (value_text : Shown → Text) (i : ℕ) (key : Text) (level : Level) (meant : Meaning Shown)
    → get_lines D value_text (ScriptStep.Asks i (Ask.Get key level)) (Replied (value_reply D (Some meant))) ≡ line_of i key (Shows (meaning_text value_text meant)) ∷ []
meaning_lines D value_text i key level Meaning.IsDeleted = refl
meaning_lines D value_text i key level (Meaning.Shows value) = refl

module _ {Kind Op Shown : Type 0} (D : Replication Kind Op Shown) (value_text : Shown → Text) (keys : List (KeyDecl Kind)) (state : TraceState Op) (world : World Kind Op Shown) (sound : IsSound keys world) (agrees : Agrees keys state world) where
  -- the show lines of a get, where the member after it runs
  pub get_shows : (i : ℕ) (node : Node Kind Op Shown) (key : Text) (level : Level) (fate : Fate) → node.keys ≡ keys → world.nodes i ≡ Some (step D node (Get key level) fate).node
      → AreShows D value_text keys state (get_lines D value_text (ScriptStep.Asks i (Ask.Get key level)) (Replied (step D node (Get key level) fate).output.reply))
  get_shows i node key level fate same_keys runs = go (gets D node key level fate)
    where
      go : Gets D node key (step D node (Get key level) fate) → AreShows D value_text keys state (get_lines D value_text (ScriptStep.Asks i (Ask.Get key level)) (Replied (step D node (Get key level) fate).output.reply))
      go (ShowsNothing none) = subst (AreShows D value_text keys state) (sym (none value_text i level)) (record { lawful = tt; leaves = refl })
      go (ShowsMeaning decl is name some told same) =
          let now = (step D node (Get key level) fate).node in
          let declared : IsDeclared keys decl = subst (λ ks. find (λ (d : KeyDecl Kind). bytes_eq d.name decl.name) ks ≡ Some decl) same_keys (subst (λ t. find (λ (d : KeyDecl Kind). bytes_eq d.name t) node.keys ≡ Some decl) (sym name) is) in
          let line : Entry Op → Text → TraceLine Op = λ e t. line_of i t (Shows (meaning_text value_text (meaning D.data_type decl.kind e.history))) in
          let shows : IsLawfulShow D value_text keys state (line (now.entries decl.name) decl.name) =
          member_shows D value_text keys state world sound agrees i now decl runs declared (ap has_records (same decl.name) ∙ some) in
          let here : IsLawfulShow D value_text keys state (line (node.entries decl.name) key) =
          subst (λ t. IsLawfulShow D value_text keys state (line (node.entries decl.name) t)) name (subst (λ (e : Entry Op). IsLawfulShow D value_text keys state (line e decl.name)) (same decl.name) shows) in
          subst (λ (reply : Reply Shown). AreShows D value_text keys state (get_lines D value_text (ScriptStep.Asks i (Ask.Get key level)) (Replied reply))) (sym told)
          (subst (AreShows D value_text keys state) (sym (meaning_lines D value_text i key level (meaning D.data_type decl.kind (node.entries decl.name).history)))
          (shows_lawful D value_text keys state (line (node.entries decl.name) key ∷ []) (λ l h. one (line (node.entries decl.name) key) l here h)))
        where
          one : (line l : TraceLine Op) → IsLawfulShow D value_text keys state line → IsIn (line ∷ []) l → IsLawfulShow D value_text keys state l
          one line l shows (zero, e) = let same : line ≡ l = cc e in subst (IsLawfulShow D value_text keys state) same shows
          one line l shows (suc k, e) = absurd (cc e)
