-- Plans, and what is prepared.
-- What a member stands for after a step that writes at every key.
-- Plans that can be carried out, and what a member keeps under them.
-- What the parts of a step prepare.
use Rattle.std.proofs.Common.{◌≡◌, ℕ, suc, ◌<◌, ◌≤◌, List, [], ◌∷◌, length, get_or, refl, sym, ap, ◌∙◌, subst, arith, false, map, ◌≢◌, zero, ◌+◌, ◌*◌, set, Option, Some, None, inl, inr, ◌==◌, eq-eqb, All, if◌then◌else◌, slice_get, unwrap_or, get_or-set_same, get_or-set_other, length-set, option_map}
use Rattle.std.specs.Global.{Vec}
use Rattle.std.proofs.lemmas.Bool.{cases_eq}
use Rattle.std.proofs.lemmas.List.{get_or_default}
use Rattle.std.proofs.Math.Seq.{map-set_same}
use Rattle.member_node.proofs.Common.{known, Text, VersionVector, History, one_step_later, answered, performed_in, Shown, Ghosts, Keeping, parts_of, Envelope, StandsFor, LogParts, NextRecord, KeyState, Change, HasFewOwn, IsUnpruned, AreLogged, AreOfTheirKinds, declared_by, AreDistinct, own_number, changed, AreMade, KeyTick, IsKeyTick, Nothing, At, Each, StandsForKey, StandsForNode, StandsAfter, recorded, ticked, AreOwned, IsSoundPlan, LeadsOn, IsPrepared, Node, Prepared, Output, Reply, meant, StandsForOutput, changed_operations, StandForOperations, is_pending, IsSoundFor}
use Rattle.model_members.specs.Entry as model
use Rattle.model_members.specs.Node as nodes
use Rattle.data_deltalog.proofs.Following.{last_later, kind_later, origin_later}
use Rattle.member_node.specs.Taking.{KeepsOwn}
use Rattle.member_node.specs.declared.change.Change.TheVariants.{Entry, Flushed}
use Rattle.member_node.specs.Own.{IsLogged}
use Rattle.member_node.specs.Changes.{AreChanged}
use Rattle.member_node.specs.declared.plan.Plan.TheVariants.{Ticked}
use Rattle.member_node.specs.Members.{StandsForPosts}
use Rattle.member_node.specs.Planning.{AreTicked, entry_told, IsPlanned, new_entry, entry_in, CanRecord}
use Rattle.member_node.specs.declared.operations.OperationChange.TheVariants.{Same as Unchanged}
use Rattle.member_node.specs.declared.plan.Plan.{Plan}
use Rattle.member_node.specs.Operations.{finished_meant, opens_one, CanChange}
use Rattle.member_node.proofs.Operating.{operates_same}

-- A STEP THAT WRITES AT EVERY KEY

-- lists that f can't tell apart, place by place
pub map-places : {X Y : Type 0} (f : X → Y) (xs ys : List X) → length ys ≡ length xs → ((k : ℕ) (d : X) → k < length xs → f (get_or ys k d) ≡ f (get_or xs k d)) → map f ys ≡ map f xs
map-places f [] [] counted same = refl
map-places f [] (y ∷ ys) counted same = absurd (omega arith)
map-places f (x ∷ xs) [] counted same = absurd (omega arith)
map-places f (x ∷ xs) (y ∷ ys) counted same = λ i. same 0 x (omega arith) i ∷ map-places f xs ys (omega arith) (λ k d below. same (suc k) d (omega arith)) i

module _ {T Kind Op Delta : Type 0} where
  pub same_name : (state : KeyState T Kind Op Delta) (change : Option (Change T Kind Op Delta)) → (changed state change).name ≡ state.name
  same_name state None = refl
  same_name state (Some (Entry entry)) = refl
  same_name state (Some (Flushed flushed)) = refl

  pub same_declared : (state : KeyState T Kind Op Delta) (change : Option (Change T Kind Op Delta)) → declared_by (changed state change) ≡ declared_by state
  same_declared state None = refl
  same_declared state (Some (Entry entry)) = refl
  same_declared state (Some (Flushed flushed)) = refl

  same_log : (state : KeyState T Kind Op Delta) (change : Option (Change T Kind Op Delta)) → (changed state change).log ≡ state.log
  same_log state None = refl
  same_log state (Some (Entry entry)) = refl
  same_log state (Some (Flushed flushed)) = refl

  -- where each change keeps what is the member's own
  module _ (kind_of : T → Kind) (Makes : KeyState T Kind Op Delta → Option (Change T Kind Op Delta) → Type 0) (id : ℕ) (keeps : (state : KeyState T Kind Op Delta) (change : Option (Change T Kind Op Delta)) → Makes state change → KeepsOwn kind_of id state.entry (changed state change).entry)
      (old new : List (KeyState T Kind Op Delta)) (changes : List (Option (Change T Kind Op Delta))) (made : AreMade Makes old changes) (after : AreChanged old changes new) (unpruned : IsUnpruned id old) where
    -- own numbers that stay are small later
    pub few_changed : (steps later : ℕ) → steps ≤ later → HasFewOwn id steps old → HasFewOwn id later new
    few_changed steps later more few k d within =
        let inside : k < length old = (let l = after.same_length in omega arith) in
        let stays = (keeps (get_or old k d) (get_or changes k None) (made.made k d None inside)).own (unpruned k d inside) in
        let e = ap (own_number id) (after.each k d None inside) in
        let before = few k d inside in
        omega (arith, e, stays, before)

    -- and the logs are still the member's own
    pub logged_changed : AreLogged kind_of id old → AreLogged kind_of id new
    logged_changed logged k d within =
        let inside : k < length old = (let l = after.same_length in omega arith) in
        let state = get_or old k d in
        let change = get_or changes k None in
        let kept = keeps (get_or old k d) (get_or changes k None) (made.made k d None inside) in
        let before = logged k d inside in
        subst (IsLogged kind_of id) (sym (after.each k d None inside)) (record {
          origin = ap (λ (parts : LogParts Kind Delta). parts.origin) (same_log state change) ∙ before.origin;
          kind = ap (λ (parts : LogParts Kind Delta). parts.kind) (same_log state change) ∙ before.kind ∙ sym kept.kind;
          last = ap (λ (parts : LogParts Kind Delta). parts.last) (same_log state change) ∙ before.last ∙ sym (kept.own (unpruned k d inside));
        })

    pub unpruned_changed : IsUnpruned id new
    unpruned_changed k d within =
        let inside : k < length old = (let l = after.same_length in omega arith) in
        ap (λ (state : KeyState T Kind Op Delta). performed_in (parts_of state.entry).marks id) (after.each k d None inside) ∙ (keeps (get_or old k d) (get_or changes k None) (made.made k d None inside)).unpruned (unpruned k d inside)

-- PLANS

-- some element of a list that has one
some : {X : Type 0} (xs : List X) (k : ℕ) → k < length xs → X
some [] k within = absurd (omega arith)
some (x ∷ xs) k within = x

slice_get-some : {X : Type 0} (xs : List X) (k : ℕ) (d : X) → k < length xs → slice_get xs k ≡ Some (get_or xs k d)
slice_get-some [] k d within = absurd (omega arith)
slice_get-some (x ∷ xs) zero d within = refl
slice_get-some (x ∷ xs) (suc k) d within = slice_get-some xs k d (omega arith)

module _ {T Kind Op Delta : Type 0} (ghosts : Ghosts T Kind Op Delta) (id steps : ℕ) (keys : List (KeyState T Kind Op Delta)) (own : AreOwned ghosts id steps keys) where
  -- one step later they are kept
  owned_later : AreOwned ghosts id (steps + 1) keys
  owned_later = record { few = λ k d within. let few = own.few k d within in omega arith; unpruned = own.unpruned; logged = own.logged; of_kinds = own.of_kinds; distinct = own.distinct }

  pub sound_nothing : IsSoundPlan ghosts id steps keys Nothing
  sound_nothing = record {
    can = tt;
    owned = λ after is. subst (AreOwned ghosts id (steps + 1)) (sym is) owned_later;
    declared = λ after is. ap (map declared_by) is;
    kinds = λ k d entry within is. absurd (cc is);
  }

  -- A CHANGE FOR EACH

  module _ (Makes : KeyState T Kind Op Delta → Option (Change T Kind Op Delta) → Type 0) (keeps : (state : KeyState T Kind Op Delta) (change : Option (Change T Kind Op Delta)) → Makes state change → KeepsOwn ghosts.kind_of id state.entry (changed state change).entry)
      (changes : List (Option (Change T Kind Op Delta))) (made : AreMade Makes keys changes) where
    same_kinds : (after : List (KeyState T Kind Op Delta)) → AreChanged keys changes after → AreOfTheirKinds ghosts.kind_of after
    same_kinds after is k d within =
        let inside : k < length keys = (let l = is.same_length in omega arith) in
        let state = get_or keys k d in
        let change = get_or changes k None in
        subst (λ (state : KeyState T Kind Op Delta). ghosts.kind_of state.entry.value ≡ state.kind) (sym (is.each k d None inside))
        ((keeps (get_or keys k d) (get_or changes k None) (made.made k d None inside)).kind ∙ own.of_kinds k d inside ∙ sym (ap (λ (decl : nodes.KeyDecl Kind). decl.kind) (same_declared (get_or keys k d) (get_or changes k None))))

    changed_entry : (state : KeyState T Kind Op Delta) (change : Option (Change T Kind Op Delta)) (entry : Envelope T Kind Op Delta) → new_entry change ≡ Some entry → (changed state change).entry ≡ entry
    changed_entry state (Some (Entry e)) entry is = cc is
    changed_entry state _ entry is = absurd (cc is)

    pub sound_each : IsSoundPlan ghosts id steps keys (Each changes)
    sound_each = record {
      can = made.one_each;
      owned = λ after is. record {
        few = few_changed ghosts.kind_of Makes id keeps keys after changes made is own.unpruned steps (steps + 1) (omega arith) own.few;
        unpruned = unpruned_changed ghosts.kind_of Makes id keeps keys after changes made is own.unpruned;
        logged = logged_changed ghosts.kind_of Makes id keeps keys after changes made is own.unpruned own.logged;
        of_kinds = same_kinds after is;
        distinct = subst AreDistinct (sym (map-places (λ (state : KeyState T Kind Op Delta). state.name) keys after is.same_length
            (λ k d within. ap (λ (state : KeyState T Kind Op Delta). state.name) (is.each k d None within) ∙ same_name _ _))) own.distinct;
      };
      declared = λ after is. map-places declared_by keys after is.same_length (λ k d within. ap declared_by (is.each k d None within) ∙ same_declared _ _);
      kinds = λ k d entry within is.
          let state = get_or keys k d in
          let change = get_or changes k None in
          ap (λ (e : Envelope T Kind Op Delta). ghosts.kind_of e.value) (sym (changed_entry (get_or keys k d) (get_or changes k None) entry is))
          ∙ (keeps (get_or keys k d) (get_or changes k None) (made.made k d None within)).kind ∙ own.of_kinds k d within;
    }

  -- A TICK OF EACH

  module _ (ticks : Vec (KeyTick T Kind Op Delta)) (made : AreMade (IsKeyTick ghosts id) keys ticks.items) where
    sample : (k : ℕ) → k < length keys → KeyTick T Kind Op Delta
    sample k within = some ticks.items k (let l = made.one_each in omega arith)

    name_stays : (after : List (KeyState T Kind Op Delta)) → AreTicked keys ticks.items after → map (λ (state : KeyState T Kind Op Delta). state.name) after ≡ map (λ (state : KeyState T Kind Op Delta). state.name) keys
    name_stays after is = map-places (λ (state : KeyState T Kind Op Delta). state.name) keys after is.same_length (λ k d within. ap (λ (state : KeyState T Kind Op Delta). state.name) (is.each k d (sample k within) within))

    -- what holds of each key after its tick
    each_ticked : (P : KeyState T Kind Op Delta → Type 0) → ((k : ℕ) (d : KeyState T Kind Op Delta) (e : KeyTick T Kind Op Delta) → k < length keys → P (ticked (get_or keys k d) (get_or ticks.items k e)))
        → (after : List (KeyState T Kind Op Delta)) → AreTicked keys ticks.items after → All P after
    each_ticked P holds after is k d within =
        let inside : k < length keys = (let l = is.same_length in omega arith) in
        let e = sample k inside in
        subst P (sym (is.each k d e inside)) (holds k d e inside)

    logged_ticked : (state : KeyState T Kind Op Delta) (tick : KeyTick T Kind Op Delta) → IsKeyTick ghosts id state tick → ghosts.kind_of state.entry.value ≡ state.kind → IsLogged ghosts.kind_of id state → IsLogged ghosts.kind_of id (ticked state tick)
    logged_ticked state tick is kind before = record {
      origin = origin_later state.log tick.prunes.items ∙ before.origin;
      kind = kind_later state.log tick.prunes.items ∙ before.kind ∙ kind ∙ sym is.kind;
      last = last_later state.log tick.prunes.items ∙ ap (λ n. n + length tick.prunes.items) before.last ∙ sym is.number;
    }

    pub sound_ticked : IsSoundPlan ghosts id steps keys (Ticked ticks)
    sound_ticked = record {
      can = record { one_each = made.one_each; made = λ k d e within. (made.made k d e within).follows };
      owned = λ after is. record {
        few = each_ticked (λ state. own_number id state ≤ 255 * (steps + 1)) (λ k d e within.
            let m = made.made k d e within in
            let number = m.number in
            let few = m.few in
            let before = own.few k d within in
            omega (arith, number, few, before)) after is;
        unpruned = each_ticked (λ state. performed_in (parts_of state.entry).marks id ≡ false) (λ k d e within. (made.made k d e within).unpruned) after is;
        logged = each_ticked (IsLogged ghosts.kind_of id) (λ k d e within. logged_ticked (get_or keys k d) (get_or ticks.items k e) (made.made k d e within) (own.of_kinds k d within) (own.logged k d within)) after is;
        of_kinds = each_ticked (λ state. ghosts.kind_of state.entry.value ≡ state.kind) (λ k d e within. (made.made k d e within).kind) after is;
        distinct = subst AreDistinct (sym (name_stays after is)) own.distinct;
      };
      declared = λ after is. map-places declared_by keys after is.same_length (λ k d within. ap declared_by (is.each k d (sample k within) within));
      kinds = λ k d entry within found.
          let e = sample k within in
          let tick = get_or ticks.items k e in
          let told : tick.entry ≡ Some entry = sym (ap entry_told (slice_get-some ticks.items k e (let l = made.one_each in omega arith))) ∙ found in
          ap (λ o. ghosts.kind_of (unwrap_or o (get_or keys k d).entry).value) (sym told) ∙ (made.made k d e within).kind;
    }

  -- ONE OWN RECORD

  module _ (index : ℕ) (at : KeyState T Kind Op Delta) (entry : Envelope T Kind Op Delta) (next : NextRecord Delta) (can : CanRecord ghosts keys index next) (is : at ≡ get_or keys index at)
      (number : own_number id (recorded at entry next) ≡ own_number id at + 1) (marks : (parts_of entry).marks ≡ (parts_of at.entry).marks) (kind : ghosts.kind_of entry.value ≡ ghosts.kind_of at.entry.value) where
    here : KeyState T Kind Op Delta
    here = get_or keys index at

    -- a fact of each key after the record
    each_after : (P : KeyState T Kind Op Delta → Type 0) → P (recorded at entry next) → ((k : ℕ) (d : KeyState T Kind Op Delta) → k < length keys → P (get_or keys k d)) → All P (set keys index (recorded at entry next))
    each_after P new others k d within = elim (cases_eq k index) [
      | inl e ↦ subst P (sym (ap (λ j. get_or (set keys index (recorded at entry next)) j d) e ∙ get_or-set_same keys index (recorded at entry next) d can.within)) new
      | inr ne ↦ subst P (sym (get_or-set_other keys index k (recorded at entry next) d ne)) (others k d (let l = length-set keys index (recorded at entry next) in omega arith))
    ]

    at_fact : (P : KeyState T Kind Op Delta → Type 0) → ((k : ℕ) (d : KeyState T Kind Op Delta) → k < length keys → P (get_or keys k d)) → P at
    at_fact P each = subst P (sym is) (each index at can.within)

    owned_set : AreOwned ghosts id (steps + 1) (set keys index (recorded at entry next))
    owned_set = record {
      few = each_after (λ state. own_number id state ≤ 255 * (steps + 1)) (let few = at_fact (λ state. own_number id state ≤ 255 * steps) own.few in let n = number in omega (arith, n, few)) (λ k d within. let few = own.few k d within in omega arith);
      unpruned = each_after (λ state. performed_in (parts_of state.entry).marks id ≡ false) (ap (λ m. performed_in m id) marks ∙ at_fact (λ state. performed_in (parts_of state.entry).marks id ≡ false) own.unpruned) own.unpruned;
      logged = each_after (IsLogged ghosts.kind_of id) (let l = at_fact (IsLogged ghosts.kind_of id) own.logged in record { origin = l.origin; kind = l.kind ∙ sym kind; last = ap (λ n. n + 1) l.last ∙ sym number }) own.logged;
      of_kinds = each_after (λ state. ghosts.kind_of state.entry.value ≡ state.kind) (kind ∙ at_fact (λ state. ghosts.kind_of state.entry.value ≡ state.kind) own.of_kinds) own.of_kinds;
      distinct = subst AreDistinct (sym (map-set_same (λ (state : KeyState T Kind Op Delta). state.name) keys index (recorded at entry next) at (ap (λ (state : KeyState T Kind Op Delta). state.name) is))) own.distinct;
    }

    -- the key that is found there is this one
    same_there : (state : KeyState T Kind Op Delta) → state ≡ get_or keys index state → state ≡ at
    same_there state there = there ∙ get_or_default keys index state at can.within ∙ sym is

    set_is : (after : List (KeyState T Kind Op Delta)) → IsPlanned keys (At index entry next) after → after ≡ set keys index (recorded at entry next)
    set_is after p = p.2 ∙ ap (λ state. set keys index (recorded state entry next)) (same_there p.0 p.1)

    pub sound_at : IsSoundPlan ghosts id steps keys (At index entry next)
    sound_at = record {
      can = can;
      owned = λ after p. subst (AreOwned ghosts id (steps + 1)) (sym (set_is after p)) owned_set;
      declared = λ after p. ap (map declared_by) (set_is after p) ∙ map-set_same declared_by keys index (recorded at entry next) at (ap declared_by is);
      kinds = λ k d e within found. elim (cases_eq index k) [
        | inl same ↦
            let this : Some entry ≡ Some e = sym (ap (λ b. if b then Some entry else None) (eq-eqb index k same)) ∙ found in
            let that : entry ≡ e = cc this in
            ap (λ (envelope : Envelope T Kind Op Delta). ghosts.kind_of envelope.value) (sym that) ∙ kind
            ∙ subst (λ (state : KeyState T Kind Op Delta). ghosts.kind_of at.entry.value ≡ state.kind) (is ∙ get_or_default keys index at d can.within ∙ ap (λ j. get_or keys j d) same) (at_fact (λ state. ghosts.kind_of state.entry.value ≡ state.kind) own.of_kinds)
        | inr apart ↦ absurd (let test : (index == k) ≡ false = grind arith in cc (found, ap (λ b. if b then Some entry else None) test))
      ];
    }

    -- AND WHAT IT LEADS TO

    module _ (kinds : Text → Kind) (logs : Text → History Op) (old later : nodes.Node Kind Op Shown)
        (others : (k : ℕ) (d : KeyState T Kind Op Delta) → k < length keys → k ≢ index → (later.entries (get_or keys k d).name ≡ old.entries (get_or keys k d).name) × (later.flushed (get_or keys k d).name ≡ old.flushed (get_or keys k d).name))
        (held : All (λ (state : KeyState T Kind Op Delta). StandsForKey ghosts.kind_of ghosts.IsDataOf ghosts.IsDeltaOf kinds logs state (old.entries state.name) (old.flushed state.name)) keys)
        (new : StandsForKey ghosts.kind_of ghosts.IsDataOf ghosts.IsDeltaOf kinds logs (recorded at entry next) (later.entries at.name) (later.flushed at.name)) where
      abbrev Stands : KeyState T Kind Op Delta → Type 0
      Stands state = StandsForKey ghosts.kind_of ghosts.IsDataOf ghosts.IsDeltaOf kinds logs state (later.entries state.name) (later.flushed state.name)

      stands_set : All (λ (state : KeyState T Kind Op Delta). StandsForKey ghosts.kind_of ghosts.IsDataOf ghosts.IsDeltaOf kinds logs state (later.entries state.name) (later.flushed state.name)) (set keys index (recorded at entry next))
      stands_set k d within = elim (cases_eq k index) [
        | inl e ↦ subst Stands (sym (ap (λ j. get_or (set keys index (recorded at entry next)) j d) e ∙ get_or-set_same keys index (recorded at entry next) d can.within)) new
        | inr ne ↦
            let inside : k < length keys = (let l = length-set keys index (recorded at entry next) in omega arith) in
            let still = others k d inside ne in
            subst Stands (sym (get_or-set_other keys index k (recorded at entry next) d ne))
            (subst (λ e. StandsForKey ghosts.kind_of ghosts.IsDataOf ghosts.IsDeltaOf kinds logs (get_or keys k d) e (later.flushed (get_or keys k d).name)) (sym still.0)
            (subst (λ f. StandsForKey ghosts.kind_of ghosts.IsDataOf ghosts.IsDeltaOf kinds logs (get_or keys k d) (old.entries (get_or keys k d).name) f) (sym still.1) (held k d inside)))
      ]

      leads_set : (k : ℕ) (d : KeyState T Kind Op Delta) → k < length keys → StandsAfter ghosts.IsDataOf (logs (get_or keys k d).name) (entry_in (At index entry next) k) (old.entries (get_or keys k d).name) (later.entries (get_or keys k d).name)
      leads_set k d within = elim (cases_eq index k) [
        | inl same ↦
            let there : at ≡ get_or keys k d = is ∙ get_or_default keys index at d can.within ∙ ap (λ j. get_or keys j d) same in
            subst (λ o. StandsAfter ghosts.IsDataOf (logs (get_or keys k d).name) o (old.entries (get_or keys k d).name) (later.entries (get_or keys k d).name)) (sym (ap (λ b. if b then Some entry else None) (eq-eqb index k same)))
            (subst (λ (state : KeyState T Kind Op Delta). StandsAfter ghosts.IsDataOf (logs state.name) (Some entry) (old.entries state.name) (later.entries state.name)) there new.held.image)
        | inr apart ↦
            let test : (index == k) ≡ false = grind arith in
            subst (λ o. StandsAfter ghosts.IsDataOf (logs (get_or keys k d).name) o (old.entries (get_or keys k d).name) (later.entries (get_or keys k d).name)) (sym (ap (λ b. if b then Some entry else None) test))
            (others k d within (λ e. apart (sym e))).0
      ]

      pub leads_at : LeadsOn ghosts kinds logs keys old later (At index entry next)
      leads_at = record {
        stands = λ after p. subst (All (λ (state : KeyState T Kind Op Delta). StandsForKey ghosts.kind_of ghosts.IsDataOf ghosts.IsDeltaOf kinds logs state (later.entries state.name) (later.flushed state.name))) (sym (set_is after p)) stands_set;
        leads = leads_set;
      }

-- WHAT PLANS LEAD TO

module _ {T Kind Op Delta : Type 0} (ghosts : Ghosts T Kind Op Delta) (kinds : Text → Kind) (logs : Text → History Op) (keys : List (KeyState T Kind Op Delta)) (old next : nodes.Node Kind Op Shown)
    (held : All (λ (state : KeyState T Kind Op Delta). StandsForKey ghosts.kind_of ghosts.IsDataOf ghosts.IsDeltaOf kinds logs state (old.entries state.name) (old.flushed state.name)) keys) where
  -- where nothing changes
  pub leads_nothing : next.entries ≡ old.entries → next.flushed ≡ old.flushed → LeadsOn ghosts kinds logs keys old next Nothing
  leads_nothing same flushed = record {
    stands = λ after is. subst (All (λ (state : KeyState T Kind Op Delta). StandsForKey ghosts.kind_of ghosts.IsDataOf ghosts.IsDeltaOf kinds logs state (next.entries state.name) (next.flushed state.name))) (sym is)
        (subst (λ (f : Text → VersionVector). All (λ (state : KeyState T Kind Op Delta). StandsForKey ghosts.kind_of ghosts.IsDataOf ghosts.IsDeltaOf kinds logs state (next.entries state.name) (f state.name)) keys) (sym flushed)
        (subst (λ (e : Text → model.Entry Op). All (λ (state : KeyState T Kind Op Delta). StandsForKey ghosts.kind_of ghosts.IsDataOf ghosts.IsDeltaOf kinds logs state (e state.name) (old.flushed state.name)) keys) (sym same) held));
    leads = λ k d within. ap (λ (e : Text → model.Entry Op). e (get_or keys k d).name) same;
  }

  -- where each has a change
  pub leads_each : (changes : List (Option (Change T Kind Op Delta)))
      → ((k : ℕ) (d : KeyState T Kind Op Delta) → k < length keys → StandsForKey ghosts.kind_of ghosts.IsDataOf ghosts.IsDeltaOf kinds logs (get_or keys k d) (old.entries (get_or keys k d).name) (old.flushed (get_or keys k d).name)
      → StandsForKey ghosts.kind_of ghosts.IsDataOf ghosts.IsDeltaOf kinds logs (changed (get_or keys k d) (get_or changes k None)) (next.entries (get_or keys k d).name) (next.flushed (get_or keys k d).name))
      → ((k : ℕ) (d : KeyState T Kind Op Delta) → k < length keys → new_entry (get_or changes k None) ≡ None → next.entries (get_or keys k d).name ≡ old.entries (get_or keys k d).name)
      → LeadsOn ghosts kinds logs keys old next (Each changes)
  leads_each changes each still = record {
    stands = λ after is k d within.
        let inside : k < length keys = (let l = is.same_length in omega arith) in
        subst (λ (state : KeyState T Kind Op Delta). StandsForKey ghosts.kind_of ghosts.IsDataOf ghosts.IsDeltaOf kinds logs state (next.entries state.name) (next.flushed state.name)) (sym (is.each k d None inside))
        (subst (λ name. StandsForKey ghosts.kind_of ghosts.IsDataOf ghosts.IsDeltaOf kinds logs (changed (get_or keys k d) (get_or changes k None)) (next.entries name) (next.flushed name)) (sym (same_name (get_or keys k d) (get_or changes k None)))
        (each k d inside (held k d inside)));
    leads = λ k d within. after_by (get_or keys k d) (get_or changes k None) (each k d within (held k d within)) (still k d within);
  }
    where
      after_by : (state : KeyState T Kind Op Delta) (change : Option (Change T Kind Op Delta))
          → StandsForKey ghosts.kind_of ghosts.IsDataOf ghosts.IsDeltaOf kinds logs (changed state change) (next.entries state.name) (next.flushed state.name)
          → (new_entry change ≡ None → next.entries state.name ≡ old.entries state.name) → StandsAfter ghosts.IsDataOf (logs state.name) (new_entry change) (old.entries state.name) (next.entries state.name)
      after_by state (Some (Entry entry)) s still = s.held.image
      after_by state _ s still = still refl

  -- where each has a tick
  pub leads_ticked : (ticks : Vec (KeyTick T Kind Op Delta)) → length ticks.items ≡ length keys
      → ((k : ℕ) (d : KeyState T Kind Op Delta) (e : KeyTick T Kind Op Delta) → k < length keys → StandsForKey ghosts.kind_of ghosts.IsDataOf ghosts.IsDeltaOf kinds logs (get_or keys k d) (old.entries (get_or keys k d).name) (old.flushed (get_or keys k d).name)
      → StandsForKey ghosts.kind_of ghosts.IsDataOf ghosts.IsDeltaOf kinds logs (ticked (get_or keys k d) (get_or ticks.items k e)) (next.entries (get_or keys k d).name) (next.flushed (get_or keys k d).name))
      → ((k : ℕ) (d : KeyState T Kind Op Delta) (e : KeyTick T Kind Op Delta) → k < length keys → (get_or ticks.items k e).entry ≡ None → next.entries (get_or keys k d).name ≡ old.entries (get_or keys k d).name)
      → LeadsOn ghosts kinds logs keys old next (Ticked ticks)
  leads_ticked ticks one_each each still = record {
    stands = λ after is k d within.
        let inside : k < length keys = (let l = is.same_length in omega arith) in
        let e = some ticks.items k (omega arith) in
        subst (λ (state : KeyState T Kind Op Delta). StandsForKey ghosts.kind_of ghosts.IsDataOf ghosts.IsDeltaOf kinds logs state (next.entries state.name) (next.flushed state.name)) (sym (is.each k d e inside)) (each k d e inside (held k d inside));
    leads = λ k d within.
        let e = some ticks.items k (omega arith) in
        subst (λ o. StandsAfter ghosts.IsDataOf (logs (get_or keys k d).name) (entry_told o) (old.entries (get_or keys k d).name) (next.entries (get_or keys k d).name)) (sym (slice_get-some ticks.items k e (omega arith)))
        (after_tick (get_or keys k d) (get_or ticks.items k e) (get_or ticks.items k e).entry refl (each k d e within (held k d within)) (still k d e within));
  }
    where
      after_tick : (state : KeyState T Kind Op Delta) (tick : KeyTick T Kind Op Delta) (o : Option (Envelope T Kind Op Delta)) → tick.entry ≡ o
          → StandsForKey ghosts.kind_of ghosts.IsDataOf ghosts.IsDeltaOf kinds logs (ticked state tick) (next.entries state.name) (next.flushed state.name)
          → (tick.entry ≡ None → next.entries state.name ≡ old.entries state.name) → StandsAfter ghosts.IsDataOf (logs state.name) o (old.entries state.name) (next.entries state.name)
      after_tick state tick None is s still = still is
      after_tick state tick (Some entry) is s still = subst (λ (e : Envelope T Kind Op Delta). StandsFor ghosts.IsDataOf (parts_of e) (logs state.name) (next.entries state.name)) (ap (λ o. unwrap_or o state.entry) is) s.held.image

-- WHAT IS PREPARED

module _ {T K Kind Op Delta : Type 0} {ghosts : Ghosts T Kind Op Delta} {keeping : Keeping K} (code : Node T K Kind Op Delta ghosts keeping) where
  -- what a member keeps of its keys
  pub owned : AreOwned ghosts code.id code.steps code.keys.items
  owned = record { few = code.few_own; unpruned = code.unpruned; logged = code.logged; of_kinds = code.of_kinds; distinct = code.distinct }

  pub sound_still : (plan : Plan T Kind Op Delta) → plan ≡ Nothing → IsSoundPlan ghosts code.id code.steps code.keys.items plan
  sound_still plan is = subst (IsSoundPlan ghosts code.id code.steps code.keys.items) (sym is) (sound_nothing ghosts code.id code.steps code.keys.items owned)

  -- a plan, where the operations stay
  pub sound_as : (prepared : Prepared T Kind Op Delta ghosts) → IsSoundPlan ghosts code.id code.steps code.keys.items prepared.plan → prepared.operations ≡ Unchanged → is_pending prepared.output.reply ≡ false → IsSoundFor code prepared
  sound_as prepared plan same quiet = record {
    plan = plan;
    operations = subst (CanChange code.operations) (sym same) tt;
    pending = quiet ∙ sym (ap opens_one same);
  }

  -- a reply and nothing else
  pub sound_told : (prepared : Prepared T Kind Op Delta ghosts) (reply : Reply) → prepared.plan ≡ Nothing → prepared.operations ≡ Unchanged → prepared.output ≡ record { reply = reply; posts = []; finished = None } → is_pending reply ≡ false → IsSoundFor code prepared
  sound_told prepared reply nothing same output quiet = sound_as prepared (sound_still prepared.plan nothing) same (ap (λ (o : Output T Kind Op Delta ghosts). is_pending o.reply) output ∙ quiet)

module _ {T K Kind Op Delta : Type 0} {ghosts : Ghosts T Kind Op Delta} {keeping : Keeping K} (kinds : Text → Kind) (logs : Text → History Op)
    (code : Node T K Kind Op Delta ghosts keeping) (node : nodes.Node Kind Op Shown) (s : StandsForNode ghosts.kind_of ghosts.IsDataOf kinds logs code node) where
  -- the operations stay where the step leaves them
  pub operates_still : (prepared : Prepared T Kind Op Delta ghosts) (next : nodes.Node Kind Op Shown) → prepared.operations ≡ Unchanged → next.open_operations ≡ node.open_operations → next.finished ≡ node.finished → next.next_op ≡ node.next_op
      → StandForOperations (changed_operations (known code.operations) prepared.operations) next
  operates_still prepared next same opens ends number =
      subst (λ change. StandForOperations (changed_operations (known code.operations) change) next) (sym same) (operates_same (known code.operations) node next s.operations opens ends number)

  -- a step that changes no key
  pub prepared_moved : (prepared : Prepared T Kind Op Delta ghosts) (next : nodes.Stepped Kind Op Shown) → prepared.view ≡ None → prepared.plan ≡ Nothing
      → next.node.identity ≡ node.identity → next.node.keys ≡ node.keys → next.node.steps ≡ node.steps + 1 → next.node.view ≡ node.view → next.node.entries ≡ node.entries → next.node.flushed ≡ node.flushed
      → StandForOperations (changed_operations (known code.operations) prepared.operations) next.node → StandsForOutput kinds logs prepared.output next.output → IsPrepared {ghosts = ghosts} kinds logs code.keys.items (known code.operations) node next prepared
  prepared_moved prepared next none nothing identity declared counted viewed entries flushed operates answers = record {
    identity = identity;
    declared = declared;
    counted = counted;
    viewed = viewed ∙ sym (ap (λ o. unwrap_or o node.view) none);
    leads_on = subst (LeadsOn ghosts kinds logs code.keys.items node next.node) (sym nothing) (leads_nothing ghosts kinds logs code.keys.items node next.node s.entries entries flushed);
    operates = operates;
    answers = answers;
  }

  -- one that changes no operation either, and is one later
  pub prepared_later : (prepared : Prepared T Kind Op Delta ghosts) (next : nodes.Stepped Kind Op Shown) → prepared.view ≡ None → prepared.plan ≡ Nothing → prepared.operations ≡ Unchanged → next.node ≡ one_step_later node
      → StandsForOutput kinds logs prepared.output next.output → IsPrepared {ghosts = ghosts} kinds logs code.keys.items (known code.operations) node next prepared
  prepared_later prepared next none nothing same is answers =
      prepared_moved prepared next none nothing (ap (λ n. n.identity) is) (ap (λ n. n.keys) is) (ap (λ n. n.steps) is) (ap (λ n. n.view) is) (ap (λ n. n.entries) is) (ap (λ n. n.flushed) is)
      (operates_still prepared next.node same (ap (λ n. n.open_operations) is) (ap (λ n. n.finished) is) (ap (λ n. n.next_op) is)) answers

-- no posts, and nothing ended
pub quiet_output : {T Kind Op Delta : Type 0} {ghosts : Ghosts T Kind Op Delta} (kinds : Text → Kind) (logs : Text → History Op) (output : Output T Kind Op Delta ghosts) (meaning : nodes.Output Op Shown) → output.posts ≡ [] → output.finished ≡ None → meant output.reply ≡ meaning.reply → meaning.posts ≡ [] → meaning.ended ≡ None
    → StandsForOutput {ghosts = ghosts} kinds logs output meaning
quiet_output {T} {Kind} {Op} {Delta} {ghosts} kinds logs output meaning none none_ends reply none' ended = record {
  reply = reply;
  posts = subst (StandsForPosts {ghosts = ghosts} ghosts.kind_of ghosts.IsDataOf kinds logs output.posts) (sym none') (subst (λ posts. StandsForPosts {ghosts = ghosts} ghosts.kind_of ghosts.IsDataOf kinds logs posts []) (sym none) tt);
  ended = ended ∙ sym (ap (option_map finished_meant) none_ends);
}

-- ANSWERS ALONE

module _ {T K Kind Op Delta : Type 0} {ghosts : Ghosts T Kind Op Delta} {keeping : Keeping K} (kinds : Text → Kind) (logs : Text → History Op)
    (code : Node T K Kind Op Delta ghosts keeping) (node : nodes.Node Kind Op Shown) (s : StandsForNode ghosts.kind_of ghosts.IsDataOf kinds logs code node) (prepared : Prepared T Kind Op Delta ghosts) (reply : Reply)
    (none : prepared.view ≡ None) (nothing : prepared.plan ≡ Nothing) (still : prepared.operations ≡ Unchanged) (output : prepared.output ≡ record { reply = reply; posts = []; finished = None }) where
  told : (meaning : nodes.Output Op Shown) → meant reply ≡ meaning.reply → meaning.posts ≡ [] → meaning.ended ≡ None → StandsForOutput kinds logs prepared.output meaning
  told meaning same = quiet_output kinds logs prepared.output meaning (ap (λ (o : Output T Kind Op Delta ghosts). o.posts) output) (ap (λ (o : Output T Kind Op Delta ghosts). o.finished) output) (ap (λ (o : Output T Kind Op Delta ghosts). meant o.reply) output ∙ same)

  -- a step that is a reply and nothing else
  pub prepared_answered : (next : nodes.Stepped Kind Op Shown) → next ≡ answered (one_step_later node) (meant reply) → IsPrepared {ghosts = ghosts} kinds logs code.keys.items (known code.operations) node next prepared
  prepared_answered next is =
      prepared_later kinds logs code node s prepared next none nothing still (ap (λ (st : nodes.Stepped Kind Op Shown). st.node) is)
      (told next.output (sym (ap (λ (st : nodes.Stepped Kind Op Shown). st.output.reply) is)) (ap (λ (st : nodes.Stepped Kind Op Shown). st.output.posts) is) (ap (λ (st : nodes.Stepped Kind Op Shown). st.output.ended) is))
