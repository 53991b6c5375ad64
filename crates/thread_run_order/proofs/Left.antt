-- The world that a section leaves, by its members and its links.
use Rattle.std.proofs.Common.{◌≡◌, ℕ, zero, suc, ◌+◌, ◌<◌, ◌≤◌, refl, sym, ap, subst, ◌∙◌, true, false, Bool, List, [], ◌∷◌, ◌++◌, length, Option, Some, None, inl, inr, arith}
use Rattle.std.specs.Prelude.{◌&&◌, if◌then◌else◌, option_map}
use Rattle.std.specs.List.{AllByRecursion}
use mathlib.Core.Logic.{dite}
use native.Mathlib.Decide.{dec_lt}
use Rattle.std.proofs.lemmas.Bool.Decides.{eqb_tells}
use Rattle.model_members.specs.View.{View, is_member}
use Rattle.thread_machine.specs.declared.machines.Machines.{Machines}
use Rattle.thread_machine.specs.Machines.{machine_at}
use Rattle.model_kinds.specs.declared.operation.Op.{Op}
use Rattle.data_lattice.specs.declared.replica.Replica.{Ghosts}
use Rattle.member_keeper.specs.declared.keeper.Keeper.{Ghosts as Keeping}
use Rattle.member_messages.specs.declared.message.Message.{Message}
use Rattle.member_views.specs.Sound.{IsView, last_view}
use Rattle.member_node.specs.declared.input.Input.{Input}
use Rattle.member_node.specs.declared.input.Input.TheVariants as form
use Rattle.member_node.specs.declared.node.Node.{Node}
use Rattle.member_node.specs.declared.reply.Fate.{Fate}
use Rattle.member_node.specs.declared.reply.Output.{Output}
use Rattle.member_node.specs.declared.reply.StepError.{StepError}
use Rattle.world_members.specs.declared.parts.Parts.{Parts}
use Rattle.world_members.specs.declared.world.World.{World}
use Rattle.world_places.specs.Channels.{Channel, Channels, channel_at, extended}
use Rattle.world_places.specs.Parts.{ArePlaced}
use Rattle.world_places.specs.Places.{item_at, identity_at, seat_of, keepers_of}
use Rattle.world_places.proofs.Seats.{no_seat, identity_seated, few_places}
use Rattle.thread_run_order.specs.Images.{EntryOf}
use Rattle.thread_run_order.specs.Section.{takes_of, IsGiven, sent_to, taken_from, history_of, after_section}
use Rattle.thread_run_order.specs.Finishing.{after_taken, AreSentByAll, ArePassed, IsLeftOf, members_in}
use Rattle.thread_run_order.proofs.Finishing.{none_more}
use Rattle.thread_run_order.proofs.Places.{seat_there, member_there, ids_apart}

-- eight items are those of the places
pub eight_items : {T K Kind Op Delta I F O R : Type 0} {ghosts : Ghosts T Kind Op Delta} {keeping : Keeping K} (xs : List (Option (Node T K Kind Op Delta ghosts keeping))) (ms : Machines (Node T K Kind Op Delta ghosts keeping) I F O R) → length xs ≡ 8 → ((k : ℕ) → item_at xs k ≡ machine_at ms k) → xs ≡ members_in ms
eight_items (x0 ∷ x1 ∷ x2 ∷ x3 ∷ x4 ∷ x5 ∷ x6 ∷ x7 ∷ []) ms long same = λ i. same 0 i ∷ same 1 i ∷ same 2 i ∷ same 3 i ∷ same 4 i ∷ same 5 i ∷ same 6 i ∷ same 7 i ∷ []
eight_items [] ms long same = absurd (omega (arith, long))
eight_items (x0 ∷ []) ms long same = absurd (omega (arith, long))
eight_items (x0 ∷ x1 ∷ []) ms long same = absurd (omega (arith, long))
eight_items (x0 ∷ x1 ∷ x2 ∷ []) ms long same = absurd (omega (arith, long))
eight_items (x0 ∷ x1 ∷ x2 ∷ x3 ∷ []) ms long same = absurd (omega (arith, long))
eight_items (x0 ∷ x1 ∷ x2 ∷ x3 ∷ x4 ∷ []) ms long same = absurd (omega (arith, long))
eight_items (x0 ∷ x1 ∷ x2 ∷ x3 ∷ x4 ∷ x5 ∷ []) ms long same = absurd (omega (arith, long))
eight_items (x0 ∷ x1 ∷ x2 ∷ x3 ∷ x4 ∷ x5 ∷ x6 ∷ []) ms long same = absurd (omega (arith, long))
eight_items (x0 ∷ x1 ∷ x2 ∷ x3 ∷ x4 ∷ x5 ∷ x6 ∷ x7 ∷ x8 ∷ xs) ms long same = absurd (omega (arith, long))

nobody_past : {M I F O R : Type 0} (ms : Machines M I F O R) (k : ℕ) → 8 ≤ k → machine_at ms k ≡ None
nobody_past ms (suc (suc (suc (suc (suc (suc (suc (suc k)))))))) past = refl
nobody_past ms zero past = absurd (omega (arith, past))
nobody_past ms (suc zero) past = absurd (omega (arith, past))
nobody_past ms (suc (suc zero)) past = absurd (omega (arith, past))
nobody_past ms (suc (suc (suc zero))) past = absurd (omega (arith, past))
nobody_past ms (suc (suc (suc (suc zero)))) past = absurd (omega (arith, past))
nobody_past ms (suc (suc (suc (suc (suc zero))))) past = absurd (omega (arith, past))
nobody_past ms (suc (suc (suc (suc (suc (suc zero)))))) past = absurd (omega (arith, past))
nobody_past ms (suc (suc (suc (suc (suc (suc (suc zero))))))) past = absurd (omega (arith, past))

module _ {M : Type 0} where
  none_taken : (o : Option (Channel M)) → o ≡ option_map (after_taken 0) o
  none_taken None = refl
  none_taken (Some c) = ap (λ n. Some (record { messages = c.messages; next = n })) (sym (elim (eqb_tells c.next (length c.messages)) [
    | inl here ↦ ap (λ t. if t then c.next + 0 else c.next) here.0 ∙ (let z : c.next + 0 ≡ c.next = omega arith in z)
    | inr other ↦ ap (λ t. if t then c.next + 0 else c.next) other.0
  ]))

  both_done : (posts : List M) (n : ℕ) (o : Option (Channel M)) → option_map (extended posts) (option_map (after_taken n) o) ≡ option_map (after_section posts n) o
  both_done posts n None = refl
  both_done posts n (Some c) = refl

-- nothing is taken of who is no member
module _ {T Kind Delta : Type 0} {ghosts : Ghosts T Kind Op Delta} (view : View) (sound : IsView view) (views : List View) (a : ℕ) (absent : is_member view a ≡ false) where
  takes_none : (input : Input T Kind Op Delta ghosts) → IsGiven view views input → takes_of a input ≡ []
  takes_none (form.Update key op level) given = refl
  takes_none (form.Get key level) given = refl
  takes_none (form.Take sender message) given = elim (eqb_tells sender a) [
    | inl here ↦ absurd (let e : ◌≡◌ {A = Bool} false true = sym absent ∙ ap (is_member view) (sym here.1) ∙ member_there view sound given.0 sender given.1 in cc e)
    | inr other ↦ ap (λ t. if t then message ∷ [] else []) other.0
  ]
  takes_none (form.Install other) given = refl
  takes_none form.Flush given = refl
  takes_none (form.GossipTo to) given = refl
  takes_none form.PruneTick given = refl
  takes_none (form.Timeout op) given = refl

module _ {T K Kind Delta : Type 0} {ghosts : Ghosts T Kind Op Delta} {keeping : Keeping K} (view : View) (sound : IsView view) (views : List View) (histories : ℕ → List (EntryOf ghosts keeping)) (given : (place : ℕ) → AllByRecursion (λ (e : EntryOf ghosts keeping). IsGiven view views e.input) (histories place)) where
  takes_nothing : (a : ℕ) → is_member view a ≡ false → (es : List (EntryOf ghosts keeping)) → AllByRecursion (λ (e : EntryOf ghosts keeping). IsGiven view views e.input) es → taken_from a es ≡ []
  takes_nothing a absent [] all = refl
  takes_nothing a absent (e ∷ es) all = ap (λ ms. ms ++ taken_from a es) (takes_none view sound views a absent e.input all.0) ∙ takes_nothing a absent es all.1

  given_of : (b : ℕ) → AllByRecursion (λ (e : EntryOf ghosts keeping). IsGiven view views e.input) (history_of view histories b)
  given_of b = go (seat_of view b)
    where
      go : (o : Option ℕ) → AllByRecursion (λ (e : EntryOf ghosts keeping). IsGiven view views e.input) (elim o [ None ↦ [] | Some place ↦ histories place ])
      go None = tt
      go (Some place) = given place

  abbrev count : ℕ → ℕ → ℕ
  count a b = length (taken_from a (history_of view histories b))

  module _ (l0 l1 l2 : Channels (Message T Kind Op Delta ghosts)) (passed : ArePassed view histories l0 l1) where
    all_passed : (a b : ℕ) → channel_at l1 a b ≡ option_map (after_taken (count a b)) (channel_at l0 a b)
    all_passed a b = passed a b ∙ go (is_member view b) (is_member view a) refl refl
      where
        zero_count : count a b ≡ 0 → channel_at l0 a b ≡ option_map (after_taken (count a b)) (channel_at l0 a b)
        zero_count none = none_taken (channel_at l0 a b) ∙ ap (λ n. option_map (after_taken n) (channel_at l0 a b)) (sym none)

        go : (t u : Bool) → is_member view b ≡ t → is_member view a ≡ u → (if t && u then option_map (after_taken (count a b)) (channel_at l0 a b) else channel_at l0 a b) ≡ option_map (after_taken (count a b)) (channel_at l0 a b)
        go true true e f = refl
        go true false e f = zero_count (ap length (takes_nothing a f (history_of view histories b) (given_of b)))
        go false true e f = zero_count (ap (λ o. length (taken_from a (elim o [ None ↦ [] | Some place ↦ histories place ]))) (no_seat view b e))
        go false false e f = zero_count (ap (λ o. length (taken_from a (elim o [ None ↦ [] | Some place ↦ histories place ]))) (no_seat view b e))

    module _ (members : Machines (Node T K Kind Op Delta ghosts keeping) (Input T Kind Op Delta ghosts) Fate (Output T Kind Op Delta ghosts) StepError)
        (placed : (place : ℕ) → place < 8 → option_map (λ (node : Node T K Kind Op Delta ghosts keeping). node.id) (machine_at members place) ≡ identity_at view place)
        (sent : AreSentByAll (λ place. option_map (λ (node : Node T K Kind Op Delta ghosts keeping). node.id) (machine_at members place)) histories l1 l2) where
      abbrev ids : ℕ → Option ℕ
      ids place = option_map (λ (node : Node T K Kind Op Delta ghosts keeping). node.id) (machine_at members place)

      id_there : (place a : ℕ) → ids place ≡ Some a → identity_at view place ≡ Some a
      id_there place a e = dite (dec_lt place 8) (λ small. sym (placed place small) ∙ e) (λ past. absurd (never past))
        where
          never : ¬ (place < 8) → ⊥
          never past = let past_eight : 8 ≤ place = big past in let x : ◌≡◌ {A = Option ℕ} None (Some a) = sym (ap (λ (o : Option (Node T K Kind Op Delta ghosts keeping)). option_map (λ (node : Node T K Kind Op Delta ghosts keeping). node.id) o) (nobody_past members place past_eight)) ∙ e in absurd (cc x)
            where
              big : ¬ (place < 8) → 8 ≤ place
              big past = omega (arith, past)

      all_sent : (a b : ℕ) → channel_at l2 a b ≡ option_map (extended (sent_to b (history_of view histories a))) (channel_at l1 a b)
      all_sent a b = go (seat_of view a) refl
        where
          go : (o : Option ℕ) → seat_of view a ≡ o → channel_at l2 a b ≡ option_map (extended (sent_to b (elim o [ None ↦ [] | Some place ↦ histories place ]))) (channel_at l1 a b)
          go None e =
              sent.1 a b (λ place small is. absurd (let x : ◌≡◌ {A = Option ℕ} None (Some place) = sym e ∙ seat_there view sound place a (id_there place a is) in cc x)) ∙ none_more (channel_at l1 a b)
          go (Some place) e =
              let small = few_places view sound a place e in
              sent.0 place a b small (placed place small ∙ identity_seated view sound a place e) (λ other is. ids_apart view sound other place a (id_there other a is) (identity_seated view sound a place e))

      pub links_left : (a b : ℕ) → channel_at l2 a b ≡ option_map (after_section (sent_to b (history_of view histories a)) (length (taken_from a (history_of view histories b)))) (channel_at l0 a b)
      links_left a b = all_sent a b ∙ ap (option_map (extended (sent_to b (history_of view histories a)))) (all_passed a b) ∙ both_done (sent_to b (history_of view histories a)) (count a b) (channel_at l0 a b)

-- the world that is made of parts, once the links were passed and the posts sent
module _ {T K Kind Delta : Type 0} {ghosts : Ghosts T Kind Op Delta} {keeping : Keeping K} (parts : Parts T K Kind Op Delta ghosts keeping) (sound : IsView (last_view parts.views)) (histories : ℕ → List (EntryOf ghosts keeping))
    (given : (place : ℕ) → AllByRecursion (λ (e : EntryOf ghosts keeping). IsGiven (last_view parts.views) parts.views e.input) (histories place)) (placed : ArePlaced parts.views parts.members parts.seats.spare.items) (l1 l2 : Channels (Message T Kind Op Delta ghosts)) (passed : ArePassed (last_view parts.views) histories parts.links l1)
    (sent : AreSentByAll (λ place. option_map (λ (node : Node T K Kind Op Delta ghosts keeping). node.id) (machine_at parts.members place)) histories l1 l2) where
  abbrev LeftBy : List View → Channels (Message T Kind Op Delta ghosts) → ℕ → ℕ → Type 0
  LeftBy views links a b = channel_at l2 a b ≡ option_map (after_section (sent_to b (history_of (last_view views) histories a)) (length (taken_from a (history_of (last_view views) histories b)))) (channel_at links a b)

  pub left_of : (new : World T K Kind Op Delta ghosts keeping) → new.views ≡ parts.views → ((place : ℕ) → item_at new.nodes.items place ≡ machine_at parts.members place) → new.links ≡ l2 → new.keys ≡ parts.keys → new.spare ≡ parts.seats.spare → IsLeftOf parts histories new
  left_of new views members links keys spare =
      record {
        left = λ old same_views same_keys same_links same_spare. record {
          views = views ∙ same_views;
          keys = keys ∙ same_keys;
          spare = spare ∙ same_spare;
          members = λ place small. members place;
          links = λ a b.
              ap (λ ls. channel_at ls a b) links
              ∙ subst (λ vs. LeftBy vs old.links a b) same_views (subst (λ ls. LeftBy parts.views ls a b) same_links (links_left (last_view parts.views) sound parts.views histories given parts.links l1 l2 passed parts.members placed.identities sent a b));
        };
      }

-- the keepers of that world are those of the parts
module _ {T K Kind Delta : Type 0} {ghosts : Ghosts T Kind Op Delta} {keeping : Keeping K} (parts : Parts T K Kind Op Delta ghosts keeping) where
  pub keepers_left : (new : World T K Kind Op Delta ghosts keeping) → ((place : ℕ) → item_at new.nodes.items place ≡ machine_at parts.members place) → new.spare ≡ parts.seats.spare → keepers_of new.nodes.items new.spare.items ≡ keepers_of (members_in parts.members) parts.seats.spare.items
  keepers_left new members spare =
      ap (λ ns. keepers_of ns new.spare.items) (eight_items new.nodes.items parts.members (sym new.nodes.ok.0 ∙ new.eight_nodes) members) ∙ ap (λ (v : _). keepers_of (members_in parts.members) v.items) spare
