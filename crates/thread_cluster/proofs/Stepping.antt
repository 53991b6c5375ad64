-- What a step of a cell leaves of cell and session.
use Rattle.std.proofs.Common.{◌≡◌, ℕ, zero, suc, max, if◌then◌else◌, List, [], ◌∷◌, ◌++◌, length, take, Option, Some, None, slice_get, refl, ap, sym, ◌∙◌, subst, arith, length-append}
use Rattle.std.specs.Prelude.{◌==◌, ◌↔◌, Result, Ok, Err, IfErr, OnErr}
use mathlib.Core.List.{IsPrefix}
use Rattle.atomic_table.specs.Seated.{TableId}
use Rattle.thread_machine.specs.declared.machine.Machine.{Ghosts}
use Rattle.thread_machine.specs.declared.entry.Entry.{Entry}
use Rattle.thread_machine.specs.Replays.{Replays}
use Rattle.thread_cell.specs.declared.cell.CellError.{CellError}
use Rattle.thread_cell.specs.declared.cell.CellError.TheVariants.{CellFull, Refused, Memory}
use Rattle.thread_cell.specs.declared.receipt.Receipt.{Receipt}
use Rattle.thread_cell.specs.Lists.{at, longer_each}
use Rattle.thread_cell.specs.Rule.{calls_at}
use Rattle.thread_cell.specs.Values.{Accepts, Began, ClientParts, CellParts, Sights}
use Rattle.thread_cell.proofs.Prefixes.{prefix_length, longer_whole_too}
use Rattle.thread_cell.proofs.Lists.{at-longer_each}
use Rattle.thread_cluster.specs.Passing.{at_one, takes, HasUnheard}
use Rattle.thread_cluster.specs.Knowing.{GoesOn, IsTake, IsAnswered, IsCause, IsShown}
use Rattle.thread_cluster.specs.Meeting.{AreAlike, HasMet, Took}
use Rattle.thread_cluster.specs.Turning.{IsCauseSomewhere}
use Rattle.thread_cluster.proofs.Lists.{get_end, get_past, take_whole}
use Rattle.thread_cluster.proofs.Posts.{passed_this, at_from}

module _ {M I F O R : Type 0} (meaning : Ghosts M I F O R) (p : ℕ) (input : I) (c c' : CellParts M I F O R) (s s' : ClientParts M I F O R) (receipt : Receipt M I F O R) (made : Accepts meaning p input c s c' s' receipt) where
  pub goes_on : GoesOn s s'
  goes_on = record {
    knows = record { begins = λ q. subst (IsPrefix (at s.seen.known q)) (sym (made.same q)) (made.client_knew q) };
    stamp = let a = made.stamp in let b = made.stamp_is in omega arith;
    number = made.number;
    table = made.table;
    began = made.began.1;
  }

  pub entry_stands : slice_get (at s'.seen.known p) (length (at c.seen.known p)) ≡ Some made.entry
  entry_stands = subst (λ (w : List (Entry M I F O R)). slice_get w (length (at c.seen.known p)) ≡ Some made.entry) (sym (made.same p ∙ made.history)) (get_end (at c.seen.known p) made.entry [])

  index_is : receipt.index ≡ length (at c.seen.known p)
  index_is = ap (λ (r : Receipt M I F O R). r.index) made.receipt_is

  so_far : take receipt.index (at s'.seen.known p) ≡ at c.seen.known p
  so_far =
      ap (λ (k : ℕ). take k (at s'.seen.known p)) index_is
      ∙ (ap (take (length (at c.seen.known p))) (made.same p ∙ made.history) ∙ take_whole (at c.seen.known p) (made.entry ∷ []))

  pub answered : Began meaning p c.seen.began (at c.seen.known p) c.machine → IsAnswered meaning p input s s' receipt
  answered began = record {
    entry = made.entry;
    place = ap (λ (r : Receipt M I F O R). r.place) made.receipt_is;
    stands = subst (λ (i : ℕ). slice_get (at s'.seen.known p) i ≡ Some made.entry) (sym index_is) entry_stands;
    is_new = subst (λ (i : ℕ). slice_get (at s.seen.known p) i ≡ None) (sym index_is) (get_past (at s.seen.known p) (length (at c.seen.known p)) (prefix_length (at s.seen.known p) (at c.seen.known p) made.behind));
    input_is = made.input_is;
    client_is = made.client_is;
    stamp_is = sym (ap (λ (r : Receipt M I F O R). r.stamp) made.receipt_is);
    output_is = sym (ap (λ (r : Receipt M I F O R). r.output) made.receipt_is);
    later = let a = ap (λ (r : Receipt M I F O R). r.stamp) made.receipt_is in let b = made.stamp_is in omega arith;
    calls = subst (λ (i : ℕ). s'.calls ≡ s.calls ++ (p, i) ∷ []) (sym index_is) made.calls;
    is_new_call = subst (λ (i : ℕ). calls_at p i s.calls ≡ 0) (sym index_is) made.is_new;
    goes_on = goes_on;
    start = began.start;
    starts = record { opening = began.opening; opening_is = made.began.2 ∙ began.began_is; start_is = began.start_is };
    step = record {
      before = c.machine;
      after = c'.machine;
      replays = subst (λ (h : List (Entry M I F O R)). Replays meaning began.start h c.machine) (sym so_far) began.replay.replays;
      steps = subst (λ (i : I). meaning.Steps c.machine i made.entry.fate made.entry.output c'.machine) (sym made.input_is) made.steps;
    };
  }

  module _ {X : Type 0} (taken : ℕ → I → List X) (ids : ℕ → Option ℕ) where
    pub took : (q from : ℕ) (m : X) → ids q ≡ Some from → ((id : ℕ) → taken id input ≡ (if id == from then m ∷ [] else [])) → Took taken ids q p c c' s s'
    took q from m from_is says =
        let says_of : (id : ℕ) → taken id made.entry.input ≡ (if id == from then m ∷ [] else []) = λ id. ap (taken id) made.input_is ∙ says id in
        let this = at_from taken (Some from) from made.entry.input m refl says_of in
        record {
          count =
              ap (λ (w : List (Entry M I F O R)). length (takes taken (ids q) w)) made.history
              ∙ (ap length (passed_this (λ (x : Entry M I F O R). at_one taken (ids q) x.input) (at c.seen.known p) made.entry m (at_from taken (ids q) from made.entry.input m from_is says_of))
              ∙ omega (arith, length-append (takes taken (ids q) (at c.seen.known p)) (record { message = m; stamp = made.entry.stamp } ∷ [])));
          grown = ap length made.history ∙ omega (arith, length-append (at c.seen.known p) (made.entry ∷ []));
          more = record { begins = made.cell_knew };
          alike = record { same = record { same = made.same }; began = made.began.1 ∙ (made.began.2 ∙ sym made.began.0) };
          turned = record {
            goes_on = goes_on;
            grew = record {
              added = (p, length (at c.seen.known p)) ∷ [];
              count = refl;
              calls = made.calls;
              each = λ k call e. one_call taken ids q from m from_is this k call e;
            };
          };
        }
      where
        one_call : (taken : ℕ → I → List X) (ids : ℕ → Option ℕ) (q from : ℕ) (m : X) → ids q ≡ Some from → taken from made.entry.input ≡ m ∷ [] → (k : ℕ) (call : ℕ × ℕ) → slice_get ((p, length (at c.seen.known p)) ∷ []) k ≡ Some call → IsTake taken ids s'.number s'.seen.known call
        one_call taken ids q from m from_is this zero call e =
            let is : (p, length (at c.seen.known p)) ≡ call = cc in
            subst (IsTake taken ids s'.number s'.seen.known) is (record { entry = made.entry; stands = entry_stands; is_own = made.client_is ∙ sym made.number; sender = q; from = from; sent_by = from_is; message = m; is_take = this })
        one_call taken ids q from m from_is this (suc k) call e = absurd cc

-- a session and a cell that met twice, first the cell with what the session had seen
pub has_met : {M I F O R : Type 0} (p : ℕ) (table : TableId) (c one two : CellParts M I F O R) (s first last : ClientParts M I F O R) (n note : Sights M I F O R)
    → n ≡ s.seen → first ≡ s → one.machine ≡ c.machine → at one.seen.known p ≡ at c.seen.known p → (one.seen.began ≡ c.seen.began) × (n.began ≡ c.seen.began)
    → one.seen.known ≡ longer_each c.seen.known n.known
    → ((q : ℕ) → IsPrefix (at c.seen.known q) (at one.seen.known q) × IsPrefix (at n.known q) (at one.seen.known q))
    → one.seen.stamp ≡ max c.seen.stamp n.stamp
    → note ≡ one.seen → two ≡ one
    → s.seen.table ≡ table → last.seen.table ≡ table
    → (last.seen.began ≡ first.seen.began) × (note.began ≡ first.seen.began)
    → last.seen.known ≡ longer_each first.seen.known note.known
    → last.seen.stamp ≡ max first.seen.stamp note.stamp
    → (last.number ≡ first.number) × (last.calls ≡ first.calls)
    → HasMet p c two s last
has_met {M = M} {I = I} {F = F} {O = O} {R = R} p table c one two s first last n note n_is first_is machine history began known knew clock note_is two_is at_table still_table began' known' stamp client =
    let nk : n.known ≡ s.seen.known = ap (λ (w : Sights M I F O R). w.known) n_is in
    let ns : n.stamp ≡ s.seen.stamp = ap (λ (w : Sights M I F O R). w.stamp) n_is in
    let fk : first.seen.known ≡ s.seen.known = ap (λ (w : ClientParts M I F O R). w.seen.known) first_is in
    let fs : first.seen.stamp ≡ s.seen.stamp = ap (λ (w : ClientParts M I F O R). w.seen.stamp) first_is in
    let fb : first.seen.began ≡ s.seen.began = ap (λ (w : ClientParts M I F O R). w.seen.began) first_is in
    let tk : two.seen.known ≡ one.seen.known = ap (λ (w : CellParts M I F O R). w.seen.known) two_is in
    let tb : two.seen.began ≡ one.seen.began = ap (λ (w : CellParts M I F O R). w.seen.began) two_is in
    let ok : note.known ≡ one.seen.known = ap (λ (w : Sights M I F O R). w.known) note_is in
    let os : note.stamp ≡ one.seen.stamp = ap (λ (w : Sights M I F O R). w.stamp) note_is in
    let ob : note.began ≡ one.seen.began = ap (λ (w : Sights M I F O R). w.began) note_is in
    let short : (q : ℕ) → IsPrefix (at s.seen.known q) (at one.seen.known q) = λ q. subst (λ (w : List (List (Entry M I F O R))). IsPrefix (at w q) (at one.seen.known q)) nk ((knew q).1) in
    let whole : (q : ℕ) → at last.seen.known q ≡ at one.seen.known q = λ q.
    ap (λ (w : List (List (Entry M I F O R))). at w q) (known' ∙ (ap (λ (w : List (List (Entry M I F O R))). longer_each w note.known) fk ∙ ap (λ (w : List (List (Entry M I F O R))). longer_each s.seen.known w) ok))
    ∙ (at-longer_each s.seen.known one.seen.known q ∙ longer_whole_too (at s.seen.known q) (at one.seen.known q) (short q)) in
    record {
      machine = ap (λ (w : CellParts M I F O R). w.machine) two_is ∙ machine;
      history = ap (λ (w : List (List (Entry M I F O R))). at w p) tk ∙ history;
      more = record { begins = λ q. subst (λ (w : List (List (Entry M I F O R))). IsPrefix (at c.seen.known q) (at w q)) (sym tk) ((knew q).0) };
      alike = record {
        same = record { same = λ q. whole q ∙ ap (λ (w : List (List (Entry M I F O R))). at w q) (sym tk) };
        began = began'.0 ∙ (sym began'.1 ∙ (ob ∙ sym tb));
      };
      sees = record {
        goes_on = record {
          knows = record { begins = λ q. subst (IsPrefix (at s.seen.known q)) (sym (whole q)) (short q) };
          stamp = omega arith;
          number = client.0 ∙ ap (λ (w : ClientParts M I F O R). w.number) first_is;
          table = still_table ∙ sym at_table;
          began = began'.0 ∙ fb;
        };
        calls = client.1 ∙ ap (λ (w : ClientParts M I F O R). w.calls) first_is;
      };
    }

module _ {M I F O R : Type 0} (meaning : Ghosts M I F O R) (p : ℕ) (input : I) (c c' : CellParts M I F O R) (s s' : ClientParts M I F O R) where
  -- why a step was refused, in what the session knows
  pub is_cause : {A : Type 0} (Y : Type 0) (r : Result A (CellError R)) → (r ≡ Err CellFull → length (at c.seen.known p) ≡ 16384)
      → ((refusal : R) → r ≡ Err (Refused refusal) → meaning.MayRefuse c.machine input refusal × meaning.IsUnchanged c.machine c'.machine)
      → OnErr r (Y × (s' ≡ s)) → AreAlike c s → Began meaning p c.seen.began (at c.seen.known p) c.machine → IfErr r (IsCause meaning p input s')
  is_cause Y (Ok x) full refused err alike began = tt
  is_cause Y (Err CellFull) full refused err alike began = record { full = ap (λ (w : ClientParts M I F O R). length (at w.seen.known p)) err.1 ∙ (ap length (alike.same.same p) ∙ full refl) }
  is_cause Y (Err (Refused refusal)) full refused err alike began =
      let same : at s'.seen.known p ≡ at c.seen.known p = ap (λ (w : ClientParts M I F O R). at w.seen.known p) err.1 ∙ alike.same.same p in record {
        start = began.start;
        starts = record { opening = began.opening; opening_is = ap (λ (w : ClientParts M I F O R). w.seen.began) err.1 ∙ (alike.began ∙ began.began_is); start_is = began.start_is };
        now = c.machine;
        replays = subst (λ (h : List (Entry M I F O R)). Replays meaning began.start h c.machine) (sym same) began.replay.replays;
        may = (refused refusal refl).0;
      }
  is_cause Y (Err Memory) full refused err alike began = tt

  -- of a take, which left what the session knows
  pub somewhere : {A X : Type 0} (taken : ℕ → I → List X) (posted : ℕ → O → List X) (ids : ℕ → Option ℕ) (q : ℕ) (Y : Type 0) (r : Result A (CellError R))
      → HasUnheard posted taken ids q p s.seen.known → OnErr r (Y × (s' ≡ s)) → IfErr r (IsCause meaning p input s') → IfErr r (IsCauseSomewhere meaning taken posted ids s')
  somewhere taken posted ids q Y (Ok x) unheard err h = tt
  somewhere taken posted ids q Y (Err CellFull) unheard err h = record {
    place = p;
    full = h;
    sender = q;
    unheard = subst (λ (w : ClientParts M I F O R). HasUnheard posted taken ids q p w.seen.known) (sym err.1) unheard;
  }
  somewhere taken posted ids q Y (Err (Refused refusal)) unheard err h = record {
    place = p;
    input = input;
    refused = h;
    sender = q;
    unheard = subst (λ (w : ClientParts M I F O R). HasUnheard posted taken ids q p w.seen.known) (sym err.1) unheard;
  }
  somewhere taken posted ids q Y (Err Memory) unheard err h = tt

-- what the cell's member shows, after a meeting
pub shown : {M I F O R Q A : Type 0} (meaning : Ghosts M I F O R) (Shows : M → Q → A → Type 0) (p : ℕ) (question : Q) (c c' : CellParts M I F O R) (s s' : ClientParts M I F O R) (now : M) (answer : A)
    → HasMet p c c' s s' → Began meaning p c'.seen.began (at c'.seen.known p) c'.machine → now ≡ c'.machine → Shows now question answer → IsShown meaning Shows p question s s' answer
shown {M = M} {I = I} {F = F} {O = O} {R = R} meaning Shows p question c c' s s' now answer met began now_is shows = record {
  start = began.start;
  starts = record { opening = began.opening; opening_is = sym met.sees.goes_on.began ∙ (met.alike.began ∙ began.began_is); start_is = began.start_is };
  now = c'.machine;
  replays = subst (λ (h : List (Entry M I F O R)). Replays meaning began.start h c'.machine) (sym (met.alike.same.same p)) began.replay.replays;
  shows = subst (λ (m : M). Shows m question answer) now_is shows;
  sees = met.sees;
}
