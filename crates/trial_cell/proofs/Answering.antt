-- What a call under a lock tells its session.
use Rattle.std.proofs.Common.{◌≡◌, ℕ, suc, ◌+◌, List, [], ◌∷◌, ◌++◌, length, take, slice_get, Some, Result, Ok, Err, refl, ap, sym, ◌∙◌, subst, arith}
use Rattle.std.specs.Prelude.{IfOk}
use Rattle.std.specs.Result.{result_ok}
use Rattle.std.proofs.lemmas.Option.{slice_get_past}
use mathlib.Core.List.{IsPrefix}
use Rattle.thread_cell.specs.declared.receipt.Receipt.{Receipt}
use Rattle.thread_cell.specs.Lists.{at, longer_each}
use Rattle.thread_cell.specs.Values.{Accepts, Began}
use Rattle.thread_cell.proofs.Prefixes.{prefix_length, prefix_trans, longer_whole_too}
use Rattle.thread_cell.proofs.Lists.{at-longer_each}
use Rattle.trial_cell.specs.contracts.tally.TallyMachine.TheImpl.{ghosts}
use Rattle.trial_cell.specs.declared.shelf.Fate.{Fate}
use Rattle.trial_cell.specs.declared.tally.Overflow.{Overflow}
use Rattle.trial_cell.specs.declared.tally.Tally.{Tally}
use Rattle.trial_cell.specs.Tallies.{Added, amounts}
use Rattle.trial_cell.specs.Answers.{Client, Place, GoesOn, IsAnswered, IsShown}
use Rattle.trial_cell.proofs.Totals.{amounts-push, total_of}

pub if_ok : {A E : Type 0} (r : Result A E) (P Q : A → Type 0) → ((x : A) → P x → Q x) → IfOk r P → IfOk r Q
if_ok (Ok x) P Q more p = more x p
if_ok (Err e) P Q more p = p

pub ok_of : {A E : Type 0} (r : Result A E) (x : A) (P : A → Type 0) → Some x ≡ result_ok r → IfOk r P → P x
ok_of (Ok y) x P is p = let same : y ≡ x = cc is in subst P same p
ok_of (Err e) x P is p = absurd (cc is)

last_of : {A : Type 0} (h : List A) (e : A) → slice_get (h ++ e ∷ []) (length h) ≡ Some e
last_of [] e = refl
last_of (x ∷ h) e = last_of h e

take_all : {A : Type 0} (h : List A) (e : A) → take (suc (length h)) (h ++ e ∷ []) ≡ h ++ e ∷ []
take_all [] e = refl
take_all (x ∷ h) e = ap (λ w. x ∷ w) (take_all h e)

module _ (p amount : ℕ) (c c' : Place) (s s' : Client) (r : Receipt Tally ℕ Fate ℕ Overflow) (made : Accepts ghosts p amount c s c' s' r) (began : Began ghosts p c.seen.began (at c.seen.known p) c.machine) where
  index_is : r.index ≡ length (at c.seen.known p)
  index_is = ap (λ (x : Receipt Tally ℕ Fate ℕ Overflow). x.index) made.receipt_is

  known_is : at s'.seen.known p ≡ at c.seen.known p ++ made.entry ∷ []
  known_is = made.same p ∙ made.history

  taken_is : take (r.index + 1) (at s'.seen.known p) ≡ at c.seen.known p ++ made.entry ∷ []
  taken_is = ap (λ (n : ℕ). take n (at s'.seen.known p)) (let n = index_is in let e : r.index + 1 ≡ suc (length (at c.seen.known p)) = omega arith in e) ∙ (ap (take (suc (length (at c.seen.known p)))) known_is ∙ take_all (at c.seen.known p) made.entry)

  pub answered : IsAnswered p amount s s' r
  answered = record {
    entry = made.entry;
    place = ap (λ (x : Receipt Tally ℕ Fate ℕ Overflow). x.place) made.receipt_is;
    stands = ap (λ (n : ℕ). slice_get (at s'.seen.known p) n) index_is ∙ (ap (λ (h : List Added). slice_get h (length (at c.seen.known p))) known_is ∙ last_of (at c.seen.known p) made.entry);
    is_new = slice_get_past (at s.seen.known p) r.index (let n = index_is in let l = prefix_length (at s.seen.known p) (at c.seen.known p) made.behind in omega arith);
    input_is = made.input_is;
    client_is = made.client_is;
    stamp_is = sym (ap (λ (x : Receipt Tally ℕ Fate ℕ Overflow). x.stamp) made.receipt_is);
    output_is = sym (ap (λ (x : Receipt Tally ℕ Fate ℕ Overflow). x.output) made.receipt_is);
    later = let a = ap (λ (x : Receipt Tally ℕ Fate ℕ Overflow). x.stamp) made.receipt_is in let b = made.stamp_is in omega arith;
    calls = made.calls ∙ ap (λ (n : ℕ). s.calls ++ (p, n) ∷ []) (sym index_is);
    start = began.start;
    starts = record { opening = began.opening; opening_is = made.began.2 ∙ began.began_is; start_is = began.start_is };
    total =
        let a = ap (λ (x : Receipt Tally ℕ Fate ℕ Overflow). x.output) made.receipt_is in
        let b = made.steps.output_is in
        let d = made.steps.total in
        let t = total_of began.start c.machine (at c.seen.known p) began.replay.replays in
        let more = amounts-push (at c.seen.known p) made.entry in
        let input = made.input_is in
        let all = ap amounts taken_is in omega arith;
    goes_on = record {
      number = made.number;
      table = made.table;
      began = made.began.1;
      knows = λ q. subst (IsPrefix (at s.seen.known q)) (sym (made.same q)) (made.client_knew q);
    };
  }

-- cell and session met, first the cell
module _ (p : ℕ) (c : Place) (s s' : Client) (n : ℕ) (began : Began ghosts p c.seen.began (at c.seen.known p) c.machine) (knew : (q : ℕ) → IsPrefix (at s.seen.known q) (at c.seen.known q)) (known : s'.seen.known ≡ longer_each s.seen.known c.seen.known) where
  same_known : (q : ℕ) → at s'.seen.known q ≡ at c.seen.known q
  same_known q = ap (λ hs. at hs q) known ∙ (at-longer_each s.seen.known c.seen.known q ∙ longer_whole_too (at s.seen.known q) (at c.seen.known q) (knew q))

  pub shown : s.seen.began ≡ c.seen.began → s'.seen.began ≡ s.seen.began → s'.seen.table ≡ s.seen.table → s'.number ≡ s.number → s'.calls ≡ s.calls → n ≡ c.machine.total → IsShown p s s' n
  shown one_began same_began table number calls is = record {
    start = began.start;
    starts = record { opening = began.opening; opening_is = one_began ∙ began.began_is; start_is = began.start_is };
    total = is ∙ (total_of began.start c.machine (at c.seen.known p) began.replay.replays ∙ ap (λ (h : List Added). began.start.total + amounts h) (sym (same_known p)));
    calls = calls;
    goes_on = record { number = number; table = table; began = same_began; knows = λ q. subst (IsPrefix (at s.seen.known q)) (sym (same_known q)) (knew q) };
  }

-- one call after another
pub goes_on_after : (a b c : Client) → GoesOn a b → GoesOn b c → GoesOn a c
goes_on_after a b c f g = record {
  number = g.number ∙ f.number;
  table = g.table ∙ f.table;
  began = g.began ∙ f.began;
  knows = λ p. prefix_trans (at a.seen.known p) (at b.seen.known p) (at c.seen.known p) (f.knows p) (g.knows p);
}
