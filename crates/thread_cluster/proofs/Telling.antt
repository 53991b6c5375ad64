-- Turns, pair by pair.
use Rattle.std.proofs.Common.{◌≡◌, ◌≢◌, ℕ, ◌+◌, ◌<◌, ◌≤◌, false, List, length, drop, Option, Some, None, ap, sym, ◌∙◌, subst, arith}
use Rattle.std.specs.Prelude.{is_some}
use mathlib.Core.Logic.{dite}
use native.Mathlib.Decide.{ℕ_discrete}
use Rattle.std.proofs.Math.Decide.{dec_le}
use Rattle.thread_machine.specs.declared.machine.Machine.{Ghosts}
use Rattle.thread_cell.specs.declared.receipt.Receipt.{Receipt}
use Rattle.thread_cell.specs.Lists.{at}
use Rattle.thread_cell.specs.Values.{ClientParts}
use Rattle.thread_cluster.specs.Passing.{posts, takes, messages, AreAllHeard}
use Rattle.thread_cluster.specs.Knowing.{Known, KnowsMore, Sees, IsAnswered, IsReceipt}
use Rattle.thread_cluster.specs.Turning.{HasHeard, HasTaken, IsHeard, IsAllTaken, HasTurned, HasTurnedTo, HasTold, HaveTold, HasTurnedAll}
use Rattle.thread_cluster.proofs.Lists.{length_left}
use Rattle.thread_cluster.proofs.Posts.{all_heard, all_heard_more, length-messages, posts_begin, takes_begin}
use Rattle.thread_cluster.proofs.Growing.{knows_trans, turns_none, turns_more, turned_after, sees_trans}
use Rattle.thread_cell.proofs.Prefixes.{prefix_self}

pub none_some : {A : Type 0} (o : Option A) (x : A) → is_some o ≡ false → o ≡ Some x → ⊥
none_some None x e f = absurd cc
none_some (Some y) x e f = absurd cc

-- what is below one more is below, or is that
below_more : (P : ℕ → Type 0) (below q : ℕ) → q < below + 1 → (q < below → P q) → (q ≡ below → P q) → P q
below_more P below q lt a b = dite (ℕ_discrete q below) b (λ n. a (omega arith))

pub inside : (ids : ℕ → Option ℕ) → ((p : ℕ) → 8 ≤ p → is_some (ids p) ≡ false) → (p i : ℕ) → ids p ≡ Some i → p < 8
inside ids within p i is = dite (dec_le 8 p) (λ le. absurd (none_some (ids p) i (within p le) is)) (λ n. omega arith)

module _ {M I F O R X : Type 0} (taken : ℕ → I → List X) (posted : ℕ → O → List X) (ids : ℕ → Option ℕ) where
  -- the sender's posts that were known are heard
  pub is_heard : (p q n : ℕ) (a b c : ClientParts M I F O R) → KnowsMore a.seen.known b.seen.known → KnowsMore b.seen.known c.seen.known → length (posts posted (ids q) (at b.seen.known p)) ≤ n → HasHeard taken posted ids p q n c.seen.known → IsHeard taken posted ids p q a c
  is_heard p q n a b c ab bc is h =
      let all : AreAllHeard (posts posted (ids q) (at b.seen.known p)) (takes taken (ids p) (at c.seen.known q)) =
      all_heard (posts posted (ids q) (at b.seen.known p)) (posts posted (ids q) (at c.seen.known p)) (takes taken (ids p) (at c.seen.known q)) h.heard (posts_begin posted taken (ids q) (at b.seen.known p) (at c.seen.known p) (bc.begins p)) (let e = h.count in omega arith) in
      record { all = all_heard_more (posts posted (ids q) (at b.seen.known p)) (posts posted (ids q) (at a.seen.known p)) (takes taken (ids p) (at c.seen.known q)) (takes taken (ids p) (at c.seen.known q)) (posts_begin posted taken (ids q) (at a.seen.known p) (at b.seen.known p) (ab.begins p)) (prefix_self (takes taken (ids p) (at c.seen.known q))) all }

  -- what was taken stays taken
  pub still_taken : (p q : ℕ) (first now later : Known M I F O R) → KnowsMore now later → IsAllTaken taken posted ids p q first now → IsAllTaken taken posted ids p q first later
  still_taken p q first now later more h =
      record { all = all_heard_more (posts posted (ids q) (at first p)) (posts posted (ids q) (at first p)) (takes taken (ids p) (at now q)) (takes taken (ids p) (at later q)) (prefix_self (posts posted (ids q) (at first p))) (takes_begin posted taken (ids p) (at now q) (at later q) (more.begins q)) h.all }

  -- what is heard of what was known is, of what was known before that
  pub taken_before : (p q : ℕ) (first : Known M I F O R) (a b : ClientParts M I F O R) → KnowsMore first a.seen.known → IsHeard taken posted ids p q a b → IsAllTaken taken posted ids p q first b.seen.known
  taken_before p q first a b more h =
      record { all = all_heard_more (posts posted (ids q) (at a.seen.known p)) (posts posted (ids q) (at first p)) (takes taken (ids p) (at b.seen.known q)) (takes taken (ids p) (at b.seen.known q)) (posts_begin posted taken (ids q) (at first p) (at a.seen.known p) (more.begins p)) (prefix_self (takes taken (ids p) (at b.seen.known q))) h.all }

  -- the receiver was asked for its number, the sender for copies, and the receiver took them
  pub heard_from : (p q number n : ℕ) (copies : List X) (o a b c : ClientParts M I F O R) → Sees o a → Sees a b → copies ≡ drop number (messages (posts posted (ids q) (at b.seen.known p)))
      → HasTaken taken posted ids p q (number + length copies) n b c → HasTurned taken posted ids p q n o c
  heard_from p q number n copies o a b c oa ab are t =
      let ps = posts posted (ids q) (at b.seen.known p) in
      let lengths : length copies ≡ length (drop number (messages ps)) = ap length are in
      let all = length_left number (messages ps) in
      let same = length-messages ps in
      let enough : length (posts posted (ids q) (at b.seen.known p)) ≤ number + length copies = omega arith in record {
        turned = turned_after taken ids n o b c (sees_trans o a b oa ab) t.turned;
        heard = is_heard p q (number + length copies) o b c (knows_trans o.seen.known a.seen.known b.seen.known oa.goes_on.knows ab.goes_on.knows) t.turned.goes_on.knows enough t.heard;
      }

  pub turned_to : (p q n : ℕ) (first : Known M I F O R) (a b : ClientParts M I F O R) → KnowsMore first a.seen.known → HasTurned taken posted ids p q n a b → HasTurnedTo taken posted ids p q n first a b
  turned_to p q n first a b more t = record { turned = t.turned; heard = λ i j apart one other. taken_before p q first a b more t.heard }

  pub turned_none : (p q : ℕ) (first : Known M I F O R) (a : ClientParts M I F O R) → Sees a a → is_some (ids q) ≡ false → HasTurnedTo taken posted ids p q 0 first a a
  turned_none p q first a sees none = record { turned = turns_none taken ids a a sees; heard = λ i j apart one other. absurd (none_some (ids q) j none other) }

  pub turned_self : (p q : ℕ) (first : Known M I F O R) (a : ClientParts M I F O R) → Sees a a → p ≡ q → HasTurnedTo taken posted ids p q 0 first a a
  turned_self p q first a sees same = record { turned = turns_none taken ids a a sees; heard = λ i j apart one other. absurd (apart same) }

  -- one place after another
  pub told_none : (p : ℕ) (first : Known M I F O R) (a : ClientParts M I F O R) → Sees a a → HasTold taken posted ids p 0 0 first a a
  told_none p first a sees = record { turned = turns_none taken ids a a sees; heard = λ q i j lt apart one other. absurd (omega arith) }

  pub told_nobody : (p : ℕ) (first : Known M I F O R) (a : ClientParts M I F O R) → Sees a a → is_some (ids p) ≡ false → HasTold taken posted ids p 8 0 first a a
  told_nobody p first a sees none = record { turned = turns_none taken ids a a sees; heard = λ q i j lt apart one other. absurd (none_some (ids p) i none one) }

  pub told_more : (p below m n : ℕ) (first : Known M I F O R) (a b c : ClientParts M I F O R) → HasTold taken posted ids p below m first a b → HasTurnedTo taken posted ids p below n first b c → HasTold taken posted ids p (below + 1) (m + n) first a c
  told_more p below m n first a b c f s = record {
    turned = turns_more taken ids m n a b c f.turned s.turned;
    heard = λ q i j lt apart one other.
        below_more (λ (w : ℕ). p ≢ w → ids w ≡ Some j → IsAllTaken taken posted ids p w first c.seen.known) below q lt
        (λ less away has. still_taken p q first b.seen.known c.seen.known s.turned.goes_on.knows (f.heard q i j less away one has))
        (λ is. subst (λ (w : ℕ). p ≢ w → ids w ≡ Some j → IsAllTaken taken posted ids p w first c.seen.known) (sym is) (λ away has. s.heard i j away one has))
        apart other;
  }

  pub have_told_none : (first : Known M I F O R) (a b : ClientParts M I F O R) → Sees a b → HaveTold taken posted ids 0 0 first a b
  have_told_none first a b sees = record { turned = turns_none taken ids a b sees; heard = λ p q i j lt apart one other. absurd (omega arith) }

  module _ (within : (p : ℕ) → 8 ≤ p → is_some (ids p) ≡ false) where
    pub have_told_more : (below m n : ℕ) (first : Known M I F O R) (a b c : ClientParts M I F O R) → HaveTold taken posted ids below m first a b → HasTold taken posted ids below 8 n first b c → HaveTold taken posted ids (below + 1) (m + n) first a c
    have_told_more below m n first a b c f s = record {
      turned = turns_more taken ids m n a b c f.turned s.turned;
      heard = λ p q i j lt apart one other.
          below_more (λ (w : ℕ). w ≢ q → ids w ≡ Some i → IsAllTaken taken posted ids w q first c.seen.known) below p lt
          (λ less away has. still_taken p q first b.seen.known c.seen.known s.turned.goes_on.knows (f.heard p q i j less away has other))
          (λ is. subst (λ (w : ℕ). w ≢ q → ids w ≡ Some i → IsAllTaken taken posted ids w q first c.seen.known) (sym is) (λ away has. s.heard q i j (inside ids within q j other) away has other))
          apart one;
    }

    pub turned_all : (n : ℕ) (a b : ClientParts M I F O R) → HaveTold taken posted ids 8 n a.seen.known a b → HasTurnedAll taken posted ids n a b
    turned_all n a b t = record { turned = t.turned; heard = λ p q i j apart one other. record { all = (t.heard p q i j (inside ids within p i one) apart one other).all } }

-- a receipt's place is the member's
pub receipt_at : {M I F O R : Type 0} (meaning : Ghosts M I F O R) (ids : ℕ → Option ℕ) (id : ℕ) (input : I) (p : ℕ) (a b : ClientParts M I F O R) (receipt : Receipt M I F O R) → ids p ≡ Some id → IsAnswered meaning p input a b receipt → IsReceipt meaning ids id input a b receipt
receipt_at meaning ids id input p a b receipt here answered = record {
  here = ap ids answered.place ∙ here;
  answered = subst (λ (w : ℕ). IsAnswered meaning w input a b receipt) (sym answered.place) answered;
}

-- no identity of the places so far is this one
pub nowhere_more : (ids : ℕ → Option ℕ) (id place : ℕ) → ((p : ℕ) → p < place → ids p ≢ Some id) → ids place ≢ Some id → (p : ℕ) → p < place + 1 → ids p ≢ Some id
nowhere_more ids id place before here p lt = below_more (λ (w : ℕ). ids w ≢ Some id) place p lt (before p) (λ is. subst (λ (w : ℕ). ids w ≢ Some id) (sym is) here)

pub nowhere_without : (ids : ℕ → Option ℕ) (id place : ℕ) → is_some (ids place) ≡ false → ids place ≢ Some id
nowhere_without ids id place none is = none_some (ids place) id none is

-- another member is there
pub nowhere_but : (ids : ℕ → Option ℕ) (id other place : ℕ) → ids place ≡ Some other → other ≢ id → ids place ≢ Some id
nowhere_but ids id other place there differs is = let same : other ≡ id = cc (there, is) in differs same
