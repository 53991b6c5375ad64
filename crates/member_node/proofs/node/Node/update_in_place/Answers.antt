use Rattle.std.proofs.Common.{sym, subst, rules, ◌+◌, set, refl, ◌≡◌, ℕ, length, Vec}
use Rattle.std.specs.Coded.{Coded-set}
use Rattle.std.specs.Vec.{with_item}
use Rattle.std.proofs.Math.Nat.{ℕ_set}
use mathlib.Core.HLevel.{is_prop→PathP}
use Rattle.member_node.proofs.Common.{AreOwned}
use Rattle.member_node.proofs.Updates.{keys_still, owned_still, owned_in_place, steps_in_place}
use Rattle.member_node.proofs.Standing.{tells_same, same_otherwise}
use Rattle.member_node.proofs.node.Node.update_in_place.Given as given
use Rattle.member_node.specs.Updates.{reply_of}
use Rattle.member_node.specs.Answerable.{CanReply}
use Rattle.member_node.proofs.Answerings.{applied_replies}
use Rattle.member_node.proofs.node.Node.update_in_place.Goals as goal

-- the element that stood there leaves all as it was
with_item-same : {X Z : Type 0} (v : Vec X Z) (i : ℕ) (x : X) → set v.items i x ≡ v.items → with_item v i x ≡ v
with_item-same v i x e = λ j. record {
  ptr = v.ptr;
  len = v.len;
  cap = v.cap;
  alloc = v.alloc;
  items = e j;
  ok = (is_prop→PathP (λ k. v.len ≡ length (e k)) (λ k. ℕ_set _ _) (with_item v i x).ok.0 v.ok.0 j, v.ok.1);
  small = v.small;
}

-- MEMORY WAS REFUSED

pub invariant_of-self-in-Err-1 : goal.invariant_of-self-in-Err-1
invariant_of-self-in-Err-1 g c =
    let old = c.args.self.now in
    let kept = owned_still old c.in-Some.index c.index_mut.result.now c.index_mut.ensures.value c.apply.new.self c.in-Err.ensures.err in
    record { few_steps = old.few_steps; few_limit = old.few_limit; few_operations = old.few_operations; few_own = kept.few; unpruned = kept.unpruned; logged = kept.logged; of_kinds = kept.of_kinds; distinct = kept.distinct }

pub returns-in-Err-clause-err : goal.returns-in-Err-clause-err
returns-in-Err-clause-err g c =
    let old = c.args.self.now in
    record {
      same = same_otherwise (Coded-set g.row.T-Kind.coded) old _ refl refl refl (with_item-same old.keys c.in-Some.index c.apply.new.self (keys_still old c.in-Some.index c.index_mut.result.now c.index_mut.ensures.value c.apply.new.self c.in-Err.ensures.err)) refl refl refl;
      told = tells_same g.K.Keeper old.keeper;
    }

-- THE STEP

made : (g : given.Over) (c : goal.In-Ok g) → AreOwned g.T.Replica c.args.self.now.id (c.args.self.now.steps + 1) (set c.args.self.now.keys.items c.in-Some.index c.apply.new.self)
made g c =
    owned_in_place g.T.SpelledData c.args.self.now c.in-Update.key c.in-Update.op c.in-Update.level c.in-Some.index c.in-Some.ensures c.index_mut.result.now c.index_mut.ensures.value
    c.in-Ok.became c.apply.new.self c.in-Ok.ensures.applied

pub invariant_of-self : goal.invariant_of-self
invariant_of-self g c = record {
  few_own = (made g c).few;
  unpruned = (made g c).unpruned;
  logged = (made g c).logged;
  of_kinds = (made g c).of_kinds;
  distinct = (made g c).distinct;
  few_steps = search rules;
  few_limit = c.args.self.now.few_limit;
  few_operations = search rules;
}

pub returns-in-Ok-clause-step : goal.returns-in-Ok-clause-step
returns-in-Ok-clause-step g c =
    steps_in_place g.T.SpelledData c.args.self.now c.in-Update.key c.in-Update.op c.in-Update.level c.in-Some.index c.in-Some.ensures c.index_mut.result.now c.index_mut.ensures.value
    c.in-Ok.became c.apply.new.self c.in-Ok.ensures.applied c.args.input.now c.in-Update.is _ c.requires refl refl refl refl refl refl refl

pub returns-in-Ok-clause-reply : goal.returns-in-Ok-clause-reply
returns-in-Ok-clause-reply g c = subst (λ sent. CanReply sent (reply_of c.in-Ok.became)) (sym c.in-Update.is) (applied_replies c.in-Ok.became)
