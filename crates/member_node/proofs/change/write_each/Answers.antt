use Rattle.std.proofs.Common.{◌≡◌, ◌+◌, ◌<◌, [], ◌∷◌, ◌++◌, length, get_or, refl, sym, ap, ◌∙◌, subst, arith, Some, length-set, append_assoc, append-nil, inl, inr}
use Rattle.std.proofs.lemmas.List.{get_or_default, get_or-set_other, nil_from_length}
use Rattle.std.proofs.lemmas.Bool.{cases_eq}
use Rattle.std.proofs.lemmas.Grind.{get_or-set_at}
use Rattle.member_node.specs.Changes.{AreRising, changed, change_at}
use Rattle.member_node.specs.declared.key.KeyState.{KeyState}
use Rattle.member_node.proofs.Sparse.{rising_after, rising_within, change_none, change_here, change_later}
use Rattle.member_node.proofs.change.write_each.Goals as goal

pub loop-at-init : goal.loop-at-init
loop-at-init g c = record { same_length = refl; done = []; left = sym (append-nil c.args.written.items); each = λ k d within. refl }

pub write_at-requires : goal.write_at-requires
write_at-requires g c =
    let inv = c.loop-at.invariant in
    let at = c.in-Some.at in
    let popped = c.in-Some.ensures.items in
    let is : c.args.written.items ≡ c.pop.new.self.items ++ at ∷ inv.done = inv.left ∙ ap (λ xs. xs ++ inv.done) popped ∙ append_assoc c.pop.new.self.items (at ∷ []) inv.done in
    let within = rising_within 0 (length c.args.keys.now) c.pop.new.self.items at inv.done (subst (AreRising 0 (length c.args.keys.now)) is c.requires) in
    let same = inv.same_length in
    omega arith

pub loop-at-preserved : goal.loop-at-preserved
loop-at-preserved g c =
    let inv = c.loop-at.invariant in
    let at = c.in-Some.at in
    let first = c.args.keys.now in
    let popped = c.in-Some.ensures.items in
    let is : c.args.written.items ≡ c.pop.new.self.items ++ at ∷ inv.done = inv.left ∙ ap (λ xs. xs ++ inv.done) popped ∙ append_assoc c.pop.new.self.items (at ∷ []) inv.done in
    let rising = subst (AreRising 0 (length first)) is c.requires in
    let within : at.index < length first = rising_within 0 (length first) c.pop.new.self.items at inv.done rising in
    let unwritten = change_none (at.index + 1) (length first) inv.done (rising_after 0 (length first) c.pop.new.self.items at inv.done rising) at.index (omega arith) in
    let written = c.write_at.ensures in
    let after = changed written.0 (Some at.change) in
    record {
      same_length = ap length written.2 ∙ length-set c.loop-at.keys at.index after ∙ inv.same_length;
      done = at ∷ inv.done;
      left = is;
      each = λ k d below. ap (λ xs. get_or xs k d) written.2 ∙ elim (cases_eq k at.index) [
        | inl same ↦
            let old : written.0 ≡ get_or first k d =
            written.1 ∙ get_or_default c.loop-at.keys at.index written.0 d (let counted = inv.same_length in omega arith) ∙ ap (λ j. get_or c.loop-at.keys j d) (sym same) ∙ inv.each k d below ∙ ap (changed (get_or first k d)) (ap (change_at inv.done) same ∙ unwritten) in
            get_or-set_at c.loop-at.keys at.index k after d same (let counted = inv.same_length in omega arith) ∙ ap (λ (state : KeyState g.row.T.Denot g.row.T-Kind.Denot g.row.T-Op.Denot g.row.T-Delta.Denot). changed state (Some at.change)) old
            ∙ ap (changed (get_or first k d)) (sym (change_here at inv.done k (sym same)))
        | inr other ↦ get_or-set_other c.loop-at.keys at.index k after d other ∙ inv.each k d below ∙ ap (changed (get_or first k d)) (sym (change_later at inv.done k (λ e. other (sym e))))
      ];
    }

pub returns : goal.returns
returns g c =
    let inv = c.loop-at.invariant in
    let left = c.loop-at.written in
    let none = c.in_default.ensures.cases in
    let counted = left.ok.0 in
    let all : c.args.written.items ≡ inv.done = inv.left ∙ ap (λ xs. xs ++ inv.done) (nil_from_length left.items (omega arith)) in
    record { same_length = inv.same_length; each = λ k d within. inv.each k d within ∙ ap (λ cs. changed (get_or c.args.keys.now k d) (change_at cs k)) (sym all) }
