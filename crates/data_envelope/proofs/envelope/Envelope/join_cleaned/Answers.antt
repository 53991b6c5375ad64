use Rattle.std.proofs.Common.{◌≡◌, ℕ, ap, sym, ◌∙◌, subst, subst₂, cond}
use Rattle.model_history.specs.Vector.{join, united}
use Rattle.model_history.specs.History.{versions}
use Rattle.model_history.specs.Cuts.{without}
use Rattle.base_vectors.specs.Vectors.{number_at}
use Rattle.data_markers.specs.Marks.{performed_in, MergesTo}
use Rattle.data_envelope.proofs.Numbers.{joined_numbers, joined_most, joined_greatest, joined_nothing, dropped_nothing}
use Rattle.data_envelope.proofs.Tests.{performed_merge, either_again, either_again', cond_again, cond_again'}
use Rattle.data_envelope.proofs.Holding.{holds_merged, pruned_union}
use Rattle.data_envelope.proofs.Entries.{stands_merged, exact_union}
use Rattle.data_envelope.proofs.Opened.{same_value, same_markers}
use Rattle.data_envelope.proofs.envelope.Envelope.join_cleaned.Goals as goal

pub returns-clause-image : goal.returns-clause-image
returns-clause-image g c =
    let merging : MergesTo c.self.inside.markers c.other.inside.markers c.args.markers = subst₂ (λ one two. MergesTo one two c.args.markers) (sym (same_markers c.self.view_is)) (sym (same_markers c.other.view_is)) c.requires.merges in
    let alike : g.T.Replica.kind_of c.self.inside.value ≡ g.T.Replica.kind_of c.other.inside.value = ap g.T.Replica.kind_of (same_value c.self.view_is) ∙ c.requires.kind ∙ sym (ap g.T.Replica.kind_of (same_value c.other.view_is)) in
    rw (← c.self.view_is, ← c.other.view_is) (
    λ log mine theirs s t is_exact.
    let D = g.T.Replica.IsDataOf in
    let v' = versions mine.history in
    let w' = versions theirs.history in
    let one = c.self.inside in
    let two = c.other.inside in
    let marks = c.args.markers in
    let merges : MergesTo one.markers two.markers marks = merging in
    let is : (i : ℕ) → performed_in marks i ≡ united (performed_in one.markers) (performed_in two.markers) i = performed_merge one.markers two.markers marks merges in
    let a = c.in_ok-value.value in
    let b = c.in_ok-theirs.theirs in
    let v = c.in_ok-value.versions in
    let w = c.in_ok-theirs.numbers in
    let da : D a log v' (performed_in marks) = subst (D a log v') (λ j i. either_again (performed_in one.markers i) (performed_in two.markers i) (performed_in marks i) (is i) j)
    (c.in_ok-value.ensures.state log v' (performed_in one.markers) s.holds.state) in
    let db : D b log w' (performed_in marks) = subst (D b log w') (λ j i. either_again' (performed_in one.markers i) (performed_in two.markers i) (performed_in marks i) (is i) j)
    (c.in_ok-theirs.ensures.state log w' (performed_in two.markers) t.holds.state) in
    let nv : (i : ℕ) → number_at v i ≡ without (performed_in marks) v' i = λ i. c.in_ok-value.ensures.numbers i
    ∙ ap (cond (performed_in marks i) 0) (s.holds.numbers i) ∙ cond_again (performed_in one.markers i) (performed_in two.markers i) (performed_in marks i) (v' i) (is i) in
    let nw : (i : ℕ) → number_at w i ≡ without (performed_in marks) w' i = λ i. c.in_ok-theirs.ensures.numbers i
    ∙ ap (cond (performed_in marks i) 0) (t.holds.numbers i) ∙ cond_again' (performed_in one.markers i) (performed_in two.markers i) (performed_in marks i) (w' i) (is i) in
    let kinds = c.in_ok-value.ensures.kind ∙ alike ∙ sym c.in_ok-theirs.ensures.kind in
    let fv : number_at v ≡ without (performed_in marks) v' = λ j i. nv i j in
    let fw : number_at w ≡ without (performed_in marks) w' = λ j i. nw i j in
    let e = c.in_ok-join.ensures.ok ∙ ap (λ f. g.T.Replica.joined a f b (number_at w)) fv ∙ ap (λ f. g.T.Replica.joined a (without (performed_in marks) v') b f) fw in
    let exact = exact_union D _ _ log mine theirs s t is_exact in
    stands_merged D _ _ _ log mine theirs s t merges
    (holds_merged D _ _ c.join.new.self c.join-2.new.self marks log v' w' s.holds t.holds exact merges
    (subst (λ x. D x log (join v' w') (performed_in marks)) (sym e) (g.met.T.Replica.data_joined a b log v' w' (performed_in marks) kinds s.holds.cut t.holds.cut (pruned_union D _ _ marks log v' w' s.holds t.holds exact merges) da db))
    (joined_numbers v w c.join-2.new.self v' w' (performed_in marks) s.holds.cut.few t.holds.cut.few nv nw c.in_ok-join-2.ensures.ok)))

pub returns-clause-versions : goal.returns-clause-versions
returns-clause-versions g c =
    rw (← c.self.view_is, ← c.other.view_is) (
    joined_most c.self.inside.versions c.other.inside.versions c.in_ok-value.versions c.in_ok-theirs.numbers c.join-2.new.self (performed_in c.args.markers)
    c.in_ok-value.ensures.numbers c.in_ok-theirs.ensures.numbers c.in_ok-join-2.ensures.ok)

pub returns-clause-greatest : goal.returns-clause-greatest
returns-clause-greatest g c =
    rw (← c.self.view_is, ← c.other.view_is) (
    λ i stays.
    joined_greatest c.self.inside.versions c.other.inside.versions c.in_ok-value.versions c.in_ok-theirs.numbers c.join-2.new.self (performed_in c.args.markers)
    c.in_ok-value.ensures.normal c.in_ok-theirs.ensures.normal c.in_ok-value.ensures.numbers c.in_ok-theirs.ensures.numbers c.in_ok-join-2.ensures.ok i stays)

pub invariant_of-self : goal.invariant_of-self
invariant_of-self g c = λ id pruned.
    let R = g.T.Replica in
    let gone = performed_in c.args.markers in
    let v = c.in_ok-value.versions in
    let w = c.in_ok-theirs.numbers in
    let none : number_at v id ≡ 0 = c.in_ok-value.ensures.numbers id ∙ dropped_nothing gone (number_at c.self.inside.versions) id pruned in
    let none' : number_at w id ≡ 0 = c.in_ok-theirs.ensures.numbers id ∙ dropped_nothing gone (number_at c.other.inside.versions) id pruned in (
      joined_nothing v w c.join-2.new.self id none none' c.in_ok-join-2.ensures.ok,
      ap (λ x. R.mentioned x id) c.in_ok-join.ensures.ok ∙ g.met.T.Replica.joined_mentions c.in_ok-value.value (number_at v) c.in_ok-theirs.theirs (number_at w) id (c.in_ok-value.ensures.forgotten id pruned) (c.in_ok-theirs.ensures.forgotten id pruned),
    )
