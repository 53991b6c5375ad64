use Rattle.std.proofs.Common.{◌≡◌, ℕ, ap, sym, ◌∙◌, subst, subst₂}
use Rattle.model_history.specs.Vector.{join, united}
use Rattle.model_history.specs.History.{versions}
use Rattle.model_history.specs.Cuts.{without}
use Rattle.base_vectors.specs.Vectors.{number_at, joined}
use Rattle.data_markers.specs.Marks.{performed_in, MergesTo}
use Rattle.data_envelope.proofs.Numbers.{joined_numbers, joined_each}
use Rattle.data_envelope.proofs.Tests.{performed_merge, either_alike}
use Rattle.data_envelope.proofs.Holding.{holds_merged, pruned_union}
use Rattle.data_envelope.proofs.Entries.{stands_merged, exact_union}
use Rattle.data_envelope.proofs.Forgetting.{forgotten_joined}
use Rattle.data_envelope.proofs.Opened.{same_value, same_markers}
use Rattle.data_envelope.proofs.envelope.Envelope.join.Goals as goal

pub returns-clause-image : goal.returns-clause-image
returns-clause-image g c =
    let merging : MergesTo c.self.inside.markers c.other.inside.markers c.args.markers = subst₂ (λ one two. MergesTo one two c.args.markers) (sym (same_markers c.self.view_is)) (sym (same_markers c.other.view_is)) c.requires.merges in
    let alike : (i : ℕ) → performed_in c.self.inside.markers i ≡ performed_in c.other.inside.markers i = subst₂ (λ one two. (i : ℕ) → performed_in one i ≡ performed_in two i) (sym (same_markers c.self.view_is)) (sym (same_markers c.other.view_is)) c.requires.alike in
    let kinds : g.T.Replica.kind_of c.self.inside.value ≡ g.T.Replica.kind_of c.other.inside.value = ap g.T.Replica.kind_of (same_value c.self.view_is) ∙ c.requires.kind ∙ sym (ap g.T.Replica.kind_of (same_value c.other.view_is)) in
    rw (← c.self.view_is, ← c.other.view_is) (
    λ log mine theirs s t is_exact.
    let D = g.T.Replica.IsDataOf in
    let v' = versions mine.history in
    let w' = versions theirs.history in
    let one = c.self.inside in
    let two = c.other.inside in
    let marks = c.args.markers in
    let merges : MergesTo one.markers two.markers marks = merging in
    let is : (i : ℕ) → performed_in marks i ≡ united (performed_in one.markers) (performed_in two.markers) i = performed_merge one.markers two.markers marks merges in
    let mine_gone : (i : ℕ) → performed_in one.markers i ≡ performed_in marks i = λ i. either_alike (performed_in one.markers i) (performed_in two.markers i) (performed_in marks i) (is i) (alike i) in
    let theirs_gone : (i : ℕ) → performed_in two.markers i ≡ performed_in marks i = λ i. sym (alike i) ∙ mine_gone i in
    let gone : performed_in one.markers ≡ performed_in marks = λ j i. mine_gone i j in
    let gone' : performed_in two.markers ≡ performed_in marks = λ j i. theirs_gone i j in
    let nv : (i : ℕ) → number_at one.versions i ≡ without (performed_in marks) v' i = λ i. s.holds.numbers i ∙ ap (λ f. without f v' i) gone in
    let nw : (i : ℕ) → number_at two.versions i ≡ without (performed_in marks) w' i = λ i. t.holds.numbers i ∙ ap (λ f. without f w' i) gone' in
    let fv : number_at one.versions ≡ without (performed_in marks) v' = λ j i. nv i j in
    let fw : number_at two.versions ≡ without (performed_in marks) w' = λ j i. nw i j in
    let e = c.in_ok-join-2.ensures.ok ∙ ap (λ f. g.T.Replica.joined one.value f two.value (number_at two.versions)) fv ∙ ap (λ f. g.T.Replica.joined one.value (without (performed_in marks) v') two.value f) fw in
    let exact = exact_union D _ _ log mine theirs s t is_exact in
    stands_merged D _ _ _ log mine theirs s t merges
    (holds_merged D _ _ c.join-2.new.self c.join.new.self marks log v' w' s.holds t.holds exact merges
    (subst (λ x. D x log (join v' w') (performed_in marks)) (sym e) (g.met.T.Replica.data_joined one.value two.value log v' w' (performed_in marks) kinds s.holds.cut t.holds.cut
    (pruned_union D _ _ marks log v' w' s.holds t.holds exact merges) (subst (D one.value log v') gone s.holds.state) (subst (D two.value log w') gone' t.holds.state)))
    (joined_numbers one.versions two.versions c.join.new.self v' w' (performed_in marks) s.holds.cut.few t.holds.cut.few nv nw (c.in_ok-join.ensures.ok ∙ ap (λ m. joined m two.versions) c.in_ok-versions.ensures.same))))

pub returns-clause-versions : goal.returns-clause-versions
returns-clause-versions g c =
    rw (← c.self.view_is, ← c.other.view_is) (
    joined_each c.self.inside.versions c.other.inside.versions c.join.new.self c.limit-few.result c.in_ok-versions.ensures.normal c.limit-few.ensures.range c.limit-few.ensures.above
    (c.in_ok-join.ensures.ok ∙ ap (λ m. joined m c.other.inside.versions) c.in_ok-versions.ensures.same))

pub invariant_of-self-2 : goal.invariant_of-self-2
invariant_of-self-2 g c =
    let R = g.T.Replica in
    let one = c.self.inside in
    let two = c.other.inside in
    let merges : MergesTo one.markers two.markers c.args.markers = subst₂ (λ one two. MergesTo one two c.args.markers) (sym (same_markers c.self.view_is)) (sym (same_markers c.other.view_is)) c.requires.merges in
    let alike : (i : ℕ) → performed_in one.markers i ≡ performed_in two.markers i = subst₂ (λ one two. (i : ℕ) → performed_in one i ≡ performed_in two i) (sym (same_markers c.self.view_is)) (sym (same_markers c.other.view_is)) c.requires.alike in
    forgotten_joined R.mentioned one.value two.value _ one.versions two.versions _ one.markers two.markers c.args.markers alike
    (λ i. sym (either_alike (performed_in one.markers i) (performed_in two.markers i) (performed_in c.args.markers i) (performed_merge one.markers two.markers c.args.markers merges i) (alike i)))
    (joined_each one.versions two.versions c.join.new.self c.limit-few.result c.in_ok-versions.ensures.normal c.limit-few.ensures.range c.limit-few.ensures.above (c.in_ok-join.ensures.ok ∙ ap (λ m. joined m two.versions) c.in_ok-versions.ensures.same))
    (λ i none none'. ap (λ v. R.mentioned v i) c.in_ok-join-2.ensures.ok ∙ g.met.T.Replica.joined_mentions one.value (number_at one.versions) two.value (number_at two.versions) i none none') c.self.invariant c.other.invariant
