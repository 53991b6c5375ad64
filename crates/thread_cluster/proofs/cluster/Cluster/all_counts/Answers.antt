use Rattle.std.proofs.Common.{◌≡◌, ◌++◌, ◌∷◌, [], length, ap, sym, ◌∙◌, subst, arith, length-append}
use Rattle.thread_cluster.specs.Books.{AreCounted}
use Rattle.thread_cluster.proofs.Growing.{sees_self, sees_trans}
use Rattle.thread_cluster.proofs.Unheard.{counted_none, counted_more}
use Rattle.thread_cluster.proofs.cluster.Cluster.all_counts.Goals as goal

pub loop-place-init : goal.loop-place-init
loop-place-init g c =
    let s = c.args.session.now in
    let empty : c.reserve.new.self.items ≡ [] = c.reserve.ensures.items ∙ c.new-all.ensures.items in record {
      counted = subst (λ w. AreCounted g.M.Member.posted g.M.Member.taken g.N.Section.ids w s.seen.known s.seen.known) (sym empty) (counted_none g.M.Member.posted g.M.Member.taken g.N.Section.ids s.seen.known);
      count = ap length empty;
      sees = sees_self s;
      table = c.requires;
    }

pub loop-place-preserved : goal.loop-place-preserved
loop-place-preserved g c =
    let s = c.args.session.now in
    let now = c.loop-place.session in
    let later = c.counts_at-counts.new.session in
    let inv = c.loop-place.invariant in
    let all = c.loop-place.all.items in
    let one = c.counts_at-counts.result in
    let pushed : c.push.new.self.items ≡ all ++ one ∷ [] = c.in_ok-push.ensures.items in record {
      counted = subst (λ w. AreCounted g.M.Member.posted g.M.Member.taken g.N.Section.ids w s.seen.known later.seen.known) (sym pushed)
          (counted_more g.M.Member.posted g.M.Member.taken g.N.Section.ids all one c.loop-place.place s.seen.known now.seen.known later.seen.known inv.count inv.sees.goes_on.knows c.counts_at-counts.ensures.sees.goes_on.knows c.counts_at-counts.ensures.counted inv.counted);
      count = let n = inv.count in ap length pushed ∙ omega (arith, length-append all (one ∷ []));
      sees = sees_trans s now later inv.sees c.counts_at-counts.ensures.sees;
      table = c.counts_at-counts.ensures.table;
    }

pub returns-in_err-push-clause-sees : goal.returns-in_err-push-clause-sees
returns-in_err-push-clause-sees g c =
    sees_trans c.args.session.now c.loop-place.session c.counts_at-counts.new.session c.loop-place.invariant.sees c.counts_at-counts.ensures.sees
