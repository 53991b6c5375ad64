use Rattle.std.proofs.Common.{◌≡◌, [], ◌∷◌, ◌++◌, map, reverse, ap, sym, ◌∙◌, subst, arith, append_assoc}
use Rattle.std.specs.List.{All}
use Rattle.std.proofs.lemmas.List.{reverse-append}
use Rattle.std.proofs.lemmas.List.Elements.{All-take}
use Rattle.thread_cell.specs.Calls.{own_calls}
use Rattle.thread_cell.specs.Values.{client_calls}
use Rattle.thread_cell.proofs.Taking.{serves_more}
use Rattle.thread_cell.proofs.ending.take_sessions.Goals as goal

pub loop-session-preserved : goal.loop-session-preserved
loop-session-preserved g c =
    let i = c.loop-session.invariant in
    let s = c.in-Some.session in
    let e = c.into_calls.ensures in
    let own = c.into_calls.result in record {
      table = e.table.0;
      tables = subst (All (λ x. x.seen.table ≡ g.N.Name.table)) (sym c.in-Some.ensures.rest) (All-take (λ x. x.seen.table ≡ g.N.Name.table) _ c.loop-session.sessions.items i.tables);
      began = e.base.began ∙ i.began;
      done = s ∷ i.done;
      all = sym (append_assoc c.pop.new.self.items (s ∷ []) i.done) ∙ (ap (λ w. w ++ i.done) (sym c.in-Some.ensures.items) ∙ i.all);
      served = serves_more i.done s c.loop-session.base.me.0 c.into_calls.new.base.me.0 s.seen.known i.served e.base;
      calls = ap (λ w. map own_calls (reverse w)) c.push_reserved.ensures.items
          ∙ (ap (map own_calls) (reverse-append c.loop-session.calls.items (own ∷ []))
          ∙ (ap (λ w. own_calls own ∷ w) i.calls ∙ ap (λ (who : _). who ∷ map client_calls i.done) e.calls));
      room = let r = i.room in let l = c.push_reserved.ensures.len in let cap = c.push_reserved.ensures.capacity in let p = c.in-Some.ensures.len in omega arith;
    }
