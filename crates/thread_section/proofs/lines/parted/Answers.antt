use Rattle.std.proofs.Common.{◌≡◌, ◌∙◌, ap, map, refl, arith, length}
use Rattle.std.proofs.lemmas.Iterator.Adapters.{YieldsList-from_vec}
use Rattle.std.proofs.lemmas.Iterator.Consumers.{YieldsList-end}
use Rattle.thread_clients.proofs.Beside.{pushed_more, all_yielded}
use Rattle.thread_section.specs.Lines.{session_of, lines_of}
use Rattle.thread_section.proofs.lines.parted.Goals as goal

pub loop-one-init : goal.loop-one-init
loop-one-init g c = record {
  sessions = c.requires.empty.0;
  lines = c.requires.empty.1;
  session_room = let a = c.args.sessions.ok.0 in let b = ap length c.requires.empty.0 in let r = c.requires.room.0 in let n = c.into_iter-one-iterator.ensures.into_iter_gives.1 in omega arith;
  line_room = let a = c.args.lines.ok.0 in let b = ap length c.requires.empty.1 in let r = c.requires.room.1 in let n = c.into_iter-one-iterator.ensures.into_iter_gives.1 in omega arith;
}

pub push_reserved-requires : goal.push_reserved-requires
push_reserved-requires g c = let r = c.loop-one.invariant.session_room in let s = c.in-Some.ensures.steps.1 in omega arith

pub push_reserved-requires-in-loop-one : goal.push_reserved-requires-in-loop-one
push_reserved-requires-in-loop-one g c = let r = c.loop-one.invariant.line_room in let s = c.in-Some.ensures.steps.1 in omega arith

pub loop-one-preserved : goal.loop-one-preserved
loop-one-preserved g c = record {
  sessions = pushed_more session_of c.loop-one.sessions.items c.push_reserved.new.self.items c.loop-one.yielded c.in-Some.one _ c.loop-one.invariant.sessions c.push_reserved.ensures.items refl;
  lines = pushed_more lines_of c.loop-one.lines.items c.push_reserved-in-loop-one.new.self.items c.loop-one.yielded c.in-Some.one _ c.loop-one.invariant.lines c.push_reserved-in-loop-one.ensures.items refl;
  session_room = let l = c.push_reserved.ensures.len in let k = c.push_reserved.ensures.capacity in let r = c.loop-one.invariant.session_room in let s = c.in-Some.ensures.steps.1 in omega arith;
  line_room = let l = c.push_reserved-in-loop-one.ensures.len in let k = c.push_reserved-in-loop-one.ensures.capacity in let r = c.loop-one.invariant.line_room in let s = c.in-Some.ensures.steps.1 in omega arith;
}

pub returns-clause-sessions : goal.returns-clause-sessions
returns-clause-sessions g c =
    let items = c.args.played.items in
    let ends = YieldsList-end (YieldsList-from_vec items c.into_iter-one-iterator.ensures.into_iter_gives.0 (c.into_iter-one-iterator.ensures.into_iter_gives.1 ∙ c.args.played.ok.0)) c.loop-one.yielded c.loop-one.one-iterator c.loop-one.yielded_by c.next.result c.next.new.self c.in-None.is c.next.ensures.steps in
    let whole : c.loop-one.yielded ≡ items = all_yielded c.loop-one.yielded items ends.0 in
    c.loop-one.invariant.sessions ∙ ap (map session_of) whole

pub returns-clause-lines : goal.returns-clause-lines
returns-clause-lines g c =
    let items = c.args.played.items in
    let ends = YieldsList-end (YieldsList-from_vec items c.into_iter-one-iterator.ensures.into_iter_gives.0 (c.into_iter-one-iterator.ensures.into_iter_gives.1 ∙ c.args.played.ok.0)) c.loop-one.yielded c.loop-one.one-iterator c.loop-one.yielded_by c.next.result c.next.new.self c.in-None.is c.next.ensures.steps in
    let whole : c.loop-one.yielded ≡ items = all_yielded c.loop-one.yielded items ends.0 in
    c.loop-one.invariant.lines ∙ ap (map lines_of) whole
