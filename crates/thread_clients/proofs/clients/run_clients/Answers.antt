use Rattle.std.proofs.Common.{◌∙◌, ◌+◌, ap, sym, length, drop, arith, vec_len}
use Rattle.std.proofs.lemmas.List.{take_at}
use Rattle.std.specs.Prelude.{vec_capacity}
use Rattle.thread_clients.specs.Playing.{job_of}
use Rattle.thread_clients.proofs.Beside.{back_same, length_mapped, reserved, jobs_tables, run_done, run_back, run_stopped}
use Rattle.thread_clients.proofs.Stopped.{all_stopped_here}
use Rattle.thread_clients.proofs.clients.run_clients.Goals as goal

pub returns-then-is_err-clause-err : goal.returns-then-is_err-clause-err
returns-then-is_err-clause-err g c = back_same g.N.Name.table c.args.sessions.items c.requires.tables

pub returns-then-is_err-clause-stopped : goal.returns-then-is_err-clause-stopped
returns-then-is_err-clause-stopped g c = all_stopped_here _ g.N.Section.ids c.args.cluster.now.views c.args.clients.now c.args.sessions.items

pub jobs_of-jobs-requires-clause-empty : goal.jobs_of-jobs-requires-clause-empty
jobs_of-jobs-requires-clause-empty g c = c.reserve.ensures.items ∙ c.new-jobs.ensures.items

pub played_of-requires-clause-empty : goal.played_of-requires-clause-empty
played_of-requires-clause-empty g c = c.reserve-else-is_err.ensures.items ∙ c.new-played.ensures.items

pub sessions_of-requires-clause-empty : goal.sessions_of-requires-clause-empty
sessions_of-requires-clause-empty g c = c.reserve-else-is_err-2.ensures.items ∙ c.new-back.ensures.items

pub play_all-requires-clause-as_many : goal.play_all-requires-clause-as_many
play_all-requires-clause-as_many g c κs within =
    ap length (c.as_mut_slice.ensures.value ∙ c.jobs_of-jobs.ensures) ∙ (length_mapped job_of c.args.sessions.items ∙ (sym c.args.sessions.ok.0 ∙ c.requires.as_many))

pub play_all-requires-clause-tables : goal.play_all-requires-clause-tables
play_all-requires-clause-tables g c κs within =
    jobs_tables g.N.Name.table c.args.sessions.items c.as_mut_slice.result.now c.requires.tables (c.as_mut_slice.ensures.value ∙ c.jobs_of-jobs.ensures)

pub returns-then-are_complete-clause-ok : goal.returns-then-are_complete-clause-ok
returns-then-are_complete-clause-ok g c =
    run_done _ g.N.Section.ids c.args.cluster.now.views g.N.Name.table c.args.clients.now c.args.sessions.items c.as_mut_slice.result.now c.play_all.new.jobs _ c.as_slice.result.now c.played_of.result.items
    (c.as_mut_slice.ensures.value ∙ c.jobs_of-jobs.ensures) c.play_all.ensures (c.are_complete.ensures c.if-are_complete.true)
    (take_at c.play_all.new.jobs (drop (length c.play_all.new.jobs) c.jobs_of-jobs.result.items) c.jobs_of-jobs.result.len (c.play_all.ensures.count ∙ (ap length c.as_mut_slice.ensures.value ∙ sym c.jobs_of-jobs.result.ok.0)))
    c.as_slice.ensures.value c.played_of.ensures

pub returns-else-are_complete-clause-err : goal.returns-else-are_complete-clause-err
returns-else-are_complete-clause-err g c =
    run_back _ g.N.Section.ids c.args.cluster.now.views g.N.Name.table c.args.clients.now c.args.sessions.items c.sessions_of.result.items c.as_mut_slice.result.now c.play_all.new.jobs _
    (c.as_mut_slice.ensures.value ∙ c.jobs_of-jobs.ensures) c.play_all.ensures
    (take_at c.play_all.new.jobs (drop (length c.play_all.new.jobs) c.jobs_of-jobs.result.items) c.jobs_of-jobs.result.len (c.play_all.ensures.count ∙ (ap length c.as_mut_slice.ensures.value ∙ sym c.jobs_of-jobs.result.ok.0)))
    c.sessions_of.ensures

pub returns-else-are_complete-clause-stopped : goal.returns-else-are_complete-clause-stopped
returns-else-are_complete-clause-stopped g c =
    run_stopped _ g.N.Section.ids c.args.cluster.now.views g.N.Name.table c.args.clients.now c.args.sessions.items c.sessions_of.result.items c.as_mut_slice.result.now c.play_all.new.jobs _
    (c.as_mut_slice.ensures.value ∙ c.jobs_of-jobs.ensures) c.play_all.ensures
    (take_at c.play_all.new.jobs (drop (length c.play_all.new.jobs) c.jobs_of-jobs.result.items) c.jobs_of-jobs.result.len (c.play_all.ensures.count ∙ (ap length c.as_mut_slice.ensures.value ∙ sym c.jobs_of-jobs.result.ok.0)))
    c.sessions_of.ensures

pub jobs_of-jobs-requires-clause-room : goal.jobs_of-jobs-requires-clause-room
jobs_of-jobs-requires-clause-room g c =
    let r = reserved c.reserve.result (vec_len c.reserve.new.self + c.len-count.result) (vec_capacity c.reserve.new.self) (sym c.is_err.ensures.value ∙ c.if-is_err.false) c.reserve.ensures.ok in
    let n = c.len-count.ensures in
    omega arith

pub played_of-requires-clause-room : goal.played_of-requires-clause-room
played_of-requires-clause-room g c =
    let r = reserved c.reserve-else-is_err.result (vec_len c.reserve-else-is_err.new.self + c.len-count.result) (vec_capacity c.reserve-else-is_err.new.self) (sym c.is_err-else-is_err.ensures.value ∙ c.if-is_err-2.false) c.reserve-else-is_err.ensures.ok in
    let n = c.len-count.ensures in
    let j = c.jobs_of-jobs.result.ok.0 in
    let e = ap length c.jobs_of-jobs.ensures in
    let m = length_mapped job_of c.args.sessions.items in
    let s = c.args.sessions.ok.0 in
    omega arith

pub sessions_of-requires-clause-room : goal.sessions_of-requires-clause-room
sessions_of-requires-clause-room g c =
    let r = reserved c.reserve-else-is_err-2.result (vec_len c.reserve-else-is_err-2.new.self + c.len-count.result) (vec_capacity c.reserve-else-is_err-2.new.self) (sym c.is_err-else-is_err-2.ensures.value ∙ c.if-is_err-3.false) c.reserve-else-is_err-2.ensures.ok in
    let n = c.len-count.ensures in
    let j = c.jobs_of-jobs.result.ok.0 in
    let e = ap length c.jobs_of-jobs.ensures in
    let m = length_mapped job_of c.args.sessions.items in
    let s = c.args.sessions.ok.0 in
    omega arith
