use Rattle.thread_section.proofs.Running.{have_run}
use Rattle.thread_section.proofs.giving.machines_of.Goals as goal

pub returns : goal.returns
returns g c =
    have_run g.M.Machine c.args.cells.table.machines _ c.machine_of.ensures.has_run c.machine_of-2.ensures.has_run c.machine_of-3.ensures.has_run c.machine_of-4.ensures.has_run c.machine_of-5.ensures.has_run c.machine_of-6.ensures.has_run c.machine_of-7.ensures.has_run c.machine_of-8.ensures.has_run
