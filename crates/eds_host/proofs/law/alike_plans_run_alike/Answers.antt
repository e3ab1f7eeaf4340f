use Rattle.eds_host.proofs.Alike.{alike_readings, alike_runs, alike_systems, alike_wires}
use Rattle.eds_host.proofs.law.alike_plans_run_alike.Goals as goal

pub returns : goal.returns
returns c = record { systems = alike_systems; wires = alike_wires; readings = alike_readings; runs = alike_runs }
