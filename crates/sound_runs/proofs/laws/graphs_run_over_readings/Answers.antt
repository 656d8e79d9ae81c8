use Rattle.sound_runs.proofs.Layouts.{read_lays_cells, is_running}
use Rattle.sound_runs.proofs.laws.graphs_run_over_readings.Goals as goal

pub returns : goal.returns
returns c = record { cells = read_lays_cells; runs = is_running }
