use denote.Param.Send.{sendable}
use Rattle.shared_analyses.proofs.Analyses.{analysis_send, analysis_sync}
use Rattle.shared_analyses.proofs.solving.solved_by.Goals as goal

pub solve-requires-send-P : goal.solve-requires-send-P
solve-requires-send-P g c κs within = search (analysis_send, sendable) depth 20

pub solve-requires-sync-P : goal.solve-requires-sync-P
solve-requires-sync-P g c κs within = search (analysis_sync, sendable) depth 20
