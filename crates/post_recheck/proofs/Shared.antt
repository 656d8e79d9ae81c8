-- What the check of a body is given may be shared by threads.
use denote.Ref.{NamedLft}
use denote.Param.Send.{IsSync, sendable}
use denote.Param.SendFields.{as_row_sync}
use Rattle.std.proofs.Crossing.{Vec-sync}
use Rattle.shared_programs.proofs.Programs.{program_sync}
use Rattle.shared_programs.proofs.States.{store_sync}
use Rattle.shared_programs.proofs.Facts.{program_facts_sync, node_state_sync, entry_sync}
use Rattle.post_recheck.specs.contracts.side_by_side.Given as Given

pub given_sync : (a : NamedLft) → IsSync (Given.the_row a)
given_sync a =
    as_row_sync (Given.the_field a)
    (search (program_sync, store_sync, program_facts_sync, node_state_sync, entry_sync, Vec-sync, sendable) depth 30)
