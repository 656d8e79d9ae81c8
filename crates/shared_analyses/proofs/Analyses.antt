-- Analyses and what passes keep may be sent to other threads, and be shared by them.
use denote.Param.Send.{IsSend, IsSync, view_send, view_sync, sendable}
use denote.Param.SendFields.{as_row_send, as_row_sync}
use Rattle.std.proofs.Crossing.{Vec-send, Vec-sync, Arc-send, Arc-sync}
use Rattle.shared_programs.proofs.Programs.{program_field_send, program_field_sync}
use Rattle.shared_programs.proofs.States.{store_send, store_sync}
use Rattle.shared_programs.proofs.Facts.{program_facts_send, program_facts_sync, node_state_send, node_state_sync}
use Rattle.shared_programs.proofs.Facts.{entry_send, entry_sync}
use Rattle.shared_analyses.proofs.Starts.{program_slots_send, program_slots_sync, start_send, start_sync}
use Rattle.thread_pass.specs.contracts.analyses.SectionTable as SectionTable
use Rattle.thread_pass.specs.contracts.analyses.SectionTable.TheInside as SectionInside
use Rattle.thread_pass.specs.contracts.analyses.Analysis as Analysis
use Rattle.thread_pass.specs.contracts.analyses.Analysis.TheInside as AnalysisInside
use Rattle.thread_pass.specs.contracts.kept.Kept as Kept
use Rattle.thread_pass.specs.contracts.kept.Kept.TheInside as KeptInside

section_send : IsSend SectionTable.the_row
section_send =
    view_send SectionInside.the_row _ _ _ _
    (as_row_send SectionInside.the_field (search (node_state_send, Vec-send, sendable) depth 20))

pub analysis_send : IsSend Analysis.the_row
analysis_send =
    view_send AnalysisInside.the_row _ _ _ _
    (as_row_send AnalysisInside.the_field
    (search (
      program_field_send,
      program_facts_send,
      program_slots_send,
      program_slots_sync,
      section_send,
      entry_send,
      Vec-send,
      Arc-send,
      sendable,
    ) depth 20))

pub kept_send : IsSend Kept.the_row
kept_send =
    view_send KeptInside.the_row _ _ _ _
    (as_row_send KeptInside.the_field
    (search (node_state_send, store_send, store_sync, start_send, Vec-send, Arc-send, sendable) depth 20))

section_sync : IsSync SectionTable.the_row
section_sync =
    view_sync SectionInside.the_row _ _ _ _
    (as_row_sync SectionInside.the_field (search (node_state_sync, Vec-sync, sendable) depth 20))

pub analysis_sync : IsSync Analysis.the_row
analysis_sync =
    view_sync AnalysisInside.the_row _ _ _ _
    (as_row_sync AnalysisInside.the_field
    (search (
      program_field_sync,
      program_facts_sync,
      program_slots_send,
      program_slots_sync,
      section_sync,
      entry_sync,
      Vec-sync,
      Arc-sync,
      sendable,
    ) depth 20))

pub kept_sync : IsSync Kept.the_row
kept_sync =
    view_sync KeptInside.the_row _ _ _ _
    (as_row_sync KeptInside.the_field
    (search (node_state_sync, store_send, store_sync, start_sync, Vec-sync, Arc-sync, sendable) depth 20))
