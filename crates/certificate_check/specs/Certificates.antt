-- Which bytes are certificates: the text of a source, and of tables and a store of its program.
--
-- The bytes `tmcert 1`, `source 0`, an empty line, `store`, `end` are the certificate of the empty source: its program
-- has no body, so there is no table, and the store is empty.
use Rattle.std.specs.Prelude.{◌≡◌, ℕ, ◌≤◌, List, [], length}
use Rattle.program_reports.specs.program_equations.Programs.{ProgramBodies}
use Rattle.program_reports.specs.post_recheck.Pairs.{Pair, FitsPair}
use Rattle.source_programs.specs.Sources.{IsAccepted}
use Rattle.certificate_texts.specs.Limits.{certificate_limit}
use Rattle.certificate_texts.specs.Sizes.{HasSmallNumbers}
use Rattle.certificate_texts.specs.Certificates.{certificate_text}

-- The bytes, which are not too many, are the text of a source that is accepted with no numbers given, and of tables and
-- a store that fit its program, whose numbers are below 2^64, as in every program that code holds.
pub record IsCertificate (bytes source : List ℕ) (p : ProgramBodies) (pair : Pair) : Type 0 where
  pub short : length bytes ≤ certificate_limit
  pub accepted : IsAccepted [] source p
  pub small : HasSmallNumbers p
  pub fits : FitsPair p pair
  pub is : bytes ≡ certificate_text source pair
