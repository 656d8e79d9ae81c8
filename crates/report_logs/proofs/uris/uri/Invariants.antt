use Rattle.std.proofs.Common.{◌≡◌, take}
use Rattle.std.specs.Prelude.{string_bytes}
use Rattle.report_logs.specs.Uris.{uri_text}
use Rattle.report_logs.proofs.uris.uri.Given as goal

abbrev pub invariant-loop-byte : goal.invariant-loop-byte
invariant-loop-byte l = string_bytes l.text ≡ uri_text (take l.byte-index l.name)
