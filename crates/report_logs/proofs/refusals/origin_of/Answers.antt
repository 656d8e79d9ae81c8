use Rattle.std.proofs.Common.{rules, ap, sym}
use Rattle.std.specs.Prelude.{option_and_then}
use Rattle.report_logs.specs.Refusals.{file_line}
use Rattle.report_logs.proofs.refusals.origin_of.Goals as goal

pub returns-in-Err-Broken : goal.returns-in-Err-Broken
returns-in-Err-Broken c =
    let broken = c.line_origins.ensures.broken c.in-Err-Broken.field-0-0 (search rules) in
    sym (ap (option_and_then (λ origins. file_line origins c.args.place.line)) broken.0)
