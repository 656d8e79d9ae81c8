use Rattle.std.proofs.Common.{rules, arith, ◌≡◌, ◌<◌, ◌+◌, [], ℕ, List, get_or, length, map, sym, subst, take, ap, ◌∙◌}
use Rattle.std.specs.Prelude.{string_bytes}
use Rattle.std.proofs.lemmas.List.{get_or-map, length-map}
use Rattle.report_logs.specs.Uris.{distinct, with_file}
use Rattle.report_logs.specs.reading.Seen.{HasFiles}
use Rattle.report_logs.proofs.Files.{next}
use Rattle.report_logs.proofs.sarif.distinct_of.Goals as goal

pub loop-file-preserved : goal.loop-file-preserved
loop-file-preserved c =
    let files : List (List ℕ) = map string_bytes c.args.files.now in
    let i : ℕ = c.loop-file.file-index in
    let long = length-map c.args.files.now string_bytes in
    let inside : i < length files = omega arith in
    let file : c.as_str.result.now ≡ get_or files i [] = search (rules, get_or-map) in
    let more : with_file (distinct (take i files)) c.as_str.result.now ≡ distinct (take (i + 1) files) =
    ap (with_file (distinct (take i files))) file ∙ sym (next files i inside) in
    let P : List (List ℕ) → Type 0 = λ fs. HasFiles fs c.push_file.new.found.items c.push_file.new.seen in
    subst P more (c.in_ok-push_file.ensures (distinct (take i files)) c.loop-file.invariant)
