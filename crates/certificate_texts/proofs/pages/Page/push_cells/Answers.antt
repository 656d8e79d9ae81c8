use Rattle.std.proofs.Common.{ap, ◌∙◌}
use Rattle.std.specs.List.{flat_map}
use Rattle.std.proofs.lemmas.Result.{on_ok_weaker}
use Rattle.certificate_texts.specs.declared.cells.Kind.TheVariants as Kinds
use Rattle.certificate_texts.specs.reading.Pages.{HasLines, entries_of, kind_lines}
use Rattle.certificate_texts.proofs.Adding.{as_lines, lines_then}
use Rattle.certificate_texts.proofs.pages.Page.push_cells.Goals as goal

pub returns : goal.returns
returns c =
    let all = ap entries_of c.as_slice-entries.ensures.value ∙ c.in_ok-listed.ensures in
    let own = as_lines c.in_ok-push_kind.ensures (ap (flat_map (kind_lines Kinds.Own)) all) in
    let pending = as_lines c.in_ok-push_kind-2.ensures (ap (flat_map (kind_lines Kinds.Pending)) all) in
    let fresh = as_lines c.in_ok-push_kind-3.ensures (ap (flat_map (kind_lines Kinds.Fresh)) all) in
    on_ok_weaker c.push_kind-4.result
    (λ (h : HasLines c.push_kind-3.new.self c.push_kind-4.new.self (flat_map (kind_lines Kinds.Stored) (entries_of c.as_slice-entries.result.now))).
    lines_then own (lines_then pending (lines_then fresh (as_lines h (ap (flat_map (kind_lines Kinds.Stored)) all)))))
    c.push_kind-4.ensures
