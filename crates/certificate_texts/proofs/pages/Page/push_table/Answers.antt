use Rattle.std.proofs.lemmas.Result.{on_ok_weaker}
use Rattle.std.specs.List.{enumerate_from, flat_map}
use Rattle.certificate_texts.specs.TableLines.{node_lines}
use Rattle.certificate_texts.specs.reading.Pages.{HasLines}
use Rattle.certificate_texts.proofs.Adding.{lines_then}
use Rattle.certificate_texts.proofs.pages.Page.push_table.Goals as goal

pub returns : goal.returns
returns c =
    on_ok_weaker c.push_nodes.result
    (λ (h : HasLines c.push_numbered.new.self c.push_nodes.new.self (flat_map node_lines (enumerate_from 0 c.args.table.now))).
    lines_then c.in_ok-push_numbered.ensures h) c.push_nodes.ensures
