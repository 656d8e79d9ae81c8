use Rattle.std.proofs.Common.{take}
use Rattle.std.specs.List.{enumerate_from, flat_map}
use Rattle.certificate_texts.specs.TableLines.{node_lines}
use Rattle.certificate_texts.specs.reading.Pages.{HasLines}
use Rattle.certificate_texts.proofs.pages.Page.push_nodes.Given as goal

-- the lines of the nodes so far are there
abbrev pub invariant-loop-node : goal.invariant-loop-node
invariant-loop-node l = HasLines l.initial.self l.self (flat_map node_lines (take l.node (enumerate_from 0 l.table)))
