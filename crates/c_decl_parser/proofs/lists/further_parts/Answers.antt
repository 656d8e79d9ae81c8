use Rattle.std.proofs.Common.{◌+◌, ◌-◌, List, length, map, sym, ap, ◌∙◌, arith}
use Rattle.c_decl_parser.specs.reading.Parts.{seen}
use Rattle.c_decl_parser.specs.reading.Repetitions.{separated}
use Rattle.c_decl_parser.proofs.RepetitionSteps.{pushed_tree, separated_stop, separated_done, separated_stuck, separated_next}
use Rattle.c_decl_parser.proofs.lists.further_parts.Goals as goal

pub returns-in-None : goal.returns-in-None
returns-in-None g c =
    let read = g.P.PartReader.reads c.args.types.now c.args.allowed in
    sym (separated_stop read (length c.args.tokens.now - c.parts._i) (map g.P.PartReader.tree c.parts.found.items) c.parts.rest.now (sym c.in-None.ensures)) ∙ c.parts.invariant

pub returns-in-Stuck : goal.returns-in-Stuck
returns-in-Stuck g c =
    let read = g.P.PartReader.reads c.args.types.now c.args.allowed in
    let stuck = sym c.in_ok-at-in-Some.ensures ∙ ap (seen g.P.PartReader.tree) c.in-Stuck.is in
    sym (separated_stuck read (length c.args.tokens.now - c.parts._i) (length c.args.tokens.now - (c.parts._i + 1)) (map g.P.PartReader.tree c.parts.found.items) c.parts.rest.now c.in-Some.parted.now (omega arith) (sym c.in-Some.ensures) stuck)
    ∙ c.parts.invariant

pub parts-preserved : goal.parts-preserved
parts-preserved g c =
    let read = g.P.PartReader.reads c.args.types.now c.args.allowed in
    let one = sym c.in_ok-at-in-Some.ensures ∙ ap (seen g.P.PartReader.tree) c.in-Found.is in
    let rest = length c.args.tokens.now - (c.parts._i + 1) in
    ap (λ (found : List g.P.PartReader.Tree). separated read rest found c.in-Found.next.now) (pushed_tree g.P.PartReader.tree _ _ _ c.in_ok-push-in-Found.ensures)
    ∙ sym (separated_next read (length c.args.tokens.now - c.parts._i) rest (map g.P.PartReader.tree c.parts.found.items) c.parts.rest.now c.in-Some.parted.now (g.P.PartReader.tree c.in-Found.part) c.in-Found.next.now (omega arith) (sym c.in-Some.ensures) one)
    ∙ c.parts.invariant

pub returns : goal.returns
returns g c =
    let read = g.P.PartReader.reads c.args.types.now c.args.allowed in
    sym (separated_done read (length c.args.tokens.now - c.parts._i) (map g.P.PartReader.tree c.parts.found.items) c.parts.rest.now (omega arith)) ∙ c.parts.invariant
