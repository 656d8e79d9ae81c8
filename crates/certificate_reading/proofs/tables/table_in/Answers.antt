use Rattle.std.proofs.Common.{◌≡◌, subst, length, pos, [], ◌∷◌}
use Rattle.std.specs.Prelude.{MatchBool, codes, option_map}
use Rattle.tm_laid.specs.Layouts.{laid_tree}
use Rattle.temporary_extents.specs.Extents.{extents_in}
use Rattle.certificate_words.specs.Words.{line_onto}
use Rattle.certificate_parts.specs.Fronts.{line_of, IsNotFront}
use Rattle.certificate_reading.specs.Tables.{FitsNodes}
use Rattle.certificate_reading.proofs.Matches.{on_false, on_true}
use Rattle.certificate_reading.proofs.TablesRead.{table_none, table_read}
use Rattle.certificate_reading.proofs.tables.table_in.Goals as goal

pub returns-then-not-taken : goal.returns-then-not-taken
returns-then-not-taken c =
    let laid = laid_tree c.args.laid.now in
    let nodes = c.args.configured.now.nodes.keys in
    let old = c.args.ahead.now in
    let new = c.take_numbered.new.ahead in
    let taken = subst (λ n. MatchBool c.in_ok-taken.taken (old ≡ line_onto (line_of (codes "task") (pos n ∷ [])) new)
    ((new ≡ old) × IsNotFront (line_of (codes "task") (pos n ∷ [])) old)) c.from.ensures c.in_ok-taken.ensures in
    table_none (FitsNodes laid c.args.body (extents_in c.args.graph.now.edges.items) nodes c.args.known.now.live)
    (length nodes) c.args.body old old (on_false _ _ c.in_ok-taken.taken taken c.if-not-taken.true).1

pub returns : goal.returns
returns c =
    let laid = laid_tree c.args.laid.now in
    let nodes = c.args.configured.now.nodes.keys in
    let old = c.args.ahead.now in
    let new = c.take_numbered.new.ahead in
    let taken = subst (λ n. MatchBool c.in_ok-taken.taken (old ≡ line_onto (line_of (codes "task") (pos n ∷ [])) new)
    ((new ≡ old) × IsNotFront (line_of (codes "task") (pos n ∷ [])) old)) c.from.ensures c.in_ok-taken.ensures in
    table_read (FitsNodes laid c.args.body (extents_in c.args.graph.now.edges.items) nodes c.args.known.now.live)
    (length nodes) c.args.body old new (on_true _ _ c.in_ok-taken.taken taken c.if-not-taken.false) c.nodes_in.new.ahead
    (option_map (λ v. v.items) c.in_ok-found.found) c.in_ok-found.ensures
