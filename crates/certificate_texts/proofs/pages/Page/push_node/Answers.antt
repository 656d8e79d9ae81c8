use Rattle.std.proofs.Common.{refl, sym, ap}
use Rattle.std.proofs.lemmas.Result.{on_ok_weaker}
use Rattle.certificate_texts.specs.StateLines.{state_lines}
use Rattle.certificate_texts.specs.TableLines.{node_lines_of}
use Rattle.certificate_texts.specs.reading.Pages.{HasLines}
use Rattle.certificate_texts.proofs.Adding.{stopped, no_lines, as_lines, lines_then}
use Rattle.certificate_texts.proofs.pages.Page.push_node.Goals as goal

pub returns-in-None : goal.returns-in-None
returns-in-None c =
    as_lines (no_lines c.args.self.now c.args.self.now refl) (ap (node_lines_of c.args.node) (sym c.in-None.is))

pub returns-then-is_full : goal.returns-then-is_full
returns-then-is_full c = stopped c.args.self.now _ (c.is_full.ensures.0 c.if-is_full.true)

pub returns-in_ok-push_numbered-in-Some : goal.returns-in_ok-push_numbered-in-Some
returns-in_ok-push_numbered-in-Some c =
    on_ok_weaker c.push_state.result
    (λ (h : HasLines c.push_numbered.new.self c.push_state.new.self (state_lines c.state.result.now)).
    as_lines (lines_then c.in_ok-push_numbered-in-Some.ensures (as_lines h (ap state_lines c.state.ensures)))
    (ap (node_lines_of c.args.node) (sym c.in-Some.is))) c.push_state.ensures
