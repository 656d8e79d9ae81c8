use Rattle.std.proofs.Common.{◌≡◌, ◌∙◌, sym, subst, ap, pos, [], ◌∷◌, to_z, of_z, arith, rules}
use Rattle.std.specs.Prelude.{codes}
use Rattle.std.specs.Int.{w128}
use Rattle.std.proofs.lemmas.Int.{to_z-of_z}
use Rattle.tm_laid.specs.Layouts.{laid_tree}
use Rattle.temporary_extents.specs.Extents.{IsWithin}
use Rattle.post_recheck.specs.state_fits.Kinds.{InExtents}
use Rattle.certificate_words.specs.Words.{tag, number, line_onto}
use Rattle.certificate_words.specs.Lines.{HasNoLine, IsNextLine, words_of}
use Rattle.certificate_parts.specs.Fronts.{AreFront, IsBehind, IsNotBegun}
use Rattle.certificate_reading.specs.Rows.{value_line}
use Rattle.certificate_reading.proofs.Matches.{on_false, on_true}
use Rattle.certificate_reading.proofs.RowsOfValues.{no_key, no_value, value_step, lawful_rest, found_value}
use Rattle.certificate_reading.proofs.RowsOfValues.{missing_value}
use Rattle.certificate_reading.proofs.RowsAgain.{c_is, front_of, behind_of, no_line, kept_alone, line_alone, rest_is_short}
use Rattle.certificate_reading.proofs.kept_rows.row_anew.Goals as goal

pub returns-then-not-branch : goal.returns-then-not-branch
returns-then-not-branch c =
    no_line (codes "c") c_is (InExtents (laid_tree c.args.laid.now) c.args.extents.now) c.args.cell c.args.text.now
    (subst HasNoLine c.new-lines.ensures
    (on_false _ _ c.in_ok-next.field-0 c.in_ok-next.ensures c.if-not-branch.true).0)

pub returns-in_default : goal.returns-in_default
returns-in_default c =
    let p : to_z w128 (of_z w128 c.from.result) ≡ c.from.result = search (rules, to_z-of_z) in
    let next = subst (λ t. IsNextLine t (words_of c.next.new.words.items) c.next.new.self) c.new-lines.ensures
    (on_true _ _ c.in_ok-next.field-0 c.in_ok-next.ensures c.if-not-branch.false) in
    let front = subst (λ ws. AreFront c.args.text.now (words_of ws)) (sym c.deref.ensures.value)
    (front_of c.args.text.now c.next.new.self (words_of c.next.new.words.items) next) in
    no_key (codes "c") c_is (InExtents (laid_tree c.args.laid.now) c.args.extents.now) c.args.cell c.args.text.now
    (words_of c.deref.result.now) front
    (subst (λ z. IsNotBegun (words_of c.deref.result.now) (codes "c") (z ∷ [])) (p ∙ c.from.ensures)
    c.in_default.ensures)

pub returns-in_default-2 : goal.returns-in_default-2
returns-in_default-2 c =
    let p : to_z w128 (of_z w128 c.from.result) ≡ c.from.result = search (rules, to_z-of_z) in
    let next = subst (λ t. IsNextLine t (words_of c.next.new.words.items) c.next.new.self) c.new-lines.ensures
    (on_true _ _ c.in_ok-next.field-0 c.in_ok-next.ensures c.if-not-branch.false) in
    let front = subst (λ ws. AreFront c.args.text.now (words_of ws)) (sym c.deref.ensures.value)
    (front_of c.args.text.now c.next.new.self (words_of c.next.new.words.items) next) in
    no_value (codes "c") c_is (InExtents (laid_tree c.args.laid.now) c.args.extents.now) c.args.cell c.args.text.now
    (words_of c.deref.result.now) front (words_of c.in-Some.told.now)
    (subst (λ z. words_of c.deref.result.now ≡ tag (codes "c") ∷ number z ∷ words_of c.in-Some.told.now)
    (p ∙ c.from.ensures) c.in-Some.ensures)
    (missing_value (IsWithin (laid_tree c.args.laid.now) c.extent_at.result)
    (InExtents (laid_tree c.args.laid.now) c.args.extents.now c.args.cell)
    (ap (IsWithin (laid_tree c.args.laid.now)) c.extent_at.ensures) (words_of c.in-Some.told.now) c.in_ok-value.field-0
    c.in_default-2.is c.in_ok-value.ensures)

pub before_rest-line-requires : goal.before_rest-line-requires
before_rest-line-requires c =
    let p : to_z w128 (of_z w128 c.from.result) ≡ c.from.result = search (rules, to_z-of_z) in
    let next = subst (λ t. IsNextLine t (words_of c.next.new.words.items) c.next.new.self) c.new-lines.ensures
    (on_true _ _ c.in_ok-next.field-0 c.in_ok-next.ensures c.if-not-branch.false) in
    let front = subst (λ ws. AreFront c.args.text.now (words_of ws)) (sym c.deref.ensures.value)
    (front_of c.args.text.now c.next.new.self (words_of c.next.new.words.items) next) in
    let is = subst (λ z. words_of c.deref.result.now ≡ tag (codes "c") ∷ number z ∷ words_of c.in-Some.told.now)
    (p ∙ c.from.ensures) c.in-Some.ensures in
    let laid = laid_tree c.args.laid.now in
    let Fits = InExtents laid c.args.extents.now in
    let step = value_step (codes "c") c_is Fits c.args.cell c.args.text.now (words_of c.deref.result.now) front
    (words_of c.in-Some.told.now) is c.in-Some-2.value c.rest-more.result.now (omega arith)
    (found_value (IsWithin laid c.extent_at.result) (InExtents laid c.args.extents.now c.args.cell)
    (ap (IsWithin laid) c.extent_at.ensures) (words_of c.in-Some.told.now) c.in_ok-value.field-0 c.in-Some-2.value
    c.in-Some-2.is c.in_ok-value.ensures)
    (lawful_rest c.args.text.now (words_of c.deref.result.now) (words_of c.in-Some.told.now) (codes "c")
    (pos c.args.cell) front is)
    (subst (IsBehind c.args.text.now) (sym c.rest-more.ensures)
    (behind_of c.args.text.now c.next.new.self (words_of c.next.new.words.items) next)) in
    rest_is_short c.args.text.now (line_onto (value_line (codes "c") c.args.cell c.in-Some-2.value) []) c.rest-more.result.now
    (line_alone (codes "c") c_is Fits c.args.cell c.in-Some-2.value c.args.text.now c.rest-more.result.now step)

pub returns : goal.returns
returns c =
    let p : to_z w128 (of_z w128 c.from.result) ≡ c.from.result = search (rules, to_z-of_z) in
    let next = subst (λ t. IsNextLine t (words_of c.next.new.words.items) c.next.new.self) c.new-lines.ensures
    (on_true _ _ c.in_ok-next.field-0 c.in_ok-next.ensures c.if-not-branch.false) in
    let front = subst (λ ws. AreFront c.args.text.now (words_of ws)) (sym c.deref.ensures.value)
    (front_of c.args.text.now c.next.new.self (words_of c.next.new.words.items) next) in
    let is = subst (λ z. words_of c.deref.result.now ≡ tag (codes "c") ∷ number z ∷ words_of c.in-Some.told.now)
    (p ∙ c.from.ensures) c.in-Some.ensures in
    let laid = laid_tree c.args.laid.now in
    let Fits = InExtents laid c.args.extents.now in
    let step = value_step (codes "c") c_is Fits c.args.cell c.args.text.now (words_of c.deref.result.now) front
    (words_of c.in-Some.told.now) is c.in-Some-2.value c.rest-more.result.now (omega arith)
    (found_value (IsWithin laid c.extent_at.result) (InExtents laid c.args.extents.now c.args.cell)
    (ap (IsWithin laid) c.extent_at.ensures) (words_of c.in-Some.told.now) c.in_ok-value.field-0 c.in-Some-2.value
    c.in-Some-2.is c.in_ok-value.ensures)
    (lawful_rest c.args.text.now (words_of c.deref.result.now) (words_of c.in-Some.told.now) (codes "c")
    (pos c.args.cell) front is)
    (subst (IsBehind c.args.text.now) (sym c.rest-more.ensures)
    (behind_of c.args.text.now c.next.new.self (words_of c.next.new.words.items) next)) in (
      step,
      kept_alone (codes "c") c_is Fits c.args.cell c.in-Some-2.value c.args.text.now c.before_rest-line.result.now
          c.rest-more.result.now step c.before_rest-line.ensures,
    )
