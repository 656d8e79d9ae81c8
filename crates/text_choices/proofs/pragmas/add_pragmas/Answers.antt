use Rattle.std.proofs.Common.{◌≡◌, ◌-◌, length, take, drop, refl, sym, ap, ◌∙◌, arith}
use Rattle.std.proofs.lemmas.List.{take_all, length-drop, length-take}
use Rattle.tm_terms.specs.Lexis.{begins}
use Rattle.text_choices.proofs.PragmaLemmas.{Passes-start, Passes-past, Passes-stopped, Passes-ended}
use Rattle.text_choices.proofs.pragmas.add_pragmas.Goals as goal

pub loop-at-init : goal.loop-at-init
loop-at-init c = record {
  within = omega arith;
  line = omega arith;
  col = omega arith;
  counted = omega arith;
  passes = Passes-start c.args.bytes.now c.args.choices.now.items;
}

pub loop-at-preserved : goal.loop-at-preserved
loop-at-preserved c =
    let bytes = c.args.bytes.now in
    let rest = take (length bytes - c.loop-at.at) (drop c.loop-at.at bytes) in
    let left : rest ≡ drop c.loop-at.at bytes = take_all (length bytes - c.loop-at.at) (drop c.loop-at.at bytes) (omega (arith, length-drop c.loop-at.at bytes)) in
    let size = c.in-Some.ensures.within in
    let long = ap length left ∙ length-drop c.loop-at.at bytes in
    record {
      within = omega arith;
      line = omega (arith, length-take c.in-Some.piece.length rest);
      col = omega (arith, length-take c.in-Some.piece.length rest);
      counted = omega arith;
      passes =
          Passes-past bytes c.loop-at.at c.loop-at.place c.place_after-place.result c.loop-at.bare c.bare_after-bare.result c.is_pragma_piece-holds.result
          c.args.choices.now.items c.loop-at.choices.items c.add_where.new.choices.items c.in-Some.piece rest (take c.in-Some.piece.length rest)
          c.loop-at.invariant.passes left c.in-Some.ensures.value c.is_pragma_piece-holds.ensures c.in_ok-add_where.ensures refl c.place_after-place.ensures.value c.bare_after-bare.ensures;
    }

pub returns-in_default : goal.returns-in_default
returns-in_default c =
    let bytes = c.args.bytes.now in
    let left = take_all (length bytes - c.loop-at.at) (drop c.loop-at.at bytes) (omega (arith, length-drop c.loop-at.at bytes)) in
    Passes-stopped bytes c.loop-at.at c.loop-at.place c.loop-at.bare c.args.choices.now.items c.loop-at.choices.items c.loop-at.invariant.passes
    (sym (c.in_default.ensures.value ∙ ap (begins c.loop-at.at c.loop-at.bare) left))

pub returns : goal.returns
returns c =
    Passes-ended c.args.bytes.now c.loop-at.at c.loop-at.place c.loop-at.bare c.args.choices.now.items c.loop-at.choices.items c.loop-at.invariant.passes (omega arith)
