use Rattle.std.proofs.Common.{◌≡◌, refl, ap, ◌∙◌, ◌+◌, arith}
use Rattle.tm_laid.specs.Layouts.{laid_tree}
use Rattle.path_origins.specs.Opens.{is_among}
use Rattle.path_origins.specs.Shown.{shown, sizes_in}
use Rattle.path_origins.specs.Noted.{behind}
use Rattle.path_origins.specs.reading.Ends.{stores}
use Rattle.path_origins.proofs.Calls.{stores_first, stores_more}
use Rattle.path_origins.proofs.expressions.note_stores.Goals as goal

pub loop-index-init : goal.loop-index-init
loop-index-init c = record {
  number = refl;
  noted = stores_first (laid_tree c.args.here.now.laid.now) (is_among c.args.here.now.opens.now)
      (sizes_in c.args.here.now.sizes.now) c.args.here.now.path c.args.path c.args.place (shown c.args.to.now);
}

pub loop-index-preserved : goal.loop-index-preserved
loop-index-preserved c = record {
  number = c.in_ok-number.ensures ∙ ap (λ n. n + 1) c.loop-index.invariant.number;
  noted = stores_more (laid_tree c.args.here.now.laid.now) (is_among c.args.here.now.opens.now)
      (sizes_in c.args.here.now.sizes.now) c.args.here.now.path c.args.path c.loop-index.number c.loop-index._index
      c.args.to.now.size c.note.new.to.size c.args.place c.in_ok-life_of.field-0 (shown c.args.to.now)
      (shown c.loop-index.to) (shown c.note.new.to) (shown c.note-in-loop-index.new.to) (shown c.note_life.new.to)
      c.loop-index.invariant.number refl refl c.loop-index.invariant.noted c.in_ok-note.ensures c.in_ok-note-2.ensures
      c.in_ok-life_of.ensures c.in_ok-note_life.ensures;
}

pub returns : goal.returns
returns c =
    let all : c.loop-index._index ≡ c.args.count = omega arith in
    c.loop-index.invariant.noted ∙ ap (λ n. behind (shown c.args.to.now) (stores (laid_tree c.args.here.now.laid.now)
    (is_among c.args.here.now.opens.now) (sizes_in c.args.here.now.sizes.now) c.args.here.now.path c.args.path n
    c.args.place)) all
