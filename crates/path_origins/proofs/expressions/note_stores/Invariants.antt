use Rattle.std.proofs.Common.{◌≡◌}
use Rattle.tm_laid.specs.Layouts.{laid_tree}
use Rattle.path_origins.specs.Opens.{is_among}
use Rattle.path_origins.specs.Shown.{shown, sizes_in}
use Rattle.path_origins.specs.Noted.{behind}
use Rattle.path_origins.specs.reading.Ends.{stores}
use Rattle.path_origins.proofs.expressions.note_stores.Given as goal

-- so many arguments are stored
abbrev pub invariant-loop-index : goal.invariant-loop-index
invariant-loop-index l = record {
  number : l.number ≡ l._index;
  noted : shown l.to ≡ behind (shown l.initial.to) (stores (laid_tree l.here.laid.now) (is_among l.here.opens.now)
      (sizes_in l.here.sizes.now) l.here.path l.path l._index l.place);
}
