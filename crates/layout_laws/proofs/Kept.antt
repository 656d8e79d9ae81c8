-- What is laid out keeps within its limits.
use Rattle.std.proofs.Common.{◌≡◌, refl, sym, subst, ◌≤◌, Bool, true, false, cond, length, arith, Option, Some, None}
use Rattle.std.specs.Prelude.{Ok}
use Rattle.std.proofs.lemmas.Bool.{ltb-false}
use Rattle.cell_layout.specs.tm_terms.declared.refusals.Limit.{Limit}
use Rattle.cell_layout.specs.tm_terms.declared.refusals.Limit.TheVariants as Limits
use Rattle.cell_layout.specs.tm_typed.Files.{TypedFileTree}
use Rattle.cell_layout.specs.tm_laid.declared.scales.Scale.{Scale}
use Rattle.cell_layout.specs.tm_laid.declared.scales.Scale.TheVariants as Scales
use Rattle.cell_layout.specs.tm_laid.Paths.{paths_of}
use Rattle.cell_layout.specs.tm_laid.TypeCells.{cells_of_type, abstract_cells_of_type}
use Rattle.cell_layout.specs.tm_laid.Layouts.{LaidTree, layout_of, laid_count, declared_objects, is_exceeded}
use Rattle.cell_layout.specs.tm_laid.Layouts.{unless_beyond, laid_out}
use Rattle.cell_layout.specs.reading.Limits.{IsAllWithin}
use Rattle.cell_layout.proofs.LimitCounts.{all_within_large}
use Rattle.cell_layout.proofs.PathSteps.{paths_few}
use Rattle.cell_layout.proofs.Whole.{over_all, cells_few, abstracts_few}
use Rattle.layout_laws.specs.Limited.{IsLimited}
use Rattle.layout_laws.proofs.Counted.{cells_counted, abstracts_counted}

-- the first limit that is exceeded, where these are the tests
first : Bool → Bool → Bool → Bool → Bool → Option Limit
first a b c d e =
    cond a (Some Limits.Tasks) (cond b (Some Limits.Mutexes) (cond c (Some Limits.Paths) (cond d (Some Limits.Cells) (cond e (Some Limits.Abstract) None))))

refused : (file : TypedFileTree) (l : Limit) (laid : LaidTree) → unless_beyond file (Some l) ≡ Ok laid → ⊥
refused file l laid e = absurd cc

record NoneHolds (a b c d e : Bool) : Type 0 where
  tasks : a ≡ false
  mutexes : b ≡ false
  paths : c ≡ false
  cells : d ≡ false
  abstract_cells : e ≡ false

none_holds : (file : TypedFileTree) (laid : LaidTree) (a b c d e : Bool) → unless_beyond file (first a b c d e) ≡ Ok laid → NoneHolds a b c d e
unfolding first
none_holds file laid true b c d e h = absurd (refused file Limits.Tasks laid h)
none_holds file laid false true c d e h = absurd (refused file Limits.Mutexes laid h)
none_holds file laid false false true d e h = absurd (refused file Limits.Paths laid h)
none_holds file laid false false false true e h = absurd (refused file Limits.Cells laid h)
none_holds file laid false false false false true h = absurd (refused file Limits.Abstract laid h)
none_holds file laid false false false false false h = record { tasks = refl; mutexes = refl; paths = refl; cells = refl; abstract_cells = refl }

all_within : (scale : Scale) (file : TypedFileTree) (laid : LaidTree) → laid_out scale file ≡ Ok laid
    → IsAllWithin scale file
unfolding first
all_within scale file laid h =
    let n = none_holds file laid (is_exceeded scale file Limits.Tasks) (is_exceeded scale file Limits.Mutexes) (is_exceeded scale file Limits.Paths) (is_exceeded scale file Limits.Cells) (is_exceeded scale file Limits.Abstract) h in
    record { tasks = n.tasks; mutexes = n.mutexes; paths = n.paths; cells = n.cells; abstract_cells = n.abstract_cells }

is_whole : (file : TypedFileTree) (laid : LaidTree) (a b c d e : Bool) → unless_beyond file (first a b c d e) ≡ Ok laid → laid ≡ layout_of file
unfolding first
is_whole file laid true b c d e h = absurd (refused file Limits.Tasks laid h)
is_whole file laid false true c d e h = absurd (refused file Limits.Mutexes laid h)
is_whole file laid false false true d e h = absurd (refused file Limits.Paths laid h)
is_whole file laid false false false true e h = absurd (refused file Limits.Cells laid h)
is_whole file laid false false false false true h = absurd (refused file Limits.Abstract laid h)
is_whole file laid false false false false false h = cc

few_tasks : (file : TypedFileTree) → IsAllWithin Scales.Large file → length file.tasks ≤ 32
unfolding laid_count
few_tasks file w = ltb-false 32 (length file.tasks) w.tasks

few_mutexes : (file : TypedFileTree) → IsAllWithin Scales.Large file → length file.mutexes ≤ 16
unfolding laid_count
few_mutexes file w = ltb-false 16 (length file.mutexes) w.mutexes

limited : (file : TypedFileTree) → IsAllWithin Scales.Large file → IsLimited file (layout_of file)
unfolding layout_of
limited file w = record {
  whole = refl;
  tasks = few_tasks file w;
  mutexes = few_mutexes file w;
  paths = paths_few file w.paths;
  cells =
      (let a = cells_counted file 0 0 0 (declared_objects file (paths_of file)) in
      let b = over_all file (cells_of_type file) in
      let c = cells_few file w in
      omega (arith, a, b, c));
  abstract_cells =
      (let a = abstracts_counted file 0 0 0 (declared_objects file (paths_of file)) in
      let b = over_all file (abstract_cells_of_type file) in
      let c = abstracts_few file w in
      omega (arith, a, b, c));
}

pub limits_kept : (scale : Scale) (file : TypedFileTree) (laid : LaidTree) → laid_out scale file ≡ Ok laid
    → IsLimited file laid
unfolding first
limits_kept scale file laid h =
    let whole = is_whole file laid (is_exceeded scale file Limits.Tasks) (is_exceeded scale file Limits.Mutexes) (is_exceeded scale file Limits.Paths) (is_exceeded scale file Limits.Cells) (is_exceeded scale file Limits.Abstract) h in
    subst (λ (l : LaidTree). IsLimited file l) (sym whole) (limited file (all_within_large scale file (all_within scale file laid h)))
