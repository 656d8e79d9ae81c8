-- The whole layout.
use Rattle.std.proofs.Common.{◌≡◌, refl, ap, sym, subst, ◌∙◌, ℕ, suc, ◌+◌, ◌≤◌, Bool, false, cond, List, [], ◌∷◌, ◌++◌, map, arith, Option, Some, None}
use Rattle.std.specs.Prelude.{Ok}
use Rattle.std.proofs.lemmas.Bool.{ltb-false}
use Rattle.tm_terms.specs.declared.refusals.Limit.TheVariants as Limits
use Rattle.tm_typed.specs.declared.files.LocalEntry.{LocalEntry}
use Rattle.tm_typed.specs.Files.{TypedFileTree}
use Rattle.tm_laid.specs.declared.paths.Caller.{Caller}
use Rattle.tm_laid.specs.declared.paths.CallPath.{CallPath}
use Rattle.tm_laid.specs.declared.objects.DeclaredObject.{DeclaredObject}
use Rattle.tm_laid.specs.declared.objects.LaidObject.{LaidObject}
use Rattle.tm_laid.specs.declared.objects.Initial.{Initial}
use Rattle.tm_laid.specs.declared.cells.LaidCell.{LaidCell}
use Rattle.tm_laid.specs.declared.cells.AbstractCell.{AbstractCell}
use Rattle.tm_laid.specs.declared.scales.Scale.{Scale}
use Rattle.tm_laid.specs.declared.scales.Scale.TheVariants as Scales
use Rattle.cell_layout.specs.declared.layouts.Tables.{Tables}
use Rattle.cell_layout.specs.reading.Tables.{IsLayoutOf}
use Rattle.tm_laid.specs.CallTrees.{CallTree, a_call_of, CallTrees, no_calls, and_call, weight, weights}
use Rattle.tm_laid.specs.Paths.{body_trees, locals_of, tree_paths, called_paths, body_paths, paths_of}
use Rattle.tm_laid.specs.TypeCells.{cells_of_type, abstract_cells_of_type}
use Rattle.tm_laid.specs.Objects.{local_objects, path_objects, static_objects}
use Rattle.tm_laid.specs.Layouts.{LaidTree, layout_of, summed_types, own_cells, over_objects, laid_count, is_exceeded, laid_out, unless_beyond, declared_objects}
use Rattle.cell_layout.specs.reading.Limits.{IsAllWithin}

-- ## As many cells as are counted

summed_append : (count : ℕ → ℕ) (xs ys : List DeclaredObject) → summed_types count (xs ++ ys) ≡ summed_types count xs + summed_types count ys
summed_append count [] ys = omega arith
summed_append count (x ∷ xs) ys = let e = summed_append count xs ys in omega (arith, e)

any_path : (count : ℕ → ℕ) (p q : ℕ) (ls : List LocalEntry) → summed_types count (local_objects p ls) ≡ summed_types count (local_objects q ls)
any_path count p q [] = refl
any_path count p q (l ∷ ls) = ap (λ n. count l.of.number + n) (any_path count p q ls)

-- what the paths count one by one
over_paths : (ℕ → ℕ) → List CallPath → ℕ
over_paths own [] = 0
over_paths own (p ∷ ps) = own p.function + over_paths own ps

over_append : (own : ℕ → ℕ) (ps qs : List CallPath) → over_paths own (ps ++ qs) ≡ over_paths own ps + over_paths own qs
unfolding over_paths
over_append own [] qs = omega arith
over_append own (p ∷ ps) qs = let e = over_append own ps qs in omega (arith, e)

mutual
  unfolding over_paths

  over_tree : (own : ℕ → ℕ) (body : ℕ) (c : Option Caller) (number : ℕ) (t : CallTree) → over_paths own (tree_paths body c number t) ≡ weight own t
  over_tree own body c number (a_call_of f ts) = ap (λ n. own f + n) (over_calls own body number 0 (suc number) ts)

  over_calls : (own : ℕ → ℕ) (body path site number : ℕ) (ts : CallTrees) → over_paths own (called_paths body path site number ts) ≡ weights own ts
  over_calls own body path site number no_calls = refl
  over_calls own body path site number (and_call t ts) =
      let c : Option Caller = Some (record { path = path; site = site }) in
      let a = over_append own (tree_paths body c number t) (called_paths body path (suc site) (number + weight (λ f. 1) t) ts) in
      let b = over_tree own body c number t in
      let d = over_calls own body path (suc site) (number + weight (λ f. 1) t) ts in
      omega (arith, a, b, d)

over_bodies : (own : ℕ → ℕ) (body number : ℕ) (ts : CallTrees) → over_paths own (body_paths body number ts) ≡ weights own ts
unfolding over_paths
over_bodies own body number no_calls = refl
over_bodies own body number (and_call t ts) =
    let a = over_append own (tree_paths body None number t) (body_paths (suc body) (number + weight (λ f. 1) t) ts) in
    let b = over_tree own body None number t in
    let d = over_bodies own (suc body) (number + weight (λ f. 1) t) ts in
    omega (arith, a, b, d)

over_locals : (file : TypedFileTree) (count : ℕ → ℕ) (number : ℕ) (ps : List CallPath) → summed_types count (path_objects file number ps) ≡ over_paths (own_cells file count) ps
unfolding over_paths
over_locals file count number [] = refl
over_locals file count number (p ∷ ps) =
    let a = summed_append count (local_objects number (locals_of file p.function)) (path_objects file (suc number) ps) in
    let b = any_path count number 0 (locals_of file p.function) in
    let d = over_locals file count (suc number) ps in
    omega (arith, a, b, d)

pub over_all : (file : TypedFileTree) (count : ℕ → ℕ) → summed_types count (declared_objects file (paths_of file)) ≡ over_objects file count
over_all file count =
    summed_append count (static_objects file.statics) (path_objects file 0 (paths_of file))
    ∙ ap (λ n. summed_types count (static_objects file.statics) + n) (over_locals file count 0 (paths_of file) ∙ over_bodies (own_cells file count) 0 0 (body_trees file))

pub cells_few : (file : TypedFileTree) → IsAllWithin Scales.Large file → over_objects file (cells_of_type file) ≤ 65536
unfolding laid_count
cells_few file w = ltb-false 65536 (over_objects file (cells_of_type file)) w.cells

pub abstracts_few : (file : TypedFileTree) → IsAllWithin Scales.Large file → over_objects file (abstract_cells_of_type file) ≤ 65536
unfolding laid_count
abstracts_few file w = ltb-false 65536 (over_objects file (abstract_cells_of_type file)) w.abstract_cells

-- ## The answer

chosen : (a b c d e : Bool) → a ≡ false → b ≡ false → c ≡ false → d ≡ false → e ≡ false → (P : Bool → Bool → Bool → Bool → Bool → Type 0) → P false false false false false → P a b c d e
chosen a b c d e u v x y z P p =
    subst (λ i. P i b c d e) (sym u) (subst (λ i. P false i c d e) (sym v) (subst (λ i. P false false i d e) (sym x) (subst (λ i. P false false false i e) (sym y) (subst (λ i. P false false false false i) (sym z) p))))

-- no limit is exceeded
pub answered : (scale : Scale) (file : TypedFileTree) (laid : LaidTree) → IsAllWithin scale file → layout_of file ≡ laid → laid_out scale file ≡ Ok laid
answered scale file laid w e =
    chosen (is_exceeded scale file Limits.Tasks) (is_exceeded scale file Limits.Mutexes) (is_exceeded scale file Limits.Paths) (is_exceeded scale file Limits.Cells) (is_exceeded scale file Limits.Abstract)
    w.tasks w.mutexes w.paths w.cells w.abstract_cells
    (λ a b c d f. unless_beyond file (cond a (Some Limits.Tasks) (cond b (Some Limits.Mutexes) (cond c (Some Limits.Paths) (cond d (Some Limits.Cells) (cond f (Some Limits.Abstract) None))))) ≡ Ok laid)
    (ap Ok e)

-- ## The record

layout_from : TypedFileTree → List ℕ → List ℕ → List CallPath → List (List ℕ) → List ℕ → List ℕ → List LaidObject → List LaidCell → List AbstractCell → List Initial → LaidTree
layout_from file bodies first_paths paths callees first_objects statics objects cells abstract_cells initial = record {
  file = file;
  bodies = bodies;
  first_paths = first_paths;
  paths = paths;
  callees = callees;
  first_objects = first_objects;
  statics = statics;
  objects = objects;
  cells = cells;
  abstract_cells = abstract_cells;
  initial = initial;
}

pub laid_is : (file : TypedFileTree) (t : Tables) → IsLayoutOf file t → record {
  file = file;
  bodies = t.bodies.items;
  first_paths = t.first_paths.items;
  paths = t.numbered.paths.items;
  callees = map (λ v. v.items) t.numbered.callees.items;
  first_objects = t.first_objects.items;
  statics = t.statics.items;
  objects = t.objects.items;
  cells = t.cells.cells.items;
  abstract_cells = t.cells.abstract_cells.items;
  initial = t.initial.items;
} ≡ layout_of file
unfolding layout_of layout_from
laid_is file t h =
    let l = layout_of file in
    let cs : List (List ℕ) = map (λ v. v.items) t.numbered.callees.items in
    ap (λ x. layout_from file x t.first_paths.items t.numbered.paths.items cs t.first_objects.items t.statics.items t.objects.items t.cells.cells.items t.cells.abstract_cells.items t.initial.items) h.bodies
    ∙ ap (λ x. layout_from file l.bodies x t.numbered.paths.items cs t.first_objects.items t.statics.items t.objects.items t.cells.cells.items t.cells.abstract_cells.items t.initial.items) h.first_paths
    ∙ ap (λ x. layout_from file l.bodies l.first_paths x cs t.first_objects.items t.statics.items t.objects.items t.cells.cells.items t.cells.abstract_cells.items t.initial.items) h.paths
    ∙ ap (λ x. layout_from file l.bodies l.first_paths l.paths x t.first_objects.items t.statics.items t.objects.items t.cells.cells.items t.cells.abstract_cells.items t.initial.items) h.callees
    ∙ ap (λ x. layout_from file l.bodies l.first_paths l.paths l.callees x t.statics.items t.objects.items t.cells.cells.items t.cells.abstract_cells.items t.initial.items) h.first_objects
    ∙ ap (λ x. layout_from file l.bodies l.first_paths l.paths l.callees l.first_objects x t.objects.items t.cells.cells.items t.cells.abstract_cells.items t.initial.items) h.statics
    ∙ ap (λ x. layout_from file l.bodies l.first_paths l.paths l.callees l.first_objects l.statics x t.cells.cells.items t.cells.abstract_cells.items t.initial.items) h.objects
    ∙ ap (λ x. layout_from file l.bodies l.first_paths l.paths l.callees l.first_objects l.statics l.objects x t.cells.abstract_cells.items t.initial.items) h.cells
    ∙ ap (λ x. layout_from file l.bodies l.first_paths l.paths l.callees l.first_objects l.statics l.objects l.cells x t.initial.items) h.abstracts
    ∙ ap (λ x. layout_from file l.bodies l.first_paths l.paths l.callees l.first_objects l.statics l.objects l.cells l.abstract_cells x) h.initial
