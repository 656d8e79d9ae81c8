-- Objects of static storage, one after the other.
use Rattle.std.proofs.Common.{◌≡◌, refl, ap, sym, ◌∙◌, ℕ, suc, ◌+◌, ◌<◌, ◌≤◌, Bool, true, false, cond, List, [], ◌∷◌, ◌++◌, length, map, drop, take, get_or, append_assoc, append-nil, arith}
use Rattle.std.proofs.lemmas.List.{drop_more, drop_all, take_all, length-map}
use Rattle.std.proofs.lemmas.Option.{slice_get_read}
use Rattle.std.specs.Prelude.{None}
use Rattle.tm_typed.specs.declared.files.TypedStatic.{TypedStatic}
use Rattle.tm_typed.specs.TypedFiles.{typed_static_tree}
use Rattle.tm_typed.specs.States.{Static}
use Rattle.tm_laid.specs.declared.objects.DeclaredObject.{DeclaredObject}
use Rattle.tm_laid.specs.declared.objects.Initial.{Initial}
use Rattle.tm_laid.specs.declared.cells.LaidCell.{LaidCell}
use Rattle.tm_typed.specs.Files.{TypedFileTree}
use Rattle.tm_laid.specs.TypeCells.{TypeCell, cells_of_type, abstract_cells_of_type, type_cells, type_depth}
use Rattle.tm_laid.specs.Layouts.{summed_types}
use Rattle.tm_laid.specs.Objects.{static_objects, static_numbers, initial_values, with_given, nothing_given, laid_cell}
use Rattle.cell_layout.specs.declared.cells.Cells.{Cells}
use Rattle.cell_layout.specs.reading.Parts.{IsLaidOut}
use Rattle.cell_layout.proofs.FileTables.{get_or-map}

pub statics_open : (objects : List TypedStatic) (i : ℕ) (object : TypedStatic) → i < length objects → object ≡ get_or objects i object
    → drop i (map typed_static_tree objects) ≡ typed_static_tree object ∷ drop (i + 1) (map typed_static_tree objects)
statics_open objects i object lt is =
    drop_more (map typed_static_tree objects) i (typed_static_tree object) (let n = length-map objects typed_static_tree in omega (arith, n, lt))
    ∙ ap (λ (s : Static). s ∷ drop (i + 1) (map typed_static_tree objects))
    (get_or-map typed_static_tree objects i (typed_static_tree object) object (slice_get_read objects (length objects) i object refl lt is))

here_first : (d : DeclaredObject) (rest : List DeclaredObject) (b : Bool) → cond b (d ∷ rest) rest ≡ cond b (d ∷ []) [] ++ rest
here_first d rest true = refl
here_first d rest false = refl

pub statics_more : (statics : List TypedStatic) (i : ℕ) (object : TypedStatic) (objects new all : List DeclaredObject) → i < length statics → object ≡ get_or statics i object
    → new ≡ objects ++ static_objects (typed_static_tree object ∷ []) → objects ++ static_objects (drop i (map typed_static_tree statics)) ≡ all
    → new ++ static_objects (drop (i + 1) (map typed_static_tree statics)) ≡ all
statics_more statics i object objects new all lt is e before =
    let rest : List Static = drop (i + 1) (map typed_static_tree statics) in
    ap (λ xs. xs ++ static_objects rest) e ∙ append_assoc objects (static_objects (typed_static_tree object ∷ [])) (static_objects rest)
    ∙ ap (λ xs. objects ++ xs) (sym (here_first (record { name = object.name; place = object.place; of = object.of; owner = None }) (static_objects rest) object.defined))
    ∙ ap (λ ss. objects ++ static_objects ss) (sym (statics_open statics i object lt is)) ∙ before

pub statics_all : (statics : List TypedStatic) (i : ℕ) (objects all : List DeclaredObject) → length statics ≤ i
    → objects ++ static_objects (drop i (map typed_static_tree statics)) ≡ all → objects ≡ all
statics_all statics i objects all end before =
    let n = length-map statics typed_static_tree in
    sym (append-nil objects)
    ∙ ap (λ ss. objects ++ static_objects ss) (sym (drop_all i (map typed_static_tree statics) (omega (arith, n, end))))
    ∙ before

pub static_numbers_more : (statics : List TypedStatic) (i : ℕ) (object : TypedStatic) (number next : ℕ) (numbers new all : List ℕ) → i < length statics → object ≡ get_or statics i object
    → new ≡ numbers ++ number ∷ [] → next ≡ cond object.defined (suc number) number → numbers ++ static_numbers number (drop i (map typed_static_tree statics)) ≡ all
    → new ++ static_numbers next (drop (i + 1) (map typed_static_tree statics)) ≡ all
static_numbers_more statics i object number next numbers new all lt is e f before =
    let rest : List Static = drop (i + 1) (map typed_static_tree statics) in
    ap (λ xs. xs ++ static_numbers next rest) e ∙ append_assoc numbers (number ∷ []) (static_numbers next rest)
    ∙ ap (λ n. numbers ++ number ∷ static_numbers n rest) f
    ∙ ap (λ ss. numbers ++ static_numbers number ss) (sym (statics_open statics i object lt is)) ∙ before

-- ## What they hold

summed_here : (count : ℕ → ℕ) (d : DeclaredObject) (rest : List DeclaredObject) (b : Bool) → summed_types count (cond b (d ∷ rest) rest) ≡ summed_types count (cond b (d ∷ []) []) + summed_types count rest
summed_here count d rest true = omega arith
summed_here count d rest false = omega arith

pub statics_split : (count : ℕ → ℕ) (statics : List TypedStatic) (i : ℕ) (object : TypedStatic) → i < length statics → object ≡ get_or statics i object
    → summed_types count (static_objects (drop i (map typed_static_tree statics)))
    ≡ summed_types count (static_objects (typed_static_tree object ∷ [])) + summed_types count (static_objects (drop (i + 1) (map typed_static_tree statics)))
statics_split count statics i object lt is =
    ap (λ ss. summed_types count (static_objects ss)) (statics_open statics i object lt is)
    ∙ summed_here count (record { name = object.name; place = object.place; of = object.of; owner = None }) (static_objects (drop (i + 1) (map typed_static_tree statics))) object.defined

held_here : (xs rest : List Initial) (b : Bool) → cond b (xs ++ rest) rest ≡ cond b (xs ++ []) [] ++ rest
held_here xs rest true = ap (λ ys. ys ++ rest) (sym (append-nil xs))
held_here xs rest false = refl

-- the objects so far, and those that are left
pub record AreHeld (file : TypedFileTree) (numbers : List ℕ) (statics : List TypedStatic) (i : ℕ) (held : List Initial) : Type 0 where
  pub whole : held ++ initial_values file numbers (drop i (map typed_static_tree statics)) ≡ initial_values file numbers (map typed_static_tree statics)
  pub cells : summed_types (cells_of_type file) (static_objects (drop i (map typed_static_tree statics))) ≤ 65536
  pub abstract_cells : summed_types (abstract_cells_of_type file) (static_objects (drop i (map typed_static_tree statics))) ≤ 65536

pub held_small : (file : TypedFileTree) (numbers : List ℕ) (statics : List TypedStatic) (i : ℕ) (object : TypedStatic) (held : List Initial) → i < length statics → object ≡ get_or statics i object
    → AreHeld file numbers statics i held
    → (summed_types (cells_of_type file) (static_objects (typed_static_tree object ∷ [])) ≤ 65536) × (summed_types (abstract_cells_of_type file) (static_objects (typed_static_tree object ∷ [])) ≤ 65536)
held_small file numbers statics i object held lt is before = (
  let a = statics_split (cells_of_type file) statics i object lt is in let b = before.cells in omega (arith, a, b),
  let a = statics_split (abstract_cells_of_type file) statics i object lt is in let b = before.abstract_cells in omega (arith, a, b),
)

pub held_more : (file : TypedFileTree) (numbers : List ℕ) (statics : List TypedStatic) (i : ℕ) (object : TypedStatic) (held new : List Initial) → i < length statics → object ≡ get_or statics i object
    → new ≡ held ++ initial_values file numbers (typed_static_tree object ∷ []) → AreHeld file numbers statics i held → AreHeld file numbers statics (i + 1) new
held_more file numbers statics i object held new lt is e before = record {
  whole =
      ap (λ xs. xs ++ initial_values file numbers rest) e ∙ append_assoc held (initial_values file numbers (typed_static_tree object ∷ [])) (initial_values file numbers rest)
      ∙ ap (λ xs. held ++ xs) (sym (held_here (with_given numbers object.given.items (map (λ c. nothing_given c.scalar) (type_cells file (type_depth file) object.of.number 0))) (initial_values file numbers rest) object.defined))
      ∙ ap (λ ss. held ++ initial_values file numbers ss) (sym (statics_open statics i object lt is)) ∙ before.whole;
  cells = (let a = statics_split (cells_of_type file) statics i object lt is in let b = before.cells in omega (arith, a, b));
  abstract_cells = (let a = statics_split (abstract_cells_of_type file) statics i object lt is in let b = before.abstract_cells in omega (arith, a, b));
}
  where
    rest : List Static
    rest = drop (i + 1) (map typed_static_tree statics)

pub held_all : (file : TypedFileTree) (numbers : List ℕ) (statics : List TypedStatic) (i : ℕ) (held : List Initial) → length statics ≤ i → AreHeld file numbers statics i held
    → held ≡ initial_values file numbers (map typed_static_tree statics)
held_all file numbers statics i held le done =
    sym (append-nil held)
    ∙ ap (λ ss. held ++ initial_values file numbers ss) (sym (drop_all i (map typed_static_tree statics) (let n = length-map statics typed_static_tree in omega (arith, n, le)))) ∙ done.whole

-- an object with its cells, none of which is given
mapped_twice : (object : ℕ) (cs : List TypeCell) → map (λ c. nothing_given c.scalar) (map (laid_cell object) cs) ≡ map (λ c. nothing_given c.scalar) cs
mapped_twice object [] = refl
mapped_twice object (c ∷ cs) = ap (λ xs. nothing_given c.scalar ∷ xs) (mapped_twice object cs)

pub zeros_of : (file : TypedFileTree) (number i : ℕ) (old new : Cells) (items : List LaidCell) (values : List Initial) → IsLaidOut file 0 number 0 old new → old.cells.items ≡ [] → items ≡ new.cells.items
    → length items ≤ i → values ≡ map (λ c. nothing_given c.scalar) (take i items) → values ≡ map (λ c. nothing_given c.scalar) (type_cells file (type_depth file) number 0)
zeros_of file number i old new items values l e f le is =
    is ∙ ap (map (λ c. nothing_given c.scalar)) (take_all i items le ∙ f ∙ l.cells ∙ ap (λ xs. xs ++ map (laid_cell 0) (type_cells file (type_depth file) number 0)) e)
    ∙ mapped_twice 0 (type_cells file (type_depth file) number 0)
