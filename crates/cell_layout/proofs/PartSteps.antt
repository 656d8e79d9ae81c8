-- Parts of objects are laid out one after the other.
use Rattle.std.proofs.Common.{◌≡◌, refl, ap, sym, subst, ◌∙◌, ℕ, zero, suc, ◌+◌, ◌-◌, ◌*◌, ◌<◌, ◌≤◌, Bool, true, false, cond, not, ◌&&◌, ◌||◌, List, [], ◌∷◌, ◌++◌, map, drop, reverse, append_assoc, append-nil, arith}
use Rattle.std.proofs.Common.{length}
use Rattle.std.specs.Prelude.{All}
use Rattle.std.proofs.lemmas.Bool.{leb-true}
use Rattle.std.proofs.lemmas.List.{map-append, reverse-append, reverse-reverse, drop_all}
use Rattle.std.proofs.lemmas.List.Elements.{All-nil, All-cons, All-head, All-tail, All-append}
use Rattle.tm_terms.specs.tm_cint.declared.int_types.IntType.{IntType}
use Rattle.tm_typed.specs.declared.types.Qualified.{Qualified}
use Rattle.tm_typed.specs.declared.types.CType.{CType}
use Rattle.tm_typed.specs.declared.types.CType.TheVariants as Types
use Rattle.tm_typed.specs.declared.types.Scalar.TheVariants as Scalars
use Rattle.tm_typed.specs.declared.scopes.Member.{Member}
use Rattle.tm_typed.specs.Scopes.{cells_of, abstract_cells_of}
use Rattle.tm_typed.specs.Files.{TypedFileTree}
use Rattle.tm_laid.specs.declared.cells.LaidCell.{LaidCell}
use Rattle.tm_laid.specs.declared.cells.AbstractCell.{AbstractCell}
use Rattle.tm_laid.specs.TypeCells.{entry_of, structure_in, is_smashed, summed, count_by, abstract_by, type_depth, cells_of_type, abstract_cells_of_type, elements, in_members, cells_by, type_cells, abstracts_by, type_abstracts}
use Rattle.tm_laid.specs.Objects.{laid_cell, laid_abstract}
use Rattle.tm_laid.specs.Layable.{IsLayable, tables_of}
use Rattle.tm_laid.proofs.Columns.{cells_counted, abstracts_counted}
use Rattle.tm_laid.proofs.TypeDepth.{cells_open, abstract_cells_open, type_cells_open, type_abstracts_open}
use Rattle.cell_layout.specs.declared.cells.TypePart.{TypePart}
use Rattle.cell_layout.specs.declared.cells.Cells.{Cells}
use Rattle.cell_layout.specs.reading.Parts.{part_cells, part_abstracts, parts_cells, parts_abstracts, element_parts, member_parts, inner_parts, summed_nodes, nodes_by, nodes_of_type, parts_nodes, IsSmall, HasLaid, HasScalar, IsLaidOut}
use Rattle.cell_layout.proofs.TypeNodes.{nodes_open}

-- ## Lists of parts

cells_append : (file : TypedFileTree) (object : ℕ) (ps qs : List TypePart) → parts_cells file object (ps ++ qs) ≡ parts_cells file object ps ++ parts_cells file object qs
cells_append file object [] qs = refl
cells_append file object (p ∷ ps) qs =
    ap (λ xs. part_cells file object p ++ xs) (cells_append file object ps qs) ∙ sym (append_assoc (part_cells file object p) (parts_cells file object ps) (parts_cells file object qs))

abstracts_append : (file : TypedFileTree) (object : ℕ) (ps qs : List TypePart) → parts_abstracts file object (ps ++ qs) ≡ parts_abstracts file object ps ++ parts_abstracts file object qs
abstracts_append file object [] qs = refl
abstracts_append file object (p ∷ ps) qs =
    ap (λ xs. part_abstracts file object p ++ xs) (abstracts_append file object ps qs)
    ∙ sym (append_assoc (part_abstracts file object p) (parts_abstracts file object ps) (parts_abstracts file object qs))

nodes_append : (file : TypedFileTree) (ps qs : List TypePart) → parts_nodes file (ps ++ qs) ≡ parts_nodes file ps + parts_nodes file qs
nodes_append file [] qs = omega arith
nodes_append file (p ∷ ps) qs = let e = nodes_append file ps qs in omega (arith, e)

-- ## Elements

elements_cells : (file : TypedFileTree) (object e : ℕ) (smashed leading later : Bool) (c a n offset start : ℕ)
    → map (laid_cell object) (elements (type_cells file (type_depth file) e) n a start) ≡ parts_cells file object (element_parts e smashed leading later c a n offset start)
elements_cells file object e smashed leading later c a zero offset start = refl
elements_cells file object e smashed leading later c a (suc n) offset start =
    map-append (laid_cell object) (type_cells file (type_depth file) e start) (elements (type_cells file (type_depth file) e) n a (start + a))
    ∙ ap (λ xs. map (laid_cell object) (type_cells file (type_depth file) e start) ++ xs) (elements_cells file object e smashed later later c a n (offset + c) (start + a))

no_abstracts : (file : TypedFileTree) (object e : ℕ) (smashed : Bool) (c a n offset start : ℕ) → parts_abstracts file object (element_parts e smashed false false c a n offset start) ≡ []
no_abstracts file object e smashed c a zero offset start = refl
no_abstracts file object e smashed c a (suc n) offset start = no_abstracts file object e smashed c a n (offset + c) (start + a)

elements_abstracts : (file : TypedFileTree) (object e : ℕ) (smashed : Bool) (c a n offset start : ℕ)
    → map (laid_abstract object) (elements (type_abstracts file (type_depth file) smashed e) n c offset) ≡ parts_abstracts file object (element_parts e smashed true true c a n offset start)
elements_abstracts file object e smashed c a zero offset start = refl
elements_abstracts file object e smashed c a (suc n) offset start =
    map-append (laid_abstract object) (type_abstracts file (type_depth file) smashed e offset) (elements (type_abstracts file (type_depth file) smashed e) n c (offset + c))
    ∙ ap (λ xs. map (laid_abstract object) (type_abstracts file (type_depth file) smashed e offset) ++ xs) (elements_abstracts file object e smashed c a n (offset + c) (start + a))

-- elements that are all leading, or none is
both_abstracts : (file : TypedFileTree) (object e : ℕ) (smashed leading : Bool) (c a n offset start : ℕ)
    → cond leading (map (laid_abstract object) (elements (type_abstracts file (type_depth file) smashed e) n c offset)) [] ≡ parts_abstracts file object (element_parts e smashed leading leading c a n offset start)
both_abstracts file object e smashed true c a n offset start = elements_abstracts file object e smashed c a n offset start
both_abstracts file object e smashed false c a n offset start = sym (no_abstracts file object e smashed c a n offset start)

-- elements of which the first alone is leading
first_abstracts : (file : TypedFileTree) (object e : ℕ) (smashed leading : Bool) (c a n offset start : ℕ) → 1 ≤ n
    → cond leading (map (laid_abstract object) (type_abstracts file (type_depth file) smashed e offset)) [] ≡ parts_abstracts file object (element_parts e smashed leading false c a n offset start)
first_abstracts file object e smashed leading c a zero offset start h = absurd (omega (arith, h))
first_abstracts file object e smashed leading c a (suc n) offset start h =
    sym (append-nil (cond leading (map (laid_abstract object) (type_abstracts file (type_depth file) smashed e offset)) []))
    ∙ ap (λ xs. cond leading (map (laid_abstract object) (type_abstracts file (type_depth file) smashed e offset)) [] ++ xs) (sym (no_abstracts file object e smashed c a n (offset + c) (start + a)))

element_nodes : (file : TypedFileTree) (e : ℕ) (smashed leading later : Bool) (c a n offset start : ℕ) → parts_nodes file (element_parts e smashed leading later c a n offset start) ≡ n * nodes_of_type file e
element_nodes file e smashed leading later c a zero offset start = omega arith
element_nodes file e smashed leading later c a (suc n) offset start =
    let i = element_nodes file e smashed later later c a n (offset + c) (start + a) in
    let m : suc n * nodes_of_type file e ≡ nodes_of_type file e + n * nodes_of_type file e = omega arith in
    omega (arith, i, m)

once_more : (n c : ℕ) → suc n * c ≡ c + n * c
once_more n c = omega arith

-- elements one behind the other, whose abstract cells too stand one behind the other
elements_small : (file : TypedFileTree) (e : ℕ) (smashed leading later : Bool) (n offset start : ℕ) → offset + n * cells_of_type file e ≤ 65536 → start + n * abstract_cells_of_type file e ≤ 65536
    → All (IsSmall file) (element_parts e smashed leading later (cells_of_type file e) (abstract_cells_of_type file e) n offset start)
elements_small file e smashed leading later zero offset start h k = All-nil (IsSmall file)
elements_small file e smashed leading later (suc n) offset start h k =
    let c : ℕ = cells_of_type file e in
    let a : ℕ = abstract_cells_of_type file e in
    let x = once_more n c in
    let y = once_more n a in
    All-cons (IsSmall file) (record { number = e; offset = offset; abstract_cell = start; smashed = smashed; leading = leading })
    (element_parts e smashed later later c a n (offset + c) (start + a))
    (record { cells = omega (arith, x, h); abstract_cells = omega (arith, y, k) })
    (elements_small file e smashed later later n (offset + c) (start + a) (omega (arith, x, h)) (omega (arith, y, k)))

-- elements that share their abstract cells
smashed_small : (file : TypedFileTree) (e : ℕ) (smashed leading later : Bool) (n offset start : ℕ) → offset + n * cells_of_type file e ≤ 65536 → start + abstract_cells_of_type file e ≤ 65536
    → All (IsSmall file) (element_parts e smashed leading later (cells_of_type file e) 0 n offset start)
smashed_small file e smashed leading later zero offset start h k = All-nil (IsSmall file)
smashed_small file e smashed leading later (suc n) offset start h k =
    let c : ℕ = cells_of_type file e in
    let x = once_more n c in
    All-cons (IsSmall file) (record { number = e; offset = offset; abstract_cell = start; smashed = smashed; leading = leading })
    (element_parts e smashed later later c 0 n (offset + c) (start + 0))
    (record { cells = omega (arith, x, h); abstract_cells = k })
    (smashed_small file e smashed later later n (offset + c) (start + 0) (omega (arith, x, h)) (omega (arith, k)))

-- ## Members

members_cells : (file : TypedFileTree) (object : ℕ) (smashed leading : Bool) (ms : List Member) (offset start : ℕ)
    → map (laid_cell object) (in_members (type_cells file (type_depth file)) (abstract_cells_of_type file) ms start) ≡ parts_cells file object (member_parts file smashed leading ms offset start)
members_cells file object smashed leading [] offset start = refl
members_cells file object smashed leading (m ∷ ms) offset start =
    map-append (laid_cell object) (type_cells file (type_depth file) m.part.of.number start)
    (in_members (type_cells file (type_depth file)) (abstract_cells_of_type file) ms (start + abstract_cells_of_type file m.part.of.number))
    ∙ ap (λ xs. map (laid_cell object) (type_cells file (type_depth file) m.part.of.number start) ++ xs)
    (members_cells file object smashed leading ms (offset + cells_of_type file m.part.of.number) (start + abstract_cells_of_type file m.part.of.number))

members_abstracts : (file : TypedFileTree) (object : ℕ) (smashed : Bool) (ms : List Member) (offset start : ℕ)
    → map (laid_abstract object) (in_members (type_abstracts file (type_depth file) smashed) (cells_of_type file) ms offset) ≡ parts_abstracts file object (member_parts file smashed true ms offset start)
members_abstracts file object smashed [] offset start = refl
members_abstracts file object smashed (m ∷ ms) offset start =
    map-append (laid_abstract object) (type_abstracts file (type_depth file) smashed m.part.of.number offset)
    (in_members (type_abstracts file (type_depth file) smashed) (cells_of_type file) ms (offset + cells_of_type file m.part.of.number))
    ∙ ap (λ xs. map (laid_abstract object) (type_abstracts file (type_depth file) smashed m.part.of.number offset) ++ xs)
    (members_abstracts file object smashed ms (offset + cells_of_type file m.part.of.number) (start + abstract_cells_of_type file m.part.of.number))

no_member_abstracts : (file : TypedFileTree) (object : ℕ) (smashed : Bool) (ms : List Member) (offset start : ℕ) → parts_abstracts file object (member_parts file smashed false ms offset start) ≡ []
no_member_abstracts file object smashed [] offset start = refl
no_member_abstracts file object smashed (m ∷ ms) offset start =
    no_member_abstracts file object smashed ms (offset + cells_of_type file m.part.of.number) (start + abstract_cells_of_type file m.part.of.number)

both_member_abstracts : (file : TypedFileTree) (object : ℕ) (smashed leading : Bool) (ms : List Member) (offset start : ℕ)
    → cond leading (map (laid_abstract object) (in_members (type_abstracts file (type_depth file) smashed) (cells_of_type file) ms offset)) []
    ≡ parts_abstracts file object (member_parts file smashed leading ms offset start)
both_member_abstracts file object smashed true ms offset start = members_abstracts file object smashed ms offset start
both_member_abstracts file object smashed false ms offset start = sym (no_member_abstracts file object smashed ms offset start)

member_nodes : (file : TypedFileTree) (smashed leading : Bool) (ms : List Member) (offset start : ℕ) → parts_nodes file (member_parts file smashed leading ms offset start) ≡ summed_nodes (nodes_of_type file) ms
member_nodes file smashed leading [] offset start = refl
member_nodes file smashed leading (m ∷ ms) offset start =
    ap (λ x. nodes_of_type file m.part.of.number + x) (member_nodes file smashed leading ms (offset + cells_of_type file m.part.of.number) (start + abstract_cells_of_type file m.part.of.number))

members_small : (file : TypedFileTree) (smashed leading : Bool) (ms : List Member) (offset start : ℕ) → offset + summed (cells_of_type file) ms ≤ 65536 → start + summed (abstract_cells_of_type file) ms ≤ 65536
    → All (IsSmall file) (member_parts file smashed leading ms offset start)
members_small file smashed leading [] offset start h k = All-nil (IsSmall file)
members_small file smashed leading (m ∷ ms) offset start h k =
    All-cons (IsSmall file) (record { number = m.part.of.number; offset = offset; abstract_cell = start; smashed = smashed; leading = leading })
    (member_parts file smashed leading ms (offset + cells_of_type file m.part.of.number) (start + abstract_cells_of_type file m.part.of.number))
    (record { cells = omega (arith, h); abstract_cells = omega (arith, k) })
    (members_small file smashed leading ms (offset + cells_of_type file m.part.of.number) (start + abstract_cells_of_type file m.part.of.number) (omega (arith, h)) (omega (arith, k)))

-- ## What a part opens

or_right : (x : Bool) → (x || true) ≡ true
or_right true = refl
or_right false = refl

or_none : (x : Bool) → (x || false) ≡ x
or_none true = refl
or_none false = refl

and_none : (x : Bool) → (x && false) ≡ false
and_none true = refl
and_none false = refl

and_all : (x : Bool) → (x && true) ≡ x
and_all true = refl
and_all false = refl

-- a part is what is inside it
pub record IsInside (file : TypedFileTree) (object : ℕ) (p : TypePart) (ps : List TypePart) : Type 0 where
  pub cells : part_cells file object p ≡ parts_cells file object ps
  pub abstracts : part_abstracts file object p ≡ parts_abstracts file object ps
  pub nodes : nodes_of_type file p.number ≡ suc (parts_nodes file ps)
  pub small : IsSmall file p → All (IsSmall file) ps

array_abstracts : (file : TypedFileTree) (object e n : ℕ) (p : TypePart) (b : Bool) → is_smashed n ≡ b
    → cond p.leading (map (laid_abstract object) (cond b (type_abstracts file (type_depth file) true e p.offset) (elements (type_abstracts file (type_depth file) p.smashed e) n (cells_of_type file e) p.offset))) []
    ≡ parts_abstracts file object (element_parts e (p.smashed || b) p.leading (p.leading && not b) (cells_of_type file e) (cond b 0 (abstract_cells_of_type file e)) n p.offset p.abstract_cell)
array_abstracts file object e n p true t =
    first_abstracts file object e true p.leading (cells_of_type file e) 0 n p.offset p.abstract_cell (let l = leb-true 65 n t in omega (arith, l))
    ∙ ap (λ x. parts_abstracts file object (element_parts e x p.leading false (cells_of_type file e) 0 n p.offset p.abstract_cell)) (sym (or_right p.smashed))
    ∙ ap (λ x. parts_abstracts file object (element_parts e (p.smashed || true) p.leading x (cells_of_type file e) 0 n p.offset p.abstract_cell)) (sym (and_none p.leading))
array_abstracts file object e n p false t =
    both_abstracts file object e p.smashed p.leading (cells_of_type file e) (abstract_cells_of_type file e) n p.offset p.abstract_cell
    ∙ ap (λ x. parts_abstracts file object (element_parts e x p.leading p.leading (cells_of_type file e) (abstract_cells_of_type file e) n p.offset p.abstract_cell)) (sym (or_none p.smashed))
    ∙ ap (λ x. parts_abstracts file object (element_parts e (p.smashed || false) p.leading x (cells_of_type file e) (abstract_cells_of_type file e) n p.offset p.abstract_cell)) (sym (and_all p.leading))

array_small : (file : TypedFileTree) (e n : ℕ) (p : TypePart) (b : Bool) → is_smashed n ≡ b → p.offset + n * cells_of_type file e ≤ 65536
    → p.abstract_cell + cond b (abstract_cells_of_type file e) (n * abstract_cells_of_type file e) ≤ 65536
    → All (IsSmall file) (element_parts e (p.smashed || b) p.leading (p.leading && not b) (cells_of_type file e) (cond b 0 (abstract_cells_of_type file e)) n p.offset p.abstract_cell)
array_small file e n p true t h k = smashed_small file e (p.smashed || true) p.leading (p.leading && false) n p.offset p.abstract_cell h k
array_small file e n p false t h k = elements_small file e (p.smashed || false) p.leading (p.leading && true) n p.offset p.abstract_cell h k

module _ (file : TypedFileTree) (order : List ℕ) (h : IsLayable file order) (object : ℕ) (p : TypePart) where
  cells_are : (t : CType) → (entry_of file p.number).ctype ≡ t → part_cells file object p ≡ map (laid_cell object) (cells_by file (type_cells file (type_depth file)) (abstract_cells_of_type file) p.abstract_cell (entry_of file p.number) t)
  cells_are t e =
      ap (map (laid_cell object)) (type_cells_open file h.ranks p.number p.abstract_cell
      ∙ ap (cells_by file (type_cells file (type_depth file)) (abstract_cells_of_type file) p.abstract_cell (entry_of file p.number)) e)

  abstracts_are : (t : CType) → (entry_of file p.number).ctype ≡ t
      → part_abstracts file object p ≡ cond p.leading (map (laid_abstract object) (abstracts_by file (type_abstracts file (type_depth file)) (cells_of_type file) p.smashed p.offset (entry_of file p.number) t)) []
  abstracts_are t e =
      ap (λ xs. cond p.leading (map (laid_abstract object) xs) []) (type_abstracts_open file h.ranks p.smashed p.number p.offset
      ∙ ap (abstracts_by file (type_abstracts file (type_depth file)) (cells_of_type file) p.smashed p.offset (entry_of file p.number)) e)

  nodes_are : (t : CType) → (entry_of file p.number).ctype ≡ t → nodes_of_type file p.number ≡ nodes_by file (nodes_of_type file) t
  nodes_are t e = nodes_open file h.ranks p.number ∙ ap (nodes_by file (nodes_of_type file)) e

  count_is : (t : CType) → (entry_of file p.number).ctype ≡ t → cells_of_type file p.number ≡ count_by file (cells_of_type file) t
  count_is t e = cells_open file h.ranks p.number ∙ ap (count_by file (cells_of_type file)) e

  abstract_count_is : (t : CType) → (entry_of file p.number).ctype ≡ t → abstract_cells_of_type file p.number ≡ abstract_by file (abstract_cells_of_type file) t
  abstract_count_is t e = abstract_cells_open file h.ranks p.number ∙ ap (abstract_by file (abstract_cells_of_type file)) e

  pub array_inside : (e n : ℕ) → (entry_of file p.number).ctype ≡ Types.Array e n → IsInside file object p (inner_parts file p (Types.Array e n))
  array_inside e n t = record {
    cells = cells_are (Types.Array e n) t
        ∙ elements_cells file object e (p.smashed || is_smashed n) p.leading (p.leading && not (is_smashed n)) (cells_of_type file e) (cond (is_smashed n) 0 (abstract_cells_of_type file e)) n p.offset p.abstract_cell;
    abstracts = abstracts_are (Types.Array e n) t ∙ array_abstracts file object e n p (is_smashed n) refl;
    nodes = nodes_are (Types.Array e n) t
        ∙ ap suc (sym (element_nodes file e (p.smashed || is_smashed n) p.leading (p.leading && not (is_smashed n)) (cells_of_type file e) (cond (is_smashed n) 0 (abstract_cells_of_type file e)) n p.offset p.abstract_cell));
    small = λ s. array_small file e n p (is_smashed n) refl
        (let a = count_is (Types.Array e n) t in let b = s.cells in omega (arith, a, b))
        (let a = abstract_count_is (Types.Array e n) t in let b = s.abstract_cells in omega (arith, a, b));
  }

  pub structure_inside : (k : ℕ) → (entry_of file p.number).ctype ≡ Types.Struct k → IsInside file object p (inner_parts file p (Types.Struct k))
  structure_inside k t = record {
    cells = cells_are (Types.Struct k) t ∙ members_cells file object p.smashed p.leading (structure_in file k).members p.offset p.abstract_cell;
    abstracts = abstracts_are (Types.Struct k) t ∙ both_member_abstracts file object p.smashed p.leading (structure_in file k).members p.offset p.abstract_cell;
    nodes = nodes_are (Types.Struct k) t ∙ ap suc (sym (member_nodes file p.smashed p.leading (structure_in file k).members p.offset p.abstract_cell));
    small = λ s. members_small file p.smashed p.leading (structure_in file k).members p.offset p.abstract_cell
        (let a = count_is (Types.Struct k) t in let b = s.cells in omega (arith, a, b))
        (let a = abstract_count_is (Types.Struct k) t in let b = s.abstract_cells in omega (arith, a, b));
  }

  -- ## What laying out a part does

  pub laid_inside : (cells : Cells) (waited waiting parts ps : List TypePart) → IsInside file object p ps → IsSmall file p → parts ≡ ps → waiting ≡ waited ++ reverse parts → All (IsSmall file) (reverse waited)
      → HasLaid file object p cells cells waited waiting
  laid_inside cells waited waiting parts ps i s e w others = record {
    cells = ap (λ xs. cells.cells.items ++ parts_cells file object xs) turned
        ∙ ap (λ xs. cells.cells.items ++ xs) (cells_append file object ps (reverse waited) ∙ ap (λ xs. xs ++ parts_cells file object (reverse waited)) (sym i.cells));
    abstracts = ap (λ xs. cells.abstract_cells.items ++ parts_abstracts file object xs) turned
        ∙ ap (λ xs. cells.abstract_cells.items ++ xs) (abstracts_append file object ps (reverse waited) ∙ ap (λ xs. xs ++ parts_abstracts file object (reverse waited)) (sym i.abstracts));
    small = (let P : List TypePart → Type 0 = λ xs. All (IsSmall file) xs in subst P (sym turned) (All-append (IsSmall file) ps (reverse waited) (i.small s) others));
    nodes = (let a = ap (parts_nodes file) turned in let b = nodes_append file ps (reverse waited) in let c = i.nodes in omega (arith, a, b, c));
  }
    where
      turned : reverse waiting ≡ ps ++ reverse waited
      turned = ap reverse w ∙ reverse-append waited (reverse parts) ∙ ap (λ xs. xs ++ reverse waited) (reverse-reverse parts ∙ e)

  laid_alone : (old new : Cells) (waited : List TypePart) (cs : List LaidCell) (bs : List AbstractCell) → part_cells file object p ≡ cs → part_abstracts file object p ≡ bs → nodes_of_type file p.number ≡ 1
      → new.cells.items ≡ old.cells.items ++ cs → new.abstract_cells.items ≡ old.abstract_cells.items ++ bs → All (IsSmall file) (reverse waited) → HasLaid file object p old new waited waited
  laid_alone old new waited cs bs a b n e f others = record {
    cells = ap (λ xs. xs ++ parts_cells file object (reverse waited)) (e ∙ ap (λ xs. old.cells.items ++ xs) (sym a))
        ∙ append_assoc old.cells.items (part_cells file object p) (parts_cells file object (reverse waited));
    abstracts = ap (λ xs. xs ++ parts_abstracts file object (reverse waited)) (f ∙ ap (λ xs. old.abstract_cells.items ++ xs) (sym b))
        ∙ append_assoc old.abstract_cells.items (part_abstracts file object p) (parts_abstracts file object (reverse waited));
    small = others;
    nodes = omega (arith, n);
  }

  pub laid_int : (u : IntType) (old new : Cells) (waited : List TypePart) → (entry_of file p.number).ctype ≡ Types.Int u → HasScalar object p (Scalars.Int u) old new → All (IsSmall file) (reverse waited)
      → HasLaid file object p old new waited waited
  laid_int u old new waited t s others =
      laid_alone old new waited _ _ (cells_are (Types.Int u) t) (abstracts_are (Types.Int u) t) (nodes_are (Types.Int u) t) s.cells s.abstracts others

  pub laid_pointer : (q : Qualified) (old new : Cells) (waited : List TypePart) (class : ℕ) → (entry_of file p.number).ctype ≡ Types.Pointer q → class ≡ (entry_of file p.number).class
      → HasScalar object p (Scalars.Pointer class) old new → All (IsSmall file) (reverse waited) → HasLaid file object p old new waited waited
  laid_pointer q old new waited class t e s others =
      laid_alone old new waited _ _
      (cells_are (Types.Pointer q) t ∙ ap (λ k. record { object = object; scalar = Scalars.Pointer k; abstract_cell = p.abstract_cell } ∷ []) (sym e))
      (abstracts_are (Types.Pointer q) t ∙ ap (λ k. cond p.leading (record { object = object; offset = p.offset; scalar = Scalars.Pointer k; smashed = p.smashed } ∷ []) []) (sym e))
      (nodes_are (Types.Pointer q) t) s.cells s.abstracts others

  pub laid_nothing : (cells : Cells) (waited : List TypePart) → (entry_of file p.number).ctype ≡ Types.Void → All (IsSmall file) (reverse waited) → HasLaid file object p cells cells waited waited
  laid_nothing cells waited t others =
      laid_alone cells cells waited [] [] (cells_are Types.Void t) (abstracts_are Types.Void t ∙ none p.leading) (nodes_are Types.Void t)
      (sym (append-nil cells.cells.items)) (sym (append-nil cells.abstract_cells.items)) others
    where
      none : (b : Bool) → ◌≡◌ {A = List AbstractCell} (cond b [] []) []
      none true = refl
      none false = refl

-- ## Elements of an array, one after the other

pub record AreElements (file : TypedFileTree) (part : TypePart) (e n i : ℕ) (parts : List TypePart) (next : TypePart) : Type 0 where
  pub whole : parts ++ element_parts e next.smashed next.leading (part.leading && not (is_smashed n)) (cells_of_type file e) (cond (is_smashed n) 0 (abstract_cells_of_type file e)) (n - i) next.offset next.abstract_cell
      ≡ inner_parts file part (Types.Array e n)
  pub number : next.number ≡ e
  pub cells : next.offset + (n - i) * cells_of_type file e ≤ 65536
  pub abstract_cells : next.abstract_cell + (n - i) * cond (is_smashed n) 0 (abstract_cells_of_type file e) ≤ 65536

first_room : (b : Bool) (start a n : ℕ) → start + cond b a (n * a) ≤ 65536 → start + n * cond b 0 a ≤ 65536
first_room true start a n h = let z : n * 0 ≡ 0 = omega arith in omega (arith, z, h)
first_room false start a n h = h

pub elements_first : (file : TypedFileTree) (order : List ℕ) → IsLayable file order → (part : TypePart) (e n : ℕ) (next : TypePart) → IsSmall file part → (entry_of file part.number).ctype ≡ Types.Array e n
    → next ≡ record { number = e; offset = part.offset; abstract_cell = part.abstract_cell; smashed = part.smashed || is_smashed n; leading = part.leading } → AreElements file part e n 0 [] next
elements_first file order h part e n next s t is = subst P (sym is) (record {
  whole = ap (λ k. element_parts e (part.smashed || is_smashed n) part.leading (part.leading && not (is_smashed n)) (cells_of_type file e) (cond (is_smashed n) 0 (abstract_cells_of_type file e)) k part.offset part.abstract_cell) all;
  number = refl;
  cells = (let a = count_is file order h 0 part (Types.Array e n) t in let b = s.cells in let c = ap (λ k. k * cells_of_type file e) all in omega (arith, a, b, c));
  abstract_cells =
      (let a = abstract_count_is file order h 0 part (Types.Array e n) t in
      let b = s.abstract_cells in
      let r = first_room (is_smashed n) part.abstract_cell (abstract_cells_of_type file e) n (let z : part.abstract_cell + cond (is_smashed n) (abstract_cells_of_type file e) (n * abstract_cells_of_type file e) ≤ 65536 = omega (arith, a, b) in z) in
      let c = ap (λ k. k * cond (is_smashed n) 0 (abstract_cells_of_type file e)) all in
      omega (arith, r, c));
})
  where
    P : TypePart → Type 0
    P x = AreElements file part e n 0 [] x

    all : n - 0 ≡ n
    all = omega arith

one_less : (n i c : ℕ) → i < n → (n - i) * c ≡ c + (n - (i + 1)) * c
one_less n i c lt = let e : n - i ≡ suc (n - (i + 1)) = omega (arith, lt) in ap (λ k. k * c) e ∙ once_more (n - (i + 1)) c

-- the columns of an element are exact
pub element_cells : (file : TypedFileTree) (order : List ℕ) → IsLayable file order → (part : TypePart) (e n i c : ℕ) (parts : List TypePart) (next : TypePart) → i < n → c ≡ cells_of (tables_of file) e
    → AreElements file part e n i parts next → c ≡ cells_of_type file e
element_cells file order h part e n i c parts next lt is before =
    let a = cells_counted file order h e in
    let b = one_less n i (cells_of_type file e) lt in
    let d = before.cells in
    omega (arith, is, a, b, d)

pub element_abstracts : (file : TypedFileTree) (order : List ℕ) → IsLayable file order → (part : TypePart) (e n i a : ℕ) (b : Bool) (parts : List TypePart) (next : TypePart) → i < n → b ≡ is_smashed n
    → a ≡ cond b 0 (abstract_cells_of (tables_of file) e) → AreElements file part e n i parts next → a ≡ cond (is_smashed n) 0 (abstract_cells_of_type file e)
element_abstracts file order h part e n i a b parts next lt same is before =
    is ∙ ap (λ x. cond x 0 (abstract_cells_of (tables_of file) e)) same ∙ by_case (is_smashed n) before.abstract_cells
  where
    by_case : (x : Bool) → next.abstract_cell + (n - i) * cond x 0 (abstract_cells_of_type file e) ≤ 65536 → cond x 0 (abstract_cells_of (tables_of file) e) ≡ cond x 0 (abstract_cells_of_type file e)
    by_case true room = refl
    by_case false room =
        let c = abstracts_counted file order h e in
        let d = one_less n i (abstract_cells_of_type file e) lt in
        omega (arith, c, d, room)

pub elements_room : (file : TypedFileTree) (part : TypePart) (e n i c a : ℕ) (parts : List TypePart) (next : TypePart) → i < n → c ≡ cells_of_type file e → a ≡ cond (is_smashed n) 0 (abstract_cells_of_type file e)
    → AreElements file part e n i parts next → (next.offset + c ≤ 65536) × (next.abstract_cell + a ≤ 65536)
elements_room file part e n i c a parts next lt x y before = (
  let b = one_less n i (cells_of_type file e) lt in let d = before.cells in omega (arith, x, b, d),
  let b = one_less n i (cond (is_smashed n) 0 (abstract_cells_of_type file e)) lt in let d = before.abstract_cells in omega (arith, y, b, d),
)

pub elements_more : (file : TypedFileTree) (part : TypePart) (e n i c a : ℕ) (later : Bool) (parts new : List TypePart) (next then : TypePart) → i < n → c ≡ cells_of_type file e
    → a ≡ cond (is_smashed n) 0 (abstract_cells_of_type file e) → later ≡ (part.leading && not (is_smashed n)) → new ≡ parts ++ next ∷ []
    → then ≡ record { number = next.number; offset = next.offset + c; abstract_cell = next.abstract_cell + a; smashed = next.smashed; leading = later }
    → AreElements file part e n i parts next → AreElements file part e n (i + 1) new then
elements_more file part e n i c a later parts new next then lt x y z f is before = subst P (sym is) (record {
  whole =
      ap (λ xs. xs ++ rest later (next.offset + c) (next.abstract_cell + a)) f
      ∙ append_assoc parts (next ∷ []) (rest later (next.offset + c) (next.abstract_cell + a))
      ∙ ap (λ b. parts ++ next ∷ element_parts e next.smashed b s (cells_of_type file e) step (n - (i + 1)) (next.offset + c) (next.abstract_cell + a)) z
      ∙ ap (λ k. parts ++ next ∷ rest s (next.offset + k) (next.abstract_cell + a)) x
      ∙ ap (λ k. parts ++ next ∷ rest s (next.offset + cells_of_type file e) (next.abstract_cell + k)) y
      ∙ ap (λ k. parts ++ record { number = k; offset = next.offset; abstract_cell = next.abstract_cell; smashed = next.smashed; leading = next.leading } ∷ rest s (next.offset + cells_of_type file e) (next.abstract_cell + step)) before.number
      ∙ ap (λ k. parts ++ element_parts e next.smashed next.leading s (cells_of_type file e) step k next.offset next.abstract_cell) (let g : suc (n - (i + 1)) ≡ n - i = omega (arith, lt) in g)
      ∙ before.whole;
  number = before.number;
  cells = (let b = one_less n i (cells_of_type file e) lt in let d = before.cells in omega (arith, x, b, d));
  abstract_cells = (let b = one_less n i step lt in let d = before.abstract_cells in omega (arith, y, b, d));
})
  where
    P : TypePart → Type 0
    P q = AreElements file part e n (i + 1) new q

    s : Bool
    s = part.leading && not (is_smashed n)

    step : ℕ
    step = cond (is_smashed n) 0 (abstract_cells_of_type file e)

    rest : Bool → ℕ → ℕ → List TypePart
    rest b offset start = element_parts e next.smashed b s (cells_of_type file e) step (n - (i + 1)) offset start

pub elements_all : (file : TypedFileTree) (part : TypePart) (e n i : ℕ) (parts : List TypePart) (next : TypePart)
    → n ≤ i → AreElements file part e n i parts next → parts ≡ inner_parts file part (Types.Array e n)
elements_all file part e n i parts next end done =
    sym (append-nil parts)
    ∙ ap (λ k. parts ++ element_parts e next.smashed next.leading (part.leading && not (is_smashed n)) (cells_of_type file e) (cond (is_smashed n) 0 (abstract_cells_of_type file e)) k next.offset next.abstract_cell)
    (let z : 0 ≡ n - i = omega (arith, end) in z)
    ∙ done.whole

-- ## Members of a structure, one after the other

pub record AreMembers (file : TypedFileTree) (part : TypePart) (k i : ℕ) (parts : List TypePart) (next : TypePart) : Type 0 where
  pub whole : parts ++ member_parts file next.smashed part.leading (drop i (structure_in file k).members) next.offset next.abstract_cell ≡ inner_parts file part (Types.Struct k)
  pub leading : next.leading ≡ part.leading
  pub cells : next.offset + summed (cells_of_type file) (drop i (structure_in file k).members) ≤ 65536
  pub abstract_cells : next.abstract_cell + summed (abstract_cells_of_type file) (drop i (structure_in file k).members) ≤ 65536

pub members_first : (file : TypedFileTree) (order : List ℕ) → IsLayable file order → (part : TypePart) (k : ℕ) → IsSmall file part → (entry_of file part.number).ctype ≡ Types.Struct k → AreMembers file part k 0 [] part
members_first file order h part k s t = record {
  whole = refl;
  leading = refl;
  cells = (let a = count_is file order h 0 part (Types.Struct k) t in let b = s.cells in omega (arith, a, b));
  abstract_cells = (let a = abstract_count_is file order h 0 part (Types.Struct k) t in let b = s.abstract_cells in omega (arith, a, b));
}

-- the columns of a member are exact, and what stands behind it has room
pub member_room : (file : TypedFileTree) (order : List ℕ) → IsLayable file order → (part : TypePart) (k i c a : ℕ) (m : Member) (parts : List TypePart) (next : TypePart)
    → drop i (structure_in file k).members ≡ m ∷ drop (i + 1) (structure_in file k).members → c ≡ cells_of (tables_of file) m.part.of.number → a ≡ abstract_cells_of (tables_of file) m.part.of.number
    → AreMembers file part k i parts next
    → (c ≡ cells_of_type file m.part.of.number) × (a ≡ abstract_cells_of_type file m.part.of.number) × (next.offset + c ≤ 65536) × (next.abstract_cell + a ≤ 65536)
member_room file order h part k i c a m parts next more x y before =
    let s = ap (summed (cells_of_type file)) more in
    let t = ap (summed (abstract_cells_of_type file)) more in
    let u = cells_counted file order h m.part.of.number in
    let v = abstracts_counted file order h m.part.of.number in
    let d = before.cells in
    let e = before.abstract_cells in
    (omega (arith, x, s, u, d), omega (arith, y, t, v, e), omega (arith, x, s, u, d), omega (arith, y, t, v, e))

pub members_more : (file : TypedFileTree) (part : TypePart) (k i c a : ℕ) (m : Member) (parts new : List TypePart) (next then : TypePart)
    → drop i (structure_in file k).members ≡ m ∷ drop (i + 1) (structure_in file k).members → c ≡ cells_of_type file m.part.of.number → a ≡ abstract_cells_of_type file m.part.of.number
    → new ≡ parts ++ record { number = m.part.of.number; offset = next.offset; abstract_cell = next.abstract_cell; smashed = next.smashed; leading = next.leading } ∷ []
    → then ≡ record { number = m.part.of.number; offset = next.offset + c; abstract_cell = next.abstract_cell + a; smashed = next.smashed; leading = part.leading }
    → AreMembers file part k i parts next → AreMembers file part k (i + 1) new then
members_more file part k i c a m parts new next then more x y f is before = subst P (sym is) (record {
  whole =
      ap (λ xs. xs ++ rest (next.offset + c) (next.abstract_cell + a)) f
      ∙ append_assoc parts (now next.leading ∷ []) (rest (next.offset + c) (next.abstract_cell + a))
      ∙ ap (λ b. parts ++ now b ∷ rest (next.offset + c) (next.abstract_cell + a)) before.leading
      ∙ ap (λ j. parts ++ now part.leading ∷ rest (next.offset + j) (next.abstract_cell + a)) x
      ∙ ap (λ j. parts ++ now part.leading ∷ rest (next.offset + cells_of_type file m.part.of.number) (next.abstract_cell + j)) y
      ∙ ap (λ ms. parts ++ member_parts file next.smashed part.leading ms next.offset next.abstract_cell) (sym more)
      ∙ before.whole;
  leading = refl;
  cells = (let s = ap (summed (cells_of_type file)) more in let d = before.cells in omega (arith, x, s, d));
  abstract_cells = (let s = ap (summed (abstract_cells_of_type file)) more in let d = before.abstract_cells in omega (arith, y, s, d));
})
  where
    P : TypePart → Type 0
    P q = AreMembers file part k (i + 1) new q

    now : Bool → TypePart
    now b = record { number = m.part.of.number; offset = next.offset; abstract_cell = next.abstract_cell; smashed = next.smashed; leading = b }

    rest : ℕ → ℕ → List TypePart
    rest offset start = member_parts file next.smashed part.leading (drop (i + 1) (structure_in file k).members) offset start

pub members_all : (file : TypedFileTree) (part : TypePart) (k i : ℕ) (parts : List TypePart) (next : TypePart)
    → length (structure_in file k).members ≤ i → AreMembers file part k i parts next
    → parts ≡ inner_parts file part (Types.Struct k)
members_all file part k i parts next end done =
    sym (append-nil parts)
    ∙ ap (λ ms. parts ++ member_parts file next.smashed part.leading ms next.offset next.abstract_cell)
    (sym (drop_all i (structure_in file k).members end))
    ∙ done.whole

-- ## Objects

-- the rest of an object waits
pub record IsGoing (file : TypedFileTree) (object number first : ℕ) (old now : Cells) (waiting : List TypePart) : Type 0 where
  pub cells : now.cells.items ++ parts_cells file object (reverse waiting) ≡ old.cells.items ++ map (laid_cell object) (type_cells file (type_depth file) number first)
  pub abstracts : now.abstract_cells.items ++ parts_abstracts file object (reverse waiting) ≡ old.abstract_cells.items ++ map (laid_abstract object) (type_abstracts file (type_depth file) false number 0)
  pub small : All (IsSmall file) (reverse waiting)

pub going_first : (file : TypedFileTree) (object number first : ℕ) (cells : Cells) (waiting : List TypePart) → cells_of_type file number ≤ 65536 → first + abstract_cells_of_type file number ≤ 65536
    → waiting ≡ [] ++ record { number = number; offset = 0; abstract_cell = first; smashed = false; leading = true } ∷ [] → IsGoing file object number first cells cells waiting
going_first file object number first cells waiting a b e = subst P (sym e) (record {
  cells = ap (λ xs. cells.cells.items ++ xs) (append-nil (map (laid_cell object) (type_cells file (type_depth file) number first)));
  abstracts = ap (λ xs. cells.abstract_cells.items ++ xs) (append-nil (map (laid_abstract object) (type_abstracts file (type_depth file) false number 0)));
  small = All-cons (IsSmall file) (record { number = number; offset = 0; abstract_cell = first; smashed = false; leading = true }) [] (record { cells = omega (arith, a); abstract_cells = b }) (All-nil (IsSmall file));
})
  where
    P : List TypePart → Type 0
    P ws = IsGoing file object number first cells cells ws

pub going_small : (file : TypedFileTree) (object number first : ℕ) (old now : Cells) (waiting rest : List TypePart) (p : TypePart) → waiting ≡ rest ++ p ∷ [] → IsGoing file object number first old now waiting
    → IsSmall file p × All (IsSmall file) (reverse rest)
going_small file object number first old now waiting rest p e g =
    let P : List TypePart → Type 0 = λ xs. All (IsSmall file) xs in
    let all : All (IsSmall file) (p ∷ reverse rest) = subst P (ap reverse e ∙ reverse-append rest (p ∷ [])) g.small in
    (All-head (IsSmall file) p (reverse rest) all, All-tail (IsSmall file) p (reverse rest) all)

pub going_more : (file : TypedFileTree) (object number first : ℕ) (old now new : Cells) (waiting rest then : List TypePart) (p : TypePart) → waiting ≡ rest ++ p ∷ [] → IsGoing file object number first old now waiting
    → HasLaid file object p now new rest then → IsGoing file object number first old new then
going_more file object number first old now new waiting rest then p e g l =
    let turned : p ∷ reverse rest ≡ reverse waiting = sym (ap reverse e ∙ reverse-append rest (p ∷ [])) in
    record {
      cells = l.cells ∙ ap (λ xs. now.cells.items ++ parts_cells file object xs) turned ∙ g.cells;
      abstracts = l.abstracts ∙ ap (λ xs. now.abstract_cells.items ++ parts_abstracts file object xs) turned ∙ g.abstracts;
      small = l.small;
    }

pub going_less : (file : TypedFileTree) (object : ℕ) (now new : Cells) (waiting rest then : List TypePart) (p : TypePart) → waiting ≡ rest ++ p ∷ [] → HasLaid file object p now new rest then
    → parts_nodes file (reverse then) < parts_nodes file (reverse waiting)
going_less file object now new waiting rest then p e l =
    let a = ap (parts_nodes file) (ap reverse e ∙ reverse-append rest (p ∷ [])) in
    let b = l.nodes in
    omega (arith, a, b)

pub gone : (file : TypedFileTree) (object number first : ℕ) (old now : Cells) (waiting : List TypePart) → waiting ≡ [] → IsGoing file object number first old now waiting → IsLaidOut file object number first old now
gone file object number first old now waiting e g =
    let P : List TypePart → Type 0 = λ ws. IsGoing file object number first old now ws in
    let h = subst P e g in
    record { cells = sym (append-nil now.cells.items) ∙ h.cells; abstracts = sym (append-nil now.abstract_cells.items) ∙ h.abstracts }
