-- Types around others that add nothing.
use Rattle.std.proofs.Common.{◌≡◌, refl, ap, sym, subst, ◌∙◌, ℕ, zero, suc, ◌+◌, ◌*◌, ◌<◌, ◌≤◌, ◌⊎◌, inl, inr, Bool, true, false, cond, List, [], ◌∷◌, ◌++◌, length, map, reverse, set, get_or, append-nil, arith, get_or-set_same, get_or-set_other}
use Rattle.std.specs.Prelude.{All}
use Rattle.std.proofs.lemmas.Bool.{cases_eq, cases_lt}
use Rattle.std.proofs.lemmas.List.{get_or_past, get_or_push, length_push, get_or_append_left}
use Rattle.tm_typed.specs.declared.types.CType.TheVariants as Types
use Rattle.tm_typed.specs.declared.scopes.Member.{Member}
use Rattle.tm_typed.specs.Files.{TypedFileTree}
use Rattle.tm_laid.specs.TypeCells.{entry_of, structure_in, summed, count_by, abstract_by, type_depth, cells_of_type, abstract_cells_of_type, elements, in_members, cells_by, type_cells, abstracts_by, type_abstracts}
use Rattle.tm_laid.specs.Objects.{laid_cell, laid_abstract}
use Rattle.tm_laid.specs.Layable.{IsLayable}
use Rattle.tm_laid.proofs.TypeDepth.{cells_open, abstract_cells_open, type_cells_open, type_abstracts_open}
use Rattle.cell_layout.specs.declared.cells.TypePart.{TypePart}
use Rattle.cell_layout.specs.declared.cells.Cells.{Cells}
use Rattle.cell_layout.specs.reading.Parts.{summed_nodes, nodes_by, nodes_of_type, part_cells, part_abstracts, parts_cells, parts_abstracts, parts_nodes, IsSmall, HasLaid, IsSameType, AreCores}
use Rattle.cell_layout.proofs.TypeNodes.{nodes_open}
use Rattle.cell_layout.proofs.PartSteps.{IsGoing, going_small}

pub same_itself : (file : TypedFileTree) (n : ℕ) → IsSameType file n n
same_itself file n = record { cells = λ start. refl; abstracts = λ smashed start. refl; count = refl; abstract_count = refl; nodes = omega arith }

pub same_further : (file : TypedFileTree) (k m n : ℕ) → IsSameType file k m → IsSameType file m n → IsSameType file k n
same_further file k m n a b = record {
  cells = λ start. a.cells start ∙ b.cells start;
  abstracts = λ smashed start. a.abstracts smashed start ∙ b.abstracts smashed start;
  count = a.count ∙ b.count;
  abstract_count = a.abstract_count ∙ b.abstract_count;
  nodes = (let x = a.nodes in let y = b.nodes in omega (arith, x, y));
}

pub same_element : (file : TypedFileTree) (order : List ℕ) → IsLayable file order → (n e c : ℕ) → (entry_of file n).ctype ≡ Types.Array e c → c ≡ 1 → IsSameType file e n
same_element file order h n e c t one =
    let u : (entry_of file n).ctype ≡ Types.Array e 1 = t ∙ ap (Types.Array e) one in
    record {
      cells = λ start. sym (type_cells_open file h.ranks n start
          ∙ ap (cells_by file (type_cells file (type_depth file)) (abstract_cells_of_type file) start (entry_of file n)) u
          ∙ append-nil (type_cells file (type_depth file) e start));
      abstracts = λ smashed start. sym (type_abstracts_open file h.ranks smashed n start
          ∙ ap (abstracts_by file (type_abstracts file (type_depth file)) (cells_of_type file) smashed start (entry_of file n)) u
          ∙ append-nil (type_abstracts file (type_depth file) smashed e start));
      count = (let a = cells_open file h.ranks n ∙ ap (count_by file (cells_of_type file)) u in omega (arith, a));
      abstract_count = (let a = abstract_cells_open file h.ranks n ∙ ap (abstract_by file (abstract_cells_of_type file)) u in omega (arith, a));
      nodes = (let a = nodes_open file h.ranks n ∙ ap (nodes_by file (nodes_of_type file)) u in omega (arith, a));
    }

pub same_member : (file : TypedFileTree) (order : List ℕ) → IsLayable file order → (n k : ℕ) (m : Member) (ms : List Member) → (entry_of file n).ctype ≡ Types.Struct k → ms ≡ (structure_in file k).members → ms ≡ m ∷ []
    → IsSameType file m.part.of.number n
same_member file order h n k m ms t s one =
    let e : (structure_in file k).members ≡ m ∷ [] = sym s ∙ one in
    record {
      cells = λ start. sym (type_cells_open file h.ranks n start
          ∙ ap (cells_by file (type_cells file (type_depth file)) (abstract_cells_of_type file) start (entry_of file n)) t
          ∙ ap (λ xs. in_members (type_cells file (type_depth file)) (abstract_cells_of_type file) xs start) e
          ∙ append-nil (type_cells file (type_depth file) m.part.of.number start));
      abstracts = λ smashed start. sym (type_abstracts_open file h.ranks smashed n start
          ∙ ap (abstracts_by file (type_abstracts file (type_depth file)) (cells_of_type file) smashed start (entry_of file n)) t
          ∙ ap (λ xs. in_members (type_abstracts file (type_depth file) smashed) (cells_of_type file) xs start) e
          ∙ append-nil (type_abstracts file (type_depth file) smashed m.part.of.number start));
      count = (let a = cells_open file h.ranks n ∙ ap (count_by file (cells_of_type file)) t ∙ ap (summed (cells_of_type file)) e in omega (arith, a));
      abstract_count = (let a = abstract_cells_open file h.ranks n ∙ ap (abstract_by file (abstract_cells_of_type file)) t ∙ ap (summed (abstract_cells_of_type file)) e in omega (arith, a));
      nodes = (let a = nodes_open file h.ranks n ∙ ap (nodes_by file (nodes_of_type file)) t ∙ ap (λ xs. suc (summed_nodes (nodes_of_type file) xs)) e in omega (arith, a));
    }

-- ## Tables of what stands for types

pub cores_none : (file : TypedFileTree) (cores : List ℕ) → cores ≡ [] → AreCores file cores
cores_none file cores e n = let P : List ℕ → Type 0 = λ xs. IsSameType file (get_or xs n n) n in subst P (sym e) (same_itself file n)

pub cores_more : (file : TypedFileTree) (cores new : List ℕ) (i c : ℕ) → length cores ≡ i → IsSameType file c i → new ≡ cores ++ c ∷ [] → AreCores file cores → AreCores file new
cores_more file cores new i c l s e before n = subst P (sym e) (by_case (cases_lt n i) (cases_eq n i))
  where
    P : List ℕ → Type 0
    P xs = IsSameType file (get_or xs n n) n

    by_case : (n < i) ⊎ (i ≤ n) → (n ≡ i) ⊎ (n ≡ i → ⊥) → IsSameType file (get_or (cores ++ c ∷ []) n n) n
    by_case (inl lt) x =
        let Q : ℕ → Type 0 = λ m. IsSameType file m n in
        subst Q (sym (get_or_append_left cores (c ∷ []) n n (omega (arith, lt, l)))) (before n)
    by_case (inr ge) (inl same) =
        let Q : ℕ → Type 0 = λ m. IsSameType file m n in
        let R : ℕ → Type 0 = λ m. IsSameType file c m in
        subst Q (sym (get_or_push cores c n n (omega (arith, l, same)))) (subst R (sym same) s)
    by_case (inr ge) (inr other) =
        let Q : ℕ → Type 0 = λ m. IsSameType file m n in
        let far : length (cores ++ c ∷ []) ≤ n = (let a = length_push cores c in let b : n ≡ i → ⊥ = other in omega (arith, a, l, ge, b)) in
        subst Q (sym (get_or_past (cores ++ c ∷ []) n n far)) (same_itself file n)

pub cores_set : (file : TypedFileTree) (cores new : List ℕ) (i x c : ℕ) → i < length cores → x ≡ get_or cores i i → c ≡ get_or cores x x → new ≡ set cores i c → AreCores file cores → AreCores file new
cores_set file cores new i x c lt ex ec en before n = subst P (sym en) (by_case (cases_eq n i))
  where
    P : List ℕ → Type 0
    P xs = IsSameType file (get_or xs n n) n

    first : IsSameType file x i
    first = let Q : ℕ → Type 0 = λ m. IsSameType file m i in subst Q (sym ex) (before i)

    both : IsSameType file c i
    both = let Q : ℕ → Type 0 = λ m. IsSameType file m i in subst Q (sym ec) (same_further file (get_or cores x x) x i (before x) first)

    by_case : (n ≡ i) ⊎ (n ≡ i → ⊥) → IsSameType file (get_or (set cores i c) n n) n
    by_case (inl same) =
        let Q : ℕ → Type 0 = λ m. IsSameType file (get_or (set cores i c) m m) m in
        let R : ℕ → Type 0 = λ m. IsSameType file m i in
        subst Q (sym same) (subst R (sym (get_or-set_same cores i c i lt)) both)
    by_case (inr other) =
        let Q : ℕ → Type 0 = λ m. IsSameType file m n in
        subst Q (sym (get_or-set_other cores i n c n other)) (before n)

-- ## Parts by what stands for their types

-- the part by what stands for its type
pub record IsCored (file : TypedFileTree) (p q : TypePart) : Type 0 where
  pub same : IsSameType file q.number p.number
  pub offset : q.offset ≡ p.offset
  pub abstract_cell : q.abstract_cell ≡ p.abstract_cell
  pub smashed : q.smashed ≡ p.smashed
  pub leading : q.leading ≡ p.leading

pub cored_by : (file : TypedFileTree) (cores : List ℕ) (p q : TypePart) → AreCores file cores → q ≡ record p { number = get_or cores p.number p.number } → IsCored file p q
cored_by file cores p q h e =
    let P : TypePart → Type 0 = λ x. IsCored file p x in
    subst P (sym e) (record { same = h p.number; offset = refl; abstract_cell = refl; smashed = refl; leading = refl })

pub cored_small : (file : TypedFileTree) (p q : TypePart) → IsCored file p q → IsSmall file p → IsSmall file q
cored_small file p q h s =
    let a = h.same.count in
    let b = h.same.abstract_count in
    let c = h.offset in
    let d = h.abstract_cell in
    let e = s.cells in
    let f = s.abstract_cells in
    record { cells = omega (arith, a, c, e); abstract_cells = omega (arith, b, d, f) }

pub cored_laid : (file : TypedFileTree) (object : ℕ) (p q : TypePart) (old new : Cells) (waited waiting : List TypePart) → IsCored file p q → HasLaid file object q old new waited waiting
    → HasLaid file object p old new waited waiting
cored_laid file object p q old new waited waiting h l = record {
  cells = l.cells ∙ ap (λ xs. old.cells.items ++ (xs ++ parts_cells file object (reverse waited))) same_cells;
  abstracts = l.abstracts ∙ ap (λ xs. old.abstract_cells.items ++ (xs ++ parts_abstracts file object (reverse waited))) same_abstracts;
  small = l.small;
  nodes = (let a = l.nodes in let b = h.same.nodes in omega (arith, a, b));
}
  where
    same_cells : part_cells file object q ≡ part_cells file object p
    same_cells = ap (map (laid_cell object)) (h.same.cells q.abstract_cell ∙ ap (type_cells file (type_depth file) p.number) h.abstract_cell)

    same_abstracts : part_abstracts file object q ≡ part_abstracts file object p
    same_abstracts =
        ap (λ b. cond b (map (laid_abstract object) (type_abstracts file (type_depth file) q.smashed q.number q.offset)) []) h.leading
        ∙ ap (λ xs. cond p.leading (map (laid_abstract object) xs) [])
        (h.same.abstracts q.smashed q.offset ∙ ap (λ b. type_abstracts file (type_depth file) b p.number q.offset) h.smashed ∙ ap (type_abstracts file (type_depth file) p.smashed p.number) h.offset)
