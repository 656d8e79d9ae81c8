-- How many types stand in a type, itself counted.
use Rattle.std.proofs.Common.{◌≡◌, refl, ap, sym, subst, ◌∙◌, ℕ, suc, ◌+◌, ◌*◌, ◌<◌, List, [], ◌∷◌, get_or, arith}
use Rattle.std.specs.Prelude.{All}
use Rattle.std.proofs.lemmas.List.{get_or_past}
use Rattle.tm_typed.specs.declared.types.CType.{CType}
use Rattle.tm_typed.specs.declared.types.CType.TheVariants as Types
use Rattle.tm_typed.specs.declared.types.TypeEntry.{TypeEntry}
use Rattle.tm_typed.specs.declared.scopes.Member.{Member}
use Rattle.tm_typed.specs.Types.{no_type}
use Rattle.tm_typed.specs.Files.{TypedFileTree}
use Rattle.tm_laid.specs.TypeCells.{entry_of, structure_in}
use Rattle.tm_laid.specs.Layable.{HasRanks}
use Rattle.tm_laid.proofs.TypeDepth.{IsByDepth, opens_at}
use Rattle.cell_layout.specs.reading.Parts.{summed_nodes, nodes_by, type_nodes, nodes_of_type}

module _ (file : TypedFileTree) (h : HasRanks file) where
  same_nodes : (g k : ℕ → ℕ) (ms : List Member) → All (λ m. g m.part.of.number ≡ k m.part.of.number) ms → summed_nodes g ms ≡ summed_nodes k ms
  same_nodes g k [] e = refl
  same_nodes g k (m ∷ ms) e =
      ap (λ x. x + summed_nodes g ms) (e 0 m (omega arith)) ∙ ap (λ x. k m.part.of.number + x) (same_nodes g k ms (λ i d l. e (suc i) d (omega (arith, l))))

  nodes_inside : (g k : ℕ → ℕ) (n : ℕ) (t : CType) → (entry_of file n).ctype ≡ t → ((m : ℕ) → h.rank m < h.rank n → g m ≡ k m) → nodes_by file g t ≡ nodes_by file k t
  nodes_inside g k n Types.Void e b = refl
  nodes_inside g k n (Types.Int t) e b = refl
  nodes_inside g k n (Types.Pointer q) e b = refl
  nodes_inside g k n (Types.Array element c) e b = ap (λ x. suc (c * x)) (b element (h.elements n element c e))
  nodes_inside g k n (Types.Struct s) e b = ap suc (same_nodes g k (structure_in file s).members (λ i d l. b (get_or (structure_in file s).members i d).part.of.number (h.members n s e i d l)))

  nodes_by_depth : IsByDepth file h ℕ (type_nodes file)
  unfolding type_nodes
  nodes_by_depth = record {
    step = λ g n. nodes_by file g (entry_of file n).ctype;
    opened = λ d n. refl;
    outside = λ g n ge. let P : TypeEntry → Type 0 = λ e. 1 ≡ nodes_by file g e.ctype in subst P (sym (get_or_past file.types n no_type ge)) refl;
    inside = λ g k n b. nodes_inside g k n (entry_of file n).ctype refl b;
  }

  pub nodes_open : (n : ℕ) → nodes_of_type file n ≡ nodes_by file (nodes_of_type file) (entry_of file n).ctype
  unfolding nodes_by_depth
  nodes_open n = opens_at file h ℕ (type_nodes file) nodes_by_depth n
