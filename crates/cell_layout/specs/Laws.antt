-- What holds of every layout.
use Rattle.std.specs.Prelude.{◌≡◌, ℕ, ◌+◌, ◌<◌, ◌≤◌, true, false, ◌↔◌, List, [], ◌∷◌, length, take, get_or, Some}
use Rattle.tm_typed.specs.Files.{TypedFileTree}
use Rattle.tm_laid.specs.declared.paths.Caller.{Caller}
use Rattle.tm_laid.specs.Layouts.{LaidTree, layout_of, path_at, is_on_path, object_at, cell_at, abstract_at, cell_of}
use Rattle.tm_laid.specs.CallTrees.{weight, one}
use Rattle.tm_laid.specs.Paths.{tree_of}
use Rattle.tm_laid.specs.Layouts.{abstract_of, callee}
use Rattle.tm_typed.specs.CallGraph.{calls_in}
use Rattle.tm_laid.specs.Layable.{IsLayable}

-- the path r is the path q, or goes on from it by calls
pub data GoesOnFrom (laid : LaidTree) (q : ℕ) : ℕ → Type 0 where
  at_once : GoesOnFrom laid q q
  by_call : (p r site : ℕ) → r < length laid.paths → (path_at laid r).caller ≡ Some (record { path = p; site = site })
      → GoesOnFrom laid q p → GoesOnFrom laid q r

-- the paths that begin with a path are an interval: a path and those that go on from it, directly or by further calls
abbrev pub ArePathsIntervals : Type 0
ArePathsIntervals = (file : TypedFileTree) (q p : ℕ) → q < length (layout_of file).paths
    → p < length (layout_of file).paths → (is_on_path (layout_of file) q p ≡ true) ↔ GoesOnFrom (layout_of file) q p

-- The cell at an offset of an object: it belongs to that object, and has one of its abstract cells, which has its type.
-- Where that is not smashed, it stands for this cell alone.
pub record IsCellOf (laid : LaidTree) (o k : ℕ) : Type 0 where
  pub object : (cell_at laid (cell_of laid o k)).object ≡ o
  pub least : (object_at laid o).first_abstract ≤ abstract_of laid o k
  pub most : abstract_of laid o k < (object_at laid o).first_abstract + (object_at laid o).abstract_cells
  pub abstract_object : (abstract_at laid (abstract_of laid o k)).object ≡ o
  pub scalar : (abstract_at laid (abstract_of laid o k)).scalar ≡ (cell_at laid (cell_of laid o k)).scalar
  pub alone : (abstract_at laid (abstract_of laid o k)).smashed ≡ false
      → (abstract_at laid (abstract_of laid o k)).offset ≡ k

-- every cell of an object is so
abbrev pub ObjectsHaveCells : Type 0
ObjectsHaveCells = (file : TypedFileTree) (order : List ℕ) → IsLayable file order → (o k : ℕ)
    → o < length (layout_of file).objects → k < (object_at (layout_of file) o).cells → IsCellOf (layout_of file) o k

-- how many call paths some calls have
abbrev pub counted_calls : TypedFileTree → List ℕ → ℕ
counted_calls file [] = 0
counted_calls file (g ∷ gs) = weight one (tree_of file g) + counted_calls file gs

-- the functions that the function of a path calls
abbrev pub calls_on : TypedFileTree → LaidTree → ℕ → List ℕ
calls_on file laid p = calls_in file.calls (path_at laid p).function

-- The path on which a call goes on: it is called there, ends in the called function, and stands behind its caller and
-- the paths of the calls before.
pub record GoesOnBy (file : TypedFileTree) (laid : LaidTree) (p site : ℕ) : Type 0 where
  pub within : callee laid p site < length laid.paths
  pub caller : (path_at laid (callee laid p site)).caller ≡ Some (record { path = p; site = site })
  pub function : (path_at laid (callee laid p site)).function ≡ get_or (calls_on file laid p) site 0
  pub body : (path_at laid (callee laid p site)).body ≡ (path_at laid p).body
  pub number : callee laid p site ≡ p + 1 + counted_calls file (take site (calls_on file laid p))

-- every call of every path does
abbrev pub CallsGoOn : Type 0
CallsGoOn = (file : TypedFileTree) (order : List ℕ) → IsLayable file order → (p site : ℕ)
    → p < length (layout_of file).paths → site < length (calls_on file (layout_of file) p)
    → GoesOnBy file (layout_of file) p site
