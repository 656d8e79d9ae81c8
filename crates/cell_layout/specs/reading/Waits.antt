-- Call paths that wait to be numbered.
use Rattle.std.specs.Prelude.{◌≡◌, ℕ, suc, ◌+◌, ◌<◌, List, [], ◌∷◌, ◌++◌, map, reverse, length, Some, None, All}
use Rattle.tm_typed.specs.Files.{TypedFileTree}
use Rattle.tm_laid.specs.declared.paths.CallPath.{CallPath}
use Rattle.tm_laid.specs.CallTrees.{weight, one}
use Rattle.tm_laid.specs.Paths.{tree_of, tree_paths, tree_callees, paths_of, callees_of}
use Rattle.cell_layout.specs.declared.paths.Waiting.{Waiting}
use Rattle.cell_layout.specs.declared.paths.Numbered.{Numbered}

-- the calls of a path, from this site on
abbrev pub calls_waiting : ℕ → ℕ → ℕ → List ℕ → List Waiting
calls_waiting body path site [] = []
calls_waiting body path site (g ∷ gs) =
    record { body = body; function = g; caller = Some (record { path = path; site = site }) } ∷ calls_waiting body
    path (suc site) gs

-- bodies from this one on
abbrev pub bodies_waiting : ℕ → List ℕ → List Waiting
bodies_waiting body [] = []
bodies_waiting body (f ∷ fs) = record { body = body; function = f; caller = None } ∷ bodies_waiting (suc body) fs

abbrev pub size_of : TypedFileTree → ℕ → ℕ
size_of file f = weight one (tree_of file f)

-- the paths at and below those that wait, the first of which has this number
abbrev pub paths_from : TypedFileTree → ℕ → List Waiting → List CallPath
paths_from file number [] = []
paths_from file number (w ∷ ws) = tree_paths w.body w.caller number (tree_of file w.function) ++ paths_from file
    (number + size_of file w.function) ws

-- and those that go on from each
abbrev pub callees_from : TypedFileTree → ℕ → List Waiting → List (List ℕ)
callees_from file number [] = []
callees_from file number (w ∷ ws) = tree_callees number (tree_of file w.function) ++ callees_from file
    (number + size_of file w.function) ws

-- So many paths are numbered, and those at and below the waiting ones, the last of which comes first, are the rest.
pub record IsNumbered (file : TypedFileTree) (number : ℕ) (ps : List CallPath) (cs : List (List ℕ))
    (ws : List Waiting) : Type 0 where
  pub count : length ps ≡ number
  pub paths : ps ++ paths_from file number (reverse ws) ≡ paths_of file
  pub callees : cs ++ callees_from file number (reverse ws) ≡ callees_of file
  pub within : All (λ w. w.function < length file.functions) (reverse ws)

abbrev pub AreNumbered : TypedFileTree → ℕ → Numbered → Type 0
AreNumbered file number n = IsNumbered file number n.paths.items (map (λ v. v.items) n.callees.items) n.waiting.items

-- all paths are numbered
pub record IsAllNumbered (file : TypedFileTree) (n : Numbered) : Type 0 where
  pub paths : n.paths.items ≡ paths_of file
  pub callees : map (λ v. v.items) n.callees.items ≡ callees_of file
