-- Call paths and their numbers: a path comes before those that go on from it, and these in the order of their calls.
use Rattle.std.specs.Prelude.{ℕ, suc, ◌+◌, List, [], ◌∷◌, ◌++◌, length, map, get_or, Option, Some, None}
use Rattle.tm_typed.specs.declared.files.LocalEntry.{LocalEntry}
use Rattle.tm_typed.specs.CallGraph.{calls_in}
use Rattle.tm_typed.specs.Functions.{TypedBodyTree}
use Rattle.tm_typed.specs.Files.{no_typed_function, TypedFileTree}
use Rattle.tm_laid.specs.declared.paths.Caller.{Caller}
use Rattle.tm_laid.specs.declared.paths.CallPath.{CallPath}
use Rattle.tm_laid.specs.CallTrees.{CallTree, a_call_of, CallTrees, no_calls, and_call, call_tree, trees_of, weight}
use Rattle.tm_laid.specs.CallTrees.{one}

-- ## Bodies

abbrev pub listed : Option ℕ → List ℕ
listed None = []
listed (Some n) = n ∷ []

-- the functions of the bodies: those of the tasks in their order, then `main` where there is one
abbrev pub bodies_of : TypedFileTree → List ℕ
bodies_of file = map (λ t. t.function) file.tasks ++ listed file.main

-- the calls of a function of the file
abbrev pub tree_of : TypedFileTree → ℕ → CallTree
tree_of file f = call_tree (calls_in file.calls) (length file.functions) f

-- the trees of the bodies
abbrev pub body_trees : TypedFileTree → CallTrees
body_trees file = trees_of (tree_of file) (bodies_of file)

-- ## Parameters and local objects

abbrev pub locals_in : Option TypedBodyTree → List LocalEntry
locals_in None = []
locals_in (Some body) = body.locals

-- the parameters of a function, then its local objects in the order of the text
abbrev pub locals_of : TypedFileTree → ℕ → List LocalEntry
locals_of file f = locals_in (get_or file.functions f no_typed_function).body

-- how many these are
abbrev pub own_objects : TypedFileTree → ℕ → ℕ
own_objects file f = length (locals_of file f)

-- ## Paths

-- The paths of a tree in their order: its first path belongs to this body, is called there, and has this number. And
-- the paths of calls from this site on.
abbrev mutual
  pub tree_paths : ℕ → Option Caller → ℕ → CallTree → List CallPath
  tree_paths body caller number (a_call_of f ts) =
      record { body = body; function = f; caller = caller; paths = weight one (a_call_of f ts) } ∷ called_paths body
      number 0 (suc number) ts

  pub called_paths : ℕ → ℕ → ℕ → ℕ → CallTrees → List CallPath
  called_paths body path site number no_calls = []
  called_paths body path site number (and_call t ts) =
      tree_paths body (Some (record { path = path; site = site })) number t ++ called_paths body path (suc site)
      (number + weight one t) ts

-- the paths of bodies from this one on
abbrev pub body_paths : ℕ → ℕ → CallTrees → List CallPath
body_paths body number no_calls = []
body_paths body number (and_call t ts) = tree_paths body None number t ++ body_paths (suc body)
    (number + weight one t) ts

-- the numbers of the paths of calls, where the first has this one
abbrev pub numbers_from : ℕ → CallTrees → List ℕ
numbers_from number no_calls = []
numbers_from number (and_call t ts) = number ∷ numbers_from (number + weight one t) ts

-- for each path of a tree, whose own path has this number, the paths that go on from it by its calls
abbrev mutual
  pub tree_callees : ℕ → CallTree → List (List ℕ)
  tree_callees number (a_call_of f ts) = numbers_from (suc number) ts ∷ called_callees (suc number) ts

  pub called_callees : ℕ → CallTrees → List (List ℕ)
  called_callees number no_calls = []
  called_callees number (and_call t ts) = tree_callees number t ++ called_callees (number + weight one t) ts

-- the call paths of all bodies
abbrev pub paths_of : TypedFileTree → List CallPath
paths_of file = body_paths 0 0 (body_trees file)

-- for each body its own path
abbrev pub first_paths_of : TypedFileTree → List ℕ
first_paths_of file = numbers_from 0 (body_trees file)

-- for each path the paths that go on from it by its calls, in the order of the text
abbrev pub callees_of : TypedFileTree → List (List ℕ)
callees_of file = called_callees 0 (body_trees file)

-- for each path its first parameter or local object, where those of the paths stand one behind the other from this
-- object on
abbrev pub first_objects_of : TypedFileTree → ℕ → List CallPath → List ℕ
first_objects_of file object [] = []
first_objects_of file object (p ∷ ps) = object ∷ first_objects_of file (object + own_objects file p.function) ps
