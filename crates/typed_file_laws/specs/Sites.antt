-- Calls stand at their sites, what bodies name is defined, what they complement is promoted, and what they load and
-- choose can be answered.
use Rattle.std.specs.Prelude.{◌≡◌, ℕ, Bool, true, is_some, List, All, get_or, Option, Some, Ok}
use Rattle.tm_laid.specs.tm_terms.declared.tokens.Name.{Name}
use Rattle.tm_laid.specs.tm_trees.FileTrees.{ItemTree}
use Rattle.tm_laid.specs.tm_typed.CallGraph.{calls_in}
use Rattle.tm_laid.specs.tm_typed.States.{no_static}
use Rattle.tm_laid.specs.tm_typed.Functions.{TypedBodyTree}
use Rattle.tm_laid.specs.tm_typed.Files.{TypedFunctionTree, no_typed_function, TypedFileTree, IsTyped}
use Rattle.typed_file_laws.specs.Mentions.{StatementsMention}

-- the file defines the object of static storage with this number
abbrev pub is_defined_object : TypedFileTree → ℕ → Bool
is_defined_object file k = (get_or file.statics k no_static).defined

abbrev pub function_of_file : TypedFileTree → ℕ → TypedFunctionTree
function_of_file file k = get_or file.functions k no_typed_function

-- the file defines the function with this number
abbrev pub is_defined_function : TypedFileTree → ℕ → Bool
is_defined_function file k = is_some (function_of_file file k).body

-- Each call in the body of the function k calls the function that stands at its site among those that k calls, all of
-- which the file defines; and so it does all objects of static storage that the body names. The body loads no pointer
-- as volatile, no `~` of it works in `_Bool`, and the bounds of its inputs are in order.
abbrev pub SitesStand : Type 0
SitesStand =
    (main : Option Name) (items : List ItemTree) (file : TypedFileTree) → IsTyped main items (Ok file)
    → (k : ℕ) (body : TypedBodyTree) → (function_of_file file k).body ≡ Some body
    → StatementsMention (is_defined_object file) (calls_in file.calls k) body.statements
    × All (λ g. is_defined_function file g ≡ true) (calls_in file.calls k)
