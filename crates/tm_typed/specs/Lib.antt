-- What typing is. Expressions: types and their table (Types), what names mean (Scopes), typed trees (TypedTrees),
-- refusals and their order (Refusals), what the rules know of operands (Operands), the rules construct by construct
-- (Rules), the recursion (Typing), and what later layers may rely on (WellTyped). The crates below, passed on to those
-- above.
pub use Rattle.tm_trees.specs.tm_cint
pub use Rattle.tm_trees.specs.tm_lattice
pub use Rattle.tm_trees.specs.tm_terms
pub use Rattle.tm_trees.specs as tm_trees
pub mod Types
pub mod Scopes
pub mod TypedTrees
pub mod Refusals
pub mod Operands
pub mod Rules
pub mod Typing
pub mod WellTyped
-- Statements and files.
pub mod Uses
pub mod Sizes
pub mod Constants
pub mod TypedStatements
pub mod CallGraph
-- Declarations: how the table of types grows (TypeRows), what is found so far (States), specifiers, type names, typed
-- expressions with what they leave behind (Evaluation), declarators, structures and enumerations, constants of static
-- storage (StaticValues), initialisers, and whole declarations.
pub mod TypeRows
pub mod States
pub mod Specifiers
pub mod TypeNames
pub mod Evaluation
pub mod Declarators
pub mod Structures
pub mod StaticValues
pub mod Initialisers
pub mod Declarations
-- Statements, functions and files, which stand on declarations.
pub mod StatementRules
pub mod StatementTyping
pub mod Functions
pub mod Files
pub mod TypedFiles
