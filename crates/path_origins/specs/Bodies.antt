-- What is noted of the bodies of call paths.
use Rattle.std.specs.Prelude.{ℕ, zero, suc, nat_lt, Bool, true, false, ◌&&◌, is_none, [], ◌∷◌, length, Option}
use Rattle.std.specs.Prelude.{Some, None}
use Rattle.tm_terms.specs.declared.places.Place.{Place}
use Rattle.tm_typed.specs.declared.types.CType.{CType}
use Rattle.tm_typed.specs.declared.types.CType.TheVariants as Types
use Rattle.tm_typed.specs.Functions.{TypedBodyTree}
use Rattle.tm_laid.specs.Layouts.{LaidTree, path_at}
use Rattle.body_builder.specs.concrete_steps.Places.{result_type}
use Rattle.body_builder.specs.concrete_steps.NextAction.{function_at}
use Rattle.path_origins.specs.declared.origins.Form.{Form}
use Rattle.path_origins.specs.declared.origins.Form.TheVariants as Forms
use Rattle.path_origins.specs.Noted.{Noted, nothing, behind, scoped, one, skips}
use Rattle.path_origins.specs.Statements.{statements}

-- a function that ends without `return` gives any value, which may be used (C99 6.9.1p12)
abbrev pub fall : Place → Form → Noted
fall p f = record (one p f) { falls = 0 ∷ [] }

abbrev pub fallen : Place → CType → Noted
fallen p (Types.Int t) = fall p Forms.Any
fallen p (Types.Pointer q) = fall p Forms.Constant
fallen p _ = nothing

-- a function's end is a node where control comes together; that of a task only where it holds a `return`
abbrev pub closing : Bool → Place → ℕ → Noted
closing true p zero = nothing
closing task p n = skips p (suc n)

-- a path is that of a task itself
abbrev pub is_task_path : LaidTree → ℕ → Bool
is_task_path laid path =
    is_none (path_at laid path).caller && nat_lt (path_at laid path).body (length laid.file.tasks)

module _ (laid : LaidTree) (is_open : Place → Bool) (sizes : ℕ → ℕ) where
  abbrev pub noted_body : ℕ → Option TypedBodyTree → Noted
  noted_body path None = one (function_at laid path).place Forms.Constant
  noted_body path (Some b) =
      let x = statements laid is_open sizes path false b.statements in
      let p = (function_at laid path).place in
      scoped (behind x.noted (behind (fallen p (result_type laid (function_at laid path)))
      (closing (is_task_path laid path) p x.returns)))

  -- what is noted of the body of a path, where those of the paths that calls lead to have so many edges
  abbrev pub noted_path : ℕ → Noted
  noted_path path = noted_body path (function_at laid path).body
