-- A file that is typed and laid out, so that the laws speak of some file:
--
--   int f(void){return 1;}
--   __task(1) void t(void){f()+1;}
use Rattle.std.proofs.Common.{◌≡◌, refl, inr, ℕ, zero, suc, ◌<◌, true, false, List, [], ◌∷◌, arith}
use Rattle.std.specs.Prelude.{Contains, Some, None, Result, Ok, Err}
use Rattle.call_graph.specs.tm_terms.declared.places.Place.{Place}
use Rattle.call_graph.specs.tm_terms.declared.tokens.Name.{Name}
use Rattle.call_graph.specs.tm_terms.declared.tokens.IntConstant.{IntConstant}
use Rattle.call_graph.specs.tm_terms.declared.tokens.Longs.TheVariants as Suffix
use Rattle.call_graph.specs.tm_terms.declared.types_named.SpecWord.TheVariants as Specs
use Rattle.call_graph.specs.tm_terms.declared.types_named.Basic.TheVariants as Basics
use Rattle.call_graph.specs.tm_terms.declared.exprs.Binary.TheVariants as Binaries
use Rattle.call_graph.specs.tm_terms.declared.exprs.Infix.TheVariants as Infixes
use Rattle.call_graph.specs.tm_terms.declared.refusals.Refusal.{Refusal}
use Rattle.call_graph.specs.tm_terms.ExprTrees.{a_call, an_infix, an_integer, no_arguments}
use Rattle.call_graph.specs.tm_trees.DeclarationTrees.{a_plain, and_specifier, no_specifiers}
use Rattle.call_graph.specs.tm_trees.FileTrees.{ItemTree, a_function, a_return, a_step, a_task, a_value, and_part}
use Rattle.call_graph.specs.tm_trees.FileTrees.{no_parts}
use Rattle.call_graph.specs.tm_trees.FileTrees.{only_void}
use Rattle.call_graph.specs.tm_typed.Rules.{working_type, right_type, values_fold}
use Rattle.call_graph.specs.tm_typed.CallGraph.{Reaches, by_call, by_calls, calls_in}
use Rattle.call_graph.specs.tm_typed.Files.{FileState, first_file_state, items_in, file_of, IsAcyclic, IsTyped}
use Rattle.cell_layout.specs.tm_laid.declared.scales.Scale.TheVariants as Scales
use Rattle.cell_layout.specs.tm_laid.CallTrees.{call_tree}
use Rattle.cell_layout.specs.tm_laid.TypeCells.{cell_count, abstract_count}
use Rattle.cell_layout.specs.tm_laid.Layouts.{layout_of, laid_count, laid_out}
use Rattle.lowering.specs.Lowerable.{IsLowerable}
use Rattle.lowering_laws.specs.LaidFiles.{IsLaidFile}
use Rattle.lowering_laws.proofs.Lowered.{lowerable}

abbrev at : ℕ → ℕ → Place
at l c = record { line = l; col = c }

abbrev name : ℕ → ℕ → Name
name s l = record { start = s; length = l }

abbrev one : IntConstant
one = record { value = 1; decimal = true; unsigned = false; longs = Suffix.None }

abbrev items : List ItemTree
items =
    a_function (record {
      specifiers = and_specifier (a_plain (record { word = Specs.Basic Basics.Int; place = at 1 1 })) no_specifiers;
      pointers = [];
      name = name 4 1;
      parameters = only_void;
      body = Some (and_part (a_step (a_return (Some (an_integer one (at 1 20))) (at 1 13))) no_parts);
      place = at 1 5;
    })
    ∷ a_task (an_integer one (at 2 8)) (name 38 1) (at 2 16)
    (and_part (a_step (a_value (Some (an_infix (a_call (name 4 1) no_arguments (at 2 24))
    (Infixes.Binary Binaries.Add) (at 2 27) (an_integer one (at 2 28)))))) no_parts) (at 2 1) ∷ []

abbrev state_or : Result FileState Refusal → FileState
state_or (Ok f) = f
state_or (Err r) = first_file_state

abbrev found : FileState
found = state_or (items_in first_file_state items)

abbrev calls : List (List ℕ)
calls = [] ∷ (0 ∷ []) ∷ []

called_before : (f g : ℕ) → Contains (calls_in calls f) g → g < f
called_before zero g c = absurd (let l = c.1 in omega (arith, l))
called_before (suc zero) g (zero, l, e) = omega (arith, e)
called_before (suc zero) g (suc k, l, e) = absurd (omega (arith, l))
called_before (suc (suc f)) g c = absurd (let l = c.1 in omega (arith, l))

reached_before : (f h : ℕ) → Reaches (calls_in calls) f h → h < f
reached_before _ _ (by_call f h c) = called_before f h c
reached_before _ _ (by_calls f g h c r) =
    let a = called_before f g c in let b = reached_before g h r in omega (arith, a, b)

acyclic : IsAcyclic found
unfolding working_type right_type values_fold
acyclic k r = let l = reached_before k k r in omega (arith, l)

typed : IsTyped None items (Ok (file_of found None))
unfolding working_type right_type values_fold
typed = inr (record { acyclic = acyclic; answered = refl })

laid : laid_out Scales.Usual (file_of found None) ≡ Ok (layout_of (file_of found None))
unfolding working_type right_type values_fold laid_count call_tree cell_count abstract_count
laid = refl

is_laid : IsLaidFile (layout_of (file_of found None))
is_laid = record {
  main = None;
  items = items;
  file = file_of found None;
  typed = typed;
  scale = Scales.Usual;
  answered = laid;
}

-- so what is proved of all files holds of this one
can_be_lowered : IsLowerable (layout_of (file_of found None))
unfolding layout_of working_type right_type values_fold
can_be_lowered = lowerable (layout_of (file_of found None)) is_laid (omega arith)
