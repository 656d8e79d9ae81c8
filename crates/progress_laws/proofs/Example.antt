-- A file that is typed and laid out, so that the laws speak of some file:
--
--   volatile int x;
--   __task(1) void t(void){x;}
use Rattle.std.proofs.Common.{◌≡◌, refl, inr, ℕ, zero, suc, ◌<◌, true, false, List, [], ◌∷◌, length, arith}
use Rattle.std.specs.Prelude.{Contains, Some, None, Result, Ok, Err}
use Rattle.std.proofs.lemmas.List.Elements.{All-nil, All-cons}
use Rattle.concrete_steps.specs.tm_terms.declared.places.Place.{Place}
use Rattle.concrete_steps.specs.tm_terms.declared.tokens.Name.{Name}
use Rattle.concrete_steps.specs.tm_terms.declared.tokens.IntConstant.{IntConstant}
use Rattle.concrete_steps.specs.tm_terms.declared.tokens.Longs.TheVariants as Suffix
use Rattle.concrete_steps.specs.tm_terms.declared.types_named.SpecWord.TheVariants as Specs
use Rattle.concrete_steps.specs.tm_terms.declared.types_named.Qualifier.TheVariants as Qualifiers
use Rattle.concrete_steps.specs.tm_terms.declared.types_named.Basic.TheVariants as Basics
use Rattle.concrete_steps.specs.tm_terms.declared.refusals.Refusal.{Refusal}
use Rattle.concrete_steps.specs.tm_terms.ExprTrees.{a_name, an_integer}
use Rattle.concrete_steps.specs.tm_trees.DeclarationTrees.{a_declared_name, a_plain, and_specifier, no_specifiers}
use Rattle.concrete_steps.specs.tm_trees.FileTrees.{ItemTree, a_declaration, a_step, a_task, a_value, and_part}
use Rattle.concrete_steps.specs.tm_trees.FileTrees.{no_parts}
use Rattle.concrete_steps.specs.tm_typed.CallGraph.{Reaches, by_call, by_calls, calls_in}
use Rattle.concrete_steps.specs.tm_typed.Files.{FileState, first_file_state, items_in, file_of, IsAcyclic}
use Rattle.concrete_steps.specs.tm_typed.Files.{TypedFileTree, IsTyped}
use Rattle.concrete_steps.specs.tm_laid.declared.scales.Scale.TheVariants as Scales
use Rattle.concrete_steps.specs.tm_laid.CallTrees.{call_tree}
use Rattle.concrete_steps.specs.tm_laid.TypeCells.{cell_count, abstract_count}
use Rattle.concrete_steps.specs.tm_laid.Layouts.{LaidTree, layout_of, laid_count, laid_out}
use Rattle.concrete_steps.specs.concrete_values.Values.{pointer_of}
use Rattle.concrete_steps.specs.concrete_values.Pointers.{size_of, pointer_in, base}
use Rattle.concrete_steps.specs.concrete_values.Actions.{load_at}
use Rattle.concrete_steps.specs.declared.worlds.Choice.TheVariants.{Wake}
use Rattle.concrete_steps.specs.declared.worlds.Stepped.TheVariants as Steps
use Rattle.concrete_steps.specs.NextAction.{next}
use Rattle.concrete_steps.specs.Worlds.{start, step}
use Rattle.concrete_steps.specs.Occurring.{at_start, by_step}
use Rattle.next_action_laws.specs.Laws.{HasLayout}
use Rattle.next_action_laws.proofs.low.typed_file_laws.Layable.{are_layable}
use Rattle.progress_laws.specs.Progress.{HasProgress}
use Rattle.progress_laws.proofs.Progress.{progress_is_made}

abbrev at : ℕ → ℕ → Place
at l c = record { line = l; col = c }

abbrev name : ℕ → ℕ → Name
name s l = record { start = s; length = l }

abbrev one : IntConstant
one = record { value = 1; decimal = true; unsigned = false; longs = Suffix.None }

abbrev items : List ItemTree
items =
    a_declaration (record {
      specifiers = and_specifier
          (a_plain (record { word = Specs.Qualifier Qualifiers.Volatile; place = at 1 1 }))
          (and_specifier (a_plain (record { word = Specs.Basic Basics.Int; place = at 1 10 })) no_specifiers);
      declarators = record { declarator = a_declared_name [] (name 13 1) (at 1 14) []; initialiser = None } ∷ [];
    })
    ∷ a_task (an_integer one (at 2 8)) (name 31 1) (at 2 16)
    (and_part (a_step (a_value (Some (a_name (name 13 1) (at 2 24))))) no_parts) (at 2 1) ∷ []

abbrev state_or : Result FileState Refusal → FileState
state_or (Ok f) = f
state_or (Err r) = first_file_state

abbrev found : FileState
found = state_or (items_in first_file_state items)

abbrev file : TypedFileTree
file = file_of found None

abbrev laid : LaidTree
laid = layout_of file

abbrev calls : List (List ℕ)
calls = [] ∷ []

none_called : (f g : ℕ) → Contains (calls_in calls f) g → ⊥
none_called zero g c = absurd (let l = c.1 in omega (arith, l))
none_called (suc f) g c = absurd (let l = c.1 in omega (arith, l))

none_reached : (f h : ℕ) → Reaches (calls_in calls) f h → ⊥
none_reached _ _ (by_call f h c) = none_called f h c
none_reached _ _ (by_calls f g h c r) = none_called f g c

acyclic : IsAcyclic found
acyclic k r = none_reached k k r

typed : IsTyped None items (Ok file)
typed = inr (record { acyclic = acyclic; answered = refl })

laid_so : laid_out Scales.Usual file ≡ Ok laid
unfolding laid_count call_tree cell_count abstract_count
laid_so = refl

-- the order of the one function
abbrev order : List ℕ
order = 0 ∷ []

alone : (f : ℕ) → f < 1 → Contains order f
alone zero lt = (0, omega arith, refl)
alone (suc f) lt = absurd (omega (arith, lt))

has_layout : HasLayout file order laid
unfolding layout_of call_tree
has_layout = record {
  layable = are_layable None items file order typed
      (All-nil (Contains []), tt)
      (All-cons (λ f. f < length file.functions) 0 [] (omega arith) (All-nil (λ f. f < length file.functions)))
      alone;
  scale = Scales.Usual;
  is = laid_so;
  few = omega arith;
}

-- so there is progress at the start, where the task may be woken
at_first : HasProgress laid (start laid)
at_first = progress_is_made None items file typed order laid has_layout (start laid) at_start

woken : (step laid (start laid) (Wake 0)).answer ≡ Steps.Done
unfolding call_tree cell_count layout_of size_of pointer_of pointer_in base load_at next start step
woken = refl

-- and where it is woken, and loads what a device may have stored
when_woken : HasProgress laid (step laid (start laid) (Wake 0)).world
when_woken =
    progress_is_made None items file typed order laid has_layout (step laid (start laid) (Wake 0)).world
    (by_step at_start (Wake 0) woken)
