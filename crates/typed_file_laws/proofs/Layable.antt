-- A typed file can be laid out.
use Rattle.std.proofs.Common.{◌≡◌, ℕ, ◌<◌, ◌≤◌, suc, List, [], ◌∷◌, inl, inr, length, get_or, refl, sym, subst, arith}
use Rattle.std.specs.Prelude.{◌+◌, Bool, true, false, cond, is_some, All, Contains, map, Option, Some, None, Result, Ok, Err}
use Rattle.std.proofs.lemmas.Bool.{cases_lt, false≢true, lt-ltb}
use Rattle.std.proofs.lemmas.List.{get_or_past}
use Rattle.std.proofs.lemmas.List.Elements.{All-weaker, All-nil, All-cons, All-append, All-get_or, All-map}
use Rattle.tm_laid.specs.tm_terms.declared.places.Place.{Place}
use Rattle.tm_laid.specs.tm_terms.declared.tokens.Name.{Name}
use Rattle.tm_laid.specs.tm_terms.declared.refusals.Refusal.{Refusal}
use Rattle.tm_laid.specs.tm_trees.FileTrees.{ItemTree}
use Rattle.tm_laid.specs.tm_typed.declared.types.CType.{CType}
use Rattle.tm_laid.specs.tm_typed.declared.types.CType.TheVariants as Types
use Rattle.tm_laid.specs.tm_typed.declared.types.TypeEntry.{TypeEntry}
use Rattle.tm_laid.specs.tm_typed.declared.scopes.Member.{Member}
use Rattle.tm_laid.specs.tm_typed.declared.scopes.Named.{Named}
use Rattle.tm_laid.specs.tm_typed.declared.scopes.Named.TheVariants as Names
use Rattle.tm_laid.specs.tm_typed.declared.files.LocalEntry.{LocalEntry}
use Rattle.tm_laid.specs.tm_typed.declared.files.TypedTask.{TypedTask}
use Rattle.tm_laid.specs.tm_typed.Types.{no_type}
use Rattle.tm_laid.specs.tm_typed.Scopes.{Scope, Structure, named, ctype_of, cells_of}
use Rattle.tm_laid.specs.tm_typed.TypeRows.{is_founded}
use Rattle.tm_laid.specs.tm_typed.CallGraph.{AreCalleesFirst, calls_in}
use Rattle.tm_laid.specs.tm_typed.Functions.{TypedBodyTree}
use Rattle.tm_laid.specs.tm_typed.Files.{TypedFunctionTree, FileState, TypedFileTree, first_file_state}
use Rattle.tm_laid.specs.tm_typed.Files.{no_typed_function, typed_function, items_in, defined_by, main_of, file_of}
use Rattle.tm_laid.specs.tm_typed.Files.{undefined_use, Closes, Ends, IsTyped}
use Rattle.tm_laid.specs.tm_typed.WellTyped.{OnAnswer}
use Rattle.tm_laid.specs.Paths.{listed, bodies_of, locals_in, locals_of}
use Rattle.tm_laid.specs.Layable as Laid
use Rattle.tm_laid.specs.Layable.{tables_of, AreParts, HasRanks, IsLayable}
use Rattle.typed_file_laws.specs.Tables.{IsType, IsMade, IsRow, AreMembers, IsStructure, complete_count, AreRanked}
use Rattle.typed_file_laws.specs.Lawful.{IsBound}
use Rattle.typed_file_laws.specs.LawfulFiles.{OnBody, HasBody, IsLawfulFile}
use Rattle.typed_file_laws.specs.Layouts.{AreLayable}
use Rattle.typed_file_laws.proofs.RuleSteps.{OnSome}
use Rattle.typed_file_laws.proofs.TableGrowth.{known_is_type}
use Rattle.typed_file_laws.proofs.StateSteps.{names_stand}
use Rattle.typed_file_laws.proofs.FileSteps.{count_alike}
use Rattle.typed_file_laws.proofs.ItemSteps.{file_lawful}

-- ## A typed file is what its items give

-- the file is that of a lawful state
pub record Comes (main : Option Name) (file : TypedFileTree) : Type 0 where
  pub found : FileState
  pub lawful : IsLawfulFile found
  pub none_undefined : undefined_use found ≡ None
  pub is : file ≡ file_of found main

refused_is : (main : Option Name) (answer : Result TypedFileTree Refusal) (r : Refusal) → answer ≡ Err r → OnAnswer (Comes main) answer
refused_is main answer r e = let P : Result TypedFileTree Refusal → Type 0 = OnAnswer (Comes main) in subst P (sym e) tt

closes_by : (f : FileState) (main : Option Name) (answer : Result TypedFileTree Refusal) (o : Option Place) → undefined_use f ≡ o → IsLawfulFile f → Closes f main o answer → OnAnswer (Comes main) answer
closes_by f main answer (Some p) e h c = refused_is main answer _ c
closes_by f main answer None e h (inl r) = refused_is main answer _ r.answered
closes_by f main answer None e h (inr d) =
    let P : Result TypedFileTree Refusal → Type 0 = OnAnswer (Comes main) in
    subst P (sym d.answered) (record { found = f; lawful = h; none_undefined = e; is = refl })

ends_by : (main : Option Name) (answer : Result TypedFileTree Refusal) (r : Result FileState Refusal) → OnAnswer IsLawfulFile r → Ends main r answer → OnAnswer (Comes main) answer
ends_by main answer (Err r) h e = refused_is main answer r e
ends_by main answer (Ok f) h e = closes_by f main answer (undefined_use f) refl h e

pub comes : (main : Option Name) (items : List ItemTree) (file : TypedFileTree) → IsTyped main items (Ok file) → Comes main file
comes main items file e = ends_by main (Ok file) (items_in first_file_state items) (file_lawful items) e

-- ## Tables

founded_is : (v : Scope) (t : CType) → IsMade v t → is_founded v t ≡ true
founded_is v Types.Void m = refl
founded_is v (Types.Int t) m = refl
founded_is v (Types.Pointer q) m = lt-ltb q.number (length v.types) m
founded_is v (Types.Array e n) m = lt-ltb e (length v.types) (known_is_type v e m)
founded_is v (Types.Struct k) m = refl

row_is : (f : FileState) (main : Option Name) (e : TypeEntry) → IsRow f.state.scope e → Laid.IsRow (file_of f main) e
row_is f main e h = record {
  founded = founded_is f.state.scope e.ctype h.made;
  structures = λ k q. let P : CType → Type 0 = λ t. IsMade f.state.scope t in subst P q h.made;
  cells = h.cells;
  abstract_cells = h.abstract_cells;
}

parts_are : (f : FileState) (main : Option Name) (start : ℕ) (ms : List Member) → AreMembers f.state.scope start ms → AreParts (file_of f main) start ms
parts_are f main start [] h = tt
parts_are f main start (m ∷ ms) h = (h.0, known_is_type f.state.scope m.part.of.number h.1, parts_are f main (start + cells_of f.state.scope m.part.of.number) ms h.2)

structure_is : (f : FileState) (main : Option Name) (s : Structure) → IsStructure f.state.scope s → Laid.IsStructure (file_of f main) s
structure_is f main s h = record { parts = parts_are f main 0 s.members h.members; cells = h.cells; abstract_cells = h.abstract_cells }

few_complete : (ss : List Structure) → complete_count ss ≤ length ss
few_complete [] = omega arith
few_complete (s ∷ ss) = by_test s.complete (few_complete ss)
  where
    by_test : (b : Bool) → complete_count ss ≤ length ss → cond b (suc (complete_count ss)) (complete_count ss) ≤ suc (length ss)
    by_test true h = omega (arith, h)
    by_test false h = omega (arith, h)

is_made_type : CType → Bool
is_made_type (Types.Array e n) = true
is_made_type (Types.Struct k) = true
is_made_type t = false

-- only types of the table are made of others
made_is_type : (v : Scope) (n : ℕ) (t : CType) → ctype_of v n ≡ t → is_made_type t ≡ true → IsType v n
unfolding is_made_type
made_is_type v n t e m = elim (cases_lt n (length v.types)) [
  | inl l ↦ l
  | inr past ↦
      let P : CType → Type 0 = λ t. is_made_type t ≡ true in
      let Q : TypeEntry → Type 0 = λ x. is_made_type x.ctype ≡ true in
      absurd (false≢true (subst Q (get_or_past v.types n no_type past) (subst P (sym e) m)))
]

ranks_are : (f : FileState) (main : Option Name) → AreRanked f.state.scope → HasRanks (file_of f main)
unfolding is_made_type
ranks_are f main r = let v : Scope = f.state.scope in record {
  rank = r.rank;
  deep = λ n l. let a = r.below n l in let b = few_complete v.structs in omega (arith, a, b);
  elements = λ n e m q. r.elements n e m (made_is_type v n (Types.Array e m) q refl) q;
  members = λ n k q. r.members n k (made_is_type v n (Types.Struct k) q refl) q;
}

-- ## Functions

body_types : (f : FileState) (result : ℕ) (b : Option TypedBodyTree) → OnBody f result b → All (λ (l : LocalEntry). l.of.number < length f.state.scope.types) (locals_in b)
body_types f result None h = All-nil (λ (l : LocalEntry). l.of.number < length f.state.scope.types)
body_types f result (Some b) h = h.locals

local_types : (f : FileState) (main : Option Name) → IsLawfulFile f → (g : ℕ) → All (λ (l : LocalEntry). l.of.number < length f.state.scope.types) (locals_of (file_of f main) g)
local_types f main h g = elim (cases_lt g (length f.functions)) [
  | inl l ↦ let x : TypedFunctionTree = get_or f.functions g no_typed_function in body_types f x.result x.body (All-get_or (HasBody f) f.functions g no_typed_function l h.bodies).1
  | inr past ↦
      let P : TypedFunctionTree → Type 0 = λ x. All (λ (l : LocalEntry). l.of.number < length f.state.scope.types) (locals_in x.body) in
      subst P (sym (get_or_past f.functions g no_typed_function past)) (All-nil (λ (l : LocalEntry). l.of.number < length f.state.scope.types))
]

abbrev IsThere : FileState → ℕ → Type 0
IsThere f g = g < length f.functions

if_defined : (f : FileState) (k : ℕ) (b : Bool) → IsThere f k → OnSome (IsThere f) (cond b (Some k) None)
if_defined f k true h = h
if_defined f k false h = tt

defined_there : (f : FileState) → IsLawfulFile f → (n : Option Named) → OnSome (IsBound (length f.mutexes) f.state) n → OnSome (IsThere f) (defined_by f n)
defined_there f h (Some (Names.Function k)) b = if_defined f k (is_some (let x : TypedFunctionTree = typed_function f k in x.body)) (let e = count_alike f h.alike in omega (arith, b, e))
defined_there f h None b = tt
defined_there f h (Some (Names.Object o q)) b = tt
defined_there f h (Some (Names.Alias q)) b = tt
defined_there f h (Some Names.Task) b = tt
defined_there f h (Some (Names.Mutex i)) b = tt
defined_there f h (Some (Names.Enumerator z)) b = tt

main_there : (f : FileState) (main : Option Name) → IsLawfulFile f → OnSome (IsThere f) (main_of f main)
main_there f None h = tt
main_there f (Some n) h = defined_there f h (named f.state.scope n) (names_stand (length f.mutexes) f.state h.state n)

listed_there : (f : FileState) (o : Option ℕ) → OnSome (IsThere f) o → All (IsThere f) (listed o)
listed_there f None h = All-nil (IsThere f)
listed_there f (Some k) h = All-cons (IsThere f) k [] h (All-nil (IsThere f))

bodies_there : (f : FileState) (main : Option Name) → IsLawfulFile f → All (IsThere f) (bodies_of (file_of f main))
bodies_there f main h =
    All-append (IsThere f) (map (λ (t : TypedTask). t.function) f.tasks) (listed (main_of f main)) (All-map (IsThere f) (λ (t : TypedTask). t.function) f.tasks h.tasks)
    (listed_there f (main_of f main) (main_there f main h))

-- ## Files

layable : (f : FileState) (main : Option Name) (order : List ℕ) → IsLawfulFile f → AreCalleesFirst (calls_in f.calls) order → All (IsThere f) order
    → ((g : ℕ) → IsThere f g → Contains order g) → IsLayable (file_of f main) order
layable f main order h first inside all = let v : Scope = f.state.scope in record {
  rows = All-weaker (IsRow v) (Laid.IsRow (file_of f main)) (row_is f main) v.types h.state.tables.rows;
  structures = All-weaker (IsStructure v) (Laid.IsStructure (file_of f main)) (structure_is f main) v.structs h.state.tables.structures;
  ranks = ranks_are f main h.state.tables.ranks;
  statics = h.state.statics;
  locals = local_types f main h;
  graph = h.graph;
  calls = h.callees;
  bodies = bodies_there f main h;
  callees_first = first;
  within = inside;
  whole = all;
}

pub are_layable : AreLayable
are_layable main items file order e =
    let c : Comes main file = comes main items file e in
    let P : TypedFileTree → Type 0 = λ x. AreCalleesFirst (calls_in x.calls) order → All (λ (g : ℕ). g < length x.functions) order
    → ((g : ℕ) → g < length x.functions → Contains order g) → IsLayable x order in
    subst P (sym c.is) (layable c.found main order c.lawful)
