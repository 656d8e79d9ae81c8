-- Steps of typing over states: what is found stays, and names go on naming what there is.
use Rattle.std.proofs.Common.{◌≡◌, ℕ, ◌<◌, ◌≤◌, List, [], ◌∷◌, ◌++◌, inl, inr, length, refl, sym, subst, ap, ◌∙◌, arith}
use Rattle.std.specs.Prelude.{◌+◌, ◌-◌, ◌^◌, int_le, ℤ, pos, Bool, true, false, All, slice_get, Option, Some, None, option_map, Ok}
use Rattle.std.proofs.lemmas.Bool.{cases_lt, false≢true, and_from, le-leb}
use Rattle.std.proofs.lemmas.Option.{none-some, slice_get_past}
use Rattle.std.proofs.lemmas.List.{append-nil, append_assoc, get_or_past}
use Rattle.std.proofs.lemmas.List.Elements.{All-weaker, All-nil, All-cons, All-push, All-append}
use Rattle.tm_laid.specs.tm_cint.declared.int_types.IntType.TheVariants as Ints
use Rattle.tm_laid.specs.tm_cint.IntTypes.{IsIn}
use Rattle.tm_laid.proofs.low.tm_cint.Ranges.{IsIn-from_test}
use Rattle.tm_laid.specs.tm_terms.declared.places.Place.{Place}
use Rattle.tm_laid.specs.tm_terms.declared.tokens.Name.{Name}
use Rattle.tm_laid.specs.tm_terms.declared.exprs.Prefix.{Prefix}
use Rattle.tm_laid.specs.tm_terms.declared.exprs.Prefix.TheVariants as Prefixes
use Rattle.tm_laid.specs.tm_terms.ExprTrees.{Tree, a_name, an_integer, a_character, in_parentheses, an_input}
use Rattle.tm_laid.specs.tm_terms.ExprTrees.{an_islocked, a_call, a_prefix, a_sizeof_type, a_cast, an_infix}
use Rattle.tm_laid.specs.tm_terms.ExprTrees.{a_conditional, a_subscript, a_member, a_postfix, Arguments, no_arguments}
use Rattle.tm_laid.specs.tm_terms.ExprTrees.{and_argument}
use Rattle.tm_laid.specs.tm_typed.declared.types.Qualified.{Qualified}
use Rattle.tm_laid.specs.tm_typed.declared.types.CType.{CType}
use Rattle.tm_laid.specs.tm_typed.declared.types.CType.TheVariants as Types
use Rattle.tm_laid.specs.tm_typed.declared.types.TypeEntry.{TypeEntry}
use Rattle.tm_laid.specs.tm_typed.declared.scopes.Binding.{Binding}
use Rattle.tm_laid.specs.tm_typed.declared.scopes.TagBinding.{TagBinding}
use Rattle.tm_laid.specs.tm_typed.declared.scopes.Named.{Named}
use Rattle.tm_laid.specs.tm_typed.declared.scopes.Named.TheVariants as Names
use Rattle.tm_laid.specs.tm_typed.declared.scopes.ObjectNumber.{ObjectNumber}
use Rattle.tm_laid.specs.tm_typed.declared.scopes.ObjectNumber.TheVariants as Objects
use Rattle.tm_laid.specs.tm_typed.declared.files.LocalEntry.{LocalEntry}
use Rattle.tm_laid.specs.tm_typed.declared.uses.Use.{Use}
use Rattle.tm_laid.specs.tm_typed.declared.uses.Used.{Used}
use Rattle.tm_laid.specs.tm_typed.Types.{no_type}
use Rattle.typed_file_laws.proofs.TableStructures.{structure_at}
use Rattle.tm_laid.specs.tm_typed.Scopes.{Scope, Structure, Function, no_structure, named, entry, ctype_of, structure}
use Rattle.tm_laid.specs.tm_typed.Scopes.{is_complete, size_by, size_of}
use Rattle.tm_laid.specs.tm_typed.TypedTrees.{OperandTree}
use Rattle.tm_laid.specs.tm_typed.States.{Static, State, in_scope, with_name}
use Rattle.tm_laid.specs.tm_typed.Typing.{typing, calls}
use Rattle.tm_laid.specs.tm_typed.TypeNames.{type_of_name, prepared}
use Rattle.tm_laid.specs.tm_typed.Sizes.{sizes_of}
use Rattle.tm_laid.specs.tm_typed.Uses.{uses_of, argument_uses, named_use, called_use, prefix_uses}
use Rattle.tm_laid.specs.tm_typed.Constants.{operand_constants}
use Rattle.tm_laid.specs.tm_typed.Evaluation.{evaluated, typed_in, measured}
use Rattle.tm_laid.specs.tm_typed.WellTyped.{OnAnswer, IsLawful, IsOperand}
use Rattle.c_expr_typing.proofs.WellTypedWhole.{typing_fits}
use Rattle.typed_file_laws.specs.Tables.{IsType, IsMade, IsTag, AreLawfulTables}
use Rattle.typed_file_laws.specs.Lawful.{object_type, context, IsBound, IsLinked, IsUse, IsFunction, IsNumber, IsLawfulState}
use Rattle.typing_laws.proofs.Steps.{then_on}
use Rattle.typed_file_laws.proofs.RuleSteps.{OnSome}
use Rattle.typed_file_laws.proofs.Numbers.{operand_numbers}
use Rattle.typed_file_laws.proofs.TableGrowth.{TablesGrow, grow_none, grow_on, type_stays, rows_stay, structures_stay, tag_stays}
use Rattle.typed_file_laws.proofs.TableRows.{row_at, Follows}
use Rattle.typed_file_laws.proofs.TypeShapes.{from_some, named_stands, IsAliased, AreAliased, prepared_follows}

-- ## Scopes with the same tables

-- the scope with other names, tags and functions
abbrev pub rescoped : Scope → List Binding → List TagBinding → ℕ → ℕ → List Function → Scope
rescoped v names tags outer_names outer_tags functions =
    record v { names = names; tags = tags; outer_names = outer_names; outer_tags = outer_tags; functions = functions }

pub rescoped_grows : (v : Scope) (names : List Binding) (tags : List TagBinding) (outer_names outer_tags : ℕ) (functions : List Function)
    → TablesGrow v (rescoped v names tags outer_names outer_tags functions)
rescoped_grows v names tags outer_names outer_tags functions = record { more = []; types = sym (append-nil v.types); count = omega arith; structures = λ k c. refl }

pub rescoped_lawful : (v : Scope) (names : List Binding) (tags : List TagBinding) (outer_names outer_tags : ℕ) (functions : List Function)
    → AreLawfulTables v → All (λ (b : TagBinding). IsTag v b.tagged) tags → AreLawfulTables (rescoped v names tags outer_names outer_tags functions)
rescoped_lawful v names tags outer_names outer_tags functions h ts =
    let w : Scope = rescoped v names tags outer_names outer_tags functions in
    let g : TablesGrow v w = rescoped_grows v names tags outer_names outer_tags functions in record {
      basic = h.basic;
      rows = rows_stay v w g v.types h.rows;
      structures = structures_stay v w g v.structs h.structures;
      numbers = h.numbers;
      tags = All-weaker (λ (b : TagBinding). IsTag v b.tagged) (λ (b : TagBinding). IsTag w b.tagged) (λ b. tag_stays v w g b.tagged) tags ts;
      ranks = record { rank = h.ranks.rank; below = h.ranks.below; elements = h.ranks.elements; members = h.ranks.members };
    }

-- ## What goes on being named

-- More is found: types, functions, and objects, which keep their types.
pub record Keeps (s t : State) : Type 0 where
  pub grown : TablesGrow s.scope t.scope
  pub functions : length s.scope.functions ≤ length t.scope.functions
  pub objects : (o : ObjectNumber) (n : ℕ) → object_type s.statics s.locals o ≡ Some n → object_type t.statics t.locals o ≡ Some n
  pub statics : length s.statics ≤ length t.statics

pub bound_stays : (m : ℕ) (s t : State) → Keeps s t → (n : Named) → IsBound m s n → IsBound m t n
bound_stays m s t k (Names.Object o q) h = k.objects o q.number h
bound_stays m s t k (Names.Function f) h = omega (arith, h, k.functions)
bound_stays m s t k (Names.Alias q) h = type_stays s.scope t.scope k.grown q.number h
bound_stays m s t k Names.Task h = tt
bound_stays m s t k (Names.Mutex i) h = h
bound_stays m s t k (Names.Enumerator z) h = h

abbrev pub AreBound : ℕ → State → List Binding → Type 0
AreBound m s bs = All (λ (b : Binding). IsBound m s b.named) bs

pub all_bound : (m : ℕ) (s t : State) → Keeps s t → (bs : List Binding) → AreBound m s bs → AreBound m t bs
all_bound m s t k bs h = All-weaker (λ (b : Binding). IsBound m s b.named) (λ (b : Binding). IsBound m t b.named) (λ b. bound_stays m s t k b.named) bs h

pub linked_stays : (s t : State) → Keeps s t → (n : Named) → IsLinked s n → IsLinked t n
linked_stays s t k (Names.Object (Objects.Static i) q) h = k.objects (Objects.Static i) q.number h
linked_stays s t k (Names.Object (Objects.Local i) q) h = tt
linked_stays s t k (Names.Function f) h = tt
linked_stays s t k (Names.Alias q) h = tt
linked_stays s t k Names.Task h = tt
linked_stays s t k (Names.Mutex i) h = tt
linked_stays s t k (Names.Enumerator z) h = tt

abbrev pub AreLinked : State → List Binding → Type 0
AreLinked s bs = All (λ (b : Binding). IsLinked s b.named) bs

pub all_linked : (s t : State) → Keeps s t → (bs : List Binding) → AreLinked s bs → AreLinked t bs
all_linked s t k bs h = All-weaker (λ (b : Binding). IsLinked s b.named) (λ (b : Binding). IsLinked t b.named) (λ b. linked_stays s t k b.named) bs h

use_stays : (s t : State) → Keeps s t → (u : Used) → IsUse s u → IsUse t u
use_stays s t k (Used.Function f) h = omega (arith, h, k.functions)
use_stays s t k (Used.Static i) h = omega (arith, h, k.statics)

abbrev pub AreUses : State → List Use → Type 0
AreUses s us = All (λ (u : Use). IsUse s u.used) us

pub all_uses : (s t : State) → Keeps s t → (us : List Use) → AreUses s us → AreUses t us
all_uses s t k us h = All-weaker (λ (u : Use). IsUse s u.used) (λ (u : Use). IsUse t u.used) (λ u. use_stays s t k u.used) us h

pub types_stay : (v w : Scope) → TablesGrow v w → (ns : List ℕ) → All (IsType v) ns → All (IsType w) ns
types_stay v w g ns h = All-weaker (IsType v) (IsType w) (type_stays v w g) ns h

pub functions_stay : (v w : Scope) → TablesGrow v w → (fs : List Function) → All (IsFunction v) fs → All (IsFunction w) fs
functions_stay v w g fs h = All-weaker (IsFunction v) (IsFunction w) (λ f k. record { result = type_stays v w g f.result k.result; parameters = types_stay v w g f.parameters k.parameters }) fs h

abbrev pub AreStatics : Scope → List Static → Type 0
AreStatics v os = All (λ (o : Static). IsType v o.of.number) os

pub statics_stay : (v w : Scope) → TablesGrow v w → (os : List Static) → AreStatics v os → AreStatics w os
statics_stay v w g os h = All-weaker (λ (o : Static). IsType v o.of.number) (λ (o : Static). IsType w o.of.number) (λ o. type_stays v w g o.of.number) os h

abbrev pub AreLocals : Scope → List LocalEntry → Type 0
AreLocals v os = All (λ (o : LocalEntry). IsType v o.of.number) os

pub locals_stay : (v w : Scope) → TablesGrow v w → (os : List LocalEntry) → AreLocals v os → AreLocals w os
locals_stay v w g os h = All-weaker (λ (o : LocalEntry). IsType v o.of.number) (λ (o : LocalEntry). IsType w o.of.number) (λ o. type_stays v w g o.of.number) os h

-- ## Steps

-- A step within a block: the state is lawful, what was found stays, and names, functions and objects of the body are added
-- behind those so far or stay.
pub record Continues (m : ℕ) (s t : State) : Type 0 where
  pub lawful : IsLawfulState m t
  pub keeps : Keeps s t
  pub added : List Binding
  pub names : t.scope.names ≡ s.scope.names ++ added
  pub outer : t.scope.outer_names ≡ s.scope.outer_names
  pub functions : t.scope.functions ≡ s.scope.functions
  pub declared : List LocalEntry
  pub locals : t.locals ≡ s.locals ++ declared

pub keeps_none : (s : State) → Keeps s s
keeps_none s = record { grown = grow_none s.scope; functions = omega arith; objects = λ o n h. h; statics = omega arith }

pub keeps_on : (s t u : State) → Keeps s t → Keeps t u → Keeps s u
keeps_on s t u k l = record {
  grown = grow_on s.scope t.scope u.scope k.grown l.grown;
  functions = let a = k.functions in let b = l.functions in omega (arith, a, b);
  objects = λ o n h. l.objects o n (k.objects o n h);
  statics = let a = k.statics in let b = l.statics in omega (arith, a, b);
}

pub continues_none : (m : ℕ) (s : State) → IsLawfulState m s → Continues m s s
continues_none m s h = record {
  lawful = h;
  keeps = keeps_none s;
  added = [];
  names = sym (append-nil s.scope.names);
  outer = refl;
  functions = refl;
  declared = [];
  locals = sym (append-nil s.locals);
}

pub continues_on : (m : ℕ) (s t u : State) → Continues m s t → Continues m t u → Continues m s u
continues_on m s t u c d = record {
  lawful = d.lawful;
  keeps = keeps_on s t u c.keeps d.keeps;
  added = c.added ++ d.added;
  names = d.names ∙ ap (λ (bs : List Binding). bs ++ d.added) c.names ∙ append_assoc s.scope.names c.added d.added;
  outer = d.outer ∙ c.outer;
  functions = d.functions ∙ c.functions;
  declared = c.declared ++ d.declared;
  locals = d.locals ∙ ap (λ (os : List LocalEntry). os ++ d.declared) c.locals ∙ append_assoc s.locals c.declared d.declared;
}

-- the tables follow, and nothing else is found
pub scope_continues : (m : ℕ) (s : State) (w : Scope) → IsLawfulState m s → Follows s.scope w → Continues m s (in_scope s w)
scope_continues m s w h f =
    let t : State = in_scope s w in
    let k : Keeps s t = record {
      grown = f.grown;
      functions = let e : length w.functions ≡ length s.scope.functions = ap length f.functions in omega (arith, e);
      objects = λ o n e. e;
      statics = omega arith;
    } in record {
      lawful = record {
        tables = f.lawful;
        names = let P : List Binding → Type 0 = λ bs. AreBound m t bs in subst P (sym f.names) (all_bound m s t k s.scope.names h.names);
        linkage = all_linked s t k s.linkage h.linkage;
        functions = let P : List Function → Type 0 = λ fs. All (IsFunction w) fs in subst P (sym f.functions) (functions_stay s.scope w f.grown s.scope.functions h.functions);
        statics = statics_stay s.scope w f.grown s.statics h.statics;
        locals = locals_stay s.scope w f.grown s.locals h.locals;
        uses = all_uses s t k s.uses h.uses;
        constants = h.constants;
        labels = h.labels;
      };
      keeps = k;
      added = [];
      names = f.names ∙ sym (append-nil s.scope.names);
      outer = f.outer;
      functions = f.functions;
      declared = [];
      locals = sym (append-nil s.locals);
    }

-- one more name in the present block
pub name_continues : (m : ℕ) (s : State) (n : Name) (x : Named) → IsLawfulState m s → IsBound m s x → Continues m s (in_scope s (with_name n x s.scope))
name_continues m s n x h b =
    let v : Scope = s.scope in let new : Binding = record { name = n; named = x } in
    let w : Scope = with_name n x v in let t : State = in_scope s w in
    let g : TablesGrow v w = rescoped_grows v (v.names ++ new ∷ []) v.tags v.outer_names v.outer_tags v.functions in
    let k : Keeps s t = record { grown = g; functions = omega arith; objects = λ o n e. e; statics = omega arith } in record {
      lawful = record {
        tables = rescoped_lawful v (v.names ++ new ∷ []) v.tags v.outer_names v.outer_tags v.functions h.tables h.tables.tags;
        names = All-push (λ (b : Binding). IsBound m t b.named) v.names new (all_bound m s t k v.names h.names) (bound_stays m s t k x b);
        linkage = all_linked s t k s.linkage h.linkage;
        functions = functions_stay v w g v.functions h.functions;
        statics = statics_stay v w g s.statics h.statics;
        locals = locals_stay v w g s.locals h.locals;
        uses = all_uses s t k s.uses h.uses;
        constants = h.constants;
        labels = h.labels;
      };
      keeps = k;
      added = new ∷ [];
      names = refl;
      outer = refl;
      functions = refl;
      declared = [];
      locals = sym (append-nil s.locals);
    }

-- what else a state keeps
abbrev pub noted : State → ℕ → List Use → List ℕ → List ℤ → List ℤ → List Place → State
noted s site uses lengths constants labels sizes = record s { site = site; uses = uses; lengths = lengths; constants = constants; labels = labels; sizes = sizes }

pub noted_continues : (m : ℕ) (s : State) (site : ℕ) (uses : List Use) (lengths : List ℕ) (constants labels : List ℤ) (sizes : List Place) → IsLawfulState m s → AreUses s uses
    → All IsNumber constants → All IsNumber labels → Continues m s (noted s site uses lengths constants labels sizes)
noted_continues m s site uses lengths constants labels sizes h us cs ls =
    let t : State = noted s site uses lengths constants labels sizes in
    let k : Keeps s t = record { grown = grow_none s.scope; functions = omega arith; objects = λ o n e. e; statics = omega arith } in record {
      lawful = record {
        tables = h.tables;
        names = all_bound m s t k s.scope.names h.names;
        linkage = all_linked s t k s.linkage h.linkage;
        functions = h.functions;
        statics = h.statics;
        locals = h.locals;
        uses = all_uses s t k uses us;
        constants = cs;
        labels = ls;
      };
      keeps = k;
      added = [];
      names = sym (append-nil s.scope.names);
      outer = refl;
      functions = refl;
      declared = [];
      locals = sym (append-nil s.locals);
    }

-- an evaluated expression leaves its calls, uses, constants and sizes behind
pub noted_from : (m : ℕ) (s : State) (site : ℕ) (uses : List Use) (constants : List ℤ) (sizes : List Place) → IsLawfulState m s → AreUses s uses → All IsNumber constants
    → Continues m s (record s { site = site; uses = s.uses ++ uses; constants = s.constants ++ constants; sizes = s.sizes ++ sizes })
noted_from m s site uses constants sizes h us cs = noted_continues m s site (s.uses ++ uses) s.lengths (s.constants ++ constants) s.labels (s.sizes ++ sizes) h
    (All-append (λ (u : Use). IsUse s u.used) s.uses uses h.uses us) (All-append IsNumber s.constants constants h.constants cs) h.labels

pub lengths_noted : (m : ℕ) (s : State) (lengths : List ℕ) → IsLawfulState m s → Continues m s (record s { lengths = lengths })
lengths_noted m s lengths h = noted_continues m s s.site s.uses lengths s.constants s.labels s.sizes h h.uses h.constants h.labels

pub label_noted : (m : ℕ) (s : State) (z : ℤ) → IsLawfulState m s → IsNumber z → Continues m s (record s { labels = s.labels ++ z ∷ [] })
label_noted m s z h n = noted_continues m s s.site s.uses s.lengths s.constants (s.labels ++ z ∷ []) s.sizes h h.uses h.constants (All-push IsNumber s.labels z h.labels n)

-- a measured one leaves its sizes behind
pub sizes_noted : (m : ℕ) (s : State) (sizes : List Place) → IsLawfulState m s → Continues m s (record s { sizes = s.sizes ++ sizes })
sizes_noted m s sizes h = noted_continues m s s.site s.uses s.lengths s.constants s.labels (s.sizes ++ sizes) h h.uses h.constants h.labels

-- ## Uses

static_within : (os : List Static) (k n : ℕ) → option_map (λ (o : Static). o.of.number) (slice_get os k) ≡ Some n → k < length os
static_within os k n e = elim (cases_lt k (length os)) [
  | inl l ↦ l
  | inr past ↦ absurd (none-some n (ap (option_map (λ (o : Static). o.of.number)) (sym (slice_get_past os k past)) ∙ e))
]

pub static_is_there : (m : ℕ) (s : State) (k : ℕ) (q : Qualified) → IsBound m s (Names.Object (Objects.Static k) q) → k < length s.statics
static_is_there m s k q h = static_within s.statics k q.number h

named_used : (m : ℕ) (s : State) (p : Place) (n : Option Named) → OnSome (IsBound m s) n → AreUses s (named_use p n)
named_used m s p None h = All-nil (λ (u : Use). IsUse s u.used)
named_used m s p (Some (Names.Object (Objects.Static k) q)) h = All-cons (λ (u : Use). IsUse s u.used) (record { used = Used.Static k; place = p }) [] (static_is_there m s k q h) (All-nil (λ (u : Use). IsUse s u.used))
named_used m s p (Some (Names.Object (Objects.Local k) q)) h = All-nil (λ (u : Use). IsUse s u.used)
named_used m s p (Some (Names.Function f)) h = All-nil (λ (u : Use). IsUse s u.used)
named_used m s p (Some (Names.Alias q)) h = All-nil (λ (u : Use). IsUse s u.used)
named_used m s p (Some Names.Task) h = All-nil (λ (u : Use). IsUse s u.used)
named_used m s p (Some (Names.Mutex i)) h = All-nil (λ (u : Use). IsUse s u.used)
named_used m s p (Some (Names.Enumerator z)) h = All-nil (λ (u : Use). IsUse s u.used)

called_used : (m : ℕ) (s : State) (p : Place) (n : Option Named) → OnSome (IsBound m s) n → AreUses s (called_use p n)
called_used m s p None h = All-nil (λ (u : Use). IsUse s u.used)
called_used m s p (Some (Names.Function f)) h = All-cons (λ (u : Use). IsUse s u.used) (record { used = Used.Function f; place = p }) [] h (All-nil (λ (u : Use). IsUse s u.used))
called_used m s p (Some (Names.Object o q)) h = All-nil (λ (u : Use). IsUse s u.used)
called_used m s p (Some (Names.Alias q)) h = All-nil (λ (u : Use). IsUse s u.used)
called_used m s p (Some Names.Task) h = All-nil (λ (u : Use). IsUse s u.used)
called_used m s p (Some (Names.Mutex i)) h = All-nil (λ (u : Use). IsUse s u.used)
called_used m s p (Some (Names.Enumerator z)) h = All-nil (λ (u : Use). IsUse s u.used)

prefix_used : (s : State) (op : Prefix) (us : List Use) → AreUses s us → AreUses s (prefix_uses op us)
prefix_used s Prefixes.Sizeof us h = All-nil (λ (u : Use). IsUse s u.used)
prefix_used s Prefixes.Increment us h = h
prefix_used s Prefixes.Decrement us h = h
prefix_used s Prefixes.Address us h = h
prefix_used s Prefixes.Dereference us h = h
prefix_used s Prefixes.Plus us h = h
prefix_used s Prefixes.Minus us h = h
prefix_used s Prefixes.Complement us h = h
prefix_used s Prefixes.Not us h = h

both_used : (s : State) (xs ys : List Use) → AreUses s xs → AreUses s ys → AreUses s (xs ++ ys)
both_used s xs ys h k = All-append (λ (u : Use). IsUse s u.used) xs ys h k

abbrev NamesStand : ℕ → State → Type 0
NamesStand m s = (n : Name) → OnSome (IsBound m s) (named s.scope n)

mutual
  uses_stand : (m : ℕ) (s : State) → NamesStand m s → (t : Tree) → AreUses s (uses_of s.scope t)
  uses_stand m s h (a_name n p) = named_used m s p (named s.scope n) (h n)
  uses_stand m s h (an_integer c p) = All-nil (λ (u : Use). IsUse s u.used)
  uses_stand m s h (a_character z p) = All-nil (λ (u : Use). IsUse s u.used)
  uses_stand m s h (in_parentheses t) = uses_stand m s h t
  uses_stand m s h (an_input low high p) = both_used s (uses_of s.scope low) (uses_of s.scope high) (uses_stand m s h low) (uses_stand m s h high)
  uses_stand m s h (an_islocked i q p) = All-nil (λ (u : Use). IsUse s u.used)
  uses_stand m s h (a_call f args p) = both_used s (called_use p (named s.scope f)) (argument_uses s.scope args) (called_used m s p (named s.scope f) (h f)) (arguments_stand m s h args)
  uses_stand m s h (a_prefix op t p) = prefix_used s op (uses_of s.scope t) (uses_stand m s h t)
  uses_stand m s h (a_sizeof_type n p) = All-nil (λ (u : Use). IsUse s u.used)
  uses_stand m s h (a_cast n t p) = uses_stand m s h t
  uses_stand m s h (an_infix l op p r) = both_used s (uses_of s.scope l) (uses_of s.scope r) (uses_stand m s h l) (uses_stand m s h r)
  uses_stand m s h (a_conditional c p x y) =
      both_used s (uses_of s.scope c) (uses_of s.scope x ++ uses_of s.scope y) (uses_stand m s h c)
      (both_used s (uses_of s.scope x) (uses_of s.scope y) (uses_stand m s h x) (uses_stand m s h y))
  uses_stand m s h (a_subscript e p i) = both_used s (uses_of s.scope e) (uses_of s.scope i) (uses_stand m s h e) (uses_stand m s h i)
  uses_stand m s h (a_member e access p i q) = uses_stand m s h e
  uses_stand m s h (a_postfix e op p) = uses_stand m s h e

  arguments_stand : (m : ℕ) (s : State) → NamesStand m s → (args : Arguments) → AreUses s (argument_uses s.scope args)
  arguments_stand m s h no_arguments = All-nil (λ (u : Use). IsUse s u.used)
  arguments_stand m s h (and_argument t args) = both_used s (uses_of s.scope t) (argument_uses s.scope args) (uses_stand m s h t) (arguments_stand m s h args)

-- ## Expressions

pub names_stand : (m : ℕ) (s : State) → IsLawfulState m s → NamesStand m s
names_stand m s h n = named_stands (IsBound m s) s.scope n h.names

bound_aliased : (m : ℕ) (s : State) (n : Named) → IsBound m s n → IsAliased s.scope n
bound_aliased m s (Names.Object o q) h = tt
bound_aliased m s (Names.Function f) h = tt
bound_aliased m s (Names.Alias q) h = h
bound_aliased m s Names.Task h = tt
bound_aliased m s (Names.Mutex i) h = tt
bound_aliased m s (Names.Enumerator z) h = tt

aliased_by : (m : ℕ) (s : State) (n : Option Named) → OnSome (IsBound m s) n → OnSome (IsAliased s.scope) n
aliased_by m s None h = tt
aliased_by m s (Some x) h = bound_aliased m s x h

pub aliases_stand : (m : ℕ) (s : State) → IsLawfulState m s → AreAliased s.scope
aliases_stand m s h n = aliased_by m s (named s.scope n) (names_stand m s h n)

small_size : (n : ℕ) → n < 2 ^ 32 → IsIn Ints.UInt (pos n)
small_size n l = IsIn-from_test Ints.UInt (pos n) (and_from (int_le (pos 0) (pos n)) (int_le (pos n) (pos (2 ^ 32 - 1)))
    (le-leb 0 n (omega arith)) (le-leb n (2 ^ 32 - 1) (omega (arith, l))))

structure_small : (v : Scope) → AreLawfulTables v → (k : ℕ) → (structure v k).size < 2 ^ 32
structure_small v h k = elim (cases_lt k (length v.structs)) [
  | inl l ↦ (structure_at v h k l).size
  | inr past ↦ let P : Structure → Type 0 = λ s. s.size < 2 ^ 32 in subst P (sym (get_or_past v.structs k no_structure past)) (omega arith)
]

size_by_small : (v : Scope) → AreLawfulTables v → (e : TypeEntry) (t : CType) → e.size < 2 ^ 32 → size_by v e t < 2 ^ 32
size_by_small v h e Types.Void l = l
size_by_small v h e (Types.Int t) l = l
size_by_small v h e (Types.Pointer q) l = l
size_by_small v h e (Types.Array f n) l = l
size_by_small v h e (Types.Struct k) l = structure_small v h k

type_small : (v : Scope) → AreLawfulTables v → (n : ℕ) → size_of v n < 2 ^ 32
type_small v h n = elim (cases_lt n (length v.types)) [
  | inl l ↦ size_by_small v h (entry v n) (ctype_of v n) (row_at v h.rows n l).size
  | inr past ↦ let P : TypeEntry → Type 0 = λ e. size_by v e e.ctype < 2 ^ 32 in subst P (sym (get_or_past v.types n no_type past)) (omega arith)
]

pub elements_known : (v : Scope) → AreLawfulTables v → (n e m : ℕ) → ctype_of v n ≡ Types.Array e m → is_complete v e ≡ true
elements_known v h n e m q = elim (cases_lt n (length v.types)) [
  | inl l ↦ let P : CType → Type 0 = λ t. IsMade v t in subst P q (row_at v h.rows n l).made
  | inr past ↦
      let P : CType → Type 0 = λ t. is_array t ≡ true in
      let Q : TypeEntry → Type 0 = λ x. is_array x.ctype ≡ true in
      absurd (false≢true (subst Q (get_or_past v.types n no_type past) (subst P (sym q) refl)))
]
  where
    is_array : CType → Bool
    is_array (Types.Array e n) = true
    is_array t = false

-- the context of a lawful state is lawful
pub lawful_context : (m : ℕ) (s : State) → IsLawfulState m s → IsLawful (context m s)
lawful_context m s h = record {
  objects = λ n o q e. from_some (IsBound m s) (named s.scope n) (Names.Object o q) (names_stand m s h n) e;
  mutexes = λ n i e. from_some (IsBound m s) (named s.scope n) (Names.Mutex i) (names_stand m s h n) e;
  enumerators = λ n z e. from_some (IsBound m s) (named s.scope n) (Names.Enumerator z) (names_stand m s h n) e;
  elements = elements_known s.scope h.tables;
  sizes = λ n. small_size (size_of s.scope n) (type_small s.scope h.tables n);
  structure_sizes = λ k. small_size (structure s.scope k).size (structure_small s.scope h.tables k);
}

-- an expression in a scope that is prepared for it
abbrev pub prepared_state : State → Tree → State
prepared_state s t = in_scope s (prepared s.scope t)

pub prepared_continues : (m : ℕ) (s : State) (t : Tree) → IsLawfulState m s → Continues m s (prepared_state s t)
prepared_continues m s t h = scope_continues m s (prepared s.scope t) h (prepared_follows s.scope h.tables (aliases_stand m s h) t)

-- what an expression gives in the state behind it
abbrev pub Evaluates : ℕ → State → OperandTree × State → Type 0
Evaluates m s a = Continues m s a.1 × IsOperand (context m a.1) a.0

pub typed_continues : (m : ℕ) (s : State) (t : Tree) → IsLawfulState m s → OnAnswer (Evaluates m s) (typed_in s t)
typed_continues m s t h =
    let u : State = prepared_state s t in
    let c : Continues m s u = prepared_continues m s t h in
    then_on (IsOperand (context m u)) (Evaluates m s) (typing type_of_name u.scope s.site t) (λ o. Ok (o, evaluated s u.scope t o))
    (typing_fits type_of_name (context m u) (lawful_context m u c.lawful) s.site t)
    (λ o w. (
      continues_on m s u (evaluated s u.scope t o) c
          (noted_from m u (s.site + calls t) (uses_of u.scope t) (operand_constants o) (sizes_of u.scope t) c.lawful
          (uses_stand m u (names_stand m u c.lawful) t) (operand_numbers (context m u) o w)),
      w,
    ))

pub measured_continues : (m : ℕ) (s : State) (t : Tree) → IsLawfulState m s → OnAnswer (Evaluates m s) (measured s t)
measured_continues m s t h =
    let u : State = prepared_state s t in
    let c : Continues m s u = prepared_continues m s t h in
    then_on (IsOperand (context m u)) (Evaluates m s) (typing type_of_name u.scope s.site t) _
    (typing_fits type_of_name (context m u) (lawful_context m u c.lawful) s.site t)
    (λ o w. (continues_on m s u (record u { sizes = u.sizes ++ sizes_of u.scope t }) c (sizes_noted m u (sizes_of u.scope t) c.lawful), w))
