-- Declarations keep cells of static storage filled with values of their types.
use Rattle.std.proofs.Common.{◌≡◌, refl, ap, sym, subst, ℕ, ◌<◌, inl, inr, Bool, true, false}
use Rattle.std.proofs.Common.{cond, List, [], ◌∷◌, ◌++◌, length, Option, Some, None, arith}
use Rattle.std.specs.Prelude.{is_some, option_map, All, Result, Ok, Err, ◌||◌, ◌&&◌, not}
use Rattle.std.proofs.lemmas.Bool.{cases_lt}
use Rattle.std.proofs.lemmas.Option.{slice_get-get_or}
use Rattle.std.proofs.lemmas.List.{append-nil, length-append, get_or_past}
use Rattle.std.proofs.lemmas.List.Elements.{All-nil, All-push, All-get_or}
use Rattle.cell_layout.specs.tm_terms.declared.tokens.Name.{Name}
use Rattle.cell_layout.specs.tm_terms.declared.refusals.Kind.TheVariants as Kinds
use Rattle.cell_layout.specs.tm_terms.declared.refusals.Refusal.{Refusal}
use Rattle.cell_layout.specs.tm_terms.declared.types_named.Storage.{Storage}
use Rattle.cell_layout.specs.tm_terms.declared.types_named.Storage.TheVariants as Storages
use Rattle.cell_layout.specs.tm_terms.ExprTrees.{place_of}
use Rattle.cell_layout.specs.tm_trees.declared.declarations.Tag.{Tag}
use Rattle.cell_layout.specs.tm_trees.DeclarationTrees.{ValueTree, an_expression, a_list, InitialiserTree}
use Rattle.cell_layout.specs.tm_trees.DeclarationTrees.{InitDeclaratorTree}
use Rattle.cell_layout.specs.tm_trees.DeclarationTrees.{DeclarationTree}
use Rattle.cell_layout.specs.tm_typed.declared.scopes.Binding.{Binding}
use Rattle.cell_layout.specs.tm_typed.declared.scopes.Named.{Named}
use Rattle.cell_layout.specs.tm_typed.declared.scopes.Named.TheVariants as Names
use Rattle.cell_layout.specs.tm_typed.declared.scopes.ObjectNumber.TheVariants as Objects
use Rattle.cell_layout.specs.tm_typed.declared.files.LocalEntry.{LocalEntry}
use Rattle.cell_layout.specs.tm_typed.declared.specifiers.Said.{Said}
use Rattle.cell_layout.specs.tm_typed.Scopes.{named, named_here, tagged_here, last_declared}
use Rattle.cell_layout.specs.tm_typed.TypedTrees.{OperandTree}
use Rattle.cell_layout.specs.tm_typed.Refusals.{then_with}
use Rattle.cell_layout.specs.tm_typed.States.{State, Static, no_static, static, static_type}
use Rattle.cell_layout.specs.tm_typed.Evaluation.{typed_in}
use Rattle.cell_layout.specs.tm_typed.Structures.{is_no_object, specified}
use Rattle.cell_layout.specs.tm_typed.Initialisers.{initial, Given}
use Rattle.cell_layout.specs.tm_typed.Declarations.{Declared, declared_by, bound_here, typedef_rules}
use Rattle.cell_layout.specs.tm_typed.Declarations.{initialised_static, new_static, static_number, linked, with_linkage}
use Rattle.cell_layout.specs.tm_typed.Declarations.{clashes}
use Rattle.cell_layout.specs.tm_typed.Declarations.{is_other, bound_unless, redeclared, linked_object, file_object}
use Rattle.cell_layout.specs.tm_typed.Declarations.{is_extern}
use Rattle.cell_layout.specs.tm_typed.Declarations.{is_typedef, file_rules, is_function, no_value, extern_value}
use Rattle.cell_layout.specs.tm_typed.Declarations.{extern_object}
use Rattle.cell_layout.specs.tm_typed.Declarations.{static_object, LocalInitial, initialised_local, new_local, Locals}
use Rattle.cell_layout.specs.tm_typed.Declarations.{local_object, no_locals, local_rules, file_declared, local_declared}
use Rattle.cell_layout.specs.tm_typed.Declarations.{lone_tag}
use Rattle.cell_layout.specs.tm_typed.Declarations.{tag_rules, file_form, file_declaration, local_form}
use Rattle.cell_layout.specs.tm_typed.Declarations.{local_declaration}
use Rattle.cell_layout.specs.tm_typed.TypedStatements.{LocalTree}
use Rattle.cell_layout.specs.tm_typed.WellTyped.{OnAnswer}
use Rattle.typed_file_laws.specs.Tables.{IsType}
use Rattle.typed_file_laws.specs.Lawful.{IsBound, IsLinked, IsLawfulState}
use Rattle.typed_file_laws.proofs.low.typing_laws.Steps.{then_on}
use Rattle.typed_file_laws.proofs.RuleSteps.{on_row, OnSome, answer_weaker}
use Rattle.typed_file_laws.proofs.TableGrowth.{grow_none}
use Rattle.typed_file_laws.proofs.TypeShapes.{last_stands, some_map, said_stays}
use Rattle.typed_file_laws.proofs.StateSteps.{Keeps, all_bound, all_linked, all_uses, Continues, continues_none}
use Rattle.typed_file_laws.proofs.StateSteps.{name_continues, static_is_there}
use Rattle.typed_file_laws.proofs.SpecifierSteps.{object_parts, Says, specified_says}
use Rattle.typed_file_laws.proofs.DeclarationSteps.{Gives, initial_gives, DeclaresName, declared_by_declares}
use Rattle.typed_file_laws.proofs.DeclarationSteps.{typedef_continues, new_static_continues, local_added, local_bound}
use Rattle.typed_file_laws.proofs.FileSteps.{both}
use Rattle.next_action_laws.proofs.RegularCells.{got_last, object_on, tag_continues}
use Rattle.next_action_laws.proofs.SameStatics.{kept_in, SameState, specified_same, declared_by_same, typedef_same}
use Rattle.next_action_laws.proofs.SameStatics.{tag_rules_same}
use Rattle.next_action_laws.proofs.StaticMentions.{GivesConstants, initial_constant}
use Rattle.next_action_laws.proofs.FilledStates.{IsFilledIn, IsFilledObject, AreFilledIn, Carries, carries_by}
use Rattle.next_action_laws.proofs.FilledStates.{objects_carried, Further, further_by, further_none, further_on}
use Rattle.next_action_laws.proofs.FilledStates.{further_same, further_told, set_further, initialised_further}

same_further : (m : ℕ) (s : State) (r : Result State Refusal) → IsLawfulState m s → OnAnswer (Continues m s) r
    → OnAnswer (SameState s) r → OnAnswer (Further m s) r
same_further m s (Err e) h c k = tt
same_further m s (Ok t) h c k = further_same m s t h c k

state_on : (m : ℕ) (s t : State) (r : Result State Refusal) → Further m s t → OnAnswer (Further m t) r
    → OnAnswer (Further m s) r
state_on m s t r c h = answer_weaker (Further m t) (Further m s) r (λ u k. further_on m s t u c k) h

-- ## Linked objects

name_further : (m : ℕ) (s : State) (d : Declared) (x : Named) → IsLawfulState m s → IsBound m s x
    → Further m s (bound_here s d x)
name_further m s d x h b = further_same m s (bound_here s d x) h (name_continues m s d.name x h b) refl

new_further : (m : ℕ) (s : State) (d : Declared) (b : Bool) → IsLawfulState m s → IsType s.scope d.shape.of.number
    → Further m s (new_static s d b)
new_further m s d b h i =
    let t : State = new_static s d b in
    let c : Continues m s t = new_static_continues m s d b h i in
    let by : Carries s t = carries_by s t h.tables c.keeps [] (sym (append-nil s.uses)) in
    let o : Static = record {
      name = d.name;
      place = d.place;
      of = d.shape.of;
      defined = b;
      initialised = is_some d.initialiser;
      given = [];
    } in
    further_by m s t c (λ a.
    All-push (IsFilledObject t) s.statics o (objects_carried s t by s.statics a)
    (All-nil (IsFilledIn t d.shape.of.number)))

linkage_further : (m : ℕ) (s : State) (b : Binding) → IsLawfulState m s → IsLinked s b.named
    → Further m s (record s { linkage = s.linkage ++ b ∷ [] })
linkage_further m s b h i =
    let linkage : List Binding = s.linkage ++ b ∷ [] in
    let t : State = record s { linkage = linkage } in
    let k : Keeps s t = record {
      grown = grow_none s.scope;
      functions = omega arith;
      objects = λ o n e. e;
      statics = omega arith;
    } in
    further_same m s t h (record {
      lawful = record {
        tables = h.tables;
        names = all_bound m s t k s.scope.names h.names;
        linkage = all_linked s t k linkage (All-push (λ (b : Binding). IsLinked s b.named) s.linkage b h.linkage i);
        functions = h.functions;
        statics = h.statics;
        locals = h.locals;
        uses = all_uses s t k s.uses h.uses;
        constants = h.constants;
        labels = h.labels;
      };
      keeps = k;
      added = [];
      names = sym (append-nil s.scope.names);
      outer = refl;
      functions = refl;
      declared = [];
      locals = sym (append-nil s.locals);
    }) refl

object_bound : (m : ℕ) (s : State) (k : ℕ) → k < length s.statics
    → IsBound m s (Names.Object (Objects.Static k) (static_type s k))
object_bound m s k l = ap (option_map (λ (o : Static). o.of.number)) (slice_get-get_or s.statics k no_static l)

unless_further : (m : ℕ) (s : State) (d : Declared) (k : ℕ) (n : Option Named) → IsLawfulState m s
    → k < length s.statics → Further m s (bound_unless s d k n)
unless_further m s d k None h l =
    name_further m s d (Names.Object (Objects.Static k) (static_type s k)) h (object_bound m s k l)
unless_further m s d k (Some n) h l = further_none m s h

number_there : (m : ℕ) (s : State) (n : Option Named) → OnSome (IsLinked s) n
    → OnSome (λ (k : ℕ). k < length s.statics) (static_number n)
number_there m s None h = tt
number_there m s (Some (Names.Object (Objects.Static k) q)) h = static_is_there m s k q h
number_there m s (Some (Names.Object (Objects.Local k) q)) h = tt
number_there m s (Some (Names.Function f)) h = tt
number_there m s (Some (Names.Alias q)) h = tt
number_there m s (Some Names.Task) h = tt
number_there m s (Some (Names.Mutex i)) h = tt
number_there m s (Some (Names.Enumerator z)) h = tt

linked_there : (m : ℕ) (s : State) (n : Name) → IsLawfulState m s
    → OnSome (λ (k : ℕ). k < length s.statics) (linked s n)
linked_there m s n h =
    number_there m s (option_map (λ b. b.named) (last_declared (λ b. b.name) n s.linkage))
    (some_map (IsLinked s) (λ (b : Binding). b.named) (last_declared (λ b. b.name) n s.linkage)
    (last_stands (λ (b : Binding). IsLinked s b.named) (λ (b : Binding). b.name) n s.linkage h.linkage))

old_filled : (s : State) (k : ℕ) → AreFilledIn s
    → All (IsFilledIn s (static s k).of.number) (let o : Static = static s k in o.given)
old_filled s k a = elim (cases_lt k (length s.statics)) [
  | inl lt ↦ All-get_or (IsFilledObject s) s.statics k no_static lt a
  | inr past ↦ subst (λ (o : Static). All (IsFilledIn s o.of.number) o.given)
      (sym (get_or_past s.statics k no_static past)) (All-nil (IsFilledIn s 0))
]

abbrev Links : ℕ → State → ℕ × State → Type 0
Links m s a = Further m s a.1

object_links : (m : ℕ) (s : State) (d : Declared) (b : Bool) (o : Option ℕ) → IsLawfulState m s
    → IsType s.scope d.shape.of.number → OnSome (λ (k : ℕ). k < length s.statics) o → Links m s (linked_object s d b o)
object_links m s d b (Some k) h i l =
    let t : State = redeclared s d b k in
    let new : Static = record (static s k)
    { defined = (static s k).defined || b; initialised = (static s k).initialised || is_some d.initialiser } in
    let c : Further m s t = set_further m s k new h refl (λ a. old_filled s k a) in
    further_on m s t (bound_unless t d k (named_here s.scope d.name)) c
    (unless_further m t d k (named_here s.scope d.name) c.lawful (let e = c.keeps.statics in omega (arith, l, e)))
object_links m s d b None h i l =
    let k : ℕ = length s.statics in
    let t : State = new_static s d b in
    let u : State = with_linkage t d k in
    let o : Static = record {
      name = d.name;
      place = d.place;
      of = d.shape.of;
      defined = b;
      initialised = is_some d.initialiser;
      given = [];
    } in
    let c : Further m s t = new_further m s d b h i in
    let e : Further m t u =
    linkage_further m t (record { name = d.name; named = Names.Object (Objects.Static k) d.shape.of }) c.lawful
    (got_last s.statics o) in
    let there : k < length u.statics = (let e = length-append s.statics (o ∷ []) in omega (arith, e)) in
    further_on m s u (bound_unless u d k (named_here s.scope d.name)) (further_on m s t u c e)
    (unless_further m u d k (named_here s.scope d.name) e.lawful there)

-- ## Objects at file scope

file_object_further : (m : ℕ) (s t : State) (b : Bool) (d : Declared) → IsLawfulState m s → DeclaresName m s (d, t)
    → kept_in t ≡ kept_in s → OnAnswer (Further m s) (file_object t b d)
file_object_further m s t b d w h e =
    on_row (Further m s) d.shape.left_out Kinds.Unsupported d.place _ (λ x.
    on_row (Further m s) (is_other (named_here t.scope d.name) (linked t d.name) || clashes t d (linked t d.name))
    Kinds.Redeclared d.place _ (λ y.
    on_row (Further m s) (is_no_object t.scope d.shape) Kinds.Mismatch d.place _ (λ z.
    let g = h (object_parts t.scope d.shape z).0 in
    let o : ℕ × State = linked_object t d (not b) (linked t d.name) in
    let f : Further m s t = further_same m s t w g.0 e in
    let l : Further m t o.1 =
    object_links m t d (not b) (linked t d.name) g.0.lawful g.1 (linked_there m t d.name g.0.lawful) in
    state_on m s o.1 (initialised_static o.1 o.0 d.initialiser) (further_on m s t o.1 f l)
    (initialised_further m o.1 o.0 d.initialiser l.lawful))))

typedef_further : (m : ℕ) (s t : State) (d : Declared) → IsLawfulState m s → DeclaresName m s (d, t)
    → kept_in t ≡ kept_in s → OnAnswer (Further m s) (typedef_rules t d)
typedef_further m s t d w h e =
    same_further m s (typedef_rules t d) w (typedef_continues m s t d h) (typedef_same s t d e)

file_by : (m : ℕ) (s t : State) (storage : Option Storage) (d : Declared) (b : Bool) → IsLawfulState m s
    → DeclaresName m s (d, t) → kept_in t ≡ kept_in s
    → OnAnswer (Further m s)
    (cond b (typedef_rules t d) (file_object t (is_extern storage && not (is_some d.initialiser)) d))
file_by m s t storage d true w h e = typedef_further m s t d w h e
file_by m s t storage d false w h e =
    file_object_further m s t (is_extern storage && not (is_some d.initialiser)) d w h e

file_declared_further : (m : ℕ) (s : State) (said : Said) (ds : List InitDeclaratorTree) → Says m s (said, s)
    → OnAnswer (Further m s) (file_declared s said ds)
file_declared_further m s said [] h = further_none m s h.0.lawful
file_declared_further m s said (d ∷ ds) h =
    then_on (λ (a : Declared × State). DeclaresName m s a × (kept_in a.1 ≡ kept_in s)) (Further m s)
    (declared_by s said d) _
    (both (DeclaresName m s) (λ (a : Declared × State). kept_in a.1 ≡ kept_in s) (declared_by s said d)
    (declared_by_declares m s said d h) (declared_by_same s said d)) (λ a g.
    then_on (Further m s) (Further m s) (file_rules a.1 said.storage a.0)
    _ (file_by m s a.1 said.storage a.0 (is_typedef said.storage) h.0.lawful g.0 g.1) (λ t c.
    state_on m s t (file_declared t said ds) c
    (file_declared_further m t said ds
    (continues_none m t c.lawful, said_stays s.scope t.scope c.keeps.grown said h.1))))

abbrev SaysSame : ℕ → State → Said × State → Type 0
SaysSame m s a = Says m s a × (kept_in a.1 ≡ kept_in s)

specified_further : (m : ℕ) (s : State) (d : DeclarationTree) → IsLawfulState m s
    → OnAnswer (SaysSame m s) (specified s d.specifiers)
specified_further m s d h =
    both (Says m s) (λ (a : Said × State). kept_in a.1 ≡ kept_in s) (specified s d.specifiers)
    (specified_says m s d.specifiers h) (specified_same s d.specifiers)

tag_further : (m : ℕ) (s : State) (t : Tag) → IsLawfulState m s
    → OnAnswer (Further m s) (tag_rules s t (tagged_here s.scope t.name))
tag_further m s t h =
    same_further m s (tag_rules s t (tagged_here s.scope t.name)) h
    (tag_continues m s t (tagged_here s.scope t.name) h) (tag_rules_same s t (tagged_here s.scope t.name))

file_form_further : (m : ℕ) (s : State) (d : DeclarationTree) (t : Option Tag) → IsLawfulState m s
    → OnAnswer (Further m s) (file_form s d t)
file_form_further m s d (Some t) h = tag_further m s t h
file_form_further m s d None h =
    then_on (SaysSame m s) (Further m s) (specified s d.specifiers) _ (specified_further m s d h) (λ a g.
    state_on m s a.1 (file_declared a.1 a.0 d.declarators) (further_same m s a.1 h g.0.0 g.1)
    (file_declared_further m a.1 a.0 d.declarators (continues_none m a.1 g.0.0.lawful, g.0.1)))

pub file_declaration_further : (m : ℕ) (s : State) (d : DeclarationTree) → IsLawfulState m s
    → OnAnswer (Further m s) (file_declaration s d)
file_declaration_further m s d h = file_form_further m s d (lone_tag d.specifiers d.declarators) h

-- ## Declarations in blocks

extern_by : (m : ℕ) (s t : State) (d : Declared) (i : Option InitialiserTree) → Further m s t
    → IsType t.scope d.shape.of.number
    → OnAnswer (Further m s)
    (then_with (extern_value t i) (λ u. Ok (let o : ℕ × State = linked_object u d false (linked u d.name) in o.1)))
extern_by m s t d None f g =
    let o : ℕ × State = linked_object t d false (linked t d.name) in
    further_on m s t o.1 f
    (object_links m t d false (linked t d.name) f.lawful g (linked_there m t d.name f.lawful))
extern_by m s t d (Some i) f g = none i.value
  where
    none : (v : ValueTree) → OnAnswer (Further m s)
        (then_with (no_value t v) (λ u. Ok (let o : ℕ × State = linked_object u d false (linked u d.name) in o.1)))
    none (an_expression x) = refused (typed_in t x)
      where
        refused : (r : Result (OperandTree × State) Refusal)
            → OnAnswer (Further m s)
            (then_with (then_with r (λ o. Err (record { kind = Kinds.Mismatch; place = place_of x; limit = None })))
            (λ u. Ok (let o : ℕ × State = linked_object u d false (linked u d.name) in o.1)))
        refused (Err y) = tt
        refused (Ok y) = tt
    none (a_list vs p) = tt

extern_further : (m : ℕ) (s t : State) (d : Declared) → IsLawfulState m s → DeclaresName m s (d, t)
    → kept_in t ≡ kept_in s → OnAnswer (Further m s) (extern_object t d)
extern_further m s t d w h e =
    on_row (Further m s) d.shape.left_out Kinds.Unsupported d.place _ (λ x.
    on_row (Further m s)
    (is_other (named_here t.scope d.name) (linked t d.name) || is_function (named t.scope d.name)
    || clashes t d (linked t d.name)) Kinds.Redeclared d.place _ (λ y.
    on_row (Further m s) (is_no_object t.scope d.shape) Kinds.Mismatch d.place _ (λ z.
    let g = h (object_parts t.scope d.shape z).0 in
    extern_by m s t d d.initialiser (further_same m s t w g.0 e) g.1)))

static_further : (m : ℕ) (s t : State) (d : Declared) → IsLawfulState m s → DeclaresName m s (d, t)
    → kept_in t ≡ kept_in s → OnAnswer (Further m s) (static_object t d)
static_further m s t d w h e =
    let k : ℕ = length t.statics in
    let u : State = new_static t d true in
    let x : State = bound_here u d (Names.Object (Objects.Static k) d.shape.of) in
    object_on m s t d (Further m s) (initialised_static x k d.initialiser) h (λ c i.
    let f : Further m s t = further_same m s t w c e in
    let g : Further m t u = new_further m t d true c.lawful i in
    let bound : IsBound m u (Names.Object (Objects.Static k) d.shape.of) =
    got_last t.statics (record {
      name = d.name;
      place = d.place;
      of = d.shape.of;
      defined = true;
      initialised = is_some d.initialiser;
      given = [];
    }) in
    let n : Further m u x = name_further m u d (Names.Object (Objects.Static k) d.shape.of) g.lawful bound in
    state_on m s x (initialised_static x k d.initialiser) (further_on m s t x f (further_on m t u x g n))
    (initialised_further m x k d.initialiser n.lawful))

abbrev pub FurtherLocals : ℕ → State → Locals → Type 0
FurtherLocals m s a = Further m s a.1

abbrev FurtherInitial : ℕ → State → LocalInitial → Type 0
FurtherInitial m s a = Further m s a.1

local_initial : (m : ℕ) (s : State) (n : ℕ) (i : Option InitialiserTree) → IsLawfulState m s
    → OnAnswer (FurtherInitial m s) (initialised_local s n i)
local_initial m s n None h = further_none m s h
local_initial m s n (Some i) h =
    then_on (λ (a : Given). Gives m s a × GivesConstants false s a) (FurtherInitial m s) (initial false s n 0 i.value) _
    (both (Gives m s) (GivesConstants false s) (initial false s n 0 i.value) (initial_gives m false s n 0 i.value h)
    (initial_constant false s n 0 i.value)) (λ g c. further_told m s g.1 _ h c.0.0 c.1.0)

local_further : (m : ℕ) (s t : State) (d : Declared) → IsLawfulState m s → DeclaresName m s (d, t)
    → kept_in t ≡ kept_in s → OnAnswer (FurtherLocals m s) (local_object t d)
local_further m s t d w h q =
    let u : State = new_local t d in
    let o : LocalEntry = record { name = d.name; place = d.place; of = d.shape.of } in
    let x : State = record t { locals = t.locals ++ o ∷ [] } in
    object_on m s t d (FurtherLocals m s) _ h (λ c i.
    let f : Further m s t = further_same m s t w c q in
    let e : Further m t x = further_same m t x c.lawful (local_added m t o c.lawful i) refl in
    let n : Further m x u =
    name_further m x d (Names.Object (Objects.Local (length t.locals)) d.shape.of) e.lawful (local_bound t o) in
    then_on (FurtherInitial m u) (FurtherLocals m s) (initialised_local u d.shape.of.number d.initialiser)
    _ (local_initial m u d.shape.of.number d.initialiser n.lawful) (λ a g.
    further_on m s u a.1 (further_on m s t u f (further_on m t x u e n)) g))

no_further : (m : ℕ) (s : State) (r : Result State Refusal) → OnAnswer (Further m s) r
    → OnAnswer (FurtherLocals m s) (then_with r no_locals)
no_further m s r h = then_on (Further m s) (FurtherLocals m s) r no_locals h (λ t c. c)

rules_further : (m : ℕ) (s t : State) (storage : Option Storage) (d : Declared) → IsLawfulState m s
    → DeclaresName m s (d, t) → kept_in t ≡ kept_in s → OnAnswer (FurtherLocals m s) (local_rules t storage d)
rules_further m s t (Some Storages.Typedef) d w h e = no_further m s (typedef_rules t d) (typedef_further m s t d w h e)
rules_further m s t (Some Storages.Extern) d w h e = no_further m s (extern_object t d) (extern_further m s t d w h e)
rules_further m s t (Some Storages.Static) d w h e = no_further m s (static_object t d) (static_further m s t d w h e)
rules_further m s t (Some Storages.Register) d w h e = local_further m s t d w h e
rules_further m s t (Some Storages.Auto) d w h e = local_further m s t d w h e
rules_further m s t None d w h e = local_further m s t d w h e

all_further : (m : ℕ) (s : State) (said : Said) (found : List LocalTree) (ds : List InitDeclaratorTree)
    → Says m s (said, s) → OnAnswer (FurtherLocals m s) (local_declared s said found ds)
all_further m s said found [] h = further_none m s h.0.lawful
all_further m s said found (d ∷ ds) h =
    then_on (λ (a : Declared × State). DeclaresName m s a × (kept_in a.1 ≡ kept_in s)) (FurtherLocals m s)
    (declared_by s said d) _
    (both (DeclaresName m s) (λ (a : Declared × State). kept_in a.1 ≡ kept_in s) (declared_by s said d)
    (declared_by_declares m s said d h) (declared_by_same s said d)) (λ a g.
    then_on (FurtherLocals m s) (FurtherLocals m s) (local_rules a.1 said.storage a.0)
    _ (rules_further m s a.1 said.storage a.0 h.0.lawful g.0 g.1) (λ l c.
    answer_weaker (FurtherLocals m l.1) (FurtherLocals m s) (local_declared l.1 said (found ++ l.0) ds)
    (λ b z. further_on m s l.1 b.1 c z)
    (all_further m l.1 said (found ++ l.0) ds
    (continues_none m l.1 c.lawful, said_stays s.scope l.1.scope c.keeps.grown said h.1))))

form_further : (m : ℕ) (s : State) (d : DeclarationTree) (t : Option Tag) → IsLawfulState m s
    → OnAnswer (FurtherLocals m s) (local_form s d t)
form_further m s d (Some t) h = no_further m s (tag_rules s t (tagged_here s.scope t.name)) (tag_further m s t h)
form_further m s d None h =
    then_on (SaysSame m s) (FurtherLocals m s) (specified s d.specifiers) _ (specified_further m s d h) (λ a g.
    answer_weaker (FurtherLocals m a.1) (FurtherLocals m s) (local_declared a.1 a.0 [] d.declarators)
    (λ b z. further_on m s a.1 b.1 (further_same m s a.1 h g.0.0 g.1) z)
    (all_further m a.1 a.0 [] d.declarators (continues_none m a.1 g.0.0.lawful, g.0.1)))

pub local_declaration_further : (m : ℕ) (s : State) (d : DeclarationTree) → IsLawfulState m s
    → OnAnswer (FurtherLocals m s) (local_declaration s d)
local_declaration_further m s d h = form_further m s d (lone_tag d.specifiers d.declarators) h
