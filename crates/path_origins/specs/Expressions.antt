-- What is noted of the edges of expressions, edge by edge as lowering places them: for their value; for their value
-- without an implied conversion around it; as a branch.
use Rattle.std.specs.Prelude.{ℕ, zero, suc, ◌+◌, Bool, true, false, cond, ◌&&◌, ◌||◌, List, [], ◌∷◌, ◌++◌, drop, get_or}
use Rattle.std.specs.Prelude.{None, is_some}
use Rattle.tm_terms.specs.declared.places.Place.{Place}
use Rattle.tm_cint.specs.declared.int_types.IntType.{IntType}
use Rattle.tm_cint.specs.declared.int_types.IntType.TheVariants as Ints
use Rattle.tm_typed.specs.declared.types.CType.{CType}
use Rattle.tm_typed.specs.declared.types.CType.TheVariants as Types
use Rattle.tm_typed.specs.declared.scopes.ObjectNumber.TheVariants as Numbers
use Rattle.tm_typed.specs.Types.{is_enumerated}
use Rattle.tm_typed.specs.Rules.{is_comparison}
use Rattle.tm_typed.specs.TypedTrees.{RvalueTree, a_constant, a_folded, a_null, a_load, an_address, a_structure}
use Rattle.tm_typed.specs.TypedTrees.{the_same, a_unary, a_binary, a_comparison_of_pointers, a_move, a_not, an_and}
use Rattle.tm_typed.specs.TypedTrees.{an_or, a_choice, an_assignment, a_compound, a_compound_move, a_unit_step}
use Rattle.tm_typed.specs.TypedTrees.{a_pointer_step, a_function_call, an_input_value, a_probe, a_comma}
use Rattle.tm_typed.specs.TypedTrees.{a_conversion, a_discard, LvalueTree, an_object, an_element, a_pointed_element}
use Rattle.tm_typed.specs.TypedTrees.{a_pointed, an_arrow, a_part, RvalueTrees, no_rvalues, and_rvalue, lvalue_place}
use Rattle.tm_laid.specs.TypeCells.{entry_of}
use Rattle.tm_laid.specs.Layouts.{LaidTree, callee, object_of, object_at}
use Rattle.body_builder.specs.concrete_steps.Places.{rvalue_place, is_pointer_scalar}
use Rattle.body_builder.specs.concrete_steps.NextAction.{function_at}
use Rattle.body_builder.specs.lowering.Table.{conversion, is_same_place, implied}
use Rattle.path_origins.specs.declared.origins.Form.TheVariants as Forms
use Rattle.path_origins.specs.declared.origins.Life.{Life}
use Rattle.path_origins.specs.Types.{given, type_of, differs, target_or, is_pointer, has_value, is_unsigned_by_some}
use Rattle.path_origins.specs.Types.{casts_number, is_signed_word, either}
use Rattle.path_origins.specs.Noted.{Noted, nothing, behind, span_of, both, sequenced, scoped, passing_if, one, one_if}
use Rattle.path_origins.specs.Noted.{enumerating_if, tests, called_body, stored}

-- how many arguments there are
abbrev pub count_of : RvalueTrees → ℕ
count_of no_rvalues = 0
count_of (and_rvalue e es) = suc (count_of es)

-- what is noted of an expression
pub record Walked : Type 0 where
  pub value : Noted
  pub bare : Noted
  pub fork : Noted

-- the type to which the pointers of a class point
abbrev pub pointed_by : CType → ℕ
pointed_by (Types.Pointer q) = q.number
pointed_by _ = 0

-- The signs `(` stand at these places, and the bodies of the paths that calls lead to have so many edges.
module _ (laid : LaidTree) (is_open : Place → Bool) (sizes : ℕ → ℕ) (path : ℕ) where
  -- ## How expressions end

  -- a value, where a pointer is tested once it is known to be usable
  abbrev pub tested : Bool → Place → Noted → Noted
  tested true p x = behind x (behind (one p Forms.Usable) (tests p (Forms.Test false)))
  tested false p x = behind x (tests p (Forms.Test false))

  abbrev pub valued : Bool → Place → Noted → Walked
  valued pointer p x = record { value = x; bare = x; fork = tested pointer p x }

  -- control goes one of two ways, and for a value 1 and 0 meet
  abbrev pub met : Place → Noted
  met p = behind (one p Forms.Skip) (one p Forms.Skip)

  abbrev pub decided : Place → Noted → Walked
  decided p x =
      let v = behind x (behind (one p Forms.Constant) (behind (one p Forms.Constant) (met p))) in
      record { value = v; bare = v; fork = x }

  -- a conversion, where it makes an operation
  abbrev pub converted_if : Bool → Place → Noted → Noted
  converted_if is p x = behind x (one_if is p Forms.Conversion)

  -- the implied conversions of both operands
  abbrev pub implied_both : RvalueTree → RvalueTree → Noted → Noted
  implied_both l r x =
      converted_if (is_some (implied r)) (rvalue_place r) (converted_if (is_some (implied l)) (rvalue_place l) x)

  -- an operator, which as a branch is a test where it compares; an operand may be a value of an enumeration
  abbrev pub operated : Bool → Bool → Place → Noted → Walked
  operated true b p x = record {
    value = behind x (one p (Forms.Binary b));
    bare = behind x (one p (Forms.Binary b));
    fork = behind x (tests p (Forms.Test b));
  }
  operated false b p x = valued false p (behind x (one p (Forms.Binary b)))

  abbrev pub compared : Place → Noted → Walked
  compared p x =
      let y = behind x (behind (one p Forms.Usable) (one p Forms.Usable)) in
      record {
        value = behind y (one p Forms.Equality);
        bare = behind y (one p Forms.Equality);
        fork = behind y (tests p Forms.EqualityTest);
      }

  -- The operator of `op=`, `++` or `--` behind its operands: it converts both, and what it stores. An operand may be a
  -- value of an enumeration.
  abbrev pub changed : Bool → Bool → Place → Bool → Place → Bool → Place → Noted → Noted
  changed b loaded at operand behind_it back p x =
      stored p (converted_if back p (behind (converted_if operand behind_it (converted_if loaded at x))
      (one p (Forms.Binary b))))

  -- whether what an operator that works in a type changes is an enumeration
  abbrev pub is_changed : IntType → LvalueTree → Bool
  is_changed of l = is_signed_word of && is_enumerated (type_of laid is_open path l).number

  -- ## Operands

  -- the right side of `op=` stands against the address, and against what is loaded of it
  abbrev pub against : Place → Noted → Noted → Noted → Noted
  against p a load r =
      let x = behind (behind a load) r in
      record x {
        operands = x.operands ++ record {
          place = p;
          first = span_of 0 a;
          second = span_of (behind a load).size r;
        } ∷ [];
        reloads = x.reloads ++ record {
          place = p;
          load = a.size;
          right = span_of (behind a load).size r;
        } ∷ [];
      }

  -- so many arguments are stored
  abbrev pub arguments_stored : ℕ → Place → Noted
  arguments_stored zero p = nothing
  arguments_stored (suc n) p = behind (behind (one p Forms.Base) (one p Forms.Store)) (arguments_stored n p)

  -- the life of a parameter, which begins with the store of its argument and goes on to the end of the call (C99
  -- 6.2.4p5, 6.5.2.2p4)
  abbrev pub parameter : ℕ → ℕ → Life
  parameter to k = record {
    object = object_of laid to (Numbers.Local k);
    place = (object_at laid (object_of laid to (Numbers.Local k))).place;
    begins = suc (k + k);
    scope = record { first = 0; end = 0 };
    initialiser = None;
  }

  -- so many parameters, from this one on
  abbrev pub parameters : ℕ → ℕ → ℕ → List Life
  parameters to k zero = []
  parameters to k (suc n) = parameter to k ∷ parameters to (suc k) n

  -- a call: its arguments, their stores, and the body of the path
  abbrev pub called : ℕ → Bool → ℕ → Place → Noted → Noted
  called to used count p arguments =
      let x = behind (arguments_stored count p) (called_body (sizes to) to used) in
      behind (sequenced arguments) (scoped (record x { unended = parameters to 0 count }))

  abbrev mutual
    -- an expression, whose value is used or is not
    pub walked : Bool → RvalueTree → Walked
    walked used (a_constant t z p) = valued false p (one p Forms.Constant)
    walked used (a_folded z e) = record {
      value = one (rvalue_place e) Forms.Constant;
      bare = one (rvalue_place e) Forms.Constant;
      fork = (walked true e).fork;
    }
    walked used (a_null p) = valued true p (one p Forms.Constant)
    walked used (a_load s v l) = valued (is_pointer_scalar s) (lvalue_place l)
        (behind (addressed l) (one (lvalue_place l) Forms.Load))
    walked used (an_address l p) = valued true p (addressed l)
    walked used (a_structure l) = valued false (lvalue_place l) (addressed l)
    walked used (the_same e p) = valued (is_pointer (given laid is_open path e)) p
        (enumerating_if (casts_number (is_open p) (given laid is_open path e)) p (walked true e).value)
    walked used (a_unary o t e p) = valued false p (behind (walked true e).value
        (one p (Forms.Unary (is_unsigned_by_some (given laid is_open path e)))))
    walked used (a_binary op t l r p) =
        operated (is_comparison op) (either (given laid is_open path l) (given laid is_open path r)) p
        (implied_both l r (both p (walked true l).bare (walked true r).bare))
    walked used (a_comparison_of_pointers equal l r p) =
        compared p (both p (walked true l).value (walked true r).value)
    walked used (a_move minus cells false e i p) = valued true p
        (behind (both p (walked true e).value (walked true i).value)
        (one p (Forms.Move (target_or (given laid is_open path e) 0))))
    walked used (a_move minus cells true e i p) = valued true p
        (behind (both p (walked true i).value (walked true e).value)
        (one p (Forms.Move (target_or (given laid is_open path e) 0))))
    walked used (a_not e p) = decided p (walked true e).fork
    walked used (an_and l r p) =
        decided p (behind (behind (sequenced (walked true l).fork) (walked true r).fork) (met p))
    walked used (an_or l r p) =
        decided p (behind (behind (sequenced (walked true l).fork) (walked true r).fork) (met p))
    walked used (a_choice c x y p) = valued (is_pointer (given laid is_open path x)) p
        (behind (sequenced (walked true c).fork)
        (behind (behind (walked used x).value (one_if (has_value (given laid is_open path x)) p Forms.Copy))
        (behind (behind (walked used y).value (one_if (has_value (given laid is_open path x)) p Forms.Copy)) (met p))))
    walked used (an_assignment s l e p) = valued (is_pointer_scalar s) p
        (stored p (both p (addressed l) (passing_if (differs (given laid is_open path e)
        (entry_of laid.file (type_of laid is_open path l).number).ctype) (rvalue_place e)
        (walked true e).value)))
    walked used (a_compound op cell of volatile l e p) = valued false p
        (changed (is_changed of l || is_unsigned_by_some (given laid is_open path e))
        (is_some (conversion cell of)) (lvalue_place l) (is_some (implied e)) (rvalue_place e)
        (is_some (conversion of cell)) p
        (against p (addressed l) (one (lvalue_place l) Forms.Load) (walked true e).bare))
    walked used (a_compound_move minus cells class l e p) = valued true p
        (stored p (behind (against p (addressed l) (one (lvalue_place l) Forms.Load) (walked true e).value)
        (one p (Forms.Move (pointed_by (entry_of laid.file class).ctype)))))
    walked used (a_unit_step s cell of volatile l p) = valued false p
        (changed (is_changed of l) (is_some (conversion cell of)) (lvalue_place l)
        (is_some (conversion Ints.Int of)) p
        (is_some (conversion of cell)) p
        (behind (behind (addressed l) (one (lvalue_place l) Forms.Load)) (one p Forms.Constant)))
    walked used (a_pointer_step s cells class l p) = valued true p
        (stored p (behind (behind (behind (addressed l) (one (lvalue_place l) Forms.Load))
        (one p Forms.Constant)) (one p (Forms.Move (pointed_by (entry_of laid.file class).ctype)))))
    walked used (a_function_call f site es p) =
        let to = callee laid path site in
        valued (is_pointer (given laid is_open path (a_function_call f site es p))) p
        (called to used (count_of es) p (all_arguments p (function_at laid to).parameters true nothing es))
    walked used (an_input_value low high p) = valued false p (one p Forms.Any)
    walked used (a_probe m p) = valued false p (one p Forms.Probe)
    walked used (a_comma l r p) = valued (is_pointer (given laid is_open path r)) p
        (behind (sequenced (walked false l).value) (walked used r).value)
    walked used (a_conversion from to e p) =
        let v = converted_if (is_some (conversion from to)) p (walked true e).value in
        record {
          value = v;
          bare = cond (is_same_place p (rvalue_place e)) (walked true e).value v;
          fork = tested false p v;
        }
    walked used (a_discard e p) = valued false p (walked false e).value

    -- the address of an lvalue
    pub addressed : LvalueTree → Noted
    addressed (an_object o p) = one p Forms.Base
    addressed (an_element l i n c p) = behind (both p (addressed l) (walked true i).value) (one p Forms.Element)
    addressed (a_pointed_element e i c t p) =
        behind (both p (walked true e).value (walked true i).value)
        (behind (one p (Forms.Move t)) (one p Forms.Follow))
    addressed (a_pointed e t p) = behind (walked true e).value (one p Forms.Follow)
    addressed (an_arrow e t c p) =
        behind (walked true e).value (behind (one p Forms.Follow) (one p Forms.Part))
    addressed (a_part l c p) = behind (addressed l) (one p Forms.Part)

    -- arguments, of which each stands against those before it (C99 6.5.2.2p10), with the types of the parameters
    pub all_arguments : Place → List ℕ → Bool → Noted → RvalueTrees → Noted
    all_arguments p types first before no_rvalues = before
    all_arguments p types first before (and_rvalue e es) =
        let x = passing_if (differs (given laid is_open path e) (entry_of laid.file (get_or types 0 0)).ctype)
        (rvalue_place e) (walked true e).value in
        all_arguments p (drop 1 types) false (cond first x (both p before x)) es
