-- Arguments, one after the other.
use Rattle.std.proofs.Common.{◌≡◌, ℕ, ◌+◌, ◌<◌, ◌≤◌, List, [], ◌∷◌, ◌++◌, length, drop, get_or, refl, sym, ap, ◌∙◌}
use Rattle.std.proofs.Common.{subst}
use Rattle.std.specs.Prelude.{Option, Bool, Result, IfOk}
use Rattle.std.proofs.lemmas.List.{append_assoc, append-nil, drop_more, drop_all}
use Rattle.tm_typed.specs.declared.expressions.Rvalue.{Rvalue}
use Rattle.tm_lattice.specs.declared.memory.NoMemory.{NoMemory}
use Rattle.tm_terms.specs.declared.places.Place.{Place}
use Rattle.tm_typed.specs.TypedTrees.{RvalueTrees, a_function_call, rvalue_tree, as_rvalues}
use Rattle.tm_typed.specs.TypeRows.{is_pointer_type}
use Rattle.tm_typed.specs.Files.{no_typed_function}
use Rattle.lowering.specs.concrete_steps.Places.{result_type}
use Rattle.tm_laid.specs.Layouts.{LaidTree}
use Rattle.lowering.specs.Built.{Building, temp_of}
use Rattle.body_builder.specs.declared.fragments.Wanted.{Wanted}
use Rattle.body_builder.specs.declared.fragments.Found.{Found}
use Rattle.body_builder.specs.declared.fragments.Wanted.TheVariants as Want
use Rattle.body_builder.specs.reading.Expressions.{Listed, Lists, call_ends, value_at, values_at}
use Rattle.body_builder.specs.Placing.{Outcome, Finds}

module _ (laid : LaidTree) (depth path : ℕ) where
  -- the arguments from this one on are left, behind those with these temporaries
  pub record HasLeft (xs : List Rvalue) (i : ℕ) (ts : List ℕ) (b : Building) (y : Listed) : Type 0 where
    pub at : (values_at laid depth path (as_rvalues (drop i xs)) b).at ≡ y.at
    pub temps : ts ++ (values_at laid depth path (as_rvalues (drop i xs)) b).temps ≡ y.temps

  pub left_more : (xs : List Rvalue) (i : ℕ) (d : Rvalue) (ts us : List ℕ) (t : Option ℕ) (b b1 : Building)
      (y : Listed) → i < length xs
      → b1 ≡ (value_at laid depth path (rvalue_tree (get_or xs i d)) Want.Value b).at
      → t ≡ (value_at laid depth path (rvalue_tree (get_or xs i d)) Want.Value b).temp
      → us ≡ ts ++ temp_of t ∷ [] → HasLeft xs i ts b y → HasLeft xs (i + 1) us b1 y
  left_more xs i d ts us t b b1 y lt eb et eu h =
      let x : Outcome = value_at laid depth path (rvalue_tree (get_or xs i d)) Want.Value b in
      let rest = as_rvalues (drop (i + 1) xs) in
      let more = ap (λ (zs : List Rvalue). values_at laid depth path (as_rvalues zs) b) (drop_more xs i d lt) in
      let same : values_at laid depth path rest b1 ≡ values_at laid depth path rest x.at = ap
      (λ (z : Building). values_at laid depth path rest z) eb in
      record {
        at = ap (λ (l : Listed). l.at) same ∙ (sym (ap (λ (l : Listed). l.at) more) ∙ h.at);
        temps = ap (λ (l : Listed). us ++ l.temps) same
            ∙ (ap (λ (vs : List ℕ). vs ++ (values_at laid depth path rest x.at).temps)
            (eu ∙ ap (λ v. ts ++ temp_of v ∷ []) et)
            ∙ (append_assoc ts (temp_of x.temp ∷ []) (values_at laid depth path rest x.at).temps
            ∙ (sym (ap (λ (l : Listed). ts ++ l.temps) more) ∙ h.temps)));
      }

  pub left_first : (xs : List Rvalue) (b : Building)
      → HasLeft xs 0 [] b (values_at laid depth path (as_rvalues xs) b)
  left_first xs b = record { at = refl; temps = refl }

  pub left_last : (xs : List Rvalue) (i : ℕ) (ts : List ℕ) (b : Building) (y : Listed) → length xs ≤ i
      → HasLeft xs i ts b y → (b ≡ y.at) × (ts ≡ y.temps)
  left_last xs i ts b y le h =
      let none = ap (λ (zs : List Rvalue). values_at laid depth path (as_rvalues zs) b) (drop_all i xs le) in (
        sym (ap (λ (l : Listed). l.at) none) ∙ h.at,
        sym (append-nil ts) ∙ (sym (ap (λ (l : Listed). ts ++ l.temps) none) ∙ h.temps),
      )

  -- a call, once its arguments are there
  pub call_found : (f site : ℕ) (p : Place) (w : Wanted) (es : RvalueTrees) (b b1 n : Building) (ts us : List ℕ)
      (pointer : Bool) (r : Result Found NoMemory)
      → pointer ≡ is_pointer_type (result_type laid (get_or laid.file.functions f no_typed_function))
      → Lists (values_at laid depth path es b) b1 ts → us ≡ ts
      → IfOk r (λ x. Finds (call_ends laid depth path w pointer site p us b1) n x)
      → IfOk r (λ x. Finds (value_at laid depth path (a_function_call f site es p) w b) n x)
  call_found f site p w es b b1 n ts us pointer r ep l eu h =
      let gives = is_pointer_type (result_type laid (get_or laid.file.functions f no_typed_function)) in
      let x = values_at laid depth path es b in
      let same : call_ends laid depth path w pointer site p us b1 ≡ value_at laid depth path (a_function_call f site es p) w b =
      ap (λ (q : Bool). call_ends laid depth path w q site p us b1) ep
      ∙ (ap (λ (vs : List ℕ). call_ends laid depth path w gives site p vs b1) (eu ∙ l.1)
      ∙ ap (λ (z : Building). call_ends laid depth path w gives site p x.temps z) l.0) in
      subst (λ (y : Outcome). IfOk r (λ x. Finds y n x)) same h
