-- A typed expression mentions what its text uses, and its calls stand at their sites.
use Rattle.std.proofs.Common.{◌≡◌, ℕ, suc, List, [], ◌∷◌, ◌++◌, refl, subst, arith}
use Rattle.std.specs.Prelude.{◌+◌, Bool, true, false, slice_get, Option, Some, Result, Ok, Err}
use Rattle.tm_laid.specs.tm_cint.declared.operators.BinOp.TheVariants as Ops
use Rattle.tm_laid.specs.tm_terms.declared.places.Place.{Place}
use Rattle.tm_laid.specs.tm_terms.declared.tokens.Name.{Name}
use Rattle.tm_laid.specs.tm_terms.declared.refusals.Kind.TheVariants as Kinds
use Rattle.tm_laid.specs.tm_terms.declared.refusals.Refusal.{Refusal}
use Rattle.tm_laid.specs.tm_terms.declared.exprs.Binary.{Binary}
use Rattle.tm_laid.specs.tm_terms.declared.exprs.Binary.TheVariants as Binaries
use Rattle.tm_laid.specs.tm_terms.declared.exprs.Infix.{Infix}
use Rattle.tm_laid.specs.tm_terms.declared.exprs.Infix.TheVariants as Infixes
use Rattle.tm_laid.specs.tm_terms.declared.exprs.Prefix.{Prefix}
use Rattle.tm_laid.specs.tm_terms.declared.exprs.Prefix.TheVariants as Prefixes
use Rattle.tm_laid.specs.tm_terms.declared.exprs.Postfix.{Postfix}
use Rattle.tm_laid.specs.tm_terms.declared.exprs.Postfix.TheVariants as Postfixes
use Rattle.tm_laid.specs.tm_terms.declared.exprs.Access.{Access}
use Rattle.tm_laid.specs.tm_terms.declared.exprs.Access.TheVariants as Accesses
use Rattle.tm_laid.specs.tm_terms.ExprTrees.{Tree, a_name, an_integer, a_character, in_parentheses, an_input}
use Rattle.tm_laid.specs.tm_terms.ExprTrees.{an_islocked, a_call, a_prefix, a_sizeof_type, a_cast, an_infix}
use Rattle.tm_laid.specs.tm_terms.ExprTrees.{a_conditional, a_subscript, a_member, a_postfix, Arguments, no_arguments}
use Rattle.tm_laid.specs.tm_terms.ExprTrees.{and_argument}
use Rattle.tm_laid.specs.tm_typed.declared.scopes.Named.{Named}
use Rattle.tm_laid.specs.tm_typed.declared.scopes.Named.TheVariants as Names
use Rattle.tm_laid.specs.tm_typed.declared.scopes.ObjectNumber.TheVariants as Objects
use Rattle.tm_laid.specs.tm_typed.declared.uses.Use.{Use}
use Rattle.tm_laid.specs.tm_typed.declared.uses.Used.{Used}
use Rattle.tm_laid.specs.tm_typed.Scopes.{Scope, named}
use Rattle.tm_laid.specs.tm_typed.TypedTrees.{Rated, OperandTree}
use Rattle.tm_laid.specs.tm_typed.Refusals.{then_with, row}
use Rattle.tm_laid.specs.tm_typed.Operands.{valued}
use Rattle.tm_laid.specs.tm_typed.Rules.{name_rules, constant_rules, bound, input_rules, islocked_rules}
use Rattle.tm_laid.specs.tm_typed.Rules.{sizeof_type_rules, conditional_rules, cast_rules, callee, call_rules}
use Rattle.tm_laid.specs.tm_typed.Rules.{subscript_rules}
use Rattle.tm_laid.specs.tm_typed.Typing.{CastTypes, binary_sign, compound_sign, infix_rules, prefix_rules}
use Rattle.tm_laid.specs.tm_typed.Typing.{postfix_rules, member_rules, calls, argument_calls, typing, typing_all}
use Rattle.tm_laid.specs.tm_typed.Uses.{named_use, called_use, prefix_uses, uses_of, argument_uses}
use Rattle.tm_laid.specs.tm_typed.WellTyped.{OnAnswer}
use Rattle.typing_laws.proofs.Steps.{then_on, then_any}
use Rattle.typed_file_laws.specs.Mentions.{Mentions, OperandMentions}
use Rattle.typed_file_laws.proofs.RuleSteps.{on_row}
use Rattle.typed_file_laws.proofs.MentionRules.{valued_mentions, IsNamed, name_mentions, constant_mentions, input_mentions, islocked_mentions, address_mentions, dereference_mentions, not_mentions, minus_mentions, complement_mentions, plus_mentions, sizeof_type_mentions, sizeof_mentions, binary_mentions, logical_mentions, conditional_mentions, comma_mentions, assignment_mentions, step_mentions, compound_mentions, cast_mentions, RatedMention, call_mentions, subscript_mentions, dot_mentions, arrow_mentions}

-- ## Uses and their calls

abbrev pub calls_of_use : Used → ℕ
calls_of_use (Used.Static k) = 0
calls_of_use (Used.Function f) = 1

-- how many of some uses are calls
abbrev pub call_count : List Use → ℕ
call_count [] = 0
call_count (u ∷ us) = calls_of_use u.used + call_count us

-- an object that passes, or a function that stands there in the list
abbrev pub IsUsed : (ℕ → Bool) → List ℕ → ℕ → Used → Type 0
IsUsed o c n (Used.Static k) = o k ≡ true
IsUsed o c n (Used.Function f) = slice_get c n ≡ Some f

-- uses from this site on
abbrev pub UsesStand : (ℕ → Bool) → List ℕ → ℕ → List Use → Type 0
UsesStand o c n [] = Unit {0}
UsesStand o c n (u ∷ us) = IsUsed o c n u.used × UsesStand o c (n + calls_of_use u.used) us

pub count_append : (xs ys : List Use) → call_count (xs ++ ys) ≡ call_count xs + call_count ys
count_append [] ys = omega arith
count_append (x ∷ xs) ys = let e = count_append xs ys in omega (arith, e)

pub stand_append : (o : ℕ → Bool) (c : List ℕ) (n : ℕ) (xs ys : List Use) → UsesStand o c n (xs ++ ys) → UsesStand o c n xs × UsesStand o c (n + call_count xs) ys
stand_append o c n [] ys h = (tt, (let e : n ≡ n + 0 = omega arith in let P : ℕ → Type 0 = λ k. UsesStand o c k ys in subst P e h))
stand_append o c n (x ∷ xs) ys h =
    let k : ℕ = calls_of_use x.used in
    let i : UsesStand o c (n + k) xs × UsesStand o c (n + k + call_count xs) ys = stand_append o c (n + k) xs ys h.1 in
    ((h.0, i.0), (let e : n + k + call_count xs ≡ n + (k + call_count xs) = omega arith in let P : ℕ → Type 0 = λ j. UsesStand o c j ys in subst P e i.1))

pub at_site : (o : ℕ → Bool) (c : List ℕ) (m n : ℕ) (us : List Use) → m ≡ n → UsesStand o c m us → UsesStand o c n us
at_site o c m n us e h = let P : ℕ → Type 0 = λ j. UsesStand o c j us in subst P e h

named_count : (p : Place) (n : Option Named) → call_count (named_use p n) ≡ 0
named_count p (Some (Names.Object (Objects.Static k) q)) = omega arith
named_count p _ = refl

named_stands : (o : ℕ → Bool) (c : List ℕ) (site : ℕ) (p : Place) (n : Option Named) → UsesStand o c site (named_use p n) → IsNamed o c n
named_stands o c site p (Some (Names.Object (Objects.Static k) q)) h = h.0
named_stands o c site p _ h = tt

-- what follows of each answer follows of the answer
under : {A : Type 0} (U : Type 0) (P : A → Type 0) (r : Result A Refusal) → (U → OnAnswer P r) → OnAnswer (λ a. U → P a) r
under U P (Err e) f = tt
under U P (Ok a) f = f

with_fact : {A : Type 0} (F : Type 0) (P : A → Type 0) (r : Result A Refusal) → F → OnAnswer P r → OnAnswer (λ a. F × P a) r
with_fact F P (Err e) x h = tt
with_fact F P (Ok a) x h = (x, h)

module _ (o : ℕ → Bool) (c : List ℕ) (types : CastTypes) (scope : Scope) where
  -- the calls of the text are counted, and what it uses is mentioned
  abbrev pub Told : ℕ → List Use → ℕ → OperandTree → Type 0
  Told site us n a = (call_count us ≡ n) × (UsesStand o c site us → OperandMentions o c a)

  abbrev AllTold : ℕ → List Use → ℕ → List Rated → Type 0
  AllTold site us n vs = (call_count us ≡ n) × (UsesStand o c site us → RatedMention o c vs)

  tells : (site : ℕ) (us : List Use) (n : ℕ) (r : Result OperandTree Refusal) → call_count us ≡ n → (UsesStand o c site us → OnAnswer (OperandMentions o c) r) → OnAnswer (Told site us n) r
  tells site us n r e f = with_fact (call_count us ≡ n) (λ a. UsesStand o c site us → OperandMentions o c a) r e (under (UsesStand o c site us) (OperandMentions o c) r f)

  sign_mentions : (op : Binary) (p : Place) (l r : Rated) → Mentions o c l.value → Mentions o c r.value → OnAnswer (OperandMentions o c) (binary_sign scope op p l r)
  sign_mentions Binaries.And p l r h k = logical_mentions o c true p l r h k
  sign_mentions Binaries.Or p l r h k = logical_mentions o c false p l r h k
  sign_mentions Binaries.Multiply p l r h k = binary_mentions o c scope Ops.Mul p l r h k
  sign_mentions Binaries.Divide p l r h k = binary_mentions o c scope Ops.Div p l r h k
  sign_mentions Binaries.Remainder p l r h k = binary_mentions o c scope Ops.Rem p l r h k
  sign_mentions Binaries.Add p l r h k = binary_mentions o c scope Ops.Add p l r h k
  sign_mentions Binaries.Subtract p l r h k = binary_mentions o c scope Ops.Sub p l r h k
  sign_mentions Binaries.ShiftLeft p l r h k = binary_mentions o c scope Ops.Shl p l r h k
  sign_mentions Binaries.ShiftRight p l r h k = binary_mentions o c scope Ops.Shr p l r h k
  sign_mentions Binaries.Less p l r h k = binary_mentions o c scope Ops.Lt p l r h k
  sign_mentions Binaries.Greater p l r h k = binary_mentions o c scope Ops.Gt p l r h k
  sign_mentions Binaries.LessEqual p l r h k = binary_mentions o c scope Ops.Le p l r h k
  sign_mentions Binaries.GreaterEqual p l r h k = binary_mentions o c scope Ops.Ge p l r h k
  sign_mentions Binaries.Equal p l r h k = binary_mentions o c scope Ops.Eq p l r h k
  sign_mentions Binaries.NotEqual p l r h k = binary_mentions o c scope Ops.Ne p l r h k
  sign_mentions Binaries.BitAnd p l r h k = binary_mentions o c scope Ops.And p l r h k
  sign_mentions Binaries.BitXor p l r h k = binary_mentions o c scope Ops.Xor p l r h k
  sign_mentions Binaries.BitOr p l r h k = binary_mentions o c scope Ops.Or p l r h k

  compound_sign_mentions : (op : Binary) (p : Place) (a : OperandTree) (v : Rated) → OperandMentions o c a → Mentions o c v.value → OnAnswer (OperandMentions o c) (compound_sign scope op p a v)
  compound_sign_mentions Binaries.Multiply p a v h k = compound_mentions o c scope Ops.Mul p a v h k
  compound_sign_mentions Binaries.Divide p a v h k = compound_mentions o c scope Ops.Div p a v h k
  compound_sign_mentions Binaries.Remainder p a v h k = compound_mentions o c scope Ops.Rem p a v h k
  compound_sign_mentions Binaries.Add p a v h k = compound_mentions o c scope Ops.Add p a v h k
  compound_sign_mentions Binaries.Subtract p a v h k = compound_mentions o c scope Ops.Sub p a v h k
  compound_sign_mentions Binaries.ShiftLeft p a v h k = compound_mentions o c scope Ops.Shl p a v h k
  compound_sign_mentions Binaries.ShiftRight p a v h k = compound_mentions o c scope Ops.Shr p a v h k
  compound_sign_mentions Binaries.BitAnd p a v h k = compound_mentions o c scope Ops.And p a v h k
  compound_sign_mentions Binaries.BitXor p a v h k = compound_mentions o c scope Ops.Xor p a v h k
  compound_sign_mentions Binaries.BitOr p a v h k = compound_mentions o c scope Ops.Or p a v h k
  compound_sign_mentions op p a v h k = tt

  infix_mentions : (op : Infix) (p : Place) (a b : OperandTree) → OperandMentions o c a → OperandMentions o c b → OnAnswer (OperandMentions o c) (infix_rules scope op p a b)
  infix_mentions Infixes.Comma p a b h k = comma_mentions o c p (valued scope a) (valued scope b) (valued_mentions o c scope a h) (valued_mentions o c scope b k)
  infix_mentions Infixes.Assign p a b h k = assignment_mentions o c scope p a (valued scope b) h (valued_mentions o c scope b k)
  infix_mentions (Infixes.AssignBy op) p a b h k = compound_sign_mentions op p a (valued scope b) h (valued_mentions o c scope b k)
  infix_mentions (Infixes.Binary op) p a b h k = sign_mentions op p (valued scope a) (valued scope b) (valued_mentions o c scope a h) (valued_mentions o c scope b k)

  prefix_mentions : (op : Prefix) (p : Place) (a : OperandTree) → OperandMentions o c a → OnAnswer (OperandMentions o c) (prefix_rules scope op p a)
  prefix_mentions Prefixes.Increment p a h = step_mentions o c scope (record { minus = false; postfix = false }) p a h
  prefix_mentions Prefixes.Decrement p a h = step_mentions o c scope (record { minus = true; postfix = false }) p a h
  prefix_mentions Prefixes.Address p a h = address_mentions o c p a h
  prefix_mentions Prefixes.Dereference p a h = let v : Rated = valued scope a in dereference_mentions o c scope p v v.sort (valued_mentions o c scope a h)
  prefix_mentions Prefixes.Plus p a h = let v : Rated = valued scope a in plus_mentions o c p v v.sort (valued_mentions o c scope a h)
  prefix_mentions Prefixes.Minus p a h = let v : Rated = valued scope a in minus_mentions o c p v v.sort (valued_mentions o c scope a h)
  prefix_mentions Prefixes.Complement p a h = let v : Rated = valued scope a in complement_mentions o c p v v.sort (valued_mentions o c scope a h)
  prefix_mentions Prefixes.Not p a h = not_mentions o c p (valued scope a) (valued_mentions o c scope a h)
  prefix_mentions Prefixes.Sizeof p a h = sizeof_mentions o c scope p a

  postfix_mentions : (op : Postfix) (p : Place) (a : OperandTree) → OperandMentions o c a → OnAnswer (OperandMentions o c) (postfix_rules scope op p a)
  postfix_mentions Postfixes.Increment p a h = step_mentions o c scope (record { minus = false; postfix = true }) p a h
  postfix_mentions Postfixes.Decrement p a h = step_mentions o c scope (record { minus = true; postfix = true }) p a h

  member_mentions : (access : Access) (p : Place) (a : OperandTree) (n : Name) (q : Place) → OperandMentions o c a → OnAnswer (OperandMentions o c) (member_rules scope access p a n q)
  member_mentions Accesses.Dot p a n q h = dot_mentions o c scope p a n q h
  member_mentions Accesses.Arrow p a n q h = let v : Rated = valued scope a in arrow_mentions o c scope p v v.sort n q (valued_mentions o c scope a h)

  -- the operand of `sizeof` is not evaluated
  prefix_told : (site : ℕ) (op : Prefix) (us : List Use) (n : ℕ) (p : Place) (r : Result OperandTree Refusal) → OnAnswer (Told site us n) r
      → OnAnswer (Told site (prefix_uses op us) (Rattle.tm_laid.specs.tm_typed.Typing.prefix_calls op n)) (then_with r (λ a. prefix_rules scope op p a))
  prefix_told site Prefixes.Sizeof us n p r h = then_any (Told site [] 0) r (λ a. prefix_rules scope Prefixes.Sizeof p a) (λ a. tells site [] 0 (prefix_rules scope Prefixes.Sizeof p a) refl (λ u. sizeof_mentions o c scope p a))
  prefix_told site Prefixes.Increment us n p r h = then_on (Told site us n) (Told site us n) r _ h (λ a k. tells site us n (prefix_rules scope Prefixes.Increment p a) k.0 (λ u. prefix_mentions Prefixes.Increment p a (k.1 u)))
  prefix_told site Prefixes.Decrement us n p r h = then_on (Told site us n) (Told site us n) r _ h (λ a k. tells site us n (prefix_rules scope Prefixes.Decrement p a) k.0 (λ u. prefix_mentions Prefixes.Decrement p a (k.1 u)))
  prefix_told site Prefixes.Address us n p r h = then_on (Told site us n) (Told site us n) r _ h (λ a k. tells site us n (prefix_rules scope Prefixes.Address p a) k.0 (λ u. prefix_mentions Prefixes.Address p a (k.1 u)))
  prefix_told site Prefixes.Dereference us n p r h = then_on (Told site us n) (Told site us n) r _ h (λ a k. tells site us n (prefix_rules scope Prefixes.Dereference p a) k.0 (λ u. prefix_mentions Prefixes.Dereference p a (k.1 u)))
  prefix_told site Prefixes.Plus us n p r h = then_on (Told site us n) (Told site us n) r _ h (λ a k. tells site us n (prefix_rules scope Prefixes.Plus p a) k.0 (λ u. prefix_mentions Prefixes.Plus p a (k.1 u)))
  prefix_told site Prefixes.Minus us n p r h = then_on (Told site us n) (Told site us n) r _ h (λ a k. tells site us n (prefix_rules scope Prefixes.Minus p a) k.0 (λ u. prefix_mentions Prefixes.Minus p a (k.1 u)))
  prefix_told site Prefixes.Complement us n p r h = then_on (Told site us n) (Told site us n) r _ h (λ a k. tells site us n (prefix_rules scope Prefixes.Complement p a) k.0 (λ u. prefix_mentions Prefixes.Complement p a (k.1 u)))
  prefix_told site Prefixes.Not us n p r h = then_on (Told site us n) (Told site us n) r _ h (λ a k. tells site us n (prefix_rules scope Prefixes.Not p a) k.0 (λ u. prefix_mentions Prefixes.Not p a (k.1 u)))

  -- a call, of what the name names
  call_told : (site : ℕ) (p : Place) (x : Option Named) (us : List Use) (n : ℕ) (r : Result (List Rated) Refusal) → OnAnswer (AllTold (suc site) us n) r
      → OnAnswer (Told site (called_use p x ++ us) (suc n)) (then_with (callee p x) (λ g. then_with r (λ vs. call_rules scope p site vs g)))
  call_told site p (Some (Names.Object y q)) us n r h = then_any (Told site us (suc n)) r (λ vs. call_rules scope p site vs (Names.Object y q)) (λ vs. tt)
  call_told site p (Some Names.Task) us n r h = then_any (Told site us (suc n)) r (λ vs. call_rules scope p site vs Names.Task) (λ vs. tt)
  call_told site p (Some (Names.Enumerator z)) us n r h = then_any (Told site us (suc n)) r (λ vs. call_rules scope p site vs (Names.Enumerator z)) (λ vs. tt)
  call_told site p (Some (Names.Function f)) us n r h =
      then_on (AllTold (suc site) us n) (Told site (called_use p (Some (Names.Function f)) ++ us) (suc n)) r (λ vs. call_rules scope p site vs (Names.Function f)) h (λ vs k.
      tells site (called_use p (Some (Names.Function f)) ++ us) (suc n) (call_rules scope p site vs (Names.Function f)) (let e = k.0 in omega (arith, e)) (λ u.
      call_mentions o c scope p site vs (Names.Function f) u.0 (k.1 (at_site o c (site + 1) (suc site) us (omega arith) u.1))))
  call_told site p _ us n r h = tt

  mutual
    pub typing_told : (site : ℕ) (t : Tree) → OnAnswer (Told site (uses_of scope t) (calls t)) (typing types scope site t)
    typing_told site (a_name n p) = tells site (named_use p (named scope n)) 0 (name_rules p (named scope n)) (named_count p (named scope n)) (λ u. name_mentions o c p (named scope n) (named_stands o c site p (named scope n) u))
    typing_told site (an_integer k p) = tells site [] 0 (constant_rules k p) refl (λ u. constant_mentions o c k p)
    typing_told site (a_character z p) = (refl, λ u. tt)
    typing_told site (in_parentheses t) = typing_told site t
    typing_told site (an_input low high p) =
        let us : List Use = uses_of scope low ++ uses_of scope high in
        let n : ℕ = calls low + calls high in
        then_on (Told site (uses_of scope low) (calls low)) (Told site us n) (typing types scope site low) _ (typing_told site low) (λ a h.
        then_any (Told site us n) (bound (valued scope a)) (λ x. then_with (typing types scope (site + calls low) high) (λ b. then_with (bound (valued scope b)) (λ y. input_rules p x y))) (λ x.
        then_on (Told (site + calls low) (uses_of scope high) (calls high)) (Told site us n) (typing types scope (site + calls low) high) _ (typing_told (site + calls low) high) (λ b k.
        then_any (Told site us n) (bound (valued scope b)) (λ y. input_rules p x y) (λ y.
        tells site us n (input_rules p x y) (let e = h.0 in let f = k.0 in let g = count_append (uses_of scope low) (uses_of scope high) in omega (arith, e, f, g)) (λ u. input_mentions o c p x y)))))
    typing_told site (an_islocked m q p) = tells site [] 0 (islocked_rules p q (named scope m)) refl (λ u. islocked_mentions o c p q (named scope m))
    typing_told site (a_call f args p) = call_told site p (named scope f) (argument_uses scope args) (argument_calls args) (typing_all types scope (suc site) args) (all_told (suc site) args)
    typing_told site (a_prefix op t p) = prefix_told site op (uses_of scope t) (calls t) p (typing types scope site t) (typing_told site t)
    typing_told site (a_sizeof_type n p) =
        then_any (Told site [] 0) (types scope n p) (λ to. row to.is_left_out Kinds.Unsupported p (sizeof_type_rules scope p to.of.number)) (λ to.
        tells site [] 0 (row to.is_left_out Kinds.Unsupported p (sizeof_type_rules scope p to.of.number)) refl (λ u.
        on_row (OperandMentions o c) to.is_left_out Kinds.Unsupported p (sizeof_type_rules scope p to.of.number) (λ e. sizeof_type_mentions o c scope p to.of.number)))
    typing_told site (a_cast n t p) =
        let us : List Use = uses_of scope t in
        then_any (Told site us (calls t)) (types scope n p) (λ to. then_with (typing types scope site t) (λ a. cast_rules scope p to (valued scope a))) (λ to.
        then_on (Told site us (calls t)) (Told site us (calls t)) (typing types scope site t) _ (typing_told site t) (λ a h.
        tells site us (calls t) (cast_rules scope p to (valued scope a)) h.0 (λ u. cast_mentions o c scope p to (valued scope a) (valued_mentions o c scope a (h.1 u)))))
    typing_told site (an_infix l op p r) =
        let us : List Use = uses_of scope l ++ uses_of scope r in
        let n : ℕ = calls l + calls r in
        then_on (Told site (uses_of scope l) (calls l)) (Told site us n) (typing types scope site l) _ (typing_told site l) (λ a h.
        then_on (Told (site + calls l) (uses_of scope r) (calls r)) (Told site us n) (typing types scope (site + calls l) r) _ (typing_told (site + calls l) r) (λ b k.
        tells site us n (infix_rules scope op p a b) (let e = h.0 in let f = k.0 in let g = count_append (uses_of scope l) (uses_of scope r) in omega (arith, e, f, g)) (λ u.
        let parts = stand_append o c site (uses_of scope l) (uses_of scope r) u in
        infix_mentions op p a b (h.1 parts.0) (k.1 (at_site o c (site + call_count (uses_of scope l)) (site + calls l) (uses_of scope r) (let e = h.0 in omega (arith, e)) parts.1)))))
    typing_told site (a_conditional q p x y) =
        let uq : List Use = uses_of scope q in let ux : List Use = uses_of scope x in let uy : List Use = uses_of scope y in
        let us : List Use = uq ++ (ux ++ uy) in
        let n : ℕ = calls q + calls x + calls y in
        then_on (Told site uq (calls q)) (Told site us n) (typing types scope site q) _ (typing_told site q) (λ a h.
        then_on (Told (site + calls q) ux (calls x)) (Told site us n) (typing types scope (site + calls q) x) _ (typing_told (site + calls q) x) (λ b k.
        then_on (Told (site + calls q + calls x) uy (calls y)) (Told site us n) (typing types scope (site + calls q + calls x) y) _ (typing_told (site + calls q + calls x) y) (λ d l.
        tells site us n (conditional_rules scope p (valued scope a) (valued scope b) (valued scope d))
        (let e = h.0 in let f = k.0 in let g = l.0 in let i = count_append uq (ux ++ uy) in let j = count_append ux uy in omega (arith, e, f, g, i, j)) (λ u.
        let first = stand_append o c site uq (ux ++ uy) u in
        let e = h.0 in let f = k.0 in
        let second = stand_append o c (site + calls q) ux uy (at_site o c (site + call_count uq) (site + calls q) (ux ++ uy) (omega (arith, e)) first.1) in
        conditional_mentions o c scope p (valued scope a) (valued scope b) (valued scope d) (valued_mentions o c scope a (h.1 first.0)) (valued_mentions o c scope b (k.1 second.0))
        (valued_mentions o c scope d (l.1 (at_site o c (site + calls q + call_count ux) (site + calls q + calls x) uy (omega (arith, f)) second.1)))))))
    typing_told site (a_subscript t p i) =
        let us : List Use = uses_of scope t ++ uses_of scope i in
        let n : ℕ = calls t + calls i in
        then_on (Told site (uses_of scope t) (calls t)) (Told site us n) (typing types scope site t) _ (typing_told site t) (λ a h.
        then_on (Told (site + calls t) (uses_of scope i) (calls i)) (Told site us n) (typing types scope (site + calls t) i) _ (typing_told (site + calls t) i) (λ b k.
        tells site us n (subscript_rules scope p a (valued scope b)) (let e = h.0 in let f = k.0 in let g = count_append (uses_of scope t) (uses_of scope i) in omega (arith, e, f, g)) (λ u.
        let parts = stand_append o c site (uses_of scope t) (uses_of scope i) u in
        subscript_mentions o c scope p a (valued scope b) (h.1 parts.0)
        (valued_mentions o c scope b (k.1 (at_site o c (site + call_count (uses_of scope t)) (site + calls t) (uses_of scope i) (let e = h.0 in omega (arith, e)) parts.1))))))
    typing_told site (a_member t access p m q) =
        let us : List Use = uses_of scope t in
        then_on (Told site us (calls t)) (Told site us (calls t)) (typing types scope site t) _ (typing_told site t) (λ a h.
        tells site us (calls t) (member_rules scope access p a m q) h.0 (λ u. member_mentions access p a m q (h.1 u)))
    typing_told site (a_postfix t op p) =
        let us : List Use = uses_of scope t in
        then_on (Told site us (calls t)) (Told site us (calls t)) (typing types scope site t) _ (typing_told site t) (λ a h.
        tells site us (calls t) (postfix_rules scope op p a) h.0 (λ u. postfix_mentions op p a (h.1 u)))

    all_told : (site : ℕ) (args : Arguments) → OnAnswer (AllTold site (argument_uses scope args) (argument_calls args)) (typing_all types scope site args)
    all_told site no_arguments = (refl, λ u. tt)
    all_told site (and_argument t args) =
        let us : List Use = uses_of scope t ++ argument_uses scope args in
        let n : ℕ = calls t + argument_calls args in
        then_on (Told site (uses_of scope t) (calls t)) (AllTold site us n) (typing types scope site t) _ (typing_told site t) (λ a h.
        then_on (AllTold (site + calls t) (argument_uses scope args) (argument_calls args)) (AllTold site us n) (typing_all types scope (site + calls t) args) (λ vs. Ok (valued scope a ∷ vs)) (all_told (site + calls t) args) (λ vs k. (
          (let e = h.0 in let f = k.0 in let g = count_append (uses_of scope t) (argument_uses scope args) in omega (arith, e, f, g)),
          λ u.
              let parts = stand_append o c site (uses_of scope t) (argument_uses scope args) u in
              (valued_mentions o c scope a (h.1 parts.0), k.1 (at_site o c (site + call_count (uses_of scope t)) (site + calls t) (argument_uses scope args) (let e = h.0 in omega (arith, e)) parts.1)),
        )))
