-- What is noted of calls, step by step.
use Rattle.std.proofs.Common.{◌≡◌, ℕ, zero, suc, ◌+◌, ◌<◌, ◌≤◌, Bool, true, false, List, [], ◌∷◌, ◌++◌, length, drop}
use Rattle.std.proofs.Common.{get_or, refl, ap, sym, ◌∙◌, arith, add-zero, add-one}
use Rattle.std.proofs.lemmas.List.{append-nil, drop_more, drop_all, drop-drop, get_or-drop}
use Rattle.std.specs.Prelude.{cond, None}
use Rattle.tm_terms.specs.declared.places.Place.{Place}
use Rattle.tm_typed.specs.declared.expressions.Rvalue.{Rvalue}
use Rattle.tm_typed.specs.declared.scopes.ObjectNumber.TheVariants as Numbers
use Rattle.tm_typed.specs.TypedTrees.{RvalueTree, as_rvalues, rvalue_tree}
use Rattle.tm_laid.specs.TypeCells.{entry_of}
use Rattle.tm_laid.specs.Layouts.{LaidTree, object_of, object_at}
use Rattle.body_builder.specs.concrete_steps.Places.{rvalue_place}
use Rattle.path_origins.specs.declared.origins.Form.TheVariants as Forms
use Rattle.path_origins.specs.declared.origins.Span.{Span}
use Rattle.path_origins.specs.declared.origins.Life.{Life}
use Rattle.path_origins.specs.Types.{given, differs}
use Rattle.path_origins.specs.Noted.{Noted, nothing, behind, both, sequenced, scoped, passing_if, one, called_body}
use Rattle.path_origins.specs.Noted.{life_by}
use Rattle.path_origins.specs.Expressions.{walked, all_arguments, arguments_stored, parameter, parameters}
use Rattle.path_origins.specs.reading.Walks.{sequenced_from, scoped_from, life_added}
use Rattle.path_origins.specs.reading.Ends.{against_before, life_from, stores, stores_and_body}
use Rattle.path_origins.proofs.Laws.{behind_behind, behind_nothing, nothing_behind, then_behind}
use Rattle.path_origins.proofs.Beside.{both_noted, sequenced_noted, scoped_noted, passing_noted, life_noted}
use Rattle.path_origins.proofs.Values.{passing_size, three_behind}

abbrev pub is_zero : ℕ → Bool
is_zero zero = true
is_zero (suc n) = false

is_zero-more : (n : ℕ) → is_zero (n + 1) ≡ false
is_zero-more n = ap is_zero (add-one n)

zero_more : (k : ℕ) → 0 + k ≡ k
zero_more k = omega arith

next_of : (n k : ℕ) → (n + k) + 1 ≡ n + suc k
next_of n k = omega arith

-- one more argument, behind those that were noted already
argument_noted : (i : ℕ) (p q : Place) (passes : Bool) (first second : Span) (a b c d f x y : Noted)
    → (i ≡ 0 → x ≡ nothing) → b ≡ behind a x → c ≡ behind b y → d ≡ passing_if passes q c → first.first ≡ a.size
    → first.end ≡ b.size → second.first ≡ b.size → second.end ≡ c.size → f ≡ against_before i p first second d
    → f ≡ behind a (cond (is_zero i) (passing_if passes q y) (both p x (passing_if passes q y)))
argument_noted zero p q passes first second a b c d f x y none eb ec ed e1 e2 e3 e4 ef =
    let given : Noted = passing_if passes q y in
    let same : b ≡ a = eb ∙ ap (behind a) (none refl) ∙ behind_nothing a in
    ef ∙ passing_noted passes q b c d y ec ed ∙ ap (λ z. behind z given) same
argument_noted (suc i) p q passes first second a b c d f x y none eb ec ed e1 e2 e3 e4 ef =
    let given : Noted = passing_if passes q y in
    let end : second.end ≡ d.size = e4 ∙ sym (passing_size passes q c) ∙ ap (λ z. z.size) (sym ed) in
    both_noted p first second a b d f x given eb (passing_noted passes q b c d y ec ed) e1 e2 e3 end ef

module _ (laid : LaidTree) (is_open : Place → Bool) (sizes : ℕ → ℕ) (path : ℕ) where
  -- ## Stores

  stored_size : (n : ℕ) (p : Place) → (arguments_stored laid is_open sizes path n p).size ≡ n + n
  stored_size zero p = refl
  stored_size (suc n) p = omega (arith, stored_size n p)

  one_more : (n : ℕ) (p : Place)
      → behind (arguments_stored laid is_open sizes path n p) (behind (one p Forms.Base) (one p Forms.Store))
      ≡ arguments_stored laid is_open sizes path (suc n) p
  one_more zero p =
      let pair : Noted = behind (one p Forms.Base) (one p Forms.Store) in
      nothing_behind pair ∙ sym (behind_nothing pair)
  one_more (suc n) p =
      let pair : Noted = behind (one p Forms.Base) (one p Forms.Store) in
      behind_behind pair (arguments_stored laid is_open sizes path n p) pair ∙ ap (behind pair) (one_more n p)

  lives_more : (to k n : ℕ)
      → parameters laid is_open sizes path to k n ++ parameter laid is_open sizes path to (k + n) ∷ []
      ≡ parameters laid is_open sizes path to k (suc n)
  lives_more to k zero = ap (λ i. parameter laid is_open sizes path to i ∷ []) (add-zero k)
  lives_more to k (suc n) =
      let further : k + suc n ≡ suc k + n = omega arith in
      ap (λ ls. parameter laid is_open sizes path to k ∷ ls)
      (ap (λ i. parameters laid is_open sizes path to (suc k) n ++ parameter laid is_open sizes path to i ∷ []) further
      ∙ lives_more to (suc k) n)

  pub stores_first : (to : ℕ) (p : Place) (a : Noted) → a ≡ behind a (stores laid is_open sizes path to 0 p)
  stores_first to p a = sym (behind_nothing a)

  life_further : (to number k first begins n : ℕ) → number ≡ k → first ≡ n → begins ≡ n + suc (k + k)
      → life_from laid to number first begins ≡ life_by n (parameter laid is_open sizes path to k)
  life_further to number k first begins n e f g =
      let start : first ≡ n + 0 = f ∙ sym (add-zero n) in
      λ i. record {
        object = object_of laid to (Numbers.Local (e i));
        place = (object_at laid (object_of laid to (Numbers.Local (e i)))).place;
        begins = g i;
        scope = record { first = start i; end = start i };
        initialiser = None;
      }

  more_lives : (to k : ℕ) (p : Place)
      → life_added (parameter laid is_open sizes path to k)
      (behind (stores laid is_open sizes path to k p) (behind (one p Forms.Base) (one p Forms.Store)))
      ≡ stores laid is_open sizes path to (suc k) p
  more_lives to k p =
      let ls = parameters laid is_open sizes path to 0 k in
      let lives : (ls ++ []) ++ parameter laid is_open sizes path to k ∷ []
      ≡ parameters laid is_open sizes path to 0 (suc k) =
      ap (λ zs. zs ++ parameter laid is_open sizes path to k ∷ []) (append-nil ls)
      ∙ ap (λ i. ls ++ parameter laid is_open sizes path to i ∷ []) (sym (zero_more k)) ∙ lives_more to 0 k in
      λ i. record (one_more k p i) { unended = lives i }

  -- one more argument is stored
  pub stores_more : (to number k first begins : ℕ) (p : Place) (l : Life) (a b c d f : Noted) → number ≡ k
      → first ≡ a.size → begins ≡ c.size → b ≡ behind a (stores laid is_open sizes path to k p)
      → c ≡ behind b (one p Forms.Base) → d ≡ behind c (one p Forms.Store)
      → l ≡ life_from laid to number first begins → f ≡ life_added l d
      → f ≡ behind a (stores laid is_open sizes path to (k + 1) p)
  stores_more to number k first begins p l a b c d f same start at eb ec ed el ef =
      let pair : Noted = behind (one p Forms.Base) (one p Forms.Store) in
      let so_far : Noted = stores laid is_open sizes path to k p in
      let size : c.size ≡ a.size + suc (k + k) =
      ap (λ z. z.size) ec ∙ ap (λ n. n + 1) (ap (λ z. z.size) eb ∙ ap (λ n. a.size + n) (stored_size k p))
      ∙ next_of a.size (k + k) in
      life_noted l (parameter laid is_open sizes path to k) a d f (behind so_far pair)
      (el ∙ life_further to number k first begins a.size same start (at ∙ size))
      (three_behind a b c d so_far (one p Forms.Base) (one p Forms.Store) eb ec ed) ef
      ∙ ap (behind a) (more_lives to k p ∙ ap (λ n. stores laid is_open sizes path to n p) (sym (add-one k)))

  -- the body of the path behind the stores, to whose end the parameters live
  pub body_noted : (to count size outer : ℕ) (used : Bool) (p : Place) (a b c d : Noted) → size ≡ sizes to
      → outer ≡ length a.unended → b ≡ behind a (stores laid is_open sizes path to count p)
      → c ≡ behind b (called_body size to used) → d ≡ scoped_from outer c
      → d ≡ behind a (scoped (stores_and_body laid is_open sizes path to used count p))
  body_noted to count size outer used p a b c d sized before eb ec ed =
      let so_far : Noted = stores laid is_open sizes path to count p in
      let body : Noted = called_body (sizes to) to used in
      let lives = parameters laid is_open sizes path to 0 count in
      let all : behind so_far body ≡ stores_and_body laid is_open sizes path to used count p =
      λ i. record (behind (arguments_stored laid is_open sizes path count p) body) {
        unended =
            append-nil lives i;
      } in
      scoped_noted outer a c d (stores_and_body laid is_open sizes path to used count p) before
      (then_behind a b c so_far body eb (ec ∙ ap (λ n. behind b (called_body n to used)) sized) ∙ ap (behind a) all) ed

  -- ## Arguments

  -- the arguments before this one are noted, and the others are left
  pub record AreLeft (p : Place) (types : List ℕ) (xs : List Rvalue) (i : ℕ) (a b : Noted) : Type 0 where
    pub before : Noted
    pub noted : b ≡ behind a before
    pub none : i ≡ 0 → before ≡ nothing
    pub left : all_arguments laid is_open sizes path p (drop i types) (is_zero i) before (as_rvalues (drop i xs))
        ≡ all_arguments laid is_open sizes path p types true nothing (as_rvalues xs)

  pub left_first : (p : Place) (types : List ℕ) (xs : List Rvalue) (a : Noted) → AreLeft p types xs 0 a a
  left_first p types xs a = record {
    before = nothing;
    noted = sym (behind_nothing a);
    none = λ e. refl;
    left = refl;
  }

  pub left_more : (p : Place) (types : List ℕ) (xs : List Rvalue) (i : ℕ) (r : Rvalue) (passed : Bool)
      (first second : Span) (a b c d f : Noted) → i < length xs
      → passed ≡ differs (given laid is_open path (rvalue_tree (get_or xs i r)))
      (entry_of laid.file (get_or types i 0)).ctype
      → AreLeft p types xs i a b
      → c ≡ behind b (walked laid is_open sizes path true (rvalue_tree (get_or xs i r))).value
      → d ≡ passing_if passed (rvalue_place (rvalue_tree (get_or xs i r))) c → first.first ≡ a.size
      → first.end ≡ b.size → second.first ≡ b.size → second.end ≡ c.size → f ≡ against_before i p first second d
      → AreLeft p types xs (i + 1) a f
  left_more p types xs i r passed first second a b c d f lt passes so ec ed e1 e2 e3 e4 ef =
      let e : RvalueTree = rvalue_tree (get_or xs i r) in
      let v : Noted = (walked laid is_open sizes path true e).value in
      let by : ℕ → Noted = λ n. passing_if (differs (given laid is_open path e) (entry_of laid.file n).ctype)
      (rvalue_place e) v in
      let x : Noted = by (get_or types i 0) in
      let now : Noted = cond (is_zero i) x (both p so.before x) in
      let goes : List ℕ → Bool → Noted → List Rvalue → Noted = λ ts z w es.
      all_arguments laid is_open sizes path p ts z w (as_rvalues es) in
      let type : get_or types i 0 ≡ get_or (drop i types) 0 0 =
      ap (λ n. get_or types n 0) (sym (add-zero i)) ∙ sym (get_or-drop i types 0 0) in
      record {
        before = now;
        noted = argument_noted i p (rvalue_place e)
            (differs (given laid is_open path e) (entry_of laid.file (get_or types i 0)).ctype) first second a b c d f
            so.before v so.none so.noted ec (ed ∙ ap (λ k. passing_if k (rvalue_place e) c) passes) e1 e2 e3 e4 ef;
        none = λ z. absurd (omega arith);
        left = ap (λ z. goes (drop (i + 1) types) z now (drop (i + 1) xs)) (is_zero-more i)
            ∙ ap (λ ts. goes ts false now (drop (i + 1) xs)) (sym (drop-drop 1 i types))
            ∙ ap (λ n. goes (drop 1 (drop i types)) false (cond (is_zero i) (by n) (both p so.before (by n)))
            (drop (i + 1) xs)) type
            ∙ sym (ap (goes (drop i types) (is_zero i) so.before) (drop_more xs i r lt)) ∙ so.left;
      }

  -- all are noted, and a sequence point follows
  pub left_last : (p : Place) (types : List ℕ) (xs : List Rvalue) (i n : ℕ) (a b c : Noted) → length xs ≤ i
      → n ≡ length a.pending → AreLeft p types xs i a b → c ≡ sequenced_from n b
      → c ≡ behind a (sequenced (all_arguments laid is_open sizes path p types true nothing (as_rvalues xs)))
  left_last p types xs i n a b c le before so ec =
      let all : so.before ≡ all_arguments laid is_open sizes path p types true nothing (as_rvalues xs) =
      sym (ap (λ es. all_arguments laid is_open sizes path p (drop i types) (is_zero i) so.before (as_rvalues es))
      (drop_all i xs le)) ∙ so.left in
      sequenced_noted n a b c so.before before so.noted ec ∙ ap (λ z. behind a (sequenced z)) all
