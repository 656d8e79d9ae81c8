-- The marks of one pass over the graph of a body tell which tested temporaries hold pointers, whatever sorts they have.
use Rattle.std.proofs.Common.{◌≡◌, refl, ap, subst, ◌∙◌, inl, inr, ℕ, zero, suc, ◌+◌, ◌<◌, ◌≤◌, Bool, true, false}
use Rattle.std.proofs.Common.{List, [], ◌∷◌, length, get_or, Option, Some, None, slice_get, arith}
use Rattle.std.specs.Prelude.{◌||◌, take, All}
use Rattle.std.proofs.lemmas.Bool.{ne_eqb, eq-eqb}
use Rattle.std.proofs.lemmas.Option.{slice_get_within}
use Rattle.std.proofs.lemmas.List.Elements.{All-nil, All-cons, All-head, All-tail}
use Rattle.operation_laws.specs.tm_cint.declared.operators.BinOp.{BinOp}
use Rattle.operation_laws.specs.tm_cint.declared.operators.BinOp.TheVariants as Bins
use Rattle.operation_laws.specs.tm_cint.declared.int_types.IntType.{IntType}
use Rattle.operation_laws.specs.tm_laid.Layouts.{LaidTree}
use Rattle.operation_laws.specs.flow_graph.declared.operations.Test.{Test}
use Rattle.operation_laws.specs.flow_graph.declared.operations.Test.TheVariants as Tests
use Rattle.operation_laws.specs.flow_graph.declared.operations.Operation.{Operation}
use Rattle.operation_laws.specs.flow_graph.declared.operations.Operation.TheVariants as Op
use Rattle.operation_laws.specs.flow_graph.declared.graphs.Edge.{Edge}
use Rattle.operation_laws.specs.flow_graph.Operations.{given}
use Rattle.operation_laws.specs.flow_graph.Graphs.{Edges, Among}
use Rattle.operation_laws.specs.temporary_types.Sorts.{Sort, numbers, pointers, Holds, HoldsAny, HoldsNumbers}
use Rattle.operation_laws.specs.temporary_types.Sorts.{HoldsRight}
use Rattle.operation_laws.specs.temporary_types.Sorts.{WorksTest, Works, Gives, GivesTo, FitsSorts, AreSorts}
use Rattle.operation_laws.specs.temporary_types.Sorts.{sort_of_scalar}
use Rattle.operation_laws.specs.temporary_types.PointerMarks.{pointer_marks, IsGivenIn, is_pointers}
use Rattle.operation_laws.proofs.low.temporary_types.Telling.{told}
use Rattle.program_equations.specs.transfer_rows.Accesses.{is_among}
use Rattle.operation_laws.specs.temporary_types.Temporaries.{behind_given, temporaries_in}
use Rattle.program_equations.specs.Programs.{marked_from, pointers_in}
use Rattle.operation_laws.specs.lowering.Built.{built, graph_of}
use Rattle.operation_laws.specs.lowering_laws.LaidFiles.{IsLaidFile}
use Rattle.operation_laws.specs.SortedGraphs.{HasSorts}
use Rattle.operation_laws.proofs.Following.{Follows}
use Rattle.operation_laws.proofs.FileSorts.{file_sorts}
use Rattle.sound_foundations.specs.Foundations.{TellsTruths}

-- ## Marks

none_before : (k : ℕ) (marks : List Bool) (j : ℕ) → j < k → is_among (marked_from k marks) j ≡ false
none_before k [] j lt = refl
none_before k (true ∷ marks) j lt =
    ap (λ b. b || is_among (marked_from (suc k) marks) j) (ne_eqb j k (λ e. omega (arith, lt, e)))
    ∙ none_before (suc k) marks j (omega (arith, lt))
none_before k (false ∷ marks) j lt = none_before (suc k) marks j (omega (arith, lt))

marked_behind : (k : ℕ) (marks : List Bool) (i : ℕ) → is_among (marked_from k marks) (k + i) ≡ get_or marks i false
marked_behind k [] i = refl
marked_behind k (true ∷ marks) zero =
    ap (λ b. b || is_among (marked_from (suc k) marks) (k + 0)) (eq-eqb (k + 0) k (omega arith))
marked_behind k (true ∷ marks) (suc i) =
    ap (λ b. b || is_among (marked_from (suc k) marks) (k + suc i)) (ne_eqb (k + suc i) k (λ e. omega (arith, e)))
    ∙ (ap (is_among (marked_from (suc k) marks)) (omega arith) ∙ marked_behind (suc k) marks i)
marked_behind k (false ∷ marks) zero = none_before (suc k) marks (k + 0) (omega arith)
marked_behind k (false ∷ marks) (suc i) =
    ap (is_among (marked_from (suc k) marks)) (omega arith) ∙ marked_behind (suc k) marks i

marked_is : (marks : List Bool) (temp : ℕ) → is_among (marked_from 0 marks) temp ≡ get_or marks temp false
marked_is marks temp =
    ap (is_among (marked_from 0 marks)) (let e : temp ≡ 0 + temp = omega arith in e) ∙ marked_behind 0 marks temp

-- ## The first sorts

take_few : (n : ℕ) (xs : List Sort) → length (take n xs) ≤ n
take_few zero xs = omega arith
take_few (suc n) [] = omega arith
take_few (suc n) (x ∷ xs) = let r = take_few n xs in omega (arith, r)

get_taken : (n : ℕ) (xs : List Sort) (t : ℕ) → t < n → slice_get (take n xs) t ≡ slice_get xs t
get_taken zero xs t lt = absurd (omega (arith, lt))
get_taken (suc n) [] t lt = refl
get_taken (suc n) (x ∷ xs) zero lt = refl
get_taken (suc n) (x ∷ xs) (suc t) lt = get_taken n xs t (omega (arith, lt))

-- where the temporaries that have other sorts are among the first ones, what fits both fits the first
module _ (laid other : LaidTree) (sorts others : List Sort) (n : ℕ)
    (inside : (t : ℕ) (s : Sort) → slice_get others t ≡ Some s → t < n) where
  abbrev first : List Sort
  first = take n sorts

  holds : (t : ℕ) (s u : Sort) → Holds sorts t s → Holds others t u → Holds first t s
  holds t s u h k = (h.0, get_taken n sorts t (inside t k.0 k.1) ∙ h.1, h.2)

  holds_numbers : (t : ℕ) → HoldsNumbers sorts t → HoldsNumbers others t → HoldsNumbers first t
  holds_numbers t h k = (h.0, holds t (numbers h.0) (numbers k.0) h.1 k.1)

  holds_any : (t : ℕ) → HoldsAny sorts t → HoldsAny others t → HoldsAny first t
  holds_any t h k = (h.0, holds t h.0 k.0 h.1 k.1)

  holds_right : (o : BinOp) (of : IntType) (t : ℕ) → HoldsRight sorts o of t → HoldsRight others o of t
      → HoldsRight first o of t
  holds_right Bins.Shl of t h k = holds_numbers t h k
  holds_right Bins.Shr of t h k = holds_numbers t h k
  holds_right Bins.Add of t h k = holds t (numbers of) (numbers of) h k
  holds_right Bins.Sub of t h k = holds t (numbers of) (numbers of) h k
  holds_right Bins.Mul of t h k = holds t (numbers of) (numbers of) h k
  holds_right Bins.Div of t h k = holds t (numbers of) (numbers of) h k
  holds_right Bins.Rem of t h k = holds t (numbers of) (numbers of) h k
  holds_right Bins.Lt of t h k = holds t (numbers of) (numbers of) h k
  holds_right Bins.Le of t h k = holds t (numbers of) (numbers of) h k
  holds_right Bins.Gt of t h k = holds t (numbers of) (numbers of) h k
  holds_right Bins.Ge of t h k = holds t (numbers of) (numbers of) h k
  holds_right Bins.Eq of t h k = holds t (numbers of) (numbers of) h k
  holds_right Bins.Ne of t h k = holds t (numbers of) (numbers of) h k
  holds_right Bins.And of t h k = holds t (numbers of) (numbers of) h k
  holds_right Bins.Or of t h k = holds t (numbers of) (numbers of) h k
  holds_right Bins.Xor of t h k = holds t (numbers of) (numbers of) h k

  works_test : (test : Test) → WorksTest sorts test → WorksTest others test → WorksTest first test
  works_test (Tests.Numbers o of l r) h k =
      (holds l (numbers of) (numbers of) h.0 k.0, holds r (numbers of) (numbers of) h.1 k.1)
  works_test (Tests.Pointers q l r) h k = (holds l pointers pointers h.0 k.0, holds r pointers pointers h.1 k.1)
  works_test (Tests.Truth b v) h k = holds_any v h k
  works_test (Tests.Case b l v) h k = holds_numbers v h k

  works : (op : Operation) → Works laid sorts op → Works other others op → Works laid first op
  works Op.Skip h k = tt
  works (Op.Const to value) h k = tt
  works (Op.Copy to from) h k = holds_any from h k
  works (Op.Un to o of from place) h k = holds from (numbers of) (numbers of) h k
  works (Op.Bin to o of left right place) h k =
      (holds left (numbers of) (numbers of) h.0 k.0, holds_right o of right h.1 k.1)
  works (Op.BinPointers to equal left right) h k =
      (holds left pointers pointers h.0 k.0, holds right pointers pointers h.1 k.1)
  works (Op.Convert to was of from) h k = holds from (numbers was) (numbers was) h k
  works (Op.Base to object) h k = h
  works (Op.Offset to from cells) h k = holds from pointers pointers h k
  works (Op.Index to from length' cells by place) h k =
      (holds from pointers pointers h.0 k.0, holds_numbers by h.1 k.1)
  works (Op.Move to from cells minus by place) h k =
      (holds from pointers pointers h.0 k.0, holds_numbers by h.1 k.1)
  works (Op.Deref to from target path place) h k = holds from pointers pointers h k
  works (Op.Load to address scalar place) h k = holds address pointers pointers h k
  works (Op.LoadAny to address scalar place) h k = holds address pointers pointers h k
  works (Op.Store address value scalar into place) h k = (
    holds address pointers pointers h.0 k.0,
    holds value (sort_of_scalar scalar)
        (sort_of_scalar scalar) h.1 k.1,
    h.2,
  )
  works (Op.Any to low high) h k = tt
  works (Op.Clear object) h k = h
  works (Op.Usable pointer place) h k = holds pointer pointers pointers h k
  works (Op.Assume test) h k = works_test test h k
  works (Op.Lock mutex place) h k = h
  works (Op.Unlock mutex place) h k = h
  works Op.Yield h k = tt
  works (Op.Probe to mutex place) h k = h

  gives : (op : Operation) (s : Sort) → Works other others op → Gives sorts op s → Gives first op s
  gives Op.Skip s k h = h
  gives (Op.Const to value) s k h = h
  gives (Op.Copy to from) s k h = holds from s k.0 h k.1
  gives (Op.Un to o of from place) s k h = h
  gives (Op.Bin to o of left right place) s k h = h
  gives (Op.BinPointers to equal left right) s k h = h
  gives (Op.Convert to was of from) s k h = h
  gives (Op.Base to object) s k h = h
  gives (Op.Offset to from cells) s k h = h
  gives (Op.Index to from length' cells by place) s k h = h
  gives (Op.Move to from cells minus by place) s k h = h
  gives (Op.Deref to from target path place) s k h = h
  gives (Op.Load to address scalar place) s k h = h
  gives (Op.LoadAny to address scalar place) s k h = h
  gives (Op.Store address value scalar into place) s k h = h
  gives (Op.Any to low high) s k h = h
  gives (Op.Clear object) s k h = h
  gives (Op.Usable pointer place) s k h = h
  gives (Op.Assume test) s k h = h
  gives (Op.Lock mutex place) s k h = h
  gives (Op.Unlock mutex place) s k h = h
  gives Op.Yield s k h = h
  gives (Op.Probe to mutex place) s k h = h

  gives_to : (op : Operation) (o : Option ℕ) → Works other others op → GivesTo sorts op o → GivesTo others op o
      → GivesTo first op o
  gives_to op None w h k = tt
  gives_to op (Some t) w h k = (h.0, get_taken n sorts t (inside t k.0 k.1) ∙ h.1, gives op h.0 w h.2)

  fits : (op : Operation) → FitsSorts laid sorts op → FitsSorts other others op → FitsSorts laid first op
  fits op h k = (works op h.0 k.0, gives_to op (given op) k.0 h.1 k.1)

  all_fit : (g : Edges) → AreSorts laid sorts g → AreSorts other others g → AreSorts laid first g
  all_fit [] h k = All-nil (λ (e : Edge). FitsSorts laid first e.op)
  all_fit (e ∷ g) h k =
      All-cons (λ (x : Edge). FitsSorts laid first x.op) e g
      (fits e.op (All-head (λ (x : Edge). FitsSorts laid sorts x.op) e g h)
      (All-head (λ (x : Edge). FitsSorts other others x.op) e g k))
      (all_fit g (All-tail (λ (x : Edge). FitsSorts laid sorts x.op) e g h)
      (All-tail (λ (x : Edge). FitsSorts other others x.op) e g k))

-- ## What is given

given_below : (g : Edges) (e : Edge) (t : ℕ) → Among e g → given e.op ≡ Some t → t < temporaries_in g
given_below [] e t a q = absurd a
given_below (x ∷ g) e t (inl i) q =
    let same : behind_given (given x.op) ≡ suc t = ap (λ (y : Edge). behind_given (given y.op)) i ∙ ap behind_given q in
    omega (arith, same)
given_below (x ∷ g) e t (inr a) q = let r = given_below g e t a q in omega (arith, r)

among_all : (P : Edge → Type 0) (g : Edges) → All P g → (e : Edge) → Among e g → P e
among_all P [] h e a = absurd a
among_all P (x ∷ g) h e (inl i) = subst P i (All-head P x g h)
among_all P (x ∷ g) h e (inr a) = among_all P g (All-tail P x g h) e a

module _ (laid : LaidTree) (file : IsLaidFile laid) (body : ℕ) (lt : body < length laid.bodies) where
  abbrev graph : Edges
  graph = graph_of laid body

  own : HasSorts laid (built laid body).temps graph
  own = (file_sorts laid file body lt).0

  follows : Follows (built laid body).temps graph
  follows = (file_sorts laid file body lt).1

  given_in : (t : ℕ) (s : Sort) → slice_get own.sorts t ≡ Some s → IsGivenIn graph t
  given_in t s q =
      let within = slice_get_within own.sorts t s q in
      let each = own.each in
      follows.given t (omega (arith, within, each))

  inside : (t : ℕ) (s : Sort) → slice_get own.sorts t ≡ Some s → t < temporaries_in graph
  inside t s q = let g = given_in t s q in given_below graph g.edge t g.among g.given

  pub truths : (other : LaidTree) (sorts : List Sort) → AreSorts other sorts graph
      → (e : Edge) (holds' : Bool) (value : ℕ) (s : Sort) → Among e graph
      → e.op ≡ Op.Assume (Tests.Truth holds' value) → slice_get sorts value ≡ Some s
      → is_among (pointers_in graph) value ≡ is_pointers s
  truths other sorts are e b value s a is q =
      let fits' : FitsSorts laid own.sorts e.op =
      among_all (λ (x : Edge). FitsSorts laid own.sorts x.op) graph own.fit e a in
      let held : HoldsAny own.sorts value = (subst (λ op. FitsSorts laid own.sorts op) is fits').0 in
      let n : ℕ = temporaries_in graph in
      let known : slice_get own.sorts value ≡ Some held.1.0 = held.1.1 in
      marked_is (pointer_marks graph n) value
      ∙ told other (take n sorts) graph n (all_fit other laid sorts own.sorts n inside graph are own.fit) follows.copies
      (take_few n sorts) value (given_in value held.1.0 known) s
      (get_taken n sorts value (inside value held.1.0 known) ∙ q)

pub told_truths : (laid : LaidTree) → IsLaidFile laid → TellsTruths laid
told_truths laid file body other sorts e b value s lt are a is q =
    truths laid file body lt other sorts are e b value s a is q
