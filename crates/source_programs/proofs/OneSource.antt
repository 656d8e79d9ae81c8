-- A source has one answer on each scale, and is one program on both.
use Rattle.std.specs.Prelude.{◌≡◌, ◌⊎◌, ℕ, ◌<◌, ◌≤◌, ℤ, List, length, get_or, Option, Some, None, Result, Ok, Err}
use Rattle.std.proofs.Common.{refl, sym, ap, subst, ◌∙◌, inl, inr, arith}
use Rattle.tm_terms.specs.declared.refusals.Fail.TheVariants as Fails
use Rattle.tm_terms.specs.declared.refusals.Refusal.{Refusal}
use Rattle.tm_terms.specs.declared.tokens.Name.{Name}
use Rattle.tm_terms.specs.declared.tokens.Token.{Token}
use Rattle.tm_terms.specs.Spelling.{Lexes}
use Rattle.tm_trees.specs.FileTrees.{ItemTree}
use Rattle.tm_trees.specs.Parsing.{deep, Parses, too_deep, spells, spells_none}
use Rattle.tm_laid.specs.tm_typed.Files.{TypedFileTree, IsTyped}
use Rattle.tm_laid.specs.declared.scales.Scale.{Scale}
use Rattle.tm_laid.specs.Layouts.{LaidTree, layout_of, laid_out}
use Rattle.mutex_configs.specs.flow_graph.declared.graphs.Graph.{Graph}
use Rattle.mutex_configs.specs.flow_graph.Graphs.{Edges}
use Rattle.mutex_configs.specs.graph_facts.Live.{AreLive}
use Rattle.mutex_configs.specs.graph_facts.Heads.{AreHeads}
use Rattle.program_graphs.specs.graph_builder.Lowered.{AreGraphs}
use Rattle.configured_laws.specs.region_cells.Written.{AreAllWritten}
use Rattle.mutex_configs.specs.declared.nodes.ConfiguredGraph.{ConfiguredGraph}
use Rattle.mutex_configs.specs.Programs.{AreConfigured}
use Rattle.program_graphs.specs.Prepared.{Graphed, IsPrepared}
use Rattle.thresholds.specs.Thresholds.{AreInOrder, AreThresholds, numbers_of}
use Rattle.program_laws.specs.task_equations.Bodies.{Body}
use Rattle.program_laws.specs.program_equations.Programs.{ProgramBodies, body_at, pointers_in, IsBodyIn, IsProgramOf}
use Rattle.c_lexer.proofs.AnswerLemmas.{one_answer as one_lexing_of, lexes_alike}
use Rattle.c_parser.proofs.FileComplete.{file_complete}
use Rattle.c_typing.proofs.low.typing_laws.OneAnswer.{one_answer as one_typing}
use Rattle.source_programs.specs.LaidSources.{longest_on, LexesOn, main_in, TypesAs, IsLaidSourceOn}
use Rattle.source_programs.specs.Sources.{IsAcceptedOn, source_limit, IsRefusedOn}
use Rattle.source_programs.specs.Sources.{too_long, not_lexed, not_parsed, not_typed, not_laid, not_prepared}
use Rattle.source_programs.specs.Laws.{NoneIsBoth, OneProgram, AreSyntaxErrors, OneRefusal}
use Rattle.configured_laws.proofs.Lists.{ascending_are_one}
use Rattle.configured_laws.specs.Laws.{AreAlike}
use Rattle.configured_laws.proofs.ConfiguredAlike.{as_many, alike_at}
use Rattle.configured_laws.proofs.OneProgram.{counts, edges_at, nodes_at, alike, not_both, one_refused}
use Rattle.source_programs.proofs.Programs.{programs_are_one}
use Rattle.source_programs.proofs.Stations.{layout_kept}

from_err : {A : Type 0} {r s : Refusal}
    → (let a : Result A Refusal = Err r in let b : Result A Refusal = Err s in a ≡ b) → r ≡ s
from_err e = cc

from_ok : {A : Type 0} {x y : A} → (let a : Result A Refusal = Ok x in let b : Result A Refusal = Ok y in a ≡ b) → x ≡ y
from_ok e = cc

ok_is_err : {A : Type 0} {x : A} {r : Refusal}
    → (let a : Result A Refusal = Ok x in let b : Result A Refusal = Err r in a ≡ b) → ⊥
ok_is_err e = cc

from_some : {A : Type 0} {x y : A} → Some x ≡ Some y → x ≡ y
from_some e = cc

none_some : {A P : Type 0} {x : A} → None ≡ Some x → P
none_some e = cc

-- ## Files

-- both are one, or syntax errors
abbrev SameRefusal : Refusal → Refusal → Type 0
SameRefusal r s = (r ≡ s) ⊎ AreSyntaxErrors r s

-- tokens are refused once by the grammar
parsed_once : (tokens : List Token) (a b : Result (List ItemTree) Refusal) (r s : Refusal) → Parses tokens a
    → Parses tokens b → a ≡ Err r → b ≡ Err s → SameRefusal r s
parsed_once tokens _ _ r s (too_deep {place = p} d) (too_deep {place = q} k) e f =
    inl (sym (from_err e) ∙ ap deep (from_some (sym d ∙ k)) ∙ from_err f)
parsed_once tokens _ _ r s (too_deep d) (spells k g) e f = none_some (sym k ∙ d)
parsed_once tokens _ _ r s (too_deep d) (spells_none k g h) e f = none_some (sym k ∙ d)
parsed_once tokens _ _ r s (spells d g) k e f = absurd (ok_is_err e)
parsed_once tokens _ _ r s (spells_none d g h) (too_deep k) e f = none_some (sym d ∙ k)
parsed_once tokens _ _ r s (spells_none d g h) (spells k l) e f = absurd (ok_is_err f)
parsed_once tokens _ _ r s (spells_none {place = p} d g h) (spells_none {place = q} k l m) e f =
    inr (p, q, sym (from_err e), sym (from_err f))

-- tokens that spell a file are not refused by it
not_both_parsed : (tokens : List Token) (items : List ItemTree) (r : Refusal) (a b : Result (List ItemTree) Refusal)
    → Parses tokens a → Parses tokens b → a ≡ Ok items → b ≡ Err r → ⊥
not_both_parsed tokens items r _ _ (too_deep d) k e f = ok_is_err (sym e)
not_both_parsed tokens items r _ _ (spells d g) (too_deep k) e f = none_some (sym d ∙ k)
not_both_parsed tokens items r _ _ (spells d g) (spells k l) e f = ok_is_err f
not_both_parsed tokens items r _ _ (spells {items = others} d g) (spells_none k l m) e f = l others g
not_both_parsed tokens items r _ _ (spells_none d g h) k e f = ok_is_err (sym e)

-- they spell one
same_files : (tokens : List Token) (items others : List ItemTree) (a b : Result (List ItemTree) Refusal)
    → Parses tokens a → Parses tokens b → a ≡ Ok items → b ≡ Ok others → items ≡ others
same_files tokens items others _ _ (too_deep d) k e f = absurd (ok_is_err (sym e))
same_files tokens items others _ _ (spells d g) (too_deep k) e f = absurd (ok_is_err (sym f))
same_files tokens items others _ _ (spells {items = xs} d g) (spells {items = ys} k l) e f =
    sym (from_ok e) ∙ from_some (sym (file_complete tokens xs g) ∙ file_complete tokens ys l) ∙ from_ok f
same_files tokens items others _ _ (spells d g) (spells_none k l m) e f = absurd (ok_is_err (sym f))
same_files tokens items others _ _ (spells_none d g h) k e f = absurd (ok_is_err (sym e))

one_file : (tokens : List Token) (items others : List ItemTree) → Parses tokens (Ok items)
    → Parses tokens (Ok others) → items ≡ others
one_file tokens items others h k = same_files tokens items others (Ok items) (Ok others) h k refl refl

-- and typing has one answer for it
one_typed : (main : Option Name) (tokens : List Token) (a b : Result TypedFileTree Refusal) → TypesAs main tokens a
    → TypesAs main tokens b → a ≡ b
one_typed main tokens a b h k =
    let same : h.items ≡ k.items = one_file tokens h.items k.items h.parsed k.parsed in
    one_typing main k.items a b (subst (λ items. IsTyped main items a) same h.typed) k.typed

-- not where it is typed or refused by typing
typed_is_parsed : {main : Option Name} (tokens : List Token) (a : Result TypedFileTree Refusal) (r : Refusal)
    → TypesAs main tokens a → Parses tokens (Err r) → ⊥
typed_is_parsed tokens a r t p = not_both_parsed tokens t.items r (Ok t.items) (Err r) t.parsed p refl refl

-- the lexis has one answer on a scale
one_lexing : (scale : Scale) (bytes : List ℕ) {answer other : Result (List Token) Refusal} → LexesOn scale bytes answer
    → LexesOn scale bytes other → answer ≡ other
one_lexing scale bytes h k = one_lexing_of bytes _ h k

module _ (bytes : List ℕ) where
  -- the tokens of a source are one list, however many it may have
  one_list : {most more : ℕ} (tokens others : List Token) → Lexes most bytes (Ok tokens)
      → Lexes more bytes (Ok others) → tokens ≡ others
  one_list {most} {more} tokens others h k = lexes_alike bytes most more tokens others h k

  -- and typing has one answer for them
  one_answer : {most more : ℕ} (tokens others : List Token) (a b : Result TypedFileTree Refusal)
      → Lexes most bytes (Ok tokens) → Lexes more bytes (Ok others) → TypesAs (main_in bytes tokens) tokens a
      → TypesAs (main_in bytes others) others b → a ≡ b
  one_answer tokens others a b h k t u =
      let same : tokens ≡ others = one_list tokens others h k in
      one_typed (main_in bytes others) others a b (subst (λ ts. TypesAs (main_in bytes ts) ts a) same t) u

  -- tokens that spell a typed file are not refused by the grammar
  typed_not_parsed : {most more : ℕ} (tokens others : List Token) (a : Result TypedFileTree Refusal) (r : Refusal)
      → Lexes most bytes (Ok tokens) → Lexes more bytes (Ok others) → TypesAs (main_in bytes tokens) tokens a
      → Parses others (Err r) → ⊥
  typed_not_parsed tokens others a r h k t p =
      let same : tokens ≡ others = one_list tokens others h k in
      typed_is_parsed others a r (subst (λ us. TypesAs (main_in bytes us) us a) same t) p

  -- ## Layouts

  -- a source has one layout, on whatever scales
  one_layout : (scale other : Scale) (l m : LaidTree) → IsLaidSourceOn scale bytes l → IsLaidSourceOn other bytes m
      → l ≡ m
  one_layout scale other l m h k =
      let same : h.file ≡ k.file =
      from_ok (one_answer h.tokens k.tokens (Ok h.file) (Ok k.file) h.lexed k.lexed h.typed k.typed) in
      layout_kept scale h.file l h.answered ∙ ap layout_of same ∙ sym (layout_kept other k.file m k.answered)

  -- ## Accepted and refused

  pub none : (scale : Scale) (laid : LaidTree) (r : Refusal) → IsLaidSourceOn scale bytes laid
      → ((s : Refusal) → IsPrepared scale laid (Err (Fails.Refused s)) → ⊥) → IsRefusedOn scale bytes r → ⊥
  none scale laid _ h never (too_long l) = let short = h.short in omega (arith, short, l)
  none scale laid _ h never (not_lexed s l) = ok_is_err (one_lexing scale bytes h.lexed l)
  none scale laid _ h never (not_parsed {tokens = ts} {refusal = r} s l p) =
      typed_not_parsed h.tokens ts (Ok h.file) r h.lexed l h.typed p
  none scale laid _ h never (not_typed {tokens = ts} {refusal = r} s l t) =
      ok_is_err (one_answer h.tokens ts (Ok h.file) (Err r) h.lexed l h.typed t)
  none scale laid _ h never (not_laid {tokens = ts} {file = file} {refusal = r} s l t e) =
      let same : h.file ≡ file = from_ok (one_answer h.tokens ts (Ok h.file) (Ok file) h.lexed l h.typed t) in
      ok_is_err (sym h.answered ∙ ap (laid_out scale) same ∙ e)
  none scale laid _ h never (not_prepared {laid = other} {refusal = r} k p) =
      never r
      (subst (λ l. IsPrepared scale l (Err (Fails.Refused r))) (sym (one_layout scale scale laid other h k)) p)

pub none_is_both : NoneIsBoth
none_is_both scale given bytes p r a is =
    none bytes scale a.laid r a.source (λ s k. not_both scale a.laid a.graphed s a.prepared k) is

-- ## Programs

-- thresholds are one list
one_thresholds : (numbers a b : List ℤ) → AreInOrder numbers a → AreInOrder numbers b → a ≡ b
one_thresholds numbers a b h k =
    let up = h.ascending in
    let others = k.ascending in
    ascending_are_one a b up.ascending others.ascending (λ z c. (k.same z).1 ((h.same z).0 c))
    (λ z c. (h.same z).1 ((k.same z).0 c))

-- a body is that of a graph with the same edges
other_body : (laid : LaidTree) (g h : Graph) (c d : ConfiguredGraph) (b : Body) → g.edges.items ≡ h.edges.items
    → g.nodes ≡ h.nodes → c.nodes.keys ≡ d.nodes.keys → c.copies.items ≡ d.copies.items → IsBodyIn laid g c b
    → IsBodyIn laid h d b
other_body laid g h c d b e n m o is = record {
  edges = is.edges ∙ e;
  nodes = is.nodes ∙ m;
  copies = is.copies ∙ o;
  live = subst (λ (k : ℕ). AreLive h.edges.items k b.live) n
      (subst (λ (es : Edges). AreLive es g.nodes b.live) e is.live);
  pointers = is.pointers ∙ ap pointers_in e;
  heads = subst (λ (es : Edges). AreHeads es b.heads) e is.heads;
  written = subst (λ (es : Edges). AreAllWritten laid es b.heads b.written) e is.written;
}

module _ (scale other : Scale) (laid : LaidTree) (gs hs : List Graph) (cs ds : List ConfiguredGraph)
    (are : AreGraphs scale laid gs) (others : AreGraphs other laid hs) (configured : AreConfigured scale gs cs)
    (own : AreConfigured other hs ds) where
  -- so a program is that of graphs with the same edges
  other_program : (thresholds : List ℤ) (p : ProgramBodies) → IsProgramOf laid gs cs thresholds p
      → IsProgramOf laid hs ds thresholds p
  other_program thresholds p of = record {
    laid = of.laid;
    marks = of.marks;
    tasks = of.tasks;
    priorities = of.priorities;
    count = of.count ∙ counts scale other laid gs hs are others;
    numbered = of.numbered;
    bodies = at;
  }
    where
      at : (t : ℕ) (g : Graph) (c : ConfiguredGraph) → t < length p.bodies
          → IsBodyIn laid (get_or hs t g) (get_or ds t c) (body_at p t)
      at t g c lt =
          let count = of.count in
          let within : t < length gs = omega (arith, lt, count) in
          let many = as_many scale gs cs configured in
          let inside : t < length cs = omega (arith, within, many) in
          let same : AreAlike cs ds = alike scale other laid gs hs are others cs ds configured own in
          let nodes = alike_at cs ds same t c inside in
          other_body laid (get_or gs t g) (get_or hs t g) (get_or cs t c) (get_or ds t c) (body_at p t)
          (edges_at scale other laid gs hs are others t g g within)
          (nodes_at scale other laid gs hs are others t g g within) nodes.0 nodes.1 (of.bodies t g c lt)

-- what is known of a program of a layout
record IsMade (scale : Scale) (given : List ℕ) (laid : LaidTree) (p : ProgramBodies) : Type 0 where
  graphed : Graphed
  prepared : IsPrepared scale laid (Ok graphed)
  thresholds : List ℤ
  are : AreThresholds (numbers_of laid.file.lengths laid.file.constants laid.file.labels given) thresholds
  is : IsProgramOf laid graphed.graphs graphed.configured thresholds p

made : (scale : Scale) (given bytes : List ℕ) (p : ProgramBodies) (a : IsAcceptedOn scale given bytes p)
    → IsMade scale given a.laid p
made scale given bytes p a = record {
  graphed = a.graphed;
  prepared = a.prepared;
  thresholds = a.thresholds;
  are = a.are;
  is = a.is;
}

one_made : (scale other : Scale) (given : List ℕ) (laid : LaidTree) (p q : ProgramBodies) → IsMade scale given laid p
    → IsMade other given laid q → p ≡ q
one_made scale other given laid p q a b =
    let same : a.thresholds ≡ b.thresholds = one_thresholds _ a.thresholds b.thresholds a.are b.are in
    let moved : IsProgramOf laid b.graphed.graphs b.graphed.configured a.thresholds p =
    other_program scale other laid a.graphed.graphs b.graphed.graphs a.graphed.configured b.graphed.configured
    a.prepared.0 b.prepared.0 a.prepared.1.0 b.prepared.1.0 a.thresholds p a.is in
    programs_are_one laid b.graphed.graphs b.graphed.configured b.thresholds p q
    (subst (λ ms. IsProgramOf laid b.graphed.graphs b.graphed.configured ms p) same moved) b.is

pub one_program : OneProgram
one_program scale other given bytes p q a b =
    let same : a.laid ≡ b.laid = one_layout bytes scale other a.laid b.laid a.source b.source in
    one_made scale other given b.laid p q (subst (λ l. IsMade scale given l p) same (made scale given bytes p a))
    (made other given bytes q b)

-- ## One refusal

-- a source that has a layout is refused where that is not prepared
prepared_once : (scale : Scale) (bytes : List ℕ) (laid : LaidTree) (r s : Refusal) → IsLaidSourceOn scale bytes laid
    → IsPrepared scale laid (Err (Fails.Refused r)) → IsRefusedOn scale bytes s → SameRefusal r s
prepared_once scale bytes laid r _ h p (too_long l) = absurd (let short = h.short in omega (arith, short, l))
prepared_once scale bytes laid r _ h p (not_lexed a l) = absurd (ok_is_err (one_lexing scale bytes h.lexed l))
prepared_once scale bytes laid r _ h p (not_parsed {tokens = ts} {refusal = s} a l q) =
    absurd (typed_not_parsed bytes h.tokens ts (Ok h.file) s h.lexed l h.typed q)
prepared_once scale bytes laid r _ h p (not_typed {tokens = ts} {refusal = s} a l t) =
    absurd (ok_is_err (one_answer bytes h.tokens ts (Ok h.file) (Err s) h.lexed l h.typed t))
prepared_once scale bytes laid r _ h p (not_laid {tokens = ts} {file = file} {refusal = s} a l t e) =
    let same : h.file ≡ file = from_ok (one_answer bytes h.tokens ts (Ok h.file) (Ok file) h.lexed l h.typed t) in
    absurd (ok_is_err (sym h.answered ∙ ap (laid_out scale) same ∙ e))
prepared_once scale bytes laid r _ h p (not_prepared {laid = other} {refusal = s} k q) =
    inl (one_refused scale laid r s p
    (subst (λ l. IsPrepared scale l (Err (Fails.Refused s))) (sym (one_layout bytes scale scale laid other h k)) q))

swapped : (r s : Refusal) → SameRefusal r s → SameRefusal s r
swapped r s (inl e) = inl (sym e)
swapped r s (inr (p, q, e, f)) = inr (q, p, f, e)

-- what typing says of a source, or else its layout
laid_once : (scale : Scale) (bytes : List ℕ) (tokens : List Token) (file : TypedFileTree) (r s : Refusal)
    → length bytes ≤ longest_on scale → LexesOn scale bytes (Ok tokens) → TypesAs (main_in bytes tokens) tokens (Ok file)
    → laid_out scale file ≡ Err r → IsRefusedOn scale bytes s → SameRefusal r s
laid_once scale bytes tokens file r _ short h t e (too_long l) = absurd (omega (arith, short, l))
laid_once scale bytes tokens file r _ short h t e (not_lexed a l) = absurd (ok_is_err (one_lexing scale bytes h l))
laid_once scale bytes tokens file r _ short h t e (not_parsed {tokens = ts} {refusal = s} a l q) =
    absurd (typed_not_parsed bytes tokens ts (Ok file) s h l t q)
laid_once scale bytes tokens file r _ short h t e (not_typed {tokens = ts} {refusal = s} a l u) =
    absurd (ok_is_err (one_answer bytes tokens ts (Ok file) (Err s) h l t u))
laid_once scale bytes tokens file r _ short h t e (not_laid {tokens = ts} {file = other} {refusal = s} a l u f) =
    let same : file ≡ other = from_ok (one_answer bytes tokens ts (Ok file) (Ok other) h l t u) in
    inl (from_err (sym e ∙ ap (laid_out scale) same ∙ f))
laid_once scale bytes tokens file r _ short h t e (not_prepared {laid = other} {refusal = s} k q) =
    swapped s r (prepared_once scale bytes other s r k q (not_laid {tokens = tokens} {file = file} short h t e))

typed_once : (scale : Scale) (bytes : List ℕ) (tokens : List Token) (r s : Refusal) → length bytes ≤ longest_on scale
    → LexesOn scale bytes (Ok tokens) → TypesAs (main_in bytes tokens) tokens (Err r) → IsRefusedOn scale bytes s
    → SameRefusal r s
typed_once scale bytes tokens r _ short h t (too_long l) = absurd (omega (arith, short, l))
typed_once scale bytes tokens r _ short h t (not_lexed a l) = absurd (ok_is_err (one_lexing scale bytes h l))
typed_once scale bytes tokens r _ short h t (not_parsed {tokens = ts} {refusal = s} a l q) =
    absurd (typed_not_parsed bytes tokens ts (Err r) s h l t q)
typed_once scale bytes tokens r _ short h t (not_typed {tokens = ts} {refusal = s} a l u) =
    inl (from_err (one_answer bytes tokens ts (Err r) (Err s) h l t u))
typed_once scale bytes tokens r _ short h t (not_laid {tokens = ts} {file = file} {refusal = s} a l u e) =
    absurd (ok_is_err (one_answer bytes ts tokens (Ok file) (Err r) l h u t))
typed_once scale bytes tokens r _ short h t (not_prepared {laid = other} {refusal = s} k q) =
    swapped s r (prepared_once scale bytes other s r k q (not_typed {tokens = tokens} short h t))

parsed_at_all : (scale : Scale) (bytes : List ℕ) (tokens : List Token) (r s : Refusal) → length bytes ≤ longest_on scale
    → LexesOn scale bytes (Ok tokens) → Parses tokens (Err r) → IsRefusedOn scale bytes s → SameRefusal r s
parsed_at_all scale bytes tokens r _ short h p (too_long l) = absurd (omega (arith, short, l))
parsed_at_all scale bytes tokens r _ short h p (not_lexed a l) = absurd (ok_is_err (one_lexing scale bytes h l))
parsed_at_all scale bytes tokens r _ short h p (not_parsed {tokens = ts} {refusal = s} a l q) =
    parsed_once ts (Err r) (Err s) r s (subst (λ us. Parses us (Err r)) (one_list bytes tokens ts h l) p) q refl refl
parsed_at_all scale bytes tokens r _ short h p (not_typed {tokens = ts} {refusal = s} a l u) =
    swapped s r (typed_once scale bytes ts s r a l u (not_parsed {tokens = tokens} short h p))
parsed_at_all scale bytes tokens r _ short h p (not_laid {tokens = ts} {file = file} {refusal = s} a l u e) =
    swapped s r (laid_once scale bytes ts file s r a l u e (not_parsed {tokens = tokens} short h p))
parsed_at_all scale bytes tokens r _ short h p (not_prepared {laid = other} {refusal = s} k q) =
    swapped s r (prepared_once scale bytes other s r k q (not_parsed {tokens = tokens} short h p))

lexed_once : (scale : Scale) (bytes : List ℕ) (r s : Refusal) → length bytes ≤ longest_on scale → LexesOn scale bytes (Err r)
    → IsRefusedOn scale bytes s → SameRefusal r s
lexed_once scale bytes r _ short h (too_long l) = absurd (omega (arith, short, l))
lexed_once scale bytes r _ short h (not_lexed a l) = inl (from_err (one_lexing scale bytes h l))
lexed_once scale bytes r _ short h (not_parsed a l q) = absurd (ok_is_err (one_lexing scale bytes l h))
lexed_once scale bytes r _ short h (not_typed a l u) = absurd (ok_is_err (one_lexing scale bytes l h))
lexed_once scale bytes r _ short h (not_laid a l u e) = absurd (ok_is_err (one_lexing scale bytes l h))
lexed_once scale bytes r _ short h (not_prepared k q) = absurd (ok_is_err (one_lexing scale bytes k.lexed h))

long_once : (scale : Scale) (bytes : List ℕ) (s : Refusal) → longest_on scale < length bytes → IsRefusedOn scale bytes s
    → SameRefusal source_limit s
long_once scale bytes _ h (too_long l) = inl refl
long_once scale bytes _ h (not_lexed a l) = absurd (omega (arith, h, a))
long_once scale bytes _ h (not_parsed a l q) = absurd (omega (arith, h, a))
long_once scale bytes _ h (not_typed a l u) = absurd (omega (arith, h, a))
long_once scale bytes _ h (not_laid a l u e) = absurd (omega (arith, h, a))
long_once scale bytes _ h (not_prepared k q) = absurd (let short = k.short in omega (arith, h, short))

pub one_refusal : OneRefusal
one_refusal scale bytes _ s (too_long l) b = long_once scale bytes s l b
one_refusal scale bytes _ s (not_lexed {refusal = r} a l) b = lexed_once scale bytes r s a l b
one_refusal scale bytes _ s (not_parsed {tokens = ts} {refusal = r} a l p) b = parsed_at_all scale bytes ts r s a l p b
one_refusal scale bytes _ s (not_typed {tokens = ts} {refusal = r} a l t) b = typed_once scale bytes ts r s a l t b
one_refusal scale bytes _ s (not_laid {tokens = ts} {file = file} {refusal = r} a l t e) b =
    laid_once scale bytes ts file r s a l t e b
one_refusal scale bytes _ s (not_prepared {laid = laid} {refusal = r} k p) b = prepared_once scale bytes laid r s k p b
