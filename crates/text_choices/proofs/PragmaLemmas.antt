-- A reading of the source piece by piece, and the lines with `pragma` before it.
use Rattle.std.proofs.Common.{◌≡◌, ℕ, zero, suc, ◌+◌, ◌<◌, ◌≤◌, Bool, true, false, eqb, ◌&&◌, List, [], ◌∷◌, ◌++◌, length, get_or, take, drop, Option, Some, None, refl, sym, ap, ◌∙◌, inl, inr, ◌⊎◌, arith}
use Rattle.std.specs.Prelude.{option_map, option_and_then, IsTrue, codes, bytes_eq}
use Rattle.std.proofs.lemmas.Bool.{cases_lt, eqb-true}
use Rattle.std.proofs.lemmas.List.{drop_all}
use Rattle.std.proofs.lemmas.Slice.Eq.{bytes_eq-Decides}
use Rattle.tm_terms.specs.Lexis.{begins, front, behind, is_name_byte, is_blank_in_line}
use Rattle.tm_terms.specs.Spelling.{Reading, first_place, read_past, next_reading, reading, place_after, bare_after, token_of}
use Rattle.tm_terms.specs.declared.places.Place.{Place}
use Rattle.tm_terms.specs.declared.tokens.Piece.{Piece}
use Rattle.tm_terms.specs.declared.tokens.Shape.{Shape}
use Rattle.text_choices.specs.declared.kinds.Kind.TheVariants as Kinds
use Rattle.text_choices.specs.declared.kinds.Choice.{Choice}
use Rattle.text_choices.specs.Choices.{Adds, OfKind}
use Rattle.text_choices.specs.Texts.{IsPragma}
use Rattle.text_choices.specs.reading.Pragmas.{word_behind, is_pragma, is_pragma_piece, IsPragmaBelow, Passes}
use Rattle.text_choices.proofs.Additions.{Adds-nothing, Adds-same, Adds-behind}
use Rattle.text_choices.proofs.TokenLemmas.{choice_is}

-- ## The test and what it says

both : (a b : Bool) → (a && b) ≡ true → (a ≡ true) × (b ≡ true)
both true b h = (refl, h)
both false b h = cc

begun_by : (text : List ℕ) → eqb (get_or text 0 0) 35 ≡ true → text ≡ 35 ∷ drop 1 text
begun_by [] h = cc
begun_by (a ∷ text) h = ap (λ b. b ∷ text) (eqb-true a 35 h)

pragma_begins : (text : List ℕ) → is_pragma text ≡ true → text ≡ 35 ∷ drop 1 text
pragma_begins text h = begun_by text (both _ _ h).0

pragma_word : (text : List ℕ) → is_pragma text ≡ true → word_behind text ≡ codes "pragma"
pragma_word text h = (bytes_eq-Decides (word_behind text) (codes "pragma")).0 (both _ _ h).1

pragma_is : (text rest : List ℕ) → text ≡ 35 ∷ rest → front is_name_byte (behind is_blank_in_line rest) ≡ codes "pragma" → is_pragma text ≡ true
pragma_is text rest e word =
    let same : bytes_eq (front is_name_byte (behind is_blank_in_line rest)) (codes "pragma") ≡ true = (bytes_eq-Decides (front is_name_byte (behind is_blank_in_line rest)) (codes "pragma")).1 word in
    rw e same

piece_skipped : (s : Option Shape) (text : List ℕ) → is_pragma_piece s text ≡ true → s ≡ None
piece_skipped None text h = refl
piece_skipped (Some s) text h = cc

piece_pragma : (s : Option Shape) (text : List ℕ) → is_pragma_piece s text ≡ true → is_pragma text ≡ true
piece_pragma None text h = h
piece_pragma (Some s) text h = cc

-- ## The readings

module _ (source : List ℕ) where
  none_later : (n k : ℕ) → k ≤ n → reading source k ≡ None → reading source n ≡ None
  unfolding reading
  none_later zero k h none = let same : k ≡ 0 = omega arith in rw same at none
  none_later (suc n) k h none = by_order (cases_lt k (suc n)) (λ less. none_later n k less none)
    where
      by_order : (k < suc n) ⊎ (suc n ≤ k) → (k ≤ n → reading source n ≡ None) → reading source (suc n) ≡ None
      by_order (inl less) earlier = ap (option_and_then (next_reading source)) (earlier (omega arith))
      by_order (inr more) earlier = let same : k ≡ suc n = omega arith in rw same at none

  pub Passes-start : (old : List Choice) → Passes source 0 first_place true old old
  unfolding reading
  Passes-start old = record {
    pieces = 0;
    tokens = [];
    read = refl;
    added = Adds-nothing old (OfKind Kinds.Pragma (IsPragmaBelow source 0)) (λ x h. omega (arith, h.1.1));
  }

  -- the reading of a line where the reading of so many pieces stands
  same_reading : (n : ℕ) (r : Reading) → reading source n ≡ Some r → (place : Place) (line : IsPragma source place) → line.pieces ≡ n → line.at ≡ r
  same_reading n r read place line e = let there : reading source n ≡ Some line.at = rw e at line.reads in cc

  module _ (n : ℕ) (r : Reading) (p : Piece) (read : reading source n ≡ Some r) (begun : begins r.at r.bare (drop r.at source) ≡ Some p) where
    abbrev Here : Choice → Type 0
    Here x = IsTrue (is_pragma_piece p.shape (drop r.at source)) × (x ≡ record { place = r.place; kind = Kinds.Pragma })

    line_here : (x : Choice) → Here x → OfKind Kinds.Pragma (IsPragmaBelow source (suc n)) x
    line_here x h =
        let is = piece_pragma p.shape (drop r.at source) h.0 in
        let line : IsPragma source x.place = record {
          pieces = n;
          at = r;
          reads = read;
          is = sym (ap (λ (y : Choice). y.place) h.1);
          piece = p;
          begun = begun;
          skipped = piece_skipped p.shape (drop r.at source) h.0;
          rest = drop 1 (drop r.at source);
          sign = pragma_begins (drop r.at source) is;
          word = pragma_word (drop r.at source) is;
        } in
        (ap (λ (y : Choice). y.kind) h.1, (line, omega arith))

    here_line : (x : Choice) (kind : x.kind ≡ Kinds.Pragma) (line : IsPragma source x.place) → line.pieces ≡ n → Here x
    here_line x kind line e =
        let same = same_reading n r read x.place line e in
        let there : begins r.at r.bare (drop r.at source) ≡ Some line.piece = rw same at line.begun in
        let piece : line.piece ≡ p = cc in
        let skipped : p.shape ≡ None = sym (ap (λ (q : Piece). q.shape) piece) ∙ line.skipped in
        let sign : drop r.at source ≡ 35 ∷ line.rest = rw same at line.sign in
        (rw skipped (pragma_is (drop r.at source) line.rest sign line.word), choice_is x Kinds.Pragma r.place kind (sym line.is ∙ ap (λ (q : Reading). q.place) same))

    pub lines_more : (old new newer : List Choice) → Adds old new (OfKind Kinds.Pragma (IsPragmaBelow source n)) → Adds new newer Here
        → Adds old newer (OfKind Kinds.Pragma (IsPragmaBelow source (suc n)))
    lines_more old new newer h k =
        Adds-same old newer (λ x. OfKind Kinds.Pragma (IsPragmaBelow source n) x ⊎ Here x) (OfKind Kinds.Pragma (IsPragmaBelow source (suc n))) to fro
        (Adds-behind old new newer (OfKind Kinds.Pragma (IsPragmaBelow source n)) Here h k)
      where
        to : (x : Choice) → OfKind Kinds.Pragma (IsPragmaBelow source n) x ⊎ Here x → OfKind Kinds.Pragma (IsPragmaBelow source (suc n)) x
        to x (inl c) = (c.0, (c.1.0, omega (arith, c.1.1)))
        to x (inr c) = line_here x c

        by_order : (x : Choice) (kind : x.kind ≡ Kinds.Pragma) (line : IsPragma source x.place) → line.pieces < suc n → (line.pieces < n) ⊎ (n ≤ line.pieces)
            → OfKind Kinds.Pragma (IsPragmaBelow source n) x ⊎ Here x
        by_order x kind line below (inl less) = inl (kind, (line, less))
        by_order x kind line below (inr more) = inr (here_line x kind line (omega arith))

        fro : (x : Choice) → OfKind Kinds.Pragma (IsPragmaBelow source (suc n)) x → OfKind Kinds.Pragma (IsPragmaBelow source n) x ⊎ Here x
        fro x c = by_order x c.0 c.1.0 c.1.1 (cases_lt c.1.0.pieces n)

  Passes-more : (at : ℕ) (place : Place) (bare : Bool) (old new newer : List Choice) (p : Piece) (s : Passes source at place bare old new)
      → begins at bare (drop at source) ≡ Some p
      → Adds new newer (λ x. IsTrue (is_pragma_piece p.shape (drop at source)) × (x ≡ record { place = place; kind = Kinds.Pragma }))
      → Passes source (at + p.length) (place_after place (take p.length (drop at source))) (bare_after bare (take p.length (drop at source))) old newer
  unfolding reading next_reading
  Passes-more at place bare old new newer p s begun here =
      let r : Reading = record { at = at; place = place; bare = bare; tokens = s.tokens } in
      record {
        pieces = suc s.pieces;
        tokens = s.tokens ++ token_of place p.shape;
        read = ap (option_and_then (next_reading source)) s.read ∙ ap (option_map (read_past source r)) begun;
        added = lines_more s.pieces r p s.read begun old new newer s.added here;
      }

  -- the same, with names for what is left of the source, for the text of the piece and for the test
  pub Passes-past : (at : ℕ) (place past : Place) (bare still holds : Bool) (old new newer : List Choice) (p : Piece) (rest text : List ℕ)
      → Passes source at place bare old new → rest ≡ drop at source → Some p ≡ begins at bare rest → holds ≡ is_pragma_piece p.shape rest
      → Adds new newer (λ x. IsTrue holds × (x ≡ record { place = place; kind = Kinds.Pragma }))
      → text ≡ take p.length rest → past ≡ place_after place text → still ≡ bare_after bare text
      → Passes source (at + p.length) past still old newer
  Passes-past at place past bare still holds old new newer p rest text s left begun is here cut place_is bare_is =
      let cut_off : text ≡ take p.length (drop at source) = cut ∙ ap (take p.length) left in
      let test : holds ≡ is_pragma_piece p.shape (drop at source) = is ∙ ap (is_pragma_piece p.shape) left in
      rw (place_is, bare_is, cut_off) (Passes-more at place bare old new newer p s (sym (begun ∙ ap (begins at bare) left)) (rw test at here))

  -- where nothing begins, no line is left
  pub Passes-stopped : (at : ℕ) (place : Place) (bare : Bool) (old new : List Choice) → Passes source at place bare old new → begins at bare (drop at source) ≡ None
      → Adds old new (OfKind Kinds.Pragma (IsPragma source))
  unfolding reading next_reading
  Passes-stopped at place bare old new s stopped =
      Adds-same old new (OfKind Kinds.Pragma (IsPragmaBelow source s.pieces)) (OfKind Kinds.Pragma (IsPragma source)) (λ x c. (c.0, c.1.0)) fro s.added
    where
      ended : reading source (suc s.pieces) ≡ None
      ended =
          let r : Reading = record { at = at; place = place; bare = bare; tokens = s.tokens } in
          ap (option_and_then (next_reading source)) s.read ∙ ap (option_map (read_past source r)) stopped

      not_here : (x : Choice) (line : IsPragma source x.place) → line.pieces ≡ s.pieces → ⊥
      not_here x line e =
          let same = same_reading s.pieces (record { at = at; place = place; bare = bare; tokens = s.tokens }) s.read x.place line e in
          let there : begins at bare (drop at source) ≡ Some line.piece = rw same at line.begun in
          cc

      not_later : (x : Choice) (line : IsPragma source x.place) → suc s.pieces ≤ line.pieces → ⊥
      not_later x line h = let gone = none_later line.pieces (suc s.pieces) h ended in let some = line.reads in cc

      by_order : (x : Choice) (line : IsPragma source x.place) → (line.pieces < s.pieces) ⊎ (s.pieces ≤ line.pieces) → (s.pieces < line.pieces) ⊎ (line.pieces ≤ s.pieces) → line.pieces < s.pieces
      by_order x line (inl less) _ = less
      by_order x line (inr more) (inl less) = absurd (not_later x line less)
      by_order x line (inr more) (inr least) = absurd (not_here x line (omega arith))

      fro : (x : Choice) → OfKind Kinds.Pragma (IsPragma source) x → OfKind Kinds.Pragma (IsPragmaBelow source s.pieces) x
      fro x c = (c.0, (c.1, by_order x c.1 (cases_lt c.1.pieces s.pieces) (cases_lt s.pieces c.1.pieces)))

  -- where it ends, neither
  pub Passes-ended : (at : ℕ) (place : Place) (bare : Bool) (old new : List Choice) → Passes source at place bare old new → length source ≤ at
      → Adds old new (OfKind Kinds.Pragma (IsPragma source))
  unfolding begins
  Passes-ended at place bare old new s all =
      let nothing : drop at source ≡ [] = drop_all at source all in
      Passes-stopped at place bare old new s (ap (begins at bare) nothing)
