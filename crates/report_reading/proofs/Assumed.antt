-- Assumptions are read back, line by line.
use Rattle.std.proofs.Common.{◌≡◌, ◌∙◌, ℕ, ◌<◌, ◌^◌, List, [], ◌∷◌, ◌++◌, length, get_or, refl, sym, ap, subst, arith, append-nil, decimal, Option, Some, None, Bool, true, false, bytes_eq, ltb-true}
use Rattle.std.specs.Prelude.{codes, IsUtf8, if◌then◌else◌, nat_lt, not, ◌==◌, ◌||◌}
use Rattle.std.specs.List.{flat_map, list_any}
use Rattle.std.specs.Str.{IsAscii}
use Rattle.std.proofs.lemmas.Bool.{eqb-false}
use Rattle.std.proofs.lemmas.Fmt.{IsAscii-decimal}
use Rattle.std.proofs.lemmas.List.{append_assoc}
use Rattle.std.proofs.lemmas.Slice.Eq.{bytes_eq-Decides}
use Rattle.std.proofs.lemmas.Str.{IsAscii-append, IsUtf8-from_ascii}
use Rattle.tm_terms.specs.Texts.{place_text}
use Rattle.report_reading.specs.declared.assumptions.Assumption.{Assumption}
use Rattle.report_reading.specs.declared.assumptions.AssumptionKind.{AssumptionKind}
use Rattle.report_reading.specs.declared.assumptions.AssumptionKind.TheVariants as Kinds
use Rattle.report_reading.specs.Assumptions.{HavePlacesInRange, assumption_line, assumptions_text, kind_text, number_line}
use Rattle.report_reading.specs.reading.Assumed.{AreUnread, kind_of, lines_before, number_line_of, taken_before}
use Rattle.report_reading.proofs.Listed.{Avoids, ascii_cons, ascii_nil, ascii_place, avoids_cons, avoids_nil, line_is, number_no_letters}

-- ## Words

-- what a test of each byte says
avoids_first : (b x : ℕ) (text : List ℕ) (t : Bool) → (x == b) ≡ t → (t || list_any (λ y. y == b) text) ≡ false
    → (list_any (λ y. y == b) text ≡ false → Avoids b text) → Avoids b (x ∷ text)
avoids_first b x text true e none more = absurd cc
avoids_first b x text false e none more = avoids_cons b x text (eqb-false x b e) (more none)

pub avoids_by : (b : ℕ) (text : List ℕ) → list_any (λ x. x == b) text ≡ false → Avoids b text
avoids_by b [] none = avoids_nil b
avoids_by b (x ∷ text) none = avoids_first b x text (x == b) refl none (avoids_by b text)

ascii_first : (x : ℕ) (text rest : List ℕ) (t : Bool) → nat_lt x 128 ≡ t
    → (not t || list_any (λ y. not (nat_lt y 128)) text) ≡ false
    → (list_any (λ y. not (nat_lt y 128)) text ≡ false → IsAscii (text ++ rest)) → IsAscii (x ∷ (text ++ rest))
ascii_first x text rest true e none more = ascii_cons x (text ++ rest) (ltb-true x 128 e) (more none)
ascii_first x text rest false e none more = absurd cc

ascii_by : (text rest : List ℕ) → list_any (λ x. not (nat_lt x 128)) text ≡ false → IsAscii rest → IsAscii (text ++ rest)
ascii_by [] rest none f = f
ascii_by (x ∷ text) rest none f = ascii_first x text rest (nat_lt x 128) refl none (λ others. ascii_by text rest others f)

pub kind_avoids : (kind : AssumptionKind) → Avoids 10 (kind_text kind)
kind_avoids Kinds.Const = avoids_by 10 (codes "CONST") refl
kind_avoids Kinds.Enum = avoids_by 10 (codes "ENUM") refl
kind_avoids Kinds.Implementation = avoids_by 10 (codes "IMPLEMENTATION") refl
kind_avoids Kinds.Layout = avoids_by 10 (codes "LAYOUT") refl
kind_avoids Kinds.Lifetime = avoids_by 10 (codes "LIFETIME") refl
kind_avoids Kinds.Member = avoids_by 10 (codes "MEMBER") refl
kind_avoids Kinds.Order = avoids_by 10 (codes "ORDER") refl
kind_avoids Kinds.Pragma = avoids_by 10 (codes "PRAGMA") refl
kind_avoids Kinds.Reserved = avoids_by 10 (codes "RESERVED") refl
kind_avoids Kinds.Restrict = avoids_by 10 (codes "RESTRICT") refl
kind_avoids Kinds.Unset = avoids_by 10 (codes "UNSET") refl

ascii_kind : (kind : AssumptionKind) (rest : List ℕ) → IsAscii rest → IsAscii (kind_text kind ++ rest)
ascii_kind Kinds.Const rest = ascii_by (codes "CONST") rest refl
ascii_kind Kinds.Enum rest = ascii_by (codes "ENUM") rest refl
ascii_kind Kinds.Implementation rest = ascii_by (codes "IMPLEMENTATION") rest refl
ascii_kind Kinds.Layout rest = ascii_by (codes "LAYOUT") rest refl
ascii_kind Kinds.Lifetime rest = ascii_by (codes "LIFETIME") rest refl
ascii_kind Kinds.Member rest = ascii_by (codes "MEMBER") rest refl
ascii_kind Kinds.Order rest = ascii_by (codes "ORDER") rest refl
ascii_kind Kinds.Pragma rest = ascii_by (codes "PRAGMA") rest refl
ascii_kind Kinds.Reserved rest = ascii_by (codes "RESERVED") rest refl
ascii_kind Kinds.Restrict rest = ascii_by (codes "RESTRICT") rest refl
ascii_kind Kinds.Unset rest = ascii_by (codes "UNSET") rest refl

pub word_avoids_blank : Avoids 32 (codes "assumptions")
word_avoids_blank = avoids_by 32 (codes "assumptions") refl

pub same_kind : (kind : AssumptionKind) → kind_of (kind_text kind) ≡ Some kind
same_kind Kinds.Const = refl
same_kind Kinds.Enum = refl
same_kind Kinds.Implementation = refl
same_kind Kinds.Layout = refl
same_kind Kinds.Lifetime = refl
same_kind Kinds.Member = refl
same_kind Kinds.Order = refl
same_kind Kinds.Pragma = refl
same_kind Kinds.Reserved = refl
same_kind Kinds.Restrict = refl
same_kind Kinds.Unset = refl

-- a word that is none of a list has no kind
none_by : (word text : List ℕ) (kind : AssumptionKind) (rest : Option AssumptionKind) → (word ≡ text → ⊥) → rest ≡ None
    → (if bytes_eq word text then Some kind else rest) ≡ None
none_by word text kind rest other none = by_test (bytes_eq word text) refl
  where
    by_test : (t : Bool) → bytes_eq word text ≡ t → (if t then Some kind else rest) ≡ None
    by_test true e = absurd (other ((bytes_eq-Decides word text).0 e))
    by_test false e = none

-- a number has no kind
pub no_kind : (n : ℕ) (word : List ℕ) → n < 2 ^ 64 → word ≡ decimal n → kind_of word ≡ None
no_kind n word small e =
    none_by word (codes "CONST") Kinds.Const _ (not_word (codes "CONST") (omega arith))
    (none_by word (codes "ENUM") Kinds.Enum _ (not_word (codes "ENUM") (omega arith))
    (none_by word (codes "IMPLEMENTATION") Kinds.Implementation _ (not_word (codes "IMPLEMENTATION") (omega arith))
    (none_by word (codes "LAYOUT") Kinds.Layout _ (not_word (codes "LAYOUT") (omega arith))
    (none_by word (codes "LIFETIME") Kinds.Lifetime _ (not_word (codes "LIFETIME") (omega arith))
    (none_by word (codes "MEMBER") Kinds.Member _ (not_word (codes "MEMBER") (omega arith))
    (none_by word (codes "ORDER") Kinds.Order _ (not_word (codes "ORDER") (omega arith))
    (none_by word (codes "PRAGMA") Kinds.Pragma _ (not_word (codes "PRAGMA") (omega arith))
    (none_by word (codes "RESERVED") Kinds.Reserved _ (not_word (codes "RESERVED") (omega arith))
    (none_by word (codes "RESTRICT") Kinds.Restrict _ (not_word (codes "RESTRICT") (omega arith))
    (none_by word (codes "UNSET") Kinds.Unset None (not_word (codes "UNSET") (omega arith)) refl))))))))))
  where
    not_word : (text : List ℕ) → 57 < get_or text 0 0 → word ≡ text → ⊥
    not_word text letter f = number_no_letters n word text small e letter f

-- ## Lines

list_lines : (list : List Assumption) (count : ℕ)
    → flat_map assumption_line list ++ number_line count ≡ lines_before list count
list_lines [] count = append_assoc (codes "assumptions ") (decimal count) (10 ∷ [])
list_lines (a ∷ list) count =
    line_is (place_text a.place) (32 ∷ kind_text a.kind) (flat_map assumption_line list) (number_line count)
    ∙ ap (λ t. place_text a.place ++ (32 ∷ (kind_text a.kind ++ (10 ∷ t)))) (list_lines list count)

pub text_lines : (list : List Assumption) → assumptions_text list ≡ lines_before list (length list)
text_lines list = list_lines list (length list)

-- ## The assumptions that are left

pub unread_first : (list : List Assumption) (text : List ℕ) → HavePlacesInRange list → text ≡ assumptions_text list
    → AreUnread list [] text
unread_first list text small e = record { more = list; are = refl; small = small; lines = e ∙ text_lines list }

module _ (list found : List Assumption) (left : List ℕ) where
  -- none was found
  pub unread_none : ((a : Assumption) (rest : List ℕ) → HavePlacesInRange (a ∷ []) → left ≡ taken_before a rest → ⊥)
      → AreUnread list found left → found ≡ list
  unread_none none are = by_case are.more are.are are.small are.lines
    where
      by_case : (more : List Assumption) → list ≡ found ++ more → HavePlacesInRange more
          → left ≡ lines_before more (length list) → found ≡ list
      by_case [] e small lines = sym (append-nil found) ∙ sym e
      by_case (a ∷ more) e small lines = absurd (none a (lines_before more (length list)) (small.0, tt) lines)

  -- one was
  pub unread_some : (one : Assumption) (behind : List ℕ) → length list < 2 ^ 64
      → ((a : Assumption) (rest : List ℕ) → HavePlacesInRange (a ∷ []) → left ≡ taken_before a rest
      → (one ≡ a) × (behind ≡ rest)) → ((n : ℕ) → n < 2 ^ 64 → left ≡ number_line_of n → ⊥)
      → AreUnread list found left → AreUnread list (found ++ (one ∷ [])) behind
  unread_some one behind few line last are = by_case are.more are.are are.small are.lines
    where
      by_case : (more : List Assumption) → list ≡ found ++ more → HavePlacesInRange more
          → left ≡ lines_before more (length list) → AreUnread list (found ++ (one ∷ [])) behind
      by_case [] e small lines = absurd (last (length list) few lines)
      by_case (a ∷ more) e small lines =
          let both = line a (lines_before more (length list)) (small.0, tt) lines in
          record {
            more = more;
            are = e ∙ ap (λ q. found ++ (q ∷ more)) (sym both.0) ∙ sym (append_assoc found (one ∷ []) more);
            small = small.1;
            lines = both.1;
          }

-- ## The text is in ASCII

ascii_lines : (list : List Assumption) (count : ℕ) → HavePlacesInRange list → count < 2 ^ 64
    → IsAscii (lines_before list count)
ascii_lines [] count small few =
    ascii_by (codes "assumptions") (32 ∷ (decimal count ++ (10 ∷ []))) refl
    (ascii_cons 32 (decimal count ++ (10 ∷ [])) (omega arith)
    (IsAscii-append (decimal count) (10 ∷ []) (IsAscii-decimal count few) (ascii_cons 10 [] (omega arith) ascii_nil)))
ascii_lines (a ∷ list) count small few =
    let rest = lines_before list count in
    IsAscii-append (place_text a.place) (32 ∷ (kind_text a.kind ++ (10 ∷ rest))) (ascii_place a.place small.0)
    (ascii_cons 32 (kind_text a.kind ++ (10 ∷ rest)) (omega arith)
    (ascii_kind a.kind (10 ∷ rest) (ascii_cons 10 rest (omega arith) (ascii_lines list count small.1 few))))

pub assumptions_utf8 : (list : List Assumption) (text : List ℕ) → HavePlacesInRange list → length list < 2 ^ 64
    → text ≡ assumptions_text list → IsUtf8 text
assumptions_utf8 list text small few e =
    subst IsUtf8 (sym (e ∙ text_lines list))
    (IsUtf8-from_ascii (lines_before list (length list)) (ascii_lines list (length list) small few))
