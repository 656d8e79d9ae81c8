-- What is told of alarms is read back, line by line.
use Rattle.std.proofs.Common.{◌≡◌, ◌∙◌, ℕ, ◌<◌, List, [], ◌∷◌, ◌++◌, length, map, refl, sym, ap, subst, arith, append-nil, Option, Some}
use Rattle.std.specs.Prelude.{codes, Contains, MatchOption}
use Rattle.std.specs.Borrow.{Bor}
use Rattle.std.proofs.lemmas.List.{append_assoc, map-append}
use Rattle.std.proofs.lemmas.List.Elements.{Contains-get_or}
use Rattle.std.proofs.lemmas.Str.Pattern.{IsSplitOnceResult, split_after}
use Rattle.tm_cint.specs.declared.Class.{Class}
use Rattle.tm_cint.specs.declared.Class.TheVariants.{Overflow, Div, Shift, Index, Pointer, Deref, Lock, Race}
use Rattle.tm_terms.specs.Texts.{class_text, place_text}
use Rattle.report_reading.specs.Ways.{AreTellable, IsTellable, Way, way_text, ways_text}
use Rattle.report_reading.specs.declared.ways.Way.{Way as WayCode}
use Rattle.report_reading.specs.declared.ways.WayKind.{WayKind}
use Rattle.report_reading.specs.declared.ways.WayKind.TheVariants as Kinds
use Rattle.report_reading.specs.reading.Told.{AreUntold, told_before, way_kind_of, way_seen, words_of}
use Rattle.report_reading.specs.reading.Told.{behind_class, behind_kind, behind_place}
use Rattle.report_reading.proofs.Assumed.{avoids_by}
use Rattle.report_reading.proofs.Listed.{Avoids, avoids_append, avoids_cons, place_avoids, place_avoids_end}

-- ## Words

class_avoids : (k : Class) → Avoids 32 (class_text k)
class_avoids Overflow = avoids_by 32 (codes "OVERFLOW") refl
class_avoids Div = avoids_by 32 (codes "DIV") refl
class_avoids Shift = avoids_by 32 (codes "SHIFT") refl
class_avoids Index = avoids_by 32 (codes "INDEX") refl
class_avoids Pointer = avoids_by 32 (codes "POINTER") refl
class_avoids Deref = avoids_by 32 (codes "DEREF") refl
class_avoids Lock = avoids_by 32 (codes "LOCK") refl
class_avoids Race = avoids_by 32 (codes "RACE") refl

class_avoids_end : (k : Class) → Avoids 10 (class_text k)
class_avoids_end Overflow = avoids_by 10 (codes "OVERFLOW") refl
class_avoids_end Div = avoids_by 10 (codes "DIV") refl
class_avoids_end Shift = avoids_by 10 (codes "SHIFT") refl
class_avoids_end Index = avoids_by 10 (codes "INDEX") refl
class_avoids_end Pointer = avoids_by 10 (codes "POINTER") refl
class_avoids_end Deref = avoids_by 10 (codes "DEREF") refl
class_avoids_end Lock = avoids_by 10 (codes "LOCK") refl
class_avoids_end Race = avoids_by 10 (codes "RACE") refl

way_avoids : (kind : WayKind) → Avoids 32 (way_text kind)
way_avoids Kinds.With = avoids_by 32 (codes "with") refl
way_avoids Kinds.Path = avoids_by 32 (codes "path") refl
way_avoids Kinds.Call = avoids_by 32 (codes "call") refl

way_avoids_end : (kind : WayKind) → Avoids 10 (way_text kind)
way_avoids_end Kinds.With = avoids_by 10 (codes "with") refl
way_avoids_end Kinds.Path = avoids_by 10 (codes "path") refl
way_avoids_end Kinds.Call = avoids_by 10 (codes "call") refl

pub same_way_kind : (kind : WayKind) → way_kind_of (way_text kind) ≡ Some kind
same_way_kind Kinds.With = refl
same_way_kind Kinds.Path = refl
same_way_kind Kinds.Call = refl

-- a sentence that stands in one line
said_avoids : (said : List ℕ) → (Contains said 10 → ⊥) → Avoids 10 said
said_avoids said one_line i lt e = one_line (subst (Contains said) e (Contains-get_or said i 0 lt))

behind : (text rest : List ℕ) → Avoids 10 text → Avoids 10 rest → Avoids 10 (text ++ (32 ∷ rest))
behind text rest f g = avoids_append 10 text (32 ∷ rest) f (avoids_cons 10 32 rest (λ e. omega (arith, e)) g)

pub words_avoid : (w : Way) → IsTellable w → Avoids 10 (words_of w)
words_avoid w can =
    behind (place_text w.place) (behind_place w) (place_avoids_end w.place can.0)
    (behind (class_text w.class) (behind_class w) (class_avoids_end w.class)
    (behind (way_text w.kind) (behind_kind w) (way_avoids_end w.kind)
    (behind (place_text w.site) w.said (place_avoids_end w.site can.1) (said_avoids w.said can.2))))

-- ## The parts of a line

-- a text is cut at its first blank
abbrev pub AreCut : Option (Bor (List ℕ) × Bor (List ℕ)) → List ℕ → List ℕ → Type 0
AreCut cut word rest = MatchOption cut ⊥ (λ r. (r.0.now ≡ word) × (r.1.now ≡ rest))

module _ (w : Way) (text : List ℕ) (cut : Option (Bor (List ℕ) × Bor (List ℕ)))
    (is : IsSplitOnceResult 32 text cut) where
  pub place_cut : IsTellable w → text ≡ words_of w → AreCut cut (place_text w.place) (behind_place w)
  place_cut can e =
      split_after 32 text (place_text w.place) (behind_place w) cut is (omega arith) e (place_avoids w.place can.0)

  pub class_cut : text ≡ behind_place w → AreCut cut (class_text w.class) (behind_class w)
  class_cut e = split_after 32 text (class_text w.class) (behind_class w) cut is (omega arith) e (class_avoids w.class)

  pub kind_cut : text ≡ behind_class w → AreCut cut (way_text w.kind) (behind_kind w)
  kind_cut e = split_after 32 text (way_text w.kind) (behind_kind w) cut is (omega arith) e (way_avoids w.kind)

  pub site_cut : IsTellable w → text ≡ behind_kind w → AreCut cut (place_text w.site) w.said
  site_cut can e = split_after 32 text (place_text w.site) w.said cut is (omega arith) e (place_avoids w.site can.1)

-- ## Lines

pub line_first : (w : Way) (ways : List Way) → ways_text (w ∷ ways) ≡ told_before w (ways_text ways)
line_first w ways = append_assoc (words_of w) (10 ∷ []) (ways_text ways)

-- ## The ways that are left

pub untold_first : (list : List Way) (text : List ℕ) → AreTellable list → text ≡ ways_text list → AreUntold list [] text
untold_first list text can e = record { more = list; are = refl; can = can; lines = e }

module _ (list found : List Way) (left : List ℕ) where
  -- none was found
  pub untold_none : ((w : Way) (rest : List ℕ) → IsTellable w → left ≡ told_before w rest → ⊥)
      → AreUntold list found left → found ≡ list
  untold_none none are = by_case are.more are.are are.can are.lines
    where
      by_case : (more : List Way) → list ≡ found ++ more → AreTellable more → left ≡ ways_text more → found ≡ list
      by_case [] e can lines = sym (append-nil found) ∙ sym e
      by_case (w ∷ more) e can lines = absurd (none w (ways_text more) can.0 (lines ∙ line_first w more))

  -- one was
  pub untold_some : (one : Way) (behind : List ℕ) → length behind < length left
      → ((w : Way) (rest : List ℕ) → IsTellable w → left ≡ told_before w rest → (one ≡ w) × (behind ≡ rest))
      → AreUntold list found left → AreUntold list (found ++ (one ∷ [])) behind
  untold_some one behind smaller line are = by_case are.more are.are are.can are.lines
    where
      by_case : (more : List Way) → list ≡ found ++ more → AreTellable more → left ≡ ways_text more
          → AreUntold list (found ++ (one ∷ [])) behind
      by_case [] e can lines = let none : length left ≡ 0 = ap length lines in absurd (omega (arith, smaller, none))
      by_case (w ∷ more) e can lines =
          let both = line w (ways_text more) can.0 (lines ∙ line_first w more) in
          record {
            more = more;
            are = e ∙ ap (λ q. found ++ (q ∷ more)) (sym both.0) ∙ sym (append_assoc found (one ∷ []) more);
            can = can.1;
            lines = both.1;
          }

-- those that were found, and one more, as the definitions see them
pub seen_more : (old new : List WayCode) (one : WayCode) → new ≡ old ++ (one ∷ [])
    → map way_seen new ≡ map way_seen old ++ (way_seen one ∷ [])
seen_more old new one e = ap (map way_seen) e ∙ map-append way_seen old (one ∷ [])
