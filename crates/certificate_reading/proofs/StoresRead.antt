-- Stores.
use Rattle.std.proofs.Common.{◌≡◌, refl, sym, ap, subst, ◌∙◌, ℕ, ◌+◌, ◌<◌, ◌≤◌, List, [], ◌∷◌, ◌++◌, length, lit≤}
use Rattle.std.proofs.Common.{arith}
use Rattle.std.proofs.Common.{length-append}
use Rattle.std.specs.Prelude.{codes}
use Rattle.std.specs.FinMap.{entries}
use Rattle.tm_laid.specs.Layouts.{LaidTree}
use Rattle.cell_env.specs.laws.Bits.{within_le}
use Rattle.interfere_set.specs.Stores.{Nested, Interferences, IsNested}
use Rattle.post_recheck.specs.state_fits.laws.FileSets.{in_sixteen}
use Rattle.certificate_words.specs.Words.{Word, word_text, Line, line_onto, words_onto}
use Rattle.certificate_words.proofs.OneText as texts
use Rattle.certificate_parts.specs.Fronts.{line_of, IsNotFront}
use Rattle.certificate_parts.specs.Runs.{lines_onto}
use Rattle.certificate_parts.specs.Risings.{IsNextEntry, HasNoEntry, AreRising, entries_onto, behind_last}
use Rattle.certificate_parts.specs.Risings.{AreFrontEntries}
use Rattle.certificate_parts.proofs.Running.{onto_append}
use Rattle.certificate_parts.proofs.Rising.{front_none, front_more, front_all, last_more}
use Rattle.certificate_texts.specs.StateLines.{tagged}
use Rattle.certificate_texts.specs.StoreLines.{entry_lines, set_lines, task_lines, nested_lines}
use Rattle.certificate_texts.proofs.Blocks.{AllHave, flat_have}
use Rattle.certificate_reading.specs.declared.entries.Entry.{Entry}
use Rattle.certificate_reading.specs.declared.entries.Kind.{Kind}
use Rattle.certificate_reading.specs.declared.entries.Kind.TheVariants.{Weak, Sync}
use Rattle.certificate_reading.specs.Entries.{letters_of, IsUnder, IsNumbered, EndsKind, entry_onto, entry_line}
use Rattle.certificate_reading.specs.Nesting.{task_entries}
use Rattle.certificate_reading.specs.Stores.{AreNestedIn, IsStoreIn, HasNoStore}
use Rattle.certificate_reading.proofs.FirstLetters.{letter, lines_split, ends_lines}
use Rattle.certificate_reading.proofs.Nested.{nested_text, nested_fits, nested_rises, tasks_fit}

pub sets_few : (laid : LaidTree) (kind : Kind) (l : ℕ) → IsUnder laid kind l → l < 65536
sets_few laid Weak l h = let le : l ≤ 65535 = within_le l 65535 (in_sixteen laid l h) in omega (arith, le)
sets_few laid Sync l h = let le = h.1 in omega (arith, le)

-- ## A text gets shorter

shorter_behind : (w : Word) (ws : List Word) (text : List ℕ) → length text < length (words_onto w ws text)
shorter_behind w [] text =
    let e = length-append (word_text w) (10 ∷ text) in omega (arith, e)
shorter_behind w (v ∷ ws) text =
    let e = length-append (word_text w) (32 ∷ words_onto v ws text) in
    let h = shorter_behind v ws text in omega (arith, e, h)

module _ (laid : LaidTree) (kind : Kind) where
  abbrev Onto : ℕ × Entry → List ℕ → List ℕ
  Onto = entry_onto kind

  abbrev Fits : ℕ × Entry → Type 0
  Fits = IsNumbered laid kind

  abbrev After : List ℕ → Type 0
  After = EndsKind kind

  ends : (e : ℕ × Entry) (rest : List ℕ) → Fits e → After (Onto e rest) → ⊥
  ends e rest fits after =
      let line = entry_line (letters_of kind) e.1 in after.never line.rest rest fits.lawful.1 refl

  pub next_shorter : (bound : ℕ) (old new : List ℕ) (e : ℕ × Entry) → IsNextEntry Onto Fits After bound old e new
      → length new < length old
  next_shorter bound old new e next =
      let line = entry_line (letters_of kind) e.1 in
      subst (λ text. length new < length text) (sym next.is) (shorter_behind line.first line.rest new)

  pub entries_begin : (old : List ℕ) (es : List (ℕ × Entry)) → es ≡ []
      → AreFrontEntries Onto Fits After old es old × (0 ≡ behind_last Onto Fits After 0 es)
  entries_begin old es none = (
    subst (λ fs. AreFrontEntries Onto Fits After old fs old) (sym none) (front_none Onto Fits After ends old),
    ap (behind_last Onto Fits After 0) (sym none),
  )

  pub entries_step : (bound : ℕ) (old mid new : List ℕ) (es now : List (ℕ × Entry)) (e : ℕ × Entry)
      → AreFrontEntries Onto Fits After old es mid → bound ≡ behind_last Onto Fits After 0 es
      → IsNextEntry Onto Fits After bound mid e new → now ≡ es ++ e ∷ []
      → AreFrontEntries Onto Fits After old now new × (e.0 + 1 ≡ behind_last Onto Fits After 0 now)
  entries_step bound old mid new es now e front from next is = (
    subst (λ fs. AreFrontEntries Onto Fits After old fs new) (sym is) (front_more Onto Fits After ends es e old mid new
        front (subst (λ b. IsNextEntry Onto Fits After b mid e new) from next)),
    sym (ap (behind_last Onto Fits After 0) is ∙ last_more Onto Fits After ends 0 es e),
  )

  pub entries_end : (bound : ℕ) (old mid new : List ℕ) (es : List (ℕ × Entry)) (n : Nested)
      → length laid.abstract_cells ≤ 65536 → new ≡ mid → AreFrontEntries Onto Fits After old es mid
      → bound ≡ behind_last Onto Fits After 0 es → HasNoEntry Onto Fits After bound mid
      → task_entries (entries n) [] ≡ es → IsNested n → AreNestedIn laid kind old n new
  entries_end bound old mid new es n small stays front from none same form =
      let all = front_all Onto Fits After ends es old mid front
      (subst (λ b. HasNoEntry Onto Fits After b mid) from none) in
      subst (AreNestedIn laid kind old n) (sym stays)
      (record {
        form = form;
        fits = nested_fits laid kind n form (tasks_fit laid kind 0 (entries n)
            (subst (AreRising Onto Fits After 0) (sym same) front.rise));
        is = all.is ∙ (ap (λ fs. entries_onto Onto Fits After fs mid) (sym same) ∙ nested_text laid kind n mid);
        one = λ m more form' fits' lawful after i.
            (all.one (task_entries (entries m) []) more
            (nested_rises laid kind m form' (sets_few laid kind) small fits' lawful) after
            (i ∙ sym (nested_text laid kind m more))).1;
      })

-- ## Blocks of lines

sync_lines : (n : Nested) → AllHave letter 121 (nested_lines (codes "y") n)
sync_lines n =
    flat_have letter (task_lines (codes "y")) 121 (λ e. flat_have letter (set_lines (codes "y") e.0) 121
    (λ d. flat_have letter (entry_lines (codes "y") e.0 d.0) 121 (λ c. (refl, tt)) (entries d.1)) (entries e.1)) (entries n)

-- ## Whole stores

abbrev first_line : Line
first_line = tagged (codes "store") []

abbrev weak_lines : Interferences → List Line
weak_lines store = nested_lines (codes "w") store.weak

abbrev all_lines : Interferences → List Line
all_lines store = nested_lines (codes "w") store.weak ++ nested_lines (codes "y") store.sync

module _ (laid : LaidTree) (old : List ℕ) where
  pub no_store : IsNotFront (line_of (codes "store") []) old → HasNoStore laid old
  no_store none =
      record {
        never = λ other more fits lawful e. none.never (lines_onto (all_lines other) more) lawful.0 e;
      }

  pub store_is : (a b new : List ℕ) (weak sync : Nested) (store : Interferences)
      → old ≡ line_onto (line_of (codes "store") []) a → AreNestedIn laid Weak a weak b
      → AreNestedIn laid Sync b sync new → store ≡ record { weak = weak; sync = sync } → IsStoreIn laid old store new
  store_is a b new weak sync store begins w y is =
      subst (λ s. IsStoreIn laid old s new) (sym is)
      (record {
        fits = record {
          form = record { weak = w.form; sync = y.form };
          weak = w.fits;
          sync = y.fits;
        };
        is = begins ∙ ap (line_onto first_line) (w.is ∙ (ap (lines_onto (nested_lines (codes "w") weak)) y.is
            ∙ sym (onto_append (nested_lines (codes "w") weak) (nested_lines (codes "y") sync) new)));
        one = λ other more fits lawful no_weak no_sync i.
            (let rest = lines_onto (nested_lines (codes "y") other.sync) more in
            let parts = lines_split (weak_lines other) (nested_lines (codes "y") other.sync) lawful.1 in
            let behind : a ≡ lines_onto (weak_lines other) rest =
            (texts.line first_line first_line a (lines_onto (all_lines other) more) lawful.0 lawful.0 (sym begins ∙ i)).1
            ∙ onto_append (weak_lines other) (nested_lines (codes "y") other.sync) more in
            let first = w.one other.weak rest fits.form.weak fits.weak parts.0
            (ends_lines (codes "w") 121 (nested_lines (codes "y") other.sync) more (lit≤ tt, lit≤ tt, tt)
            (λ e. (let f : 119 ≡ 121 = e in omega (arith, f))) (sync_lines other.sync) parts.1 no_weak) behind in
            y.one other.sync more fits.form.sync fits.sync parts.1 no_sync (sym first));
      })
