-- A step in clauses, cell by cell and task by task: what it changes, and that all else stays.
use Rattle.std.specs.Prelude.{◌≡◌, ◌≢◌, ℕ, ◌<◌, ℤ, ◌&&◌, ◌==◌, nat_lt, Bool, true, false, if◌then◌else◌, [], ◌∷◌}
use Rattle.std.specs.Prelude.{◌++◌, length, get_or}
use Rattle.tm_terms.specs.declared.places.Place.{Place}
use Rattle.concrete_values.specs.tm_typed.declared.types.Scalar.{Scalar}
use Rattle.concrete_values.specs.tm_laid.Layouts.{LaidTree, cell_at, cell_of}
use Rattle.concrete_values.specs.declared.values.Value.{Value}
use Rattle.concrete_values.specs.declared.values.Value.TheVariants.{Number}
use Rattle.concrete_values.specs.declared.values.Answer.{Answer}
use Rattle.concrete_values.specs.declared.values.Answer.TheVariants as Answers
use Rattle.concrete_values.specs.declared.actions.Next.TheVariants as Acts
use Rattle.concrete_values.specs.Values.{truth_value}
use Rattle.concrete_values.specs.Actions.{is_of, is_between}
use Rattle.concrete_steps.specs.declared.worlds.Content.{Content}
use Rattle.concrete_steps.specs.declared.worlds.Content.TheVariants.{Open, Is}
use Rattle.concrete_steps.specs.declared.worlds.Status.{Status}
use Rattle.concrete_steps.specs.declared.worlds.Status.TheVariants.{Waiting, Ready, Blocked, Done}
use Rattle.concrete_steps.specs.declared.worlds.Choice.{Choice}
use Rattle.concrete_steps.specs.declared.worlds.Choice.TheVariants.{Wake, Run}
use Rattle.concrete_steps.specs.Worlds.{Standing, World, answers_of, next_at, is_section, holds, is_ended}
use Rattle.concrete_steps.specs.Worlds.{cleared_content, is_part, woken, is_taken, tasks_may_run}
use Rattle.concrete_steps.specs.Worlds.{standing}

abbrev pub status_of : World → ℕ → Status
status_of w i = (standing w i).status

abbrev pub content_of : World → ℕ → Content
content_of w c = get_or w.contents c Open

-- ## What stays

pub record SameAnswers (w w' : World) : Type 0 where
  pub same : (j : ℕ) → answers_of w' j ≡ answers_of w j

pub record SameHeld (w w' : World) : Type 0 where
  pub same : (j m : ℕ) → holds m (standing w' j) ≡ holds m (standing w j)

pub record SameContents (w w' : World) : Type 0 where
  pub same : (c : ℕ) → content_of w' c ≡ content_of w c

-- the other tasks stand as before
pub record OthersStand (w w' : World) (i : ℕ) : Type 0 where
  pub same : (j : ℕ) → j ≢ i → status_of w' j ≡ status_of w j

-- ## A task takes an answer

-- a task is done where it comes to the end of its body
abbrev pub settled_status : Bool → Status → Status
settled_status true base = Done
settled_status false base = base

-- Task i, which is ready while no task that is ready is more urgent, takes the answer, and is `base` then, or done. The
-- others have and hold what they had and held.
pub record Turn (laid : LaidTree) (w w' : World) (i : ℕ) (a : Answer) (base : Status) : Type 0 where
  pub ready : status_of w i ≡ Ready
  pub first : (j : ℕ) → (standing w i).priority < (standing w j).priority → status_of w j ≡ Ready → ⊥
  pub answers : answers_of w' i ≡ answers_of w i ++ a ∷ []
  pub status : status_of w' i ≡ settled_status (is_ended (next_at laid w' i)) base
  pub other_answers : (j : ℕ) → j ≢ i → answers_of w' j ≡ answers_of w j
  pub other_held : (j m : ℕ) → j ≢ i → holds m (standing w' j) ≡ holds m (standing w j)

-- what the task holds then; the initial section holds nothing where it is done
pub record NowHolds (laid : LaidTree) (w' : World) (i : ℕ) (held : ℕ → Bool) : Type 0 where
  pub now : (m : ℕ) → holds m (standing w' i)
      ≡ (if is_ended (next_at laid w' i) && is_section laid i then false else held m)

-- a read of the content by an lvalue of this type, volatile or not, may give the value
pub data Reads (laid : LaidTree) (s : Scalar) : Bool → Content → Value → Type 0 where
  reads_value : {v : Value} → Reads laid s false (Is v) v
  reads_open : {n : ℤ} → is_of laid s (Number n) ≡ true → Reads laid s false Open (Number n)
  reads_any : {n : ℤ} {c : Content} → is_of laid s (Number n) ≡ true → Reads laid s true c (Number n)

abbrev pub held_with : ℕ → Bool → Standing → ℕ → Bool
held_with m b s n = if n == m then b else holds n s

-- ## Steps

pub data IsMove (laid : LaidTree) (w w' : World) : Choice → Type 0 where
  wakes : {i : ℕ} → tasks_may_run laid w ≡ true → status_of w i ≡ Waiting → status_of w' i ≡ Ready → OthersStand w w' i
      → SameAnswers w w' → SameHeld w w' → SameContents w w' → IsMove laid w w' (Wake i)
  loads : {i o k : ℕ} {s : Scalar} {volatile : Bool} {p : Place} {v : Value} {n : ℤ}
      → next_at laid w i ≡ Acts.Load o k s volatile p → cell_of laid o k < length w.contents
      → Reads laid s volatile (content_of w (cell_of laid o k)) v → Turn laid w w' i (Answers.Given v) Ready
      → OthersStand w w' i
      → NowHolds laid w' i (λ m. holds m (standing w i)) → SameContents w w' → IsMove laid w w' (Run i n)
  stores : {i o k : ℕ} {s : Scalar} {p : Place} {v : Value} {n : ℤ} → next_at laid w i ≡ Acts.Store o k s v p
      → cell_of laid o k < length w.contents → Turn laid w w' i Answers.Done Ready → OthersStand w w' i
      → NowHolds laid w' i (λ m. holds m (standing w i)) → content_of w' (cell_of laid o k) ≡ Is v
      → ((c : ℕ) → c ≢ cell_of laid o k → content_of w' c ≡ content_of w c) → IsMove laid w w' (Run i n)
  chooses : {i : ℕ} {low high n : ℤ} → next_at laid w i ≡ Acts.Chosen low high → is_between low high (Number n) ≡ true
      → Turn laid w w' i (Answers.Given (Number n)) Ready → OthersStand w w' i
      → NowHolds laid w' i (λ m. holds m (standing w i)) → SameContents w w' → IsMove laid w w' (Run i n)
  clears : {i o : ℕ} {n : ℤ} → next_at laid w i ≡ Acts.Clear o → Turn laid w w' i Answers.Done Ready
      → OthersStand w w' i
      → NowHolds laid w' i (λ m. holds m (standing w i))
      → ((c : ℕ) → c < length w.contents
      → content_of w' c ≡ (if is_part laid o c then cleared_content (cell_at laid c).scalar else content_of w c))
      → IsMove laid w w' (Run i n)
  takes : {i m : ℕ} {p : Place} {n : ℤ} → next_at laid w i ≡ Acts.Lock m p → is_taken m w.standings ≡ false
      → Turn laid w w' i Answers.Done Ready → OthersStand w w' i
      → NowHolds laid w' i (held_with m (nat_lt m (length (standing w i).held)) (standing w i)) → SameContents w w'
      → IsMove laid w w' (Run i n)
  waits_for : {i m : ℕ} {p : Place} {n : ℤ} → next_at laid w i ≡ Acts.Lock m p → holds m (standing w i) ≡ false
      → is_taken m w.standings ≡ true → status_of w i ≡ Ready
      → ((j : ℕ) → (standing w i).priority < (standing w j).priority → status_of w j ≡ Ready → ⊥)
      → status_of w' i ≡ Blocked m
      → OthersStand w w' i → SameAnswers w w' → SameHeld w w' → SameContents w w' → IsMove laid w w' (Run i n)
  gives_up : {i m : ℕ} {p : Place} {n : ℤ} → next_at laid w i ≡ Acts.Unlock m p → holds m (standing w i) ≡ true
      → Turn laid w w' i Answers.Done Ready → ((j : ℕ) → j ≢ i → status_of w' j ≡ (woken m (standing w j)).status)
      → NowHolds laid w' i (held_with m false (standing w i)) → SameContents w w' → IsMove laid w w' (Run i n)
  gives_way : {i : ℕ} {n : ℤ} → next_at laid w i ≡ Acts.Yield
      → Turn laid w w' i Answers.Done (if is_section laid i then Ready else Waiting) → OthersStand w w' i
      → NowHolds laid w' i (λ m. holds m (standing w i)) → SameContents w w' → IsMove laid w w' (Run i n)
  probes : {i m : ℕ} {p : Place} {n : ℤ} → next_at laid w i ≡ Acts.Probe m p
      → Turn laid w w' i (Answers.Given (truth_value (is_taken m w.standings))) Ready → OthersStand w w' i
      → NowHolds laid w' i (λ l. holds l (standing w i)) → SameContents w w' → IsMove laid w w' (Run i n)
  goes_round : {i : ℕ} {n : ℤ} → next_at laid w i ≡ Acts.Spins → status_of w i ≡ Ready
      → ((j : ℕ) → (standing w i).priority < (standing w j).priority → status_of w j ≡ Ready → ⊥)
      → w' ≡ w → IsMove laid w w' (Run i n)
