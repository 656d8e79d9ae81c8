-- Which words ask for notes, and for which. The words are those behind the program's name, each a list of bytes.
--
--     notes [large] [--workers=N] report|rings|races|alarms|causes|notes|assumptions|parts
use Rattle.std.specs.Prelude.{ℕ, ◌≤◌, Bool, false, List, [], ◌∷◌, codes, Option, Some, None, option_map, option_and_then}
use Rattle.std.specs.Prelude.{bytes_eq, if◌then◌else◌}
use Rattle.cmd_words.specs.Words.{workers_named}
use Rattle.tm_laid.specs.declared.scales.Scale.{Scale}
use Rattle.tm_laid.specs.declared.scales.Scale.TheVariants.{Usual, Large}
use Rattle.source_notes.specs.declared.answers.Note.{Note}
use Rattle.source_notes.specs.declared.answers.Note.TheVariants.{Report, Rings, Races, Alarms, Causes}
use Rattle.source_notes.specs.declared.answers.Note.TheVariants.{Whole, Assumptions, Parts}
use Rattle.source_notes.specs.declared.words.AskedNotes.{AskedNotes}

-- the notes that a word asks for
abbrev pub note_of : List ℕ → Option Note
note_of word =
    if bytes_eq word (codes "report") then Some Report
    else if bytes_eq word (codes "rings") then Some Rings
    else if bytes_eq word (codes "races") then Some Races
    else if bytes_eq word (codes "alarms") then Some Alarms
    else if bytes_eq word (codes "causes") then Some Causes
    else if bytes_eq word (codes "notes") then Some Whole
    else if bytes_eq word (codes "assumptions") then Some Assumptions
    else if bytes_eq word (codes "parts") then Some Parts
    else None

-- the same, on a scale, by so many workers
abbrev pub noted : Scale → ℕ → List ℕ → Option AskedNotes
noted scale workers word =
    option_map (λ note. record { scale = scale; workers = workers; note = note }) (note_of word)

-- On a scale one word asks for notes by one worker, and one behind `--workers=N` for notes by so many.
abbrev pub asked_on : Scale → List (List ℕ) → Option AskedNotes
asked_on scale (word ∷ []) = noted scale 1 word
asked_on scale (workers ∷ word ∷ []) = option_and_then (λ n. noted scale n word) (workers_named workers)
asked_on scale _ = None

-- The scale is the large one where the first word is `large`, and else the usual one.
abbrev pub asked_behind : List (List ℕ) → Option AskedNotes
asked_behind [] = None
asked_behind (first ∷ words) =
    if bytes_eq first (codes "large") then asked_on Large words else asked_on Usual (first ∷ words)

-- the first word is `notes`
abbrev pub asks_notes : List (List ℕ) → Bool
asks_notes [] = false
asks_notes (first ∷ words) = bytes_eq first (codes "notes")

-- what words ask for: none where the first is another, or the words behind it are none that ask for notes
abbrev pub asked_notes : List (List ℕ) → Option AskedNotes
asked_notes [] = None
asked_notes (first ∷ words) = if bytes_eq first (codes "notes") then asked_behind words else None

-- what is asked for is to be told by 1 to 16 workers
abbrev pub AsksFew : AskedNotes → Type 0
AsksFew asked = (1 ≤ asked.workers) × (asked.workers ≤ 16)
