-- The texts of rings. Lines, columns and numbers stand in decimal.
use Rattle.std.specs.Prelude.{ℕ, List, ◌++◌, length, codes, decimal}
use Rattle.std.specs.List.{flat_map}
use Rattle.tm_terms.specs.declared.tokens.Name.{Name}
use Rattle.tm_terms.specs.Texts.{line_of, place_text}
use Rattle.request_circles.specs.declared.requests.Request.{Request}
use Rattle.request_circles.specs.declared.rings.Ring.{Ring}
use Rattle.tm_terms.specs.Texts.{place_head}
use Rattle.note_lines.specs.Names.{name_at, names_below}

-- LINE:COL RING LENGTH
abbrev pub ring_head : Ring → List ℕ
ring_head ring = line_of (place_text ring.place ++ (codes " RING " ++ decimal (length ring.requests.items)))

-- rings N
abbrev pub count_line : ℕ → List ℕ
count_line count = line_of (codes "rings " ++ decimal count)

module _ (bytes : List ℕ) (tasks mutexes : List Name) where
  -- LINE:COL TASK holds MUTEX .. asks MUTEX
  abbrev pub request_line : Request → List ℕ
  request_line r = line_of (place_head r.place ++ (name_at bytes tasks r.task ++ (codes " holds"
      ++ (names_below bytes mutexes r.held 16 ++ (codes " asks " ++ name_at bytes mutexes r.mutex)))))

  -- its head, and the lines of its requests, in their order
  abbrev pub ring_text : Ring → List ℕ
  ring_text ring = ring_head ring ++ flat_map request_line ring.requests.items

  -- the text of each ring, and then their number
  abbrev pub rings_text : List Ring → List ℕ
  rings_text rings = flat_map ring_text rings ++ count_line (length rings)
