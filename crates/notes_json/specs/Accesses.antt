-- Accesses of objects and requests for mutexes, as JSON. A set of mutexes is a number, in which bit m stands for the
-- mutex with the number m.
use Rattle.std.specs.Prelude.{ℕ, Bool, ◌==◌, cond, List, ◌++◌, codes, decimal}
use Rattle.std.specs.List.{filter, range_with_len}
use Rattle.std.specs.Int.{bit_at}
use Rattle.tm_terms.specs.declared.places.Place.{Place}
use Rattle.request_circles.specs.declared.requests.Request.{Request}
use Rattle.notes_json.specs.Pieces.{listed, number_text, word_text, truth_text}

-- ## Sets of mutexes

-- there are at most sixteen
unfoldable pub most_mutexes : ℕ
most_mutexes = 16

abbrev pub is_member : ℕ → ℕ → Bool
is_member set m = (bit_at set m == 1)

-- the numbers below a bound of the mutexes that are in the set
abbrev pub members_below : ℕ → ℕ → List ℕ
members_below set n = filter (is_member set) (range_with_len 0 n)

-- those of all of them, behind bytes that open the list
unfoldable pub set_text : List ℕ → ℕ → List ℕ
set_text before set = before ++ (listed decimal (members_below set most_mutexes) ++ codes "]")

-- ## Accesses

abbrev pub kind_text : Bool → List ℕ
kind_text stores = cond stores (codes "store") (codes "load")

abbrev pub access_front : Place → ℕ → ℕ → List ℕ
access_front place free held = number_text (codes "{\"col\":") place.col ++ (set_text (codes ",\"free\":[") free
    ++ set_text (codes ",\"held\":[") held)

abbrev pub access_back : Place → Bool → List ℕ → Bool → ℕ → List ℕ
access_back place stores member racing task = word_text (codes ",\"kind\":\"") (kind_text stores)
    ++ (number_text (codes ",\"line\":") place.line ++ (word_text (codes ",\"member\":\"") member
    ++ ((codes ",\"racing\":" ++ truth_text racing) ++ (number_text (codes ",\"task\":") task ++ codes "}"))))

-- {"col":COL,"free":[MUTEX,..],"held":[MUTEX,..],"kind":"store","line":LINE,"member":"MEMBER","racing":true,
-- "task":TASK}
abbrev pub access_text : Place → ℕ → ℕ → Bool → List ℕ → Bool → ℕ → List ℕ
access_text place free held stores member racing task =
    access_front place free held ++ access_back place stores member racing task

-- ## Races

-- {"held":[MUTEX,..],"kind":"store","member":"MEMBER","partner_count":COUNT,"partners":[
abbrev pub race_front : ℕ → Bool → List ℕ → ℕ → List ℕ
race_front held stores member partners = set_text (codes "{\"held\":[") held
    ++ (word_text (codes ",\"kind\":\"") (kind_text stores) ++ (word_text (codes ",\"member\":\"") member
    ++ (number_text (codes ",\"partner_count\":") partners ++ codes ",\"partners\":[")))

-- ],"race":RACE,"task":TASK}
abbrev pub race_back : ℕ → ℕ → List ℕ
race_back race task =
    number_text (codes "],\"race\":") race ++ (number_text (codes ",\"task\":") task ++ codes "}")

-- {"col":COL,"held":[MUTEX,..],"kind":"store","line":LINE,"task":TASK}
abbrev pub partner_text : Place → ℕ → Bool → ℕ → List ℕ
partner_text place held stores task = number_text (codes "{\"col\":") place.col
    ++ (set_text (codes ",\"held\":[") held ++ (word_text (codes ",\"kind\":\"") (kind_text stores)
    ++ (number_text (codes ",\"line\":") place.line ++ (number_text (codes ",\"task\":") task ++ codes "}"))))

-- ## Requests

-- {"col":COL,"held":[MUTEX,..],"line":LINE,"mutex":MUTEX,"task":TASK}
abbrev pub request_text : Request → List ℕ
request_text r = number_text (codes "{\"col\":") r.place.col ++ (set_text (codes ",\"held\":[") r.held
    ++ (number_text (codes ",\"line\":") r.place.line ++ (number_text (codes ",\"mutex\":") r.mutex
    ++ (number_text (codes ",\"task\":") r.task ++ codes "}"))))
