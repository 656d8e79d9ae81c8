use Rattle.std.specs.Prelude.{ℕ, List, [], ◌∷◌, ◌++◌, length, Option, Some, None, codes, decimal}
use Rattle.std.specs.List.{flat_map}
use Rattle.tm_cint.specs.declared.Class.{Class}
use Rattle.tm_cint.specs.declared.Class.TheVariants.{Overflow, Div, Shift, Index, Pointer, Deref, Lock, Race}
use Rattle.tm_terms.specs.declared.alarms.Alarm.{Alarm}
use Rattle.tm_terms.specs.declared.places.Place.{Place}
use Rattle.tm_terms.specs.declared.refusals.Kind.{Kind}
use Rattle.tm_terms.specs.declared.refusals.Kind.TheVariants.{Lexical, Unsupported, Deep, Syntax, Undeclared}
use Rattle.tm_terms.specs.declared.refusals.Kind.TheVariants.{Redeclared, Mismatch, NotConstant, NotLvalue, NoBody}
use Rattle.tm_terms.specs.declared.refusals.Kind.TheVariants.{Recursive, BadTask, Limit as KindLimit}
use Rattle.tm_terms.specs.declared.refusals.Limit.{Limit}
use Rattle.tm_terms.specs.declared.refusals.Limit.TheVariants.{Source, Tokens, Tasks, Mutexes, Paths, Cells, Abstract}
use Rattle.tm_terms.specs.declared.refusals.Limit.TheVariants.{Nodes, Work}
use Rattle.tm_terms.specs.declared.refusals.Refusal.{Refusal}
use Rattle.tm_terms.specs.Limits.{limit_number}

-- The texts that the program writes, as lists of bytes. std's `decimal n` is the number n as `{}`
-- writes it.

-- a text with the byte that ends its line
abbrev pub line_of : List ℕ → List ℕ
line_of text = text ++ (10 ∷ [])

-- LINE:COL
abbrev pub place_text : Place → List ℕ
place_text place = decimal place.line ++ (codes ":" ++ decimal place.col)

-- a place, with a blank behind it
abbrev pub place_head : Place → List ℕ
place_head place = place_text place ++ codes " "

-- the word of an error class
abbrev pub class_text : Class → List ℕ
class_text Overflow = codes "OVERFLOW"
class_text Div = codes "DIV"
class_text Shift = codes "SHIFT"
class_text Index = codes "INDEX"
class_text Pointer = codes "POINTER"
class_text Deref = codes "DEREF"
class_text Lock = codes "LOCK"
class_text Race = codes "RACE"

-- LINE:COL CLASS
abbrev pub alarm_line : Alarm → List ℕ
alarm_line alarm = line_of (place_text alarm.place ++ (codes " " ++ class_text alarm.class))

-- alarms N
abbrev pub count_line : ℕ → List ℕ
count_line count = line_of (codes "alarms " ++ decimal count)

-- a report: the line of each alarm, and then their number
abbrev pub report_text : List Alarm → List ℕ
report_text alarms = flat_map alarm_line alarms ++ count_line (length alarms)

-- the word of a kind of refusal
abbrev pub kind_text : Kind → List ℕ
kind_text Lexical = codes "Lexical"
kind_text Unsupported = codes "Unsupported"
kind_text Deep = codes "Deep"
kind_text Syntax = codes "Syntax"
kind_text Undeclared = codes "Undeclared"
kind_text Redeclared = codes "Redeclared"
kind_text Mismatch = codes "Mismatch"
kind_text NotConstant = codes "NotConstant"
kind_text NotLvalue = codes "NotLvalue"
kind_text NoBody = codes "NoBody"
kind_text Recursive = codes "Recursive"
kind_text BadTask = codes "BadTask"
kind_text KindLimit = codes "Limit"

-- the word of a limit
abbrev pub limit_text : Limit → List ℕ
limit_text Source = codes "source"
limit_text Tokens = codes "tokens"
limit_text Tasks = codes "tasks"
limit_text Mutexes = codes "mutexes"
limit_text Paths = codes "paths"
limit_text Cells = codes "cells"
limit_text Abstract = codes "abstract"
limit_text Nodes = codes "nodes"
limit_text Work = codes "work"

-- LINE:COL refused KIND
abbrev pub kind_line : Place → Kind → List ℕ
kind_line place kind = line_of (place_text place ++ (codes " refused " ++ kind_text kind))

-- refused Limit NAME NUMBER
abbrev pub limit_line : Limit → List ℕ
limit_line limit =
    line_of (codes "refused Limit " ++ (limit_text limit ++ (codes " " ++ decimal (limit_number limit))))

-- the line of a limit where there is one, and otherwise that of the kind
abbrev pub refused_line : Place → Kind → Option Limit → List ℕ
refused_line place kind None = kind_line place kind
refused_line place kind (Some limit) = limit_line limit

-- a refusal
abbrev pub refusal_text : Refusal → List ℕ
refusal_text refusal = refused_line refusal.place refusal.kind refusal.limit

-- how the program is used
abbrev pub usage_text : List ℕ
usage_text = line_of (codes "usage: COMMAND [OPTIONS] < source")
