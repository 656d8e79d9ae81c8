-- Names of files as URI references (RFC 3986), and where what helps against a rule is explained.
use Rattle.std.specs.Prelude.{ℕ, ◌+◌, ◌/◌, ◌%◌, ◌==◌, ◌||◌, Bool, List, [], ◌∷◌, ◌++◌, nat_lt, codes, bytes_eq, fold}
use Rattle.std.specs.Prelude.{if◌then◌else◌}
use Rattle.std.specs.List.{flat_map, list_any}
use Rattle.std.specs.Char.{is_ascii_alphanumeric}
use Rattle.tm_cint.specs.declared.Class.{Class}
use Rattle.tm_cint.specs.declared.Class.TheVariants.{Overflow, Div, Shift, Index, Pointer, Deref, Lock, Race}
use Rattle.report_reading.specs.declared.assumptions.AssumptionKind.{AssumptionKind}
use Rattle.report_reading.specs.declared.assumptions.AssumptionKind.TheVariants as Kinds
use Rattle.report_views.specs.declared.sentences.Rule.{Rule}
use Rattle.report_views.specs.declared.sentences.Rule.TheVariants.{Alarm, Wait, Dead, Assumption}

-- a digit in base 16
abbrev pub hex_digit : ℕ → ℕ
hex_digit n = if nat_lt n 10 then 48 + n else 55 + n

-- a letter, a digit, `-`, `.`, `_`, `~` and `/` stand for themselves
abbrev pub is_plain : ℕ → Bool
is_plain b = is_ascii_alphanumeric b || (b == 45 || (b == 46 || (b == 95 || (b == 126 || b == 47))))

-- any other byte is `%` and two digits
abbrev pub uri_byte : ℕ → List ℕ
uri_byte b = if is_plain b then b ∷ [] else 37 ∷ hex_digit (b / 16) ∷ hex_digit (b % 16) ∷ []

abbrev pub uri_text : List ℕ → List ℕ
uri_text name = flat_map uri_byte name

-- ## Help

-- the section of docs/ALARMS.md that explains a class
abbrev pub class_section : Class → List ℕ
class_section Overflow = codes "overflow-signed-arithmetic-may-leave-the-range-of-its-type"
class_section Div = codes "div-the-divisor-may-be-zero"
class_section Shift = codes "shift-the-shift-may-have-a-count-or-a-left-operand-for-which-it-is-not-defined"
class_section Index = codes "index-the-subscript-may-lie-outside-the-array"
class_section Pointer =
    codes "pointer-pointer-arithmetic-may-leave-its-object-or-the-pointer-may-be-null-or-invalid"
class_section Deref =
    codes "deref-the-dereferenced-pointer-may-be-null-or-invalid-or-point-to-no-value-of-its-type"
class_section Lock = codes "lock-the-task-may-lock-a-mutex-that-it-holds-or-unlock-one-that-it-does-not-hold"
class_section Race = codes "race-another-task-may-access-this-object-at-the-same-time-and-one-of-the-two-stores"

-- the section of docs/ASSUMPTIONS.md that explains a kind
abbrev pub kind_section : AssumptionKind → List ℕ
kind_section Kinds.Const = codes "const"
kind_section Kinds.Enum = codes "enum"
kind_section Kinds.Implementation = codes "implementation"
kind_section Kinds.Layout = codes "layout"
kind_section Kinds.Lifetime = codes "lifetime"
kind_section Kinds.Member = codes "member"
kind_section Kinds.Order = codes "order"
kind_section Kinds.Pragma = codes "pragma-and-restrict"
kind_section Kinds.Reserved = codes "reserved"
kind_section Kinds.Restrict = codes "pragma-and-restrict"
kind_section Kinds.Unset = codes "unset"

-- that which explains a rule, behind the folder of the documents
abbrev pub rule_page : Rule → List ℕ
rule_page (Alarm class) = codes "/ALARMS.md#" ++ class_section class
rule_page Wait = codes "/ALARMS.md#wait-and-dead-in-a-log"
rule_page Dead = codes "/ALARMS.md#wait-and-dead-in-a-log"
rule_page (Assumption kind) = codes "/ASSUMPTIONS.md#" ++ kind_section kind

-- where a rule is explained, in a folder of documents
abbrev pub help_uri : List ℕ → Rule → List ℕ
help_uri documents rule = codes "file://" ++ (uri_text documents ++ rule_page rule)

-- ## Files

abbrev pub with_file : List (List ℕ) → List ℕ → List (List ℕ)
with_file files file = if list_any (bytes_eq file) files then files else files ++ file ∷ []

-- files, each once, in the order in which they come first
abbrev pub distinct : List (List ℕ) → List (List ℕ)
distinct files = fold with_file [] files
