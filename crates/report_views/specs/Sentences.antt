-- What the rules say, and what helps against what they find: a rule for each class of alarms, one for the locks at
-- which tasks may wait for each other in a ring, one for the places that no run reaches, and one for each kind of
-- assumptions.
use Rattle.std.specs.Prelude.{ℕ, List, [], ◌∷◌, codes}
use Rattle.tm_cint.specs.declared.Class.{Class}
use Rattle.tm_cint.specs.declared.Class.TheVariants.{Overflow, Div, Shift, Index, Pointer, Deref, Lock, Race}
use Rattle.tm_terms.specs.Texts.{class_text}
use Rattle.report_reading.specs.declared.assumptions.AssumptionKind.TheVariants as Kinds
use Rattle.report_reading.specs.Assumptions.{kind_text}
use Rattle.report_views.specs.Kinds.{kind_help, kind_sentence}
use Rattle.report_views.specs.declared.sentences.Rule.{Rule}
use Rattle.report_views.specs.declared.sentences.Rule.TheVariants.{Alarm, Wait, Dead, Assumption}

-- what an alarm of this class says
abbrev pub sentence_text : Class → List ℕ
sentence_text Overflow = codes "signed arithmetic may leave the range of its type"
sentence_text Div = codes "the divisor may be zero"
sentence_text Shift = codes "the shift may have a count or a left operand for which it is not defined"
sentence_text Index = codes "the subscript may lie outside the array"
sentence_text Pointer = codes "pointer arithmetic may leave its object, or the pointer may be null or invalid"
sentence_text Deref = codes "the dereferenced pointer may be null or invalid, or point to no value of its type"
sentence_text Lock = codes "the task may lock a mutex that it holds, or unlock one that it does not hold"
sentence_text Race = codes "another task may access this object at the same time, and one of the two stores"

-- what helps against alarms of this class
abbrev pub help_text : Class → List ℕ
help_text Overflow = codes "Compute in a wider or an unsigned type, or test the operands before the operation."
help_text Div = codes "Test the divisor where no other task can change it before the division."
help_text Shift = codes "Shift an unsigned operand, by a count from 0 to the bits of its type less one."
help_text Index = codes "Test the subscript where no other task can change it before the access."
help_text Pointer = codes "Move the pointer within its object only, and set it before its use."
help_text Deref = codes "Set the pointer before its use, test it against null, and let its object be alive."
help_text Lock = codes "Lock and unlock each mutex in turn, once on each path."
help_text Race = codes "Access the object under a mutex that both tasks lock."

-- the word of a rule
abbrev pub rule_text : Rule → List ℕ
rule_text (Alarm class) = class_text class
rule_text Wait = codes "WAIT"
rule_text Dead = codes "DEAD"
rule_text (Assumption kind) = kind_text kind

-- what a rule says
abbrev pub rule_sentence : Rule → List ℕ
rule_sentence (Alarm class) = sentence_text class
rule_sentence Wait = codes "tasks may come to wait for each other for ever, one of them at this lock"
rule_sentence Dead = codes "no run reaches this"
rule_sentence (Assumption kind) = kind_sentence kind

-- what helps against what a rule finds
abbrev pub rule_help : Rule → List ℕ
rule_help (Alarm class) = help_text class
rule_help Wait = codes "Let all tasks lock the mutexes in one order, or one mutex around them."
rule_help Dead =
    codes "Remove what cannot run, or mend the condition or the error before it that keeps each run out."
rule_help (Assumption kind) = kind_help kind

-- the level of what a rule finds, as SARIF 2.1.0 has it in 3.27.10: a problem, or what is to be known; none of what a
-- human is to look at
abbrev pub level_text : Rule → List ℕ
level_text (Alarm class) = codes "warning"
level_text Wait = codes "warning"
level_text Dead = codes "note"
level_text (Assumption kind) = codes "none"

-- all classes, in their order
abbrev pub classes : List Class
classes = Overflow ∷ Div ∷ Shift ∷ Index ∷ Pointer ∷ Deref ∷ Lock ∷ Race ∷ []

-- all rules, in their order
abbrev pub rules : List Rule
rules =
    Alarm Overflow ∷ Alarm Div ∷ Alarm Shift ∷ Alarm Index ∷ Alarm Pointer ∷ Alarm Deref ∷ Alarm Lock ∷ Alarm Race
    ∷ Wait ∷ Dead ∷ Assumption Kinds.Const ∷ Assumption Kinds.Enum ∷ Assumption Kinds.Implementation
    ∷ Assumption Kinds.Layout ∷ Assumption Kinds.Lifetime ∷ Assumption Kinds.Member ∷ Assumption Kinds.Order
    ∷ Assumption Kinds.Pragma ∷ Assumption Kinds.Reserved ∷ Assumption Kinds.Restrict ∷ Assumption Kinds.Unset ∷ []
