-- The text of a report is read back as its value, and so as its alarms.
use Rattle.std.proofs.Common.{◌≡◌, ◌<◌, ◌≤◌, ◌^◌, List, [], ◌∷◌, length, map, Some, Option, option_map, option_and_then, refl, ap, sym, ◌∙◌, arith, append-nil}
use Rattle.std.proofs.lemmas.List.{append_cancel_right}
use Rattle.std.proofs.lemmas.Option.{same_Some}
use Rattle.json.specs.Json.{Json, if_last, value}
use Rattle.json.specs.Lex.{tokens}
use Rattle.json.specs.Token.{Token}
use Rattle.json.specs.Tree as tree
use Rattle.json.proofs.Printed.Decimals.{IsNumber-decimal}
use Rattle.json.proofs.Printed.Tokens.{tokens-print}
use Rattle.json.proofs.Printed.Trees.{ArePrintable-json_tokens, value-json_tokens}
use Rattle.serde_json.specs.Data.{Data, item}
use Rattle.serde_json.specs.Read.{max_depth, of_items, of_json, read}
use Rattle.serde_json.specs.View.{items_of}
use Rattle.serde_json.specs.Written.{items_outline, outline}
use Rattle.serde_json.proofs.Numbers.{number_of-decimal}
use Rattle.serde_json.proofs.OnLiterals.{serde_json_on_literals}
use Rattle.serde_json.proofs.Texts.{print-outline}
use Rattle.tm_terms.specs.declared.alarms.Alarm.{Alarm}
use Rattle.report_json.specs.JsonReports.{alarm_data, report_data, report_object}
use Rattle.report_json.specs.Laws.{AreSmall, IsSmall, OneText, ReadsBack}
use Rattle.report_json.proofs.JsonTexts.{report_text}
use Rattle.report_json.proofs.OneReport.{one_report}

-- ## The numbers of the text are numerals

items_numbers : (alarms : List Alarm) → AreSmall alarms → tree.ItemsHaveNumbers (items_outline (items_of (map alarm_data alarms)))
items_numbers [] small = tt
items_numbers (alarm ∷ alarms) small =
    ((tt, (IsNumber-decimal alarm.place.col small.0.1, (IsNumber-decimal alarm.place.line small.0.0, tt))), items_numbers alarms small.1)

numbers : (alarms : List Alarm) → AreSmall alarms → length alarms < 2 ^ 64 → tree.HasNumbers (outline (report_data alarms))
numbers alarms small few = (items_numbers alarms small, (IsNumber-decimal (length alarms) few, tt))

tokens_of : (alarms : List Alarm) → AreSmall alarms → length alarms < 2 ^ 64
    → tokens (report_object alarms) ≡ tree.json_tokens (outline (report_data alarms))
tokens_of alarms small few =
    ap tokens (sym (print-outline (report_data alarms) ∙ report_text alarms))
    ∙ tokens-print (tree.json_tokens (outline (report_data alarms)))
    (ArePrintable-json_tokens (outline (report_data alarms)) (numbers alarms small few))

-- ## The tree of the text is not deep, and converted back

items_flat : (alarms : List Alarm) → tree.items_depth (items_outline (items_of (map alarm_data alarms))) ≤ 1
items_flat [] = omega arith
items_flat (alarm ∷ alarms) = let rest = items_flat alarms in omega arith

flat : (alarms : List Alarm) → tree.depth (outline (report_data alarms)) ≤ max_depth
flat alarms = let rest = items_flat alarms in omega arith

alarm_back : (alarm : Alarm) → IsSmall alarm → of_json (outline (alarm_data alarm)) ≡ Some (alarm_data alarm)
unfolding serde_json_on_literals
alarm_back alarm small =
    rw (number_of-decimal alarm.place.col small.1, number_of-decimal alarm.place.line small.0) refl

items_back : (alarms : List Alarm) → AreSmall alarms
    → of_items (items_outline (items_of (map alarm_data alarms))) ≡ Some (items_of (map alarm_data alarms))
items_back [] small = refl
items_back (alarm ∷ alarms) small =
    ap (option_and_then (λ d. option_map (item d) (of_items (items_outline (items_of (map alarm_data alarms)))))) (alarm_back alarm small.0)
    ∙ ap (option_map (item (alarm_data alarm))) (items_back alarms small.1)

back : (alarms : List Alarm) → AreSmall alarms → length alarms < 2 ^ 64
    → of_json (outline (report_data alarms)) ≡ Some (report_data alarms)
unfolding serde_json_on_literals
back alarms small few = rw (items_back alarms small, number_of-decimal (length alarms) few) refl

-- ## The laws

-- the value of tokens that are a tree, and nothing more
abbrev whole : Option (Json × List Token) → Option Data
whole tree = option_and_then of_json (option_and_then (λ p. if_last p.0 p.1) tree)

pub reads_back : ReadsBack
reads_back alarms small few =
    ap whole (ap (value max_depth) (tokens_of alarms small few ∙ sym (append-nil _))
    ∙ value-json_tokens (outline (report_data alarms)) max_depth [] (flat alarms)) ∙ back alarms small few

pub one_text : OneText
one_text alarms others small few small' few' same =
    let texts : report_object alarms ≡ report_object others =
    append_cancel_right (report_object alarms) (report_object others) (10 ∷ []) same in
    one_report alarms others (same_Some (report_data alarms) (report_data others)
    (sym (reads_back alarms small few) ∙ ap read texts ∙ reads_back others small' few'))
