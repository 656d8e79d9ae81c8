-- From the answer to words that begin with `analyse` to what it promises of the runs of the source.
use Rattle.std.proofs.Common.{◌≡◌, ℕ, List, [], ◌∷◌, ◌++◌, Bool, true, false, refl, sym, subst, inl, inr}
use Rattle.std.specs.Prelude.{◌⊎◌, ◌&&◌, nat_le, Option, Some, None, option_map, option_and_then, codes, String, string_bytes}
use Rattle.std.specs.declared.alloc.Global.{Global as Heap}
use Rattle.std.proofs.lemmas.Bool.{cond_both}
use Rattle.cmd_words.specs.declared.arguments.Argument.{Argument}
use Rattle.cmd_words.specs.declared.commands.AnalyseWords.{AnalyseWords}
use Rattle.cmd_words.specs.declared.commands.Command.{Command}
use Rattle.cmd_words.specs.declared.commands.Command.TheVariants.{Analyse}
use Rattle.cmd_words.specs.Words.{texts_of, named_command, analyse_of, analyse_words, arguments_of, workers_in}
use Rattle.cmd_words.specs.Words.{json_count, history_count}
use Rattle.report_json.specs.JsonReports.{json_text}
use Rattle.tm_terms.specs.declared.alarms.Alarm.{Alarm}
use Rattle.tm_terms.specs.Texts.{report_text}
use Rattle.program_streams.specs.declared.statuses.Status.{Status}
use Rattle.program_streams.specs.declared.statuses.Status.TheVariants.{NoAlarm, Alarms, Refused, Usage, ReadFault, WriteFault, NoMemory}
use Rattle.analyser.specs.Headline.{CommandGives, MayGive, WritesReport, report_lines}
use Rattle.analyser.specs.Soundness.{AsksForReport, IsSound}
use Rattle.program_streams.specs.Statuses.{IsReported, IsWhole}
use Rattle.program_streams.specs.Taken.{Answers}

ends_in : (json : Bool) (history text : List ℕ) (report : List Alarm) → text ≡ history ++ report_lines json report
    → (text ≡ history ++ report_text report) ⊎ (text ≡ history ++ json_text report)
ends_in true history text report e = inr e
ends_in false history text report e = inl e

sound_report : (w : AnalyseWords) (bytes : List ℕ) (status : Status) (report : List Alarm) (text : List ℕ)
    → WritesReport w bytes report text → (status ≡ NoAlarm → report ≡ []) → IsSound bytes status text
sound_report w bytes status report text h none =
    let r = h.reports in
    let a = r.accepted in
    record {
      laid = a.laid;
      source = a.source;
      report = report;
      lists = r.lists;
      history = h.history;
      ends = ends_in w.json h.history text report h.is;
      none = none;
    }

-- what comes with the statuses of a report
abbrev SoundBy : Option Command → Type 0
SoundBy c = (bytes : List ℕ) (status : Status) (text : List ℕ) → IsReported status → CommandGives c bytes status text
    → IsSound bytes status text

usage_is_none : (status : Status) → IsReported status → status ≡ Usage → ⊥
usage_is_none status (inl e) f = let clash : NoAlarm ≡ Usage = subst (λ s. s ≡ Usage) e f in cc
usage_is_none status (inr e) f = let clash : Alarms ≡ Usage = subst (λ s. s ≡ Usage) e f in cc

none_by : SoundBy None
none_by bytes status text reported h = absurd (usage_is_none status reported h.0)

analyse_by : (w : AnalyseWords) → SoundBy (Some (Analyse w))
analyse_by w bytes NoAlarm text reported h = sound_report w bytes NoAlarm [] text h (λ _. refl)
analyse_by w bytes Alarms text reported h = sound_report w bytes Alarms h.0 text h.2 (λ e. cc)
analyse_by w bytes Refused text reported h = by_case reported
  where
    by_case : IsReported Refused → IsSound bytes Refused text
    by_case (inl e) = cc
    by_case (inr e) = cc
analyse_by w bytes Usage text reported h = absurd h
analyse_by w bytes ReadFault text reported h = absurd h
analyse_by w bytes WriteFault text reported h = absurd h
analyse_by w bytes NoMemory text reported h = absurd h

arguments_by : (arguments : List Argument) → SoundBy (analyse_of arguments)
arguments_by arguments =
    cond_both (nat_le (json_count arguments) 1 && nat_le (history_count arguments) 1)
    (option_map (analyse_words arguments) (workers_in arguments)) None SoundBy (λ e. with_workers (workers_in arguments))
    (λ e. none_by)
  where
    with_workers : (workers : Option ℕ) → SoundBy (option_map (analyse_words arguments) workers)
    with_workers None = none_by
    with_workers (Some n) = analyse_by _

read_by : (read : Option (List Argument)) → SoundBy (option_and_then analyse_of read)
read_by None = none_by
read_by (Some arguments) = arguments_by arguments

named_by : (name : List ℕ) (words : List (List ℕ)) → name ≡ codes "analyse" → SoundBy (named_command name words)
named_by name words e =
    subst (λ (n : List ℕ). SoundBy (named_command n words)) (sym e) (read_by (arguments_of words))

words_by : (words : List (String Heap)) → AsksForReport words → (bytes : List ℕ) (status : Status) (text : List ℕ)
    → IsReported status → MayGive (texts_of words) bytes status text → IsSound bytes status text
words_by [] asks bytes status text reported h = absurd asks
words_by (word ∷ words) asks bytes status text reported h =
    named_by (string_bytes word) (texts_of words) asks bytes status text reported h

pub reported_is_whole : (status : Status) → IsReported status → IsWhole status
reported_is_whole status (inl e) = subst IsWhole (sym e) tt
reported_is_whole status (inr e) = subst IsWhole (sym e) tt

pub sound_answers : (words : List (String Heap)) (left taken taken' : Option (List ℕ)) (status : Status)
    → IsReported status → AsksForReport words → Answers (MayGive (texts_of words)) left taken taken' status
    → Answers IsSound left taken taken' status
sound_answers words left taken taken' status reported asks a = record {
  bytes = a.bytes;
  told = a.told;
  text = a.text;
  may = words_by words asks a.bytes status a.text reported a.may;
  appended = a.appended;
}
