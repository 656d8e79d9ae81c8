-- What the code tells of the least solution of a source is what the source is answered on a scale; and answers come
-- with a whole text, which sources that are too long have already where only a front of them is known.
use Rattle.std.proofs.Common.{◌≡◌, ◌∙◌, refl, sym, ap, subst, true, ℕ, ◌<◌, ◌≤◌, ◌^◌, List, [], ◌∷◌, ◌++◌, length, map, arith}
use Rattle.std.proofs.Common.{length-append, Vec, Option, inl, inr, ◌⊎◌, ◌+◌}
use Rattle.std.specs.Io.KnownBytes.{IsAtEnd}
use Rattle.std.specs.declared.alloc.Global.{Global}
use Rattle.tm_terms.specs.declared.refusals.Refusal.{Refusal}
use Rattle.tm_laid.specs.declared.scales.Scale.{Scale}
use Rattle.tm_laid.specs.Layouts.{LaidTree}
use Rattle.worker_solutions.specs.program_equations.Programs.{ProgramBodies, IsProgram}
use Rattle.worker_solutions.specs.program_solutions.post_recheck.Pairs.{Pair}
use Rattle.worker_solutions.specs.program_solutions.LeastReports.{IsLeastPair}
use Rattle.worker_solutions.specs.program_equations.Solutions.{tables_of}
use Rattle.access_groups.specs.declared.object_access.AccessGroup.{AccessGroup}
use Rattle.access_groups.proofs.One.{grouped_alarms}
use Rattle.access_partners.specs.declared.details.AccessDetails.{AccessDetails}
use Rattle.access_partners.specs.Partners.{AreAllDetails}
use Rattle.alarm_contexts.specs.declared.alarm_context.AlarmContexts.{AlarmContexts}
use Rattle.alarm_contexts.proofs.One.{report_alarms, no_races}
use Rattle.request_circles.specs.declared.rings.Ring.{Ring}
use Rattle.request_circles.specs.Rings.{ring_places}
use Rattle.source_programs.specs.LaidSources.{longest_on, IsLaidSourceOn}
use Rattle.source_programs.specs.Sources.{IsAcceptedOn, IsRefusedOn}
use Rattle.source_programs.specs.Sources.IsRefusedOn.{too_long, not_lexed, not_parsed, not_typed, not_laid}
use Rattle.source_programs.specs.Sources.IsRefusedOn.{not_prepared}
use Rattle.source_programs.proofs.Accepted.{accepted_is_program}
use Rattle.sound_core.proofs.GroupedAccesses.{accesses_listed}
use Rattle.sound_core.proofs.Rings.{ring_listed}
use Rattle.sound_core.proofs.ToldStops.{stops_listed}
use Rattle.sound_notes.proofs.Told.{operands_listed}
use Rattle.sound_notes.proofs.Always.{always_ends}
use Rattle.sound_notes.proofs.Locked.{locks_stop}
use Rattle.program_streams.specs.declared.statuses.Status.{Status}
use Rattle.program_streams.specs.declared.statuses.Status.TheVariants.{NoAlarm, Alarms, Refused, Usage, ReadFault}
use Rattle.program_streams.specs.declared.statuses.Status.TheVariants.{WriteFault, NoMemory}
use Rattle.program_streams.specs.Statuses.{IsWhole}
use Rattle.source_findings.specs.Findings.{SolvesOn, FindsRangesOn}
use Rattle.value_ranges.specs.declared.object_bounds.ObjectBounds.{ObjectBounds}
use Rattle.value_ranges.specs.Ranges.{AreRanges, AreCellRanges}
use Rattle.value_ranges.specs.Places.{AreDead}
use Rattle.sound_core.proofs.Within.{within, within_cells}
use Rattle.sound_core.proofs.Reached.{never_listed}
use Rattle.tm_terms.specs.declared.alarms.Alarm.{Alarm}
use Rattle.tm_terms.specs.declared.places.Place.{Place}
use Rattle.lock_waits.specs.Waits.{AreRings}
use Rattle.access_groups.specs.Groups.{AreGroups}
use Rattle.alarm_contexts.specs.Contexts.{AreContexts, alarm_of}
use Rattle.program_reports.specs.Reports.{IsReport}
use Rattle.program_notes.specs.AlarmTexts.{other_alarms}
use Rattle.program_notes.proofs.Paired.{paired}
use Rattle.program_notes.specs.declared.declarations.Declared.{Declared}
use Rattle.certificate_check.proofs.Sourced.{comes_from, lists_all}
use Rattle.note_lines.specs.Names.{task_names, task_priorities, mutex_names, object_names}
use Rattle.note_lines.specs.RingTexts.{rings_text}
use Rattle.note_lines.specs.RaceTexts.{groups_text}
use Rattle.note_lines.specs.AlarmTexts.{alarms_text}
use Rattle.note_lines.specs.CauseTexts.{causes_text}
use Rattle.program_notes.specs.Operations.{operation_of}
use Rattle.note_lines.specs.declared.names.Names.{Names}
use Rattle.source_notes.specs.declared.answers.Note.{Note}
use Rattle.source_notes.specs.declared.answers.Note.TheVariants.{Report, Rings, Races, Alarms as Others, Causes}
use Rattle.source_notes.specs.declared.answers.Note.TheVariants.{Whole, Assumptions, Parts}
use Rattle.source_notes.specs.Notes.{rings_status, races_status, alarms_status, TellsRings, TellsRaces, TellsAlarms}
use Rattle.source_notes.specs.Notes.{FindsRings, FindsRaces, FindsAlarms, FindsReport, FindsDetails, FindsCells}
use Rattle.source_notes.specs.Notes.{Declares, TellsCauses, TellsNotes}
use Rattle.source_notes.specs.Notes.{report_status, TellsReport, TellsParts, Tells, HasNotes}
use Rattle.source_notes.specs.PartTexts.{Part}
use Rattle.source_notes.specs.reading.Told.{TellsRingsOf, TellsRacesOf, TellsAlarmsOf, TellsCausesOf, TellsNotesOf}
use Rattle.source_notes.specs.reading.PartsTold.{TellsReportOf, TellsPartsOf, TellsOf, is_assuming}
use Rattle.source_assumptions.specs.declared.replies.Opened.{Opened}
use Rattle.source_assumptions.specs.Lists.{TellsAssumptions, HaveEdges, choices_status}
use Rattle.source_assumptions.specs.reading.Told.{IsOpened, TellsAssumptionsOf}
use Rattle.source_assumptions.proofs.Listed.{assumptions_found}
use Rattle.text_choices.specs.declared.kinds.Choice.{Choice}
use Rattle.flow_graph.specs.declared.graphs.Graph.{Graph}
use Rattle.source_findings.proofs.Told.{waits_told, ranges_told}

-- a part of which more is told
of_part : {A B : Status → List ℕ → Type 0} → ((status : Status) (text : List ℕ) → A status text → B status text)
    → Part A → Part B
of_part f q = record { status = q.status; text = q.text; told = f q.status q.text q.told }

module _ (scale : Scale) (bytes : List ℕ) (p : ProgramBodies) (a : IsAcceptedOn scale [] bytes p)
    (few : length a.laid.objects ≤ 2 ^ 32) (pair : Pair) (least : IsLeastPair p pair) where
  solves : SolvesOn scale bytes
  solves = record { program = p; accepted = a; pair = pair; least = least }

  is : IsProgram p
  is = accepted_is_program scale [] bytes p a

  -- what each part promises of runs
  rings_found : (rings : List Ring) → AreRings p (tables_of pair.tables) rings → FindsRings scale bytes rings
  unfolding solves
  rings_found rings are = record {
    solves = solves;
    are = are;
    blocked = λ w reached tasks ring. ring_listed a.laid p (comes_from scale [] bytes p a) is few pair.tables pair.store
        least.solution (ring_places rings) are.places w reached tasks ring;
  }

  races_found : (groups : List AccessGroup) → AreGroups p (tables_of pair.tables) groups → FindsRaces scale bytes groups
  unfolding solves
  races_found groups are = record {
    solves = solves;
    are = are;
    listed = accesses_listed a.laid p (comes_from scale [] bytes p a) is few pair.tables pair.store least.solution
        groups are;
    alarmed = λ report r place. grouped_alarms p (tables_of pair.tables) groups are place report r;
  }

  -- the program of the solution is the one at hand
  alarms_found : (alarms : List AlarmContexts) → AreContexts p (tables_of pair.tables) alarms
      → FindsAlarms scale bytes alarms
  unfolding solves
  alarms_found alarms are = record {
    solves = solves;
    are = are;
    listed = stops_listed a.laid p (comes_from scale [] bytes p a) is few pair.tables pair.store least.solution alarms
        are;
    operands = operands_listed a.laid p (comes_from scale [] bytes p a) is few pair.tables pair.store least.solution
        alarms are;
    ends = always_ends a.laid p (comes_from scale [] bytes p a) is few pair.tables pair.store least.solution alarms are;
    stops = λ told. locks_stop a.laid p (comes_from scale [] bytes p a) is few pair.tables pair.store least.solution
        told;
    alarmed = λ report r place class other.
        report_alarms p (tables_of pair.tables) report alarms r are place class other;
  }

  -- the report lists each error that occurs in a run
  report_found : (report : List Alarm) → IsReport p (tables_of pair.tables) report → FindsReport scale bytes report
  unfolding solves
  report_found report exact = record {
    solves = solves;
    is = exact;
    lists = lists_all scale [] bytes p a few pair.tables pair.store least.solution report exact;
  }

  paired_found : (alarms : List AlarmContexts) (report : List Alarm) → AreContexts p (tables_of pair.tables) alarms
      → IsReport p (tables_of pair.tables) report → map alarm_of alarms ≡ other_alarms report
  paired_found alarms report are r =
      paired alarms report are.sorted r.sorted (λ place class other.
      report_alarms p (tables_of pair.tables) report alarms r are place class other)
      (λ place. no_races p (tables_of pair.tables) alarms are place)

  ranges_found : (bounds : List ObjectBounds) (dead : List Place)
      → AreRanges p (tables_of pair.tables) pair.store bounds → AreDead p (tables_of pair.tables) dead
      → FindsRangesOn scale bytes bounds dead
  unfolding solves
  ranges_found bounds dead ranges places = record {
    solves = solves;
    ranges = ranges;
    places = places;
    within = λ w reached object cell n h. within a.laid p (comes_from scale [] bytes p a) is few pair.tables pair.store
        least.solution bounds ranges w reached object cell n h;
    nowhere = λ w reached place has body may acts. never_listed a.laid p (comes_from scale [] bytes p a) is few
        pair.tables pair.store least.solution w reached dead places place has body may acts;
  }

  -- the bounds of cells
  cells_found : (bounds : List (Option ObjectBounds))
      → AreCellRanges p (tables_of pair.tables) pair.store bounds → FindsCells scale bytes bounds
  unfolding solves
  cells_found bounds are = record {
    solves = solves;
    are = are;
    within = λ w reached object cell n h. within_cells a.laid p (comes_from scale [] bytes p a) is few pair.tables
        pair.store least.solution bounds are w reached object cell n h;
  }

  details_found : (groups : List AccessGroup) (details : List (Vec AccessDetails Global))
      → AreAllDetails p (tables_of pair.tables) groups details → FindsDetails scale bytes groups details
  unfolding solves
  details_found groups details are = record { solves = solves; are = are }

  module _ (laid : LaidTree) (of : IsLaidSourceOn scale bytes laid) (names : Names) (are_tasks : names.tasks.items
      ≡ task_names laid) (are_priorities : names.priorities.items ≡ task_priorities laid) (are_mutexes
      : names.mutexes.items ≡ mutex_names laid) (are_objects : names.objects.items ≡ object_names laid)
      (declared : Declared) (declares : Declares laid declared) (graphs : List Graph) (edges : HaveEdges p graphs)
      (opened : Opened) where
    rings_told : (status : Status) (text : List ℕ)
        → TellsRingsOf p bytes names.tasks.items names.mutexes.items pair status text
        → TellsRings scale bytes status text
    rings_told status text t = record {
      rings = t.rings;
      finds = rings_found t.rings t.are;
      comes = t.comes;
      laid = laid;
      of = of;
      is = t.is ∙ ap (λ ts. rings_text bytes ts names.mutexes.items t.rings) are_tasks
          ∙ ap (λ ms. rings_text bytes (task_names laid) ms t.rings) are_mutexes;
    }

    races_told : (status : Status) (text : List ℕ)
        → TellsRacesOf p bytes names.objects.items names.tasks.items names.mutexes.items pair status text
        → TellsRaces scale bytes status text
    races_told status text t = record {
      groups = t.groups;
      finds = races_found t.groups t.are;
      comes = t.comes;
      laid = laid;
      of = of;
      is = t.is ∙ ap (λ os. groups_text bytes os names.tasks.items names.mutexes.items t.groups) are_objects
          ∙ ap (λ ts. groups_text bytes (object_names laid) ts names.mutexes.items t.groups) are_tasks
          ∙ ap (λ ms. groups_text bytes (object_names laid) (task_names laid) ms t.groups) are_mutexes;
    }

    alarms_told : (status : Status) (text : List ℕ) → TellsAlarmsOf p bytes names pair status text
        → TellsAlarms scale bytes status text
    unfolding solves alarms_found
    alarms_told status text t = record {
      alarms = t.alarms;
      finds = alarms_found t.alarms t.are;
      comes = t.comes;
      laid = laid;
      of = of;
      is = t.is ∙ ap (λ os. alarms_text bytes os names.tasks.items names.priorities.items names.mutexes.items
          (operation_of p) t.alarms) are_objects
          ∙ ap (λ ts. alarms_text bytes (object_names laid) ts names.priorities.items names.mutexes.items
          (operation_of p) t.alarms) are_tasks
          ∙ ap (λ ps. alarms_text bytes (object_names laid) (task_names laid) ps names.mutexes.items
          (operation_of p) t.alarms) are_priorities
          ∙ ap (λ ms. alarms_text bytes (object_names laid) (task_names laid) (task_priorities laid) ms
          (operation_of p) t.alarms) are_mutexes;
    }

    causes_told : (status : Status) (text : List ℕ) → TellsCausesOf p bytes names pair status text
        → TellsCauses scale bytes status text
    unfolding solves alarms_found
    causes_told status text t = record {
      alarms = t.alarms;
      finds = alarms_found t.alarms t.are;
      groups = t.groups;
      raced = races_found t.groups t.grouped;
      advices = t.advices;
      advised = t.advised;
      comes = t.comes;
      laid = laid;
      of = of;
      is = t.is
          ∙ ap (λ os. causes_text bytes os names.tasks.items (operation_of p) t.alarms t.advices) are_objects
          ∙ ap (λ ts. causes_text bytes (object_names laid) ts (operation_of p) t.alarms t.advices) are_tasks;
    }

    notes_told : (status : Status) (text : List ℕ) → TellsNotesOf p bytes declared pair status text
        → TellsNotes scale bytes status text
    unfolding solves alarms_found
    notes_told status text t =
        let are = t.are in
        let c = t.contents in
        let r = c.ranges in
        let report = c.report in
        record {
          contents = c;
          finds = record {
            report = report_found report.alarms.items are.report;
            others = alarms_found c.others.items are.others;
            paired = paired_found c.others.items report.alarms.items are.others are.report;
            groups = races_found c.groups.items are.groups;
            accesses = details_found c.groups.items c.accesses.items are.accesses;
            raced = are.raced;
            cells = cells_found c.cells.items are.cells;
            ranges = ranges_found r.bounds.items r.dead.items are.bounds are.dead;
          };
          comes = t.comes;
          laid = laid;
          of = of;
          declared = declared;
          declares = declares;
          is = t.is;
        }

    report_told : (status : Status) (text : List ℕ) → TellsReportOf p pair status text
        → TellsReport scale bytes status text
    report_told status text t = record {
      report = t.report;
      finds = report_found t.report t.are;
      comes = t.comes;
      is = t.is;
    }

    assumptions_told : IsOpened bytes laid graphs opened → (status : Status) (text : List ℕ)
        → TellsAssumptionsOf p opened.others.items opened.origins.items pair status text
        → TellsAssumptions scale bytes status text
    assumptions_told read status text t = record {
      choices = t.choices;
      finds = assumptions_found scale bytes p a few pair least laid of graphs edges opened read status text t;
      comes = t.comes;
      is = t.is;
    }

    parts_told : IsOpened bytes laid graphs opened → (status : Status) (text : List ℕ)
        → TellsPartsOf p bytes names declared opened pair status text → TellsParts scale bytes status text
    unfolding of_part
    parts_told read status text t = record {
      report = of_part report_told t.report;
      waits = of_part (waits_told scale bytes p a few pair least) t.waits;
      ranges = of_part (ranges_told scale bytes p a few pair least) t.ranges;
      rings = of_part rings_told t.rings;
      races = of_part races_told t.races;
      alarms = of_part alarms_told t.alarms;
      causes = of_part causes_told t.causes;
      notes = of_part notes_told t.notes;
      assumptions = of_part (assumptions_told read) t.assumptions;
      comes = t.comes;
      is = t.is;
    }

    -- the status is one of the two
    rings_by : (rings : List Ring) (status : Status) (text : List ℕ) → status ≡ rings_status rings
        → TellsRings scale bytes status text → HasNotes scale Rings bytes status text
    rings_by [] status text e t =
        subst (λ s. TellsRings scale bytes s text → HasNotes scale Rings bytes s text) (sym e) (λ u. u) t
    rings_by (ring ∷ rings) status text e t =
        subst (λ s. TellsRings scale bytes s text → HasNotes scale Rings bytes s text) (sym e) (λ u. u) t

    races_by : (groups : List AccessGroup) (status : Status) (text : List ℕ) → status ≡ races_status groups
        → TellsRaces scale bytes status text → HasNotes scale Races bytes status text
    races_by [] status text e t =
        subst (λ s. TellsRaces scale bytes s text → HasNotes scale Races bytes s text) (sym e) (λ u. u) t
    races_by (group ∷ groups) status text e t =
        subst (λ s. TellsRaces scale bytes s text → HasNotes scale Races bytes s text) (sym e) (λ u. u) t

    alarms_by : (alarms : List AlarmContexts) (status : Status) (text : List ℕ) → status ≡ alarms_status alarms
        → TellsAlarms scale bytes status text → HasNotes scale Others bytes status text
    alarms_by [] status text e t =
        subst (λ s. TellsAlarms scale bytes s text → HasNotes scale Others bytes s text) (sym e) (λ u. u) t
    alarms_by (alarm ∷ alarms) status text e t =
        subst (λ s. TellsAlarms scale bytes s text → HasNotes scale Others bytes s text) (sym e) (λ u. u) t

    report_by : (report : List Alarm) (status : Status) (text : List ℕ) → status ≡ report_status report
        → TellsReport scale bytes status text → HasNotes scale Report bytes status text
    report_by [] status text e t =
        subst (λ s. TellsReport scale bytes s text → HasNotes scale Report bytes s text) (sym e) (λ u. u) t
    report_by (alarm ∷ report) status text e t =
        subst (λ s. TellsReport scale bytes s text → HasNotes scale Report bytes s text) (sym e) (λ u. u) t

    causes_by : (alarms : List AlarmContexts) (status : Status) (text : List ℕ) → status ≡ alarms_status alarms
        → TellsCauses scale bytes status text → HasNotes scale Causes bytes status text
    causes_by [] status text e t =
        subst (λ s. TellsCauses scale bytes s text → HasNotes scale Causes bytes s text) (sym e) (λ u. u) t
    causes_by (alarm ∷ alarms) status text e t =
        subst (λ s. TellsCauses scale bytes s text → HasNotes scale Causes bytes s text) (sym e) (λ u. u) t

    notes_by : (report : List Alarm) (status : Status) (text : List ℕ) → status ≡ report_status report
        → TellsNotes scale bytes status text → HasNotes scale Whole bytes status text
    notes_by [] status text e t =
        subst (λ s. TellsNotes scale bytes s text → HasNotes scale Whole bytes s text) (sym e) (λ u. u) t
    notes_by (alarm ∷ report) status text e t =
        subst (λ s. TellsNotes scale bytes s text → HasNotes scale Whole bytes s text) (sym e) (λ u. u) t

    assumptions_by : (choices : List Choice) (status : Status) (text : List ℕ) → status ≡ choices_status choices
        → TellsAssumptions scale bytes status text → HasNotes scale Assumptions bytes status text
    assumptions_by [] status text e t =
        subst (λ s. TellsAssumptions scale bytes s text → HasNotes scale Assumptions bytes s text) (sym e) (λ u. u) t
    assumptions_by (choice ∷ choices) status text e t =
        subst (λ s. TellsAssumptions scale bytes s text → HasNotes scale Assumptions bytes s text) (sym e) (λ u. u) t

    parts_by : (report : List Alarm) (status : Status) (text : List ℕ) → status ≡ report_status report
        → TellsParts scale bytes status text → HasNotes scale Parts bytes status text
    parts_by [] status text e t =
        subst (λ s. TellsParts scale bytes s text → HasNotes scale Parts bytes s text) (sym e) (λ u. u) t
    parts_by (alarm ∷ report) status text e t =
        subst (λ s. TellsParts scale bytes s text → HasNotes scale Parts bytes s text) (sym e) (λ u. u) t

    pub told : (n : Note) → (is_assuming n ≡ true → IsOpened bytes laid graphs opened) → (status : Status)
        (text : List ℕ) → TellsOf n p bytes names declared opened pair status text → HasNotes scale n bytes status text
    told Report read status text t = report_by t.report status text t.comes (report_told status text t)
    told Rings read status text t = rings_by t.rings status text t.comes (rings_told status text t)
    told Races read status text t = races_by t.groups status text t.comes (races_told status text t)
    told Others read status text t = alarms_by t.alarms status text t.comes (alarms_told status text t)
    told Causes read status text t = causes_by t.alarms status text t.comes (causes_told status text t)
    told Whole read status text t =
        let c = t.contents in let r = c.report in notes_by r.alarms.items status text t.comes (notes_told status text t)
    told Assumptions read status text t =
        assumptions_by t.choices status text t.comes (assumptions_told (read refl) status text t)
    told Parts read status text t =
        let q = t.report in
        let r = q.told in
        parts_by r.report status text (t.comes ∙ r.comes) (parts_told (read refl) status text t)

-- ## Whole texts

pub notes_are_whole : (scale : Scale) (n : Note) (bytes : List ℕ) (status : Status) (text : List ℕ)
    → HasNotes scale n bytes status text → IsWhole status
notes_are_whole scale n bytes NoAlarm text h = tt
notes_are_whole scale n bytes Alarms text h = tt
notes_are_whole scale n bytes Refused text h = tt
notes_are_whole scale n bytes Usage text h = absurd h
notes_are_whole scale n bytes ReadFault text h = absurd h
notes_are_whole scale n bytes WriteFault text h = absurd h
notes_are_whole scale n bytes NoMemory text h = absurd h

-- ## Sources that are too long

-- what is read up to one byte more than this number is read to its end, or past the number
pub past_number : (longest most n : ℕ) (left' : Option (List ℕ)) → most ≡ longest + 1
    → IsAtEnd left' ⊎ (most ≤ n) → IsAtEnd left' ⊎ (longest < n)
past_number longest most n left' one-more (inl end) = inl end
past_number longest most n left' one-more (inr many) = inr (omega (arith, one-more, many))

longer_refused : (scale : Scale) (bytes more : List ℕ) (refusal : Refusal) → longest_on scale < length bytes
    → IsRefusedOn scale bytes refusal → IsRefusedOn scale (bytes ++ more) refusal
longer_refused scale bytes more refusal h (too_long k) = too_long (omega (arith, length-append bytes more))
longer_refused scale bytes more refusal h (not_lexed k l) = absurd (omega arith)
longer_refused scale bytes more refusal h (not_parsed k l q) = absurd (omega arith)
longer_refused scale bytes more refusal h (not_typed k l t) = absurd (omega arith)
longer_refused scale bytes more refusal h (not_laid k l t e) = absurd (omega arith)
longer_refused scale bytes more refusal h (not_prepared source e) =
    absurd (let k : length bytes ≤ longest_on scale = source.short in omega arith)

not_solved : (scale : Scale) (bytes : List ℕ) → longest_on scale < length bytes → SolvesOn scale bytes → ⊥
not_solved scale bytes long s =
    let accepted = s.accepted in
    let source = accepted.source in
    let short : length bytes ≤ longest_on scale = source.short in
    omega (arith, long, short)

solved_by : (scale : Scale) (n : Note) (bytes : List ℕ) (status : Status) (text : List ℕ)
    → Tells scale n bytes status text → SolvesOn scale bytes
solved_by scale Report bytes status text t = (let f = t.finds in f.solves)
solved_by scale Rings bytes status text t = (let f = t.finds in f.solves)
solved_by scale Races bytes status text t = (let f = t.finds in f.solves)
solved_by scale Others bytes status text t = (let f = t.finds in f.solves)
solved_by scale Causes bytes status text t = (let f = t.finds in f.solves)
solved_by scale Whole bytes status text t = (let f = t.finds in let r = f.report in r.solves)
solved_by scale Assumptions bytes status text t = (let f = t.finds in f.solves)
solved_by scale Parts bytes status text t = (let q = t.report in let r = q.told in let f = r.finds in f.solves)

pub longer_notes : (scale : Scale) (n : Note) (bytes more : List ℕ) → longest_on scale < length bytes
    → (status : Status) (text : List ℕ) → HasNotes scale n bytes status text
    → HasNotes scale n (bytes ++ more) status text
longer_notes scale n bytes more long NoAlarm text h =
    absurd (not_solved scale bytes long (solved_by scale n bytes NoAlarm text h))
longer_notes scale n bytes more long Alarms text h =
    absurd (not_solved scale bytes long (solved_by scale n bytes Alarms text h))
longer_notes scale n bytes more long Refused text h = (h.0, longer_refused scale bytes more h.0 long h.1, h.2)
longer_notes scale n bytes more long Usage text h = absurd h
longer_notes scale n bytes more long ReadFault text h = absurd h
longer_notes scale n bytes more long WriteFault text h = absurd h
longer_notes scale n bytes more long NoMemory text h = absurd h
