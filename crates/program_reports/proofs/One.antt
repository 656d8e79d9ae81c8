-- Tables that agree have one report.
use Rattle.std.proofs.Common.{◌≡◌, ℕ, sym, ◌∙◌, List}
use Rattle.tm_cint.specs.declared.Class.{Class}
use Rattle.tm_terms.specs.declared.alarms.Alarm.{Alarm}
use Rattle.tm_terms.specs.declared.places.Place.{Place}
use Rattle.post_recheck.specs.transfer_rows.StateForms.{State}
use Rattle.post_recheck.specs.table_covers.Solutions.{NodeTable}
use Rattle.post_recheck.specs.program_equations.Programs.{ProgramBodies, IsProgram}
use Rattle.program_reports.specs.Reports.{IsReachedIn, IsFaulty, IsAccess, IsRacing, IsAlarm, IsReport}
use Rattle.program_reports.specs.Reports.IsAlarm.{faulty, racing}
use Rattle.program_reports.specs.Laws.{Agree}
use Rattle.program_reports.proofs.Lists.{equal_lists}

module _ (p : ProgramBodies) (is : IsProgram p) (one other : ℕ → NodeTable State) (agree : Agree p one other) where
  reached_too : (t k : ℕ) (s : State) → IsReachedIn p one t k s → IsReachedIn p other t k s
  reached_too t k s h =
      let copy = (is.each t h.body).body.copies k h.copy in record {
        body = h.body;
        copy = h.copy;
        state = sym (agree t _ h.body copy.from) ∙ h.state;
      }

  faulty_too : (place : Place) (class : Class) → IsFaulty p one place class → IsFaulty p other place class
  faulty_too place class h = record {
    body = h.body;
    copy = h.copy;
    state = h.state;
    reached = reached_too h.body h.copy h.state h.reached;
    listed = h.listed;
    placed = h.placed;
  }

  access_too : (t k cell : ℕ) → IsAccess p one t k cell → IsAccess p other t k cell
  access_too t k cell h = record {
    task = h.task;
    state = h.state;
    reached = reached_too t k h.state h.reached;
    target = h.target;
  }

  racing_too : (place : Place) → IsRacing p one place → IsRacing p other place
  racing_too place h =
      let r = h.racing in record {
        body = h.body;
        copy = h.copy;
        other_body = h.other_body;
        other_copy = h.other_copy;
        racing = record {
          tasks = r.tasks;
          cell = r.cell;
          one = access_too h.body h.copy r.cell r.one;
          other = access_too h.other_body h.other_copy r.cell r.other;
          writes = r.writes;
          apart = r.apart;
          forth = r.forth;
          back = r.back;
        };
        placed = h.placed;
      }

  pub alarm_too : (a : Alarm) → IsAlarm p one a → IsAlarm p other a
  alarm_too _ (faulty {place} {class} h) = faulty (faulty_too place class h)
  alarm_too _ (racing {place} h) = racing (racing_too place h)

pub one_report : (p : ProgramBodies) → IsProgram p → (one other : ℕ → NodeTable State) → Agree p one other
    → (report same : List Alarm) → IsReport p one report → IsReport p other same → report ≡ same
one_report p is one other agree report same h k =
    let back : Agree p other one = λ t n lt node. sym (agree t n lt node) in
    equal_lists report same h.sorted k.sorted
    (λ a has. (k.exact a).1 (alarm_too p is one other agree a ((h.exact a).0 has)))
    (λ a has. (h.exact a).1 (alarm_too p is other one back a ((k.exact a).0 has)))
