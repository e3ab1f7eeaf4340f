-- What ends a command before it is done, with the report.
use Rattle.std.specs.Prelude.{◌≡◌, ◌++◌, ℕ, List, codes}
use Rattle.eds_base.specs.Faults.{reason_name}
use Rattle.eds_base.specs.declared.fault.Reason.{Reason}
use Rattle.eds_base.specs.declared.fault.Step.{Step}
use Rattle.eds_base.specs.declared.refusal.Refusal.{Refusal}
use Rattle.eds_host.specs.declared.wiring.HostFail.{HostFail}
use Rattle.eds_replay.specs.declared.differs.Differs.{Differs}
use Rattle.eds_script.specs.declared.why.BadLine.{BadLine}
use Rattle.eds_types.specs.declared.reason.PackReason.{PackReason}
use Rattle.eds_types.specs.Reasons as pack_reasons
use Rattle.eds_types.specs.Rows.{Table}
use Rattle.eds_value.specs.declared.fail.ValueFail.{ValueFail}
use Rattle.eds_value.specs.declared.fail.ValueFail.TheVariants.{NotJson, WrongShape}
use Rattle.eds_value.specs.Paths.{path_text}
use Rattle.eds_cmd.specs.declared.status.Status.{Status}
use Rattle.eds_cmd.specs.declared.status.Status.TheVariants as statuses
use Rattle.eds_cmd.specs.declared.status.DataFault.TheVariants as faults
use Rattle.eds_cmd.specs.declared.status.What.{What}
use Rattle.eds_cmd.specs.declared.status.What.TheVariants.{Deliveries}
use Rattle.eds_cmd.specs.declared.stop.Cause.{Cause}
use Rattle.eds_cmd.specs.declared.stop.Cause.TheVariants.{Sheet as Refused, Data, Limit, NoFile}
use Rattle.eds_cmd.specs.declared.stop.Stop.{Stop}
use Rattle.eds_cmd.specs.Reports.{bad_line_line, deliveries_line, differs_line, fault_line, limit_line, line_why_text, no_file_line, packet_fault_line, refusal_line, wire_why_text}

-- the status of a command that ends for this cause
abbrev pub status_of : Cause → Status
status_of (Refused refusal) = statuses.Sheet refusal
status_of (Data fault) = statuses.Data fault
status_of (Limit what most) = statuses.Limit what most
status_of (NoFile name) = statuses.NoFile name

-- the status and the report are those of a stop
pub record IsStop (stop : Stop) (status : Status) (report : List ℕ) : Type 0 where
  pub status_is : status ≡ status_of stop.cause
  pub report_is : report ≡ stop.report

-- there is no file of that name
abbrev pub missing : List ℕ → Stop
missing name = record { cause = NoFile name; report = no_file_line name }

-- a limit is passed, whose most is this number
abbrev pub limited : What → ℕ → Stop
limited what most = record { cause = Limit what most; report = limit_line what most }

-- the sheet breaks a rule
abbrev pub refused : Refusal → Stop
refused refusal = record { cause = Refused refusal; report = refusal_line refusal }

-- the text of a frame is no hex
abbrev pub bad_hex : Stop
bad_hex = record { cause = Data faults.Hex; report = fault_line (codes "BadHex") (codes "$") }

-- the text of a value gives none of its type
abbrev pub value_fault : Table → ValueFail → Stop
value_fault t NotJson = record { cause = Data (faults.Json NotJson); report = fault_line (codes "NotJson") (codes "$") }
value_fault t (WrongShape path) = record { cause = Data (faults.Json (WrongShape path)); report = fault_line (codes "WrongShape") (path_text t path) }

-- a value of the table can't be packed, for this reason at this path
abbrev pub pack_fault : Table → PackReason → List Step → Stop
pack_fault t reason path = record {
  cause = Data (faults.Pack (record { reason = reason; path = path; need = 0 }));
  report = fault_line (pack_reasons.reason_name reason) (path_text t path);
}

-- a frame can't be read as a value of the table, for this reason at this path
abbrev pub frame_fault : Table → Reason → List Step → Stop
frame_fault t reason path = record {
  cause = Data (faults.Frame (record { reason = reason; path = path }));
  report = fault_line (reason_name reason) (path_text t path);
}

-- the packet of a number can't be read as a value of the table, for this reason at this path
abbrev pub packet_fault : Table → (packet : ℕ) → Reason → List Step → Stop
packet_fault t packet reason path = record {
  cause = Data (faults.Packet packet (record { reason = reason; path = path }));
  report = packet_fault_line (reason_name reason) (path_text t path) packet;
}

-- a line of a script means nothing
abbrev pub bad_line : BadLine → Stop
bad_line bad = record { cause = Data (faults.Line bad); report = bad_line_line bad.line (line_why_text bad.why) }

-- a wire of a script ties nothing
abbrev pub bad_wire : HostFail → Stop
bad_wire fail = record { cause = Data (faults.Wire fail); report = bad_line_line fail.line (wire_why_text fail.why) }

-- a line of a script is a storm, behind the lines of these events
abbrev pub storm : (events : List ℕ) → (line : ℕ) → Stop
storm events line = record { cause = Limit Deliveries line; report = events ++ deliveries_line line }

-- a recording and what left the run don't agree
abbrev pub differing : Differs → Stop
differing d = record { cause = Data (faults.Differs d); report = differs_line d.line d.want d.got }
