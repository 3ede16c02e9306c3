-- What serving the lines of an input leaves.
use Rattle.std.specs.Prelude.{◌≡◌, ℕ, List, Option}
use Rattle.silo_event.specs.declared.reply.Reply.{Reply}
use Rattle.grain_logic.specs.Logic.{Logic}
use Rattle.silo_model.specs.Opening.{Setup, start_of}
use Rattle.silo_model.specs.Run.{machine_run, restricted_to}
use Rattle.silo_model.specs.Whole.{shown_to}
use Rattle.lane_model.specs.Lanes.{Lane}
use Rattle.lane_model.specs.Serving.{AreServed}
use Rattle.silo_core.specs.History.{History}
use Rattle.line_parser.specs.declared.line.Line.{Line}
use Rattle.line_parser.specs.declared.line.LineRefusal.{LineRefusal}
use Rattle.line_text.specs.Gathered.{ReadsAll, StopsGathering}
use Rattle.line_text.specs.declared.calls.ReaderCalls.{ReaderCalls}
use Rattle.line_text.specs.declared.fault.LineFault.TheVariants as line
use Rattle.line_service.specs.Asked.{lanes_of, refusals_of}
use Rattle.worker_host.specs.SetupCopy.{AreAnswered}
use Rattle.worker_host.specs.declared.report.ServeFault.{ServeFault}
use Rattle.worker_host.specs.declared.report.ServeFault.TheVariants as serve
use Rattle.serve_command.specs.declared.fault.ServiceFault.{ServiceFault}
use Rattle.serve_command.specs.declared.fault.ServiceFault.TheVariants as service

-- The lanes were served: the silo was opened with this setup, each lane stands in its journal and has its answers, no step
-- failed, each client was told as often as its lane asks, and each tenant's part is the run of its own machine.
pub record LeavesServed (logic : Logic) (setup : Setup) (lanes : List Lane) (silo : History) (answers : List (List Reply)) : Type 0 where
  pub opened : silo.setup ≡ setup
  pub served : AreServed logic silo.setup lanes silo.journal silo.whole 0 0 answers
  pub told : AreAnswered lanes silo.whole.replies
  pub parts : (tenant : List ℕ) → shown_to tenant silo.whole ≡ machine_run logic (start_of silo.setup tenant)
      (restricted_to tenant silo.journal)

-- All of the input was read; the lines of no lane were refused, and the lanes of the others were served.
pub record IsServed (logic : Logic) (setup : Setup) (input : List ℕ) (left : Option (List ℕ)) (refusals : List LineRefusal)
    (silo : History) (answers : List (List Reply)) : Type 0 where
  pub lines : List Line
  pub read : ReadsAll input lines left
  pub refused : refusals ≡ refusals_of lines
  pub lanes : LeavesServed logic setup (lanes_of lines) silo answers

-- These are the lanes of an input of which all was read.
pub record AreLanesOf (input : List ℕ) (left : Option (List ℕ)) (lanes : List Lane) : Type 0 where
  pub lines : List Line
  pub read : ReadsAll input lines left
  pub gathered : lanes ≡ lanes_of lines

-- what becomes of a fault of serving lanes that were read
abbrev pub serving_fault : ServeFault → ServiceFault
serving_fault serve.Memory = service.Failed line.Memory
serving_fault serve.NoWorker = service.NoWorker
serving_fault serve.Strayed = service.Strayed

-- Why an input isn't served: reading all of its lines ended early, or serving them failed.
abbrev pub StopsServing : ServiceFault → Option (List ℕ) → ReaderCalls → Type 0
StopsServing (service.Failed why) input calls = StopsGathering why input calls
StopsServing service.NoWorker input calls = Unit {0}
StopsServing service.Strayed input calls = Unit {0}
