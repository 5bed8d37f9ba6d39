-- The status and the line for each way in which the work ends.
use Rattle.std.specs.Prelude.{ℕ, List, [], ◌∷◌, Option}
use Rattle.fc_build.specs.declared.deliver.Delivery.{Delivery}
use Rattle.fc_build.specs.declared.deliver.Delivery.TheVariants as delivery
use Rattle.fc_build.specs.declared.prepare.Stop.{Stop}
use Rattle.fc_build.specs.declared.prepare.Stop.TheVariants as stop
use Rattle.fc_build.specs.Lines.{Gets, memory_line, read_fault_line, usage_line, write_fault_line}
use Rattle.fc_build.specs.Run.{IsSilent}

abbrev pub stop_status : Stop → ℕ
stop_status (stop.Refused line) = 1
stop_status stop.Usage = 2
stop_status (stop.ReadFault name) = 3
stop_status stop.Memory = 5

abbrev pub stop_line : Stop → List ℕ
stop_line (stop.Refused line) = line.items
stop_line stop.Usage = usage_line
stop_line (stop.ReadFault name) = read_fault_line name.now
stop_line stop.Memory = memory_line

abbrev pub delivery_status : Delivery → ℕ
delivery_status delivery.Done = 0
delivery_status (delivery.WriteFault name) = 4
delivery_status delivery.PutFault = 4
delivery_status delivery.Memory = 5

-- what the error stream gets: nothing where all is done
abbrev pub TellsDelivery : Delivery → ℕ → ℕ → Option (List ℕ) → Option (List ℕ) → Type 0
TellsDelivery delivery.Done faults faults' err err' = IsSilent err err' faults faults'
TellsDelivery (delivery.WriteFault name) faults faults' err err' = Gets (write_fault_line name.now) faults faults' err err'
TellsDelivery delivery.PutFault faults faults' err err' = Gets (write_fault_line (45 ∷ [])) faults faults' err err'
TellsDelivery delivery.Memory faults faults' err err' = Gets memory_line faults faults' err err'
