-- What the program says of an input. Assumes nothing.
use Rattle.std.specs.Prelude.{ℕ, List, ◌++◌, codes, decimal}
use Rattle.rent_input.specs.declared.faults.Wrong.{Wrong}
use Rattle.rent_input.specs.declared.faults.Wrong.TheVariants.{Missing, NotANumber, Surplus}
use Rattle.rent_input.specs.declared.faults.Fault.{Fault}
use Rattle.rent_input.specs.declared.faults.Failure.{Failure}
use Rattle.rent_input.specs.declared.faults.Failure.TheVariants.{Unreadable, NoMemory}
use Rattle.rent_input.specs.declared.report.Report.{Report}

abbrev pub wrong_text : Wrong → List ℕ
wrong_text (Missing place) = codes "field " ++ (decimal place ++ codes " is missing")
wrong_text (NotANumber place) = codes "field " ++ (decimal place ++ codes " is not a number of at most eleven digits")
wrong_text (Surplus place) = codes "field " ++ (decimal place ++ codes " is one too many")

abbrev pub fault_text : Fault → List ℕ
fault_text fault = codes "line " ++ (decimal fault.line ++ (codes ": " ++ wrong_text fault.wrong))

abbrev pub failure_text : Failure → List ℕ
failure_text (Unreadable fault) = codes "unreadable: " ++ fault_text fault
failure_text NoMemory = codes "out of memory"

abbrev pub report_text : Report → List ℕ
report_text report = codes "hours " ++ (decimal report.hours ++ (codes "\nabove " ++ (decimal report.above ++ (codes "\nrent " ++ decimal report.rent))))
