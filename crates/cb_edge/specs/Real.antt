-- What contracts see of the real outside: the counts of faults.
use Rattle.std.specs.Prelude.{ℕ}
use Rattle.cb_edge.specs.declared.real.RealFiles.{RealFiles}
use Rattle.cb_edge.specs.declared.real.RealSink.{RealSink}

abbrev pub files_faults : {R : Type 0} → RealFiles R → ℕ
files_faults files = files.faults

abbrev pub sink_faults : {W : Type 0} → RealSink W → ℕ
sink_faults sink = sink.faults
