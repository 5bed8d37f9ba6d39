-- What a stream of the system writes into.
use Rattle.fc_files.specs.declared.host.HostSink.{HostSink}

-- the writer below a stream of the system
abbrev pub writer_of : {W : Type 0} → HostSink W → W
writer_of s = s.to
