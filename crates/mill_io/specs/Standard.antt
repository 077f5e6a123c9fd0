-- What a source and a sink over std show: the reader or writer, the bytes that passed, and the
-- count of faults.
use Rattle.std.specs.Prelude.{ℕ, List, IsTrue}
use Rattle.mill_io.specs.declared.standard.StdSource.{StdSource}
use Rattle.mill_io.specs.declared.standard.StdSink.{StdSink}

abbrev pub reader_of : {R : Type 0} → StdSource R → R
reader_of source = source.inner

-- the bytes that its reads gave so far
abbrev pub bytes_given : {R : Type 0} → StdSource R → List ℕ
bytes_given source = source.given.bytes

-- its last read found the end
abbrev pub HasEnded : {R : Type 0} → StdSource R → Type 0
HasEnded source = IsTrue source.ended

abbrev pub read_faults : {R : Type 0} → StdSource R → ℕ
read_faults source = source.faults

abbrev pub writer_of : {W : Type 0} → StdSink W → W
writer_of sink = sink.inner

-- the bytes that its writer took so far
abbrev pub bytes_taken : {W : Type 0} → StdSink W → List ℕ
bytes_taken sink = sink.taken.bytes

abbrev pub write_faults : {W : Type 0} → StdSink W → ℕ
write_faults sink = sink.faults
