-- The round trips, put together.
use Rattle.roundtrips.specs.RoundTrips.{RoundTrips}
use Rattle.roundtrips.proofs.ReadBack.{read_back}
use Rattle.roundtrips.proofs.WriteBack.{write_back}
use Rattle.roundtrips.proofs.Calls.{read_calls_lem, write_calls_lem}

pub round_trips : RoundTrips
round_trips = record { read = read_back; write = write_back; read_calls = read_calls_lem; write_calls = write_calls_lem }
